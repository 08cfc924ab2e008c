use Rattle.std.proofs.Common.{◌≡◌, ◌<◌, take}
use Rattle.std.specs.Str.Parse.{AllDigits, digits_value}
use Rattle.svc_base.proofs.reading.parse_digits.Given as goal

-- the digits so far, and the number that they write
abbrev pub invariant-loop-byte : goal.invariant-loop-byte
invariant-loop-byte l = record {
  digits : AllDigits 10 (take l.byte-index l.text);
  number : l.number ≡ digits_value 10 (take l.byte-index l.text);
  small : l.number < 18_446_744_073_709_551_616;
}
