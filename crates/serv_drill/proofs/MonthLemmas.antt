-- The months and days of the year may be named.
use Rattle.std.proofs.Common.{◌≡◌, ℕ, ◌+◌, ◌*◌, ◌/◌, ◌%◌, ◌<◌, ◌≤◌, arith, sym, subst}
use Rattle.svc_base.specs.Calendar.{IsReadDay, year_of_month}
use Rattle.svc_base.specs.DayLemmas.{month_length_least}
use Rattle.svc_base.specs.Text.{IsReadMonth}
use Rattle.svc_types.specs.Requests.{IsReadTerms}
use Rattle.serv_drill.specs.Works.{december, terms_of}
use Rattle.std.proofs.lemmas.Int.{ints}

-- a day of a month, up to the 28th
pub day_read : (m d : ℕ) → d < 28 → IsReadMonth m → IsReadDay (31 * m + d)
day_read m d small h =
    let month : (31 * m + d) / 31 ≡ m = omega arith in
    let place : (31 * m + d) % 31 ≡ d = omega arith in
    let least = month_length_least ((31 * m + d) / 31) in
    record { exists = omega (arith, place, least); first = subst (λ k. 1990 ≤ year_of_month k) (sym month) h.first; last = subst (λ k. year_of_month k ≤ 2099) (sym month) h.last }

pub first_read : (m : ℕ) → IsReadMonth m → IsReadDay (31 * m)
first_read m h = let e : 31 * m + 0 ≡ 31 * m = omega arith in subst IsReadDay e (day_read m 0 (omega arith) h)

-- the months up to January 2025
pub month_read : (j : ℕ) → j ≤ 13 → IsReadMonth (december + j)
month_read j h = record { first = omega arith; last = omega arith }

pub terms_read : (n : ℕ) → IsReadTerms (terms_of n)
unfolding terms_of
terms_read n = record {
  boarded = day_read december 14 (omega arith) (record { first = omega arith; last = omega arith });
  principal = record { low = omega (arith, ints); high = omega (arith, ints) };
  rate = omega arith;
  fee = omega arith;
  pi = record { low = omega (arith, ints); high = omega (arith, ints) };
  term = omega arith;
  first = record { first = omega arith; last = omega arith };
  grace = omega arith;
  late = omega arith;
  cushion = omega arith;
  escrow = record { low = omega (arith, ints); high = omega (arith, ints) };
}
