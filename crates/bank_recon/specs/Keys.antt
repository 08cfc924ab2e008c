-- The keys under which items are counted, and under which lines find their reasons.
use Rattle.std.specs.Prelude.{Bool, true, false}
use Rattle.custodial_book.specs.declared.part.Account.{Account}
use Rattle.custodial_book.specs.declared.part.Account.TheVariants.{T, P}
use Rattle.std.specs.declared.cmp.Ordering.{Ordering}
use Rattle.std.specs.Ordering.{nat_cmp, int_cmp, bool_cmp, ordering_then}
use Rattle.bank_recon.specs.declared.item.BankItem.{BankItem}
use Rattle.bank_recon.specs.declared.key.ItemKey.{ItemKey}
use Rattle.bank_recon.specs.declared.key.PlaceKey.{PlaceKey}

abbrev pub is_t : Account → Bool
is_t T = true
is_t P = false

-- an account and a number, and their order
abbrev pub place_of : BankItem → PlaceKey
place_of x = record { in_t = is_t x.account; number = x.number }

abbrev pub place_cmp : PlaceKey → PlaceKey → Ordering
place_cmp x y = ordering_then (bool_cmp x.in_t y.in_t) (nat_cmp x.number y.number)

-- an item's three, and their order
abbrev pub key_of : BankItem → ItemKey
key_of x = record { in_t = is_t x.account; number = x.number; cents = x.cents }

abbrev pub key_cmp : ItemKey → ItemKey → Ordering
key_cmp x y =
    ordering_then (bool_cmp x.in_t y.in_t)
    (ordering_then (nat_cmp x.number y.number) (int_cmp x.cents y.cents))
