use Rattle.std.proofs.Common.{rules, sym, subst}
use Rattle.bank_recon.specs.Rows.{IsKindWord, IsAccountWord, IsNumberWord, IsAmountWord, IsBadAt}
use Rattle.bank_recon.proofs.ColumnLemmas.{bad_kind, bad_account, bad_number, bad_amount}
use Rattle.bank_recon.proofs.row.read_row.Goals as goal

pub returns-in_default-read_kind-clause-bad : goal.returns-in_default-read_kind-clause-bad
returns-in_default-read_kind-clause-bad c =
    let not : IsKindWord c.in-Some.kind.now → ⊥ = search rules in
    subst (λ fs. IsBadAt fs 1) (sym c.in-Some.ensures.four) (bad_kind _ _ _ _ not)

pub returns-in_default-read_account-clause-bad : goal.returns-in_default-read_account-clause-bad
returns-in_default-read_account-clause-bad c =
    let k : IsKindWord c.in-Some.kind.now = record { kind = c.in-Some-read_kind.kind; is = c.in-Some-read_kind.ensures.read } in
    let not : IsAccountWord c.in-Some.account.now → ⊥ = search rules in
    subst (λ fs. IsBadAt fs 2) (sym c.in-Some.ensures.four) (bad_account _ _ _ _ k not)

pub returns-in_default-spelled_number-clause-bad : goal.returns-in_default-spelled_number-clause-bad
returns-in_default-spelled_number-clause-bad c =
    let k : IsKindWord c.in-Some.kind.now = record { kind = c.in-Some-read_kind.kind; is = c.in-Some-read_kind.ensures.read } in
    let a : IsAccountWord c.in-Some.account.now = record { account = c.in-Some-read_account.account; is = c.in-Some-read_account.ensures.read } in
    let not : IsNumberWord c.in-Some.number.now → ⊥ = search rules in
    subst (λ fs. IsBadAt fs 3) (sym c.in-Some.ensures.four) (bad_number _ _ _ _ k a not)

pub returns-in_default-read_item_amount-clause-bad : goal.returns-in_default-read_item_amount-clause-bad
returns-in_default-read_item_amount-clause-bad c =
    let k : IsKindWord c.in-Some.kind.now = record { kind = c.in-Some-read_kind.kind; is = c.in-Some-read_kind.ensures.read } in
    let a : IsAccountWord c.in-Some.account.now = record { account = c.in-Some-read_account.account; is = c.in-Some-read_account.ensures.read } in
    let n : IsNumberWord c.in-Some.number.now = record { number = c.in-Some-spelled_number.number; range = c.in-Some-spelled_number.ensures.range; is = c.in-Some-spelled_number.ensures.read } in
    let not : IsAmountWord c.in-Some.amount.now → ⊥ = search rules in
    subst (λ fs. IsBadAt fs 4) (sym c.in-Some.ensures.four) (bad_amount _ _ _ _ k a n not)
