-- Which entries of a loan count, and in which order they take effect.
use Rattle.std.specs.Prelude.{ℕ, Bool, ◌&&◌, ◌||◌, ◌==◌, not, nat_lt, List, [], ◌∷◌, if◌then◌else◌}
use Rattle.std.specs.List.{filter, list_any}
use Rattle.svc_types.specs.declared.account.Entry.{Entry}

-- whether an entry takes effect before another one: by day, then number
abbrev pub is_before : Entry → Entry → Bool
is_before a b = nat_lt a.day b.day || ((a.day == b.day) && nat_lt a.number b.number)

-- entries in order with one more: it stands before the first that it takes effect before
abbrev pub placed : Entry → List Entry → List Entry
placed e [] = e ∷ []
placed e (x ∷ xs) = if is_before e x then e ∷ x ∷ xs else x ∷ placed e xs

-- entries in order with more of them, one after another
abbrev pub placed_onto : List Entry → List Entry → List Entry
placed_onto ordered [] = ordered
placed_onto ordered (e ∷ es) = placed_onto (placed e ordered) es

-- entries by day, then number
abbrev pub in_order : List Entry → List Entry
in_order entries = placed_onto [] entries

-- whether a reversal names an entry; it is a pair of the entry's number and of what reversed it
abbrev pub is_reversed : List (ℕ × ℕ) → ℕ → Bool
is_reversed reversals number = list_any (λ r. r.0 == number) reversals

-- an entry is live where no reversal names it
abbrev pub is_live : List (ℕ × ℕ) → Entry → Bool
is_live reversals e = not (is_reversed reversals e.number)

-- the live entries, by day, then number
unfoldable pub live_entries : List Entry → List (ℕ × ℕ) → List Entry
live_entries entries reversals = in_order (filter (is_live reversals) entries)
