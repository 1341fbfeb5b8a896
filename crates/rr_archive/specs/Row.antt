-- The entries of one row, ascending by origin.
use Rattle.std.specs.Prelude.{ℕ, ◌&&◌, ◌||◌, nat_lt, nat_le, ◌==◌, true, List, [], ◌∷◌, Option, Bool}
use Rattle.std.specs.List.{find}
use Rattle.std.specs.Option.{option_map}
use Rattle.std.specs.Ordering.{nat_cmp}
use Rattle.std.specs.FinMap.Entries.{by_order}
use Rattle.rr_contrib.specs.declared.contribution.Contribution.{Contribution}
use Rattle.rr_archive.specs.declared.entry.Entry.{Entry}

-- the contribution of an origin, if it has one
abbrev pub entry_at : List Entry → ℕ → Option Contribution
entry_at es origin = option_map (λ e. e.contribution) (find (λ e. e.origin == origin) es)

-- with an entry in its place, instead of any that its origin had
abbrev pub with_entry : List Entry → Entry → List Entry
with_entry [] new = new ∷ []
with_entry (e ∷ es) new = by_order (nat_cmp new.origin e.origin) (new ∷ e ∷ es) (new ∷ es) (e ∷ with_entry es new)

-- whether an entry's origin is not below this one
abbrev pub is_from : ℕ → Entry → Bool
is_from origin e = nat_le origin e.origin

-- whether an entry is in a later slot, or of an origin above this one
abbrev pub is_after : Bool → ℕ → Entry → Bool
is_after is_later origin e = is_later || nat_lt origin e.origin

-- whether every origin is above the one before, and the first of them above this one
abbrev pub ascends_from : ℕ → List Entry → Bool
ascends_from below [] = true
ascends_from below (e ∷ es) = nat_lt below e.origin && ascends_from e.origin es

-- whether every origin is above the one before
abbrev pub ascends : List Entry → Bool
ascends [] = true
ascends (e ∷ es) = ascends_from e.origin es
