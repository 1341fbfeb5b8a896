-- The entries of a row, which mostly has one.
use Rattle.std.specs.Prelude.{ℕ, ◌==◌, nat_lt, Bool, true, List, [], ◌∷◌, vec_len, vec_capacity}
use Rattle.rr_archive.specs.declared.entry.Entry.{Entry}
use Rattle.rr_archive.specs.declared.entries.Entries.{Entries}
use Rattle.rr_archive.specs.declared.entries.Entries.TheVariants.{Empty, One, Many}

-- the entries, in order
abbrev pub items_of : Entries → List Entry
items_of Empty = []
items_of (One e) = e ∷ []
items_of (Many v) = v.items

-- whether there is room to change or add the entry of an origin
abbrev pub has_room : Entries → ℕ → Bool
has_room Empty origin = true
has_room (One e) origin = e.origin == origin
has_room (Many v) origin = nat_lt (vec_len v) (vec_capacity v)
