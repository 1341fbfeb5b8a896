-- The names of cells, and which of them are live.
use Rattle.std.specs.Prelude.{ℕ, ℤ, Bool, ◌&&◌, nat_eq, ◌==◌, List, map, Option}
use Rattle.std.specs.declared.cmp.Ordering.{Ordering}
use Rattle.std.specs.Ordering.{ordering_then, nat_cmp, int_cmp}
use Rattle.std.specs.Cmp.Lexicographic.{slice_cmp, pointwise}
use Rattle.std.specs.List.{filter}
use Rattle.rr_schema.specs.Schema.{Layout, archive_at}
use Rattle.rr_join.specs.Maps.{greatest}
use Rattle.rr_join.specs.Horizon.{is_above}

-- names what one origin knows of one row: by a key (its text), an archive, a slot and the origin
pub record CellName : Type 0 where
  pub key : List ℕ
  pub archive : ℕ
  pub slot : ℤ
  pub origin : ℕ

-- by key, archive, slot and origin
abbrev pub cell_name_cmp : CellName → CellName → Ordering
cell_name_cmp a b =
    ordering_then (slice_cmp nat_cmp a.key b.key)
    (ordering_then (nat_cmp a.archive b.archive)
    (ordering_then (int_cmp a.slot b.slot)
    (nat_cmp a.origin b.origin)))

-- whether the cell belongs to this archive of this key
abbrev pub is_of : List ℕ → ℕ → CellName → Bool
is_of key archive n = pointwise nat_eq n.key key && (n.archive == archive)

-- the greatest slot of these names in one archive of a key, if there is one
unfoldable pub newest : List CellName → List ℕ → ℕ → Option ℤ
newest ns key archive = greatest int_cmp (map (λ n. n.slot) (filter (is_of key archive) ns))

-- whether a slot of an archive of a key is not past the horizon of these names
abbrev pub is_slot_live : Layout → List CellName → List ℕ → ℕ → ℤ → Bool
is_slot_live s ns key archive slot = is_above (archive_at s archive).rows (newest ns key archive) slot

-- whether a cell is not past the horizon of these names
abbrev pub is_live : Layout → List CellName → CellName → Bool
is_live s ns n = is_slot_live s ns n.key n.archive n.slot
