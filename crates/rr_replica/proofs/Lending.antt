-- An archive of a key that a replica lends.
use Rattle.std.proofs.Common.{◌≡◌, ℕ, List, length, slice_get, get_or, ltb, sym, ap, ◌∙◌, Option, Some, None, is_some, unwrap_or, IfSome, MatchOption, Bor}
use Rattle.std.specs.Global.{Vec}
use Rattle.std.specs.Option.{option_map}
use Rattle.std.specs.FinMap.{empty}
use Rattle.std.proofs.lemmas.Bool.{ltb-true, ltb-false}
use Rattle.std.proofs.lemmas.Option.{slice_get-get_or, slice_get_past}
use Rattle.rr_archive.specs.Cells.{ArchiveCells}
use Rattle.rr_schema.specs.Schema.{Layout}
use Rattle.rr_cells.specs.Cells.{archive_cells}
use Rattle.rr_replica.specs.InMemory.{held_series, archives_of, IsReplicaInMemory}
use Rattle.rr_replica.specs.Series.{cells_of}
use Rattle.rr_replica.proofs.Shown.{held_at, items_of, rows_shown}

-- what a slice lends at an index is what stands there
pub lent_at : {X : Type 0} (items : List X) (i : ℕ) (lent : Option (Bor X))
    → IfSome lent (λ x. x.now ≡ get_or items i x.now) → is_some lent ≡ ltb i (length items)
    → slice_get items i ≡ option_map (λ x. x.now) lent
lent_at items i None same within = slice_get_past items i (ltb-false i (length items) (sym within))
lent_at items i (Some x) same within = slice_get-get_or items i x.now (ltb-true i (length items) (sym within))
    ∙ ap (λ a. Some a) (sym same)

-- the archive that is lent has the rows, and where none is lent there are no rows
IsLent : {X : Type 0} → (X → ArchiveCells) → ArchiveCells → Option (Bor X) → Type 0
IsLent cells rows lent = MatchOption lent (rows ≡ empty) (λ a. cells a.now ≡ rows)

is_lent : {X : Type 0} (cells : X → ArchiveCells) (rows : ArchiveCells) (lent : Option (Bor X))
    → rows ≡ unwrap_or (option_map cells (option_map (λ x. x.now) lent)) empty → IsLent cells rows lent
unfolding IsLent
is_lent cells rows None e = e
is_lent cells rows (Some a) e = sym e

module _ {X : Type 0} (cells : X → ArchiveCells) (limit : X → ℕ) (s : Layout) (origin next : ℕ)
    (entries : List (List ℕ × Vec X)) (key : List ℕ) (i : ℕ)
    (kept : IsReplicaInMemory cells limit s origin next entries) where
  -- an archive of a key
  pub archive_found : (archives : Vec X) (lent : Option (Bor X)) → Some archives ≡ archives_of entries key
      → IfSome lent (λ x. x.now ≡ get_or archives.items i x.now) → is_some lent ≡ ltb i (length archives.items)
      → MatchOption lent (archive_cells (cells_of (held_series cells entries)) key i ≡ empty)
      (λ a. cells a.now ≡ archive_cells (cells_of (held_series cells entries)) key i)
  unfolding IsLent
  archive_found archives lent found same within =
      is_lent cells (archive_cells (cells_of (held_series cells entries)) key i) lent
      (rows_shown cells entries key i kept.ordered ∙ ap (λ o. held_at cells (items_of o) i) (sym found)
      ∙ ap (λ o. unwrap_or (option_map cells o) empty) (lent_at archives.items i lent same within))

  -- a key without archives
  pub archive_unknown : None ≡ archives_of entries key
      → archive_cells (cells_of (held_series cells entries)) key i ≡ empty
  archive_unknown none = rows_shown cells entries key i kept.ordered ∙ ap (λ o. held_at cells (items_of o) i) (sym none)
