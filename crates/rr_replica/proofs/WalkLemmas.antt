-- The cells of series that are gone through in order of their keys.
use Rattle.std.proofs.Common.{◌≡◌, ℕ, ◌+◌, ◌≤◌, ◌&&◌, Bool, true, false, cond, List, [], ◌∷◌, ◌++◌, map, length, slice_get, refl, sym, ap, ◌∙◌, true≢false, Option, Some, None, is_some, arith}
use Rattle.std.specs.Global.{Vec}
use Rattle.std.specs.List.{AllByRecursion, filter, find}
use Rattle.std.specs.BTreeMap.Range.{entries_between, range_contains}
use Rattle.std.specs.declared.ops.Bound.{Bound}
use Rattle.std.specs.declared.ops.Bound.TheVariants.{Included, Unbounded}
use Rattle.std.specs.Ordering.{is_le}
use Rattle.rr_text.specs.declared.limits.TheConstants.{MAX_ARCHIVES}
use Rattle.rr_text.specs.Bytes.{bytes_cmp}
use Rattle.rr_archive.specs.CellSlots.{CellSlot}
use Rattle.rr_archive.specs.Cells.{ArchiveCells}
use Rattle.rr_cells.specs.CellBounds.{NamedCell}
use Rattle.rr_cells.specs.Cells.{name_at}
use Rattle.rr_replica.specs.InMemory.{held_series}
use Rattle.rr_replica.specs.Indexed.{with_entry, entries_at, items_of}
use Rattle.rr_replica.specs.Series.{cells_from, all_cells}
use Rattle.std.proofs.lemmas.List.{length-append}
use Rattle.rr_cells.specs.Listing.{count_of}
use Rattle.rr_replica.proofs.Counted.{length-cells_from}
use Rattle.rr_replica.proofs.NextCell.{is_past, LeftFrom, left_more, left_found}

module _ {X : Type 0} (cells : X → ArchiveCells) where
  -- the cells of a key, and those of the keys after it
  pub walk_cells : (e : List ℕ × ℕ) (es : List (List ℕ × ℕ)) (archives : List (Vec X))
      → all_cells (held_series cells (entries_at (e ∷ es) archives))
      ≡ cells_from e.0 0 (map cells (items_of (slice_get archives e.1)))
      ++ all_cells (held_series cells (entries_at es archives))
  walk_cells e es archives = elim (slice_get archives e.1) as
      (λ o. all_cells (held_series cells (with_entry e.0 o (entries_at es archives)))
      ≡ cells_from e.0 0 (map cells (items_of o)) ++ all_cells (held_series cells (entries_at es archives))) [
        | None ↦ refl
        | Some v ↦ refl
      ]

  -- and how many they are
  pub walk_length : (e : List ℕ × ℕ) (es : List (List ℕ × ℕ)) (archives : List (Vec X))
      → length (all_cells (held_series cells (entries_at (e ∷ es) archives)))
      ≡ count_of (map cells (items_of (slice_get archives e.1)))
      + length (all_cells (held_series cells (entries_at es archives)))
  walk_length e es archives =
      let rows = map cells (items_of (slice_get archives e.1)) in
      ap length (walk_cells e es archives)
      ∙ length-append (cells_from e.0 0 rows) (all_cells (held_series cells (entries_at es archives)))
      ∙ ap (λ n. n + length (all_cells (held_series cells (entries_at es archives)))) (length-cells_from e.0 0 rows)

abbrev pub AreFew : {X : Type 0} → List (List ℕ × Vec X) → Type 0
AreFew entries = AllByRecursion (λ e. length e.1.items ≤ MAX_ARCHIVES) entries

module _ {X : Type 0} where
  -- a key has few archives where all keys have
  pub walk_few : (e : List ℕ × ℕ) (es : List (List ℕ × ℕ)) (archives : List (Vec X))
      → AreFew (entries_at (e ∷ es) archives) → (length (items_of (slice_get archives e.1)) ≤ MAX_ARCHIVES)
      × AreFew (entries_at es archives)
  walk_few e es archives = elim (slice_get archives e.1) as
      (λ o. AreFew (with_entry e.0 o (entries_at es archives))
      → (length (items_of o) ≤ MAX_ARCHIVES) × AreFew (entries_at es archives)) [
        | None ↦ λ few. (omega arith, few)
        | Some v ↦ λ few. (few.0, few.1)
      ]

  -- ---- from a key on

  between : (keep : List ℕ → Bool) (es : List (List ℕ × ℕ)) (archives : List (Vec X))
      → filter (λ e. keep e.0) (entries_at es archives) ≡ entries_at (filter (λ e. keep e.0) es) archives
  between keep [] archives = refl
  between keep (e ∷ es) archives =
      let rest = between keep es archives in
      elim (keep e.0) as (λ b. keep e.0 ≡ b → filter (λ e. keep e.0) (entries_at (e ∷ es) archives)
      ≡ entries_at (cond b (e ∷ filter (λ e. keep e.0) es) (filter (λ e. keep e.0) es)) archives) [
        | true ↦ λ t. elim (slice_get archives e.1) as
            (λ o. filter (λ e. keep e.0) (with_entry e.0 o (entries_at es archives))
            ≡ with_entry e.0 o (entries_at (filter (λ e. keep e.0) es) archives)) [
              | None ↦ rest
              | Some v ↦ ap (λ b. cond b ((e.0, v) ∷ filter (λ e. keep e.0) (entries_at es archives))
                  (filter (λ e. keep e.0) (entries_at es archives))) t ∙ ap (λ l. (e.0, v) ∷ l) rest
            ]
        | false ↦ λ t. elim (slice_get archives e.1) as
            (λ o. filter (λ e. keep e.0) (with_entry e.0 o (entries_at es archives))
            ≡ entries_at (filter (λ e. keep e.0) es) archives) [
              | None ↦ rest
              | Some v ↦ ap (λ b. cond b ((e.0, v) ∷ filter (λ e. keep e.0) (entries_at es archives))
                  (filter (λ e. keep e.0) (entries_at es archives))) t ∙ rest
            ]
      ] refl

  pub between_at : (lo hi : Bound (List ℕ)) (es : List (List ℕ × ℕ)) (archives : List (Vec X))
      → entries_between bytes_cmp lo hi (entries_at es archives)
      ≡ entries_at (entries_between bytes_cmp lo hi es) archives
  between_at lo hi es archives = between (range_contains bytes_cmp lo hi) es archives

  few_kept : (keep : List ℕ × Vec X → Bool) (es : List (List ℕ × Vec X)) → AreFew es → AreFew (filter keep es)
  few_kept keep [] few = tt
  few_kept keep (e ∷ es) few = elim (keep e) as (λ b. AreFew (cond b (e ∷ filter keep es) (filter keep es))) [
    | true ↦ (few.0, few_kept keep es few.1)
    | false ↦ few_kept keep es few.1
  ]

  pub between_few : (lo hi : Bound (List ℕ)) (es : List (List ℕ × Vec X)) → AreFew es
      → AreFew (entries_between bytes_cmp lo hi es)
  between_few lo hi es few = few_kept (λ e. range_contains bytes_cmp lo hi e.0) es few

-- the keys are at a key or after it
abbrev pub AreFrom : List ℕ → List (List ℕ × ℕ) → Type 0
AreFrom key es = AllByRecursion (λ e. is_le (bytes_cmp key e.0) ≡ true) es

pub from_key : (key : List ℕ) (es : List (List ℕ × ℕ))
    → AreFrom key (entries_between bytes_cmp (Included key) Unbounded es)
from_key key [] = tt
from_key key (e ∷ es) = elim (is_le (bytes_cmp key e.0)) as
    (λ b. is_le (bytes_cmp key e.0) ≡ b → AreFrom key
    (cond (b && true) (e ∷ entries_between bytes_cmp (Included key) Unbounded es)
    (entries_between bytes_cmp (Included key) Unbounded es))) [
      | true ↦ λ t. (t, from_key key es)
      | false ↦ λ t. from_key key es
    ] refl

module _ {X : Type 0} (key : List ℕ) (a : ℕ) (p : CellSlot) (cells : X → ArchiveCells) where
  pub walk_more : (all rest : List (List ℕ × Vec X)) (k : List ℕ) (o : Option (Vec X))
      → LeftFrom key a p cells all (with_entry k o rest)
      → find (is_past (name_at key a p)) (cells_from k 0 (map cells (items_of o))) ≡ None
      → LeftFrom key a p cells all rest
  walk_more all rest k None l none = l
  walk_more all rest k (Some v) l none = left_more key a p cells all ((k, v) ∷ rest) rest (k, v) l refl none

  pub walk_found : (all rest : List (List ℕ × Vec X)) (k : List ℕ) (o : Option (Vec X)) (c : NamedCell)
      → LeftFrom key a p cells all (with_entry k o rest)
      → find (is_past (name_at key a p)) (cells_from k 0 (map cells (items_of o))) ≡ Some c
      → find (is_past (name_at key a p)) (all_cells (held_series cells all)) ≡ Some c
  walk_found all rest k None c l found = absurd (true≢false (sym (ap is_some found)))
  walk_found all rest k (Some v) c l found = left_found key a p cells all ((k, v) ∷ rest) rest (k, v) c l refl found
