-- The cells of the archives of all keys, as they are kept.
use Rattle.std.proofs.Common.{◌≡◌, ℕ, zero, suc, ◌+◌, ◌<◌, true, false, cond, List, [], ◌∷◌, map, length, slice_get, refl, sym, ap, ◌∙◌, subst, arith, true≢false, Some, unwrap_or, ⊎_elim}
use Rattle.std.specs.Prelude.{nat_eq}
use Rattle.std.specs.Global.{Vec}
use Rattle.std.specs.List.Sorted.{IsStrictlySortedBy}
use Rattle.std.specs.Map.{lookup, keys_of}
use Rattle.std.specs.BTreeMap.{is_at}
use Rattle.std.specs.Option.{option_map}
use Rattle.std.specs.Ordering.{is_eq}
use Rattle.std.specs.Cmp.Lexicographic.{pointwise, bytes_decides, nat_list_cmp_total}
use Rattle.std.specs.FinMap.{empty}
use Rattle.std.proofs.lemmas.Bool.{cases_lt, false_from_ne_true, eq-eqb, ne_eqb}
use Rattle.std.proofs.lemmas.Option.{slice_get_past}
use Rattle.rr_schema.specs.Schema.{Layout, IsLayout, archive_at}
use Rattle.rr_join.proofs.Members.{same_from_tie, tie_itself}
use Rattle.rr_archive.specs.Cells.{ArchiveCells, put_in_archive}
use Rattle.rr_cells.specs.Samples as model
use Rattle.rr_replica.specs.declared.unkeyed_sample.UnkeyedSample.{UnkeyedSample}
use Rattle.rr_cells.specs.Cells.{Cells, IsTrimmed, archive_cells}
use Rattle.rr_cells.specs.Puts.{put_sample}
use Rattle.rr_text.specs.Bytes.{bytes_cmp}
use Rattle.rr_replica.specs.Series.{cells_of, archive_cells_from}
use Rattle.rr_replica.specs.Archives.{cell_slot_for, sample_for, AreSame, HavePut}
pub use Rattle.rr_replica.specs.Indexed.{items_of}
use Rattle.rr_replica.specs.InMemory.{held_series, archives_of, keyed_sample}
use Rattle.rr_cells.proofs.Local.{same_cells}
use Rattle.rr_replica.proofs.SeriesLemmas.{bytes_cmp-IsAntisymmetric, rows_of_series}
use Rattle.rr_cells.proofs.PutsLemmas.{put_at, put_past, put_other_key}
use Rattle.rr_replica.proofs.Each.{slice_get-map}

archive_cells_from-is : (first : ℕ) (rs : List ArchiveCells) (i : ℕ)
    → archive_cells_from first rs (first + i) ≡ unwrap_or (slice_get rs i) empty
archive_cells_from-is first [] i = refl
archive_cells_from-is first (r ∷ rs) zero = ap (λ b. cond b r (archive_cells_from (first + 1) rs (first + zero)))
    (eq-eqb (first + zero) first (omega arith))
archive_cells_from-is first (r ∷ rs) (suc i) =
    ap (λ b. cond b r (archive_cells_from (first + 1) rs (first + suc i)))
    (ne_eqb (first + suc i) first (λ e. absurd (omega arith)))
    ∙ ap (archive_cells_from (first + 1) rs) (later first i)
    ∙ archive_cells_from-is (first + 1) rs i
  where
    later : (m n : ℕ) → m + suc n ≡ m + 1 + n
    later m n = omega arith

-- there is an element with each number below the length
pub there : {X : Type 0} (xs : List X) (i : ℕ) → i < length xs → (x : X) × (slice_get xs i ≡ Some x)
there [] i h = absurd (omega arith)
there (x ∷ xs) zero h = (x, refl)
there (x ∷ xs) (suc i) h = there xs i (omega arith)

-- what stands with a number among archives, and nothing past the last
abbrev pub held_at : {X : Type 0} → (X → ArchiveCells) → List X → ℕ → ArchiveCells
held_at cells archives i = unwrap_or (option_map cells (slice_get archives i)) empty

module _ {X : Type 0} (cells : X → ArchiveCells) where
  pub keys_shown : (entries : List (List ℕ × Vec X)) → keys_of (held_series cells entries) ≡ keys_of entries
  keys_shown [] = refl
  keys_shown (e ∷ es) = ap (λ ks. e.0 ∷ ks) (keys_shown es)

  lookup_shown : (entries : List (List ℕ × Vec X)) (key : List ℕ)
      → unwrap_or (lookup (is_at (bytes_cmp key)) (held_series cells entries)) []
      ≡ map cells (items_of (archives_of entries key))
  lookup_shown [] key = refl
  lookup_shown (e ∷ es) key = elim (is_eq (bytes_cmp key e.0)) as
      (λ b. unwrap_or (cond b (Some (map cells e.1.items)) (lookup (is_at (bytes_cmp key)) (held_series cells es))) []
      ≡ map cells (items_of (cond b (Some e.1) (archives_of es key)))) [
        | true ↦ refl
        | false ↦ lookup_shown es key
      ]

  pub rows_shown : (entries : List (List ℕ × Vec X)) (key : List ℕ) (i : ℕ)
      → IsStrictlySortedBy bytes_cmp (keys_of entries)
      → archive_cells (cells_of (held_series cells entries)) key i
      ≡ held_at cells (items_of (archives_of entries key)) i
  rows_shown entries key i sorted =
      rows_of_series (held_series cells entries) key i
      (subst (IsStrictlySortedBy bytes_cmp) (sym (keys_shown entries)) sorted)
      ∙ ap (λ rs. archive_cells_from 0 rs i) (lookup_shown entries key)
      ∙ ap (archive_cells_from 0 (map cells (items_of (archives_of entries key)))) (from_zero i)
      ∙ archive_cells_from-is zero (map cells (items_of (archives_of entries key))) i
      ∙ ap (λ o. unwrap_or o empty) (slice_get-map cells (items_of (archives_of entries key)) i)
    where
      from_zero : (n : ℕ) → n ≡ zero + n
      from_zero n = omega arith

  -- ---- other archives for a key

  pub Sets : List (List ℕ × Vec X) → List (List ℕ × Vec X) → List ℕ → Vec X → Type 0
  Sets old new key archives = (q : List ℕ) → archives_of new q
      ≡ cond (is_at (bytes_cmp key) q) (Some archives) (archives_of old q)

  module _ (old new : List (List ℕ × Vec X)) (key : List ℕ) (archives : Vec X)
      (sets : (q : List ℕ) → archives_of new q ≡ cond (is_at (bytes_cmp key) q) (Some archives) (archives_of old q))
      (before : IsStrictlySortedBy bytes_cmp (keys_of old)) (after : IsStrictlySortedBy bytes_cmp (keys_of new)) where
    pub at_key : (i : ℕ) → archive_cells (cells_of (held_series cells new)) key i ≡ held_at cells archives.items i
    at_key i = rows_shown new key i after ∙ ap (λ o. held_at cells (items_of o) i)
        (sets key ∙ ap (λ b. cond b (Some archives) (archives_of old key))
        (tie_itself nat_list_cmp_total bytes_cmp-IsAntisymmetric key))

    pub at_other : (q : List ℕ) (i : ℕ) → is_at (bytes_cmp key) q ≡ false
        → archive_cells (cells_of (held_series cells new)) q i ≡ archive_cells (cells_of (held_series cells old)) q i
    at_other q i apart = rows_shown new q i after ∙ ap (λ o. held_at cells (items_of o) i)
        (sets q ∙ ap (λ b. cond b (Some archives) (archives_of old q)) apart) ∙ sym (rows_shown old q i before)

    pub same_key : (q : List ℕ) → is_at (bytes_cmp key) q ≡ true → key ≡ q
    same_key q t = same_from_tie nat_list_cmp_total bytes_cmp-IsAntisymmetric key q t

    -- with the same cells
    pub cells_same : ((i : ℕ) → held_at cells archives.items i ≡ archive_cells (cells_of (held_series cells old)) key i)
        → cells_of (held_series cells new) ≡ cells_of (held_series cells old)
    cells_same alike = same_cells _ _ (λ q i.
        elim (is_at (bytes_cmp key) q) as (λ b. is_at (bytes_cmp key) q ≡ b
        → archive_cells (cells_of (held_series cells new)) q i
        ≡ archive_cells (cells_of (held_series cells old)) q i) [
          | true ↦ λ t. subst (λ k. archive_cells (cells_of (held_series cells new)) k i
              ≡ archive_cells (cells_of (held_series cells old)) k i) (same_key q t) (at_key i ∙ alike i)
          | false ↦ λ t. at_other q i t
        ] refl)

    -- with a sample put
    pub cells_put : (s : Layout) → IsLayout s → (x : model.Sample) → x.key ≡ key
        → IsTrimmed s (cells_of (held_series cells old))
        → ((i : ℕ) → held_at cells archives.items i ≡ archive_cells (put_sample s (cells_of (held_series cells old)) x)
        key i) → cells_of (held_series cells new) ≡ put_sample s (cells_of (held_series cells old)) x
    cells_put s is x of kept put = same_cells _ _ (λ q i.
        elim (is_at (bytes_cmp key) q) as (λ b. is_at (bytes_cmp key) q ≡ b
        → archive_cells (cells_of (held_series cells new)) q i
        ≡ archive_cells (put_sample s (cells_of (held_series cells old)) x) q i) [
          | true ↦ λ t. subst (λ k. archive_cells (cells_of (held_series cells new)) k i
              ≡ archive_cells (put_sample s (cells_of (held_series cells old)) x) k i) (same_key q t) (at_key i ∙ put i)
          | false ↦ λ t. at_other q i t ∙ sym (put_other_key s is x q i (cells_of (held_series cells old)) kept
              (false_from_ne_true (pointwise nat_eq x.key q)
              (λ e. true≢false (sym (ap (is_at (bytes_cmp key)) (sym ((bytes_decides x.key q).0 e) ∙ of)
              ∙ tie_itself nat_list_cmp_total bytes_cmp-IsAntisymmetric key) ∙ t))))
        ] refl)

-- archives with the same cells, and with a sample put
module _ {X : Type 0} (cells : X → ArchiveCells) where
  pub held_same : (old new : List X) (i : ℕ) → AreSame cells old new → held_at cells new i ≡ held_at cells old i
  held_same old new i same = ⊎_elim
      (λ within.
      let a = there old i within in
      let b = there new i (let many = same.many in omega arith) in
      ap (λ o. unwrap_or (option_map cells o) empty) b.1 ∙ same.each i a.0 b.0 a.1 b.1
      ∙ sym (ap (λ o. unwrap_or (option_map cells o) empty) a.1))
      (λ past. (λ j. unwrap_or (option_map cells (slice_get_past new i (let many = same.many in omega arith) j)) empty)
      ∙ sym (λ j. unwrap_or (option_map cells (slice_get_past old i past j)) empty))
      (cases_lt i (length old))

  pub held_put : (s : Layout) → IsLayout s → (key : List ℕ) (x : UnkeyedSample) (all : Cells) (old new : List X) (i : ℕ)
      → IsTrimmed s all → length old ≡ length s.archives → HavePut cells s x old new
      → ((j : ℕ) → archive_cells all key j ≡ held_at cells old j)
      → held_at cells new i ≡ archive_cells (put_sample s all (keyed_sample key x)) key i
  held_put s is key x all old new i kept many h before = ⊎_elim
      (λ within.
      let a = there old i within in
      let b = there new i (let more = h.many in omega arith) in
      ap (λ o. unwrap_or (option_map cells o) empty) b.1 ∙ h.each i a.0 b.0 a.1 b.1
      ∙ ap (λ r. put_in_archive (archive_at s i).rows r (cell_slot_for s x i) (sample_for s x i))
      (sym (ap (λ o. unwrap_or (option_map cells o) empty) a.1) ∙ sym (before i))
      ∙ sym (put_at s is (keyed_sample key x) i all kept (let more = many in omega arith)))
      (λ past. (λ j. unwrap_or (option_map cells (slice_get_past new i (let more = h.many in omega arith) j)) empty)
      ∙ sym (put_past s is (keyed_sample key x) key i all kept (let more = many in omega arith) ∙ before i
      ∙ (λ j. unwrap_or (option_map cells (slice_get_past old i past j)) empty)))
      (cases_lt i (length old))
