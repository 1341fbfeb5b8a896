-- The archives of keys that are copied one after the other, and replicas over such archives.
use Rattle.std.proofs.Common.{◌≡◌, ℕ, ◌<◌, List, [], ◌∷◌, length, map, take, set, get_or, slice_get, arith, subst, refl, sym, zero, suc, ap, ◌∙◌, Option, Some, None, unwrap_or, true≢false, is_some}
use Rattle.std.specs.Global.{Vec}
use Rattle.std.specs.Option.{option_map}
use Rattle.rr_schema.specs.Schema.{Layout}
use Rattle.rr_archive.specs.Cells.{ArchiveCells}
use Rattle.rr_replica.specs.Archives.{AreSized}
use Rattle.rr_cells.specs.ReplicaState.{IsReplicaState}
use Rattle.rr_replica.specs.InMemory.{archives_of, seen_archive, seen_at, held_series, replica_state_in, AreAllSized, IsReplicaInMemory}
use Rattle.rr_replica.specs.Series.{cells_of}
use Rattle.rr_replica.specs.SeriesMap.{entries_of}
use Rattle.rr_replica.specs.declared.series.SeriesMap.{SeriesMap}
use Rattle.rr_cells.proofs.Local.{same_cells}
use Rattle.rr_replica.proofs.Shown.{rows_shown, items_of, held_at}
use Rattle.rr_replica.specs.Indexed.{index_of, entries_at, IsIndexed}
use Rattle.rr_replica.proofs.Each.{slice_get-map, found_at, map-set_same}
use Rattle.rr_replica.proofs.IndexedLemmas.{key_at, archives_found, archives_nowhere, slice_get-take, entries_ordered, still_indexed}

pub take_none : {Y : Type 0} (xs : List Y) → take 0 xs ≡ []
take_none [] = refl
take_none (x ∷ xs) = refl

module _ {X : Type 0} (cells : X → ArchiveCells) (limit : X → ℕ) where
  abbrev pub seen : Vec X → List (ArchiveCells × ℕ)
  seen v = map (seen_archive cells limit) v.items

  -- so many of the keys have copies of their archives, and no others are known
  pub record AreCopied (keys : List (List ℕ)) (archives : List (Vec X)) (copied : List (List ℕ))
      (indices : List (List ℕ × ℕ)) (copies : List (Vec X)) (i : ℕ) : Type 0 where
    pub keys_so_far : copied ≡ take i keys
    pub seen_so_far : map seen copies ≡ map seen (take i archives)
    pub indexed : IsIndexed copied indices copies

  module _ {keys : List (List ℕ)} {indices : List (List ℕ × ℕ)} {archives : List (Vec X)}
      (is : IsIndexed keys indices archives) {copied : List (List ℕ)} {more : List (List ℕ × ℕ)}
      {copies : List (Vec X)} where
    -- the next key isn't known yet
    pub not_yet : {i : ℕ} → AreCopied keys archives copied more copies i → (key : List ℕ)
        → slice_get keys i ≡ Some key → index_of more key ≡ None
    not_yet {i = i} c key at = none (index_of more key) refl
      where
        none : (o : Option ℕ) → index_of more key ≡ o → o ≡ None
        none None e = refl
        none (Some j) e =
            let there = ap (λ l. slice_get l j) (sym c.keys_so_far) ∙ key_at copied more c.indexed.there key j e in
            let below = slice_get-take keys i j key there in
            let same : Some i ≡ Some j = sym (is.found i key at) ∙ is.found j key below.0 in
            let equal : i ≡ j = ap (λ p. unwrap_or p i) same in
            absurd (let less = below.1 in omega (arith, equal, less))

  module _ {keys : List (List ℕ)} {indices more : List (List ℕ × ℕ)} {archives copies : List (Vec X)}
      (is : IsIndexed keys indices archives) (now : IsIndexed keys more copies)
      (same : map seen copies ≡ map seen archives) where
    -- copies of all archives are seen at each key
    pub copies_seen : (key : List ℕ)
        → seen_at cells limit (entries_at more copies) key ≡ seen_at cells limit (entries_at indices archives) key
    copies_seen key = by_index (index_of indices key) refl
      where
        other : index_of indices key ≡ None → (o : Option ℕ) → index_of more key ≡ o → o ≡ None
        other none None e = refl
        other none (Some j) e = absurd (true≢false (ap is_some
            (sym (is.found j key (key_at keys more now.there key j e)) ∙ none)))

        by_index : (o : Option ℕ) → index_of indices key ≡ o
            → seen_at cells limit (entries_at more copies) key ≡ seen_at cells limit (entries_at indices archives) key
        by_index None e =
            ap (option_map seen) (archives_nowhere now key (sym (other e (index_of more key) refl)))
            ∙ sym (ap (option_map seen) (archives_nowhere is key (sym e)))
        by_index (Some i) e =
            ap (option_map seen) (archives_found now key i
            (sym (now.found i key (key_at keys indices is.there key i e))))
            ∙ sym (slice_get-map seen copies i) ∙ ap (λ l. slice_get l i) same ∙ slice_get-map seen archives i
            ∙ sym (ap (option_map seen) (archives_found is key i (sym e)))

  -- and so are archives in the place of those that they are seen as
  pub set_seen : (m : SeriesMap X) (i : ℕ) (was now : Vec X) → i < length m.archives.items
      → was ≡ get_or m.archives.items i was → seen now ≡ seen was → (key : List ℕ)
      → seen_at cells limit (entries_at m.indices.entries (set m.archives.items i now)) key
      ≡ seen_at cells limit (entries_of m) key
  set_seen m i was now within at same =
      copies_seen m.indexed (still_indexed m.indexed i now)
      (map-set_same seen m.archives.items i was now (found_at m.archives.items i was within at) same)

  -- ---- the replica over them

  cells_from_seen : (o : Option (Vec X)) (i : ℕ) → held_at cells (items_of o) i
      ≡ held_at (λ (p : ArchiveCells × ℕ). p.0) (unwrap_or (option_map seen o) []) i
  cells_from_seen None i = refl
  cells_from_seen (Some v) i = in_list v.items i
    where
      in_list : (xs : List X) (i : ℕ) → held_at cells xs i
          ≡ held_at (λ (p : ArchiveCells × ℕ). p.0) (map (seen_archive cells limit) xs) i
      in_list [] i = refl
      in_list (a ∷ xs) zero = refl
      in_list (a ∷ xs) (suc i) = in_list xs i

  module _ (old new : SeriesMap X) (same : (key : List ℕ)
      → seen_at cells limit (entries_of new) key ≡ seen_at cells limit (entries_of old) key) where
    same_cells_copied : cells_of (held_series cells (entries_of new)) ≡ cells_of (held_series cells (entries_of old))
    same_cells_copied = same_cells _ _ (λ key i.
        rows_shown cells (entries_of new) key i (entries_ordered new.indexed)
        ∙ cells_from_seen (archives_of (entries_of new) key) i
        ∙ ap (λ o. held_at (λ (p : ArchiveCells × ℕ). p.0) (unwrap_or o []) i) (same key)
        ∙ sym (cells_from_seen (archives_of (entries_of old) key) i)
        ∙ sym (rows_shown cells (entries_of old) key i (entries_ordered old.indexed)))

    same_sizes : (s : Layout) → AreAllSized limit s (entries_of old) → AreAllSized limit s (entries_of new)
    same_sizes s sized key archives at =
        was (archives_of (entries_of old) key) refl (sym (ap (option_map seen) at) ∙ same key)
      where
        limits : (xs : List X) → map limit xs ≡ map (λ (p : ArchiveCells × ℕ). p.1) (map (seen_archive cells limit) xs)
        limits [] = refl
        limits (a ∷ xs) = ap (λ ls. limit a ∷ ls) (limits xs)

        was : (o : Option (Vec X)) → archives_of (entries_of old) key ≡ o → Some (seen archives) ≡ option_map seen o
            → AreSized limit s archives.items
        was None e f = absurd (true≢false (ap is_some f))
        was (Some v) e f =
            limits archives.items
            ∙ ap (map (λ (p : ArchiveCells × ℕ). p.1)) (ap (λ o. unwrap_or o []) f)
            ∙ sym (limits v.items)
            ∙ sized key v e

    pub same_state : (s : Layout) (origin next : ℕ) → replica_state_in cells s origin next (entries_of new)
        ≡ replica_state_in cells s origin next (entries_of old)
    same_state s origin next i =
        record { schema = s; origin = origin; next = next; cells = same_cells_copied i }

    pub held_copied : (s : Layout) (origin next : ℕ) → IsReplicaInMemory cells limit s origin next (entries_of old)
        → IsReplicaInMemory cells limit s origin next (entries_of new)
    held_copied s origin next held = record {
      holds = subst IsReplicaState (sym (same_state s origin next)) held.holds;
      sized = same_sizes s held.sized;
      ordered = entries_ordered new.indexed;
    }
