-- What a replica keeps to, with a sample put.
use Rattle.std.proofs.Common.{◌≡◌, ℕ, ◌+◌, ◌<◌, ◌≤◌, Bool, true, false, cond, length, refl, sym, ap, ◌∙◌, subst, arith, true≢false, Option, Some, None, is_some, unwrap_or, ⊎_elim, ◌⊎◌, inl, inr}
use Rattle.std.specs.Prelude.{nat_eq, IfSome, FitsSigned}
use Rattle.std.specs.Int.{w64}
use Rattle.std.specs.Ordering.{eq_by_cmp}
use Rattle.std.specs.Cmp.Lexicographic.{pointwise, bytes_decides}
use Rattle.std.specs.FinMap.{get, insert, keys, get-insert}
use Rattle.std.proofs.lemmas.Bool.{cases_lt}
use Rattle.rr_text.specs.declared.limits.TheConstants.{MAX_NUMBER}
use Rattle.rr_schema.specs.Origin.{IsOrigin}
use Rattle.rr_schema.specs.Schema.{Layout, IsLayout, archive_at}
use Rattle.rr_join.proofs.Members.{same_from_tie}
use Rattle.rr_join.proofs.Lookups.{get-trimmed}
use Rattle.rr_contrib.specs.declared.contribution.Contribution.{Contribution}
use Rattle.rr_contrib.specs.Contributions.{SlotSample, contribution_with}
use Rattle.rr_contrib.specs.Validity.{IsValid, CanAdd}
use Rattle.rr_contrib.proofs.KeepsValidLemmas.{Falls, place_below, of_one_valid, with_sample_valid}
use Rattle.rr_archive.specs.CellSlots.{CellSlot, cell_slot_cmp, is_live_at, IsSlot}
use Rattle.rr_archive.specs.Cells.{ArchiveCells, put_in_archive}
use Rattle.rr_archive.proofs.CellSlotOrder.{cell_slot_cmp_total, cell_slot_cmp-IsAntisymmetric}
use Rattle.rr_key.specs.Series.{IsKeyText}
use Rattle.rr_cells.specs.CellNames.{CellName}
use Rattle.rr_cells.specs.Samples.{Sample, name_of, marks_of}
use Rattle.rr_cells.proofs.Horizon.{archive_is}
use Rattle.rr_cells.specs.CellBounds.{IsCellOf}
use Rattle.rr_cells.specs.Cells.{Cells, IsTrimmed, cell_slot_of, archive_cells}
use Rattle.rr_cells.specs.Puts.{slot_sample_of, put_sample}
use Rattle.rr_cells.specs.ReplicaState.{ReplicaState, IsReplicaState}
use Rattle.rr_cells.proofs.CellBoundsLemmas.{KnownHasBounds, bounds_with, bounds_of, cell_from}
use Rattle.rr_cells.proofs.Slots.{slot_is}
use Rattle.rr_cells.proofs.Local.{get-archive_cells}
use Rattle.rr_cells.proofs.PutLaws.{cells_few}
use Rattle.rr_cells.proofs.PutsLemmas.{mark, with_mark, puts_trimmed, put_at, put_past, put_other_key}

-- a sample of a key text, with a time and a value of 64 bits
pub record IsTyped (x : Sample) : Type 0 where
  pub key : IsKeyText x.key
  pub time : FitsSigned w64 x.time
  pub value : FitsSigned w64 x.value

-- what stands at a cell slot once a sample is put: what stood there, or what it comes to
put_in_archive_cases : (limit : ℕ) (rows : ArchiveCells) (p : CellSlot) (z : SlotSample) (q : CellSlot)
    (c : Contribution) → get (put_in_archive limit rows p z) q ≡ Some c
    → (get rows q ≡ Some c) ⊎ ((q ≡ p) × (contribution_with (get rows p) z ≡ c))
put_in_archive_cases limit rows p z q c e = by_live (is_live_at limit (keys more) q)
    (sym (get-trimmed cell_slot_cmp_total cell_slot_cmp-IsAntisymmetric (is_live_at limit) more q
    ∙ ap (λ o. cond (is_live_at limit (keys more) q) o None)
    (get-insert cell_slot_cmp_total rows p (contribution_with (get rows p) z) q)) ∙ e)
  where
    more : ArchiveCells
    more = insert rows p (contribution_with (get rows p) z)

    by_tie : (b : Bool) → eq_by_cmp cell_slot_cmp q p ≡ b
        → cond b (Some (contribution_with (get rows p) z)) (get rows q) ≡ Some c
        → (get rows q ≡ Some c) ⊎ ((q ≡ p) × (contribution_with (get rows p) z ≡ c))
    by_tie true t e = inr (
      same_from_tie cell_slot_cmp_total cell_slot_cmp-IsAntisymmetric q p t,
      ap (λ o. unwrap_or o c) e,
    )
    by_tie false t e = inl e

    by_live : (b : Bool) → cond b (cond (eq_by_cmp cell_slot_cmp q p) (Some (contribution_with (get rows p) z))
        (get rows q)) None ≡ Some c → (get rows q ≡ Some c) ⊎ ((q ≡ p) × (contribution_with (get rows p) z ≡ c))
    by_live true e = by_tie (eq_by_cmp cell_slot_cmp q p) refl e
    by_live false e = absurd (true≢false (sym (ap is_some e)))

module _ (s : Layout) (is : IsLayout s) (cells : Cells) (kept : IsTrimmed s cells) (x : Sample) where
  -- n is where the sample falls, and c what it comes to there
  pub record Falls_at (n : CellName) (c : Contribution) : Type 0 where
    pub named : n ≡ name_of s (mark x n.archive)
    pub comes : contribution_with (get cells n) (slot_sample_of s (mark x n.archive)) ≡ c
    pub within : n.archive < length s.archives

  abbrev pub Cases : CellName → Contribution → Type 0
  Cases n c = (get cells n ≡ Some c) ⊎ Falls_at n c

  -- the cell of a name has what it had, or what it comes to with the sample
  pub put_cases : (n : CellName) (c : Contribution) → get (put_sample s cells x) n ≡ Some c → Cases n c
  put_cases n c e =
      let here : get (archive_cells (put_sample s cells x) n.key n.archive) (cell_slot_of n) ≡ Some c =
      get-archive_cells n.key n.archive (put_sample s cells x) (cell_slot_of n) ∙ e in
      elim (pointwise nat_eq x.key n.key) as (λ b. pointwise nat_eq x.key n.key ≡ b → Cases n c) [
        | false ↦ λ t. inl (sym (get-archive_cells n.key n.archive cells (cell_slot_of n))
            ∙ ap (λ r. get r (cell_slot_of n)) (sym (put_other_key s is x n.key n.archive cells kept t)) ∙ here)
        | true ↦ λ t. ⊎_elim
            (λ within.
            let same : x.key ≡ n.key = (bytes_decides x.key n.key).0 t in
            let at : archive_cells (put_sample s cells x) n.key n.archive
            ≡ with_mark s (archive_cells cells n.key n.archive) (mark x n.archive) =
            subst (λ k. archive_cells (put_sample s cells x) k n.archive
            ≡ with_mark s (archive_cells cells k n.archive) (mark x n.archive)) same
            (put_at s is x n.archive cells kept within) in
            ⊎_elim
            (λ was. inl (sym (get-archive_cells n.key n.archive cells (cell_slot_of n)) ∙ was))
            (λ new. inr (record {
              named = λ i. record {
                key = sym same i;
                archive = n.archive;
                slot = (new.0 i).slot;
                origin =
                    (new.0 i).origin;
              };
              comes = ap (λ o. contribution_with o (slot_sample_of s (mark x n.archive)))
                  (sym (get-archive_cells n.key n.archive cells (cell_slot_of n))
                  ∙ ap (get (archive_cells cells n.key n.archive)) new.0) ∙ new.1;
              within = within;
            }))
            (put_in_archive_cases (archive_at s n.archive).rows (archive_cells cells n.key n.archive)
            (cell_slot_of (name_of s (mark x n.archive))) (slot_sample_of s (mark x n.archive)) (cell_slot_of n) c
            (ap (λ r. get r (cell_slot_of n)) (sym at) ∙ here)))
            (λ past. inl (sym (get-archive_cells n.key n.archive cells (cell_slot_of n))
            ∙ ap (λ r. get r (cell_slot_of n)) (sym (put_past s is x n.key n.archive cells kept past)) ∙ here))
            (cases_lt n.archive (length s.archives))
      ] refl

module _ (h : ReplicaState) (holds : IsReplicaState h) (x : Sample) (number : x.number ≡ h.next)
    (origin : x.origin ≡ h.origin) (known : h.next ≤ MAX_NUMBER) where
  falls : (n : CellName) → n ≡ name_of h.schema (mark x n.archive)
      → Falls h.schema n.archive n.slot (slot_sample_of h.schema (mark x n.archive))
  falls n same = record {
    some_number = (let some = holds.next_at_least in omega arith);
    known_number = omega arith;
    in_slot = sym (ap (λ (m : CellName). m.slot) same);
    place = refl;
    within = place_below h.schema n.archive x.time (archive_is h.schema holds.layout n.archive).some_step;
  }

  added_valid : (n : CellName) → n ≡ name_of h.schema (mark x n.archive) → (o : Option Contribution) → get h.cells n ≡ o
      → IsValid h.schema n.archive n.slot (contribution_with o (slot_sample_of h.schema (mark x n.archive)))
  added_valid n same None e = of_one_valid h.schema n.archive n.slot (slot_sample_of h.schema (mark x n.archive))
      (falls n same)
  added_valid n same (Some c) e =
      with_sample_valid h.schema n.archive n.slot c (slot_sample_of h.schema (mark x n.archive))
      (holds.cells n c e).valid (falls n same)
      (let below = holds.own n c e (ap (λ (m : CellName). m.origin) same ∙ origin) in omega arith)

  added_version : (o : Option Contribution) (z : SlotSample) → (contribution_with o z).version ≡ z.number
  added_version None z = refl
  added_version (Some c) z = refl

  -- what the cell of a name comes to with the sample is within bounds
  added_cell : IsTyped x → (n : CellName) → n ≡ name_of h.schema (mark x n.archive)
      → n.archive < length h.schema.archives → (o : Option Contribution) → get h.cells n ≡ o
      → IsCellOf h.schema (n, contribution_with o (slot_sample_of h.schema (mark x n.archive)))
  added_cell typed n same within o e =
      cell_from h.schema n (contribution_with o (slot_sample_of h.schema (mark x n.archive)))
      (subst IsKeyText (sym (ap (λ (m : CellName). m.key) same)) typed.key)
      within
      (subst IsOrigin (sym (ap (λ (m : CellName). m.origin) same ∙ origin)) holds.origin)
      (subst IsSlot (sym (ap (λ (m : CellName). m.slot) same))
      (slot_is h.schema holds.layout n.archive x.time typed.time))
      (added_valid n same o e)
      (bounds_with o (slot_sample_of h.schema (mark x n.archive)) (known_bounds o e) typed.time typed.value)
    where
      known_bounds : (o : Option Contribution) → get h.cells n ≡ o → KnownHasBounds o
      known_bounds None e = tt
      known_bounds (Some c) e = bounds_of h.schema n c (holds.cells n c e)

  pub holds_put : IsTyped x → IsReplicaState (record
      { schema = h.schema; origin = h.origin; next = h.next + 1; cells = put_sample h.schema h.cells x })
  holds_put typed =
      let live = puts_trimmed h.schema holds.layout (marks_of h.schema x) h.cells holds.live in
      let cells : (n : CellName) (c : Contribution) → get (put_sample h.schema h.cells x) n ≡ Some c
      → IsCellOf h.schema (n, c) = λ n c e. ⊎_elim
      (λ was. holds.cells n c was)
      (λ new. subst (λ d. IsCellOf h.schema (n, d)) new.comes
      (added_cell typed n new.named new.within (get h.cells n) refl))
      (put_cases h.schema holds.layout h.cells holds.live x n c e) in
      record {
        layout = holds.layout;
        origin = holds.origin;
        next_at_least = omega arith;
        next_at_most = omega arith;
        live = live;
        cells = cells;
        own = λ n c e at. ⊎_elim
            (λ was. let below = holds.own n c was at in omega arith)
            (λ new. let version = ap (λ (d : Contribution). d.version) (sym new.comes)
            ∙ added_version (get h.cells n) (slot_sample_of h.schema (mark x n.archive)) in omega arith)
            (put_cases h.schema holds.layout h.cells holds.live x n c e);
        few = λ key archive origins has. cells_few h.schema (put_sample h.schema h.cells x) key archive origins
            holds.layout live has;
      }

  -- the sample can be added where it falls
  pub can_add : (n : CellName) → n.origin ≡ h.origin → IfSome (get h.cells n) (CanAdd x.number)
  can_add n at = each (get h.cells n) refl
    where
      each : (o : Option Contribution) → get h.cells n ≡ o → IfSome o (CanAdd x.number)
      each None e = tt
      each (Some c) e =
          let valid = (holds.cells n c e).valid in
          record {
            newer = (let below = holds.own n c e at in omega arith);
            counted = valid.counted;
            low =
                valid.low;
            high = valid.high;
          }
