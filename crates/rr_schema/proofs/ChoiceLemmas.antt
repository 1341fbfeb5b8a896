-- The archive that is found is the one that the rule names.
use Rattle.std.proofs.Common.{◌≡◌, ℕ, zero, suc, ◌+◌, ◌*◌, ◌<◌, ◌≤◌, ◌⊎◌, inl, inr, List, [], ◌∷◌, length, arith, refl, sym, subst, leb}
use Rattle.std.proofs.lemmas.Bool.{cases_Bool, cases_lt, leb-true, leb-false}
use Rattle.std.proofs.Math.Nat.{mul-le-mul_left}
use Rattle.rr_schema.specs.declared.archive.ArchiveSpec.{ArchiveSpec}
use Rattle.rr_schema.specs.Schema.{Layout, IsLayout, span, last_within, choice}
use Rattle.rr_schema.specs.Choice.{IsChoice}
use Rattle.rr_schema.proofs.Rising.{steps_at, steps_rise}

-- from this place on each span is above the resolution
abbrev AboveFrom : ℕ → ℕ → ℕ → List ArchiveSpec → Type 0
AboveFrom step resolution from archives = (j : ℕ) → from ≤ j → j < length archives
    → resolution < step * steps_at archives j

-- none is within the resolution, or the last such one is at place k
abbrev IsLastWithin : ℕ → ℕ → ℕ → ℕ → List ArchiveSpec → ℕ → Type 0
IsLastWithin step resolution found next archives result =
    ((result ≡ found) × AboveFrom step resolution 0 archives)
    ⊎ ((k : ℕ) × (result ≡ next + k) × (k < length archives) × (step * steps_at archives k ≤ resolution)
    × AboveFrom step resolution (suc k) archives)

above_more : (step resolution from : ℕ) (a : ArchiveSpec) (archives : List ArchiveSpec)
    → AboveFrom step resolution from archives → AboveFrom step resolution (suc from) (a ∷ archives)
above_more step resolution from a archives h zero le lt = absurd (omega arith)
above_more step resolution from a archives h (suc j) le lt = h j (omega arith) (omega arith)

above_all : (step resolution : ℕ) (a : ArchiveSpec) (archives : List ArchiveSpec) → resolution < step * a.steps
    → AboveFrom step resolution 0 archives → AboveFrom step resolution 0 (a ∷ archives)
above_all step resolution a archives first h zero le lt = first
above_all step resolution a archives first h (suc j) le lt = h j (omega arith) (omega arith)

later : (step resolution found next : ℕ) (a : ArchiveSpec) (archives : List ArchiveSpec) (result : ℕ)
    → IsLastWithin step resolution found (next + 1) archives result
    → (AboveFrom step resolution 0 archives → result ≡ found
    → IsLastWithin step resolution found next (a ∷ archives) result)
    → IsLastWithin step resolution found next (a ∷ archives) result
later step resolution found next a archives result (inl none) f = f none.1 none.0
later step resolution found next a archives result (inr last) f =
    inr (
      suc last.0,
      omega (arith, last.1),
      omega (arith, last.2),
      last.3,
      above_more step resolution (suc last.0) a archives last.4,
    )

hit : (step resolution next : ℕ) (a : ArchiveSpec) (archives : List ArchiveSpec) (found result : ℕ)
    → step * a.steps ≤ resolution → IsLastWithin step resolution next (next + 1) archives result
    → IsLastWithin step resolution found next (a ∷ archives) result
hit step resolution next a archives found result within (inl none) =
    inr (0, omega (arith, none.0), omega arith, within, above_more step resolution 0 a archives none.1)
hit step resolution next a archives found result within (inr last) =
    inr (
      suc last.0,
      omega (arith, last.1),
      omega (arith, last.2),
      last.3,
      above_more step resolution (suc last.0) a archives last.4,
    )

last_is : (step resolution found next : ℕ) (archives : List ArchiveSpec)
    → IsLastWithin step resolution found next archives (last_within step resolution found next archives)
last_is step resolution found next [] = inl (refl, λ j le lt. absurd (omega arith))
last_is step resolution found next (a ∷ archives) =
    elim (cases_Bool (leb (step * a.steps) resolution)) [
      | inl within ↦
          rw within (hit step resolution next a archives found _ (leb-true _ _ within)
          (last_is step resolution next (next + 1) archives))
      | inr above ↦
          rw above (later step resolution found next a archives _ (last_is step resolution found (next + 1) archives)
          (λ h e. inl (e, above_all step resolution a archives (leb-false _ _ above) h)))
    ]

spans_rise : (s : Layout) → IsLayout s → (i j : ℕ) → i ≤ j → j < length s.archives → span s i ≤ span s j
spans_rise s is i j le lt = mul-le-mul_left s.step (steps_rise s.archives is.rising i j le lt)

-- an archive whose span is not above the resolution does not come after the last such one
not_past : (s : Layout) (resolution k j : ℕ) → AboveFrom s.step resolution (suc k) s.archives → j < length s.archives
    → span s j ≤ resolution → j ≤ k
not_past s resolution k j past lt fits =
    elim (cases_lt k j) [ inl behind ↦ absurd (omega (arith, past j (omega arith) lt, fits)) | inr before ↦ before ]

is_choice : (s : Layout) (resolution r : ℕ) → IsLayout s → IsLastWithin s.step resolution 0 0 s.archives r
    → IsChoice s resolution r
is_choice s resolution r is (inl none) =
    let first : r ≡ 0 = none.0 in
    record {
      is_there = omega (arith, is.some_archive);
      greatest = λ j lt fits. absurd (omega (arith, none.1 j (omega arith) lt, fits));
      widest = λ j lt fits. absurd (omega (arith, none.1 j (omega arith) lt, fits));
      least = λ j lt above. spans_rise s is r j (omega arith) lt;
    }
is_choice s resolution r is (inr last) =
    let at : r ≡ last.0 = omega (arith, last.1) in
    let fits : span s r ≤ resolution = subst (λ i. span s i ≤ resolution) (sym at) last.3 in
    record {
      is_there = omega (arith, last.2);
      greatest = λ j lt h. fits;
      widest = λ j lt h. spans_rise s is j r (omega (arith, not_past s resolution last.0 j last.4 lt h))
          (omega (arith, last.2));
      least = λ j lt above. absurd (omega (arith, fits, above));
    }

pub choice_is_the_rule : (s : Layout) (resolution : ℕ) → IsLayout s → IsChoice s resolution (choice s resolution)
choice_is_the_rule s resolution is =
    is_choice s resolution (choice s resolution) is (last_is s.step resolution 0 0 s.archives)
