-- The steps of a layout's archives rise.
use Rattle.std.proofs.Common.{◌≡◌, ℕ, zero, suc, ◌+◌, ◌-◌, ◌<◌, ◌≤◌, List, length, map, get_or, arith, sym, subst, add-zero}
use Rattle.std.specs.List.Sorted.{IsStrictlyIncreasing}
use Rattle.std.proofs.lemmas.List.{get_or-map, length-map}
use Rattle.rr_schema.specs.declared.archive.ArchiveSpec.{ArchiveSpec}

abbrev pub past : ArchiveSpec
past = record { steps = 1; rows = 1; num = 0; den = 1 }

abbrev pub steps_at : List ArchiveSpec → ℕ → ℕ
steps_at archives i = (get_or archives i past).steps

abbrev pub Rise : List ArchiveSpec → Type 0
Rise archives = IsStrictlyIncreasing (map (λ a. a.steps) archives)

pub next_above : (archives : List ArchiveSpec) → Rise archives → (i : ℕ) → i + 1 < length archives
    → steps_at archives i < steps_at archives (i + 1)
next_above archives rising i lt =
    let here = get_or-map (λ a. a.steps) archives i past 0 (omega arith) in
    let next = get_or-map (λ a. a.steps) archives (i + 1) past 0 lt in
    let step = rising i (omega (arith, length-map archives (λ a. a.steps))) in
    omega (arith, here, next, step)

later_above : (archives : List ArchiveSpec) → Rise archives → (i d : ℕ) → i + d < length archives
    → steps_at archives i ≤ steps_at archives (i + d)
later_above archives rising i zero lt = subst (λ k. steps_at archives i ≤ steps_at archives k) (sym (add-zero i))
    (omega arith)
later_above archives rising i (suc d) lt =
    let before = later_above archives rising i d (omega arith) in
    let step = next_above archives rising (i + d) (omega arith) in
    let at : i + suc d ≡ i + d + 1 = omega arith in
    subst (λ k. steps_at archives i ≤ steps_at archives k) (sym at) (omega (arith, before, step))

-- a later archive has no fewer steps
pub steps_rise : (archives : List ArchiveSpec) → Rise archives → (i j : ℕ) → i ≤ j → j < length archives
    → steps_at archives i ≤ steps_at archives j
steps_rise archives rising i j le lt =
    let at : i + (j - i) ≡ j = omega arith in
    subst (λ k. steps_at archives i ≤ steps_at archives k) at (later_above archives rising i (j - i) (omega arith))
