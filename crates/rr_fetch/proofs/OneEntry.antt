-- What a consolidation makes of a row of one entry.
use Rattle.std.proofs.Common.{◌≡◌, ℕ, ◌+◌, pos, true, false, cond, [], ◌∷◌, sym, ap, ◌∙◌, arith, None}
use Rattle.std.specs.Prelude.{count_ones}
use Rattle.std.specs.Int.Bits as bits
use Rattle.std.proofs.Math.IntN.{+ℤ_comm, +ℤ_idl}
use Rattle.std.proofs.lemmas.List.Sums.{sum_by-cons}
use Rattle.rr_schema.specs.declared.consolidation.ConsolidationFunction.{ConsolidationFunction}
use Rattle.rr_schema.specs.declared.consolidation.ConsolidationFunction.TheVariants.{Average}
use Rattle.rr_schema.specs.Schema.{Layout, is_known_enough}
use Rattle.rr_archive.specs.declared.entry.Entry.{Entry}
use Rattle.rr_cells.specs.Rows.{average}
use Rattle.rr_fetch.specs.Consolidation.{of_entries, consolidation_of}

module _ (s : Layout) (archive : ℕ) (f : ConsolidationFunction) (e : Entry) where
  by_mask : consolidation_of s archive f (e ∷ [])
      ≡ cond (is_known_enough s archive (count_ones e.contribution.mask)) (of_entries f (e ∷ [])) None
  unfolding consolidation_of
  by_mask = ap (λ m. cond (is_known_enough s archive (count_ones m)) (of_entries f (e ∷ [])) None)
      (bits.or_zero_r e.contribution.mask)

  pub unknown_one : is_known_enough s archive (count_ones e.contribution.mask) ≡ false
      → None ≡ consolidation_of s archive f (e ∷ [])
  unknown_one few = sym (by_mask ∙ ap (λ b. cond b (of_entries f (e ∷ [])) None) few)

  pub known_one : is_known_enough s archive (count_ones e.contribution.mask) ≡ true
      → of_entries f (e ∷ []) ≡ consolidation_of s archive f (e ∷ [])
  known_one enough = sym (by_mask ∙ ap (λ b. cond b (of_entries f (e ∷ [])) None) enough)

pub average_of_one : (e : Entry) → average e.contribution.sum e.contribution.count ≡ of_entries Average (e ∷ [])
average_of_one e =
    let total = sym (+ℤ_comm e.contribution.sum (pos 0) ∙ +ℤ_idl e.contribution.sum) in
    let count = sym (sum_by-cons (λ x. x) e.contribution.count [] ∙ none_more e.contribution.count) in
    λ i. average (total i) (count i)
  where
    none_more : (n : ℕ) → n + 0 ≡ n
    none_more n = omega arith
