-- An upgrade has one archive more.
use Rattle.std.proofs.Common.{◌≡◌, ℕ, suc, ◌+◌, ◌<◌, true, false, cond, List, [], ◌∷◌, ◌++◌, length, take, drop, refl, sym, ap, ◌∙◌, arith}
use Rattle.std.specs.Prelude.{nat_lt}
use Rattle.rr_schema.specs.declared.archive.ArchiveSpec.{ArchiveSpec}
use Rattle.rr_schema.specs.Added.{without}
use Rattle.rr_cells.specs.RaisingLaws.{UpgradeAdds}
use Rattle.rr_cells.specs.Raising.{with_archive, place_for}

placed : (a : ArchiveSpec) (xs : List ArchiveSpec)
    → (place_for a xs < length (with_archive a xs)) × (xs ≡ without (place_for a xs) (with_archive a xs))
placed a [] = (omega arith, refl)
placed a (b ∷ bs) = elim (nat_lt a.steps b.steps) as
    (λ t. (cond t 0 (suc (place_for a bs)) < length (cond t (a ∷ b ∷ bs) (b ∷ with_archive a bs)))
    × (b ∷ bs ≡ without (cond t 0 (suc (place_for a bs))) (cond t (a ∷ b ∷ bs) (b ∷ with_archive a bs)))) [
      | true ↦ (omega arith, refl)
      | false ↦ let rest = placed a bs in (
        omega (arith, rest.0),
        ap (λ l. b ∷ l) rest.1
            ∙ next (place_for a bs) (with_archive a bs),
      )
    ]
  where
    next : (p : ℕ) (l : List ArchiveSpec) → b ∷ without p l ≡ without (suc p) (b ∷ l)
    next p l = let at : suc p + 1 ≡ suc (p + 1) = omega arith in
        sym (ap (λ k. take (suc p) (b ∷ l) ++ drop k (b ∷ l)) at)

pub upgrade_adds : UpgradeAdds
upgrade_adds t a = let p = placed a t.archives in record { step = refl; number = p.0; others = p.1 }
