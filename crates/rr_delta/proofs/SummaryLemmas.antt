-- Names and versions of the cells of a walk.
use Rattle.std.proofs.Common.{◌≡◌, ℕ, zero, suc, ◌+◌, ◌-◌, ◌<◌, ◌≤◌, List, [], ◌∷◌, ◌++◌, map, take, refl, ap, ◌∙◌, append_assoc, arith, T, IfOk, Result, Ok, Err}
use Rattle.std.proofs.Math.Seq.{take-nil}
use Rattle.std.proofs.lemmas.List.{append-nil}
use Rattle.std.specs.Global.{Vec}
use Rattle.std.specs.FinMap.{is_sorted}
use Rattle.rr_join.proofs.Booleans.{true_from_T}
use Rattle.rr_cells.specs.CellNames.{cell_name_cmp}
use Rattle.rr_cells.specs.CellBounds.{NamedCell}
use Rattle.rr_delta.specs.declared.name.Name.{Name}
use Rattle.rr_delta.specs.Names.{NamedVersion, named_version, owned_name}
use Rattle.rr_delta.specs.Difference.{IsSummary}

-- what was listed, and what is still to be listed of what is left
abbrev pub listed_so_far : List NamedVersion → ℕ → List NamedCell → List NamedVersion
listed_so_far prefix n left = prefix ++ take n (map named_version left)

pub one_listed : (prefix : List NamedVersion) (count i : ℕ) (e : NamedCell) (left : List NamedCell) → i < count
    → listed_so_far (prefix ++ named_version e ∷ []) (count - (i + 1)) left ≡ listed_so_far prefix (count - i)
    (e ∷ left)
one_listed prefix count i e left lt =
    append_assoc prefix (named_version e ∷ []) (take (count - (i + 1)) (map named_version left))
    ∙ ap (λ n. prefix ++ take n (map named_version (e ∷ left))) (one_less count i lt)
  where
    one_less : (m k : ℕ) → k < m → suc (m - (k + 1)) ≡ m - k
    one_less m k h = omega arith

pub all_listed : (prefix : List NamedVersion) (count i : ℕ) (left : List NamedCell) → count ≤ i
    → listed_so_far prefix (count - i) left ≡ prefix
all_listed prefix count i left le = ap (λ n. prefix ++ take n (map named_version left)) none
    ∙ ap (λ l. prefix ++ l) (nothing (map named_version left)) ∙ append-nil prefix
  where
    none : count - i ≡ 0
    none = omega arith

    nothing : (vs : List NamedVersion) → take 0 vs ≡ []
    nothing [] = refl
    nothing (v ∷ vs) = refl

pub none_left : (prefix : List NamedVersion) (n : ℕ) → listed_so_far prefix n [] ≡ prefix
none_left prefix zero = append-nil prefix
none_left prefix (suc n) = append-nil prefix

pub none_taken : {X : Type 0} (n : ℕ) (xs : List X) → xs ≡ [] → take n xs ≡ []
none_taken n xs is = ap (take n) is ∙ take-nil n

-- names that are listed in order are a summary
pub names_ascend : {E : Type 0} (r : Result (Vec Name) E) (vs : List NamedVersion) → T (is_sorted cell_name_cmp vs)
    → IfOk r (λ names. map owned_name names.items ≡ vs) → IfOk r (λ names. IsSummary (map owned_name names.items))
names_ascend (Ok names) vs h is = ap (is_sorted cell_name_cmp) is ∙ true_from_T (is_sorted cell_name_cmp vs) h
names_ascend (Err fault) vs h is = tt
