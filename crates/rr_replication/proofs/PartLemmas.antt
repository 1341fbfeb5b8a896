-- Files that are gone through one after the other.
use Rattle.std.proofs.Common.{◌≡◌, ℕ, ◌+◌, ◌<◌, Bool, true, false, List, [], ◌∷◌, length, drop, get_or, Option, None, Some, refl, sym, ap, subst, ◌∙◌, arith}
use Rattle.std.specs.Prelude.{min, max, nat_lt, if◌then◌else◌}
use Rattle.std.proofs.lemmas.List.{drop_more}
use Rattle.rr_replication.specs.Part.{ends_at, sooner}

-- ---- where a file begins

-- the later of two beginnings, where they are there
abbrev pub joined : Option ℕ → Option ℕ → Option ℕ
joined None y = y
joined (Some x) None = Some x
joined (Some x) (Some y) = Some (max x y)

-- ---- where it ends

sooner_twice : (end f g from : ℕ) → sooner (sooner end f from) g from ≡ sooner (sooner end g from) f from
sooner_twice end f g from = by_tests (nat_lt from f) (nat_lt from g)
  where
    by_tests : (a b : Bool) → (if b then min (if a then min end f else end) g else (if a then min end f else end))
        ≡ (if a then min (if b then min end g else end) f else (if b then min end g else end))
    by_tests true true = omega arith
    by_tests true false = refl
    by_tests false true = refl
    by_tests false false = refl

ends_sooner : (files : List ℕ) (end file from : ℕ)
    → ends_at files (sooner end file from) from ≡ sooner (ends_at files end from) file from
ends_sooner [] end file from = refl
ends_sooner (f ∷ files) end file from =
    ap (λ (n : ℕ). sooner n f from) (ends_sooner files end file from)
    ∙ sooner_twice (ends_at files end from) file f from

pub one_more_ended : (files : List ℕ) (i end next from all : ℕ) → i < length files
    → next ≡ sooner end (get_or files i 0) from → ends_at (drop i files) end from ≡ all
    → ends_at (drop (i + 1) files) next from ≡ all
one_more_ended files i end next from all lt is before =
    let rest = drop (i + 1) files in
    ap (λ (n : ℕ). ends_at rest n from) is
    ∙ ends_sooner rest end (get_or files i 0) from
    ∙ sym (ap (λ (fs : List ℕ). ends_at fs end from) (drop_more files i 0 lt)) ∙ before

pub still_behind : (end file next from : ℕ) → next ≡ sooner end file from → from < end → from < next
still_behind end file next from is lt = subst (λ (n : ℕ). from < n) (sym is) (by_test (nat_lt from file) refl)
  where
    by_test : (b : Bool) → nat_lt from file ≡ b → from < (if b then min end file else end)
    by_test true e = grind (arith, e)
    by_test false e = lt
