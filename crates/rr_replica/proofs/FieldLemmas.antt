-- Fields put one after the other.
use Rattle.std.proofs.Common.{◌≡◌, ℕ, zero, suc, ◌<◌, ℤ, true, false, Result, Ok, Err, List, [], ◌∷◌, ◌++◌, length, map, take, drop, get_or, refl, sym, ap, ◌∙◌, arith}
use Rattle.std.proofs.lemmas.List.{take-append-drop}
use Rattle.std.specs.Prelude.{OnOk, OnErr}
use Rattle.std.specs.Result.{is_err}
use Rattle.std.specs.List.{AllByRecursion}
use Rattle.rr_point.specs.Key.{key_text}
use Rattle.rr_point.specs.Point.{PointView}
use Rattle.rr_cells.specs.ReplicaState.{with_put}
use Rattle.rr_replica.specs.Writing.{all_put, with_fields, WritingGoesOn}

-- fields and then others
pub all_put-append : {S : Type 0} (put : S → List ℕ → ℤ → ℤ → S) (s : S) (p : PointView) (time : ℤ)
    (fields others : List (List ℕ × ℤ))
    → all_put put s p time (fields ++ others) ≡ all_put put (all_put put s p time fields) p time others
all_put-append put s p time [] others = refl
all_put-append put s p time (field ∷ fields) others =
    all_put-append put (put s (key_text p field.0) time field.1) p time fields others

pub writing_goes_on : WritingGoesOn
writing_goes_on h p time fields n = sym (all_put-append with_put h p time (take n fields) (drop n fields))
    ∙ ap (with_fields h p time) (take-append-drop n fields)

-- what holds of each field of a point holds of the one at a place
pub field_at : {A B : Type 0} (P : B → Type 0) (view : A → B) (xs : List A) (i : ℕ) (d : A)
    → AllByRecursion P (map view xs) → i < length xs → P (view (get_or xs i d))
field_at P view [] i d all lt = absurd (omega arith)
field_at P view (x ∷ xs) zero d all lt = all.0
field_at P view (x ∷ xs) (suc i) d all lt = field_at P view xs i d all.1 (omega arith)

-- the first of the fields, seen, are the first that are seen
pub take-view : {A B : Type 0} (view : A → B) (i : ℕ) (xs : List A) → map view (take i xs) ≡ take i (map view xs)
take-view view zero xs = refl
take-view view (suc i) [] = refl
take-view view (suc i) (x ∷ xs) = ap (λ l. view x ∷ l) (take-view view i xs)

-- what holds where a call failed, and where it did not
pub failed : {A E : Type 0} {P : Type 0} (r : Result A E) → OnErr r P → true ≡ is_err r → P
failed (Ok x) h e = absurd cc
failed (Err fault) h e = h

pub passed : {A E : Type 0} {P : Type 0} (r : Result A E) → OnOk r P → false ≡ is_err r → P
passed (Ok x) h e = h
passed (Err fault) h e = absurd cc
