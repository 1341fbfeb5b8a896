-- The text of a point, field by field.
use Rattle.std.proofs.Common.{◌≡◌, ℕ, zero, suc, ◌+◌, ◌<◌, map, get_or, take, List, [], ◌∷◌, ◌++◌, length, ap, ◌∙◌, arith}
use Rattle.std.specs.List.{flat_map, AllByRecursion}
use Rattle.std.proofs.lemmas.Grind.{flat_map-append}
use Rattle.std.proofs.lemmas.List.{append-nil, map_more}

-- what holds of each field of a point holds of the one at a place
pub field_at : {A B : Type 0} (P : B → Type 0) (view : A → B) (xs : List A) (i : ℕ) (d : A)
    → AllByRecursion P (map view xs) → i < length xs → P (view (get_or xs i d))
field_at P view [] i d all lt = absurd (omega arith)
field_at P view (x ∷ xs) zero d all lt = all.0
field_at P view (x ∷ xs) (suc i) d all lt = field_at P view xs i d all.1 (omega arith)

-- the text of one field more
pub texts_more : {A B : Type 0} (text : B → List ℕ) (view : A → B) (xs : List A) (i : ℕ) (d : A) → i < length xs
    → flat_map text (map view (take (i + 1) xs)) ≡ flat_map text (map view (take i xs)) ++ text (view (get_or xs i d))
texts_more text view xs i d lt =
    ap (flat_map text) (map_more view xs i d lt)
    ∙ flat_map-append text (map view (take i xs)) (view (get_or xs i d) ∷ [])
    ∙ ap (λ (t : List ℕ). flat_map text (map view (take i xs)) ++ t) (append-nil (text (view (get_or xs i d))))
