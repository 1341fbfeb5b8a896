-- The newest checkpoint, one name after the other.
use Rattle.std.proofs.Common.{◌≡◌, ℕ, zero, suc, ◌+◌, ◌<◌, ◌≤◌, List, [], ◌∷◌, ◌++◌, length, get_or, take, Option, None, Some, refl, sym, ap, subst, ◌∙◌, inl, inr, ◌⊎◌, true, false, leb, arith, append-nil, add-one}
use Rattle.std.specs.Prelude.{All, Contains, max, option_to_list}
use Rattle.std.specs.List.{filter_map}
use Rattle.std.proofs.Math.Nat.{le-max_left, le-max_right, le_trans, max-eq_left, max-eq_right}
use Rattle.std.proofs.Math.Seq.{take-suc}
use Rattle.std.proofs.lemmas.Bool.{cases_Bool, leb-true, leb-false}
use Rattle.std.proofs.lemmas.List.Elements.{All-append, Contains-append_left, Contains-append_right, filter_map-append}
use Rattle.rr_directory.specs.declared.name.FileName.{FileName}
use Rattle.rr_directory.specs.declared.name.FileName.TheVariants.{Journal, Checkpoint}
use Rattle.rr_directory.specs.Start.{IsGreatest, IsNewest, checkpoint_offset, greater}

alone : (n : ℕ) → All (λ (o : ℕ). o ≤ n) (n ∷ [])
alone n zero d lt = omega arith
alone n (suc k) d lt = absurd (omega (arith, lt))

is_there : (n : ℕ) → Contains (n ∷ []) n
is_there n = (0, omega arith, refl)

pub greatest_more : (offsets : List ℕ) (o p : Option ℕ) → IsGreatest offsets o
    → IsGreatest (offsets ++ option_to_list p) (greater o p)
greatest_more offsets None None h = append-nil offsets ∙ h
greatest_more offsets (Some a) None h = subst (λ (l : List ℕ). IsGreatest l (Some a)) (sym (append-nil offsets)) h
greatest_more offsets None (Some b) h =
    subst (λ (l : List ℕ). IsGreatest (l ++ b ∷ []) (Some b)) (sym h) (is_there b, alone b)
greatest_more offsets (Some a) (Some b) h =
    (by_order (cases_Bool (leb a b)), All-append (λ (o : ℕ). o ≤ max a b) offsets (b ∷ []) first last)
  where
    first : All (λ (o : ℕ). o ≤ max a b) offsets
    first k d lt = le_trans (h.1 k d lt) (le-max_left a b)

    last : All (λ (o : ℕ). o ≤ max a b) (b ∷ [])
    last zero d lt = le-max_right a b
    last (suc k) d lt = absurd (omega (arith, lt))

    by_order : (leb a b ≡ true) ⊎ (leb a b ≡ false) → Contains (offsets ++ b ∷ []) (max a b)
    by_order (inl le) =
        let within : a ≤ b = leb-true a b le in
        subst (Contains (offsets ++ b ∷ [])) (sym (max-eq_right within))
        (Contains-append_right offsets (b ∷ []) b (is_there b))
    by_order (inr gt) =
        let above = leb-false a b gt in
        let within : b ≤ a = omega (arith, above) in
        subst (Contains (offsets ++ b ∷ [])) (sym (max-eq_left within))
        (Contains-append_left offsets (b ∷ []) a h.0)

one_of : (n : FileName) → filter_map checkpoint_offset (n ∷ []) ≡ option_to_list (checkpoint_offset n)
one_of (Journal o) = refl
one_of (Checkpoint o) = refl

pub newest_more : (names : List FileName) (i : ℕ) (d : FileName) (o : Option ℕ) → i < length names
    → IsNewest (take i names) o → IsNewest (take (i + 1) names) (greater o (checkpoint_offset (get_or names i d)))
newest_more names i d o lt h =
    let n = get_or names i d in
    let more : filter_map checkpoint_offset (take (i + 1) names)
    ≡ filter_map checkpoint_offset (take i names) ++ option_to_list (checkpoint_offset n) =
    ap (λ (k : ℕ). filter_map checkpoint_offset (take k names)) (add-one i)
    ∙ ap (filter_map checkpoint_offset) (take-suc names i d lt)
    ∙ filter_map-append checkpoint_offset (take i names) (n ∷ [])
    ∙ ap (λ (l : List ℕ). filter_map checkpoint_offset (take i names) ++ l) (one_of n) in
    subst (λ (l : List ℕ). IsGreatest l (greater o (checkpoint_offset n))) (sym more)
    (greatest_more (filter_map checkpoint_offset (take i names)) o (checkpoint_offset n) h)
