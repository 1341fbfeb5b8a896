-- Tests that pass, taken apart.
use Rattle.std.proofs.Common.{◌≡◌, Bool, true, false, ◌&&◌, ◌||◌, T, refl, sym, true≢false, ⊎_elim}
use Rattle.std.proofs.lemmas.Bool.{and_parts, or_cases}

-- two tests agree where each passes if the other does
pub same_test : (a b : Bool) → (a ≡ true → b ≡ true) → (b ≡ true → a ≡ true) → a ≡ b
same_test true true f g = refl
same_test true false f g = sym (f refl)
same_test false true f g = g refl
same_test false false f g = refl

pub and_first : (a b : Bool) → (a && b) ≡ true → a ≡ true
and_first a b e = (and_parts a b e).0

pub and_second : (a b : Bool) → (a && b) ≡ true → b ≡ true
and_second a b e = (and_parts a b e).1

pub either_case : {G : Type 0} (a b : Bool) → (a || b) ≡ true → (a ≡ true → G) → (b ≡ true → G) → G
either_case a b e f g = ⊎_elim f g (or_cases a b e)

-- ---- tests as facts

pub T_from_true : (a : Bool) → a ≡ true → T a
T_from_true true e = tt
T_from_true false e = absurd (true≢false (sym e))

pub true_from_T : (a : Bool) → T a → a ≡ true
true_from_T true h = refl
true_from_T false h = absurd h

pub T_and : (a b : Bool) → T a → T b → T (a && b)
T_and true b p q = q
T_and false b p q = absurd p

pub first_T : (a b : Bool) → T (a && b) → T a
first_T true b h = tt
first_T false b h = h

pub second_T : (a b : Bool) → T (a && b) → T b
second_T true b h = h
second_T false b h = absurd h
