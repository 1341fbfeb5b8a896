-- Checks in a row: what holds of the answer, and that two models give the same answer.
use Rattle.std.proofs.Common.{◌≡◌, Bool, true, false, not, Option, Some, None, Result, Ok, Err, refl, sym, ap, subst, ◌∙◌, List, ℕ}
use Rattle.std.specs.Prelude.{IfOk, ok_or}
use Rattle.std.specs.Option.{option_map}
use Rattle.std.specs.FinMap.{FinMap, get, nat_cmp-IsAntisymmetric, slice_cmp-IsAntisymmetric, IsAntisymmetric}
use Rattle.std.specs.Cmp.Lexicographic.{nat_list_cmp_total}
use Rattle.rr_join.specs.Values.{map_values}
use Rattle.rr_join.proofs.ValuesLemmas.{get-map_values}
use Rattle.rr_text.specs.Bytes.{bytes_cmp}
use Rattle.rr_cluster.specs.declared.fault.CommandFault.{CommandFault}
use Rattle.rr_text.specs.Results.{◌>>=◌, check}
use Rattle.rr_cluster.specs.Commands.{on_ok}

pub names_apart : IsAntisymmetric bytes_cmp
names_apart = slice_cmp-IsAntisymmetric nat_cmp-IsAntisymmetric

-- ---- what holds of an answer

-- P holds of the answer, unless it is a refusal
unfoldable pub OfAnswer : {A : Type 0} → (A → Type 0) → Result A CommandFault → Type 0
OfAnswer P (Ok x) = P x
OfAnswer P (Err fault) = Unit {0}

pub last_holds : {A : Type 0} (P : A → Type 0) (x : A) → P x → OfAnswer P (Ok x)
unfolding OfAnswer
last_holds P x h = h

-- what holds of each answer of the second step holds of the answer of both
pub then_holds : {A B : Type 0} (P : B → Type 0) (r : Result A CommandFault) (next : A → Result B CommandFault)
    → ((x : A) → r ≡ Ok x → OfAnswer P (next x)) → OfAnswer P (r >>= next)
unfolding OfAnswer
then_holds P (Ok x) next h = h x refl
then_holds P (Err fault) next h = tt

pub holds_of : {A : Type 0} (P : A → Type 0) (r : Result A CommandFault) (x : A) → OfAnswer P r → r ≡ Ok x → P x
unfolding OfAnswer
holds_of P r x h e = subst (λ (q : Result _ CommandFault). OfAnswer P q) e h

pub not_true : (b : Bool) (fault : CommandFault) (u : Unit {0}) → check (not b) fault ≡ Ok u → b ≡ false
not_true true fault u e = absurd cc
not_true false fault u e = refl

-- ---- the answers of two models

-- the first answer is f of the second, and P holds of the second unless it is a refusal
unfoldable pub Agrees : {B C : Type 0} → (B → C) → (B → Type 0) → Result C CommandFault → Result B CommandFault → Type 0
Agrees f P r (Ok y) = (r ≡ Ok (f y)) × P y
Agrees f P r (Err fault) = r ≡ Err fault

-- the same check, and then what agrees
pub then_agree : {A B C : Type 0} (f : B → C) (P : B → Type 0) (r : Result A CommandFault)
    (next : A → Result C CommandFault) (other : A → Result B CommandFault)
    → ((x : A) → r ≡ Ok x → Agrees f P (next x) (other x)) → Agrees f P (r >>= next) (r >>= other)
unfolding Agrees
then_agree f P (Ok x) next other h = h x refl
then_agree f P (Err fault) next other h = refl

-- answers that agree, and then what agrees
pub both_agree : {A X B C : Type 0} (g : A → X) (Q : A → Type 0) (f : B → C) (P : B → Type 0)
    (r : Result X CommandFault) (t : Result A CommandFault) (next : X → Result C CommandFault)
    (other : A → Result B CommandFault)
    → Agrees g Q r t → ((y : A) → Q y → Agrees f P (next (g y)) (other y)) → Agrees f P (r >>= next) (t >>= other)
unfolding Agrees
both_agree g Q f P r (Ok y) next other e h = subst
    (λ (q : Result _ CommandFault). Agrees f P (q >>= next) (Ok y >>= other)) (sym e.0) (h y e.1)
both_agree g Q f P r (Err fault) next other e h = ap (λ (q : Result _ CommandFault). q >>= next) e

option_agrees : {V W B C : Type 0} (f : B → C) (P : B → Type 0) (view : V → W) (fault : CommandFault)
    (next : W → Result C CommandFault) (other : V → Result B CommandFault) (o : Option V)
    → ((v : V) → o ≡ Some v → Agrees f P (next (view v)) (other v))
    → Agrees f P (ok_or (option_map view o) fault >>= next) (ok_or o fault >>= other)
unfolding Agrees
option_agrees f P view fault next other None h = refl
option_agrees f P view fault next other (Some v) h = h v refl

-- the same look-up, and then what agrees
pub found_agree : {V W B C : Type 0} (f : B → C) (P : B → Type 0) (view : V → W) (m : FinMap bytes_cmp V)
    (name : List ℕ) (fault : CommandFault) (next : W → Result C CommandFault) (other : V → Result B CommandFault)
    → ((v : V) → get m name ≡ Some v → Agrees f P (next (view v)) (other v))
    → Agrees f P (ok_or (get (map_values view m) name) fault >>= next) (ok_or (get m name) fault >>= other)
found_agree {V} {W} f P view m name fault next other h =
    subst (λ (o : Option W). Agrees f P (ok_or o fault >>= next) (ok_or (get m name) fault >>= other))
    (sym (get-map_values nat_list_cmp_total names_apart view m name))
    (option_agrees f P view fault next other (get m name) h)

-- the last step
pub done_agrees : {B C : Type 0} (f : B → C) (P : B → Type 0) (x : C) (y : B) → x ≡ f y → P y → Agrees f P (Ok x) (Ok y)
unfolding Agrees
done_agrees f P x y e h = (ap (λ z. Ok z) e, h)

-- what is made of answers that agree
pub on_ok-agrees : {B C D E : Type 0} (f : B → C) (P : B → Type 0) (f' : D → E) (P' : D → Type 0) (before : B → D)
    (after : C → E) → ((y : B) → after (f y) ≡ f' (before y)) → ((y : B) → P y → P' (before y))
    → (r : Result C CommandFault) (t : Result B CommandFault) → Agrees f P r t
    → Agrees f' P' (on_ok after r) (on_ok before t)
unfolding Agrees
on_ok-agrees f P f' P' before after same holds r (Ok y) h =
    (ap (on_ok after) h.0 ∙ ap (λ z. Ok z) (same y), holds y h.1)
on_ok-agrees f P f' P' before after same holds r (Err fault) h = ap (on_ok after) h

pub same_answer : {B C : Type 0} (f : B → C) (P : B → Type 0) (r : Result C CommandFault) (t : Result B CommandFault)
    → Agrees f P r t → r ≡ on_ok f t
unfolding Agrees
same_answer f P r (Ok y) h = h.0
same_answer f P r (Err fault) h = h

pub holds_after : {B C : Type 0} (f : B → C) (P : B → Type 0) (r : Result C CommandFault) (t : Result B CommandFault)
    → Agrees f P r t → IfOk t P
unfolding Agrees
holds_after f P r (Ok y) h = h.1
holds_after f P r (Err fault) h = tt
