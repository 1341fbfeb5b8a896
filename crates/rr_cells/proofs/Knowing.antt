-- What is known, by the marks that it holds.
use Rattle.std.proofs.Common.{◌≡◌, Bool, true, false, cond, ◌&&◌, ◌||◌, List, [], ◌∷◌, ◌++◌, refl, sym, ap, ◌∙◌, true≢false, Option, None, Some, is_some}
use Rattle.std.specs.List.{list_any}
use Rattle.std.specs.Ordering.{eq_by_cmp}
use Rattle.std.specs.FinMap.{get, keys, empty, retain_keys, get-empty, get-retain_keys, same_map}
use Rattle.std.proofs.Math.Bool.{or_comm, or_assoc, or_self, or-false}
use Rattle.std.proofs.lemmas.List.Folds.{list_any-append}
use Rattle.rr_schema.specs.Schema.{Layout, IsLayout}
use Rattle.rr_join.specs.Maps.{set_of}
use Rattle.rr_join.proofs.Members.{is_in, same_from_tie, head_in, is_in-append, any_by_members}
use Rattle.rr_join.proofs.Lookups.{get-map_of, is_in-keys, marked, is_some-marked, marked-is_some}
use Rattle.rr_join.proofs.Horizons.{live_by_members, live-append}
use Rattle.rr_cells.specs.CellNames.{CellName, cell_name_cmp}
use Rattle.rr_cells.specs.Samples.{Mark, mark_cmp, name_of, names_of}
use Rattle.rr_cells.specs.Knowledge.{Knowledge, knows, union, with_marks, is_live_in, live, cell}
use Rattle.rr_cells.specs.KnowledgeLaws.{UnionIsCommutative, UnionIsAssociative, UnionIsIdempotent, DeadStayDead}
use Rattle.rr_cells.proofs.Orders.{cell_name_cmp_total, cell_name_cmp-IsAntisymmetric, mark_cmp_total, mark_cmp-IsAntisymmetric}
use Rattle.rr_cells.proofs.Horizon.{live_horizon}

-- ---- marks

pub same_knowledge : (k l : Knowledge) → ((m : Mark) → knows k m ≡ knows l m) → k ≡ l
same_knowledge k l is = same_map mark_cmp_total mark_cmp-IsAntisymmetric k l
    (λ m. marked-is_some (get k m) ∙ ap marked (is m) ∙ sym (marked-is_some (get l m)))

pub is_in-keys_of : (k : Knowledge) (m : Mark) → is_in mark_cmp (keys k) m ≡ knows k m
is_in-keys_of k m = is_in-keys mark_cmp_total mark_cmp-IsAntisymmetric k m

pub knows-empty : (m : Mark) → knows empty m ≡ false
knows-empty m = ap is_some (get-empty mark_cmp m)

is_some_kept : {V : Type 0} (b : Bool) (x : Option V) → is_some (cond b x None) ≡ (is_some x && b)
is_some_kept true None = refl
is_some_kept true (Some v) = refl
is_some_kept false None = refl
is_some_kept false (Some v) = refl

pub knows-retain : (k : Knowledge) (test : Mark → Bool) (m : Mark)
    → knows (retain_keys k test) m ≡ (knows k m && test m)
knows-retain k test m = ap is_some (get-retain_keys k test m (λ x e. ap test (sym (mark_cmp-IsAntisymmetric m x e))))
    ∙ is_some_kept (test m) (get k m)

pub knows-set_of : (ms : List Mark) (m : Mark) → knows (set_of ms) m ≡ is_in mark_cmp ms m
knows-set_of ms m = ap is_some (get-map_of mark_cmp_total mark_cmp-IsAntisymmetric ms (λ _. Some tt) m)
    ∙ is_some-marked (is_in mark_cmp ms m)

pub knows-union : (k l : Knowledge) (m : Mark) → knows (union k l) m ≡ (knows k m || knows l m)
knows-union k l m = knows-set_of (keys k ++ keys l) m
    ∙ is_in-append mark_cmp_total mark_cmp-IsAntisymmetric (keys k) (keys l) m
    ∙ (λ i. is_in-keys_of k m i || is_in-keys_of l m i)

pub knows-with_marks : (k : Knowledge) (ms : List Mark) (m : Mark)
    → knows (with_marks k ms) m ≡ (knows k m || is_in mark_cmp ms m)
knows-with_marks k ms m = knows-union k (set_of ms) m ∙ ap (λ b. knows k m || b) (knows-set_of ms m)

-- what knows no mark lists none
pub no_keys : (k : Knowledge) → ((m : Mark) → knows k m ≡ false) → keys k ≡ []
no_keys k none = nothing_in (keys k) (λ m. is_in-keys_of k m ∙ none m)
  where
    nothing_in : (ms : List Mark) → ((m : Mark) → is_in mark_cmp ms m ≡ false) → ms ≡ []
    nothing_in [] f = refl
    nothing_in (x ∷ xs) f = absurd (true≢false (sym (head_in mark_cmp_total mark_cmp-IsAntisymmetric x xs) ∙ f x))

-- ---- unions

pub union_comm : UnionIsCommutative
union_comm k l = same_knowledge (union k l) (union l k)
    (λ m. knows-union k l m ∙ or_comm (knows k m) (knows l m) ∙ sym (knows-union l k m))

pub union_assoc : UnionIsAssociative
union_assoc j k l = same_knowledge (union (union j k) l) (union j (union k l)) (λ m.
    knows-union (union j k) l m ∙ ap (λ b. b || knows l m) (knows-union j k m)
    ∙ or_assoc (knows j m) (knows k m) (knows l m)
    ∙ sym (knows-union j (union k l) m ∙ ap (λ b. knows j m || b) (knows-union k l m)))

pub union_itself : UnionIsIdempotent
union_itself k = same_knowledge (union k k) k (λ m. knows-union k k m ∙ or_self (knows k m))

pub with_marks-nil : (k : Knowledge) → with_marks k [] ≡ k
with_marks-nil k = same_knowledge (with_marks k []) k (λ m. knows-with_marks k [] m ∙ or-false (knows k m))

-- to know marks too is to know one of them too, and then the others
pub with_marks-cons : (k : Knowledge) (m : Mark) (ms : List Mark)
    → with_marks k (m ∷ ms) ≡ with_marks (with_marks k (m ∷ [])) ms
with_marks-cons k m ms = sym (same_knowledge (with_marks (with_marks k (m ∷ [])) ms) (with_marks k (m ∷ ms)) (λ y.
    knows-with_marks (with_marks k (m ∷ [])) ms y ∙ ap (λ b. b || is_in mark_cmp ms y) (knows-with_marks k (m ∷ []) y)
    ∙ sym (knows-with_marks k (m ∷ ms) y ∙ regroup (knows k y) (eq_by_cmp mark_cmp y m) (is_in mark_cmp ms y))))
  where
    regroup : (a b c : Bool) → (a || (b || c)) ≡ ((a || (b || false)) || c)
    regroup true b c = refl
    regroup false true c = refl
    regroup false false c = refl

-- ---- names

pub is_in-names_of : (s : Layout) (ms : List Mark) (n : CellName)
    → is_in cell_name_cmp (names_of s ms) n ≡ list_any (λ m. eq_by_cmp cell_name_cmp n (name_of s m)) ms
is_in-names_of s [] n = refl
is_in-names_of s (m ∷ ms) n = ap (λ b. eq_by_cmp cell_name_cmp n (name_of s m) || b) (is_in-names_of s ms n)

pub name_from_tie : (s : Layout) (m : Mark) (n : CellName) → eq_by_cmp cell_name_cmp (name_of s m) n ≡ true
    → name_of s m ≡ n
name_from_tie s m n e = same_from_tie cell_name_cmp_total cell_name_cmp-IsAntisymmetric (name_of s m) n e

names_of_union : (s : Layout) (k l : Knowledge) (n : CellName)
    → is_in cell_name_cmp (names_of s (keys (union k l))) n
    ≡ is_in cell_name_cmp (names_of s (keys k) ++ names_of s (keys l)) n
names_of_union s k l n =
    let test : Mark → Bool = λ m. eq_by_cmp cell_name_cmp n (name_of s m) in
    is_in-names_of s (keys (union k l)) n
    ∙ any_by_members mark_cmp_total mark_cmp-IsAntisymmetric test (keys (union k l)) (keys k ++ keys l)
    (λ m. is_in-keys_of (union k l) m ∙ knows-set_of (keys k ++ keys l) m)
    ∙ list_any-append test (keys k) (keys l)
    ∙ sym (is_in-append cell_name_cmp_total cell_name_cmp-IsAntisymmetric (names_of s (keys k)) (names_of s (keys l)) n
    ∙ (λ i. is_in-names_of s (keys k) n i || is_in-names_of s (keys l) n i))

-- a name is live in a union where it is live in both
pub live_in-union : (s : Layout) → IsLayout s → (k l : Knowledge) (n : CellName)
    → is_live_in s (union k l) n ≡ (is_live_in s k n && is_live_in s l n)
live_in-union s is k l n =
    live_by_members cell_name_cmp_total cell_name_cmp-IsAntisymmetric (live_horizon s is)
    (names_of s (keys (union k l))) (names_of s (keys k) ++ names_of s (keys l)) n (names_of_union s k l)
    ∙ live-append cell_name_cmp_total cell_name_cmp-IsAntisymmetric (live_horizon s is) (names_of s (keys k))
    (names_of s (keys l)) n

-- who knows as much knows both
union_within : (k l : Knowledge) → ((m : Mark) → knows k m ≡ true → knows l m ≡ true) → union k l ≡ l
union_within k l within = same_knowledge (union k l) l (λ m. knows-union k l m ∙ by m (knows k m) refl)
  where
    by : (m : Mark) (b : Bool) → knows k m ≡ b → (b || knows l m) ≡ knows l m
    by m true e = sym (within m e)
    by m false e = refl

pub dead_stay_dead : DeadStayDead
dead_stay_dead s k l n is within dead = ap (λ (j : Knowledge). is_live_in s j n) (sym (union_within k l within))
    ∙ live_in-union s is k l n ∙ ap (λ b. b && is_live_in s l n) dead

-- ---- live marks

pub knows-live : (s : Layout) (k : Knowledge) (m : Mark)
    → knows (live s k) m ≡ (knows k m && is_live_in s k (name_of s m))
unfolding live
knows-live s k m = knows-retain k (λ x. is_live_in s k (name_of s x)) m

pub knows-cell : (s : Layout) (k : Knowledge) (n : CellName) (m : Mark)
    → knows (cell s k n) m ≡ ((knows k m && is_live_in s k (name_of s m)) && eq_by_cmp cell_name_cmp (name_of s m) n)
unfolding cell
knows-cell s k n m = knows-retain (live s k) (λ x. eq_by_cmp cell_name_cmp (name_of s x) n) m
    ∙ ap (λ b. b && eq_by_cmp cell_name_cmp (name_of s m) n) (knows-live s k m)
