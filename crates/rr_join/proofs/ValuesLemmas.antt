-- What a map has at each name once a value is inserted, or a function is applied to each.
use Rattle.std.proofs.Common.{◌≡◌, ◌≢◌, Bool, true, false, cond, List, [], ◌∷◌, Ordering, Less, Equal, Greater, Option, Some, None, is_some, refl, sym, ap, ◌∙◌, true≢false}
use Rattle.std.specs.Option.{option_map}
use Rattle.std.specs.Ordering.{eq_by_cmp, is_eq, match_ordering}
use Rattle.std.specs.Cmp.{IsTotalOrder}
use Rattle.std.specs.Map.{lookup, set_value}
use Rattle.std.specs.BTreeMap.{BTreeMap, insert_entry}
use Rattle.std.specs.FinMap.{FinMap, IsAntisymmetric, empty, get, insert, keys, get-empty, get-insert, same_map}
use Rattle.rr_join.specs.Values.{map_values, get_called}
use Rattle.rr_join.proofs.Lookups.{get-map_of_all, is_in-keys}
use Rattle.rr_join.proofs.Members.{same_from_tie, tie_from_same, tie_itself}

-- ---- finite maps

module _ {N V : Type 0} {R : N → N → Ordering} (o : IsTotalOrder R) (same : IsAntisymmetric R) where
  -- at a name stands what was inserted there, and else what stood there before
  pub insert_cases : {P : Type 0} (m : FinMap R V) (name : N) (v : V) (q : N) (x : V) → get (insert m name v) q ≡ Some x
      → (q ≡ name → v ≡ x → P) → (q ≢ name → get m q ≡ Some x → P) → P
  insert_cases {P} m name v q x e itself other =
      elim (eq_by_cmp R q name) as (λ b. eq_by_cmp R q name ≡ b → cond b (Some v) (get m q) ≡ Some x → P) [
        | true ↦ λ t h. itself (same_from_tie o same q name t) (ap (λ (y : Option V). value y) h)
        | false ↦ λ t h. other (λ s. true≢false (sym (tie_from_same o same q name s) ∙ t)) h
      ] refl (sym (get-insert o m name v q) ∙ e)
    where
      value : Option V → V
      value None = v
      value (Some y) = y

  pub get-insert_itself : (m : FinMap R V) (name : N) (v : V) → get (insert m name v) name ≡ Some v
  get-insert_itself m name v = get-insert o m name v name
      ∙ ap (λ (b : Bool). cond b (Some v) (get m name)) (tie_itself o same name)

  -- to insert what stands at the name changes nothing
  pub insert_there : (m : FinMap R V) (name : N) (v : V) → get m name ≡ Some v → insert m name v ≡ m
  insert_there m name v here = same_map o same (insert m name v) m (λ q.
      get-insert o m name v q
      ∙ elim (eq_by_cmp R q name) as (λ b. eq_by_cmp R q name ≡ b → cond b (Some v) (get m q) ≡ get m q) [
        | true ↦ λ t. sym here ∙ ap (get m) (sym (same_from_tie o same q name t))
        | false ↦ λ t. refl
      ] refl)

  -- of two values that are inserted at one name the second stays
  pub insert_twice : (m : FinMap R V) (name : N) (v w : V) → insert (insert m name v) name w ≡ insert m name w
  insert_twice m name v w = same_map o same (insert (insert m name v) name w) (insert m name w) (λ q.
      get-insert o (insert m name v) name w q
      ∙ elim (eq_by_cmp R q name) as (λ b. eq_by_cmp R q name ≡ b
      → cond b (Some w) (get (insert m name v) q) ≡ cond b (Some w) (get m q)) [
        | true ↦ λ t. refl
        | false ↦ λ t. get-insert o m name v q ∙ ap (λ (b : Bool). cond b (Some v) (get m q)) t
      ] refl
      ∙ sym (get-insert o m name w q))

-- ---- a function of each value

is_some-option_map : {V W : Type 0} (f : V → W) (x : Option V) → is_some x ≡ is_some (option_map f x)
is_some-option_map f None = refl
is_some-option_map f (Some v) = refl

module _ {N V W : Type 0} {R : N → N → Ordering} (o : IsTotalOrder R) (same : IsAntisymmetric R) (f : V → W) where
  pub get-map_values : (m : FinMap R V) (q : N) → get (map_values f m) q ≡ option_map f (get m q)
  unfolding map_values
  get-map_values m q = get-map_of_all o same (keys m) (λ name. option_map f (get m name))
      (λ name e. is_in-keys o same m name ∙ is_some-option_map f (get m name) ∙ e) q

  pub is_some-map_values : (m : FinMap R V) (q : N) → is_some (get (map_values f m) q) ≡ is_some (get m q)
  is_some-map_values m q = ap is_some (get-map_values m q) ∙ sym (is_some-option_map f (get m q))

  pub map_values-empty : map_values {R = R} f empty ≡ empty
  map_values-empty = same_map o same (map_values f empty) empty (λ q.
      get-map_values empty q ∙ ap (option_map f) (get-empty R q) ∙ sym (get-empty R q))

  option_map-cond : (b : Bool) (v : V) (x : Option V)
      → option_map f (cond b (Some v) x) ≡ cond b (Some (f v)) (option_map f x)
  option_map-cond true v x = refl
  option_map-cond false v x = refl

  pub map_values-insert : (m : FinMap R V) (name : N) (v : V)
      → map_values f (insert m name v) ≡ insert (map_values f m) name (f v)
  map_values-insert m name v = same_map o same (map_values f (insert m name v)) (insert (map_values f m) name (f v))
      (λ q.
      get-map_values (insert m name v) q ∙ ap (option_map f) (get-insert o m name v q)
      ∙ option_map-cond (eq_by_cmp R q name) v (get m q)
      ∙ sym (get-insert o (map_values f m) name (f v) q
      ∙ ap (cond (eq_by_cmp R q name) (Some (f v))) (get-map_values m q)))

-- ---- maps in memory

either_order : {V : Type 0} (a b : Bool) (v w : V) (rest : Option V) → (a ≡ true → b ≡ true → ⊥)
    → cond a (Some v) (cond b (Some w) rest) ≡ cond b (Some w) (cond a (Some v) rest)
either_order true true v w rest apart = absurd (apart refl refl)
either_order true false v w rest apart = refl
either_order false b v w rest apart = refl

first_of : {V : Type 0} (b : Bool) (v w : V) (rest : Option V)
    → cond b (Some v) rest ≡ cond b (Some v) (cond b (Some w) rest)
first_of true v w rest = refl
first_of false v w rest = refl

module _ {N : Type 0} {R : N → N → Ordering} (o : IsTotalOrder R) (same : IsAntisymmetric R) where
  apart : (a b q : N) → eq_by_cmp R a b ≡ false → eq_by_cmp R q b ≡ true → eq_by_cmp R q a ≡ true → ⊥
  apart a b q other is_b is_a =
      true≢false (sym (tie_from_same o same a b (sym (same_from_tie o same q a is_a) ∙ same_from_tie o same q b is_b))
      ∙ other)

module _ {N K V : Type 0} {R : N → N → Ordering} (o : IsTotalOrder R) (same : IsAntisymmetric R) (called : K → N) where
  abbrev at : N → List (K × V) → Option V
  at q es = lookup (λ key. eq_by_cmp R q (called key)) es

  at-insert_entry : (es : List (K × V)) (key : K) (v : V) (q : N)
      → at q (insert_entry (λ a b. R (called a) (called b)) es key v)
      ≡ cond (eq_by_cmp R q (called key)) (Some v) (at q es)
  at-insert_entry [] key v q = refl
  at-insert_entry (e ∷ es) key v q =
      let more = insert_entry (λ a b. R (called a) (called b)) es key v in
      let is_new = eq_by_cmp R q (called key) in
      let is_first = eq_by_cmp R q (called e.0) in
      elim (R (called key) (called e.0)) as (λ r. R (called key) (called e.0) ≡ r
      → at q (match_ordering r ((key, v) ∷ e ∷ es) ((e.0, v) ∷ es) (e ∷ more))
      ≡ cond is_new (Some v) (cond is_first (Some e.1) (at q es))) [
        | Less ↦ λ t. refl
        | Equal ↦ λ t. first_of is_first v e.1 (at q es)
            ∙ ap (λ (n : N). cond (eq_by_cmp R q n) (Some v) (cond is_first (Some e.1) (at q es)))
            (sym (same (called key) (called e.0) t))
        | Greater ↦ λ t. ap (cond is_first (Some e.1)) (at-insert_entry es key v q)
            ∙ either_order is_first is_new e.1 v (at q es) (apart o same (called key) (called e.0) q (ap is_eq t))
      ] refl

  at-set_value : (es : List (K × V)) (name : N) (v : V) (q : N) → is_some (at name es) ≡ true
      → at q (set_value (λ key. eq_by_cmp R name (called key)) es v) ≡ cond (eq_by_cmp R q name) (Some v) (at q es)
  at-set_value [] name v q there = absurd (true≢false (sym there))
  at-set_value (e ∷ es) name v q there =
      let rest = set_value (λ key. eq_by_cmp R name (called key)) es v in
      let is_name = eq_by_cmp R q name in
      let is_first = eq_by_cmp R q (called e.0) in
      elim (eq_by_cmp R name (called e.0)) as (λ b. eq_by_cmp R name (called e.0) ≡ b
      → is_some (cond b (Some e.1) (at name es)) ≡ true
      → at q (cond b ((e.0, v) ∷ es) (e ∷ rest)) ≡ cond is_name (Some v) (cond is_first (Some e.1) (at q es))) [
        | true ↦ λ t h. first_of is_first v e.1 (at q es)
            ∙ ap (λ (n : N). cond (eq_by_cmp R q n) (Some v) (cond is_first (Some e.1) (at q es)))
            (sym (same_from_tie o same name (called e.0) t))
        | false ↦ λ t h. ap (cond is_first (Some e.1)) (at-set_value es name v q h)
            ∙ either_order is_first is_name e.1 v (at q es) (apart o same name (called e.0) q t)
      ] refl there

  -- what a map has once an entry is inserted
  pub get_called-insert : (old new : BTreeMap K V) (key : K) (v : V)
      → new.entries ≡ insert_entry (λ a b. R (called a) (called b)) old.entries key v
      → (q : N) → get_called R called new q ≡ cond (eq_by_cmp R q (called key)) (Some v) (get_called R called old q)
  get_called-insert old new key v inserted q = ap (at q) inserted ∙ at-insert_entry old.entries key v q

  -- what it has once another value is written to an entry
  pub get_called-set : (old new : BTreeMap K V) (name : N) (v : V)
      → new.entries ≡ set_value (λ key. eq_by_cmp R name (called key)) old.entries v
      → is_some (get_called R called old name) ≡ true → (q : N)
      → get_called R called new q ≡ cond (eq_by_cmp R q name) (Some v) (get_called R called old q)
  get_called-set old new name v written there q = ap (at q) written ∙ at-set_value old.entries name v q there
