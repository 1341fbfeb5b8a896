-- What a name of a key is, by its bytes, and where it is in a text.
use Rattle.std.proofs.Common.{◌≡◌, ℕ, suc, ◌-◌, Bool, true, false, not, cond, eqb, ◌||◌, List, [], ◌∷◌, ◌++◌, length, get_or, take, drop, None, Some, refl, sym, ap, ◌∙◌, inl, inr, arith}
use Rattle.std.proofs.lemmas.Bool.{cases_Bool}
use Rattle.std.proofs.lemmas.List.{take-append-drop}
use Rattle.std.proofs.Math.Seq.{take-append_seam, drop-append_seam}
use Rattle.std.proofs.Math.Dec.{eqb-suc-zero}
use Rattle.std.specs.List.{list_any}
use Rattle.rr_key.specs.declared.class.Class.{Class}
use Rattle.rr_key.specs.Class.{is_special}
use Rattle.rr_key.specs.Unit.{escape, unescape, name_len}
use Rattle.rr_key.specs.Name.{ends_in_backslash, MayFollow, is_name}
use Rattle.rr_key.specs.Reading.{name_at}
use Rattle.rr_key.proofs.EscapeLemmas.{name_len-escape, unescape-escape, escape-unescape, both_true}

pub ends_in_backslash_at : (name : List ℕ) → ends_in_backslash name ≡ eqb (get_or name (length name - 1) 0) 92
ends_in_backslash_at [] = refl
ends_in_backslash_at (b ∷ []) = refl
ends_in_backslash_at (b ∷ c ∷ cs) =
    let m : length (c ∷ cs) - 1 ≡ length cs = omega arith in
    let n : suc (length cs) ≡ length (b ∷ c ∷ cs) - 1 = omega arith in
    ends_in_backslash_at (c ∷ cs) ∙ ap (λ (k : ℕ). eqb (get_or (c ∷ cs) k 0) 92) m
    ∙ ap (λ (k : ℕ). eqb (get_or (b ∷ c ∷ cs) k 0) 92) n

-- a name is written with the line feeds that it has, and ends as it does
line_feeds-escape : (class : Class) (name : List ℕ)
    → list_any (λ b. eqb b 10) (escape class name) ≡ list_any (λ b. eqb b 10) name
line_feeds-escape class [] = refl
line_feeds-escape class (b ∷ name) =
    let later = ap (λ (t : Bool). eqb b 10 || t) (line_feeds-escape class name) in
    elim (cases_Bool (is_special class b)) [
      | inl special ↦ rw special later
      | inr plain ↦ rw plain later
    ]

ends-cons : (class : Class) (b : ℕ) (name : List ℕ) → ends_in_backslash (escape class name) ≡ ends_in_backslash name
    → ends_in_backslash (b ∷ escape class name) ≡ ends_in_backslash (b ∷ name)
ends-cons class b [] e = refl
ends-cons class b (c ∷ cs) e =
    elim (cases_Bool (is_special class c)) [
      | inl special ↦ let f = rw special at e in rw special f
      | inr plain ↦ let f = rw plain at e in rw plain f
    ]

pub ends-escape : (class : Class) (name : List ℕ) → ends_in_backslash (escape class name) ≡ ends_in_backslash name
ends-escape class [] = refl
ends-escape class (b ∷ name) =
    let later = ends-cons class b name (ends-escape class name) in
    elim (cases_Bool (is_special class b)) [
      | inl special ↦ rw special later
      | inr plain ↦ rw plain later
    ]

empty-escape : (class : Class) (name : List ℕ) → eqb (length (escape class name)) 0 ≡ eqb (length name) 0
empty-escape class [] = refl
empty-escape class (b ∷ name) =
    elim (cases_Bool (is_special class b)) [
      | inl special ↦ rw special (eqb-suc-zero _ ∙ sym (eqb-suc-zero _))
      | inr plain ↦ rw plain (eqb-suc-zero _ ∙ sym (eqb-suc-zero _))
    ]

pub is_name-escape : (class : Class) (name : List ℕ) → is_name (escape class name) ≡ is_name name
is_name-escape class name = rw (empty-escape class name, line_feeds-escape class name, ends-escape class name) refl

not_true : (b : Bool) → not b ≡ true → b ≡ false
not_true true e = absurd cc
not_true false e = refl

pub or_false : (a b : Bool) → (a || b) ≡ false → (a ≡ false) × (b ≡ false)
or_false true b e = absurd cc
or_false false b e = (refl, e)

pub name_ends : (name : List ℕ) → is_name name ≡ true → ends_in_backslash name ≡ false
name_ends name h = (or_false _ _ (not_true _ (both_true _ _ h).1)).1

-- what begins with a special byte, or is nothing
abbrev pub Divides : Class → List ℕ → Type 0
Divides class [] = Unit {0}
Divides class (b ∷ bs) = is_special class b ≡ true

may_follow : (class : Class) (name rest : List ℕ) → is_name name ≡ true → Divides class rest → MayFollow class name rest
may_follow class name [] h d = tt
may_follow class name (b ∷ bs) h d = (d, name_ends name h)

-- a name that is written before what divides is found there
pub name_at-escape : (class : Class) (name rest : List ℕ) → is_name name ≡ true → Divides class rest
    → name_at class (escape class name ++ rest) ≡ Some (escape class name, rest)
name_at-escape class name rest h d =
    let n = name_len-escape class name rest (may_follow class name rest h d) in
    rw (
      n,
      take-append_seam (escape class name) rest,
      drop-append_seam (escape class name) rest,
      is_name-escape class name,
      h,
    ) refl

-- a name that is found is written there
pub record IsFound (class : Class) (text raw rest : List ℕ) : Type 0 where
  pub name : is_name (unescape class raw) ≡ true
  pub raw_is : raw ≡ escape class (unescape class raw)
  pub whole : text ≡ escape class (unescape class raw) ++ rest

pub some_if : {A : Type 0} (b : Bool) (x y : A) → cond b (Some x) None ≡ Some y → (b ≡ true) × (x ≡ y)
some_if true x y e = (refl, cc)
some_if false x y e = absurd cc

pub name_at-found : (class : Class) (text raw rest : List ℕ) → name_at class text ≡ Some (raw, rest)
    → IsFound class text raw rest
name_at-found class text raw rest e =
    let n = name_len class text in
    let parts = some_if (is_name (take n text)) (take n text, drop n text) (raw, rest) e in
    let prefix : take n text ≡ raw = ap (λ (p : List ℕ × List ℕ). p.0) parts.1 in
    let back : drop n text ≡ rest = ap (λ (p : List ℕ × List ℕ). p.1) parts.1 in
    let written : raw ≡ escape class (unescape class raw) = sym prefix ∙ sym (escape-unescape class text)
    ∙ ap (λ (l : List ℕ). escape class (unescape class l)) prefix in
    record {
      name = sym (is_name-escape class (unescape class raw)) ∙ ap is_name (sym written ∙ sym prefix) ∙ parts.0;
      raw_is = written;
      whole = sym (take-append-drop n text) ∙ ap (λ (l : List ℕ). l ++ drop n text) (prefix ∙ written)
          ∙ ap (λ (l : List ℕ). escape class (unescape class raw) ++ l) back;
    }

-- two texts that begin with a name and are equal begin with one name
pub same_names : (class : Class) (name other rest left : List ℕ) → is_name name ≡ true → is_name other ≡ true
    → Divides class rest → Divides class left → escape class name ++ rest ≡ escape class other ++ left
    → (name ≡ other) × (rest ≡ left)
same_names class name other rest left h i d f e =
    let same : Some (escape class name, rest) ≡ Some (escape class other, left) =
    sym (name_at-escape class name rest h d) ∙ ap (name_at class) e ∙ name_at-escape class other left i f in
    let parts = (some_if true (escape class name, rest) (escape class other, left) same).1 in (
      sym (unescape-escape class name) ∙ ap (λ (p : List ℕ × List ℕ). unescape class p.0) parts
          ∙ unescape-escape class other,
      ap (λ (p : List ℕ × List ℕ). p.1) parts,
    )
