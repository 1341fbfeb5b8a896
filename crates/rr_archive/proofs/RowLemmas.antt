-- The entries of a row with one more: where it goes, and what the row has then.
use Rattle.std.proofs.Common.{◌≡◌, ℕ, suc, ◌+◌, ◌<◌, ◌≤◌, Bool, true, false, cond, List, [], ◌∷◌, length, get_or, set, refl, sym, ap, ◌∙◌, subst, arith, Option, Some, None, Less, Equal, Greater, leb, eqb, nat_cmp, not, ltb, ◌≢◌, one-add, ⊎_elim}
use Rattle.std.specs.List.{find, position_from, position_or_len, insert}
use Rattle.std.specs.Option.{option_map, unwrap_or}
use Rattle.std.specs.FinMap.Entries.{by_order}
use Rattle.std.proofs.lemmas.Bool.{eqb-true, ltb-false, cases_lt, and_from}
use Rattle.std.proofs.lemmas.Iterator.Adapters.{position_from-zero}
use Rattle.std.proofs.lemmas.Bool.Decides.{nat_tests}
use Rattle.rr_join.proofs.Booleans.{and_first, and_second}
use Rattle.rr_archive.specs.declared.entry.Entry.{Entry}
use Rattle.rr_archive.specs.Row.{entry_at, with_entry, is_from, ascends_from, ascends}

-- ---- where it goes

Less_tells : (m n : ℕ) → nat_cmp m n ≡ Less → m < n
Less_tells m n h = grind (arith, nat_tests)

Equal_tells : (m n : ℕ) → nat_cmp m n ≡ Equal → m ≡ n
Equal_tells m n h = grind (arith, nat_tests)

Greater_tells : (m n : ℕ) → nat_cmp m n ≡ Greater → n < m
Greater_tells m n h = grind (arith, nat_tests)

from_le : (m n : ℕ) → m ≤ n → leb m n ≡ true
from_le m n h = grind (arith, nat_tests)

not_from : (m n : ℕ) → n < m → leb m n ≡ false
not_from m n h = grind (arith, nat_tests)

-- the number of the first entry whose origin is not below, or how many there are
abbrev pub position_for : ℕ → List Entry → ℕ
position_for origin es = position_or_len (is_from origin) es

position_for-first : (origin : ℕ) (e : Entry) (es : List Entry) → origin ≤ e.origin → position_for origin (e ∷ es) ≡ 0
position_for-first origin e es h = ap (λ b. cond (not b) (1 + position_for origin es) 0) (from_le origin e.origin h)

position_for-later : (origin : ℕ) (e : Entry) (es : List Entry) → e.origin < origin
    → position_for origin (e ∷ es) ≡ suc (position_for origin es)
position_for-later origin e es h = ap (λ b. cond (not b) (1 + position_for origin es) 0) (not_from origin e.origin h)
    ∙ one-add (position_for origin es)

pub position_for-le : (origin : ℕ) (es : List Entry) → position_for origin es ≤ length es
position_for-le origin [] = omega arith
position_for-le origin (e ∷ es) =
    let rest = position_for-le origin es in
    ⊎_elim
    (λ below. let at = position_for-later origin e es below in omega arith)
    (λ from. let at = position_for-first origin e es from in omega arith)
    (cases_lt e.origin origin)

pub position_for-is : (origin : ℕ) (es : List Entry)
    → unwrap_or (position_from (is_from origin) 0 es) (length es) ≡ position_for origin es
position_for-is origin es =
    let at = position_for origin es in
    let most = position_for-le origin es in
    ap (λ o. unwrap_or o (length es)) (sym (position_from-zero (is_from origin) es))
    ∙ elim (ltb at (length es)) as (λ b. ltb at (length es) ≡ b → unwrap_or (cond b (Some at) None) (length es) ≡ at) [
      | true ↦ λ _. refl
      | false ↦ λ e. let past = ltb-false at (length es) e in omega arith
    ] refl

-- ---- what the row has then

-- an entry in place of one of its origin
pub with_entry-set : (es : List Entry) (new d : Entry) → position_for new.origin es < length es
    → (get_or es (position_for new.origin es) d).origin ≡ new.origin
    → set es (position_for new.origin es) new ≡ with_entry es new
with_entry-set [] new d lt same = absurd (omega arith)
with_entry-set (e ∷ es) new d lt same =
    elim (nat_cmp new.origin e.origin) as (λ r. nat_cmp new.origin e.origin ≡ r
    → set (e ∷ es) (position_for new.origin (e ∷ es)) new
    ≡ by_order r (new ∷ e ∷ es) (new ∷ es) (e ∷ with_entry es new)) [
      | Less ↦ λ t.
          let below = Less_tells new.origin e.origin t in
          let at = position_for-first new.origin e es (omega arith) in
          let here : e.origin ≡ new.origin = subst (λ k. (get_or (e ∷ es) k d).origin ≡ new.origin) at same in
          absurd (omega arith)
      | Equal ↦ λ t. ap (λ k. set (e ∷ es) k new) (position_for-first new.origin e es
          (let is = Equal_tells new.origin e.origin t in omega arith))
      | Greater ↦ λ t.
          let at = position_for-later new.origin e es (Greater_tells new.origin e.origin t) in
          ap (λ k. set (e ∷ es) k new) at
          ∙ ap (λ l. e ∷ l) (with_entry-set es new d (omega arith)
          (subst (λ k. (get_or (e ∷ es) k d).origin ≡ new.origin) at same))
    ] refl

-- and one of an origin that has none
pub with_entry-insert : (es : List Entry) (new d : Entry)
    → (position_for new.origin es < length es → (get_or es (position_for new.origin es) d).origin ≢ new.origin)
    → insert es (position_for new.origin es) new ≡ with_entry es new
with_entry-insert [] new d other = refl
with_entry-insert (e ∷ es) new d other =
    elim (nat_cmp new.origin e.origin) as (λ r. nat_cmp new.origin e.origin ≡ r
    → insert (e ∷ es) (position_for new.origin (e ∷ es)) new
    ≡ by_order r (new ∷ e ∷ es) (new ∷ es) (e ∷ with_entry es new)) [
      | Less ↦ λ t. ap (λ k. insert (e ∷ es) k new)
          (position_for-first new.origin e es (let below = Less_tells new.origin e.origin t in omega arith))
      | Equal ↦ λ t.
          let is = Equal_tells new.origin e.origin t in
          let at = position_for-first new.origin e es (omega arith) in
          absurd (other (omega arith) (ap (λ k. (get_or (e ∷ es) k d).origin) at ∙ sym is))
      | Greater ↦ λ t.
          let at = position_for-later new.origin e es (Greater_tells new.origin e.origin t) in
          ap (λ k. insert (e ∷ es) k new) at
          ∙ ap (λ l. e ∷ l) (with_entry-insert es new d
          (λ lt same. other (omega arith) (ap (λ k. (get_or (e ∷ es) k d).origin) at ∙ same)))
    ] refl

pub entry_at-cons : (e : Entry) (es : List Entry) (origin : ℕ)
    → entry_at (e ∷ es) origin ≡ cond (eqb e.origin origin) (Some e.contribution) (entry_at es origin)
entry_at-cons e es origin = elim (eqb e.origin origin) as
    (λ b. option_map (λ (x : Entry). x.contribution) (cond b (Some e) (find (λ x. eqb x.origin origin) es))
    ≡ cond b (Some e.contribution) (entry_at es origin)) [ true ↦ refl | false ↦ refl ]

one_of_both : {V : Type 0} (a b : Bool) (x y z : Option V) → (a ≡ true → b ≡ true → ⊥)
    → cond a x (cond b y z) ≡ cond b y (cond a x z)
one_of_both true true x y z apart = absurd (apart refl refl)
one_of_both true false x y z apart = refl
one_of_both false b x y z apart = refl

test_twice : {V : Type 0} (b : Bool) (x y z : Option V) → cond b x (cond b y z) ≡ cond b x z
test_twice true x y z = refl
test_twice false x y z = refl

-- the new entry stands at its origin, and the others where they stood
pub entry_at-with_entry : (es : List Entry) (new : Entry) (origin : ℕ)
    → entry_at (with_entry es new) origin ≡ cond (eqb new.origin origin) (Some new.contribution) (entry_at es origin)
entry_at-with_entry [] new origin = entry_at-cons new [] origin
entry_at-with_entry (e ∷ es) new origin =
    let here = Some new.contribution in
    elim (nat_cmp new.origin e.origin) as (λ r. nat_cmp new.origin e.origin ≡ r
    → entry_at (by_order r (new ∷ e ∷ es) (new ∷ es) (e ∷ with_entry es new)) origin
    ≡ cond (eqb new.origin origin) here (entry_at (e ∷ es) origin)) [
      | Less ↦ λ t. entry_at-cons new (e ∷ es) origin
      | Equal ↦ λ t.
          entry_at-cons new es origin
          ∙ sym (test_twice (eqb new.origin origin) here (Some e.contribution) (entry_at es origin))
          ∙ ap (λ k. cond (eqb new.origin origin) here (cond (eqb k origin) (Some e.contribution) (entry_at es origin)))
          (Equal_tells new.origin e.origin t)
          ∙ ap (cond (eqb new.origin origin) here) (sym (entry_at-cons e es origin))
      | Greater ↦ λ t.
          let above = Greater_tells new.origin e.origin t in
          entry_at-cons e (with_entry es new) origin
          ∙ ap (cond (eqb e.origin origin) (Some e.contribution)) (entry_at-with_entry es new origin)
          ∙ one_of_both (eqb e.origin origin) (eqb new.origin origin) (Some e.contribution) here (entry_at es origin)
          (λ p q. let first = eqb-true e.origin origin p in let second = eqb-true new.origin origin q in
          omega arith)
          ∙ ap (cond (eqb new.origin origin) here) (sym (entry_at-cons e es origin))
    ] refl

-- and they still ascend
lt_test : (m n : ℕ) → m < n → ltb m n ≡ true
lt_test m n h = grind (arith, nat_tests)

ascends_from_with_entry : (below : ℕ) (es : List Entry) (new : Entry) → ascends_from below es ≡ true
    → below < new.origin → ascends_from below (with_entry es new) ≡ true
ascends_from_with_entry below [] new a h = and_from (ltb below new.origin) true (lt_test below new.origin h) refl
ascends_from_with_entry below (e ∷ es) new a h =
    let rest = and_second (ltb below e.origin) _ a in
    elim (nat_cmp new.origin e.origin) as (λ r. nat_cmp new.origin e.origin ≡ r
    → ascends_from below (by_order r (new ∷ e ∷ es) (new ∷ es) (e ∷ with_entry es new)) ≡ true) [
      | Less ↦ λ t. and_from (ltb below new.origin) _ (lt_test below new.origin h)
          (and_from (ltb new.origin e.origin) _ (lt_test new.origin e.origin (Less_tells new.origin e.origin t)) rest)
      | Equal ↦ λ t. and_from (ltb below new.origin) _ (lt_test below new.origin h)
          (subst (λ k. ascends_from k es ≡ true) (sym (Equal_tells new.origin e.origin t)) rest)
      | Greater ↦ λ t. and_from (ltb below e.origin) _ (and_first (ltb below e.origin) _ a)
          (ascends_from_with_entry e.origin es new rest (Greater_tells new.origin e.origin t))
    ] refl

pub ascends_with_entry : (es : List Entry) (new : Entry) → ascends es ≡ true → ascends (with_entry es new) ≡ true
ascends_with_entry [] new a = refl
ascends_with_entry (e ∷ es) new a =
    elim (nat_cmp new.origin e.origin) as (λ r. nat_cmp new.origin e.origin ≡ r
    → ascends (by_order r (new ∷ e ∷ es) (new ∷ es) (e ∷ with_entry es new)) ≡ true) [
      | Less ↦ λ t. and_from (ltb new.origin e.origin) _
          (lt_test new.origin e.origin (Less_tells new.origin e.origin t)) a
      | Equal ↦ λ t. subst (λ k. ascends_from k es ≡ true) (sym (Equal_tells new.origin e.origin t)) a
      | Greater ↦ λ t. ascends_from_with_entry e.origin es new a (Greater_tells new.origin e.origin t)
    ] refl
