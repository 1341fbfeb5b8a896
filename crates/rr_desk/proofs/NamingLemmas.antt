-- Keys that the keeper and the copies have by the same numbers.
use Rattle.std.proofs.Common.{◌≡◌, ℕ, zero, suc, ◌+◌, ◌<◌, ◌≤◌, true, false, true≢false, cond, List, [], ◌∷◌, ◌++◌, length, take, slice_get, Some, is_some, unwrap_or, refl, ap, sym, ◌∙◌, subst, arith}
use Rattle.std.proofs.lemmas.List.{length-append}
use Rattle.std.proofs.lemmas.Option.{slice_get_within}
use mathlib.Core.List.{IsPrefix}
use Rattle.rr_cells.specs.declared.op.Op.{Op}
use Rattle.rr_cells.specs.declared.op.Op.TheVariants as op
use Rattle.rr_cells.specs.ReplicaState.{ReplicaState}
use Rattle.rr_cells.specs.Operations.{accepts, op_key}
use Rattle.rr_replica.specs.Numbered.{knows, put_of}
use Rattle.rr_replica.proofs.NumberedLemmas.{knows_at, with_new}
use Rattle.rr_cells.specs.declared.sample.Sample.{Sample}
use Rattle.rr_cells.specs.declared.cell.Cell.{Cell}
use Rattle.rr_desk.specs.declared.change.Change.{Change}
use Rattle.rr_desk.specs.declared.change.NumberedCell.{NumberedCell}
use Rattle.rr_desk.specs.declared.change.Change.TheVariants.{Put, Join, AddKey}
use Rattle.rr_desk.specs.Changes.{Names, AreNamed, IsChangeOf, IsOwn, joins_in, names_at, ops_in}
use Rattle.rr_desk.proofs.ChangesLemmas.{names_at-more, names_at-origin, ops_in-more}
use Rattle.rr_desk.proofs.PrefixLemmas.{prefix_refl, prefix_trans}

-- ---- beginnings

module _ {A : Type 0} where
  prefix_next : (xs ys : List A) (y : A) → IsPrefix xs ys → slice_get ys (length xs) ≡ Some y
      → IsPrefix (xs ++ y ∷ []) ys
  prefix_next [] [] y p at = absurd (true≢false (sym (ap is_some at)))
  prefix_next [] (z ∷ zs) y p at =
      let same : z ≡ y = ap (λ o. unwrap_or o y) at in
      (zs, ap (λ (w : A). w ∷ zs) (sym same))
  prefix_next (x ∷ xs) [] y p at = absurd (cc (p.1))
  prefix_next (x ∷ xs) (z ∷ zs) y p at =
      let r = prefix_next xs zs y (p.0, cc (p.1)) at in
      let same : x ≡ z = cc (p.1) in
      (r.0, cc (same, r.1))

  prefix_at : (xs ys : List A) (i : ℕ) (y : A) → IsPrefix xs ys → i < length xs → slice_get ys i ≡ Some y
      → slice_get xs i ≡ Some y
  prefix_at [] ys i y p within at = absurd (omega arith)
  prefix_at (x ∷ xs) [] i y p within at = absurd (cc (p.1))
  prefix_at (x ∷ xs) (z ∷ zs) zero y p within at =
      let same : x ≡ z = cc (p.1) in
      ap (λ (w : A). Some w) same ∙ at
  prefix_at (x ∷ xs) (z ∷ zs) (suc i) y p within at = prefix_at xs zs i y (p.0, cc (p.1)) (omega arith) at

  prefix_take : (xs ys : List A) → IsPrefix xs ys → take (length xs) ys ≡ xs
  prefix_take [] [] p = refl
  prefix_take [] (z ∷ zs) p = refl
  prefix_take (x ∷ xs) [] p = absurd (cc (p.1))
  prefix_take (x ∷ xs) (z ∷ zs) p =
      let same : x ≡ z = cc (p.1) in
      let rest = prefix_take xs zs (p.0, cc (p.1)) in
      cc (same, rest)

-- ---- names

module _ (n : Names) (own : List (List ℕ)) (cs : List Change) (named : ℕ) (are : AreNamed n own cs named) where
  -- the next of the keeper's keys is added
  pub named-next : (more : List Change) (key : List ℕ) → slice_get own named ≡ Some key
      → knows (take named own) key ≡ false → more ≡ cs ++ AddKey key ∷ [] → AreNamed n own more (named + 1)
  named-next more key at fresh longer =
      let keys = (names_at n cs).keys in
      let prefix : keys ≡ take named own = sym (prefix_take keys own are.prefix) ∙ ap (λ k. take k own) are.many in
      let new : knows keys key ≡ false = ap (λ ks. knows ks key) prefix ∙ fresh in
      let last : slice_get own (length keys) ≡ Some key = ap (slice_get own) are.many ∙ at in
      let all : (names_at n more).keys ≡ keys ++ key ∷ [] = ap (λ l. (names_at n l).keys) longer
      ∙ ap (λ (m : Names). m.keys) (names_at-more n cs (AddKey key)) ∙ with_new keys key new in
      let both = subst (λ ks. IsPrefix ks own × (length ks ≡ named + 1)) (sym all)
      (prefix_next keys own key are.prefix last, length-append keys (key ∷ []) ∙ ap (λ k. k + 1) are.many) in
      record { prefix = both.0; many = both.1 }

  -- the copies have the same names, by other changes
  pub named-same : (m : Names) (more : List Change) → names_at m more ≡ names_at n cs → AreNamed m own more named
  named-same m more same =
      let both = subst (λ (k : Names). IsPrefix k.keys own × (length k.keys ≡ named)) (sym same)
      (are.prefix, are.many) in
      record { prefix = both.0; many = both.1 }

  -- the keeper has keys more
  pub named-grown : (new : List (List ℕ)) → IsPrefix own new → AreNamed n new cs named
  named-grown new more = record {
    prefix = prefix_trans (names_at n cs).keys own new are.prefix more;
    many = are.many;
  }

  -- an operation more is pending
  pub named-pushed : (series : ℕ) (o : Op) (c : Change) (more : List Change) → IsChangeOf series o c
      → more ≡ cs ++ c ∷ [] → AreNamed n own more named
  named-pushed series o c more is longer = named-same n more (ap (names_at n) longer ∙ names_at-more n cs c
      ∙ is.names (names_at n cs))

  pub pushed-ops : (series : ℕ) (o : Op) (c : Change) (more : List Change) → series < named
      → slice_get own series ≡ Some (op_key o) → IsOwn n.origin o → IsChangeOf series o c → more ≡ cs ++ c ∷ []
      → ops_in n more ≡ ops_in n cs ++ o ∷ []
  pushed-ops series o c more within at mine is longer =
      let keys = (names_at n cs).keys in
      let many = are.many in
      let there : slice_get keys series ≡ Some (op_key o) = prefix_at keys own series (op_key o) are.prefix
      (omega (arith, many, within)) at in
      let same : IsOwn (names_at n cs).origin o = subst (λ origin. IsOwn origin o) (sym (names_at-origin n cs)) mine in
      ap (ops_in n) longer ∙ ops_in-more n cs c
      ∙ ap (λ (l : List Op). ops_in n cs ++ l) (is.ops (names_at n cs) there same)

-- an operation more is pending, after keys that the copies lacked
pub ops-appended : (n : Names) (own : List (List ℕ)) (was between now : List Change) (named series : ℕ) (o : Op)
    (c : Change) → AreNamed n own between named → length own ≤ named → slice_get own series ≡ Some (op_key o)
    → IsOwn n.origin o → IsChangeOf series o c → ops_in n between ≡ ops_in n was → now ≡ between ++ c ∷ []
    → ops_in n now ≡ ops_in n was ++ o ∷ []
ops-appended n own was between now named series o c are all at mine is same longer =
    let there = slice_get_within own series (op_key o) at in
    pushed-ops n own between named are series o c now (omega (arith, there, all)) at mine is longer
    ∙ ap (λ (l : List Op). l ++ o ∷ []) same

-- what the keeper accepts is of its origin
pub own-accepted : (h : ReplicaState) (o : Op) → accepts h o ≡ true → IsOwn h.origin o
own-accepted h (op.Put x) may = grind arith
own-accepted h (op.Join c) may = tt

-- the copies have all keys of a keeper that opens
pub named-open : (n : Names) (own : List (List ℕ)) (cs : List Change) (named : ℕ) → n.keys ≡ own → cs ≡ []
    → named ≡ length own → AreNamed n own cs named
named-open n own cs named same none all =
    let keys : (names_at n cs).keys ≡ own = ap (λ l. (names_at n l).keys) none ∙ same in
    let both = subst (λ ks. IsPrefix ks own × (length ks ≡ named)) (sym keys) (prefix_refl own, sym all) in
    record { prefix = both.0; many = both.1 }

-- ---- changes that are operations

pub put-change : (series : ℕ) (x : Sample) (c : Change)
    → c ≡ Put (record { series = series; number = x.number; time = x.time; value = x.value })
    → IsChangeOf series (op.Put x) c
put-change series x c is = subst (IsChangeOf series (op.Put x)) (sym is) (record {
  ops = λ n at own. ap (put_of n.origin x.number x.time x.value) at
      ∙ (λ i. op.Put (record {
        origin = sym own i;
        number = x.number;
        key = x.key;
        time = x.time;
        value = x.value;
      }) ∷ []);
  names = λ n. refl;
})

pub join-change : (series : ℕ) (x : Cell) (c : Change) (j : NumberedCell) → c ≡ Join j → j.cell.value ≡ x
    → IsChangeOf series (op.Join x) c
join-change series x c j is same = subst (IsChangeOf series (op.Join x)) (sym is) (record {
  ops = λ n at own. ap (joins_in n.keys) same
      ∙ ap (λ b. cond b (op.Join x ∷ []) []) (knows_at n.keys series x.key at);
  names = λ n. refl;
})
