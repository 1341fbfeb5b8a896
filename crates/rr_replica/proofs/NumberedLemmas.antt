-- Series by their numbers: which keys are known.
use Rattle.std.proofs.Common.{◌≡◌, ℕ, zero, suc, ◌||◌, Bool, true, false, cond, List, [], ◌∷◌, ◌++◌, take, slice_get, Option, None, Some, is_some, unwrap_or, true≢false, refl, sym, ap, ◌∙◌, arith}
use Rattle.std.specs.Global.{Vec}
use Rattle.std.specs.BTreeMap.{is_at}
use Rattle.rr_text.specs.Bytes.{bytes_cmp}
use Rattle.rr_replica.specs.Indexed.{index_of, IsIndexed}
use Rattle.rr_replica.specs.Numbered.{knows, with_key}
use Rattle.rr_replica.proofs.IndexedLemmas.{is_same, is_itself, key_at, slice_get-take}

-- a key that has a number is known
pub knows_at : (keys : List (List ℕ)) (i : ℕ) (key : List ℕ) → slice_get keys i ≡ Some key → knows keys key ≡ true
knows_at [] i key at = absurd (true≢false (sym (ap is_some at)))
knows_at (k ∷ ks) zero key at = ap (λ b. b || knows ks key)
    (ap (is_at (bytes_cmp key)) (ap (λ o. unwrap_or o key) at) ∙ is_itself key)
knows_at (k ∷ ks) (suc i) key at = elim (is_at (bytes_cmp key) k) as (λ b. (b || knows ks key) ≡ true) [
  | true ↦ refl
  | false ↦ knows_at ks i key at
]

-- one that is known has a number
pub known_at : (keys : List (List ℕ)) (key : List ℕ) → knows keys key ≡ true
    → (i : ℕ) × (slice_get keys i ≡ Some key)
known_at [] key t = absurd (true≢false (sym t))
known_at (k ∷ ks) key t = elim (is_at (bytes_cmp key) k) as
    (λ b. is_at (bytes_cmp key) k ≡ b → (b || knows ks key) ≡ true → (i : ℕ) × (slice_get (k ∷ ks) i ≡ Some key)) [
      | true ↦ λ e h. (0, ap (λ x. Some x) (sym (is_same key k e)))
      | false ↦ λ e h. let r = known_at ks key h in (suc r.0, r.1)
    ] refl t

bool_cases : (b : Bool) → (b ≡ true → ⊥) → b ≡ false
bool_cases true h = absurd (h refl)
bool_cases false h = refl

-- with a key more, where it is known
pub with_known : (keys : List (List ℕ)) (i : ℕ) (key : List ℕ) → slice_get keys i ≡ Some key → with_key keys key ≡ keys
with_known keys i key at = ap (λ b. cond b keys (keys ++ key ∷ [])) (knows_at keys i key at)

-- and where it isn't
pub with_new : (keys : List (List ℕ)) (key : List ℕ) → knows keys key ≡ false → with_key keys key ≡ keys ++ key ∷ []
with_new keys key fresh = ap (λ b. cond b keys (keys ++ key ∷ [])) fresh

module _ {X : Type 0} {keys : List (List ℕ)} {indices : List (List ℕ × ℕ)} {archives : List (Vec X)}
    (is : IsIndexed keys indices archives) where
  -- a key without an index isn't known
  pub unknown : (key : List ℕ) → None ≡ index_of indices key → knows keys key ≡ false
  unknown key none = bool_cases (knows keys key) (λ t.
      let k = known_at keys key t in
      let found = is.found k.0 key k.1 in
      true≢false (sym (ap is_some (none ∙ found))))

  -- one with an index is
  pub known : (key : List ℕ) (i : ℕ) → Some i ≡ index_of indices key → with_key keys key ≡ keys
  known key i at = with_known keys i key (key_at keys indices is.there key i (sym at))

  -- no key before one with a number is the same
  pub first_numbered : (i : ℕ) (key : List ℕ) → slice_get keys i ≡ Some key → knows (take i keys) key ≡ false
  first_numbered i key at = bool_cases (knows (take i keys) key) (λ t.
      let k = known_at (take i keys) key t in
      let below = slice_get-take keys i k.0 key k.1 in
      let same : Some i ≡ Some k.0 = sym (is.found i key at) ∙ is.found k.0 key below.0 in
      let equal : i ≡ k.0 = ap (λ p. unwrap_or p i) same in
      let less = below.1 in
      omega (arith, equal, less))

  -- a key is known where it has an index
  pub known_by_index : (key : List ℕ) (o : Option ℕ) → o ≡ index_of indices key → is_some o ≡ knows keys key
  known_by_index key None at = sym (unknown key at)
  known_by_index key (Some i) at = sym (knows_at keys i key (key_at keys indices is.there key i (sym at)))
