-- Keys that are looked for piece by piece.
use Rattle.std.proofs.Common.{◌≡◌, ℕ, true, zero, suc, ◌+◌, ◌-◌, List, [], ◌∷◌, ◌++◌, filter, length, take, Option, Some, refl, sym, ap, ◌∙◌, arith, inl, inr}
use Rattle.std.specs.List.{flat_map}
use Rattle.std.proofs.lemmas.List.{length-append}
use Rattle.std.proofs.lemmas.List.Concat.{flat_map-append}
use Rattle.std.proofs.lemmas.List.Elements.{filter-append}
use Rattle.rr_desk.proofs.PrefixLemmas.{prefix_refl, prefix_trans}
use Rattle.rr_desk.specs.ReaderState.{HasSeenMore, ReaderState}
use Rattle.rr_web.specs.Listing.{Gives, ListsPrefix, begun, goes_on, piece_of}
use Rattle.rr_web.specs.Series.{begins_with, is_past, line_of}

pub seen_same : (r : ReaderState) → HasSeenMore r r
seen_same r = record { desk = refl; schema = refl; list = prefix_refl r.list }

pub seen_more : (r s t : ReaderState) → HasSeenMore r s → HasSeenMore s t → HasSeenMore r t
seen_more r s t p q = record {
  desk = q.desk ∙ p.desk;
  schema = q.schema ∙ p.schema;
  list = prefix_trans r.list s.list t.list p.list q.list;
}

-- what was listed of the keys so far, and how many may be listed still
pub record SoFar (prefix : List ℕ) (first : Option (List ℕ)) (count : ℕ) (old now : ReaderState) (after : Option (List ℕ)) (left : ℕ) (text : List ℕ) : Type 0 where
  pub keys : List (List ℕ)
  pub given : Gives old first keys now after
  pub seen : HasSeenMore old now
  pub left_is : left ≡ count - length (filter (begins_with prefix) keys)
  pub lines : text ≡ flat_map line_of (take count (filter (begins_with prefix) keys))

take_none : (n : ℕ) → take {A = List ℕ} n [] ≡ []
take_none zero = refl
take_none (suc n) = refl

-- the first of two lists are those of the first one, and then of the second
take_both : (n : ℕ) (xs ys : List (List ℕ)) → take n (xs ++ ys) ≡ take n xs ++ take (n - length xs) ys
take_both zero [] ys = refl
take_both zero (x ∷ xs) ys = let none : 0 - suc (length xs) ≡ 0 = omega arith in rw none refl
take_both (suc n) [] ys = let all : suc n - 0 ≡ suc n = omega arith in rw all refl
take_both (suc n) (x ∷ xs) ys =
    let less : suc n - suc (length xs) ≡ n - length xs = omega arith in
    rw less (ap (λ zs. x ∷ zs) (take_both n xs ys))

pub so_far_none : (prefix : List ℕ) (first : Option (List ℕ)) (count : ℕ) (old : ReaderState) → SoFar prefix first count old old first count []
so_far_none prefix first count old = record {
  keys = [];
  given = begun old first;
  seen = seen_same old;
  left_is = omega arith;
  lines = sym (ap (flat_map line_of) (take_none count));
}

-- one piece more
pub so_far_more : (prefix : List ℕ) (first : Option (List ℕ)) (count : ℕ) (old now next : ReaderState) (after : Option (List ℕ)) (left still : ℕ) (text more : List ℕ) (piece before : List (List ℕ)) (last : List ℕ)
    → SoFar prefix first count old now after left text → HasSeenMore now next → piece ≡ piece_of next after → piece ≡ before ++ last ∷ []
    → still ≡ left - length (filter (begins_with prefix) piece)
    → more ≡ text ++ flat_map line_of (take left (filter (begins_with prefix) piece))
    → SoFar prefix first count old next (Some last) still more
so_far_more prefix first count old now next after left still text more piece before last so seen given is still_is more_is =
    let had : List (List ℕ) = filter (begins_with prefix) so.keys in
    let found : List (List ℕ) = filter (begins_with prefix) piece in
    let both : filter (begins_with prefix) (so.keys ++ (before ++ last ∷ [])) ≡ filter (begins_with prefix) so.keys ++ filter (begins_with prefix) piece =
    ap (λ (keys : List (List ℕ)). filter (begins_with prefix) (so.keys ++ keys)) (sym is) ∙ filter-append (begins_with prefix) so.keys piece in
    let total : length (filter (begins_with prefix) (so.keys ++ (before ++ last ∷ []))) ≡ length (filter (begins_with prefix) so.keys) + length (filter (begins_with prefix) piece) =
    ap length both ∙ length-append (filter (begins_with prefix) so.keys) (filter (begins_with prefix) piece) in
    let left_is = so.left_is in
    record {
      keys = so.keys ++ (before ++ last ∷ []);
      given = goes_on old now next first after so.keys before last so.given seen (sym given ∙ is);
      seen = seen_more old now next so.seen seen;
      left_is = omega (arith, total, left_is, still_is);
      lines = more_is ∙ ap (λ (t : List ℕ). t ++ flat_map line_of (take left found)) so.lines
          ∙ ap (λ (k : ℕ). flat_map line_of (take count had) ++ flat_map line_of (take k found)) so.left_is
          ∙ sym (flat_map-append line_of (take count had) (take (count - length had) found))
          ∙ ap (flat_map line_of) (sym (take_both count had found))
          ∙ ap (λ (keys : List (List ℕ)). flat_map line_of (take count keys)) (sym both);
    }

-- enough are listed
pub lists_enough : (prefix : List ℕ) (first : Option (List ℕ)) (count : ℕ) (old now : ReaderState) (after : Option (List ℕ)) (left : ℕ) (text : List ℕ)
    → SoFar prefix first count old now after left text → left ≡ 0 → ListsPrefix prefix first count old now text
lists_enough prefix first count old now after left text so none = record {
  keys = so.keys;
  now = now;
  after = after;
  given = so.given;
  seen = seen_same now;
  whole = inl (let left_is = so.left_is in omega arith);
  lines = so.lines;
}

-- no key that begins with the prefix follows
pub lists_past : (prefix : List ℕ) (first : Option (List ℕ)) (count : ℕ) (old now : ReaderState) (last : List ℕ) (left : ℕ) (text : List ℕ)
    → SoFar prefix first count old now (Some last) left text → is_past prefix last ≡ true → ListsPrefix prefix first count old now text
lists_past prefix first count old now last left text so past = record {
  keys = so.keys;
  now = now;
  after = Some last;
  given = so.given;
  seen = seen_same now;
  whole = inr (inr (last, refl, past));
  lines = so.lines;
}
