-- Where the first line feed is, once some bytes are known to hold none.
use Rattle.std.proofs.Common.{◌≡◌, ℕ, zero, suc, ◌+◌, ◌<◌, true, false, ◌||◌, eqb, List, [], ◌∷◌, ◌++◌, length, get_or, take, drop, Some, None, refl, sym, ap, ◌∙◌, add-one, arith}
use Rattle.std.proofs.lemmas.Bool.{false_from_ne_true, eqb-true}
use Rattle.std.proofs.lemmas.List.{take-append-drop, get_or-drop, length-drop}
use Rattle.std.proofs.lemmas.List.Folds.{list_any-append}
use Rattle.std.proofs.Math.Seq.{take-add, take-length, drop-cons}
use Rattle.std.specs.List.{list_any}
use Rattle.memchr.specs.Find.{IsFirstByte, is_byte}
use Rattle.rr_text.specs.declared.bytes.TheConstants.{LINE_FEED}
use Rattle.rr_text.specs.Bytes.{HasNoLineFeed}
use Rattle.rr_feed.specs.Next.{IsSearched, IsCut}

-- the first bytes hold no line feed, if none of them is one
HasNoLineFeed-take : (text : List ℕ) (k : ℕ) → ((j : ℕ) → j < k → eqb (get_or text j 0) LINE_FEED ≡ true → ⊥)
    → HasNoLineFeed (take k text)
HasNoLineFeed-take [] zero before = refl
HasNoLineFeed-take [] (suc k) before = refl
HasNoLineFeed-take (byte ∷ text) zero before = refl
HasNoLineFeed-take (byte ∷ text) (suc k) before =
    let other : eqb byte LINE_FEED ≡ false = false_from_ne_true _ (before 0 (omega arith)) in
    rw other (HasNoLineFeed-take text k (λ j lt. before (suc j) (omega arith)))

HasNoLineFeed-append : (a b : List ℕ) → HasNoLineFeed a → HasNoLineFeed b → HasNoLineFeed (a ++ b)
HasNoLineFeed-append a b none_a none_b =
    let whole = list_any-append (λ byte. eqb byte LINE_FEED) a b in
    whole ∙ ap (λ x. x || list_any (λ byte. eqb byte LINE_FEED) b) none_a ∙ none_b

-- what is searched now, after what was searched before
HasNoLineFeed-searched : (left : List ℕ) (searched k : ℕ) → IsSearched left searched
    → HasNoLineFeed (take k (drop searched left)) → HasNoLineFeed (take (searched + k) left)
HasNoLineFeed-searched left searched k before now =
    rw (take-add searched k left) (HasNoLineFeed-append (take searched left) (take k (drop searched left)) before.none
    now)

-- a text is cut at any of its line feeds
whole_at : (left : List ℕ) (k : ℕ) → k < length left → eqb (get_or left k 0) LINE_FEED ≡ true
    → left ≡ take k left ++ LINE_FEED ∷ drop (k + 1) left
whole_at left k within here =
    sym (take-append-drop k left)
    ∙ ap (λ (rest : List ℕ). take k left ++ rest) (drop-cons left k 0 within)
    ∙ ap (λ (byte : ℕ). take k left ++ byte ∷ drop (suc k) left) (eqb-true _ _ here)
    ∙ ap (λ (n : ℕ). take k left ++ LINE_FEED ∷ drop n left) (sym (add-one k))

-- the first line feed after what was searched before
pub IsCut-found : (left : List ℕ) (searched k : ℕ) → IsSearched left searched
    → IsFirstByte (is_byte LINE_FEED) (drop searched left) (Some k)
    → IsCut left (take (searched + k) left) (drop (searched + k + 1) left)
IsCut-found left searched k before found =
    let within : searched + k < length left = omega (arith, found.0.high, length-drop searched left) in
    let here : eqb (get_or left (searched + k) 0) LINE_FEED ≡ true = rw (← (get_or-drop searched left k 0)) found.1 in
    record {
      whole = whole_at left (searched + k) within here;
      none = HasNoLineFeed-searched left searched k before
          (HasNoLineFeed-take (drop searched left) k (λ j lt. found.0.before j (omega arith) lt));
    }

-- there is none
pub HasNoLineFeed-unfound : (left : List ℕ) (searched : ℕ) → IsSearched left searched
    → IsFirstByte (is_byte LINE_FEED) (drop searched left) None → HasNoLineFeed left
HasNoLineFeed-unfound left searched before found =
    let rest : HasNoLineFeed (drop searched left) =
    rw take-length at (HasNoLineFeed-take (drop searched left) (length (drop searched left))
    (λ j lt. found j (omega arith) lt)) in
    rw take-append-drop at (HasNoLineFeed-append (take searched left) (drop searched left) before.none rest)
