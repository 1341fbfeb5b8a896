-- What a feed handed out, and the items of what is left, are the items of all that was pushed.
use Rattle.std.proofs.Common.{◌≡◌, ℕ, Bool, List, [], ◌++◌, Option, refl, sym, ap, ◌∙◌, append_assoc}
use Rattle.std.proofs.lemmas.List.{append-nil}
use Rattle.rr_feed.specs.Items.{Item, items}
use Rattle.rr_feed.specs.Feed.{FeedState, state, items_left, with_more, item_list, HandsOut}
use Rattle.rr_feed.specs.Laws.{NewIsFed, PushKeepsFed, HandingOutKeepsFed, EndKeepsFed, FedHandsOutAll}

pub IsFed-new : NewIsFed
IsFed-new more ended may = refl

pub IsFed-push : PushKeepsFed
IsFed-push pushed piece handed s going fed more ended may =
    ap (items ended) (append_assoc pushed piece more)
    ∙ fed (piece ++ more) ended (λ e. absurd cc)
    ∙ ap (λ (left : List ℕ). handed ++ items_left (state left s.skipping ended)) (sym (append_assoc s.left piece more))

pub IsFed-next_line : HandingOutKeepsFed
IsFed-next_line pushed handed item old new hands fed more ended may =
    let first = hands.first more ended (λ e. may (hands.ended ∙ e)) in
    fed more ended (λ e. may (hands.ended ∙ e))
    ∙ ap (λ (rest : List Item). handed ++ rest) first
    ∙ sym (append_assoc handed (item_list item) (items_left (with_more new more ended)))

pub IsFed-end : EndKeepsFed
IsFed-end pushed handed s fed more ended may = fed more ended (λ e. may refl)

pub IsFed-all : FedHandsOutAll
IsFed-all pushed handed s nothing fed =
    let whole = fed [] s.ended (λ e. (refl, e)) in
    let left : items_left (with_more s [] s.ended) ≡ [] = rw (append-nil s.left) nothing in
    sym (append-nil handed) ∙ ap (λ (rest : List Item). handed ++ rest) (sym left) ∙ sym whole
    ∙ ap (items s.ended) (append-nil pushed)

-- what was handed out is the first of the items that were left
pub items_left-handed : (item : Option Item) (old new : FeedState) → HandsOut old item new
    → items_left old ≡ item_list item ++ items_left new
items_left-handed item old new hands =
    ap (λ (left : List ℕ). items_left (state left old.skipping old.ended)) (sym (append-nil old.left))
    ∙ hands.first [] old.ended (λ e. (refl, e))
    ∙ ap (λ (left : List ℕ). item_list item ++ items_left (state left new.skipping old.ended)) (append-nil new.left)
    ∙ ap (λ (ended : Bool). item_list item ++ items_left (state new.left new.skipping ended)) (sym hands.ended)
