-- What calls do is what deeds do.
use Rattle.std.proofs.Common.{◌≡◌, ◌⊎◌, inl, inr, ℕ, suc, ◌+◌, ◌≤◌, Bool, List, [], ◌∷◌, ◌++◌, length, slice_get, append_assoc, refl, sym, ap, ◌∙◌, subst, arith, Option, Some}
use Rattle.std.specs.Prelude.{if◌then◌else◌}
use Rattle.std.specs.FinMap.{get}
use Rattle.std.proofs.lemmas.Bool.{le-leb}
use Rattle.std.proofs.lemmas.List.Elements.{All-head, All-tail}
use Rattle.std.proofs.lemmas.List.{append_cancel_left}
use mathlib.Core.List.{IsPrefix}
use Rattle.rr_text.specs.declared.limits.TheConstants.{MAX_NUMBER}
use Rattle.rr_text.specs.Options.{◌>>=◌}
use Rattle.rr_schema.specs.Schema.{Layout}
use Rattle.rr_contrib.specs.declared.contribution.Contribution.{Contribution}
use Rattle.rr_point.specs.Key.{key_text}
use Rattle.rr_cells.specs.declared.cell.Cell.{Cell}
use Rattle.rr_cells.specs.declared.op.Op.{Op}
use Rattle.rr_cells.specs.declared.op.Op.TheVariants.{Join, Put}
use Rattle.rr_cells.specs.Cells.{Cells}
use Rattle.rr_cells.specs.Joining.{next_after}
use Rattle.rr_cells.specs.Joins.{join_cell}
use Rattle.rr_cells.specs.Listing.{owned_cell}
use Rattle.rr_cells.specs.Operations.{cell_step, joins_of, outcome_of, with_op}
use Rattle.rr_cells.specs.Puts.{put_sample}
use Rattle.rr_cells.proofs.OperationsLemmas.{outcome_of-joins, outcome_of-more}
use Rattle.rr_desk.specs.KeeperState.{KeeperState, own_replica, with_pending}
use Rattle.rr_desk.proofs.PrefixLemmas.{prefix_append, prefix_nil, prefix_refl, prefix_trans}
use Rattle.rr_cells.proofs.Fetches.{fetches_are_of_the_live}
use Rattle.rr_fetch.specs.Answers.{cells_text}
use Rattle.rr_fetch.proofs.RowLaws.{answer_of_state}
use Rattle.rr_desk.specs.Points.{with_put}
use Rattle.rr_desk.specs.ReaderState.{cells_seen}
use Rattle.rr_nodes.specs.Nodes.{Node, Moment, all_held, held_at, holding, taken, written, where_some, after_all}
use Rattle.rr_nodes.specs.Models.{cell_model, sample_model}
use Rattle.rr_nodes.specs.Keepers.{IsNode, OpeningIsANode, PutIsADeed, WriteIsDeeds, ReopeningIsNone, JoinIsADeed, PageIsDeeds, PublishIsNone, ReadersSeeMoments, ReadersAnswerFromSamples, ReadersAnswerAlike}
use Rattle.rr_nodes.proofs.DeedsLemmas.{from_cells, held_then}

append_nothing : {A : Type 0} (xs : List A) → xs ++ [] ≡ xs
append_nothing [] = refl
append_nothing {A} (x ∷ xs) = ap (λ (l : List A). x ∷ l) (append_nothing xs)

-- a beginning of a list with one more is one of the list, or all of it
shorter_or_all : {A : Type 0} (list xs : List A) (y : A) → IsPrefix list (xs ++ y ∷ [])
    → IsPrefix list xs ⊎ (list ≡ xs ++ y ∷ [])
shorter_or_all [] xs y p = inl (prefix_nil xs)
shorter_or_all {A} (z ∷ list) [] y p =
    let same : z ≡ y = cc (p.1) in
    let rest : list ++ p.0 ≡ [] = cc (p.1) in
    inr (cc (same, none list p.0 rest))
  where
    none : (l m : List A) → l ++ m ≡ [] → l ≡ []
    none [] m e = refl
    none (x ∷ l) m e = absurd cc
shorter_or_all {A} (z ∷ list) (x ∷ xs) y p =
    let same : z ≡ x = cc (p.1) in
    by (shorter_or_all list xs y (p.0, cc (p.1))) same
  where
    by : IsPrefix list xs ⊎ (list ≡ xs ++ y ∷ []) → z ≡ x
        → IsPrefix (z ∷ list) (x ∷ xs) ⊎ ((z ∷ list) ≡ (x ∷ xs) ++ y ∷ [])
    by (inl q) same = inl (q.0, cc (q.1, same))
    by (inr e) same = inr (cc (e, same))

-- two lists that begin each other are one
begin_each_other : {A : Type 0} (xs ys : List A) → IsPrefix xs ys → IsPrefix ys xs → xs ≡ ys
begin_each_other [] [] p q = refl
begin_each_other [] (y ∷ ys) p q = absurd (cc (q.1))
begin_each_other (x ∷ xs) [] p q = absurd (cc (p.1))
begin_each_other (x ∷ xs) (y ∷ ys) p q = let r = begin_each_other xs ys (p.0, cc (p.1)) (q.0, cc (q.1)) in
    cc (sym q.1, r)

-- ---- keepers

pub opening_is_a_node : OpeningIsANode
opening_is_a_node h b n is kept number same =
    let joins = joins_of h.cells in
    let cells = outcome_of-joins h.schema h.cells is kept in
    record {
      next = number;
      now = ap (outcome_of h.schema) (append_nothing joins) ∙ cells ∙ same;
      began = prefix_refl joins;
      held = λ list later p q.
          let all : list ++ later ≡ joins = q ∙ append_nothing joins in
          let whole : joins ≡ list = begin_each_other joins list p (later, all) in
          let none : later ≡ [] = append_cancel_left list later [] (all ∙ whole ∙ sym (append_nothing list)) in
          subst (λ (l : List Op). slice_get (all_held n) (length l) ≡ Some (outcome_of h.schema list)) (sym none)
          (ap Some (sym (ap (outcome_of h.schema) (sym whole) ∙ cells ∙ same)));
    }

module _ (opening : List Op) (k : KeeperState) (n : Node Cells) (is : IsNode opening k n) where
  -- one operation more
  one_more : (op : Op) (m : Cells) (next : ℕ) → cell_step k.schema n.now op ≡ m
      → (with_op (own_replica k) op).next ≡ next → IsNode opening (with_pending k op) (holding n next m)
  one_more op m next cells number =
      let ops = k.published ++ k.pending in
      let list_then : k.published ++ (k.pending ++ op ∷ []) ≡ ops ++ op ∷ [] =
      sym (append_assoc k.published k.pending (op ∷ [])) in
      let all : outcome_of k.schema (ops ++ op ∷ []) ≡ m = outcome_of-more k.schema ops op
      ∙ ap (λ (c : Cells). cell_step k.schema c op) is.now ∙ cells in
      record {
        next = number;
        now = ap (outcome_of k.schema) list_then ∙ all;
        began = is.began;
        held = λ list later p q. by list later p (q ∙ list_then) (shorter_or_all list ops op (later, q ∙ list_then))
            all;
      }
    where
      length_more : (l : List Op) → length (l ++ op ∷ []) ≡ suc (length l)
      length_more [] = refl
      length_more (x ∷ l) = ap suc (length_more l)

      by : (list later : List Op) → IsPrefix opening list → list ++ later ≡ (k.published ++ k.pending) ++ op ∷ []
          → IsPrefix list (k.published ++ k.pending) ⊎ (list ≡ (k.published ++ k.pending) ++ op ∷ [])
          → outcome_of k.schema ((k.published ++ k.pending) ++ op ∷ []) ≡ m
          → slice_get (m ∷ all_held n) (length later) ≡ Some (outcome_of k.schema list)
      by list later p q (inl r) all =
          let more : later ≡ r.0 ++ op ∷ [] = append_cancel_left list later (r.0 ++ op ∷ [])
          (q ∙ (ap (λ (l : List Op). l ++ op ∷ []) (sym r.1) ∙ append_assoc list r.0 (op ∷ []))) in
          subst (λ (i : ℕ). slice_get (m ∷ all_held n) i ≡ Some (outcome_of k.schema list))
          (sym (ap (λ (l : List Op). length l) more ∙ length_more r.0)) (is.held list r.0 p r.1)
      by list later p q (inr e) all =
          let none : later ≡ [] = append_cancel_left list later [] (q ∙ sym e ∙ sym (append_nothing list)) in
          subst (λ (l : List Op). slice_get (m ∷ all_held n) (length l) ≡ Some (outcome_of k.schema list)) (sym none)
          (ap Some (sym (ap (outcome_of k.schema) e ∙ all)))

pub put_is_a_deed : PutIsADeed
put_is_a_deed opening k n key time value few is =
    subst (λ (b : Bool). IsNode opening (with_pending k
    (Put (record { origin = k.origin; number = k.next; key = key; time = time; value = value })))
    (if b then holding n (n.next + 1) (put_sample k.schema n.now
    (record { time = time; origin = k.origin; number = n.next; key = key; value = value })) else n))
    (sym (le-leb n.next MAX_NUMBER (subst (λ (i : ℕ). i ≤ MAX_NUMBER) is.next few)))
    (one_more opening k n is (Put (record {
      origin = k.origin;
      number = k.next;
      key = key;
      time = time;
      value =
          value;
    })) _ (n.next + 1)
    (ap (λ (i : ℕ). put_sample k.schema n.now (record
    { time = time; origin = k.origin; number = i; key = key; value = value })) is.next)
    (ap (λ (i : ℕ). i + 1) is.next))

pub write_is_deeds : WriteIsDeeds
write_is_deeds opening k n p time [] few is = is
write_is_deeds opening k n p time (field ∷ fields) few is =
    let key = key_text p field.0 in
    write_is_deeds opening (with_put k key time field.1) (written cell_model k.schema k.origin n key time field.1) p
    time fields (omega (arith, few))
    (put_is_a_deed opening k n key time field.1 (omega (arith, few)) is)

pub join_is_a_deed : JoinIsADeed
join_is_a_deed opening k n there c here is =
    let name = (owned_cell c).0 in
    one_more opening k n is (Join c) _ _
    (ap (λ (o : Option Contribution). where_some o n.now (λ d. join_cell k.schema n.now name d)) (sym here))
    (ap (λ (i : ℕ). next_after k.origin i (owned_cell c)) is.next
    ∙ ap (λ (o : Option Contribution). where_some o n.next (λ d. next_after k.origin n.next (name, d))) (sym here))

pub page_is_deeds : PageIsDeeds
page_is_deeds opening k n there [] all is = is
page_is_deeds opening k n there (c ∷ cells) all is =
    page_is_deeds opening (with_pending k (Join c)) (taken cell_model k.schema k.origin n there (owned_cell c).0) there
    cells (All-tail (λ (d : Cell). get there (owned_cell d).0 ≡ Some d.contribution) c cells all)
    (join_is_a_deed opening k n there c (All-head (λ (d : Cell). get there (owned_cell d).0 ≡ Some d.contribution) c
    cells all) is)

pub publish_is_none : PublishIsNone
publish_is_none opening k n is =
    let ops = k.published ++ k.pending in
    record {
      next = is.next;
      now = ap (outcome_of k.schema) (append_nothing ops) ∙ is.now;
      began = prefix_trans opening k.published ops is.began (prefix_append k.published k.pending);
      held = λ list later p q. is.held list later p (q ∙ append_nothing ops);
    }

pub reopening_is_none : ReopeningIsNone
reopening_is_none opening k n b holds is = opening_is_a_node (own_replica k) b n holds.layout holds.live is.next is.now

-- ---- readers

pub readers_see_moments : ReadersSeeMoments
readers_see_moments opening k n r later is reads all =
    is.held r.list later reads.opened all ∙ ap (λ (s : Layout). Some (outcome_of s r.list)) (sym reads.schema)

pub readers_answer_from_samples : ReadersAnswerFromSamples
readers_answer_from_samples s deeds origin opening k n r later q is there schema node reads all =
    let seen = readers_see_moments opening k n r later node reads all in
    let at : Moment = record { origin = origin; ago = length later } in
    let held : held_at (after_all cell_model s deeds) at ≡ Some (cells_seen r) =
    ap (λ (o : Option (Node Cells)). o >>= λ x. slice_get (all_held x) (length later)) there ∙ seen in
    let known = from_cells s (held_at (after_all sample_model s deeds) at) (cells_seen r)
    (sym (held_then s deeds at is) ∙ held) in
    record {
      known = known.0;
      then = known.1;
      text_is = (λ i. cells_text ((reads.schema ∙ schema) i) (sym known.2 i) q) ∙ answer_of_state s is known.0 q;
    }

pub readers_answer_alike : ReadersAnswerAlike
readers_answer_alike s deeds a b q text other x y same = x.text_is ∙ fetches_are_of_the_live s x.known y.known q same
    ∙ sym y.text_is
