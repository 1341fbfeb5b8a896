-- The frames that a puller sends in a row.
use Rattle.std.proofs.Common.{◌≡◌, ℕ, zero, suc, ◌+◌, ◌<◌, ◌≤◌, Bool, true, false, cond, T, List, [], ◌∷◌, ◌++◌, length, map, take, drop, slice_get, Option, None, Some, Ok, refl, sym, ap, subst, ◌∙◌, arith}
use Rattle.std.specs.Prelude.{nat_le, ◌&&◌, is_some, unwrap_or}
use Rattle.std.specs.List.{filter, last_or, take-map, drop-map}
use Rattle.std.specs.Option.{option_map}
use Rattle.std.specs.FinMap.{entries, entries_sorted, is_sorted}
use Rattle.std.proofs.lemmas.List.{length-drop}
use Rattle.rr_text.specs.Results.{◌>>=◌, unless}
use Rattle.rr_schema.specs.Schema.{Layout}
use Rattle.rr_schema.specs.SchemaBytes.{schema_bytes}
use Rattle.rr_delta.specs.declared.name.Name.{Name}
use Rattle.rr_delta.specs.Names.{NamedVersion, named_version, owned_name, versions_of}
use Rattle.rr_delta.specs.Summaries.{cells_after, cells_from}
use Rattle.rr_delta.proofs.Walks.{before_both, walked_to, sorted_after}
use Rattle.rr_cells.specs.CellNames.{CellName, cell_name_cmp}
use Rattle.rr_replica.proofs.NextCell.{is_past}
use Rattle.rr_cells.specs.CellBounds.{NamedCell}
use Rattle.rr_cells.specs.Cells.{Cells}
use Rattle.rr_gossip.specs.declared.fault.GossipFault.TheVariants as why
use Rattle.rr_gossip.specs.declared.frame.Kind.TheVariants as kind
use Rattle.rr_gossip.specs.declared.puller.Puller.{Puller}
use Rattle.rr_gossip.specs.declared.puller.Stage.{Stage}
use Rattle.rr_gossip.specs.declared.puller.Stage.TheVariants.{Opening, Listing, Waiting}
use Rattle.rr_gossip.specs.declared.summary.TheConstants.{MAX_ENTRIES}
use Rattle.rr_gossip.specs.Frame.{frame_text}
use Rattle.rr_gossip.specs.Giver.{count_with}
use Rattle.rr_gossip.specs.Puller.{as_name, last_listed, names_sent, some_sent, stage_sends, puller_sends}
use Rattle.rr_gossip.specs.Summary.{summary_text}
use Rattle.rr_gossip.specs.Transcript.{pieces, and_later, puller_frames, PullersSend}
use Rattle.rr_gossip.proofs.PagesLemmas.{drop_taken, drop_twice}
use Rattle.rr_gossip.proofs.ReplyLemmas.{under}

-- ---- the cells after the last of a piece

abbrev pub name_in : Option Name → Option CellName
name_in after = option_map (λ n. (owned_name n).0) after

filter_twice : (p q : NamedCell → Bool) (es : List NamedCell) → ((e : NamedCell) → p e ≡ true → q e ≡ true)
    → filter p (filter q es) ≡ filter p es
filter_twice p q [] f = refl
filter_twice p q (e ∷ es) f =
    let rest = filter_twice p q es f in
    elim (q e) as (λ b. q e ≡ b → filter p (cond b (e ∷ filter q es) (filter q es)) ≡ filter p (e ∷ es)) [
      | true ↦ λ t i. cond (p e) (e ∷ rest i) (rest i)
      | false ↦ λ t. rest ∙ sym (ap (λ b. cond b (e ∷ filter p es) (filter p es)) (not_that e t))
    ] refl
  where
    not_that : (x : NamedCell) → q x ≡ false → p x ≡ false
    not_that x t = elim (p x) as (λ b. p x ≡ b → b ≡ false) [
      | true ↦ λ u. sym (f x u) ∙ t
      | false ↦ λ u. refl
    ] refl

among_is_past : (n : CellName) (e : NamedCell) (es : List NamedCell) (k : ℕ)
    → slice_get (filter (is_past n) es) k ≡ Some e → is_past n e ≡ true
among_is_past n e [] k h = absurd cc
among_is_past n e (f ∷ es) k h = elim (is_past n f) as
    (λ b. is_past n f ≡ b → slice_get (cond b (f ∷ filter (is_past n) es) (filter (is_past n) es)) k ≡ Some e
    → is_past n e ≡ true) [
      | true ↦ λ t g. by_place k t (λ j. among_is_past n e es j) g
      | false ↦ λ t g. among_is_past n e es k g
    ] refl h
  where
    by_place : (j : ℕ) → is_past n f ≡ true → ((i : ℕ) → slice_get (filter (is_past n) es) i ≡ Some e
        → is_past n e ≡ true) → slice_get (f ∷ filter (is_past n) es) j ≡ Some e → is_past n e ≡ true
    by_place zero t others g = subst (λ x. is_past n x ≡ true) (ap (λ o. unwrap_or o f) g) t
    by_place (suc j) t others g = others j g

-- where a cell is among those after a name, what is after it is after the name too
after_both : (n : Option CellName) (es : List NamedCell) (i : ℕ) (e : NamedCell)
    → slice_get (cells_after n es) i ≡ Some e → filter (is_past e.0) (cells_after n es) ≡ filter (is_past e.0) es
after_both None es i e at = refl
after_both (Some n) es i e at = filter_twice (is_past e.0) (is_past n) es
    (λ f past. before_both n e.0 f.0 (among_is_past n e es i at) past)

-- the last of a cell and those after it
last_of : NamedCell → List NamedCell → NamedCell
last_of e [] = e
last_of e (f ∷ es) = last_of f es

last_version : (e : NamedCell) (es : List NamedCell)
    → last_or (Some (named_version e)) (map named_version es) ≡ Some (named_version (last_of e es))
unfolding last_of
last_version e [] = refl
last_version e (f ∷ es) = last_version f es

at_end : (k : ℕ) (e : NamedCell) (es : List NamedCell)
    → slice_get (e ∷ es) (length (take k es)) ≡ Some (last_of e (take k es))
unfolding last_of
at_end zero e [] = refl
at_end zero e (f ∷ es) = refl
at_end (suc k) e [] = refl
at_end (suc k) e (f ∷ es) = at_end k f es

-- what follows a cell is what is left after it
tail_is : (l : NamedCell) (ls xs : List NamedCell) (i : ℕ) → l ∷ ls ≡ drop i xs → ls ≡ drop (i + 1) xs
tail_is l ls xs i e = ap (drop 1) e ∙ sym (drop_twice i 1 xs)

-- the cells after the last of a piece are the ones that it leaves
cells_left : (n : Option CellName) (all : List NamedCell) (k : ℕ) (e : NamedCell) (es : List NamedCell)
    → T (is_sorted cell_name_cmp all) → cells_after n all ≡ e ∷ es
    → filter (is_past (last_of e (take k es)).0) all ≡ drop (suc k) (e ∷ es)
cells_left n all k e es sorted is =
    let l = last_of e (take k es) in
    let i = length (take k es) in
    let xs = e ∷ es in
    let at = at_end k e es in
    let sorted_xs = subst (λ l. T (is_sorted cell_name_cmp l)) is (sorted_after n all sorted) in
    let walk : l ∷ filter (is_past l.0) xs ≡ drop i xs = ap (λ o. cells_from o xs) (sym at)
    ∙ walked_to i xs sorted_xs in
    sym (after_both n all i l (ap (λ l. slice_get l i) is ∙ at))
    ∙ ap (filter (is_past l.0)) is
    ∙ tail_is l (filter (is_past l.0) xs) xs i walk
    ∙ ap (λ n. drop n xs) (one_more i)
    ∙ drop_taken (suc k) xs
  where
    one_more : (n : ℕ) → n + 1 ≡ suc n
    one_more n = omega arith

-- so are the names
pub next_left : (m : Cells) (after : Option Name) (k : ℕ) (v : NamedVersion) (vs : List NamedVersion)
    → v ∷ vs ≡ map named_version (cells_after (name_in after) (entries m))
    → map named_version (cells_after (name_in (last_listed (take (suc k) (v ∷ vs)))) (entries m))
    ≡ drop (suc k) (v ∷ vs)
next_left m after k v vs is = by_cells (cells_after (name_in after) (entries m)) refl is
  where
    by_cells : (xs : List NamedCell) → cells_after (name_in after) (entries m) ≡ xs → v ∷ vs ≡ map named_version xs
        → map named_version (cells_after (name_in (last_listed (take (suc k) (v ∷ vs)))) (entries m))
        ≡ drop (suc k) (v ∷ vs)
    by_cells [] e f = absurd cc
    by_cells (x ∷ xs) e f =
        let last = ap (λ ws. last_listed (take (suc k) ws)) f
        ∙ ap (λ ws. option_map as_name (last_or (Some (named_version x)) ws)) (take-map named_version k xs)
        ∙ ap (option_map as_name) (last_version x (take k xs)) in
        ap (λ o. map named_version (cells_after (name_in o) (entries m))) last
        ∙ ap (map named_version) (cells_left (name_in after) (entries m) k x xs (entries_sorted m) e)
        ∙ sym (drop-map named_version (suc k) (x ∷ xs))
        ∙ ap (drop (suc k)) (sym f)

-- ---- frames

module _ (m : Cells) (s : Layout) (limit : ℕ) where
  at : Stage → ℕ → Puller
  at stage before = record { stage = stage; sent = before; taken = 0; limit = limit }

  one_sent : (stage next : Stage) (frame : List ℕ) (before : ℕ) → before < limit
      → stage_sends m s stage ≡ Ok (next, Some frame)
      → puller_sends m s (at stage before) ≡ Ok (at next (before + 1), Some frame)
  unfolding puller_sends at
  one_sent stage next frame before lt sends =
      ap (λ r. r >>= λ (x : Stage × Option (List ℕ)). unless why.TooManyFrames (is_some x.1 && nat_le limit before)
      (Ok (record { stage = x.0; sent = count_with before x.1; taken = 0; limit = limit }, x.1))) sends
      ∙ ap (λ b. unless why.TooManyFrames (true && b)
      (Ok (record { stage = next; sent = before + 1; taken = 0; limit = limit }, Some frame)))
      (under before limit lt)

  none_after : (most before : ℕ) → puller_frames most m s (at Waiting before) ≡ Ok (at Waiting before, [])
  unfolding puller_frames puller_sends at
  none_after zero before = refl
  none_after (suc most) before = refl

  frames_from : (stage next : Stage) (frame : List ℕ) (before most : ℕ) (end : Puller) (later : List (List ℕ))
      → before < limit → stage_sends m s stage ≡ Ok (next, Some frame)
      → puller_frames most m s (at next (before + 1)) ≡ Ok (end, later)
      → puller_frames (suc most) m s (at stage before) ≡ Ok (end, frame ∷ later)
  unfolding puller_frames
  frames_from stage next frame before most end later lt sends rest =
      ap (λ r. r >>= λ (x : Puller × Option (List ℕ)). and_later x.0 x.1 (puller_frames most m s x.0))
      (one_sent stage next frame before lt sends)
      ∙ ap (λ r. r >>= λ (x : Puller × List (List ℕ)). Ok (x.0, frame ∷ x.1)) rest

  abbrev names : ℕ → List NamedVersion → List (List ℕ)
  names k vs = map (λ piece. frame_text kind.Summary (summary_text piece)) (pieces k MAX_ENTRIES vs)
      ++ frame_text kind.SummaryEnd [] ∷ []

  end_alone : (after : Option Name) (before most : ℕ) → [] ≡ map named_version (cells_after (name_in after) (entries m))
      → before + 1 ≤ limit → 1 ≤ most → puller_frames most m s (at (Listing after) before)
      ≡ Ok (at Waiting (before + 1), frame_text kind.SummaryEnd [] ∷ [])
  end_alone after before zero is room more = absurd (omega arith)
  end_alone after before (suc most) is room more =
      frames_from (Listing after) Waiting (frame_text kind.SummaryEnd []) before most (at Waiting (before + 1)) []
      (omega arith) (ap (λ ws. some_sent (names_sent (take MAX_ENTRIES ws))) (sym is))
      (none_after most (before + 1))

  sends : (k : ℕ) (after : Option Name) (vs : List NamedVersion) (before most : ℕ)
      → vs ≡ map named_version (cells_after (name_in after) (entries m)) → length vs ≤ k
      → before + length (names k vs) ≤ limit → length (names k vs) ≤ most
      → puller_frames most m s (at (Listing after) before) ≡ Ok (at Waiting (before + length (names k vs)), names k vs)
  unfolding pieces
  sends zero after [] before most is few room more = end_alone after before most is room more
  sends zero after (v ∷ vs) before most is few room more = absurd (omega arith)
  sends (suc k) after [] before most is few room more = end_alone after before most is room more
  sends (suc k) after (v ∷ vs) before zero is few room more = absurd (omega arith)
  sends (suc k) after (v ∷ vs) before (suc most) is few room more =
      let piece = take MAX_ENTRIES (v ∷ vs) in
      let left = drop MAX_ENTRIES (v ∷ vs) in
      let less = length-drop MAX_ENTRIES (v ∷ vs) in
      frames_from (Listing after) (Listing (last_listed piece)) (frame_text kind.Summary (summary_text piece)) before
      most _ (names k left) (omega arith) (ap (λ ws. some_sent (names_sent (take MAX_ENTRIES ws))) (sym is))
      (sends k (last_listed piece) left (before + 1) most (sym (next_left m after 255 v vs is)) (omega arith)
      (omega arith) (omega arith)
      ∙ ap (λ n. Ok (at Waiting n, names k left)) (one_later before (length (names k left))))
    where
      one_later : (a b : ℕ) → a + 1 + b ≡ a + suc b
      one_later a b = omega arith

pub pullers_send : PullersSend
unfolding at
pullers_send s m limit zero room more = absurd (omega arith)
pullers_send s m limit (suc most) room more =
    let vs = versions_of m in
    frames_from m s limit Opening (Listing None) (frame_text kind.Hello (schema_bytes s)) 0 most _
    (names m s limit (length vs) vs) (omega arith) refl
    (sends m s limit (length vs) None vs 1 most refl (omega arith) (omega arith) (omega arith)
    ∙ ap (λ n. Ok (at m s limit Waiting n, names m s limit (length vs) vs))
    (one_first (length (names m s limit (length vs) vs))))
  where
    one_first : (n : ℕ) → 1 + n ≡ suc n
    one_first n = omega arith
