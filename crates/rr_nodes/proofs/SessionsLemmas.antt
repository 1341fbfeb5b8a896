-- What the bytes of a session bring.
use Rattle.std.proofs.Common.{◌≡◌, ◌≢◌, ℕ, length, List, [], ◌∷◌, ◌++◌, map, fold, append_assoc, slice_get, refl, sym, ap, ◌∙◌, subst, Option, None, Some}
use Rattle.std.specs.List.{All, AllByRecursion, concat}
use mathlib.Core.List.{IsPrefix}
use Rattle.std.specs.Option.{option_map}
use Rattle.std.specs.Cmp.{nat_cmp_total}
use Rattle.std.specs.FinMap.{empty, get, insert, entries, entries_sorted, is_sorted, nat_cmp-IsAntisymmetric}
use Rattle.std.proofs.lemmas.List.{append-nil}
use Rattle.std.proofs.lemmas.List.Elements.{All-from_recursion, recursion_from_All}
use Rattle.std.proofs.lemmas.List.Sums.{fold-append}
use Rattle.rr_text.specs.Options.{◌>>=◌}
use Rattle.rr_schema.specs.Schema.{Layout, IsLayout}
use Rattle.rr_join.proofs.Booleans.{true_from_T}
use Rattle.rr_join.proofs.ValuesLemmas.{get-insert_itself}
use Rattle.rr_contrib.specs.declared.contribution.Contribution.{Contribution}
use Rattle.rr_cells.specs.CellNames.{CellName, cell_name_cmp}
use Rattle.rr_cells.specs.Knowledge.{Knowledge, union, live, difference}
use Rattle.rr_cells.specs.declared.cell.Cell.{Cell}
use Rattle.rr_cells.specs.declared.op.Op.{Op}
use Rattle.rr_cells.specs.CellBounds.{NamedCell, IsCellOf}
use Rattle.rr_cells.specs.Cells.{Cells}
use Rattle.rr_cells.specs.ReplicaState.{IsReplicaState}
use Rattle.rr_cells.specs.Joins.{join_cell, join_cells}
use Rattle.rr_cells.specs.Listing.{owned_cell}
use Rattle.rr_cells.specs.Operations.{outcome_of, to_cell}
use Rattle.rr_cells.proofs.HeldCells.{all_held as each_held}
use Rattle.rr_desk.specs.KeeperState.{KeeperState, cells_of, own_replica}
use Rattle.rr_desk.proofs.PrefixLemmas.{prefix_refl}
use Rattle.rr_delta.specs.Difference.{IsSummary, newer_cells}
use Rattle.rr_delta.specs.Names.{IsNameOf, NamedVersion, versions_of}
use Rattle.rr_delta.proofs.HeldLemmas.{named_all}
use Rattle.rr_delta.proofs.LawLemmas.{difference_of_knowledges}
use Rattle.rr_delta.proofs.Walks.{sorted_versions}
use Rattle.rr_desk.specs.ReaderState.{HasJoined, with_joined}
use Rattle.rr_gossip.specs.declared.giver.Giver.{Giver}
use Rattle.rr_gossip.specs.Giver.{first_giver}
use Rattle.rr_gossip.specs.Pages.{AreLeft}
use Rattle.rr_gossip.specs.Session.{HasGiven, HasHeard, replied_by, sent_by}
use Rattle.rr_gossip.specs.Stream.{WasRead}
use Rattle.rr_gossip.specs.Transcript.{reply}
use Rattle.rr_gossip.proofs.PullLemmas.{gives_hear_the_names, pulls_bring_the_difference, stopped_pulls_take_a_prefix}
use Rattle.rr_nodes.specs.Nodes.{Node, Nodes, all_held, held_at, after, after_all, taken, where_some}
use Rattle.rr_nodes.specs.Models.{cell_model, sample_model}
use Rattle.rr_nodes.specs.Keepers.{IsNode}
use Rattle.rr_nodes.specs.Pulls.{takes}
use Rattle.rr_nodes.specs.Sessions.{lacking, names_lacking, now_at, SessionsBringWhatIsLacking, SessionsAreDeeds, PullIsDeeds, PullsAreJoins, CutSessionsBringAPrefix, SilentSessionsBringNothing, CutPullIsDeeds, CutPullsAreJoins}
use Rattle.rr_nodes.proofs.GivingLemmas.{given_are_there}
use Rattle.rr_nodes.proofs.KeepersLemmas.{page_is_deeds}
use Rattle.rr_nodes.specs.Calls.{Desk, Desks, HasBegun, Leave, joins_of_page}
use Rattle.rr_nodes.proofs.CallsLemmas.{pages_are_joins}
use Rattle.rr_nodes.proofs.DeedsLemmas.{from_cells, held_are_of_the_schema, held_then, premises_are_kept}
use Rattle.rr_nodes.proofs.NodesLemmas.{held_is_closed}
use Rattle.rr_nodes.proofs.PullsLemmas.{pulls_bring_all, takes_are_in_order}

-- ---- the bytes

-- bytes that were read before are as good as bytes of the stream
handed_in : (before had : List ℕ) (left : Option (List ℕ)) (frames : List (List ℕ)) (piece : List ℕ)
    → WasRead before (Some had) left frames piece → WasRead [] (Some (before ++ had)) left frames piece
handed_in before had None frames piece read = absurd read.consumed
handed_in before had (Some rest) frames piece read = record {
  bytes = before ++ read.bytes;
  consumed = ap (λ (l : List ℕ). before ++ l) read.consumed ∙ sym (append_assoc before read.bytes rest);
  cut = read.cut;
  each = read.each;
}

heard_all : (limit : ℕ) (s : Layout) (m : Cells) (last : Giver) (before had : List ℕ) (left : Option (List ℕ))
    → HasHeard s m (first_giver limit) last before (Some had) left
    → HasHeard s m (first_giver limit) last [] (Some (before ++ had)) left
heard_all limit s m last before had left h = record {
  frames = h.frames;
  read = handed_in before had left h.frames [] h.read;
  taken = h.taken;
  names = h.names;
  giving = h.giving;
  fits = h.fits;
}

gave_all : (limit : ℕ) (s : Layout) (m : Cells) (before had answer : List ℕ) (left : Option (List ℕ))
    → HasGiven limit s m before (Some had) left (Some []) (Some answer)
    → HasGiven limit s m [] (Some (before ++ had)) left (Some []) (Some answer)
unfolding heard_all
gave_all limit s m before had answer left g = record
    { last = g.last; heard = heard_all limit s m g.last before had left g.heard; few = g.few; replied = g.replied }

pub sessions_bring_what_is_lacking : SessionsBringWhatIsLacking
sessions_bring_what_is_lacking s had given cells is each session =
    pulls_bring_the_difference s had given cells session.limit session.limit_given session.answer session.more
    session.more_heard session.left session.left_given is each
    (subst (λ (l : List ℕ). HasGiven session.limit_given s given [] (Some l) session.left_given (Some [])
    (Some session.answer)) session.is_sent
    (gave_all session.limit_given s given session.before session.heard session.answer session.left_given session.gave))
    session.pulled

-- who heard what a side sends has what it lacks to send
lacking_is_due : (s : Layout) (had given : Cells) (limit : ℕ) (last : Giver) (before heard more : List ℕ)
    (left : Option (List ℕ)) → IsLayout s → All (IsCellOf s) (entries had)
    → before ++ heard ≡ concat (sent_by s had) ++ more
    → (h : HasHeard s given (first_giver limit) last before (Some heard) left)
    → newer_cells h.names (entries given) ≡ lacking given had
unfolding sent_by heard_all
lacking_is_due s had given limit last before heard more left is each sent h =
    let vs = versions_of had in
    let all : All (IsNameOf s) vs = All-from_recursion (IsNameOf s) vs
    (named_all s (entries had) (recursion_from_All (IsCellOf s) (entries had) each)) in
    let ascend : IsSummary vs = true_from_T (is_sorted cell_name_cmp vs)
    (sorted_versions (entries had) (entries_sorted had)) in
    subst (λ (l : List ℕ). (g : HasHeard s given (first_giver limit) last [] (Some l) left)
    → newer_cells g.names (entries given) ≡ lacking given had) (sym sent)
    (λ g. (gives_hear_the_names s given vs limit last more left is all ascend g).0)
    (heard_all limit s given last before heard left h)

answer_text : (s : Layout) (names : List NamedVersion) (m : Cells) (es : List NamedCell)
    → newer_cells names (entries m) ≡ es → concat (replied_by s names m) ≡ concat (reply s es)
unfolding replied_by
answer_text s names m es is = ap (λ (l : List NamedCell). concat (reply s l)) is

pub cut_sessions_bring_a_prefix : CutSessionsBringAPrefix
cut_sessions_bring_a_prefix s had given cells is each cut =
    let es = lacking given had in
    let due = lacking_is_due s had given cut.limit_given cut.last cut.before cut.heard cut.more_heard cut.left_given is
    each cut.is_sent cut.hears in
    let fits : AreLeft (s, es) = subst (λ (l : List NamedCell). AreLeft (s, l)) due cut.hears.fits in
    stopped_pulls_take_a_prefix s es cells (length (sent_by s had)) cut.limit cut.came cut.lost cut.more cut.left
    cut.fault is fits
    (cut.is_answer ∙ ap (λ (l : List ℕ). l ++ cut.more) (answer_text s cut.hears.names given es due)) cut.stopped

none_before_none : {X : Type 0} (xs : List X) → IsPrefix xs [] → xs ≡ []
none_before_none [] p = refl
none_before_none (x ∷ xs) p = absurd (cc (p.1))

pub silent_sessions_bring_nothing : SilentSessionsBringNothing
silent_sessions_bring_nothing s sent limit left fault cells is stopped =
    let fits : AreLeft (s, []) = record {
      cells = All-from_recursion (IsCellOf s) [] tt;
      names_ascend =
          true_from_T (is_sorted {X = Contribution} cell_name_cmp []) tt;
    } in
    let none = concat (reply s []) in
    none_before_none cells (stopped_pulls_take_a_prefix s [] cells sent limit [] none [] left fault is fits
    (sym (append-nil none)) stopped)

-- ---- the deeds

-- cells that are there, taken one after the other, are joined in order
taken_is_joined : (s : Layout) (origin : ℕ) (n : Node Cells) (given : Cells) (es : List NamedCell)
    → AllByRecursion (λ e. get given e.0 ≡ Some e.1) es
    → (fold (λ o name. taken cell_model s origin o given name) n (map (λ e. e.0) es)).now ≡ join_cells s n.now es
taken_is_joined s origin n given [] all = refl
taken_is_joined s origin n given (e ∷ es) all =
    taken_is_joined s origin (taken cell_model s origin n given e.0) given es all.1
    ∙ ap (λ (o : Option Contribution). join_cells s (where_some o n.now (λ c. join_cell s n.now e.0 c)) es) all.0

there_now : {K : Type 0} (ns : Nodes K) (origin : ℕ) (k : K) → held_at ns (now_at origin) ≡ Some k
    → (n : Node K) × (get ns origin ≡ Some n) × (n.now ≡ k)
there_now {K} ns origin k e = by (get ns origin) refl e
  where
    by : (o : Option (Node K)) → get ns origin ≡ o → (o >>= λ n. slice_get (all_held n) 0) ≡ Some k
        → (n : Node K) × (get ns origin ≡ Some n) × (n.now ≡ k)
    by None is e = absurd cc
    by (Some n) is e = let same : n.now ≡ k = cc in (n, is, same)

pub sessions_are_deeds : SessionsAreDeeds
sessions_are_deeds s deeds origin there had given cells is limits other mine theirs session =
    let names = names_lacking given had in
    let ns = after_all cell_model s deeds in
    let marks = after_all sample_model s deeds in
    let n = there_now ns origin had mine in
    let last = fold (λ o name. taken cell_model s origin o given name) n.0 names in
    let all : after_all cell_model s (deeds ++ takes origin there names) ≡ insert ns origin last =
    fold-append (after cell_model s) empty deeds (takes origin there names)
    ∙ takes_are_in_order cell_model s ns origin there names n.0 given other n.1 theirs in
    let lacked = recursion_from_All (λ (e : NamedCell). get given e.0 ≡ Some e.1) (lacking given had)
    (given_are_there given (versions_of had)) in
    let joined : last.now ≡ join_cells s had cells =
    taken_is_joined s origin n.0 given (lacking given had) lacked
    ∙ ap (λ (m : Cells). join_cells s m (lacking given had)) n.2
    ∙ ap (join_cells s had) (sym (sessions_bring_what_is_lacking s had given cells is
    (held_are_of_the_schema s deeds (now_at origin) had is limits mine) session)) in
    let kept = premises_are_kept s deeds is in
    let known = from_cells s (held_at marks (now_at origin)) had (sym (held_then s deeds (now_at origin) is) ∙ mine) in
    let given_known = from_cells s (held_at marks there) given (sym (held_then s deeds there is) ∙ theirs) in
    let node = there_now marks origin known.0 known.1 in
    let same = (λ i. names_lacking (sym given_known.2 i) (sym known.2 i))
    ∙ difference_of_knowledges s kept.0 given_known.0 known.0 is
    (held_is_closed s kept.0 marks kept.1 there given_known.0 given_known.1)
    (held_is_closed s kept.0 marks kept.1 (now_at origin) known.0 known.1) in
    let whole = pulls_bring_all s deeds origin there node.0 given_known.0 is other node.1 given_known.1 in
    record {
      cells = ap (λ (m : Nodes Cells). held_at m (now_at origin)) all
          ∙ ap (λ (o : Option (Node Cells)). o >>= λ x. slice_get (all_held x) 0)
          (get-insert_itself nat_cmp_total nat_cmp-IsAntisymmetric ns origin last)
          ∙ ap Some joined;
      known = known.0;
      is_known = known.1;
      given = given_known.0;
      is_given = given_known.1;
      marks = ap (λ (ns : List CellName). option_map (live s)
          (held_at (after_all sample_model s (deeds ++ takes origin there ns)) (now_at origin)))
          (same ∙ ap (λ (j : Knowledge). difference s given_known.0 j) (sym node.2))
          ∙ whole
          ∙ ap (λ (j : Knowledge). Some (live s (union j given_known.0))) node.2;
    }

-- ---- the keeper

taken_by_name : (s : Layout) (origin : ℕ) (given : Cells) (n : Node Cells) (es : List NamedCell)
    → fold (λ o c. taken cell_model s origin o given (owned_cell c).0) n (map to_cell es)
    ≡ fold (λ o name. taken cell_model s origin o given name) n (map (λ e. e.0) es)
taken_by_name s origin given n [] = refl
taken_by_name s origin given n (e ∷ es) = taken_by_name s origin given (taken cell_model s origin n given e.0) es

all_there : (given : Cells) (es : List NamedCell) → AllByRecursion (λ (e : NamedCell). get given e.0 ≡ Some e.1) es
    → AllByRecursion (λ (c : Cell). get given (owned_cell c).0 ≡ Some c.contribution) (map to_cell es)
all_there given [] all = tt
all_there given (e ∷ es) all = (all.0, all_there given es all.1)

all_before : {X : Type 0} (P : X → Type 0) (xs ys : List X) → AllByRecursion P (xs ++ ys) → AllByRecursion P xs
all_before P [] ys all = tt
all_before P (x ∷ xs) ys all = (all.0, all_before P xs ys all.1)

-- each of the first cells that were lacking is there
lacked_there : (given had : Cells) (cells : List NamedCell) → IsPrefix cells (lacking given had)
    → All (λ (c : Cell). get given (owned_cell c).0 ≡ Some c.contribution) (map to_cell cells)
lacked_there given had cells prefix =
    let has : NamedCell → Type 0 = λ e. get given e.0 ≡ Some e.1 in
    let all = recursion_from_All has (lacking given had) (given_are_there given (versions_of had)) in
    All-from_recursion (λ (c : Cell). get given (owned_cell c).0 ≡ Some c.contribution) (map to_cell cells)
    (all_there given cells (all_before has cells prefix.0 (subst (AllByRecursion has) (sym prefix.1) all)))

held_are_of_schema : (k : KeeperState) → IsReplicaState (own_replica k) → All (IsCellOf k.schema) (entries (cells_of k))
held_are_of_schema k holds = All-from_recursion (IsCellOf k.schema) (entries (cells_of k))
    (each_held (own_replica k) holds)

prefix_is_deeds : (opening : List Op) (old new : KeeperState) (n : Node Cells) (given : Cells) (cells : List NamedCell)
    → IsNode opening old n → IsPrefix cells (lacking given (cells_of old)) → HasJoined old new cells
    → IsNode opening new (fold (λ o name. taken cell_model old.schema old.origin o given name) n (map (λ e. e.0) cells))
prefix_is_deeds opening old new n given cells is prefix joined =
    subst (λ (k : KeeperState). IsNode opening k (fold (λ o name. taken cell_model old.schema old.origin o given name) n
    (map (λ e. e.0) cells))) (sym joined)
    (subst (IsNode opening (with_joined old (map to_cell cells))) (taken_by_name old.schema old.origin given n cells)
    (page_is_deeds opening old n given (map to_cell cells) (lacked_there given (cells_of old) cells prefix) is))

pub pull_is_deeds : PullIsDeeds
pull_is_deeds opening old new n given cells holds is session joined =
    let all = sessions_bring_what_is_lacking old.schema (cells_of old) given cells holds.layout
    (held_are_of_schema old holds) session in
    subst (λ (es : List NamedCell). IsNode opening new
    (fold (λ o name. taken cell_model old.schema old.origin o given name) n (map (λ e. e.0) es))) all
    (prefix_is_deeds opening old new n given cells is (subst (IsPrefix cells) all (prefix_refl cells)) joined)

pub cut_pull_is_deeds : CutPullIsDeeds
cut_pull_is_deeds opening old new n given cells holds is cut joined =
    prefix_is_deeds opening old new n given cells is
    (cut_sessions_bring_a_prefix old.schema (cells_of old) given cells holds.layout (held_are_of_schema old holds)
    cut) joined

-- ---- several desks

prefix_is_joins : (s : Layout) (ds : Desks) (origin there : ℕ) (d : Desk) (new : KeeperState) (list : List Op)
    (cells : List NamedCell) → get ds origin ≡ Some d → there ≢ origin → HasBegun ds there list
    → IsPrefix cells (lacking (outcome_of s list) (cells_of d.keeper)) → HasJoined d.keeper new cells
    → Leave s ds origin d (joins_of_page origin there list (map to_cell cells)) new
prefix_is_joins s ds origin there d new list cells here other begun prefix joined =
    subst (Leave s ds origin d (joins_of_page origin there list (map to_cell cells))) (sym joined)
    (pages_are_joins s ds origin there d list (map to_cell cells) here other begun
    (lacked_there (outcome_of s list) (cells_of d.keeper) cells prefix))

pub pulls_are_joins : PullsAreJoins
pulls_are_joins s ds origin there d new list cells here other begun holds schema session joined =
    let each = subst (λ (l : Layout). All (IsCellOf l) (entries (cells_of d.keeper))) schema
    (held_are_of_schema d.keeper holds) in
    let all = sessions_bring_what_is_lacking s (cells_of d.keeper) (outcome_of s list) cells
    (subst IsLayout schema holds.layout) each session in
    prefix_is_joins s ds origin there d new list cells here other begun (subst (IsPrefix cells) all (prefix_refl cells))
    joined

pub cut_pulls_are_joins : CutPullsAreJoins
cut_pulls_are_joins s ds origin there d new list cells here other begun holds schema cut joined =
    let each = subst (λ (l : Layout). All (IsCellOf l) (entries (cells_of d.keeper))) schema
    (held_are_of_schema d.keeper holds) in
    prefix_is_joins s ds origin there d new list cells here other begun
    (cut_sessions_bring_a_prefix s (cells_of d.keeper) (outcome_of s list) cells (subst IsLayout schema holds.layout)
    each cut) joined
