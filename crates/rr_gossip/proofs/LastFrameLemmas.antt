-- After its last frame a side takes no other.
use Rattle.std.proofs.Common.{◌≡◌, inl, inr, ℕ, Bool, true, false, not, List, [], ◌∷◌, ◌++◌, drop, Result, Ok, Err, refl, sym, ap, ◌∙◌}
use Rattle.std.specs.Prelude.{nat_le}
use Rattle.std.proofs.lemmas.List.{append-nil, map-append}
use Rattle.rr_text.specs.Results.{◌>>=◌, unless}
use Rattle.rr_schema.specs.Schema.{Layout}
use Rattle.rr_cells.specs.CellBounds.{NamedCell}
use Rattle.rr_cells.specs.Cells.{Cells}
use Rattle.rr_gossip.specs.declared.fault.GossipFault.{GossipFault}
use Rattle.rr_gossip.specs.declared.fault.GossipFault.TheVariants as why
use Rattle.rr_gossip.specs.declared.frame.Kind.{Kind}
use Rattle.rr_gossip.specs.declared.frame.Kind.TheVariants as kind
use Rattle.rr_gossip.specs.declared.giver.Giver.{Giver}
use Rattle.rr_gossip.specs.declared.giver.Stage.{Stage}
use Rattle.rr_gossip.specs.declared.giver.Stage.TheVariants as stage
use Rattle.rr_gossip.specs.declared.puller.Puller.{Puller}
use Rattle.rr_gossip.specs.declared.puller.Stage.TheVariants as puller
use Rattle.rr_gossip.specs.Frame.{content_at}
use Rattle.rr_gossip.specs.Giver as giving
use Rattle.rr_gossip.specs.Giver.{giver_takes}
use Rattle.rr_gossip.specs.Puller as pulling
use Rattle.rr_gossip.specs.Puller.{puller_takes}
use Rattle.rr_gossip.specs.Session.{is_giving}
use Rattle.rr_gossip.specs.Transcript.{contents, giver_after, puller_after}
use Rattle.rr_page.proofs.FieldLemmas.{not_false}
use Rattle.rr_gossip.proofs.OnceLemmas.{GoesOn}
use Rattle.rr_gossip.proofs.StepLemmas.{bind_ok, ok_is, true_false, unless_ok}

-- ---- one frame

none_due_to_giver : (st : Stage) (k : Kind) → is_giving st ≡ true → giving.is_due st k ≡ false
none_due_to_giver (stage.Giving left) kind.Hello e = refl
none_due_to_giver (stage.Giving left) kind.Summary e = refl
none_due_to_giver (stage.Giving left) kind.SummaryEnd e = refl
none_due_to_giver (stage.Giving left) kind.Page e = refl
none_due_to_giver (stage.Giving left) kind.PageEnd e = refl
none_due_to_giver stage.Opening k e = absurd cc
none_due_to_giver (stage.Listing names) k e = absurd cc
none_due_to_giver stage.Done k e = absurd cc
none_due_to_giver stage.Failed k e = absurd cc

giver_is_over : (m : Cells) (s : Layout) (g : Giver) (content : List ℕ) (x : Giver × Bool) → is_giving g.stage ≡ true
    → giver_takes m s g content ≡ Ok x → ⊥
unfolding giver_takes
giver_is_over m s g content x over e =
    let a = bind_ok (unless why.Failed (giving.has_failed g.stage) (content_at content)) _ x e in
    let b = bind_ok (unless why.UnexpectedFrame (not (giving.is_due g.stage a.0.0))
    (unless why.TooManyFrames (nat_le g.limit g.taken) (giving.body_taken m s g.stage a.0.0 a.0.1))) _ x a.2 in
    let due = unless_ok why.UnexpectedFrame (not (giving.is_due g.stage a.0.0))
    (unless why.TooManyFrames (nat_le g.limit g.taken) (giving.body_taken m s g.stage a.0.0 a.0.1)) b.0 b.1 in
    true_false (giving.is_due g.stage a.0.0) (not_false (giving.is_due g.stage a.0.0) due.0)
    (none_due_to_giver g.stage a.0.0 over)

none_due_to_puller : (k : Kind) → pulling.awaits puller.Done k ≡ false
none_due_to_puller kind.Hello = refl
none_due_to_puller kind.Summary = refl
none_due_to_puller kind.SummaryEnd = refl
none_due_to_puller kind.Page = refl
none_due_to_puller kind.PageEnd = refl

puller_is_over : (s : Layout) (p : Puller) (content : List ℕ) (x : (Puller × List NamedCell) × Bool)
    → p.stage ≡ puller.Done → puller_takes s p content ≡ Ok x → ⊥
unfolding puller_takes
puller_is_over s p content x over e =
    let a = bind_ok (unless why.Failed (pulling.has_failed p.stage) (content_at content)) _ x e in
    let b = bind_ok (unless why.UnexpectedFrame (not (pulling.awaits p.stage a.0.0))
    (unless why.TooManyFrames (nat_le p.limit p.taken) (pulling.body_taken s a.0.0 a.0.1))) _ x a.2 in
    let due = unless_ok why.UnexpectedFrame (not (pulling.awaits p.stage a.0.0))
    (unless why.TooManyFrames (nat_le p.limit p.taken) (pulling.body_taken s a.0.0 a.0.1)) b.0 b.1 in
    true_false (pulling.awaits p.stage a.0.0) (not_false (pulling.awaits p.stage a.0.0) due.0)
    (ap (λ st. pulling.awaits st a.0.0) over ∙ none_due_to_puller a.0.0)

-- ---- some frames, and then others

giver_append : (m : Cells) (s : Layout) (g : Giver) (cs ds : List (List ℕ))
    → giver_after m s g (cs ++ ds) ≡ (giver_after m s g cs >>= λ (q : Giver). giver_after m s q ds)
unfolding giver_after
giver_append m s g [] ds = refl
giver_append m s g (c ∷ cs) ds = by_first (giver_takes m s g c) (λ next. giver_append m s next.0 cs ds)
  where
    by_first : (x : Result (Giver × Bool) GossipFault)
        → ((next : Giver × Bool) → giver_after m s next.0 (cs ++ ds)
        ≡ (giver_after m s next.0 cs >>= λ (q : Giver). giver_after m s q ds))
        → (x >>= λ (next : Giver × Bool). giver_after m s next.0 (cs ++ ds))
        ≡ ((x >>= λ (next : Giver × Bool). giver_after m s next.0 cs) >>= λ (q : Giver). giver_after m s q ds)
    by_first (Ok next) later = later next
    by_first (Err fault) later = refl

pub puller_append : (s : Layout) (p : Puller) (had : List NamedCell) (cs ds : List (List ℕ))
    → puller_after s p had (cs ++ ds) ≡ (puller_after s p had cs >>= λ (x : Puller × List NamedCell). puller_after s x.0
    x.1 ds)
unfolding puller_after
puller_append s p had [] ds = refl
puller_append s p had (c ∷ cs) ds = by_first (puller_takes s p c)
    (λ next. puller_append s next.0.0 (had ++ next.0.1) cs ds)
  where
    by_first : (x : Result ((Puller × List NamedCell) × Bool) GossipFault)
        → ((next : (Puller × List NamedCell) × Bool)
        → puller_after s next.0.0 (had ++ next.0.1) (cs ++ ds)
        ≡ (puller_after s next.0.0 (had ++ next.0.1) cs >>= λ (y : Puller × List NamedCell). puller_after s y.0 y.1 ds))
        → (x >>= λ (next : (Puller × List NamedCell) × Bool). puller_after s next.0.0 (had ++ next.0.1) (cs ++ ds))
        ≡ ((x >>= λ (next : (Puller × List NamedCell) × Bool). puller_after s next.0.0 (had ++ next.0.1) cs) >>=
        λ (y : Puller × List NamedCell). puller_after s y.0 y.1 ds)
    by_first (Ok next) later = later next
    by_first (Err fault) later = refl

-- after its last frame a side takes no other
giver_alone : (m : Cells) (s : Layout) (g q r : Giver) (fs ds : List (List ℕ)) → giver_after m s g (contents fs) ≡ Ok q
    → is_giving q.stage ≡ true → giver_after m s g (contents (fs ++ ds)) ≡ Ok r → (ds ≡ []) × (q ≡ r)
unfolding giver_after
giver_alone m s g q r fs ds first over all = by_more ds
    (sym (ap (λ x. x >>= λ (y : Giver). giver_after m s y (contents ds)) first)
    ∙ sym (giver_append m s g (contents fs) (contents ds)) ∙ ap (giver_after m s g) (sym (map-append (drop 4) fs ds))
    ∙ all)
  where
    by_more : (es : List (List ℕ)) → giver_after m s q (contents es) ≡ Ok r → (es ≡ []) × (q ≡ r)
    by_more [] e = (refl, ok_is {E = GossipFault} q r e)
    by_more (c ∷ cs) e = let one = bind_ok (giver_takes m s q (drop 4 c))
        (λ (next : Giver × Bool). giver_after m s next.0 (contents cs)) r e in
        absurd (giver_is_over m s q (drop 4 c) one.0 over one.1)

pub puller_alone : (s : Layout) (p : Puller) (had : List NamedCell) (q r : Puller × List NamedCell)
    (fs ds : List (List ℕ))
    → puller_after s p had (contents fs) ≡ Ok q → q.0.stage ≡ puller.Done
    → puller_after s p had (contents (fs ++ ds)) ≡ Ok r → (ds ≡ []) × (q ≡ r)
unfolding puller_after
puller_alone s p had q r fs ds first over all = by_more ds
    (sym (ap (λ x. x >>= λ (y : Puller × List NamedCell). puller_after s y.0 y.1 (contents ds)) first)
    ∙ sym (puller_append s p had (contents fs) (contents ds))
    ∙ ap (puller_after s p had) (sym (map-append (drop 4) fs ds)) ∙ all)
  where
    by_more : (es : List (List ℕ)) → puller_after s q.0 q.1 (contents es) ≡ Ok r → (es ≡ []) × (q ≡ r)
    by_more [] e = (refl, ok_is {E = GossipFault} q r e)
    by_more (c ∷ cs) e = let one = bind_ok (puller_takes s q.0 (drop 4 c))
        (λ (next : (Puller × List NamedCell) × Bool). puller_after s next.0.0 (q.1 ++ next.0.1) (contents cs)) r e in
        absurd (puller_is_over s q.0 (drop 4 c) one.0 over one.1)

-- so of two lists, of which one goes on where the other ends, both are the same
pub giver_once : (m : Cells) (s : Layout) (g q r : Giver) (fs gs : List (List ℕ))
    → giver_after m s g (contents fs) ≡ Ok q
    → is_giving q.stage ≡ true → giver_after m s g (contents gs) ≡ Ok r → is_giving r.stage ≡ true → GoesOn fs gs
    → (fs ≡ gs) × (q ≡ r)
giver_once m s g q r fs gs e e_over f f_over (inl more) =
    let a = giver_alone m s g r q gs more.0 f f_over (ap (λ l. giver_after m s g (contents l)) (sym more.1) ∙ e) in
    (more.1 ∙ ap (λ l. gs ++ l) a.0 ∙ append-nil gs, sym a.1)
giver_once m s g q r fs gs e e_over f f_over (inr more) =
    let a = giver_alone m s g q r fs more.0 e e_over (ap (λ l. giver_after m s g (contents l)) (sym more.1) ∙ f) in
    (sym (more.1 ∙ ap (λ l. fs ++ l) a.0 ∙ append-nil fs), a.1)

pub puller_once : (s : Layout) (p : Puller) (had : List NamedCell) (q r : Puller × List NamedCell)
    (fs gs : List (List ℕ))
    → puller_after s p had (contents fs) ≡ Ok q → q.0.stage ≡ puller.Done → puller_after s p had (contents gs) ≡ Ok r
    → r.0.stage ≡ puller.Done → GoesOn fs gs → (fs ≡ gs) × (q ≡ r)
puller_once s p had q r fs gs e e_over f f_over (inl more) =
    let a = puller_alone s p had r q gs more.0 f f_over
    (ap (λ l. puller_after s p had (contents l)) (sym more.1) ∙ e) in
    (more.1 ∙ ap (λ l. gs ++ l) a.0 ∙ append-nil gs, sym a.1)
puller_once s p had q r fs gs e e_over f f_over (inr more) =
    let a = puller_alone s p had q r fs more.0 e e_over
    (ap (λ l. puller_after s p had (contents l)) (sym more.1) ∙ f) in
    (sym (more.1 ∙ ap (λ l. fs ++ l) a.0 ∙ append-nil fs), a.1)
