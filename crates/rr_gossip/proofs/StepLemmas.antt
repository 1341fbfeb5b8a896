-- What one frame does to a side of a session: the faults that it can have, and the count of frames.
use Rattle.std.proofs.Common.{◌≡◌, ℕ, ◌+◌, ◌<◌, ◌≤◌, arith, Bool, true, false, not, List, [], ◌∷◌, ◌++◌, length, Option, None, Some, Result, Ok, Err, refl, sym, ap, ◌∙◌}
use Rattle.std.specs.Prelude.{nat_le, ◌==◌}
use Rattle.std.proofs.lemmas.Bool.{leb-false, lt-leb}
use Rattle.rr_text.specs.Results.{◌>>=◌, unless}
use Rattle.rr_schema.specs.Schema.{Layout}
use Rattle.rr_page.specs.declared.fault.PageFault.{PageFault}
use Rattle.rr_page.specs.declared.fault.PageFault.TheVariants as page
use Rattle.rr_page.specs.PageReading.{page_at}
use Rattle.rr_cells.specs.CellBounds.{NamedCell}
use Rattle.rr_gossip.specs.declared.fault.GossipFault.{GossipFault}
use Rattle.rr_gossip.specs.declared.fault.GossipFault.TheVariants.{ReadFailed, Ended, FrameTooLong, BadFrame, UnexpectedFrame, TooManyFrames, SchemaDiffers, WriteFailed, Memory, Failed}
use Rattle.rr_gossip.specs.declared.frame.Kind.{Kind}
use Rattle.rr_gossip.specs.declared.frame.Kind.TheVariants as kind
use Rattle.rr_gossip.specs.declared.puller.Puller.{Puller}
use Rattle.rr_gossip.specs.declared.puller.Stage.TheVariants.{Waiting, Done}
use Rattle.rr_gossip.specs.Fault.{as_body}
use Rattle.rr_gossip.specs.Frame.{kind_at, known_kind, kind_of, content_at}
use Rattle.rr_gossip.specs.Transcript.{puller_after}
use Rattle.rr_gossip.specs.Puller.{Taken, has_failed, awaits, page_taken, end_taken, body_taken, puller_takes}

-- ---- steps that may fail

pub bind_ok : {A B E : Type 0} (r : Result A E) (f : A → Result B E) (y : B) → (r >>= f) ≡ Ok y
    → (x : A) × (r ≡ Ok x) × (f x ≡ Ok y)
bind_ok (Ok x) f y e = (x, refl, e)
bind_ok (Err d) f y e = absurd cc

pub unless_ok : {A E : Type 0} (fault : E) (refused : Bool) (r : Result A E) (y : A) → unless fault refused r ≡ Ok y
    → (refused ≡ false) × (r ≡ Ok y)
unless_ok fault true r y e = absurd cc
unless_ok fault false r y e = (refl, e)

ok_or_else : {A E : Type 0} → A → Result A E → A
ok_or_else x (Ok y) = y
ok_or_else x (Err d) = x

pub ok_is : {A E : Type 0} (x y : A) → ◌≡◌ {A = Result A E} (Ok x) (Ok y) → x ≡ y
unfolding ok_or_else
ok_is x y e = ap (ok_or_else x) e

-- ---- which faults a frame can have

-- whether a frame can have it, and no stream
abbrev pub is_of_frame : GossipFault → Bool
is_of_frame ReadFailed = false
is_of_frame Ended = false
is_of_frame FrameTooLong = true
is_of_frame BadFrame = true
is_of_frame UnexpectedFrame = true
is_of_frame TooManyFrames = true
is_of_frame SchemaDiffers = true
is_of_frame WriteFailed = false
is_of_frame Memory = true
is_of_frame Failed = true

-- a refusal has such a fault
abbrev pub OfFrame : {A : Type 0} → Result A GossipFault → Type 0
OfFrame (Ok x) = Unit {0}
OfFrame (Err fault) = is_of_frame fault ≡ true

pub of_bind : {A B : Type 0} (r : Result A GossipFault) (f : A → Result B GossipFault) → OfFrame r
    → ((x : A) → OfFrame (f x)) → OfFrame (r >>= f)
of_bind (Ok x) f h each = each x
of_bind (Err fault) f h each = h

pub of_unless : {A : Type 0} (fault : GossipFault) (b : Bool) (r : Result A GossipFault) → is_of_frame fault ≡ true
    → OfFrame r → OfFrame (unless fault b r)
of_unless fault true r is h = is
of_unless fault false r is h = h

pub of_body : {A : Type 0} (r : Result A PageFault) → OfFrame (as_body r)
of_body (Ok x) = tt
of_body (Err page.Short) = refl
of_body (Err page.BadMagic) = refl
of_body (Err page.BadVersion) = refl
of_body (Err page.SchemaDiffers) = refl
of_body (Err page.TooManyCells) = refl
of_body (Err page.BadKey) = refl
of_body (Err page.BadArchive) = refl
of_body (Err page.BadContribution) = refl
of_body (Err page.OutOfOrder) = refl
of_body (Err page.TrailingBytes) = refl
of_body (Err page.Memory) = refl

of_kind : (content : List ℕ) → OfFrame (kind_of content)
of_kind [] = refl
of_kind (byte ∷ body) = by_kind (kind_at byte)
  where
    by_kind : (o : Option Kind) → OfFrame (known_kind o body)
    by_kind None = refl
    by_kind (Some k) = tt

pub of_content : (content : List ℕ) → OfFrame (content_at content)
unfolding content_at
of_content content = of_unless FrameTooLong _ (kind_of content) refl (of_kind content)

err_or_else : {A : Type 0} → Result A GossipFault → GossipFault
err_or_else (Ok x) = ReadFailed
err_or_else (Err f) = f

pub err_is : {A : Type 0} (f g : GossipFault) → ◌≡◌ {A = Result A GossipFault} (Err f) (Err g) → f ≡ g
unfolding err_or_else
err_is f g e = ap err_or_else e

pub of_fault : {A : Type 0} (r : Result A GossipFault) (fault : GossipFault) → OfFrame r → r ≡ Err fault
    → is_of_frame fault ≡ true
of_fault (Ok x) fault h e = absurd cc
of_fault {A = A} (Err other) fault h e = ap is_of_frame (sym (err_is {A = A} other fault e)) ∙ h

-- ---- the side that pulls

of_page : (s : Layout) (body : List ℕ) → OfFrame (page_taken s body)
unfolding page_taken
of_page s body = of_bind (as_body (page_at s body)) (λ (es : List NamedCell). Ok ((Waiting, es), false))
    (of_body (page_at s body)) (λ es. tt)

of_end : (body : List ℕ) → OfFrame (end_taken body)
unfolding end_taken
of_end body = of_unless BadFrame _ (Ok ((Done, []), true)) refl tt

of_taken : (s : Layout) (k : Kind) (body : List ℕ) → OfFrame (body_taken s k body)
of_taken s kind.Hello body = refl
of_taken s kind.Summary body = refl
of_taken s kind.SummaryEnd body = refl
of_taken s kind.Page body = of_page s body
of_taken s kind.PageEnd body = of_end body

of_puller : (s : Layout) (p : Puller) (content : List ℕ) → OfFrame (puller_takes s p content)
unfolding puller_takes
of_puller s p content =
    of_bind _ _ (of_unless Failed (has_failed p.stage) (content_at content) refl (of_content content))
    (λ frame. of_bind _ _ (of_unless UnexpectedFrame (not (awaits p.stage frame.0)) _ refl
    (of_unless TooManyFrames (nat_le p.limit p.taken) _ refl (of_taken s frame.0 frame.1))) (λ next. tt))

-- what a puller refuses, no stream is to blame for
pub puller_fault : (s : Layout) (p : Puller) (content : List ℕ) (fault : GossipFault)
    → puller_takes s p content ≡ Err fault → is_of_frame fault ≡ true
puller_fault s p content fault e = of_fault (puller_takes s p content) fault (of_puller s p content) e

-- one frame more is taken of those that may be, and only the last leaves a puller done
pub record PullerMoves (p q : Puller) (es : List NamedCell) (last : Bool) : Type 0 where
  pub room : p.taken < p.limit
  pub taken : q.taken ≡ p.taken + 1
  pub limit : q.limit ≡ p.limit
  pub sent : q.sent ≡ p.sent
  pub done : last ≡ true → (q.stage ≡ Done) × (es ≡ [])
  pub going : last ≡ false → q.stage ≡ Waiting

page_moves : (s : Layout) (body : List ℕ) (x : Taken) → page_taken s body ≡ Ok x → (x.1 ≡ false) × (x.0.0 ≡ Waiting)
unfolding page_taken
page_moves s body x e =
    let b = bind_ok (as_body (page_at s body)) (λ (es : List NamedCell). Ok ((Waiting, es), false)) x e in
    let is = ok_is {E = GossipFault} ((Waiting, b.0), false) x b.2 in
    (ap (λ (y : Taken). y.1) (sym is), ap (λ (y : Taken). y.0.0) (sym is))

end_moves : (body : List ℕ) (x : Taken) → end_taken body ≡ Ok x → x ≡ ((Done, []), true)
unfolding end_taken
end_moves body x e = sym (ok_is {E = GossipFault} ((Done, []), true) x
    (unless_ok BadFrame (not (length body == 0)) (Ok ((Done, []), true)) x e).1)

-- the last frame is the end, any other a page
abbrev StageMoves : Taken → Type 0
StageMoves x = (x.1 ≡ true → (x.0.0 ≡ Done) × (x.0.1 ≡ [])) × (x.1 ≡ false → x.0.0 ≡ Waiting)

pub true_false : {P : Type 0} → (b : Bool) → b ≡ true → b ≡ false → P
true_false true e f = absurd cc
true_false false e f = absurd cc

stage_moves : (s : Layout) (k : Kind) (body : List ℕ) (x : Taken) → body_taken s k body ≡ Ok x → StageMoves x
stage_moves s kind.Hello body x e = absurd cc
stage_moves s kind.Summary body x e = absurd cc
stage_moves s kind.SummaryEnd body x e = absurd cc
stage_moves s kind.Page body x e = let m = page_moves s body x e in (λ t. true_false x.1 t m.0, λ f. m.1)
stage_moves s kind.PageEnd body x e =
    let is = end_moves body x e in (
      λ t. (ap (λ (y : Taken). y.0.0) is, ap (λ (y : Taken). y.0.1) is),
      λ f. true_false x.1 (ap (λ (y : Taken). y.1) is) f,
    )

abbrev next_puller : Puller → Taken → Result ((Puller × List NamedCell) × Bool) GossipFault
next_puller p next = Ok (
  (record { stage = next.0.0; sent = p.sent; taken = p.taken + 1; limit = p.limit }, next.0.1),
  next.1,
)

abbrev after_content : Layout → Puller → Kind × List ℕ → Result ((Puller × List NamedCell) × Bool) GossipFault
after_content s p frame = unless UnexpectedFrame (not (awaits p.stage frame.0))
    (unless TooManyFrames (nat_le p.limit p.taken) (body_taken s frame.0 frame.1)) >>= next_puller p

-- the steps of a frame that is taken
record PullerTakes (s : Layout) (p q : Puller) (content : List ℕ) (es : List NamedCell) (last : Bool) : Type 0 where
  frame : Kind × List ℕ
  next : Taken
  read : unless Failed (has_failed p.stage) (content_at content) ≡ Ok frame
  due : not (awaits p.stage frame.0) ≡ false
  room : nat_le p.limit p.taken ≡ false
  takes : body_taken s frame.0 frame.1 ≡ Ok next
  puller : q ≡ record { stage = next.0.0; sent = p.sent; taken = p.taken + 1; limit = p.limit }
  cells : next.0.1 ≡ es
  end : next.1 ≡ last

puller_parts : (s : Layout) (p q : Puller) (content : List ℕ) (es : List NamedCell) (last : Bool)
    → puller_takes s p content ≡ Ok ((q, es), last) → PullerTakes s p q content es last
unfolding puller_takes
puller_parts s p q content es last e =
    let a = bind_ok (unless Failed (has_failed p.stage) (content_at content)) (after_content s p) ((q, es), last) e in
    let k = a.0.0 in
    let body = a.0.1 in
    let b = bind_ok (unless UnexpectedFrame (not (awaits p.stage k))
    (unless TooManyFrames (nat_le p.limit p.taken) (body_taken s k body))) (next_puller p) ((q, es), last) a.2 in
    let due = unless_ok UnexpectedFrame (not (awaits p.stage k))
    (unless TooManyFrames (nat_le p.limit p.taken) (body_taken s k body)) b.0 b.1 in
    let room = unless_ok TooManyFrames (nat_le p.limit p.taken) (body_taken s k body) b.0 due.1 in
    let is = ok_is {E = GossipFault} (
      (
        record { stage = b.0.0.0; sent = p.sent; taken = p.taken + 1; limit = p.limit },
        b.0.0.1,
      ),
      b.0.1,
    ) ((q, es), last) b.2 in
    record {
      frame = a.0;
      next = b.0;
      read = a.1;
      due = due.0;
      room = room.0;
      takes = room.1;
      puller = ap (λ (y : (Puller × List NamedCell) × Bool). y.0.0) (sym is);
      cells = ap (λ (y : (Puller × List NamedCell) × Bool). y.0.1) is;
      end = ap (λ (y : (Puller × List NamedCell) × Bool). y.1) is;
    }

pub puller_moves : (s : Layout) (p q : Puller) (content : List ℕ) (es : List NamedCell) (last : Bool)
    → puller_takes s p content ≡ Ok ((q, es), last) → PullerMoves p q es last
puller_moves s p q content es last e =
    let t = puller_parts s p q content es last e in
    let stage = stage_moves s t.frame.0 t.frame.1 t.next t.takes in
    record {
      room = leb-false p.limit p.taken t.room;
      taken = ap (λ (y : Puller). y.taken) t.puller;
      limit = ap (λ (y : Puller). y.limit) t.puller;
      sent = ap (λ (y : Puller). y.sent) t.puller;
      done = λ l. let d = stage.0 (t.end ∙ l) in (ap (λ (y : Puller). y.stage) t.puller ∙ d.0, sym t.cells ∙ d.1);
      going = λ l. ap (λ (y : Puller). y.stage) t.puller ∙ stage.1 (t.end ∙ l);
    }

-- ---- with room for more frames

abbrev pub raised : ℕ → Puller → Puller
raised n p = record { stage = p.stage; sent = p.sent; taken = p.taken; limit = n }

rebuilt : (s : Layout) (p : Puller) (content : List ℕ) (frame : Kind × List ℕ) (x : Taken)
    → unless Failed (has_failed p.stage) (content_at content) ≡ Ok frame → not (awaits p.stage frame.0) ≡ false
    → nat_le p.limit p.taken ≡ false
    → body_taken s frame.0 frame.1 ≡ Ok x → puller_takes s p content ≡ next_puller p x
unfolding puller_takes
rebuilt s p content frame x read due room takes =
    ap (λ r. r >>= after_content s p) read
    ∙ ap (λ b. unless UnexpectedFrame b (unless TooManyFrames (nat_le p.limit p.taken) (body_taken s frame.0 frame.1))
    >>= next_puller p) due
    ∙ ap (λ b. unless TooManyFrames b (body_taken s frame.0 frame.1) >>= next_puller p) room
    ∙ ap (λ r. r >>= next_puller p) takes

takes_raised : (n : ℕ) (s : Layout) (p q : Puller) (content : List ℕ) (es : List NamedCell) (last : Bool) → p.limit ≤ n
    → puller_takes s p content ≡ Ok ((q, es), last) → puller_takes s (raised n p) content ≡ Ok ((raised n q, es), last)
takes_raised n s p q content es last more e =
    let t = puller_parts s p q content es last e in
    let room = leb-false p.limit p.taken t.room in
    rebuilt s (raised n p) content t.frame t.next t.read t.due (lt-leb n p.taken (omega (arith, room, more))) t.takes
    ∙ (λ i. Ok ((raised n (sym t.puller i), t.cells i), t.end i))

pub after_raised : (n : ℕ) (s : Layout) (p : Puller) (had : List NamedCell) (x : Puller × List NamedCell)
    (cs : List (List ℕ)) → p.limit ≤ n → puller_after s p had cs ≡ Ok x
    → puller_after s (raised n p) had cs ≡ Ok (raised n x.0, x.1)
unfolding puller_after
after_raised n s p had x [] more e = ap (λ (y : Puller × List NamedCell). Ok (raised n y.0, y.1))
    (ok_is {E = GossipFault} (p, had) x e)
after_raised n s p had x (c ∷ cs) more e =
    let one = bind_ok (puller_takes s p c) (λ (next : (Puller × List NamedCell) × Bool). puller_after s next.0.0
    (had ++ next.0.1) cs) x e in
    let same = (puller_moves s p one.0.0.0 c one.0.0.1 one.0.1 one.1).limit in
    ap (λ y. y >>= λ (next : (Puller × List NamedCell) × Bool). puller_after s next.0.0 (had ++ next.0.1) cs)
    (takes_raised n s p one.0.0.0 c one.0.0.1 one.0.1 more one.1)
    ∙ after_raised n s one.0.0.0 (had ++ one.0.0.1) x cs (omega (arith, same, more)) one.2
