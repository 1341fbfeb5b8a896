-- The side that gives, over streams: the frames that it takes.
use Rattle.std.proofs.Common.{◌≡◌, ◌⊎◌, inl, inr, ℕ, ◌+◌, ◌<◌, ◌≤◌, Bool, true, false, not, List, [], ◌∷◌, ◌++◌, length, drop, Result, Ok, Err, refl, sym, ap, ◌∙◌, arith}
use Rattle.std.specs.Prelude.{nat_le, ◌==◌}
use Rattle.std.specs.FinMap.{entries}
use Rattle.std.proofs.lemmas.Bool.{leb-false, lt-leb}
use Rattle.rr_text.specs.Results.{◌>>=◌, unless}
use Rattle.rr_schema.specs.Schema.{Layout}
use Rattle.rr_delta.specs.Difference.{newer_cells}
use Rattle.rr_delta.specs.Names.{NamedVersion}
use Rattle.rr_cells.specs.Cells.{Cells}
use Rattle.rr_gossip.specs.declared.fault.GossipFault.{GossipFault}
use Rattle.rr_gossip.specs.declared.fault.GossipFault.TheVariants as why
use Rattle.rr_gossip.specs.declared.frame.Kind.{Kind}
use Rattle.rr_gossip.specs.declared.frame.Kind.TheVariants as kind
use Rattle.rr_gossip.specs.declared.giver.Giver.{Giver}
use Rattle.rr_gossip.specs.declared.giver.Stage.{Stage}
use Rattle.rr_gossip.specs.declared.giver.Stage.TheVariants.{Listing, Giving}
use Rattle.rr_gossip.specs.Fault.{as_body}
use Rattle.rr_gossip.specs.Frame.{content_at}
use Rattle.rr_gossip.specs.Giver.{hello_taken, summary_taken, end_taken, last, body_taken, giver_takes, has_failed, is_due, names_in}
use Rattle.rr_gossip.specs.Stream.{IsFrame, IsRefused}
use Rattle.rr_gossip.specs.SummaryReading.{summary_at}
use Rattle.rr_gossip.specs.Transcript.{contents, giver_after}
use Rattle.rr_gossip.proofs.ReadLemmas.{contents_more}
use Rattle.rr_gossip.proofs.StepLemmas.{OfFrame, bind_ok, is_of_frame, of_bind, of_body, of_content, of_fault, of_unless, ok_is, true_false, unless_ok}

-- ---- which faults a frame can have

of_hello : (s : Layout) (body : List ℕ) → OfFrame (hello_taken s body)
unfolding hello_taken
of_hello s body = of_unless why.SchemaDiffers _ (Ok (Listing [])) refl tt

of_summary : (s : Layout) (vs : List NamedVersion) (body : List ℕ) → OfFrame (summary_taken s vs body)
unfolding summary_taken
of_summary s vs body = of_bind (as_body (summary_at s vs body)) (λ (names : List NamedVersion). Ok (Listing names))
    (of_body (summary_at s vs body)) (λ names. tt)

of_end : (m : Cells) (s : Layout) (vs : List NamedVersion) (body : List ℕ) → OfFrame (end_taken m s vs body)
unfolding end_taken
of_end m s vs body = of_unless why.BadFrame _ (Ok (Giving (s, newer_cells vs (entries m)))) refl tt

of_last : (b : Bool) (r : Result Stage GossipFault) → OfFrame r → OfFrame (last b r)
of_last b r h = of_bind r (λ (stage : Stage). Ok (stage, b)) h (λ stage. tt)

of_taken : (m : Cells) (s : Layout) (stage : Stage) (k : Kind) (body : List ℕ) → OfFrame (body_taken m s stage k body)
of_taken m s stage kind.Hello body = of_last false (hello_taken s body) (of_hello s body)
of_taken m s stage kind.Summary body = of_last false (summary_taken s (names_in stage) body)
    (of_summary s (names_in stage) body)
of_taken m s stage kind.SummaryEnd body = of_last true (end_taken m s (names_in stage) body)
    (of_end m s (names_in stage) body)
of_taken m s stage kind.Page body = refl
of_taken m s stage kind.PageEnd body = refl

-- what a giver refuses, no stream is to blame for
pub giver_fault : (m : Cells) (s : Layout) (g : Giver) (content : List ℕ) (fault : GossipFault)
    → giver_takes m s g content ≡ Err fault → is_of_frame fault ≡ true
unfolding giver_takes
giver_fault m s g content fault e =
    of_fault (giver_takes m s g content) fault
    (of_bind _ _ (of_unless why.Failed (has_failed g.stage) (content_at content) refl (of_content content))
    (λ frame. of_bind _ _ (of_unless why.UnexpectedFrame (not (is_due g.stage frame.0)) _ refl
    (of_unless why.TooManyFrames (nat_le g.limit g.taken) _ refl (of_taken m s g.stage frame.0 frame.1)))
    (λ next. tt))) e

-- ---- one frame

-- the frames before the last don't go by the cells, and the last gives a difference of them
abbrev BodyMoves : Cells → Layout → Stage → Kind → List ℕ → Stage × Bool → Type 0
BodyMoves m s stage k body x =
    (x.1 ≡ true → (names : List NamedVersion) × (x.0 ≡ Giving (s, newer_cells names (entries m))))
    × (x.1 ≡ false → (n : Cells) → body_taken n s stage k body ≡ Ok x)

last_is : (b : Bool) (r : Result Stage GossipFault) (x : Stage × Bool) → last b r ≡ Ok x → (x.1 ≡ b) × (r ≡ Ok x.0)
last_is b r x e =
    let a = bind_ok r (λ (stage : Stage). Ok (stage, b)) x e in
    let is = ok_is {E = GossipFault} (a.0, b) x a.2 in
    (ap (λ (y : Stage × Bool). y.1) (sym is), a.1 ∙ ap (λ (y : Stage × Bool). Ok y.0) is)

end_is : (m : Cells) (s : Layout) (vs : List NamedVersion) (body : List ℕ) (stage : Stage)
    → end_taken m s vs body ≡ Ok stage → stage ≡ Giving (s, newer_cells vs (entries m))
unfolding end_taken
end_is m s vs body stage e = sym (ok_is {E = GossipFault} _ stage
    (unless_ok why.BadFrame (not (length body == 0)) (Ok (Giving (s, newer_cells vs (entries m)))) stage e).1)

body_moves : (m : Cells) (s : Layout) (stage : Stage) (k : Kind) (body : List ℕ) (x : Stage × Bool)
    → body_taken m s stage k body ≡ Ok x → BodyMoves m s stage k body x
body_moves m s stage kind.Hello body x e = (λ t. true_false x.1 t (last_is false (hello_taken s body) x e).0, λ f n. e)
body_moves m s stage kind.Summary body x e = (
  λ t. true_false x.1 t
      (last_is false (summary_taken s (names_in stage) body) x e).0,
  λ f n. e,
)
body_moves m s stage kind.SummaryEnd body x e =
    let a = last_is true (end_taken m s (names_in stage) body) x e in
    (λ t. (names_in stage, end_is m s (names_in stage) body x.0 a.1), λ f. true_false x.1 a.0 f)
body_moves m s stage kind.Page body x e = absurd cc
body_moves m s stage kind.PageEnd body x e = absurd cc

pub record GiverMoves (m : Cells) (s : Layout) (g q : Giver) (content : List ℕ) (is_last : Bool) : Type 0 where
  pub room : g.taken < g.limit
  pub taken : q.taken ≡ g.taken + 1
  pub limit : q.limit ≡ g.limit
  pub sent : q.sent ≡ g.sent
  pub done : is_last ≡ true → (names : List NamedVersion) × (q.stage ≡ Giving (s, newer_cells names (entries m)))
  pub going : is_last ≡ false → (n : Cells) → giver_takes n s g content ≡ Ok (q, false)

abbrev next_giver : Giver → Stage × Bool → Result (Giver × Bool) GossipFault
next_giver g next = Ok (record { stage = next.0; sent = g.sent; taken = g.taken + 1; limit = g.limit }, next.1)

abbrev after_content : Cells → Layout → Giver → Kind × List ℕ → Result (Giver × Bool) GossipFault
after_content m s g frame = unless why.UnexpectedFrame (not (is_due g.stage frame.0))
    (unless why.TooManyFrames (nat_le g.limit g.taken) (body_taken m s g.stage frame.0 frame.1)) >>= next_giver g

rebuilt : (n : Cells) (s : Layout) (g : Giver) (content : List ℕ) (frame : Kind × List ℕ) (x : Stage × Bool)
    → unless why.Failed (has_failed g.stage) (content_at content) ≡ Ok frame → not (is_due g.stage frame.0) ≡ false
    → nat_le g.limit g.taken ≡ false
    → body_taken n s g.stage frame.0 frame.1 ≡ Ok x → giver_takes n s g content ≡ next_giver g x
unfolding giver_takes
rebuilt n s g content frame x read due room takes =
    ap (λ r. r >>= after_content n s g) read
    ∙ ap (λ b. unless why.UnexpectedFrame b (unless why.TooManyFrames (nat_le g.limit g.taken)
    (body_taken n s g.stage frame.0 frame.1)) >>= next_giver g) due
    ∙ ap (λ b. unless why.TooManyFrames b (body_taken n s g.stage frame.0 frame.1) >>= next_giver g) room
    ∙ ap (λ r. r >>= next_giver g) takes

-- the steps of a frame that is taken
record GiverTakes (m : Cells) (s : Layout) (g q : Giver) (content : List ℕ) (is_last : Bool) : Type 0 where
  frame : Kind × List ℕ
  next : Stage × Bool
  read : unless why.Failed (has_failed g.stage) (content_at content) ≡ Ok frame
  due : not (is_due g.stage frame.0) ≡ false
  room : nat_le g.limit g.taken ≡ false
  takes : body_taken m s g.stage frame.0 frame.1 ≡ Ok next
  giver : q ≡ record { stage = next.0; sent = g.sent; taken = g.taken + 1; limit = g.limit }
  end : next.1 ≡ is_last

giver_parts : (m : Cells) (s : Layout) (g q : Giver) (content : List ℕ) (is_last : Bool)
    → giver_takes m s g content ≡ Ok (q, is_last) → GiverTakes m s g q content is_last
unfolding giver_takes
giver_parts m s g q content is_last e =
    let a = bind_ok (unless why.Failed (has_failed g.stage) (content_at content)) (after_content m s g) (q, is_last)
    e in
    let k = a.0.0 in
    let body = a.0.1 in
    let b = bind_ok (unless why.UnexpectedFrame (not (is_due g.stage k))
    (unless why.TooManyFrames (nat_le g.limit g.taken) (body_taken m s g.stage k body))) (next_giver g) (q, is_last)
    a.2 in
    let due = unless_ok why.UnexpectedFrame (not (is_due g.stage k))
    (unless why.TooManyFrames (nat_le g.limit g.taken) (body_taken m s g.stage k body)) b.0 b.1 in
    let room = unless_ok why.TooManyFrames (nat_le g.limit g.taken) (body_taken m s g.stage k body) b.0 due.1 in
    let is = ok_is {E = GossipFault} (
      record { stage = b.0.0; sent = g.sent; taken = g.taken + 1; limit = g.limit },
      b.0.1,
    ) (q, is_last) b.2 in
    record {
      frame = a.0;
      next = b.0;
      read = a.1;
      due = due.0;
      room = room.0;
      takes = room.1;
      giver = ap (λ (y : Giver × Bool). y.0) (sym is);
      end = ap (λ (y : Giver × Bool). y.1) is;
    }

pub giver_moves : (m : Cells) (s : Layout) (g q : Giver) (content : List ℕ) (is_last : Bool)
    → giver_takes m s g content ≡ Ok (q, is_last) → GiverMoves m s g q content is_last
giver_moves m s g q content is_last e =
    let t = giver_parts m s g q content is_last e in
    let moves = body_moves m s g.stage t.frame.0 t.frame.1 t.next t.takes in
    record {
      room = leb-false g.limit g.taken t.room;
      taken = ap (λ (y : Giver). y.taken) t.giver;
      limit = ap (λ (y : Giver). y.limit) t.giver;
      sent = ap (λ (y : Giver). y.sent) t.giver;
      done = λ l. let d = moves.0 (t.end ∙ l) in (d.0, ap (λ (y : Giver). y.stage) t.giver ∙ d.1);
      going = λ l n. rebuilt n s g content t.frame t.next t.read t.due t.room (moves.1 (t.end ∙ l) n)
          ∙ (λ i. Ok (sym t.giver i, (t.end ∙ l) i));
    }

-- ---- with room for more frames

abbrev pub raised : ℕ → Giver → Giver
raised n g = record { stage = g.stage; sent = g.sent; taken = g.taken; limit = n }

takes_raised : (n : ℕ) (m : Cells) (s : Layout) (g q : Giver) (content : List ℕ) (is_last : Bool) → g.limit ≤ n
    → giver_takes m s g content ≡ Ok (q, is_last) → giver_takes m s (raised n g) content ≡ Ok (raised n q, is_last)
takes_raised n m s g q content is_last more e =
    let t = giver_parts m s g q content is_last e in
    let room = leb-false g.limit g.taken t.room in
    rebuilt m s (raised n g) content t.frame t.next t.read t.due (lt-leb n g.taken (omega (arith, room, more))) t.takes
    ∙ (λ i. Ok (raised n (sym t.giver i), t.end i))

pub after_raised : (n : ℕ) (m : Cells) (s : Layout) (g q : Giver) (cs : List (List ℕ)) → g.limit ≤ n
    → giver_after m s g cs ≡ Ok q → giver_after m s (raised n g) cs ≡ Ok (raised n q)
unfolding giver_after
after_raised n m s g q [] more e = ap (λ x. Ok (raised n x)) (ok_is {E = GossipFault} g q e)
after_raised n m s g q (c ∷ cs) more e =
    let one = bind_ok (giver_takes m s g c) (λ (next : Giver × Bool). giver_after m s next.0 cs) q e in
    let same = (giver_moves m s g one.0.0 c one.0.1 one.1).limit in
    ap (λ x. x >>= λ (next : Giver × Bool). giver_after m s next.0 cs)
    (takes_raised n m s g one.0.0 c one.0.1 more one.1)
    ∙ after_raised n m s one.0.0 q cs (omega (arith, same, more)) one.2

-- ---- frames in a row

pub none_heard : (m : Cells) (s : Layout) (g : Giver) → giver_after m s g [] ≡ Ok g
unfolding giver_after
none_heard m s g = refl

one_more_heard : (m : Cells) (s : Layout) (g q r : Giver) (cs : List (List ℕ)) (c : List ℕ) (is_last : Bool)
    → giver_after m s g cs ≡ Ok q → giver_takes m s q c ≡ Ok (r, is_last) → giver_after m s g (cs ++ c ∷ []) ≡ Ok r
unfolding giver_after
one_more_heard m s g q r [] c is_last before takes =
    ap (λ y. giver_takes m s y c >>= λ (next : Giver × Bool). Ok next.0) (ok_is {E = GossipFault} g q before)
    ∙ ap (λ x. x >>= λ (next : Giver × Bool). Ok next.0) takes
one_more_heard m s g q r (d ∷ ds) c is_last before takes =
    by_first (giver_takes m s g d) (λ next e. one_more_heard m s next.0 q r ds c is_last e takes) before
  where
    by_first : (x : Result (Giver × Bool) GossipFault)
        → ((next : Giver × Bool) → giver_after m s next.0 ds ≡ Ok q → giver_after m s next.0 (ds ++ c ∷ []) ≡ Ok r)
        → (x >>= λ (next : Giver × Bool). giver_after m s next.0 ds) ≡ Ok q
        → (x >>= λ (next : Giver × Bool). giver_after m s next.0 (ds ++ c ∷ [])) ≡ Ok r
    by_first (Ok next) later e = later next e
    by_first (Err fault) later e = absurd cc

-- a frame more of those that were read, and then taken
pub frame_heard : (m : Cells) (s : Layout) (g q r : Giver) (frames : List (List ℕ)) (frame : List ℕ) (is_last : Bool)
    → giver_after m s g (contents frames) ≡ Ok q → giver_takes m s q (drop 4 frame) ≡ Ok (r, is_last)
    → giver_after m s g (contents (frames ++ frame ∷ [])) ≡ Ok r
frame_heard m s g q r frames frame is_last before takes =
    ap (giver_after m s g) (contents_more frames frame)
    ∙ one_more_heard m s g q r (contents frames) (drop 4 frame) is_last before takes

-- a frame at which a giver stops: it refuses the frame, or memory runs out
pub giver_stops : (m : Cells) (s : Layout) (g : Giver) (frame : List ℕ) (fault : GossipFault) → IsFrame frame
    → (fault ≡ why.Memory) ⊎ (giver_takes m s g (drop 4 frame) ≡ Err fault) → IsRefused (giver_takes m s g) frame fault
giver_stops m s g frame fault whole cause = record { frame = whole; why = cause }

pub hears_of_frame : (m : Cells) (s : Layout) (g : Giver) (content : List ℕ) (fault : GossipFault)
    → (fault ≡ why.Memory) ⊎ (giver_takes m s g content ≡ Err fault) → is_of_frame fault ≡ true
hears_of_frame m s g content fault (inl memory) = ap is_of_frame memory
hears_of_frame m s g content fault (inr refused) = giver_fault m s g content fault refused
