-- Frames that are read and taken, one after the other.
use Rattle.std.proofs.Common.{◌≡◌, ◌⊎◌, inl, inr, ℕ, Bool, true, false, List, [], ◌∷◌, ◌++◌, length, take, drop, Option, Result, Ok, Err, refl, sym, ap, ◌∙◌, append_assoc}
use Rattle.std.specs.Prelude.{nat_lt, if◌then◌else◌}
use Rattle.std.specs.Int.{w32}
use Rattle.std.specs.List.{concat}
use Rattle.std.proofs.KnownBytes.{Consumes-nil, Consumes-trans}
use Rattle.std.proofs.lemmas.List.{append-nil, map_push}
use Rattle.std.proofs.lemmas.List.Elements.{All-nil, All-push}
use Rattle.std.proofs.lemmas.List.Folds.{concat-append}
use Rattle.rr_text.specs.Results.{◌>>=◌}
use Rattle.rr_schema.specs.Schema.{Layout}
use Rattle.rr_page.specs.declared.fault.PageFault.{PageFault}
use Rattle.rr_page.specs.Reading.{number_at}
use Rattle.rr_cells.specs.CellBounds.{NamedCell}
use Rattle.rr_gossip.specs.declared.fault.GossipFault.{GossipFault}
use Rattle.rr_gossip.specs.declared.puller.Puller.{Puller}
use Rattle.rr_gossip.specs.declared.fault.GossipFault.TheVariants.{ReadFailed, Ended, FrameTooLong, WriteFailed, Memory}
use Rattle.rr_gossip.specs.declared.frame.TheConstants.{MAX_FRAME_LEN}
use Rattle.rr_gossip.specs.Puller.{ArePrefix, Takes, puller_takes}
use Rattle.rr_gossip.specs.Stream.{content_from, frame_at, Grows, IsFrame, Stops, WasRead}
use Rattle.rr_gossip.specs.Transcript.{contents, puller_after}
use Rattle.rr_gossip.proofs.StreamLemmas.{choice}
use Rattle.rr_gossip.proofs.StepLemmas.{ok_is, err_is, is_of_frame, puller_fault}

-- ---- what was read

pub nothing_read : (before : List ℕ) (had : Option (List ℕ)) → WasRead before had had [] before
nothing_read before had = record {
  bytes = [];
  consumed = Consumes-nil had;
  cut = append-nil before;
  each =
      All-nil IsFrame;
}

module _ (before : List ℕ) (had mid left : Option (List ℕ)) (frames : List (List ℕ)) (piece more : List ℕ) where
  grown : (r : WasRead before had mid frames piece) (g : Grows mid left piece more)
      → before ++ (r.bytes ++ g.0) ≡ concat frames ++ more
  grown r g =
      sym (append_assoc before r.bytes g.0)
      ∙ ap (λ (l : List ℕ). l ++ g.0) r.cut
      ∙ append_assoc (concat frames) piece g.0
      ∙ ap (λ (l : List ℕ). concat frames ++ l) (sym g.1)

  -- more of the next frame
  pub piece_more : WasRead before had mid frames piece → Grows mid left piece more → WasRead before had left frames more
  piece_more r g = record {
    bytes = r.bytes ++ g.0;
    consumed =
        Consumes-trans had mid left r.bytes g.0 r.consumed g.2;
    cut = grown r g;
    each = r.each;
  }

  -- all of it
  pub frame_more : WasRead before had mid frames piece → Grows mid left piece more → IsFrame more
      → WasRead before had left (frames ++ more ∷ []) []
  frame_more r g whole = record {
    bytes = r.bytes ++ g.0;
    consumed = Consumes-trans had mid left r.bytes g.0 r.consumed g.2;
    cut = grown r g ∙ ap (λ (l : List ℕ). concat frames ++ l) (sym (append-nil more))
        ∙ sym (concat-append frames (more ∷ [])) ∙ sym (append-nil (concat (frames ++ more ∷ [])));
    each = All-push IsFrame frames more r.each whole;
  }

-- ---- what was taken

pub contents_more : (frames : List (List ℕ)) (frame : List ℕ)
    → contents (frames ++ frame ∷ []) ≡ contents frames ++ drop 4 frame ∷ []
contents_more frames frame = map_push (drop 4) frames frame

pub none_taken : (s : Layout) (p : Puller) (had : List NamedCell) → puller_after s p had [] ≡ Ok (p, had)
unfolding puller_after
none_taken s p had = refl

-- one frame more
pub one_more_taken : (s : Layout) (p q r : Puller) (had now : List NamedCell) (cs : List (List ℕ)) (c : List ℕ)
    (es : List NamedCell) (last : Bool) → puller_after s p had cs ≡ Ok (q, now)
    → puller_takes s q c ≡ Ok ((r, es), last)
    → puller_after s p had (cs ++ c ∷ []) ≡ Ok (r, now ++ es)
unfolding puller_after
one_more_taken s p q r had now [] c es last before takes =
    (λ i. puller_takes s (ok_is {E = GossipFault} (p, had) (q, now) before i).0 c >>=
    λ (next : (Puller × List NamedCell) × Bool). Ok
    (next.0.0, (ok_is {E = GossipFault} (p, had) (q, now) before i).1 ++ next.0.1))
    ∙ ap (λ x. x >>= λ (next : (Puller × List NamedCell) × Bool). Ok (next.0.0, now ++ next.0.1)) takes
one_more_taken s p q r had now (d ∷ ds) c es last before takes =
    by_first (puller_takes s p d) (λ next e. one_more_taken s next.0.0 q r (had ++ next.0.1) now ds c es last e takes)
    before
  where
    by_first : (x : Result ((Puller × List NamedCell) × Bool) GossipFault)
        → ((next : (Puller × List NamedCell) × Bool) → puller_after s next.0.0 (had ++ next.0.1) ds ≡ Ok (q, now)
        → puller_after s next.0.0 (had ++ next.0.1) (ds ++ c ∷ []) ≡ Ok (r, now ++ es))
        → (x >>= λ (next : (Puller × List NamedCell) × Bool). puller_after s next.0.0 (had ++ next.0.1) ds)
        ≡ Ok (q, now)
        → (x >>= λ (next : (Puller × List NamedCell) × Bool). puller_after s next.0.0 (had ++ next.0.1) (ds ++ c ∷ []))
        ≡ Ok (r, now ++ es)
    by_first (Ok next) later e = later next e
    by_first (Err fault) later e = absurd cc

-- a frame more of those that were read, and then taken
pub frame_taken : (s : Layout) (p q r : Puller) (had now : List NamedCell) (frames : List (List ℕ)) (frame : List ℕ)
    (es : List NamedCell) (last : Bool) → puller_after s p had (contents frames) ≡ Ok (q, now)
    → puller_takes s q (drop 4 frame) ≡ Ok ((r, es), last)
    → puller_after s p had (contents (frames ++ frame ∷ [])) ≡ Ok (r, now ++ es)
frame_taken s p q r had now frames frame es last before takes =
    ap (puller_after s p had) (contents_more frames frame)
    ∙ one_more_taken s p q r had now (contents frames) (drop 4 frame) es last before takes

-- a frame that a puller refuses, or for which there is no memory: what is joined after the pages before it
pub puller_stops : (s : Layout) (p x : Puller) (pages : List NamedCell) (joined all : List NamedCell → Type 0)
    (frame : List ℕ) (fault : GossipFault) → ((es : List NamedCell) → joined es → all (pages ++ es)) → IsFrame frame
    → Takes joined x (Err fault) (puller_takes s p (drop 4 frame))
    → Stops (puller_takes s p) frame fault × ((cells : List NamedCell) × all cells
    × ((cells ≡ pages) ⊎ ((fault ≡ Memory) × IsFrame frame
    × ((es : List NamedCell) × ArePrefix es (puller_takes s p (drop 4 frame)) × (cells ≡ pages ++ es)))))
puller_stops s p x pages joined all frame fault after whole (inl (memory, inl none)) =
    (inr (record { frame = whole; why = inl memory }), (pages ++ [], after [] none, inl (append-nil pages)))
puller_stops s p x pages joined all frame fault after whole (inl (memory, inr (es, prefix, holds))) = (
  inr (record { frame = whole; why = inl memory }),
  (pages ++ es, after es holds, inr (memory, whole, (es, prefix, refl))),
)
puller_stops s p x pages joined all frame fault after whole (inr (refused, none)) =
    (inr (record { frame = whole; why = inr refused }), (pages ++ [], after [] none, inl (append-nil pages)))

pub takes_of_frame : (s : Layout) (p x : Puller) (joined : List NamedCell → Type 0) (content : List ℕ)
    (fault : GossipFault) → Takes joined x (Err fault) (puller_takes s p content) → is_of_frame fault ≡ true
takes_of_frame s p x joined content fault (inl (memory, some)) = ap is_of_frame memory
takes_of_frame s p x joined content fault (inr (refused, none)) = puller_fault s p content fault refused

-- no stream is to blame for such a fault
pub not_of_frame : {A P : Type 0} (r : Result A GossipFault) (fault other : GossipFault) → is_of_frame fault ≡ true
    → is_of_frame other ≡ false → r ≡ Err fault → r ≡ Err other → P
not_of_frame {A = A} r fault other is other_is e f =
    let same = err_is {A = A} fault other (sym e ∙ f) in
    let t : true ≡ false = sym is ∙ ap is_of_frame same ∙ other_is in
    absurd cc

-- ---- no writer is to blame for what stops a reading

content_fault : (r : Result (ℕ × List ℕ) PageFault) (fault : GossipFault) → (content_from r).0 ≡ Err fault
    → fault ≡ WriteFailed → ⊥
content_fault (Err cause) fault e w = absurd (cc (err_is {A = List ℕ} Ended fault e ∙ w))
content_fault (Ok (len, rest)) fault e w = by_tests (nat_lt MAX_FRAME_LEN len) (nat_lt (length rest) len) e
  where
    by_tests : (a b : Bool) → (if a then (Err FrameTooLong, rest) else choice b (take len rest) (drop len rest)).0
        ≡ Err fault → ⊥
    by_tests true b f = absurd (cc (err_is {A = List ℕ} FrameTooLong fault f ∙ w))
    by_tests false true f = absurd (cc (err_is {A = List ℕ} Ended fault f ∙ w))
    by_tests false false f = absurd cc

pub stops_unwritten : {X : Type 0} (takes : List ℕ → Result X GossipFault) (bytes : List ℕ) (fault : GossipFault)
    → ((content : List ℕ) → takes content ≡ Err fault → is_of_frame fault ≡ true) → Stops takes bytes fault
    → fault ≡ WriteFailed → ⊥
unfolding frame_at
stops_unwritten takes bytes fault each (inl off) w = by_why off.why
  where
    by_why : (fault ≡ Memory) ⊎ ((fault ≡ ReadFailed) × ((frame_at bytes).0 ≡ Err Ended))
        ⊎ ((frame_at bytes).0 ≡ Err fault) → ⊥
    by_why (inl memory) = absurd (cc (sym memory ∙ w))
    by_why (inr (inl failed)) = absurd (cc (sym failed.0 ∙ w))
    by_why (inr (inr e)) = content_fault (number_at w32 bytes) fault e w
stops_unwritten takes bytes fault each (inr refused) w = by_why refused.why
  where
    by_why : (fault ≡ Memory) ⊎ (takes (drop 4 bytes) ≡ Err fault) → ⊥
    by_why (inl memory) = absurd (cc (sym memory ∙ w))
    by_why (inr e) = let t : true ≡ false = sym (each (drop 4 bytes) e) ∙ ap is_of_frame w in absurd cc
