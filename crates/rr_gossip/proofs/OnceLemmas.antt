-- The frames of a session are read in one way.
use Rattle.std.proofs.Common.{◌≡◌, ◌⊎◌, inl, inr, ℕ, zero, suc, ◌+◌, ◌<◌, ◌≤◌, Bool, true, false, List, [], ◌∷◌, ◌++◌, length, map, take, drop, Result, Ok, Err, refl, sym, ap, subst, ◌∙◌, append_assoc, arith, take_at, drop_at, All}
use Rattle.std.specs.Prelude.{nat_lt}
use Rattle.std.specs.Int.{w32, from_be_bytes}
use Rattle.std.specs.List.{concat, AllByRecursion}
use Rattle.std.proofs.lemmas.Bool.{ltb-false, ltb-true}
use Rattle.std.proofs.lemmas.List.{append-nil, length-append, length-drop, length-take, take-append-drop}
use Rattle.std.proofs.lemmas.List.Elements.{All-drop, All-take, recursion_from_All}
use Rattle.std.proofs.lemmas.Nat.{from_be_bytes-to_be_bytes_4}
use Rattle.rr_schema.specs.Schema.{Layout, IsLayout}
use Rattle.rr_schema.specs.SchemaBytes.{schema_bytes}
use Rattle.rr_text.specs.declared.limits.TheConstants.{MAX_PAGE_CELLS}
use Rattle.rr_delta.specs.Names.{NamedVersion, IsNameOf}
use Rattle.rr_page.specs.Page.{page_text}
use Rattle.rr_page.specs.Version.{latest}
use Rattle.rr_page.specs.Reading.{number_at}
use Rattle.rr_cells.specs.CellBounds.{NamedCell}
use Rattle.rr_gossip.specs.declared.fault.GossipFault.{GossipFault}
use Rattle.rr_gossip.specs.declared.fault.GossipFault.TheVariants.{Ended, FrameTooLong}
use Rattle.rr_gossip.specs.declared.frame.Kind.{Kind}
use Rattle.rr_gossip.specs.declared.frame.Kind.TheVariants as kind
use Rattle.rr_gossip.specs.declared.frame.TheConstants.{MAX_FRAME_LEN}
use Rattle.rr_gossip.specs.declared.summary.TheConstants.{MAX_ENTRIES}
use Rattle.rr_gossip.specs.Frame.{content_text, frame_text}
use Rattle.rr_gossip.specs.Pages.{AreLeft}
use Rattle.rr_gossip.specs.Stream.{frame_at, IsFrame}
use Rattle.rr_gossip.specs.Summary.{summary_text}
use Rattle.rr_gossip.specs.Transcript.{pieces, reply, frames_of_names}
use Rattle.rr_gossip.proofs.LengthLemmas.{page_fits, schema_fits, summary_len}
use Rattle.rr_gossip.proofs.PagesLemmas.{left_page, left_after}
use Rattle.rr_gossip.proofs.StreamLemmas.{choice, drop_past, frame_fits, frame_long, frame_short, frame_there, number_long}

-- ---- a frame, and more after it

abbrev content_of : Result (List ℕ) GossipFault × List ℕ → Result (List ℕ) GossipFault
content_of x = x.0

no_content : (fault : GossipFault) (content : List ℕ) → ◌≡◌ {A = Result (List ℕ) GossipFault} (Err fault) (Ok content)
    → ⊥
no_content fault content e = absurd cc

module _ (frame : List ℕ) (is : IsFrame frame) where
  len : ℕ
  len = from_be_bytes w32 (take 4 frame)

  four : 4 ≤ length frame
  four = by_test (nat_lt (length frame) 4) refl
    where
      by_test : (b : Bool) → nat_lt (length frame) 4 ≡ b → 4 ≤ length frame
      by_test true t = absurd (no_content Ended (drop 4 frame)
          (sym (ap content_of (frame_short frame (ltb-true (length frame) 4 t))) ∙ ap content_of is))
      by_test false t = ltb-false (length frame) 4 t

  number : number_at w32 frame ≡ Ok (len, drop 4 frame)
  unfolding len
  number = number_long frame four

  fits : len ≤ MAX_FRAME_LEN
  fits = by_test (nat_lt MAX_FRAME_LEN len) refl
    where
      by_test : (b : Bool) → nat_lt MAX_FRAME_LEN len ≡ b → len ≤ MAX_FRAME_LEN
      by_test true t = absurd (no_content FrameTooLong (drop 4 frame)
          (sym (ap content_of (frame_long frame len (drop 4 frame) number (ltb-true MAX_FRAME_LEN len t)))
          ∙ ap content_of is))
      by_test false t = ltb-false MAX_FRAME_LEN len t

  whole : length (drop 4 frame) ≡ len
  whole = by_test (nat_lt (length (drop 4 frame)) len) refl
    where
      at : choice (nat_lt (length (drop 4 frame)) len) (take len (drop 4 frame)) (drop len (drop 4 frame))
          ≡ (Ok (drop 4 frame), [])
      at = sym (frame_fits frame len (drop 4 frame) number fits) ∙ is

      by_test : (b : Bool) → nat_lt (length (drop 4 frame)) len ≡ b → length (drop 4 frame) ≡ len
      by_test true t = absurd (no_content Ended (drop 4 frame)
          (ap content_of (sym (ap (λ b. choice b (take len (drop 4 frame)) (drop len (drop 4 frame))) t) ∙ at)))
      by_test false t =
          let rest : drop len (drop 4 frame) ≡ [] = ap (λ (x : Result (List ℕ) GossipFault × List ℕ). x.1)
          (sym (ap (λ b. choice b (take len (drop 4 frame)) (drop len (drop 4 frame))) t) ∙ at) in
          omega (arith, ltb-false (length (drop 4 frame)) len t, length-drop len (drop 4 frame), ap length rest)

  -- is read alone
  frame_prefix : (more : List ℕ) → frame_at (frame ++ more) ≡ (Ok (drop 4 frame), more)
  unfolding len
  frame_prefix more =
      let all = length-append frame more in
      frame_there (frame ++ more) len (drop 4 frame ++ more) long fits
      (omega (arith, length-append (drop 4 frame) more, whole))
      ∙ (λ i. (Ok (take_at (drop 4 frame) more len whole i), drop_at (drop 4 frame) more len whole i))
    where
      parts : frame ++ more ≡ take 4 frame ++ (drop 4 frame ++ more)
      parts = ap (λ l. l ++ more) (sym (take-append-drop 4 frame)) ∙ append_assoc (take 4 frame) (drop 4 frame) more

      prefix : length (take 4 frame) ≡ 4
      prefix = omega (arith, four, length-take 4 frame)

      long : number_at w32 (frame ++ more) ≡ Ok (from_be_bytes w32 (take 4 frame), drop 4 frame ++ more)
      long =
          number_long (frame ++ more) (omega (arith, length-append frame more, four))
          ∙ (λ i. Ok (
            from_be_bytes w32 ((ap (take 4) parts ∙ take_at (take 4 frame) (drop 4 frame ++ more) 4 prefix) i),
            (ap (drop 4) parts ∙ drop_at (take 4 frame) (drop 4 frame ++ more) 4 prefix) i,
          ))

-- ---- frames in a row

-- one list of frames goes on where another ends
abbrev pub GoesOn : List (List ℕ) → List (List ℕ) → Type 0
GoesOn fs gs = ((ds : List (List ℕ)) × (fs ≡ gs ++ ds)) ⊎ ((ds : List (List ℕ)) × (gs ≡ fs ++ ds))

goes_on : (c : List ℕ) (fs gs : List (List ℕ)) → GoesOn fs gs → GoesOn (c ∷ fs) (c ∷ gs)
goes_on c fs gs (inl more) = inl (more.0, ap (λ l. c ∷ l) more.1)
goes_on c fs gs (inr more) = inr (more.0, ap (λ l. c ∷ l) more.1)

ok_content : Result (List ℕ) GossipFault → List ℕ
ok_content (Ok content) = content
ok_content (Err fault) = []

same_prefix : (f g x y : List ℕ) → length f ≡ length g → f ++ x ≡ g ++ y → f ≡ g
same_prefix f g x y same e = sym (take_at f x (length f) refl) ∙ ap (take (length f)) e
    ∙ take_at g y (length f) (sym same)

-- where bytes begin with the frames of two lists, one goes on where the other ends
pub cut_once : (fs gs : List (List ℕ)) (x y : List ℕ) → AllByRecursion IsFrame fs → AllByRecursion IsFrame gs
    → concat fs ++ x ≡ concat gs ++ y → GoesOn fs gs
unfolding ok_content
cut_once [] gs x y each_f each_g e = inr (gs, refl)
cut_once (f ∷ fs) [] x y each_f each_g e = inl (f ∷ fs, refl)
cut_once (f ∷ fs) (g ∷ gs) x y each_f each_g e =
    let bytes : f ++ (concat fs ++ x) ≡ g ++ (concat gs ++ y) = sym (append_assoc f (concat fs) x) ∙ e
    ∙ append_assoc g (concat gs) y in
    let both = sym (frame_prefix f each_f.0 (concat fs ++ x)) ∙ ap frame_at bytes
    ∙ frame_prefix g each_g.0 (concat gs ++ y) in
    let same : drop 4 f ≡ drop 4 g = ap (λ (z : Result (List ℕ) GossipFault × List ℕ). ok_content z.0) both in
    let len : length f ≡ length g = omega (
      arith,
      four f each_f.0,
      four g each_g.0,
      length-drop 4 f,
      length-drop 4 g,
      ap length same,
    ) in
    let rest = cut_once fs gs x y each_f.1 each_g.1 (ap (λ (z : Result (List ℕ) GossipFault × List ℕ). z.1) both) in
    subst (λ h. GoesOn (f ∷ fs) (h ∷ gs)) (same_prefix f g (concat fs ++ x) (concat gs ++ y) len bytes)
    (goes_on f fs gs rest)

-- ---- the frames of both sides

pub text_is_frame : (k : Kind) (body : List ℕ) → length body < MAX_FRAME_LEN → IsFrame (frame_text k body)
unfolding frame_text
text_is_frame k body short =
    let n = from_be_bytes-to_be_bytes_4 (1 + length body) (omega (arith, short)) in
    frame_there (frame_text k body) (1 + length body) (content_text k body)
    (number_long (frame_text k body) (omega arith) ∙ ap (λ (i : ℕ). Ok (i, content_text k body)) n)
    (omega (arith, short)) (omega arith)
    ∙ (λ i. (Ok (all i), drop_past (1 + length body) (content_text k body) (omega arith) i))
  where
    all : take (1 + length body) (content_text k body) ≡ content_text k body
    all = ap (λ l. take (1 + length body) l) (sym (append-nil (content_text k body)))
        ∙ take_at (content_text k body) [] (1 + length body) (omega arith)

module _ (s : Layout) (is : IsLayout s) where
  names_are : (k : ℕ) (vs : List NamedVersion) → All (IsNameOf s) vs
      → AllByRecursion IsFrame (map (λ piece. frame_text kind.Summary (summary_text piece)) (pieces k MAX_ENTRIES vs)
      ++ frame_text kind.SummaryEnd [] ∷ [])
  unfolding pieces
  names_are zero vs all = (text_is_frame kind.SummaryEnd [] (omega arith), tt)
  names_are (suc k) [] all = (text_is_frame kind.SummaryEnd [] (omega arith), tt)
  names_are (suc k) (v ∷ vs) all =
      let piece = take MAX_ENTRIES (v ∷ vs) in
      let many = length-take MAX_ENTRIES (v ∷ vs) in
      let short = summary_len s piece (omega (arith, many))
      (recursion_from_All (IsNameOf s) piece (All-take (IsNameOf s) MAX_ENTRIES (v ∷ vs) all)) in (
        text_is_frame kind.Summary (summary_text piece) short,
        names_are k (drop MAX_ENTRIES (v ∷ vs)) (All-drop (IsNameOf s) MAX_ENTRIES (v ∷ vs) all),
      )

  pub sent_are : (vs : List NamedVersion) → All (IsNameOf s) vs → AllByRecursion IsFrame (frames_of_names s vs)
  sent_are vs all = (text_is_frame kind.Hello (schema_bytes s) (schema_fits s is), names_are (length vs) vs all)

  pages_are : (k : ℕ) (es : List NamedCell) → AreLeft (s, es)
      → AllByRecursion IsFrame (map (λ piece. frame_text kind.Page (page_text latest s piece))
      (pieces k MAX_PAGE_CELLS es) ++ frame_text kind.PageEnd [] ∷ [])
  unfolding pieces
  pages_are zero es left = (text_is_frame kind.PageEnd [] (omega arith), tt)
  pages_are (suc k) [] left = (text_is_frame kind.PageEnd [] (omega arith), tt)
  pages_are (suc k) (e ∷ es) left =
      let piece = take MAX_PAGE_CELLS (e ∷ es) in (
        text_is_frame kind.Page (page_text latest s piece) (page_fits s piece is (left_page s (e ∷ es) left)),
        pages_are k (drop MAX_PAGE_CELLS (e ∷ es)) (left_after s (e ∷ es) left),
      )

  pub reply_are : (es : List NamedCell) → AreLeft (s, es) → AllByRecursion IsFrame (reply s es)
  reply_are es left = pages_are (length es) es left
