-- What is handed out is the first item, whatever comes.
use Rattle.std.proofs.Common.{◌≡◌, ℕ, ◌+◌, ◌-◌, ◌<◌, ◌≤◌, Bool, true, false, not, ◌&&◌, eqb, ltb, List, [], ◌∷◌, ◌++◌, length, drop, Option, Some, None, refl, sym, ap, ◌∙◌, arith, append_assoc, length-append}
use Rattle.std.proofs.lemmas.Bool.{and_parts, eqb-false, ltb-false, not-true}
use Rattle.std.proofs.lemmas.List.{append-nil, drop-drop}
use Rattle.std.proofs.Math.Seq.{drop-append_seam}
use Rattle.rr_text.specs.declared.limits.TheConstants.{MAX_LINE}
use Rattle.rr_text.specs.declared.bytes.TheConstants.{LINE_FEED}
use Rattle.rr_text.specs.Bytes.{HasNoLineFeed}
use Rattle.rr_feed.specs.Items.{Item, Line, TooLong, pieces, item_of, items_of}
use Rattle.rr_feed.specs.Feed.{state, HandsOut}
use Rattle.rr_feed.specs.Next.{IsCut, IsEnd}
use Rattle.rr_feed.proofs.PieceLemmas.{some_pieces, pieces_line, pieces_last, pieces_prefix, items_of_line, items_of_long, last_items_line, last_items_none, IsLine-item_of}

-- the pieces of what is cut, and of what comes after it
pieces_cut : (left line rest more : List ℕ) → IsCut left line rest
    → pieces (left ++ more) ≡ line ∷ pieces (rest ++ more)
pieces_cut left line rest more cut =
    ap (λ (bytes : List ℕ). pieces (bytes ++ more)) cut.whole
    ∙ ap pieces (append_assoc line (LINE_FEED ∷ rest) more)
    ∙ pieces_line line (rest ++ more) cut.none

shorter : (left line rest : List ℕ) → IsCut left line rest → length rest + 1 ≤ length left
shorter left line rest cut = omega (arith, ap length cut.whole, length-append line (LINE_FEED ∷ rest))

pub line_is_handed : (left line rest : List ℕ) (ended : Bool) → IsCut left line rest
    → HandsOut (state left false ended) (Some (item_of line)) (state rest false ended)
line_is_handed left line rest ended cut = record {
  first = λ more end may. ap (items_of end) (pieces_cut left line rest more cut)
      ∙ items_of_line end line (rest ++ more);
  none = λ e. absurd cc;
  line = IsLine-item_of line cut.none;
  ended = refl;
  fewer = shorter left line rest cut;
  few = λ e. absurd cc;
}

pub too_long_is_handed : (left : List ℕ) (ended : Bool) → HasNoLineFeed left → MAX_LINE < length left
    → HandsOut (state left false ended) (Some TooLong) (state [] true ended)
too_long_is_handed left ended none long = record {
  first = λ more end may.
      let some = some_pieces more in
      let longer : MAX_LINE < length (left ++ some.0) = omega (arith, length-append left some.0) in
      ap (items_of end) (pieces_prefix left more some.0 some.1 none some.2)
      ∙ items_of_long end (left ++ some.0) some.1 longer
      ∙ ap (λ (ps : List (List ℕ)). TooLong ∷ items_of end (drop 1 ps)) (sym some.2);
  none = λ e. absurd cc;
  line = tt;
  ended = refl;
  fewer = omega arith;
  few = λ e. absurd cc;
}

pub last_is_handed : (left : List ℕ) (ended : Bool) → HasNoLineFeed left → ltb MAX_LINE (length left) ≡ false
    → (ended && not (eqb (length left) 0)) ≡ true → HandsOut (state left false ended) (Some (Line left))
    (state [] false ended)
last_is_handed left ended none short decided =
    let parts = and_parts ended (not (eqb (length left) 0)) decided in
    let some : length left ≡ 0 → ⊥ = eqb-false (length left) 0 (not-true _ parts.1) in record {
      first = λ more end may.
          let nothing = may parts.0 in
          let line : items_of true (pieces left) ≡ Line left ∷ [] =
          rw (pieces_last left none) (last_items_line true left short parts.1) in
          rw (nothing.0, nothing.1, append-nil left) line;
      none = λ e. absurd cc;
      line = (none, ltb-false _ _ short);
      ended = refl;
      fewer = omega arith;
      few = λ e. absurd cc;
    }

pub nothing_is_handed : (left : List ℕ) (ended : Bool) → HasNoLineFeed left → ltb MAX_LINE (length left) ≡ false
    → (ended && not (eqb (length left) 0)) ≡ false → HandsOut (state left false ended) None (state left false ended)
nothing_is_handed left ended none short undecided = record {
  first = λ more end may. refl;
  none = λ e. rw (pieces_last left none) (last_items_none ended left short undecided);
  line = tt;
  ended = refl;
  fewer = omega arith;
  few = λ e. ltb-false _ _ short;
}

pub rest_is_skipped : (left : List ℕ) (ended : Bool) → HasNoLineFeed left
    → HandsOut (state left true ended) None (state [] true ended)
rest_is_skipped left ended none = record {
  first = λ more end may.
      let some = some_pieces more in
      ap (λ (ps : List (List ℕ)). items_of end (drop 1 ps))
      (pieces_prefix left more some.0 some.1 none some.2
      ∙ ap (λ (ps : List (List ℕ)). (left ++ some.0) ∷ drop 1 ps) (sym some.2));
  none = λ e. ap (λ (ps : List (List ℕ)). items_of ended (drop 1 ps)) (pieces_last left none);
  line = tt;
  ended = refl;
  fewer = omega arith;
  few = λ e. omega arith;
}

pub line_is_skipped : (left line rest new : List ℕ) (ended skipping : Bool) (item : Option Item) → IsCut left line rest
    → HandsOut (state rest false ended) item (state new skipping ended)
    → HandsOut (state left true ended) item (state new skipping ended)
line_is_skipped left line rest new ended skipping item cut hands = record {
  first = λ more end may. ap (λ (ps : List (List ℕ)). items_of end (drop 1 ps)) (pieces_cut left line rest more cut)
      ∙ hands.first more end may;
  none = λ e.
      ap (λ (bytes : List ℕ). items_of ended (drop 1 (pieces bytes))) cut.whole
      ∙ ap (λ (ps : List (List ℕ)). items_of ended (drop 1 ps)) (pieces_line line rest cut.none) ∙ hands.none e;
  line = hands.line;
  ended = refl;
  fewer = omega (arith, hands.fewer, shorter left line rest cut);
  few = hands.few;
}

end_of : (left prefix rest : List ℕ) → left ≡ prefix ++ rest → IsEnd left rest
end_of left prefix rest e =
    let n : length left - length rest ≡ length prefix =
    omega (arith, ap length e, length-append prefix rest) in record {
      within = omega (arith, ap length e, length-append prefix rest);
      same = sym (ap (λ (k : ℕ). drop k left) n ∙ ap (drop (length prefix)) e ∙ drop-append_seam prefix rest);
    }

pub IsEnd-cut : (left line rest : List ℕ) → IsCut left line rest → IsEnd left rest
IsEnd-cut left line rest cut =
    end_of left (line ++ LINE_FEED ∷ []) rest (cut.whole ∙ sym (append_assoc line (LINE_FEED ∷ []) rest))

pub IsEnd-nil : (left : List ℕ) → IsEnd left []
IsEnd-nil left = end_of left left [] (sym (append-nil left))

pub IsEnd-then : (a b c : List ℕ) → IsEnd a b → IsEnd b c → IsEnd a c
IsEnd-then a b c p q =
    let n : (length a - length b) + (length b - length c) ≡ length a - length c = omega (arith, p.within, q.within) in
    record {
      within = omega (arith, p.within, q.within);
      same = q.same ∙ ap (drop (length b - length c)) p.same ∙ drop-drop (length b - length c) (length a - length b) a
          ∙ ap (λ (k : ℕ). drop k a) n;
    }
