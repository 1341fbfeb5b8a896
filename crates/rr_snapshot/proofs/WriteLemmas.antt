-- The cells of a replica, written one after the other.
use Rattle.std.proofs.Common.{◌≡◌, ℕ, ◌+◌, ◌≤◌, List, [], ◌∷◌, ◌++◌, take, drop, length, slice_get, Option, Some, None, sym, ap, subst, ◌∙◌, arith}
use Rattle.std.specs.Io.KnownBytes.{Appends}
use Rattle.std.specs.List.{flat_map}
use Rattle.std.proofs.lemmas.List.{append-nil, take-append-drop}
use Rattle.std.proofs.lemmas.List.Concat.{flat_map-cons, flat_map-append}
use Rattle.rr_io.specs.Stream.{AppendsPrefix}
use Rattle.rr_io.proofs.StreamLemmas.{prefix_after, prefix_before}
use Rattle.rr_cells.specs.CellBounds.{NamedCell}
use Rattle.std.specs.Option.{option_map}
use Rattle.rr_cells.specs.declared.cell.CellRef.{CellRef}
use Rattle.rr_cells.specs.Listing.{seen_cell}
use Rattle.rr_replica.proofs.Counted.{past_end, take_all}
use Rattle.rr_replica.proofs.InTurn.{taken_more}

-- the text of one cell more
pub text_more : (text : NamedCell → List ℕ) (es : List NamedCell) (i : ℕ) (e : NamedCell) → slice_get es i ≡ Some e
    → flat_map text (take (i + 1) es) ≡ flat_map text (take i es) ++ text e
text_more text es i e at =
    ap (flat_map text) (taken_more es 0 i e (ap (slice_get es) (from_zero i) ∙ at))
    ∙ flat_map-append text (take i es) (e ∷ [])
    ∙ ap (λ (l : List ℕ). flat_map text (take i es) ++ l) (flat_map-cons text e [] ∙ append-nil (text e))
  where
    from_zero : (k : ℕ) → 0 + k ≡ k
    from_zero k = omega arith

-- the text of some cells at the beginning begins that of all
pub text_parts : (text : NamedCell → List ℕ) (es : List NamedCell) (i : ℕ)
    → flat_map text (take i es) ++ flat_map text (drop i es) ≡ flat_map text es
text_parts text es i = sym (flat_map-append text (take i es) (drop i es)) ∙ ap (flat_map text) (take-append-drop i es)

-- what was written whole is a prefix
pub whole_is_prefix : (old new : Option (List ℕ)) (text : List ℕ) → Appends old new text → AppendsPrefix old new text
whole_is_prefix old new text whole = (text, [], sym (append-nil text), whole)

-- some cells at the beginning were written, and then a prefix of the next
pub cells_prefix : (text : NamedCell → List ℕ) (es : List NamedCell) (i : ℕ) (e : NamedCell) (a b c : Option (List ℕ))
    → slice_get es i ≡ Some e → Appends a b (flat_map text (take i es)) → AppendsPrefix b c (text e)
    → AppendsPrefix a c (flat_map text es)
cells_prefix text es i e a b c at done part =
    subst (AppendsPrefix a c) (ap (λ (l : List ℕ). l ++ flat_map text (drop (i + 1) es))
    (sym (text_more text es i e at)) ∙ text_parts text es (i + 1))
    (prefix_before a c (flat_map text (take i es) ++ text e) (flat_map text (drop (i + 1) es))
    (prefix_after a b c (flat_map text (take i es)) (text e) done part))

-- ---- no cell is left

pub all_taken : (es : List NamedCell) (i : ℕ) → length es ≤ i → take i es ≡ es
all_taken es i past = take_all es i past

pub none_left : (es : List NamedCell) (i : ℕ) (o : Option CellRef) → option_map seen_cell o ≡ slice_get es i → o ≡ None
    → take i es ≡ es
none_left es i o next none = all_taken es i (past_end es i (sym next ∙ ap (option_map seen_cell) none))
