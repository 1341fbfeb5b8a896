-- Records that are written one after the other.
use Rattle.std.proofs.Common.{◌≡◌, ℕ, ◌≤◌, List, [], ◌∷◌, ◌++◌, length, map, Option, inl, inr, refl, sym, ap, subst, ◌∙◌, append-nil, arith}
use Rattle.std.specs.Prelude.{Err, Ok, OnOk, Result}
use Rattle.std.specs.Io.KnownBytes.{Appends}
use Rattle.std.proofs.KnownBytes.{Appends-nil, Appends-trans}
use Rattle.std.proofs.lemmas.Grind.{flat_map-append}
use Rattle.std.proofs.lemmas.List.{map-append}
use Rattle.rr_cells.specs.declared.cell.Cell.{Cell}
use Rattle.rr_cells.specs.CellBounds.{NamedCell}
use Rattle.rr_cells.specs.Listing.{owned_cell}
use Rattle.rr_commit.specs.Records.{IsRecordOf}
use Rattle.rr_io.specs.Stream.{AppendsPrefix}
use Rattle.rr_io.proofs.StreamLemmas.{prefix_after}
use Rattle.rr_journal.specs.declared.raw.RawRecord.{RawRecord}
use Rattle.rr_journal.specs.declared.fault.JournalFault.{JournalFault}
use Rattle.rr_journal.specs.declared.fault.JournalFault.TheVariants.{Memory}
use Rattle.rr_journal.specs.declared.raw.TheConstants.{MAX_BODY_LEN}
use Rattle.rr_journal.specs.Body.{HasEnded, IsEncodeFault, body_text, raw_text}
use Rattle.rr_journal.specs.Text.{Raw, AllFit, after, chain, raw_of, record_text, records_text}
use Rattle.rr_journal.proofs.TextLemmas.{texts_go_on}
use Rattle.rr_recovery.specs.Joining.{cells_of_record}
use Rattle.rr_checkpoint.specs.Text.{HaveCells, end_text}

-- ---- the cells of records

pub no_cells : HaveCells [] []
no_cells = record { meanings = []; text = refl; has = refl; fit = tt }

all_fit : (rs qs : List Raw) → AllFit rs → AllFit qs → AllFit (rs ++ qs)
all_fit [] qs p q = q
all_fit (r ∷ rs) qs p q = (p.0, all_fit rs qs p.1 q)

pub cells_append : (rs qs : List Raw) (es fs : List NamedCell) → HaveCells rs es → HaveCells qs fs
    → HaveCells (rs ++ qs) (es ++ fs)
cells_append rs qs es fs a b = record {
  meanings = a.meanings ++ b.meanings;
  text = (λ i. a.text i ++ b.text i) ∙ sym (map-append raw_text a.meanings b.meanings);
  has = flat_map-append cells_of_record a.meanings b.meanings ∙ (λ i. a.has i ++ b.has i);
  fit = all_fit rs qs a.fit b.fit;
}

pub one_record : (cells : List Cell) (raw : RawRecord) → IsRecordOf cells raw
    → HaveCells (raw_of raw ∷ []) (map owned_cell cells)
one_record cells raw is = record {
  meanings = is.meaning ∷ [];
  text = ap (λ (r : Raw). r ∷ []) is.text;
  has = append-nil (cells_of_record is.meaning) ∙ is.has;
  fit = (is.fits, tt);
}

-- ---- their text

pub chain-append : (before : List ℕ) (rs qs : List Raw) → chain before (rs ++ qs) ≡ chain (chain before rs) qs
chain-append before [] qs = refl
chain-append before (r ∷ rs) qs = chain-append (after before r) rs qs

pub text_of_one : (before : List ℕ) (r : Raw) → record_text before r ≡ records_text before (r ∷ [])
unfolding records_text
text_of_one before r = sym (append-nil (record_text before r))

pub whole_prefix : (a b : Option (List ℕ)) (text : List ℕ) → Appends a b text → AppendsPrefix a b text
whole_prefix a b text w = (text, [], sym (append-nil text), w)

module _ (a b : Option (List ℕ)) (before : List ℕ) where
  pub none_written : Appends a a (records_text before [])
  unfolding records_text
  none_written = Appends-nil a

  pub one_written : (r : Raw) → Appends a b (record_text before r) → Appends a b (records_text before (r ∷ []))
  one_written r w = subst (Appends a b) (text_of_one before r) w

  pub one_prefix : (r : Raw) → AppendsPrefix a b (record_text before r) → AppendsPrefix a b (records_text before (r ∷ []))
  one_prefix r w = subst (AppendsPrefix a b) (text_of_one before r) w

  pub both_written : (c : Option (List ℕ)) (rs qs : List Raw) → Appends a b (records_text before rs)
      → Appends b c (records_text (chain before rs) qs) → Appends a c (records_text before (rs ++ qs))
  both_written c rs qs p q = subst (Appends a c) (sym (texts_go_on before rs qs))
      (Appends-trans a b c (records_text before rs) (records_text (chain before rs) qs) p q)

  pub both_prefix : (c : Option (List ℕ)) (rs qs : List Raw) → Appends a b (records_text before rs)
      → AppendsPrefix b c (records_text (chain before rs) qs) → AppendsPrefix a c (records_text before (rs ++ qs))
  both_prefix c rs qs p q = subst (AppendsPrefix a c) (sym (texts_go_on before rs qs))
      (prefix_after a b c (records_text before rs) (records_text (chain before rs) qs) p q)

-- ---- before anything is written

pub nothing_prefix : (a : Option (List ℕ)) (text : List ℕ) → AppendsPrefix a a text
nothing_prefix a text = ([], text, refl, Appends-nil a)

-- the end is short enough to be written
pub end_fits : (cells : ℕ) → length (end_text cells).body ≤ MAX_BODY_LEN
unfolding body_text
end_fits cells = omega arith

-- whatever refused its encoding was memory
pub only_memory : (cells : ℕ) (fault : JournalFault) → IsEncodeFault (body_text (HasEnded cells)) fault → fault ≡ Memory
only_memory cells fault (inl memory) = memory
only_memory cells fault (inr long) = let fits = end_fits cells in let past = long.1 in absurd (omega (arith, fits, past))

-- ---- the file

-- a prefix of its records, behind the whole header
pub file_prefix : (a b c : Option (List ℕ)) (header piece text : List ℕ) → piece ≡ header → Appends a b piece
    → AppendsPrefix b c text → AppendsPrefix a c (header ++ text)
file_prefix a b c header piece text is first rest =
    prefix_after a b c header text (subst (Appends a b) is first) rest

pub file_written : (a b c d : Option (List ℕ)) (header piece : List ℕ) (before digest : List ℕ) (rs qs : List Raw)
    → piece ≡ header → digest ≡ chain before rs → Appends a b piece → Appends b c (records_text before rs)
    → Appends c d (records_text digest qs) → Appends a d (header ++ records_text before (rs ++ qs))
file_written a b c d header piece before digest rs qs is chains first mid last =
    Appends-trans a b d header (records_text before (rs ++ qs)) (subst (Appends a b) is first)
    (both_written b c before d rs qs mid (subst (λ (l : List ℕ). Appends c d (records_text l qs)) chains last))

pub file_ends : (a b c d : Option (List ℕ)) (header piece : List ℕ) (before digest : List ℕ) (rs qs : List Raw)
    → piece ≡ header → digest ≡ chain before rs → Appends a b piece → Appends b c (records_text before rs)
    → AppendsPrefix c d (records_text digest qs) → AppendsPrefix a d (header ++ records_text before (rs ++ qs))
file_ends a b c d header piece before digest rs qs is chains first mid last =
    prefix_after a b d header (records_text before (rs ++ qs)) (subst (Appends a b) is first)
    (both_prefix b c before d rs qs mid (subst (λ (l : List ℕ). AppendsPrefix c d (records_text l qs)) chains last))

-- ---- results

pub both_ok : {X E : Type 0} {P Q R : Type 0} (r : Result X E) → OnOk r P → OnOk r Q → (P → Q → R) → OnOk r R
both_ok (Ok x) p q f = f p q
both_ok (Err e) p q f = tt

pub one_ok : {X E : Type 0} {P R : Type 0} (r : Result X E) → OnOk r P → (P → R) → OnOk r R
one_ok (Ok x) p f = f p
one_ok (Err e) p f = tt
