-- Checking cells one after the other, as a loop does.
use Rattle.std.proofs.Common.{◌≡◌, ◌↔◌, ℕ, zero, suc, ◌-◌, ◌+◌, ◌≤◌, ◌<◌, Bool, true, false, List, [], ◌∷◌, length, Option, None, Some, Result, Ok, Err, IsTrue, refl, sym, ap, subst, ◌∙◌, true≢false, arith, rules}
use Rattle.std.specs.Prelude.{◌==◌, not}
use Rattle.std.proofs.lemmas.Bool.Decides.{nat_tests}
use Rattle.rr_text.specs.Results.{◌>>=◌}
use Rattle.rr_schema.specs.Schema.{Layout}
use Rattle.rr_codec.specs.declared.fault.CodecFault.{CodecFault}
use Rattle.rr_codec.specs.declared.fault.CodecFault.TheVariants.{BadContribution, OutOfOrder, TrailingBytes}
use Rattle.rr_codec.specs.Fields.{SlotEntry}
use Rattle.rr_codec.specs.Recent.{KnownState, nothing_known}
use Rattle.rr_codec.specs.Reading.{alone, cell_at, cell_checked, cells_at, cells_checked, cells_of, checked_at, checked_cells_of, checked_count, head_at, is_behind, packed_at, rest_of}
use Rattle.rr_contrib.specs.Validity.{is_valid}
use Rattle.rr_codec.specs.Laws.{AreChecked}
use Rattle.rr_codec.proofs.LoopLemmas.{Read, FirstRead}
use Rattle.rr_codec.proofs.TextLemmas.{done, done_same, unless_ok}
use Rattle.rr_codec.proofs.CellTextLemmas.{with_then}

pub same_truth : {P : Type 0} (a b : Bool) → IsTrue a ↔ P → IsTrue b ↔ P → a ≡ b
same_truth true true f g = refl
same_truth false false f g = refl
same_truth true false f g = search (rules, f, g)
same_truth false true f g = search (rules, f, g)

pub none_of : (xs : List ℕ) → true ≡ (length xs == 0) → xs ≡ []
none_of [] e = refl
none_of (x ∷ xs) e =
    let some : (suc (length xs) == 0) ≡ false = grind (arith, nat_tests) in absurd (true≢false (e ∙ some))

is_true : (t : Bool) → not t ≡ false → IsTrue t
is_true true e = search rules
is_true false e = absurd (true≢false e)

module _ (s : Layout) (archive : ℕ) where
  -- a checked cell, and then n more
  abbrev with_first : ℕ → FirstRead → Read
  with_first n read =
      read >>= λ first. cells_checked s archive (Some first.0.0) first.0.1 n first.1 >>= λ others. Ok
      (first.0.0 ∷ others.0, others.1)

  first_read : (before : Option SlotEntry) (k : KnownState) (n i : ℕ) (bytes : List ℕ) → i < n
      → cells_checked s archive before k (n - i) bytes
      ≡ with_first (n - (i + 1)) (checked_at s archive before k bytes)
  unfolding cells_checked
  first_read before k n i bytes lt =
      let one : n - i ≡ suc (n - (i + 1)) = omega arith in ap (λ (m : ℕ). cells_checked s archive before k m bytes) one

  none_left : (before : Option SlotEntry) (k : KnownState) (n i : ℕ) (bytes : List ℕ) → n ≤ i
      → cells_checked s archive before k (n - i) bytes ≡ Ok ([], bytes)
  unfolding cells_checked
  none_left before k n i bytes le =
      let none : n - i ≡ 0 = omega arith in ap (λ (m : ℕ). cells_checked s archive before k m bytes) none

  behind_first : (e : SlotEntry) (read : Read) → rest_of (read >>= λ others. Ok (e ∷ others.0, others.1)) ≡ rest_of read
  behind_first e (Ok x) = refl
  behind_first e (Err f) = refl

  pub goes_on : (before : Option SlotEntry) (k after : KnownState) (e : SlotEntry) (n i : ℕ) (bytes rest : List ℕ)
      → i < n
      → checked_at s archive before k bytes ≡ Ok ((e, after), rest)
      → rest_of (cells_checked s archive (Some e) after (n - (i + 1)) rest)
      ≡ rest_of (cells_checked s archive before k (n - i) bytes)
  goes_on before k after e n i bytes rest lt read =
      sym (ap rest_of (first_read before k n i bytes lt)
      ∙ ap (λ (r : FirstRead). rest_of (with_first (n - (i + 1)) r)) read
      ∙ behind_first e (cells_checked s archive (Some e) after (n - (i + 1)) rest))

  pub ends : (before : Option SlotEntry) (k : KnownState) (n i : ℕ) (bytes : List ℕ) (f : CodecFault) → i < n
      → checked_at s archive before k bytes ≡ Err f → rest_of (cells_checked s archive before k (n - i) bytes) ≡ Err f
  ends before k n i bytes f lt read =
      ap rest_of (first_read before k n i bytes lt)
      ∙ ap (λ (r : FirstRead). rest_of (with_first (n - (i + 1)) r)) read

  pub rest_is : (before : Option SlotEntry) (k : KnownState) (n i : ℕ) (bytes : List ℕ) → n ≤ i
      → rest_of (cells_checked s archive before k (n - i) bytes) ≡ Ok bytes
  rest_is before k n i bytes le = ap rest_of (none_left before k n i bytes le)

  abbrev read_len : Read → Result ℕ CodecFault
  read_len read = read >>= λ x. Ok (length x.0)

  one_more : (e : SlotEntry) (r : Read) (n : ℕ) → read_len r ≡ Ok n
      → read_len (r >>= λ others. Ok (e ∷ others.0, others.1)) ≡ Ok (suc n)
  one_more e (Ok x) n len = let same : length x.0 ≡ n = cc in ap (λ (m : ℕ). Ok (suc m)) same
  one_more e (Err f) n len = absurd cc

  -- there are as many as were read
  lens : (n : ℕ) (before : Option SlotEntry) (k : KnownState) (bytes : List ℕ) {rest : List ℕ}
      → rest_of (cells_checked s archive before k n bytes) ≡ Ok rest
      → read_len (cells_checked s archive before k n bytes) ≡ Ok n
  unfolding cells_checked
  lens zero before k bytes e = refl
  lens (suc n) before k bytes {rest} e =
      by (checked_at s archive before k bytes) e (λ before k bytes e. lens n before k bytes e)
    where
      by : (r : FirstRead) → rest_of (with_first n r) ≡ Ok rest
          → ((before : Option SlotEntry) (k : KnownState) (bytes : List ℕ)
          → rest_of (cells_checked s archive before k n bytes) ≡ Ok rest
          → read_len (cells_checked s archive before k n bytes) ≡ Ok n)
          → read_len (with_first n r) ≡ Ok (suc n)
      by (Ok x) e again =
          let others = cells_checked s archive (Some x.0.0) x.0.1 n x.1 in
          one_more x.0.0 others n (again (Some x.0.0) x.0.1 x.1 (sym (behind_first x.0.0 others) ∙ e))
      by (Err f) e again = absurd cc

  -- ---- all of the bytes

  pub head_faulty : (bytes : List ℕ) (f : CodecFault) → head_at bytes ≡ Err f → checked_count s archive bytes ≡ Err f
  head_faulty bytes f e = rw e refl

  abbrev counted : Read → Result ℕ CodecFault
  counted read = read >>= alone >>= λ cells. Ok (length cells)

  module _ (bytes cells : List ℕ) (count span : ℕ) (head : head_at bytes ≡ Ok ((count, span), cells)) where
    abbrev read : Read
    read = cells_checked s archive None (nothing_known span) count cells

    all_of : checked_count s archive bytes ≡ counted read
    all_of = rw head refl

    fault_of : (r : Read) (f : CodecFault) → rest_of r ≡ Err f → counted r ≡ Err f
    fault_of (Ok x) f e = absurd cc
    fault_of (Err g) f e = let same : g ≡ f = cc in ap (λ (h : CodecFault). Err h) same

    pub cells_faulty : (f : CodecFault) → rest_of read ≡ Err f → checked_count s archive bytes ≡ Err f
    cells_faulty f e = all_of ∙ fault_of read f e

    trailing_of : (r : Read) (rest : List ℕ) → rest_of r ≡ Ok rest → (length rest ≡ 0 → ⊥)
        → counted r ≡ Err TrailingBytes
    trailing_of (Ok x) rest e some =
        let same : x.1 ≡ rest = cc in
        let not_none : (length x.1 == 0) ≡ false = rw same (grind (arith, nat_tests)) in
        rw not_none refl
    trailing_of (Err g) rest e some = absurd cc

    pub trailing : (rest : List ℕ) → rest_of read ≡ Ok rest → (length rest ≡ 0 → ⊥)
        → checked_count s archive bytes ≡ Err TrailingBytes
    trailing rest e some = all_of ∙ trailing_of read rest e some

    alone_of : (r : Read) (n : ℕ) → rest_of r ≡ Ok [] → read_len r ≡ Ok n → counted r ≡ Ok n
    alone_of (Ok x) n e len = let none : x.1 ≡ [] = cc in rw none len
    alone_of (Err g) n e len = absurd cc

    pub good : rest_of read ≡ Ok [] → checked_count s archive bytes ≡ Ok count
    good e = all_of ∙ alone_of read count e (lens count None (nothing_known span) cells e)

  -- ---- what is taken

  -- read as these cells, which are checked
  record AreTaken (before : Option SlotEntry) (k : KnownState) (n : ℕ) (bytes : List ℕ) (es : List SlotEntry)
      (rest : List ℕ) : Type 0 where
    read : cells_at k n bytes ≡ done (es, rest)
    checked : AreChecked s archive before es

  taken : (n : ℕ) (before : Option SlotEntry) (k : KnownState) (bytes : List ℕ) (es : List SlotEntry) (rest : List ℕ)
      → cells_checked s archive before k n bytes ≡ done (es, rest) → AreTaken before k n bytes es rest
  unfolding cells_checked cells_at checked_at
  taken zero before k bytes es rest e =
      let same = done_same ([], bytes) (es, rest) e in
      subst (λ (x : List SlotEntry × List ℕ). AreTaken before k zero bytes x.0 x.1) same
      (record { read = refl; checked = tt })
  taken (suc n) before k bytes es rest e =
      with_then (checked_at s archive before k bytes) _ (es, rest) e (λ first first_is e1.
      with_then (cells_checked s archive (Some first.0.0) first.0.1 n first.1) _ (es, rest) e1 (λ others others_are e2.
      with_then (cell_at k bytes) _ first first_is (λ cell cell_is e3.
      with_then (cell_checked s archive before cell.0.0) _ first e3 (λ checked checked_is e4.
      let valid = unless_ok BadContribution (not (is_valid s archive cell.0.0.0 cell.0.0.1.contribution)) _ checked
      checked_is in
      let behind = unless_ok OutOfOrder (not (is_behind before cell.0.0)) _ checked valid.1 in
      let same_cell : cell.0.0 ≡ checked = done_same cell.0.0 checked behind.1 in
      let same_first : ((cell.0.0, cell.0.1), cell.1) ≡ first =
      ap (λ (c : SlotEntry). ((c, cell.0.1), cell.1)) same_cell ∙ done_same ((checked, cell.0.1), cell.1) first e4 in
      let later = taken n (Some first.0.0) first.0.1 first.1 others.0 others.1 others_are in
      let first_read : cell_at k bytes ≡ done first =
      cell_is ∙ ap (λ (x : (SlotEntry × KnownState) × List ℕ). done x) same_first in
      let own : IsTrue (is_valid s archive first.0.0.0 first.0.0.1.contribution) × IsTrue (is_behind before first.0.0) =
      subst (λ (x : (SlotEntry × KnownState) × List ℕ). IsTrue (is_valid s archive x.0.0.0 x.0.0.1.contribution)
      × IsTrue (is_behind before x.0.0)) same_first (is_true _ valid.0, is_true _ behind.0) in
      subst (λ (x : List SlotEntry × List ℕ). AreTaken before k (suc n) bytes x.0 x.1)
      (done_same (first.0.0 ∷ others.0, others.1) (es, rest) e2)
      (record {
        read = rw (first_read, later.read) refl;
        checked = (own.0, own.1, later.checked);
      })))))

  pub are_taken : (bytes : List ℕ) (es : List SlotEntry) → checked_cells_of s archive bytes ≡ done es
      → (cells_of bytes ≡ done es) × AreChecked s archive None es
  unfolding packed_at
  are_taken bytes es e =
      with_then (head_at bytes) _ es e (λ head head_is e1.
      with_then (cells_checked s archive None (nothing_known head.0.1) head.0.0 head.1) alone es e1
      (λ cells cells_are e2.
      let is = taken head.0.0 None (nothing_known head.0.1) head.1 cells.0 cells.1 cells_are in
      let same : cells.0 ≡ es = done_same cells.0 es
      (unless_ok TrailingBytes (not (length cells.1 == 0)) _ es e2).1 in (
        rw (head_is, is.read) e2,
        subst (λ (x : List SlotEntry). AreChecked s archive None x) same is.checked,
      )))
