-- Reading cells one after the other, as a loop does.
use Rattle.std.proofs.Common.{◌≡◌, ℕ, zero, suc, ◌-◌, ◌+◌, ◌≤◌, ◌<◌, List, [], ◌∷◌, ◌++◌, Result, Ok, Err, IsOk, false, length, refl, sym, ap, subst, ◌∙◌, append_assoc, arith, rules}
use Rattle.std.specs.Prelude.{◌==◌}
use Rattle.std.proofs.lemmas.Bool.Decides.{nat_tests}
use Rattle.std.proofs.lemmas.List.{append-nil}
use Rattle.rr_text.specs.Results.{◌>>=◌}
use Rattle.rr_codec.specs.declared.fault.CodecFault.{CodecFault}
use Rattle.rr_codec.specs.Fields.{SlotEntry}
use Rattle.rr_codec.specs.declared.fault.CodecFault.TheVariants.{TrailingBytes}
use Rattle.rr_codec.specs.Decoding.{LeftState, with_cell}
use Rattle.rr_codec.specs.Recent.{KnownState, nothing_known}
use Rattle.rr_codec.specs.Reading.{alone, cell_at, cells_at, cells_left, cells_of, head_at, packed_at, rest_of}

abbrev pub Read : Type 0
Read = Result (List SlotEntry × List ℕ) CodecFault

abbrev pub FirstRead : Type 0
FirstRead = Result ((SlotEntry × KnownState) × List ℕ) CodecFault

-- a cell, and then n more
abbrev pub with_first : ℕ → FirstRead → Read
with_first n read = read >>= λ first. cells_at first.0.1 n first.1 >>= λ others. Ok (first.0.0 ∷ others.0, others.1)

pub first_read : (k : KnownState) (n i : ℕ) (bytes : List ℕ) → i < n
    → cells_at k (n - i) bytes ≡ with_first (n - (i + 1)) (cell_at k bytes)
unfolding cells_at
first_read k n i bytes lt =
    let one : n - i ≡ suc (n - (i + 1)) = omega arith in ap (λ (m : ℕ). cells_at k m bytes) one

none_left : (k : KnownState) (n i : ℕ) (bytes : List ℕ) → n ≤ i → cells_at k (n - i) bytes ≡ Ok ([], bytes)
unfolding cells_at
none_left k n i bytes le = let none : n - i ≡ 0 = omega arith in ap (λ (m : ℕ). cells_at k m bytes) none

-- ---- what follows the cells

behind_first : (e : SlotEntry) (read : Read) → rest_of (read >>= λ others. Ok (e ∷ others.0, others.1)) ≡ rest_of read
behind_first e (Ok x) = refl
behind_first e (Err f) = refl

pub rest_goes_on : (k after : KnownState) (e : SlotEntry) (n i : ℕ) (bytes rest : List ℕ) → i < n
    → cell_at k bytes ≡ Ok ((e, after), rest)
    → rest_of (cells_at after (n - (i + 1)) rest) ≡ rest_of (cells_at k (n - i) bytes)
rest_goes_on k after e n i bytes rest lt read =
    sym (ap rest_of (first_read k n i bytes lt) ∙ ap (λ (r : FirstRead). rest_of (with_first (n - (i + 1)) r)) read
    ∙ behind_first e (cells_at after (n - (i + 1)) rest))

pub rest_ends : (k : KnownState) (n i : ℕ) (bytes : List ℕ) (f : CodecFault) → i < n → cell_at k bytes ≡ Err f
    → rest_of (cells_at k (n - i) bytes) ≡ Err f
rest_ends k n i bytes f lt read =
    ap rest_of (first_read k n i bytes lt) ∙ ap (λ (r : FirstRead). rest_of (with_first (n - (i + 1)) r)) read

pub rest_is : (k : KnownState) (n i : ℕ) (bytes : List ℕ) → n ≤ i → rest_of (cells_at k (n - i) bytes) ≡ Ok bytes
rest_is k n i bytes le = ap rest_of (none_left k n i bytes le)

-- ---- the cells

-- cells that were read before, and what is still read
abbrev pub with_prefix : List SlotEntry → Read → Read
with_prefix prefix read = read >>= λ x. Ok (prefix ++ x.0, x.1)

pub with_nothing : (read : Read) → with_prefix [] read ≡ read
with_nothing (Ok x) = refl
with_nothing (Err f) = refl

regroup : (prefix : List SlotEntry) (e : SlotEntry) (read : Read)
    → with_prefix prefix (read >>= λ x. Ok (e ∷ x.0, x.1)) ≡ with_prefix (prefix ++ e ∷ []) read
regroup prefix e (Ok x) = ap (λ (es : List SlotEntry). Ok (es, x.1)) (simp append_assoc)
regroup prefix e (Err f) = refl

pub prefix_goes_on : (k after : KnownState) (prefix : List SlotEntry) (e : SlotEntry) (n i : ℕ) (bytes rest : List ℕ)
    → i < n
    → cell_at k bytes ≡ Ok ((e, after), rest)
    → with_prefix (prefix ++ e ∷ []) (cells_at after (n - (i + 1)) rest) ≡ with_prefix prefix (cells_at k (n - i) bytes)
prefix_goes_on k after prefix e n i bytes rest lt read =
    sym (ap (with_prefix prefix) (first_read k n i bytes lt)
    ∙ ap (λ (r : FirstRead). with_prefix prefix (with_first (n - (i + 1)) r)) read
    ∙ regroup prefix e (cells_at after (n - (i + 1)) rest))

pub prefix_ends : (k : KnownState) (prefix : List SlotEntry) (n i : ℕ) (bytes : List ℕ) (f : CodecFault) → i < n
    → cell_at k bytes ≡ Err f → with_prefix prefix (cells_at k (n - i) bytes) ≡ Err f
prefix_ends k prefix n i bytes f lt read =
    ap (with_prefix prefix) (first_read k n i bytes lt)
    ∙ ap (λ (r : FirstRead). with_prefix prefix (with_first (n - (i + 1)) r)) read

pub prefix_is : (k : KnownState) (prefix : List SlotEntry) (n i : ℕ) (bytes : List ℕ) → n ≤ i
    → cells_left (with_prefix prefix (cells_at k (n - i) bytes)) ≡ Ok prefix
prefix_is k prefix n i bytes le =
    ap (λ (r : Read). cells_left (with_prefix prefix r)) (none_left k n i bytes le)
    ∙ ap (λ (es : List SlotEntry). Ok es) (append-nil prefix)

pub not_ok : (r : Read) (f : CodecFault) → r ≡ Err f → IsOk r → ⊥
not_ok r f e ok = search (rules, e, ok)

-- ---- all of the bytes

pub head_faulty : (bytes : List ℕ) (f : CodecFault) → head_at bytes ≡ Err f → cells_of bytes ≡ Err f
unfolding packed_at
head_faulty bytes f e = rw e refl

module _ (bytes cells : List ℕ) (count span : ℕ) (head : head_at bytes ≡ Ok ((count, span), cells)) where
  abbrev read : Read
  read = cells_at (nothing_known span) count cells

  all_of : cells_of bytes ≡ (read >>= alone)
  unfolding packed_at
  all_of = rw head refl

  fault_of : (r : Read) (f : CodecFault) → rest_of r ≡ Err f → (r >>= alone) ≡ Err f
  fault_of (Ok x) f e = absurd cc
  fault_of (Err g) f e = let same : g ≡ f = cc in ap (λ (h : CodecFault). Err h) same

  pub cells_faulty : (f : CodecFault) → rest_of read ≡ Err f → cells_of bytes ≡ Err f
  cells_faulty f e = all_of ∙ fault_of read f e

  trailing_of : (r : Read) (rest : List ℕ) → rest_of r ≡ Ok rest → (length rest ≡ 0 → ⊥)
      → (r >>= alone) ≡ Err TrailingBytes
  trailing_of (Ok x) rest e some =
      let same : x.1 ≡ rest = cc in
      let not_none : (length x.1 == 0) ≡ false = rw same (grind (arith, nat_tests)) in
      rw not_none refl
  trailing_of (Err g) rest e some = absurd cc

  pub trailing : (rest : List ℕ) → rest_of read ≡ Ok rest → (length rest ≡ 0 → ⊥) → cells_of bytes ≡ Err TrailingBytes
  trailing rest e some = all_of ∙ trailing_of read rest e some

  good_of : (r : Read) (es : List SlotEntry) → rest_of r ≡ Ok [] → cells_left r ≡ Ok es → (r >>= alone) ≡ Ok es
  good_of (Ok x) es rest left =
      let none : x.1 ≡ [] = cc in
      let same : x.0 ≡ es = cc in
      rw (none, same) refl
  good_of (Err g) es rest left = absurd cc

  pub good : (es : List SlotEntry) → rest_of read ≡ Ok [] → cells_left read ≡ Ok es → cells_of bytes ≡ Ok es
  good es rest left = all_of ∙ good_of read es rest left

  ok_of : (r : Read) → rest_of r ≡ Ok [] → IsOk r
  ok_of (Ok x) e = search rules
  ok_of (Err g) e = absurd cc

  pub is_ok : rest_of read ≡ Ok [] → IsOk read
  is_ok e = ok_of read e

  all_ok_of : (r : Read) → rest_of r ≡ Ok [] → IsOk (r >>= alone)
  all_ok_of (Ok x) e = let none : x.1 ≡ [] = cc in rw none (search rules)
  all_ok_of (Err g) e = absurd cc

  pub all_is_ok : rest_of read ≡ Ok [] → IsOk (cells_of bytes)
  all_is_ok e = subst (λ (r : Result (List SlotEntry) CodecFault). IsOk r) (sym all_of) (all_ok_of read e)

-- ---- one cell after the other, as a walk does

abbrev pub left_state : KnownState → ℕ → List ℕ → LeftState
left_state k n bytes = record { cells = cells_left (cells_at k n bytes) }

pub walk_ends : (k : KnownState) (n : ℕ) (bytes : List ℕ) → n ≡ 0 → (left_state k n bytes).cells ≡ Ok []
unfolding cells_at
walk_ends k n bytes none = rw none refl

with_it : (e : SlotEntry) (r : Read) → cells_left (r >>= λ others. Ok (e ∷ others.0, others.1))
    ≡ (cells_left r >>= λ es. Ok (e ∷ es))
with_it e (Ok x) = refl
with_it e (Err f) = refl

first_of : (k : KnownState) (n : ℕ) (bytes : List ℕ) → (n ≡ 0 → ⊥)
    → cells_at k n bytes ≡ with_first (n - 1) (cell_at k bytes)
unfolding cells_at
first_of k zero bytes some = absurd (some refl)
first_of k (suc n) bytes some = let one : suc n - 1 ≡ n = omega arith in rw one refl

pub walk_goes_on : (k after : KnownState) (e : SlotEntry) (n : ℕ) (bytes rest : List ℕ) → (n ≡ 0 → ⊥)
    → cell_at k bytes ≡ Ok ((e, after), rest) → left_state k n bytes ≡ with_cell e (left_state after (n - 1) rest)
walk_goes_on k after e n bytes rest some read =
    ap (λ (r : Result (List SlotEntry) CodecFault). record { cells = r })
    (ap cells_left (first_of k n bytes some) ∙ ap (λ (r : FirstRead). cells_left (with_first (n - 1) r)) read
    ∙ with_it e (cells_at after (n - 1) rest))

pub walk_fails : (k : KnownState) (n : ℕ) (bytes : List ℕ) (f : CodecFault) → (n ≡ 0 → ⊥) → cell_at k bytes ≡ Err f
    → (left_state k n bytes).cells ≡ Err f
walk_fails k n bytes f some read =
    ap cells_left (first_of k n bytes some) ∙ ap (λ (r : FirstRead). cells_left (with_first (n - 1) r)) read

pub walk_begins : (bytes cells : List ℕ) (count span : ℕ) → head_at bytes ≡ Ok ((count, span), cells)
    → cells_at (nothing_known span) count cells ≡ packed_at bytes
unfolding packed_at
walk_begins bytes cells count span head = rw head refl

pub no_head : (bytes : List ℕ) (f : CodecFault) → head_at bytes ≡ Err f → packed_at bytes ≡ Err f
unfolding packed_at
no_head bytes f e = rw e refl
