-- One record is read exactly where its text is.
use Rattle.std.proofs.Common.{◌≡◌, ℕ, ◌+◌, ◌<◌, ◌≤◌, Bool, true, false, ltb, List, [], ◌∷◌, ◌++◌, length, take, drop, get_or, Option, None, Some, refl, sym, ap, subst, ◌∙◌, append_assoc, append-nil, arith}
use Rattle.std.specs.Prelude.{nat_le, nat_eq, ◌&&◌, ◌==◌, if◌then◌else◌}
use Rattle.std.specs.Cmp.Lexicographic.{pointwise, bytes_decides}
use Rattle.std.specs.Int.{w32, from_be_bytes, to_be_bytes}
use Rattle.std.proofs.lemmas.Bool.{ltb-true, ltb-false, leb-true, le-leb, eqb-true, eq-eqb, ne_eqb}
use Rattle.std.proofs.lemmas.List.{length-append, length-take, length-drop, take_at, drop_at, take-append-drop, take-append-le}
use Rattle.sha2.specs.Sha256.{sha256}
use Rattle.sha2.proofs.Facts256.{length-sha256}
use Rattle.rr_journal.specs.Laws.{AreBytes}
use Rattle.rr_journal.proofs.NumberLemmas.{AreBytes-take, AreBytes-drop, len32, again32, back32}
use Rattle.rr_journal.specs.declared.raw.TheConstants.{MAX_BODY_LEN}
use Rattle.rr_journal.specs.Digest.{cut_digest, undigested_text, link}
use Rattle.rr_journal.specs.Text.{Raw, Fits, after, record_text, record_len}
use Rattle.rr_journal.specs.Reading.{stated_len, stated_kind, tail_len, made_of, is_whole, record_after, record_at}

pub cut_len : (text : List ℕ) → length (cut_digest text) ≡ 8
unfolding cut_digest
cut_len text = omega (arith, length-take 8 (sha256 text), length-sha256 text)

pub link_len : (before : List ℕ) (kind : ℕ) (body : List ℕ) → length (link before kind body) ≡ 8
unfolding cut_digest
link_len before kind body = omega (
  arith,
  length-take 8 (sha256 (before ++ undigested_text kind body)),
  length-sha256 (before ++ undigested_text kind body),
)

-- ---- whole records

pub all_four : (a b c d : Bool) → (a && (b && (c && d))) ≡ true → (a ≡ true) × (b ≡ true) × (c ≡ true) × (d ≡ true)
all_four true true true d e = (refl, refl, refl, e)
all_four true true false d e = absurd cc
all_four true false c d e = absurd cc
all_four false b c d e = absurd cc

no_third : (a b c d : Bool) → c ≡ false → (a && (b && (c && d))) ≡ false
no_third true true c d e = ap (λ (x : Bool). x && d) e
no_third true false c d e = refl
no_third false b c d e = refl

pub record IsWhole (before head tail : List ℕ) : Type 0 where
  pub head_len : length head ≡ 5
  pub fits : stated_len head ≤ MAX_BODY_LEN
  pub tail_len : length tail ≡ stated_len head + 8
  pub digest : drop (stated_len head) tail ≡ after before (made_of head tail)

pub told_whole : (before head tail : List ℕ) → is_whole before head tail ≡ true → IsWhole before head tail
unfolding is_whole
told_whole before head tail e =
    let h = all_four (length head == 5) (nat_le (stated_len head) MAX_BODY_LEN) (length tail == tail_len head)
    (pointwise nat_eq (drop (stated_len head) tail) (after before (made_of head tail))) e in
    record {
      head_len = eqb-true _ _ h.0;
      fits = leb-true _ _ h.1;
      tail_len = eqb-true _ _ h.2;
      digest = (bytes_decides (drop (stated_len head) tail) (after before (made_of head tail))).0 h.3;
    }

pub tells_whole : (before head tail : List ℕ) → IsWhole before head tail → is_whole before head tail ≡ true
unfolding is_whole
tells_whole before head tail h = λ i.
    eq-eqb _ _ h.head_len i
    && (le-leb _ _ h.fits i
    && (eq-eqb _ _ h.tail_len i
    && (bytes_decides (drop (stated_len head) tail) (after before (made_of head tail))).1 h.digest i))

-- ---- a record that was written is read

-- the record that a head and a tail make, by its parts
pub made_is : (head tail digest : List ℕ) (r : Raw) → stated_len head ≡ length r.body → stated_kind head ≡ r.kind
    → tail ≡ r.body ++ digest → made_of head tail ≡ r
made_is head tail digest r len kind is =
    let body : take (stated_len head) tail ≡ r.body = (λ i. take (len i) (is i)) ∙ take_at r.body digest (length r.body) refl
    in
    λ i. record { kind = kind i; body = body i }

pub whole_from : (before head tail : List ℕ) (r : Raw) → length head ≡ 5 → stated_len head ≡ length r.body
    → stated_kind head ≡ r.kind → Fits r → tail ≡ r.body ++ after before r → IsWhole before head tail
whole_from before head tail r five len kind fits is = record {
  head_len = five;
  fits = omega (arith, len, fits);
  tail_len = omega (
    arith,
    len,
    ap length is,
    length-append r.body (after before r),
    link_len before r.kind r.body,
  );
  digest = (λ i. drop (len i) (is i)) ∙ drop_at r.body (after before r) (length r.body) refl
      ∙ ap (after before) (sym (made_is head tail (after before r) r len kind is));
}

from_parts : (before head tail rest : List ℕ) (r : Raw) → length head ≡ 5 → stated_len head ≡ length r.body
    → stated_kind head ≡ r.kind → Fits r → tail ≡ r.body ++ after before r
    → record_after before head (tail ++ rest) ≡ Some (r, rest)
from_parts before head tail rest r five len kind fits is =
    let whole = whole_from before head tail r five len kind fits is in
    let k = tail_len head in
    ap (λ (t : List ℕ). if is_whole before head t then Some (made_of head t, drop k (tail ++ rest)) else None)
    (take_at tail rest k whole.tail_len)
    ∙ ap (λ (b : Bool). if b then Some (made_of head tail, drop k (tail ++ rest)) else None)
    (tells_whole before head tail whole)
    ∙ (λ i. Some (made_is head tail (after before r) r len kind is i, drop_at tail rest k whole.tail_len i))

-- the first bytes of a record
abbrev pub head_of : Raw → List ℕ
head_of r = to_be_bytes w32 (length r.body) ++ (r.kind ∷ [])

regrouped : (a : List ℕ) (k : ℕ) (b d x : List ℕ)
    → ((a ++ (k ∷ b)) ++ d) ++ x ≡ (a ++ (k ∷ [])) ++ ((b ++ d) ++ x)
regrouped a k b d x = simp append_assoc

pub text_parts : (before : List ℕ) (r : Raw) (rest : List ℕ)
    → record_text before r ++ rest ≡ head_of r ++ ((r.body ++ after before r) ++ rest)
unfolding record_text
text_parts before r rest = regrouped (to_be_bytes w32 (length r.body)) r.kind r.body (after before r) rest

pub head_is_five : (r : Raw) → length (head_of r) ≡ 5
head_is_five r = omega (
  arith,
  length-append (to_be_bytes w32 (length r.body)) (r.kind ∷ []),
  len32 (length r.body),
)

pub head_states_len : (r : Raw) → Fits r → stated_len (head_of r) ≡ length r.body
head_states_len r fits =
    ap (from_be_bytes w32) (take_at (to_be_bytes w32 (length r.body)) (r.kind ∷ []) 4 (len32 (length r.body)))
    ∙ again32 (length r.body) (omega (arith, fits))

pub head_states_kind : (r : Raw) → stated_kind (head_of r) ≡ r.kind
head_states_kind r = refl

pub record_again : (before : List ℕ) (r : Raw) (rest : List ℕ) → Fits r
    → record_at before (record_text before r ++ rest) ≡ Some (r, rest)
record_again before r rest fits =
    let behind = (r.body ++ after before r) ++ rest in
    ap (record_at before) (text_parts before r rest)
    ∙ (λ i. record_after before (take_at (head_of r) behind 5 (head_is_five r) i)
    (drop_at (head_of r) behind 5 (head_is_five r) i))
    ∙ from_parts before (head_of r) (r.body ++ after before r) rest r (head_is_five r) (head_states_len r fits)
    (head_states_kind r) fits refl

pub text_len : (before : List ℕ) (r : Raw) → length (record_text before r) ≡ record_len r
unfolding record_text
text_len before r = omega (
  arith,
  length-append (undigested_text r.kind r.body) (after before r),
  length-append (to_be_bytes w32 (length r.body)) (r.kind ∷ r.body),
  len32 (length r.body),
  link_len before r.kind r.body,
)

-- ---- a record that is read was written

pub record Found (before bytes : List ℕ) (x : Raw × List ℕ) : Type 0 where
  pub whole : IsWhole before (take 5 bytes) (take (tail_len (take 5 bytes)) (drop 5 bytes))
  pub entry : made_of (take 5 bytes) (take (tail_len (take 5 bytes)) (drop 5 bytes)) ≡ x.0
  pub rest : drop (tail_len (take 5 bytes)) (drop 5 bytes) ≡ x.1

module _ (before bytes : List ℕ) (x : Raw × List ℕ) where
  abbrev head_at : List ℕ
  head_at = take 5 bytes

  abbrev tail_at : List ℕ
  tail_at = take (tail_len head_at) (drop 5 bytes)

  abbrev judged : Bool → Option (Raw × List ℕ)
  judged b = if b then Some (made_of head_at tail_at, drop (tail_len head_at) (drop 5 bytes)) else None

  found_by : (b : Bool) → is_whole before head_at tail_at ≡ b → record_at before bytes ≡ Some x
      → Found before bytes x
  found_by true t is =
      let h : judged true ≡ Some x = sym (ap judged t) ∙ is in
      let same : (made_of head_at tail_at, drop (tail_len head_at) (drop 5 bytes)) ≡ x = cc h in
      record {
        whole = told_whole before head_at tail_at t;
        entry = ap (λ (p : Raw × List ℕ). p.0) same;
        rest = ap (λ (p : Raw × List ℕ). p.1) same;
      }
  found_by false t is = let h : judged false ≡ Some x = sym (ap judged t) ∙ is in absurd (cc h)

  pub found : record_at before bytes ≡ Some x → Found before bytes x
  found e = found_by (is_whole before head_at tail_at) refl e

-- a record has some bytes
pub found_len : (before bytes : List ℕ) (x : Raw × List ℕ) → record_at before bytes ≡ Some x
    → length x.1 + 13 ≤ length bytes
found_len before bytes x e =
    let f = found before bytes x e in
    let behind = drop 5 bytes in
    let k = tail_len (take 5 bytes) in
    omega (
      arith,
      f.whole.head_len,
      f.whole.tail_len,
      ap length f.rest,
      length-take 5 bytes,
      length-drop 5 bytes,
      length-take k behind,
      length-drop k behind,
    )

five_of : (h : List ℕ) → length h ≡ 5 → h ≡ take 4 h ++ (get_or h 4 0 ∷ [])
five_of [] l = absurd (omega arith)
five_of (a ∷ []) l = absurd (omega arith)
five_of (a ∷ b ∷ []) l = absurd (omega arith)
five_of (a ∷ b ∷ c ∷ []) l = absurd (omega arith)
five_of (a ∷ b ∷ c ∷ d ∷ []) l = absurd (omega arith)
five_of (a ∷ b ∷ c ∷ d ∷ e ∷ []) l = refl
five_of (a ∷ b ∷ c ∷ d ∷ e ∷ f ∷ h) l = absurd (omega arith)

pub head_back : (head : List ℕ) (r : Raw) → AreBytes head → length head ≡ 5 → stated_len head ≡ length r.body
    → stated_kind head ≡ r.kind → head ≡ head_of r
head_back head r fits five len kind =
    let four : length (take 4 head) ≡ 4 = omega (arith, five, length-take 4 head) in
    five_of head five
    ∙ (λ i. sym (back32 (take 4 head) four (AreBytes-take 4 head fits)) i ++ (kind i ∷ []))
    ∙ ap (λ (n : ℕ). to_be_bytes w32 n ++ (r.kind ∷ [])) len

pub record Taken (before bytes : List ℕ) (x : Raw × List ℕ) : Type 0 where
  pub text : bytes ≡ record_text before x.0 ++ x.1
  pub entry : Fits x.0
  pub rest_fits : AreBytes x.1

pub record_taken : (before bytes : List ℕ) (x : Raw × List ℕ) → AreBytes bytes → record_at before bytes ≡ Some x
    → Taken before bytes x
record_taken before bytes x fits e =
    let f = found before bytes x e in
    let head = take 5 bytes in
    let behind = drop 5 bytes in
    let k = tail_len head in
    let tail = take k behind in
    let n = stated_len head in
    let body : take n tail ≡ x.0.body = ap (λ (r : Raw). r.body) f.entry in
    let kind : stated_kind head ≡ x.0.kind = ap (λ (r : Raw). r.kind) f.entry in
    let len : n ≡ length x.0.body = omega (arith, ap length body, length-take n tail, f.whole.tail_len) in
    let digest : drop n tail ≡ after before x.0 = f.whole.digest ∙ ap (after before) f.entry in
    let tail_is : tail ≡ x.0.body ++ after before x.0 = sym (take-append-drop n tail) ∙ (λ i. body i ++ digest i) in
    let behind_is : behind ≡ (x.0.body ++ after before x.0) ++ x.1 = sym (take-append-drop k behind)
    ∙ (λ i. tail_is i ++ f.rest i) in
    let head_is = head_back head x.0 (AreBytes-take 5 bytes fits) f.whole.head_len len kind in
    record {
      text = sym (take-append-drop 5 bytes) ∙ (λ i. head_is i ++ behind_is i) ∙ sym (text_parts before x.0 x.1);
      entry = omega (arith, len, f.whole.fits);
      rest_fits = subst AreBytes f.rest (AreBytes-drop k behind (AreBytes-drop 5 bytes fits));
    }

-- ---- a record that is cut is none

pub no_head : (before bytes : List ℕ) → length bytes < 5 → record_at before bytes ≡ None
unfolding is_whole
no_head before bytes few =
    let head = take 5 bytes in
    let short : (length head == 5) ≡ false = ne_eqb (length head) 5 (λ e. absurd (omega (arith, e, few, length-take 5 bytes)))
    in
    let tail = take (tail_len head) (drop 5 bytes) in
    ap (λ (b : Bool). if b && (nat_le (stated_len head) MAX_BODY_LEN && ((length tail == tail_len head)
    && pointwise nat_eq (drop (stated_len head) tail) (after before (made_of head tail))))
    then Some (made_of head tail, drop (tail_len head) (drop 5 bytes)) else None) short

pub no_tail : (before head rest : List ℕ) → length rest < tail_len head → record_after before head rest ≡ None
unfolding is_whole
no_tail before head rest few =
    let tail = take (tail_len head) rest in
    let short : (length tail == tail_len head) ≡ false = ne_eqb (length tail) (tail_len head)
    (λ e. absurd (omega (arith, e, few, length-take (tail_len head) rest))) in
    ap (λ (b : Bool). if b then Some (made_of head tail, drop (tail_len head) rest) else None)
    (no_third (length head == 5) (nat_le (stated_len head) MAX_BODY_LEN) (length tail == tail_len head)
    (pointwise nat_eq (drop (stated_len head) tail) (after before (made_of head tail))) short)

no_rest : (l : List ℕ) → l ≡ l ++ []
no_rest l = sym (append-nil l)

module _ (before prefix more : List ℕ) (r : Raw) (fits : Fits r) (is : prefix ++ more ≡ record_text before r)
    (some : 1 ≤ length more) where
  abbrev whole : List ℕ
  whole = head_of r ++ ((r.body ++ after before r) ++ [])

  whole_text : prefix ++ more ≡ whole
  whole_text = is ∙ no_rest (record_text before r) ∙ text_parts before r []

  cut_by : (b : Bool) → ltb (length prefix) 5 ≡ b → record_at before prefix ≡ None
  cut_by true t = no_head before prefix (ltb-true _ _ t)
  cut_by false t =
      let long : 5 ≤ length prefix = ltb-false _ _ t in
      let head : take 5 prefix ≡ head_of r = sym (take-append-le 5 prefix more long) ∙ ap (take 5) whole_text
      ∙ take_at (head_of r) ((r.body ++ after before r) ++ []) 5 (head_is_five r) in
      let says : tail_len (take 5 prefix) ≡ length r.body + 8 = ap tail_len head ∙ ap (λ (n : ℕ). n + 8)
      (head_states_len r fits) in
      no_tail before (take 5 prefix) (drop 5 prefix) (omega (
        arith,
        says,
        some,
        ap length is,
        text_len before r,
        length-append prefix more,
        length-drop 5 prefix,
      ))

  pub prefix_is_none : record_at before prefix ≡ None
  prefix_is_none = cut_by (ltb (length prefix) 5) refl
