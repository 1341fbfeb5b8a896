-- One step of a reading from a stream.
use Rattle.std.proofs.Common.{◌≡◌, ℕ, ◌+◌, ◌-◌, ◌<◌, ◌≤◌, Bool, true, false, ltb, List, [], ◌++◌, length, take, drop, Option, None, Some, IfSome, Result, Ok, Err, refl, sym, ap, subst, ◌∙◌, append-nil, arith}
use Rattle.std.specs.Prelude.{nat_le, nat_eq, ◌&&◌, ◌==◌, if◌then◌else◌}
use Rattle.std.specs.Cmp.Lexicographic.{pointwise}
use Rattle.std.specs.Io.KnownBytes.{Consumes, IsAtEnd}
use Rattle.std.proofs.KnownBytes.{Consumes-trans}
use Rattle.rr_io.specs.Stream.{ConsumesSome}
use Rattle.std.proofs.lemmas.Bool.{ltb-true, ltb-false, lt-ltb, le-ltb, lt-leb, le-leb, eq-eqb}
use Rattle.std.proofs.lemmas.List.{length-append, length-take, length-drop, take_at, drop_at, take_all, nil_from_length}
use Rattle.rr_journal.specs.declared.fault.JournalFault.{JournalFault}
use Rattle.rr_journal.specs.declared.fault.JournalFault.TheVariants.{TooLong, BadDigest}
use Rattle.rr_journal.specs.declared.raw.TheConstants.{MAX_BODY_LEN}
use Rattle.rr_journal.specs.declared.step.Step.{Step}
use Rattle.rr_journal.specs.declared.step.Step.TheVariants.{Whole}
use Rattle.rr_journal.specs.declared.raw.RawRecord.{RawRecord}
use Rattle.rr_journal.specs.Digest.{link}
use Rattle.rr_journal.specs.Text.{Raw, raw_of, after}
use Rattle.rr_journal.specs.Reading.{stated_len, stated_kind, tail_len, made_of, is_whole, record_after, record_at, fault_at, stop_at, stop_before}
use Rattle.rr_journal.specs.Stream.{IsStep, OwnDigest, StepsTo, StopsAfter}
use Rattle.rr_journal.proofs.ReadingLemmas.{few_same}
use Rattle.rr_journal.proofs.RecordLemmas.{no_head, no_tail}

-- so many bytes were taken, or all that there were
abbrev pub TakesPrefix : ℕ → Option (List ℕ) → Option (List ℕ) → List ℕ → Type 0
TakesPrefix n old new prefix = IfSome old (λ all. (prefix ≡ take n all) × (new ≡ Some (drop n all)))

pub takes_prefix : (n : ℕ) (old new : Option (List ℕ)) (prefix : List ℕ) → Consumes old new prefix → length prefix ≤ n
    → (length prefix < n → IsAtEnd new) → TakesPrefix n old new prefix
takes_prefix n None new prefix c le end = tt
takes_prefix n (Some all) None prefix c le end = absurd c
takes_prefix n (Some all) (Some rest) prefix c le end = by_len (ltb (length prefix) n) refl
  where
    by_len : (b : Bool) → ltb (length prefix) n ≡ b → (prefix ≡ take n all) × (Some rest ≡ Some (drop n all))
    by_len true t =
        let none : rest ≡ [] = end (ltb-true _ _ t) in
        let is : all ≡ prefix = c ∙ ap (λ (l : List ℕ). prefix ++ l) none ∙ append-nil prefix in
        let few : length all ≤ n = omega (arith, ap length is, le) in
        let nothing : drop n all ≡ [] = nil_from_length (drop n all) (omega (arith, few, length-drop n all)) in
        (sym is ∙ sym (take_all n all few), ap (λ (l : List ℕ). Some l) (none ∙ sym nothing))
    by_len false t =
        let len : length prefix ≡ n = omega (arith, le, ltb-false _ _ t) in (
          sym (take_at prefix rest n len) ∙ ap (take n) (sym c),
          ap (λ (l : List ℕ). Some l) (sym (drop_at prefix rest n len) ∙ ap (drop n) (sym c)),
        )

-- ---- where no record is

abbrev pub NoneAt : List ℕ → Option (List ℕ) → Type 0
NoneAt before old = IfSome old (λ all. record_at before all ≡ None)

-- a fault is the one that many bytes are refused with
abbrev pub Tells : JournalFault → Option (List ℕ) → Type 0
Tells fault old = IfSome old (λ all. stop_at fault (length all) ≡ stop_before all)

pub stops_with : {E : Type 0} (before : List ℕ) (old mid new : Option (List ℕ)) (taken : List ℕ) (n : ℕ)
    (fault : JournalFault) (r : Result Step E) → Consumes old mid taken → n ≡ length taken → NoneAt before old
    → Tells fault old → StopsAfter fault n mid r → StepsTo before old new r
stops_with before old mid new taken n fault (Err other) c len none tells stop = tt
stops_with before None mid new taken n fault (Ok step) c len none tells stop = tt
stops_with before (Some all) None new taken n fault (Ok step) c len none tells stop = absurd c
stops_with before (Some all) (Some left) new taken n fault (Ok step) c len none tells stop =
    let many : n + length left ≡ length all = omega (arith, len, ap length c, length-append taken left) in
    subst (λ (s : Step). IsStep before s new all) (sym stop)
    (none, ap (stop_at fault) many ∙ tells)

-- of few bytes none is told
short_tells : (fault : JournalFault) (old new : Option (List ℕ)) (head : List ℕ) → TakesPrefix 5 old new head
    → length head < 5 → Tells fault old
short_tells fault None new head f few = tt
short_tells fault (Some all) new head f few = few_same fault (fault_at all) (length all)
    (omega (arith, few, ap length f.0, length-take 5 all))

-- by the length that is stated
long_tells : (old new : Option (List ℕ)) (head : List ℕ) → TakesPrefix 5 old new head → MAX_BODY_LEN < stated_len head
    → Tells TooLong old
long_tells None new head f long = tt
long_tells (Some all) new head f long =
    let is : stated_len head ≡ stated_len (take 5 all) = ap stated_len f.0 in
    ap (λ (b : Bool). stop_at (if b then TooLong else BadDigest) (length all))
    (sym (lt-ltb MAX_BODY_LEN (stated_len (take 5 all)) (omega (arith, is, long))))

fitting_tells : (old new : Option (List ℕ)) (head : List ℕ) → TakesPrefix 5 old new head
    → stated_len head ≤ MAX_BODY_LEN → Tells BadDigest old
fitting_tells None new head f fits = tt
fitting_tells (Some all) new head f fits =
    let is : stated_len head ≡ stated_len (take 5 all) = ap stated_len f.0 in
    ap (λ (b : Bool). stop_at (if b then TooLong else BadDigest) (length all))
    (sym (le-ltb MAX_BODY_LEN (stated_len (take 5 all)) (omega (arith, is, fits))))

short_head : (before : List ℕ) (old new : Option (List ℕ)) (head : List ℕ) → TakesPrefix 5 old new head
    → length head < 5 → NoneAt before old
short_head before None new head f few = tt
short_head before (Some all) new head f few = no_head before all (omega (
  arith,
  few,
  ap length f.0,
  length-take 5 all,
))

pub no_whole_head : (before : List ℕ) (old new : Option (List ℕ)) (head : List ℕ) → TakesPrefix 5 old new head
    → length head < 5 → NoneAt before old
no_whole_head before old new head f few = short_head before old new head f few

too_long : (before head rest : List ℕ) → MAX_BODY_LEN < stated_len head → record_after before head rest ≡ None
unfolding is_whole
too_long before head rest long =
    let tail = take (tail_len head) rest in
    ap (λ (b : Bool). if b then Some (made_of head tail, drop (tail_len head) rest) else None)
    (no_second (length head == 5) (nat_le (stated_len head) MAX_BODY_LEN) ((length tail == tail_len head)
    && pointwise nat_eq (drop (stated_len head) tail) (after before (made_of head tail))) (lt-leb _ _ long))
  where
    no_second : (a b c : Bool) → b ≡ false → (a && (b && c)) ≡ false
    no_second true b c e = ap (λ (x : Bool). x && c) e
    no_second false b c e = refl

pub too_long_there : (before : List ℕ) (old new : Option (List ℕ)) (head : List ℕ) → TakesPrefix 5 old new head
    → MAX_BODY_LEN < stated_len head → NoneAt before old
too_long_there before None new head f long = tt
too_long_there before (Some all) new head f long =
    too_long before (take 5 all) (drop 5 all) (subst (λ (h : List ℕ). MAX_BODY_LEN < stated_len h) f.0 long)

-- ---- where a head is there, whole

module _ (before : List ℕ) (old mid new : Option (List ℕ)) (head tail : List ℕ) where
  pub no_whole_tail : TakesPrefix 5 old mid head → TakesPrefix (tail_len head) mid new tail
      → length tail < tail_len head → NoneAt before old
  no_whole_tail f g few = by_known old mid f g
    where
      by_known : (o m : Option (List ℕ)) → TakesPrefix 5 o m head → TakesPrefix (tail_len head) m new tail
          → NoneAt before o
      by_known None m p q = tt
      by_known (Some all) None p q = absurd (cc p.1)
      by_known (Some all) (Some rest) p q =
          let is : rest ≡ drop 5 all = cc p.1 in
          let len : length tail ≡ length (take (tail_len head) rest) = ap length q.0 in
          let small : length rest < tail_len head = omega (arith, len, few, length-take (tail_len head) rest) in
          ap (λ (h : List ℕ). record_after before h (drop 5 all)) (sym p.0)
          ∙ ap (record_after before head) (sym is) ∙ no_tail before head rest small

  pub no_digest : TakesPrefix 5 old mid head → TakesPrefix (tail_len head) mid new tail
      → is_whole before head tail ≡ false → NoneAt before old
  no_digest f g other = by_known old mid f g
    where
      by_known : (o m : Option (List ℕ)) → TakesPrefix 5 o m head → TakesPrefix (tail_len head) m new tail
          → NoneAt before o
      by_known None m p q = tt
      by_known (Some all) None p q = absurd (cc p.1)
      by_known (Some all) (Some behind) p q =
          let is : behind ≡ drop 5 all = cc p.1 in
          let k = tail_len head in
          ap (λ (h : List ℕ). record_after before h (drop 5 all)) (sym p.0)
          ∙ ap (record_after before head) (sym is)
          ∙ ap (λ (t : List ℕ). if is_whole before head t then Some (made_of head t, drop k behind) else None) (sym q.0)
          ∙ ap (λ (b : Bool). if b then Some (made_of head tail, drop k behind) else None) other

  -- a whole record was read
  pub whole_step : TakesPrefix 5 old mid head → TakesPrefix (tail_len head) mid new tail → is_whole before head tail ≡ true
      → IfSome old (λ all. (rest : List ℕ) × (new ≡ Some rest) × (record_at before all ≡ Some (made_of head tail, rest)))
  whole_step f g whole = by_known old mid f g
    where
      by_known : (o m : Option (List ℕ)) → TakesPrefix 5 o m head → TakesPrefix (tail_len head) m new tail
          → IfSome o (λ all. (rest : List ℕ) × (new ≡ Some rest)
          × (record_at before all ≡ Some (made_of head tail, rest)))
      by_known None m p q = tt
      by_known (Some all) None p q = absurd (cc p.1)
      by_known (Some all) (Some behind) p q =
          let is : behind ≡ drop 5 all = cc p.1 in
          let k = tail_len head in (
            drop k behind,
            q.1,
            ap (λ (h : List ℕ). record_after before h (drop 5 all)) (sym p.0)
                ∙ ap (record_after before head) (sym is)
                ∙ ap (λ (t : List ℕ). if is_whole before head t then Some (made_of head t, drop k behind) else None)
                (sym q.0)
                ∙ ap (λ (b : Bool). if b then Some (made_of head tail, drop k behind) else None)
                whole,
          )

-- the digest of a head and a tail that are whole but for it
pub own_is : (before head tail body digest own : List ℕ) (b : Bool) → length head ≡ 5 → stated_len head ≤ MAX_BODY_LEN
    → length tail ≡ tail_len head → body ≡ take (stated_len head) tail → digest ≡ drop (stated_len head) tail
    → own ≡ link before (stated_kind head) body → pointwise nat_eq digest own ≡ b → is_whole before head tail ≡ b
unfolding is_whole
own_is before head tail body digest own b five fits whole body_is digest_is same test =
    let own_too : own ≡ after before (made_of head tail) = same ∙ ap (link before (stated_kind head)) body_is in
    (λ i. eq-eqb _ _ five i && (le-leb _ _ fits i && (eq-eqb _ _ whole i
    && pointwise nat_eq (sym digest_is i) (sym own_too i)))) ∙ test

module _ (before head tail cut own shown : List ℕ) (len : ℕ) (len_is : len ≡ stated_len head)
    (own_of : own ≡ link before (stated_kind head) (take len tail)) where
  pub own_told : (b r : Bool) → length head ≡ 5 → stated_len head ≤ MAX_BODY_LEN → length tail ≡ tail_len head
      → cut ≡ take (length tail - len) (drop len tail) → shown ≡ own → r ≡ pointwise nat_eq cut shown → r ≡ b
      → is_whole before head tail ≡ b
  own_told b r five fits whole cut_is shown_is r_is test =
      let rest : take (length tail - len) (drop len tail) ≡ drop len tail = take_all (length tail - len) (drop len tail)
      (omega (arith, length-drop len tail)) in
      own_is before head tail (take len tail) cut own b five fits whole (ap (λ (n : ℕ). take n tail) len_is)
      (cut_is ∙ rest ∙ ap (λ (n : ℕ). drop n tail) len_is) own_of
      ((λ i. pointwise nat_eq cut (sym shown_is i)) ∙ sym r_is ∙ test)

  pub own_after : own ≡ after before (made_of head tail)
  own_after = own_of ∙ ap (λ (n : ℕ). link before (stated_kind head) (take n tail)) len_is

pub read_then : (a b c : Option (List ℕ)) → ConsumesSome a b → ConsumesSome b c → ConsumesSome a c
read_then a b c p q = (p.0 ++ q.0, Consumes-trans a b c p.0 q.0 p.1 q.1)

-- ---- the exits of a step

module _ (before : List ℕ) (old mid : Option (List ℕ)) (buf : List ℕ) (filled : ℕ) (five : length buf ≡ 5)
    (bytes : Consumes old mid (take filled buf)) (bound : filled ≤ length buf)
    (end : filled < length buf → IsAtEnd mid) where
  prefix_len : length (take filled buf) ≡ filled
  prefix_len = omega (arith, length-take filled buf, bound)

  prefix_taken : TakesPrefix 5 old mid (take filled buf)
  prefix_taken = takes_prefix 5 old mid (take filled buf) bytes (omega (arith, prefix_len, bound, five))
      (λ lt. end (omega (arith, prefix_len, five, lt)))

  pub head_short : {E : Type 0} (new : Option (List ℕ)) (r : Result Step E) → filled < 5
      → StopsAfter BadDigest filled mid r → StepsTo before old new r
  head_short new r few stop =
      let len : length (take filled buf) < 5 = omega (arith, prefix_len, few) in
      stops_with before old mid new (take filled buf) filled BadDigest r bytes (sym prefix_len)
      (no_whole_head before old mid (take filled buf) prefix_taken len)
      (short_tells BadDigest old mid (take filled buf) prefix_taken len) stop

  module _ (all_there : 5 ≤ filled) where
    whole_head : take filled buf ≡ buf
    whole_head = take_all filled buf (omega (arith, five, all_there))

    head_taken : TakesPrefix 5 old mid buf
    head_taken = subst (TakesPrefix 5 old mid) whole_head prefix_taken

    head_bytes : Consumes old mid buf
    head_bytes = subst (Consumes old mid) whole_head bytes

    pub head_long : {E : Type 0} (new : Option (List ℕ)) (r : Result Step E) (len : ℕ) → len ≡ stated_len buf
        → MAX_BODY_LEN < len → StopsAfter TooLong 5 mid r → StepsTo before old new r
    head_long new r len is long stop =
        let over : MAX_BODY_LEN < stated_len buf = omega (arith, is, long) in
        stops_with before old mid new buf 5 TooLong r head_bytes (sym five)
        (too_long_there before old mid buf head_taken over) (long_tells old mid buf head_taken over) stop

    module _ (left : Option (List ℕ)) (tail : List ℕ) (taken : Consumes mid left tail)
        (most : length tail ≤ tail_len buf) (ends : length tail < tail_len buf → IsAtEnd left)
        (fits : stated_len buf ≤ MAX_BODY_LEN) where
      tail_taken : TakesPrefix (tail_len buf) mid left tail
      tail_taken = takes_prefix (tail_len buf) mid left tail taken most ends

      both_taken : Consumes old left (buf ++ tail)
      both_taken = Consumes-trans old mid left buf tail head_bytes taken

      both_len : 5 + length tail ≡ length (buf ++ tail)
      both_len = omega (arith, five, length-append buf tail)

      pub tail_short : {E : Type 0} (new : Option (List ℕ)) (r : Result Step E) → length tail < tail_len buf
          → StopsAfter BadDigest (5 + length tail) left r → StepsTo before old new r
      tail_short new r few stop = stops_with before old left new (buf ++ tail) (5 + length tail) BadDigest r both_taken
          both_len (no_whole_tail before old mid left buf tail head_taken tail_taken few)
          (fitting_tells old mid buf head_taken fits) stop

      pub tail_other : {E : Type 0} (new : Option (List ℕ)) (r : Result Step E) → is_whole before buf tail ≡ false
          → StopsAfter BadDigest (5 + length tail) left r → StepsTo before old new r
      tail_other new r other stop = stops_with before old left new (buf ++ tail) (5 + length tail) BadDigest r both_taken
          both_len (no_digest before old mid left buf tail head_taken tail_taken other)
          (fitting_tells old mid buf head_taken fits) stop

      pub tail_whole : (r : RawRecord) → is_whole before buf tail ≡ true → raw_of r ≡ made_of buf tail
          → IfSome old (λ all. IsStep before (Whole r) left all)
      tail_whole r whole is = by_known old (whole_step before old mid left buf tail head_taken tail_taken whole)
        where
          by_known : (o : Option (List ℕ)) → IfSome o (λ all. (rest : List ℕ) × (left ≡ Some rest)
              × (record_at before all ≡ Some (made_of buf tail, rest)))
              → IfSome o (λ all. IsStep before (Whole r) left all)
          by_known None h = tt
          by_known (Some all) h = (
            h.0,
            h.1,
            h.2 ∙ ap (λ (e : Raw). Some (e, h.0)) (sym is),
          )

-- ---- whether a digest was given

pub none_own : (before head tail : List ℕ) (o : Option (List ℕ)) → OwnDigest before head tail o
    → ((d : List ℕ) → o ≡ Some d → ⊥) → is_whole before head tail ≡ false
none_own before head tail None told none = told
none_own before head tail (Some d) told none = absurd (none d refl)

pub some_own : (before head tail : List ℕ) (o : Option (List ℕ)) (d : List ℕ) → OwnDigest before head tail o
    → o ≡ Some d → (is_whole before head tail ≡ true) × (d ≡ after before (made_of head tail))
some_own before head tail None d told e = absurd (cc e)
some_own before head tail (Some own) d told e =
    let is : own ≡ d = cc e in
    (told.0, sym is ∙ told.1)
