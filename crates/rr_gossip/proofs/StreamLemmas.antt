-- Frames at the beginning of bytes.
use Rattle.std.proofs.Common.{◌≡◌, ℕ, ◌+◌, ◌<◌, ◌≤◌, Bool, true, false, List, [], ◌++◌, length, take, drop, Ok, Err, refl, sym, ap, ◌∙◌, inl, inr, arith, take_at, drop_at, append_assoc, subst, Option}
use Rattle.std.specs.Prelude.{nat_lt, Result, if◌then◌else◌, OnOk, IfErr}
use Rattle.std.proofs.KnownBytes.{Consumes-trans}
use Rattle.std.proofs.Math.Seq.{take-length}
use Rattle.std.specs.Int.{w32, from_be_bytes}
use Rattle.std.proofs.lemmas.Bool.{ltb-false, ltb-true, le-ltb, lt-ltb}
use Rattle.std.proofs.lemmas.List.{append-nil, length-append, length-drop, nil_from_length}
use Rattle.rr_text.specs.Results.{◌>>=◌, unless}
use Rattle.rr_page.specs.declared.fault.PageFault.{PageFault}
use Rattle.rr_page.specs.declared.fault.PageFault.TheVariants.{Short}
use Rattle.rr_page.specs.Reading.{number_at}
use Rattle.rr_gossip.specs.declared.fault.GossipFault.{GossipFault}
use Rattle.rr_gossip.specs.declared.fault.GossipFault.TheVariants.{Ended, FrameTooLong}
use Rattle.rr_gossip.specs.declared.frame.TheConstants.{MAX_FRAME_LEN}
use Rattle.rr_gossip.specs.Stream.{content_from, frame_at, BreaksOff, Grows, IsFrame, ReadsFewer}

-- ---- lengths

pub number_short : (bytes : List ℕ) → length bytes < 4 → number_at w32 bytes ≡ Err Short
number_short bytes few = ap (λ b. unless Short b (Ok (take 4 bytes, drop 4 bytes)) >>= λ (field : List ℕ × List ℕ). Ok
    (from_be_bytes w32 field.0, field.1)) (lt-ltb (length bytes) 4 few)

pub number_long : (bytes : List ℕ) → 4 ≤ length bytes
    → number_at w32 bytes ≡ Ok (from_be_bytes w32 (take 4 bytes), drop 4 bytes)
number_long bytes many = ap (λ b. unless Short b (Ok (take 4 bytes, drop 4 bytes)) >>= λ (field : List ℕ × List ℕ). Ok
    (from_be_bytes w32 field.0, field.1)) (le-ltb (length bytes) 4 many)

number_of : Result (ℕ × List ℕ) PageFault → ℕ
number_of (Ok x) = x.0
number_of (Err fault) = 0

-- a length, and more after it
number_grown : (word more : List ℕ) (n : ℕ) → length word ≡ 4 → number_at w32 word ≡ Ok (n, [])
    → number_at w32 (word ++ more) ≡ Ok (n, more)
unfolding number_of
number_grown word more n four is =
    let n_is : n ≡ from_be_bytes w32 (take 4 word) = ap number_of (sym is ∙ number_long word (omega (arith, four))) in
    number_long (word ++ more) (omega (arith, length-append word more, four))
    ∙ (λ i. Ok (from_be_bytes w32 (same i), drop_at word more 4 four i))
    ∙ ap (λ k. Ok (k, more)) (sym n_is)
  where
    same : take 4 (word ++ more) ≡ take 4 word
    same = take_at word more 4 four ∙ sym (ap (take 4) (sym (append-nil word)) ∙ take_at word [] 4 four)

-- ---- frames

pub drop_past : (n : ℕ) (xs : List ℕ) → length xs ≤ n → drop n xs ≡ []
drop_past n xs few = nil_from_length (drop n xs) (omega (arith, length-drop n xs))

pub frame_short : (bytes : List ℕ) → length bytes < 4 → frame_at bytes ≡ (Err Ended, [])
unfolding frame_at
frame_short bytes few = ap content_from (number_short bytes few)

pub frame_long : (bytes : List ℕ) (n : ℕ) (rest : List ℕ) → number_at w32 bytes ≡ Ok (n, rest) → MAX_FRAME_LEN < n
    → frame_at bytes ≡ (Err FrameTooLong, rest)
unfolding frame_at
frame_long bytes n rest is long =
    ap content_from is ∙ ap (λ b. if b then (Err FrameTooLong, rest) else if nat_lt (length rest) n then
    (Err Ended, []) else (Ok (take n rest), drop n rest)) (lt-ltb MAX_FRAME_LEN n long)

pub frame_fits : (bytes : List ℕ) (n : ℕ) (rest : List ℕ) → number_at w32 bytes ≡ Ok (n, rest) → n ≤ MAX_FRAME_LEN
    → frame_at bytes ≡ (if nat_lt (length rest) n then (Err Ended, []) else (Ok (take n rest), drop n rest))
unfolding frame_at
frame_fits bytes n rest is fits =
    ap content_from is ∙ ap (λ b. if b then (Err FrameTooLong, rest) else if nat_lt (length rest) n then
    (Err Ended, []) else (Ok (take n rest), drop n rest)) (le-ltb MAX_FRAME_LEN n fits)

frame_cut : (bytes : List ℕ) (n : ℕ) (rest : List ℕ) → number_at w32 bytes ≡ Ok (n, rest) → n ≤ MAX_FRAME_LEN
    → length rest < n → frame_at bytes ≡ (Err Ended, [])
frame_cut bytes n rest is fits few =
    frame_fits bytes n rest is fits ∙ ap (λ b. if b then (Err Ended, []) else (Ok (take n rest), drop n rest))
    (lt-ltb (length rest) n few)

pub frame_there : (bytes : List ℕ) (n : ℕ) (rest : List ℕ) → number_at w32 bytes ≡ Ok (n, rest) → n ≤ MAX_FRAME_LEN
    → n ≤ length rest → frame_at bytes ≡ (Ok (take n rest), drop n rest)
frame_there bytes n rest is fits many =
    frame_fits bytes n rest is fits ∙ ap (λ b. if b then (Err Ended, []) else (Ok (take n rest), drop n rest))
    (le-ltb (length rest) n many)

abbrev pub choice : Bool → List ℕ → List ℕ → Result (List ℕ) GossipFault × List ℕ
choice b content rest = if b then (Err Ended, []) else (Ok content, rest)

-- nothing is behind as many bytes as a length has, or as it says
nothing_behind_length : (bytes : List ℕ) → length bytes ≤ 4 → (frame_at bytes).1 ≡ []
nothing_behind_length bytes few = by_len (nat_lt (length bytes) 4) refl
  where
    by_size : (n : ℕ) → number_at w32 bytes ≡ Ok (n, []) → (b : Bool) → nat_lt MAX_FRAME_LEN n ≡ b
        → (frame_at bytes).1 ≡ []
    by_size n is true long = ap (λ (x : Result (List ℕ) GossipFault × List ℕ). x.1)
        (frame_long bytes n [] is (ltb-true MAX_FRAME_LEN n long))
    by_size n is false fits =
        ap (λ (x : Result (List ℕ) GossipFault × List ℕ). x.1)
        (frame_fits bytes n [] is (ltb-false MAX_FRAME_LEN n fits))
        ∙ (elim (nat_lt 0 n) as (λ b. (choice b (take n []) (drop n [])).1 ≡ [])
        [ true ↦ refl | false ↦ drop_past n [] (omega arith) ])

    by_len : (b : Bool) → nat_lt (length bytes) 4 ≡ b → (frame_at bytes).1 ≡ []
    by_len true short = ap (λ (x : Result (List ℕ) GossipFault × List ℕ). x.1)
        (frame_short bytes (ltb-true (length bytes) 4 short))
    by_len false four =
        let many = ltb-false (length bytes) 4 four in
        by_size (from_be_bytes w32 (take 4 bytes)) (number_long bytes many
        ∙ ap (λ r. Ok (from_be_bytes w32 (take 4 bytes), r)) (drop_past 4 bytes few))
        (nat_lt MAX_FRAME_LEN (from_be_bytes w32 (take 4 bytes))) refl

nothing_behind_content : (bytes : List ℕ) (n : ℕ) (rest : List ℕ) → number_at w32 bytes ≡ Ok (n, rest)
    → n ≤ MAX_FRAME_LEN → length rest ≤ n → (frame_at bytes).1 ≡ []
nothing_behind_content bytes n rest is fits few =
    ap (λ (x : Result (List ℕ) GossipFault × List ℕ). x.1) (frame_fits bytes n rest is fits)
    ∙ (elim (nat_lt (length rest) n) as (λ b. (choice b (take n rest) (drop n rest)).1 ≡ [])
    [ true ↦ refl | false ↦ drop_past n rest few ])

-- ---- a read that stops

breaks_off : (bytes : List ℕ) (fault : GossipFault) (got asked : ℕ) → (frame_at bytes).1 ≡ []
    → (got < asked → frame_at bytes ≡ (Err Ended, [])) → ReadsFewer fault got asked → BreaksOff bytes fault
breaks_off bytes fault got asked none cut (inl memory) = record { nothing_behind = none; why = inl memory }
breaks_off bytes fault got asked none cut (inr (inl failed, few)) =
    record {
      nothing_behind = none;
      why = inr (inl
          (failed, ap (λ (x : Result (List ℕ) GossipFault × List ℕ). x.0) (cut few)));
    }
breaks_off bytes fault got asked none cut (inr (inr ended, few)) =
    record {
      nothing_behind = none;
      why = inr (inr
          (ap (λ (x : Result (List ℕ) GossipFault × List ℕ). x.0) (cut few) ∙ ap Err (sym ended)));
    }

-- inside its length
pub breaks_off_length : (bytes : List ℕ) (fault : GossipFault) → length bytes ≤ 4 → ReadsFewer fault (length bytes) 4
    → BreaksOff bytes fault
breaks_off_length bytes fault few reads = breaks_off bytes fault (length bytes) 4 (nothing_behind_length bytes few)
    (frame_short bytes) reads

-- after a length that is too great
pub breaks_off_long : (word : List ℕ) (n : ℕ) → number_at w32 word ≡ Ok (n, []) → MAX_FRAME_LEN < n
    → BreaksOff word FrameTooLong
breaks_off_long word n is long =
    let e = frame_long word n [] is long in
    record {
      nothing_behind = ap (λ (x : Result (List ℕ) GossipFault × List ℕ). x.1) e;
      why =
          inr (inr (ap (λ (x : Result (List ℕ) GossipFault × List ℕ). x.0) e));
    }

-- inside its content
pub breaks_off_content : (word more : List ℕ) (n : ℕ) (fault : GossipFault) → length word ≡ 4
    → number_at w32 word ≡ Ok (n, []) → n ≤ MAX_FRAME_LEN → length (word ++ more) ≤ 4 + n
    → ReadsFewer fault (length (word ++ more)) (4 + n) → BreaksOff (word ++ more) fault
breaks_off_content word more n fault four is fits few reads =
    let grown = number_grown word more n four is in
    let len = length-append word more in
    breaks_off (word ++ more) fault (length (word ++ more)) (4 + n)
    (nothing_behind_content (word ++ more) n more grown fits (omega (arith, len, four, few)))
    (λ lt. frame_cut (word ++ more) n more grown fits (omega (arith, len, four, lt))) reads

-- all of it is there
pub frame_read_whole : (word more : List ℕ) (n : ℕ) → length word ≡ 4 → number_at w32 word ≡ Ok (n, [])
    → n ≤ MAX_FRAME_LEN → length (word ++ more) ≡ 4 + n → IsFrame (word ++ more)
frame_read_whole word more n four is fits whole =
    let len : length more ≡ n = omega (arith, length-append word more, four, whole) in
    frame_there (word ++ more) n more (number_grown word more n four is) fits (omega (arith, len))
    ∙ (λ i. (
      Ok ((ap (λ k. take k more) (sym len) ∙ take-length more ∙ sym (drop_at word more 4 four)) i),
      drop_past n more (omega (arith, len)) i,
    ))

-- ---- a length, and then the content

-- one read goes on where another came to
grows_then : (a b c : Option (List ℕ)) (before mid after : List ℕ) → Grows a b before mid → Grows b c mid after
    → Grows a c before after
grows_then a b c before mid after first second = (
  first.0 ++ second.0,
  second.1 ∙ ap (λ (l : List ℕ). l ++ second.0) first.1
      ∙ append_assoc before first.0 second.0,
  Consumes-trans a b c first.0 second.0 first.2 second.2,
)

module _ (b c : Option (List ℕ)) (word : List ℕ) (n : ℕ) (four : length word ≡ 4) (is : number_at w32 word ≡ Ok (n, []))
    (fits : n ≤ MAX_FRAME_LEN) where
  pub frame_after : {A E : Type 0} → (r : Result A E) (bytes : List ℕ) → OnOk r (Grows b c word bytes)
      → OnOk r (length bytes ≡ 4 + n) → OnOk r (IsFrame bytes)
  frame_after (Err fault) bytes reads whole = tt
  frame_after (Ok x) bytes reads whole = subst IsFrame (sym reads.1)
      (frame_read_whole word reads.0 n four is fits (ap length (sym reads.1) ∙ whole))

pub off_after : (a b c : Option (List ℕ)) (before word : List ℕ) (n : ℕ) → length word ≡ 4
    → number_at w32 word ≡ Ok (n, []) → n ≤ MAX_FRAME_LEN → Grows a b before word → {A : Type 0}
    → (r : Result A GossipFault)
    → IfErr r (λ fault. (read : List ℕ) × Grows b c word read × (length read ≤ 4 + n)
    × ReadsFewer fault (length read) (4 + n))
    → IfErr r (λ fault. (read : List ℕ) × Grows a c before read × BreaksOff read fault)
off_after a b c before word n four is fits first (Ok x) stopped = tt
off_after a b c before word n four is fits first (Err fault) stopped =
    let read = stopped.0 in
    let e = stopped.1.1 in (
      read,
      grows_then a b c before word read first stopped.1,
      subst (λ (l : List ℕ). BreaksOff l fault) (sym e)
          (breaks_off_content word stopped.1.0 n fault four is fits
          (subst (λ (l : List ℕ). length l ≤ 4 + n) e stopped.2)
          (subst (λ (l : List ℕ). ReadsFewer fault (length l) (4 + n)) e stopped.3)),
    )
