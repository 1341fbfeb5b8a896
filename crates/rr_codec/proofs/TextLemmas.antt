-- What is read as some steps is their text.
use Rattle.std.proofs.Common.{◌≡◌, ℕ, zero, suc, ◌+◌, ◌-◌, ◌*◌, ◌/◌, ◌%◌, ◌^◌, ◌<◌, ◌≤◌, Bool, true, false, cond, List, [], ◌∷◌, ◌++◌, All, Result, Ok, Err, refl, sym, ap, subst, ◌∙◌, arith}
use Rattle.std.specs.Prelude.{nat_le, nat_lt, ◌==◌}
use Rattle.std.proofs.lemmas.Bool.{leb-false}
use Rattle.std.proofs.lemmas.Bool.Decides.{nat_tests}
use Rattle.std.proofs.lemmas.List.Elements.{All-head, All-tail}
use Rattle.rr_text.specs.Results.{◌>>=◌, unless}
use Rattle.rr_codec.specs.declared.fault.CodecFault.{CodecFault}
use Rattle.rr_codec.specs.declared.fault.CodecFault.TheVariants.{BadNumber}
use Rattle.rr_codec.specs.Numbers.{is_bad_high, number_text_within, number_text, number_within, number_at}
use Rattle.rr_codec.specs.Steps.{flagged, flags_at, flags_of, some_number, steps_at, steps_text, step_at, step_text}
use Rattle.rr_codec.specs.declared.steps.Steps.{Steps}
use Rattle.rr_codec.proofs.NumberLemmas.{narrow_high, with_low}
use Rattle.rr_codec.proofs.StepsLemmas.{AreWideSteps, last_value_on, regrouped}

-- ---- results

-- a step that isn't refused, and those after it, which aren't either
pub then_ok : {A B : Type 0} (r : Result A CodecFault) (next : A → Result B CodecFault) (y : B) → (r >>= next) ≡ Ok y
    → (x : A) × (r ≡ Ok x) × (next x ≡ Ok y)
then_ok (Ok x) next y e = (x, refl, e)
then_ok (Err f) next y e = absurd cc

-- a test that doesn't refuse
pub unless_ok : {A : Type 0} (f : CodecFault) (refused : Bool) (r : Result A CodecFault) (y : A)
    → unless f refused r ≡ Ok y
    → (refused ≡ false) × (r ≡ Ok y)
unless_ok f true r y e = absurd cc
unless_ok f false r y e = (refl, e)

abbrev pub done : {A : Type 0} → A → Result A CodecFault
done x = Ok x

pub done_same : {A : Type 0} (x y : A) → done x ≡ done y → x ≡ y
done_same x y e = cc

-- ---- numbers

abbrev pub AreBytes : List ℕ → Type 0
AreBytes bytes = All (λ b. b < 2 ^ 8) bytes

-- these bytes are a number of at most `most` bytes, and what follows it
pub record IsNumberAt (most n : ℕ) (rest bytes : List ℕ) : Type 0 where
  pub text : bytes ≡ number_text_within most n ++ rest
  pub fits : n < 2 ^ 128
  pub are_bytes : AreBytes rest

one_byte : (most b : ℕ) (bs : List ℕ) → nat_lt b 128 ≡ true → AreBytes bs → IsNumberAt (suc most) b bs (b ∷ bs)
unfolding number_text_within
one_byte most b bs small are = record {
  text = rw small refl;
  fits = grind (arith, nat_tests);
  are_bytes = are;
}

byte_more : (most b high : ℕ) (bs rest : List ℕ) → nat_lt b 128 ≡ false → b < 2 ^ 8 → is_bad_high high ≡ false
    → IsNumberAt most high rest bs → IsNumberAt (suc most) (128 * high + (b - 128)) rest (b ∷ bs)
unfolding number_text_within
byte_more most b high bs rest large lt good is =
    let n = 128 * high + (b - 128) in
    let narrow = narrow_high high good in
    let wide : nat_lt n 128 ≡ false = grind (arith, nat_tests) in
    let low : n % 128 + 128 ≡ b = grind (arith, nat_tests) in
    let up : n / 128 ≡ high = grind (arith, nat_tests) in
    record {
      text = ap (λ (l : List ℕ). b ∷ l) is.text ∙ rw (wide, low, up) refl;
      fits = grind (arith, nat_tests);
      are_bytes = is.are_bytes;
    }

-- a first byte below 128, or another one
abbrev read_on : ℕ → ℕ → List ℕ → Bool → Result (ℕ × List ℕ) CodecFault
read_on most b bs t = cond {A = Result (ℕ × List ℕ) CodecFault} t (done (b, bs)) (with_low b (number_within most bs))

pub number_of : (most n : ℕ) (rest bytes : List ℕ) → AreBytes bytes → number_within most bytes ≡ done (n, rest)
    → IsNumberAt most n rest bytes
unfolding number_within
number_of zero n rest bytes are e = absurd cc
number_of (suc most) n rest [] are e = absurd cc
number_of (suc most) n rest (b ∷ bs) are e =
    by (nat_lt b 128) refl e (λ high r h. number_of most high r bs (All-tail (λ b. b < 2 ^ 8) b bs are) h)
  where
    lt : b < 2 ^ 8
    lt = All-head (λ b. b < 2 ^ 8) b bs are

    tail : AreBytes bs
    tail = All-tail (λ b. b < 2 ^ 8) b bs are

    by : (t : Bool) → nat_lt b 128 ≡ t → read_on most b bs t ≡ done (n, rest)
        → ((high : ℕ) (r : List ℕ) → number_within most bs ≡ done (high, r) → IsNumberAt most high r bs)
        → IsNumberAt (suc most) n rest (b ∷ bs)
    by true small read again =
        let same = done_same (b, bs) (n, rest) read in
        subst (λ (x : ℕ × List ℕ). IsNumberAt (suc most) x.0 x.1 (b ∷ bs)) same (one_byte most b bs small tail)
    by false large read again =
        let high = then_ok (number_within most bs) _ (n, rest) read in
        let good = unless_ok BadNumber (is_bad_high high.0.0) _ (n, rest) high.2 in
        let same = done_same (128 * high.0.0 + (b - 128), high.0.1) (n, rest) good.1 in
        subst (λ (x : ℕ × List ℕ). IsNumberAt (suc most) x.0 x.1 (b ∷ bs)) same
        (byte_more most b high.0.0 bs high.0.1 large lt good.0 (again high.0.0 high.0.1 high.1))

-- ---- steps

-- a step by the first of some flags, and what follows it, are these bytes
pub record IsStepAt (flags step others : ℕ) (rest bytes : List ℕ) : Type 0 where
  pub flags_are : flags ≡ flagged step others
  pub text : bytes ≡ step_text step ++ rest
  pub fits : step < 2 ^ 128
  pub are_bytes : AreBytes rest

no_step : (flags : ℕ) (bytes : List ℕ) → (flags % 2 == 0) ≡ true → AreBytes bytes
    → IsStepAt flags 0 (flags / 2) bytes bytes
no_step flags bytes even are = record {
  flags_are = grind (arith, nat_tests);
  text = refl;
  fits = omega arith;
  are_bytes = are;
}

a_step : (flags step : ℕ) (rest bytes : List ℕ) → (flags % 2 == 0) ≡ false → (step == 0) ≡ false
    → IsNumberAt 19 step rest bytes → IsStepAt flags step (flags / 2) rest bytes
a_step flags step rest bytes odd some is = record {
  flags_are = rw some (grind (arith, nat_tests));
  text = is.text ∙ rw some refl;
  fits = is.fits;
  are_bytes = is.are_bytes;
}

abbrev stepped : ℕ → List ℕ → Bool → Result (ℕ × ℕ × List ℕ) CodecFault
stepped flags bytes t =
    cond {A = Result (ℕ × ℕ × List ℕ) CodecFault} t (done (0, flags / 2, bytes))
    (number_at bytes >>= some_number >>= λ x. done (x.0, flags / 2, x.1))

step_of : (flags step others : ℕ) (rest bytes : List ℕ) → AreBytes bytes
    → step_at flags bytes ≡ done (step, others, rest) → IsStepAt flags step others rest bytes
step_of flags step others rest bytes are e = by (flags % 2 == 0) refl e
  where
    by : (t : Bool) → (flags % 2 == 0) ≡ t → stepped flags bytes t ≡ done (step, others, rest)
        → IsStepAt flags step others rest bytes
    by true even read =
        let same = done_same (0, flags / 2, bytes) (step, others, rest) read in
        subst (λ (x : ℕ × ℕ × List ℕ). IsStepAt flags x.0 x.1 x.2 bytes) same (no_step flags bytes even are)
    by false odd read =
        let some = then_ok (number_at bytes >>= some_number) _ (step, others, rest) read in
        let number = then_ok (number_at bytes) some_number some.0 some.1 in
        let kept = unless_ok BadNumber (number.0.0 == 0) _ some.0 number.2 in
        let n = done_same number.0 some.0 kept.1 in
        let same = done_same (some.0.0, flags / 2, some.0.1) (step, others, rest) some.2 in
        let is = a_step flags number.0.0 number.0.1 bytes odd kept.0
        (number_of 19 number.0.0 number.0.1 bytes are number.1) in
        subst (λ (x : ℕ × ℕ × List ℕ). IsStepAt flags x.0 x.1 x.2 bytes) same
        (subst (λ (x : ℕ × List ℕ). IsStepAt flags x.0 (flags / 2) x.1 bytes) n is)

-- ---- eleven steps

pub record AreFlagsAt (flags : ℕ) (rest bytes : List ℕ) : Type 0 where
  pub text : bytes ≡ number_text flags ++ rest
  pub few : flags < 2 ^ 11
  pub are_bytes : AreBytes rest

flags_of_bytes : (flags : ℕ) (rest bytes : List ℕ) → AreBytes bytes → flags_at bytes ≡ done (flags, rest)
    → AreFlagsAt flags rest bytes
flags_of_bytes flags rest bytes are e =
    let number = then_ok (number_at bytes) _ (flags, rest) e in
    let kept = unless_ok BadNumber (nat_le (2 ^ 11) number.0.0) _ (flags, rest) number.2 in
    let same = done_same number.0 (flags, rest) kept.1 in
    let is = number_of 19 number.0.0 number.0.1 bytes are number.1 in
    let few : number.0.0 < 2 ^ 11 = leb-false _ _ kept.0 in
    subst (λ (x : ℕ × List ℕ). AreFlagsAt x.0 x.1 bytes) same
    (record { text = is.text; few = few; are_bytes = is.are_bytes })

flagged_ge : (step others : ℕ) → 2 * others ≤ flagged step others
flagged_ge step others = grind (arith, nat_tests)

-- eleven steps, and what follows them, are these bytes
pub record AreStepsAt (s : Steps) (rest bytes : List ℕ) : Type 0 where
  pub text : bytes ≡ steps_text s ++ rest
  pub wide : AreWideSteps s
  pub are_bytes : AreBytes rest

step_ge : {flags step others : ℕ} {rest bytes : List ℕ} → IsStepAt flags step others rest bytes → 2 * others ≤ flags
step_ge {flags} {step} {others} is =
    subst (λ (n : ℕ). 2 * others ≤ n) (sym is.flags_are) (flagged_ge step others)

-- what is twice as much and more, again and again
eleven_up : (f a b d g h i j k l m n : ℕ) → f < 2 ^ 11 → 2 * a ≤ f → 2 * b ≤ a → 2 * d ≤ b → 2 * g ≤ d → 2 * h ≤ g
    → 2 * i ≤ h → 2 * j ≤ i → 2 * k ≤ j → 2 * l ≤ k → 2 * m ≤ l → 2 * n ≤ m → n ≡ 0
eleven_up f a b d g h i j k l m n few p1 p2 p3 p4 p5 p6 p7 p8 p9 p10 p11 = omega arith

-- the first of some steps, and what the others come to
with_step : {B P : Type 0} (flags : ℕ) (bytes : List ℕ) (next : ℕ × ℕ × List ℕ → Result B CodecFault) (y : B)
    → AreBytes bytes → (step_at flags bytes >>= next) ≡ done y
    → ((step others : ℕ) (rest : List ℕ) → IsStepAt flags step others rest bytes → next (step, others, rest) ≡ done y
    → P)
    → P
with_step flags bytes next y are e goes_on =
    let x = then_ok (step_at flags bytes) next y e in
    goes_on x.0.0 x.0.1 x.0.2 (step_of flags x.0.0 x.0.1 x.0.2 bytes are x.1) x.2

with_flags : {B P : Type 0} (bytes : List ℕ) (next : ℕ × List ℕ → Result B CodecFault) (y : B)
    → AreBytes bytes → (flags_at bytes >>= next) ≡ done y
    → ((flags : ℕ) (rest : List ℕ) → AreFlagsAt flags rest bytes → next (flags, rest) ≡ done y → P) → P
with_flags bytes next y are e goes_on =
    let x = then_ok (flags_at bytes) next y e in
    goes_on x.0.0 x.0.1 (flags_of_bytes x.0.0 x.0.1 bytes are x.1) x.2

-- the bytes of eleven steps, step by step
together : (flags value version time least most total count mask slot place origin : ℕ)
    (o1 o2 o3 o4 o5 o6 o7 o8 o9 o10 o11 : ℕ) (r0 r1 r2 r3 r4 r5 r6 r7 r8 r9 r10 r11 : List ℕ) (bytes : List ℕ)
    → AreFlagsAt flags r0 bytes
    → IsStepAt flags value o1 r1 r0
    → IsStepAt o1 version o2 r2 r1
    → IsStepAt o2 time o3 r3 r2
    → IsStepAt o3 least o4 r4 r3
    → IsStepAt o4 most o5 r5 r4
    → IsStepAt o5 total o6 r6 r5
    → IsStepAt o6 count o7 r7 r6
    → IsStepAt o7 mask o8 r8 r7
    → IsStepAt o8 slot o9 r9 r8
    → IsStepAt o9 place o10 r10 r9
    → IsStepAt o10 origin o11 r11 r10
    → AreStepsAt (record {
      place = place;
      fields = record {
        slot = slot;
        origin = origin;
        version = version;
        count = count;
        sum = total;
        min = least;
        max = most;
        last_time = time;
        last_value = value;
        mask = mask;
      };
    }) r11 bytes
together flags value version time least most total count mask slot place origin o1 o2 o3 o4 o5 o6 o7 o8 o9 o10 o11 r0 r1
    r2 r3 r4 r5 r6 r7 r8 r9 r10 r11 bytes head s1 s2 s3 s4 s5 s6 s7 s8 s9 s10 s11 =
    let steps : Steps = record {
      place = place;
      fields = record {
        slot = slot;
        origin = origin;
        version = version;
        count = count;
        sum = total;
        min = least;
        max = most;
        last_time = time;
        last_value = value;
        mask = mask;
      };
    } in
    let none : o11 ≡ 0 = eleven_up flags o1 o2 o3 o4 o5 o6 o7 o8 o9 o10 o11 head.few
    (step_ge s1) (step_ge s2) (step_ge s3) (step_ge s4) (step_ge s5) (step_ge s6) (step_ge s7) (step_ge s8) (step_ge s9)
    (step_ge s10) (step_ge s11) in
    let same : flags ≡ flags_of steps =
    s1.flags_are ∙ ap (flagged value)
    (s2.flags_are ∙ ap (flagged version)
    (s3.flags_are ∙ ap (flagged time)
    (s4.flags_are ∙ ap (flagged least)
    (s5.flags_are ∙ ap (flagged most)
    (s6.flags_are ∙ ap (flagged total)
    (s7.flags_are ∙ ap (flagged count)
    (s8.flags_are ∙ ap (flagged mask)
    (s9.flags_are ∙ ap (flagged slot)
    (s10.flags_are ∙ ap (flagged place) (s11.flags_are ∙ ap (flagged origin) none)))))))))) in
    let left : r0 ≡ last_value_on steps r11 =
    s1.text ∙ ap (λ (t : List ℕ). step_text value ++ t)
    (s2.text ∙ ap (λ (t : List ℕ). step_text version ++ t)
    (s3.text ∙ ap (λ (t : List ℕ). step_text time ++ t)
    (s4.text ∙ ap (λ (t : List ℕ). step_text least ++ t)
    (s5.text ∙ ap (λ (t : List ℕ). step_text most ++ t)
    (s6.text ∙ ap (λ (t : List ℕ). step_text total ++ t)
    (s7.text ∙ ap (λ (t : List ℕ). step_text count ++ t)
    (s8.text ∙ ap (λ (t : List ℕ). step_text mask ++ t)
    (s9.text ∙ ap (λ (t : List ℕ). step_text slot ++ t)
    (s10.text ∙ ap (λ (t : List ℕ). step_text place ++ t) (s11.text)))))))))) in
    record {
      text = head.text ∙ ap (λ (x : ℕ). number_text x ++ r0) same
          ∙ ap (λ (t : List ℕ). number_text (flags_of steps) ++ t) left
          ∙ sym (regrouped steps r11);
      wide = record {
        place = s10.fits;
        fields = record {
          slot = s9.fits;
          origin = s11.fits;
          version = s2.fits;
          count = s7.fits;
          sum = s6.fits;
          min = s4.fits;
          max = s5.fits;
          last_time = s3.fits;
          last_value = s1.fits;
          mask = s8.fits;
        };
      };
      are_bytes = s11.are_bytes;
    }

pub steps_of : (s : Steps) (rest bytes : List ℕ) → AreBytes bytes → steps_at bytes ≡ done (s, rest)
    → AreStepsAt s rest bytes
unfolding steps_at
steps_of s rest bytes are e =
    with_flags bytes _ (s, rest) are e (λ flags r0 head e0.
    with_step flags r0 _ (s, rest) head.are_bytes e0 (λ value o1 r1 s1 e1.
    with_step o1 r1 _ (s, rest) s1.are_bytes e1 (λ version o2 r2 s2 e2.
    with_step o2 r2 _ (s, rest) s2.are_bytes e2 (λ time o3 r3 s3 e3.
    with_step o3 r3 _ (s, rest) s3.are_bytes e3 (λ least o4 r4 s4 e4.
    with_step o4 r4 _ (s, rest) s4.are_bytes e4 (λ most o5 r5 s5 e5.
    with_step o5 r5 _ (s, rest) s5.are_bytes e5 (λ total o6 r6 s6 e6.
    with_step o6 r6 _ (s, rest) s6.are_bytes e6 (λ count o7 r7 s7 e7.
    with_step o7 r7 _ (s, rest) s7.are_bytes e7 (λ mask o8 r8 s8 e8.
    with_step o8 r8 _ (s, rest) s8.are_bytes e8 (λ slot o9 r9 s9 e9.
    with_step o9 r9 _ (s, rest) s9.are_bytes e9 (λ place o10 r10 s10 e10.
    with_step o10 r10 _ (s, rest) s10.are_bytes e10 (λ origin o11 r11 s11 e11.
    subst (λ (x : Steps × List ℕ). AreStepsAt x.0 x.1 bytes) (done_same (
      record {
        place = place;
        fields = record {
          slot = slot;
          origin = origin;
          version = version;
          count = count;
          sum = total;
          min = least;
          max = most;
          last_time = time;
          last_value = value;
          mask = mask;
        };
      },
      r11,
    ) (s, rest) e11)
    (together flags value version time least most total count mask slot place origin o1 o2 o3 o4 o5 o6 o7 o8 o9 o10 o11
    r0 r1 r2 r3 r4 r5 r6 r7 r8 r9 r10 r11 bytes head s1 s2 s3 s4 s5 s6 s7 s8 s9 s10 s11)))))))))))))
