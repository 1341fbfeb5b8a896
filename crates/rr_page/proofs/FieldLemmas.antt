-- A field that is read is the field that was written, and what was written is read again.
use Rattle.std.proofs.Common.{◌≡◌, ℕ, ℤ, ◌^◌, ◌<◌, ◌≤◌, Bool, true, false, ltb, List, ◌++◌, length, take, drop, get_or, Result, Ok, Err, refl, sym, ap, subst, ◌∙◌, append_assoc, arith}
use Rattle.std.specs.Prelude.{FitsSigned, nat_lt, not}
use Rattle.std.specs.Int.{Width, byte_len, from_be_bytes, to_be_bytes, cast_signed, cast_unsigned}
use mir.Val.{bits}
use Rattle.std.proofs.Math.Facts.{sfits_to_z, Fits-of_z}
use Rattle.std.proofs.lemmas.Int.{of_z-to_z, to_z-of_z}
use Rattle.std.proofs.lemmas.Bool.{ltb-false, le-ltb}
use Rattle.std.proofs.lemmas.List.{take_at, drop_at, take-append-drop, length-append, length-take}
use Rattle.std.proofs.lemmas.List.Elements.{All-drop, All-take, All-from_get_or}
use Rattle.rr_page.specs.declared.fault.PageFault.{PageFault}
use Rattle.rr_page.specs.declared.fault.PageFault.TheVariants.{Short}
use Rattle.rr_page.specs.CellText.{signed_bytes}
use Rattle.rr_page.specs.Laws.{AreBytes}
use Rattle.rr_text.specs.Results.{◌>>=◌, unless}
use Rattle.rr_page.specs.Reading.{prefix_at, number_at, signed_at}
use Rattle.rr_page.proofs.NumberLemmas.{IsWide}

pub AreBytes-drop : (n : ℕ) (bytes : List ℕ) → AreBytes bytes → AreBytes (drop n bytes)
AreBytes-drop n bytes h = All-drop (λ b. b < 2 ^ 8) n bytes h

pub AreBytes-take : (n : ℕ) (bytes : List ℕ) → AreBytes bytes → AreBytes (take n bytes)
AreBytes-take n bytes h = All-take (λ b. b < 2 ^ 8) n bytes h

pub AreBytes-from_get_or : (bytes : List ℕ) → ((i : ℕ) → get_or bytes i 0 < 256) → AreBytes bytes
AreBytes-from_get_or bytes h = All-from_get_or (λ b. b < 2 ^ 8) bytes 0 (λ i lt. h i)

-- the value of a step that found no fault
pub bind_ok : {A B : Type 0} (r : Result A PageFault) (f : A → Result B PageFault) (y : B) → (r >>= f) ≡ Ok y
    → (x : A) × (r ≡ Ok x) × (f x ≡ Ok y)
bind_ok (Ok x) f y e = (x, refl, e)
bind_ok (Err d) f y e = absurd cc

pub not_false : (t : Bool) → not t ≡ false → t ≡ true
not_false true e = refl
not_false false e = absurd cc

-- a test that refused nothing
pub unless_ok : {A : Type 0} (fault : PageFault) (refused : Bool) (r : Result A PageFault) (y : A)
    → unless fault refused r ≡ Ok y → (refused ≡ false) × (r ≡ Ok y)
unless_ok fault true r y e = absurd cc
unless_ok fault false r y e = (refl, e)

abbrev done : {A : Type 0} → A → Result A PageFault
done x = Ok x

pub ok_is : {A : Type 0} (x y : A) → done x ≡ done y → x ≡ y
ok_is x y e = cc

-- what a reader took from the beginning
pub record Takes (bytes text rest : List ℕ) : Type 0 where
  pub parts : bytes ≡ text ++ rest
  pub rest_fits : AreBytes rest

pub Takes-then : (a x b y c : List ℕ) → Takes a x b → Takes b y c → Takes a (x ++ y) c
Takes-then a x b y c p q = record {
  parts = p.parts ∙ ap (λ (t : List ℕ). x ++ t) q.parts
      ∙ sym (append_assoc x y c);
  rest_fits = q.rest_fits;
}

pub and_then : {a x b y c : List ℕ} → Takes a x b → Takes b y c → Takes a (x ++ y) c
and_then {a = a} {x = x} {b = b} {y = y} {c = c} p q = Takes-then a x b y c p q

pub prefix_takes : (len : ℕ) (bytes prefix rest : List ℕ) → AreBytes bytes → prefix_at len bytes ≡ Ok (prefix, rest)
    → Takes bytes prefix rest × (length prefix ≡ len) × AreBytes prefix
prefix_takes len bytes prefix rest fits e =
    let g = unless_ok Short (nat_lt (length bytes) len) (Ok (take len bytes, drop len bytes)) (prefix, rest) e in
    let is = ok_is (take len bytes, drop len bytes) (prefix, rest) g.1 in
    let long : len ≤ length bytes = ltb-false _ _ g.0 in
    subst (λ (p : List ℕ × List ℕ). Takes bytes p.0 p.1 × (length p.0 ≡ len) × AreBytes p.0) is (
      record { parts = sym (take-append-drop len bytes); rest_fits = AreBytes-drop len bytes fits },
      omega (arith, length-take len bytes),
      AreBytes-take len bytes fits,
    )

pub prefix_again : (len : ℕ) (prefix rest : List ℕ) → length prefix ≡ len
    → prefix_at len (prefix ++ rest) ≡ Ok (prefix, rest)
prefix_again len prefix rest l =
    let long : ltb (length (prefix ++ rest)) len ≡ false = le-ltb _ _ (omega (arith, length-append prefix rest)) in
    rw (long, take_at prefix rest len l, drop_at prefix rest len l) refl

-- ---- numbers

pub number_takes : (w : Width) (wide : IsWide w) (bytes : List ℕ) (n : ℕ) (rest : List ℕ) → AreBytes bytes
    → number_at w bytes ≡ Ok (n, rest) → Takes bytes (to_be_bytes w n) rest × (n < 2 ^ bits w)
number_takes w wide bytes n rest fits e =
    let b = bind_ok (prefix_at (byte_len w) bytes) (λ field. Ok (from_be_bytes w field.0, field.1)) (n, rest) e in
    let t = prefix_takes (byte_len w) bytes b.0.0 b.0.1 fits b.1 in
    let is = ok_is (from_be_bytes w b.0.0, b.0.1) (n, rest) b.2 in
    subst (λ (p : ℕ × List ℕ). Takes bytes (to_be_bytes w p.0) p.1 × (p.0 < 2 ^ bits w)) is
    (subst (λ (x : List ℕ). Takes bytes x b.0.1) (sym (wide.back b.0.0 t.1 t.2)) t.0, wide.below b.0.0 t.1 t.2)

pub number_again : (w : Width) (wide : IsWide w) (n : ℕ) (rest : List ℕ) → n < 2 ^ bits w
    → number_at w (to_be_bytes w n ++ rest) ≡ Ok (n, rest)
number_again w wide n rest lt =
    ap (λ (r : Result (List ℕ × List ℕ) PageFault). r >>= λ (field : List ℕ × List ℕ). Ok
    (from_be_bytes w field.0, field.1)) (prefix_again (byte_len w) (to_be_bytes w n) rest (wide.len n))
    ∙ ap (λ (m : ℕ). Ok (m, rest)) (wide.again n lt)

-- ---- numbers with a sign

pub signed_takes : (w : Width) (wide : IsWide w) (bytes : List ℕ) (z : ℤ) (rest : List ℕ) → AreBytes bytes
    → signed_at w bytes ≡ Ok (z, rest) → Takes bytes (signed_bytes w z) rest × FitsSigned w z
signed_takes w wide bytes z rest fits e =
    let b = bind_ok (prefix_at (byte_len w) bytes) (λ field. Ok (cast_signed w (from_be_bytes w field.0), field.1))
    (z, rest) e in
    let t = prefix_takes (byte_len w) bytes b.0.0 b.0.1 fits b.1 in
    let is = ok_is (cast_signed w (from_be_bytes w b.0.0), b.0.1) (z, rest) b.2 in
    let low = wide.below b.0.0 t.1 t.2 in
    let same : signed_bytes w (cast_signed w (from_be_bytes w b.0.0)) ≡ b.0.0 =
    ap (to_be_bytes w) (of_z-to_z w (from_be_bytes w b.0.0) low) ∙ wide.back b.0.0 t.1 t.2 in
    subst (λ (p : ℤ × List ℕ). Takes bytes (signed_bytes w p.0) p.1 × FitsSigned w p.0) is
    (subst (λ (x : List ℕ). Takes bytes x b.0.1) (sym same) t.0, sfits_to_z (record { fits = low }))

pub signed_again : (w : Width) (wide : IsWide w) (z : ℤ) (rest : List ℕ) → FitsSigned w z
    → signed_at w (signed_bytes w z ++ rest) ≡ Ok (z, rest)
signed_again w wide z rest fits =
    let low = Fits-of_z fits in
    ap (λ (r : Result (List ℕ × List ℕ) PageFault). r >>= λ (field : List ℕ × List ℕ). Ok
    (cast_signed w (from_be_bytes w field.0), field.1))
    (prefix_again (byte_len w) (signed_bytes w z) rest (wide.len (cast_unsigned w z)))
    ∙ ap (λ (n : ℕ). Ok (cast_signed w n, rest)) (wide.again (cast_unsigned w z) low.fits)
    ∙ ap (λ (x : ℤ). Ok (x, rest)) (to_z-of_z w z fits)

-- ---- a field, and what is done after it

pub with_number : {B P : Type 0} (w : Width) (wide : IsWide w) (bytes : List ℕ) (f : ℕ × List ℕ → Result B PageFault)
    (y : B) → AreBytes bytes → (number_at w bytes >>= f) ≡ Ok y
    → ((n : ℕ) (rest : List ℕ) → Takes bytes (to_be_bytes w n) rest → n < 2 ^ bits w → f (n, rest) ≡ Ok y → P) → P
with_number w wide bytes f y fits e next =
    let b = bind_ok (number_at w bytes) f y e in
    let t = number_takes w wide bytes b.0.0 b.0.1 fits b.1 in
    next b.0.0 b.0.1 t.0 t.1 b.2

pub with_signed : {B P : Type 0} (w : Width) (wide : IsWide w) (bytes : List ℕ) (f : ℤ × List ℕ → Result B PageFault)
    (y : B) → AreBytes bytes → (signed_at w bytes >>= f) ≡ Ok y
    → ((z : ℤ) (rest : List ℕ) → Takes bytes (signed_bytes w z) rest → FitsSigned w z → f (z, rest) ≡ Ok y → P) → P
with_signed w wide bytes f y fits e next =
    let b = bind_ok (signed_at w bytes) f y e in
    let t = signed_takes w wide bytes b.0.0 b.0.1 fits b.1 in
    next b.0.0 b.0.1 t.0 t.1 b.2

pub with_ok : {A B P : Type 0} (r : Result A PageFault) (f : A → Result B PageFault) (y : B) → (r >>= f) ≡ Ok y
    → ((x : A) → r ≡ Ok x → f x ≡ Ok y → P) → P
with_ok r f y e next = let b = bind_ok r f y e in next b.0 b.1 b.2

pub step : {A B : Type 0} {r : Result A PageFault} {x : A} (f : A → Result B PageFault) → r ≡ Ok x → (r >>= f) ≡ f x
step f e = ap (λ r. r >>= f) e
