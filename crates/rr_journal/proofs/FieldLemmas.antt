-- Fields that were written are read, and what is read is taken from the beginning.
use Rattle.std.proofs.Common.{◌≡◌, ℕ, ◌+◌, ◌^◌, ◌<◌, ◌≤◌, Bool, true, false, List, [], ◌∷◌, ◌++◌, length, take, drop, Result, Ok, Err, refl, ap, subst, ◌∙◌, append_assoc, arith}
use Rattle.std.specs.Prelude.{nat_lt}
use Rattle.std.specs.Int.{Width, byte_len, w8, w16, w32, w64, from_be_bytes, to_be_bytes}
use Rattle.std.proofs.lemmas.Bool.{ltb-false, le-ltb}
use Rattle.std.proofs.lemmas.List.{take_at, drop_at, length-append, length-drop}
use Rattle.rr_text.specs.Results.{◌>>=◌, unless}
use Rattle.rr_journal.specs.declared.cursor.Cursor.{Cursor}
use Rattle.rr_journal.specs.declared.fault.JournalFault.{JournalFault}
use Rattle.rr_journal.specs.declared.fault.JournalFault.TheVariants.{Short}
use Rattle.rr_journal.specs.Cursor.{IsCursor, cursor_text}
use Rattle.rr_journal.specs.Fields.{prefix_at, number_at, cursor_at}
use Rattle.rr_journal.proofs.NumberLemmas.{again16, again32, again64}

-- ---- steps

pub step : {A B : Type 0} {r : Result A JournalFault} {x : A} (f : A → Result B JournalFault) → r ≡ Ok x → (r >>= f) ≡ f x
step f e = ap (λ r. r >>= f) e

pub bind_ok : {A B : Type 0} (r : Result A JournalFault) (f : A → Result B JournalFault) (y : B) → (r >>= f) ≡ Ok y
    → (x : A) × (r ≡ Ok x) × (f x ≡ Ok y)
bind_ok (Ok x) f y e = (x, refl, e)
bind_ok (Err d) f y e = absurd cc

pub unless_ok : {A : Type 0} (fault : JournalFault) (refused : Bool) (r : Result A JournalFault) (y : A)
    → unless fault refused r ≡ Ok y → (refused ≡ false) × (r ≡ Ok y)
unless_ok fault true r y e = absurd cc
unless_ok fault false r y e = (refl, e)

abbrev done : {A : Type 0} → A → Result A JournalFault
done x = Ok x

pub ok_is : {A : Type 0} (x y : A) → done x ≡ done y → x ≡ y
ok_is x y e = cc

-- ---- what was written is read

pub prefix_again : (len : ℕ) (prefix rest : List ℕ) → length prefix ≡ len
    → prefix_at len (prefix ++ rest) ≡ Ok (prefix, rest)
prefix_again len prefix rest l =
    let long : nat_lt (length (prefix ++ rest)) len ≡ false = le-ltb _ _ (omega (arith, l, length-append prefix rest)) in
    rw (long, take_at prefix rest len l, drop_at prefix rest len l) refl

number_again : (w : Width) (n : ℕ) (rest : List ℕ) → length (to_be_bytes w n) ≡ byte_len w
    → from_be_bytes w (to_be_bytes w n) ≡ n → number_at w (to_be_bytes w n ++ rest) ≡ Ok (n, rest)
number_again w n rest len again =
    step (λ (field : List ℕ × List ℕ). Ok (from_be_bytes w field.0, field.1)) (prefix_again (byte_len w) (to_be_bytes w n) rest len)
    ∙ ap (λ (m : ℕ). Ok (m, rest)) again

pub byte_again : (b : ℕ) (rest : List ℕ) → b < 2 ^ 8 → number_at w8 (b ∷ rest) ≡ Ok (b, rest)
byte_again b rest lt =
    step (λ (field : List ℕ × List ℕ). Ok (from_be_bytes w8 field.0, field.1)) (prefix_again 1 (b ∷ []) rest refl)
    ∙ ap (λ (m : ℕ). Ok (m, rest)) (omega arith)

pub number16_again : (n : ℕ) (rest : List ℕ) → n < 2 ^ 16 → number_at w16 (to_be_bytes w16 n ++ rest) ≡ Ok (n, rest)
number16_again n rest lt = number_again w16 n rest refl (again16 n lt)

pub number32_again : (n : ℕ) (rest : List ℕ) → n < 2 ^ 32 → number_at w32 (to_be_bytes w32 n ++ rest) ≡ Ok (n, rest)
number32_again n rest lt = number_again w32 n rest refl (again32 n lt)

pub number64_again : (n : ℕ) (rest : List ℕ) → n < 2 ^ 64 → number_at w64 (to_be_bytes w64 n ++ rest) ≡ Ok (n, rest)
number64_again n rest lt = number_again w64 n rest refl (again64 n lt)

three : (a b c rest : List ℕ) → (a ++ (b ++ c)) ++ rest ≡ a ++ (b ++ (c ++ rest))
three a b c rest = simp append_assoc

pub cursor_again : (c : Cursor) (rest : List ℕ) → IsCursor c → cursor_at (cursor_text c ++ rest) ≡ Ok (c, rest)
unfolding cursor_at cursor_text
cursor_again c rest is =
    ap (λ (bytes : List ℕ). prefix_at 16 bytes >>= λ (id : List ℕ × List ℕ). number_at w64 id.1 >>=
    λ (offset : ℕ × List ℕ). prefix_at 8 offset.1 >>= λ (digest : List ℕ × List ℕ). Ok
    (record { id = id.0; offset = offset.0; digest = digest.0 }, digest.1)) (three c.id (to_be_bytes w64 c.offset) c.digest rest)
    ∙ step _ (prefix_again 16 c.id (to_be_bytes w64 c.offset ++ (c.digest ++ rest)) is.id)
    ∙ step _ (number64_again c.offset (c.digest ++ rest) is.offset)
    ∙ step _ (prefix_again 8 c.digest rest is.digest)

-- ---- what is read takes its bytes

pub prefix_shorter : (len : ℕ) (bytes : List ℕ) (x : List ℕ × List ℕ) → prefix_at len bytes ≡ Ok x
    → length x.1 + len ≡ length bytes
prefix_shorter len bytes x e =
    let g = unless_ok Short (nat_lt (length bytes) len) (Ok (take len bytes, drop len bytes)) x e in
    let is = ok_is (take len bytes, drop len bytes) x g.1 in
    let long : len ≤ length bytes = ltb-false _ _ g.0 in
    subst (λ (p : List ℕ × List ℕ). length p.1 + len ≡ length bytes) is (omega (arith, long, length-drop len bytes))

pub number_shorter : (w : Width) (bytes : List ℕ) (x : ℕ × List ℕ) → number_at w bytes ≡ Ok x
    → length x.1 + byte_len w ≡ length bytes
number_shorter w bytes x e =
    let b = bind_ok (prefix_at (byte_len w) bytes) (λ field. Ok (from_be_bytes w field.0, field.1)) x e in
    let is = ok_is (from_be_bytes w b.0.0, b.0.1) x b.2 in
    subst (λ (p : ℕ × List ℕ). length p.1 + byte_len w ≡ length bytes) is (prefix_shorter (byte_len w) bytes b.0 b.1)
