-- Origins in digits, and the names that have them.
use Rattle.std.proofs.Common.{◌≡◌, ℕ, zero, suc, ◌+◌, ◌^◌, ◌<◌, Bool, true, false, List, [], ◌∷◌, ◌++◌, length, get_or, take, add-one, append_assoc, Option, None, Some, refl, sym, ap, ap₂, subst, ◌∙◌, arith, eqb}
use Rattle.std.specs.Prelude.{codes, nat_lt, option_to_list, if◌then◌else◌}
use Rattle.std.proofs.Math.Nat.{le_refl}
use Rattle.std.proofs.Math.Seq.{take-length, take-suc}
use Rattle.std.proofs.lemmas.List.{append_cancel_left}
use Rattle.std.proofs.lemmas.Bool.{eq-eqb, eqb-true, lt-ltb}
use Rattle.std.specs.Str.Parse.{digits_value}
use Rattle.rr_text.specs.Text.{number_at}
use Rattle.rr_directory.specs.Names.{digits_of}
use Rattle.rr_directory.specs.NamedOrigins.{IsOriginName, five_digits, later_of, origin_in, origin_text}
use Rattle.rr_directory.specs.Start.{IsGreatest, greater}
use Rattle.rr_directory.proofs.NameLemmas.{digits_same, length-digits_of, number_back, number_parts}
use Rattle.rr_directory.proofs.StartLemmas.{greatest_more}

-- the digits of an origin are read as it
as_number : (text : List ℕ) → length text ≡ 5 → five_digits text ≡ number_at text
as_number text len = ap (λ (five : Bool). if five then number_at text else None) (eq-eqb (length text) 5 len)

read_back : (o : ℕ) → o < 2 ^ 16 → five_digits (digits_of 5 o) ≡ Some o
read_back o fits =
    as_number (digits_of 5 o) (length-digits_of 5 o)
    ∙ number_back 5 o (omega arith) (omega (arith, fits)) (omega (arith, fits))

-- and what is read is written in these digits
written : (text : List ℕ) (n : ℕ) → five_digits text ≡ Some n → text ≡ digits_of 5 n
written text n h = by_length (eqb (length text) 5) refl h
  where
    by_length : (five : Bool) → eqb (length text) 5 ≡ five → (if five then number_at text else None) ≡ Some n
        → text ≡ digits_of 5 n
    by_length false p e = absurd (cc e)
    by_length true p e =
        let is = number_parts text n e in
        let len : length text ≡ 5 = eqb-true (length text) 5 p in
        let whole : take (length text) text ≡ text = take-length text in
        sym
        (ap₂ digits_of (sym len) (sym is.value)
        ∙ ap (λ (xs : List ℕ). digits_of (length text) (digits_value 10 xs)) (sym whole)
        ∙ digits_same text (length text) (le_refl (length text)) is.digits ∙ whole)

-- the origin of a number is the number, within bounds
origin_is : (n o : ℕ) → origin_in n ≡ Some o → n ≡ o
origin_is zero o h = absurd (cc h)
origin_is (suc n) o h = by_test (nat_lt (suc n) (2 ^ 16)) h
  where
    by_test : (small : Bool) → (if small then Some (suc n) else None) ≡ Some o → suc n ≡ o
    by_test true e = cc e
    by_test false e = absurd (cc e)

origin_there : (o : ℕ) → 0 < o → o < 2 ^ 16 → origin_in o ≡ Some o
origin_there zero some fits = absurd (omega (arith, some))
origin_there (suc n) some fits = rw (lt-ltb (suc n) (2 ^ 16) fits) refl

-- the number of a text that no origin's name begins with
abbrev pub then_origin : Option ℕ → Option ℕ
then_origin None = None
then_origin (Some n) = origin_in n

-- a name is read as its origin, and no other text as any
pub name_read : (bytes rest : List ℕ) (r : Option ℕ) → bytes ≡ codes "origin-" ++ rest
    → r ≡ then_origin (five_digits rest) → IsOriginName bytes r
name_read bytes rest None begins h = λ o some fits is.
    let same : rest ≡ digits_of 5 o =
    append_cancel_left (codes "origin-") rest (digits_of 5 o) (sym begins ∙ is) in
    let read : five_digits rest ≡ Some o = ap five_digits same ∙ read_back o fits in
    let none : ◌≡◌ {A = Option ℕ} None (Some o) = h ∙ ap then_origin read ∙ origin_there o some fits in
    absurd (cc none)
name_read bytes rest (Some o) begins h = by_digits (five_digits rest) refl h
  where
    by_digits : (n : Option ℕ) → five_digits rest ≡ n → Some o ≡ then_origin n → bytes ≡ origin_text o
    by_digits None e is = absurd (cc is)
    by_digits (Some n) e is =
        let same = origin_is n o (sym is) in
        begins ∙ ap (λ (xs : List ℕ). codes "origin-" ++ xs) (written rest n e ∙ ap (digits_of 5) same)

-- ---- the greatest of some

-- with one more, the greater of the two is
pub greatest_next : (names : List ℕ) (i d : ℕ) (recorded so_far : Option ℕ) → i < length names
    → IsGreatest (option_to_list recorded ++ take i names) so_far
    → IsGreatest (option_to_list recorded ++ take (i + 1) names) (later_of so_far (get_or names i d))
greatest_next names i d recorded so_far lt h =
    let n = get_or names i d in
    let before = option_to_list recorded ++ take i names in
    let more : before ++ n ∷ [] ≡ option_to_list recorded ++ take (i + 1) names =
    append_assoc (option_to_list recorded) (take i names) (n ∷ [])
    ∙ ap (λ (xs : List ℕ). option_to_list recorded ++ xs)
    (sym (take-suc names i d lt) ∙ ap (λ (k : ℕ). take k names) (sym (add-one i))) in
    subst (λ (l : List ℕ). IsGreatest l (later_of so_far n)) more
    (subst (IsGreatest (before ++ n ∷ [])) (same so_far n) (greatest_more before so_far (Some n) h))
  where
    same : (o : Option ℕ) (n : ℕ) → greater o (Some n) ≡ later_of o n
    same None n = refl
    same (Some one) n = refl
