-- Several reads or writes, one after the other.
use Rattle.std.proofs.Common.{◌≡◌, ℕ, ◌+◌, ◌-◌, ◌≤◌, List, ◌++◌, length, take, drop, Option, None, Some, IfSome, refl, sym, ap, ◌∙◌, append_assoc, arith, length-take-le, take-add, take-take, take_at, drop_at}
use Rattle.std.proofs.Math.Seq.{take-length}
use Rattle.std.proofs.lemmas.List.{length-drop, take-append-drop}
use Rattle.std.proofs.KnownBytes.{Appends-trans, Appends-kept, Consumes-trans}
use Rattle.std.proofs.lemmas.Slice.{take-put_mid}
use borrow.Rule.Slice.PartMut.{put_mid}
use Rattle.std.specs.Io.KnownBytes.{Appends, Consumes, Keeps}
use Rattle.rr_io.specs.Stream.{AddsPrefix, AppendsPrefix}

rest_is : (n : ℕ) (xs : List ℕ) → take (length xs - n) (drop n xs) ≡ drop n xs
rest_is n xs = ap (λ k. take k (drop n xs)) (sym (length-drop n xs)) ∙ take-length (drop n xs)

-- n bytes more of a text are written
pub written_more : (text prefix rest : List ℕ) (n : ℕ) → text ≡ prefix ++ rest
    → text ≡ (prefix ++ take n rest) ++ take (length rest - n) (drop n rest)
written_more text prefix rest n e =
    rw rest_is (e ∙ ap (λ (r : List ℕ). prefix ++ r) (sym (take-append-drop n rest))
    ∙ sym (append_assoc prefix (take n rest) (drop n rest)))

-- the first text is written whole, and a prefix of the second after it
pub prefix_after : (a b c : Option (List ℕ)) (first second : List ℕ) → Appends a b first → AppendsPrefix b c second
    → AppendsPrefix a c (first ++ second)
prefix_after a b c first second whole part = (
  first ++ part.0,
  part.1,
  ap (λ (r : List ℕ). first ++ r) part.2
      ∙ sym (append_assoc first part.0 part.1),
  Appends-trans a b c first part.0 whole part.3,
)

-- a prefix of the first text is one of both
pub prefix_before : (a b : Option (List ℕ)) (first second : List ℕ) → AppendsPrefix a b first
    → AppendsPrefix a b (first ++ second)
prefix_before a b first second part =
    (part.0, part.1 ++ second, ap (λ (r : List ℕ). r ++ second) part.2 ∙ append_assoc part.0 part.1 second, part.3)

-- what was added to the bytes of the start was consumed
abbrev pub IsAdded : Option (List ℕ) → Option (List ℕ) → List ℕ → List ℕ → Type 0
IsAdded old new start bytes = (prefix : List ℕ) × (bytes ≡ start ++ prefix) × Consumes old new prefix

-- a piece more is added
pub added_more : (old mid new : Option (List ℕ)) (start bytes piece more : List ℕ) → IsAdded old mid start bytes
    → Consumes mid new piece → more ≡ bytes ++ piece → IsAdded old new start more
added_more old mid new start bytes piece more added taken is =
    let grown = ap (λ (all : List ℕ). all ++ piece) added.1 ∙ append_assoc start added.0 piece in
    (added.0 ++ piece, is ∙ grown, Consumes-trans old mid new added.0 piece added.2 taken)

-- what was added is a prefix of what was there
pub prefix_of_added : (old new : Option (List ℕ)) (start bytes same : List ℕ) → IsAdded old new start bytes
    → same ≡ bytes → AddsPrefix old start same
prefix_of_added old new start bytes same added is = (added.0, is ∙ added.1, at old new added.2)
  where
    at : (old new : Option (List ℕ)) → Consumes old new added.0
        → IfSome old (λ all. (rest : List ℕ) × (all ≡ added.0 ++ rest))
    at None new consumed = tt
    at (Some all) None consumed = absurd consumed
    at (Some all) (Some rest) consumed = (rest, consumed)

-- the prefix of a buffer has n bytes more, once its part from a on is overwritten
pub filled_more : (xs ys : List ℕ) (a n : ℕ) → a ≤ length xs → n ≤ length ys
    → take (a + n) (put_mid a (length xs - a) xs ys) ≡ take a xs ++ take n ys
filled_more xs ys a n le few =
    let all = put_mid a (length xs - a) xs ys in
    let prefix = length-take-le a xs le in
    sym (take-take (a + n) (a + length ys) all (omega arith))
    ∙ ap (take (a + n)) (take-put_mid a (length xs - a) xs ys (a + length ys) refl le)
    ∙ take-add a n (take a xs ++ ys)
    ∙ (λ k. take_at (take a xs) ys a prefix k ++ take n (drop_at (take a xs) ys a prefix k))

-- a call after it wrote nothing
pub prefix_kept : (a b c : Option (List ℕ)) (text : List ℕ) → AppendsPrefix a b text → Keeps b c
    → AppendsPrefix a c text
prefix_kept a b c text part kept = (part.0, part.1, part.2, Appends-kept a b c part.0 part.3 kept)
