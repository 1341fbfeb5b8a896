-- The book: what its editions have, and the exchange that adds one.
use Rattle.std.proofs.Common.{◌≡◌, ℕ, ◌+◌, ◌<◌, ◌==◌, Bool, true, false, List, [], ◌∷◌, ◌++◌, length, refl, sym, ap, ◌∙◌, subst, arith, inl, length-append, append_assoc, append-nil, None, Result, Ok, Err, OnOk}
use Rattle.std.proofs.Math.Seq.{drop-append_seam}
use Rattle.std.proofs.lemmas.Bool.Decides.{nat_tests}
use mathlib.Core.List.{IsPrefix}
use prog.Atomic.{either}
use Rattle.logbook.specs.Pages.{Cell, cell, keeps, no_nib, step, Moves, Goes}
use Rattle.rr_cells.specs.declared.op.Op.{Op}
use Rattle.rr_desk.specs.Editions.{BookPrefix, flat, after, Begins, IsCounted, Adds}
use Rattle.rr_desk.proofs.PrefixLemmas.{prefix_all}

pub flat-append : (xs ys : List (List Op)) → flat (xs ++ ys) ≡ flat xs ++ flat ys
flat-append [] ys = refl
flat-append (x ∷ xs) ys = ap (λ (l : List Op). x ++ l) (flat-append xs ys) ∙ sym (append_assoc x (flat xs) (flat ys))

-- what begins a book has a beginning of its operations
pub flat-prefix : (xs ys : List (List Op)) → IsPrefix xs ys → IsPrefix (flat xs) (flat ys)
flat-prefix xs ys p = (flat p.0, sym (flat-append xs p.0) ∙ ap flat p.1)

-- ---- beginnings

pub begins-append : (xs ys : List Op) → Begins xs (xs ++ ys)
begins-append xs ys = ap (λ (l : List Op). xs ++ l) (drop-append_seam xs ys)

pub begins-refl : (xs : List Op) → Begins xs xs
begins-refl xs = subst (λ (l : List Op). Begins xs l) (append-nil xs) (begins-append xs [])

pub begins-more : (xs ys zs : List Op) → Begins xs ys → Begins xs (ys ++ zs)
begins-more xs ys zs b =
    let e : xs ++ (after xs ys ++ zs) ≡ ys ++ zs = sym (append_assoc xs (after xs ys) zs)
    ∙ ap (λ (l : List Op). l ++ zs) b in
    subst (λ (l : List Op). Begins xs l) e (begins-append xs (after xs ys ++ zs))

-- a book with an edition of what it lacks
pub flat-reached : (book : List (List Op)) (all batch : List Op) → Begins (flat book) all
    → batch ≡ after (flat book) all → flat (book ++ batch ∷ []) ≡ all
flat-reached book all batch b is = flat-append book (batch ∷ [])
    ∙ (ap (λ (l : List Op). flat book ++ l) (append-nil batch ∙ is) ∙ b)

pub reached : {E : Type 0} (r : Result (Unit {0}) E) (old new : BookPrefix) (all batch : List Op)
    → OnOk r (new ≡ record { desk = old.desk; editions = old.editions ++ batch ∷ [] })
    → batch ≡ after (flat old.editions) all → Begins (flat old.editions) all → OnOk r (flat new.editions ≡ all)
reached (Ok u) old new all batch added is b = ap (λ (s : BookPrefix). flat s.editions) added
    ∙ flat-reached old.editions all batch b is
reached (Err e) old new all batch added is b = tt

-- ---- the exchange

abbrev pub shown : List (List Op) → List (List Op)
shown book = []

abbrev pub moved : List (List Op) → List (List Op) → ℕ → Type 0
moved xs ys n = Unit {0}

goes : (book v : List (List Op)) (batch ask : List Op) (old : ℕ) → length v ≡ old → IsPrefix v book → (b : Bool)
    → (length book == old) ≡ b
    → Goes IsCounted shown moved 0 (v, (no_nib, None)) (λ n. either (n == old) (old + 1) n)
    (Adds batch (step 0 old (old + 1) ask) (v, (no_nib, None))) ((length book, true) ∷ (0, true) ∷ []) book
goes book v batch ask old len pre true is =
    let here : length book ≡ old = grind (arith, nat_tests) in
    let same : v ≡ book = prefix_all v book pre (omega arith) in
    let n : either (length book == old) (old + 1) (length book) ≡ length (book ++ batch ∷ []) =
    rw is (omega (arith, length-append book (batch ∷ []))) in (
      keeps,
      batch ∷ [],
      None,
      tt,
      ap (λ (k : ℕ). (k, true) ∷ (0, true) ∷ []) n,
      inl (refl, refl),
      rw is (ap (λ w. w ++ batch ∷ []) (sym same)),
    )
goes book v batch ask old len pre false is =
    let n : either (length book == old) (old + 1) (length book) ≡ length (book ++ []) =
    rw is (sym (ap length (append-nil book))) in
    (keeps, [], None, tt, ap (λ (k : ℕ). (k, true) ∷ (0, true) ∷ []) n, inl (refl, refl), rw is tt)

-- whatever the book has by then, the exchange adds the batch to all that was seen, or finds another number
pub adds_moves : (v : List (List Op)) (batch ask : List Op) (old : ℕ) → length v ≡ old
    → Moves IsCounted shown moved 0 (v, (no_nib, None)) (λ n. either (n == old) (old + 1) n)
    (Adds batch (step 0 old (old + 1) ask) (v, (no_nib, None)))
adds_moves v batch ask old len words book counted pre away =
    let P : List Cell → Type 0 = λ c. (0 < length c) × ((cell c 0).1 ≡ true)
    × Goes IsCounted shown moved 0 (v, (no_nib, None)) (λ n. either (n == old) (old + 1) n)
    (Adds batch (step 0 old (old + 1) ask) (v, (no_nib, None))) c book in
    subst P (sym counted) (omega arith, refl, goes book v batch ask old len pre (length book == old) refl)
