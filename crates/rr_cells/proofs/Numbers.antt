-- What archives, slots and places are under the schema with one archive more.
use Rattle.std.proofs.Common.{◌≡◌, ℕ, ℤ, ◌+◌, ◌-◌, ◌<◌, ◌≤◌, true, false, cond, List, length, take, drop, get_or, refl, sym, ap, ◌∙◌, arith, inl, inr}
use Rattle.std.specs.Prelude.{nat_lt, ◌==◌, ◌⊎◌, pos, ◌-ℤ◌, ◌*ℤ◌, ◌*◌, unsigned_abs}
use Rattle.std.specs.Int.{int_div_euclid}
use Rattle.std.specs.Ordering.{nat_cmp, int_cmp, ordering_then}
use Rattle.std.specs.Cmp.Lexicographic.{slice_cmp}
use Rattle.std.proofs.lemmas.Bool.{cases_lt, lt-ltb, le-ltb, eq-eqb, ne_eqb, eqb-true}
use Rattle.std.proofs.lemmas.List.{length-take, get_or-take, get_or-drop, get_or_append_left, get_or-append_right}
use Rattle.rr_schema.specs.declared.archive.ArchiveSpec.{ArchiveSpec}
use Rattle.rr_schema.specs.Schema.{Layout, archive_at, slot_of, place_of}
use Rattle.rr_cells.specs.CellNames.{CellName, cell_name_cmp}
use Rattle.rr_cells.specs.Samples.{Mark, mark_cmp, name_of}
use Rattle.rr_schema.specs.declared.added.Addition.TheVariants.{Archive}
use Rattle.rr_schema.specs.Added.{HasAdded, without}
use Rattle.rr_cells.specs.Raising.{raised, raised_name, raised_mark}

-- ---- numbers

pub stays : (i a : ℕ) → a < i → raised (Archive i) a ≡ a
stays i a h = ap (λ b. cond b a (a + 1)) (lt-ltb a i h)

pub rises : (i a : ℕ) → i ≤ a → raised (Archive i) a ≡ a + 1
rises i a h = ap (λ b. cond b a (a + 1)) (le-ltb a i h)

-- none has the number of the one that was added
pub not_added : (i a : ℕ) → raised (Archive i) a ≡ i → ⊥
not_added i a e = elim (cases_lt a i) [
  | inl h ↦ absurd (omega (arith, h, stays i a h, e))
  | inr h ↦ absurd (omega (arith, h, rises i a h, e))
]

-- numbers keep their order
pub raised_cmp : (i a b : ℕ) → nat_cmp (raised (Archive i) a) (raised (Archive i) b) ≡ nat_cmp a b
raised_cmp i a b = elim (cases_lt a i) [
  | inl p ↦ elim (cases_lt b i) [
    | inl q ↦ λ j. nat_cmp (stays i a p j) (stays i b q j)
    | inr q ↦ (λ j. nat_cmp (stays i a p j) (rises i b q j)) ∙ apart a b p q
  ]
  | inr p ↦ elim (cases_lt b i) [
    | inl q ↦ (λ j. nat_cmp (rises i a p j) (stays i b q j)) ∙ apart_too a b p q
    | inr q ↦ (λ j. nat_cmp (rises i a p j) (rises i b q j)) ∙ both a b
  ]
]
  where
    apart : (a b : ℕ) → a < i → i ≤ b → nat_cmp a (b + 1) ≡ nat_cmp a b
    apart a b p q = grind arith

    apart_too : (a b : ℕ) → i ≤ a → b < i → nat_cmp (a + 1) b ≡ nat_cmp a b
    apart_too a b p q = grind arith

    both : (a b : ℕ) → nat_cmp (a + 1) (b + 1) ≡ nat_cmp a b
    both a b = grind arith

pub raised_same : (i a b : ℕ) → raised (Archive i) a ≡ raised (Archive i) b → a ≡ b
raised_same i a b e = elim (cases_lt a i) [
  | inl p ↦ elim (cases_lt b i) [
    | inl q ↦ omega (arith, stays i a p, stays i b q, e)
    | inr q ↦ absurd (omega (arith, p, q, stays i a p, rises i b q, e))
  ]
  | inr p ↦ elim (cases_lt b i) [
    | inl q ↦ absurd (omega (arith, p, q, rises i a p, stays i b q, e))
    | inr q ↦ omega (arith, rises i a p, rises i b q, e)
  ]
]

pub raised_eq : (i a b : ℕ) → (raised (Archive i) a == raised (Archive i) b) ≡ (a == b)
raised_eq i a b = elim (a == b) as (λ t. (a == b) ≡ t → (raised (Archive i) a == raised (Archive i) b) ≡ t) [
  | true ↦ λ t. eq-eqb (raised (Archive i) a) (raised (Archive i) b) (ap (raised (Archive i)) (eqb-true a b t))
  | false ↦ λ t. ne_eqb (raised (Archive i) a) (raised (Archive i) b) (λ e. absurd (other (raised_same i a b e) t))
] refl
  where
    other : a ≡ b → (a == b) ≡ false → ⊥
    other e t = let h : (a == b) ≡ true = eq-eqb a b e in absurd (cc (sym h ∙ t))

-- a number other than the one that was added is one that was raised
pub lowered : ℕ → ℕ → ℕ
lowered i a = cond (nat_lt a i) a (a - 1)

pub raised-lowered : (i a : ℕ) → (a ≡ i → ⊥) → raised (Archive i) (lowered i a) ≡ a
unfolding lowered
raised-lowered i a other = elim (cases_lt a i) [
  | inl h ↦ ap (raised (Archive i)) (ap (λ b. cond b a (a - 1)) (lt-ltb a i h)) ∙ stays i a h
  | inr h ↦ ap (raised (Archive i)) (ap (λ b. cond b a (a - 1)) (le-ltb a i h)) ∙ above h (cases_lt i a)
]
  where
    above : i ≤ a → (i < a) ⊎ (a ≤ i) → raised (Archive i) (a - 1) ≡ a
    above h (inl more) = rises i (a - 1) (omega arith) ∙ omega arith
    above h (inr less) = absurd (other (omega arith))

-- ---- lists

pub get_or-without : {A : Type 0} (i a : ℕ) (xs : List A) (d : A) → i < length xs
    → get_or (without i xs) a d ≡ get_or xs (raised (Archive i) a) d
get_or-without i a xs d h =
    let prefix : length (take i xs) ≡ i = omega (arith, length-take i xs) in
    elim (cases_lt a i) [
      | inl p ↦ get_or_append_left (take i xs) (drop (i + 1) xs) d a (omega (arith, prefix, p)) ∙ get_or-take i xs a d p
          ∙ sym (ap (λ k. get_or xs k d) (stays i a p))
      | inr p ↦ get_or-append_right (take i xs) (drop (i + 1) xs) i a d prefix p ∙ get_or-drop (i + 1) xs (a - i) d
          ∙ ap (λ k. get_or xs k d) (let here : i + 1 + (a - i) ≡ a + 1 = omega (arith, p) in here ∙ sym (rises i a p))
    ]

-- ---- archives

module _ (i : ℕ) (s t : Layout) (added : HasAdded i s t) where
  pub archive_is_same : (a : ℕ) → archive_at s (raised (Archive i) a) ≡ archive_at t a
  archive_is_same a =
      let past : ArchiveSpec = record { steps = 1; rows = 1; num = 0; den = 1 } in
      sym (ap (λ xs. get_or xs a past) added.others ∙ get_or-without i a s.archives past added.number)

  pub slot_is_same : (a : ℕ) (time : ℤ) → slot_of s (raised (Archive i) a) time ≡ slot_of t a time
  slot_is_same a time = λ j. int_div_euclid time (pos (sym added.step j * (archive_is_same a j).steps * 1_000_000_000))

  pub place_is_same : (a : ℕ) (time : ℤ) → place_of s (raised (Archive i) a) time ≡ place_of t a time
  unfolding place_of
  place_is_same a time = λ j. unsigned_abs (int_div_euclid time (pos (sym added.step j * 1_000_000_000)) -ℤ
      (slot_is_same a time j *ℤ pos (archive_is_same a j).steps))

  pub name_is_raised : (m : Mark) → name_of s (raised_mark (Archive i) m) ≡ raised_name (Archive i) (name_of t m)
  name_is_raised m = λ j. record {
    key = m.key;
    archive = raised (Archive i) m.archive;
    slot =
        slot_is_same m.archive m.time j;
    origin = m.origin;
  }

-- ---- orders

pub raised_name_cmp : (i : ℕ) (a b : CellName) → cell_name_cmp (raised_name (Archive i) a) (raised_name (Archive i) b)
    ≡ cell_name_cmp a b
raised_name_cmp i a b = λ j. ordering_then (slice_cmp nat_cmp a.key b.key)
    (ordering_then (raised_cmp i a.archive b.archive j)
    (ordering_then (int_cmp a.slot b.slot) (nat_cmp a.origin b.origin)))

pub raised_mark_cmp : (i : ℕ) (a b : Mark) → mark_cmp (raised_mark (Archive i) a) (raised_mark (Archive i) b)
    ≡ mark_cmp a b
raised_mark_cmp i a b = λ j. ordering_then (int_cmp a.time b.time)
    (ordering_then (nat_cmp a.origin b.origin) (ordering_then (nat_cmp a.number b.number)
    (ordering_then (raised_cmp i a.archive b.archive j)
    (ordering_then (slice_cmp nat_cmp a.key b.key) (int_cmp a.value b.value)))))
