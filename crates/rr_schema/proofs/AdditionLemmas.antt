-- What was added to an older schema is found by the bytes of its archives.
use Rattle.std.proofs.Common.{◌≡◌, ◌≢◌, ℕ, zero, suc, ◌+◌, ◌<◌, ◌≤◌, Bool, true, false, cond, List, [], length, take, drop, map, All, Option, None, Some, refl, sym, ap, ◌∙◌, subst, arith, inl, inr, true≢false, append-nil}
use Rattle.std.specs.Prelude.{◌==◌, ◌⊎◌, if◌then◌else◌}
use Rattle.std.specs.Cmp.Lexicographic.{bytes_decides}
use Rattle.std.specs.List.{find, flat_map, range_with_len}
use Rattle.std.proofs.lemmas.Bool.{eqb-true, eq-eqb}
use Rattle.std.proofs.lemmas.List.Elements.{All-append, All-take, All-drop}
use Rattle.rr_schema.specs.declared.added.Addition.{Addition}
use Rattle.rr_schema.specs.declared.added.Addition.TheVariants.{Nothing, Archive}
use Rattle.rr_schema.specs.declared.archive.ArchiveSpec.{ArchiveSpec}
use Rattle.rr_schema.specs.Schema.{Layout, IsArchive, IsLayout}
use Rattle.rr_schema.specs.SchemaBytes.{archive_bytes}
use Rattle.rr_schema.specs.Added.{IsAddition, additions, older, had_archives, addition_since, AdditionsAreFound}
use Rattle.rr_schema.proofs.AddedLemmas.{length-without, one_is_added, one_less_is_layout}
use Rattle.rr_schema.proofs.SchemaBytesLemmas.{archives_len, tell_archives}

-- ---- what is found among all additions

abbrev archives_from : ℕ → ℕ → List Addition
archives_from k n = map Archive (range_with_len k n)

-- an addition that is found is one, and passes the test
found_from : (test : Addition → Bool) (k n : ℕ) (a : Addition) → find test (archives_from k n) ≡ Some a
    → (i : ℕ) × (a ≡ Archive i) × (i < k + n) × (test a ≡ true)
found_from test k zero a e = absurd (cc e)
found_from test k (suc n) a e = elim (test (Archive k)) as
    (λ b. test (Archive k) ≡ b → cond b (Some (Archive k)) (find test (archives_from (k + 1) n)) ≡ Some a
    → (i : ℕ) × (a ≡ Archive i) × (i < k + suc n) × (test a ≡ true)) [
      | true ↦ λ t is. let same : Archive k ≡ a = cc is in (k, sym same, omega arith, subst (λ x. test x ≡ true) same t)
      | false ↦ λ t is. let rest = found_from test (k + 1) n a is in
          (rest.0, rest.1, let low = rest.2 in omega (arith, low), rest.3)
    ] refl e

pub found_addition : (s : Layout) (test : Addition → Bool) (a : Addition) → find test (additions s) ≡ Some a
    → IsAddition s a × (test a ≡ true)
found_addition s test a e = elim (test Nothing) as
    (λ b. test Nothing ≡ b → cond b (Some Nothing) (find test (archives_from 0 (length s.archives))) ≡ Some a
    → IsAddition s a × (test a ≡ true)) [
      | true ↦ λ t is. let same : Nothing ≡ a = cc is in
          (subst (IsAddition s) same tt, subst (λ x. test x ≡ true) same t)
      | false ↦ λ t is.
          let rest = found_from test 0 (length s.archives) a is in
          let there : rest.0 < length s.archives = let low = rest.2 in omega (arith, low) in
          (subst (IsAddition s) (sym rest.1) there, rest.3)
    ] refl e

-- where none is found, none passes
missed_from : (test : Addition → Bool) (k n : ℕ) → find test (archives_from k n) ≡ None → (i : ℕ) → k ≤ i → i < k + n
    → test (Archive i) ≡ false
missed_from test k zero e i from below = absurd (omega (arith, from, below))
missed_from test k (suc n) e i from below = elim
    (test (Archive k)) as (λ b. test (Archive k) ≡ b
    → cond b (Some (Archive k)) (find test (archives_from (k + 1) n)) ≡ None → test (Archive i) ≡ false) [
      | true ↦ λ t is. absurd (cc is)
      | false ↦ λ t is. elim (first (i == k) refl) [
        | inl same ↦ ap (λ j. test (Archive j)) same ∙ t
        | inr later ↦ missed_from test (k + 1) n is i later (omega (arith, below))
      ]
    ] refl e
  where
    first : (b : Bool) → (i == k) ≡ b → (i ≡ k) ⊎ (k + 1 ≤ i)
    first true h = inl (eqb-true i k h)
    first false h = inr (omega (arith, from, other h))
      where
        other : (i == k) ≡ false → i ≢ k
        other h e = true≢false (sym (eq-eqb i k e) ∙ h)

pub missed_addition : (s : Layout) (test : Addition → Bool) → find test (additions s) ≡ None → (a : Addition)
    → IsAddition s a → test a ≡ false
missed_addition s test e a there = elim (test Nothing) as
    (λ b. test Nothing ≡ b → cond b (Some Nothing) (find test (archives_from 0 (length s.archives))) ≡ None
    → test a ≡ false) [
      | true ↦ λ t is. absurd (cc is)
      | false ↦ λ t is. each a there t is
    ] refl e
  where
    each : (a : Addition) → IsAddition s a → test Nothing ≡ false
        → find test (archives_from 0 (length s.archives)) ≡ None → test a ≡ false
    each Nothing there t is = t
    each (Archive i) there t is = missed_from test 0 (length s.archives) is i (omega arith) (omega (arith, there))

-- ---- the first that passes

-- the one addition that passes is found
pub found_is : (s : Layout) (test : Addition → Bool) (a : Addition) → IsAddition s a → test a ≡ true
    → ((b : Addition) → IsAddition s b → test b ≡ true → b ≡ a) → find test (additions s) ≡ Some a
found_is s test a there passes one = by_found (find test (additions s)) refl
  where
    by_found : (o : Option Addition) → find test (additions s) ≡ o → find test (additions s) ≡ Some a
    by_found None e = absurd (true≢false (sym passes ∙ missed_addition s test e a there))
    by_found (Some b) e = let f = found_addition s test b e in e ∙ ap Some (one b f.0 f.1)

-- ---- by the bytes of archives

-- archives within the limits have the same bytes only where they are the same
same_archives : (xs ys : List ArchiveSpec) → All IsArchive xs → All IsArchive ys
    → flat_map archive_bytes xs ≡ flat_map archive_bytes ys → xs ≡ ys
same_archives xs ys p q e =
    let many : length xs ≡ length ys = omega (arith, archives_len xs, archives_len ys, ap length e) in
    (tell_archives xs ys [] [] p q many (append-nil (flat_map archive_bytes xs) ∙ e
    ∙ sym (append-nil (flat_map archive_bytes ys)))).0

older_each : (s : Layout) (a : Addition) → IsLayout s → All IsArchive (older s a).archives
older_each s Nothing is = is.each
older_each s (Archive i) is = All-append IsArchive (take i s.archives) (drop (i + 1) s.archives)
    (All-take IsArchive i s.archives is.each) (All-drop IsArchive (i + 1) s.archives is.each)

pub older_is_layout : (s : Layout) (a : Addition) → IsLayout s → IsAddition s a → 1 ≤ length (older s a).archives
    → IsLayout (older s a)
older_is_layout s Nothing is there some = is
older_is_layout s (Archive i) is there some = one_less_is_layout i s (older s (Archive i)) is
    (record { step = refl; number = there; others = refl }) some

pub older_step : (s : Layout) (a : Addition) → (older s a).step ≡ s.step
older_step s Nothing = refl
older_step s (Archive i) = refl

-- no two additions leave the same archives
one_addition : (s : Layout) (a b : Addition) → IsLayout s → IsAddition s a → IsAddition s b
    → (older s b).archives ≡ (older s a).archives → b ≡ a
one_addition s Nothing Nothing is p q e = refl
one_addition s Nothing (Archive j) is p q e = absurd (omega (arith, ap length e, length-without j s.archives q))
one_addition s (Archive i) Nothing is p q e = absurd (omega (arith, ap length e, length-without i s.archives p))
one_addition s (Archive i) (Archive j) is p q e =
    ap Archive (one_is_added j i s (older s (Archive i)) is (record { step = refl; number = q; others = sym e })
    (record { step = refl; number = p; others = refl }))

-- the bytes of the archives before an addition tell it
pub addition_is_told : (s : Layout) (a b : Addition) → IsLayout s → IsAddition s a → IsAddition s b
    → had_archives s (flat_map archive_bytes (older s a).archives) b ≡ true → b ≡ a
addition_is_told s a b is p q e =
    let bytes = (bytes_decides (flat_map archive_bytes (older s a).archives)
    (flat_map archive_bytes (older s b).archives)).0 e in
    one_addition s a b is p q (same_archives (older s b).archives (older s a).archives (older_each s b is)
    (older_each s a is) (sym bytes))

pub had_its_own : (s : Layout) (a : Addition) → had_archives s (flat_map archive_bytes (older s a).archives) a ≡ true
had_its_own s a = (bytes_decides (flat_map archive_bytes (older s a).archives)
    (flat_map archive_bytes (older s a).archives)).1 refl

-- a schema of the same step whose archives have these bytes is the older one
pub had_is_older : (s t : Layout) (a : Addition) → IsLayout s → IsLayout t → t.step ≡ s.step
    → had_archives s (flat_map archive_bytes t.archives) a ≡ true → t ≡ older s a
had_is_older s t a is other step e =
    let bytes = (bytes_decides (flat_map archive_bytes t.archives) (flat_map archive_bytes (older s a).archives)).0 e in
    let same = same_archives t.archives (older s a).archives other.each (older_each s a is) bytes in
    let steps : t.step ≡ (older s a).step = step ∙ sym (older_step s a) in
    λ j. record { step = steps j; archives = same j }

abbrev since : Layout → Layout → Bool → Option Addition
since s t b = if b then find (had_archives s (flat_map archive_bytes t.archives)) (additions s) else None

pub additions_are_found : AdditionsAreFound
additions_are_found s t a is other = (to, from)
  where
    to : addition_since s t ≡ Some a → IsAddition s a × (t ≡ older s a)
    to e = elim (t.step == s.step) as (λ b. (t.step == s.step) ≡ b → since s t b ≡ Some a
        → IsAddition s a × (t ≡ older s a)) [
          | true ↦ λ h found.
              let passed = found_addition s (had_archives s (flat_map archive_bytes t.archives)) a found in
              (passed.0, had_is_older s t a is other (eqb-true t.step s.step h) passed.1)
          | false ↦ λ h none. absurd (cc none)
        ] refl e

    from : IsAddition s a × (t ≡ older s a) → addition_since s t ≡ Some a
    from p =
        let step = eq-eqb t.step s.step (ap (λ (x : Layout). x.step) p.1 ∙ older_step s a) in
        ap (since s t) step
        ∙ ap (λ (x : Layout). find (had_archives s (flat_map archive_bytes x.archives)) (additions s)) p.1
        ∙ found_is s (had_archives s (flat_map archive_bytes (older s a).archives)) a p.0 (had_its_own s a)
        (λ b q e. addition_is_told s a b is p.0 q e)
