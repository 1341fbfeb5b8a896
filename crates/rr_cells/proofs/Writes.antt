-- A sample that is written, and a union, leave what is known closed.
use Rattle.std.proofs.Common.{◌≡◌, ℕ, zero, suc, ◌+◌, ◌<◌, ◌≤◌, true, false, cond, List, length, map, refl, sym, ap, ◌∙◌, subst, arith, true≢false, Some, inl, inr, ⊎_elim, ◌⊎◌}
use Rattle.std.specs.List.{range_with_len}
use Rattle.std.specs.Ordering.{eq_by_cmp}
use Rattle.std.specs.Option.{unwrap_or}
use Rattle.std.specs.FinMap.{get, get-insert, empty}
use Rattle.std.proofs.lemmas.Bool.{cases_lt, and_from, or_left, or_right}
use Rattle.rr_schema.specs.Schema.{Layout}
use Rattle.rr_join.specs.Maps.{set_of}
use Rattle.rr_join.proofs.Booleans.{and_first, and_second, either_case}
use Rattle.rr_join.proofs.Members.{is_in, same_from_tie, tie_itself}
use Rattle.rr_cells.specs.CellNames.{CellName}
use Rattle.rr_cells.specs.Samples.{Sample, Mark, mark_cmp, name_of, marks_of}
use Rattle.rr_cells.specs.Knowledge.{knows, union, with_marks, is_live_in}
use Rattle.rr_cells.specs.World.{World, id_cmp, IsWritten, with_sample, IsNext}
use Rattle.rr_cells.specs.KnowledgeLaws.{NothingIsClosed, WriterStaysClosed, WriterHoldsOwn, OthersStayClosed, OthersHoldOwn, UnionIsClosed, UnionHoldsOwn}
use Rattle.rr_cells.proofs.Orders.{mark_cmp_total, mark_cmp-IsAntisymmetric, id_cmp_total, id_cmp-IsAntisymmetric}
use Rattle.rr_cells.proofs.Knowing.{knows-empty, knows-union, knows-with_marks, live_in-union, knows-live}

-- ---- the marks of a sample

-- the sample's marks in n archives from a on
abbrev marks_from : Sample → ℕ → ℕ → List Mark
marks_from x a n = map (λ i. record { sample = x; archive = i }) (range_with_len a n)

in_marks_from : (x : Sample) (a n : ℕ) (m : Mark) → is_in mark_cmp (marks_from x a n) m ≡ true
    → (m.sample ≡ x) × (m.archive < a + n)
in_marks_from x a zero m e = absurd (true≢false (sym e))
in_marks_from x a (suc n) m e = either_case (eq_by_cmp mark_cmp m (record { sample = x; archive = a }))
    (is_in mark_cmp (marks_from x (a + 1) n) m) e
    (λ t.
    let same : m ≡ record { sample = x; archive = a } =
    same_from_tie mark_cmp_total mark_cmp-IsAntisymmetric m (record { sample = x; archive = a }) t in
    let at_a : m.archive ≡ a = ap (λ (q : Mark). q.archive) same in
    (ap (λ (q : Mark). q.sample) same, omega arith))
    (λ h. let r = in_marks_from x (a + 1) n m h in let below : m.archive < a + 1 + n = r.1 in (r.0, omega arith))

marks_from_has : (x : Sample) (a n i : ℕ) → a ≤ i → i < a + n
    → is_in mark_cmp (marks_from x a n) (record { sample = x; archive = i }) ≡ true
marks_from_has x a zero i p q = absurd (omega arith)
marks_from_has x a (suc n) i p q = ⊎_elim
    (λ h. or_right (eq_by_cmp mark_cmp (record { sample = x; archive = i }) (record { sample = x; archive = a }))
    (is_in mark_cmp (marks_from x (a + 1) n) (record { sample = x; archive = i }))
    (marks_from_has x (a + 1) n i (omega arith) (omega arith)))
    (λ h. or_left (eq_by_cmp mark_cmp (record { sample = x; archive = i }) (record { sample = x; archive = a }))
    (is_in mark_cmp (marks_from x (a + 1) n) (record { sample = x; archive = i }))
    (let at_a : i ≡ a = omega arith in subst (λ j. eq_by_cmp mark_cmp (record { sample = x; archive = i })
    (record { sample = x; archive = j }) ≡ true) at_a
    (tie_itself mark_cmp_total mark_cmp-IsAntisymmetric (record { sample = x; archive = i }))))
    (cases_lt a i)

-- each mark of a sample is it, seen in an archive of the layout
pub in_marks_of : (s : Layout) (x : Sample) (m : Mark) → is_in mark_cmp (marks_of s x) m ≡ true
    → (m.sample ≡ x) × (m.archive < length s.archives)
in_marks_of s x m e = let r = in_marks_from x 0 (length s.archives) m e in
    let below : m.archive < 0 + length s.archives = r.1 in (r.0, omega arith)

-- and there is one in each archive
pub marks_of_has : (s : Layout) (x : Sample) (m : Mark) → m.sample ≡ x → m.archive < length s.archives
    → is_in mark_cmp (marks_of s x) m ≡ true
marks_of_has s x m same below = subst (λ y. is_in mark_cmp (marks_of s x) (record { sample = y; archive = m.archive })
    ≡ true) (sym same) (marks_from_has x 0 (length s.archives) m.archive (omega arith) (omega arith))

-- ---- the world with one sample more

written_before : (w : World) (x y : Sample) → IsNext w x → IsWritten w y → IsWritten (with_sample w x) y
written_before w x y next e =
    get-insert id_cmp_total w (x.origin, x.number) x (y.origin, y.number)
    ∙ elim (eq_by_cmp id_cmp (y.origin, y.number) (x.origin, x.number)) as
    (λ b. eq_by_cmp id_cmp (y.origin, y.number) (x.origin, x.number) ≡ b
    → cond b (Some x) (get w (y.origin, y.number)) ≡ Some y) [
      | true ↦ λ t.
          let same = same_from_tie id_cmp_total id_cmp-IsAntisymmetric (y.origin, y.number) (x.origin, x.number) t in
          let below : y.number < x.number = next y e (ap (λ (q : ℕ × ℕ). q.0) same) in
          let equal : y.number ≡ x.number = ap (λ (q : ℕ × ℕ). q.1) same in
          absurd (omega arith)
      | false ↦ λ t. e
    ] refl

-- what is written then was written before, or is that sample
pub written_now : (w : World) (x y : Sample) → IsWritten (with_sample w x) y → (y ≡ x) ⊎ IsWritten w y
written_now w x y e =
    elim (eq_by_cmp id_cmp (y.origin, y.number) (x.origin, x.number)) as
    (λ b. cond b (Some x) (get w (y.origin, y.number)) ≡ Some y → (y ≡ x) ⊎ IsWritten w y) [
      | true ↦ λ h. inl (ap (λ v. unwrap_or v x) (sym h))
      | false ↦ λ h. inr h
    ] (sym (get-insert id_cmp_total w (x.origin, x.number) x (y.origin, y.number)) ∙ e)

itself_written : (w : World) (x : Sample) → IsWritten (with_sample w x) x
itself_written w x = get-insert id_cmp_total w (x.origin, x.number) x (x.origin, x.number)
    ∙ ap (λ b. cond b (Some x) (get w (x.origin, x.number)))
    (tie_itself id_cmp_total id_cmp-IsAntisymmetric (x.origin, x.number))

-- ---- closed knowledges

pub nothing_is_closed : NothingIsClosed
nothing_is_closed s w = record {
  written = λ m e. absurd (true≢false (sym e ∙ knows-empty m));
  earlier = λ m other alive of same below. absurd
      (true≢false (sym (and_first (knows empty m) (is_live_in s empty (name_of s m))
      (sym (knows-live s empty m) ∙ alive)) ∙ knows-empty m));
}

pub others_stay_closed : OthersStayClosed
others_stay_closed s w k x ck next = record {
  written = λ m e. let h = ck.written m e in (written_before w x m.sample next h.0, h.1);
  earlier = λ m other alive of same below. ⊎_elim
      (λ is.
      let known = ck.written m (and_first (knows k m) (is_live_in s k (name_of s m)) (sym (knows-live s k m) ∙ alive))
      in
      let number : other.number ≡ x.number = ap (λ (q : Sample). q.number) is in
      let origin : m.origin ≡ x.origin = sym (ap (λ (q : CellName). q.origin) same)
      ∙ ap (λ (q : Sample). q.origin) is in
      let less : m.number < x.number = next m.sample known.0 origin in
      absurd (omega arith))
      (λ h. ck.earlier m other alive (h, of.1) same below)
      (written_now w x other.sample of.0);
}

pub writer_stays_closed : WriterStaysClosed
writer_stays_closed s w k x is ck next own = record {
  written = λ m e. either_case (knows k m) (is_in mark_cmp (marks_of s x) m)
      (sym (knows-with_marks k (marks_of s x) m) ∙ e)
      (λ h. let r = ck.written m h in (written_before w x m.sample next r.0, r.1))
      (λ h. let r = in_marks_of s x m h in (
        subst (λ y. IsWritten (with_sample w x) y) (sym r.0) (itself_written w x),
        r.1,
      ));
  earlier = λ m other alive of same below.
      let here = sym (knows-live s (with_marks k (marks_of s x)) m) ∙ alive in
      let live_now = and_second (knows (with_marks k (marks_of s x)) m)
      (is_live_in s (with_marks k (marks_of s x)) (name_of s m)) here in
      knows-with_marks k (marks_of s x) other ∙ ⊎_elim
      (λ new. or_right (knows k other) (is_in mark_cmp (marks_of s x) other) (marks_of_has s x other new of.1))
      (λ old. or_left (knows k other) (is_in mark_cmp (marks_of s x) other)
      (either_case (knows k m) (is_in mark_cmp (marks_of s x) m)
      (sym (knows-with_marks k (marks_of s x) m) ∙ and_first (knows (with_marks k (marks_of s x)) m)
      (is_live_in s (with_marks k (marks_of s x)) (name_of s m)) here)
      (λ h. ck.earlier m other (knows-live s k m ∙ and_from (knows k m) (is_live_in s k (name_of s m)) h
      (and_first (is_live_in s k (name_of s m)) (is_live_in s (set_of (marks_of s x)) (name_of s m))
      (sym (live_in-union s is k (set_of (marks_of s x)) (name_of s m)) ∙ live_now))) (old, of.1) same below)
      (λ h.
      let origin : other.origin ≡ x.origin = ap (λ (q : CellName). q.origin) same
      ∙ ap (λ (q : Sample). q.origin) (in_marks_of s x m h).0 in
      own other (old, of.1) origin)))
      (written_now w x other.sample of.0);
}

pub union_is_closed : UnionIsClosed
union_is_closed s w k l is ck cl = record {
  written = λ m e. either_case (knows k m) (knows l m) (sym (knows-union k l m) ∙ e) (λ h. ck.written m h)
      (λ h. cl.written m h);
  earlier = λ m other alive of same below.
      let here = sym (knows-live s (union k l) m) ∙ alive in
      let lives = sym (live_in-union s is k l (name_of s m))
      ∙ and_second (knows (union k l) m) (is_live_in s (union k l) (name_of s m)) here in
      knows-union k l other ∙ either_case (knows k m) (knows l m)
      (sym (knows-union k l m) ∙ and_first (knows (union k l) m) (is_live_in s (union k l) (name_of s m)) here)
      (λ h. or_left (knows k other) (knows l other)
      (ck.earlier m other (knows-live s k m ∙ and_from (knows k m) (is_live_in s k (name_of s m)) h
      (and_first (is_live_in s k (name_of s m)) (is_live_in s l (name_of s m)) lives)) of same below))
      (λ h. or_right (knows k other) (knows l other)
      (cl.earlier m other (knows-live s l m ∙ and_from (knows l m) (is_live_in s l (name_of s m)) h
      (and_second (is_live_in s k (name_of s m)) (is_live_in s l (name_of s m)) lives)) of same below));
}

-- ---- who holds all marks of its own origin

pub writer_holds_own : WriterHoldsOwn
writer_holds_own s w k x own m of same =
    knows-with_marks k (marks_of s x) m ∙ ⊎_elim
    (λ new. or_right (knows k m) (is_in mark_cmp (marks_of s x) m) (marks_of_has s x m new of.1))
    (λ old. or_left (knows k m) (is_in mark_cmp (marks_of s x) m) (own m (old, of.1) same))
    (written_now w x m.sample of.0)

pub others_hold_own : OthersHoldOwn
others_hold_own s w k x origin other own m of same = ⊎_elim
    (λ new. absurd (other (sym same ∙ ap (λ (y : Sample). y.origin) new)))
    (λ old. own m (old, of.1) same)
    (written_now w x m.sample of.0)

pub union_holds_own : UnionHoldsOwn
union_holds_own s w k l origin own m of same = knows-union k l m ∙ or_left (knows k m) (knows l m) (own m of same)
