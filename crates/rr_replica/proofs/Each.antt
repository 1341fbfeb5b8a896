-- Archives that are changed one after the other.
use Rattle.std.proofs.Common.{◌≡◌, ◌≢◌, ℕ, zero, suc, ◌+◌, ◌<◌, ◌≤◌, Bool, ℤ, true, List, [], ◌∷◌, ◌++◌, take, map, length, set, slice_get, refl, sym, ap, ◌∙◌, subst, arith, Option, Some, None, ⊎_elim, true≢false, is_some, unwrap_or, get_or}
use Rattle.std.specs.Prelude.{IsTrue, IfSome, OnErr, Result, Ok, Err}
use Rattle.std.specs.Option.{option_map}
use Rattle.std.specs.FinMap.{get}
use Rattle.std.proofs.lemmas.Bool.{cases_lt}
use Rattle.std.proofs.lemmas.Bool.Decides.{eqb_tells}
use Rattle.std.proofs.lemmas.Option.{slice_get_within, slice_get-get_or, get_or_from_slice_get}
use Rattle.rr_schema.specs.declared.archive.ArchiveSpec.{ArchiveSpec}
use Rattle.rr_schema.specs.Schema.{Layout, archive_at, slot_of}
use Rattle.rr_contrib.specs.Validity.{CanAdd}
use Rattle.rr_archive.specs.CellSlots.{CellSlot, cell_slot}
use Rattle.rr_archive.specs.Cells.{ArchiveCells, put_in_archive}
use Rattle.rr_replica.specs.declared.unkeyed_sample.UnkeyedSample.{UnkeyedSample}
use Rattle.rr_replica.specs.Archives.{cell_slot_for, sample_for, Each, AreSized, AreReadyFrom, CanTake, AreSame, HavePut}

-- within a list there is something
pub reached : {X : Type 0} (xs : List X) (j : ℕ) → j < length xs → (x : X) × (slice_get xs j ≡ Some x)
reached [] j h = absurd (omega arith)
reached (x ∷ xs) zero h = (x, refl)
reached (x ∷ xs) (suc j) h = reached xs j (omega arith)

-- what is read at a place, as the list has it
pub found_at : {X : Type 0} (xs : List X) (i : ℕ) (d : X) → i < length xs → d ≡ get_or xs i d → slice_get xs i ≡ Some d
found_at xs i d within is = slice_get-get_or xs i d within ∙ ap (λ x. Some x) (sym is)

pub on_err_from : {T E P : Type 0} (r : Result T E) → P → OnErr r P
on_err_from (Ok x) h = tt
on_err_from (Err e) h = h

-- ---- lists

pub slice_get-set_same : {X : Type 0} (xs : List X) (i : ℕ) (v : X) → i < length xs → slice_get (set xs i v) i ≡ Some v
slice_get-set_same [] i v h = absurd (omega arith)
slice_get-set_same (x ∷ xs) zero v h = refl
slice_get-set_same (x ∷ xs) (suc i) v h = slice_get-set_same xs i v (omega arith)

pub slice_get-set_other : {X : Type 0} (xs : List X) (i j : ℕ) (v : X) → j ≢ i
    → slice_get (set xs i v) j ≡ slice_get xs j
slice_get-set_other [] i j v h = refl
slice_get-set_other (x ∷ xs) zero zero v h = absurd (h refl)
slice_get-set_other (x ∷ xs) zero (suc j) v h = refl
slice_get-set_other (x ∷ xs) (suc i) zero v h = refl
slice_get-set_other (x ∷ xs) (suc i) (suc j) v h = slice_get-set_other xs i j v (λ e. h (ap suc e))

pub length-set : {X : Type 0} (xs : List X) (i : ℕ) (v : X) → length (set xs i v) ≡ length xs
length-set [] i v = refl
length-set (x ∷ xs) zero v = refl
length-set (x ∷ xs) (suc i) v = ap suc (length-set xs i v)

pub map-set_same : {X Y : Type 0} (f : X → Y) (xs : List X) (i : ℕ) (a v : X) → slice_get xs i ≡ Some a → f v ≡ f a
    → map f (set xs i v) ≡ map f xs
map-set_same f [] i a v at same = refl
map-set_same f (x ∷ xs) zero a v at same = ap (λ y. y ∷ map f xs) (same ∙ sym (ap (λ o. f (unwrap_or o x)) at))
map-set_same f (x ∷ xs) (suc i) a v at same = ap (λ ys. f x ∷ ys) (map-set_same f xs i a v at same)

pub slice_get-map : {X Y : Type 0} (f : X → Y) (xs : List X) (i : ℕ)
    → slice_get (map f xs) i ≡ option_map f (slice_get xs i)
slice_get-map f [] i = refl
slice_get-map f (x ∷ xs) zero = refl
slice_get-map f (x ∷ xs) (suc i) = slice_get-map f xs i

pub length-map : {X Y : Type 0} (f : X → Y) (xs : List X) → length (map f xs) ≡ length xs
length-map f [] = refl
length-map f (x ∷ xs) = ap suc (length-map f xs)

-- ---- what an archive of the layout keeps

module _ {X : Type 0} (limit : X → ℕ) (s : Layout) (archives : List X) (sized : AreSized limit s archives) where
  pub sized_many : length archives ≡ length s.archives
  sized_many = sym (length-map limit archives) ∙ ap length sized ∙ length-map (λ (a : ArchiveSpec). a.rows) s.archives

  pub sized_at : (i : ℕ) (a : X) → slice_get archives i ≡ Some a → limit a ≡ (archive_at s i).rows
  sized_at i a at =
      let past : ArchiveSpec = record { steps = 1; rows = 1; num = 0; den = 1 } in
      let seen : Some (limit a) ≡ option_map (λ (b : ArchiveSpec). b.rows) (slice_get s.archives i) =
      sym (ap (option_map limit) at) ∙ sym (slice_get-map limit archives i) ∙ ap (λ l. slice_get l i) sized
      ∙ slice_get-map (λ (b : ArchiveSpec). b.rows) s.archives i in
      read (slice_get s.archives i) past seen (λ b e. get_or_from_slice_get s.archives i b past e)
    where
      read : (o : Option ArchiveSpec) (past : ArchiveSpec) → Some (limit a) ≡ option_map (λ (b : ArchiveSpec). b.rows) o
          → ((b : ArchiveSpec) → o ≡ Some b → get_or s.archives i past ≡ b) → limit a ≡ (get_or s.archives i past).rows
      read None past e f = absurd (true≢false (ap is_some e))
      read (Some b) past e f = ap (λ o. unwrap_or o 0) e ∙ sym (ap (λ (c : ArchiveSpec). c.rows) (f b refl))

-- ---- room is made

only_one : {X : Type 0} (a b : X) → Some a ≡ Some b → a ≡ b
only_one a b e = ap (λ o. unwrap_or o a) e

-- an archive more has the same cells
pub same_more : {X : Type 0} (cells : X → ArchiveCells) (i : ℕ) (old new : List X) (a b : X) → AreSame cells old new
    → slice_get new i ≡ Some a → cells b ≡ cells a → AreSame cells old (set new i b)
same_more cells i old new a b same at is = record {
  many = length-set new i b ∙ same.many;
  each = λ j c d was here. ⊎_elim
      (λ h.
      let d_is : d ≡ b = only_one d b (sym here ∙ ap (slice_get (set new i b)) h.1
      ∙ slice_get-set_same new i b (slice_get_within new i a at)) in
      ap cells d_is ∙ is ∙ same.each j c a was (ap (slice_get new) h.1 ∙ at))
      (λ h. same.each j c d was (sym (slice_get-set_other new i j b h.1) ∙ here))
      (eqb_tells j i);
}

pub same_itself : {X : Type 0} (cells : X → ArchiveCells) (xs : List X) → AreSame cells xs xs
same_itself cells xs = record { many = refl; each = λ j a b at here. ap cells (only_one b a (sym here ∙ at)) }

-- what is set in its place has the room that it has
pub ready_set : {X : Type 0} (is_ready : X → CellSlot → Bool) {p : CellSlot} (xs : List X) (i : ℕ) (b : X)
    → i < length xs → IsTrue (is_ready b p) → (a : X) → slice_get (set xs i b) i ≡ Some a → IsTrue (is_ready a p)
ready_set is_ready {p} xs i b within ready a at =
    subst (λ x. IsTrue (is_ready x p)) (only_one b a (sym (slice_get-set_same xs i b within) ∙ at)) ready

pub record AreReadied {X : Type 0} (cells : X → ArchiveCells) (limit : X → ℕ) (is_ready : X → CellSlot → Bool)
    (s : Layout) (time : ℤ) (origin first i : ℕ) (old new : List X) : Type 0 where
  pub same : AreSame cells old new
  pub sized : AreSized limit s new
  pub ready : (j : ℕ) (b : X) → first ≤ j → j < i → slice_get new j ≡ Some b
      → is_ready b (cell_slot (slot_of s j time) origin) ≡ true
  pub before : (j : ℕ) → j < first → slice_get new j ≡ slice_get old j
  pub rest : (j : ℕ) → i ≤ j → slice_get new j ≡ slice_get old j

module _ {X : Type 0} (cells : X → ArchiveCells) (limit : X → ℕ) (is_ready : X → CellSlot → Bool) (s : Layout)
    (time : ℤ) (origin first : ℕ) where
  pub readied_none : (old : List X) → AreSized limit s old
      → AreReadied cells limit is_ready s time origin first first old old
  readied_none old sized = record {
    same = record { many = refl; each = λ j a b at here. ap cells (only_one b a (sym here ∙ at)) };
    sized = sized;
    ready = λ j b some h. absurd (omega arith);
    before = λ j h. refl;
    rest = λ j h. refl;
  }

  pub readied_more : (i : ℕ) (old new : List X) (a b : X) → first ≤ i
      → AreReadied cells limit is_ready s time origin first i old new → slice_get new i ≡ Some a → cells b ≡ cells a
      → limit b ≡ limit a → is_ready b (cell_slot (slot_of s i time) origin) ≡ true
      → AreReadied cells limit is_ready s time origin first (i + 1) old (set new i b)
  readied_more i old new a b from r at is size ready = record {
    same = same_more cells i old new a b r.same at is;
    sized = map-set_same limit new i a b at size ∙ r.sized;
    ready = λ j d some below here. ⊎_elim
        (λ h. subst (λ k. is_ready d (cell_slot (slot_of s k time) origin) ≡ true) (sym h.1)
        (subst (λ e. is_ready e (cell_slot (slot_of s i time) origin) ≡ true)
        (sym (only_one d b (sym here ∙ ap (slice_get (set new i b)) h.1
        ∙ slice_get-set_same new i b (slice_get_within new i a at)))) ready))
        (λ h. r.ready j d some (below_it j i below h.1) (sym (slice_get-set_other new i j b h.1) ∙ here))
        (eqb_tells j i);
    before = λ j below. slice_get-set_other new i j b (λ e. absurd (omega (arith, e))) ∙ r.before j below;
    rest = λ j above. slice_get-set_other new i j b (λ e. absurd (omega (arith, e))) ∙ r.rest j (omega arith);
  }
    where
      below_it : (j i : ℕ) → j < i + 1 → j ≢ i → j < i
      below_it j i h apart = ⊎_elim (λ e. absurd (apart e.1)) (λ e. omega arith) (eqb_tells j i)

  -- where all had room, and those from the first on have it again, all have it
  pub ready_all : (old new : List X) → ((j : ℕ) → j < first → slice_get new j ≡ slice_get old j)
      → AreReadyFrom first is_ready s time origin new → AreReadyFrom 0 is_ready s time origin old
      → AreReadyFrom 0 is_ready s time origin new
  ready_all old new before from all i a at some = ⊎_elim
      (λ below. all i a (sym (before i below) ∙ at) some)
      (λ past. from i a at past)
      (cases_lt i first)

  -- those before the first are as they were
  pub before_set : (i : ℕ) (old new : List X) (b : X) → first ≤ i
      → AreReadied cells limit is_ready s time origin first i old new → (j : ℕ) → j < first
      → slice_get (set new i b) j ≡ slice_get old j
  before_set i old new b from r j below = slice_get-set_other new i j b (λ e. absurd (omega (arith, e)))
      ∙ r.before j below

-- ---- samples are put

pub record ArePut {X : Type 0} (cells : X → ArchiveCells) (limit : X → ℕ) (s : Layout) (x : UnkeyedSample) (i : ℕ)
    (old new : List X) : Type 0 where
  pub many : length new ≡ length old
  pub sized : AreSized limit s new
  pub put : (j : ℕ) (a b : X) → j < i → slice_get old j ≡ Some a → slice_get new j ≡ Some b
      → cells b ≡ put_in_archive (archive_at s j).rows (cells a) (cell_slot_for s x j) (sample_for s x j)
  pub rest : (j : ℕ) → i ≤ j → slice_get new j ≡ slice_get old j

module _ {X : Type 0} (cells : X → ArchiveCells) (limit : X → ℕ) (s : Layout) (x : UnkeyedSample) where
  pub put_none : (old : List X) → AreSized limit s old → ArePut cells limit s x 0 old old
  put_none old sized = record {
    many = refl;
    sized = sized;
    put = λ j a b h. absurd (omega arith);
    rest = λ j h. refl;
  }

  pub put_more : (i : ℕ) (old new : List X) (a b : X) → ArePut cells limit s x i old new → slice_get new i ≡ Some a
      → cells b ≡ put_in_archive (limit a) (cells a) (cell_slot_for s x i) (sample_for s x i) → limit b ≡ limit a
      → ArePut cells limit s x (i + 1) old (set new i b)
  put_more i old new a b r at is size = record {
    many = length-set new i b ∙ r.many;
    sized = map-set_same limit new i a b at size ∙ r.sized;
    put = λ j c d below was here. ⊎_elim
        (λ h.
        let d_is : d ≡ b = ap (λ o. unwrap_or o d) (sym here ∙ ap (slice_get (set new i b)) h.1
        ∙ slice_get-set_same new i b (slice_get_within new i a at)) in
        let c_is : a ≡ c = ap (λ o. unwrap_or o a) (sym at ∙ r.rest i (omega arith) ∙ ap (slice_get old) (sym h.1)
        ∙ was) in
        ap cells d_is ∙ is ∙ (λ k. put_in_archive (sized_at limit s new r.sized i a at k) (cells (c_is k))
        (cell_slot_for s x i) (sample_for s x i))
        ∙ ap (λ k. put_in_archive (archive_at s k).rows (cells c) (cell_slot_for s x k) (sample_for s x k)) (sym h.1))
        (λ h. r.put j c d (below_it j i below h.1) was (sym (slice_get-set_other new i j b h.1) ∙ here))
        (eqb_tells j i);
    rest = λ j above. slice_get-set_other new i j b (λ e. absurd (omega arith)) ∙ r.rest j (omega arith);
  }
    where
      below_it : (j i : ℕ) → j < i + 1 → j ≢ i → j < i
      below_it j i h apart = ⊎_elim (λ e. absurd (apart e.1)) (λ e. omega arith) (eqb_tells j i)

  pub put_all : (i : ℕ) (old new : List X) → ArePut cells limit s x i old new → length new ≤ i
      → HavePut cells s x old new
  put_all i old new r past = record {
    many = r.many;
    each = λ j a b was here. r.put j a b (let within = slice_get_within new j b here in omega arith) was here;
  }

  -- where the first archive can't take it, nothing has changed
  pub put_failed : (i : ℕ) (old new : List X) (a b : X) → ArePut cells limit s x i old new → i < 1
      → slice_get new i ≡ Some a → cells b ≡ cells a → AreSame cells old (set new i b)
  put_failed i old new a b r first at is = same_more cells i old new a b
      (record {
        many = r.many;
        each = λ j c d was here. ap (λ o. cells (unwrap_or o d))
            (sym here ∙ r.rest j (omega arith) ∙ was);
      }) at is

  -- a sample put into archives with the same cells
  pub put_after_same : (old mid new : List X) → AreSame cells old mid → HavePut cells s x mid new
      → HavePut cells s x old new
  put_after_same old mid new same h = record {
    many = h.many ∙ same.many;
    each = λ j a b was here.
        let m = reached mid j (let within = slice_get_within new j b here in let many = h.many in omega arith) in
        h.each j m.0 b m.1 here ∙ ap (λ r. put_in_archive (archive_at s j).rows r (cell_slot_for s x j)
        (sample_for s x j)) (same.each j a m.0 was m.1);
  }

  pub same_after_same : (old mid new : List X) → AreSame cells old mid → AreSame cells mid new → AreSame cells old new
  same_after_same old mid new same h = record {
    many = h.many ∙ same.many;
    each = λ j a b was here.
        let m = reached mid j (let within = slice_get_within new j b here in let many = h.many in omega arith) in
        h.each j m.0 b m.1 here ∙ same.each j a m.0 was m.1;
  }

  pub can_take_same : (old mid : List X) → AreSame cells old mid → CanTake cells s x old → CanTake cells s x mid
  can_take_same old mid same can = λ j b here.
      let a = reached old j (let within = slice_get_within mid j b here in let many = same.many in omega arith) in
      subst (λ r. IfSome (get r (cell_slot_for s x j)) (CanAdd x.number)) (sym (same.each j a.0 b a.1 here))
      (can j a.0 a.1)

-- ---- archives that are made

-- what each of a list passes, one more passes
pub each_more : {X : Type 0} (P : X → Type 0) (xs : List X) (x : X) → Each (λ _ a. P a) xs → P x
    → Each (λ _ a. P a) (xs ++ x ∷ [])
each_more P [] x all h zero a e = subst P (ap (λ o. unwrap_or o a) e) h
each_more P [] x all h (suc i) a e = absurd (true≢false (sym (ap is_some e)))
each_more P (y ∷ ys) x all h zero a e = all zero a e
each_more P (y ∷ ys) x all h (suc i) a e = each_more P ys x (λ j b f. all (suc j) b f) h i a e

pub map_more : {X Y : Type 0} (f : X → Y) (xs : List X) (x : X) → map f (xs ++ x ∷ []) ≡ map f xs ++ f x ∷ []
map_more f [] x = refl
map_more f (y ∷ ys) x = ap (λ l. f y ∷ l) (map_more f ys x)

pub take_more : {X Y : Type 0} (f : X → Y) (xs : List X) (i : ℕ) (d : X) → i < length xs
    → map f (take (i + 1) xs) ≡ map f (take i xs) ++ f (get_or xs i d) ∷ []
take_more f [] i d h = absurd (omega arith)
take_more f (x ∷ xs) zero d h = refl
take_more f (x ∷ xs) (suc i) d h = ap (λ n. map f (take n (x ∷ xs))) (suc_more i)
    ∙ ap (λ l. f x ∷ l) (take_more f xs i d (omega arith))
  where
    suc_more : (i : ℕ) → suc i + 1 ≡ suc (i + 1)
    suc_more i = omega arith
