-- Room for an operation, as it is told and as the archives have it.
use Rattle.std.proofs.Common.{◌≡◌, ℕ, zero, suc, ◌≤◌, ℤ, pos, negsuc, Bool, true, false, cond, ◌&&◌, List, [], ◌∷◌, ◌++◌, map, slice_get, get_or, refl, sym, ap, ◌∙◌, subst, arith, true≢false, Option, Some, None, is_some, unwrap_or, ⊎_elim}
use Rattle.std.specs.Prelude.{IsTrue, unsigned_abs, nat_le, ◌==◌}
use Rattle.std.specs.Global.{Vec}
use Rattle.std.specs.List.{filter}
use Rattle.std.specs.Map.{lookup}
use Rattle.std.specs.BTreeMap.{is_at}
use Rattle.std.specs.Option.{option_map}
use Rattle.std.specs.Ordering.{eq_by_cmp, is_eq}
use Rattle.std.specs.Cmp.Lexicographic.{nat_list_cmp_total}
use Rattle.std.proofs.lemmas.Bool.{or_left, or_right, eqb-true}
use Rattle.std.proofs.lemmas.Bool.Decides.{eqb_tells}
use Rattle.std.proofs.lemmas.Int.{ints}
use Rattle.std.proofs.lemmas.List.Folds.{list_any-append}
use Rattle.std.proofs.lemmas.Map.Views.{any-filter_same}
use Rattle.std.proofs.lemmas.Option.{slice_get_within}
use Rattle.rr_text.specs.Bytes.{bytes_cmp}
use Rattle.rr_text.specs.declared.limits.TheConstants.{MAX_NUMBER, MAX_ORIGIN, MAX_SECOND}
use Rattle.rr_schema.specs.Origin.{IsOrigin}
use Rattle.rr_schema.specs.Schema.{Layout, IsLayout, slot_of}
use Rattle.rr_join.proofs.Members.{tie_itself, same_from_tie}
use Rattle.rr_archive.specs.CellSlots.{CellSlot, cell_slot, cell_slot_cmp, IsSlot}
use Rattle.rr_archive.specs.Cells.{ArchiveCells}
use Rattle.rr_archive.proofs.CellSlotOrder.{cell_slot_cmp_total, cell_slot_cmp-IsAntisymmetric}
use Rattle.rr_cells.specs.declared.op.Op.{Op}
use Rattle.rr_cells.specs.declared.op.Op.TheVariants.{Put, Join}
use Rattle.rr_replica.specs.Archives.{HaveRoomFor, IsOpOf}
use Rattle.rr_replica.specs.InMemory.{archives_of, HasRoom, AreAllSized}
use Rattle.rr_cells.specs.ReplicaState.{ReplicaState}
use Rattle.rr_cells.specs.Operations.{op_key, accepts}
use Rattle.rr_replica.specs.ReplicaWithRoom.{room_at, room_in, is_one_of, cell_slots_of, cell_slots_within, all_cell_slots, replica_with_room, HasRoomFor}
use Rattle.rr_cells.proofs.Slots.{slot_is}
use Rattle.rr_replica.proofs.Each.{sized_many}
use Rattle.rr_replica.proofs.SeriesLemmas.{bytes_cmp-IsAntisymmetric}
use Rattle.rr_replica.proofs.Shown.{there}

-- ---- all cell slots

in_slot : (slot : ℤ) (n : ℕ) (q : CellSlot) → q.slot ≡ slot → 1 ≤ q.origin → q.origin ≤ n
    → is_one_of (cell_slots_of slot n) q ≡ true
unfolding cell_slots_of
in_slot slot zero q at least most = absurd (omega arith)
in_slot slot (suc n) q at least most = ⊎_elim
    (λ last. or_left (eq_by_cmp cell_slot_cmp q (cell_slot slot (suc n))) (is_one_of (cell_slots_of slot n) q)
    (ap (eq_by_cmp cell_slot_cmp q) (λ i. cell_slot (sym at i) (sym last.1 i))
    ∙ tie_itself cell_slot_cmp_total cell_slot_cmp-IsAntisymmetric q))
    (λ before. or_right (eq_by_cmp cell_slot_cmp q (cell_slot slot (suc n))) (is_one_of (cell_slots_of slot n) q)
    (in_slot slot n q at least (below q.origin n most before.1)))
    (eqb_tells q.origin (suc n))
  where
    below : (k n : ℕ) → k ≤ suc n → (k ≡ suc n → ⊥) → k ≤ n
    below k n h apart = ⊎_elim (λ e. absurd (apart e.1)) (λ e. omega arith) (eqb_tells k (suc n))

in_either : (xs ys : List CellSlot) (q : CellSlot) → is_one_of xs q ≡ true → is_one_of (xs ++ ys) q ≡ true
in_either xs ys q h = list_any-append (eq_by_cmp cell_slot_cmp q) xs ys ∙ or_left (is_one_of xs q) (is_one_of ys q) h

in_other : (xs ys : List CellSlot) (q : CellSlot) → is_one_of ys q ≡ true → is_one_of (xs ++ ys) q ≡ true
in_other xs ys q h = list_any-append (eq_by_cmp cell_slot_cmp q) xs ys ∙ or_right (is_one_of xs q) (is_one_of ys q) h

in_within : (n m : ℕ) (slot : ℤ) (q : CellSlot) → q.slot ≡ slot → unsigned_abs slot ≤ n → 1 ≤ q.origin → q.origin ≤ m
    → is_one_of (cell_slots_within n m) q ≡ true
unfolding cell_slots_within
in_within zero m (pos k) q at near least most = in_slot (pos zero) m q (at ∙ ap pos (none k near)) least most
  where
    none : (k : ℕ) → k ≤ 0 → k ≡ 0
    none k h = omega arith
in_within zero m (negsuc k) q at near least most = absurd (omega (arith, ints))
in_within (suc n) m (pos k) q at near least most = ⊎_elim
    (λ here. in_either (cell_slots_of (pos (suc n)) m) (cell_slots_of (negsuc n) m ++ cell_slots_within n m) q
    (in_slot (pos (suc n)) m q (at ∙ ap pos here.1) least most))
    (λ not. in_other (cell_slots_of (pos (suc n)) m) (cell_slots_of (negsuc n) m ++ cell_slots_within n m) q
    (in_other (cell_slots_of (negsuc n) m) (cell_slots_within n m) q
    (in_within n m (pos k) q at (nearer k n near not.1) least most)))
    (eqb_tells k (suc n))
  where
    nearer : (k n : ℕ) → k ≤ suc n → (k ≡ suc n → ⊥) → k ≤ n
    nearer k n h apart = ⊎_elim (λ e. absurd (apart e.1)) (λ e. omega arith) (eqb_tells k (suc n))
in_within (suc n) m (negsuc k) q at near least most =
    in_other (cell_slots_of (pos (suc n)) m) (cell_slots_of (negsuc n) m ++ cell_slots_within n m) q (⊎_elim
    (λ here. in_either (cell_slots_of (negsuc n) m) (cell_slots_within n m) q
    (in_slot (negsuc n) m q (at ∙ ap negsuc here.1) least most))
    (λ not. in_other (cell_slots_of (negsuc n) m) (cell_slots_within n m) q
    (in_within n m (negsuc k) q at (nearer k n near not.1) least most))
    (eqb_tells k n))
  where
    nearer : (k n : ℕ) → suc k ≤ suc n → (k ≡ n → ⊥) → suc k ≤ n
    nearer k n h apart = ⊎_elim (λ e. absurd (apart e.1)) (λ e. omega arith) (eqb_tells k n)

near_slot : (slot : ℤ) → IsSlot slot → unsigned_abs slot ≤ MAX_SECOND
near_slot (pos n) is = let most = is.1 in omega (arith, ints, most)
near_slot (negsuc n) is = let least = is.0 in omega (arith, ints, least)

pub in_all : (q : CellSlot) → IsSlot q.slot → IsOrigin q.origin → is_one_of all_cell_slots q ≡ true
unfolding all_cell_slots
in_all q slot origin = in_within MAX_SECOND MAX_ORIGIN q.slot q refl (near_slot q.slot slot) origin.at_least
    origin.at_most

-- ---- room as it is told

abbrev pub origin_of : Op → ℕ
origin_of (Put x) = x.origin
origin_of (Join c) = c.origin

-- an operation that is taken is of an origin
pub taken_origin : (h : ReplicaState) (op : Op) → accepts h op ≡ true → IsOpOf h.schema op → IsOrigin h.origin
    → IsOrigin (origin_of op)
taken_origin h (Put x) taken of origin = subst IsOrigin
    (sym (eqb-true x.origin h.origin (first (x.origin == h.origin)
    (nat_le h.next x.number && nat_le x.number MAX_NUMBER) taken))) origin
  where
    first : (a b : Bool) → (a && b) ≡ true → a ≡ true
    first true b e = refl
    first false b e = e
taken_origin h (Join c) taken of origin = of.origin

module _ {X : Type 0} (is_ready : X → CellSlot → Bool) where
  abbrev rooms_of : X → List CellSlot
  rooms_of a = filter (is_ready a) all_cell_slots

  told : (entries : List (List ℕ × Vec X)) (key : List ℕ)
      → lookup (is_at (bytes_cmp key)) (room_in is_ready entries)
      ≡ option_map (λ (v : Vec X). map rooms_of v.items) (archives_of entries key)
  told [] key = refl
  told (e ∷ es) key = elim (is_eq (bytes_cmp key e.0)) as
      (λ b. cond b (Some (map rooms_of e.1.items)) (lookup (is_at (bytes_cmp key)) (room_in is_ready es))
      ≡ option_map (λ (v : Vec X). map rooms_of v.items) (cond b (Some e.1) (archives_of es key))) [
        | true ↦ refl
        | false ↦ told es key
      ]

  -- what is told of an archive of a key
  abbrev of_archives : Option (Vec X) → ℕ → List CellSlot
  of_archives o i = get_or (unwrap_or (option_map (λ (v : Vec X). map rooms_of v.items) o) []) i []

  room_is : (entries : List (List ℕ × Vec X)) (key : List ℕ) (i : ℕ)
      → room_at (room_in is_ready entries) key i ≡ of_archives (archives_of entries key) i
  room_is entries key i = ap (λ o. get_or (unwrap_or o []) i []) (told entries key)

  at_archive : (xs : List X) (i : ℕ) (a : X) → slice_get xs i ≡ Some a → get_or (map rooms_of xs) i [] ≡ rooms_of a
  at_archive [] i a e = absurd (true≢false (sym (ap is_some e)))
  at_archive (x ∷ xs) zero a e = ap (λ o. rooms_of (unwrap_or o x)) e
  at_archive (x ∷ xs) (suc i) a e = at_archive xs i a e

  -- a cell slot is told where the archive is ready for it
  is_told : (a : X) (p : CellSlot) → is_one_of (rooms_of a) p ≡ (is_ready a p && is_one_of all_cell_slots p)
  is_told a p = any-filter_same (eq_by_cmp cell_slot_cmp p) (is_ready a) (is_ready a p)
      (λ q t. ap (is_ready a) (sym (same_from_tie cell_slot_cmp_total cell_slot_cmp-IsAntisymmetric p q t)))
      all_cell_slots

  module _ (entries : List (List ℕ × Vec X)) (key : List ℕ) (v : Vec X) (found : archives_of entries key ≡ Some v)
      (i : ℕ) (a : X) (at : slice_get v.items i ≡ Some a) (p : CellSlot) where
    told_is : is_one_of (room_at (room_in is_ready entries) key i) p ≡ (is_ready a p && is_one_of all_cell_slots p)
    told_is = ap (λ ps. is_one_of ps p) (room_is entries key i ∙ ap (λ o. of_archives o i) found
        ∙ at_archive v.items i a at) ∙ is_told a p

    ready_from : IsTrue (is_one_of (room_at (room_in is_ready entries) key i) p) → IsTrue (is_ready a p)
    ready_from h = first (is_ready a p) (is_one_of all_cell_slots p) (sym told_is ∙ h)
      where
        first : (a b : Bool) → (a && b) ≡ true → a ≡ true
        first true b e = refl
        first false b e = e

    ready_told : is_one_of all_cell_slots p ≡ true → IsTrue (is_ready a p)
        → IsTrue (is_one_of (room_at (room_in is_ready entries) key i) p)
    ready_told every h = told_is ∙ (λ j. h j && every j)

  -- where a cell slot is told, the key has archives
  has_archives : (entries : List (List ℕ × Vec X)) (key : List ℕ) (i : ℕ) (p : CellSlot)
      → IsTrue (is_one_of (room_at (room_in is_ready entries) key i) p)
      → (v : Vec X) × (archives_of entries key ≡ Some v)
  has_archives entries key i p h = from (archives_of entries key) refl
      (ap (λ ps. is_one_of ps p) (sym (room_is entries key i)) ∙ h)
    where
      from : (o : Option (Vec X)) → archives_of entries key ≡ o → is_one_of (of_archives o i) p ≡ true
          → (v : Vec X) × (archives_of entries key ≡ Some v)
      from None e f = absurd (true≢false (sym f ∙ none i))
        where
          none : (i : ℕ) → is_one_of (of_archives None i) p ≡ false
          none zero = refl
          none (suc i) = refl
      from (Some v) e f = (v, e)

  -- ---- room for an operation

  module _ (cells : X → ArchiveCells) (limit : X → ℕ) (s : Layout) (is : IsLayout s) (origin next : ℕ)
      (keys : List (List ℕ)) (entries : List (List ℕ × Vec X)) (sized : AreAllSized limit s entries) where
    -- the archives have the room that is told
    pub room_there : (op : Op) → HasRoomFor (replica_with_room cells is_ready s origin next keys entries) op
        → HasRoom is_ready s op entries
    room_there (Put x) h =
        let first = h 0 is.some_archive in
        let found = has_archives entries x.key 0 (cell_slot (slot_of s 0 x.time) x.origin) first in (
          found.0,
          found.1,
          λ i a at some.
              let many = sized_many limit s found.0.items (sized x.key found.0 found.1) in
              let within = slice_get_within found.0.items i a at in
              ready_from entries x.key found.0 found.1 i a at (cell_slot (slot_of s i x.time) x.origin)
              (h i (omega arith)),
        )
    room_there (Join c) h =
        let found = has_archives entries c.key c.archive (cell_slot c.slot c.origin) h in (
          found.0,
          found.1,
          λ a at. ready_from entries c.key found.0 found.1 c.archive a at (cell_slot c.slot c.origin)
              h,
        )

    -- and what they have is told
    pub room_told : (op : Op) → IsOpOf s op → IsOrigin (origin_of op) → HasRoom is_ready s op entries
        → HasRoomFor (replica_with_room cells is_ready s origin next keys entries) op
    room_told (Put x) fits number h = λ i within.
        let many = sized_many limit s h.0.items (sized x.key h.0 h.1) in
        let a = there h.0.items i (omega arith) in
        ready_told entries x.key h.0 h.1 i a.0 a.1 (cell_slot (slot_of s i x.time) x.origin)
        (in_all (cell_slot (slot_of s i x.time) x.origin) (slot_is s is i x.time fits.0) number)
        (h.2 i a.0 a.1 (omega arith))
    room_told (Join c) cell number h =
        let many = sized_many limit s h.0.items (sized c.key h.0 h.1) in
        let within = cell.archive in
        let a = there h.0.items c.archive (omega arith) in
        let slot : IsSlot c.slot = subst IsSlot cell.valid.in_slot
        (slot_is s is c.archive c.contribution.last_time cell.last_time_fits) in
        ready_told entries c.key h.0 h.1 c.archive a.0 a.1 (cell_slot c.slot c.origin)
        (in_all (cell_slot c.slot c.origin) slot number) (h.2 a.0 a.1)

  -- ---- the archives of the key

  pub room_found : (s : Layout) (op : Op) (entries : List (List ℕ × Vec X)) (was : Vec X)
      → Some was ≡ archives_of entries (op_key op) → HasRoom is_ready s op entries → HaveRoomFor is_ready s op was.items
  room_found s op entries was found h = subst (λ (v : Vec X). HaveRoomFor is_ready s op v.items)
      (ap (λ o. unwrap_or o was) (sym h.1 ∙ sym found)) h.2

  pub room_nowhere : (s : Layout) (op : Op) (entries : List (List ℕ × Vec X)) → None ≡ archives_of entries (op_key op)
      → HasRoom is_ready s op entries → ⊥
  room_nowhere s op entries none h = true≢false (sym (ap is_some (none ∙ h.1)))

  pub room_set : (s : Layout) (op : Op) (key : List ℕ) → key ≡ op_key op
      → (old new : List (List ℕ × Vec X)) (now : Vec X)
      → ((q : List ℕ) → archives_of new q ≡ cond (is_at (bytes_cmp key) q) (Some now) (archives_of old q))
      → HaveRoomFor is_ready s op now.items → HasRoom is_ready s op new
  room_set s op key same old new now sets room = (
    now,
    sym (ap (archives_of new) same) ∙ sets key
        ∙ ap (λ b. cond b (Some now) (archives_of old key))
        (tie_itself nat_list_cmp_total bytes_cmp-IsAntisymmetric key),
    room,
  )
