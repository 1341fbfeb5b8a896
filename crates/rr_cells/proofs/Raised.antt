-- A knowledge under the schema with one archive more.
use Rattle.std.proofs.Common.{◌≡◌, ℕ, ◌+◌, ◌<◌, Bool, true, false, cond, ◌&&◌, List, [], ◌∷◌, map, length, take, drop, refl, sym, ap, ◌∙◌, subst, arith, inl, inr, is_some}
use Rattle.std.specs.Prelude.{nat_eq, ◌==◌, IsTrue}
use Rattle.std.specs.List.{filter}
use Rattle.std.specs.Ordering.{eq_by_cmp, int_cmp, is_eq}
use Rattle.std.specs.Cmp.Lexicographic.{pointwise}
use Rattle.std.specs.FinMap.{get, keys, retain_keys, same_map}
use Rattle.std.proofs.lemmas.Bool.{eqb-true, eq-eqb, cases_lt}
use Rattle.std.proofs.lemmas.List.{length-append, length-take, length-drop}
use Rattle.rr_schema.specs.Schema.{Layout}
use Rattle.rr_join.specs.Maps.{greatest}
use Rattle.rr_join.specs.Horizon.{is_above}
use Rattle.rr_join.proofs.Booleans.{and_first, and_second}
use Rattle.rr_join.proofs.Members.{is_in, same_from_tie}
use Rattle.rr_contrib.specs.Samples.{contribution_of}
use Rattle.rr_contrib.specs.Contributions.{slot_sample}
use Rattle.rr_cells.specs.CellNames.{CellName, cell_name_cmp, is_of, newest, is_live}
use Rattle.rr_cells.specs.Samples.{Mark, mark_cmp, name_of, names_of}
use Rattle.rr_cells.specs.Knowledge.{Knowledge, knows, is_live_in, live, cell}
use Rattle.rr_cells.specs.World.{World, IsMarkOf, IsClosed}
use Rattle.rr_cells.proofs.Orders.{cell_name_cmp_total, cell_name_cmp-IsAntisymmetric, mark_cmp_total, mark_cmp-IsAntisymmetric}
use Rattle.rr_cells.proofs.Knowing.{is_in-keys_of, knows-live, knows-cell, name_from_tie}
use Rattle.rr_cells.specs.Cells.{Cells}
use Rattle.rr_cells.specs.Puts.{slot_sample_of}
use Rattle.rr_cells.specs.State.{value_of, cells_of_knowledge}
use Rattle.rr_cells.proofs.States.{value, get-state, no_value}
use Rattle.rr_cells.specs.RaisingLaws.{RaisedIsClosed, RaisedIsLive, NoneInTheAdded, RaisedMakesRaisedCells}
use Rattle.rr_schema.specs.declared.added.Addition.TheVariants.{Nothing, Archive}
use Rattle.rr_schema.specs.Added.{HasAdded, without, older}
use Rattle.rr_cells.specs.Raising.{raised, raised_name, raised_mark, raised_knowledge, raised_cells}
use Rattle.rr_cells.proofs.Renaming as renaming
use Rattle.rr_cells.proofs.Renaming.{Was}
use Rattle.rr_cells.proofs.Numbers.{stays, rises, raised_eq, not_added, lowered, raised-lowered, archive_is_same, slot_is_same, place_is_same, name_is_raised, raised_name_cmp, raised_mark_cmp}

pub raised_below : {A : Type 0} (i a : ℕ) (xs : List A) → i < length xs → a < length (without i xs)
    → raised (Archive i) a < length xs
raised_below i a xs h less =
    let len = length-append (take i xs) (drop (i + 1) xs) in
    elim (cases_lt a i) [
      | inl p ↦ omega (arith, h, p, stays i a p)
      | inr p ↦ omega (arith, h, p, rises i a p, less, len, length-take i xs, length-drop (i + 1) xs)
    ]

pub not_equal : (a i : ℕ) → (a == i) ≡ false → a ≡ i → ⊥
not_equal a i e h = let t : (a == i) ≡ true = eq-eqb a i h in absurd (cc (sym t ∙ e))

-- ---- the marks

keys-raised : (i : ℕ) (k : Knowledge) → keys (raised_knowledge (Archive i) k) ≡ map (raised_mark (Archive i)) (keys k)
keys-raised i k = renaming.keys-renamed mark_cmp_total mark_cmp-IsAntisymmetric (raised_mark (Archive i))
    (raised_mark_cmp i) k

knows-raised : (i : ℕ) (k : Knowledge) (m : Mark)
    → knows (raised_knowledge (Archive i) k) (raised_mark (Archive i) m) ≡ knows k m
knows-raised i k m = ap is_some (renaming.get-renamed mark_cmp_total mark_cmp-IsAntisymmetric (raised_mark (Archive i))
    (raised_mark_cmp i) k m)

-- a mark that is known was one
pub record WasMark (i : ℕ) (k : Knowledge) (m : Mark) : Type 0 where
  pub before : Mark
  pub known : knows k before ≡ true
  pub is : m ≡ raised_mark (Archive i) before

was_mark : (i : ℕ) (k : Knowledge) (m : Mark) → knows (raised_knowledge (Archive i) k) m ≡ true → WasMark i k m
was_mark i k m e =
    let listed : is_in mark_cmp (map (raised_mark (Archive i)) (keys k)) m ≡ true =
    ap (λ ms. is_in mark_cmp ms m) (sym (keys-raised i k)) ∙ is_in-keys_of (raised_knowledge (Archive i) k) m ∙ e in
    let w = renaming.was mark_cmp_total mark_cmp-IsAntisymmetric (raised_mark (Archive i)) (keys k) m listed in
    record { before = w.before; known = sym (is_in-keys_of k w.before) ∙ w.known; is = w.renamed_to }

pub none_in_the_added : NoneInTheAdded
none_in_the_added i k m known e =
    let w = was_mark i k m known in
    not_added i w.before.archive (sym (ap (λ (x : Mark). x.archive) w.is) ∙ e)

-- ---- which are live

module _ (i : ℕ) (s t : Layout) (added : HasAdded i s t) where
  slots_kept : (ns : List CellName) (key : List ℕ) (a : ℕ)
      → map (λ n. n.slot) (filter (is_of key (raised (Archive i) a)) (map (raised_name (Archive i)) ns))
      ≡ map (λ n. n.slot) (filter (is_of key a) ns)
  slots_kept [] key a = refl
  slots_kept (n ∷ ns) key a =
      ap (λ b. map (λ (x : CellName). x.slot) (cond (pointwise nat_eq n.key key && b)
      (raised_name (Archive i) n ∷ filter (is_of key (raised (Archive i) a)) (map (raised_name (Archive i)) ns))
      (filter (is_of key (raised (Archive i) a)) (map (raised_name (Archive i)) ns)))) (raised_eq i n.archive a)
      ∙ elim (pointwise nat_eq n.key key && (n.archive == a)) as
      (λ b. map (λ (x : CellName). x.slot) (cond b
      (raised_name (Archive i) n ∷ filter (is_of key (raised (Archive i) a)) (map (raised_name (Archive i)) ns))
      (filter (is_of key (raised (Archive i) a)) (map (raised_name (Archive i)) ns)))
      ≡ map (λ (x : CellName). x.slot) (cond b (n ∷ filter (is_of key a) ns) (filter (is_of key a) ns))) [
        | true ↦ ap (λ l. n.slot ∷ l) (slots_kept ns key a)
        | false ↦ slots_kept ns key a
      ]

  newest_kept : (ns : List CellName) (key : List ℕ) (a : ℕ)
      → newest (map (raised_name (Archive i)) ns) key (raised (Archive i) a) ≡ newest ns key a
  unfolding newest
  newest_kept ns key a = ap (greatest int_cmp) (slots_kept ns key a)

  pub live_kept : (ns : List CellName) (n : CellName)
      → is_live s (map (raised_name (Archive i)) ns) (raised_name (Archive i) n) ≡ is_live t ns n
  live_kept ns n = λ j. is_above (archive_is_same i s t added n.archive j).rows (newest_kept ns n.key n.archive j)
      n.slot

  names_raised : (ms : List Mark) → names_of s (map (raised_mark (Archive i)) ms)
      ≡ map (raised_name (Archive i)) (names_of t ms)
  names_raised [] = refl
  names_raised (m ∷ ms) = λ j. name_is_raised i s t added m j ∷ names_raised ms j

  live_in_kept : (k : Knowledge) (m : Mark) → is_live_in s (raised_knowledge (Archive i) k)
      (name_of s (raised_mark (Archive i) m)) ≡ is_live_in t k (name_of t m)
  live_in_kept k m =
      (λ j. is_live s (names_of s (keys-raised i k j)) (name_is_raised i s t added m j))
      ∙ (λ j. is_live s (names_raised (keys k) j) (raised_name (Archive i) (name_of t m)))
      ∙ live_kept (names_of t (keys k)) (name_of t m)

  retained : (k : Knowledge) (p q : Mark → Bool) → ((m : Mark) → p (raised_mark (Archive i) m) ≡ q m)
      → retain_keys (raised_knowledge (Archive i) k) p ≡ raised_knowledge (Archive i) (retain_keys k q)
  retained k p q is =
      renaming.retain-renamed mark_cmp_total mark_cmp-IsAntisymmetric (raised_mark (Archive i)) (raised_mark_cmp i) k p
      ∙ (λ j. raised_knowledge (Archive i) (retain_keys k (λ m. is m j)))

  pub live_is_raised : (k : Knowledge) → live s (raised_knowledge (Archive i) k)
      ≡ raised_knowledge (Archive i) (live t k)
  unfolding live
  live_is_raised k = retained k (λ m. is_live_in s (raised_knowledge (Archive i) k) (name_of s m))
      (λ m. is_live_in t k (name_of t m)) (live_in_kept k)

  -- ---- closed

  closed_raised : (w : World) (k : Knowledge) → IsClosed t w k → IsClosed s w (raised_knowledge (Archive i) k)
  closed_raised w k closed = record { written = written; earlier = earlier }
    where
      below : (a : ℕ) → a < length t.archives → raised (Archive i) a < length s.archives
      below a h = raised_below i a s.archives added.number (subst (λ l. a < length l) added.others h)

      written : (m : Mark) → IsTrue (knows (raised_knowledge (Archive i) k) m) → IsMarkOf s w m
      written m known =
          let b = was_mark i k m known in
          let old = closed.written b.before b.known in
          subst (IsMarkOf s w) (sym b.is) (old.0, below b.before.archive old.1)

      earlier : (m other : Mark) → IsTrue (knows (live s (raised_knowledge (Archive i) k)) m) → IsMarkOf s w other
          → name_of s other ≡ name_of s m → other.number < m.number
          → IsTrue (knows (raised_knowledge (Archive i) k) other)
      earlier m other known of named less =
          let b = was_mark i (live t k) m (ap (λ l. knows l m) (sym (live_is_raised k)) ∙ known) in
          let old = closed.written b.before (and_first (knows k b.before) (is_live_in t k (name_of t b.before))
          (sym (knows-live t k b.before) ∙ b.known)) in
          let one : Mark = record { sample = other.sample; archive = b.before.archive } in
          let at : name_of s other ≡ name_of s (raised_mark (Archive i) b.before) = named ∙ ap (name_of s) b.is in
          let same : other ≡ raised_mark (Archive i) one =
          λ j. record { sample = other.sample; archive = (ap (λ (n : CellName). n.archive) at) j } in
          let names : name_of s (raised_mark (Archive i) one) ≡ raised_name (Archive i) (name_of t b.before) =
          ap (name_of s) (sym same) ∙ at ∙ name_is_raised i s t added b.before in
          let slots : (name_of t one).slot ≡ (name_of t b.before).slot =
          sym (slot_is_same i s t added b.before.archive one.time) ∙ ap (λ (n : CellName). n.slot) names in
          let alike : name_of t one ≡ name_of t b.before =
          λ j. record {
            key = (ap (λ (n : CellName). n.key) names) j;
            archive = b.before.archive;
            slot =
                slots j;
            origin = (ap (λ (n : CellName). n.origin) names) j;
          } in
          let before : one.number < b.before.number = subst (λ (x : Mark). other.number < x.number) b.is less in
          ap (knows (raised_knowledge (Archive i) k)) same ∙ knows-raised i k one
          ∙ closed.earlier b.before one b.known (of.0, old.1) alike before

  -- ---- cells

  cell_is_raised : (k : Knowledge) (n : CellName)
      → cell s (raised_knowledge (Archive i) k) (raised_name (Archive i) n) ≡ raised_knowledge (Archive i) (cell t k n)
  unfolding cell
  cell_is_raised k n =
      ap (λ l. retain_keys l (λ m. eq_by_cmp cell_name_cmp (name_of s m) (raised_name (Archive i) n)))
      (live_is_raised k)
      ∙ retained (live t k) (λ m. eq_by_cmp cell_name_cmp (name_of s m) (raised_name (Archive i) n))
      (λ m. eq_by_cmp cell_name_cmp (name_of t m) n) (λ m.
      ap (λ x. eq_by_cmp cell_name_cmp x (raised_name (Archive i) n)) (name_is_raised i s t added m)
      ∙ ap is_eq (raised_name_cmp i (name_of t m) n))

  samples_kept : (ms : List Mark) → map (slot_sample_of s) (map (raised_mark (Archive i)) ms)
      ≡ map (slot_sample_of t) ms
  samples_kept [] = refl
  samples_kept (m ∷ ms) = λ j. slot_sample m.number (place_is_same i s t added m.archive m.time j) m.time m.value ∷
      samples_kept ms j

  value_kept : (c : Knowledge) → value s (raised_knowledge (Archive i) c) ≡ value t c
  value_kept c = ap (value_of s) (keys-raised i c) ∙ ap contribution_of (samples_kept (keys c))

  -- the cell of a name in the archive that was added has no mark
  none_there : (k : Knowledge) (n : CellName) → n.archive ≡ i → (m : Mark)
      → knows (cell s (raised_knowledge (Archive i) k) n) m ≡ false
  none_there k n e m = elim (knows (cell s (raised_knowledge (Archive i) k) n) m) as
      (λ b. knows (cell s (raised_knowledge (Archive i) k) n) m ≡ b → b ≡ false) [
        | true ↦ λ known.
            let here = sym (knows-cell s (raised_knowledge (Archive i) k) n m) ∙ known in
            let both = and_first (knows (raised_knowledge (Archive i) k) m
            && is_live_in s (raised_knowledge (Archive i) k) (name_of s m)) (eq_by_cmp cell_name_cmp (name_of s m) n)
            here in
            let named = name_from_tie s m n (and_second (knows (raised_knowledge (Archive i) k) m
            && is_live_in s (raised_knowledge (Archive i) k) (name_of s m)) (eq_by_cmp cell_name_cmp (name_of s m) n)
            here) in
            absurd (none_in_the_added i k m (and_first (knows (raised_knowledge (Archive i) k) m)
            (is_live_in s (raised_knowledge (Archive i) k) (name_of s m)) both)
            (ap (λ (x : CellName). x.archive) named ∙ e))
        | false ↦ λ _. refl
      ] refl

  at_added : (k : Knowledge) (n : CellName) → n.archive ≡ i
      → get (cells_of_knowledge s (raised_knowledge (Archive i) k)) n
      ≡ get (raised_cells (Archive i) (cells_of_knowledge t k)) n
  at_added k n e =
      get-state s (raised_knowledge (Archive i) k) n
      ∙ no_value s (cell s (raised_knowledge (Archive i) k) n) (none_there k n e)
      ∙ sym (renaming.get-other cell_name_cmp_total cell_name_cmp-IsAntisymmetric (raised_name (Archive i))
      (raised_name_cmp i) (cells_of_knowledge t k) n (λ x. no_tie x))
    where
      no_tie : (x : CellName) → eq_by_cmp cell_name_cmp n (raised_name (Archive i) x) ≡ false
      no_tie x = elim (eq_by_cmp cell_name_cmp n (raised_name (Archive i) x)) as
          (λ b. eq_by_cmp cell_name_cmp n (raised_name (Archive i) x) ≡ b → b ≡ false) [
            | true ↦ λ h. absurd (not_added i x.archive (sym
                (ap (λ (y : CellName). y.archive) (same_from_tie cell_name_cmp_total cell_name_cmp-IsAntisymmetric n
                (raised_name (Archive i) x) h)) ∙ e))
            | false ↦ λ _. refl
          ] refl

  at_raised : (k : Knowledge) (n : CellName) → get (cells_of_knowledge s (raised_knowledge (Archive i) k))
      (raised_name (Archive i) n) ≡ get (raised_cells (Archive i) (cells_of_knowledge t k)) (raised_name (Archive i) n)
  at_raised k n =
      get-state s (raised_knowledge (Archive i) k) (raised_name (Archive i) n) ∙ ap (value s) (cell_is_raised k n)
      ∙ value_kept (cell t k n) ∙ sym (get-state t k n)
      ∙ sym (renaming.get-renamed cell_name_cmp_total cell_name_cmp-IsAntisymmetric (raised_name (Archive i))
      (raised_name_cmp i) (cells_of_knowledge t k) n)

  state_is_raised : (k : Knowledge) → cells_of_knowledge s (raised_knowledge (Archive i) k)
      ≡ raised_cells (Archive i) (cells_of_knowledge t k)
  state_is_raised k = same_map cell_name_cmp_total cell_name_cmp-IsAntisymmetric
      (cells_of_knowledge s (raised_knowledge (Archive i) k)) (raised_cells (Archive i) (cells_of_knowledge t k)) (λ n.
      elim (n.archive == i) as (λ b. (n.archive == i) ≡ b
      → get (cells_of_knowledge s (raised_knowledge (Archive i) k)) n
      ≡ get (raised_cells (Archive i) (cells_of_knowledge t k)) n) [
        | true ↦ λ e. at_added k n (eqb-true n.archive i e)
        | false ↦ λ e.
            let low : CellName = record { key = n.key; archive = lowered i n.archive; slot = n.slot; origin = n.origin }
            in
            let back : raised_name (Archive i) low ≡ n =
            λ j. record {
              key = n.key;
              archive = raised-lowered i n.archive (λ h. not_equal n.archive i e h) j;
              slot = n.slot;
              origin = n.origin;
            } in
            subst (λ (q : CellName). get (cells_of_knowledge s (raised_knowledge (Archive i) k)) q
            ≡ get (raised_cells (Archive i) (cells_of_knowledge t k)) q) back (at_raised k low)
      ] refl)

-- ---- nothing, or one archive

-- the archive was added to the schema before
pub was_added : (i : ℕ) (s : Layout) → i < length s.archives → HasAdded i s (older s (Archive i))
was_added i s there = record { step = refl; number = there; others = refl }

same_knowledge : (k : Knowledge) → raised_knowledge Nothing k ≡ k
same_knowledge k = same_map mark_cmp_total mark_cmp-IsAntisymmetric (raised_knowledge Nothing k) k (λ m.
    renaming.get-renamed mark_cmp_total mark_cmp-IsAntisymmetric (raised_mark Nothing) (λ a b. refl) k m)

pub same_cells : (m : Cells) → raised_cells Nothing m ≡ m
same_cells m = same_map cell_name_cmp_total cell_name_cmp-IsAntisymmetric (raised_cells Nothing m) m (λ n.
    renaming.get-renamed cell_name_cmp_total cell_name_cmp-IsAntisymmetric (raised_name Nothing) (λ a b. refl) m n)

pub raised_is_closed : RaisedIsClosed
raised_is_closed Nothing s w k there closed = subst (IsClosed s w) (sym (same_knowledge k)) closed
raised_is_closed (Archive i) s w k there closed =
    closed_raised i s (older s (Archive i)) (was_added i s there) w k closed

pub raised_is_live : RaisedIsLive
raised_is_live Nothing s k there = ap (live s) (same_knowledge k) ∙ sym (same_knowledge (live s k))
raised_is_live (Archive i) s k there = live_is_raised i s (older s (Archive i)) (was_added i s there) k

pub raised_makes_raised_cells : RaisedMakesRaisedCells
raised_makes_raised_cells Nothing s k there = ap (cells_of_knowledge s) (same_knowledge k)
    ∙ sym (same_cells (cells_of_knowledge s k))
raised_makes_raised_cells (Archive i) s k there = state_is_raised i s (older s (Archive i)) (was_added i s there) k
