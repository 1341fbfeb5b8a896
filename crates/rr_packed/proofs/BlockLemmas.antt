-- What a block stores of each row, as its parts change.
use Rattle.std.proofs.Common.{◌≡◌, ℕ, ◌<◌, true, false, cond, eqb, ◌&&◌, List, [], ◌∷◌, length, map, set, Result, OnOk, refl, sym, ap, ◌∙◌, subst, ◌⊎◌, ⊎_elim, Option, Some, None, is_some, is_none, IsTrue, true≢false}
use Rattle.std.proofs.lemmas.Bool.{eqb-true, and_parts, and_from}
use Rattle.rr_archive.specs.declared.entry.Entry.{Entry}
use Rattle.rr_archive.specs.declared.entries.Entries.{Entries}
use Rattle.rr_archive.specs.Entries.{items_of, has_room}
use Rattle.rr_packed.specs.declared.block.Block.{Block}
use Rattle.rr_packed.specs.declared.lone_sample.LoneSample.{LoneSample}
use Rattle.rr_packed.specs.declared.lone_sample.Source.{Source}
use Rattle.std.specs.Prelude.{slice_get}
use Rattle.std.specs.Option.{option_map, option_and_then}
use Rattle.std.proofs.lemmas.List.{length-map}
use Rattle.std.proofs.lemmas.Result.{on_ok_weaker}
use Rattle.std.proofs.lemmas.Option.{slice_get_within, slice_get-map}
use Rattle.rr_packed.specs.Sparse.{item_at, item_in, place_at, IsItemSet}
use Rattle.rr_archive.proofs.Lists.{get_set_same}
use Rattle.rr_packed.proofs.SparseLemmas.{item_found, item_set, place_tells}
use Rattle.rr_packed.specs.Sparse.{has_room as has_spare}
use Rattle.rr_packed.specs.declared.sparse.Sparse.{Sparse}
use Rattle.rr_packed.specs.LoneSamples.{entries_read}
use Rattle.rr_packed.specs.BlockRows.{items_held, items_in, room_held, has_room_in, IsRowSet}

pub none_read : (s : Option Source) → entries_read s None ≡ []
none_read None = refl
none_read (Some s) = refl

-- what a row is read as
pub items_by_entries : (b : Block) (n : ℕ) (es : Entries) → item_in b.rows n ≡ Some es → items_in b n ≡ items_of es
unfolding items_in
items_by_entries b n es is = ap (λ o. items_held o (entries_read b.source (item_in b.samples n))) is

pub items_by_sample : (b : Block) (n : ℕ) → item_in b.rows n ≡ None
    → items_in b n ≡ entries_read b.source (item_in b.samples n)
unfolding items_in
items_by_sample b n is = ap (λ o. items_held o (entries_read b.source (item_in b.samples n))) is

pub items_none : (b : Block) (n : ℕ) → item_in b.rows n ≡ None → item_in b.samples n ≡ None → items_in b n ≡ []
items_none b n rows samples = items_by_sample b n rows ∙ ap (entries_read b.source) samples ∙ none_read b.source

-- ---- the parts change

pub block_same : (old new : Block) → ((n : ℕ) → item_in new.rows n ≡ item_in old.rows n) → new.source ≡ old.source
    → ((n : ℕ) → item_in new.samples n ≡ item_in old.samples n) → items_in new ≡ items_in old
unfolding items_in
block_same old new rows source samples = λ i n. items_held (rows n i) (entries_read (source i) (samples n i))

-- in a block without samples the source may change
pub block_sourced : (old new : Block) → ((n : ℕ) → item_in new.rows n ≡ item_in old.rows n)
    → ((n : ℕ) → item_in new.samples n ≡ None) → ((n : ℕ) → item_in old.samples n ≡ None)
    → items_in new ≡ items_in old
unfolding items_in
block_sourced old new rows none was = λ i n. (
    (λ j. items_held (rows n j) (entries_read new.source (none n j)))
    ∙ ap (items_held (item_in old.rows n)) (none_read new.source ∙ sym (none_read old.source))
    ∙ ap (λ o. items_held (item_in old.rows n) (entries_read old.source o)) (sym (was n))) i

pub sample_added : (old new : Block) (k : ℕ) (r : LoneSample) (e : Entry)
    → ((n : ℕ) → item_in new.rows n ≡ item_in old.rows n) → item_in old.rows k ≡ None → new.source ≡ old.source
    → IsItemSet k (Some r) (item_in old.samples) (item_in new.samples) → entries_read old.source (Some r) ≡ e ∷ []
    → IsRowSet k (e ∷ []) (items_in old) (items_in new)
unfolding items_in
sample_added old new k r e rows none source samples is = λ n.
    (λ i. items_held (rows n i) (entries_read (source i) (samples n i)))
    ∙ elim (eqb n k) as (λ b. eqb n k ≡ b → items_held (item_in old.rows n)
    (entries_read old.source (cond b (Some r) (item_in old.samples n)))
    ≡ cond b (e ∷ []) (items_held (item_in old.rows n) (entries_read old.source (item_in old.samples n)))) [
      | true ↦ λ t. ap (λ o. items_held o (entries_read old.source (Some r)))
          (ap (item_in old.rows) (eqb-true n k t) ∙ none) ∙ is
      | false ↦ λ _. refl
    ] refl

pub entries_set : (old new : Block) (k : ℕ) (es : Entries) → IsItemSet k (Some es) (item_in old.rows) (item_in new.rows)
    → new.source ≡ old.source → ((n : ℕ) → item_in new.samples n ≡ item_in old.samples n)
    → IsRowSet k (items_of es) (items_in old) (items_in new)
unfolding items_in
entries_set old new k es rows source samples = λ n.
    (λ i. items_held (rows n i) (entries_read (source i) (samples n i)))
    ∙ elim (eqb n k) as (λ b. items_held (cond b (Some es) (item_in old.rows n))
    (entries_read old.source (item_in old.samples n))
    ≡ cond b (items_of es) (items_held (item_in old.rows n) (entries_read old.source (item_in old.samples n)))) [
      | true ↦ refl
      | false ↦ refl
    ]

-- a row set to what it was
pub row_set_same : (k : ℕ) (es : List Entry) (f g : ℕ → List Entry) → IsRowSet k es f g → es ≡ f k → g ≡ f
row_set_same k es f g set is = λ i n. (set n ∙ elim (eqb n k) as (λ b. eqb n k ≡ b → cond b es (f n) ≡ f n) [
  | true ↦ λ t. is ∙ ap f (sym (eqb-true n k t))
  | false ↦ λ _. refl
] refl) i

-- a sample taken out that its row isn't read from
pub sample_removed : (old new : Block) (k : ℕ) → ((n : ℕ) → item_in new.rows n ≡ item_in old.rows n)
    → new.source ≡ old.source → IsItemSet k None (item_in old.samples) (item_in new.samples)
    → (entries_read old.source (item_in old.samples k) ≡ []) ⊎ IsTrue (is_some (item_in old.rows k))
    → items_in new ≡ items_in old
unfolding items_in
sample_removed old new k rows source samples spare = λ i n. (
    (λ j. items_held (rows n j) (entries_read (source j) (samples n j)))
    ∙ elim (eqb n k) as (λ b. eqb n k ≡ b → items_held (item_in old.rows n)
    (entries_read old.source (cond b None (item_in old.samples n)))
    ≡ items_held (item_in old.rows n) (entries_read old.source (item_in old.samples n))) [
      | true ↦ λ t. ap (λ m. items_held (item_in old.rows m) (entries_read old.source None)) (eqb-true n k t)
          ∙ unread spare ∙ ap (λ m. items_held (item_in old.rows m) (entries_read old.source (item_in old.samples m)))
          (sym (eqb-true n k t))
      | false ↦ λ _. refl
    ] refl) i
  where
    by_entries : (o : Option Entries) (a b : List Entry) → IsTrue (is_some o) → items_held o a ≡ items_held o b
    by_entries None a b some = absurd (true≢false (sym some))
    by_entries (Some es) a b some = refl

    unread : (entries_read old.source (item_in old.samples k) ≡ []) ⊎ IsTrue (is_some (item_in old.rows k))
        → items_held (item_in old.rows k) (entries_read old.source None)
        ≡ items_held (item_in old.rows k) (entries_read old.source (item_in old.samples k))
    unread u = ⊎_elim
        (λ e. ap (items_held (item_in old.rows k)) (none_read old.source ∙ sym e))
        (λ some. by_entries (item_in old.rows k) (entries_read old.source None)
        (entries_read old.source (item_in old.samples k)) some)
        u

-- ---- room

none_is : (o : Option ℕ) → is_none o ≡ true → o ≡ None
none_is None e = refl
none_is (Some x) e = absurd (true≢false (sym e))

pub room_of_entries : (b : Block) (n origin : ℕ) (es : Entries) → item_in b.rows n ≡ Some es
    → IsTrue (has_room_in b n origin) → IsTrue (has_room es origin)
unfolding has_room_in
room_of_entries b n origin es is room = subst (λ o. room_held o
    (is_none (place_at b.samples.mask n) && (has_spare b.samples && has_spare b.rows)) origin ≡ true) is room

pub entries_have_room : (b : Block) (n origin : ℕ) (es : Entries) → item_in b.rows n ≡ Some es
    → IsTrue (has_room es origin) → IsTrue (has_room_in b n origin)
unfolding has_room_in
entries_have_room b n origin es is room = subst (λ o. room_held o
    (is_none (place_at b.samples.mask n) && (has_spare b.samples && has_spare b.rows)) origin ≡ true) (sym is) room

-- in a row that has no entry there is room for one of either kind
pub record IsFree (b : Block) (n : ℕ) : Type 0 where
  pub unread : place_at b.samples.mask n ≡ None
  pub samples : IsTrue (has_spare b.samples)
  pub rows : IsTrue (has_spare b.rows)

pub room_is_free : (b : Block) (n origin : ℕ) → item_in b.rows n ≡ None → IsTrue (has_room_in b n origin) → IsFree b n
unfolding has_room_in
room_is_free b n origin none room =
    let free : (is_none (place_at b.samples.mask n) && (has_spare b.samples && has_spare b.rows)) ≡ true =
    subst (λ o. room_held o (is_none (place_at b.samples.mask n) && (has_spare b.samples && has_spare b.rows))
    origin ≡ true) none room in
    let parts = and_parts (is_none (place_at b.samples.mask n)) (has_spare b.samples && has_spare b.rows) free in
    let spares = and_parts (has_spare b.samples) (has_spare b.rows) parts.1 in
    record { unread = none_is (place_at b.samples.mask n) parts.0; samples = spares.0; rows = spares.1 }

pub free_has_room : (b : Block) (n origin : ℕ) → item_in b.rows n ≡ None → IsFree b n → IsTrue (has_room_in b n origin)
unfolding has_room_in
free_has_room b n origin none free = subst (λ o. room_held o
    (is_none (place_at b.samples.mask n) && (has_spare b.samples && has_spare b.rows)) origin ≡ true) (sym none)
    (and_from (is_none (place_at b.samples.mask n)) (has_spare b.samples && has_spare b.rows) (ap is_none free.unread)
    (and_from (has_spare b.samples) (has_spare b.rows) free.samples free.rows))

-- room is kept with the rows, and with the samples where there is none of the row
pub room_kept : (old new : Block) (n origin : ℕ) → new.rows ≡ old.rows
    → (place_at old.samples.mask n ≡ None → new.samples ≡ old.samples) → IsTrue (has_room_in old n origin)
    → IsTrue (has_room_in new n origin)
room_kept old new n origin rows samples room = by_item (item_in old.rows n) refl
  where
    by_item : (o : Option Entries) → item_in old.rows n ≡ o → IsTrue (has_room_in new n origin)
    by_item (Some es) is = entries_have_room new n origin es (ap (λ (r : Sparse Entries). item_in r n) rows ∙ is)
        (room_of_entries old n origin es is room)
    by_item None is =
        let free = room_is_free old n origin is room in
        let same = samples free.unread in
        free_has_room new n origin (ap (λ (r : Sparse Entries). item_in r n) rows ∙ is) (record {
          unread = ap (λ (r : Sparse LoneSample). place_at r.mask n) same ∙ free.unread;
          samples = subst (λ (r : Sparse LoneSample). IsTrue (has_spare r)) (sym same) free.samples;
          rows = subst (λ (r : Sparse Entries). IsTrue (has_spare r)) (sym rows) free.rows;
        })

-- ---- the entries of a row changed where they are in the list

pub found_entries : (b : Block) (k at : ℕ) (was : Entries) → Some at ≡ place_at b.rows.mask k
    → slice_get b.rows.items.items at ≡ Some was → item_in b.rows k ≡ Some was
found_entries b k at was place has = item_found b.rows.mask b.rows.items.items k at place ∙ has

pub entries_changed : (old new : Block) (k at : ℕ) (was es : Entries) → Some at ≡ place_at old.rows.mask k
    → slice_get old.rows.items.items at ≡ Some was → new.rows.mask ≡ old.rows.mask
    → new.rows.items.items ≡ set old.rows.items.items at es → new.source ≡ old.source → new.samples ≡ old.samples
    → IsRowSet k (items_of es) (items_in old) (items_in new)
entries_changed old new k at was es place has mask items source samples =
    let told = place_tells old.rows.mask k at place in
    let within = slice_get_within old.rows.items.items at was has in
    entries_set old new k es
    (λ n. (λ i. item_at (mask i) (items i) n) ∙ ap (λ j. item_at old.rows.mask (set old.rows.items.items j es) n) told.1
    ∙ item_set old.rows.mask old.rows.items.items k es told.0
    (subst (λ j. j < length old.rows.items.items) told.1 within) n)
    source (λ n. ap (λ (r : Sparse LoneSample). item_in r n) samples)

-- with entries that are what they were
pub entries_alike : (old new : Block) (k at : ℕ) (was es : Entries) → Some at ≡ place_at old.rows.mask k
    → slice_get old.rows.items.items at ≡ Some was → new.rows.mask ≡ old.rows.mask
    → new.rows.items.items ≡ set old.rows.items.items at es → new.source ≡ old.source → new.samples ≡ old.samples
    → items_of es ≡ items_of was → items_in new ≡ items_in old
entries_alike old new k at was es place has mask items source samples same =
    row_set_same k (items_of es) (items_in old) (items_in new)
    (entries_changed old new k at was es place has mask items source samples)
    (same ∙ sym (items_by_entries old k was (found_entries old k at was place has)))

-- the entries that were changed are the row's then
pub entries_there : (old new : Block) (k at : ℕ) (was es : Entries) → Some at ≡ place_at old.rows.mask k
    → slice_get old.rows.items.items at ≡ Some was → new.rows.mask ≡ old.rows.mask
    → new.rows.items.items ≡ set old.rows.items.items at es → item_in new.rows k ≡ Some es
entries_there old new k at was es place has mask items =
    (λ i. item_at (mask i) (items i) k)
    ∙ item_found old.rows.mask (set old.rows.items.items at es) k at place
    ∙ get_set_same old.rows.items.items at es (slice_get_within old.rows.items.items at was has)

pub room_there : {T E : Type 0} (r : Result T E) (old new : Block) (k at origin : ℕ) (was es : Entries)
    → Some at ≡ place_at old.rows.mask k → slice_get old.rows.items.items at ≡ Some was → new.rows.mask ≡ old.rows.mask
    → new.rows.items.items ≡ set old.rows.items.items at es → OnOk r (IsTrue (has_room es origin))
    → OnOk r (IsTrue (has_room_in new k origin))
room_there r old new k at origin was es place has mask items room =
    on_ok_weaker r (λ here. entries_have_room new k origin es (entries_there old new k at was es place has mask items)
    here) room

-- ---- entries that are copied

abbrev held_alike : Option (List Entry) → List Entry → List Entry
held_alike None read = read
held_alike (Some es) read = es

items_held-alike : (o : Option Entries) (read : List Entry)
    → items_held o read ≡ held_alike (option_map items_of o) read
items_held-alike None read = refl
items_held-alike (Some es) read = refl

item_map : (mask : ℕ) (xs : List Entries) (n : ℕ)
    → option_map items_of (item_at mask xs n) ≡ item_at mask (map items_of xs) n
unfolding item_at
item_map mask xs n = elim (place_at mask n) as (λ o. option_map items_of (option_and_then (slice_get xs) o)
    ≡ option_and_then (slice_get (map items_of xs)) o) [
      | None ↦ refl
      | Some at ↦ sym (slice_get-map items_of xs at)
    ]

pub block_copied : (old new : Block) → new.source ≡ old.source → new.samples.mask ≡ old.samples.mask
    → new.samples.items.items ≡ old.samples.items.items → new.rows.mask ≡ old.rows.mask
    → map items_of new.rows.items.items ≡ map items_of old.rows.items.items → items_in new ≡ items_in old
unfolding items_in
block_copied old new source mask samples rows_mask rows = λ i n. (
    items_held-alike (item_in new.rows n) (entries_read new.source (item_in new.samples n))
    ∙ (λ j. held_alike ((item_map new.rows.mask new.rows.items.items n ∙ (λ k. item_at (rows_mask k) (rows k) n)
    ∙ sym (item_map old.rows.mask old.rows.items.items n)) j)
    (entries_read (source j) (item_at (mask j) (samples j) n)))
    ∙ sym (items_held-alike (item_in old.rows n) (entries_read old.source (item_in old.samples n)))) i

pub same_length : (xs ys : List Entries) → map items_of xs ≡ map items_of ys → length xs ≡ length ys
same_length xs ys e = sym (length-map xs items_of) ∙ ap length e ∙ length-map ys items_of

-- ---- blocks whose rows are lone samples

none_among : (mask n : ℕ) → item_at {T = Entries} mask [] n ≡ None
unfolding item_at
none_among mask n =
    let none_of : List Entries = [] in
    elim (place_at mask n) as (λ o. option_and_then (slice_get none_of) o ≡ None) [
      | None ↦ refl
      | Some at ↦ refl
    ]

pub samples_alike : (old new : Block) → old.rows.items.items ≡ [] → new.rows.items.items ≡ []
    → new.source ≡ old.source → new.samples.mask ≡ old.samples.mask
    → new.samples.items.items ≡ old.samples.items.items → items_in new ≡ items_in old
samples_alike old new was is source mask samples = block_same old new
    (λ n. none new n is ∙ sym (none old n was)) source (λ n i. item_at (mask i) (samples i) n)
  where
    none : (b : Block) (n : ℕ) → b.rows.items.items ≡ [] → item_in b.rows n ≡ None
    none b n e = ap (λ (l : List Entries). item_at b.rows.mask l n) e ∙ none_among b.rows.mask n
