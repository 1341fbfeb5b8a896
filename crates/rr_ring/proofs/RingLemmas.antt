-- What is stored of each slot, before and after a change of one row.
use Rattle.std.proofs.Common.{◌≡◌, ℕ, zero, suc, ◌+◌, ◌*◌, ◌/◌, ◌%◌, ◌<◌, ◌≤◌, ℤ, true, false, cond, List, [], ◌∷◌, ◌++◌, map, length, set, refl, sym, ap, ◌∙◌, subst, Option, Some, None, IsTrue, arith, eqb, true≢false}
use Rattle.std.specs.Prelude.{slice_get}
use Rattle.std.specs.Option.{option_map}
use Rattle.std.specs.Ordering.{int_eq}
use Rattle.std.proofs.lemmas.Bool.{eqb-true}
use Rattle.std.proofs.lemmas.Bool.Decides.{nat_tests}
use Rattle.std.proofs.lemmas.Nat.{div-add-mod', div-mul-add, mod-mul-add}
use Rattle.std.proofs.lemmas.Option.{slice_get-map, slice_get_within, slice_get_past}
use Rattle.rr_archive.specs.declared.entry.Entry.{Entry}
use Rattle.rr_archive.specs.declared.change.Change.{Change}
use Rattle.rr_archive.specs.Row.{with_entry}
use Rattle.rr_archive.specs.Changes.{entry_after}
use Rattle.rr_ring.specs.declared.stored_row.StoredRow.{StoredRow}
use Rattle.rr_ring.specs.declared.block.Block.{Block}
use Rattle.rr_ring.specs.declared.block.TheConstants.{BLOCK_ROWS}
use Rattle.rr_ring.specs.declared.ring.Ring.{Ring}
use Rattle.rr_ring.specs.Positions.{position_of}
use Rattle.rr_ring.specs.Ring.{ring_row, IsRowChanged}
use Rattle.rr_archive.specs.Entries.{items_of}
use Rattle.rr_ring.specs.StoredRows.{items_at, has_room_at, is_blank, slot_and_entries}
use Rattle.rr_ring.specs.Blocks.{block_items, items_of_block, items_by_position, has_room_in, block_has_room, has_room_by_position, made_in, IsChanged}
use Rattle.rr_archive.proofs.LiveRowsLemmas.{empty_is}
use Rattle.rr_archive.proofs.Lists.{get_set, get_set_same}

-- ---- lists

-- one more reads the same where nothing is read as the last is
get_push : {X Y : Type 0} (f : Option X → Y) (xs : List X) (x : X) (i : ℕ) → f (Some x) ≡ f None
    → f (slice_get (xs ++ (x ∷ [])) i) ≡ f (slice_get xs i)
get_push f [] x zero same = same
get_push f [] x (suc i) same = refl
get_push f (y ∷ xs) x zero same = refl
get_push f (y ∷ xs) x (suc i) same = get_push f xs x i same

itself : (n : ℕ) → eqb n n ≡ true
itself n = grind (arith, nat_tests)

swapped : (m n : ℕ) → eqb m n ≡ eqb n m
swapped m n = grind (arith, nat_tests)

-- ---- one stored row

-- a row as its slot and entries are read
items_stored : Option (ℤ × List Entry) → ℤ → List Entry
items_stored None s = []
items_stored (Some p) s = cond (int_eq p.0 s) p.1 []

items_at-stored : (o : Option StoredRow) (s : ℤ) → items_at o s ≡ items_stored (option_map slot_and_entries o) s
unfolding items_stored
items_at-stored None s = refl
items_at-stored (Some r) s = refl

pub items_at-alike : (old new : StoredRow) (s : ℤ) → slot_and_entries new ≡ slot_and_entries old
    → items_at (Some new) s ≡ items_at (Some old) s
items_at-alike old new s same = items_at-stored (Some new) s ∙ ap (λ p. items_stored (Some p) s) same
    ∙ sym (items_at-stored (Some old) s)

items_at-blank : (r : StoredRow) (s : ℤ) → is_blank r ≡ true → items_at (Some r) s ≡ []
items_at-blank r s blank = elim (int_eq r.slot s) as (λ b. cond b (items_of r.entries) [] ≡ [])
    [ true ↦ empty_is (items_of r.entries) blank | false ↦ refl ]

-- ---- the rows of a block

-- a block with a blank row more
pub block_grown : (old new : Block) (row : StoredRow) → new.rows.items ≡ old.rows.items ++ (row ∷ [])
    → is_blank row ≡ true → block_items new ≡ block_items old
unfolding block_items
block_grown old new row is blank = λ i number s.
    (ap (λ xs. items_at (slice_get xs number) s) is
    ∙ get_push (λ o. items_at o s) old.rows.items row number (items_at-blank row s blank)) i

pub block_same : (old new : Block) → new.rows.items ≡ old.rows.items → block_items new ≡ block_items old
unfolding block_items
block_same old new is = λ i number s. items_at (slice_get (is i) number) s

-- with a row that stores the same
pub block_alike : (old new : Block) (at : ℕ) (was row : StoredRow) → slice_get old.rows.items at ≡ Some was
    → new.rows.items ≡ set old.rows.items at row → slot_and_entries row ≡ slot_and_entries was
    → block_items new ≡ block_items old
unfolding block_items
block_alike old new at was row has is same = λ i number s. (
    ap (λ xs. items_at (slice_get xs number) s) is
    ∙ ap (λ o. items_at o s) (get_set old.rows.items at number row (slice_get_within old.rows.items at was has))
    ∙ elim (eqb at number) as (λ b. eqb at number ≡ b
    → items_at (cond b (Some row) (slice_get old.rows.items number)) s
    ≡ items_at (slice_get old.rows.items number) s) [
      | true ↦ λ t. items_at-alike was row s same ∙ ap (λ o. items_at o s)
          (sym has ∙ ap (slice_get old.rows.items) (eqb-true at number t))
      | false ↦ λ _. refl
    ] refl) i

-- with an entry set in a row
block_changed : (old new : Block) (at : ℕ) (was row : StoredRow) (slot : ℤ) (e : Entry)
    → slice_get old.rows.items at ≡ Some was → new.rows.items ≡ set old.rows.items at row
    → slot_and_entries row ≡ (slot, with_entry (items_at (Some was) slot) e)
    → IsChanged at slot e (block_items old) (block_items new)
unfolding block_items
block_changed old new at was row slot e has is now = λ number s.
    ap (λ xs. items_at (slice_get xs number) s) is
    ∙ ap (λ o. items_at o s) (get_set old.rows.items at number row (slice_get_within old.rows.items at was has)
    ∙ ap (λ b. cond b (Some row) (slice_get old.rows.items number)) (swapped at number))
    ∙ elim (eqb number at) as (λ b. items_at (cond b (Some row) (slice_get old.rows.items number)) s
    ≡ cond b (cond (int_eq slot s) (with_entry (items_at (slice_get old.rows.items at) slot) e) [])
    (items_at (slice_get old.rows.items number) s)) [
      | true ↦ (λ i. cond (int_eq ((now i).0) s) ((now i).1) [])
          ∙ ap (λ o. cond (int_eq slot s) (with_entry (items_at o slot) e) []) (sym has)
      | false ↦ refl
    ]

-- what is read of a row
pub block_read : (block : Block) (number : ℕ) (row : StoredRow) (s : ℤ) → slice_get block.rows.items number ≡ Some row
    → items_at (Some row) s ≡ block_items block number s
unfolding block_items
block_read block number row s has = ap (λ o. items_at o s) (sym has)

-- with a change of the entry of an origin, of a block that stores what another does
pub block_after : (old made new : Block) (at : ℕ) (was row : StoredRow) (slot : ℤ) (origin : ℕ) (change : Change)
    → block_items made ≡ block_items old → slice_get made.rows.items at ≡ Some was
    → new.rows.items ≡ set made.rows.items at row → slot_and_entries row
    ≡ (slot, with_entry (items_at (Some was) slot) (entry_after (items_at (Some was) slot) origin change))
    → IsChanged at slot (entry_after (block_items old at slot) origin change) (block_items old) (block_items new)
block_after old made new at was row slot origin change same has is now =
    subst (λ f. IsChanged at slot (entry_after (f at slot) origin change) f (block_items new)) same
    (subst (λ es. IsChanged at slot (entry_after es origin change) (block_items made) (block_items new))
    (block_read made at was slot has)
    (block_changed made new at was row slot (entry_after (items_at (Some was) slot) origin change) has is now))

-- room in a row, which is there then
pub block_room_within : (block : Block) (number : ℕ) (slot : ℤ) (origin : ℕ)
    → IsTrue (has_room_in block number slot origin) → number < length block.rows.items
unfolding has_room_in
block_room_within block number slot origin room = within block.rows.items number room
  where
    within : (rows : List StoredRow) (number : ℕ) → IsTrue (has_room_at (slice_get rows number) slot origin)
        → number < length rows
    within [] number room = absurd (true≢false (sym room))
    within (r ∷ rs) zero room = omega arith
    within (r ∷ rs) (suc number) room = let rest = within rs number room in omega arith

pub block_room : (old made : Block) (number : ℕ) (row : StoredRow) (slot : ℤ) (origin : ℕ)
    → (number < length old.rows.items → made.rows.items ≡ old.rows.items) → slice_get made.rows.items number ≡ Some row
    → IsTrue (has_room_in old number slot origin) → IsTrue (has_room_at (Some row) slot origin)
unfolding has_room_in
block_room old made number row slot origin kept has room =
    subst (λ o. IsTrue (has_room_at o slot origin))
    (ap (λ xs. slice_get xs number) (sym (kept (block_room_within old number slot origin room))) ∙ has) room

pub block_room_made : (old new : Block) (number : ℕ) (row : StoredRow) (slot : ℤ) (origin : ℕ)
    → number < length old.rows.items → new.rows.items ≡ set old.rows.items number row
    → IsTrue (has_room_at (Some row) slot origin) → IsTrue (has_room_in new number slot origin)
unfolding has_room_in
block_room_made old new number row slot origin within is room =
    subst (λ o. IsTrue (has_room_at o slot origin))
    (sym (ap (λ xs. slice_get xs number) is ∙ get_set_same old.rows.items number row within)) room

-- ---- the blocks of a ring

-- what a block stores, row by row
abbrev pub stored_rows : Block → List (ℤ × List Entry)
stored_rows block = map slot_and_entries block.rows.items

-- a block as what it stores is read
items_by_stored : Option (List (ℤ × List Entry)) → ℕ → ℤ → List Entry
items_by_stored None number s = []
items_by_stored (Some rows) number s = items_stored (slice_get rows number) s

items_of_block-stored : (o : Option Block) (number : ℕ) (s : ℤ)
    → items_of_block o number s ≡ items_by_stored (option_map stored_rows o) number s
unfolding items_by_stored block_items
items_of_block-stored None number s = refl
items_of_block-stored (Some block) number s = items_at-stored (slice_get block.rows.items number) s
    ∙ ap (λ o. items_stored o s) (sym (slice_get-map slot_and_entries block.rows.items number))

pub blocks_copied : (old new : List Block) → map stored_rows new ≡ map stored_rows old
    → items_by_position new ≡ items_by_position old
unfolding items_by_position
blocks_copied old new same = λ i position s. (
    items_of_block-stored (slice_get new (position / BLOCK_ROWS)) (position % BLOCK_ROWS) s
    ∙ ap (λ o. items_by_stored o (position % BLOCK_ROWS) s)
    (sym (slice_get-map stored_rows new (position / BLOCK_ROWS))
    ∙ ap (λ xs. slice_get xs (position / BLOCK_ROWS)) same ∙ slice_get-map stored_rows old (position / BLOCK_ROWS))
    ∙ sym (items_of_block-stored (slice_get old (position / BLOCK_ROWS)) (position % BLOCK_ROWS) s)) i

-- with a block more, of no row
pub blocks_grown : (blocks : List Block) (block : Block) → block.rows.items ≡ []
    → items_by_position (blocks ++ (block ∷ [])) ≡ items_by_position blocks
unfolding items_by_position block_items
blocks_grown blocks block none = λ i position s. get_push (λ o. items_of_block o (position % BLOCK_ROWS) s) blocks block
    (position / BLOCK_ROWS) (ap (λ xs. items_at (slice_get xs (position % BLOCK_ROWS)) s) none) i

-- a block set
read_set : (blocks : List Block) (b position : ℕ) (s : ℤ) (block : Block) → b < length blocks
    → items_by_position (set blocks b block) position s
    ≡ cond (eqb b (position / BLOCK_ROWS)) (block_items block (position % BLOCK_ROWS) s)
    (items_by_position blocks position s)
unfolding items_by_position
read_set blocks b position s block h =
    ap (λ o. items_of_block o (position % BLOCK_ROWS) s) (get_set blocks b (position / BLOCK_ROWS) block h)
    ∙ elim (eqb b (position / BLOCK_ROWS)) as (λ c. items_of_block
    (cond c (Some block) (slice_get blocks (position / BLOCK_ROWS))) (position % BLOCK_ROWS) s
    ≡ cond c (block_items block (position % BLOCK_ROWS) s)
    (items_of_block (slice_get blocks (position / BLOCK_ROWS)) (position % BLOCK_ROWS) s))
    [ true ↦ refl | false ↦ refl ]

read_found : (blocks : List Block) (b position : ℕ) (s : ℤ) (block : Block) → slice_get blocks b ≡ Some block
    → b ≡ position / BLOCK_ROWS → items_by_position blocks position s ≡ block_items block (position % BLOCK_ROWS) s
unfolding items_by_position
read_found blocks b position s block has is = ap (λ o. items_of_block o (position % BLOCK_ROWS) s)
    (ap (slice_get blocks) (sym is) ∙ has)

pub blocks_alike : (blocks : List Block) (b : ℕ) (was block : Block) → slice_get blocks b ≡ Some was
    → block_items block ≡ block_items was → items_by_position (set blocks b block) ≡ items_by_position blocks
blocks_alike blocks b was block has same = λ i position s. (
    read_set blocks b position s block (slice_get_within blocks b was has)
    ∙ elim (eqb b (position / BLOCK_ROWS)) as (λ c. eqb b (position / BLOCK_ROWS) ≡ c
    → cond c (block_items block (position % BLOCK_ROWS) s) (items_by_position blocks position s)
    ≡ items_by_position blocks position s) [
      | true ↦ λ t. ap (λ f. f (position % BLOCK_ROWS) s) same
          ∙ sym (read_found blocks b position s was has (eqb-true b (position / BLOCK_ROWS) t))
      | false ↦ λ _. refl
    ] refl) i

-- a position in the block of another, past the rows that are made there, stores nothing
pub blocks_unmade : (blocks : List Block) (at i : ℕ) (s : ℤ)
    → made_in (slice_get blocks (at / BLOCK_ROWS)) ≤ at % BLOCK_ROWS + i → at % BLOCK_ROWS + i < BLOCK_ROWS
    → items_by_position blocks (at + i) s ≡ []
unfolding items_by_position block_items
blocks_unmade blocks at i s past within =
    let parts = div-add-mod' at BLOCK_ROWS in
    let is : at + i ≡ at / BLOCK_ROWS * BLOCK_ROWS + (at % BLOCK_ROWS + i) = omega arith in
    let block : (at + i) / BLOCK_ROWS ≡ at / BLOCK_ROWS = ap (λ n. n / BLOCK_ROWS) is
    ∙ div-mul-add (at / BLOCK_ROWS) BLOCK_ROWS (at % BLOCK_ROWS + i) within in
    let number : (at + i) % BLOCK_ROWS ≡ at % BLOCK_ROWS + i = ap (λ n. n % BLOCK_ROWS) is
    ∙ mod-mul-add (at / BLOCK_ROWS) BLOCK_ROWS (at % BLOCK_ROWS + i) within in
    (λ j. items_of_block (slice_get blocks (block j)) (number j) s)
    ∙ unmade (slice_get blocks (at / BLOCK_ROWS)) (at % BLOCK_ROWS + i) past
  where
    unmade : (o : Option Block) (number : ℕ) → made_in o ≤ number → items_of_block o number s ≡ []
    unmade None number past = refl
    unmade (Some block) number past = ap (λ o. items_at o s) (slice_get_past block.rows.items number past)

-- of two positions in one block, or in two
positions_apart : (m n : ℕ) → eqb (n / BLOCK_ROWS) (m / BLOCK_ROWS) ≡ false → eqb m n ≡ false
positions_apart m n h = elim (eqb m n) as (λ b. eqb m n ≡ b → b ≡ false) [
  | true ↦ λ t. sym (ap (λ k. eqb (n / BLOCK_ROWS) (k / BLOCK_ROWS)) (eqb-true m n t) ∙ itself (n / BLOCK_ROWS)) ∙ h
  | false ↦ λ _. refl
] refl

positions_near : (m n : ℕ) → n / BLOCK_ROWS ≡ m / BLOCK_ROWS → eqb (m % BLOCK_ROWS) (n % BLOCK_ROWS) ≡ eqb m n
positions_near m n same = by_parts (m % BLOCK_ROWS) (n % BLOCK_ROWS) m n (m / BLOCK_ROWS) (div-add-mod' m BLOCK_ROWS)
    (ap (λ q. q * BLOCK_ROWS + n % BLOCK_ROWS) (sym same) ∙ div-add-mod' n BLOCK_ROWS)
  where
    by_parts : (r s m n q : ℕ) → q * BLOCK_ROWS + r ≡ m → q * BLOCK_ROWS + s ≡ n → eqb r s ≡ eqb m n
    by_parts r s m n q is_m is_n = grind (arith, nat_tests)

blocks_changed : (blocks : List Block) (b at : ℕ) (was block : Block) (slot : ℤ) (e : Entry)
    → slice_get blocks b ≡ Some was → b ≡ at / BLOCK_ROWS
    → IsChanged (at % BLOCK_ROWS) slot e (block_items was) (block_items block)
    → IsChanged at slot e (items_by_position blocks) (items_by_position (set blocks b block))
blocks_changed blocks b at was block slot e has b_is changed = λ position s.
    read_set blocks b position s block (slice_get_within blocks b was has)
    ∙ ap (λ k. cond (eqb k (position / BLOCK_ROWS)) (block_items block (position % BLOCK_ROWS) s)
    (items_by_position blocks position s)) b_is
    ∙ elim (eqb (at / BLOCK_ROWS) (position / BLOCK_ROWS)) as
    (λ c. eqb (at / BLOCK_ROWS) (position / BLOCK_ROWS) ≡ c
    → cond c (block_items block (position % BLOCK_ROWS) s) (items_by_position blocks position s)
    ≡ cond (eqb position at) (cond (int_eq slot s) (with_entry (items_by_position blocks at slot) e) [])
    (items_by_position blocks position s)) [
      | true ↦ λ t.
          let same = eqb-true (at / BLOCK_ROWS) (position / BLOCK_ROWS) t in
          changed (position % BLOCK_ROWS) s
          ∙ ap (λ c. cond c (cond (int_eq slot s) (with_entry (block_items was (at % BLOCK_ROWS) slot) e) [])
          (block_items was (position % BLOCK_ROWS) s)) (positions_near position at same)
          ∙ ap (λ es. cond (eqb position at) (cond (int_eq slot s) (with_entry es e) [])
          (block_items was (position % BLOCK_ROWS) s)) (sym (read_found blocks b at slot was has b_is))
          ∙ ap (cond (eqb position at) (cond (int_eq slot s) (with_entry (items_by_position blocks at slot) e) []))
          (sym (read_found blocks b position s was has (b_is ∙ same)))
      | false ↦ λ t. ap (λ c. cond c (cond (int_eq slot s) (with_entry (items_by_position blocks at slot) e) [])
          (items_by_position blocks position s)) (sym (positions_apart position at t))
    ] refl

-- room in the row of a position, whose block is there then
pub blocks_room_within : (blocks : List Block) (at : ℕ) (slot : ℤ) (origin : ℕ)
    → IsTrue (has_room_by_position blocks at slot origin) → at / BLOCK_ROWS < length blocks
unfolding has_room_by_position
blocks_room_within blocks at slot origin room = within blocks (at / BLOCK_ROWS) room
  where
    within : (blocks : List Block) (b : ℕ) → IsTrue (block_has_room (slice_get blocks b) (at % BLOCK_ROWS) slot origin)
        → b < length blocks
    within [] b room = absurd (true≢false (sym room))
    within (x ∷ xs) zero room = omega arith
    within (x ∷ xs) (suc b) room = let rest = within xs b room in omega arith

pub blocks_room : (old made : List Block) (at : ℕ) (was : Block) (slot : ℤ) (origin : ℕ)
    → (at / BLOCK_ROWS < length old → made ≡ old) → slice_get made (at / BLOCK_ROWS) ≡ Some was
    → IsTrue (has_room_by_position old at slot origin) → IsTrue (has_room_in was (at % BLOCK_ROWS) slot origin)
unfolding has_room_by_position
blocks_room old made at was slot origin kept has room =
    subst (λ o. IsTrue (block_has_room o (at % BLOCK_ROWS) slot origin))
    (ap (λ xs. slice_get xs (at / BLOCK_ROWS)) (sym (kept (blocks_room_within old at slot origin room))) ∙ has) room

pub blocks_room_made : (blocks : List Block) (at : ℕ) (block : Block) (slot : ℤ) (origin : ℕ)
    → at / BLOCK_ROWS < length blocks → IsTrue (has_room_in block (at % BLOCK_ROWS) slot origin)
    → IsTrue (has_room_by_position (set blocks (at / BLOCK_ROWS) block) at slot origin)
unfolding has_room_by_position
blocks_room_made blocks at block slot origin within room =
    subst (λ o. IsTrue (block_has_room o (at % BLOCK_ROWS) slot origin))
    (sym (get_set_same blocks (at / BLOCK_ROWS) block within)) room

-- ---- the rows of a ring

pub rows_same : (old new : Ring) → new.rows ≡ old.rows
    → items_by_position new.blocks.items ≡ items_by_position old.blocks.items → ring_row new ≡ ring_row old
unfolding ring_row
rows_same old new rows same = λ i s. same i (position_of (rows i) s) s

rows_changed : (old new : Ring) (slot : ℤ) (at : ℕ) (e : Entry) → new.rows ≡ old.rows → at ≡ position_of old.rows slot
    → IsChanged at slot e (items_by_position old.blocks.items) (items_by_position new.blocks.items)
    → IsRowChanged old.rows slot e (ring_row old) (ring_row new)
unfolding ring_row
rows_changed old new slot at e rows is changed = λ s.
    ap (λ r. items_by_position new.blocks.items (position_of r s) s) rows
    ∙ changed (position_of old.rows s) s
    ∙ ap (λ k. cond (eqb (position_of old.rows s) k)
    (cond (int_eq slot s) (with_entry (items_by_position old.blocks.items k slot) e) [])
    (items_by_position old.blocks.items (position_of old.rows s) s)) is

-- what is read of the row of a slot
pub row_read : (ring : Ring) (blocks : List Block) (at : ℕ) (was : Block) (slot : ℤ) → at ≡ position_of ring.rows slot
    → slice_get blocks (at / BLOCK_ROWS) ≡ Some was → items_by_position blocks ≡ items_by_position ring.blocks.items
    → block_items was (at % BLOCK_ROWS) slot ≡ ring_row ring slot
unfolding ring_row
row_read ring blocks at was slot is has same =
    sym (read_found blocks (at / BLOCK_ROWS) at slot was has refl)
    ∙ ap (λ f. f at slot) same
    ∙ ap (λ k. items_by_position ring.blocks.items k slot) is

-- with a change of the entry of an origin, in a block of a ring that stores what another does
pub rows_after : (old new : Ring) (blocks : List Block) (at : ℕ) (was block : Block) (slot : ℤ) (origin : ℕ)
    (change : Change) → at ≡ position_of old.rows slot → slice_get blocks (at / BLOCK_ROWS) ≡ Some was
    → items_by_position blocks ≡ items_by_position old.blocks.items → new.rows ≡ old.rows
    → new.blocks.items ≡ set blocks (at / BLOCK_ROWS) block
    → IsChanged (at % BLOCK_ROWS) slot (entry_after (block_items was (at % BLOCK_ROWS) slot) origin change)
    (block_items was)
    (block_items block) → IsRowChanged old.rows slot (entry_after (ring_row old slot) origin change) (ring_row old)
    (ring_row new)
rows_after old new blocks at was block slot origin change is has same rows blocks_is changed =
    subst (λ es. IsRowChanged old.rows slot (entry_after es origin change) (ring_row old) (ring_row new))
    (row_read old blocks at was slot is has same)
    (rows_changed old new slot at (entry_after (block_items was (at % BLOCK_ROWS) slot) origin change) rows is
    (subst (λ bs. IsChanged at slot (entry_after (block_items was (at % BLOCK_ROWS) slot) origin change)
    (items_by_position old.blocks.items) (items_by_position bs)) (sym blocks_is)
    (subst (λ f. IsChanged at slot (entry_after (block_items was (at % BLOCK_ROWS) slot) origin change) f
    (items_by_position (set blocks (at / BLOCK_ROWS) block))) same
    (blocks_changed blocks (at / BLOCK_ROWS) at was block slot
    (entry_after (block_items was (at % BLOCK_ROWS) slot) origin change) has refl changed))))
