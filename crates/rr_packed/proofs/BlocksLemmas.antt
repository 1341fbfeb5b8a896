-- What is stored of each slot, as blocks change, are added and leave.
use Rattle.std.proofs.Common.{◌≡◌, ℕ, ◌+◌, ◌-◌, ◌<◌, max, min, Bool, ℤ, pos, ◌+ℤ◌, ◌*ℤ◌, true, false, cond, eqb, List, [], ◌∷◌, ◌++◌, map, drop, length, get_or, refl, sym, ap, ◌∙◌, subst, ◌⊎◌, inr, Option, Some, None, Result, Ok, Err, OnOk, OnErr, IsTrue, is_some, Less, int_cmp, arith, true≢false}
use Rattle.std.specs.Prelude.{int_lt, nat_lt}
use Rattle.std.specs.List.{AllByRecursion}
use Rattle.std.specs.List.Sorted.{IsStrictlySortedBy}
use Rattle.std.specs.Map.{keys_of, lookup}
use Rattle.std.specs.BTreeMap.{is_at}
use Rattle.std.specs.Option.{option_map}
use Rattle.std.specs.Ordering.{int_eq, is_eq}
use Rattle.std.proofs.lemmas.Bool.{ltb-true, ltb-false, ne_eqb}
use Rattle.std.proofs.lemmas.Bool.Decides.{nat_tests}
use Rattle.std.proofs.lemmas.Int.{ints}
use Rattle.std.proofs.lemmas.List.{map-append, append_assoc, append-nil}
use Rattle.std.proofs.lemmas.Map.Made.{lookup-map_values}
use Rattle.rr_archive.specs.declared.entry.Entry.{Entry}
use Rattle.rr_archive.specs.declared.change.Change.{Change}
use Rattle.rr_archive.specs.Row.{with_entry}
use Rattle.rr_archive.specs.Changes.{entry_after}
use Rattle.rr_packed.specs.declared.held_block.HeldBlock.{HeldBlock}
use Rattle.rr_packed.specs.declared.blocks.Blocks.{Blocks}
use Rattle.rr_packed.specs.Slots.{block_of, row_of}
use Rattle.rr_packed.specs.BlockRows.{IsRowSet}
use Rattle.rr_packed.specs.Blocks.{all_blocks, held, is_shared, stored, stored_in, block_at, items_of_block, items_by_slot, has_room_held, block_has_room, has_room_at, starts_before, IsBlockSet, IsSlotSet}
use Rattle.rr_packed.proofs.SlotLemmas.{same_slot_by, block_on, row_on, before_block, earlier_block}

same_number : (a b : ℤ) → is_at (int_cmp a) b ≡ true → a ≡ b
same_number a b h = grind (arith, ints)

number_same : (a : ℤ) → is_at (int_cmp a) a ≡ true
number_same a = grind (arith, ints)

same_slot : (a b : ℤ) → int_eq a b ≡ true → a ≡ b
same_slot a b h = grind (arith, ints)

other_slot : (a b : ℤ) → int_eq a b ≡ false → a ≡ b → ⊥
other_slot a b h e = grind (arith, ints)

-- a slot whose block is there, and of one that isn't
pub slot_found : (blocks : List (ℤ × HeldBlock)) (slot : ℤ) (b : HeldBlock) → Some b ≡ block_at blocks (block_of slot)
    → items_by_slot blocks slot ≡ stored_in b (row_of slot)
unfolding items_by_slot
slot_found blocks slot b has = ap (λ o. items_of_block o (row_of slot)) (sym has)

pub slot_missing : (blocks : List (ℤ × HeldBlock)) (slot : ℤ) → None ≡ block_at blocks (block_of slot)
    → items_by_slot blocks slot ≡ []
unfolding items_by_slot
slot_missing blocks slot none = ap (λ o. items_of_block o (row_of slot)) (sym none)

-- the slots that follow one in its block
pub slots_after : (blocks : List (ℤ × HeldBlock)) (slot : ℤ) (i : ℕ) → row_of slot + i < 64
    → items_by_slot blocks (slot +ℤ pos i) ≡ items_of_block (block_at blocks (block_of slot)) (row_of slot + i)
unfolding items_by_slot
slots_after blocks slot i near = λ j. items_of_block (block_at blocks (block_on slot i near j)) (row_on slot i near j)

-- ---- a block set

-- whether a block was added or not
pub either : {T E P : Type 0} (r : Result T E) → OnOk r P → OnErr r P → P
either (Ok x) p q = p
either (Err e) p q = q

-- with a block that stores what the number's does
pub blocks_alike : (old new : List (ℤ × HeldBlock)) (number : ℤ) (b : HeldBlock) → IsBlockSet number b old new
    → stored_in b ≡ items_of_block (block_at old number) → items_by_slot new ≡ items_by_slot old
unfolding items_by_slot
blocks_alike old new number b sets same = λ i s. (
    ap (λ o. items_of_block o (row_of s)) (sets (block_of s))
    ∙ elim (is_at (int_cmp number) (block_of s)) as
    (λ c. is_at (int_cmp number) (block_of s) ≡ c
    → items_of_block (cond c (Some b) (block_at old (block_of s))) (row_of s)
    ≡ items_of_block (block_at old (block_of s)) (row_of s)) [
      | true ↦ λ t. ap (λ f. f (row_of s)) same ∙ ap (λ z. items_of_block (block_at old z) (row_of s))
          (same_number number (block_of s) t)
      | false ↦ λ _. refl
    ] refl) i

-- with a block in which an entry of the slot's row is set
pub blocks_changed : (old new : List (ℤ × HeldBlock)) (slot : ℤ) (b : HeldBlock) (e : Entry)
    → IsBlockSet (block_of slot) b old new → IsRowSet (row_of slot) (with_entry (items_by_slot old slot) e)
    (items_of_block (block_at old (block_of slot))) (stored_in b)
    → IsSlotSet slot e (items_by_slot old) (items_by_slot new)
unfolding items_by_slot
blocks_changed old new slot b e sets set = λ s.
    ap (λ o. items_of_block o (row_of s)) (sets (block_of s))
    ∙ elim (is_at (int_cmp (block_of slot)) (block_of s)) as
    (λ c. is_at (int_cmp (block_of slot)) (block_of s) ≡ c
    → items_of_block (cond c (Some b) (block_at old (block_of s))) (row_of s)
    ≡ cond (int_eq slot s) (with_entry (items_of_block (block_at old (block_of slot)) (row_of slot)) e)
    (items_of_block (block_at old (block_of s)) (row_of s))) [
      | true ↦ λ t.
          let one = same_number (block_of slot) (block_of s) t in
          set (row_of s)
          ∙ elim (int_eq slot s) as (λ d. int_eq slot s ≡ d
          → cond (eqb (row_of s) (row_of slot)) (with_entry
          (items_of_block (block_at old (block_of slot)) (row_of slot)) e)
          (items_of_block (block_at old (block_of slot)) (row_of s))
          ≡ cond d (with_entry (items_of_block (block_at old (block_of slot)) (row_of slot)) e)
          (items_of_block (block_at old (block_of s)) (row_of s))) [
            | true ↦ λ is. ap (λ d. cond d (with_entry (items_of_block (block_at old (block_of slot)) (row_of slot)) e)
                (items_of_block (block_at old (block_of slot)) (row_of s)))
                (ap (λ z. eqb (row_of z) (row_of slot)) (sym (same_slot slot s is)) ∙ itself (row_of slot))
            | false ↦ λ apart. ap (λ d. cond d (with_entry (items_of_block (block_at old (block_of slot)) (row_of slot))
                e) (items_of_block (block_at old (block_of slot)) (row_of s)))
                (rows_apart (row_of s) (row_of slot) (λ r. other_slot slot s apart (same_slot_by slot s one (sym r))))
                ∙ ap (λ z. items_of_block (block_at old z) (row_of s)) one
          ] refl
      | false ↦ λ t. ap (λ d. cond d (with_entry (items_of_block (block_at old (block_of slot)) (row_of slot)) e)
          (items_of_block (block_at old (block_of s)) (row_of s))) (sym (elsewhere s t))
    ] refl
  where
    itself : (n : ℕ) → eqb n n ≡ true
    itself n = grind (arith, nat_tests)

    rows_apart : (m n : ℕ) → (m ≡ n → ⊥) → eqb m n ≡ false
    rows_apart m n apart = ne_eqb m n apart

    elsewhere : (s : ℤ) → is_at (int_cmp (block_of slot)) (block_of s) ≡ false → int_eq slot s ≡ false
    elsewhere s t = elim (int_eq slot s) as (λ d. int_eq slot s ≡ d → d ≡ false) [
      | true ↦ λ is. sym (sym t ∙ ap (λ z. is_at (int_cmp (block_of slot)) (block_of z)) (sym (same_slot slot s is))
          ∙ number_same (block_of slot))
      | false ↦ λ _. refl
    ] refl

-- with the entry of an origin changed in a block that is there
pub change_there : (rows : ℤ → List Entry) (old new : List (ℤ × HeldBlock)) (slot : ℤ) (was b : HeldBlock) (origin : ℕ)
    (change : Change) → items_by_slot old ≡ rows → IsBlockSet (block_of slot) b old new
    → Some was ≡ block_at old (block_of slot)
    → IsRowSet (row_of slot) (with_entry (stored_in was (row_of slot))
    (entry_after (stored_in was (row_of slot)) origin change)) (stored_in was) (stored_in b)
    → IsSlotSet slot (entry_after (rows slot) origin change) rows (items_by_slot new)
change_there rows old new slot was b origin change same sets has changed =
    let here = sym (slot_found old slot was has) in
    subst (λ f. IsSlotSet slot (entry_after (f slot) origin change) f (items_by_slot new)) same
    (blocks_changed old new slot b (entry_after (items_by_slot old slot) origin change) sets (λ n.
    changed n ∙ (λ i. cond (eqb n (row_of slot)) (with_entry (here i) (entry_after (here i) origin change))
    (items_of_block (has i) n))))

-- ---- room in the row of a slot

pub room_found : (bs : Blocks) (slot : ℤ) (origin : ℕ) (b : HeldBlock)
    → Some b ≡ block_at (all_blocks bs) (block_of slot)
    → IsTrue (has_room_at bs slot origin) → IsTrue (has_room_held b (row_of slot) origin)
unfolding has_room_at
room_found bs slot origin b has room = subst (λ o. block_has_room o (row_of slot) origin ≡ true) (sym has) room

-- only a block that is there has room
pub room_there : (bs : Blocks) (slot : ℤ) (origin : ℕ) → IsTrue (has_room_at bs slot origin)
    → IsTrue (is_some (block_at (all_blocks bs) (block_of slot)))
unfolding has_room_at
room_there bs slot origin room = some (block_at (all_blocks bs) (block_of slot)) room
  where
    some : (o : Option HeldBlock) → IsTrue (block_has_room o (row_of slot) origin) → IsTrue (is_some o)
    some None h = h
    some (Some b) h = refl

pub room_stays : (old new : Blocks) (slot : ℤ) (origin : ℕ)
    → (IsTrue (is_some (block_at (all_blocks old) (block_of slot))) → new ≡ old) → IsTrue (has_room_at old slot origin)
    → IsTrue (has_room_at new slot origin)
room_stays old new slot origin stays room = subst (λ (b : Blocks). IsTrue (has_room_at b slot origin))
    (sym (stays (room_there old slot origin room))) room

pub room_at : (old : List (ℤ × HeldBlock)) (new : Blocks) (slot : ℤ) (origin : ℕ) (b : HeldBlock)
    → IsBlockSet (block_of slot) b old (all_blocks new) → IsTrue (has_room_held b (row_of slot) origin)
    → IsTrue (has_room_at new slot origin)
unfolding has_room_at
room_at old new slot origin b sets here = subst (λ o. block_has_room o (row_of slot) origin ≡ true)
    (sym (sets (block_of slot) ∙ ap (λ c. cond c (Some b) (block_at old (block_of slot)))
    (number_same (block_of slot)))) here

-- a block without an entry, where there was none
pub blocks_added : (old new : List (ℤ × HeldBlock)) (number : ℤ) (b : HeldBlock) → IsBlockSet number b old new
    → None ≡ block_at old number → ((n : ℕ) → stored_in b n ≡ []) → items_by_slot new ≡ items_by_slot old
blocks_added old new number b sets none empty = blocks_alike old new number b sets
    (λ i n. (empty n ∙ ap (λ o. items_of_block o n) none) i)

-- ---- the first block taken out

none_later : (s q : ℤ) (bs : List (ℤ × HeldBlock)) → s ≡ q → AllByRecursion (λ t. int_cmp s t ≡ Less) (keys_of bs)
    → block_at bs q ≡ None
none_later s q [] e h = refl
none_later s q (b ∷ bs) e h = ap (λ c. cond c (Some b.1) (block_at bs q))
    (ap (λ z. is_eq (int_cmp z b.0)) (sym e) ∙ ap is_eq h.0) ∙ none_later s q bs e h.1

all_later : (q l : ℤ) (bs : List (ℤ × HeldBlock)) → int_cmp q l ≡ Less
    → AllByRecursion (λ t. int_cmp l t ≡ Less) (keys_of bs) → AllByRecursion (λ t. int_cmp q t ≡ Less) (keys_of bs)
all_later q l [] less all = tt
all_later q l (b ∷ bs) less all = (let here = all.0 in grind (arith, ints, less, here), all_later q l bs less all.1)

-- nothing is stored of a slot before the first block
pub empty_before : (bs : List (ℤ × HeldBlock)) (s : ℤ) (b : ℤ × HeldBlock) → IsStrictlySortedBy int_cmp (keys_of bs)
    → 0 < length bs → b ≡ get_or bs 0 b → int_lt s (b.0 *ℤ pos 64) ≡ true → items_by_slot bs s ≡ []
unfolding IsStrictlySortedBy items_by_slot
empty_before [] s b sorted some is before = refl
empty_before (first ∷ bs) s b sorted some is before =
    let less : int_cmp (block_of s) first.0 ≡ Less =
    earlier_block s first.0 (ap (λ (x : ℤ × HeldBlock). int_lt s (x.0 *ℤ pos 64)) (sym is) ∙ before) in
    ap (λ o. items_of_block o (row_of s)) (none_later (block_of s) (block_of s) (first ∷ bs) refl
    (less, all_later (block_of s) first.0 bs less sorted.0))

-- of the slots that follow one whose block isn't there: those of the block, and those before the first block
pub none_on : (bs : List (ℤ × HeldBlock)) (slot : ℤ) (most before i : ℕ) → None ≡ block_at bs (block_of slot)
    → ((j : ℕ) → j < before → items_by_slot bs (slot +ℤ pos j) ≡ [])
    → i < max (min most (64 - row_of slot)) before → items_by_slot bs (slot +ℤ pos i) ≡ []
none_on bs slot most before i none empty h = by_row (nat_lt (row_of slot + i) 64) refl
  where
    by_row : (near : Bool) → nat_lt (row_of slot + i) 64 ≡ near → items_by_slot bs (slot +ℤ pos i) ≡ []
    by_row true near = slots_after bs slot i (ltb-true _ _ near)
        ∙ ap (λ o. items_of_block o (row_of slot + i)) (sym none)
    by_row false far = let past = ltb-false (row_of slot + i) 64 far in empty i (omega (arith, h, past))

-- what is stored of each slot: what was, or nothing of a slot before this one
abbrev pub IsLeft : ℤ → (ℤ → List Entry) → (ℤ → List Entry) → Type 0
IsLeft slot old new = (s : ℤ) → (new s ≡ old s) ⊎ ((new s ≡ []) × IsTrue (int_lt s slot))

pub first_left : (slot : ℤ) (bs : List (ℤ × HeldBlock)) (old : ℤ → List Entry) → IsStrictlySortedBy int_cmp (keys_of bs)
    → starts_before (block_of slot) bs ≡ true → IsLeft slot old (items_by_slot bs)
    → IsLeft slot old (items_by_slot (drop 1 bs))
unfolding IsStrictlySortedBy items_by_slot
first_left slot [] old sorted before left = absurd (true≢false (sym before))
first_left slot (b ∷ bs) old sorted before left =
    λ s. elim (is_eq (int_cmp (block_of s) b.0)) as
    (λ c. is_eq (int_cmp (block_of s) b.0) ≡ c → (items_of_block (cond c (Some b.1) (block_at bs (block_of s)))
    (row_of s) ≡ old s) ⊎ ((items_of_block (cond c (Some b.1) (block_at bs (block_of s))) (row_of s) ≡ [])
    × IsTrue (int_lt s slot)) → (items_of_block (block_at bs (block_of s)) (row_of s) ≡ old s)
    ⊎ ((items_of_block (block_at bs (block_of s)) (row_of s) ≡ []) × IsTrue (int_lt s slot))) [
      | true ↦ λ t _.
          let is = same_number (block_of s) b.0 t in
          inr (
            ap (λ o. items_of_block o (row_of s)) (none_later b.0 (block_of s) bs (sym is) sorted.0),
            before_block s slot (ap (λ z. int_lt z (block_of slot)) is ∙ before),
          )
      | false ↦ λ _ was. was
    ] refl (left s)

-- ---- blocks that are copied one by one

-- what has been copied and what is still to be copied are the blocks
abbrev pub IsCopied : List (ℤ × HeldBlock) → List (ℤ × HeldBlock) → List (ℤ × HeldBlock) → Type 0
IsCopied blocks left new = map stored new ++ map stored left ≡ map stored blocks

pub copied_more : (blocks left rest new more : List (ℤ × HeldBlock)) (number : ℤ) (b copy : HeldBlock)
    → IsCopied blocks left new → left ≡ (number, b) ∷ rest → stored_in copy ≡ stored_in b
    → is_shared copy ≡ is_shared b
    → more ≡ new ++ (number, copy) ∷ [] → IsCopied blocks rest more
copied_more blocks left rest new more number b copy c is same shared add =
    ap (λ l. map stored l ++ map stored rest) add
    ∙ ap (λ l. l ++ map stored rest) (map-append stored new ((number, copy) ∷ []))
    ∙ append_assoc (map stored new) ((number, held copy) ∷ []) (map stored rest)
    ∙ (λ i. map stored new ++ (number, (same i, shared i)) ∷ map stored rest)
    ∙ ap (λ l. map stored new ++ map stored l) (sym is)
    ∙ c

pub all_copied : (blocks left new : List (ℤ × HeldBlock)) → IsCopied blocks left new → left ≡ []
    → map stored new ≡ map stored blocks
all_copied blocks left new c none = sym (append-nil (map stored new))
    ∙ ap (λ l. map stored new ++ map stored l) (sym none) ∙ c

-- the older ones and the newest
pub both_copied : (older newest copied last : List (ℤ × HeldBlock)) → map stored copied ≡ map stored older
    → map stored last ≡ map stored newest → map stored (copied ++ last) ≡ map stored (older ++ newest)
both_copied older newest copied last p q = map-append stored copied last ∙ (λ i. p i ++ q i)
    ∙ sym (map-append stored older newest)

pub copied_numbers : (blocks new : List (ℤ × HeldBlock)) → map stored new ≡ map stored blocks
    → keys_of new ≡ keys_of blocks
copied_numbers blocks new same = sym (numbers new) ∙ ap keys_of same ∙ numbers blocks
  where
    numbers : (bs : List (ℤ × HeldBlock)) → keys_of (map stored bs) ≡ keys_of bs
    numbers [] = refl
    numbers (b ∷ bs) = ap (λ ks. b.0 ∷ ks) (numbers bs)

pub copied_rows : (blocks new : List (ℤ × HeldBlock)) → map stored new ≡ map stored blocks
    → items_by_slot new ≡ items_by_slot blocks
unfolding items_by_slot
copied_rows blocks new same = λ i s. (
    by_stored new (block_of s) (row_of s)
    ∙ ap (λ l. read (lookup (is_at (int_cmp (block_of s))) l) (row_of s)) same
    ∙ sym (by_stored blocks (block_of s) (row_of s))) i
  where
    read : Option ((ℕ → List Entry) × Bool) → ℕ → List Entry
    read None n = []
    read (Some f) n = f.0 n

    read_of : (o : Option HeldBlock) (n : ℕ) → items_of_block o n ≡ read (option_map held o) n
    read_of None n = refl
    read_of (Some b) n = refl

    by_stored : (bs : List (ℤ × HeldBlock)) (q : ℤ) (n : ℕ)
        → items_of_block (block_at bs q) n ≡ read (lookup (is_at (int_cmp q)) (map stored bs)) n
    by_stored bs q n = read_of (block_at bs q) n ∙ ap (λ o. read o n)
        (sym (lookup-map_values held (is_at (int_cmp q)) bs))
