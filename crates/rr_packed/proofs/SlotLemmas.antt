-- A slot by the number of its block and that of its row there.
use Rattle.std.proofs.Common.{◌≡◌, ℕ, ◌+◌, ◌-◌, ◌/◌, ◌<◌, ◌≤◌, ℤ, pos, negsuc, ◌+ℤ◌, ◌*ℤ◌, true, Less, int_cmp, refl, ap, ◌∙◌, arith}
use Rattle.std.specs.Prelude.{int_lt}
use Rattle.std.proofs.lemmas.Bool.{ltb-true, lt-ltb}
use Rattle.std.proofs.lemmas.Int.{ints}
use Rattle.rr_packed.specs.Slots.{block_of, row_of}

pub row_within : (s : ℤ) → row_of s < 64
unfolding row_of
row_within (pos a) = omega arith
row_within (negsuc a) = omega arith

-- the two numbers tell the slot
pub same_slot_by : (a b : ℤ) → block_of a ≡ block_of b → row_of a ≡ row_of b → a ≡ b
unfolding block_of row_of
same_slot_by (pos a) (pos b) p q = let block : a / 64 ≡ b / 64 = cc in let same : a ≡ b = omega arith in ap pos same
same_slot_by (pos a) (negsuc b) p q = absurd cc
same_slot_by (negsuc a) (pos b) p q = absurd cc
same_slot_by (negsuc a) (negsuc b) p q = let block : a / 64 ≡ b / 64 = cc in let same : a ≡ b = omega arith in
    ap negsuc same

back : (a i : ℕ) → i ≤ a → negsuc a +ℤ pos i ≡ negsuc (a - i)
back a i h = omega (arith, ints)

-- the slots that follow one in its block
pub block_on : (s : ℤ) (i : ℕ) → row_of s + i < 64 → block_of (s +ℤ pos i) ≡ block_of s
unfolding block_of row_of
block_on (pos a) i near = let same : (a + i) / 64 ≡ a / 64 = omega arith in ap pos same
block_on (negsuc a) i near = let within : i ≤ a = omega arith in let same : (a - i) / 64 ≡ a / 64 = omega arith in
    ap block_of (back a i within) ∙ ap negsuc same

pub row_on : (s : ℤ) (i : ℕ) → row_of s + i < 64 → row_of (s +ℤ pos i) ≡ row_of s + i
unfolding row_of
row_on (pos a) i near = omega arith
row_on (negsuc a) i near = let within : i ≤ a = omega arith in ap row_of (back a i within) ∙ omega arith

-- the slots of an earlier block are earlier
pub before_block : (a b : ℤ) → int_lt (block_of a) (block_of b) ≡ true → int_lt a b ≡ true
unfolding block_of
before_block (pos a) (pos b) h = let low = ltb-true (a / 64) (b / 64) h in lt-ltb a b (omega arith)
before_block (pos a) (negsuc b) h = absurd cc
before_block (negsuc a) (pos b) h = refl
before_block (negsuc a) (negsuc b) h = let low = ltb-true (b / 64) (a / 64) h in lt-ltb b a (omega arith)

-- a slot before the first of a block is of an earlier one
pub earlier_block : (s f : ℤ) → int_lt s (f *ℤ pos 64) ≡ true → int_cmp (block_of s) f ≡ Less
unfolding block_of
earlier_block (pos a) (pos n) h = let less : a / 64 < n = omega (arith, ints, h) in grind (arith, ints, less)
earlier_block (pos a) (negsuc n) h = absurd (omega (arith, ints, h))
earlier_block (negsuc a) (pos n) h = refl
earlier_block (negsuc a) (negsuc n) h = let less : n < a / 64 = omega (arith, ints, h) in grind (arith, ints, less)
