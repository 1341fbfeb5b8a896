-- Items of some of 64 numbers, found by counting bits.
use Rattle.std.specs.Prelude.{◌≡◌, ℕ, ◌%◌, ◌^◌, ◌==◌, nat_lt, Bool, List, Option, Some, None, slice_get, count_ones, vec_len, vec_capacity, if◌then◌else◌}
use Rattle.std.specs.Option.{option_and_then}
use Rattle.std.specs.Int.{bit_at}
use Rattle.rr_packed.specs.declared.sparse.Sparse.{Sparse}

-- how many bits of a mask are below a number
unfoldable pub rank : ℕ → ℕ → ℕ
rank mask number = count_ones (mask % 2 ^ number)

-- where in the list the item of a number is, if the mask has its bit
abbrev pub place_at : ℕ → ℕ → Option ℕ
place_at mask number = if bit_at mask number == 1 then Some (rank mask number) else None

-- the item of a number, if there is one
unfoldable pub item_at : {T : Type 0} → ℕ → List T → ℕ → Option T
item_at mask items number = option_and_then (slice_get items) (place_at mask number)

abbrev pub item_in : {T : Type 0} → Sparse T → ℕ → Option T
item_in s number = item_at s.mask s.items.items number

-- whether there is room for one more item
abbrev pub has_room : {T : Type 0} → Sparse T → Bool
has_room s = nat_lt (vec_len s.items) (vec_capacity s.items)

-- the item of a number was set, or taken out, and the others stay
abbrev pub IsItemSet : {T : Type 0} → ℕ → Option T → (ℕ → Option T) → (ℕ → Option T) → Type 0
IsItemSet number item old new = (n : ℕ) → new n ≡ (if n == number then item else old n)
