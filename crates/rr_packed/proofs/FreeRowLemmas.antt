-- Rows that are held neither as a lone sample nor as entries.
use Rattle.std.proofs.Common.{◌≡◌, ℕ, []}
use Rattle.rr_packed.specs.declared.block.Block.{Block}
use Rattle.rr_packed.specs.BlockRows.{items_in, IsUnheld}
use Rattle.rr_packed.proofs.SparseLemmas.{item_none}
use Rattle.rr_packed.proofs.BlockLemmas.{items_none}

pub items_unheld : (b : Block) (k : ℕ) → IsUnheld b k → items_in b k ≡ []
items_unheld b k free = items_none b k (item_none b.rows.mask b.rows.items.items k free.rows)
    (item_none b.samples.mask b.samples.items.items k free.samples)
