use Rattle.std.specs.VecDeque.Iter.{deque_iter_rest}
use Rattle.rr_packed.proofs.BlocksLemmas.{IsCopied}
use Rattle.rr_packed.proofs.blocks.Blocks.copy.Given as goal

abbrev pub invariant-loop-number : goal.invariant-loop-number
invariant-loop-number l = IsCopied l.self.older.items (deque_iter_rest l.number-iterator) l.older.items
