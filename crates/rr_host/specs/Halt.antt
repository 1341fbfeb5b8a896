-- The calls of a halt.

-- a node was ended early
pub data HaltCall : Type 0 where
  Halted : HaltCall
