-- The calls to a dial, each with what it gave or was handed back.
use Rattle.std.specs.Prelude.{◌≡◌, ⊤, ℕ, List, ◌++◌, Option, None, Some}
use Rattle.rr_host.specs.Streams.{Stream}

-- a list has grown by these, as far as it is known: once unknown, it stays unknown
abbrev pub Grows : {A : Type 0} → Option (List A) → Option (List A) → List A → Type 0
Grows None None added = ⊤
Grows None (Some new) added = ⊥
Grows (Some old) None added = ⊤
Grows (Some old) (Some new) added = new ≡ old ++ added

-- a call to a dial: it was asked about an address, which is due, or is passed over since it isn't; or it reached one by
-- a stream, or couldn't reach it; or a stream was handed back
pub data DialCall : Type 0 where
  due : (address : List ℕ) → DialCall
  passed_over : (address : List ℕ) → DialCall
  reached : (address : List ℕ) → Stream → DialCall
  unreached : (address : List ℕ) → DialCall
  handed_back : Stream → DialCall
