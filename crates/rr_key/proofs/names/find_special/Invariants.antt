use Rattle.memchr.specs.Find.{Nowhere, Passes}
use Rattle.rr_key.specs.Class.{is_special}
use Rattle.rr_key.proofs.names.find_special.Given as goal

-- none of the bytes so far is special
abbrev pub invariant-loop-i : goal.invariant-loop-i
invariant-loop-i l = Nowhere (Passes (is_special l.class) l.text) 0 l.i
