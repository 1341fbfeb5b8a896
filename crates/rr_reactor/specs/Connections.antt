-- How many connections there are, and may be.
use Rattle.std.specs.Prelude.{ℕ}
use Rattle.slab.specs.Slab.{slab_len}
use Rattle.rr_reactor.specs.declared.connections.Connections.{Connections}

abbrev pub count_of : {S : Type 0} → Connections S → ℕ
count_of c = slab_len c.slab

abbrev pub most_of : {S : Type 0} → Connections S → ℕ
most_of c = c.limits.connections
