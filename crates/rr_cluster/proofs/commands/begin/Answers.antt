use Rattle.std.proofs.Common.{[], Some, refl, ap}
use Rattle.rr_cluster.specs.Commands.{on_ok, beginning}
use Rattle.rr_cluster.specs.State.{first_state}
use Rattle.rr_cluster.proofs.commands.begin.Goals as goal

pub returns-in_ok-schema-in-Schema : goal.returns-in_ok-schema-in-Schema
returns-in_ok-schema-in-Schema g c =
    rw c.in-Schema.is (
      (Some (first_state c.in_ok-schema-in-Schema.schema), []),
      ap (on_ok beginning) c.in_ok-schema-in-Schema.ensures.value,
      (refl, c.new.ensures),
    )
