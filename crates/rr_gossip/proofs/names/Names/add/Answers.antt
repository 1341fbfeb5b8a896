use Rattle.std.proofs.Common.{map, sym, ◌∙◌}
use Rattle.rr_delta.specs.Names.{owned_name}
use Rattle.rr_gossip.proofs.SummaryLemmas.{taken_ascend}
use Rattle.rr_gossip.proofs.names.Names.add.Goals as goal

pub invariant_of-self-else-is_err : goal.invariant_of-self-else-is_err
invariant_of-self-else-is_err c =
    taken_ascend c.args.schema.now (map owned_name c.self.inside.names.items)
    (map owned_name c.read_summary-result.new.names.items) c.args.body.now c.read_summary-result.result
    c.read_summary-result.ensures (sym c.is_err.ensures.value ∙ c.if-is_err.false) c.self.invariant
