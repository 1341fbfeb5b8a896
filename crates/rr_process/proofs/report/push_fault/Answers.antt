use Rattle.rr_process.proofs.RecordLemmas.{plain_name}
use Rattle.rr_process.proofs.report.push_fault.Goals as goal
use Rattle.std.proofs.Common.{subst, sym}
use Rattle.rr_fetch.specs.Records.{IsPlain}

pub push_refused-requires-clause-plain : goal.push_refused-requires-clause-plain
push_refused-requires-clause-plain c = subst IsPlain (sym c.name.ensures) (plain_name c.args.fault)
