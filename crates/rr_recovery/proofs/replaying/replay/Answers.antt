use Rattle.std.proofs.Common.{◌^◌, ◌<◌, Ok, IfSome, sym, subst, ◌∙◌, arith}
use Rattle.std.proofs.lemmas.Result.{err_from_is_err_and}
use Rattle.rr_io.specs.Counted.{inner_of}
use Rattle.rr_journal.specs.declared.cursor.Cursor.{Cursor}
use Rattle.rr_journal.specs.declared.step.Step.{Step}
use Rattle.rr_journal.specs.Stream.{IsStep, MovesBy}
use Rattle.rr_journal.specs.Text.{raw_of}
use Rattle.rr_replica.specs.ReplicaWithRoom.{replica_state}
use Rattle.rr_recovery.specs.declared.fault.RecoveryFault.{RecoveryFault}
use Rattle.rr_recovery.specs.Taking.{recovery}
use Rattle.rr_recovery.proofs.TakingLemmas.{joins_schema, joins_then}
use Rattle.rr_recovery.proofs.ReplayLemmas.{TakesTheSame, is_refused, is_replayed, never_refused, one_more, takes_on}
use Rattle.rr_recovery.proofs.replaying.replay.Goals as goal

pub take_record-requires : goal.take_record-requires
take_record-requires g c =
    c.requires ∙ sym (joins_schema (replica_state c.args.replica.now) (replica_state c.loop.replica)
    c.loop.invariant.joins)

pub returns-in_err-take_record-in-Whole-clause-read : goal.returns-in_err-take_record-in-Whole-clause-read
returns-in_err-take_record-in-Whole-clause-read g c =
    let old = g.R.Read.remaining (inner_of c.args.input.now) in
    let left = g.R.Read.remaining (inner_of c.loop.input) in
    let new = g.R.Read.remaining (inner_of c.step_from.new.input) in
    let step = subst (λ (t : Step). IfSome left (λ all. IsStep c.loop.place.digest t new all)) c.in-Whole.is
    c.in_ok-raw.ensures.read in
    let p = err_from_is_err_and c.from_residual-in_err-take_record-in-Whole.result
    c.from_residual-in_err-take_record-in-Whole.ensures.1 in
    rw (p.1, p.2)
    (is_refused c.args.place.now c.loop.place (recovery c.args.replica.now c.args.found.now)
    (recovery c.loop.replica c.loop.found) (raw_of c.in-Whole.raw) old left new _ c.loop.invariant.taken step
    c.in_err-take_record-in-Whole.ensures.exact)

pub returns-in_err-take_record-in-Whole-clause-joins : goal.returns-in_err-take_record-in-Whole-clause-joins
returns-in_err-take_record-in-Whole-clause-joins g c =
    joins_then (replica_state c.args.replica.now) (replica_state c.loop.replica)
    (replica_state c.take_record.new.replica) c.loop.invariant.joins c.in_err-take_record-in-Whole.ensures.joins

pub returns-in_err-take_record-in-Whole-clause-failed : goal.returns-in_err-take_record-in-Whole-clause-failed
returns-in_err-take_record-in-Whole-clause-failed g c =
    let p = err_from_is_err_and c.from_residual-in_err-take_record-in-Whole.result
    c.from_residual-in_err-take_record-in-Whole.ensures.1 in
    rw (p.1, p.2)
    (λ e. absurd (never_refused (recovery c.loop.replica c.loop.found) (raw_of c.in-Whole.raw) _
    c.in_err-take_record-in-Whole.ensures.exact (cc e)))

pub returns-in-Stopped-clause-read : goal.returns-in-Stopped-clause-read
returns-in-Stopped-clause-read g c =
    let old = g.R.Read.remaining (inner_of c.args.input.now) in
    let left = g.R.Read.remaining (inner_of c.loop.input) in
    let new = g.R.Read.remaining (inner_of c.step_from.new.input) in
    let step = subst (λ (t : Step). IfSome left (λ all. IsStep c.loop.place.digest t new all)) c.in-Stopped.is
    c.in_ok-raw.ensures.read in
    let moved = subst (λ (t : Step). MovesBy {E = RecoveryFault} c.loop.place c.step_from.new.place (Ok t))
    c.in-Stopped.is c.in_ok-raw.ensures.moves in
    let fits = subst (λ (place : Cursor). place.offset < 2 ^ 64) moved c.in_ok-raw.ensures.fits in
    is_replayed c.args.place.now c.loop.place c.step_from.new.place (recovery c.args.replica.now c.args.found.now)
    (recovery c.loop.replica c.loop.found) old left c.in-Stopped.stop c.loop.invariant.taken step moved fits

pub loop-preserved : goal.loop-preserved
loop-preserved g c =
    let x = recovery c.args.replica.now c.args.found.now in
    let now = recovery c.loop.replica c.loop.found in
    let next = recovery c.take_record.new.replica c.take_record.new.found in
    let old = g.R.Read.remaining (inner_of c.args.input.now) in
    let left = g.R.Read.remaining (inner_of c.loop.input) in
    let new = g.R.Read.remaining (inner_of c.step_from.new.input) in
    let r = raw_of c.in-Whole.raw in
    let step = subst (λ (t : Step). IfSome left (λ all. IsStep c.loop.place.digest t new all)) c.in-Whole.is
    c.in_ok-raw.ensures.read in
    let moved = subst (λ (t : Step). MovesBy {E = RecoveryFault} c.loop.place c.step_from.new.place (Ok t))
    c.in-Whole.is c.in_ok-raw.ensures.moves in
    record {
      taken = one_more c.args.place.now c.loop.place c.step_from.new.place r old left new (TakesTheSame x now)
          (TakesTheSame x next) c.loop.invariant.taken step moved
          (takes_on x now next r c.in_ok-take_record-in-Whole.ensures.exact);
      joins = joins_then x.replica now.replica next.replica c.loop.invariant.joins
          c.in_ok-take_record-in-Whole.ensures.joins;
      failures = omega (arith, c.loop.invariant.failures, c.step_from.ensures.failures_never_fall);
    }
