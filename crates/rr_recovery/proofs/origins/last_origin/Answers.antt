use Rattle.std.proofs.Common.{◌^◌, ◌<◌, Ok, IfSome, subst, arith}
use Rattle.std.proofs.lemmas.Result.{err_from_is_err_and}
use Rattle.rr_io.specs.Counted.{inner_of}
use Rattle.rr_journal.specs.declared.cursor.Cursor.{Cursor}
use Rattle.rr_journal.specs.declared.step.Step.{Step}
use Rattle.rr_journal.specs.Stream.{IsStep, MovesBy}
use Rattle.rr_journal.specs.Text.{raw_of}
use Rattle.rr_recovery.specs.declared.fault.RecoveryFault.{RecoveryFault}
use Rattle.rr_recovery.proofs.OriginLemmas.{FindsTheSame, finds_on, is_found, is_refused}
use Rattle.rr_recovery.proofs.ReplayLemmas.{one_more}
use Rattle.rr_recovery.proofs.origins.last_origin.Goals as goal

pub returns-in_err-origin-in-Whole-clause-read : goal.returns-in_err-origin-in-Whole-clause-read
returns-in_err-origin-in-Whole-clause-read g c =
    let old = g.R.Read.remaining (inner_of c.args.input.now) in
    let left = g.R.Read.remaining (inner_of c.loop.input) in
    let new = g.R.Read.remaining (inner_of c.step_from.new.input) in
    let step = subst (λ (t : Step). IfSome left (λ all. IsStep c.loop.place.digest t new all)) c.in-Whole.is
    c.in_ok-raw.ensures.read in
    let p = err_from_is_err_and c.from_residual-in_err-origin-in-Whole.result
    c.from_residual-in_err-origin-in-Whole.ensures.1 in
    rw (p.1, p.2)
    (is_refused c.args.place.now c.loop.place c.loop.origin (raw_of c.in-Whole.raw) old left new _
    c.loop.invariant.found step c.in_err-origin-in-Whole.ensures)

pub returns-in-Stopped-clause-read : goal.returns-in-Stopped-clause-read
returns-in-Stopped-clause-read g c =
    let old = g.R.Read.remaining (inner_of c.args.input.now) in
    let left = g.R.Read.remaining (inner_of c.loop.input) in
    let new = g.R.Read.remaining (inner_of c.step_from.new.input) in
    let step = subst (λ (t : Step). IfSome left (λ all. IsStep c.loop.place.digest t new all)) c.in-Stopped.is
    c.in_ok-raw.ensures.read in
    let moved = subst (λ (t : Step). MovesBy {E = RecoveryFault} c.loop.place c.step_from.new.place (Ok t))
    c.in-Stopped.is c.in_ok-raw.ensures.moves in
    let fits = subst (λ (place : Cursor). place.offset < 2 ^ 64) moved c.in_ok-raw.ensures.fits in
    is_found c.args.place.now c.loop.place c.step_from.new.place c.loop.origin old left c.in-Stopped.stop
    c.loop.invariant.found step moved fits

pub loop-preserved : goal.loop-preserved
loop-preserved g c =
    let old = g.R.Read.remaining (inner_of c.args.input.now) in
    let left = g.R.Read.remaining (inner_of c.loop.input) in
    let new = g.R.Read.remaining (inner_of c.step_from.new.input) in
    let r = raw_of c.in-Whole.raw in
    let next = c.in_ok-origin-in-Whole.origin in
    let step = subst (λ (t : Step). IfSome left (λ all. IsStep c.loop.place.digest t new all)) c.in-Whole.is
    c.in_ok-raw.ensures.read in
    let moved = subst (λ (t : Step). MovesBy {E = RecoveryFault} c.loop.place c.step_from.new.place (Ok t))
    c.in-Whole.is c.in_ok-raw.ensures.moves in
    record {
      found = one_more c.args.place.now c.loop.place c.step_from.new.place r old left new (FindsTheSame c.loop.origin)
          (FindsTheSame next) c.loop.invariant.found step moved
          (finds_on c.loop.origin next r c.in_ok-origin-in-Whole.ensures);
      failures = omega (arith, c.loop.invariant.failures, c.step_from.ensures.failures_never_fall);
    }
