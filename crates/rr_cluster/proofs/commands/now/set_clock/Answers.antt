use Rattle.std.proofs.Common.{Ok, Err, refl, rules}
use Rattle.std.proofs.Math.Facts.{to_z-of_z}
use Rattle.std.specs.Int.{w64}
use Rattle.std.proofs.lemmas.Result.{err_from_is_err_and}
use Rattle.rr_cluster.specs.Command.{word_of}
use Rattle.rr_cluster.proofs.CommandsLemmas.Now.{bad_time, bad_lead, clock_is_set, lead_read, represents_with_clock}
use Rattle.rr_cluster.proofs.commands.now.set_clock.Goals as goal

pub returns-in_err-clock : goal.returns-in_err-clock
returns-in_err-clock g c = λ m is.
    let p = err_from_is_err_and c.from_residual.result c.from_residual.ensures.1 in
    rw (p.1, p.2) (bad_time m c.args.time.now (word_of c.args.lead) c.in_err-clock.field-0.0 c.in_err-clock.ensures, is)

pub returns-in_err-lead : goal.returns-in_err-lead
returns-in_err-lead g c = λ m is.
    let p = err_from_is_err_and c.from_residual-in_err-lead.result c.from_residual-in_err-lead.ensures.1 in
    let lead = lead_read c.args.cluster.now m is (word_of c.args.lead) (Err c.in_err-lead.field-0.0)
    c.in_err-lead.ensures in
    rw (p.1, p.2) (
      bad_lead m c.args.time.now (word_of c.args.lead) c.in_ok-clock.clock c.in_ok-clock.ensures
          c.in_err-lead.field-0.0 lead,
      is,
    )

pub returns : goal.returns
returns g c = λ m is.
    let lead = lead_read c.args.cluster.now m is (word_of c.args.lead) (Ok c.in_ok-lead.lead) c.in_ok-lead.ensures in
    let back = to_z-of_z {w = w64} {z = c.in_ok-clock.clock} (search rules) in (
      record m { clock = c.in_ok-clock.clock; lead = c.in_ok-lead.lead },
      clock_is_set m c.args.time.now (word_of c.args.lead) c.in_ok-clock.clock c.in_ok-clock.ensures c.in_ok-lead.lead
          lead,
      represents_with_clock c.args.cluster.now m is _ c.in_ok-clock.clock c.in_ok-lead.lead refl back refl refl refl
          refl refl,
    )
