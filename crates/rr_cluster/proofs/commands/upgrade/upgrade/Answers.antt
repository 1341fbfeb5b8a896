use Rattle.std.proofs.Common.{refl, sym}
use Rattle.std.proofs.lemmas.Result.{err_from_is_err_and}
use Rattle.rr_cluster.proofs.CommandsLemmas.Upgrade.{bad_archive, upgraded, upgrade_is_refused, schema_is_upgraded, represents_upgraded}
use Rattle.rr_cluster.proofs.commands.upgrade.upgrade.Goals as goal

pub returns-in_default : goal.returns-in_default
returns-in_default g c = λ m is. (bad_archive m c.args.archive.now (sym c.in_default.ensures), is)

pub returns-in_err-cluster : goal.returns-in_err-cluster
returns-in_err-cluster g c = λ m is.
    let p = err_from_is_err_and c.from_residual.result c.from_residual.ensures.1 in
    rw (p.1, p.2) (upgrade_is_refused c.args.cluster.now m c.args.cluster.now.schema is c.args.archive.now
    c.in-Some.archive (sym c.in-Some.ensures) c.in_err-cluster.field-0.0 c.in_err-cluster.ensures.value)

pub returns : goal.returns
returns g c = λ m is.
    let s = c.in_ok-cluster.field-0 in (
      upgraded m s,
      schema_is_upgraded c.args.cluster.now m s is c.args.archive.now c.in-Some.archive (sym c.in-Some.ensures)
          c.in_ok-cluster.ensures.value,
      represents_upgraded c.args.cluster.now m s is _ refl refl refl c.new.ensures.empty c.new-2.ensures.empty refl
          refl,
    )
