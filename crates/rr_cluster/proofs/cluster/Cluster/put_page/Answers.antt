use Rattle.std.proofs.Common.{refl}
use Rattle.rr_cluster.proofs.CommandsLemmas.Page.{represents_with_page}
use Rattle.rr_cluster.proofs.MeaningLemmas.{bytes_inserted}
use Rattle.rr_cluster.proofs.cluster.Cluster.put_page.Goals as goal

pub returns : goal.returns
returns g c = λ m cells is has.
    let old = c.args.self.now in
    let put = rw c.in_ok-name.ensures.items at (bytes_inserted old.pages c.insert.new.self c.in_ok-name.name c.args.page
    c.in_ok-insert.ensures.entries) in (
      _,
      refl,
      represents_with_page old _ m c.args.name.now c.args.page.items cells is refl refl refl refl refl refl put
          has,
    )
