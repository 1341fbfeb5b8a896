use Rattle.std.proofs.Common.{inl, inr, refl}
use Rattle.rr_host.proofs.CallsLemmas.{grows_on}
use Rattle.rr_node.proofs.saving.save_to.Goals as goal

pub returns-in-Failed : goal.returns-in-Failed
returns-in-Failed g c = (
  _,
  grows_on _ _ _ _ _ (c.open.ensures.failed c.in-Failed.is) c.save_failed.ensures,
  inr (inl (refl, refl)),
)

pub returns : goal.returns
returns g c =
    let opened = c.open.ensures.opened c.in-Writer.output c.in-Writer.is in
    let back = grows_on _ _ _ _ _ opened (rw c.is_ok.ensures.value at c.take_back.ensures) in
    let save = c.save-saved.ensures in (
      _,
      grows_on _ _ _ _ _ back c.tell.ensures.reported,
      inr (inr (
        c.save-saved.result,
        c.tell.ensures.memory,
        record {
          before = _;
          after = _;
          calls = refl;
          whole = save.saves.whole;
          prefix = save.saves.prefix;
          too_many = save.too_many;
          nothing_written = save.nothing_written;
          failed = save.saves.failed;
        },
      )),
    )
