use Rattle.std.proofs.Common.{◌≡◌, ◌-◌, length, get_or, ap, arith}
use Rattle.rr_archive.specs.declared.entry.Entry.{Entry}
use Rattle.rr_fetch.proofs.SumLemmas.{ascends-place}
use Rattle.rr_fetch.proofs.consolidation.average.Goals as goal

pub prove-unreachable-requires : goal.prove-unreachable-requires
prove-unreachable-requires c =
    let es = c.args.row.now in
    let last = c.in_ok-last.last.now in
    let item = c.in_ok-last.ensures.item in
    let few = ascends-place es (length es - 1) last c.requires.ascends (omega (arith, item.3.0)) in
    let is : last.origin ≡ (get_or es (length es - 1) last).origin = ap (λ (e : Entry). e.origin) item.1 in
    omega arith
