use Rattle.std.proofs.Common.{rules, ◌<◌, ◌≤◌, map, length, sym, ap, ◌∙◌, arith, subst}
use Rattle.rr_replica.specs.Indexed.{IsIndexed}
use Rattle.rr_replica.proofs.Counted.{take_all}
use Rattle.rr_replica.proofs.Each.{found_at}
use Rattle.rr_replica.proofs.CopyingLemmas.{take_none, seen, not_yet, copies_seen}
use Rattle.rr_replica.proofs.copies.copy_series.Goals as goal

pub loop-i-init : goal.loop-i-init
loop-i-init g c = record {
  keys_so_far = c.new-copies.ensures.no_keys ∙ sym (take_none c.args.series.now.keys.items);
  seen_so_far = ap (map (seen g.A.Cells.cells g.A.Cells.row_limit))
      (c.new-copies.ensures.no_archives ∙ sym (take_none c.args.series.now.archives.items));
  indexed = c.new-copies.result.indexed;
}

pub insert-requires : goal.insert-requires
insert-requires g c =
    let m = c.args.series.now in
    let within : c.loop-i.i < length m.keys.items = search rules in
    not_yet g.A.Cells.cells g.A.Cells.row_limit m.indexed c.loop-i.invariant c.index.result.now
    (found_at m.keys.items c.loop-i.i c.index.result.now within (search rules))

pub returns : goal.returns
returns g c =
    let m = c.args.series.now in
    let copies = c.loop-i.copies in
    let past : length m.keys.items ≤ c.loop-i.i = search rules in
    let past_archives : length m.archives.items ≤ c.loop-i.i =
    (let many = m.indexed.many in omega (arith, many, past)) in
    let keys = c.loop-i.invariant.keys_so_far ∙ take_all m.keys.items c.loop-i.i past in
    let archives = c.loop-i.invariant.seen_so_far ∙ ap (map (seen g.A.Cells.cells g.A.Cells.row_limit))
    (take_all m.archives.items c.loop-i.i past_archives) in
    record {
      keys = keys;
      archives = copies_seen g.A.Cells.cells g.A.Cells.row_limit m.indexed
          (subst (λ ks. IsIndexed ks copies.indices.entries copies.archives.items) keys c.loop-i.invariant.indexed)
          archives;
    }
