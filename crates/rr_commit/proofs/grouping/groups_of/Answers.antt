use Rattle.std.proofs.Common.{rules, ◌≡◌, ◌+◌, ◌*◌, ◌++◌, ◌∷◌, ◌≤◌, [], length, map, ap, ◌∙◌, arith, sym, subst}
use Rattle.std.specs.List.{flat_map}
use Rattle.rr_cells.specs.Listing.{owned_cell}
use Rattle.rr_journal.specs.Body.{packed_cells}
use Rattle.rr_recovery.specs.Joining.{group_cells}
use Rattle.rr_commit.specs.Grouping.{groups_text}
use Rattle.rr_commit.proofs.GroupingLemmas.{one_grouped, one_sized}
use Rattle.rr_commit.proofs.grouping.groups_of.Goals as goal

pub loop-next-preserved : goal.loop-next-preserved
loop-next-preserved c =
    let groups = c.loop-next.groups.items in
    let g = c.in_ok-group_of.field-0 in
    let run = c.in-Some.next.run.now in
    let left = c.in-Some.next.left.now in
    let all = c.args.cells.now in
    let items : c.push.new.self.items ≡ groups ++ g ∷ [] = search rules in
    let fewer = c.in-Some.ensures.fewer in
    let few = c.loop-next.invariant.few in
    record {
      cells = ap (λ gs. flat_map group_cells (map packed_cells gs) ++ map owned_cell left) items
          ∙ one_grouped groups g run left all
          (ap (λ l. flat_map group_cells (map packed_cells groups) ++ map owned_cell l) c.in-Some.ensures.whole
          ∙ c.loop-next.invariant.cells) c.in_ok-group_of.ensures.cells;
      size = subst (λ gs. length (groups_text gs) + 1178 * length left ≤ 1178 * length all) (sym items)
          (one_sized groups g run c.loop-next.left.now left all c.loop-next.invariant.size c.in-Some.ensures.whole fewer
          c.in_ok-group_of.ensures.key c.in_ok-group_of.ensures.size);
      few = omega (arith, fewer, few);
    }
