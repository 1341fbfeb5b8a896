use Rattle.std.proofs.Common.{rules, ◌≡◌, ◌≤◌, ◌+◌, ◌-◌, [], ◌∷◌, ◌++◌, sym, ap, ◌∙◌}
use Rattle.std.specs.Option.{option_map}
use Rattle.std.specs.FinMap.{entries}
use Rattle.rr_cells.specs.Listing.{seen_cell}
use Rattle.rr_replica.specs.Keys.{keys_from}
use Rattle.rr_replica.proofs.KeysLemmas.{all_taken, none_left, one_taken}
use Rattle.rr_replica.proofs.replica.Replica.keys_after.Goals as goal

pub loop-preserved : goal.loop-preserved
loop-preserved g c =
    let es = entries c.args.self.now.cells in
    let e = seen_cell c.in-Some.cell in
    let prefix = c.loop.keys.items in
    let items : c.push.new.self.items ≡ prefix ++ e.0.key ∷ [] = search rules in
    (λ i. items i ++ keys_from (c.first_behind-next-in-loop.ensures i) (c.args.count - (c.loop.counter + 1)) es)
    ∙ one_taken prefix c.args.count c.loop.counter e es c.loop-test.true
    ∙ ap (λ o. prefix ++ keys_from (option_map seen_cell o) (c.args.count - c.loop.counter) es) (sym c.in-Some.is)
    ∙ c.loop.invariant

pub returns-in_default : goal.returns-in_default
returns-in_default g c =
    let es = entries c.args.self.now.cells in
    none_left c.loop.keys.items (c.args.count - c.loop.counter) es
    ∙ ap (λ o. c.loop.keys.items ++ keys_from (option_map seen_cell o) (c.args.count - c.loop.counter) es)
    (sym c.in_default.is)
    ∙ c.loop.invariant

pub returns : goal.returns
returns g c =
    let es = entries c.args.self.now.cells in
    let past : c.args.count ≤ c.loop.counter = search rules in
    all_taken c.loop.keys.items c.args.count c.loop.counter (option_map seen_cell c.loop.next) es past
    ∙ c.loop.invariant
