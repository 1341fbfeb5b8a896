use Rattle.std.proofs.Common.{◌≡◌, ℕ, List, [], ◌∷◌, ◌++◌, ◌-◌, ◌+◌, sym, ap, ◌∙◌, arith, rules}
use Rattle.rr_codec.specs.Fields.{SlotEntry}
use Rattle.rr_codec.specs.Reading.{cells_at, cells_left}
use Rattle.rr_codec.proofs.LoopLemmas.{Read, with_prefix, with_nothing, prefix_goes_on, prefix_ends, prefix_is, not_ok}
use Rattle.rr_codec.proofs.decoding.collect.Goals as goal

pub unreachable-requires : goal.unreachable-requires
unreachable-requires c =
    not_ok (cells_at c.args.known.now c.args.count c.args.bytes.now) c.in_default.field-0
    (sym c.loop.invariant
    ∙ prefix_ends c.loop.known c.loop.cells.items c.args.count c.loop.counter c.loop.rest.now c.in_default.field-0
    c.loop-test.true c.in_default.ensures.read.read) c.requires

pub loop-init : goal.loop-init
loop-init c =
    let read = cells_at c.args.known.now c.args.count c.args.bytes.now in
    let all : c.args.count - 0 ≡ c.args.count = omega arith in
    ap (λ (es : List SlotEntry). with_prefix es (cells_at c.args.known.now (c.args.count - 0) c.args.bytes.now))
    c.in_ok-cells.ensures.items
    ∙ ap (λ (n : ℕ). with_prefix [] (cells_at c.args.known.now n c.args.bytes.now)) all
    ∙ with_nothing read

pub loop-preserved : goal.loop-preserved
loop-preserved c =
    let cell : SlotEntry = c.in-Ok.cell in
    let items : c.push.new.self.items ≡ c.loop.cells.items ++ cell ∷ [] = search (rules, c.in_ok-push.ensures.items) in
    ap (λ (es : List SlotEntry). with_prefix es
    (cells_at c.cell_at.new.known (c.args.count - (c.loop.counter + 1)) c.in-Ok.after.now)) items
    ∙ prefix_goes_on c.loop.known c.cell_at.new.known c.loop.cells.items cell c.args.count c.loop.counter
    c.loop.rest.now
    c.in-Ok.after.now c.loop-test.true c.in-Ok.ensures.read.read
    ∙ c.loop.invariant

pub returns : goal.returns
returns c =
    ap (λ (r : Read). cells_left r) (sym c.loop.invariant)
    ∙ prefix_is c.loop.known c.loop.cells.items c.args.count c.loop.counter c.loop.rest.now c.loop-test.false
