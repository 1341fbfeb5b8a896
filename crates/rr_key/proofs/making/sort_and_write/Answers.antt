-- Sorted tags rise exactly where no key occurs twice, and are then the entries of the series.
use Rattle.std.proofs.Common.{◌≡◌, [], true, false, inr, sym, ◌∙◌}
use Rattle.rr_key.specs.Making.{names_of, tags_of}
use Rattle.rr_key.specs.Reading.{rises}
use Rattle.rr_key.proofs.OrderLemmas.{repeats_unless_rises}
use Rattle.rr_key.proofs.MakingLemmas.{repeated_key, in_order, long_key, short_key, no_making_fault, no_room, some_room, tags_filled}
use Rattle.rr_key.proofs.making.sort_and_write.Goals as goal

pub returns-then-not-rises-clause-made : goal.returns-then-not-rises-clause-made
returns-then-not-rises-clause-made c =
    let names = names_of c.args.measurement.now c.args.tags.now c.args.field.now in
    let down : rises [] (tags_of c.sort_unstable.new.self) ≡ false = sym c.rises.ensures ∙ c.if-not-rises.true in
    inr (repeated_key names c.requires.filled c.requires.good
    (repeats_unless_rises c.args.tags.now c.sort_unstable.new.self c.sort_unstable.ensures.permutation
    c.sort_unstable.ensures.sorted (tags_filled names c.requires.filled) down))

pub returns-then-is_none-clause-made : goal.returns-then-is_none-clause-made
returns-then-is_none-clause-made c =
    let up : rises [] (tags_of c.sort_unstable.new.self) ≡ true = sym c.rises.ensures ∙ c.if-not-rises.false in
    let order = in_order c.args.measurement.now c.args.field.now c.args.tags.now c.sort_unstable.new.self
    c.requires.filled c.requires.good c.requires.tags_fit c.sort_unstable.ensures.permutation up in
    inr (long_key (names_of c.args.measurement.now c.args.tags.now c.args.field.now) _ order.named order.written
    (no_room _ _ c.room_after_key.result c.room_after_key.ensures c.if-is_none.ensures))

pub returns-in_err-text-clause-memory : goal.returns-in_err-text-clause-memory
returns-in_err-text-clause-memory c =
    let up : rises [] (tags_of c.sort_unstable.new.self) ≡ true = sym c.rises.ensures ∙ c.if-not-rises.false in
    let order = in_order c.args.measurement.now c.args.field.now c.args.tags.now c.sort_unstable.new.self
    c.requires.filled c.requires.good c.requires.tags_fit c.sort_unstable.ensures.permutation up in
    λ memory. no_making_fault (names_of c.args.measurement.now c.args.tags.now c.args.field.now) _ order.named
    order.written (some_room _ _ c.room_after_key.result c.room_after_key.ensures c.if-is_none.ensures)

pub returns-clause-made : goal.returns-clause-made
returns-clause-made c =
    let up : rises [] (tags_of c.sort_unstable.new.self) ≡ true = sym c.rises.ensures ∙ c.if-not-rises.false in
    let order = in_order c.args.measurement.now c.args.field.now c.args.tags.now c.sort_unstable.new.self
    c.requires.filled c.requires.good c.requires.tags_fit c.sort_unstable.ensures.permutation up in
    short_key (names_of c.args.measurement.now c.args.tags.now c.args.field.now) c.in_ok-text.text.items order.named
    (c.in_ok-text.ensures ∙ order.written) (rw (sym c.in_ok-text.ensures) at
    (some_room _ _ c.room_after_key.result c.room_after_key.ensures c.if-is_none.ensures))
