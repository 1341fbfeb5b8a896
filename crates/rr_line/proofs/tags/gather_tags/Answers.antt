-- What is gathered in the loop is what the definition gathers.
use Rattle.std.proofs.Common.{◌≡◌, ◌∙◌, sym, length, rules}
use Rattle.rr_text.specs.declared.limits.TheConstants.{MAX_TAGS}
use Rattle.rr_point.specs.Point.{tag_view}
use Rattle.rr_line.proofs.GatheredLemmas.{tags_begin, tags_stop, tags_full, tags_go_on, tags_end, fewer_left}
use Rattle.rr_line.proofs.tags.gather_tags.Goals as goal

pub loop-text-init : goal.loop-text-init
loop-text-init c = tags_begin c.new-tags.result.items c.args.text.now c.new-tags.ensures.items

pub returns-in-Err-clause-gathered : goal.returns-in-Err-clause-gathered
returns-in-Err-clause-gathered c = tags_stop c.loop-text.tags.items c.loop-text.left.now c.args.text.now
    c.in-Some.text.now c.in-Err.fault c.loop-text.invariant (sym c.in-Some.ensures) c.in-Err.ensures

pub returns-then-len-eq-MAX_TAGS-clause-gathered : goal.returns-then-len-eq-MAX_TAGS-clause-gathered
returns-then-len-eq-MAX_TAGS-clause-gathered c =
    let full : length c.loop-text.tags.items ≡ MAX_TAGS = search rules in
    tags_full c.loop-text.tags.items c.loop-text.left.now c.args.text.now c.in-Some.text.now
    (tag_view c.in-Ok.read.0, c.in-Ok.read.1.now) c.loop-text.invariant (sym c.in-Some.ensures) c.in-Ok.ensures full

pub loop-text-smaller : goal.loop-text-smaller
loop-text-smaller c =
    let room : length c.loop-text.tags.items ≡ MAX_TAGS
    → ⊥ = λ e. c.if-len-eq-MAX_TAGS.false (c.len.ensures.value ∙ search rules) in
    fewer_left MAX_TAGS c.loop-text.tags.items c.push.new.self.items c.in-Ok.read.0 c.loop-text.invariant.0
    c.loop-text.invariant.1 room c.in_ok-push.ensures.ok

pub loop-text-preserved : goal.loop-text-preserved
loop-text-preserved c =
    let room : length c.loop-text.tags.items ≡ MAX_TAGS
    → ⊥ = λ e. c.if-len-eq-MAX_TAGS.false (c.len.ensures.value ∙ search rules) in
    tags_go_on c.loop-text.tags.items c.push.new.self.items c.loop-text.left.now c.args.text.now c.in-Some.text.now
    c.in-Ok.read.0 c.in-Ok.read.1.now c.loop-text.invariant (sym c.in-Some.ensures) c.in-Ok.ensures room
    c.in_ok-push.ensures.ok

pub returns-clause-gathered : goal.returns-clause-gathered
returns-clause-gathered c = tags_end c.loop-text.tags.items c.loop-text.left.now c.args.text.now c.loop-text.invariant
    (sym c.in_default.ensures)
