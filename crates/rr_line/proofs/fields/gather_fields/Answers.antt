-- What is gathered in the loop is what the definition gathers.
use Rattle.std.proofs.Common.{◌≡◌, ◌∙◌, sym, length, rules}
use Rattle.rr_text.specs.declared.limits.TheConstants.{MAX_FIELDS}
use Rattle.rr_point.specs.Point.{field_view}
use Rattle.rr_line.proofs.GatheredLemmas.{fields_begin, fields_stop, fields_full, fields_go_on, fields_end, fewer_left}
use Rattle.rr_line.proofs.fields.gather_fields.Goals as goal

pub loop-read-init : goal.loop-read-init
loop-read-init c = fields_begin c.new-fields.result.items c.args.text.now c.new-fields.ensures.items

pub returns-in-Err-clause-gathered : goal.returns-in-Err-clause-gathered
returns-in-Err-clause-gathered c = fields_stop c.loop-read.fields.items c.loop-read.left.now c.args.text.now
    c.in-Err.fault c.loop-read.invariant c.in-Err.ensures

pub returns-then-len-eq-MAX_FIELDS-clause-gathered : goal.returns-then-len-eq-MAX_FIELDS-clause-gathered
returns-then-len-eq-MAX_FIELDS-clause-gathered c =
    let full : length c.loop-read.fields.items ≡ MAX_FIELDS = search rules in
    fields_full c.loop-read.fields.items c.loop-read.left.now c.args.text.now
    (field_view c.in-Ok.read.0, c.in-Ok.read.1.now) c.loop-read.invariant c.in-Ok.ensures full

pub loop-read-smaller : goal.loop-read-smaller
loop-read-smaller c =
    let room : length c.loop-read.fields.items ≡ MAX_FIELDS
    → ⊥ = λ e. c.if-len-eq-MAX_FIELDS.false (c.len.ensures ∙ search rules) in
    fewer_left MAX_FIELDS c.loop-read.fields.items c.push.new.self.items c.in-Ok.read.0 c.loop-read.invariant.0
    c.loop-read.invariant.1 room c.in_ok-push.ensures.items

pub loop-read-preserved : goal.loop-read-preserved
loop-read-preserved c =
    let room : length c.loop-read.fields.items ≡ MAX_FIELDS
    → ⊥ = λ e. c.if-len-eq-MAX_FIELDS.false (c.len.ensures ∙ search rules) in
    fields_go_on c.loop-read.fields.items c.push.new.self.items c.loop-read.left.now c.args.text.now c.in-Ok.read.0
    c.in-Ok.read.1.now c.in-Some.next.now c.loop-read.invariant c.in-Ok.ensures room c.in_ok-push.ensures.items
    (sym c.in-Some.ensures)

pub returns-in-None-clause-gathered : goal.returns-in-None-clause-gathered
returns-in-None-clause-gathered c =
    let room : length c.loop-read.fields.items ≡ MAX_FIELDS
    → ⊥ = λ e. c.if-len-eq-MAX_FIELDS.false (c.len.ensures ∙ search rules) in
    fields_end c.loop-read.fields.items c.push.new.self.items c.loop-read.left.now c.args.text.now c.in-Ok.read.0
    c.in-Ok.read.1.now c.loop-read.invariant c.in-Ok.ensures room c.in_ok-push.ensures.items (sym c.in-None.ensures)
