use Rattle.std.proofs.Common.{◌≡◌, ◌++◌, ◌∷◌, [], ◌∙◌, length, rules, arith}
use Rattle.std.specs.Vec.{vec_len}
use Rattle.std.proofs.lemmas.Int.{ints}
use Rattle.rr_text.specs.Refusal.{refusal_text}
use Rattle.rr_process.proofs.RecordLemmas.{refusal_ends, refusal_field, refusal_is_record, without_last}
use Rattle.rr_process.proofs.records.push_refused.Goals as goal

pub returns : goal.returns
returns c =
    let number = c.args.number in
    let name = c.args.name.now in
    let whole : c.push_refusal.new.text.items ≡ refusal_text number name = search rules in
    let len : vec_len c.push_refusal.new.text ≡ length c.push_refusal.new.text.items = search rules in
    let field : c.pop.new.self.items ≡ refusal_field number name =
    rw len at c.pop.ensures.rest ∙ without_last c.push_refusal.new.text.items (refusal_field number name) 10
    (whole ∙ refusal_ends number name) in
    let same = c.as_slice.ensures.value ∙ field in
    record {
      between = c.push_fields.ensures.between;
      pushed = rw (same, refusal_is_record number name (omega (arith, ints)) c.requires.plain)
          at c.push_fields.ensures.pushed;
    }
