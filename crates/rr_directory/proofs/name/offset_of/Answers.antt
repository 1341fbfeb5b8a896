use Rattle.std.proofs.Common.{rules, length, ◌≡◌, ◌++◌, arith, sym, true, ◌∙◌}
use Rattle.std.specs.Cmp.Lexicographic.{pointwise}
use Rattle.std.specs.Prelude.{codes, not, nat_eq}
use Rattle.std.proofs.lemmas.List.{take-append-drop}
use Rattle.rr_directory.proofs.NameLemmas.{offset_read, other_ending, other_length}
use Rattle.rr_directory.proofs.name.offset_of.Goals as goal

pub returns-then-text : goal.returns-then-text
returns-then-text c = λ n fits is. let len = other_length c.args.text.now n is in absurd (omega (arith, len, c.if-text.true))

pub returns-then-ne : goal.returns-then-ne
returns-then-ne c = λ n fits is.
    let end = other_ending c.args.text.now n is in
    let same : c.split_at.result.1.now ≡ codes ".rrj" = c.split_at.ensures.back ∙ end in
    let differs : true ≡ not (pointwise nat_eq c.split_at.result.1.now (codes ".rrj")) =
    sym c.if-ne.true ∙ c.ne.ensures in
    let never = rw same at differs in
    absurd (cc never)

pub returns : goal.returns
returns c =
    let text = c.args.text.now in
    let whole : text ≡ c.split_at.result.0.now ++ c.split_at.result.1.now =
    sym (take-append-drop 20 text) ∙ search rules in
    let len : length c.split_at.result.0.now ≡ 20 = search rules in
    let ending : c.split_at.result.1.now ≡ codes ".rrj" = search rules in
    offset_read text c.split_at.result.0.now c.split_at.result.1.now c.number.result whole ending len
    c.number.ensures
