use Rattle.std.proofs.Common.{◌+◌, ◌*◌, ◌-◌, Ok, ◌∙◌, sym, rules}
use Rattle.std.proofs.lemmas.Result.{err_from_is_err_and}
use Rattle.rr_codec.specs.Numbers.{number_within}
use Rattle.rr_codec.proofs.NumberLemmas.{no_byte_left, ended, last_byte, one_more, high_fault, bad_high, good_high}
use Rattle.rr_codec.proofs.number.+number_within.Goals as goal

pub returns-then-most-eq0 : goal.returns-then-most-eq0
returns-then-most-eq0 t c = record {
  read = no_byte_left c.args.most c.args.bytes.now c.if-most-eq0.true;
  no_memory = search rules;
}

pub returns-in_default : goal.returns-in_default
returns-in_default t c = record {
  read = ended c.args.most c.args.bytes.now c.if-most-eq0.false c.in_default.ensures.cases;
  no_memory = search rules;
}

pub returns-then-byte-lt128 : goal.returns-then-byte-lt128
returns-then-byte-lt128 t c = record {
  read = last_byte c.args.most c.in-Some.byte.now c.args.bytes.now c.in-Some.rest.now c.if-most-eq0.false
      c.in-Some.ensures.cases.0 c.if-byte-lt128.true ∙ (λ i. Ok (sym c.from.ensures i, c.in-Some.rest.now));
  no_memory = search rules;
}

pub returns-in_err-high : goal.returns-in_err-high
returns-in_err-high t c =
    let p = err_from_is_err_and c.from_residual.result c.from_residual.ensures.1 in
    let b = c.in-Some.byte.now in
    let bs = c.in-Some.rest.now in
    rw (p.1, p.2) (record {
      read = one_more c.args.most b c.args.bytes.now bs c.if-most-eq0.false c.in-Some.ensures.cases.0
          c.if-byte-lt128.false
          ∙ high_fault b (number_within (c.args.most - 1) bs) c.in_err-high.field-0.0 c.in_err-high.ensures.read;
      no_memory = c.in_err-high.ensures.no_memory;
    })

pub returns-then-is_bad_high : goal.returns-then-is_bad_high
returns-then-is_bad_high t c =
    let b = c.in-Some.byte.now in
    let bs = c.in-Some.rest.now in
    record {
      read = one_more c.args.most b c.args.bytes.now bs c.if-most-eq0.false c.in-Some.ensures.cases.0
          c.if-byte-lt128.false
          ∙ bad_high b c.in_ok-high.high c.in_ok-high.rest.now (number_within (c.args.most - 1) bs)
          c.in_ok-high.ensures.read (sym c.is_bad_high.ensures ∙ c.if-is_bad_high.true);
      no_memory = search rules;
    }

pub returns : goal.returns
returns t c =
    let b = c.in-Some.byte.now in
    let bs = c.in-Some.rest.now in
    record {
      read = one_more c.args.most b c.args.bytes.now bs c.if-most-eq0.false c.in-Some.ensures.cases.0
          c.if-byte-lt128.false
          ∙ good_high b c.in_ok-high.high c.in_ok-high.rest.now (number_within (c.args.most - 1) bs)
          c.in_ok-high.ensures.read (sym c.is_bad_high.ensures ∙ c.if-is_bad_high.false)
          ∙ (λ i. Ok (128 * c.in_ok-high.high + sym c.from-2.ensures i, c.in_ok-high.rest.now));
      no_memory = search rules;
    }
