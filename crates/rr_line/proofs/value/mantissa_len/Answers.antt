-- What `memchr` finds is where the first delimiter is.
use Rattle.std.proofs.Common.{rules}
use Rattle.memchr.specs.Find.{is_byte2}
use Rattle.rr_line.specs.declared.mark.TheConstants.{EXPONENT_MARK, GREAT_EXPONENT_MARK}
use Rattle.rr_line.proofs.PartLemmas.{found_first, found_none}
use Rattle.rr_line.proofs.value.mantissa_len.Goals as goal

pub returns-in-Some : goal.returns-in-Some
returns-in-Some c = record {
  value =
      found_first (is_byte2 EXPONENT_MARK GREAT_EXPONENT_MARK) c.args.text.now c.in-Some.at
      c.in-Some.ensures;
  within = search rules;
}

pub returns-in-None : goal.returns-in-None
returns-in-None c = record {
  value =
      found_none (is_byte2 EXPONENT_MARK GREAT_EXPONENT_MARK) c.args.text.now
      c.in-None.ensures;
  within = search rules;
}
