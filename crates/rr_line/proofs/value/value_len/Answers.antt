-- What `memchr` finds is where the first delimiter is.
use Rattle.std.proofs.Common.{rules}
use Rattle.memchr.specs.Find.{is_byte2}
use Rattle.rr_text.specs.declared.bytes.TheConstants.{COMMA, SPACE}
use Rattle.rr_line.proofs.PartLemmas.{found_first, found_none}
use Rattle.rr_line.proofs.value.value_len.Goals as goal

pub returns-in-Some : goal.returns-in-Some
returns-in-Some c = record {
  value = found_first (is_byte2 COMMA SPACE) c.args.text.now c.in-Some.at c.in-Some.ensures;
  within = search rules;
}

pub returns-in-None : goal.returns-in-None
returns-in-None c = record {
  value = found_none (is_byte2 COMMA SPACE) c.args.text.now c.in-None.ensures;
  within = search rules;
}
