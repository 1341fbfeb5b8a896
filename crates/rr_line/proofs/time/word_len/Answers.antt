-- What `memchr` finds is where the first delimiter is.
use Rattle.std.proofs.Common.{rules, eqb}
use Rattle.rr_text.specs.declared.bytes.TheConstants.{SPACE}
use Rattle.rr_line.proofs.PartLemmas.{found_first, found_none}
use Rattle.rr_line.proofs.time.word_len.Goals as goal

pub returns-in-Some : goal.returns-in-Some
returns-in-Some c = record {
  value = found_first (λ byte. eqb byte SPACE) c.args.text.now c.in-Some.at c.in-Some.ensures;
  within = search rules;
}

pub returns-in-None : goal.returns-in-None
returns-in-None c = record {
  value = found_none (λ byte. eqb byte SPACE) c.args.text.now c.in-None.ensures;
  within = search rules;
}
