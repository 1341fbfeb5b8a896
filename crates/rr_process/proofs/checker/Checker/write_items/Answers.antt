use Rattle.std.proofs.Common.{rules}
use Rattle.rr_process.proofs.StreamLemmas.{prefix_of_reported, prefix_of_more}
use Rattle.rr_process.proofs.checker.Checker.write_items.Goals as goal

pub returns-in_err-text : goal.returns-in_err-text
returns-in_err-text g c = record {
  reported = search rules;
  prefix = λ pushed before more start has appends may.
      prefix_of_reported c.args.self.now pushed before more start _ may has appends;
  writes = search rules;
}

pub returns-in_err-write_all : goal.returns-in_err-write_all
returns-in_err-write_all g c =
    let part = rw c.as_slice.ensures.value at c.in_err-write_all.ensures.prefix in
    record {
      reported = search rules;
      prefix = λ pushed before more start has appends may.
          prefix_of_more c.args.self.now _ pushed before c.in_ok-text.text.items more start _ _
          c.in_ok-text.ensures.reports may has appends part;
      writes = search rules;
    }

pub returns : goal.returns
returns g c =
    let part = rw c.as_slice.ensures.value at c.in_ok-write_all.ensures.prefix in
    record {
      reported = search rules;
      prefix = λ pushed before more start has appends may.
          prefix_of_more c.args.self.now _ pushed before c.in_ok-text.text.items more start _ _
          c.in_ok-text.ensures.reports may has appends part;
      writes = search rules;
    }
