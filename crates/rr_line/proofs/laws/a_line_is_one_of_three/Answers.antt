use Rattle.std.proofs.Common.{sym}
use Rattle.rr_line.specs.Part.{content}
use Rattle.rr_line.specs.Reading.{reading}
use Rattle.rr_line.proofs.LineLemmas.{line_found, line_only, fault_is_no_memory}
use Rattle.rr_line.proofs.laws.a_line_is_one_of_three.Goals as goal

pub returns-clause-one : goal.returns-clause-one
returns-clause-one c = λ precision line. (
  reading precision line,
  line_found precision line,
  λ other h. sym (line_only precision line other h),
)

pub returns-clause-takes_no_memory : goal.returns-clause-takes_no_memory
returns-clause-takes_no_memory c = λ precision line fault h. fault_is_no_memory precision (content line) fault h
