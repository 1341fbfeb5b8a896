use Rattle.std.proofs.Common.{◌≤◌, List, length, ap, subst, arith}
use Rattle.std.proofs.lemmas.Bool.Decides.{nat_tests}
use mathlib.Core.List.{IsPrefix}
use Rattle.rr_cells.specs.declared.op.Op.{Op}
use Rattle.rr_desk.proofs.PrefixLemmas.{prefix_short}
use Rattle.rr_desk.proofs.book.Prefix.begins.Goals as goal

pub returns-clause-begins : goal.returns-clause-begins
returns-clause-begins c e =
    let both = c.learn.new.self.log in
    let mine = c.self.inside in
    let its = c.other.inside in
    let this : IsPrefix mine.seen.log both = subst (λ (l : List (List Op)). IsPrefix l both)
    (ap (λ s. s.log) c.again-both.ensures) c.learn.ensures.2 in
    let less : mine.count ≤ its.count = grind (arith, nat_tests) in
    let short : length mine.seen.log ≤ length its.seen.log = omega (arith, c.self.invariant, c.other.invariant) in
    rw (← ap (λ s. s.editions) c.self.view_is, ← ap (λ s. s.editions) c.other.view_is)
    (prefix_short mine.seen.log its.seen.log both this c.learn.ensures.3 short)
