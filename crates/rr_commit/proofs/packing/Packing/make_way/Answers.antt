use Rattle.std.proofs.Common.{rules, ◌+◌, ◌<◌, ap, length, arith}
use Rattle.std.proofs.lemmas.Result.{on_ok_weaker}
use Rattle.rr_journal.specs.declared.raw.TheConstants.{MAX_BODY_LEN}
use Rattle.rr_commit.proofs.PackingLemmas.{both_ok, too_many}
use Rattle.rr_commit.proofs.packing.Packing.make_way.Goals as goal

pub returns-then-len-group-gt-MAX_BODY_LEN : goal.returns-then-len-group-gt-MAX_BODY_LEN
returns-then-len-group-gt-MAX_BODY_LEN c done since more are short few =
    let own = length c.args.self.now.own.items in
    let group = length c.args.group.now in
    let long : MAX_BODY_LEN < own + group = search rules in
    let many = too_many own group (length since) more are.own_small short long in
    both_ok _ _ c.settle.result (c.settle.ensures.part done since more are many)
    (on_ok_weaker c.settle.result (λ none. let empty = ap length none in omega (arith, empty, short, few))
    c.settle.ensures.settled)
