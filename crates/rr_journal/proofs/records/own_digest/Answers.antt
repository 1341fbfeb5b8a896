use Rattle.std.proofs.Common.{rules, ◌≡◌, length, refl, true, false}
use Rattle.rr_journal.proofs.StepLemmas.{own_told, own_after}
use Rattle.rr_journal.proofs.records.own_digest.Goals as goal

pub returns-then-eq : goal.returns-then-eq
returns-then-eq c =
    let head = c.args.head.now in
    let tail = c.args.tail.now in
    let five : length head ≡ 5 = search rules in (
      own_told c.args.before.now head tail _ c.link-own.result c.as_slice.result.now c.stated_len-len.result
          c.stated_len-len.ensures.value c.link-own.ensures true c.eq.result five c.requires.fits c.requires.whole refl
          c.as_slice.ensures c.eq.ensures c.if-eq.true,
      own_after c.args.before.now head tail tail c.link-own.result c.as_slice.result.now c.stated_len-len.result
          c.stated_len-len.ensures.value c.link-own.ensures,
    )

pub returns-else-eq : goal.returns-else-eq
returns-else-eq c =
    let head = c.args.head.now in
    let tail = c.args.tail.now in
    let five : length head ≡ 5 = search rules in
    own_told c.args.before.now head tail _ c.link-own.result c.as_slice.result.now c.stated_len-len.result
    c.stated_len-len.ensures.value c.link-own.ensures false c.eq.result five c.requires.fits c.requires.whole refl
    c.as_slice.ensures c.eq.ensures c.if-eq.false
