use Rattle.std.proofs.Common.{◌≡◌, Err, ap, rules}
use Rattle.rr_key.specs.declared.fault.KeyFault.{KeyFault}
use Rattle.rr_key.specs.declared.fault.KeyFault.TheVariants as why
use Rattle.rr_fetch.proofs.KeyLemmas.{key_read, bad_key, key_unless_bad, same_fault}
use Rattle.rr_fetch.proofs.words.key_of.Goals as goal

pub returns-in-Ok-clause-value : goal.returns-in-Ok-clause-value
returns-in-Ok-clause-value c = key_read c.args.text.now c.in-Ok.ensures.grammar

pub returns-in-Err-clause-value : goal.returns-in-Err-clause-value
returns-in-Err-clause-value c =
    let is_bad : c.in-Err.fault ≡ why.BadKey = search rules in
    bad_key c.args.text.now (c.in-Err.ensures.refused.0 (ap (λ (fault : KeyFault). Err fault) is_bad))

pub returns-in-Err-2-clause-value : goal.returns-in-Err-2-clause-value
returns-in-Err-2-clause-value c =
    key_unless_bad c.args.text.now (λ bad. let is_bad = same_fault _ _ (c.in-Err.ensures.refused.1 bad) in let other =
    rw is_bad at c.if-eq.ensures in absurd cc)
