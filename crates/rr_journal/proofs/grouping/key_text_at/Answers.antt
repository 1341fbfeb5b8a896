use Rattle.std.proofs.Common.{rules, ◌≡◌, false, ◌||◌, sym, ◌∙◌, true≢false}
use Rattle.std.specs.Prelude.{nat_lt, ◌==◌}
use Rattle.rr_text.specs.declared.limits.TheConstants.{MAX_KEY_TEXT}
use Rattle.rr_journal.proofs.KeyLemmas.{key_read, key_refused}
use Rattle.rr_journal.proofs.grouping.key_text_at.Goals as goal

pub returns-clause-found : goal.returns-clause-found
returns-clause-found c =
    let fits : ((c.in_ok-len.len == 0) || nat_lt MAX_KEY_TEXT c.in_ok-len.len) ≡ false = search rules in
    record {
      read = key_read c.args.bytes.now c.in_ok-len.len c.in_ok-len.rest.now c.in_ok-text.text.now c.in_ok-text.rest.now
          c.in_ok-len.ensures.read fits c.in_ok-text.ensures.read
          (c.is_key_text.ensures.0 c.if-not-is_key_text.false);
      no_memory = search rules;
    }

pub returns-then-not-is_key_text-clause-found : goal.returns-then-not-is_key_text-clause-found
returns-then-not-is_key_text-clause-found c =
    let fits : ((c.in_ok-len.len == 0) || nat_lt MAX_KEY_TEXT c.in_ok-len.len) ≡ false = search rules in
    record {
      read = key_refused c.args.bytes.now c.in_ok-len.len c.in_ok-len.rest.now c.in_ok-text.text.now
          c.in_ok-text.rest.now c.in_ok-len.ensures.read fits c.in_ok-text.ensures.read
          (λ k. true≢false (sym (c.is_key_text.ensures.1 k) ∙ c.if-not-is_key_text.true));
      no_memory = search rules;
    }

pub returns-clause-grammar : goal.returns-clause-grammar
returns-clause-grammar c = c.is_key_text.ensures.0 c.if-not-is_key_text.false
