use Rattle.rr_key.proofs.key.SeriesKey.parse_text.Goals as goal

pub of_text-requires : goal.of_text-requires
of_text-requires c = c.is_key_text.ensures.0 c.if-not-is_key_text.false

pub returns-clause-grammar : goal.returns-clause-grammar
returns-clause-grammar c = c.is_key_text.ensures.0 c.if-not-is_key_text.false
