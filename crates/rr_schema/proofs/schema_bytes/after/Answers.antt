use Rattle.std.proofs.lemmas.Slice.Eq.{strip_prefix_is}
use Rattle.std.proofs.lemmas.Bool.Decides.{Decides-eqb}
use Rattle.rr_schema.proofs.AfterLemmas.{after_is}
use Rattle.rr_schema.proofs.schema_bytes.after.Goals as goal

pub returns : goal.returns
returns c = after_is c.args.piece.now c.args.bytes.now c.strip_prefix.result
    (strip_prefix_is Decides-eqb c.args.bytes.now c.args.piece.now c.strip_prefix.result c.strip_prefix.ensures.cases)
