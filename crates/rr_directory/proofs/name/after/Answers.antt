use Rattle.std.proofs.lemmas.Slice.Eq.{strip_prefix_is}
use Rattle.std.proofs.lemmas.Bool.Decides.{Decides-eqb}
use Rattle.rr_directory.proofs.NameLemmas.{after_is}
use Rattle.rr_directory.proofs.name.after.Goals as goal

pub returns : goal.returns
returns c = after_is c.args.piece.now c.args.bytes.now c.strip_prefix.result
    (strip_prefix_is Decides-eqb c.args.bytes.now c.args.piece.now c.strip_prefix.result c.strip_prefix.ensures.cases)
