use Rattle.rr_io.specs.Counted.{inner_of}
use Rattle.rr_directory.proofs.ReadingLemmas.{opened}
use Rattle.rr_directory.proofs.place.place_from.Goals as goal

pub returns : goal.returns
returns g c =
    opened c.args.schema.now c.args.name (g.R.Read.remaining (inner_of c.args.input.now))
    (g.R.Read.remaining (inner_of c.header_from-begins.new.input)) c.header_from-begins.result c.named_place.result
    c.header_from-begins.ensures.read c.named_place.ensures
