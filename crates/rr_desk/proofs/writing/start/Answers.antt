use Rattle.rr_desk.specs.Writers.{changes}
use Rattle.rr_desk.proofs.RuleLemmas.{starts_ended}
use Rattle.rr_desk.proofs.writing.start.Goals as goal

pub publish_as-requires : goal.publish_as-requires
publish_as-requires g c next is views kept at = starts_ended _ _ _ _ c.args.book.now (changes c.args.writer)
    c.requires.layout c.requires.live c.requires.fresh c.requires.pending c.requires.book is views kept at
