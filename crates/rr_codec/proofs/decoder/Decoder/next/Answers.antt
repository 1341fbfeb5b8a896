use Rattle.std.proofs.Common.{◌∙◌, refl, ap, sym, rules}
use Rattle.rr_codec.specs.Decoding.{LeftState}
use Rattle.rr_codec.specs.Recent.{KnownState}
use Rattle.rr_codec.proofs.LoopLemmas.{left_state, walk_ends, walk_fails, walk_goes_on}
use Rattle.rr_codec.proofs.decoder.Decoder.next.Goals as goal

pub returns-then-self-eq0 : goal.returns-then-self-eq0
returns-then-self-eq0 c =
    let d = c.self.inside in (
      ap (λ (l : LeftState). l.cells) (sym c.self.view_is)
          ∙ walk_ends d.known d.left d.rest.now c.if-self-eq0.true,
      refl,
    )

pub returns-in-Ok : goal.returns-in-Ok
returns-in-Ok c =
    let d = c.self.inside in
    sym c.self.view_is
    ∙ walk_goes_on d.known c.cell_at.new.known c.in-Ok.cell d.left d.rest.now c.in-Ok.rest.now c.if-self-eq0.false
    c.in-Ok.ensures.read.read

pub returns-in-Err : goal.returns-in-Err
returns-in-Err c =
    let d = c.self.inside in (
      ap (λ (l : LeftState). l.cells) (sym c.self.view_is)
          ∙ walk_fails d.known d.left d.rest.now c.in-Err.fault c.if-self-eq0.false c.in-Err.ensures.read.read,
      ap (λ (k : KnownState). left_state k d.left d.rest.now) c.in-Err.ensures.kept ∙ c.self.view_is,
      (λ e. c.in-Err.ensures.read.no_memory (search (rules, e))),
    )
