use Rattle.std.proofs.Common.{sym, ◌∙◌, ap}
use Rattle.rr_desk.proofs.EditionsLemmas.{adds_moves}
use Rattle.rr_desk.proofs.book.Prefix.next.Goals as goal

pub compare_exchange-found-requires : goal.compare_exchange-found-requires
compare_exchange-found-requires g c =
    let h = c.requires in
    let same = ap (λ s. s.desk) (sym c.self.view_is) in
    let seen = c.again-seen.ensures in
    let offer = c.plain-offer.ensures in
    let pen = c.no_pen-pen.ensures in (
      ap (λ w. w.tracked) h,
      ap (λ s. s.book) seen ∙ (sym same ∙ sym (ap (λ w. w.book) h)),
      pen.0 ∙ (ap (λ s. s.book) seen ∙ (sym same ∙ sym (ap (λ w. w.book) h))),
      offer.0,
      rw (ap (λ w. w.key) h, pen.1, offer.3, seen) (adds_moves c.self.inside.seen.log g.K.Batch.batch g.K.Batch.batch
          c.self.inside.count (sym c.self.invariant)),
    )
