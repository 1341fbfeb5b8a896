use Rattle.std.proofs.Common.{◌≡◌, ◌<◌, List, length, get_or, ◌∙◌, ap, subst, rules}
use Rattle.std.specs.Prelude.{slice_set}
use Rattle.std.specs.List.{refill}
use Rattle.rr_codec.specs.declared.expecting.Before.{Before}
use Rattle.rr_codec.specs.Recent.{KnownState, known_after}
use Rattle.rr_codec.proofs.RegularLemmas.{renewed}
use Rattle.rr_codec.proofs.recent.Known.add.Goals as goal

pub returns-then-last-cell : goal.returns-then-last-cell
returns-then-last-cell c =
    let d = c.self.inside in
    let items = d.recent.items in
    let b = c.in-Some.last.now in
    let whole : c.deref_mut.result.now ≡ items = search rules in
    let some : 0 < length items = subst (λ (l : List Before). 0 < length l) whole c.in-Some.ensures.item.3.0 in
    let first : b ≡ get_or items 0 b = c.in-Some.ensures.item.1
    ∙ ap (λ (l : List Before). get_or l 0 b) whole in
    ap (λ (l : List Before). record {
      span = d.span;
      recent = refill (length items) items (slice_set l 0 c.after.result);
      place = 0;
    }) whole
    ∙ renewed d.span d.place items b c.after.result c.args.cell.now some c.self.invariant first c.if-last-cell.true
    c.after.ensures
    ∙ ap (λ (k : KnownState). known_after k c.args.cell.now) c.self.view_is
