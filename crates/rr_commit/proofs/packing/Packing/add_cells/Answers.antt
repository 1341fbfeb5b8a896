use Rattle.std.proofs.Common.{rules, ◌≡◌, ◌++◌, ◌∙◌, List, [], refl, sym, ap, subst, map, length, append-nil, append_assoc, take-append-drop}
use Rattle.std.proofs.lemmas.List.{map-append}
use Rattle.rr_cells.specs.CellBounds.{NamedCell}
use Rattle.rr_changes.specs.Listing.{named_cell}
use Rattle.rr_commit.specs.Packing.{Packs}
use Rattle.rr_commit.proofs.PackingLemmas.{none_there}
use Rattle.rr_commit.proofs.packing.Packing.add_cells.Goals as goal

pub loop-left-init : goal.loop-left-init
loop-left-init c = record {
  added = [];
  whole = refl;
  packs = λ done since are. subst (λ (es : List NamedCell). Packs c.args.self.now done es 0) (sym (append-nil since)) are;
}

pub loop-left-preserved : goal.loop-left-preserved
loop-left-preserved c =
    let added = c.loop-left.invariant.added in
    let group = c.split_at.result.0.now in
    let others = c.split_at.result.1.now in
    let named = named_cell c.args.key.now c.args.archive in
    let whole : group ++ others ≡ c.loop-left.left.now =
    (λ i. c.split_at.ensures.front i ++ c.split_at.ensures.back i) ∙ take-append-drop _ c.loop-left.left.now in
    record {
      added = added ++ group;
      whole = append_assoc added group others ∙ ap (λ l. added ++ l) whole ∙ c.loop-left.invariant.whole;
      packs = λ done since are. subst (λ (es : List NamedCell). Packs c.add_group.new.self done es 0)
          (append_assoc since (map named added) (map named group)
          ∙ ap (λ l. since ++ l) (sym (map-append named added group)))
          (c.in_ok-add_group.ensures done (since ++ map named added) (c.loop-left.invariant.packs done since are));
    }

pub returns : goal.returns
returns c done since are =
    let empty : length c.loop-left.left.now ≡ 0 = search rules in
    let none = none_there c.loop-left.left.now empty in
    let named = named_cell c.args.key.now c.args.archive in
    let all : c.loop-left.invariant.added ≡ c.args.cells.now =
    sym (append-nil c.loop-left.invariant.added) ∙ ap (λ l. c.loop-left.invariant.added ++ l) (sym none)
    ∙ c.loop-left.invariant.whole in
    subst (λ l. Packs c.loop-left.self done (since ++ map named l) 0) all (c.loop-left.invariant.packs done since are)
