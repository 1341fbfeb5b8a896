use Rattle.std.proofs.Common.{rules, ◌≡◌, ◌++◌, ◌∷◌, List, ℕ, [], sym, subst}
use Rattle.rr_commit.specs.Packing.{AreCells}
use Rattle.rr_commit.proofs.PackingLemmas.{settled_part, settled_whole}
use Rattle.rr_commit.proofs.packing.Packing.settle.Goals as goal

pub returns-clause-series : goal.returns-clause-series
returns-clause-series c done since are =
    let made = c.make_room.new.self in
    let body : c.extend_from_slice.new.self.items ≡ made.body.items ++ made.own.items = search rules in
    let own : c.clear.new.self.items ≡ [] = search rules in
    subst (λ (z : List ℕ × List ℕ). AreCells made.records.items z.0 z.1 (done ++ since ∷ []) [] 0)
    (λ i. (sym body i, sym own i))
    (settled_whole made.records.items made.body.items made.own.items done since
    (c.in_ok-make_room.ensures.packs done since 0 are) (c.in_ok-make_room.ensures.room done since 0 are))

pub returns-clause-part : goal.returns-clause-part
returns-clause-part c done since more are many =
    let made = c.make_room.new.self in
    let body : c.extend_from_slice.new.self.items ≡ made.body.items ++ made.own.items = search rules in
    let own : c.clear.new.self.items ≡ [] = search rules in
    subst (λ (z : List ℕ × List ℕ). AreCells made.records.items z.0 z.1 done since more)
    (λ i. (sym body i, sym own i))
    (settled_part made.records.items made.body.items made.own.items done since more
    (c.in_ok-make_room.ensures.packs done since 0 are) (c.in_ok-make_room.ensures.room done since 0 are) many)
