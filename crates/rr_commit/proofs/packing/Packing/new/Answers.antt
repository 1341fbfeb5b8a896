use Rattle.std.proofs.Common.{rules, ◌≡◌, List, ℕ, [], sym, subst}
use Rattle.rr_journal.specs.declared.raw.RawRecord.{RawRecord}
use Rattle.rr_commit.specs.Packing.{AreCells}
use Rattle.rr_commit.proofs.PackingLemmas.{none_packed}
use Rattle.rr_commit.proofs.packing.Packing.new.Goals as goal

pub returns : goal.returns
returns c =
    let records : c.new.result.items ≡ [] = search rules in
    let body : c.new-2.result.items ≡ [] = search rules in
    let own : c.new-3.result.items ≡ [] = search rules in
    subst (λ (z : List RawRecord × List ℕ × List ℕ). AreCells z.0 z.1 z.2 [] [] 0)
    (λ i. (sym records i, sym body i, sym own i)) none_packed
