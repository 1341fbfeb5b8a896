use Rattle.std.proofs.Common.{rules, ◌≡◌, ◌++◌, ◌∷◌, List, ℕ, [], sym, subst, refl}
use Rattle.rr_journal.specs.declared.raw.RawRecord.{RawRecord}
use Rattle.rr_commit.specs.Packing.{AreCells}
use Rattle.rr_commit.proofs.PackingLemmas.{closed_more}
use Rattle.rr_commit.proofs.packing.Packing.close.Goals as goal

pub returns-clause-packs : goal.returns-clause-packs
returns-clause-packs c done since more are =
    let raw : RawRecord = record { kind = 1; body = c.replace-body.result } in
    let records : c.push.new.self.items ≡ c.args.self.now.records.items ++ raw ∷ [] = search rules in
    let body : c.replace-body.new.dest.items ≡ [] = search rules in
    let same : c.replace-body.result.items ≡ c.args.self.now.body.items = search rules in
    subst (λ (z : List RawRecord × List ℕ). AreCells z.0 z.1 c.args.self.now.own.items done since more)
    (λ i. (sym records i, sym body i))
    (closed_more c.args.self.now.records.items c.args.self.now.body.items c.args.self.now.own.items done since more raw are
    refl same)
