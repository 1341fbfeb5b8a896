use Rattle.std.proofs.Common.{rules, ◌≡◌, [], ap, ◌∙◌}
use Rattle.rr_packed.specs.Sparse.{item_at}
use Rattle.rr_packed.proofs.SparseLemmas.{item_empty}
use Rattle.rr_packed.proofs.sparse.Sparse.new.Goals as goal

pub returns : goal.returns
returns g c = λ number.
    let none : c.new.result.items ≡ [] = search rules in
    ap (λ xs. item_at 0 xs number) none ∙ item_empty 0 number
