use Rattle.std.proofs.Common.{rules, ◌≡◌, refl, length, sym, ap, ◌∙◌}
use Rattle.std.specs.Prelude.{vec_len}
use Rattle.std.proofs.lemmas.Bool.{eqb-true}
use Rattle.rr_packed.specs.Sparse.{item_at}
use Rattle.rr_packed.proofs.SparseLemmas.{item_empty, empty_of}
use Rattle.rr_packed.proofs.BlockLemmas.{block_sourced}
use Rattle.rr_packed.proofs.block.Block.sample_of.Goals as goal

pub returns-then-is_empty-clause-source : goal.returns-then-is_empty-clause-source
returns-then-is_empty-clause-source c = record {
  same =
      let b = c.args.self.now in
      let zero : vec_len b.samples.items ≡ 0 = eqb-true (vec_len b.samples.items) 0
      (sym c.is_empty.ensures ∙ c.if-is_empty.true) in
      let none : length b.samples.items.items ≡ 0 = search rules in
      let empty = empty_of b.samples.items.items none in
      block_sourced b _ (λ n. refl)
      (λ n. ap (λ xs. item_at b.samples.mask xs n) empty ∙ item_empty b.samples.mask n)
      (λ n. ap (λ xs. item_at b.samples.mask xs n) empty ∙ item_empty b.samples.mask n);
  samples = search rules;
  rows = search rules;
}
