use Rattle.std.proofs.Common.{◌≡◌, ◌∙◌, ◌+◌, true, take, drop, sym, true≢false, rules}
use Rattle.std.specs.Bool.{Decides}
use Rattle.std.specs.Cmp.Rules.{comparing}
use Rattle.std.proofs.lemmas.Slice.Eq.{slice_eq-Decides}
use Rattle.rr_schema.specs.declared.archive.ArchiveSpec.{ArchiveSpec}
use Rattle.rr_schema.specs.contracts.archive.ArchiveSpecPartialEq.TheImpl.{eq-value as own}
use Rattle.rr_schema.specs.Added.{without}
use Rattle.rr_schema.proofs.AddedLemmas.{parts_are_without, prefix_is_without, rest_is_without}
use Rattle.rr_schema.proofs.added.are_without.Goals as goal

same : (a b : ArchiveSpec) → Decides ((own).it a b) (a ≡ b)
same a b = search (comparing, rules)

pub returns-then-eq : goal.returns-then-eq
returns-then-eq c =
    let i = c.args.number in
    let archives = c.args.archives.now in
    let others = c.args.others.now in
    let prefixes = slice_eq-Decides same c.split_at.result.0.now (take i archives) c.eq.result c.eq.ensures in
    let rests = slice_eq-Decides same c.split_at.result.1.now c.split_at-then-eq.result.1.now c.eq-then-eq.result
    c.eq-then-eq.ensures in
    let prefix : take i others ≡ take i archives = sym c.split_at.ensures.front ∙ prefixes.0 c.if-eq.true in
    let of_others : c.split_at.result.1.now ≡ drop i others = c.split_at.ensures.back in
    let of_archives : c.split_at-then-eq.result.1.now ≡ drop (i + 1) archives = c.split_at-then-eq.ensures.back in (
      (λ t. parts_are_without i archives others prefix (sym of_others ∙ rests.0 t ∙ of_archives)),
      λ e. rests.1 (of_others ∙ rest_is_without i archives others c.requires e ∙ sym of_archives),
    )

pub returns-else-eq : goal.returns-else-eq
returns-else-eq c =
    let i = c.args.number in
    let archives = c.args.archives.now in
    let others = c.args.others.now in
    let prefixes = slice_eq-Decides same c.split_at.result.0.now (take i archives) c.eq.result c.eq.ensures in
    let differ : c.eq.result ≡ true → (others ≡ without i archives) =
    λ t. absurd (true≢false (sym t ∙ c.if-eq.false)) in
    (differ, λ e. prefixes.1 (c.split_at.ensures.front ∙ prefix_is_without i archives others c.requires e))
