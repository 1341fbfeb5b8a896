use Rattle.std.proofs.Common.{refl, ◌∙◌, sym, ap, rules}
use Rattle.rr_codec.specs.Steps.{step_to}
use Rattle.rr_codec.proofs.RegularLemmas.{regular_steps}
use Rattle.rr_codec.proofs.expecting.Before.regular_steps_to.Goals as goal

pub returns-clause-steps : goal.returns-clause-steps
returns-clause-steps c =
    regular_steps c.args.span c.args.self.now c.args.cell.now (search rules)
    ∙ sym (rw (
      c.step_to.ensures,
      c.step_to-2.ensures ∙ ap (λ e. step_to e c.args.cell.now.version) c.expected_version.ensures,
      c.step_to-3.ensures ∙ ap (λ e. step_to e c.args.cell.now.last_time) c.expected_time.ensures,
      c.step_to-4.ensures ∙ ap (λ e. step_to e c.args.cell.now.min) c.expected_min.ensures,
      c.step_to-5.ensures ∙ ap (λ e. step_to e c.args.cell.now.max) c.expected_max.ensures,
      c.step_to-6.ensures ∙ ap (λ e. step_to e c.args.cell.now.sum) c.expected_sum-sum.ensures,
    ) refl)
