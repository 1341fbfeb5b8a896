use Rattle.std.proofs.Common.{◌≡◌, ◌<◌, true, true≢false, refl, ap, sym, ◌∙◌, Option, Some, None}
use Rattle.std.specs.Option.{option_eq}
use Rattle.std.proofs.Math.Path.{PathP, to_path_p}
use Rattle.std.proofs.Math.Bridge.{le_prop}
use Rattle.std.proofs.lemmas.Bool.Decides.{Decides-eqb, Decides-and}
use Rattle.rr_text.specs.declared.limits.TheConstants.{MAX_STEPS}
use Rattle.rr_packed.specs.declared.lone_sample.Source.{Source}
use Rattle.rr_packed.specs.contracts.lone_sample.SourcePartialEq.TheImpl.{eq-value as own}
use Rattle.rr_packed.proofs.lone_sample.is_same_source.Goals as goal

is_same : (a b : Source) → a.origin ≡ b.origin → a.place ≡ b.place → a ≡ b
is_same a b o p = λ i. record { origin = o i; place = p i; in_slot = low i }
  where
    low : PathP (λ i. p i < MAX_STEPS) a.in_slot b.in_slot
    low = to_path_p (λ i. p i < MAX_STEPS) (le_prop _ b.in_slot)

both_same : (a b : Option Source) → option_eq (own).it a b ≡ true → a ≡ b
both_same None None e = refl
both_same None (Some b) e = absurd (true≢false (sym e))
both_same (Some a) None e = absurd (true≢false (sym e))
both_same (Some a) (Some b) e =
    let parts = (Decides-and _ _ (Decides-eqb a.origin b.origin) (Decides-eqb a.place b.place)).0 e in
    ap (λ s. Some s) (is_same a b parts.0 parts.1)

pub returns : goal.returns
returns c = λ t. both_same c.args.source.now c.args.other.now (sym c.eq.ensures ∙ t)
