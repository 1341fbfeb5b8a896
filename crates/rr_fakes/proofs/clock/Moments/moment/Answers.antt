use Rattle.std.proofs.Common.{◌≡◌, ◌∙◌, ℤ, pos, ℕ, ◌-◌, List, min, get_or, length, rules, arith, sym, ap}
use Rattle.std.proofs.Math.Facts.{to_z-of_z}
use Rattle.std.specs.Int.{w64}
use Rattle.rr_fakes.specs.Clock.{MomentsState, moment_at}
use Rattle.rr_fakes.proofs.ClockLemmas.{moment_at-lookup}
use Rattle.rr_fakes.proofs.clock.Moments.moment.Goals as goal

pub returns-in-Some : goal.returns-in-Some
returns-in-Some c =
    let inside = c.self.inside in
    let xs = inside.moments.items in
    let place : c.min-place.result ≡ min inside.asked (length xs - 1) =
    omega (arith, c.min-place.ensures, c.saturating_sub.ensures, c.len.ensures) in
    let looked = c.in-Some.ensures.lookup.3.1 (pos 0) in
    let view = ap (λ (m : MomentsState). moment_at m.moments m.asked) c.self.view_is in
    to_z-of_z {w = w64} {z = c.in-Some.moment.now} (search rules)
    ∙ looked
    ∙ ap (λ (l : List ℤ). get_or l c.min-place.result (pos 0)) c.deref.ensures.value
    ∙ ap (λ (k : ℕ). get_or xs k (pos 0)) place
    ∙ sym (moment_at-lookup xs inside.asked)
    ∙ view
