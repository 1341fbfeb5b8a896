-- The range of two values.
use Rattle.std.proofs.Common.{◌≡◌, List, [], ◌∷◌, length, get_or, Err, refl, sym, ap₂, arith}
use Rattle.toml.specs.View.{view, items_view}
use Rattle.toml.specs.declared.value.Value.{Value}
use Rattle.rr_config.specs.declared.fault.ConfigFault.TheVariants.{BadCount}
use Rattle.rr_config.specs.Values.{range_between, range_in}

pub of_two : (vs : List Value) (least greatest : Value) → length vs ≡ 2 → least ≡ get_or vs 0 least
    → greatest ≡ get_or vs 1 greatest → range_in (items_view vs) ≡ range_between (view least) (view greatest)
of_two [] least greatest two first second = absurd (omega arith)
of_two (v ∷ []) least greatest two first second = absurd (omega arith)
of_two (v ∷ w ∷ []) least greatest two first second =
    ap₂ (λ (p q : Value). range_between (view p) (view q)) (sym first) (sym second)
of_two (v ∷ w ∷ x ∷ others) least greatest two first second = absurd (omega arith)

pub of_others : (vs : List Value) → (length vs ≡ 2 → ⊥) → range_in (items_view vs) ≡ Err BadCount
of_others [] other = refl
of_others (v ∷ []) other = refl
of_others (v ∷ w ∷ []) other = absurd (other refl)
of_others (v ∷ w ∷ x ∷ others) other = refl
