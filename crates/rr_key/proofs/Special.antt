-- Special bytes, and the tests on them.
use Rattle.std.proofs.Common.{◌≡◌, ℕ, Bool, true, false, ◌&&◌, eqb, sym, ap, ◌∙◌, refl}
use Rattle.std.proofs.lemmas.Bool.{ne_eqb, false≢true}
use Rattle.rr_key.specs.declared.class.Class.{Class}
use Rattle.rr_key.specs.declared.class.Class.TheVariants.{Measurement, Other}
use Rattle.rr_key.specs.Class.{is_special}

-- a backslash is special in neither class
pub backslash_plain : (class : Class) → is_special class 92 ≡ false
backslash_plain Measurement = refl
backslash_plain Other = refl

pub special_no_backslash : (class : Class) (b : ℕ) → is_special class b ≡ true → eqb b 92 ≡ false
special_no_backslash class b h = ne_eqb b 92 (λ e. false≢true
    (sym (ap (is_special class) e ∙ backslash_plain class) ∙ h))

pub and_false : (a : Bool) → (a && false) ≡ false
and_false true = refl
and_false false = refl

pub and_true : (a : Bool) → (a && true) ≡ a
and_true true = refl
and_true false = refl
