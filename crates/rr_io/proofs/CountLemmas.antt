-- Calls that are counted, one after the other.
use Rattle.std.proofs.Common.{◌≡◌, ℕ, ◌+◌, ◌-◌, ◌^◌, ◌≤◌, eqb, inl, inr, arith, rules}
use Rattle.std.proofs.lemmas.Bool.{cases_Bool}
use Rattle.rr_io.specs.Counted.{one_more, HasRisenBy}

abbrev greatest : ℕ
greatest = 2 ^ 64 - 1

pub no_call : (old : ℕ) → HasRisenBy 0 old old
no_call old = λ fits. search rules

-- one call more
pub HasRisenBy-more : (n old mid new : ℕ) → HasRisenBy n old mid → new ≡ one_more mid → HasRisenBy (n + 1) old new
HasRisenBy-more n old mid new risen e = λ fits. let before = risen fits in search rules

-- one call adds one at most
pub one_more_at_most : (n old mid new : ℕ) → mid ≤ old + n → new ≡ one_more mid → new ≤ old + (n + 1)
one_more_at_most n old mid new few e =
    elim (cases_Bool (eqb mid greatest)) [
      | inl full ↦ omega (arith, few, rw full at e)
      | inr more ↦ omega (arith, few, rw more at e)
    ]
