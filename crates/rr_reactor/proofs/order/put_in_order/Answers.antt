use Rattle.std.proofs.Common.{rules, arith, ◌≡◌, ℕ, ◌+◌, ◌<◌, ◌≤◌, Ordering, false, inl, inr, sym, slice_index_or}
use Rattle.std.proofs.lemmas.Bool.{true≢false}
use Rattle.std.proofs.lemmas.Fn.{always_returns_same}
use Rattle.std.specs.Cmp.{ranks}
use Rattle.std.specs.Ordering.{MatchOrdering, is_lt, nat_cmp, ordering_then}
use Rattle.std.specs.declared.cmp.Ordering.TheVariants.{Less, Equal, Greater}
use Rattle.std.specs.Prelude.{◌⊎◌}
use Rattle.rr_reactor.proofs.order.put_in_order.Goals as goal

-- what isn't less is as much or more
no_less : (r : Ordering) (s t : ℕ) → MatchOrdering r (t < s) (t ≡ s) (s < t) → is_lt r ≡ false → s ≤ t
no_less Less s t w h = absurd (true≢false h)
no_less Equal s t w h = omega arith
no_less Greater s t w h = omega arith

-- of two that are sorted the first gets on no later
before : (r : Ordering) (m n s t : ℕ) → MatchOrdering r (n < m) (n ≡ m) (m < n)
    → is_lt (ordering_then r (nat_cmp t s)) ≡ false → (m < n) ⊎ ((m ≡ n) × (s ≤ t))
before Less m n s t w h = absurd (true≢false h)
before Equal m n s t w h = inr (sym w, no_less (nat_cmp t s) s t (ranks t s) h)
before Greater m n s t w h = inl w

pub returns-clause-order : goal.returns-clause-order
returns-clause-order c k d below =
    let sorted = c.sort_unstable_by_key.ensures.sorted (λ w. (w.needs, w.since)) (always_returns_same _ (λ a r. r ≡ (a.0.now.needs, a.0.now.since)) _ (λ a r f q. search rules)) k d (omega arith) below in
    let a = slice_index_or c.sort_unstable_by_key.new.self k d in
    let b = slice_index_or c.sort_unstable_by_key.new.self (k + 1) d in
    before (nat_cmp b.needs a.needs) a.needs b.needs a.since b.since (ranks b.needs a.needs) sorted
