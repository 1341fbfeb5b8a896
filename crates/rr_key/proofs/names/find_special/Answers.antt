use Rattle.std.proofs.Common.{◌≡◌, ℕ, ◌+◌, ◌-◌, ◌≤◌, Bool, List, length, get_or, drop, sym, ap, ◌∙◌, inl, inr, arith}
use Rattle.std.proofs.lemmas.Bool.{cases_lt}
use Rattle.std.proofs.lemmas.List.{length-drop, get_or-drop}
use Rattle.memchr.specs.Find.{Nowhere, Passes}
use Rattle.rr_key.specs.Class.{is_special}
use Rattle.rr_key.proofs.Walk.{rest_is}
use Rattle.rr_key.proofs.names.find_special.Goals as goal

-- nowhere near, and nowhere in the rest up to a place
joined : (test : ℕ → Bool) (text : List ℕ) (i near at : ℕ) → near ≤ i → Nowhere (Passes test text) 0 i
    → Nowhere (Passes test (drop near text)) 0 at → Nowhere (Passes test text) 0 (near + at)
joined test text i near at le none later k low lt here = elim (cases_lt k near) [
  | inl before ↦ none k low (omega arith) here
  | inr after ↦
      let n : near + (k - near) ≡ k = omega arith in
      later (k - near) (omega arith) (omega arith) (ap test
      (get_or-drop near text (k - near) 0 ∙ ap (λ i. get_or text i 0) n) ∙ here)
]

pub returns-in-Some : goal.returns-in-Some
returns-in-Some c =
    let text = c.args.text.now in
    let near = c.min-near.result in
    let found = rw rest_is at c.in-Some.ensures in
    let before = joined (is_special c.args.class) text c.loop-i.i near c.in-Some.at (omega arith) c.loop-i.invariant
    found.0.before in (
      record { low = omega arith; high = omega (arith, found.0.high, length-drop near text); before = before },
      ap (is_special c.args.class) (sym (get_or-drop near text c.in-Some.at 0)) ∙ found.1,
    )

pub returns-in-None : goal.returns-in-None
returns-in-None c = λ k low lt.
    let text = c.args.text.now in
    let near = c.min-near.result in
    joined (is_special c.args.class) text c.loop-i.i near (length (drop near text)) (omega arith) c.loop-i.invariant
    (rw rest_is at c.in-None.ensures) k low (omega (arith, length-drop near text))
