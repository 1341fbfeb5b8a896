-- Of closed knowledges equal versions of a cell mean the same marks.
use Rattle.std.proofs.Common.{◌≡◌, ◌≤◌, Bool, true, false, cond, refl, sym, ap, ◌∙◌, arith, true≢false, Option, Some, None, is_some, le_of_eq}
use Rattle.std.specs.Option.{unwrap_or}
use Rattle.std.specs.FinMap.{get}
use Rattle.rr_schema.specs.Schema.{Layout, IsLayout}
use Rattle.rr_join.proofs.Booleans.{same_test}
use Rattle.rr_contrib.specs.declared.contribution.Contribution.{Contribution}
use Rattle.rr_cells.specs.CellNames.{CellName}
use Rattle.rr_cells.specs.Samples.{Mark}
use Rattle.rr_cells.specs.Knowledge.{Knowledge, knows, is_live_in}
use Rattle.rr_cells.specs.World.{World, IsClosed}
use Rattle.rr_cells.proofs.Knowing.{same_knowledge, is_in-keys_of}
use Rattle.rr_cells.specs.State.{cells_of_knowledge}
use Rattle.rr_cells.proofs.States.{value, marks_at, get-state, value_cell}
use Rattle.rr_cells.proofs.Uniting.{value_top, reaches}

-- what stands where a test passes alone
passed : {V : Type 0} (b : Bool) (x : Option V) (v : V) → cond b x None ≡ Some v → (b ≡ true) × (x ≡ Some v)
passed true x v e = (refl, e)
passed false x v e = absurd (true≢false (sym (ap is_some e)))

module _ (s : Layout) (is : IsLayout s) (w : World) where
  -- the marks of a live cell, and what they contribute
  there : (k : Knowledge) (n : CellName) (a : Contribution) → get (cells_of_knowledge s k) n ≡ Some a
      → (is_live_in s k n ≡ true) × (value s (marks_at s k n) ≡ Some a)
  there k n a e = passed (is_live_in s k n) (value s (marks_at s k n)) a
      (sym (get-state s k n ∙ value_cell s is k n) ∙ e)

  -- a cell has all marks that another one of no greater version has
  has_those : (k l : Knowledge) → IsClosed s w k → IsClosed s w l → (n : CellName) (a b : Contribution)
      → value s (marks_at s k n) ≡ Some a → is_live_in s l n ≡ true → value s (marks_at s l n) ≡ Some b
      → a.version ≤ b.version → (m : Mark) → knows (marks_at s k n) m ≡ true → knows (marks_at s l n) m ≡ true
  has_those k l ck cl n a b ea alive eb below m known =
      let ta = value_top s (marks_at s k n) a ea in
      let tb = value_top s (marks_at s l n) b eb in
      let bound : m.number ≤ a.version = ta.others m (is_in-keys_of (marks_at s k n) m ∙ known) in
      let top : tb.mark.number ≡ b.version = tb.number in
      let lower : m.number ≤ tb.mark.number = omega arith in
      reaches s is w k l ck cl n alive m tb.mark known (sym (is_in-keys_of (marks_at s l n) tb.mark) ∙ tb.known) lower

  -- so two of one version have the same marks, and the same contents
  pub closed_agree : (k l : Knowledge) → IsClosed s w k → IsClosed s w l → (n : CellName) (a b : Contribution)
      → get (cells_of_knowledge s k) n ≡ Some a → get (cells_of_knowledge s l) n ≡ Some b → a.version ≡ b.version
      → a ≡ b
  closed_agree k l ck cl n a b ea eb e =
      let in_k = there k n a ea in
      let in_l = there l n b eb in
      let same = same_knowledge (marks_at s k n) (marks_at s l n) (λ m.
      same_test (knows (marks_at s k n) m) (knows (marks_at s l n) m)
      (has_those k l ck cl n a b in_k.1 in_l.0 in_l.1 (le_of_eq e) m)
      (has_those l k cl ck n b a in_l.1 in_k.0 in_k.1 (le_of_eq (sym e)) m)) in
      ap (λ o. unwrap_or o a) (sym in_k.1 ∙ ap (value s) same ∙ in_l.1)
