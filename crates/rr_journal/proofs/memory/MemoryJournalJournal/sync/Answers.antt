use Rattle.std.proofs.Common.{◌≡◌, ℕ, ◌≤◌, List, ◌++◌, length, take, drop, Option, Some, ap, sym, subst, ◌∙◌, arith}
use Rattle.std.proofs.lemmas.List.{take-append-drop, take_all}
use Rattle.rr_journal.specs.Keeping.{MemoryState, synced_bytes}
use Rattle.rr_journal.proofs.memory.MemoryJournalJournal.sync.Goals as goal

abbrev known : List ℕ → Option (List ℕ)
known bytes = Some bytes

grown : (bytes : List ℕ) (n m : ℕ) → length bytes ≤ m
    → (more : List ℕ) × (known (take m bytes) ≡ known (take n bytes ++ more))
grown bytes n m le = (drop n bytes, ap known (take_all m bytes le ∙ sym (take-append-drop n bytes)))

pub returns-clause-grows : goal.returns-clause-grows
returns-clause-grows c =
    let bytes = c.self.inside.bytes.items in
    let len = c.len-self-inside.result in
    subst (λ (j : MemoryState). (more : List ℕ) × (known (take len bytes) ≡ known (synced_bytes j ++ more)))
    (c.self.view_is ∙ c.if-is_due.ensures)
    (grown bytes c.self.inside.synced len (omega (arith, c.len-self-inside.ensures)))
