use Rattle.std.proofs.Common.{◌≡◌}
use Rattle.rr_desk.specs.Changes.{AreNamed, prefix_after, names_of, ops_in}
use Rattle.rr_desk.specs.Editions.{BookPrefix}
use Rattle.rr_desk.specs.Writers.{changes}
use Rattle.rr_desk.proofs.naming.name_keys.Given as goal

-- all keys before this one are named, and nothing else has changed
abbrev pub invariant-loop-number : goal.invariant-loop-number
invariant-loop-number g l = record {
  desk : l.writer.desk ≡ l.initial.writer.desk;
  pending : ops_in (names_of l.initial.writer.desk.shown.value.replica) (changes l.writer)
      ≡ ops_in (names_of l.initial.writer.desk.shown.value.replica) (changes l.initial.writer);
  prefix : (s : BookPrefix) → prefix_after s (changes l.writer) ≡ prefix_after s (changes l.initial.writer);
  named : AreNamed (names_of l.initial.writer.desk.shown.value.replica) l.own.keys (changes l.writer) l.named;
  here : l.named ≡ l.number;
}
