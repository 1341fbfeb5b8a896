-- upgrade S:R:N/D
use Rattle.std.proofs.Common.{◌≡◌, ℕ, suc, true, false, cond, List, [], ◌∷◌, ◌++◌, take, drop, Some, None, Ok, Err, refl, sym, ap, ◌∙◌}
use Rattle.std.specs.Prelude.{nat_lt, ok_or}
use Rattle.std.specs.FinMap as map
use Rattle.std.specs.Cmp.Lexicographic.{nat_list_cmp_total}
use Rattle.rr_archive.specs.declared.archive.Cells.{Ghosts}
use Rattle.rr_schema.specs.declared.archive.ArchiveSpec.{ArchiveSpec}
use Rattle.rr_schema.specs.Check.{schema_fault}
use Rattle.rr_schema.specs.Schema.{Layout, IsLayout}
use Rattle.rr_schema.proofs.Checked.{checked_layout}
use Rattle.rr_join.proofs.ValuesLemmas.{map_values-empty}
use Rattle.rr_cells.specs.Knowledge.{Knowledge}
use Rattle.rr_cells.specs.Cells.{Cells}
use Rattle.rr_cells.specs.State.{cells_of_knowledge}
use Rattle.rr_text.specs.Bytes.{bytes_cmp}
use Rattle.rr_cells.specs.Raising.{with_archive, place_for}
use Rattle.rr_cluster.specs.declared.cluster.Cluster.{Cluster}
use Rattle.rr_cluster.specs.declared.fault.CommandFault.{CommandFault}
use Rattle.rr_cluster.specs.declared.fault.CommandFault.TheVariants.{BadNumber}
use Rattle.rr_cluster.specs.declared.stop.Stop.{Stop}
use Rattle.rr_cluster.specs.declared.stop.Stop.TheVariants.{Refused, Memory}
use Rattle.rr_cluster.specs.Agreement.{in_cells, node_in_cells}
use Rattle.rr_cluster.specs.Commands.Upgrade.{layout_with, after_upgrade}
use Rattle.rr_cluster.specs.Meaning.{Leaves, Represents}
use Rattle.rr_cluster.specs.Soundness.{IsSound}
use Rattle.rr_cluster.specs.State.{State}
use Rattle.rr_cluster.specs.Stop.{Gives}
use Rattle.rr_cluster.specs.Words.{archive_of}
use Rattle.rr_cluster.proofs.CommandsLemmas.Schema.{unless_faulty-ok}
use Rattle.rr_cluster.proofs.StepLemmas.{names_apart, OfAnswer, holds_of, Agrees, then_agree, done_agrees}

-- ---- check by check

-- the state once the schema has an archive more
abbrev pub upgraded : {K : Type 0} → State K → Layout → State K
upgraded m s = record m { schema = s; nodes = map.empty; pages = map.empty }

module _ {K : Type 0} (m : State K) (word : List ℕ) where
  pub bad_archive : archive_of word ≡ None → after_upgrade m word ≡ Err BadNumber
  unfolding after_upgrade
  bad_archive e = rw e refl

  module _ (archive : ArchiveSpec) (is : archive_of word ≡ Some archive) where
    pub bad_schema : (fault : CommandFault) → layout_with m.schema archive ≡ Err fault
        → after_upgrade m word ≡ Err fault
    unfolding after_upgrade
    bad_schema fault e = rw (is, e) refl

    pub is_upgraded : (s : Layout) → layout_with m.schema archive ≡ Ok s → after_upgrade m word ≡ Ok (upgraded m s)
    unfolding after_upgrade
    is_upgraded s e = rw (is, e) refl

-- ---- the archives with one more

-- what is put in at this place
pub put_in_place : (a : ArchiveSpec) (xs : List ArchiveSpec)
    → take (place_for a xs) xs ++ (a ∷ drop (place_for a xs) xs) ≡ with_archive a xs
put_in_place a [] = refl
put_in_place a (b ∷ bs) = elim (nat_lt a.steps b.steps) as
    (λ t. take (cond t 0 (suc (place_for a bs))) (b ∷ bs) ++ (a ∷ drop (cond t 0 (suc (place_for a bs))) (b ∷ bs))
    ≡ cond t (a ∷ b ∷ bs) (b ∷ with_archive a bs)) [
      | true ↦ refl
      | false ↦ ap (λ l. b ∷ l) (put_in_place a bs)
    ]

-- ---- the cluster with the schema

module _ {A : Type 0} {g : Ghosts A} (old : Cluster A g) (m : State Cells) (s : Layout) (is : Represents old m) where
  pub represents_upgraded : (new : Cluster A g) → new.schema ≡ s → new.clock ≡ old.clock → new.lead ≡ old.lead
      → new.nodes.entries ≡ [] → new.pages.entries ≡ [] → new.snapshots ≡ old.snapshots → new.origins ≡ old.origins
      → Represents new (upgraded m s)
  represents_upgraded new schema clock lead nodes pages snapshots origins = record {
    schema = schema;
    clock = clock ∙ is.clock;
    lead = lead ∙ is.lead;
    nodes = λ name. rw nodes (map.get-empty bytes_cmp name);
    shared = λ name h. rw nodes (λ e. absurd cc);
    pages = λ name. rw (pages, map.get-empty {X = Cells} bytes_cmp name) refl;
    are_pages = λ name page e. let none = sym (map.get-empty bytes_cmp name) ∙ e in absurd cc;
    snapshots = λ name. rw snapshots (is.snapshots name);
    are_kept = is.are_kept;
    origins = λ origin. rw origins (is.origins origin);
  }

  -- a schema that has a fault is refused as the model's is
  pub upgrade_is_refused : (word : List ℕ) (archive : ArchiveSpec) → archive_of word ≡ Some archive → (stop : Stop)
      → Gives {A = Layout} (λ t. t) (Err stop) (layout_with old.schema archive)
      → Leaves old m (Err stop) (after_upgrade m word)
  upgrade_is_refused word archive read Memory due = tt
  upgrade_is_refused word archive read (Refused fault) due =
      (bad_schema m word archive read fault (ap (λ (t : Layout). layout_with t archive) (sym is.schema) ∙ due), is)

  pub schema_is_upgraded : (word : List ℕ) (archive : ArchiveSpec) → archive_of word ≡ Some archive
      → layout_with old.schema archive ≡ Ok s → after_upgrade m word ≡ Ok (upgraded m s)
  schema_is_upgraded word archive read due = is_upgraded m word archive read s
      (ap (λ (t : Layout). layout_with t archive) (sym is.schema) ∙ due)

-- ---- the models agree

layout_with_is : (s : Layout) (a : ArchiveSpec) → OfAnswer IsLayout (layout_with s a)
layout_with_is s a = let archives = with_archive a s.archives in
    unless_faulty-ok (schema_fault s.step archives) (record { step = s.step; archives = archives })
    (checked_layout s.step archives)

upgraded_agree : (m : State Knowledge) (s : Layout)
    → ◌≡◌ {A = State Cells} (upgraded (in_cells m) s) (in_cells (upgraded m s))
upgraded_agree m s = λ i. record (in_cells m) {
  schema = s;
  nodes = sym (map_values-empty nat_list_cmp_total names_apart node_in_cells) i;
  pages = sym (map_values-empty nat_list_cmp_total names_apart (cells_of_knowledge s)) i;
}

-- without nodes and pages nothing is held under the new schema
upgraded_is_sound : (m : State Knowledge) → IsSound m → (s : Layout) → IsLayout s → IsSound (upgraded m s)
upgraded_is_sound m sound s layout = record {
  layout = layout;
  clock = sound.clock;
  shared = λ name n e. let none = sym (map.get-empty bytes_cmp name) ∙ e in absurd cc;
  nodes = λ name n e. let none = sym (map.get-empty bytes_cmp name) ∙ e in absurd cc;
  pages = λ name k e. let none = sym (map.get-empty bytes_cmp name) ∙ e in absurd cc;
  snapshots = sound.snapshots;
  apart = λ a b n o e h same. let none = sym (map.get-empty bytes_cmp a) ∙ e in absurd cc;
  used = λ name n e. let none = sym (map.get-empty bytes_cmp name) ∙ e in absurd cc;
  origins = sound.origins;
  written = sound.written;
  samples = sound.samples;
}

pub upgrade_agrees : (m : State Knowledge) → IsSound m → (word : List ℕ)
    → Agrees in_cells IsSound (after_upgrade (in_cells m) word) (after_upgrade m word)
unfolding after_upgrade
upgrade_agrees m sound word =
    then_agree in_cells IsSound (ok_or (archive_of word) BadNumber) _ _
    (λ archive is. then_agree in_cells IsSound (layout_with m.schema archive) _ _ (λ s made.
    done_agrees in_cells IsSound _ _ (upgraded_agree m s)
    (upgraded_is_sound m sound s (holds_of IsLayout (layout_with m.schema archive) s
    (layout_with_is m.schema archive) made))))
