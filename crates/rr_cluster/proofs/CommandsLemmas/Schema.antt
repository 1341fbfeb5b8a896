-- schema STEP S:R:N/D ..
use Rattle.std.proofs.Common.{◌≡◌, ℕ, List, Some, None, Option, refl, sym, ◌∙◌}
use Rattle.std.specs.Prelude.{ok_or}
use Rattle.std.specs.FinMap.{get-empty}
use Rattle.rr_schema.specs.declared.fault.SchemaFault.{SchemaFault}
use Rattle.rr_schema.specs.Check.{schema_fault}
use Rattle.rr_schema.specs.Schema.{Layout, IsLayout}
use Rattle.rr_schema.proofs.Checked.{checked_layout}
use Rattle.rr_cells.specs.Cells.{Cells}
use Rattle.rr_cells.specs.State.{cells_of_knowledge}
use Rattle.rr_text.specs.Bytes.{bytes_cmp}
use Rattle.rr_cluster.specs.declared.fault.CommandFault.TheVariants.{BadNumber}
use Rattle.rr_cluster.specs.declared.words.TheConstants.{MAX_U32}
use Rattle.rr_cluster.specs.Agreement.{in_cells, node_in_cells, snapshot_in_cells}
use Rattle.rr_cluster.specs.Commands.Schema.{layout_of, unless_faulty}
use Rattle.rr_cluster.specs.Soundness.{FirstStatesAreSound}
use Rattle.rr_cluster.specs.State.{State, first_state}
use Rattle.rr_cluster.specs.Words.{archives_of, number_within}
use Rattle.rr_join.proofs.ValuesLemmas.{map_values-empty}
use Rattle.std.specs.Cmp.Lexicographic.{nat_list_cmp_total}
use Rattle.rr_cluster.proofs.StepLemmas.{names_apart, OfAnswer, then_holds}

-- ---- the models agree

pub unless_faulty-ok : (fault : Option SchemaFault) (layout : Layout) → (fault ≡ None → IsLayout layout)
    → OfAnswer IsLayout (unless_faulty fault layout)
unfolding OfAnswer
unless_faulty-ok None layout is = is refl
unless_faulty-ok (Some fault) layout is = tt

pub layout_is : (word : List ℕ) (archives : List (List ℕ)) → OfAnswer IsLayout (layout_of word archives)
unfolding layout_of
layout_is word archives = then_holds IsLayout (ok_or (number_within 0 MAX_U32 word) BadNumber) _
    (λ seconds parsed. then_holds IsLayout (ok_or (archives_of archives) BadNumber) _ (λ specs also.
    unless_faulty-ok (schema_fault seconds specs) (record { step = seconds; archives = specs })
    (checked_layout seconds specs)))

pub first_states_agree : (s : Layout) → ◌≡◌ {A = State Cells} (first_state s) (in_cells (first_state s))
first_states_agree s = λ i. record (first_state s) {
  nodes = sym (map_values-empty nat_list_cmp_total names_apart node_in_cells) i;
  pages = sym (map_values-empty nat_list_cmp_total names_apart (cells_of_knowledge s)) i;
  snapshots = sym (map_values-empty nat_list_cmp_total names_apart snapshot_in_cells) i;
}

pub first_states_are_sound : FirstStatesAreSound
first_states_are_sound s is = record {
  layout = is;
  clock = refl;
  shared = λ name n e. let none = sym (get-empty bytes_cmp name) ∙ e in absurd cc;
  nodes = λ name n e. let none = sym (get-empty bytes_cmp name) ∙ e in absurd cc;
  pages = λ name k e. let none = sym (get-empty bytes_cmp name) ∙ e in absurd cc;
  snapshots = λ name x e. let none = sym (get-empty bytes_cmp name) ∙ e in absurd cc;
  apart = λ a b n o e h same. let none = sym (get-empty bytes_cmp a) ∙ e in absurd cc;
  used = λ name n e. let none = sym (get-empty bytes_cmp name) ∙ e in absurd cc;
  origins = λ origin was. absurd cc;
  written = λ x e. let none = sym (get-empty _ (x.origin, x.number)) ∙ e in absurd cc;
  samples = λ x e. let none = sym (get-empty _ (x.origin, x.number)) ∙ e in absurd cc;
}
