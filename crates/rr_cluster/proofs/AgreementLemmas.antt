-- The cell model and the sample model agree on each command, and so on scripts; and sound states stay sound.
use Rattle.std.proofs.Common.{◌≡◌, ℕ, zero, suc, List, [], ◌∷◌, take, Some, None, Option, Result, Ok, Err, refl, ap, ◌∙◌}
use Rattle.std.specs.Prelude.{IfOk, IfSome}
use Rattle.std.specs.List.{All}
use Rattle.std.specs.Option.{option_map}
use Rattle.std.proofs.lemmas.List.Elements.{All-head, All-tail}
use Rattle.rr_text.specs.Bytes.{HasNoLineFeed}
use Rattle.rr_schema.specs.Schema.{Layout, IsLayout}
use Rattle.rr_cells.specs.Knowledge.{Knowledge}
use Rattle.rr_cells.specs.Cells.{Cells}
use Rattle.rr_cluster.specs.declared.fault.CommandFault.{CommandFault}
use Rattle.rr_cluster.specs.Agreement.{in_cells, step_in_cells, CommandsAgree, ScriptsAgree}
use Rattle.rr_cluster.specs.Command.{IsOneLine, Command, schema, upgrade, node, now, write, page, delta, deliver, bytes, save, load, fetch}
use Rattle.rr_cluster.specs.Commands.{on_ok, step, silently, beginning, printing}
use Rattle.rr_cluster.specs.Commands.Schema.{layout_of}
use Rattle.rr_cluster.specs.Model.{cell_model, sample_model}
use Rattle.rr_cluster.specs.Output.{after_line, unless_refused, output_from}
use Rattle.rr_cluster.specs.Script.{commands_of, SaysOneLine}
use Rattle.rr_cluster.specs.declared.script.fault.SyntaxFault.{SyntaxFault}
use Rattle.rr_cluster.specs.Soundness.{IsSound, CommandsKeepSound, ScriptsAreSound, state_after}
use Rattle.rr_cluster.specs.State.{State}
use Rattle.rr_cluster.proofs.CommandsLemmas.Schema.{layout_is, first_states_agree, first_states_are_sound}
use Rattle.rr_cluster.proofs.CommandsLemmas.Upgrade.{upgrade_agrees}
use Rattle.rr_cluster.proofs.CommandsLemmas.Node.{node_agrees}
use Rattle.rr_cluster.proofs.CommandsLemmas.Now.{now_agrees}
use Rattle.rr_cluster.proofs.CommandsLemmas.Write.{write_agrees}
use Rattle.rr_cluster.proofs.CommandsLemmas.Page.{page_agrees}
use Rattle.rr_cluster.proofs.CommandsLemmas.Delta.{delta_agrees}
use Rattle.rr_cluster.proofs.CommandsLemmas.Deliver.{deliver_agrees}
use Rattle.rr_cluster.proofs.CommandsLemmas.Bytes.{bytes_agree}
use Rattle.rr_cluster.proofs.CommandsLemmas.Save.{save_agrees}
use Rattle.rr_cluster.proofs.CommandsLemmas.Load.{load_agrees}
use Rattle.rr_cluster.proofs.CommandsLemmas.Fetch.{fetch_agrees}
use Rattle.rr_cluster.proofs.ScriptLemmas.{commands_are_one_line}
use Rattle.rr_cluster.proofs.StepLemmas.{OfAnswer, Agrees, on_ok-agrees, same_answer, holds_after}

abbrev Step : Type 0
Step = Option (State Knowledge) × List ℕ

-- the state that a command of one line leaves is sound
abbrev LeavesSound : Command → Step → Type 0
LeavesSound command done = IsOneLine command → IfSome done.0 IsSound

abbrev StepAgrees : Command → Result (Option (State Cells) × List ℕ) CommandFault → Result Step CommandFault → Type 0
StepAgrees command = Agrees step_in_cells (LeavesSound command)

refusal_agrees : (command : Command) (fault : CommandFault) → StepAgrees command (Err fault) (Err fault)
unfolding Agrees
refusal_agrees command fault = refl

silently_agrees : (command : Command) (P : State Knowledge → Type 0)
    → ((m : State Knowledge) → P m → IsOneLine command → IsSound m)
    → (r : Result (State Cells) CommandFault) (t : Result (State Knowledge) CommandFault)
    → Agrees in_cells P r t → StepAgrees command (on_ok silently r) (on_ok silently t)
silently_agrees command P holds = on_ok-agrees in_cells P step_in_cells (LeavesSound command) silently silently
    (λ m. refl) holds

printing_agrees : (command : Command) (m : State Knowledge) → IsSound m → (r t : Result (List ℕ) CommandFault)
    → Agrees (λ text. text) (λ text. Unit {0}) r t
    → StepAgrees command (on_ok (printing (in_cells m)) r) (on_ok (printing m) t)
printing_agrees command m sound = on_ok-agrees (λ text. text) (λ text. Unit {0}) step_in_cells (LeavesSound command)
    (printing m) (printing (in_cells m)) (λ text. refl) (λ text u one. sound)

beginning_agrees : (command : Command) (r : Result Layout CommandFault) → OfAnswer IsLayout r
    → StepAgrees command (on_ok beginning r) (on_ok beginning r)
unfolding Agrees OfAnswer
beginning_agrees command (Ok s) is = (
  ap (λ (m : State Cells). Ok (Some m, [])) (first_states_agree s),
  λ one. first_states_are_sound s is,
)
beginning_agrees command (Err fault) is = refl

step_agrees : (m : Option (State Knowledge)) (command : Command) → IfSome m IsSound
    → StepAgrees command (step cell_model (option_map in_cells m) command) (step sample_model m command)
step_agrees None (schema word archives) sound = beginning_agrees (schema word archives) (layout_of word archives)
    (layout_is word archives)
step_agrees None (upgrade archive) sound = refusal_agrees (upgrade archive) _
step_agrees None (node name origin) sound = refusal_agrees (node name origin) _
step_agrees None (now time lead) sound = refusal_agrees (now time lead) _
step_agrees None (write name line) sound = refusal_agrees (write name line) _
step_agrees None (page name at from count) sound = refusal_agrees (page name at from count) _
step_agrees None (delta name giver taker from count) sound = refusal_agrees (delta name giver taker from count) _
step_agrees None (deliver name at) sound = refusal_agrees (deliver name at) _
step_agrees None (bytes name) sound = refusal_agrees (bytes name) _
step_agrees None (save name at) sound = refusal_agrees (save name at) _
step_agrees None (load name at origin) sound = refusal_agrees (load name at origin) _
step_agrees None (fetch name request) sound = refusal_agrees (fetch name request) _
step_agrees (Some m) (schema word archives) sound = refusal_agrees (schema word archives) _
step_agrees (Some m) (upgrade archive) sound = silently_agrees (upgrade archive) IsSound (λ after is one. is) _ _
    (upgrade_agrees m sound archive)
step_agrees (Some m) (node name origin) sound = silently_agrees (node name origin) IsSound (λ after is one. is) _ _
    (node_agrees m sound name origin)
step_agrees (Some m) (now time lead) sound = silently_agrees (now time lead) IsSound (λ after is one. is) _ _
    (now_agrees m sound time lead)
step_agrees (Some m) (write name line) sound = silently_agrees (write name line)
    (λ after. HasNoLineFeed line → IsSound after) (λ after is one. is one) _ _ (write_agrees m sound name line)
step_agrees (Some m) (page name at from count) sound =
    silently_agrees (page name at from count) IsSound (λ after is one. is) _ _ (page_agrees m sound name at from count)
step_agrees (Some m) (delta name giver taker from count) sound =
    silently_agrees (delta name giver taker from count) IsSound (λ after is one. is) _ _
    (delta_agrees m sound name giver taker from count)
step_agrees (Some m) (deliver name at) sound = silently_agrees (deliver name at) IsSound (λ after is one. is) _ _
    (deliver_agrees m sound name at)
step_agrees (Some m) (bytes name) sound = printing_agrees (bytes name) m sound _ _ (bytes_agree m sound name)
step_agrees (Some m) (save name at) sound = silently_agrees (save name at) IsSound (λ after is one. is) _ _
    (save_agrees m sound name at)
step_agrees (Some m) (load name at origin) sound =
    silently_agrees (load name at origin) IsSound (λ after is one. is) _ _ (load_agrees m sound name at origin)
step_agrees (Some m) (fetch name request) sound =
    printing_agrees (fetch name request) m sound _ _ (fetch_agrees m sound name request)

pub commands_agree : CommandsAgree
commands_agree m command sound = same_answer step_in_cells (LeavesSound command) _ _ (step_agrees m command sound)

pub commands_keep_sound : CommandsKeepSound
commands_keep_sound m command sound one = by (step sample_model m command)
    (holds_after step_in_cells (LeavesSound command) (step cell_model (option_map in_cells m) command) _
    (step_agrees m command sound))
  where
    by : (r : Result Step CommandFault) → IfOk r (LeavesSound command) → IfOk r (λ done. IfSome done.0 IsSound)
    by (Ok done) h = h one
    by (Err fault) h = tt

-- ---- scripts

abbrev Line : Type 0
Line = ℕ × Result Command SyntaxFault

abbrev IsLineOfOne : Line → Type 0
IsLineOfOne line = SaysOneLine line.1

line_keeps_sound : (m : Option (State Knowledge)) (number : ℕ) (parsed : Result Command SyntaxFault)
    → SaysOneLine parsed
    → IfSome m IsSound → IfSome (after_line sample_model m number parsed).0 IsSound
line_keeps_sound m number (Err fault) one sound = sound
line_keeps_sound m number (Ok command) one sound =
    by (step sample_model m command) (commands_keep_sound m command sound one)
  where
    by : (r : Result Step CommandFault) → IfOk r (λ done. IfSome done.0 IsSound)
        → IfSome (unless_refused m number r).0 IsSound
    by (Ok done) h = h
    by (Err fault) h = sound

lines_keep_sound : (m : Option (State Knowledge)) (lines : List Line) (count : ℕ) → All IsLineOfOne lines
    → IfSome m IsSound → IfSome (state_after m (take count lines)) IsSound
lines_keep_sound m lines zero one sound = sound
lines_keep_sound m [] (suc count) one sound = sound
lines_keep_sound m (line ∷ lines) (suc count) one sound =
    lines_keep_sound (after_line sample_model m line.0 line.1).0 lines count (All-tail IsLineOfOne line lines one)
    (line_keeps_sound m line.0 line.1 (All-head IsLineOfOne line lines one) sound)

pub scripts_are_sound : ScriptsAreSound
scripts_are_sound script count = lines_keep_sound None (commands_of script) count (commands_are_one_line script) tt

line_agrees : (m : Option (State Knowledge)) (number : ℕ) (parsed : Result Command SyntaxFault) → IfSome m IsSound
    → after_line cell_model (option_map in_cells m) number parsed ≡ step_in_cells
    (after_line sample_model m number parsed)
line_agrees m number (Err fault) sound = refl
line_agrees m number (Ok command) sound = ap (unless_refused (option_map in_cells m) number)
    (commands_agree m command sound) ∙ by (step sample_model m command)
  where
    by : (r : Result Step CommandFault) → unless_refused (option_map in_cells m) number (on_ok step_in_cells r)
        ≡ step_in_cells (unless_refused m number r)
    by (Ok done) = refl
    by (Err fault) = refl

lines_agree : (m : Option (State Knowledge)) (lines : List Line) → All IsLineOfOne lines → IfSome m IsSound
    → output_from cell_model (option_map in_cells m) lines ≡ output_from sample_model m lines
lines_agree m [] one sound = refl
lines_agree m (line ∷ lines) one sound =
    let done = after_line sample_model m line.0 line.1 in
    rw (
      line_agrees m line.0 line.1 sound,
      lines_agree done.0 lines (All-tail IsLineOfOne line lines one)
          (line_keeps_sound m line.0 line.1 (All-head IsLineOfOne line lines one) sound),
    ) refl

pub scripts_agree : ScriptsAgree
scripts_agree script = lines_agree None (commands_of script) (commands_are_one_line script) tt
