-- fetch NODE CF RESOLUTION START END KEY
use Rattle.std.proofs.Common.{◌≡◌, inl, inr, ℕ, List, None, Some, Result, Ok, Err, refl, sym, ap, subst, ◌∙◌}
use Rattle.std.specs.FinMap as map
use Rattle.rr_archive.specs.declared.archive.Cells.{Ghosts}
use Rattle.rr_fetch.specs.Answers.{cells_text}
use Rattle.rr_fetch.specs.Requests.{read}
use Rattle.rr_fetch.specs.Words.{Parts}
use Rattle.rr_fetch.specs.declared.fault.RequestFault.{RequestFault}
use Rattle.rr_fetch.specs.declared.fault.RequestFault.TheVariants.{Memory}
use Rattle.rr_fetch.proofs.RowLaws.{answer_of_state}
use Rattle.rr_cells.specs.FetchText.{Request}
use Rattle.rr_cells.specs.Knowledge.{Knowledge}
use Rattle.rr_cells.specs.Cells.{Cells}
use Rattle.rr_replica.specs.ReplicaWithRoom.{ReplicaWithRoom}
use Rattle.rr_cluster.specs.declared.cluster.Cluster.{Cluster}
use Rattle.rr_cluster.specs.declared.fault.CommandFault.{CommandFault}
use Rattle.rr_cluster.specs.declared.fault.CommandFault.TheVariants.{NoNode, Fetch}
use Rattle.rr_cluster.specs.declared.stop.Stop.{Stop}
use Rattle.rr_cluster.specs.Agreement.{in_cells, node_in_cells}
use Rattle.rr_text.specs.Results.{◌>>=◌, GivesUnless}
use Rattle.rr_cluster.specs.Commands.Fetch.{request_of, answer_to}
use Rattle.rr_cluster.specs.Meaning.{node_in, replica_at, Represents}
use Rattle.rr_cluster.specs.Model.{Model, cell_model, sample_model}
use Rattle.rr_cluster.specs.Soundness.{IsSound}
use Rattle.rr_cluster.specs.State.{Node, State}
use Rattle.rr_cluster.specs.Stop.{Gives, IsStopOf}
use Rattle.rr_cluster.proofs.CommandsLemmas.Write.{layout_at}
use Rattle.rr_cluster.proofs.MeaningLemmas.{node_at}
use Rattle.rr_cluster.proofs.StepLemmas.{Agrees, then_agree, found_agree, done_agrees}

-- ---- check by check

module _ {K : Type 0} (model : Model K) (m : State K) (name : List ℕ) (words : Parts) where
  pub no_node : map.get m.nodes name ≡ None → answer_to model m name words ≡ Err NoNode
  unfolding answer_to
  no_node e = rw e refl

  answer_of_node : (n : Node K) → map.get m.nodes name ≡ Some n
      → answer_to model m name words ≡ (request_of (read n.schema words) >>= λ q. Ok
      (model.answer n.schema n.contents q))
  unfolding answer_to
  answer_of_node n e = rw e refl

-- ---- what a replica answers

-- what follows a request that is read, or refused
abbrev answered : ReplicaWithRoom → Result Request RequestFault → Result (List ℕ) CommandFault
answered h parsed = request_of parsed >>= λ q. Ok (cells_text h.schema h.cells q)

refused : {X : Type 0} (view : X → Request) (h : ReplicaWithRoom) (fault : RequestFault) (stop : Stop)
    (parsed : Result Request RequestFault)
    → GivesUnless Memory view (Err fault) parsed → IsStopOf Memory Fetch fault stop
    → Gives {A = List ℕ} (λ text. text) (Err stop) (answered h parsed)
refused view h fault stop parsed due (inl memory) = rw memory.1 tt
refused view h fault stop parsed (inl memory) (inr other) = absurd (other.0 memory)
refused view h fault stop parsed (inr due) (inr other) = rw (other.1, due) refl

module _ {A : Type 0} {g : Ghosts A} (c : Cluster A g) (m : State Cells) (is : Represents c m) (name : List ℕ)
    (words : Parts) (h : ReplicaWithRoom) (here : Some h ≡ replica_at c.nodes name) where
  answer : answer_to cell_model m name words ≡ answered h (read h.schema words)
  answer = answer_of_node cell_model m name words (node_in h) (node_at c m is name (Some h) (sym here))

  pub fetch_refused : {X : Type 0} (view : X → Request) (fault : RequestFault) (stop : Stop)
      → GivesUnless Memory view (Err fault) (read h.schema words) → IsStopOf Memory Fetch fault stop
      → Gives {A = List ℕ} (λ text. text) (Err stop) (answer_to cell_model m name words)
  fetch_refused view fault stop due stopped =
      subst (Gives {A = List ℕ} (λ text. text) (Err stop)) (sym answer)
      (refused view h fault stop (read h.schema words) due stopped)

  pub fetch_answered : (q : Request) → read h.schema words ≡ Ok q → (text : List ℕ)
      → text ≡ cells_text h.schema h.cells q → answer_to cell_model m name words ≡ Ok text
  fetch_answered q parsed text written = answer ∙ ap (answered h) parsed ∙ ap (λ (t : List ℕ). Ok t) (sym written)

-- ---- the models agree

pub fetch_agrees : (m : State Knowledge) → IsSound m → (name : List ℕ) (words : Parts)
    → Agrees (λ text. text) (λ text. Unit {0}) (answer_to cell_model (in_cells m) name words)
    (answer_to sample_model m name words)
unfolding answer_to
fetch_agrees m sound name words =
    found_agree (λ text. text) (λ text. Unit {0}) node_in_cells m.nodes name NoNode _ _
    (λ n here. then_agree (λ text. text) (λ text. Unit {0}) (request_of (read n.schema words)) _ _ (λ q parsed.
    done_agrees (λ text. text) (λ text. Unit {0}) _ _
    (answer_of_state n.schema (layout_at m sound name n here) n.contents q) tt))
