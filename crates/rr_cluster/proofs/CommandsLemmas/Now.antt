-- now T [LEAD]
use Rattle.std.proofs.Common.{◌≡◌, ℕ, ℤ, List, Option, Result, Ok, Err, refl, sym, ap, ◌∙◌}
use Rattle.rr_archive.specs.declared.archive.Cells.{Ghosts}
use Rattle.rr_cells.specs.Knowledge.{Knowledge}
use Rattle.rr_cells.specs.Cells.{Cells}
use Rattle.rr_cluster.specs.declared.cluster.Cluster.{Cluster}
use Rattle.rr_cluster.specs.declared.fault.CommandFault.{CommandFault}
use Rattle.rr_cluster.specs.Agreement.{in_cells}
use Rattle.rr_cluster.specs.Commands.Now.{after_now}
use Rattle.rr_cluster.specs.Meaning.{Represents}
use Rattle.rr_cluster.specs.Soundness.{IsSound}
use Rattle.rr_cluster.specs.State.{State}
use Rattle.rr_cluster.specs.Words.{moment_of, lead_of}
use Rattle.rr_cluster.proofs.LimitLemmas.{moment_fits}
use Rattle.rr_cluster.proofs.StepLemmas.{Agrees, then_agree, done_agrees}

-- ---- check by check

module _ {K : Type 0} (m : State K) (time : List ℕ) (lead : Option (List ℕ)) where
  pub bad_time : (fault : CommandFault) → Err fault ≡ moment_of time → after_now m time lead ≡ Err fault
  unfolding after_now
  bad_time fault e = rw (sym e) refl

  module _ (clock : ℤ) (is : Ok clock ≡ moment_of time) where
    pub bad_lead : (fault : CommandFault) → Err fault ≡ lead_of m.lead lead → after_now m time lead ≡ Err fault
    unfolding after_now
    bad_lead fault e = rw (sym is, sym e) refl

    pub clock_is_set : (most : Option ℕ) → Ok most ≡ lead_of m.lead lead
        → after_now m time lead ≡ Ok (record m { clock = clock; lead = most })
    unfolding after_now
    clock_is_set most e = rw (sym is, sym e) refl

-- ---- the cluster with the clock

module _ {A : Type 0} {g : Ghosts A} (old : Cluster A g) (m : State Cells) (is : Represents old m) where
  pub lead_read : (word : Option (List ℕ)) (r : Result (Option ℕ) CommandFault) → r ≡ lead_of old.lead word
      → r ≡ lead_of m.lead word
  lead_read word r e = e ∙ ap (λ (before : Option ℕ). lead_of before word) is.lead

  pub represents_with_clock : (new : Cluster A g) (clock : ℤ) (lead : Option ℕ) → new.schema ≡ old.schema
      → new.clock ≡ clock → new.lead ≡ lead → new.nodes ≡ old.nodes → new.pages ≡ old.pages
      → new.snapshots ≡ old.snapshots → new.origins ≡ old.origins
      → Represents new (record m { clock = clock; lead = lead })
  represents_with_clock new clock lead schema is_clock is_lead nodes pages snapshots origins = record {
    schema = schema ∙ is.schema;
    clock = is_clock;
    lead = is_lead;
    nodes = λ name. rw nodes (is.nodes name);
    shared = λ name h. rw (nodes, schema) (is.shared name h);
    pages = λ name. rw pages (is.pages name);
    are_pages = is.are_pages;
    snapshots = λ name. rw snapshots (is.snapshots name);
    are_kept = is.are_kept;
    origins = λ origin. rw origins (is.origins origin);
  }

-- ---- the models agree

pub now_agrees : (m : State Knowledge) → IsSound m → (time : List ℕ) (lead : Option (List ℕ))
    → Agrees in_cells IsSound (after_now (in_cells m) time lead) (after_now m time lead)
unfolding after_now
now_agrees m sound time lead =
    then_agree in_cells IsSound (moment_of time) _ _
    (λ clock is. then_agree in_cells IsSound (lead_of m.lead lead) _ _ (λ most read.
    done_agrees in_cells IsSound _ _ refl (record {
      layout = sound.layout;
      clock = moment_fits time clock is;
      shared = sound.shared;
      nodes = sound.nodes;
      pages = sound.pages;
      snapshots = sound.snapshots;
      apart = sound.apart;
      used = sound.used;
      origins = sound.origins;
      written = sound.written;
      samples = sound.samples;
    })))
