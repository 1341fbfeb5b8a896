-- Sessions that any two sides can have.
use Rattle.std.proofs.Common.{inl, inr, ℕ, ◌+◌, ◌≤◌, length, List, [], refl, sym, subst, Some, arith}
use Rattle.std.specs.List.{All, AllByRecursion, concat}
use Rattle.std.specs.FinMap.{entries, entries_sorted, is_sorted}
use Rattle.std.proofs.lemmas.List.{append-nil}
use Rattle.std.proofs.lemmas.List.Elements.{All-from_recursion, recursion_from_All}
use Rattle.rr_schema.specs.Schema.{Layout, IsLayout}
use Rattle.rr_join.proofs.Booleans.{true_from_T}
use Rattle.rr_cells.specs.CellNames.{cell_name_cmp}
use Rattle.rr_cells.specs.CellBounds.{IsCellOf}
use Rattle.rr_cells.specs.Cells.{Cells}
use Rattle.rr_delta.specs.Difference.{IsSummary}
use Rattle.rr_delta.specs.Names.{IsNameOf, NamedVersion, versions_of}
use Rattle.rr_delta.proofs.DifferenceLemmas.{newer_held, newer_sorted}
use Rattle.rr_delta.proofs.HeldLemmas.{named_all}
use Rattle.rr_delta.proofs.Walks.{sorted_versions}
use Rattle.rr_gossip.specs.declared.fault.GossipFault.TheVariants.{Ended}
use Rattle.rr_gossip.specs.declared.giver.Giver.{Giver}
use Rattle.rr_gossip.specs.declared.giver.Stage.TheVariants.{Giving}
use Rattle.rr_gossip.specs.declared.puller.Stage.TheVariants.{Done}
use Rattle.rr_gossip.specs.Giver.{first_giver}
use Rattle.rr_gossip.specs.Pages.{AreLeft}
use Rattle.rr_gossip.specs.Session.{HasHeard, HasPulled, HasStoppedPulling, sent_by, replied_by}
use Rattle.rr_gossip.specs.Stream.{IsFrame, WasRead}
use Rattle.rr_gossip.specs.Transcript.{frames_of_names, reply, waiting}
use Rattle.rr_gossip.proofs.JoinedLemmas.{pullers_take}
use Rattle.rr_gossip.proofs.OnceLemmas.{reply_are, sent_are}
use Rattle.rr_gossip.proofs.ReadLemmas.{none_taken, nothing_read}
use Rattle.rr_gossip.proofs.StreamLemmas.{frame_short}
use Rattle.rr_gossip.proofs.TakenLemmas.{givers_take}
use Rattle.rr_nodes.specs.Sessions.{lacking, IsSession, IsCutSession, SidesHaveASession, SidesHaveACutSession}

-- frames that are all of a stream
read_whole : (frames : List (List ℕ)) → AllByRecursion IsFrame frames
    → WasRead [] (Some (concat frames)) (Some []) frames []
read_whole frames each = record {
  bytes = concat frames;
  consumed = sym (append-nil (concat frames));
  cut = sym (append-nil (concat frames));
  each = All-from_recursion IsFrame frames each;
}

module _ (s : Layout) (had given : Cells) (is : IsLayout s) (each : All (IsCellOf s) (entries had))
    (each_given : All (IsCellOf s) (entries given)) where
  abbrev names : List NamedVersion
  names = versions_of had

  all_named : All (IsNameOf s) names
  all_named = All-from_recursion (IsNameOf s) names
      (named_all s (entries had) (recursion_from_All (IsCellOf s) (entries had) each))

  ascend : IsSummary names
  ascend = true_from_T (is_sorted cell_name_cmp names) (sorted_versions (entries had) (entries_sorted had))

  due : AreLeft (s, lacking given had)
  due = record {
    cells = All-from_recursion (IsCellOf s) (lacking given had) (newer_held s names (entries given)
        (recursion_from_All (IsCellOf s) (entries given) each_given));
    names_ascend =
        true_from_T (is_sorted cell_name_cmp (lacking given had))
        (newer_sorted names (entries given) (entries_sorted given));
  }

  abbrev sent : List (List ℕ)
  sent = frames_of_names s names

  abbrev pages : List (List ℕ)
  pages = reply s (lacking given had)

  abbrev limit : ℕ
  limit = length sent + length pages

  few : length pages ≤ limit
  few = omega arith

  abbrev last : Giver
  last = record { stage = Giving (s, lacking given had); sent = 0; taken = length sent; limit = limit }

  heard : HasHeard s given (first_giver limit) last [] (Some (concat sent)) (Some [])
  heard = record {
    frames = sent;
    read = read_whole sent (sent_are s is names all_named);
    taken =
        givers_take s given names limit is all_named ascend (omega arith);
    names = names;
    giving = refl;
    fits = due;
  }

  pulled : (n : ℕ) → HasPulled s (waiting n 0 (length pages)) (Some (concat pages)) (Some []) (lacking given had)
  pulled n = record {
    frames = pages;
    read = read_whole pages (reply_are s is (lacking given had) due);
    last = record { stage = Done; sent = n; taken = 0 + length pages; limit = length pages };
    taken = pullers_take s [] (lacking given had) n 0 (length pages) is due (omega arith);
    done = refl;
  }

  session : IsSession s had given (lacking given had)
  unfolding sent_by replied_by heard
  session = record {
    before = [];
    heard = concat sent;
    more_heard = [];
    is_sent = sym (append-nil (concat sent));
    answer = concat pages;
    limit_given = limit;
    left_given = Some [];
    gave = record { last = last; heard = heard; few = few; replied = refl };
    more = [];
    limit = length pages;
    left = Some [];
    pulled =
        subst (λ (l : List ℕ). HasPulled s (waiting (length sent) 0 (length pages)) (Some l) (Some [])
        (lacking given had))
        (sym (append-nil (concat pages))) (pulled (length sent));
  }

  -- nothing came
  stopped : (n : ℕ) → HasStoppedPulling s (waiting n 0 (length pages)) (Some []) (Some []) Ended []
  stopped n = record {
    frames = [];
    piece = [];
    read = nothing_read [] (Some []);
    last = waiting n 0 (length pages);
    pages = [];
    taken = none_taken s (waiting n 0 (length pages)) [];
    stopped =
        inl (record {
          nothing_behind = λ i. (frame_short [] (omega arith) i).1;
          why = inr (inr (λ i. (frame_short [] (omega arith) i).0));
        });
    joined = inl refl;
  }

  cut_session : IsCutSession s had given []
  unfolding sent_by replied_by heard
  cut_session = record {
    before = [];
    heard = concat sent;
    more_heard = [];
    is_sent = sym (append-nil (concat sent));
    limit_given = limit;
    left_given = Some [];
    last = last;
    hears = heard;
    came = [];
    lost = concat pages;
    more = [];
    is_answer = sym (append-nil (concat pages));
    limit = length pages;
    left = Some [];
    fault = Ended;
    stopped = stopped (length sent);
  }

pub sides_have_a_session : SidesHaveASession
sides_have_a_session s had given is each each_given = session s had given is each each_given

pub sides_have_a_cut_session : SidesHaveACutSession
sides_have_a_cut_session s had given is each each_given = cut_session s had given is each each_given
