-- fetch NODE CF RESOLUTION START END KEY
use Rattle.std.specs.Prelude.{ℕ, List, Result, Ok, Err, ok_or}
use Rattle.std.specs.FinMap.{get}
use Rattle.rr_cells.specs.FetchText.{Request}
use Rattle.rr_fetch.specs.declared.fault.RequestFault.{RequestFault}
use Rattle.rr_fetch.specs.Requests.{read}
use Rattle.rr_fetch.specs.Words.{Parts}
use Rattle.rr_cluster.specs.declared.fault.CommandFault.{CommandFault}
use Rattle.rr_cluster.specs.declared.fault.CommandFault.TheVariants.{NoNode, Fetch}
use Rattle.rr_text.specs.Results.{◌>>=◌}
use Rattle.rr_cluster.specs.Model.{Model}
use Rattle.rr_cluster.specs.State.{State}

-- a request, or its fault
abbrev pub request_of : Result Request RequestFault → Result Request CommandFault
request_of (Ok request) = Ok request
request_of (Err fault) = Err (Fetch fault)

module _ {K : Type 0} (model : Model K) where
  -- the answer that is printed
  unfoldable pub answer_to : State K → List ℕ → Parts → Result (List ℕ) CommandFault
  answer_to m name words = do
    n ← ok_or (get m.nodes name) NoNode
    q ← request_of (read n.schema words)
    Ok (model.answer n.schema n.contents q)
