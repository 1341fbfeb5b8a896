-- How the lines of a fetch connection are answered.
use Rattle.std.specs.Prelude.{◌≡◌, ◌⊎◌, ℕ, ◌==◌, nat_eq, Bool, true, false, List, [], ◌∷◌, ◌++◌, codes, Option, None, Some, Result, Ok, Err, ok_or, drop, option_and_then, IfSome, IfOk, IfErr, OnOk, OnErr, if◌then◌else◌}
use Rattle.std.specs.Cmp.Lexicographic.{pointwise}
use Rattle.std.specs.Io.KnownBytes.{Appends, Consumes}
use Rattle.rr_text.specs.declared.bytes.TheConstants.{LINE_FEED, SPACE}
use Rattle.rr_text.specs.Results.{◌>>=◌}
use Rattle.rr_schema.specs.Schema.{Layout}
use Rattle.rr_io.specs.declared.counted.Counted.{Counted}
use Rattle.rr_io.specs.Counted.{inner_of, is_flushed}
use Rattle.rr_io.specs.Stream.{AppendsPrefix, HasFailed}
use Rattle.rr_text.specs.Text.{cut_at}
use Rattle.rr_feed.specs.Items.{Item, Line, TooLong, items}
use Rattle.rr_cells.specs.FetchText.{Request}
use Rattle.rr_cells.specs.Cells.{Cells}
use Rattle.rr_fetch.specs.declared.fault.RequestFault.{RequestFault}
use Rattle.rr_fetch.specs.declared.fault.RequestFault.TheVariants.{BadCommand}
use Rattle.rr_fetch.specs.Answers.{cells_text}
use Rattle.rr_fetch.specs.Fault.{request_fault_name}
use Rattle.rr_fetch.specs.Requests.{request_of_words}
use Rattle.rr_desk.specs.declared.gate.GateCall.{GateCall}
use Rattle.rr_desk.specs.declared.gate.GateCall.TheVariants.{After, Before}
use Rattle.rr_desk.specs.Gate.{WasAsked}
use Rattle.rr_desk.specs.ReaderState.{ReaderState, HasSeenMore, cells_seen}
use Rattle.rr_gossip.specs.declared.fault.GossipFault.{GossipFault}
use Rattle.rr_gossip.specs.declared.fault.GossipFault.TheVariants as session
use Rattle.rr_gossip.specs.declared.frame.TheConstants.{MAX_FRAMES}
use Rattle.rr_gossip.specs.Session.{HasGiven, HasFailedToGive}
use Rattle.rr_node.specs.declared.fault.NodeFault.{NodeFault}
use Rattle.rr_node.specs.declared.fault.NodeFault.TheVariants.{ReadFailed, Session, TooManyReads}
use Rattle.rr_node.specs.Fault.{IsOfLines, IsInputFault, IsOfSession, of_session_fault}

-- ---- one line

-- what follows the word `fetch` and a space, if a line begins with them
abbrev pub after_fetch : List ℕ → Option (List ℕ)
after_fetch line = option_and_then (λ cut. if pointwise nat_eq cut.0 (codes "fetch") then Some cut.1 else None)
    (cut_at SPACE line)

-- the request of a line `fetch CF RESOLUTION START END KEY`
unfoldable pub request_in : Layout → List ℕ → Result Request RequestFault
request_in s line = ok_or (after_fetch line) BadCommand >>= request_of_words s

-- a fault by its name
abbrev pub by_name : Result Request RequestFault → Result Request (List ℕ)
by_name (Ok q) = Ok q
by_name (Err fault) = Err (request_fault_name fault)

-- what an item asks for, or the name of its refusal
abbrev pub request_of_item : Layout → Item → Result Request (List ℕ)
request_of_item s (Line bytes) = by_name (request_in s bytes)
request_of_item s TooLong = Err (codes "LineTooLong")

-- a refusal
abbrev pub error_text : List ℕ → List ℕ
error_text name = codes "error " ++ name ++ LINE_FEED ∷ []

-- the answer by the cells, and by whether the gate, if it is asked, lets it pass
abbrev pub text_by : Layout → Cells → Bool → Result Request (List ℕ) → List ℕ
text_by s m passes (Err name) = error_text name
text_by s m true (Ok q) = cells_text s m q
text_by s m false (Ok q) = error_text (codes "GateShut")

-- the calls of the gate, which is asked before an answer is made from cells, and told after it
abbrev pub calls_by : Bool → Result Request (List ℕ) → List GateCall
calls_by passes (Err name) = []
calls_by true (Ok q) = Before true ∷ After ∷ []
calls_by false (Ok q) = Before false ∷ []

-- ---- one line after the other

-- a reader, and the calls of its gate, if they are known
pub record ReaderAndGate : Type 0 where
  pub reader : ReaderState
  pub calls : Option (List GateCall)

abbrev pub sight : ReaderState → Option (List GateCall) → ReaderAndGate
sight reader calls = record { reader = reader; calls = calls }

-- what is asked is answered by this text, after the operations that the reader has then seen, which begin with those
-- that it had seen before
pub record IsAnswer (request_of_item : Result Request (List ℕ)) (old new : ReaderAndGate) (text : List ℕ) : Type 0 where
  pub seen : HasSeenMore old.reader new.reader
  pub passes : Bool
  pub by_cells : text ≡ text_by new.reader.schema (cells_seen new.reader) passes request_of_item
  pub asked : WasAsked old.calls new.calls (calls_by passes request_of_item)

-- an item is answered: its answer, and an empty line
pub record IsAnswered (item : Item) (old new : ReaderAndGate) (text : List ℕ) : Type 0 where
  pub answer : List ℕ
  pub made : IsAnswer (request_of_item old.reader.schema item) old new answer
  pub whole : text ≡ answer ++ LINE_FEED ∷ []

-- what is asked is answered by a text, or memory ran out; the reader has seen what it had before, or more
pub record AnswersRequest {X E : Type 0} (view : X → List ℕ) (request : Result Request (List ℕ))
    (old new : ReaderAndGate) (result : Result X E) : Type 0 where
  pub seen : HasSeenMore old.reader new.reader
  pub answered : IfOk result (λ text. IsAnswer request old new (view text))

-- an item is answered so, with an empty line
pub record AnswersItem {X E : Type 0} (view : X → List ℕ) (item : Item) (old new : ReaderAndGate) (result : Result X E)
    : Type 0 where
  pub seen : HasSeenMore old.reader new.reader
  pub answered : IfOk result (λ text. IsAnswered item old new (view text))

-- items are answered in order
abbrev pub AreAnswered : List Item → ReaderAndGate → ReaderAndGate → List ℕ → Type 0
AreAnswered [] old new text = (new ≡ old) × (text ≡ [])
AreAnswered (item ∷ later) old new text =
    (mid : ReaderAndGate) × (first rest : List ℕ) × IsAnswered item old mid first × AreAnswered later mid new rest
    × (text ≡ first ++ rest)

-- ---- a whole connection

-- whether these bytes begin a session in which the other side pulls
abbrev pub is_pull : List ℕ → Bool
is_pull [] = false
is_pull (byte ∷ bytes) = byte == 0

-- the answers to all lines of these bytes were written; the last line may lack its line feed if they have ended
pub record HasAnswered (ended : Bool) (bytes : List ℕ) (old new : ReaderAndGate) (before after : Option (List ℕ)) : Type
    0 where
  pub text : List ℕ
  pub answered : AreAnswered (items ended bytes) old new text
  pub written : Appends before after text

-- those to all lines that came whole were, in these bytes and those that were taken from the input
abbrev pub HasAnsweredTaken : List ℕ → Option (List ℕ) → Option (List ℕ) → ReaderAndGate → ReaderAndGate
    → Option (List ℕ) → Option (List ℕ) → Type 0
HasAnsweredTaken bytes had left old new before after =
    (taken : List ℕ) × Consumes had left taken × HasAnswered false (bytes ++ taken) old new before after

-- a prefix of the answers to the first lines of these bytes was written, after which the reader may have seen more
pub record HasAnsweredSome (bytes : List ℕ) (old : ReaderAndGate) (new : ReaderState)
    (before after : Option (List ℕ)) : Type 0 where
  pub first : List Item
  pub later : List Item
  pub cut : items true bytes ≡ first ++ later
  pub last : ReaderAndGate
  pub seen : HasSeenMore last.reader new
  pub text : List ℕ
  pub answered : AreAnswered first old last text
  pub written : AppendsPrefix before after text

-- giving failed in a session, after its first byte
abbrev pub HasFailedSession : Layout → Cells → Option (List ℕ) → Option (List ℕ) → Option (List ℕ) → Option (List ℕ)
    → NodeFault → Type 0
HasFailedSession s m had left before after fault =
    (why : GossipFault) × (fault ≡ of_session_fault why)
    × HasFailedToGive MAX_FRAMES s m (0 ∷ []) had left before after why

-- a session in which the other side pulls was given, after its first byte; or it failed, and the result says why
pub record GivesSession {R W X : Type 0} (remaining : R → Option (List ℕ)) (contents : W → Option (List ℕ))
    (old new : ReaderState) (input input_new : Counted R) (output output_new : Counted W) (result : Result X NodeFault)
    : Type 0 where
  pub given : OnOk result (HasGiven MAX_FRAMES old.schema (cells_seen new) (0 ∷ []) (remaining (inner_of input))
      (remaining (inner_of input_new)) (contents (inner_of output)) (contents (inner_of output_new)))
  pub stopped : IfErr result (HasFailedSession old.schema (cells_seen new) (remaining (inner_of input))
      (remaining (inner_of input_new)) (contents (inner_of output)) (contents (inner_of output_new)))
  pub seen : HasSeenMore old new
  pub flushed : OnOk result (is_flushed output_new ≡ true)
  pub faults : IfErr result IsOfSession
  pub read_failed : result ≡ Err (Session session.ReadFailed) → HasFailed input input_new
  pub write_failed : result ≡ Err (Session session.WriteFailed) → HasFailed output output_new

-- a session in which the other side pulls was not answered: its first byte was not read, or giving failed
abbrev pub HasNotGiven : NodeFault → Layout → Cells → List ℕ → Option (List ℕ) → Option (List ℕ) → Option (List ℕ)
    → Type 0
HasNotGiven fault s m bytes left before after =
    (((fault ≡ ReadFailed) ⊎ (fault ≡ TooManyReads)) × (after ≡ before))
    ⊎ HasFailedSession s m (Some (drop 1 bytes)) left before after fault

-- What a call that serves a connection does, by what it returns. Of the input there is what it had and what is left; of
-- the output, what was written before and after. Each line is answered before the next read: so all were when a read
-- fails, or when no more may be made.
pub record IsServed {X : Type 0} (result : Result X NodeFault) (had left before after : Option (List ℕ))
    (old new : ReaderAndGate) : Type 0 where
  pub seen : HasSeenMore old.reader new.reader
  pub answered : OnOk result (IfSome had (λ bytes. is_pull bytes ≡ false → HasAnswered true bytes old new before after))
  pub prefix : OnErr result (IfSome had (λ bytes. is_pull bytes ≡ false
      → HasAnsweredSome bytes old new.reader before after))
  pub at_once : IfErr result (λ fault. IsInputFault fault → IfSome had (λ bytes. is_pull bytes ≡ false
      → HasAnsweredTaken [] had left old new before after))
  pub faults : IfErr result (λ fault. IfSome had (λ bytes. is_pull bytes ≡ false → IsOfLines fault))
  pub given : OnOk result (IfSome had (λ bytes. is_pull bytes ≡ true
      → HasGiven MAX_FRAMES old.reader.schema (cells_seen new.reader) (0 ∷ []) (Some (drop 1 bytes)) left before after))
  pub stopped : IfErr result (λ fault. IfSome had (λ bytes. is_pull bytes ≡ true
      → HasNotGiven fault old.reader.schema (cells_seen new.reader) bytes left before after))
