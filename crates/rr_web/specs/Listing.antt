-- The keys of series that a query asks for, and its reply.
use Rattle.std.specs.Prelude.{◌≡◌, ℕ, ◌≤◌, ◌⊎◌, List, [], ◌∷◌, ◌++◌, codes, filter, length, take, Option, Some, Result, Ok, Err, true}
use Rattle.std.specs.FinMap.{entries}
use Rattle.std.specs.List.{flat_map}
use Rattle.rr_desk.specs.ReaderState.{HasSeenMore, ReaderState, cells_seen}
use Rattle.rr_replica.specs.Keys.{keys_after}
use Rattle.rr_web.specs.declared.listing.TheConstants.{PIECE}
use Rattle.rr_web.specs.declared.reply.Status.TheVariants as status
use Rattle.rr_web.specs.declared.reply.Kind.TheVariants.{Plain}
use Rattle.rr_web.specs.declared.series.CountFault.{CountFault}
use Rattle.rr_web.specs.Answers.{refusal_text}
use Rattle.rr_web.specs.Query.{parameter_of}
use Rattle.rr_web.specs.Reply.{ReplyView, reply_of}
use Rattle.rr_web.specs.Series.{IsNoKey, begins_with, count_fault_text, count_in, is_past, line_of, prefix_of}

-- the next keys after one, by what a reader has seen
abbrev pub piece_of : ReaderState → Option (List ℕ) → List (List ℕ)
piece_of reader after = keys_after after PIECE (entries (cells_seen reader))

-- keys that a reader gives after one, piece by piece, up to where it then stands, with the last of them: each piece is
-- of no less than it had seen before
pub data Gives : ReaderState → Option (List ℕ) → List (List ℕ) → ReaderState → Option (List ℕ) → Type 0 where
  begun : (old : ReaderState) (first : Option (List ℕ)) → Gives old first [] old first
  goes_on : (old now next : ReaderState) (first after : Option (List ℕ)) (keys before : List (List ℕ)) (last : List ℕ)
      → Gives old first keys now after → HasSeenMore now next → piece_of next after ≡ before ++ last ∷ []
      → Gives old first (keys ++ (before ++ last ∷ [])) next (Some last)

-- as many of these keys as are wanted begin with a prefix, or no other key follows, or none that begins with it
abbrev pub IsWhole : List ℕ → ℕ → List (List ℕ) → ReaderState → Option (List ℕ) → Type 0
IsWhole prefix count keys reader after =
    (count ≤ length (filter (begins_with prefix) keys))
    ⊎ ((piece_of reader after ≡ []) ⊎ ((last : List ℕ) × (after ≡ Some last) × (is_past prefix last ≡ true)))

-- the lines of the first keys after one that begin with a prefix, looked for piece by piece
pub record ListsPrefix (prefix : List ℕ) (first : Option (List ℕ)) (count : ℕ) (old new : ReaderState) (text : List ℕ) : Type 0 where
  pub keys : List (List ℕ)
  pub now : ReaderState
  pub after : Option (List ℕ)
  pub given : Gives old first keys now after
  pub seen : HasSeenMore now new
  pub whole : IsWhole prefix count keys new after
  pub lines : text ≡ flat_map line_of (take count (filter (begins_with prefix) keys))

-- the lines of the first keys after one that begin with a prefix; every key begins with the empty one
abbrev pub IsListing : List ℕ → Option (List ℕ) → ℕ → ReaderState → ReaderState → List ℕ → Type 0
IsListing [] after count old new text = text ≡ flat_map line_of (keys_after after count (entries (cells_seen new)))
IsListing (byte ∷ prefix) after count old new text = ListsPrefix (byte ∷ prefix) after count old new text

-- the reply with the keys after one
pub record IsKeysReply (query : List ℕ) (after : Option (List ℕ)) (count : ℕ) (old new : ReaderState) (reply : ReplyView) : Type 0 where
  pub status_is : reply.status ≡ status.Ok
  pub kind_is : reply.kind ≡ Plain
  pub lines : IsListing (prefix_of query) after count old new reply.text

abbrev pub IsRefused : List ℕ → ReplyView → Type 0
IsRefused fault reply = reply ≡ reply_of status.BadRequest Plain (refusal_text fault)

-- the same; or a refusal, if what is named as the key isn't one
abbrev pub IsReplyBehind : List ℕ → Option (List ℕ) → ℕ → ReaderState → ReaderState → ReplyView → Type 0
IsReplyBehind query after count old new reply =
    IsKeysReply query after count old new reply
    ⊎ (IsNoKey after × IsRefused (codes "BadKey: after must be a key text, its tags in order") reply)

-- the same, if the count isn't refused
abbrev pub IsCountedReply : List ℕ → Result ℕ CountFault → ReaderState → ReaderState → ReplyView → Type 0
IsCountedReply query (Err fault) old new reply = IsRefused (count_fault_text fault) reply
IsCountedReply query (Ok count) old new reply =
    IsReplyBehind query (parameter_of query (codes "after")) count old new reply

abbrev pub IsSeriesReply : List ℕ → ReaderState → ReaderState → ReplyView → Type 0
IsSeriesReply query old new reply = IsCountedReply query (count_in (parameter_of query (codes "count"))) old new reply
