-- A command with its words, and the command of an event in memory.
use Rattle.std.specs.Prelude.{ℕ, ◌+◌, List, [], length, Option, None, Some}
use Rattle.std.specs.Borrow.{Bor}
use Rattle.rr_text.specs.Bytes.{HasNoLineFeed}
use Rattle.rr_fetch.specs.Words.{Parts, parts}
use Rattle.rr_cluster.specs.declared.script.event.Event.{Event}
use Rattle.rr_cluster.specs.declared.script.event.Event.TheVariants as event
use Rattle.rr_cluster.specs.ScriptWords.{words_of}

pub data Command : Type 0 where
  schema : (step : List ℕ) (archives : List (List ℕ)) → Command
  upgrade : (archive : List ℕ) → Command
  node : (name origin : List ℕ) → Command
  now : (time : List ℕ) (lead : Option (List ℕ)) → Command
  write : (node line : List ℕ) → Command
  page : (name node from count : List ℕ) → Command
  delta : (name giver taker from count : List ℕ) → Command
  deliver : (name node : List ℕ) → Command
  bytes : (name : List ℕ) → Command
  save : (name node : List ℕ) → Command
  load : (name node origin : List ℕ) → Command
  fetch : (node : List ℕ) (request : Parts) → Command

-- the words of the archives, if there are any
abbrev pub archive_words : Option (Bor (List ℕ)) → List (List ℕ)
archive_words None = []
archive_words (Some words) = words_of words.now

-- how many bytes are left of the words of the archives, and one more if there are words
abbrev pub bytes_left : Option (Bor (List ℕ)) → ℕ
bytes_left None = 0
bytes_left (Some words) = length words.now + 1

-- a word, if there is one
abbrev pub word_of : Option (Bor (List ℕ)) → Option (List ℕ)
word_of None = None
word_of (Some word) = Some word.now

-- the command of an event
abbrev pub view_of : Event → Command
view_of (event.Schema step archives) = schema step.now (archive_words archives)
view_of (event.Upgrade archive) = upgrade archive.now
view_of (event.Node name origin) = node name.now origin.now
view_of (event.Now time lead) = now time.now (word_of lead)
view_of (event.Write name line) = write name.now line.now
view_of (event.Page name at from count) = page name.now at.now from.now count.now
view_of (event.Delta name giver taker from count) = delta name.now giver.now taker.now from.now count.now
view_of (event.Deliver name at) = deliver name.now at.now
view_of (event.Bytes name) = bytes name.now
view_of (event.Save name at) = save name.now at.now
view_of (event.Load name at origin) = load name.now at.now origin.now
view_of (event.Fetch name request) = fetch name.now (parts request)

-- the line of a write is one line
abbrev pub IsOneLine : Command → Type 0
IsOneLine (write name line) = HasNoLineFeed line
IsOneLine command = Unit {0}
