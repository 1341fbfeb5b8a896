-- The laws of parts.
use Rattle.std.specs.Prelude.{◌≡◌, ℕ, zero, suc, ◌+◌, ◌-◌, ◌^◌, ◌<◌, ◌≤◌, List, [], ◌∷◌, ◌++◌, length, drop, take, Option, None, Result, Ok}
use Rattle.std.specs.FinMap.{empty}
use Rattle.std.specs.List.{flat_map}
use Rattle.rr_text.specs.Results.{◌>>=◌}
use Rattle.rr_schema.specs.Schema.{IsLayout, Layout}
use Rattle.rr_cells.specs.CellBounds.{NamedCell}
use Rattle.rr_cells.specs.Cells.{Cells, IsTrimmed}
use Rattle.rr_cells.specs.Joins.{join_cells}
use Rattle.rr_journal.specs.declared.cursor.Cursor.{Cursor}
use Rattle.rr_journal.specs.Body.{Meaning}
use Rattle.rr_journal.specs.Cursor.{behind_all}
use Rattle.rr_journal.specs.Text.{AllFit, Raw, chain, record_len, records_len, records_text, whole_within}
use Rattle.rr_recovery.specs.Found.{end_after, last_end}
use Rattle.rr_recovery.specs.Laws.{Holds, meanings_of}
use Rattle.rr_replication.specs.declared.fault.PartFault.{PartFault}
use Rattle.rr_replication.specs.Files.{bytes_of, offsets}
use Rattle.rr_replication.specs.Part.{part_from}
use Rattle.rr_replication.specs.Reading.{PeerState, after_part, with_records}

-- ---- what is read

-- a part of the text of records that holds the first one whole is taken, if each whole one means something: the peer is
-- then past the whole ones, and has their cells
abbrev pub PartsAreTaken : Type 0
PartsAreTaken =
    (s : Layout) (x : PeerState) (r : Raw) (rs : List Raw) (len : ℕ) (ms : List Meaning) → AllFit (r ∷ rs)
    → record_len r ≤ len → meanings_of s (whole_within len (r ∷ rs)) ≡ Ok ms
    → after_part s x (take len (records_text x.place.digest (r ∷ rs)))
    ≡ Ok (with_records x (whole_within len (r ∷ rs)) ms)

-- after parts of a text that begins at an offset: each from the peer's place on, with at most the next of these lengths
abbrev pub after_parts : Layout → PeerState → ℕ → List ℕ → List ℕ → Result PeerState PartFault
after_parts s x begin text [] = Ok x
after_parts s x begin text (len ∷ lens) =
    after_part s x (take len (drop (x.place.offset - begin) text)) >>= λ y. after_parts s y begin text lens

-- a peer has read these records: it is past them, and has the cells of what they mean
pub record HasRead (s : Layout) (x y : PeerState) (rs : List Raw) : Type 0 where
  pub meanings : List Meaning
  pub read : meanings_of s rs ≡ Ok meanings
  pub state : y ≡ with_records x rs meanings

-- a peer has read a prefix of these records, and no others; all of them, if it is where they end
pub record HasReadSome (s : Layout) (x y : PeerState) (rs : List Raw) : Type 0 where
  pub first : List Raw
  pub later : List Raw
  pub parts : rs ≡ first ++ later
  pub read : HasRead s x y first
  pub all : y.place.offset ≡ x.place.offset + records_len rs → first ≡ rs

-- a peer that reads parts of the text of records, one after the other, has read the records up to its place, wherever
-- the parts end
abbrev pub PartsBringTheRecords : Type 0
PartsBringTheRecords =
    (s : Layout) (x y : PeerState) (rs : List Raw) (lens : List ℕ) → AllFit rs
    → x.place.offset + records_len rs < 2 ^ 64
    → after_parts s x x.place.offset (records_text x.place.digest rs) lens ≡ Ok y → HasReadSome s x y rs

-- ---- what is given and read

-- the records of a journal's files
abbrev pub all_records : List (List Raw) → List Raw
all_records files = flat_map (λ rs. rs) files

-- the bytes of each file, chained to the digest of the record before it
abbrev pub texts : List ℕ → List (List Raw) → List (List ℕ)
texts before [] = []
texts before (rs ∷ files) = records_text before rs ∷ texts (chain before rs) files

-- each file but the last has a record
abbrev pub HaveRecords : List (List Raw) → Type 0
HaveRecords [] = Unit {0}
HaveRecords (rs ∷ []) = Unit {0}
HaveRecords (rs ∷ (next ∷ files)) = (1 ≤ length rs) × HaveRecords (next ∷ files)

-- after a peer has asked a node this many times, each time from its place on
abbrev pub follow : ℕ → Layout → ℕ → List (List ℕ) → ℕ → PeerState → Result PeerState PartFault
follow zero s begin files end x = Ok x
follow (suc n) s begin files end x =
    after_part s x (bytes_of begin files (part_from (offsets begin files) end x.place.offset))
    >>= λ y. follow n s begin files end y

-- a peer that has read some of a node's records is refused none of the parts that the node gives it, if the others mean
-- something; once it has asked as often as there are others, it is past them, and has their cells
abbrev pub PeersCatchUp : Type 0
PeersCatchUp =
    (s : Layout) (begin : Cursor) (files : List (List Raw)) (done others : List Raw) (x : PeerState) (ms : List Meaning)
    → AllFit (all_records files) → HaveRecords files → all_records files ≡ done ++ others
    → begin.offset + records_len (all_records files) < 2 ^ 64 → x.place ≡ behind_all begin done
    → meanings_of s others ≡ Ok ms
    → follow (length others) s begin.offset (texts begin.digest files)
    (begin.offset + records_len (all_records files)) x ≡ Ok (with_records x others ms)

-- ---- what is joined

-- a map that cells are joined to holds all that they make alone: so a peer that joins what it has read of a node holds
-- all that these records say
abbrev pub WhatIsJoinedIsHeld : Type 0
WhatIsJoinedIsHeld =
    (s : Layout) (m : Cells) (es : List NamedCell) → IsLayout s → IsTrimmed s m
    → Holds s (join_cells s m es) (join_cells s empty es)

-- ---- where a checkpoint ends

-- the number of an end counts only if that is the last record, whatever comes before; and what the records of one part
-- after the other state last is what all of them do
abbrev pub OnlyTheLastEnds : Type 0
OnlyTheLastEnds =
    (before : Option ℕ) (ms : List Meaning) (m : Meaning) → last_end before (ms ++ m ∷ []) ≡ end_after None m

abbrev pub PartsEndAsOne : Type 0
PartsEndAsOne =
    (before : Option ℕ) (ms ns : List Meaning) → last_end before (ms ++ ns) ≡ last_end (last_end before ms) ns
