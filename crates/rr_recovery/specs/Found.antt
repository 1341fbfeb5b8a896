-- What is found in a journal besides cells.
use Rattle.std.specs.Prelude.{ℕ, ◌+◌, ◌-◌, ◌^◌, nat_eq, min, List, [], ◌∷◌, ◌++◌, set, Option, None, Some}
use Rattle.std.specs.List.{position}
use Rattle.std.specs.Cmp.Lexicographic.{pointwise}
use Rattle.rr_journal.specs.declared.cursor.Cursor.{Cursor}
use Rattle.rr_journal.specs.Body.{Meaning, HasCells, HasOrigin, HasJoined, HasEnded, HasWitness}
use Rattle.rr_recovery.specs.declared.found.Found.{Found}

-- the last recorded origin, the last cursor of each journal, the number that the last record states if it is an end, and
-- how many records and cells were read
pub record FoundState : Type 0 where
  pub origin : Option ℕ
  pub cursors : List Cursor
  pub end : Option ℕ
  pub records : ℕ
  pub cells : ℕ

abbrev pub found_state : Found → FoundState
found_state f = record { origin = f.origin; cursors = f.cursors.items; end = f.end; records = f.records; cells = f.cells }

-- nothing yet
abbrev pub nothing_found : FoundState
nothing_found = record { origin = None; cursors = []; end = None; records = 0; cells = 0 }

-- with a cursor in place of the one at an index, or behind all
abbrev pub put_at : List Cursor → Cursor → Option ℕ → List Cursor
put_at cs c None = cs ++ c ∷ []
put_at cs c (Some i) = set cs i c

-- with a cursor in place of its journal's, or behind all if there is none
abbrev pub with_cursor : List Cursor → Cursor → List Cursor
with_cursor cs c = put_at cs c (position (λ d. pointwise nat_eq d.id c.id) cs)

-- one more cell; the count stops at its greatest value
abbrev pub one_more : FoundState → FoundState
one_more f = record {
  origin = f.origin;
  cursors = f.cursors;
  end = f.end;
  records = f.records;
  cells = min (f.cells + 1) (2 ^ 64 - 1);
}

-- one more record, likewise; an end before it no longer counts
abbrev pub one_record : FoundState → FoundState
one_record f = record {
  origin = f.origin;
  cursors = f.cursors;
  end = None;
  records = min (f.records + 1) (2 ^ 64 - 1);
  cells = f.cells;
}

-- the number that a record states if it is an end; else what was stated before
abbrev pub end_after : Option ℕ → Meaning → Option ℕ
end_after before (HasEnded count) = Some count
end_after before (HasCells groups) = before
end_after before (HasOrigin origin) = before
end_after before (HasJoined cursor) = before
end_after before (HasWitness witness) = before

-- the count that the last of some records states, if it is an end; without records, what was stated before
abbrev pub last_end : Option ℕ → List Meaning → Option ℕ
last_end before [] = before
last_end before (m ∷ ms) = last_end (end_after None m) ms
