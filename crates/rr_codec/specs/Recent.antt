-- What is known before a cell: the nanoseconds of a row, the last cells of the origins that were seen last, the newest
-- first and each origin once, and where among them the origin of the cell before was.
use Rattle.std.specs.Prelude.{ℕ, Bool, ◌==◌, not, List, [], ◌∷◌, get_or, take, Result, Ok}
use Rattle.std.specs.List.{position_or_len, remove}
use Rattle.rr_text.specs.Results.{◌>>=◌, unless}
use Rattle.rr_codec.specs.declared.expecting.Before.{Before}
use Rattle.rr_codec.specs.declared.fields.Fields.{Fields}
use Rattle.rr_codec.specs.declared.fault.CodecFault.{CodecFault}
use Rattle.rr_codec.specs.declared.fault.CodecFault.TheVariants.{BadNumber}
use Rattle.rr_codec.specs.declared.steps.Steps.{Steps}
use Rattle.rr_codec.specs.Steps.{step_to, step_from, steps_at}
use Rattle.rr_codec.specs.Expecting.{after, fields_from, start, steps_to}

pub record KnownState : Type 0 where
  pub span : ℕ
  pub recent : List Before
  pub place : ℕ

-- before the first cell
abbrev pub nothing_known : ℕ → KnownState
nothing_known span = record { span = span; recent = []; place = 0 }

abbrev pub is_of : ℕ → Before → Bool
is_of origin b = b.cell.origin == origin

-- where an origin is among those that were seen last; behind all, if it isn't there
abbrev pub place_of : List Before → ℕ → ℕ
place_of recent origin = position_or_len (is_of origin) recent

-- what a cell of the origin at a place is expected from
abbrev pub before_at : List Before → ℕ → Before
before_at recent place = get_or recent place start

-- the steps to the fields of a cell
unfoldable pub known_steps : KnownState → Fields → Steps
known_steps k cell =
    let place = place_of k.recent cell.origin in
    record { place = step_to k.place place; fields = steps_to k.span (before_at k.recent place) cell }

-- the fields that steps lead to from what is expected at a place, which has to be that of their origin
abbrev pub fields_at : KnownState → ℕ → Fields → Result Fields CodecFault
fields_at k place steps =
    let cell = fields_from k.span (before_at k.recent place) steps in
    unless BadNumber (not (place_of k.recent cell.origin == place)) (Ok cell)

-- the fields that steps lead to
unfoldable pub known_fields : KnownState → Steps → Result Fields CodecFault
known_fields k steps = fields_at k (step_from k.place steps.place) steps.fields

-- the fields of a cell, and what follows it
unfoldable pub known_fields_at : KnownState → List ℕ → Result (Fields × List ℕ) CodecFault
known_fields_at k bytes = do
  steps ← steps_at bytes
  fields ← known_fields k steps.0
  Ok (fields, steps.1)

-- the list without what is at a place, cut to 15
abbrev pub others : List Before → ℕ → List Before
others recent place = take 15 (remove recent place)

-- what is known after a cell
unfoldable pub known_after : KnownState → Fields → KnownState
known_after k cell =
    let place = place_of k.recent cell.origin in
    record {
      span = k.span;
      recent = after (before_at k.recent place) cell ∷ others k.recent place;
      place = place;
    }
