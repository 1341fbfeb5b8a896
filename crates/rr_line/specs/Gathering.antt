-- What is gathered from a line before repeated keys are looked for, once for all of them: in a list with a repeated
-- key, that is the first fault.
use Rattle.std.specs.Prelude.{ℕ, zero, suc, Bool, true, ◌&&◌, List, [], ◌∷◌, ◌++◌, Result, Ok, Err}
use Rattle.std.specs.Map.{keys_of}
use Rattle.std.specs.Ordering.{is_lt}
use Rattle.rr_text.specs.Bytes.{strip, bytes_cmp, has_repeat}
use Rattle.rr_text.specs.Results.{◌>>=◌, unless}
use Rattle.rr_text.specs.declared.limits.TheConstants.{MAX_TAGS, MAX_FIELDS}
use Rattle.rr_text.specs.declared.bytes.TheConstants.{COMMA}
use Rattle.rr_line.specs.declared.fault.LineFault.{LineFault}
use Rattle.rr_line.specs.declared.fault.LineFault.TheVariants.{TooManyTags, TooManyFields}
use Rattle.rr_line.specs.Field.{Field}
use Rattle.rr_line.specs.Reading.{after_comma, tag_at, field_at}
use Rattle.rr_line.specs.Tag.{Tag}

-- whether a name is below the first of others, if there is one
abbrev pub is_below : List ℕ → List (List ℕ) → Bool
is_below name [] = true
is_below name (next ∷ others) = is_lt (bytes_cmp name next)

-- whether each name is above the one before it
abbrev pub rise : List (List ℕ) → Bool
rise [] = true
rise (name ∷ names) = is_below name names && rise names

-- whether a key occurs twice among entries
abbrev pub repeats_key : {V : Type 0} → List (List ℕ × V) → Bool
repeats_key entries = has_repeat (keys_of entries)

-- what is gathered, and what follows it, or why no more is
abbrev pub Gathered : Type 0 → Type 0
Gathered A = List A × Result (List ℕ) LineFault

-- one more part, unless it is refused
abbrev pub gather : {A : Type 0} → List A → Result (A × List ℕ) LineFault → (A → List ℕ → Gathered A) → Gathered A
gather before (Ok (part, rest)) more = more part rest
gather before (Err fault) more = (before, Err fault)

-- the tags after these, with room for this many more
abbrev pub gathered_tags : ℕ → List Tag → List ℕ → Gathered Tag
gathered_tags zero before text = after_comma (strip COMMA text) (before, Ok text) (λ tag_text.
    gather before (tag_at tag_text) (λ tag rest. (before, Err TooManyTags)))
gathered_tags (suc room) before text = after_comma (strip COMMA text) (before, Ok text) (λ tag_text.
    gather before (tag_at tag_text) (λ tag rest. gathered_tags room (before ++ tag ∷ []) rest))

-- the fields after these, with room for this many more
abbrev pub gathered_fields : ℕ → List Field → List ℕ → Gathered Field
gathered_fields zero before text = gather before (field_at text) (λ field rest. (before, Err TooManyFields))
gathered_fields (suc room) before text = gather before (field_at text) (λ field rest.
    after_comma (strip COMMA rest) (before ++ field ∷ [], Ok rest) (λ next.
    gathered_fields room (before ++ field ∷ []) next))

-- the tags after a measurement, as far as they are good
unfoldable pub all_gathered_tags : List ℕ → Gathered Tag
all_gathered_tags text = gathered_tags MAX_TAGS [] text

-- the fields of a line, as far as they are good
unfoldable pub all_gathered_fields : List ℕ → Gathered Field
all_gathered_fields text = gathered_fields MAX_FIELDS [] text

-- what was gathered and what follows it, unless a key occurs twice
abbrev pub without_repeat : {V : Type 0} → LineFault → Gathered (List ℕ × V)
    → Result (List (List ℕ × V) × List ℕ) LineFault
without_repeat fault gathered =
    unless fault (repeats_key gathered.0) (gathered.1 >>= λ rest. Ok (gathered.0, rest))
