-- The key that names make, and why they make none.
use Rattle.std.specs.Prelude.{ℕ, Bool, ◌||◌, nat_lt, List, length, map, Option, None, Some, Result, if◌then◌else◌}
use Rattle.std.specs.Borrow.{Bor}
use Rattle.std.specs.FinMap.{from_entries}
use Rattle.std.specs.List.{list_any}
use Rattle.std.specs.Map.{keys_of}
use Rattle.rr_text.specs.Bytes.{has_repeat}
use Rattle.rr_text.specs.Results.{first_fault, unless_faulty}
use Rattle.rr_text.specs.declared.limits.TheConstants.{MAX_KEY_TEXT, MAX_TAGS}
use Rattle.rr_key.specs.declared.fault.KeyFault.{KeyFault}
use Rattle.rr_key.specs.declared.fault.KeyFault.TheVariants.{EmptyName, BadName, DuplicateTag, TooManyTags, KeyTooLong}
use Rattle.rr_key.specs.Name.{is_empty, is_bad}
use Rattle.rr_key.specs.Series.{Series, key_text}

-- the names of a series as they are given: the tags in any order
pub record Names : Type 0 where
  pub measurement : List ℕ
  pub tags : List (List ℕ × List ℕ)
  pub field : List ℕ

-- tags that are slices, by their bytes
abbrev pub tags_of : List (Bor (List ℕ) × Bor (List ℕ)) → List (List ℕ × List ℕ)
tags_of tags = map (λ tag. (tag.0.now, tag.1.now)) tags

-- names that are slices, by their bytes
abbrev pub names_of : List ℕ → List (Bor (List ℕ) × Bor (List ℕ)) → List ℕ → Names
names_of measurement tags field = record { measurement = measurement; tags = tags_of tags; field = field }

-- the series that they name
abbrev pub series_of : Names → Series
series_of names = record { measurement = names.measurement; tags = from_entries names.tags; field = names.field }

-- whether a key or a value of the tags passes a test
abbrev pub any_tag : (List ℕ → Bool) → List (List ℕ × List ℕ) → Bool
any_tag test tags = list_any (λ tag. test tag.0 || test tag.1) tags

-- whether one of the names does
abbrev pub any_name : (List ℕ → Bool) → Names → Bool
any_name test names = test names.measurement || any_tag test names.tags || test names.field

-- the first fault of the names, if they have one; the key may still be too long
abbrev pub naming_fault : Names → Option KeyFault
naming_fault names =
    if any_name is_empty names then Some EmptyName
    else (if any_name is_bad names then Some BadName
    else (if has_repeat (keys_of names.tags) then Some DuplicateTag
    else (if nat_lt MAX_TAGS (length names.tags) then Some TooManyTags else None)))

-- the first fault of the names or of their key
abbrev pub making_fault : Names → Option KeyFault
making_fault names =
    first_fault (naming_fault names)
    (if nat_lt MAX_KEY_TEXT (length (key_text (series_of names))) then Some KeyTooLong else None)

-- the key text that names make
abbrev pub key_of : Names → Result (List ℕ) KeyFault
key_of names = unless_faulty (making_fault names) (key_text (series_of names))
