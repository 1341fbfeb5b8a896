-- Which files a start reads.
use Rattle.std.specs.Prelude.{◌≡◌, ℕ, ◌≤◌, nat_le, nat_lt, Bool, List, [], ◌++◌, filter, map, max, option_to_list, All, Contains, Option, None, Some, unwrap_or, if◌then◌else◌}
use Rattle.std.specs.List.{filter_map}
use Rattle.std.specs.Ordering.{nat_cmp}
use Rattle.std.specs.List.Sorted.{IsPermutation, IsSorted}
use Rattle.rr_directory.specs.declared.name.FileName.{FileName}
use Rattle.rr_directory.specs.declared.name.FileName.TheVariants.{Journal, Checkpoint}
use Rattle.rr_directory.specs.declared.start.Start.{Start}
use Rattle.rr_directory.specs.Names.{offset_of}

abbrev pub checkpoint_offset : FileName → Option ℕ
checkpoint_offset (Journal offset) = None
checkpoint_offset (Checkpoint offset) = Some offset

-- the greater of two offsets, or the only one
abbrev pub greater : Option ℕ → Option ℕ → Option ℕ
greater None other = other
greater (Some one) None = Some one
greater (Some one) (Some other) = Some (max one other)

-- the greatest of these offsets, or none if there are none
abbrev pub IsGreatest : List ℕ → Option ℕ → Type 0
IsGreatest offsets None = offsets ≡ []
IsGreatest offsets (Some greatest) = Contains offsets greatest × All (λ o. o ≤ greatest) offsets

-- the offset of the newest checkpoint, or none if there is no checkpoint
abbrev pub IsNewest : List FileName → Option ℕ → Type 0
IsNewest names newest = IsGreatest (filter_map checkpoint_offset names) newest

-- the offset from which the journal is read
abbrev pub first_offset : Option ℕ → ℕ
first_offset checkpoint = unwrap_or checkpoint 0

abbrev pub journal_from : ℕ → FileName → Option ℕ
journal_from from (Journal offset) = if nat_le from offset then Some offset else None
journal_from from (Checkpoint offset) = None

-- the offsets of the journal's files from this one on
abbrev pub names_from : ℕ → List FileName → List ℕ
names_from from names = filter_map (journal_from from) names

-- whether a file is from before an offset
abbrev pub is_needless : ℕ → FileName → Bool
is_needless from name = nat_lt (offset_of name) from

-- a checkpoint, if there is one, and the journal's files that begin at offsets
abbrev pub names_of : Option ℕ → List ℕ → List FileName
names_of checkpoint offsets = map Checkpoint (option_to_list checkpoint) ++ map Journal offsets

-- of the files with these names, a start reads the newest checkpoint, and then all of the journal's files from its
-- offset on, in order; those from before it are needless
pub record IsStart (names : List FileName) (start : Start) : Type 0 where
  pub checkpoint : Option ℕ
  pub newest : IsNewest names checkpoint
  pub journals : List ℕ
  pub none_passed_over : IsPermutation (names_from (first_offset checkpoint) names) journals
  pub in_order : IsSorted nat_cmp journals
  pub files : start.files.items ≡ names_of checkpoint journals
  pub needless : start.needless.items ≡ filter (is_needless (first_offset checkpoint)) names
