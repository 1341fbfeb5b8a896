-- Cells from a stream whose bytes may be known.
use Rattle.std.specs.Prelude.{◌≡◌, ◌≢◌, ◌⊎◌, ◌+◌, ◌-◌, ◌<◌, ◌≤◌, ℕ, nat_lt, ◌||◌, ◌==◌, List, ◌++◌, length, take, Option, Some, Result, Ok, Err, IfOk, IfSome, OnOk, if◌then◌else◌}
use Rattle.std.specs.Int.{w16}
use Rattle.std.specs.Io.KnownBytes.{Consumes}
use Rattle.sha2.specs.Hashers.{Holds256}
use Rattle.sha2.specs.declared.Sha256.{Sha256}
use Rattle.rr_text.specs.declared.limits.TheConstants.{MAX_KEY_TEXT}
use Rattle.rr_io.specs.declared.counted.Counted.{Counted}
use Rattle.rr_io.specs.Counted.{inner_of}
use Rattle.rr_io.specs.Stream.{HasFailed, IsReadOut, KeepsFailures, ReadsOn, ReadsSome, ReadsUpTo}
use Rattle.rr_page.specs.declared.fault.PageFault.{PageFault}
use Rattle.rr_page.specs.declared.version.Version.{Version}
use Rattle.rr_page.specs.Reading.{number_at}
use Rattle.rr_page.specs.Version.{fields_len}
use Rattle.rr_cells.specs.CellBounds.{NamedCell}
use Rattle.rr_snapshot.specs.declared.fault.LoadFault.{LoadFault}
use Rattle.rr_snapshot.specs.declared.fault.LoadFault.TheVariants.{ReadFailed, Memory}

-- how many bytes a cell that begins with these has, once the length of its key is read; if no cell begins so, as many
-- as there are
abbrev pub len_by : Version → List ℕ → Result (ℕ × List ℕ) PageFault → ℕ
len_by v bytes (Ok len) = if ((len.0 == 0) || nat_lt MAX_KEY_TEXT len.0) then length bytes else fields_len v + len.0
len_by v bytes (Err fault) = length bytes

abbrev pub whole_len : Version → List ℕ → ℕ
whole_len v bytes = len_by v bytes (number_at w16 bytes)

-- bytes were taken from the beginning of what a reader had, if that is known, and added after those that were there
abbrev pub Adds : Option (List ℕ) → Option (List ℕ) → List ℕ → List ℕ → Type 0
Adds old new before after = (prefix : List ℕ) × (after ≡ before ++ prefix) × Consumes old new prefix

-- bytes were read into a buffer after its first `filled` ones, up to `len` of them or the end of the input
pub record FillsUpTo {R E : Type 0} (filled len : ℕ) (remaining : R → Option (List ℕ)) (input input_new : Counted R)
    (old new : List ℕ) (result : Result ℕ E) : Type 0 where
  pub more : IfOk result (λ now. (filled ≤ now) × (now ≤ len))
  pub bytes : IfOk result (λ now. Adds (remaining (inner_of input)) (remaining (inner_of input_new)) (take filled old)
      (take now new))
  pub end : IfOk result (λ now. now < len → IsReadOut remaining input_new)
  pub buffer_len : length new ≡ length old
  pub stream : ReadsOn (len - filled) remaining input input_new result

-- if the bytes of a stream are known, the result of a call, seen through a view, is what is read from them, and what
-- follows it is left; or the reader failed, or memory ran out
abbrev pub StreamGives : {X Y : Type 0} → (X → Y) → Result X LoadFault → Option (List ℕ) → Option (List ℕ)
    → (List ℕ → Result (Y × List ℕ) LoadFault) → Type 0
StreamGives view (Ok x) old new read = IfSome old
    (λ all. (rest : List ℕ) × (new ≡ Some rest) × (read all ≡ Ok (view x, rest)))
StreamGives view (Err fault) old new read = (fault ≡ ReadFailed) ⊎ (fault ≡ Memory)
    ⊎ IfSome old (λ all. read all ≡ Err fault)

-- if the bytes of a stream are known, something is read from them, and what follows it is left
abbrev pub HasRead : {Y E : Type 0} → Option (List ℕ) → Option (List ℕ) → (List ℕ → Result (Y × List ℕ) E) → Type 0
HasRead {Y} old new read = IfSome old (λ all. (x : Y) × (rest : List ℕ) × (new ≡ Some rest) × (read all ≡ Ok (x, rest)))

-- the bytes that were taken from a reader were added to what is digested
abbrev pub Digests : Option (List ℕ) → Option (List ℕ) → Sha256 → Sha256 → Type 0
Digests old new before after = (taken : List ℕ) × Consumes old new taken
    × ((m : List ℕ) → Holds256 before m → Holds256 after (m ++ taken))

-- what a call did with the reader that it loads from: it took some bytes from the beginning, or none, and says that a
-- read failed only if one did
pub record LoadsFrom {R X : Type 0} (remaining : R → Option (List ℕ)) (old new : Counted R)
    (result : Result X LoadFault) : Type 0 where
  pub prefix : ReadsSome remaining old new
  pub failures_never_fall : KeepsFailures old new
  pub failed : result ≡ Err ReadFailed → HasFailed old new

-- what a call that loads at most `n` bytes and never needs memory did
pub record LoadsPiece {R X : Type 0} (n : ℕ) (remaining : R → Option (List ℕ)) (old new : Counted R)
    (result : Result X LoadFault) : Type 0 where
  pub stream : LoadsFrom remaining old new result
  pub most : ReadsUpTo n remaining old new
  pub no_memory : result ≢ Err Memory

-- what a call that loads at most `n` bytes, adds them to what is digested, and never needs memory did
pub record DigestsPiece {R X : Type 0} (n : ℕ) (remaining : R → Option (List ℕ)) (old new : Counted R)
    (before after : Sha256) (result : Result X LoadFault) : Type 0 where
  pub digest : OnOk result (Digests (remaining (inner_of old)) (remaining (inner_of new)) before after)
  pub stream : LoadsFrom remaining old new result
  pub most : ReadsUpTo n remaining old new
  pub no_memory : result ≢ Err Memory

-- the result of a call is made of some cells; if the bytes of a stream are known, the cells are what is read from them,
-- and what follows them is left; or the reader failed, or memory ran out
abbrev pub StreamMakes : {X : Type 0} → (X → List NamedCell → Type 0) → Result X LoadFault → Option (List ℕ)
    → Option (List ℕ) → (List ℕ → Result (List NamedCell × List ℕ) LoadFault) → Type 0
StreamMakes made (Ok x) old new read = (es : List NamedCell) × made x es
    × IfSome old (λ all. (rest : List ℕ) × (new ≡ Some rest) × (read all ≡ Ok (es, rest)))
StreamMakes made (Err fault) old new read = (fault ≡ ReadFailed) ⊎ (fault ≡ Memory)
    ⊎ IfSome old (λ all. read all ≡ Err fault)
