-- What follows pieces at the beginning of bytes.
use Rattle.std.proofs.Common.{◌≡◌, ◌≢◌, ℕ, ◌+◌, ◌<◌, ◌↔◌, List, [], ◌++◌, length, take, drop, Option, None, Some, Bor, option_map, get_or, sym, ap, ◌∙◌, append_assoc, append-nil}
use Rattle.std.specs.Prelude.{MatchOption}
use Rattle.std.specs.List.{flat_map}
use Rattle.std.proofs.lemmas.Grind.{flat_map-append}
use Rattle.std.proofs.lemmas.List.{append_cancel_left, take-append-drop}
use Rattle.rr_schema.specs.declared.archive.ArchiveSpec.{ArchiveSpec}
use Rattle.rr_schema.specs.SchemaBytes.{archive_bytes, IsAfter}
use Rattle.rr_schema.proofs.SchemaBytesLemmas.{archives_more}

pub after_is : (piece bytes : List ℕ) (o : Option (Bor (List ℕ)))
    → MatchOption o ((rest : List ℕ) → bytes ≢ piece ++ rest) (λ rest. bytes ≡ piece ++ rest.now)
    → IsAfter piece bytes (option_map (λ rest. rest.now) o)
after_is piece bytes None h = h
after_is piece bytes (Some rest) h = h

-- the first of two pieces is not there
pub first_missing : (first second bytes : List ℕ) → IsAfter first bytes None → IsAfter (first ++ second) bytes None
first_missing first second bytes h = λ rest e. h (second ++ rest) (e ∙ append_assoc first second rest)

-- the first of two pieces is there
pub second_after : (first second bytes rest : List ℕ) (o : Option (List ℕ)) → bytes ≡ first ++ rest
    → IsAfter second rest o → IsAfter (first ++ second) bytes o
second_after first second bytes rest None e h = λ more q. h more
    (append_cancel_left first rest (second ++ more) (sym e ∙ q ∙ append_assoc first second more))
second_after first second bytes rest (Some more) e h = e ∙ ap (λ (r : List ℕ). first ++ r) h
    ∙ sym (append_assoc first second more)

-- bytes are a piece and others exactly where what follows the piece is the others
pub same_after : (piece bytes rest others : List ℕ) → bytes ≡ piece ++ rest
    → (bytes ≡ piece ++ others) ↔ (rest ≡ others)
same_after piece bytes rest others e =
    ((λ q. append_cancel_left piece rest others (sym e ∙ q)), λ q. e ∙ ap (λ (r : List ℕ). piece ++ r) q)

-- the archives up to a number and the one that has it are those up to the next
pub archives_so_far : (archives : List ArchiveSpec) (i : ℕ) (d : ArchiveSpec) → i < length archives
    → flat_map archive_bytes (take i archives) ++ archive_bytes (get_or archives i d)
    ≡ flat_map archive_bytes (take (i + 1) archives)
archives_so_far archives i d within = archives_more [] archives i d within

-- and with those after it they are all
pub all_archives : (archives : List ArchiveSpec) (i : ℕ)
    → flat_map archive_bytes (take i archives) ++ flat_map archive_bytes (drop i archives)
    ≡ flat_map archive_bytes archives
all_archives archives i = sym (flat_map-append archive_bytes (take i archives) (drop i archives))
    ∙ ap (flat_map archive_bytes) (take-append-drop i archives)

-- a piece that is all of the bytes is there
pub not_missing : {piece bytes : List ℕ} → IsAfter piece bytes None → bytes ≡ piece → ⊥
not_missing {piece = piece} h e = h [] (e ∙ sym (append-nil piece))
