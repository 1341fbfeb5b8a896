-- A piece of a known length, from a stream.
use Rattle.std.proofs.Common.{◌≡◌, ℕ, ◌+◌, ◌*◌, ◌<◌, ◌≤◌, Bool, true, false, List, [], ◌++◌, length, Option, None, Some, IfSome, Result, Ok, Err, refl, sym, ap, ◌∙◌, ◌⊎◌, arith, inl, inr, append-nil}
use Rattle.std.specs.Prelude.{nat_eq, not, ok_or}
use Rattle.std.specs.Cmp.Lexicographic.{pointwise}
use Rattle.std.specs.Int.{w8, w16, w32}
use Rattle.std.specs.Io.KnownBytes.{Consumes, IsAtEnd}
use Rattle.std.proofs.lemmas.List.{nil_from_length}
use Rattle.rr_page.specs.declared.fault.PageFault.{PageFault}
use Rattle.rr_page.specs.declared.fault.PageFault.TheVariants.{Short, BadMagic, BadVersion, SchemaDiffers}
use Rattle.rr_page.specs.declared.version.Version.{Version}
use Rattle.rr_page.specs.Version.{named_version, latest}
use Rattle.rr_schema.specs.Schema.{Layout}
use Rattle.rr_schema.specs.declared.added.Addition.{Addition}
use Rattle.rr_schema.specs.declared.added.Addition.TheVariants.{Nothing}
use Rattle.rr_text.specs.Results.{◌>>=◌, unless}
use Rattle.rr_page.specs.PageReading.{version_at}
use Rattle.rr_page.specs.Reading.{prefix_at, number_at}
use Rattle.rr_page.proofs.PrefixLemmas.{Reader, ReadsPrefix, ReadsPrefix-field, ReadsPrefix-then, ReadsPrefix-unless, ReadsPrefix-done, ReadsPrefix-number, ReadsPrefix-version, extended}
use Rattle.rr_snapshot.specs.Fault.{load_fault}
use Rattle.rr_snapshot.specs.Snapshot.{magic}
use Rattle.rr_snapshot.specs.SnapshotReading.{as_in_page, may_have_had, start_at, fitting_addition, archives_at}
use Rattle.rr_snapshot.proofs.WidthLemmas.{HasWidth, HasWidth-field, HasWidth-then, HasWidth-done, HasWidth-last, HasWidth-number}

module _ {A : Type 0} (k : ℕ) (r : Reader A) (prefix : ReadsPrefix r) (width : HasWidth k r) (bytes : List ℕ)
    (few : length bytes ≤ k) where
  decided_ok : (rest : List ℕ) (x : A) (left : List ℕ) → r bytes ≡ Ok (x, left)
      → (r bytes ≡ Err Short) ⊎ (r (bytes ++ rest) ≡ extended rest (r bytes)) → r (bytes ++ rest) ≡ Ok (x, rest)
  unfolding extended
  decided_ok rest x left is (inl short) = absurd (cc (sym short ∙ is))
  decided_ok rest x left is (inr same) =
      let took = width.taken bytes (x, left) is in
      let none : left ≡ [] = nil_from_length left (omega (arith, few, took)) in
      same ∙ ap (extended rest) is ∙ ap (λ (l : List ℕ). Ok (x, l ++ rest)) none

  decided_err : (rest : List ℕ) (fault : PageFault) → (length bytes < k → rest ≡ []) → r bytes ≡ Err fault
      → (r bytes ≡ Err Short) ⊎ (r (bytes ++ rest) ≡ extended rest (r bytes)) → r (bytes ++ rest) ≡ Err fault
  unfolding extended
  decided_err rest fault none is (inl short) = ap (λ (l : List ℕ). r (bytes ++ l)) (none (width.short bytes short))
      ∙ ap r (append-nil bytes) ∙ is
  decided_err rest fault none is (inr same) = same ∙ ap (extended rest) is

  pub piece_ok : (old new : Option (List ℕ)) (x : A) (left : List ℕ) → Consumes old new bytes → r bytes ≡ Ok (x, left)
      → IfSome old (λ all. (rest : List ℕ) × (new ≡ Some rest) × (as_in_page (r all) ≡ Ok (x, rest)))
  piece_ok None new x left took is = tt
  piece_ok (Some all) None x left took is = absurd took
  piece_ok (Some all) (Some rest) x left took is = (
    rest,
    refl,
    ap (λ (l : List ℕ). as_in_page (r l)) took
        ∙ ap as_in_page (decided_ok rest x left is (prefix.more bytes rest)),
  )

  pub piece_err : (old new : Option (List ℕ)) (fault : PageFault) → Consumes old new bytes
      → (length bytes < k → IsAtEnd new) → r bytes ≡ Err fault
      → IfSome old (λ all. as_in_page (r all) ≡ Err (load_fault fault))
  piece_err None new fault took end is = tt
  piece_err (Some all) None fault took end is = absurd took
  piece_err (Some all) (Some rest) fault took end is = ap (λ (l : List ℕ). as_in_page (r l)) took
      ∙ ap as_in_page (decided_err rest fault end is (prefix.more bytes rest))

-- ---- the start of a snapshot

HasWidth-unless : {A : Type 0} (k : ℕ) (fault : PageFault) (refused : Bool) (r : Reader A) → (fault ≡ Short → ⊥)
    → HasWidth k r → HasWidth k (λ bytes. unless fault refused (r bytes))
HasWidth-unless k fault true r other p = record {
  taken = λ bytes x e. absurd (cc e);
  short =
      λ bytes e. absurd (other (cc e));
}
HasWidth-unless k fault false r other p = p

HasWidth-version : HasWidth 1 version_at
unfolding version_at
HasWidth-version = HasWidth-then 1 0 (number_at w8) _ (HasWidth-number w8) (λ n. named (named_version n))
  where
    named : (o : Option Version) → HasWidth 0 (λ bytes. ok_or o BadVersion >>= λ (v : Version). Ok (v, bytes))
    named None = HasWidth-last BadVersion true latest (λ e. absurd (cc e))
    named (Some v) = HasWidth-done v

module _ (s : Layout) where
  pub ReadsPrefix-start : ReadsPrefix (start_at s)
  unfolding start_at
  ReadsPrefix-start =
      ReadsPrefix-then (prefix_at (length magic)) _ (ReadsPrefix-field (length magic)) (λ start.
      ReadsPrefix-then (λ bytes. unless BadMagic (not (pointwise nat_eq start magic)) (version_at bytes)) _
      (ReadsPrefix-unless BadMagic (not (pointwise nat_eq start magic)) version_at ReadsPrefix-version) (λ version.
      ReadsPrefix-then (number_at w32) _ (ReadsPrefix-number w32) (λ step.
      ReadsPrefix-then (number_at w8) _ (ReadsPrefix-number w8) (λ number.
      ReadsPrefix-unless SchemaDiffers (not (may_have_had s step number)) (λ bytes. Ok ((version, number), bytes))
      (ReadsPrefix-done (version, number))))))

  pub HasWidth-start : HasWidth 10 (start_at s)
  unfolding start_at
  HasWidth-start =
      HasWidth-then 4 6 (prefix_at 4) _ (HasWidth-field 4) (λ start.
      HasWidth-then 1 5 (λ bytes. unless BadMagic (not (pointwise nat_eq start magic)) (version_at bytes)) _
      (HasWidth-unless 1 BadMagic (not (pointwise nat_eq start magic)) version_at (λ e. absurd (cc e)) HasWidth-version)
      (λ version.
      HasWidth-then 4 1 (number_at w32) _ (HasWidth-number w32) (λ step.
      HasWidth-then 1 0 (number_at w8) _ (HasWidth-number w8) (λ number.
      HasWidth-last SchemaDiffers (not (may_have_had s step number)) (version, number) (λ e. absurd (cc e))))))

-- ---- the archives and the origin

abbrev with_origin : Addition → List ℕ → Result ((Addition × ℕ) × List ℕ) PageFault
with_origin a bytes = number_at w16 bytes >>= λ origin. Ok ((a, origin.0), origin.1)

prefix_some : (a : Addition) → ReadsPrefix (with_origin a)
prefix_some a = ReadsPrefix-then (number_at w16) _ (ReadsPrefix-number w16) (λ origin. ReadsPrefix-done (a, origin))

width_some : (a : Addition) → HasWidth 2 (with_origin a)
width_some a = HasWidth-then 2 0 (number_at w16) _ (HasWidth-number w16) (λ origin. HasWidth-done (a, origin))

module _ (v : Version) (s : Layout) (number : ℕ) where
  prefix_by : (o : Option Addition)
      → ReadsPrefix (λ bytes. ok_or o SchemaDiffers >>= λ (a : Addition). with_origin a bytes)
  prefix_by None = ReadsPrefix-unless SchemaDiffers true (with_origin Nothing) (prefix_some Nothing)
  prefix_by (Some a) = prefix_some a

  pub ReadsPrefix-archives : ReadsPrefix (archives_at v s number)
  unfolding archives_at
  ReadsPrefix-archives = ReadsPrefix-then (prefix_at (9 * number)) _ (ReadsPrefix-field (9 * number))
      (λ field. prefix_by (fitting_addition v s field))

  width_by : (o : Option Addition) → HasWidth 2 (λ bytes. ok_or o SchemaDiffers >>= λ (a : Addition). with_origin a
      bytes)
  width_by None = HasWidth-unless 2 SchemaDiffers true (with_origin Nothing) (λ e. absurd (cc e)) (width_some Nothing)
  width_by (Some a) = width_some a

  pub HasWidth-archives : HasWidth (9 * number + 2) (archives_at v s number)
  unfolding archives_at
  HasWidth-archives = HasWidth-then (9 * number) 2 (prefix_at (9 * number)) _ (HasWidth-field (9 * number))
      (λ field. width_by (fitting_addition v s field))
