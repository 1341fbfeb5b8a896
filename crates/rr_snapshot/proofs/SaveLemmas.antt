-- A snapshot, written head, cells and digest, one after the other.
use Rattle.std.proofs.Common.{◌≡◌, ℕ, ◌≤◌, ◌^◌, ◌-◌, Bool, true, false, List, ◌++◌, length, Option, ap, subst, ◌∙◌, arith, refl}
use Rattle.std.specs.Prelude.{nat_le, if◌then◌else◌}
use Rattle.std.specs.Io.KnownBytes.{Appends}
use Rattle.std.specs.List.{flat_map}
use Rattle.std.proofs.KnownBytes.{Appends-trans}
use Rattle.sha2.specs.Sha256.{sha256}
use Rattle.rr_schema.specs.Schema.{Layout}
use Rattle.rr_io.specs.Stream.{AppendsPrefix}
use Rattle.rr_io.proofs.StreamLemmas.{prefix_after, prefix_before}
use Rattle.rr_page.specs.CellText.{cell_text}
use Rattle.rr_page.specs.Version.{latest}
use Rattle.rr_cells.specs.CellBounds.{NamedCell}
use Rattle.rr_cells.specs.Listing.{at_most_usize}
use Rattle.rr_snapshot.specs.Snapshot.{head_text, body_text, snapshot_text}

-- a count that is below the greatest one is the number itself
pub count_is : (n count : ℕ) → count ≡ at_most_usize n → count ≤ 4294967295 → count ≡ n
count_is n count e few = by_test (nat_le n (2 ^ 64 - 1)) refl
  where
    by_test : (b : Bool) → nat_le n (2 ^ 64 - 1) ≡ b → count ≡ n
    by_test true is = e ∙ ap (λ (b : Bool). if b then n else 2 ^ 64 - 1) is
    by_test false is = let most : count ≡ 2 ^ 64 - 1 = e
        ∙ ap (λ (b : Bool). if b then n else 2 ^ 64 - 1) is in absurd (omega (arith, most, few))

pub piece_is : (piece head : List ℕ) (s t : Layout) (o p count : ℕ) (es : List NamedCell) → piece ≡ head
    → head ≡ head_text latest t p count → t ≡ s → p ≡ o → count ≡ length es → piece ≡ head_text latest s o (length es)
piece_is piece head s t o p count es e0 e1 et ep ec = e0 ∙ e1 ∙ (λ i. head_text latest (et i) (ep i) (ec i))

module _ (s : Layout) (o : ℕ) (es : List NamedCell) (piece : List ℕ)
    (is : piece ≡ head_text latest s o (length es)) where
  abbrev cells : List ℕ
  cells = flat_map (cell_text latest) es

  abbrev body : List ℕ
  body = body_text latest s o es

  body_is : piece ++ cells ≡ body
  unfolding body_text
  body_is = ap (λ (l : List ℕ). l ++ cells) is

  pub digest_is : (digest : List ℕ) → digest ≡ sha256 (piece ++ cells) → digest ≡ sha256 (body_text latest s o es)
  digest_is digest e = e ∙ ap sha256 body_is

  pub prefix_of_head : (a b : Option (List ℕ)) → AppendsPrefix a b piece
      → AppendsPrefix a b (snapshot_text latest s o es)
  unfolding snapshot_text
  prefix_of_head a b part = prefix_before a b body (sha256 body)
      (subst (AppendsPrefix a b) body_is (prefix_before a b piece cells part))

  pub prefix_of_cells : (a b c : Option (List ℕ)) → Appends a b piece
      → AppendsPrefix b c (flat_map (cell_text latest) es) → AppendsPrefix a c (snapshot_text latest s o es)
  unfolding snapshot_text
  prefix_of_cells a b c first part = prefix_before a c body (sha256 body)
      (subst (AppendsPrefix a c) body_is (prefix_after a b c piece cells first part))

  written_body : (a b c : Option (List ℕ)) → Appends a b piece → Appends b c cells → Appends a c body
  written_body a b c first second = subst (Appends a c) body_is (Appends-trans a b c piece cells first second)

  pub prefix_of_digest : (a b c d : Option (List ℕ)) (digest : List ℕ) → Appends a b piece
      → Appends b c (flat_map (cell_text latest) es) → digest ≡ sha256 (body_text latest s o es)
      → AppendsPrefix c d digest → AppendsPrefix a d (snapshot_text latest s o es)
  unfolding snapshot_text
  prefix_of_digest a b c d digest first second e part =
      prefix_after a c d body (sha256 body) (written_body a b c first second) (subst (AppendsPrefix c d) e part)

  pub written_whole : (a b c d : Option (List ℕ)) (digest : List ℕ) → Appends a b piece
      → Appends b c (flat_map (cell_text latest) es) → digest ≡ sha256 (body_text latest s o es) → Appends c d digest
      → Appends a d (snapshot_text latest s o es)
  unfolding snapshot_text
  written_whole a b c d digest first second e last =
      Appends-trans a c d body (sha256 body) (written_body a b c first second) (subst (Appends c d) e last)
