-- What is read of the head, whatever the bytes are: how many archives there are, and what was added since.
use Rattle.std.proofs.Common.{◌≡◌, ℕ, suc, ◌+◌, ◌-◌, ◌*◌, ◌<◌, ◌≤◌, Bool, cond, List, length, take, drop, map, Some, None, Ok, sym, ap, ◌∙◌, arith}
use Rattle.std.specs.Prelude.{nat_lt}
use Rattle.std.specs.Cmp.Lexicographic.{bytes_decides}
use Rattle.std.specs.List.{find, flat_map, range_with_len}
use Rattle.std.proofs.lemmas.Bool.{ltb-false}
use Rattle.std.proofs.lemmas.List.{length-take}
use Rattle.rr_schema.specs.declared.added.Addition.{Addition}
use Rattle.rr_schema.specs.declared.added.Addition.TheVariants.{Archive}
use Rattle.rr_schema.specs.Added.{IsAddition, older, had_archives}
use Rattle.rr_schema.specs.Schema.{Layout}
use Rattle.rr_schema.specs.SchemaBytes.{archive_bytes}
use Rattle.rr_schema.proofs.AdditionLemmas.{found_addition}
use Rattle.rr_schema.proofs.SchemaBytesLemmas.{archives_len}
use Rattle.rr_page.specs.declared.fault.PageFault.TheVariants.{Short}
use Rattle.rr_page.specs.declared.version.Version.{Version}
use Rattle.rr_page.specs.Reading.{prefix_at}
use Rattle.rr_page.specs.Version.{has_masks_for}
use Rattle.rr_page.proofs.FieldLemmas.{ok_is, unless_ok}
use Rattle.rr_page.proofs.HeadLemmas.{both}
use Rattle.rr_snapshot.specs.SnapshotReading.{fits_addition, fitting_addition}

-- the first of the archives that are left decides, or those after it do
pub archives_left : (test : Addition → Bool) (k n : ℕ) → k < n
    → find test (map Archive (range_with_len k (n - k)))
    ≡ cond (test (Archive k)) (Some (Archive k)) (find test (map Archive (range_with_len (k + 1) (n - (k + 1)))))
archives_left test k n less = let more : n - k ≡ suc (n - (k + 1)) = omega (arith, less) in
    ap (λ m. find test (map Archive (range_with_len k m))) more

pub none_left : (test : Addition → Bool) (k n : ℕ) → n ≤ k → find test (map Archive (range_with_len k (n - k))) ≡ None
none_left test k n all = let none : n - k ≡ 0 = omega (arith, all) in
    ap (λ m. find test (map Archive (range_with_len k m))) none

-- ---- how many archives there are

prefix_len : (len : ℕ) (bytes field rest : List ℕ) → prefix_at len bytes ≡ Ok (field, rest) → length field ≡ len
prefix_len len bytes field rest e =
    let g = unless_ok Short (nat_lt (length bytes) len) (Ok (take len bytes, drop len bytes)) (field, rest) e in
    let is = ok_is (take len bytes, drop len bytes) (field, rest) g.1 in
    let fits : len ≤ length bytes = ltb-false _ _ g.0 in
    sym (ap (λ (p : List ℕ × List ℕ). length p.0) is) ∙ omega (arith, fits, length-take len bytes)

-- as many as the schema had before what was added since
pub fitting_archives : (v : Version) (s : Layout) (n : ℕ) (bytes field rest : List ℕ) (a : Addition)
    → prefix_at (9 * n) bytes ≡ Ok (field, rest) → fitting_addition v s field ≡ Some a
    → IsAddition s a × (n ≡ length (older s a).archives)
fitting_archives v s n bytes field rest a e told =
    let found = found_addition s (fits_addition v s field) a told in
    let archives = flat_map archive_bytes (older s a).archives in
    let same : field ≡ archives = (bytes_decides field archives).0
    (both (has_masks_for v (older s a)) (had_archives s field a) found.1).1 in
    (found.0, omega (arith, prefix_len (9 * n) bytes field rest e, ap length same, archives_len (older s a).archives))
