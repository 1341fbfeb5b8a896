-- A cell from a stream: a buffer whose prefix grows, and what its bytes say of all that the stream has.
use Rattle.std.proofs.Common.{◌≡◌, ℕ, ◌+◌, ◌<◌, ◌≤◌, Bool, true, false, List, [], ◌++◌, length, take, Option, None, Some, IfSome, Result, Ok, Err, refl, sym, ap, subst, ◌∙◌, ◌⊎◌, arith, inl, inr, append_assoc, length-take-le, take-add, take-take, take_at, drop_at}
use Rattle.std.specs.Prelude.{IsOk, ◌-◌}
use Rattle.std.specs.Int.{w16}
use Rattle.std.specs.Io.KnownBytes.{Consumes, IsAtEnd}
use Rattle.std.proofs.KnownBytes.{Consumes-trans}
use Rattle.std.proofs.lemmas.List.{append-nil, nil_from_length, length-append}
use Rattle.std.proofs.lemmas.Slice.{take-put_mid}
use borrow.Rule.Slice.PartMut.{put_mid}
use Rattle.rr_io.specs.Stream.{TakesAtMost}
use Rattle.rr_schema.specs.Schema.{Layout}
use Rattle.rr_cells.specs.CellBounds.{NamedCell}
use Rattle.rr_page.specs.declared.fault.PageFault.{PageFault}
use Rattle.rr_page.specs.declared.fault.PageFault.TheVariants as page
use Rattle.rr_page.specs.declared.fault.PageFault.TheVariants.{Short}
use Rattle.rr_page.specs.declared.version.Version.{Version}
use Rattle.rr_page.specs.Version.{fields_len}
use Rattle.rr_page.specs.Reading.{number_at, cell_at}
use Rattle.rr_page.proofs.PrefixLemmas.{ReadsPrefix-number, ReadsPrefix-cell, extended}
use Rattle.rr_snapshot.specs.declared.fault.LoadFault.TheVariants as why
use Rattle.rr_snapshot.specs.Fault.{load_fault}
use Rattle.rr_snapshot.specs.SnapshotReading.{as_in_page}
use Rattle.rr_snapshot.specs.Stream.{len_by, whole_len, Adds, HasRead}
use Rattle.rr_snapshot.proofs.WidthLemmas.{HasWidth-number, HasWidth-cell, is_bad_len, short_len, bad_len, good_len, number_err}

-- the prefix of a buffer has n bytes more, once its part from a on is overwritten
pub filled_more : (xs ys : List ℕ) (a k n : ℕ) → a ≤ length xs → n ≤ length ys
    → take (a + n) (put_mid a k xs ys) ≡ take a xs ++ take n ys
filled_more xs ys a k n le few =
    let all = put_mid a k xs ys in
    let prefix = length-take-le a xs le in
    sym (take-take (a + n) (a + length ys) all (omega arith))
    ∙ ap (take (a + n)) (take-put_mid a k xs ys (a + length ys) refl le)
    ∙ take-add a n (take a xs ++ ys)
    ∙ (λ i. take_at (take a xs) ys a prefix i ++ take n (drop_at (take a xs) ys a prefix i))

-- the bytes read so far say what all bytes say
pub record Decides (v : Version) (s : Layout) (bytes rest : List ℕ) : Type 0 where
  pub ok : (e : NamedCell) (r : List ℕ) → cell_at v s bytes ≡ Ok (e, r) → cell_at v s (bytes ++ rest) ≡ Ok (e, rest)
  pub err : (fault : PageFault) → cell_at v s bytes ≡ Err fault → cell_at v s (bytes ++ rest) ≡ Err fault

-- nothing follows, and no cell is at the beginning
at_end : (v : Version) (s : Layout) (bytes rest : List ℕ) → rest ≡ [] → cell_at v s bytes ≡ Err Short
    → Decides v s bytes rest
at_end v s bytes rest none short = record {
  ok = λ e r is. absurd (cc (sym short ∙ is));
  err = λ fault is. ap (λ (l : List ℕ). cell_at v s (bytes ++ l)) none ∙ ap (cell_at v s) (append-nil bytes) ∙ is;
}

both_nil : (a b : List ℕ) → a ++ b ≡ [] → (a ≡ []) × (b ≡ [])
both_nil a b e =
    let n : length a + length b ≡ 0 = omega (arith, length-append a b, ap length e) in
    (nil_from_length a (omega (arith, n)), nil_from_length b (omega (arith, n)))

module _ (v : Version) (s : Layout) (head after rest : List ℕ)
    (no_length : length head < 2 → after ++ rest ≡ []) (no_more : length (head ++ after) < whole_len v head → rest ≡ [])
    (few : length (head ++ after) ≤ whole_len v head) where
  abbrev so_far : List ℕ
  so_far = head ++ after

  whole : (n : ℕ) (hr : List ℕ) → is_bad_len v s head n ≡ false → len_by v head (Ok (n, hr)) ≡ fields_len v + n
  whole n hr w = rw w refl

  by_cell : (n : ℕ) (hr : List ℕ) → number_at w16 head ≡ Ok (n, hr) → number_at w16 so_far ≡ Ok (n, hr ++ after)
      → is_bad_len v s head n ≡ false
      → (cell_at v s so_far ≡ Err Short) ⊎ (cell_at v s (so_far ++ rest) ≡ extended rest (cell_at v s so_far))
      → Decides v s so_far rest
  unfolding extended
  by_cell n hr e0 e1 good (inl short) =
      let len : whole_len v head ≡ fields_len v + n = ap (len_by v head) e0 ∙ whole n hr good in
      let low = (HasWidth-cell v s n).short (hr ++ after) (sym (good_len v s so_far n (hr ++ after) e1 good) ∙ short) in
      let all = (HasWidth-number w16).taken so_far (n, hr ++ after) e1 in
      at_end v s so_far rest (no_more (omega (arith, len, low, all))) short
  by_cell n hr e0 e1 good (inr same) =
      let len : whole_len v head ≡ fields_len v + n = ap (len_by v head) e0 ∙ whole n hr good in
      let all = (HasWidth-number w16).taken so_far (n, hr ++ after) e1 in
      record {
        ok = λ e r is.
            let took = (HasWidth-cell v s n).taken (hr ++ after) (e, r)
            (sym (good_len v s so_far n (hr ++ after) e1 good) ∙ is) in
            let none : r ≡ [] = nil_from_length r (omega (arith, few, len, all, took)) in
            same ∙ ap (extended rest) is ∙ ap (λ (l : List ℕ). Ok (e, l ++ rest)) none;
        err = λ fault is. same ∙ ap (extended rest) is;
      }

  by_bad_len : (n : ℕ) (r : List ℕ) → number_at w16 so_far ≡ Ok (n, r) → is_bad_len v s head n ≡ true
      → (cell_at v s so_far ≡ Err Short) ⊎ (cell_at v s (so_far ++ rest) ≡ extended rest (cell_at v s so_far))
      → Decides v s so_far rest
  unfolding extended
  by_bad_len n r e1 bad (inl short) = absurd (cc (sym short ∙ bad_len v s so_far n r e1 bad))
  by_bad_len n r e1 bad (inr same) = record {
    ok = λ e left is. absurd (cc (sym (bad_len v s so_far n r e1 bad) ∙ is));
    err = λ fault is. same ∙ ap (extended rest) is;
  }

  by_len : (n : ℕ) (hr : List ℕ) → number_at w16 head ≡ Ok (n, hr) → number_at w16 so_far ≡ Ok (n, hr ++ after)
      → (b : Bool) → is_bad_len v s head n ≡ b → Decides v s so_far rest
  by_len n hr e0 e1 true bad = by_bad_len n (hr ++ after) e1 bad ((ReadsPrefix-cell v s).more so_far rest)
  by_len n hr e0 e1 false good = by_cell n hr e0 e1 good ((ReadsPrefix-cell v s).more so_far rest)

  grown : (n : ℕ) (hr : List ℕ) → number_at w16 head ≡ Ok (n, hr) → number_at w16 so_far ≡ Ok (n, hr ++ after)
  unfolding extended
  grown n hr e =
      elim ((ReadsPrefix-number w16).more head after) [
        | inl t ↦ absurd (cc (sym t ∙ e))
        | inr t ↦ t ∙ ap (extended after) e
      ]

  by_length : (r : Result (ℕ × List ℕ) PageFault) → number_at w16 head ≡ r → Decides v s so_far rest
  by_length (Err fault) e =
      let short = number_err w16 head fault e in
      let none = both_nil after rest (no_length ((HasWidth-number w16).short head short)) in
      at_end v s so_far rest none.1 (ap (λ (l : List ℕ). cell_at v s (head ++ l)) none.0
      ∙ ap (cell_at v s) (append-nil head) ∙ short_len v s head short)
  by_length (Ok x) e = by_len x.0 x.1 e (grown x.0 x.1 e) (is_bad_len v s head x.0) refl

  pub decided : Decides v s (head ++ after) rest
  decided = by_length (number_at w16 head) refl

-- ---- a stream whose bytes may be known

-- what all the bytes are, and that those in the buffer decide
pub Known : Version → Layout → Option (List ℕ) → List ℕ → List ℕ → Type 0
Known v s new bytes all = (rest : List ℕ) × (new ≡ Some rest) × (all ≡ bytes ++ rest) × Decides v s bytes rest

known : (v : Version) (s : Layout) (old mid new : Option (List ℕ)) (head bytes : List ℕ) → Adds old mid [] head
    → Adds mid new head bytes → (length head < 2 → IsAtEnd mid) → (length bytes < whole_len v head → IsAtEnd new)
    → length bytes ≤ whole_len v head
    → IfSome old (λ all. Known v s new bytes all)
unfolding Known
known v s None mid new head bytes first second end0 end1 few = tt
known v s (Some all) None new head bytes first second end0 end1 few = absurd first.2
known v s (Some all) (Some m) None head bytes first second end0 end1 few = absurd second.2
known v s (Some all) (Some m) (Some rest) head bytes first second end0 end1 few =
    let after = second.0 in
    let is : bytes ≡ head ++ after = second.1 in
    let whole : all ≡ bytes ++ rest = first.2 ∙ (λ i. sym first.1 i ++ second.2 i) ∙ sym (append_assoc head after rest)
    ∙ ap (λ (l : List ℕ). l ++ rest) (sym is) in
    let dec = decided v s head after rest (λ lt. sym second.2 ∙ end0 lt)
    (λ lt. end1 (subst (λ (l : List ℕ). length l < whole_len v head) (sym is) lt))
    (subst (λ (l : List ℕ). length l ≤ whole_len v head) is few) in
    (rest, refl, whole, subst (λ (l : List ℕ). Decides v s l rest) (sym is) dec)

known_ok : (v : Version) (s : Layout) (old new : Option (List ℕ)) (bytes : List ℕ) (e : NamedCell) (r : List ℕ)
    → IfSome old (λ all. Known v s new bytes all) → cell_at v s bytes ≡ Ok (e, r)
    → IfSome old (λ all. (rest : List ℕ) × (new ≡ Some rest) × (as_in_page (cell_at v s all) ≡ Ok (e, rest)))
unfolding Known
known_ok v s None new bytes e r k is = tt
known_ok v s (Some all) new bytes e r k is = (
  k.0,
  k.1,
  ap (λ (l : List ℕ). as_in_page (cell_at v s l)) k.2
      ∙ ap as_in_page (k.3.ok e r is),
)

known_err : (v : Version) (s : Layout) (old new : Option (List ℕ)) (bytes : List ℕ) (fault : PageFault)
    → IfSome old (λ all. Known v s new bytes all) → cell_at v s bytes ≡ Err fault
    → IfSome old (λ all. as_in_page (cell_at v s all) ≡ Err (load_fault fault))
unfolding Known
known_err v s None new bytes fault k is = tt
known_err v s (Some all) new bytes fault k is = ap (λ (l : List ℕ). as_in_page (cell_at v s l)) k.2
    ∙ ap as_in_page (k.3.err fault is)

known_some : (v : Version) (s : Layout) (old new : Option (List ℕ)) (bytes : List ℕ)
    (r : Result (NamedCell × List ℕ) PageFault) → IfSome old (λ all. Known v s new bytes all) → cell_at v s bytes ≡ r
    → IsOk r → HasRead old new (cell_at v s)
unfolding Known
known_some v s None new bytes r k e is = tt
known_some v s (Some all) new bytes (Err fault) k e is = absurd (cc is)
known_some v s (Some all) new bytes (Ok x) k e is = (x.0, k.0, k.1, ap (cell_at v s) k.2 ∙ k.3.ok x.0 x.1 e)

-- only the faults of memory are faults of memory
pub of_memory : (fault : PageFault) → load_fault fault ≡ why.Memory → fault ≡ page.Memory
of_memory page.Memory e = refl
of_memory page.Short e = absurd (cc e)
of_memory page.BadMagic e = absurd (cc e)
of_memory page.BadVersion e = absurd (cc e)
of_memory page.SchemaDiffers e = absurd (cc e)
of_memory page.TooManyCells e = absurd (cc e)
of_memory page.BadKey e = absurd (cc e)
of_memory page.BadArchive e = absurd (cc e)
of_memory page.BadContribution e = absurd (cc e)
of_memory page.OutOfOrder e = absurd (cc e)
of_memory page.TrailingBytes e = absurd (cc e)

-- the bytes in the buffer and those after them are at most so many
pub took_at_most : (old mid new : Option (List ℕ)) (head : List ℕ) (len most : ℕ) → Adds old mid [] head
    → TakesAtMost (len - length head) mid new → length head ≤ len → len ≤ most → TakesAtMost most old new
took_at_most old mid new head len most first second more fits = (
  first.0 ++ second.0,
  omega (arith, length-append first.0 second.0, ap length first.1, second.1, more, fits),
  Consumes-trans old mid new first.0 second.0 first.2 second.2,
)

module _ (v : Version) (s : Layout) (old mid new : Option (List ℕ)) (head bytes : List ℕ) (first : Adds old mid [] head)
    (second : Adds mid new head bytes)
    (end0 : length head < 2 → IsAtEnd mid) (end1 : length bytes < whole_len v head → IsAtEnd new)
    (few : length bytes ≤ whole_len v head) where
  pub stream_ok : (e : NamedCell) (r : List ℕ) → cell_at v s bytes ≡ Ok (e, r)
      → IfSome old (λ all. (rest : List ℕ) × (new ≡ Some rest) × (as_in_page (cell_at v s all) ≡ Ok (e, rest)))
  stream_ok e r is = known_ok v s old new bytes e r (known v s old mid new head bytes first second end0 end1 few) is

  pub stream_some : IsOk (cell_at v s bytes) → HasRead old new (cell_at v s)
  stream_some is = known_some v s old new bytes (cell_at v s bytes)
      (known v s old mid new head bytes first second end0 end1 few) refl is

  pub stream_err : (fault : PageFault) → cell_at v s bytes ≡ Err fault
      → IfSome old (λ all. as_in_page (cell_at v s all) ≡ Err (load_fault fault))
  stream_err fault is = known_err v s old new bytes fault (known v s old mid new head bytes first second end0 end1 few)
      is

pub stream_took : (old mid new : Option (List ℕ)) (head bytes : List ℕ) → Adds old mid [] head → Adds mid new head bytes
    → Consumes old new bytes
stream_took old mid new head bytes first second =
    subst (Consumes old new) (ap (λ (l : List ℕ). l ++ second.0) (sym first.1) ∙ sym second.1)
    (Consumes-trans old mid new first.0 second.0 first.2 second.2)
