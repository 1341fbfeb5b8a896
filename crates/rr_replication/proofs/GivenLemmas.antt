-- Parts of a journal's files.
use Rattle.std.proofs.Common.{◌≡◌, ℕ, zero, suc, ◌+◌, ◌-◌, ◌<◌, ◌≤◌, Bool, true, false, List, [], ◌∷◌, ◌++◌, length, drop, take, Option, None, Some, IfSome, refl, sym, ap, subst, ◌∙◌, arith}
use Rattle.std.specs.Prelude.{min, max, nat_le, nat_lt, ◌==◌, if◌then◌else◌}
use Rattle.std.specs.List.{AllByRecursion, Contains, concat}
use Rattle.std.proofs.lemmas.Bool.{eq-eqb, ne_eqb, eqb-false, lt-ltb, le-ltb, leb-true, leb-false, ltb-true, ltb-false}
use Rattle.std.proofs.lemmas.List.{drop-append-le, drop-drop, length-append, length-drop, length-take, take-append-le}
use Rattle.std.proofs.lemmas.List.Elements.{Contains-append_right, Contains-get_or}
use Rattle.std.proofs.Math.Seq.{drop-append-add, take-add}
use Rattle.rr_replication.specs.declared.part.Part.TheVariants.{Bytes, Nothing, Gone}
use Rattle.rr_replication.specs.declared.part.TheConstants.{MAX_PART}
use Rattle.rr_replication.specs.Files.{AreWithin, HaveBytes, PartsAreWithin, PartsComeToTheEnd, bytes_of, file_at, given, offsets}
use Rattle.rr_replication.specs.Part.{begins_at, ends_at, later, latest, part_from, part_in}

-- ---- where a file begins

abbrev IsBegun : List ℕ → ℕ → Option ℕ → Type 0
IsBegun files from begin = IfSome begin (λ b. Contains files b × (b ≤ from))

further : (files : List ℕ) (from file : ℕ) (begin : Option ℕ) → IsBegun files from begin
    → IsBegun (file ∷ files) from begin
further files from file None h = tt
further files from file (Some b) h = (Contains-append_right (file ∷ []) files b h.0, h.1)

this_one : (files : List ℕ) (from file : ℕ) → file ≤ from → IsBegun (file ∷ files) from (Some file)
this_one files from file le = (Contains-get_or (file ∷ files) 0 file (omega (arith, le)), le)

latest_begun : (files : List ℕ) (from file : ℕ) (begin : Option ℕ) → file ≤ from → IsBegun files from begin
    → IsBegun (file ∷ files) from (latest begin file)
latest_begun files from file None le h = this_one files from file le
latest_begun files from file (Some b) le h = by_test (nat_le b file) refl
  where
    by_test : (t : Bool) → nat_le b file ≡ t → IsBegun (file ∷ files) from (Some (max b file))
    by_test true t =
        let is : file ≡ max b file = omega (arith, leb-true _ _ t) in
        subst (λ (n : ℕ). IsBegun (file ∷ files) from (Some n)) is (this_one files from file le)
    by_test false t =
        let is : b ≡ max b file = omega (arith, leb-false _ _ t) in
        subst (λ (n : ℕ). IsBegun (file ∷ files) from (Some n)) is (further files from file (Some b) h)

is_begun : (files : List ℕ) (from : ℕ) → IsBegun files from (begins_at files from)
is_begun [] from = tt
is_begun (file ∷ files) from = by_test (nat_lt from file) refl (is_begun files from)
  where
    by_test : (t : Bool) → nat_lt from file ≡ t → IsBegun files from (begins_at files from)
        → IsBegun (file ∷ files) from (if t then begins_at files from else latest (begins_at files from) file)
    by_test true t h = further files from file (begins_at files from) h
    by_test false t h = latest_begun files from file (begins_at files from) (ltb-false _ _ t) h

-- ---- where it ends

all_weaker : (P Q : ℕ → Type 0) (xs : List ℕ) → ((x : ℕ) → P x → Q x) → AllByRecursion P xs → AllByRecursion Q xs
all_weaker P Q [] f h = tt
all_weaker P Q (x ∷ xs) f h = (f x h.0, all_weaker P Q xs f h.1)

-- where the bytes from an offset on end
record IsEnd (files : List ℕ) (end from until : ℕ) : Type 0 where
  behind : from < until
  within : until ≤ end
  alone : AllByRecursion (λ other. from < other → until ≤ other) files

is_end : (files : List ℕ) (end from : ℕ) → from < end → IsEnd files end from (ends_at files end from)
is_end [] end from lt = record { behind = lt; within = omega arith; alone = tt }
is_end (file ∷ files) end from lt = by_test (nat_lt from file) refl (is_end files end from lt)
  where
    by_test : (t : Bool) → nat_lt from file ≡ t → IsEnd files end from (ends_at files end from)
        → IsEnd (file ∷ files) end from (if t then min (ends_at files end from) file else ends_at files end from)
    by_test true t h = record {
      behind = omega (arith, h.behind, ltb-true _ _ t);
      within = omega (arith, h.within);
      alone = (
        λ above. omega arith,
        all_weaker (λ other. from < other → ends_at files end from ≤ other)
            (λ other. from < other → min (ends_at files end from) file ≤ other) files
            (λ other g above. omega (arith, g above)) h.alone,
      );
    }
    by_test false t h = record {
      behind = h.behind;
      within = h.within;
      alone = (λ above. absurd (omega (arith, above, ltb-false _ _ t)), h.alone);
    }

-- ---- any part

same_part : (a b c file skip len : ℕ) → Bytes a b c ≡ Bytes file skip len → (a ≡ file) × (b ≡ skip) × (c ≡ len)
same_part a b c file skip len e = (cc e, cc e, cc e)

pub parts_are_within : PartsAreWithin
parts_are_within files end from file skip len e =
    by_begin (begins_at files from) (is_begun files from) e
  where
    by_begin : (begin : Option ℕ) → IsBegun files from begin
        → part_in begin (ends_at files end from) end from ≡ Bytes file skip len → AreWithin files end from file skip len
    by_begin None h e = absurd (cc e)
    by_begin (Some b) h e = by_tests (nat_lt end from) (end == from) refl refl e
      where
        by_tests : (t u : Bool) → nat_lt end from ≡ t → (end == from) ≡ u
            → (if t then Gone else (if u then Nothing else Bytes b (from - b) (min (ends_at files end from - from) MAX_PART)))
            ≡ Bytes file skip len → AreWithin files end from file skip len
        by_tests true u t1 u1 e = absurd (cc e)
        by_tests false true t1 u1 e = absurd (cc e)
        by_tests false false t1 u1 e =
            let before : from < end = omega (arith, ltb-false _ _ t1, eqb-false _ _ u1) in
            let is = same_part b (from - b) (min (ends_at files end from - from) MAX_PART) file skip len e in
            let until = is_end files end from before in
            record {
              begins = subst (Contains files) is.0 h.0;
              skipped = omega (arith, is.0, is.1, h.1);
              some = omega (arith, is.2, until.behind);
              few = omega (arith, is.2);
              ends = omega (arith, is.2, until.within, until.behind);
              alone = all_weaker (λ other. from < other → ends_at files end from ≤ other)
                  (λ other. from < other → from + len ≤ other) files
                  (λ other g above. omega (arith, g above, is.2, until.behind)) until.alone;
            }

-- ---- in files that join up

have_others : (bytes : List ℕ) (files : List (List ℕ)) → HaveBytes (bytes ∷ files) → HaveBytes files
have_others bytes [] h = tt
have_others bytes (next ∷ files) h = h.1

none_begun : (begin from : ℕ) (files : List (List ℕ)) → from < begin → begins_at (offsets begin files) from ≡ None
none_begun begin from [] lt = refl
none_begun begin from (bytes ∷ files) lt =
    ap (λ (o : Option ℕ). later o begin from) (none_begun (begin + length bytes) from files (omega (arith, lt)))
    ∙ ap (λ (t : Bool). if t then None else latest None begin) (lt-ltb _ _ lt)

ends_first : (begin end from : ℕ) (files : List (List ℕ)) → from < begin → end ≤ begin + length (concat files)
    → ends_at (offsets begin files) end from ≤ begin
ends_first begin end from [] lt fits = omega (arith, fits)
ends_first begin end from (bytes ∷ files) lt fits =
    let rest = ends_at (offsets (begin + length bytes) files) end from in
    let is : (if nat_lt from begin then min rest begin else rest) ≡ min rest begin =
    ap (λ (t : Bool). if t then min rest begin else rest) (lt-ltb _ _ lt) in
    subst (λ (n : ℕ). n ≤ begin) (sym is) (omega arith)

-- the file that has the byte at an offset, and its bytes among all
record IsFound (begin end from : ℕ) (files : List (List ℕ)) : Type 0 where
  offset : ℕ
  begun : begins_at (offsets begin files) from ≡ Some offset
  low : begin ≤ offset
  near : offset ≤ from
  rest : List ℕ
  seam : drop (offset - begin) (concat files) ≡ file_at begin files offset ++ rest
  until : ends_at (offsets begin files) end from ≤ offset + length (file_at begin files offset)

-- the first file has it
in_first : (begin end from : ℕ) (bytes : List ℕ) (files : List (List ℕ)) → begin ≤ from → from < begin + length bytes
    → end ≤ begin + length (concat (bytes ∷ files)) → IsFound begin end from (bytes ∷ files)
in_first begin end from bytes files low lt fits =
    let mid = begin + length bytes in
    let there : file_at begin (bytes ∷ files) begin ≡ bytes =
    ap (λ (t : Bool). if t then bytes else file_at mid files begin) (eq-eqb begin begin refl) in
    let first = le-ltb from begin low in
    let rest_fits : end ≤ mid + length (concat files) = omega (arith, fits, length-append bytes (concat files)) in
    let rest = ends_at (offsets mid files) end from in
    record {
      offset = begin;
      begun = ap (λ (o : Option ℕ). later o begin from) (none_begun mid from files lt)
          ∙ ap (λ (t : Bool). if t then None else latest None begin) first;
      low = omega arith;
      near = low;
      rest = concat files;
      seam = ap (λ (n : ℕ). drop n (bytes ++ concat files)) (none_off begin)
          ∙ ap (λ (l : List ℕ). l ++ concat files) (sym there);
      until = subst (λ (l : List ℕ). ends_at (offsets begin (bytes ∷ files)) end from ≤ begin + length l) (sym there)
          (subst (λ (n : ℕ). n ≤ mid) (sym (ap (λ (t : Bool). if t then min rest begin else rest) first))
          (ends_first mid end from files lt rest_fits));
    }
  where
    none_off : (n : ℕ) → n - n ≡ 0
    none_off n = omega arith

-- a later one has it
in_later : (begin end from : ℕ) (bytes : List ℕ) (files : List (List ℕ)) → begin + length bytes ≤ from → 1 ≤ length bytes
    → IsFound (begin + length bytes) end from files → IsFound begin end from (bytes ∷ files)
in_later begin end from bytes files le some h =
    let mid = begin + length bytes in
    let o = h.offset in
    let first = le-ltb from begin (omega (arith, le)) in
    let other : (o ≡ begin) → ⊥ = λ e. absurd (omega (arith, e, h.low, some)) in
    let there : file_at begin (bytes ∷ files) o ≡ file_at mid files o =
    ap (λ (t : Bool). if t then bytes else file_at mid files o) (ne_eqb o begin other) in
    let rest = ends_at (offsets mid files) end from in
    let greater : max o begin ≡ o = omega (arith, h.low) in
    let behind : o - begin ≡ length bytes + (o - mid) = omega (arith, h.low) in
    record {
      offset = o;
      begun = ap (λ (b : Option ℕ). later b begin from) h.begun
          ∙ ap (λ (t : Bool). if t then Some o else latest (Some o) begin) first
          ∙ ap (λ (n : ℕ). Some n) greater;
      low = omega (arith, h.low);
      near = h.near;
      rest = h.rest;
      seam = ap (λ (n : ℕ). drop n (bytes ++ concat files)) behind
          ∙ drop-append-add bytes (concat files) (o - mid) ∙ h.seam
          ∙ ap (λ (l : List ℕ). l ++ h.rest) (sym there);
      until = subst (λ (l : List ℕ). ends_at (offsets begin (bytes ∷ files)) end from ≤ o + length l) (sym there)
          (subst (λ (n : ℕ). n ≤ o + length (file_at mid files o))
          (sym (ap (λ (t : Bool). if t then min rest begin else rest) first)) h.until);
    }

is_found : (begin end from : ℕ) (files : List (List ℕ)) → HaveBytes files → begin ≤ from → from < end
    → end ≤ begin + length (concat files) → IsFound begin end from files
is_found begin end from [] have low lt fits = absurd (omega (arith, low, lt, fits))
is_found begin end from (bytes ∷ files) have low lt fits =
    by_test (nat_lt from (begin + length bytes)) refl
    (λ le. is_found (begin + length bytes) end from files (have_others bytes files have) le lt
    (omega (arith, fits, length-append bytes (concat files))))
  where
    some : (others : List (List ℕ)) → HaveBytes (bytes ∷ others) → begin + length bytes ≤ from
        → end ≤ begin + length (concat (bytes ∷ others)) → 1 ≤ length bytes
    some [] have le fits = absurd (omega (arith, lt, le, fits, length-append bytes []))
    some (next ∷ others) have le fits = have.0

    by_test : (t : Bool) → nat_lt from (begin + length bytes) ≡ t
        → (begin + length bytes ≤ from → IsFound (begin + length bytes) end from files)
        → IsFound begin end from (bytes ∷ files)
    by_test true t later = in_first begin end from bytes files low (ltb-true _ _ t) fits
    by_test false t later =
        let le = ltb-false _ _ t in in_later begin end from bytes files le (some files have le fits) (later le)

-- ---- one after the other

-- a part is the bytes there
pub record IsPart (begin end from until : ℕ) (all bytes : List ℕ) : Type 0 where
  pub len : ℕ
  pub long : len ≡ min (until - from) MAX_PART
  pub some : 1 ≤ len
  pub ends : from + len ≤ end
  pub is : bytes ≡ take len (drop (from - begin) all)

pub is_part : (begin end from : ℕ) (files : List (List ℕ)) → HaveBytes files → begin ≤ from → from < end
    → end ≤ begin + length (concat files)
    → IsPart begin end from (ends_at (offsets begin files) end from) (concat files)
    (bytes_of begin files (part_from (offsets begin files) end from))
is_part begin end from files have low lt fits =
    let h = is_found begin end from files have low lt fits in
    let o = h.offset in
    let until = ends_at (offsets begin files) end from in
    let len = min (until - from) MAX_PART in
    let ends = is_end (offsets begin files) end from lt in
    let not_equal : (end ≡ from) → ⊥ = λ e. absurd (omega (arith, e, lt)) in
    let part : part_from (offsets begin files) end from ≡ Bytes o (from - o) len =
    ap (λ (b : Option ℕ). part_in b until end from) h.begun
    ∙ ap (λ (t : Bool). if t then Gone else (if end == from then Nothing else Bytes o (from - o) len))
    (le-ltb end from (omega (arith, lt)))
    ∙ ap (λ (t : Bool). if t then Nothing else Bytes o (from - o) len) (ne_eqb end from not_equal) in
    let file = file_at begin files o in
    let apart : from - begin ≡ (o - begin) + (from - o) = omega (arith, h.low, h.near) in
    let within : from - o ≤ length file = omega (arith, h.until, ends.behind) in
    let few : len ≤ length (drop (from - o) file) =
    omega (arith, length-drop (from - o) file, h.until, ends.behind) in
    let there : take len (drop (from - begin) (concat files)) ≡ take len (drop (from - o) file) =
    ap (λ (n : ℕ). take len (drop n (concat files))) apart
    ∙ ap (take len) (sym (drop-drop (from - o) (o - begin) (concat files)))
    ∙ ap (λ (l : List ℕ). take len (drop (from - o) l)) h.seam
    ∙ ap (take len) (drop-append-le (from - o) file h.rest within)
    ∙ take-append-le len (drop (from - o) file) h.rest few in
    record {
      len = len;
      long = refl;
      some = omega (arith, ends.behind);
      ends = omega (arith, ends.within, ends.behind);
      is = ap (bytes_of begin files) part ∙ sym there;
    }

none_taken : (n : ℕ) (xs : List ℕ) → n ≡ 0 → take n xs ≡ []
none_taken zero xs e = refl
none_taken (suc n) xs e = absurd (omega (arith, e))

pub no_bytes : (begin end from : ℕ) (files : List (List ℕ)) → end ≡ from
    → bytes_of begin files (part_from (offsets begin files) end from) ≡ []
no_bytes begin end from files e = by_begin (begins_at (offsets begin files) from)
  where
    by_test : (o : ℕ) (t : Bool) → bytes_of begin files (if t then Gone else (if end == from then Nothing
        else Bytes o (from - o) (min (ends_at (offsets begin files) end from - from) MAX_PART))) ≡ []
    by_test o true = refl
    by_test o false = ap (λ (u : Bool). bytes_of begin files (if u then Nothing
        else Bytes o (from - o) (min (ends_at (offsets begin files) end from - from) MAX_PART))) (eq-eqb end from e)

    by_begin : (b : Option ℕ) → bytes_of begin files (part_in b (ends_at (offsets begin files) end from) end from) ≡ []
    by_begin None = refl
    by_begin (Some o) = by_test o (nat_lt end from)

nothing_given : (n begin end from : ℕ) (files : List (List ℕ)) → end ≡ from → given n begin files end from ≡ []
nothing_given zero begin end from files e = refl
nothing_given (suc n) begin end from files e =
    ap (λ (l : List ℕ). l ++ given n begin files end (from + length l)) (no_bytes begin end from files e)
    ∙ nothing_given n begin end (from + 0) files (omega (arith, e))

pub parts_come_to_the_end : PartsComeToTheEnd
parts_come_to_the_end zero begin end from files have low high fits enough =
    sym (none_taken (end - from) (drop (from - begin) (concat files)) (omega (arith, enough)))
parts_come_to_the_end (suc n) begin end from files have low high fits enough =
    by_test (nat_lt from end) refl
    (λ k le ends. parts_come_to_the_end n begin end k files have le ends fits)
  where
    by_test : (t : Bool) → nat_lt from end ≡ t
        → ((k : ℕ) → begin ≤ k → k ≤ end → end ≤ k + n
        → given n begin files end k ≡ take (end - k) (drop (k - begin) (concat files)))
        → given (suc n) begin files end from ≡ take (end - from) (drop (from - begin) (concat files))
    by_test false t later =
        let same : end ≡ from = omega (arith, high, ltb-false _ _ t) in
        nothing_given (suc n) begin end from files same
        ∙ sym (none_taken (end - from) (drop (from - begin) (concat files)) (omega (arith, same)))
    by_test true t later =
        let all = concat files in
        let h = is_part begin end from files have low (ltb-true _ _ t) fits in
        let bytes = bytes_of begin files (part_from (offsets begin files) end from) in
        let behind = drop (from - begin) all in
        let long : length bytes ≡ h.len =
        ap length h.is ∙ omega (arith, length-take h.len behind, length-drop (from - begin) all, h.ends, fits, low) in
        let next = from + length bytes in
        let apart : end - from ≡ length bytes + (end - next) = omega (arith, long, h.ends) in
        let on : next - begin ≡ (from - begin) + length bytes = omega (arith, low) in
        let is : bytes ≡ take (length bytes) behind = h.is ∙ ap (λ (k : ℕ). take k behind) (sym long) in
        ap (λ (l : List ℕ). bytes ++ l) (later next (omega (arith, low)) (omega (arith, long, h.ends))
        (omega (arith, long, h.some, enough)))
        ∙ ap (λ (k : ℕ). bytes ++ take (end - next) (drop k all)) on
        ∙ ap (λ (l : List ℕ). bytes ++ take (end - next) l) (sym (drop-drop (length bytes) (from - begin) all))
        ∙ ap (λ (l : List ℕ). l ++ take (end - next) (drop (length bytes) behind)) is
        ∙ sym (take-add (length bytes) (end - next) behind)
        ∙ ap (λ (k : ℕ). take k behind) (sym apart)
