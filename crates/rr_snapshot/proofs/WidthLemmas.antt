-- How many bytes a field, a cell and a head take, and how few are Short.
use Rattle.std.proofs.Common.{◌≡◌, ℕ, ◌+◌, ◌<◌, ◌≤◌, Bool, true, false, ◌||◌, not, ltb, List, length, take, drop, Result, Ok, Err, refl, sym, ap, subst, ◌∙◌, arith, length-drop}
use Rattle.std.specs.Prelude.{nat_lt, ◌==◌}
use Rattle.std.specs.Int.{Width, w8, w16, w64, w128, byte_len, from_be_bytes, cast_signed}
use Rattle.std.proofs.lemmas.Bool.{ltb-false, ltb-true}
use Rattle.rr_text.specs.declared.limits.TheConstants.{MAX_KEY_TEXT}
use Rattle.rr_text.specs.Results.{◌>>=◌, unless}
use Rattle.rr_schema.specs.Schema.{Layout}
use Rattle.rr_contrib.specs.Validity.{is_valid}
use Rattle.rr_key.specs.Reading.{is_key_text}
use Rattle.rr_cells.specs.CellBounds.{NamedCell}
use Rattle.rr_page.specs.declared.fault.PageFault.{PageFault}
use Rattle.rr_page.specs.declared.fault.PageFault.TheVariants.{Short, BadKey, BadArchive, BadContribution}
use Rattle.rr_page.specs.declared.version.Version.{Version}
use Rattle.rr_page.specs.Version.{mask_width}
use Rattle.rr_page.specs.Reading.{prefix_at, number_at, signed_at, key_at, archive_at, contribution_at, cell_at}
use Rattle.rr_page.proofs.PrefixLemmas.{Reader}

-- `k` bytes are taken, and fewer are there where it is Short
pub record HasWidth {A : Type 0} (k : ℕ) (r : Reader A) : Type 0 where
  pub taken : (bytes : List ℕ) (x : A × List ℕ) → r bytes ≡ Ok x → length x.1 + k ≡ length bytes
  pub short : (bytes : List ℕ) → r bytes ≡ Err Short → length bytes < k

pub HasWidth-field : (len : ℕ) → HasWidth len (prefix_at len)
HasWidth-field len = record {
  taken = λ bytes x e. by_len bytes x (ltb (length bytes) len) refl e;
  short = λ bytes e. is_short bytes (ltb (length bytes) len) refl e;
}
  where
    by_len : (bytes : List ℕ) (x : List ℕ × List ℕ) (b : Bool) → ltb (length bytes) len ≡ b → prefix_at len bytes ≡ Ok x
        → length x.1 + len ≡ length bytes
    by_len bytes x true e is = let h = sym (ap (λ (b : Bool). unless Short b (Ok (take len bytes, drop len bytes))) e)
        ∙ is in absurd (cc h)
    by_len bytes x false e is =
        let fits : len ≤ length bytes = ltb-false _ _ e in
        let h = sym (ap (λ (b : Bool). unless Short b (Ok (take len bytes, drop len bytes))) e) ∙ is in
        let same : (take len bytes, drop len bytes) ≡ x = cc h in
        subst (λ (p : List ℕ × List ℕ). length p.1 + len ≡ length bytes) same (omega (arith, length-drop len bytes))

    is_short : (bytes : List ℕ) (b : Bool) → ltb (length bytes) len ≡ b → prefix_at len bytes ≡ Err Short
        → length bytes < len
    is_short bytes true e is = ltb-true _ _ e
    is_short bytes false e is = let h = sym (ap (λ (b : Bool). unless Short b (Ok (take len bytes, drop len bytes))) e)
        ∙ is in absurd (cc h)

-- one reading after another
pub HasWidth-then : {A B : Type 0} (k m : ℕ) (r : Reader A) (f : A × List ℕ → Result (B × List ℕ) PageFault)
    → HasWidth k r → ((a : A) → HasWidth m (λ bytes. f (a, bytes))) → HasWidth (k + m) (λ bytes. r bytes >>= f)
HasWidth-then {A = A} {B = B} k m r f p q = record {
  taken = λ bytes x e. took bytes x (r bytes) refl e;
  short = λ bytes e. was_short bytes (r bytes) refl e;
}
  where
    took : (bytes : List ℕ) (x : B × List ℕ) (a : Result (A × List ℕ) PageFault) → r bytes ≡ a → (r bytes >>= f) ≡ Ok x
        → length x.1 + (k + m) ≡ length bytes
    took bytes x (Err d) e is = let h = sym (ap (λ y. y >>= f) e) ∙ is in absurd (cc h)
    took bytes x (Ok a) e is =
        let one = p.taken bytes a e in
        let two = (q a.0).taken a.1 x (sym (ap (λ y. y >>= f) e) ∙ is) in
        omega (arith, one, two)

    was_short : (bytes : List ℕ) (a : Result (A × List ℕ) PageFault) → r bytes ≡ a → (r bytes >>= f) ≡ Err Short
        → length bytes < k + m
    was_short bytes (Err d) e is =
        let h : d ≡ Short = cc (sym (ap (λ y. y >>= f) e) ∙ is) in
        let low = p.short bytes (e ∙ ap (λ y. Err y) h) in omega (arith, low)
    was_short bytes (Ok a) e is =
        let one = p.taken bytes a e in
        let two = (q a.0).short a.1 (sym (ap (λ y. y >>= f) e) ∙ is) in
        omega (arith, one, two)

-- an answer, unless a test refuses it
pub HasWidth-last : {A : Type 0} (fault : PageFault) (refused : Bool) (x : A) → (fault ≡ Short → ⊥)
    → HasWidth 0 (λ bytes. unless fault refused (Ok (x, bytes)))
HasWidth-last {A = A} fault true x other = record
    { taken = λ bytes y e. absurd (cc e); short = λ bytes e. absurd (other (cc e)) }
HasWidth-last {A = A} fault false x other = record {
  taken = λ bytes y e. let same : (x, bytes) ≡ y = cc e in
      subst (λ (p : A × List ℕ). length p.1 + 0 ≡ length bytes) same (omega arith);
  short = λ bytes e. absurd (cc e);
}

pub HasWidth-done : {A : Type 0} (x : A) → HasWidth 0 (λ bytes. Ok (x, bytes))
HasWidth-done x = HasWidth-last BadKey false x (λ e. absurd (cc e))

pub HasWidth-number : (w : Width) → HasWidth (byte_len w) (number_at w)
HasWidth-number w = same (HasWidth-then (byte_len w) 0 (prefix_at (byte_len w))
    (λ field. Ok (from_be_bytes w field.0, field.1)) (HasWidth-field (byte_len w))
    (λ a. HasWidth-done (from_be_bytes w a)))
  where
    same : HasWidth (byte_len w + 0) (number_at w) → HasWidth (byte_len w) (number_at w)
    same p = subst (λ k. HasWidth k (number_at w)) (omega arith) p

HasWidth-signed : (w : Width) → HasWidth (byte_len w) (signed_at w)
HasWidth-signed w = same (HasWidth-then (byte_len w) 0 (prefix_at (byte_len w))
    (λ field. Ok (cast_signed w (from_be_bytes w field.0), field.1)) (HasWidth-field (byte_len w))
    (λ a. HasWidth-done (cast_signed w (from_be_bytes w a))))
  where
    same : HasWidth (byte_len w + 0) (signed_at w) → HasWidth (byte_len w) (signed_at w)
    same p = subst (λ k. HasWidth k (signed_at w)) (omega arith) p

HasWidth-archive : (s : Layout) → HasWidth 1 (archive_at s)
unfolding archive_at
HasWidth-archive s = HasWidth-then 1 0 (number_at w8) _ (HasWidth-number w8)
    (λ a. HasWidth-last BadArchive _ a (λ e. absurd (cc e)))

HasWidth-contribution : (v : Version) → HasWidth (64 + byte_len (mask_width v)) (contribution_at v)
unfolding contribution_at
HasWidth-contribution v = same
    (HasWidth-then 8 _ (number_at w64) _ (HasWidth-number w64) (λ version.
    HasWidth-then 8 _ (number_at w64) _ (HasWidth-number w64) (λ count.
    HasWidth-then 16 _ (signed_at w128) _ (HasWidth-signed w128) (λ sum.
    HasWidth-then 8 _ (signed_at w64) _ (HasWidth-signed w64) (λ min.
    HasWidth-then 8 _ (signed_at w64) _ (HasWidth-signed w64) (λ max.
    HasWidth-then 8 _ (signed_at w64) _ (HasWidth-signed w64) (λ last_time.
    HasWidth-then 8 _ (signed_at w64) _ (HasWidth-signed w64) (λ last_value.
    HasWidth-then (byte_len (mask_width v)) 0 (number_at (mask_width v)) _ (HasWidth-number (mask_width v)) (λ mask.
    HasWidth-done (record {
      version = version;
      count = count;
      sum = sum;
      min = min;
      max = max;
      last_time =
          last_time;
      last_value = last_value;
      mask = mask;
    }))))))))))
  where
    same : HasWidth (8 + (8 + (16 + (8 + (8 + (8 + (8 + (byte_len (mask_width v) + 0)))))))) (contribution_at v)
        → HasWidth (64 + byte_len (mask_width v)) (contribution_at v)
    same p = subst (λ k. HasWidth k (contribution_at v)) (omega arith) p

-- ---- a cell after the length of its key

abbrev keyed : List ℕ × List ℕ → Result (List ℕ × List ℕ) PageFault
keyed text = unless BadKey (not (is_key_text text.0)) (Ok text)

abbrev after_key : Version → Layout → List ℕ × List ℕ → Result (NamedCell × List ℕ) PageFault
after_key v s key = archive_at s key.1 >>= λ archive. signed_at w64 archive.1 >>= λ slot. number_at w16 slot.1 >>=
    λ origin. contribution_at v origin.1 >>= λ c.
    unless BadContribution ((origin.0 == 0) || not (is_valid s archive.0 slot.0 c.0))
    (Ok ((record { key = key.0; archive = archive.0; slot = slot.0; origin = origin.0 }, c.0), c.1))

HasWidth-after_key : (v : Version) (s : Layout) (key : List ℕ)
    → HasWidth (1 + (8 + (2 + (64 + byte_len (mask_width v) + 0)))) (λ bytes. after_key v s (key, bytes))
HasWidth-after_key v s key =
    HasWidth-then 1 _ (archive_at s) _ (HasWidth-archive s) (λ archive.
    HasWidth-then 8 _ (signed_at w64) _ (HasWidth-signed w64) (λ slot.
    HasWidth-then 2 _ (number_at w16) _ (HasWidth-number w16) (λ origin.
    HasWidth-then (64 + byte_len (mask_width v)) 0 (contribution_at v) _ (HasWidth-contribution v) (λ c.
    HasWidth-last BadContribution _ (record { key = key; archive = archive; slot = slot; origin = origin }, c)
    (λ e. absurd (cc e))))))

pub cell_after_len : Version → Layout → ℕ → List ℕ → Result (NamedCell × List ℕ) PageFault
cell_after_len v s n bytes = (prefix_at n bytes >>= keyed) >>= after_key v s

pub HasWidth-cell : (v : Version) (s : Layout) (n : ℕ)
    → HasWidth (n + 0 + (1 + (8 + (2 + (64 + byte_len (mask_width v) + 0))))) (cell_after_len v s n)
unfolding cell_after_len
HasWidth-cell v s n =
    HasWidth-then (n + 0) _ (λ bytes. prefix_at n bytes >>= keyed) (after_key v s)
    (HasWidth-then n 0 (prefix_at n) keyed (HasWidth-field n)
    (λ key. HasWidth-last BadKey (not (is_key_text key)) key (λ e. absurd (cc e))))
    (HasWidth-after_key v s)

module _ (v : Version) (s : Layout) (bytes : List ℕ) where
  abbrev pub is_bad_len : ℕ → Bool
  is_bad_len n = (n == 0) || nat_lt MAX_KEY_TEXT n

  pub short_len : number_at w16 bytes ≡ Err Short → cell_at v s bytes ≡ Err Short
  unfolding cell_at key_at
  short_len e = ap (λ (r : Result (ℕ × List ℕ) PageFault).
      (r >>= λ (n : ℕ × List ℕ). unless BadKey (is_bad_len n.0) (prefix_at n.0 n.1) >>= keyed) >>= after_key v s) e

  pub bad_len : (n : ℕ) (rest : List ℕ) → number_at w16 bytes ≡ Ok (n, rest) → is_bad_len n ≡ true
      → cell_at v s bytes ≡ Err BadKey
  unfolding cell_at key_at
  bad_len n rest e out =
      ap (λ (r : Result (ℕ × List ℕ) PageFault). (r >>= λ (m : ℕ × List ℕ). unless BadKey (is_bad_len m.0)
      (prefix_at m.0 m.1) >>= keyed) >>= after_key v s) e
      ∙ ap (λ (b : Bool). (unless BadKey b (prefix_at n rest) >>= keyed) >>= after_key v s) out

  pub good_len : (n : ℕ) (rest : List ℕ) → number_at w16 bytes ≡ Ok (n, rest) → is_bad_len n ≡ false
      → cell_at v s bytes ≡ cell_after_len v s n rest
  unfolding cell_at key_at cell_after_len
  good_len n rest e within =
      ap (λ (r : Result (ℕ × List ℕ) PageFault). (r >>= λ (m : ℕ × List ℕ). unless BadKey (is_bad_len m.0)
      (prefix_at m.0 m.1) >>= keyed) >>= after_key v s) e
      ∙ ap (λ (b : Bool). (unless BadKey b (prefix_at n rest) >>= keyed) >>= after_key v s) within

pub number_err : (w : Width) (bytes : List ℕ) (fault : PageFault) → number_at w bytes ≡ Err fault
    → number_at w bytes ≡ Err Short
number_err w bytes fault e = by_test (ltb (length bytes) (byte_len w)) refl e
  where
    by_test : (b : Bool) → ltb (length bytes) (byte_len w) ≡ b → number_at w bytes ≡ Err fault
        → number_at w bytes ≡ Err Short
    by_test true t is = rw t refl
    by_test false t is = let h : number_at w bytes
        ≡ Ok (from_be_bytes w (take (byte_len w) bytes), drop (byte_len w) bytes) = rw t refl in
        absurd (cc (sym h ∙ is))
