-- Groups that are read one after the other.
use Rattle.std.proofs.Common.{◌≡◌, ℕ, zero, suc, ◌+◌, ◌<◌, ◌≤◌, Bool, true, false, ◌||◌, not, List, [], ◌∷◌, ◌++◌, length, Result, Ok, Err, refl, sym, ap, subst, ◌∙◌, append_assoc, append-nil, arith}
use Rattle.std.specs.Prelude.{nat_lt, ◌==◌, if◌then◌else◌}
use Rattle.std.specs.Int.{w8, w16, w32}
use Rattle.rr_text.specs.declared.limits.TheConstants.{MAX_KEY_TEXT}
use Rattle.rr_text.specs.Results.{◌>>=◌, unless}
use Rattle.rr_schema.specs.Schema.{Layout}
use Rattle.rr_key.specs.Reading.{is_key_text}
use Rattle.rr_codec.specs.Reading.{checked_count}
use Rattle.rr_journal.specs.declared.fault.JournalFault.{JournalFault}
use Rattle.rr_journal.specs.declared.fault.JournalFault.TheVariants.{BadKey, BadArchive}
use Rattle.rr_journal.specs.Body.{PackedCells, as_packed, key_at, archive_at, packed_at, group_at, groups_within, groups_of}
use Rattle.rr_journal.specs.Fields.{prefix_at, number_at}
use Rattle.rr_journal.specs.Groups.{rest_of}
use Rattle.rr_journal.proofs.FieldLemmas.{bind_ok, unless_ok, ok_is, prefix_shorter, number_shorter}

-- what is read, or a fault
abbrev pub Groups : Type 0
Groups = Result (List PackedCells) JournalFault

abbrev FirstGroup : Type 0
FirstGroup = Result (PackedCells × List ℕ) JournalFault

-- ---- a group takes some bytes

key_shorter : (bytes : List ℕ) (x : List ℕ × List ℕ) → key_at bytes ≡ Ok x → length x.1 + 2 ≤ length bytes
unfolding key_at
key_shorter bytes x e =
    let a = bind_ok (number_at w16 bytes) (λ len. unless BadKey ((len.0 == 0) || nat_lt MAX_KEY_TEXT len.0)
    (prefix_at len.0 len.1) >>= λ text. unless BadKey (not (is_key_text text.0)) (Ok text)) x e in
    let b = bind_ok (unless BadKey ((a.0.0 == 0) || nat_lt MAX_KEY_TEXT a.0.0) (prefix_at a.0.0 a.0.1))
    (λ text. unless BadKey (not (is_key_text text.0)) (Ok text)) x a.2 in
    let g = unless_ok BadKey ((a.0.0 == 0) || nat_lt MAX_KEY_TEXT a.0.0) (prefix_at a.0.0 a.0.1) b.0 b.1 in
    let h = unless_ok BadKey (not (is_key_text b.0.0)) (Ok b.0) x b.2 in
    subst (λ (p : List ℕ × List ℕ). length p.1 + 2 ≤ length bytes) (ok_is b.0 x h.1)
    (omega (arith, number_shorter w16 bytes a.0 a.1, prefix_shorter a.0.0 a.0.1 b.0 g.1))

archive_shorter : (s : Layout) (bytes : List ℕ) (x : ℕ × List ℕ) → archive_at s bytes ≡ Ok x
    → length x.1 ≤ length bytes
unfolding archive_at
archive_shorter s bytes x e =
    let a = bind_ok (number_at w8 bytes) (λ archive. unless BadArchive (not (nat_lt archive.0 (length s.archives)))
    (Ok archive)) x e in
    let g = unless_ok BadArchive (not (nat_lt a.0.0 (length s.archives))) (Ok a.0) x a.2 in
    subst (λ (p : ℕ × List ℕ). length p.1 ≤ length bytes) (ok_is a.0 x g.1)
    (omega (arith, number_shorter w8 bytes a.0 a.1))

packed_shorter : (s : Layout) (archive : ℕ) (bytes : List ℕ) (x : List ℕ × List ℕ) → packed_at s archive bytes ≡ Ok x
    → length x.1 ≤ length bytes
unfolding packed_at
packed_shorter s archive bytes x e =
    let a = bind_ok (number_at w32 bytes) (λ len. prefix_at len.0 len.1 >>= λ packed. as_packed
    (checked_count s archive packed.0) >>= λ count. Ok packed) x e in
    let b = bind_ok (prefix_at a.0.0 a.0.1) (λ packed. as_packed (checked_count s archive packed.0) >>= λ count. Ok
    packed) x a.2 in
    let d = bind_ok (as_packed (checked_count s archive b.0.0)) (λ count. Ok b.0) x b.2 in
    subst (λ (p : List ℕ × List ℕ). length p.1 ≤ length bytes) (ok_is b.0 x d.2)
    (omega (arith, number_shorter w32 bytes a.0 a.1, prefix_shorter a.0.0 a.0.1 b.0 b.1))

pub group_shorter : (s : Layout) (bytes : List ℕ) (x : PackedCells × List ℕ) → group_at s bytes ≡ Ok x
    → length x.1 < length bytes
unfolding group_at
group_shorter s bytes x e =
    let a = bind_ok (key_at bytes) (λ key. archive_at s key.1 >>= λ archive. packed_at s archive.0 archive.1 >>=
    λ packed. Ok (record { key = key.0; archive = archive.0; bytes = packed.0 }, packed.1)) x e in
    let b = bind_ok (archive_at s a.0.1) (λ archive. packed_at s archive.0 archive.1 >>=
    λ packed. Ok (record { key = a.0.0; archive = archive.0; bytes = packed.0 }, packed.1)) x a.2 in
    let d = bind_ok (packed_at s b.0.0 b.0.1) (λ packed. Ok
    (record { key = a.0.0; archive = b.0.0; bytes = packed.0 }, packed.1)) x b.2 in
    subst (λ (p : PackedCells × List ℕ). length p.1 < length bytes)
    (ok_is (record { key = a.0.0; archive = b.0.0; bytes = d.0.0 }, d.0.1) x d.2)
    (omega (
      arith,
      key_shorter bytes a.0 a.1,
      archive_shorter s a.0.1 b.0 b.1,
      packed_shorter s b.0.0 b.0.1 d.0 d.1,
    ))

-- ---- how many groups are asked for doesn't matter, if it is more than the bytes

-- those behind a group, where at most `n` are read
abbrev later : ℕ → Layout → List ℕ → Groups
later n s rest = if length rest == 0 then Ok [] else groups_within n s rest

-- a group before others
abbrev with_first : ℕ → Layout → FirstGroup → Groups
with_first n s read = read >>= λ first. later n s first.1 >>= λ others. Ok (first.0 ∷ others)

within_is : (n : ℕ) (s : Layout) (bytes : List ℕ) → groups_within (suc n) s bytes ≡ with_first n s (group_at s bytes)
unfolding groups_within
within_is n s bytes = refl

enough : (n m : ℕ) (s : Layout) (bytes : List ℕ) → length bytes < n → length bytes < m
    → groups_within n s bytes ≡ groups_within m s bytes
enough zero m s bytes p q = absurd (omega (arith, p))
enough (suc n) zero s bytes p q = absurd (omega (arith, q))
enough (suc n) (suc m) s bytes p q =
    within_is n s bytes ∙ by_found (λ b. enough n m s b) (group_at s bytes) refl ∙ sym (within_is m s bytes)
  where
    by_found : ((b : List ℕ) → length b < n → length b < m → groups_within n s b ≡ groups_within m s b)
        → (r : FirstGroup) → group_at s bytes ≡ r → with_first n s r ≡ with_first m s r
    by_found again (Err fault) e = refl
    by_found again (Ok x) e =
        let fewer = group_shorter s bytes x e in
        ap (λ (r : Groups). (if length x.1 == 0 then Ok [] else r) >>= λ others. Ok (x.0 ∷ others))
        (again x.1 (omega (arith, fewer, p)) (omega (arith, fewer, q)))

-- ---- by the first group

-- the groups that bytes are, or none where there are no bytes
abbrev pub groups_left : Layout → List ℕ → Groups
groups_left s rest = if length rest == 0 then Ok [] else groups_of s rest

-- groups before others
abbrev pub with_groups : List PackedCells → Groups → Groups
with_groups gs read = read >>= λ others. Ok (gs ++ others)

pub one_group : (s : Layout) (bytes : List ℕ) (g : PackedCells) (rest : List ℕ) → group_at s bytes ≡ Ok (g, rest)
    → groups_of s bytes ≡ with_groups (g ∷ []) (groups_left s rest)
one_group s bytes g rest e =
    within_is (length bytes) s bytes ∙ ap (with_first (length bytes) s) e
    ∙ ap (λ (r : Groups). (if length rest == 0 then Ok [] else r) >>= λ others. Ok (g ∷ others))
    (enough (length bytes) (suc (length rest)) s rest (group_shorter s bytes (g, rest) e) (omega arith))

pub no_group : (s : Layout) (bytes : List ℕ) (fault : JournalFault) → group_at s bytes ≡ Err fault
    → groups_of s bytes ≡ Err fault
no_group s bytes fault e = within_is (length bytes) s bytes ∙ ap (with_first (length bytes) s) e

-- ---- for the loops

with_both : (a b : List PackedCells) (read : Groups) → with_groups a (with_groups b read) ≡ with_groups (a ++ b) read
with_both a b (Ok gs) = ap (λ (l : List PackedCells). Ok l) (sym (append_assoc a b gs))
with_both a b (Err fault) = refl

pub left_is : (s : Layout) (rest : List ℕ) → (length rest == 0) ≡ false → groups_left s rest ≡ groups_of s rest
left_is s rest e = ap (λ (b : Bool). if b then Ok [] else groups_of s rest) e

left_none : (s : Layout) (rest : List ℕ) → (length rest == 0) ≡ true → groups_left s rest ≡ Ok []
left_none s rest e = ap (λ (b : Bool). if b then Ok [] else groups_of s rest) e

module _ (s : Layout) (bytes : List ℕ) (gs : List PackedCells) (rest : List ℕ)
    (so_far : with_groups gs (groups_left s rest) ≡ groups_of s bytes) where
  pub goes_on : (length rest == 0) ≡ false → (g : PackedCells) (after : List ℕ) → group_at s rest ≡ Ok (g, after)
      → with_groups (gs ++ g ∷ []) (groups_left s after) ≡ groups_of s bytes
  goes_on some g after e =
      sym (with_both gs (g ∷ []) (groups_left s after))
      ∙ ap (with_groups gs) (sym (one_group s rest g after e) ∙ sym (left_is s rest some))
      ∙ so_far

  pub ends : (length rest == 0) ≡ false → (fault : JournalFault) → group_at s rest ≡ Err fault
      → groups_of s bytes ≡ Err fault
  ends some fault e =
      sym so_far ∙ ap (with_groups gs) (left_is s rest some ∙ no_group s rest fault e)

  pub is_done : (length rest == 0) ≡ true → groups_of s bytes ≡ Ok gs
  is_done none =
      sym so_far ∙ ap (with_groups gs) (left_none s rest none) ∙ ap (λ (l : List PackedCells). Ok l) (append-nil gs)

pub begins : (s : Layout) (bytes : List ℕ) (g : PackedCells) (rest : List ℕ) → group_at s bytes ≡ Ok (g, rest)
    → with_groups (g ∷ []) (groups_left s rest) ≡ groups_of s bytes
begins s bytes g rest e = sym (one_group s bytes g rest e)

-- ---- what follows a group

abbrev done : List ℕ → Result (List ℕ) JournalFault
done l = Ok l

bytes_are : (a b : List ℕ) → done a ≡ done b → a ≡ b
bytes_are a b e = cc

abbrev refused : JournalFault → Result (List ℕ) JournalFault
refused fault = Err fault

fault_is : (a b : JournalFault) → refused a ≡ refused b → a ≡ b
fault_is a b e = cc

pub rest_found : (r : FirstGroup) (rest : List ℕ) → rest_of r ≡ Ok rest → (g : PackedCells) × (r ≡ Ok (g, rest))
rest_found (Ok x) rest e = (x.0, ap (λ (l : List ℕ). Ok (x.0, l)) (bytes_are x.1 rest e))
rest_found (Err fault) rest e = absurd cc

pub rest_faulty : (r : FirstGroup) (fault : JournalFault) → rest_of r ≡ Err fault → r ≡ Err fault
rest_faulty (Ok x) fault e = absurd cc
rest_faulty (Err other) fault e = ap (λ (f : JournalFault). Err f) (fault_is other fault e)
