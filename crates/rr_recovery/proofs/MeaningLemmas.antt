-- What records mean, by their kinds.
use Rattle.std.proofs.Common.{◌≡◌, ℕ, zero, suc, ◌<◌, ◌%◌, Bool, true, false, List, [], ◌∷◌, length, Result, Ok, Err, IsOk, refl, ap, subst, arith}
use Rattle.std.specs.Prelude.{nat_lt, ◌==◌, not, if◌then◌else◌}
use Rattle.std.specs.Int.{w8, w32}
use Rattle.std.specs.List.{AllByRecursion}
use Rattle.rr_text.specs.Results.{◌>>=◌, unless}
use Rattle.rr_schema.specs.Schema.{Layout}
use Rattle.rr_codec.specs.declared.fault.CodecFault.{CodecFault}
use Rattle.rr_codec.specs.Reading.{checked_count}
use Rattle.rr_journal.specs.declared.cursor.Cursor.{Cursor}
use Rattle.rr_journal.specs.declared.fault.JournalFault.{JournalFault}
use Rattle.rr_journal.specs.declared.fault.JournalFault.TheVariants.{BadArchive, BadKind}
use Rattle.rr_journal.specs.Body.{PackedCells, Meaning, HasCells, HasOrigin, HasJoined, HasEnded, HasWitness, as_packed, key_at, archive_at, packed_at, group_at, groups_within, groups_of, origin_of, cursor_of, count_of, witness_of, meaning_at, record_meaning}
use Rattle.rr_journal.specs.Fields.{prefix_at, number_at}
use Rattle.rr_journal.specs.Text.{Raw}
use Rattle.rr_journal.proofs.FieldLemmas.{bind_ok, unless_ok, ok_is}
use Rattle.rr_recovery.specs.declared.fault.RecoveryFault.{RecoveryFault}
use Rattle.rr_recovery.specs.Taking.{IsCheckedGroup, as_bad}

-- ---- groups that are read are checked

not_false : (b : Bool) → not b ≡ false → b ≡ true
not_false true e = refl
not_false false e = absurd cc

archive_there : (s : Layout) (bytes : List ℕ) (x : ℕ × List ℕ) → archive_at s bytes ≡ Ok x → x.0 < length s.archives
unfolding archive_at
archive_there s bytes x e =
    let a = bind_ok (number_at w8 bytes) (λ archive. unless BadArchive (not (nat_lt archive.0 (length s.archives)))
    (Ok archive)) x e in
    let g = unless_ok BadArchive (not (nat_lt a.0.0 (length s.archives))) (Ok a.0) x a.2 in
    let there : nat_lt a.0.0 (length s.archives) ≡ true = not_false _ g.0 in
    let lt : a.0.0 < length s.archives = grind (arith, there) in
    subst (λ (p : ℕ × List ℕ). p.0 < length s.archives) (ok_is a.0 x g.1) lt

is_ok : {A : Type 0} (r : Result A CodecFault) (x : A) → as_packed r ≡ Ok x → IsOk r
is_ok (Ok y) x e = refl
is_ok (Err fault) x e = absurd cc

packed_checked : (s : Layout) (archive : ℕ) (bytes : List ℕ) (x : List ℕ × List ℕ) → packed_at s archive bytes ≡ Ok x
    → IsOk (checked_count s archive x.0)
unfolding packed_at
packed_checked s archive bytes x e =
    let a = bind_ok (number_at w32 bytes) (λ len. prefix_at len.0 len.1 >>= λ packed. as_packed
    (checked_count s archive packed.0) >>= λ count. Ok packed) x e in
    let b = bind_ok (prefix_at a.0.0 a.0.1) (λ packed. as_packed (checked_count s archive packed.0) >>= λ count. Ok
    packed) x a.2 in
    let d = bind_ok (as_packed (checked_count s archive b.0.0)) (λ count. Ok b.0) x b.2 in
    subst (λ (p : List ℕ × List ℕ). IsOk (checked_count s archive p.0)) (ok_is b.0 x d.2)
    (is_ok (checked_count s archive b.0.0) d.0 d.1)

group_checked : (s : Layout) (bytes : List ℕ) (x : PackedCells × List ℕ) → group_at s bytes ≡ Ok x
    → IsCheckedGroup s x.0
unfolding group_at
group_checked s bytes x e =
    let a = bind_ok (key_at bytes) (λ key. archive_at s key.1 >>= λ archive. packed_at s archive.0 archive.1 >>=
    λ packed. Ok (record { key = key.0; archive = archive.0; bytes = packed.0 }, packed.1)) x e in
    let b = bind_ok (archive_at s a.0.1) (λ archive. packed_at s archive.0 archive.1 >>=
    λ packed. Ok (record { key = a.0.0; archive = archive.0; bytes = packed.0 }, packed.1)) x a.2 in
    let d = bind_ok (packed_at s b.0.0 b.0.1) (λ packed. Ok
    (record { key = a.0.0; archive = b.0.0; bytes = packed.0 }, packed.1)) x b.2 in
    subst (λ (p : PackedCells × List ℕ). IsCheckedGroup s p.0)
    (ok_is (record { key = a.0.0; archive = b.0.0; bytes = d.0.0 }, d.0.1) x d.2)
    (archive_there s a.0.1 b.0 b.1, packed_checked s b.0.0 b.0.1 d.0 d.1)

within_checked : (n : ℕ) (s : Layout) (bytes : List ℕ) (gs : List PackedCells) → groups_within n s bytes ≡ Ok gs
    → AllByRecursion (IsCheckedGroup s) gs
unfolding groups_within
within_checked zero s bytes gs e = subst (AllByRecursion (IsCheckedGroup s)) (ok_is [] gs e) tt
within_checked (suc n) s bytes gs e =
    let a = bind_ok (group_at s bytes) (λ first. (if length first.1 == 0 then Ok [] else groups_within n s first.1)
    >>= λ others. Ok (first.0 ∷ others)) gs e in
    let b = bind_ok (if length a.0.1 == 0 then Ok [] else groups_within n s a.0.1) (λ others. Ok (a.0.0 ∷ others)) gs
    a.2 in
    subst (AllByRecursion (IsCheckedGroup s)) (ok_is (a.0.0 ∷ b.0) gs b.2)
    (group_checked s bytes a.0 a.1, by_test (length a.0.1 == 0) b.0 (within_checked n s a.0.1) b.1)
  where
    by_test : {r : Result (List PackedCells) JournalFault} (b : Bool) (others : List PackedCells)
        → ((hs : List PackedCells) → r ≡ Ok hs → AllByRecursion (IsCheckedGroup s) hs)
        → (if b then Ok [] else r) ≡ Ok others → AllByRecursion (IsCheckedGroup s) others
    by_test true others later e = subst (AllByRecursion (IsCheckedGroup s)) (ok_is [] others e) tt
    by_test false others later e = later others e

abbrev Read : Type 0
Read = Result Meaning JournalFault

pub cells_checked : (s : Layout) (r : Raw) (gs : List PackedCells) → record_meaning s r ≡ Ok (HasCells gs)
    → AllByRecursion (IsCheckedGroup s) gs
unfolding meaning_at
cells_checked s r gs e =
    by_kind (r.kind % 128 == 1) (r.kind % 128 == 2) (r.kind % 128 == 3) (r.kind % 128 == 4) (r.kind % 128 == 5)
    (groups_of s r.body) (origin_of r.body) (cursor_of r.body) (count_of r.body) (witness_of r.body)
    (within_checked (suc (length r.body)) s r.body) e
  where
    by_kind : (a b c d f : Bool) (groups : Result (List PackedCells) JournalFault) (origin : Result ℕ JournalFault)
        (cursor : Result Cursor JournalFault) (count : Result ℕ JournalFault)
        (witness : Result (List ℕ) JournalFault)
        → ((hs : List PackedCells) → groups ≡ Ok hs → AllByRecursion (IsCheckedGroup s) hs)
        → ◌≡◌ {A = Read} (if a then (groups >>= λ x. Ok (HasCells x)) else (if b then (origin >>= λ x. Ok (HasOrigin x))
        else (if c then (cursor >>= λ x. Ok (HasJoined x)) else (if d then (count >>= λ x. Ok (HasEnded x))
        else (if f then (witness >>= λ x. Ok (HasWitness x)) else Err BadKind))))) (Ok (HasCells gs)) → AllByRecursion (IsCheckedGroup s) gs
    by_kind true b c d f (Ok hs) origin cursor count witness later h = later gs (cc h)
    by_kind true b c d f (Err fault) origin cursor count witness later h = absurd (cc h)
    by_kind false true c d f groups (Ok o) cursor count witness later h = absurd (cc h)
    by_kind false true c d f groups (Err fault) cursor count witness later h = absurd (cc h)
    by_kind false false true d f groups origin (Ok p) count witness later h = absurd (cc h)
    by_kind false false true d f groups origin (Err fault) count witness later h = absurd (cc h)
    by_kind false false false true f groups origin cursor (Ok n) witness later h = absurd (cc h)
    by_kind false false false true f groups origin cursor (Err fault) witness later h = absurd (cc h)
    by_kind false false false false true groups origin cursor count (Ok m) later h = absurd (cc h)
    by_kind false false false false true groups origin cursor count (Err fault) later h = absurd (cc h)
    by_kind false false false false false groups origin cursor count witness later h = absurd (cc h)

-- ---- with a recovery's faults

pub as_bad_ok : {A : Type 0} (r : Result A JournalFault) (x : A)
    → ◌≡◌ {A = Result A RecoveryFault} (as_bad r) (Ok x) → r ≡ Ok x
as_bad_ok {A = A} (Ok y) x e = let is : y ≡ x = cc e in ap (λ (z : A). Ok z) is
as_bad_ok (Err fault) x e = absurd (cc e)
