-- The body of a record is read as what was written.
use Rattle.std.proofs.Common.{◌≡◌, ℕ, ◌+◌, ◌%◌, ◌^◌, ◌<◌, ◌≤◌, Bool, false, ◌||◌, not, List, [], ◌∷◌, ◌++◌, length, Result, Ok, Err, refl, sym, ap, ◌∙◌, append_assoc, append-nil, arith}
use Rattle.std.specs.Prelude.{nat_lt, ◌==◌, IsOk}
use Rattle.std.specs.FinMap.{entries}
use Rattle.std.specs.Int.{w16, w32, w64, to_be_bytes}
use Rattle.std.specs.List.{flat_map, AllByRecursion}
use Rattle.std.proofs.lemmas.Bool.{le-ltb, lt-ltb, ne_eqb}
use Rattle.std.proofs.lemmas.List.{length-append}
use Rattle.rr_text.specs.declared.limits.TheConstants.{MAX_KEY_TEXT}
use Rattle.rr_text.specs.Results.{◌>>=◌, unless}
use Rattle.rr_schema.specs.Schema.{Layout}
use Rattle.rr_key.specs.declared.class.Class.TheVariants.{Measurement, Other}
use Rattle.rr_key.specs.Reading.{is_key_text}
use Rattle.rr_key.specs.Series.{IsKeyText, tag_text}
use Rattle.rr_key.specs.Unit.{escape}
use Rattle.rr_key.proofs.DecisionLemmas.{Decides-is_key_text}
use Rattle.rr_codec.specs.declared.fault.CodecFault.{CodecFault}
use Rattle.rr_codec.specs.Reading.{checked_count}
use Rattle.rr_journal.specs.declared.cursor.Cursor.{Cursor}
use Rattle.rr_journal.specs.declared.fault.JournalFault.TheVariants.{BadKey, BadArchive, BadOrigin}
use Rattle.rr_journal.specs.declared.raw.TheConstants.{FIRST}
use Rattle.rr_journal.specs.Body.{PackedCells, Meaning, HasCells, HasOrigin, HasJoined, HasEnded, HasWitness, IsGroup, IsMeaning, group_text, body_text, kind_of, as_packed, alone, key_at, archive_at, packed_at, group_at, groups_of, origin_of, cursor_of, count_of, witness_of, meaning_at}
use Rattle.rr_journal.specs.Cursor.{IsCursor, cursor_text}
use Rattle.rr_journal.specs.Fields.{prefix_at}
use Rattle.rr_journal.specs.Laws.{BodiesAreRead}
use Rattle.rr_journal.proofs.FieldLemmas.{step, prefix_again, byte_again, number16_again, number32_again, number64_again, cursor_again}
use Rattle.rr_journal.proofs.GroupLemmas.{left_is, one_group, with_groups}

-- ---- a group

-- a key text has a space
key_len : (key : List ℕ) → IsKeyText key → (1 ≤ length key) × (length key ≤ MAX_KEY_TEXT)
key_len key k =
    let tags = flat_map tag_text (entries k.series.tags) in
    let name = escape Measurement k.series.measurement in
    let whole = ap length k.whole in
    let a = length-append name (tags ++ 32 ∷ escape Other k.series.field) in
    let b = length-append tags (32 ∷ escape Other k.series.field) in
    let short = k.named.short in
    (omega arith, omega arith)

key_again : (key rest : List ℕ) → IsKeyText key
    → key_at (to_be_bytes w16 (length key) ++ (key ++ rest)) ≡ Ok (key, rest)
unfolding key_at
key_again key rest k =
    let len = key_len key k in
    let fits : ((length key == 0) || nat_lt MAX_KEY_TEXT (length key)) ≡ false =
    rw (ne_eqb (length key) 0 (λ e. absurd (omega (arith, e, len.0))), le-ltb MAX_KEY_TEXT (length key) len.1)
    refl in
    step _ (number16_again (length key) (key ++ rest) (omega (arith, len.1)))
    ∙ ap (λ (b : Bool). unless BadKey b (prefix_at (length key) (key ++ rest)) >>= λ (text : List ℕ × List ℕ). unless
    BadKey (not (is_key_text text.0)) (Ok text)) fits
    ∙ step _ (prefix_again (length key) key rest refl)
    ∙ ap (λ (b : Bool). unless BadKey (not b) (Ok (key, rest))) ((Decides-is_key_text key).1 k)

archive_again : (s : Layout) (archive : ℕ) (rest : List ℕ) → archive < length s.archives → archive < 2 ^ 8
    → archive_at s (archive ∷ rest) ≡ Ok (archive, rest)
unfolding archive_at
archive_again s archive rest within byte =
    step _ (byte_again archive rest byte)
    ∙ ap (λ (b : Bool). unless BadArchive (not b) (Ok (archive, rest))) (lt-ltb _ _ within)

checked : {X : Type 0} (r : Result ℕ CodecFault) (x : X) → IsOk r → (as_packed r >>= λ count. Ok x) ≡ Ok x
checked (Ok count) x good = refl
checked (Err fault) x good = absurd cc

packed_again : (s : Layout) (archive : ℕ) (bytes rest : List ℕ) → length bytes < 2 ^ 32
    → IsOk (checked_count s archive bytes)
    → packed_at s archive (to_be_bytes w32 (length bytes) ++ (bytes ++ rest)) ≡ Ok (bytes, rest)
unfolding packed_at
packed_again s archive bytes rest fits good =
    step _ (number32_again (length bytes) (bytes ++ rest) fits)
    ∙ step _ (prefix_again (length bytes) bytes rest refl)
    ∙ checked (checked_count s archive bytes) (bytes, rest) good

regrouped : (n key : List ℕ) (archive : ℕ) (m bytes rest : List ℕ)
    → (n ++ (key ++ (archive ∷ (m ++ bytes)))) ++ rest ≡ n ++ (key ++ (archive ∷ (m ++ (bytes ++ rest))))
regrouped n key archive m bytes rest = simp append_assoc

group_again : (s : Layout) (g : PackedCells) (rest : List ℕ) → IsGroup s g
    → group_at s (group_text g ++ rest) ≡ Ok (g, rest)
unfolding group_at group_text
group_again s g rest is =
    let len = to_be_bytes w32 (length g.bytes) in
    let behind = len ++ (g.bytes ++ rest) in
    ap (λ (l : List ℕ). key_at l >>= λ (key : List ℕ × List ℕ). archive_at s key.1 >>= λ (archive : ℕ × List ℕ).
    packed_at s archive.0 archive.1 >>= λ (packed : List ℕ × List ℕ). Ok
    (record { key = key.0; archive = archive.0; bytes = packed.0 }, packed.1))
    (regrouped (to_be_bytes w16 (length g.key)) g.key g.archive len g.bytes rest)
    ∙ step _ (key_again g.key (g.archive ∷ behind) is.key)
    ∙ step _ (archive_again s g.archive behind is.archive is.byte_archive)
    ∙ step _ (packed_again s g.archive g.bytes rest is.fits is.checked)

-- ---- groups

some_bytes : (g : PackedCells) (more : List ℕ) → (length (group_text g ++ more) == 0) ≡ false
unfolding group_text
some_bytes g more =
    let behind = g.key ++ (g.archive ∷ (to_be_bytes w32 (length g.bytes) ++ g.bytes)) in
    let len : 2 ≤ length (group_text g ++ more) = omega (
      arith,
      length-append (group_text g) more,
      length-append (to_be_bytes w16 (length g.key)) behind,
    ) in
    ne_eqb (length (group_text g ++ more)) 0 (λ e. absurd (omega (arith, e, len)))

groups_again : (s : Layout) (g : PackedCells) (gs : List PackedCells) → IsGroup s g → AllByRecursion (IsGroup s) gs
    → groups_of s (flat_map group_text (g ∷ gs)) ≡ Ok (g ∷ gs)
groups_again s g [] is all = one_group s (group_text g ++ []) g [] (group_again s g [] is)
groups_again s g (h ∷ hs) is all =
    let rest = flat_map group_text (h ∷ hs) in
    one_group s (group_text g ++ rest) g rest (group_again s g rest is)
    ∙ ap (with_groups (g ∷ [])) (left_is s rest (some_bytes h (flat_map group_text hs))
    ∙ groups_again s h hs all.0 all.1)

cells_again : (s : Layout) (gs : List PackedCells) → 1 ≤ length gs → AllByRecursion (IsGroup s) gs
    → groups_of s (flat_map group_text gs) ≡ Ok gs
cells_again s [] some all = absurd (omega (arith, some))
cells_again s (g ∷ gs) some all = groups_again s g gs all.0 all.1

-- ---- the other bodies

origin_again : (origin : ℕ) → 1 ≤ origin → origin < 2 ^ 16 → origin_of (to_be_bytes w16 origin) ≡ Ok origin
origin_again origin some fits =
    ap origin_of (sym (append-nil (to_be_bytes w16 origin)))
    ∙ step (λ (x : ℕ × List ℕ). unless BadOrigin (x.0 == 0) (alone x)) (number16_again origin [] fits)
    ∙ ap (λ (b : Bool). unless BadOrigin b (alone (origin, []))) (ne_eqb origin 0 (λ e. absurd (omega (arith, e, some))))

cursor_alone : (c : Cursor) → IsCursor c → cursor_of (cursor_text c) ≡ Ok c
cursor_alone c is = ap cursor_of (sym (append-nil (cursor_text c))) ∙ step alone (cursor_again c [] is)

count_again : (count : ℕ) → count < 2 ^ 64 → count_of (to_be_bytes w64 count) ≡ Ok count
count_again count fits =
    ap count_of (sym (append-nil (to_be_bytes w64 count))) ∙ step alone (number64_again count [] fits)

witness_alone : (witness : List ℕ) → length witness ≡ 8 → witness_of witness ≡ Ok witness
witness_alone witness len =
    ap witness_of (sym (append-nil witness)) ∙ step alone (prefix_again 8 witness [] len)

meaning_again : (s : Layout) (m : Meaning) → IsMeaning s m → meaning_at s (kind_of m) (body_text m) ≡ Ok m
unfolding meaning_at body_text
meaning_again s (HasCells groups) is =
    step (λ (x : List PackedCells). Ok (HasCells x)) (cells_again s groups is.0 is.1)
meaning_again s (HasOrigin origin) is =
    step (λ (x : ℕ). Ok (HasOrigin x)) (origin_again origin is.at_least (omega (arith, is.at_most)))
meaning_again s (HasJoined cursor) is = step (λ (x : Cursor). Ok (HasJoined x)) (cursor_alone cursor is)
meaning_again s (HasEnded count) is = step (λ (x : ℕ). Ok (HasEnded x)) (count_again count is)
meaning_again s (HasWitness witness) is = step (λ (x : List ℕ). Ok (HasWitness x)) (witness_alone witness is)

-- the highest bit of a kind is no part of it
kind_again : (m : Meaning) → (kind_of m % FIRST ≡ kind_of m) × ((kind_of m % FIRST + FIRST) % FIRST ≡ kind_of m)
kind_again (HasCells groups) = (refl, refl)
kind_again (HasOrigin origin) = (refl, refl)
kind_again (HasJoined cursor) = (refl, refl)
kind_again (HasEnded count) = (refl, refl)
kind_again (HasWitness witness) = (refl, refl)

pub bodies_are_read : BodiesAreRead
bodies_are_read s m is = (
  ap (λ (k : ℕ). meaning_at s k (body_text m)) (kind_again m).0 ∙ meaning_again s m is,
  ap (λ (k : ℕ). meaning_at s k (body_text m)) (kind_again m).1 ∙ meaning_again s m is,
)
