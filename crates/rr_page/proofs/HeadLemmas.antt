-- What a page has before its cells is read exactly where its text is.
use Rattle.std.proofs.Common.{◌≡◌, ℕ, ◌≤◌, Bool, true, false, List, [], ◌∷◌, ◌++◌, length, Option, Some, None, Ok, refl, ap, subst, ◌∙◌, append_assoc, arith}
use Rattle.std.specs.Prelude.{nat_lt, nat_le, nat_eq, not, ◌==◌, ◌&&◌, ok_or, if◌then◌else◌}
use Rattle.std.specs.Cmp.Lexicographic.{pointwise, bytes_decides}
use Rattle.std.specs.Int.{w8, w16, to_be_bytes}
use Rattle.std.specs.List.{list_all, AllByRecursion}
use mir.Val.{bits}
use Rattle.std.proofs.lemmas.Bool.{ltb-false, le-ltb, leb-true, le-leb, eqb-true}
use Rattle.std.proofs.lemmas.List.Elements.{All-from_recursion, recursion_from_All}
use Rattle.rr_text.specs.declared.limits.TheConstants.{MAX_PAGE_CELLS}
use Rattle.rr_text.specs.Results.{◌>>=◌, unless}
use Rattle.rr_schema.specs.declared.archive.ArchiveSpec.{ArchiveSpec}
use Rattle.rr_schema.specs.Schema.{Layout, IsLayout}
use Rattle.rr_schema.specs.SchemaBytes.{schema_bytes}
use Rattle.rr_page.specs.declared.fault.PageFault.TheVariants.{BadMagic, BadVersion, SchemaDiffers, TooManyCells}
use Rattle.rr_page.specs.declared.version.Version.{Version}
use Rattle.rr_page.specs.declared.version.Version.TheVariants.{One, Two}
use Rattle.rr_page.specs.Laws.{AreBytes}
use Rattle.rr_page.specs.Page.{magic, head_text}
use Rattle.rr_page.specs.PageReading.{version_at, start_at, schema_at, is_schema, head_at}
use Rattle.rr_page.specs.Reading.{prefix_at, number_at}
use Rattle.rr_page.specs.Version.{version_byte, named_version, mask_width, latest, HasMasksFor, has_masks_for}
use Rattle.rr_page.proofs.FieldLemmas.{not_false, and_then, unless_ok, ok_is, Takes, prefix_takes, prefix_again, number_takes, number_again, with_number, with_ok, step}
use Rattle.rr_page.proofs.NumberLemmas.{wide8, wide16}

-- ---- versions

-- the masks of the latest version are wide enough for every schema within the limits
pub masks_wide : (s : Layout) → IsLayout s → HasMasksFor latest s
masks_wide s is = λ k d h. (is.each k d h).few_steps

pub both : (a b : Bool) → (a && b) ≡ true → (a ≡ true) × (b ≡ true)
both true b e = (refl, e)
both false b e = absurd cc

all_within : (most : ℕ) (xs : List ArchiveSpec) → list_all (λ a. nat_le a.steps most) xs ≡ true
    → AllByRecursion (λ a. a.steps ≤ most) xs
all_within most [] e = tt
all_within most (a ∷ xs) e =
    let h = both (nat_le a.steps most) (list_all (λ x. nat_le x.steps most) xs) e in
    (leb-true _ _ h.0, all_within most xs h.1)

within_all : (most : ℕ) (xs : List ArchiveSpec) → AllByRecursion (λ a. a.steps ≤ most) xs
    → list_all (λ a. nat_le a.steps most) xs ≡ true
within_all most [] h = refl
within_all most (a ∷ xs) h = λ i. le-leb a.steps most h.0 i && within_all most xs h.1 i

pub masks_told : (v : Version) (s : Layout) → has_masks_for v s ≡ true → HasMasksFor v s
masks_told v s e = All-from_recursion (λ a. a.steps ≤ bits (mask_width v)) s.archives
    (all_within (bits (mask_width v)) s.archives e)

pub masks_tell : (v : Version) (s : Layout) → HasMasksFor v s → has_masks_for v s ≡ true
masks_tell v s h = within_all (bits (mask_width v)) s.archives
    (recursion_from_All (λ a. a.steps ≤ bits (mask_width v)) s.archives h)

named_is : (n : ℕ) (v : Version) → named_version n ≡ Some v → n ≡ version_byte v
named_is n v e = first (n == 1) refl e
  where
    second : (b : Bool) → (n == 2) ≡ b → (if b then Some Two else None) ≡ Some v → n ≡ version_byte v
    second true t is = let w : Two ≡ v = cc is in eqb-true n 2 t ∙ ap version_byte w
    second false t is = absurd (cc is)

    first : (b : Bool) → (n == 1) ≡ b → (if b then Some One else (if n == 2 then Some Two else None)) ≡ Some v
        → n ≡ version_byte v
    first true t is = let w : One ≡ v = cc is in eqb-true n 1 t ∙ ap version_byte w
    first false t is = second (n == 2) refl is

found : (o : Option Version) (v : Version) → ok_or o BadVersion ≡ Ok v → o ≡ Some v
found None v e = absurd (cc e)
found (Some w) v e = ap Some (ok_is w v e)

pub version_takes : (bytes : List ℕ) (v : Version) (rest : List ℕ) → AreBytes bytes → version_at bytes ≡ Ok (v, rest)
    → Takes bytes (version_byte v ∷ []) rest
unfolding version_at
version_takes bytes v rest fits e =
    with_number w8 wide8 bytes _ (v, rest) fits e (λ n r t lt e0.
    with_ok (ok_or (named_version n) BadVersion) _ (v, rest) e0 (λ w i e1.
    let which : n ≡ version_byte w = named_is n w (found (named_version n) w i) in
    subst (λ (p : Version × List ℕ). Takes bytes (version_byte p.0 ∷ []) p.1) (ok_is (w, r) (v, rest) e1)
    (subst (λ (l : List ℕ). Takes bytes l r) (ap (to_be_bytes w8) which ∙ one_byte w) t)))
  where
    one_byte : (w : Version) → to_be_bytes w8 (version_byte w) ≡ version_byte w ∷ []
    one_byte One = refl
    one_byte Two = refl

pub version_again : (v : Version) (rest : List ℕ) → version_at (version_byte v ∷ rest) ≡ Ok (v, rest)
unfolding version_at
version_again One rest = step _ (number_again w8 wide8 1 rest (omega arith))
version_again Two rest = step _ (number_again w8 wide8 2 rest (omega arith))

-- ---- heads

start_takes : (bytes : List ℕ) (v : Version) (rest : List ℕ) → AreBytes bytes → start_at bytes ≡ Ok (v, rest)
    → Takes bytes (magic ++ (version_byte v ∷ [])) rest
unfolding start_at
start_takes bytes v rest fits e =
    with_ok (prefix_at 4 bytes) _ (v, rest) e (λ start i e0.
    let t = prefix_takes 4 bytes start.0 start.1 fits i in
    let g = unless_ok BadMagic (not (pointwise nat_eq start.0 magic)) (version_at start.1) (v, rest) e0 in
    let same = (bytes_decides start.0 magic).0 (not_false (pointwise nat_eq start.0 magic) g.0) in
    and_then (subst (λ (l : List ℕ). Takes bytes l start.1) same t.0) (version_takes start.1 v rest t.0.rest_fits g.1))

pub start_again : (v : Version) (rest : List ℕ) → start_at (magic ++ (version_byte v ∷ rest)) ≡ Ok (v, rest)
unfolding start_at
start_again v rest = step _ (prefix_again 4 magic (version_byte v ∷ rest) refl) ∙ version_again v rest

pub head_takes : (s : Layout) (bytes : List ℕ) (v : Version) (n : ℕ) (rest : List ℕ) → AreBytes bytes
    → head_at s bytes ≡ Ok ((v, n), rest) → Takes bytes (head_text v s n) rest × (n ≤ MAX_PAGE_CELLS) × HasMasksFor v s
unfolding head_at schema_at head_text
head_takes s bytes v n rest fits e =
    with_ok (schema_at s bytes) _ ((v, n), rest) e (λ field i0 e0.
    with_ok (start_at bytes) _ field i0 (λ version i1 e1.
    with_ok (prefix_at (length (schema_bytes s)) version.1) _ field e1 (λ own i2 e2.
    with_ok (unless SchemaDiffers (not (is_schema field.0.0 s field.0.1)) (number_at w16 field.1)) _ ((v, n), rest) e0
    (λ count i3 e3.
    let is = ok_is ((version.0, own.0), own.1) field e2 in
    let g = unless_ok SchemaDiffers (not (is_schema field.0.0 s field.0.1)) (number_at w16 field.1) count i3 in
    let own_schema = both (has_masks_for field.0.0 s) (pointwise nat_eq field.0.1 (schema_bytes s))
    (not_false (is_schema field.0.0 s field.0.1) g.0) in
    let h = unless_ok TooManyCells (nat_lt MAX_PAGE_CELLS count.0) (Ok ((field.0.0, count.0), count.1)) ((v, n), rest)
    e3 in
    let t0 = start_takes bytes version.0 version.1 fits i1 in
    let t1 = prefix_takes (length (schema_bytes s)) version.1 own.0 own.1 t0.rest_fits i2 in
    let same : own.0 ≡ schema_bytes s = ap (λ (p : (Version × List ℕ) × List ℕ). p.0.1) is
    ∙ (bytes_decides field.0.1 (schema_bytes s)).0 own_schema.1 in
    let left : own.1 ≡ field.1 = ap (λ (p : (Version × List ℕ) × List ℕ). p.1) is in
    let which : version.0 ≡ field.0.0 = ap (λ (p : (Version × List ℕ) × List ℕ). p.0.0) is in
    let t2 = number_takes w16 wide16 own.1 count.0 count.1 t1.0.rest_fits (ap (number_at w16) left ∙ g.1) in
    let t3 : Takes version.1 (schema_bytes s) own.1 = subst (λ (l : List ℕ). Takes version.1 l own.1) same t1.0 in
    let whole : Takes bytes ((magic ++ (version_byte field.0.0 ∷ [])) ++ (schema_bytes s ++ to_be_bytes w16 count.0))
    count.1 = subst (λ (u : Version). Takes bytes
    ((magic ++ (version_byte u ∷ [])) ++ (schema_bytes s ++ to_be_bytes w16 count.0)) count.1) which
    (and_then t0 (and_then t3 t2.0)) in
    subst (λ (p : (Version × ℕ) × List ℕ). Takes bytes
    (magic ++ (version_byte p.0.0 ∷ (schema_bytes s ++ to_be_bytes w16 p.0.1))) p.1 × (p.0.1 ≤ MAX_PAGE_CELLS)
    × HasMasksFor p.0.0 s) (ok_is ((field.0.0, count.0), count.1) ((v, n), rest) h.1)
    (whole, ltb-false MAX_PAGE_CELLS count.0 h.0, masks_told field.0.0 s own_schema.0)))))

pub head_again : (s : Layout) (v : Version) (n : ℕ) (rest : List ℕ) → n ≤ MAX_PAGE_CELLS → HasMasksFor v s
    → head_at s (head_text v s n ++ rest) ≡ Ok ((v, n), rest)
unfolding head_at schema_at head_text
head_again s v n rest few wide =
    let after = to_be_bytes w16 n ++ rest in
    let parted : head_text v s n ++ rest ≡ magic ++ (version_byte v ∷ (schema_bytes s ++ after)) =
    ap (λ (l : List ℕ). magic ++ (version_byte v ∷ l)) (append_assoc (schema_bytes s) (to_be_bytes w16 n) rest) in
    let field : schema_at s (magic ++ (version_byte v ∷ (schema_bytes s ++ after))) ≡ Ok ((v, schema_bytes s), after) =
    step _ (start_again v (schema_bytes s ++ after))
    ∙ step _ (prefix_again (length (schema_bytes s)) (schema_bytes s) after refl) in
    ap (head_at s) parted
    ∙ step _ field
    ∙ ap (λ (b : Bool). unless SchemaDiffers (not b) (number_at w16 after) >>= λ (count : ℕ × List ℕ). unless
    TooManyCells (nat_lt MAX_PAGE_CELLS count.0) (Ok ((v, count.0), count.1)))
    (λ i. masks_tell v s wide i && (bytes_decides (schema_bytes s) (schema_bytes s)).1 refl i)
    ∙ step _ (number_again w16 wide16 n rest (omega arith))
    ∙ ap (λ (b : Bool). unless TooManyCells b (Ok ((v, n), rest))) (le-ltb MAX_PAGE_CELLS n few)
