-- An entry of a Summary frame is read exactly where its text is.
use Rattle.std.proofs.Common.{◌≡◌, ℕ, zero, suc, ◌<◌, ◌≤◌, false, ◌||◌, List, [], ◌∷◌, ◌++◌, length, Ok, sym, ap, subst, ◌∙◌, append_assoc, arith}
use Rattle.std.specs.Prelude.{nat_lt, ◌==◌}
use Rattle.std.specs.Int.{w16, w64, to_be_bytes}
use Rattle.std.proofs.lemmas.Bool.{ltb-false, le-ltb, ne_eqb}
use Rattle.rr_text.specs.declared.limits.TheConstants.{MAX_NUMBER}
use Rattle.rr_text.specs.Results.{unless}
use Rattle.rr_schema.specs.Schema.{Layout, IsLayout}
use Rattle.rr_page.specs.declared.fault.PageFault.TheVariants.{BadContribution}
use Rattle.rr_page.specs.CellText.{signed_bytes, name_text}
use Rattle.rr_page.specs.Laws.{AreBytes}
use Rattle.rr_page.specs.Reading.{key_at, archive_at}
use Rattle.rr_page.proofs.CellLemmas.{key_field, key_takes, key_again, archive_takes, archive_again, either_false}
use Rattle.rr_page.proofs.FieldLemmas.{and_then, unless_ok, ok_is, Takes, number_again, signed_again, with_number, with_signed, with_ok, step}
use Rattle.rr_page.proofs.NumberLemmas.{wide16, wide64}
use Rattle.rr_delta.specs.Names.{NamedVersion, IsNameOf}
use Rattle.rr_gossip.specs.Summary.{entry_text}
use Rattle.rr_gossip.specs.SummaryReading.{entry_at}

abbrev entry_text_of : NamedVersion → List ℕ
entry_text_of v = key_field v.0.key ++ ((v.0.archive ∷ [])
    ++ (signed_bytes w64 v.0.slot ++ (to_be_bytes w16 v.0.origin ++ to_be_bytes w64 v.1)))

five : (k a s o x : List ℕ) → k ++ (a ++ (s ++ (o ++ x))) ≡ (((k ++ a) ++ s) ++ o) ++ x
five k a s o x = simp append_assoc

regrouped : (v : NamedVersion) → entry_text_of v ≡ entry_text v
unfolding entry_text name_text
regrouped v = five (key_field v.0.key) (v.0.archive ∷ []) (signed_bytes w64 v.0.slot) (to_be_bytes w16 v.0.origin)
    (to_be_bytes w64 v.1)

at_least_one : (n : ℕ) → (n == 0) ≡ false → 1 ≤ n
at_least_one zero e = absurd cc
at_least_one (suc n) e = omega arith

pub entry_takes : (s : Layout) (bytes : List ℕ) (v : NamedVersion) (rest : List ℕ) → AreBytes bytes
    → entry_at s bytes ≡ Ok (v, rest) → Takes bytes (entry_text v) rest × IsNameOf s v
unfolding entry_at
entry_takes s bytes v rest fits is =
    with_ok (key_at bytes) _ (v, rest) is (λ key i0 e0.
    let t0 = key_takes bytes key.0 key.1 fits i0 in
    with_ok (archive_at s key.1) _ (v, rest) e0 (λ archive i1 e1.
    let t1 = archive_takes s key.1 archive.0 archive.1 t0.0.rest_fits i1 in
    with_signed w64 wide64 archive.1 _ (v, rest) t1.0.rest_fits e1 (λ slot r2 t2 l2 e2.
    with_number w16 wide16 r2 _ (v, rest) t2.rest_fits e2 (λ origin r3 t3 l3 e3.
    with_number w64 wide64 r3 _ (v, rest) t3.rest_fits e3 (λ version r4 t4 l4 e4.
    let found : NamedVersion = (record { key = key.0; archive = archive.0; slot = slot; origin = origin }, version) in
    let g = unless_ok BadContribution ((origin == 0) || ((version == 0) || nat_lt MAX_NUMBER version)) (Ok (found, r4))
    (v, rest) e4 in
    let h = either_false (origin == 0) ((version == 0) || nat_lt MAX_NUMBER version) g.0 in
    let k = either_false (version == 0) (nat_lt MAX_NUMBER version) h.1 in
    let whole = and_then t0.0 (and_then t1.0 (and_then t2 (and_then t3 t4))) in
    subst (λ (p : NamedVersion × List ℕ). Takes bytes (entry_text p.0) p.1 × IsNameOf s p.0)
    (ok_is (found, r4) (v, rest) g.1) (
      subst (λ (x : List ℕ). Takes bytes x r4) (regrouped found) whole,
      record {
        key = t0.1;
        archive = t1.1;
        origin = record { at_least = at_least_one origin h.0; at_most = omega (arith, l3) };
        slot_fits = l2;
        version_at_least = at_least_one version k.0;
        version_at_most = ltb-false _ _ k.1;
      },
    ))))))

pub entry_again : (s : Layout) (v : NamedVersion) (rest : List ℕ) → IsLayout s → IsNameOf s v
    → entry_at s (entry_text v ++ rest) ≡ Ok (v, rest)
unfolding entry_at
entry_again s v rest layout is =
    let r3 = to_be_bytes w64 v.1 ++ rest in
    let r2 = to_be_bytes w16 v.0.origin ++ r3 in
    let r1 = signed_bytes w64 v.0.slot ++ r2 in
    let few = layout.few_archives in
    let low : v.0.archive < 256 = omega (arith, is.archive) in
    let some : (v.0.origin == 0) ≡ false = ne_eqb v.0.origin 0 (λ z. absurd (omega (arith, z, is.origin.at_least))) in
    let numbered : (v.1 == 0) ≡ false = ne_eqb v.1 0 (λ z. absurd (omega (arith, z, is.version_at_least))) in
    let parted : entry_text v ++ rest ≡ key_field v.0.key ++ (v.0.archive ∷ r1) =
    ap (λ (l : List ℕ). l ++ rest) (sym (regrouped v))
    ∙ ap (λ (l : List ℕ). to_be_bytes w16 (length v.0.key) ++ l)
    (append_assoc v.0.key (v.0.archive ∷ (signed_bytes w64 v.0.slot
    ++ (to_be_bytes w16 v.0.origin ++ to_be_bytes w64 v.1))) rest) in
    ap (entry_at s) parted
    ∙ step _ (key_again v.0.key (v.0.archive ∷ r1) is.key)
    ∙ step _ (archive_again s v.0.archive r1 is.archive low)
    ∙ step _ (signed_again w64 wide64 v.0.slot r2 is.slot_fits)
    ∙ step _ (number_again w16 wide16 v.0.origin r3 (omega (arith, is.origin.at_most)))
    ∙ step _ (number_again w64 wide64 v.1 rest (omega (arith, is.version_at_most)))
    ∙ (λ i. unless BadContribution (some i || (numbered i || le-ltb MAX_NUMBER v.1 is.version_at_most i))
    (Ok (v, rest)))
