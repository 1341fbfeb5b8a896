-- The last cells of the origins that were seen last.
use Rattle.std.proofs.Common.{◌≡◌, ℕ, zero, suc, ◌^◌, ◌≤◌, ◌∷◌, All, false, cond, List, [], length, take, drop, Some, None, Err, refl, sym, ap, ◌∙◌, arith}
use Rattle.std.specs.Prelude.{◌==◌, nat_lt}
use Rattle.std.specs.Option.{unwrap_or}
use Rattle.std.specs.List.{position_from, remove}
use Rattle.std.proofs.lemmas.Bool.Decides.{nat_tests}
use Rattle.std.proofs.lemmas.List.{length-take}
use Rattle.std.proofs.lemmas.List.Elements.{All-nil, All-cons, All-head, All-tail, All-take, All-drop, All-append}
use Rattle.std.proofs.lemmas.List.Sums.{prefix_len-le-length}
use Rattle.std.proofs.lemmas.Iterator.Adapters.{position_from-zero}
use Rattle.rr_codec.specs.declared.expecting.Before.{Before}
use Rattle.rr_codec.specs.declared.fields.Fields.{Fields}
use Rattle.rr_codec.specs.declared.fault.CodecFault.TheVariants.{BadNumber}
use Rattle.rr_codec.specs.Expecting.{after, fields_from}
use Rattle.rr_codec.specs.Recent.{KnownState, before_at, fields_at, is_of, known_after, nothing_known, place_of}
use Rattle.rr_codec.proofs.StepsLemmas.{AreWide}
use Rattle.rr_codec.proofs.ExpectingLemmas.{start_wide}

pub place_le : (recent : List Before) (origin : ℕ) → place_of recent origin ≤ length recent
place_le recent origin = prefix_len-le-length _ recent

chosen : (n len : ℕ) → n ≤ len → unwrap_or (cond (nat_lt n len) (Some n) None) len ≡ n
chosen n len le = grind (arith, nat_tests)

pub place_is : (recent : List Before) (origin : ℕ)
    → unwrap_or (position_from (is_of origin) 0 recent) (length recent) ≡ place_of recent origin
place_is recent origin =
    ap (λ found. unwrap_or found (length recent)) (sym (position_from-zero (is_of origin) recent))
    ∙ chosen (place_of recent origin) (length recent) (place_le recent origin)

pub too_far : (k : KnownState) (place : ℕ) (steps : Fields) → length k.recent ≤ 16 → 2 ^ 64 ≤ place
    → fields_at k place steps ≡ Err BadNumber
too_far k place steps few far =
    let cell = fields_from k.span (before_at k.recent place) steps in
    let le = place_le k.recent cell.origin in
    let not_there : (place_of k.recent cell.origin == place) ≡ false = grind (arith, nat_tests) in
    rw not_there refl

-- ---- what is known has numbers of 128 bits

pub record AreKnown (k : KnownState) : Type 0 where
  pub each : All (λ b. AreWide b.cell) k.recent
  pub few : length k.recent ≤ 16
  pub place : k.place ≤ 16

pub nothing_is_known : (span : ℕ) → AreKnown (nothing_known span)
nothing_is_known span = record { each = All-nil _; few = omega arith; place = omega arith }

pub before_wide : (recent : List Before) (place : ℕ) → All (λ b. AreWide b.cell) recent
    → AreWide (before_at recent place).cell
before_wide [] place each = start_wide
before_wide (b ∷ bs) zero each = All-head (λ (b : Before). AreWide b.cell) b bs each
before_wide (b ∷ bs) (suc place) each = before_wide bs place (All-tail (λ (b : Before). AreWide b.cell) b bs each)

pub place_most : (k : KnownState) (origin : ℕ) → AreKnown k → place_of k.recent origin ≤ 16
place_most k origin known = let le = place_le k.recent origin in omega (arith, known.few)

pub known_on : (k : KnownState) (f : Fields) → AreKnown k → AreWide f → AreKnown (known_after k f)
unfolding known_after after
known_on k f known wide =
    let place = place_of k.recent f.origin in
    record {
      each = All-cons (λ (b : Before). AreWide b.cell) _ _ wide
          (All-take (λ (b : Before). AreWide b.cell) 15 (remove k.recent place)
          (All-append (λ (b : Before). AreWide b.cell) (take place k.recent) (drop (suc place) k.recent)
          (All-take (λ (b : Before). AreWide b.cell) place k.recent known.each)
          (All-drop (λ (b : Before). AreWide b.cell) (suc place) k.recent known.each)));
      few = let len = length-take 15 (remove k.recent place) in omega arith;
      place = place_most k f.origin known;
    }
