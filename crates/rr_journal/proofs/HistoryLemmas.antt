-- Two histories that end at one digest are the same, or two texts have one digest.
use Rattle.std.proofs.Common.{◌≡◌, ℕ, Bool, true, false, List, [], ◌∷◌, ◌++◌, length, take, drop, ◌⊎◌, inl, inr, refl, sym, ap, ◌∙◌, true≢false, arith}
use Rattle.std.specs.Prelude.{◌≢◌, nat_eq}
use Rattle.std.specs.Cmp.Lexicographic.{pointwise, bytes_decides}
use Rattle.std.specs.Int.{w32, to_be_bytes}
use Rattle.std.proofs.lemmas.List.{take_at, drop_at}
use Rattle.rr_journal.specs.Digest.{cut_digest, undigested_text}
use Rattle.rr_journal.specs.Laws.{Collision, DigestsTellHistories}
use Rattle.rr_journal.specs.Text.{Raw, after}
use Rattle.rr_journal.proofs.RecordLemmas.{link_len}

same_or_not : (a b : List ℕ) → (a ≡ b) ⊎ (a ≢ b)
same_or_not a b = by_test (pointwise nat_eq a b) refl
  where
    by_test : (t : Bool) → pointwise nat_eq a b ≡ t → (a ≡ b) ⊎ (a ≢ b)
    by_test true e = inl ((bytes_decides a b).0 e)
    by_test false e = inr (λ is. true≢false (sym ((bytes_decides a b).1 is) ∙ e))

-- the same digest of two texts
either : (a b : List ℕ) → cut_digest a ≡ cut_digest b → (a ≡ b) ⊎ Collision
either a b e = by_test (same_or_not a b)
  where
    by_test : (a ≡ b) ⊎ (a ≢ b) → (a ≡ b) ⊎ Collision
    by_test (inl is) = inl is
    by_test (inr other) = inr (record { one = a; other = b; differ = other; same = e })

-- what a record is, by its bytes
raw_is : (r s : Raw) → undigested_text r.kind r.body ≡ undigested_text s.kind s.body → r ≡ s
raw_is r s e =
    let rest : r.kind ∷ r.body ≡ s.kind ∷ s.body =
    sym (drop_at (to_be_bytes w32 (length r.body)) (r.kind ∷ r.body) 4 refl) ∙ ap (drop 4) e
    ∙ drop_at (to_be_bytes w32 (length s.body)) (s.kind ∷ s.body) 4 refl in
    let kind : r.kind ≡ s.kind = head_is r.kind s.kind r.body s.body rest in
    let body : r.body ≡ s.body = ap (drop 1) rest in
    λ i. record { kind = kind i; body = body i }
  where
    head_is : (a b : ℕ) (xs ys : List ℕ) → a ∷ xs ≡ b ∷ ys → a ≡ b
    head_is a b xs ys p = cc

-- the parts of what a digest is of
parts : (a b : List ℕ) (r s : Raw) → length a ≡ 8 → length b ≡ 8
    → a ++ undigested_text r.kind r.body ≡ b ++ undigested_text s.kind s.body → (a ≡ b) × (r ≡ s)
parts a b r s p q e = (
  sym (take_at a (undigested_text r.kind r.body) 8 p) ∙ ap (take 8) e ∙ take_at b (undigested_text s.kind s.body) 8 q,
  raw_is r s
      (sym (drop_at a (undigested_text r.kind r.body) 8 p) ∙ ap (drop 8) e
      ∙ drop_at b (undigested_text s.kind s.body) 8 q),
)

pub digests_tell_histories : DigestsTellHistories
digests_tell_histories before other [] [] p q len e = inl (e, refl)
digests_tell_histories before other [] (s ∷ ss) p q len e = absurd (omega (arith, len))
digests_tell_histories before other (r ∷ rs) [] p q len e = absurd (omega (arith, len))
digests_tell_histories before other (r ∷ rs) (s ∷ ss) p q len e =
    by_others (digests_tell_histories (after before r) (after other s) rs ss (link_len before r.kind r.body)
    (link_len other s.kind s.body) (omega (arith, len)) e)
  where
    by_first : rs ≡ ss → (before ++ undigested_text r.kind r.body ≡ other ++ undigested_text s.kind s.body) ⊎ Collision
        → ((before ≡ other) × (r ∷ rs ≡ s ∷ ss)) ⊎ Collision
    by_first later (inl is) =
        let both = parts before other r s p q is in
        inl (both.0, λ i. both.1 i ∷ later i)
    by_first later (inr found) = inr found

    by_others : ((after before r ≡ after other s) × (rs ≡ ss)) ⊎ Collision
        → ((before ≡ other) × (r ∷ rs ≡ s ∷ ss)) ⊎ Collision
    by_others (inl same) = by_first same.1 (either (before ++ undigested_text r.kind r.body)
        (other ++ undigested_text s.kind s.body) same.0)
    by_others (inr found) = inr found
