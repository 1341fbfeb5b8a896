-- Where witnesses stand.
use Rattle.std.proofs.Common.{◌≡◌, ℕ, suc, ◌+◌, ◌^◌, ◌<◌, ◌≤◌, Bool, true, false, ◌||◌, List, [], ◌∷◌, ◌++◌, length, take, drop, get_or, refl, sym, ap, subst, ◌∙◌, append_assoc, arith}
use Rattle.std.specs.Prelude.{nat_eq, ◌&&◌}
use Rattle.std.specs.Cmp.Lexicographic.{bytes_decides}
use Rattle.std.specs.Int.{w32, w64, to_be_bytes}
use Rattle.std.specs.List.{starts_with}
use Rattle.std.proofs.lemmas.List.{drop_more, drop_all, drop_at, take_at}
use Rattle.rr_journal.specs.Cursor.{moved_by}
use Rattle.rr_journal.specs.Text.{Raw, after, record_text}
use Rattle.rr_journal.specs.Witness.{has_witness, is_witness_at, witness_head, witness_record}
use Rattle.rr_journal.specs.Laws.{WitnessesAreFound}
use Rattle.rr_journal.proofs.RecordLemmas.{cut_len, text_parts}

-- ---- byte by byte

module _ (key : List ℕ) (at : ℕ) (bytes : List ℕ) (i d : ℕ) (within : i < length bytes) where
  abbrev here_is : drop i bytes ≡ get_or bytes i d ∷ drop (i + 1) bytes
  here_is = drop_more bytes i d within

  abbrev later : Bool
  later = has_witness key (moved_by 1 at) (drop (i + 1) bytes)

  pub by_first : (b : Bool) → is_witness_at key at (drop i bytes) ≡ b → has_witness key at (drop i bytes) ≡ (b || later)
  unfolding has_witness
  by_first b is = ap (has_witness key at) here_is
      ∙ ap (λ (c : Bool). c || later) (ap (is_witness_at key at) (sym here_is) ∙ is)

pub none_behind : (key : List ℕ) (at : ℕ) (bytes : List ℕ) (i : ℕ) → length bytes ≤ i
    → has_witness key at (drop i bytes) ≡ false
unfolding has_witness
none_behind key at bytes i le = ap (has_witness key at) (drop_all i bytes le)

-- ---- a witness that was written is found

begins : (xs ys : List ℕ) → starts_with nat_eq (xs ++ ys) xs ≡ true
begins xs ys = (bytes_decides xs (take (length xs) (xs ++ ys))).1 (sym (take_at xs ys (length xs) refl))

or_right : (a b : Bool) → b ≡ true → (a || b) ≡ true
or_right true b e = refl
or_right false b e = e

module _ (key : List ℕ) (offset : ℕ) (before rest : List ℕ) where
  abbrev witness : Raw
  witness = witness_record key offset

  abbrev behind : List ℕ
  behind = (witness.body ++ after before witness) ++ rest

  parts : record_text before witness ++ rest ≡ witness_head ++ behind
  parts = text_parts before witness rest
      ∙ ap (λ (n : ℕ). (to_be_bytes w32 n ++ (witness.kind ∷ [])) ++ behind) (cut_len (key ++ to_be_bytes w64 offset))

  is_found : is_witness_at key offset (witness_head ++ behind) ≡ true
  unfolding is_witness_at
  is_found =
      let body : starts_with nat_eq behind witness.body ≡ true =
      ap (λ (l : List ℕ). starts_with nat_eq l witness.body) (append_assoc witness.body (after before witness) rest)
      ∙ begins witness.body (after before witness ++ rest) in
      λ i. begins witness_head behind i && (ap (λ (l : List ℕ). starts_with nat_eq l witness.body)
      (drop_at witness_head behind 5 refl) ∙ body) i

  pub witness_is_found : has_witness key offset (record_text before witness ++ rest) ≡ true
  unfolding has_witness
  witness_is_found = ap (has_witness key offset) parts ∙ ap (λ (b : Bool). b || has_witness key (moved_by 1 offset)
      (drop 1 (witness_head ++ behind))) is_found

one_on : (at n : ℕ) → at + suc n < 2 ^ 64 → moved_by 1 at ≡ at + 1
one_on at n fits = omega (arith, fits)

behind_bytes : (key : List ℕ) (at : ℕ) (bad more : List ℕ) → at + length bad < 2 ^ 64
    → has_witness key (at + length bad) more ≡ true → has_witness key at (bad ++ more) ≡ true
unfolding has_witness
behind_bytes key at [] more fits found = subst (λ (n : ℕ). has_witness key n more ≡ true) (none_more at) found
  where
    none_more : (n : ℕ) → n + 0 ≡ n
    none_more n = omega arith
behind_bytes key at (b ∷ bad) more fits found =
    let one = one_on at (length bad) (omega (arith, fits)) in
    or_right (is_witness_at key at (b ∷ (bad ++ more))) (has_witness key (moved_by 1 at) (bad ++ more))
    (subst (λ (n : ℕ). has_witness key n (bad ++ more) ≡ true) (sym one)
    (behind_bytes key (at + 1) bad more (omega (arith, fits))
    (subst (λ (n : ℕ). has_witness key n more ≡ true) (regrouped at (length bad)) found)))
  where
    regrouped : (n m : ℕ) → n + suc m ≡ (n + 1) + m
    regrouped n m = omega arith

pub witnesses_are_found : WitnessesAreFound
witnesses_are_found key offset [] before rest some fits = absurd (omega (arith, some))
witnesses_are_found key offset (b ∷ bad) before rest some fits =
    let witness = witness_record key (offset + suc (length bad)) in
    let text = record_text before witness ++ rest in
    let one = one_on offset (length bad) (omega (arith, fits)) in
    subst (λ (n : ℕ). has_witness key n (bad ++ text) ≡ true) (sym one)
    (behind_bytes key (offset + 1) bad text (omega (arith, fits))
    (subst (λ (n : ℕ). has_witness key n text ≡ true) (regrouped offset (length bad))
    (witness_is_found key (offset + suc (length bad)) before rest)))
  where
    regrouped : (n m : ℕ) → n + suc m ≡ (n + 1) + m
    regrouped n m = omega arith
