-- What entries add up to, with one more at the end.
use Rattle.std.proofs.Common.{◌≡◌, ℕ, ◌+◌, ◌<◌, ℤ, pos, ◌+ℤ◌, List, [], ◌∷◌, ◌++◌, map, length, take, get_or, refl, sym, ap, ◌∙◌, Ordering, Some, None, int_cmp, add_assoc, arith}
use Rattle.std.specs.Prelude.{bit_or}
use Rattle.std.specs.List.{sum}
use Rattle.std.specs.Int.Bits as bits
use Rattle.std.specs.Ordering.{flip_args}
use Rattle.std.specs.Cmp.{IsTotalOrder, int_cmp_total, nat_cmp_total, back_total, then_total, on_total}
use Rattle.std.proofs.Math.IntN.{+ℤ_assoc, +ℤ_comm}
use Rattle.std.proofs.lemmas.Nat.{or_comm}
use Rattle.std.proofs.lemmas.List.{take_more}
use Rattle.std.proofs.lemmas.List.Sums.{sum_by-cons}
use Rattle.rr_join.specs.Maps.{greatest, greater}
use Rattle.rr_join.proofs.Greater.{greater-None, greater_assoc}
use Rattle.rr_contrib.proofs.Masks.{or_swap}
use Rattle.rr_archive.specs.declared.entry.Entry.{Entry}
use Rattle.rr_join.specs.Sums.{int_sum}
use Rattle.rr_fetch.specs.Consolidation.{mask_of_entries, total_of, count_of, last_cmp}
use Rattle.rr_fetch.proofs.Gathering.{gather, gather-more, gather-greatest}

-- ---- lists as gathered

pub gather-sum : {N : Type 0} (f : N → ℤ) (ns : List N) → int_sum (map f ns) ≡ gather ◌+ℤ◌ (pos 0) f ns
gather-sum f [] = refl
gather-sum f (n ∷ ns) = ap (λ y. f n +ℤ y) (gather-sum f ns)

pub gather-count : {N : Type 0} (f : N → ℕ) (ns : List N) → sum (map f ns) ≡ gather ◌+◌ 0 f ns
gather-count f [] = refl
gather-count f (n ∷ ns) = sum_by-cons (λ x. x) (f n) (map f ns) ∙ ap (λ y. f n + y) (gather-count f ns)

pub gather-united : {N : Type 0} (f : N → Entry) (ns : List N)
    → mask_of_entries (map f ns) ≡ gather bit_or 0 (λ n. (f n).contribution.mask) ns
gather-united f [] = refl
gather-united f (n ∷ ns) = ap (bit_or (f n).contribution.mask) (gather-united f ns)

pub or_assoc : (a b c : ℕ) → bit_or (bit_or a b) c ≡ bit_or a (bit_or b c)
or_assoc a b c = or_comm (bit_or a b) c ∙ or_swap c a b ∙ ap (bit_or a) (or_comm c b)

map_itself : {X : Type 0} (xs : List X) → map (λ x. x) xs ≡ xs
map_itself [] = refl
map_itself (x ∷ xs) = ap (λ l. x ∷ l) (map_itself xs)

-- ---- the greatest of values of which others may tie

module _ {V : Type 0} {S : V → V → Ordering} (s : IsTotalOrder S) where
  pub greatest_more : {N : Type 0} (f : N → V) (ns : List N) (i : ℕ) (d : N) → i < length ns
      → greatest S (map f (take (i + 1) ns)) ≡ greater S (greatest S (map f (take i ns))) (Some (f (get_or ns i d)))
  greatest_more f ns i d h =
      ap (λ l. greatest S (map f l)) (take_more ns i d h)
      ∙ gather-greatest S f (take i ns ++ get_or ns i d ∷ [])
      ∙ gather-more (greater S) None (λ n. Some (f n)) (greater-None S) (greater_assoc s) (take i ns) (get_or ns i d)
      ∙ ap (λ g. greater S g (Some (f (get_or ns i d)))) (sym (gather-greatest S f (take i ns)))

-- ---- entries

last_cmp_total : IsTotalOrder last_cmp
last_cmp_total = then_total (on_total (λ e. e.contribution.last_time) int_cmp_total)
    (on_total (λ e. e.origin) nat_cmp_total)

module _ (es : List Entry) (i : ℕ) (d : Entry) (within : i < length es) where
  abbrev next : Entry
  next = get_or es i d

  pub united_more : mask_of_entries (take (i + 1) es)
      ≡ bit_or (mask_of_entries (take i es)) (get_or es i d).contribution.mask
  united_more =
      ap mask_of_entries (take_more es i d within ∙ sym (map_itself (take i es ++ next ∷ [])))
      ∙ gather-united (λ e. e) (take i es ++ next ∷ [])
      ∙ gather-more bit_or 0 (λ (e : Entry). e.contribution.mask) bits.or_zero_r or_assoc (take i es) next
      ∙ ap (λ m. bit_or m next.contribution.mask) (sym (gather-united (λ e. e) (take i es))
      ∙ ap mask_of_entries (map_itself (take i es)))

  pub total_more : total_of (take (i + 1) es) ≡ total_of (take i es) +ℤ (get_or es i d).contribution.sum
  total_more =
      ap total_of (take_more es i d within)
      ∙ gather-sum (λ (e : Entry). e.contribution.sum) (take i es ++ next ∷ [])
      ∙ gather-more ◌+ℤ◌ (pos 0) (λ (e : Entry). e.contribution.sum) (λ x. +ℤ_comm x (pos 0)) +ℤ_assoc (take i es) next
      ∙ ap (λ t. t +ℤ next.contribution.sum) (sym (gather-sum (λ (e : Entry). e.contribution.sum) (take i es)))

  pub count_more : count_of (take (i + 1) es) ≡ count_of (take i es) + (get_or es i d).contribution.count
  count_more =
      ap count_of (take_more es i d within)
      ∙ gather-count (λ (e : Entry). e.contribution.count) (take i es ++ next ∷ [])
      ∙ gather-more ◌+◌ 0 (λ (e : Entry). e.contribution.count) (λ x. omega arith) add_assoc (take i es) next
      ∙ ap (λ n. n + next.contribution.count) (sym (gather-count (λ (e : Entry). e.contribution.count) (take i es)))

  pub least_more : greatest (flip_args int_cmp) (map (λ (e : Entry). e.contribution.min) (take (i + 1) es))
      ≡ greater (flip_args int_cmp) (greatest (flip_args int_cmp) (map (λ (e : Entry). e.contribution.min) (take i es)))
      (Some (get_or es i d).contribution.min)
  least_more = greatest_more (back_total int_cmp_total) (λ (e : Entry). e.contribution.min) es i d within

  pub most_more : greatest int_cmp (map (λ (e : Entry). e.contribution.max) (take (i + 1) es))
      ≡ greater int_cmp (greatest int_cmp (map (λ (e : Entry). e.contribution.max) (take i es)))
      (Some (get_or es i d).contribution.max)
  most_more = greatest_more int_cmp_total (λ (e : Entry). e.contribution.max) es i d within

  pub last_more : greatest last_cmp (take (i + 1) es)
      ≡ greater last_cmp (greatest last_cmp (take i es)) (Some (get_or es i d))
  last_more =
      ap (greatest last_cmp) (sym (map_itself (take (i + 1) es)))
      ∙ greatest_more last_cmp_total (λ e. e) es i d within
      ∙ ap (λ l. greater last_cmp (greatest last_cmp l) (Some next)) (map_itself (take i es))
