-- Reading entries one after the other, as a loop does.
use Rattle.std.proofs.Common.{◌≡◌, ℕ, suc, ◌-◌, ◌+◌, ◌≤◌, ◌<◌, Bool, true, false, not, List, [], ◌∷◌, ◌++◌, length, map, Some, Result, Ok, Err, sym, ap, ◌∙◌, arith}
use Rattle.std.specs.Prelude.{slice_get}
use Rattle.std.specs.List.{last_or}
use Rattle.rr_text.specs.Results.{◌>>=◌, unless}
use Rattle.rr_schema.specs.Schema.{Layout}
use Rattle.rr_page.specs.declared.fault.PageFault.{PageFault}
use Rattle.rr_page.specs.declared.fault.PageFault.TheVariants.{OutOfOrder}
use Rattle.rr_page.specs.PageReading.{is_after}
use Rattle.rr_page.proofs.LoopLemmas.{last_is}
use Rattle.rr_delta.specs.declared.name.Name.{Name}
use Rattle.rr_delta.specs.Names.{NamedVersion, owned_name}
use Rattle.rr_gossip.specs.Summary.{last_name}
use Rattle.rr_gossip.specs.SummaryReading.{entry_at, entries_at}

last_mapped : {A B : Type 0} (f : A → B) (o : A) (xs : List A) (x : A) → last_or (Some o) xs ≡ Some x
    → last_or (Some (f o)) (map f xs) ≡ Some (f x)
last_mapped f o [] x e = ap (λ p. Some (f p)) (cc e)
last_mapped f o (y ∷ xs) x e = last_mapped f y xs x e

prefix_len : (n : ℕ) → suc n - 1 ≡ n
prefix_len n = omega arith

-- the name of the last of some names, as the code looks for it
pub last_name_is : (names : List Name) (n : Name) → Some n ≡ slice_get names (length names - 1)
    → last_name (map owned_name names) ≡ Some (owned_name n).0
last_name_is [] n e = absurd cc
last_name_is (x ∷ names) n e =
    let at = sym (last_is x names) ∙ ap (slice_get (x ∷ names)) (sym (prefix_len (length names))) ∙ sym e in
    last_mapped (λ (v : NamedVersion). v.0) (owned_name x) (map owned_name names) (owned_name n)
    (last_mapped owned_name x names n at)

module _ (s : Layout) (prefix : List NamedVersion) (count i : ℕ) (bytes : List ℕ)
    (total : Result (List NamedVersion × List ℕ) PageFault)
    (so_far : entries_at s prefix (count - i) bytes ≡ total) where
  one_more : i < count → count - i ≡ suc (count - (i + 1))
  one_more lt = omega arith

  pub goes_on : (v : NamedVersion) (after : List ℕ) → i < count → entry_at s bytes ≡ Ok (v, after)
      → is_after (last_name prefix) v.0 ≡ true → entries_at s (prefix ++ v ∷ []) (count - (i + 1)) after ≡ total
  unfolding entries_at
  goes_on v after lt h rising =
      sym (ap (λ (n : ℕ). entries_at s prefix n bytes) (one_more lt)
      ∙ ap (λ (r : Result (NamedVersion × List ℕ) PageFault). r >>= λ (entry : NamedVersion × List ℕ). unless OutOfOrder
      (not (is_after (last_name prefix) entry.0.0)) (entries_at s (prefix ++ entry.0 ∷ []) (count - (i + 1)) entry.1))
      h
      ∙ ap (λ (b : Bool). unless OutOfOrder (not b) (entries_at s (prefix ++ v ∷ []) (count - (i + 1)) after)) rising)
      ∙ so_far

  pub ends : (f : PageFault) → i < count → entry_at s bytes ≡ Err f → total ≡ Err f
  unfolding entries_at
  ends f lt h =
      sym so_far ∙ ap (λ (n : ℕ). entries_at s prefix n bytes) (one_more lt)
      ∙ ap (λ (r : Result (NamedVersion × List ℕ) PageFault). r >>= λ (entry : NamedVersion × List ℕ). unless OutOfOrder
      (not (is_after (last_name prefix) entry.0.0)) (entries_at s (prefix ++ entry.0 ∷ []) (count - (i + 1)) entry.1))
      h

  pub falls : (v : NamedVersion) (after : List ℕ) → i < count → entry_at s bytes ≡ Ok (v, after)
      → is_after (last_name prefix) v.0 ≡ false → total ≡ Err OutOfOrder
  unfolding entries_at
  falls v after lt h falling =
      sym so_far ∙ ap (λ (n : ℕ). entries_at s prefix n bytes) (one_more lt)
      ∙ ap (λ (r : Result (NamedVersion × List ℕ) PageFault). r >>= λ (entry : NamedVersion × List ℕ). unless OutOfOrder
      (not (is_after (last_name prefix) entry.0.0)) (entries_at s (prefix ++ entry.0 ∷ []) (count - (i + 1)) entry.1))
      h
      ∙ ap (λ (b : Bool). unless OutOfOrder (not b) (entries_at s (prefix ++ v ∷ []) (count - (i + 1)) after)) falling

  pub is_done : count ≤ i → total ≡ Ok (prefix, bytes)
  unfolding entries_at
  is_done le =
      let k : count - i ≡ 0 = omega arith in
      sym so_far ∙ ap (λ (n : ℕ). entries_at s prefix n bytes) k
