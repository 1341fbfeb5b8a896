-- Reading cells one after the other, as a loop does.
use Rattle.std.proofs.Common.{◌≡◌, ℕ, suc, ◌-◌, ◌+◌, ◌≤◌, ◌<◌, Bool, true, false, not, List, [], ◌∷◌, ◌++◌, length, map, Option, None, Some, Result, Ok, Err, refl, sym, ap, ◌∙◌, append_assoc, arith}
use Rattle.std.specs.Prelude.{slice_get}
use Rattle.std.specs.List.{last_or}
use Rattle.std.proofs.lemmas.List.{append-nil}
use Rattle.rr_schema.specs.Schema.{Layout}
use Rattle.rr_cells.specs.CellNames.{CellName}
use Rattle.rr_cells.specs.declared.cell.Cell.{Cell}
use Rattle.rr_cells.specs.Listing.{owned_cell}
use Rattle.rr_page.specs.declared.fault.PageFault.{PageFault}
use Rattle.rr_page.specs.declared.fault.PageFault.TheVariants.{OutOfOrder}
use Rattle.rr_page.specs.declared.version.Version.{Version}
use Rattle.rr_text.specs.Results.{◌>>=◌, unless}
use Rattle.rr_cells.specs.CellBounds.{NamedCell}
use Rattle.rr_page.specs.PageReading.{is_after, last_name, cells_at}
use Rattle.rr_page.specs.Reading.{cell_at}

-- what was read before, and what is still read
abbrev pub with_prefix : List NamedCell → Result (List NamedCell × List ℕ) PageFault
    → Result (List NamedCell × List ℕ) PageFault
with_prefix prefix read = read >>= λ x. Ok (prefix ++ x.0, x.1)

pub with_nothing : (read : Result (List NamedCell × List ℕ) PageFault) → with_prefix [] read ≡ read
with_nothing (Ok x) = refl
with_nothing (Err f) = refl

regroup : (prefix : List NamedCell) (e : NamedCell) (read : Result (List NamedCell × List ℕ) PageFault)
    → with_prefix prefix (read >>= λ x. Ok (e ∷ x.0, x.1)) ≡ with_prefix (prefix ++ e ∷ []) read
regroup prefix e (Ok x) = ap (λ (es : List NamedCell). Ok (es, x.1)) (simp append_assoc)
regroup prefix e (Err f) = refl

last_push : {A : Type 0} (o : Option A) (xs : List A) (x : A) → last_or o (xs ++ x ∷ []) ≡ Some x
last_push o [] x = refl
last_push o (y ∷ xs) x = last_push (Some y) xs x

names_push : (prefix : List NamedCell) (e : NamedCell)
    → map (λ (c : NamedCell). c.0) (prefix ++ e ∷ []) ≡ map (λ (c : NamedCell). c.0) prefix ++ e.0 ∷ []
names_push [] e = refl
names_push (x ∷ prefix) e = ap (λ (l : List CellName). x.0 ∷ l) (names_push prefix e)

pub last_name_push : (prefix : List NamedCell) (e : NamedCell) → last_name (prefix ++ e ∷ []) ≡ Some e.0
last_name_push prefix e = ap (last_or None) (names_push prefix e)
    ∙ last_push None (map (λ (c : NamedCell). c.0) prefix) e.0

-- the last of a list, by its place
pub last_is : {A : Type 0} (x : A) (xs : List A) → slice_get (x ∷ xs) (length xs) ≡ last_or (Some x) xs
last_is x [] = refl
last_is x (y ∷ xs) = last_is y xs

last_mapped : {A B : Type 0} (f : A → B) (o : A) (xs : List A) (x : A) → last_or (Some o) xs ≡ Some x
    → last_or (Some (f o)) (map f xs) ≡ Some (f x)
last_mapped f o [] x e = ap (λ p. Some (f p)) (cc e)
last_mapped f o (y ∷ xs) x e = last_mapped f y xs x e

prefix_len : (n : ℕ) → suc n - 1 ≡ n
prefix_len n = omega arith

-- the name of the last cell, as the code looks for it
pub last_name_is : (cells : List Cell) (c : Cell) → Some c ≡ slice_get cells (length cells - 1)
    → last_name (map owned_cell cells) ≡ Some (owned_cell c).0
last_name_is [] c e = absurd cc
last_name_is (x ∷ cells) c e =
    let at = sym (last_is x cells) ∙ ap (slice_get (x ∷ cells)) (sym (prefix_len (length cells))) ∙ sym e in
    last_mapped (λ (n : NamedCell). n.0) (owned_cell x) (map owned_cell cells) (owned_cell c)
    (last_mapped owned_cell x cells c at)

module _ (v : Version) (s : Layout) (prefix : List NamedCell) (count i : ℕ) (bytes : List ℕ)
    (total : Result (List NamedCell × List ℕ) PageFault)
    (so_far : with_prefix prefix (cells_at v s (last_name prefix) (count - i) bytes) ≡ total) where
  pub goes_on : (e : NamedCell) (after : List ℕ) → i < count → cell_at v s bytes ≡ Ok (e, after)
      → is_after (last_name prefix) e.0 ≡ true
      → with_prefix (prefix ++ e ∷ []) (cells_at v s (last_name (prefix ++ e ∷ [])) (count - (i + 1)) after) ≡ total
  unfolding cells_at
  goes_on e after lt h rising =
      let k : count - i ≡ suc (count - (i + 1)) = omega arith in
      let one : with_prefix prefix (cells_at v s (last_name prefix) (count - i) bytes)
      ≡ with_prefix (prefix ++ e ∷ []) (cells_at v s (Some e.0) (count - (i + 1)) after) =
      ap (λ (n : ℕ). with_prefix prefix (cells_at v s (last_name prefix) n bytes)) k
      ∙ ap (λ (r : Result (NamedCell × List ℕ) PageFault). with_prefix prefix
      (r >>= λ (first : NamedCell × List ℕ). unless OutOfOrder (not (is_after (last_name prefix) first.0.0))
      (cells_at v s (Some first.0.0) (count - (i + 1)) first.1) >>= λ (others : List NamedCell × List ℕ). Ok
      (first.0 ∷ others.0, others.1))) h
      ∙ ap (λ (b : Bool). with_prefix prefix
      (unless OutOfOrder (not b) (cells_at v s (Some e.0) (count - (i + 1)) after)
      >>= λ (others : List NamedCell × List ℕ). Ok (e ∷ others.0, others.1))) rising
      ∙ regroup prefix e (cells_at v s (Some e.0) (count - (i + 1)) after) in
      ap (λ (o : Option CellName). with_prefix (prefix ++ e ∷ []) (cells_at v s o (count - (i + 1)) after))
      (last_name_push prefix e) ∙ sym one ∙ so_far

  pub ends : (f : PageFault) → i < count → cell_at v s bytes ≡ Err f → total ≡ Err f
  unfolding cells_at
  ends f lt h =
      let k : count - i ≡ suc (count - (i + 1)) = omega arith in
      sym so_far
      ∙ ap (λ (n : ℕ). with_prefix prefix (cells_at v s (last_name prefix) n bytes)) k
      ∙ ap (λ (r : Result (NamedCell × List ℕ) PageFault). with_prefix prefix
      (r >>= λ (first : NamedCell × List ℕ). unless OutOfOrder (not (is_after (last_name prefix) first.0.0))
      (cells_at v s (Some first.0.0) (count - (i + 1)) first.1) >>= λ (others : List NamedCell × List ℕ). Ok
      (first.0 ∷ others.0, others.1))) h

  pub falls : (e : NamedCell) (after : List ℕ) → i < count → cell_at v s bytes ≡ Ok (e, after)
      → is_after (last_name prefix) e.0 ≡ false → total ≡ Err OutOfOrder
  unfolding cells_at
  falls e after lt h falling =
      let k : count - i ≡ suc (count - (i + 1)) = omega arith in
      sym so_far
      ∙ ap (λ (n : ℕ). with_prefix prefix (cells_at v s (last_name prefix) n bytes)) k
      ∙ ap (λ (r : Result (NamedCell × List ℕ) PageFault). with_prefix prefix
      (r >>= λ (first : NamedCell × List ℕ). unless OutOfOrder (not (is_after (last_name prefix) first.0.0))
      (cells_at v s (Some first.0.0) (count - (i + 1)) first.1) >>= λ (others : List NamedCell × List ℕ). Ok
      (first.0 ∷ others.0, others.1))) h
      ∙ ap (λ (b : Bool). with_prefix prefix
      (unless OutOfOrder (not b) (cells_at v s (Some e.0) (count - (i + 1)) after)
      >>= λ (others : List NamedCell × List ℕ). Ok (e ∷ others.0, others.1))) falling

  pub is_done : count ≤ i → total ≡ Ok (prefix, bytes)
  unfolding cells_at
  is_done le =
      let k : count - i ≡ 0 = omega arith in
      sym so_far ∙ ap (λ (n : ℕ). with_prefix prefix (cells_at v s (last_name prefix) n bytes)) k
      ∙ ap (λ (es : List NamedCell). Ok (es, bytes)) (append-nil prefix)
