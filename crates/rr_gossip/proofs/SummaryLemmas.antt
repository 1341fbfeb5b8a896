-- The body of a Summary frame is read exactly where its text is.
use Rattle.std.proofs.Common.{◌≡◌, ℕ, zero, suc, ◌≤◌, Bool, true, false, not, ◌||◌, ◌&&◌, List, [], ◌∷◌, ◌++◌, length, map, T, true≢false, Option, Some, Result, Ok, Err, refl, sym, ap, subst, ◌∙◌, append_assoc, arith}
use Rattle.std.specs.Prelude.{nat_lt, ◌==◌}
use Rattle.std.specs.Int.{w16, to_be_bytes}
use Rattle.std.specs.List.{flat_map, AllByRecursion, last_or}
use Rattle.std.proofs.lemmas.Bool.{eqb-true, ltb-false, le-ltb, ne_eqb}
use Rattle.std.proofs.lemmas.List.{append-nil, nil_from_length}
use Rattle.std.proofs.lemmas.List.Concat.{flat_map-cons}
use Rattle.std.proofs.lemmas.List.Elements.{All-from_recursion, recursion_from_All}
use Rattle.rr_text.specs.Results.{◌>>=◌, unless, GivesUnless}
use Rattle.rr_schema.specs.Schema.{Layout, IsLayout}
use Rattle.rr_join.proofs.Booleans.{and_first, and_second, first_T, second_T, T_and, T_from_true, true_from_T}
use Rattle.rr_cells.specs.CellNames.{CellName, cell_name_cmp}
use Rattle.rr_page.specs.declared.fault.PageFault.{PageFault}
use Rattle.rr_page.specs.declared.fault.PageFault.TheVariants.{OutOfOrder, TooManyCells, TrailingBytes, Memory}
use Rattle.rr_page.specs.Laws.{AreBytes}
use Rattle.rr_page.specs.PageReading.{is_after}
use Rattle.rr_page.specs.Reading.{number_at}
use Rattle.rr_page.proofs.CellLemmas.{either_false}
use Rattle.rr_page.proofs.FieldLemmas.{not_false, and_then, unless_ok, ok_is, Takes, number_again, with_number, with_ok, step}
use Rattle.rr_page.proofs.NumberLemmas.{wide16}
use Rattle.std.specs.Ordering.{is_lt}
use Rattle.std.specs.Result.{is_err}
use Rattle.std.specs.FinMap.{is_sorted}
use Rattle.std.specs.FinMap.Entries.{below_all}
use Rattle.rr_delta.specs.Difference.{IsSummary}
use Rattle.rr_delta.proofs.Walks.{lower}
use Rattle.rr_delta.specs.Names.{NamedVersion, IsNameOf}
use Rattle.rr_gossip.specs.declared.summary.TheConstants.{MAX_ENTRIES}
use Rattle.rr_gossip.specs.Laws.{AddsPiece, SummariesAreTheirText}
use Rattle.rr_gossip.specs.Summary.{entry_text, summary_text, is_rising, last_name, IsPiece}
use Rattle.rr_gossip.specs.SummaryReading.{entry_at, entries_at, summary_at}
use Rattle.rr_gossip.proofs.EntryLemmas.{entry_takes, entry_again}

pub last_push : {A : Type 0} (o : Option A) (xs : List A) (x : A) → last_or o (xs ++ x ∷ []) ≡ Some x
last_push o [] x = refl
last_push o (y ∷ xs) x = last_push (Some y) xs x

names_push : (prefix : List NamedVersion) (v : NamedVersion)
    → map (λ (w : NamedVersion). w.0) (prefix ++ v ∷ []) ≡ map (λ (w : NamedVersion). w.0) prefix ++ v.0 ∷ []
names_push [] v = refl
names_push (x ∷ prefix) v = ap (λ (l : List CellName). x.0 ∷ l) (names_push prefix v)

pub last_name_push : (prefix : List NamedVersion) (v : NamedVersion) → last_name (prefix ++ v ∷ []) ≡ Some v.0
last_name_push prefix v = ap (last_or _) (names_push prefix v)
    ∙ last_push _ (map (λ (w : NamedVersion). w.0) prefix) v.0

pub record AreRead (s : Layout) (old : List NamedVersion) (n : ℕ) (bytes : List ℕ) (new : List NamedVersion)
    (rest : List ℕ) : Type 0 where
  pub names : List NamedVersion
  pub added : new ≡ old ++ names
  pub takes : Takes bytes (flat_map entry_text names) rest
  pub many : length names ≡ n
  pub each : AllByRecursion (IsNameOf s) names
  pub rising : is_rising (last_name old) names ≡ true

entries_take : (s : Layout) (old : List NamedVersion) (n : ℕ) (bytes : List ℕ) (x : List NamedVersion × List ℕ)
    → AreBytes bytes → entries_at s old n bytes ≡ Ok x → AreRead s old n bytes x.0 x.1
unfolding entries_at
entries_take s old zero bytes x fits e =
    subst (λ (y : List NamedVersion × List ℕ). AreRead s old 0 bytes y.0 y.1) (ok_is (old, bytes) x e)
    (record {
      names = [];
      added = sym (append-nil old);
      takes = record { parts = refl; rest_fits = fits };
      many =
          refl;
      each = tt;
      rising = refl;
    })
entries_take s old (suc n) bytes x fits e =
    with_ok (entry_at s bytes) _ x e (λ entry i0 e0.
    let g = unless_ok OutOfOrder (not (is_after (last_name old) entry.0.0))
    (entries_at s (old ++ entry.0 ∷ []) n entry.1) x e0 in
    let after = not_false (is_after (last_name old) entry.0.0) g.0 in
    let t0 = entry_takes s bytes entry.0 entry.1 fits i0 in
    let t1 = entries_take s (old ++ entry.0 ∷ []) n entry.1 x t0.0.rest_fits g.1 in
    record {
      names = entry.0 ∷ t1.names;
      added = t1.added ∙ append_assoc old (entry.0 ∷ []) t1.names;
      takes = rw flat_map-cons (and_then t0.0 t1.takes);
      many = ap suc t1.many;
      each = (t0.1, t1.each);
      rising = (λ i. after i && is_rising (Some entry.0.0) t1.names)
          ∙ ap (λ (o : Option CellName). is_rising o t1.names) (sym (last_name_push old entry.0)) ∙ t1.rising;
    })

entries_again : (s : Layout) (old vs : List NamedVersion) (rest : List ℕ) → IsLayout s → AllByRecursion (IsNameOf s) vs
    → is_rising (last_name old) vs ≡ true
    → entries_at s old (length vs) (flat_map entry_text vs ++ rest) ≡ Ok (old ++ vs, rest)
unfolding entries_at
entries_again s old [] rest layout each rising = ap (λ (l : List NamedVersion). Ok (l, rest)) (sym (append-nil old))
entries_again s old (v ∷ vs) rest layout each rising =
    let first = and_first (is_after (last_name old) v.0) (is_rising (Some v.0) vs) rising in
    let others = and_second (is_after (last_name old) v.0) (is_rising (Some v.0) vs) rising in
    let after = flat_map entry_text vs ++ rest in
    let parted : flat_map entry_text (v ∷ vs) ++ rest ≡ entry_text v ++ after =
    ap (λ (l : List ℕ). l ++ rest) (flat_map-cons entry_text v vs)
    ∙ append_assoc (entry_text v) (flat_map entry_text vs) rest in
    ap (entries_at s old (suc (length vs))) parted
    ∙ step _ (entry_again s v after layout each.0)
    ∙ ap (λ (b : Bool). unless OutOfOrder (not b) (entries_at s (old ++ v ∷ []) (length vs) after)) first
    ∙ entries_again s (old ++ v ∷ []) vs rest layout each.1
    (ap (λ (o : Option CellName). is_rising o vs) (last_name_push old v) ∙ others)
    ∙ ap (λ (l : List NamedVersion). Ok (l, rest)) (append_assoc old (v ∷ []) vs)

at_least_one : (n : ℕ) → (n == 0) ≡ false → 1 ≤ n
at_least_one zero e = absurd cc
at_least_one (suc n) e = omega arith

pub summary_takes : (s : Layout) (bytes : List ℕ) (old new : List NamedVersion) → AreBytes bytes
    → summary_at s old bytes ≡ Ok new → AddsPiece s bytes old new
unfolding summary_at summary_text
summary_takes s bytes old new fits e =
    with_number w16 wide16 bytes _ new fits e (λ count r0 t0 l0 e0.
    with_ok (unless TooManyCells ((count == 0) || nat_lt MAX_ENTRIES count) (entries_at s old count r0)) _ new e0
    (λ entries i1 e1.
    let g = unless_ok TooManyCells ((count == 0) || nat_lt MAX_ENTRIES count) (entries_at s old count r0) entries i1 in
    let h = either_false (count == 0) (nat_lt MAX_ENTRIES count) g.0 in
    let k = unless_ok TrailingBytes (not (length entries.1 == 0)) (Ok entries.0) new e1 in
    let r = entries_take s old count r0 entries t0.rest_fits g.1 in
    let nothing : entries.1 ≡ [] = nil_from_length entries.1 (eqb-true _ _ (not_false (length entries.1 == 0) k.0)) in
    let some = at_least_one count h.0 in
    let few = ltb-false MAX_ENTRIES count h.1 in
    let many = r.many in
    record {
      names = r.names;
      piece = record {
        some = omega arith;
        few = omega arith;
        names =
            All-from_recursion (IsNameOf s) r.names r.each;
        rising = r.rising;
      };
      added = sym (ok_is entries.0 new k.1) ∙ r.added;
      text =
          t0.parts ∙ ap (λ (l : List ℕ). to_be_bytes w16 count ++ l)
          (r.takes.parts ∙ ap (λ (l : List ℕ). flat_map entry_text r.names ++ l) nothing
          ∙ append-nil (flat_map entry_text r.names))
          ∙ ap (λ (n : ℕ). to_be_bytes w16 n ++ flat_map entry_text r.names) (sym many);
    }))

pub summary_again : (s : Layout) (old vs : List NamedVersion) → IsLayout s → IsPiece s (last_name old) vs
    → summary_at s old (summary_text vs) ≡ Ok (old ++ vs)
unfolding summary_at summary_text
summary_again s old vs layout piece =
    let some : (length vs == 0) ≡ false = ne_eqb (length vs) 0 (λ z. absurd (omega (arith, z, piece.some))) in
    ap (λ (l : List ℕ). summary_at s old (to_be_bytes w16 (length vs) ++ l)) (sym (append-nil (flat_map entry_text vs)))
    ∙ step _ (number_again w16 wide16 (length vs) (flat_map entry_text vs ++ []) (omega (arith, piece.few)))
    ∙ (λ i. unless TooManyCells (some i || le-ltb MAX_ENTRIES (length vs) piece.few i)
    (entries_at s old (length vs) (flat_map entry_text vs ++ [])) >>=
    λ (entries : List NamedVersion × List ℕ). unless TrailingBytes (not (length entries.1 == 0)) (Ok entries.0))
    ∙ step _ (entries_again s old vs [] layout (recursion_from_All (IsNameOf s) vs piece.names) piece.rising)

pub summaries_are_their_text : SummariesAreTheirText
summaries_are_their_text s bytes old new layout fits = (
  λ e. summary_takes s bytes old new fits e,
  λ p. ap (summary_at s old) p.text ∙ summary_again s old p.names layout p.piece
      ∙ ap (λ (l : List NamedVersion). Ok l) (sym p.added),
)

-- ---- names that were taken ascend

sorted_push : (vs : List NamedVersion) (v : NamedVersion) → T (is_sorted cell_name_cmp vs)
    → is_after (last_name vs) v.0 ≡ true → T (is_sorted cell_name_cmp (vs ++ v ∷ []))
sorted_push [] v h after = tt
sorted_push (x ∷ []) v h after = T_and (is_lt (cell_name_cmp x.0 v.0) && true) true
    (T_and (is_lt (cell_name_cmp x.0 v.0)) true (T_from_true _ after) tt) tt
sorted_push (x ∷ y ∷ vs) v h after =
    let rest = sorted_push (y ∷ vs) v (second_T (below_all cell_name_cmp x.0 (y ∷ vs))
    (is_sorted cell_name_cmp (y ∷ vs)) h) after in
    let first = first_T (is_lt (cell_name_cmp x.0 y.0)) (below_all cell_name_cmp x.0 vs)
    (first_T (below_all cell_name_cmp x.0 (y ∷ vs)) (is_sorted cell_name_cmp (y ∷ vs)) h) in
    let below = lower x.0 y.0 (vs ++ v ∷ []) (true_from_T _ first)
    (first_T (below_all cell_name_cmp y.0 (vs ++ v ∷ [])) (is_sorted cell_name_cmp (vs ++ v ∷ [])) rest) in
    T_and (below_all cell_name_cmp x.0 (y ∷ vs ++ v ∷ [])) (is_sorted cell_name_cmp (y ∷ vs ++ v ∷ []))
    (T_and (is_lt (cell_name_cmp x.0 y.0)) (below_all cell_name_cmp x.0 (vs ++ v ∷ [])) first below) rest

entries_sorted_on : (s : Layout) (old : List NamedVersion) (n : ℕ) (bytes : List ℕ) (x : List NamedVersion × List ℕ)
    → entries_at s old n bytes ≡ Ok x → T (is_sorted cell_name_cmp old) → T (is_sorted cell_name_cmp x.0)
unfolding entries_at
entries_sorted_on s old zero bytes x e h = subst (λ (y : List NamedVersion × List ℕ). T (is_sorted cell_name_cmp y.0))
    (ok_is (old, bytes) x e) h
entries_sorted_on s old (suc n) bytes x e h =
    with_ok (entry_at s bytes) _ x e (λ entry i0 e0.
    let g = unless_ok OutOfOrder (not (is_after (last_name old) entry.0.0))
    (entries_at s (old ++ entry.0 ∷ []) n entry.1) x e0 in
    entries_sorted_on s (old ++ entry.0 ∷ []) n entry.1 x g.1
    (sorted_push old entry.0 h (not_false (is_after (last_name old) entry.0.0) g.0)))

summary_sorted : (s : Layout) (old new : List NamedVersion) (bytes : List ℕ) → summary_at s old bytes ≡ Ok new
    → T (is_sorted cell_name_cmp old) → T (is_sorted cell_name_cmp new)
unfolding summary_at
summary_sorted s old new bytes e h =
    with_ok (number_at w16 bytes) _ new e (λ count i0 e0.
    with_ok (unless TooManyCells ((count.0 == 0) || nat_lt MAX_ENTRIES count.0) (entries_at s old count.0 count.1)) _
    new e0 (λ entries i1 e1.
    let g = unless_ok TooManyCells ((count.0 == 0) || nat_lt MAX_ENTRIES count.0) (entries_at s old count.0 count.1)
    entries i1 in
    let k = unless_ok TrailingBytes (not (length entries.1 == 0)) (Ok entries.0) new e1 in
    subst (λ (vs : List NamedVersion). T (is_sorted cell_name_cmp vs)) (ok_is entries.0 new k.1)
    (entries_sorted_on s old count.0 count.1 entries g.1 h)))

pub taken_ascend : (s : Layout) (old new : List NamedVersion) (bytes : List ℕ) (r : Result (Unit {0}) PageFault)
    → GivesUnless Memory (λ _. new) r (summary_at s old bytes) → is_err r ≡ false → IsSummary old → IsSummary new
taken_ascend s old new bytes (Ok u) given ok h =
    true_from_T (is_sorted cell_name_cmp new) (summary_sorted s old new bytes given
    (T_from_true (is_sorted cell_name_cmp old) h))
taken_ascend s old new bytes (Err fault) given ok h = absurd (true≢false ok)
