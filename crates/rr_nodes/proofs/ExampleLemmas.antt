-- The nodes of samples as lists of their entries, by which an example is computed.
use Rattle.std.proofs.Common.{◌≡◌, ℕ, zero, suc, ◌+◌, ℤ, Bool, true, false, cond, List, [], ◌∷◌, ◌++◌, map, fold, length, slice_get, refl, sym, ap, ◌∙◌, arith, Option, Some, None, is_some, Ordering, Less, Equal, Greater}
use Rattle.std.specs.Prelude.{codes, pos, ◌*◌, nat_le, if◌then◌else◌}
use Rattle.std.specs.List.{filter, flat_map}
use Rattle.std.specs.Fmt.{digits}
use Rattle.std.specs.Option.{option_map}
use Rattle.std.specs.Ordering.{nat_cmp, eq_by_cmp}
use Rattle.std.specs.Cmp.{IsTotalOrder, nat_cmp_total}
use Rattle.std.specs.FinMap.{FinMap, IsAntisymmetric, empty, get, insert, keys, entries, retain_keys, contains_key, entries_sorted, entries-insert, entries-from_sorted, from_sorted, get-entries, get-from_sorted, get-retain_keys, len-entries, len-empty, same_map}
use Rattle.std.specs.FinMap.Entries.{find, put, where_key, by_order, find-where_key, is_sorted-where_key}
use Rattle.std.proofs.lemmas.List.Elements.{All-from_recursion}
use Rattle.rr_text.specs.declared.limits.TheConstants.{MAX_NUMBER}
use Rattle.rr_text.specs.Options.{◌>>=◌}
use Rattle.rr_schema.specs.declared.consolidation.ConsolidationFunction.{ConsolidationFunction}
use Rattle.rr_schema.specs.Schema.{Layout, IsArchive, IsLayout, is_known_enough, place_of}
use Rattle.rr_join.specs.Maps.{map_of, set_of}
use Rattle.rr_cells.specs.CellNames.{CellName, cell_name_cmp, is_live, newest}
use Rattle.rr_cells.specs.FetchText.{Request, line_feed, answer_text, fetch_text, record_text, rows_of}
use Rattle.rr_cells.specs.Knowledge.{Knowledge, union, with_marks, live, cells_where}
use Rattle.rr_cells.specs.Rows.{is_at, known_places, marks_of_row, of_marks, row}
use Rattle.rr_cells.specs.Samples.{Sample, Mark, mark_cmp, name_of, names_of, marks_of}
use Rattle.rr_cells.proofs.Orders.{mark_cmp_total, mark_cmp-IsAntisymmetric}
use Rattle.rr_nodes.specs.Nodes.{Node, Nodes, Model, Moment, Deed, opened, wrote, took, loaded, where_some, all_held, held_at, holding, with_new, written, taken, after, after_all}
use Rattle.rr_nodes.specs.Models.{sample_model}
use Rattle.rr_nodes.specs.Sessions.{now_at}
use Rattle.rr_nodes.specs.Example.{minutes, load, answer_at, deeds_of_three, both_minutes, ThreeAnswer}
use Rattle.rr_nodes.proofs.DeedsLemmas.{fetches_are_of_samples}

-- ---- maps by their entries

no_entry : {A : Type 0} (es : List A) → 0 ≡ length es → es ≡ []
no_entry [] e = refl
no_entry (x ∷ es) e = absurd (omega (arith, e))

module _ {K X : Type 0} (R : K → K → Ordering) where
  entries_empty : entries (empty {X = X} {R = R}) ≡ []
  entries_empty = no_entry (entries (empty {X = X} {R = R})) (sym (len-empty R X) ∙ len-entries (empty {X = X} {R = R}))

  entries_kept : IsTotalOrder R → IsAntisymmetric R → (m : FinMap R X) (test : K → Bool)
      → entries (retain_keys m test) ≡ where_key R test (entries m)
  entries_kept total same m test =
      let es = where_key R test (entries m) in
      let sorted = is_sorted-where_key R test (entries m) (entries_sorted m) in
      let alike : (q x : K) → R q x ≡ Equal → test x ≡ test q = λ q x e. ap test (sym (same q x e)) in
      ap entries (same_map total same (retain_keys m test) (from_sorted es) (λ q.
      get-retain_keys m test q (alike q) ∙ ap (λ o. cond (test q) o None) (get-entries m q)
      ∙ sym (get-from_sorted R es q sorted ∙ find-where_key R test q (alike q) (entries m))))
      ∙ entries-from_sorted R es sorted

-- ---- what is known, as a list

abbrev Known : Type 0
Known = List (Mark × Unit {0})

abbrev marks : Known → List Mark
marks es = map (λ e. e.0) es

abbrev set : List Mark → Known
set [] = []
set (m ∷ ms) = put mark_cmp m tt (set ms)

abbrev known_live : Layout → Known → Known
known_live s es = where_key mark_cmp (λ m. is_live s (names_of s (marks es)) (name_of s m)) es

abbrev known_where : Layout → Known → (CellName → Bool) → Known
known_where s es test = where_key mark_cmp (λ m. test (name_of s m)) (known_live s es)

abbrev list_model : Model Known
list_model = record {
  nothing = [];
  with_one = λ s es x. set (marks es ++ marks (set (marks_of s x)));
  with_cell = λ s es there name. set (marks es ++ marks (known_where s there (eq_by_cmp cell_name_cmp name)));
  next_past = λ origin next there name. next;
  kept = known_live;
}

entries_set : (ms : List Mark) → entries (set_of {R = mark_cmp} ms) ≡ set ms
unfolding map_of
entries_set [] = entries_empty mark_cmp
entries_set (m ∷ ms) = entries-insert mark_cmp_total (set_of ms) m tt ∙ ap (put mark_cmp m tt) (entries_set ms)

entries_with : (k l : Knowledge) (es : Known) → entries l ≡ es
    → entries (union k l) ≡ set (marks (entries k) ++ marks es)
entries_with k l es is = entries_set (keys k ++ keys l) ∙ ap (λ fs. set (marks (entries k) ++ marks fs)) is

entries_live : (s : Layout) (k : Knowledge) → entries (live s k) ≡ known_live s (entries k)
unfolding live
entries_live s k = entries_kept mark_cmp mark_cmp_total mark_cmp-IsAntisymmetric k
    (λ m. is_live s (names_of s (keys k)) (name_of s m))

entries_where : (s : Layout) (k : Knowledge) (test : CellName → Bool)
    → entries (cells_where s k test) ≡ known_where s (entries k) test
unfolding cells_where
entries_where s k test = entries_kept mark_cmp mark_cmp_total mark_cmp-IsAntisymmetric (live s k)
    (λ m. test (name_of s m)) ∙ ap (where_key mark_cmp (λ m. test (name_of s m))) (entries_live s k)

-- ---- nodes, as a list

abbrev Listed : Type 0
Listed = List (ℕ × Node Known)

listed_node : Node Knowledge → Node Known
listed_node n = record { next = n.next; now = entries n.now; before = map entries n.before }

as_listed : ℕ × Node Knowledge → ℕ × Node Known
as_listed e = (e.0, listed_node e.1)

listed : Nodes Knowledge → Listed
listed ns = map as_listed (entries ns)

abbrev list_held : Listed → Moment → Option Known
list_held es there = find nat_cmp there.origin es >>= λ n. slice_get (all_held n) there.ago

abbrev list_new : Listed → ℕ → Known → Listed
list_new es origin k = if is_some (find nat_cmp origin es) then es else put nat_cmp origin
    (record { next = 1; now = k; before = [] }) es

abbrev list_after : Layout → Listed → Deed → Listed
list_after s es (opened origin) = list_new es origin []
list_after s es (wrote origin key time value) = where_some (find nat_cmp origin es) es
    (λ n. put nat_cmp origin (written list_model s origin n key time value) es)
list_after s es (took origin there name) = where_some (find nat_cmp origin es) es
    (λ n. where_some (list_held es there) es (λ k. put nat_cmp origin (taken list_model s origin n k name) es))
list_after s es (loaded origin there) = where_some (list_held es there) es (λ k. list_new es origin (known_live s k))

find_listed : (origin : ℕ) (es : List (ℕ × Node Knowledge))
    → find nat_cmp origin (map as_listed es) ≡ option_map listed_node (find nat_cmp origin es)
unfolding as_listed
find_listed origin [] = refl
find_listed origin (e ∷ es) = elim (eq_by_cmp nat_cmp origin e.0) as
    (λ b. cond b (Some (listed_node e.1)) (find nat_cmp origin (map as_listed es))
    ≡ option_map listed_node (cond b (Some e.1) (find nat_cmp origin es))) [
      | true ↦ refl
      | false ↦ find_listed origin es
    ]

put_listed : (origin : ℕ) (n : Node Knowledge) (es : List (ℕ × Node Knowledge))
    → map as_listed (put nat_cmp origin n es) ≡ put nat_cmp origin (listed_node n) (map as_listed es)
unfolding as_listed
put_listed origin n [] = refl
put_listed origin n (e ∷ es) = elim (nat_cmp origin e.0) as
    (λ r. map as_listed (by_order r ((origin, n) ∷ e ∷ es) ((e.0, n) ∷ es) (e ∷ put nat_cmp origin n es))
    ≡ by_order r ((origin, listed_node n) ∷ map as_listed (e ∷ es)) ((e.0, listed_node n) ∷ map as_listed es)
    (as_listed e ∷ put nat_cmp origin (listed_node n) (map as_listed es))) [
      | Less ↦ refl
      | Equal ↦ refl
      | Greater ↦ ap (λ fs. as_listed e ∷ fs) (put_listed origin n es)
    ]

slice_of_map : {X Y : Type 0} (f : X → Y) (xs : List X) (i : ℕ) → slice_get (map f xs) i ≡ option_map f (slice_get xs i)
slice_of_map f [] i = refl
slice_of_map f (x ∷ xs) zero = refl
slice_of_map f (x ∷ xs) (suc i) = slice_of_map f xs i

module _ (s : Layout) (ns : Nodes Knowledge) where
  get_listed : (origin : ℕ) → find nat_cmp origin (listed ns) ≡ option_map listed_node (get ns origin)
  unfolding listed
  get_listed origin = find_listed origin (entries ns) ∙ ap (option_map listed_node) (sym (get-entries ns origin))

  insert_listed : (origin : ℕ) (n : Node Knowledge)
      → listed (insert ns origin n) ≡ put nat_cmp origin (listed_node n) (listed ns)
  unfolding listed
  insert_listed origin n = ap (map as_listed) (entries-insert nat_cmp_total ns origin n)
      ∙ put_listed origin n (entries ns)

  held_listed : (there : Moment) → list_held (listed ns) there ≡ option_map entries (held_at ns there)
  unfolding listed_node
  held_listed there = ap (λ (o : Option (Node Known)). o >>= λ n. slice_get (all_held n) there.ago)
      (get_listed there.origin) ∙ by (get ns there.origin)
    where
      by : (o : Option (Node Knowledge)) → (option_map listed_node o >>= λ n. slice_get (all_held n) there.ago)
          ≡ option_map entries (o >>= λ n. slice_get (all_held n) there.ago)
      by None = refl
      by (Some n) = slice_of_map entries (all_held n) there.ago

  where_listed : {X Y : Type 0} (view : X → Y) (o : Option X) (g : X → Nodes Knowledge) (h : Y → Listed)
      → ((x : X) → listed (g x) ≡ h (view x)) → listed (where_some o ns g)
      ≡ where_some (option_map view o) (listed ns) h
  where_listed view None g h each = refl
  where_listed view (Some x) g h each = each x

  used_listed : (origin : ℕ) → is_some (find nat_cmp origin (listed ns)) ≡ contains_key ns origin
  used_listed origin = ap is_some (get_listed origin) ∙ by (get ns origin)
    where
      by : (o : Option (Node Knowledge)) → is_some (option_map listed_node o) ≡ is_some o
      by None = refl
      by (Some n) = refl

  new_listed : (origin : ℕ) (k : Knowledge) → listed (with_new ns origin k) ≡ list_new (listed ns) origin (entries k)
  unfolding listed_node
  new_listed origin k = by (contains_key ns origin) refl (record { next = 1; now = k; before = [] })
    where
      by : (b : Bool) → contains_key ns origin ≡ b → (new : Node Knowledge)
          → listed (if contains_key ns origin then ns else insert ns origin new)
          ≡ (if is_some (find nat_cmp origin (listed ns)) then listed ns else put nat_cmp origin (listed_node new)
          (listed ns))
      by true e new = rw (used_listed origin, e) refl
      by false e new = rw (used_listed origin, e) (insert_listed origin new)

  wrote_listed : (origin : ℕ) (n : Node Knowledge) (key : List ℕ) (time value : ℤ)
      → listed_node (written sample_model s origin n key time value)
      ≡ written list_model s origin (listed_node n) key time value
  unfolding listed_node
  wrote_listed origin n key time value = by (nat_le n.next MAX_NUMBER)
      (record { time = time; origin = origin; number = n.next; key = key; value = value })
    where
      by : (b : Bool) (x : Sample) → listed_node (if b then holding n (n.next + 1)
          (with_marks n.now (marks_of s x)) else n) ≡ (if b then holding (listed_node n) (n.next + 1)
          (set (marks (entries n.now) ++ marks (set (marks_of s x)))) else listed_node n)
      by true x = λ i. record {
        next = n.next + 1;
        now =
            entries_with n.now (set_of (marks_of s x)) (set (marks_of s x)) (entries_set (marks_of s x)) i;
        before =
            entries n.now ∷ map entries n.before;
      }
      by false x = refl

  took_listed : (origin : ℕ) (n : Node Knowledge) (k : Knowledge) (name : CellName)
      → listed_node (taken sample_model s origin n k name) ≡ taken list_model s origin (listed_node n) (entries k) name
  unfolding listed_node
  took_listed origin n k name =
      let test = eq_by_cmp cell_name_cmp name in
      λ i. record {
        next = n.next;
        now = entries_with n.now (cells_where s k test) (known_where s (entries k) test)
            (entries_where s k test) i;
        before = entries n.now ∷ map entries n.before;
      }

  after_listed : (d : Deed) → listed (after sample_model s ns d) ≡ list_after s (listed ns) d
  after_listed (opened origin) = new_listed origin empty ∙ ap (list_new (listed ns) origin) (entries_empty mark_cmp)
  after_listed (wrote origin key time value) =
      where_listed listed_node (get ns origin) _ (λ n. put nat_cmp origin (written list_model s origin n key time value)
      (listed ns))
      (λ n. insert_listed origin (written sample_model s origin n key time value)
      ∙ ap (λ m. put nat_cmp origin m (listed ns)) (wrote_listed origin n key time value))
      ∙ ap (λ o. where_some o (listed ns) (λ n. put nat_cmp origin (written list_model s origin n key time value)
      (listed ns))) (sym (get_listed origin))
  after_listed (took origin there name) =
      where_listed listed_node (get ns origin) _ (λ n. where_some (list_held (listed ns) there) (listed ns)
      (λ k. put nat_cmp origin (taken list_model s origin n k name) (listed ns))) (λ n.
      where_listed entries (held_at ns there) _ (λ k. put nat_cmp origin
      (taken list_model s origin (listed_node n) k name) (listed ns))
      (λ k. insert_listed origin (taken sample_model s origin n k name)
      ∙ ap (λ m. put nat_cmp origin m (listed ns)) (took_listed origin n k name))
      ∙ ap (λ o. where_some o (listed ns) (λ k. put nat_cmp origin (taken list_model s origin (listed_node n) k name)
      (listed ns))) (sym (held_listed there)))
      ∙ ap (λ o. where_some o (listed ns) (λ n. where_some (list_held (listed ns) there) (listed ns)
      (λ k. put nat_cmp origin (taken list_model s origin n k name) (listed ns)))) (sym (get_listed origin))
  after_listed (loaded origin there) =
      where_listed entries (held_at ns there) _ (λ k. list_new (listed ns) origin (known_live s k))
      (λ k. new_listed origin (live s k) ∙ ap (list_new (listed ns) origin) (entries_live s k))
      ∙ ap (λ o. where_some o (listed ns) (λ k. list_new (listed ns) origin (known_live s k))) (sym (held_listed there))

all_listed : (s : Layout) (deeds : List Deed) (ns : Nodes Knowledge)
    → listed (fold (after sample_model s) ns deeds) ≡ fold (list_after s) (listed ns) deeds
all_listed s [] ns = refl
all_listed s (d ∷ deeds) ns = all_listed s deeds (after sample_model s ns d)
    ∙ ap (λ es. fold (list_after s) es deeds) (after_listed s ns d)

nothing_listed : listed empty ≡ []
unfolding listed
nothing_listed = ap (map as_listed) (entries_empty nat_cmp)

-- ---- fetches

abbrev list_row : Layout → Known → List ℕ → ℕ → ℤ → ConsolidationFunction → Option ℤ
list_row s es key archive slot f =
    let ms = filter (λ m. is_at key archive slot (name_of s m)) (marks es) in
    if is_known_enough s archive (known_places s archive ms) then of_marks f ms else None

abbrev list_text : Layout → Request → Known → List ℕ
list_text s q es = flat_map (record_text q.key) (rows_of s (λ slot. list_row s es q.key q.archive slot q.function) q)

text_listed : (s : Layout) (k : Knowledge) (q : Request) → fetch_text s k q ≡ list_text s q (known_live s (entries k))
unfolding answer_text row marks_of_row
text_listed s k q = ap (list_text s q) (entries_live s k)

fetched : (s : Layout) (deeds : List Deed) (at : Moment) (q : Request)
    → option_map (λ k. fetch_text s k q) (held_at (after_all sample_model s deeds) at)
    ≡ option_map (λ es. list_text s q (known_live s es)) (list_held (fold (list_after s) [] deeds) at)
fetched s deeds at q =
    by (held_at (after_all sample_model s deeds) at)
    ∙ ap (option_map (λ es. list_text s q (known_live s es)))
    (sym (held_listed s (after_all sample_model s deeds) at)
    ∙ ap (λ es. list_held es at) (all_listed s deeds empty
    ∙ ap (λ es. fold (list_after s) es deeds) nothing_listed))
  where
    by : (o : Option Knowledge) → option_map (λ k. fetch_text s k q) o
        ≡ option_map (λ es. list_text s q (known_live s es)) (option_map entries o)
    by None = refl
    by (Some k) = ap Some (text_listed s k q)

-- ---- the example

minutes_is_layout : IsLayout minutes
minutes_is_layout = record {
  some_step = omega arith;
  short_step = omega arith;
  some_archive = omega arith;
  few_archives = omega arith;
  each = All-from_recursion IsArchive minutes.archives (
    record {
      some_step = omega arith;
      few_steps = omega arith;
      some_row = omega arith;
      few_rows =
          omega arith;
      fraction = omega arith;
      fine = omega arith;
    },
    tt,
  );
  rising = λ k h. absurd (omega (arith, h));
}

abbrev mark_at : ℕ → ℕ → ℕ → ℤ → Mark × Unit {0}
mark_at origin number minute value = (
  record {
    sample =
        record { time = pos (minute * 60_000_000_000); origin = origin; number = number; key = load; value = value };
    archive = 0;
  },
  tt,
)

-- what the first and the third node know then, and the second
abbrev of_first : Known
of_first = mark_at 1 1 0 (pos 10) ∷ mark_at 1 2 1 (pos 20) ∷ []

abbrev of_second : Known
of_second = mark_at 1 1 0 (pos 10) ∷ mark_at 2 1 1 (pos 7) ∷ []

all_known : list_held (fold (list_after minutes) [] deeds_of_three) (now_at 1) ≡ Some of_first
unfolding newest
all_known = refl

cut_known : list_held (fold (list_after minutes) [] deeds_of_three) (now_at 2) ≡ Some of_second
unfolding newest
cut_known = refl

twice_known : list_held (fold (list_after minutes) [] deeds_of_three) (now_at 3) ≡ Some of_first
unfolding newest
twice_known = refl

first_text : list_text minutes both_minutes (known_live minutes of_first) ≡ codes "load,0,10"
    ++ line_feed ∷ codes "load,60,20" ++ line_feed ∷ []
unfolding newest place_of digits
first_text = refl

second_text : list_text minutes both_minutes (known_live minutes of_second) ≡ codes "load,0,10"
    ++ line_feed ∷ codes "load,60,7" ++ line_feed ∷ []
unfolding newest place_of digits
second_text = refl

answers : (origin : ℕ) (es : Known) (text : List ℕ)
    → list_held (fold (list_after minutes) [] deeds_of_three) (now_at origin) ≡ Some es
    → list_text minutes both_minutes (known_live minutes es) ≡ text → answer_at origin ≡ Some text
answers origin es text known is =
    fetches_are_of_samples minutes deeds_of_three (now_at origin) both_minutes minutes_is_layout
    ∙ fetched minutes deeds_of_three (now_at origin) both_minutes
    ∙ ap (option_map (λ fs. list_text minutes both_minutes (known_live minutes fs))) known
    ∙ ap Some is

pub three_answer : ThreeAnswer
three_answer = record {
  first = answers 1 of_first _ all_known first_text;
  second = answers 2 of_second _ cut_known second_text;
  third = answers 3 of_first _ twice_known first_text;
}
