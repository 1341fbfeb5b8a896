-- The lines of a text, cut off one by one, and what counting one makes of the counts.
use Rattle.std.proofs.Common.{◌≡◌, ℕ, ◌+◌, ◌<◌, ◌≤◌, Bool, cond, eqb, List, [], ◌∷◌, length, Option, Some, None, option_map, refl, sym, ap, subst, ◌∙◌, inl, inr, length-append, arith, unwrap_or}
use Rattle.std.specs.Prelude.{count_by, sum}
use Rattle.std.specs.BTreeMap.{BTreeMap, btree_map_len, insert_entry, values}
use Rattle.std.specs.Cmp.Lexicographic.{nat_list_cmp_total}
use Rattle.std.specs.FinMap.{IsAntisymmetric, nat_cmp-IsAntisymmetric, slice_cmp-IsAntisymmetric}
use Rattle.std.specs.Global.{Vec}
use Rattle.std.specs.List.Sorted.{IsStrictlySortedBy}
use Rattle.std.specs.Map.{keys_of, set_value, values_of}
use Rattle.std.specs.Option.{is_some}
use Rattle.std.specs.Ordering.{eq_by_cmp}
use Rattle.std.proofs.lemmas.Bool.{cases_Bool}
use Rattle.std.proofs.lemmas.Cmp.{on_total}
use Rattle.std.proofs.lemmas.List.Sums.{sum_by-cons}
use Rattle.std.proofs.lemmas.Map.{length-set_value}
use Rattle.std.proofs.lemmas.Map.Entries.{sum_by-insert_entry, sum_by-set_value}
use Rattle.std.proofs.lemmas.Map.Steps.{lookup-le-sum}
use Rattle.std.proofs.lemmas.Map.Text.{is_eq-slice_cmp}
use Rattle.rr_join.specs.Values.{get_called}
use Rattle.rr_join.proofs.Members.{same_from_tie}
use Rattle.rr_join.proofs.ValuesLemmas.{get_called-insert, get_called-set}
use Rattle.rr_text.proofs.CutLemmas.{parts_of_cut}
use Rattle.rr_text.specs.Bytes.{bytes_cmp}
use Rattle.rr_text.specs.Text.{cut_at}
use Rattle.rr_text.specs.declared.bytes.TheConstants.{LINE_FEED}
use Rattle.rr_batch.specs.declared.refusals.RefusalCounts.{RefusalCounts}
use Rattle.rr_batch.specs.declared.refusals.TheConstants.{MAX_NAMES}
use Rattle.rr_batch.specs.Refusals.{Counts, HasRoom, all_lines, is_name, lines_named, lines_under, name_in, one_if, onto_first, whole_lines}

-- ---- the lines of a text

some_is : {A : Type 0} (x y : A) → Some x ≡ Some y → x ≡ y
some_is x y e = cc

mapped_some : {A B : Type 0} (f : A → B) (o : Option A) (y : B) → option_map f o ≡ Some y
    → (x : A) × (o ≡ Some x) × (f x ≡ y)
mapped_some f None y e = absurd cc
mapped_some f (Some x) y e = (x, refl, cc)

-- a text that is cut at a line feed is a line, and the lines behind it
pub lines_cut : (text line rest : List ℕ) → cut_at LINE_FEED text ≡ Some (line, rest)
    → whole_lines text ≡ line ∷ whole_lines rest
lines_cut [] line rest e = absurd cc
lines_cut (byte ∷ text) line rest e =
    elim (cases_Bool (eqb byte LINE_FEED)) [
      | inl here ↦
          let cut = rw here at e in
          let IsFirst : List ℕ × List ℕ → Type 0 = λ parts. [] ∷ whole_lines text ≡ parts.0 ∷ whole_lines parts.1 in
          rw here (subst IsFirst (some_is ([], text) (line, rest) cut) refl)
      | inr other ↦
          let cut = rw other at e in
          let found = mapped_some (λ (parts : List ℕ × List ℕ). (byte ∷ parts.0, parts.1)) (cut_at LINE_FEED text)
          (line, rest) cut in
          let IsFirst : List ℕ × List ℕ → Type 0 =
          λ parts. onto_first byte (whole_lines text) ≡ parts.0 ∷ whole_lines parts.1 in
          rw other (subst IsFirst found.2 (ap (onto_first byte) (lines_cut text found.0.0 found.0.1 found.1)))
    ]

some_no : {A : Type 0} (x : A) → Some x ≡ None → ⊥
some_no x e = cc

mapped_none : {A B : Type 0} (f : A → B) (o : Option A) → option_map f o ≡ None → o ≡ None
mapped_none f None e = refl
mapped_none f (Some x) e = absurd cc

-- one that isn't has none
pub no_lines : (text : List ℕ) → cut_at LINE_FEED text ≡ None → whole_lines text ≡ []
no_lines [] e = refl
no_lines (byte ∷ text) e =
    elim (cases_Bool (eqb byte LINE_FEED)) [
      | inl here ↦ absurd (some_no ([], text) (rw here at e))
      | inr other ↦
          let none = mapped_none (λ (parts : List ℕ × List ℕ). (byte ∷ parts.0, parts.1)) (cut_at LINE_FEED text)
          (rw other at e) in
          rw (other, no_lines text none) refl
    ]

length-onto_first : (byte : ℕ) (lines : List (List ℕ)) → length (onto_first byte lines) ≡ length lines
length-onto_first byte [] = refl
length-onto_first byte (line ∷ lines) = refl

-- each line takes a byte
pub lines-le : (text : List ℕ) → length (whole_lines text) ≤ length text
lines-le [] = omega arith
lines-le (byte ∷ text) =
    elim (cases_Bool (eqb byte LINE_FEED)) [
      | inl here ↦ rw here (omega (arith, lines-le text))
      | inr other ↦ rw other (omega (arith, lines-le text, length-onto_first byte (whole_lines text)))
    ]

-- one line less is left
pub one_less : (text line rest : List ℕ) → cut_at LINE_FEED text ≡ Some (line, rest)
    → length (whole_lines text) ≡ 1 + length (whole_lines rest)
one_less text line rest cut = ap length (lines_cut text line rest cut) ∙ omega arith

-- what is left is shorter
pub rest-lt : (text line rest : List ℕ) → cut_at LINE_FEED text ≡ Some (line, rest) → length rest < length text
rest-lt text line rest cut =
    let parts = ap length (parts_of_cut LINE_FEED text line rest cut) in
    let sum = length-append line (LINE_FEED ∷ rest) in
    omega (arith, parts, sum)

-- ---- how they are counted

-- the lines of a text up to what is left of it are counted
pub record CountsSoFar (old now : RefusalCounts) (text left : List ℕ) : Type 0 where
  pub all : all_lines now + length (whole_lines left) ≡ all_lines old + length (whole_lines text)
  pub room : HasRoom now → HasRoom old
  pub each : HasRoom now → (name : List ℕ)
      → lines_under name now + lines_named name left ≡ lines_under name old + lines_named name text

-- one line more is
pub next_counted : (old now new : RefusalCounts) (text left line rest : List ℕ) → CountsSoFar old now text left
    → cut_at LINE_FEED left ≡ Some (line, rest) → Counts now new 1 (λ name. one_if name (name_in line))
    → CountsSoFar old new text rest
next_counted old now new text left line rest before cut counted =
    let lines = lines_cut left line rest cut in
    let some = one_less left line rest cut in
    let more : (name : List ℕ) → lines_named name left ≡ one_if name (name_in line) + lines_named name rest =
    λ name. ap (count_by (λ line. is_name name (name_in line))) lines ∙ sum_by-cons _ line (whole_lines rest) in
    record {
      all = omega (arith, before.all, counted.all, some);
      room = λ h. before.room (counted.room h);
      each = λ h name. omega (arith, before.each (counted.room h) name, counted.each h name, more name);
    }

-- all are
pub all_counted : (old new : RefusalCounts) (text left : List ℕ) → CountsSoFar old new text left
    → cut_at LINE_FEED left ≡ None → Counts old new (length (whole_lines text)) (λ name. lines_named name text)
all_counted old new text left so_far cut =
    let none = no_lines left cut in
    let no_more : length (whole_lines left) ≡ 0 = ap length none in
    let not_one : (name : List ℕ) → lines_named name left ≡ 0 =
    λ name. ap (count_by (λ line. is_name name (name_in line))) none in
    record {
      all = omega (arith, so_far.all, no_more);
      room = so_far.room;
      each = λ h name. omega (arith, so_far.each h name, not_one name);
    }

abbrev bytes_in : Vec ℕ → List ℕ
bytes_in key = key.items

-- ---- lines of no name

-- further lines are counted beside these
pub others_counted : (old now new : RefusalCounts) (lines more : ℕ) (named : List ℕ → ℕ) → Counts old now lines named
    → new.named ≡ now.named → new.other ≡ now.other + more → Counts old new (lines + more) named
others_counted old now new lines more named counted same others =
    let total = ap (λ (m : BTreeMap (Vec ℕ) ℕ). sum (values m)) same in
    let len = ap (λ (m : BTreeMap (Vec ℕ) ℕ). btree_map_len m) same in
    record {
      all = omega (arith, counted.all, total, others);
      room = λ h. counted.room (subst (λ n. n < MAX_NAMES) len h);
      each = λ h name. ap (λ (m : BTreeMap (Vec ℕ) ℕ). unwrap_or (get_called bytes_cmp bytes_in m name) 0) same
          ∙ counted.each (subst (λ n. n < MAX_NAMES) len h) name;
    }

-- ---- one name

abbrev found : RefusalCounts → List ℕ → Option ℕ
found counts name = get_called bytes_cmp bytes_in counts.named name

names_apart : IsAntisymmetric bytes_cmp
names_apart = slice_cmp-IsAntisymmetric nat_cmp-IsAntisymmetric

-- a name whose count is one more; others keep theirs
raised_at : (old new : RefusalCounts) (name : List ℕ) (n : ℕ) → lines_under name old ≡ n
    → ((q : List ℕ) → found new q ≡ cond (eq_by_cmp bytes_cmp q name) (Some (n + 1)) (found old q))
    → (q : List ℕ) → lines_under q new ≡ lines_under q old + one_if q (Some name)
raised_at old new name n was put q =
    let tested = is_eq-slice_cmp q name in
    elim (cases_Bool (eq_by_cmp bytes_cmp q name)) [
      | inl here ↦
          let same : q ≡ name = same_from_tie nat_list_cmp_total names_apart q name here in
          let now : lines_under q new ≡ n + 1 = ap (λ o. unwrap_or o 0)
          (put q ∙ ap (λ b. cond b (Some (n + 1)) (found old q)) here) in
          let before : lines_under q old ≡ n = ap (λ one. lines_under one old) same ∙ was in
          let one : one_if q (Some name) ≡ 1 = ap (λ b. cond b 1 0) (sym tested ∙ here) in
          omega (arith, now, before, one)
      | inr other ↦
          let now : lines_under q new ≡ lines_under q old = ap (λ o. unwrap_or o 0)
          (put q ∙ ap (λ b. cond b (Some (n + 1)) (found old q)) other) in
          let none : one_if q (Some name) ≡ 0 = ap (λ b. cond b 1 0) (sym tested ∙ other) in
          omega (arith, now, none)
    ]

-- no count is above that of all lines
pub count-le : (counts : RefusalCounts) (name : List ℕ) (n : ℕ) → found counts name ≡ Some n → n ≤ all_lines counts
count-le counts name n was =
    let test : Vec ℕ → Bool = λ key. eq_by_cmp bytes_cmp name key.items in
    let most = lookup-le-sum test counts.named.entries in
    let is : unwrap_or (found counts name) 0 ≡ n = ap (λ o. unwrap_or o 0) was in
    omega (arith, most, is)

-- one that is counted already
pub counted_again : (old new : RefusalCounts) (name : List ℕ) (n w : ℕ) → found old name ≡ Some n → w ≡ n + 1
    → new.named.entries ≡ set_value (λ key. eq_by_cmp bytes_cmp name key.items) old.named.entries w
    → new.other ≡ old.other → Counts old new 1 (λ own. one_if own (Some name))
counted_again old new name n w was more written same =
    let test : Vec ℕ → Bool = λ key. eq_by_cmp bytes_cmp name key.items in
    let now = written ∙ ap (set_value test old.named.entries) more in
    let sums = sum_by-set_value (λ (n : ℕ). n) test old.named.entries n (n + 1) was in
    let total : sum (values_of new.named.entries) ≡ sum (values_of (set_value test old.named.entries (n + 1))) =
    ap (λ es. sum (values_of es)) now in
    let len : length new.named.entries ≡ length old.named.entries =
    ap length now ∙ length-set_value test old.named.entries (n + 1) in
    record {
      all = omega (arith, sums, total, same);
      room = λ h. omega (arith, h, len);
      each = λ _. raised_at old new name n (ap (λ o. unwrap_or o 0) was)
          (get_called-set nat_list_cmp_total names_apart bytes_in old.named new.named name (n + 1) now
          (ap is_some was));
    }

-- one that is new
counted_new : (old new : RefusalCounts) (key : Vec ℕ) → found old key.items ≡ None
    → new.named.entries ≡ insert_entry (λ a b. bytes_cmp a.items b.items) old.named.entries key 1
    → IsStrictlySortedBy (λ (a b : Vec ℕ). bytes_cmp a.items b.items) (keys_of old.named.entries)
    → length old.named.entries ≤ length new.named.entries → new.other ≡ old.other
    → Counts old new 1 (λ own. one_if own (Some key.items))
counted_new old new key was written sorted len same =
    let sums = sum_by-insert_entry (λ (n : ℕ). n) (on_total bytes_in nat_list_cmp_total) old.named.entries key 1
    sorted in
    let none = ap (λ o. unwrap_or (option_map (λ (n : ℕ). n) o) 0) was in
    let total : sum (values_of new.named.entries)
    ≡ sum (values_of (insert_entry (λ a b. bytes_cmp a.items b.items) old.named.entries key 1)) =
    ap (λ es. sum (values_of es)) written in
    record {
      all = omega (arith, sums, none, total, same);
      room = λ h. omega (arith, h, len);
      each = λ _. raised_at old new key.items 0 (ap (λ o. unwrap_or o 0) was)
          (get_called-insert nat_list_cmp_total names_apart bytes_in old.named new.named key 1 written);
    }

pub counted_first : (old new : RefusalCounts) (key : Vec ℕ) (name : List ℕ) → key.items ≡ name
    → found old name ≡ None
    → new.named.entries ≡ insert_entry (λ a b. bytes_cmp a.items b.items) old.named.entries key 1
    → IsStrictlySortedBy (λ (a b : Vec ℕ). bytes_cmp a.items b.items) (keys_of old.named.entries)
    → length old.named.entries ≤ length new.named.entries → new.other ≡ old.other
    → Counts old new 1 (λ own. one_if own (Some name))
counted_first old new key name is was written sorted len same =
    subst (λ n. Counts old new 1 (λ own. one_if own (Some n))) is
    (counted_new old new key (ap (found old) is ∙ was) written sorted len same)
