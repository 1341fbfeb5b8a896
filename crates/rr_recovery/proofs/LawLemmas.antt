-- What records make of a replica, by what they mean, and joins of their cells.
use Rattle.std.proofs.Common.{◌≡◌, ℕ, ◌-◌, Bool, true, false, ◌||◌, List, [], ◌∷◌, ◌++◌, length, map, take, Option, None, Some, Result, Ok, Err, refl, sym, ap, subst, ◌∙◌}
use Rattle.std.specs.Prelude.{nat_le, ◌==◌, if◌then◌else◌}
use Rattle.std.specs.FinMap.{empty, insert}
use Rattle.std.specs.List.{flat_map, list_any}
use Rattle.rr_text.specs.Results.{◌>>=◌, unless}
use Rattle.rr_schema.specs.Schema.{Layout, IsLayout}
use Rattle.rr_cells.specs.CellBounds.{NamedCell}
use Rattle.rr_cells.specs.Cells.{Cells, IsTrimmed}
use Rattle.rr_cells.specs.Joining.{with_named}
use Rattle.rr_cells.specs.Joins.{join, join_cell, join_cells}
use Rattle.rr_cells.specs.ReplicaState.{ReplicaState}
use Rattle.rr_cells.proofs.CellByCell.{join_nothing, trimmed_none}
use Rattle.rr_cells.proofs.JoinLaws.{join_commutes, join_associates, join_itself, join_trims}
use Rattle.rr_journal.specs.declared.fault.JournalFault.{JournalFault}
use Rattle.rr_journal.specs.Body.{Meaning, HasCells, HasOrigin, HasJoined, HasEnded, HasWitness, record_meaning}
use Rattle.rr_journal.specs.Text.{Raw, record_len, whole_within}
use Rattle.rr_journal.proofs.TextLemmas.{prefixes_are_read, synced_is_read}
use Rattle.rr_recovery.specs.declared.fault.RecoveryFault.{RecoveryFault}
use Rattle.rr_recovery.specs.declared.fault.RecoveryFault.TheVariants.{OriginUsed}
use Rattle.rr_recovery.specs.Found.{end_after, last_end}
use Rattle.rr_recovery.specs.Joining.{cells_of_record, group_cells, with_all}
use Rattle.rr_recovery.specs.Taking.{Recovery, as_bad, taken, taken_cells, taken_record, taken_records, with_one, with_record}
use Rattle.rr_recovery.specs.Laws.{Holds, IsHistory, PrefixesMakeTheirMap, RecordsAreTaken, ReplaysAreRepeatable, ReplaysJoin, SyncedIsThere, cells_of_all, is_named, last_map, meanings_of}
use Rattle.rr_recovery.proofs.MeaningLemmas.{as_bad_ok}
use Rattle.rr_recovery.proofs.TakingLemmas.{with_all-append, with_all-origin, with_all-schema}

abbrev Taken : Type 0
Taken = Result Recovery RecoveryFault

-- ---- what one record makes

-- the next step of one that went well
pub then_ok : {A B : Type 0} (r : Result A RecoveryFault) (f : A → Result B RecoveryFault) (y : B) → (r >>= f) ≡ Ok y
    → (x : A) × (r ≡ Ok x) × (f x ≡ Ok y)
then_ok (Ok x) f y e = (x, refl, e)
then_ok (Err fault) f y e = absurd cc

unless_used : (b : Bool) (r : Taken) (y : Recovery) → unless OriginUsed b r ≡ Ok y → (b ≡ false) × (r ≡ Ok y)
unless_used true r y e = absurd cc
unless_used false r y e = (refl, e)

abbrev among : ℕ → List NamedCell → Bool
among origin es = list_any (λ o. o == origin) (map (λ e. e.0.origin) es)

cells_taken : (x y : Recovery) (es : List NamedCell) → taken_cells x es ≡ Ok y
    → (among x.replica.origin es ≡ false) × (y.replica ≡ with_all x.replica es)
cells_taken x y [] e = let is : x ≡ y = cc e in (refl, sym (ap (λ (z : Recovery). z.replica) is))
cells_taken x y (e ∷ es) h =
    let a = unless_used (e.0.origin == x.replica.origin) (taken_cells (with_one x e) es) y h in
    let b = cells_taken (with_one x e) y es a.1 in
    (ap (λ (t : Bool). t || among x.replica.origin es) a.0 ∙ b.0, b.1)

cells_end : (x y : Recovery) (es : List NamedCell) → taken_cells x es ≡ Ok y → y.found.end ≡ x.found.end
cells_end x y [] e = let is : x ≡ y = cc e in sym (ap (λ (z : Recovery). z.found.end) is)
cells_end x y (e ∷ es) h =
    let a = unless_used (e.0.origin == x.replica.origin) (taken_cells (with_one x e) es) y h in
    cells_end (with_one x e) y es a.1

-- what a record means, and makes
pub record IsTaken (x y : Recovery) (m : Meaning) : Type 0 where
  pub unused : is_named x.replica.origin m ≡ false
  pub state : y.replica ≡ with_all x.replica (cells_of_record m)
  pub end : y.found.end ≡ end_after x.found.end m

or_false : (b : Bool) → b ≡ false → (b || false) ≡ false
or_false b e = ap (λ (c : Bool). c || false) e

same_replica : (x y z : Recovery) → ◌≡◌ {A = Taken} (Ok x) (Ok y) → x.replica ≡ z.replica → y.replica ≡ z.replica
same_replica x y z e is = let same : x ≡ y = cc e in sym (ap (λ (w : Recovery). w.replica) same) ∙ is

same_end : (x y : Recovery) (o : Option ℕ) → ◌≡◌ {A = Taken} (Ok x) (Ok y) → x.found.end ≡ o → y.found.end ≡ o
same_end x y o e is = let same : x ≡ y = cc e in sym (ap (λ (w : Recovery). w.found.end) same) ∙ is

meaning_taken : (x y : Recovery) (m : Meaning) → taken x m ≡ Ok y → IsTaken x y m
meaning_taken x y (HasCells groups) e =
    let a = cells_taken x y (flat_map group_cells groups) e in record {
      unused = a.0;
      state = a.1;
      end = cells_end x y (flat_map group_cells groups) e;
    }
meaning_taken x y (HasOrigin origin) e =
    let a = unless_used (origin == x.replica.origin) _ y e in
    record { unused = or_false _ a.0; state = same_replica _ y x a.1 refl; end = same_end _ y x.found.end a.1 refl }
meaning_taken x y (HasJoined cursor) e =
    record { unused = refl; state = same_replica _ y x e refl; end = same_end _ y x.found.end e refl }
meaning_taken x y (HasEnded count) e =
    record { unused = refl; state = same_replica _ y x e refl; end = same_end _ y (Some count) e refl }
meaning_taken x y (HasWitness witness) e =
    record { unused = refl; state = same_replica _ y x e refl; end = same_end _ y x.found.end e refl }

pub record RecordTaken (x y : Recovery) (r : Raw) : Type 0 where
  pub meaning : Meaning
  pub read : record_meaning x.replica.schema r ≡ Ok meaning
  pub is : IsTaken (with_record x) y meaning

pub record_taken : (x y : Recovery) (r : Raw) → taken_record x r ≡ Ok y → RecordTaken x y r
record_taken x y r e =
    let a = then_ok (as_bad (record_meaning x.replica.schema r)) (taken (with_record x)) y e in
    let is = meaning_taken (with_record x) y a.0 a.2 in record {
      meaning = a.0;
      read = as_bad_ok _ a.0 a.1;
      is = is;
    }

-- ---- what records make

pub records_are_taken : RecordsAreTaken
records_are_taken x y [] e = let is : x ≡ y = cc e in record {
  meanings = [];
  read = refl;
  unused = refl;
  state = sym (ap (λ (z : Recovery). z.replica) is);
  end = sym (ap (λ (z : Recovery). z.found.end) is);
}
records_are_taken x y (r ∷ rs) e =
    let a = then_ok (taken_record x r) (λ z. taken_records z rs) y e in
    let z = a.0 in
    let first = record_taken x z r a.1 in
    let es = cells_of_record first.meaning in
    let others = records_are_taken z y rs a.2 in
    let schema : z.replica.schema ≡ x.replica.schema =
    ap (λ (h : ReplicaState). h.schema) first.is.state ∙ with_all-schema x.replica es in
    let origin : z.replica.origin ≡ x.replica.origin =
    ap (λ (h : ReplicaState). h.origin) first.is.state ∙ with_all-origin x.replica es in
    let read : meanings_of x.replica.schema rs ≡ Ok others.meanings =
    sym (ap (λ (s : Layout). meanings_of s rs) schema) ∙ others.read in
    record {
      meanings = first.meaning ∷ others.meanings;
      read = ap (λ (m : Result Meaning JournalFault). m >>= λ n. meanings_of x.replica.schema rs >>= λ ms. Ok (n ∷ ms))
          first.read
          ∙ ap (λ (ms : Result (List Meaning) JournalFault). ms >>= λ ns. Ok (first.meaning ∷ ns)) read;
      unused = ap (λ (b : Bool). b || list_any (is_named x.replica.origin) others.meanings) first.is.unused
          ∙ sym (ap (λ (o : ℕ). list_any (is_named o) others.meanings) origin) ∙ others.unused;
      state = others.state ∙ ap (λ (h : ReplicaState). with_all h (cells_of_all others.meanings)) first.is.state
          ∙ sym (with_all-append x.replica es (cells_of_all others.meanings));
      end = others.end ∙ ap (λ (o : Option ℕ). last_end o others.meanings) first.is.end;
    }

pub replays_join : ReplaysJoin
replays_join h [] = refl
replays_join h (e ∷ es) = replays_join (with_named h e) es

-- ---- joins

pub join_cells-append : (s : Layout) (m : Cells) (es fs : List NamedCell)
    → join_cells s m (es ++ fs) ≡ join_cells s (join_cells s m es) fs
join_cells-append s m [] fs = refl
join_cells-append s m (e ∷ es) fs = join_cells-append s (join_cell s m e.0 e.1) es fs

module _ (s : Layout) (layout : IsLayout s) where
  pub joined_is_trimmed : (m : Cells) (es : List NamedCell) → IsTrimmed s m → IsTrimmed s (join_cells s m es)
  joined_is_trimmed m [] kept = kept
  joined_is_trimmed m (e ∷ es) kept = joined_is_trimmed (join_cell s m e.0 e.1) es
      (join_trims s m (insert empty e.0 e.1) layout)

  -- what cells make alone
  abbrev alone : List NamedCell → Cells
  alone es = join_cells s empty es

  alone_trimmed : (es : List NamedCell) → IsTrimmed s (alone es)
  alone_trimmed es = joined_is_trimmed empty es (trimmed_none s)

  nothing_first : (m : Cells) → IsTrimmed s m → join s empty m ≡ m
  nothing_first m kept = join_commutes s empty m layout ∙ sym (join_nothing s m kept)

  -- to join cells is to join what they make alone
  pub joined_whole : (m : Cells) (es : List NamedCell) → IsTrimmed s m → join_cells s m es ≡ join s m (alone es)
  joined_whole m [] kept = join_nothing s m kept
  joined_whole m (e ∷ es) kept =
      let one : Cells = insert empty e.0 e.1 in
      let first : join_cells s (join s m one) es ≡ join s (join s m one) (alone es) = joined_whole (join s m one) es
      (join_trims s m one layout) in
      let rest : join s (join s empty one) (alone es) ≡ join s one (alone es) =
      join_associates s empty one (alone es) layout ∙ nothing_first (join s one (alone es))
      (join_trims s one (alone es) layout) in
      let made : alone (e ∷ es) ≡ join s one (alone es) = joined_whole (join s empty one) es
      (join_trims s empty one layout) ∙ rest in
      first ∙ join_associates s m one (alone es) layout ∙ ap (join s m) (sym made)

  pub repeatable : (m : Cells) (es fs : List NamedCell) → IsTrimmed s m
      → join_cells s (join_cells s m (es ++ fs)) fs ≡ join_cells s m (es ++ fs)
  repeatable m es fs kept =
      let had = join_cells s m es in
      let had_kept = joined_is_trimmed m es kept in
      let f = alone fs in
      let whole : join_cells s m (es ++ fs) ≡ join s had f = join_cells-append s m es fs ∙ joined_whole had fs had_kept in
      ap (λ (n : Cells). join_cells s n fs) whole
      ∙ joined_whole (join s had f) fs (join_trims s had f layout)
      ∙ join_associates s had f f layout
      ∙ ap (join s had) (join_itself s f layout (alone_trimmed fs))
      ∙ sym whole

  -- what cells are joined to is held
  pub holds_first : (m : Cells) (es : List NamedCell) → IsTrimmed s m → Holds s (join_cells s m es) m
  holds_first m es kept =
      let f = alone es in
      let whole : join_cells s m es ≡ join s m f = joined_whole m es kept in
      ap (λ (n : Cells). join s n m) whole
      ∙ join_commutes s (join s m f) m layout
      ∙ sym (join_associates s m m f layout)
      ∙ ap (λ (n : Cells). join s n f) (join_itself s m layout kept)
      ∙ sym whole

pub replays_are_repeatable : ReplaysAreRepeatable
replays_are_repeatable s m es fs layout kept = repeatable s layout m es fs kept

-- ---- what a crash leaves

same_ok : {A : Type 0} (r : Result A JournalFault) (x y : A) → r ≡ Ok x → r ≡ Ok y → x ≡ y
same_ok r x y p q = cc (p, q)

cells_made : (x y : Recovery) (es : List NamedCell) → y.replica ≡ with_all x.replica es
    → y.replica.cells ≡ join_cells x.replica.schema x.replica.cells es
cells_made x y es e = ap (λ (h : ReplicaState). h.cells) e ∙ replays_join x.replica es

schema_made : (x y : Recovery) (es : List NamedCell) → y.replica ≡ with_all x.replica es
    → y.replica.schema ≡ x.replica.schema
schema_made x y es e = ap (λ (h : ReplicaState). h.schema) e ∙ with_all-schema x.replica es

nothing_whole : (m : Cells) (ms : List Cells) → m ≡ last_map m (take 0 ms)
nothing_whole m [] = refl
nothing_whole m (n ∷ ns) = refl

history : (x y : Recovery) (rs : List Raw) (ms : List Cells) (n : ℕ)
    → IsHistory x.replica.schema x.replica.cells rs ms → taken_records x (whole_within n rs) ≡ Ok y
    → y.replica.cells ≡ last_map x.replica.cells (take (length (whole_within n rs)) ms)
history x y [] ms n h e =
    let is : x ≡ y = cc e in
    sym (ap (λ (z : Recovery). z.replica.cells) is) ∙ nothing_whole x.replica.cells ms
history x y (r ∷ rs) [] n h e = absurd h
history x y (r ∷ rs) (k ∷ ks) n h e = by_len (nat_le (record_len r) n)
    (λ z. history z y rs ks (n - record_len r)) e
  where
    by_len : (b : Bool)
        → ((z : Recovery) → IsHistory z.replica.schema z.replica.cells rs ks
        → taken_records z (whole_within (n - record_len r) rs) ≡ Ok y
        → y.replica.cells ≡ last_map z.replica.cells (take (length (whole_within (n - record_len r) rs)) ks))
        → taken_records x (if b then r ∷ whole_within (n - record_len r) rs else []) ≡ Ok y
        → y.replica.cells ≡ last_map x.replica.cells
        (take (length (if b then r ∷ whole_within (n - record_len r) rs else [])) (k ∷ ks))
    by_len false later e = let is : x ≡ y = cc e in sym (ap (λ (z : Recovery). z.replica.cells) is)
    by_len true later e =
        let a = then_ok (taken_record x r) (λ z. taken_records z (whole_within (n - record_len r) rs)) y e in
        let z = a.0 in
        let first = record_taken x z r a.1 in
        let means : first.meaning ≡ h.0.0 = same_ok (record_meaning x.replica.schema r) first.meaning h.0.0 first.read
        h.0.1 in
        let cells : z.replica.cells ≡ k = cells_made x z (cells_of_record first.meaning) first.is.state
        ∙ ap (λ (m : Meaning). join_cells x.replica.schema x.replica.cells (cells_of_record m)) means ∙ h.0.2 in
        let schema = schema_made x z (cells_of_record first.meaning) first.is.state in
        let rest : IsHistory z.replica.schema z.replica.cells rs ks =
        subst (λ (s : Layout). IsHistory s z.replica.cells rs ks) (sym schema)
        (subst (λ (m : Cells). IsHistory x.replica.schema m rs ks) (sym cells) h.1) in
        later z rest a.2
        ∙ ap (λ (m : Cells). last_map m (take (length (whole_within (n - record_len r) rs)) ks)) cells

pub prefixes_make_their_map : PrefixesMakeTheirMap
prefixes_make_their_map before x y rs ms n fits h e =
    history x y rs ms n h
    (sym (ap (taken_records x) (prefixes_are_read before rs n fits).0) ∙ e)

taken_apart : (x y : Recovery) (rs ss : List Raw) → taken_records x (rs ++ ss) ≡ Ok y
    → (z : Recovery) × (taken_records x rs ≡ Ok z) × (taken_records z ss ≡ Ok y)
taken_apart x y [] ss e = (x, refl, e)
taken_apart x y (r ∷ rs) ss e =
    let a = then_ok (taken_record x r) (λ z. taken_records z (rs ++ ss)) y e in
    let b = taken_apart a.0 y rs ss a.2 in
    (b.0, ap (λ (t : Taken). t >>= λ z. taken_records z rs) a.1 ∙ b.1, b.2)

pub synced_is_there : SyncedIsThere
synced_is_there before x y rs tail layout kept fits few e =
    let read = (synced_is_read before rs tail fits few).0 in
    let parts = taken_apart x y rs read.0 (sym (ap (taken_records x) read.1) ∙ e) in
    let z = parts.0 in
    let s = x.replica.schema in
    let first = records_are_taken x z rs parts.1 in
    let later = records_are_taken z y read.0 parts.2 in
    let es = cells_of_all first.meanings in
    let fs = cells_of_all later.meanings in
    let had : z.replica.cells ≡ join_cells s x.replica.cells es = cells_made x z es first.state in
    let z_kept : IsTrimmed s z.replica.cells = subst (IsTrimmed s) (sym had)
    (joined_is_trimmed s layout x.replica.cells es kept) in
    let made : y.replica.cells ≡ join_cells s z.replica.cells fs = cells_made z y fs later.state
    ∙ ap (λ (t : Layout). join_cells t z.replica.cells fs) (schema_made x z es first.state) in (
      z,
      parts.1,
      ap (λ (m : Cells). join s m z.replica.cells) made ∙ holds_first s layout z.replica.cells fs z_kept ∙ sym made,
    )
