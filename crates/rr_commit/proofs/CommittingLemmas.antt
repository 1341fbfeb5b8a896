-- Records that are committed batch by batch.
use Rattle.std.proofs.Common.{◌≡◌, inl, inr, ℕ, ◌+◌, ◌<◌, ◌≤◌, List, [], ◌∷◌, ◌++◌, length, map, subst, refl, sym, ap, ◌∙◌, append_assoc, arith, Option}
use Rattle.std.specs.Prelude.{◌^◌, Err, IfErr, Ok, Result}
use Rattle.std.specs.Int.{w64, to_be_bytes}
use Rattle.std.specs.List.{AllByRecursion}
use Rattle.rr_changes.specs.declared.changed_series.ChangedSeries.{ChangedSeries}
use Rattle.rr_changes.specs.Listing.{changes_of, changes_of_all}
use Rattle.rr_desk.specs.KeeperState.{KeeperState, cells_of}
use Rattle.rr_desk.specs.Written.{CoverChanges}
use Rattle.rr_journal.specs.declared.raw.RawRecord.{RawRecord}
use Rattle.rr_journal.specs.declared.raw.TheConstants.{MAX_BODY_LEN}
use Rattle.rr_journal.specs.declared.witness.TheConstants.{WITNESS_LEN}
use Rattle.rr_journal.specs.declared.step.TheConstants.{MAX_UNSYNCED}
use Rattle.std.specs.Io.KnownBytes.{append_known}
use Rattle.rr_journal.specs.declared.committing.CommitFault.{CommitFault}
use Rattle.rr_journal.specs.declared.committing.CommitFault.TheVariants.{NotWritten, NotSynced}
use Rattle.rr_journal.specs.declared.cursor.Cursor.{Cursor}
use Rattle.rr_journal.specs.Cursor.{behind_all, moved_by}
use Rattle.rr_journal.specs.Keeping.{Commits, Committed}
use Rattle.rr_journal.specs.Text.{Raw, raw_of, after, chain, record_text, records_len, records_text}
use Rattle.rr_journal.specs.Witness.{IsWitness, batch_of, witness_record}
use Rattle.rr_journal.proofs.RecordLemmas.{cut_len}
use Rattle.rr_journal.proofs.KeepingLemmas.{append_none, append_twice}
use Rattle.rr_commit.specs.Committing.{AreWitnessed, CommitsAll, CommitsChanges, IsCommitted}
use Rattle.std.specs.List.{flat_map}
use Rattle.rr_commit.specs.Packing.{ArePacked}

-- ---- one record

-- one record, or none, may be written between two syncs, after a witness
pub few_of_one : (rs : List RawRecord) → length rs < 2
    → AllByRecursion (λ raw. length raw.body.items ≤ MAX_BODY_LEN) rs
    → WITNESS_LEN + records_len (map raw_of rs) ≤ MAX_UNSYNCED
few_of_one [] lt fit = omega arith
few_of_one (r ∷ []) lt fit = let one = fit.0 in omega (arith, one)
few_of_one (r ∷ s ∷ rs) lt fit = absurd (omega (arith, lt))

-- whatever refused it
pub if_refused : {T E : Type 0} {P : E → Type 0} (result : Result T E) → ((fault : E) → P fault) → IfErr result P
if_refused (Ok done) all = tt
if_refused (Err fault) all = all fault

-- ---- records that are witnessed

witnessed_same : (rs : List Raw) → AreWitnessed rs rs
witnessed_same [] = tt
witnessed_same (r ∷ rs) = inr (refl, witnessed_same rs)

witness_first : (rs : List Raw) (w : Raw) (ws : List Raw) → IsWitness w → AreWitnessed rs ws → AreWitnessed rs (w ∷ ws)
witness_first [] w ws is a = (is, a)
witness_first (r ∷ rs) w ws is a = inl (is, a)

batch_witnessed : (key : List ℕ) (offset : ℕ) (rs : List Raw) → AreWitnessed rs (batch_of key offset rs)
batch_witnessed key offset rs =
    witness_first rs (witness_record key offset) rs (refl, cut_len (key ++ to_be_bytes w64 offset)) (witnessed_same rs)

witnessed_append : (rs qs ws vs : List Raw) → AreWitnessed rs ws → AreWitnessed qs vs → AreWitnessed (rs ++ qs) (ws ++ vs)
witnessed_append [] qs [] vs a b = b
witnessed_append [] qs (w ∷ ws) vs a b = witness_first qs w (ws ++ vs) a.0 (witnessed_append [] qs ws vs a.1 b)
witnessed_append (r ∷ rs) qs [] vs a b = absurd a
witnessed_append (r ∷ rs) qs (w ∷ ws) vs (inl a) b =
    witness_first (r ∷ (rs ++ qs)) w (ws ++ vs) a.0 (witnessed_append (r ∷ rs) qs ws vs a.1 b)
witnessed_append (r ∷ rs) qs (w ∷ ws) vs (inr a) b = inr (a.0, witnessed_append rs qs ws vs a.1 b)

-- ---- records one after the other

text_append : (before : List ℕ) (rs qs : List Raw)
    → records_text before (rs ++ qs) ≡ records_text before rs ++ records_text (chain before rs) qs
unfolding records_text
text_append before [] qs = refl
text_append before (r ∷ rs) qs =
    ap (λ l. record_text before r ++ l) (text_append (after before r) rs qs)
    ∙ sym (append_assoc (record_text before r) (records_text (after before r) rs)
    (records_text (chain (after before r) rs) qs))

chain_append : (before : List ℕ) (rs qs : List Raw) → chain before (rs ++ qs) ≡ chain (chain before rs) qs
chain_append before [] qs = refl
chain_append before (r ∷ rs) qs = chain_append (after before r) rs qs

len_append : (rs qs : List Raw) → records_len (rs ++ qs) ≡ records_len rs + records_len qs
len_append [] qs = omega arith
len_append (r ∷ rs) qs = let rest = len_append rs qs in omega (arith, rest)

moved_twice : (a b o : ℕ) → moved_by b (moved_by a o) ≡ moved_by (a + b) o
moved_twice a b o = omega arith

behind_append : (c : Cursor) (rs qs : List Raw) → behind_all c (rs ++ qs) ≡ behind_all (behind_all c rs) qs
behind_append c rs qs =
    let offset = ap (λ n. moved_by n c.offset) (len_append rs qs) ∙ sym (moved_twice (records_len rs) (records_len qs) c.offset) in
    λ i. record { id = c.id; offset = offset i; digest = chain_append c.digest rs qs i }

-- ---- batches one after the other

committed_twice : (old mid new half text : Option (List ℕ)) (before between cursor : Cursor) (rs qs : List Raw)
    → Committed old mid half before between rs → Committed mid new text between cursor qs
    → Committed old new text before cursor (rs ++ qs)
committed_twice old mid new half text before between cursor rs qs a b = record {
  synced = b.synced ∙ (λ i. append_known (a.synced i) (records_text ((a.moved i).digest) qs))
      ∙ append_twice old (records_text before.digest rs) (records_text (chain before.digest rs) qs)
      ∙ ap (append_known old) (sym (text_append before.digest rs qs));
  nothing_more = b.nothing_more;
  moved = b.moved ∙ ap (λ (c : Cursor). behind_all c qs) a.moved ∙ sym (behind_append before rs qs);
}

pub is_committed_twice : (old mid new half text : Option (List ℕ)) (before between cursor : Cursor) (rs qs : List Raw)
    → IsCommitted rs old mid half before between → IsCommitted qs mid new text between cursor
    → IsCommitted (rs ++ qs) old new text before cursor
is_committed_twice old mid new half text before between cursor rs qs a b = record {
  records = a.records ++ b.records;
  witnessed = witnessed_append rs qs a.records b.records a.witnessed b.witnessed;
  committed = committed_twice old mid new half text before between cursor a.records b.records a.committed b.committed;
}

-- nothing was committed
pub nothing_committed : (k text : Option (List ℕ)) (c : Cursor) → c.offset < 2 ^ 64 → text ≡ k → Committed k k text c c []
unfolding records_text
nothing_committed k text c lt same = record {
  synced = sym (append_none k);
  nothing_more = same;
  moved = λ i. record { id = c.id; offset = moved_none c.offset lt i; digest = c.digest };
}
  where
    moved_none : (o : ℕ) → o < 2 ^ 64 → o ≡ moved_by 0 o
    moved_none o lt = omega (arith, lt)

-- where there is nothing to commit
pub nothing_to_commit : (rs : List RawRecord) (k text : Option (List ℕ)) (c : Cursor) → length rs ≡ 0
    → c.offset < 2 ^ 64 → text ≡ k → IsCommitted (map raw_of rs) k k text c c
nothing_to_commit [] k text c none lt same =
    record { records = []; witnessed = tt; committed = nothing_committed k text c lt same }
nothing_to_commit (r ∷ rs) k text c none lt same = absurd (omega (arith, none))

-- a batch
pub one_batch : (key : List ℕ) (rs : List Raw) (old new text : Option (List ℕ)) (before cursor : Cursor)
    (result : Result (Unit {0}) CommitFault) → before.offset < 2 ^ 64
    → Commits old new text before cursor (batch_of key before.offset rs) result → CommitsAll rs old new text before cursor result
unfolding records_text
one_batch key rs old new text before cursor (Ok done) fits is =
    record { records = batch_of key before.offset rs; witnessed = batch_witnessed key before.offset rs; committed = is }
one_batch key rs old new text before cursor (Err NotWritten) fits is = (
  [],
  rs,
  refl,
  record {
    records = [];
    witnessed = tt;
    committed = record {
      synced = is.synced ∙ sym (append_none old);
      nothing_more = is.nothing_more ∙ sym is.synced;
      moved = is.stays ∙ stays before fits;
    };
  },
)
  where
    same : (o : ℕ) → o < 2 ^ 64 → o ≡ moved_by 0 o
    same o lt = omega (arith, lt)

    stays : (c : Cursor) → c.offset < 2 ^ 64 → c ≡ behind_all c []
    stays c lt = λ i. record { id = c.id; offset = same c.offset lt i; digest = c.digest }
one_batch key rs old new text before cursor (Err NotSynced) fits is = is.0

-- the first half was committed, and then the other one, or not
pub then_others : (rs qs : List Raw) (old mid new half text : Option (List ℕ)) (before between cursor : Cursor)
    (result : Result (Unit {0}) CommitFault) → IsCommitted rs old mid half before between
    → CommitsAll qs mid new text between cursor result → CommitsAll (rs ++ qs) old new text before cursor result
then_others rs qs old mid new half text before between cursor (Ok done) a b =
    is_committed_twice old mid new half text before between cursor rs qs a b
then_others rs qs old mid new half text before between cursor (Err NotWritten) a b = (
  rs ++ b.0,
  b.1,
  append_assoc rs b.0 b.1 ∙ ap (λ l. rs ++ l) b.2,
  is_committed_twice old mid new half text before between cursor rs b.0 a b.3,
)
then_others rs qs old mid new half text before between cursor (Err NotSynced) a b =
    let more = records_text before.digest a.records in
    (more ++ b.0, b.1 ∙ ap (λ (k : Option (List ℕ)). append_known k b.0) a.committed.synced ∙ append_twice old more b.0)

-- ---- a keeper's changes

pub changes_committed : (k : KeeperState) (series : List ChangedSeries) (raws : List RawRecord)
    (old new text : Option (List ℕ)) (before cursor : Cursor) → CoverChanges k series
    → ArePacked (map (changes_of k.schema (cells_of k)) series) raws
    → IsCommitted (map raw_of raws) old new text before cursor → CommitsChanges k old new text before cursor
changes_committed k series raws old new text before cursor cover of is = record {
  records = is.records;
  cells = changes_of_all k.schema (cells_of k) series;
  of = record {
    meanings = of.meanings;
    witnessed = subst (λ rs. AreWitnessed rs is.records) of.text is.witnessed;
    has = of.has ∙ each series;
  };
  committed = is.committed;
  makes = cover.makes;
  series = series;
  changed = cover;
  together = of.together;
}
  where
    each : (own : List ChangedSeries) → flat_map (λ es. es) (map (changes_of k.schema (cells_of k)) own)
        ≡ changes_of_all k.schema (cells_of k) own
    each [] = refl
    each (x ∷ own) = ap (λ es. changes_of k.schema (cells_of k) x ++ es) (each own)
