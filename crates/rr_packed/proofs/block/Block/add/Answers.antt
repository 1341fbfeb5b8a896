use Rattle.std.proofs.Common.{rules, ◌≡◌, ℕ, [], ◌∷◌, refl, sym, ap, subst, ◌∙◌, cond, eqb, None, Some, Result, IsTrue, ◌&&◌}
use Rattle.std.specs.declared.alloc.AllocError.{AllocError}
use Rattle.std.proofs.lemmas.Bool.{and_parts}
use Rattle.std.proofs.lemmas.Result.{on_ok_weaker, on_err_weaker}
use Rattle.rr_archive.specs.declared.entry.Entry.{Entry}
use Rattle.rr_archive.specs.declared.entries.Entries.{Entries}
use Rattle.rr_archive.specs.declared.entries.Entries.TheVariants.{One}
use Rattle.rr_archive.specs.Changes.{entry_after}
use Rattle.rr_archive.specs.Stored.{ChangesStored}
use Rattle.rr_packed.specs.declared.block.Block.{Block}
use Rattle.rr_packed.specs.declared.lone_sample.LoneSample.{LoneSample}
use Rattle.rr_packed.specs.declared.sparse.Sparse.{Sparse}
use Rattle.rr_packed.specs.Sparse.{item_in, IsItemSet}
use Rattle.rr_packed.specs.Sparse.{has_room as has_spare}
use Rattle.rr_packed.specs.LoneSamples.{entries_read}
use Rattle.rr_packed.specs.BlockRows.{items_in, IsRowSet, IsUnheld, SetsSource}
use Rattle.rr_packed.proofs.SparseLemmas.{item_none}
use Rattle.rr_packed.proofs.BlockLemmas.{block_same, entries_set, sample_added}
use Rattle.rr_packed.proofs.block.Block.add.Goals as goal

-- ---- as a lone sample

added_so : (was old new : Block) (k : ℕ) (r : LoneSample) (e : Entry) (result : Result (Unit {0}) AllocError)
    → SetsSource was old → IsUnheld was k → entries_read old.source (Some r) ≡ e ∷ []
    → ((n : ℕ) → item_in new.rows n ≡ item_in old.rows n) → new.source ≡ old.source
    → ChangesStored (IsItemSet k (Some r)) (has_spare old.samples) (item_in old.samples) (item_in new.samples) result
    → ChangesStored (IsRowSet k (e ∷ [])) (has_spare was.samples && has_spare was.rows) (items_in was) (items_in new)
    result
added_so was old new k r e result source unheld read rows kept added = record {
  changed =
      let none : item_in old.rows k ≡ None = ap (λ (s : Sparse Entries). item_in s k) source.rows
      ∙ item_none was.rows.mask was.rows.items.items k unheld.rows in
      on_ok_weaker result (λ set. λ n. sample_added old new k r e rows none kept set read n
      ∙ ap (λ f. cond (eqb n k) (e ∷ []) (f n)) source.same) added.changed;
  unchanged =
      on_err_weaker result (λ same. block_same old new rows kept (λ n. ap (λ f. f n) same) ∙ source.same)
      added.unchanged;
  room =
      λ room.
      added.room (subst (λ (s : Sparse LoneSample). IsTrue (has_spare s)) (sym source.samples)
      (and_parts (has_spare was.samples) (has_spare was.rows) room).0);
}

pub returns-then-is_empty : goal.returns-then-is_empty
returns-then-is_empty c =
    let old = c.sample_of.new.self in
    let read : entries_read old.source (Some c.in-Some.sample) ≡ entry_after [] c.args.origin c.args.change.now ∷ [] =
    search rules in
    added_so c.args.self.now old _ c.args.number.value c.in-Some.sample _ c.insert-added.result
    c.sample_of.ensures.source c.requires read (λ n. ap (λ f. f n) c.shrink.ensures) refl c.insert-added.ensures

pub returns-else-not-has_room : goal.returns-else-not-has_room
returns-else-not-has_room c =
    let old = c.sample_of.new.self in
    let read : entries_read old.source (Some c.in-Some.sample) ≡ entry_after [] c.args.origin c.args.change.now ∷ [] =
    search rules in
    added_so c.args.self.now old _ c.args.number.value c.in-Some.sample _ c.insert-added.result
    c.sample_of.ensures.source c.requires read (λ n. refl) refl c.insert-added.ensures

-- ---- as its entry

pub returns-in-None : goal.returns-in-None
returns-in-None c = record {
  changed =
      let old = c.sample_of.new.self in
      let k = c.args.number.value in
      let new : Block = record {
        alloc = old.alloc;
        source = old.source;
        samples = old.samples;
        rows = c.insert.new.self;
      } in
      on_ok_weaker c.insert.result (λ added. λ n. entries_set old new k (One c.first_entry.result) added refl
      (λ n. refl) n
      ∙ (λ i. cond (eqb n k) (c.first_entry.ensures i ∷ []) (c.sample_of.ensures.source.same i n)))
      c.insert.ensures.changed;
  unchanged =
      on_err_weaker c.insert.result (λ same. block_same c.sample_of.new.self _ (λ n. ap (λ f. f n) same) refl
      (λ n. refl) ∙ c.sample_of.ensures.source.same) c.insert.ensures.unchanged;
  room =
      λ room.
      let was = c.args.self.now in
      c.insert.ensures.room (subst (λ (s : Sparse Entries). IsTrue (has_spare s)) (sym c.sample_of.ensures.source.rows)
      (and_parts (has_spare was.samples) (has_spare was.rows) room).1);
}
