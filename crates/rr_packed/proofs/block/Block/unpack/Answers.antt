use Rattle.std.proofs.Common.{rules, ◌≡◌, ℕ, [], ◌∷◌, refl, sym, ap, ◌∙◌, subst, None, Some, ◌⊎◌, inl, inr, IsTrue, is_some}
use Rattle.rr_archive.specs.declared.entry.Entry.{Entry}
use Rattle.rr_archive.specs.declared.entries.Entries.{Entries}
use Rattle.rr_archive.specs.declared.entries.Entries.TheVariants.{One}
use Rattle.rr_packed.specs.declared.block.Block.{Block}
use Rattle.rr_packed.specs.declared.sparse.Sparse.{Sparse}
use Rattle.rr_packed.specs.declared.lone_sample.LoneSample.{LoneSample}
use Rattle.rr_packed.specs.Sparse.{item_in, place_at, IsItemSet}
use Rattle.rr_packed.specs.BlockRows.{items_in, has_room_in}
use Rattle.rr_packed.specs.LoneSamples.{entries_read}
use Rattle.rr_packed.proofs.SparseLemmas.{item_none, none_from}
use Rattle.rr_packed.proofs.BlockLemmas.{block_same, sample_removed, room_kept, entries_set, row_set_same, items_by_sample, room_is_free, none_read}
use Rattle.rr_packed.proofs.block.Block.unpack.Goals as goal
use Rattle.rr_packed.proofs.block.Block.unpack.Goals.{then-not-has_entries+in-Some+in_ok-insert, then-not-has_entries+in_default, else-not-has_entries, In_err-insert}

-- the row is held as its entries, beside the sample, if it was held as a lone sample
record IsHeld (old mid : Block) (k : ℕ) : Type 0 where
  same : items_in mid ≡ items_in old
  samples : mid.samples ≡ old.samples
  spare : (entries_read mid.source (item_in mid.samples k) ≡ []) ⊎ IsTrue (is_some (item_in mid.rows k))
  rows_stay : (origin : ℕ) → IsTrue (has_room_in old k origin) → mid.rows ≡ old.rows

-- a row that has room has no sample, unless it is held as entries
unread : (b : Block) (k origin : ℕ) (e : Entry) → item_in b.rows k ≡ None
    → entries_read b.source (item_in b.samples k) ≡ e ∷ [] → IsTrue (has_room_in b k origin) → ⊥
unread b k origin e none something room =
    let free = room_is_free b k origin none room in
    let nothing = ap (entries_read b.source) (item_none b.samples.mask b.samples.items.items k free.unread)
    ∙ none_read b.source in
    absurd (cc (nothing, something))

-- with its sample as its entries
held_so : (b : Block) (rows : Sparse Entries) (k : ℕ) (e : Entry) → item_in b.rows k ≡ None
    → entries_read b.source (item_in b.samples k) ≡ e ∷ []
    → IsItemSet k (Some (One e)) (item_in b.rows) (item_in rows)
    → IsHeld b (record { alloc = b.alloc; source = b.source; samples = b.samples; rows = rows }) k
held_so b rows k e none read added = record {
  same = row_set_same k (e ∷ []) _ _ (entries_set b _ k (One e) added refl (λ n. refl))
      (sym (items_by_sample b k none ∙ read));
  samples = refl;
  spare = inr (search rules);
  rows_stay = λ origin room. absurd (unread b k origin e none read room);
}

held : (c : goal.After-remove) → IsHeld c.args.self.now c.if-not-has_entries.self c.args.number.value
held c = elim c.if-not-has_entries.branch [
  | then-not-has_entries+in-Some+in_ok-insert w ↦
      let b = c.args.self.now in
      let none : item_in b.rows c.args.number.value ≡ None = none_from (item_in b.rows c.args.number.value)
      (sym c.has_entries.ensures.held ∙ w.if-not-has_entries.true) in
      subst (λ m. IsHeld b m c.args.number.value) (sym w.self-is)
      (held_so b w.insert.new.self c.args.number.value w.in-Some.entry none w.in-Some.ensures.found
      w.in_ok-insert.ensures.changed)
  | then-not-has_entries+in_default w ↦ subst (λ m. IsHeld c.args.self.now m c.args.number.value) (sym w.self-is)
      (record {
        same = refl;
        samples = refl;
        spare = inl (w.in_default.ensures.none refl);
        rows_stay = λ origin room. refl;
      })
  | else-not-has_entries w ↦ subst (λ m. IsHeld c.args.self.now m c.args.number.value) (sym w.self-is) (record {
    same = refl;
    samples = refl;
    spare = inr (search rules);
    rows_stay = λ origin room. refl;
  })
]

pub returns : goal.returns
returns c =
    let mid = c.if-not-has_entries.self in
    let k = c.args.number.value in
    let new : Block = record { alloc = mid.alloc; source = mid.source; samples = c.remove.new.self; rows = mid.rows }
    in
    let h = held c in
    record {
      same = sample_removed mid new k (λ n. refl) refl c.remove.ensures.removed h.spare ∙ h.same;
      unpacked = search rules;
      room = search rules;
      room_stays = λ origin room. room_kept c.args.self.now new k origin (h.rows_stay origin room)
          (λ unread. c.remove.ensures.absent (ap (λ (r : Sparse LoneSample). place_at r.mask k) h.samples ∙ unread)
          ∙ h.samples) room;
    }

-- ---- memory ran out

pub insert-requires : goal.insert-requires
insert-requires c = none_from (place_at c.args.self.now.rows.mask c.args.number.value)
    (sym c.has_entries.ensures.placed ∙ c.if-not-has_entries.true)

out : (c : In_err-insert) (origin : ℕ) → IsTrue (has_room_in c.args.self.now c.args.number.value origin) → ⊥
out c origin room =
    let b = c.args.self.now in
    let none : item_in b.rows c.args.number.value ≡ None = none_from (item_in b.rows c.args.number.value)
    (sym c.has_entries.ensures.held ∙ c.if-not-has_entries.true) in
    unread b c.args.number.value origin c.in-Some.entry none c.in-Some.ensures.found room

pub returns-in_err-insert : goal.returns-in_err-insert
returns-in_err-insert c = record {
  same = block_same c.args.self.now _ (λ n. ap (λ f. f n) c.in_err-insert.ensures.unchanged) refl (λ n. refl);
  unpacked = search rules;
  room = λ origin room. absurd (out c.before origin room);
  room_stays = λ origin room. absurd (out c.before origin room);
}
