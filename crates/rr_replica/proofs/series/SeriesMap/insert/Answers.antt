use Rattle.std.proofs.Common.{rules, ◌≡◌, ◌∷◌, ◌++◌, ℕ, List, [], Some, cond, length, ap, ◌∙◌}
use Rattle.std.specs.BTreeMap.{is_at, insert_entry}
use Rattle.rr_text.specs.Bytes.{bytes_cmp}
use Rattle.rr_replica.specs.InMemory.{archives_of}
use Rattle.rr_replica.specs.Indexed.{index_of, entries_at}
use Rattle.rr_replica.proofs.IndexedLemmas.{sets_more, indexed_more}
use Rattle.rr_replica.proofs.series.SeriesMap.insert.Goals as goal

pub returns-clause-sets : goal.returns-clause-sets
returns-clause-sets g c =
    let old = c.args.self.now in
    let key = c.args.key.now in
    let more = c.insert.new.self.entries in
    let text : c.in_ok-copy.field-0 ≡ key = search rules in
    let last : c.len.result ≡ length old.keys.items = search rules in
    let entries : more ≡ insert_entry bytes_cmp old.indices.entries key c.len.result =
    rw text at c.in_ok-insert.ensures.entries in
    let updates = rw text at c.in_ok-insert.ensures.updates in
    let sets : (q : List ℕ) → index_of more q ≡ cond (is_at (bytes_cmp key) q) (Some c.len.result)
    (index_of old.indices.entries q) = updates.0 in
    let archives : c.push_reserved-2.new.self.items ≡ old.archives.items ++ c.args.archives ∷ [] = search rules in
    λ q. ap (λ l. archives_of (entries_at more l) q) archives
    ∙ sets_more old.indexed key c.requires more
    c.len.result last entries sets c.insert.ensures.ordered c.args.archives q

pub invariant_of-self-2 : goal.invariant_of-self-2
invariant_of-self-2 g c =
    let old = c.args.self.now in
    let key = c.args.key.now in
    let more = c.insert.new.self.entries in
    let text : c.in_ok-copy.field-0 ≡ key = search rules in
    let last : c.len.result ≡ length old.keys.items = search rules in
    let entries : more ≡ insert_entry bytes_cmp old.indices.entries key c.len.result =
    rw text at c.in_ok-insert.ensures.entries in
    let updates = rw text at c.in_ok-insert.ensures.updates in
    let sets : (q : List ℕ) → index_of more q ≡ cond (is_at (bytes_cmp key) q) (Some c.len.result)
    (index_of old.indices.entries q) = updates.0 in
    let keys : c.push_reserved.new.self.items ≡ old.keys.items ++ key ∷ [] = search rules in
    let archives : c.push_reserved-2.new.self.items ≡ old.archives.items ++ c.args.archives ∷ [] = search rules in
    record {
      indexed = rw (keys, archives) (indexed_more old.indexed key
          c.requires more c.len.result last entries sets c.insert.ensures.ordered c.args.archives);
    }
