-- The archives of all keys, found by key.
use Rattle.std.specs.Prelude.{◌≡◌, ℕ, List}
use Rattle.std.specs.Global.{Vec}
use Rattle.rr_replica.specs.declared.series.SeriesMap.{SeriesMap}
use Rattle.rr_archive.specs.Cells.{ArchiveCells}
use Rattle.rr_replica.specs.InMemory.{seen_at}
use Rattle.rr_replica.specs.Indexed as indexed

module _ {X : Type 0} where
  -- the archives of each key, in order of the keys
  abbrev pub entries_of : SeriesMap X → List (List ℕ × Vec X)
  entries_of m = indexed.entries_at m.indices.entries m.archives.items

  -- the same keys, and for each key archives that are seen as the same
  pub record IsSeenAlike (cells : X → ArchiveCells) (limit : X → ℕ) (old new : SeriesMap X) : Type 0 where
    pub keys : new.keys.items ≡ old.keys.items
    pub archives : (key : List ℕ) → seen_at cells limit (entries_of new) key ≡ seen_at cells limit (entries_of old) key
