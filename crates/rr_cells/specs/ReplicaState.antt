-- What a replica holds.
use Rattle.std.specs.Prelude.{◌≡◌, ℕ, ℤ, ◌+◌, ◌*◌, ◌<◌, ◌≤◌, List, length, Some, refl}
use Rattle.std.specs.FinMap as fin
use Rattle.std.specs.FinMap.{get, len}
use Rattle.std.specs.Coded.{Coded, code_by, coded×, coded_ℕ, coded_ℤ, coded_list}
use Rattle.rr_schema.specs.declared.archive.ArchiveSpec.{ArchiveSpec}
use Rattle.rr_text.specs.declared.limits.TheConstants.{MAX_NUMBER}
use Rattle.rr_schema.specs.Origin.{IsOrigin}
use Rattle.rr_schema.specs.Schema.{Layout, IsLayout, archive_at}
use Rattle.rr_contrib.specs.declared.contribution.Contribution.{Contribution}
use Rattle.rr_archive.specs.Codes.{coded_contribution}
use Rattle.rr_cells.specs.CellNames.{CellName}
use Rattle.rr_cells.specs.Samples.{Sample}
use Rattle.rr_cells.specs.CellBounds.{IsCellOf}
use Rattle.rr_cells.specs.Cells.{Cells, IsTrimmed, HasOriginsIn, archive_cells}
use Rattle.rr_cells.specs.Puts.{put_sample}

-- a schema, an origin, the number that its next sample takes, and cells
pub record ReplicaState : Type 0 where
  pub schema : Layout
  pub origin : ℕ
  pub next : ℕ
  pub cells : Cells

-- the sample that a replica writes next
abbrev pub next_sample : ReplicaState → List ℕ → ℤ → ℤ → Sample
next_sample h key time value = record { time = time; origin = h.origin; number = h.next; key = key; value = value }

-- with a sample put; the next one takes the number that follows
abbrev pub with_sample : ReplicaState → Sample → ReplicaState
with_sample h x = record {
  schema = h.schema;
  origin = h.origin;
  next = x.number + 1;
  cells = put_sample h.schema h.cells x;
}

-- with the next sample put
abbrev pub with_put : ReplicaState → List ℕ → ℤ → ℤ → ReplicaState
with_put h key time value = with_sample h (next_sample h key time value)

-- schema and origin are within their limits, the next number is from 1 to one past the last, no cell is past the
-- horizon, each is one of the schema's and within bounds, those of the replica's own origin have versions before the
-- next number, and each archive of each key has at most as many cells as its rows times the origins that have one there
pub record IsReplicaState (h : ReplicaState) : Type 0 where
  pub layout : IsLayout h.schema
  pub origin : IsOrigin h.origin
  pub next_at_least : 1 ≤ h.next
  pub next_at_most : h.next ≤ MAX_NUMBER + 1
  pub live : IsTrimmed h.schema h.cells
  pub cells : (n : CellName) (c : Contribution) → get h.cells n ≡ Some c → IsCellOf h.schema (n, c)
  pub own : (n : CellName) (c : Contribution) → get h.cells n ≡ Some c → n.origin ≡ h.origin → c.version < h.next
  pub few : (key : List ℕ) (archive : ℕ) (origins : List ℕ) → HasOriginsIn h.cells key archive origins
      → len (archive_cells h.cells key archive) ≤ (archive_at h.schema archive).rows * length origins

-- ---- codes, which show that states of replicas are a set

abbrev pub coded_spec : Coded ArchiveSpec
coded_spec = code_by (ℕ × (ℕ × (ℕ × ℕ))) (coded× coded_ℕ (coded× coded_ℕ (coded× coded_ℕ coded_ℕ)))
    (λ a. (a.steps, (a.rows, (a.num, a.den)))) (λ p. record { steps = p.0; rows = p.1.0; num = p.1.1.0; den = p.1.1.1 })
    (λ _. refl)

abbrev pub coded_layout : Coded Layout
coded_layout = code_by (ℕ × List ArchiveSpec) (coded× coded_ℕ (coded_list coded_spec)) (λ s. (s.step, s.archives))
    (λ p. record { step = p.0; archives = p.1 }) (λ _. refl)

abbrev pub coded_name : Coded CellName
coded_name = code_by (List ℕ × (ℕ × (ℤ × ℕ))) (coded× (coded_list coded_ℕ) (coded× coded_ℕ (coded× coded_ℤ coded_ℕ)))
    (λ n. (n.key, (n.archive, (n.slot, n.origin))))
    (λ p. record { key = p.0; archive = p.1.0; slot = p.1.1.0; origin = p.1.1.1 }) (λ _. refl)

abbrev pub coded_replica_state : Coded ReplicaState
coded_replica_state = code_by (Layout × (ℕ × (ℕ × Cells)))
    (coded× coded_layout (coded× coded_ℕ (coded× coded_ℕ (fin.code coded_name coded_contribution))))
    (λ h. (h.schema, (h.origin, (h.next, h.cells))))
    (λ p. record { schema = p.0; origin = p.1.0; next = p.1.1.0; cells = p.1.1.1 }) (λ _. refl)
