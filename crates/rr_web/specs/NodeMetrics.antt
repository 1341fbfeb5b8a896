-- The numbers of a node as families.
use Rattle.std.specs.Prelude.{◌≡◌, ℕ, ◌*◌, List, [], ◌∷◌, ◌++◌, codes, decimal, map, Option, None, Some, option_map}
use Rattle.std.specs.List.{flat_map}
use Rattle.rr_schema.specs.declared.archive.ArchiveSpec.{ArchiveSpec}
use Rattle.rr_schema.specs.Schema.{Layout}
use Rattle.rr_web.specs.declared.bodies.RefusedBodies.{RefusedBodies}
use Rattle.rr_web.specs.declared.family.Amount.{Amount}
use Rattle.rr_web.specs.declared.family.Amount.TheVariants.{Whole, Thousandths}
use Rattle.rr_web.specs.declared.family.Family.{Family}
use Rattle.rr_web.specs.declared.family.FamilyKind.TheVariants.{Counter, Gauge}
use Rattle.rr_web.specs.declared.node_metrics.AnswerCounts.{AnswerCounts}
use Rattle.rr_web.specs.declared.node_metrics.ArchiveRows.{ArchiveRows}
use Rattle.rr_web.specs.declared.node_metrics.NodeMetrics.{NodeMetrics}
use Rattle.rr_web.specs.declared.node_metrics.RefusedLines.{RefusedLines}
use Rattle.rr_web.specs.declared.process.ProcessNumbers.{ProcessNumbers}
use Rattle.rr_web.specs.Family.{SampleView, family_text, family_view}
use Rattle.rr_web.specs.Numbers.{Numbers, family_of, numbers_in}
use Rattle.rr_web.specs.PeerMetrics.{peer_families}

-- the rows of an archive, with steps of this many seconds
abbrev pub rows_of : ℕ → ArchiveSpec → ArchiveRows
rows_of step archive = record { seconds = step * archive.steps; rows = archive.rows }

-- the rows of each archive
abbrev pub archive_rows : Layout → List ArchiveRows
archive_rows s = map (rows_of s.step) s.archives

-- one sample with no label
abbrev pub single : Amount → List SampleView
single amount = record { labels = []; amount = amount } ∷ []

-- a sample of what may be absent
abbrev pub samples_of : Option Amount → List SampleView
samples_of None = []
samples_of (Some amount) = single amount

-- a sample with a label
abbrev pub labelled : List ℕ → List ℕ → ℕ → SampleView
labelled name value number = record { labels = (name, value) ∷ []; amount = Whole number }

abbrev pub gauge : List ℕ → Amount → Numbers
gauge name amount = family_of Gauge name (single amount)

abbrev pub counter : List ℕ → Amount → Numbers
counter name amount = family_of Counter name (single amount)

-- a gauge of what may not be there yet
abbrev pub optional : List ℕ → Option Amount → Numbers
optional name amount = family_of Gauge name (samples_of amount)

-- the label of an origin, once it is taken
abbrev pub origin_labels : Option ℕ → List (List ℕ × List ℕ)
origin_labels None = []
origin_labels (Some origin) = (codes "origin", decimal origin) ∷ []

abbrev pub info_samples : List ℕ → Option ℕ → List SampleView
info_samples version origin =
    record { labels = (codes "version", version) ∷ origin_labels origin; amount = Whole 1 } ∷ []

abbrev pub archive_sample : ArchiveRows → SampleView
archive_sample archive = labelled (codes "resolution") (decimal archive.seconds) archive.rows

abbrev pub archive_samples : List ArchiveRows → List SampleView
archive_samples archives = map archive_sample archives

abbrev pub refused_sample : RefusedLines → SampleView
refused_sample refused = labelled (codes "fault") refused.fault.items refused.lines

abbrev pub refused_samples : List RefusedLines → List SampleView
refused_samples refused = map refused_sample refused

abbrev pub body_samples : RefusedBodies → List SampleView
body_samples bodies =
    labelled (codes "fault") (codes "ContentCoding") bodies.coding
    ∷ labelled (codes "fault") (codes "OtherPrecision") bodies.precision
    ∷ labelled (codes "fault") (codes "NoOrigin") bodies.origin ∷ []

abbrev pub answer_samples : AnswerCounts → List SampleView
answer_samples answers =
    labelled (codes "status") (codes "2xx") answers.done ∷ labelled (codes "status") (codes "4xx") answers.refused
    ∷ labelled (codes "status") (codes "5xx") answers.failed ∷ []

abbrev pub about_families : NodeMetrics → List Numbers
about_families m =
    family_of Gauge (codes "rr_info") (info_samples m.version.now m.origin)
    ∷ family_of Gauge (codes "rr_archive_rows") (archive_samples m.archives.items) ∷ []

abbrev pub process_families : ProcessNumbers → List Numbers
process_families p =
    optional (codes "process_start_time_seconds") (option_map Whole p.started)
    ∷ optional (codes "process_resident_memory_bytes") (option_map Whole p.resident) ∷ []

abbrev pub store_families : NodeMetrics → List Numbers
store_families m = gauge (codes "rr_series") (Whole m.series) ∷ gauge (codes "rr_cells") (Whole m.cells) ∷ []

abbrev pub connection_families : NodeMetrics → List Numbers
connection_families m =
    gauge (codes "rr_connections") (Whole m.connections)
    ∷ gauge (codes "rr_connection_bytes") (Whole m.connection_bytes)
    ∷ gauge (codes "rr_queued_writes") (Whole m.queued_writes)
    ∷ family_of Counter (codes "rr_http_answers_total") (answer_samples m.answers) ∷ []

abbrev pub line_families : NodeMetrics → List Numbers
line_families m =
    counter (codes "rr_points_total") (Whole m.points) ∷ counter (codes "rr_samples_total") (Whole m.samples)
    ∷ family_of Counter (codes "rr_refused_total") (refused_samples m.refused.items)
    ∷ family_of Counter (codes "rr_refused_bodies_total") (body_samples m.refused_bodies)
    ∷ counter (codes "rr_past_horizon_total") (Whole m.past_horizon) ∷ []

abbrev pub journal_families : NodeMetrics → List Numbers
journal_families m =
    gauge (codes "rr_journal_synced_bytes") (Whole m.journal_synced)
    ∷ optional (codes "rr_journal_sync_age_seconds") (option_map Thousandths m.journal_sync_age)
    ∷ counter (codes "rr_journal_failed_appends_total") (Whole m.failed_appends) ∷ []

abbrev pub checkpoint_families : NodeMetrics → List Numbers
checkpoint_families m =
    optional (codes "rr_checkpoint_bytes") (option_map Whole m.checkpoint_bytes)
    ∷ optional (codes "rr_checkpoint_age_seconds") (option_map Thousandths m.checkpoint_age) ∷ []

-- what the families of a node say besides their help
abbrev pub metrics_of : NodeMetrics → List Numbers
metrics_of m =
    about_families m ++ process_families m.process ++ store_families m ++ connection_families m ++ line_families m
    ++ journal_families m ++ checkpoint_families m ++ peer_families m.peers.items

abbrev pub families_text : List Family → List ℕ
families_text families = flat_map (λ f. family_text (family_view f)) families

-- a text is that of families that say this of a node
pub record IsTextOf (m : NodeMetrics) (text : List ℕ) : Type 0 where
  pub families : List Family
  pub numbers : map numbers_in families ≡ metrics_of m
  pub written : text ≡ families_text families
