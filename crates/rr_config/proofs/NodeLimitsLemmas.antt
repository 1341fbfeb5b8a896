-- What holds of a node's configuration, read key by key.
use Rattle.std.proofs.Common.{◌≡◌, [], Bool, true, false, not, ℕ, ◌≤◌, None, Ok, refl, arith}
use Rattle.std.specs.Prelude.{nat_le, codes}
use Rattle.std.proofs.lemmas.Bool.{leb-true}
use Rattle.toml.specs.Data.{Data, Items, no_items, item, Members, as_array, get_member}
use Rattle.rr_document.specs.Document.{layout_in}
use Rattle.rr_line.specs.declared.precision.Precision.TheVariants.{Ns}
use Rattle.rr_schema.specs.Origin.{IsOrigin}
use Rattle.rr_text.specs.declared.limits.TheConstants.{MAX_ORIGIN}
use Rattle.rr_config.specs.declared.fault.ConfigFault.TheVariants.{BadCount, WrongKind}
use Rattle.rr_config.specs.declared.node.TheConstants.{DEFAULT_READERS, MAX_NODE_READERS, NODE_IDLE}
use Rattle.rr_config.specs.Document.{of_schema}
use Rattle.rr_config.specs.Laws.{IsWait, IsWithinNodeLimits}
use Rattle.rr_config.specs.Node.{NodeConfigView, node_config_in, reader_count_of}
use Rattle.rr_config.specs.Origins.{RangeView}
use Rattle.rr_config.specs.Values.{count_of, flag_of, if_there, needed, of_kind, origin_of, precision_of, range_in, range_of, seconds_of, some_count_of, some_text_of, text_of, texts_of}
use Rattle.rr_config.proofs.LimitsLemmas.{OfAnswer, between, holds, kept, last, of_missing, of_needed, then, waits}

-- ---- the origins

origin_holds : (value : Data) → OfAnswer IsOrigin (origin_of value)
origin_holds value = then IsOrigin (count_of value) _ (λ n is. kept IsOrigin BadCount _ (Ok n)
    (λ e. let within = between 1 MAX_ORIGIN n e in
    last IsOrigin n (record { at_least = within.0; at_most = within.1 })))

rising : (least greatest : ℕ) → not (nat_le least greatest) ≡ false → least ≤ greatest
rising least greatest e = by (nat_le least greatest) refl e
  where
    by : (below : Bool) → nat_le least greatest ≡ below → not below ≡ false → least ≤ greatest
    by true b e = leb-true least greatest b
    by false b e = absurd cc

record IsRange (range : RangeView) : Type 0 where
  first : IsOrigin range.first
  last : IsOrigin range.last
  ordered : range.first ≤ range.last

range_in_holds : (values : Items) → OfAnswer IsRange (range_in values)
unfolding OfAnswer
range_in_holds (item least (item greatest no_items)) =
    then IsRange (origin_of least) _ (λ from f. then IsRange (origin_of greatest) _ (λ to t.
    kept IsRange BadCount _ (Ok (record { first = from; last = to })) (λ e. last IsRange _ (record {
      first = holds IsOrigin _ from (origin_holds least) f;
      last = holds IsOrigin _ to (origin_holds greatest) t;
      ordered = rising from to e;
    }))))
range_in_holds values = tt

range_holds : (value : Data) → OfAnswer IsRange (range_of value)
range_holds value = then IsRange (of_kind (as_array value)) _ (λ values v. kept IsRange WrongKind _ (range_in values)
    (λ e. range_in_holds values))

-- ---- the readers

abbrev IsReaderCount : ℕ → Type 0
IsReaderCount readers = (1 ≤ readers) × (readers ≤ MAX_NODE_READERS)

reader_count_holds : (value : Data) → OfAnswer IsReaderCount (reader_count_of value)
reader_count_holds value = then IsReaderCount (count_of value) _ (λ n is. kept IsReaderCount BadCount _ (Ok n)
    (λ e. last IsReaderCount n (between 1 MAX_NODE_READERS n e)))

-- ---- all keys

node_limits_hold : (table : Members) → OfAnswer IsWithinNodeLimits (node_config_in table)
unfolding node_config_in
node_limits_hold table =
    let P = IsWithinNodeLimits in
    let origins_hold = of_needed IsRange range_of (get_member (codes "origins") table) range_holds in
    let a_minute : IsWait NODE_IDLE = (omega arith, omega arith) in
    let idle_holds = of_missing IsWait NODE_IDLE seconds_of (get_member (codes "idle") table) a_minute waits in
    let four : IsReaderCount DEFAULT_READERS = (omega arith, omega arith) in
    let readers_hold = of_missing IsReaderCount DEFAULT_READERS reader_count_of (get_member (codes "readers") table) four
    reader_count_holds in
    then P (of_schema (layout_in table)) _ (λ schema s.
    then P (needed text_of (get_member (codes "http") table)) _ (λ http h.
    then P (if_there None some_text_of (get_member (codes "lines") table)) _ (λ lines l.
    then P (needed range_of (get_member (codes "origins") table)) _ (λ origins o.
    then P (if_there [] texts_of (get_member (codes "peers") table)) _ (λ peers p.
    then P (if_there None some_count_of (get_member (codes "lead") table)) _ (λ lead d.
    then P (if_there Ns precision_of (get_member (codes "precision") table)) _ (λ precision u.
    then P (if_there NODE_IDLE seconds_of (get_member (codes "idle") table)) _ (λ idle i.
    then P (if_there DEFAULT_READERS reader_count_of (get_member (codes "readers") table)) _ (λ readers r.
    then P (if_there false flag_of (get_member (codes "quiet") table)) _ (λ quiet q.
    let range = holds IsRange _ origins origins_hold o in
    let count = holds IsReaderCount _ readers readers_hold r in
    last P _ (record {
      first = range.first;
      last = range.last;
      ordered = range.ordered;
      idle = holds IsWait _ idle idle_holds i;
      some_reader = count.0;
      few_readers = count.1;
    })))))))))))

pub node_configs_are_within_limits : (table : Members) (c : NodeConfigView) → node_config_in table ≡ Ok c
    → IsWithinNodeLimits c
node_configs_are_within_limits table c e = holds IsWithinNodeLimits (node_config_in table) c (node_limits_hold table) e
