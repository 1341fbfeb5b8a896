-- What the TOML text of a node's configuration says: the configuration, or the first fault, key by key.
use Rattle.std.specs.Prelude.{ℕ, Bool, false, ◌&&◌, not, nat_le, List, [], codes, map, Option, None, option_map, Result, Ok}
use Rattle.std.specs.String.{string_bytes}
use Rattle.toml.specs.Data.{Data, Members, get_member}
use Rattle.rr_document.specs.Document.{layout_in}
use Rattle.rr_schema.specs.Schema.{Layout}
use Rattle.rr_text.specs.Results.{◌>>=◌, unless}
use Rattle.rr_line.specs.declared.precision.Precision.{Precision}
use Rattle.rr_line.specs.declared.precision.Precision.TheVariants.{Ns}
use Rattle.rr_config.specs.declared.fault.ConfigFault.{ConfigFault}
use Rattle.rr_config.specs.declared.fault.ConfigFault.TheVariants.{BadCount}
use Rattle.rr_config.specs.declared.node.NodeConfig.{NodeConfig}
use Rattle.rr_config.specs.declared.node.TheConstants.{DEFAULT_READERS, MAX_NODE_READERS, NODE_IDLE}
use Rattle.rr_config.specs.Document.{members_of, of_schema}
use Rattle.rr_config.specs.Origins.{RangeView, range_view}
use Rattle.rr_config.specs.Values.{needed, if_there, count_of, flag_of, precision_of, range_of, seconds_of, some_count_of, some_text_of, text_of, texts_of}

-- a node's configuration, with its texts by their bytes
pub record NodeConfigView : Type 0 where
  pub schema : Layout
  pub http : List ℕ
  pub lines : Option (List ℕ)
  pub origins : RangeView
  pub peers : List (List ℕ)
  pub lead : Option ℕ
  pub precision : Precision
  pub idle : ℕ
  pub readers : ℕ
  pub quiet : Bool

abbrev pub node_config_view : NodeConfig → NodeConfigView
node_config_view c = record {
  schema = c.schema;
  http = string_bytes c.http;
  lines = option_map string_bytes c.lines;
  origins = range_view c.origins;
  peers = map string_bytes c.peers.items;
  lead = c.lead;
  precision = c.precision;
  idle = c.idle;
  readers = c.readers;
  quiet = c.quiet;
}

-- 1 to 14 threads that answer fetches
abbrev pub reader_count_of : Data → Result ℕ ConfigFault
reader_count_of value = do
  readers ← count_of value
  unless BadCount (not (nat_le 1 readers && nat_le readers MAX_NODE_READERS)) (Ok readers)

-- the node's configuration of a table: the schema, and then its other keys, each with its faults; any further keys are
-- ignored
unfoldable pub node_config_in : Members → Result NodeConfigView ConfigFault
node_config_in table = do
  schema ← of_schema (layout_in table)
  http ← needed text_of (get_member (codes "http") table)
  lines ← if_there None some_text_of (get_member (codes "lines") table)
  origins ← needed range_of (get_member (codes "origins") table)
  peers ← if_there [] texts_of (get_member (codes "peers") table)
  lead ← if_there None some_count_of (get_member (codes "lead") table)
  precision ← if_there Ns precision_of (get_member (codes "precision") table)
  idle ← if_there NODE_IDLE seconds_of (get_member (codes "idle") table)
  readers ← if_there DEFAULT_READERS reader_count_of (get_member (codes "readers") table)
  quiet ← if_there false flag_of (get_member (codes "quiet") table)
  Ok (record {
    schema = schema;
    http = http;
    lines = lines;
    origins = origins;
    peers = peers;
    lead = lead;
    precision = precision;
    idle = idle;
    readers = readers;
    quiet = quiet;
  })

-- the node's configuration of a text
abbrev pub node_config_of : List ℕ → Result NodeConfigView ConfigFault
node_config_of text = members_of text >>= node_config_in
