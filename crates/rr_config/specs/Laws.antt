-- The limits that every configuration is within, and what it depends on.
use Rattle.std.specs.Prelude.{◌≡◌, ℕ, ◌≤◌, List, [], ◌∷◌, codes, length, IfSome, Ok}
use Rattle.std.specs.List.{AllByRecursion}
use Rattle.toml.specs.Data.{Members, get_member}
use Rattle.rr_text.specs.declared.limits.TheConstants.{MAX_IDLE, MAX_READERS}
use Rattle.rr_schema.specs.Origin.{IsOrigin}
use Rattle.rr_config.specs.declared.node.TheConstants.{MAX_NODE_READERS}
use Rattle.rr_config.specs.Config.{ConfigView, config_in}
use Rattle.rr_config.specs.Node.{NodeConfigView, node_config_in}

-- from a second to a day
abbrev pub IsWait : ℕ → Type 0
IsWait seconds = (1 ≤ seconds) × (seconds ≤ MAX_IDLE)

pub record IsWithinLimits (c : ConfigView) : Type 0 where
  pub some_fetch : 1 ≤ length c.fetch
  pub few_fetch : length c.fetch ≤ MAX_READERS
  pub idle : IfSome c.idle IsWait
  pub every : IfSome c.every IsWait

abbrev pub ConfigsAreWithinLimits : Type 0
ConfigsAreWithinLimits = (table : Members) (c : ConfigView) → config_in table ≡ Ok c → IsWithinLimits c

-- a node has a range of origins, waits for a limited time, and has threads that answer fetches
pub record IsWithinNodeLimits (c : NodeConfigView) : Type 0 where
  pub first : IsOrigin c.origins.first
  pub last : IsOrigin c.origins.last
  pub ordered : c.origins.first ≤ c.origins.last
  pub idle : IsWait c.idle
  pub some_reader : 1 ≤ c.readers
  pub few_readers : c.readers ≤ MAX_NODE_READERS

abbrev pub NodeConfigsAreWithinLimits : Type 0
NodeConfigsAreWithinLimits =
    (table : Members) (c : NodeConfigView) → node_config_in table ≡ Ok c → IsWithinNodeLimits c

-- ---- the keys

-- the keys of a configuration
abbrev pub config_keys : List (List ℕ)
config_keys = codes "step" ∷ codes "archive" ∷ codes "lines" ∷ codes "fetch" ∷ codes "peers" ∷ codes "rounds"
    ∷ codes "visits" ∷ codes "lead" ∷ codes "precision" ∷ codes "idle" ∷ codes "every" ∷ codes "quiet"
    ∷ codes "status" ∷ []

-- two tables have the same values at these keys
abbrev pub AgreeAt : List (List ℕ) → Members → Members → Type 0
AgreeAt keys t u = AllByRecursion (λ key. get_member key t ≡ get_member key u) keys

abbrev pub ConfigsAreOfTheirKeys : Type 0
ConfigsAreOfTheirKeys = (t u : Members) → AgreeAt config_keys t u → config_in t ≡ config_in u

-- the keys of a node's configuration
abbrev pub node_config_keys : List (List ℕ)
node_config_keys = codes "step" ∷ codes "archive" ∷ codes "http" ∷ codes "lines" ∷ codes "origins" ∷ codes "peers"
    ∷ codes "lead" ∷ codes "precision" ∷ codes "idle" ∷ codes "readers" ∷ codes "quiet" ∷ []

abbrev pub NodeConfigsAreOfTheirKeys : Type 0
NodeConfigsAreOfTheirKeys = (t u : Members) → AgreeAt node_config_keys t u → node_config_in t ≡ node_config_in u
