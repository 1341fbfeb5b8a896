-- How each command is read from the words after its name, and a line's words as a command.
use Rattle.std.specs.Prelude.{ℕ, nat_eq, List, [], ◌∷◌, codes, Option, None, Some, if◌then◌else◌}
use Rattle.std.specs.Cmp.Lexicographic.{pointwise}
use Rattle.rr_cluster.specs.Command.{Command, schema, upgrade, node, now, write, page, delta, deliver, bytes, save, load, fetch}
use Rattle.rr_cluster.specs.ScriptWords.{text_of}

-- schema STEP S:R:N/D ..
abbrev pub schema_command : List (List ℕ) → Option Command
schema_command [] = None
schema_command (step ∷ archives) = Some (schema step archives)

-- upgrade S:R:N/D
abbrev pub upgrade_command : List (List ℕ) → Option Command
upgrade_command (archive ∷ []) = Some (upgrade archive)
upgrade_command _ = None

-- node NAME ORIGIN
abbrev pub node_command : List (List ℕ) → Option Command
node_command (name ∷ origin ∷ []) = Some (node name origin)
node_command _ = None

-- now T [LEAD]
abbrev pub now_command : List (List ℕ) → Option Command
now_command (time ∷ []) = Some (now time None)
now_command (time ∷ lead ∷ []) = Some (now time (Some lead))
now_command _ = None

-- write NODE LINE
abbrev pub write_command : List (List ℕ) → Option Command
write_command (name ∷ line ∷ rest) = Some (write name (text_of (line ∷ rest)))
write_command _ = None

-- page NAME NODE FROM COUNT
abbrev pub page_command : List (List ℕ) → Option Command
page_command (name ∷ at ∷ from ∷ count ∷ []) = Some (page name at from count)
page_command _ = None

-- delta NAME GIVER TAKER FROM COUNT
abbrev pub delta_command : List (List ℕ) → Option Command
delta_command (name ∷ giver ∷ taker ∷ from ∷ count ∷ []) = Some (delta name giver taker from count)
delta_command _ = None

-- deliver NAME NODE
abbrev pub deliver_command : List (List ℕ) → Option Command
deliver_command (name ∷ at ∷ []) = Some (deliver name at)
deliver_command _ = None

-- bytes NAME
abbrev pub bytes_command : List (List ℕ) → Option Command
bytes_command (name ∷ []) = Some (bytes name)
bytes_command _ = None

-- save NAME NODE
abbrev pub save_command : List (List ℕ) → Option Command
save_command (name ∷ at ∷ []) = Some (save name at)
save_command _ = None

-- load NAME NODE ORIGIN
abbrev pub load_command : List (List ℕ) → Option Command
load_command (name ∷ at ∷ origin ∷ []) = Some (load name at origin)
load_command _ = None

-- fetch NODE CF RESOLUTION START END KEY
abbrev pub fetch_command : List (List ℕ) → Option Command
fetch_command (name ∷ function ∷ resolution ∷ start ∷ end ∷ key ∷ rest) =
    Some (fetch name (record {
      function = function;
      resolution = resolution;
      start = start;
      end = end;
      key =
          text_of (key ∷ rest);
    }))
fetch_command _ = None

-- the command with this name and these words after it, if it is one that copies or prints what nodes have
abbrev pub copying_command : List ℕ → List (List ℕ) → Option Command
copying_command name words =
    if pointwise nat_eq name (codes "page") then page_command words
    else (if pointwise nat_eq name (codes "delta") then delta_command words
    else (if pointwise nat_eq name (codes "deliver") then deliver_command words
    else (if pointwise nat_eq name (codes "bytes") then bytes_command words
    else (if pointwise nat_eq name (codes "save") then save_command words
    else (if pointwise nat_eq name (codes "load") then load_command words
    else (if pointwise nat_eq name (codes "fetch") then fetch_command words else None))))))

-- the command of a line's words, the first of which is its name
abbrev pub command_of : List (List ℕ) → Option Command
command_of [] = None
command_of (name ∷ words) =
    if pointwise nat_eq name (codes "schema") then schema_command words
    else (if pointwise nat_eq name (codes "upgrade") then upgrade_command words
    else (if pointwise nat_eq name (codes "node") then node_command words
    else (if pointwise nat_eq name (codes "now") then now_command words
    else (if pointwise nat_eq name (codes "write") then write_command words else copying_command name words))))
