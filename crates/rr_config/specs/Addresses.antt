-- The addresses that a configuration has.
use Rattle.std.specs.Prelude.{ℕ, List, [], map, codes, Result, Ok}
use Rattle.std.specs.String.{string_bytes}
use Rattle.toml.specs.Data.{Members, get_member}
use Rattle.rr_text.specs.Results.{◌>>=◌}
use Rattle.rr_config.specs.declared.addresses.Addresses.{Addresses}
use Rattle.rr_config.specs.declared.fault.ConfigFault.{ConfigFault}
use Rattle.rr_config.specs.Values.{needed, if_there, text_of, texts_of, readers_of}

-- addresses by their bytes
pub record AddressesView : Type 0 where
  pub lines : List ℕ
  pub fetch : List (List ℕ)
  pub peers : List (List ℕ)

abbrev pub addresses_view : Addresses → AddressesView
addresses_view a = record {
  lines = string_bytes a.lines;
  fetch = map string_bytes a.fetch.items;
  peers = map string_bytes a.peers.items;
}

-- the addresses of a table
unfoldable pub addresses_in : Members → Result AddressesView ConfigFault
addresses_in table = do
  lines ← needed text_of (get_member (codes "lines") table)
  fetch ← needed readers_of (get_member (codes "fetch") table)
  peers ← if_there [] texts_of (get_member (codes "peers") table)
  Ok (record { lines = lines; fetch = fetch; peers = peers })
