use Rattle.std.proofs.Common.{◌≡◌, ◌++◌, [], ◌∷◌, None, Some, rules}
use Rattle.hex.specs.Hex.{encode_lower}
use Rattle.rr_text.specs.declared.bytes.TheConstants.{LINE_FEED}
use Rattle.rr_cluster.specs.Model.{cell_model}
use Rattle.rr_cluster.proofs.CommandsLemmas.Bytes.{no_page, line_printed}
use Rattle.rr_cluster.proofs.MeaningLemmas.{no_page_at, bytes_found}
use Rattle.rr_cluster.proofs.commands.bytes.hex_of_page.Goals as goal

pub returns-in_default : goal.returns-in_default
returns-in_default g c = λ m is.
    no_page cell_model m c.args.name.now (no_page_at c.args.cluster.now m is c.args.name.now
    (bytes_found c.args.cluster.now.pages c.args.name.now None c.in_default.ensures.value))

pub returns : goal.returns
returns g c = λ m is.
    let kept = bytes_found c.args.cluster.now.pages c.args.name.now (Some c.in-Some.page.now) c.in-Some.ensures.value in
    let digits : c.into_bytes-line.result.items ≡ encode_lower c.in-Some.page.now.items = search rules in
    let ended : c.push.new.self.items ≡ c.into_bytes-line.result.items ++ LINE_FEED ∷ [] = search rules in
    line_printed c.args.cluster.now m is c.args.name.now c.in-Some.page.now.items c.into_bytes-line.result.items
    c.push.new.self.items kept digits ended
