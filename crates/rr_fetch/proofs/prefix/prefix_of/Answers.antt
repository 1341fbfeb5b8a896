use Rattle.std.proofs.Common.{◌≡◌, ◌≢◌, ◌++◌, ◌∷◌, [], false, ap, ◌∙◌, rules}
use Rattle.csv.specs.declared.writer.QuoteStyle.TheVariants as style
use Rattle.csv.specs.Writing.{default_writer, fields_written, writer_pending, writer_under}
use Rattle.rr_fetch.proofs.WriterLemmas.{field_is}
use Rattle.rr_fetch.proofs.prefix.prefix_of.Goals as goal

pub returns-in-Ok-into_inner : goal.returns-in-Ok-into_inner
returns-in-Ok-into_inner c =
    let made = c.from_writer-writer.ensures in
    let plain : c.from_writer-writer.result.cfg.style ≢ style.NonNumeric = rw made.cfg (λ e. cc e) in
    let setup : c.write_field.new.self.cfg ≡ default_writer = c.in-Ok.ensures.same ∙ made.cfg in
    let still_plain : c.write_field.new.self.cfg.style ≢ style.NonNumeric = rw setup (λ e. cc e) in
    let one : fields_written c.write_field.new.self ≡ 1 = rw made.fields at c.in-Ok.ensures.count in
    let empty : (writer_under c.from_writer-writer.result).items ++ writer_pending c.from_writer-writer.result ≡ [] =
    search rules in
    let key = rw (made.cfg, made.fields, empty) at (c.in-Ok.ensures.text plain) in
    let comma = rw (setup, one) at (c.in-Ok-write_field.ensures.text still_plain) in
    c.in-Ok-into_inner.ensures.ok ∙ comma
    ∙ ap (λ t. t ++ 44 ∷ []) (key ∙ field_is false c.args.first.now)
