use Rattle.std.proofs.Common.{◌<◌, length, sym, ap, ◌∙◌, subst}
use Rattle.rr_schema.specs.SchemaBytes.{schema_bytes}
use Rattle.rr_gossip.specs.declared.frame.TheConstants.{MAX_FRAME_LEN}
use Rattle.rr_gossip.specs.declared.summary.TheConstants.{MAX_ENTRIES}
use Rattle.rr_gossip.proofs.LengthLemmas.{schema_fits, few_listed, summary_fits}
use Rattle.rr_gossip.proofs.puller.Stage.next_frame.Goals as goal

pub frame_bytes-requires : goal.frame_bytes-requires
frame_bytes-requires g c =
    subst (λ l. length l < MAX_FRAME_LEN) (sym (c.deref.ensures.value ∙ c.in_ok-own-in-Opening.ensures
    ∙ ap schema_bytes c.schema.ensures.value)) (schema_fits (g.T.Target.layout c.args.target.now)
    c.schema.ensures.within)

pub listed-requires-clause-names_fit : goal.listed-requires-clause-names_fit
listed-requires-clause-names_fit g c = few_listed c.in_ok-names-in-Listing.names.items MAX_ENTRIES _
    c.in_ok-names-in-Listing.ensures.listed

pub listed-requires-clause-fits : goal.listed-requires-clause-fits
listed-requires-clause-fits g c =
    let names = c.in_ok-names-in-Listing.names.items in
    summary_fits (g.T.Target.layout c.args.target.now) names
    (few_listed names MAX_ENTRIES _ c.in_ok-names-in-Listing.ensures.listed)
    c.in_ok-names-in-Listing.ensures.of_schema
