-- Which stream is to blame for a fault of its connection.
use Rattle.std.proofs.Common.{◌≡◌, Result, Ok, Err, refl, inl, inr}
use Rattle.std.specs.Prelude.{IfErr}
use Rattle.rr_text.specs.declared.limits.TheConstants.{MAX_READS}
use Rattle.rr_io.specs.Counted.{HasRisen, HasRisenBy}
use Rattle.rr_gossip.specs.declared.fault.GossipFault.{GossipFault}
use Rattle.rr_gossip.specs.declared.fault.GossipFault.TheVariants as session
use Rattle.rr_host.specs.Streams.{Stream}
use Rattle.rr_node.specs.declared.fault.NodeFault.{NodeFault}
use Rattle.rr_node.specs.declared.fault.NodeFault.TheVariants as node
use Rattle.rr_node.specs.Fault.{IsOfLines, IsToBlame, of_session_fault}

-- what the calls of a stream tell of the faults of lines
pub record LinesTell {X : Type 0} (result : Result X NodeFault) (before after : Stream) : Type 0 where
  pub read : result ≡ Err node.ReadFailed → HasRisen before.input.failures after.input.failures
  pub many : result ≡ Err node.TooManyReads → HasRisenBy MAX_READS before.input.reads after.input.reads
  pub no_end : result ≡ Err node.TooManyReads → after.input.ends ≡ before.input.ends
  pub write : result ≡ Err node.WriteFailed → HasRisen before.output.failures after.output.failures

-- and of those of a session
pub record SessionTells {X F : Type 0} (result : Result X F) (by : GossipFault → F) (before after : Stream)
    : Type 0 where
  pub read : result ≡ Err (by session.ReadFailed) → HasRisen before.input.failures after.input.failures
  pub write : result ≡ Err (by session.WriteFailed) → HasRisen before.output.failures after.output.failures

pub blamed : {X : Type 0} (result : Result X NodeFault) (before after : Stream) → LinesTell result before after
    → SessionTells result node.Session before after → IfErr result (IsToBlame before after)
blamed (Ok x) before after lines given = tt
blamed (Err node.ReadFailed) before after lines given = lines.read refl
blamed (Err node.WriteFailed) before after lines given = lines.write refl
blamed (Err node.TooManyReads) before after lines given = (lines.many refl, lines.no_end refl)
blamed (Err node.BadAddress) before after lines given = tt
blamed (Err (node.Session session.ReadFailed)) before after lines given = given.read refl
blamed (Err (node.Session session.Ended)) before after lines given = tt
blamed (Err (node.Session session.FrameTooLong)) before after lines given = tt
blamed (Err (node.Session session.BadFrame)) before after lines given = tt
blamed (Err (node.Session session.UnexpectedFrame)) before after lines given = tt
blamed (Err (node.Session session.TooManyFrames)) before after lines given = tt
blamed (Err (node.Session session.SchemaDiffers)) before after lines given = tt
blamed (Err (node.Session session.WriteFailed)) before after lines given = given.write refl
blamed (Err (node.Session session.Memory)) before after lines given = tt
blamed (Err (node.Session session.Failed)) before after lines given = tt
blamed (Err node.Memory) before after lines given = tt

no_session : (why : GossipFault) → IsOfLines (node.Session why) → ⊥
no_session why (inl e) = absurd cc
no_session why (inr (inl e)) = absurd cc
no_session why (inr (inr (inl e))) = absurd cc
no_session why (inr (inr (inr e))) = absurd cc

-- a line connection has no session
pub lines_blamed : {X : Type 0} (result : Result X NodeFault) (before after : Stream) → LinesTell result before after
    → IfErr result IsOfLines → IfErr result (IsToBlame before after)
lines_blamed (Ok x) before after lines faults = tt
lines_blamed (Err node.ReadFailed) before after lines faults = lines.read refl
lines_blamed (Err node.WriteFailed) before after lines faults = lines.write refl
lines_blamed (Err node.TooManyReads) before after lines faults = (lines.many refl, lines.no_end refl)
lines_blamed (Err node.BadAddress) before after lines faults = tt
lines_blamed (Err (node.Session why)) before after lines faults = absurd (no_session why faults)
lines_blamed (Err node.Memory) before after lines faults = tt

pub session_blamed : {X : Type 0} (why : GossipFault) (before after : Stream)
    → SessionTells {X = X} (Err why) (λ fault. fault) before after → IsToBlame before after (of_session_fault why)
session_blamed session.ReadFailed before after given = given.read refl
session_blamed session.Ended before after given = tt
session_blamed session.FrameTooLong before after given = tt
session_blamed session.BadFrame before after given = tt
session_blamed session.UnexpectedFrame before after given = tt
session_blamed session.TooManyFrames before after given = tt
session_blamed session.SchemaDiffers before after given = tt
session_blamed session.WriteFailed before after given = given.write refl
session_blamed session.Memory before after given = tt
session_blamed session.Failed before after given = tt
