use Rattle.rr_nodes.proofs.WholeSessions.{sides_have_a_session, sides_have_a_cut_session}
use Rattle.rr_nodes.proofs.laws.sides_have_sessions.Goals as goal

pub returns : goal.returns
returns c = record { whole = sides_have_a_session; cut = sides_have_a_cut_session }
