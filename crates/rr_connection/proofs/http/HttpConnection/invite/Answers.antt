use Rattle.rr_connection.proofs.SendLemmas.{sends_invitation}
use Rattle.rr_connection.proofs.http.HttpConnection.invite.Goals as goal

pub returns-in-Ok-clause-text : goal.returns-in-Ok-clause-text
returns-in-Ok-clause-text c = sends_invitation c.args.self.now (record (c.args.self.now) { unsent = c.extend_from_slice.new.self }) c.in-Ok.ensures.ok
