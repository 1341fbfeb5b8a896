use Rattle.std.proofs.Common.{refl}
use Rattle.std.proofs.lemmas.Result.{on_ok_weaker}
use Rattle.rr_connection.proofs.StreamLemmas.{stands_more}
use Rattle.rr_connection.proofs.http.HttpConnection.receive.Goals as goal

pub returns-clause-received : goal.returns-clause-received
returns-clause-received c = on_ok_weaker c.extend_from_slice.result (λ is limits received answered asked x.
    stands_more c.args.self.now.phase c.args.self.now (record (c.args.self.now) { unread = c.extend_from_slice.new.self }) c.args.bytes.now limits received answered asked refl refl refl is x) c.extend_from_slice.ensures.ok
