use Rattle.std.proofs.Common.{◌≡◌, []}
use Rattle.rr_connection.specs.declared.http.Phase.TheVariants as Phase
use Rattle.rr_connection.specs.Receiving.{IsReceiving, Leads, Sends}
use Rattle.rr_connection.proofs.http.HttpConnection.next.Given as goal

abbrev pub invariant-loop : goal.invariant-loop
invariant-loop l = record {
  phase : l.self.phase ≡ Phase.Receives;
  limit : l.self.max_body ≡ l.fn.self.max_body;
  text : Sends [] l.fn.self l.self;
  found : Leads (IsReceiving l.fn.self) (IsReceiving l.self);
}
