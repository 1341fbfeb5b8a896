use Rattle.std.proofs.Common.{◌≡◌, ◌≢◌, refl, ap, rules}
use Rattle.http1.specs.declared.conn.Writing.TheVariants as Writing
use Rattle.rr_connection.specs.declared.http.HttpConnection.{HttpConnection}
use Rattle.rr_connection.specs.declared.http.Phase.TheVariants as Phase
use Rattle.rr_connection.specs.Answer.{reply_view}
use Rattle.rr_connection.proofs.AnswerLemmas.{closed_of, given_next, next_of, text_of}
use Rattle.rr_connection.proofs.StreamLemmas.{waiting}
use Rattle.rr_connection.proofs.http.HttpConnection.answer.Goals as goal

pub returns-in-Ok-clause-answered : goal.returns-in-Ok-clause-answered
returns-in-Ok-clause-answered c =
    let old = c.args.self.now in
    let written = c.write.new.self in
    let reply = reply_view c.args.reply.now in
    let phase : old.phase ≡ Phase.Waits = search rules in
    let closed : written.server.writing ≡ Writing.Closed = c.is_closed.ensures.0 c.if-is_closed.true in
    record {
      asked = phase;
      text = λ limits received answered m x.
          let w = waiting old limits received answered m phase x in
          text_of limits m old.server old.is_head reply old.unsent.items written.unsent.items w.0 w.2 c.in-Ok.ensures.text;
      goes_on = λ limits received answered m x stays.
          let w = waiting old limits received answered m phase x in
          absurd (stays (closed_of limits m old.server written.server old.is_head reply w.0 w.2 c.in-Ok.ensures.server closed));
      given = λ limits received answered m x. tt;
    }

pub returns-in-Ok-2-clause-answered : goal.returns-in-Ok-2-clause-answered
returns-in-Ok-2-clause-answered c =
    let old = c.args.self.now in
    let written = c.write.new.self in
    let reply = reply_view c.args.reply.now in
    let phase : old.phase ≡ Phase.Waits = search rules in
    let stays : written.server.writing ≢ Writing.Closed = λ wrong. let closed = c.is_closed.ensures.1 wrong in cc in
    record {
      asked = phase;
      text = λ limits received answered m x.
          let w = waiting old limits received answered m phase x in
          text_of limits m old.server old.is_head reply old.unsent.items written.unsent.items w.0 w.2 c.in-Ok-2.ensures.text;
      goes_on = λ limits received answered m x stays. refl;
      given = λ limits received answered m x.
          let w = waiting old limits received answered m phase x in
          let next = next_of limits m old.server written.server old.is_head reply w.0 c.in-Ok-2.ensures.server stays in
          given_next old (record written { phase = Phase.Receives }) limits received answered m refl next
          (ap (λ (q : HttpConnection). q.part) c.write.ensures.other) (ap (λ (q : HttpConnection). q.unread) c.write.ensures.other) w;
    }
