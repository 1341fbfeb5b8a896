use Rattle.std.proofs.Common.{◌≡◌, [], rules}
use Rattle.rr_node.proofs.StreamLemmas.{stops_serving, stops_answering}
use Rattle.std.proofs.lemmas.Result.{err_from_is_err_and}
use Rattle.rr_node.proofs.connection.Connection.answer_lines.Goals as goal

pub returns-in_err-write_lines : goal.returns-in_err-write_lines
returns-in_err-write_lines g c =
    let given = err_from_is_err_and c.from_residual.result c.from_residual.ensures.1 in
    let ended = c.in_err-write_lines.ensures.ended in
    record {
      served = search rules;
      stopped = rw given.1 (
        ended.0,
        rw c.renew.ensures.given at ended.1,
        λ start pushed parsed text first has appends. stops_serving c.args.self.now start c.args.keeper.now _ pushed
            text
            parsed ended.0 first _ ended.2 has appends,
      );
      renewed = search rules;
      flushed = search rules;
      writes = search rules;
    }

pub returns-in_err-send : goal.returns-in_err-send
returns-in_err-send g c =
    let given = err_from_is_err_and c.from_residual-in_err-send.result c.from_residual-in_err-send.ensures.1 in
    let served = c.in_ok-write_lines.ensures.served in
    let none : c.new-answers.result.items ≡ [] = search rules in
    let part = rw (c.as_slice.ensures.value, served.3, none) at c.in_err-send.ensures.writes.prefix in
    record {
      served = search rules;
      stopped = rw given.1 (
        served.0,
        rw c.renew.ensures.given at served.2,
        λ start pushed parsed text first has appends. stops_answering c.args.self.now _ start c.args.keeper.now _ pushed
            text served.1 parsed served.0 first _ _ served.4.items has appends part,
      );
      renewed = search rules;
      flushed = search rules;
      writes = search rules;
    }

pub returns : goal.returns
returns g c =
    let served = c.in_ok-write_lines.ensures.served in
    let none : c.new-answers.result.items ≡ [] = search rules in
    let whole = rw (c.as_slice.ensures.value, served.3, none) at c.in_ok-send.ensures.writes.whole in
    record {
      served = (served.0, served.1, rw c.renew.ensures.given at served.2, whole, served.4);
      stopped = search rules;
      renewed = search rules;
      flushed = search rules;
      writes = search rules;
    }
