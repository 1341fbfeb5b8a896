use Rattle.std.proofs.Common.{◌≡◌, true, Some, rules}
use Rattle.std.specs.Prelude.{int_lt}
use Rattle.std.specs.Int.{w64}
use Rattle.std.proofs.Math.Facts.{to_z-of_z}
use Rattle.rr_fetch.specs.Words.{parts, function_of, resolution_of, second_of}
use Rattle.rr_fetch.proofs.RequestLemmas.{read_by_words}
use Rattle.rr_fetch.specs.Requests.{read}
use Rattle.rr_fetch.proofs.request.read_request.Goals as goal

pub returns : goal.returns
returns c = record {
  value =
      let w = parts c.args.words.now in
      let back = to_z-of_z {w = w64} {z = c.in_ok-first.first} (search rules) in
      let key : c.in_ok-key-2.key ≡ w.key = search rules in
      let function : function_of w.function ≡ Some c.in_ok-cf.cf = search rules in
      let resolution : resolution_of w.resolution ≡ Some c.in_ok-resolution.resolution = search rules in
      let start : second_of w.start ≡ Some c.in_ok-start.start = search rules in
      let end : second_of w.end ≡ Some c.in_ok-end.end = search rules in
      let before : int_lt c.in_ok-start.start c.in_ok-end.end ≡ true = search rules in
      let start_back = to_z-of_z {w = w64} {z = c.in_ok-start.start} (search rules) in
      let end_back = to_z-of_z {w = w64} {z = c.in_ok-end.end} (search rules) in
      let rows = rw (start_back, end_back, c.choose-archive.ensures.value) at
      (c.in_ok-first.ensures.value w.key c.in_ok-cf.cf) in
      rw (back, key, c.choose-archive.ensures.value)
      (read_by_words c.args.schema.now w c.in_ok-cf.cf c.in_ok-resolution.resolution c.in_ok-start.start
      c.in_ok-end.end _ function resolution start end c.in_ok-key.ensures.value before rows);
  memory = search rules;
  fetchable =
      let back = to_z-of_z {w = w64} {z = c.in_ok-first.first} (search rules) in
      rw back (c.in_ok-first.ensures.fetchable c.in_ok-key-2.key c.in_ok-cf.cf);
}

pub returns-in_err-first : goal.returns-in_err-first
unfolding read
returns-in_err-first c = record {
  value = search rules;
  memory = search rules;
  fetchable = search rules;
}

pub returns-in_err-key-2 : goal.returns-in_err-key-2
unfolding read
returns-in_err-key-2 c = record {
  value = search rules;
  memory = search rules;
  fetchable = search rules;
}
