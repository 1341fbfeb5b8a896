use Rattle.std.proofs.Common.{rules}
use Rattle.rr_web.proofs.json.push_escaped.Goals as goal

pub returns-in_ok-push-5 : goal.returns-in_ok-push-5
returns-in_ok-push-5 c = search rules
