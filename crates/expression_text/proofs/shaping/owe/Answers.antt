use Rattle.std.proofs.Common.{◌≤◌, arith}
use Rattle.expression_text.proofs.Owing.{pushed}
use Rattle.expression_text.proofs.shaping.owe.Goals as goal

pub returns-in_ok-push : goal.returns-in_ok-push
returns-in_ok-push c =
    let some : 1 ≤ c.args.count = omega arith in
    pushed c.args.owes.now.items c.push.new.self.items (record { what = c.args.what; count = c.args.count }) c.in_ok-push.ensures.items c.requires some
