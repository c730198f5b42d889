use Rattle.std.proofs.Common.{◌≤◌, length, vec_capacity, ap, ◌∙◌, arith}
use Rattle.restore.specs.Found.{Finding}
use Rattle.restore.proofs.Finding.{found_reserved, map_reserved}
use Rattle.restore.proofs.found.Found.reserve.Goals as goal

pub invariant_of-self-in-Continue-branch-2 : goal.invariant_of-self-in-Continue-branch-2
invariant_of-self-in-Continue-branch-2 c =
    let s = c.self.inside in
    let high : length s.lines.items ≤ c.args.spare = omega (arith, s.lines.ok.0) in
    let spare = c.in_ok-reserve.ensures.ok in
    found_reserved s.lines.items c.resize.new.self.items s.touched.items c.reserve.new.self.items (vec_capacity s.touched) (vec_capacity c.reserve.new.self) c.args.spare s.lines.len (omega (arith, s.lines.ok.0)) high (omega (arith, spare)) c.reserve.ensures.items c.in_ok-resize.ensures.items c.self.invariant

pub returns-in_ok-resize-clause-lines : goal.returns-in_ok-resize-clause-lines
returns-in_ok-resize-clause-lines c =
    let s = c.self.inside in
    let high : length s.lines.items ≤ c.args.spare = omega (arith, s.lines.ok.0) in
    map_reserved s.lines.items c.resize.new.self.items c.args.spare s.lines.len (omega (arith, s.lines.ok.0)) high c.in_ok-resize.ensures.items ∙ ap (λ (f : Finding). f.lines) c.self.view_is
