use Rattle.std.proofs.Common.{rules}
use Rattle.std.specs.Bool.{IsTrue}
use Rattle.stab_lex.specs.Pieces.{is_in_line}
use Rattle.stab_lex.proofs.Ways.{bumped, Run-more}
use Rattle.stab_lex.proofs.separator.skip_line.Goals as goal

pub loop-c-preserved : goal.loop-c-preserved
loop-c-preserved c =
    let step = bumped c.in-Some.c c.bump.result c.in-Some.ensures c.bump.ensures in
    let goes_on : IsTrue (is_in_line c.in-Some.c) = search rules in
    Run-more c.loop-c.invariant step goes_on
