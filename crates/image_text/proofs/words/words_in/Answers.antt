use Rattle.std.proofs.Common.{sym, ◌∙◌}
use Rattle.std.specs.Option.{option_copied}
use Rattle.image_text.specs.Pieces.{pieces_left}
use Rattle.image_text.specs.Reading.{reading}
use Rattle.image_text.specs.Seen.{seen}
use Rattle.image_text.proofs.WordsSoFar.{none_begins, one_more}
use Rattle.image_text.proofs.WordsWritten.{shorter}
use Rattle.image_text.proofs.words.words_in.Goals as goal

pub returns-in_default : goal.returns-in_default
returns-in_default c =
    sym (none_begins (reading (pieces_left (option_copied c.args.line))) (seen c.loop-left.found) c.loop-left.left c.loop-left.invariant (sym c.is_some.ensures ∙ c.loop-left-test.true) (sym c.in_default.ensures))

pub loop-left-smaller : goal.loop-left-smaller
loop-left-smaller c = shorter (pieces_left (option_copied c.loop-left.left)) (pieces_left (option_copied c.in-Some.rest)) c.in-Some.filled (sym c.in-Some.ensures)

pub loop-left-preserved : goal.loop-left-preserved
loop-left-preserved c =
    one_more (reading (pieces_left (option_copied c.args.line))) (seen c.loop-left.found) (seen c.add.new.self) (pieces_left (option_copied c.loop-left.left)) (pieces_left (option_copied c.in-Some.rest))
    c.in-Some.filled c.loop-left.invariant (sym c.in-Some.ensures) c.in_ok-add.ensures.words c.in_ok-add.ensures.counted c.in_ok-add.ensures.whole
