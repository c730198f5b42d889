use Rattle.stab_lex.proofs.Spans.{reads_in_order, reads_slices}
use Rattle.scope_check.proofs.Programs.{program-valid}
use Rattle.scope_check.proofs.SoundTokens.{few-forms, few-nodes, sound-parsed}
use Rattle.scope_check.proofs.laws.programs_are_valid.Goals as goal

pub returns : goal.returns
returns c = λ bytes tokens p small read parsed.
    program-valid bytes p (sound-parsed bytes tokens p (reads_slices read) parsed.is_program.written) parsed.no_deep (few-nodes p bytes small (few-forms tokens p _ (reads_in_order read) parsed.is_program.written))
