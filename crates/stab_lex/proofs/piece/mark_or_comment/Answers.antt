use Rattle.std.proofs.Common.{sym, subst}
use Rattle.stab_lex.specs.declared.token.LexFault.TheVariants.{BadChar}
use Rattle.stab_lex.specs.Readings.{Meets}
use Rattle.stab_lex.specs.Place.{Leads}
use Rattle.stab_lex.specs.Pieces.{IsLongest}
use Rattle.std.proofs.Common.{[], ◌∷◌}
use Rattle.stab_lex.proofs.Ways.{bumped}
use Rattle.stab_lex.proofs.Marks.{comment_passes, double_passes, single_passes, stray_meets, alone_before, alone_at_end}
use Rattle.stab_lex.proofs.piece.mark_or_comment.Goals as goal
use Rattle.stab_lex.proofs.piece.mark_or_comment.Goals.{in-Some+else-first-eq47+in_default-double_mark, in_default}

pub returns-then-second-eq47 : goal.returns-then-second-eq47
returns-then-second-eq47 c =
    let step = bumped c.args.first c.bump.result (sym c.requires.next) c.bump.ensures in
    let second = subst (λ x. Leads (x ∷ []) c.bump.new.self c.bump-then-second-eq47.new.self) c.if-second-eq47.true (bumped c.in-Some.second c.bump-then-second-eq47.result c.in-Some.ensures c.bump-then-second-eq47.ensures) in
    let line = c.skip_line.ensures in
    comment_passes step line.0 c.if-first-eq47.true second line.1 line.2 line.3

pub returns-in-Some-double_mark : goal.returns-in-Some-double_mark
returns-in-Some-double_mark c =
    let step = bumped c.args.first c.bump.result (sym c.requires.next) c.bump.ensures in
    let more = bumped c.in-Some.second c.bump-in-Some-double_mark.result c.in-Some.ensures c.bump-in-Some-double_mark.ensures in
    double_passes step c.in-Some.second c.in-Some-double_mark.kind more c.in-Some-double_mark.ensures

pub returns-in-Some-single_mark : goal.returns-in-Some-single_mark
returns-in-Some-single_mark c =
    let step = bumped c.args.first c.bump.result (sym c.requires.next) c.bump.ensures in
    let alone : IsLongest (c.args.first ∷ []) c.bump.new.self.rest = elim c.match-peek.branch [ in-Some+else-first-eq47+in_default-double_mark w ↦ alone_before c.args.first _ _ w.in-Some.ensures w.else-first-eq47.either w.in_default-double_mark.ensures | in_default w ↦ alone_at_end c.args.first _ w.in_default.ensures ] in
    single_passes step c.in-Some-single_mark.kind alone c.in-Some-single_mark.ensures

pub returns-in-None : goal.returns-in-None
returns-in-None c =
    let step = bumped c.args.first c.bump.result (sym c.requires.next) c.bump.ensures in
    let alone : IsLongest (c.args.first ∷ []) c.bump.new.self.rest = elim c.match-peek.branch [ in-Some+else-first-eq47+in_default-double_mark w ↦ alone_before c.args.first _ _ w.in-Some.ensures w.else-first-eq47.either w.in_default-double_mark.ensures | in_default w ↦ alone_at_end c.args.first _ w.in_default.ensures ] in
    subst (λ at. Meets (BadChar at) c.args.cursor.now) (sym c.at-start.ensures) (stray_meets step c.requires.other alone c.in-None.ensures)
