use Rattle.std.proofs.Common.{◌-◌, sym, ap, ◌∙◌, arith, length, take, length-take-le}
use Rattle.stab_lex.specs.Kinds.{name_kind}
use Rattle.std.specs.Bool.{IsTrue}
use Rattle.stab_lex.specs.Pieces.{continues_name, Stops}
use Rattle.stab_lex.proofs.Ways.{bumped, Run-more, Leads-append, stops_at, stops_at_end}
use Rattle.stab_lex.proofs.Words.{word_passes, span_fits}
use Rattle.stab_lex.proofs.word.word.Goals as goal
use Rattle.stab_lex.proofs.word.word.Goals.{in-Some+then-not-continues_name, in_default}

pub loop-c-preserved : goal.loop-c-preserved
loop-c-preserved c =
    let step = bumped c.in-Some.c c.bump-in-Some.result c.in-Some.ensures c.bump-in-Some.ensures in
    let goes_on : IsTrue (continues_name c.in-Some.c) = sym c.continues_name.ensures ∙ c.if-not-continues_name.false in
    Run-more c.loop-c.invariant step goes_on

pub slice_bounds-name_kind-end : goal.slice_bounds-name_kind-end
slice_bounds-name_kind-end c =
    let step = bumped c.args.first c.bump.result (sym c.requires.next) c.bump.ensures in
    let fits = span_fits (Leads-append step c.loop-c.invariant.way) in
    let front = ap length c.bytes-front.ensures in
    sym (length-take-le _ c.bytes-front.result.now (omega (arith, c.at.ensures, c.at-start.ensures, fits.1, front)))

pub returns : goal.returns
returns c =
    let step = bumped c.args.first c.bump.result (sym c.requires.next) c.bump.ensures in
    let stops : Stops continues_name c.loop-c.cursor.rest = elim c.match-peek.branch [ in-Some+then-not-continues_name w ↦ stops_at _ _ _ w.in-Some.ensures (sym w.continues_name.ensures ∙ w.if-not-continues_name.true) | in_default w ↦ stops_at_end _ _ w.in_default.ensures ] in
    word_passes c.name_kind.result step c.loop-c.invariant stops c.requires.starts (c.name_kind.ensures ∙ (λ i. name_kind (take (c.at.ensures i - c.at-start.ensures i) (c.bytes-front.ensures i))))
