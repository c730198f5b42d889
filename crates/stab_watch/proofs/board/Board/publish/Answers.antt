use Rattle.std.proofs.Common.{sym, ◌∙◌, ap, subst, rules, List}
use Rattle.stab_journal.specs.declared.event.Event.{Event}
use Rattle.stab_watch.specs.Counts.{StartsWith}
use Rattle.stab_watch.specs.Board.{stored}
use Rattle.stab_watch.specs.Passes.{HasShown, words_of}
use Rattle.stab_watch.specs.declared.view.Known.{Known}
use Rattle.crossbeam_utils.specs.Seq.{cell_view}
use Rattle.stab_watch.proofs.Keeps.{stores}
use Rattle.stab_watch.proofs.Showing.{counts_of_front, has_shown, may_store, shown_next, stored_last}
use Rattle.stab_watch.proofs.board.Board.publish.Goals as goal

pub counted-now-requires : goal.counted-now-requires
counted-now-requires g c =
    counts_of_front c.args.history.now.events _ _ c.writer.invariant.1
    (subst (λ w. (front : List Event) × HasShown front w × StartsWith c.args.history.now.events front) (sym c.writer.view_is) c.requires.shown)

pub swap_as-requires : goal.swap_as-requires
swap_as-requires g c =
    let req = subst (λ w. (front : List Event) × HasShown front w × StartsWith c.args.history.now.events front) (sym c.writer.view_is) c.requires.shown in
    (search rules, (search rules, (ap (λ w. w.board) c.writer.view_is ∙ c.requires.own ∙ sym c.self.view_is, stores _ _ _ c.writer.invariant.0 (may_store c.args.history.now.events _ _ c.counted-now.ensures req))))

pub invariant_of-writer : goal.invariant_of-writer
invariant_of-writer g c =
    let v = cell_view c.writer.inside.pass in
    let u = cell_view c.swap_as.new.pass in
    let y = words_of c.counted-now.result in
    let st : stored v c.swap_as.result y u = c.swap_as.ensures.rule in
    (ap (λ (k : Known). k.writes) st, stored_last v u c.swap_as.result y st)

pub returns-clause-writer : goal.returns-clause-writer
returns-clause-writer g c =
    shown_next c.args.history.now.events c.args.writer.now _ _ (cell_view c.writer.inside.pass) (cell_view c.swap_as.new.pass) c.swap_as.result (words_of c.counted-now.result) _ _
    c.writer.view_is c.swap_as.ensures.cell.0 c.swap_as.ensures.rule c.counted-now.ensures c.len-writer-inside.ensures.len

pub returns-clause-shown : goal.returns-clause-shown
returns-clause-shown g c =
    subst (HasShown c.args.history.now.events)
    (sym (shown_next c.args.history.now.events c.args.writer.now _ _ (cell_view c.writer.inside.pass) (cell_view c.swap_as.new.pass) c.swap_as.result (words_of c.counted-now.result) _ _
    c.writer.view_is c.swap_as.ensures.cell.0 c.swap_as.ensures.rule c.counted-now.ensures c.len-writer-inside.ensures.len))
    (has_shown c.args.history.now.events c.args.writer.now c.requires.shown)
