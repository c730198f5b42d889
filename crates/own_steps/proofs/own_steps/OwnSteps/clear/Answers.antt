use Rattle.std.proofs.Common.{[], length, sym, ap, ◌∙◌, arith}
use Rattle.std.specs.List.{slice_index_or}
use Rattle.own_steps.specs.Own.{Seen}
use Rattle.own_steps.specs.Layout.{rows_from}
use Rattle.own_steps.proofs.Rows.{rows-at, rows-length}
use Rattle.own_steps.proofs.own_steps.OwnSteps.clear.Goals as goal

pub returns-clause-none : goal.returns-clause-none
returns-clause-none c = λ t.
    let heads = c.self.inside.heads.items in
    ap (λ es. slice_index_or (rows_from 0 heads es) t []) c.clear.ensures.items ∙ rows-at 0 t t heads [] (omega arith)

pub returns-clause-places : goal.returns-clause-places
returns-clause-places c =
    let heads = c.self.inside.heads.items in
    rows-length 0 heads c.clear.new.self.items
    ∙ sym (rows-length 0 heads c.self.inside.entries.items)
    ∙ ap (λ (s : Seen). length s.steps) c.self.view_is
