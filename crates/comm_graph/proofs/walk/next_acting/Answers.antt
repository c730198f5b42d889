use Rattle.std.proofs.Common.{◌≡◌, ◌&&◌, ◌∙◌, false, length, [], ◌∷◌, sym, arith}
use Rattle.comm_graph.specs.declared.table.Entry.{Entry}
use Rattle.comm_graph.specs.Node.{acts}
use Rattle.comm_graph.specs.Walk.{acting}
use Rattle.comm_graph.proofs.Joins.{read_at}
use Rattle.comm_graph.proofs.Ahead.{ahead_more, next_at, next_none, both_true, one_false, other_false}
use Rattle.comm_graph.proofs.walk.next_acting.Goals as goal
use Rattle.comm_graph.proofs.walk.next_acting.Goals.{else-entry-via-then-entry+else-acts, else-entry-via-else-entry}

pub returns-then-acts-clause-next : goal.returns-then-acts-clause-next
returns-then-acts-clause-next c =
    let t = c.args.table.now in
    let e = c.entry-entry.result.now in
    let i = c.loop-at.invariant.within (omega arith) in
    read_at (λ (x : Entry). x.number.0 ∷ []) [] t.entries.items t.gone c.loop-at.at e c.entry-entry.ensures
    ∙ sym (next_at c.args.t.0 t.entries.items t.gone c.args.place c.loop-at.at e c.requires.place.0 c.requires.place.1 i.0 c.loop-at.invariant.between c.entry-entry.ensures
    (both_true e.live (acts c.args.t.0 e.kind) c.if-entry.true (sym c.acts.ensures ∙ c.if-acts.true)))

pub loop-at-preserved : goal.loop-at-preserved
loop-at-preserved c =
    let t = c.args.table.now in
    let e = c.entry-entry.result.now in
    let dead : acting c.args.t.0 t.entries.items t.gone c.loop-at.at ≡ false =
    read_at (λ (x : Entry). x.live && acts c.args.t.0 x.kind) false t.entries.items t.gone c.loop-at.at e c.entry-entry.ensures
    ∙ elim c.else-entry.branch [
      | else-entry-via-then-entry+else-acts w ↦ other_false e.live (acts c.args.t.0 e.kind) (sym w.acts.ensures ∙ w.if-acts.false)
      | else-entry-via-else-entry w ↦ one_false e.live (acts c.args.t.0 e.kind) w.if-entry.false
    ] in
    ahead_more t.entries.items t.gone (length c.args.tails.now.items) c.args.t.0 c.args.place c.loop-at.at c.following-at-in-loop-at.result c.loop-at.invariant (omega arith) dead c.following-at-in-loop-at.ensures

pub returns-clause-next : goal.returns-clause-next
returns-clause-next c =
    let t = c.args.table.now in
    sym (next_none c.args.t.0 t.entries.items t.gone c.args.place c.requires.place.0 c.requires.place.1 (c.loop-at.invariant.none (omega arith)))
