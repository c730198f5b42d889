use Rattle.std.proofs.Common.{◌≡◌, ℕ, ◌-◌, ◌<◌, refl, sym, subst, arith}
use Rattle.reach_line.specs.MarkList.{MarkList, numbers}
use Rattle.restore.specs.Found.{Lines}
use Rattle.commit_book.specs.declared.parts.Parts.{Parts}
use Rattle.commit_book.specs.declared.rollback.Rollback.{Rollback}
use Rattle.commit_book.specs.TakenOut.{IsTakenOut, IsUndoing}
use Rattle.commit_book.proofs.Undoing.UndoCalls.{lost_all, read_planned, taken_out}
use Rattle.commit_book.proofs.Undoing.UndoneNeeds.{failed_few, failed_left, lines_kept, lines_live, lines_young, may_strike_all, names_low, nodes_there, places_there}
use Rattle.commit_book.proofs.parts.Parts.undo.Goals as goal

-- what is marked is marked still once all is read
still : (old : Parts) (m : ℕ) (r : Rollback) → r.marks ≡ old.rollback.marks → IsUndoing old m old.rollback.marks.nodes → IsUndoing old m r.marks.nodes
still old m r same u = subst (λ (ms : MarkList). IsUndoing old m ms.nodes) (sym same) u

pub read_all-requires-clause-read : goal.read_all-requires-clause-read
read_all-requires-clause-read c = c.requires.read

pub read_all-requires-clause-room : goal.read_all-requires-clause-room
read_all-requires-clause-room c = (c.args.self.now.slots.next - 1, c.requires.room, names_low c.args.self.now c.args.mark.0 c.args.self.now.rollback.marks.nodes c.requires)

pub lines_in-requires-clause-there : goal.lines_in-requires-clause-there
lines_in-requires-clause-there c = nodes_there c.args.self.now c.args.mark.0 c.read_all.new.self.marks.nodes (still c.args.self.now c.args.mark.0 c.read_all.new.self c.read_all.ensures.marks c.requires)

pub lines_in-requires-clause-spare : goal.lines_in-requires-clause-spare
lines_in-requires-clause-spare c =
    places_there c.args.self.now c.args.mark.0 c.read_all.new.self.marks.nodes (still c.args.self.now c.args.mark.0 c.read_all.new.self c.read_all.ensures.marks c.requires) c.read_all.new.self.plan.spare
    (subst (λ (p : Lines). c.args.self.now.slots.next - 1 < p.spare) (sym c.read_all.ensures.plan) c.requires.room.plan)

pub overflow_sub-self : goal.overflow_sub-self
overflow_sub-self c = failed_few c.args.self.now c.args.mark.0 c.read_all.new.self.marks.nodes (still c.args.self.now c.args.mark.0 c.read_all.new.self c.read_all.ensures.marks c.requires) c.lines_in.new.plan.lines c.lines_in.ensures.lines c.failed_among.result c.failed_among.ensures

pub apply-requires-clause-live : goal.apply-requires-clause-live
apply-requires-clause-live c = lines_live c.args.self.now c.args.mark.0 c.read_all.new.self.marks.nodes (still c.args.self.now c.args.mark.0 c.read_all.new.self c.read_all.ensures.marks c.requires) c.lines_in.new.plan.lines c.lines_in.ensures.lines

pub apply-requires-clause-generations : goal.apply-requires-clause-generations
apply-requires-clause-generations c = lines_young c.args.self.now c.args.mark.0 c.read_all.new.self.marks.nodes (still c.args.self.now c.args.mark.0 c.read_all.new.self c.read_all.ensures.marks c.requires) c.lines_in.new.plan.lines c.lines_in.ensures.lines

pub apply-requires-clause-saved : goal.apply-requires-clause-saved
apply-requires-clause-saved c = lines_kept c.args.self.now c.args.mark.0 c.read_all.new.self.marks.nodes (still c.args.self.now c.args.mark.0 c.read_all.new.self c.read_all.ensures.marks c.requires) c.lines_in.new.plan.lines c.lines_in.ensures.lines

pub apply-requires-clause-there : goal.apply-requires-clause-there
apply-requires-clause-there c = nodes_there c.args.self.now c.args.mark.0 c.read_all.new.self.marks.nodes (still c.args.self.now c.args.mark.0 c.read_all.new.self c.read_all.ensures.marks c.requires)

pub gather-requires-clause-none : goal.gather-requires-clause-none
gather-requires-clause-none c = c.read_all.ensures.read.lost

pub gather-requires-clause-room : goal.gather-requires-clause-room
gather-requires-clause-room c = let room = (c.read_all.ensures.room (c.args.self.now.slots.next - 1) c.requires.room).lost in omega (arith, room)

pub gather-requires-clause-rising : goal.gather-requires-clause-rising
gather-requires-clause-rising c = c.read_all.ensures.rising

pub strike_all-removed-requires : goal.strike_all-removed-requires
strike_all-removed-requires c = record {
  may =
      may_strike_all c.args.self.now c.args.mark.0 c.read_all.new.self.marks.nodes (still c.args.self.now c.args.mark.0 c.read_all.new.self c.read_all.ensures.marks c.requires) c.lines_in.new.plan.lines c.lines_in.ensures.lines c.apply.new.slots.threads (λ t. c.apply.ensures.threads (record { 0 = t }))
      (record c.args.self.now { slots = c.apply.new.slots; offers = c.apply.new.offers; store = c.apply.new.store; graph = c.apply.new.graph; tallies = record c.args.self.now.tallies { faulted = c.args.self.now.tallies.faulted - c.failed_among.result }; rollback = c.gather.new.self })
      refl refl refl c.apply.ensures.waiting c.apply.ensures.offers (numbers c.gather.new.self.lost.items)
      (lost_all c.args.self.now c.args.mark.0 c.read_all.new.self.marks.nodes (still c.args.self.now c.args.mark.0 c.read_all.new.self c.read_all.ensures.marks c.requires) (record c.read_all.new.self { plan = c.lines_in.new.plan }) c.gather.new.self (read_planned c.args.self.now.history c.read_all.new.self (record c.read_all.new.self { plan = c.lines_in.new.plan }) c.read_all.ensures.read refl) c.read_all.ensures.all c.lines_in.ensures.lines c.gather.ensures.gathered);
}

pub returns-clause-out : goal.returns-clause-out
returns-clause-out c =
    subst (λ (ms : MarkList). IsTakenOut c.args.self.now c.strike_all-removed.new.self c.args.mark.0 c.strike_all-removed.result ms.nodes) c.read_all.ensures.marks
    (taken_out c.args.self.now c.args.mark.0 c.read_all.new.self.marks.nodes (still c.args.self.now c.args.mark.0 c.read_all.new.self c.read_all.ensures.marks c.requires) (record c.read_all.new.self { plan = c.lines_in.new.plan }) c.gather.new.self (read_planned c.args.self.now.history c.read_all.new.self (record c.read_all.new.self { plan = c.lines_in.new.plan }) c.read_all.ensures.read refl) c.read_all.ensures.all c.lines_in.ensures.lines c.gather.ensures.gathered
    (record c.args.self.now { slots = c.apply.new.slots; offers = c.apply.new.offers; store = c.apply.new.store; graph = c.apply.new.graph; tallies = record c.args.self.now.tallies { faulted = c.args.self.now.tallies.faulted - c.failed_among.result }; rollback = c.gather.new.self })
    c.strike_all-removed.new.self c.strike_all-removed.result refl c.strike_all-removed.ensures.struck
    (λ t. c.apply.ensures.threads (record { 0 = t })) c.apply.ensures.queue c.apply.ensures.next
    (failed_left c.args.self.now c.args.mark.0 c.read_all.new.self.marks.nodes (still c.args.self.now c.args.mark.0 c.read_all.new.self c.read_all.ensures.marks c.requires) c.lines_in.new.plan.lines c.lines_in.ensures.lines c.failed_among.result c.failed_among.ensures)
    c.apply.ensures.waiting c.apply.ensures.offers (λ k v. c.apply.ensures.saved (record { 0 = k }) (record { 0 = v })) c.apply.ensures.nodes)
