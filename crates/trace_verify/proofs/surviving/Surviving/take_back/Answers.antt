use Rattle.std.proofs.Common.{◌≡◌, ◌+◌, ◌++◌, length, take, drop, refl, sym, ap, subst, ◌∙◌}
use Rattle.std.specs.Prelude.{IfSome, IsSome, Some}
use Rattle.language.specs.Since.{end_from}
use Rattle.stab_journal.specs.Generation.{acts_in}
use Rattle.stab_journal.specs.Names.{has}
use Rattle.stab_journal.specs.Reached.{reached, without_reached}
use Rattle.trace_verify.specs.declared.parts.Parts.{Parts}
use Rattle.trace_verify.specs.Parts.{run_in}
use Rattle.trace_verify.specs.Surviving.{LeadTo, LeadsOn}
use Rattle.trace_verify.proofs.Leading.{after_lose, left_is_run, near_left, whole_is}
use Rattle.trace_verify.proofs.Undoing.{may}
use Rattle.trace_verify.proofs.surviving.Surviving.take_back.Goals as goal

pub go_back-requires-clause-leads : goal.go_back-requires-clause-leads
go_back-requires-clause-leads c =
    let kept = c.requires.kept in (kept.0, kept.1.based, kept.1.near, subst IsSome (sym kept.1.leads.ends) refl)

pub play_all-requires : goal.play_all-requires
play_all-requires c =
    let s = c.args.self.now in
    let b = c.go_back.new.self in
    let l = c.lose.new.self in
    let k = c.before-k.result in
    let from = c.requires.kept.0 in
    let kept = c.requires.kept.1 in
    let front = ap (λ ns. ns ++ take k l.recent.items) (c.in_ok-goes.ensures.settled ∙ ap (λ (a : Parts). a.settled.items) c.in_ok-go_back.ensures.parts)
    ∙ ap (λ ns. s.parts.settled.items ++ ns) (c.in_ok-goes.ensures.front ∙ ap (λ (a : Parts). take k a.recent.items) c.in_ok-go_back.ensures.parts) in
    subst IsSome (sym (after_lose s.state.program b.state.program from (run_in s.parts) c.args.m.0 s.state.state kept.leads (l.settled.items ++ take k l.recent.items) (drop k l.recent.items) c.split_at.result.1.now b.state.state
    c.in_ok-go_back.ensures.program
    (whole_is k l.settled.items l.recent.items ∙ c.in_ok-goes.ensures.run ∙ ap (λ (a : Parts). without_reached c.args.m.0 (run_in a)) c.in_ok-go_back.ensures.parts)
    (ap (end_from s.state.program from) front ∙ c.in_ok-go_back.ensures.state from kept.based kept.near)
    (c.split_at.ensures.back ∙ ap (drop k) c.deref.ensures.value))) refl

pub returns : goal.returns
returns c = λ from kept.
    let s = c.args.self.now in
    let b = c.go_back.new.self in
    let l = c.lose.new.self in
    let k = c.before-k.result in
    let parts = c.in_ok-go_back.ensures.parts in
    let run = c.in_ok-goes.ensures.run ∙ ap (λ (a : Parts). without_reached c.args.m.0 (run_in a)) parts in
    let whole = whole_is k l.settled.items l.recent.items ∙ run in
    let front = ap (λ ns. ns ++ take k l.recent.items) (c.in_ok-goes.ensures.settled ∙ ap (λ (a : Parts). a.settled.items) parts)
    ∙ ap (λ ns. s.parts.settled.items ++ ns) (c.in_ok-goes.ensures.front ∙ ap (λ (a : Parts). take k a.recent.items) parts) in
    let at = ap (end_from s.state.program from) front ∙ c.in_ok-go_back.ensures.state from kept.based kept.near in
    let same = c.in_ok-play_all.ensures.program ∙ c.in_ok-go_back.ensures.program in
    let leads : LeadsOn c.play_all.new.state.program from ((l.settled.items ++ take k l.recent.items) ++ drop k l.recent.items) c.play_all.new.state.state =
    left_is_run s.state.program c.play_all.new.state.program from (run_in s.parts) c.args.m.0 s.state.state kept.leads (l.settled.items ++ take k l.recent.items) (drop k l.recent.items) b.state.state c.play_all.new.state.state
    same whole at
    (ap (λ p. end_from p b.state.state (drop k l.recent.items)) (sym c.in_ok-go_back.ensures.program)
    ∙ ap (end_from b.state.program b.state.state) (sym (c.split_at.ensures.back ∙ ap (drop k) c.deref.ensures.value)) ∙ c.in_ok-play_all.ensures.made) in (
      record {
        parted = c.in_ok-goes.ensures.parted;
        leads = subst (λ ns. LeadsOn c.play_all.new.state.program from ns c.play_all.new.state.state) (whole_is k l.settled.items l.recent.items) leads;
        based = subst (λ p. LeadTo from p b.based l.settled.items b.base) (sym c.in_ok-play_all.ensures.program)
            (subst (λ ns. LeadTo from b.state.program b.based ns b.base) (sym c.in_ok-goes.ensures.settled) (c.in_ok-go_back.ensures.based from kept.based));
        near = subst (λ o. IfSome o (LeadTo from c.play_all.new.state.program b.nearby (run_in l))) (sym c.in_ok-go_back.ensures.near)
            (near_left c.play_all.new.state.program from b.nearby k l.settled.items l.recent.items b.state
            (c.in_ok-go_back.ensures.place ∙ ap (λ ns. length ns + k) (sym (c.in_ok-goes.ensures.settled ∙ ap (λ (a : Parts). a.settled.items) parts)))
            c.in_ok-goes.ensures.long (sym c.in_ok-play_all.ensures.program)
            (ap (λ p. end_from p from (l.settled.items ++ take k l.recent.items)) same ∙ at));
      },
      same,
      may s.parts.since s.state.program (run_in s.parts) s.state.state c.args.t.0 c.args.m.0 (sym c.in_ok-may_take_back.ensures ∙ c.if-not-branch.false),
      run,
      ap (end_from s.state.program from) (sym whole) ∙ ap (λ p. end_from p from ((l.settled.items ++ take k l.recent.items) ++ drop k l.recent.items)) (sym same) ∙ leads.ends,
      (λ u. c.in_ok-goes.ensures.lost u ∙ ap (λ (a : Parts). acts_in (has (reached (run_in a) c.args.m.0)) u (run_in a)) parts),
      c.lose.ensures.since ∙ ap (λ (a : Parts). a.since) parts,
    )
