-- A run by one worker is a drill.
use Rattle.std.proofs.Common.{◌≡◌, inl, inr, ℕ, Bool, true, false, cond, nat_eq, length, List, [], ◌∷◌, ◌++◌, Option, Some, None, refl, sym, ap, subst, ◌∙◌, append-nil, arith}
use Rattle.std.specs.Prelude.{is_some}
use Rattle.std.specs.List.{AllByRecursion}
use Rattle.std.specs.Map.{values_of}
use Rattle.std.specs.Ordering.{nat_cmp}
use Rattle.std.specs.Cmp.{nat_cmp_total}
use Rattle.std.specs.FinMap as map
use Rattle.std.specs.FinMap.{get-empty, len-empty, len-entries, nat_cmp-IsAntisymmetric, same_map}
use Rattle.std.proofs.lemmas.Bool.{false≢true}
use Rattle.linked_lists.specs.Lists.{without}
use Rattle.thread_slots.specs.declared.state.State.{State}
use Rattle.thread_slots.specs.declared.state.State.TheVariants.{Ready, Leased, Parked, Ended}
use Rattle.thread_slots.specs.Ready.{IsQueueOf}
use Rattle.thread_slots.specs.Slot.{Slot, changed, is_ready_at, same_state}
use Rattle.thread_slots.proofs.Kept.{IsQueueOf-changed}
use Rattle.language.proofs.Applying.{get_inserted}
use Rattle.step_eval.specs.ControlView.{ControlView}
use Rattle.commit_book.specs.declared.turn.Turn.TheVariants as turn
use Rattle.commit_book.specs.Book.{BookView, IsAtStart, IsShown}
use Rattle.commit_book.specs.Leases.{LeaseView}
use Rattle.commit_book.specs.Releases.{IsReleased, finals}
use Rattle.commit_book.specs.Turns.{IsTurn, choice_of}
use Rattle.commit_book.proofs.Threads.Choosing.{IsFound, chosen_front, found_in}
use Rattle.commit_book.proofs.Threads.Holding.{ready_not_ended}
use Rattle.commit_book.proofs.Threads.Lending.{changed_requeued, restated, shown_requeued}
use Rattle.commit_book.proofs.Acting.Meeting.{first_listed}
use Rattle.drill_text.specs.declared.order.Verb.{Verb}
use Rattle.drill_text.specs.declared.order.Verb.TheVariants.{Lease, Commit}
use Rattle.drill_text.specs.declared.script.Line.{Line}
use Rattle.lone_worker.specs.declared.worker.RunEnd.{RunEnd}
use Rattle.lone_worker.specs.declared.worker.RunEnd.TheVariants.{Quiet, Spent, Due, NoMemory}
use Rattle.lone_worker.specs.Rounds.{AreRounds, IsPlayed as IsRunOut}
use Rattle.lone_worker.specs.Rounds as rounds
use Rattle.lone_worker.specs.Running.{AreTurns, IsEndOf, none, one_more}
use Rattle.lone_worker.specs.Solo.{IsWhole}
use Rattle.lone_worker.specs.Turn.{IsTurnOf, worker}
use Rattle.lone_worker.proofs.OneStart.{start_shown}
use Rattle.schedule_drill.specs.declared.held.At.TheVariants.{Lent}
use Rattle.schedule_drill.specs.declared.held.Held.{Held}
use Rattle.schedule_drill.specs.Drilled.{ArePlayed}
use Rattle.schedule_drill.specs.Out.{Out, all_given_back}
use Rattle.schedule_drill.specs.Played.{IsCommit, IsPlayed, stand}
use Rattle.schedule_drill.specs.Solo.{IsDrilledByOne, IsForOne, for_one}
use Rattle.schedule_drill.specs.Text.{answered, done_text, lent_text, release_text}
use Rattle.schedule_drill.proofs.Playing.{played_more}
use Rattle.schedule_drill.proofs.Under.{some_and}
use Rattle.commit_book.proofs.Threads.Waiting.{get_removed}

abbrev nothing : Out
nothing = map.empty

abbrev line_of : Verb → Line
line_of verb = record { at = 0; order = for_one verb }

-- ---- a thread that is lent

ready_not_parked : (s : State) → same_state Ready s ≡ true → same_state Parked s ≡ false
ready_not_parked Ready is = refl
ready_not_parked Leased is = absurd (false≢true is)
ready_not_parked Parked is = absurd (false≢true is)
ready_not_parked Ended is = absurd (false≢true is)

module _ (old lent : BookView) (shown : IsShown old) (lease : LeaseView) (control : ControlView) (turned : IsTurn old lent worker (turn.Work lease control)) where
  abbrev t : ℕ
  t = lease.thread

  ready : IsFound old.threads t Ready
  ready = found_in old.threads t Ready (sym (shown.shows.threads.queue.ready t) ∙ first_listed t old.queue (chosen_front old (record { 0 = t }) turned.0))

  shown_leased : IsShown lent
  shown_leased =
      subst IsShown (sym turned.2) (let to_leased : Slot ControlView → Slot ControlView = λ slot. record slot { state = Leased } in
      record {
        run = shown.run;
        state = shown.state;
        shows = shown_requeued old shown.run shown.state (changed old.threads t to_leased) (without t old.queue)
            (changed_requeued old.threads t Leased ready.slot ready.found (restated Leased ready.slot refl refl (ready_not_ended ready.slot.state ready.is) (ready_not_parked ready.slot.state ready.is)))
            (subst (IsQueueOf (is_ready_at (changed old.threads t to_leased))) (append-nil (without t old.queue))
            (IsQueueOf-changed Ready old.threads old.queue t to_leased Leased (ap is_some ready.found) (λ slot. refl) shown.shows.threads.queue)) shown.shows;
      })

-- ---- the lines of a turn, and of a release

module _ (old new : BookView) (shown : IsShown old) (turned : IsTurnOf old new) where
  abbrev held : Held
  held = record { lease = turned.lease; at = Lent turned.control }

  abbrev out : Out
  out = map.insert nothing worker held

  shown_lent : IsShown turned.lent
  shown_lent = shown_leased old turned.lent shown turned.lease turned.control turned.leases

  abbrev leased_text : List ℕ
  leased_text = answered (record { verb = Lease; lease = worker }) (lent_text turned.lease)

  leased_line : IsPlayed (stand old nothing) (stand turned.lent out) (line_of Lease) leased_text
  leased_line = record {
    what = lent_text turned.lease;
    obeyed = (get-empty nat_cmp worker, record { turn = turn.Work turned.lease turned.control; taken = (turned.leases, refl); told = refl });
    written = refl;
  }

  twice : (b : Bool) → cond {A = Option Held} b None (cond b (Some held) None) ≡ None
  twice true = refl
  twice false = refl

  back : nothing ≡ map.remove out worker
  back = same_map nat_cmp_total nat_cmp-IsAntisymmetric _ _ (λ q.
      get-empty nat_cmp q
      ∙ sym (get_removed out worker q ∙ ap (cond (nat_eq q worker) None) (get_inserted nothing worker held q ∙ ap (cond (nat_eq q worker) (Some held)) (get-empty nat_cmp q)) ∙ twice (nat_eq q worker)))

  found : map.get out worker ≡ Some held
  found = get_inserted nothing worker held worker

  abbrev committed_text : List ℕ
  committed_text = answered (record { verb = Commit; lease = worker }) (done_text turned.works.done)

  committed_line : IsPlayed (stand turned.lent out) (stand new nothing) (line_of Commit) committed_text
  committed_line = record {
    what = done_text turned.works.done;
    obeyed = some_and (map.get out worker) held (IsCommit (stand turned.lent out) (stand new nothing) worker (done_text turned.works.done)) found (record {
      progress = turned.works.progress;
      done = turned.works.done;
      stepped = turned.works.advances;
      committed = turned.works.commits;
      out = back;
      told = refl;
    });
    written = refl;
  }

module _ (old new : BookView) (due : IsTurn old old worker turn.Release) (released : IsReleased old new worker) where
  abbrev released_text : List ℕ
  released_text = answered (record { verb = Lease; lease = worker }) (release_text (finals old))

  released_line : IsPlayed (stand old nothing) (stand new nothing) (line_of Lease) released_text
  released_line = record {
    what = release_text (finals old);
    obeyed = (get-empty nat_cmp worker, record { turn = turn.Release; taken = (due, released, refl); told = refl });
    written = refl;
  }

-- ---- lines of one worker, from book to book

record IsReplayed (old new : BookView) : Type 0 where
  lines : List Line
  text : List ℕ
  for_one : AllByRecursion IsForOne lines
  played : ArePlayed lines (stand old nothing) text (stand new nothing)
  shown : IsShown new

all_more : (lines : List Line) (line : Line) → AllByRecursion IsForOne lines → IsForOne line → AllByRecursion IsForOne (lines ++ line ∷ [])
all_more [] line all is = (is, tt)
all_more (l ∷ lines) line all is = (all.0, all_more lines line all.1 is)

with_turn : (first old new : BookView) → IsReplayed first old → IsTurnOf old new → IsShown new → IsReplayed first new
with_turn first old new so turned after =
    let middle = played_more so.lines (line_of Lease) (stand first nothing) (stand old nothing) (stand turned.lent (out old new so.shown turned)) so.text (leased_text old new so.shown turned)
    so.played (leased_line old new so.shown turned) (shown_lent old new so.shown turned) in
    record {
      lines = so.lines ++ line_of Lease ∷ [] ++ line_of Commit ∷ [];
      text = so.text ++ leased_text old new so.shown turned ++ committed_text old new so.shown turned;
      for_one = all_more (so.lines ++ line_of Lease ∷ []) (line_of Commit) (all_more so.lines (line_of Lease) so.for_one (inl refl)) (inr refl);
      played = played_more (so.lines ++ line_of Lease ∷ []) (line_of Commit) (stand first nothing) (stand turned.lent (out old new so.shown turned)) (stand new nothing)
          (so.text ++ leased_text old new so.shown turned) (committed_text old new so.shown turned) middle (committed_line old new so.shown turned) after;
      shown = after;
    }

with_release : (first old new : BookView) → IsReplayed first old → IsTurn old old worker turn.Release → IsReleased old new worker → IsShown new → IsReplayed first new
with_release first old new so due released after = record {
  lines = so.lines ++ line_of Lease ∷ [];
  text = so.text ++ released_text old new due released;
  for_one = all_more so.lines (line_of Lease) so.for_one (inl refl);
  played = played_more so.lines (line_of Lease) (stand first nothing) (stand old nothing) (stand new nothing) so.text (released_text old new due released) so.played (released_line old new due released) after;
  shown = after;
}

with_turns : (first old new : BookView) → IsReplayed first old → AreTurns old new → IsReplayed first new
with_turns first old _ so none = so
with_turns first old _ so (one_more {between = b} {new = x} turns turned after) = with_turn first b x (with_turns first old b so turns) turned after.shown

of_rounds : (first new : BookView) → IsShown first → AreRounds first new → IsReplayed first new
of_rounds first _ shown rounds.none = record { lines = []; text = []; for_one = tt; played = (refl, refl); shown = shown }
of_rounds first _ shown (rounds.one_more {between = b} {last = c} {new = x} before run unlent released after) =
    let so = subst (IsReplayed first) (sym run.ends.1) (with_turns first b run.last (of_rounds first b shown before) run.turns) in
    with_release first c x so (ap choice_of run.ends.1 ∙ run.ends.0, refl) released after.shown

-- ---- a whole run

whole_same : (e : RunEnd) (last new : BookView) → IsWhole e → IsEndOf e last new → new ≡ last
whole_same Quiet last new whole is = is.1
whole_same Spent last new whole is = is.1
whole_same Due last new whole is = absurd whole
whole_same NoMemory last new whole is = absurd whole

no_entry : (es : List (ℕ × Held)) → length es ≡ 0 → es ≡ []
no_entry [] is = refl
no_entry (e ∷ es) is = absurd (omega (arith, is))

none_held : map.values nothing ≡ []
none_held = ap values_of (no_entry (map.entries nothing) (sym (len-entries nothing) ∙ len-empty nat_cmp Held))

pub drilled_by_one : (e : RunEnd) (old new : BookView) → IsAtStart old → IsRunOut e old new → IsWhole e → IsDrilledByOne old.job new
drilled_by_one e old new start run whole =
    let so = subst (IsReplayed old) (sym (whole_same e run.run.last new whole run.run.ends)) (with_turns old run.last run.run.last (of_rounds old run.last (start_shown old start) run.rounds) run.run.turns) in
    record {
      script = so.lines;
      text = so.text;
      for_one = so.for_one;
      drilled = record {
        first = stand old nothing;
        last = stand new nothing;
        begins = record { start = start; of_job = refl; out = refl };
        played = so.played;
        left = sym (ap (all_given_back new) none_held);
      };
    }
