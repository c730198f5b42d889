-- A stabilize of a section above the last cut on which no pin depends: what its calls need, and what they leave.
use Rattle.std.proofs.Common.{◌≡◌, ℕ, suc, ◌+◌, ◌-◌, ◌<◌, ◌≤◌, ◌^◌, Bool, true, false, cond, nat_eq, List, [], ◌∷◌, ◌++◌, length, None, Some, refl, sym, ap, subst, ◌∙◌, length-append, arith}
use Rattle.std.specs.Prelude.{IfSome, count_by, is_some}
use Rattle.std.specs.FinMap as map
use Rattle.std.specs.FinSet.{FinSet}
use Rattle.std.specs.Ordering.{nat_cmp}
use Rattle.std.proofs.lemmas.Bool.{false≢true}
use Rattle.std.proofs.lemmas.List.Sums.{count_by-le-length}
use Rattle.stab_base.specs.declared.numbers.ThreadId.{ThreadId}
use Rattle.stab_code.specs.JobParts.{JobParts}
use Rattle.stab_code.specs.Program.{ProgramParts}
use Rattle.stab_code.specs.Valid.{IsValid}
use Rattle.stab_journal.specs.declared.event.Event.{Event}
use Rattle.stab_journal.specs.declared.event.Numbered.{Numbered}
use Rattle.stab_journal.specs.Event.{IsName, weight_of}
use Rattle.stab_journal.specs.declared.event.Label.TheVariants.{Local}
use Rattle.stab_journal.specs.Floor.{floor, is_entered, is_revocable}
use Rattle.stab_journal.specs.Journal.{Journal, label_at, survivors, survivors_from}
use Rattle.stab_journal.proofs.Surviving.{are_survivors}
use Rattle.thread_slots.specs.Slot.{Slot}
use Rattle.comm_graph.specs.Node.{Node}
use Rattle.reach_line.specs.MarkList.{numbers}
use Rattle.reach_line.specs.Reached as marks
use Rattle.restore.specs.Line.{IsMarkedAs}
use Rattle.language.specs.Plain.{IsRun, look_in}
use Rattle.language.specs.Redex.{mark}
use Rattle.step_eval.specs.declared.act.Act.TheVariants as own
use Rattle.step_eval.specs.ControlView.{ControlView, Fits, expr_of}
use Rattle.step_eval.specs.Progress.{ProgressView}
use Rattle.journal_laws.proofs.Undone.{stands_run}
use Rattle.commit_book.specs.declared.done.Outcome.TheVariants as outcome
use Rattle.commit_book.specs.declared.done.Undone.{Undone}
use Rattle.commit_book.specs.declared.counts.Tallies.{Tallies}
use Rattle.commit_book.specs.declared.parts.Parts.{Parts}
use Rattle.commit_book.specs.declared.rollback.Rollback.{Rollback}
use Rattle.commit_book.specs.Acting.{AreAsBefore, HasGoneOn, IsDone, IsLonger, IsPerformed, MayAct, MayPush, StandsAt}
use Rattle.commit_book.specs.Counts.{is_undo}
use Rattle.commit_book.specs.Doing.{offer_at}
use Rattle.commit_book.specs.Graph.{is_pinned}
use Rattle.commit_book.specs.Layout.{IsKept}
use Rattle.commit_book.specs.Leases.{LeaseView}
use Rattle.commit_book.specs.OwnSteps.{HasRoomToRead, IsRead}
use Rattle.commit_book.specs.Rows.{alone, events_by, local_of, thread}
use Rattle.commit_book.specs.TakenOut.{IsTakenOut, IsUndoing}
use Rattle.commit_book.specs.Undoing.{undo_by}
use Rattle.commit_book.proofs.Undoing.Granting.{granted, room_fewer}
use Rattle.commit_book.proofs.Keeping.ReadKept.{read_same}
use Rattle.commit_book.proofs.Keeping.ReadSteps.{read_none}
use Rattle.commit_book.proofs.Acting.RestActs.{gone_here, rest_lasts}
use Rattle.commit_book.proofs.Keeping.SameSections.{floor_more}
use Rattle.commit_book.proofs.Acting.SingleActs.{few_at, low_at, named_at}
use Rattle.commit_book.proofs.Undoing.StruckSteps.{IsStepAt, survivor_at}
use Rattle.commit_book.proofs.Undoing.LostSteps.{labelled}
use Rattle.commit_book.proofs.Undoing.UndoLasts.{entered_now, entry, may_undo, run_begun, undo_kept, undo_performed}
use Rattle.commit_book.proofs.Undoing.UndoneEdges.{IsUncut}
use Rattle.commit_book.proofs.Undoing.UndoneJournal.{survivors-undo}
use Rattle.commit_book.proofs.Undoing.UndonePins.{no_pin_reached}

-- ---- the event of an undo

-- it is no step
last_none : (es : List Event) (worker t m : ℕ) → label_at (es ++ undo_by worker t m ∷ []) (suc (length es)) ≡ None
last_none [] worker t m = refl
last_none (e ∷ es) worker t m = last_none es worker t m

-- with it all is read still
pub read_undo : (j k : Journal) (r s : Rollback) (worker t m : ℕ) → IsRead j r → r.read ≡ length j.events → k.events ≡ j.events ++ undo_by worker t m ∷ [] → k.struck ≡ j.struck → s ≡ record r { read = r.read + 1 } → IsRead k s
read_undo j k r s worker t m is all pushed struck next =
    let long : length k.events ≡ length j.events + 1 = ap length pushed ∙ length-append j.events (undo_by worker t m ∷ []) in
    let same : survivors k ≡ survivors j = ap (survivors_from k.struck 1) pushed ∙ survivors-undo k.struck 1 worker t m j.events ∙ ap (λ (x : FinSet nat_cmp). survivors_from x 1 j.events) struck in
    let is_k : IsRead k r = read_same j k r is (omega (arith, long)) same in
    let none : label_at k.events (r.read + 1) ≡ None = ap (label_at k.events) (let place : r.read + 1 ≡ suc (length j.events) = omega (arith, all) in place) ∙ ap (λ es. label_at es (suc (length j.events))) pushed ∙ last_none j.events worker t m in
    subst (IsRead k) (sym next)
    (read_none k r is_k (are_survivors k) (omega (arith, all, long)) (λ live. false≢true (sym (ap is_some none) ∙ live.step)))

-- ---- a commit at a stabilize

-- there is a thread
pub next_some : (job : JobParts) (old : Parts) (lease : LeaseView) (progress : ProgressView) → MayAct job old lease progress → 1 ≤ old.slots.next
next_some job old lease progress may = let low = low_at job old lease progress may in omega (arith, low)

module _ (job : JobParts) (old : Parts) (lease : LeaseView) (progress : ProgressView) (may : MayAct job old lease progress) (at : StandsAt job.program progress.end own.Stabilize) (m : ℕ) (marked : mark (expr_of job.program progress.end) ≡ Some m) (above : floor (survivors old.history) < m)
    (planned : Parts) (before : AreAsBefore old planned) (begins mid : Parts) (longer : IsLonger planned.history begins.history lease.worker (local_of lease.thread progress.steps)) (rest : begins ≡ record planned { history = begins.history })
    (u : ThreadId) (u_is : u.0 ≡ lease.thread) (was c : ControlView) (c_is : c ≡ progress.end) (stood : IfSome (map.get begins.slots.threads u.0) (λ (k : Slot ControlView). k.control ≡ was))
    (gone : (p : ProgramParts) → IsValid p → Fits p c → Fits p was → HasGoneOn p begins mid u.0 was c) where
  -- a stabilize offers nothing
  quiet : offer_at (look_in job.program (expr_of job.program progress.end)) ≡ None
  quiet = ap offer_at at.look

  abbrev went : HasGoneOn job.program begins mid lease.thread was progress.end
  went = (gone_here job old lease progress may quiet planned begins before longer rest mid u was c u_is c_is stood gone).1

  abbrev both : IsDone job old mid lease progress (alone None) × IsKept job mid
  both = rest_lasts job old lease progress may quiet planned begins before longer rest mid u was c u_is c_is stood gone

  abbrev kept : IsKept job mid
  kept = both.1

  abbrev run : List Numbered
  run = kept.shown.run

  runs : IsRun job.program kept.shown.run kept.shown.state
  runs = (stands_run job.program mid.history.events kept.shown.run kept.shown.state kept.shown.shows.journal.history.stands).1

  history_now : mid.history ≡ begins.history
  history_now = ap (λ (x : Parts). x.history) went.rest

  nodes_now : mid.graph.nodes ≡ planned.graph.nodes
  nodes_now = ap (λ (x : Parts). x.graph.nodes) went.rest ∙ ap (λ (x : Parts). x.graph.nodes) rest

  rollback_now : mid.rollback ≡ planned.rollback
  rollback_now = ap (λ (x : Parts). x.rollback) went.rest ∙ ap (λ (x : Parts). x.rollback) rest

  next_now : mid.slots.next ≡ planned.slots.next
  next_now = went.next ∙ ap (λ (x : Parts). x.slots.next) rest

  -- no more than one event was pushed
  long_now : length mid.history.events ≤ length planned.history.events + 1
  long_now =
      let all : length mid.history.events ≡ length planned.history.events + length (events_by lease.worker (local_of lease.thread progress.steps)) = ap (λ (j : Journal). length j.events) history_now ∙ ap length longer.events ∙ length-append planned.history.events (events_by lease.worker (local_of lease.thread progress.steps)) in
      let few : length (events_by lease.worker (local_of lease.thread progress.steps)) ≤ 1 = one_local (nat_eq progress.steps 0) in
      omega (arith, all, few)
    where
      one_local : (b : Bool) → length (events_by lease.worker (cond b [] (Local (thread lease.thread) progress.steps ∷ []))) ≤ 1
      one_local true = omega arith
      one_local false = omega arith

  few_now : length mid.history.events + 1 ≤ 4294967294
  few_now =
      let low = few_at job old lease progress may in
      let same : length planned.history.events ≡ length old.history.events = ap (λ (j : Journal). length j.events) before.history in
      let long = long_now in
      omega (arith, low, same, long)

  entered : is_entered m kept.shown.run ≡ true
  entered = entered_now job old lease progress may at m marked planned begins mid before longer rest was went both.0 kept

  above_now : floor kept.shown.run < m
  above_now =
      let same : floor kept.shown.run ≡ floor (survivors old.history) = ap floor (run_begun job old lease progress may at m marked planned begins mid before longer rest was went both.0 kept) ∙ floor_more (survivors old.history) (length old.history.events + 1) lease.thread progress.steps in
      omega (arith, same, above)

  uncut : IsUncut kept.shown.run m
  uncut = record { entered = entered; above = above_now }

  module _ (reach : marks.AreReached planned.graph.nodes m planned.rollback.marks.nodes) (free : (q : ℕ) → IsMarkedAs planned.graph.nodes planned.rollback.marks.nodes is_pinned q → ⊥) where
    marks_now : mid.rollback.marks.nodes ≡ planned.rollback.marks.nodes
    marks_now = ap (λ (r : Rollback). r.marks.nodes) rollback_now

    reach_now : marks.AreReached mid.graph.nodes m mid.rollback.marks.nodes
    reach_now = subst (λ (ns : List Node). marks.AreReached ns m mid.rollback.marks.nodes) (sym nodes_now) (subst (marks.AreReached planned.graph.nodes m) (sym marks_now) reach)

    free_now : (q : ℕ) → IsMarkedAs mid.graph.nodes mid.rollback.marks.nodes is_pinned q → ⊥
    free_now q is = free q (subst (λ (ns : List Node). IsMarkedAs ns planned.rollback.marks.nodes is_pinned q) nodes_now (subst (λ (qs : List ℕ). IsMarkedAs mid.graph.nodes qs is_pinned q) marks_now is))

    revocable : is_revocable kept.shown.run m ≡ true
    revocable =
        granted kept.shown.run m entered above_now
        (no_pin_reached kept.shown.run mid.graph.nodes runs.rises kept.shown.shows.journal.nodes m uncut mid.rollback.marks.nodes reach_now free_now)

    -- the undo can be made
    pub undoing : HasRoomToRead planned.rollback (length planned.history.events + 1) (planned.slots.next - 1) → IsUndoing mid m mid.rollback.marks.nodes
    undoing room = record {
      job = job;
      valid = kept.valid;
      run = kept.shown.run;
      state = kept.shown.state;
      thread = lease.thread;
      shows = kept.shown.shows;
      may = may_undo job old lease progress may at m marked planned begins mid before longer rest was went both.0 kept revocable;
      marks = reach_now;
      tallied = kept.tallied;
      few = let low = few_now in omega (arith, low);
      read = kept.read;
      prints = kept.prints;
      room =
          subst (λ (n : ℕ). HasRoomToRead mid.rollback (length mid.history.events) (n - 1)) (sym next_now)
          (room_fewer mid.rollback (length planned.history.events + 1) (length mid.history.events) (planned.slots.next - 1) long_now
          (subst (λ (r : Rollback). HasRoomToRead r (length planned.history.events + 1) (planned.slots.next - 1)) (sym rollback_now) room));
    }

    module _ (removed : ℕ) (out : Parts) (is : IsTakenOut mid out m removed mid.rollback.marks.nodes) where
      long_out : length out.history.events ≡ length mid.history.events
      long_out = ap length is.events

      -- what pushing its event needs
      pub spare_left : MayPush begins.history → 1 ≤ out.history.spare
      spare_left push = let same : out.history.spare ≡ begins.history.spare = is.spare ∙ ap (λ (j : Journal). j.spare) history_now in let low = push.spare in omega (arith, same, low)

      pub weight_left : MayPush begins.history → weight_of out.history.events + 1 < 2 ^ 64
      weight_left push = let same : weight_of out.history.events ≡ weight_of begins.history.events = ap weight_of is.events ∙ ap (λ (j : Journal). weight_of j.events) history_now in let low = push.weight in omega (arith, same, low)

      pub thread_named : IsName lease.thread
      thread_named = named_at job old lease progress may

      pub mark_within : (1 ≤ m) × (m ≤ length out.history.events)
      mark_within =
          let over = above_now in
          let e = entry job old lease progress may at m marked planned begins mid before longer rest was went both.0 kept in
          let s : IsStepAt (survivors mid.history) m = record { before = e.before; n = e.n; after = e.after; is = kept.shown.shows.journal.history.left ∙ e.is; number = e.number } in
          let low : m ≤ length mid.history.events = labelled m mid.history.events e.n.label (survivor_at mid.history m s).0 in
          let same = long_out in
          (omega (arith, over), omega (arith, low, same))

      pub read_low : out.rollback.read ≤ 4294967294
      read_low = let all = is.all in let same = long_out in let few = few_now in omega (arith, all, same, few)

      pub undos_low : out.tallies.undos ≤ 4294967294
      undos_low =
          let same : out.tallies.undos ≡ count_by is_undo mid.history.events = ap (λ (k : Tallies). k.undos) is.tallies ∙ kept.tallied.undos in
          let few : count_by is_undo mid.history.events ≤ length mid.history.events = count_by-le-length is_undo mid.history.events in
          let low = few_now in
          omega (arith, same, few, low)

      -- once it is pushed
      module _ (new : Parts) (history : new.history ≡ record out.history { events = out.history.events ++ undo_by lease.worker lease.thread m ∷ []; spare = out.history.spare - 1 })
          (more : new ≡ record out { history = new.history; rollback = record out.rollback { read = out.rollback.read + 1 }; tallies = record out.tallies { undos = out.tallies.undos + 1 } }) where
        pushed : new.history.events ≡ out.history.events ++ undo_by lease.worker lease.thread m ∷ []
        pushed = ap (λ (j : Journal). j.events) history

        struck : new.history.struck ≡ out.history.struck
        struck = ap (λ (j : Journal). j.struck) history

        rollback_new : new.rollback ≡ record out.rollback { read = out.rollback.read + 1 }
        rollback_new = ap (λ (x : Parts). x.rollback) more

        more_so : new ≡ record out { history = new.history; rollback = new.rollback; tallies = record out.tallies { undos = out.tallies.undos + 1 } }
        more_so = more ∙ ap (λ (r : Rollback). record out { history = new.history; rollback = r; tallies = record out.tallies { undos = out.tallies.undos + 1 } }) (sym rollback_new)

        pub taken : (u : Undone) → u.mark.0 ≡ m → u.removed ≡ removed → numbers u.marks.items ≡ planned.rollback.marks.nodes → IsPerformed job old new lease progress (outcome.Undone u)
        taken u section count listed =
            undo_performed job old lease progress may at m marked planned begins mid before longer rest was went both.0 kept revocable removed mid.rollback.marks.nodes reach_now out new is pushed struck more_so u section count (listed ∙ sym marks_now)

        pub taken_kept : IsKept job new
        taken_kept =
            undo_kept job old lease progress may at m marked planned begins mid before longer rest was went both.0 kept revocable removed mid.rollback.marks.nodes reach_now out new is pushed struck more_so
            (read_undo out.history new.history out.rollback new.rollback lease.worker lease.thread m is.read is.all pushed struck rollback_new)
