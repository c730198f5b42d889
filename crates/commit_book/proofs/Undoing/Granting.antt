-- Whether a stabilize is granted, and what its calls need.
use Rattle.std.proofs.Common.{◌≡◌, ℕ, zero, suc, ◌+◌, ◌<◌, ◌≤◌, true, false, not, ◌&&◌, List, [], ◌∷◌, ◌++◌, length, Option, Some, None, IsSome, refl, sym, ap, subst, ◌∙◌, arith}
use Rattle.std.specs.Prelude.{is_some, nat_lt, option_and_then, option_map, Err, IfOk, Ok, OnErr, Result}
use Rattle.std.proofs.Math.Bool.{and-false}
use Rattle.stab_base.specs.declared.numbers.Seq.{Seq}
use Rattle.stab_code.specs.JobParts.{JobParts}
use Rattle.stab_code.specs.Program.{ProgramParts}
use Rattle.stab_journal.specs.declared.event.Label.{Label}
use Rattle.stab_journal.specs.declared.event.Label.TheVariants.{Local}
use Rattle.stab_journal.specs.declared.event.Numbered.{Numbered}
use Rattle.stab_journal.specs.Event.{AreEvents, weight_of}
use Rattle.stab_journal.specs.Floor.{floor, has_pin, is_entered, is_mark_revocable, is_revocable}
use Rattle.stab_journal.specs.Journal.{Journal, survivors}
use Rattle.stab_journal.specs.Reached.{reached}
use Rattle.comm_graph.specs.Edge.{kind_of}
use Rattle.comm_graph.specs.Node.{Node}
use Rattle.reach_line.specs.Reached as marks
use Rattle.restore.specs.Line.{AreThere, IsMarkedAs}
use Rattle.language.specs.Plain.{IsRun, PlainState, effect_of, language_of, mark_in, start}
use Rattle.language.specs.Redex.{mark}
use Rattle.language.specs.Steps.{after_steps, apply}
use Rattle.language.specs.Table.{to}
use Rattle.step_eval.specs.ControlView.{expr_of}
use Rattle.step_eval.specs.Progress.{ProgressView}
use Rattle.journal_laws.proofs.Held.{entry_of}
use Rattle.journal_laws.proofs.Runs.{steps_append}
use Rattle.journal_laws.proofs.Stepping.{plain_of}
use Rattle.journal_laws.proofs.Undone.{stands_run}
use Rattle.commit_book.specs.declared.done.Outcome.{Outcome}
use Rattle.commit_book.specs.declared.parts.Parts.{Parts}
use Rattle.commit_book.specs.declared.rollback.Rollback.{Rollback}
use Rattle.commit_book.specs.Acting.{AreAsBefore, IsDoneBy, IsOutcomeOf, IsPerformed, MayAct}
use Rattle.commit_book.specs.Book.{BookView}
use Rattle.commit_book.specs.Commits.{IsCurrent, row_at}
use Rattle.commit_book.specs.Graph.{is_pinned}
use Rattle.commit_book.specs.Layout.{view_of}
use Rattle.commit_book.specs.Leases.{LeaseView}
use Rattle.commit_book.specs.Limits.{commit_reserve}
use Rattle.commit_book.specs.OwnSteps.{HasRoomToRead}
use Rattle.commit_book.specs.Rows.{thread}
use Rattle.commit_book.specs.Undoing.{begun}
use Rattle.commit_book.proofs.Acting.EffectsLocal.{local_effect, local_stands, unmoved}
use Rattle.commit_book.proofs.Keeping.Floors.{less_is, not_less}
use Rattle.commit_book.proofs.Keeping.JournalSteps.{numbered}
use Rattle.commit_book.proofs.Undoing.MarkEntered.{entered_in, mark_entered}
use Rattle.commit_book.proofs.Keeping.RoomRun.{next_rises}
use Rattle.commit_book.proofs.Keeping.SeenAfter.{kept_same, view_same}
use Rattle.commit_book.proofs.Acting.SingleActs.{stands_there}
use Rattle.commit_book.proofs.Undoing.UndoneEdges.{IsUncut, enter_node, kind_step, marks_there}
use Rattle.commit_book.proofs.Undoing.UndoneLocal.{entered_same}
use Rattle.commit_book.proofs.Undoing.UndonePins.{pin_reached}

-- the mark that was handed out
pub mark_is : (o : Option Seq) (m : Option ℕ) (q : Seq) → option_map (λ (x : Seq). x.0) o ≡ m → o ≡ Some q → m ≡ Some q.0
mark_is o m q is at = sym is ∙ ap (option_map (λ (x : Seq). x.0)) at

pub no_mark : (o : Option Seq) (m : Option ℕ) → option_map (λ (x : Seq). x.0) o ≡ m → o ≡ None → m ≡ None
no_mark o m is at = sym is ∙ ap (option_map (λ (x : Seq). x.0)) at

-- ---- what can't be granted

-- a section that was entered up to the last cut
pub held_low : (run : List Numbered) (m : Option ℕ) (q f : ℕ) → m ≡ Some q → f ≡ floor run → q ≤ f → is_mark_revocable run m ≡ false
held_low run m q f is at low =
    ap (is_mark_revocable run) is
    ∙ ap (λ b. b && not (has_pin (reached run q) run)) (ap (λ b. is_entered q run && b) (not_less (floor run) q (omega (arith, at, low))) ∙ and-false (is_entered q run))

pub held_none : (run : List Numbered) (m : Option ℕ) → m ≡ None → is_mark_revocable run m ≡ false
held_none run m is = ap (is_mark_revocable run) is

-- one on which a pin depends
pub held_pin : (run : List Numbered) (m : Option ℕ) (q : ℕ) → m ≡ Some q → has_pin (reached run q) run ≡ true → is_mark_revocable run m ≡ false
held_pin run m q is pin = ap (is_mark_revocable run) is ∙ ap (λ b. is_entered q run && nat_lt (floor run) q && not b) pin ∙ and-false (is_entered q run && nat_lt (floor run) q)

-- all else
pub granted : (run : List Numbered) (q : ℕ) → is_entered q run ≡ true → floor run < q → has_pin (reached run q) run ≡ false → is_revocable run q ≡ true
granted run q entered above free = ap (λ b. b && nat_lt (floor run) q && not (has_pin (reached run q) run)) entered ∙ ap (λ b. b && not (has_pin (reached run q) run)) (less_is (floor run) q above) ∙ ap not free

-- ---- before anything is pushed

module _ (job : JobParts) (old : Parts) (lease : LeaseView) (progress : ProgressView) (may : MayAct job old lease progress) where
  abbrev p : ProgramParts
  p = job.program

  abbrev run : List Numbered
  run = may.kept.shown.run

  abbrev s : PlainState
  s = may.kept.shown.state

  stood : IsRun job.program may.kept.shown.run may.kept.shown.state
  stood = (stands_run p old.history.events run s may.kept.shown.shows.journal.history.stands).1

  pub old_run : survivors old.history ≡ may.kept.shown.run
  old_run = may.kept.shown.shows.journal.history.left

  enters_by : (k m : ℕ) → progress.steps ≡ k → mark (expr_of job.program progress.end) ≡ Some m → is_entered m may.kept.shown.run ≡ true
  enters_by zero m none marked =
      let here : mark_in s lease.thread ≡ Some m = ap (option_and_then mark) (stands_there job old lease progress may) ∙ ap mark (sym (unmoved p s 1 (thread lease.thread) progress.steps progress.origin progress.end (stands_there job old lease progress may) may.made none)) ∙ marked in
      entered_in lease.thread m run (mark_entered p s run stood lease.thread m here)
  enters_by (suc k) m some marked =
      let q : ℕ = length old.history.events + 1 in
      let l : Label = Local (thread lease.thread) progress.steps in
      let e = to (language_of p) (expr_of p progress.end) in
      let found = local_effect p s q (thread lease.thread) progress.steps progress.origin progress.end (stands_there job old lease progress may) may.made (omega (arith, some)) in
      let later : IsRun p (run ++ numbered q l ∷ []) (apply s l e) = record {
        rises = next_rises p (view_of job old).history run s l may.kept.shown.shows.journal.history;
        ends = steps_append (effect_of p) run (numbered q l ∷ []) (Some (start p)) ∙ ap (λ o. after_steps (effect_of p) o (numbered q l ∷ [])) stood.ends ∙ plain_of (effect_of p) s q l e found refl;
      } in
      let here : mark_in (apply s l e) lease.thread ≡ Some m = ap (option_and_then mark) (local_stands p s q (thread lease.thread) progress.steps progress.origin progress.end (stands_there job old lease progress may) may.made) ∙ marked in
      sym (entered_same m run (numbered q l) refl)
      ∙ entered_in lease.thread m (run ++ numbered q l ∷ []) (mark_entered p (apply s l e) (run ++ numbered q l ∷ []) later lease.thread m here)

  -- the thread's section was entered before its pure steps
  pub entered_before : (m : ℕ) → mark (expr_of job.program progress.end) ≡ Some m → is_entered m may.kept.shown.run ≡ true
  entered_before m marked = enters_by progress.steps m refl marked

  pub uncut_before : (m : ℕ) → mark (expr_of job.program progress.end) ≡ Some m → floor (survivors old.history) < m → IsUncut may.kept.shown.run m
  uncut_before m marked above = record { entered = entered_before m marked; above = subst (λ (r : List Numbered). floor r < m) old_run above }

  -- so its entry is a node of the graph
  pub node_there : (m : ℕ) → mark (expr_of job.program progress.end) ≡ Some m → floor (survivors old.history) < m → IsSome (kind_of old.graph.nodes m)
  node_there m marked above =
      let u = uncut_before m marked above in
      let e = entry_of m run u.entered in
      let k = kind_step run old.graph.nodes stood.rises may.kept.shown.shows.journal.nodes e.n e.place.before e.place.after e.place.is (enter_node e.n.label e.enters) (subst (λ (n : ℕ). floor run < n) e.at u.above) in
      subst (λ (n : ℕ). is_some (kind_of old.graph.nodes n) ≡ true) (sym e.at) (ap is_some k.there)

  -- a marked pin holds it
  pub pinned_held : (planned : Parts) → AreAsBefore old planned → (m : ℕ) → mark (expr_of job.program progress.end) ≡ Some m → floor (survivors old.history) < m → (qs : List ℕ) → marks.AreReached planned.graph.nodes m qs
      → (q : ℕ) → IsMarkedAs planned.graph.nodes qs is_pinned q → is_mark_revocable (survivors planned.history) (mark (expr_of job.program progress.end)) ≡ false
  pinned_held planned before m marked above qs reach q is =
      let pin = pin_reached run old.graph.nodes stood.rises may.kept.shown.shows.journal.nodes m (uncut_before m marked above) qs
      (subst (λ (ns : List Node). marks.AreReached ns m qs) before.nodes reach) q (subst (λ (ns : List Node). IsMarkedAs ns qs is_pinned q) before.nodes is) in
      ap (λ (j : Journal). is_mark_revocable (survivors j) (mark (expr_of p progress.end))) before.history
      ∙ ap (λ (r : List Numbered). is_mark_revocable r (mark (expr_of p progress.end))) old_run
      ∙ held_pin run (mark (expr_of p progress.end)) m marked pin

  -- each marked node is in the graph
  pub marked_there : (planned : Parts) → AreAsBefore old planned → (m : ℕ) → mark (expr_of job.program progress.end) ≡ Some m → floor (survivors old.history) < m → (qs : List ℕ) → marks.AreReached planned.graph.nodes m qs → AreThere planned.graph.nodes qs
  marked_there planned before m marked above qs reach =
      subst (λ (ns : List Node). AreThere ns qs) (sym before.nodes)
      (marks_there run old.graph.nodes stood.rises may.kept.shown.shows.journal.nodes m (uncut_before m marked above) qs (subst (λ (ns : List Node). marks.AreReached ns m qs) before.nodes reach))

  -- ---- once there is room

  module _ (planned : Parts) (before : AreAsBefore old planned) where
    -- the same can be done
    pub may_again : MayAct job planned lease progress
    may_again = record {
      kept = kept_same job old planned before may.kept;
      limits = may.limits;
      made = may.made;
      steps = may.steps;
      current = subst (λ m. IsCurrent m lease progress.origin) (sym before.threads) may.current;
      light = subst (λ (n : ℕ). n < job.fuel + commit_reserve) (sym (ap (λ (j : Journal). weight_of j.events) before.history)) may.light;
      few = subst (λ (j : Journal). length j.events ≤ weight_of j.events) (sym before.history) may.few;
      ranges = subst (λ (j : Journal). AreEvents 1 j.events) (sym before.history) may.ranges;
    }

    -- and what is done then, is done
    pub performed_again : (new : Parts) (o : Outcome) → IsPerformed job planned new lease progress o → IsPerformed job old new lease progress o
    performed_again new o is =
        let same : view_of job planned ≡ view_of job old = view_same job old planned before in
        record {
          becomes = subst (λ (b : BookView). IsOutcomeOf (begun b lease.thread progress.steps) (row_at b lease progress) o) same is.becomes;
          done = subst (λ (b : BookView). IsDoneBy b (view_of job new) lease progress (row_at b lease progress)) same is.done;
        }

    -- where there is no memory for the rest, all is as before still
    pub before_still : (new : Parts) → AreAsBefore planned new → AreAsBefore old new
    before_still new again = record {
      history = again.history ∙ ap (λ (j : Journal). record j { spare = new.history.spare }) before.history;
      threads = again.threads ∙ before.threads;
      queue = again.queue ∙ before.queue;
      next = again.next ∙ before.next;
      offers = again.offers ∙ before.offers;
      last_cut = again.last_cut ∙ before.last_cut;
      references = again.references ∙ before.references;
      saved = again.saved ∙ before.saved;
      nodes = again.nodes ∙ before.nodes;
      finals = again.finals ∙ before.finals;
      recent = again.recent ∙ before.recent;
      chan = again.chan ∙ before.chan;
      ref = again.ref ∙ before.ref;
      tallies = again.tallies ∙ before.tallies;
      read = record {
        read = again.read.read ∙ before.read.read;
        floor = again.read.floor ∙ before.read.floor;
        own = λ t. again.read.own t ∙ before.read.own t;
        lost = again.read.lost ∙ before.read.lost;
      };
    }

    pub done_again : (new : Parts) (r : Result Outcome ProgressView) → IfOk r (λ (o : Outcome). IsPerformed job planned new lease progress o) → IfOk r (λ (o : Outcome). IsPerformed job old new lease progress o)
    done_again new (Ok o) is = performed_again new o is
    done_again new (Err g) is = tt

    pub err_again : (new : Parts) (r : Result Outcome ProgressView) → OnErr r (AreAsBefore planned new) → OnErr r (AreAsBefore old new)
    err_again new (Ok o) is = tt
    err_again new (Err g) is = before_still new is

-- room for some events is room for fewer
pub room_fewer : (r : Rollback) (events fewer last : ℕ) → fewer ≤ events → HasRoomToRead r events last → HasRoomToRead r fewer last
room_fewer r events fewer last low room = record {
  own = let is = room.own in omega (arith, is, low);
  places = room.places;
  lost = let is = room.lost in omega (arith, is, low);
  plan = room.plan;
}
