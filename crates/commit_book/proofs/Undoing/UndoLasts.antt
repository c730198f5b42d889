-- A stabilize that is granted, from what its calls leave: what it does, and that the book shows it.
use Rattle.std.proofs.Common.{◌≡◌, ℕ, ◌+◌, ◌<◌, Bool, true, false, cond, not, ◌&&◌, ◌||◌, nat_eq, List, [], ◌∷◌, ◌++◌, length, Option, Some, None, IsSome, refl, sym, ap, subst, ◌∙◌, append-nil}
use Rattle.std.specs.Prelude.{IsSomeAnd, filter, is_some, option_and_then, option_map, if◌then◌else◌}
use Rattle.std.specs.FinMap as map
use Rattle.std.specs.Cmp.{nat_eq_equiv}
use Rattle.std.proofs.lemmas.Bool.{false≢true, eqb-true}
use Rattle.std.proofs.lemmas.List.Elements.{filter-append}
use Rattle.linked_lists.specs.Lists.{without}
use Rattle.stab_code.specs.JobParts.{JobParts}
use Rattle.stab_code.specs.Program.{ProgramParts}
use Rattle.stab_journal.specs.declared.event.Label.TheVariants.{Refuse}
use Rattle.stab_journal.specs.declared.event.Numbered.{Numbered}
use Rattle.stab_journal.specs.Floor.{is_entered, is_revocable}
use Rattle.stab_journal.specs.Journal.{Journal, RiseFrom, survivors}
use Rattle.stab_journal.specs.Names.{has}
use Rattle.stab_journal.specs.Reached.{reached}
use Rattle.thread_slots.specs.Slot.{Slot, restored}
use Rattle.rendezvous.specs.Line.{Line, Seen}
use Rattle.reach_line.specs.MarkList.{numbers}
use Rattle.reach_line.specs.Reached as marks
use Rattle.restore.specs.declared.line.Line as plan
use Rattle.restore.specs.declared.line.Line.TheVariants.{From, Gone}
use Rattle.restore.specs.Left.{goes_back, is_back, is_touched, others, put_back, without_all}
use Rattle.language.specs.Plain.{IsRun, look_in, mark_in, standing}
use Rattle.language.specs.Expression.{Expr}
use Rattle.language.specs.Redex.{mark}
use Rattle.language.specs.Standing.{MayUndo, is_stabilize}
use Rattle.step_eval.specs.declared.act.Act.TheVariants as own
use Rattle.step_eval.specs.ControlView.{ControlView, expr_of}
use Rattle.step_eval.specs.Progress.{ProgressView}
use Rattle.journal_laws.specs.Lost.{is_hit, is_unmade}
use Rattle.journal_laws.proofs.Undone.{stands_run}
use Rattle.commit_book.specs.declared.done.Outcome.TheVariants as outcome
use Rattle.commit_book.specs.declared.done.Undone.{Undone}
use Rattle.commit_book.specs.declared.counts.Tallies.{Tallies}
use Rattle.commit_book.specs.declared.parts.Parts.{Parts}
use Rattle.commit_book.specs.Acting.{AreAsBefore, HasGoneOn, IsDone, IsDoneBy, IsLonger, IsOutcomeOf, IsPerformed, MayAct, StandsAt, state_for}
use Rattle.commit_book.specs.Book.{BookView, over}
use Rattle.commit_book.specs.Commits.{row_at}
use Rattle.commit_book.specs.Layout.{IsKept, view_of}
use Rattle.commit_book.specs.Leases.{LeaseView}
use Rattle.commit_book.specs.OwnSteps.{IsRead}
use Rattle.commit_book.specs.Rows.{Row, alone, events_by, local_of, numbered_from, section_row, thread, undoes}
use Rattle.commit_book.specs.Saved.{saved_of}
use Rattle.commit_book.specs.TakenOut.{IsTakenOut}
use Rattle.commit_book.specs.Undoing.{IsTakenBack, IsToldOf, begun, loses_a_step, undo_by}
use Rattle.commit_book.proofs.Threads.Lending.{get-changed}
use Rattle.commit_book.proofs.Undoing.MarkEntered.{IsEntry, entered_in, mark_entered}
use Rattle.commit_book.proofs.Keeping.RoomHere.{thread_below}
use Rattle.commit_book.proofs.Acting.Rowing.{row_stabilize}
use Rattle.commit_book.proofs.Keeping.SameSections.{local_more}
use Rattle.commit_book.proofs.Acting.SingleActs.{answers, slot_at}
use Rattle.commit_book.proofs.Undoing.Undone.{from, line_of, unmade, untouched}
use Rattle.commit_book.proofs.Undoing.UndoneDone.{kept_after, lines_after, survivors_after, told}
use Rattle.commit_book.proofs.Undoing.UndoneEdges.{marks_only, uncut_of}
use Rattle.commit_book.proofs.Undoing.UndoneKnown.{first_of_thread, line_live, line_saved}
use Rattle.commit_book.proofs.Undoing.UndoneLines.{hit_here, line_from, line_unmade, line_untouched, saves_node}
use Rattle.commit_book.proofs.Undoing.UndoneTail.{tail_is}

-- ---- who is touched

others_dropped : (touched : ℕ → Bool) (t : ℕ) (queue : List ℕ) → touched t ≡ true → others touched (without t queue) ≡ others touched queue
others_dropped touched t [] at = refl
others_dropped touched t (u ∷ us) at = elim (nat_eq t u) as (λ b. nat_eq t u ≡ b → others touched (cond (not b) (u ∷ without t us) (without t us)) ≡ cond (not (touched u)) (u ∷ others touched us) (others touched us)) [
  | true ↦ λ same. others_dropped touched t us at ∙ ap (λ b. cond (not b) (u ∷ others touched us) (others touched us)) (sym (ap touched (sym (eqb-true t u same)) ∙ at))
  | false ↦ λ other. ap (λ l. cond (not (touched u)) (u ∷ l) l) (others_dropped touched t us at)
] refl

-- a queue without a thread that is touched, and the same with it at its end
others_without : (touched : ℕ → Bool) (t : ℕ) (queue : List ℕ) → touched t ≡ true → others touched (without t queue ++ t ∷ []) ≡ others touched queue
others_without touched t queue at =
    filter-append (λ u. not (touched u)) (without t queue) (t ∷ [])
    ∙ ap (λ b. others touched (without t queue) ++ cond (not b) (t ∷ []) []) at
    ∙ append-nil (others touched (without t queue))
    ∙ others_dropped touched t queue at

others_same : (f g : ℕ → Bool) → ((u : ℕ) → f u ≡ g u) → (queue : List ℕ) → others f queue ≡ others g queue
others_same f g same [] = refl
others_same f g same (u ∷ us) = ap (λ b. cond (not b) (u ∷ others f us) (others f us)) (same u) ∙ ap (λ l. cond (not (g u)) (u ∷ l) l) (others_same f g same us)

without_same : (f g : ℕ → Bool) → ((u : ℕ) → f u ≡ g u) → (o : Option Line) → option_map (without_all f) o ≡ option_map (without_all g) o
without_same f g same None = refl
without_same f g same (Some l) = λ i. Some (record { sends = others_same f g same l.sends i; receives = others_same f g same l.receives i })

-- ---- a thread that goes back by a line

back_there : {X : Type 0} (o : Option X) (c : Option ControlView) (f : ControlView → X → X) → IsSome o → IsSome c → is_some (option_and_then (λ k. option_map (f k) o) c) ≡ true
back_there None c f there kept = absurd (false≢true there)
back_there (Some x) None f there kept = absurd (false≢true kept)
back_there (Some x) (Some k) f there kept = refl

module _ (job : JobParts) (old : Parts) (lease : LeaseView) (progress : ProgressView) (may : MayAct job old lease progress) (at : StandsAt job.program progress.end own.Stabilize) (m : ℕ) (marked : mark (expr_of job.program progress.end) ≡ Some m)
    (planned begins mid : Parts) (before : AreAsBefore old planned) (longer : IsLonger planned.history begins.history lease.worker (local_of lease.thread progress.steps)) (rest : begins ≡ record planned { history = begins.history })
    (was : ControlView) (gone_on : HasGoneOn job.program begins mid lease.thread was progress.end) (moved : IsDone job old mid lease progress (alone None)) (kept : IsKept job mid) where
  abbrev p : ProgramParts
  p = job.program

  abbrev run : List Numbered
  run = kept.shown.run

  -- the run is the old one with the pure steps
  pub run_begun : kept.shown.run ≡ begun (view_of job old) lease.thread progress.steps
  run_begun =
      sym kept.shown.shows.journal.history.left
      ∙ ap (λ (k : Parts). survivors k.history) gone_on.rest
      ∙ longer.survivors
      ∙ ap (λ (j : Journal). survivors j ++ numbered_from (length j.events + 1) (local_of lease.thread progress.steps)) before.history

  stood : IsRun job.program kept.shown.run kept.shown.state
  stood = (stands_run p mid.history.events kept.shown.run kept.shown.state kept.shown.shows.journal.history.stands).1

  abbrev put_there : Slot ControlView → Slot ControlView
  put_there slot = record slot { control = progress.end; state = state_for (over job.program progress.end) }

  -- the thread stands at its stabilize
  control_now : option_map (λ (k : Slot ControlView). k.control) (map.get mid.slots.threads lease.thread) ≡ Some progress.end
  control_now =
      ap (λ x. option_map (λ (k : Slot ControlView). k.control) (map.get x lease.thread)) gone_on.threads
      ∙ ap (option_map (λ (k : Slot ControlView). k.control)) (get-changed begins.slots.threads lease.thread lease.thread put_there ∙ ap (λ b. cond b (option_map put_there (map.get begins.slots.threads lease.thread)) (map.get begins.slots.threads lease.thread)) (nat_eq_equiv.refl lease.thread))
      ∙ still (map.get begins.slots.threads lease.thread) (ap (λ (k : Parts). is_some (map.get k.slots.threads lease.thread)) rest ∙ ap (λ x. is_some (map.get x lease.thread)) before.threads ∙ ap is_some (slot_at job old lease progress may).found)
    where
      still : (o : Option (Slot ControlView)) → is_some o ≡ true → option_map (λ (k : Slot ControlView). k.control) (option_map put_there o) ≡ Some progress.end
      still None there = absurd (false≢true there)
      still (Some k) there = refl

  stands_now : standing kept.shown.state lease.thread ≡ Some (expr_of job.program progress.end)
  stands_now = sym (kept.shown.shows.threads.threads lease.thread) ∙ map_map (map.get mid.slots.threads lease.thread) ∙ ap (option_map (expr_of p)) control_now
    where
      map_map : (o : Option (Slot ControlView)) → option_map (λ (k : Slot ControlView). expr_of p k.control) o ≡ option_map (expr_of p) (option_map (λ (k : Slot ControlView). k.control) o)
      map_map None = refl
      map_map (Some k) = refl

  mark_now : mark_in kept.shown.state lease.thread ≡ Some m
  mark_now = ap (option_and_then mark) stands_now ∙ marked

  -- it entered the section
  pub entry : IsEntry lease.thread m kept.shown.run
  entry = mark_entered p kept.shown.state kept.shown.run stood lease.thread m mark_now

  pub entered_now : is_entered m kept.shown.run ≡ true
  entered_now = entered_in lease.thread m kept.shown.run entry

  module _ (revocable : is_revocable kept.shown.run m ≡ true) where
    pub may_undo : MayUndo job.program kept.shown.run kept.shown.state lease.thread m
    may_undo = record {
      at = subst (λ (o : Option Expr). IsSomeAnd o (λ e. is_stabilize (look_in p e) ≡ true)) (sym stands_now) (ap is_stabilize at.look);
      mark = mark_now;
      revocable = revocable;
    }

    -- the row is that of an undo
    row_is : row_at (view_of job old) lease progress ≡ undoes m
    row_is =
        row_stabilize (view_of job old) lease progress at
        ∙ ap (section_row (survivors old.history) lease.thread) marked
        ∙ ap (λ b. cond b (undoes m) (alone (Some (Refuse (thread lease.thread))))) (sym same_before ∙ revocable)
      where
        same_before : is_revocable kept.shown.run m ≡ is_revocable (survivors old.history) m
        same_before = ap (λ (r : List Numbered). is_revocable r m) run_begun ∙ local_more (survivors old.history) (length old.history.events + 1) lease.thread progress.steps m (subst (RiseFrom 1) run_begun stood.rises)

    module _ (removed : ℕ) (qs : List ℕ) (reach : marks.AreReached mid.graph.nodes m qs) (out new : Parts) (is : IsTakenOut mid out m removed qs)
        (pushed : new.history.events ≡ out.history.events ++ undo_by lease.worker lease.thread m ∷ []) (struck : new.history.struck ≡ out.history.struck)
        (more : new ≡ record out { history = new.history; rollback = new.rollback; tallies = record out.tallies { undos = out.tallies.undos + 1 } }) where
      low : lease.thread < mid.slots.next
      low = thread_below (view_of job mid) kept.shown.run kept.shown.state kept.shown.shows.journal lease.thread (ap is_some stands_now)

      abbrev touched : ℕ → Bool
      touched = is_touched is.lines

      -- the touched threads are those that a reached step touches
      touched_is : (u : ℕ) → is_touched is.lines u ≡ loses_a_step kept.shown.run m u
      touched_is u =
          let rise = stood.rises in
          let nodes = kept.shown.shows.journal.nodes in
          elim (line_of (has (reached run m)) u run) [
            | (untouched miss) ↦ ap is_some (line_untouched run mid.graph.nodes rise nodes m revocable qs reach u (map.get is.lines u) miss (is.are u)) ∙ sym miss
            | (unmade b n a cut miss lost touches spawns) ↦
                ap is_some (line_unmade run mid.graph.nodes rise nodes m revocable qs reach u (map.get is.lines u) b n a cut lost spawns (is.are u))
                ∙ sym (ap (is_hit (has (reached run m)) u) cut ∙ hit_here (has (reached run m)) u b n a lost touches)
            | (from b n a cut miss lost touches acts) ↦
                let f = first_of_thread (view_of job mid) run kept.shown.state kept.shown.shows stood m revocable u b n a cut miss lost acts in
                ap is_some (line_from run mid.graph.nodes rise nodes m revocable qs reach u (map.get is.lines u) b n a cut miss lost acts (saves_node n.label f.saved) f.alive (is.are u))
                ∙ sym (ap (is_hit (has (reached run m)) u) cut ∙ hit_here (has (reached run m)) u b n a lost touches)
          ]

      -- the thread itself is among them
      own_touched : is_touched is.lines lease.thread ≡ true
      own_touched =
          touched_is lease.thread
          ∙ ap (is_hit (has (reached run m)) lease.thread) entry.is
          ∙ hit_here (has (reached run m)) lease.thread entry.before entry.n entry.after (ap (has (reached run m)) entry.number ∙ itself_reached) entry.touches
        where
          itself_reached : has (reached kept.shown.run m) m ≡ true
          itself_reached = marks_only run mid.graph.nodes stood.rises kept.shown.shows.journal.nodes m (uncut_of run m revocable) qs reach m (reach.all m marks.itself)

      mid_queue : others (is_touched is.lines) mid.slots.queue ≡ others (is_touched is.lines) old.slots.queue
      mid_queue =
          ap (others touched) (gone_on.queue ∙ ap (λ q. without lease.thread q ++ (if over p progress.end then [] else lease.thread ∷ [])) (ap (λ (k : Parts). k.slots.queue) rest ∙ before.queue))
          ∙ (elim (over p progress.end) as (λ b. others touched (without lease.thread old.slots.queue ++ (if b then [] else lease.thread ∷ [])) ≡ others touched old.slots.queue) [
            | true ↦ ap (others touched) (append-nil (without lease.thread old.slots.queue)) ∙ others_dropped touched lease.thread old.slots.queue own_touched
            | false ↦ others_without touched lease.thread old.slots.queue own_touched
          ])

      threads_new : (u : ℕ) → map.get new.slots.threads u ≡ put_back (λ q. saved_of mid.store.controls q u) (map.get is.lines u) (map.get mid.slots.threads u)
      threads_new u = ap (λ (x : Parts). map.get x.slots.threads u) more ∙ is.threads u

      -- who goes back is touched, and is there then
      back_is : (u : ℕ) → (is_touched is.lines u && goes_back is.lines u) ≡ (loses_a_step kept.shown.run m u && map.contains_key new.slots.threads u)
      back_is u =
          ap (λ b. b && goes_back is.lines u) (touched_is u)
          ∙ by_line (map.get is.lines u) refl
        where
          b_mid : BookView
          b_mid = view_of job mid

          by_line : (o : Option plan.Line) → map.get is.lines u ≡ o → (loses_a_step kept.shown.run m u && is_back (map.get is.lines u)) ≡ (loses_a_step kept.shown.run m u && map.contains_key new.slots.threads u)
          by_line None at = ap (λ b. b && is_back (map.get is.lines u)) off ∙ sym (ap (λ b. b && map.contains_key new.slots.threads u) off)
            where
              off : loses_a_step kept.shown.run m u ≡ false
              off = sym (touched_is u) ∙ ap is_some at
          by_line (Some Gone) at =
              ap (λ b. loses_a_step run m u && b) (ap is_back at ∙ sym (ap is_some (threads_new u ∙ ap (λ l. put_back (λ q. saved_of mid.store.controls q u) l (map.get mid.slots.threads u)) at)))
          by_line (Some (From q)) at =
              ap (λ b. loses_a_step run m u && b) (ap is_back at ∙ sym (ap is_some (threads_new u ∙ ap (λ l. put_back (λ q. saved_of mid.store.controls q u) l (map.get mid.slots.threads u)) at)
              ∙ back_there (map.get mid.slots.threads u) (saved_of mid.store.controls q.0 u) restored
              (line_live (view_of job mid) run kept.shown.state kept.shown.shows stood m revocable qs reach is.lines is.are u (ap is_some at))
              (line_saved (view_of job mid) run kept.shown.state kept.shown.shows stood m revocable qs reach is.lines is.are u q.0 at)))

      next_new : new.slots.next ≡ mid.slots.next
      next_new = ap (λ (x : Parts). x.slots.next) more ∙ is.next

      touched_low : (u : ℕ) → is_touched is.lines u ≡ true → u < new.slots.next
      touched_low u hit =
          subst (λ (n : ℕ). u < n) (sym next_new)
          (thread_below (view_of job mid) run kept.shown.state kept.shown.shows.journal u
          (sym (ap is_some (kept.shown.shows.threads.threads u)) ∙ there (map.get mid.slots.threads u) (line_live (view_of job mid) run kept.shown.state kept.shown.shows stood m revocable qs reach is.lines is.are u hit)))
        where
          there : (o : Option (Slot ControlView)) → is_some o ≡ true → is_some (option_map (λ (k : Slot ControlView). expr_of p k.control) o) ≡ true
          there None h = absurd (false≢true h)
          there (Some k) h = refl

      offers_mid : mid.offers ≡ old.offers
      offers_mid = ap (λ (k : Parts). k.offers) gone_on.rest ∙ ap (λ (k : Parts). k.offers) rest ∙ before.offers

      pub taken_back : IsTakenBack (view_of job old) (view_of job new) lease.worker lease.thread progress.steps m (begun (view_of job old) lease.thread progress.steps)
      taken_back = subst (IsTakenBack (view_of job old) (view_of job new) lease.worker lease.thread progress.steps m) run_begun (record {
        events =
            pushed ∙ ap (λ es. es ++ undo_by lease.worker lease.thread m ∷ []) (is.events ∙ ap (λ (k : Parts). k.history.events) gone_on.rest ∙ longer.events ∙ ap (λ (j : Journal). j.events ++ events_by lease.worker (local_of lease.thread progress.steps)) before.history);
        survivors = survivors_after job mid kept lease.thread m removed lease.worker qs reach may_undo low out new is pushed struck more;
        queue =
            ap (λ (x : Parts). x.slots.queue) more ∙ is.queue
            ∙ ap (λ l. l ++ filter (goes_back is.lines) (map.keys is.lines)) (mid_queue ∙ others_same touched (loses_a_step run m) touched_is old.slots.queue)
            ∙ ap (λ l. others (loses_a_step run m) old.slots.queue ++ l) (tail_is is.lines new.slots.next (λ u. loses_a_step run m u && map.contains_key new.slots.threads u) touched_low back_is);
        untouched = untouched_stay;
        lines = λ c.
            lines_after job mid kept lease.thread m removed lease.worker qs reach may_undo low out new is pushed struck more c
            ∙ ap (cond (is_unmade (has (reached run m)) c run) None) (is.waiting c ∙ without_same touched (loses_a_step run m) touched_is (map.get mid.offers.lines c) ∙ ap (λ (o : Seen). option_map (without_all (loses_a_step run m)) (map.get o.lines c)) offers_mid);
        job = refl;
        answered = ap (λ (k : Parts). answers k.tallies) more ∙ ap (λ (k : Tallies). answers k) is.tallies ∙ moved.answered;
      })
        where
          untouched_stay : (u : ℕ) → loses_a_step kept.shown.run m u ≡ false → map.get new.slots.threads u ≡ map.get old.slots.threads u
          untouched_stay u miss =
              threads_new u
              ∙ ap (λ l. put_back (λ q. saved_of mid.store.controls q u) l (map.get mid.slots.threads u)) (line_untouched run mid.graph.nodes stood.rises kept.shown.shows.journal.nodes m revocable qs reach u (map.get is.lines u) miss (is.are u))
              ∙ moved.others u (ap (λ b. b || (b || false)) other)
            where
              other : nat_eq u lease.thread ≡ false
              other = elim (nat_eq u lease.thread) as (λ b. nat_eq u lease.thread ≡ b → b ≡ false) [
                | true ↦ λ same. absurd (false≢true (sym miss ∙ sym (touched_is u) ∙ ap (is_touched is.lines) (eqb-true u lease.thread same) ∙ own_touched))
                | false ↦ λ off. refl
              ] refl

      -- what became of the thread
      pub undo_performed : (u : Undone) → u.mark.0 ≡ m → u.removed ≡ removed → numbers u.marks.items ≡ qs → IsPerformed job old new lease progress (outcome.Undone u)
      undo_performed u section count listed = record {
        becomes =
            subst (λ (r : Row). IsOutcomeOf (begun (view_of job old) lease.thread progress.steps) r (outcome.Undone u)) (sym row_is)
            (subst (λ (r : List Numbered). IsToldOf r m u.mark u.removed (numbers u.marks.items)) run_begun
            (subst (λ (n : ℕ). IsToldOf run m u.mark n (numbers u.marks.items)) (sym count)
            (subst (IsToldOf run m u.mark removed) (sym listed)
            (told job mid kept lease.thread m removed lease.worker qs reach may_undo low out new is pushed struck more u.mark section))));
        done = subst (λ (r : Row). IsDoneBy (view_of job old) (view_of job new) lease progress r) (sym row_is) taken_back;
      }

      pub undo_kept : IsRead new.history new.rollback → IsKept job new
      undo_kept read = kept_after job mid kept lease.thread m removed lease.worker qs reach may_undo low out new is pushed struck more read
