-- What the calls of an undo leave, from what they say of themselves.
use Rattle.std.proofs.Common.{◌≡◌, ℕ, ◌≤◌, Bool, true, false, cond, not, ◌&&◌, ◌||◌, List, length, None, refl, sym, ap, subst, ◌∙◌, arith}
use Rattle.std.specs.Prelude.{filter, option_map}
use Rattle.std.specs.FinMap as map
use Rattle.std.specs.FinSet as set
use Rattle.stab_base.specs.declared.numbers.Seq.{Seq}
use Rattle.stab_code.specs.Program.{ProgramParts}
use Rattle.stab_code.specs.Valid.{IsValid}
use Rattle.stab_journal.specs.declared.event.Label.{Label}
use Rattle.stab_journal.specs.declared.event.Numbered.{Numbered}
use Rattle.stab_journal.specs.Floor.{floor}
use Rattle.stab_journal.specs.Journal.{Journal, survivors, survivors_from}
use Rattle.stab_journal.specs.Label.{actors}
use Rattle.stab_journal.specs.Names.{has}
use Rattle.stab_journal.specs.Reached.{reached, rest}
use Rattle.thread_slots.specs.Ready.{numbers as threads_below}
use Rattle.ref_log.specs.Log.{Write, writes_of}
use Rattle.reach_line.specs.MarkList.{numbers}
use Rattle.reach_line.specs.Reached as marks
use Rattle.restore.specs.Line.{IsLineOf}
use Rattle.restore.specs.Left.{is_from, is_touched, put_back, requeued, unmarked, without_all}
use Rattle.language.specs.Plain.{IsRun}
use Rattle.step_eval.specs.ControlView.{Fits}
use Rattle.journal_laws.proofs.Gone.{survivors-rest}
use Rattle.own_steps.specs.Own.{steps_of}
use Rattle.print_log.specs.Log.{Print}
use Rattle.commit_book.specs.declared.counts.Tallies.{Tallies}
use Rattle.commit_book.specs.declared.parts.Parts.{Parts}
use Rattle.commit_book.specs.declared.rollback.Rollback.{Rollback}
use Rattle.commit_book.specs.Counts.{faulted_in, is_faulted_at}
use Rattle.commit_book.specs.Layout.{view_of}
use Rattle.commit_book.specs.OwnSteps.{IsGathered, IsRead, steps_within}
use Rattle.commit_book.specs.Saved.{saved_of}
use Rattle.commit_book.specs.Striking.{AllAreStruck, makes_any}
use Rattle.commit_book.specs.TakenOut.{IsTakenOut, IsUndoing}
use Rattle.commit_book.specs.Threads.{AllControls}
use Rattle.commit_book.proofs.Undoing.LostSteps.{lost_are, own_left}
use Rattle.commit_book.proofs.Undoing.UndoneEdges.{stays_above, uncut_of}
use Rattle.commit_book.proofs.Undoing.UndoneNeeds.{reached_low, run_is, stood}
use Rattle.commit_book.proofs.Undoing.UndoneParts.{floor_rest}

-- where only the plan changed
pub read_planned : (j : Journal) (r s : Rollback) → IsRead j r → s ≡ record r { plan = s.plan } → IsRead j s
read_planned j r s is same = record {
  read = subst (λ (n : ℕ). n ≤ length j.events) (sym (ap (λ (x : Rollback). x.read) same)) is.read;
  floor = ap (λ (x : Rollback). x.floor.0) same ∙ is.floor;
  cut = let f = ap (λ (x : Rollback). x.floor.0) same in let n = ap (λ (x : Rollback). x.read) same in let low = is.cut in omega (arith, f, n, low);
  own = λ t. ap (λ (x : Rollback). steps_of x.own t) same ∙ is.own t ∙ ap (λ (x : Rollback). steps_within x.floor.0 x.read (λ l. has (actors l) t) (survivors j)) (sym same);
  lost = ap (λ (x : Rollback). x.lost.items) same ∙ is.lost;
}

module _ (old : Parts) (m : ℕ) (qs : List ℕ) (u : IsUndoing old m qs) where
  abbrev gone : ℕ → Bool
  gone = has (reached u.run m)

  abbrev last : ℕ
  last = length old.history.events

  abbrev runs : IsRun u.job.program u.run u.state
  runs = stood old m qs u

  module _ (r4 r5 : Rollback) (read : IsRead old.history r4) (all : r4.read ≡ length old.history.events) (are : (t : ℕ) → IsLineOf old.graph.nodes qs t (map.get r4.plan.lines t)) (g : IsGathered r4 r5) where
    within_is : (p : Label → Bool) → steps_within r4.floor.0 r4.read p (survivors old.history) ≡ steps_within (floor u.run) (length old.history.events) p u.run
    within_is p =
        ap (λ f. steps_within f r4.read p (survivors old.history)) (read.floor ∙ ap floor (run_is old m qs u))
        ∙ ap (λ e. steps_within (floor u.run) e p (survivors old.history)) all
        ∙ ap (λ (r : List Numbered). steps_within (floor u.run) last p r) (run_is old m qs u)

    own_is : (t : ℕ) → steps_of r4.own t ≡ steps_within (floor u.run) (length old.history.events) (λ l. has (actors l) t) u.run
    own_is t = read.own t ∙ within_is (λ l. has (actors l) t)

    -- the gathered steps are the reached ones
    pub lost_all : (q : ℕ) → has (numbers r5.lost.items) q ≡ has (reached u.run m) q
    lost_all q =
        lost_are (view_of u.job old) u.run u.state u.shows runs m u.may.revocable qs u.marks r4.plan.lines are (λ t. steps_of r4.own t) last (reached_low old m qs u) own_is
        (numbers r5.lost.items) g.lost g.all q

    left_own : (t : ℕ) → steps_of r5.own t ≡ steps_within (floor u.run) (length old.history.events) (λ l. has (actors l) t) (rest (has (reached u.run m)) u.run)
    left_own t =
        g.own t
        ∙ own_left (view_of u.job old) u.run u.state u.shows runs m u.may.revocable qs u.marks r4.plan.lines are (λ t. steps_of r4.own t) last (reached_low old m qs u) own_is t

    -- ---- once they are struck

    module _ (mid struck : Parts) (removed : ℕ) (same : mid ≡ record old { slots = mid.slots; offers = mid.offers; store = mid.store; graph = mid.graph; tallies = record old.tallies { faulted = mid.tallies.faulted }; rollback = r5 }) (a : AllAreStruck mid struck (numbers r5.lost.items) removed) where
      history : mid.history ≡ old.history
      history = ap (λ (x : Parts). x.history) same

      rollback : mid.rollback ≡ r5
      rollback = ap (λ (x : Parts). x.rollback) same

      contains_now : (k : ℕ) → set.contains struck.history.struck k ≡ (has (reached u.run m) k || set.contains old.history.struck k)
      contains_now k =
          a.struck.struck k ∙ ap (λ b. b || set.contains mid.history.struck k) (a.same k ∙ lost_all k)
          ∙ ap (λ (j : Journal). has (reached u.run m) k || set.contains j.struck k) history

      events_now : struck.history.events ≡ old.history.events
      events_now = a.struck.events ∙ ap (λ (j : Journal). j.events) history

      rollback_now : struck.rollback ≡ record r5 { lost = struck.rollback.lost }
      rollback_now = ap (λ (x : Parts). x.rollback) a.struck.rest ∙ ap (λ (r : Rollback). record r { lost = struck.rollback.lost }) rollback

      -- ---- at the end

      survivors_now : survivors struck.history ≡ rest (has (reached u.run m)) u.run
      survivors_now =
          ap (survivors_from struck.history.struck 1) events_now
          ∙ survivors-rest old.history.struck struck.history.struck gone (λ k. contains_now k ∙ or_swap (gone k) (set.contains old.history.struck k)) 1 old.history.events
          ∙ ap (rest gone) (run_is old m qs u)
        where
          or_swap : (a b : Bool) → (a || b) ≡ (b || a)
          or_swap true true = refl
          or_swap true false = refl
          or_swap false true = refl
          or_swap false false = refl

      floor_now : floor (survivors struck.history) ≡ floor u.run
      floor_now = ap floor survivors_now ∙ floor_rest gone u.run 0 1 runs.rises (λ k lost. stays_above u.run m k runs.rises (uncut_of u.run m u.may.revocable) lost)

      read_new : struck.rollback.read ≡ length old.history.events
      read_new = ap (λ (r : Rollback). r.read) rollback_now ∙ g.rest.0 ∙ all

      floor_new : struck.rollback.floor.0 ≡ floor u.run
      floor_new = ap (λ (r : Rollback). r.floor.0) rollback_now ∙ ap (λ (q : Seq). q.0) g.rest.1 ∙ read.floor ∙ ap floor (run_is old m qs u)

      within_new : (p : Label → Bool) → steps_within (floor u.run) (length old.history.events) p (rest (has (reached u.run m)) u.run) ≡ steps_within struck.rollback.floor.0 struck.rollback.read p (survivors struck.history)
      within_new p =
          ap (λ f. steps_within f last p (rest gone u.run)) (sym floor_new)
          ∙ ap (λ e. steps_within struck.rollback.floor.0 e p (rest gone u.run)) (sym read_new)
          ∙ ap (steps_within struck.rollback.floor.0 struck.rollback.read p) (sym survivors_now)

      -- what was read stays read without what was struck
      pub read_undone : IsRead struck.history struck.rollback
      read_undone = record {
        read = let n = read_new in let long = ap length events_now in omega (arith, n, long);
        floor = floor_new ∙ sym floor_now;
        cut =
            let n = read_new in let f = floor_new in let low = read.cut in let before = read.floor ∙ ap floor (run_is old m qs u) in let whole = all in
            omega (arith, n, f, low, before, whole);
        own = λ t. ap (λ (r : Rollback). steps_of r.own t) rollback_now ∙ left_own t ∙ within_new (λ l. has (actors l) t);
        lost = ap (λ (r : Rollback). r.lost.items) rollback_now ∙ a.none_left;
      }

      pub all_read : struck.rollback.read ≡ length struck.history.events
      all_read = read_new ∙ sym (ap length events_now)

      -- the rest, from what the plan left
      module _ (threads : (t : ℕ) → map.get mid.slots.threads t ≡ put_back (λ q. saved_of old.store.controls q t) (map.get r4.plan.lines t) (map.get old.slots.threads t)) (queue : mid.slots.queue ≡ requeued r4.plan.lines old.slots.queue) (next : mid.slots.next ≡ old.slots.next)
          (faulted : (p : ProgramParts) → IsValid p → AllControls (Fits p) old.slots.threads → old.tallies.faulted ≡ faulted_in p old.slots.threads old.slots.next → mid.tallies.faulted ≡ length (threads_below (λ t. is_faulted_at p old.slots.threads t && not (is_touched r4.plan.lines t)) old.slots.next))
          (waiting : (c : ℕ) → map.get mid.offers.lines c ≡ option_map (without_all (is_touched r4.plan.lines)) (map.get old.offers.lines c)) (withdrawn : (t : ℕ) → map.get mid.offers.offers t ≡ cond (is_touched r4.plan.lines t) None (map.get old.offers.offers t))
          (saved : (k v : ℕ) → saved_of mid.store.controls k v ≡ cond (marks.has k qs || is_from k (map.get r4.plan.lines v)) None (saved_of old.store.controls k v)) (nodes : mid.graph.nodes ≡ unmarked qs old.graph.nodes) where
        -- how the parts that a strike leaves alone are
        struck_is : struck ≡ record mid { history = struck.history; log = struck.log; offers = struck.offers; printed = struck.printed; rollback = struck.rollback }
        struck_is = a.struck.rest ∙ ap (λ (r : Rollback). record mid { history = struck.history; log = struck.log; offers = struck.offers; printed = struck.printed; rollback = r }) (sym (ap (λ (x : Parts). x.rollback) a.struck.rest))

        new_slots : struck.slots ≡ mid.slots
        new_slots = ap (λ (x : Parts). x.slots) struck_is

        new_tallies : struck.tallies ≡ record old.tallies { faulted = mid.tallies.faulted }
        new_tallies = ap (λ (x : Parts). x.tallies) struck_is ∙ ap (λ (x : Parts). x.tallies) same

        new_faulted : struck.tallies.faulted ≡ mid.tallies.faulted
        new_faulted = ap (λ (k : Tallies). k.faulted) new_tallies

        pub taken_out : IsTakenOut old struck m removed qs
        taken_out = record {
          lines = r4.plan.lines;
          are = are;
          gone = a.qs;
          same = λ k. a.same k ∙ lost_all k ∙ ap (λ (r : List Numbered). has (reached r m) k) (sym (run_is old m qs u));
          once = a.once;
          count = a.count;
          events = events_now;
          spare = a.struck.spare ∙ ap (λ (j : Journal). j.spare) history;
          struck = λ k. a.struck.struck k ∙ ap (λ (j : Journal). has a.qs k || set.contains j.struck k) history;
          threads = λ t. ap (λ s. map.get s.threads t) new_slots ∙ threads t;
          queue = ap (λ s. s.queue) new_slots ∙ queue;
          next = ap (λ s. s.next) new_slots ∙ next;
          faulted = λ p valid fit count. new_faulted ∙ faulted p valid fit count;
          between = mid.offers;
          waiting = waiting;
          withdrawn = withdrawn;
          channels = λ c. a.struck.waiting c ∙ ap (λ (j : Journal). cond (makes_any j.events a.qs c) None (map.get mid.offers.lines c)) history;
          offers = a.struck.offers;
          writes = λ r. a.struck.writes r ∙ ap (λ (x : Parts). filter (λ (w : Write). not (has a.qs w.number)) (writes_of x.log r)) same;
          last_cut = a.struck.last_cut ∙ ap (λ (x : Parts). x.log.last_cut) same;
          saved = λ k v. ap (λ (x : Parts). saved_of x.store.controls k v) struck_is ∙ saved k v;
          nodes = ap (λ (x : Parts). x.graph.nodes) struck_is ∙ nodes;
          finals = a.struck.finals ∙ ap (λ (x : Parts). x.printed.finals) same;
          recent = a.struck.recent ∙ ap (λ (x : Parts). filter (λ (p : Print). not (has a.qs p.number)) x.printed.recent) same;
          chan = ap (λ (x : Parts). x.next_chan) struck_is ∙ ap (λ (x : Parts). x.next_chan) same;
          ref = ap (λ (x : Parts). x.next_ref) struck_is ∙ ap (λ (x : Parts). x.next_ref) same;
          tallies = new_tallies ∙ ap (λ (n : ℕ). record old.tallies { faulted = n }) (sym new_faulted);
          read = read_undone;
          all = all_read;
        }
