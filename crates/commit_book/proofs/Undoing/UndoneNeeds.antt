-- What the calls of an undo need, from what the book shows before it.
use Rattle.std.proofs.Common.{◌≡◌, ℕ, ◌+◌, ◌-◌, ◌<◌, ◌≤◌, Bool, true, false, cond, not, ◌&&◌, max, List, length, Option, Some, None, IsSome, refl, sym, ap, subst, ◌∙◌, arith}
use Rattle.std.specs.Prelude.{IfSome, IsSomeAnd, is_some, option_map}
use Rattle.std.specs.Option.{option_map_or}
use Rattle.std.specs.FinMap as map
use Rattle.std.specs.FinSet as set
use Rattle.std.proofs.lemmas.Bool.{false≢true}
use Rattle.stab_base.specs.declared.numbers.Seq.{Seq}
use Rattle.stab_base.specs.declared.numbers.ThreadId.{ThreadId}
use Rattle.stab_code.specs.Program.{ProgramParts}
use Rattle.stab_journal.specs.declared.event.Label.{Label}
use Rattle.stab_journal.specs.declared.event.Numbered.{Numbered}
use Rattle.stab_journal.specs.Due.{is_print}
use Rattle.stab_journal.specs.Floor.{floor}
use Rattle.stab_journal.specs.Journal.{IsLive, Journal, label_at, survivors}
use Rattle.stab_journal.specs.Label.{written}
use Rattle.stab_journal.specs.Names.{has, is_at, made}
use Rattle.stab_journal.specs.Reached.{nothing_lost, reached}
use Rattle.stab_code.specs.Valid.{IsValid}
use Rattle.thread_slots.specs.Ready.{numbers as threads_below}
use Rattle.thread_slots.specs.Slot.{Slot}
use Rattle.rendezvous.specs.Line.{Line, nobody}
use Rattle.ref_log.specs.Log.{has_write, writes_of}
use Rattle.comm_graph.specs.Node as graph
use Rattle.restore.specs.Line.{AreThere, HasSpare, IsLineOf}
use Rattle.restore.specs.declared.line.Line.TheVariants.{From}
use Rattle.restore.specs.Left.{LineMap, is_touched, put_back, without_all}
use Rattle.language.specs.Plain.{IsRun, effect_of, start}
use Rattle.language.specs.Steps.{after_steps}
use Rattle.step_eval.specs.ControlView.{ControlView, Fits, expr_of}
use Rattle.journal_laws.specs.Lost.{is_unmade}
use Rattle.journal_laws.proofs.Undone.{stands_run}
use Rattle.std.specs.FinMap.{FinMap}
use Rattle.std.specs.Ordering.{nat_cmp}
use Rattle.print_log.specs.Log.{Prints, has_print}
use Rattle.commit_book.specs.declared.parts.Parts.{Parts}
use Rattle.commit_book.specs.Book.{BookView}
use Rattle.commit_book.specs.Counted.{AreFailed}
use Rattle.commit_book.specs.Counts.{faulted_in, is_faulted_at}
use Rattle.commit_book.specs.Layout.{view_of}
use Rattle.stab_journal.specs.Numbers.{greatest, threads_by}
use Rattle.commit_book.specs.Printing.{prints_above}
use Rattle.commit_book.specs.Saved.{saved_of}
use Rattle.commit_book.specs.Striking.{MayStrike, MayStrikeAll, makes_at, prints_at}
use Rattle.commit_book.specs.TakenOut.{IsUndoing}
use Rattle.commit_book.specs.Threads.{AllControls}
use Rattle.commit_book.proofs.Undoing.LostSteps.{labelled}
use Rattle.commit_book.proofs.Keeping.Prints.{has_numbers, print_at}
use Rattle.commit_book.proofs.Keeping.RoomHere.{thread_below}
use Rattle.commit_book.proofs.Undoing.StruckSteps.{IsStepAt, kept_written, made_once, made_there, reached_at, survivor_at}
use Rattle.commit_book.proofs.Undoing.UndoneEdges.{lost_mark, marks_there, stays_above, uncut_of}
use Rattle.commit_book.proofs.Undoing.UndoneKnown.{generation_low, line_live, line_saved, touched_live}
use Rattle.commit_book.proofs.Undoing.UndoneWaiting.{nobody_waits, unmade_by}

map_there : {X Y : Type 0} (f : X → Y) (o : Option X) → is_some (option_map f o) ≡ is_some o
map_there f None = refl
map_there f (Some x) = refl

low_and : {X : Type 0} (g : X → ℕ) (n k : ℕ) (o : Option X) → IsSome o → IfSome o (λ x. g x ≤ n) → n < k → IsSomeAnd o (λ x. g x < k)
low_and g n k None there low under = absurd (false≢true there)
low_and g n k (Some x) there low under = let is : g x ≤ n = low in omega (arith, is, under)

line_there : (o : Option Line) (f : Line → Line) → is_some o ≡ true → is_some (option_map f o) ≡ true
line_there None f h = absurd (false≢true h)
line_there (Some l) f h = refl

module _ (old : Parts) (m : ℕ) (qs : List ℕ) (u : IsUndoing old m qs) where
  abbrev p : ProgramParts
  p = u.job.program

  abbrev b : BookView
  b = view_of u.job old

  abbrev gone : ℕ → Bool
  gone = has (reached u.run m)

  pub stood : IsRun u.job.program u.run u.state
  stood = (stands_run p old.history.events u.run u.state u.shows.journal.history.stands).1

  pub run_is : survivors old.history ≡ u.run
  run_is = u.shows.journal.history.left

  -- each marked node is in the graph
  pub nodes_there : AreThere old.graph.nodes qs
  nodes_there = marks_there u.run old.graph.nodes stood.rises u.shows.journal.nodes m (uncut_of u.run m u.may.revocable) qs u.marks

  -- a live thread has a number below the next one
  pub live_low : (t : ℕ) → IsSome (map.get old.slots.threads t) → t < old.slots.next
  live_low t there =
      thread_below b u.run u.state u.shows.journal t
      (sym (ap is_some (u.shows.threads.threads t)) ∙ map_there (λ (slot : Slot ControlView). expr_of p slot.control) (map.get old.slots.threads t) ∙ there)

  -- so has a thread that a marked node touches
  pub places_there : (spare : ℕ) → old.slots.next - 1 < spare → HasSpare spare old.graph.nodes qs
  places_there spare room q t is =
      let l = lost_mark u.run old.graph.nodes stood.rises u.shows.journal.nodes m (uncut_of u.run m u.may.revocable) qs u.marks (graph.touches t) q is in
      let low : t < old.slots.next = live_low t (touched_live b u.run u.state u.shows stood t l.before l.f l.after l.is (sym (l.kind.touches t) ∙ l.passes)) in
      omega (arith, low, room)

  -- no event names a later thread
  pub names_low : greatest threads_by old.history.events ≤ old.slots.next - 1
  names_low = let next : old.slots.next ≡ max 1 (greatest threads_by old.history.events) + 1 = u.shows.journal.next.thread in omega (arith, next)

  -- each reached step has a number up to that of the last event
  pub reached_low : (q : ℕ) → has (reached u.run m) q ≡ true → q ≤ length old.history.events
  reached_low q goes =
      let at = reached_at m q nothing_lost u.run goes in
      label_low q at
    where
      label_low : (q : ℕ) → IsStepAt u.run q → q ≤ length old.history.events
      label_low q at =
          let s : IsStepAt (survivors old.history) q = record { before = at.before; n = at.n; after = at.after; is = run_is ∙ at.is; number = at.number } in
          labelled q old.history.events at.n.label (survivor_at old.history q s).0

  module _ (lines : LineMap) (are : (t : ℕ) → IsLineOf old.graph.nodes qs t (map.get lines t)) where
    pub lines_live : (t : ℕ) → is_touched lines t ≡ true → IsSome (map.get old.slots.threads t)
    lines_live t at = line_live b u.run u.state u.shows stood m u.may.revocable qs u.marks lines are t at

    pub lines_low : (t : ℕ) → is_touched lines t ≡ true → t < old.slots.next
    lines_low t at = live_low t (lines_live t at)

    pub lines_young : (t : ℕ) (q : Seq) → map.get lines t ≡ Some (From q) → IsSomeAnd (map.get old.slots.threads t) (λ slot. slot.generation < 18446744073709551615)
    lines_young t q at =
        low_and (λ (slot : Slot ControlView). slot.generation) (length old.history.events) 18446744073709551615 (map.get old.slots.threads t) (lines_live t (ap is_some at)) (generation_low b u.run u.state u.shows stood t)
        (let few = u.few in omega (arith, few))

    pub lines_kept : (t : ThreadId) (q : Seq) → map.get lines t.0 ≡ Some (From q) → IsSome (saved_of old.store.controls q.0 t.0)
    lines_kept t q at = line_saved b u.run u.state u.shows stood m u.may.revocable qs u.marks lines are t.0 q.0 at

    -- the failed threads that are touched are counted
    pub failed_few : (k : ℕ) → ((q : ProgramParts) → AreFailed q old.slots.threads lines k) → k ≤ old.tallies.faulted
    failed_few k failed =
        let sum = failed p u.valid u.shows.threads.fit old.slots.next lines_low in
        let count = u.tallied.faulted in
        omega (arith, sum, count)

    -- and what is left is the count of the others
    pub failed_left : (k : ℕ) → ((q : ProgramParts) → AreFailed q old.slots.threads lines k) → (q : ProgramParts) → IsValid q → AllControls (Fits q) old.slots.threads → old.tallies.faulted ≡ faulted_in q old.slots.threads old.slots.next
        → old.tallies.faulted - k ≡ length (threads_below (λ t. is_faulted_at q old.slots.threads t && not (is_touched lines t)) old.slots.next)
    failed_left k failed q valid fit count =
        let sum = failed q valid fit old.slots.next lines_low in
        omega (arith, sum, count)

    module _ (now : FinMap nat_cmp (Slot ControlView)) (put : (t : ℕ) → map.get now t ≡ put_back (λ q. saved_of old.store.controls q t) (map.get lines t) (map.get old.slots.threads t))
        (parts : Parts) (history : parts.history ≡ old.history) (log : parts.log ≡ old.log) (printed : parts.printed ≡ old.printed)
        (waiting : (c : ℕ) → map.get parts.offers.lines c ≡ option_map (without_all (is_touched lines)) (map.get old.offers.lines c)) (withdrawn : (t : ℕ) → map.get parts.offers.offers t ≡ cond (is_touched lines t) None (map.get old.offers.offers t)) where
      -- where a reached step stands
      at_step : (q : ℕ) → has (reached u.run m) q ≡ true → IsStepAt u.run q
      at_step q goes = reached_at m q nothing_lost u.run goes

      labelled_at : (q : ℕ) (at : IsStepAt u.run q) → (label_at parts.history.events q ≡ Some at.n.label) × IsLive parts.history q
      labelled_at q at =
          let s : IsStepAt (survivors old.history) q = record { before = at.before; n = at.n; after = at.after; is = run_is ∙ at.is; number = at.number } in
          let both = survivor_at old.history q s in
          (ap (λ (j : Journal). label_at j.events q) history ∙ both.0, subst (λ (j : Journal). IsLive j q) (sym history) both.1)

      makes_it : (q c : ℕ) (at : IsStepAt u.run q) → makes_at parts.history.events q c ≡ true → is_at (made at.n.label) c ≡ true
      makes_it q c at makes = sym (ap (λ o. option_map_or (λ (l : Label). is_at (made l) c) o false) (labelled_at q at).0) ∙ makes

      over_floor : (q : ℕ) → has (reached u.run m) q ≡ true → floor u.run < q
      over_floor q goes = stays_above u.run m q stood.rises (uncut_of u.run m u.may.revocable) goes

      nobody_on : (q c : ℕ) → has (reached u.run m) q ≡ true → (at : IsStepAt u.run q) → is_at (made at.n.label) c ≡ true → map.get parts.offers.lines c ≡ Some nobody
      nobody_on q c goes at makes =
          let lost : is_unmade gone c u.run ≡ true = ap (is_unmade gone c) at.is ∙ unmade_by gone c at.before at.n at.after (ap gone at.number ∙ goes) makes in
          let there : set.contains u.state.channels c ≡ true = made_there (effect_of p) at.before (Some (start p)) at.n at.after u.state c (ap (after_steps (effect_of p) (Some (start p))) (sym at.is) ∙ stood.ends) makes in
          let before : map.contains_key old.offers.lines c ≡ true = u.shows.journal.channels c ∙ there in
          nobody_waits b u.run u.state u.shows stood m u.may.revocable qs u.marks lines are now put parts.offers waiting withdrawn c lost
          (ap is_some (waiting c) ∙ line_there (map.get old.offers.lines c) (without_all (is_touched lines)) before)

      -- a kept print is that of a step
      print_there : (q : ℕ) → has_print q old.printed.recent ≡ true → prints_at parts.history.events q ≡ true
      print_there q there =
          let among : has (prints_above (floor u.run) u.run) q ≡ true =
          ap (λ (r : List Numbered). has (prints_above (floor r) r) q) (sym run_is) ∙ ap (λ l. has l q) (sym u.prints.recent) ∙ sym (has_numbers q old.printed.recent) ∙ there in
          let s = print_at (floor u.run) u.run q among in
          ap (λ o. option_map_or is_print o false) (labelled_at q s.at).0 ∙ s.prints

      pub may_strike : (q : ℕ) → has (reached u.run m) q ≡ true → MayStrike parts q
      may_strike q goes =
          let at = at_step q goes in
          let both = labelled_at q at in
          record {
            live = both.1;
            above = subst (λ (n : ℕ). n < q) (sym (ap (λ k. k.last_cut) log ∙ u.shows.journal.writes.cut)) (over_floor q goes);
            writes = λ r.
                ap (λ k. has_write q (writes_of k r)) log ∙ ap (has_write q) (u.shows.journal.writes.writes r)
                ∙ kept_written (effect_of p) r (floor u.run) u.run (start p) u.state q at stood.rises stood.ends (over_floor q goes)
                ∙ sym (ap (λ o. option_map_or (λ (l : Label). is_at (written l) r) o false) both.0);
            prints = λ there. print_there q (ap (λ (k : Prints). has_print q k.recent) (sym printed) ∙ there);
            nobody = λ c makes. nobody_on q c goes at (makes_it q c at makes);
          }

      -- all reached steps can be struck
      pub may_strike_all : (lost : List ℕ) → ((k : ℕ) → has lost k ≡ has (reached u.run m) k) → MayStrikeAll parts lost
      may_strike_all lost same = record {
        each = λ q at. may_strike q (sym (same q) ∙ at);
        once = λ a q c first second makes_first makes_second.
            let one = at_step a (sym (same a) ∙ first) in
            let other = at_step q (sym (same q) ∙ second) in
            made_once (effect_of p) u.run (start p) u.state a q c one other stood.rises stood.ends (makes_it a c one makes_first) (makes_it q c other makes_second);
      }
