-- What a book that shows a run says of the threads that an undo touches: what carrying a plan out asks, and that its lines are the first lost steps.
use Rattle.std.proofs.Common.{◌≡◌, ℕ, suc, ◌<◌, ◌≤◌, Bool, true, false, cond, List, [], ◌∷◌, ◌++◌, Option, Some, None, IsSome, refl, sym, ap, subst, ◌∙◌, arith, length}
use Rattle.std.specs.Prelude.{IfSome, is_some, nat_lt, option_map}
use Rattle.std.specs.Ordering.{nat_cmp}
use Rattle.std.specs.FinMap as map
use Rattle.std.specs.FinMap.{FinMap}
use Rattle.std.proofs.lemmas.Bool.{false≢true}
use Rattle.stab_code.specs.Program.{ProgramParts}
use Rattle.stab_journal.specs.declared.event.Label.{Label}
use Rattle.stab_journal.specs.declared.event.Label.TheVariants.{Spawn}
use Rattle.stab_journal.specs.declared.event.Numbered.{Numbered}
use Rattle.stab_journal.specs.Floor.{floor, is_revocable}
use Rattle.stab_journal.specs.Generation.{generation}
use Rattle.stab_journal.specs.Journal.{RiseFrom}
use Rattle.stab_journal.specs.Label.{actors, spawned, touched}
use Rattle.stab_journal.specs.Names.{has, is_at}
use Rattle.stab_journal.specs.Reached.{reached}
use Rattle.thread_slots.specs.Slot.{Slot}
use Rattle.language.specs.Plain.{PlainState, IsRun, effect_of, start}
use Rattle.language.specs.Steps.{after_steps}
use Rattle.reach_line.specs.Reached as marks
use Rattle.restore.specs.declared.line.Line.{Line}
use Rattle.restore.specs.declared.line.Line.TheVariants.{From, Gone}
use Rattle.restore.specs.Line.{IsLineOf}
use Rattle.restore.specs.Left.{LineMap, is_touched, put_back}
use Rattle.journal_laws.specs.Lost.{is_hit}
use Rattle.journal_laws.specs.Surviving.{thread_of}
use Rattle.journal_laws.proofs.Gone.{order, later, itself, sooner, spawn_touches}
use Rattle.journal_laws.proofs.Held.{cuts_hold, parts_of}
use Rattle.journal_laws.proofs.Numbers.{rise_front}
use Rattle.journal_laws.proofs.Spawned.{acts_touch, unspawned}
use Rattle.journal_laws.proofs.Surviving.{some_is, some_none}
use Rattle.step_eval.specs.ControlView.{ControlView, expr_of}
use Rattle.commit_book.specs.Book.{BookView, ShowsRun, over}
use Rattle.commit_book.specs.Doing.{is_over}
use Rattle.commit_book.specs.Run.{saves, stood_at}
use Rattle.commit_book.specs.Saved.{saved_of}
use Rattle.commit_book.proofs.Keeping.EventSteps.{generation_few}
use Rattle.commit_book.proofs.Keeping.Floors.{less_is}
use Rattle.commit_book.proofs.Undoing.Undone.{line_of, untouched, unmade, from, stood_here}
use Rattle.commit_book.proofs.Undoing.UndoneLines.{carried, earlier_in, hit_here, line_untouched, line_unmade, line_from, saves_node}
use Rattle.commit_book.proofs.Undoing.UndoneStood.{before_of, saves_going, stood_going, touched_there}
use Rattle.commit_book.proofs.Undoing.UndoneThreads.{AreCarried, first_saved}

none_spawned : (l : Label) (t : ℕ) → saves l ≡ true → is_at (spawned l) t ≡ true → ⊥
none_spawned (Spawn a b) t saved spawns = false≢true saved
none_spawned _ t saved spawns = false≢true spawns

of_map : {X Y : Type 0} (f : X → Y) (o : Option X) (y : Y) → option_map f o ≡ Some y → IsSome o
of_map f None y is = absurd (some_none (sym is))
of_map f (Some x) y is = refl

of_there : {X Y : Type 0} (f : X → Y) (o : Option X) (z : Option Y) → option_map f o ≡ z → is_some z ≡ true → IsSome o
of_there f None z is there = absurd (false≢true (ap is_some is ∙ there))
of_there f (Some x) z is there = refl

module _ (old : BookView) (run : List Numbered) (s : PlainState) (shown : ShowsRun old run s) (r : IsRun old.job.program run s) where
  abbrev p : ProgramParts
  p = old.job.program

  -- no saved control is over
  pub saved_going : (q t : ℕ) → IfSome (saved_of old.saved q t) (λ c. over p c ≡ false)
  saved_going q t = elim (saved_of old.saved q t) as (λ o. saved_of old.saved q t ≡ o → IfSome o (λ c. over p c ≡ false)) [
    | None ↦ λ is. tt
    | (Some c) ↦ λ is.
        let at : Some (expr_of p c) ≡ cond (nat_lt (floor run) q) (stood_at (effect_of p) q t (Some (start p)) run) None = sym (ap (option_map (expr_of p)) is) ∙ shown.journal.saved q t in
        elim (nat_lt (floor run) q) as (λ b. Some (expr_of p c) ≡ cond b (stood_at (effect_of p) q t (Some (start p)) run) None → is_over (expr_of p c) ≡ false) [
          | true ↦ λ at. stood_going p q t run (start p) s (expr_of p c) r.ends (sym at)
          | false ↦ λ at. absurd (some_none at)
        ] at
  ] refl

  -- a thread that a step of the run touches is live
  pub touched_live : (t : ℕ) (before : List Numbered) (n : Numbered) (after : List Numbered) → run ≡ before ++ n ∷ after → has (touched n.label) t ≡ true → IsSome (map.get old.threads t)
  touched_live t before n after cut at =
      of_there (λ (slot : Slot ControlView). expr_of p slot.control) (map.get old.threads t) (map.get s.threads t) (shown.threads.threads t)
      (touched_there (effect_of p) before (Some (start p)) n after s t (ap (after_steps (effect_of p) (Some (start p))) (sym cut) ∙ r.ends) at)

  -- the control of an actor of a step that saves is saved above the last cut
  pub control_saved : (t : ℕ) (before : List Numbered) (n : Numbered) (after : List Numbered) → run ≡ before ++ n ∷ after → floor run < n.seq.0 → saves n.label ≡ true → has (actors n.label) t ≡ true → IsSome (saved_of old.saved n.seq.0 t)
  control_saved t before n after cut above saved acts =
      let b = before_of (effect_of p) before (Some (start p)) n after s (ap (after_steps (effect_of p) (Some (start p))) (sym cut) ∙ r.ends) in
      let g = saves_going p b.state n.seq.0 n.label t b.eff saved acts b.found in
      of_map (expr_of p) (saved_of old.saved n.seq.0 t) g.expr
      (shown.journal.saved n.seq.0 t
      ∙ ap (λ c. cond c (stood_at (effect_of p) n.seq.0 t (Some (start p)) run) None) (less_is (floor run) n.seq.0 above)
      ∙ ap (stood_at (effect_of p) n.seq.0 t (Some (start p))) cut
      ∙ stood_here (effect_of p) before (Some (start p)) n after 1 t (subst (λ (l : List Numbered). RiseFrom 1 l) cut r.rises) saved acts
      ∙ ap (λ o. thread_of o t) b.led
      ∙ g.found)

  module _ (m : ℕ) (revocable : is_revocable run m ≡ true) where
    abbrev gone : ℕ → Bool
    gone = has (reached run m)

    -- no lost step spawned a thread that first loses a step in which it acts
    alive : (t : ℕ) (before : List Numbered) (n : Numbered) (after : List Numbered) → run ≡ before ++ n ∷ after → is_hit gone t before ≡ false → saves n.label ≡ true → has (actors n.label) t ≡ true
        → (b : List Numbered) (e : Numbered) (a : List Numbered) → run ≡ b ++ e ∷ a → gone e.seq.0 ≡ true → is_at (spawned e.label) t ≡ true → ⊥
    alive t before n after cut miss saved acts b e a there lost spawns =
        elim (order t b e a before n after (acts_touch n.label t acts) (sym there ∙ cut)) [
          | (later between is) ↦
              let rise : RiseFrom 1 (b ++ e ∷ a) = subst (λ (l : List Numbered). RiseFrom 1 l) there r.rises in
              let back : RiseFrom (suc e.seq.0) a = tail_rises 1 b e a rise in
              let low : suc e.seq.0 ≤ n.seq.0 = rise_front (suc e.seq.0) between n after (subst (λ (l : List Numbered). RiseFrom (suc e.seq.0) l) is back) in
              let at = earlier_in 1 b e a before n after rise (sym there ∙ cut) low in
              false≢true (sym miss ∙ ap (is_hit gone t) at.is ∙ hit_here gone t at.front e at.back lost (spawn_touches e.label t spawns))
          | (itself is) ↦ none_spawned e.label t (ap (λ (k : Numbered). saves k.label) is ∙ saved) spawns
          | (sooner h) ↦ false≢true (sym (unspawned p s run r b e a t there spawns) ∙ h)
        ]
      where
        tail_rises : (q : ℕ) (xs : List Numbered) (k : Numbered) (ys : List Numbered) → RiseFrom q (xs ++ k ∷ ys) → RiseFrom (suc k.seq.0) ys
        tail_rises q [] k ys rise = rise.1
        tail_rises q (x ∷ xs) k ys rise = tail_rises (suc x.seq.0) xs k ys rise.1

    -- the first step that a thread loses, where it acts in that
    pub record IsFirst (t : ℕ) (n : Numbered) : Type 0 where
      pub saved : saves n.label ≡ true
      pub above : floor run < n.seq.0
      pub live : IsSome (map.get old.threads t)
      pub control : IsSome (saved_of old.saved n.seq.0 t)
      pub alive : (b : List Numbered) (e : Numbered) (a : List Numbered) → run ≡ b ++ e ∷ a → gone e.seq.0 ≡ true → is_at (spawned e.label) t ≡ true → ⊥

    pub first_of_thread : (t : ℕ) (before : List Numbered) (n : Numbered) (after : List Numbered) → run ≡ before ++ n ∷ after → is_hit gone t before ≡ false → gone n.seq.0 ≡ true → has (actors n.label) t ≡ true → IsFirst t n
    first_of_thread t before n after cut miss lost acts =
        let saved = first_saved run m r.rises (parts_of run m revocable).entered t before n after cut miss lost acts in
        let above = cuts_hold run m n.seq.0 r.rises revocable lost in
        record {
          saved = saved;
          above = above;
          live = touched_live t before n after cut (acts_touch n.label t acts);
          control = control_saved t before n after cut above saved acts;
          alive = alive t before n after cut miss saved acts;
        }

    module _ (qs : List ℕ) (reach : marks.AreReached old.nodes m qs) (lines : LineMap) (are : (t : ℕ) → IsLineOf old.nodes qs t (map.get lines t)) where
      -- each thread with a line is live
      pub line_live : (t : ℕ) → is_touched lines t ≡ true → IsSome (map.get old.threads t)
      line_live t at = elim (line_of gone t run) [
        | (untouched miss) ↦ absurd (false≢true (ap is_some (sym (line_untouched run old.nodes r.rises shown.journal.nodes m revocable qs reach t (map.get lines t) miss (are t))) ∙ at))
        | (unmade before n after cut miss lost there spawns) ↦ touched_live t before n after cut there
        | (from before n after cut miss lost there acts) ↦ touched_live t before n after cut there
      ]

      -- a control is saved at each line
      pub line_saved : (t q : ℕ) → map.get lines t ≡ Some (From (record { 0 = q })) → IsSome (saved_of old.saved q t)
      line_saved t q at = elim (line_of gone t run) [
        | (untouched miss) ↦ absurd (some_none (sym at ∙ line_untouched run old.nodes r.rises shown.journal.nodes m revocable qs reach t (map.get lines t) miss (are t)))
        | (unmade before n after cut miss lost there spawns) ↦ absurd (not_gone q (some_is (sym at ∙ line_unmade run old.nodes r.rises shown.journal.nodes m revocable qs reach t (map.get lines t) before n after cut lost spawns (are t))))
        | (from before n after cut miss lost there acts) ↦
            let f = first_of_thread t before n after cut miss lost acts in
            let same = some_is (sym at ∙ line_from run old.nodes r.rises shown.journal.nodes m revocable qs reach t (map.get lines t) before n after cut miss lost acts (saves_node n.label f.saved) f.alive (are t)) in
            subst (λ k. IsSome (saved_of old.saved k t)) (sym (number_of q n.seq.0 same)) f.control
      ]
        where
          not_gone : (k : ℕ) → From (record { 0 = k }) ≡ Gone → ⊥
          not_gone k h = cc

          line_number : Line → ℕ
          line_number (From k) = k.0
          line_number Gone = 0

          number_of : (k j : ℕ) → From (record { 0 = k }) ≡ From (record { 0 = j }) → k ≡ j
          number_of k j h = ap line_number h

      -- so carrying the plan out leaves the threads as an undo does
      pub carried_out : (new : FinMap nat_cmp (Slot ControlView)) → ((t : ℕ) → map.get new t ≡ put_back (λ q. saved_of old.saved q t) (map.get lines t) (map.get old.threads t)) → AreCarried gone run old.saved old.threads new
      carried_out new now =
          carried run old.nodes r.rises shown.journal.nodes m revocable qs reach old.saved old.threads new lines are now
          (λ t before n after cut miss lost acts. let f = first_of_thread t before n after cut miss lost acts in (f.live, f.control, f.alive))

  -- no thread was put back more often than there are events
  pub generation_low : (t : ℕ) → IfSome (map.get old.threads t) (λ slot. slot.generation ≤ length old.history.events)
  generation_low t = elim (map.get old.threads t) as (λ o. IfSome o (λ slot. slot.generation ≡ generation t old.history.events) → IfSome o (λ slot. slot.generation ≤ length old.history.events)) [
    | None ↦ λ is. tt
    | (Some slot) ↦ λ is. omega (arith, is, generation_few t 1 [] old.history.events 0)
  ] (shown.threads.generations t)
