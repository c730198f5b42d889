-- A thread that loses a step to an undo and is still there was put back once more.
use Rattle.std.proofs.Common.{◌≡◌, ℕ, suc, ◌<◌, Bool, true, cond, ◌&&◌, ◌||◌, List, [], ◌∷◌, ◌++◌, Some, refl, sym, ap, ◌∙◌, arith}
use Rattle.std.specs.Prelude.{option_map}
use Rattle.std.specs.FinMap as map
use Rattle.std.proofs.lemmas.Bool.{false≢true}
use Rattle.stab_code.specs.Program.{ProgramParts}
use Rattle.stab_journal.specs.declared.event.Event.{Event}
use Rattle.stab_journal.specs.declared.event.Numbered.{Numbered}
use Rattle.stab_journal.specs.Generation.{acts_in, generation}
use Rattle.stab_journal.specs.Label.{actors}
use Rattle.stab_journal.specs.Names.{has}
use Rattle.stab_journal.specs.Reached.{nothing_lost, reached, without_reached}
use Rattle.stab_journal.specs.Surviving.{run_of}
use Rattle.thread_slots.specs.Slot.{Slot}
use Rattle.language.specs.Plain.{IsRun, PlainState, end_of}
use Rattle.journal_laws.specs.Lost.{is_hit}
use Rattle.journal_laws.specs.Surviving.{Survives}
use Rattle.journal_laws.proofs.Chains.{or_right, upward}
use Rattle.journal_laws.proofs.Reaching.{reached_by}
use Rattle.journal_laws.proofs.Runs.{survivor}
use Rattle.journal_laws.proofs.Surviving.{some_is, some_none}
use Rattle.journal_laws.proofs.Undone.{stands_run}
use Rattle.step_eval.specs.ControlView.{ControlView, expr_of}
use Rattle.commit_book.specs.Book.{BookView, IsShown}
use Rattle.commit_book.specs.Undoing.{IsTakenBack, begun, loses_a_step, undo_by}
use Rattle.commit_book.proofs.Keeping.EventSteps.{generation_snoc}
use Rattle.commit_book.proofs.Undoing.Undone.{from, line_of, unmade, untouched}
use Rattle.lone_worker.proofs.OwnSection.{IsUndoable, left, locals, may, run_begun}
use Rattle.schedule_drill.proofs.Growing.{generation_grows}

-- a thread that acts in a step that goes
acts_here : (gone : ℕ → Bool) (t : ℕ) (before : List Numbered) (n : Numbered) (after : List Numbered) → gone n.seq.0 ≡ true → has (actors n.label) t ≡ true → acts_in gone t (before ++ n ∷ after) ≡ true
acts_here gone t [] n after goes acts = ap (λ b. (b && has (actors n.label) t) || acts_in gone t after) goes ∙ ap (λ b. b || acts_in gone t after) acts
acts_here gone t (k ∷ before) n after goes acts = or_right (gone k.seq.0 && has (actors k.label) t) _ (acts_here gone t before n after goes acts)

module _ (old new : BookView) (w t n m : ℕ) (shown : IsShown old) (shown_new : IsShown new) (taken : IsTakenBack old (record new { answered = old.answered }) w t n m (begun old t n)) where
  abbrev p : ProgramParts
  p = new.job.program

  -- the events before the undo
  abbrev es : List Event
  es = old.history.events ++ locals w t n

  undoable : IsUndoable p es t m
  undoable = may old new w t n m shown shown_new taken

  abbrev run : List Numbered
  run = undoable.run

  abbrev gone : ℕ → Bool
  gone = has (reached run m)

  stood : (run ≡ run_of es) × IsRun p run undoable.state
  stood = stands_run p es run undoable.state undoable.stands

  begun_is : begun old t n ≡ run
  begun_is = run_begun old w t n (left old new w t n m shown shown_new taken) ∙ sym stood.0

  law : Survives p gone run undoable.state
  law = survivor p gone run undoable.state (upward m gone nothing_lost run (reached_by m gone run nothing_lost 1 stood.1.rises (λ k le. refl))) stood.1

  -- the law leads to the state that is shown
  ends : law.at ≡ shown_new.state
  ends =
      some_is (sym law.lawful.run
      ∙ ap (end_of p) (ap (without_reached m) (sym begun_is) ∙ sym taken.survivors ∙ shown_new.shows.journal.history.left)
      ∙ (stands_run p new.history.events shown_new.run shown_new.state shown_new.shows.journal.history.stands).1.ends)

  acts_back : (u : ℕ) → is_hit gone u run ≡ true → (slot : Slot ControlView) → map.get new.threads u ≡ Some slot → acts_in gone u run ≡ true
  acts_back u hit slot found = elim (line_of gone u run) [
    | (untouched miss) ↦ absurd (false≢true (sym miss ∙ hit))
    | (unmade before k after cut miss goes at spawns) ↦
        absurd (some_none (sym (ap (option_map (λ (s : Slot ControlView). expr_of p s.control)) found) ∙ shown_new.shows.threads.threads u
        ∙ ap (λ (s : PlainState). map.get s.threads u) (sym ends) ∙ law.unspawned u before k after cut goes spawns))
    | (from before k after cut miss goes at acts) ↦ ap (acts_in gone u) cut ∙ acts_here gone u before k after goes acts
  ]

  once_more : (u : ℕ) → acts_in gone u run ≡ true → generation u new.history.events ≡ suc (generation u es)
  once_more u is =
      ap (generation u) taken.events ∙ generation_snoc u 1 [] es (undo_by w t m) 0
      ∙ ap (λ b. cond b (suc (generation u es)) (generation u es)) (ap (λ r. acts_in (has (reached r m)) u r) (sym stood.0) ∙ is)

  pub raised : (u : ℕ) → loses_a_step (begun old t n) m u ≡ true → (slot : Slot ControlView) → map.get new.threads u ≡ Some slot → generation u old.history.events < generation u new.history.events
  raised u hit slot found =
      let more = once_more u (acts_back u (ap (λ r. loses_a_step r m u) (sym begun_is) ∙ hit) slot found) in
      let g = generation_grows u old.history.events (locals w t n) in
      omega (arith, more, g)
