-- What is kept of the run once the pure steps of a commit were pushed.
use Rattle.std.proofs.Common.{◌≡◌, ℕ, zero, suc, ◌+◌, ◌<◌, false, nat_eq, List, [], ◌∷◌, ◌++◌, length, Some, refl, sym, ap, subst, ◌∙◌, append-nil, arith}
use Rattle.std.specs.Prelude.{count_by}
use Rattle.stab_base.specs.declared.numbers.ThreadId.{ThreadId}
use Rattle.stab_journal.specs.declared.event.Label.TheVariants.{Local}
use Rattle.stab_journal.specs.declared.event.Numbered.{Numbered}
use Rattle.stab_journal.specs.declared.event.What.TheVariants.{Step}
use Rattle.stab_journal.specs.Due.{final_prints, released}
use Rattle.stab_journal.specs.Event.{IsLabel}
use Rattle.stab_journal.specs.Journal.{survivors}
use Rattle.stab_journal.specs.Generation.{generation}
use Rattle.stab_journal.specs.Script.{probed}
use Rattle.language.specs.Expression.{Expr}
use Rattle.language.specs.Plain.{PlainState, language_of, standing}
use Rattle.language.specs.Standing.{event}
use Rattle.language.specs.Steps.{apply}
use Rattle.language.specs.Table.{to}
use Rattle.step_eval.specs.ControlView.{ControlView, expr_of}
use Rattle.step_eval.specs.Progress.{Advances}
use Rattle.commit_book.specs.Book.{BookView, ShowsJournal}
use Rattle.commit_book.specs.Counts.{is_undo}
use Rattle.commit_book.specs.Step.{next_seq}
use Rattle.commit_book.proofs.Acting.EffectsLocal.{local_effect, local_others, local_stands, unmoved}
use Rattle.commit_book.proofs.Keeping.EventSteps.{generation_step}
use Rattle.commit_book.proofs.Keeping.JournalSteps.{journal_step, numbered}
use Rattle.commit_book.proofs.Keeping.KeptSteps.{IsPushed, local_plain, plain_step, script_now}
use Rattle.commit_book.proofs.Keeping.KeptTallies.{finals_now, probes_now, released_now, undos_now}
use Rattle.commit_book.proofs.Keeping.Room.{HasRoom, room_after, room_less}

-- so many pure steps of a thread were pushed as one event, if there are any, and nothing else changed
abbrev pub IsBegun : BookView → BookView → ℕ → ThreadId → ℕ → Type 0
IsBegun old new worker t zero = new ≡ old
IsBegun old new worker t (suc n) = IsPushed old new worker (Local t (suc n)) × (new ≡ record old { history = new.history })

-- the book with the pure steps shows a run and a state in which the thread t stands at e; else that is the state s, which the book showed before
pub record IsReady (old new : BookView) (s : PlainState) (t : ThreadId) (e : Expr) : Type 0 where
  pub run : List Numbered
  pub state : PlainState
  pub journal : ShowsJournal new run state
  pub stands : standing state t.0 ≡ Some e
  pub others : (u : ℕ) → nat_eq u t.0 ≡ false → standing state u ≡ standing s u
  pub references : state.references ≡ s.references
  pub channels : state.channels ≡ s.channels
  pub next : new.next ≡ old.next
  -- one step more can be pushed, nobody was put back and nobody probed
  pub room : HasRoom 1 new.history.events
  pub generations : (u : ℕ) → generation u new.history.events ≡ generation u old.history.events
  pub probes : length (probed new.history.events) ≡ length (probed old.history.events)
  pub finals : final_prints (survivors new.history) ≡ final_prints (survivors old.history)
  pub released : released new.history.events ≡ released old.history.events
  pub undos : count_by is_undo new.history.events ≡ count_by is_undo old.history.events

module _ (old new : BookView) (run : List Numbered) (s : PlainState) (worker : ℕ) (t : ThreadId) (shown : ShowsJournal old run s) (low : t.0 < old.next.thread) (room : HasRoom 2 old.history.events) where
  pub begun : (n : ℕ) (origin end : ControlView) → standing s t.0 ≡ Some (expr_of old.job.program origin) → Advances old.job.program origin n end → (0 < n → IsLabel (Local t n)) → IsBegun old new worker t n → IsReady old new s t (expr_of old.job.program end)
  begun zero origin end at made within is = let p = old.job.program in record {
    run = run;
    state = s;
    journal = subst (λ (b : BookView). ShowsJournal b run s) (sym is) shown;
    stands = at ∙ ap Some (sym (unmoved p s (next_seq old) t 0 origin end at made refl));
    others = λ u other. refl;
    references = refl;
    channels = refl;
    next = ap (λ b. b.next) is;
    room = subst (λ (b : BookView). HasRoom 1 b.history.events) (sym is) (room_less 1 old.history.events room);
    generations = λ u. ap (λ b. generation u b.history.events) is;
    probes = ap (λ b. length (probed b.history.events)) is;
    finals = ap (λ b. final_prints (survivors b.history)) is;
    released = ap (λ b. released b.history.events) is;
    undos = ap (λ b. count_by is_undo b.history.events) is;
  }
  begun (suc n) origin end at made within is =
      let p = old.job.program in
      let l = Local t (suc n) in
      let some : 0 < suc n = omega arith in
      let e = to (language_of p) (expr_of p end) in
      let q = next_seq old in
      record {
        run = run ++ numbered q l ∷ [];
        state = apply s l e;
        journal = journal_step old new run s worker l e shown tt (local_effect p s q t (suc n) origin end at made some) refl refl
            (plain_step old new run s worker shown l e (local_plain t (suc n)) is.0 (record { threads = (low, tt); chans = tt; refs = tt })
            (script_now old new run s worker shown l is.0 refl)
            (ap (λ b. b.printed) is.1 ∙ sym (append-nil old.printed))
            (is.1 ∙ ap (λ vs. record old { history = new.history; printed = vs }) (sym (ap (λ b. b.printed) is.1))));
        stands = local_stands p s q t (suc n) origin end at made;
        others = local_others p s q t (suc n) origin end at made;
        references = refl;
        channels = refl;
        next = ap (λ b. b.next) is.1;
        room = subst (HasRoom 1) (sym is.0.events) (room_after 1 old.history.events l room (within some) worker);
        generations = λ u. ap (generation u) is.0.events ∙ generation_step u old.history.events (event worker (Step l)) l refl;
        probes =
            let more : length (probed (old.history.events ++ event worker (Step l) ∷ [])) ≡ length (probed old.history.events) + 0 = probes_now old.history.events worker l in
            ap (λ es. length (probed es)) is.0.events ∙ omega (arith, more);
        finals = finals_now p old.history new.history run s l shown.history refl is.0.survivors;
        released = ap released is.0.events ∙ released_now old.history.events worker l;
        undos = ap (count_by is_undo) is.0.events ∙ undos_now old.history.events worker l;
      }
