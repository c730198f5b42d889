-- A book after an undo, put together: its threads, their generations, states, queue and offers.
use Rattle.std.proofs.Common.{◌≡◌, ◌⊎◌, inl, inr, ℕ, Bool, true, false, cond, not, ◌&&◌, List, [], Option, Some, None, refl, sym, ap, subst, ◌∙◌}
use Rattle.std.specs.Prelude.{IfSome, is_some, nat_eq, option_and_then, option_map, unwrap_or}
use Rattle.std.specs.List.{IsDistinct}
use Rattle.std.specs.Ordering.{nat_cmp}
use Rattle.std.specs.FinMap as map
use Rattle.std.specs.FinMap.{FinMap}
use Rattle.std.specs.FinSet as set
use Rattle.std.proofs.lemmas.Bool.{false≢true}
use Rattle.std.proofs.Math.Bool.{and-false}
use Rattle.stab_code.specs.JobParts.{JobParts}
use Rattle.stab_journal.specs.declared.event.Event.{Event}
use Rattle.stab_journal.specs.declared.event.Numbered.{Numbered}
use Rattle.stab_journal.specs.Names.{has}
use Rattle.stab_journal.specs.Reached.{reached, without_reached}
use Rattle.thread_slots.specs.Slot.{Slot, restored}
use Rattle.rendezvous.specs.declared.offer.Offer.{Offer}
use Rattle.rendezvous.specs.Line.{Line, Seen, nobody, LineBacked}
use Rattle.language.specs.Plain.{PlainState, effect_of, start}
use Rattle.language.specs.Standing.{MayUndo}
use Rattle.reach_line.specs.Reached as marks
use Rattle.restore.specs.declared.line.Line as plan
use Rattle.restore.specs.declared.line.Line.TheVariants.{From, Gone}
use Rattle.restore.specs.Line.{IsLineOf}
use Rattle.restore.specs.Left.{LineMap, is_touched, put_back, requeued, without_all}
use Rattle.journal_laws.specs.Lost.{is_unmade}
use Rattle.journal_laws.proofs.Undone.{stands_run}
use Rattle.step_eval.specs.ControlView.{Fits, RedexIsFound, expr_of}
use Rattle.commit_book.specs.Book.{BookView, ShowsRun, ShowsThreads, offered, over}
use Rattle.commit_book.specs.Doing.{waits_with}
use Rattle.commit_book.specs.Generations.{AreGenerations}
use Rattle.commit_book.specs.Offers.{AreOffers}
use Rattle.commit_book.specs.Saved.{saved_of}
use Rattle.commit_book.specs.Threads.{AreThreads}
use Rattle.commit_book.proofs.Acting.EffectsHeld.{known_at}
use Rattle.commit_book.proofs.Undoing.Undone.{threads_undone}
use Rattle.commit_book.proofs.Undoing.UndoneJournal.{IsUndoOf, Undone, undo_journal}
use Rattle.commit_book.proofs.Undoing.UndoneKnown.{carried_out, first_of_thread, line_saved, line_live, saved_going}
use Rattle.commit_book.proofs.Undoing.UndoneOffers.{offers_withdrawn, nobody_left}
use Rattle.commit_book.proofs.Undoing.UndoneQueue.{queue_undone}
use Rattle.commit_book.proofs.Undoing.UndoneThreads.{AreCarried, fit_undone, parked_undone, doing_undone, restored_undone, generations_undone}

-- ---- channels on which nobody waits are removed

line_or_nobody : (o : Option Line) → (is_some o ≡ true → o ≡ Some nobody) → (o ≡ None) ⊎ (o ≡ Some nobody)
line_or_nobody None empty = inl refl
line_or_nobody (Some l) empty = inr (empty refl)

module _ {C : Type 0} (offer_of : C → Option Offer) (threads : FinMap nat_cmp (Slot C)) (before after : Seen) (lost : ℕ → Bool) where
  -- the lost channels, on which nobody waits, are removed, and the others are as before
  pub record AreUnmade : Type 0 where
    pub empty : (c : ℕ) → lost c ≡ true → map.contains_key before.lines c ≡ true → map.get before.lines c ≡ Some nobody
    pub lines : (c : ℕ) → map.get after.lines c ≡ cond (lost c) None (map.get before.lines c)
    pub offers : after.offers ≡ before.offers

  line_left : (P : Option Line → Type 0) → AreUnmade → (c : ℕ) → P (map.get before.lines c) → (P (Some nobody) → P None) → P (map.get after.lines c)
  line_left P is c here gone =
      subst P (sym (is.lines c))
      (elim (lost c) as (λ b. lost c ≡ b → P (cond b None (map.get before.lines c))) [
        | true ↦ λ at. elim (line_or_nobody (map.get before.lines c) (is.empty c at)) [
          | (inl none) ↦ subst P none here
          | (inr some) ↦ gone (subst P some here)
        ]
        | false ↦ λ at. here
      ] refl)

  pub offers_unmade_all : AreUnmade → AreOffers offer_of threads before → AreOffers offer_of threads after
  offers_unmade_all is shown = record {
    each = λ t. ap (λ m. map.get m t) is.offers ∙ shown.each t;
    lines = record {
      backed = λ c t.
          subst (λ (o : Option Offer). LineBacked c t o (map.get after.lines c)) (sym (ap (λ m. map.get m t) is.offers))
          (line_left (λ l. LineBacked c t (map.get before.offers t) l) is c (shown.lines.backed c t) (λ b. (sym b.0, sym b.1)));
      once = λ c. line_left (λ l. IfSome l (λ l. IsDistinct nat_eq l.sends × IsDistinct nat_eq l.receives)) is c (shown.lines.once c) (λ b. tt);
    };
    one_side = λ c. line_left (λ l. ((unwrap_or l nobody).sends ≡ []) ⊎ ((unwrap_or l nobody).receives ≡ [])) is c (shown.one_side c) (λ b. inl refl);
  }

-- ---- who is touched waits no more

module _ {C : Type 0} (offer_of : C → Option Offer) (saved : ℕ → Option C) where
  waits_none : (control : Option C) (slot : Option (Slot C)) → option_and_then (waits_with offer_of) (option_and_then (λ c. option_map (restored c) slot) control) ≡ None
  waits_none None slot = refl
  waits_none (Some c) None = refl
  waits_none (Some c) (Some s) = refl

  pub touched_waits : (line : Option plan.Line) (slot new : Option (Slot C)) → new ≡ put_back saved line slot → is_some line ≡ true → option_and_then (waits_with offer_of) new ≡ None
  touched_waits None slot new is touched = absurd (false≢true touched)
  touched_waits (Some Gone) slot new is touched = ap (option_and_then (waits_with offer_of)) is
  touched_waits (Some (From q)) slot new is touched = ap (option_and_then (waits_with offer_of)) is ∙ waits_none (saved q.0) slot

  pub untouched_stays : (line : Option plan.Line) (slot new : Option (Slot C)) → new ≡ put_back saved line slot → is_some line ≡ false → new ≡ slot
  untouched_stays None slot new is miss = is
  untouched_stays (Some l) slot new is miss = absurd (false≢true (sym miss))

-- ---- the book

-- the plan with these lines was carried out, and the channels were removed whose making was taken away
pub record IsCarriedOut (old new : BookView) (run : List Numbered) (m : ℕ) (lines : LineMap) : Type 0 where
  pub threads : (t : ℕ) → map.get new.threads t ≡ put_back (λ q. saved_of old.saved q t) (map.get lines t) (map.get old.threads t)
  pub queue : new.queue ≡ requeued lines old.queue
  pub between : Seen
  pub waiting : (c : ℕ) → map.get between.lines c ≡ option_map (without_all (is_touched lines)) (map.get old.offers.lines c)
  pub withdrawn : (t : ℕ) → map.get between.offers t ≡ cond (is_touched lines t) None (map.get old.offers.offers t)
  pub channels : (c : ℕ) → map.get new.offers.lines c ≡ cond (is_unmade (has (reached run m)) c run) None (map.get between.lines c)
  pub offers : new.offers.offers ≡ between.offers

shows_same : (old new : BookView) (s : PlainState) → new.job ≡ old.job → ShowsThreads (record new { job = old.job }) s → ShowsThreads new s
shows_same old new s is shown = subst (λ (j : JobParts). ShowsThreads (record new { job = j }) s) (sym is) shown

module _ (old new : BookView) (run : List Numbered) (s : PlainState) (worker t m : ℕ) (shown : ShowsRun old run s) (may : MayUndo old.job.program run s t m) (is : IsUndoOf old new run worker t m) (qs : List ℕ) (reach : marks.AreReached old.nodes m qs)
    (lines : LineMap) (are : (u : ℕ) → IsLineOf old.nodes qs u (map.get lines u)) (did : IsCarriedOut old new run m lines) where
  pub undone : Undone old new run s m
  undone = undo_journal old new run s worker t m shown.journal may is

  -- the threads, and what follows from where they stand
  pub undo_threads : ShowsThreads new undone.at
  undo_threads =
      let p = old.job.program in
      let gone : ℕ → Bool = has (reached run m) in
      let stood = stands_run p old.history.events run s shown.journal.history.stands in
      let carried : AreCarried gone run old.saved old.threads new.threads = carried_out old run s shown stood.1 m may.revocable qs reach lines are new.threads did.threads in
      let threads : AreThreads (expr_of p) new.threads undone.at =
      threads_undone (expr_of p) (effect_of p) gone (start p) s undone.at run old.saved old.threads new.threads 1 stood.1.rises undone.lawful undone.unspawned
      (λ u before n after cut miss lost acts. let f = first_of_thread old run s shown stood.1 m may.revocable u before n after cut miss lost acts in (f.saved, f.above))
      shown.threads.threads shown.journal.saved (restored_undone gone run old.saved old.threads new.threads (expr_of p) (effect_of p) carried) in
      let withdrawn : AreOffers (offered p) new.threads did.between =
      offers_withdrawn (is_touched lines) (offered p) old.threads new.threads old.offers did.between
      (record {
        lines = did.waiting;
        offers = did.withdrawn;
        gone = λ u touched. touched_waits (offered p) (λ q. saved_of old.saved q u) (map.get lines u) (map.get old.threads u) (map.get new.threads u) (did.threads u) touched;
        stay = λ u miss. untouched_stays (offered p) (λ q. saved_of old.saved q u) (map.get lines u) (map.get old.threads u) (map.get new.threads u) (did.threads u) miss;
      }) shown.threads.offers in
      let known = known_at new.job.program new.history.events (without_reached m run) undone.at undone.shows.history.stands in
      shows_same old new undone.at is.job (record {
        threads = threads;
        fit = fit_undone gone run old.saved old.threads new.threads (Fits p) carried shown.journal.saved_fit shown.threads.fit;
        generations =
            subst (λ (es : List Event). AreGenerations new.threads es) (sym is.events)
            (generations_undone old.history.events worker t m old.saved old.threads new.threads
            (subst (λ (r : List Numbered). AreCarried (has (reached r m)) r old.saved old.threads new.threads) stood.0 carried) shown.threads.generations);
        doing = doing_undone gone run old.saved old.threads new.threads (over p) (offered p) carried (λ u before n after cut lost acts. saved_going old run s shown stood.1 n.seq.0 u) shown.threads.doing;
        queue = queue_undone lines (λ q u. saved_of old.saved q u) old.threads new.threads did.threads old.queue new.queue shown.threads.queue
            (λ u q at. (line_live old run s shown stood.1 m may.revocable qs reach lines are u (ap is_some at), line_saved old run s shown stood.1 m may.revocable qs reach lines are u q at)) did.queue;
        offers = offers_unmade_all (offered p) new.threads did.between new.offers (λ c. is_unmade gone c run)
            (record {
              empty = λ c lost there. nobody_left p (expr_of p) c undone.at new.threads did.between known threads withdrawn (undone.lawful.channels c ∙ ap (λ b. set.contains s.channels c && not b) lost ∙ and-false (set.contains s.channels c)) there;
              lines = did.channels;
              offers = did.offers;
            }) withdrawn;
        found = parked_undone gone run old.saved old.threads new.threads RedexIsFound carried shown.threads.found;
      })

  -- the book shows what is left of the run
  pub undo_shows : ShowsRun new (without_reached m run) undone.at
  undo_shows = record { journal = undone.shows; threads = undo_threads }
