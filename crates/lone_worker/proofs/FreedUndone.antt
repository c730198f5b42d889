-- After an undo those that lost a step have no lease, and the others have what they had.
use Rattle.std.proofs.Common.{◌≡◌, ℕ, zero, suc, ◌<◌, Bool, true, false, ◌&&◌, ◌||◌, nat_eq, List, [], ◌∷◌, Option, Some, None, refl, sym, ap, ◌∙◌, arith}
use Rattle.std.specs.Prelude.{is_some, if◌then◌else◌}
use Rattle.std.specs.Option.{option_map_or}
use Rattle.std.specs.FinMap as map
use Rattle.std.proofs.lemmas.Bool.{false≢true, eqb-true}
use Rattle.std.proofs.lemmas.Bool.Decides.{nat_tests}
use Rattle.std.proofs.lemmas.List.Folds.{list_any-append}
use Rattle.linked_lists.specs.Lists.{is_listed}
use Rattle.stab_journal.specs.declared.event.Numbered.{Numbered}
use Rattle.thread_slots.specs.declared.state.State.TheVariants.{Ready, Leased}
use Rattle.thread_slots.specs.Ready.{numbers}
use Rattle.thread_slots.specs.Slot.{Slot, same_state, is_in}
use Rattle.restore.specs.Left.{others}
use Rattle.step_eval.specs.ControlView.{ControlView}
use Rattle.commit_book.specs.Book.{BookView, IsShown}
use Rattle.commit_book.specs.Counts.{in_state}
use Rattle.commit_book.specs.Leases.{LeaseView}
use Rattle.commit_book.specs.Undoing.{IsTakenBack, begun, loses_a_step}
use Rattle.commit_book.proofs.Threads.Holding.{low, none_counted, not_true, ready_not_leased}
use Rattle.lone_worker.specs.Turn.{IsLentAlone}
use Rattle.lone_worker.proofs.Freed.{in_other}
use Rattle.lone_worker.proofs.OwnSection.{own_touched}

or_true : (b : Bool) → (b || true) ≡ true
or_true true = refl
or_true false = refl

below : (u n : ℕ) → u < suc n → nat_eq u n ≡ false → u < n
below u n under other = grind (arith, nat_tests)

-- who is below n and passes
in_numbers : (p : ℕ → Bool) (n u : ℕ) → u < n → p u ≡ true → is_listed u (numbers p n) ≡ true
in_numbers p zero u under passes = absurd (omega (arith, under))
in_numbers p (suc n) u under passes = list_any-append (nat_eq u) (numbers p n) (if p n then n ∷ [] else []) ∙ by (nat_eq u n) refl (λ under. in_numbers p n u under passes)
  where
    by : (b : Bool) → nat_eq u n ≡ b → (u < n → is_listed u (numbers p n) ≡ true) → (is_listed u (numbers p n) || is_listed u (if p n then n ∷ [] else [])) ≡ true
    by true same deeper =
        let here : p n ≡ true = ap p (sym (eqb-true u n same)) ∙ passes in
        ap (λ b. is_listed u (numbers p n) || is_listed u (if b then n ∷ [] else [])) here
        ∙ ap (λ b. is_listed u (numbers p n) || (b || false)) same
        ∙ or_true (is_listed u (numbers p n))
    by false other deeper = ap (λ b. b || is_listed u (if p n then n ∷ [] else [])) (deeper (below u n under other))

-- who loses a step isn't lent, and nobody else changes
module _ (old new : BookView) (w t n m : ℕ) (run : List Numbered) (shown : IsShown new) (taken : IsTakenBack old (record new { answered = old.answered }) w t n m run) where
  abbrev touched : ℕ → Bool
  touched = loses_a_step run m

  abbrev back : ℕ → Bool
  back u = touched u && map.contains_key new.threads u

  -- who is touched and still there is ready
  back_free : (u : ℕ) → touched u ≡ true → (o : Option (Slot ControlView)) → map.get new.threads u ≡ o → is_in Leased new.threads u ≡ false
  back_free u hit None at = ap (λ o. option_map_or (λ (slot : Slot ControlView). same_state Leased slot.state) o false) at
  back_free u hit (Some slot) at =
      let there : back u ≡ true = ap (λ b. b && map.contains_key new.threads u) hit ∙ ap is_some at in
      let last : is_listed u (numbers back new.next.thread) ≡ true = in_numbers back new.next.thread u (low new shown u slot at) there in
      let queued : is_listed u new.queue ≡ true =
      ap (is_listed u) taken.queue ∙ list_any-append (nat_eq u) (others touched old.queue) (numbers back new.next.thread)
      ∙ ap (λ b. is_listed u (others touched old.queue) || b) last ∙ or_true (is_listed u (others touched old.queue))
      in
      in_other new.threads u Ready ready_not_leased (sym (shown.shows.threads.queue.ready u) ∙ queued)

  pub lost_free : (u : ℕ) → touched u ≡ true → is_in Leased new.threads u ≡ false
  lost_free u hit = back_free u hit (map.get new.threads u) refl

  pub others_lent : (u : ℕ) → touched u ≡ false → is_in Leased new.threads u ≡ is_in Leased old.threads u
  others_lent u miss = ap (λ o. option_map_or (λ (slot : Slot ControlView). same_state Leased slot.state) o false) (taken.untouched u miss)

-- so nobody is lent where the thread that took the section back alone was
module _ (lent new : BookView) (lease : LeaseView) (control : ControlView) (n m : ℕ) (shown : IsShown lent) (shown_new : IsShown new) (is : IsLentAlone lent lease control)
    (taken : IsTakenBack lent (record new { answered = lent.answered }) lease.worker lease.thread n m (begun lent lease.thread n)) where
  abbrev lost : ℕ → Bool
  lost = loses_a_step (begun lent lease.thread n) m

  each_free : (u : ℕ) → is_in Leased new.threads u ≡ false
  each_free u = by (lost u) refl
    where
      by : (b : Bool) → lost u ≡ b → is_in Leased new.threads u ≡ false
      by true hit = lost_free lent new lease.worker lease.thread n m (begun lent lease.thread n) shown_new taken u hit
      by false miss =
          others_lent lent new lease.worker lease.thread n m (begun lent lease.thread n) shown_new taken u miss
          ∙ is.alone u
          ∙ not_true (nat_eq u lease.thread)
          (λ same. false≢true (sym miss ∙ ap lost (eqb-true u lease.thread same) ∙ own_touched lent new lease.worker lease.thread n m shown shown_new taken))

  pub undone_free : in_state Leased new ≡ 0
  undone_free = none_counted (is_in Leased new.threads) new.next.thread each_free
