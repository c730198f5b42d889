-- What is there has its line and its number, and what comes next isn't there yet.
use Rattle.std.proofs.Common.{◌≡◌, ℕ, ◌<◌, Bool, true, false, ◌||◌, nat_eq, List, Option, Some, None, IsSome, refl, sym, subst, ◌∙◌}
use Rattle.std.specs.Prelude.{is_some}
use Rattle.std.specs.FinMap as map
use Rattle.std.specs.FinSet as set
use Rattle.std.proofs.lemmas.Bool.{false≢true, eqb-true}
use Rattle.stab_base.specs.declared.numbers.ChanId.{ChanId}
use Rattle.stab_journal.specs.declared.event.Numbered.{Numbered}
use Rattle.rendezvous.specs.declared.offer.Offer.TheVariants as offers
use Rattle.rendezvous.specs.Line.{AreThere}
use Rattle.language.specs.Plain.{PlainState}
use Rattle.commit_book.specs.Book.{BookView, ShowsJournal}
use Rattle.commit_book.proofs.Keeping.Named.{new_thread, new_channel, new_reference, old_thread, old_channel, old_reference}

none_there : {A : Type 0} (o : Option A) → is_some o ≡ false → o ≡ None
none_there None is = refl
none_there (Some a) is = absurd (false≢true (sym is))

module _ (b : BookView) (run : List Numbered) (s : PlainState) (shown : ShowsJournal b run s) where
  -- a channel of the state has its line
  pub line_there : (c : ℕ) → set.contains s.channels c ≡ true → IsSome (map.get b.offers.lines c)
  line_there c there = shown.channels c ∙ there

  one_there : (c : ℕ) → set.contains s.channels c ≡ true → (x : ℕ) → nat_eq x c ≡ true → IsSome (map.get b.offers.lines x)
  one_there c there x at = subst (λ (k : ℕ). IsSome (map.get b.offers.lines k)) (sym (eqb-true x c at)) (line_there c there)

  either : (c d x : ℕ) (i j : Bool) → set.contains s.channels c ≡ true → set.contains s.channels d ≡ true → nat_eq x c ≡ i → nat_eq x d ≡ j → (i || j) ≡ true → IsSome (map.get b.offers.lines x)
  either c d x true j first second at also h = one_there c first x at
  either c d x false true first second at also h = one_there d second x also
  either c d x false false first second at also h = absurd (false≢true h)

  left_alone : (i : Bool) → (i || false) ≡ true → i ≡ true
  left_alone true h = refl
  left_alone false h = h

  -- so an offer on channels of the state can wait
  pub send_there : (c : ChanId) → set.contains s.channels c.0 ≡ true → AreThere b.offers.lines (offers.Send c)
  send_there c there x on = one_there c.0 there x (left_alone (nat_eq x c.0) on)

  pub receive_there : (c : ChanId) → set.contains s.channels c.0 ≡ true → AreThere b.offers.lines (offers.Recv c)
  receive_there c there x on = one_there c.0 there x on

  pub pick_there : (c d : ChanId) → set.contains s.channels c.0 ≡ true → set.contains s.channels d.0 ≡ true → AreThere b.offers.lines (offers.Pick c d)
  pick_there c d first second x on = either c.0 d.0 x (nat_eq x c.0) (nat_eq x d.0) first second refl refl on

  -- the next thread, channel and reference aren't there yet
  pub thread_away : map.get s.threads b.next.thread ≡ None
  thread_away = none_there (map.get s.threads b.next.thread) (new_thread b.job.program b.history.events run s shown.history.stands b.next.thread b.next.chan b.next.ref shown.next)

  pub channel_away : set.contains s.channels b.next.chan ≡ false
  channel_away = new_channel b.job.program b.history.events run s shown.history.stands b.next.thread b.next.chan b.next.ref shown.next

  pub line_away : map.get b.offers.lines b.next.chan ≡ None
  line_away = none_there (map.get b.offers.lines b.next.chan) (shown.channels b.next.chan ∙ channel_away)

  pub reference_away : map.contains_key s.references b.next.ref ≡ false
  reference_away = new_reference b.job.program b.history.events run s shown.history.stands b.next.thread b.next.chan b.next.ref shown.next

  -- and what is there has a number below them
  pub thread_below : (t : ℕ) → map.contains_key s.threads t ≡ true → t < b.next.thread
  thread_below = old_thread b.job.program b.history.events run s shown.history.stands b.next.thread b.next.chan b.next.ref shown.next

  pub channel_below : (c : ℕ) → set.contains s.channels c ≡ true → c < b.next.chan
  channel_below = old_channel b.job.program b.history.events run s shown.history.stands b.next.thread b.next.chan b.next.ref shown.next

  pub reference_below : (r : ℕ) → map.contains_key s.references r ≡ true → r < b.next.ref
  reference_below = old_reference b.job.program b.history.events run s shown.history.stands b.next.thread b.next.chan b.next.ref shown.next
