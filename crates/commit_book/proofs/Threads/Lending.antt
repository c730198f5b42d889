-- What a lease, its return and a recall leave of a book.
use Rattle.std.proofs.Common.{◌≡◌, ℕ, true, false, cond, ◌&&◌, nat_eq, List, [], ◌++◌, length, Option, Some, None, refl, sym, ap, subst, ◌∙◌}
use Rattle.std.specs.Prelude.{option_map}
use Rattle.std.specs.Option.{option_map_or}
use Rattle.std.specs.Ordering.{nat_cmp}
use Rattle.std.specs.FinMap as map
use Rattle.std.specs.FinMap.{FinMap}
use Rattle.std.proofs.lemmas.Bool.{false≢true, eqb-true, and_parts}
use Rattle.stab_base.specs.declared.numbers.ThreadId.{ThreadId}
use Rattle.stab_code.specs.JobParts.{JobParts}
use Rattle.stab_code.specs.Program.{ProgramParts}
use Rattle.stab_journal.specs.declared.event.Numbered.{Numbered}
use Rattle.thread_slots.specs.declared.state.State.{State}
use Rattle.thread_slots.specs.declared.state.State.TheVariants.{Ready, Leased, Parked, Ended}
use Rattle.thread_slots.specs.Ready.{IsQueueOf, numbers}
use Rattle.thread_slots.specs.Slot.{Slot, Seen, IsSound, same_state, is_in, is_ready_at, changed, put_changed, recalled}
use Rattle.thread_slots.proofs.Counted.{numbers-same}
use Rattle.language.specs.Plain.{PlainState}
use Rattle.language.proofs.Applying.{get_inserted}
use Rattle.step_eval.specs.ControlView.{ControlView, Fits, RedexIsFound, expr_of}
use Rattle.commit_book.specs.declared.parts.Parts.{Parts}
use Rattle.commit_book.specs.Book.{BookView, ShowsRun, over, offered}
use Rattle.commit_book.specs.Counts.{is_faulted_at, faulted_in}
use Rattle.commit_book.specs.Doing.{is_failed}
use Rattle.commit_book.specs.Layout.{IsKept, view_of}
use Rattle.commit_book.specs.declared.turn.Choice.TheVariants.{Work}
use Rattle.commit_book.specs.Restated.{IsRestated}
use Rattle.commit_book.specs.Turns.{choice_of, requeued, is_lent, IsRecalled}
use Rattle.commit_book.proofs.Threads.Choosing.{chosen_front, found_in}
use Rattle.commit_book.proofs.Acting.Meeting.{first_listed}
use Rattle.commit_book.proofs.Threads.Requeued.{IsRequeuedAs, IsRequeuedAt, AreRequeued, requeued_same, fit_requeued, generations_requeued, parked_requeued, threads_requeued, doing_requeued, offers_requeued}

-- a book shows the same run and state
pub shown_requeued : (b : BookView) (run : List Numbered) (s : PlainState) (threads : FinMap nat_cmp (Slot ControlView)) (queue : List ℕ) → AreRequeued b.threads threads → IsQueueOf (is_ready_at threads) queue → ShowsRun b run s → ShowsRun (requeued b threads queue) run s
shown_requeued b run s threads queue is once shown =
    let p = b.job.program in
    record {
      journal = record {
        history = shown.journal.history;
        script = shown.journal.script;
        channels = shown.journal.channels;
        writes = shown.journal.writes;
        references = shown.journal.references;
        printed = shown.journal.printed;
        next = shown.journal.next;
        few = shown.journal.few;
        saved = shown.journal.saved;
        saved_fit = shown.journal.saved_fit;
        nodes = shown.journal.nodes;
      };
      threads = record {
        threads = threads_requeued (expr_of p) b.threads threads s is shown.threads.threads;
        fit = fit_requeued (Fits p) b.threads threads is shown.threads.fit;
        generations = generations_requeued b.history.events b.threads threads is shown.threads.generations;
        doing = doing_requeued (over p) (offered p) b.threads threads is shown.threads.doing;
        queue = once;
        offers = offers_requeued (offered p) b.threads threads b.offers is shown.threads.offers;
        found = parked_requeued RedexIsFound b.threads threads is shown.threads.found;
      };
    }

faulted_at : (p : ProgramParts) (o n : Option (Slot ControlView)) → IsRequeuedAt o n → option_map_or (λ slot. is_failed (expr_of p slot.control)) n false ≡ option_map_or (λ slot. is_failed (expr_of p slot.control)) o false
faulted_at p None None is = refl
faulted_at p (Some a) (Some b) is = ap (λ c. is_failed (expr_of p c)) is.control
faulted_at p None (Some b) is = absurd is
faulted_at p (Some a) None is = absurd is

faulted_requeued : (p : ProgramParts) (old new : FinMap nat_cmp (Slot ControlView)) (n : ℕ) → AreRequeued old new → faulted_in p new n ≡ faulted_in p old n
faulted_requeued p old new n is = ap length (numbers-same (is_faulted_at p old) (is_faulted_at p new) n (λ u h. faulted_at p (map.get old u) (map.get new u) (is u)))

-- what is kept, where nothing else changes but the queue
pub kept_requeued : (job : JobParts) (old new : Parts) → new ≡ record old { slots = new.slots } → new.slots.next ≡ old.slots.next → AreRequeued old.slots.threads new.slots.threads → IsQueueOf (is_ready_at new.slots.threads) new.slots.queue → IsKept job old → IsKept job new
kept_requeued job old new rest next is once kept =
    let changed : Parts = record old { slots = record new.slots { next = old.slots.next } } in
    let same : new ≡ changed = rest ∙ ap (λ n. record old { slots = record new.slots { next = n } }) next in
    subst (IsKept job) (sym same) (record {
      valid = kept.valid;
      shown = record {
        run = kept.shown.run;
        state = kept.shown.state;
        shows = shown_requeued (view_of job old) kept.shown.run kept.shown.state new.slots.threads new.slots.queue is once kept.shown.shows;
      };
      tallied = record {
        probes = kept.tallied.probes;
        finals = kept.tallied.finals;
        released = kept.tallied.released;
        undos = kept.tallied.undos;
        faulted = kept.tallied.faulted ∙ sym (faulted_requeued job.program old.slots.threads new.slots.threads old.slots.next is);
      };
      read = kept.read;
      prints = kept.prints;
    })

module _ {C : Type 0} where
  -- a thread that changes, by number
  pub get-changed : (threads : FinMap nat_cmp (Slot C)) (t u : ℕ) (f : Slot C → Slot C) → map.get (changed threads t f) u ≡ cond (nat_eq u t) (option_map f (map.get threads t)) (map.get threads u)
  get-changed threads t u f =
      elim (map.get threads t) as (λ o. map.get threads t ≡ o → map.get (put_changed threads t f o) u ≡ cond (nat_eq u t) (option_map f o) (map.get threads u)) [
        | None ↦ λ is. elim (nat_eq u t) as (λ b. nat_eq u t ≡ b → map.get threads u ≡ cond b None (map.get threads u)) [
          | true ↦ λ at. ap (map.get threads) (eqb-true u t at) ∙ is
          | false ↦ λ at. refl
        ] refl
        | (Some slot) ↦ λ is. get_inserted threads t (f slot) u
      ] refl

  -- a thread that is neither Parked nor Ended, and becomes so
  pub restated : (st : State) (s : Slot C) → same_state Ended st ≡ false → same_state Parked st ≡ false → same_state Ended s.state ≡ false → same_state Parked s.state ≡ false → IsRequeuedAs s (record s { state = st })
  restated st s a b c d = record { control = refl; generation = refl; ended = a ∙ sym c; parked = b ∙ sym d }

  pub changed_requeued : (threads : FinMap nat_cmp (Slot C)) (t : ℕ) (st : State) (slot : Slot C) → map.get threads t ≡ Some slot → IsRequeuedAs slot (record slot { state = st }) → AreRequeued threads (changed threads t (λ s. record s { state = st }))
  changed_requeued threads t st slot at is u =
      let f : Slot C → Slot C = λ s. record s { state = st } in
      subst (IsRequeuedAt (map.get threads u)) (sym (get-changed threads t u f))
      (elim (nat_eq u t) as (λ b. nat_eq u t ≡ b → IsRequeuedAt (map.get threads u) (cond b (option_map f (map.get threads t)) (map.get threads u))) [
        | true ↦ λ here. subst (λ (o : Option (Slot C)). IsRequeuedAt o (option_map f (map.get threads t))) (sym (ap (map.get threads) (eqb-true u t here)))
            (subst (λ (o : Option (Slot C)). IsRequeuedAt o (option_map f o)) (sym at) is)
        | false ↦ λ apart. requeued_same (map.get threads u)
      ] refl)

  recalled_as : (a : Slot C) → IsRequeuedAs a (recalled a)
  recalled_as a = by_state a.state refl
    where
      by_state : (st : State) → a.state ≡ st → IsRequeuedAs a (recalled a)
      by_state Leased is = record { control = cc; generation = cc; ended = cc; parked = cc }
      by_state Ready is = record { control = cc; generation = cc; ended = cc; parked = cc }
      by_state Parked is = record { control = cc; generation = cc; ended = cc; parked = cc }
      by_state Ended is = record { control = cc; generation = cc; ended = cc; parked = cc }

  recalled_at : (o : Option (Slot C)) → IsRequeuedAt o (option_map recalled o)
  recalled_at None = tt
  recalled_at (Some a) = recalled_as a

  pub recalled_requeued : (old new : FinMap nat_cmp (Slot C)) → ((t : ℕ) → map.get new t ≡ option_map recalled (map.get old t)) → AreRequeued old new
  recalled_requeued old new is t = subst (IsRequeuedAt (map.get old t)) (sym (is t)) (recalled_at (map.get old t))

-- ---- what is kept after each call

ready_only : (s : State) → same_state Ready s ≡ true → (same_state Ended s ≡ false) × (same_state Parked s ≡ false)
ready_only Ready h = (refl, refl)
ready_only Leased h = absurd (false≢true h)
ready_only Parked h = absurd (false≢true h)
ready_only Ended h = absurd (false≢true h)

leased_only : (s : State) → same_state Leased s ≡ true → (same_state Ended s ≡ false) × (same_state Parked s ≡ false)
leased_only Leased h = (refl, refl)
leased_only Ready h = absurd (false≢true h)
leased_only Parked h = absurd (false≢true h)
leased_only Ended h = absurd (false≢true h)

-- the thread that was chosen is Leased
pub kept_lent : (job : JobParts) (old new : Parts) (t : ThreadId) → IsKept job old → choice_of (view_of job old) ≡ Work t → IsRestated old new t.0 Leased [] → IsKept job new
kept_lent job old new t kept chosen is =
    let front = chosen_front (view_of job old) t chosen in
    let f = found_in old.slots.threads t.0 Ready (sym (kept.shown.shows.threads.queue.ready t.0) ∙ first_listed t.0 old.slots.queue front) in
    let states = ready_only f.slot.state f.is in
    kept_requeued job old new is.rest is.next
    (subst (AreRequeued old.slots.threads) (sym is.threads) (changed_requeued old.slots.threads t.0 Leased f.slot f.found (restated Leased f.slot refl refl states.0 states.1)))
    is.sound.queue kept

lent_in : (threads : FinMap nat_cmp (Slot ControlView)) (t g : ℕ) → is_lent threads t g ≡ true → is_in Leased threads t ≡ true
lent_in threads t g h =
    elim (map.get threads t) as (λ o. option_map_or (λ slot. nat_eq slot.generation g && same_state Leased slot.state) o false ≡ true → option_map_or (λ slot. same_state Leased slot.state) o false ≡ true) [
      | None ↦ λ h. h
      | (Some slot) ↦ λ h. (and_parts (nat_eq slot.generation g) (same_state Leased slot.state) h).1
    ] h

-- a thread that is still lent is Ready
pub kept_given : (job : JobParts) (old new : Parts) (t g : ℕ) → IsKept job old → is_lent old.slots.threads t g ≡ true → new ≡ record old { slots = new.slots } → new.slots.next ≡ old.slots.next → new.slots.threads ≡ changed old.slots.threads t (λ slot. record slot { state = Ready }) → IsSound new.slots → IsKept job new
kept_given job old new t g kept lent rest next threads sound =
    let f = found_in old.slots.threads t Leased (lent_in old.slots.threads t g lent) in
    let states = leased_only f.slot.state f.is in
    kept_requeued job old new rest next
    (subst (AreRequeued old.slots.threads) (sym threads) (changed_requeued old.slots.threads t Ready f.slot f.found (restated Ready f.slot refl refl states.0 states.1)))
    sound.queue kept

-- what callers see, where slots alone change
pub seen_as : (job : JobParts) (old : Parts) (s : Seen ControlView) → s.next ≡ old.slots.next → view_of job (record old { slots = s }) ≡ requeued (view_of job old) s.threads s.queue
seen_as job old s next = ap (λ n. record (requeued (view_of job old) s.threads s.queue) { next = record { thread = n; chan = old.next_chan; ref = old.next_ref } }) next

pub kept_recalled : (job : JobParts) (old : Parts) (s : Seen ControlView) → IsKept job old → s.next ≡ old.slots.next → ((t : ℕ) → map.get s.threads t ≡ option_map recalled (map.get old.slots.threads t)) → IsSound s → IsKept job (record old { slots = s })
kept_recalled job old s kept next threads sound = kept_requeued job old (record old { slots = s }) refl next (recalled_requeued old.slots.threads s.threads threads) sound.queue kept

pub seen_recalled : (job : JobParts) (old : Parts) (s : Seen ControlView) → s.next ≡ old.slots.next → ((t : ℕ) → map.get s.threads t ≡ option_map recalled (map.get old.slots.threads t)) → s.queue ≡ old.slots.queue ++ numbers (is_in Leased old.slots.threads) old.slots.next → IsRecalled (view_of job old) (view_of job (record old { slots = s }))
seen_recalled job old s next threads queue = record { threads = threads; queue = queue; rest = seen_as job old s next }
