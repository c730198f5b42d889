-- What the calls leave by which a thread begins to wait.
use Rattle.std.proofs.Common.{◌≡◌, ℕ, true, false, List, [], ◌++◌, Option, Some, None, refl, sym, ap, ◌∙◌, append-nil}
use Rattle.std.specs.Prelude.{OnErr, OnOk, Result, Ok, Err, is_err, is_some, option_map}
use Rattle.std.specs.Ordering.{nat_cmp}
use Rattle.std.specs.FinMap as map
use Rattle.std.specs.FinMap.{FinMap}
use Rattle.std.proofs.lemmas.Bool.{false≢true}
use Rattle.linked_lists.specs.Lists.{without}
use Rattle.stab_base.specs.declared.numbers.ThreadId.{ThreadId}
use Rattle.stab_code.specs.JobParts.{JobParts}
use Rattle.thread_slots.specs.declared.state.State.TheVariants.{Parked}
use Rattle.thread_slots.specs.Slot.{IsSound, Slot, changed}
use Rattle.rendezvous.specs.declared.offer.Offer.{Offer}
use Rattle.rendezvous.specs.Line.{joined}
use Rattle.step_eval.specs.ControlView.{ControlView, expr_of}
use Rattle.step_eval.specs.Progress.{ProgressView}
use Rattle.commit_book.specs.declared.parts.Parts.{Parts}
use Rattle.commit_book.specs.Acting.{AreAsBefore, IsDone, IsLonger, MayAct}
use Rattle.commit_book.specs.Book.{offered}
use Rattle.commit_book.specs.Layout.{IsKept, view_of}
use Rattle.commit_book.specs.Leases.{LeaseView}
use Rattle.commit_book.specs.Meetings.{meeting_of}
use Rattle.commit_book.specs.Rows.{local_of, stays_or_waits, thread}
use Rattle.commit_book.proofs.Threads.Going.{changed_twice}
use Rattle.commit_book.proofs.Keeping.KeptLocal.{IsReady}
use Rattle.commit_book.proofs.Acting.Matched.{offer_there, unmet_of}
use Rattle.commit_book.proofs.Acting.SingleActs.{ready_at}
use Rattle.commit_book.proofs.Threads.Standing.{moved}
use Rattle.commit_book.proofs.Acting.WaitActs.{IsParked, done_now, kept_parked}

-- what holds of an answer that is a value, or an error
pub on_ok : {A E : Type 0} (r : Result A E) (P : Type 0) → OnOk r P → is_err r ≡ false → P
on_ok (Ok a) P h is = h
on_ok (Err e) P h is = absurd (false≢true (sym is))

pub on_err : {A E : Type 0} (r : Result A E) (P : Type 0) → OnErr r P → is_err r ≡ true → P
on_err (Ok a) P h is = absurd (false≢true is)
on_err (Err e) P h is = h

-- an option that isn't there
pub none_there : {A : Type 0} (o : Option A) → is_some o ≡ false → o ≡ None
none_there None is = refl
none_there (Some a) is = absurd (false≢true (sym is))

-- a thread that gets a control and is Parked then
pub aside_threads : (a b c : FinMap nat_cmp (Slot ControlView)) (t u : ℕ) (was now : ControlView) → t ≡ u → was ≡ now → b ≡ changed a t (λ slot. record slot { control = was }) → c ≡ changed b t (λ slot. record slot { state = Parked })
    → c ≡ changed a u (moved now Parked)
aside_threads a b c t u was now at same first second =
    second
    ∙ ap (λ m. changed m t (λ slot. record slot { state = Parked })) first
    ∙ changed_twice a t (λ slot. record slot { control = was }) (λ slot. record slot { state = Parked })
    ∙ ap (λ k. changed a t (moved k Parked)) same
    ∙ ap (λ k. changed a k (moved now Parked)) at

pub aside_queue : (a b c : List ℕ) (t u : ℕ) → t ≡ u → b ≡ a → c ≡ without t b ++ [] → c ≡ without u a
aside_queue a b c t u at first second = second ∙ append-nil (without t b) ∙ ap (without t) first ∙ ap (λ k. without k a) at

-- the offers stood as before while room was made, and while the pure steps were pushed
pub offers_kept : (old planned begins : Parts) → begins ≡ record planned { history = begins.history } → record begins { offers = old.offers } ≡ record (record planned { offers = old.offers }) { history = begins.history }
offers_kept old planned begins rest = ap (λ (k : Parts). record k { offers = old.offers }) rest

module _ (job : JobParts) (old : Parts) (lease : LeaseView) (progress : ProgressView) (may : MayAct job old lease progress) (offer : Offer) (offering_now : offered job.program progress.end ≡ Some offer) (alone : meeting_of old.offers.lines lease.thread offer ≡ None)
    (planned begins new : Parts) (t : ThreadId) (at : t.0 ≡ lease.thread) (free : map.get old.offers.offers t.0 ≡ None) (before : AreAsBefore old (record planned { offers = old.offers }))
    (lines : (c : ℕ) → map.get planned.offers.lines c ≡ option_map (joined t.0 offer c) (map.get old.offers.lines c)) (offers : planned.offers.offers ≡ map.insert old.offers.offers t.0 offer)
    (longer : IsLonger planned.history begins.history lease.worker (local_of lease.thread progress.steps)) (rest : begins ≡ record planned { history = begins.history })
    (control : ControlView) (same : control ≡ progress.end) (put_threads : FinMap nat_cmp (Slot ControlView)) (put_queue : List ℕ) (put_next : ℕ)
    (put_first : put_threads ≡ changed begins.slots.threads t.0 (λ slot. record slot { control = control })) (put_second : put_queue ≡ begins.slots.queue) (put_third : put_next ≡ begins.slots.next)
    (set_first : new.slots.threads ≡ changed put_threads t.0 (λ slot. record slot { state = Parked })) (set_second : new.slots.queue ≡ without t.0 put_queue ++ []) (set_third : new.slots.next ≡ put_next) (sound : IsSound new.slots)
    (alone_slots : new ≡ record begins { slots = new.slots }) where
  parked : IsParked job old lease progress may offer offering_now planned begins new
  parked = record {
    free = ap (map.get old.offers.offers) (sym at) ∙ free;
    there = offer_there job old lease progress may offer offering_now;
    unmet = unmet_of old.offers.lines lease.thread offer alone;
    before = before;
    lines = λ c. lines c ∙ ap (λ (k : ℕ). option_map (joined k offer c) (map.get old.offers.lines c)) at;
    offers = offers ∙ ap (λ (k : ℕ). map.insert old.offers.offers k offer) at;
    longer = longer;
    rest = rest;
    threads = aside_threads begins.slots.threads put_threads new.slots.threads t.0 lease.thread control progress.end at same put_first set_first;
    queue = aside_queue begins.slots.queue put_queue new.slots.queue t.0 lease.thread at put_second set_second;
    next = set_third ∙ put_third;
    sound = sound;
    slots_alone = alone_slots;
  }

  ready : IsReady (view_of job old) (view_of job (record begins { offers = old.offers })) may.kept.shown.state (thread lease.thread) (expr_of job.program progress.end)
  ready = ready_at job old lease progress may (record planned { offers = old.offers }) (record begins { offers = old.offers }) before longer (offers_kept old planned begins rest)

  pub aside_lasts : IsDone job old new lease progress (stays_or_waits (view_of job old) lease.thread offer) × IsKept job new
  aside_lasts = (
    done_now job old lease progress may offer offering_now planned begins new parked ready,
    kept_parked job old lease progress may offer offering_now planned begins new parked ready,
  )
