-- What the calls of an act leave that moves no thread but its own, put together.
use Rattle.std.proofs.Common.{◌≡◌, ℕ, ◌<◌, false, Option, Some, None, sym, ap, subst, ◌∙◌, arith}
use Rattle.std.specs.Prelude.{IfSome, IsSome, is_some, option_map}
use Rattle.std.specs.Ordering.{nat_cmp}
use Rattle.std.specs.FinMap as map
use Rattle.std.specs.FinMap.{FinMap}
use Rattle.stab_code.specs.JobParts.{JobParts}
use Rattle.stab_journal.specs.declared.event.Label.{Label}
use Rattle.stab_journal.specs.Generation.{generation}
use Rattle.thread_slots.specs.Slot.{Slot}
use Rattle.rendezvous.specs.Line.{Line, Lines, Seen}
use Rattle.language.specs.Expression.{Expr}
use Rattle.language.specs.Program.{body}
use Rattle.language.specs.Steps.{Effect}
use Rattle.language.specs.Table.{act}
use Rattle.step_eval.specs.declared.act.Act.{Act}
use Rattle.step_eval.specs.Acts.{act_with}
use Rattle.step_eval.specs.Asked.{operands_of}
use Rattle.step_eval.specs.ControlView.{ControlView, Fits, expr_of}
use Rattle.step_eval.specs.Progress.{ProgressView}
use Rattle.commit_book.specs.declared.parts.Parts.{Parts}
use Rattle.commit_book.specs.Acting.{AreAsBefore, HasAnswered, HasGoneOn, IsLonger, MayAct, StandsAt}
use Rattle.commit_book.specs.Book.{offered}
use Rattle.commit_book.specs.Doing.{is_failed, offer_at}
use Rattle.commit_book.specs.Layout.{view_of}
use Rattle.commit_book.specs.Leases.{LeaseView}
use Rattle.commit_book.specs.Rows.{local_of}
use Rattle.commit_book.specs.Threads.{AllControls}
use Rattle.commit_book.proofs.Acting.EffectsAsked.{act_goes_on}
use Rattle.commit_book.proofs.Threads.Faulted.{faulted_few}
use Rattle.commit_book.proofs.Keeping.Room.{thread_within}
use Rattle.commit_book.proofs.Acting.SingleActs.{IsActed, IsStepped, doing_at, journal_at, room_at, slot_at}
use Rattle.commit_book.proofs.Threads.Standing.{AreStanding, standing_of}
use Rattle.commit_book.proofs.Threads.Staying.{unfailed}

-- the same lines
pub lines_same : (old new : Lines) → new ≡ old → (c : ℕ) → IfSome (map.get old c) (λ (line : Line). map.get new c ≡ Some line)
lines_same old new same c = by (map.get old c) (ap (λ m. map.get m c) same)
  where
    by : (o : Option Line) → map.get new c ≡ o → IfSome o (λ (line : Line). map.get new c ≡ Some line)
    by None is = tt
    by (Some line) is = is

-- who stood there
pub stood_there : (o : Option (Slot ControlView)) (slot : Slot ControlView) (was : ControlView) → o ≡ Some slot → option_map (λ (k : Slot ControlView). k.control) o ≡ Some was → was ≡ slot.control
stood_there None slot was is at = absurd (cc)
stood_there (Some k) slot was is at = let a : k ≡ slot = cc in let b : k.control ≡ was = cc in sym b ∙ ap (λ (x : Slot ControlView). x.control) a

-- what holds of whoever stands there
pub stood_so : (o : Option (Slot ControlView)) (slot : Slot ControlView) (was : ControlView) → o ≡ Some slot → IfSome o (λ (k : Slot ControlView). k.control ≡ was) → was ≡ slot.control
stood_so None slot was is at = absurd (cc)
stood_so (Some k) slot was is at = let a : k ≡ slot = cc in sym at ∙ ap (λ (x : Slot ControlView). x.control) a

module _ (job : JobParts) (old : Parts) (lease : LeaseView) (progress : ProgressView) (may : MayAct job old lease progress) where
  module _ (a : Act) (at : StandsAt job.program progress.end a) where
    -- an act that is no offer
    pub unoffered_at : offer_at (act (act_with (body job.program) (operands_of progress.end) a)) ≡ None → offered job.program progress.end ≡ None
    unoffered_at quiet = ap offer_at at.look ∙ quiet

    pub going_at : is_failed (expr_of job.program (slot_at job old lease progress may).slot.control) ≡ false
    going_at =
        let here = slot_at job old lease progress may in
        unfailed job.program here.slot progress.origin progress.steps progress.end (doing_at job old lease progress may) here.control may.made
        (act_goes_on job.program (expr_of job.program progress.end) (act_with (body job.program) (operands_of progress.end) a) at.look)

  -- what an answer needs
  pub there_at : (threads : FinMap nat_cmp (Slot ControlView)) → threads ≡ old.slots.threads → IsSome (map.get threads lease.thread)
  there_at threads same = ap is_some (ap (λ m. map.get m lease.thread) same ∙ (slot_at job old lease progress may).found)

  pub fit_at : (threads : FinMap nat_cmp (Slot ControlView)) → threads ≡ old.slots.threads → AllControls (Fits job.program) threads
  fit_at threads same = subst (AllControls (Fits job.program)) (sym same) may.kept.shown.shows.threads.fit

  pub few_failed : old.tallies.faulted < 4294967296
  few_failed =
      omega (
        arith,
        may.kept.tallied.faulted,
        faulted_few job.program old.slots.threads old.slots.next,
        thread_within 1 old.history.events (room_at job old lease progress may) old.slots.next old.next_chan old.next_ref (journal_at job old lease progress may).few,
      )

  module _ (planned begins : Parts) (before : AreAsBefore old planned) (longer : IsLonger planned.history begins.history lease.worker (local_of lease.thread progress.steps)) (rest : begins ≡ record planned { history = begins.history }) where
    begins_slots : begins.slots ≡ planned.slots
    begins_slots = ap (λ k. k.slots) rest

    offers_before : begins.offers ≡ old.offers
    offers_before = ap (λ k. k.offers) rest ∙ before.offers

    pub threads_before : begins.slots.threads ≡ old.slots.threads
    threads_before = ap (λ k. k.threads) begins_slots ∙ before.threads

    -- nobody waits elsewhere where the offers stay
    waiting_same : (o : Seen) → o ≡ old.offers → AreStanding job.program old.slots.threads o (λ k. map.get may.kept.shown.state.threads k) (λ k. generation k old.history.events)
    waiting_same o same =
        subst (λ (x : Seen). AreStanding job.program old.slots.threads x (λ k. map.get may.kept.shown.state.threads k) (λ k. generation k old.history.events)) (sym same)
        (standing_of (view_of job old) may.kept.shown.state may.kept.shown.shows.threads)

    module _ (done new : Parts) (a : Act) (at : StandsAt job.program progress.end a) (quiet : offer_at (act (act_with (body job.program) (operands_of progress.end) a)) ≡ None) (l : Label) (e : Effect Expr) (is : IsStepped job old lease progress may planned begins before longer rest done l e) where
      slots_now : done.slots.threads ≡ old.slots.threads
      slots_now = ap (λ k. k.threads) is.slots ∙ threads_before

      -- an act that is no offer leaves the offers, and the thread goes on from the control c
      pub acted_on : (was c : ControlView) → done.offers ≡ begins.offers → e.mine ≡ expr_of job.program c → Fits job.program c → IfSome (map.get done.slots.threads lease.thread) (λ (k : Slot ControlView). k.control ≡ was) → HasGoneOn job.program done new lease.thread was c
          → IsActed job old lease progress may planned begins before longer rest done new l e was c
      acted_on was c offers mine fits stood gone = record {
        stepped = is;
        unoffered = unoffered_at a at quiet;
        going = going_at a at;
        lines = lines_same old.offers.lines done.offers.lines (ap (λ (o : Seen). o.lines) (offers ∙ offers_before));
        waiting = waiting_same done.offers (offers ∙ offers_before);
        mine = mine;
        fits = fits;
        stood = stood_so (map.get done.slots.threads lease.thread) (slot_at job old lease progress may).slot was (ap (λ m. map.get m lease.thread) slots_now ∙ (slot_at job old lease progress may).found) stood;
        gone = gone;
      }

      -- or its act gets a value
      pub acted : (f : Expr) → done.offers ≡ begins.offers → e.mine ≡ f → (answered : HasAnswered job.program done new lease.thread f)
          → IsActed job old lease progress may planned begins before longer rest done new l e answered.before answered.control
      acted f offers mine answered = record {
        stepped = is;
        unoffered = unoffered_at a at quiet;
        going = going_at a at;
        lines = lines_same old.offers.lines done.offers.lines (ap (λ (o : Seen). o.lines) (offers ∙ offers_before));
        waiting = waiting_same done.offers (offers ∙ offers_before);
        mine = mine ∙ sym answered.stands;
        fits = answered.fits;
        stood = stood_there (map.get done.slots.threads lease.thread) (slot_at job old lease progress may).slot answered.before (ap (λ m. map.get m lease.thread) slots_now ∙ (slot_at job old lease progress may).found) answered.was;
        gone = answered.gone;
      }
