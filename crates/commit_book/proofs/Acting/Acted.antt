-- What the calls of an act need that moves no thread but its own, and what its answer leaves.
use Rattle.std.proofs.Common.{◌≡◌, ℕ, ◌<◌, Bool, true, false, Some, None, refl, sym, ap, subst, ◌∙◌}
use Rattle.std.specs.Prelude.{Err, IfSome, IsSome, Ok, OnErr, OnOk, Result, is_err, is_some}
use Rattle.std.proofs.lemmas.Bool.{false≢true}
use Rattle.std.specs.FinMap as map
use Rattle.stab_base.specs.Datum.{Datum}
use Rattle.stab_base.specs.declared.numbers.ThreadId.{ThreadId}
use Rattle.stab_code.specs.JobParts.{JobParts}
use Rattle.stab_code.specs.Program.{ProgramParts}
use Rattle.stab_code.specs.Valid.{IsValid}
use Rattle.stab_journal.specs.declared.event.Label.{Label}
use Rattle.stab_journal.specs.Event.{IsName}
use Rattle.stab_journal.specs.Generation.{generation}
use Rattle.stab_journal.specs.Journal.{Journal}
use Rattle.thread_slots.specs.Slot.{Slot}
use Rattle.language.specs.Expression.{Expr}
use Rattle.language.specs.Look.{answered}
use Rattle.language.specs.Program.{body}
use Rattle.language.specs.Steps.{Effect}
use Rattle.language.specs.Table.{act}
use Rattle.step_eval.specs.declared.act.Act.{Act}
use Rattle.step_eval.specs.Acts.{act_with}
use Rattle.step_eval.specs.Asked.{act_next, operands_of}
use Rattle.step_eval.specs.ControlView.{ControlView, Fits, expr_of}
use Rattle.step_eval.specs.Progress.{ProgressView}
use Rattle.commit_book.specs.declared.parts.Parts.{Parts}
use Rattle.commit_book.specs.Acting.{AreAsBefore, HasAnswered, HasGoneOn, IsDone, IsLonger, MayAct, StandsAt}
use Rattle.commit_book.specs.Doing.{offer_at}
use Rattle.commit_book.specs.Layout.{IsKept}
use Rattle.commit_book.specs.Leases.{LeaseView}
use Rattle.commit_book.specs.Rows.{alone, local_of, thread}
use Rattle.commit_book.specs.Threads.{AllControls}
use Rattle.commit_book.proofs.Acting.SingleActs.{IsStepped, done_alone, kept_alone, named_at, slot_at}
use Rattle.commit_book.proofs.Acting.SingleCalls.{acted, acted_on, few_failed, fit_at, there_at}
use Rattle.commit_book.proofs.Threads.Standing.{of_some}

-- what holds where there was memory, and where there was none
pub in_ok : {T E P : Type 0} (r : Result T E) (b : Bool) → OnOk r P → b ≡ is_err r → b ≡ false → P
in_ok (Ok x) b p is at = p
in_ok (Err e) b p is at = absurd (false≢true (sym at ∙ is))

pub in_err : {T E P : Type 0} (r : Result T E) (b : Bool) → OnErr r P → b ≡ is_err r → b ≡ true → P
in_err (Ok x) b p is at = absurd (false≢true (sym is ∙ at))
in_err (Err e) b p is at = p

-- room was made for the steps alone
pub reserved : (old : Parts) (h : Journal) → h ≡ record old.history { spare = h.spare } → AreAsBefore old (record old { history = h })
reserved old h is = record {
  history = is;
  threads = refl;
  queue = refl;
  next = refl;
  offers = refl;
  last_cut = refl;
  references = refl;
  saved = refl;
  nodes = refl;
  finals = refl;
  recent = refl;
  chan = refl;
  ref = refl;
  tallies = refl;
  read = record { read = refl; floor = refl; own = λ t. refl; lost = refl };
}

-- a thread by its number
pub thread_is : (u : ThreadId) (t : ℕ) → u.0 ≡ t → u ≡ thread t
thread_is u t is = ap (λ n. thread n) is

-- an answer in the words of the job, the lease and the progress
pub answered_so : (job : JobParts) (lease : LeaseView) (progress : ProgressView) (done new : Parts) (p : ProgramParts) (u : ThreadId) (c : ControlView) (v w : Datum) → p ≡ job.program → u.0 ≡ lease.thread → c ≡ progress.end → v ≡ w
    → HasAnswered p done new u.0 (answered (expr_of p c) v) → HasAnswered job.program done new lease.thread (answered (expr_of job.program progress.end) w)
answered_so job lease progress done new p u c v w program number end value has =
    subst (λ (k : ProgramParts). HasAnswered k done new lease.thread (answered (expr_of k progress.end) w)) program
    (subst (λ (t : ℕ). HasAnswered p done new t (answered (expr_of p progress.end) w)) number
    (subst (λ (x : ControlView). HasAnswered p done new u.0 (answered (expr_of p x) w)) end
    (subst (λ (x : Datum). HasAnswered p done new u.0 (answered (expr_of p c) x)) value has)))

module _ (job : JobParts) (old : Parts) (lease : LeaseView) (progress : ProgressView) (may : MayAct job old lease progress) where
  pub named_so : (u : ThreadId) → u.0 ≡ lease.thread → IsName u.0
  named_so u is = subst IsName (sym is) (named_at job old lease progress may)

  -- the lease's generation is that of its thread
  pub generation_at : lease.generation ≡ generation lease.thread old.history.events
  generation_at =
      let here = slot_at job old lease progress may in
      sym here.generation
      ∙ of_some (map.get old.slots.threads lease.thread) here.slot (λ (k : Slot ControlView). k.generation ≡ generation lease.thread old.history.events) here.found (may.kept.shown.shows.threads.generations lease.thread)

  module _ (planned begins done : Parts) (before : AreAsBefore old planned) (rest : begins ≡ record planned { history = begins.history }) (slots : done.slots ≡ begins.slots) where
    threads_are : done.slots.threads ≡ old.slots.threads
    threads_are = ap (λ k. k.threads) slots ∙ ap (λ (k : Parts). k.slots.threads) rest ∙ before.threads

    pub needs_there : (u : ThreadId) → u.0 ≡ lease.thread → IsSome (map.get done.slots.threads u.0)
    needs_there u is = subst (λ (t : ℕ). IsSome (map.get done.slots.threads t)) (sym is) (there_at job old lease progress may done.slots.threads threads_are)

    pub needs_few : done.tallies.faulted ≡ begins.tallies.faulted → done.tallies.faulted < 4294967296
    needs_few same = subst (λ (n : ℕ). n < 4294967296) (sym (same ∙ ap (λ (k : Parts). k.tallies.faulted) rest ∙ ap (λ k. k.faulted) before.tallies)) (few_failed job old lease progress may)

    pub needs_fit : (p : ProgramParts) → p ≡ job.program → AllControls (Fits p) done.slots.threads
    needs_fit p is = subst (λ (k : ProgramParts). AllControls (Fits k) done.slots.threads) (sym is) (fit_at job old lease progress may done.slots.threads threads_are)

  pub needs_valid : (p : ProgramParts) → p ≡ job.program → IsValid p
  needs_valid p is = subst IsValid (sym is) may.kept.valid

  pub needs_fits : (p : ProgramParts) (c : ControlView) → p ≡ job.program → c ≡ progress.end → Fits p c
  needs_fits p c is at = subst (λ (k : ProgramParts). Fits k c) (sym is) (subst (Fits job.program) (sym at) may.made.fits)

  pub needs_act : (a : Act) → StandsAt job.program progress.end a → (c : ControlView) → c ≡ progress.end → IsSome (act_next c)
  needs_act a at c is = ap (λ (g : ControlView). is_some (act_next g)) is ∙ ap is_some at.next

  module _ (planned begins : Parts) (before : AreAsBefore old planned) (longer : IsLonger planned.history begins.history lease.worker (local_of lease.thread progress.steps)) (rest : begins ≡ record planned { history = begins.history }) where
    module _ (done new : Parts) (a : Act) (at : StandsAt job.program progress.end a) (quiet : offer_at (act (act_with (body job.program) (operands_of progress.end) a)) ≡ None) (l : Label) (e : Effect Expr) (is : IsStepped job old lease progress may planned begins before longer rest done l e) (offers : done.offers ≡ begins.offers) where
      -- the act got a value
      pub both_answered : (p : ProgramParts) (u : ThreadId) (c : ControlView) (v w : Datum) → p ≡ job.program → u.0 ≡ lease.thread → c ≡ progress.end → v ≡ w → e.mine ≡ answered (expr_of job.program progress.end) w → HasAnswered p done new u.0 (answered (expr_of p c) v)
          → IsDone job old new lease progress (alone (Some l)) × IsKept job new
      both_answered p u c v w program number end value mine has =
          let f = answered (expr_of job.program progress.end) w in
          let has_so : HasAnswered job.program done new lease.thread f = answered_so job lease progress done new p u c v w program number end value has in
          let acts = acted job old lease progress may planned begins before longer rest done new a at quiet l e is f offers mine has_so in (
            done_alone job old lease progress may planned begins before longer rest done new l e has_so.before has_so.control acts,
            kept_alone job old lease progress may planned begins before longer rest done new l e has_so.before has_so.control acts,
          )

      -- or the thread goes on from a control that was made for it
      pub both_gone : (u : ThreadId) (was c : ControlView) → u.0 ≡ lease.thread → e.mine ≡ expr_of job.program c → Fits job.program c → IfSome (map.get done.slots.threads u.0) (λ (k : Slot ControlView). k.control ≡ was)
          → ((p : ProgramParts) → IsValid p → Fits p c → Fits p was → HasGoneOn p done new u.0 was c)
          → IsDone job old new lease progress (alone (Some l)) × IsKept job new
      both_gone u was c number mine fits stood gone =
          let stood_so : IfSome (map.get done.slots.threads lease.thread) (λ (k : Slot ControlView). k.control ≡ was) = subst (λ (t : ℕ). IfSome (map.get done.slots.threads t) (λ (k : Slot ControlView). k.control ≡ was)) number stood in
          let here = slot_at job old lease progress may in
          let found : map.get done.slots.threads lease.thread ≡ Some here.slot = ap (λ m. map.get m lease.thread) (threads_are planned begins done before rest is.slots) ∙ here.found in
          let same : here.slot.control ≡ was = of_some (map.get done.slots.threads lease.thread) here.slot (λ (k : Slot ControlView). k.control ≡ was) found stood_so in
          let fitted : Fits job.program here.slot.control = of_some (map.get old.slots.threads lease.thread) here.slot (λ (k : Slot ControlView). Fits job.program k.control) here.found (may.kept.shown.shows.threads.fit lease.thread) in
          let gone_so : HasGoneOn job.program done new lease.thread was c = subst (λ (t : ℕ). HasGoneOn job.program done new t was c) number (gone job.program may.kept.valid fits (subst (Fits job.program) same fitted)) in
          let acts = acted_on job old lease progress may planned begins before longer rest done new a at quiet l e is was c offers mine fits stood_so gone_so in (
            done_alone job old lease progress may planned begins before longer rest done new l e was c acts,
            kept_alone job old lease progress may planned begins before longer rest done new l e was c acts,
          )
