-- What the calls leave by which a child is started.
use Rattle.std.proofs.Common.{◌≡◌, ℕ, ◌+◌, ◌<◌, Bool, true, false, cond, nat_eq, [], ◌∷◌, ◌++◌, length, Option, Some, sym, ap, subst, ◌∙◌}
use Rattle.std.specs.Prelude.{IfSome, IsSome, is_some}
use Rattle.std.specs.Ordering.{nat_cmp}
use Rattle.std.specs.FinMap as map
use Rattle.std.specs.FinMap.{FinMap}
use Rattle.stab_base.specs.Datum.{Datum, unit}
use Rattle.stab_base.specs.declared.numbers.FnId.{FnId}
use Rattle.stab_base.specs.declared.numbers.Seq.{Seq}
use Rattle.stab_base.specs.declared.numbers.ThreadId.{ThreadId}
use Rattle.stab_code.specs.JobParts.{JobParts}
use Rattle.stab_code.specs.Program.{ProgramParts}
use Rattle.stab_journal.specs.declared.event.Label.TheVariants.{Spawn}
use Rattle.comm_graph.specs.declared.node.NodeFor.TheVariants as node
use Rattle.thread_slots.specs.Slot.{Slot, started}
use Rattle.language.specs.Look.{answered}
use Rattle.language.specs.Outcome.{called}
use Rattle.language.specs.Program.{body}
use Rattle.language.proofs.Applying.{get_inserted}
use Rattle.step_eval.specs.declared.act.Act.TheVariants as own
use Rattle.step_eval.specs.Asked.{operands_of}
use Rattle.step_eval.specs.ControlView.{ControlView, Fits, expr_of}
use Rattle.step_eval.specs.Progress.{ProgressView}
use Rattle.commit_book.specs.declared.parts.Parts.{Parts}
use Rattle.commit_book.specs.Acting.{AreAsBefore, HasAnswered, HasJoined, IsDone, IsLonger, MayAct, StandsAt, fails_now}
use Rattle.commit_book.specs.Book.{over}
use Rattle.commit_book.specs.Doing.{is_failed}
use Rattle.commit_book.specs.Layout.{IsKept, view_of}
use Rattle.commit_book.specs.Leases.{LeaseView}
use Rattle.commit_book.specs.Rows.{local_of, starts, thread}
use Rattle.commit_book.specs.Threads.{AllControls}
use Rattle.commit_book.proofs.Keeping.Floors.{differs_too}
use Rattle.commit_book.proofs.Threads.Going.{get_besides}
use Rattle.commit_book.proofs.Keeping.KeptLocal.{IsReady}
use Rattle.commit_book.proofs.Acting.PairActs.{IsSpawned, done_spawned, kept_spawned}
use Rattle.commit_book.proofs.Acting.PairNeeds.{few_then}
use Rattle.commit_book.proofs.Acting.SingleActs.{low_at, ready_at, slot_at}

-- one more that fits
fit_insert : (p : ProgramParts) (m : FinMap nat_cmp (Slot ControlView)) (n : ℕ) (s : Slot ControlView) → AllControls (Fits p) m → Fits p s.control → AllControls (Fits p) (map.insert m n s)
fit_insert p m n s all one x = subst (λ (o : Option (Slot ControlView)). IfSome o (λ k. Fits p k.control)) (sym (get_inserted m n s x)) (by (nat_eq x n))
  where
    by : (b : Bool) → IfSome (cond b (Some s) (map.get m x)) (λ k. Fits p k.control)
    by true = one
    by false = all x

module _ (job : JobParts) (old : Parts) (lease : LeaseView) (progress : ProgressView) (may : MayAct job old lease progress) (noted joined : Parts) (child : ControlView) (joins : HasJoined job.program noted joined child)
    (same_threads : noted.slots.threads ≡ old.slots.threads) (same_next : noted.slots.next ≡ old.slots.next) (same_count : noted.tallies.faulted ≡ old.tallies.faulted) where
  abbrev child_slot : Slot ControlView
  child_slot = started child (over job.program child)

  threads_joined : joined.slots.threads ≡ map.insert old.slots.threads old.slots.next child_slot
  threads_joined =
      joins.threads
      ∙ ap (λ (m : FinMap nat_cmp (Slot ControlView)). map.insert m noted.slots.next child_slot) same_threads
      ∙ ap (λ (n : ℕ). map.insert old.slots.threads n child_slot) same_next

  pub there_joined : (t : ℕ) → t ≡ lease.thread → IsSome (map.get joined.slots.threads t)
  there_joined t at =
      ap is_some
      (ap (map.get joined.slots.threads) at
      ∙ ap (λ m. map.get m lease.thread) threads_joined
      ∙ get_besides old.slots.threads old.slots.next lease.thread child_slot (differs_too lease.thread old.slots.next (low_at job old lease progress may))
      ∙ (slot_at job old lease progress may).found)

  pub few_joined : joined.tallies.faulted < 4294967296
  few_joined =
      few_then job old lease progress may joined.tallies.faulted false (is_failed (expr_of job.program child))
      (ap (λ k. k.faulted) joins.tallies ∙ ap (λ (n : ℕ). n + fails_now false (is_failed (expr_of job.program child))) same_count)

  pub fit_joined : Fits job.program child → AllControls (Fits job.program) joined.slots.threads
  fit_joined fits =
      subst (AllControls (Fits job.program)) (sym threads_joined)
      (fit_insert job.program old.slots.threads old.slots.next child_slot may.kept.shown.shows.threads.fit fits)

module _ (job : JobParts) (old : Parts) (lease : LeaseView) (progress : ProgressView) (may : MayAct job old lease progress) (f : FnId) (at : StandsAt job.program progress.end (own.Spawn f))
    (planned begins noted joined new : Parts) (before : AreAsBefore old planned) (longer : IsLonger planned.history begins.history lease.worker (local_of lease.thread progress.steps)) (rest : begins ≡ record planned { history = begins.history })
    (child control : ControlView) (t u : ThreadId) (q : Seq) (v : Datum) (p r : ProgramParts) (p_is : p ≡ job.program) (r_is : r ≡ job.program) (t_is : t.0 ≡ lease.thread) (u_is : u.0 ≡ planned.slots.next)
    (stands : expr_of p child ≡ called (body p) f.0 (operands_of progress.end)) (fits : Fits job.program child) (q_is : q.0 ≡ length begins.history.events + 1)
    (pushed : IsLonger begins.history noted.history lease.worker (Spawn t u ∷ [])) (nodes : noted.graph.nodes ≡ begins.graph.nodes ++ record { number = q.0; kind = node.Spawn t u } ∷ [])
    (noted_rest : noted ≡ record begins { history = noted.history; graph = noted.graph }) (joins : HasJoined job.program noted joined child)
    (control_is : control ≡ progress.end) (v_is : v ≡ unit) (answers : HasAnswered r joined new t.0 (answered (expr_of r control) v)) where
  ready : IsReady (view_of job old) (view_of job begins) may.kept.shown.state (thread lease.thread) (expr_of job.program progress.end)
  ready = ready_at job old lease progress may planned begins before longer rest

  him : t ≡ thread lease.thread
  him = ap thread t_is

  spawned : IsSpawned job old lease progress may planned begins before longer rest ready noted joined new u f child
  spawned = record {
    looks = at.look;
    number = u_is ∙ before.next;
    stands = subst (λ (k : ProgramParts). expr_of k child ≡ called (body k) f.0 (operands_of progress.end)) p_is stands;
    fits = fits;
    history = subst (λ (k : ThreadId). IsLonger begins.history noted.history lease.worker (Spawn k u ∷ [])) him pushed;
    nodes =
        nodes
        ∙ ap (λ (k : ℕ). begins.graph.nodes ++ record { number = k; kind = node.Spawn t u } ∷ []) q_is
        ∙ ap (λ (k : ThreadId). begins.graph.nodes ++ record { number = length begins.history.events + 1; kind = node.Spawn k u } ∷ []) him;
    noted_rest = noted_rest;
    joins = joins;
    answers =
        subst (λ (k : ProgramParts). HasAnswered k joined new lease.thread (answered (expr_of k progress.end) unit)) r_is
        (subst (λ (k : Datum). HasAnswered r joined new lease.thread (answered (expr_of r progress.end) k)) v_is
        (subst (λ (k : ControlView). HasAnswered r joined new lease.thread (answered (expr_of r k) v)) control_is
        (subst (λ (k : ℕ). HasAnswered r joined new k (answered (expr_of r control) v)) t_is answers)));
  }

  pub start_lasts : IsDone job old new lease progress (starts old.slots.next) × IsKept job new
  start_lasts = (
    done_spawned job old lease progress may planned begins before longer rest ready noted joined new u f child spawned,
    kept_spawned job old lease progress may planned begins before longer rest ready noted joined new u f child spawned,
  )
