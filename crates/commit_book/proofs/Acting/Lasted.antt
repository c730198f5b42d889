-- What is left of a book by an act after which the thread goes on from a control that was made for it: a section that is entered, a reference that is read, a stabilize that is refused.
use Rattle.std.proofs.Common.{◌≡◌, ℕ, suc, ◌+◌, ◌<◌, Bool, true, false, cond, nat_eq, List, [], ◌∷◌, ◌++◌, length, Option, Some, None, refl, sym, ap, subst, ◌∙◌, length-append, arith}
use Rattle.std.specs.Prelude.{IfSome, option_map, if◌then◌else◌}
use Rattle.std.specs.FinMap as map
use Rattle.stab_base.specs.Datum.{Datum}
use Rattle.stab_base.specs.declared.fault.Fault.TheVariants.{NoSection}
use Rattle.stab_base.specs.declared.numbers.FnId.{FnId}
use Rattle.stab_base.specs.declared.numbers.RefId.{RefId}
use Rattle.stab_base.specs.declared.numbers.Seq.{Seq}
use Rattle.stab_base.specs.declared.numbers.ThreadId.{ThreadId}
use Rattle.stab_code.specs.JobParts.{JobParts}
use Rattle.stab_code.specs.Program.{ProgramParts}
use Rattle.stab_code.specs.Valid.{IsValid}
use Rattle.stab_journal.specs.declared.event.Label.{Label}
use Rattle.stab_journal.specs.declared.event.Label.TheVariants.{Local, Get, Enter, Refuse}
use Rattle.stab_journal.specs.declared.event.Numbered.{Numbered}
use Rattle.stab_journal.specs.Floor.{is_mark_revocable}
use Rattle.stab_journal.specs.Journal.{Journal, survivors}
use Rattle.thread_slots.specs.Slot.{Slot}
use Rattle.checkpoint_store.specs.Saved.{Saved, is_place, saved_at}
use Rattle.comm_graph.specs.Edge.{NodeList}
use Rattle.comm_graph.specs.Node.{Node}
use Rattle.comm_graph.specs.declared.node.NodeFor.{NodeFor}
use Rattle.comm_graph.specs.declared.node.NodeFor.TheVariants as node
use Rattle.ref_log.specs.Log.{Write}
use Rattle.language.specs.Expression.{Expr, failed}
use Rattle.language.specs.Look.{answered, entered}
use Rattle.language.specs.Outcome.{called}
use Rattle.language.specs.Plain.{language_of}
use Rattle.language.specs.Program.{body}
use Rattle.language.specs.Redex.{mark}
use Rattle.language.specs.Table.{to}
use Rattle.step_eval.specs.declared.act.Act.TheVariants as own
use Rattle.step_eval.specs.Asked.{operands_of}
use Rattle.step_eval.specs.ControlView.{ControlView, Fits, expr_of}
use Rattle.step_eval.specs.Progress.{ProgressView}
use Rattle.commit_book.specs.declared.done.Outcome.TheVariants as outcome
use Rattle.commit_book.specs.declared.parts.Parts.{Parts}
use Rattle.commit_book.specs.Acting.{AreAsBefore, HasGoneOn, IsDone, IsLonger, IsPerformed, MayAct, StandsAt, number_after}
use Rattle.commit_book.specs.Commits.{row_at}
use Rattle.commit_book.specs.Layout.{IsKept, view_of}
use Rattle.commit_book.specs.Leases.{LeaseView}
use Rattle.commit_book.specs.Rows.{alone, local_of, section_row, thread, undoes, events_by}
use Rattle.commit_book.specs.Step.{wrote_after}
use Rattle.commit_book.proofs.Acting.Acted.{both_gone, thread_is}
use Rattle.commit_book.proofs.Acting.EffectsHeld.{Holds}
use Rattle.commit_book.proofs.Keeping.KeptLocal.{IsReady}
use Rattle.commit_book.proofs.Keeping.NodeSteps.{number_in}
use Rattle.commit_book.proofs.Acting.Performed.{performed_as}
use Rattle.commit_book.proofs.Acting.Rowing.{row_stabilize}
use Rattle.commit_book.proofs.Keeping.SameSections.{same_sections}
use Rattle.commit_book.proofs.Acting.SingleActs.{ready_at}
use Rattle.commit_book.proofs.Acting.SingleLabels.{entered_at, got, refused}

-- the last write that was read
pub read_so : (o : Option Write) (v : Datum) (q n : ℕ) (e : Expr) (f : Datum → Expr) → option_map (λ (w : Write). w.value) o ≡ Some v → number_in o ≡ n → IfSome o (λ (w : Write). (q ≡ w.number) × (e ≡ f w.value)) → (q ≡ n) × (e ≡ f v)
read_so None v q n e f holds number read = absurd (cc)
read_so (Some w) v q n e f holds number read = let same : w.value ≡ v = cc in (read.0 ∙ number, read.1 ∙ ap f same)

pushed_long : (worker : ℕ) (ls : List Label) → length (events_by worker ls) ≡ length ls
pushed_long worker [] = refl
pushed_long worker (l ∷ ls) = ap suc (pushed_long worker ls)

local_long : (t u n : ℕ) → length (local_of t n) ≡ length (local_of u n)
local_long t u n = by (nat_eq n 0)
  where
    by : (b : Bool) → length (cond b [] (Local (thread t) n ∷ [])) ≡ length (cond b [] (Local (thread u) n ∷ []))
    by true = refl
    by false = refl

not_granted : (run : List Numbered) (t : ℕ) (m : Option ℕ) → is_mark_revocable run m ≡ false → section_row run t m ≡ alone (Some (Refuse (thread t)))
not_granted run t None held = refl
not_granted run t (Some m) held = ap (λ b. cond b (undoes m) (alone (Some (Refuse (thread t))))) held

module _ (job : JobParts) (old : Parts) (lease : LeaseView) (progress : ProgressView) where
  -- a stabilize that isn't granted is refused
  pub row_refused : StandsAt job.program progress.end own.Stabilize → is_mark_revocable (survivors old.history) (mark (expr_of job.program progress.end)) ≡ false → row_at (view_of job old) lease progress ≡ alone (Some (Refuse (thread lease.thread)))
  row_refused at held = row_stabilize (view_of job old) lease progress at ∙ not_granted (survivors old.history) lease.thread (mark (expr_of job.program progress.end)) held

  pub refused_here : (new : Parts) → StandsAt job.program progress.end own.Stabilize → is_mark_revocable (survivors old.history) (mark (expr_of job.program progress.end)) ≡ false → IsDone job old new lease progress (alone (Some (Refuse (thread lease.thread)))) → IsPerformed job old new lease progress outcome.Taken
  refused_here new at held is = performed_as job old lease progress new (alone (Some (Refuse (thread lease.thread)))) (row_refused at held) refl is

module _ (job : JobParts) (old : Parts) (lease : LeaseView) (progress : ProgressView) (may : MayAct job old lease progress) (planned begins : Parts) (before : AreAsBefore old planned) (longer : IsLonger planned.history begins.history lease.worker (local_of lease.thread progress.steps)) (rest : begins ≡ record planned { history = begins.history }) where
  abbrev ready : IsReady (view_of job old) (view_of job begins) may.kept.shown.state (thread lease.thread) (expr_of job.program progress.end)
  ready = ready_at job old lease progress may planned begins before longer rest

  by_thread : (h : Journal) (l : ThreadId → Label) (u : ThreadId) → u.0 ≡ lease.thread → IsLonger begins.history h lease.worker (l u ∷ []) → IsLonger begins.history h lease.worker (l (thread lease.thread) ∷ [])
  by_thread h l u number longer = subst (λ (y : ThreadId). IsLonger begins.history h lease.worker (l y ∷ [])) (thread_is u lease.thread number) longer

  -- the act's step has the number that was foretold
  foretold : number_after old.history progress ≡ length begins.history.events + 1
  foretold =
      let pushed : length begins.history.events ≡ length planned.history.events + length (local_of 0 progress.steps) =
      ap length longer.events ∙ length-append planned.history.events (events_by lease.worker (local_of lease.thread progress.steps))
      ∙ ap (λ n. length planned.history.events + n) (pushed_long lease.worker (local_of lease.thread progress.steps) ∙ local_long lease.thread 0 progress.steps) in
      let same : length planned.history.events ≡ length old.history.events = ap (λ (j : Journal). length j.events) before.history in
      omega (arith, pushed, same)

  module _ (pushed new : Parts) (u : ThreadId) (u_is : u.0 ≡ lease.thread) (more : pushed ≡ record begins { history = pushed.history }) (x : ThreadId) (x_is : x.0 ≡ lease.thread) (was c : ControlView) (fits : Fits job.program c) where
    pub refuse_lasts : StandsAt job.program progress.end own.Stabilize → is_mark_revocable (survivors old.history) (mark (expr_of job.program progress.end)) ≡ false → IsLonger begins.history pushed.history lease.worker (Refuse u ∷ [])
        → expr_of job.program c ≡ failed NoSection → IfSome (map.get pushed.slots.threads x.0) (λ (k : Slot ControlView). k.control ≡ was)
        → ((p : ProgramParts) → IsValid p → Fits p c → Fits p was → HasGoneOn p pushed new x.0 was c)
        → IsPerformed job old new lease progress outcome.Taken × IsKept job new
    refuse_lasts at held history expr stood gone =
        let both : IsDone job old new lease progress (alone (Some (Refuse (thread lease.thread)))) × IsKept job new =
        both_gone job old lease progress may planned begins before longer rest pushed new own.Stabilize at refl (Refuse (thread lease.thread)) (to (language_of job.program) (failed NoSection))
        (refused job old lease progress may planned begins before longer rest pushed at (sym (same_sections job old lease progress may planned begins before longer rest (mark (expr_of job.program progress.end))) ∙ held) (by_thread pushed.history (λ y. Refuse y) u u_is history) more)
        (ap (λ k. k.offers) more) x was c x_is (sym expr) fits stood gone in
        (refused_here job old lease progress new at held both.0, both.1)

    module _ (q : Seq) (q_is : q.0 ≡ length begins.history.events + 1) (y w : ThreadId) (y_is : y.0 ≡ lease.thread) (w_is : w.0 ≡ lease.thread) (saved : Saved ControlView) (end : ControlView) (end_is : end ≡ progress.end)
        (saves : (k : Seq) (z : ThreadId) → saved_at saved k z ≡ (if is_place q y k z then Some end else saved_at pushed.store k z)) where
      saves_so : (k : Seq) (z : ThreadId) → map.get saved.controls (k, z) ≡ (if is_place (record { 0 = length begins.history.events + 1 }) (thread lease.thread) k z then Some progress.end else map.get begins.store.controls (k, z))
      saves_so k z =
          saves k z
          ∙ ap (λ (n : ℕ). if is_place (record { 0 = n }) y k z then Some end else saved_at pushed.store k z) q_is
          ∙ ap (λ (v : ThreadId). if is_place (record { 0 = length begins.history.events + 1 }) v k z then Some end else saved_at pushed.store k z) (thread_is y lease.thread y_is)
          ∙ ap (λ (v : ControlView). if is_place (record { 0 = length begins.history.events + 1 }) (thread lease.thread) k z then Some v else saved_at pushed.store k z) end_is
          ∙ ap (λ (v : Parts). if is_place (record { 0 = length begins.history.events + 1 }) (thread lease.thread) k z then Some progress.end else saved_at v.store k z) more

      node_of : (nodes : List Node) (k : ThreadId → NodeFor) → nodes ≡ pushed.graph.nodes ++ record { number = q.0; kind = k w } ∷ [] → nodes ≡ begins.graph.nodes ++ record { number = length begins.history.events + 1; kind = k (thread lease.thread) } ∷ []
      node_of nodes k is =
          is
          ∙ ap (λ (v : Parts). v.graph.nodes ++ record { number = q.0; kind = k w } ∷ []) more
          ∙ ap (λ (n : ℕ). begins.graph.nodes ++ record { number = n; kind = k w } ∷ []) q_is
          ∙ ap (λ (v : ThreadId). begins.graph.nodes ++ record { number = length begins.history.events + 1; kind = k v } ∷ []) (thread_is w lease.thread w_is)

      module _ (graph : NodeList) (stood : IfSome (map.get pushed.slots.threads x.0) (λ (k : Slot ControlView). k.control ≡ was)) (gone : (p : ProgramParts) → IsValid p → Fits p c → Fits p was → HasGoneOn p (record pushed { store = saved; graph = graph }) new x.0 was c) where
        pub enter_lasts : (f : FnId) → StandsAt job.program progress.end (own.Enter f) → IsLonger begins.history pushed.history lease.worker (Enter u ∷ [])
            → graph.nodes ≡ pushed.graph.nodes ++ record { number = q.0; kind = node.Enter w } ∷ []
            → expr_of job.program c ≡ entered (expr_of job.program progress.end) (number_after old.history progress) (called (body job.program) f.0 (operands_of progress.end))
            → IsDone job old new lease progress (alone (Some (Enter (thread lease.thread)))) × IsKept job new
        enter_lasts f at history nodes expr =
            let b = called (body job.program) f.0 (operands_of progress.end) in
            both_gone job old lease progress may planned begins before longer rest (record pushed { store = saved; graph = graph }) new (own.Enter f) at refl (Enter (thread lease.thread))
            (to (language_of job.program) (entered (expr_of job.program progress.end) (length begins.history.events + 1) b))
            (entered_at job old lease progress may planned begins before longer rest (record pushed { store = saved; graph = graph }) f at b refl (by_thread pushed.history (λ v. Enter v) u u_is history) saves_so (node_of graph.nodes (λ v. node.Enter v) nodes)
            (ap (λ (k : Parts). record k { store = saved; graph = graph }) more))
            (ap (λ k. k.offers) more) x was c x_is
            (sym (expr ∙ ap (λ (n : ℕ). entered (expr_of job.program progress.end) n b) foretold)) fits stood gone

        pub get_lasts : (r : RefId) → StandsAt job.program progress.end (own.Get r) → (held : Holds ready.state r.0) → r.0 < begins.next_ref → IsLonger begins.history pushed.history lease.worker (Get u r ∷ [])
            → (written : Seq) → graph.nodes ≡ pushed.graph.nodes ++ record { number = q.0; kind = node.Get w written } ∷ []
            → (written.0 ≡ wrote_after (λ _. 0) ready.run r.0) × (expr_of job.program c ≡ answered (expr_of job.program progress.end) held.value)
            → IsDone job old new lease progress (alone (Some (Get (thread lease.thread) r))) × IsKept job new
        get_lasts r at held low history written nodes read =
            both_gone job old lease progress may planned begins before longer rest (record pushed { store = saved; graph = graph }) new (own.Get r) at refl (Get (thread lease.thread) r)
            (to (language_of job.program) (answered (expr_of job.program progress.end) held.value))
            (got job old lease progress may planned begins before longer rest (record pushed { store = saved; graph = graph }) r at held.value written.0 held.is low read.0 (by_thread pushed.history (λ v. Get v r) u u_is history) saves_so
            (node_of graph.nodes (λ v. node.Get v written) nodes)
            (ap (λ (k : Parts). record k { store = saved; graph = graph }) more))
            (ap (λ k. k.offers) more) x was c x_is (sym read.1) fits stood gone
