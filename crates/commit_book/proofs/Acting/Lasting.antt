-- What is left of a book by each act that moves no thread but its own and gets a value: the thread's probe, attempt, pin, reference, or write.
use Rattle.std.proofs.Common.{◌≡◌, ℕ, ℤ, ◌+◌, ◌<◌, ◌≤◌, ◌^◌, true, false, List, [], ◌∷◌, ◌++◌, length, Some, refl, sym, ap, subst, ◌∙◌, arith}
use Rattle.std.specs.Prelude.{pos}
use Rattle.std.specs.FinMap as map
use Rattle.stab_base.specs.Datum.{Datum, unit, int, reference}
use Rattle.stab_base.specs.declared.numbers.RefId.{RefId}
use Rattle.stab_base.specs.declared.numbers.Seq.{Seq}
use Rattle.stab_base.specs.declared.numbers.ThreadId.{ThreadId}
use Rattle.stab_code.specs.JobParts.{JobParts}
use Rattle.stab_code.specs.Program.{ProgramParts}
use Rattle.stab_journal.specs.declared.event.Label.{Label}
use Rattle.stab_journal.specs.declared.event.Label.TheVariants.{NewRef, Set, Print, Probe, Pin, Attempt}
use Rattle.stab_journal.specs.Generation.{generation}
use Rattle.stab_journal.specs.Journal.{Journal}
use Rattle.stab_journal.specs.Script.{probed, script_at}
use Rattle.comm_graph.specs.Edge.{NodeList}
use Rattle.comm_graph.specs.Node.{Node}
use Rattle.comm_graph.specs.declared.node.NodeFor.{NodeFor}
use Rattle.comm_graph.specs.declared.node.NodeFor.TheVariants as node
use Rattle.ref_log.specs.Calls.{IsAfter, made, wrote}
use Rattle.ref_log.specs.Log.{Log}
use Rattle.language.specs.Look.{answered}
use Rattle.language.specs.Numbers.{fits_word}
use Rattle.language.specs.Plain.{language_of}
use Rattle.language.specs.Table.{to}
use Rattle.step_eval.specs.declared.act.Act.TheVariants as own
use Rattle.step_eval.specs.Acts.{first_of, second_of}
use Rattle.step_eval.specs.Asked.{operands_of}
use Rattle.step_eval.specs.ControlView.{ControlView, expr_of}
use Rattle.step_eval.specs.Progress.{ProgressView}
use Rattle.commit_book.specs.declared.parts.Parts.{Parts}
use Rattle.commit_book.specs.Acting.{AreAsBefore, HasAnswered, IsDone, IsLonger, MayAct, StandsAt}
use Rattle.commit_book.specs.Layout.{IsKept, view_of}
use Rattle.commit_book.specs.Leases.{LeaseView}
use Rattle.commit_book.specs.Rows.{alone, local_of, thread}
use Rattle.commit_book.proofs.Acting.Acted.{both_answered, generation_at, thread_is}
use Rattle.commit_book.proofs.Keeping.KeptLocal.{IsReady}
use Rattle.commit_book.proofs.Keeping.Prints.{IsPutBehind}
use Rattle.commit_book.proofs.Acting.SingleActs.{ready_at}
use Rattle.commit_book.proofs.Acting.SingleLabels.{attempted, made_new, pinned, probed_next, set_to}
use Rattle.commit_book.proofs.Acting.SinglePrints.{printed_at}

module _ (job : JobParts) (old : Parts) (lease : LeaseView) (progress : ProgressView) (may : MayAct job old lease progress) (planned begins : Parts) (before : AreAsBefore old planned) (longer : IsLonger planned.history begins.history lease.worker (local_of lease.thread progress.steps)) (rest : begins ≡ record planned { history = begins.history }) where
  abbrev ready : IsReady (view_of job old) (view_of job begins) may.kept.shown.state (thread lease.thread) (expr_of job.program progress.end)
  ready = ready_at job old lease progress may planned begins before longer rest

  -- steps of the thread by its number
  by_thread : (h : Journal) (l : ThreadId → Label) (u : ThreadId) → u.0 ≡ lease.thread → IsLonger begins.history h lease.worker (l u ∷ []) → IsLonger begins.history h lease.worker (l (thread lease.thread) ∷ [])
  by_thread h l u number longer = subst (λ (y : ThreadId). IsLonger begins.history h lease.worker (l y ∷ [])) (thread_is u lease.thread number) longer

  module _ (pushed new : Parts) (u : ThreadId) (u_is : u.0 ≡ lease.thread) (more : pushed ≡ record begins { history = pushed.history }) (p : ProgramParts) (x : ThreadId) (c : ControlView) (program : p ≡ job.program) (x_is : x.0 ≡ lease.thread) (end : c ≡ progress.end) where
    pub attempt_lasts : StandsAt job.program progress.end own.Attempt → (g : ℕ) → g ≡ lease.generation → g < 2 ^ 63 → IsLonger begins.history pushed.history lease.worker (Attempt u g ∷ [])
        → (v : Datum) → v ≡ int (pos g) → HasAnswered p pushed new x.0 (answered (expr_of p c) v)
        → IsDone job old new lease progress (alone (Some (Attempt (thread lease.thread) (generation lease.thread old.history.events)))) × IsKept job new
    attempt_lasts at g g_is low history v value has =
        let now = generation lease.thread old.history.events in
        let same : g ≡ now = g_is ∙ generation_at job old lease progress may in
        let by_now : IsLonger begins.history pushed.history lease.worker (Attempt (thread lease.thread) now ∷ []) =
        subst (λ (k : ℕ). IsLonger begins.history pushed.history lease.worker (Attempt (thread lease.thread) k ∷ [])) same (by_thread pushed.history (λ y. Attempt y g) u u_is history) in
        both_answered job old lease progress may planned begins before longer rest pushed new own.Attempt at refl (Attempt (thread lease.thread) now)
        (to (language_of job.program) (answered (expr_of job.program progress.end) (int (pos now))))
        (attempted job old lease progress may planned begins before longer rest pushed at now refl (subst (λ (k : ℕ). k < 2 ^ 63) same low) by_now more)
        (ap (λ k. k.offers) more) p x c v (int (pos now)) program x_is end (value ∙ ap (λ k. int (pos k)) same) refl has

    pub probe_lasts : StandsAt job.program progress.end own.Probe → (i : ℤ) → i ≡ script_at job.script begins.tallies.probes → fits_word i ≡ true → IsLonger begins.history pushed.history lease.worker (Probe u i ∷ [])
        → (v : Datum) → v ≡ int i → HasAnswered p (record pushed { tallies = record pushed.tallies { probes = pushed.tallies.probes + 1 } }) new x.0 (answered (expr_of p c) v)
        → IsDone job old new lease progress (alone (Some (Probe (thread lease.thread) (script_at job.script (length (probed old.history.events)))))) × IsKept job new
    probe_lasts at i i_is fits history v value has =
        let next = script_at job.script (length (probed old.history.events)) in
        let counted : begins.tallies.probes ≡ length (probed old.history.events) = ap (λ (k : Parts). k.tallies.probes) rest ∙ ap (λ k. k.probes) before.tallies ∙ may.kept.tallied.probes in
        let same : i ≡ next = i_is ∙ ap (script_at job.script) counted in
        let done : Parts = record pushed { tallies = record pushed.tallies { probes = pushed.tallies.probes + 1 } } in
        let by_now : IsLonger begins.history pushed.history lease.worker (Probe (thread lease.thread) next ∷ []) =
        subst (λ (k : ℤ). IsLonger begins.history pushed.history lease.worker (Probe (thread lease.thread) k ∷ [])) same (by_thread pushed.history (λ y. Probe y i) u u_is history) in
        both_answered job old lease progress may planned begins before longer rest done new own.Probe at refl (Probe (thread lease.thread) next)
        (to (language_of job.program) (answered (expr_of job.program progress.end) (int next)))
        (probed_next job old lease progress may planned begins before longer rest done at next (ap (script_at job.script) (sym ready.probes)) (subst (λ (k : ℤ). fits_word k ≡ true) same fits) by_now
        (ap (λ (k : Parts). record k { tallies = record k.tallies { probes = k.tallies.probes + 1 } }) more))
        (ap (λ k. k.offers) more) p x c v (int next) program x_is end (value ∙ ap int same) refl has

    pub print_lasts : StandsAt job.program progress.end own.Print → IsLonger begins.history pushed.history lease.worker (Print u ∷ [])
        → (done : Parts) → done ≡ record pushed { printed = done.printed } → (q : ℕ) → q ≡ length begins.history.events + 1 → IsPutBehind pushed.printed done.printed q (first_of (operands_of progress.end))
        → (v : Datum) → v ≡ unit → HasAnswered p done new x.0 (answered (expr_of p c) v)
        → IsDone job old new lease progress (alone (Some (Print (thread lease.thread)))) × IsKept job new
    print_lasts at history done is q q_is printed v value has =
        let history_so : IsLonger begins.history done.history lease.worker (Print (thread lease.thread) ∷ []) =
        subst (λ (j : Journal). IsLonger begins.history j lease.worker (Print (thread lease.thread) ∷ [])) (sym (ap (λ (k : Parts). k.history) is)) (by_thread pushed.history Print u u_is history) in
        let whole : done ≡ record begins { history = done.history; printed = done.printed } =
        is ∙ ap (λ (k : Parts). record k { printed = done.printed }) more ∙ ap (λ (j : Journal). record begins { history = j; printed = done.printed }) (sym (ap (λ (k : Parts). k.history) is)) in
        both_answered job old lease progress may planned begins before longer rest done new own.Print at refl (Print (thread lease.thread))
        (record { mine = answered (expr_of job.program progress.end) unit; other = expr_of job.program progress.end; value = unit; printed = first_of (operands_of progress.end) ∷ [] })
        (printed_at job old lease progress may planned begins before longer rest done at history_so
        (subst (λ (n : ℕ). IsPutBehind begins.printed done.printed n (first_of (operands_of progress.end))) q_is (subst (λ (k : Parts). IsPutBehind k.printed done.printed q (first_of (operands_of progress.end))) more printed))
        whole)
        (ap (λ (k : Parts). k.offers) whole) p x c v unit program x_is end value refl has

    module _ (q : Seq) (q_is : q.0 ≡ length begins.history.events + 1) (w : ThreadId) (w_is : w.0 ≡ lease.thread) where
      -- the node of the step
      node_of : (old_nodes new_nodes : List Node) (k : ThreadId → NodeFor) → new_nodes ≡ old_nodes ++ record { number = q.0; kind = k w } ∷ [] → new_nodes ≡ old_nodes ++ record { number = length begins.history.events + 1; kind = k (thread lease.thread) } ∷ []
      node_of old_nodes new_nodes k is =
          is
          ∙ ap (λ (n : ℕ). old_nodes ++ record { number = n; kind = k w } ∷ []) q_is
          ∙ ap (λ (y : ThreadId). old_nodes ++ record { number = length begins.history.events + 1; kind = k y } ∷ []) (thread_is w lease.thread w_is)

      pub pin_lasts : StandsAt job.program progress.end own.Pin → IsLonger begins.history pushed.history lease.worker (Pin u ∷ [])
          → (graph : NodeList) → graph.nodes ≡ pushed.graph.nodes ++ record { number = q.0; kind = node.Pin w } ∷ []
          → (v : Datum) → v ≡ unit → HasAnswered p (record pushed { graph = graph }) new x.0 (answered (expr_of p c) v)
          → IsDone job old new lease progress (alone (Some (Pin (thread lease.thread)))) × IsKept job new
      pin_lasts at history graph nodes v value has =
          both_answered job old lease progress may planned begins before longer rest (record pushed { graph = graph }) new own.Pin at refl (Pin (thread lease.thread))
          (to (language_of job.program) (answered (expr_of job.program progress.end) unit))
          (pinned job old lease progress may planned begins before longer rest (record pushed { graph = graph }) at (by_thread pushed.history Pin u u_is history)
          (node_of begins.graph.nodes graph.nodes node.Pin (nodes ∙ ap (λ (k : Parts). k.graph.nodes ++ record { number = q.0; kind = node.Pin w } ∷ []) more))
          (ap (λ (k : Parts). record k { graph = graph }) more))
          (ap (λ k. k.offers) more) p x c v unit program x_is end value refl has

      pub set_lasts : (r : RefId) → StandsAt job.program progress.end (own.Set r) → map.contains_key ready.state.references r.0 ≡ true → r.0 < begins.next_ref → IsLonger begins.history pushed.history lease.worker (Set u r ∷ [])
          → (log : Log) (written : Datum) → written ≡ second_of (operands_of progress.end) → IsAfter (wrote r.0 q.0 written) pushed.log log
          → (graph : NodeList) → graph.nodes ≡ pushed.graph.nodes ++ record { number = q.0; kind = node.Set w } ∷ []
          → (v : Datum) → v ≡ unit → HasAnswered p (record pushed { log = log; graph = graph }) new x.0 (answered (expr_of p c) v)
          → IsDone job old new lease progress (alone (Some (Set (thread lease.thread) r))) × IsKept job new
      set_lasts r at there low history log written written_is after graph nodes v value has =
          let done : Parts = record pushed { log = log; graph = graph } in
          let second = second_of (operands_of progress.end) in
          let after_so : IsAfter (wrote r.0 (length begins.history.events + 1) second) begins.log log =
          subst (λ (k : Parts). IsAfter (wrote r.0 (length begins.history.events + 1) second) k.log log) more
          (subst (λ (n : ℕ). IsAfter (wrote r.0 n second) pushed.log log) q_is (subst (λ (d : Datum). IsAfter (wrote r.0 q.0 d) pushed.log log) written_is after)) in
          both_answered job old lease progress may planned begins before longer rest done new (own.Set r) at refl (Set (thread lease.thread) r)
          (record { mine = answered (expr_of job.program progress.end) unit; other = expr_of job.program progress.end; value = second; printed = [] })
          (set_to job old lease progress may planned begins before longer rest done r at there low (by_thread pushed.history (λ y. Set y r) u u_is history) after_so
          (node_of begins.graph.nodes graph.nodes node.Set (nodes ∙ ap (λ (k : Parts). k.graph.nodes ++ record { number = q.0; kind = node.Set w } ∷ []) more))
          (ap (λ (k : Parts). record k { log = log; graph = graph }) more))
          (ap (λ k. k.offers) more) p x c v unit program x_is end value refl has

      pub ref_lasts : (r : RefId) → r.0 ≡ old.next_ref → StandsAt job.program progress.end own.NewRef → map.contains_key ready.state.references begins.next_ref ≡ false → IsLonger begins.history pushed.history lease.worker (NewRef u r ∷ [])
          → (log : Log) (written : Datum) → written ≡ first_of (operands_of progress.end) → IsAfter (made r.0 q.0 written) pushed.log log
          → (graph : NodeList) → graph.nodes ≡ pushed.graph.nodes ++ record { number = q.0; kind = node.NewRef w } ∷ []
          → (v : Datum) → v ≡ reference r.0 → HasAnswered p (record pushed { log = log; graph = graph; next_ref = pushed.next_ref + 1 }) new x.0 (answered (expr_of p c) v)
          → IsDone job old new lease progress (alone (Some (NewRef (thread lease.thread) (record { 0 = old.next_ref })))) × IsKept job new
      ref_lasts r r_is at away history log written written_is after graph nodes v value has =
          let done : Parts = record pushed { log = log; graph = graph; next_ref = pushed.next_ref + 1 } in
          let first = first_of (operands_of progress.end) in
          let next : old.next_ref ≡ begins.next_ref = sym (ap (λ (k : Parts). k.next_ref) rest ∙ before.ref) in
          let same : r.0 ≡ begins.next_ref = r_is ∙ next in
          let by_now : IsLonger begins.history pushed.history lease.worker (NewRef (thread lease.thread) (record { 0 = begins.next_ref }) ∷ []) =
          subst (λ (n : ℕ). IsLonger begins.history pushed.history lease.worker (NewRef (thread lease.thread) (record { 0 = n }) ∷ [])) same (by_thread pushed.history (λ y. NewRef y r) u u_is history) in
          let after_so : IsAfter (made begins.next_ref (length begins.history.events + 1) first) begins.log log =
          subst (λ (k : Parts). IsAfter (made begins.next_ref (length begins.history.events + 1) first) k.log log) more
          (subst (λ (n : ℕ). IsAfter (made n (length begins.history.events + 1) first) pushed.log log) same
          (subst (λ (n : ℕ). IsAfter (made r.0 n first) pushed.log log) q_is (subst (λ (d : Datum). IsAfter (made r.0 q.0 d) pushed.log log) written_is after))) in
          let both : IsDone job old new lease progress (alone (Some (NewRef (thread lease.thread) (record { 0 = begins.next_ref })))) × IsKept job new =
          both_answered job old lease progress may planned begins before longer rest done new own.NewRef at refl (NewRef (thread lease.thread) (record { 0 = begins.next_ref }))
          (record { mine = answered (expr_of job.program progress.end) (reference begins.next_ref); other = expr_of job.program progress.end; value = first; printed = [] })
          (made_new job old lease progress may planned begins before longer rest done at away by_now after_so
          (node_of begins.graph.nodes graph.nodes node.NewRef (nodes ∙ ap (λ (k : Parts). k.graph.nodes ++ record { number = q.0; kind = node.NewRef w } ∷ []) more))
          (ap (λ (k : Parts). record k { log = log; graph = graph; next_ref = k.next_ref + 1 }) more))
          (ap (λ k. k.offers) more) p x c v (reference begins.next_ref) program x_is end (value ∙ ap reference same) refl has in
          subst (λ (n : ℕ). IsDone job old new lease progress (alone (Some (NewRef (thread lease.thread) (record { 0 = n })))) × IsKept job new) (sym next) both

-- an act has its operands
pub one_long : (n : ℕ) → Some 1 ≡ Some n → 1 ≤ n
one_long n is = let same : 1 ≡ n = cc in omega arith

pub two_long : (n : ℕ) → Some 2 ≡ Some n → 2 ≤ n
two_long n is = let same : 2 ≡ n = cc in omega arith
