-- What the parts of a book need for the step of an act, once the pure steps are pushed.
use Rattle.std.proofs.Common.{◌≡◌, ◌≢◌, ℕ, ◌+◌, ◌<◌, ◌≤◌, true, false, List, [], length, sym, ap, subst, ◌∙◌, arith}
use Rattle.std.specs.Prelude.{IfSome, IsSome}
use Rattle.std.specs.List.{All}
use Rattle.std.specs.FinMap as map
use Rattle.std.specs.FinMap.{FinMap}
use Rattle.std.specs.Ordering.{nat_cmp}
use Rattle.stab_base.specs.Datum.{Datum}
use Rattle.stab_base.specs.declared.numbers.RefId.{RefId}
use Rattle.stab_base.specs.declared.numbers.Seq.{Seq}
use Rattle.stab_base.specs.declared.numbers.ThreadId.{ThreadId}
use Rattle.stab_code.specs.JobParts.{JobParts}
use Rattle.stab_journal.specs.Event.{IsGeneration, IsName}
use Rattle.checkpoint_store.specs.Saved.{Saved, IsBelow, saved_at}
use Rattle.comm_graph.specs.Node.{Node}
use Rattle.ref_log.specs.Calls.{IsAllowed, cut, made, wrote}
use Rattle.ref_log.specs.Log.{Log, Write, last_of, writes_of}
use Rattle.language.specs.Expression.{Expr}
use Rattle.language.specs.Table.{gets, sets}
use Rattle.step_eval.specs.declared.act.Act.TheVariants as own
use Rattle.step_eval.specs.Acts.{second_of}
use Rattle.step_eval.specs.Asked.{operands_of}
use Rattle.step_eval.specs.ControlView.{ControlView, expr_of}
use Rattle.step_eval.specs.Progress.{ProgressView}
use Rattle.commit_book.specs.declared.parts.Parts.{Parts}
use Rattle.commit_book.specs.Acting.{AreAsBefore, IsLonger, MayAct, StandsAt}
use Rattle.commit_book.specs.Layout.{view_of}
use Rattle.commit_book.specs.Leases.{LeaseView}
use Rattle.commit_book.specs.Rows.{local_of, thread}
use Rattle.commit_book.specs.References.{writes_at}
use Rattle.commit_book.specs.Step.{wrote_after}
use Rattle.commit_book.proofs.Acting.Acted.{generation_at}
use Rattle.commit_book.proofs.Acting.EffectsHeld.{Holds, act_known, holds_of, known_at}
use Rattle.commit_book.proofs.Acting.EffectsLocal.{act_there}
use Rattle.commit_book.proofs.Keeping.KeptLocal.{IsReady}
use Rattle.commit_book.proofs.Acting.Lasted.{read_so}
use Rattle.commit_book.proofs.Keeping.Room.{chan_begins, chan_name, generation_within, probes_few, ref_begins, ref_name, chan_within, ref_within}
use Rattle.commit_book.proofs.Keeping.RoomHere.{reference_away, reference_below}
use Rattle.commit_book.proofs.Keeping.RoomKept.{last_before, last_number, may_cut, may_make, may_save, may_write, nodes_before, some_writes}
use Rattle.commit_book.proofs.Keeping.RoomNames.{ref_from}
use Rattle.commit_book.proofs.Acting.SingleActs.{few_at, journal_at, ready_at, room_at, stands_there}

module _ (job : JobParts) (old : Parts) (lease : LeaseView) (progress : ProgressView) (may : MayAct job old lease progress) where
  -- the next channel and the next reference have names
  pub chan_named : (d : ℕ) → d ≡ old.next_chan → IsName d
  chan_named d is =
      let j = journal_at job old lease progress may in
      subst IsName (sym is)
      (chan_name 1 old.history.events (room_at job old lease progress may) old.slots.next old.next_chan old.next_ref j.few old.next_chan (chan_begins old.history.events old.slots.next old.next_chan old.next_ref j.next) (omega arith))

  pub ref_named : (r : ℕ) → r ≡ old.next_ref → IsName r
  ref_named r is =
      let j = journal_at job old lease progress may in
      subst IsName (sym is)
      (ref_name 1 old.history.events (room_at job old lease progress may) old.slots.next old.next_chan old.next_ref j.few old.next_ref (ref_begins old.history.events old.slots.next old.next_chan old.next_ref j.next) (omega arith))

  pub chan_low : old.next_chan ≤ 4294967293
  chan_low = chan_within 1 old.history.events (room_at job old lease progress may) old.slots.next old.next_chan old.next_ref (journal_at job old lease progress may).few

  pub ref_low : old.next_ref ≤ 4294967293
  ref_low = ref_within 1 old.history.events (room_at job old lease progress may) old.slots.next old.next_chan old.next_ref (journal_at job old lease progress may).few

  -- the counts that go up have room
  pub probes_low : (n : ℕ) → n ≡ old.tallies.probes → n ≤ 4294967294
  probes_low n is = omega (arith, is, may.kept.tallied.probes, probes_few old.history.events, few_at job old lease progress may)

  pub generation_named : (g : ℕ) → g ≡ lease.generation → IsGeneration g
  generation_named g is = subst IsGeneration (sym (is ∙ generation_at job old lease progress may)) (generation_within 1 old.history.events (room_at job old lease progress may) lease.thread)

  module _ (r : RefId) where
    there_before : map.contains_key may.kept.shown.state.references r.0 ≡ true → IsName r.0
    there_before there =
        let shown = may.kept.shown in
        let j = journal_at job old lease progress may in
        ref_name 1 old.history.events (room_at job old lease progress may) old.slots.next old.next_chan old.next_ref j.few r.0
        (ref_from job.program old.history.events shown.run shown.state j.history.stands may.ranges r.0 there)
        (let low = reference_below (view_of job old) shown.run shown.state j r.0 there in omega (arith, low))

  -- the reference of a get has a write before the pure steps already
  pub got_before : (r : RefId) → StandsAt job.program progress.end (own.Get r) → writes_of old.log r.0 ≢ []
  got_before r at =
      let shown = may.kept.shown in
      let j = journal_at job old lease progress may in
      some_writes (view_of job old) shown.run shown.state j r.0
      (act_there job.program shown.state (length old.history.events + 1) (thread lease.thread) progress.steps progress.origin progress.end (stands_there job old lease progress may) may.made
      (known_at job.program old.history.events shown.run shown.state j.history.stands) (gets r.0) at.look)

  module _ (planned begins : Parts) (before : AreAsBefore old planned) (longer : IsLonger planned.history begins.history lease.worker (local_of lease.thread progress.steps)) (rest : begins ≡ record planned { history = begins.history }) where
    abbrev ready : IsReady (view_of job old) (view_of job begins) may.kept.shown.state (thread lease.thread) (expr_of job.program progress.end)
    ready = ready_at job old lease progress may planned begins before longer rest

    -- a node comes behind all others
    pub nodes_above : (nodes : List Node) → nodes ≡ begins.graph.nodes → (q : ℕ) → q ≡ length begins.history.events + 1 → All (λ (n : Node). n.number < q) nodes
    nodes_above nodes is q q_is =
        subst (λ (k : ℕ). All (λ (n : Node). n.number < k) nodes) (sym q_is)
        (subst (λ (ns : List Node). All (λ (n : Node). n.number < length begins.history.events + 1) ns) (sym is) (nodes_before (view_of job begins) ready.run ready.state ready.journal))

    -- so does a saved control
    pub save_behind : (store : Saved ControlView) → store.controls ≡ begins.store.controls → (q : Seq) (t : ThreadId) → q.0 ≡ length begins.history.events + 1 → (k : Seq) (u : ThreadId) → IsSome (saved_at store k u) → IsBelow (k, u) (q, t)
    save_behind store is q t q_is = may_save (view_of job begins) ready.run ready.state ready.journal store q t is q_is

    pub cut_allowed : (log : Log) → log ≡ begins.log → (q : ℕ) → q ≡ length begins.history.events + 1 → IsAllowed (cut q) log
    cut_allowed log is q q_is =
        subst (λ (n : ℕ). IsAllowed (cut n) log) (sym q_is) (may_cut (view_of job begins) ready.run ready.state ready.journal log (ap (λ k. k.references) is) (ap (λ k. k.last_cut) is))

    pub ref_away : map.contains_key ready.state.references begins.next_ref ≡ false
    ref_away = reference_away (view_of job begins) ready.run ready.state ready.journal

    -- the reference of an act is there
    pub got_there : (r : RefId) → StandsAt job.program progress.end (own.Get r) → map.contains_key ready.state.references r.0 ≡ true
    got_there r at = act_known job.program ready.state lease.thread (expr_of job.program progress.end) (gets r.0) (known_at job.program begins.history.events ready.run ready.state ready.journal.history.stands) ready.stands at.look

    pub set_there : (r : RefId) → StandsAt job.program progress.end (own.Set r) → map.contains_key ready.state.references r.0 ≡ true
    set_there r at = (act_known job.program ready.state lease.thread (expr_of job.program progress.end) (sets r.0 (second_of (operands_of progress.end))) (known_at job.program begins.history.events ready.run ready.state ready.journal.history.stands) ready.stands at.look).0

    pub there_low : (r : RefId) → map.contains_key ready.state.references r.0 ≡ true → r.0 < begins.next_ref
    there_low r there = reference_below (view_of job begins) ready.run ready.state ready.journal r.0 there

    pub there_named : (r : RefId) → map.contains_key ready.state.references r.0 ≡ true → IsName r.0
    there_named r there = subst (λ (m : FinMap nat_cmp Datum). map.contains_key m r.0 ≡ true → IsName r.0) (sym ready.references) (there_before r) there

    pub write_allowed : (log : Log) → log ≡ begins.log → (r : RefId) → map.contains_key ready.state.references r.0 ≡ true → (q : ℕ) → q ≡ length begins.history.events + 1 → (v : Datum) → IsAllowed (wrote r.0 q v) log
    write_allowed log is r there q q_is v =
        subst (λ (n : ℕ). IsAllowed (wrote r.0 n v) log) (sym q_is)
        (may_write (view_of job begins) ready.run ready.state ready.journal log (ap (λ k. k.references) is) (ap (λ k. k.last_cut) is) r.0 v there)

    pub make_allowed : (log : Log) → log ≡ begins.log → (r : ℕ) → r ≡ begins.next_ref → (q : ℕ) → q ≡ length begins.history.events + 1 → (v : Datum) → IsAllowed (made r q v) log
    make_allowed log is r r_is q q_is v =
        subst (λ (n : ℕ). IsAllowed (made n q v) log) (sym r_is)
        (subst (λ (n : ℕ). IsAllowed (made begins.next_ref n v) log) (sym q_is)
        (may_make (view_of job begins) ready.run ready.state ready.journal log (ap (λ k. k.references) is) (ap (λ k. k.last_cut) is) begins.next_ref v ref_away))

    references_before : begins.log.references ≡ old.log.references
    references_before = ap (λ (k : Parts). k.log.references) rest ∙ before.references

    pub held_at : (r : RefId) → StandsAt job.program progress.end (own.Get r) → Holds ready.state r.0
    held_at r at = holds_of ready.state r.0 (got_there r at)

    -- the write that was read is the last one
    pub read_at : (r : RefId) (at : StandsAt job.program progress.end (own.Get r)) (q : ℕ) (e : Expr) (f : Datum → Expr) → IfSome (last_of (writes_of old.log r.0)) (λ (w : Write). (q ≡ w.number) × (e ≡ f w.value))
        → (q ≡ wrote_after (λ _. 0) ready.run r.0) × (e ≡ f (held_at r at).value)
    read_at r at q e f read =
        read_so (last_of (writes_at begins.log.references r.0)) (held_at r at).value q (wrote_after (λ _. 0) ready.run r.0) e f
        (ready.journal.references r.0 ∙ (held_at r at).is)
        (last_number (view_of job begins) ready.run ready.state ready.journal r.0)
        (subst (λ (m : FinMap nat_cmp (List Write)). IfSome (last_of (writes_at m r.0)) (λ (w : Write). (q ≡ w.number) × (e ≡ f w.value))) (sym references_before) read)

    -- and stands before the act's step
    pub read_before : (r : RefId) (w q : ℕ) → w ≡ wrote_after (λ _. 0) ready.run r.0 → q ≡ length begins.history.events + 1 → w < q
    read_before r w q w_is q_is =
        let low = last_before (view_of job begins) ready.run ready.state ready.journal r.0 in
        let same = last_number (view_of job begins) ready.run ready.state ready.journal r.0 in
        omega (arith, low, same, w_is, q_is)
