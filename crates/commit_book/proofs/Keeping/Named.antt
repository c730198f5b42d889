-- The numbers in a state are below those that are handed out next, and these follow each step.
use Rattle.std.proofs.Common.{◌≡◌, ℕ, ◌+◌, ◌<◌, ◌≤◌, max, true, false, cond, List, [], ◌∷◌, ◌++◌, length, Some, None, refl, sym, ap, ◌∙◌, arith, length-append}
use Rattle.std.specs.Prelude.{is_some, nat_lt}
use Rattle.std.specs.List.{AllByRecursion, flat_map}
use Rattle.std.specs.Ordering.{nat_cmp}
use Rattle.std.specs.FinMap as map
use Rattle.std.specs.FinMap.{get-empty}
use Rattle.std.specs.FinSet as set
use Rattle.std.proofs.lemmas.Bool.{false≢true}
use Rattle.std.proofs.lemmas.Bool.Decides.{nat_tests}
use Rattle.stab_base.specs.declared.numbers.ThreadId.{ThreadId}
use Rattle.stab_base.specs.declared.numbers.ChanId.{ChanId}
use Rattle.stab_base.specs.declared.numbers.RefId.{RefId}
use Rattle.stab_code.specs.Program.{ProgramParts}
use Rattle.stab_journal.specs.declared.event.Event.{Event}
use Rattle.stab_journal.specs.declared.event.Label.{Label}
use Rattle.stab_journal.specs.declared.event.Label.TheVariants.{Spawn, NewChan, NewRef}
use Rattle.stab_journal.specs.declared.event.Numbered.{Numbered}
use Rattle.stab_journal.specs.declared.event.What.TheVariants.{Step}
use Rattle.stab_journal.specs.Label.{touched}
use Rattle.stab_journal.specs.Names.{has}
use Rattle.stab_journal.specs.Surviving.{run_of}
use Rattle.language.specs.Outcome.{called}
use Rattle.language.specs.Plain.{PlainState, effect_of, start}
use Rattle.language.specs.Program.{body}
use Rattle.language.specs.Standing.{StandsFor, event}
use Rattle.language.proofs.Applying.{get_inserted}
use Rattle.journal_laws.proofs.Undone.{stands_run}
use Rattle.stab_journal.specs.Numbers.{chans_in, refs_in, named_by, threads_by, greatest, AreNext, AreFew}
use Rattle.commit_book.proofs.Keeping.Floors.{differs}
use Rattle.stab_journal.proofs.NumberSteps.{greatest_snoc, no_greater, no_greater_than_one}
use Rattle.commit_book.proofs.Keeping.Unnamed.{beyond, named_in, in_events, unnamed_thread, unnamed_channel, unnamed_reference}

below_or : (a b : ℕ) → nat_lt a b ≡ false → b ≤ a
below_or a b h = grind (arith, nat_tests)

is_below : (a b : ℕ) → nat_lt a b ≡ true → a < b
is_below a b h = grind (arith, nat_tests)

-- a number is below another one unless that leads astray
by_contradiction : (a b : ℕ) → (b ≤ a → ⊥) → a < b
by_contradiction a b f = elim (nat_lt a b) as (λ k. nat_lt a b ≡ k → a < b) [ true ↦ is_below a b | false ↦ λ h. absurd (f (below_or a b h)) ] refl

module _ (p : ProgramParts) (events : List Event) (run : List Numbered) (s : PlainState) (stands : StandsFor p events run s) where
  -- a thread that no event names, other than thread 1, isn't there
  no_thread : (t : ℕ) → 1 < t → greatest threads_by events < t → map.get s.threads t ≡ None
  no_thread t high above =
      let r = stands_run p events run s stands in
      let named : has (named_in touched (run_of events)) t ≡ false = in_events touched threads_by (λ l. refl) t 1 [] events refl (beyond (flat_map (λ (e : Event). threads_by e.what) events) 0 t above) in
      unnamed_thread (effect_of p) t run (start p) s (ap (λ ns. has (named_in touched ns) t) r.0 ∙ named) r.1.ends
      ∙ get_inserted map.empty 1 (called (body p) p.main.0 []) t
      ∙ ap (λ b. cond b (Some (called (body p) p.main.0 [])) (map.get {R = nat_cmp} map.empty t)) (differs t 1 high)
      ∙ get-empty nat_cmp t

  no_channel : (c : ℕ) → greatest (named_by chans_in) events < c → set.contains s.channels c ≡ false
  no_channel c above =
      let r = stands_run p events run s stands in
      let named : has (named_in chans_in (run_of events)) c ≡ false = in_events chans_in (named_by chans_in) (λ l. refl) c 1 [] events refl (beyond (flat_map (λ (e : Event). named_by chans_in e.what) events) 0 c above) in
      unnamed_channel (effect_of p) c run (start p) s (ap (λ ns. has (named_in chans_in ns) c) r.0 ∙ named) r.1.ends
      ∙ set.contains-empty nat_cmp c

  no_reference : (r : ℕ) → greatest (named_by refs_in) events < r → map.get s.references r ≡ None
  no_reference q above =
      let r = stands_run p events run s stands in
      let named : has (named_in refs_in (run_of events)) q ≡ false = in_events refs_in (named_by refs_in) (λ l. refl) q 1 [] events refl (beyond (flat_map (λ (e : Event). named_by refs_in e.what) events) 0 q above) in
      unnamed_reference (effect_of p) q run (start p) s (ap (λ ns. has (named_in refs_in ns) q) r.0 ∙ named) r.1.ends
      ∙ get-empty nat_cmp q

  module _ (thread chan ref : ℕ) (next : AreNext events thread chan ref) where
    -- what is there has a number below the next one
    pub old_thread : (t : ℕ) → map.contains_key s.threads t ≡ true → t < thread
    old_thread t there = by_contradiction t thread (λ high. false≢true (sym (ap is_some (no_thread t (omega (arith, next.thread)) (omega (arith, next.thread)))) ∙ there))

    pub old_channel : (c : ℕ) → set.contains s.channels c ≡ true → c < chan
    old_channel c there = by_contradiction c chan (λ high. false≢true (sym (no_channel c (omega (arith, next.chan))) ∙ there))

    pub old_reference : (r : ℕ) → map.contains_key s.references r ≡ true → r < ref
    old_reference r there = by_contradiction r ref (λ high. false≢true (sym (ap is_some (no_reference r (omega (arith, next.ref)))) ∙ there))

    -- nothing has the next number
    pub new_thread : map.contains_key s.threads thread ≡ false
    new_thread = ap is_some (no_thread thread (omega (arith, next.thread)) (omega (arith, next.thread)))

    pub new_channel : set.contains s.channels chan ≡ false
    new_channel = no_channel chan (omega (arith, next.chan))

    pub new_reference : map.contains_key s.references ref ≡ false
    new_reference = ap is_some (no_reference ref (omega (arith, next.ref)))

-- a step names what has a number already
pub record AreOld (l : Label) (thread chan ref : ℕ) : Type 0 where
  pub threads : AllByRecursion (λ x. x < thread) (touched l)
  pub chans : AllByRecursion (λ x. x < chan) (chans_in l)
  pub refs : AllByRecursion (λ x. x < ref) (refs_in l)

under : (a b : ℕ) (xs : List ℕ) → b ≡ a + 1 → AllByRecursion (λ x. x < b) xs → AllByRecursion (λ x. x ≤ a) xs
under a b [] is all = tt
under a b (x ∷ xs) is all = (omega (arith, all.0), under a b xs is all.1)

module _ (events : List Event) (worker thread chan ref : ℕ) (next : AreNext events thread chan ref) where
  thread_kept : (l : Label) → AllByRecursion (λ x. x < thread) (touched l) → thread ≡ max 1 (greatest threads_by (events ++ event worker (Step l) ∷ [])) + 1
  thread_kept l all = next.thread ∙ ap (λ g. g + 1) (sym (ap (max 1) (greatest_snoc threads_by events (event worker (Step l))) ∙ no_greater_than_one (greatest threads_by events) (touched l) (under (max 1 (greatest threads_by events)) thread (touched l) next.thread all)))

  chan_kept : (l : Label) → AllByRecursion (λ x. x < chan) (chans_in l) → chan ≡ greatest (named_by chans_in) (events ++ event worker (Step l) ∷ []) + 1
  chan_kept l all = next.chan ∙ ap (λ g. g + 1) (sym (greatest_snoc (named_by chans_in) events (event worker (Step l)) ∙ no_greater (greatest (named_by chans_in) events) (chans_in l) (under (greatest (named_by chans_in) events) chan (chans_in l) next.chan all)))

  ref_kept : (l : Label) → AllByRecursion (λ x. x < ref) (refs_in l) → ref ≡ greatest (named_by refs_in) (events ++ event worker (Step l) ∷ []) + 1
  ref_kept l all = next.ref ∙ ap (λ g. g + 1) (sym (greatest_snoc (named_by refs_in) events (event worker (Step l)) ∙ no_greater (greatest (named_by refs_in) events) (refs_in l) (under (greatest (named_by refs_in) events) ref (refs_in l) next.ref all)))

  -- a step that makes nothing
  pub next_kept : (l : Label) → AreOld l thread chan ref → AreNext (events ++ event worker (Step l) ∷ []) thread chan ref
  next_kept l old = record { thread = thread_kept l old.threads; chan = chan_kept l old.chans; ref = ref_kept l old.refs }

  -- a step that spawns the next thread
  pub next_spawned : (t u : ThreadId) → t.0 < thread → u.0 ≡ thread → AreNext (events ++ event worker (Step (Spawn t u)) ∷ []) (thread + 1) chan ref
  next_spawned t u low is = record {
    thread =
        let after : greatest threads_by (events ++ event worker (Step (Spawn t u)) ∷ []) ≡ max (max (greatest threads_by events) t.0) u.0 = greatest_snoc threads_by events (event worker (Step (Spawn t u))) in
        omega (arith, after, next.thread, is);
    chan = chan_kept (Spawn t u) tt;
    ref = ref_kept (Spawn t u) tt;
  }

  -- a step that makes the next channel
  pub next_chan_made : (t : ThreadId) (c : ChanId) → t.0 < thread → c.0 ≡ chan → AreNext (events ++ event worker (Step (NewChan t c)) ∷ []) thread (chan + 1) ref
  next_chan_made t c low is = record {
    thread = thread_kept (NewChan t c) (low, tt);
    chan =
        let after : greatest (named_by chans_in) (events ++ event worker (Step (NewChan t c)) ∷ []) ≡ max (greatest (named_by chans_in) events) c.0 = greatest_snoc (named_by chans_in) events (event worker (Step (NewChan t c))) in
        omega (arith, after, next.chan, is);
    ref = ref_kept (NewChan t c) tt;
  }

  -- a step that makes the next reference
  pub next_ref_made : (t : ThreadId) (r : RefId) → t.0 < thread → r.0 ≡ ref → AreNext (events ++ event worker (Step (NewRef t r)) ∷ []) thread chan (ref + 1)
  next_ref_made t r low is = record {
    thread = thread_kept (NewRef t r) (low, tt);
    chan = chan_kept (NewRef t r) tt;
    ref =
        let after : greatest (named_by refs_in) (events ++ event worker (Step (NewRef t r)) ∷ []) ≡ max (greatest (named_by refs_in) events) r.0 = greatest_snoc (named_by refs_in) events (event worker (Step (NewRef t r))) in
        omega (arith, after, next.ref, is);
  }

-- one event more lets one number more of each kind be handed out
pub few_more : (events : List Event) (e : Event) (thread chan ref a b c : ℕ) → AreFew events thread chan ref → a ≤ thread + 1 → b ≤ chan + 1 → c ≤ ref + 1 → AreFew (events ++ e ∷ []) a b c
few_more events e thread chan ref a b c few la lb lc =
    let longer : length (events ++ e ∷ []) ≡ length events + 1 = length-append events (e ∷ []) in
    record { threads = omega (arith, longer, few.threads); chans = omega (arith, longer, few.chans); refs = omega (arith, longer, few.refs) }
