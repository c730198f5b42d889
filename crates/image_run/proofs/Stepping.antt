-- A machine that goes on by an event.
use Rattle.std.proofs.Common.{◌≡◌, ℕ, zero, suc, ◌+◌, ◌≤◌, ◌<◌, cond, true, false, Bool, List, [], ◌∷◌, ◌++◌, length, refl, sym, ap, subst, ◌∙◌, arith}
use Rattle.std.specs.Prelude.{None, Some, Ok}
use Rattle.std.specs.List.{AllByRecursion, list_any}
use Rattle.stab_base.specs.declared.numbers.Seq.{Seq}
use Rattle.stab_base.specs.declared.numbers.ThreadId.{ThreadId}
use Rattle.stab_code.specs.Program.{ProgramParts}
use Rattle.stab_journal.specs.declared.event.Event.{Event}
use Rattle.stab_journal.specs.declared.event.Label.{Label}
use Rattle.stab_journal.specs.declared.event.Label.TheVariants.{Local, Probe}
use Rattle.stab_journal.specs.declared.event.Numbered.{Numbered}
use Rattle.stab_journal.specs.declared.event.What.TheVariants.{Step, Undo}
use Rattle.stab_journal.specs.Event.{weigh, weight_of}
use Rattle.stab_journal.specs.Generation.{acts_in}
use Rattle.stab_journal.specs.Journal.{step_at}
use Rattle.stab_journal.specs.Label.{actors}
use Rattle.stab_journal.specs.Names.{has}
use Rattle.stab_journal.specs.Reached.{reached, without_reached}
use Rattle.stab_journal.specs.Script.{probed, probed_by}
use Rattle.stab_journal.specs.Since.{AreBelow, FollowsSince, generation_since}
use Rattle.stab_journal.specs.Surviving.{after_events}
use Rattle.language.specs.Held.{Held}
use Rattle.language.specs.Plain.{PlainState, plain_step}
use Rattle.plain_language.specs.Plays.{step_in}
use Rattle.language.specs.Since.{MayUndoSince, end_from}
use Rattle.language.specs.Standing.{event}
use Rattle.trace_verify.specs.declared.generations.Generations.{Generations}
use Rattle.trace_verify.specs.declared.surviving.Surviving.{Surviving}
use Rattle.trace_verify.specs.Generations.{AreBefore, times}
use Rattle.trace_verify.specs.Parts.{run_in}
use Rattle.trace_verify.specs.Stretch.{IsStretched}
use Rattle.trace_verify.specs.Surviving.{IsKept, PlaysOn, TakesBack}
use Rattle.trace_verify.proofs.Parting.{all_rest}
use Rattle.image_laws.specs.Image.{Continues, generation_at, nothing, step, undo}
use Rattle.image_laws.proofs.Generations.{after_last, generation_last}
use Rattle.image_laws.proofs.Histories.{length_more}
use Rattle.image_run.specs.declared.machine.Machine.{Machine}
use Rattle.image_run.specs.Machine.{HasRoom, IsAt, IsCounted, IsFitting, IsNumbered, IsOfScript, IsPlayed, number_of, run_of, state_of, worker}
use Rattle.image_run.specs.declared.next.Next.{Next}
use Rattle.image_run.specs.Next.{AreBelowNext, IsMadeBelow, next_after}
use Rattle.image_run.specs.Noted.{IsNoted}
use Rattle.image_run.specs.Origin.{IsOrigin, image_of}
use Rattle.image_run.proofs.Noting.{all_last, all_mapped, before_more, below_grown, below_last, below_more, few_probes, follows_step, follows_undo, grown, made_more, made_this, none_follows, probe_follows, probes_last, weight_last}

-- the steps and the generations that a machine has now
abbrev now : Machine → Machine → Surviving → Generations → Machine
now old new s g = record new { origin = old.origin; surviving = s; generations = g }

is_now : (old new : Machine) (s : Surviving) (g : Generations) → new.origin ≡ old.origin → new.surviving ≡ s → new.generations ≡ g → new ≡ now old new s g
is_now old new s g o is gs =
    ap (λ x. record new { origin = x }) o ∙ ap (λ x. record new { origin = old.origin; surviving = x }) is ∙ ap (λ x. record new { origin = old.origin; surviving = s; generations = x }) gs

next_number : (a : ℕ) (es : List Event) (e : Event) (fs : List Event) → fs ≡ es ++ e ∷ [] → a + length es + 1 + 1 ≡ a + length fs + 1
next_number a es e fs is = omega (arith, ap length is, length_more es e)

module _ (old new : Machine) (s : Surviving) (l : Label) (h : IsAt old) (room : HasRoom old) (fits : IsFitting old l)
    (plays : PlaysOn old.origin.state.state old.surviving s (number_of old) l (Ok tt)) (noted : IsNoted (record old { surviving = s }) new (Step l)) where
  abbrev after : Machine
  after = now old new s old.generations

  number : number_of old + 1 ≡ number_of after
  number = next_number old.origin.cut old.events.items (event worker (Step l)) new.events.items noted.events

  played : IsPlayed after
  played = record {
    kept = plays.0;
    since = plays.4 ∙ h.played.since;
    program = plays.1 ∙ h.played.program;
    below = subst (λ q. AreBelow q (run_in s.parts)) number (subst (AreBelow (number_of old + 1)) (sym plays.2) (below_last (number_of old) (run_of old) l h.played.below));
    left =
        plays.2
        ∙ ap (λ (ns : List Numbered). ns ++ step_at (number_of old) (Step l)) h.played.left
        ∙ ap (λ q. after_events (suc old.origin.cut) [] old.events.items ++ step_at q (Step l)) (let same : old.origin.cut + length old.events.items + 1 ≡ suc old.origin.cut + length old.events.items = omega arith in same)
        ∙ sym (after_last (suc old.origin.cut) [] old.events.items (event worker (Step l)))
        ∙ ap (after_events (suc old.origin.cut) []) (sym noted.events);
    continues =
        subst (λ (es : List Event). Continues (image_of old.origin) es (run_in s.parts) s.state.state) (sym noted.events)
        (subst (λ (ns : List Numbered). Continues (image_of old.origin) (old.events.items ++ event worker (Step l) ∷ []) ns s.state.state) (sym plays.2)
        (step s.state.state worker l h.played.continues fits.may
        (ap (λ (p : ProgramParts). plain_step p (state_of old) (number_of old) l) (sym h.played.program) ∙ plays.3)));
  }

  follows_by : (k : Label) → IsOfScript old k → FollowsSince old.origin.script.items old.origin.used (old.events.items ++ event worker (Step k) ∷ [])
  follows_by (Probe t i) of =
      follows_step old.origin.script.items old.origin.used old.probes old.events.items worker (Probe t i) h.counted.probes (probe_follows old.origin.script.items (old.origin.used + old.probes) t i of) h.counted.follows
  follows_by k of = follows_step old.origin.script.items old.origin.used old.probes old.events.items worker k h.counted.probes (none_follows old.origin.script.items (old.origin.used + old.probes)) h.counted.follows

  longer : length new.events.items ≡ length old.events.items + 1
  longer = ap length noted.events ∙ length_more old.events.items (event worker (Step l))

  counted : IsCounted after
  counted = record {
    follows = subst (FollowsSince old.origin.script.items old.origin.used) (sym noted.events) (follows_by l fits.script);
    probes = noted.probes ∙ ap (λ k. k + length (probed_by (Step l))) h.counted.probes ∙ sym (probes_last old.events.items (event worker (Step l))) ∙ ap (λ (es : List Event). length (probed es)) (sym noted.events);
    weight = noted.weight ∙ ap (λ k. k + weigh (Step l)) h.counted.weight ∙ sym (weight_last old.events.items (event worker (Step l))) ∙ ap weight_of (sym noted.events);
    few = omega (arith, longer, noted.weight, h.counted.few, fits.some);
    few_probes = omega (arith, longer, noted.probes, h.counted.few_probes, few_probes l);
    before = subst (λ q. AreBefore q old.generations) number (before_more (number_of old) old.generations h.counted.before);
    generations = λ t.
        ap (λ (es : List Event). generation_since old.origin.cut (generation_at (image_of old.origin) t) t es) noted.events
        ∙ generation_last t (suc old.origin.cut) [] old.events.items (event worker (Step l)) (generation_at (image_of old.origin) t)
        ∙ h.counted.generations t;
    workers = subst (AllByRecursion (λ (x : Event). x.worker ≡ worker)) (sym noted.events) (all_last (λ (x : Event). x.worker ≡ worker) old.events.items (event worker (Step l)) h.counted.workers refl);
  }

  numbered : IsNumbered after
  numbered =
      let g = grown old.next l in
      record {
        low = omega (arith, ap (λ (x : Next). x.thread) noted.next, g.thread.0, h.numbered.low);
        thread = omega (arith, ap (λ (x : Next). x.thread) noted.next, g.thread.1, h.numbered.thread, longer);
        chan = omega (arith, ap (λ (x : Next). x.chan) noted.next, g.chan.1, h.numbered.chan, longer);
        reference = omega (arith, ap (λ (x : Next). x.reference) noted.next, g.reference.1, h.numbered.reference, longer);
        origin = subst (λ (x : Next). AreBelowNext x old.origin.state.state) (sym noted.next) (below_grown old.next (next_after old.next (Step l)) old.origin.state.state g h.numbered.origin);
        made = subst (λ (x : Next). AllByRecursion (λ (k : Numbered). IsMadeBelow x k.label) (run_in s.parts)) (sym noted.next)
            (subst (AllByRecursion (λ (k : Numbered). IsMadeBelow (next_after old.next (Step l)) k.label)) (sym plays.2)
            (all_last (λ (k : Numbered). IsMadeBelow (next_after old.next (Step l)) k.label) (run_of old) (record { seq = record { 0 = number_of old }; label = l })
            (all_mapped _ (λ (k : Numbered). IsMadeBelow (next_after old.next (Step l)) k.label) (λ (k : Numbered) (m : IsMadeBelow old.next k.label). made_more old.next (next_after old.next (Step l)) k.label g m) (run_of old) h.numbered.made)
            (made_this old.next l (omega (arith, h.numbered.low, h.origin.first)) fits.next)));
      }

  -- a step that was played and noted
  pub stepped : IsAt new
  stepped = subst IsAt (sym (is_now old new s old.generations noted.origin noted.surviving noted.generations)) (record {
    origin = h.origin;
    played = played;
    counted = counted;
    numbered = numbered;
  })

-- one more
more_by : (b : Bool) (g a k : ℕ) → g ≡ a + k → cond b (suc g) g ≡ a + cond b (suc k) k
more_by true g a k is = omega arith
more_by false g a k is = is

module _ (old new : Machine) (s : Surviving) (gs : Generations) (t : ThreadId) (m : Seq) (goes : List Numbered) (h : IsAt old) (room : HasRoom old)
    (takes : TakesBack old.origin.state.state old.surviving s t.0 m.0 (Some goes)) (before : AreBefore (number_of old + 1) gs)
    (counts : (u : ℕ) → times gs u ≡ cond (list_any (λ (k : Numbered). has (actors k.label) u) goes) (suc (times old.generations u)) (times old.generations u))
    (noted : IsNoted (record old { surviving = s; generations = gs }) new (Undo t m)) where
  abbrev back : Machine
  back = now old new s gs

  number_back : number_of old + 1 ≡ number_of back
  number_back = next_number old.origin.cut old.events.items (event worker (Undo t m)) new.events.items noted.events

  longer_back : length new.events.items ≡ length old.events.items + 1
  longer_back = ap length noted.events ∙ length_more old.events.items (event worker (Undo t m))

  may_back : MayUndoSince old.origin.cut old.origin.state.program (run_of old) (state_of old) t.0 m.0
  may_back =
      subst (λ (q : ℕ). MayUndoSince q old.origin.state.program (run_of old) (state_of old) t.0 m.0) h.played.since
      (subst (λ (p : ProgramParts). MayUndoSince old.surviving.parts.since p (run_of old) (state_of old) t.0 m.0) h.played.program takes.2)

  played_back : IsPlayed back
  played_back = record {
    kept = takes.0;
    since = takes.6 ∙ h.played.since;
    program = takes.1 ∙ h.played.program;
    below = subst (λ q. AreBelow q (run_in s.parts)) number_back
        (subst (AreBelow (number_of old + 1)) (sym takes.3)
        (all_rest (λ (k : Numbered). k.seq.0 < number_of old + 1) (has (reached (run_of old) m.0)) (run_of old) (below_more (number_of old) (run_of old) h.played.below)));
    left =
        takes.3
        ∙ ap (without_reached m.0) h.played.left
        ∙ sym (after_last (suc old.origin.cut) [] old.events.items (event worker (Undo t m)))
        ∙ ap (after_events (suc old.origin.cut) []) (sym noted.events);
    continues =
        subst (λ (es : List Event). Continues (image_of old.origin) es (run_in s.parts) s.state.state) (sym noted.events)
        (subst (λ (ns : List Numbered). Continues (image_of old.origin) (old.events.items ++ event worker (Undo t m) ∷ []) ns s.state.state) (sym takes.3)
        (undo s.state.state worker t.0 m.0 h.played.continues may_back
        (ap (λ (p : ProgramParts). end_from p old.origin.state.state (without_reached m.0 (run_of old))) (sym h.played.program) ∙ takes.4)));
  }

  counted_back : IsCounted back
  counted_back = record {
    follows = subst (FollowsSince old.origin.script.items old.origin.used) (sym noted.events) (follows_undo old.origin.script.items old.origin.used old.events.items worker t m h.counted.follows);
    probes = noted.probes ∙ ap (λ k. k + 0) h.counted.probes ∙ sym (probes_last old.events.items (event worker (Undo t m))) ∙ ap (λ (es : List Event). length (probed es)) (sym noted.events);
    weight = noted.weight ∙ ap (λ k. k + 1) h.counted.weight ∙ sym (weight_last old.events.items (event worker (Undo t m))) ∙ ap weight_of (sym noted.events);
    few = omega (arith, longer_back, noted.weight, h.counted.few);
    few_probes = omega (arith, longer_back, noted.probes, h.counted.few_probes);
    before = subst (λ q. AreBefore q gs) number_back before;
    generations = λ u.
        ap (λ (es : List Event). generation_since old.origin.cut (generation_at (image_of old.origin) u) u es) noted.events
        ∙ generation_last u (suc old.origin.cut) [] old.events.items (event worker (Undo t m)) (generation_at (image_of old.origin) u)
        ∙ ap (λ (ns : List Numbered). cond (acts_in (has (reached ns m.0)) u ns) (suc (generation_since old.origin.cut (generation_at (image_of old.origin) u) u old.events.items)) (generation_since old.origin.cut (generation_at (image_of old.origin) u) u old.events.items)) (sym h.played.left)
        ∙ more_by (acts_in (has (reached (run_of old) m.0)) u (run_of old)) _ (generation_at (image_of old.origin) u) (times old.generations u) (h.counted.generations u)
        ∙ ap (λ b. generation_at (image_of old.origin) u + cond b (suc (times old.generations u)) (times old.generations u)) (sym (takes.5 u))
        ∙ ap (λ k. generation_at (image_of old.origin) u + k) (sym (counts u));
    workers = subst (AllByRecursion (λ (x : Event). x.worker ≡ worker)) (sym noted.events) (all_last (λ (x : Event). x.worker ≡ worker) old.events.items (event worker (Undo t m)) h.counted.workers refl);
  }

  numbered_back : IsNumbered back
  numbered_back = record {
    low = omega (arith, ap (λ (x : Next). x.thread) noted.next, h.numbered.low);
    thread = omega (arith, ap (λ (x : Next). x.thread) noted.next, h.numbered.thread, longer_back);
    chan = omega (arith, ap (λ (x : Next). x.chan) noted.next, h.numbered.chan, longer_back);
    reference = omega (arith, ap (λ (x : Next). x.reference) noted.next, h.numbered.reference, longer_back);
    origin = subst (λ (x : Next). AreBelowNext x old.origin.state.state) (sym noted.next) h.numbered.origin;
    made = subst (λ (x : Next). AllByRecursion (λ (k : Numbered). IsMadeBelow x k.label) (run_in s.parts)) (sym noted.next)
        (subst (AllByRecursion (λ (k : Numbered). IsMadeBelow old.next k.label)) (sym takes.3)
        (all_rest (λ (k : Numbered). IsMadeBelow old.next k.label) (has (reached (run_of old) m.0)) (run_of old) h.numbered.made));
  }

  -- an undo that was carried out and noted
  pub undone : IsAt new
  undone = subst IsAt (sym (is_now old new s gs noted.origin noted.surviving noted.generations)) (record {
    origin = h.origin;
    played = played_back;
    counted = counted_back;
    numbered = numbered_back;
  })

-- before the first event
pub begun : (m : Machine) → IsOrigin m.origin → IsKept m.origin.state.state m.surviving → run_of m ≡ [] → m.surviving.parts.since ≡ m.origin.cut → m.surviving.state ≡ m.origin.state → m.events.items ≡ []
    → m.weight ≡ 0 → m.probes ≡ 0 → m.next ≡ m.origin.next → AreBefore 1 m.generations → ((t : ℕ) → times m.generations t ≡ 0) → IsAt m
begun m o kept run since state none weight probes next before times_are = record {
  origin = o;
  played = record {
    kept = kept;
    since = since;
    program = ap (λ (h : Held). h.program) state;
    below = subst (AreBelow (number_of m)) (sym run) tt;
    left = run ∙ ap (after_events (suc m.origin.cut) []) (sym none);
    continues = subst (λ (es : List Event). Continues (image_of m.origin) es (run_of m) (state_of m)) (sym none)
        (subst (λ (ns : List Numbered). Continues (image_of m.origin) [] ns (state_of m)) (sym run)
        (subst (λ (h : Held). Continues (image_of m.origin) [] [] h.state) (sym state) nothing));
  };
  counted = record {
    follows = subst (FollowsSince m.origin.script.items m.origin.used) (sym none) (λ i. tt);
    probes = probes ∙ ap (λ (es : List Event). length (probed es)) (sym none);
    weight = weight ∙ ap weight_of (sym none);
    few = omega (arith, ap length none);
    few_probes = omega (arith, probes);
    before = λ t. ((before t).0, omega (arith, (before t).1));
    generations = λ t. ap (λ (es : List Event). generation_since m.origin.cut (generation_at (image_of m.origin) t) t es) none ∙ (let same : generation_at (image_of m.origin) t ≡ generation_at (image_of m.origin) t + times m.generations t = omega (arith, times_are t) in same);
    workers = subst (AllByRecursion (λ (e : Event). e.worker ≡ worker)) (sym none) tt;
  };
  numbered = record {
    low = omega (arith, ap (λ (x : Next). x.thread) next);
    thread = omega (arith, ap (λ (x : Next). x.thread) next, o.thread);
    chan = omega (arith, ap (λ (x : Next). x.chan) next, o.chan);
    reference = omega (arith, ap (λ (x : Next). x.reference) next, o.reference);
    origin = subst (λ (x : Next). AreBelowNext x m.origin.state.state) (sym next) o.below;
    made = subst (AllByRecursion (λ (k : Numbered). IsMadeBelow m.next k.label)) (sym run) tt;
  };
}

-- pure steps that were made are a step, and where none were made all is as it was
pub some_stretched : (from : PlainState) (old new : Surviving) (q : ℕ) (t : ThreadId) (n : ℕ) → (n ≡ 0 → ⊥) → IsStretched from old new q t n → PlaysOn from old new q (Local t n) (Ok tt)
some_stretched from old new q t zero some h = absurd (some refl)
some_stretched from old new q t (suc n) some h = h

pub none_stretched : (from : PlainState) (old new : Surviving) (q : ℕ) (t : ThreadId) (n : ℕ) → n ≡ 0 → IsStretched from old new q t n → (new ≡ old) × (step_in old.state q (Local t 1) ≡ None)
none_stretched from old new q t n none h = subst (IsStretched from old new q t) none h

pub local_fits : (m : Machine) (t : ThreadId) (n : ℕ) → (n ≡ 0 → ⊥) → n ≤ 10000 → IsFitting m (Local t n)
local_fits m t n some little = record { may = tt; script = tt; next = tt; some = omega arith; little = little }
