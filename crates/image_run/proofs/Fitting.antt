-- What a machine may do next.
use Rattle.std.proofs.Common.{◌≡◌, ℕ, ◌≤◌, Bool, true, false, Option, Some, None, refl, sym, subst, ◌∙◌, arith}
use Rattle.std.specs.Prelude.{IfSome, IsSome, nat_lt, ◌^◌}
use Rattle.std.specs.FinMap as map
use Rattle.std.specs.FinSet as set
use Rattle.std.proofs.lemmas.Bool.{false≢true}
use Rattle.std.proofs.lemmas.Bool.Decides.{nat_tests}
use Rattle.stab_base.specs.declared.numbers.ThreadId.{ThreadId}
use Rattle.stab_journal.specs.declared.event.Label.{Label}
use Rattle.stab_journal.specs.declared.event.What.TheVariants.{Step}
use Rattle.stab_journal.specs.Event.{weigh}
use Rattle.plain_language.specs.declared.look.ActKind.TheVariants.{Spawn, NewChan, NewRef, Get, Set, Send, Recv, Pick, Enter, Stabilize, Cut, Pin, Print, Probe, Attempt}
use Rattle.plain_language.specs.declared.look.Look.{Look}
use Rattle.plain_language.specs.declared.look.Look.TheVariants.{Done, Failed, Pure, Act}
use Rattle.language.specs.Plain.{effect_of, plain_step}
use Rattle.journal_laws.specs.Known.{IsExprIn, IsKnown}
use Rattle.journal_laws.proofs.Runs.{closed, run_keeps}
use Rattle.ready_steps.specs.declared.label.Given.{Given}
use Rattle.ready_steps.specs.Labels.{label_of}
use Rattle.image_run.specs.declared.machine.Machine.{Machine}
use Rattle.image_run.specs.Acting.{IsGivenBy, is_lone}
use Rattle.image_run.specs.Machine.{IsAt, IsFitting, MayMake, number_of, run_of, state_of}
use Rattle.image_run.specs.Next.{AreBelowNext}
use Rattle.image_run.proofs.Names.{all_below}

not_true : (b : Bool) → (b ≡ true → ⊥) → b ≡ false
not_true true h = absurd (h refl)
not_true false h = refl

pub small : (n : ℕ) → n ≤ 9000000000 → nat_lt n (2 ^ 63) ≡ true
small n le = grind (arith, nat_tests)

module _ (m : Machine) (h : IsAt m) where
  -- each number of the state is below the next one
  pub state_below : AreBelowNext m.next (state_of m)
  state_below = all_below m.surviving.state.program m.next (run_of m) m.origin.state.state (state_of m) h.numbered.origin h.numbered.made h.played.kept.leads.ends

  pub state_known : IsKnown IsExprIn (state_of m)
  state_known = run_keeps (effect_of m.surviving.state.program) (IsKnown IsExprIn) (closed m.surviving.state.program).step (run_of m) m.origin.state.state (state_of m) h.origin.known h.played.kept.leads.ends

  pub thread_free : map.contains_key (state_of m).threads m.next.thread ≡ false
  thread_free = not_true _ (λ yes. omega (arith, (state_below.threads m.next.thread yes).1))

  pub chan_free : set.contains (state_of m).channels m.next.chan ≡ false
  chan_free = not_true _ (λ yes. omega (arith, state_below.channels m.next.chan yes))

  pub reference_free : map.contains_key (state_of m).references m.next.reference ≡ false
  reference_free = not_true _ (λ yes. omega (arith, state_below.references m.next.reference yes))

  module _ (t : ThreadId) (g : Given) (given : IsGivenBy m t.0 g) where
    fits : (d : Look) → IfSome (label_of t g d) (IsFitting m)
    fits (Act Spawn) = record { may = omega (arith, given.thread, h.numbered.low); script = tt; next = given.thread; some = omega arith; little = omega arith }
    fits (Act NewChan) = record { may = tt; script = tt; next = given.chan; some = omega arith; little = omega arith }
    fits (Act NewRef) = record { may = tt; script = tt; next = given.reference; some = omega arith; little = omega arith }
    fits (Act (Get r)) = record { may = tt; script = tt; next = tt; some = omega arith; little = omega arith }
    fits (Act (Set r)) = record { may = tt; script = tt; next = tt; some = omega arith; little = omega arith }
    fits (Act Enter) = record { may = tt; script = tt; next = tt; some = omega arith; little = omega arith }
    fits (Act Cut) = record { may = tt; script = tt; next = tt; some = omega arith; little = omega arith }
    fits (Act Pin) = record { may = tt; script = tt; next = tt; some = omega arith; little = omega arith }
    fits (Act Print) = record { may = tt; script = tt; next = tt; some = omega arith; little = omega arith }
    fits (Act Probe) = record { may = tt; script = given.probe; next = tt; some = omega arith; little = omega arith }
    fits (Act Attempt) = record { may = given.generation ∙ sym (h.counted.generations t.0); script = tt; next = tt; some = omega arith; little = omega arith }
    fits d = tt

    both : (o : Option Label) → IfSome o (λ l. IsSome (plain_step m.surviving.state.program (state_of m) (number_of m) l)) → IfSome o (IsFitting m) → IfSome o (MayMake m)
    both None a b = tt
    both (Some l) a b = record { has = a; fits = b }

    -- the step of a thread by itself may be made
    pub may_make : (o : Option Label) (d : Look) → o ≡ label_of t g d → IfSome o (λ l. IsSome (plain_step m.surviving.state.program (state_of m) (number_of m) l)) → IfSome o (MayMake m)
    may_make o d is has = both o has (subst (λ (x : Option Label). IfSome x (IsFitting m)) (sym is) (fits d))

-- a thread that makes a step by itself that isn't pure has a label, where it isn't at a `stabilize`
pub lone_some : (t : ThreadId) (g : Given) (d : Look) → is_lone d ≡ true → (d ≡ Act Stabilize → ⊥) → IsSome (label_of t g d)
lone_some t g Done lone other = absurd (false≢true lone)
lone_some t g (Failed k) lone other = absurd (false≢true lone)
lone_some t g Pure lone other = absurd (false≢true lone)
lone_some t g (Act (Send c)) lone other = absurd (false≢true lone)
lone_some t g (Act (Recv c)) lone other = absurd (false≢true lone)
lone_some t g (Act (Pick c d)) lone other = absurd (false≢true lone)
lone_some t g (Act Stabilize) lone other = absurd (other refl)
lone_some t g d lone other = refl

-- a step that a thread makes by itself, and that isn't pure, weighs 1
pub one_weighed : (t : ThreadId) (g : Given) (d : Look) → IfSome (label_of t g d) (λ l. weigh (Step l) ≡ 1)
one_weighed t g Done = tt
one_weighed t g (Failed k) = tt
one_weighed t g Pure = tt
one_weighed t g (Act (Send c)) = tt
one_weighed t g (Act (Recv c)) = tt
one_weighed t g (Act (Pick c d)) = tt
one_weighed t g (Act Stabilize) = tt
one_weighed t g d = refl
