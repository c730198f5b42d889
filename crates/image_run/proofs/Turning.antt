-- What the turns of a machine's threads ask for.
use Rattle.std.proofs.Common.{◌≡◌, ℕ, zero, suc, ◌≤◌, true, false, Option, Some, None, refl, sym, ap, subst, ◌∙◌, arith}
use Rattle.std.specs.Prelude.{IsSome, is_some, option_map}
use Rattle.std.proofs.lemmas.Bool.{false≢true}
use Rattle.stab_base.specs.declared.numbers.Seq.{Seq}
use Rattle.stab_base.specs.declared.numbers.ThreadId.{ThreadId}
use Rattle.stab_code.specs.Program.{ProgramParts}
use Rattle.stab_journal.specs.declared.event.Label.TheVariants.{Comm, Local, Refuse}
use Rattle.stab_journal.specs.Since.{is_mark_revocable_since, is_revocable_since}
use Rattle.plain_language.specs.declared.look.ActKind.TheVariants.{Stabilize}
use Rattle.plain_language.specs.declared.look.Look.TheVariants.{Pure, Act}
use Rattle.language.specs.Expression.{Expr}
use Rattle.language.specs.Held.{Held}
use Rattle.language.specs.Plain.{language_of, look_in, mark_in, plain_step, standing}
use Rattle.language.specs.Quiet.{IsQuiet}
use Rattle.plain_language.specs.Seen.{seen}
use Rattle.language.specs.Since.{MayUndoSince}
use Rattle.ready_steps.specs.declared.ready.Meeting.{Meeting}
use Rattle.ready_steps.specs.declared.ready.Ready.{Ready}
use Rattle.ready_steps.specs.declared.ready.Ready.TheVariants.{Alone, Meet}
use Rattle.ready_steps.specs.Ready.{CanMeet, IsReady, look_of}
use Rattle.ready_steps.proofs.Searching.{meets_none, rests_all}
use Rattle.ready_steps.proofs.Together.{meets, refuses, stands, steps_purely}
use Rattle.image_laws.specs.Image.{IsContinuedBy}
use Rattle.image_run.specs.declared.machine.Machine.{Machine}
use Rattle.image_run.specs.declared.origin.Origin.{Origin}
use Rattle.image_run.specs.Machine.{IsAt, MayMake, number_of, run_of, state_of}
use Rattle.image_run.specs.Origin.{image_of}
use Rattle.image_run.proofs.Fitting.{state_below}

none_of : (o : Option Expr) → (is_some o ≡ true → ⊥) → o ≡ None
none_of None h = refl
none_of (Some e) h = absurd (h refl)

module _ (m : Machine) where
  pub may_meet : (k : Meeting) → CanMeet m.surviving.state.program (state_of m) k → MayMake m (Comm k.sender k.receiver k.chan)
  may_meet k can = record {
    has = meets m.surviving.state.program (state_of m) (number_of m) k can;
    fits = record { may = tt; script = tt; next = tt; some = omega arith; little = omega arith };
  }

  module _ (t : ThreadId) (at : look_of m.surviving.state.program (state_of m) t.0 ≡ Some (Act Stabilize)) where
    pub may_refuse : is_mark_revocable_since m.origin.cut (run_of m) (mark_in (state_of m) t.0) ≡ false → MayMake m (Refuse t)
    may_refuse not = record {
      has = refuses m.surviving.state.program (state_of m) (number_of m) t at;
      fits = record { may = not; script = tt; next = tt; some = omega arith; little = omega arith };
    }

    pub may_undo : (q : Seq) → mark_in (state_of m) t.0 ≡ Some q.0 → is_revocable_since m.surviving.parts.since (run_of m) q.0 ≡ true
        → MayUndoSince m.surviving.parts.since m.surviving.state.program (run_of m) (state_of m) t.0 q.0
    may_undo q mark revocable = record { at = stands m.surviving.state.program (state_of m) (number_of m) t.0 at; mark = mark; revocable = revocable }

  -- no thread is numbered 0
  pub first_thread : IsAt m → look_of m.surviving.state.program (state_of m) 0 ≡ None
  first_thread h = ap (option_map (λ (e : Expr). seen (look_in m.surviving.state.program e))) (none_of (standing (state_of m) 0) (λ yes. let one = (state_below m h).threads 0 yes in omega (arith, one.0)))

  -- a thread that has a pure step makes one
  pub some_made : (t : ThreadId) (n : ℕ) → look_of m.surviving.state.program (state_of m) t.0 ≡ Some Pure → (n ≡ 0 → plain_step m.surviving.state.program (state_of m) (number_of m) (Local t 1) ≡ None) → 1 ≤ n
  some_made t zero at none = absurd (false≢true (subst IsSome (none refl) (steps_purely m.surviving.state.program (state_of m) (number_of m) t at)))
  some_made t (suc n) at none = omega arith

  -- somebody who can step is no sign of quiet
  pub not_quiet : (r : Ready) → IsReady m.surviving.state.program (state_of m) r → IsQuiet (language_of m.surviving.state.program) (state_of m) → ⊥
  not_quiet (Alone t) at quiet = rests_all m.surviving.state.program (state_of m) quiet t.0 at
  not_quiet (Meet k) at quiet = meets_none m.surviving.state.program (state_of m) quiet k.sender.0 k.receiver.0 k.chan.0 at.sends at.receives

  -- what the machine made continues the image of where it began
  pub ended : (o : Origin) → IsAt m → m.origin ≡ o → IsContinuedBy (image_of o) m.events.items (state_of m)
  ended o h is = subst (λ (x : Origin). IsContinuedBy (image_of x) m.events.items (state_of m)) is (record { run = run_of m; continues = h.played.continues; follows = h.counted.follows })

  module _ (o : Origin) (h : IsAt m) (is : m.origin ≡ o) where
    program : m.surviving.state.program ≡ o.state.program
    program = h.played.program ∙ ap (λ (x : Origin). x.state.program) is

    pub quiet_for : (k : Held) → k ≡ m.surviving.state → IsQuiet (language_of m.surviving.state.program) (state_of m) → IsQuiet (language_of o.state.program) k.state
    quiet_for k same q = subst (λ (x : Held). IsQuiet (language_of o.state.program) x.state) (sym same) (subst (λ (p : ProgramParts). IsQuiet (language_of p) (state_of m)) program q)

    pub quiet_back : (k : Held) → k ≡ m.surviving.state → IsQuiet (language_of o.state.program) k.state → IsQuiet (language_of m.surviving.state.program) (state_of m)
    quiet_back k same q = subst (λ (p : ProgramParts). IsQuiet (language_of p) (state_of m)) (sym program) (subst (λ (x : Held). IsQuiet (language_of o.state.program) x.state) same q)
