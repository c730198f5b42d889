-- Which events turns add.
use Rattle.std.proofs.Common.{◌≡◌, ℕ, ◌<◌, ◌≤◌, List, [], ◌∷◌, ◌++◌, refl, sym, ap, subst, ◌∙◌, arith, append_assoc, append-nil}
use Rattle.stab_base.specs.declared.numbers.ThreadId.{ThreadId}
use Rattle.stab_journal.specs.declared.event.Event.{Event}
use Rattle.stab_journal.specs.declared.event.Label.TheVariants.{Local}
use Rattle.stab_journal.specs.declared.event.What.{What}
use Rattle.stab_journal.specs.declared.event.What.TheVariants.{Step}
use Rattle.stab_journal.specs.Event.{weigh, weight_of}
use Rattle.language.specs.Standing.{event}
use Rattle.image_run.specs.Machine.{worker}
use Rattle.image_run.specs.Turns.{Adds, AreTurns, IsAct, IsActAtMost, IsTurn, one_more}

pub one_act : (old new : List Event) (what : What) → weigh what ≡ 1 → new ≡ old ++ event worker what ∷ [] → Adds IsAct old new
one_act old new what one is = record { more = event worker what ∷ []; is = (one, refl); behind = is }

at_most : (es : List Event) → IsAct es → IsActAtMost es
at_most [] act = absurd act
at_most (e ∷ es) act = act

pub or_nothing : (old new : List Event) → Adds IsAct old new → Adds IsActAtMost old new
or_nothing old new h = record { more = h.more; is = at_most h.more h.is; behind = h.behind }

pub nothing : (es : List Event) → Adds IsActAtMost es es
nothing es = record { more = []; is = tt; behind = sym (append-nil es) }

alone : (quantum : ℕ) (es : List Event) → 1 ≤ quantum → IsAct es → IsTurn quantum es
alone quantum [] some act = absurd act
alone quantum (e ∷ es) some act = (omega (arith, some, act.0), subst IsActAtMost (sym act.1) tt)

-- an act alone is a turn
pub act_turn : (quantum : ℕ) (old new : List Event) → 1 ≤ quantum → Adds IsAct old new → Adds (IsTurn quantum) old new
act_turn quantum old new some h = record { more = h.more; is = alone quantum h.more some h.is; behind = h.behind }

-- and so are pure steps with or without one
pub pure_turn : (quantum : ℕ) (t : ThreadId) (n : ℕ) (old between new : List Event) → n ≤ quantum → between ≡ old ++ event worker (Step (Local t n)) ∷ [] → Adds IsActAtMost between new
    → Adds (IsTurn quantum) old new
pure_turn quantum t n old between new little is h = record {
  more = event worker (Step (Local t n)) ∷ h.more;
  is = (little, h.is);
  behind = h.behind ∙ ap (λ (es : List Event). es ++ h.more) is ∙ append_assoc old (event worker (Step (Local t n)) ∷ []) h.more;
}

-- one turn more, which began before the fuel was used up
pub turned : (fuel quantum : ℕ) (old new : List Event) → AreTurns fuel quantum old → weight_of old < fuel → Adds (IsTurn quantum) old new → AreTurns fuel quantum new
turned fuel quantum old new turns little h = subst (AreTurns fuel quantum) (sym h.behind) (one_more old h.more turns little h.is)
