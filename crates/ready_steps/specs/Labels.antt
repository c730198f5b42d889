-- The steps by which threads do what they do next.
use Rattle.std.specs.Prelude.{◌≡◌, ◌^◌, true, false, nat_lt, Option, Some, None}
use Rattle.std.specs.FinMap as map
use Rattle.std.specs.FinSet as set
use Rattle.stab_base.specs.declared.numbers.ThreadId.{ThreadId}
use Rattle.stab_journal.specs.declared.event.Label.{Label}
use Rattle.stab_journal.specs.declared.event.Label.TheVariants as step
use Rattle.journal_laws.specs.Known.{IsExprIn, IsKnown}
use Rattle.plain_language.specs.declared.look.ActKind.TheVariants.{Spawn, NewChan, NewRef, Get, Set, Enter, Cut, Pin, Print, Probe, Attempt}
use Rattle.plain_language.specs.declared.look.Look.{Look}
use Rattle.plain_language.specs.declared.look.Look.TheVariants.{Act}
use Rattle.language.specs.Numbers.{fits_word}
use Rattle.language.specs.Plain.{PlainState}
use Rattle.ready_steps.specs.declared.label.Given.{Given}

-- the step of a thread that does this next, if it makes one by itself that isn't pure and isn't a `stabilize`
abbrev pub label_of : ThreadId → Given → Look → Option Label
label_of t g (Act Spawn) = Some (step.Spawn t g.thread)
label_of t g (Act NewChan) = Some (step.NewChan t g.chan)
label_of t g (Act NewRef) = Some (step.NewRef t g.reference)
label_of t g (Act (Get r)) = Some (step.Get t r)
label_of t g (Act (Set r)) = Some (step.Set t r)
label_of t g (Act Enter) = Some (step.Enter t)
label_of t g (Act Cut) = Some (step.Cut t)
label_of t g (Act Pin) = Some (step.Pin t)
label_of t g (Act Print) = Some (step.Print t)
label_of t g (Act Probe) = Some (step.Probe t g.probe)
label_of t g (Act Attempt) = Some (step.Attempt t g.generation)
label_of t g look = None

-- the numbers are new in the state, and what is answered is in its range; each channel and reference that occurs in the state is there
pub record IsOpen (s : PlainState) (g : Given) : Type 0 where
  pub thread : map.contains_key s.threads g.thread.0 ≡ false
  pub chan : set.contains s.channels g.chan.0 ≡ false
  pub reference : map.contains_key s.references g.reference.0 ≡ false
  pub probe : fits_word g.probe ≡ true
  pub generation : nat_lt g.generation (2 ^ 63) ≡ true
  pub known : IsKnown IsExprIn s
