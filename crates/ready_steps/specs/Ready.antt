-- Who of a state can step.
use Rattle.std.specs.Prelude.{◌≡◌, ℕ, Bool, true, false, Option, Some, None, option_map, is_some}
use Rattle.std.specs.Ordering.{nat_cmp}
use Rattle.std.specs.BTreeMap.{BTreeMap, get}
use Rattle.stab_code.specs.Program.{ProgramParts}
use Rattle.plain_language.specs.declared.look.Look.{Look}
use Rattle.language.specs.Plain.{PlainState, look_in, standing}
use Rattle.plain_language.specs.Seen.{seen}
use Rattle.ready_steps.specs.declared.ready.Meeting.{Meeting}
use Rattle.ready_steps.specs.declared.ready.Ready.{Ready}
use Rattle.ready_steps.specs.declared.ready.Ready.TheVariants.{Alone, Meet}
use Rattle.ready_steps.specs.Resting.{is_resting, receives_on, sends_on}

-- what each thread does next
abbrev pub look_of : ProgramParts → PlainState → ℕ → Option Look
look_of p s t = option_map (λ e. seen (look_in p e)) (standing s t)

-- a thread that isn't there rests, and sends and receives nothing
abbrev pub rests_at : Option Look → Bool
rests_at None = true
rests_at (Some d) = is_resting d

abbrev pub sends_at : ℕ → Option Look → Bool
sends_at c None = false
sends_at c (Some d) = sends_on c d

abbrev pub receives_at : ℕ → Option Look → Bool
receives_at c None = false
receives_at c (Some d) = receives_on c d

-- one sends and the other receives on the channel
pub record CanMeet (p : ProgramParts) (s : PlainState) (m : Meeting) : Type 0 where
  pub sends : sends_at m.chan.0 (look_of p s m.sender.0) ≡ true
  pub receives : receives_at m.chan.0 (look_of p s m.receiver.0) ≡ true

-- the thread can step by itself, or the two can meet
abbrev pub IsReady : ProgramParts → PlainState → Ready → Type 0
IsReady p s (Alone t) = rests_at (look_of p s t.0) ≡ false
IsReady p s (Meet m) = CanMeet p s m

-- no thread can step by itself
abbrev pub AllRest : (ℕ → Option Look) → Type 0
AllRest f = (t : ℕ) → rests_at (f t) ≡ true

-- each channel on which a thread receives is there
abbrev pub HasReceivers : (ℕ → Option Look) → BTreeMap ℕ ℕ → Type 0
HasReceivers f m = (t c : ℕ) → receives_at c (f t) ≡ true → is_some (get nat_cmp m c) ≡ true

-- nobody sends where one receives
abbrev pub NobodyMeets : (ℕ → Option Look) → Type 0
NobodyMeets f = (t u c : ℕ) → sends_at c (f t) ≡ true → receives_at c (f u) ≡ false
