-- Whether the threads of a state ended.
use Rattle.std.specs.Prelude.{◌≡◌, ℕ, true, false, IfSome, IsSomeAnd}
use Rattle.language.specs.Plain.{PlainState, look_in, standing}
use Rattle.language.specs.Shown.{is_done}
use Rattle.stab_code.specs.Program.{ProgramParts}

-- every thread of the state ended without a fault; and one failed or waits
abbrev pub AllDone : ProgramParts → PlainState → Type 0
AllDone p s = (t : ℕ) → IfSome (standing s t) (λ e. is_done (look_in p e) ≡ true)

pub record SomeHeld (p : ProgramParts) (s : PlainState) : Type 0 where
  pub thread : ℕ
  pub held : IsSomeAnd (standing s thread) (λ e. is_done (look_in p e) ≡ false)
