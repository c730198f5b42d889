use Rattle.std.proofs.Common.{◌≡◌, ◌<◌, ℕ, Some, slice_get}
use Rattle.stab_code.specs.Program.{FunctionParts}
use Rattle.stab_types.specs.Given.{AreSignatures}
use Rattle.stab_types.specs.Typed.{IsBodyTyped}
use Rattle.stab_types.proofs.check.untyped.Given as goal

abbrev pub invariant-loop-k : goal.invariant-loop-k
invariant-loop-k l = record {
  signatures : AreSignatures l.types l.signatures l.program.functions;
  typed : (i : ℕ) (f : FunctionParts) → i < l.k → slice_get l.program.functions i ≡ Some f → IsBodyTyped l.program f;
}
