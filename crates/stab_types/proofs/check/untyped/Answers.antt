use Rattle.std.proofs.Common.{◌+◌, refl, arith}
use Rattle.stab_types.proofs.Going.{signatures_more}
use Rattle.stab_types.proofs.Judging.{one_more, first_untyped, all_typed}
use Rattle.stab_types.proofs.check.untyped.Goals as goal

pub returns-then-not-branch-clause-some : goal.returns-then-not-branch-clause-some
returns-then-not-branch-clause-some c =
    first_untyped c.args.program.now c.loop-k.k c.in_ok-is_typed.field-0 (omega (arith, c.functions-functions.ensures.value, c.loop-k-test.true)) c.loop-k.invariant.typed c.in_ok-is_typed.ensures.is c.if-not-branch.true

pub loop-k-preserved : goal.loop-k-preserved
loop-k-preserved c =
    record {
      signatures = signatures_more c.loop-k.types c.is_typed.new.types c.args.signatures.now c.args.program.now.functions c.in_ok-is_typed.ensures.longer c.loop-k.invariant.signatures;
      typed = one_more c.args.program.now c.loop-k.k (c.loop-k.k + 1) c.in_ok-is_typed.field-0 c.loop-k.invariant.typed c.in_ok-is_typed.ensures.is c.if-not-branch.false refl;
    }

pub returns-clause-none : goal.returns-clause-none
returns-clause-none c =
    λ _. all_typed c.args.program.now c.loop-k.k (omega (arith, c.functions-functions.ensures.value, c.loop-k-test.false)) c.loop-k.invariant.typed
