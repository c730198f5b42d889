-- A function has at least as many slots as parameters.
use Rattle.std.proofs.Common.{sym}
use Rattle.stab_code.proofs.ValidLemmas.{arity_le-slots}
use Rattle.stab_code.proofs.program.Program.arity.Goals as goal

pub arity-requires : goal.arity-requires
arity-requires c = arity_le-slots c.args.self.now c.function.ensures.valid.slots_in_order c.args.f.0 c.in_ok-function.field-0.now (sym c.in_ok-function.ensures.value)
