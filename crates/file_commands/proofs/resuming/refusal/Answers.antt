use Rattle.std.proofs.Common.{inl, inr}
use Rattle.file_commands.proofs.resuming.refusal.Goals as goal

pub returns-in-NoMemory : goal.returns-in-NoMemory
returns-in-NoMemory c = λ bytes has. inr (c.bare.ensures.status, c.bare.ensures.blames)

pub returns-in_default : goal.returns-in_default
returns-in_default c = λ bytes has. inl (record {
  status = c.blaming.ensures.status;
  fault = c.args.fault;
  has = has c.in_default.not-NoMemory;
  blames = c.blaming.ensures.blames;
})
