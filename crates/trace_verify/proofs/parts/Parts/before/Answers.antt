use Rattle.std.proofs.Common.{sym, subst}
use Rattle.stab_journal.specs.Journal.{RiseFrom}
use Rattle.trace_verify.proofs.Parting.{rise_back}
use Rattle.trace_verify.proofs.parts.Parts.before.Goals as goal

pub count_before-requires : goal.count_before-requires
count_before-requires c = record { rise = subst (RiseFrom 1) (sym c.deref.ensures.value) (rise_back 1 c.args.self.now.settled.items c.args.self.now.recent.items c.requires.rise) }
