use Rattle.std.proofs.Common.{◌≡◌, true, take}
use Rattle.std.specs.FinMap as map
use Rattle.stab_base.specs.declared.numbers.ThreadId.{ThreadId}
use Rattle.linked_lists.specs.Lists.{is_listed}
use Rattle.container_trial.specs.Places.{MayGoBack}
use Rattle.container_trial.proofs.tests.rollbacks.may_all_go_back.Given as goal

abbrev pub invariant-loop-t : goal.invariant-loop-t
invariant-loop-t l = (u : ThreadId) → is_listed u.0 (take l.t-index (map.keys l.plan.lines)) ≡ true → MayGoBack (map.get l.plan.lines u.0) (map.get l.slots.threads u.0) l.saved.store u
