use Rattle.std.proofs.Common.{◌≡◌, ℕ, ◌<◌, Bool, true, false, cond, List, [], ◌∷◌, sym, subst}
use Rattle.std.specs.Prelude.{filter}
use Rattle.std.specs.List.{AllByRecursion}
use Rattle.print_log.specs.Log.{Print, without}
use Rattle.container_trial.proofs.tests.prints.Printing.strike.Goals as goal

-- what holds of all prints holds of those that are left
all_left : (P : Print → Type 0) (f : Print → Bool) (ps : List Print) → AllByRecursion P ps → AllByRecursion P (filter f ps)
all_left P f [] all = tt
all_left P f (p ∷ ps) all = by (f p) (all_left P f ps all.1)
  where
    by : (b : Bool) → AllByRecursion P (filter f ps) → AllByRecursion P (cond b (p ∷ filter f ps) (filter f ps))
    by true left = (all.0, left)
    by false left = left

-- src/tests.rt:39:9
pub invariant_of-self : goal.invariant_of-self
invariant_of-self c = record {
  below = subst (AllByRecursion (λ (p : Print). p.number < c.args.self.now.next)) (sym c.strike.ensures.recent) (all_left _ _ _ c.args.self.now.below);
}
