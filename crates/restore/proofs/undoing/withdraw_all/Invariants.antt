use Rattle.std.proofs.Common.{◌≡◌, ℕ, cond, take, None, option_map}
use Rattle.std.specs.FinMap as map
use Rattle.linked_lists.specs.Lists.{is_listed}
use Rattle.restore.specs.Left.{without_all}
use Rattle.restore.proofs.undoing.withdraw_all.Given as goal

abbrev pub invariant-loop-t : goal.invariant-loop-t
invariant-loop-t l = record {
  waiting : (c : ℕ) → map.get l.offers.lines c ≡ option_map (without_all (λ u. is_listed u (take l.t-index (map.keys l.plan.lines)))) (map.get l.fn.offers.lines c);
  offers : (u : ℕ) → map.get l.offers.offers u ≡ cond (is_listed u (take l.t-index (map.keys l.plan.lines))) None (map.get l.fn.offers.offers u);
}
