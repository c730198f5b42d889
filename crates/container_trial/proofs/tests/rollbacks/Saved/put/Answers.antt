use Rattle.std.proofs.Common.{◌<◌, ◌+◌, ◌*◌, arith, nat_eq, refl, sym, subst, IsSome}
use Rattle.std.specs.List.{All}
use Rattle.checkpoint_store.specs.Saved.{Place, saved_at}
use Rattle.container_trial.proofs.SavedPlaces.{is_before, below_more, there_more}
use Rattle.container_trial.proofs.tests.rollbacks.Saved.put.Goals as goal

pub save-requires-clause-last : goal.save-requires-clause-last
save-requires-clause-last c = λ r u some. is_before r.0 u.0 c.args.q c.args.t c.args.self.now.next (c.args.self.now.below r u some) c.requires.next c.requires.thread

pub invariant_of-self : goal.invariant_of-self
invariant_of-self c = record {
  below = λ r u some.
      let low : r.0 * 2048 + u.0 < c.args.q * 2048 + c.args.t + 1 =
      below_more r.0 u.0 c.args.q c.args.t c.args.self.now.next (nat_eq r.0 c.args.q) (nat_eq u.0 c.args.t) _ _ refl refl c.requires.next (c.args.self.now.below r u) (subst IsSome (c.save.ensures.saved r u) some) in
      omega (arith, c.from.ensures);
  there = subst (All (λ (p : Place). IsSome (saved_at c.save.new.self p.0 p.1))) (sym c.push_reserved.ensures.items)
      (there_more c.args.self.now.store c.save.new.self c.args.self.now.places.items (record { 0 = c.args.q }) (record { 0 = c.args.t }) c.args.control c.save.ensures.saved c.args.self.now.there);
}
