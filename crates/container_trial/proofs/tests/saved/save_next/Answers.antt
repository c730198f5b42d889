use Rattle.std.proofs.Common.{◌≡◌, inl, ℕ, ◌<◌, ◌+◌, Bool, true, false, cond, ◌&&◌, Option, IsSome, nat_eq, refl, subst, arith}
use Rattle.std.proofs.lemmas.Bool.Decides.{nat_tests}
use Rattle.container_trial.proofs.tests.saved.save_next.Goals as goal

pub save-requires-clause-last : goal.save-requires-clause-last
save-requires-clause-last c = λ r u some. inl (c.requires.before r u some)

placed : (a c : ℕ) (x y : Bool) (o p : Option ℕ) → nat_eq a c ≡ x → (IsSome p → a < c) → IsSome (cond (x && y) o p) → a < c + 1
placed a c true y o p same old some = grind (arith, nat_tests)
placed a c false y o p apart old some = omega (arith, old some)

pub returns : goal.returns
returns c = λ r u some. placed r.0 c.args.q (nat_eq r.0 c.args.q) (nat_eq u.0 c.args.t) _ _ refl (c.requires.before r u) (subst IsSome (c.save.ensures.saved r u) some)
