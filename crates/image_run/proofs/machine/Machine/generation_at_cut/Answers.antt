use Rattle.std.proofs.Common.{ℕ, sym, ap, ◌∙◌}
use Rattle.std.specs.Prelude.{Option, unwrap_or}
use Rattle.language.proofs.Maps.{get_looked}
use Rattle.image_run.proofs.machine.Machine.generation_at_cut.Goals as goal

pub returns-in-Some : goal.returns-in-Some
returns-in-Some c = ap (λ (o : Option ℕ). unwrap_or o 0) (c.in-Some.ensures.value ∙ sym (get_looked c.args.self.now.origin.generations.entries c.args.t.0))

pub returns-in-None : goal.returns-in-None
returns-in-None c = ap (λ (o : Option ℕ). unwrap_or o 0) (c.in-None.ensures.value ∙ sym (get_looked c.args.self.now.origin.generations.entries c.args.t.0))
