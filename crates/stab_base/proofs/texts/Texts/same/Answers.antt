-- The vectors are equal exactly where their bytes are.
use Rattle.stab_base.proofs.TextLemmas.{texts_eq-Decides}
use Rattle.stab_base.proofs.texts.Texts.same.Goals as goal

pub returns : goal.returns
returns c = rw (← c.self.view_is, ← c.other.view_is) (texts_eq-Decides (λ v. v.items) c.self.inside.texts.items c.other.inside.texts.items c.eq.result c.eq.ensures)
