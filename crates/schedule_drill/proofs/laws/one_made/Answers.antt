use Rattle.schedule_drill.proofs.OneMade.{made_desk}
use Rattle.schedule_drill.proofs.laws.one_made.Goals as goal

pub returns : goal.returns
returns c = λ a b x y s t h i alike shown_a shown_b shown_x shown_y true_a true_b one made_a made_b.
    made_desk a b x y s t h i alike shown_a shown_b one made_a made_b shown_x shown_y true_a true_b
