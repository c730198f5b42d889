use Rattle.stab_top.proofs.ReadImages.{image_goes_on}
use Rattle.stab_top.proofs.laws.images_go_on.Goals as goal

pub returns : goal.returns
returns c = image_goes_on
