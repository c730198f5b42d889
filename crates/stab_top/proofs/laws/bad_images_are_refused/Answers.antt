use Rattle.stab_top.proofs.ReadImages.{bad_image_refused}
use Rattle.stab_top.proofs.laws.bad_images_are_refused.Goals as goal

pub returns : goal.returns
returns c = bad_image_refused
