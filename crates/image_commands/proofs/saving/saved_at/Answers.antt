use Rattle.std.proofs.Common.{ℕ, List, ◌++◌, take, ap, ◌∙◌, arith}
use Rattle.stab_image.specs.ImageText.{text_of_image}
use Rattle.stab_image.proofs.Cutting.{is_there}
use Rattle.image_commands.proofs.saving.saved_at.Goals as goal

pub image_at-requires-clause-small : goal.image_at-requires-clause-small
image_at-requires-clause-small c = omega (arith, is_there c.args.history.now.events c.in-Some.q.0 _ c.in-Some.ensures.cut.2, c.requires.short)

pub returns : goal.returns
returns c = record {
  of_run = c.requires.of_run;
  seq = c.in-Some.q.0;
  cut = c.in-Some.ensures;
  image = c.in_ok-image.image;
  stands = c.in_ok-image.ensures.stands;
  text_is = c.in_ok-image.ensures.text;
  is_text = record {
    bytes_are = c.in_ok-put_image.ensures.written ∙ ap (λ (front : List ℕ). front ++ text_of_image c.in_ok-image.image) c.new-out.ensures.items;
    right = c.history_is_right.ensures c.args.job.now.program c.args.job.now.script (take c.in-Some.q.0 c.args.history.now.events) c.in_ok-image.ensures.stands;
  };
}
