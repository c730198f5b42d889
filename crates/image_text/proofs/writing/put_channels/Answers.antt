use Rattle.std.proofs.Common.{ℕ, ◌++◌, ap, ◌∙◌}
use Rattle.std.specs.FinSet.{contains}
use Rattle.image_text.specs.ImageText.{channel_line}
use Rattle.image_text.proofs.Those.{all_so_far, one_so_far}
use Rattle.image_text.proofs.writing.put_channels.Goals as goal

pub loop-c-preserved : goal.loop-c-preserved
loop-c-preserved c =
    one_so_far (contains c.args.state.now.state.channels) channel_line c.args.next c.requires c.loop-c.last c.in-Some.c.0 c.args.out.now.items c.loop-c.out.items c.put_row.new.out.items
    c.loop-c.invariant c.in-Some.ensures (c.in_ok-put_row.ensures ∙ ap (λ (k : ℕ). c.loop-c.out.items ++ channel_line k) c.from.ensures)

pub returns : goal.returns
returns c = all_so_far (contains c.args.state.now.state.channels) channel_line c.args.next c.requires c.loop-c.last c.args.out.now.items c.loop-c.out.items c.loop-c.invariant c.in_default.ensures
