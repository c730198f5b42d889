use Rattle.std.proofs.Common.{◌∙◌, ap, sym}
use Rattle.std.specs.Cmp.{nat_cmp_total}
use Rattle.std.specs.FinSet as set
use Rattle.language.specs.Held.{Held}
use Rattle.plain_language.proofs.state.PlainState.has_channel.Goals as goal

pub returns : goal.returns
returns c = c.contains.ensures ∙ sym (set.contains-from_list nat_cmp_total c.self.inside.channels.keys c.args.c.0) ∙ ap (λ (h : Held). set.contains h.state.channels c.args.c.0) c.self.view_is
