use Rattle.std.proofs.Common.{is_some, ◌∙◌, ap, sym}
use Rattle.std.proofs.lemmas.Bool.{false≢true}
use Rattle.language.proofs.Maps.{entered_map, get_looked}
use Rattle.plain_language.proofs.numbered.replace.Goals as goal

pub unwrap-requires : goal.unwrap-requires
unwrap-requires g c = ap is_some (c.in-Ok.ensures.old ∙ sym (get_looked c.args.map.now.entries c.args.key)) ∙ c.requires

pub unreachable-requires : goal.unreachable-requires
unreachable-requires g c = false≢true (ap is_some (sym (get_looked c.args.map.now.entries c.args.key ∙ c.in-Err.ensures.absent)) ∙ c.requires)

pub returns : goal.returns
returns g c = record {
  was = sym c.unwrap.ensures ∙ c.in-Ok.ensures.old ∙ sym (get_looked c.args.map.now.entries c.args.key);
  is = entered_map _ _ _ _ (λ q. c.in-Ok.ensures.updates.0 q);
}
