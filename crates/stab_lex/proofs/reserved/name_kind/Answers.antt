use Rattle.std.proofs.Common.{ap, ◌∙◌}
use Rattle.std.specs.Prelude.{unwrap_or}
use Rattle.stab_lex.specs.declared.kind.Kind.TheVariants.{Name}
use Rattle.stab_lex.specs.Kinds.{kind_in, reserved_names}
use Rattle.stab_lex.proofs.OfLength.{kind_of_length}
use Rattle.stab_lex.proofs.reserved.name_kind.Goals as goal

pub returns : goal.returns
returns c =
    c.unwrap_or.ensures
    ∙ ap (λ o. unwrap_or o Name) (c.kind_in.ensures ∙ ap (λ rows. kind_in rows c.args.name.now) c.reserved_of.ensures ∙ kind_of_length reserved_names c.args.name.now)
