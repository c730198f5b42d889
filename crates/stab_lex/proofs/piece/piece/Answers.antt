use Rattle.std.proofs.Common.{sym, refl, ◌∙◌}
use Rattle.stab_lex.specs.Pieces.{Blank}
use Rattle.stab_lex.proofs.Ways.{bumped}
use Rattle.stab_lex.proofs.piece.piece.Goals as goal

pub returns-then-is_blank : goal.returns-then-is_blank
returns-then-is_blank c = record {
  piece = Blank c.args.first;
  way = bumped c.args.first c.bump.result (sym c.requires) c.bump.ensures;
  stands = sym c.is_blank.ensures ∙ c.if-is_blank.true;
  kind_is = refl;
}
