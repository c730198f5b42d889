use Rattle.std.proofs.Common.{◌+◌, ◌*◌}
use Rattle.language.specs.Expression.{parts_of}
use Rattle.language.specs.Size.{size_of, size_of_parts}
use Rattle.plain_language.proofs.+rebuilt.Given as goal

abbrev pub decreases-expr::Expr::rebuilt : goal.decreases-expr::Expr::rebuilt
decreases-expr::Expr::rebuilt l = 2 * size_of l.self

abbrev pub decreases-redex::rebuilt_form : goal.decreases-redex::rebuilt_form
decreases-redex::rebuilt_form l = 2 * size_of_parts (parts_of l.parts.items) + 1
