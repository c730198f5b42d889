-- What a redex that is no act makes, as the machine names it.
use Rattle.std.specs.Prelude.{ℕ, List, [], Option, Some, None}
use Rattle.stab_base.specs.declared.fault.Fault.TheVariants.{WrongKind}
use Rattle.plain_language.specs.declared.instead.Instead.{Instead}
use Rattle.plain_language.specs.declared.instead.Instead.TheVariants.{Put, Pass}
use Rattle.language.specs.declared.head.Head.TheVariants.{Block}
use Rattle.plain_language.specs.declared.pure.Pure.{Pure}
use Rattle.plain_language.specs.declared.pure.Pure.TheVariants.{Becomes, Fails}
use Rattle.plain_language.specs.declared.pure.Next.{Next}
use Rattle.plain_language.specs.declared.pure.Next.TheVariants.{Makes, Passes}
use Rattle.language.specs.Expression.{Expr, failed, form, Parts, none, part}
use Rattle.language.specs.Outcome.{Outcome, becomes, fails, block_of}
use Rattle.language.specs.Redex.{Redex}

abbrev pub made_of : Pure → Outcome
made_of (Becomes e) = becomes e
made_of (Fails k) = fails k

-- of a redex with these parts that wait
abbrev pub made_in : Parts → Next → Outcome
made_in waiting (Makes p) = made_of p
made_in waiting (Passes slots) = block_of slots waiting

-- what is left of a block
abbrev pub left_of_block : List (Option ℕ) → Parts → Expr
left_of_block [] (part e none) = e
left_of_block slots ps = form (Block slots) ps

abbrev pub waiting_in : Option Redex → Parts
waiting_in None = none
waiting_in (Some r) = r.waiting

-- what comes in place of a redex
abbrev pub changed : Instead → Option Redex → Expr
changed (Put e) r = e
changed (Pass slots) None = failed WrongKind
changed (Pass slots) (Some r) = left_of_block slots r.waiting
