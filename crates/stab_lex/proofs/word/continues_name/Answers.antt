use Rattle.std.proofs.Common.{ap, sym, ◌∙◌}
use Rattle.std.specs.Prelude.{◌||◌, ◌==◌}
use Rattle.std.proofs.lemmas.Bool.{ltb-true}
use Rattle.unicode_ident.proofs.IdentLemmas.{is_xid_continue-ascii}
use Rattle.stab_lex.proofs.word.continues_name.Goals as goal

pub returns-then-is_ascii_alphanumeric : goal.returns-then-is_ascii_alphanumeric
returns-then-is_ascii_alphanumeric c =
    let low = ltb-true c.args.c 128 (sym c.is_ascii.ensures ∙ c.if-is_ascii.true) in
    let letter = sym c.is_ascii_alphanumeric.ensures.value ∙ c.if-is_ascii_alphanumeric.true in
    c.if-is_ascii_alphanumeric.true ∙ sym (is_xid_continue-ascii c.args.c low ∙ ap (λ b. b || c.args.c == 95) letter)

pub returns-else-is_ascii_alphanumeric : goal.returns-else-is_ascii_alphanumeric
returns-else-is_ascii_alphanumeric c =
    let low = ltb-true c.args.c 128 (sym c.is_ascii.ensures ∙ c.if-is_ascii.true) in
    let no_letter = sym c.is_ascii_alphanumeric.ensures.value ∙ c.if-is_ascii_alphanumeric.false in
    sym (is_xid_continue-ascii c.args.c low ∙ ap (λ b. b || c.args.c == 95) no_letter)
