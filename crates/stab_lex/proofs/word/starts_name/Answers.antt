use Rattle.std.proofs.Common.{◌≡◌, ℕ, Bool, true, false, refl, ap, sym, ◌∙◌, subst}
use Rattle.std.specs.Prelude.{◌||◌, ◌==◌}
use Rattle.std.specs.Char.{is_ascii}
use Rattle.std.proofs.lemmas.Bool.{false≢true, eqb-true, false_from_ne_true, ltb-true}
use Rattle.unicode_ident.specs.Ident.{is_xid_start}
use Rattle.stab_lex.proofs.Classes.{starts_name-ascii}
use Rattle.stab_lex.proofs.word.starts_name.Goals as goal

not_underscore : (c : ℕ) → is_ascii c ≡ false → (c == 95) ≡ false
not_underscore c high = false_from_ne_true _ (λ same. false≢true (sym (subst (λ n. is_ascii n ≡ false) (eqb-true c 95 same) high)))

or_false : (b : Bool) → (b || false) ≡ b
or_false true = refl
or_false false = refl

pub returns : goal.returns
returns c =
    let plain = not_underscore c.args.c (sym c.is_ascii.ensures ∙ c.if-is_ascii.false) in
    c.is_xid_start.ensures.value ∙ sym (ap (λ b. is_xid_start c.args.c || b) plain ∙ or_false (is_xid_start c.args.c))

pub returns-then-is_ascii_alphabetic : goal.returns-then-is_ascii_alphabetic
returns-then-is_ascii_alphabetic c =
    let low = ltb-true c.args.c 128 (sym c.is_ascii.ensures ∙ c.if-is_ascii.true) in
    let letter = sym c.is_ascii_alphabetic.ensures.value ∙ c.if-is_ascii_alphabetic.true in
    c.if-is_ascii_alphabetic.true ∙ sym (starts_name-ascii c.args.c low ∙ ap (λ b. b || c.args.c == 95) letter)

pub returns-else-is_ascii_alphabetic : goal.returns-else-is_ascii_alphabetic
returns-else-is_ascii_alphabetic c =
    let low = ltb-true c.args.c 128 (sym c.is_ascii.ensures ∙ c.if-is_ascii.true) in
    let no_letter = sym c.is_ascii_alphabetic.ensures.value ∙ c.if-is_ascii_alphabetic.false in
    sym (starts_name-ascii c.args.c low ∙ ap (λ b. b || c.args.c == 95) no_letter)
