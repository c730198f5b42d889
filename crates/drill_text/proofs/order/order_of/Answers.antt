-- A text is cut at its first space, and its order is that of the two words.
use Rattle.std.proofs.Common.{◌≡◌, Some, None, sym, ap, ◌∙◌, rules}
use Rattle.drill_text.specs.Order.{order_in}
use Rattle.text_lines.specs.Numeral.{number_in}
use Rattle.drill_text.proofs.Orders.{ordered, order_in-cut}
use Rattle.drill_text.proofs.order.order_of.Goals as goal

pub returns-in_err-lease : goal.returns-in_err-lease
returns-in_err-lease c =
    let word = c.in_ok-word.word.now in
    let number = c.in_ok-word.number.now in
    let nothing : c.from_residual-in_err-lease.result ≡ None = search rules in
    nothing
    ∙ ap (ordered (Some c.in_ok-verb.verb)) c.in_err-lease.ensures.number
    ∙ ap (λ v. ordered v (number_in 1 64 number)) c.in_ok-verb.ensures
    ∙ sym (ap order_in c.in_ok-word.ensures.pieces ∙ order_in-cut word number)

pub returns : goal.returns
returns c =
    let word = c.in_ok-word.word.now in
    let number = c.in_ok-word.number.now in
    ap (ordered (Some c.in_ok-verb.verb)) c.in_ok-lease.ensures.number
    ∙ ap (λ v. ordered v (number_in 1 64 number)) c.in_ok-verb.ensures
    ∙ sym (ap order_in c.in_ok-word.ensures.pieces ∙ order_in-cut word number)
