use Rattle.std.proofs.Common.{inr, ap, ◌∙◌, arith}
use Rattle.std.specs.Prelude.{bytes_eq, position}
use Rattle.std.specs.List.{list_any}
use Rattle.scope_check.proofs.Numbered.{text-found, text-full, text-new}
use Rattle.scope_check.proofs.progress.Progress.number_text.Goals as goal

pub returns-in-Some-clause-number : goal.returns-in-Some-clause-number
returns-in-Some-clause-number c =
    let keys = c.args.self.now.texts.keys in
    let same = c.as_slice.ensures.value in
    text-found c.args.span c.args.text keys c.in-Some.number
    (c.in-Some.ensures.index ∙ ap (λ l. position (λ k. bytes_eq l k.items) keys) same) (c.in-Some.ensures.found ∙ ap (λ l. list_any (λ k. bytes_eq l k.items) keys) same)

pub returns-then-number-ge-MAX_TEXTS-clause-fault : goal.returns-then-number-ge-MAX_TEXTS-clause-fault
returns-then-number-ge-MAX_TEXTS-clause-fault c =
    let keys = c.args.self.now.texts.keys in
    let absent = c.in_default.ensures.found ∙ ap (λ l. list_any (λ k. bytes_eq l k.items) keys) c.as_slice.ensures.value in
    inr (text-full c.args.span c.args.text keys absent (omega (arith, c.len-number.ensures.len)))

pub returns-clause-number : goal.returns-clause-number
returns-clause-number c =
    let keys = c.args.self.now.texts.keys in
    let absent = c.in_default.ensures.found ∙ ap (λ l. list_any (λ k. bytes_eq l k.items) keys) c.as_slice.ensures.value in
    text-new c.args.span c.args.text keys absent c.len-number.result c.insert.new.self.keys (omega (arith, c.len-number.ensures.len)) c.len-number.ensures.len c.in_ok-insert.ensures.keys
