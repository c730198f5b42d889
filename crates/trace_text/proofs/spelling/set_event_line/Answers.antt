use Rattle.std.proofs.Common.{◌++◌, ap, ◌∙◌}
use Rattle.std.specs.Prelude.{decimal}
use Rattle.trace_text.specs.Form.{sign_text, verb_text}
use Rattle.trace_text.specs.Text.{numbers_of, sign_of, verb_of}
use Rattle.trace_text.proofs.Spelled.{spelled}
use Rattle.trace_text.proofs.spelling.set_event_line.Goals as goal

pub returns-clause-line : goal.returns-clause-line
returns-clause-line c =
    let event = c.args.entry.event in
    spelled (sign_text (sign_of c.args.entry.struck event.what)) (decimal c.args.q) (decimal event.worker) (verb_text (verb_of event.what)) (numbers_of event.what)
    c.clear.new.self.items c.push.new.line.items c.push_number.new.line.items c.push-2.new.line.items c.push-3.new.line.items c.push-4.new.line.items c.push-5.new.line.items c.push_numbers.new.line.items c.push-6.new.line.items
    c.clear.ensures.items
    (c.push.ensures.items ∙ ap (λ x. c.clear.new.self.items ++ x) (c.as_bytes.ensures.value ∙ c.text.ensures.text ∙ ap sign_text c.sign_of.ensures))
    c.push_number.ensures.items
    c.push-2.ensures.items
    (c.push-3.ensures.items ∙ ap (λ x. c.push-2.new.line.items ++ x) (c.as_bytes-2.ensures.value ∙ c.format.ensures.text))
    c.push-4.ensures.items
    (c.push-5.ensures.items ∙ ap (λ x. c.push-4.new.line.items ++ x) (c.as_bytes-3.ensures.value ∙ c.text-2.ensures.text ∙ ap verb_text c.verb_of.ensures))
    c.push_numbers.ensures.items
    c.push-6.ensures.items
