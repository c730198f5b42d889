use Rattle.std.proofs.Common.{◌≡◌, ◌++◌, List, ℕ, sym, ap, subst, ◌∙◌}
use Rattle.std.specs.List.{flat_map}
use Rattle.stab_base.specs.Printed.{printed}
use Rattle.stab_code.specs.JobParts.{JobParts}
use Rattle.stab_code.specs.Program.{ProgramParts}
use Rattle.stab_code.specs.Valid.{IsValid}
use Rattle.language.specs.Shown.{line, value_lines}
use Rattle.book_text.specs.Written.{IsShownText, count_text, fault_lines}
use Rattle.book_text.proofs.Going.{all_whole}
use Rattle.book_text.proofs.Showing.{is_shown_text}
use Rattle.book_text.proofs.shown.shown_text.Goals as goal

pub returns : goal.returns
returns c =
    let b = c.args.book.now in
    let program : c.deref.result.now ≡ b.job.program = c.deref.ensures ∙ c.program.ensures.value ∙ ap (λ (j : JobParts). j.program) c.job.ensures.job in
    let values : c.put_values.new.text.items ≡ value_lines b.job.program b.printed =
    c.in_ok-put_values.ensures ∙ ap (λ start. start ++ flat_map (λ v. line (printed c.texts.result.now v)) c.printed.result) c.new-text.ensures.items
    ∙ ap (flat_map (λ v. line (printed c.texts.result.now v))) c.printed.ensures.printed
    ∙ ap (λ (texts : List (List ℕ)). flat_map (λ v. line (printed texts v)) b.printed) (c.texts.ensures.value ∙ ap (λ (p : ProgramParts). p.texts) program)
    in
    let text : c.put_counts.new.text.items ≡ value_lines b.job.program b.printed ++ fault_lines b b.next.thread ++ count_text b =
    c.in_ok-put_counts.ensures ∙ ap (λ t. t ++ count_text b) (c.in_ok-put_faults.ensures ∙ ap (λ t. t ++ fault_lines b b.next.thread) values)
    in
    let valid : IsValid b.job.program = subst IsValid program c.texts.ensures.valid in
    subst (IsShownText b) (sym text) (is_shown_text b (all_whole b valid c.job.ensures.shown) c.job.ensures.shown)
