use Rattle.std.proofs.Common.{◌≡◌, ◌++◌, List, ℕ, take, drop, append_assoc, sym, ap, subst, ◌∙◌}
use Rattle.std.specs.List.{flat_map}
use Rattle.std.proofs.lemmas.Grind.{flat_map-append}
use Rattle.std.proofs.lemmas.List.{take-append-drop}
use Rattle.stab_base.specs.Datum.{Datum}
use Rattle.stab_base.specs.Printed.{printed}
use Rattle.stab_code.specs.JobParts.{JobParts}
use Rattle.stab_code.specs.Program.{ProgramParts}
use Rattle.stab_code.specs.Valid.{IsValid}
use Rattle.stab_journal.specs.Due.{released}
use Rattle.language.specs.Shown.{line, value_lines}
use Rattle.book_text.specs.Written.{count_text, fault_lines, released_lines}
use Rattle.book_text.proofs.Going.{all_whole}
use Rattle.book_text.proofs.Showing.{is_shown_text}
use Rattle.book_text.proofs.shown.rest_text.Goals as goal

pub returns : goal.returns
returns c =
    let b = c.args.book.now in
    let program : c.deref.result.now ≡ b.job.program = c.deref.ensures ∙ c.program.ensures.value ∙ ap (λ (j : JobParts). j.program) c.job.ensures.job in
    let valid : IsValid b.job.program = subst IsValid program c.texts.ensures.valid in
    let values : c.put_values.new.text.items ≡ value_lines b.job.program (drop (released b.history.events) b.printed) =
    c.in_ok-put_values.ensures ∙ ap (λ start. start ++ flat_map (λ v. line (printed c.texts.result.now v)) c.unreleased.result) c.new-text.ensures.items
    ∙ ap (flat_map (λ v. line (printed c.texts.result.now v))) c.unreleased.ensures.unreleased
    ∙ ap (λ (texts : List (List ℕ)). flat_map (λ v. line (printed texts v)) (drop (released b.history.events) b.printed)) (c.texts.ensures.value ∙ ap (λ (p : ProgramParts). p.texts) program)
    in
    let text : c.put_counts.new.text.items ≡ value_lines b.job.program (drop (released b.history.events) b.printed) ++ fault_lines b b.next.thread ++ count_text b =
    c.in_ok-put_counts.ensures ∙ ap (λ t. t ++ count_text b) (c.in_ok-put_faults.ensures ∙ ap (λ t. t ++ fault_lines b b.next.thread) values)
    in
    let all : value_lines b.job.program b.printed ≡ released_lines b ++ value_lines b.job.program (drop (released b.history.events) b.printed) =
    ap (value_lines b.job.program) (sym (take-append-drop (released b.history.events) b.printed))
    ∙ flat_map-append (λ (v : Datum). line (printed b.job.program.texts v)) (take (released b.history.events) b.printed) (drop (released b.history.events) b.printed)
    in
    λ s leads.
    sym (is_shown_text b (all_whole b valid c.job.ensures.shown) c.job.ensures.shown s leads)
    ∙ ap (λ l. l ++ fault_lines b b.next.thread ++ count_text b) all
    ∙ ap (λ l. l ++ count_text b) (append_assoc (released_lines b) (value_lines b.job.program (drop (released b.history.events) b.printed)) (fault_lines b b.next.thread))
    ∙ append_assoc (released_lines b) (value_lines b.job.program (drop (released b.history.events) b.printed) ++ fault_lines b b.next.thread) (count_text b)
    ∙ ap (λ t. released_lines b ++ t) (sym text)
