use Rattle.std.proofs.Common.{◌≡◌, ℕ, List, ◌++◌, take, drop, sym, ap, ◌∙◌, append_assoc, map as each}
use Rattle.std.specs.FinMap as map
use Rattle.std.specs.List.{flat_map}
use Rattle.std.proofs.lemmas.Grind.{flat_map-append}
use Rattle.std.proofs.lemmas.List.{take-append-drop}
use Rattle.stab_base.specs.Datum.{Datum}
use Rattle.stab_base.specs.Printed.{printed}
use Rattle.language.specs.Plain.{look_in}
use Rattle.language.specs.Shown.{count_line, line, value_lines}
use Rattle.state_text.specs.Text.{fault_lines}
use Rattle.state_text.proofs.text.rest_text.Goals as goal

pub returns : goal.returns
returns c =
    let p = c.args.state.now.program in
    let s = c.args.state.now.state in
    let n = c.args.before in
    let faults = fault_lines p s in
    let counts = count_line (each (look_in p) (map.values s.threads)) in
    let values : c.put_values.new.text.items ≡ value_lines p (drop n s.output) =
    c.in_ok-put_values.ensures
    ∙ ap (λ start. start ++ flat_map (λ v. line (printed c.args.texts.now v)) c.behind.result.now) c.new-text.ensures.items
    ∙ ap (λ (out : List Datum). flat_map (λ v. line (printed c.args.texts.now v)) out) (c.behind.ensures ∙ ap (drop n) c.printed.ensures)
    ∙ ap (λ (texts : List (List ℕ)). flat_map (λ v. line (printed texts v)) (drop n s.output)) c.requires.texts
    in
    let text : c.put_counts.new.text.items ≡ (value_lines p (drop n s.output) ++ faults) ++ counts =
    c.in_ok-put_counts.ensures ∙ ap (λ t. t ++ counts) (c.in_ok-put_faults.ensures ∙ ap (λ t. t ++ faults) values)
    in
    let all : value_lines p s.output ≡ value_lines p (take n s.output) ++ value_lines p (drop n s.output) =
    ap (value_lines p) (sym (take-append-drop n s.output)) ∙ flat_map-append (λ (v : Datum). line (printed p.texts v)) (take n s.output) (drop n s.output)
    in
    ap (λ l. l ++ faults ++ counts) all
    ∙ ap (λ l. l ++ counts) (append_assoc (value_lines p (take n s.output)) (value_lines p (drop n s.output)) faults)
    ∙ append_assoc (value_lines p (take n s.output)) (value_lines p (drop n s.output) ++ faults) counts
    ∙ ap (λ t. value_lines p (take n s.output) ++ t) (sym text)
