use Rattle.std.proofs.Common.{◌≡◌, List, ◌++◌, length, take, ap, subst, ◌∙◌}
use Rattle.stab_base.specs.Datum.{Datum}
use Rattle.stab_code.specs.Program.{ProgramParts}
use Rattle.language.specs.Shown.{shown, value_lines}
use Rattle.state_text.specs.Ended.{AllDone, SomeHeld}
use Rattle.image_commands.proofs.Front.{front_of}
use Rattle.image_commands.proofs.resuming.shown_by.Goals as goal

pub returns : goal.returns
returns c =
    let i = c.args.image in
    let r = c.in_ok-resumed.resumed in
    let s = r.state.state in
    let t = c.in_ok-text.text.items in
    let same = c.in_ok-resumed.ensures.resumed.program in
    let behind = c.in_ok-resumed.ensures.behind in
    let kept = c.printed-before.result.now in
    record {
      resumed = c.in_ok-resumed.ensures.resumed;
      text =
          subst (λ (p : ProgramParts). shown p s ≡ value_lines p (take (length kept) s.output) ++ t) same c.in_ok-text.ensures
          ∙ ap (λ (vs : List Datum). value_lines i.program vs ++ t)
          (ap (λ (xs : List Datum). take (length xs) s.output) c.printed-before.ensures ∙ ap (take (length i.state.output)) behind.printed ∙ front_of i.state.output behind.more);
      all = λ on. subst (λ (p : ProgramParts). AllDone p s) same (c.all_ended-all_ended.ensures.all on);
      some = λ off. subst (λ (p : ProgramParts). SomeHeld p s) same (c.all_ended-all_ended.ensures.some off);
    }
