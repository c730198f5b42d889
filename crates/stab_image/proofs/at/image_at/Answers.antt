use Rattle.std.proofs.Common.{ℕ, ℤ, ◌+◌, ◌≤◌, List, length, take, refl, sym, ap, subst, ◌∙◌, arith, length-take}
use Rattle.std.specs.Prelude.{is_some}
use Rattle.std.specs.Arc.{arc_value}
use Rattle.stab_code.specs.Limits.{max_script}
use Rattle.stab_text.specs.Text.{IsTextOf}
use Rattle.language.specs.Plain.{standing}
use Rattle.trace_verify.specs.Generations.{times}
use Rattle.image_lines.specs.HeadText.{IsLength}
use Rattle.stab_image.specs.Limits.{max_number}
use Rattle.stab_image.specs.Numbered.{AreBelow}
use Rattle.stab_image.proofs.BelowNext.{found_few, put_back_few, state_below}
use Rattle.stab_image.proofs.Cutting.{events_front, is_there, no_thread_0}
use Rattle.stab_image.proofs.Imaging.{all_known, few_used, image_stands}
use Rattle.stab_image.proofs.Listing.{same_keys}
use Rattle.stab_image.proofs.Numbering.{numbers_below}
use Rattle.stab_image.proofs.at.image_at.Goals as goal

pub replayed-requires-clause-there : goal.replayed-requires-clause-there
replayed-requires-clause-there c = is_there c.args.history.now.events c.args.q.0 _ c.requires.cut.2

pub by_first-named-requires : goal.by_first-named-requires
by_first-named-requires c = is_there c.args.history.now.events c.args.q.0 _ c.requires.cut.2

pub generations_of-requires : goal.generations_of-requires
generations_of-requires c =
    let es = c.args.history.now.events in
    let led = c.in_ok-led.ensures in
    no_thread_0 c.args.job.now.program (take c.args.q.0 es) led.run c.in_ok-led.led.state.state (events_front 1 c.args.q.0 es c.len.ensures.valid.in_range) led.stands

pub invariant_of-result : goal.invariant_of-result
invariant_of-result c =
    let p = c.args.job.now.program in
    let script = c.args.job.now.script in
    let es = c.args.history.now.events in
    let q = c.args.q.0 in
    let led = c.in_ok-led.ensures in
    let names = c.by_first-named.ensures.names in
    record {
      text = subst (λ (bytes : List ℕ). IsTextOf bytes (arc_value c.in_ok-try_clone.field-0)) (sym c.in_ok-from_slice.ensures.items)
          (subst (IsTextOf c.args.text.now) (sym (c.in_ok-try_clone.ensures ∙ c.program.ensures.value)) c.requires.text);
      short = subst (λ (bytes : List ℕ). IsLength (length bytes)) (sym c.in_ok-from_slice.ensures.items) c.requires.short;
      program = led.program ∙ sym (c.in_ok-try_clone.ensures ∙ c.program.ensures.value);
      script = subst (λ (ns : List ℤ). length ns ≤ max_script) (sym (c.in_ok-from_slice-2.ensures.items ∙ c.script.ensures.value)) c.script.ensures.limits.script_within;
      used = few_used p script es q c.in_ok-led.led (is_there es q _ c.requires.cut.2) c.requires.small led;
      cut = c.requires.small;
      thread = (omega arith, omega (arith, c.max.ensures, names.thread));
      chan = (omega arith, omega (arith, names.chan));
      reference = (omega arith, omega (arith, names.reference));
      below = subst (λ (n : ℕ). AreBelow n c.in_ok-led.led.state.state) (ap (λ (k : ℕ). k + 1) (sym c.by_first-named.ensures.named.chan))
          (numbers_below p (take q es) led.run c.in_ok-led.led.state.state (events_front 1 q es c.len.ensures.valid.in_range) led.stands);
      thread_0 = ap is_some (no_thread_0 p (take q es) led.run c.in_ok-led.led.state.state (events_front 1 q es c.len.ensures.valid.in_range) led.stands);
      rising = c.in_ok-generations_of.ensures.rising;
      same = same_keys c.in_ok-led.led.state.state c.in_ok-led.led.generations _ c.in_ok-generations_of.ensures.found;
      known = all_known p script es q c.in_ok-led.led led;
      named =
          let given = c.by_first-named.ensures.named in
          state_below _ (take q es) (omega (arith, c.max.ensures, given.thread)) (omega (arith, given.chan)) (omega (arith, given.reference)) p led.run c.in_ok-led.led.state.state
          (events_front 1 q es c.len.ensures.valid.in_range) led.stands;
      put_back = λ t.
          let found = c.in_ok-generations_of.ensures.found in
          found_few (standing c.in_ok-led.led.state.state t) _ (times c.in_ok-led.led.generations t) max_number (found.each t) (found.only t)
          (omega (arith, led.generations t, put_back_few t (take q es), length-take q es, c.requires.small));
    }

pub returns-clause-stands : goal.returns-clause-stands
returns-clause-stands c =
    image_stands c.args.job.now.program c.args.job.now.script c.args.history.now.events c.args.q.0 c.requires.cut.0 c.requires.cut.1 _ c.in_ok-led.led c.by_first-named.result
    c.requires.cut.2 c.in_ok-led.ensures c.by_first-named.ensures.named
    (c.in_ok-try_clone.ensures ∙ c.program.ensures.value ∙ sym c.in_ok-led.ensures.program) (c.in_ok-from_slice-2.ensures.items ∙ c.script.ensures.value) refl refl (ap (λ (k : ℕ). k + 1) c.max.ensures) refl refl refl c.in_ok-generations_of.ensures.found
