use Rattle.std.proofs.Common.{◌≡◌, ℕ, List, false, length, sym, ap, subst}
use Rattle.std.specs.Arc.{arc_value}
use Rattle.std.specs.Ordering.{nat_cmp}
use Rattle.std.specs.FinMap as map
use Rattle.std.specs.FinMap.{from_entries}
use Rattle.stab_text.specs.Text.{IsTextOf}
use Rattle.journal_laws.specs.Known.{IsExprIn, IsKnown}
use Rattle.language.specs.Held.{Held}
use Rattle.language.specs.Plain.{PlainState}
use Rattle.image_lines.specs.HeadText.{IsLength}
use Rattle.image_run.specs.Next.{AreBelowNext}
use Rattle.image_state.specs.Held.{held_parts}
use Rattle.image_state.specs.Sound.{state_from}
use Rattle.stab_image.specs.Numbered.{AreBelow}
use Rattle.stab_image.proofs.Sounds.{below_of, named_of, no_thread_0, put_back_of}
use Rattle.stab_image.proofs.read.image_with.Goals as goal

pub invariant_of-result : goal.invariant_of-result
invariant_of-result c =
    let next = c.args.counts.next in
    let q = held_parts c.args.parts in
    let sound = c.requires.sound in
    let counts = c.requires.counts in
    let there : state_from q ≡ c.in_ok-state.state.state = sym (ap (λ (h : Held). h.state) c.in_ok-state.ensures) in
    record {
      text = subst (λ (bytes : List ℕ). IsTextOf bytes (arc_value c.in_ok-program.program)) (sym c.in_ok-from_slice.ensures.items)
          (subst (IsTextOf c.args.text.now) (sym c.in_ok-program.ensures.ok) c.requires.text);
      short = subst (λ (bytes : List ℕ). IsLength (length bytes)) (sym c.in_ok-from_slice.ensures.items) c.requires.short;
      program = ap (λ (h : Held). h.program) c.in_ok-state.ensures;
      script = counts.probes.0;
      used = counts.probes.1;
      cut = counts.next.0;
      thread = counts.next.1;
      chan = counts.next.2;
      reference = counts.next.3;
      known = subst (λ (s : PlainState). IsKnown IsExprIn s) there sound.known;
      below = subst (λ (s : PlainState). AreBelow next.chan s) there (below_of next q sound);
      thread_0 = subst (λ (s : PlainState). map.contains_key s.threads 0 ≡ false) there (no_thread_0 next q sound);
      rising = sound.rising;
      same = λ t. subst (λ (s : PlainState). map.contains_key (from_entries {R = nat_cmp} q.generations) t ≡ map.contains_key s.threads t) there (sound.same t);
      named = subst (λ (s : PlainState). AreBelowNext (record { thread = next.thread; chan = next.chan; reference = next.reference }) s) there (named_of next q sound);
      put_back = λ t. put_back_of next q sound t;
    }
