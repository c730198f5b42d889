-- What the first events lead to, as an image.
use Rattle.std.proofs.Common.{◌≡◌, ℕ, ℤ, ◌+◌, ◌-◌, ◌≤◌, List, length, take, max, sym, ap, subst, ◌∙◌, arith}
use Rattle.std.specs.Prelude.{Some, IfSome}
use Rattle.std.specs.FinMap as map
use Rattle.std.proofs.lemmas.List.{length-take}
use Rattle.stab_base.specs.declared.numbers.ThreadId.{ThreadId}
use Rattle.stab_code.specs.Program.{ProgramParts}
use Rattle.stab_text.specs.Text.{IsTextOf}
use Rattle.stab_journal.specs.declared.event.Event.{Event}
use Rattle.stab_journal.specs.declared.event.Label.TheVariants.{Cut}
use Rattle.stab_journal.specs.declared.event.What.TheVariants.{Step}
use Rattle.stab_journal.specs.Journal.{event_at}
use Rattle.language.specs.Plain.{PlainState, standing}
use Rattle.language.specs.Standing.{StandsFor, event}
use Rattle.journal_laws.specs.Known.{IsExprIn, IsKnown}
use Rattle.journal_laws.proofs.Runs.{run_known}
use Rattle.journal_laws.proofs.Undone.{stands_run}
use Rattle.image_laws.specs.Image.{Image, AreGenerationsOf, StandsAt}
use Rattle.trace_verify.specs.Generations.{times}
use Rattle.trace_verify.specs.declared.led.LedTo.{LedTo}
use Rattle.trace_verify.specs.Led.{IsLedTo}
use Rattle.stab_image.specs.declared.named.Named.{Named}
use Rattle.stab_image.specs.Found.{AreFound}
use Rattle.stab_image.specs.Limits.{max_number}
use Rattle.stab_image.specs.Named.{AreNamed}
use Rattle.stab_image.proofs.Cutting.{is_there, probes_within, up_to_it}

module _ (p : ProgramParts) (script : List ℤ) (es : List Event) (q : ℕ) where
  -- as many events as the cut's number
  so_many : q ≤ length es → length (take q es) ≡ q
  so_many le = omega (arith, length-take q es)

  generations_are : (image : Image) (r : LedTo) → IsLedTo p script (take q es) r → image.state ≡ r.state.state → AreFound r.state.state r.generations image.generations → AreGenerationsOf image (take q es)
  generations_are image r led same found = record {
    each = λ t.
        subst (λ (k : ℕ). IfSome (standing image.state t) (λ e. map.get image.generations t ≡ Some k)) (led.generations t)
        (subst (λ (s : PlainState). IfSome (standing s t) (λ e. map.get image.generations t ≡ Some (times r.generations t))) (sym same) (found.each t));
    only = λ t none. found.only t (ap (λ (s : PlainState). standing s t) (sym same) ∙ none);
  }

  -- what the events up to a cut lead to is the image there
  pub image_stands : (w : ℕ) (t : ThreadId) (image : Image) (r : LedTo) (n : Named) → event_at es q ≡ Some (event w (Step (Cut t))) → IsLedTo p script (take q es) r → AreNamed (take q es) n
      → image.program ≡ r.state.program → image.script ≡ script → image.used ≡ r.probes → image.seq ≡ q → image.next_thread ≡ max n.thread 1 + 1 → image.next_chan ≡ n.chan + 1 → image.next_ref ≡ n.reference + 1
      → image.state ≡ r.state.state → AreFound r.state.state r.generations image.generations → StandsAt p script (take q es) image
  image_stands w t image r n at led named program is_script used seq thread chan ref state found = record {
    program_is = program ∙ led.program;
    script_is = is_script;
    before = take (q - 1) es;
    worker = w;
    thread = t;
    cut = up_to_it es q (event w (Step (Cut t))) at;
    run = led.run;
    stands = subst (StandsFor p (take q es) led.run) (sym state) led.stands;
    follows = led.follows;
    used = used ∙ led.probes;
    seq = seq ∙ sym (so_many (is_there es q (event w (Step (Cut t))) at));
    next = record {
      thread = omega (arith, thread, named.thread);
      chan = omega (arith, chan, named.chan);
      ref = omega (arith, ref, named.reference);
    };
    generations = generations_are image r led state found;
  }

  pub few_used : (r : LedTo) → q ≤ length es → q ≤ max_number → IsLedTo p script (take q es) r → r.probes ≤ max_number
  few_used r le small led = omega (arith, led.probes, probes_within (take q es), so_many le)

  pub text_is : (text : List ℕ) (r : LedTo) → IsLedTo p script (take q es) r → IsTextOf text p → IsTextOf text r.state.program
  text_is text r led is = subst (IsTextOf text) (sym led.program) is

  pub all_known : (r : LedTo) → IsLedTo p script (take q es) r → IsKnown IsExprIn r.state.state
  all_known r led = run_known p r.state.state led.run (stands_run p (take q es) led.run r.state.state led.stands).1
