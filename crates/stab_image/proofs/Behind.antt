-- What continues an image leaves what was printed, and no thread gets the number 0.
use Rattle.std.proofs.Common.{◌≡◌, ℕ, suc, ◌+◌, ◌≤◌, List, [], ◌∷◌, ◌++◌, length, Option, Some, None, refl, sym, ap, ◌∙◌, append_assoc, append-nil, arith}
use Rattle.std.specs.Prelude.{false, is_some}
use Rattle.std.specs.FinMap as map
use Rattle.std.proofs.lemmas.Bool.{false≢true}
use Rattle.stab_base.specs.Datum.{Datum}
use Rattle.stab_journal.specs.declared.event.Event.{Event}
use Rattle.stab_journal.specs.declared.event.Label.{Label}
use Rattle.stab_journal.specs.declared.event.Label.TheVariants.{Local, Spawn, NewChan, Comm, NewRef, Get, Set, Enter, Cut, Print, Probe, Refuse, Pin, Attempt}
use Rattle.stab_journal.specs.declared.event.Numbered.{Numbered}
use Rattle.stab_journal.specs.declared.event.What.TheVariants.{Step}
use Rattle.stab_journal.specs.Journal.{step_at}
use Rattle.stab_journal.specs.Names.{has}
use Rattle.stab_journal.specs.Reached.{reached}
use Rattle.language.specs.Plain.{PlainState, effect_of}
use Rattle.language.specs.Steps.{State, Table, after_steps, plain}
use Rattle.journal_laws.proofs.Runs.{steps_append}
use Rattle.journal_laws.proofs.Stepping.{step_of}
use Rattle.journal_laws.proofs.Surviving.{no_steps, some_is, some_none}
use Rattle.image_laws.specs.Image.{Continues, Image, MayStepSince, nothing, step, undo}
use Rattle.image_laws.proofs.Threads.{AreFresh, IsFresh, fresh_last, fresh_rest, new_after}

-- a list begins with another
pub record BeginsWith {A : Type 0} (whole front : List A) : Type 0 where
  pub more : List A
  pub is : whole ≡ front ++ more

-- what was printed before steps is what the output begins with after them
pub output_kept : {E : Type 0} (effect : Table E) (ns : List Numbered) (s n : State E) → after_steps effect (Some s) ns ≡ Some n → BeginsWith n.output s.output
output_kept {E} effect [] s n is = record { more = []; is = ap (λ (k : State E). k.output) (sym (some_is is)) ∙ sym (append-nil s.output) }
output_kept {E} effect (m ∷ ns) s n is =
    elim (plain effect s m.seq.0 m.label) as (λ o. plain effect s m.seq.0 m.label ≡ o → after_steps effect o ns ≡ Some n → BeginsWith n.output s.output) [
      | None ↦ λ none run. absurd (some_none (sym run ∙ no_steps effect ns))
      | (Some k) ↦ λ made run.
          let st = step_of effect s m.seq.0 m.label k made in
          let rest = output_kept effect ns k n run in
          record {
            more = st.eff.printed ++ rest.more;
            is = rest.is ∙ ap (λ (out : List Datum). out ++ rest.more) (ap (λ (x : State E). x.output) st.is) ∙ append_assoc s.output st.eff.printed rest.more;
          }
    ] refl is

-- the steps that are left lead from the image's state to the state, and what they spawn is new
pub record IsLed (image : Image) (run : List Numbered) (s : PlainState) : Type 0 where
  pub ends : after_steps (effect_of image.program) (Some image.state) run ≡ Some s
  pub fresh : AreFresh image.next_thread run

fresh_of : (image : Image) (events : List Event) (run : List Numbered) (s : PlainState) (l : Label) → MayStepSince image events run s l → IsFresh image.next_thread l
fresh_of image events run s (Spawn t u) may = may
fresh_of image events run s (Local t n) may = tt
fresh_of image events run s (NewChan t c) may = tt
fresh_of image events run s (Comm a b c) may = tt
fresh_of image events run s (NewRef t r) may = tt
fresh_of image events run s (Get t r) may = tt
fresh_of image events run s (Set t r) may = tt
fresh_of image events run s (Enter t) may = tt
fresh_of image events run s (Cut t) may = tt
fresh_of image events run s (Print t) may = tt
fresh_of image events run s (Probe t i) may = tt
fresh_of image events run s (Refuse t) may = tt
fresh_of image events run s (Pin t) may = tt
fresh_of image events run s (Attempt t g) may = tt

pub led_on : (image : Image) {events : List Event} {run : List Numbered} {s : PlainState} → Continues image events run s → IsLed image run s
led_on image nothing = record { ends = refl; fresh = tt }
led_on image (step {events} {run} {before} after w l c may is) =
    let h = led_on image c in
    let q = image.seq + length events + 1 in
    record {
      ends = steps_append (effect_of image.program) run (step_at q (Step l)) (Some image.state) ∙ ap (λ (o : Option PlainState). after_steps (effect_of image.program) o (step_at q (Step l))) h.ends ∙ is;
      fresh = fresh_last image.next_thread run _ h.fresh (fresh_of image events run before l may);
    }
led_on image (undo {events} {run} {before} after w t m c may is) =
    let h = led_on image c in
    record { ends = is; fresh = fresh_rest image.next_thread (has (reached run m)) run h.fresh }

-- a thread that wasn't there and is below the next number isn't there
pub still_none : (image : Image) (run : List Numbered) (s : PlainState) (t : ℕ) → IsLed image run s → suc t ≤ image.next_thread → map.get image.state.threads t ≡ None → map.get s.threads t ≡ None
still_none image run s t h below none =
    elim (map.get s.threads t) as (λ o. map.get s.threads t ≡ o → map.get s.threads t ≡ None) [
      | None ↦ λ is. is
      | (Some e) ↦ λ is.
          let up : image.next_thread ≤ t = new_after (effect_of image.program) image.next_thread t run image.state s e h.ends h.fresh none is in
          absurd (omega arith)
    ] refl

-- what isn't there is nothing
pub none_is : {A : Type 0} (o : Option A) → is_some o ≡ false → o ≡ None
none_is None h = refl
none_is (Some a) h = absurd (false≢true (sym h))
