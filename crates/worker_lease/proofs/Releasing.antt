-- A release of a desk.
use Rattle.std.proofs.Common.{◌≡◌, ℕ, zero, suc, ◌+◌, ◌<◌, false, List, [], ◌∷◌, ◌++◌, length, take, drop, Some, None, Ok, Err, Vec, refl, sym, ap, subst, ◌∙◌, length-append, arith}
use Rattle.std.specs.declared.alloc.Global.{Global}
use Rattle.stab_base.specs.Datum.{Datum}
use Rattle.stab_base.specs.declared.numbers.NoMemory.{NoMemory}
use Rattle.stab_base.specs.declared.numbers.Seq.{Seq}
use Rattle.stab_code.specs.JobParts.{JobParts}
use Rattle.stab_journal.specs.declared.event.Event.{Event}
use Rattle.stab_journal.specs.declared.event.What.TheVariants.{Release}
use Rattle.stab_journal.specs.Due.{due, released}
use Rattle.language.specs.Plain.{effect_of, start}
use Rattle.language.specs.Shown.{value_lines}
use Rattle.language.specs.Standing.{event}
use Rattle.journal_laws.specs.Surviving.{prints}
use Rattle.journal_laws.proofs.Undone.{stands_run}
use Rattle.commit_book.specs.Book.{BookView, IsShown}
use Rattle.commit_book.specs.Releases.{IsReleased, due_lines, finals}
use Rattle.commit_book.proofs.Lawful.StayPrinted.{output_is}
use Rattle.worker_lease.specs.declared.ask.DeskAsk.TheVariants as ask
use Rattle.worker_lease.specs.declared.ask.DeskAnswer.TheVariants as answer
use Rattle.worker_lease.specs.Releases.{AreByOne, due_text, printed_by}
use Rattle.worker_lease.specs.Serving.{IsServing}
use Rattle.worker_lease.proofs.Adding.{adds_none, history_of}

-- what a book printed is what its events printed
pub printed_is : (b : BookView) → IsShown b → b.printed ≡ printed_by b.job b.history.events
printed_is b shown =
    let p = b.job.program in
    let journal = shown.shows.journal in
    let ran = stands_run p b.history.events shown.run shown.state journal.history.stands in
    journal.printed ∙ output_is p shown.run (start p) shown.state ran.1.ends ∙ ap (prints (effect_of p) (λ _. false) (Some (start p))) ran.0

pub some_due : (r n : ℕ) → r ≡ n → (r ≡ 0 → ⊥) → 0 < n
some_due zero n is none = absurd (none refl)
some_due (suc r) n is none = omega (arith, is)

one_more : (es : List Event) (k : ℕ) → AreByOne es → AreByOne (es ++ event 1 (Release k) ∷ [])
one_more [] k by_one = (λ is. refl, tt)
one_more (e ∷ es) k by_one = (by_one.0, one_more es k by_one.1)

module _ (old new : BookView) (worker : ℕ) (text lines : Vec ℕ Global) (one : worker ≡ 1) (empty : text.items ≡ []) (shown : IsShown old) (shown' : IsShown new) (by_one : AreByOne old.history.events) where
  pub none_due : due old.history.events ≡ 0 → new ≡ old → lines.items ≡ text.items → IsServing worker (ask.Release text) (answer.Released lines (Ok None)) old new
  none_due none left same =
      adds_none worker (ask.Release text) (answer.Released lines (Ok None)) old new (none, left, same) refl (ap (λ (b : BookView). b.job) left) (ap (λ (b : BookView). b.history) left) (ap (λ (b : BookView). b.answered) left) shown' by_one
      (ap (λ (b : BookView). due b.history.events) left ∙ none)

  pub no_memory : (e : NoMemory) → 0 < due old.history.events → new ≡ old → lines.items ≡ text.items → IsServing worker (ask.Release text) (answer.Released lines (Err e)) old new
  no_memory e some left same =
      adds_none worker (ask.Release text) (answer.Released lines (Err e)) old new (some, left, same) refl (ap (λ (b : BookView). b.job) left) (ap (λ (b : BookView). b.history) left) (ap (λ (b : BookView). b.answered) left) shown' by_one tt

  module _ (q : Seq) (some : 0 < due old.history.events) (number : q.0 ≡ length old.history.events + 1) (is : IsReleased old new worker) (all : lines.items ≡ text.items ++ due_lines old) where
    events : new.history.events ≡ old.history.events ++ event worker (Release (finals old)) ∷ []
    events = ap (λ (b : BookView). b.history.events) is

    job : new.job ≡ old.job
    job = ap (λ (b : BookView). b.job) is

    events_one : new.history.events ≡ old.history.events ++ event 1 (Release (finals old)) ∷ []
    events_one = events ∙ ap (λ w. old.history.events ++ event w (Release (finals old)) ∷ []) one

    due_lines_are : lines.items ≡ due_text old.job old.history.events
    due_lines_are =
        all ∙ ap (λ (l : List ℕ). l ++ due_lines old) empty
        ∙ ap (λ (vs : List Datum). value_lines old.job.program (drop (released old.history.events) (take (finals old) vs))) (printed_is old shown)

    pub released_now : IsServing worker (ask.Release text) (answer.Released lines (Ok (Some q))) old new
    released_now = record {
      serves = (some, number, is, all);
      job = job;
      adds = (event worker (Release (finals old)) ∷ [], events, (refl, tt));
      tells = (ap length events ∙ length-append old.history.events (event worker (Release (finals old)) ∷ []), λ _. number);
      commits = ap (λ (b : BookView). b.answered.commits) is;
      stale = ap (λ (b : BookView). b.answered.stale) is;
      fits = (
        history_of new shown' (subst AreByOne (sym events_one) (one_more old.history.events (finals old) by_one)),
        record {
          first = old.history.events;
          is = events_one;
          number_is = number;
          some = some;
          lines = subst (λ (j : JobParts). lines.items ≡ due_text j old.history.events) (sym job) due_lines_are;
        },
      );
    }
