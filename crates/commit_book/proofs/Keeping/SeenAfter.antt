-- What callers see of a book stays while room is made, and what they see once the steps of a commit are pushed.
use Rattle.std.proofs.Common.{◌≡◌, ℕ, zero, suc, ◌+◌, List, [], ◌∷◌, ◌++◌, length, map as each, refl, sym, ap, subst, ◌∙◌, append-nil, append_assoc, arith}
use Rattle.std.specs.Prelude.{count_by}
use Rattle.std.specs.Ordering.{nat_cmp}
use Rattle.std.specs.FinMap.{FinMap}
use Rattle.stab_base.specs.Datum.{Datum}
use Rattle.stab_code.specs.JobParts.{JobParts}
use Rattle.stab_journal.specs.declared.event.Event.{Event}
use Rattle.stab_journal.specs.declared.event.Label.{Label}
use Rattle.stab_journal.specs.declared.event.Label.TheVariants.{Local}
use Rattle.stab_journal.specs.declared.event.What.TheVariants.{Step}
use Rattle.stab_journal.specs.Due.{final_prints, released}
use Rattle.stab_journal.specs.Script.{probed}
use Rattle.stab_journal.specs.Journal.{Journal, step_at, survivors}
use Rattle.checkpoint_store.specs.Saved.{place_cmp}
use Rattle.comm_graph.specs.Node.{Node}
use Rattle.ref_log.specs.Log.{Write}
use Rattle.rendezvous.specs.Line.{Seen}
use Rattle.thread_slots.specs.Slot.{Slot}
use Rattle.language.specs.Standing.{event}
use Rattle.step_eval.specs.ControlView.{ControlView}
use Rattle.print_log.specs.Log.{Print, values}
use Rattle.commit_book.specs.declared.counts.Tallies.{Tallies}
use Rattle.commit_book.specs.declared.parts.Parts.{Parts}
use Rattle.commit_book.specs.Acting.{AreAsBefore, IsLonger}
use Rattle.commit_book.specs.Book.{BookView, IsShown}
use Rattle.commit_book.specs.Counts.{faulted_in, is_undo}
use Rattle.commit_book.specs.Layout.{IsKept, view_of, without_spare}
use Rattle.commit_book.specs.Rows.{local_of, thread, events_by}
use Rattle.commit_book.proofs.Keeping.KeptLocal.{IsBegun}
use Rattle.commit_book.proofs.Keeping.KeptSteps.{IsPushed}
use Rattle.commit_book.proofs.Keeping.Prints.{same_prints}
use Rattle.commit_book.proofs.Keeping.SeenRead.{same_read}
use Rattle.commit_book.proofs.Keeping.Pushing.{local_some}

abbrev seen : JobParts → Journal → FinMap nat_cmp (Slot ControlView) → List ℕ → Seen → ℕ → FinMap nat_cmp (List Write) → FinMap place_cmp ControlView → List Node → List Datum → ℕ → ℕ → ℕ → Tallies → BookView
seen job h a q o k r s g p n c f y = record {
  job = job;
  history = h;
  threads = a;
  queue = q;
  offers = o;
  last_cut = k;
  references = r;
  saved = s;
  nodes = g;
  printed = p;
  next = record { thread = n; chan = c; ref = f };
  answered = record { commits = y.commits; stale = y.stale };
}

printed_same : (old new : Parts) → AreAsBefore old new → values new.printed ≡ values old.printed
printed_same old new before =
    ap (λ fs. fs ++ each (λ (p : Print). p.value) new.printed.recent) before.finals
    ∙ ap (λ ps. old.printed.finals ++ each (λ (p : Print). p.value) ps) before.recent

-- room isn't seen
pub view_same : (job : JobParts) (old new : Parts) → AreAsBefore old new → view_of job new ≡ view_of job old
view_same job old new before =
    ap (λ x. seen job x new.slots.threads new.slots.queue new.offers new.log.last_cut new.log.references new.store.controls new.graph.nodes (values new.printed) new.slots.next new.next_chan new.next_ref new.tallies) (ap without_spare before.history)
    ∙ ap (λ x. seen job (without_spare old.history) x new.slots.queue new.offers new.log.last_cut new.log.references new.store.controls new.graph.nodes (values new.printed) new.slots.next new.next_chan new.next_ref new.tallies) before.threads
    ∙ ap (λ x. seen job (without_spare old.history) old.slots.threads x new.offers new.log.last_cut new.log.references new.store.controls new.graph.nodes (values new.printed) new.slots.next new.next_chan new.next_ref new.tallies) before.queue
    ∙ ap (λ x. seen job (without_spare old.history) old.slots.threads old.slots.queue x new.log.last_cut new.log.references new.store.controls new.graph.nodes (values new.printed) new.slots.next new.next_chan new.next_ref new.tallies) before.offers
    ∙ ap (λ x. seen job (without_spare old.history) old.slots.threads old.slots.queue old.offers x new.log.references new.store.controls new.graph.nodes (values new.printed) new.slots.next new.next_chan new.next_ref new.tallies) before.last_cut
    ∙ ap (λ x. seen job (without_spare old.history) old.slots.threads old.slots.queue old.offers old.log.last_cut x new.store.controls new.graph.nodes (values new.printed) new.slots.next new.next_chan new.next_ref new.tallies) before.references
    ∙ ap (λ x. seen job (without_spare old.history) old.slots.threads old.slots.queue old.offers old.log.last_cut old.log.references x new.graph.nodes (values new.printed) new.slots.next new.next_chan new.next_ref new.tallies) before.saved
    ∙ ap (λ x. seen job (without_spare old.history) old.slots.threads old.slots.queue old.offers old.log.last_cut old.log.references old.store.controls x (values new.printed) new.slots.next new.next_chan new.next_ref new.tallies) before.nodes
    ∙ ap (λ x. seen job (without_spare old.history) old.slots.threads old.slots.queue old.offers old.log.last_cut old.log.references old.store.controls old.graph.nodes x new.slots.next new.next_chan new.next_ref new.tallies) (printed_same old new before)
    ∙ ap (λ x. seen job (without_spare old.history) old.slots.threads old.slots.queue old.offers old.log.last_cut old.log.references old.store.controls old.graph.nodes (values old.printed) x new.next_chan new.next_ref new.tallies) before.next
    ∙ ap (λ x. seen job (without_spare old.history) old.slots.threads old.slots.queue old.offers old.log.last_cut old.log.references old.store.controls old.graph.nodes (values old.printed) old.slots.next x new.next_ref new.tallies) before.chan
    ∙ ap (λ x. seen job (without_spare old.history) old.slots.threads old.slots.queue old.offers old.log.last_cut old.log.references old.store.controls old.graph.nodes (values old.printed) old.slots.next old.next_chan x new.tallies) before.ref
    ∙ ap (λ x. seen job (without_spare old.history) old.slots.threads old.slots.queue old.offers old.log.last_cut old.log.references old.store.controls old.graph.nodes (values old.printed) old.slots.next old.next_chan old.next_ref x) before.tallies

pub kept_same : (job : JobParts) (old new : Parts) → AreAsBefore old new → IsKept job old → IsKept job new
kept_same job old new before kept = record {
  valid = kept.valid;
  shown = subst IsShown (sym (view_same job old new before)) kept.shown;
  tallied = record {
    probes = ap (λ k. k.probes) before.tallies ∙ kept.tallied.probes ∙ sym (ap (λ (j : Journal). length (probed j.events)) before.history);
    finals = ap (λ k. k.finals) before.tallies ∙ kept.tallied.finals ∙ sym (ap (λ (j : Journal). final_prints (survivors j)) before.history);
    released = ap (λ k. k.released) before.tallies ∙ kept.tallied.released ∙ sym (ap (λ (j : Journal). released j.events) before.history);
    undos = ap (λ k. k.undos) before.tallies ∙ kept.tallied.undos ∙ sym (ap (λ (j : Journal). count_by is_undo j.events) before.history);
    faulted =
        ap (λ k. k.faulted) before.tallies ∙ kept.tallied.faulted
        ∙ sym (ap (λ m. faulted_in job.program m old.slots.next) before.threads)
        ∙ sym (ap (faulted_in job.program new.slots.threads) before.next);
  };
  read = same_read old new before kept.read;
  prints = same_prints old new before kept.prints;
}

events_same : (old new : Parts) → AreAsBefore old new → new.history.events ≡ old.history.events
events_same old new before = ap (λ (j : Journal). j.events) before.history

-- a journal to which nothing was pushed
unpushed : (old new : Journal) (worker : ℕ) → IsLonger old new worker [] → without_spare new ≡ without_spare old
unpushed old new worker longer =
    ap (λ (es : List Event). without_spare (record new { events = es })) (longer.events ∙ append-nil old.events)
    ∙ ap (λ k. without_spare (record old { struck = k })) longer.struck

abbrev with_printed : BookView → List Datum → BookView
with_printed b vs = record b { printed = vs }

abbrev with_history : BookView → Journal → BookView
with_history b j = record b { history = j }

-- what callers see where nothing was printed
pub unprinted : (job : JobParts) (begins done : Parts) → view_of job done ≡ record (view_of job begins) { history = without_spare done.history } → view_of job done ≡ record (view_of job begins) { history = without_spare done.history; printed = (values done.printed) }
unprinted job begins done is =
    let same : (values begins.printed) ≡ (values done.printed) = sym (ap (λ (b : BookView). b.printed) is) in
    let also : record (view_of job begins) { history = without_spare done.history } ≡ record (view_of job begins) { history = without_spare done.history; printed = (values done.printed) } = ap (with_printed (with_history (view_of job begins) (without_spare done.history))) same in
    is ∙ also

-- the pure steps were pushed once there was room
pub begun_of : (job : JobParts) (old planned begun : Parts) (worker t n : ℕ) → AreAsBefore old planned → IsLonger planned.history begun.history worker (local_of t n) → begun ≡ record planned { history = begun.history } → IsBegun (view_of job old) (view_of job begun) worker (thread t) n
begun_of job old planned begun worker t zero before longer rest =
    let begins : view_of job begun ≡ record (view_of job planned) { history = without_spare begun.history } = ap (view_of job) rest in
    let none : record (view_of job planned) { history = without_spare begun.history } ≡ view_of job planned = ap (with_history (view_of job planned)) (unpushed planned.history begun.history worker longer) in
    begins ∙ none ∙ view_same job old planned before
begun_of job old planned begun worker t (suc n) before longer rest =
    let l = Local (thread t) (suc n) in
    let longer_by : IsLonger planned.history begun.history worker (l ∷ []) = subst (IsLonger planned.history begun.history worker) (sym (local_some t (suc n) (omega arith))) longer in (
      record {
        events = longer_by.events ∙ ap (λ es. es ++ event worker (Step l) ∷ []) (events_same old planned before);
        survivors =
            longer_by.survivors
            ∙ ap (λ ns. ns ++ step_at (length planned.history.events + 1) (Step l)) (ap survivors before.history)
            ∙ ap (λ (es : List Event). survivors old.history ++ step_at (length es + 1) (Step l)) (events_same old planned before);
      },
      ap (view_of job) rest ∙ ap (λ (v : BookView). with_history v (without_spare begun.history)) (view_same job old planned before),
    )

-- the step of the act was pushed
pub pushed_of : (job : JobParts) (old new : Parts) (worker : ℕ) (l : Label) → IsLonger old.history new.history worker (l ∷ []) → IsPushed (view_of job old) (view_of job new) worker l
pushed_of job old new worker l longer = record { events = longer.events; survivors = longer.survivors }

each-append : (worker : ℕ) (xs ys : List Label) → events_by worker (xs ++ ys) ≡ events_by worker xs ++ events_by worker ys
each-append worker [] ys = refl
each-append worker (x ∷ xs) ys = ap (λ es. event worker (Step x) ∷ es) (each-append worker xs ys)

-- the journal after some steps and some more
pub journal_after : (old planned begun new : Journal) (worker : ℕ) (xs ys : List Label) → planned ≡ record old { spare = planned.spare } → IsLonger planned begun worker xs → IsLonger begun new worker ys
    → without_spare new ≡ record (without_spare old) { events = old.events ++ events_by worker (xs ++ ys) }
journal_after old planned begun new worker xs ys before first second =
    ap (λ (es : List Event). without_spare (record new { events = es }))
    (second.events
    ∙ ap (λ (es : List Event). es ++ events_by worker ys) (first.events ∙ ap (λ (j : Journal). j.events ++ events_by worker xs) before)
    ∙ append_assoc old.events (events_by worker xs) (events_by worker ys)
    ∙ ap (λ (es : List Event). old.events ++ es) (sym (each-append worker xs ys)))
    ∙ ap (λ k. without_spare (record old { events = old.events ++ events_by worker (xs ++ ys); struck = k })) (second.struck ∙ first.struck ∙ ap (λ (j : Journal). j.struck) before)
