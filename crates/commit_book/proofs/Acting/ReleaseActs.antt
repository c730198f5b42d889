-- A release, from what its calls leave: the book shows it.
use Rattle.std.proofs.Common.{◌≡◌, ℕ, suc, ◌+◌, ◌<◌, true, false, cond, List, [], ◌∷◌, ◌++◌, length, max, refl, sym, ap, subst, ◌∙◌, append-nil, arith}
use Rattle.std.specs.Prelude.{IfSome, count_by}
use Rattle.std.specs.Ordering.{nat_cmp}
use Rattle.std.specs.FinMap as map
use Rattle.std.specs.FinSet.{FinSet, contains}
use Rattle.std.proofs.lemmas.List.{length_push}
use Rattle.std.proofs.lemmas.List.Sums.{sum_by-append}
use Rattle.stab_code.specs.JobParts.{JobParts}
use Rattle.stab_journal.specs.declared.event.Event.{Event}
use Rattle.stab_journal.specs.declared.event.Numbered.{Numbered}
use Rattle.stab_journal.specs.declared.event.What.TheVariants.{Release}
use Rattle.stab_journal.specs.Due.{final_prints, released}
use Rattle.stab_journal.specs.Generation.{generation}
use Rattle.stab_journal.specs.Journal.{step_at, survivors, survivors_from}
use Rattle.stab_journal.specs.Script.{FollowsScript, probed}
use Rattle.thread_slots.specs.Slot.{Slot}
use Rattle.language.specs.Plain.{PlainState}
use Rattle.language.specs.Standing.{StandsFor, event, release}
use Rattle.step_eval.specs.ControlView.{ControlView}
use Rattle.commit_book.specs.declared.counts.Tallies.{Tallies}
use Rattle.commit_book.specs.declared.parts.Parts.{Parts}
use Rattle.commit_book.specs.Book.{ShowsJournal, ShowsThreads}
use Rattle.commit_book.specs.Counts.{is_undo, faulted_in}
use Rattle.commit_book.specs.Layout.{IsKept, view_of}
use Rattle.commit_book.specs.Releases.{IsReleasedBy}
use Rattle.stab_journal.specs.Numbers.{threads_by, AreNext, AreFew}
use Rattle.commit_book.proofs.Keeping.EventSteps.{generation_snoc, probed_snoc, released_snoc, script_step}
use Rattle.commit_book.proofs.Keeping.Named.{few_more}
use Rattle.stab_journal.proofs.NumberSteps.{greatest_snoc}
use Rattle.commit_book.proofs.Keeping.Prints.{keep_prints}
use Rattle.commit_book.proofs.Keeping.ReadKept.{read_same}
use Rattle.commit_book.specs.OwnSteps.{IsRead}

abbrev release_of : ℕ → ℕ → Event
release_of worker k = event worker (Release k)

-- no step comes
survivors-release : (struck : FinSet nat_cmp) (q worker k : ℕ) (es : List Event) → survivors_from struck q (es ++ release_of worker k ∷ []) ≡ survivors_from struck q es
survivors-release struck q worker k [] = elim (contains struck q) as (λ b. cond {A = List Numbered} b [] [] ++ [] ≡ []) [ true ↦ refl | false ↦ refl ]
survivors-release struck q worker k (e ∷ es) = ap (λ ns. cond (contains struck q) [] (step_at q e.what) ++ ns) (survivors-release struck (suc q) worker k es)

-- a release names nothing
next_released : (events : List Event) (worker k thread chan ref : ℕ) → AreNext events thread chan ref → AreNext (events ++ release_of worker k ∷ []) thread chan ref
next_released events worker k thread chan ref next = record {
  thread = next.thread ∙ ap (λ g. max 1 g + 1) (sym (greatest_snoc threads_by events (release_of worker k)));
  chan = next.chan ∙ ap (λ g. g + 1) (sym (greatest_snoc _ events (release_of worker k)));
  ref = next.ref ∙ ap (λ g. g + 1) (sym (greatest_snoc _ events (release_of worker k)));
}

module _ (job : JobParts) (old new : Parts) (worker : ℕ) (kept : IsKept job old) (due : old.tallies.released < old.tallies.finals) (is : IsReleasedBy old new worker) where
  abbrev k : ℕ
  k = old.tallies.finals

  abbrev run : List Numbered
  run = kept.shown.run

  abbrev s : PlainState
  s = kept.shown.state

  abbrev journal : ShowsJournal (view_of job old) kept.shown.run kept.shown.state
  journal = kept.shown.shows.journal

  same_survivors : survivors new.history ≡ survivors old.history
  same_survivors =
      ap (λ m. survivors_from m 1 new.history.events) is.struck
      ∙ ap (survivors_from old.history.struck 1) is.events
      ∙ survivors-release old.history.struck 1 worker k old.history.events

  finals_are : k ≡ final_prints run
  finals_are = kept.tallied.finals ∙ ap final_prints journal.history.left

  -- the parts with another history and other counts
  abbrev mid : Parts
  mid = record old { history = new.history; tallies = new.tallies }

  journal_mid : ShowsJournal (view_of job mid) kept.shown.run kept.shown.state
  journal_mid = record {
    history = record {
      stands =
          subst (λ (es : List Event). StandsFor job.program es run s) (sym is.events)
          (release worker k journal.history.stands finals_are (subst (λ (n : ℕ). n < k) kept.tallied.released due));
      left = same_survivors ∙ journal.history.left;
    };
    script = subst (FollowsScript job.script) (sym is.events) (script_step job.script old.history.events (release_of worker k) refl journal.script);
    channels = journal.channels;
    writes = journal.writes;
    references = journal.references;
    printed = journal.printed;
    next =
        subst (λ (es : List Event). AreNext es old.slots.next old.next_chan old.next_ref) (sym is.events)
        (next_released old.history.events worker k old.slots.next old.next_chan old.next_ref journal.next);
    few =
        subst (λ (es : List Event). AreFew es old.slots.next old.next_chan old.next_ref) (sym is.events)
        (few_more old.history.events (release_of worker k) old.slots.next old.next_chan old.next_ref old.slots.next old.next_chan old.next_ref journal.few (omega arith) (omega arith) (omega arith));
    saved = journal.saved;
    saved_fit = journal.saved_fit;
    nodes = journal.nodes;
  }

  still : (t : ℕ) → generation t new.history.events ≡ generation t old.history.events
  still t = ap (generation t) is.events ∙ generation_snoc t 1 [] old.history.events (release_of worker k) 0

  threads_mid : ShowsThreads (view_of job mid) kept.shown.state
  threads_mid = let shown = kept.shown.shows.threads in record {
    threads = shown.threads;
    fit = shown.fit;
    generations = λ t. subst (λ (n : ℕ). IfSome (map.get old.slots.threads t) (λ (slot : Slot ControlView). slot.generation ≡ n)) (sym (still t)) (shown.generations t);
    doing = shown.doing;
    queue = shown.queue;
    offers = shown.offers;
    found = shown.found;
  }

  no_undo : count_by is_undo new.history.events ≡ count_by is_undo old.history.events
  no_undo =
      let sum : count_by is_undo (old.history.events ++ release_of worker k ∷ []) ≡ count_by is_undo old.history.events + count_by is_undo (release_of worker k ∷ []) = sum_by-append (λ (e : Event). cond {A = ℕ} (is_undo e) 1 0) old.history.events (release_of worker k ∷ []) in
      let none : count_by is_undo (release_of worker k ∷ []) ≡ 0 = omega arith in
      ap (count_by is_undo) is.events ∙ omega (arith, sum, none)

  pub kept_released : IsKept job new
  kept_released = record {
    valid = kept.valid;
    shown = record {
      run = kept.shown.run;
      state = kept.shown.state;
      shows = record {
        journal = subst (λ (x : Parts). ShowsJournal (view_of job x) run s) (sym is.others) journal_mid;
        threads = subst (λ (x : Parts). ShowsThreads (view_of job x) s) (sym is.others) threads_mid;
      };
    };
    tallied = record {
      probes =
          ap (λ (u : Tallies). u.probes) is.tallies ∙ kept.tallied.probes
          ∙ sym (ap (λ es. length (probed es)) is.events ∙ ap length (probed_snoc old.history.events (release_of worker k) ∙ append-nil (probed old.history.events)));
      finals = ap (λ (u : Tallies). u.finals) is.tallies ∙ kept.tallied.finals ∙ sym (ap final_prints same_survivors);
      released = ap (λ (u : Tallies). u.released) is.tallies ∙ sym (ap released is.events ∙ released_snoc 0 old.history.events (release_of worker k));
      undos = ap (λ (u : Tallies). u.undos) is.tallies ∙ kept.tallied.undos ∙ sym no_undo;
      faulted = ap (λ (u : Tallies). u.faulted) is.tallies ∙ kept.tallied.faulted ∙ sym (ap (λ (x : Parts). faulted_in job.program x.slots.threads x.slots.next) is.others);
    };
    read =
        let long : length new.history.events ≡ length old.history.events + 1 = ap length is.events ∙ length_push old.history.events (release_of worker k) in
        subst (IsRead new.history) (sym (ap (λ (x : Parts). x.rollback) is.others)) (read_same old.history new.history old.rollback kept.read (omega (arith, long)) same_survivors);
    prints = keep_prints old.history new.history old.printed new.printed same_survivors (ap (λ (x : Parts). x.printed.finals) is.others) (ap (λ (x : Parts). x.printed.recent) is.others) kept.prints;
  }
