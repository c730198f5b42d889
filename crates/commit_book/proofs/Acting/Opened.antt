-- What is left of a book once a thread has made a channel, whose lines were made with the room for its step.
use Rattle.std.proofs.Common.{◌≡◌, ℕ, ◌+◌, Bool, true, false, cond, not, nat_eq, [], ◌∷◌, length, Option, Some, None, refl, sym, ap, subst, ◌∙◌}
use Rattle.std.specs.Prelude.{IfSome, is_some}
use Rattle.std.specs.FinMap as map
use Rattle.std.specs.FinSet as set
use Rattle.std.proofs.lemmas.Bool.{false≢true, eqb-true}
use Rattle.stab_base.specs.Datum.{Datum, chan}
use Rattle.stab_base.specs.declared.numbers.ChanId.{ChanId}
use Rattle.stab_base.specs.declared.numbers.ThreadId.{ThreadId}
use Rattle.stab_code.specs.JobParts.{JobParts}
use Rattle.stab_code.specs.Program.{ProgramParts}
use Rattle.stab_journal.specs.declared.event.Label.TheVariants.{NewChan}
use Rattle.stab_journal.specs.Generation.{generation}
use Rattle.rendezvous.specs.Line.{Line, Lines, Seen, nobody}
use Rattle.language.specs.Expression.{Expr}
use Rattle.language.specs.Look.{answered}
use Rattle.language.specs.Plain.{language_of}
use Rattle.language.specs.Table.{to}
use Rattle.language.proofs.Applying.{get_inserted}
use Rattle.step_eval.specs.declared.act.Act.TheVariants as own
use Rattle.step_eval.specs.ControlView.{ControlView, expr_of}
use Rattle.step_eval.specs.Progress.{ProgressView}
use Rattle.commit_book.specs.declared.parts.Parts.{Parts}
use Rattle.commit_book.specs.Acting.{AreAsBefore, HasAnswered, IsDone, IsLonger, MayAct, StandsAt}
use Rattle.commit_book.specs.Book.{BookView}
use Rattle.commit_book.specs.Layout.{IsKept, view_of, without_spare}
use Rattle.commit_book.specs.Leases.{LeaseView}
use Rattle.commit_book.specs.Rows as rows
use Rattle.commit_book.specs.Rows.{alone, local_of, thread}
use Rattle.commit_book.specs.Step.{next_seq}
use Rattle.commit_book.proofs.Acting.Acted.{answered_so, thread_is}
use Rattle.commit_book.proofs.Threads.Adding.{standing_made}
use Rattle.commit_book.proofs.Acting.Effects.{chan_effect}
use Rattle.commit_book.proofs.Keeping.JournalSteps.{journal_step}
use Rattle.commit_book.proofs.Keeping.KeptLocal.{IsReady}
use Rattle.commit_book.proofs.Keeping.KeptSteps.{chan_step}
use Rattle.commit_book.proofs.Keeping.Prints.{unprinting}
use Rattle.commit_book.proofs.Keeping.RoomHere.{channel_away, line_away}
use Rattle.commit_book.proofs.Keeping.SeenAfter.{pushed_of}
use Rattle.commit_book.proofs.Acting.SingleActs.{IsActed, IsStepped, done_alone, journal_at, kept_alone, ready_at, slot_at}
use Rattle.commit_book.proofs.Acting.SingleCalls.{going_at, stood_there, unoffered_at}
use Rattle.commit_book.proofs.Acting.SingleLabels.{low_now, none_more}
use Rattle.commit_book.proofs.Threads.Standing.{standing_of}

-- lines stay where a channel is added
lines_kept : (old new : Lines) (d : ℕ) → map.get old d ≡ None → new ≡ map.insert old d nobody → (k : ℕ) → IfSome (map.get old k) (λ (line : Line). map.get new k ≡ Some line)
lines_kept old new d none is k = by (map.get old k) refl
  where
    other : (line : Line) → map.get old k ≡ Some line → (b : Bool) → nat_eq k d ≡ b → cond b (Some nobody) (map.get old k) ≡ Some line
    other line at true same = absurd (false≢true (ap is_some (sym none ∙ ap (map.get old) (sym (eqb-true k d same)) ∙ at)))
    other line at false same = at

    by : (o : Option Line) → map.get old k ≡ o → IfSome o (λ (line : Line). map.get new k ≡ Some line)
    by None at = tt
    by (Some line) at = ap (λ m. map.get m k) is ∙ get_inserted old d nobody k ∙ other line at (nat_eq k d) refl

abbrev with_offers : BookView → Seen → BookView
with_offers b o = record b { offers = o }

module _ (job : JobParts) (old : Parts) (lease : LeaseView) (progress : ProgressView) (may : MayAct job old lease progress) where
  -- the next channel isn't there
  pub none_yet : (d : ChanId) → d.0 ≡ old.next_chan → map.get old.offers.lines d.0 ≡ None
  none_yet d is = ap (map.get old.offers.lines) is ∙ line_away (view_of job old) may.kept.shown.run may.kept.shown.state (journal_at job old lease progress may)

  module _ (opened begun pushed new : Parts) (d : ChanId) (d_is : d.0 ≡ old.next_chan) (before : AreAsBefore old (record opened { offers = old.offers }))
      (lines : opened.offers.lines ≡ map.insert old.offers.lines d.0 nobody) (offers : opened.offers.offers ≡ old.offers.offers)
      (longer : IsLonger opened.history begun.history lease.worker (local_of lease.thread progress.steps)) (rest : begun ≡ record opened { history = begun.history })
      (more : pushed ≡ record begun { history = pushed.history }) where
    abbrev planned : Parts
    planned = record opened { offers = old.offers }

    abbrev begins : Parts
    begins = record begun { offers = old.offers }

    abbrev done : Parts
    done = record pushed { next_chan = pushed.next_chan + 1 }

    rest_so : begins ≡ record planned { history = begins.history }
    rest_so = ap (λ (k : Parts). record k { offers = old.offers }) rest

    abbrev ready : IsReady (view_of job old) (view_of job begins) may.kept.shown.state (thread lease.thread) (expr_of job.program progress.end)
    ready = ready_at job old lease progress may planned begins before longer rest_so

    offers_now : pushed.offers ≡ opened.offers
    offers_now = ap (λ k. k.offers) more ∙ ap (λ k. k.offers) rest

    next_now : begun.next_chan ≡ old.next_chan
    next_now = ap (λ (k : Parts). k.next_chan) rest ∙ before.chan

    lines_now : done.offers.lines ≡ map.insert old.offers.lines d.0 nobody
    lines_now = ap (λ (o : Seen). o.lines) offers_now ∙ lines

    done_is : done ≡ record begun { history = pushed.history; next_chan = begun.next_chan + 1 }
    done_is = ap (λ (k : Parts). record k { next_chan = k.next_chan + 1 }) more

    seen_now : view_of job done ≡ record (view_of job begins) { history = without_spare done.history; offers = done.offers; next = record { thread = begins.slots.next; chan = begins.next_chan + 1; ref = begins.next_ref } }
    seen_now =
        let seen : view_of job done ≡ record (view_of job begins) { history = without_spare done.history; offers = begun.offers; next = record { thread = begins.slots.next; chan = begins.next_chan + 1; ref = begins.next_ref } } = ap (view_of job) done_is in
        let also : record (view_of job begins) { history = without_spare done.history; offers = begun.offers; next = record { thread = begins.slots.next; chan = begins.next_chan + 1; ref = begins.next_ref } } ≡ record (view_of job begins) { history = without_spare done.history; offers = done.offers; next = record { thread = begins.slots.next; chan = begins.next_chan + 1; ref = begins.next_ref } } =
        ap (with_offers (record (view_of job begins) { history = without_spare done.history; next = record { thread = begins.slots.next; chan = begins.next_chan + 1; ref = begins.next_ref } })) (sym (ap (λ k. k.offers) more)) in
        seen ∙ also

    module _ (at : StandsAt job.program progress.end own.NewChan) (history : IsLonger begun.history pushed.history lease.worker (NewChan (thread lease.thread) d ∷ [])) where
      stepped : IsStepped job old lease progress may planned begins before longer rest_so done (NewChan (thread lease.thread) d) (to (language_of job.program) (answered (expr_of job.program progress.end) (chan d.0)))
      stepped =
          let l = NewChan (thread lease.thread) d in
          let e = to (language_of job.program) (answered (expr_of job.program progress.end) (chan d.0)) in
          let same : d.0 ≡ begins.next_chan = d_is ∙ sym next_now in
          record {
            one = refl;
            uncut = refl;
            history = history;
            journal = journal_step (view_of job begins) (view_of job done) ready.run ready.state lease.worker l (to (language_of job.program) (answered (expr_of job.program progress.end) (chan d.0))) ready.journal
                (tt)
                (chan_effect job.program ready.state (next_seq (view_of job begins)) (thread lease.thread) (expr_of job.program progress.end) ready.stands d at.look)
                (ap (λ n. not (set.contains ready.state.channels n)) same ∙ ap not (channel_away (view_of job begins) ready.run ready.state ready.journal)) refl
                (chan_step (view_of job begins) (view_of job done) ready.run ready.state lease.worker ready.journal (thread lease.thread) d e
                (pushed_of job begins done lease.worker l history) (low_now job old lease progress may planned begins before longer rest_so) same refl lines_now seen_now);
            slots = ap (λ k. k.slots) more;
            rollback = ap (λ k. k.rollback) more;
            prints = unprinting begun.printed done.printed (length begun.history.events + 1) l refl (ap (λ (k : Parts). k.printed) more);
            probes = ap (λ k. k.tallies) more ∙ none_more begins.tallies;
          }

      acted : (f : Expr) → f ≡ answered (expr_of job.program progress.end) (chan d.0) → (has : HasAnswered job.program done new lease.thread f)
          → IsActed job old lease progress may planned begins before longer rest_so done new (NewChan (thread lease.thread) d) (to (language_of job.program) (answered (expr_of job.program progress.end) (chan d.0))) has.before has.control
      acted f is has = record {
        stepped = stepped;
        unoffered = unoffered_at job old lease progress may own.NewChan at refl;
        going = going_at job old lease progress may own.NewChan at;
        lines = lines_kept old.offers.lines done.offers.lines d.0 (none_yet d d_is) lines_now;
        waiting = standing_made job.program old.slots.threads old.offers done.offers (λ k. map.get may.kept.shown.state.threads k) (λ k. generation k old.history.events) d.0
            (standing_of (view_of job old) may.kept.shown.state may.kept.shown.shows.threads) (none_yet d d_is) lines_now (ap (λ (o : Seen). o.offers) offers_now ∙ offers);
        mine = sym is ∙ sym has.stands;
        fits = has.fits;
        stood = stood_there (map.get done.slots.threads lease.thread) (slot_at job old lease progress may).slot has.before
            (ap (λ m. map.get m lease.thread) (ap (λ (k : Parts). k.slots.threads) more ∙ ap (λ (k : Parts). k.slots.threads) rest ∙ before.threads) ∙ (slot_at job old lease progress may).found) has.was;
        gone = has.gone;
      }

    pub chan_lasts : StandsAt job.program progress.end own.NewChan → (u : ThreadId) → u.0 ≡ lease.thread → IsLonger begun.history pushed.history lease.worker (NewChan u d ∷ [])
        → (p : ProgramParts) (x : ThreadId) (c : ControlView) (v : Datum) → p ≡ job.program → x.0 ≡ lease.thread → c ≡ progress.end → v ≡ chan d.0 → HasAnswered p done new x.0 (answered (expr_of p c) v)
        → IsDone job old new lease progress (alone (Some (NewChan (thread lease.thread) (rows.chan old.next_chan)))) × IsKept job new
    chan_lasts at u u_is history p x c v program x_is end value has =
        let by_thread : IsLonger begun.history pushed.history lease.worker (NewChan (thread lease.thread) d ∷ []) = subst (λ (y : ThreadId). IsLonger begun.history pushed.history lease.worker (NewChan y d ∷ [])) (thread_is u lease.thread u_is) history in
        let has_so : HasAnswered job.program done new lease.thread (answered (expr_of job.program progress.end) (chan d.0)) = answered_so job lease progress done new p x c v (chan d.0) program x_is end value has in
        let acts = acted at by_thread (answered (expr_of job.program progress.end) (chan d.0)) refl has_so in
        let l = NewChan (thread lease.thread) d in
        let e = to (language_of job.program) (answered (expr_of job.program progress.end) (chan d.0)) in (
          subst (λ (n : ℕ). IsDone job old new lease progress (alone (Some (NewChan (thread lease.thread) (rows.chan n))))) d_is
              (done_alone job old lease progress may planned begins before longer rest_so done new l e has_so.before has_so.control acts),
          kept_alone job old lease progress may planned begins before longer rest_so done new l e has_so.before has_so.control acts,
        )
