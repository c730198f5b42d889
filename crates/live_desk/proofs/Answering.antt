-- What a live desk answers.
use Rattle.std.proofs.Common.{◌≡◌, inl, inr, ℕ, ◌<◌, ◌-◌, List, [], ◌∷◌, ◌++◌, length, true, Some, None, Result, Ok, Err, Vec, refl, sym, ap, subst, arith}
use Rattle.std.specs.Prelude.{OnErr, IfErr, IfOk}
use Rattle.std.specs.declared.alloc.Global.{Global}
use Rattle.stab_base.specs.declared.numbers.NoMemory.{NoMemory}
use Rattle.stab_journal.specs.Script.{probed}
use Rattle.step_eval.specs.Progress.{ProgressView}
use Rattle.commit_book.specs.declared.done.CommitRefused.{CommitRefused}
use Rattle.commit_book.specs.declared.done.Done.{Done}
use Rattle.commit_book.specs.declared.turn.Turn.{Turn}
use Rattle.commit_book.specs.declared.turn.Turn.TheVariants.{Work, Idle, Quiet, Spent, Release}
use Rattle.commit_book.specs.Book.{BookView, IsShown}
use Rattle.commit_book.specs.Commits.{IsCommitted, IsCurrent, IsOver}
use Rattle.commit_book.specs.Leases.{LeaseView}
use Rattle.commit_book.specs.Probing.{IsWithinScript, asks_probe}
use Rattle.commit_book.specs.Turns.{IsTurn}
use Rattle.commit_book.proofs.Numbers.Handing.{commits_within, gives_none, lends_none, releases_none, still_within}
use Rattle.turn_floor.specs.declared.kept.Told.{Told}
use Rattle.turn_floor.specs.Counts.{once, risen}
use Rattle.turn_floor.specs.Served.{Tells}
use Rattle.worker_lease.specs.declared.ask.DeskAsk.{DeskAsk}
use Rattle.worker_lease.specs.declared.ask.DeskAsk.TheVariants as ask
use Rattle.worker_lease.specs.declared.ask.DeskAnswer.{DeskAnswer}
use Rattle.worker_lease.specs.declared.ask.DeskAnswer.TheVariants as answer
use Rattle.worker_lease.specs.Answers.{Says}
use Rattle.worker_lease.specs.Asks.{under}
use Rattle.worker_lease.specs.Serving.{IsServing}
use Rattle.worker_lease.specs.Telling.{nothing, told}
use Rattle.worker_lease.proofs.Adding.{adds_nothing, history_of, tells_nothing}
use Rattle.worker_lease.proofs.Committing.{committed}
use Rattle.live_desk.specs.declared.waiting.Waiting.{Waiting}
use Rattle.live_desk.specs.Live.{IsLive, live_of}
use Rattle.live_desk.specs.Serving.{AllWait, IsAnswerTo, IsLiveServed, IsLiveServing, IsShort, IsUsedUp}
use Rattle.live_desk.proofs.Living.{asks_more, asks_same}

-- ---- the book answers

module _ (old new : BookView) (ws : List Waiting) (live : IsLive (live_of old ws)) (worker : ℕ) where
  pub by_book : (a : DeskAsk) (b : DeskAnswer) → IsServing worker a b old new → IsWithinScript new → IsLiveServed (live_of old ws) worker a b (live_of new ws)
      → IsLiveServing worker a b (live_of old ws) (live_of new ws)
  by_book a b s within served = record {
    serves = served;
    job = s.job;
    adds = s.adds;
    tells = s.tells;
    commits = s.commits;
    stale = s.stale;
    fits = s.fits;
    live = record { by_one = s.fits.0.by_one; within = within; asks = asks_same old new ws s.job live.asks };
  }

  -- ---- a lease

  lent_within : (r : Result Turn NoMemory) → IsServing worker ask.Lease (answer.Turn r) old new → IsWithinScript new
  lent_within (Ok t) s = still_within old new 0 (lends_none old new worker t s.serves.0) (omega arith) live.within
  lent_within (Err e) s = subst IsWithinScript (sym s.serves.0) live.within

  lent_served : (t : Turn) → IsServing worker ask.Lease (answer.Turn (Ok t)) old new → (t ≡ Idle → AllWait (live_of old ws) → ⊥)
      → IsLiveServed (live_of old ws) worker ask.Lease (answer.Turn (Ok t)) (live_of new ws)
  lent_served (Work lease control) s idle = (s.serves, refl)
  lent_served Idle s idle = ((s.serves, refl), idle refl)
  lent_served Quiet s idle = (s.serves, refl)
  lent_served Spent s idle = (s.serves, refl)
  lent_served Release s idle = (s.serves, refl)

  pub lent : (t : Turn) → IsServing worker ask.Lease (answer.Turn (Ok t)) old new → (t ≡ Idle → AllWait (live_of old ws) → ⊥)
      → IsLiveServing worker ask.Lease (answer.Turn (Ok t)) (live_of old ws) (live_of new ws)
  lent t s idle = by_book ask.Lease (answer.Turn (Ok t)) s (lent_within (Ok t) s) (lent_served t s idle)

  pub not_lent : (e : NoMemory) → IsServing worker ask.Lease (answer.Turn (Err e)) old new → IsLiveServing worker ask.Lease (answer.Turn (Err e)) (live_of old ws) (live_of new ws)
  not_lent e s = by_book ask.Lease (answer.Turn (Err e)) s (lent_within (Err e) s) (s.serves, refl)

  -- ---- a lease that is given back

  gave_within : (lease : LeaseView) (b : DeskAnswer) → IsServing worker (ask.GiveBack lease) b old new → IsWithinScript new
  gave_within lease answer.Given s = still_within old new 0 (gives_none old new lease s.serves) (omega arith) live.within
  gave_within lease (answer.Turn r) s = absurd s.serves
  gave_within lease (answer.Done r) s = absurd s.serves
  gave_within lease (answer.Released lines r) s = absurd s.serves
  gave_within lease answer.Dry s = absurd s.serves
  gave_within lease answer.Rung s = absurd s.serves
  gave_within lease answer.Kept s = absurd s.serves

  pub gave : (lease : LeaseView) (b : DeskAnswer) → IsServing worker (ask.GiveBack lease) b old new → IsLiveServing worker (ask.GiveBack lease) b (live_of old ws) (live_of new ws)
  gave lease b s = by_book (ask.GiveBack lease) b s (gave_within lease b s) (s.serves, refl)

  -- ---- a release

  released_within : (text : Vec ℕ Global) (b : DeskAnswer) → IsServing worker (ask.Release text) b old new → IsWithinScript new
  released_within text (answer.Released lines (Ok (Some q))) s = still_within old new 0 (releases_none old new worker s.serves.2) (omega arith) live.within
  released_within text (answer.Released lines (Ok None)) s = subst IsWithinScript (sym s.serves.1) live.within
  released_within text (answer.Released lines (Err e)) s = subst IsWithinScript (sym s.serves.1) live.within
  released_within text (answer.Turn r) s = absurd s.serves
  released_within text (answer.Done r) s = absurd s.serves
  released_within text answer.Given s = absurd s.serves
  released_within text answer.Dry s = absurd s.serves
  released_within text answer.Rung s = absurd s.serves
  released_within text answer.Kept s = absurd s.serves

  pub released : (text : Vec ℕ Global) (b : DeskAnswer) → IsServing worker (ask.Release text) b old new → IsLiveServing worker (ask.Release text) b (live_of old ws) (live_of new ws)
  released text b s = by_book (ask.Release text) b s (released_within text b s) (s.serves, refl)

  -- ---- a commit that isn't short

  module _ (lease : LeaseView) (progress : ProgressView) (program : progress.program ≡ old.job.program) (long : IsShort old progress → ⊥) where
    some_left : asks_probe progress ≡ true → 0 < length old.job.script - length (probed old.history.events)
    some_left asks = let more : IsUsedUp old → ⊥ = λ up. long (asks, up) in omega (arith, more)

    made_within : (r : Result Done CommitRefused) → IsServing worker (ask.Commit lease progress) (answer.Done r) old new → IsWithinScript new
    made_within (Ok done) s = commits_within old new (under worker lease) progress program done s.serves some_left live.within
    made_within (Err refused) s = subst IsWithinScript (sym s.serves.0) live.within

    made_served : (r : Result Done CommitRefused) → IsServing worker (ask.Commit lease progress) (answer.Done r) old new
        → IsLiveServed (live_of old ws) worker (ask.Commit lease progress) (answer.Done r) (live_of new ws)
    made_served (Ok done) s = ((s.serves, refl), long)
    made_served (Err refused) s = inl (s.serves, refl)

    pub made : (shown : IsShown new) (r : Result Done CommitRefused) → IfOk r (IsCommitted old new (under worker lease) progress)
        → IfErr r (λ refused. (refused.lease ≡ under worker lease) × (refused.progress ≡ progress)) → OnErr r (new ≡ old)
        → OnErr r (IsCurrent old.threads (under worker lease) progress.origin × (¬ IsOver old))
        → IsLiveServing worker (ask.Commit lease progress) (answer.Done r) (live_of old ws) (live_of new ws)
    made shown r done back left memory =
        let s = committed old new worker lease progress shown live.by_one r done back left memory in
        by_book (ask.Commit lease progress) (answer.Done r) s (made_within r s) (made_served r s)

-- ---- the book isn't asked

module _ (b : BookView) (ws : List Waiting) (live : IsLive (live_of b ws)) (shown : IsShown b) (worker : ℕ) where
  unasked : (after : List Waiting) (a : DeskAsk) (w : DeskAnswer) → told w ≡ nothing → Says b.job b.history.events w → IsLive (live_of b after)
      → IsLiveServed (live_of b ws) worker a w (live_of b after) → IsLiveServing worker a w (live_of b ws) (live_of b after)
  unasked after a w tells says lives served =
      let events = b.history.events in
      record {
        serves = served;
        job = refl;
        adds = adds_nothing worker events events refl;
        tells = subst (λ t. Tells t events events) (sym tells) (tells_nothing events events refl);
        commits = ap (λ (t : Told). risen (once t.committed) b.answered.commits) (sym tells);
        stale = ap (λ (t : Told). risen (once t.stale) b.answered.stale) (sym tells);
        fits = (history_of b shown live.by_one, says);
        live = lives;
      }

  pub rung : 0 < length ws → IsLiveServing worker ask.Lease answer.Rung (live_of b ws) (live_of b ws)
  rung some = unasked ws ask.Lease answer.Rung refl tt live (refl, some)

  pub dry : IsTurn b b worker Idle → AllWait (live_of b ws) → IsLiveServing worker ask.Lease answer.Dry (live_of b ws) (live_of b ws)
  dry idle all = unasked ws ask.Lease answer.Dry refl tt live (refl, idle, all)

  module _ (lease : LeaseView) (progress : ProgressView) (program : progress.program ≡ b.job.program) (short : IsShort b progress) where
    abbrev last : Waiting
    last = record { lease = lease; progress = progress }

    pub kept : IsLiveServing worker (ask.Commit lease progress) answer.Kept (live_of b ws) (live_of b (ws ++ last ∷ []))
    kept =
        let lives : IsLive (live_of b (ws ++ last ∷ [])) = record { by_one = live.by_one; within = live.within; asks = asks_more b ws last live.asks (program, short.0) } in
        unasked (ws ++ last ∷ []) (ask.Commit lease progress) answer.Kept refl tt lives (refl, short)

    pub refused : (r : CommitRefused) → r.lease ≡ under worker lease → r.progress ≡ progress
        → IsLiveServing worker (ask.Commit lease progress) (answer.Done (Err r)) (live_of b ws) (live_of b ws)
    refused r same_lease same_progress = unasked ws (ask.Commit lease progress) (answer.Done (Err r)) refl tt live (inr (refl, same_lease, same_progress, short))

-- ---- a lease is answered

module _ (old new : BookView) (ws : List Waiting) (live : IsLive (live_of old ws)) (shown : IsShown old) (worker : ℕ) where
  -- at Idle the book stays
  stays : (t : Turn) → t ≡ Idle → IsTurn old new worker t → IsTurn old new worker Idle
  stays t is turn = subst (IsTurn old new worker) is turn

  pub answered : (t : Turn) (b : DeskAnswer) → IsServing worker ask.Lease (answer.Turn (Ok t)) old new → IsTurn old new worker t → IsAnswerTo (live_of new ws) t b
      → IsLiveServing worker ask.Lease b (live_of old ws) (live_of new ws)
  answered t answer.Dry s turn is =
      let idle = stays t is.0 turn in
      let all : AllWait (live_of old ws) = subst (λ (b : BookView). AllWait (live_of b ws)) idle.1 is.1 in
      subst (λ (b : BookView). IsLiveServing worker ask.Lease answer.Dry (live_of old ws) (live_of b ws)) (sym idle.1) (dry old ws live shown worker (idle.0, refl) all)
  answered t (answer.Turn (Ok now)) s turn is =
      let idle : t ≡ Idle → AllWait (live_of old ws) → ⊥ = λ at all. is.1 at (subst (λ (b : BookView). AllWait (live_of b ws)) (sym (stays t at turn).1) all) in
      subst (λ (x : Turn). IsLiveServing worker ask.Lease (answer.Turn (Ok x)) (live_of old ws) (live_of new ws)) (sym is.0) (lent old new ws live worker t s idle)
  answered t (answer.Turn (Err e)) s turn is = absurd is
  answered t (answer.Done r) s turn is = absurd is
  answered t answer.Given s turn is = absurd is
  answered t (answer.Released lines r) s turn is = absurd is
  answered t answer.Rung s turn is = absurd is
  answered t answer.Kept s turn is = absurd is
