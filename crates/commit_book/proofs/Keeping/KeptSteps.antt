-- What each kind of step leaves of what is kept of a run, from what its calls leave.
use Rattle.std.proofs.Common.{◌≡◌, ℕ, ◌+◌, ◌<◌, ◌≤◌, ℤ, true, false, cond, ◌&&◌, ◌||◌, nat_eq, List, [], ◌∷◌, ◌++◌, Some, None, refl, sym, ap, subst, ◌∙◌, append-nil, arith}
use Rattle.std.specs.Prelude.{option_map, if◌then◌else◌}
use Rattle.std.specs.FinMap as map
use Rattle.std.specs.FinMap.{FinMap}
use Rattle.stab_base.specs.declared.numbers.ChanId.{ChanId}
use Rattle.stab_base.specs.declared.numbers.RefId.{RefId}
use Rattle.stab_base.specs.declared.numbers.Seq.{Seq}
use Rattle.stab_base.specs.declared.numbers.ThreadId.{ThreadId}
use Rattle.stab_journal.specs.declared.event.Event.{Event}
use Rattle.stab_journal.specs.declared.event.Label.{Label}
use Rattle.stab_journal.specs.declared.event.Label.TheVariants.{Local, Spawn, NewChan, Comm, NewRef, Get, Set, Enter, Print, Probe, Refuse, Pin, Attempt}
use Rattle.stab_journal.specs.declared.event.Numbered.{Numbered}
use Rattle.stab_journal.specs.declared.event.What.TheVariants.{Step}
use Rattle.stab_journal.specs.Journal.{step_at, survivors}
use Rattle.stab_journal.specs.Label.{actors, written}
use Rattle.stab_journal.specs.Names.{has, is_at, made}
use Rattle.stab_journal.specs.Script.{FollowsScript, probed_by}
use Rattle.checkpoint_store.specs.Saved.{is_place, place_cmp}
use Rattle.comm_graph.specs.declared.node.NodeFor.TheVariants as node
use Rattle.rendezvous.specs.Line.{nobody}
use Rattle.language.specs.Expression.{Expr}
use Rattle.language.specs.Plain.{PlainState}
use Rattle.language.specs.Standing.{event}
use Rattle.language.specs.Steps.{Effect}
use Rattle.step_eval.specs.ControlView.{ControlView, Fits, expr_of}
use Rattle.commit_book.specs.Book.{BookView, Next, ShowsJournal}
use Rattle.commit_book.specs.Graph.{node_of, one_node}
use Rattle.stab_journal.specs.Numbers.{AreNext, AreFew}
use Rattle.commit_book.specs.References.{writes_at}
use Rattle.commit_book.specs.Run.{saves}
use Rattle.commit_book.specs.Saved.{saved_of, AllSaved}
use Rattle.commit_book.specs.Step.{IsStepOf, next_seq, wrote_after}
use Rattle.commit_book.proofs.Keeping.EventSteps.{script_step}
use Rattle.commit_book.proofs.Keeping.KeptParts.{lines_made, saved_same, saved_one, saved_two, all_saved}
use Rattle.commit_book.proofs.Keeping.Named.{AreOld, next_kept, next_spawned, next_chan_made, next_ref_made, few_more}
use Rattle.commit_book.proofs.Keeping.RoomKept.{none_saved}

-- the event was pushed
pub record IsPushed (old new : BookView) (worker : ℕ) (l : Label) : Type 0 where
  pub events : new.history.events ≡ old.history.events ++ event worker (Step l) ∷ []
  pub survivors : survivors new.history ≡ survivors old.history ++ step_at (next_seq old) (Step l)

-- the same channels are there
abbrev pub SameChannels : BookView → BookView → Type 0
SameChannels old new = (c : ℕ) → map.contains_key new.offers.lines c ≡ map.contains_key old.offers.lines c

-- a step by one thread that makes, writes, saves and notes nothing
pub record IsPlain (l : Label) : Type 0 where
  pub unmade : made l ≡ None
  pub unwritten : written l ≡ None
  pub unsaved : saves l ≡ false
  pub unnoted : (w : ℕ → ℕ) (q : ℕ) → node_of w q l ≡ []

pub local_plain : (t : ThreadId) (n : ℕ) → IsPlain (Local t n)
local_plain t n = record { unmade = refl; unwritten = refl; unsaved = refl; unnoted = λ w q. refl }

pub print_plain : (t : ThreadId) → IsPlain (Print t)
print_plain t = record { unmade = refl; unwritten = refl; unsaved = refl; unnoted = λ w q. refl }

pub probe_plain : (t : ThreadId) (i : ℤ) → IsPlain (Probe t i)
probe_plain t i = record { unmade = refl; unwritten = refl; unsaved = refl; unnoted = λ w q. refl }

pub refuse_plain : (t : ThreadId) → IsPlain (Refuse t)
refuse_plain t = record { unmade = refl; unwritten = refl; unsaved = refl; unnoted = λ w q. refl }

pub attempt_plain : (t : ThreadId) (g : ℕ) → IsPlain (Attempt t g)
attempt_plain t g = record { unmade = refl; unwritten = refl; unsaved = refl; unnoted = λ w q. refl }

module _ (old new : BookView) (run : List Numbered) (s : PlainState) (worker : ℕ) (shown : ShowsJournal old run s) where
  next_now : (l : Label) (n : Next) → IsPushed old new worker l → new.next ≡ n → AreNext (old.history.events ++ event worker (Step l) ∷ []) n.thread n.chan n.ref → AreNext new.history.events new.next.thread new.next.chan new.next.ref
  next_now l n pushed is next =
      subst (λ (k : Next). AreNext new.history.events k.thread k.chan k.ref) (sym is)
      (subst (λ (es : List Event). AreNext es n.thread n.chan n.ref) (sym pushed.events) next)

  few_now : (l : Label) (n : Next) → IsPushed old new worker l → new.next ≡ n → n.thread ≤ old.next.thread + 1 → n.chan ≤ old.next.chan + 1 → n.ref ≤ old.next.ref + 1 → AreFew new.history.events new.next.thread new.next.chan new.next.ref
  few_now l n pushed is a b c =
      subst (λ (k : Next). AreFew new.history.events k.thread k.chan k.ref) (sym is)
      (subst (λ (es : List Event). AreFew es n.thread n.chan n.ref) (sym pushed.events) (few_more old.history.events (event worker (Step l)) old.next.thread old.next.chan old.next.ref n.thread n.chan n.ref shown.few a b c))

  pub next_same : (l : Label) → IsPushed old new worker l → new.next ≡ old.next → AreOld l old.next.thread old.next.chan old.next.ref → AreNext new.history.events new.next.thread new.next.chan new.next.ref
  next_same l pushed is names = next_now l old.next pushed is (next_kept old.history.events worker old.next.thread old.next.chan old.next.ref shown.next l names)

  pub few_same : (l : Label) → IsPushed old new worker l → new.next ≡ old.next → AreFew new.history.events new.next.thread new.next.chan new.next.ref
  few_same l pushed is = few_now l old.next pushed is (omega arith) (omega arith) (omega arith)

  -- the script where the step is no probe
  pub script_now : (l : Label) → IsPushed old new worker l → probed_by (Step l) ≡ [] → FollowsScript old.job.script new.history.events
  script_now l pushed none = subst (λ (es : List Event). FollowsScript old.job.script es) (sym pushed.events) (script_step old.job.script old.history.events (event worker (Step l)) none shown.script)

  unsaved_now : new.saved ≡ old.saved → (q t : ℕ) → option_map (expr_of old.job.program) (saved_of new.saved q t) ≡ cond (nat_eq q (next_seq old)) None (option_map (expr_of old.job.program) (saved_of old.saved q t))
  unsaved_now same q t =
      ap (λ m. option_map (expr_of old.job.program) (saved_of m q t)) same
      ∙ saved_same (expr_of old.job.program) (next_seq old) old.saved (none_saved old run s shown) q t

  fit_same : new.saved ≡ old.saved → AllSaved (Fits old.job.program) new.saved
  fit_same same = subst (AllSaved (Fits old.job.program)) (sym same) shown.saved_fit

  -- ---- a step that does nothing but to its thread, and may print
  pub plain_step : (l : Label) (e : Effect Expr) → IsPlain l → IsPushed old new worker l → AreOld l old.next.thread old.next.chan old.next.ref → FollowsScript old.job.script new.history.events → new.printed ≡ old.printed ++ e.printed
      → new ≡ record old { history = new.history; printed = new.printed }
      → IsStepOf old new run s worker l e
  plain_step l e plain pushed names script printed rest = record {
    job = ap (λ b. b.job) rest;
    events = pushed.events;
    survivors = pushed.survivors;
    script = script;
    channels = λ c. ap (λ b. map.contains_key b.offers.lines c) rest ∙ ap (λ m. is_at m c || map.contains_key old.offers.lines c) (sym plain.unmade);
    last_cut = ap (λ b. b.last_cut) rest;
    writes = λ r.
        ap (λ b. writes_at b.references r) rest
        ∙ sym (ap (λ w. writes_at old.references r ++ cond (is_at w r) (record { number = next_seq old; value = e.value } ∷ []) []) plain.unwritten ∙ append-nil (writes_at old.references r));
    printed = printed;
    next = next_same l pushed (ap (λ b. b.next) rest) names;
    few = few_same l pushed (ap (λ b. b.next) rest);
    saved = λ q t.
        unsaved_now (ap (λ b. b.saved) rest) q t
        ∙ ap (λ b. cond (nat_eq q (next_seq old)) (cond (b && has (actors l) t) (map.get s.threads t) None) (option_map (expr_of old.job.program) (saved_of old.saved q t))) (sym plain.unsaved);
    saved_fit = fit_same (ap (λ b. b.saved) rest);
    nodes = ap (λ b. b.nodes) rest ∙ sym (ap (λ ks. old.nodes ++ ks) (plain.unnoted (wrote_after (λ _. 0) run) (next_seq old)) ∙ append-nil old.nodes);
  }

  -- ---- a pin
  pub pin_step : (t : ThreadId) (e : Effect Expr) → IsPushed old new worker (Pin t) → t.0 < old.next.thread → e.printed ≡ []
      → new.nodes ≡ old.nodes ++ record { number = next_seq old; kind = node.Pin t } ∷ []
      → new ≡ record old { history = new.history; nodes = new.nodes }
      → IsStepOf old new run s worker (Pin t) e
  pin_step t e pushed low silent nodes rest = record {
    job = ap (λ b. b.job) rest;
    events = pushed.events;
    survivors = pushed.survivors;
    script = script_now (Pin t) pushed refl;
    channels = λ c. ap (λ b. map.contains_key b.offers.lines c) rest;
    last_cut = ap (λ b. b.last_cut) rest;
    writes = λ r. ap (λ b. writes_at b.references r) rest ∙ sym (append-nil (writes_at old.references r));
    printed = ap (λ b. b.printed) rest ∙ sym (ap (λ vs. old.printed ++ vs) silent ∙ append-nil old.printed);
    next = next_same (Pin t) pushed (ap (λ b. b.next) rest) (record { threads = (low, tt); chans = tt; refs = tt });
    few = few_same (Pin t) pushed (ap (λ b. b.next) rest);
    saved = unsaved_now (ap (λ b. b.saved) rest);
    saved_fit = fit_same (ap (λ b. b.saved) rest);
    nodes = nodes;
  }

  -- ---- a thread is spawned
  pub spawn_step : (t u : ThreadId) (e : Effect Expr) → IsPushed old new worker (Spawn t u) → t.0 < old.next.thread → u.0 ≡ old.next.thread → SameChannels old new → e.printed ≡ []
      → new.nodes ≡ old.nodes ++ record { number = next_seq old; kind = node.Spawn t u } ∷ []
      → new ≡ record old { history = new.history; threads = new.threads; queue = new.queue; offers = new.offers; nodes = new.nodes; next = record old.next { thread = old.next.thread + 1 }; answered = new.answered }
      → IsStepOf old new run s worker (Spawn t u) e
  spawn_step t u e pushed low is channels silent nodes rest = record {
    job = ap (λ b. b.job) rest;
    events = pushed.events;
    survivors = pushed.survivors;
    script = script_now (Spawn t u) pushed refl;
    channels = channels;
    last_cut = ap (λ b. b.last_cut) rest;
    writes = λ r. ap (λ b. writes_at b.references r) rest ∙ sym (append-nil (writes_at old.references r));
    printed = ap (λ b. b.printed) rest ∙ sym (ap (λ vs. old.printed ++ vs) silent ∙ append-nil old.printed);
    next = next_now (Spawn t u) (record old.next { thread = old.next.thread + 1 }) pushed (ap (λ b. b.next) rest) (next_spawned old.history.events worker old.next.thread old.next.chan old.next.ref shown.next t u low is);
    few = few_now (Spawn t u) (record old.next { thread = old.next.thread + 1 }) pushed (ap (λ b. b.next) rest) (omega arith) (omega arith) (omega arith);
    saved = unsaved_now (ap (λ b. b.saved) rest);
    saved_fit = fit_same (ap (λ b. b.saved) rest);
    nodes = nodes;
  }

  -- ---- a channel is made
  pub chan_step : (t : ThreadId) (d : ChanId) (e : Effect Expr) → IsPushed old new worker (NewChan t d) → t.0 < old.next.thread → d.0 ≡ old.next.chan → e.printed ≡ []
      → new.offers.lines ≡ map.insert old.offers.lines d.0 nobody
      → new ≡ record old { history = new.history; offers = new.offers; next = record old.next { chan = old.next.chan + 1 } }
      → IsStepOf old new run s worker (NewChan t d) e
  chan_step t d e pushed low is silent lines rest = record {
    job = ap (λ b. b.job) rest;
    events = pushed.events;
    survivors = pushed.survivors;
    script = script_now (NewChan t d) pushed refl;
    channels = lines_made old.offers.lines new.offers.lines d.0 lines;
    last_cut = ap (λ b. b.last_cut) rest;
    writes = λ r. ap (λ b. writes_at b.references r) rest ∙ sym (append-nil (writes_at old.references r));
    printed = ap (λ b. b.printed) rest ∙ sym (ap (λ vs. old.printed ++ vs) silent ∙ append-nil old.printed);
    next = next_now (NewChan t d) (record old.next { chan = old.next.chan + 1 }) pushed (ap (λ b. b.next) rest) (next_chan_made old.history.events worker old.next.thread old.next.chan old.next.ref shown.next t d low is);
    few = few_now (NewChan t d) (record old.next { chan = old.next.chan + 1 }) pushed (ap (λ b. b.next) rest) (omega arith) (omega arith) (omega arith);
    saved = unsaved_now (ap (λ b. b.saved) rest);
    saved_fit = fit_same (ap (λ b. b.saved) rest);
    nodes = ap (λ b. b.nodes) rest ∙ sym (append-nil old.nodes);
  }

  -- ---- a reference is made
  pub ref_step : (t : ThreadId) (r : RefId) (e : Effect Expr) → IsPushed old new worker (NewRef t r) → t.0 < old.next.thread → r.0 ≡ old.next.ref → e.printed ≡ []
      → ((k : ℕ) → writes_at new.references k ≡ writes_at old.references k ++ cond (nat_eq k r.0) (record { number = next_seq old; value = e.value } ∷ []) [])
      → new.nodes ≡ old.nodes ++ record { number = next_seq old; kind = node.NewRef t } ∷ []
      → new ≡ record old { history = new.history; references = new.references; nodes = new.nodes; next = record old.next { ref = old.next.ref + 1 } }
      → IsStepOf old new run s worker (NewRef t r) e
  ref_step t r e pushed low is silent writes nodes rest = record {
    job = ap (λ b. b.job) rest;
    events = pushed.events;
    survivors = pushed.survivors;
    script = script_now (NewRef t r) pushed refl;
    channels = λ c. ap (λ b. map.contains_key b.offers.lines c) rest;
    last_cut = ap (λ b. b.last_cut) rest;
    writes = writes;
    printed = ap (λ b. b.printed) rest ∙ sym (ap (λ vs. old.printed ++ vs) silent ∙ append-nil old.printed);
    next = next_now (NewRef t r) (record old.next { ref = old.next.ref + 1 }) pushed (ap (λ b. b.next) rest) (next_ref_made old.history.events worker old.next.thread old.next.chan old.next.ref shown.next t r low is);
    few = few_now (NewRef t r) (record old.next { ref = old.next.ref + 1 }) pushed (ap (λ b. b.next) rest) (omega arith) (omega arith) (omega arith);
    saved = unsaved_now (ap (λ b. b.saved) rest);
    saved_fit = fit_same (ap (λ b. b.saved) rest);
    nodes = nodes;
  }

  -- ---- a reference is set
  pub set_step : (t : ThreadId) (r : RefId) (e : Effect Expr) → IsPushed old new worker (Set t r) → t.0 < old.next.thread → r.0 < old.next.ref → e.printed ≡ []
      → ((k : ℕ) → writes_at new.references k ≡ writes_at old.references k ++ cond (nat_eq k r.0) (record { number = next_seq old; value = e.value } ∷ []) [])
      → new.nodes ≡ old.nodes ++ record { number = next_seq old; kind = node.Set t } ∷ []
      → new ≡ record old { history = new.history; references = new.references; nodes = new.nodes }
      → IsStepOf old new run s worker (Set t r) e
  set_step t r e pushed low is silent writes nodes rest = record {
    job = ap (λ b. b.job) rest;
    events = pushed.events;
    survivors = pushed.survivors;
    script = script_now (Set t r) pushed refl;
    channels = λ c. ap (λ b. map.contains_key b.offers.lines c) rest;
    last_cut = ap (λ b. b.last_cut) rest;
    writes = writes;
    printed = ap (λ b. b.printed) rest ∙ sym (ap (λ vs. old.printed ++ vs) silent ∙ append-nil old.printed);
    next = next_same (Set t r) pushed (ap (λ b. b.next) rest) (record { threads = (low, tt); chans = tt; refs = (is, tt) });
    few = few_same (Set t r) pushed (ap (λ b. b.next) rest);
    saved = unsaved_now (ap (λ b. b.saved) rest);
    saved_fit = fit_same (ap (λ b. b.saved) rest);
    nodes = nodes;
  }

  -- ---- a reference is read; the control c of the thread is saved
  pub get_step : (t : ThreadId) (r : RefId) (e : Effect Expr) (c : ControlView) (w : ℕ) → IsPushed old new worker (Get t r) → t.0 < old.next.thread → r.0 < old.next.ref → e.printed ≡ []
      → Some (expr_of old.job.program c) ≡ map.get s.threads t.0 → Fits old.job.program c
      → ((k : Seq) (u : ThreadId) → map.get new.saved (k, u) ≡ (if is_place (record { 0 = next_seq old }) t k u then Some c else map.get old.saved (k, u)))
      → w ≡ wrote_after (λ _. 0) run r.0
      → new.nodes ≡ old.nodes ++ record { number = next_seq old; kind = node.Get t (record { 0 = w }) } ∷ []
      → new ≡ record old { history = new.history; saved = new.saved; nodes = new.nodes }
      → IsStepOf old new run s worker (Get t r) e
  get_step t r e c w pushed low is silent stood fits saved wrote nodes rest = record {
    job = ap (λ b. b.job) rest;
    events = pushed.events;
    survivors = pushed.survivors;
    script = script_now (Get t r) pushed refl;
    channels = λ k. ap (λ b. map.contains_key b.offers.lines k) rest;
    last_cut = ap (λ b. b.last_cut) rest;
    writes = λ k. ap (λ b. writes_at b.references k) rest ∙ sym (append-nil (writes_at old.references k));
    printed = ap (λ b. b.printed) rest ∙ sym (ap (λ vs. old.printed ++ vs) silent ∙ append-nil old.printed);
    next = next_same (Get t r) pushed (ap (λ b. b.next) rest) (record { threads = (low, tt); chans = tt; refs = (is, tt) });
    few = few_same (Get t r) pushed (ap (λ b. b.next) rest);
    saved = saved_one (expr_of old.job.program) (next_seq old) old.saved new.saved t c (map.get s.threads) saved (none_saved old run s shown) stood;
    saved_fit = all_saved (Fits old.job.program) old.saved new.saved (record { 0 = next_seq old }) t c saved fits shown.saved_fit;
    nodes = nodes ∙ ap (λ k. old.nodes ++ one_node (next_seq old) (node.Get t (record { 0 = k }))) wrote;
  }

  -- ---- a section is entered; the control c of the thread is saved
  pub enter_step : (t : ThreadId) (e : Effect Expr) (c : ControlView) → IsPushed old new worker (Enter t) → t.0 < old.next.thread → e.printed ≡ []
      → Some (expr_of old.job.program c) ≡ map.get s.threads t.0 → Fits old.job.program c
      → ((k : Seq) (u : ThreadId) → map.get new.saved (k, u) ≡ (if is_place (record { 0 = next_seq old }) t k u then Some c else map.get old.saved (k, u)))
      → new.nodes ≡ old.nodes ++ record { number = next_seq old; kind = node.Enter t } ∷ []
      → new ≡ record old { history = new.history; saved = new.saved; nodes = new.nodes }
      → IsStepOf old new run s worker (Enter t) e
  enter_step t e c pushed low silent stood fits saved nodes rest = record {
    job = ap (λ b. b.job) rest;
    events = pushed.events;
    survivors = pushed.survivors;
    script = script_now (Enter t) pushed refl;
    channels = λ k. ap (λ b. map.contains_key b.offers.lines k) rest;
    last_cut = ap (λ b. b.last_cut) rest;
    writes = λ k. ap (λ b. writes_at b.references k) rest ∙ sym (append-nil (writes_at old.references k));
    printed = ap (λ b. b.printed) rest ∙ sym (ap (λ vs. old.printed ++ vs) silent ∙ append-nil old.printed);
    next = next_same (Enter t) pushed (ap (λ b. b.next) rest) (record { threads = (low, tt); chans = tt; refs = tt });
    few = few_same (Enter t) pushed (ap (λ b. b.next) rest);
    saved = saved_one (expr_of old.job.program) (next_seq old) old.saved new.saved t c (map.get s.threads) saved (none_saved old run s shown) stood;
    saved_fit = all_saved (Fits old.job.program) old.saved new.saved (record { 0 = next_seq old }) t c saved fits shown.saved_fit;
    nodes = nodes;
  }

-- two threads are the actors of a message, in any order
abbrev pub AreBoth : ThreadId → ThreadId → ThreadId → ThreadId → Type 0
AreBoth x y a b = (u : ℕ) → has (x.0 ∷ y.0 ∷ []) u ≡ has (a.0 ∷ b.0 ∷ []) u

pub both_turned : (x y : ThreadId) → AreBoth x y y x
both_turned x y u = elim (nat_eq u x.0) as (λ i. cond i true (cond (nat_eq u y.0) true false) ≡ cond (nat_eq u y.0) true (cond i true false)) [
  | true ↦ elim (nat_eq u y.0) as (λ j. true ≡ cond j true true) [ true ↦ refl | false ↦ refl ]
  | false ↦ refl
]

module _ (old new : BookView) (run : List Numbered) (s : PlainState) (worker : ℕ) (shown : ShowsJournal old run s) where
  -- ---- a message goes from a to b; the controls c of x and d of y are saved, one after the other
  pub comm_step : (a b : ThreadId) (h : ChanId) (e : Effect Expr) (x y : ThreadId) (c d : ControlView) (mid : FinMap place_cmp ControlView) → IsPushed old new worker (Comm a b h)
      → a.0 < old.next.thread → b.0 < old.next.thread → h.0 < old.next.chan → SameChannels old new → e.printed ≡ [] → AreBoth x y a b
      → Some (expr_of old.job.program c) ≡ map.get s.threads x.0 → Fits old.job.program c
      → Some (expr_of old.job.program d) ≡ map.get s.threads y.0 → Fits old.job.program d
      → ((k : Seq) (u : ThreadId) → map.get mid (k, u) ≡ (if is_place (record { 0 = next_seq old }) x k u then Some c else map.get old.saved (k, u)))
      → ((k : Seq) (u : ThreadId) → map.get new.saved (k, u) ≡ (if is_place (record { 0 = next_seq old }) y k u then Some d else map.get mid (k, u)))
      → new.nodes ≡ old.nodes ++ record { number = next_seq old; kind = node.Comm a b } ∷ []
      → new ≡ record old { history = new.history; threads = new.threads; queue = new.queue; offers = new.offers; saved = new.saved; nodes = new.nodes; answered = new.answered }
      → IsStepOf old new run s worker (Comm a b h) e
  comm_step a b h e x y c d mid pushed low also there channels silent both stood fits stands fits_too first second nodes rest =
      let p = old.job.program in
      let q : Seq = record { 0 = next_seq old } in
      record {
        job = ap (λ k. k.job) rest;
        events = pushed.events;
        survivors = pushed.survivors;
        script = script_now old new run s worker shown (Comm a b h) pushed refl;
        channels = channels;
        last_cut = ap (λ k. k.last_cut) rest;
        writes = λ r. ap (λ k. writes_at k.references r) rest ∙ sym (append-nil (writes_at old.references r));
        printed = ap (λ k. k.printed) rest ∙ sym (ap (λ vs. old.printed ++ vs) silent ∙ append-nil old.printed);
        next = next_same old new run s worker shown (Comm a b h) pushed (ap (λ k. k.next) rest) (record { threads = (low, (also, tt)); chans = (there, tt); refs = tt });
        few = few_same old new run s worker shown (Comm a b h) pushed (ap (λ k. k.next) rest);
        saved = λ k u.
            saved_two (expr_of p) (next_seq old) old.saved mid new.saved x y c d (map.get s.threads) first second (none_saved old run s shown) stood stands k u
            ∙ ap (λ i. cond (nat_eq k (next_seq old)) (cond i (map.get s.threads u) None) (option_map (expr_of p) (saved_of old.saved k u))) (both u);
        saved_fit = all_saved (Fits p) mid new.saved q y d second fits_too (all_saved (Fits p) old.saved mid q x c first fits shown.saved_fit);
        nodes = nodes;
      }
