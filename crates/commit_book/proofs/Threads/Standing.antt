-- What holds of the threads, but for the queue, and how it stays so while they change one at a time.
use Rattle.std.proofs.Common.{◌≡◌, ℕ, Bool, true, false, cond, nat_eq, Option, Some, None, refl, sym, ap, subst, ◌∙◌}
use Rattle.std.specs.Prelude.{IfSome, option_and_then, option_map}
use Rattle.std.specs.Ordering.{nat_cmp}
use Rattle.std.specs.FinMap as map
use Rattle.std.specs.FinMap.{FinMap}
use Rattle.std.proofs.lemmas.Bool.{false≢true, eqb-true}
use Rattle.stab_code.specs.Program.{ProgramParts}
use Rattle.thread_slots.specs.declared.state.State.{State}
use Rattle.thread_slots.specs.declared.state.State.TheVariants.{Parked, Ended}
use Rattle.thread_slots.specs.Ready.{IsQueueOf}
use Rattle.thread_slots.specs.Slot.{Slot, changed, is_ready_at, same_state}
use Rattle.rendezvous.specs.Line.{Seen}
use Rattle.language.specs.Expression.{Expr}
use Rattle.language.specs.Plain.{PlainState}
use Rattle.stab_journal.specs.Generation.{generation}
use Rattle.step_eval.specs.ControlView.{ControlView, Fits, RedexIsFound, expr_of}
use Rattle.commit_book.specs.Book.{BookView, ShowsThreads, over, offered}
use Rattle.commit_book.specs.Doing.{IsDoing, AreDoing, AllParked, waits_with}
use Rattle.commit_book.specs.Offers.{AreOffers}
use Rattle.commit_book.specs.Threads.{stands, AllControls}
use Rattle.commit_book.proofs.Threads.Changed.{each_changed}
use Rattle.commit_book.proofs.Threads.Lending.{get-changed}
use Rattle.commit_book.proofs.Threads.Waiting.{offers_same}

-- a thread with this control, in this state
abbrev pub moved : ControlView → State → Slot ControlView → Slot ControlView
moved c st slot = record { control = c; generation = slot.generation; state = st }

-- where threads stand, once t stands at e
abbrev pub put : {E : Type 0} → ℕ → E → (ℕ → Option E) → ℕ → Option E
put t e f u = cond (nat_eq u t) (Some e) (f u)

module _ {X : Type 0} where
  -- what holds of the value that is there
  pub of_some : (o : Option X) (x : X) (P : X → Type 0) → o ≡ Some x → IfSome o P → P x
  of_some o x P is h = subst (λ (k : Option X). IfSome k P) is h

  pub if_some : (o : Option X) (x : X) (P : X → Type 0) → o ≡ Some x → P x → IfSome o P
  if_some o x P is h = subst (λ (k : Option X). IfSome k P) (sym is) h

module _ (p : ProgramParts) where
  -- where each live thread stands, how often it was put back, and who waits with what
  pub record AreStanding (slots : FinMap nat_cmp (Slot ControlView)) (seen : Seen) (exprs : ℕ → Option Expr) (put_back : ℕ → ℕ) : Type 0 where
    pub threads : (t : ℕ) → stands (expr_of p) slots t ≡ exprs t
    pub fit : AllControls (Fits p) slots
    pub generations : (t : ℕ) → IfSome (map.get slots t) (λ s. s.generation ≡ put_back t)
    pub doing : AreDoing (over p) (offered p) slots
    pub offers : AreOffers (offered p) slots seen
    pub found : AllParked RedexIsFound slots

  -- the thread t is there and doesn't wait, and this control fits, with this state
  pub record MayMove (threads : FinMap nat_cmp (Slot ControlView)) (t : ℕ) (c : ControlView) (st : State) : Type 0 where
    pub slot : Slot ControlView
    pub found : map.get threads t ≡ Some slot
    pub unparked : same_state Parked slot.state ≡ false
    pub fits : Fits p c
    pub ended : same_state Ended st ≡ over p c
    pub parked : same_state Parked st ≡ false

  put_stands : (b : Bool) (c : ControlView) (st : State) (slot : Slot ControlView) (o n : Option (Slot ControlView)) → o ≡ Some slot
      → option_map (λ (s : Slot ControlView). expr_of p s.control) (cond b (option_map (moved c st) o) n) ≡ cond b (Some (expr_of p c)) (option_map (λ (s : Slot ControlView). expr_of p s.control) n)
  put_stands true c st slot o n is = ap (λ k. option_map (λ (s : Slot ControlView). expr_of p s.control) (option_map (moved c st) k)) is
  put_stands false c st slot o n is = refl

  -- a live thread stands elsewhere, whatever else changes
  pub stands_moved : (threads : FinMap nat_cmp (Slot ControlView)) (t u : ℕ) (c : ControlView) (st : State) (slot : Slot ControlView) → map.get threads t ≡ Some slot
      → stands (expr_of p) (changed threads t (moved c st)) u ≡ put t (expr_of p c) (stands (expr_of p) threads) u
  stands_moved threads t u c st slot found =
      ap (option_map (λ (s : Slot ControlView). expr_of p s.control)) (get-changed threads t u (moved c st))
      ∙ put_stands (nat_eq u t) c st slot (map.get threads t) (map.get threads u) found

  waits_apart : (b : Bool) (a o n : Option (Slot ControlView)) → option_and_then (waits_with (offered p)) a ≡ option_and_then (waits_with (offered p)) o → (b ≡ true → n ≡ o)
      → option_and_then (waits_with (offered p)) (cond b a n) ≡ option_and_then (waits_with (offered p)) n
  waits_apart true a o n same here = same ∙ sym (ap (option_and_then (waits_with (offered p))) (here refl))
  waits_apart false a o n same here = refl

  no_wait : (slot : Slot ControlView) → same_state Parked slot.state ≡ false → waits_with (offered p) slot ≡ None
  no_wait slot un = ap (λ b. cond b (offered p slot.control) None) un

  -- nobody begins or ends to wait
  waits_same : (threads : FinMap nat_cmp (Slot ControlView)) (t u : ℕ) (c : ControlView) (st : State) (m : MayMove threads t c st)
      → option_and_then (waits_with (offered p)) (map.get (changed threads t (moved c st)) u) ≡ option_and_then (waits_with (offered p)) (map.get threads u)
  waits_same threads t u c st m =
      ap (option_and_then (waits_with (offered p))) (get-changed threads t u (moved c st))
      ∙ waits_apart (nat_eq u t) (option_map (moved c st) (map.get threads t)) (map.get threads t) (map.get threads u)
      (ap (λ o. option_and_then (waits_with (offered p)) (option_map (moved c st) o)) m.found ∙ no_wait (moved c st m.slot) m.parked ∙ sym (ap (option_and_then (waits_with (offered p))) m.found ∙ no_wait m.slot m.unparked))
      (λ at. ap (map.get threads) (eqb-true u t at))

  -- a thread that waited nowhere stands at another control, and waits nowhere
  pub standing_moved : (threads : FinMap nat_cmp (Slot ControlView)) (offers : Seen) (exprs : ℕ → Option Expr) (put_back : ℕ → ℕ) (t : ℕ) (c : ControlView) (st : State)
      → AreStanding threads offers exprs put_back → MayMove threads t c st → AreStanding (changed threads t (moved c st)) offers (put t (expr_of p c) exprs) put_back
  standing_moved threads offers exprs put_back t c st shown m = record {
    threads = λ u. stands_moved threads t u c st m.slot m.found ∙ ap (cond (nat_eq u t) (Some (expr_of p c))) (shown.threads u);
    fit = each_changed (λ u s. Fits p s.control) threads t (moved c st) shown.fit (if_some (map.get threads t) m.slot (λ s. Fits p c) m.found m.fits);
    generations = each_changed (λ u s. s.generation ≡ put_back u) threads t (moved c st) shown.generations (shown.generations t);
    doing = each_changed (λ u s. IsDoing (over p) (offered p) s) threads t (moved c st) shown.doing
        (if_some (map.get threads t) m.slot (λ s. IsDoing (over p) (offered p) (moved c st s)) m.found (record { ended = m.ended; parked = λ h. absurd (false≢true (sym m.parked ∙ h)) }));
    offers = offers_same (offered p) threads (changed threads t (moved c st)) offers (λ u. waits_same threads t u c st m) shown.offers;
    found = each_changed (λ u s. same_state Parked s.state ≡ true → RedexIsFound s.control) threads t (moved c st) shown.found
        (if_some (map.get threads t) m.slot (λ s. same_state Parked st ≡ true → RedexIsFound c) m.found (λ h. absurd (false≢true (sym m.parked ∙ h))));
  }

-- what a book shows of its threads, but for the queue
pub standing_of : (b : BookView) (s : PlainState) → ShowsThreads b s → AreStanding b.job.program b.threads b.offers (λ t. map.get s.threads t) (λ t. generation t b.history.events)
standing_of b s shown = record {
  threads = shown.threads;
  fit = shown.fit;
  generations = shown.generations;
  doing = shown.doing;
  offers = shown.offers;
  found = shown.found;
}

-- and with the queue, where the state has the threads there and nobody was put back
pub shows_of : (b : BookView) (s : PlainState) (exprs : ℕ → Option Expr) (put_back : ℕ → ℕ) → AreStanding b.job.program b.threads b.offers exprs put_back
    → ((t : ℕ) → map.get s.threads t ≡ exprs t) → ((t : ℕ) → generation t b.history.events ≡ put_back t) → IsQueueOf (is_ready_at b.threads) b.queue → ShowsThreads b s
shows_of b s exprs put_back standing state same queue = record {
  threads = λ t. standing.threads t ∙ sym (state t);
  fit = standing.fit;
  generations = λ t. subst (λ (k : ℕ). IfSome (map.get b.threads t) (λ slot. slot.generation ≡ k)) (sym (same t)) (standing.generations t);
  doing = standing.doing;
  queue = queue;
  offers = standing.offers;
  found = standing.found;
}
