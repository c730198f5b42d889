-- The threads once one is added, and once a channel is made.
use Rattle.std.proofs.Common.{◌≡◌, ℕ, Bool, true, false, cond, nat_eq, Option, Some, None, refl, sym, ap, ◌∙◌}
use Rattle.std.specs.Prelude.{option_and_then, option_map, if◌then◌else◌}
use Rattle.std.specs.Ordering.{nat_cmp}
use Rattle.std.specs.FinMap as map
use Rattle.std.specs.FinMap.{FinMap}
use Rattle.std.proofs.lemmas.Bool.{false≢true, eqb-true}
use Rattle.stab_code.specs.Program.{ProgramParts}
use Rattle.thread_slots.specs.declared.state.State.{State}
use Rattle.thread_slots.specs.declared.state.State.TheVariants.{Ready, Parked, Ended}
use Rattle.thread_slots.specs.Slot.{Slot, started, same_state}
use Rattle.rendezvous.specs.Line.{Seen, nobody}
use Rattle.language.specs.Expression.{Expr}
use Rattle.language.proofs.Applying.{get_inserted}
use Rattle.step_eval.specs.ControlView.{ControlView, Fits, RedexIsFound, expr_of}
use Rattle.commit_book.specs.Book.{over, offered}
use Rattle.commit_book.specs.Doing.{IsDoing, waits_with}
use Rattle.commit_book.specs.Threads.{stands}
use Rattle.commit_book.proofs.Threads.Changed.{each_added}
use Rattle.commit_book.proofs.Threads.Standing.{put, AreStanding}
use Rattle.commit_book.proofs.Threads.Waiting.{offers_same, offers_made}

-- the state of a thread that is Ended or Ready
abbrev pub resting_state : Bool → State
resting_state ended = if ended then Ended else Ready

pub resting_ended : (b : Bool) → same_state Ended (resting_state b) ≡ b
resting_ended true = refl
resting_ended false = refl

pub resting_unparked : (b : Bool) → same_state Parked (resting_state b) ≡ false
resting_unparked true = refl
resting_unparked false = refl

module _ (p : ProgramParts) where
  -- under this number there is no thread, and nobody was put back; the child's control fits
  pub record MayAdd (threads : FinMap nat_cmp (Slot ControlView)) (put_back : ℕ → ℕ) (t : ℕ) (c : ControlView) (now : Bool) : Type 0 where
    pub free : map.get threads t ≡ None
    pub fresh : put_back t ≡ 0
    pub fits : Fits p c
    pub ended : now ≡ over p c

  added_stands : (b : Bool) (c : ControlView) (e : Bool) (n : Option (Slot ControlView))
      → option_map (λ (s : Slot ControlView). expr_of p s.control) (cond b (Some (started c e)) n) ≡ cond b (Some (expr_of p c)) (option_map (λ (s : Slot ControlView). expr_of p s.control) n)
  added_stands true c e n = refl
  added_stands false c e n = refl

  pub stands_added : (threads : FinMap nat_cmp (Slot ControlView)) (t u : ℕ) (c : ControlView) (e : Bool)
      → stands (expr_of p) (map.insert threads t (started c e)) u ≡ put t (expr_of p c) (stands (expr_of p) threads) u
  stands_added threads t u c e =
      ap (option_map (λ (s : Slot ControlView). expr_of p s.control)) (get_inserted threads t (started c e) u)
      ∙ added_stands (nat_eq u t) c e (map.get threads u)

  no_child_waits : (c : ControlView) (e : Bool) → waits_with (offered p) (started c e) ≡ None
  no_child_waits c e = ap (λ b. cond b (offered p c) None) (resting_unparked e)

  waits_cond : (b : Bool) (slot : Slot ControlView) (n : Option (Slot ControlView)) → waits_with (offered p) slot ≡ None → (b ≡ true → n ≡ None)
      → option_and_then (waits_with (offered p)) (cond b (Some slot) n) ≡ option_and_then (waits_with (offered p)) n
  waits_cond true slot n none here = none ∙ sym (ap (option_and_then (waits_with (offered p))) (here refl))
  waits_cond false slot n none here = refl

  -- a thread is added
  pub standing_added : (threads : FinMap nat_cmp (Slot ControlView)) (offers : Seen) (exprs : ℕ → Option Expr) (put_back : ℕ → ℕ) (t : ℕ) (c : ControlView) (ended : Bool)
      → AreStanding p threads offers exprs put_back → MayAdd threads put_back t c ended → AreStanding p (map.insert threads t (started c ended)) offers (put t (expr_of p c) exprs) put_back
  standing_added threads offers exprs put_back t c ended shown m = record {
    threads = λ u. stands_added threads t u c ended ∙ ap (cond (nat_eq u t) (Some (expr_of p c))) (shown.threads u);
    fit = each_added (λ u s. Fits p s.control) threads t (started c ended) shown.fit m.fits;
    generations = each_added (λ u s. s.generation ≡ put_back u) threads t (started c ended) shown.generations (sym m.fresh);
    doing = each_added (λ u s. IsDoing (over p) (offered p) s) threads t (started c ended) shown.doing (record {
      ended = resting_ended ended ∙ m.ended;
      parked = λ h. absurd (false≢true (sym (resting_unparked ended) ∙ h));
    });
    offers = offers_same (offered p) threads (map.insert threads t (started c ended)) offers (λ u.
        ap (option_and_then (waits_with (offered p))) (get_inserted threads t (started c ended) u)
        ∙ waits_cond (nat_eq u t) (started c ended) (map.get threads u) (no_child_waits c ended) (λ at. ap (map.get threads) (eqb-true u t at) ∙ m.free)) shown.offers;
    found = each_added (λ u s. same_state Parked s.state ≡ true → RedexIsFound s.control) threads t (started c ended) shown.found (λ h. absurd (false≢true (sym (resting_unparked ended) ∙ h)));
  }

  -- a channel is made
  pub standing_made : (threads : FinMap nat_cmp (Slot ControlView)) (before after : Seen) (exprs : ℕ → Option Expr) (put_back : ℕ → ℕ) (k : ℕ)
      → AreStanding p threads before exprs put_back → map.get before.lines k ≡ None → after.lines ≡ map.insert before.lines k nobody → after.offers ≡ before.offers → AreStanding p threads after exprs put_back
  standing_made threads before after exprs put_back k shown none lines offers = record {
    threads = shown.threads;
    fit = shown.fit;
    generations = shown.generations;
    doing = shown.doing;
    offers = offers_made (offered p) threads before after k none lines offers shown.offers;
    found = shown.found;
  }
