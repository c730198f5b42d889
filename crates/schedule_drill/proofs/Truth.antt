-- What stays true of the leases that are out in a drill: a thread that wasn't put back since it was lent is as it was lent.
use Rattle.std.proofs.Common.{◌≡◌, ℕ, ◌<◌, ◌≤◌, Bool, true, false, cond, nat_eq, List, [], ◌∷◌, ◌++◌, Option, Some, None, refl, sym, ap, subst, subst₂, ◌∙◌, arith}
use Rattle.std.specs.Prelude.{IfSome, option_map}
use Rattle.std.specs.FinMap as map
use Rattle.std.specs.FinMap.{get-empty}
use Rattle.std.specs.Cmp.{nat_eq_equiv}
use Rattle.std.specs.Ordering.{nat_cmp}
use Rattle.std.specs.Option.{option_map_or}
use Rattle.std.proofs.lemmas.Bool.{false≢true, eqb-true}
use Rattle.stab_code.specs.JobParts.{JobParts}
use Rattle.stab_journal.specs.declared.event.What.TheVariants as what
use Rattle.stab_journal.specs.Generation.{generation}
use Rattle.thread_slots.specs.declared.state.State.TheVariants.{Ready, Leased}
use Rattle.thread_slots.specs.Slot.{Slot, same_state}
use Rattle.language.specs.Standing.{event}
use Rattle.language.proofs.Applying.{get_inserted}
use Rattle.journal_laws.proofs.Surviving.{some_is, some_none}
use Rattle.step_eval.specs.ControlView.{ControlView}
use Rattle.step_eval.specs.Progress.{Advances, ProgressView}
use Rattle.commit_book.specs.declared.turn.Turn.{Turn}
use Rattle.commit_book.specs.declared.turn.Turn.TheVariants.{Work, Idle, Quiet, Spent, Release}
use Rattle.commit_book.specs.Book.{BookView, IsShown}
use Rattle.commit_book.specs.Leases.{LeaseView}
use Rattle.commit_book.specs.Releases.{IsReleased, finals}
use Rattle.commit_book.specs.Turns.{IsLeaseOf}
use Rattle.commit_book.proofs.Threads.Choosing.{chosen_front}
use Rattle.commit_book.proofs.Threads.Holding.{low}
use Rattle.commit_book.proofs.Threads.Lending.{get-changed}
use Rattle.commit_book.proofs.Acting.Meeting.{first_listed}
use Rattle.commit_book.proofs.Threads.Partners.{IsThere, there_of}
use Rattle.schedule_drill.specs.declared.held.At.{At}
use Rattle.schedule_drill.specs.declared.held.At.TheVariants.{Lent, Stepped}
use Rattle.schedule_drill.specs.declared.held.Held.{Held}
use Rattle.schedule_drill.specs.Alike.{AreTrue, HasMade, IsHeldTruly, IsStillLent, origin_of}
use Rattle.schedule_drill.specs.Out.{IsStepped, Out}
use Rattle.schedule_drill.specs.Played.{IsLeased, IsStep, IsTaken, Stand, stand}
use Rattle.schedule_drill.proofs.Growing.{generation_grows}
use Rattle.schedule_drill.proofs.OneStep.{stepped_origin}

pub if_some : {X : Type 0} (o : Option X) (P Q : X → Type 0) → ((x : X) → P x → Q x) → IfSome o P → IfSome o Q
if_some None P Q f h = tt
if_some (Some x) P Q f h = f x h

pub of_found : {X : Type 0} (o : Option X) (x : X) (P : X → Type 0) → o ≡ Some x → IfSome o P → P x
of_found o x P is h = subst (λ r. IfSome r P) is h

-- none is out
pub none_true : (s : Stand) → s.out ≡ map.empty → AreTrue s
none_true s none = record {
  held = λ k. subst (λ o. IfSome o (IsHeldTruly s.book)) (sym (nothing k)) tt;
  apart = λ j k h i e f thread generation. absurd (some_none (sym e ∙ nothing j));
}
  where
    nothing : (k : ℕ) → map.get s.out k ≡ None
    nothing k = ap (λ (o : Out). map.get o k) none ∙ get-empty nat_cmp k

-- where nothing changes
same_true : (old new : Stand) → new.book ≡ old.book → new.out ≡ old.out → AreTrue old → AreTrue new
same_true old new book out is = subst₂ (λ (b : BookView) (o : Out). AreTrue (stand b o)) (sym book) (sym out) is

-- where values are released
abbrev after : BookView → ℕ → BookView
after b w = record b { history = record b.history { events = b.history.events ++ event w (what.Release (finals b)) ∷ [] } }

released_true : (old new : Stand) (k : ℕ) → IsReleased old.book new.book k → new.out ≡ old.out → AreTrue old → AreTrue new
released_true old new k released out is = record {
  held = λ u. subst₂ (λ (b : BookView) (o : Out). IfSome (map.get o u) (IsHeldTruly b)) (sym released) (sym out) (if_some (map.get old.out u) (IsHeldTruly old.book) (IsHeldTruly (after old.book k)) as_before (is.held u));
  apart = λ j u h i e f. is.apart j u h i (ap (λ (o : Out). map.get o j) (sym out) ∙ e) (ap (λ (o : Out). map.get o u) (sym out) ∙ f);
}
  where
    as_before : (h : Held) → IsHeldTruly old.book h → IsHeldTruly (after old.book k) h
    as_before h was = record {
      known = was.known;
      older = let o = was.older in let g = generation_grows h.lease.thread old.book.history.events (event k (what.Release (finals old.book)) ∷ []) in omega (arith, o, g);
      still = was.still;
      made = was.made;
    }

-- ---- one lease stands elsewhere

module _ (old new : Stand) (k : ℕ) (h : Held) (at : At) (found : map.get old.out k ≡ Some h) (same : origin_of at ≡ origin_of h.at) (made : HasMade old.book.job.program at) (book : new.book ≡ old.book) (out : new.out ≡ map.insert old.out k (record h { at = at })) (is : AreTrue old) where
  there : (u : ℕ) → map.get new.out u ≡ cond (nat_eq u k) (Some (record h { at = at })) (map.get old.out u)
  there u = ap (λ (o : Out). map.get o u) out ∙ get_inserted old.out k (record h { at = at }) u

  -- the lease was out before
  record WasOut (u : ℕ) (i : Held) : Type 0 where
    before : Held
    was : map.get old.out u ≡ Some before
    lease : before.lease ≡ i.lease

  was_out : (u : ℕ) (i : Held) → map.get new.out u ≡ Some i → WasOut u i
  was_out u i e = by (nat_eq u k) refl
    where
      by : (b : Bool) → nat_eq u k ≡ b → WasOut u i
      by true at_k = record {
        before = h;
        was = ap (map.get old.out) (eqb-true u k at_k) ∙ found;
        lease = ap (λ (x : Held). x.lease) (some_is (sym (ap (λ b. cond b (Some (record h { at = at })) (map.get old.out u)) at_k) ∙ sym (there u) ∙ e));
      }
      by false other = record { before = i; was = sym (ap (λ b. cond b (Some (record h { at = at })) (map.get old.out u)) other) ∙ sym (there u) ∙ e; lease = refl }

  truly : (u : ℕ) (b : Bool) → nat_eq u k ≡ b → IfSome (cond b (Some (record h { at = at })) (map.get old.out u)) (IsHeldTruly old.book)
  truly u true at_k =
      let before = of_found (map.get old.out k) h (IsHeldTruly old.book) found (is.held k) in
      record {
        known = before.known;
        older = before.older;
        still = if_some (map.get old.book.threads h.lease.thread) (IsStillLent h) (IsStillLent (record h { at = at })) (λ slot still now. ((still now).0, (still now).1 ∙ sym same)) before.still;
        made = made;
      }
  truly u false other = is.held u

  still_true : AreTrue new
  still_true = record {
    held = λ u. subst (λ (b : BookView). IfSome (map.get new.out u) (IsHeldTruly b)) (sym book) (subst (λ o. IfSome o (IsHeldTruly old.book)) (sym (there u)) (truly u (nat_eq u k) refl));
    apart = λ j u x y e f thread generation.
        let a = was_out j x e in
        let b = was_out u y f in
        is.apart j u a.before b.before a.was b.was
        (ap (λ (l : LeaseView). l.thread) a.lease ∙ thread ∙ sym (ap (λ (l : LeaseView). l.thread) b.lease))
        (ap (λ (l : LeaseView). l.generation) a.lease ∙ generation ∙ sym (ap (λ (l : LeaseView). l.generation) b.lease));
  }

-- the steps of a lease were made
pub stepped_made : (job : JobParts) (at : At) (f : ProgressView) → HasMade job.program at → IsStepped job at f → Advances job.program f.origin f.steps f.end
stepped_made job (Lent control) f made is = is.made
stepped_made job (Stepped m) f made is = subst (λ (g : ProgressView). Advances job.program g.origin g.steps g.end) (sym is) made

pub step_true : (old new : Stand) (k : ℕ) (what : List ℕ) (h : Held) → map.get old.out k ≡ Some h → IsStep old new k what h → AreTrue old → AreTrue new
step_true old new k what h found step is =
    let before = of_found (map.get old.out k) h (IsHeldTruly old.book) found (is.held k) in
    still_true old new k h (Stepped step.progress) found (stepped_origin old.book.job h.at step.progress step.stepped) (stepped_made old.book.job h.at step.progress before.made step.stepped) step.book step.out is

-- ---- a thread is lent

module _ (old new : Stand) (k : ℕ) (l : LeaseView) (c : ControlView) (shown : IsShown old.book) (taken : IsTaken old new k (Work l c)) (is : AreTrue old) where
  abbrev to_leased : Slot ControlView → Slot ControlView
  to_leased slot = record slot { state = Leased }

  abbrev lent : Held
  lent = record { lease = l; at = Lent c }

  here : IsThere (map.get old.book.threads l.thread) (IsLeaseOf old.book k l c)
  here = there_of (map.get old.book.threads l.thread) (IsLeaseOf old.book k l c) taken.0.1

  ready : same_state Ready here.value.state ≡ true
  ready =
      ap (λ o. option_map_or (λ (slot : Slot ControlView). same_state Ready slot.state) o false) (sym here.found)
      ∙ sym (shown.shows.threads.queue.ready l.thread)
      ∙ first_listed l.thread old.book.queue (chosen_front old.book (record { 0 = l.thread }) taken.0.0)

  -- no lease of it that is out is of this generation
  no_other : (h : Held) → IfSome (map.get old.book.threads h.lease.thread) (IsStillLent h) → h.lease.thread ≡ l.thread → here.value.generation ≡ h.lease.generation → ⊥
  no_other h still same now =
      let at : IsStillLent h here.value = of_found (map.get old.book.threads h.lease.thread) here.value (IsStillLent h) (ap (map.get old.book.threads) same ∙ here.found) still in
      false≢true (sym (ap (same_state Ready) (at now).0) ∙ ready)

  slot_in : (u : ℕ) → map.get new.book.threads u ≡ cond (nat_eq u l.thread) (option_map to_leased (map.get old.book.threads l.thread)) (map.get old.book.threads u)
  slot_in u = ap (λ (b : BookView). map.get b.threads u) taken.0.2 ∙ get-changed old.book.threads l.thread u to_leased

  next : new.book.next.thread ≡ old.book.next.thread
  next = ap (λ (b : BookView). b.next.thread) taken.0.2

  events : new.book.history.events ≡ old.book.history.events
  events = ap (λ (b : BookView). b.history.events) taken.0.2

  program : new.book.job.program ≡ old.book.job.program
  program = ap (λ (b : BookView). b.job.program) taken.0.2

  -- the others stay true
  other_true : (h : Held) → IsHeldTruly old.book h → IsHeldTruly new.book h
  other_true h was = record {
    known = subst (λ n. h.lease.thread < n) (sym next) was.known;
    older = subst (λ es. h.lease.generation ≤ generation h.lease.thread es) (sym events) was.older;
    still = subst (λ o. IfSome o (IsStillLent h)) (sym (slot_in h.lease.thread)) (still (nat_eq h.lease.thread l.thread) refl);
    made = subst (λ p. HasMade p h.at) (sym program) was.made;
  }
    where
      still : (b : Bool) → nat_eq h.lease.thread l.thread ≡ b → IfSome (cond b (option_map to_leased (map.get old.book.threads l.thread)) (map.get old.book.threads h.lease.thread)) (IsStillLent h)
      still true same =
          subst (λ o. IfSome (option_map to_leased o) (IsStillLent h)) (sym here.found)
          (λ now. absurd (no_other h was.still (eqb-true h.lease.thread l.thread same) now))
      still false apart = was.still

  -- and the new one is
  lent_true : IsHeldTruly new.book lent
  lent_true = record {
    known = subst (λ n. l.thread < n) (sym next) (low old.book shown l.thread here.value here.found);
    older = subst (λ es. l.generation ≤ generation l.thread es) (sym events) (let g = here.is.generation in omega (arith, g, now));
    still = subst (λ o. IfSome o (IsStillLent lent)) (sym at_lent) (λ now. (refl, sym here.is.control));
    made = tt;
  }
    where
      now : here.value.generation ≡ generation l.thread old.book.history.events
      now = of_found (map.get old.book.threads l.thread) here.value (λ (slot : Slot ControlView). slot.generation ≡ generation l.thread old.book.history.events) here.found (shown.shows.threads.generations l.thread)

      at_lent : map.get new.book.threads l.thread ≡ Some (to_leased here.value)
      at_lent = slot_in l.thread ∙ ap (λ b. cond b (option_map to_leased (map.get old.book.threads l.thread)) (map.get old.book.threads l.thread)) (nat_eq_equiv.refl l.thread) ∙ ap (option_map to_leased) here.found

  in_out : (u : ℕ) → map.get new.out u ≡ cond (nat_eq u k) (Some lent) (map.get old.out u)
  in_out u = ap (λ (o : Out). map.get o u) taken.1 ∙ get_inserted old.out k lent u

  truly_lent : (u : ℕ) (b : Bool) → IfSome (cond b (Some lent) (map.get old.out u)) (IsHeldTruly new.book)
  truly_lent u true = lent_true
  truly_lent u false = if_some (map.get old.out u) (IsHeldTruly old.book) (IsHeldTruly new.book) other_true (is.held u)

  -- one that was out already isn't the new one
  not_lent : (u : ℕ) (h : Held) → map.get old.out u ≡ Some h → h.lease.thread ≡ l.thread → h.lease.generation ≡ l.generation → ⊥
  not_lent u h e thread generation = no_other h (of_found (map.get old.out u) h (IsHeldTruly old.book) e (is.held u)).still thread (sym here.is.generation ∙ sym generation)

  lent_apart : (j u : ℕ) (x y : Held) (a b : Bool) → nat_eq j k ≡ a → nat_eq u k ≡ b → cond a (Some lent) (map.get old.out j) ≡ Some x → cond b (Some lent) (map.get old.out u) ≡ Some y → x.lease.thread ≡ y.lease.thread → x.lease.generation ≡ y.lease.generation → j ≡ u
  lent_apart j u x y true true at_j at_u e f thread generation = eqb-true j k at_j ∙ sym (eqb-true u k at_u)
  lent_apart j u x y true false at_j at_u e f thread generation =
      absurd (not_lent u y f (sym thread ∙ sym (ap (λ (h : Held). h.lease.thread) (some_is e))) (sym generation ∙ sym (ap (λ (h : Held). h.lease.generation) (some_is e))))
  lent_apart j u x y false true at_j at_u e f thread generation =
      absurd (not_lent j x e (thread ∙ sym (ap (λ (h : Held). h.lease.thread) (some_is f))) (generation ∙ sym (ap (λ (h : Held). h.lease.generation) (some_is f))))
  lent_apart j u x y false false at_j at_u e f thread generation = is.apart j u x y e f thread generation

  work_true : AreTrue new
  work_true = record {
    held = λ u. subst (λ o. IfSome o (IsHeldTruly new.book)) (sym (in_out u)) (truly_lent u (nat_eq u k));
    apart = λ j u x y e f. lent_apart j u x y (nat_eq j k) (nat_eq u k) refl refl (sym (in_out j) ∙ e) (sym (in_out u) ∙ f);
  }

taken_true : (old new : Stand) (k : ℕ) (turn : Turn) → IsShown old.book → IsTaken old new k turn → AreTrue old → AreTrue new
taken_true old new k (Work l c) shown taken is = work_true old new k l c shown taken is
taken_true old new k Idle shown taken is = same_true old new taken.0.1 taken.1 is
taken_true old new k Quiet shown taken is = same_true old new taken.0.1 taken.1 is
taken_true old new k Spent shown taken is = same_true old new taken.0.1 taken.1 is
taken_true old new k Release shown taken is = released_true old new k taken.1 taken.2 is

pub lease_true : (old new : Stand) (k : ℕ) (what : List ℕ) → IsShown old.book → IsLeased old new k what → AreTrue old → AreTrue new
lease_true old new k what shown leased is = taken_true old new k leased.turn shown leased.taken is
