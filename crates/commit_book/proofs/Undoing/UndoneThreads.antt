-- What threads are and do after an undo, from what carrying it out leaves of their slots.
use Rattle.std.proofs.Common.{◌≡◌, inl, inr, ℕ, suc, ◌+◌, Bool, true, false, cond, ◌&&◌, ◌||◌, nat_eq, List, [], ◌∷◌, ◌++◌, Option, Some, None, refl, sym, ap, subst, ◌∙◌, arith}
use Rattle.std.specs.Prelude.{IfSome, option_map}
use Rattle.std.specs.Ordering.{nat_cmp}
use Rattle.std.specs.FinMap as map
use Rattle.std.specs.FinMap.{FinMap}
use Rattle.std.proofs.lemmas.Bool.{false≢true}
use Rattle.stab_journal.specs.declared.event.Event.{Event}
use Rattle.stab_journal.specs.declared.event.Label.{Label}
use Rattle.stab_journal.specs.declared.event.Label.TheVariants.{Spawn, Comm, Get, Enter}
use Rattle.stab_journal.specs.declared.event.Numbered.{Numbered}
use Rattle.stab_journal.specs.Floor.{is_enter}
use Rattle.stab_journal.specs.Generation.{acts_in, generation}
use Rattle.stab_journal.specs.Journal.{RiseFrom}
use Rattle.stab_journal.specs.Label.{actors, spawned, touched}
use Rattle.stab_journal.specs.Names.{has, is_at}
use Rattle.stab_journal.specs.Reached.{reached}
use Rattle.stab_journal.specs.Surviving.{run_of}
use Rattle.thread_slots.specs.declared.state.State.TheVariants.{Parked}
use Rattle.thread_slots.specs.Slot.{Slot, restored, same_state}
use Rattle.rendezvous.specs.declared.offer.Offer.{Offer}
use Rattle.checkpoint_store.specs.Saved.{place_cmp}
use Rattle.language.specs.Steps.{Table}
use Rattle.journal_laws.specs.Lines.{is_meeting}
use Rattle.journal_laws.specs.Lost.{is_hit}
use Rattle.journal_laws.proofs.Applying.{or_false}
use Rattle.journal_laws.proofs.FirstLost.{first_lost}
use Rattle.journal_laws.proofs.Held.{only_entry}
use Rattle.journal_laws.proofs.Chains.{or_right}
use Rattle.stab_journal.specs.Floor.{is_entered}
use Rattle.commit_book.specs.Doing.{IsDoing, AreDoing, AllParked}
use Rattle.commit_book.specs.Generations.{AreGenerations}
use Rattle.commit_book.specs.Run.{saves}
use Rattle.commit_book.specs.Saved.{saved_of, AllSaved}
use Rattle.commit_book.specs.Threads.{AllControls}
use Rattle.commit_book.proofs.Keeping.EventSteps.{generation_snoc}
use Rattle.commit_book.proofs.Undoing.Undone.{AreRestored, untouched, unmade, from, line_of}
use Rattle.commit_book.proofs.Undoing.UndoneJournal.{undo_of}

-- a thread is back at what was saved of it before the step q
pub record IsBack {C : Type 0} (saved : FinMap place_cmp C) (old new : Option (Slot C)) (q t : ℕ) : Type 0 where
  pub slot : Slot C
  pub control : C
  pub was : old ≡ Some slot
  pub kept : saved_of saved q t ≡ Some control
  pub now : new ≡ Some (restored control slot)

module _ {C : Type 0} (gone : ℕ → Bool) (run : List Numbered) (saved : FinMap place_cmp C) (old new : FinMap nat_cmp (Slot C)) where
  -- what an undo leaves of the threads: those that lose nothing stay, those that a lost step spawned go, and each other one is back before its first lost step
  pub record AreCarried : Type 0 where
    pub untouched : (t : ℕ) → is_hit gone t run ≡ false → map.get new t ≡ map.get old t
    pub unmade : (t : ℕ) (before : List Numbered) (n : Numbered) (after : List Numbered) → run ≡ before ++ n ∷ after → gone n.seq.0 ≡ true → is_at (spawned n.label) t ≡ true → map.get new t ≡ None
    pub back : (t : ℕ) (before : List Numbered) (n : Numbered) (after : List Numbered) → run ≡ before ++ n ∷ after → is_hit gone t before ≡ false → gone n.seq.0 ≡ true → has (actors n.label) t ≡ true → IsBack saved (map.get old t) (map.get new t) n.seq.0 t

  -- a property of each thread, by what it lost
  each_line : (P : Option (Slot C) → Type 0) (t : ℕ) → AreCarried → (is_hit gone t run ≡ false → P (map.get old t)) → P None
      → ((before : List Numbered) (n : Numbered) (after : List Numbered) → run ≡ before ++ n ∷ after → is_hit gone t before ≡ false → gone n.seq.0 ≡ true → has (actors n.label) t ≡ true
      → (b : IsBack saved (map.get old t) (map.get new t) n.seq.0 t) → P (Some (restored b.control b.slot)))
      → P (map.get new t)
  each_line P t r same none back = elim (line_of gone t run) [
    | (untouched miss) ↦ subst P (sym (r.untouched t miss)) (same miss)
    | (unmade before n after cut miss goes at spawns) ↦ subst P (sym (r.unmade t before n after cut goes spawns)) none
    | (from before n after cut miss goes at acts) ↦
        let b = r.back t before n after cut miss goes acts in
        subst P (sym b.now) (back before n after cut miss goes acts b)
  ]

  -- the controls are those of before, or saved ones
  pub fit_undone : (P : C → Type 0) → AreCarried → AllSaved P saved → AllControls P old → AllControls P new
  fit_undone P r kept all t = each_line (λ o. IfSome o (λ s. P s.control)) t r (λ miss. all t) tt
      (λ before n after cut miss goes acts b. subst (λ o. IfSome o P) b.kept (kept n.seq.0 t))

  -- who is parked was so before
  pub parked_undone : (P : C → Type 0) → AreCarried → AllParked P old → AllParked P new
  parked_undone P r all t = each_line (λ o. IfSome o (λ s. same_state Parked s.state ≡ true → P s.control)) t r (λ miss. all t) tt
      (λ before n after cut miss goes acts b. λ parked. absurd (false≢true parked))

  -- who is back is ready, and isn't over
  pub doing_undone : (over : C → Bool) (offered : C → Option Offer) → AreCarried
      → ((t : ℕ) (before : List Numbered) (n : Numbered) (after : List Numbered) → run ≡ before ++ n ∷ after → gone n.seq.0 ≡ true → has (actors n.label) t ≡ true → IfSome (saved_of saved n.seq.0 t) (λ c. over c ≡ false))
      → AreDoing over offered old → AreDoing over offered new
  doing_undone over offered r going all t = each_line (λ o. IfSome o (IsDoing over offered)) t r (λ miss. all t) tt
      (λ before n after cut miss goes acts b. record {
        ended = sym (subst (λ o. IfSome o (λ c. over c ≡ false)) b.kept (going t before n after cut goes acts));
        parked = λ parked. absurd (false≢true parked);
      })

  -- the controls, as the law's lemma asks
  pub restored_undone : {E : Type 0} (expr : C → E) (effect : Table E) → AreCarried → AreRestored expr effect gone run saved old new
  restored_undone expr effect r = record {
    untouched = r.untouched;
    unmade = r.unmade;
    restored = λ t before n after cut miss goes acts. let b = r.back t before n after cut miss goes acts in ap (option_map (λ (s : Slot C). s.control)) b.now ∙ sym b.kept;
  }

-- ---- generations

acts_touches : (l : Label) (t : ℕ) → has (touched l) t ≡ false → has (actors l) t ≡ false
acts_touches (Spawn a b) t h = elim (nat_eq t a.0) as (λ c. cond c true (cond (nat_eq t b.0) true false) ≡ false → cond c true false ≡ false) [ true ↦ λ h. h | false ↦ λ h. refl ] h
acts_touches _ t h = h

and_less : (g a b : Bool) → (a ≡ false → b ≡ false) → (g && a) ≡ false → (g && b) ≡ false
and_less true a b f h = f h
and_less false a b f h = refl

-- a thread that loses nothing acts in nothing that goes
misses : (gone : ℕ → Bool) (t : ℕ) (run : List Numbered) → is_hit gone t run ≡ false → acts_in gone t run ≡ false
misses gone t [] h = refl
misses gone t (n ∷ ns) h =
    let parts = or_false (gone n.seq.0 && has (touched n.label) t) (is_hit gone t ns) h in
    ap (λ b. b || acts_in gone t ns) (and_less (gone n.seq.0) (has (touched n.label) t) (has (actors n.label) t) (acts_touches n.label t) parts.0) ∙ misses gone t ns parts.1

-- a thread that acts in a step that goes
acts_here : (gone : ℕ → Bool) (t : ℕ) (before : List Numbered) (n : Numbered) (after : List Numbered) → gone n.seq.0 ≡ true → has (actors n.label) t ≡ true → acts_in gone t (before ++ n ∷ after) ≡ true
acts_here gone t [] n after goes acts = ap (λ b. (b && has (actors n.label) t) || acts_in gone t after) goes ∙ ap (λ b. b || acts_in gone t after) acts
acts_here gone t (k ∷ before) n after goes acts = or_right (gone k.seq.0 && has (actors k.label) t) _ (acts_here gone t before n after goes acts)

-- an undo raises the generation of exactly those threads that act in what it takes away
pub generations_undone : {C : Type 0} (events : List Event) (worker u m : ℕ) (saved : FinMap place_cmp C) (old new : FinMap nat_cmp (Slot C))
    → AreCarried (has (reached (run_of events) m)) (run_of events) saved old new → AreGenerations old events → AreGenerations new (events ++ undo_of worker u m ∷ [])
generations_undone {C} events worker u m saved old new r all t =
    let run = run_of events in
    let gone : ℕ → Bool = has (reached run m) in
    let more : generation t (events ++ undo_of worker u m ∷ []) ≡ cond (acts_in gone t run) (suc (generation t events)) (generation t events) = generation_snoc t 1 [] events (undo_of worker u m) 0 in
    subst (λ (g : ℕ). IfSome (map.get new t) (λ s. s.generation ≡ g)) (sym more)
    (each_line gone run saved old new (λ (o : Option (Slot C)). IfSome o (λ s. s.generation ≡ cond (acts_in gone t run) (suc (generation t events)) (generation t events))) t r
    (λ miss. subst (λ (b : Bool). IfSome (map.get old t) (λ s. s.generation ≡ cond b (suc (generation t events)) (generation t events))) (sym (misses gone t run miss)) (all t))
    tt
    (λ before n after cut miss goes acts b.
    let here : acts_in gone t run ≡ true = ap (acts_in gone t) cut ∙ acts_here gone t before n after goes acts in
    let was : b.slot.generation ≡ generation t events = subst (λ (o : Option (Slot C)). IfSome o (λ s. s.generation ≡ generation t events)) b.was (all t) in
    (let up : b.slot.generation + 1 ≡ suc (generation t events) = omega arith in up) ∙ sym (ap (λ c. cond c (suc (generation t events)) (generation t events)) here)))

-- ---- the first step that a thread loses

enter_saves : (l : Label) → is_enter l ≡ true → saves l ≡ true
enter_saves (Enter t) h = refl
enter_saves _ h = absurd (false≢true h)

meeting_saves : (l : Label) → is_meeting l ≡ true → saves l ≡ true
meeting_saves (Comm s r c) h = refl
meeting_saves (Get t r) h = refl
meeting_saves _ h = absurd (false≢true h)

-- it is one before which the controls of its actors are saved
pub first_saved : (run : List Numbered) (m : ℕ) → RiseFrom 1 run → is_entered m run ≡ true → (t : ℕ) (before : List Numbered) (n : Numbered) (after : List Numbered) → run ≡ before ++ n ∷ after
    → is_hit (has (reached run m)) t before ≡ false → has (reached run m) n.seq.0 ≡ true → has (actors n.label) t ≡ true → saves n.label ≡ true
first_saved run m rise entered t before n after cut miss goes acts = elim (first_lost run m 1 t rise before n after cut goes acts miss) [
  | (inl at) ↦ enter_saves n.label (only_entry run m rise entered before n after cut at)
  | (inr meets) ↦ meeting_saves n.label meets
]
