-- The queue once threads came to its tail.
use Rattle.std.proofs.Common.{◌≡◌, ℕ, Bool, true, false, cond, not, nat_eq, List, [], ◌∷◌, ◌++◌, Some, refl, sym, ap, ◌∙◌, append_assoc}
use Rattle.std.specs.Prelude.{filter, option_map, if◌then◌else◌}
use Rattle.std.specs.Option.{option_map_or}
use Rattle.std.specs.Cmp.{nat_eq_equiv}
use Rattle.std.specs.Ordering.{nat_cmp}
use Rattle.std.specs.FinMap as map
use Rattle.std.specs.FinMap.{FinMap}
use Rattle.std.proofs.lemmas.List.Elements.{filter-append}
use Rattle.linked_lists.specs.Lists.{is_listed, without}
use Rattle.linked_lists.proofs.Leaving.{without-absent}
use Rattle.language.proofs.Applying.{get_inserted}
use Rattle.step_eval.specs.ControlView.{ControlView}
use Rattle.thread_slots.specs.declared.state.State.{State}
use Rattle.thread_slots.specs.declared.state.State.TheVariants.{Ended}
use Rattle.thread_slots.specs.Slot.{Slot, changed, started, is_in, same_state}
use Rattle.commit_book.proofs.Threads.Lending.{get-changed}
use Rattle.commit_book.proofs.Threads.Waiting.{flipped}
use Rattle.commit_book.proofs.Threads.Standing.{moved}
use Rattle.commit_book.proofs.Threads.Adding.{resting_state, resting_ended}
use Rattle.commit_book.proofs.Threads.Going.{get_other, get_besides}

-- one at the tail, if it is so
abbrev pub tail_if : Bool → ℕ → List ℕ
tail_if b t = cond b (t ∷ []) []

-- those of these who haven't ended
abbrev pub going : FinMap nat_cmp (Slot ControlView) → List ℕ → List ℕ
going threads ts = filter (λ u. not (is_in Ended threads u)) ts

resting_goes : (b : Bool) → not (same_state Ended (resting_state b)) ≡ not b
resting_goes b = ap not (resting_ended b)

tail_unless : (b : Bool) (t : ℕ) → (if b then [] else t ∷ []) ≡ tail_if (not b) t
tail_unless true t = refl
tail_unless false t = refl

one_going : (threads : FinMap nat_cmp (Slot ControlView)) (t : ℕ) (b : Bool) → not (is_in Ended threads t) ≡ b → tail_if b t ≡ going threads (t ∷ [])
one_going threads t b is = ap (λ k. tail_if k t) (sym is)

two_going : (threads : FinMap nat_cmp (Slot ControlView)) (u t : ℕ) (a b : Bool) → not (is_in Ended threads u) ≡ a → not (is_in Ended threads t) ≡ b → tail_if a u ++ tail_if b t ≡ going threads (u ∷ t ∷ [])
two_going threads u t a b is it =
    ap (λ k. tail_if k u ++ tail_if b t) (sym is)
    ∙ ap (λ k. tail_if (not (is_in Ended threads u)) u ++ tail_if k t) (sym it)
    ∙ first (not (is_in Ended threads u))
  where
    first : (k : Bool) → tail_if k u ++ going threads (t ∷ []) ≡ cond k (u ∷ going threads (t ∷ [])) (going threads (t ∷ []))
    first true = refl
    first false = refl

without_other : (t u : ℕ) (b : Bool) → nat_eq t u ≡ false → without t (tail_if b u) ≡ tail_if b u
without_other t u true apart = ap (λ k. cond (not k) (u ∷ []) []) apart
without_other t u false apart = refl

-- t leaves, where u came to the tail
without_tail : (t u : ℕ) (b : Bool) (q : List ℕ) → nat_eq t u ≡ false → without t (q ++ tail_if b u) ≡ without t q ++ tail_if b u
without_tail t u b q apart = filter-append (λ k. not (nat_eq t k)) q (tail_if b u) ∙ ap (λ xs. without t q ++ xs) (without_other t u b apart)

ended_here : (threads : FinMap nat_cmp (Slot ControlView)) (t : ℕ) (c : ControlView) (st : State) (slot : Slot ControlView) → map.get threads t ≡ Some slot → is_in Ended (changed threads t (moved c st)) t ≡ same_state Ended st
ended_here threads t c st slot found =
    ap (λ o. option_map_or (λ (k : Slot ControlView). same_state Ended k.state) o false)
    (get-changed threads t t (moved c st) ∙ ap (λ b. cond b (option_map (moved c st) (map.get threads t)) (map.get threads t)) (nat_eq_equiv.refl t) ∙ ap (option_map (moved c st)) found)

ended_there : (threads new : FinMap nat_cmp (Slot ControlView)) (u : ℕ) → map.get new u ≡ map.get threads u → is_in Ended new u ≡ is_in Ended threads u
ended_there threads new u same = ap (λ o. option_map_or (λ (k : Slot ControlView). same_state Ended k.state) o false) same

-- one thread came to the tail, unless it has ended
pub queue_one : (threads new : FinMap nat_cmp (Slot ControlView)) (queue after : List ℕ) (t : ℕ) (c : ControlView) (ended : Bool) (slot : Slot ControlView) → map.get threads t ≡ Some slot
    → new ≡ changed threads t (moved c (resting_state ended)) → after ≡ without t queue ++ (if ended then [] else t ∷ []) → after ≡ without t queue ++ going new (t ∷ [])
queue_one threads new queue after t c ended slot found threads_are queue_is =
    queue_is
    ∙ ap (λ xs. without t queue ++ xs) (tail_unless ended t)
    ∙ ap (λ xs. without t queue ++ xs)
    (one_going new t (not ended) (ap (λ m. not (is_in Ended m t)) threads_are ∙ ap not (ended_here threads t c (resting_state ended) slot found) ∙ resting_goes ended))

-- u came to the tail of a queue in which it wasn't, and then t; those who have ended didn't
two_come : (new : FinMap nat_cmp (Slot ControlView)) (queue between after : List ℕ) (t u : ℕ) (a b : Bool) → nat_eq t u ≡ false → not (is_in Ended new u) ≡ a → not (is_in Ended new t) ≡ b
    → between ≡ queue ++ tail_if a u → after ≡ without t between ++ tail_if b t → after ≡ without t queue ++ going new (u ∷ t ∷ [])
two_come new queue between after t u a b apart at_u at_t first second =
    second
    ∙ ap (λ xs. without t xs ++ tail_if b t) first
    ∙ ap (λ xs. xs ++ tail_if b t) (without_tail t u a queue apart)
    ∙ append_assoc (without t queue) (tail_if a u) (tail_if b t)
    ∙ ap (λ xs. without t queue ++ xs) (two_going new u t a b at_u at_t)

-- the partner u comes first, who wasn't in the queue, and then t
pub queue_met : (threads new : FinMap nat_cmp (Slot ControlView)) (queue between after : List ℕ) (t u : ℕ) (c d : ControlView) (ended other : Bool) (slot mate : Slot ControlView) → nat_eq t u ≡ false
    → map.get threads t ≡ Some slot → map.get threads u ≡ Some mate → is_listed u queue ≡ false
    → new ≡ changed (changed threads u (moved d (resting_state other))) t (moved c (resting_state ended))
    → between ≡ without u queue ++ (if other then [] else u ∷ []) → after ≡ without t between ++ (if ended then [] else t ∷ [])
    → after ≡ without t queue ++ going new (u ∷ t ∷ [])
queue_met threads new queue between after t u c d ended other slot mate apart found there absent threads_are first second =
    let half : FinMap nat_cmp (Slot ControlView) = changed threads u (moved d (resting_state other)) in
    two_come new queue between after t u (not other) (not ended) apart
    (ap (λ m. not (is_in Ended m u)) threads_are
    ∙ ap not (ended_there half (changed half t (moved c (resting_state ended))) u (get_other half t u (moved c (resting_state ended)) (flipped u t ∙ apart)) ∙ ended_here threads u d (resting_state other) mate there)
    ∙ resting_goes other)
    (ap (λ m. not (is_in Ended m t)) threads_are
    ∙ ap not (ended_here half t c (resting_state ended) slot (get_other threads u t (moved d (resting_state other)) apart ∙ found))
    ∙ resting_goes ended)
    (first ∙ ap (λ xs. xs ++ (if other then [] else u ∷ [])) (without-absent u queue absent) ∙ ap (λ xs. queue ++ xs) (tail_unless other u))
    (second ∙ ap (λ xs. without t between ++ xs) (tail_unless ended t))

-- the child u comes first, and then t
pub queue_started : (threads new : FinMap nat_cmp (Slot ControlView)) (queue between after : List ℕ) (t u : ℕ) (c d : ControlView) (ended over : Bool) (slot : Slot ControlView) → nat_eq t u ≡ false
    → map.get threads t ≡ Some slot → new ≡ changed (map.insert threads u (started d over)) t (moved c (resting_state ended))
    → between ≡ queue ++ (if over then [] else u ∷ []) → after ≡ without t between ++ (if ended then [] else t ∷ [])
    → after ≡ without t queue ++ going new (u ∷ t ∷ [])
queue_started threads new queue between after t u c d ended over slot apart found threads_are first second =
    let half : FinMap nat_cmp (Slot ControlView) = map.insert threads u (started d over) in
    two_come new queue between after t u (not over) (not ended) apart
    (ap (λ m. not (is_in Ended m u)) threads_are
    ∙ ap not (ended_there half (changed half t (moved c (resting_state ended))) u (get_other half t u (moved c (resting_state ended)) (flipped u t ∙ apart)) ∙ child_ended))
    (ap (λ m. not (is_in Ended m t)) threads_are
    ∙ ap not (ended_here half t c (resting_state ended) slot (get_besides threads u t (started d over) apart ∙ found))
    ∙ resting_goes ended)
    (first ∙ ap (λ xs. queue ++ xs) (tail_unless over u)) (second ∙ ap (λ xs. without t between ++ xs) (tail_unless ended t))
  where
    child_ended : is_in Ended (map.insert threads u (started d over)) u ≡ over
    child_ended =
        ap (λ o. option_map_or (λ (k : Slot ControlView). same_state Ended k.state) o false)
        (get_inserted threads u (started d over) u ∙ ap (λ b. cond b (Some (started d over)) (map.get threads u)) (nat_eq_equiv.refl u))
        ∙ resting_ended over
