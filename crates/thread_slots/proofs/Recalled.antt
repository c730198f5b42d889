-- The leased threads come back into the queue, the least number first.
use Rattle.std.proofs.Common.{◌≡◌, ◌≢◌, ℕ, zero, suc, ◌+◌, ◌≤◌, ◌<◌, Bool, true, false, cond, ◌||◌, nat_eq, nat_lt, List, [], ◌∷◌, ◌++◌, length, min, Option, Some, None, IsSome, option_map, refl, sym, ap, ◌∙◌, arith, append_assoc}
use Rattle.std.specs.Option.{option_map_or}
use Rattle.std.specs.Ordering.{nat_cmp}
use Rattle.std.specs.FinMap.{FinMap, get}
use Rattle.std.proofs.lemmas.Bool.Decides.{Decides-eqb, nat_tests}
use Rattle.std.proofs.lemmas.List.{append-nil}
use Rattle.linked_lists.specs.Lists.{is_listed, following, without}
use Rattle.linked_lists.proofs.Leaving.{without-absent}
use Rattle.thread_slots.specs.declared.counts.StateCounts.{StateCounts}
use Rattle.thread_slots.specs.declared.entries.Entry.{Entry}
use Rattle.thread_slots.specs.declared.state.State.{State}
use Rattle.thread_slots.specs.declared.state.State.TheVariants.{Ready, Leased, Parked, Ended}
use Rattle.thread_slots.specs.Queues.{Queues}
use Rattle.thread_slots.specs.Ready.{IsLeast, numbers}
use Rattle.thread_slots.specs.Slot.{Slot, Seen, same_state, is_in, changed, recalled}
use Rattle.thread_slots.specs.Layout.{live, IsLaidOut}
use Rattle.thread_slots.proofs.CallerLemmas.{get-changed}
use Rattle.thread_slots.proofs.Kept.{is_in-changed}
use Rattle.thread_slots.proofs.Numbered.{cases_eq, apart, alike}
use Rattle.thread_slots.proofs.Placed.{number_of_live}

-- ---- the least of a list

cases_lt : {P : Type 0} (m n : ℕ) → (m < n → P) → (n ≤ m → P) → P
cases_lt {P} m n below above =
    elim (nat_lt m n) as (λ b. nat_lt m n ≡ b → P) [
      | true ↦ λ e. below (grind (arith, nat_tests))
      | false ↦ λ e. above (grind (arith, nat_tests))
    ] refl

pub least_listed : (a b m : ℕ) (list : List ℕ) → m ≡ min a b → is_listed a list ≡ true → is_listed b list ≡ true → is_listed m list ≡ true
least_listed a b m list is first second =
    cases_lt a b
    (λ low. let e : m ≡ a = omega arith in ap (λ k. is_listed k list) e ∙ first)
    (λ high. let e : m ≡ b = omega arith in ap (λ k. is_listed k list) e ∙ second)

-- the least up to one place more
pub least_more : (t a p m u : ℕ) (list : List ℕ) → m ≡ min a p → following t list ≡ p ∷ following p list → is_listed u (following p list) ≡ false → (is_listed u (following t list) ≡ false → a ≤ u) → m ≤ u
least_more t a p m u list is rest none least =
    elim (nat_eq u p) as (λ b. nat_eq u p ≡ b → m ≤ u) [
      | true ↦ λ e. (let here : u ≡ p = (Decides-eqb u p).0 e in omega arith)
      | false ↦ λ e. (let low : a ≤ u = least (ap (is_listed u) rest ∙ ap (λ b. b || is_listed u (following p list)) e ∙ none) in omega arith)
    ] refl

-- ---- numbers that pass

numbers-none : (p : ℕ → Bool) (n : ℕ) → ((u : ℕ) → u < n → p u ≡ false) → numbers p n ≡ []
numbers-none p zero none = refl
numbers-none p (suc n) none = ap (λ ns. ns ++ cond (p n) (n ∷ []) []) (numbers-none p n (λ u low. none u (omega arith))) ∙ ap (λ b. cond b (n ∷ []) []) (none n (omega arith))

numbers-least : (p q : ℕ → Bool) (t n : ℕ) → t < n → p t ≡ true → ((u : ℕ) → u < t → p u ≡ false) → q t ≡ false → ((u : ℕ) → u ≢ t → q u ≡ p u) → numbers p n ≡ t ∷ numbers q n
numbers-least p q t zero low there least gone rest = absurd (omega arith)
numbers-least p q t (suc n) low there least gone rest =
    cases_eq t n
    (λ here.
    let before : numbers p n ≡ [] = numbers-none p n (λ u below. least u (omega arith)) in
    let after : numbers q n ≡ [] = numbers-none q n (λ u below. rest u (λ e. omega arith) ∙ least u (omega arith)) in
    ap (λ ns. ns ++ cond (p n) (n ∷ []) []) before ∙ ap (λ b. cond b (n ∷ []) []) (ap p (sym here) ∙ there) ∙ ap (λ k. k ∷ []) (sym here)
    ∙ sym (ap (λ ns. t ∷ (ns ++ cond (q n) (n ∷ []) [])) after ∙ ap (λ b. t ∷ cond b (n ∷ []) []) (ap q (sym here) ∙ gone)))
    (λ away.
    ap (λ ns. ns ++ cond (p n) (n ∷ []) []) (numbers-least p q t n (omega arith) there least gone rest)
    ∙ ap (λ b. t ∷ (numbers q n ++ cond b (n ∷ []) [])) (sym (rest n (λ e. away (sym e)))))

-- ---- threads that are leased

not_ready : (s : State) → same_state Leased s ≡ true → same_state Ready s ≡ false
not_ready Ready e = cc
not_ready Leased e = refl
not_ready Parked e = cc
not_ready Ended e = cc

not_below : (t u : ℕ) (b : Bool) → u < t → (b ≡ true → t ≤ u) → b ≡ false
not_below t u true low least = absurd (let h : t ≤ u = least refl in omega arith)
not_below t u false low least = refl

module _ {C : Type 0} where
  -- the thread Ready, whatever it was
  abbrev ready_again : Slot C → Slot C
  ready_again slot = record { control = slot.control; generation = slot.generation; state = Ready }

  pub leased_there : (threads : FinMap nat_cmp (Slot C)) (t : ℕ) → is_in Leased threads t ≡ true → IsSome (get threads t)
  leased_there threads t leased =
      elim (get threads t) as (λ o. option_map_or (λ (slot : Slot C). same_state Leased slot.state) o false ≡ true → IsSome o) [
        | None ↦ λ e. cc
        | Some slot ↦ λ e. refl
      ] leased

  unready : (threads : FinMap nat_cmp (Slot C)) (t : ℕ) → is_in Leased threads t ≡ true → is_in Ready threads t ≡ false
  unready threads t leased =
      elim (get threads t) as (λ o. option_map_or (λ (slot : Slot C). same_state Leased slot.state) o false ≡ true → option_map_or (λ (slot : Slot C). same_state Ready slot.state) o false ≡ false) [
        | None ↦ λ e. refl
        | Some slot ↦ λ e. not_ready slot.state e
      ] leased

  again : (o : Option (Slot C)) → option_map_or (λ (slot : Slot C). same_state Leased slot.state) o false ≡ true → option_map recalled (option_map ready_again o) ≡ option_map recalled o
  again None e = refl
  again (Some slot) e = sym (ap (λ b. Some (cond b (ready_again slot) slot)) e)

  -- a thread that was recalled is as if it were still to be
  pub recalled_once : (threads : FinMap nat_cmp (Slot C)) (t u : ℕ) → is_in Leased threads t ≡ true → option_map recalled (get (changed threads t ready_again) u) ≡ option_map recalled (get threads u)
  recalled_once threads t u leased =
      ap (option_map recalled) (get-changed threads t u ready_again)
      ∙ cases_eq t u
      (λ here. ap (λ b. option_map recalled (cond b (option_map ready_again (get threads t)) (get threads u))) (alike t u here) ∙ again (get threads t) leased ∙ ap (λ k. option_map recalled (get threads k)) here)
      (λ away. ap (λ b. option_map recalled (cond b (option_map ready_again (get threads t)) (get threads u))) (apart t u away))

  -- t is the leased thread with the least number
  pub record IsLeastLeased (t : ℕ) (s : Seen C) : Type 0 where
    pub leased : is_in Leased s.threads t ≡ true
    pub low : t < s.next
    pub least : (u : ℕ) → u < t → is_in Leased s.threads u ≡ false
    pub unqueued : without t s.queue ≡ s.queue

  pub least_from_layout : (es : List (Option (Entry C))) (queues : Queues) (counts : StateCounts) (spare capacity t : ℕ) → IsLaidOut (live es) queues counts (length es) spare capacity → IsLeast t queues.leased → IsLeastLeased t (record { threads = live es; queue = queues.ready; next = length es + 1; spare = spare })
  least_from_layout es queues counts spare capacity t is first =
      let leased : is_in Leased (live es) t ≡ true = sym (is.leased.ready t) ∙ first.there in
      record {
        leased = leased;
        low = (number_of_live es t (leased_there (live es) t leased)).1;
        least = λ u low. not_below t u (is_in Leased (live es) u) low (λ e. first.least u (is.leased.ready u ∙ e));
        unqueued = without-absent t queues.ready (is.queue.ready t ∙ unready (live es) t leased);
      }

  pub none_from_layout : (es : List (Option (Entry C))) (queues : Queues) (counts : StateCounts) (spare capacity t : ℕ) → IsLaidOut (live es) queues counts (length es) spare capacity → queues.leased ≡ [] → is_in Leased (live es) t ≡ false
  none_from_layout es queues counts spare capacity t is none = sym (is.leased.ready t) ∙ ap (is_listed t) none

  -- one leased thread fewer
  pub recall_numbers : (s s' : Seen C) (t : ℕ) → IsLeastLeased t s → s'.threads ≡ changed s.threads t (λ slot. record slot { state = Ready }) → s'.next ≡ s.next → numbers (is_in Leased s.threads) s.next ≡ t ∷ numbers (is_in Leased s'.threads) s'.next
  recall_numbers s s' t first threads next =
      let is : (u : ℕ) → is_in Leased s'.threads u ≡ cond (nat_eq t u) false (is_in Leased s.threads u) = λ u. ap (λ m. is_in Leased m u) threads ∙ is_in-changed Leased s.threads t u (λ slot. record slot { state = Ready }) Ready (leased_there s.threads t first.leased) (λ slot. refl) in
      numbers-least (is_in Leased s.threads) (is_in Leased s'.threads) t s.next first.low first.leased first.least
      (is t ∙ ap (λ b. cond b false (is_in Leased s.threads t)) (alike t t refl))
      (λ u away. is u ∙ ap (λ b. cond b false (is_in Leased s.threads u)) (apart t u (λ e. away (sym e))))
      ∙ ap (λ n. t ∷ numbers (is_in Leased s'.threads) n) (sym next)

  pub recall_queue : (s s' : Seen C) (t : ℕ) → IsLeastLeased t s → s'.threads ≡ changed s.threads t (λ slot. record slot { state = Ready }) → s'.queue ≡ without t s.queue ++ t ∷ [] → s'.next ≡ s.next → s'.queue ++ numbers (is_in Leased s'.threads) s'.next ≡ s.queue ++ numbers (is_in Leased s.threads) s.next
  recall_queue s s' t first threads queue next =
      ap (λ q. q ++ numbers (is_in Leased s'.threads) s'.next) (queue ∙ ap (λ q. q ++ t ∷ []) first.unqueued)
      ∙ append_assoc s.queue (t ∷ []) (numbers (is_in Leased s'.threads) s'.next)
      ∙ ap (λ ns. s.queue ++ ns) (sym (recall_numbers s s' t first threads next))

  -- at the end
  pub none_left : (threads : FinMap nat_cmp (Slot C)) (n : ℕ) (queue : List ℕ) → ((t : ℕ) → is_in Leased threads t ≡ false) → queue ++ numbers (is_in Leased threads) n ≡ queue
  none_left threads n queue none = ap (λ ns. queue ++ ns) (numbers-none (is_in Leased threads) n (λ u low. none u)) ∙ append-nil queue
