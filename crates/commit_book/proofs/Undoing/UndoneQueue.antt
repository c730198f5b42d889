-- The queue after an undo: touched threads leave it, and those that go back come to its tail.
use Rattle.std.proofs.Common.{◌≡◌, ℕ, Bool, true, false, not, ◌&&◌, ◌||◌, nat_eq, List, [], ◌∷◌, ◌++◌, Option, Some, None, IsSome, refl, sym, ap, subst, ◌∙◌}
use Rattle.std.specs.Prelude.{filter, is_some, option_and_then, option_map}
use Rattle.std.specs.List.{IsDistinct, AllByRecursion, list_any}
use Rattle.std.specs.Option.{option_map_or}
use Rattle.std.specs.Ordering.{nat_cmp}
use Rattle.std.specs.Cmp.{nat_eq_equiv}
use Rattle.std.specs.FinMap as map
use Rattle.std.specs.FinMap.{FinMap}
use Rattle.std.proofs.lemmas.Bool.{false≢true, eqb-true, and_parts, not-true}
use Rattle.std.proofs.Math.Bool.{and-false}
use Rattle.std.proofs.lemmas.List.Folds.{list_any-append}
use Rattle.std.proofs.lemmas.Map.Keys.{IsDistinct-head, IsDistinct-tail, IsDistinct-cons}
use Rattle.std.proofs.lemmas.Map.Views.{any-filter_same}
use Rattle.linked_lists.specs.Lists.{is_listed}
use Rattle.linked_lists.proofs.Leaving.{IsDistinct-filter, IsDistinct-nil}
use Rattle.reach_line.specs.Reached.{IsOnce}
use Rattle.thread_slots.specs.Ready.{IsQueueOf}
use Rattle.thread_slots.specs.declared.state.State.TheVariants.{Ready}
use Rattle.thread_slots.specs.Slot.{Slot, restored, is_ready_at, same_state}
use Rattle.restore.specs.declared.line.Line.{Line}
use Rattle.restore.specs.declared.line.Line.TheVariants.{From, Gone}
use Rattle.restore.specs.Left.{LineMap, is_touched, is_back, goes_back, put_back, others, requeued}
use Rattle.restore.proofs.Ordered.{listed_key, once_keys}
use Rattle.journal_laws.proofs.Applying.{or_false}

-- ---- lists in which none stands twice

pub all_apart : (x : ℕ) (xs : List ℕ) → list_any (nat_eq x) xs ≡ false → AllByRecursion (λ y. nat_eq x y ≡ false) xs
all_apart x [] h = tt
all_apart x (y ∷ ys) h = let both = or_false (nat_eq x y) (list_any (nat_eq x) ys) h in (both.0, all_apart x ys both.1)

none_among : (x : ℕ) (xs : List ℕ) → AllByRecursion (λ y. nat_eq x y ≡ false) xs → list_any (nat_eq x) xs ≡ false
none_among x [] all = refl
none_among x (y ∷ ys) all = ap (λ b. b || list_any (nat_eq x) ys) all.0 ∙ none_among x ys all.1

pub once_distinct : (xs : List ℕ) → IsOnce xs → IsDistinct nat_eq xs
once_distinct [] once = IsDistinct-nil
once_distinct (x ∷ xs) once = IsDistinct-cons nat_eq x xs (all_apart x xs once.0) (once_distinct xs once.1)

or_right : (a b : Bool) → b ≡ true → (a || b) ≡ true
or_right true b h = refl
or_right false b h = h

pub distinct_append : (xs ys : List ℕ) → IsDistinct nat_eq xs → IsDistinct nat_eq ys → ((t : ℕ) → is_listed t xs ≡ true → is_listed t ys ≡ false) → IsDistinct nat_eq (xs ++ ys)
distinct_append [] ys one two apart = two
distinct_append (x ∷ xs) ys one two apart =
    IsDistinct-cons nat_eq x (xs ++ ys)
    (all_apart x (xs ++ ys) (list_any-append (nat_eq x) xs ys ∙ ap (λ b. b || list_any (nat_eq x) ys) (none_among x xs (IsDistinct-head nat_eq x xs one)) ∙ apart x (ap (λ b. b || is_listed x xs) (nat_eq_equiv.refl x))))
    (distinct_append xs ys (IsDistinct-tail nat_eq x xs one) two (λ t at. apart t (or_right (nat_eq t x) (is_listed t xs) at)))

-- who is in a part of a list
in_part : (p : ℕ → Bool) (t : ℕ) (xs : List ℕ) → is_listed t (filter p xs) ≡ (p t && is_listed t xs)
in_part p t xs = any-filter_same (nat_eq t) p (p t) (λ k e. ap p (sym (eqb-true t k e))) xs

or_none : (b : Bool) → (b || false) ≡ b
or_none true = refl
or_none false = refl

module _ {C : Type 0} (lines : LineMap) (saved : ℕ → ℕ → Option C) (old new : FinMap nat_cmp (Slot C)) (now : (t : ℕ) → map.get new t ≡ put_back (λ q. saved q t) (map.get lines t) (map.get old t)) where
  abbrev ready : Option (Slot C) → Bool
  ready o = option_map_or (λ (slot : Slot C). same_state Ready slot.state) o false

  put_ready : (control : Option C) (slot : Option (Slot C)) → IsSome slot → IsSome control → ready (option_and_then (λ c. option_map (restored c) slot) control) ≡ true
  put_ready None slot live kept = absurd (false≢true kept)
  put_ready (Some c) None live kept = absurd (false≢true live)
  put_ready (Some c) (Some s) live kept = refl

  line_case : (t : ℕ) → ((q : ℕ) → map.get lines t ≡ Some (From (record { 0 = q })) → IsSome (map.get old t) × IsSome (saved q t)) → (o : Option Line) → map.get lines t ≡ o → ((not (is_some o) && is_ready_at old t) || (is_back o && is_some o)) ≡ is_ready_at new t
  line_case t back None is = or_none (is_ready_at old t) ∙ sym (ap ready (now t ∙ ap (λ l. put_back (λ q. saved q t) l (map.get old t)) is))
  line_case t back (Some Gone) is = sym (ap ready (now t ∙ ap (λ l. put_back (λ q. saved q t) l (map.get old t)) is))
  line_case t back (Some (From q)) is =
      let known = back q.0 is in
      sym (ap ready (now t ∙ ap (λ l. put_back (λ q. saved q t) l (map.get old t)) is) ∙ put_ready (saved q.0 t) (map.get old t) known.0 known.1)

  stays_out : (t : ℕ) (queue : List ℕ) → is_listed t (others (is_touched lines) queue) ≡ true → is_listed t (filter (goes_back lines) (map.keys lines)) ≡ false
  stays_out t queue at =
      let both = and_parts (not (is_touched lines t)) (is_listed t queue) (sym (in_part (λ k. not (is_touched lines k)) t queue) ∙ at) in
      in_part (goes_back lines) t (map.keys lines) ∙ ap (λ b. goes_back lines t && b) (listed_key lines t ∙ not-true (is_touched lines t) both.0) ∙ and-false (goes_back lines t)

  -- after carrying a plan out the queue has each ready thread once
  pub queue_undone : (queue after : List ℕ) → IsQueueOf (is_ready_at old) queue → ((t q : ℕ) → map.get lines t ≡ Some (From (record { 0 = q })) → IsSome (map.get old t) × IsSome (saved q t)) → after ≡ requeued lines queue → IsQueueOf (is_ready_at new) after
  queue_undone queue after shown back is = record {
    once =
        subst (IsDistinct nat_eq) (sym is)
        (distinct_append (others (is_touched lines) queue) (filter (goes_back lines) (map.keys lines))
        (IsDistinct-filter nat_eq (λ t. not (is_touched lines t)) queue shown.once)
        (IsDistinct-filter nat_eq (goes_back lines) (map.keys lines) (once_distinct (map.keys lines) (once_keys lines)))
        (λ t at. stays_out t queue at));
    ready = λ t.
        ap (is_listed t) is
        ∙ list_any-append (nat_eq t) (others (is_touched lines) queue) (filter (goes_back lines) (map.keys lines))
        ∙ ap (λ b. b || is_listed t (filter (goes_back lines) (map.keys lines))) (in_part (λ k. not (is_touched lines k)) t queue ∙ ap (λ b. not (is_touched lines t) && b) (shown.ready t))
        ∙ ap (λ b. (not (is_touched lines t) && is_ready_at old t) || b) (in_part (goes_back lines) t (map.keys lines) ∙ ap (λ b. goes_back lines t && b) (listed_key lines t))
        ∙ line_case t (back t) (map.get lines t) refl;
  }
