-- Steps that are taken out of one thread after the other.
use Rattle.std.proofs.Common.{◌≡◌, ◌⊎◌, inl, inr, ℕ, ◌≤◌, Bool, true, false, cond, not, ◌&&◌, ◌||◌, nat_eq, List, [], ◌∷◌, ◌++◌, refl, sym, ap, subst, ◌∙◌, arith}
use Rattle.std.specs.Prelude.{nat_le, filter}
use Rattle.std.specs.FinMap as map
use Rattle.std.specs.List.{AllByRecursion}
use Rattle.std.proofs.lemmas.Bool.Decides.{nat_tests}
use Rattle.std.proofs.lemmas.List.Folds.{list_any-append}
use Rattle.linked_lists.specs.Lists.{is_listed}
use Rattle.own_steps.specs.Own.{Seen, steps_of}
use Rattle.reach_line.specs.MarkList.{numbers}
use Rattle.restore.specs.Left.{LineMap, is_touched}
use Rattle.restore.proofs.Ordered.{listed_key}
use Rattle.stab_base.specs.declared.numbers.Seq.{Seq}
use Rattle.commit_book.specs.declared.rollback.Rollback.{Rollback}
use Rattle.commit_book.specs.OwnSteps.{IsGathered, IsGatheredFrom, Rises, line_number}
use Rattle.commit_book.proofs.Undoing.GatheredSteps.{same_is}

-- what is listed of what passes
listed-filter : (p : ℕ → Bool) (qs : List ℕ) (q : ℕ) → is_listed q (filter p qs) ≡ (is_listed q qs && p q)
listed-filter p [] q = refl
listed-filter p (r ∷ qs) q =
    elim (p r) as (λ b. p r ≡ b → is_listed q (cond b (r ∷ filter p qs) (filter p qs)) ≡ ((nat_eq q r || is_listed q qs) && p q)) [
      | true ↦ λ pass. ap (λ b. nat_eq q r || b) (listed-filter p qs q) ∙ joined (nat_eq q r) (is_listed q qs) (p q) (λ here. ap p (same_is q r here) ∙ pass)
      | false ↦ λ fail. listed-filter p qs q ∙ left (nat_eq q r) (is_listed q qs) (p q) (λ here. ap p (same_is q r here) ∙ fail)
    ] refl
  where
    joined : (a b c : Bool) → (a ≡ true → c ≡ true) → (a || (b && c)) ≡ ((a || b) && c)
    joined true b c is = sym (is refl)
    joined false b c is = refl

    left : (a b c : Bool) → (a ≡ true → c ≡ false) → (b && c) ≡ ((a || b) && c)
    left true true c is = refl
    left true false c is = sym (is refl)
    left false b c is = refl

above-filter : (p : ℕ → Bool) (low : ℕ) (qs : List ℕ) → AllByRecursion (λ q. low ≤ q) qs → AllByRecursion (λ q. low ≤ q) (filter p qs)
above-filter p low [] all = tt
above-filter p low (q ∷ qs) all =
    elim (p q) as (λ b. AllByRecursion (λ r. low ≤ r) (cond b (q ∷ filter p qs) (filter p qs))) [
      | true ↦ (all.0, above-filter p low qs all.1)
      | false ↦ above-filter p low qs all.1
    ]

rises-filter : (p : ℕ → Bool) (qs : List ℕ) → Rises qs → Rises (filter p qs)
rises-filter p [] up = tt
rises-filter p (q ∷ qs) up =
    elim (p q) as (λ b. Rises (cond b (q ∷ filter p qs) (filter p qs))) [
      | true ↦ (above-filter p q qs up.0, rises-filter p qs up.1)
      | false ↦ rises-filter p qs up.1
    ]

filter-twice : (a : Bool) (line : ℕ) (qs : List ℕ) → filter (λ q. not (nat_le line q)) (filter (λ q. not (a && nat_le line q)) qs) ≡ filter (λ q. not (nat_le line q)) qs
filter-twice a line [] = refl
filter-twice a line (q ∷ qs) =
    elim (nat_le line q) as (λ b. nat_le line q ≡ b → filter (λ r. not (nat_le line r)) (cond (not (a && b)) (q ∷ filter (λ r. not (a && nat_le line r)) qs) (filter (λ r. not (a && nat_le line r)) qs)) ≡ cond (not b) (q ∷ filter (λ r. not (nat_le line r)) qs) (filter (λ r. not (nat_le line r)) qs)) [
      | true ↦ λ high.
          (elim a as (λ b. filter (λ r. not (nat_le line r)) (cond (not (b && true)) (q ∷ filter (λ r. not (a && nat_le line r)) qs) (filter (λ r. not (a && nat_le line r)) qs)) ≡ filter (λ r. not (nat_le line r)) (filter (λ r. not (a && nat_le line r)) qs)) [
            | true ↦ refl
            | false ↦ ap (λ b. cond (not b) (q ∷ filter (λ r. not (nat_le line r)) (filter (λ r. not (a && nat_le line r)) qs)) (filter (λ r. not (nat_le line r)) (filter (λ r. not (a && nat_le line r)) qs))) high
          ])
          ∙ filter-twice a line qs
      | false ↦ λ low.
          (elim a as (λ b. filter (λ r. not (nat_le line r)) (cond (not (b && false)) (q ∷ filter (λ r. not (a && nat_le line r)) qs) (filter (λ r. not (a && nat_le line r)) qs)) ≡ q ∷ filter (λ r. not (nat_le line r)) (filter (λ r. not (a && nat_le line r)) qs)) [
            | true ↦ ap (λ b. cond (not b) (q ∷ filter (λ r. not (nat_le line r)) (filter (λ r. not (a && nat_le line r)) qs)) (filter (λ r. not (nat_le line r)) (filter (λ r. not (a && nat_le line r)) qs))) low
            | false ↦ ap (λ b. cond (not b) (q ∷ filter (λ r. not (nat_le line r)) (filter (λ r. not (a && nat_le line r)) qs)) (filter (λ r. not (nat_le line r)) (filter (λ r. not (a && nat_le line r)) qs))) low
          ])
          ∙ ap (λ rs. q ∷ rs) (filter-twice a line qs)
    ] refl

stay_all : (qs : List ℕ) → filter (λ q. not false) qs ≡ qs
stay_all [] = refl
stay_all (q ∷ qs) = ap (λ rs. q ∷ rs) (stay_all qs)

-- nothing is taken out yet
pub gathered_none : (lines : LineMap) (own : Seen) → IsGatheredFrom lines own own [] []
gathered_none lines own = record {
  own = λ t. sym (stay_all (steps_of own t));
  lost = λ q some. absurd (cc some);
  all = λ q t here listed high. absurd (cc listed);
}

or_cases : (a b : Bool) → (a || b) ≡ true → (a ≡ true) ⊎ (b ≡ true)
or_cases true b some = inl refl
or_cases false b some = inr some

and_parts : (a b : Bool) → (a && b) ≡ true → (a ≡ true) × (b ≡ true)
and_parts true true both = (refl, refl)
and_parts true false both = absurd (cc both)
and_parts false b both = absurd (cc both)

or_first : (a b : Bool) → a ≡ true → (a || b) ≡ true
or_first a b is = ap (λ c. c || b) is

or_last : (a b : Bool) → b ≡ true → (a || b) ≡ true
or_last true b is = refl
or_last false b is = is

turned : (a b : ℕ) → nat_eq a b ≡ nat_eq b a
turned a b = grind (arith, nat_tests)

same_number : (a : ℕ) → nat_eq a a ≡ true
same_number a = grind (arith, nat_tests)

or_false : (a : Bool) → (a || false) ≡ a
or_false true = refl
or_false false = refl

module _ (lines : LineMap) (old mid new : Seen) (before after : List Seq) (ts : List ℕ) (t : ℕ) (so : IsGatheredFrom lines old mid before ts) where
  -- the steps of each thread rise still
  pub gathered_rises : (u : ℕ) → Rises (steps_of old u) → Rises (steps_of mid u)
  gathered_rises u up = subst Rises (sym (so.own u)) (rises-filter (λ q. not (is_listed u ts && nat_le (line_number (map.get lines u)) q)) (steps_of old u) up)

  listed_more : (u : ℕ) → is_listed u (ts ++ t ∷ []) ≡ (is_listed u ts || nat_eq u t)
  listed_more u = list_any-append (nat_eq u) ts (t ∷ []) ∙ ap (λ b. is_listed u ts || b) (or_false (nat_eq u t))

  module _
      (own : (u : ℕ) → steps_of new u ≡ cond (nat_eq t u) (filter (λ q. not (nat_le (line_number (map.get lines t)) q)) (steps_of mid u)) (steps_of mid u))
      (lost : (q : ℕ) → is_listed q (numbers after) ≡ ((is_listed q (steps_of mid t) && nat_le (line_number (map.get lines t)) q) || is_listed q (numbers before))) where
    own_more : (u : ℕ) → steps_of new u ≡ filter (λ q. not (is_listed u (ts ++ t ∷ []) && nat_le (line_number (map.get lines u)) q)) (steps_of old u)
    own_more u =
        elim (nat_eq t u) as (λ b. nat_eq t u ≡ b → steps_of new u ≡ filter (λ q. not (is_listed u (ts ++ t ∷ []) && nat_le (line_number (map.get lines u)) q)) (steps_of old u)) [
          | true ↦ λ here.
              own u
              ∙ ap (λ b. cond b (filter (λ q. not (nat_le (line_number (map.get lines t)) q)) (steps_of mid u)) (steps_of mid u)) here
              ∙ ap (λ v. filter (λ q. not (nat_le (line_number (map.get lines v)) q)) (steps_of mid u)) (same_is t u here)
              ∙ ap (filter (λ q. not (nat_le (line_number (map.get lines u)) q))) (so.own u)
              ∙ filter-twice (is_listed u ts) (line_number (map.get lines u)) (steps_of old u)
              ∙ sym (ap (λ b. filter (λ q. not (b && nat_le (line_number (map.get lines u)) q)) (steps_of old u)) (listed_more u ∙ or_last (is_listed u ts) (nat_eq u t) (turned u t ∙ here)))
          | false ↦ λ other.
              own u
              ∙ ap (λ b. cond b (filter (λ q. not (nat_le (line_number (map.get lines t)) q)) (steps_of mid u)) (steps_of mid u)) other
              ∙ so.own u
              ∙ sym (ap (λ b. filter (λ q. not (b && nat_le (line_number (map.get lines u)) q)) (steps_of old u)) (listed_more u ∙ ap (λ b. is_listed u ts || b) (turned u t ∙ other) ∙ or_false (is_listed u ts)))
        ] refl

    lost_more : (q : ℕ) → is_listed q (numbers after) ≡ true → (u : ℕ) × (is_listed q (steps_of old u) ≡ true) × (is_listed u (ts ++ t ∷ []) ≡ true) × (nat_le (line_number (map.get lines u)) q ≡ true)
    lost_more q some =
        elim (or_cases (is_listed q (steps_of mid t) && nat_le (line_number (map.get lines t)) q) (is_listed q (numbers before)) (sym (lost q) ∙ some)) as (λ _. (u : ℕ) × (is_listed q (steps_of old u) ≡ true) × (is_listed u (ts ++ t ∷ []) ≡ true) × (nat_le (line_number (map.get lines u)) q ≡ true)) [
          | inl now ↦
              let parts = and_parts (is_listed q (steps_of mid t)) (nat_le (line_number (map.get lines t)) q) now in
              let kept = and_parts (is_listed q (steps_of old t)) (not (is_listed t ts && nat_le (line_number (map.get lines t)) q)) (sym (ap (is_listed q) (so.own t) ∙ listed-filter (λ r. not (is_listed t ts && nat_le (line_number (map.get lines t)) r)) (steps_of old t) q) ∙ parts.0) in
              (t, kept.0, listed_more t ∙ or_last (is_listed t ts) (nat_eq t t) (same_number t), parts.1)
          | inr before ↦
              let is = so.lost q before in
              (is.0, is.1, listed_more is.0 ∙ or_first (is_listed is.0 ts) (nat_eq is.0 t) is.2, is.3)
        ]

    all_more : (q u : ℕ) → is_listed q (steps_of old u) ≡ true → is_listed u (ts ++ t ∷ []) ≡ true → nat_le (line_number (map.get lines u)) q ≡ true → is_listed q (numbers after) ≡ true
    all_more q u here listed high =
        elim (is_listed u ts) as (λ b. is_listed u ts ≡ b → is_listed q (numbers after) ≡ true) [
          | true ↦ λ old_one. lost q ∙ or_last (is_listed q (steps_of mid t) && nat_le (line_number (map.get lines t)) q) (is_listed q (numbers before)) (so.all q u here old_one high)
          | false ↦ λ fresh.
              let same : u ≡ t = same_is u t (sym (ap (λ b. b || nat_eq u t) fresh) ∙ sym (listed_more u) ∙ listed) in
              let still : is_listed q (steps_of mid u) ≡ true =
              ap (is_listed q) (so.own u)
              ∙ listed-filter (λ r. not (is_listed u ts && nat_le (line_number (map.get lines u)) r)) (steps_of old u) q
              ∙ ap (λ b. b && not (is_listed u ts && nat_le (line_number (map.get lines u)) q)) here
              ∙ ap (λ b. not (b && nat_le (line_number (map.get lines u)) q)) fresh in
              lost q
              ∙ or_first (is_listed q (steps_of mid t) && nat_le (line_number (map.get lines t)) q) (is_listed q (numbers before))
              (ap (λ v. is_listed q (steps_of mid v) && nat_le (line_number (map.get lines v)) q) (sym same)
              ∙ ap (λ b. b && nat_le (line_number (map.get lines u)) q) still
              ∙ high)
        ] refl

    -- one thread more
    pub gathered_more : IsGatheredFrom lines old new after (ts ++ t ∷ [])
    gathered_more = record { own = own_more; lost = lost_more; all = all_more }

-- the touched threads are all done
pub gathered_all : (old new : Rollback) → IsGatheredFrom old.plan.lines old.own new.own new.lost.items (map.keys old.plan.lines) → (new.read ≡ old.read) × (new.floor ≡ old.floor) × (new.plan ≡ old.plan) → IsGathered old new
gathered_all old new is rest =
    let lines = old.plan.lines in
    let touched : (t : ℕ) → is_touched lines t ≡ is_listed t (map.keys lines) = λ t. sym (listed_key lines t) in
    record {
      own = λ t. is.own t ∙ sym (ap (λ b. filter (λ q. not (b && nat_le (line_number (map.get lines t)) q)) (steps_of old.own t)) (touched t));
      lost = λ q some.
          let by = is.lost q some in
          (by.0, by.1, ap (λ b. b && nat_le (line_number (map.get lines by.0)) q) (touched by.0 ∙ by.2) ∙ by.3);
      all = λ q t here gone.
          let parts = and_parts (is_touched lines t) (nat_le (line_number (map.get lines t)) q) gone in
          is.all q t here (sym (touched t) ∙ parts.0) parts.1;
      rest = rest;
    }
