-- Threads counted one after the other.
use Rattle.std.proofs.Common.{◌≡◌, ℕ, ◌+◌, ◌≤◌, true, false, cond, Bool, not, ◌&&◌, List, ◌∷◌, refl, ap, arith}
use Rattle.std.specs.Prelude.{Some, None, map as each, count_by}
use Rattle.std.specs.FinMap as map
use Rattle.std.specs.FinMap.{FinMap, entries}
use Rattle.std.specs.Ordering.{nat_cmp}
use Rattle.std.proofs.lemmas.List.Sums.{sum_by-cons}
use Rattle.language.specs.Above.{IsLeastAbove}
use Rattle.language.specs.Expression.{Expr}
use Rattle.language.specs.Plain.{look_in}
use Rattle.plain_language.specs.Seen.{seen}
use Rattle.language.specs.Shown.{is_done, is_fault}
use Rattle.language.specs.Table.{Look, done, fault, act, pure}
use Rattle.stab_code.specs.Program.{ProgramParts}
use Rattle.image_text.proofs.Left.{IsLeft, IsNextOf, all_left, next_left, none_left}
use Rattle.state_text.specs.declared.counts.Counts.{Counts}
use Rattle.state_text.specs.Counts.{AreCounts, counted}

abbrev waits : Look Expr → Bool
waits l = not (is_done l) && not (is_fault l)

abbrev one : Bool → ℕ
one b = cond b 1 0

abbrev pub looks_of : ProgramParts → List (ℕ × Expr) → List (Look Expr)
looks_of p es = each (look_in p) (each (λ (e : ℕ × Expr). e.1) es)

-- of the threads that are left and those that were counted, all are
pub record AreSoFar (p : ProgramParts) (m : FinMap nat_cmp Expr) (last : ℕ) (c : Counts) : Type 0 where
  pub left : List (ℕ × Expr)
  pub is_left : IsLeft m last left
  pub ended : count_by is_done (looks_of p (entries m)) ≡ c.ended + count_by is_done (looks_of p left)
  pub faulted : count_by is_fault (looks_of p (entries m)) ≡ c.faulted + count_by is_fault (looks_of p left)
  pub waiting : count_by waits (looks_of p (entries m)) ≡ c.waiting + count_by waits (looks_of p left)
  pub few_ended : c.ended ≤ last
  pub few_faulted : c.faulted ≤ last
  pub few_waiting : c.waiting ≤ last

one_ended : (l : Look Expr) (c : Counts) → (counted (seen l) c).ended ≡ c.ended + one (is_done l)
one_ended (done v) c = refl
one_ended (fault k) c = omega arith
one_ended (act a) c = omega arith
one_ended (pure e) c = omega arith

one_faulted : (l : Look Expr) (c : Counts) → (counted (seen l) c).faulted ≡ c.faulted + one (is_fault l)
one_faulted (done v) c = omega arith
one_faulted (fault k) c = refl
one_faulted (act a) c = omega arith
one_faulted (pure e) c = omega arith

one_waiting : (l : Look Expr) (c : Counts) → (counted (seen l) c).waiting ≡ c.waiting + one (waits l)
one_waiting (done v) c = omega arith
one_waiting (fault k) c = omega arith
one_waiting (act a) c = refl
one_waiting (pure e) c = refl

at_most_one : (b : Bool) → one b ≤ 1
at_most_one b = elim b as (λ c. one c ≤ 1) [ true ↦ omega arith | false ↦ omega arith ]

module _ (p : ProgramParts) (m : FinMap nat_cmp Expr) where
  pub none_so_far : map.contains_key m 0 ≡ false → AreSoFar p m 0 (record { ended = 0; faulted = 0; waiting = 0 })
  none_so_far none = record {
    left = entries m;
    is_left = all_left m none;
    ended = omega arith;
    faulted = omega arith;
    waiting = omega arith;
    few_ended = omega arith;
    few_faulted = omega arith;
    few_waiting = omega arith;
  }

  further : (P : Look Expr → Bool) (k : ℕ) (x : Expr) (left rest : List (ℕ × Expr)) (c : ℕ) → left ≡ (k, x) ∷ rest → count_by P (looks_of p (entries m)) ≡ c + count_by P (looks_of p left)
      → count_by P (looks_of p (entries m)) ≡ (c + one (P (look_in p x))) + count_by P (looks_of p rest)
  further P k x left rest c first all =
      let these : count_by P (looks_of p left) ≡ count_by P (look_in p x ∷ looks_of p rest) = ap (λ es. count_by P (looks_of p es)) first in
      let split : count_by P (look_in p x ∷ looks_of p rest) ≡ one (P (look_in p x)) + count_by P (looks_of p rest) = sum_by-cons (λ l. one (P l)) (look_in p x) (looks_of p rest) in
      omega (arith, all, these, split)

  pub one_so_far : (last k : ℕ) (x : Expr) (c : Counts) → AreSoFar p m last c → IsLeastAbove (map.contains_key m) last (Some k) → map.get m k ≡ Some x → AreSoFar p m k (counted (seen (look_in p x)) c)
  one_so_far last k x c h least at =
      let next : IsNextOf m k x h.left = next_left m last k x h.left h.is_left least at in
      let l = look_in p x in
      let a = one_ended l c in
      let b = one_faulted l c in
      let d = one_waiting l c in
      record {
        left = next.rest;
        is_left = next.later;
        ended = omega (arith, a, further is_done k x h.left next.rest c.ended next.first h.ended);
        faulted = omega (arith, b, further is_fault k x h.left next.rest c.faulted next.first h.faulted);
        waiting = omega (arith, d, further waits k x h.left next.rest c.waiting next.first h.waiting);
        few_ended = omega (arith, a, at_most_one (is_done l), h.few_ended, least.0);
        few_faulted = omega (arith, b, at_most_one (is_fault l), h.few_faulted, least.0);
        few_waiting = omega (arith, d, at_most_one (waits l), h.few_waiting, least.0);
      }

  pub all_so_far : (last : ℕ) (c : Counts) → AreSoFar p m last c → IsLeastAbove (map.contains_key m) last None → AreCounts (looks_of p (entries m)) c
  all_so_far last c h none =
      let empty = none_left m last h.left h.is_left none in
      record {
        ended = omega (arith, h.ended, ap (λ es. count_by is_done (looks_of p es)) empty);
        faulted = omega (arith, h.faulted, ap (λ es. count_by is_fault (looks_of p es)) empty);
        waiting = omega (arith, h.waiting, ap (λ es. count_by waits (looks_of p es)) empty);
      }
