-- Steps up to a number b before steps above it: nothing that is said of a section entered behind b speaks of the first.
use Rattle.std.proofs.Common.{◌≡◌, ℕ, suc, ◌≤◌, ◌<◌, Bool, true, false, cond, not, ◌&&◌, List, [], ◌∷◌, ◌++◌, Option, Some, None, refl, sym, ap, ◌∙◌, arith}
use Rattle.std.specs.Prelude.{nat_lt}
use Rattle.std.specs.List.{AllByRecursion}
use Rattle.std.proofs.lemmas.Bool.{false≢true}
use Rattle.std.proofs.lemmas.Bool.Decides.{nat_tests}
use Rattle.std.proofs.Math.Bool.{and-false}
use Rattle.stab_journal.specs.declared.event.Numbered.{Numbered}
use Rattle.stab_journal.specs.Names.{has}
use Rattle.stab_journal.specs.Journal.{RiseFrom}
use Rattle.stab_journal.specs.Floor.{is_cut, floor_from, floor, is_entered, has_pin, is_revocable, is_mark_revocable}
use Rattle.stab_journal.specs.Reached.{reached, rest, without_reached}
use Rattle.stab_journal.specs.Generation.{acts_in}
use Rattle.stab_journal.specs.Since.{AreBelow, is_revocable_since, is_mark_revocable_since}
use Rattle.journal_laws.proofs.Fronts.{Stays, acts_front, entered_front, front_stays, pin_front, reached_front, rest_front}

-- no number is above b
abbrev pub AreUpTo : ℕ → List Numbered → Type 0
AreUpTo b = AllByRecursion (λ (n : Numbered). n.seq.0 ≤ b)

all_below : (b m : ℕ) (ns : List Numbered) → AreUpTo b ns → b < m → AreBelow m ns
all_below b m [] up lt = tt
all_below b m (n ∷ ns) up lt = (omega (arith, up.0, lt), all_below b m ns up.1 lt)

rise_from_one : (q : ℕ) (ns : List Numbered) → RiseFrom (suc q) ns → RiseFrom 1 ns
rise_from_one q [] rise = tt
rise_from_one q (n ∷ ns) rise = (omega (arith, rise.0), rise.1)

pub floor_append : (f : ℕ) (ns ms : List Numbered) → floor_from f (ns ++ ms) ≡ floor_from (floor_from f ns) ms
floor_append f [] ms = refl
floor_append f (n ∷ ns) ms = floor_append (cond (is_cut n.label) n.seq.0 f) ns ms

-- the floor of steps above b isn't below it
floor_at : (b f q : ℕ) (ms : List Numbered) → RiseFrom q ms → b ≤ f → b ≤ q → b ≤ floor_from f ms
floor_at b f q [] rise le lq = le
floor_at b f q (n ∷ ns) rise le lq =
    floor_at b (cond (is_cut n.label) n.seq.0 f) (suc n.seq.0) ns rise.1
    (elim (is_cut n.label) as (λ c. b ≤ cond c n.seq.0 f) [ true ↦ omega (arith, rise.0) | false ↦ le ]) (omega (arith, rise.0))

module _ (b m : ℕ) (ns ms : List Numbered) (up : AreUpTo b ns) (rise : RiseFrom (suc b) ms) (lt : b < m) where
  is_reached_behind : reached (ns ++ ms) m ≡ reached ms m
  is_reached_behind = reached_front m ns ms (all_below b m ns up lt)

  all_stay : Stays (has (reached ms m)) ns
  all_stay = front_stays m ns ms (rise_from_one b ms rise) (all_below b m ns up lt)

  pub without_behind : without_reached m (ns ++ ms) ≡ ns ++ without_reached m ms
  without_behind = ap (λ qs. rest (has qs) (ns ++ ms)) is_reached_behind ∙ rest_front (has (reached ms m)) ns ms all_stay

  pub acts_behind : (t : ℕ) → acts_in (has (reached (ns ++ ms) m)) t (ns ++ ms) ≡ acts_in (has (reached ms m)) t ms
  acts_behind t = ap (λ qs. acts_in (has qs) t (ns ++ ms)) is_reached_behind ∙ acts_front (has (reached ms m)) t ns ms all_stay

  pins_behind : has_pin (reached (ns ++ ms) m) (ns ++ ms) ≡ has_pin (reached ms m) ms
  pins_behind = ap (λ qs. has_pin qs (ns ++ ms)) is_reached_behind ∙ pin_front (reached ms m) ns ms all_stay

  revocable_above : floor ns ≡ b → is_revocable (ns ++ ms) m ≡ is_revocable_since b ms m
  revocable_above at =
      ap (λ c. c && nat_lt (floor (ns ++ ms)) m && not (has_pin (reached (ns ++ ms) m) (ns ++ ms))) (entered_front m ns ms (all_below b m ns up lt))
      ∙ ap (λ f. is_entered m ms && nat_lt f m && not (has_pin (reached (ns ++ ms) m) (ns ++ ms))) (floor_append 0 ns ms ∙ ap (λ f. floor_from f ms) at)
      ∙ ap (λ c. is_entered m ms && nat_lt (floor_from b ms) m && not c) pins_behind

not_above : (f m : ℕ) → m ≤ f → nat_lt f m ≡ false
not_above f m le = grind (arith, nat_tests)

both_false : (a b c d x y : Bool) → b ≡ false → d ≡ false → (a && b && x) ≡ (c && d && y)
both_false a b c d x y h k = ap (λ w. w && x) (ap (λ w. a && w) h ∙ and-false a) ∙ sym (ap (λ w. w && y) (ap (λ w. c && w) k ∙ and-false c))

revocable_below : (b m : ℕ) (ns ms : List Numbered) → RiseFrom (suc b) ms → floor ns ≡ b → m ≤ b → is_revocable (ns ++ ms) m ≡ is_revocable_since b ms m
revocable_below b m ns ms rise at le =
    let high : b ≤ floor_from b ms = floor_at b b (suc b) ms rise (omega arith) (omega arith) in
    let one : nat_lt (floor_from b ms) m ≡ false = not_above (floor_from b ms) m (omega arith) in
    both_false (is_entered m (ns ++ ms)) (nat_lt (floor (ns ++ ms)) m) (is_entered m ms) (nat_lt (floor_from b ms) m) _ _
    (ap (λ f. nat_lt f m) (floor_append 0 ns ms ∙ ap (λ f. floor_from f ms) at) ∙ one) one

above_or : (b m : ℕ) (P : Type 0) → (b < m → P) → (m ≤ b → P) → P
above_or b m P f g =
    elim (nat_lt b m) as (λ c. nat_lt b m ≡ c → P) [ true ↦ λ is. f (grind (arith, nat_tests)) | false ↦ λ is. g (grind (arith, nat_tests)) ] refl

-- a section can be taken back exactly where it can by the steps behind the cut numbered b
pub revocable_behind : (b m : ℕ) (ns ms : List Numbered) → AreUpTo b ns → RiseFrom (suc b) ms → floor ns ≡ b → is_revocable (ns ++ ms) m ≡ is_revocable_since b ms m
revocable_behind b m ns ms up rise at =
    above_or b m (is_revocable (ns ++ ms) m ≡ is_revocable_since b ms m) (λ lt. revocable_above b m ns ms up rise lt at) (revocable_below b m ns ms rise at)

pub mark_behind : (b : ℕ) (o : Option ℕ) (ns ms : List Numbered) → AreUpTo b ns → RiseFrom (suc b) ms → floor ns ≡ b → is_mark_revocable (ns ++ ms) o ≡ is_mark_revocable_since b ms o
mark_behind b None ns ms up rise at = refl
mark_behind b (Some m) ns ms up rise at = revocable_behind b m ns ms up rise at

-- what can be taken back was entered behind the cut
pub above_cut : (b m : ℕ) (ms : List Numbered) → RiseFrom (suc b) ms → is_revocable_since b ms m ≡ true → b < m
above_cut b m ms rise h =
    above_or b m (b < m) (λ lt. lt)
    (λ le.
    let high : b ≤ floor_from b ms = floor_at b b (suc b) ms rise (omega arith) (omega arith) in
    let one : nat_lt (floor_from b ms) m ≡ false = not_above (floor_from b ms) m (omega arith) in
    absurd (false≢true (sym (ap (λ w. w && not (has_pin (reached ms m) ms)) (ap (λ w. is_entered m ms && w) one ∙ and-false (is_entered m ms))) ∙ h)))
