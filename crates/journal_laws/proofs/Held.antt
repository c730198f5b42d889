-- What no undo takes back: nothing at or before a cut, and nothing on which a pin depends.
use Rattle.std.proofs.Common.{◌≡◌, ℕ, ◌<◌, ◌≤◌, true, false, cond, not, ◌&&◌, ◌||◌, nat_eq, List, [], ◌∷◌, ◌++◌, refl, sym, ap, subst, ◌∙◌, append_assoc, arith}
use Rattle.std.specs.Prelude.{nat_lt}
use Rattle.std.proofs.lemmas.Bool.{false≢true, eqb-true, and_parts, not-true}
use Rattle.std.proofs.lemmas.Bool.Decides.{nat_tests}
use Rattle.stab_journal.specs.declared.event.Numbered.{Numbered}
use Rattle.stab_journal.specs.Dependence.{Reaches, itself, link}
use Rattle.stab_journal.specs.Floor.{is_enter, is_pin, floor, is_entered, has_pin, is_revocable}
use Rattle.stab_journal.specs.Journal.{RiseFrom}
use Rattle.stab_journal.specs.Names.{has}
use Rattle.stab_journal.specs.Reached.{Lost, nothing_lost, lose, keep, is_reached, reached_from, reached}
use Rattle.journal_laws.proofs.Chains.{or_right, chain_reached, reached_chain}
use Rattle.journal_laws.proofs.Numbers.{not_below, joined, one_step}
use Rattle.journal_laws.proofs.Stepping.{both}

-- where a step stands in a run
pub record Place (run : List Numbered) (n : Numbered) : Type 0 where
  pub before : List Numbered
  pub after : List Numbered
  pub is : run ≡ before ++ n ∷ after

pub place_of : (run : List Numbered) (m : ℕ) (n : Numbered) → Reaches run m n → Place run n
place_of run m _ (itself before n after cut at) = record { before = before; after = after; is = cut }
place_of run m _ (link e f chain d) = record { before = d.before ++ e ∷ d.between; after = d.after; is = d.is ∙ sym (append_assoc d.before (e ∷ d.between) (f ∷ d.after)) }

-- a step with a number
pub record Step (run : List Numbered) (q : ℕ) : Type 0 where
  pub n : Numbered
  pub place : Place run n
  pub at : n.seq.0 ≡ q

behind : (k : Numbered) (run : List Numbered) (q : ℕ) → Step run q → Step (k ∷ run) q
behind k run q s = record { n = s.n; place = record { before = k ∷ s.place.before; after = s.place.after; is = ap (λ l. k ∷ l) s.place.is }; at = s.at }

first : (k : Numbered) (run : List Numbered) (q : ℕ) → k.seq.0 ≡ q → Step (k ∷ run) q
first k run q at = record { n = k; place = record { before = []; after = run; is = refl }; at = at }

among : (k : Numbered) (ks : List ℕ) (run : List Numbered) (q : ℕ) → (has ks q ≡ true → Step run q) → has (k.seq.0 ∷ ks) q ≡ true → Step (k ∷ run) q
among k ks run q f h =
    elim (nat_eq q k.seq.0) as (λ b. nat_eq q k.seq.0 ≡ b → cond b true (has ks q) ≡ true → Step (k ∷ run) q) [
      | true ↦ λ is h. first k run q (sym (eqb-true q k.seq.0 is))
      | false ↦ λ is h. behind k run q (f h)
    ] refl h

-- each number that is reached is a step's
pub reached_step : (m q : ℕ) (x : Lost) (run : List Numbered) → has (reached_from m x run) q ≡ true → Step run q
reached_step m q x [] h = absurd (false≢true h)
reached_step m q x (n ∷ ns) h =
    elim (is_reached m n x) as (λ b. has (cond b (n.seq.0 ∷ reached_from m (lose n.label x) ns) (reached_from m (keep n.label x) ns)) q ≡ true → Step (n ∷ ns) q) [
      | true ↦ λ h. among n _ ns q (reached_step m q (lose n.label x) ns) h
      | false ↦ λ h. behind n ns q (reached_step m q (keep n.label x) ns h)
    ] h

-- what is reached isn't numbered below
pub reached_above : (run : List Numbered) (m q k : ℕ) → RiseFrom q run → has (reached run m) k ≡ true → m ≤ k
reached_above run m q k rise h =
    let s = reached_step m k nothing_lost run h in
    let chain = reached_chain run m q rise s.place.before s.n s.place.after s.place.is (ap (has (reached run m)) s.at ∙ h) in
    omega (arith, s.at, not_below run q m rise s.n chain)

-- the parts of what can be taken back
pub record Parts (run : List Numbered) (m : ℕ) : Type 0 where
  pub entered : is_entered m run ≡ true
  pub above : floor run < m
  pub free : has_pin (reached run m) run ≡ false

lower : (a b : ℕ) → nat_lt a b ≡ true → a < b
lower a b h = grind (arith, nat_tests)

pub parts_of : (run : List Numbered) (m : ℕ) → is_revocable run m ≡ true → Parts run m
parts_of run m h =
    let one = and_parts (is_entered m run && nat_lt (floor run) m) (not (has_pin (reached run m) run)) h in
    let two = and_parts (is_entered m run) (nat_lt (floor run) m) one.0 in
    record { entered = two.0; above = lower (floor run) m two.1; free = not-true _ one.1 }

pub cuts_hold : (run : List Numbered) (m q : ℕ) → RiseFrom 1 run → is_revocable run m ≡ true → has (reached run m) q ≡ true → floor run < q
cuts_hold run m q rise h r = omega (arith, (parts_of run m h).above, reached_above run m 1 q rise r)

pin_at : (qs : List ℕ) (before : List Numbered) (f : Numbered) (after : List Numbered) → has qs f.seq.0 ≡ true → is_pin f.label ≡ true → has_pin qs (before ++ f ∷ after) ≡ true
pin_at qs [] f after h pin = ap (λ b. (b && is_pin f.label) || has_pin qs after) h ∙ ap (λ b. b || has_pin qs after) pin
pin_at qs (n ∷ before) f after h pin = or_right (has qs n.seq.0 && is_pin n.label) _ (pin_at qs before f after h pin)

pub pins_hold : (run : List Numbered) (m : ℕ) → RiseFrom 1 run → is_revocable run m ≡ true → (before : List Numbered) (e : Numbered) (after : List Numbered) → run ≡ before ++ e ∷ after
    → (f : Numbered) → is_pin f.label ≡ true → Reaches run e.seq.0 f → has (reached run m) e.seq.0 ≡ false
pins_hold run m rise h before e after cut f pin chain =
    elim (has (reached run m) e.seq.0) as (λ b. has (reached run m) e.seq.0 ≡ b → b ≡ false) [
      | true ↦ λ goes.
          let all = joined run 1 m rise before e after cut (reached_chain run m 1 rise before e after cut goes) f chain in
          let place = place_of run m f all in
          absurd (both (has_pin (reached run m) run) (ap (has_pin (reached run m)) place.is ∙ pin_at (reached run m) place.before f place.after (chain_reached run m 1 rise f all) pin) (parts_of run m h).free)
      | false ↦ λ goes. refl
    ] refl

-- the step that enters
pub record Entry (run : List Numbered) (m : ℕ) : Type 0 where
  pub n : Numbered
  pub place : Place run n
  pub at : m ≡ n.seq.0
  pub enters : is_enter n.label ≡ true

further : (k : Numbered) (run : List Numbered) (m : ℕ) → Entry run m → Entry (k ∷ run) m
further k run m e = record { n = e.n; place = record { before = k ∷ e.place.before; after = e.place.after; is = ap (λ l. k ∷ l) e.place.is }; at = e.at; enters = e.enters }

pub entry_of : (m : ℕ) (run : List Numbered) → is_entered m run ≡ true → Entry run m
entry_of m [] h = absurd (false≢true h)
entry_of m (n ∷ ns) h =
    elim (nat_eq m n.seq.0 && is_enter n.label) as (λ b. (nat_eq m n.seq.0 && is_enter n.label) ≡ b → (b || is_entered m ns) ≡ true → Entry (n ∷ ns) m) [
      | true ↦ λ is h. let both = and_parts (nat_eq m n.seq.0) (is_enter n.label) is in record { n = n; place = record { before = []; after = ns; is = refl }; at = eqb-true m n.seq.0 both.0; enters = both.1 }
      | false ↦ λ is h. further n ns m (entry_of m ns h)
    ] refl h

-- each step of that number is it
pub only_entry : (run : List Numbered) (m : ℕ) → RiseFrom 1 run → is_entered m run ≡ true → (before : List Numbered) (n : Numbered) (after : List Numbered) → run ≡ before ++ n ∷ after → m ≡ n.seq.0 → is_enter n.label ≡ true
only_entry run m rise h before n after cut at =
    let e = entry_of m run h in
    let same : e.n ≡ n = one_step 1 e.place.before e.n e.place.after before n after (subst (λ (l : List Numbered). RiseFrom 1 l) e.place.is rise) (sym e.place.is ∙ cut) (sym e.at ∙ at) in
    ap (λ (k : Numbered). is_enter k.label) (sym same) ∙ e.enters
