-- A step of a state is, with other numbers, a step of the state with these numbers.
use Rattle.std.proofs.Common.{◌≡◌, ℕ, zero, suc, Bool, true, false, cond, nat_eq, List, [], ◌∷◌, Option, Some, None, refl, ap, subst, ◌∙◌}
use Rattle.std.specs.Prelude.{ℤ, pos, ◌^◌, nat_lt, map as each, option_map, option_and_then}
use Rattle.stab_base.specs.Datum.{Datum, unit, int, chan, reference, pair}
use Rattle.stab_base.specs.Limits.{is_within_limits}
use Rattle.stab_base.specs.declared.fault.Fault.TheVariants.{DeepValue}
use Rattle.stab_code.specs.Program.{ProgramParts}
use Rattle.stab_journal.specs.declared.event.Label.{Label}
use Rattle.stab_journal.specs.declared.event.Label.TheVariants.{Local, Spawn, NewChan, Comm, NewRef, Get, Set, Enter, Cut, Print, Probe, Refuse, Pin, Attempt}
use Rattle.language.specs.Expression.{Expr}
use Rattle.language.specs.Numbers.{fits_word}
use Rattle.language.specs.Plain.{language_of}
use Rattle.language.specs.Steps.{Effect}
use Rattle.language.specs.Table.{spawns, makes_chan, makes_ref, gets, sets, sends, receives, picks, enters, stabilizes, cuts, pins, prints, probes, attempts, Look, done, fault, act, pure, Language, pure_of, pure_steps, to, local_by, spawn_by, chan_by, ref_by, get_by, set_by, sent_by, picked, received_by, comm_by, enter_by, cut_by, pin_by, print_by, probe_by, refuse_by, attempt_by, effect}
use Rattle.explore_laws.specs.Renamed.{Naming, IsNaming, datum_in, expr_in, look_in, effect_in, label_in}
use Rattle.explore_laws.proofs.Renaming.{look_same, answered_same, entered_same, limits_same, same_number}

module _ (p : ProgramParts) (n : Naming) (is : IsNaming n) where
  abbrev g : Language Expr
  g = language_of p

  same_if : (b c : Bool) (x y : Option (Effect Expr)) → b ≡ c → x ≡ option_map (effect_in n) y → cond b x None ≡ option_map (effect_in n) (cond c y None)
  same_if true c x y at h = subst (λ (d : Bool). x ≡ option_map (effect_in n) (cond d y None)) at h
  same_if false c x y at h = subst (λ (d : Bool). None ≡ option_map (effect_in n) (cond d y None)) at refl

  -- a thread that goes on
  to_same : (a b : Expr) → a ≡ expr_in n b → to g a ≡ effect_in n (to g b)
  to_same a b h = ap (to g) h

  pure_same : (k : Look Expr) → pure_of g (look_in n k) ≡ option_map (expr_in n) (pure_of g k)
  pure_same (pure e) = refl
  pure_same (done v) = refl
  pure_same (fault k) = refl
  pure_same (act a) = refl

  steps_same : (k : ℕ) (e : Expr) → pure_steps g k (expr_in n e) ≡ option_map (expr_in n) (pure_steps g k e)
  steps_same zero e = refl
  steps_same (suc k) e =
      ap (λ l. option_and_then (pure_steps g k) (pure_of g l)) (look_same n is p e)
      ∙ ap (option_and_then (pure_steps g k)) (pure_same (g.look e))
      ∙ (elim (pure_of g (g.look e)) as (λ o. option_and_then (pure_steps g k) (option_map (expr_in n) o) ≡ option_map (expr_in n) (option_and_then (pure_steps g k) o)) [
        | None ↦ refl
        | (Some x) ↦ steps_same k x
      ])

  to_all : (o : Option Expr) → option_map (to g) (option_map (expr_in n) o) ≡ option_map (effect_in n) (option_map (to g) o)
  to_all None = refl
  to_all (Some e) = refl

  local_same : (k : ℕ) (e : Expr) → local_by g k (expr_in n e) ≡ option_map (effect_in n) (local_by g k e)
  local_same zero e = refl
  local_same (suc k) e = ap (option_map (to g)) (steps_same (suc k) e) ∙ to_all (pure_steps g (suc k) e)

  spawn_same : (e : Expr) (k : Look Expr) → spawn_by g (expr_in n e) (look_in n k) ≡ option_map (effect_in n) (spawn_by g e k)
  spawn_same e (act (spawns b)) = ap (λ x. Some (record { mine = x; other = expr_in n b; value = unit; printed = [] })) (answered_same n e unit)
  spawn_same e k = refl

  chan_same : (c : ℕ) (e : Expr) (k : Look Expr) → chan_by g (n.chan c) (expr_in n e) (look_in n k) ≡ option_map (effect_in n) (chan_by g c e k)
  chan_same c e (act makes_chan) = ap (λ x. Some (to g x)) (answered_same n e (chan c))
  chan_same c e k = refl

  ref_same : (r : ℕ) (e : Expr) (k : Look Expr) → ref_by g (n.reference r) (expr_in n e) (look_in n k) ≡ option_map (effect_in n) (ref_by g r e k)
  ref_same r e (act (makes_ref v)) = ap (λ x. Some (record { mine = x; other = expr_in n e; value = datum_in n v; printed = [] })) (answered_same n e (reference r))
  ref_same r e k = refl

  held_same : (e : Expr) (held : Option Datum) → option_map (λ v. to g (g.answered (expr_in n e) v)) (option_map (datum_in n) held) ≡ option_map (effect_in n) (option_map (λ v. to g (g.answered e v)) held)
  held_same e None = refl
  held_same e (Some v) = ap (λ x. Some (to g x)) (answered_same n e v)

  get_same : (r : ℕ) (e : Expr) (held : Option Datum) (k : Look Expr) → get_by g (n.reference r) (expr_in n e) (option_map (datum_in n) held) (look_in n k) ≡ option_map (effect_in n) (get_by g r e held k)
  get_same r e held (act (gets q)) = same_if (nat_eq (n.reference q) (n.reference r)) (nat_eq q r) _ _ (same_number n.reference is.references q r) (held_same e held)
  get_same r e held k = refl

  set_same : (r : ℕ) (e : Expr) (k : Look Expr) → set_by g (n.reference r) (expr_in n e) (look_in n k) ≡ option_map (effect_in n) (set_by g r e k)
  set_same r e (act (sets q v)) =
      same_if (nat_eq (n.reference q) (n.reference r)) (nat_eq q r) _ (Some (record { mine = g.answered e unit; other = e; value = v; printed = [] })) (same_number n.reference is.references q r)
      (ap (λ x. Some (record { mine = x; other = expr_in n e; value = datum_in n v; printed = [] })) (answered_same n e unit))
  set_same r e k = refl

  sent_if : (b c : Bool) (v : Datum) → b ≡ c → cond b (Some (datum_in n v)) None ≡ option_map (datum_in n) (cond c (Some v) None)
  sent_if true c v at = subst (λ (d : Bool). Some (datum_in n v) ≡ option_map (datum_in n) (cond d (Some v) None)) at refl
  sent_if false c v at = subst (λ (d : Bool). None ≡ option_map (datum_in n) (cond d (Some v) None)) at refl

  sent_same : (c : ℕ) (k : Look Expr) → sent_by g (n.chan c) (look_in n k) ≡ option_map (datum_in n) (sent_by g c k)
  sent_same c (act (sends q v)) = sent_if (nat_eq (n.chan q) (n.chan c)) (nat_eq q c) v (same_number n.chan is.chans q c)
  sent_same c k = refl

  picked_same : (e : Expr) (i : ℤ) (v : Datum) → picked g (expr_in n e) i (datum_in n v) ≡ expr_in n (picked g e i v)
  picked_same e i v =
      ap (λ b. cond b (g.answered (expr_in n e) (pair (int i) (datum_in n v))) (g.failed DeepValue)) (limits_same n (pair (int i) v))
      ∙ (elim (is_within_limits (pair (int i) v)) as (λ b. cond b (g.answered (expr_in n e) (pair (int i) (datum_in n v))) (g.failed DeepValue) ≡ expr_in n (cond b (g.answered e (pair (int i) v)) (g.failed DeepValue))) [
        | true ↦ answered_same n e (pair (int i) v)
        | false ↦ refl
      ])

  -- the same test, and what comes of it
  received_if : (b c : Bool) (x : Expr) (y : Expr) (u w : Option Expr) → b ≡ c → x ≡ expr_in n y → u ≡ option_map (expr_in n) w → cond b (Some x) u ≡ option_map (expr_in n) (cond c (Some y) w)
  received_if true c x y u w at h i = subst (λ (d : Bool). Some x ≡ option_map (expr_in n) (cond d (Some y) w)) at (ap Some h)
  received_if false c x y u w at h i = subst (λ (d : Bool). u ≡ option_map (expr_in n) (cond d (Some y) w)) at i

  received_same : (c : ℕ) (e : Expr) (v : Datum) (k : Look Expr) → received_by g (n.chan c) (expr_in n e) (datum_in n v) (look_in n k) ≡ option_map (expr_in n) (received_by g c e v k)
  received_same c e v (act (receives q)) = received_if (nat_eq (n.chan q) (n.chan c)) (nat_eq q c) _ _ None None (same_number n.chan is.chans q c) (answered_same n e v) refl
  received_same c e v (act (picks a b)) =
      received_if (nat_eq (n.chan a) (n.chan c)) (nat_eq a c) _ _ _ _ (same_number n.chan is.chans a c) (picked_same e (pos 0) v)
      (received_if (nat_eq (n.chan b) (n.chan c)) (nat_eq b c) _ _ None None (same_number n.chan is.chans b c) (picked_same e (pos 1) v) refl)
  received_same c e v k = refl

  met_same : (a : Expr) (o : Option Expr) → option_map {U = Effect Expr} (λ e. record { mine = g.answered (expr_in n a) unit; other = e; value = unit; printed = [] }) (option_map (expr_in n) o)
      ≡ option_map (effect_in n) (option_map {U = Effect Expr} (λ e. record { mine = g.answered a unit; other = e; value = unit; printed = [] }) o)
  met_same a None = refl
  met_same a (Some e) = ap (λ x. Some (record { mine = x; other = expr_in n e; value = unit; printed = [] })) (answered_same n a unit)

  comm_from : (c : ℕ) (a b : Expr) (o : Option Datum) → option_and_then (λ v. option_map {U = Effect Expr} (λ e. record { mine = g.answered (expr_in n a) unit; other = e; value = unit; printed = [] }) (received_by g (n.chan c) (expr_in n b) v (look_in n (g.look b)))) (option_map (datum_in n) o)
      ≡ option_map (effect_in n) (option_and_then (λ v. option_map {U = Effect Expr} (λ e. record { mine = g.answered a unit; other = e; value = unit; printed = [] }) (received_by g c b v (g.look b))) o)
  comm_from c a b None = refl
  comm_from c a b (Some v) = ap (option_map {U = Effect Expr} (λ e. record { mine = g.answered (expr_in n a) unit; other = e; value = unit; printed = [] })) (received_same c b v (g.look b)) ∙ met_same a (received_by g c b v (g.look b))

  comm_same : (c : ℕ) (a b : Expr) → comm_by g (n.chan c) (expr_in n a) (expr_in n b) ≡ option_map (effect_in n) (comm_by g c a b)
  comm_same c a b =
      ap (λ l. option_and_then (λ v. option_map {U = Effect Expr} (λ e. record { mine = g.answered (expr_in n a) unit; other = e; value = unit; printed = [] }) (received_by g (n.chan c) (expr_in n b) v (g.look (expr_in n b)))) (sent_by g (n.chan c) l)) (look_same n is p a)
      ∙ ap (λ l. option_and_then (λ v. option_map {U = Effect Expr} (λ e. record { mine = g.answered (expr_in n a) unit; other = e; value = unit; printed = [] }) (received_by g (n.chan c) (expr_in n b) v l)) (sent_by g (n.chan c) (look_in n (g.look a)))) (look_same n is p b)
      ∙ ap (option_and_then (λ v. option_map {U = Effect Expr} (λ e. record { mine = g.answered (expr_in n a) unit; other = e; value = unit; printed = [] }) (received_by g (n.chan c) (expr_in n b) v (look_in n (g.look b))))) (sent_same c (g.look a))
      ∙ comm_from c a b (sent_by g c (g.look a))

  enter_same : (q : ℕ) (e : Expr) (k : Look Expr) → enter_by g 0 (expr_in n e) (look_in n k) ≡ option_map (effect_in n) (enter_by g q e k)
  enter_same q e (act (enters b)) = ap (λ x. Some (to g x)) (entered_same n e b q)
  enter_same q e k = refl

  cut_same : (e : Expr) (k : Look Expr) → cut_by g (expr_in n e) (look_in n k) ≡ option_map (effect_in n) (cut_by g e k)
  cut_same e (act cuts) = ap (λ x. Some (to g x)) (answered_same n e unit)
  cut_same e k = refl

  pin_same : (e : Expr) (k : Look Expr) → pin_by g (expr_in n e) (look_in n k) ≡ option_map (effect_in n) (pin_by g e k)
  pin_same e (act pins) = ap (λ x. Some (to g x)) (answered_same n e unit)
  pin_same e k = refl

  print_same : (e : Expr) (k : Look Expr) → print_by g (expr_in n e) (look_in n k) ≡ option_map (effect_in n) (print_by g e k)
  print_same e (act (prints v)) = ap (λ x. Some (record { mine = x; other = expr_in n e; value = unit; printed = datum_in n v ∷ [] })) (answered_same n e unit)
  print_same e k = refl

  probe_same : (i : ℤ) (e : Expr) (k : Look Expr) → probe_by g i (expr_in n e) (look_in n k) ≡ option_map (effect_in n) (probe_by g i e k)
  probe_same i e (act probes) = same_if (fits_word i) (fits_word i) _ (Some (to g (g.answered e (int i)))) refl (ap (λ x. Some (to g x)) (answered_same n e (int i)))
  probe_same i e k = refl

  refuse_same : (k : Look Expr) → refuse_by g (look_in n k) ≡ option_map (effect_in n) (refuse_by g k)
  refuse_same (act stabilizes) = refl
  refuse_same k = refl

  attempt_same : (m : ℕ) (e : Expr) (k : Look Expr) → attempt_by g m (expr_in n e) (look_in n k) ≡ option_map (effect_in n) (attempt_by g m e k)
  attempt_same m e (act attempts) = same_if (nat_lt m (2 ^ 63)) (nat_lt m (2 ^ 63)) _ (Some (to g (g.answered e (int (pos m))))) refl (ap (λ x. Some (to g x)) (answered_same n e (int (pos m))))
  attempt_same m e k = refl

  -- the effect of a step with other numbers is its effect with other numbers
  pub effect_same : (q : ℕ) (l : Label) (es : List Expr) (held : Option Datum) → effect g 0 (label_in n l) (each (expr_in n) es) (option_map (datum_in n) held) ≡ option_map (effect_in n) (effect g q l es held)
  effect_same q (Local t k) (e ∷ []) held = local_same k e
  effect_same q (Spawn t u) (e ∷ []) held = ap (spawn_by g (expr_in n e)) (look_same n is p e) ∙ spawn_same e (g.look e)
  effect_same q (NewChan t c) (e ∷ []) held = ap (chan_by g (n.chan c.0) (expr_in n e)) (look_same n is p e) ∙ chan_same c.0 e (g.look e)
  effect_same q (Comm s r c) (a ∷ b ∷ []) held = comm_same c.0 a b
  effect_same q (NewRef t r) (e ∷ []) held = ap (ref_by g (n.reference r.0) (expr_in n e)) (look_same n is p e) ∙ ref_same r.0 e (g.look e)
  effect_same q (Get t r) (e ∷ []) held = ap (get_by g (n.reference r.0) (expr_in n e) (option_map (datum_in n) held)) (look_same n is p e) ∙ get_same r.0 e held (g.look e)
  effect_same q (Set t r) (e ∷ []) held = ap (set_by g (n.reference r.0) (expr_in n e)) (look_same n is p e) ∙ set_same r.0 e (g.look e)
  effect_same q (Enter t) (e ∷ []) held = ap (enter_by g 0 (expr_in n e)) (look_same n is p e) ∙ enter_same q e (g.look e)
  effect_same q (Cut t) (e ∷ []) held = ap (cut_by g (expr_in n e)) (look_same n is p e) ∙ cut_same e (g.look e)
  effect_same q (Print t) (e ∷ []) held = ap (print_by g (expr_in n e)) (look_same n is p e) ∙ print_same e (g.look e)
  effect_same q (Probe t i) (e ∷ []) held = ap (probe_by g i (expr_in n e)) (look_same n is p e) ∙ probe_same i e (g.look e)
  effect_same q (Refuse t) (e ∷ []) held = ap (refuse_by g) (look_same n is p e) ∙ refuse_same (g.look e)
  effect_same q (Pin t) (e ∷ []) held = ap (pin_by g (expr_in n e)) (look_same n is p e) ∙ pin_same e (g.look e)
  effect_same q (Attempt t m) (e ∷ []) held = ap (attempt_by g m (expr_in n e)) (look_same n is p e) ∙ attempt_same m e (g.look e)
  effect_same q _ _ held = refl
