-- A free step and an open one are apart.
use Rattle.std.proofs.Common.{◌≡◌, ℕ, zero, suc, Bool, true, false, cond, not, ◌&&◌, ◌||◌, nat_eq, List, [], ◌∷◌, Option, Some, None, refl, sym, ap, subst, ◌∙◌}
use Rattle.std.specs.Prelude.{ℤ, is_some, option_and_then, option_map}
use Rattle.std.specs.List.{list_any}
use Rattle.std.specs.Cmp.{nat_eq_equiv}
use Rattle.std.specs.FinMap as map
use Rattle.std.proofs.lemmas.Bool.{false≢true, eqb-true, not-true}
use Rattle.stab_base.specs.Datum.{Datum, unit}
use Rattle.stab_journal.specs.declared.event.Label.{Label}
use Rattle.stab_journal.specs.declared.event.Label.TheVariants.{Local, Spawn, NewChan, Comm, NewRef, Get, Set, Enter, Cut, Print, Probe, Refuse, Pin, Attempt}
use Rattle.stab_journal.specs.Due.{is_print}
use Rattle.stab_journal.specs.Label.{actors, touched, written}
use Rattle.stab_journal.specs.Names.{has, read, made}
use Rattle.language.specs.Steps.{State, Effect, allows, exprs_at, held_at, plain}
use Rattle.language.specs.Table.{spawns, makes_chan, makes_ref, gets, sets, sends, receives, picks, enters, stabilizes, cuts, pins, prints, probes, attempts, Look, done, fault, act, pure, Language, pure_of, pure_steps, to, spawn_by, chan_by, ref_by, get_by, set_by, sent_by, received_by, enter_by, cut_by, pin_by, print_by, probe_by, refuse_by, attempt_by, effect}
use Rattle.journal_laws.proofs.Stepping.{step_of}
use Rattle.explore_laws.specs.Apart.{is_one, disturbs, are_apart}
use Rattle.explore_laws.specs.Free.{is_free, is_open}

-- the kind of a free step that is next, 0 for any other
abbrev pub code : {E : Type 0} → Look E → ℕ
code (pure e) = 1
code (act (spawns b)) = 2
code (act makes_chan) = 3
code (act (makes_ref v)) = 4
code (act (enters b)) = 5
code _ = 0

-- the kind of a free step
abbrev pub code_of : Label → ℕ
code_of (Local t n) = 1
code_of (Spawn t u) = 2
code_of (NewChan t c) = 3
code_of (NewRef t r) = 4
code_of (Enter t) = 5
code_of _ = 0

pub code_positive : (k : Label) → is_free k ≡ true → nat_eq (code_of k) 0 ≡ false
code_positive (Local t n) free = refl
code_positive (Spawn t u) free = refl
code_positive (NewChan t c) free = refl
code_positive (NewRef t r) free = refl
code_positive (Enter t) free = refl
code_positive k free = absurd (false≢true free)

nothing : {A B : Type 0} (x : A) → None ≡ Some x → B
nothing x h = absurd (cc)

some_same : {A : Type 0} (x y : A) → Some x ≡ Some y → x ≡ y
some_same x y h = cc

module _ {E : Type 0} (g : Language E) where
  -- a free step is made by a thread that goes free
  local_free : (n : ℕ) (e : E) (f : Effect E) (k : Look E) → option_map (to g) (option_and_then (pure_steps g n) (pure_of g k)) ≡ Some f → code k ≡ 1
  local_free n e f (pure x) h = refl
  local_free n e f (done v) h = nothing f h
  local_free n e f (fault k) h = nothing f h
  local_free n e f (act a) h = nothing f h

  spawn_free : (e : E) (f : Effect E) (k : Look E) → spawn_by g e k ≡ Some f → code k ≡ 2
  spawn_free e f (act (spawns b)) h = refl
  spawn_free e f k h = nothing f h

  chan_free : (c : ℕ) (e : E) (f : Effect E) (k : Look E) → chan_by g c e k ≡ Some f → code k ≡ 3
  chan_free c e f (act makes_chan) h = refl
  chan_free c e f k h = nothing f h

  ref_free : (r : ℕ) (e : E) (f : Effect E) (k : Look E) → ref_by g r e k ≡ Some f → code k ≡ 4
  ref_free r e f (act (makes_ref v)) h = refl
  ref_free r e f k h = nothing f h

  enter_free : (q : ℕ) (e : E) (f : Effect E) (k : Look E) → enter_by g q e k ≡ Some f → code k ≡ 5
  enter_free q e f (act (enters b)) h = refl
  enter_free q e f k h = nothing f h

  -- an open step is made by threads that don't
  get_open : (r : ℕ) (e : E) (held : Option Datum) (f : Effect E) (k : Look E) → get_by g r e held k ≡ Some f → code k ≡ 0
  get_open r e held f (act (gets q)) h = refl
  get_open r e held f k h = nothing f h

  set_open : (r : ℕ) (e : E) (f : Effect E) (k : Look E) → set_by g r e k ≡ Some f → code k ≡ 0
  set_open r e f (act (sets q v)) h = refl
  set_open r e f k h = nothing f h

  cut_open : (e : E) (f : Effect E) (k : Look E) → cut_by g e k ≡ Some f → code k ≡ 0
  cut_open e f (act cuts) h = refl
  cut_open e f k h = nothing f h

  pin_open : (e : E) (f : Effect E) (k : Look E) → pin_by g e k ≡ Some f → code k ≡ 0
  pin_open e f (act pins) h = refl
  pin_open e f k h = nothing f h

  print_open : (e : E) (f : Effect E) (k : Look E) → print_by g e k ≡ Some f → code k ≡ 0
  print_open e f (act (prints v)) h = refl
  print_open e f k h = nothing f h

  probe_open : (i : ℤ) (e : E) (f : Effect E) (k : Look E) → probe_by g i e k ≡ Some f → code k ≡ 0
  probe_open i e f (act probes) h = refl
  probe_open i e f k h = nothing f h

  refuse_open : (f : Effect E) (k : Look E) → refuse_by g k ≡ Some f → code k ≡ 0
  refuse_open f (act stabilizes) h = refl
  refuse_open f k h = nothing f h

  attempt_open : (m : ℕ) (e : E) (f : Effect E) (k : Look E) → attempt_by g m e k ≡ Some f → code k ≡ 0
  attempt_open m e f (act attempts) h = refl
  attempt_open m e f k h = nothing f h

  sent_open : (c : ℕ) (v : Datum) (k : Look E) → sent_by g c k ≡ Some v → code k ≡ 0
  sent_open c v (act (sends q w)) h = refl
  sent_open c v k h = nothing v h

  received_open : (c : ℕ) (e : E) (v : Datum) (x : E) (k : Look E) → received_by g c e v k ≡ Some x → code k ≡ 0
  received_open c e v x (act (receives q)) h = refl
  received_open c e v x (act (picks a b)) h = refl
  received_open c e v x k h = nothing x h

  met_open : (c : ℕ) (a b : E) (f : Effect E) (o : Option Datum) → sent_by g c (g.look a) ≡ o
      → option_and_then (λ v. option_map {U = Effect E} (λ e. record { mine = g.answered a unit; other = e; value = unit; printed = [] }) (received_by g c b v (g.look b))) o ≡ Some f
      → (code (g.look a) ≡ 0) × (code (g.look b) ≡ 0)
  met_open c a b f None sent h = nothing f h
  met_open c a b f (Some v) sent h = (sent_open c v (g.look a) sent, other (received_by g c b v (g.look b)) refl h)
    where
      other : (x : Option E) → received_by g c b v (g.look b) ≡ x → option_map {U = Effect E} (λ e. record { mine = g.answered a unit; other = e; value = unit; printed = [] }) x ≡ Some f → code (g.look b) ≡ 0
      other None got h = nothing f h
      other (Some x) got h = received_open c b v x (g.look b) got

  -- of each of these the next step has this kind
  abbrev pub All : ℕ → List E → Type 0
  All k [] = Unit {0}
  All k (e ∷ es) = (code (g.look e) ≡ k) × All k es

  pub free_effect : (q : ℕ) (l : Label) (es : List E) (held : Option Datum) (f : Effect E) → is_free l ≡ true → effect g q l es held ≡ Some f → All (code_of l) es
  free_effect q (Local t zero) (e ∷ []) held f free h = nothing f h
  free_effect q (Local t (suc n)) (e ∷ []) held f free h = (local_free n e f (g.look e) h, tt)
  free_effect q (Spawn t u) (e ∷ []) held f free h = (spawn_free e f (g.look e) h, tt)
  free_effect q (NewChan t c) (e ∷ []) held f free h = (chan_free c.0 e f (g.look e) h, tt)
  free_effect q (NewRef t r) (e ∷ []) held f free h = (ref_free r.0 e f (g.look e) h, tt)
  free_effect q (Enter t) (e ∷ []) held f free h = (enter_free q e f (g.look e) h, tt)
  free_effect q (Comm s r c) es held f free h = absurd (false≢true free)
  free_effect q (Get t r) es held f free h = absurd (false≢true free)
  free_effect q (Set t r) es held f free h = absurd (false≢true free)
  free_effect q (Cut t) es held f free h = absurd (false≢true free)
  free_effect q (Print t) es held f free h = absurd (false≢true free)
  free_effect q (Probe t i) es held f free h = absurd (false≢true free)
  free_effect q (Refuse t) es held f free h = absurd (false≢true free)
  free_effect q (Pin t) es held f free h = absurd (false≢true free)
  free_effect q (Attempt t m) es held f free h = absurd (false≢true free)
  free_effect q _ [] held f free h = tt
  free_effect q _ (e ∷ d ∷ es) held f free h = nothing f h

  pub open_effect : (q : ℕ) (l : Label) (es : List E) (held : Option Datum) (f : Effect E) → is_open l ≡ true → effect g q l es held ≡ Some f → All 0 es
  open_effect q (Comm s r c) (a ∷ b ∷ []) held f opened h = let both = met_open c.0 a b f (sent_by g c.0 (g.look a)) refl h in (both.0, (both.1, tt))
  open_effect q (Get t r) (e ∷ []) held f opened h = (get_open r.0 e held f (g.look e) h, tt)
  open_effect q (Set t r) (e ∷ []) held f opened h = (set_open r.0 e f (g.look e) h, tt)
  open_effect q (Cut t) (e ∷ []) held f opened h = (cut_open e f (g.look e) h, tt)
  open_effect q (Print t) (e ∷ []) held f opened h = (print_open e f (g.look e) h, tt)
  open_effect q (Probe t i) (e ∷ []) held f opened h = (probe_open i e f (g.look e) h, tt)
  open_effect q (Refuse t) (e ∷ []) held f opened h = (refuse_open f (g.look e) h, tt)
  open_effect q (Pin t) (e ∷ []) held f opened h = (pin_open e f (g.look e) h, tt)
  open_effect q (Attempt t m) (e ∷ []) held f opened h = (attempt_open m e f (g.look e) h, tt)
  open_effect q (Local t n) es held f opened h = absurd (false≢true opened)
  open_effect q (Spawn t u) es held f opened h = absurd (false≢true opened)
  open_effect q (NewChan t c) es held f opened h = absurd (false≢true opened)
  open_effect q (NewRef t r) es held f opened h = absurd (false≢true opened)
  open_effect q (Enter t) es held f opened h = absurd (false≢true opened)
  open_effect q _ [] held f opened h = tt
  open_effect q (Comm s r c) (a ∷ []) held f opened h = nothing f h
  open_effect q (Comm s r c) (a ∷ b ∷ d ∷ es) held f opened h = nothing f h
  open_effect q _ (e ∷ d ∷ es) held f opened h = nothing f h

  module _ (s : State E) where
    -- each of these threads is there, and its next step has this kind
    abbrev pub AreAt : ℕ → List ℕ → Type 0
    AreAt b [] = Unit {0}
    AreAt b (t ∷ ts) = ((e : E) × (map.get s.threads t ≡ Some e) × (code (g.look e) ≡ b)) × AreAt b ts

    one_more : (b : ℕ) (t : ℕ) (ts : List ℕ) (es : List E) → ((ds : List E) → exprs_at s.threads ts ≡ Some ds → All b ds → AreAt b ts) → (o : Option E) (os : Option (List E)) → map.get s.threads t ≡ o → exprs_at s.threads ts ≡ os
        → option_and_then (λ e. option_map (λ ds. e ∷ ds) os) o ≡ Some es → All b es → AreAt b (t ∷ ts)
    one_more b t ts es rest None os at also h all = nothing es h
    one_more b t ts es rest (Some e) None at also h all = nothing es h
    one_more b t ts es rest (Some e) (Some ds) at also h all =
        let is : es ≡ e ∷ ds = cc in
        let parts : All b (e ∷ ds) = subst (All b) is all in
        ((e, at, parts.0), rest ds also parts.1)

    are_at : (b : ℕ) (ts : List ℕ) (es : List E) → exprs_at s.threads ts ≡ Some es → All b es → AreAt b ts
    are_at b [] es h all = tt
    are_at b (t ∷ ts) es h all = one_more b t ts es (are_at b ts) (map.get s.threads t) (exprs_at s.threads ts) refl refl h all

    pub from_effect : (b : ℕ) (q : ℕ) (l : Label) (f : Effect E) (o : Option (List E)) → exprs_at s.threads (actors l) ≡ o → ((es : List E) → effect g q l es (held_at s.references (read l)) ≡ Some f → All b es)
        → option_and_then (λ es. effect g q l es (held_at s.references (read l))) o ≡ Some f → AreAt b (actors l)
    from_effect b q l f None at each h = nothing f h
    from_effect b q l f (Some es) at each h = are_at b (actors l) es at (each es h)

    -- two threads whose next steps have other kinds are two
    pub differ : (t u j k : ℕ) (e d : E) → nat_eq j k ≡ false → map.get s.threads t ≡ Some e → map.get s.threads u ≡ Some d → code (g.look e) ≡ j → code (g.look d) ≡ k → (b : Bool) → nat_eq u t ≡ b → b ≡ false
    differ t u j k e d other at also goes stays false is = refl
    differ t u j k e d other at also goes stays true is =
        let same : e ≡ d = some_same e d (sym at ∙ ap (map.get s.threads) (sym (eqb-true u t is)) ∙ also) in
        let kinds : j ≡ k = sym goes ∙ ap (λ x. code (g.look x)) same ∙ stays in
        absurd (false≢true (sym other ∙ ap (λ x. nat_eq j x) (sym kinds) ∙ nat_eq_equiv.refl j))

pub or_none : (a b : Bool) → a ≡ false → b ≡ false → (a || b) ≡ false
or_none a b h k = ap (λ c. c || b) h ∙ k

-- a number that is there isn't a new one
pub is_new : (f : ℕ → Bool) (u v : ℕ) → not (f u) ≡ true → f v ≡ true → (b : Bool) → nat_eq v u ≡ b → b ≡ false
is_new f u v new there false is = refl
is_new f u v new there true is = absurd (false≢true (sym (not-true (f u) new) ∙ ap f (sym (eqb-true v u is)) ∙ there))

module _ {E : Type 0} (g : Language E) (s : State E) where
  none_of : (p : ℕ → Bool) (ts : List ℕ) → ((v : ℕ) (d : E) → map.get s.threads v ≡ Some d → code (g.look d) ≡ 0 → p v ≡ false) → AreAt g s 0 ts → list_any p ts ≡ false
  none_of p [] f at = refl
  none_of p (v ∷ vs) f at = or_none (p v) (list_any p vs) (f v at.0.0 at.0.1 at.0.2) (none_of p vs f at.1)

  -- what a free step touches isn't a thread that stays
  module _ (v : ℕ) (d : E) (at : map.get s.threads v ≡ Some d) (stays : code (g.look d) ≡ 0) where
    not_it : (j t : ℕ) → nat_eq j 0 ≡ false → AreAt g s j (t ∷ []) → nat_eq v t ≡ false
    not_it j t other goes = differ g s t v j 0 goes.0.0 d other goes.0.1 at goes.0.2 stays _ refl

    one_only : (j t : ℕ) → nat_eq j 0 ≡ false → AreAt g s j (t ∷ []) → has (t ∷ []) v ≡ false
    one_only j t other goes = ap (λ b. cond b true false) (not_it j t other goes)

    pub untouched : (k : Label) → is_free k ≡ true → allows s k ≡ true → AreAt g s (code_of k) (actors k) → has (touched k) v ≡ false
    untouched (Local t n) free ok goes = one_only _ t.0 refl goes
    untouched (Spawn t u) free ok goes =
        ap (λ b. cond b true (cond (nat_eq v u.0) true false)) (not_it 2 t.0 refl goes)
        ∙ ap (λ b. cond b true false) (is_new (λ x. map.contains_key s.threads x) u.0 v ok (ap is_some at) _ refl)
    untouched (NewChan t c) free ok goes = one_only _ t.0 refl goes
    untouched (NewRef t r) free ok goes = one_only _ t.0 refl goes
    untouched (Enter t) free ok goes = one_only _ t.0 refl goes
    untouched (Comm t r c) free ok goes = absurd (false≢true free)
    untouched (Get t r) free ok goes = absurd (false≢true free)
    untouched (Set t r) free ok goes = absurd (false≢true free)
    untouched (Cut t) free ok goes = absurd (false≢true free)
    untouched (Print t) free ok goes = absurd (false≢true free)
    untouched (Probe t i) free ok goes = absurd (false≢true free)
    untouched (Refuse t) free ok goes = absurd (false≢true free)
    untouched (Pin t) free ok goes = absurd (false≢true free)
    untouched (Attempt t m) free ok goes = absurd (false≢true free)

  -- a list that has a number has it at one place
  pub swap_any : (ts us : List ℕ) → list_any (has ts) us ≡ false → list_any (has us) ts ≡ false
  swap_any [] us h = refl
  swap_any (t ∷ ts) us h = or_none (has us t) (list_any (has us) ts) (absent us t (first us t ts h)) (swap_any ts us (rest us t ts h))
    where
      first : (us : List ℕ) (t : ℕ) (ts : List ℕ) → list_any (has (t ∷ ts)) us ≡ false → list_any (λ u. nat_eq u t) us ≡ false
      first [] t ts h = refl
      first (u ∷ us) t ts h = parted (nat_eq u t) (has ts u) (list_any (has (t ∷ ts)) us) (list_any (λ x. nat_eq x t) us) h (first us t ts)
        where
          parted : (a b c d : Bool) → (cond a true b || c) ≡ false → (c ≡ false → d ≡ false) → (a || d) ≡ false
          parted true b c d h f = absurd (false≢true (sym h))
          parted false true c d h f = absurd (false≢true (sym h))
          parted false false c d h f = f h

      rest : (us : List ℕ) (t : ℕ) (ts : List ℕ) → list_any (has (t ∷ ts)) us ≡ false → list_any (has ts) us ≡ false
      rest [] t ts h = refl
      rest (u ∷ us) t ts h = parted (nat_eq u t) (has ts u) (list_any (has (t ∷ ts)) us) (list_any (has ts) us) h (rest us t ts)
        where
          parted : (a b c d : Bool) → (cond a true b || c) ≡ false → (c ≡ false → d ≡ false) → (b || d) ≡ false
          parted true b c d h f = absurd (false≢true (sym h))
          parted false true c d h f = absurd (false≢true (sym h))
          parted false false c d h f = f h

      absent : (us : List ℕ) (t : ℕ) → list_any (λ u. nat_eq u t) us ≡ false → has us t ≡ false
      absent [] t h = refl
      absent (u ∷ us) t h = other (nat_eq u t) (nat_eq t u) (list_any (λ x. nat_eq x t) us) (has us t) (turned t u) h (absent us t)
        where
          turned : (t u : ℕ) → nat_eq t u ≡ nat_eq u t
          turned t u = nat_eq_equiv.symm t u

          other : (a b c d : Bool) → b ≡ a → (a || c) ≡ false → (c ≡ false → d ≡ false) → cond b true d ≡ false
          other true b c d is h f = absurd (false≢true (sym h))
          other false b c d is h f = ap (λ x. cond x true d) is ∙ f h

  -- references
  abbrev HasRef : Option ℕ → Type 0
  HasRef None = Unit {0}
  HasRef (Some r) = map.contains_key s.references r ≡ true

  new_other : (f : ℕ → Bool) (u v : ℕ) → not (f u) ≡ true → f v ≡ true → (b : Bool) → nat_eq u v ≡ b → b ≡ false
  new_other f u v new there false is = refl
  new_other f u v new there true is = absurd (false≢true (sym (not-true (f u) new) ∙ ap f (eqb-true u v is) ∙ there))

  pub nobody : (o : Option ℕ) → is_one None o ≡ false
  nobody None = refl
  nobody (Some r) = refl

  new_one : (k : Label) → is_free k ≡ true → allows s k ≡ true → (o : Option ℕ) → HasRef o → (is_one (written k) o ≡ false) × (is_one o (written k) ≡ false)
  new_one (NewRef t q) free new None has_it = (refl, refl)
  new_one (NewRef t q) free new (Some r) has_it = (is_new (λ x. map.contains_key s.references x) q.0 r new has_it _ refl, new_other (λ x. map.contains_key s.references x) q.0 r new has_it _ refl)
  new_one (Local t n) free new o has_it = (nobody o, refl)
  new_one (Spawn t u) free new o has_it = (nobody o, refl)
  new_one (NewChan t c) free new o has_it = (nobody o, refl)
  new_one (Enter t) free new o has_it = (nobody o, refl)
  new_one (Comm t u c) free new o has_it = absurd (false≢true free)
  new_one (Get t r) free new o has_it = absurd (false≢true free)
  new_one (Set t r) free new o has_it = absurd (false≢true free)
  new_one (Cut t) free new o has_it = absurd (false≢true free)
  new_one (Print t) free new o has_it = absurd (false≢true free)
  new_one (Probe t i) free new o has_it = absurd (false≢true free)
  new_one (Refuse t) free new o has_it = absurd (false≢true free)
  new_one (Pin t) free new o has_it = absurd (false≢true free)
  new_one (Attempt t m) free new o has_it = absurd (false≢true free)

  none_either : (b : Bool) → cond {A = Option (Effect E)} b None None ≡ None
  none_either true = refl
  none_either false = refl

  get_none : (r : ℕ) (e : E) (k : Look E) → get_by g r e None k ≡ None
  get_none r e (act (gets q)) = none_either (nat_eq q r)
  get_none r e k = refl

  held_there : (r : ℕ) (e : E) (f : Effect E) (k : Look E) (h : Option Datum) → get_by g r e h k ≡ Some f → is_some h ≡ true
  held_there r e f k (Some v) h = refl
  held_there r e f k None h = nothing f (sym (get_none r e k) ∙ h)

  read_from : (q : ℕ) (l : Label) (f : Effect E) (o : Option (List E)) → option_and_then (λ es. effect g q l es (held_at s.references (read l))) o ≡ Some f → HasRef (read l)
  read_from q (Get t r) f None h = nothing f h
  read_from q (Get t r) f (Some []) h = nothing f h
  read_from q (Get t r) f (Some (e ∷ [])) h = held_there r.0 e f (g.look e) (map.get s.references r.0) h
  read_from q (Get t r) f (Some (e ∷ d ∷ es)) h = nothing f h
  read_from q l f o h = tt

  wrote : (l : Label) → is_open l ≡ true → allows s l ≡ true → HasRef (written l)
  wrote (Set t r) opened there = there
  wrote (NewRef t r) opened there = absurd (false≢true opened)
  wrote l opened there = tt

  touched_open : (l : Label) → is_open l ≡ true → touched l ≡ actors l
  touched_open (Spawn t u) opened = absurd (false≢true opened)
  touched_open l opened = refl

  made_open : (l : Label) → is_open l ≡ true → made l ≡ None
  made_open (NewChan t c) opened = absurd (false≢true opened)
  made_open l opened = refl

  pub reads_none : (k : Label) → is_free k ≡ true → read k ≡ None
  reads_none (Get t r) free = absurd (false≢true free)
  reads_none k free = refl

  pub prints_none : (k : Label) → is_free k ≡ true → is_print k ≡ false
  prints_none (Print t) free = absurd (false≢true free)
  prints_none k free = refl

  pub all_false : (a b c d : Bool) → a ≡ false → b ≡ false → c ≡ false → (not a && (not b && not (c && d))) ≡ true
  all_false a b c d h k m = ap (λ x. not x && (not b && not (c && d))) h ∙ ap (λ x. not x && not (c && d)) k ∙ ap (λ x. not (x && d)) m

  -- a free step and an open one are apart
  pub free_apart : (q r : ℕ) (k l : Label) (a b : State E) → is_free k ≡ true → is_open l ≡ true → plain (effect g) s q k ≡ Some a → plain (effect g) s r l ≡ Some b → are_apart k l ≡ true
  free_apart q r k l a b free opened first second =
      let x = step_of (effect g) s q k a first in
      let y = step_of (effect g) s r l b second in
      let goes : AreAt g s (code_of k) (actors k) = from_effect g s (code_of k) q k x.eff (exprs_at s.threads (actors k)) refl (λ es h. free_effect g q k es (held_at s.references (read k)) x.eff free h) x.found in
      let stays : AreAt g s 0 (actors l) = from_effect g s 0 r l y.eff (exprs_at s.threads (actors l)) refl (λ es h. open_effect g r l es (held_at s.references (read l)) y.eff opened h) y.found in
      let threads : list_any (has (touched k)) (touched l) ≡ false = ap (list_any (has (touched k))) (touched_open l opened) ∙ none_of (has (touched k)) (actors l) (λ v d at stay. untouched v d at stay k free x.allowed goes) stays in
      let reads = new_one k free x.allowed (read l) (read_from r l y.eff (exprs_at s.threads (actors l)) y.found) in
      let writes = new_one k free x.allowed (written l) (wrote l opened y.allowed) in
      let there : disturbs k l ≡ false =
      or_none (list_any (has (touched k)) (touched l)) _ threads (or_none (is_one (written k) (read l)) _ reads.0 (or_none (is_one (written k) (written l)) _ writes.0 (ap (is_one (made k)) (made_open l opened)))) in
      let back : disturbs l k ≡ false =
      or_none (list_any (has (touched l)) (touched k)) _ (swap_any (touched k) (touched l) threads) (or_none (is_one (written l) (read k)) _ (ap (is_one (written l)) (reads_none k free)) (or_none (is_one (written l) (written k)) _ writes.1
      (ap (λ o. is_one o (made k)) (made_open l opened) ∙ nobody (made k)))) in
      all_false (disturbs k l) (disturbs l k) (is_print k) (is_print l) there back (prints_none k free)
