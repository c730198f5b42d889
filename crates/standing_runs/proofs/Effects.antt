-- What a step brings may stand in a state again.
use Rattle.std.proofs.Common.{◌≡◌, ℕ, zero, suc, ◌^◌, Bool, true, false, cond, nat_eq, nat_lt, List, [], ◌∷◌, ◌++◌, Option, Some, None, ℤ, pos, option_map, option_and_then, refl, sym, subst, ◌∙◌}
use Rattle.std.specs.List.{AllByRecursion}
use Rattle.std.specs.Ordering.{nat_cmp}
use Rattle.std.specs.FinMap as map
use Rattle.std.specs.FinMap.{FinMap}
use Rattle.stab_base.specs.Datum.{Datum, unit, int, chan, reference, pair}
use Rattle.stab_base.specs.Limits.{is_within_limits}
use Rattle.stab_code.specs.Program.{ProgramParts}
use Rattle.stab_code.specs.Valid.{IsValid}
use Rattle.stab_journal.specs.declared.event.Label.{Label}
use Rattle.stab_journal.specs.declared.event.Label.TheVariants.{Local, Spawn, NewChan, Comm, NewRef, Get, Set, Enter, Cut, Print, Probe, Refuse, Pin, Attempt}
use Rattle.stab_journal.specs.Label.{actors, touched, written}
use Rattle.stab_journal.specs.Names.{read}
use Rattle.language.specs.Expression.{Expr}
use Rattle.language.specs.Numbers.{fits_word}
use Rattle.language.specs.Plain.{PlainState, effect_of, language_of, look_in}
use Rattle.language.specs.Steps.{Effect, exprs_at, held_at, put_threads, put_value, apply, effect_in, plain}
use Rattle.language.specs.Table.{spawns, makes_chan, makes_ref, gets, sets, sends, receives, picks, enters, stabilizes, cuts, pins, prints, probes, attempts, Look, done, fault, act, pure, pure_of, pure_steps, to, local_by, spawn_by, chan_by, ref_by, get_by, set_by, sent_by, picked, received_by, comm_by, enter_by, cut_by, pin_by, print_by, probe_by, refuse_by, attempt_by}
use Rattle.language.proofs.Applying.{get_inserted}
use Rattle.journal_laws.proofs.Stepping.{step_of}
use Rattle.journal_laws.proofs.Surviving.{some_is}
use Rattle.standing_runs.specs.Numbers.{NumbersFit}
use Rattle.standing_runs.specs.Whole.{IsValue}
use Rattle.standing_runs.proofs.Looks.{answered_stands, entered_stands, IsLook, look_is, MayStand, new_stands}
use Rattle.standing_runs.proofs.Outcomes.{word_fits}

module _ (p : ProgramParts) (valid : IsValid p) (fit : NumbersFit p) where
  -- what an effect brings
  record IsBrought (e : Effect Expr) : Type 0 where
    mine : MayStand p e.mine
    other : MayStand p e.other
    value : IsValue p e.value
    printed : AllByRecursion (IsValue p) e.printed

  abbrev SomeBrought : Option (Effect Expr) → Type 0
  SomeBrought None = Unit {0}
  SomeBrought (Some e) = IsBrought e

  abbrev SomeStands : Option Expr → Type 0
  SomeStands None = Unit {0}
  SomeStands (Some e) = MayStand p e

  abbrev SomeValue : Option Datum → Type 0
  SomeValue None = Unit {0}
  SomeValue (Some v) = IsValue p v

  goes : (e : Expr) → MayStand p e → IsBrought (to (language_of p) e)
  goes e h = record { mine = h; other = h; value = tt; printed = tt }

  answers : (e : Expr) (v : Datum) → MayStand p e → IsValue p v → IsBrought (to (language_of p) ((language_of p).answered e v))
  answers e v h l = goes _ (answered_stands p e v h l)

  pure_stands : (k : Look Expr) → IsLook p k → SomeStands (pure_of (language_of p) k)
  pure_stands (pure e) h = h
  pure_stands (done v) h = tt
  pure_stands (fault k) h = tt
  pure_stands (act a) h = tt

  then_stands : (n : ℕ) (o : Option Expr) → SomeStands o → ((e : Expr) → MayStand p e → SomeStands (pure_steps (language_of p) n e)) → SomeStands (option_and_then (pure_steps (language_of p) n) o)
  then_stands n None h f = tt
  then_stands n (Some e) h f = f e h

  steps_stand : (n : ℕ) (e : Expr) → MayStand p e → SomeStands (pure_steps (language_of p) n e)
  steps_stand zero e h = h
  steps_stand (suc n) e h = then_stands n (pure_of (language_of p) (look_in p e)) (pure_stands (look_in p e) (look_is p valid fit e h)) (steps_stand n)

  some_goes : (o : Option Expr) → SomeStands o → SomeBrought (option_map (to (language_of p)) o)
  some_goes None h = tt
  some_goes (Some e) h = goes e h

  local_brings : (n : ℕ) (e : Expr) → MayStand p e → SomeBrought (local_by (language_of p) n e)
  local_brings zero e h = tt
  local_brings (suc n) e h = some_goes (pure_steps (language_of p) (suc n) e) (steps_stand (suc n) e h)

  spawn_brings : (e : Expr) (k : Look Expr) → MayStand p e → IsLook p k → SomeBrought (spawn_by (language_of p) e k)
  spawn_brings e (act (spawns b)) h l = record { mine = answered_stands p e unit h tt; other = new_stands p b l; value = tt; printed = tt }
  spawn_brings e _ h l = tt

  chan_brings : (c : ℕ) (e : Expr) (k : Look Expr) → MayStand p e → SomeBrought (chan_by (language_of p) c e k)
  chan_brings c e (act makes_chan) h = answers e (chan c) h tt
  chan_brings c e _ h = tt

  ref_brings : (r : ℕ) (e : Expr) (k : Look Expr) → MayStand p e → IsLook p k → SomeBrought (ref_by (language_of p) r e k)
  ref_brings r e (act (makes_ref v)) h l = record { mine = answered_stands p e (reference r) h tt; other = h; value = l; printed = tt }
  ref_brings r e _ h l = tt

  held_brings : (e : Expr) (held : Option Datum) → MayStand p e → SomeValue held → SomeBrought (option_map (λ v. to (language_of p) ((language_of p).answered e v)) held)
  held_brings e None h l = tt
  held_brings e (Some v) h l = answers e v h l

  cond_brings : (b : Bool) (o : Option (Effect Expr)) → (b ≡ true → SomeBrought o) → SomeBrought (cond b o None)
  cond_brings true o h = h refl
  cond_brings false o h = tt

  get_brings : (r : ℕ) (e : Expr) (held : Option Datum) (k : Look Expr) → MayStand p e → SomeValue held → SomeBrought (get_by (language_of p) r e held k)
  get_brings r e held (act (gets q)) h l = cond_brings (nat_eq q r) _ (λ is. held_brings e held h l)
  get_brings r e held _ h l = tt

  set_brings : (r : ℕ) (e : Expr) (k : Look Expr) → MayStand p e → IsLook p k → SomeBrought (set_by (language_of p) r e k)
  set_brings r e (act (sets q v)) h l = cond_brings (nat_eq q r) _ (λ is. record { mine = answered_stands p e unit h tt; other = h; value = l; printed = tt })
  set_brings r e _ h l = tt

  sent_value : (c : ℕ) (k : Look Expr) → IsLook p k → SomeValue (sent_by (language_of p) c k)
  sent_value c (act (sends q v)) l = cond_value (nat_eq q c) (Some v) l
    where
      cond_value : (b : Bool) (o : Option Datum) → SomeValue o → SomeValue (cond b o None)
      cond_value true o h = h
      cond_value false o h = tt
  sent_value c _ l = tt

  cond_stands : (b : Bool) (o q : Option Expr) → SomeStands o → SomeStands q → SomeStands (cond b o q)
  cond_stands true o q h k = h
  cond_stands false o q h k = k

  cond_one : (b : Bool) (x y : Expr) → (b ≡ true → MayStand p x) → MayStand p y → MayStand p (cond b x y)
  cond_one true x y h k = h refl
  cond_one false x y h k = k

  picked_stands : (e : Expr) (i : ℤ) (v : Datum) → fits_word i ≡ true → MayStand p e → IsValue p v → MayStand p (picked (language_of p) e i v)
  picked_stands e i v fits h l = cond_one (is_within_limits (pair (int i) v)) _ _ (λ is. answered_stands p e (pair (int i) v) h (is, word_fits i fits, l)) tt

  received_stands : (c : ℕ) (e : Expr) (v : Datum) (k : Look Expr) → MayStand p e → IsValue p v → SomeStands (received_by (language_of p) c e v k)
  received_stands c e v (act (receives q)) h l = cond_stands (nat_eq q c) (Some _) None (answered_stands p e v h l) tt
  received_stands c e v (act (picks a b)) h l = cond_stands (nat_eq a c) (Some _) _ (picked_stands e (pos 0) v refl h l) (cond_stands (nat_eq b c) (Some _) None (picked_stands e (pos 1) v refl h l) tt)
  received_stands c e v _ h l = tt

  abbrev met : Expr → Expr → Effect Expr
  met a e = record { mine = (language_of p).answered a unit; other = e; value = unit; printed = [] }

  both_bring : (a : Expr) (o : Option Expr) → MayStand p a → SomeStands o → SomeBrought (option_map (met a) o)
  both_bring a None h l = tt
  both_bring a (Some e) h l = record { mine = answered_stands p a unit h tt; other = l; value = tt; printed = tt }

  comm_then : (c : ℕ) (a b : Expr) (o : Option Datum) → MayStand p a → MayStand p b → SomeValue o → SomeBrought (option_and_then (λ v. option_map (met a) (received_by (language_of p) c b v (look_in p b))) o)
  comm_then c a b None h k l = tt
  comm_then c a b (Some v) h k l = both_bring a _ h (received_stands c b v (look_in p b) k l)

  comm_brings : (c : ℕ) (a b : Expr) → MayStand p a → MayStand p b → SomeBrought (comm_by (language_of p) c a b)
  comm_brings c a b h k = comm_then c a b _ h k (sent_value c (look_in p a) (look_is p valid fit a h))

  enter_brings : (q : ℕ) (e : Expr) (k : Look Expr) → MayStand p e → IsLook p k → SomeBrought (enter_by (language_of p) q e k)
  enter_brings q e (act (enters b)) h l = goes _ (entered_stands p e q b h l)
  enter_brings q e _ h l = tt

  cut_brings : (e : Expr) (k : Look Expr) → MayStand p e → SomeBrought (cut_by (language_of p) e k)
  cut_brings e (act cuts) h = answers e unit h tt
  cut_brings e _ h = tt

  pin_brings : (e : Expr) (k : Look Expr) → MayStand p e → SomeBrought (pin_by (language_of p) e k)
  pin_brings e (act pins) h = answers e unit h tt
  pin_brings e _ h = tt

  print_brings : (e : Expr) (k : Look Expr) → MayStand p e → IsLook p k → SomeBrought (print_by (language_of p) e k)
  print_brings e (act (prints v)) h l = record { mine = answered_stands p e unit h tt; other = h; value = tt; printed = (l, tt) }
  print_brings e _ h l = tt

  probe_brings : (i : ℤ) (e : Expr) (k : Look Expr) → MayStand p e → SomeBrought (probe_by (language_of p) i e k)
  probe_brings i e (act probes) h = cond_brings (fits_word i) _ (λ is. answers e (int i) h (word_fits i is))
  probe_brings i e _ h = tt

  refuse_brings : (k : Look Expr) → SomeBrought (refuse_by (language_of p) k)
  refuse_brings (act stabilizes) = goes _ tt
  refuse_brings _ = tt

  attempt_brings : (n : ℕ) (e : Expr) (k : Look Expr) → MayStand p e → SomeBrought (attempt_by (language_of p) n e k)
  attempt_brings n e (act attempts) h = cond_brings (nat_lt n (2 ^ 63)) _ (λ is. answers e (int (pos n)) h (word_fits (pos n) is))
  attempt_brings n e _ h = tt

  effect_brings : (q : ℕ) (l : Label) (es : List Expr) (held : Option Datum) → AllByRecursion (MayStand p) es → SomeValue held → SomeBrought (effect_of p q l es held)
  effect_brings q (Local t n) (e ∷ []) held h v = local_brings n e h.0
  effect_brings q (Spawn t u) (e ∷ []) held h v = spawn_brings e (look_in p e) h.0 (look_is p valid fit e h.0)
  effect_brings q (NewChan t k) (e ∷ []) held h v = chan_brings k.0 e (look_in p e) h.0
  effect_brings q (Comm s t k) (a ∷ b ∷ []) held h v = comm_brings k.0 a b h.0 h.1.0
  effect_brings q (NewRef t k) (e ∷ []) held h v = ref_brings k.0 e (look_in p e) h.0 (look_is p valid fit e h.0)
  effect_brings q (Get t k) (e ∷ []) held h v = get_brings k.0 e held (look_in p e) h.0 v
  effect_brings q (Set t k) (e ∷ []) held h v = set_brings k.0 e (look_in p e) h.0 (look_is p valid fit e h.0)
  effect_brings q (Enter t) (e ∷ []) held h v = enter_brings q e (look_in p e) h.0 (look_is p valid fit e h.0)
  effect_brings q (Cut t) (e ∷ []) held h v = cut_brings e (look_in p e) h.0
  effect_brings q (Print t) (e ∷ []) held h v = print_brings e (look_in p e) h.0 (look_is p valid fit e h.0)
  effect_brings q (Probe t i) (e ∷ []) held h v = probe_brings i e (look_in p e) h.0
  effect_brings q (Refuse t) (e ∷ []) held h v = refuse_brings (look_in p e)
  effect_brings q (Pin t) (e ∷ []) held h v = pin_brings e (look_in p e) h.0
  effect_brings q (Attempt t n) (e ∷ []) held h v = attempt_brings n e (look_in p e) h.0
  effect_brings q _ _ held h v = tt

  -- what may be in a state
  pub record IsAllowed (s : PlainState) : Type 0 where
    pub threads : (t : ℕ) (e : Expr) → map.get s.threads t ≡ Some e → MayStand p e
    pub references : (r : ℕ) (v : Datum) → map.get s.references r ≡ Some v → IsValue p v
    pub output : AllByRecursion (IsValue p) s.output

  abbrev AllStand : Option (List Expr) → Type 0
  AllStand None = Unit {0}
  AllStand (Some es) = AllByRecursion (MayStand p) es

  more_stand : (e : Expr) (o : Option (List Expr)) → MayStand p e → AllStand o → AllStand (option_map (λ es. e ∷ es) o)
  more_stand e None h l = tt
  more_stand e (Some es) h l = (h, l)

  one_stands : (o : Option Expr) (q : Option (List Expr)) → SomeStands o → AllStand q → AllStand (option_and_then (λ e. option_map (λ es. e ∷ es) q) o)
  one_stands None q h l = tt
  one_stands (Some e) q h l = more_stand e q h l

  stands_by : (o : Option Expr) → ((e : Expr) → o ≡ Some e → MayStand p e) → SomeStands o
  stands_by None f = tt
  stands_by (Some e) f = f e refl

  value_by : (o : Option Datum) → ((v : Datum) → o ≡ Some v → IsValue p v) → SomeValue o
  value_by None f = tt
  value_by (Some v) f = f v refl

  actors_stand : (m : FinMap nat_cmp Expr) → ((t : ℕ) (e : Expr) → map.get m t ≡ Some e → MayStand p e) → (ts : List ℕ) → AllStand (exprs_at m ts)
  actors_stand m f [] = tt
  actors_stand m f (t ∷ ts) = one_stands (map.get m t) (exprs_at m ts) (stands_by (map.get m t) (f t)) (actors_stand m f ts)

  held_value : (m : FinMap nat_cmp Datum) → ((r : ℕ) (v : Datum) → map.get m r ≡ Some v → IsValue p v) → (o : Option ℕ) → SomeValue (held_at m o)
  held_value m f None = tt
  held_value m f (Some r) = value_by (map.get m r) (f r)

  made_brings : (q : ℕ) (l : Label) (o : Option (List Expr)) (held : Option Datum) → AllStand o → SomeValue held → SomeBrought (option_and_then (λ es. effect_of p q l es held) o)
  made_brings q l None held h v = tt
  made_brings q l (Some es) held h v = effect_brings q l es held h v

  cond_get : {X : Type 0} (b : Bool) (a e : X) (o : Option X) (Q : X → Type 0) → Q a → (o ≡ Some e → Q e) → cond b (Some a) o ≡ Some e → Q e
  cond_get true a e o Q h f is = subst Q (some_is is) h
  cond_get false a e o Q h f is = f is

  threads_stand : (ts : List ℕ) (a b : Expr) (m : FinMap nat_cmp Expr) → MayStand p a → MayStand p b → ((t : ℕ) (e : Expr) → map.get m t ≡ Some e → MayStand p e) → (t : ℕ) (e : Expr) → map.get (put_threads ts a b m) t ≡ Some e → MayStand p e
  threads_stand [] a b m h k f t e is = f t e is
  threads_stand (u ∷ ts) a b m h k f t e is = cond_get (nat_eq t u) a e _ (MayStand p) h (threads_stand ts b b m k k f t e) (sym (get_inserted (put_threads ts b b m) u a t) ∙ is)

  references_hold : (w : Option ℕ) (v : Datum) (m : FinMap nat_cmp Datum) → IsValue p v → ((r : ℕ) (v : Datum) → map.get m r ≡ Some v → IsValue p v) → (r : ℕ) (x : Datum) → map.get (put_value w v m) r ≡ Some x → IsValue p x
  references_hold None v m h f r x is = f r x is
  references_hold (Some u) v m h f r x is = cond_get (nat_eq r u) v x _ (IsValue p) h (f r x) (sym (get_inserted m u v r) ∙ is)

  all_append : (xs ys : List Datum) → AllByRecursion (IsValue p) xs → AllByRecursion (IsValue p) ys → AllByRecursion (IsValue p) (xs ++ ys)
  all_append [] ys h k = k
  all_append (x ∷ xs) ys h k = (h.0, all_append xs ys h.1 k)

  applied : (s : PlainState) (q : ℕ) (l : Label) (e : Effect Expr) → IsAllowed s → effect_in (effect_of p) s q l ≡ Some e → IsAllowed (apply s l e)
  applied s q l e h found =
      let brings : IsBrought e = subst SomeBrought found (made_brings q l (exprs_at s.threads (actors l)) (held_at s.references (read l)) (actors_stand s.threads h.threads (actors l)) (held_value s.references h.references (read l))) in
      record {
        threads = threads_stand (touched l) e.mine e.other s.threads brings.mine brings.other h.threads;
        references = references_hold (written l) e.value s.references brings.value h.references;
        output = all_append s.output e.printed h.output brings.printed;
      }

  -- a step keeps it
  pub step_allowed : (s n : PlainState) (q : ℕ) (l : Label) → IsAllowed s → plain (effect_of p) s q l ≡ Some n → IsAllowed n
  step_allowed s n q l h is = let st = step_of (effect_of p) s q l n is in subst IsAllowed (sym st.is) (applied s q l st.eff h st.found)
