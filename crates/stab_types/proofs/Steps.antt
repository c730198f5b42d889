-- Each step of a typed program keeps the types of a state.
use Rattle.std.proofs.Common.{◌≡◌, ℕ, zero, suc, Bool, true, false, cond, not, ◌||◌, nat_eq, List, [], ◌∷◌, slice_get, Option, Some, None, refl, sym, ap, subst, ◌∙◌}
use Rattle.std.specs.Prelude.{ℤ, pos, ◌^◌, option_and_then, option_map, is_some, nat_lt, IfSome}
use Rattle.std.specs.Cmp.{nat_eq_equiv}
use Rattle.std.specs.Ordering.{nat_cmp}
use Rattle.std.specs.FinMap as map
use Rattle.std.specs.FinSet as set
use Rattle.std.proofs.lemmas.Bool.{false≢true, eqb-true, not-true}
use Rattle.stab_base.specs.Datum.{Datum, unit, int, chan, reference, pair}
use Rattle.stab_base.specs.Limits.{is_within_limits}
use Rattle.stab_base.specs.declared.fault.Fault.TheVariants.{WrongKind, DeepValue, NoSection}
use Rattle.stab_base.specs.declared.numbers.ChanId.{ChanId}
use Rattle.stab_base.specs.declared.numbers.RefId.{RefId}
use Rattle.stab_base.specs.declared.numbers.ThreadId.{ThreadId}
use Rattle.stab_code.specs.Program.{FunctionParts}
use Rattle.stab_code.specs.Written.{Written, unit_type, int_type, chan_type, ref_type, pair_type}
use Rattle.stab_journal.specs.declared.event.Label.{Label}
use Rattle.stab_journal.specs.declared.event.Label.TheVariants.{Local, Spawn, NewChan, Comm, NewRef, Get, Set, Enter, Cut, Print, Probe, Refuse, Pin, Attempt}
use Rattle.stab_journal.specs.Label.{actors, touched, written}
use Rattle.stab_journal.specs.Names.{read, made}
use Rattle.language.specs.Numbers.{fits_word}
use Rattle.language.specs.Expression.{Expr, value, form, none, part}
use Rattle.language.specs.declared.head.Head.TheVariants.{Section}
use Rattle.language.specs.Redex.{cap, rebuild}
use Rattle.language.specs.Outcome.{called}
use Rattle.language.specs.Look.{look, language, answered}
use Rattle.language.specs.Steps.{State, Effect, allows, exprs_at, held_at, put_threads, put_value, put_channel, apply, plain}
use Rattle.language.specs.Table.{spawns, makes_chan, makes_ref, gets, sets, sends, receives, picks, enters, stabilizes, cuts, pins, prints, probes, attempts, Look, done, fault, act, pure, Language, pure_of, pure_steps, to, local_by, spawn_by, chan_by, ref_by, get_by, set_by, sent_by, picked, received_by, comm_by, enter_by, cut_by, pin_by, print_by, probe_by, refuse_by, attempt_by, effect}
use Rattle.language.proofs.Applying.{get_inserted, put_channel-is}
use Rattle.language.proofs.Touching.{step_of}
use Rattle.stab_types.specs.ExprType.{ExprType, of, all_of}
use Rattle.stab_types.proofs.World.{World, IsMore, same_world, Fits, FitsType, AllFit, under_refl, fits_more}
use Rattle.stab_types.proofs.Running.{Runs, section, nothing_seen}
use Rattle.stab_types.proofs.Putting.{some_is}
use Rattle.stab_types.proofs.Redexes.{IsSafe, safe_of, safe_more, LookFits, look_fits}

deep_value : DeepValue ≡ WrongKind → ⊥
deep_value e = cc

no_section : NoSection ≡ WrongKind → ⊥
no_section e = cc

cond_get : {X : Type 0} (b : Bool) (a e : X) (o : Option X) (Q : X → Type 0) → Q a → (o ≡ Some e → Q e) → cond b (Some a) o ≡ Some e → Q e
cond_get true a e o Q h f is = subst Q (some_is is) h
cond_get false a e o Q h f is = f is

module _ (functions : List FunctionParts) where
  -- what a reference holds has the reference's type
  abbrev pub Holds : World → ℕ → Datum → Type 0
  Holds w r v = (a : Written) × (w.references r ≡ Some a) × Fits w v a

  -- each thread is safe, each reference holds a value of its type, and only channels and references that are there have a type
  pub record IsTypedState (w : World) (s : State Expr) : Type 0 where
    pub threads : (t : ℕ) (e : Expr) → map.get s.threads t ≡ Some e → IsSafe functions w e
    pub holds : (r : ℕ) (v : Datum) → map.get s.references r ≡ Some v → Holds w r v
    pub channels : (c : ℕ) (a : Written) → w.channels c ≡ Some a → set.contains s.channels c ≡ true
    pub references : (r : ℕ) (a : Written) → w.references r ≡ Some a → map.contains_key s.references r ≡ true

  -- an effect keeps types, where those of what it makes are added
  record Brings (s : State Expr) (w : World) (l : Label) (e : Effect Expr) : Type 0 where
    world : World
    more : IsMore w world
    mine : IsSafe functions world e.mine
    other : IsSafe functions world e.other
    holds : IfSome (written l) (λ r. Holds world r e.value)
    channels : (c : ℕ) (a : Written) → world.channels c ≡ Some a → set.contains (put_channel (made l) s.channels) c ≡ true
    references : (r : ℕ) (a : Written) → world.references r ≡ Some a → map.contains_key (put_value (written l) e.value s.references) r ≡ true

  threads_safe : (w : World) (ts : List ℕ) (a b : Expr) (m : map.FinMap nat_cmp Expr) → IsSafe functions w a → IsSafe functions w b → ((t : ℕ) (e : Expr) → map.get m t ≡ Some e → IsSafe functions w e) →
      (t : ℕ) (e : Expr) → map.get (put_threads ts a b m) t ≡ Some e → IsSafe functions w e
  threads_safe w [] a b m h k f t e is = f t e is
  threads_safe w (u ∷ ts) a b m h k f t e is = cond_get (nat_eq t u) a e _ (IsSafe functions w) h (threads_safe w ts b b m k k f t e) (sym (get_inserted (put_threads ts b b m) u a t) ∙ is)

  holds_at : (w : World) (o : Option ℕ) (v : Datum) (m : map.FinMap nat_cmp Datum) → IfSome o (λ r. Holds w r v) → ((r : ℕ) (x : Datum) → map.get m r ≡ Some x → Holds w r x) →
      (r : ℕ) (x : Datum) → map.get (put_value o v m) r ≡ Some x → Holds w r x
  holds_at w None v m h f r x is = f r x is
  holds_at w (Some u) v m h f r x is =
      elim (nat_eq r u) as (λ b. nat_eq r u ≡ b → cond b (Some v) (map.get m r) ≡ Some x → Holds w r x) [
        | true ↦ λ at is. subst (λ (y : Datum). Holds w r y) (some_is is) (subst (λ (q : ℕ). Holds w q v) (sym (eqb-true r u at)) h)
        | false ↦ λ at is. f r x is
      ] refl (sym (get_inserted m u v r) ∙ is)

  holds_more : (w v : World) → IsMore w v → (r : ℕ) (x : Datum) → Holds w r x → Holds v r x
  holds_more w v more r x h = (h.0, more.references r h.0 h.1, fits_more w v more x h.0 h.2)

  -- a state after an effect that keeps types
  after_effect : (s : State Expr) (w : World) (l : Label) (e : Effect Expr) → IsTypedState w s → (b : Brings s w l e) → IsTypedState b.world (apply s l e)
  after_effect s w l e typed b = record {
    threads = threads_safe b.world (touched l) e.mine e.other s.threads b.mine b.other (λ t x is. safe_more functions w b.world b.more x (typed.threads t x is));
    holds = holds_at b.world (written l) e.value s.references b.holds (λ r x is. holds_more w b.world b.more r x (typed.holds r x is));
    channels = b.channels;
    references = b.references;
  }

  module _ (body : ℕ → Expr)
      (bodies : (w : World) (f : ℕ) (callee : FunctionParts) (vs : List Datum) → slice_get functions f ≡ Some callee → AllFit w vs (all_of callee.takes) → Runs functions w nothing_seen (called body f vs) (of callee.gives))
      (s : State Expr) (w : World) (typed : IsTypedState w s) where
    abbrev g : Language Expr
    g = language body

    abbrev Some_ : Label → Option (Effect Expr) → Type 0
    Some_ l None = Unit {0}
    Some_ l (Some e) = Brings s w l e

    looks : (e : Expr) → IsSafe functions w e → LookFits functions w e (look body e)
    looks e safe = look_fits functions w body (bodies w) e safe

    -- steps that make and write nothing
    stays : (l : Label) (e : Effect Expr) → made l ≡ None → written l ≡ None → IsSafe functions w e.mine → IsSafe functions w e.other → Brings s w l e
    stays l e makes writes mine other = record {
      world = w;
      more = same_world w;
      mine = mine;
      other = other;
      holds = subst (λ (o : Option ℕ). IfSome o (λ r. Holds w r e.value)) (sym writes) tt;
      channels = λ c a h. ap (λ (o : Option ℕ). set.contains (put_channel o s.channels) c) makes ∙ typed.channels c a h;
      references = λ r a h. ap (λ (o : Option ℕ). map.contains_key (put_value o e.value s.references) r) writes ∙ typed.references r a h;
    }

    goes : (l : Label) (e : Expr) → made l ≡ None → written l ≡ None → IsSafe functions w e → Brings s w l (to g e)
    goes l e makes writes safe = stays l (to g e) makes writes safe safe

    -- a value of the right type answers an act
    answers : (e : Expr) (u : ExprType) (v : World) (x : Datum) (t : ExprType) → IsMore w v → ((v : World) → IsMore w v → (x : Expr) → Runs functions v nothing_seen x u → IsSafe functions v (cap (rebuild e x))) → u ≡ t → FitsType v x t →
        IsSafe functions v (answered e x)
    answers e u v x t more back is fit = back v more (value x) (subst (FitsType v x) (sym is) fit)

    abbrev SafeIf : Option Expr → Type 0
    SafeIf None = Unit {0}
    SafeIf (Some e) = IsSafe functions w e

    pure_safe : (e : Expr) (k : Look Expr) → LookFits functions w e k → SafeIf (pure_of g k)
    pure_safe e (pure x) h = h
    pure_safe e (done v) h = tt
    pure_safe e (fault k) h = tt
    pure_safe e (act a) h = tt

    then_safe : (n : ℕ) (o : Option Expr) → SafeIf o → ((e : Expr) → IsSafe functions w e → SafeIf (pure_steps g n e)) → SafeIf (option_and_then (pure_steps g n) o)
    then_safe n None h f = tt
    then_safe n (Some e) h f = f e h

    steps_safe : (n : ℕ) (e : Expr) → IsSafe functions w e → SafeIf (pure_steps g n e)
    steps_safe zero e h = h
    steps_safe (suc n) e h = then_safe n (pure_of g (g.look e)) (pure_safe e (g.look e) (looks e h)) (steps_safe n)

    some_to : (l : Label) (o : Option Expr) → made l ≡ None → written l ≡ None → SafeIf o → Some_ l (option_map (to g) o)
    some_to l None makes writes h = tt
    some_to l (Some e) makes writes h = goes l e makes writes h

    local_brings : (l : Label) (n : ℕ) (e : Expr) → made l ≡ None → written l ≡ None → IsSafe functions w e → Some_ l (local_by g n e)
    local_brings l zero e makes writes h = tt
    local_brings l (suc n) e makes writes h = some_to l (pure_steps g (suc n) e) makes writes (steps_safe (suc n) e h)

    spawn_brings : (l : Label) (e : Expr) (k : Look Expr) → made l ≡ None → written l ≡ None → LookFits functions w e k → Some_ l (spawn_by g e k)
    spawn_brings l e (act (spawns b)) makes writes h =
        stays l _ makes writes (answers e h.0 w unit (of unit_type) (same_world w) h.2 h.1.2 tt) (safe_of functions w b h.1.0 h.1.1)
    spawn_brings l e _ makes writes h = tt

    enter_brings : (l : Label) (q : ℕ) (e : Expr) (k : Look Expr) → made l ≡ None → written l ≡ None → LookFits functions w e k → Some_ l (enter_by g q e k)
    enter_brings l q e (act (enters b)) makes writes h =
        goes l _ makes writes (h.2 w (same_world w) (form (Section (record { 0 = q })) (part b none)) (h.0 ∷ [], h.0, (h.1, tt), section (record { 0 = q }), under_refl h.0))
    enter_brings l q e _ makes writes h = tt

    cut_brings : (l : Label) (e : Expr) (k : Look Expr) → made l ≡ None → written l ≡ None → LookFits functions w e k → Some_ l (cut_by g e k)
    cut_brings l e (act cuts) makes writes h = goes l _ makes writes (answers e h.0 w unit (of unit_type) (same_world w) h.2 h.1 tt)
    cut_brings l e _ makes writes h = tt

    pin_brings : (l : Label) (e : Expr) (k : Look Expr) → made l ≡ None → written l ≡ None → LookFits functions w e k → Some_ l (pin_by g e k)
    pin_brings l e (act pins) makes writes h = goes l _ makes writes (answers e h.0 w unit (of unit_type) (same_world w) h.2 h.1 tt)
    pin_brings l e _ makes writes h = tt

    print_brings : (l : Label) (e : Expr) (k : Look Expr) → made l ≡ None → written l ≡ None → IsSafe functions w e → LookFits functions w e k → Some_ l (print_by g e k)
    print_brings l e (act (prints v)) makes writes safe h = stays l _ makes writes (answers e h.0 w unit (of unit_type) (same_world w) h.2 h.1 tt) safe
    print_brings l e _ makes writes safe h = tt

    if_brings : (l : Label) (b : Bool) (o : Option (Effect Expr)) → Some_ l o → Some_ l (cond b o None)
    if_brings l true o h = h
    if_brings l false o h = tt

    probe_brings : (l : Label) (i : ℤ) (e : Expr) (k : Look Expr) → made l ≡ None → written l ≡ None → LookFits functions w e k → Some_ l (probe_by g i e k)
    probe_brings l i e (act probes) makes writes h = if_brings l (fits_word i) _ (goes l _ makes writes (answers e h.0 w (int i) (of int_type) (same_world w) h.2 h.1 tt))
    probe_brings l i e _ makes writes h = tt

    attempt_brings : (l : Label) (n : ℕ) (e : Expr) (k : Look Expr) → made l ≡ None → written l ≡ None → LookFits functions w e k → Some_ l (attempt_by g n e k)
    attempt_brings l n e (act attempts) makes writes h = if_brings l (nat_lt n (2 ^ 63)) _ (goes l _ makes writes (answers e h.0 w (int (pos n)) (of int_type) (same_world w) h.2 h.1 tt))
    attempt_brings l n e _ makes writes h = tt

    refuse_brings : (l : Label) (k : Look Expr) → made l ≡ None → written l ≡ None → Some_ l (refuse_by g k)
    refuse_brings l (act stabilizes) makes writes = goes l _ makes writes no_section
    refuse_brings l _ makes writes = tt

    -- one number, one type
    same_type : (f : ℕ → Option Written) (x y : ℕ) (a b : Written) → x ≡ y → f x ≡ Some a → f y ≡ Some b → a ≡ b
    same_type f x y a b same h k = some_is (sym h ∙ ap f same ∙ k)

    get_brings : (l : Label) (r : ℕ) (e : Expr) (o : Option Datum) (k : Look Expr) → made l ≡ None → written l ≡ None → ((v : Datum) → o ≡ Some v → Holds w r v) → LookFits functions w e k → Some_ l (get_by g r e o k)
    get_brings l r e o (act (gets q)) makes writes held h =
        elim (nat_eq q r) as (λ b. nat_eq q r ≡ b → Some_ l (cond b (option_map (λ v. to g (g.answered e v)) o) None)) [
          | true ↦ λ at. elim o as (λ x. o ≡ x → Some_ l (option_map (λ v. to g (g.answered e v)) x)) [
            | None ↦ λ is. tt
            | (Some v) ↦ λ is. let has = held v is in goes l _ makes writes
                (answers e h.0 w v (of h.1.0) (same_world w) h.2 h.1.2 (subst (Fits w v) (same_type w.references r q has.0 h.1.0 (sym (eqb-true q r at)) has.1 h.1.1) has.2))
          ] refl
          | false ↦ λ at. tt
        ] refl
    get_brings l r e o _ makes writes held h = tt

    put_there : (m : map.FinMap nat_cmp Datum) (r q : ℕ) (v : Datum) → map.contains_key m q ≡ true → map.contains_key (map.insert m r v) q ≡ true
    put_there m r q v h = ap is_some (get_inserted m r v q) ∙ elim (nat_eq q r) as (λ b. is_some (cond b (Some v) (map.get m q)) ≡ true) [ true ↦ refl | false ↦ h ]

    set_brings : (t : ThreadId) (r : RefId) (e : Expr) (k : Look Expr) → IsSafe functions w e → LookFits functions w e k → Some_ (Set t r) (set_by g r.0 e k)
    set_brings t r e (act (sets q v)) safe h =
        elim (nat_eq q r.0) as (λ b. nat_eq q r.0 ≡ b → Some_ (Set t r) (cond b (Some (record { mine = g.answered e unit; other = e; value = v; printed = [] })) None)) [
          | true ↦ λ at. record {
            world = w;
            more = same_world w;
            mine = answers e h.0 w unit (of unit_type) (same_world w) h.2 h.1.3 tt;
            other = safe;
            holds = (h.1.0, ap w.references (sym (eqb-true q r.0 at)) ∙ h.1.1, h.1.2);
            channels = typed.channels;
            references = λ x a is. put_there s.references r.0 x v (typed.references x a is);
          }
          | false ↦ λ at. tt
        ] refl
    set_brings t r e _ safe h = tt

    abbrev with_type : (ℕ → Option Written) → ℕ → Written → ℕ → Option Written
    with_type f x a y = cond (nat_eq y x) (Some a) (f y)

    new_there : (f : ℕ → Option Written) (x : ℕ) (a : Written) → with_type f x a x ≡ Some a
    new_there f x a = ap (λ b. cond b (Some a) (f x)) (nat_eq_equiv.refl x)

    -- what had a type isn't what is new
    old_there : (f : ℕ → Option Written) (has : ℕ → Bool) (x : ℕ) (a : Written) → ((y : ℕ) (b : Written) → f y ≡ Some b → has y ≡ true) → not (has x) ≡ true → (y : ℕ) (b : Written) → f y ≡ Some b → with_type f x a y ≡ Some b
    old_there f has x a there new y b is =
        elim (nat_eq y x) as (λ c. nat_eq y x ≡ c → cond c (Some a) (f y) ≡ Some b) [
          | true ↦ λ at. absurd (false≢true (sym (not-true (has x) new) ∙ ap has (sym (eqb-true y x at)) ∙ there y b is))
          | false ↦ λ at. is
        ] refl

    -- what has a type then is there then
    still_there : (f : ℕ → Option Written) (has now : ℕ → Bool) (x : ℕ) (a : Written) → ((y : ℕ) (b : Written) → f y ≡ Some b → has y ≡ true) → ((y : ℕ) → has y ≡ true → now y ≡ true) → now x ≡ true → (y : ℕ) (b : Written) → with_type f x a y ≡ Some b → now y ≡ true
    still_there f has now x a there stay new y b is =
        elim (nat_eq y x) as (λ c. nat_eq y x ≡ c → cond c (Some a) (f y) ≡ Some b → now y ≡ true) [
          | true ↦ λ at is. ap now (eqb-true y x at) ∙ new
          | false ↦ λ at is. stay y (there y b is)
        ] refl is

    chan_brings : (t : ThreadId) (c : ChanId) (e : Expr) (k : Look Expr) → not (set.contains s.channels c.0) ≡ true → IsSafe functions w e → LookFits functions w e k → Some_ (NewChan t c) (chan_by g c.0 e k)
    chan_brings t c e (act makes_chan) new safe h =
        let next : World = record w { channels = with_type w.channels c.0 h.1.0 } in
        let more : IsMore w next = record { channels = old_there w.channels (set.contains s.channels) c.0 h.1.0 typed.channels new; references = λ r a is. is } in
        let mine : IsSafe functions next (answered e (chan c.0)) = answers e h.0 next (chan c.0) (of (chan_type h.1.0)) more h.2 h.1.1 (new_there w.channels c.0 h.1.0) in
        record {
          world = next;
          more = more;
          mine = mine;
          other = mine;
          holds = tt;
          channels = still_there w.channels (set.contains s.channels) (set.contains (put_channel (Some c.0) s.channels)) c.0 h.1.0 typed.channels
              (λ y is. put_channel-is (Some c.0) s.channels y ∙ elim (nat_eq y c.0) as (λ b. (b || set.contains s.channels y) ≡ true) [ true ↦ refl | false ↦ is ])
              (put_channel-is (Some c.0) s.channels c.0 ∙ ap (λ b. b || set.contains s.channels c.0) (nat_eq_equiv.refl c.0));
          references = typed.references;
        }
    chan_brings t c e _ new safe h = tt

    ref_brings : (t : ThreadId) (r : RefId) (e : Expr) (k : Look Expr) → not (map.contains_key s.references r.0) ≡ true → IsSafe functions w e → LookFits functions w e k → Some_ (NewRef t r) (ref_by g r.0 e k)
    ref_brings t r e (act (makes_ref v)) new safe h =
        let next : World = record w { references = with_type w.references r.0 h.1.0 } in
        let more : IsMore w next = record { channels = λ c a is. is; references = old_there w.references (λ y. map.contains_key s.references y) r.0 h.1.0 typed.references new } in
        record {
          world = next;
          more = more;
          mine = answers e h.0 next (reference r.0) (of (ref_type h.1.0)) more h.2 h.1.2 (new_there w.references r.0 h.1.0);
          other = safe_more functions w next more e safe;
          holds = (h.1.0, new_there w.references r.0 h.1.0, fits_more w next more v h.1.0 h.1.1);
          channels = typed.channels;
          references = still_there w.references (λ y. map.contains_key s.references y) (λ y. map.contains_key (map.insert s.references r.0 v) y) r.0 h.1.0 typed.references
              (λ y is. put_there s.references r.0 y v is)
              (ap is_some (get_inserted s.references r.0 v r.0 ∙ ap (λ b. cond b (Some v) (map.get s.references r.0)) (nat_eq_equiv.refl r.0)));
        }
    ref_brings t r e _ new safe h = tt

    -- what is sent has the type of its channel
    abbrev SentFits : ℕ → Option Datum → Type 0
    SentFits c None = Unit {0}
    SentFits c (Some v) = (a : Written) × (w.channels c ≡ Some a) × Fits w v a

    sent_fits : (c : ℕ) (e : Expr) (k : Look Expr) → LookFits functions w e k → SentFits c (sent_by g c k)
    sent_fits c e (act (sends q v)) h =
        elim (nat_eq q c) as (λ b. nat_eq q c ≡ b → SentFits c (cond b (Some v) None)) [
          | true ↦ λ at. (h.1.0, ap w.channels (sym (eqb-true q c at)) ∙ h.1.1, h.1.2)
          | false ↦ λ at. tt
        ] refl
    sent_fits c e _ h = tt

    sender_goes : (c : ℕ) (e : Expr) (k : Look Expr) (v : Datum) → LookFits functions w e k → sent_by g c k ≡ Some v → IsSafe functions w (answered e unit)
    sender_goes c e (act (sends q x)) v h is = answers e h.0 w unit (of unit_type) (same_world w) h.2 h.1.3 tt
    sender_goes c e _ v h is = absurd (cc)

    picked_safe : (e : Expr) (i : ℤ) (v : Datum) (u : ExprType) (a : Written) → ((x : World) → IsMore w x → (y : Expr) → Runs functions x nothing_seen y u → IsSafe functions x (cap (rebuild e y))) → u ≡ of (pair_type int_type a) → Fits w v a →
        IsSafe functions w (picked g e i v)
    picked_safe e i v u a back is fit =
        elim (is_within_limits (pair (int i) v)) as (λ b. IsSafe functions w (cond b (g.answered e (pair (int i) v)) (g.failed DeepValue))) [
          | true ↦ answers e u w (pair (int i) v) (of (pair_type int_type a)) (same_world w) back is (tt, fit)
          | false ↦ deep_value
        ]

    received_safe : (c : ℕ) (e : Expr) (v : Datum) (a : Written) (k : Look Expr) → w.channels c ≡ Some a → Fits w v a → LookFits functions w e k → SafeIf (received_by g c e v k)
    received_safe c e v a (act (receives q)) is fit h =
        elim (nat_eq q c) as (λ b. nat_eq q c ≡ b → SafeIf (cond b (Some (g.answered e v)) None)) [
          | true ↦ λ at. answers e h.0 w v (of h.1.0) (same_world w) h.2 h.1.2 (subst (Fits w v) (same_type w.channels c q a h.1.0 (sym (eqb-true q c at)) is h.1.1) fit)
          | false ↦ λ at. tt
        ] refl
    received_safe c e v a (act (picks x y)) is fit h =
        elim (nat_eq x c) as (λ b. nat_eq x c ≡ b → SafeIf (cond b (Some (picked g e (pos 0) v)) (cond (nat_eq y c) (Some (picked g e (pos 1) v)) None))) [
          | true ↦ λ at. picked_safe e (pos 0) v h.0 h.1.0 h.2 h.1.3 (subst (Fits w v) (same_type w.channels c x a h.1.0 (sym (eqb-true x c at)) is h.1.1) fit)
          | false ↦ λ apart. elim (nat_eq y c) as (λ b. nat_eq y c ≡ b → SafeIf (cond b (Some (picked g e (pos 1) v)) None)) [
            | true ↦ λ at. picked_safe e (pos 1) v h.0 h.1.0 h.2 h.1.3 (subst (Fits w v) (same_type w.channels c y a h.1.0 (sym (eqb-true y c at)) is h.1.2) fit)
            | false ↦ λ at. tt
          ] refl
        ] refl
    received_safe c e v a _ is fit h = tt

    both_brings : (l : Label) (a : Expr) (o : Option Expr) → made l ≡ None → written l ≡ None → IsSafe functions w (answered a unit) → SafeIf o →
        Some_ l (option_map (λ e. record { mine = g.answered a unit; other = e; value = unit; printed = [] }) o)
    both_brings l a None makes writes h k = tt
    both_brings l a (Some e) makes writes h k = stays l _ makes writes h k

    comm_then : (l : Label) (c : ℕ) (a b : Expr) (o : Option Datum) → made l ≡ None → written l ≡ None → sent_by g c (g.look a) ≡ o → IsSafe functions w a → IsSafe functions w b → SentFits c o →
        Some_ l (option_and_then (λ v. option_map (λ e. record { mine = g.answered a unit; other = e; value = unit; printed = [] }) (received_by g c b v (g.look b))) o)
    comm_then l c a b None makes writes is h k fit = tt
    comm_then l c a b (Some v) makes writes is h k fit =
        both_brings l a (received_by g c b v (g.look b)) makes writes (sender_goes c a (g.look a) v (looks a h) is) (received_safe c b v fit.0 (g.look b) fit.1 fit.2 (looks b k))

    comm_brings : (l : Label) (c : ℕ) (a b : Expr) → made l ≡ None → written l ≡ None → IsSafe functions w a → IsSafe functions w b → Some_ l (comm_by g c a b)
    comm_brings l c a b makes writes h k = comm_then l c a b (sent_by g c (g.look a)) makes writes refl h k (sent_fits c a (g.look a) (looks a h))

    abbrev AllSafe : List Expr → Type 0
    AllSafe [] = Unit {0}
    AllSafe (e ∷ es) = IsSafe functions w e × AllSafe es

    effect_brings : (q : ℕ) (l : Label) (es : List Expr) (held : Option Datum) → allows s l ≡ true → AllSafe es → held ≡ held_at s.references (read l) → Some_ l (effect g q l es held)
    effect_brings q (Local t n) (e ∷ []) held ok h v = local_brings (Local t n) n e refl refl h.0
    effect_brings q (Spawn t u) (e ∷ []) held ok h v = spawn_brings (Spawn t u) e (g.look e) refl refl (looks e h.0)
    effect_brings q (NewChan t c) (e ∷ []) held ok h v = chan_brings t c e (g.look e) ok h.0 (looks e h.0)
    effect_brings q (Comm x t c) (a ∷ b ∷ []) held ok h v = comm_brings (Comm x t c) c.0 a b refl refl h.0 h.1.0
    effect_brings q (NewRef t r) (e ∷ []) held ok h v = ref_brings t r e (g.look e) ok h.0 (looks e h.0)
    effect_brings q (Get t r) (e ∷ []) held ok h v = get_brings (Get t r) r.0 e held (g.look e) refl refl (λ x is. typed.holds r.0 x (sym v ∙ is)) (looks e h.0)
    effect_brings q (Set t r) (e ∷ []) held ok h v = set_brings t r e (g.look e) h.0 (looks e h.0)
    effect_brings q (Enter t) (e ∷ []) held ok h v = enter_brings (Enter t) q e (g.look e) refl refl (looks e h.0)
    effect_brings q (Cut t) (e ∷ []) held ok h v = cut_brings (Cut t) e (g.look e) refl refl (looks e h.0)
    effect_brings q (Print t) (e ∷ []) held ok h v = print_brings (Print t) e (g.look e) refl refl h.0 (looks e h.0)
    effect_brings q (Probe t i) (e ∷ []) held ok h v = probe_brings (Probe t i) i e (g.look e) refl refl (looks e h.0)
    effect_brings q (Refuse t) (e ∷ []) held ok h v = refuse_brings (Refuse t) (g.look e) refl refl
    effect_brings q (Pin t) (e ∷ []) held ok h v = pin_brings (Pin t) e (g.look e) refl refl (looks e h.0)
    effect_brings q (Attempt t n) (e ∷ []) held ok h v = attempt_brings (Attempt t n) n e (g.look e) refl refl (looks e h.0)
    effect_brings q _ _ held ok h v = tt

    abbrev ListSafe : Option (List Expr) → Type 0
    ListSafe None = Unit {0}
    ListSafe (Some es) = AllSafe es

    more_safe : (e : Expr) (o : Option (List Expr)) → IsSafe functions w e → ListSafe o → ListSafe (option_map (λ es. e ∷ es) o)
    more_safe e None h l = tt
    more_safe e (Some es) h l = (h, l)

    exprs_safe : (ts : List ℕ) → ListSafe (exprs_at s.threads ts)
    exprs_safe [] = tt
    exprs_safe (t ∷ ts) =
        elim (map.get s.threads t) as (λ o. map.get s.threads t ≡ o → ListSafe (option_and_then (λ e. option_map (λ es. e ∷ es) (exprs_at s.threads ts)) o)) [
          | None ↦ λ is. tt
          | (Some e) ↦ λ is. more_safe e (exprs_at s.threads ts) (typed.threads t e is) (exprs_safe ts)
        ] refl

    made_brings : (q : ℕ) (l : Label) (o : Option (List Expr)) → allows s l ≡ true → ListSafe o → Some_ l (option_and_then (λ es. effect g q l es (held_at s.references (read l))) o)
    made_brings q l None ok h = tt
    made_brings q l (Some es) ok h = effect_brings q l es (held_at s.references (read l)) ok h refl

    pub step_types : (n : State Expr) (q : ℕ) (l : Label) → plain (effect g) s q l ≡ Some n → (v : World) × IsTypedState v n
    step_types n q l is =
        let st = step_of (effect g) s q l n is in
        let brings : Brings s w l st.eff = subst (Some_ l) st.found (made_brings q l (exprs_at s.threads (actors l)) st.allowed (exprs_safe (actors l))) in
        (brings.world, subst (IsTypedState brings.world) (sym st.is) (after_effect s w l st.eff typed brings))
