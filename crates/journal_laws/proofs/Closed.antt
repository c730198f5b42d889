-- Each channel and each reference that occurs in a state of a run is in it.
use Rattle.std.proofs.Common.{◌≡◌, ℕ, zero, suc, Bool, true, false, cond, ◌||◌, nat_eq, List, [], ◌∷◌, ◌++◌, Option, Some, None, refl, sym, ap, subst, ◌∙◌}
use Rattle.std.specs.Prelude.{ℤ, ◌^◌, option_and_then, option_map, is_some, nat_lt}
use Rattle.std.specs.List.{AllByRecursion}
use Rattle.std.specs.Ordering.{nat_cmp}
use Rattle.std.specs.Cmp.{nat_eq_equiv}
use Rattle.std.specs.FinMap as map
use Rattle.std.specs.FinSet as set
use Rattle.std.proofs.lemmas.Bool.{false≢true, eqb-true}
use Rattle.stab_base.specs.Datum.{Datum, unit, truth, int, text, chan, reference, pair}
use Rattle.stab_base.specs.Limits.{is_within_limits}
use Rattle.stab_base.specs.declared.fault.Fault.TheVariants.{DeepValue, NoSection}
use Rattle.stab_base.specs.declared.numbers.ThreadId.{ThreadId}
use Rattle.stab_base.specs.declared.numbers.RefId.{RefId}
use Rattle.stab_journal.specs.declared.event.Label.{Label}
use Rattle.stab_journal.specs.declared.event.Label.TheVariants.{Local, Spawn, NewChan, Comm, NewRef, Get, Set, Enter, Cut, Print, Probe, Refuse, Pin, Attempt}
use Rattle.stab_journal.specs.Label.{actors, touched, written}
use Rattle.language.specs.Numbers.{fits_word}
use Rattle.language.specs.Steps.{State, Effect, exprs_at, held_at, put_threads, put_value, put_channel, apply, effect_in}
use Rattle.stab_journal.specs.Names.{read, made}
use Rattle.language.specs.Table.{spawns, makes_chan, makes_ref, gets, sets, sends, receives, picks, enters, stabilizes, cuts, pins, prints, probes, attempts, Look, done, fault, act, pure, Language, pure_of, pure_steps, to, local_by, spawn_by, chan_by, ref_by, get_by, set_by, sent_by, picked, received_by, comm_by, enter_by, cut_by, pin_by, print_by, probe_by, refuse_by, attempt_by, effect}
use Rattle.journal_laws.specs.Known.{Known, without_sections, IsMore, IsIn, IsLookIn, AreNumbersKept, IsKnown, known_in}
use Rattle.journal_laws.proofs.Without.{IsClosedTable}
use Rattle.language.proofs.Applying.{get_inserted, put_channel-is}
use Rattle.journal_laws.proofs.Applying.{put_value-there, put_value-here}
use Rattle.journal_laws.proofs.Stepping.{step_of, or_right}
use Rattle.journal_laws.proofs.Surviving.{some_is}

pub more_in : (j k : Known) → ((c : ℕ) → j.channels c ≡ true → k.channels c ≡ true) → ((r : ℕ) → j.references r ≡ true → k.references r ≡ true) → (v : Datum) → IsIn j v → IsIn k v
more_in j k f g (chan c) h = f c h
more_in j k f g (reference r) h = g r h
more_in j k f g (pair a b) h = (more_in j k f g a h.0, more_in j k f g b h.1)
more_in j k f g unit h = tt
more_in j k f g (truth b) h = tt
more_in j k f g (int n) h = tt
more_in j k f g (text t) h = tt

-- a known value, whatever sections are known
pub all_sections : (k : Known) → IsMore (without_sections k) k
all_sections k = record { channels = λ c h. h; references = λ r h. h; sections = λ m h. absurd (false≢true h) }

abbrev pub NameIn : (ℕ → Bool) → Option ℕ → Type 0
NameIn p None = Unit {0}
NameIn p (Some q) = p q ≡ true

channel_there : (w : Option ℕ) (m : set.FinSet nat_cmp) → NameIn (set.contains (put_channel w m)) w
channel_there None m = tt
channel_there (Some c) m = put_channel-is (Some c) m c ∙ ap (λ b. b || set.contains m c) (nat_eq_equiv.refl c)

value_there : (w : Option ℕ) (v : Datum) (m : map.FinMap nat_cmp Datum) → NameIn (map.contains_key (put_value w v m)) w
value_there None v m = tt
value_there (Some r) v m = ap is_some (put_value-here (Some r) v m r (nat_eq_equiv.refl r))

-- the number of a section that a step enters is known
abbrev pub SectionIn : Known → ℕ → Label → Type 0
SectionIn k q (Enter t) = k.sections q ≡ true
SectionIn k q _ = Unit {0}

module _ {E : Type 0} (g : Language E) (In : Known → E → Type 0) (kept : AreNumbersKept g In) where
  module _ (K : Known) where
    -- what an effect brings is known
    pub record IsEffectIn (e : Effect E) : Type 0 where
      pub mine : In K e.mine
      pub other : In K e.other
      pub value : IsIn K e.value
      pub printed : AllByRecursion (IsIn K) e.printed

    abbrev pub SomeIn : Option (Effect E) → Type 0
    SomeIn None = Unit {0}
    SomeIn (Some e) = IsEffectIn e

    abbrev pub ExprIn : Option E → Type 0
    ExprIn None = Unit {0}
    ExprIn (Some e) = In K e

    abbrev pub ValueIn : Option Datum → Type 0
    ValueIn None = Unit {0}
    ValueIn (Some v) = IsIn K v

    to_in : (e : E) → In K e → IsEffectIn (to g e)
    to_in e h = record { mine = h; other = h; value = tt; printed = tt }

    pure_in : (k : Look E) → IsLookIn In K k → ExprIn (pure_of g k)
    pure_in (pure e) h = h
    pure_in (done v) h = tt
    pure_in (fault k) h = tt
    pure_in (act a) h = tt

    then_in : (n : ℕ) (o : Option E) → ExprIn o → ((e : E) → In K e → ExprIn (pure_steps g n e)) → ExprIn (option_and_then (pure_steps g n) o)
    then_in n None h f = tt
    then_in n (Some e) h f = f e h

    steps_in : (n : ℕ) (e : E) → In K e → ExprIn (pure_steps g n e)
    steps_in zero e h = h
    steps_in (suc n) e h = then_in n (pure_of g (g.look e)) (pure_in (g.look e) (kept.look K e h)) (steps_in n)

    to_some : (o : Option E) → ExprIn o → SomeIn (option_map (to g) o)
    to_some None h = tt
    to_some (Some e) h = to_in e h

    local_in : (n : ℕ) (e : E) → In K e → SomeIn (local_by g n e)
    local_in zero e h = tt
    local_in (suc n) e h = to_some (pure_steps g (suc n) e) (steps_in (suc n) e h)

    pub spawn_in : (e : E) (k : Look E) → In K e → IsLookIn In K k → SomeIn (spawn_by g e k)
    spawn_in e (act (spawns body)) h l = record { mine = kept.answered K e unit h tt; other = kept.more (without_sections K) K (all_sections K) body l; value = tt; printed = tt }
    spawn_in e _ h l = tt

    chan_in : (c : ℕ) (e : E) (k : Look E) → In K e → K.channels c ≡ true → SomeIn (chan_by g c e k)
    chan_in c e (act makes_chan) h is = to_in _ (kept.answered K e (chan c) h is)
    chan_in c e _ h is = tt

    ref_in : (r : ℕ) (e : E) (k : Look E) → In K e → IsLookIn In K k → K.references r ≡ true → SomeIn (ref_by g r e k)
    ref_in r e (act (makes_ref v)) h l is = record { mine = kept.answered K e (reference r) h is; other = h; value = l; printed = tt }
    ref_in r e _ h l is = tt

    held_in : (e : E) (held : Option Datum) → In K e → ValueIn held → SomeIn (option_map (λ v. to g (g.answered e v)) held)
    held_in e None h l = tt
    held_in e (Some v) h l = to_in _ (kept.answered K e v h l)

    cond_in : (b : Bool) (o : Option (Effect E)) → SomeIn o → SomeIn (cond b o None)
    cond_in true o h = h
    cond_in false o h = tt

    get_in : (r : ℕ) (e : E) (held : Option Datum) (k : Look E) → In K e → ValueIn held → SomeIn (get_by g r e held k)
    get_in r e held (act (gets q)) h l = cond_in (nat_eq q r) _ (held_in e held h l)
    get_in r e held _ h l = tt

    set_in : (r : ℕ) (e : E) (k : Look E) → In K e → IsLookIn In K k → SomeIn (set_by g r e k)
    set_in r e (act (sets q v)) h l = cond_in (nat_eq q r) _ (record { mine = kept.answered K e unit h tt; other = h; value = l.1; printed = tt })
    set_in r e _ h l = tt

    cond_value : (b : Bool) (o : Option Datum) → ValueIn o → ValueIn (cond b o None)
    cond_value true o h = h
    cond_value false o h = tt

    sent_in : (c : ℕ) (k : Look E) → IsLookIn In K k → ValueIn (sent_by g c k)
    sent_in c (act (sends q v)) l = cond_value (nat_eq q c) (Some v) l.1
    sent_in c _ l = tt

    cond_expr : (b : Bool) (o p : Option E) → ExprIn o → ExprIn p → ExprIn (cond b o p)
    cond_expr true o p h k = h
    cond_expr false o p h k = k

    cond_one : (b : Bool) (x y : E) → In K x → In K y → In K (cond b x y)
    cond_one true x y h k = h
    cond_one false x y h k = k

    picked_in : (e : E) (i : ℤ) (v : Datum) → In K e → IsIn K v → In K (picked g e i v)
    picked_in e i v h l = cond_one (is_within_limits (pair (int i) v)) _ _ (kept.answered K e (pair (int i) v) h (tt, l)) (kept.failed K DeepValue)

    pub received_in : (c : ℕ) (e : E) (v : Datum) (k : Look E) → In K e → IsIn K v → ExprIn (received_by g c e v k)
    received_in c e v (act (receives q)) h l = cond_expr (nat_eq q c) (Some (g.answered e v)) None (kept.answered K e v h l) tt
    received_in c e v (act (picks a b)) h l = cond_expr (nat_eq a c) (Some _) _ (picked_in e _ v h l) (cond_expr (nat_eq b c) (Some _) None (picked_in e _ v h l) tt)
    received_in c e v _ h l = tt

    both_in : (a : E) (o : Option E) → In K a → ExprIn o → SomeIn (option_map (λ e. record { mine = g.answered a unit; other = e; value = unit; printed = [] }) o)
    both_in a None h l = tt
    both_in a (Some e) h l = record { mine = kept.answered K a unit h tt; other = l; value = tt; printed = tt }

    comm_then : (c : ℕ) (a b : E) (o : Option Datum) → In K a → In K b → ValueIn o → SomeIn (option_and_then (λ v. option_map (λ e. record { mine = g.answered a unit; other = e; value = unit; printed = [] }) (received_by g c b v (g.look b))) o)
    comm_then c a b None h k l = tt
    comm_then c a b (Some v) h k l = both_in a _ h (received_in c b v (g.look b) k l)

    comm_in : (c : ℕ) (a b : E) → In K a → In K b → SomeIn (comm_by g c a b)
    comm_in c a b h k = comm_then c a b _ h k (sent_in c (g.look a) (kept.look K a h))

    enter_in : (q : ℕ) (e : E) (k : Look E) → In K e → IsLookIn In K k → K.sections q ≡ true → SomeIn (enter_by g q e k)
    enter_in q e (act (enters body)) h l is = to_in _ (kept.entered K e q body h l is)
    enter_in q e _ h l is = tt

    cut_in : (e : E) (k : Look E) → In K e → SomeIn (cut_by g e k)
    cut_in e (act cuts) h = to_in _ (kept.answered K e unit h tt)
    cut_in e _ h = tt

    pin_in : (e : E) (k : Look E) → In K e → SomeIn (pin_by g e k)
    pin_in e (act pins) h = to_in _ (kept.answered K e unit h tt)
    pin_in e _ h = tt

    print_in : (e : E) (k : Look E) → In K e → IsLookIn In K k → SomeIn (print_by g e k)
    print_in e (act (prints v)) h l = record { mine = kept.answered K e unit h tt; other = h; value = tt; printed = (l, tt) }
    print_in e _ h l = tt

    probe_in : (i : ℤ) (e : E) (k : Look E) → In K e → SomeIn (probe_by g i e k)
    probe_in i e (act probes) h = cond_in (fits_word i) _ (to_in _ (kept.answered K e (int i) h tt))
    probe_in i e _ h = tt

    refuse_in : (k : Look E) → SomeIn (refuse_by g k)
    refuse_in (act stabilizes) = to_in _ (kept.failed K NoSection)
    refuse_in _ = tt

    attempt_in : (n : ℕ) (e : E) (k : Look E) → In K e → SomeIn (attempt_by g n e k)
    attempt_in n e (act attempts) h = cond_in (nat_lt n (2 ^ 63)) _ (to_in _ (kept.answered K e _ h tt))
    attempt_in n e _ h = tt

    pub effect_is_in : (q : ℕ) (l : Label) (es : List E) (held : Option Datum) → AllByRecursion (In K) es → ValueIn held → NameIn K.channels (made l) → NameIn K.references (written l) → SectionIn K q l → SomeIn (effect g q l es held)
    effect_is_in q (Local t n) (e ∷ []) held h v c r m = local_in n e h.0
    effect_is_in q (Spawn t u) (e ∷ []) held h v c r m = spawn_in e (g.look e) h.0 (kept.look K e h.0)
    effect_is_in q (NewChan t k) (e ∷ []) held h v c r m = chan_in k.0 e (g.look e) h.0 c
    effect_is_in q (Comm s t k) (a ∷ b ∷ []) held h v c r m = comm_in k.0 a b h.0 h.1.0
    effect_is_in q (NewRef t k) (e ∷ []) held h v c r m = ref_in k.0 e (g.look e) h.0 (kept.look K e h.0) r
    effect_is_in q (Get t k) (e ∷ []) held h v c r m = get_in k.0 e held (g.look e) h.0 v
    effect_is_in q (Set t k) (e ∷ []) held h v c r m = set_in k.0 e (g.look e) h.0 (kept.look K e h.0)
    effect_is_in q (Enter t) (e ∷ []) held h v c r m = enter_in q e (g.look e) h.0 (kept.look K e h.0) m
    effect_is_in q (Cut t) (e ∷ []) held h v c r m = cut_in e (g.look e) h.0
    effect_is_in q (Print t) (e ∷ []) held h v c r m = print_in e (g.look e) h.0 (kept.look K e h.0)
    effect_is_in q (Probe t i) (e ∷ []) held h v c r m = probe_in i e (g.look e) h.0
    effect_is_in q (Refuse t) (e ∷ []) held h v c r m = refuse_in (g.look e)
    effect_is_in q (Pin t) (e ∷ []) held h v c r m = pin_in e (g.look e) h.0
    effect_is_in q (Attempt t n) (e ∷ []) held h v c r m = attempt_in n e (g.look e) h.0
    effect_is_in q _ _ held h v c r m = tt

    abbrev ListIn : Option (List E) → Type 0
    ListIn None = Unit {0}
    ListIn (Some es) = AllByRecursion (In K) es

    more_list : (e : E) (o : Option (List E)) → In K e → ListIn o → ListIn (option_map (λ es. e ∷ es) o)
    more_list e None h l = tt
    more_list e (Some es) h l = (h, l)

    one_list : (o : Option E) (p : Option (List E)) → ExprIn o → ListIn p → ListIn (option_and_then (λ e. option_map (λ es. e ∷ es) p) o)
    one_list None p h l = tt
    one_list (Some e) p h l = more_list e p h l

    expr_in : (o : Option E) → ((e : E) → o ≡ Some e → In K e) → ExprIn o
    expr_in None f = tt
    expr_in (Some e) f = f e refl

    value_in : (o : Option Datum) → ((v : Datum) → o ≡ Some v → IsIn K v) → ValueIn o
    value_in None f = tt
    value_in (Some v) f = f v refl

    exprs_in : (m : map.FinMap nat_cmp E) → ((t : ℕ) (e : E) → map.get m t ≡ Some e → In K e) → (ts : List ℕ) → ListIn (exprs_at m ts)
    exprs_in m f [] = tt
    exprs_in m f (t ∷ ts) = one_list (map.get m t) (exprs_at m ts) (expr_in (map.get m t) (f t)) (exprs_in m f ts)

    held_is_in : (m : map.FinMap nat_cmp Datum) → ((r : ℕ) (v : Datum) → map.get m r ≡ Some v → IsIn K v) → (o : Option ℕ) → ValueIn (held_at m o)
    held_is_in m f None = tt
    held_is_in m f (Some r) = value_in (map.get m r) (f r)

    made_in : (q : ℕ) (l : Label) (o : Option (List E)) (held : Option Datum) → ListIn o → ValueIn held → NameIn K.channels (made l) → NameIn K.references (written l) → SectionIn K q l → SomeIn (option_and_then (λ es. effect g q l es held) o)
    made_in q l None held h v c r m = tt
    made_in q l (Some es) held h v c r m = effect_is_in q l es held h v c r m

    cond_get : {X : Type 0} (b : Bool) (a e : X) (o : Option X) (Q : X → Type 0) → Q a → (o ≡ Some e → Q e) → cond b (Some a) o ≡ Some e → Q e
    cond_get true a e o Q h f is = subst Q (some_is is) h
    cond_get false a e o Q h f is = f is

    threads_in : (ts : List ℕ) (a b : E) (m : map.FinMap nat_cmp E) → In K a → In K b → ((t : ℕ) (e : E) → map.get m t ≡ Some e → In K e) → (t : ℕ) (e : E) → map.get (put_threads ts a b m) t ≡ Some e → In K e
    threads_in [] a b m h k f t e is = f t e is
    threads_in (u ∷ ts) a b m h k f t e is = cond_get (nat_eq t u) a e _ (In K) h (threads_in ts b b m k k f t e) (sym (get_inserted (put_threads ts b b m) u a t) ∙ is)

    references_in : (w : Option ℕ) (v : Datum) (m : map.FinMap nat_cmp Datum) → IsIn K v → ((r : ℕ) (v : Datum) → map.get m r ≡ Some v → IsIn K v) → (r : ℕ) (x : Datum) → map.get (put_value w v m) r ≡ Some x → IsIn K x
    references_in None v m h f r x is = f r x is
    references_in (Some u) v m h f r x is = cond_get (nat_eq r u) v x _ (IsIn K) h (f r x) (sym (get_inserted m u v r) ∙ is)

    all_append : (xs ys : List Datum) → AllByRecursion (IsIn K) xs → AllByRecursion (IsIn K) ys → AllByRecursion (IsIn K) (xs ++ ys)
    all_append [] ys h k = k
    all_append (x ∷ xs) ys h k = (h.0, all_append xs ys h.1 k)

    all_more : (j : Known) → IsMore j K → (xs : List Datum) → AllByRecursion (IsIn j) xs → AllByRecursion (IsIn K) xs
    all_more j m [] h = tt
    all_more j m (x ∷ xs) h = (more_in j K m.channels m.references x h.0, all_more j m xs h.1)

    set_there : (r : ℕ) (e : E) (k : Look E) (eff : Effect E) → IsLookIn In K k → set_by g r e k ≡ Some eff → K.references r ≡ true
    set_there r e (act (sets q v)) eff l is =
        elim (nat_eq q r) as (λ b. nat_eq q r ≡ b → cond b (Some (record { mine = g.answered e unit; other = e; value = v; printed = [] })) None ≡ Some eff → K.references r ≡ true) [
          | true ↦ λ same is. ap K.references (sym (eqb-true q r same)) ∙ l.0
          | false ↦ λ same is. absurd (cc)
        ] refl is
    set_there r e _ eff l is = absurd (cc)

    set_one : (q : ℕ) (t : ThreadId) (r : RefId) (held : Option Datum) (o : Option E) (eff : Effect E) → ExprIn o → option_and_then (λ es. effect g q (Set t r) es held) (option_and_then (λ e. option_map (λ es. e ∷ es) (Some [])) o) ≡ Some eff → K.references r.0 ≡ true
    set_one q t r held None eff h is = absurd (cc)
    set_one q t r held (Some e) eff h is = set_there r.0 e (g.look e) eff (kept.look K e h) is

  any_section : (k : Known) → ((m : ℕ) → k.sections m ≡ true) → (q : ℕ) (l : Label) → SectionIn k q l
  any_section k all q (Enter t) = all q
  any_section k all q _ = tt

  -- what is known before a step is known after it
  more_known : (s : State E) (l : Label) (e : Effect E) → IsMore (known_in s) (known_in (apply s l e))
  more_known s l e = record {
    channels = λ k is. put_channel-is (made l) s.channels k ∙ or_right (effect g) _ _ is;
    references = λ k is. put_value-there (written l) e.value s.references k is;
    sections = λ m is. refl;
  }

  -- a step keeps it
  known_step : (s : State E) (q : ℕ) (l : Label) (e : Effect E) → IsKnown In s → effect_in (effect g) s q l ≡ Some e → IsKnown In (apply s l e)
  known_step s q l e h found =
      let K = known_in (apply s l e) in
      let m : IsMore (known_in s) K = more_known s l e in
      let ts : (t : ℕ) (x : E) → map.get s.threads t ≡ Some x → In K x = λ t x is. kept.more (known_in s) K m x (h.threads t x is) in
      let rs : (r : ℕ) (v : Datum) → map.get s.references r ≡ Some v → IsIn K v = λ r v is. more_in (known_in s) K m.channels m.references v (h.references r v is) in
      let eff : IsEffectIn K e = subst (λ (o : Option (Effect E)). SomeIn K o) found (made_in K q l (exprs_at s.threads (actors l)) (held_at s.references (read l)) (exprs_in K s.threads ts (actors l)) (held_is_in K s.references rs (read l)) (channel_there (made l) s.channels) (value_there (written l) e.value s.references) (any_section K (λ m. refl) q l)) in
      record {
        threads = threads_in K (touched l) e.mine e.other s.threads eff.mine eff.other ts;
        references = references_in K (written l) e.value s.references eff.value rs;
        output = all_append K s.output e.printed (all_more K (known_in s) m s.output h.output) eff.printed;
      }

  -- what the law of surviving runs asks of the table of steps
  pub closed_table : IsClosedTable (effect g) (IsKnown In)
  closed_table = record {
    step = λ s n q l h is. let st = step_of (effect g) s q l n is in subst (IsKnown In) (sym st.is) (known_step s q l st.eff h st.found);
    sets = λ s q t r e h is. set_one (known_in s) q t r None (map.get s.threads t.0) e (expr_in (known_in s) (map.get s.threads t.0) (h.threads t.0)) is;
  }
