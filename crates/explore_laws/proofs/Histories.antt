-- Each history in which no thread came to a stabilize that can be taken back is a list of free and open steps.
use Rattle.std.proofs.Common.{◌≡◌, ℕ, zero, suc, ◌+◌, ◌<◌, Bool, true, false, cond, nat_eq, List, [], ◌∷◌, ◌++◌, length, Option, Some, None, refl, sym, ap, subst, ◌∙◌, append-nil, arith}
use Rattle.std.specs.Prelude.{ℤ, slice_get, is_some, IfSome, option_and_then, option_map, IsSomeAnd}
use Rattle.std.specs.Ordering.{nat_cmp}
use Rattle.std.specs.Cmp.{nat_cmp_total, nat_eq_equiv}
use Rattle.std.specs.FinMap as map
use Rattle.std.specs.FinMap.{FinMap, nat_cmp-IsAntisymmetric, get-empty}
use Rattle.std.specs.FinSet.{contains-empty}
use Rattle.std.proofs.lemmas.Bool.{false≢true, eqb-true}
use Rattle.stab_base.specs.declared.numbers.ThreadId.{ThreadId}
use Rattle.stab_code.specs.Program.{ProgramParts}
use Rattle.stab_journal.specs.declared.event.Label.{Label}
use Rattle.stab_journal.specs.declared.event.Label.TheVariants.{Local, Spawn, NewChan, Comm, NewRef, Get, Set, Enter, Cut, Print, Probe, Refuse, Pin, Attempt}
use Rattle.stab_journal.specs.declared.event.What.TheVariants.{Step, Undo, Release}
use Rattle.stab_journal.specs.declared.event.Event.{Event}
use Rattle.stab_journal.specs.declared.event.Numbered.{Numbered}
use Rattle.stab_journal.specs.Script.{probed, probed_by, script_at, FollowsScript}
use Rattle.language.specs.Expression.{Expr}
use Rattle.language.specs.Plain.{PlainState, plain_step, effect_of, language_of, look_in, standing, start, mark_in}
use Rattle.language.specs.Program.{body}
use Rattle.language.specs.Outcome.{called}
use Rattle.language.specs.Standing.{StandsFor, nothing, step, undo, release, event, is_stabilize, MayStep}
use Rattle.stab_journal.specs.Generation.{generation, generation_from, puts_back}
use Rattle.stab_journal.specs.Surviving.{after_event}
use Rattle.language.specs.Steps.{Effect, apply, exprs_at}
use Rattle.language.specs.Table.{Language, Look, act, stabilizes, pure_of, pure_steps, to, local_by, refuse_by, effect}
use Rattle.language.proofs.Applying.{get_inserted}
use Rattle.journal_laws.proofs.Runs.{start_known}
use Rattle.journal_laws.proofs.Stepping.{IsStep, step_of, plain_of}
use Rattle.explore_laws.specs.Free.{is_free, is_open}
use Rattle.explore_laws.proofs.Closing.{Reaches, begin, by_free, by_open}
use Rattle.std.proofs.Math.ListN.{length-append}
use Rattle.explore_laws.proofs.Configs.{Config, after}
use Rattle.explore_laws.proofs.Gaps.{probed_more, front_follows, last_follows}
use Rattle.explore_laws.specs.Explored.{uses}
use Rattle.explore_laws.proofs.Orderly.{Free, Open, Like, Asks}

-- what an expression is put to in a map twice is what it was put to last
twice : (m : FinMap nat_cmp Expr) (t : ℕ) (x y : Expr) → map.insert (map.insert m t x) t y ≡ map.insert m t y
twice m t x y =
    map.same_map nat_cmp_total nat_cmp-IsAntisymmetric (map.insert (map.insert m t x) t y) (map.insert m t y)
    (λ q. get_inserted (map.insert m t x) t y q ∙ ap (cond (nat_eq q t) (Some y)) (get_inserted m t x q) ∙ over (nat_eq q t) (map.get m q) ∙ sym (get_inserted m t y q))
  where
    over : (b : Bool) (o : Option Expr) → cond b (Some y) (cond b (Some x) o) ≡ cond b (Some y) o
    over true o = refl
    over false o = refl

some_is : {A : Type 0} (x y : A) → Some x ≡ Some y → x ≡ y
some_is x y h = cc

none_some : {A B : Type 0} (x : A) → None ≡ Some x → B
none_some x h = absurd (cc)

module _ (p : ProgramParts) (t : ThreadId) where
  abbrev g : Language Expr
  g = language_of p

  -- the state in which the thread stands at x, and nothing else is changed
  abbrev put_at : PlainState → Expr → PlainState
  put_at s x = apply s (Local t 1) (to g x)

  one_step : (s : PlainState) (q : ℕ) (e x : Expr) → map.get s.threads t.0 ≡ Some e → pure_of g (g.look e) ≡ Some x → plain_step p s q (Local t 1) ≡ Some (put_at s x)
  one_step s q e x here next =
      let exprs : exprs_at s.threads (t.0 ∷ []) ≡ Some (e ∷ []) = ap (λ (o : Option Expr). option_and_then (λ y. option_map (λ (ys : List Expr). y ∷ ys) (Some [])) o) here in
      plain_of (effect_of p) s q (Local t 1) (to g x)
      (ap (λ (o : Option (List Expr)). option_and_then (λ es. effect g q (Local t 1) es None) o) exprs
      ∙ ap (λ (o : Option Expr). option_map (to g) (option_and_then (pure_steps g 0) o)) next)
      refl

  put_twice : (s : PlainState) (x y : Expr) → put_at (put_at s x) y ≡ put_at s y
  put_twice s x y =
      let threads = twice s.threads t.0 x y in
      let output : (s.output ++ []) ++ [] ≡ s.output ++ [] = append-nil (s.output ++ []) in
      λ i. record { threads = threads i; references = s.references; channels = s.channels; output = output i }

  module _ (script : List ℤ) (first : Config) where
    abbrev R : Config → Type 0
    R = Reaches (Free p script) (Open p script) (Like p script) first

    pub record IsLed (from : Config) (s : PlainState) : Type 0 where
      pub config : Config
      pub state : config.state ≡ s
      pub used : config.used ≡ from.used
      pub reaches : R config

    one : (c : Config) → R c → (e x : Expr) → map.get c.state.threads t.0 ≡ Some e → pure_of g (g.look e) ≡ Some x → IsLed c (put_at c.state x)
    one c r e x here next =
        let made : plain_step p c.state 0 (Local t 1) ≡ Some (put_at c.state x) = one_step c.state 0 e x here next in
        record {
          config = after p c 0 (Local t 1) (put_at c.state x) made c.used;
          state = refl;
          used = refl;
          reaches = by_free first c (after p c 0 (Local t 1) (put_at c.state x) made c.used) r (record { q = 0; l = Local t 1; free = refl; made = made; used = refl });
        }

    -- pure steps, one by one
    from_next : (n : ℕ) (c : Config) → R c → (e x : Expr) → map.get c.state.threads t.0 ≡ Some e → (o : Option Expr) → pure_of g (g.look e) ≡ o → option_and_then (pure_steps g n) o ≡ Some x → IsLed c (put_at c.state x)
    from_next n c r e x here None next h = none_some x h
    from_next zero c r e x here (Some y) next h = one c r e x here (next ∙ h)
    from_next (suc n) c r e x here (Some y) next h =
        let d = one c r e y here next in
        let there : map.get d.config.state.threads t.0 ≡ Some y = ap (λ (s : PlainState). map.get s.threads t.0) d.state ∙ get_inserted c.state.threads t.0 y t.0 ∙ ap (λ b. cond b (Some y) (map.get c.state.threads t.0)) (nat_eq_equiv.refl t.0) in
        let k = from_next n d.config d.reaches y x there (pure_of g (g.look y)) refl h in
        record { config = k.config; state = k.state ∙ ap (λ s. put_at s x) d.state ∙ put_twice c.state y x; used = k.used ∙ d.used; reaches = k.reaches }

    locals : (n : ℕ) (c : Config) → R c → (e x : Expr) → map.get c.state.threads t.0 ≡ Some e → pure_steps g (suc n) e ≡ Some x → IsLed c (put_at c.state x)
    locals n c r e x here h = from_next n c r e x here (pure_of g (g.look e)) refl h

    -- an event of pure steps
    pub local_event : (c : Config) → R c → (q n : ℕ) (a : PlainState) → plain_step p c.state q (Local t n) ≡ Some a → IsLed c a
    local_event c r q n a made =
        let st = step_of (effect_of p) c.state q (Local t n) a made in
        by_exprs c r q n a st (map.get c.state.threads t.0) refl st.found
      where
        by_steps : (c : Config) → R c → (q n : ℕ) (a : PlainState) (st : IsStep (effect_of p) c.state q (Local t n) a) (e : Expr) → map.get c.state.threads t.0 ≡ Some e → (m : ℕ) → (o : Option Expr) → pure_steps g (suc m) e ≡ o → option_map (to g) o ≡ Some st.eff → IsLed c a
        by_steps c r q n a st e here m None steps h = none_some st.eff h
        by_steps c r q n a st e here m (Some x) steps h =
            let k = locals m c r e x here steps in
            record { config = k.config; state = k.state ∙ ap (λ f. apply c.state (Local t n) f) (some_is (to g x) st.eff h) ∙ sym st.is; used = k.used; reaches = k.reaches }

        by_count : (c : Config) → R c → (q n : ℕ) (a : PlainState) (st : IsStep (effect_of p) c.state q (Local t n) a) (e : Expr) → map.get c.state.threads t.0 ≡ Some e → (m : ℕ) → local_by g m e ≡ Some st.eff → IsLed c a
        by_count c r q n a st e here zero h = none_some st.eff h
        by_count c r q n a st e here (suc m) h = by_steps c r q n a st e here m (pure_steps g (suc m) e) refl h

        by_exprs : (c : Config) → R c → (q n : ℕ) (a : PlainState) (st : IsStep (effect_of p) c.state q (Local t n) a) (o : Option Expr) → map.get c.state.threads t.0 ≡ o
            → option_and_then (λ es. effect g q (Local t n) es None) (option_and_then (λ y. option_map (λ (ys : List Expr). y ∷ ys) (Some [])) o) ≡ Some st.eff → IsLed c a
        by_exprs c r q n a st None here h = none_some st.eff h
        by_exprs c r q n a st (Some e) here h = by_count c r q n a st e here n h

-- what histories ask for
module _ (p : ProgramParts) (script : List ℤ) where
  pub first_below : (t : ℕ) → map.contains_key (start p).threads t ≡ true → t < 2
  first_below t h =
      elim (nat_eq t 1) as (λ b. nat_eq t 1 ≡ b → t < 2) [
        | true ↦ λ is. (let at : t ≡ 1 = eqb-true t 1 is in omega (arith, at))
        | false ↦ λ is. absurd (false≢true (sym (ap is_some (get_inserted map.empty 1 (called (body p) p.main.0 []) t ∙ ap (λ b. cond b (Some (called (body p) p.main.0 [])) (map.get {R = nat_cmp} map.empty t)) is ∙ get-empty nat_cmp t)) ∙ h))
      ] refl

  -- the start of the program
  abbrev pub begin_at : Config
  begin_at = record {
    state = start p;
    used = 0;
    bound = 2;
    known = start_known p;
    threads = first_below;
    chans = λ c h. absurd (false≢true (sym (contains-empty nat_cmp c) ∙ h));
    references = λ r h. absurd (false≢true (sym (ap is_some (get-empty nat_cmp r)) ∙ h));
  }

  abbrev pub IsReached : Config → Type 0
  IsReached = Reaches (Free p script) (Open p script) (Like p script) begin_at

  -- no thread comes to a stabilize inside a section
  abbrev pub NeverTakesBack : Type 0
  NeverTakesBack = (c : Config) → IsReached c → (t : ℕ) → IsSomeAnd (standing c.state t) (λ e. is_stabilize (look_in p e) ≡ true) → mark_in c.state t ≡ None

  pub record IsFound (events : List Event) (s : PlainState) : Type 0 where
    pub config : Config
    pub state : config.state ≡ s
    pub used : config.used ≡ length (probed events)
    pub reaches : IsReached config
    pub untaken : (t : ℕ) → generation t events ≡ 0

  refuse_by_look : (k : Look Expr) (f : Effect Expr) → refuse_by (language_of p) k ≡ Some f → is_stabilize k ≡ true
  refuse_by_look (act stabilizes) f h = refl
  refuse_by_look k f h = none_some f h

  refuse_from : (q : ℕ) (t : ThreadId) (f : Effect Expr) (o : Option Expr) → option_and_then (λ es. effect (language_of p) q (Refuse t) es None) (option_and_then (λ y. option_map (λ (ys : List Expr). y ∷ ys) (Some [])) o) ≡ Some f
      → IsSomeAnd o (λ e. is_stabilize (look_in p e) ≡ true)
  refuse_from q t f None h = none_some f h
  refuse_from q t f (Some e) h = refuse_by_look (look_in p e) f h

  -- a refused thread stands at a stabilize
  refused_at : (s : PlainState) (q : ℕ) (t : ThreadId) (a : PlainState) → plain_step p s q (Refuse t) ≡ Some a → IsSomeAnd (standing s t.0) (λ e. is_stabilize (look_in p e) ≡ true)
  refused_at s q t a made = let st = step_of (effect_of p) s q (Refuse t) a made in refuse_from q t st.eff (map.get s.threads t.0) st.found

  generation_last : (t q : ℕ) (run : List Numbered) (es : List Event) (e : Event) (n : ℕ) → ((r : List Numbered) → puts_back t e.what r ≡ false) → generation_from t q run (es ++ e ∷ []) n ≡ generation_from t q run es n
  generation_last t q run [] e n none = ap (λ b. cond b (suc n) n) (none run)
  generation_last t q run (f ∷ es) e n none = generation_last t (suc q) (after_event q f.what run) es e (cond (puts_back t f.what run) (suc n) n) none

  one_more_used : (es : List Event) (w : ℕ) (l : Label) → uses l (length (probed es)) ≡ length (probed (es ++ event w (Step l) ∷ []))
  one_more_used es w l = by l ∙ sym (ap length (probed_more script es (event w (Step l))))
    where
      by : (l : Label) → uses l (length (probed es)) ≡ length (probed es ++ probed_by (Step l))
      by (Probe t i) = sym (length-append (probed es) (i ∷ []) ∙ (omega arith))
      by (Local t n) = sym (ap length (append-nil (probed es)))
      by (Spawn t u) = sym (ap length (append-nil (probed es)))
      by (NewChan t c) = sym (ap length (append-nil (probed es)))
      by (Comm t u c) = sym (ap length (append-nil (probed es)))
      by (NewRef t r) = sym (ap length (append-nil (probed es)))
      by (Get t r) = sym (ap length (append-nil (probed es)))
      by (Set t r) = sym (ap length (append-nil (probed es)))
      by (Enter t) = sym (ap length (append-nil (probed es)))
      by (Cut t) = sym (ap length (append-nil (probed es)))
      by (Print t) = sym (ap length (append-nil (probed es)))
      by (Refuse t) = sym (ap length (append-nil (probed es)))
      by (Pin t) = sym (ap length (append-nil (probed es)))
      by (Attempt t g) = sym (ap length (append-nil (probed es)))

  free_uses : (l : Label) (u : ℕ) → is_free l ≡ true → uses l u ≡ u
  free_uses (Probe t i) u free = absurd (false≢true free)
  free_uses l u free = refl

  module _ (never : NeverTakesBack) (es : List Event) (run : List Numbered) (before a : PlainState) (w : ℕ) (h : IsFound es before) where
    abbrev q : ℕ
    q = length es + 1

    module _ (l : Label) (is : plain_step p before q l ≡ Some a) where
      abbrev made : plain_step p h.config.state q l ≡ Some a
      made = ap (λ (s : PlainState). plain_step p s q l) h.state ∙ is

      abbrev e : Event
      e = event w (Step l)

      untaken_still : (t : ℕ) → generation t (es ++ e ∷ []) ≡ 0
      untaken_still t = generation_last t 1 [] es e 0 (λ r. refl) ∙ h.untaken t

      found_free : is_free l ≡ true → IsFound (es ++ e ∷ []) a
      found_free free = record {
        config = after p h.config q l a made h.config.used;
        state = refl;
        used = h.used ∙ sym (free_uses l (length (probed es)) free) ∙ one_more_used es w l;
        reaches = by_free begin_at h.config (after p h.config q l a made h.config.used) h.reaches (record { q = q; l = l; free = free; made = made; used = refl });
        untaken = untaken_still;
      }

      found_open : is_open l ≡ true → Asks p script h.config l → IsFound (es ++ e ∷ []) a
      found_open opened asked = record {
        config = after p h.config q l a made (uses l h.config.used);
        state = refl;
        used = ap (uses l) h.used ∙ one_more_used es w l;
        reaches = by_open begin_at h.config (after p h.config q l a made (uses l h.config.used)) h.reaches (record { q = q; l = l; opened = opened; asked = asked; made = made; used = refl });
        untaken = untaken_still;
      }

    found_local : (t : ThreadId) (n : ℕ) (is : plain_step p before q (Local t n) ≡ Some a) → IsFound (es ++ event w (Step (Local t n)) ∷ []) a
    found_local t n is =
        let k = local_event p t script begin_at h.config h.reaches q n a (made (Local t n) is) in
        record { config = k.config; state = k.state; used = k.used ∙ h.used ∙ one_more_used es w (Local t n); reaches = k.reaches; untaken = untaken_still (Local t n) is }

    found_step : (l : Label) → plain_step p before q l ≡ Some a → MayStep es run before l → FollowsScript script (es ++ event w (Step l) ∷ []) → IsFound (es ++ event w (Step l) ∷ []) a
    found_step (Local t n) is may f = found_local t n is
    found_step (Spawn t u) is may f = found_free (Spawn t u) is refl
    found_step (NewChan t c) is may f = found_free (NewChan t c) is refl
    found_step (NewRef t r) is may f = found_free (NewRef t r) is refl
    found_step (Enter t) is may f = found_free (Enter t) is refl
    found_step (Comm t u c) is may f = found_open (Comm t u c) is refl tt
    found_step (Get t r) is may f = found_open (Get t r) is refl tt
    found_step (Set t r) is may f = found_open (Set t r) is refl tt
    found_step (Cut t) is may f = found_open (Cut t) is refl tt
    found_step (Print t) is may f = found_open (Print t) is refl tt
    found_step (Pin t) is may f = found_open (Pin t) is refl tt
    found_step (Probe t i) is may f =
        found_open (Probe t i) is refl
        (last_follows script (probed es) i (subst (λ (xs : List ℤ). (k : ℕ) → IfSome (slice_get xs k) (λ m. m ≡ script_at script k)) (probed_more script es (event w (Step (Probe t i)))) f)
        ∙ ap (script_at script) (sym h.used))
    found_step (Attempt t n) is may f = found_open (Attempt t n) is refl (may ∙ h.untaken t.0)
    found_step (Refuse t) is may f = found_open (Refuse t) is refl (never h.config h.reaches t.0 (refused_at h.config.state q t a (made (Refuse t) is)))

  mark_clash : (m : ℕ) (o : Option ℕ) → o ≡ Some m → o ≡ None → ⊥
  mark_clash m o is none = cc

  -- where no thread comes to a stabilize inside a section, each history is such a list of steps
  pub found : NeverTakesBack → (events : List Event) (run : List Numbered) (s : PlainState) → StandsFor p events run s → FollowsScript script events → IsFound events s
  found never _ _ _ nothing f = record { config = begin_at; state = refl; used = refl; reaches = begin begin_at; untaken = λ t. refl }
  found never _ _ _ (step {events = es} {run = run} {before = before} after worker label stands may is) f =
      let all : (i : ℕ) → IfSome (slice_get (probed es ++ probed_by (Step label)) i) (λ n. n ≡ script_at script i) = subst (λ (xs : List ℤ). (i : ℕ) → IfSome (slice_get xs i) (λ n. n ≡ script_at script i)) (probed_more script es (event worker (Step label))) f in
      found_step never es run before after worker (found never es run before stands (front_follows script (probed es) (probed_by (Step label)) all)) label is may f
  found never _ _ _ (undo {events = es} {run = run} {before = before} after worker t m stands may is) f =
      let e = event worker (Undo (record { 0 = t }) (record { 0 = m })) in
      let none : probed (es ++ e ∷ []) ≡ probed es = probed_more script es e ∙ append-nil (probed es) in
      let h = found never es run before stands (subst (λ (xs : List ℤ). (i : ℕ) → IfSome (slice_get xs i) (λ n. n ≡ script_at script i)) none f) in
      absurd (mark_clash m (mark_in before t) may.mark
      (subst (λ (x : PlainState). mark_in x t ≡ None) h.state (never h.config h.reaches t (subst (λ (x : PlainState). IsSomeAnd (standing x t) (λ y. is_stabilize (look_in p y) ≡ true)) (sym h.state) may.at))))
  found never _ _ _ (release {events = es} {run = run} {state = state} worker k stands final more) f =
      let e = event worker (Release k) in
      let none : probed (es ++ e ∷ []) ≡ probed es = probed_more script es e ∙ append-nil (probed es) in
      let h = found never es run state stands (subst (λ (xs : List ℤ). (i : ℕ) → IfSome (slice_get xs i) (λ n. n ≡ script_at script i)) none f) in
      record { config = h.config; state = h.state; used = h.used ∙ ap length (sym none); reaches = h.reaches; untaken = λ t. generation_last t 1 [] es e 0 (λ r. refl) ∙ h.untaken t }
