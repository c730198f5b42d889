-- States that differ by numbers alone make the same steps, with these numbers.
use Rattle.std.proofs.Common.{◌≡◌, ℕ, Bool, true, false, cond, not, ◌||◌, nat_eq, List, [], ◌∷◌, ◌++◌, Option, Some, None, refl, sym, ap, subst, ◌∙◌}
use Rattle.std.specs.Prelude.{map as each, option_map, option_and_then, is_some, IsSomeAnd}
use Rattle.std.specs.FinMap as map
use Rattle.std.specs.FinSet as set
use Rattle.stab_base.specs.Datum.{Datum, pair}
use Rattle.stab_code.specs.Program.{ProgramParts}
use Rattle.stab_journal.specs.declared.event.Label.{Label}
use Rattle.stab_journal.specs.declared.event.Label.TheVariants.{Local, Spawn, NewChan, Comm, NewRef, Get, Set, Enter, Cut, Print, Probe, Refuse, Pin, Attempt}
use Rattle.stab_journal.specs.Label.{actors, touched, written}
use Rattle.stab_journal.specs.Names.{read, made, is_at}
use Rattle.language.specs.Expression.{Expr}
use Rattle.language.specs.Plain.{PlainState, effect_of, language_of, plain_step}
use Rattle.language.specs.Steps.{Effect, allows, apply, effect_in, exprs_at, held_at, put_threads, put_value}
use Rattle.language.specs.Table.{effect}
use Rattle.language.proofs.Applying.{get_inserted, put_channel-is}
use Rattle.journal_laws.proofs.Stepping.{step_of, plain_of}
use Rattle.explore_laws.specs.Renamed as renamed
use Rattle.explore_laws.specs.Renamed.{Naming, IsNaming, IsLike, unnamed, datum_in, expr_in, label_in}
use Rattle.explore_laws.proofs.Renaming.{each_append, same_number}
use Rattle.explore_laws.proofs.RenamedSteps.{effect_same}

-- numbers as they are change no value
datum_unnamed : (v : Datum) → datum_in unnamed v ≡ v
datum_unnamed (pair a b) = ap (λ x. pair x (datum_in unnamed b)) (datum_unnamed a) ∙ ap (pair a) (datum_unnamed b)
datum_unnamed v = refl

pub data_unnamed : (vs : List Datum) → each (datum_in unnamed) vs ≡ vs
data_unnamed [] = refl
data_unnamed (v ∷ vs) = ap (λ x. x ∷ each (datum_in unnamed) vs) (datum_unnamed v) ∙ ap (λ xs. v ∷ xs) (data_unnamed vs)

pub held_unnamed : (o : Option Datum) → option_map (datum_in unnamed) o ≡ o
held_unnamed None = refl
held_unnamed (Some v) = ap Some (datum_unnamed v)

pub label_unnamed : (l : Label) → label_in unnamed l ≡ l
label_unnamed (Local t k) = refl
label_unnamed (Spawn t u) = refl
label_unnamed (NewChan t c) = refl
label_unnamed (Comm s r c) = refl
label_unnamed (NewRef t r) = refl
label_unnamed (Get t r) = refl
label_unnamed (Set t r) = refl
label_unnamed (Enter t) = refl
label_unnamed (Cut t) = refl
label_unnamed (Print t) = refl
label_unnamed (Probe t i) = refl
label_unnamed (Refuse t) = refl
label_unnamed (Pin t) = refl
label_unnamed (Attempt t g) = refl

pub is_unnamed : IsNaming unnamed
is_unnamed = record { threads = λ t u h. h; chans = λ b c h. h; references = λ q r h. h }

-- what a label names, with other numbers
module _ (n : Naming) where
  acts_in : (l : Label) → actors (label_in n l) ≡ each n.thread (actors l)
  acts_in (Local t k) = refl
  acts_in (Spawn t u) = refl
  acts_in (NewChan t c) = refl
  acts_in (Comm s r c) = refl
  acts_in (NewRef t r) = refl
  acts_in (Get t r) = refl
  acts_in (Set t r) = refl
  acts_in (Enter t) = refl
  acts_in (Cut t) = refl
  acts_in (Print t) = refl
  acts_in (Probe t i) = refl
  acts_in (Refuse t) = refl
  acts_in (Pin t) = refl
  acts_in (Attempt t g) = refl

  touches_in : (l : Label) → touched (label_in n l) ≡ each n.thread (touched l)
  touches_in (Spawn t u) = refl
  touches_in (Local t k) = refl
  touches_in (NewChan t c) = refl
  touches_in (Comm s r c) = refl
  touches_in (NewRef t r) = refl
  touches_in (Get t r) = refl
  touches_in (Set t r) = refl
  touches_in (Enter t) = refl
  touches_in (Cut t) = refl
  touches_in (Print t) = refl
  touches_in (Probe t i) = refl
  touches_in (Refuse t) = refl
  touches_in (Pin t) = refl
  touches_in (Attempt t g) = refl

  reads_in : (l : Label) → read (label_in n l) ≡ option_map n.reference (read l)
  reads_in (Get t r) = refl
  reads_in (Local t k) = refl
  reads_in (Spawn t u) = refl
  reads_in (NewChan t c) = refl
  reads_in (Comm s r c) = refl
  reads_in (NewRef t r) = refl
  reads_in (Set t r) = refl
  reads_in (Enter t) = refl
  reads_in (Cut t) = refl
  reads_in (Print t) = refl
  reads_in (Probe t i) = refl
  reads_in (Refuse t) = refl
  reads_in (Pin t) = refl
  reads_in (Attempt t g) = refl

  writes_in : (l : Label) → written (label_in n l) ≡ option_map n.reference (written l)
  writes_in (NewRef t r) = refl
  writes_in (Set t r) = refl
  writes_in (Local t k) = refl
  writes_in (Spawn t u) = refl
  writes_in (NewChan t c) = refl
  writes_in (Comm s r c) = refl
  writes_in (Get t r) = refl
  writes_in (Enter t) = refl
  writes_in (Cut t) = refl
  writes_in (Print t) = refl
  writes_in (Probe t i) = refl
  writes_in (Refuse t) = refl
  writes_in (Pin t) = refl
  writes_in (Attempt t g) = refl

  makes_in : (l : Label) → made (label_in n l) ≡ option_map n.chan (made l)
  makes_in (NewChan t c) = refl
  makes_in (Local t k) = refl
  makes_in (Spawn t u) = refl
  makes_in (Comm s r c) = refl
  makes_in (NewRef t r) = refl
  makes_in (Get t r) = refl
  makes_in (Set t r) = refl
  makes_in (Enter t) = refl
  makes_in (Cut t) = refl
  makes_in (Print t) = refl
  makes_in (Probe t i) = refl
  makes_in (Refuse t) = refl
  makes_in (Pin t) = refl
  makes_in (Attempt t g) = refl

some_alike : {A B C : Type 0} (f : A → C) (g : B → C) (o : Option A) (x : Option B) → option_map f o ≡ option_map g x → is_some o ≡ is_some x
some_alike f g None None h = refl
some_alike f g (Some a) (Some b) h = refl
some_alike f g None (Some b) h = cc
some_alike f g (Some a) None h = cc

some_same : {A B : Type 0} (f : A → B) (o : Option A) → is_some (option_map f o) ≡ is_some o
some_same f None = refl
some_same f (Some a) = refl

module _ (p : ProgramParts) (n : Naming) (is : IsNaming n) (s r : PlainState) (like : IsLike n s r) where
  alike_more : (o x : Option Expr) (os xs : Option (List Expr)) → option_map (expr_in unnamed) o ≡ option_map (expr_in n) x → option_map (each (expr_in unnamed)) os ≡ option_map (each (expr_in n)) xs
      → option_map (each (expr_in unnamed)) (option_and_then (λ e. option_map (λ es. e ∷ es) os) o) ≡ option_map (each (expr_in n)) (option_and_then (λ e. option_map (λ es. e ∷ es) xs) x)
  alike_more None None os xs h k = refl
  alike_more None (Some b) os xs h k = cc
  alike_more (Some a) None os xs h k = cc
  alike_more (Some a) (Some b) None None h k = refl
  alike_more (Some a) (Some b) None (Some ys) h k = cc
  alike_more (Some a) (Some b) (Some xs) None h k = cc
  alike_more (Some a) (Some b) (Some xs) (Some ys) h k =
      let one : expr_in unnamed a ≡ expr_in n b = cc in
      let more : each (expr_in unnamed) xs ≡ each (expr_in n) ys = cc in
      ap (λ e. Some (e ∷ each (expr_in unnamed) xs)) one ∙ ap (λ es. Some (expr_in n b ∷ es)) more

  exprs_alike : (ts : List ℕ) → option_map (each (expr_in unnamed)) (exprs_at r.threads (each n.thread ts)) ≡ option_map (each (expr_in n)) (exprs_at s.threads ts)
  exprs_alike [] = refl
  exprs_alike (t ∷ ts) = alike_more (map.get r.threads (n.thread t)) (map.get s.threads t) (exprs_at r.threads (each n.thread ts)) (exprs_at s.threads ts) (like.threads t) (exprs_alike ts)

  held_alike : (o : Option ℕ) → held_at r.references (option_map n.reference o) ≡ option_map (datum_in n) (held_at s.references o)
  held_alike None = refl
  held_alike (Some q) = like.references q

  -- the effect, from the actors
  effect_from : (q k : ℕ) (l : Label) (os xs : Option (List Expr)) (held : Option Datum) → option_map (each (expr_in unnamed)) os ≡ option_map (each (expr_in n)) xs
      → option_map (renamed.effect_in unnamed) (option_and_then (λ es. effect (language_of p) k (label_in n l) es (option_map (datum_in n) held)) os)
      ≡ option_map (renamed.effect_in n) (option_and_then (λ es. effect (language_of p) q l es held) xs)
  effect_from q k l None None held h = refl
  effect_from q k l None (Some ys) held h = cc
  effect_from q k l (Some xs) None held h = cc
  effect_from q k l (Some xs) (Some ys) held h =
      let same : each (expr_in unnamed) xs ≡ each (expr_in n) ys = cc in
      sym (effect_same p unnamed is_unnamed k (label_in n l) xs (option_map (datum_in n) held))
      ∙ ap (λ m. effect (language_of p) 0 m (each (expr_in unnamed) xs) (option_map (datum_in unnamed) (option_map (datum_in n) held))) (label_unnamed (label_in n l))
      ∙ ap (effect (language_of p) 0 (label_in n l) (each (expr_in unnamed) xs)) (held_unnamed (option_map (datum_in n) held))
      ∙ ap (λ es. effect (language_of p) 0 (label_in n l) es (option_map (datum_in n) held)) same
      ∙ effect_same p n is q l ys held

  effects_alike : (q k : ℕ) (l : Label) → option_map (renamed.effect_in unnamed) (effect_in (effect_of p) r k (label_in n l)) ≡ option_map (renamed.effect_in n) (effect_in (effect_of p) s q l)
  effects_alike q k l =
      ap (λ ts. option_map (renamed.effect_in unnamed) (option_and_then (λ es. effect (language_of p) k (label_in n l) es (held_at r.references (read (label_in n l)))) (exprs_at r.threads ts))) (acts_in n l)
      ∙ ap (λ v. option_map (renamed.effect_in unnamed) (option_and_then (λ es. effect (language_of p) k (label_in n l) es v) (exprs_at r.threads (each n.thread (actors l))))) (ap (held_at r.references) (reads_in n l) ∙ held_alike (read l))
      ∙ effect_from q k l (exprs_at r.threads (each n.thread (actors l))) (exprs_at s.threads (actors l)) (held_at s.references (read l)) (exprs_alike (actors l))

  -- what is new stays new
  allows_alike : (l : Label) → allows r (label_in n l) ≡ allows s l
  allows_alike (Spawn t u) = ap not (some_alike (expr_in unnamed) (expr_in n) _ _ (like.threads u.0))
  allows_alike (NewChan t c) = ap not (like.channels c.0)
  allows_alike (NewRef t q) = ap not (ap is_some (like.references q.0) ∙ some_same (datum_in n) (map.get s.references q.0))
  allows_alike (Set t q) = ap is_some (like.references q.0) ∙ some_same (datum_in n) (map.get s.references q.0)
  allows_alike (Local t k) = refl
  allows_alike (Comm t u c) = refl
  allows_alike (Get t q) = refl
  allows_alike (Enter t) = refl
  allows_alike (Cut t) = refl
  allows_alike (Print t) = refl
  allows_alike (Probe t i) = refl
  allows_alike (Refuse t) = refl
  allows_alike (Pin t) = refl
  allows_alike (Attempt t g) = refl

  -- where the two effects are applied
  module _ (l : Label) (e f : Effect Expr) (same : renamed.effect_in unnamed f ≡ renamed.effect_in n e) where
    cond_alike : (b c : Bool) (x y : Expr) (o u : Option Expr) → b ≡ c → expr_in unnamed x ≡ expr_in n y → option_map (expr_in unnamed) o ≡ option_map (expr_in n) u
        → option_map (expr_in unnamed) (cond b (Some x) o) ≡ option_map (expr_in n) (cond c (Some y) u)
    cond_alike true c x y o u at h k = subst (λ d. Some (expr_in unnamed x) ≡ option_map (expr_in n) (cond d (Some y) u)) at (ap Some h)
    cond_alike false c x y o u at h k = subst (λ d. option_map (expr_in unnamed) o ≡ option_map (expr_in n) (cond d (Some y) u)) at k

    put_alike : (ts : List ℕ) (a b x y : Expr) → expr_in unnamed a ≡ expr_in n x → expr_in unnamed b ≡ expr_in n y → (t : ℕ)
        → option_map (expr_in unnamed) (map.get (put_threads (each n.thread ts) a b r.threads) (n.thread t)) ≡ option_map (expr_in n) (map.get (put_threads ts x y s.threads) t)
    put_alike [] a b x y h k t = like.threads t
    put_alike (u ∷ ts) a b x y h k t =
        ap (option_map (expr_in unnamed)) (get_inserted (put_threads (each n.thread ts) b b r.threads) (n.thread u) a (n.thread t))
        ∙ cond_alike (nat_eq (n.thread t) (n.thread u)) (nat_eq t u) a x _ _ (same_number n.thread is.threads t u) h (put_alike ts b b y y k k t)
        ∙ sym (ap (option_map (expr_in n)) (get_inserted (put_threads ts y y s.threads) u x t))

    value_alike : (v w : Datum) → v ≡ datum_in n w → (o : Option ℕ) (q : ℕ) → map.get (put_value (option_map n.reference o) v r.references) (n.reference q) ≡ option_map (datum_in n) (map.get (put_value o w s.references) q)
    value_alike v w h None q = like.references q
    value_alike v w h (Some u) q =
        get_inserted r.references (n.reference u) v (n.reference q)
        ∙ ap (λ b. cond b (Some v) (map.get r.references (n.reference q))) (same_number n.reference is.references q u)
        ∙ (elim (nat_eq q u) as (λ b. cond b (Some v) (map.get r.references (n.reference q)) ≡ option_map (datum_in n) (cond b (Some w) (map.get s.references q))) [ true ↦ ap Some h | false ↦ like.references q ])
        ∙ sym (ap (option_map (datum_in n)) (get_inserted s.references u w q))

    made_alike : (o : Option ℕ) (c : ℕ) → is_at (option_map n.chan o) (n.chan c) ≡ is_at o c
    made_alike None c = refl
    made_alike (Some d) c = same_number n.chan is.chans c d

    mine : expr_in unnamed f.mine ≡ expr_in n e.mine
    mine = ap (λ (x : Effect Expr). x.mine) same

    others : expr_in unnamed f.other ≡ expr_in n e.other
    others = ap (λ (x : Effect Expr). x.other) same

    values : f.value ≡ datum_in n e.value
    values = sym (datum_unnamed f.value) ∙ ap (λ (x : Effect Expr). x.value) same

    prints : f.printed ≡ each (datum_in n) e.printed
    prints = sym (data_unnamed f.printed) ∙ ap (λ (x : Effect Expr). x.printed) same

    pub applied : IsLike n (apply s l e) (apply r (label_in n l) f)
    applied = record {
      threads = λ t. ap (λ ts. option_map (expr_in unnamed) (map.get (put_threads ts f.mine f.other r.threads) (n.thread t))) (touches_in n l) ∙ put_alike (touched l) f.mine f.other e.mine e.other mine others t;
      references = λ q. ap (λ o. map.get (put_value o f.value r.references) (n.reference q)) (writes_in n l) ∙ value_alike f.value e.value values (written l) q;
      channels = λ c. put_channel-is (made (label_in n l)) r.channels (n.chan c) ∙ ap (λ o. is_at o (n.chan c) || set.contains r.channels (n.chan c)) (makes_in n l)
          ∙ ap (λ b. b || set.contains r.channels (n.chan c)) (made_alike (made l) c) ∙ ap (λ b. is_at (made l) c || b) (like.channels c) ∙ sym (put_channel-is (made l) s.channels c);
      output = ap (λ vs. r.output ++ vs) prints ∙ ap (λ vs. vs ++ each (datum_in n) e.printed) like.output ∙ sym (each_append (datum_in n) s.output e.printed);
    }

  found_by : (k : ℕ) (l : Label) (e : Effect Expr) (o : Option (Effect Expr)) → effect_in (effect_of p) r k (label_in n l) ≡ o → option_map (renamed.effect_in unnamed) o ≡ Some (renamed.effect_in n e) → allows s l ≡ true
      → IsSomeAnd (plain_step p r k (label_in n l)) (IsLike n (apply s l e))
  found_by k l e None found h ok = cc
  found_by k l e (Some f) found h ok =
      let same : renamed.effect_in unnamed f ≡ renamed.effect_in n e = cc in
      subst (λ (o : Option PlainState). IsSomeAnd o (IsLike n (apply s l e))) (sym (plain_of (effect_of p) r k (label_in n l) f found (allows_alike l ∙ ok))) (applied l e f same)

  -- a step of the one is a step of the other
  pub alike : (q k : ℕ) (l : Label) (a : PlainState) → plain_step p s q l ≡ Some a → IsSomeAnd (plain_step p r k (label_in n l)) (IsLike n a)
  alike q k l a h =
      let st = step_of (effect_of p) s q l a h in
      subst (λ (x : PlainState). IsSomeAnd (plain_step p r k (label_in n l)) (IsLike n x)) (sym st.is)
      (found_by k l st.eff _ refl (effects_alike q k l ∙ ap (option_map (renamed.effect_in n)) st.found) st.allowed)
