-- Which new number a step takes makes no difference but for that number.
use Rattle.std.proofs.Common.{◌≡◌, ℕ, Bool, true, false, cond, nat_eq, List, [], ◌∷◌, Option, Some, None, refl, sym, ap, subst, ◌∙◌}
use Rattle.std.specs.Prelude.{map as each, option_map, is_some, IsSomeAnd}
use Rattle.std.specs.List.{AllByRecursion}
use Rattle.std.specs.Cmp.{nat_eq_equiv}
use Rattle.std.specs.FinMap as map
use Rattle.std.specs.FinSet as set
use Rattle.std.proofs.lemmas.Bool.{false≢true, eqb-true, not-true}
use Rattle.stab_base.specs.Datum.{Datum, chan, reference, pair}
use Rattle.stab_base.specs.declared.numbers.ThreadId.{ThreadId}
use Rattle.stab_base.specs.declared.numbers.ChanId.{ChanId}
use Rattle.stab_base.specs.declared.numbers.RefId.{RefId}
use Rattle.stab_code.specs.Program.{ProgramParts}
use Rattle.stab_journal.specs.declared.event.Label.{Label}
use Rattle.stab_journal.specs.declared.event.Label.TheVariants.{Spawn, NewChan, NewRef}
use Rattle.language.specs.declared.head.Head.{Head}
use Rattle.language.specs.declared.head.Head.TheVariants.{Section}
use Rattle.language.specs.Expression.{Expr, value, variable, failed, form, Parts, none, part}
use Rattle.language.specs.Plain.{PlainState, plain_step, effect_of}
use Rattle.journal_laws.specs.Known.{Known, known_in, IsIn, IsExprIn, ArePartsIn, IsKnown}
use Rattle.journal_laws.proofs.Stepping.{step_of}
use Rattle.explore_laws.specs.Renamed.{Naming, IsLike, AreTwoWay, AreLike, unnamed, datum_in, head_in, expr_in, parts_in}
use Rattle.explore_laws.proofs.LikeSteps.{alike}
use Rattle.explore_laws.proofs.Likeness.{one_to_one}

-- two numbers change places
swap : ℕ → ℕ → ℕ → ℕ
swap a b x = cond (nat_eq x a) b (cond (nat_eq x b) a x)

module _ (a b : ℕ) where
  swap_first : swap a b a ≡ b
  unfolding swap
  swap_first = ap (λ c. cond c b (cond (nat_eq a b) a a)) (nat_eq_equiv.refl a)

  -- a number that is in a set without the two stays
  swap_there : (f : ℕ → Bool) → f a ≡ false → f b ≡ false → (x : ℕ) → f x ≡ true → swap a b x ≡ x
  unfolding swap
  swap_there f h k x there = by (nat_eq x a) refl (nat_eq x b) refl
    where
      by : (c : Bool) → nat_eq x a ≡ c → (d : Bool) → nat_eq x b ≡ d → cond c b (cond d a x) ≡ x
      by true is d at = absurd (false≢true (sym h ∙ ap f (sym (eqb-true x a is)) ∙ there))
      by false is true at = absurd (false≢true (sym k ∙ ap f (sym (eqb-true x b at)) ∙ there))
      by false is false at = refl

  -- what is said alike of both is said alike of swapped numbers
  swap_same : {A : Type 0} (f : ℕ → A) → f a ≡ f b → (x : ℕ) → f (swap a b x) ≡ f x
  unfolding swap
  swap_same f h x = by (nat_eq x a) refl (nat_eq x b) refl
    where
      by : (c : Bool) → nat_eq x a ≡ c → (d : Bool) → nat_eq x b ≡ d → f (cond c b (cond d a x)) ≡ f x
      by true is d at = sym h ∙ ap f (sym (eqb-true x a is))
      by false is true at = h ∙ ap f (sym (eqb-true x b at))
      by false is false at = refl

  -- any other number stays
  swap_other : (x : ℕ) → nat_eq x a ≡ false → nat_eq x b ≡ false → swap a b x ≡ x
  unfolding swap
  swap_other x h i = ap (λ c. cond c b (cond (nat_eq x b) a x)) h ∙ ap (λ c. cond c a x) i

  swap_twice : (x : ℕ) → swap a b (swap a b x) ≡ x
  unfolding swap
  swap_twice x = by (nat_eq x a) refl (nat_eq x b) refl
    where
      back : (c : Bool) → nat_eq b a ≡ c → cond c b (cond (nat_eq b b) a b) ≡ a
      back true is = eqb-true b a is
      back false is = ap (λ d. cond d a b) (nat_eq_equiv.refl b)

      by : (c : Bool) → nat_eq x a ≡ c → (d : Bool) → nat_eq x b ≡ d → cond (nat_eq (cond c b (cond d a x)) a) b (cond (nat_eq (cond c b (cond d a x)) b) a (cond c b (cond d a x))) ≡ x
      by true is d at = back (nat_eq b a) refl ∙ sym (eqb-true x a is)
      by false is true at = ap (λ c. cond c b (cond (nat_eq a b) a a)) (nat_eq_equiv.refl a) ∙ sym (eqb-true x b at)
      by false is false at = ap (λ c. cond c b (cond (nat_eq x b) a x)) is ∙ ap (λ c. cond c a x) at

-- a naming that changes no number that is known changes nothing
module _ (k : Known) (n : Naming) (chans : (c : ℕ) → k.channels c ≡ true → n.chan c ≡ c) (refs : (r : ℕ) → k.references r ≡ true → n.reference r ≡ r) where
  datum_kept : (v : Datum) → IsIn k v → datum_in n v ≡ v
  datum_kept (chan c) h = ap chan (chans c h)
  datum_kept (reference r) h = ap reference (refs r h)
  datum_kept (pair a b) h = ap (λ x. pair x (datum_in n b)) (datum_kept a h.0) ∙ ap (pair a) (datum_kept b h.1)
  datum_kept v h = refl

  data_kept : (vs : List Datum) → AllByRecursion (IsIn k) vs → each (datum_in n) vs ≡ vs
  data_kept [] h = refl
  data_kept (v ∷ vs) h = ap (λ x. x ∷ each (datum_in n) vs) (datum_kept v h.0) ∙ ap (λ xs. v ∷ xs) (data_kept vs h.1)

  datum_alone : (v : Datum) → datum_in unnamed v ≡ v
  datum_alone (pair a b) = ap (λ x. pair x (datum_in unnamed b)) (datum_alone a) ∙ ap (pair a) (datum_alone b)
  datum_alone v = refl

  head_alone : (h : Head) → head_in n h ≡ head_in unnamed h
  head_alone (Section q) = refl
  head_alone h = refl

  mutual
    expr_kept : (e : Expr) → IsExprIn k e → expr_in n e ≡ expr_in unnamed e
    expr_kept (value v) h = ap value (datum_kept v h ∙ sym (datum_alone v))
    expr_kept (variable x) h = refl
    expr_kept (failed f) h = refl
    expr_kept (form g ps) h = ap (λ x. form x (parts_in n ps)) (head_alone g) ∙ ap (form (head_in unnamed g)) (parts_kept ps h.1)

    parts_kept : (ps : Parts) → ArePartsIn k ps → parts_in n ps ≡ parts_in unnamed ps
    parts_kept none h = refl
    parts_kept (part e ps) h = ap (λ x. part x (parts_in n ps)) (expr_kept e h.0) ∙ ap (part (expr_in unnamed e)) (parts_kept ps h.1)

module _ (s : PlainState) (known : IsKnown IsExprIn s) where
  -- a state isn't changed by other numbers for what isn't there
  module _ (n : Naming) (threads : (t : ℕ) → map.get s.threads (n.thread t) ≡ map.get s.threads t) (chans : (c : ℕ) → set.contains s.channels (n.chan c) ≡ set.contains s.channels c)
      (held : (r : ℕ) → map.get s.references (n.reference r) ≡ map.get s.references r)
      (same_chans : (c : ℕ) → set.contains s.channels c ≡ true → n.chan c ≡ c) (same_refs : (r : ℕ) → map.contains_key s.references r ≡ true → n.reference r ≡ r) where
    one_thread : (t : ℕ) (o : Option Expr) → map.get s.threads t ≡ o → option_map (expr_in unnamed) o ≡ option_map (expr_in n) o
    one_thread t None at = refl
    one_thread t (Some e) at = ap Some (sym (expr_kept (known_in s) n same_chans same_refs e (known.threads t e at)))

    one_reference : (r : ℕ) (o : Option Datum) → map.get s.references r ≡ o → o ≡ option_map (datum_in n) o
    one_reference r None at = refl
    one_reference r (Some v) at = ap Some (sym (datum_kept (known_in s) n same_chans same_refs v (known.references r v at)))

    pub unchanged : IsLike n s s
    unchanged = record {
      threads = λ t. ap (option_map (expr_in unnamed)) (threads t) ∙ one_thread t (map.get s.threads t) refl;
      references = λ r. held r ∙ one_reference r (map.get s.references r) refl;
      channels = chans;
      output = sym (data_kept (known_in s) n same_chans same_refs s.output known.output);
    }

  none_is : {A : Type 0} (o : Option A) → is_some o ≡ false → o ≡ None
  none_is None h = refl
  none_is (Some x) h = absurd (false≢true (sym h))

  abbrev of_threads : ℕ → ℕ → Naming
  of_threads u v = record { thread = swap u v; chan = λ c. c; reference = λ r. r }

  abbrev of_chans : ℕ → ℕ → Naming
  of_chans c d = record { thread = λ t. t; chan = swap c d; reference = λ r. r }

  abbrev of_refs : ℕ → ℕ → Naming
  of_refs q r = record { thread = λ t. t; chan = λ c. c; reference = swap q r }

  itself : (u v : ℕ) → AreTwoWay (of_threads u v) (of_threads u v)
  itself u v = record { threads = swap_twice u v; threads_back = swap_twice u v; chans = λ c. refl; chans_back = λ c. refl; references = λ r. refl; references_back = λ r. refl }

  chans_itself : (c d : ℕ) → AreTwoWay (of_chans c d) (of_chans c d)
  chans_itself c d = record { threads = λ t. refl; threads_back = λ t. refl; chans = swap_twice c d; chans_back = swap_twice c d; references = λ r. refl; references_back = λ r. refl }

  refs_itself : (q r : ℕ) → AreTwoWay (of_refs q r) (of_refs q r)
  refs_itself q r = record { threads = λ t. refl; threads_back = λ t. refl; chans = λ c. refl; chans_back = λ c. refl; references = swap_twice q r; references_back = swap_twice q r }

  module _ (p : ProgramParts) (q k : ℕ) (a : PlainState) where
    like_by : (n : Naming) (w : AreTwoWay n n) (o : Option PlainState) → IsSomeAnd o (IsLike n a) → IsSomeAnd o (AreLike a)
    like_by n w (Some x) h = record { there = n; back = n; two_way = w; like = h }
    like_by n w None h = h

    -- a new thread with another new number
    pub other_thread : (t u v : ThreadId) → plain_step p s q (Spawn t u) ≡ Some a → map.contains_key s.threads v.0 ≡ false → nat_eq t.0 u.0 ≡ false → nat_eq t.0 v.0 ≡ false → IsSomeAnd (plain_step p s k (Spawn t v)) (AreLike a)
    other_thread t u v made fresh apart also =
        let new : map.contains_key s.threads u.0 ≡ false = not-true _ (step_of (effect_of p) s q (Spawn t u) a made).allowed in
        let gone : map.get s.threads u.0 ≡ map.get s.threads v.0 = none_is _ new ∙ sym (none_is _ fresh) in
        let like = unchanged (of_threads u.0 v.0) (swap_same u.0 v.0 (map.get s.threads) gone) (λ c. refl) (λ r. refl) (λ c h. refl) (λ r h. refl) in
        let made_too = alike p (of_threads u.0 v.0) (one_to_one _ _ (itself u.0 v.0)) s s like q k (Spawn t u) a made in
        like_by (of_threads u.0 v.0) (itself u.0 v.0) (plain_step p s k (Spawn t v))
        (subst (λ (l : Label). IsSomeAnd (plain_step p s k l) (IsLike (of_threads u.0 v.0) a))
        (ap (λ x. Spawn (record { 0 = x }) (record { 0 = swap u.0 v.0 u.0 })) (swap_other u.0 v.0 t.0 apart also) ∙ ap (λ x. Spawn t (record { 0 = x })) (swap_first u.0 v.0)) made_too)

    -- a new channel with another new number
    pub other_chan : (t : ThreadId) (c d : ChanId) → plain_step p s q (NewChan t c) ≡ Some a → set.contains s.channels d.0 ≡ false → IsSomeAnd (plain_step p s k (NewChan t d)) (AreLike a)
    other_chan t c d made fresh =
        let new : set.contains s.channels c.0 ≡ false = not-true _ (step_of (effect_of p) s q (NewChan t c) a made).allowed in
        let like = unchanged (of_chans c.0 d.0) (λ t. refl) (swap_same c.0 d.0 (set.contains s.channels) (new ∙ sym fresh)) (λ r. refl) (swap_there c.0 d.0 (set.contains s.channels) new fresh) (λ r h. refl) in
        like_by (of_chans c.0 d.0) (chans_itself c.0 d.0) (plain_step p s k (NewChan t d))
        (subst (λ (l : Label). IsSomeAnd (plain_step p s k l) (IsLike (of_chans c.0 d.0) a)) (ap (λ x. NewChan t (record { 0 = x })) (swap_first c.0 d.0))
        (alike p (of_chans c.0 d.0) (one_to_one _ _ (chans_itself c.0 d.0)) s s like q k (NewChan t c) a made))

    -- a new reference with another new number
    pub other_ref : (t : ThreadId) (r x : RefId) → plain_step p s q (NewRef t r) ≡ Some a → map.contains_key s.references x.0 ≡ false → IsSomeAnd (plain_step p s k (NewRef t x)) (AreLike a)
    other_ref t r x made fresh =
        let new : map.contains_key s.references r.0 ≡ false = not-true _ (step_of (effect_of p) s q (NewRef t r) a made).allowed in
        let gone : map.get s.references r.0 ≡ map.get s.references x.0 = none_is _ new ∙ sym (none_is _ fresh) in
        let like = unchanged (of_refs r.0 x.0) (λ t. refl) (λ c. refl) (swap_same r.0 x.0 (map.get s.references) gone) (λ c h. refl) (swap_there r.0 x.0 (map.contains_key s.references) new fresh) in
        like_by (of_refs r.0 x.0) (refs_itself r.0 x.0) (plain_step p s k (NewRef t x))
        (subst (λ (l : Label). IsSomeAnd (plain_step p s k l) (IsLike (of_refs r.0 x.0) a)) (ap (λ y. NewRef t (record { 0 = y })) (swap_first r.0 x.0))
        (alike p (of_refs r.0 x.0) (one_to_one _ _ (refs_itself r.0 x.0)) s s like q k (NewRef t r) a made))
