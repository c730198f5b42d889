-- Two free steps are one up to numbers, or commute up to numbers.
use Rattle.std.proofs.Common.{◌≡◌, ◌⊎◌, inl, inr, ℕ, suc, ◌+◌, ◌<◌, ◌≤◌, Bool, true, false, cond, ◌||◌, nat_eq, List, [], ◌∷◌, Option, Some, None, refl, sym, ap, subst, ◌∙◌, arith}
use Rattle.std.specs.Prelude.{ℤ, is_some, IsSomeAnd}
use Rattle.std.specs.List.{list_any}
use Rattle.std.specs.Cmp.{nat_eq_equiv}
use Rattle.std.specs.FinMap as map
use Rattle.std.specs.FinSet as set
use Rattle.std.proofs.lemmas.Bool.{false≢true, eqb-true, not-true}
use Rattle.std.proofs.lemmas.Bool.Decides.{nat_tests}
use Rattle.stab_base.specs.declared.numbers.ThreadId.{ThreadId}
use Rattle.stab_code.specs.Program.{ProgramParts}
use Rattle.stab_journal.specs.declared.event.Label.{Label}
use Rattle.stab_journal.specs.declared.event.Label.TheVariants.{Local, Spawn, NewChan, NewRef, Set, Enter}
use Rattle.stab_journal.specs.Due.{is_print}
use Rattle.stab_journal.specs.Label.{actors, spawned, touched, written}
use Rattle.stab_journal.specs.Names.{has, is_at, made, read}
use Rattle.language.specs.Plain.{PlainState, plain_step, effect_of, language_of}
use Rattle.language.specs.Steps.{exprs_at, held_at}
use Rattle.journal_laws.proofs.Stepping.{step_of, spawned_new}
use Rattle.explore_laws.specs.Apart.{is_one, disturbs, are_apart}
use Rattle.explore_laws.specs.Free.{is_free}
use Rattle.explore_laws.specs.Renamed.{IsLike, AreLike, unnamed, label_in}
use Rattle.explore_laws.proofs.Commuting.{commute}
use Rattle.explore_laws.proofs.Configs.{Config, after, number}
use Rattle.explore_laws.proofs.FreeSteps.{code_of, AreAt, differ, free_effect, from_effect, or_none, is_new, swap_any, all_false, reads_none, prints_none}
use Rattle.explore_laws.proofs.Likeness.{alike_same, alike_back, like_itself}
use Rattle.explore_laws.proofs.LikeSteps.{alike, is_unnamed, label_unnamed}
use Rattle.explore_laws.proofs.Orderly.{Free, Like, free_alike}
use Rattle.explore_laws.proofs.Swapping.{other_thread, other_chan, other_ref}

-- the thread that makes a free step
abbrev pub first : Label → ℕ
first (Local t n) = t.0
first (Spawn t u) = t.0
first (NewChan t c) = t.0
first (NewRef t r) = t.0
first (Enter t) = t.0
first _ = 0

pub acts_first : (k : Label) → is_free k ≡ true → actors k ≡ first k ∷ []
acts_first (Local t n) free = refl
acts_first (Spawn t u) free = refl
acts_first (NewChan t c) free = refl
acts_first (NewRef t r) free = refl
acts_first (Enter t) free = refl
acts_first k free = absurd (false≢true free)

-- free steps of one kind
abbrev same_kind : Label → Label → Bool
same_kind (Local t n) (Local u m) = true
same_kind (Spawn t u) (Spawn v w) = true
same_kind (NewChan t c) (NewChan u d) = true
same_kind (NewRef t r) (NewRef u q) = true
same_kind (Enter t) (Enter u) = true
same_kind _ _ = false

kinds : (k l : Label) → is_free k ≡ true → nat_eq (code_of k) (code_of l) ≡ true → same_kind k l ≡ true
kinds (Local t n) (Local u m) free same = refl
kinds (Spawn t u) (Spawn v w) free same = refl
kinds (NewChan t c) (NewChan u d) free same = refl
kinds (NewRef t r) (NewRef u q) free same = refl
kinds (Enter t) (Enter u) free same = refl
kinds (Local t n) l free same = absurd (false≢true same)
kinds (Spawn t u) l free same = absurd (false≢true same)
kinds (NewChan t c) l free same = absurd (false≢true same)
kinds (NewRef t r) l free same = absurd (false≢true same)
kinds (Enter t) l free same = absurd (false≢true same)
kinds k l free same = absurd (false≢true free)

thread_same : (t u : ThreadId) → nat_eq t.0 u.0 ≡ true → t ≡ u
thread_same t u h = ap (λ x. record { 0 = x }) (eqb-true t.0 u.0 h)

module _ (p : ProgramParts) (s : Config) where
  -- the thread of a free step is there, and its next step has this kind
  pub goes : (q : ℕ) (k : Label) (a : PlainState) → is_free k ≡ true → plain_step p s.state q k ≡ Some a → AreAt (language_of p) s.state (code_of k) (first k ∷ [])
  goes q k a free made_it =
      let x = step_of (effect_of p) s.state q k a made_it in
      subst (AreAt (language_of p) s.state (code_of k)) (acts_first k free)
      (from_effect (language_of p) s.state (code_of k) q k x.eff (exprs_at s.state.threads (actors k)) refl (λ es h. free_effect (language_of p) q k es (held_at s.state.references (read k)) x.eff free h) x.found)

  first_there : (q : ℕ) (k : Label) (a : PlainState) → is_free k ≡ true → plain_step p s.state q k ≡ Some a → map.contains_key s.state.threads (first k) ≡ true
  first_there q k a free made_it = ap is_some (goes q k a free made_it).0.1

  -- one label, whatever its number
  one_label : (q r : ℕ) (k l : Label) (a b : PlainState) → k ≡ l → plain_step p s.state q k ≡ Some a → plain_step p s.state r l ≡ Some b → AreLike a b
  one_label q r k l a b same made_it also =
      let one = alike p unnamed is_unnamed s.state s.state (like_itself s.state) q r k a made_it in
      let at : plain_step p s.state r (label_in unnamed k) ≡ Some b = ap (plain_step p s.state r) (label_unnamed k ∙ same) ∙ also in
      let like : IsLike unnamed a b = subst (λ (o : Option PlainState). IsSomeAnd o (IsLike unnamed a)) at one in
      record { there = unnamed; back = unnamed; two_way = (alike_same a).two_way; like = like }

  found : (a b : PlainState) (o : Option PlainState) → IsSomeAnd o (AreLike a) → o ≡ Some b → AreLike a b
  found a b o h is = subst (λ (x : Option PlainState). IsSomeAnd x (AreLike a)) is h

  new_thread : (q : ℕ) (t u : ThreadId) (a : PlainState) → plain_step p s.state q (Spawn t u) ≡ Some a → nat_eq t.0 u.0 ≡ false
  new_thread q t u a made_it = is_new (map.contains_key s.state.threads) u.0 t.0 (step_of (effect_of p) s.state q (Spawn t u) a made_it).allowed (first_there q (Spawn t u) a refl made_it) _ refl

  -- two free steps of one thread
  one_thread : (q r : ℕ) (k l : Label) (a b : PlainState) → is_free k ≡ true → is_free l ≡ true → same_kind k l ≡ true → nat_eq (first k) (first l) ≡ true → plain_step p s.state q k ≡ Some a → plain_step p s.state r l ≡ Some b → AreLike a b
  one_thread q r (Local t n) (Local u m) a b free too kind same made_it also =
      one_label q r (Local t n) (Local u m) a b (ap (λ x. Local x n) (thread_same t u same) ∙ ap (Local u) (eqb-true n 1 free ∙ sym (eqb-true m 1 too))) made_it also
  one_thread q r (Enter t) (Enter u) a b free too kind same made_it also = one_label q r (Enter t) (Enter u) a b (ap Enter (thread_same t u same)) made_it also
  one_thread q r (Spawn t u) (Spawn v w) a b free too kind same made_it also =
      let also_t : plain_step p s.state r (Spawn t w) ≡ Some b = ap (λ x. plain_step p s.state r (Spawn x w)) (thread_same t v same) ∙ also in
      found a b _ (other_thread s.state s.known p q r a t u w made_it (not-true _ (step_of (effect_of p) s.state r (Spawn t w) b also_t).allowed) (new_thread q t u a made_it) (new_thread r t w b also_t)) also_t
  one_thread q r (NewChan t c) (NewChan u d) a b free too kind same made_it also =
      let also_t : plain_step p s.state r (NewChan t d) ≡ Some b = ap (λ x. plain_step p s.state r (NewChan x d)) (thread_same t u same) ∙ also in
      found a b _ (other_chan s.state s.known p q r a t c d made_it (not-true _ (step_of (effect_of p) s.state r (NewChan t d) b also_t).allowed)) also_t
  one_thread q r (NewRef t c) (NewRef u d) a b free too kind same made_it also =
      let also_t : plain_step p s.state r (NewRef t d) ≡ Some b = ap (λ x. plain_step p s.state r (NewRef x d)) (thread_same t u same) ∙ also in
      found a b _ (other_ref s.state s.known p q r a t c d made_it (not-true _ (step_of (effect_of p) s.state r (NewRef t d) b also_t).allowed)) also_t
  one_thread q r k l a b free too kind same made_it also = absurd (false≢true kind)

  -- the same step with another new number
  abbrev relabel : Label → ℕ → Label
  relabel (Spawn t u) w = Spawn t (record { 0 = w })
  relabel (NewChan t c) w = NewChan t (record { 0 = w })
  relabel (NewRef t r) w = NewRef t (record { 0 = w })
  relabel l w = l

  free_relabel : (l : Label) (w : ℕ) → is_free (relabel l w) ≡ is_free l
  free_relabel (Spawn t u) w = refl
  free_relabel (NewChan t c) w = refl
  free_relabel (NewRef t r) w = refl
  free_relabel l w = refl

  first_relabel : (l : Label) (w : ℕ) → first (relabel l w) ≡ first l
  first_relabel (Spawn t u) w = refl
  first_relabel (NewChan t c) w = refl
  first_relabel (NewRef t r) w = refl
  first_relabel l w = refl

  module _ (w : ℕ) (big : s.bound ≤ w) where
    unthread : (b : Bool) → map.contains_key s.state.threads w ≡ b → b ≡ false
    unthread false is = refl
    unthread true is = absurd (let low = s.threads w is in omega (arith, low))

    unchan : (b : Bool) → set.contains s.state.channels w ≡ b → b ≡ false
    unchan false is = refl
    unchan true is = absurd (let low = s.chans w is in omega (arith, low))

    unref : (b : Bool) → map.contains_key s.state.references w ≡ b → b ≡ false
    unref false is = refl
    unref true is = absurd (let low = s.references w is in omega (arith, low))

    smaller : (x : ℕ) → x < w → nat_eq x w ≡ false
    smaller x low = grind (arith, nat_tests)

    other_step : (r : ℕ) (l : Label) (b : PlainState) → is_free l ≡ true → plain_step p s.state r l ≡ Some b → IsSomeAnd (plain_step p s.state r (relabel l w)) (AreLike b)
    other_step r (Spawn t u) b free made_it =
        let low = s.threads t.0 (first_there r (Spawn t u) b refl made_it) in
        other_thread s.state s.known p r r b t u (record { 0 = w }) made_it (unthread _ refl) (new_thread r t u b made_it) (smaller t.0 (let less : t.0 < w = omega (arith, low) in less))
    other_step r (NewChan t c) b free made_it = other_chan s.state s.known p r r b t c (record { 0 = w }) made_it (unchan _ refl)
    other_step r (NewRef t c) b free made_it = other_ref s.state s.known p r r b t c (record { 0 = w }) made_it (unref _ refl)
    other_step r (Local t n) b free made_it = subst (λ (o : Option PlainState). IsSomeAnd o (AreLike b)) (sym made_it) (alike_same b)
    other_step r (Enter t) b free made_it = subst (λ (o : Option PlainState). IsSomeAnd o (AreLike b)) (sym made_it) (alike_same b)
    other_step r l b free made_it = absurd (false≢true free)

-- what a free step touches
touches : (k : Label) (x : ℕ) → is_free k ≡ true → nat_eq x (first k) ≡ false → is_at (spawned k) x ≡ false → has (touched k) x ≡ false
touches (Local t n) x free h i = ap (λ b. cond b true false) h
touches (Spawn t u) x free h i = ap (λ b. cond b true (cond (nat_eq x u.0) true false)) h ∙ ap (λ b. cond b true false) i
touches (NewChan t c) x free h i = ap (λ b. cond b true false) h
touches (NewRef t r) x free h i = ap (λ b. cond b true false) h
touches (Enter t) x free h i = ap (λ b. cond b true false) h
touches k x free h i = absurd (false≢true free)

all_touched : (f : ℕ → Bool) (k : Label) → is_free k ≡ true → f (first k) ≡ false → ((x : ℕ) → is_at (spawned k) x ≡ true → f x ≡ false) → list_any f (touched k) ≡ false
all_touched f (Local t n) free h i = or_none (f t.0) false h refl
all_touched f (Spawn t u) free h i = or_none (f t.0) (f u.0 || false) h (or_none (f u.0) false (i u.0 (nat_eq_equiv.refl u.0)) refl)
all_touched f (NewChan t c) free h i = or_none (f t.0) false h refl
all_touched f (NewRef t r) free h i = or_none (f t.0) false h refl
all_touched f (Enter t) free h i = or_none (f t.0) false h refl
all_touched f k free h i = absurd (false≢true free)

-- a number above the one that a step makes
module _ (w : ℕ) where
  apart_from : (x : ℕ) → x < w → nat_eq w x ≡ false
  apart_from x low = grind (arith, nat_tests)

  below : (x : ℕ) → x < w → nat_eq x w ≡ false
  below x low = grind (arith, nat_tests)

  not_spawned : (k : Label) → number k < w → is_at (spawned k) w ≡ false
  not_spawned (Spawn t u) low = apart_from u.0 low
  not_spawned k low = refl

  not_written : (k : Label) → is_free k ≡ true → number k < w → is_at (written k) w ≡ false
  not_written (NewRef t r) free low = apart_from r.0 low
  not_written (Set t r) free low = absurd (false≢true free)
  not_written k free low = refl

  not_made : (k : Label) → number k < w → is_at (made k) w ≡ false
  not_made (NewChan t c) low = apart_from c.0 low
  not_made k low = refl

  only_spawns : (p : ProgramParts) (s : Config) (l : Label) (x : ℕ) → is_at (spawned (relabel p s l w)) x ≡ true → x ≡ w
  only_spawns p s (Spawn t u) x h = eqb-true x w h
  only_spawns p s (NewChan t c) x h = absurd (false≢true h)
  only_spawns p s (NewRef t r) x h = absurd (false≢true h)
  only_spawns p s l x h = absurd (false≢true h)

  writes_new : (p : ProgramParts) (s : Config) (k l : Label) → is_free k ≡ true → is_free l ≡ true → number k < w → is_one (written k) (written (relabel p s l w)) ≡ false
  writes_new p s k (NewRef t r) free too low = not_written k free low
  writes_new p s k (Set t r) free too low = absurd (false≢true too)
  writes_new p s k (Spawn t u) free too low = refl
  writes_new p s k (NewChan t c) free too low = refl
  writes_new p s k l free too low = refl

  writes_back : (p : ProgramParts) (s : Config) (k l : Label) → is_free k ≡ true → is_free l ≡ true → number k < w → is_one (written (relabel p s l w)) (written k) ≡ false
  writes_back p s (NewRef t r) (NewRef u q) free too low = below r.0 low
  writes_back p s (NewRef t r) (Set u q) free too low = absurd (false≢true too)
  writes_back p s (NewRef t r) l free too low = refl
  writes_back p s (Set t r) l free too low = absurd (false≢true free)
  writes_back p s k l free too low = refl

  makes_new : (p : ProgramParts) (s : Config) (k l : Label) → number k < w → is_one (made k) (made (relabel p s l w)) ≡ false
  makes_new p s k (NewChan t c) low = not_made k low
  makes_new p s k (Spawn t u) low = refl
  makes_new p s k (NewRef t r) low = refl
  makes_new p s k l low = refl

  makes_back : (p : ProgramParts) (s : Config) (k l : Label) → number k < w → is_one (made (relabel p s l w)) (made k) ≡ false
  makes_back p s (NewChan t c) (NewChan u d) low = below c.0 low
  makes_back p s (NewChan t c) l low = refl
  makes_back p s k l low = refl

module _ (p : ProgramParts) (script : List ℤ) (s a b : Config) (f : Free p script s a) (h : Free p script s b) where
  w : ℕ
  w = s.bound + suc (number f.l)

  big : s.bound ≤ w
  unfolding w
  big = omega arith

  low : number f.l < w
  unfolding w
  low = omega arith

  same_codes : nat_eq (first h.l) (first f.l) ≡ true → nat_eq (code_of f.l) (code_of h.l) ≡ true
  same_codes same =
      let one = goes p s f.q f.l a.state f.free f.made in
      let two = goes p s h.q h.l b.state h.free h.made in
      elim (nat_eq (code_of f.l) (code_of h.l)) as (λ c. nat_eq (code_of f.l) (code_of h.l) ≡ c → c ≡ true) [
        | true ↦ λ is. refl
        | false ↦ λ is. absurd (false≢true (sym (differ (language_of p) s.state (first f.l) (first h.l) (code_of f.l) (code_of h.l) one.0.0 two.0.0 is one.0.1 two.0.1 one.0.2 two.0.2 _ refl) ∙ same))
      ] refl

  module _ (two : nat_eq (first h.l) (first f.l) ≡ false) (z : PlainState) (also : plain_step p s.state h.q (relabel p s h.l w) ≡ Some z) where
    abbrev l : Label
    l = relabel p s h.l w

    free_l : is_free l ≡ true
    free_l = free_relabel p s h.l w ∙ h.free

    there_f : map.contains_key s.state.threads (first f.l) ≡ true
    there_f = first_there p s f.q f.l a.state f.free f.made

    there_h : map.contains_key s.state.threads (first h.l) ≡ true
    there_h = first_there p s h.q h.l b.state h.free h.made

    old_first : (c : Bool) → is_at (spawned f.l) (first h.l) ≡ c → c ≡ false
    old_first false is = refl
    old_first true is = absurd (false≢true (sym (spawned_new s.state f.l (first h.l) (step_of (effect_of p) s.state f.q f.l a.state f.made).allowed is) ∙ there_h))

    threads : list_any (has (touched f.l)) (touched l) ≡ false
    threads =
        all_touched (has (touched f.l)) l free_l
        (ap (has (touched f.l)) (first_relabel p s h.l w) ∙ touches f.l (first h.l) f.free two (old_first _ refl))
        (λ x at. ap (has (touched f.l)) (only_spawns w p s h.l x at) ∙ touches f.l w f.free (apart_from w (first f.l) (let less = s.threads (first f.l) there_f in let high = big in omega (arith, less, high))) (not_spawned w f.l low))

    ahead : disturbs f.l l ≡ false
    ahead = or_none (list_any (has (touched f.l)) (touched l)) _ threads
        (or_none (is_one (written f.l) (read l)) _ (ap (is_one (written f.l)) (reads_none (language_of p) s.state l free_l))
        (or_none (is_one (written f.l) (written l)) _ (writes_new w p s f.l h.l f.free h.free low) (makes_new w p s f.l h.l low)))

    behind : disturbs l f.l ≡ false
    behind = or_none (list_any (has (touched l)) (touched f.l)) _ (swap_any (language_of p) s.state (touched f.l) (touched l) threads)
        (or_none (is_one (written l) (read f.l)) _ (ap (is_one (written l)) (reads_none (language_of p) s.state f.l f.free))
        (or_none (is_one (written l) (written f.l)) _ (writes_back w p s f.l h.l f.free h.free low) (makes_back w p s f.l h.l low)))

    are : are_apart f.l l ≡ true
    are = all_false (language_of p) s.state (disturbs f.l l) (disturbs l f.l) (is_print f.l) (is_print l) ahead behind (prints_none (language_of p) s.state f.l f.free)

    joined : (y : Option PlainState) → plain_step p a.state h.q l ≡ y → IsSomeAnd y (λ c. plain_step p z f.q f.l ≡ Some c) → AreLike b.state z → (c : Config) × (d : Config) × Free p script a c × Free p script b d × Like p script c d
    joined None at made_it like = absurd made_it
    joined (Some y) at made_it like =
        let m : Config = after p s h.q l z also s.used in
        let c : Config = after p a h.q l y at a.used in
        let one : Free p script m c = record { q = f.q; l = f.l; free = f.free; made = made_it; used = f.used } in
        let back : Like p script m b = record { states = alike_back b.state z like; used = sym h.used } in
        let d = free_alike p script m b c back one in (
          c,
          d.0,
          record { q = h.q; l = l; free = free_l; made = at; used = refl },
          d.1,
          d.2,
        )

  apart_by : (two : nat_eq (first h.l) (first f.l) ≡ false) (o : Option PlainState) → plain_step p s.state h.q (relabel p s h.l w) ≡ o → IsSomeAnd o (AreLike b.state) → (c : Config) × (d : Config) × Free p script a c × Free p script b d × Like p script c d
  apart_by two None at like = absurd like
  apart_by two (Some z) at like = joined two z at _ refl (commute (language_of p) s.state a.state z f.q h.q f.l (relabel p s h.l w) (are two z at) f.made at) like

  by_threads : (x : Bool) → nat_eq (first h.l) (first f.l) ≡ x → Like p script a b ⊎ ((c : Config) × (d : Config) × Free p script a c × Free p script b d × Like p script c d)
  by_threads true same =
      inl (record { states = one_thread p s f.q h.q f.l h.l a.state b.state f.free h.free (kinds f.l h.l f.free (same_codes same)) (nat_eq_equiv.symm (first f.l) (first h.l) ∙ same) f.made h.made; used = f.used ∙ sym h.used })
  by_threads false two = inr (apart_by two _ refl (other_step p s w big h.q h.l b.state h.free h.made))

  pub together : Like p script a b ⊎ ((c : Config) × (d : Config) × Free p script a c × Free p script b d × Like p script c d)
  together = by_threads _ refl
