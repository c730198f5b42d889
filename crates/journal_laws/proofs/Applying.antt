-- What applying an effect leaves there, and where states that agree go on agreeing.
use Rattle.std.proofs.Common.{◌≡◌, ℕ, Bool, true, false, cond, ◌||◌, nat_eq, List, [], ◌∷◌, Option, Some, None, refl, sym, ap, ◌∙◌}
use Rattle.std.specs.Prelude.{is_some, option_and_then, option_map}
use Rattle.std.specs.List.{list_any}
use Rattle.std.specs.Ordering.{nat_cmp}
use Rattle.std.specs.FinMap as map
use Rattle.std.specs.FinMap.{FinMap}
use Rattle.std.proofs.lemmas.Bool.{false≢true}
use Rattle.stab_base.specs.Datum.{Datum}
use Rattle.stab_journal.specs.Names.{has, is_at}
use Rattle.stab_journal.specs.Reached.{reads_of}
use Rattle.language.specs.Steps.{exprs_at, held_at, put_threads, put_value}
use Rattle.language.proofs.Applying.{get_inserted}

pub is_some_cond : {X : Type 0} (b : Bool) (v : X) (o : Option X) → is_some o ≡ true → is_some (cond b (Some v) o) ≡ true
is_some_cond true v o h = refl
is_some_cond false v o h = h

cond_there : {X : Type 0} (b c : Bool) (v : X) (o : Option X) → cond b true c ≡ true → (c ≡ true → is_some o ≡ true) → is_some (cond b (Some v) o) ≡ true
cond_there true c v o h k = refl
cond_there false c v o h k = k h

pub or_false : (a b : Bool) → (a || b) ≡ false → (a ≡ false) × (b ≡ false)
or_false true b h = absurd (false≢true (sym h))
or_false false b h = (refl, h)

module _ {E : Type 0} where
  -- equal before, equal after
  pub put_threads-agree : (ts : List ℕ) (a b : E) (m n : FinMap nat_cmp E) (q : ℕ) → map.get m q ≡ map.get n q → map.get (put_threads ts a b m) q ≡ map.get (put_threads ts a b n) q
  put_threads-agree [] a b m n q h = h
  put_threads-agree (t ∷ ts) a b m n q h =
      get_inserted (put_threads ts b b m) t a q
      ∙ ap (cond (nat_eq q t) (Some a)) (put_threads-agree ts b b m n q h)
      ∙ sym (get_inserted (put_threads ts b b n) t a q)

  -- a thread that was there stays there
  pub put_threads-there : (ts : List ℕ) (a b : E) (m : FinMap nat_cmp E) (q : ℕ) → map.contains_key m q ≡ true → map.contains_key (put_threads ts a b m) q ≡ true
  put_threads-there [] a b m q h = h
  put_threads-there (t ∷ ts) a b m q h =
      ap is_some (get_inserted (put_threads ts b b m) t a q)
      ∙ is_some_cond (nat_eq q t) a _ (put_threads-there ts b b m q h)

  -- a thread that is named is there
  pub put_threads-named : (ts : List ℕ) (a b : E) (m : FinMap nat_cmp E) (q : ℕ) → has ts q ≡ true → map.contains_key (put_threads ts a b m) q ≡ true
  put_threads-named [] a b m q h = absurd (false≢true h)
  put_threads-named (t ∷ ts) a b m q h =
      ap is_some (get_inserted (put_threads ts b b m) t a q)
      ∙ cond_there (nat_eq q t) (has ts q) a _ h (put_threads-named ts b b m q)

  -- the actors' expressions in two states that agree on the actors
  pub exprs_at-agree : (p : ℕ → Bool) (ts : List ℕ) (m n : FinMap nat_cmp E) → ((t : ℕ) → p t ≡ false → map.get m t ≡ map.get n t) → list_any p ts ≡ false → exprs_at m ts ≡ exprs_at n ts
  exprs_at-agree p [] m n same h = refl
  exprs_at-agree p (t ∷ ts) m n same h =
      let both = or_false (p t) (list_any p ts) h in
      ap (λ o. option_and_then (λ e. option_map (λ es. e ∷ es) (exprs_at m ts)) o) (same t both.0)
      ∙ ap (λ o. option_and_then (λ e. option_map (λ es. e ∷ es) o) (map.get n t)) (exprs_at-agree p ts m n same both.1)

pub held_at-agree : (p : ℕ → Bool) (r : Option ℕ) (m n : FinMap nat_cmp Datum) → ((t : ℕ) → p t ≡ false → map.get m t ≡ map.get n t) → reads_of r p ≡ false → held_at m r ≡ held_at n r
held_at-agree p None m n same h = refl
held_at-agree p (Some r) m n same h = same r h

pub put_value-here : (w : Option ℕ) (v : Datum) (m : FinMap nat_cmp Datum) (q : ℕ) → is_at w q ≡ true → map.get (put_value w v m) q ≡ Some v
put_value-here None v m q h = absurd (false≢true h)
put_value-here (Some r) v m q h = get_inserted m r v q ∙ ap (λ b. cond b (Some v) (map.get m q)) h

pub put_value-agree : (w : Option ℕ) (v : Datum) (m n : FinMap nat_cmp Datum) (q : ℕ) → map.get m q ≡ map.get n q → map.get (put_value w v m) q ≡ map.get (put_value w v n) q
put_value-agree None v m n q h = h
put_value-agree (Some r) v m n q h = get_inserted m r v q ∙ ap (cond (nat_eq q r) (Some v)) h ∙ sym (get_inserted n r v q)

pub put_value-there : (w : Option ℕ) (v : Datum) (m : FinMap nat_cmp Datum) (q : ℕ) → map.contains_key m q ≡ true → map.contains_key (put_value w v m) q ≡ true
put_value-there None v m q h = h
put_value-there (Some r) v m q h = ap is_some (get_inserted m r v q) ∙ is_some_cond (nat_eq q r) v _ h
