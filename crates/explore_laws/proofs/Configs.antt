-- States with a bound above all their numbers, so that a new number is always at hand.
use Rattle.std.proofs.Common.{◌≡◌, ◌⊎◌, inl, inr, ℕ, suc, ◌+◌, ◌<◌, Bool, true, false, cond, ◌||◌, nat_eq, List, [], ◌∷◌, Option, Some, None, refl, sym, ap, ◌∙◌, arith}
use Rattle.std.specs.Prelude.{is_some, option_and_then, option_map}
use Rattle.std.specs.Ordering.{nat_cmp}
use Rattle.std.specs.FinMap as map
use Rattle.std.specs.FinMap.{FinMap}
use Rattle.std.specs.FinSet as set
use Rattle.std.proofs.lemmas.Bool.{false≢true, eqb-true}
use Rattle.stab_code.specs.Program.{ProgramParts}
use Rattle.stab_journal.specs.declared.event.Label.{Label}
use Rattle.stab_journal.specs.declared.event.Label.TheVariants.{Local, Spawn, NewChan, Comm, NewRef, Get, Set, Enter, Cut, Print, Probe, Refuse, Pin, Attempt}
use Rattle.stab_journal.specs.Label.{actors, touched, written}
use Rattle.stab_journal.specs.Names.{has, is_at, made, read}
use Rattle.language.specs.Expression.{Expr}
use Rattle.language.specs.Plain.{PlainState, plain_step, effect_of, language_of}
use Rattle.language.specs.Steps.{allows, exprs_at, held_at}
use Rattle.language.proofs.Touching.{changes_only}
use Rattle.journal_laws.specs.Known.{IsExprIn, IsKnown}
use Rattle.journal_laws.proofs.Runs.{closed}
use Rattle.journal_laws.proofs.Stepping.{IsStep, step_of}
use Rattle.language.specs.Touches.{ChangesOnly}

-- the number that a step makes, 0 where it makes none
abbrev pub number : Label → ℕ
number (Spawn t u) = u.0
number (NewChan t c) = c.0
number (NewRef t r) = r.0
number _ = 0

pub record Config : Type 0 where
  pub state : PlainState
  pub used : ℕ
  pub bound : ℕ
  pub known : IsKnown IsExprIn state
  pub threads : (t : ℕ) → map.contains_key state.threads t ≡ true → t < bound
  pub chans : (c : ℕ) → set.contains state.channels c ≡ true → c < bound
  pub references : (r : ℕ) → map.contains_key state.references r ≡ true → r < bound

there_more : (t u : ℕ) (ts : List ℕ) (m : FinMap nat_cmp Expr) (es : List Expr) → ((ds : List Expr) → exprs_at m ts ≡ Some ds → has ts u ≡ true → map.contains_key m u ≡ true)
    → (o : Option Expr) (os : Option (List Expr)) → map.get m t ≡ o → exprs_at m ts ≡ os → option_and_then (λ e. option_map (λ ds. e ∷ ds) os) o ≡ Some es
    → (b : Bool) → nat_eq u t ≡ b → cond b true (has ts u) ≡ true → map.contains_key m u ≡ true
there_more t u ts m es rest None os at also h b is in_it = absurd (let no : None ≡ Some es = h in cc)
there_more t u ts m es rest (Some e) None at also h b is in_it = absurd (let no : None ≡ Some es = h in cc)
there_more t u ts m es rest (Some e) (Some ds) at also h true is in_it = ap (map.contains_key m) (eqb-true u t is) ∙ ap is_some at
there_more t u ts m es rest (Some e) (Some ds) at also h false is in_it = rest ds also in_it

-- threads whose expressions are found are there
there : (ts : List ℕ) (m : FinMap nat_cmp Expr) (es : List Expr) (u : ℕ) → exprs_at m ts ≡ Some es → has ts u ≡ true → map.contains_key m u ≡ true
there [] m es u h in_it = absurd (false≢true in_it)
there (t ∷ ts) m es u h in_it = there_more t u ts m es (λ ds also more. there ts m ds u also more) (map.get m t) (exprs_at m ts) refl refl h (nat_eq u t) refl in_it

spawned_or : (t a u : ℕ) (b c : Bool) → nat_eq t a ≡ b → nat_eq t u ≡ c → cond b true (cond c true false) ≡ true → (cond b true false ≡ true) ⊎ (t ≡ u)
spawned_or t a u true c is at h = inl refl
spawned_or t a u false true is at h = inr (eqb-true t u at)
spawned_or t a u false false is at h = absurd (false≢true h)

touched_or : (l : Label) (t : ℕ) → has (touched l) t ≡ true → (has (actors l) t ≡ true) ⊎ (t ≡ number l)
touched_or (Spawn a u) t h = spawned_or t a.0 u.0 _ _ refl refl h
touched_or (Local a n) t h = inl h
touched_or (NewChan a c) t h = inl h
touched_or (Comm s r c) t h = inl h
touched_or (NewRef a r) t h = inl h
touched_or (Get a r) t h = inl h
touched_or (Set a r) t h = inl h
touched_or (Enter a) t h = inl h
touched_or (Cut a) t h = inl h
touched_or (Print a) t h = inl h
touched_or (Probe a i) t h = inl h
touched_or (Refuse a) t h = inl h
touched_or (Pin a) t h = inl h
touched_or (Attempt a g) t h = inl h

made_or : (l : Label) (c : ℕ) (b : Bool) → (is_at (made l) c || b) ≡ true → (c ≡ number l) ⊎ (b ≡ true)
made_or (NewChan t d) c b h = by (nat_eq c d.0) refl h
  where
    by : (x : Bool) → nat_eq c d.0 ≡ x → (x || b) ≡ true → (c ≡ d.0) ⊎ (b ≡ true)
    by true is h = inl (eqb-true c d.0 is)
    by false is h = inr h
made_or l c b h = inr h

module _ (p : ProgramParts) (c : Config) (q : ℕ) (l : Label) (x : PlainState) (step : plain_step p c.state q l ≡ Some x) where
  abbrev st : IsStep (effect_of p) c.state q l x
  st = step_of (effect_of p) c.state q l x step

  abbrev ch : ChangesOnly l c.state x
  ch = changes_only (language_of p) c.state x q l step

  acts_there_by : (o : Option (List Expr)) → exprs_at c.state.threads (actors l) ≡ o → option_and_then (λ es. effect_of p q l es (held_at c.state.references (read l))) o ≡ Some st.eff → (t : ℕ) → has (actors l) t ≡ true → map.contains_key c.state.threads t ≡ true
  acts_there_by None at h t in_it = absurd (let no : None ≡ Some st.eff = h in cc)
  acts_there_by (Some es) at h t in_it = there (actors l) c.state.threads es t at in_it

  acts_there : (t : ℕ) → has (actors l) t ≡ true → map.contains_key c.state.threads t ≡ true
  acts_there = acts_there_by (exprs_at c.state.threads (actors l)) refl st.found

  pub below_thread : (t : ℕ) → map.contains_key x.threads t ≡ true → (b : Bool) → has (touched l) t ≡ b → t < c.bound + suc (number l)
  below_thread t h false is =
      let low : t < c.bound = c.threads t (sym (ap is_some (ch.threads t is)) ∙ h) in omega (arith, low)
  below_thread t h true is =
      elim (touched_or l t is) as (λ u. t < c.bound + suc (number l)) [
        | inl acts ↦ (let low : t < c.bound = c.threads t (acts_there t acts) in omega (arith, low))
        | inr new ↦ omega (arith, new)
      ]

  pub below_chan : (d : ℕ) → set.contains x.channels d ≡ true → d < c.bound + suc (number l)
  below_chan d h =
      elim (made_or l d (set.contains c.state.channels d) (sym (ch.channels d) ∙ h)) as (λ u. d < c.bound + suc (number l)) [
        | inl new ↦ omega (arith, new)
        | inr old ↦ (let low : d < c.bound = c.chans d old in omega (arith, low))
      ]

  wrote_or : (k : Label) (r : ℕ) → allows c.state k ≡ true → is_at (written k) r ≡ true → (r ≡ number k) ⊎ (map.contains_key c.state.references r ≡ true)
  wrote_or (NewRef t d) r ok h = inl (eqb-true r d.0 h)
  wrote_or (Set t d) r ok h = inr (ap (map.contains_key c.state.references) (eqb-true r d.0 h) ∙ ok)
  wrote_or k r ok h = absurd (false≢true h)

  pub below_ref : (r : ℕ) → map.contains_key x.references r ≡ true → (b : Bool) → is_at (written l) r ≡ b → r < c.bound + suc (number l)
  below_ref r h false is =
      let low : r < c.bound = c.references r (sym (ap is_some (ch.references r is)) ∙ h) in omega (arith, low)
  below_ref r h true is =
      elim (wrote_or l r st.allowed is) as (λ u. r < c.bound + suc (number l)) [
        | inl new ↦ omega (arith, new)
        | inr old ↦ (let low : r < c.bound = c.references r old in omega (arith, low))
      ]

  -- after a step
  abbrev pub after : ℕ → Config
  after used = record {
    state = x;
    used = used;
    bound = c.bound + suc (number l);
    known = (closed p).step c.state x q l c.known step;
    threads = λ t h. below_thread t h (has (touched l) t) refl;
    chans = below_chan;
    references = λ r h. below_ref r h (is_at (written l) r) refl;
  }
