-- Each open step of a state is one that its threads tell of.
use Rattle.std.proofs.Common.{◌≡◌, ℕ, Bool, true, false, cond, nat_eq, List, [], ◌∷◌, Option, Some, None, refl, ap, ◌∙◌}
use Rattle.std.specs.Prelude.{ℤ, ◌||◌, option_and_then, option_map}
use Rattle.std.specs.FinMap as map
use Rattle.std.proofs.lemmas.Bool.{false≢true, eqb-true}
use Rattle.stab_base.specs.Datum.{Datum, unit}
use Rattle.stab_base.specs.declared.numbers.RefId.{RefId}
use Rattle.stab_base.specs.declared.numbers.ThreadId.{ThreadId}
use Rattle.stab_code.specs.Program.{ProgramParts}
use Rattle.stab_journal.specs.declared.event.Label.{Label}
use Rattle.stab_journal.specs.declared.event.Label.TheVariants.{Comm, Get, Set, Cut, Print, Probe, Refuse, Pin, Attempt}
use Rattle.stab_journal.specs.Names.{read}
use Rattle.plain_language.specs.declared.look.ActKind.TheVariants as kind
use Rattle.plain_language.specs.declared.look.Look as told
use Rattle.plain_language.specs.declared.look.Look.TheVariants.{Act}
use Rattle.language.specs.Expression.{Expr}
use Rattle.language.specs.Plain.{PlainState, effect_of, language_of, look_in, plain_step, standing}
use Rattle.plain_language.specs.Seen.{seen}
use Rattle.language.specs.Steps.{Effect, held_at}
use Rattle.language.specs.Table.{gets, sets, sends, receives, picks, stabilizes, cuts, pins, prints, probes, attempts, Look, act, Language, get_by, set_by, sent_by, received_by, cut_by, pin_by, print_by, probe_by, refuse_by, attempt_by, effect}
use Rattle.journal_laws.proofs.Stepping.{step_of}
use Rattle.ready_steps.specs.Ready.{CanMeet, look_of, receives_at, sends_at}
use Rattle.ready_steps.specs.Resting.{receives_on, sends_on}
use Rattle.explore_laws.specs.Free.{is_open}
use Rattle.explore_laws.specs.Moves.{IsTold}

nothing : {A B : Type 0} (x : A) → None ≡ Some x → B
nothing x h = absurd (cc)

-- what a test lets through it has tested
passed : {A : Type 0} (b : Bool) (o : Option A) (x : A) → cond b o None ≡ Some x → b ≡ true
passed true o x h = refl
passed false o x h = nothing x h

either : {A : Type 0} (a b : Bool) (u v : Option A) (x : A) → cond a u (cond b v None) ≡ Some x → (a || b) ≡ true
either true b u v x h = refl
either false b u v x h = passed b v x h

module _ (p : ProgramParts) (s : PlainState) where
  abbrev g : Language Expr
  g = language_of p

  got : (r : RefId) (e : Expr) (held : Option Datum) (f : Effect Expr) (k : Look Expr) → get_by g r.0 e held k ≡ Some f → seen k ≡ Act (kind.Get r)
  got r e held f (act (gets q)) h = ap (λ x. Act (kind.Get (record { 0 = x }))) (eqb-true q r.0 (passed (nat_eq q r.0) _ f h))
  got r e held f k h = nothing f h

  put : (r : RefId) (e : Expr) (f : Effect Expr) (k : Look Expr) → set_by g r.0 e k ≡ Some f → seen k ≡ Act (kind.Set r)
  put r e f (act (sets q v)) h = ap (λ x. Act (kind.Set (record { 0 = x }))) (eqb-true q r.0 (passed (nat_eq q r.0) _ f h))
  put r e f k h = nothing f h

  cutting : (e : Expr) (f : Effect Expr) (k : Look Expr) → cut_by g e k ≡ Some f → seen k ≡ Act kind.Cut
  cutting e f (act cuts) h = refl
  cutting e f k h = nothing f h

  pinning : (e : Expr) (f : Effect Expr) (k : Look Expr) → pin_by g e k ≡ Some f → seen k ≡ Act kind.Pin
  pinning e f (act pins) h = refl
  pinning e f k h = nothing f h

  printing : (e : Expr) (f : Effect Expr) (k : Look Expr) → print_by g e k ≡ Some f → seen k ≡ Act kind.Print
  printing e f (act (prints v)) h = refl
  printing e f k h = nothing f h

  probing : (i : ℤ) (e : Expr) (f : Effect Expr) (k : Look Expr) → probe_by g i e k ≡ Some f → seen k ≡ Act kind.Probe
  probing i e f (act probes) h = refl
  probing i e f k h = nothing f h

  refusing : (f : Effect Expr) (k : Look Expr) → refuse_by g k ≡ Some f → seen k ≡ Act kind.Stabilize
  refusing f (act stabilizes) h = refl
  refusing f k h = nothing f h

  attempting : (m : ℕ) (e : Expr) (f : Effect Expr) (k : Look Expr) → attempt_by g m e k ≡ Some f → seen k ≡ Act kind.Attempt
  attempting m e f (act attempts) h = refl
  attempting m e f k h = nothing f h

  sending : (c : ℕ) (v : Datum) (k : Look Expr) → sent_by g c k ≡ Some v → sends_on c (seen k) ≡ true
  sending c v (act (sends q w)) h = passed (nat_eq q c) _ v h
  sending c v k h = nothing v h

  receiving : (c : ℕ) (e : Expr) (v : Datum) (x : Expr) (k : Look Expr) → received_by g c e v k ≡ Some x → receives_on c (seen k) ≡ true
  receiving c e v x (act (receives q)) h = passed (nat_eq q c) _ x h
  receiving c e v x (act (picks a b)) h = either (nat_eq a c) (nat_eq b c) _ _ x h
  receiving c e v x k h = nothing x h

  abbrev Meets : ℕ → Expr → Expr → Type 0
  Meets c a b = (sends_on c (seen (look_in p a)) ≡ true) × (receives_on c (seen (look_in p b)) ≡ true)

  meeting : (c : ℕ) (a b : Expr) (f : Effect Expr) (o : Option Datum) → sent_by g c (g.look a) ≡ o
      → option_and_then (λ v. option_map {U = Effect Expr} (λ e. record { mine = g.answered a unit; other = e; value = unit; printed = [] }) (received_by g c b v (g.look b))) o ≡ Some f → Meets c a b
  meeting c a b f None sent h = nothing f h
  meeting c a b f (Some v) sent h = (sending c v (look_in p a) sent, other (received_by g c b v (g.look b)) refl h)
    where
      other : (x : Option Expr) → received_by g c b v (g.look b) ≡ x → option_map {U = Effect Expr} (λ e. record { mine = g.answered a unit; other = e; value = unit; printed = [] }) x ≡ Some f → receives_on c (seen (look_in p b)) ≡ true
      other None is h = nothing f h
      other (Some x) is h = receiving c b v x (look_in p b) is

  -- from the expressions of the actors
  one_from : (t : ThreadId) (q : ℕ) (l : Label) (d : told.Look) (f : Effect Expr) (o : Option Expr) → standing s t.0 ≡ o → ((e : Expr) → effect g q l (e ∷ []) (held_at s.references (read l)) ≡ Some f → seen (look_in p e) ≡ d)
      → option_and_then (λ es. effect g q l es (held_at s.references (read l))) (option_and_then (λ e. option_map (λ (es : List Expr). e ∷ es) (Some [])) o) ≡ Some f → look_of p s t.0 ≡ Some d
  one_from t q l d f None at each h = nothing f h
  one_from t q l d f (Some e) at each h = ap (option_map (λ (x : Expr). seen (look_in p x))) at ∙ ap Some (each e h)

  two_from : (t u c q : ℕ) (f : Effect Expr) (o x : Option Expr) → standing s t ≡ o → standing s u ≡ x
      → option_and_then (λ es. effect g q (Comm (record { 0 = t }) (record { 0 = u }) (record { 0 = c })) es None) (option_and_then (λ e. option_map (λ (es : List Expr). e ∷ es) (option_and_then (λ d. option_map (λ (es : List Expr). d ∷ es) (Some [])) x)) o) ≡ Some f
      → CanMeet p s (record { sender = record { 0 = t }; receiver = record { 0 = u }; chan = record { 0 = c } })
  two_from t u c q f None x at also h = nothing f h
  two_from t u c q f (Some a) None at also h = nothing f h
  two_from t u c q f (Some a) (Some b) at also h =
      let m : Meets c a b = meeting c a b f (sent_by g c (g.look a)) refl h in
      record {
        sends = ap (λ o. sends_at c (option_map (λ (e : Expr). seen (look_in p e)) o)) at ∙ m.0;
        receives = ap (λ o. receives_at c (option_map (λ (e : Expr). seen (look_in p e)) o)) also ∙ m.1;
      }

  pub told_of : (q : ℕ) (l : Label) (a : PlainState) → is_open l ≡ true → plain_step p s q l ≡ Some a → IsTold p s l
  told_of q (Comm t u c) a opened made = let st = step_of (effect_of p) s q (Comm t u c) a made in two_from t.0 u.0 c.0 q st.eff (standing s t.0) (standing s u.0) refl refl st.found
  told_of q (Get t r) a opened made = let st = step_of (effect_of p) s q (Get t r) a made in one_from t q (Get t r) (Act (kind.Get r)) st.eff (standing s t.0) refl (λ e h. got r e (map.get s.references r.0) st.eff (look_in p e) h) st.found
  told_of q (Set t r) a opened made = let st = step_of (effect_of p) s q (Set t r) a made in one_from t q (Set t r) (Act (kind.Set r)) st.eff (standing s t.0) refl (λ e h. put r e st.eff (look_in p e) h) st.found
  told_of q (Cut t) a opened made = let st = step_of (effect_of p) s q (Cut t) a made in one_from t q (Cut t) (Act kind.Cut) st.eff (standing s t.0) refl (λ e h. cutting e st.eff (look_in p e) h) st.found
  told_of q (Print t) a opened made = let st = step_of (effect_of p) s q (Print t) a made in one_from t q (Print t) (Act kind.Print) st.eff (standing s t.0) refl (λ e h. printing e st.eff (look_in p e) h) st.found
  told_of q (Probe t i) a opened made = let st = step_of (effect_of p) s q (Probe t i) a made in one_from t q (Probe t i) (Act kind.Probe) st.eff (standing s t.0) refl (λ e h. probing i e st.eff (look_in p e) h) st.found
  told_of q (Refuse t) a opened made = let st = step_of (effect_of p) s q (Refuse t) a made in one_from t q (Refuse t) (Act kind.Stabilize) st.eff (standing s t.0) refl (λ e h. refusing st.eff (look_in p e) h) st.found
  told_of q (Pin t) a opened made = let st = step_of (effect_of p) s q (Pin t) a made in one_from t q (Pin t) (Act kind.Pin) st.eff (standing s t.0) refl (λ e h. pinning e st.eff (look_in p e) h) st.found
  told_of q (Attempt t m) a opened made = let st = step_of (effect_of p) s q (Attempt t m) a made in one_from t q (Attempt t m) (Act kind.Attempt) st.eff (standing s t.0) refl (λ e h. attempting m e st.eff (look_in p e) h) st.found
  told_of q l a opened made = absurd (false≢true opened)
