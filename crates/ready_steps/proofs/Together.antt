-- Two threads that can meet have a step together, and one at a `stabilize` can be refused it.
use Rattle.std.proofs.Common.{◌≡◌, ℕ, Bool, true, false, cond, ◌||◌, nat_eq, [], ◌∷◌, List, Option, Some, None, refl, sym, ap, subst, ◌∙◌}
use Rattle.std.specs.Prelude.{IsSome, IsSomeAnd, option_and_then, option_map}
use Rattle.std.proofs.lemmas.Bool.{false≢true}
use Rattle.stab_base.specs.Datum.{Datum, unit}
use Rattle.stab_base.specs.declared.numbers.ThreadId.{ThreadId}
use Rattle.stab_code.specs.Program.{ProgramParts}
use Rattle.stab_journal.specs.declared.event.Label.TheVariants.{Comm, Local, Refuse}
use Rattle.plain_language.specs.declared.look.ActKind.TheVariants.{Stabilize}
use Rattle.plain_language.specs.declared.look.Look as told
use Rattle.plain_language.specs.declared.look.Look.TheVariants.{Act, Pure}
use Rattle.language.specs.Expression.{Expr}
use Rattle.language.specs.Plain.{PlainState, effect_of, language_of, look_in, plain_step, standing}
use Rattle.plain_language.specs.Seen.{seen}
use Rattle.language.specs.Standing.{is_stabilize}
use Rattle.language.specs.Steps.{Effect, effect_in, exprs_at}
use Rattle.language.specs.Table.{sends, receives, picks, stabilizes, Look, done, fault, act, pure, Language, comm_by, effect, pure_of, pure_steps, received_by, refuse_by, sent_by, to}
use Rattle.journal_laws.proofs.Stepping.{plain_of}
use Rattle.ready_steps.specs.declared.ready.Meeting.{Meeting}
use Rattle.ready_steps.specs.Resting.{receives_on, sends_on}
use Rattle.ready_steps.specs.Ready.{CanMeet, look_of, receives_at, sends_at}
use Rattle.ready_steps.proofs.Labelling.{alone}

either : {X : Type 0} (a b : Bool) (x y : X) → (a || b) ≡ true → (z : X) × (cond a (Some x) (cond b (Some y) None) ≡ Some z)
either true b x y h = (x, refl)
either false true x y h = (y, refl)
either false false x y h = absurd (false≢true h)

module _ (g : Language Expr) where
  sent : (c : ℕ) (k : Look Expr) → sends_on c (seen k) ≡ true → (v : Datum) × (sent_by g c k ≡ Some v)
  sent c (act (sends d v)) h = (v, ap (λ b. cond b (Some v) None) h)
  sent c (done v) h = absurd (false≢true h)
  sent c (fault k) h = absurd (false≢true h)
  sent c (pure e) h = absurd (false≢true h)
  sent c (act a) h = absurd (false≢true h)

  received : (c : ℕ) (e : Expr) (v : Datum) (k : Look Expr) → receives_on c (seen k) ≡ true → (x : Expr) × (received_by g c e v k ≡ Some x)
  received c e v (act (receives d)) h = (g.answered e v, ap (λ b. cond b (Some (g.answered e v)) None) h)
  received c e v (act (picks a b)) h = either (nat_eq a c) (nat_eq b c) _ _ h
  received c e v (done w) h = absurd (false≢true h)
  received c e v (fault k) h = absurd (false≢true h)
  received c e v (pure x) h = absurd (false≢true h)
  received c e v (act a) h = absurd (false≢true h)

  meeting : (c : ℕ) (a b : Expr) → sends_on c (seen (g.look a)) ≡ true → receives_on c (seen (g.look b)) ≡ true → (f : Effect Expr) × (comm_by g c a b ≡ Some f)
  meeting c a b s r =
      let v : (v : Datum) × (sent_by g c (g.look a) ≡ Some v) = sent c (g.look a) s in
      let x : (x : Expr) × (received_by g c b v.0 (g.look b) ≡ Some x) = received c b v.0 (g.look b) r in (
        record { mine = g.answered a unit; other = x.0; value = unit; printed = [] },
        ap (λ o. option_and_then (λ w. option_map {U = Effect Expr} (λ e. record { mine = g.answered a unit; other = e; value = unit; printed = [] }) (received_by g c b w (g.look b))) o) v.1
            ∙ ap (option_map {U = Effect Expr} (λ e. record { mine = g.answered a unit; other = e; value = unit; printed = [] })) x.1,
      )

module _ (p : ProgramParts) (s : PlainState) (q : ℕ) where
  together : (m : Meeting) (a b : Expr) (f : Effect Expr) → standing s m.sender.0 ≡ Some a → standing s m.receiver.0 ≡ Some b → comm_by (language_of p) m.chan.0 a b ≡ Some f → IsSome (plain_step p s q (Comm m.sender m.receiver m.chan))
  together m a b f at also is =
      let exprs : exprs_at s.threads (m.sender.0 ∷ m.receiver.0 ∷ []) ≡ Some (a ∷ b ∷ []) =
      ap (λ (o : Option Expr). option_and_then (λ x. option_map (λ (xs : List Expr). x ∷ xs) (exprs_at s.threads (m.receiver.0 ∷ []))) o) at
      ∙ ap (λ (o : Option Expr). option_map (λ (xs : List Expr). a ∷ xs) (option_and_then (λ x. option_map (λ (xs : List Expr). x ∷ xs) (Some [])) o)) also in
      let found : effect_in (effect_of p) s q (Comm m.sender m.receiver m.chan) ≡ Some f =
      ap (λ (o : Option (List Expr)). option_and_then (λ es. effect (language_of p) q (Comm m.sender m.receiver m.chan) es None) o) exprs ∙ is in
      subst (λ (o : Option PlainState). IsSome o) (sym (plain_of (effect_of p) s q (Comm m.sender m.receiver m.chan) f found refl)) refl

  by_exprs : (m : Meeting) (o x : Option Expr) → standing s m.sender.0 ≡ o → standing s m.receiver.0 ≡ x → sends_at m.chan.0 (option_map (λ (e : Expr). seen (look_in p e)) o) ≡ true
      → receives_at m.chan.0 (option_map (λ (e : Expr). seen (look_in p e)) x) ≡ true → IsSome (plain_step p s q (Comm m.sender m.receiver m.chan))
  by_exprs m None x at also left right = absurd (false≢true left)
  by_exprs m (Some a) None at also left right = absurd (false≢true right)
  by_exprs m (Some a) (Some b) at also left right = let f : (f : Effect Expr) × (comm_by (language_of p) m.chan.0 a b ≡ Some f) = meeting (language_of p) m.chan.0 a b left right in together m a b f.0 at also f.1

  -- two that can meet have a step
  pub meets : (m : Meeting) → CanMeet p s m → IsSome (plain_step p s q (Comm m.sender m.receiver m.chan))
  meets m can = by_exprs m (standing s m.sender.0) (standing s m.receiver.0) refl refl can.sends can.receives

  stabilizing : (k : Look Expr) → seen k ≡ Act Stabilize → k ≡ act stabilizes
  stabilizing (act stabilizes) is = refl
  stabilizing k is = cc

  look_some : {x y : told.Look} → Some x ≡ Some y → x ≡ y
  look_some h = cc

  refused_by : (t : ThreadId) (o : Option Expr) → standing s t.0 ≡ o → option_map (λ (e : Expr). seen (look_in p e)) o ≡ Some (Act Stabilize) → IsSome (plain_step p s q (Refuse t))
  refused_by t None at is = absurd (let no : None ≡ Some (Act Stabilize) = is in cc)
  refused_by t (Some e) at is = alone p s q t (Refuse t) e _ refl at refl (ap (refuse_by (language_of p)) (stabilizing (look_in p e) (look_some is)))

  -- a thread at a `stabilize` has a step by which it is refused
  pub refuses : (t : ThreadId) → look_of p s t.0 ≡ Some (Act Stabilize) → IsSome (plain_step p s q (Refuse t))
  refuses t is = refused_by t (standing s t.0) refl is

  stands_by : (o : Option Expr) → option_map (λ (e : Expr). seen (look_in p e)) o ≡ Some (Act Stabilize) → IsSomeAnd o (λ e. is_stabilize (look_in p e) ≡ true)
  stands_by None is = absurd (let no : None ≡ Some (Act Stabilize) = is in cc)
  stands_by (Some e) is = ap is_stabilize (stabilizing (look_in p e) (look_some is))

  pub stands : (t : ℕ) → look_of p s t ≡ Some (Act Stabilize) → IsSomeAnd (standing s t) (λ e. is_stabilize (look_in p e) ≡ true)
  stands t is = stands_by (standing s t) is

  purely : (k : Look Expr) → seen k ≡ Pure → IsSome (pure_of (language_of p) k)
  purely (pure e) is = refl
  purely k is = cc

  there : {A : Type 0} (o : Option A) → IsSome o → (x : A) × (o ≡ Some x)
  there None h = absurd (false≢true h)
  there (Some x) h = (x, refl)

  stepped_by : (t : ThreadId) (o : Option Expr) → standing s t.0 ≡ o → option_map (λ (e : Expr). seen (look_in p e)) o ≡ Some Pure → IsSome (plain_step p s q (Local t 1))
  stepped_by t None at is = absurd (let no : None ≡ Some Pure = is in cc)
  stepped_by t (Some e) at is =
      let x : (x : Expr) × (pure_of (language_of p) (look_in p e) ≡ Some x) = there _ (purely (look_in p e) (look_some is)) in
      alone p s q t (Local t 1) e (to (language_of p) x.0) refl at refl (ap (λ (o : Option Expr). option_map (to (language_of p)) (option_and_then (pure_steps (language_of p) 0) o)) x.1)

  -- a thread that has a pure step makes it
  pub steps_purely : (t : ThreadId) → look_of p s t.0 ≡ Some Pure → IsSome (plain_step p s q (Local t 1))
  steps_purely t is = stepped_by t (standing s t.0) refl is
