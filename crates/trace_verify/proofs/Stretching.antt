-- One pure step more.
use Rattle.std.proofs.Common.{◌≡◌, ℕ, zero, suc, cond, [], ◌∷◌, Option, Some, None, refl, sym, ap, subst, ◌∙◌, ◌+◌, ◌<◌, ◌≤◌, ◌++◌, arith}
use Rattle.std.specs.Prelude.{nat_eq, option_and_then, option_map, Ok}
use Rattle.std.specs.Cmp.{nat_eq_equiv}
use Rattle.std.specs.FinMap as map
use Rattle.stab_base.specs.declared.numbers.ThreadId.{ThreadId}
use Rattle.stab_journal.specs.declared.event.Label.{Label}
use Rattle.stab_journal.specs.declared.event.Label.TheVariants.{Local}
use Rattle.stab_journal.specs.declared.event.What.TheVariants.{Step}
use Rattle.stab_journal.specs.Journal.{step_at}
use Rattle.stab_journal.specs.Since.{AreBelow}
use Rattle.language.specs.Changes.{with_thread}
use Rattle.language.specs.Expression.{Expr}
use Rattle.language.specs.Held.{Held}
use Rattle.language.specs.Plain.{PlainState, language_of, standing}
use Rattle.plain_language.specs.Plays.{step_in}
use Rattle.language.specs.Table.{Language, local_by, pure_of, pure_steps, to}
use Rattle.language.proofs.Applying.{get_inserted}
use Rattle.plain_language.proofs.Locals.{no_steps, steps_made}
use Rattle.language.proofs.Staying.{inserted_twice}
use Rattle.journal_laws.proofs.Stepping.{step_of}
use Rattle.journal_laws.proofs.Surviving.{some_is, some_none}
use Rattle.trace_verify.specs.declared.parts.Parts.{Parts}
use Rattle.trace_verify.specs.declared.surviving.Surviving.{Surviving}
use Rattle.trace_verify.specs.Parts.{IsFront, IsParted, run_in}
use Rattle.trace_verify.specs.Stretch.{AreMade, IsStretched}
use Rattle.trace_verify.specs.Surviving.{IsKept, LeadsOn, PlaysOn}
use Rattle.trace_verify.proofs.Leading.{based_on, near_on, run_on}

-- pure steps and one more
pure_last : (g : Language Expr) (m : ℕ) (e f : Expr) (o : Option Expr) → pure_steps g m e ≡ Some f → pure_steps g 1 f ≡ o → pure_steps g (suc m) e ≡ o
pure_last g zero e f o made last = ap (pure_steps g 1) (some_is made) ∙ last
pure_last g (suc m) e f o made last =
    elim (pure_of g (g.look e)) as (λ x. option_and_then (pure_steps g m) x ≡ Some f → option_and_then (pure_steps g (suc m)) x ≡ o) [
      | None ↦ λ h. absurd (some_none (sym h))
      | (Some x) ↦ λ h. pure_last g m x f o h last
    ] made

module _ (q : ℕ) (t : ThreadId) (h : Held) where
  stands_after : (f : Expr) → Some f ≡ standing (with_thread h t.0 f).state t.0
  stands_after f = sym (get_inserted h.state.threads t.0 f t.0 ∙ ap (λ b. cond b (Some f) (map.get h.state.threads t.0)) (nat_eq_equiv.refl t.0))

  twice : (f x : Expr) → (with_thread (with_thread h t.0 f) t.0 x).state ≡ (with_thread h t.0 x).state
  twice f x = ap (λ m. record h.state { threads = m }) (inserted_twice h.state.threads t.0 f x)

  two_parts : (n : ℕ) (e f : Expr) (s : PlainState) → Some e ≡ standing h.state t.0 → pure_steps (language_of h.program) (suc n) e ≡ Some f
      → step_in (with_thread h t.0 f) q (Local t 1) ≡ Some s → step_in h q (Local t (suc (suc n))) ≡ Some s
  two_parts n e f s there made last =
      elim (pure_steps (language_of h.program) 1 f) as (λ o. pure_steps (language_of h.program) 1 f ≡ o → step_in h q (Local t (suc (suc n))) ≡ Some s) [
        | None ↦ λ none. absurd (some_none (sym last ∙ no_steps (with_thread h t.0 f) q t 1 f (stands_after f) (sym (ap (option_map (to (language_of h.program))) none))))
        | (Some x) ↦ λ some.
            steps_made h q t (suc (suc n)) e there x (sym (ap (option_map (to (language_of h.program))) (pure_last (language_of h.program) (suc n) e f (Some x) made some)))
            ∙ ap Some (sym (twice f x))
            ∙ sym (steps_made (with_thread h t.0 f) q t 1 f (stands_after f) x (sym (ap (option_map (to (language_of h.program))) some)))
            ∙ last
      ] refl

  by_pure : (n : ℕ) (k : Held) (e : Expr) (s : PlainState) (o : Option Expr) → Some e ≡ standing h.state t.0 → pure_steps (language_of h.program) (suc n) e ≡ o
      → step_in h q (Local t (suc n)) ≡ Some k.state → k.program ≡ h.program → step_in k q (Local t 1) ≡ Some s → step_in h q (Local t (suc (suc n))) ≡ Some s
  by_pure n k e s None there made step same last = absurd (some_none (sym step ∙ no_steps h q t (suc n) e there (sym (ap (option_map (to (language_of h.program))) made))))
  by_pure n k e s (Some f) there made step same last =
      let at = some_is (sym step ∙ steps_made h q t (suc n) e there f (sym (ap (option_map (to (language_of h.program))) made))) in
      let is : k ≡ with_thread h t.0 f = ap (λ p. record { program = p; state = k.state }) same ∙ ap (λ x. record { program = h.program; state = x }) at in
      two_parts n e f s there made (ap (λ (x : Held). step_in x q (Local t 1)) (sym is) ∙ last)

  by_thread : (n : ℕ) (k : Held) (s : PlainState) (o : Option Expr) → o ≡ standing h.state t.0
      → step_in h q (Local t (suc n)) ≡ Some k.state → k.program ≡ h.program → step_in k q (Local t 1) ≡ Some s → step_in h q (Local t (suc (suc n))) ≡ Some s
  by_thread n k s None none step same last = absurd (nobody step)
    where
      nobody : step_in h q (Local t (suc n)) ≡ Some k.state → ⊥
      nobody is =
          some_none (sym is ∙ ap (λ (x : Option Expr). option_map (Rattle.language.specs.Steps.apply h.state (Local t (suc n)))
          (option_and_then (λ es. Rattle.language.specs.Table.effect (language_of h.program) q (Local t (suc n)) es None) (option_and_then (λ y. option_map (λ ys. y ∷ ys) (Some [])) x))) (sym none))
  by_thread n k s (Some e) there step same last = by_pure n k e s _ there refl step same last

-- a pure step more
pub one_more : (q : ℕ) (t : ThreadId) (h k j : Held) (n : ℕ) → AreMade q t h k n → step_in k q (Local t 1) ≡ Some j.state → j.program ≡ k.program → AreMade q t h j (suc n)
one_more q t h k j zero is step same = (ap (λ (x : Held). step_in x q (Local t 1)) (sym is) ∙ step, same ∙ ap (λ (x : Held). x.program) is)
one_more q t h k j (suc n) is step same = (by_thread q t h n k j.state _ refl is.0 is.1 step, same ∙ is.1)

-- a step that was made and noted
pub noted : (from : PlainState) (old : Surviving) (h : Held) (a : Parts) (q : ℕ) (l : Label) → IsKept from old → AreBelow q (run_in old.parts) → old.parts.since < q
    → step_in old.state q l ≡ Some h.state → h.program ≡ old.state.program → IsParted a → run_in a ≡ run_in old.parts ++ step_at q (Step l) → IsFront old.parts.settled.items a.settled.items → a.since ≡ old.parts.since
    → PlaysOn from old (record old { state = h; parts = a }) q l (Ok tt)
noted from old h a q l kept below above made same parted run front since = (
  record {
    parted = parted;
    leads = subst (λ p. LeadsOn p from (run_in a) h.state) (sym same)
        (subst (λ ns. LeadsOn old.state.program from ns h.state) (sym run) (run_on old.state.program from (run_in old.parts) (record { seq = record { 0 = q }; label = l }) old.state.state h.state kept.leads below (omega arith) made));
    based = based_on old.state.program h.program from old.based old.parts.settled.items a.settled.items old.base same kept.based front;
    near = near_on old.state.program h.program from old.nearby (run_in old.parts) (run_in a) old.near same kept.near (record { back = step_at q (Step l); is = run });
  },
  same,
  run,
  made,
  since,
)

-- some steps that were made and noted
pub some_noted : (from : PlainState) (old : Surviving) (h : Held) (a : Parts) (q : ℕ) (t : ThreadId) (n : ℕ) → (n ≡ 0 → ⊥) → IsKept from old → AreBelow q (run_in old.parts) → old.parts.since < q
    → AreMade q t old.state h n → IsParted a → run_in a ≡ run_in old.parts ++ step_at q (Step (Local t n)) → IsFront old.parts.settled.items a.settled.items → a.since ≡ old.parts.since
    → IsStretched from old (record old { state = h; parts = a }) q t n
some_noted from old h a q t zero some kept below above made parted run front since = absurd (some refl)
some_noted from old h a q t (suc n) some kept below above made parted run front since = noted from old h a q (Local t (suc n)) kept below above made.0 made.1 parted run front since

-- no steps
pub none_noted : (from : PlainState) (old : Surviving) (h : Held) (q : ℕ) (t : ThreadId) (most n : ℕ) → n ≡ 0 → 1 ≤ most → AreMade q t old.state h n → (n < most → step_in h q (Local t 1) ≡ None) → IsStretched from old (record old { state = h }) q t 0
none_noted from old h q t most n none some made all =
    let same : h ≡ old.state = subst (AreMade q t old.state h) none made in
    (ap (λ (k : Held). record old { state = k }) same, ap (λ (k : Held). step_in k q (Local t 1)) (sym same) ∙ all (omega arith))
