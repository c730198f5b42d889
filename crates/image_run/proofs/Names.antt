-- The numbers of a state are below the next ones.
use Rattle.std.proofs.Common.{◌≡◌, ℕ, ◌≤◌, ◌<◌, Bool, true, false, cond, nat_eq, ◌||◌, List, [], ◌∷◌, Option, Some, None, refl, sym, ap, subst, ◌∙◌}
use Rattle.std.specs.Prelude.{is_some}
use Rattle.std.specs.List.{AllByRecursion}
use Rattle.std.specs.FinMap as map
use Rattle.std.specs.FinSet as set
use Rattle.std.proofs.lemmas.Bool.{false≢true, eqb-true}
use Rattle.stab_code.specs.Program.{ProgramParts}
use Rattle.stab_journal.specs.declared.event.Label.{Label}
use Rattle.stab_journal.specs.declared.event.Label.TheVariants.{Local, Spawn, NewChan, Comm, NewRef, Get, Set, Enter, Cut, Print, Probe, Refuse, Pin, Attempt}
use Rattle.stab_journal.specs.declared.event.Numbered.{Numbered}
use Rattle.stab_journal.specs.Label.{actors, touched, written}
use Rattle.stab_journal.specs.Names.{has, is_at, made}
use Rattle.language.specs.Expression.{Expr}
use Rattle.language.specs.Plain.{PlainState, effect_of, plain_step}
use Rattle.language.specs.Since.{end_from}
use Rattle.language.specs.Steps.{after_steps, allows}
use Rattle.language.proofs.Applying.{put_channel-is, put_threads-apart, put_value-apart}
use Rattle.journal_laws.proofs.Stepping.{IsStep, step_of}
use Rattle.journal_laws.proofs.Surviving.{no_steps, some_is, some_none}
use Rattle.image_laws.proofs.Threads.{actor_there}
use Rattle.image_run.specs.declared.next.Next.{Next}
use Rattle.image_run.specs.Next.{AreBelowNext, IsMadeBelow}

-- a thread that a step touches acts in it, or is below the next number
touched_below : (n : Next) (l : Label) (t : ℕ) (P : Type 0) → IsMadeBelow n l → has (touched l) t ≡ true → (has (actors l) t ≡ true → P) → ((1 ≤ t) × (t < n.thread) → P) → P
touched_below n (Spawn u v) t P below h f g =
    elim (nat_eq t u.0) as (λ b. nat_eq t u.0 ≡ b → cond b true (cond (nat_eq t v.0) true false) ≡ true → P) [
      | true ↦ λ is h. f (ap (λ b. cond b true false) is)
      | false ↦ λ is h.
          (elim (nat_eq t v.0) as (λ b. nat_eq t v.0 ≡ b → cond b true false ≡ true → P) [
            | true ↦ λ at k. g (subst (λ (x : ℕ). (1 ≤ x) × (x < n.thread)) (sym (eqb-true t v.0 at)) below)
            | false ↦ λ at k. absurd (false≢true k)
          ]) refl h
    ] refl h
touched_below n (Local u k) t P below h f g = f h
touched_below n (NewChan u c) t P below h f g = f h
touched_below n (Comm s r c) t P below h f g = f h
touched_below n (NewRef u r) t P below h f g = f h
touched_below n (Get u r) t P below h f g = f h
touched_below n (Set u r) t P below h f g = f h
touched_below n (Enter u) t P below h f g = f h
touched_below n (Cut u) t P below h f g = f h
touched_below n (Print u) t P below h f g = f h
touched_below n (Probe u i) t P below h f g = f h
touched_below n (Refuse u) t P below h f g = f h
touched_below n (Pin u) t P below h f g = f h
touched_below n (Attempt u k) t P below h f g = f h

chan_below : (n : Next) (l : Label) (c : ℕ) → IsMadeBelow n l → is_at (made l) c ≡ true → c < n.chan
chan_below n (NewChan t d) c below h = subst (λ (x : ℕ). x < n.chan) (sym (eqb-true c d.0 h)) below
chan_below n _ c below h = absurd (false≢true h)

reference_below : (n : Next) (s : PlainState) (l : Label) (r : ℕ) → IsMadeBelow n l → allows s l ≡ true → is_at (written l) r ≡ true → (map.contains_key s.references r ≡ true → r < n.reference) → r < n.reference
reference_below n s (NewRef t q) r below ok h f = subst (λ (x : ℕ). x < n.reference) (sym (eqb-true r q.0 h)) below
reference_below n s (Set t q) r below ok h f = f (ap (map.contains_key s.references) (eqb-true r q.0 h) ∙ ok)
reference_below n s _ r below ok h f = absurd (false≢true h)

either_of : (a b : Bool) (P : Type 0) → (a || b) ≡ true → (a ≡ true → P) → (b ≡ true → P) → P
either_of true b P h f g = f refl
either_of false b P h f g = g h

there_or_none : (o : Option Expr) (P : Type 0) → (is_some o ≡ true → P) → (o ≡ None → P) → P
there_or_none None P f g = g refl
there_or_none (Some e) P f g = f refl

module _ (p : ProgramParts) (n : Next) (s after : PlainState) (q : ℕ) (l : Label) (is : plain_step p s q l ≡ Some after) (h : AreBelowNext n s) (below : IsMadeBelow n l) where
  step : IsStep (effect_of p) s q l after
  step = step_of (effect_of p) s q l after is

  threads_below : (t : ℕ) → map.contains_key after.threads t ≡ true → (1 ≤ t) × (t < n.thread)
  threads_below t there =
      elim (has (touched l) t) as (λ b. has (touched l) t ≡ b → (1 ≤ t) × (t < n.thread)) [
        | true ↦ λ yes. touched_below n l t _ below yes
            (λ acts. there_or_none (map.get s.threads t) _ (h.threads t) (λ none. absurd (actor_there (effect_of p) s after q l t is acts none)))
            (λ b. b)
        | false ↦ λ no. h.threads t (sym (ap is_some (ap (λ (k : PlainState). map.get k.threads t) step.is ∙ put_threads-apart (touched l) step.eff.mine step.eff.other s.threads t no)) ∙ there)
      ] refl

  chans_below : (c : ℕ) → set.contains after.channels c ≡ true → c < n.chan
  chans_below c there =
      either_of (is_at (made l) c) (set.contains s.channels c) (c < n.chan)
      (sym (ap (λ (k : PlainState). set.contains k.channels c) step.is ∙ put_channel-is (made l) s.channels c) ∙ there)
      (chan_below n l c below) (h.channels c)

  references_below : (r : ℕ) → map.contains_key after.references r ≡ true → r < n.reference
  references_below r there =
      elim (is_at (written l) r) as (λ b. is_at (written l) r ≡ b → r < n.reference) [
        | true ↦ λ yes. reference_below n s l r below step.allowed yes (h.references r)
        | false ↦ λ no. h.references r (sym (ap is_some (ap (λ (k : PlainState). map.get k.references r) step.is ∙ put_value-apart (written l) step.eff.value s.references r no)) ∙ there)
      ] refl

  one_below : AreBelowNext n after
  one_below = record { threads = threads_below; channels = chans_below; references = references_below }

-- after steps that make nothing else
pub all_below : (p : ProgramParts) (n : Next) (ns : List Numbered) (s after : PlainState) → AreBelowNext n s → AllByRecursion (λ (k : Numbered). IsMadeBelow n k.label) ns → end_from p s ns ≡ Some after → AreBelowNext n after
all_below p n [] s after h made is = subst (AreBelowNext n) (some_is is) h
all_below p n (k ∷ ns) s after h made is =
    elim (plain_step p s k.seq.0 k.label) as (λ o. plain_step p s k.seq.0 k.label ≡ o → after_steps (effect_of p) o ns ≡ Some after → AreBelowNext n after) [
      | None ↦ λ at run. absurd (some_none (sym run ∙ no_steps (effect_of p) ns))
      | (Some m) ↦ λ at run. all_below p n ns m after (one_below p n s m k.seq.0 k.label at h made.0) made.1 run
    ] refl is
