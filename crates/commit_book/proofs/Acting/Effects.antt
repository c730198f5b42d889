-- What each step of one thread changes, from what the thread looks at.
use Rattle.std.proofs.Common.{◌≡◌, ℕ, ◌<◌, ◌^◌, true, cond, [], ◌∷◌, Some, None, ap, ◌∙◌, nat_lt, arith}
use Rattle.std.specs.Prelude.{ℤ, pos, option_and_then, option_map}
use Rattle.std.proofs.lemmas.Bool.Decides.{nat_tests}
use Rattle.stab_base.specs.Datum.{Datum, unit, int, chan, reference}
use Rattle.stab_base.specs.declared.fault.Fault.TheVariants.{NoSection}
use Rattle.stab_base.specs.declared.numbers.ChanId.{ChanId}
use Rattle.stab_base.specs.declared.numbers.RefId.{RefId}
use Rattle.stab_base.specs.declared.numbers.ThreadId.{ThreadId}
use Rattle.stab_code.specs.Program.{ProgramParts}
use Rattle.stab_journal.specs.declared.event.Label.{Label}
use Rattle.stab_journal.specs.declared.event.Label.TheVariants.{Spawn, NewChan, NewRef, Enter, Cut, Print, Probe, Refuse, Pin, Attempt}
use Rattle.stab_journal.specs.Label.{actors}
use Rattle.stab_journal.specs.Names.{read}
use Rattle.language.specs.Expression.{Expr, failed}
use Rattle.language.specs.Look.{answered, entered}
use Rattle.language.specs.Numbers.{fits_word}
use Rattle.language.specs.Plain.{PlainState, effect_of, language_of, look_in, standing}
use Rattle.language.specs.Steps.{effect_in, exprs_at, held_at}
use Rattle.language.specs.Table.{spawns, makes_chan, makes_ref, enters, stabilizes, cuts, pins, prints, probes, attempts, act, to, spawn_by, chan_by, ref_by, enter_by, cut_by, pin_by, print_by, probe_by, refuse_by, attempt_by}

module _ (p : ProgramParts) (s : PlainState) (q : ℕ) (t : ThreadId) (e : Expr) (stands : standing s t.0 ≡ Some e) where
  only_actor : exprs_at s.threads (t.0 ∷ []) ≡ Some (e ∷ [])
  only_actor = ap (λ o. option_and_then (λ x. option_map (λ es. x ∷ es) (Some [])) o) stands

  -- a step of one thread is made by its expression alone
  pub alone : (l : Label) → exprs_at s.threads (actors l) ≡ exprs_at s.threads (t.0 ∷ []) → effect_in (effect_of p) s q l ≡ effect_of p q l (e ∷ []) (held_at s.references (read l))
  alone l is = ap (option_and_then (λ es. effect_of p q l es (held_at s.references (read l)))) (is ∙ only_actor)

  pub spawn_effect : (u : ThreadId) (b : Expr) → look_in p e ≡ act (spawns b) → effect_in (effect_of p) s q (Spawn t u) ≡ Some (record { mine = answered e unit; other = b; value = unit; printed = [] })
  spawn_effect u b looks = ap (option_and_then (λ es. effect_of p q (Spawn t u) es None)) only_actor ∙ ap (spawn_by (language_of p) e) looks

  pub chan_effect : (c : ChanId) → look_in p e ≡ act makes_chan → effect_in (effect_of p) s q (NewChan t c) ≡ Some (to (language_of p) (answered e (chan c.0)))
  chan_effect c looks = ap (option_and_then (λ es. effect_of p q (NewChan t c) es None)) only_actor ∙ ap (chan_by (language_of p) c.0 e) looks

  pub ref_effect : (r : RefId) (v : Datum) → look_in p e ≡ act (makes_ref v) → effect_in (effect_of p) s q (NewRef t r) ≡ Some (record { mine = answered e (reference r.0); other = e; value = v; printed = [] })
  ref_effect r v looks = ap (option_and_then (λ es. effect_of p q (NewRef t r) es None)) only_actor ∙ ap (ref_by (language_of p) r.0 e) looks

  pub enter_effect : (b : Expr) → look_in p e ≡ act (enters b) → effect_in (effect_of p) s q (Enter t) ≡ Some (to (language_of p) (entered e q b))
  enter_effect b looks = ap (option_and_then (λ es. effect_of p q (Enter t) es None)) only_actor ∙ ap (enter_by (language_of p) q e) looks

  pub cut_effect : look_in p e ≡ act cuts → effect_in (effect_of p) s q (Cut t) ≡ Some (to (language_of p) (answered e unit))
  cut_effect looks = ap (option_and_then (λ es. effect_of p q (Cut t) es None)) only_actor ∙ ap (cut_by (language_of p) e) looks

  pub pin_effect : look_in p e ≡ act pins → effect_in (effect_of p) s q (Pin t) ≡ Some (to (language_of p) (answered e unit))
  pin_effect looks = ap (option_and_then (λ es. effect_of p q (Pin t) es None)) only_actor ∙ ap (pin_by (language_of p) e) looks

  pub print_effect : (v : Datum) → look_in p e ≡ act (prints v) → effect_in (effect_of p) s q (Print t) ≡ Some (record { mine = answered e unit; other = e; value = unit; printed = v ∷ [] })
  print_effect v looks = ap (option_and_then (λ es. effect_of p q (Print t) es None)) only_actor ∙ ap (print_by (language_of p) e) looks

  pub probe_effect : (i : ℤ) → fits_word i ≡ true → look_in p e ≡ act probes → effect_in (effect_of p) s q (Probe t i) ≡ Some (to (language_of p) (answered e (int i)))
  probe_effect i fits looks =
      ap (option_and_then (λ es. effect_of p q (Probe t i) es None)) only_actor
      ∙ ap (probe_by (language_of p) i e) looks
      ∙ ap (λ b. cond b (Some (to (language_of p) (answered e (int i)))) None) fits

  pub refuse_effect : look_in p e ≡ act stabilizes → effect_in (effect_of p) s q (Refuse t) ≡ Some (to (language_of p) (failed NoSection))
  refuse_effect looks = ap (option_and_then (λ es. effect_of p q (Refuse t) es None)) only_actor ∙ ap (refuse_by (language_of p)) looks

  few : (n : ℕ) → n < 2 ^ 63 → nat_lt n (2 ^ 63) ≡ true
  few n h = grind (arith, nat_tests)

  pub attempt_effect : (n : ℕ) → n < 2 ^ 63 → look_in p e ≡ act attempts → effect_in (effect_of p) s q (Attempt t n) ≡ Some (to (language_of p) (answered e (int (pos n))))
  attempt_effect n low looks =
      ap (option_and_then (λ es. effect_of p q (Attempt t n) es None)) only_actor
      ∙ ap (attempt_by (language_of p) n e) looks
      ∙ ap (λ b. cond b (Some (to (language_of p) (answered e (int (pos n))))) None) (few n low)
