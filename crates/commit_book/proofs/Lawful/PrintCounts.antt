-- A run has printed as many values as it has prints, and a cut makes all of them final.
use Rattle.std.proofs.Common.{◌≡◌, ℕ, zero, suc, ◌+◌, ◌≤◌, Bool, true, false, cond, ◌&&◌, nat_eq, List, [], ◌∷◌, ◌++◌, length, Option, Some, None, refl, sym, ap, subst, ◌∙◌, length-append, arith}
use Rattle.std.specs.Prelude.{count_by, nat_lt, option_and_then, option_map}
use Rattle.std.specs.Ordering.{nat_cmp}
use Rattle.std.specs.FinMap as map
use Rattle.std.specs.FinMap.{FinMap}
use Rattle.std.proofs.lemmas.List.Sums.{sum_by-cons}
use Rattle.stab_base.specs.Datum.{Datum}
use Rattle.stab_base.specs.declared.numbers.ThreadId.{ThreadId}
use Rattle.stab_code.specs.Program.{ProgramParts}
use Rattle.stab_journal.specs.declared.event.Label.{Label}
use Rattle.stab_journal.specs.declared.event.Label.TheVariants.{Local, Spawn, NewChan, Comm, NewRef, Get, Set, Enter, Cut, Print, Probe, Refuse, Pin, Attempt}
use Rattle.stab_journal.specs.declared.event.Numbered.{Numbered}
use Rattle.stab_journal.specs.Due.{is_print, final_prints}
use Rattle.stab_journal.specs.Journal.{RiseFrom}
use Rattle.language.specs.Expression.{Expr}
use Rattle.language.specs.Plain.{PlainState, effect_of, language_of, look_in}
use Rattle.language.specs.Steps.{Effect, plain, after_steps, effect_in, exprs_at}
use Rattle.language.specs.Table.{Look, act, spawns, makes_chan, makes_ref, gets, sets, enters, stabilizes, cuts, pins, prints, probes, attempts, to, local_by, spawn_by, chan_by, ref_by, get_by, set_by, comm_by, received_by, sent_by, enter_by, cut_by, pin_by, print_by, probe_by, refuse_by, attempt_by, pure_steps}
use Rattle.journal_laws.proofs.Numbers.{rise_front}
use Rattle.journal_laws.proofs.Stepping.{step_of}
use Rattle.journal_laws.proofs.Surviving.{some_is, some_none, no_steps}
use Rattle.commit_book.proofs.Keeping.Cutting.{cut_at}
use Rattle.commit_book.proofs.Keeping.Floors.{floor_cut, less_is}

cond_of : {X : Type 0} (b : Bool) (o : Option X) (x : X) → cond b o None ≡ Some x → o ≡ Some x
cond_of true o x is = is
cond_of false o x is = absurd (some_none (sym is))

map_of : {X Y : Type 0} (f : X → Y) (P : Y → Type 0) → ((x : X) → P (f x)) → (o : Option X) (y : Y) → option_map f o ≡ Some y → P y
map_of f P all None y is = absurd (some_none (sym is))
map_of f P all (Some x) y is = subst P (some_is is) (all x)

then_of : {X Y : Type 0} (f : X → Option Y) (P : Y → Type 0) → ((x : X) (y : Y) → f x ≡ Some y → P y) → (o : Option X) (y : Y) → option_and_then f o ≡ Some y → P y
then_of f P all None y is = absurd (some_none (sym is))
then_of f P all (Some x) y is = all x y is

pub counted : (p : Numbered → Bool) (n : Numbered) (ns : List Numbered) → count_by p (n ∷ ns) ≡ cond {A = ℕ} (p n) 1 0 + count_by p ns
counted p n ns = sum_by-cons (λ (k : Numbered). cond {A = ℕ} (p k) 1 0) n ns

-- so many values are printed
abbrev Long : ℕ → Effect Expr → Type 0
Long n e = length e.printed ≡ n

module _ (p : ProgramParts) where
  local_long : (n : ℕ) (e : Expr) (eff : Effect Expr) → local_by (language_of p) n e ≡ Some eff → Long 0 eff
  local_long zero e eff is = absurd (some_none (sym is))
  local_long (suc n) e eff is = map_of (to (language_of p)) (Long 0) (λ x. refl) (pure_steps (language_of p) (suc n) e) eff is

  spawn_long : (e : Expr) (l : Look Expr) (eff : Effect Expr) → spawn_by (language_of p) e l ≡ Some eff → Long 0 eff
  spawn_long e (act (spawns b)) eff is = subst (Long 0) (some_is is) refl
  spawn_long e _ eff is = absurd (some_none (sym is))

  chan_long : (c : ℕ) (e : Expr) (l : Look Expr) (eff : Effect Expr) → chan_by (language_of p) c e l ≡ Some eff → Long 0 eff
  chan_long c e (act makes_chan) eff is = subst (Long 0) (some_is is) refl
  chan_long c e _ eff is = absurd (some_none (sym is))

  ref_long : (r : ℕ) (e : Expr) (l : Look Expr) (eff : Effect Expr) → ref_by (language_of p) r e l ≡ Some eff → Long 0 eff
  ref_long r e (act (makes_ref v)) eff is = subst (Long 0) (some_is is) refl
  ref_long r e _ eff is = absurd (some_none (sym is))

  get_long : (r : ℕ) (e : Expr) (held : Option Datum) (l : Look Expr) (eff : Effect Expr) → get_by (language_of p) r e held l ≡ Some eff → Long 0 eff
  get_long r e held (act (gets q)) eff is = map_of _ (Long 0) (λ x. refl) held eff (cond_of (nat_eq q r) _ eff is)
  get_long r e held _ eff is = absurd (some_none (sym is))

  set_long : (r : ℕ) (e : Expr) (l : Look Expr) (eff : Effect Expr) → set_by (language_of p) r e l ≡ Some eff → Long 0 eff
  set_long r e (act (sets q v)) eff is = subst (Long 0) (some_is (cond_of (nat_eq q r) _ eff is)) refl
  set_long r e _ eff is = absurd (some_none (sym is))

  comm_long : (c : ℕ) (a b : Expr) (eff : Effect Expr) → comm_by (language_of p) c a b ≡ Some eff → Long 0 eff
  comm_long c a b eff is =
      then_of _ (Long 0) (λ v y at. map_of _ (Long 0) (λ e. refl) (received_by (language_of p) c b v (look_in p b)) y at) (sent_by (language_of p) c (look_in p a)) eff is

  enter_long : (q : ℕ) (e : Expr) (l : Look Expr) (eff : Effect Expr) → enter_by (language_of p) q e l ≡ Some eff → Long 0 eff
  enter_long q e (act (enters b)) eff is = subst (Long 0) (some_is is) refl
  enter_long q e _ eff is = absurd (some_none (sym is))

  cut_long : (e : Expr) (l : Look Expr) (eff : Effect Expr) → cut_by (language_of p) e l ≡ Some eff → Long 0 eff
  cut_long e (act cuts) eff is = subst (Long 0) (some_is is) refl
  cut_long e _ eff is = absurd (some_none (sym is))

  pin_long : (e : Expr) (l : Look Expr) (eff : Effect Expr) → pin_by (language_of p) e l ≡ Some eff → Long 0 eff
  pin_long e (act pins) eff is = subst (Long 0) (some_is is) refl
  pin_long e _ eff is = absurd (some_none (sym is))

  print_long : (e : Expr) (l : Look Expr) (eff : Effect Expr) → print_by (language_of p) e l ≡ Some eff → Long 1 eff
  print_long e (act (prints v)) eff is = subst (Long 1) (some_is is) refl
  print_long e _ eff is = absurd (some_none (sym is))

  probe_long : (i : _) (e : Expr) (l : Look Expr) (eff : Effect Expr) → probe_by (language_of p) i e l ≡ Some eff → Long 0 eff
  probe_long i e (act probes) eff is = subst (Long 0) (some_is (cond_of _ _ eff is)) refl
  probe_long i e _ eff is = absurd (some_none (sym is))

  refuse_long : (l : Look Expr) (eff : Effect Expr) → refuse_by (language_of p) l ≡ Some eff → Long 0 eff
  refuse_long (act stabilizes) eff is = subst (Long 0) (some_is is) refl
  refuse_long _ eff is = absurd (some_none (sym is))

  attempt_long : (n : ℕ) (e : Expr) (l : Look Expr) (eff : Effect Expr) → attempt_by (language_of p) n e l ≡ Some eff → Long 0 eff
  attempt_long n e (act attempts) eff is = subst (Long 0) (some_is (cond_of _ _ eff is)) refl
  attempt_long n e _ eff is = absurd (some_none (sym is))

  one_long : (n u : ℕ) (threads : FinMap nat_cmp Expr) (f : List Expr → Option (Effect Expr)) → ((e : Expr) (eff : Effect Expr) → f (e ∷ []) ≡ Some eff → Long n eff) → (eff : Effect Expr) → option_and_then f (exprs_at threads (u ∷ [])) ≡ Some eff → Long n eff
  one_long n u threads f all eff is =
      elim (map.get threads u) as (λ o. option_and_then f (option_and_then (λ e. option_map (λ es. e ∷ es) (Some [])) o) ≡ Some eff → Long n eff) [
        | None ↦ λ is. absurd (some_none (sym is))
        | (Some e) ↦ λ is. all e eff is
      ] is

  two_long : (u v : ℕ) (threads : FinMap nat_cmp Expr) (f : List Expr → Option (Effect Expr)) → ((a b : Expr) (eff : Effect Expr) → f (a ∷ b ∷ []) ≡ Some eff → Long 0 eff) → (eff : Effect Expr) → option_and_then f (exprs_at threads (u ∷ v ∷ [])) ≡ Some eff → Long 0 eff
  two_long u v threads f all eff is =
      elim (map.get threads u) as (λ o. option_and_then f (option_and_then (λ e. option_map (λ es. e ∷ es) (exprs_at threads (v ∷ []))) o) ≡ Some eff → Long 0 eff) [
        | None ↦ λ is. absurd (some_none (sym is))
        | (Some a) ↦ λ is. elim (map.get threads v) as (λ o. option_and_then f (option_map (λ es. a ∷ es) (option_and_then (λ e. option_map (λ es. e ∷ es) (Some [])) o)) ≡ Some eff → Long 0 eff) [
          | None ↦ λ is. absurd (some_none (sym is))
          | (Some b) ↦ λ is. all a b eff is
        ] is
      ] is

  -- a print prints one value, and no other step prints
  pub effect_long : (s : PlainState) (q : ℕ) (l : Label) (eff : Effect Expr) → effect_in (effect_of p) s q l ≡ Some eff → Long (cond (is_print l) 1 0) eff
  effect_long s q (Local t n) eff is = one_long 0 t.0 s.threads (λ es. effect_of p q (Local t n) es None) (λ e eff at. local_long n e eff at) eff is
  effect_long s q (Spawn t u) eff is = one_long 0 t.0 s.threads (λ es. effect_of p q (Spawn t u) es None) (λ e eff at. spawn_long e (look_in p e) eff at) eff is
  effect_long s q (NewChan t c) eff is = one_long 0 t.0 s.threads (λ es. effect_of p q (NewChan t c) es None) (λ e eff at. chan_long c.0 e (look_in p e) eff at) eff is
  effect_long s q (Comm x y c) eff is = two_long x.0 y.0 s.threads (λ es. effect_of p q (Comm x y c) es None) (λ a b eff at. comm_long c.0 a b eff at) eff is
  effect_long s q (NewRef t r) eff is = one_long 0 t.0 s.threads (λ es. effect_of p q (NewRef t r) es None) (λ e eff at. ref_long r.0 e (look_in p e) eff at) eff is
  effect_long s q (Get t r) eff is = one_long 0 t.0 s.threads (λ es. effect_of p q (Get t r) es (map.get s.references r.0)) (λ e eff at. get_long r.0 e (map.get s.references r.0) (look_in p e) eff at) eff is
  effect_long s q (Set t r) eff is = one_long 0 t.0 s.threads (λ es. effect_of p q (Set t r) es None) (λ e eff at. set_long r.0 e (look_in p e) eff at) eff is
  effect_long s q (Enter t) eff is = one_long 0 t.0 s.threads (λ es. effect_of p q (Enter t) es None) (λ e eff at. enter_long q e (look_in p e) eff at) eff is
  effect_long s q (Cut t) eff is = one_long 0 t.0 s.threads (λ es. effect_of p q (Cut t) es None) (λ e eff at. cut_long e (look_in p e) eff at) eff is
  effect_long s q (Print t) eff is = one_long 1 t.0 s.threads (λ es. effect_of p q (Print t) es None) (λ e eff at. print_long e (look_in p e) eff at) eff is
  effect_long s q (Probe t i) eff is = one_long 0 t.0 s.threads (λ es. effect_of p q (Probe t i) es None) (λ e eff at. probe_long i e (look_in p e) eff at) eff is
  effect_long s q (Refuse t) eff is = one_long 0 t.0 s.threads (λ es. effect_of p q (Refuse t) es None) (λ e eff at. refuse_long (look_in p e) eff at) eff is
  effect_long s q (Pin t) eff is = one_long 0 t.0 s.threads (λ es. effect_of p q (Pin t) es None) (λ e eff at. pin_long e (look_in p e) eff at) eff is
  effect_long s q (Attempt t n) eff is = one_long 0 t.0 s.threads (λ es. effect_of p q (Attempt t n) es None) (λ e eff at. attempt_long n e (look_in p e) eff at) eff is

  -- a run has printed as many values as it has prints
  pub run_printed : (ns : List Numbered) (s end : PlainState) → after_steps (effect_of p) (Some s) ns ≡ Some end → length end.output ≡ length s.output + count_by (λ (n : Numbered). is_print n.label) ns
  run_printed [] s end run = let same : length s.output ≡ length end.output = ap (λ (y : PlainState). length y.output) (some_is run) in omega arith
  run_printed (n ∷ ns) s end run =
      elim (plain (effect_of p) s n.seq.0 n.label) as (λ o. plain (effect_of p) s n.seq.0 n.label ≡ o → after_steps (effect_of p) o ns ≡ Some end → length end.output ≡ length s.output + count_by (λ (k : Numbered). is_print k.label) (n ∷ ns)) [
        | None ↦ λ none run. absurd (some_none (sym run ∙ no_steps (effect_of p) ns))
        | (Some m) ↦ λ made run.
            let st = step_of (effect_of p) s n.seq.0 n.label m made in
            let now : length m.output ≡ length s.output + length st.eff.printed = ap (λ (y : PlainState). length y.output) st.is ∙ length-append s.output st.eff.printed in
            let one : length st.eff.printed ≡ cond (is_print n.label) 1 0 = effect_long s n.seq.0 n.label st.eff st.found in
            let count = counted (λ (k : Numbered). is_print k.label) n ns in
            let more = run_printed ns m end run in
            omega (arith, now, one, count, more)
      ] refl run

and_true : (b : Bool) → (b && true) ≡ b
and_true true = refl
and_true false = refl

-- a cut makes all prints before it final
cut_count : (ns : List Numbered) (k q : ℕ) (t : ThreadId) → RiseFrom k (ns ++ cut_at q t ∷ []) → count_by (λ (n : Numbered). is_print n.label && nat_lt n.seq.0 q) (ns ++ cut_at q t ∷ []) ≡ count_by (λ (n : Numbered). is_print n.label) ns
cut_count [] k q t rise = refl
cut_count (n ∷ ns) k q t rise =
    let low : suc n.seq.0 ≤ q = rise_front (suc n.seq.0) ns (cut_at q t) [] rise.1 in
    let head : cond {A = ℕ} (is_print n.label && nat_lt n.seq.0 q) 1 0 ≡ cond {A = ℕ} (is_print n.label) 1 0 = ap (λ b. cond {A = ℕ} (is_print n.label && b) 1 0) (less_is n.seq.0 q low) ∙ ap (λ b. cond {A = ℕ} b 1 0) (and_true (is_print n.label)) in
    let more = cut_count ns (suc n.seq.0) q t rise.1 in
    counted (λ (j : Numbered). is_print j.label && nat_lt j.seq.0 q) n (ns ++ cut_at q t ∷ [])
    ∙ ap (λ a. a + count_by (λ (j : Numbered). is_print j.label && nat_lt j.seq.0 q) (ns ++ cut_at q t ∷ [])) head
    ∙ ap (λ a. cond {A = ℕ} (is_print n.label) 1 0 + a) more
    ∙ sym (counted (λ (j : Numbered). is_print j.label) n ns)

pub finals_cut : (run : List Numbered) (q : ℕ) (t : ThreadId) → RiseFrom 1 (run ++ cut_at q t ∷ []) → final_prints (run ++ cut_at q t ∷ []) ≡ count_by (λ (n : Numbered). is_print n.label) run
finals_cut run q t rise =
    ap (λ f. count_by (λ (n : Numbered). is_print n.label && nat_lt n.seq.0 f) (run ++ cut_at q t ∷ [])) (floor_cut 0 run (cut_at q t) refl)
    ∙ cut_count run 1 q t rise
