-- What holds of every log after calls that are allowed.
use Rattle.std.proofs.Common.{◌≡◌, ℕ, ◌<◌, ◌≤◌, Bool, true, false, not, cond, ◌&&◌, ◌||◌, nat_eq, nat_lt, List, [], ◌∷◌, drop, refl, sym, ap, ◌∙◌, subst, arith, ne_eqb}
use Rattle.std.specs.List.{AllByRecursion}
use Rattle.std.proofs.lemmas.Bool.{eqb-true, eqb-false, ltb-false, or_parts, and_parts, or_right}
use Rattle.std.proofs.lemmas.List.Elements.{recursion_from_All}
use Rattle.stab_base.specs.Datum.{Datum}
use Rattle.ref_log.specs.Log.{Write, Log, IsRising, IsInOrder, writes_of, has_write, has_below, without, kept}
use Rattle.ref_log.specs.Calls.{Call, made, wrote, struck, cut, written, after_call, IsAfter, IsAllowed, Leads, none, one_more}

absorb : (a x : Bool) → ((a || x) && not a) ≡ (x && not a)
absorb true true = refl
absorb true false = refl
absorb false x = refl

spread : (a x c : Bool) → (a ≡ true → c ≡ false) → (a || (x && not c)) ≡ ((a || x) && not c)
spread true x c h = let e : false ≡ c = sym (h refl) in ap not e
spread false x c h = refl

-- to take a write out takes its number out
has_write-without : (p q : ℕ) (ws : List Write) → has_write p (without q ws) ≡ (has_write p ws && not (nat_eq p q))
has_write-without p q [] = refl
has_write-without p q (w ∷ ws) =
    elim (nat_eq q w.number) as (λ b. nat_eq q w.number ≡ b → has_write p (cond (not b) (w ∷ without q ws) (without q ws)) ≡ ((nat_eq p w.number || has_write p ws) && not (nat_eq p q))) [
      | true ↦ λ e.
          let same : q ≡ w.number = eqb-true q w.number e in
          has_write-without p q ws ∙ sym (absorb (nat_eq p q) (has_write p ws)) ∙ ap (λ n. (nat_eq p n || has_write p ws) && not (nat_eq p q)) same
      | false ↦ λ e.
          ap (λ x. nat_eq p w.number || x) (has_write-without p q ws)
          ∙ spread (nat_eq p w.number) (has_write p ws) (nat_eq p q) (λ f. ne_eqb p q (λ g. eqb-false q w.number e (sym g ∙ eqb-true p w.number f)))
    ] refl

all_written : (n q : ℕ) (v : Datum) (ws : List Write) → AllByRecursion (λ w. n < w.number) ws → n < q → AllByRecursion (λ w. n < w.number) (written ws q v)
all_written n q v [] h low = (low, tt)
all_written n q v (w ∷ ws) h low = (h.0, all_written n q v ws h.1 low)

rising_written : (q : ℕ) (v : Datum) (ws : List Write) → IsRising ws → AllByRecursion (λ w. w.number < q) ws → IsRising (written ws q v)
rising_written q v [] rise low = (tt, tt)
rising_written q v (w ∷ ws) rise low = (all_written w.number q v ws rise.0 low.0, rising_written q v ws rise.1 low.1)

all_without : (P : Write → Type 0) (q : ℕ) (ws : List Write) → AllByRecursion P ws → AllByRecursion P (without q ws)
all_without P q [] h = tt
all_without P q (w ∷ ws) h =
    elim (nat_eq q w.number) as (λ b. AllByRecursion P (cond (not b) (w ∷ without q ws) (without q ws))) [
      | true ↦ all_without P q ws h.1
      | false ↦ (h.0, all_without P q ws h.1)
    ]

rising_without : (q : ℕ) (ws : List Write) → IsRising ws → IsRising (without q ws)
rising_without q [] rise = tt
rising_without q (w ∷ ws) rise =
    elim (nat_eq q w.number) as (λ b. IsRising (cond (not b) (w ∷ without q ws) (without q ws))) [
      | true ↦ rising_without q ws rise.1
      | false ↦ (all_without (λ v. w.number < v.number) q ws rise.0, rising_without q ws rise.1)
    ]

rising_kept : (q : ℕ) (ws : List Write) → IsRising ws → IsRising (kept q ws)
rising_kept q [] rise = tt
rising_kept q (w ∷ ws) rise =
    elim (has_below q ws) as (λ b. IsRising (cond b (kept q ws) (w ∷ ws))) [
      | true ↦ rising_kept q ws rise.1
      | false ↦ rise
    ]

rising_by : (b : Bool) (xs ws : List Write) → (b ≡ true → IsRising xs) → IsRising ws → IsRising (cond b xs ws)
rising_by true xs ws h rise = h refl
rising_by false xs ws h rise = rise

-- writes rise after a call
rising_after : (call : Call) (old : Log) (r : ℕ) → IsAllowed call old → IsRising (writes_of old r) → IsRising (after_call call r (writes_of old r))
rising_after (made s q v) old r allowed rise =
    rising_by (nat_eq s r) (written (writes_of old r) q v) (writes_of old r)
    (λ e. subst (λ ws. IsRising (written ws q v)) (sym (ap (writes_of old) (sym (eqb-true s r e)) ∙ allowed.0)) (tt, tt)) rise
rising_after (wrote s q v) old r allowed rise =
    rising_by (nat_eq s r) (written (writes_of old r) q v) (writes_of old r)
    (λ e. rising_written q v (writes_of old r) rise
    (let P : ℕ → Type 0 = λ n. AllByRecursion (λ w. w.number < q) (writes_of old n) in subst P (eqb-true s r e) (recursion_from_All (λ w. w.number < q) (writes_of old s) allowed.1)))
    rise
rising_after (struck s q) old r allowed rise = rising_by (nat_eq s r) (without q (writes_of old r)) (writes_of old r) (λ _. rising_without q (writes_of old r) rise) rise
rising_after (cut q) old r allowed rise = rising_kept q (writes_of old r) rise

has_dropped : (p : ℕ) (ws : List Write) → has_write p (drop 1 ws) ≡ true → has_write p ws ≡ true
has_dropped p [] h = h
has_dropped p (w ∷ ws) h = or_right (nat_eq p w.number) (has_write p ws) h

has_written : (p q : ℕ) (v : Datum) (ws : List Write) (n : ℕ) → (has_write p ws ≡ true → n < p) → n < q → has_write p (written ws q v) ≡ true → n < p
has_written p q v [] n h low there =
    elim (nat_eq p q) as (λ b. nat_eq p q ≡ b → (b || false) ≡ true → n < p) [
      | true ↦ λ e _. let same = eqb-true p q e in omega arith
      | false ↦ λ e g. absurd (cc)
    ] refl there
has_written p q v (w ∷ ws) n h low there =
    elim (nat_eq p w.number) as (λ b. ((b || has_write p ws) ≡ true → n < p) → (b || has_write p (written ws q v)) ≡ true → n < p) [
      | true ↦ λ k g. k refl
      | false ↦ λ k g. has_written p q v ws n k low g
    ] h there

tail_written : (p q : ℕ) (v : Datum) (ws : List Write) (n : ℕ) → (has_write p (drop 1 ws) ≡ true → n < p) → n < q → has_write p (drop 1 (written ws q v)) ≡ true → n < p
tail_written p q v [] n h low there = absurd (cc)
tail_written p q v (w ∷ ws) n h low there = has_written p q v ws n h low there

has_rest : (p q : ℕ) (ws : List Write) → has_write p (without q ws) ≡ true → has_write p ws ≡ true
has_rest p q ws h = (and_parts (has_write p ws) (not (nat_eq p q)) (sym (has_write-without p q ws) ∙ h)).0

tail_without : (p q : ℕ) (ws : List Write) → has_write p (drop 1 (without q ws)) ≡ true → has_write p (drop 1 ws) ≡ true
tail_without p q [] h = h
tail_without p q (w ∷ ws) h =
    elim (nat_eq q w.number) as (λ b. has_write p (drop 1 (cond (not b) (w ∷ without q ws) (without q ws))) ≡ true → has_write p ws ≡ true) [
      | true ↦ λ g. has_rest p q ws (has_dropped p (without q ws) g)
      | false ↦ λ g. has_rest p q ws g
    ] h

has_kept : (p q : ℕ) (ws : List Write) → has_write p (kept q ws) ≡ true → has_write p ws ≡ true
has_kept p q [] h = h
has_kept p q (w ∷ ws) h =
    elim (has_below q ws) as (λ b. has_write p (cond b (kept q ws) (w ∷ ws)) ≡ true → (nat_eq p w.number || has_write p ws) ≡ true) [
      | true ↦ λ g. or_right (nat_eq p w.number) (has_write p ws) (has_kept p q ws g)
      | false ↦ λ g. g
    ] h

none_below_kept : (q : ℕ) (ws : List Write) → has_below q (drop 1 (kept q ws)) ≡ false
none_below_kept q [] = refl
none_below_kept q (w ∷ ws) =
    elim (has_below q ws) as (λ b. has_below q ws ≡ b → has_below q (drop 1 (cond b (kept q ws) (w ∷ ws))) ≡ false) [
      | true ↦ λ _. none_below_kept q ws
      | false ↦ λ e. e
    ] refl

not_below : (p q : ℕ) (ws : List Write) → has_below q ws ≡ false → has_write p ws ≡ true → q ≤ p
not_below p q [] h there = absurd (cc)
not_below p q (w ∷ ws) h there =
    let parts = or_parts (nat_lt w.number q) (has_below q ws) h in
    elim (nat_eq p w.number) as (λ b. nat_eq p w.number ≡ b → (b || has_write p ws) ≡ true → q ≤ p) [
      | true ↦ λ e _. let same = eqb-true p w.number e in let high = ltb-false w.number q parts.0 in omega arith
      | false ↦ λ e g. not_below p q ws parts.1 g
    ] refl there

recent_by : (b : Bool) (p n : ℕ) (xs ws : List Write) → (has_write p (drop 1 xs) ≡ true → n < p) → (has_write p (drop 1 ws) ≡ true → n < p) → has_write p (drop 1 (cond b xs ws)) ≡ true → n < p
recent_by true p n xs ws h g = h
recent_by false p n xs ws h g = g

apart : (p q : ℕ) (ws : List Write) → has_write p ws ≡ true → has_write q ws ≡ false → p ≡ q → ⊥
apart p q ws there not_there same = let moved = ap (λ n. has_write n ws) same in cc

-- all but the first writes are above the last cut after a call
recent_after : (call : Call) (old new : Log) (r p : ℕ) → IsAllowed call old → IsAfter call old new → (has_write p (drop 1 (writes_of old r)) ≡ true → old.last_cut < p) → has_write p (drop 1 (after_call call r (writes_of old r))) ≡ true → new.last_cut < p
recent_after (made s q v) old new r p allowed after recent there =
    let is = after.last_cut in
    let low = recent_by (nat_eq s r) p old.last_cut (written (writes_of old r) q v) (writes_of old r) (tail_written p q v (writes_of old r) old.last_cut recent allowed.1) recent there in
    omega arith
recent_after (wrote s q v) old new r p allowed after recent there =
    let is = after.last_cut in
    let low = recent_by (nat_eq s r) p old.last_cut (written (writes_of old r) q v) (writes_of old r) (tail_written p q v (writes_of old r) old.last_cut recent allowed.2) recent there in
    omega arith
recent_after (struck s q) old new r p allowed after recent there =
    let is = after.last_cut in
    let low = recent_by (nat_eq s r) p old.last_cut (without q (writes_of old r)) (writes_of old r) (λ g. recent (tail_without p q (writes_of old r) g)) recent there in
    omega arith
recent_after (cut q) old new r p allowed after recent there =
    let is = after.last_cut in
    let ws = writes_of old r in
    let high = not_below p q (drop 1 (kept q ws)) (none_below_kept q ws) there in
    let off : p ≡ q → ⊥ = apart p q ws (has_kept p q ws (has_dropped p (kept q ws) there)) (allowed.0 r) in
    omega arith

-- one call keeps a log in order
pub order_after : (call : Call) (old new : Log) → IsAllowed call old → IsAfter call old new → IsInOrder old → IsInOrder new
order_after call old new allowed after order = record {
  rising = λ r. subst IsRising (sym (after.writes r)) (rising_after call old r allowed (order.rising r));
  recent = λ r p h. recent_after call old new r p allowed after (order.recent r p) (ap (λ ws. has_write p (drop 1 ws)) (sym (after.writes r)) ∙ h);
}

pub order_always : (calls : List Call) (old new : Log) → Leads calls old new → IsInOrder old → IsInOrder new
order_always [] old new (none _) order = order
order_always (call ∷ calls) old new (one_more _ _ _ next _ allowed after more) order = order_always calls next new more (order_after call old next allowed after order)

pub order_fresh : (fresh : Log) → ((r : ℕ) → writes_of fresh r ≡ []) → IsInOrder fresh
order_fresh fresh empty = record {
  rising = λ r. subst IsRising (sym (empty r)) tt;
  recent = λ r p h. let never : false ≡ true = ap (λ ws. has_write p (drop 1 ws)) (sym (empty r)) ∙ h in absurd (cc);
}
