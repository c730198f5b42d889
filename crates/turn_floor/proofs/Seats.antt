-- Seats that come and go keep the rule, and what is known at the end.
use Rattle.std.proofs.Common.{◌≡◌, ℕ, zero, suc, ◌+◌, ◌<◌, ◌≤◌, ◌≢◌, eqb, cond, eqb-true, Bool, true, false, true≢false, List, [], ◌∷◌, ◌++◌, length, get_or, set, sym, refl, ap, ◌∙◌, subst, inl, inr, ⊎_elim, ◌⊎◌, arith, eq-eqb, ne_eqb, length-set}
use Rattle.std.specs.Prelude.{nat_le}
use Rattle.std.specs.List.{AllByRecursion}
use mathlib.Core.Logic.{dite}
use mathlib.Core.Option.{Option, none, some, some-injective, some-ne-none}
use mathlib.Core.List.{IsPrefix}
use native.Mathlib.Decide.{ℕ_discrete}
use lib.ListN.{get_elem?}
use Rattle.atomic_table.specs.Table.{State, Splits, Joins, Final, Seen}
use Rattle.atomic_table.proofs.Lists.{at_set, set_here, set_else, at_longer}
use Rattle.turn_floor.specs.Start.{Start}
use Rattle.stab_journal.specs.declared.event.Event.{Event}
use Rattle.turn_floor.specs.declared.view.View.{View}
use Rattle.stab_journal.specs.Own.{own, own_from}
use Rattle.turn_floor.specs.Served.{AreOf}
use Rattle.turn_floor.specs.Turn.{total_seats, is_here, Fits, Placed, Turned}
use Rattle.turn_floor.specs.Plays.{dealer, dealt, both, spent, longer}
use Rattle.turn_floor.proofs.Histories.{adds_begins, adds_nothing, adds_upto, own_first, prefix_self}
use Rattle.turn_floor.proofs.Steps.{at_length, seats_set, holder_is}

at_end : {A : Type 0} (l : List A) (a b : A) (j : ℕ) → get_elem? (l ++ a ∷ []) j ≡ some b → (get_elem? l j ≡ some b) ⊎ ((j ≡ length l) × (a ≡ b))
at_end [] a b zero e = inr (refl, some-injective a b e)
at_end [] a b (suc j) e = absurd (some-ne-none b (sym e))
at_end (x ∷ xs) a b zero e = inl e
at_end (x ∷ xs) a b (suc j) e = ⊎_elim (λ y. inl y) (λ y. inr (ap suc y.0, y.1)) (at_end xs a b j e)

seats_end : (l : List View) (v : View) → total_seats (l ++ v ∷ []) ≡ total_seats l + v.seats
seats_end [] v = omega arith
seats_end (x ∷ xs) v = omega (arith, seats_end xs v)

seats_one : (l : List View) (j : ℕ) (v : View) → get_elem? l j ≡ some v → v.seats ≤ total_seats l
seats_one [] j v e = absurd (some-ne-none v (sym e))
seats_one (x ∷ xs) zero v e = omega (arith, ap (λ (u : View). u.seats) (some-injective x v e))
seats_one (x ∷ xs) (suc j) v e = omega (arith, seats_one xs j v e)

seats_two : (l : List View) (j k : ℕ) (v u : View) → k ≢ j → get_elem? l j ≡ some v → get_elem? l k ≡ some u → v.seats + u.seats ≤ total_seats l
seats_two [] j k v u n e d = absurd (some-ne-none v (sym e))
seats_two (x ∷ xs) zero zero v u n e d = absurd (n refl)
seats_two (x ∷ xs) zero (suc k) v u n e d = omega (arith, ap (λ (u : View). u.seats) (some-injective x v e), seats_one xs k u d)
seats_two (x ∷ xs) (suc j) zero v u n e d = omega (arith, ap (λ (u : View). u.seats) (some-injective x u d), seats_one xs j v e)
seats_two (x ∷ xs) (suc j) (suc k) v u n e d = omega (arith, seats_two xs j k v u (λ h. n (ap suc h)) e d)

off : (h : Option ℕ) (j : ℕ) → ((i : ℕ) → h ≡ some i → i < j) → false ≡ is_here h j
off none j below = refl
off (some i) j below = let b = below i refl in sym (ne_eqb i j (λ e. omega arith))

longer_by : (P : List Event → Type 0) (xs ys : List Event) (b : Bool) → P xs → P ys → P (cond b ys xs)
longer_by P xs ys true p q = q
longer_by P xs ys false p q = p

pub all_append : (P : List Event → Type 0) (ls ms : List (List Event)) → AllByRecursion P ls → AllByRecursion P ms → AllByRecursion P (ls ++ ms)
all_append P [] ms p q = q
all_append P (l ∷ ls) ms p q = (p.0, all_append P ls ms p.1 q)

module _ {S : Type 0} (Keeps : Start → S → Type 0) (events_of : S → List Event) (start : Start) where
  abbrev Rule : State S View → Type 0
  Rule = Turned Keeps events_of start

  not_holder : (s : State S View) (t : Rule s) (id : ℕ) (v : View) → get_elem? s.views id ≡ some v → 0 < v.seats → v.holds ≡ false → (i : ℕ) → t.holder ≡ some i → i ≢ id
  not_holder s t id v at alive idle i e same = true≢false (sym (eq-eqb i id same) ∙ ap (λ (h : Option ℕ). is_here h id) (sym e) ∙ sym (t.each id v at alive).holds_is ∙ idle)

  pub splits_off : (id : ℕ) (v : View) → 0 < v.seats → 0 < v.last → v.last < v.start.workers → Splits Rule id v (dealer v) (dealt v)
  splits_off id v alive first below s t at =
      let f = t.each id v at alive in
      let place = f.last_is first in
      let l : List View = set s.views id (dealer v) in
      let long : length l ≡ length s.views = length-set s.views id (dealer v) in
      let seat_at = at_length s.views id v at in
      let next : v.last + 1 ≡ suc t.last = (let e = place.1 in omega arith) in
      let low : (j : ℕ) (u : View) → get_elem? l j ≡ some u → 0 < u.seats → u.worker ≤ t.last = λ j u e live. ⊎_elim (λ x. subst (λ (n : ℕ). n ≤ t.last) (ap (λ (z : View). z.worker) x.1) f.within) (λ x. (t.each j u x.1 live).within) (at_set s.views id j (dealer v) u e) in
      let back : (j : ℕ) (u : View) → get_elem? l j ≡ some u → 0 < u.seats → (z : View) × (get_elem? s.views j ≡ some z) × (0 < z.seats) × (z.worker ≡ u.worker) = λ j u e live. ⊎_elim (λ x. (v, ap (λ (k : ℕ). get_elem? s.views k) x.0 ∙ at, alive, ap (λ (z : View). z.worker) x.1)) (λ x. (u, x.1, live, refl)) (at_set s.views id j (dealer v) u e) in
      record {
        whole = t.whole;
        last = suc t.last;
        holder = t.holder;
        placed = t.placed;
        holder_lives = λ i e. let h = t.holder_lives i e in dite (ℕ_discrete i id)
            (λ same. (dealer v, at_longer l (dealt v ∷ []) i (dealer v) (ap (λ (k : ℕ). get_elem? l k) same ∙ set_here s.views id (dealer v) seat_at), alive))
            (λ ne. (h.0, at_longer l (dealt v ∷ []) i h.0 (set_else s.views id i (dealer v) ne ∙ h.1), h.2));
        each = λ j u e live. ⊎_elim
            (λ y. ⊎_elim
            (λ x. subst (λ (z : ℕ × View). Fits start t.whole (suc t.last) t.holder z.0 z.1) (λ k. (sym x.0 k, x.1 k))
            record { start_is = f.start_is; seen_is = f.seen_is; olds_are = f.olds_are; own_is = f.own_is; positive = f.positive; within = (let w = f.within in omega arith); last_is = λ _. (place.0, next); holds_is = f.holds_is; saw_all = f.saw_all })
            (λ x. let g = t.each j u x.1 live in record {
              start_is = g.start_is;
              seen_is = g.seen_is;
              olds_are = g.olds_are;
              own_is = g.own_is;
              positive = g.positive;
              within = (let w = g.within in omega arith);
              last_is = λ some-last. absurd (x.0 ((g.last_is some-last).0 ∙ sym place.0));
              holds_is = g.holds_is;
              saw_all = g.saw_all;
            })
            (at_set s.views id j (dealer v) u y))
            (λ y. subst (λ (z : ℕ × View). Fits start t.whole (suc t.last) t.holder z.0 z.1) (λ k. (sym y.0 k, y.1 k))
            record {
              start_is = f.start_is;
              seen_is = subst (λ (st : Start). IsPrefix st.events t.whole) (sym f.start_is) (adds_begins t.last start.events t.whole t.grown);
              olds_are = tt;
              own_is = (λ k. own (next k) (f.start_is k).events) ∙ sym (own_first t.last start.events t.whole t.grown) ∙ ap (λ (n : ℕ). own n t.whole) (sym next);
              positive = omega arith;
              within = omega arith;
              last_is = λ none-last. absurd (omega arith);
              holds_is = off t.holder (length l) (λ i e. let h = t.holder_lives i e in let a = at_length s.views i h.0 h.1 in omega arith);
              saw_all = λ yes. absurd (true≢false (sym yes));
            })
            (at_end l (dealt v) u j e);
        apart = λ i j a b ea eb la lb same. ⊎_elim
            (λ x. ⊎_elim
            (λ y. let p = back i a x la in let q = back j b y lb in t.apart i j p.0 q.0 p.1 q.1 p.2 q.2 (p.3 ∙ same ∙ sym q.3))
            (λ y. let high = low i a x la in let is = ap (λ (z : View). z.worker) y.1 in absurd (omega arith))
            (at_end l (dealt v) b j eb))
            (λ x. ⊎_elim
            (λ y. let high = low j b y lb in let is = ap (λ (z : View). z.worker) x.1 in absurd (omega arith))
            (λ y. x.0 ∙ sym y.0)
            (at_end l (dealt v) b j eb))
            (at_end l (dealt v) a i ea);
        counted = let c = seats_set s.views id v (dealer v) at in let d = seats_end l (dealt v) in let k = t.counted in omega arith;
        room = let w = ap (λ (st : Start). st.workers) f.start_is in omega arith;
        named = t.named;
        grown = adds_upto t.last (suc t.last) start.events t.whole (omega arith) t.grown;
      }

  pub joins_in : (id other : ℕ) (v w : View) → 0 < v.seats → 0 < w.seats → v.holds ≡ false → w.holds ≡ false → w.last ≡ 0 → Joins Rule id v other w (both v w) spent
  joins_in id other v w alive live idle rests later s t at ne there =
      let f = t.each id v at alive in
      let here : get_elem? s.views other ≡ some w = ⊎_elim (λ x. absurd (ne x.0)) (λ x. x.1) (at_set s.views id other (both v w) w there) in
      let g = t.each other w here live in
      let one : List View = set s.views id (both v w) in
      let back : (j : ℕ) (u : View) → get_elem? (set one other spent) j ≡ some u → 0 < u.seats → ((j ≡ id) × (both v w ≡ u)) ⊎ ((j ≢ id) × (get_elem? s.views j ≡ some u)) =
      λ j u e some-seat. ⊎_elim (λ x. absurd (let n = ap (λ (z : View). z.seats) x.1 in omega arith)) (λ x. at_set s.views id j (both v w) u x.1) (at_set one other j spent u e) in
      let from : (j : ℕ) (u : View) → get_elem? (set one other spent) j ≡ some u → 0 < u.seats → (z : View) × (get_elem? s.views j ≡ some z) × (0 < z.seats) × (z.worker ≡ u.worker) =
      λ j u e some-seat. ⊎_elim (λ x. (v, ap (λ (k : ℕ). get_elem? s.views k) x.0 ∙ at, alive, ap (λ (z : View). z.worker) x.1)) (λ x. (u, x.1, some-seat, refl)) (back j u e some-seat) in
      record {
        whole = t.whole;
        last = t.last;
        holder = t.holder;
        placed = t.placed;
        holder_lives = λ i e. let h = t.holder_lives i e in
            (h.0, set_else one other i spent (not_holder s t other w here live rests i e) ∙ set_else s.views id i (both v w) (not_holder s t id v at alive idle i e) ∙ h.1, h.2);
        each = λ j u e some-seat. ⊎_elim
            (λ x. subst (λ (z : ℕ × View). Fits start t.whole t.last t.holder z.0 z.1) (λ k. (sym x.0 k, x.1 k))
            record {
              start_is = f.start_is;
              seen_is = longer_by (λ (l : List Event). IsPrefix l t.whole) v.seen w.seen (nat_le (length v.seen) (length w.seen)) f.seen_is g.seen_is;
              olds_are = (f.seen_is, (g.seen_is, all_append (λ (l : List Event). IsPrefix l t.whole) v.olds w.olds f.olds_are g.olds_are));
              own_is = f.own_is;
              positive = f.positive;
              within = f.within;
              last_is = f.last_is;
              holds_is = f.holds_is;
              saw_all = λ yes. absurd (true≢false (sym yes ∙ idle));
            })
            (λ x. t.each j u x.1 some-seat)
            (back j u e some-seat);
        apart = λ i j a b ea eb la lb same. let p = from i a ea la in let q = from j b eb lb in t.apart i j p.0 q.0 p.1 q.1 p.2 q.2 (p.3 ∙ same ∙ sym q.3);
        counted = let c = seats_set s.views id v (both v w) at in let d = seats_set one other w spent there in let k = t.counted in omega arith;
        room = t.room;
        named = t.named;
        grown = t.grown;
      }

  pub ends : (id : ℕ) (v : View) (ws : List ℕ) (xs : List S) → 0 < v.last → v.seats ≡ v.last → v.holds ≡ false → Final (Seen Rule id v) ws xs
      → (k : S) × (get_elem? xs 0 ≡ some k) × Keeps start k × IsPrefix v.seen (events_of k) × AllByRecursion (λ (old : List Event). IsPrefix old (events_of k)) v.olds × (v.own ≡ own v.worker (events_of k)) × AreOf start.workers (events_of k) × IsPrefix start.events (events_of k)
  ends id v ws xs first every idle (s, both-facts, words, long, homes) = ends_at s both-facts.0 both-facts.1 homes both-facts.0.holder both-facts.0.placed refl where
    ends_at : (s : State S View) (t : Rule s) → get_elem? s.views id ≡ some v → ((k : ℕ) (y : S) → get_elem? s.homes k ≡ some (some y) → get_elem? xs k ≡ some y) → (h : Option ℕ) → Placed Keeps events_of start t.whole s.words s.homes h → t.holder ≡ h
        → (k : S) × (get_elem? xs 0 ≡ some k) × Keeps start k × IsPrefix v.seen (events_of k) × AllByRecursion (λ (old : List Event). IsPrefix old (events_of k)) v.olds × (v.own ≡ own v.worker (events_of k)) × AreOf start.workers (events_of k) × IsPrefix start.events (events_of k)
    ends_at s t at homes none p e =
        let f = t.each id v at (omega arith) in
        let is : t.whole ≡ events_of p.1 = sym p.4 in (
          p.1,
          homes 0 p.1 (ap (λ (hs : List (Option S)). get_elem? hs 0) p.2),
          p.3,
          subst (IsPrefix v.seen) is f.seen_is,
          subst (λ (l : List Event). AllByRecursion (λ (old : List Event). IsPrefix old l) v.olds) is f.olds_are,
          f.own_is ∙ ap (own v.worker) is,
          subst (AreOf start.workers) is t.named,
          subst (IsPrefix start.events) is (adds_begins t.last start.events t.whole t.grown),
        )
    ends_at s t at homes (some i) p e =
        let h = t.holder_lives i e in
        let sum = seats_two s.views id i v h.0 (not_holder s t id v at (omega arith) idle i e) at h.1 in
        let f = t.each id v at (omega arith) in let last = (f.last_is first).1 in let all = t.counted in let some-seat = h.2 in
        absurd (omega arith)

  pub opens : (k : S) (len : ℕ) → 1 ≤ start.workers → len ≡ length start.events → events_of k ≡ start.events → AreOf start.workers start.events → Keeps start k
      → Rule (Rattle.atomic_table.specs.Table.opening (0 ∷ len ∷ []) (k ∷ []) (Rattle.turn_floor.specs.Turn.first_view start))
  opens k len some-worker long has named is = record {
    whole = start.events;
    last = 1;
    holder = none;
    placed = (ap (λ (n : ℕ). 0 ∷ n ∷ []) long, k, refl, is, has);
    holder_lives = λ i e. absurd (some-ne-none i (sym e));
    each = λ id v e live. only id v e;
    apart = λ i j v w ei ej lv lw same. first_only i v ei ∙ sym (first_only j w ej);
    counted = refl;
    room = some-worker;
    named = named;
    grown = adds_nothing 1 start.events;
  } where
    first_only : (i : ℕ) (v : View) → get_elem? (Rattle.turn_floor.specs.Turn.first_view start ∷ []) i ≡ some v → i ≡ 0
    first_only zero v e = refl
    first_only (suc i) v e = absurd (some-ne-none v (sym e))

    only : (id : ℕ) (v : View) → get_elem? (Rattle.turn_floor.specs.Turn.first_view start ∷ []) id ≡ some v → Fits start start.events 1 none id v
    only zero v e = subst (Fits start start.events 1 none 0) (some-injective _ v e)
        record {
          start_is = refl;
          seen_is = prefix_self start.events;
          olds_are = tt;
          own_is = refl;
          positive = omega arith;
          within = omega arith;
          last_is = λ _. (refl, refl);
          holds_is = refl;
          saw_all = λ yes. absurd (true≢false (sym yes));
        }
    only (suc id) v e = absurd (some-ne-none v (sym e))

  pub opens_with : (slots ks : List S) (k : S) (len : ℕ) → ks ≡ slots ++ k ∷ [] → slots ≡ [] → 1 ≤ start.workers → len ≡ length start.events → events_of k ≡ start.events → AreOf start.workers start.events → Keeps start k
      → Rule (Rattle.atomic_table.specs.Table.opening (0 ∷ len ∷ []) ks (Rattle.turn_floor.specs.Turn.first_view start))
  opens_with slots ks k len e empty some-worker long has named is = subst (λ (l : List S). Rule (Rattle.atomic_table.specs.Table.opening (0 ∷ len ∷ []) l (Rattle.turn_floor.specs.Turn.first_view start))) (sym (e ∙ ap (λ (l : List S). l ++ k ∷ []) empty)) (opens k len some-worker long has named is)
