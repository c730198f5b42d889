-- The steps of the turn keep the rule.
use Rattle.std.proofs.Common.{◌≡◌, ℕ, zero, suc, ◌+◌, ◌<◌, ◌≤◌, ◌≢◌, eqb, eqb-true, Bool, true, false, true≢false, List, [], ◌∷◌, ◌++◌, length, get_or, set, sym, refl, ap, ◌∙◌, subst, inl, inr, ⊎_elim, arith, eq-eqb, ne_eqb}
use Rattle.std.specs.List.{AllByRecursion}
use mathlib.Core.Option.{Option, none, some, some-injective, some-ne-none}
use mathlib.Core.List.{IsPrefix}
use lib.ListN.{get_elem?}
use prog.Atomic.{either}
use Rattle.atomic_table.specs.Table.{State, Me, Act, keeps, takes, gives, step, Valid, stepped, carried_after, Allows}
use Rattle.atomic_table.proofs.Lists.{at_set, set_here, set_else, set_again, exchanged}
use Rattle.turn_floor.specs.Start.{Start}
use Rattle.stab_journal.specs.declared.event.Event.{Event}
use Rattle.turn_floor.specs.declared.view.View.{View}
use Rattle.stab_journal.specs.Own.{own}
use Rattle.turn_floor.specs.Served.{AddsOf, AreOf, Adds}
use Rattle.turn_floor.specs.Turn.{total_seats, is_here, Fits, Placed, Turned}
use Rattle.turn_floor.specs.Plays.{holding, showing, giving, taken, shown, given}
use Rattle.turn_floor.proofs.Histories.{prefix_self, prefix_more, olds_more, own_same, named_more, adds_more}

pub at_length : {A : Type 0} (l : List A) (i : ℕ) (a : A) → get_elem? l i ≡ some a → i < length l
at_length [] i a e = absurd (some-ne-none a (sym e))
at_length (x ∷ xs) zero a e = omega arith
at_length (x ∷ xs) (suc i) a e = omega (arith, at_length xs i a e)

pub seats_set : (l : List View) (j : ℕ) (v w : View) → get_elem? l j ≡ some v → total_seats (set l j w) + v.seats ≡ total_seats l + w.seats
seats_set [] j v w e = absurd (some-ne-none v (sym e))
seats_set (x ∷ xs) zero v w e = omega (arith, ap (λ (u : View). u.seats) (some-injective x v e))
seats_set (x ∷ xs) (suc j) v w e = omega (arith, seats_set xs j v w e)

pub holder_is : (h : Option ℕ) (id : ℕ) → is_here h id ≡ true → h ≡ some id
holder_is none id e = absurd (true≢false (sym e))
holder_is (some i) id e = ap some (eqb-true i id e)

not_here : (i j : ℕ) → j ≢ i → false ≡ is_here (some i) j
not_here i j ne = sym (ne_eqb i j (λ e. ne (sym e)))

is_here_self : (i : ℕ) → true ≡ is_here (some i) i
is_here_self i = sym (eq-eqb i i refl)

module _ {S : Type 0} (Keeps : Start → S → Type 0) (events_of : S → List Event) (start : Start) where
  abbrev St : Type 0
  St = State S View

  abbrev Rule : St → Type 0
  Rule = Turned Keeps events_of start

  abbrev Stands : List Event → List ℕ → List (Option S) → Option ℕ → Type 0
  Stands = Placed Keeps events_of start

  free : (whole : List Event) (words : List ℕ) (homes : List (Option S)) (h : Option ℕ) → Stands whole words homes h → get_or words 0 0 ≡ 0 → (h ≡ none) × Stands whole words homes none
  free whole words homes none p e = (refl, p)
  free whole words homes (some i) p e = let is : get_or words 0 0 ≡ 1 = ap (λ (ws : List ℕ). get_or ws 0 0) p.0 in absurd (omega arith)

  -- the seat id goes from v to w
  moved : (s : St) (t : Rule s) (id : ℕ) (v w : View) (words : List ℕ) (homes : List (Option S)) (whole : List Event) (holder : Option ℕ)
      → get_elem? s.views id ≡ some v → 0 < v.seats → w.worker ≡ v.worker → w.seats ≡ v.seats
      → Stands whole words homes holder
      → ((i : ℕ) → holder ≡ some i → i ≡ id)
      → Fits start whole t.last holder id w
      → ((j : ℕ) (u : View) → j ≢ id → get_elem? s.views j ≡ some u → 0 < u.seats → Fits start t.whole t.last t.holder j u → Fits start whole t.last holder j u)
      → AreOf start.workers whole
      → AddsOf t.last start.events whole
      → Rule record { words = words; homes = homes; views = set s.views id w }
  moved s t id v w words homes whole holder at alive number many stands lives fits others named grown = record {
    whole = whole;
    last = t.last;
    holder = holder;
    placed = stands;
    holder_lives = λ i e. (w, ap (λ (k : ℕ). get_elem? (set s.views id w) k) (lives i e) ∙ here, omega arith);
    each = λ j u e live. ⊎_elim (λ x. subst (λ (z : ℕ × View). Fits start whole t.last holder z.0 z.1) (λ k. (sym x.0 k, x.1 k)) fits) (λ x. others j u x.0 x.1 live (t.each j u x.1 live)) (at_set s.views id j w u e);
    apart = λ i j a b ea eb la lb same.
        ⊎_elim
        (λ x. ⊎_elim (λ y. x.0 ∙ sym y.0) (λ y. x.0 ∙ t.apart id j v b at y.1 alive lb (sym number ∙ ap (λ (u : View). u.worker) x.1 ∙ same)) (at_set s.views id j w b eb))
        (λ x. ⊎_elim (λ y. t.apart i id a v x.1 at la alive (same ∙ sym (ap (λ (u : View). u.worker) y.1) ∙ number) ∙ sym y.0) (λ y. t.apart i j a b x.1 y.1 la lb same) (at_set s.views id j w b eb))
        (at_set s.views id i w a ea);
    counted = let c = seats_set s.views id v w at in let k = t.counted in omega arith;
    room = t.room;
    named = named;
    grown = grown;
  } where
    here : get_elem? (set s.views id w) id ≡ some w
    here = set_here s.views id w (at_length s.views id v at)

  pub takes_turn : (slots id : ℕ) (v : View) (c : List (ℕ × S)) → 0 < v.seats
      → Allows Rule slots id (v, c) 0 (λ n. either (eqb n 0) 1 n) (taken Keeps events_of (step slots 0 0 1 none) (v, c))
  takes_turn slots id v c alive s t wide at small =
      let f = t.each id v at alive in
      exchanged (get_or s.words 0 0) 0 1 (λ k. (w : View) × (a : Act S) × Valid s.homes c a × Rule (stepped s 0 k id c w a) × taken Keeps events_of (step slots 0 0 1 none) (v, c) (get_or s.words 0 0) (w, carried_after c a))
      (λ hit.
      let p = free t.whole s.words s.homes t.holder t.placed hit in
      let none-holds = p.0 in
      let at-home = p.1 in
      let k = at-home.1 in
      let w = holding v (events_of k) in
      let whole-is : events_of k ≡ t.whole = at-home.4 in (
        w,
        Act.takes 0 k,
        ap (λ (hs : List (Option S)). get_elem? hs 0) at-home.2,
        moved s t id v w (set s.words 0 1) (set s.homes 0 none) t.whole (some id) at alive refl refl
            (ap (λ (ws : List ℕ). set ws 0 1) at-home.0, ap (λ (hs : List (Option S)). set hs 0 none) at-home.2)
            (λ i e. sym (some-injective id i e))
            record { start_is = f.start_is; seen_is = subst (λ (l : List Event). IsPrefix l t.whole) (sym whole-is) (prefix_self t.whole); olds_are = f.olds_are; own_is = f.own_is; positive = f.positive; within = f.within; last_is = f.last_is; holds_is = is_here_self id; saw_all = λ _. whole-is }
            (λ j u ne e live g. record {
              start_is = g.start_is;
              seen_is = g.seen_is;
              olds_are = g.olds_are;
              own_is = g.own_is;
              positive = g.positive;
              within = g.within;
              last_is = g.last_is;
              holds_is = g.holds_is ∙ ap (λ (h : Option ℕ). is_here h j) none-holds ∙ not_here id j ne;
              saw_all = λ holds. absurd (true≢false (sym holds ∙ g.holds_is ∙ ap (λ (h : Option ℕ). is_here h j) none-holds));
            })
            t.named
            t.grown,
        (
          (λ _. (
            k,
            refl,
            record {
              keeps = subst (λ (st : Start). Keeps st k) (sym f.start_is) at-home.3;
              seen_is = subst (IsPrefix v.seen) (sym whole-is) f.seen_is;
              own_is = f.own_is ∙ ap (own v.worker) (sym whole-is);
              named = subst (AreOf v.start.workers) (sym whole-is) (subst (λ (st : Start). AreOf st.workers t.whole) (sym f.start_is) t.named);
            },
          )),
          λ miss. absurd (miss hit),
        ),
      ))
      (λ miss. (
        v,
        Act.keeps,
        tt,
        subst (λ (vs : List View). Rule record { words = set s.words 0 (get_or s.words 0 0); homes = s.homes; views = vs }) (sym (set_again s.views id v at))
            (subst (λ (ws : List ℕ). Rule record { words = ws; homes = s.homes; views = s.views }) (sym (lib.Seq.set-get_or s.words 0 0)) t),
        ((λ hit. absurd (miss hit)), λ _. refl),
      ))

  out : (s : St) (t : Rule s) (id : ℕ) (v : View) → get_elem? s.views id ≡ some v → 0 < v.seats → v.holds ≡ true → (t.holder ≡ some id) × Stands t.whole s.words s.homes (some id)
  out s t id v at alive holds = let h = holder_is t.holder id (sym (t.each id v at alive).holds_is ∙ holds) in (h, subst (Stands t.whole s.words s.homes) h t.placed)

  pub shows_front : (slots id : ℕ) (v : View) (k : S) (new : ℕ) → 0 < v.seats → v.holds ≡ true → new ≡ length (events_of k) → Adds v.worker v.seen (events_of k)
      → Allows Rule slots id (v, (0, k) ∷ []) 1 (λ _. new) (λ _. shown Keeps events_of (step slots 1 new 0 none) (v, (0, k) ∷ []) new)
  shows_front slots id v k new alive holds is adds s t wide at small =
      let f = t.each id v at alive in
      let o = out s t id v at alive holds in
      let after = events_of k in
      let saw = f.saw_all holds in
      let more : Adds v.worker t.whole after = subst (λ (l : List Event). Adds v.worker l after) saw adds in
      let w = showing v after in (
        w,
        Act.keeps,
        tt,
        moved s t id v w (set s.words 1 new) s.homes after (some id) at alive refl refl
            (ap (λ (ws : List ℕ). set ws 1 new) o.1.0 ∙ ap (λ (n : ℕ). 1 ∷ n ∷ []) is, o.1.1)
            (λ i e. sym (some-injective id i e))
            record { start_is = f.start_is; seen_is = prefix_self after; olds_are = olds_more t.whole more.0 after more.1 v.olds f.olds_are; own_is = refl; positive = f.positive; within = f.within; last_is = f.last_is; holds_is = is_here_self id; saw_all = λ _. refl }
            (λ j u ne e live g.
            let away : u.worker ≢ v.worker = λ same. ne (t.apart j id u v e at live alive same) in
            record {
              start_is = g.start_is;
              seen_is = prefix_more u.seen t.whole more.0 after g.seen_is more.1;
              olds_are = olds_more t.whole more.0 after more.1 u.olds g.olds_are;
              own_is = g.own_is ∙ sym (own_same u.worker v.worker t.whole after away more);
              positive = g.positive;
              within = g.within;
              last_is = g.last_is;
              holds_is = g.holds_is ∙ ap (λ (h : Option ℕ). is_here h j) o.0;
              saw_all = λ yes. absurd (true≢false (sym yes ∙ g.holds_is ∙ ap (λ (h : Option ℕ). is_here h j) o.0 ∙ sym (not_here id j ne)));
            })
            (subst (AreOf start.workers) (sym more.1) (named_more v.worker start.workers t.whole more.0 f.positive (let w = f.within in let r = t.room in omega arith) more.2 t.named))
            (adds_more v.worker t.last start.events t.whole after f.positive f.within t.grown more),
        (λ k' e. ap (λ (c : List (ℕ × S)). (showing v (events_of (get_or c 0 (0, k)).1), (0, k) ∷ [])) e),
      )

  pub gives_turn : (slots id : ℕ) (v : View) (k : S) → 0 < v.seats → v.holds ≡ true → Keeps v.start k → events_of k ≡ v.seen
      → Allows Rule slots id (v, (0, k) ∷ []) 0 (λ _. 0) (λ _. given (step slots 0 0 0 none) (v, (0, k) ∷ []) 0)
  gives_turn slots id v k alive holds start-is events-are s t wide at small =
      let f = t.each id v at alive in
      let o = out s t id v at alive holds in
      let w = giving v in (
        w,
        Act.gives,
        tt,
        moved s t id v w (set s.words 0 0) (set s.homes 0 (some k)) t.whole none at alive refl refl
            (ap (λ (ws : List ℕ). set ws 0 0) o.1.0, k, ap (λ (hs : List (Option S)). set hs 0 (some k)) o.1.1, subst (λ (st : Start). Keeps st k) f.start_is start-is, events-are ∙ f.saw_all holds)
            (λ i e. absurd (some-ne-none i (sym e)))
            record { start_is = f.start_is; seen_is = f.seen_is; olds_are = f.olds_are; own_is = f.own_is; positive = f.positive; within = f.within; last_is = f.last_is; holds_is = refl; saw_all = λ yes. absurd (true≢false (sym yes)) }
            (λ j u ne e live g. let off : u.holds ≡ false = g.holds_is ∙ ap (λ (h : Option ℕ). is_here h j) o.0 ∙ sym (not_here id j ne) in
            record {
              start_is = g.start_is;
              seen_is = g.seen_is;
              olds_are = g.olds_are;
              own_is = g.own_is;
              positive = g.positive;
              within = g.within;
              last_is = g.last_is;
              holds_is = off;
              saw_all = λ yes. absurd (true≢false (sym yes ∙ off));
            })
            t.named
            t.grown,
        refl,
      )

  pub shows_front_of : (slots id : ℕ) (m : Me S View) (k : S) (new : ℕ) → m.1 ≡ (0, k) ∷ [] → 0 < m.0.seats → m.0.holds ≡ true → new ≡ length (events_of k) → Adds m.0.worker m.0.seen (events_of k)
      → Allows Rule slots id m 1 (λ _. new) (λ _. shown Keeps events_of (step slots 1 new 0 none) m new)
  shows_front_of slots id m k new e alive holds is adds =
      subst (λ (c : List (ℕ × S)). Allows Rule slots id (m.0, c) 1 (λ _. new) (λ _. shown Keeps events_of (step slots 1 new 0 none) (m.0, c) new)) (sym e) (shows_front slots id m.0 k new alive holds is adds)

  pub gives_turn_of : (slots id : ℕ) (m : Me S View) (v : View) (k : S) → m ≡ (v, (0, k) ∷ []) → 0 < v.seats → v.holds ≡ true → Keeps v.start k → events_of k ≡ v.seen
      → Allows Rule slots id m 0 (λ _. 0) (λ _. given (step slots 0 0 0 none) m 0)
  gives_turn_of slots id m v k e alive holds start-is events-are =
      subst (λ (n : Me S View). Allows Rule slots id n 0 (λ _. 0) (λ _. given (step slots 0 0 0 none) n 0)) (sym e) (gives_turn slots id v k alive holds start-is events-are)
