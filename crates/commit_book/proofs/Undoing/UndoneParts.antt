-- What stays of a run when some of its steps go: its writes, where its actors stood and its last cut, by the pass of the law of surviving runs.
use Rattle.std.proofs.Common.{◌≡◌, ℕ, suc, ◌<◌, ◌≤◌, Bool, true, false, cond, not, ◌&&◌, ◌||◌, nat_eq, List, [], ◌∷◌, ◌++◌, Option, Some, None, refl, sym, ap, subst, ◌∙◌, arith}
use Rattle.std.specs.Prelude.{filter, nat_lt}
use Rattle.std.specs.Ordering.{nat_cmp}
use Rattle.std.specs.FinMap as map
use Rattle.std.specs.FinMap.{FinMap}
use Rattle.std.proofs.lemmas.Bool.{eqb-true}
use Rattle.std.proofs.lemmas.List.Elements.{filter-append}
use Rattle.stab_base.specs.Datum.{Datum}
use Rattle.stab_journal.specs.declared.event.Label.{Label}
use Rattle.stab_journal.specs.declared.event.Numbered.{Numbered}
use Rattle.stab_journal.specs.Floor.{is_cut, floor_from}
use Rattle.stab_journal.specs.Journal.{RiseFrom}
use Rattle.stab_journal.specs.Label.{actors, written}
use Rattle.stab_journal.specs.Names.{has, is_at}
use Rattle.stab_journal.specs.Reached.{Lost, depends, rest}
use Rattle.ref_log.specs.Log.{Write, has_below, kept}
use Rattle.language.specs.Steps.{State, Table, plain, apply, next, put_value}
use Rattle.journal_laws.specs.Surviving.{thread_of, value_of}
use Rattle.journal_laws.proofs.Without.{IsWithout}
use Rattle.journal_laws.proofs.Applying.{or_false, put_value-here}
use Rattle.journal_laws.proofs.Stepping.{both}
use Rattle.journal_laws.proofs.Beside.{acts_free, Beside, ends, goes, stays}
use Rattle.commit_book.specs.Run.{saves, write_of, writes_in, stood_at}
use Rattle.commit_book.proofs.Keeping.Floors.{not_less}

apart_numbers : (gone : ℕ → Bool) (q k : ℕ) → gone q ≡ false → gone k ≡ true → nat_eq q k ≡ false
apart_numbers gone q k kept lost =
    elim (nat_eq q k) as (λ b. nat_eq q k ≡ b → b ≡ false) [
      | true ↦ λ is. absurd (both (gone k) lost (ap gone (sym (eqb-true q k is)) ∙ kept))
      | false ↦ λ is. refl
    ] refl

rest_goes : (gone : ℕ → Bool) (n : Numbered) (ns : List Numbered) → gone n.seq.0 ≡ true → rest gone (n ∷ ns) ≡ rest gone ns
rest_goes gone n ns is = ap (λ b. cond b (rest gone ns) (n ∷ rest gone ns)) is

rest_stays : (gone : ℕ → Bool) (n : Numbered) (ns : List Numbered) → gone n.seq.0 ≡ false → rest gone (n ∷ ns) ≡ n ∷ rest gone ns
rest_stays gone n ns is = ap (λ b. cond b (rest gone ns) (n ∷ rest gone ns)) is

abbrev no_write : List Write
no_write = []

module _ (gone : ℕ → Bool) where
  abbrev pub left : List Write → List Write
  left ws = filter (λ w. not (gone w.number)) ws

  left_append : (xs ys : List Write) → left (xs ++ ys) ≡ left xs ++ left ys
  left_append xs ys = filter-append (λ (w : Write). not (gone w.number)) xs ys

  abbrev wrote : ℕ → Datum → List Write
  wrote q v = record { number = q; value = v } ∷ []

  one_left : (q : ℕ) (b : Bool) (v : Option Datum) → left (cond b (write_of q v) []) ≡ cond (gone q) [] (cond b (write_of q v) [])
  one_left q true None = elim (gone q) as (λ b. no_write ≡ cond b no_write no_write) [ true ↦ refl | false ↦ refl ]
  one_left q true (Some v) = elim (gone q) as (λ b. cond (not b) (wrote q v) no_write ≡ cond b no_write (wrote q v)) [ true ↦ refl | false ↦ refl ]
  one_left q false v = elim (gone q) as (λ b. no_write ≡ cond b no_write no_write) [ true ↦ refl | false ↦ refl ]

  module _ (f : ℕ) (above : (k : ℕ) → gone k ≡ true → f < k) where
    not_below : (k : ℕ) → gone k ≡ true → nat_lt k f ≡ false
    not_below k lost = let h : f < k = above k lost in not_less k f (omega arith)

    below_left : (ws : List Write) → has_below f (left ws) ≡ has_below f ws
    below_left [] = refl
    below_left (w ∷ ws) = elim (gone w.number) as (λ b. gone w.number ≡ b → has_below f (cond (not b) (w ∷ left ws) (left ws)) ≡ (nat_lt w.number f || has_below f ws)) [
      | true ↦ λ is. below_left ws ∙ ap (λ b. b || has_below f ws) (sym (not_below w.number is))
      | false ↦ λ is. ap (λ b. nat_lt w.number f || b) (below_left ws)
    ] refl

    kept_all : (ws : List Write) → has_below f ws ≡ false → kept f ws ≡ ws
    kept_all [] h = refl
    kept_all (w ∷ ws) h = ap (λ b. cond b (kept f ws) (w ∷ ws)) (or_false (nat_lt w.number f) (has_below f ws) h).1

    -- what goes is above the cut, so it doesn't matter which comes first
    pub left_kept : (ws : List Write) → left (kept f ws) ≡ kept f (left ws)
    left_kept [] = refl
    left_kept (w ∷ ws) = elim (has_below f ws) as (λ c. has_below f ws ≡ c → left (cond c (kept f ws) (w ∷ ws)) ≡ kept f (left (w ∷ ws))) [
      | true ↦ λ some. left_kept ws ∙ (elim (gone w.number) as (λ b. kept f (left ws) ≡ kept f (cond (not b) (w ∷ left ws) (left ws))) [ true ↦ refl | false ↦ ap (λ c. cond c (kept f (left ws)) (w ∷ left ws)) (sym (below_left ws ∙ some)) ])
      | false ↦ λ none. elim (gone w.number) as (λ b. cond (not b) (w ∷ left ws) (left ws) ≡ kept f (cond (not b) (w ∷ left ws) (left ws))) [ true ↦ sym (kept_all (left ws) (below_left ws ∙ none)) | false ↦ ap (λ c. cond c (kept f (left ws)) (w ∷ left ws)) (sym (below_left ws ∙ none)) ]
    ] refl

module _ {E : Type 0} (effect : Table E) (gone : ℕ → Bool) where
  -- nothing is saved for a step that goes
  pub stood_lost : (q t : ℕ) (ns : List Numbered) (o : Option (State E)) → gone q ≡ true → stood_at effect q t o (rest gone ns) ≡ None
  stood_lost q t [] o lost = refl
  stood_lost q t (n ∷ ns) o lost =
      elim (gone n.seq.0) as (λ b. gone n.seq.0 ≡ b → stood_at effect q t o (cond b (rest gone ns) (n ∷ rest gone ns)) ≡ None) [
        | true ↦ λ is. stood_lost q t ns o lost
        | false ↦ λ is. ap (λ b. cond b (cond (saves n.label && has (actors n.label) t) (thread_of o t) None) (stood_at effect q t (next effect o n) (rest gone ns)))
            (elim (nat_eq q n.seq.0) as (λ b. nat_eq q n.seq.0 ≡ b → b ≡ false) [ true ↦ λ at. absurd (both (gone q) lost (ap gone (eqb-true q n.seq.0 at) ∙ is)) | false ↦ λ at. refl ] refl)
            ∙ stood_lost q t ns (next effect o n) lost
      ] refl

  here : (l : Label) (t : ℕ) (x : Lost) (s s' : State E) → IsWithout x s s' → depends l x ≡ false → cond (saves l && has (actors l) t) (map.get s'.threads t) None ≡ cond (saves l && has (actors l) t) (map.get s.threads t) None
  here l t x s s' w free =
      elim (has (actors l) t) as (λ b. has (actors l) t ≡ b → cond (saves l && b) (map.get s'.threads t) None ≡ cond (saves l && b) (map.get s.threads t) None) [
        | true ↦ λ is. ap (λ o. cond (saves l && true) o None) (w.same_threads t (acts_free l x t free is))
        | false ↦ λ is. elim (saves l) as (λ b. cond (b && false) (map.get s'.threads t) None ≡ cond (b && false) (map.get s.threads t) None) [ true ↦ refl | false ↦ refl ]
      ] refl

  -- the actors of a step that stays stood where they now stand before it
  pub stood_rest : (q t : ℕ) → gone q ≡ false → (x : Lost) (s s' : State E) (ns : List Numbered) → Beside effect gone x s s' ns → stood_at effect q t (Some s') (rest gone ns) ≡ stood_at effect q t (Some s) ns
  stood_rest q t kept _ _ _ _ (ends x s s' w) = refl
  stood_rest q t kept _ _ _ _ (goes x s s' m n ns w is step more) =
      ap (stood_at effect q t (Some s')) (rest_goes gone n ns is)
      ∙ stood_rest q t kept _ m s' ns more
      ∙ ap (λ o. stood_at effect q t o ns) (sym step)
      ∙ ap (λ b. cond b (cond (saves n.label && has (actors n.label) t) (map.get s.threads t) None) (stood_at effect q t (plain effect s n.seq.0 n.label) ns)) (sym (apart_numbers gone q n.seq.0 kept is))
  stood_rest q t kept _ _ _ _ (stays x s s' e n ns w is free step step' more) =
      ap (stood_at effect q t (Some s')) (rest_stays gone n ns is)
      ∙ ap (λ o. cond (nat_eq q n.seq.0) (cond (saves n.label && has (actors n.label) t) (map.get s'.threads t) None) (stood_at effect q t o (rest gone ns))) step'
      ∙ ap (λ o. cond (nat_eq q n.seq.0) (cond (saves n.label && has (actors n.label) t) (map.get s'.threads t) None) o) (stood_rest q t kept _ _ _ ns more)
      ∙ ap (λ o. cond (nat_eq q n.seq.0) o (stood_at effect q t (Some (apply s n.label e)) ns)) (here n.label t x s s' w free)
      ∙ ap (λ o. cond (nat_eq q n.seq.0) (cond (saves n.label && has (actors n.label) t) (map.get s.threads t) None) (stood_at effect q t o ns)) (sym step)

  same_write : (q r : ℕ) (w : Option ℕ) (v : Datum) (m k : FinMap nat_cmp Datum) → cond (is_at w r) (write_of q (map.get (put_value w v m) r)) [] ≡ cond (is_at w r) (write_of q (map.get (put_value w v k) r)) []
  same_write q r w v m k =
      elim (is_at w r) as (λ b. is_at w r ≡ b → cond b (write_of q (map.get (put_value w v m) r)) [] ≡ cond b (write_of q (map.get (put_value w v k) r)) []) [
        | true ↦ λ is. ap (write_of q) (put_value-here w v m r is ∙ sym (put_value-here w v k r is))
        | false ↦ λ is. refl
      ] refl

  -- the writes of what stays are those of the run that stay
  pub writes_rest : (r : ℕ) (x : Lost) (s s' : State E) (ns : List Numbered) → Beside effect gone x s s' ns → writes_in effect r (Some s') (rest gone ns) ≡ left gone (writes_in effect r (Some s) ns)
  writes_rest r _ _ _ _ (ends x s s' w) = refl
  writes_rest r _ _ _ _ (goes x s s' m n ns w is step more) =
      let tail = writes_in effect r (plain effect s n.seq.0 n.label) ns in
      let first = cond (is_at (written n.label) r) (write_of n.seq.0 (value_of (plain effect s n.seq.0 n.label) r)) [] in
      ap (writes_in effect r (Some s')) (rest_goes gone n ns is)
      ∙ writes_rest r _ m s' ns more
      ∙ ap (λ o. left gone (writes_in effect r o ns)) (sym step)
      ∙ ap (λ b. cond b [] first ++ left gone tail) (sym is)
      ∙ ap (λ k. k ++ left gone tail) (sym (one_left gone n.seq.0 (is_at (written n.label) r) (value_of (plain effect s n.seq.0 n.label) r)))
      ∙ sym (left_append gone first tail)
  writes_rest r _ _ _ _ (stays x s s' e n ns w is free step step' more) =
      let tail = writes_in effect r (plain effect s n.seq.0 n.label) ns in
      let first = cond (is_at (written n.label) r) (write_of n.seq.0 (value_of (plain effect s n.seq.0 n.label) r)) [] in
      ap (writes_in effect r (Some s')) (rest_stays gone n ns is)
      ∙ ap (λ o. cond (is_at (written n.label) r) (write_of n.seq.0 (value_of o r)) [] ++ writes_in effect r o (rest gone ns)) step'
      ∙ ap (λ k. cond (is_at (written n.label) r) (write_of n.seq.0 (map.get (put_value (written n.label) e.value s'.references) r)) [] ++ k) (writes_rest r _ _ _ ns more)
      ∙ ap (λ k. k ++ left gone (writes_in effect r (Some (apply s n.label e)) ns)) (same_write n.seq.0 r (written n.label) e.value s'.references s.references)
      ∙ ap (λ o. cond (is_at (written n.label) r) (write_of n.seq.0 (value_of o r)) [] ++ left gone (writes_in effect r o ns)) (sym step)
      ∙ ap (λ b. cond b [] first ++ left gone tail) (sym is)
      ∙ ap (λ k. k ++ left gone tail) (sym (one_left gone n.seq.0 (is_at (written n.label) r) (value_of (plain effect s n.seq.0 n.label) r)))
      ∙ sym (left_append gone first tail)

later : (ns : List Numbered) (a b : ℕ) → a ≤ b → RiseFrom b ns → RiseFrom a ns
later [] a b less rise = tt
later (n ∷ ns) a b less rise = (omega (arith, rise.0), rise.1)

-- the last cut isn't below where it is looked for from
low : (ns : List Numbered) (f : ℕ) → RiseFrom (suc f) ns → f ≤ floor_from f ns
low [] f rise = omega arith
low (n ∷ ns) f rise =
    elim (is_cut n.label) as (λ b. f ≤ floor_from (cond b n.seq.0 f) ns) [
      | true ↦ omega (arith, rise.0, low ns n.seq.0 rise.1)
      | false ↦ low ns f (later ns (suc f) (suc n.seq.0) (omega (arith, rise.0)) rise.1)
    ]

-- what goes is above the last cut, so that stays the last one
pub floor_rest : (gone : ℕ → Bool) (ns : List Numbered) (f q : ℕ) → RiseFrom q ns → ((k : ℕ) → gone k ≡ true → floor_from f ns < k) → floor_from f (rest gone ns) ≡ floor_from f ns
floor_rest gone [] f q rise above = refl
floor_rest gone (n ∷ ns) f q rise above =
    elim (gone n.seq.0) as (λ b. gone n.seq.0 ≡ b → floor_from f (cond b (rest gone ns) (n ∷ rest gone ns)) ≡ floor_from (cond (is_cut n.label) n.seq.0 f) ns) [
      | true ↦ λ is. elim (is_cut n.label) as (λ c. is_cut n.label ≡ c → floor_from f (rest gone ns) ≡ floor_from (cond c n.seq.0 f) ns) [
        | true ↦ λ cut.
            let under : floor_from n.seq.0 ns < n.seq.0 = subst (λ (c : Bool). floor_from (cond c n.seq.0 f) ns < n.seq.0) cut (above n.seq.0 is) in
            absurd (omega (arith, under, low ns n.seq.0 rise.1))
        | false ↦ λ cut. floor_rest gone ns f (suc n.seq.0) rise.1 (λ k lost. subst (λ (c : Bool). floor_from (cond c n.seq.0 f) ns < k) cut (above k lost))
      ] refl
      | false ↦ λ is. floor_rest gone ns (cond (is_cut n.label) n.seq.0 f) (suc n.seq.0) rise.1 above
    ] refl
