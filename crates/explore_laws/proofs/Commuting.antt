-- Two steps that are apart can be made in both orders, and lead to one state.
use Rattle.std.proofs.Common.{◌≡◌, ℕ, Bool, true, false, not, ◌&&◌, ◌||◌, List, [], ◌++◌, Option, Some, None, refl, sym, ap, subst, ◌∙◌, append-nil}
use Rattle.std.specs.Prelude.{IsSomeAnd, is_some, option_and_then}
use Rattle.std.specs.List.{list_any}
use Rattle.std.specs.Ordering.{nat_cmp}
use Rattle.std.specs.Cmp.{nat_cmp_total}
use Rattle.std.specs.FinMap as map
use Rattle.std.specs.FinMap.{FinMap, nat_cmp-IsAntisymmetric}
use Rattle.std.specs.FinSet as set
use Rattle.std.specs.FinSet.{FinSet}
use Rattle.std.proofs.lemmas.Bool.{false≢true, eqb-true}
use Rattle.stab_base.specs.Datum.{Datum}
use Rattle.stab_journal.specs.declared.event.Label.{Label}
use Rattle.stab_journal.specs.declared.event.Label.TheVariants.{Local, Spawn, NewChan, Comm, NewRef, Get, Set, Enter, Cut, Print, Probe, Refuse, Pin, Attempt}
use Rattle.stab_journal.specs.Due.{is_print}
use Rattle.stab_journal.specs.Label.{actors, touched, written}
use Rattle.stab_journal.specs.Names.{has, is_at, read, made}
use Rattle.stab_journal.specs.Reached.{reads_of}
use Rattle.language.specs.Steps.{State, Effect, Table, allows, apply, effect_in, exprs_at, held_at, plain, put_threads, put_value, put_channel}
use Rattle.language.specs.Table.{Language, effect}
use Rattle.language.proofs.Applying.{put_threads-apart, put_value-apart, put_channel-is}
use Rattle.language.proofs.Touching.{printed_nothing}
use Rattle.journal_laws.proofs.Applying.{or_false, put_threads-agree, exprs_at-agree, held_at-agree, put_value-agree}
use Rattle.journal_laws.proofs.Stepping.{step_of, plain_of, has_none}
use Rattle.explore_laws.specs.Apart.{is_one, disturbs, are_apart}

-- what the first step leaves to the second
record Leaves (k l : Label) : Type 0 where
  threads : list_any (has (touched k)) (touched l) ≡ false
  reads : is_one (written k) (read l) ≡ false
  writes : is_one (written k) (written l) ≡ false
  makes : is_one (made k) (made l) ≡ false

leaves : (k l : Label) → disturbs k l ≡ false → Leaves k l
leaves k l h =
    let a = or_false (list_any (has (touched k)) (touched l)) _ h in
    let b = or_false (is_one (written k) (read l)) _ a.1 in
    let c = or_false (is_one (written k) (written l)) _ b.1 in
    record { threads = a.0; reads = b.0; writes = c.0; makes = c.1 }

-- what acts is touched
acts_apart : (p : ℕ → Bool) (l : Label) → list_any p (touched l) ≡ false → list_any p (actors l) ≡ false
acts_apart p (Spawn t u) h = ap (λ b. b || false) (or_false (p t.0) _ h).0
acts_apart p (Local t n) h = h
acts_apart p (NewChan t c) h = h
acts_apart p (Comm s r c) h = h
acts_apart p (NewRef t r) h = h
acts_apart p (Get t r) h = h
acts_apart p (Set t r) h = h
acts_apart p (Enter t) h = h
acts_apart p (Cut t) h = h
acts_apart p (Print t) h = h
acts_apart p (Probe t i) h = h
acts_apart p (Refuse t) h = h
acts_apart p (Pin t) h = h
acts_apart p (Attempt t g) h = h

one_reads : (w r : Option ℕ) → is_one w r ≡ false → reads_of r (is_at w) ≡ false
one_reads w None h = refl
one_reads w (Some r) h = h

-- of two numbers that differ only one is at a place
not_both : (v w : Option ℕ) (q : ℕ) → is_one v w ≡ false → is_at w q ≡ true → is_at v q ≡ false
not_both v None q h at = absurd (false≢true at)
not_both v (Some r) q h at = ap (is_at v) (eqb-true q r at) ∙ h

module _ {E : Type 0} (table : Table E) where
  -- the second step has the same effect after the first one
  same_effect : (s : State E) (r : ℕ) (k l : Label) (e : Effect E) → Leaves k l → effect_in table (apply s k e) r l ≡ effect_in table s r l
  same_effect s r k l e x =
      ap (λ o. option_and_then (λ es. table r l es (held_at (apply s k e).references (read l))) o)
      (exprs_at-agree (has (touched k)) (actors l) (apply s k e).threads s.threads (λ t h. put_threads-apart (touched k) e.mine e.other s.threads t h) (acts_apart (has (touched k)) l x.threads))
      ∙ ap (λ v. option_and_then (λ es. table r l es v) (exprs_at s.threads (actors l)))
      (held_at-agree (is_at (written k)) (read l) (apply s k e).references s.references (λ q h. put_value-apart (written k) e.value s.references q h) (one_reads (written k) (read l) x.reads))

  -- and it is allowed
  same_allows : (s : State E) (k l : Label) (e : Effect E) → Leaves k l → allows (apply s k e) l ≡ allows s l
  same_allows s k (Spawn t u) e x =
      ap (λ o. not (is_some o)) (put_threads-apart (touched k) e.mine e.other s.threads u.0 (or_false (has (touched k) u.0) _ (or_false (has (touched k) t.0) _ x.threads).1).0)
  same_allows s k (NewChan t c) e x = ap not (put_channel-is (made k) s.channels c.0 ∙ ap (λ b. b || set.contains s.channels c.0) x.makes)
  same_allows s k (NewRef t r) e x = ap (λ o. not (is_some o)) (put_value-apart (written k) e.value s.references r.0 x.writes)
  same_allows s k (Set t r) e x = ap is_some (put_value-apart (written k) e.value s.references r.0 x.writes)
  same_allows s k (Local t n) e x = refl
  same_allows s k (Comm t u c) e x = refl
  same_allows s k (Get t r) e x = refl
  same_allows s k (Enter t) e x = refl
  same_allows s k (Cut t) e x = refl
  same_allows s k (Print t) e x = refl
  same_allows s k (Probe t i) e x = refl
  same_allows s k (Refuse t) e x = refl
  same_allows s k (Pin t) e x = refl
  same_allows s k (Attempt t g) e x = refl

  -- threads that two steps touch which are apart
  one_thread : (k l : Label) (a b c d : E) (m : FinMap nat_cmp E) (t : ℕ) → Leaves l k → (x : Bool) → has (touched l) t ≡ x
      → map.get (put_threads (touched l) c d (put_threads (touched k) a b m)) t ≡ map.get (put_threads (touched k) a b (put_threads (touched l) c d m)) t
  one_thread k l a b c d m t apart false h =
      put_threads-apart (touched l) c d (put_threads (touched k) a b m) t h
      ∙ sym (put_threads-agree (touched k) a b (put_threads (touched l) c d m) m t (put_threads-apart (touched l) c d m t h))
  one_thread k l a b c d m t apart true h =
      let free : has (touched k) t ≡ false = has_none (has (touched l)) (touched k) t apart.threads h in
      put_threads-agree (touched l) c d (put_threads (touched k) a b m) m t (put_threads-apart (touched k) a b m t free)
      ∙ sym (put_threads-apart (touched k) a b (put_threads (touched l) c d m) t free)

  one_reference : (k l : Label) (v w : Datum) (m : FinMap nat_cmp Datum) (r : ℕ) → is_one (written k) (written l) ≡ false → (x : Bool) → is_at (written l) r ≡ x
      → map.get (put_value (written l) w (put_value (written k) v m)) r ≡ map.get (put_value (written k) v (put_value (written l) w m)) r
  one_reference k l v w m r apart false h =
      put_value-apart (written l) w (put_value (written k) v m) r h
      ∙ sym (put_value-agree (written k) v (put_value (written l) w m) m r (put_value-apart (written l) w m r h))
  one_reference k l v w m r apart true h =
      let free : is_at (written k) r ≡ false = not_both (written k) (written l) r apart h in
      put_value-agree (written l) w (put_value (written k) v m) m r (put_value-apart (written k) v m r free)
      ∙ sym (put_value-apart (written k) v (put_value (written l) w m) r free)

  swapped : (a b c : Bool) → (a || (b || c)) ≡ (b || (a || c))
  swapped true true c = refl
  swapped true false c = refl
  swapped false true c = refl
  swapped false false c = refl

  one_channel : (k l : Label) (m : FinSet nat_cmp) (c : ℕ) → set.contains (put_channel (made l) (put_channel (made k) m)) c ≡ set.contains (put_channel (made k) (put_channel (made l) m)) c
  one_channel k l m c =
      put_channel-is (made l) (put_channel (made k) m) c ∙ ap (λ b. is_at (made l) c || b) (put_channel-is (made k) m c)
      ∙ swapped (is_at (made l) c) (is_at (made k) c) (set.contains m c)
      ∙ sym (put_channel-is (made k) (put_channel (made l) m) c ∙ ap (λ b. is_at (made k) c || b) (put_channel-is (made l) m c))

  -- both orders lead to one state
  same_state : (s : State E) (k l : Label) (e f : Effect E) → Leaves k l → Leaves l k
      → ((s.output ++ e.printed) ++ f.printed ≡ (s.output ++ f.printed) ++ e.printed) → apply (apply s k e) l f ≡ apply (apply s l f) k e
  same_state s k l e f x y printed =
      let threads = map.same_map nat_cmp_total nat_cmp-IsAntisymmetric (apply (apply s k e) l f).threads (apply (apply s l f) k e).threads (λ t. one_thread k l e.mine e.other f.mine f.other s.threads t y _ refl) in
      let references = map.same_map nat_cmp_total nat_cmp-IsAntisymmetric (apply (apply s k e) l f).references (apply (apply s l f) k e).references (λ r. one_reference k l e.value f.value s.references r x.writes _ refl) in
      let channels = set.same_set nat_cmp_total nat_cmp-IsAntisymmetric (apply (apply s k e) l f).channels (apply (apply s l f) k e).channels (λ c. one_channel k l s.channels c) in
      λ i. record { threads = threads i; references = references i; channels = channels i; output = printed i }

nothing_first : (out e f : List Datum) → e ≡ [] → ((out ++ e) ++ f) ≡ ((out ++ f) ++ e)
nothing_first out e f h =
    ap (λ x. (out ++ x) ++ f) h ∙ ap (λ x. x ++ f) (append-nil out) ∙ sym (append-nil (out ++ f)) ∙ ap (λ x. (out ++ f) ++ x) (sym h)

and_false : (a b : Bool) → (a && b) ≡ false → (x : Bool) → a ≡ x → (y : Bool) → b ≡ y → (P : Type 0) → (a ≡ false → P) → (b ≡ false → P) → P
and_false a b h false is y also P f g = f is
and_false a b h true is false also P f g = g also
and_false a b h true is true also P f g = absurd (false≢true (sym h ∙ ap (λ c. c && b) is ∙ also))

pub not_true : (b : Bool) → not b ≡ true → b ≡ false
not_true false h = refl
not_true true h = absurd (false≢true h)

pub both_true : (a b : Bool) → (a && b) ≡ true → (a ≡ true) × (b ≡ true)
both_true true b h = (refl, h)
both_true false b h = absurd (false≢true h)

module _ {E : Type 0} (g : Language E) where
  pub commute : (s a b : State E) (q r : ℕ) (k l : Label) → are_apart k l ≡ true → plain (effect g) s q k ≡ Some a → plain (effect g) s r l ≡ Some b
      → IsSomeAnd (plain (effect g) a r l) (λ c. plain (effect g) b q k ≡ Some c)
  commute s a b q r k l apart first second =
      let parts = both_true (not (disturbs k l)) _ apart in
      let more = both_true (not (disturbs l k)) _ parts.1 in
      let x = leaves k l (not_true _ parts.0) in
      let y = leaves l k (not_true _ more.0) in
      let m = step_of (effect g) s q k a first in
      let n = step_of (effect g) s r l b second in
      let after : plain (effect g) (apply s k m.eff) r l ≡ Some (apply (apply s k m.eff) l n.eff) =
      plain_of (effect g) (apply s k m.eff) r l n.eff (same_effect (effect g) s r k l m.eff x ∙ n.found) (same_allows (effect g) s k l m.eff x ∙ n.allowed) in
      let also : plain (effect g) (apply s l n.eff) q k ≡ Some (apply (apply s l n.eff) k m.eff) =
      plain_of (effect g) (apply s l n.eff) q k m.eff (same_effect (effect g) s q l k n.eff y ∙ m.found) (same_allows (effect g) s l k n.eff y ∙ m.allowed) in
      let printed : ((s.output ++ m.eff.printed) ++ n.eff.printed) ≡ ((s.output ++ n.eff.printed) ++ m.eff.printed) =
      and_false (is_print k) (is_print l) (not_true _ more.1) _ refl _ refl _
      (λ h. nothing_first s.output m.eff.printed n.eff.printed (printed_nothing g s q k m.eff m.found h))
      (λ h. sym (nothing_first s.output n.eff.printed m.eff.printed (printed_nothing g s r l n.eff n.found h))) in
      let one = same_state (effect g) s k l m.eff n.eff x y printed in
      let made : plain (effect g) a r l ≡ Some (apply (apply s k m.eff) l n.eff) = ap (λ z. plain (effect g) z r l) m.is ∙ after in
      let back : plain (effect g) b q k ≡ Some (apply (apply s k m.eff) l n.eff) = ap (λ z. plain (effect g) z q k) n.is ∙ also ∙ ap Some (sym one) in
      subst (λ o. IsSomeAnd o (λ c. plain (effect g) b q k ≡ Some c)) (sym made) back
