-- One step in a state and in the state without the lost steps.
use Rattle.std.proofs.Common.{◌≡◌, ℕ, Bool, true, false, cond, not, ◌&&◌, ◌||◌, nat_eq, List, [], ◌∷◌, Option, Some, None, refl, sym, ap, ◌∙◌}
use Rattle.std.specs.Prelude.{is_some, option_and_then, option_map}
use Rattle.std.specs.List.{list_any}
use Rattle.std.specs.Ordering.{nat_cmp}
use Rattle.std.specs.FinMap as map
use Rattle.std.specs.FinSet as set
use Rattle.std.proofs.lemmas.Bool.{false≢true, eqb-true, not-true}
use Rattle.stab_base.specs.Datum.{Datum}
use Rattle.stab_journal.specs.declared.event.Label.{Label}
use Rattle.stab_journal.specs.declared.event.Label.TheVariants.{Local, Spawn, NewChan, Comm, NewRef, Get, Set, Enter, Cut, Print, Probe, Refuse, Pin, Attempt}
use Rattle.stab_journal.specs.Label.{actors, spawned, touched, written}
use Rattle.language.specs.Steps.{State, Effect, Table, allows, exprs_at, held_at, apply, effect_in, plain, put_value}
use Rattle.stab_journal.specs.Names.{has, is_at, read, made}
use Rattle.stab_journal.specs.Reached.{Lost, lose, keep, reads_of, depends}
use Rattle.journal_laws.proofs.Without.{IsWithout, IsClosedTable}
use Rattle.language.proofs.Applying.{put_threads-apart, put_value-apart, put_channel-is}
use Rattle.journal_laws.proofs.Applying.{or_false, put_threads-agree, put_threads-there, put_threads-named, exprs_at-agree, held_at-agree, put_value-here, put_value-agree, put_value-there}

pub both : (b : Bool) → b ≡ true → b ≡ false → ⊥
both b t f = false≢true (sym f ∙ t)

-- a thread that a test passes is none of those that all fail it
pub has_none : (p : ℕ → Bool) (ts : List ℕ) (q : ℕ) → list_any p ts ≡ false → p q ≡ true → has ts q ≡ false
has_none p [] q none at = refl
has_none p (t ∷ ts) q none at =
    let parts = or_false (p t) (list_any p ts) none in
    elim (nat_eq q t) as (λ b. nat_eq q t ≡ b → cond b true (has ts q) ≡ false) [
      | true ↦ λ is. absurd (both (p t) (ap p (sym (eqb-true q t is)) ∙ at) parts.0)
      | false ↦ λ is. has_none p ts q parts.1 at
    ] refl

has_spawned : (t u q : ℕ) → has (t ∷ []) q ≡ false → nat_eq q u ≡ false → has (t ∷ u ∷ []) q ≡ false
has_spawned t u q a b =
    elim (nat_eq q t) as (λ c. cond c true false ≡ false → cond c true (cond (nat_eq q u) true false) ≡ false) [
      | true ↦ λ a. a
      | false ↦ λ a. ap (λ c. cond c true false) b
    ] a

-- what a step touches are its actors and what it spawns
touched_none : (l : Label) (q : ℕ) → has (actors l) q ≡ false → is_at (spawned l) q ≡ false → has (touched l) q ≡ false
touched_none (Spawn t u) q a b = has_spawned t.0 u.0 q a b
touched_none (Local t n) q a b = a
touched_none (NewChan t c) q a b = a
touched_none (Comm s r c) q a b = a
touched_none (NewRef t r) q a b = a
touched_none (Get t r) q a b = a
touched_none (Set t r) q a b = a
touched_none (Enter t) q a b = a
touched_none (Cut t) q a b = a
touched_none (Print t) q a b = a
touched_none (Probe t i) q a b = a
touched_none (Refuse t) q a b = a
touched_none (Pin t) q a b = a
touched_none (Attempt t g) q a b = a

not_there : (p : ℕ → Bool) (u q : ℕ) → not (p u) ≡ true → nat_eq q u ≡ true → p q ≡ false
not_there p u q new at = ap p (eqb-true q u at) ∙ not-true (p u) new

module _ {E : Type 0} where
  -- a thread that is spawned is new, and so is a channel that is made
  pub spawned_new : (s : State E) (l : Label) (q : ℕ) → allows s l ≡ true → is_at (spawned l) q ≡ true → map.contains_key s.threads q ≡ false
  spawned_new s (Spawn t u) q ok at = not_there (λ x. map.contains_key s.threads x) u.0 q ok at
  spawned_new s _ q ok at = absurd (false≢true at)

  pub made_new : (s : State E) (l : Label) (q : ℕ) → allows s l ≡ true → is_at (made l) q ≡ true → set.contains s.channels q ≡ false
  made_new s (NewChan t c) q ok at = not_there (λ x. set.contains s.channels x) c.0 q ok at
  made_new s _ q ok at = absurd (false≢true at)

module _ {E : Type 0} (effect : Table E) where
  -- a step of the table: its effect, and that its names are allowed
  pub record IsStep (s : State E) (q : ℕ) (l : Label) (n : State E) : Type 0 where
    pub eff : Effect E
    pub found : effect_in effect s q l ≡ Some eff
    pub allowed : allows s l ≡ true
    pub is : n ≡ apply s l eff

  step_by : (s : State E) (q : ℕ) (l : Label) (n : State E) (o : Option (Effect E)) → effect_in effect s q l ≡ o → (b : Bool) → allows s l ≡ b → cond b (option_map (apply s l) o) None ≡ Some n → IsStep s q l n
  step_by s q l n o found false ok h = absurd (cc)
  step_by s q l n None found true ok h = absurd (cc)
  step_by s q l n (Some e) found true ok h = record { eff = e; found = found; allowed = ok; is = cc }

  pub step_of : (s : State E) (q : ℕ) (l : Label) (n : State E) → plain effect s q l ≡ Some n → IsStep s q l n
  step_of s q l n h = step_by s q l n _ refl _ refl h

  pub plain_of : (s : State E) (q : ℕ) (l : Label) (e : Effect E) → effect_in effect s q l ≡ Some e → allows s l ≡ true → plain effect s q l ≡ Some (apply s l e)
  plain_of s q l e found ok = ap (λ b. cond b (option_map (apply s l) (effect_in effect s q l)) None) ok ∙ ap (option_map (apply s l)) found

  -- the effect is the same where nothing that it looks at is lost
  pub same_effect : (x : Lost) (s s' : State E) (q : ℕ) (l : Label) → IsWithout x s s' → depends l x ≡ false → effect_in effect s' q l ≡ effect_in effect s q l
  same_effect x s s' q l w free =
      let parts = or_false (list_any x.threads (actors l)) (reads_of (read l) x.references) free in
      ap (λ o. option_and_then (λ es. effect q l es (held_at s'.references (read l))) o) (exprs_at-agree x.threads (actors l) s'.threads s.threads w.same_threads parts.0)
      ∙ ap (λ v. option_and_then (λ es. effect q l es v) (exprs_at s.threads (actors l))) (held_at-agree x.references (read l) s'.references s.references w.same_references parts.1)

  new_too : (p : ℕ → Bool) (u : ℕ) (a b : Bool) → not a ≡ true → (p u ≡ true → a ≡ true) → (p u ≡ false → b ≡ a) → not b ≡ true
  new_too p u a b new lost same =
      elim (p u) as (λ c. p u ≡ c → not b ≡ true) [
        | true ↦ λ is. absurd (both a (lost is) (not-true a new))
        | false ↦ λ is. ap not (same is) ∙ new
      ] refl

  -- what is new in the one state is new in the other, and a reference that is set is there
  pub allows_too : (IsKnown : State E → Type 0) → IsClosedTable effect IsKnown → (x : Lost) (s s' : State E) (q : ℕ) (l : Label) (e : Effect E) → IsWithout x s s' → IsKnown s' → effect_in effect s' q l ≡ Some e → allows s l ≡ true → allows s' l ≡ true
  allows_too IsKnown closed x s s' q (Spawn t u) e w known found ok = new_too x.threads u.0 _ _ ok (w.lost_threads u.0) (λ h. ap is_some (w.same_threads u.0 h))
  allows_too IsKnown closed x s s' q (NewChan t c) e w known found ok = new_too x.channels c.0 _ _ ok (w.lost_channels c.0) (w.same_channels c.0)
  allows_too IsKnown closed x s s' q (NewRef t r) e w known found ok = new_too x.references r.0 _ _ ok (w.lost_references r.0) (λ h. ap is_some (w.same_references r.0 h))
  allows_too IsKnown closed x s s' q (Set t r) e w known found ok = closed.sets s' q t r e known found
  allows_too IsKnown closed x s s' q _ e w known found ok = refl

  -- a step that stays touches no lost thread
  pub apart : (x : Lost) (s s' : State E) (l : Label) → IsWithout x s s' → allows s l ≡ true → depends l x ≡ false → (t : ℕ) → x.threads t ≡ true → has (touched l) t ≡ false
  apart x s s' l w ok free t lost =
      let parts = or_false (list_any x.threads (actors l)) (reads_of (read l) x.references) free in
      touched_none l t (has_none x.threads (actors l) t parts.0 lost)
      (elim (is_at (spawned l) t) as (λ b. is_at (spawned l) t ≡ b → is_at (spawned l) t ≡ false) [
        | true ↦ λ is. absurd (both _ (w.lost_threads t lost) (spawned_new s l t ok is))
        | false ↦ λ is. is
      ] refl)

  ref_agree : (w : Option ℕ) (v : Datum) (x : ℕ → Bool) (m n : map.FinMap nat_cmp Datum) (r : ℕ) → (x r ≡ false → map.get m r ≡ map.get n r) → (not (is_at w r) && x r) ≡ false → map.get (put_value w v m) r ≡ map.get (put_value w v n) r
  ref_agree w v x m n r same h =
      elim (is_at w r) as (λ b. is_at w r ≡ b → (not b && x r) ≡ false → map.get (put_value w v m) r ≡ map.get (put_value w v n) r) [
        | true ↦ λ is h. put_value-here w v m r is ∙ sym (put_value-here w v n r is)
        | false ↦ λ is h. put_value-agree w v m n r (same h)
      ] refl h

  lost_ref : (b c : Bool) → (not b && c) ≡ true → c ≡ true
  lost_ref true c h = absurd (false≢true h)
  lost_ref false c h = h

  pub or_right : (a b : Bool) → b ≡ true → (a || b) ≡ true
  or_right true b h = refl
  or_right false b h = h

  -- after a step that stays
  pub without_kept : (x : Lost) (s s' : State E) (l : Label) (e : Effect E) → IsWithout x s s' → allows s l ≡ true → IsWithout (keep l x) (apply s l e) (apply s' l e)
  without_kept x s s' l e w ok = record {
    same_threads = λ t h. put_threads-agree (touched l) e.mine e.other s'.threads s.threads t (w.same_threads t h);
    lost_threads = λ t h. put_threads-there (touched l) e.mine e.other s.threads t (w.lost_threads t h);
    same_references = λ r h. ref_agree (written l) e.value x.references s'.references s.references r (w.same_references r) h;
    lost_references = λ r h. put_value-there (written l) e.value s.references r (w.lost_references r (lost_ref _ _ h));
    same_channels = λ c h. put_channel-is (made l) s'.channels c ∙ ap (λ b. is_at (made l) c || b) (w.same_channels c h) ∙ sym (put_channel-is (made l) s.channels c);
    lost_channels = λ c h. put_channel-is (made l) s.channels c ∙ or_right _ _ (w.lost_channels c h);
    no_channels = λ c h. put_channel-is (made l) s'.channels c ∙ (elim (is_at (made l) c) as (λ b. is_at (made l) c ≡ b → (b || set.contains s'.channels c) ≡ false) [
      | true ↦ λ is. absurd (both _ (w.lost_channels c h) (made_new s l c ok is))
      | false ↦ λ is. w.no_channels c h
    ] refl);
  }

  or_cases : (a b : Bool) (P : Type 0) → (a ≡ true → P) → (b ≡ true → P) → (a || b) ≡ true → P
  or_cases true b P f g h = f refl
  or_cases false b P f g h = g h

  -- after a step that goes
  pub without_lost : (x : Lost) (s s' : State E) (l : Label) (e : Effect E) → IsWithout x s s' → allows s l ≡ true → IsWithout (lose l x) (apply s l e) s'
  without_lost x s s' l e w ok = record {
    same_threads = λ t h. w.same_threads t (or_false _ _ h).1 ∙ sym (put_threads-apart (touched l) e.mine e.other s.threads t (or_false _ _ h).0);
    lost_threads = λ t h. or_cases _ _ _ (put_threads-named (touched l) e.mine e.other s.threads t) (λ k. put_threads-there (touched l) e.mine e.other s.threads t (w.lost_threads t k)) h;
    same_references = λ r h. w.same_references r (or_false _ _ h).1 ∙ sym (put_value-apart (written l) e.value s.references r (or_false _ _ h).0);
    lost_references = λ r h. or_cases _ _ _ (λ k. ap is_some (put_value-here (written l) e.value s.references r k)) (λ k. put_value-there (written l) e.value s.references r (w.lost_references r k)) h;
    same_channels = λ c h. w.same_channels c (or_false _ _ h).1 ∙ sym (put_channel-is (made l) s.channels c ∙ ap (λ b. b || set.contains s.channels c) (or_false _ _ h).0);
    lost_channels = λ c h. put_channel-is (made l) s.channels c ∙ or_cases _ _ _ (λ k. ap (λ b. b || set.contains s.channels c) k) (λ k. or_right _ _ (w.lost_channels c k)) h;
    no_channels = λ c h. or_cases _ _ _ (λ k. elim (x.channels c) as (λ b. x.channels c ≡ b → set.contains s'.channels c ≡ false) [
      | true ↦ λ is. w.no_channels c is
      | false ↦ λ is. w.same_channels c is ∙ made_new s l c ok k
    ] refl) (w.no_channels c) h;
  }
