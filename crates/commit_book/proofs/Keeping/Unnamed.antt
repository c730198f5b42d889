-- A number that no event names is new in the state to which the events lead.
use Rattle.std.proofs.Common.{◌≡◌, ℕ, suc, ◌<◌, Bool, true, false, cond, ◌||◌, nat_eq, max, fold, List, [], ◌∷◌, ◌++◌, Some, None, refl, sym, ap, subst, ◌∙◌, append-nil, arith}
use Rattle.std.specs.List.{flat_map}
use Rattle.std.specs.FinMap as map
use Rattle.std.specs.FinSet as set
use Rattle.std.proofs.lemmas.Bool.{false≢true}
use Rattle.stab_journal.specs.declared.event.Event.{Event}
use Rattle.stab_journal.specs.declared.event.Label.{Label}
use Rattle.stab_journal.specs.declared.event.Label.TheVariants.{NewChan, NewRef, Set}
use Rattle.stab_journal.specs.declared.event.Numbered.{Numbered}
use Rattle.stab_journal.specs.declared.event.What.{What}
use Rattle.stab_journal.specs.declared.event.What.TheVariants.{Step, Undo, Release}
use Rattle.stab_journal.specs.Label.{touched, written}
use Rattle.stab_journal.specs.Names.{has, is_at, made}
use Rattle.stab_journal.specs.Reached.{reached, rest}
use Rattle.stab_journal.specs.Surviving.{after_event, after_events}
use Rattle.language.specs.Steps.{State, Effect, Table, plain, apply, after_steps}
use Rattle.language.proofs.Applying.{put_threads-apart, put_value-apart, put_channel-is}
use Rattle.journal_laws.proofs.Stepping.{step_of}
use Rattle.journal_laws.proofs.Surviving.{some_is, some_none, no_steps}
use Rattle.stab_journal.specs.Numbers.{chans_in, refs_in}
use Rattle.commit_book.proofs.Keeping.Floors.{differs}

grows : (xs : List ℕ) (g t : ℕ) → fold max g xs < t → g < t
grows [] g t h = h
grows (x ∷ xs) g t h = omega (arith, grows xs (max g x) t h)

-- a number above the greatest of some is none of them
pub beyond : (xs : List ℕ) (g t : ℕ) → fold max g xs < t → has xs t ≡ false
beyond [] g t h = refl
beyond (x ∷ xs) g t h =
    let low = grows xs (max g x) t h in
    ap (λ b. cond b true (has xs t)) (differs t x (omega (arith, low))) ∙ beyond xs (max g x) t h

pub cond_false : (a b : Bool) → cond a true b ≡ false → (a ≡ false) × (b ≡ false)
cond_false true b h = absurd (false≢true (sym h))
cond_false false b h = (refl, h)

pub has-append : (xs ys : List ℕ) (t : ℕ) → has xs t ≡ false → has ys t ≡ false → has (xs ++ ys) t ≡ false
has-append [] ys t h k = k
has-append (x ∷ xs) ys t h k =
    let parts = cond_false (nat_eq t x) (has xs t) h in
    ap (λ b. cond b true (has (xs ++ ys) t)) parts.0 ∙ has-append xs ys t parts.1 k

pub left_part : (xs ys : List ℕ) (t : ℕ) → has (xs ++ ys) t ≡ false → has xs t ≡ false
left_part [] ys t h = refl
left_part (x ∷ xs) ys t h =
    let parts = cond_false (nat_eq t x) (has (xs ++ ys) t) h in
    ap (λ b. cond b true (has xs t)) parts.0 ∙ left_part xs ys t parts.1

pub right_part : (xs ys : List ℕ) (t : ℕ) → has (xs ++ ys) t ≡ false → has ys t ≡ false
right_part [] ys t h = h
right_part (x ∷ xs) ys t h = right_part xs ys t (cond_false (nat_eq t x) (has (xs ++ ys) t) h).1

-- what the steps name
abbrev pub named_in : (Label → List ℕ) → List Numbered → List ℕ
named_in f run = flat_map (λ (n : Numbered). f n.label) run

module _ (f : Label → List ℕ) (names : What → List ℕ) (steps : (l : Label) → names (Step l) ≡ f l) (t : ℕ) where
  in_rest : (gone : ℕ → Bool) (run : List Numbered) → has (named_in f run) t ≡ false → has (named_in f (rest gone run)) t ≡ false
  in_rest gone [] h = refl
  in_rest gone (n ∷ ns) h =
      let later = in_rest gone ns (right_part (f n.label) (named_in f ns) t h) in
      elim (gone n.seq.0) as (λ b. has (named_in f (cond b (rest gone ns) (n ∷ rest gone ns))) t ≡ false) [
        | true ↦ later
        | false ↦ has-append (f n.label) (named_in f (rest gone ns)) t (left_part (f n.label) (named_in f ns) t h) later
      ]

  in_more : (run : List Numbered) (n : Numbered) → has (named_in f run) t ≡ false → has (f n.label) t ≡ false → has (named_in f (run ++ n ∷ [])) t ≡ false
  in_more [] n h k = ap (λ xs. has xs t) (append-nil (f n.label)) ∙ k
  in_more (j ∷ ns) n h k = has-append (f j.label) (named_in f (ns ++ n ∷ [])) t (left_part (f j.label) (named_in f ns) t h) (in_more ns n (right_part (f j.label) (named_in f ns) t h) k)

  pub in_event : (q : ℕ) (w : What) (run : List Numbered) → has (named_in f run) t ≡ false → has (names w) t ≡ false → has (named_in f (after_event q w run)) t ≡ false
  in_event q (Step l) run h k = in_more run (record { seq = record { 0 = q }; label = l }) h (ap (λ xs. has xs t) (sym (steps l)) ∙ k)
  in_event q (Undo u m) run h k = in_rest (has (reached run m.0)) run h
  in_event q (Release c) run h k = ap (λ ns. has (named_in f ns) t) (append-nil run) ∙ h

  -- what no event names, no step names of the run that they leave
  pub in_events : (q : ℕ) (run : List Numbered) (es : List Event) → has (named_in f run) t ≡ false → has (flat_map (λ (e : Event). names e.what) es) t ≡ false → has (named_in f (after_events q run es)) t ≡ false
  in_events q run [] h k = h
  in_events q run (e ∷ es) h k =
      in_events (suc q) (after_event q e.what run) es
      (in_event q e.what run h (left_part (names e.what) (flat_map (λ (j : Event). names j.what) es) t k))
      (right_part (names e.what) (flat_map (λ (j : Event). names j.what) es) t k)

module _ {E : Type 0} (effect : Table E) (K : State E → Type 0) (f : Label → List ℕ) (t : ℕ) where
  -- what no step that doesn't name the number changes, a run leaves that doesn't
  through : ((s : State E) (l : Label) (e : Effect E) → has (f l) t ≡ false → K s → K (apply s l e)) → (ns : List Numbered) (s end : State E) → has (named_in f ns) t ≡ false → after_steps effect (Some s) ns ≡ Some end → K s → K end
  through stays [] s end none runs k = subst K (some_is runs) k
  through stays (n ∷ ns) s end none runs k =
      elim (plain effect s n.seq.0 n.label) as (λ o. plain effect s n.seq.0 n.label ≡ o → after_steps effect o ns ≡ Some end → K end) [
        | None ↦ λ is runs. absurd (some_none (sym runs ∙ no_steps effect ns))
        | (Some m) ↦ λ is runs.
            let st = step_of effect s n.seq.0 n.label m is in
            through stays ns m end (right_part (f n.label) (named_in f ns) t none) runs
            (subst K (sym st.is) (stays s n.label st.eff (left_part (f n.label) (named_in f ns) t none) k))
      ] refl runs

unmade : (l : Label) (c : ℕ) → has (chans_in l) c ≡ false → is_at (made l) c ≡ false
unmade (NewChan t d) c h = (cond_false (nat_eq c d.0) false h).0
unmade _ c h = refl

unwritten : (l : Label) (r : ℕ) → has (refs_in l) r ≡ false → is_at (written l) r ≡ false
unwritten (NewRef t q) r h = (cond_false (nat_eq r q.0) false h).0
unwritten (Set t q) r h = (cond_false (nat_eq r q.0) false h).0
unwritten _ r h = refl

module _ {E : Type 0} (effect : Table E) where
  -- where a thread stands that no step of a run touches
  pub unnamed_thread : (t : ℕ) (ns : List Numbered) (s end : State E) → has (named_in touched ns) t ≡ false → after_steps effect (Some s) ns ≡ Some end → map.get end.threads t ≡ map.get s.threads t
  unnamed_thread t ns s end none runs =
      through effect (λ (x : State E). map.get x.threads t ≡ map.get s.threads t) touched t
      (λ x l e free same. put_threads-apart (touched l) e.mine e.other x.threads t free ∙ same) ns s end none runs refl

  pub unnamed_channel : (c : ℕ) (ns : List Numbered) (s end : State E) → has (named_in chans_in ns) c ≡ false → after_steps effect (Some s) ns ≡ Some end → set.contains end.channels c ≡ set.contains s.channels c
  unnamed_channel c ns s end none runs =
      through effect (λ (x : State E). set.contains x.channels c ≡ set.contains s.channels c) chans_in c
      (λ x l e free same. put_channel-is (made l) x.channels c ∙ ap (λ b. b || set.contains x.channels c) (unmade l c free) ∙ same) ns s end none runs refl

  pub unnamed_reference : (r : ℕ) (ns : List Numbered) (s end : State E) → has (named_in refs_in ns) r ≡ false → after_steps effect (Some s) ns ≡ Some end → map.get end.references r ≡ map.get s.references r
  unnamed_reference r ns s end none runs =
      through effect (λ (x : State E). map.get x.references r ≡ map.get s.references r) refs_in r
      (λ x l e free same. put_value-apart (written l) e.value x.references r (unwritten l r free) ∙ same) ns s end none runs refl
