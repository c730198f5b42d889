-- The steps that are gathered are those that an undo takes away, and what was read stays read without them.
use Rattle.std.proofs.Common.{◌≡◌, ℕ, zero, suc, ◌<◌, ◌≤◌, Bool, true, false, cond, not, ◌&&◌, nat_eq, List, [], ◌∷◌, ◌++◌, length, map as each, Option, Some, None, refl, sym, ap, ◌∙◌, arith}
use Rattle.std.specs.Prelude.{filter, is_some, nat_le, nat_lt}
use Rattle.std.specs.List.{AllByRecursion, IsDistinct}
use Rattle.std.specs.FinMap as map
use Rattle.std.specs.Cmp.{nat_eq_equiv}
use Rattle.std.proofs.lemmas.Bool.{false≢true, eqb-true, and_parts}
use Rattle.std.proofs.lemmas.Bool.Decides.{nat_tests}
use Rattle.std.proofs.lemmas.Map.Keys.{IsDistinct-cons}
use Rattle.std.proofs.lemmas.Map.Made.{length-from_same_keys}
use Rattle.linked_lists.specs.Lists.{is_listed}
use Rattle.linked_lists.proofs.Leaving.{IsDistinct-nil}
use Rattle.stab_journal.specs.declared.event.Event.{Event}
use Rattle.stab_journal.specs.declared.event.Label.{Label}
use Rattle.stab_journal.specs.declared.event.Label.TheVariants.{Local, Spawn, NewChan, Comm, NewRef, Get, Set, Enter, Cut, Print, Probe, Refuse, Pin, Attempt}
use Rattle.stab_journal.specs.declared.event.Numbered.{Numbered}
use Rattle.stab_journal.specs.Floor.{floor, is_revocable}
use Rattle.stab_journal.specs.Journal.{IsSurvivor, Journal, RiseFrom, label_at, survivors}
use Rattle.stab_journal.proofs.Surviving.{are_survivors}
use Rattle.stab_journal.specs.Label.{actors}
use Rattle.stab_journal.specs.Names.{has}
use Rattle.stab_journal.specs.Reached.{Lost, keep, lose, is_reached, nothing_lost, reached, reached_from, rest}
use Rattle.language.specs.Plain.{PlainState, IsRun}
use Rattle.reach_line.specs.Reached as marks
use Rattle.restore.specs.declared.line.Line.{Line}
use Rattle.restore.specs.declared.line.Line.TheVariants.{From, Gone}
use Rattle.restore.specs.Line.{IsLineOf}
use Rattle.restore.specs.Left.{LineMap}
use Rattle.commit_book.specs.Book.{BookView, ShowsRun}
use Rattle.commit_book.specs.OwnSteps.{is_lost, line_number, steps_within}
use Rattle.commit_book.proofs.Keeping.Floors.{differs_too, less_is}
use Rattle.commit_book.proofs.Undoing.StruckSteps.{IsStepAt, reached_at}
use Rattle.commit_book.proofs.Undoing.UndoneEdges.{stays_above, uncut_of}
use Rattle.commit_book.proofs.Undoing.UndoneMarks.{listed_is}
use Rattle.commit_book.proofs.Undoing.UndoneQueue.{all_apart}
use Rattle.commit_book.proofs.Undoing.UndoneSteps.{is_from_line, lost_is}

-- a thread that acts in a step
record HasActor (l : Label) : Type 0 where
  t : ℕ
  acts : has (actors l) t ≡ true

first_acts : (t : ℕ) (ts : List ℕ) → has (t ∷ ts) t ≡ true
first_acts t ts = ap (λ b. cond b true (has ts t)) (nat_eq_equiv.refl t)

actor_of : (l : Label) → HasActor l
actor_of (Local t n) = record { t = t.0; acts = first_acts t.0 [] }
actor_of (Spawn t u) = record { t = t.0; acts = first_acts t.0 [] }
actor_of (NewChan t c) = record { t = t.0; acts = first_acts t.0 [] }
actor_of (Comm s r c) = record { t = s.0; acts = first_acts s.0 (r.0 ∷ []) }
actor_of (NewRef t r) = record { t = t.0; acts = first_acts t.0 [] }
actor_of (Get t r) = record { t = t.0; acts = first_acts t.0 [] }
actor_of (Set t r) = record { t = t.0; acts = first_acts t.0 [] }
actor_of (Enter t) = record { t = t.0; acts = first_acts t.0 [] }
actor_of (Cut t) = record { t = t.0; acts = first_acts t.0 [] }
actor_of (Print t) = record { t = t.0; acts = first_acts t.0 [] }
actor_of (Probe t i) = record { t = t.0; acts = first_acts t.0 [] }
actor_of (Refuse t) = record { t = t.0; acts = first_acts t.0 [] }
actor_of (Pin t) = record { t = t.0; acts = first_acts t.0 [] }
actor_of (Attempt t g) = record { t = t.0; acts = first_acts t.0 [] }

-- a step has one of the numbers of the events
pub labelled : (q : ℕ) (es : List Event) (l : Label) → label_at es q ≡ Some l → q ≤ length es
labelled zero es l is = omega arith
labelled (suc i) [] l is = absurd (nothing i is)
  where
    nothing : (i : ℕ) → label_at [] (suc i) ≡ Some l → ⊥
    nothing i is = absurd (cc)
labelled (suc zero) (e ∷ es) l is = omega arith
labelled (suc (suc i)) (e ∷ es) l is = let more : suc i ≤ length es = labelled (suc i) es l is in omega (arith, more)

-- ---- the numbers of some steps

le_is : (a b : ℕ) → a ≤ b → nat_le a b ≡ true
le_is a b h = grind (arith, nat_tests)

-- a step that passes, by its number
pub record IsWithin (f e : ℕ) (p : Label → Bool) (run : List Numbered) (q : ℕ) : Type 0 where
  pub at : IsStepAt run q
  pub over : nat_lt f q ≡ true
  pub under : nat_le q e ≡ true
  pub passes : p at.n.label ≡ true

abbrev passing : ℕ → ℕ → (Label → Bool) → Numbered → Bool
passing f e p n = nat_lt f n.seq.0 && nat_le n.seq.0 e && p n.label

deeper : (f e : ℕ) (p : Label → Bool) (k : Numbered) (run : List Numbered) (q : ℕ) → IsWithin f e p run q → IsWithin f e p (k ∷ run) q
deeper f e p k run q w = record { at = record { before = k ∷ w.at.before; n = w.at.n; after = w.at.after; is = ap (λ l. k ∷ l) w.at.is; number = w.at.number }; over = w.over; under = w.under; passes = w.passes }

pub within_at : (f e : ℕ) (p : Label → Bool) (run : List Numbered) (q : ℕ) → has (steps_within f e p run) q ≡ true → IsWithin f e p run q
within_at f e p [] q h = absurd (false≢true h)
within_at f e p (n ∷ ns) q h =
    elim (passing f e p n) as (λ b. passing f e p n ≡ b → has (each (λ (k : Numbered). k.seq.0) (cond b (n ∷ filter (passing f e p) ns) (filter (passing f e p) ns))) q ≡ true → IsWithin f e p (n ∷ ns) q) [
      | true ↦ λ is h. elim (nat_eq q n.seq.0) as (λ b. nat_eq q n.seq.0 ≡ b → cond b true (has (steps_within f e p ns) q) ≡ true → IsWithin f e p (n ∷ ns) q) [
        | true ↦ λ same h.
            let parts = and_parts (nat_lt f n.seq.0 && nat_le n.seq.0 e) (p n.label) is in
            let two = and_parts (nat_lt f n.seq.0) (nat_le n.seq.0 e) parts.0 in
            let number : n.seq.0 ≡ q = sym (eqb-true q n.seq.0 same) in
            record { at = record { before = []; n = n; after = ns; is = refl; number = number }; over = ap (nat_lt f) (sym number) ∙ two.0; under = ap (λ k. nat_le k e) (sym number) ∙ two.1; passes = parts.1 }
        | false ↦ λ other h. deeper f e p n ns q (within_at f e p ns q h)
      ] refl h
      | false ↦ λ is h. deeper f e p n ns q (within_at f e p ns q h)
    ] refl h

both_true : (a b : Bool) → a ≡ true → b ≡ true → (a && b) ≡ true
both_true a b one other = ap (λ c. c && b) one ∙ other

at_within : (f e : ℕ) (p : Label → Bool) (before : List Numbered) (n : Numbered) (after : List Numbered) → passing f e p n ≡ true → has (steps_within f e p (before ++ n ∷ after)) n.seq.0 ≡ true
at_within f e p [] n after is =
    ap (λ b. has (each (λ (k : Numbered). k.seq.0) (cond b (n ∷ filter (passing f e p) after) (filter (passing f e p) after))) n.seq.0) is
    ∙ first_acts n.seq.0 (steps_within f e p after)
at_within f e p (k ∷ before) n after is =
    elim (passing f e p k) as (λ b. has (each (λ (j : Numbered). j.seq.0) (cond b (k ∷ filter (passing f e p) (before ++ n ∷ after)) (filter (passing f e p) (before ++ n ∷ after)))) n.seq.0 ≡ true) [
      | true ↦ (elim (nat_eq n.seq.0 k.seq.0) as (λ b. cond b true (has (steps_within f e p (before ++ n ∷ after)) n.seq.0) ≡ true) [ true ↦ refl | false ↦ at_within f e p before n after is ])
      | false ↦ at_within f e p before n after is
    ]

-- what passes and stays, of a run whose steps that pass are lost where `lost` says so
stay_within : (f e : ℕ) (p : Label → Bool) (lost gone : ℕ → Bool) (ns : List Numbered) → ((before : List Numbered) (n : Numbered) (after : List Numbered) → ns ≡ before ++ n ∷ after → passing f e p n ≡ true → lost n.seq.0 ≡ gone n.seq.0)
    → filter (λ q. not (lost q)) (steps_within f e p ns) ≡ steps_within f e p (rest gone ns)
stay_within f e p lost gone [] same = refl
stay_within f e p lost gone (n ∷ ns) same =
    let deep : filter (λ q. not (lost q)) (steps_within f e p ns) ≡ steps_within f e p (rest gone ns) = stay_within f e p lost gone ns (λ before k after is passes. same (n ∷ before) k after (ap (λ l. n ∷ l) is) passes) in
    elim (passing f e p n) as (λ b. passing f e p n ≡ b → filter (λ q. not (lost q)) (each (λ (k : Numbered). k.seq.0) (cond b (n ∷ filter (passing f e p) ns) (filter (passing f e p) ns))) ≡ steps_within f e p (cond (gone n.seq.0) (rest gone ns) (n ∷ rest gone ns))) [
      | true ↦ λ is.
          ap (λ b. cond (not b) (n.seq.0 ∷ filter (λ q. not (lost q)) (steps_within f e p ns)) (filter (λ q. not (lost q)) (steps_within f e p ns))) (same [] n ns refl is)
          ∙ ap (λ l. cond (not (gone n.seq.0)) (n.seq.0 ∷ l) l) deep
          ∙ (elim (gone n.seq.0) as (λ g. cond (not g) (n.seq.0 ∷ steps_within f e p (rest gone ns)) (steps_within f e p (rest gone ns)) ≡ steps_within f e p (cond g (rest gone ns) (n ∷ rest gone ns))) [
            | true ↦ refl
            | false ↦ ap (λ b. each (λ (k : Numbered). k.seq.0) (cond b (n ∷ filter (passing f e p) (rest gone ns)) (filter (passing f e p) (rest gone ns)))) (sym is)
          ])
      | false ↦ λ is.
          deep
          ∙ (elim (gone n.seq.0) as (λ g. steps_within f e p (rest gone ns) ≡ steps_within f e p (cond g (rest gone ns) (n ∷ rest gone ns))) [
            | true ↦ refl
            | false ↦ ap (λ b. each (λ (k : Numbered). k.seq.0) (cond b (n ∷ filter (passing f e p) (rest gone ns)) (filter (passing f e p) (rest gone ns)))) (sym is)
          ])
    ] refl

-- ---- how many are reached

reached_over : (m q : ℕ) (x : Lost) (ns : List Numbered) (k : ℕ) → RiseFrom q ns → k < q → has (reached_from m x ns) k ≡ false
reached_over m q x [] k rise low = refl
reached_over m q x (n ∷ ns) k rise low =
    let under : k < n.seq.0 = let first = rise.0 in omega (arith, first, low) in
    elim (is_reached m n x) as (λ b. has (cond b (n.seq.0 ∷ reached_from m (lose n.label x) ns) (reached_from m (keep n.label x) ns)) k ≡ false) [
      | true ↦ ap (λ b. cond b true (has (reached_from m (lose n.label x) ns) k)) (differs_too k n.seq.0 under) ∙ reached_over m (suc n.seq.0) (lose n.label x) ns k rise.1 (omega (arith, under))
      | false ↦ reached_over m (suc n.seq.0) (keep n.label x) ns k rise.1 (omega (arith, under))
    ]

reached_once : (m q : ℕ) (x : Lost) (ns : List Numbered) → RiseFrom q ns → IsDistinct nat_eq (reached_from m x ns)
reached_once m q x [] rise = IsDistinct-nil
reached_once m q x (n ∷ ns) rise =
    elim (is_reached m n x) as (λ b. IsDistinct nat_eq (cond b (n.seq.0 ∷ reached_from m (lose n.label x) ns) (reached_from m (keep n.label x) ns))) [
      | true ↦ IsDistinct-cons nat_eq n.seq.0 (reached_from m (lose n.label x) ns)
          (all_apart n.seq.0 (reached_from m (lose n.label x) ns) (listed_is n.seq.0 (reached_from m (lose n.label x) ns) ∙ reached_over m (suc n.seq.0) (lose n.label x) ns n.seq.0 rise.1 (omega arith)))
          (reached_once m (suc n.seq.0) (lose n.label x) ns rise.1)
      | false ↦ reached_once m (suc n.seq.0) (keep n.label x) ns rise.1
    ]

-- as many as there are reached steps, where each is among some that are distinct, and no other
pub as_many : (run : List Numbered) (m : ℕ) (qs : List ℕ) → RiseFrom 1 run → IsDistinct nat_eq qs → ((k : ℕ) → has qs k ≡ has (reached run m) k) → length qs ≡ length (reached run m)
as_many run m qs rise once same =
    length-from_same_keys nat_eq_equiv qs (reached run m) once (reached_once m 1 nothing_lost run rise)
    (λ k. listed_is k qs ∙ same k ∙ sym (listed_is k (reached run m)))

-- ---- which steps were gathered

line_case : (o : Option Line) (q : ℕ) → (is_some o && nat_le (line_number o) q) ≡ is_from_line o q
line_case None q = refl
line_case (Some Gone) q = none_below q
  where
    none_below : (q : ℕ) → nat_le 0 q ≡ true
    none_below q = grind (arith, nat_tests)
line_case (Some (From p)) q = refl

module _ (old : BookView) (run : List Numbered) (s : PlainState) (shown : ShowsRun old run s) (r : IsRun old.job.program run s) (m : ℕ) (revocable : is_revocable run m ≡ true) (qs : List ℕ) (reach : marks.AreReached old.nodes m qs)
    (lines : LineMap) (are : (t : ℕ) → IsLineOf old.nodes qs t (map.get lines t)) (steps : ℕ → List ℕ) (e : ℕ) (under : (q : ℕ) → has (reached run m) q ≡ true → q ≤ e)
    (own : (t : ℕ) → steps t ≡ steps_within (floor run) e (λ l. has (actors l) t) run) where
  abbrev gone : ℕ → Bool
  gone = has (reached run m)

  lost_line : (t q : ℕ) → is_lost lines t q ≡ is_from_line (map.get lines t) q
  lost_line t q = line_case (map.get lines t) q

  acts_lost : (t : ℕ) (before : List Numbered) (n : Numbered) (after : List Numbered) → run ≡ before ++ n ∷ after → has (actors n.label) t ≡ true → is_lost lines t n.seq.0 ≡ has (reached run m) n.seq.0
  acts_lost t before n after cut acts = lost_line t n.seq.0 ∙ sym (lost_is old run s shown r m revocable qs reach lines are t before n after cut acts)

  -- what is left of each thread's steps
  pub own_left : (t : ℕ) → filter (λ q. not (is_lost lines t q)) (steps t) ≡ steps_within (floor run) e (λ l. has (actors l) t) (rest (has (reached run m)) run)
  own_left t =
      ap (filter (λ q. not (is_lost lines t q))) (own t)
      ∙ stay_within (floor run) e (λ l. has (actors l) t) (is_lost lines t) gone run
      (λ before n after cut passes. acts_lost t before n after cut (and_parts (nat_lt (floor run) n.seq.0 && nat_le n.seq.0 e) (has (actors n.label) t) passes).1)

  module _ (lost : List ℕ) (only : (q : ℕ) → is_listed q lost ≡ true → (t : ℕ) × (is_listed q (steps t) ≡ true) × (is_lost lines t q ≡ true))
      (all : (q t : ℕ) → is_listed q (steps t) ≡ true → is_lost lines t q ≡ true → is_listed q lost ≡ true) where
    lost_gone : (q : ℕ) → is_listed q lost ≡ true → has (reached run m) q ≡ true
    lost_gone q at =
        let o = only q at in
        let w = within_at (floor run) e (λ l. has (actors l) o.0) run q (sym (listed_is q (steps_within (floor run) e (λ l. has (actors l) o.0) run)) ∙ ap (is_listed q) (sym (own o.0)) ∙ o.1) in
        sym (ap gone w.at.number) ∙ sym (acts_lost o.0 w.at.before w.at.n w.at.after w.at.is w.passes) ∙ ap (is_lost lines o.0) w.at.number ∙ o.2

    gone_lost : (q : ℕ) → has (reached run m) q ≡ true → is_listed q lost ≡ true
    gone_lost q goes =
        let at = reached_at m q nothing_lost run goes in
        let a = actor_of at.n.label in
        let here : gone at.n.seq.0 ≡ true = ap gone at.number ∙ goes in
        let over : nat_lt (floor run) at.n.seq.0 ≡ true = less_is (floor run) at.n.seq.0 (stays_above run m at.n.seq.0 r.rises (uncut_of run m revocable) here) in
        let low : nat_le at.n.seq.0 e ≡ true = le_is at.n.seq.0 e (under at.n.seq.0 here) in
        let passes : passing (floor run) e (λ l. has (actors l) a.t) at.n ≡ true = both_true (nat_lt (floor run) at.n.seq.0 && nat_le at.n.seq.0 e) (has (actors at.n.label) a.t) (both_true (nat_lt (floor run) at.n.seq.0) (nat_le at.n.seq.0 e) over low) a.acts in
        ap (λ k. is_listed k lost) (sym at.number)
        ∙ all at.n.seq.0 a.t
        (ap (is_listed at.n.seq.0) (own a.t) ∙ listed_is at.n.seq.0 (steps_within (floor run) e (λ l. has (actors l) a.t) run)
        ∙ ap (λ l. has (steps_within (floor run) e (λ k. has (actors k) a.t) l) at.n.seq.0) at.is ∙ at_within (floor run) e (λ l. has (actors l) a.t) at.before at.n at.after passes)
        (acts_lost a.t at.before at.n at.after at.is a.acts ∙ here)

    -- the gathered steps are the reached ones
    pub lost_are : (q : ℕ) → has lost q ≡ has (reached run m) q
    lost_are q =
        elim (has (reached run m) q) as (λ b. has (reached run m) q ≡ b → has lost q ≡ b) [
          | true ↦ λ goes. sym (listed_is q lost) ∙ gone_lost q goes
          | false ↦ λ stays. elim (has lost q) as (λ b. has lost q ≡ b → b ≡ false) [
            | true ↦ λ at. absurd (false≢true (sym stays ∙ lost_gone q (listed_is q lost ∙ at)))
            | false ↦ λ off. refl
          ] refl
        ] refl

-- no step of a journal has a greater number than its last event
pub survivors_up_to : (j : Journal) → AllByRecursion (λ (n : Numbered). n.seq.0 ≤ length j.events) (survivors j)
survivors_up_to j = by (survivors j) (are_survivors j).each
  where
    by : (ns : List Numbered) → AllByRecursion (IsSurvivor j) ns → AllByRecursion (λ (n : Numbered). n.seq.0 ≤ length j.events) ns
    by [] all = tt
    by (n ∷ ns) all = (labelled n.seq.0 j.events n.label all.0.label, by ns all.1)
