-- What can be struck of a book: a step of the run above its last cut, with what it wrote and made.
use Rattle.std.proofs.Common.{◌≡◌, ℕ, suc, ◌<◌, ◌≤◌, Bool, true, false, cond, not, ◌||◌, nat_eq, List, [], ◌∷◌, ◌++◌, Option, Some, None, IsSome, refl, sym, ap, subst, ◌∙◌, arith}
use Rattle.std.specs.Prelude.{is_some, nat_lt}
use Rattle.std.specs.List.{AllByRecursion}
use Rattle.std.specs.FinMap as map
use Rattle.std.specs.FinSet as set
use Rattle.std.specs.Cmp.{nat_eq_equiv}
use Rattle.std.proofs.lemmas.Bool.{false≢true, eqb-true}
use Rattle.std.proofs.lemmas.Bool.Decides.{nat_tests}
use Rattle.std.proofs.lemmas.List.Folds.{list_any-append}
use Rattle.stab_base.specs.Datum.{Datum}
use Rattle.stab_journal.specs.declared.event.Label.{Label}
use Rattle.stab_journal.specs.declared.event.Label.TheVariants.{NewChan}
use Rattle.stab_journal.specs.declared.event.Numbered.{Numbered}
use Rattle.stab_journal.specs.Journal.{IsLive, IsSurvivor, Journal, RiseFrom, label_at, survivors}
use Rattle.stab_journal.specs.Label.{written}
use Rattle.stab_journal.specs.Names.{has, is_at, made}
use Rattle.stab_journal.specs.Reached.{Lost, keep, lose, is_reached, reached_from}
use Rattle.stab_journal.proofs.Surviving.{are_survivors}
use Rattle.ref_log.specs.Log.{Write, has_below, has_write, kept}
use Rattle.language.specs.Steps.{State, Table, after_steps, allows, next, plain}
use Rattle.language.proofs.Applying.{put_channel-is}
use Rattle.journal_laws.specs.Surviving.{value_of}
use Rattle.journal_laws.proofs.Applying.{put_value-here}
use Rattle.journal_laws.proofs.Chains.{or_right}
use Rattle.journal_laws.proofs.Numbers.{rise_front}
use Rattle.journal_laws.proofs.Runs.{run_keeps}
use Rattle.journal_laws.proofs.Stepping.{step_of}
use Rattle.journal_laws.proofs.Surviving.{some_none, no_steps}
use Rattle.commit_book.specs.Run.{write_of, writes_in}
use Rattle.commit_book.proofs.Keeping.Floors.{differs, differs_too}
use Rattle.commit_book.proofs.Undoing.UndoneSteps.{between}

-- where the step numbered q stands in a run
pub record IsStepAt (run : List Numbered) (q : ℕ) : Type 0 where
  pub before : List Numbered
  pub n : Numbered
  pub after : List Numbered
  pub is : run ≡ before ++ n ∷ after
  pub number : n.seq.0 ≡ q

deeper : (k : Numbered) (run : List Numbered) (q : ℕ) → IsStepAt run q → IsStepAt (k ∷ run) q
deeper k run q s = record { before = k ∷ s.before; n = s.n; after = s.after; is = ap (λ l. k ∷ l) s.is; number = s.number }

-- a step that is reached
pub reached_at : (m q : ℕ) (x : Lost) (ns : List Numbered) → has (reached_from m x ns) q ≡ true → IsStepAt ns q
reached_at m q x [] h = absurd (false≢true h)
reached_at m q x (n ∷ ns) h =
    elim (is_reached m n x) as (λ b. has (cond b (n.seq.0 ∷ reached_from m (lose n.label x) ns) (reached_from m (keep n.label x) ns)) q ≡ true → IsStepAt (n ∷ ns) q) [
      | true ↦ λ h. elim (nat_eq q n.seq.0) as (λ b. nat_eq q n.seq.0 ≡ b → cond b true (has (reached_from m (lose n.label x) ns) q) ≡ true → IsStepAt (n ∷ ns) q) [
        | true ↦ λ same h. record { before = []; n = n; after = ns; is = refl; number = sym (eqb-true q n.seq.0 same) }
        | false ↦ λ other h. deeper n ns q (reached_at m q (lose n.label x) ns h)
      ] refl h
      | false ↦ λ h. deeper n ns q (reached_at m q (keep n.label x) ns h)
    ] h

-- ---- it is live

all_at : (P : Numbered → Type 0) (before : List Numbered) (n : Numbered) (after : List Numbered) → AllByRecursion P (before ++ n ∷ after) → P n
all_at P [] n after all = all.0
all_at P (k ∷ before) n after all = all_at P before n after all.1

pub survivor_at : (j : Journal) (q : ℕ) (s : IsStepAt (survivors j) q) → (label_at j.events q ≡ Some s.n.label) × IsLive j q
survivor_at j q s =
    let one : IsSurvivor j s.n = all_at (IsSurvivor j) s.before s.n s.after (subst (AllByRecursion (IsSurvivor j)) s.is (are_survivors j).each) in
    (sym (ap (label_at j.events) s.number) ∙ one.label, subst (IsLive j) s.number one.live)

-- ---- its writes

low_is : (a b : ℕ) → nat_lt a b ≡ true → a < b
low_is a b h = grind (arith, nat_tests)

-- one of some greater numbers is below f
below_some : (f k : ℕ) (ws : List Write) → AllByRecursion (λ (v : Write). k < v.number) ws → has_below f ws ≡ true → k < f
below_some f k [] all h = absurd (false≢true h)
below_some f k (w ∷ ws) all h =
    elim (nat_lt w.number f) as (λ b. nat_lt w.number f ≡ b → (b || has_below f ws) ≡ true → k < f) [
      | true ↦ λ low h. let below : w.number < f = low_is w.number f low in let over = all.0 in omega (arith, below, over)
      | false ↦ λ high h. below_some f k ws all.1 h
    ] refl h

-- the numbers rise
abbrev AreRising : List Write → Type 0
AreRising [] = Unit {0}
AreRising (w ∷ ws) = AllByRecursion (λ (v : Write). w.number < v.number) ws × AreRising ws

-- a write above a cut is kept there
kept_has : (f q : ℕ) (ws : List Write) → AreRising ws → f < q → has_write q (kept f ws) ≡ has_write q ws
kept_has f q [] rise above = refl
kept_has f q (w ∷ ws) rise above =
    elim (has_below f ws) as (λ b. has_below f ws ≡ b → has_write q (cond b (kept f ws) (w ∷ ws)) ≡ (nat_eq q w.number || has_write q ws)) [
      | true ↦ λ some.
          let low : w.number < f = below_some f w.number ws rise.0 some in
          kept_has f q ws rise.1 above ∙ ap (λ b. b || has_write q ws) (sym (differs q w.number (omega (arith, low, above))))
      | false ↦ λ none. refl
    ] refl

has_two : (q : ℕ) (xs ys : List Write) → has_write q (xs ++ ys) ≡ (has_write q xs || has_write q ys)
has_two q xs ys = list_any-append (λ (w : Write). nat_eq q w.number) xs ys

over_more : (q k : ℕ) (ws : List Write) → q ≤ k → AllByRecursion (λ (v : Write). k ≤ v.number) ws → AllByRecursion (λ (v : Write). q ≤ v.number) ws
over_more q k [] low all = tt
over_more q k (w ∷ ws) low all = (let over = all.0 in omega (arith, over, low), over_more q k ws low all.1)

under_all : (q : ℕ) (ws : List Write) → AllByRecursion (λ (v : Write). suc q ≤ v.number) ws → AllByRecursion (λ (v : Write). q < v.number) ws
under_all q [] all = tt
under_all q (w ∷ ws) all = (let over = all.0 in omega (arith, over), under_all q ws all.1)

none_at : (q k : ℕ) (ws : List Write) → q < k → AllByRecursion (λ (v : Write). k ≤ v.number) ws → has_write q ws ≡ false
none_at q k [] low all = refl
none_at q k (w ∷ ws) low all = ap (λ b. b || has_write q ws) (differs_too q w.number (let over = all.0 in omega (arith, over, low))) ∙ none_at q k ws low all.1

module _ {E : Type 0} (effect : Table E) (r : ℕ) where
  writes_over : (q : ℕ) (s : Option (State E)) (ns : List Numbered) → RiseFrom q ns → AllByRecursion (λ (v : Write). q ≤ v.number) (writes_in effect r s ns)
  writes_over q s [] rise = tt
  writes_over q s (n ∷ ns) rise =
      by (is_at (written n.label) r) (value_of (next effect s n) r)
      (over_more q (suc n.seq.0) (writes_in effect r (next effect s n) ns) (let low = rise.0 in omega (arith, low)) (writes_over (suc n.seq.0) (next effect s n) ns rise.1))
    where
      by : (b : Bool) (o : Option Datum) → AllByRecursion (λ (v : Write). q ≤ v.number) (writes_in effect r (next effect s n) ns) → AllByRecursion (λ (v : Write). q ≤ v.number) (cond b (write_of n.seq.0 o) [] ++ writes_in effect r (next effect s n) ns)
      by true None more = more
      by true (Some v) more = (rise.0, more)
      by false o more = more

  writes_rise : (q : ℕ) (s : Option (State E)) (ns : List Numbered) → RiseFrom q ns → AreRising (writes_in effect r s ns)
  writes_rise q s [] rise = tt
  writes_rise q s (n ∷ ns) rise = by (is_at (written n.label) r) (value_of (next effect s n) r) (writes_rise (suc n.seq.0) (next effect s n) ns rise.1)
    where
      by : (b : Bool) (o : Option Datum) → AreRising (writes_in effect r (next effect s n) ns) → AreRising (cond b (write_of n.seq.0 o) [] ++ writes_in effect r (next effect s n) ns)
      by true None more = more
      by true (Some v) more = (under_all n.seq.0 (writes_in effect r (next effect s n) ns) (writes_over (suc n.seq.0) (next effect s n) ns rise.1), more)
      by false o more = more

  skipped : (q k : ℕ) (b : Bool) (o : Option Datum) → nat_eq q k ≡ false → has_write q (cond b (write_of k o) []) ≡ false
  skipped q k true None other = refl
  skipped q k true (Some v) other = ap (λ b. b || false) other
  skipped q k false o other = refl

  -- what a step of a run writes is there once it was made
  wrote_some : (s end : State E) (n : Numbered) (after : List Numbered) → after_steps effect (Some s) (n ∷ after) ≡ Some end → is_at (written n.label) r ≡ true → IsSome (value_of (next effect (Some s) n) r)
  wrote_some s end n after run at =
      elim (plain effect s n.seq.0 n.label) as (λ o. plain effect s n.seq.0 n.label ≡ o → after_steps effect o after ≡ Some end → is_some (value_of o r) ≡ true) [
        | None ↦ λ none run. absurd (some_none (sym run ∙ no_steps effect after))
        | (Some m) ↦ λ made run.
            let st = step_of effect s n.seq.0 n.label m made in
            ap is_some (ap (λ (y : State E). map.get y.references r) st.is ∙ put_value-here (written n.label) st.eff.value s.references r at)
      ] refl run

  here_has : (q : ℕ) (b : Bool) (o : Option Datum) → (b ≡ true → IsSome o) → has_write q (cond b (write_of q o) []) ≡ b
  here_has q true None some = absurd (false≢true (some refl))
  here_has q true (Some v) some = ap (λ b. b || false) (nat_eq_equiv.refl q)
  here_has q false o some = refl

  or_no : (b : Bool) → (b || false) ≡ b
  or_no true = refl
  or_no false = refl

  -- a step's number is that of a write of the reference where it writes it
  written_has : (q : ℕ) (before : List Numbered) (s : Option (State E)) (n : Numbered) (after : List Numbered) (end : State E) → RiseFrom q (before ++ n ∷ after) → after_steps effect s (before ++ n ∷ after) ≡ Some end
      → has_write n.seq.0 (writes_in effect r s (before ++ n ∷ after)) ≡ is_at (written n.label) r
  written_has q [] None n after end rise run = absurd (some_none (sym run ∙ no_steps effect (n ∷ after)))
  written_has q [] (Some s) n after end rise run =
      let w : Bool = is_at (written n.label) r in
      let more = writes_in effect r (next effect (Some s) n) after in
      has_two n.seq.0 (cond w (write_of n.seq.0 (value_of (next effect (Some s) n) r)) []) more
      ∙ ap (λ b. b || has_write n.seq.0 more) (here_has n.seq.0 w (value_of (next effect (Some s) n) r) (λ at. wrote_some s end n after run at))
      ∙ ap (λ b. w || b) (none_at n.seq.0 (suc n.seq.0) more (omega arith) (writes_over (suc n.seq.0) (next effect (Some s) n) after rise.1))
      ∙ or_no w
  written_has q (k ∷ before) s n after end rise run =
      let more = writes_in effect r (next effect s k) (before ++ n ∷ after) in
      has_two n.seq.0 (cond (is_at (written k.label) r) (write_of k.seq.0 (value_of (next effect s k) r)) []) more
      ∙ ap (λ b. b || has_write n.seq.0 more) (skipped n.seq.0 k.seq.0 (is_at (written k.label) r) (value_of (next effect s k) r) (differs n.seq.0 k.seq.0 (rise_front (suc k.seq.0) before n after rise.1)))
      ∙ written_has (suc k.seq.0) before (next effect s k) n after end rise.1 run

  -- so it is among those that are kept above a cut below it
  pub kept_written : (f : ℕ) (run : List Numbered) (s end : State E) (q : ℕ) (at : IsStepAt run q) → RiseFrom 1 run → after_steps effect (Some s) run ≡ Some end → f < q → has_write q (kept f (writes_in effect r (Some s) run)) ≡ is_at (written at.n.label) r
  kept_written f run s end q at rise ends above =
      kept_has f q (writes_in effect r (Some s) run) (writes_rise 1 (Some s) run rise) above
      ∙ sym (ap (λ k. has_write k (writes_in effect r (Some s) run)) at.number)
      ∙ ap (λ l. has_write at.n.seq.0 (writes_in effect r (Some s) l)) at.is
      ∙ written_has 1 at.before (Some s) at.n at.after end (subst (RiseFrom 1) at.is rise) (ap (after_steps effect (Some s)) (sym at.is) ∙ ends)

-- ---- the channel that it made

module _ {E : Type 0} (effect : Table E) where
  channel_stays : (c : ℕ) (s m : State E) (q : ℕ) (l : Label) → set.contains s.channels c ≡ true → plain effect s q l ≡ Some m → set.contains m.channels c ≡ true
  channel_stays c s m q l there step =
      let st = step_of effect s q l m step in
      ap (λ (y : State E). set.contains y.channels c) st.is ∙ put_channel-is (made l) s.channels c ∙ or_right (is_at (made l) c) (set.contains s.channels c) there

  -- it is there then, and at the end
  pub made_there : (before : List Numbered) (o : Option (State E)) (n : Numbered) (after : List Numbered) (end : State E) (c : ℕ) → after_steps effect o (before ++ n ∷ after) ≡ Some end → is_at (made n.label) c ≡ true → set.contains end.channels c ≡ true
  made_there [] None n after end c run at = absurd (some_none (sym run ∙ no_steps effect (n ∷ after)))
  made_there [] (Some s) n after end c run at =
      elim (plain effect s n.seq.0 n.label) as (λ o. plain effect s n.seq.0 n.label ≡ o → after_steps effect o after ≡ Some end → set.contains end.channels c ≡ true) [
        | None ↦ λ none run. absurd (some_none (sym run ∙ no_steps effect after))
        | (Some m) ↦ λ step run.
            let st = step_of effect s n.seq.0 n.label m step in
            run_keeps effect (λ (y : State E). set.contains y.channels c ≡ true) (λ a b q l. channel_stays c a b q l) after m end
            (ap (λ (y : State E). set.contains y.channels c) st.is ∙ put_channel-is (made n.label) s.channels c ∙ ap (λ b. b || set.contains s.channels c) at) run
      ] refl run
  made_there (k ∷ before) o n after end c run at = made_there before (next effect o k) n after end c run at

  not_allowed : (s : State E) (l : Label) (c : ℕ) → is_at (made l) c ≡ true → set.contains s.channels c ≡ true → allows s l ≡ true → ⊥
  not_allowed s (NewChan t d) c at there ok =
      false≢true (sym (ap not (sym (ap (set.contains s.channels) (eqb-true c d.0 at)) ∙ there)) ∙ ok)
  not_allowed s _ c at there ok = false≢true at

  -- no step makes a channel that is there
  none_made : (before : List Numbered) (s end : State E) (n : Numbered) (after : List Numbered) (c : ℕ) → set.contains s.channels c ≡ true → after_steps effect (Some s) (before ++ n ∷ after) ≡ Some end → is_at (made n.label) c ≡ true → ⊥
  none_made [] s end n after c there run at =
      elim (plain effect s n.seq.0 n.label) as (λ o. plain effect s n.seq.0 n.label ≡ o → after_steps effect o after ≡ Some end → ⊥) [
        | None ↦ λ none run. some_none (sym run ∙ no_steps effect after)
        | (Some m) ↦ λ step run. let st = step_of effect s n.seq.0 n.label m step in not_allowed s n.label c at there st.allowed
      ] refl run
  none_made (k ∷ before) s end n after c there run at =
      elim (plain effect s k.seq.0 k.label) as (λ o. plain effect s k.seq.0 k.label ≡ o → after_steps effect o (before ++ n ∷ after) ≡ Some end → ⊥) [
        | None ↦ λ none run. some_none (sym run ∙ no_steps effect (before ++ n ∷ after))
        | (Some m) ↦ λ step run. none_made before m end n after c (channel_stays c s m k.seq.0 k.label there step) run at
      ] refl run

  -- no later one makes the same
  later_other : (before : List Numbered) (o : Option (State E)) (k : Numbered) (between : List Numbered) (n : Numbered) (after : List Numbered) (end : State E) (c : ℕ) → after_steps effect o (before ++ k ∷ (between ++ n ∷ after)) ≡ Some end → is_at (made k.label) c ≡ true → is_at (made n.label) c ≡ true → ⊥
  later_other [] None k between n after end c run at later = some_none (sym run ∙ no_steps effect (k ∷ (between ++ n ∷ after)))
  later_other [] (Some s) k between n after end c run at later =
      elim (plain effect s k.seq.0 k.label) as (λ o. plain effect s k.seq.0 k.label ≡ o → after_steps effect o (between ++ n ∷ after) ≡ Some end → ⊥) [
        | None ↦ λ none run. some_none (sym run ∙ no_steps effect (between ++ n ∷ after))
        | (Some m) ↦ λ step run.
            let st = step_of effect s k.seq.0 k.label m step in
            none_made between m end n after c (ap (λ (y : State E). set.contains y.channels c) st.is ∙ put_channel-is (made k.label) s.channels c ∙ ap (λ b. b || set.contains s.channels c) at) run later
      ] refl run
  later_other (j ∷ before) o k between n after end c run at later = later_other before (next effect o j) k between n after end c run at later

  -- so no two steps of a run make one channel
  pub made_once : (run : List Numbered) (s end : State E) (p q c : ℕ) (a : IsStepAt run p) (b : IsStepAt run q) → RiseFrom 1 run → after_steps effect (Some s) run ≡ Some end → is_at (made a.n.label) c ≡ true → is_at (made b.n.label) c ≡ true → p ≡ q
  made_once run s end p q c a b rise ends one other =
      elim (nat_lt p q) as (λ k. nat_lt p q ≡ k → p ≡ q) [
        | true ↦ λ less. absurd (first_later p q a b (low_is p q less) one other)
        | false ↦ λ high. elim (nat_lt q p) as (λ k. nat_lt q p ≡ k → p ≡ q) [
          | true ↦ λ less. absurd (first_later q p b a (low_is q p less) other one)
          | false ↦ λ low. same_by p q high low
        ] refl
      ] refl
    where
      same_by : (p q : ℕ) → nat_lt p q ≡ false → nat_lt q p ≡ false → p ≡ q
      same_by p q high low = grind (arith, nat_tests)

      first_later : (p q : ℕ) (a : IsStepAt run p) (b : IsStepAt run q) → p < q → is_at (made a.n.label) c ≡ true → is_at (made b.n.label) c ≡ true → ⊥
      first_later p q a b less one other =
          let first = a.number in
          let second = b.number in
          let e = between 1 a.before a.n a.after b.before b.n b.after (subst (RiseFrom 1) a.is rise) (sym a.is ∙ b.is) (omega (arith, first, second, less)) in
          later_other a.before (Some s) a.n e.middle b.n b.after end c (ap (λ l. after_steps effect (Some s) (a.before ++ a.n ∷ l)) (sym e.is) ∙ ap (after_steps effect (Some s)) (sym a.is) ∙ ends) one other
