-- What is read of the steps of a run, with one event more.
use Rattle.std.proofs.Common.{◌≡◌, ◌⊎◌, inl, inr, ℕ, zero, suc, ◌+◌, ◌<◌, ◌≤◌, Bool, true, false, cond, ◌&&◌, ◌||◌, nat_eq, List, [], ◌∷◌, ◌++◌, length, map as each, Some, refl, sym, ap, subst, ◌∙◌, arith, add-one}
use Rattle.std.specs.Prelude.{nat_lt, nat_le, filter}
use Rattle.std.specs.List.{AllByRecursion, flat_map, list_any}
use Rattle.std.proofs.lemmas.Bool.Decides.{nat_tests}
use Rattle.std.proofs.lemmas.Option.{same_Some}
use Rattle.stab_base.specs.declared.numbers.Seq.{Seq}
use Rattle.stab_journal.specs.declared.event.Event.{Event}
use Rattle.stab_journal.specs.declared.event.Label.{Label}
use Rattle.stab_journal.specs.declared.event.Numbered.{Numbered}
use Rattle.stab_journal.specs.declared.event.What.{What}
use Rattle.stab_journal.specs.declared.event.What.TheVariants.{Step, Undo, Release}
use Rattle.stab_journal.specs.Event.{label_of}
use Rattle.stab_journal.specs.Journal.{AreSurvivors, IsLive, IsSurvivor, Journal, RiseFrom, label_at, survivors}
use Rattle.stab_journal.specs.Label.{actors, touched}
use Rattle.stab_journal.specs.Names.{has}
use Rattle.journal_laws.proofs.Spawned.{acts_touch}
use Rattle.own_steps.specs.Own.{steps_of}
use Rattle.commit_book.specs.declared.rollback.Rollback.{Rollback}
use Rattle.stab_journal.specs.Numbers.{greatest, threads_by}
use Rattle.commit_book.specs.OwnSteps.{IsRead, Rises, steps_within}
use Rattle.commit_book.proofs.Keeping.Floors.{less_is}
use Rattle.commit_book.proofs.Keeping.Unnamed.{beyond, left_part, right_part}

module _ (f : ℕ) (p : Label → Bool) where
  abbrev pub inside : ℕ → Numbered → Bool
  inside e n = nat_lt f n.seq.0 && nat_le n.seq.0 e && p n.label

  pub within-cons : (e : ℕ) (n : Numbered) (run : List Numbered) → steps_within f e p (n ∷ run) ≡ cond (inside e n) (n.seq.0 ∷ steps_within f e p run) (steps_within f e p run)
  within-cons e n run =
      elim (inside e n) as (λ b. each (λ (k : Numbered). k.seq.0) (cond b (n ∷ filter (inside e) run) (filter (inside e) run)) ≡ cond b (n.seq.0 ∷ steps_within f e p run) (steps_within f e p run)) [
        | true ↦ refl
        | false ↦ refl
      ]

  -- steps behind the last event that was read aren't read
  pub within-past : (e k : ℕ) (run : List Numbered) → RiseFrom k run → e < k → steps_within f e p run ≡ []
  within-past e k [] rise late = refl
  within-past e k (n ∷ run) rise late =
      within-cons e n run
      ∙ ap (λ b. cond b (n.seq.0 ∷ steps_within f e p run) (steps_within f e p run)) (off (nat_lt f n.seq.0) (nat_le n.seq.0 e) (p n.label) (above n.seq.0 e (omega (arith, rise.0))))
      ∙ within-past e (suc n.seq.0) run rise.1 (omega (arith, rise.0))
    where
      above : (a b : ℕ) → b < a → nat_le a b ≡ false
      above a b h = grind (arith, nat_tests)

      off : (a b c : Bool) → b ≡ false → (a && b && c) ≡ false
      off a b c h = ap (λ d. a && d && c) h ∙ elim a as (λ d. (d && false && c) ≡ false) [ true ↦ refl | false ↦ refl ]

  or_none : (a b : Bool) → (a || b) ≡ false → (a ≡ false) × (b ≡ false)
  or_none true b h = absurd (cc h)
  or_none false b h = (refl, h)

  same_below : (a e : ℕ) → nat_eq a (suc e) ≡ false → nat_le a (suc e) ≡ nat_le a e
  same_below a e h = grind (arith, nat_tests)

  -- no step has the number of the next event
  pub within-none : (e : ℕ) (run : List Numbered) → list_any (λ (n : Numbered). nat_eq n.seq.0 (suc e)) run ≡ false → steps_within f (suc e) p run ≡ steps_within f e p run
  within-none e [] none = refl
  within-none e (n ∷ run) none =
      let parts = or_none (nat_eq n.seq.0 (suc e)) (list_any (λ (k : Numbered). nat_eq k.seq.0 (suc e)) run) none in
      within-cons (suc e) n run
      ∙ ap (λ b. cond (nat_lt f n.seq.0 && b && p n.label) (n.seq.0 ∷ steps_within f (suc e) p run) (steps_within f (suc e) p run)) (same_below n.seq.0 e parts.0)
      ∙ ap (λ qs. cond (inside e n) (n.seq.0 ∷ qs) qs) (within-none e run parts.1)
      ∙ sym (within-cons e n run)

  joined : (b : Bool) (q : ℕ) (qs rs : List ℕ) → cond b (q ∷ (qs ++ rs)) (qs ++ rs) ≡ cond b (q ∷ qs) qs ++ rs
  joined true q qs rs = refl
  joined false q qs rs = refl

  or_some : (a b : Bool) → a ≡ false → (a || b) ≡ true → b ≡ true
  or_some a b off h = cc

  both : (a b c : Bool) → a ≡ true → b ≡ true → (a && b && c) ≡ c
  both a b c one two = ap (λ d. d && b && c) one ∙ ap (λ d. true && d && c) two

  not_above : (a b : ℕ) → a ≡ b → nat_le a b ≡ true
  not_above a b h = grind (arith, nat_tests)

  same_is : (a b : ℕ) → nat_eq a b ≡ true → a ≡ b
  same_is a b h = grind (arith, nat_tests)

  -- a step has it
  pub within-one : (e k : ℕ) (run : List Numbered) (l : Label) → f ≤ e → RiseFrom k run → AllByRecursion (λ (n : Numbered). n.seq.0 ≡ suc e → n.label ≡ l) run → list_any (λ (n : Numbered). nat_eq n.seq.0 (suc e)) run ≡ true → steps_within f (suc e) p run ≡ steps_within f e p run ++ cond (p l) (suc e ∷ []) []
  within-one e k [] l low rise labels some = absurd (cc some)
  within-one e k (n ∷ run) l low rise labels some =
      elim (nat_eq n.seq.0 (suc e)) as (λ b. nat_eq n.seq.0 (suc e) ≡ b → steps_within f (suc e) p (n ∷ run) ≡ steps_within f e p (n ∷ run) ++ cond (p l) (suc e ∷ []) []) [
        | true ↦ λ here.
            let same : n.seq.0 ≡ suc e = same_is n.seq.0 (suc e) here in
            within-cons (suc e) n run
            ∙ ap (λ b. cond b (n.seq.0 ∷ steps_within f (suc e) p run) (steps_within f (suc e) p run)) (both (nat_lt f n.seq.0) (nat_le n.seq.0 (suc e)) (p n.label) (less_is f n.seq.0 (omega arith)) (not_above n.seq.0 (suc e) same))
            ∙ ap (λ qs. cond (p n.label) (n.seq.0 ∷ qs) qs) (within-past (suc e) (suc n.seq.0) run rise.1 (omega arith))
            ∙ ap (λ m. cond (p m) (n.seq.0 ∷ []) []) (labels.0 same)
            ∙ ap (λ q. cond (p l) (q ∷ []) []) same
            ∙ ap (λ qs. qs ++ cond (p l) (suc e ∷ []) []) (sym (within-past e (suc e) (n ∷ run) (omega arith, rise.1) (omega arith)))
        | false ↦ λ other.
            within-cons (suc e) n run
            ∙ ap (λ b. cond (nat_lt f n.seq.0 && b && p n.label) (n.seq.0 ∷ steps_within f (suc e) p run) (steps_within f (suc e) p run)) (same_below n.seq.0 e other)
            ∙ ap (λ qs. cond (inside e n) (n.seq.0 ∷ qs) qs) (within-one e (suc n.seq.0) run l low rise.1 labels.1 (or_some (nat_eq n.seq.0 (suc e)) (list_any (λ (k : Numbered). nat_eq k.seq.0 (suc e)) run) other some))
            ∙ joined (inside e n) n.seq.0 (steps_within f e p run) (cond (p l) (suc e ∷ []) [])
            ∙ ap (λ qs. qs ++ cond (p l) (suc e ∷ []) []) (sym (within-cons e n run))
      ] refl

-- a survivor with a number is live, and has the label that stands there
live_there : (j : Journal) (q : ℕ) (run : List Numbered) → AllByRecursion (IsSurvivor j) run → list_any (λ (n : Numbered). nat_eq n.seq.0 q) run ≡ true → IsLive j q
live_there j q [] all some = absurd (cc some)
live_there j q (n ∷ run) all some =
    elim (nat_eq n.seq.0 q) as (λ b. nat_eq n.seq.0 q ≡ b → (b || list_any (λ (k : Numbered). nat_eq k.seq.0 q) run) ≡ true → IsLive j q) [
      | true ↦ λ here _. subst (IsLive j) (number_is n.seq.0 q here) all.0.live
      | false ↦ λ other rest. live_there j q run all.1 rest
    ] refl some
  where
    number_is : (a b : ℕ) → nat_eq a b ≡ true → a ≡ b
    number_is a b h = grind (arith, nat_tests)

labels_there : (j : Journal) (q : ℕ) (l : Label) (run : List Numbered) → AllByRecursion (IsSurvivor j) run → label_at j.events q ≡ Some l → AllByRecursion (λ (n : Numbered). n.seq.0 ≡ q → n.label ≡ l) run
labels_there j q l [] all at = tt
labels_there j q l (n ∷ run) all at = ((λ same. let is : label_at j.events q ≡ Some n.label = ap (label_at j.events) (sym same) ∙ all.0.label in cc (is, at)), labels_there j q l run all.1 at)

-- the next event is no step, or is struck
pub read_none : (j : Journal) (r : Rollback) → IsRead j r → AreSurvivors j (survivors j) → r.read < length j.events → (IsLive j (r.read + 1) → ⊥) → IsRead j (record r { read = r.read + 1 })
read_none j r is are within none =
    let absent : list_any (λ (n : Numbered). nat_eq n.seq.0 (suc r.read)) (survivors j) ≡ false =
    elim (list_any (λ (n : Numbered). nat_eq n.seq.0 (suc r.read)) (survivors j)) as (λ b. list_any (λ (n : Numbered). nat_eq n.seq.0 (suc r.read)) (survivors j) ≡ b → b ≡ false) [
      | true ↦ λ some. absurd (none (subst (IsLive j) (sym (add-one r.read)) (live_there j (suc r.read) (survivors j) are.each some)))
      | false ↦ λ _. refl
    ] refl in
    let more : (p : Label → Bool) → steps_within r.floor.0 r.read p (survivors j) ≡ steps_within r.floor.0 (r.read + 1) p (survivors j) = λ p. sym (ap (λ e. steps_within r.floor.0 e p (survivors j)) (add-one r.read) ∙ within-none r.floor.0 p r.read (survivors j) absent) in
    record {
      read = omega arith;
      floor = is.floor;
      cut = let low = is.cut in omega arith;
      own = λ t. is.own t ∙ more (λ l. has (actors l) t);
      lost = is.lost;
    }

-- the next event is a step
pub read_one : (j : Journal) (old new : Rollback) (l : Label) → IsRead j old → AreSurvivors j (survivors j) → old.read < length j.events → IsLive j (old.read + 1) → label_at j.events (old.read + 1) ≡ Some l → new.read ≡ old.read + 1 → new.floor ≡ old.floor → ((t : ℕ) → steps_of new.own t ≡ steps_of old.own t ++ cond (has (actors l) t) ((old.read + 1) ∷ []) []) → new.lost.items ≡ old.lost.items → IsRead j new
read_one j old new l is are within live at read floor own lost =
    let low = is.cut in
    let next = add-one old.read in
    let there = are.every (suc old.read) (subst (IsLive j) next live) in
    let labels = labels_there j (suc old.read) l (survivors j) are.each (ap (label_at j.events) (sym next) ∙ at) in
    let more : (p : Label → Bool) → steps_within old.floor.0 old.read p (survivors j) ++ cond (p l) ((old.read + 1) ∷ []) [] ≡ steps_within new.floor.0 new.read p (survivors j) = λ p.
    ap (λ q. steps_within old.floor.0 old.read p (survivors j) ++ cond (p l) (q ∷ []) []) next
    ∙ sym (ap (λ (g : Seq). steps_within g.0 new.read p (survivors j)) floor ∙ ap (λ e. steps_within old.floor.0 e p (survivors j)) (read ∙ next) ∙ within-one old.floor.0 p old.read 1 (survivors j) l low are.rising labels there) in
    record {
      read = omega arith;
      floor = ap (λ (q : Seq). q.0) floor ∙ is.floor;
      cut = let same = ap (λ (q : Seq). q.0) floor in omega arith;
      own = λ t. own t ∙ ap (λ qs. qs ++ cond (has (actors l) t) ((old.read + 1) ∷ []) []) (is.own t) ∙ more (λ k. has (actors k) t);
      lost = lost ∙ is.lost;
    }

what_named : (w : What) (l : Label) → label_of w ≡ Some l → threads_by w ≡ touched l
what_named (Step k) l is = ap touched (same_Some k l is)
what_named (Undo t m) l is = absurd (cc is)
what_named (Release k) l is = absurd (cc is)

-- whom no event names, no step touches
untouched_at : (es : List Event) (i t : ℕ) (l : Label) → has (flat_map (λ (e : Event). threads_by e.what) es) t ≡ false → label_at es (suc i) ≡ Some l → has (touched l) t ≡ false
untouched_at [] i t l none at = absurd (cc at)
untouched_at (e ∷ es) zero t l none at = ap (λ ts. has ts t) (sym (what_named e.what l at)) ∙ left_part (threads_by e.what) (flat_map (λ (k : Event). threads_by k.what) es) t none
untouched_at (e ∷ es) (suc i) t l none at = untouched_at es i t l (right_part (threads_by e.what) (flat_map (λ (k : Event). threads_by k.what) es) t none) at

less_or : (a b : ℕ) → (a < b) ⊎ (b ≤ a)
less_or a b = grind arith

-- who acts in a step isn't numbered above the greatest of the threads that events name
pub acting_low : (es : List Event) (q t : ℕ) (l : Label) → label_at es q ≡ Some l → has (actors l) t ≡ true → t ≤ greatest threads_by es
acting_low es zero t l at acts = absurd (cc at)
acting_low es (suc i) t l at acts =
    elim (less_or (greatest threads_by es) t) as (λ _. t ≤ greatest threads_by es) [
      | inl above ↦
          let none = untouched_at es i t l (beyond (flat_map (λ (e : Event). threads_by e.what) es) 0 t above) at in
          let some = acts_touch l t acts in
          absurd (cc)
      | inr low ↦ low
    ]

lowered : (a b : ℕ) (qs : List ℕ) → a ≤ b → AllByRecursion (λ q. b ≤ q) qs → AllByRecursion (λ q. a ≤ q) qs
lowered a b [] low all = tt
lowered a b (q ∷ qs) low all = (omega (arith, all.0), lowered a b qs low all.1)

module _ (f e : ℕ) (p : Label → Bool) where
  within_above : (k : ℕ) (run : List Numbered) → RiseFrom k run → AllByRecursion (λ q. k ≤ q) (steps_within f e p run)
  within_above k [] rise = tt
  within_above k (n ∷ run) rise =
      let rest = lowered k (suc n.seq.0) (steps_within f e p run) (omega (arith, rise.0)) (within_above (suc n.seq.0) run rise.1) in
      subst (AllByRecursion (λ q. k ≤ q)) (sym (within-cons f p e n run))
      (elim (inside f p e n) as (λ b. AllByRecursion (λ q. k ≤ q) (cond b (n.seq.0 ∷ steps_within f e p run) (steps_within f e p run))) [
        | true ↦ (rise.0, rest)
        | false ↦ rest
      ])

  -- the numbers of the steps that were read rise
  pub within_rises : (k : ℕ) (run : List Numbered) → RiseFrom k run → Rises (steps_within f e p run)
  within_rises k [] rise = tt
  within_rises k (n ∷ run) rise =
      let rest = within_rises (suc n.seq.0) run rise.1 in
      let above = lowered n.seq.0 (suc n.seq.0) (steps_within f e p run) (omega arith) (within_above (suc n.seq.0) run rise.1) in
      subst Rises (sym (within-cons f p e n run))
      (elim (inside f p e n) as (λ b. Rises (cond b (n.seq.0 ∷ steps_within f e p run) (steps_within f e p run))) [
        | true ↦ (above, rest)
        | false ↦ rest
      ])

-- so do those of each thread
pub own_rises : (j : Journal) (r : Rollback) (t : ℕ) → IsRead j r → AreSurvivors j (survivors j) → Rises (steps_of r.own t)
own_rises j r t is are = subst Rises (sym (is.own t)) (within_rises r.floor.0 r.read (λ l. has (actors l) t) 1 (survivors j) are.rising)

pub same_number : (n : ℕ) → nat_eq n n ≡ true
same_number n = grind (arith, nat_tests)

pub or_second : (a b : Bool) → b ≡ true → (a || b) ≡ true
or_second true b is = refl
or_second false b is = is
