-- The kept prints while the run goes on, loses steps and is cut.
use Rattle.std.proofs.Common.{◌≡◌, ℕ, ◌+◌, ◌-◌, ◌<◌, ◌≤◌, Bool, true, false, cond, not, ◌&&◌, ◌||◌, nat_eq, List, [], ◌∷◌, ◌++◌, length, take, drop, map as each, refl, sym, ap, subst, ◌∙◌, append_assoc, length-append, append-nil, arith}
use Rattle.std.specs.Prelude.{filter, nat_lt}
use Rattle.std.specs.List.{AllByRecursion}
use Rattle.std.proofs.lemmas.Bool.{false≢true, eqb-true}
use Rattle.std.proofs.lemmas.Bool.Decides.{nat_tests}
use Rattle.std.proofs.lemmas.List.{length-map, map-append}
use Rattle.stab_base.specs.Datum.{Datum}
use Rattle.stab_journal.specs.declared.event.Label.{Label}
use Rattle.stab_journal.specs.declared.event.Label.TheVariants.{Local}
use Rattle.stab_journal.specs.declared.event.Numbered.{Numbered}
use Rattle.stab_journal.specs.Due.{is_print, final_prints}
use Rattle.stab_journal.specs.Floor.{floor, floor_from, is_cut}
use Rattle.stab_journal.specs.Journal.{Journal, survivors}
use Rattle.stab_journal.specs.Names.{has}
use Rattle.stab_journal.specs.Reached.{rest}
use Rattle.print_log.specs.Log.{Print, Prints, has_print, values}
use Rattle.commit_book.specs.declared.parts.Parts.{Parts}
use Rattle.commit_book.specs.Acting.{AreAsBefore, IsLonger}
use Rattle.commit_book.specs.Printing.{ArePrints, numbers_of, prints_above}
use Rattle.commit_book.specs.Rows.{local_of, thread}
use Rattle.commit_book.proofs.Keeping.EventSteps.{finals_step}
use Rattle.commit_book.proofs.Keeping.Floors.{less_is}
use Rattle.commit_book.proofs.Undoing.LostSteps.{survivors_up_to}
use Rattle.commit_book.proofs.Lawful.StayPrinted.{stay_of, stay_printed}
use Rattle.commit_book.proofs.Undoing.StruckSteps.{IsStepAt}

-- ---- the numbers of a run's prints

abbrev seqs : List Numbered → List ℕ
seqs ns = each (λ (n : Numbered). n.seq.0) ns

abbrev is_above : ℕ → Numbered → Bool
is_above f n = nat_lt f n.seq.0 && is_print n.label

abbrev above : ℕ → List Numbered → List Numbered
above f ns = filter (λ (n : Numbered). nat_lt f n.seq.0 && is_print n.label) ns

prints-cons : (f : ℕ) (n : Numbered) (ns : List Numbered) → prints_above f (n ∷ ns) ≡ cond (is_above f n) (n.seq.0 ∷ prints_above f ns) (prints_above f ns)
prints-cons f n ns = elim (is_above f n) as (λ b. seqs (cond b (n ∷ above f ns) (above f ns)) ≡ cond b (n.seq.0 ∷ seqs (above f ns)) (seqs (above f ns))) [ true ↦ refl | false ↦ refl ]

joined : (b : Bool) (q : ℕ) (xs ys : List ℕ) → cond b (q ∷ (xs ++ ys)) (xs ++ ys) ≡ cond b (q ∷ xs) xs ++ ys
joined true q xs ys = refl
joined false q xs ys = refl

prints-append : (f : ℕ) (xs ys : List Numbered) → prints_above f (xs ++ ys) ≡ prints_above f xs ++ prints_above f ys
prints-append f [] ys = refl
prints-append f (n ∷ xs) ys =
    prints-cons f n (xs ++ ys)
    ∙ ap (λ l. cond (is_above f n) (n.seq.0 ∷ l) l) (prints-append f xs ys)
    ∙ joined (is_above f n) n.seq.0 (prints_above f xs) (prints_above f ys)
    ∙ ap (λ l. l ++ prints_above f ys) (sym (prints-cons f n xs))

prints-one : (f : ℕ) (n : Numbered) → f < n.seq.0 → prints_above f (n ∷ []) ≡ cond (is_print n.label) (n.seq.0 ∷ []) []
prints-one f n low = prints-cons f n [] ∙ ap (λ b. cond (b && is_print n.label) (n.seq.0 ∷ []) []) (less_is f n.seq.0 low)

-- without some steps
pub prints_rest : (f : ℕ) (gone : ℕ → Bool) (run : List Numbered) → filter (λ q. not (gone q)) (prints_above f run) ≡ prints_above f (rest gone run)
prints_rest f gone [] = refl
prints_rest f gone (n ∷ run) =
    let more = prints_rest f gone run in
    ap (filter (λ q. not (gone q))) (prints-cons f n run)
    ∙ (elim (is_above f n) as (λ b. filter (λ q. not (gone q)) (cond b (n.seq.0 ∷ prints_above f run) (prints_above f run)) ≡ cond (gone n.seq.0) (prints_above f (rest gone run)) (cond b (n.seq.0 ∷ prints_above f (rest gone run)) (prints_above f (rest gone run)))) [
      | true ↦
          ap (λ l. cond (not (gone n.seq.0)) (n.seq.0 ∷ l) l) more
          ∙ (elim (gone n.seq.0) as (λ c. cond (not c) (n.seq.0 ∷ prints_above f (rest gone run)) (prints_above f (rest gone run)) ≡ cond c (prints_above f (rest gone run)) (n.seq.0 ∷ prints_above f (rest gone run))) [ true ↦ refl | false ↦ refl ])
      | false ↦ more ∙ (elim (gone n.seq.0) as (λ c. prints_above f (rest gone run) ≡ cond c (prints_above f (rest gone run)) (prints_above f (rest gone run))) [ true ↦ refl | false ↦ refl ])
    ])
    ∙ (elim (gone n.seq.0) as (λ c. cond c (prints_above f (rest gone run)) (cond (is_above f n) (n.seq.0 ∷ prints_above f (rest gone run)) (prints_above f (rest gone run))) ≡ prints_above f (cond c (rest gone run) (n ∷ rest gone run))) [
      | true ↦ refl
      | false ↦ sym (prints-cons f n (rest gone run))
    ])

-- none is above the last number
pub prints_none : (f : ℕ) (run : List Numbered) → AllByRecursion (λ (n : Numbered). n.seq.0 ≤ f) run → prints_above f run ≡ []
prints_none f [] low = refl
prints_none f (n ∷ run) low =
    prints-cons f n run
    ∙ ap (λ b. cond (b && is_print n.label) (n.seq.0 ∷ prints_above f run) (prints_above f run)) (not_above f n.seq.0 low.0)
    ∙ prints_none f run low.1
  where
    not_above : (f q : ℕ) → q ≤ f → nat_lt f q ≡ false
    not_above f q low = grind (arith, nat_tests)

all_under : (f e : ℕ) (run : List Numbered) → AllByRecursion (λ (n : Numbered). n.seq.0 ≤ e) run → AllByRecursion (λ q. q ≤ e) (prints_above f run)
all_under f e [] low = tt
all_under f e (n ∷ run) low =
    let more = all_under f e run low.1 in
    subst (λ qs. AllByRecursion (λ q. q ≤ e) qs) (sym (prints-cons f n run))
    (elim (is_above f n) as (λ b. AllByRecursion (λ q. q ≤ e) (cond b (n.seq.0 ∷ prints_above f run) (prints_above f run))) [ true ↦ (low.0, more) | false ↦ more ])

-- the step of a number among them
pub record IsPrintAt (run : List Numbered) (q : ℕ) : Type 0 where
  pub at : IsStepAt run q
  pub prints : is_print at.n.label ≡ true

later : (n : Numbered) (run : List Numbered) (q : ℕ) → IsPrintAt run q → IsPrintAt (n ∷ run) q
later n run q s = record { at = record { before = n ∷ s.at.before; n = s.at.n; after = s.at.after; is = ap (λ l. n ∷ l) s.at.is; number = s.at.number }; prints = s.prints }

and_second : (a b : Bool) → (a && b) ≡ true → b ≡ true
and_second true b both = both
and_second false b both = absurd (false≢true both)

pub print_at : (f : ℕ) (run : List Numbered) (q : ℕ) → has (prints_above f run) q ≡ true → IsPrintAt run q
print_at f [] q there = absurd (false≢true there)
print_at f (n ∷ run) q there =
    elim (is_above f n) as (λ b. is_above f n ≡ b → has (cond b (n.seq.0 ∷ prints_above f run) (prints_above f run)) q ≡ true → IsPrintAt (n ∷ run) q) [
      | true ↦ λ is at. elim (nat_eq q n.seq.0) as (λ c. nat_eq q n.seq.0 ≡ c → cond c true (has (prints_above f run) q) ≡ true → IsPrintAt (n ∷ run) q) [
        | true ↦ λ same at. record { at = record { before = []; n = n; after = run; is = refl; number = sym (eqb-true q n.seq.0 same) }; prints = and_second (nat_lt f n.seq.0) (is_print n.label) is }
        | false ↦ λ other at. later n run q (print_at f run q at)
      ] refl at
      | false ↦ λ is at. later n run q (print_at f run q at)
    ] refl (ap (λ l. has l q) (sym (prints-cons f n run)) ∙ there)

-- ---- the numbers of prints

pub has_numbers : (q : ℕ) (ps : List Print) → has_print q ps ≡ has (numbers_of ps) q
has_numbers q [] = refl
has_numbers q (p ∷ ps) = elim (nat_eq q p.number) as (λ b. (b || has_print q ps) ≡ cond b true (has (numbers_of ps) q)) [ true ↦ refl | false ↦ has_numbers q ps ]

numbers_stay : (gone : ℕ → Bool) (ps : List Print) → numbers_of (filter (λ (p : Print). not (gone p.number)) ps) ≡ filter (λ q. not (gone q)) (numbers_of ps)
numbers_stay gone [] = refl
numbers_stay gone (p ∷ ps) =
    (elim (gone p.number) as (λ b. numbers_of (cond (not b) (p ∷ filter (λ (x : Print). not (gone x.number)) ps) (filter (λ (x : Print). not (gone x.number)) ps)) ≡ cond (not b) (p.number ∷ numbers_of (filter (λ (x : Print). not (gone x.number)) ps)) (numbers_of (filter (λ (x : Print). not (gone x.number)) ps))) [ true ↦ refl | false ↦ refl ])
    ∙ ap (λ l. cond (not (gone p.number)) (p.number ∷ l) l) (numbers_stay gone ps)

-- the next print is above all of them
pub prints_below : (j : Journal) (log : Prints) → ArePrints j log → AllByRecursion (λ (p : Print). p.number < length j.events + 1) log.recent
prints_below j log is = by log.recent (subst (λ qs. AllByRecursion (λ q. q ≤ length j.events) qs) (sym is.recent) (all_under (floor (survivors j)) (length j.events) (survivors j) (survivors_up_to j)))
  where
    by : (ps : List Print) → AllByRecursion (λ q. q ≤ length j.events) (numbers_of ps) → AllByRecursion (λ (p : Print). p.number < length j.events + 1) ps
    by [] low = tt
    by (p ∷ ps) low = (let under : p.number ≤ length j.events = low.0 in omega (arith, under), by ps low.1)

-- ---- a step more

floor_under : (e f : ℕ) (run : List Numbered) → f ≤ e → AllByRecursion (λ (n : Numbered). n.seq.0 ≤ e) run → floor_from f run ≤ e
floor_under e f [] low all = low
floor_under e f (n ∷ run) low all = floor_under e (cond (is_cut n.label) n.seq.0 f) run (by (is_cut n.label)) all.1
  where
    by : (b : Bool) → cond b n.seq.0 f ≤ e
    by true = all.0
    by false = low

floor_stays : (f : ℕ) (run : List Numbered) (n : Numbered) → is_cut n.label ≡ false → floor_from f (run ++ n ∷ []) ≡ floor_from f run
floor_stays f [] n uncut = ap (λ b. cond b n.seq.0 f) uncut
floor_stays f (k ∷ run) n uncut = floor_stays (cond (is_cut k.label) k.seq.0 f) run n uncut

-- what the step with the number q and this label leaves of the prints
pub record IsPrintedBy (old new : Prints) (q : ℕ) (l : Label) : Type 0 where
  pub finals : new.finals ≡ old.finals
  pub recent : numbers_of new.recent ≡ numbers_of old.recent ++ cond (is_print l) (q ∷ []) []

-- of one that doesn't print
pub unprinting : (old new : Prints) (q : ℕ) (l : Label) → is_print l ≡ false → new ≡ old → IsPrintedBy old new q l
unprinting old new q l silent same = record {
  finals = ap (λ (p : Prints). p.finals) same;
  recent = ap (λ (p : Prints). numbers_of p.recent) same ∙ sym (append-nil (numbers_of old.recent)) ∙ ap (λ b. numbers_of old.recent ++ cond b (q ∷ []) []) (sym silent);
}

-- a value came to the end
pub record IsPutBehind (old new : Prints) (q : ℕ) (v : Datum) : Type 0 where
  pub finals : new.finals ≡ old.finals
  pub recent : new.recent ≡ old.recent ++ record { number = q; value = v } ∷ []

pub values_more : (old new : Prints) (q : ℕ) (v : Datum) → IsPutBehind old new q v → values new ≡ values old ++ v ∷ []
values_more old new q v is =
    ap (λ fs. fs ++ each (λ (p : Print). p.value) new.recent) is.finals
    ∙ ap (λ ps. old.finals ++ each (λ (p : Print). p.value) ps) is.recent
    ∙ ap (λ l. old.finals ++ l) (map-append (λ (p : Print). p.value) old.recent (record { number = q; value = v } ∷ []))
    ∙ sym (append_assoc old.finals (each (λ (p : Print). p.value) old.recent) (v ∷ []))

pub printing : (old new : Prints) (q : ℕ) (v : Datum) (l : Label) → is_print l ≡ true → IsPutBehind old new q v → IsPrintedBy old new q l
printing old new q v l prints is = record {
  finals = is.finals;
  recent =
      ap numbers_of is.recent ∙ map-append (λ (p : Print). p.number) old.recent (record { number = q; value = v } ∷ [])
      ∙ ap (λ b. numbers_of old.recent ++ cond b (q ∷ []) []) (sym prints);
}

step_prints : (old new : Journal) (p q : Prints) (n : Numbered) → survivors new ≡ survivors old ++ n ∷ [] → n.seq.0 ≡ length old.events + 1 → is_cut n.label ≡ false → IsPrintedBy p q n.seq.0 n.label → ArePrints old p → ArePrints new q
step_prints old new p q n more number uncut by is =
    let low : floor (survivors old) ≤ length old.events = floor_under (length old.events) 0 (survivors old) (omega arith) (survivors_up_to old) in
    let over : floor (survivors old) < n.seq.0 = omega (arith, low, number) in
    record {
      finals = ap length by.finals ∙ is.finals ∙ sym (ap final_prints more ∙ finals_step (survivors old) n uncut over);
      recent =
          by.recent ∙ ap (λ l. l ++ cond (is_print n.label) (n.seq.0 ∷ []) []) is.recent
          ∙ ap (λ l. prints_above (floor (survivors old)) (survivors old) ++ l) (sym (prints-one (floor (survivors old)) n over))
          ∙ sym (prints-append (floor (survivors old)) (survivors old) (n ∷ []))
          ∙ ap (λ f. prints_above f (survivors old ++ n ∷ [])) (sym (floor_stays 0 (survivors old) n uncut))
          ∙ ap (λ (run : List Numbered). prints_above (floor run) run) (sym more);
    }

-- no step more
pub keep_prints : (old new : Journal) (p q : Prints) → survivors new ≡ survivors old → q.finals ≡ p.finals → q.recent ≡ p.recent → ArePrints old p → ArePrints new q
keep_prints old new p q same finals recent is = record {
  finals = ap length finals ∙ is.finals ∙ ap final_prints (sym same);
  recent = ap numbers_of recent ∙ is.recent ∙ ap (λ (run : List Numbered). prints_above (floor run) run) (sym same);
}

-- ---- in a commit

pub same_prints : (old new : Parts) → AreAsBefore old new → ArePrints old.history old.printed → ArePrints new.history new.printed
same_prints old new before is = keep_prints old.history new.history old.printed new.printed (ap survivors before.history) before.finals before.recent is

-- the pure steps were pushed once there was room
pub begun_prints : (old planned begins : Parts) (worker t n : ℕ) → AreAsBefore old planned → IsLonger planned.history begins.history worker (local_of t n) → begins ≡ record planned { history = begins.history } → ArePrints old.history old.printed → ArePrints begins.history begins.printed
begun_prints old planned begins worker t n before longer rest is =
    elim (nat_eq n 0) as (λ b. IsLonger planned.history begins.history worker (cond b [] (Local (thread t) n ∷ [])) → ArePrints begins.history begins.printed) [
      | true ↦ λ none. keep_prints planned.history begins.history planned.printed begins.printed (none.survivors ∙ append-nil (survivors planned.history)) (ap (λ (p : Prints). p.finals) same) (ap (λ (p : Prints). p.recent) same) so_far
      | false ↦ λ one. step_prints planned.history begins.history planned.printed begins.printed (record { seq = record { 0 = length planned.history.events + 1 }; label = Local (thread t) n }) one.survivors refl refl
          (unprinting planned.printed begins.printed (length planned.history.events + 1) (Local (thread t) n) refl same) so_far
    ] longer
  where
    so_far : ArePrints planned.history planned.printed
    so_far = same_prints old planned before is

    same : begins.printed ≡ planned.printed
    same = ap (λ (x : Parts). x.printed) rest

-- a step was pushed that is no cut
pub stepped_prints : (begins new : Parts) (worker : ℕ) (l : Label) → IsLonger begins.history new.history worker (l ∷ []) → is_cut l ≡ false → IsPrintedBy begins.printed new.printed (length begins.history.events + 1) l → ArePrints begins.history begins.printed → ArePrints new.history new.printed
stepped_prints begins new worker l longer uncut by is =
    step_prints begins.history new.history begins.printed new.printed (record { seq = record { 0 = length begins.history.events + 1 }; label = l }) longer.survivors refl uncut by is

-- no step was
pub still_prints : (begins new : Parts) → new.history ≡ begins.history → new.printed ≡ begins.printed → ArePrints begins.history begins.printed → ArePrints new.history new.printed
still_prints begins new history same is = keep_prints begins.history new.history begins.printed new.printed (ap survivors history) (ap (λ (p : Prints). p.finals) same) (ap (λ (p : Prints). p.recent) same) is

-- ---- in an undo

-- the values of the prints that stay
values_stay : (gone : ℕ → Bool) (ps : List Print) → each (λ (p : Print). p.value) (filter (λ (p : Print). not (gone p.number)) ps) ≡ stay_of (λ q. not (gone q)) (numbers_of ps) (each (λ (p : Print). p.value) ps)
values_stay gone [] = refl
values_stay gone (p ∷ ps) =
    (elim (gone p.number) as (λ b. each (λ (x : Print). x.value) (cond (not b) (p ∷ filter (λ (x : Print). not (gone x.number)) ps) (filter (λ (x : Print). not (gone x.number)) ps)) ≡ cond (not b) (p.value ∷ each (λ (x : Print). x.value) (filter (λ (x : Print). not (gone x.number)) ps)) (each (λ (x : Print). x.value) (filter (λ (x : Print). not (gone x.number)) ps))) [ true ↦ refl | false ↦ refl ])
    ∙ ap (λ l. cond (not (gone p.number)) (p.value ∷ l) l) (values_stay gone ps)

pub take_front : {X : Type 0} (xs ys : List X) → take (length xs) (xs ++ ys) ≡ xs
take_front [] ys = refl
take_front (x ∷ xs) ys = ap (λ l. x ∷ l) (take_front xs ys)

drop_front : {X : Type 0} (xs ys : List X) → drop (length xs) (xs ++ ys) ≡ ys
drop_front [] ys = refl
drop_front (x ∷ xs) ys = drop_front xs ys

-- all values that stay, by the numbers of the prints since the last cut
pub left_values : (gone : ℕ → Bool) (old new : Prints) → new.finals ≡ old.finals → new.recent ≡ filter (λ (p : Print). not (gone p.number)) old.recent → values new ≡ stay_printed (λ q. not (gone q)) (numbers_of old.recent) (values old)
left_values gone old new finals recent =
    let vs = each (λ (p : Print). p.value) old.recent in
    let qs = numbers_of old.recent in
    let one : length vs ≡ length old.recent = length-map old.recent (λ (p : Print). p.value) in
    let other : length qs ≡ length old.recent = length-map old.recent (λ (p : Print). p.number) in
    let long = length-append old.finals vs in
    let front : length (values old) - length qs ≡ length old.finals = omega (arith, one, other, long) in
    ap (λ fs. fs ++ each (λ (p : Print). p.value) new.recent) finals
    ∙ ap (λ ps. old.finals ++ each (λ (p : Print). p.value) ps) recent
    ∙ ap (λ l. old.finals ++ l) (values_stay gone old.recent)
    ∙ sym (ap (λ k. take k (values old) ++ stay_of (λ q. not (gone q)) qs (drop k (values old))) front
    ∙ ap (λ l. l ++ stay_of (λ q. not (gone q)) qs (drop (length old.finals) (values old))) (take_front old.finals vs)
    ∙ ap (λ l. old.finals ++ stay_of (λ q. not (gone q)) qs l) (drop_front old.finals vs))

-- the prints that stay are those of the run that stays
pub left_prints : (old new : Journal) (p q : Prints) (gone : ℕ → Bool) → survivors new ≡ rest gone (survivors old) → floor (survivors new) ≡ floor (survivors old) → final_prints (survivors new) ≡ final_prints (survivors old)
    → q.finals ≡ p.finals → q.recent ≡ filter (λ (x : Print). not (gone x.number)) p.recent → ArePrints old p → ArePrints new q
left_prints old new p q gone left same_floor same_finals finals recent is = record {
  finals = ap length finals ∙ is.finals ∙ sym same_finals;
  recent =
      ap numbers_of recent ∙ numbers_stay gone p.recent ∙ ap (filter (λ k. not (gone k))) is.recent
      ∙ prints_rest (floor (survivors old)) gone (survivors old)
      ∙ ap (prints_above (floor (survivors old))) (sym left)
      ∙ ap (λ f. prints_above f (survivors new)) (sym same_floor);
}
