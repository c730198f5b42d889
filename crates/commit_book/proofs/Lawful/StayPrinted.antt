-- Of the printed values those stay whose prints stay, of which only the ones since the last cut need to be known.
use Rattle.std.proofs.Common.{◌≡◌, ℕ, suc, ◌+◌, ◌-◌, ◌<◌, ◌≤◌, Bool, true, false, cond, not, ◌&&◌, List, [], ◌∷◌, ◌++◌, length, take, drop, map as each, Option, Some, None, refl, sym, ap, ◌∙◌, append_assoc, length-append, arith}
use Rattle.std.specs.Prelude.{filter, nat_lt}
use Rattle.std.specs.List.{AllByRecursion}
use Rattle.std.proofs.lemmas.Bool.Decides.{nat_tests}
use Rattle.stab_base.specs.Datum.{Datum}
use Rattle.stab_code.specs.Program.{ProgramParts}
use Rattle.stab_journal.specs.declared.event.Numbered.{Numbered}
use Rattle.stab_journal.specs.Due.{is_print}
use Rattle.stab_journal.specs.Journal.{RiseFrom}
use Rattle.language.specs.Plain.{PlainState, effect_of}
use Rattle.language.specs.Steps.{after_steps, effect_in, plain}
use Rattle.journal_laws.specs.Surviving.{printed_of, prints}
use Rattle.journal_laws.proofs.Stepping.{step_of}
use Rattle.journal_laws.proofs.Surviving.{some_is, some_none, no_steps}
use Rattle.commit_book.specs.Printing.{prints_above}
use Rattle.commit_book.proofs.Lawful.PrintCounts.{effect_long}

-- of printed values, whose last ones have these numbers, those whose prints stay
abbrev pub stay_of : (ℕ → Bool) → List ℕ → List Datum → List Datum
stay_of stays (q ∷ qs) (v ∷ vs) = cond (stays q) (v ∷ stay_of stays qs vs) (stay_of stays qs vs)
stay_of stays _ _ = []

abbrev pub stay_printed : (ℕ → Bool) → List ℕ → List Datum → List Datum
stay_printed stays qs vs = take (length vs - length qs) vs ++ stay_of stays qs (drop (length vs - length qs) vs)

-- the numbers of all prints of some steps
abbrev print_numbers : List Numbered → List ℕ
print_numbers ns = each (λ (n : Numbered). n.seq.0) (filter (λ (n : Numbered). is_print n.label) ns)

none_long : (vs : List Datum) → length vs ≡ 0 → vs ≡ []
none_long [] is = refl
none_long (v ∷ vs) is = absurd (omega (arith, is))

-- a value alone
record IsOne (vs : List Datum) : Type 0 where
  v : Datum
  is : vs ≡ v ∷ []

one_long : (vs : List Datum) → length vs ≡ 1 → IsOne vs
one_long [] is = absurd (omega (arith, is))
one_long (v ∷ []) is = record { v = v; is = refl }
one_long (v ∷ w ∷ vs) is = absurd (omega (arith, is))

cond_nil : (b : Bool) → cond {A = List Datum} b [] [] ≡ []
cond_nil true = refl
cond_nil false = refl

module _ (p : ProgramParts) where
  abbrev all_printed : Option PlainState → List Numbered → List Datum
  all_printed s ns = prints (effect_of p) (λ _. false) s ns

  -- the output of a run has what its steps printed
  pub output_is : (ns : List Numbered) (s end : PlainState) → after_steps (effect_of p) (Some s) ns ≡ Some end → end.output ≡ s.output ++ all_printed (Some s) ns
  output_is [] s end run = sym (append_nil s.output ∙ ap (λ (y : PlainState). y.output) (some_is run))
    where
      append_nil : (l : List Datum) → l ++ [] ≡ l
      append_nil [] = refl
      append_nil (x ∷ xs) = ap (λ t. x ∷ t) (append_nil xs)
  output_is (n ∷ ns) s end run =
      elim (plain (effect_of p) s n.seq.0 n.label) as (λ o. plain (effect_of p) s n.seq.0 n.label ≡ o → after_steps (effect_of p) o ns ≡ Some end → end.output ≡ s.output ++ (printed_of (effect_of p) (effect_in (effect_of p) s n.seq.0 n.label) ++ prints (effect_of p) (λ _. false) o ns)) [
        | None ↦ λ none run. absurd (some_none (sym run ∙ no_steps (effect_of p) ns))
        | (Some m) ↦ λ made run.
            let st = step_of (effect_of p) s n.seq.0 n.label m made in
            output_is ns m end run
            ∙ ap (λ (y : PlainState). y.output ++ all_printed (Some m) ns) st.is
            ∙ append_assoc s.output st.eff.printed (all_printed (Some m) ns)
            ∙ ap (λ o. s.output ++ (printed_of (effect_of p) o ++ all_printed (Some m) ns)) (sym st.found)
      ] refl run

  -- those that stay, by the numbers of their prints
  stay_all : (gone : ℕ → Bool) (ns : List Numbered) (s end : PlainState) → after_steps (effect_of p) (Some s) ns ≡ Some end → stay_of (λ q. not (gone q)) (print_numbers ns) (all_printed (Some s) ns) ≡ prints (effect_of p) gone (Some s) ns
  stay_all gone [] s end run = refl
  stay_all gone (n ∷ ns) s end run =
      elim (plain (effect_of p) s n.seq.0 n.label) as (λ o. plain (effect_of p) s n.seq.0 n.label ≡ o → after_steps (effect_of p) o ns ≡ Some end
      → stay_of (λ q. not (gone q)) (print_numbers (n ∷ ns)) (printed_of (effect_of p) (effect_in (effect_of p) s n.seq.0 n.label) ++ prints (effect_of p) (λ _. false) o ns) ≡ cond (gone n.seq.0) [] (printed_of (effect_of p) (effect_in (effect_of p) s n.seq.0 n.label)) ++ prints (effect_of p) gone o ns) [
        | None ↦ λ none run. absurd (some_none (sym run ∙ no_steps (effect_of p) ns))
        | (Some m) ↦ λ made run.
            let st = step_of (effect_of p) s n.seq.0 n.label m made in
            let long : length st.eff.printed ≡ cond (is_print n.label) 1 0 = effect_long p s n.seq.0 n.label st.eff st.found in
            ap (λ o. stay_of (λ q. not (gone q)) (print_numbers (n ∷ ns)) (printed_of (effect_of p) o ++ all_printed (Some m) ns)) st.found
            ∙ by_print n ns m (is_print n.label) refl st.eff.printed long (stay_all gone ns m end run)
            ∙ ap (λ o. cond (gone n.seq.0) [] (printed_of (effect_of p) o) ++ prints (effect_of p) gone (Some m) ns) (sym st.found)
      ] refl run
    where
      by_print : (n : Numbered) (ns : List Numbered) (m : PlainState) (b : Bool) → is_print n.label ≡ b → (vs : List Datum) → length vs ≡ cond b 1 0 → stay_of (λ q. not (gone q)) (print_numbers ns) (all_printed (Some m) ns) ≡ prints (effect_of p) gone (Some m) ns
          → stay_of (λ q. not (gone q)) (print_numbers (n ∷ ns)) (vs ++ all_printed (Some m) ns) ≡ cond (gone n.seq.0) [] vs ++ prints (effect_of p) gone (Some m) ns
      by_print n ns m true is vs long more =
          let one = one_long vs long in
          ap (λ b. stay_of (λ q. not (gone q)) (each (λ (k : Numbered). k.seq.0) (cond b (n ∷ filter (λ (k : Numbered). is_print k.label) ns) (filter (λ (k : Numbered). is_print k.label) ns))) (vs ++ all_printed (Some m) ns)) is
          ∙ ap (λ l. stay_of (λ q. not (gone q)) (n.seq.0 ∷ print_numbers ns) (l ++ all_printed (Some m) ns)) one.is
          ∙ ap (λ l. cond (not (gone n.seq.0)) (one.v ∷ l) l) more
          ∙ (elim (gone n.seq.0) as (λ g. cond (not g) (one.v ∷ prints (effect_of p) gone (Some m) ns) (prints (effect_of p) gone (Some m) ns) ≡ cond g [] (one.v ∷ []) ++ prints (effect_of p) gone (Some m) ns) [ true ↦ refl | false ↦ refl ])
          ∙ ap (λ l. cond (gone n.seq.0) [] l ++ prints (effect_of p) gone (Some m) ns) (sym one.is)
      by_print n ns m false is vs long more =
          let none = none_long vs long in
          ap (λ b. stay_of (λ q. not (gone q)) (each (λ (k : Numbered). k.seq.0) (cond b (n ∷ filter (λ (k : Numbered). is_print k.label) ns) (filter (λ (k : Numbered). is_print k.label) ns))) (vs ++ all_printed (Some m) ns)) is
          ∙ ap (λ l. stay_of (λ q. not (gone q)) (print_numbers ns) (l ++ all_printed (Some m) ns)) none
          ∙ more
          ∙ ap (λ l. l ++ prints (effect_of p) gone (Some m) ns) (sym (cond_nil (gone n.seq.0)))
          ∙ ap (λ l. cond (gone n.seq.0) [] l ++ prints (effect_of p) gone (Some m) ns) (sym none)

  -- as many values as prints
  as_many : (ns : List Numbered) (s end : PlainState) → after_steps (effect_of p) (Some s) ns ≡ Some end → length (all_printed (Some s) ns) ≡ length (print_numbers ns)
  as_many [] s end run = refl
  as_many (n ∷ ns) s end run =
      elim (plain (effect_of p) s n.seq.0 n.label) as (λ o. plain (effect_of p) s n.seq.0 n.label ≡ o → after_steps (effect_of p) o ns ≡ Some end → length (printed_of (effect_of p) (effect_in (effect_of p) s n.seq.0 n.label) ++ prints (effect_of p) (λ _. false) o ns) ≡ length (print_numbers (n ∷ ns))) [
        | None ↦ λ none run. absurd (some_none (sym run ∙ no_steps (effect_of p) ns))
        | (Some m) ↦ λ made run.
            let st = step_of (effect_of p) s n.seq.0 n.label m made in
            let long : length st.eff.printed ≡ cond (is_print n.label) 1 0 = effect_long p s n.seq.0 n.label st.eff st.found in
            ap (λ o. length (printed_of (effect_of p) o ++ all_printed (Some m) ns)) st.found
            ∙ length-append st.eff.printed (all_printed (Some m) ns)
            ∙ by_print n ns (is_print n.label) refl (length st.eff.printed) (length (all_printed (Some m) ns)) long (as_many ns m end run)
      ] refl run
    where
      by_print : (n : Numbered) (ns : List Numbered) (b : Bool) → is_print n.label ≡ b → (a k : ℕ) → a ≡ cond b 1 0 → k ≡ length (print_numbers ns) → a + k ≡ length (print_numbers (n ∷ ns))
      by_print n ns true is a k one more =
          (let sum : a + k ≡ suc (length (print_numbers ns)) = omega (arith, one, more) in sum)
          ∙ ap (λ b. length (each (λ (j : Numbered). j.seq.0) (cond b (n ∷ filter (λ (j : Numbered). is_print j.label) ns) (filter (λ (j : Numbered). is_print j.label) ns)))) (sym is)
      by_print n ns false is a k none more =
          (let sum : a + k ≡ length (print_numbers ns) = omega (arith, none, more) in sum)
          ∙ ap (λ b. length (each (λ (j : Numbered). j.seq.0) (cond b (n ∷ filter (λ (j : Numbered). is_print j.label) ns) (filter (λ (j : Numbered). is_print j.label) ns)))) (sym is)

-- ---- the prints up to a cut, and those since

lt_is : (a b : ℕ) → a < b → nat_lt a b ≡ true
lt_is a b h = grind (arith, nat_tests)

is_low : (f k : ℕ) → nat_lt f k ≡ false → k ≤ f
is_low f k h = grind (arith, nat_tests)

is_high : (f k : ℕ) → nat_lt f k ≡ true → f < k
is_high f k h = grind (arith, nat_tests)

all_high : (f q : ℕ) (ns : List Numbered) → f < q → RiseFrom q ns → print_numbers ns ≡ prints_above f ns
all_high f q [] low rise = refl
all_high f q (n ∷ ns) low rise =
    let over : f < n.seq.0 = let first = rise.0 in omega (arith, first, low) in
    let more : print_numbers ns ≡ prints_above f ns = all_high f (suc n.seq.0) ns (omega (arith, over)) rise.1 in
    let passes : (nat_lt f n.seq.0 && is_print n.label) ≡ is_print n.label = ap (λ b. b && is_print n.label) (lt_is f n.seq.0 over) in
    (elim (is_print n.label) as (λ b. each (λ (k : Numbered). k.seq.0) (cond b (n ∷ filter (λ (k : Numbered). is_print k.label) ns) (filter (λ (k : Numbered). is_print k.label) ns)) ≡ each (λ (k : Numbered). k.seq.0) (cond b (n ∷ filter (λ (k : Numbered). nat_lt f k.seq.0 && is_print k.label) ns) (filter (λ (k : Numbered). nat_lt f k.seq.0 && is_print k.label) ns))) [ true ↦ ap (λ l. n.seq.0 ∷ l) more | false ↦ more ])
    ∙ ap (λ b. each (λ (k : Numbered). k.seq.0) (cond b (n ∷ filter (λ (k : Numbered). nat_lt f k.seq.0 && is_print k.label) ns) (filter (λ (k : Numbered). nat_lt f k.seq.0 && is_print k.label) ns))) (sym passes)

-- the numbers of the prints: those up to f, and then the others
record IsSplit (f : ℕ) (ns : List Numbered) : Type 0 where
  front : List ℕ
  is : print_numbers ns ≡ front ++ prints_above f ns
  low : AllByRecursion (λ q. q ≤ f) front

split_at : (f q : ℕ) (ns : List Numbered) → RiseFrom q ns → IsSplit f ns
split_at f q [] rise = record { front = []; is = refl; low = tt }
split_at f q (n ∷ ns) rise =
    elim (nat_lt f n.seq.0) as (λ b. nat_lt f n.seq.0 ≡ b → IsSplit f (n ∷ ns)) [
      | true ↦ λ high. record { front = []; is = all_high f n.seq.0 (n ∷ ns) (is_high f n.seq.0 high) (omega arith, rise.1); low = tt }
      | false ↦ λ under.
          let more = split_at f (suc n.seq.0) ns rise.1 in
          let skips : prints_above f (n ∷ ns) ≡ prints_above f ns = ap (λ b. each (λ (k : Numbered). k.seq.0) (cond (b && is_print n.label) (n ∷ filter (λ (k : Numbered). nat_lt f k.seq.0 && is_print k.label) ns) (filter (λ (k : Numbered). nat_lt f k.seq.0 && is_print k.label) ns))) under in
          by_print n ns more.front more.is more.low (is_low f n.seq.0 under) skips (is_print n.label) refl
    ] refl
  where
    by_print : (n : Numbered) (ns : List Numbered) (front : List ℕ) → print_numbers ns ≡ front ++ prints_above f ns → AllByRecursion (λ q. q ≤ f) front → n.seq.0 ≤ f → prints_above f (n ∷ ns) ≡ prints_above f ns → (b : Bool) → is_print n.label ≡ b → IsSplit f (n ∷ ns)
    by_print n ns front is low under skips true prints_it = record {
      front = n.seq.0 ∷ front;
      is = ap (λ b. each (λ (k : Numbered). k.seq.0) (cond b (n ∷ filter (λ (k : Numbered). is_print k.label) ns) (filter (λ (k : Numbered). is_print k.label) ns))) prints_it ∙ ap (λ l. n.seq.0 ∷ l) is ∙ ap (λ l. (n.seq.0 ∷ front) ++ l) (sym skips);
      low = (under, low);
    }
    by_print n ns front is low under skips false prints_it = record {
      front = front;
      is = ap (λ b. each (λ (k : Numbered). k.seq.0) (cond b (n ∷ filter (λ (k : Numbered). is_print k.label) ns) (filter (λ (k : Numbered). is_print k.label) ns))) prints_it ∙ is ∙ ap (λ l. front ++ l) (sym skips);
      low = low;
    }

-- prints that stay all keep their values
stay_front : (stays : ℕ → Bool) (front qs : List ℕ) (vs : List Datum) → AllByRecursion (λ q. stays q ≡ true) front → length front ≤ length vs → stay_of stays (front ++ qs) vs ≡ take (length front) vs ++ stay_of stays qs (drop (length front) vs)
stay_front stays [] qs vs all low = refl
stay_front stays (q ∷ front) qs [] all low = absurd (omega (arith, low))
stay_front stays (q ∷ front) qs (v ∷ vs) all low =
    ap (λ b. cond b (v ∷ stay_of stays (front ++ qs) vs) (stay_of stays (front ++ qs) vs)) all.0
    ∙ ap (λ l. v ∷ l) (stay_front stays front qs vs all.1 (omega (arith, low)))

all_stay : (f : ℕ) (gone : ℕ → Bool) → ((k : ℕ) → gone k ≡ true → f < k) → (front : List ℕ) → AllByRecursion (λ q. q ≤ f) front → AllByRecursion (λ q. not (gone q) ≡ true) front
all_stay f gone above [] low = tt
all_stay f gone above (q ∷ front) low = (
  elim (gone q) as (λ b. gone q ≡ b → not b ≡ true) [
    | true ↦ λ goes. let over : f < q = above q goes in let under = low.0 in absurd (omega (arith, over, under))
    | false ↦ λ off. refl
  ] refl,
  all_stay f gone above front low.1,
)

-- what the last prints say of a run's output is what it printed without the steps that go
pub stay_prints : (p : ProgramParts) (run : List Numbered) (s end : PlainState) (f : ℕ) (gone : ℕ → Bool) → s.output ≡ [] → RiseFrom 1 run → after_steps (effect_of p) (Some s) run ≡ Some end → ((k : ℕ) → gone k ≡ true → f < k)
    → stay_printed (λ q. not (gone q)) (prints_above f run) end.output ≡ prints (effect_of p) gone (Some s) run
stay_prints p run s end f gone none rise ends above =
    let qs = prints_above f run in
    let vs = all_printed p (Some s) run in
    let split = split_at f 1 run rise in
    let out : end.output ≡ vs = output_is p run s end ends ∙ ap (λ l. l ++ vs) none in
    let long : length vs ≡ length split.front + length qs = as_many p run s end ends ∙ ap length split.is ∙ length-append split.front qs in
    let front : length vs - length qs ≡ length split.front = omega (arith, long) in
    ap (stay_printed (λ q. not (gone q)) qs) out
    ∙ ap (λ k. take k vs ++ stay_of (λ q. not (gone q)) qs (drop k vs)) front
    ∙ sym (stay_front (λ q. not (gone q)) split.front qs vs (all_stay f gone above split.front split.low) (omega (arith, long)))
    ∙ ap (λ l. stay_of (λ q. not (gone q)) l vs) (sym split.is)
    ∙ stay_all p gone run s end ends
