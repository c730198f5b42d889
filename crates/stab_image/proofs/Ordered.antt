-- The lines of an image stand in order.
use Rattle.std.proofs.Common.{◌≡◌, ℕ, zero, suc, ◌+◌, ◌-◌, ◌<◌, ◌≤◌, Bool, true, false, cond, T, List, [], ◌∷◌, ◌++◌, Option, Some, None, refl, sym, ap, ◌∙◌, arith}
use Rattle.std.specs.Prelude.{map as each}
use Rattle.std.specs.List.{AllByRecursion}
use Rattle.std.specs.Ordering.{is_lt, nat_cmp}
use Rattle.std.specs.Cmp.{ranked, unsigned_tied}
use Rattle.std.specs.declared.cmp.Ordering.{Ordering}
use Rattle.std.specs.declared.cmp.Ordering.TheVariants.{Less, Equal, Greater}
use Rattle.std.specs.FinMap as map
use Rattle.std.specs.FinMap.Entries.{below_all}
use Rattle.std.specs.FinSet as set
use Rattle.std.specs.FinMap.{FinMap, entries, entries_sorted, find, get-entries, is_sorted}
use Rattle.std.proofs.lemmas.Bool.{and_parts, eq-eqb, false≢true, ne_eqb}
use Rattle.stab_base.specs.Datum.{Datum}
use Rattle.language.specs.Expression.{Expr}
use Rattle.image_laws.specs.Image.{Image}
use Rattle.image_text.specs.Rising.{IsRising, those}
use Rattle.image_lines.specs.declared.line.Line.{Line}
use Rattle.image_lines.specs.declared.line.Line.TheVariants.{Chan, Ref, Out, Thread, End}
use Rattle.image_state.specs.Order.{AreOrdered, follows_last}
use Rattle.stab_image.specs.Written.{channel_line, lines_of, output_line, reference_line, thread_line}
use Rattle.stab_image.proofs.Expressions.{below_so}

is_true : (b : Bool) → T b → b ≡ true
is_true true h = refl
is_true false h = absurd h

less_is : (o : Ordering) → is_lt o ≡ true → o ≡ Less
less_is Less h = refl
less_is Equal h = absurd (false≢true h)
less_is Greater h = absurd (false≢true h)

module _ {X : Type 0} where
  rising_behind : (n : ℕ) (es : List (ℕ × X)) → below_all nat_cmp n es ≡ true → is_sorted nat_cmp es ≡ true → IsRising n es
  rising_behind n [] low sorted = tt
  rising_behind n (e ∷ es) low sorted =
      let first = and_parts (is_lt (nat_cmp n e.0)) (below_all nat_cmp n es) low in
      let more = and_parts (below_all nat_cmp e.0 es) (is_sorted nat_cmp es) sorted in
      (ranked n e.0 Less (sym (less_is (nat_cmp n e.0) first.0)), rising_behind e.0 es more.0 more.1)

  -- entries whose keys are from 1 on
  sorted_rising : (es : List (ℕ × X)) → AllByRecursion (λ (e : ℕ × X). 1 ≤ e.0) es → is_sorted nat_cmp es ≡ true → IsRising 0 es
  sorted_rising [] low sorted = tt
  sorted_rising (e ∷ es) low sorted =
      let more = and_parts (below_all nat_cmp e.0 es) (is_sorted nat_cmp es) sorted in
      (omega (arith, low.0), rising_behind e.0 es more.0 more.1)

  pub entries_rise : (m : FinMap nat_cmp X) → AllByRecursion (λ (e : ℕ × X). 1 ≤ e.0) (entries m) → IsRising 0 (entries m)
  entries_rise m low = sorted_rising (entries m) low (is_true (is_sorted nat_cmp (entries m)) (entries_sorted m))

  -- each entry is found
  abbrev Found : List (ℕ × X) → ℕ × X → Type 0
  Found es e = find nat_cmp e.0 es ≡ Some e.1

  found_later : (n : ℕ) (x : X) (es fs : List (ℕ × X)) → AllByRecursion (λ (f : ℕ × X). n < f.0) fs → AllByRecursion (Found es) fs → AllByRecursion (Found ((n, x) ∷ es)) fs
  found_later n x es [] up all = tt
  found_later n x es (f ∷ fs) up all =
      let here = up.0 in
      (ap (λ b. cond b (Some x) (find nat_cmp f.0 es)) (unsigned_tied f.0 n ∙ ne_eqb f.0 n (λ same. omega arith)) ∙ all.0, found_later n x es fs up.1 all.1)

  all_above : (n : ℕ) (es : List (ℕ × X)) → below_all nat_cmp n es ≡ true → AllByRecursion (λ (f : ℕ × X). n < f.0) es
  all_above n [] low = tt
  all_above n (e ∷ es) low =
      let first = and_parts (is_lt (nat_cmp n e.0)) (below_all nat_cmp n es) low in
      (ranked n e.0 Less (sym (less_is (nat_cmp n e.0) first.0)), all_above n es first.1)

  found_all : (es : List (ℕ × X)) → is_sorted nat_cmp es ≡ true → AllByRecursion (Found es) es
  found_all [] sorted = tt
  found_all (e ∷ es) sorted =
      let more = and_parts (below_all nat_cmp e.0 es) (is_sorted nat_cmp es) sorted in
      (ap (λ b. cond b (Some e.1) (find nat_cmp e.0 es)) (unsigned_tied e.0 e.0 ∙ eq-eqb e.0 e.0 refl), found_later e.0 e.1 es es (all_above e.0 es more.0) (found_all es more.1))

  got_all : (m : FinMap nat_cmp X) (es : List (ℕ × X)) → AllByRecursion (Found (entries m)) es → AllByRecursion (λ (e : ℕ × X). map.get m e.0 ≡ Some e.1) es
  got_all m [] all = tt
  got_all m (e ∷ es) all = (get-entries m e.0 ∙ all.0, got_all m es all.1)

  -- each entry of a map is what the map has
  pub entries_got : (m : FinMap nat_cmp X) → AllByRecursion (λ (e : ℕ × X). map.get m e.0 ≡ Some e.1) (entries m)
  entries_got m = got_all m (entries m) (found_all (entries m) (is_true (is_sorted nat_cmp (entries m)) (entries_sorted m)))

-- numbers that rise, from above this one
abbrev RisesAbove : ℕ → List ℕ → Type 0
RisesAbove n [] = Unit {0}
RisesAbove n (k ∷ ks) = (n < k) × RisesAbove k ks

those_rise : (has : ℕ → Bool) (n a count : ℕ) → n < a → RisesAbove n (those has a count)
those_rise has n a zero lt = tt
those_rise has n a (suc count) lt =
    elim (has a) as (λ b. RisesAbove n (cond b (a ∷ those has (suc a) count) (those has (suc a) count))) [
      | true ↦ (lt, those_rise has a (suc a) count (omega arith))
      | false ↦ those_rise has n (suc a) count (omega arith)
    ]

-- those that pass the test and are from one number up to another
pub those_pass : (has : ℕ → Bool) (a count : ℕ) → AllByRecursion (λ (k : ℕ). (has k ≡ true) × (a ≤ k) × (k < a + count)) (those has a count)
those_pass has a zero = tt
those_pass has a (suc count) =
    elim (has a) as (λ b. has a ≡ b → AllByRecursion (λ (k : ℕ). (has k ≡ true) × (a ≤ k) × (k < a + suc count)) (cond b (a ∷ those has (suc a) count) (those has (suc a) count))) [
      | true ↦ λ is. ((is, omega arith, omega arith), wider (those has (suc a) count) (those_pass has (suc a) count))
      | false ↦ λ is. wider (those has (suc a) count) (those_pass has (suc a) count)
    ] refl
  where
    wider : (ks : List ℕ) → AllByRecursion (λ (k : ℕ). (has k ≡ true) × (suc a ≤ k) × (k < suc a + count)) ks → AllByRecursion (λ (k : ℕ). (has k ≡ true) × (a ≤ k) × (k < a + suc count)) ks
    wider [] all = tt
    wider (k ∷ ks) all = let low = all.0.1 in let high = all.0.2 in ((all.0.0, omega arith, omega arith), wider ks all.1)

-- a line before those of the threads, of what was printed, of the references
abbrev IsEarly : Option Line → Type 0
IsEarly None = Unit {0}
IsEarly (Some (Chan c)) = Unit {0}
IsEarly (Some (Ref r v)) = Unit {0}
IsEarly (Some (Out v)) = Unit {0}
IsEarly (Some l) = ⊥

abbrev IsFirst : Option Line → Type 0
IsFirst None = Unit {0}
IsFirst (Some (Chan c)) = Unit {0}
IsFirst (Some l) = ⊥

early_first : (last : Option Line) → IsFirst last → IsEarly last
early_first None h = tt
early_first (Some (Chan c)) h = tt
early_first (Some (Ref r v)) h = absurd h
early_first (Some (Out v)) h = absurd h
early_first (Some (Thread t g e)) h = absurd h
early_first (Some End) h = absurd h

thread_follows : (i : Image) (t : ℕ × Expr) (last : Option Line) → IsEarly last → follows_last last (thread_line i t) ≡ true
thread_follows i t None h = refl
thread_follows i t (Some (Chan c)) h = refl
thread_follows i t (Some (Ref r v)) h = refl
thread_follows i t (Some (Out v)) h = refl
thread_follows i t (Some (Thread u g e)) h = absurd h
thread_follows i t (Some End) h = absurd h

output_follows : (w : Datum) (last : Option Line) → IsEarly last → follows_last last (output_line w) ≡ true
output_follows w None h = refl
output_follows w (Some (Chan c)) h = refl
output_follows w (Some (Ref r v)) h = refl
output_follows w (Some (Out v)) h = refl
output_follows w (Some (Thread u g e)) h = absurd h
output_follows w (Some End) h = absurd h

reference_follows : (r : ℕ × Datum) (last : Option Line) → IsFirst last → follows_last last (reference_line r) ≡ true
reference_follows r None h = refl
reference_follows r (Some (Chan c)) h = refl
reference_follows r (Some (Ref s v)) h = absurd h
reference_follows r (Some (Out v)) h = absurd h
reference_follows r (Some (Thread u g e)) h = absurd h
reference_follows r (Some End) h = absurd h

module _ (i : Image) where
  threads_behind : (t : ℕ × Expr) (ts : List (ℕ × Expr)) → IsRising t.0 ts → AreOrdered (Some (thread_line i t)) (each (thread_line i) ts)
  threads_behind t [] up = tt
  threads_behind t (u ∷ us) up = (below_so t.0 u.0 up.0, threads_behind u us up.1)

  threads_ordered : (last : Option Line) (ts : List (ℕ × Expr)) → IsEarly last → IsRising 0 ts → AreOrdered last (each (thread_line i) ts)
  threads_ordered last [] early up = tt
  threads_ordered last (t ∷ ts) early up = (thread_follows i t last early, threads_behind t ts up.1)

  module _ (ts : List (ℕ × Expr)) (ts_up : IsRising 0 ts) where
    outputs_ordered : (last : Option Line) (vs : List Datum) → IsEarly last → AreOrdered last (each output_line vs ++ each (thread_line i) ts)
    outputs_ordered last [] early = threads_ordered last ts early ts_up
    outputs_ordered last (v ∷ vs) early = (output_follows v last early, outputs_ordered (Some (output_line v)) vs tt)

    module _ (vs : List Datum) where
      abbrev behind : List Line
      behind = each output_line vs ++ each (thread_line i) ts

      references_behind : (r : ℕ × Datum) (rs : List (ℕ × Datum)) → IsRising r.0 rs → AreOrdered (Some (reference_line r)) (each reference_line rs ++ behind)
      references_behind r [] up = outputs_ordered (Some (reference_line r)) vs tt
      references_behind r (s ∷ rs) up = (below_so r.0 s.0 up.0, references_behind s rs up.1)

      references_ordered : (last : Option Line) (rs : List (ℕ × Datum)) → IsFirst last → IsRising 0 rs → AreOrdered last (each reference_line rs ++ behind)
      references_ordered last [] first up = outputs_ordered last vs (early_first last first)
      references_ordered last (r ∷ rs) first up = (reference_follows r last first, references_behind r rs up.1)

      module _ (rs : List (ℕ × Datum)) (rs_up : IsRising 0 rs) where
        channels_behind : (c : ℕ) (cs : List ℕ) → RisesAbove c cs → AreOrdered (Some (channel_line c)) (each channel_line cs ++ (each reference_line rs ++ behind))
        channels_behind c [] up = references_ordered (Some (channel_line c)) rs tt rs_up
        channels_behind c (d ∷ cs) up = (below_so c d up.0, channels_behind d cs up.1)

        channels_ordered : (cs : List ℕ) → RisesAbove 0 cs → AreOrdered None (each channel_line cs ++ (each reference_line rs ++ behind))
        channels_ordered [] up = references_ordered None rs tt rs_up
        channels_ordered (c ∷ cs) up = (refl, channels_behind c cs up.1)

  -- channels, references, what was printed, threads, and each by rising numbers
  pub lines_ordered : IsRising 0 (entries i.state.references) → IsRising 0 (entries i.state.threads) → AreOrdered None (lines_of i)
  lines_ordered rs ts = channels_ordered (entries i.state.threads) ts i.state.output (entries i.state.references) rs (those (set.contains i.state.channels) 1 (i.next_chan - 1)) (those_rise (set.contains i.state.channels) 0 1 (i.next_chan - 1) (omega arith))
