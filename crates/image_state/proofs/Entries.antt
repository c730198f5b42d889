-- What the lines of a state say, as entries of maps.
use Rattle.std.proofs.Common.{◌≡◌, ℕ, ◌<◌, ◌≤◌, Bool, true, false, cond, List, [], ◌∷◌, refl, sym, ap, subst, ◌∙◌, arith}
use Rattle.std.specs.Prelude.{Some, None, Option, IfSome, ◌||◌, is_some, map, nat_eq}
use Rattle.std.specs.List.{AllByRecursion, cons_option, filter_map, list_any}
use Rattle.std.specs.Ordering.{eq_by_cmp, nat_cmp}
use Rattle.std.specs.Cmp.{unsigned_tied}
use Rattle.std.specs.FinMap.{find}
use Rattle.std.proofs.lemmas.Bool.{eqb-true}
use Rattle.std.proofs.lemmas.Bool.Decides.{nat_tests}
use Rattle.stab_base.specs.Datum.{Datum}
use Rattle.stab_base.specs.declared.numbers.ChanId.{ChanId}
use Rattle.stab_base.specs.declared.numbers.RefId.{RefId}
use Rattle.stab_base.specs.declared.numbers.ThreadId.{ThreadId}
use Rattle.language.specs.Expression.{Expr}
use Rattle.image_lines.specs.declared.line.Line.{Line}
use Rattle.image_lines.specs.declared.line.Line.TheVariants.{Chan, Ref, Out, Thread, End}
use Rattle.image_state.specs.Named.{is_channel, is_reference}
use Rattle.image_state.specs.Parts.{channel_of, generation_of, reference_of, thread_of}
use Rattle.image_state.proofs.LineKinds.{kind}
use Rattle.image_state.proofs.Rises.{IsKeyed, number}

abbrev pub channel_entry : Line → Option (ℕ × ChanId)
channel_entry (Chan c) = Some (c.0, c)
channel_entry l = None

abbrev pub reference_entry : Line → Option (ℕ × Datum)
reference_entry (Ref r v) = Some (r.0, v)
reference_entry l = None

abbrev pub thread_entry : Line → Option (ℕ × Expr)
thread_entry (Thread t g e) = Some (t.0, e)
thread_entry l = None

channel_key : (l : Line) → IfSome (channel_entry l) (λ p. (kind l ≡ 0) × (p.0 ≡ number l))
channel_key (Chan c) = (refl, refl)
channel_key (Ref r v) = tt
channel_key (Out v) = tt
channel_key (Thread t g e) = tt
channel_key End = tt

pub channels_keyed : IsKeyed 0 channel_entry
channels_keyed = record { printed = λ e. omega (arith, e); ends = λ e. omega (arith, e); is = channel_key }

reference_key : (l : Line) → IfSome (reference_entry l) (λ p. (kind l ≡ 1) × (p.0 ≡ number l))
reference_key (Chan c) = tt
reference_key (Ref r v) = (refl, refl)
reference_key (Out v) = tt
reference_key (Thread t g e) = tt
reference_key End = tt

pub references_keyed : IsKeyed 1 reference_entry
references_keyed = record { printed = λ e. omega (arith, e); ends = λ e. omega (arith, e); is = reference_key }

thread_key : (l : Line) → IfSome (thread_entry l) (λ p. (kind l ≡ 3) × (p.0 ≡ number l))
thread_key (Chan c) = tt
thread_key (Ref r v) = tt
thread_key (Out v) = tt
thread_key (Thread t g e) = (refl, refl)
thread_key End = tt

pub threads_keyed : IsKeyed 3 thread_entry
threads_keyed = record { printed = λ e. omega (arith, e); ends = λ e. omega (arith, e); is = thread_key }

generation_key : (l : Line) → IfSome (generation_of l) (λ p. (kind l ≡ 3) × (p.0 ≡ number l))
generation_key (Chan c) = tt
generation_key (Ref r v) = tt
generation_key (Out v) = tt
generation_key (Thread t g e) = (refl, refl)
generation_key End = tt

pub generations_keyed : IsKeyed 3 generation_of
generations_keyed = record { printed = λ e. omega (arith, e); ends = λ e. omega (arith, e); is = generation_key }

pub references_are : (ls : List Line) → map (λ (r : RefId × Datum). (r.0.0, r.1)) (filter_map reference_of ls) ≡ filter_map reference_entry ls
references_are [] = refl
references_are (Chan c ∷ ls) = references_are ls
references_are (Ref r v ∷ ls) = ap (λ (es : List (ℕ × Datum)). (r.0, v) ∷ es) (references_are ls)
references_are (Out v ∷ ls) = references_are ls
references_are (Thread t g e ∷ ls) = references_are ls
references_are (End ∷ ls) = references_are ls

pub threads_are : (ls : List Line) → map (λ (t : ThreadId × Expr). (t.0.0, t.1)) (filter_map thread_of ls) ≡ filter_map thread_entry ls
threads_are [] = refl
threads_are (Chan c ∷ ls) = threads_are ls
threads_are (Ref r v ∷ ls) = threads_are ls
threads_are (Out v ∷ ls) = threads_are ls
threads_are (Thread t g e ∷ ls) = ap (λ (es : List (ℕ × Expr)). (t.0, e) ∷ es) (threads_are ls)
threads_are (End ∷ ls) = threads_are ls

turned : (a b : ℕ) → nat_eq a b ≡ nat_eq b a
turned a b = grind (arith, nat_tests)

-- the channels that have a line are those of the list
pub channels_among : (c : ℕ) (ls : List Line) → list_any (λ y. nat_eq y c) (map (λ (d : ChanId). d.0) (filter_map channel_of ls)) ≡ list_any (is_channel c) ls
channels_among c [] = refl
channels_among c (Chan d ∷ ls) = ap (λ b. nat_eq d.0 c || b) (channels_among c ls)
channels_among c (Ref r v ∷ ls) = channels_among c ls
channels_among c (Out v ∷ ls) = channels_among c ls
channels_among c (Thread t g e ∷ ls) = channels_among c ls
channels_among c (End ∷ ls) = channels_among c ls

some_or : {X : Type 0} (a b : Bool) (x : X) (o : Option X) → a ≡ b → is_some (cond a (Some x) o) ≡ (b || is_some o)
some_or true b x o h = ap (λ c. c || is_some o) h
some_or false b x o h = ap (λ c. c || is_some o) h

-- and so are the references
pub references_among : (r : ℕ) (ls : List Line) → is_some (find nat_cmp r (filter_map reference_entry ls)) ≡ list_any (is_reference r) ls
references_among r [] = refl
references_among r (Chan c ∷ ls) = references_among r ls
references_among r (Ref s v ∷ ls) =
    some_or (eq_by_cmp nat_cmp r s.0) (nat_eq s.0 r) v (find nat_cmp r (filter_map reference_entry ls)) (unsigned_tied r s.0 ∙ turned r s.0)
    ∙ ap (λ b. nat_eq s.0 r || b) (references_among r ls)
references_among r (Out v ∷ ls) = references_among r ls
references_among r (Thread t g e ∷ ls) = references_among r ls
references_among r (End ∷ ls) = references_among r ls

-- the generations have the numbers of the threads
pub same_threads : (t : ℕ) (ls : List Line) → is_some (find nat_cmp t (filter_map generation_of ls)) ≡ is_some (find nat_cmp t (filter_map thread_entry ls))
same_threads t [] = refl
same_threads t (Chan c ∷ ls) = same_threads t ls
same_threads t (Ref r v ∷ ls) = same_threads t ls
same_threads t (Out v ∷ ls) = same_threads t ls
same_threads t (Thread u g e ∷ ls) =
    let tied = eq_by_cmp nat_cmp t u.0 in
    some_or tied tied g (find nat_cmp t (filter_map generation_of ls)) refl
    ∙ ap (λ b. tied || b) (same_threads t ls)
    ∙ sym (some_or tied tied e (find nat_cmp t (filter_map thread_entry ls)) refl)
same_threads t (End ∷ ls) = same_threads t ls

-- what is found has a line
pub entry_found : {X : Type 0} (f : Line → Option (ℕ × X)) (Q : ℕ → X → Type 0) (ls : List Line) → AllByRecursion (λ (l : Line). IfSome (f l) (λ p. Q p.0 p.1)) ls → (k : ℕ) (x : X) → find nat_cmp k (filter_map f ls) ≡ Some x → Q k x
entry_found f Q [] all k x h = absurd (let no : None ≡ Some x = h in cc)
entry_found {X} f Q (l ∷ ls) all k x given =
    (elim (f l) as (λ (o : Option (ℕ × X)). IfSome o (λ p. Q p.0 p.1) → find nat_cmp k (cons_option o (filter_map f ls)) ≡ Some x → Q k x) [
      | None ↦ λ here h. entry_found f Q ls all.1 k x h
      | (Some p) ↦ λ here h. elim (nat_eq k p.0) as (λ b. nat_eq k p.0 ≡ b → cond b (Some p.1) (find nat_cmp k (filter_map f ls)) ≡ Some x → Q k x) [
        | true ↦ λ is e.
            let same : p.1 ≡ x = cc in
            subst (λ (j : ℕ). Q j x) (sym (eqb-true k p.0 is)) (subst (λ (y : X). Q p.0 y) same here)
        | false ↦ λ is e. entry_found f Q ls all.1 k x e
      ] refl (ap (λ b. cond b (Some p.1) (find nat_cmp k (filter_map f ls))) (sym (unsigned_tied k p.0)) ∙ h)
    ]) all.0 given
