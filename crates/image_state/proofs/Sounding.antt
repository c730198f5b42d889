-- What lines say that fit together is a state.
use Rattle.std.proofs.Common.{◌≡◌, ℕ, ◌<◌, ◌≤◌, Bool, true, false, List, [], ◌∷◌, refl, sym, ap, subst, ◌∙◌, arith}
use Rattle.std.specs.Prelude.{Some, None, Option, IfSome, ◌&&◌, ◌||◌, is_some, map, nat_eq, nat_le, nat_lt}
use Rattle.std.specs.List.{AllByRecursion, cons_option, filter_map, list_all, list_any}
use Rattle.std.specs.Ordering.{nat_cmp}
use Rattle.std.specs.FinMap as map
use Rattle.std.specs.FinMap.{find, from_entries, get-from_entries}
use Rattle.std.specs.FinSet as set
use Rattle.std.specs.FinSet.{contains-from_list_nat}
use Rattle.std.proofs.lemmas.Bool.{and_from, and_parts, eqb-true, false≢true, ltb-true}
use Rattle.std.proofs.lemmas.Bool.Decides.{nat_tests}
use Rattle.std.proofs.lemmas.Cmp.{nat_cmp_total}
use Rattle.stab_base.specs.Datum.{Datum}
use Rattle.stab_base.specs.declared.numbers.ChanId.{ChanId}
use Rattle.stab_base.specs.declared.numbers.RefId.{RefId}
use Rattle.stab_base.specs.declared.numbers.ThreadId.{ThreadId}
use Rattle.stab_code.specs.Program.{ProgramParts}
use Rattle.journal_laws.specs.Known.{IsExprIn, IsIn, IsKnown, IsMore, Known, known_in}
use Rattle.language.specs.Depth.{are_flat, depth, max_expr_depth}
use Rattle.language.specs.Expression.{Expr}
use Rattle.language.specs.Plain.{PlainState}
use Rattle.image_lines.specs.declared.head.Next.{Next}
use Rattle.image_lines.specs.declared.line.Line.{Line}
use Rattle.image_lines.specs.declared.line.Line.TheVariants.{Chan, Ref, Out, Thread, End}
use Rattle.image_lines.specs.LineText.{IsLine}
use Rattle.image_state.specs.Fits.{Bounds}
use Rattle.image_state.specs.Named.{is_channel, is_reference, named_by}
use Rattle.image_state.specs.Parts.{Parts, channel_of, generation_of, output_of, parts_from, reference_of, thread_of}
use Rattle.image_state.specs.Sound.{AreSound, IsBelow, state_from}
use Rattle.image_state.specs.Stands.{thread_stands}
use Rattle.image_state.specs.State.{AreOfState, bounds}
use Rattle.image_state.specs.Values.{is_known}
use Rattle.image_state.proofs.Entries.{channels_among, entry_found, generations_keyed, reference_entry, references_among, references_are, same_threads, thread_entry, threads_are}
use Rattle.image_state.proofs.Fitting.{FitsAlone, are_lines, fit_alone, fit_ordered}
use Rattle.image_state.proofs.Knowing.{thread_in, value_in}
use Rattle.image_state.proofs.Rises.{rising}

module _ (p : ProgramParts) (next : Next) (ls : List Line) where
  abbrev state : PlainState
  state = state_from (parts_from ls)

  abbrev known : Known
  known = named_by next.cut ls

  -- the maps of the state
  threads_found : (t : ℕ) → map.get state.threads t ≡ find nat_cmp t (filter_map thread_entry ls)
  threads_found t = get-from_entries nat_cmp_total _ t ∙ ap (find nat_cmp t) (threads_are ls)

  references_found : (r : ℕ) → map.get state.references r ≡ find nat_cmp r (filter_map reference_entry ls)
  references_found r = get-from_entries nat_cmp_total _ r ∙ ap (find nat_cmp r) (references_are ls)

  channels_found : (c : ℕ) → set.contains state.channels c ≡ list_any (is_channel c) ls
  channels_found c = contains-from_list_nat _ c ∙ channels_among c ls

  more : IsMore known (known_in state)
  more = record {
    channels = λ c h. channels_found c ∙ h;
    references = λ r h. ap is_some (references_found r) ∙ references_among r ls ∙ h;
    sections = λ m h. refl;
  }

  abbrev Fits : Line → Type 0
  Fits l = FitsAlone (bounds p next ls) l

  -- what is asked of a thread, of a reference and of what was printed
  record IsThread (t : ℕ) (e : Expr) : Type 0 where
    below : IsBelow next.thread t
    is_in : IsExprIn (known_in state) e

  record IsReference (r : ℕ) (v : Datum) : Type 0 where
    below : IsBelow next.reference r
    is_in : IsIn (known_in state) v

  thread_is : (l : Line) → IsLine l → Fits l → IfSome (thread_entry l) (λ q. IsThread q.0 q.1)
  thread_is (Chan c) right fits = tt
  thread_is (Ref r v) right fits = tt
  thread_is (Out v) right fits = tt
  thread_is (Thread t g e) right fits =
      let both = and_parts (nat_lt t.0 next.thread) (thread_stands p known e) fits.fits in
      record { below = (right.0.0, ltb-true t.0 next.thread both.0); is_in = thread_in known (known_in state) more p e both.1 }
  thread_is End right fits = tt

  reference_is : (l : Line) → IsLine l → Fits l → IfSome (reference_entry l) (λ q. IsReference q.0 q.1)
  reference_is (Chan c) right fits = tt
  reference_is (Ref r v) right fits =
      let both = and_parts (nat_lt r.0 next.reference) (is_known known v) fits.fits in
      record { below = (right.0.0, ltb-true r.0 next.reference both.0); is_in = value_in known (known_in state) more v both.1 }
  reference_is (Out v) right fits = tt
  reference_is (Thread t g e) right fits = tt
  reference_is End right fits = tt

  all_of : {X : Type 0} (f : Line → Option (ℕ × X)) (Q : ℕ → X → Type 0) → ((l : Line) → IsLine l → Fits l → IfSome (f l) (λ q. Q q.0 q.1)) → (xs : List Line) → AllByRecursion IsLine xs → AllByRecursion Fits xs
      → AllByRecursion (λ (l : Line). IfSome (f l) (λ q. Q q.0 q.1)) xs
  all_of f Q each [] right fits = tt
  all_of f Q each (l ∷ xs) right fits = (each l right.0 fits.0, all_of f Q each xs right.1 fits.1)

  -- each channel that has a line is below the next one
  channel_below : (c : ℕ) (xs : List Line) → AllByRecursion IsLine xs → AllByRecursion Fits xs → list_any (is_channel c) xs ≡ true → IsBelow next.chan c
  channel_below c [] right fits h = absurd (false≢true h)
  channel_below c (Chan d ∷ xs) right fits given =
      (elim (nat_eq d.0 c) as (λ b. nat_eq d.0 c ≡ b → (b || list_any (is_channel c) xs) ≡ true → IsBelow next.chan c) [
        | true ↦ λ is h. subst (IsBelow next.chan) (eqb-true d.0 c is) (right.0.0, ltb-true d.0 next.chan fits.0.fits)
        | false ↦ λ is h. channel_below c xs right.1 fits.1 h
      ]) refl given
  channel_below c (Ref r v ∷ xs) right fits h = channel_below c xs right.1 fits.1 h
  channel_below c (Out v ∷ xs) right fits h = channel_below c xs right.1 fits.1 h
  channel_below c (Thread t g e ∷ xs) right fits h = channel_below c xs right.1 fits.1 h
  channel_below c (End ∷ xs) right fits h = channel_below c xs right.1 fits.1 h

  -- what was printed is known
  output_is : (xs : List Line) → AllByRecursion Fits xs → AllByRecursion (IsIn (known_in state)) (filter_map output_of xs)
  output_is [] fits = tt
  output_is (Chan c ∷ xs) fits = output_is xs fits.1
  output_is (Ref r v ∷ xs) fits = output_is xs fits.1
  output_is (Out v ∷ xs) fits = (value_in known (known_in state) more v fits.0.fits, output_is xs fits.1)
  output_is (Thread t g e ∷ xs) fits = output_is xs fits.1
  output_is (End ∷ xs) fits = output_is xs fits.1

  few_of : (l : Line) → IsLine l → Fits l → IfSome (generation_of l) (λ q. q.1 ≤ 4294967295)
  few_of (Chan c) right fits = tt
  few_of (Ref r v) right fits = tt
  few_of (Out v) right fits = tt
  few_of (Thread t g e) right fits = right.1
  few_of End right fits = tt

  no_deeper : (n m : ℕ) → n ≤ m → nat_le n m ≡ true
  no_deeper n m le = grind (arith, nat_tests)

  flat_all : (xs : List Line) → AllByRecursion IsLine xs → are_flat (filter_map thread_of xs) ≡ true
  flat_all [] right = refl
  flat_all (Chan c ∷ xs) right = flat_all xs right.1
  flat_all (Ref r v ∷ xs) right = flat_all xs right.1
  flat_all (Out v ∷ xs) right = flat_all xs right.1
  flat_all (Thread t g e ∷ xs) right =
      and_from (nat_le (depth e) max_expr_depth) (are_flat (filter_map thread_of xs)) (no_deeper (depth e) max_expr_depth right.0.2.flat) (flat_all xs right.1)
  flat_all (End ∷ xs) right = flat_all xs right.1

  there_so : {X : Type 0} (o : Option X) → is_some o ≡ true → (x : X) × (o ≡ Some x)
  there_so None h = absurd (false≢true h)
  there_so (Some x) h = (x, refl)

  pub parts_are_sound : AreOfState p next ls → AreSound next (parts_from ls)
  parts_are_sound h =
      let right = are_lines ls h.right in
      let fits = fit_alone (bounds p next ls) None ls h.fit in
      let threads = all_of thread_entry IsThread thread_is ls right fits in
      let references = all_of reference_entry IsReference reference_is ls right fits in
      let generations = all_of generation_of (λ t g. g ≤ 4294967295) few_of ls right fits in
      record {
        known = record {
          threads = λ t e at. (entry_found thread_entry IsThread ls threads t e (sym (threads_found t) ∙ at)).is_in;
          references = λ r v at. (entry_found reference_entry IsReference ls references r v (sym (references_found r) ∙ at)).is_in;
          output = output_is ls fits;
        };
        channels = λ c there. channel_below c ls right fits (sym (channels_found c) ∙ there);
        references = λ r there.
            let held = there_so (map.get state.references r) there in
            (entry_found reference_entry IsReference ls references r held.0 (sym (references_found r) ∙ held.1)).below;
        threads = λ t there.
            let held = there_so (map.get state.threads t) there in
            (entry_found thread_entry IsThread ls threads t held.0 (sym (threads_found t) ∙ held.1)).below;
        flat = flat_all ls right;
        rising = rising 3 generation_of generations_keyed ls right (fit_ordered (bounds p next ls) None ls h.fit);
        same = λ t. ap is_some (get-from_entries nat_cmp_total (filter_map generation_of ls) t) ∙ same_threads t ls ∙ sym (ap is_some (threads_found t));
        few = λ t g at. entry_found generation_of (λ u n. n ≤ 4294967295) ls generations t g (sym (get-from_entries nat_cmp_total (filter_map generation_of ls) t) ∙ at);
      }
