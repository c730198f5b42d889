-- The lines of the image that lines in order make are these lines.
use Rattle.std.proofs.Common.{◌≡◌, ℕ, suc, ◌-◌, ◌≤◌, cond, List, [], ◌∷◌, ◌++◌, refl, sym, ap, subst, ◌∙◌, arith}
use Rattle.std.specs.Prelude.{Some, None, Option, IfSome, map as each, nat_eq, unwrap_or}
use Rattle.std.specs.List.{AllByRecursion, filter_map, list_any}
use Rattle.std.specs.Ordering.{nat_cmp}
use Rattle.std.specs.Cmp.{unsigned_tied}
use Rattle.std.specs.FinMap as map
use Rattle.std.specs.FinMap.{FinMap, entries, find, get-from_entries}
use Rattle.std.specs.FinSet as set
use Rattle.std.specs.FinSet.{contains-from_list_nat}
use Rattle.std.proofs.lemmas.Bool.{eq-eqb, ne_eqb}
use Rattle.std.proofs.lemmas.Cmp.{nat_cmp_total}
use Rattle.stab_base.specs.Datum.{Datum}
use Rattle.stab_base.specs.declared.numbers.ChanId.{ChanId}
use Rattle.stab_base.specs.declared.numbers.RefId.{RefId}
use Rattle.stab_code.specs.Program.{ProgramParts}
use Rattle.image_laws.specs.Image.{Image}
use Rattle.image_text.specs.Rising.{IsRising, those}
use Rattle.image_lines.specs.Counts.{Counts}
use Rattle.image_lines.specs.declared.line.Line.{Line}
use Rattle.image_lines.specs.declared.line.Line.TheVariants.{Chan, Ref, Out, Thread, End}
use Rattle.image_lines.specs.LineText.{IsLine}
use Rattle.image_state.specs.Order.{AreOrdered}
use Rattle.image_state.specs.Parts.{channel_of, generation_of, output_of, parts_from, reference_of}
use Rattle.image_state.specs.Sound.{AreSound}
use Rattle.image_state.specs.State.{AreOfState, bounds}
use Rattle.image_state.proofs.Entries.{channel_entry, channels_keyed, generations_keyed, reference_entry, references_are, references_keyed, thread_entry, threads_are, threads_keyed}
use Rattle.image_state.proofs.Fitting.{are_lines, fit_ordered}
use Rattle.image_state.proofs.Grouped.{by_kinds, chan_line, out_line, ref_line, row_line, row_of}
use Rattle.image_state.proofs.Listed.{RiseFrom, entries-rising, those_are}
use Rattle.image_state.proofs.Rises.{rising}
use Rattle.image_state.proofs.Sounding.{parts_are_sound}
use Rattle.stab_image.specs.Read.{image_with}
use Rattle.stab_image.specs.Written.{channel_line, lines_of, output_line, reference_line, thread_line}

-- numbers that rise
rise_from : (n : ℕ) (es : List (ℕ × ChanId)) → IsRising n es → RiseFrom (suc n) (each (λ (e : ℕ × ChanId). e.0) es)
rise_from n [] h = tt
rise_from n (e ∷ es) h = (let up = h.0 in omega arith, rise_from e.0 es h.1)

channel_numbers : (ls : List Line) → each (λ (e : ℕ × ChanId). e.0) (filter_map channel_entry ls) ≡ each (λ (c : ChanId). c.0) (filter_map channel_of ls)
channel_numbers [] = refl
channel_numbers (Chan c ∷ ls) = ap (λ (ks : List ℕ). c.0 ∷ ks) (channel_numbers ls)
channel_numbers (Ref r v ∷ ls) = channel_numbers ls
channel_numbers (Out v ∷ ls) = channel_numbers ls
channel_numbers (Thread t g e ∷ ls) = channel_numbers ls
channel_numbers (End ∷ ls) = channel_numbers ls

channel_lines : (cs : List ChanId) → each channel_line (each (λ (c : ChanId). c.0) cs) ≡ each chan_line cs
channel_lines [] = refl
channel_lines (c ∷ cs) = ap (λ (xs : List Line). Chan c ∷ xs) (channel_lines cs)

reference_lines : (rs : List (RefId × Datum)) → each reference_line (each (λ (r : RefId × Datum). (r.0.0, r.1)) rs) ≡ each ref_line rs
reference_lines [] = refl
reference_lines (r ∷ rs) = ap (λ (xs : List Line). Ref r.0 r.1 ∷ xs) (reference_lines rs)

-- each entry of a list whose numbers rise is found
abbrev Found : List (ℕ × ℕ) → ℕ × ℕ → Type 0
Found es e = find nat_cmp e.0 es ≡ Some e.1

found_first : (e : ℕ × ℕ) (es : List (ℕ × ℕ)) → Found (e ∷ es) e
found_first e es = ap (λ b. cond b (Some e.1) (find nat_cmp e.0 es)) (unsigned_tied e.0 e.0 ∙ eq-eqb e.0 e.0 refl)

found_later : (n : ℕ) (x : ℕ) (es fs : List (ℕ × ℕ)) → IsRising n fs → AllByRecursion (Found es) fs → AllByRecursion (Found ((n, x) ∷ es)) fs
found_later n x es [] h all = tt
found_later n x es (f ∷ fs) h all =
    let up = h.0 in (
      ap (λ b. cond b (Some x) (find nat_cmp f.0 es)) (unsigned_tied f.0 n ∙ ne_eqb f.0 n (λ same. omega arith)) ∙ all.0,
      found_later n x es fs (lower n f.0 fs (omega arith) h.1) all.1,
    )
  where
    lower : (a b : ℕ) (gs : List (ℕ × ℕ)) → a ≤ b → IsRising b gs → IsRising a gs
    lower a b [] le k = tt
    lower a b (g ∷ gs) le k = (let more = k.0 in omega arith, k.1)

found_all : (n : ℕ) (es : List (ℕ × ℕ)) → IsRising n es → AllByRecursion (Found es) es
found_all n [] h = tt
found_all n (e ∷ es) h = (found_first e es, found_later e.0 e.1 es es h.1 (found_all e.0 es h.1))

module _ (g : FinMap nat_cmp ℕ) where
  -- the generation of each thread is found
  abbrev Holds : Line → Type 0
  Holds l = IfSome (generation_of l) (λ q. map.get g q.0 ≡ Some q.1)

  holds_all : (es : List (ℕ × ℕ)) → ((t : ℕ) → map.get g t ≡ find nat_cmp t es) → (ls : List Line) → AllByRecursion (Found es) (filter_map generation_of ls) → AllByRecursion Holds ls
  holds_all es same [] h = tt
  holds_all es same (Chan c ∷ ls) h = (tt, holds_all es same ls h)
  holds_all es same (Ref r v ∷ ls) h = (tt, holds_all es same ls h)
  holds_all es same (Out v ∷ ls) h = (tt, holds_all es same ls h)
  holds_all es same (Thread t n e ∷ ls) h = (same t.0 ∙ h.0, holds_all es same ls h.1)
  holds_all es same (End ∷ ls) h = (tt, holds_all es same ls h)

  row_lines : (i : Image) → i.generations ≡ g → (ls : List Line) → AllByRecursion Holds ls → each (thread_line i) (filter_map thread_entry ls) ≡ each row_line (filter_map row_of ls)
  row_lines i is [] h = refl
  row_lines i is (Chan c ∷ ls) h = row_lines i is ls h.1
  row_lines i is (Ref r v ∷ ls) h = row_lines i is ls h.1
  row_lines i is (Out v ∷ ls) h = row_lines i is ls h.1
  row_lines i is (Thread t n e ∷ ls) h =
      ap (λ (m : ℕ). Thread t m e ∷ each (thread_line i) (filter_map thread_entry ls)) (ap (λ (m : FinMap nat_cmp ℕ). unwrap_or (map.get m t.0) 0) is ∙ ap (λ (o : Option ℕ). unwrap_or o 0) h.0)
      ∙ ap (λ (xs : List Line). Thread t n e ∷ xs) (row_lines i is ls h.1)
  row_lines i is (End ∷ ls) h = row_lines i is ls h.1

four : (a b c d w x y z : List Line) → a ≡ w → b ≡ x → c ≡ y → d ≡ z → a ++ (b ++ (c ++ d)) ≡ w ++ (x ++ (y ++ z))
four a b c d w x y z p q r s =
    ap (λ (l : List Line). l ++ (b ++ (c ++ d))) p ∙ ap (λ (l : List Line). w ++ (l ++ (c ++ d))) q ∙ ap (λ (l : List Line). w ++ (x ++ (l ++ d))) r ∙ ap (λ (l : List Line). w ++ (x ++ (y ++ l))) s

module _ (text : List ℕ) (p : ProgramParts) (c : Counts) (ls : List Line) (h : AreOfState p c.next ls) where
  abbrev image : Image
  image = image_with text p c (parts_from ls)

  right : AllByRecursion IsLine ls
  right = are_lines ls h.right

  ordered : AreOrdered None ls
  ordered = fit_ordered (bounds p c.next ls) None ls h.fit

  sound : AreSound c.next (parts_from ls)
  sound = parts_are_sound p c.next ls h

  among : (k : ℕ) → list_any (λ y. nat_eq y k) (each (λ (d : ChanId). d.0) (filter_map channel_of ls)) ≡ set.contains image.state.channels k
  among k = sym (contains-from_list_nat (each (λ (d : ChanId). d.0) (filter_map channel_of ls)) k)

  channels_so : those (set.contains image.state.channels) 1 (c.next.chan - 1) ≡ each (λ (d : ChanId). d.0) (filter_map channel_of ls)
  channels_so =
      those_are (set.contains image.state.channels) 1 (c.next.chan - 1) (each (λ (d : ChanId). d.0) (filter_map channel_of ls))
      (subst (RiseFrom 1) (channel_numbers ls) (rise_from 0 (filter_map channel_entry ls) (rising 0 channel_entry channels_keyed ls right ordered)))
      (λ k there. let below = sound.channels k (sym (among k) ∙ there) in let low = below.0 in let up = below.1 in omega arith)
      (λ k le. sym (among k))

  references_so : entries image.state.references ≡ each (λ (r : RefId × Datum). (r.0.0, r.1)) (filter_map reference_of ls)
  references_so =
      entries-rising 0 (each (λ (r : RefId × Datum). (r.0.0, r.1)) (filter_map reference_of ls))
      (subst (IsRising 0) (sym (references_are ls)) (rising 1 reference_entry references_keyed ls right ordered))

  threads_so : entries image.state.threads ≡ filter_map thread_entry ls
  threads_so =
      entries-rising 0 _ (subst (IsRising 0) (sym (threads_are ls)) (rising 3 thread_entry threads_keyed ls right ordered)) ∙ threads_are ls

  rows_so : each (thread_line image) (filter_map thread_entry ls) ≡ each row_line (filter_map row_of ls)
  rows_so =
      row_lines image.generations image refl ls
      (holds_all image.generations (filter_map generation_of ls) (λ t. get-from_entries nat_cmp_total (filter_map generation_of ls) t) ls
      (found_all 0 (filter_map generation_of ls) (rising 3 generation_of generations_keyed ls right ordered)))

  pub same_lines : lines_of image ≡ ls
  same_lines =
      four (each channel_line (those (set.contains image.state.channels) 1 (c.next.chan - 1))) (each reference_line (entries image.state.references)) (each output_line image.state.output)
      (each (thread_line image) (entries image.state.threads)) (each chan_line (filter_map channel_of ls)) (each ref_line (filter_map reference_of ls)) (each out_line (filter_map output_of ls)) (each row_line (filter_map row_of ls))
      (ap (each channel_line) channels_so ∙ channel_lines (filter_map channel_of ls))
      (ap (each reference_line) references_so ∙ reference_lines (filter_map reference_of ls))
      refl
      (ap (each (thread_line image)) threads_so ∙ rows_so)
      ∙ sym (by_kinds None ls h.right ordered)
