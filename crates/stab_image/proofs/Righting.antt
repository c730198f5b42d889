-- The image of a run is right.
use Rattle.std.proofs.Common.{◌≡◌, ℕ, ℤ, zero, suc, ◌+◌, ◌-◌, ◌<◌, ◌≤◌, true, false, ◌&&◌, ◌||◌, List, [], ◌∷◌, ◌++◌, length, Option, Some, None, nat_eq, nat_le, nat_lt, refl, sym, ap, subst, ◌∙◌, arith}
use Rattle.std.specs.Prelude.{is_some, map as each}
use Rattle.std.specs.List.{AllByRecursion, list_any}
use Rattle.std.specs.Ordering.{nat_cmp}
use Rattle.std.specs.FinMap as map
use Rattle.std.specs.FinMap.{entries, find, get-entries}
use Rattle.std.specs.FinSet as set
use Rattle.std.specs.Arc.{arc_value}
use Rattle.std.proofs.lemmas.Bool.{and_from, and_parts, eqb-true, false≢true}
use Rattle.std.proofs.lemmas.Bool.Decides.{nat_tests}
use Rattle.stab_base.specs.Datum.{Datum}
use Rattle.stab_base.specs.declared.numbers.ChanId.{ChanId}
use Rattle.stab_base.specs.declared.numbers.RefId.{RefId}
use Rattle.stab_journal.specs.declared.event.Event.{Event}
use Rattle.stab_journal.specs.declared.event.Label.{Label}
use Rattle.stab_journal.specs.declared.event.Numbered.{Numbered}
use Rattle.stab_journal.specs.Journal.{label_at}
use Rattle.stab_code.specs.Program.{ProgramParts}
use Rattle.stab_code.specs.Valid.{CountsAreWithin}
use Rattle.language.specs.declared.head.Head.{Head}
use Rattle.language.specs.declared.head.Head.TheVariants.{Section}
use Rattle.language.specs.Expression.{Expr, value, variable, failed, form, Parts, none, part}
use Rattle.language.specs.Plain.{IsRun, PlainState}
use Rattle.language.specs.Standing.{StandsFor}
use Rattle.journal_laws.specs.Entered.{enters_by, is_entered_by}
use Rattle.journal_laws.specs.Known.{ArePartsIn, IsExprIn, IsHeadIn, IsIn, IsKnown, IsMore, Known, known_in, sections_alone}
use Rattle.journal_laws.proofs.Closed.{more_in}
use Rattle.journal_laws.proofs.Occurring.{more_expr}
use Rattle.journal_laws.proofs.Runs.{run_entered}
use Rattle.journal_laws.proofs.Undone.{stands_run}
use Rattle.trace_verify.proofs.Judging.{steps_of}
use Rattle.image_laws.specs.Image.{Image, StandsAt, generation_at}
use Rattle.image_text.specs.Range.{IsName}
use Rattle.image_lines.specs.Body.{is_end}
use Rattle.image_lines.specs.HeadText.{IsNext, IsProbe}
use Rattle.image_lines.specs.LineText.{IsLine}
use Rattle.image_lines.specs.declared.line.Line.{Line}
use Rattle.image_run.specs.Next.{AreBelowNext}
use Rattle.image_state.specs.Named.{is_channel, is_reference, is_section, named_by}
use Rattle.image_state.specs.Stands.{thread_stands}
use Rattle.image_state.specs.State.{AreOfState, bounds}
use Rattle.image_state.specs.Values.{is_known}
use Rattle.image_state.proofs.Entries.{channels_among, references_among, references_are}
use Rattle.image_state.proofs.Fitting.{FitsAlone, fit_from}
use Rattle.standing_runs.specs.Standing.{IsStanding}
use Rattle.standing_runs.specs.Whole.{IsValue}
use Rattle.stab_image.specs.Limits.{max_number}
use Rattle.stab_image.specs.Numbered.{AreBelow}
use Rattle.stab_image.specs.View.{image_of, IsSound}
use Rattle.stab_image.specs.declared.image.Image.TheInside.{Inside}
use Rattle.stab_image.specs.Written.{IsRight, channel_line, lines_of, next_of, output_line, reference_line, thread_line}
use Rattle.stab_image.proofs.Again.{channels_said, cs, numbers_same, pairs_same, ref_pair, references_said, rs, those_there}
use Rattle.stab_image.proofs.Expressions.{AreFew, AreNames, below_so, known_so, texts_so, thread_counted, thread_right, thread_so, value_right}
use Rattle.stab_image.proofs.Ordered.{entries_got, entries_rise, lines_ordered, those_pass}

le_so : (a b : ℕ) → a ≤ b → nat_le a b ≡ true
le_so a b le = grind (arith, nat_tests)

section_up : (m n : ℕ) → is_section n m ≡ true → m ≤ n
section_up m n h = up_to m n (and_parts (nat_le 1 m) (nat_le m n) h).1
  where
    up_to : (a b : ℕ) → nat_le a b ≡ true → a ≤ b
    up_to a b is = grind (arith, nat_tests)

-- what a thread entered is a step of the events
entered_within : (es : List Event) (t m : ℕ) (run : List Numbered) → AllByRecursion (λ (n : Numbered). label_at es n.seq.0 ≡ Some n.label) run → is_entered_by t run m ≡ true → is_section (length es) m ≡ true
entered_within es t m [] all h = absurd (false≢true h)
entered_within es t m (n ∷ ns) all h =
    elim (nat_eq m n.seq.0) as (λ b. nat_eq m n.seq.0 ≡ b → ((b && enters_by t n.label) || is_entered_by t ns m) ≡ true → is_section (length es) m ≡ true) [
      | true ↦ λ is h. ap (is_section (length es)) (eqb-true m n.seq.0 is) ∙ labelled es n.seq.0 n.label all.0
      | false ↦ λ is h. entered_within es t m ns all.1 h
    ] refl h
  where
    longer : (es : List Event) (k : ℕ) (l : Label) → label_at es k ≡ Some l → (1 ≤ k) × (k ≤ length es)
    longer es zero l at = absurd (let no : None ≡ Some l = at in cc)
    longer [] (suc k) l at = absurd (let no : None ≡ Some l = at in cc)
    longer (e ∷ es) (suc zero) l at = (omega arith, omega arith)
    longer (e ∷ es) (suc (suc k)) l at = let more = longer es (suc k) l at in (omega arith, omega (arith, more.1))

    labelled : (es : List Event) (k : ℕ) (l : Label) → label_at es k ≡ Some l → is_section (length es) k ≡ true
    labelled es k l at = let more = longer es k l at in and_from (nat_le 1 k) (nat_le k (length es)) (le_so 1 k more.0) (le_so k (length es) more.1)

-- channels and references as in the one, sections as in the other
module _ (j k l : Known) (channels : (c : ℕ) → j.channels c ≡ true → l.channels c ≡ true) (references : (r : ℕ) → j.references r ≡ true → l.references r ≡ true) (sections : (m : ℕ) → k.sections m ≡ true → l.sections m ≡ true) where
  head_joined : (h : Head) → IsHeadIn k h → IsHeadIn l h
  head_joined (Section m) i = sections m.0 i
  head_joined h i = tt

  mutual
    joined : (e : Expr) → IsExprIn j e → IsExprIn k e → IsExprIn l e
    joined (value v) a b = more_in j l channels references v a
    joined (variable x) a b = tt
    joined (failed f) a b = tt
    joined (form h ps) a b = (head_joined h b.0, all_joined ps a.1 b.1)

    all_joined : (ps : Parts) → ArePartsIn j ps → ArePartsIn k ps → ArePartsIn l ps
    all_joined none a b = tt
    all_joined (part e ps) a b = (joined e a.0 b.0, all_joined ps a.1 b.1)

all_each : {X Y : Type 0} (P : X → Type 0) (Q : Y → Type 0) (g : X → Y) → ((x : X) → P x → Q (g x)) → (xs : List X) → AllByRecursion P xs → AllByRecursion Q (each g xs)
all_each P Q g f [] all = tt
all_each P Q g f (x ∷ xs) all = (f x all.0, all_each P Q g f xs all.1)

all_both : {X : Type 0} (P Q : X → Type 0) (xs : List X) → AllByRecursion P xs → AllByRecursion Q xs → AllByRecursion (λ (x : X). P x × Q x) xs
all_both P Q [] p q = tt
all_both P Q (x ∷ xs) p q = ((p.0, q.0), all_both P Q xs p.1 q.1)

all_first : {X : Type 0} (P Q : X → Type 0) (xs : List X) → AllByRecursion (λ (x : X). P x × Q x) xs → AllByRecursion P xs
all_first P Q [] all = tt
all_first P Q (x ∷ xs) all = (all.0.0, all_first P Q xs all.1)

all_second : {X : Type 0} (P Q : X → Type 0) (xs : List X) → AllByRecursion (λ (x : X). P x × Q x) xs → AllByRecursion Q xs
all_second P Q [] all = tt
all_second P Q (x ∷ xs) all = (all.0.1, all_second P Q xs all.1)

all_map : {X : Type 0} (P Q : X → Type 0) → ((x : X) → P x → Q x) → (xs : List X) → AllByRecursion P xs → AllByRecursion Q xs
all_map P Q f [] all = tt
all_map P Q f (x ∷ xs) all = (f x all.0, all_map P Q f xs all.1)

all_four : {X : Type 0} (P : X → Type 0) (a b c d : List X) → AllByRecursion P a → AllByRecursion P b → AllByRecursion P c → AllByRecursion P d → AllByRecursion P (a ++ (b ++ (c ++ d)))
all_four {X} P a b c d p q r s = append a _ p (append b _ q (append c d r s))
  where
    append : (xs ys : List X) → AllByRecursion P xs → AllByRecursion P ys → AllByRecursion P (xs ++ ys)
    append [] ys h k = k
    append (x ∷ xs) ys h k = (h.0, append xs ys h.1 k)

-- what is asked of an image beside its lines
pub record IsSoundImage (i : Image) : Type 0 where
  pub few : AreFew i.program
  pub cut : i.seq ≤ max_number
  pub thread : IsNext i.next_thread
  pub chan : IsNext i.next_chan
  pub reference : IsNext i.next_ref
  pub known : IsKnown IsExprIn i.state
  pub below : AreBelow i.next_chan i.state
  pub named : AreBelowNext (record { thread = i.next_thread; chan = i.next_chan; reference = i.next_ref }) i.state
  pub put_back : (t : ℕ) → generation_at i t ≤ max_number
  pub standing : IsStanding i.program i.state
  pub sections : (t : ℕ) (e : Expr) → map.get i.state.threads t ≡ Some e → IsExprIn (sections_alone (is_section i.seq)) e

module _ (i : Image) (s : IsSoundImage i) where
  -- what is known by the state, and what by the lines
  abbrev inside : Known
  inside = record { channels = set.contains i.state.channels; references = map.contains_key i.state.references; sections = is_section i.seq }

  abbrev lined : Known
  lined = named_by i.seq (lines_of i)

  channel_lined : (c : ℕ) → set.contains i.state.channels c ≡ true → list_any (is_channel c) (lines_of i) ≡ true
  channel_lined c there =
      let low = (s.below.channels c there).0 in
      let high = (s.below.channels c there).1 in
      sym (channels_among c (lines_of i))
      ∙ ap (λ (ks : List ChanId). list_any (λ y. nat_eq y c) (each (λ (d : ChanId). d.0) ks)) (channels_said i)
      ∙ ap (λ (ks : List ℕ). list_any (λ y. nat_eq y c) ks) (numbers_same i (cs i))
      ∙ those_there i (set.contains i.state.channels) 1 (i.next_chan - 1) c low (omega arith)
      ∙ there

  reference_lined : (r : ℕ) → map.contains_key i.state.references r ≡ true → list_any (is_reference r) (lines_of i) ≡ true
  reference_lined r there =
      sym (references_among r (lines_of i))
      ∙ ap (λ (es : List (ℕ × Datum)). is_some (find nat_cmp r es)) (sym (references_are (lines_of i)))
      ∙ ap (λ (ks : List (RefId × Datum)). is_some (find nat_cmp r (each (λ (q : RefId × Datum). (q.0.0, q.1)) ks))) (references_said i)
      ∙ ap (λ (es : List (ℕ × Datum)). is_some (find nat_cmp r es)) (pairs_same i (ref_pair i) (λ (q : RefId × Datum). (q.0.0, q.1)) (λ p. refl) (rs i))
      ∙ sym (ap is_some (get-entries i.state.references r))
      ∙ there

  more : IsMore inside lined
  more = record { channels = channel_lined; references = reference_lined; sections = λ m h. h }

  name_below : (n next : ℕ) → 1 ≤ n → n < next → IsNext next → IsName n
  name_below n next low high is = let most = is.1 in (low, omega arith)

  not_0 : (r : ℕ) → map.contains_key i.state.references r ≡ true → 1 ≤ r
  not_0 zero there = absurd (false≢true (sym s.below.references ∙ there))
  not_0 (suc r) there = omega arith

  section_count : (m : ℕ) → is_section i.seq m ≡ true → m ≤ max_number
  section_count m h = omega (arith, s.cut, section_up m i.seq h)

  names : AreNames inside
  names = record {
    channels = λ c there. name_below c i.next_chan (s.below.channels c there).0 (s.below.channels c there).1 s.chan;
    references = λ r there. name_below r i.next_ref (not_0 r there) (s.named.references r there) s.reference;
    sections = section_count;
  }

  abbrev IsGood : Line → Type 0
  IsGood l = (IsLine l × (is_end l ≡ false)) × FitsAlone (bounds i.program (next_of i) (lines_of i)) l

  channel_good : (c : ℕ) → (set.contains i.state.channels c ≡ true) × (1 ≤ c) × (c < 1 + (i.next_chan - 1)) → IsGood (channel_line c)
  channel_good c h =
      let below = s.below.channels c h.0 in
      ((name_below c i.next_chan below.0 below.1 s.chan, refl), record { numbers = refl; fits = below_so c i.next_chan below.1 })

  value_inside : (v : Datum) → IsIn (known_in i.state) v → IsIn inside v
  value_inside v h = more_in (known_in i.state) inside (λ c k. k) (λ r k. k) v h

  value_lined : (v : Datum) → IsIn (known_in i.state) v → is_known lined v ≡ true
  value_lined v h = known_so i.program lined v (more_in inside lined more.channels more.references v (value_inside v h))

  there_so : {X : Type 0} (o : Option X) (x : X) → o ≡ Some x → is_some o ≡ true
  there_so o x h = ap is_some h

  reference_good : (r : ℕ × Datum) → map.get i.state.references r.0 ≡ Some r.1 → IsGood (reference_line r)
  reference_good r at =
      let there = there_so (map.get i.state.references r.0) r.1 at in
      let v = s.standing.references r.0 r.1 at in
      let k = s.known.references r.0 r.1 at in
      let high = s.named.references r.0 there in (
        ((name_below r.0 i.next_ref (not_0 r.0 there) high s.reference, value_right i.program inside s.few names r.1 v (value_inside r.1 k)), refl),
        record {
          numbers = texts_so i.program r.1 v;
          fits = and_from (nat_lt r.0 i.next_ref) (is_known lined r.1) (below_so r.0 i.next_ref high) (value_lined r.1 k);
        },
      )

  output_good : (v : Datum) → IsValue i.program v × IsIn (known_in i.state) v → IsGood (output_line v)
  output_good v h = ((value_right i.program inside s.few names v h.0 (value_inside v h.1), refl), record { numbers = texts_so i.program v h.0; fits = value_lined v h.1 })

  thread_good : (t : ℕ × Expr) → map.get i.state.threads t.0 ≡ Some t.1 → IsGood (thread_line i t)
  thread_good t at =
      let there = there_so (map.get i.state.threads t.0) t.1 at in
      let below = s.named.threads t.0 there in
      let stands = s.standing.threads t.0 t.1 at in
      let within = joined (known_in i.state) (sections_alone (is_section i.seq)) inside (λ c k. k) (λ r k. k) (λ m k. k) t.1 (s.known.threads t.0 t.1 at) (s.sections t.0 t.1 at) in (
        ((name_below t.0 i.next_thread below.0 below.1 s.thread, s.put_back t.0, thread_right i.program inside s.few names t.1 stands within), refl),
        record {
          numbers = thread_counted i.program t.1 stands;
          fits = and_from (nat_lt t.0 i.next_thread) (thread_stands i.program lined t.1) (below_so t.0 i.next_thread below.1) (thread_so i.program lined t.1 stands (more_expr inside lined more t.1 within));
        },
      )

  all_good : AllByRecursion IsGood (lines_of i)
  all_good =
      all_four IsGood (each channel_line (cs i)) (each reference_line (rs i)) (each output_line i.state.output) (each (thread_line i) (entries i.state.threads))
      (all_each (λ (c : ℕ). (set.contains i.state.channels c ≡ true) × (1 ≤ c) × (c < 1 + (i.next_chan - 1))) IsGood channel_line channel_good (cs i) (those_pass (set.contains i.state.channels) 1 (i.next_chan - 1)))
      (all_each (λ (r : ℕ × Datum). map.get i.state.references r.0 ≡ Some r.1) IsGood reference_line reference_good (rs i) (entries_got i.state.references))
      (all_each (λ (v : Datum). IsValue i.program v × IsIn (known_in i.state) v) IsGood output_line output_good i.state.output (all_both (IsValue i.program) (IsIn (known_in i.state)) i.state.output s.standing.output s.known.output))
      (all_each (λ (t : ℕ × Expr). map.get i.state.threads t.0 ≡ Some t.1) IsGood (thread_line i) thread_good (entries i.state.threads) (entries_got i.state.threads))

  references_low : AllByRecursion (λ (r : ℕ × Datum). 1 ≤ r.0) (entries i.state.references)
  references_low = all_map (λ (r : ℕ × Datum). map.get i.state.references r.0 ≡ Some r.1) (λ (r : ℕ × Datum). 1 ≤ r.0) (λ r at. not_0 r.0 (there_so (map.get i.state.references r.0) r.1 at)) (entries i.state.references) (entries_got i.state.references)

  threads_low : AllByRecursion (λ (t : ℕ × Expr). 1 ≤ t.0) (entries i.state.threads)
  threads_low = all_map (λ (t : ℕ × Expr). map.get i.state.threads t.0 ≡ Some t.1) (λ (t : ℕ × Expr). 1 ≤ t.0) (λ t at. (s.named.threads t.0 (there_so (map.get i.state.threads t.0) t.1 at)).0) (entries i.state.threads) (entries_got i.state.threads)

  pub state_right : AreOfState i.program (next_of i) (lines_of i)
  state_right = record {
    right = all_first (λ (l : Line). IsLine l × (is_end l ≡ false)) (FitsAlone (bounds i.program (next_of i) (lines_of i))) (lines_of i) all_good;
    fit =
        fit_from (bounds i.program (next_of i) (lines_of i)) None (lines_of i)
        (all_second (λ (l : Line). IsLine l × (is_end l ≡ false)) (FitsAlone (bounds i.program (next_of i) (lines_of i))) (lines_of i) all_good)
        (lines_ordered i (entries_rise i.state.references references_low) (entries_rise i.state.threads threads_low));
  }

-- the sections that a thread entered
pub sections_of : (p : ProgramParts) (es : List Event) (run : List Numbered) (s : PlainState) → StandsFor p es run s → (t : ℕ) (e : Expr) → map.get s.threads t ≡ Some e → IsExprIn (sections_alone (is_section (length es))) e
sections_of p es run s stands t e at =
    more_expr (sections_alone (is_entered_by t run)) (sections_alone (is_section (length es)))
    (record { channels = λ c h. refl; references = λ r h. refl; sections = λ m h. entered_within es t m run (steps_of p es run s stands).labels h }) e
    (run_entered p s run (stands_run p es run s stands).1 t e at)

module _ (a : Inside) (sound : IsSound a) (stand : (run : List Numbered) (s : PlainState) → IsRun (arc_value a.program) run s → IsStanding (arc_value a.program) s) (counts : CountsAreWithin (arc_value a.program)) (probes : AllByRecursion IsProbe a.script.items) where
  module _ (p : ProgramParts) (script : List ℤ) (es : List Event) (h : StandsAt p script es (image_of a)) where
    stands_for : StandsFor (arc_value a.program) es h.run a.state.state
    stands_for = subst (λ (q : ProgramParts). StandsFor q es h.run a.state.state) (sym h.program_is) h.stands

    is_sound : IsSoundImage (image_of a)
    is_sound = record {
      few = record { functions = counts.0; texts = counts.2 };
      cut = sound.cut;
      thread = sound.thread;
      chan = sound.chan;
      reference = sound.reference;
      known = sound.known;
      below = sound.below;
      named = sound.named;
      put_back = sound.put_back;
      standing = stand h.run a.state.state (stands_run (arc_value a.program) es h.run a.state.state stands_for).1;
      sections = λ t e at. subst (λ (n : ℕ). IsExprIn (sections_alone (is_section n)) e) (sym h.seq) (sections_of (arc_value a.program) es h.run a.state.state stands_for t e at);
    }

    pub image_right : IsRight (image_of a)
    image_right = record {
      text = sound.text;
      small = sound.short;
      probes = (sound.script, sound.used);
      script = probes;
      next = (sound.cut, sound.thread, sound.chan, sound.reference);
      state = state_right (image_of a) is_sound;
      channels = sound.below.channels;
      generations = sound.same;
    }
