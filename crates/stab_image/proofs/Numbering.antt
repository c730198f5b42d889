-- The channels and references of a state have numbers that the events name.
use Rattle.std.proofs.Common.{◌≡◌, ℕ, zero, suc, ◌+◌, ◌<◌, ◌≤◌, Bool, true, false, ◌||◌, max, fold, List, [], ◌∷◌, refl, sym, ap, subst, ◌∙◌, arith}
use Rattle.std.specs.Prelude.{Some, None, is_some, nat_eq}
use Rattle.std.specs.List.{AllByRecursion, flat_map}
use Rattle.std.specs.Ordering.{nat_cmp}
use Rattle.std.specs.FinMap as map
use Rattle.std.specs.FinSet as set
use Rattle.std.proofs.lemmas.Bool.{false≢true, eqb-true, ne_eqb}
use Rattle.std.proofs.lemmas.List.Sums.{fold-append}
use Rattle.stab_journal.specs.declared.event.Event.{Event}
use Rattle.stab_journal.specs.declared.event.Label.{Label}
use Rattle.stab_journal.specs.declared.event.Label.TheVariants.{Local, Spawn, NewChan, Comm, NewRef, Get, Set, Enter, Cut, Print, Probe, Refuse, Pin, Attempt}
use Rattle.stab_journal.specs.declared.event.Numbered.{Numbered}
use Rattle.stab_journal.specs.declared.event.What.{What}
use Rattle.stab_journal.specs.declared.event.What.TheVariants.{Step, Undo, Release}
use Rattle.stab_journal.specs.Event.{AreEvents, IsLabel, label_of}
use Rattle.stab_journal.specs.Journal.{label_at}
use Rattle.stab_journal.specs.Label.{written}
use Rattle.stab_journal.specs.Names.{is_at, made}
use Rattle.stab_journal.specs.Numbers.{chans_in, greatest, named_by}
use Rattle.stab_code.specs.Program.{ProgramParts}
use Rattle.language.specs.Plain.{PlainState, effect_of, start}
use Rattle.language.specs.Standing.{StandsFor}
use Rattle.language.specs.Steps.{State, Table, after_steps, plain}
use Rattle.language.proofs.Applying.{put_channel-is, put_value-apart}
use Rattle.journal_laws.proofs.Stepping.{step_of}
use Rattle.journal_laws.proofs.Surviving.{no_steps, some_is, some_none}
use Rattle.journal_laws.proofs.Undone.{stands_run}
use Rattle.trace_verify.proofs.Judging.{steps_of}
use Rattle.stab_image.specs.Numbered.{AreBelow}
use Rattle.stab_image.proofs.Cutting.{label_in}

-- a channel that the step makes is below this number, and no channel or reference that it makes or writes is 0
pub record IsBelow (next : ℕ) (l : Label) : Type 0 where
  pub channels : (c : ℕ) → is_at (made l) c ≡ true → (1 ≤ c) × (c < next)
  pub references : is_at (written l) 0 ≡ false

-- the numbers are no greater than the greatest
fold_from : (g : ℕ) (xs : List ℕ) → g ≤ fold max g xs
fold_from g [] = omega arith
fold_from g (x ∷ xs) = omega (arith, fold_from (max g x) xs)

label_named : (names : Label → List ℕ) (es : List Event) (k g : ℕ) (l : Label) (c : ℕ) → label_at es k ≡ Some l → names l ≡ c ∷ [] → c ≤ fold max g (flat_map (λ (e : Event). named_by names e.what) es)
label_named names es zero g l c at is = absurd (let no : None ≡ Some l = at in cc)
label_named names [] (suc k) g l c at is = absurd (let no : None ≡ Some l = at in cc)
label_named names (e ∷ es) (suc (suc k)) g l c at is =
    let later = label_named names es (suc k) (fold max g (named_by names e.what)) l c at is in
    subst (λ n. c ≤ n) (sym (fold-append max g (named_by names e.what) (flat_map (λ (x : Event). named_by names x.what) es))) later
label_named names (e ∷ es) (suc zero) g l c at is =
    let first : named_by names e.what ≡ c ∷ [] = of_what e.what at in
    let rest = flat_map (λ (x : Event). named_by names x.what) es in
    subst (λ n. c ≤ n) (sym (fold-append max g (named_by names e.what) rest ∙ ap (λ (xs : List ℕ). fold max (fold max g xs) rest) first)) (omega (arith, fold_from (max g c) rest))
  where
    of_what : (w : What) → label_of w ≡ Some l → named_by names w ≡ c ∷ []
    of_what (Step m) h = let same : m ≡ l = cc in ap names same ∙ is
    of_what (Undo t m) h = absurd (let no : None ≡ Some l = h in cc)
    of_what (Release n) h = absurd (let no : None ≡ Some l = h in cc)

no_number : (c next : ℕ) → false ≡ true → (1 ≤ c) × (c < next)
no_number c next h = absurd (false≢true h)

not_zero : (r : ℕ) → 1 ≤ r → nat_eq 0 r ≡ false
not_zero r h = ne_eqb 0 r (λ same. omega arith)

-- a label of an event is below the next channel
label_below : (es : List Event) (k : ℕ) (l : Label) → AreEvents 1 es → label_at es k ≡ Some l → IsBelow (greatest (named_by chans_in) es + 1) l
label_below es k l all at = by l at (label_in 1 es k l all at)
  where
    by : (m : Label) → label_at es k ≡ Some m → IsLabel m → IsBelow (greatest (named_by chans_in) es + 1) m
    by (NewChan t n) is h = record {
      channels = λ c here.
          let same : c ≡ n.0 = eqb-true c n.0 here in
          let up = label_named chans_in es k 0 (NewChan t n) n.0 is refl in
          (omega (arith, h.1.0), omega (arith, up));
      references = refl;
    }
    by (NewRef t r) is h = record { channels = λ c here. no_number c _ here; references = not_zero r.0 h.1.0 }
    by (Set t r) is h = record { channels = λ c here. no_number c _ here; references = not_zero r.0 h.1.0 }
    by (Local t n) is h = record { channels = λ c here. no_number c _ here; references = refl }
    by (Spawn t u) is h = record { channels = λ c here. no_number c _ here; references = refl }
    by (Comm s r c) is h = record { channels = λ c here. no_number c _ here; references = refl }
    by (Get t r) is h = record { channels = λ c here. no_number c _ here; references = refl }
    by (Enter t) is h = record { channels = λ c here. no_number c _ here; references = refl }
    by (Cut t) is h = record { channels = λ c here. no_number c _ here; references = refl }
    by (Print t) is h = record { channels = λ c here. no_number c _ here; references = refl }
    by (Probe t i) is h = record { channels = λ c here. no_number c _ here; references = refl }
    by (Refuse t) is h = record { channels = λ c here. no_number c _ here; references = refl }
    by (Pin t) is h = record { channels = λ c here. no_number c _ here; references = refl }
    by (Attempt t g) is h = record { channels = λ c here. no_number c _ here; references = refl }

either : (a b : Bool) (P : Type 0) → (a || b) ≡ true → (a ≡ true → P) → (b ≡ true → P) → P
either true b P h f g = f refl
either false b P h f g = g h

module _ {E : Type 0} (effect : Table E) (next : ℕ) where
  one_below : (s n : State E) (q : ℕ) (l : Label) → plain effect s q l ≡ Some n → IsBelow next l → AreBelow next s → AreBelow next n
  one_below s n q l is h before =
      let st = step_of effect s q l n is in
      record {
        channels = λ c there.
            either (is_at (made l) c) (set.contains s.channels c) _ (sym (ap (λ (k : State E). set.contains k.channels c) st.is ∙ put_channel-is (made l) s.channels c) ∙ there) (h.channels c) (before.channels c);
        references = ap (λ (k : State E). map.contains_key k.references 0) st.is ∙ ap is_some (put_value-apart (written l) st.eff.value s.references 0 h.references) ∙ before.references;
      }

  all_below : (ns : List Numbered) (s n : State E) → after_steps effect (Some s) ns ≡ Some n → AllByRecursion (λ (k : Numbered). IsBelow next k.label) ns → AreBelow next s → AreBelow next n
  all_below [] s n is all before = subst (AreBelow next) (some_is is) before
  all_below (m ∷ ns) s n is all before =
      elim (plain effect s m.seq.0 m.label) as (λ o. plain effect s m.seq.0 m.label ≡ o → after_steps effect o ns ≡ Some n → AreBelow next n) [
        | None ↦ λ step run. absurd (some_none (sym run ∙ no_steps effect ns))
        | (Some k) ↦ λ step run. all_below ns k n run all.1 (one_below s k m.seq.0 m.label step all.0 before)
      ] refl is

each_below : (es : List Event) (ns : List Numbered) → AreEvents 1 es → AllByRecursion (λ (n : Numbered). label_at es n.seq.0 ≡ Some n.label) ns → AllByRecursion (λ (k : Numbered). IsBelow (greatest (named_by chans_in) es + 1) k.label) ns
each_below es [] all h = tt
each_below es (n ∷ ns) all h = (label_below es n.seq.0 n.label all h.0, each_below es ns all h.1)

-- the numbers of a history's state are below the next ones
pub numbers_below : (p : ProgramParts) (es : List Event) (run : List Numbered) (s : PlainState) → AreEvents 1 es → StandsFor p es run s → AreBelow (greatest (named_by chans_in) es + 1) s
numbers_below p es run s all stands =
    let ends = (stands_run p es run s stands).1.ends in
    all_below (effect_of p) _ run (start p) s ends (each_below es run all (steps_of p es run s stands).labels) (record {
      channels = λ c there. absurd (false≢true (sym (set.contains-empty nat_cmp c) ∙ there));
      references = ap is_some (map.get-empty nat_cmp 0);
    })
