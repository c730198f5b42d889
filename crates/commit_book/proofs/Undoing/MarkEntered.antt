-- The innermost section of a thread is one that the thread entered in the run.
use Rattle.std.proofs.Common.{◌≡◌, ℕ, Bool, true, false, ◌&&◌, ◌||◌, nat_eq, List, [], ◌∷◌, ◌++◌, Option, Some, None, refl, sym, ap, subst, ◌∙◌}
use Rattle.std.specs.Prelude.{option_and_then, if◌then◌else◌}
use Rattle.std.specs.List.{AllByRecursion}
use Rattle.std.specs.FinMap as map
use Rattle.std.proofs.lemmas.Bool.{false≢true, eqb-true, and_parts}
use Rattle.stab_base.specs.Datum.{Datum}
use Rattle.stab_code.specs.Program.{ProgramParts}
use Rattle.stab_journal.specs.declared.event.Label.{Label}
use Rattle.stab_journal.specs.declared.event.Label.TheVariants.{Enter}
use Rattle.stab_journal.specs.declared.event.Numbered.{Numbered}
use Rattle.stab_journal.specs.Floor.{is_enter, is_entered}
use Rattle.stab_journal.specs.Label.{touched}
use Rattle.stab_journal.specs.Names.{has}
use Rattle.language.specs.declared.head.Head.{Head}
use Rattle.language.specs.declared.head.Head.TheVariants.{Section}
use Rattle.language.specs.Expression.{Expr, Parts, value, variable, failed, form, none, part}
use Rattle.language.specs.Plain.{IsRun, PlainState, mark_in}
use Rattle.language.specs.Redex.{Frame, first_counts_alone, frames, frames_of, innermost, mark, redex_in, redex_of, section_or}
use Rattle.journal_laws.specs.Entered.{enters_by, is_entered_by}
use Rattle.journal_laws.specs.Known.{ArePartsIn, IsExprIn, IsHeadIn, Known, sections_alone}
use Rattle.journal_laws.proofs.Runs.{run_entered}
use Rattle.journal_laws.proofs.Surviving.{some_is, some_none}
use Rattle.std.specs.Cmp.{nat_eq_equiv}

-- ---- the sections round a redex are those of the expression

abbrev AreHeadsIn : Known → List Frame → Type 0
AreHeadsIn k fs = AllByRecursion (λ (f : Frame). IsHeadIn k f.head) fs

module _ (k : Known) where
  mutual
    heads_of : (e : Expr) (round : List Frame) → AreHeadsIn k round → IsExprIn k e → AreHeadsIn k (frames_of (redex_of e round))
    heads_of (value v) round fi i = tt
    heads_of (variable x) round fi i = tt
    heads_of (failed f) round fi i = tt
    heads_of (form h ps) round fi i = heads_in ps h [] round fi i.0 i.1

    heads_in : (ps : Parts) (h : Head) (left : List Datum) (round : List Frame) → AreHeadsIn k round → IsHeadIn k h → ArePartsIn k ps → AreHeadsIn k (frames_of (redex_in ps h left round))
    heads_in none h left round fi hi i = fi
    heads_in (part (value v) ps) h left round fi hi i =
        elim (first_counts_alone h) as (λ b. AreHeadsIn k (frames_of (if b then Some (record { round = round; head = h; values = v ∷ []; waiting = ps }) else redex_in ps h (left ++ v ∷ []) round))) [
          | true ↦ fi
          | false ↦ heads_in ps h (left ++ v ∷ []) round fi hi i.1
        ]
    heads_in (part (variable x) ps) h left round fi hi i = tt
    heads_in (part (failed f) ps) h left round fi hi i = tt
    heads_in (part (form g qs) ps) h left round fi hi i = heads_of (form g qs) (record { head = h; left = left; right = ps } ∷ round) (hi, fi) i.0

  section_known : (h : Head) (o : Option ℕ) (m : ℕ) → IsHeadIn k h → (o ≡ Some m → k.sections m ≡ true) → section_or h o ≡ Some m → k.sections m ≡ true
  section_known (Section q) o m hi deep is = subst (λ (n : ℕ). k.sections n ≡ true) (some_is is) hi
  section_known _ o m hi deep is = deep is

  innermost_known : (fs : List Frame) (m : ℕ) → AreHeadsIn k fs → innermost fs ≡ Some m → k.sections m ≡ true
  innermost_known [] m fi is = absurd (some_none (sym is))
  innermost_known (f ∷ fs) m fi is = section_known f.head (innermost fs) m fi.0 (λ deep. innermost_known fs m fi.1 deep) is

  mark_known : (e : Expr) (m : ℕ) → IsExprIn k e → mark e ≡ Some m → k.sections m ≡ true
  mark_known e m i is = innermost_known (frames e) m (heads_of e [] tt i) is

-- ---- it was entered

enters : (t : ℕ) (l : Label) → enters_by t l ≡ true → (is_enter l ≡ true) × (has (touched l) t ≡ true)
enters t (Enter u) h = (refl, ap (λ b. if b then true else false) h)
enters t _ h = absurd (false≢true h)

-- a step in which the thread enters it
pub record IsEntry (t m : ℕ) (run : List Numbered) : Type 0 where
  pub before : List Numbered
  pub n : Numbered
  pub after : List Numbered
  pub is : run ≡ before ++ n ∷ after
  pub number : n.seq.0 ≡ m
  pub enters : is_enter n.label ≡ true
  pub touches : has (touched n.label) t ≡ true

entry_by : (t m : ℕ) (run : List Numbered) → is_entered_by t run m ≡ true → IsEntry t m run
entry_by t m [] h = absurd (false≢true h)
entry_by t m (n ∷ ns) h =
    elim (nat_eq m n.seq.0 && enters_by t n.label) as (λ b. (nat_eq m n.seq.0 && enters_by t n.label) ≡ b → (b || is_entered_by t ns m) ≡ true → IsEntry t m (n ∷ ns)) [
      | true ↦ λ is h.
          let both = and_parts (nat_eq m n.seq.0) (enters_by t n.label) is in
          let one = enters t n.label both.1 in
          record { before = []; n = n; after = ns; is = refl; number = sym (eqb-true m n.seq.0 both.0); enters = one.0; touches = one.1 }
      | false ↦ λ is h. let e = entry_by t m ns h in record { before = n ∷ e.before; n = e.n; after = e.after; is = ap (λ l. n ∷ l) e.is; number = e.number; enters = e.enters; touches = e.touches }
    ] refl h

-- so it is a section of the run
entered_at : (t m : ℕ) (before : List Numbered) (n : Numbered) (after : List Numbered) → n.seq.0 ≡ m → is_enter n.label ≡ true → is_entered m (before ++ n ∷ after) ≡ true
entered_at t m [] n after number enter = ap (λ b. (b && is_enter n.label) || is_entered m after) (ap (nat_eq m) number ∙ nat_eq_equiv.refl m) ∙ ap (λ b. b || is_entered m after) enter
entered_at t m (k ∷ before) n after number enter = ap (λ b. (nat_eq m k.seq.0 && is_enter k.label) || b) (entered_at t m before n after number enter) ∙ or_true (nat_eq m k.seq.0 && is_enter k.label)
  where
    or_true : (b : Bool) → (b || true) ≡ true
    or_true true = refl
    or_true false = refl

pub entered_in : (t m : ℕ) (run : List Numbered) → IsEntry t m run → is_entered m run ≡ true
entered_in t m run e = ap (is_entered m) e.is ∙ entered_at t m e.before e.n e.after e.number e.enters

pub mark_entered : (p : ProgramParts) (s : PlainState) (run : List Numbered) → IsRun p run s → (t m : ℕ) → mark_in s t ≡ Some m → IsEntry t m run
mark_entered p s run r t m is =
    elim (map.get s.threads t) as (λ o. map.get s.threads t ≡ o → option_and_then mark o ≡ Some m → IsEntry t m run) [
      | None ↦ λ at is. absurd (some_none (sym is))
      | (Some e) ↦ λ at is. entry_by t m run (mark_known (sections_alone (is_entered_by t run)) e m (run_entered p s run r t e at) is)
    ] refl is
