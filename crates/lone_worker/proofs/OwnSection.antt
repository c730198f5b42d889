-- A thread that takes a section back is touched itself: it entered the section.
use Rattle.std.proofs.Common.{◌≡◌, ℕ, suc, ◌+◌, Bool, true, false, cond, ◌||◌, nat_eq, List, [], ◌∷◌, ◌++◌, length, refl, sym, ap, subst, ◌∙◌, arith, append-nil}
use Rattle.std.specs.Cmp.{nat_eq_equiv}
use Rattle.stab_code.specs.Program.{ProgramParts}
use Rattle.stab_journal.specs.declared.event.Event.{Event}
use Rattle.stab_journal.specs.declared.event.Label.TheVariants.{Local}
use Rattle.stab_journal.specs.declared.event.Numbered.{Numbered}
use Rattle.stab_journal.specs.declared.event.What.{What}
use Rattle.stab_journal.specs.declared.event.What.TheVariants.{Step, Undo, Release}
use Rattle.stab_journal.specs.Journal.{survivors}
use Rattle.stab_journal.specs.Names.{has}
use Rattle.stab_journal.specs.Reached.{Lost, is_reached, keep, lose, nothing_lost, reached, reached_from, depends}
use Rattle.stab_journal.specs.Surviving.{after_event, after_events, run_of}
use Rattle.language.specs.Plain.{PlainState}
use Rattle.language.specs.Standing.{MayUndo, StandsFor, event, nothing, step, undo, release}
use Rattle.journal_laws.specs.Lost.{is_hit}
use Rattle.journal_laws.proofs.Undone.{stands_run}
use Rattle.commit_book.specs.Book.{BookView, IsShown}
use Rattle.commit_book.specs.Rows.{events_by, local_of, numbered_from, thread}
use Rattle.commit_book.specs.Step.{next_seq}
use Rattle.commit_book.specs.Undoing.{IsTakenBack, begun, loses_a_step, undo_by}
use Rattle.commit_book.proofs.Undoing.MarkEntered.{IsEntry, mark_entered}
use Rattle.commit_book.proofs.Undoing.UndoneLines.{hit_here}

-- ---- the undo that comes last

head_is : (a b : Event) (xs ys : List Event) → a ∷ xs ≡ b ∷ ys → a ≡ b
head_is a b xs ys is = cc

tail_is : (a b : Event) (xs ys : List Event) → a ∷ xs ≡ b ∷ ys → xs ≡ ys
tail_is a b xs ys is = cc

no_last : (es : List Event) (e : Event) → [] ≡ es ++ e ∷ [] → ⊥
no_last [] e is = cc
no_last (f ∷ es) e is = cc

one_last : (xs ys : List Event) (x y : Event) → xs ++ x ∷ [] ≡ ys ++ y ∷ [] → (xs ≡ ys) × (x ≡ y)
one_last [] [] x y is = (refl, head_is x y [] [] is)
one_last [] (b ∷ ys) x y is = absurd (no_last ys y (tail_is x b [] (ys ++ y ∷ []) is))
one_last (a ∷ xs) [] x y is = absurd (no_last xs x (sym (tail_is a y (xs ++ x ∷ []) [] is)))
one_last (a ∷ xs) (b ∷ ys) x y is =
    let head = head_is a b (xs ++ x ∷ []) (ys ++ y ∷ []) is in
    let both = one_last xs ys x y (tail_is a b (xs ++ x ∷ []) (ys ++ y ∷ []) is) in
    let tail = both.0 in
    (λ i. head i ∷ tail i, both.1)

-- what may be taken back where these events end
pub record IsUndoable (p : ProgramParts) (es : List Event) (t m : ℕ) : Type 0 where
  pub run : List Numbered
  pub state : PlainState
  pub stands : StandsFor p es run state
  pub may : MayUndo p run state t m

abbrev Undoes : ProgramParts → List Event → What → Type 0
Undoes p es (Undo t m) = IsUndoable p es t.0 m.0
Undoes p es (Step l) = Unit {0}
Undoes p es (Release k) = Unit {0}

same_last : (p : ProgramParts) (fs es : List Event) (f e : Event) → fs ++ f ∷ [] ≡ es ++ e ∷ [] → Undoes p fs f.what → Undoes p es e.what
same_last p fs es f e is may =
    let both = one_last fs es f e is in
    subst (Undoes p es) (ap (λ (k : Event). k.what) both.1) (subst (λ ks. Undoes p ks f.what) both.0 may)

undo_last : (p : ProgramParts) (all : List Event) (run : List Numbered) (s : PlainState) → StandsFor p all run s → (es : List Event) (e : Event) → all ≡ es ++ e ∷ [] → Undoes p es e.what
undo_last p _ _ _ nothing es e is = absurd (no_last es e is)
undo_last p _ _ _ (step {events = fs} after worker label stands may made) es e is = same_last p fs es (event worker (Step label)) e is tt
undo_last p _ _ _ (undo {events = fs} {run = run} {before = before} after worker t m stands may ends) es e is =
    same_last p fs es (event worker (Undo (record { 0 = t }) (record { 0 = m }))) e is (record { run = run; state = before; stands = stands; may = may })
undo_last p _ _ _ (release {events = fs} worker k stands final more) es e is = same_last p fs es (event worker (Release k)) e is tt

-- ---- the run after the pure steps

after_last : (q : ℕ) (run : List Numbered) (es : List Event) (e : Event) → after_events q run (es ++ e ∷ []) ≡ after_event (q + length es) e.what (after_events q run es)
after_last q run [] e = ap (λ k. after_event k e.what run) (omega arith)
after_last q run (f ∷ es) e = after_last (suc q) (after_event q f.what run) es e ∙ ap (λ k. after_event k e.what (after_events (suc q) (after_event q f.what run) es)) (omega arith)

abbrev pub locals : ℕ → ℕ → ℕ → List Event
locals w t n = events_by w (local_of t n)

pub run_begun : (b : BookView) (w t n : ℕ) → survivors b.history ≡ run_of b.history.events → begun b t n ≡ run_of (b.history.events ++ locals w t n)
run_begun b w t n left = by (nat_eq n 0)
  where
    by : (z : Bool) → survivors b.history ++ numbered_from (next_seq b) (cond z [] (Local (thread t) n ∷ [])) ≡ run_of (b.history.events ++ events_by w (cond z [] (Local (thread t) n ∷ [])))
    by true = append-nil (survivors b.history) ∙ left ∙ ap run_of (sym (append-nil b.history.events))
    by false =
        let e = event w (Step (Local (thread t) n)) in
        ap (λ run. run ++ numbered_from (next_seq b) (Local (thread t) n ∷ [])) left
        ∙ sym (after_last 1 [] b.history.events e ∙ ap (λ k. after_event k e.what (run_of b.history.events)) (let number : 1 + length b.history.events ≡ next_seq b = omega arith in number))

-- ---- what is reached

cond_true : (c b : Bool) → b ≡ true → cond c true b ≡ true
cond_true true b is = refl
cond_true false b is = is

reached_itself : (m : ℕ) (x : Lost) (before : List Numbered) (n : Numbered) (after : List Numbered) → n.seq.0 ≡ m → has (reached_from m x (before ++ n ∷ after)) m ≡ true
reached_itself m x [] n after number =
    let at : nat_eq m n.seq.0 ≡ true = ap (nat_eq m) number ∙ nat_eq_equiv.refl m in
    ap (λ b. has (cond (b || depends n.label x) (n.seq.0 ∷ reached_from m (lose n.label x) after) (reached_from m (keep n.label x) after)) m) at
    ∙ ap (λ b. cond b true (has (reached_from m (lose n.label x) after) m)) at
reached_itself m x (k ∷ before) n after number =
    by (is_reached m k x) (reached_itself m (lose k.label x) before n after number) (reached_itself m (keep k.label x) before n after number)
  where
    by : (b : Bool) → has (reached_from m (lose k.label x) (before ++ n ∷ after)) m ≡ true → has (reached_from m (keep k.label x) (before ++ n ∷ after)) m ≡ true
        → has (cond b (k.seq.0 ∷ reached_from m (lose k.label x) (before ++ n ∷ after)) (reached_from m (keep k.label x) (before ++ n ∷ after))) m ≡ true
    by true lost kept = cond_true (nat_eq m k.seq.0) _ lost
    by false lost kept = kept

-- ---- who takes a section back

module _ (lent new : BookView) (worker t n m : ℕ) (shown : IsShown lent) (shown_new : IsShown new) (taken : IsTakenBack lent (record new { answered = lent.answered }) worker t n m (begun lent t n)) where
  abbrev run : List Numbered
  run = begun lent t n

  pub may : IsUndoable new.job.program (lent.history.events ++ locals worker t n) t m
  may =
      undo_last new.job.program new.history.events shown_new.run shown_new.state shown_new.shows.journal.history.stands (lent.history.events ++ locals worker t n) (undo_by worker t m) taken.events

  pub left : survivors lent.history ≡ run_of lent.history.events
  left = shown.shows.journal.history.left ∙ (stands_run lent.job.program lent.history.events shown.run shown.state shown.shows.journal.history.stands).0

  entry : IsEntry t m (begun lent t n)
  entry =
      let stood = stands_run new.job.program (lent.history.events ++ locals worker t n) may.run may.state may.stands in
      subst (IsEntry t m) (stood.0 ∙ sym (run_begun lent worker t n left)) (mark_entered new.job.program may.state may.run stood.1 t m may.may.mark)

  pub own_touched : loses_a_step (begun lent t n) m t ≡ true
  own_touched =
      let goes : has (reached run m) m ≡ true = ap (λ r. has (reached r m) m) entry.is ∙ reached_itself m nothing_lost entry.before entry.n entry.after entry.number in
      ap (is_hit (has (reached run m)) t) entry.is
      ∙ hit_here (has (reached run m)) t entry.before entry.n entry.after (ap (has (reached run m)) entry.number ∙ goes) entry.touches
