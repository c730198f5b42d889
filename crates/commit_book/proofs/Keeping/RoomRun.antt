-- The next event comes after all that is kept of the run.
use Rattle.std.proofs.Common.{◌≡◌, ℕ, suc, ◌+◌, ◌<◌, ◌≤◌, true, false, cond, ◌&&◌, List, [], ◌∷◌, ◌++◌, length, Option, Some, None, refl, sym, ap, subst, ◌∙◌, append_assoc, arith}
use Rattle.std.specs.List.{All}
use Rattle.std.specs.Ordering.{nat_cmp}
use Rattle.std.specs.FinSet as set
use Rattle.std.specs.FinSet.{FinSet}
use Rattle.std.proofs.lemmas.List.Elements.{All-append, All-nil, All-push}
use Rattle.stab_base.specs.Datum.{Datum}
use Rattle.stab_code.specs.Program.{ProgramParts}
use Rattle.stab_journal.specs.declared.event.Event.{Event}
use Rattle.stab_journal.specs.declared.event.Label.{Label}
use Rattle.stab_journal.specs.declared.event.Numbered.{Numbered}
use Rattle.stab_journal.specs.declared.event.What.{What}
use Rattle.stab_journal.specs.declared.event.What.TheVariants.{Step, Undo, Release}
use Rattle.stab_journal.specs.Journal.{Journal, RiseFrom, step_at, survivors_from}
use Rattle.stab_journal.specs.Label.{actors, written}
use Rattle.stab_journal.specs.Names.{has, is_at}
use Rattle.language.specs.Plain.{PlainState}
use Rattle.language.specs.Standing.{Shows}
use Rattle.language.specs.Steps.{State, Table, next}
use Rattle.journal_laws.specs.Surviving.{thread_of, value_of}
use Rattle.journal_laws.proofs.Numbers.{rise_front}
use Rattle.ref_log.specs.Log.{Write, kept}
use Rattle.ref_log.proofs.Bounds.{kept_below}
use Rattle.commit_book.specs.Run.{saves, stood_at, write_of, writes_in}
use Rattle.commit_book.proofs.Keeping.Floors.{differs}
use Rattle.commit_book.proofs.Keeping.JournalSteps.{numbered}

sooner : (q : ℕ) (ns : List Numbered) → RiseFrom (suc q) ns → RiseFrom q ns
sooner q [] h = tt
sooner q (n ∷ ns) h = (omega (arith, h.0), h.1)

at_what : (q : ℕ) (w : What) (ns : List Numbered) → RiseFrom (suc q) ns → RiseFrom q (step_at q w ++ ns)
at_what q (Step l) ns h = (omega arith, h)
at_what q (Undo t m) ns h = sooner q ns h
at_what q (Release k) ns h = sooner q ns h

-- the steps that aren't struck stand before the next event
rises_on : (struck : FinSet nat_cmp) (q : ℕ) (es : List Event) (n : Numbered) → q + length es ≤ n.seq.0 → RiseFrom q (survivors_from struck q es ++ n ∷ [])
rises_on struck q [] n low = (omega (arith, low), tt)
rises_on struck q (e ∷ es) n low =
    let later : RiseFrom (suc q) (survivors_from struck (suc q) es ++ n ∷ []) = rises_on struck (suc q) es n (omega (arith, low)) in
    subst (RiseFrom q) (sym (append_assoc (cond (set.contains struck q) [] (step_at q e.what)) (survivors_from struck (suc q) es) (n ∷ [])))
    (elim (set.contains struck q) as (λ b. RiseFrom q (cond b [] (step_at q e.what) ++ (survivors_from struck (suc q) es ++ n ∷ []))) [
      | true ↦ sooner q (survivors_from struck (suc q) es ++ n ∷ []) later
      | false ↦ at_what q e.what (survivors_from struck (suc q) es ++ n ∷ []) later
    ])

-- the numbers of a run still rise with the next step
pub next_rises : (p : ProgramParts) (j : Journal) (run : List Numbered) (s : PlainState) (l : Label) → Shows p j run s → RiseFrom 1 (run ++ numbered (length j.events + 1) l ∷ [])
next_rises p j run s l shows = subst (λ (ns : List Numbered). RiseFrom 1 (ns ++ numbered (length j.events + 1) l ∷ [])) shows.left (rises_on j.struck 1 j.events (numbered (length j.events + 1) l) (omega arith))

module _ {E : Type 0} (effect : Table E) where
  one_write : (q m : ℕ) (v : Option Datum) → q < m → All (λ (w : Write). w.number < m) (write_of q v)
  one_write q m None low = All-nil (λ (w : Write). w.number < m)
  one_write q m (Some v) low = All-push (λ (w : Write). w.number < m) [] (record { number = q; value = v }) (All-nil (λ (w : Write). w.number < m)) low

  -- the writes of a run stand before the next event
  writes_below : (r p : ℕ) (o : Option (State E)) (run : List Numbered) (n : Numbered) → RiseFrom p (run ++ n ∷ []) → All (λ (w : Write). w.number < n.seq.0) (writes_in effect r o run)
  writes_below r p o [] n rise = All-nil (λ (w : Write). w.number < n.seq.0)
  writes_below r p o (k ∷ run) n rise =
      let first = write_of k.seq.0 (value_of (next effect o k) r) in
      All-append (λ (w : Write). w.number < n.seq.0) (cond (is_at (written k.label) r) first []) (writes_in effect r (next effect o k) run)
      (elim (is_at (written k.label) r) as (λ b. All (λ (w : Write). w.number < n.seq.0) (cond b first [])) [
        | true ↦ one_write k.seq.0 n.seq.0 (value_of (next effect o k) r) (rise_front (suc k.seq.0) run n [] rise.1)
        | false ↦ All-nil (λ (w : Write). w.number < n.seq.0)
      ])
      (writes_below r (suc k.seq.0) (next effect o k) run n rise.1)

  pub kept_writes_below : (r p f : ℕ) (o : Option (State E)) (run : List Numbered) (n : Numbered) (ws : List Write) → RiseFrom p (run ++ n ∷ []) → ws ≡ kept f (writes_in effect r o run) → All (λ (w : Write). w.number < n.seq.0) ws
  kept_writes_below r p f o run n ws rise is = subst (All (λ (w : Write). w.number < n.seq.0)) (sym is) (kept_below f n.seq.0 (writes_in effect r o run) (writes_below r p o run n rise))

  -- no step of the run has the number of the next event or a greater one
  pub stood_none : (q t p : ℕ) (o : Option (State E)) (run : List Numbered) (n : Numbered) → RiseFrom p (run ++ n ∷ []) → n.seq.0 ≤ q → stood_at effect q t o run ≡ None
  stood_none q t p o [] n rise high = refl
  stood_none q t p o (j ∷ run) n rise high =
      let low : j.seq.0 < n.seq.0 = rise_front (suc j.seq.0) run n [] rise.1 in
      ap (λ b. cond b (cond (saves j.label && has (actors j.label) t) (thread_of o t) None) (stood_at effect q t (next effect o j) run)) (differs q j.seq.0 (omega (arith, low, high)))
      ∙ stood_none q t (suc j.seq.0) (next effect o j) run n rise.1 high
