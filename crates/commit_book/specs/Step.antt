-- What one step leaves of what is kept of a run.
use Rattle.std.specs.Prelude.{◌≡◌, ℕ, ◌+◌, cond, ◌&&◌, ◌||◌, nat_eq, List, [], ◌∷◌, ◌++◌, length, None, option_map}
use Rattle.std.specs.FinMap as map
use Rattle.stab_journal.specs.declared.event.Label.{Label}
use Rattle.stab_journal.specs.declared.event.Numbered.{Numbered}
use Rattle.stab_journal.specs.declared.event.What.TheVariants.{Step}
use Rattle.stab_journal.specs.Journal.{step_at, survivors}
use Rattle.stab_journal.specs.Label.{actors, written}
use Rattle.stab_journal.specs.Names.{has, is_at, made}
use Rattle.stab_journal.specs.Script.{FollowsScript}
use Rattle.language.specs.Expression.{Expr}
use Rattle.language.specs.Plain.{PlainState}
use Rattle.language.specs.Standing.{event}
use Rattle.language.specs.Steps.{Effect}
use Rattle.step_eval.specs.ControlView.{Fits, expr_of}
use Rattle.commit_book.specs.Book.{BookView}
use Rattle.commit_book.specs.Graph.{node_of, wrote_by}
use Rattle.stab_journal.specs.Numbers.{AreNext, AreFew}
use Rattle.commit_book.specs.References.{writes_at}
use Rattle.commit_book.specs.Run.{saves}
use Rattle.commit_book.specs.Saved.{saved_of, AllSaved}

-- the number of the next event
abbrev pub next_seq : BookView → ℕ
next_seq b = length b.history.events + 1

-- the numbers of the last writes after these steps
abbrev pub wrote_after : (ℕ → ℕ) → List Numbered → ℕ → ℕ
wrote_after w [] = w
wrote_after w (n ∷ ns) = wrote_after (wrote_by n.seq.0 n.label w) ns

-- of the run that ends in s, a step with this label and effect is the next event, and all that is kept follows it
pub record IsStepOf (old new : BookView) (run : List Numbered) (s : PlainState) (worker : ℕ) (l : Label) (e : Effect Expr)
    : Type 0 where
  pub job : new.job ≡ old.job
  pub events : new.history.events ≡ old.history.events ++ event worker (Step l) ∷ []
  pub survivors : survivors new.history ≡ survivors old.history ++ step_at (next_seq old) (Step l)
  pub script : FollowsScript old.job.script new.history.events
  pub channels : (c : ℕ) → map.contains_key new.offers.lines c ≡ (is_at (made l) c || map.contains_key old.offers.lines c)
  pub last_cut : new.last_cut ≡ old.last_cut
  pub writes : (r : ℕ) → writes_at new.references r
      ≡ writes_at old.references r ++ cond (is_at (written l) r) (record { number = next_seq old; value = e.value } ∷ []) []
  pub printed : new.printed ≡ old.printed ++ e.printed
  pub next : AreNext new.history.events new.next.thread new.next.chan new.next.ref
  pub few : AreFew new.history.events new.next.thread new.next.chan new.next.ref
  pub saved : (q t : ℕ) → option_map (expr_of old.job.program) (saved_of new.saved q t)
      ≡ cond (nat_eq q (next_seq old))
      (cond (saves l && has (actors l) t) (map.get s.threads t) None)
      (option_map (expr_of old.job.program) (saved_of old.saved q t))
  pub saved_fit : AllSaved (Fits old.job.program) new.saved
  pub nodes : new.nodes ≡ old.nodes ++ node_of (wrote_after (λ _. 0) run) (next_seq old) l
