-- A drill is one of its job.
use Rattle.std.proofs.Common.{◌≡◌, ℕ, List, [], ◌∷◌, refl, ap, ◌∙◌}
use Rattle.std.specs.FinMap as map
use Rattle.stab_code.specs.JobParts.{JobParts}
use Rattle.commit_book.specs.declared.turn.Turn.{Turn}
use Rattle.commit_book.specs.declared.turn.Turn.TheVariants.{Work, Idle, Quiet, Spent, Release}
use Rattle.commit_book.specs.Book.{BookView}
use Rattle.commit_book.specs.Turns.{given_back}
use Rattle.commit_book.proofs.Threads.Partners.{there_of}
use Rattle.drill_text.specs.declared.order.Verb.{Verb}
use Rattle.drill_text.specs.declared.order.Verb.TheVariants.{Lease, Step, Commit}
use Rattle.drill_text.specs.declared.script.Line.{Line}
use Rattle.schedule_drill.specs.declared.held.Held.{Held}
use Rattle.schedule_drill.specs.Drilled.{ArePlayed, IsDrilled}
use Rattle.schedule_drill.specs.Out.{all_given_back}
use Rattle.schedule_drill.specs.Played.{IsAnswered, IsCommit, IsObeyed, IsPlayed, IsStep, IsTaken, Stand}
use Rattle.schedule_drill.proofs.Jobs.{committed_job, given_job}

module _ (old new : Stand) where
  taken_job : (k : ℕ) (turn : Turn) → IsTaken old new k turn → new.book.job ≡ old.book.job
  taken_job k (Work lease control) is = ap (λ (b : BookView). b.job) is.0.2
  taken_job k Idle is = ap (λ (b : BookView). b.job) is.0.1
  taken_job k Quiet is = ap (λ (b : BookView). b.job) is.0.1
  taken_job k Spent is = ap (λ (b : BookView). b.job) is.0.1
  taken_job k Release is = ap (λ (b : BookView). b.job) is.1

  obeyed_job : (verb : Verb) (k : ℕ) (what : List ℕ) → IsObeyed old new verb k what → new.book.job ≡ old.book.job
  obeyed_job Lease k what is = taken_job k is.1.turn is.1.taken
  obeyed_job Step k what is =
      let there = there_of (map.get old.out k) (IsStep old new k what) is in
      ap (λ (b : BookView). b.job) there.is.book
  obeyed_job Commit k what is =
      let there = there_of (map.get old.out k) (IsCommit old new k what) is in
      committed_job old.book new.book there.value.lease there.is.progress there.is.done there.is.committed

  played_job : (line : Line) (text : List ℕ) → IsPlayed old new line text → new.book.job ≡ old.book.job
  played_job line text is =
      let there = there_of line.order (IsAnswered old new text) is in
      obeyed_job there.value.verb there.value.lease there.is.what there.is.obeyed

all_played_job : (script : List Line) (old new : Stand) (text : List ℕ) → ArePlayed script old text new → new.book.job ≡ old.book.job
all_played_job [] old new text are = ap (λ (s : Stand). s.book.job) are.1
all_played_job (line ∷ lines) old new text are =
    all_played_job lines are.next new are.more are.follows ∙ played_job old are.next line are.written are.played

all_given_job : (b : BookView) (held : List Held) → (all_given_back b held).job ≡ b.job
all_given_job b [] = refl
all_given_job b (h ∷ more) = all_given_job (given_back b h.lease) more ∙ given_job b h.lease

-- the book that a drill ends with is of its job
pub drilled_job : (job : JobParts) (script : List Line) (text : List ℕ) (book : BookView) → IsDrilled job script text book → book.job ≡ job
drilled_job job script text book is =
    ap (λ (b : BookView). b.job) is.left
    ∙ all_given_job is.last.book (map.values is.last.out)
    ∙ all_played_job script is.first is.last text is.played
    ∙ is.begins.of_job
