-- What a watched run leaves, as a run by the most workers.
use Rattle.std.proofs.Common.{◌≡◌, ◌≢◌, ◌≤◌, inl, inr, ℕ, List, [], ◌∷◌, Option, Some, None, Result, Ok, Err, IfOk, IfErr, IfSome, codes, sym, ap, subst, ◌∙◌, ◌++◌, append_assoc, arith}
use Rattle.std.specs.Prelude.{decimal}
use Rattle.stab_code.specs.JobParts.{JobParts}
use Rattle.stab_journal.specs.declared.event.Event.{Event}
use Rattle.stab_words.specs.Command.{most_workers}
use Rattle.commit_book.specs.Book.{BookView}
use Rattle.language.specs.Shown.{line}
use Rattle.turn_floor.specs.Served.{AreOf}
use Rattle.sink_lines.specs.Device.{Device}
use Rattle.worker_rounds.specs.declared.rounds.Stop.{Stop}
use Rattle.worker_rounds.specs.Shared.{IsSharedOf}
use Rattle.call_status.specs.declared.status.Status.{Status}
use Rattle.book_runs.specs.Playing.{HasRun, HasStopped}

pub not_one : most_workers ≢ 1
not_one is = absurd (omega (arith, is))

-- fewer workers than the most
pub of_most : (workers : ℕ) → workers ≤ most_workers → (es : List Event) → AreOf workers es → AreOf most_workers es
of_most workers few [] named = tt
of_most workers few (e ∷ es) named = ((named.0.0, let m = named.0.1 in omega (arith, m, few)), of_most workers few es named.1)

pub as_most : (workers : ℕ) → workers ≤ most_workers → (job : JobParts) (b : BookView) (stop : Option Stop) (sink after : Device (List ℕ)) → IsSharedOf workers job b stop sink after → IsSharedOf most_workers job b stop sink after
as_most workers few job b stop sink after shared =
    record { of_job = shared.of_job; shown = shared.shown; free = shared.free; named = of_most workers few b.history.events shared.named; says = shared.says }

-- a run names its workers, whether it is over or was stopped
pub named_by : (workers : ℕ) (job : JobParts) (b : BookView) (sink after : Device (List ℕ)) (end : Result Status Stop) → IfOk end (λ status. HasRun workers status job b) → IfErr end (λ stop. HasStopped workers stop job b sink after) → AreOf workers b.history.events
named_by workers job b sink after (Ok status) over stopped = over.run.named
named_by workers job b sink after (Err stop) over stopped = stopped.run.named

-- a book that is left has its events
pub events_of : (P : List Event → Type 0) (book : Option BookView) (b : BookView) → book ≡ Some b → P b.history.events → IfSome book (λ x. P x.history.events)
events_of P book b is holds = subst (λ o. IfSome o (λ (x : BookView). P x.history.events)) (sym is) holds

-- the three words of a reading
pub three : (a b c x y z : ℕ) → a ∷ b ∷ c ∷ [] ≡ x ∷ y ∷ z ∷ [] → (a ≡ x) × (b ≡ y) × (c ≡ z)
three a b c x y z is = (cc, cc, cc)

-- ---- last lines

flat : (x a y z : List ℕ) → x ++ a ++ y ++ z ≡ x ++ (a ++ (y ++ z))
flat x a y z = append_assoc (x ++ a) y z ∙ append_assoc x a (y ++ z)

flat_more : (x a y b z e : List ℕ) → x ++ a ++ y ++ b ++ z ++ e ≡ x ++ (a ++ (y ++ (b ++ (z ++ e))))
flat_more x a y b z e = append_assoc (x ++ a ++ y ++ b) z e ∙ append_assoc (x ++ a ++ y) b (z ++ e) ∙ flat x a y (b ++ (z ++ e))

pub mill_text : (size n m : ℕ) → n ≡ m → codes "mill " ++ (decimal size ++ (codes " undos " ++ (decimal n ++ 10 ∷ []))) ≡ line (codes "mill " ++ decimal size ++ codes " undos " ++ decimal m)
mill_text size n m is =
    ap (λ l. codes "mill " ++ l) (sym (flat (decimal size) (codes " undos ") (decimal n) (10 ∷ [])))
    ∙ ap (λ k. line (codes "mill " ++ decimal size ++ codes " undos " ++ decimal k)) is

pub watch_text : (a b c x y z : ℕ) → (a ≡ x) × (b ≡ y) × (c ≡ z) → codes "watch weight " ++ (decimal a ++ (codes " undos " ++ (decimal b ++ (codes " cuts " ++ (decimal c ++ 10 ∷ [])))))
    ≡ line (codes "watch weight " ++ decimal x ++ codes " undos " ++ decimal y ++ codes " cuts " ++ decimal z)
watch_text a b c x y z is =
    ap (λ l. codes "watch weight " ++ l) (sym (flat_more (decimal a) (codes " undos ") (decimal b) (codes " cuts ") (decimal c) (10 ∷ [])))
    ∙ ap (λ k. line (codes "watch weight " ++ decimal k ++ codes " undos " ++ decimal b ++ codes " cuts " ++ decimal c)) is.0
    ∙ ap (λ k. line (codes "watch weight " ++ decimal x ++ codes " undos " ++ decimal k ++ codes " cuts " ++ decimal c)) is.1
    ∙ ap (λ k. line (codes "watch weight " ++ decimal x ++ codes " undos " ++ decimal y ++ codes " cuts " ++ decimal k)) is.2
