-- What several workers leave of a run.
use Rattle.std.proofs.Common.{◌≡◌, ◌≤◌, ℕ, inl, List, [], ◌∷◌, ◌++◌, length, map, zero, suc, Option, Some, None, refl, sym, ap, subst, ◌∙◌, append_assoc, arith, Vec}
use Rattle.std.specs.List.{All}
use Rattle.std.specs.Vec.{with_items}
use Rattle.std.proofs.lemmas.List.{with_items_is}
use mathlib.Core.List.{IsPrefix}
use Rattle.stab_code.specs.JobParts.{JobParts}
use Rattle.stab_files.specs.Count.{Rose}
use Rattle.stab_files.proofs.Puts.{appends_trans}
use Rattle.stab_journal.specs.declared.event.Event.{Event}
use Rattle.stab_journal.specs.Due.{final_prints}
use Rattle.stab_journal.specs.Own.{own}
use Rattle.stab_journal.specs.Surviving.{run_of}
use Rattle.thread_slots.specs.declared.state.State.TheVariants.{Leased}
use Rattle.commit_book.specs.Book.{BookView, IsShown}
use Rattle.commit_book.specs.Counts.{in_state}
use Rattle.commit_book.specs.Turns.{IsRecalled}
use Rattle.book_text.specs.Written.{released_lines}
use Rattle.turn_floor.specs.Parts.{AreAll, FloorParts, PassParts, new_pass}
use Rattle.turn_floor.specs.Served.{AreOf, from_to}
use Rattle.turn_floor.specs.Start.{Start, start_of}
use Rattle.turn_floor.proofs.Histories.{prefix_more}
use Rattle.sink_lines.specs.Device.{Device, Gains}
use Rattle.sink_lines.proofs.Gained.{gains_nothing}
use Rattle.worker_lease.specs.Releases.{AreByOne, released_text}
use Rattle.worker_lease.specs.Working.{IsBegun}
use Rattle.worker_rounds.specs.declared.rounds.Stop.{Stop}
use Rattle.worker_rounds.specs.declared.rounds.Stop.TheVariants.{SinkFault, NoMemory}
use Rattle.worker_rounds.specs.Left.{IsLeft}
use Rattle.worker_rounds.specs.Releases.{EndSays, HasReleases, first_lines}
use Rattle.worker_rounds.specs.Rounds.{IsCutAfter, IsUsedUp, RoundsSay, first_seen}
use Rattle.worker_rounds.specs.Shared.{IsSharedOf}
use Rattle.worker_rounds.proofs.Closed.{closed, has_releases}

-- ---- before the first round

-- new passes of a floor that was given no event have seen nothing
pub none_seen_yet : (floor : FloorParts) (n : ℕ) (passes : List PassParts) → passes ≡ map (new_pass floor) (from_to 1 n) → floor.start.events ≡ [] → first_seen passes ≡ []
none_seen_yet floor n passes is none = ap first_seen is ∙ by n
  where
    by : (n : ℕ) → first_seen (map (new_pass floor) (from_to 1 n)) ≡ []
    by zero = refl
    by (suc n) = none

-- nothing was done, because memory ran out
pub not_begun : (workers : ℕ) (job after_job : JobParts) (events : List Event) (sink : Device (List ℕ)) → after_job ≡ job → events ≡ [] → IsLeft workers job after_job events (Some NoMemory) sink sink
not_begun workers job after_job events sink same none =
    subst (λ es. IsLeft workers job after_job es (Some NoMemory) sink sink) (sym none)
    (record { of_job = same; seen = []; begun = inl refl; grows = ([], refl); mine = refl; named = tt; says = gains_nothing sink })

-- ---- once all passes are given back

pub left_by : (floor : FloorParts) (passes : List PassParts) (job : JobParts) (events : List Event) (stop : Option Stop) (sink after : Device (List ℕ)) → AreAll floor passes → 1 ≤ floor.start.workers
    → job ≡ floor.start.job → All (λ (p : PassParts). IsPrefix p.seen events) passes → All (λ (p : PassParts). p.worker ≡ 1 → own 1 events ≡ own 1 p.seen) passes → AreOf floor.start.workers events
    → IsBegun floor.start.job (first_seen passes) → RoundsSay stop floor.start.job (first_seen passes) sink after → IsLeft floor.start.workers floor.start.job job events stop sink after
left_by floor [] job events stop sink after all some same seen mine named begun says = let n = all.every in absurd (omega (arith, n, some))
left_by floor (p ∷ ps) job events stop sink after all some same seen mine named begun says = record {
  of_job = same;
  seen = p.seen;
  begun = begun;
  grows = seen 0 p (omega arith);
  mine = mine 0 p (omega arith) (all.in_order 0 p (omega arith));
  named = named;
  says = says;
}

-- the passes that were in the cells
pub passes_left : {X Z : Type 0} (f : X → PassParts) (cells : Vec X Z) (left : List X) (passes : List PassParts) → passes ≡ map f (with_items cells left).items → length left ≡ cells.len → passes ≡ map f left
passes_left f cells left passes is many = is ∙ ap (map f) (with_items_is cells left many)

-- what a floor began with is the job, and the workers
pub left_from : (workers : ℕ) (job after_job : JobParts) (first events : List Event) (commits stale : ℕ) (start : Start) (stop : Option Stop) (sink after : Device (List ℕ)) → start ≡ start_of job first commits stale workers
    → IsLeft start.workers start.job after_job events stop sink after → IsLeft workers job after_job events stop sink after
left_from workers job after_job first events commits stale start stop sink after is left = subst (λ (s : Start). IsLeft s.workers s.job after_job events stop sink after) is left

-- ---- what was written

-- the book of a desk that was left, in which nobody has a lease
module _ (workers : ℕ) (job : JobParts) (desk b : BookView) (stop : Option Stop) (sink after : Device (List ℕ)) (left : IsLeft workers job desk.job desk.history.events stop sink after)
    (recalled : IsRecalled desk b) (shown : IsShown b) (free : in_state Leased b ≡ 0) (by_one : AreByOne b.history.events) where
  same : b.job ≡ job
  same = ap (λ (x : BookView). x.job) recalled.rest ∙ left.of_job

  events : b.history.events ≡ desk.history.events
  events = ap (λ (x : BookView). x.history.events) recalled.rest

  grows : IsPrefix left.seen b.history.events
  grows = subst (IsPrefix left.seen) (sym events) left.grows

  mine : own 1 b.history.events ≡ own 1 left.seen
  mine = ap (own 1) events ∙ left.mine

  lines : released_lines b ≡ released_text job left.seen
  lines = closed b job left.seen shown same by_one grows mine left.begun

  -- no event of worker 1 comes after a release whose lines were cut short
  front_has : (cut : IsCutAfter job left.seen sink after) (front : List ℕ) → HasReleases b shown.state (released_text job cut.old ++ front)
  front_has cut front first behind e split is_one =
      let release = cut.cut.release in
      let old = prefix_more cut.old left.seen grows.0 b.history.events cut.cut.grows (sym grows.1) in
      subst (λ (j : JobParts). (more : List ℕ) × (released_text job cut.old ++ front ≡ first_lines j.program shown.state first ++ more)) (sym same)
      (has_releases job b shown same by_one cut.old left.seen cut.begun old mine release.first first (final_prints (run_of release.first)) release.is cut.cut.same e behind split is_one front)

  ends : (stop : Option Stop) → RoundsSay stop job left.seen sink after → EndSays stop b shown.state sink after
  ends None says = (subst (Gains sink after) (sym lines) says.0, (left.seen, grows, subst (λ (j : JobParts). IsUsedUp j left.seen) (sym same) says.1))
  ends (Some NoMemory) says = subst (Gains sink after) (sym lines) says
  ends (Some SinkFault) says =
      let part = says.cut.cut.0 in
      let front = released_text job says.old in (
        record {
          front = front ++ part.front;
          back = part.back;
          split = append_assoc front part.front part.back ∙ ap (λ l. front ++ l) part.split ∙ sym (lines ∙ says.cut.all);
          fact = (appends_trans sink.told says.between.told after.told front part.front says.gains.0 part.fact, front_has says part.front);
        },
        subst (λ n. Rose n after.faults) says.gains.1 says.cut.cut.1,
      )

  pub shared_from : IsSharedOf workers job b stop sink after
  shared_from = record { of_job = same; shown = shown; free = free; named = subst (AreOf workers) (sym events) left.named; says = ends stop left.says }
