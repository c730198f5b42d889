-- What a round leaves of its state, by what worker 1's pass has seen.
use Rattle.std.proofs.Common.{◌≡◌, ℕ, zero, suc, ◌≤◌, List, [], ◌∷◌, length, map, ap, subst, ◌∙◌, arith, Vec}
use Rattle.std.specs.List.{All}
use Rattle.std.specs.Vec.{with_items}
use Rattle.std.proofs.lemmas.List.{with_items_is}
use Rattle.std.specs.Prelude.{filter}
use mathlib.Core.List.{IsPrefix}
use Rattle.stab_code.specs.JobParts.{JobParts}
use Rattle.stab_journal.specs.declared.event.Event.{Event}
use Rattle.stab_journal.specs.declared.event.Recorded.{Recorded}
use Rattle.stab_journal.specs.Own.{own}
use Rattle.turn_floor.specs.Parts.{FloorParts, PassParts, new_pass}
use Rattle.turn_floor.specs.Served.{AreOf, from_to}
use Rattle.worker_lease.specs.declared.worker.WorkEnd.{WorkEnd}
use Rattle.worker_lease.specs.Releases.{is_release, own_releases}
use Rattle.worker_lease.specs.Rounds.{AreRounds}
use Rattle.worker_lease.specs.Working.{IsRound}
use Rattle.live_rounds.specs.Rounds.{IsRound as IsRoundOf}

-- the passes that were in the cells
pub passes_left : {X Z : Type 0} (f : X → PassParts) (cells : Vec X Z) (left : List X) (passes : List PassParts) → passes ≡ map f (with_items cells left).items → length left ≡ cells.len → passes ≡ map f left
passes_left f cells left passes is many = is ∙ ap (map f) (with_items_is cells left many)

-- the first of new passes
first_new : (floor : FloorParts) (p : PassParts) (ps : List PassParts) (n : ℕ) → 1 ≤ n → p ∷ ps ≡ map (new_pass floor) (from_to 1 n) → p ≡ new_pass floor 1
first_new floor p ps zero some is = absurd (omega (arith, some))
first_new floor p ps (suc n) some is = cc

module _ (workers : ℕ) (floor : FloorParts) (job : JobParts) (events : List Event) (same : job ≡ floor.start.job) (begins : IsPrefix floor.start.events events) (named : AreOf workers events) where
  -- the first pass has seen no release but those that the floor was given
  left_by : (p : PassParts) → own 1 events ≡ own 1 p.seen → own_releases 1 p.seen ≡ own_releases 1 floor.start.events → IsRoundOf workers floor.start.job job floor.start.events events
  left_by p mine released = record {
    of_job = same;
    begins = begins;
    releases = ap (filter (λ (r : Recorded). is_release r.event.what)) mine ∙ released;
    named = named;
  }

  -- no round was made
  pub not_played : (passes : List PassParts) → 1 ≤ floor.start.workers → passes ≡ map (new_pass floor) (from_to 1 floor.start.workers)
      → All (λ (p : PassParts). p.worker ≡ 1 → own 1 events ≡ own 1 p.seen) passes → IsRoundOf workers floor.start.job job floor.start.events events
  not_played [] some new mine = absurd (none floor.start.workers some new)
    where
      none : (n : ℕ) → 1 ≤ n → [] ≡ map (new_pass floor) (from_to 1 n) → ⊥
      none zero some is = omega (arith, some)
      none (suc n) some is = cc
  not_played (p ∷ ps) some new mine =
      let first : p ≡ new_pass floor 1 = first_new floor p ps floor.start.workers some new in
      left_by p (mine 0 p (omega arith) (ap (λ q. q.worker) first)) (ap (λ (q : PassParts). own_releases 1 q.seen) first)

  module _ {X : Type 0} (pauses : Type 0) (f : X → PassParts) (e : X → WorkEnd) where
    played_by : (xs ys : List X) → 1 ≤ floor.start.workers → map f xs ≡ map (new_pass floor) (from_to 1 floor.start.workers) → AreRounds pauses floor.start.job f e xs ys
        → All (λ (p : PassParts). p.worker ≡ 1 → own 1 events ≡ own 1 p.seen) (map f ys) → IsRoundOf workers floor.start.job job floor.start.events events
    played_by [] ys some new rounds mine = absurd (none floor.start.workers some new)
      where
        none : (n : ℕ) → 1 ≤ n → [] ≡ map (new_pass floor) (from_to 1 n) → ⊥
        none zero some is = omega (arith, some)
        none (suc n) some is = cc
    played_by (x ∷ xs) [] some new rounds mine = let m = rounds.as_many in absurd (omega (arith, m))
    played_by (x ∷ xs) (y ∷ ys) some new rounds mine =
        let first : f x ≡ new_pass floor 1 = first_new floor (f x) (map f xs) floor.start.workers some new in
        let r : IsRound pauses floor.start.job (f x) (f y) (e y) = rounds.each 0 x (omega arith) in
        let one : (f x).worker ≡ 1 = ap (λ q. q.worker) first in
        left_by (f y) (mine 0 (f y) (omega arith) (r.later.worker ∙ one))
        (subst (λ w. own_releases w (f y).seen ≡ own_releases w (f x).seen) one r.later.releases ∙ ap (λ (q : PassParts). own_releases 1 q.seen) first)

    -- a round was made
    pub played : (xs ys : List X) (passes : List PassParts) → 1 ≤ floor.start.workers → map f xs ≡ map (new_pass floor) (from_to 1 floor.start.workers) → AreRounds pauses floor.start.job f e xs ys
        → passes ≡ map f ys → All (λ (p : PassParts). p.worker ≡ 1 → own 1 events ≡ own 1 p.seen) passes → IsRoundOf workers floor.start.job job floor.start.events events
    played xs ys passes some new rounds are mine = played_by xs ys some new rounds (subst (λ ps. All (λ (p : PassParts). p.worker ≡ 1 → own 1 events ≡ own 1 p.seen) ps) are mine)
