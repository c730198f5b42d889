-- The first of some passes.
use Rattle.std.proofs.Common.{◌≡◌, inl, inr, Bool, false, IsTrue, ℕ, ◌<◌, List, [], ◌∷◌, ◌++◌, length, map, refl, sym, ap, subst, ◌∙◌, arith}
use Rattle.std.specs.Prelude.{slice_index_or, slice_set}
use Rattle.std.specs.List.{Any}
use Rattle.std.proofs.lemmas.Bool.{false≢true}
use mathlib.Core.List.{IsPrefix}
use Rattle.stab_code.specs.JobParts.{JobParts}
use Rattle.stab_journal.specs.declared.event.Event.{Event}
use Rattle.turn_floor.specs.Parts.{AreAll, FloorParts, PassParts}
use Rattle.turn_floor.proofs.Histories.{prefix_more}
use Rattle.worker_lease.specs.declared.worker.WorkEnd.{WorkEnd}
use Rattle.worker_lease.specs.declared.worker.WorkEnd.TheVariants as ends
use Rattle.worker_lease.specs.Answers.{IsHistoryOf}
use Rattle.worker_lease.specs.Releases.{own_releases, released_text}
use Rattle.worker_lease.specs.Rounds.{AreRounds}
use Rattle.worker_lease.specs.Working.{EndFits, IsBegun, IsRound}
use Rattle.worker_lease.proofs.Released.{text_stays}
use Rattle.worker_lease.proofs.Rounding.{LeftAs, all_set}
use Rattle.worker_rounds.specs.declared.rounds.Next.{Next}
use Rattle.worker_rounds.specs.declared.rounds.Next.TheVariants.{Again, Over, Stopped}
use Rattle.worker_rounds.specs.declared.rounds.Stop.TheVariants.{SinkFault, NoMemory}
use Rattle.sink_lines.specs.Device.{Device}
use Rattle.worker_rounds.specs.Rounds.{HasWritten, IsUsedUp, NextSays, first_seen}
use Rattle.worker_rounds.proofs.Written.{wrote_nothing}

-- what a round leaves of the first pass: it released nothing
pub record IsFirstRound (job : JobParts) (old new : List Event) : Type 0 where
  pub history : IsHistoryOf job new
  pub grows : IsPrefix old new
  pub same : own_releases 1 new ≡ own_releases 1 old
  pub text : released_text job new ≡ released_text job old

module _ {X : Type 0} (f : X → PassParts) (e : X → WorkEnd) where
  pub first_is : (xs : List X) (d : X) → 0 < length xs → first_seen (map f xs) ≡ (f (slice_index_or xs 0 d)).seen
  first_is [] d some = absurd (omega (arith, some))
  first_is (x ∷ xs) d some = refl

  pub first_worker : (floor : FloorParts) (xs : List X) (d : X) → AreAll floor (map f xs) → 0 < length xs → (f (slice_index_or xs 0 d)).worker ≡ 1
  first_worker floor [] d all some = absurd (omega (arith, some))
  first_worker floor (x ∷ xs) d all some = all.in_order 0 (f x) (omega arith)

  pub first_floor : (floor : FloorParts) (xs : List X) (d : X) → AreAll floor (map f xs) → 0 < length xs → (f (slice_index_or xs 0 d)).floor ≡ floor
  first_floor floor [] d all some = absurd (omega (arith, some))
  first_floor floor (x ∷ xs) d all some = all.own 0 (f x) (omega arith)

  -- the first cell is changed
  pub all_first : (floor : FloorParts) (xs : List X) (y d : X) → 0 < length xs → LeftAs (f (slice_index_or xs 0 d)) (f y) → AreAll floor (map f xs) → AreAll floor (map f (slice_set xs 0 y))
  all_first floor [] y d some left all = absurd (omega (arith, some))
  all_first floor (x ∷ xs) y d some left all = all_set f floor (x ∷ xs) 0 y (λ _. left) all

  pub first_set : (xs : List X) (y : X) → 0 < length xs → first_seen (map f (slice_set xs 0 y)) ≡ (f y).seen
  first_set [] y some = absurd (omega (arith, some))
  first_set (x ∷ xs) y some = refl

  pub first_round : {pauses : Type 0} (job : JobParts) (floor : FloorParts) (xs ys : List X) → AreAll floor (map f xs) → AreRounds pauses job f e xs ys → 0 < length xs → IsBegun job (first_seen (map f xs)) → IsFirstRound job (first_seen (map f xs)) (first_seen (map f ys))
  first_round job floor [] ys all rounds some begun = absurd (omega (arith, some))
  first_round job floor (x ∷ xs) [] all rounds some begun = let m = rounds.as_many in absurd (omega (arith, m))
  first_round {pauses} job floor (x ∷ xs) (y ∷ ys) all rounds some begun =
      let r : IsRound pauses job (f x) (f y) (e y) = rounds.each 0 x (omega arith) in
      let one : (f x).worker ≡ 1 = all.in_order 0 (f x) (omega arith) in
      let same : own_releases 1 (f y).seen ≡ own_releases 1 (f x).seen = subst (λ w. own_releases w (f y).seen ≡ own_releases w (f x).seen) one r.later.releases in
      record { history = r.history; grows = r.later.grows; same = same; text = text_stays job (f x).seen (f y).seen begun r.history r.later.grows same }

-- what a test says that is false
pub never : {P : Type 0} (b : Bool) → b ≡ false → (P → IsTrue b) → P → ⊥
never b is so p = false≢true (sym is ∙ so p)

-- worker 1's round ended neither for a release nor for want of memory, over a state that never pauses
module _ {X : Type 0} (f : X → PassParts) (e : X → WorkEnd) where
  pub used_up : {pauses : Type 0} → (pauses → ⊥) → (job : JobParts) (xs ys : List X) → AreRounds pauses job f e xs ys → 0 < length xs → (Any (λ y. e y ≡ ends.NoMemory) ys → ⊥) → (Any (λ y. e y ≡ ends.Release) ys → ⊥) → IsUsedUp job (first_seen (map f ys))
  used_up steady job [] ys rounds some fed calm = absurd (omega (arith, some))
  used_up steady job (x ∷ xs) [] rounds some fed calm = let m = rounds.as_many in absurd (omega (arith, m))
  used_up {pauses} steady job (x ∷ xs) (y ∷ ys) rounds some fed calm = by (e y) refl (rounds.each 0 x (omega arith)).says
    where
      by : (end : WorkEnd) → e y ≡ end → EndFits pauses end job (f y).seen → IsUsedUp job (f y).seen
      by ends.Quiet is says = inl says
      by ends.Spent is says = inr says
      by ends.Release is says = absurd (calm (0, y, omega arith, refl, is))
      by ends.NoMemory is says = absurd (fed (0, y, omega arith, refl, is))
      by ends.Dry is says = absurd (steady says)
      by ends.Rung is says = absurd (steady says)

-- what a release says after such a round
pub next_from : (n : Next) (job : JobParts) (old mid new : List Event) (sink after : Device (List ℕ)) → IsFirstRound job old mid → NextSays n job mid new sink after → NextSays n job old new sink after
next_from Again job old mid new sink after round says = record { text = says.text; gains = says.gains; released = says.released ∙ ap (λ l. l ++ says.text) round.text }
next_from Over job old mid new sink after round says = (record { text = says.0.text; gains = says.0.gains; released = says.0.released ∙ ap (λ l. l ++ says.0.text) round.text }, says.1)
next_from (Stopped NoMemory) job old mid new sink after round says = record { text = says.text; gains = says.gains; released = says.released ∙ ap (λ l. l ++ says.text) round.text }
next_from (Stopped SinkFault) job old mid new sink after round says = record {
  text = says.text;
  number = says.number;
  grows = prefix_more old mid says.grows.0 new round.grows (sym says.grows.1);
  release = says.release;
  same = says.same ∙ round.same;
  all = says.all ∙ ap (λ l. l ++ says.text) round.text;
  cut = says.cut;
}

pub wrote_none : (job : JobParts) (old new : List Event) (sink : Device (List ℕ)) → IsFirstRound job old new → HasWritten job old new sink sink
wrote_none job old new sink round = wrote_nothing job old new sink round.text
