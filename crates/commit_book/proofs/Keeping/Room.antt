-- There is room for the next steps: no number and no weight that they need is out of its range.
use Rattle.std.proofs.Common.{◌≡◌, ℕ, suc, ◌+◌, ◌*◌, ◌<◌, ◌≤◌, ◌^◌, List, [], ◌∷◌, ◌++◌, length, arith, length-append}
use Rattle.std.proofs.lemmas.List.Sums.{sum_by-append}
use Rattle.stab_journal.specs.declared.event.Event.{Event}
use Rattle.stab_journal.specs.declared.event.Label.{Label}
use Rattle.stab_journal.specs.declared.event.Label.TheVariants.{Local, Probe}
use Rattle.stab_journal.specs.declared.event.What.{What}
use Rattle.stab_journal.specs.declared.event.What.TheVariants.{Step}
use Rattle.stab_journal.specs.Event.{IsGeneration, IsLabel, IsName, weigh, weight_of}
use Rattle.stab_journal.specs.Generation.{generation}
use Rattle.stab_journal.specs.Script.{probed_by, probed}
use Rattle.language.specs.Standing.{event}
use Rattle.stab_journal.specs.Numbers.{AreNext, AreFew}
use Rattle.commit_book.proofs.Keeping.EventSteps.{generation_few}

-- the events of a book whose job isn't over weigh less
abbrev pub most_weight : ℕ
most_weight = 17_000_000

-- so many steps more come to no more events than a book may have, and their weight has 64 bits
pub record HasRoom (n : ℕ) (events : List Event) : Type 0 where
  pub count : length events + n ≤ most_weight + 1
  pub weight : weight_of events + n * 4294967295 < 2 ^ 63

-- two steps more are few enough
pub room_for_two : (events : List Event) → length events ≤ weight_of events → weight_of events < most_weight → HasRoom 2 events
room_for_two events few light = record { count = omega (arith, few, light); weight = omega (arith, light) }

pub room_less : (n : ℕ) (events : List Event) → HasRoom (suc n) events → HasRoom n events
room_less n events room = record { count = omega (arith, room.count); weight = omega (arith, room.weight) }

pub step_weighs : (l : Label) → IsLabel l → weigh (Step l) ≤ 4294967295
step_weighs (Local t n) is = is.1.1
step_weighs _ is = omega arith

module _ (n : ℕ) (events : List Event) (l : Label) (room : HasRoom (suc n) events) (is : IsLabel l) where
  -- and after it there is room for one fewer
  pub room_after : (worker : ℕ) → HasRoom n (events ++ event worker (Step l) ∷ [])
  room_after worker =
      let more : length (events ++ event worker (Step l) ∷ []) ≡ length events + 1 = length-append events (event worker (Step l) ∷ []) in
      let heavier : weight_of (events ++ event worker (Step l) ∷ []) ≡ weight_of events + weight_of (event worker (Step l) ∷ []) = sum_by-append (λ (e : Event). weigh e.what) events (event worker (Step l) ∷ []) in
      let one : weight_of (event worker (Step l) ∷ []) ≡ weigh (Step l) = omega arith in
      record {
        count = omega (arith, room.count, more);
        weight = omega (arith, room.weight, heavier, one, step_weighs l is);
      }

module _ (n : ℕ) (events : List Event) (room : HasRoom (suc n) events) where
  -- there is room for the events themselves
  pub events_within : length events + n < 4294967294
  events_within = omega (arith, room.count)

  module _ (thread chan ref : ℕ) (few : AreFew events thread chan ref) where
    -- a number that was handed out, and the next one
    pub thread_name : (t : ℕ) → 1 ≤ t → t ≤ thread → IsName t
    thread_name t from to = (from, omega (arith, room.count, few.threads, to))

    pub chan_name : (c : ℕ) → 1 ≤ c → c ≤ chan → IsName c
    chan_name c from to = (from, omega (arith, room.count, few.chans, to))

    pub ref_name : (r : ℕ) → 1 ≤ r → r ≤ ref → IsName r
    ref_name r from to = (from, omega (arith, room.count, few.refs, to))

    -- the next numbers have 32 bits, and so have those after them
    pub thread_within : thread ≤ 4294967293
    thread_within = omega (arith, room.count, few.threads)

    pub chan_within : chan ≤ 4294967293
    chan_within = omega (arith, room.count, few.chans)

    pub ref_within : ref ≤ 4294967293
    ref_within = omega (arith, room.count, few.refs)

  -- how often a thread was put back has 32 bits
  pub generation_within : (t : ℕ) → IsGeneration (generation t events)
  generation_within t = omega (arith, room.count, generation_few t 1 [] events 0)

-- the next numbers begin at 1
module _ (events : List Event) (thread chan ref : ℕ) (next : AreNext events thread chan ref) where
  pub thread_begins : 1 ≤ thread
  thread_begins = omega (arith, next.thread)

  pub chan_begins : 1 ≤ chan
  chan_begins = omega (arith, next.chan)

  pub ref_begins : 1 ≤ ref
  ref_begins = omega (arith, next.ref)

one_probed : (w : What) → length (probed_by w) ≤ 1
one_probed (Step (Probe t i)) = omega arith
one_probed _ = omega arith

-- there are no more probes than events
pub probes_few : (es : List Event) → length (probed es) ≤ length es
probes_few [] = omega arith
probes_few (e ∷ es) =
    let both : length (probed (e ∷ es)) ≡ length (probed_by e.what) + length (probed es) = length-append (probed_by e.what) (probed es) in
    omega (arith, both, one_probed e.what, probes_few es)
