-- What is left of a run, by what its rounds say.
use Rattle.std.proofs.Common.{◌≡◌, inr, ℕ, ◌≤◌, List, [], ◌++◌, length, take, Option, Some, None, true, refl, sym, ap, subst, ◌∙◌, arith}
use Rattle.stab_journal.specs.declared.event.Event.{Event}
use Rattle.stab_journal.specs.Due.{released}
use Rattle.stab_journal.specs.Script.{probed}
use Rattle.language.specs.Shown.{value_lines}
use Rattle.commit_book.specs.Book.{BookView, IsAtStart, IsShown}
use Rattle.commit_book.specs.Probing.{IsWithinScript}
use Rattle.book_text.specs.Written.{released_lines}
use Rattle.turn_floor.specs.Served.{AreOf}
use Rattle.worker_lease.specs.Releases.{AreByOne}
use Rattle.sink_lines.specs.Device.{Device, Gains}
use Rattle.live_rounds.specs.declared.halt.Halt.{Halt}
use Rattle.live_rounds.specs.declared.halt.Halt.TheVariants.{SinkFault, NoMemory, Bad, Failed, TooMany}
use Rattle.live_rounds.specs.declared.next.Next.{Next}
use Rattle.live_rounds.specs.declared.next.Next.TheVariants.{Again, Over, Ended, Halted}
use Rattle.live_rounds.specs.Ending.{IsRunOver}
use Rattle.live_rounds.specs.Going.{ClosedSays, IsOwn, PartSays, halt_of}
use Rattle.live_rounds.specs.Lines.{IsCutShort}
use Rattle.live_rounds.specs.Numbers.{Heard, IsCaused, IsFed}
use Rattle.live_rounds.specs.Rounds.{IsOf}
use Rattle.live_rounds.specs.Serving.{EndSays, IsServed}
use Rattle.live_rounds.specs.Stretches.{GainsSince, IsCutSince, IsStretch, WroteSince}
use Rattle.live_rounds.proofs.Feeding.{fed_none, fed_then}
use Rattle.live_rounds.proofs.Leaving.{own_left}
use Rattle.live_rounds.proofs.Writing.{wrote_then}

-- ---- a book at its start

nobody : (workers : ℕ) (events : List Event) → events ≡ [] → AreByOne events × AreOf workers events
nobody workers events none = subst (λ (es : List Event). AreByOne es × AreOf workers es) (sym none) (tt, tt)

pub start_of : (workers : ℕ) (b : BookView) → IsAtStart b → IsShown b → IsOf workers b
start_of workers b at shown = let n = nobody workers b.history.events at.events in record { shown = shown; by_one = n.0; named = n.1 }

pub start_within : (b : BookView) → IsAtStart b → IsWithinScript b
start_within b at = subst (λ (es : List Event). length (probed es) ≤ length b.job.script) (sym at.events) (omega arith)

start_lines : (b : BookView) → IsAtStart b → released_lines b ≡ []
start_lines b at = ap (λ (es : List Event). value_lines b.job.program (take (released es) b.printed)) at.events

-- ---- what was written since the start

all_lines : (old new : BookView) (x y : Device (List ℕ)) → IsAtStart old → GainsSince old new x y → Gains x y (released_lines new)
all_lines old new x y at gains = subst (Gains x y) (sym (gains.more ∙ ap (λ (l : List ℕ). l ++ gains.lines) (start_lines old at))) gains.gains

cut_short : (old new : BookView) (x y : Device (List ℕ)) → IsAtStart old → IsCutSince old new x y → IsCutShort new x y
cut_short old new x y at cut = record {
  last = cut.last;
  between = cut.between;
  shown = cut.shown;
  job = cut.job;
  release = cut.release;
  so_far = all_lines old cut.last x cut.between at cut.so_far;
  lines = cut.lines;
  more = cut.more;
  cut = cut.cut;
}

end_says : (halt : Option Halt) (old new : BookView) (x y : Device (List ℕ)) → IsAtStart old → WroteSince halt old new x y → (halt ≡ None → IsRunOver new) → EndSays halt new x y
end_says None old new x y at wrote over = (all_lines old new x y at wrote, over refl)
end_says (Some SinkFault) old new x y at wrote over = cut_short old new x y at wrote
end_says (Some NoMemory) old new x y at wrote over = all_lines old new x y at wrote
end_says (Some (Bad at)) old new x y start wrote over = all_lines old new x y start wrote
end_says (Some Failed) old new x y at wrote over = all_lines old new x y at wrote
end_says (Some TooMany) old new x y at wrote over = all_lines old new x y at wrote

-- ---- a run that ended before its input

pub part_served : (workers : ℕ) (next : Next) (old new : BookView) (i j : Heard) (x y : Device (List ℕ)) → IsAtStart old → IsOf workers new → IsStretch (halt_of next) old new i j x y
    → PartSays next new j → (next ≡ Ended → ⊥) → IsServed workers (halt_of next) old new i j x y
part_served workers Again old new i j x y at of stretch says going = absurd says
part_served workers Over old new i j x y at of stretch says going = record {
  fed = stretch.fed;
  caused = tt;
  shown = of.shown;
  free = says.0.1;
  named = of.named;
  within = says.1;
  says = end_says None old new x y at stretch.wrote (λ e. says.0.0);
}
part_served workers Ended old new i j x y at of stretch says going = absurd (going refl)
part_served workers (Halted halt) old new i j x y at of stretch says going = record {
  fed = stretch.fed;
  caused = says.2;
  shown = of.shown;
  free = says.0;
  named = of.named;
  within = says.1;
  says = end_says (Some halt) old new x y at stretch.wrote (λ e. absurd (no e));
}
  where
    no : Some halt ≡ None → ⊥
    no e = cc

-- ---- a run that went on after its input's end

own_caused : (halt : Option Halt) (j : Heard) → IsOwn halt → IsCaused halt j
own_caused None j own = tt
own_caused (Some SinkFault) j own = tt
own_caused (Some NoMemory) j own = tt
own_caused (Some (Bad at)) j own = absurd own
own_caused (Some Failed) j own = absurd own
own_caused (Some TooMany) j own = absurd own

module _ (workers : ℕ) (old mid new : BookView) (i j : Heard) (x y z : Device (List ℕ)) (at : IsAtStart old) (stretch : IsStretch None old mid i j x y) (ended : j.ended ≡ true)
    (of : IsOf workers new) (job : new.job ≡ mid.job) where
  wrote_by : (halt : Option Halt) → WroteSince halt mid new y z → WroteSince halt old new x z
  wrote_by halt wrote = wrote_then halt old mid new x y z stretch.wrote wrote

  fed_by : (halt : Option Halt) → IsOwn halt → IsFed halt old.job new.job i.came j.came
  fed_by halt own = fed_then halt old.job mid.job new.job i.came j.came j.came stretch.fed (fed_none halt mid.job new.job j.came j.came job refl (own_left halt new.job own))

  pub closed_served : (next : Next) → WroteSince (halt_of next) mid new y z → ClosedSays next new → IsServed workers (halt_of next) old new i j x z
  closed_served Again wrote says = absurd says
  closed_served Over wrote says = record {
    fed = fed_by None tt;
    caused = tt;
    shown = of.shown;
    free = says.1;
    named = of.named;
    within = inr ended;
    says = end_says None old new x z at (wrote_by None wrote) (λ e. says.0);
  }
  closed_served Ended wrote says = absurd says
  closed_served (Halted halt) wrote says = record {
    fed = fed_by (Some halt) says.1;
    caused = own_caused (Some halt) j says.1;
    shown = of.shown;
    free = says.0;
    named = of.named;
    within = inr ended;
    says = end_says (Some halt) old new x z at (wrote_by (Some halt) wrote) (λ e. absurd (no e));
  }
    where
      no : Some halt ≡ None → ⊥
      no e = cc

-- the same where rounds were left as the input ended
pub ended_served : (workers : ℕ) (first next : Next) (old mid new : BookView) (i j : Heard) (x y z : Device (List ℕ)) → first ≡ Ended → IsAtStart old → IsStretch (halt_of first) old mid i j x y → PartSays first mid j
    → IsOf workers new → new.job ≡ mid.job → WroteSince (halt_of next) mid new y z → ClosedSays next new → IsServed workers (halt_of next) old new i j x z
ended_served workers first next old mid new i j x y z is at stretch part of job wrote says =
    closed_served workers old mid new i j x y z at (subst (λ n. IsStretch (halt_of n) old mid i j x y) is stretch) (subst (λ n. PartSays n mid j) is part) of job next wrote says

-- what is left is that book, for that halt
pub served_as : (workers : ℕ) (halt other : Option Halt) (old new left : BookView) (i j : Heard) (x y : Device (List ℕ)) → other ≡ halt → left ≡ new → IsServed workers halt old new i j x y
    → IsServed workers other old left i j x y
served_as workers halt other old new left i j x y same book served =
    subst (λ (h : Option Halt). IsServed workers h old left i j x y) (sym same) (subst (λ (b : BookView). IsServed workers halt old b i j x y) (sym book) served)
