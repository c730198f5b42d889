-- What one turn of the loops over rounds says of a book, and what is said where they are left.
use Rattle.std.proofs.Common.{◌≡◌, ◌≢◌, inl, inr, ℕ, ◌≤◌, List, [], Some, None, refl, sym, ap, subst, ◌∙◌}
use Rattle.stab_journal.specs.Journal.{Journal}
use Rattle.commit_book.specs.Book.{BookView, IsShown}
use Rattle.commit_book.specs.Probing.{IsWithinScript}
use Rattle.book_text.specs.Written.{released_lines}
use Rattle.turn_floor.specs.Served.{Adds, AreOf}
use Rattle.worker_lease.specs.Releases.{AreByOne}
use Rattle.sink_lines.specs.Device.{Device}
use Rattle.live_desk.specs.Live as lives
use Rattle.live_desk.specs.Live.{LiveView}
use Rattle.live_rounds.specs.declared.next.Next.{Next}
use Rattle.live_rounds.specs.declared.next.Next.TheVariants.{Again, Over, Ended, Halted}
use Rattle.live_rounds.specs.Going.{ClosedSays, IsInTime, IsOwn, LeaveSays, LeftSays, NextSays, PartSays, SettleSays, Stays, halt_of}
use Rattle.live_rounds.specs.Numbers.{Heard, IsCaused}
use Rattle.live_rounds.specs.Rounds.{IsOf, IsRound}
use Rattle.live_rounds.specs.Stretches.{GainsSince, IsGrown, IsPut, IsStretch, WroteSince}
use Rattle.live_rounds.proofs.Growing.{of_added, of_round, round_lines, same_lines}
use Rattle.live_rounds.proofs.Leaving.{still_within}
use Rattle.live_rounds.proofs.Writing.{gains_stay, starved, stretch_on, stretch_none, stretch_stays, stretch_then, wrote_stays, wrote_then}

-- ---- a book that was looked at

of_stays : (workers : ℕ) (old new : BookView) → IsOf workers old → IsShown new → Stays old new → IsOf workers new
of_stays workers old new of shown stays = record {
  shown = shown;
  by_one = subst (λ (h : Journal). AreByOne h.events) (sym stays.1) of.by_one;
  named = subst (λ (h : Journal). AreOf workers h.events) (sym stays.1) of.named;
}

stays_lines : (old new : BookView) → IsShown old → IsShown new → Stays old new → released_lines new ≡ released_lines old
stays_lines old new before after stays = same_lines old new before after stays.0 (ap (λ h. h.events) stays.1)

-- what was written, by what was said before
settled_wrote : (first next : Next) (a old new : BookView) (x y : Device (List ℕ)) → IsShown old → IsShown new → Stays old new → SettleSays first next new
    → WroteSince (halt_of first) a old x y → WroteSince (halt_of next) a new x y
settled_wrote first next a old new x y before after stays says wrote =
    by first next says (wrote_stays (halt_of first) a old new x y stays.0 (ap (λ h. h.events) stays.1) (stays_lines old new before after stays) wrote)
  where
    by : (first next : Next) → SettleSays first next new → WroteSince (halt_of first) a new x y → WroteSince (halt_of next) a new x y
    by Again next says wrote = subst (λ n. WroteSince (halt_of n) a new x y) (sym says) wrote
    by Over Again says wrote = wrote
    by Over Over says wrote = wrote
    by Over Ended says wrote = absurd says
    by Over (Halted halt) says wrote = subst (λ h. WroteSince (Some h) a new x y) (sym says.0) wrote
    by Ended next says wrote = subst (λ n. WroteSince (halt_of n) a new x y) (sym says) wrote
    by (Halted halt) next says wrote = subst (λ n. WroteSince (halt_of n) a new x y) (sym says.0) wrote

settled_stretch : (first next : Next) (a old new : BookView) (i j : Heard) (x y : Device (List ℕ)) → IsShown old → IsShown new → Stays old new → SettleSays first next new
    → IsStretch (halt_of first) a old i j x y → IsStretch (halt_of next) a new i j x y
settled_stretch first next a old new i j x y before after stays says stretch =
    by first next says (stretch_stays (halt_of first) a old new i j x y stays.0 (ap (λ h. h.events) stays.1) (stays_lines old new before after stays) stretch)
  where
    by : (first next : Next) → SettleSays first next new → IsStretch (halt_of first) a new i j x y → IsStretch (halt_of next) a new i j x y
    by Again next says wrote = subst (λ n. IsStretch (halt_of n) a new i j x y) (sym says) wrote
    by Over Again says wrote = wrote
    by Over Over says wrote = wrote
    by Over Ended says wrote = absurd says
    by Over (Halted halt) says wrote = subst (λ h. IsStretch (Some h) a new i j x y) (sym says.0) (starved a new i j x y wrote)
    by Ended next says wrote = subst (λ n. IsStretch (halt_of n) a new i j x y) (sym says) wrote
    by (Halted halt) next says wrote = subst (λ n. IsStretch (halt_of n) a new i j x y) (sym says.0) wrote

closed_says : (first next : Next) (b : BookView) → SettleSays first next b → IsOwn (halt_of first) → first ≢ Ended → next ≢ Again → ClosedSays next b
closed_says Again next b says own going on = absurd (on says)
closed_says Over Again b says own going on = absurd (on refl)
closed_says Over Over b says own going on = says
closed_says Over Ended b says own going on = absurd says
closed_says Over (Halted halt) b says own going on = (says.1, subst (λ h. IsOwn (Some h)) (sym says.0) tt)
closed_says Ended next b says own going on = absurd (going refl)
closed_says (Halted halt) next b says own going on = subst (λ n. ClosedSays n b) (sym says.0) (says.1, own)

part_says : (first next : Next) (old new : BookView) (after : Heard) → SettleSays first next new → Stays old new → LeftSays first old after → first ≢ Again → next ≢ Again → PartSays next new after
part_says Again next old new after says stays left going on = absurd (going refl)
part_says Over Again old new after says stays left going on = absurd (on refl)
part_says Over Over old new after says stays left going on = (says, inl (still_within old new stays.0 stays.1 left))
part_says Over Ended old new after says stays left going on = absurd says
part_says Over (Halted halt) old new after says stays left going on =
    (says.1, inl (still_within old new stays.0 stays.1 left), subst (λ h. IsCaused (Some h) after) (sym says.0) tt)
part_says Ended next old new after says stays left going on = subst (λ n. PartSays n new after) (sym says) left
part_says (Halted halt) next old new after says stays left going on = subst (λ n. PartSays n new after) (sym says.0) (says.1, in_time left.0, left.1)
  where
    in_time : IsInTime old after → IsInTime new after
    in_time (inl within) = inl (still_within old new stays.0 stays.1 within)
    in_time (inr ended) = inr ended

-- where rounds go on, no probe came past the script's end
on_within : (first : Next) (old new : BookView) (after : Heard) → SettleSays first Again new → Stays old new → LeftSays first old after → first ≢ Again → IsWithinScript new
on_within Again old new after says stays left going = absurd (going refl)
on_within Over old new after says stays left going = still_within old new stays.0 stays.1 left
on_within Ended old new after says stays left going = absurd (no says)
  where
    no : Again ≡ Ended → ⊥
    no e = cc
on_within (Halted halt) old new after says stays left going = absurd (no says.0)
  where
    no : Again ≡ Halted halt → ⊥
    no e = cc

-- ---- rounds after the input's end

-- a round over the book under another name
pub round_of : (workers : ℕ) (left desk state mid : BookView) → desk ≡ left → mid ≡ state → IsRound workers desk.job state.job desk.history.events state.history.events
    → IsRound workers left.job mid.job left.history.events mid.history.events
round_of workers left desk state mid given back round =
    subst (λ (b : BookView). IsRound workers b.job mid.job b.history.events mid.history.events) given
    (subst (λ (b : BookView). IsRound workers desk.job b.job desk.history.events b.history.events) (sym back) round)

module _ (workers : ℕ) (some : 1 ≤ workers) (a left mid old new : BookView) (x y z : Device (List ℕ)) (of : IsOf workers left) (job : left.job ≡ a.job) (wrote : GainsSince a left x y)
    (shown : IsShown mid) (by_one : AreByOne mid.history.events) (round : IsRound workers left.job mid.job left.history.events mid.history.events)
    (first next : Next) (put : IsPut (halt_of first) mid old y z) (before : IsShown old) (after : IsShown new) (stays : Stays old new) (says : SettleSays first next new) where
  pub closed_of : IsOf workers new
  closed_of = of_stays workers old new (of_added workers mid old some (of_round workers left mid of shown by_one round) before put.adds) after stays

  pub closed_job : new.job ≡ a.job
  closed_job = stays.0 ∙ put.job ∙ round.of_job ∙ job

  pub closed_wrote : WroteSince (halt_of next) a new x z
  closed_wrote =
      settled_wrote first next a old new x z before after stays says
      (wrote_then (halt_of first) a mid old x y z (gains_stay a left mid x y (round_lines workers left mid of shown by_one round) wrote) put.wrote)

  pub closed_next : first ≢ Ended → next ≢ Again → ClosedSays next new
  closed_next going on = closed_says first next new says put.own going on

-- ---- rounds over a live desk

-- a desk that was just made
pub first_of : (workers : ℕ) (book : BookView) (live : LiveView) → live ≡ lives.live_of book [] → IsOf workers book → IsOf workers live.book
first_of workers book live new of = subst (λ (v : LiveView). IsOf workers v.book) (sym new) of

pub first_stretch : (book : BookView) (live : LiveView) (i : Heard) (x : Device (List ℕ)) → live ≡ lives.live_of book [] → IsStretch None book live.book i i x x
first_stretch book live i x new = subst (λ (v : LiveView). IsStretch None book v.book i i x x) (sym new) (stretch_none book i x)

-- a desk that is left
leave_stretch : (r next : Next) (a old new : BookView) (i j : Heard) (x y : Device (List ℕ)) → LeaveSays r next old new → new.job ≡ old.job → IsGrown old new → IsStretch (halt_of r) a old i j x y
    → IsStretch (halt_of next) a new i j x y
leave_stretch Again next a old new i j x y says job grown stretch = subst (λ n. IsStretch (halt_of n) a new i j x y) (sym says.0) (stretch_on a old new i j x y job grown.lines stretch)
leave_stretch Over next a old new i j x y says job grown stretch = subst (λ n. IsStretch (halt_of n) a new i j x y) (sym says.0) (stretch_on a old new i j x y job grown.lines stretch)
leave_stretch Ended next a old new i j x y (inl same) job grown stretch = subst (λ n. IsStretch (halt_of n) a new i j x y) (sym same) (stretch_on a old new i j x y job grown.lines stretch)
leave_stretch Ended next a old new i j x y (inr none) job grown stretch =
    subst (λ n. IsStretch (halt_of n) a new i j x y) (sym none) (starved a new i j x y (stretch_on a old new i j x y job grown.lines stretch))
leave_stretch (Halted halt) next a old new i j x y says job grown stretch =
    subst (λ n. IsStretch (halt_of n) a new i j x y) (sym says.0) (stretch_stays (Some halt) a old new i j x y job (ap (λ h. h.events) says.1) grown.lines stretch)

pub left_says : (r next : Next) (old new : BookView) (after : Heard) → LeaveSays r next old new → NextSays r after → LeftSays next new after
left_says Again next old new after says next_says = subst (λ n. LeftSays n new after) (sym says.0) says.2
left_says Over next old new after says next_says = subst (λ n. LeftSays n new after) (sym says.0) says.2
left_says Ended next old new after (inl same) next_says = subst (λ n. LeftSays n new after) (sym same) next_says
left_says Ended next old new after (inr none) next_says = subst (λ n. LeftSays n new after) (sym none) (inr next_says, tt)
left_says (Halted halt) next old new after says next_says = subst (λ n. LeftSays n new after) (sym says.0) (inl says.2, next_says)

pub left_going : (r next : Next) (old new : BookView) → LeaveSays r next old new → r ≢ Again → next ≢ Again
left_going Again next old new says going = absurd (going refl)
left_going Over next old new says going = subst (λ n. n ≢ Again) (sym says.0) (λ e. cc)
left_going Ended next old new (inl same) going = subst (λ n. n ≢ Again) (sym same) (λ e. cc)
left_going Ended next old new (inr none) going = subst (λ n. n ≢ Again) (sym none) (λ e. cc)
left_going (Halted halt) next old new says going = subst (λ n. n ≢ Again) (sym says.0) (λ e. cc)

module _ (workers : ℕ) (some : 1 ≤ workers) (a left mid old : BookView) (i j k : Heard) (x y z : Device (List ℕ)) (of : IsOf workers left) (stretch : IsStretch None a left i j x y)
    (shown : IsShown mid) (by_one : AreByOne mid.history.events) (round : IsRound workers left.job mid.job left.history.events mid.history.events)
    (r : Next) (between : IsStretch (halt_of r) mid old j k y z) (adds : Adds 1 mid.history.events old.history.events) (before : IsShown old) where
  pub live_of : IsOf workers old
  live_of = of_added workers mid old some (of_round workers left mid of shown by_one round) before adds

  pub live_stretch : IsStretch (halt_of r) a old i k x z
  live_stretch =
      stretch_then (halt_of r) a mid old i j k x y z (stretch_on a left mid i j x y round.of_job (round_lines workers left mid of shown by_one round) stretch) between

  module _ (new : BookView) (next : Next) (says : LeaveSays r next old new) (job : new.job ≡ old.job) (grown : IsGrown old new) (after : IsShown new) where
    pub left_of : IsOf workers new
    left_of = of_added workers old new some live_of after grown.adds

    pub left_stretch : IsStretch (halt_of next) a new i k x z
    left_stretch = leave_stretch r next a old new i k x z says job grown live_stretch

-- ---- one live desk after another

module _ (workers : ℕ) (a left old new : BookView) (i j k : Heard) (x y z : Device (List ℕ)) (stretch : IsStretch None a left i j x y)
    (first next : Next) (of : IsOf workers old) (part : IsStretch (halt_of first) left old j k y z) (after : IsShown new) (stays : Stays old new) (says : SettleSays first next new) where
  pub part_of : IsOf workers new
  part_of = of_stays workers old new of after stays

  pub part_stretch : IsStretch (halt_of next) a new i k x z
  part_stretch = settled_stretch first next a old new i k x z of.shown after stays says (stretch_then (halt_of first) a left old i j k x y z stretch part)

  pub part_next : LeftSays first old k → first ≢ Again → next ≢ Again → PartSays next new k
  part_next left going on = part_says first next old new k says stays left going on

pub part_within : (first : Next) (old new : BookView) (after : Heard) → SettleSays first Again new → Stays old new → LeftSays first old after → first ≢ Again → IsWithinScript new
part_within first old new after says stays left going = on_within first old new after says stays left going
