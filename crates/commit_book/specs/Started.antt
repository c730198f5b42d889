-- What a book keeps before its first event.
use Rattle.std.specs.Prelude.{◌≡◌, ℕ, Bool, [], if◌then◌else◌}
use Rattle.std.specs.FinMap as map
use Rattle.std.specs.FinSet as set
use Rattle.stab_code.specs.Program.{ProgramParts}
use Rattle.stab_code.specs.Valid.{IsValid}
use Rattle.thread_slots.specs.Slot.{started, IsSound}
use Rattle.language.specs.Outcome.{called}
use Rattle.language.specs.Program.{body}
use Rattle.ref_log.specs.Log.{writes_of}
use Rattle.step_eval.specs.ControlView.{ControlView, Fits, expr_of}
use Rattle.commit_book.specs.declared.parts.Parts.{Parts}
use Rattle.commit_book.specs.declared.counts.Tallies.{Tallies}
use Rattle.commit_book.specs.Doing.{is_over, is_failed}
use Rattle.commit_book.specs.OwnSteps.{IsUnread}

abbrev pub first_tallies : Bool → Tallies
first_tallies failed =
    record { probes = 0; finals = 0; released = 0; undos = 0; faulted = (if failed then 1 else 0); commits = 0; stale = 0 }

-- no events, thread 1 at the body of main, and nothing else
pub record IsStarted (p : ProgramParts) (parts : Parts) : Type 0 where
  pub valid : IsValid p
  pub events : parts.history.events ≡ []
  pub struck : parts.history.struck ≡ set.empty
  pub main : ControlView
  pub stands : expr_of p main ≡ called (body p) p.main.0 []
  pub fits : Fits p main
  pub threads : parts.slots.threads ≡ map.insert map.empty 1 (started main (is_over (expr_of p main)))
  pub sound : IsSound parts.slots
  pub next : parts.slots.next ≡ 2
  pub lines : parts.offers.lines ≡ map.empty
  pub offers : parts.offers.offers ≡ map.empty
  pub last_cut : parts.log.last_cut ≡ 0
  pub writes : (r : ℕ) → writes_of parts.log r ≡ []
  pub saved : parts.store.controls ≡ map.empty
  pub nodes : parts.graph.nodes ≡ []
  pub finals : parts.printed.finals ≡ []
  pub recent : parts.printed.recent ≡ []
  pub chan : parts.next_chan ≡ 1
  pub ref : parts.next_ref ≡ 1
  pub tallies : parts.tallies ≡ first_tallies (is_failed (expr_of p main))
  pub unread : IsUnread parts.rollback
