use Rattle.std.proofs.Common.{◌≡◌, ℕ, length, ap, sym, ◌∙◌, subst}
use Rattle.turn_floor.specs.Counts.{risen}
use Rattle.turn_floor.specs.Served.{AreOf}
use Rattle.turn_floor.proofs.Seats.{opens_with}
use Rattle.turn_floor.proofs.opening.open_table.Goals as goal

pub new-requires : goal.new-requires
new-requires g c =
    let K = g.K.Kept in
    let state = sym c.of.ensures in
    let events = ap K.events_of state in
    opens_with _ _ _ c.in-Ok.slots.items _ _ _ c.push_reserved.ensures.items c.in-Ok.ensures.items c.requires.workers.0 (c.requires.len ∙ ap length events) events (subst (AreOf c.args.workers) events c.requires.named) record {
      job = ap K.job_of state;
      commits = ap K.commits_of state ∙ ap (λ (n : ℕ). risen n (K.commits_of c.of.result.value)) (sym c.begin-commit_book.ensures.total);
      stale = ap K.stale_of state ∙ ap (λ (n : ℕ). risen n (K.stale_of c.of.result.value)) (sym c.begin-stale_book.ensures.total);
    }
