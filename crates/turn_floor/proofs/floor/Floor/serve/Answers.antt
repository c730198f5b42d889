use Rattle.std.proofs.Common.{◌≡◌, ◌∷◌, [], List, ℕ, ap, sym, refl, ◌∙◌, subst, length}
use Rattle.atomic_table.specs.Table.{rest}
use Rattle.turn_floor.specs.Counts.{once, risen}
use Rattle.turn_floor.specs.Keeps.{Keeps}
use Rattle.turn_floor.proofs.Counting.{risen_more}
use Rattle.turn_floor.proofs.Histories.{same_slot}
use Rattle.turn_floor.proofs.floor.Floor.serve.Goals as goal

pub slot_mut-held-requires : goal.slot_mut-held-requires
slot_mut-held-requires g c = let t = c.requires.holds in (c.requires.id ∙ ap (λ f. f.table) (sym c.self.view_is), (t.0, t.1 ∙ ap (λ l. (0, t.0) ∷ rest l) (sym t.1)))

pub returns-clause-served : goal.returns-clause-served
returns-clause-served g c =
    let t = c.requires.holds in
    let none-left : rest c.args.seat.now.me.1 ≡ [] = ap rest t.1 in
    let held = c.slot_mut-held.result.now in
    let slot = c.slot_mut-held.ensures.value ∙ ap (λ l. (0, held) ∷ l) none-left in
    let same : held ≡ t.0 = same_slot held t.0 c.args.seat.now.me.1 slot t.1 in
    let start = c.args.seat.now.me.0.start in
    let kept = subst (λ h. Keeps g.K.Kept.job_of g.K.Kept.commits_of g.K.Kept.stale_of start h) (sym same) t.2.1 in
    let k = c.serve-answer.new.self in
    let e = c.serve-answer.ensures in
    let told = g.K.Kept.told_of c.serve-answer.result in
    let job = e.job ∙ kept.job in (
      held,
      slot,
      (
        k,
        ap (λ l. (0, k) ∷ l) none-left,
        (
          e.serves,
          record {
            job = job;
            commits = e.counts.0 ∙ ap (risen (once told.committed)) kept.commits ∙ risen_more told.committed held.commits.total start.commits ∙ ap (λ (n : ℕ). risen n start.commits) (sym e.totals.0);
            stale = e.counts.1 ∙ ap (risen (once told.stale)) kept.stale ∙ risen_more told.stale held.stale.total start.stale ∙ ap (λ (n : ℕ). risen n start.stale) (sym e.totals.1);
          },
          e.adds,
          e.tells,
          subst (λ j. g.K.Kept.answers j (g.K.Kept.events_of k.state) c.serve-answer.result) job e.fits,
          c.len-len.ensures.len ∙ ap length c.history.ensures,
        ),
      ),
    )
