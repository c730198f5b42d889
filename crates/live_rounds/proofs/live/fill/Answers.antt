use Rattle.std.proofs.Common.{◌≤◌, ◌-◌, ℤ, List, ◌++◌, length, ◌∙◌, ap, sym, subst}
use Rattle.stab_code.specs.Limits.{max_script}
use Rattle.live_rounds.specs.Numbers.{heard}
use Rattle.live_rounds.proofs.Leaving.{fed_says, fed_unwritten, full, taken_fed, taken_unwritten}
use Rattle.live_rounds.proofs.live.fill.Goals as goal

pub returns-in-Numbers-clause-fed : goal.returns-in-Numbers-clause-fed
returns-in-Numbers-clause-fed g c =
    fed_says c.feed.result c.args.live.now.book.job c.feed.new.live.book.job c.deref.result.now (g.N.NumberSource.came c.args.source.now) (g.N.NumberSource.came c.take_numbers.new.source)
    (c.in-Numbers.ensures.0 ∙ ap (λ (l : List ℤ). g.N.NumberSource.came c.args.source.now ++ l) (sym c.deref.ensures.value)) c.feed.ensures.says

pub returns-in-Halted-clause-fed : goal.returns-in-Halted-clause-fed
returns-in-Halted-clause-fed g c =
    taken_fed c.in-Halted.halt c.args.live.now.book.job (max_script - length c.script.result.now) (g.N.NumberSource.came c.args.source.now) (heard g.N.NumberSource.came g.N.NumberSource.ended g.N.NumberSource.last c.take_numbers.new.source)
    (full c.script.result.now c.args.live.now.book.job.script (c.script.ensures.value ∙ ap (λ j. j.script) c.job.ensures.job ∙ ap (λ b. b.job.script) c.book-2.ensures.book)
    (subst (λ l. length l ≤ max_script) (sym c.script.ensures.value) c.script.ensures.limits.script_within))
    c.in-Halted.ensures

pub returns-in-Numbers-clause-unwritten : goal.returns-in-Numbers-clause-unwritten
returns-in-Numbers-clause-unwritten g c = fed_unwritten c.feed.result c.args.live.now.book.job c.feed.new.live.book.job c.deref.result.now c.feed.ensures.says

pub returns-in-Halted-clause-unwritten : goal.returns-in-Halted-clause-unwritten
returns-in-Halted-clause-unwritten g c =
    taken_unwritten c.in-Halted.halt (max_script - length c.script.result.now) (g.N.NumberSource.came c.args.source.now) (heard g.N.NumberSource.came g.N.NumberSource.ended g.N.NumberSource.last c.take_numbers.new.source) c.in-Halted.ensures
