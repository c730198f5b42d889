use Rattle.std.proofs.Common.{sym, ap, ◌∙◌}
use Rattle.stab_journal.specs.Journal.{Journal}
use Rattle.commit_book.specs.declared.parts.Parts.{Parts}
use Rattle.commit_book.proofs.Undoing.StrikeCalls.{one_struck}
use Rattle.commit_book.proofs.parts.Parts.strike.Goals as goal

pub returns-in-Some-clause-struck : goal.returns-in-Some-clause-struck
returns-in-Some-clause-struck c =
    let old = c.args.self.now in
    let new = c.forget.new.self in
    let history = ap (λ (x : Parts). x.history) c.forget.ensures.rest in
    one_struck old c.args.q.0 c.requires c.in-Some.label (sym c.label_at-label.ensures ∙ c.in-Some.is) new (history ∙ c.strike.ensures.after)
    c.forget.ensures.writes c.forget.ensures.last_cut c.forget.ensures.lines c.forget.ensures.offers (ap (λ (x : Parts). x.rollback) c.forget.ensures.rest)
    c.forget.ensures.finals c.forget.ensures.recent
    (c.forget.ensures.rest ∙ ap (λ (h : Journal). record old { history = h; log = new.log; offers = new.offers; printed = new.printed }) (sym history))
