use Rattle.std.proofs.Common.{refl}
use Rattle.std.proofs.lemmas.Bool.{false≢true}
use Rattle.comm_graph.proofs.Ends.{last_at, closed_by, closed_empty, unnot_true, unnot_false, empty_from}
use Rattle.comm_graph.proofs.table.Table.ends_struck.Goals as goal

pub returns-in-Some : goal.returns-in-Some
returns-in-Some c =
    let t = c.args.self.now in
    let last = c.in-Some.last.now in
    let pos = c.in-Some.ensures.variant.0 refl in
    let at = last_at t.entries.items t.gone t.entries.len last t.entries.ok.0 pos c.in-Some.ensures.lookup in
    record {
      struck = λ h. record { last = last; at = at; dead = unnot_true last.live h };
      closed = λ h. closed_by t.entries.items t.gone last at (unnot_false last.live h);
    }

pub returns-in-None : goal.returns-in-None
returns-in-None c =
    let t = c.args.self.now in
    let none = c.in-None.ensures.variant.1 in
    record {
      struck = λ h. absurd (false≢true h);
      closed = λ h. closed_empty t.entries.items t.gone (empty_from t.entries.items t.entries.len t.entries.ok.0 (λ lt. false≢true (none lt)));
    }
