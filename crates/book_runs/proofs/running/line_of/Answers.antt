use Rattle.std.proofs.Common.{◌≡◌, ◌∷◌, ◌++◌, [], codes, sym, subst, string_bytes, ◌∙◌}
use Rattle.std.specs.Prelude.{count_by, decimal}
use Rattle.stab_journal.specs.Event.{weight_of}
use Rattle.commit_book.specs.Counts.{is_undo}
use Rattle.stab_watch.specs.Counts.{counts, cuts_in, undos_in}
use Rattle.book_runs.specs.Watching.{line_behind}
use Rattle.book_runs.proofs.Watched.{mill_text, three, watch_text}
use Rattle.book_runs.proofs.running.line_of.Goals as goal

pub returns-in_ok-format-in-Mill : goal.returns-in_ok-format-in-Mill
returns-in_ok-format-in-Mill c =
    let n = c.counts.result.undos in
    let events = c.args.book.now.history.events in
    let text : string_bytes c.in_ok-format-in-Mill.field-0 ≡ codes "mill " ++ (decimal c.in-Mill.size ++ (codes " undos " ++ (decimal n ++ 10 ∷ []))) = c.in_ok-format-in-Mill.ensures.ok in
    subst (λ l. string_bytes c.in_ok-format-in-Mill.field-0 ≡ line_behind l events) (sym c.in-Mill.is)
    (text ∙ mill_text c.in-Mill.size n (count_by is_undo events) c.counts.ensures.counts.undos)

pub returns-in_ok-format-in-Watch : goal.returns-in_ok-format-in-Watch
returns-in_ok-format-in-Watch c =
    let r = c.of-weight.result in
    let events = c.args.book.now.history.events in
    let words = subst (λ j. r.weight ∷ r.undos ∷ r.cuts ∷ [] ≡ counts j.events) c.history.ensures.history c.of-weight.ensures in
    let text : string_bytes c.in_ok-format-in-Watch.field-0 ≡ codes "watch weight " ++ (decimal r.weight ++ (codes " undos " ++ (decimal r.undos ++ (codes " cuts " ++ (decimal r.cuts ++ 10 ∷ []))))) = c.in_ok-format-in-Watch.ensures.ok in
    subst (λ l. string_bytes c.in_ok-format-in-Watch.field-0 ≡ line_behind l events) (sym c.in-Watch.is)
    (text ∙ watch_text r.weight r.undos r.cuts (weight_of events) (undos_in events) (cuts_in events) (three r.weight r.undos r.cuts (weight_of events) (undos_in events) (cuts_in events) words))
