-- One step more of a history that has steps alone.
use Rattle.std.proofs.Common.{◌≡◌, ℕ, ◌+◌, List, [], ◌∷◌, ◌++◌, length, Some, sym, ap, subst, ◌∙◌}
use Rattle.std.proofs.lemmas.List.{length-map, map-append}
use Rattle.stab_code.specs.Program.{ProgramParts}
use Rattle.stab_journal.specs.declared.event.Event.{Event}
use Rattle.stab_journal.specs.declared.event.Numbered.{Numbered}
use Rattle.stab_journal.specs.declared.event.What.TheVariants.{Step}
use Rattle.stab_journal.specs.Journal.{step_at}
use Rattle.language.specs.Plain.{PlainState, plain_step}
use Rattle.language.specs.Standing.{StandsFor, MayStep, event, step}
use Rattle.eval_trial.specs.Alone.{StandsAlone, events_of}

abbrev event_of : Numbered → Event
event_of n = event 1 (Step n.label)

pub stands_more : (p : ProgramParts) (taken : List Numbered) (n : Numbered) (before after : PlainState)
    → length taken + 1 ≡ n.seq.0 → StandsAlone p taken before → MayStep (events_of taken) taken before n.label
    → plain_step p before n.seq.0 n.label ≡ Some after → StandsAlone p (taken ++ n ∷ []) after
stands_more p taken n before after numbered stands may is_step =
    let q : length (events_of taken) + 1 ≡ n.seq.0 = ap (λ k. k + 1) (length-map taken event_of) ∙ numbered in
    let made : StandsFor p (events_of taken ++ event_of n ∷ []) (taken ++ step_at (length (events_of taken) + 1) (Step n.label)) after =
    step after 1 n.label stands may (ap (λ k. plain_step p before k n.label) q ∙ is_step) in
    subst (λ es. StandsFor p es (taken ++ n ∷ []) after) (sym (map-append event_of taken (n ∷ [])))
    (subst (λ k. StandsFor p (events_of taken ++ event_of n ∷ []) (taken ++ step_at k (Step n.label)) after) q made)
