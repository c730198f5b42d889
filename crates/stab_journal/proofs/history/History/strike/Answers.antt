use Rattle.std.proofs.Common.{◌≡◌, suc, ◌-◌, sym, ap, subst, ◌∙◌, arith}
use Rattle.std.specs.List.{slice_set}
use Rattle.std.specs.Vec.{with_item}
use Rattle.stab_journal.specs.declared.history.History.TheInside.{Inside}
use Rattle.stab_journal.specs.Event.{weight_of}
use Rattle.stab_journal.specs.Journal.{Journal, IsLive, IsValid, survivors}
use Rattle.stab_journal.specs.View.{journal_of}
use Rattle.stab_journal.proofs.Changes.{striking, valid-strike, survivors-strike, view-strike, live_within}
use Rattle.stab_journal.proofs.history.History.strike.Goals as goal

abbrev after : goal.After-self-1 → Inside
after c = record { entries = with_item c.self.inside.entries (c.args.q.0 - 1) c.strike.new.self; weight = c.self.inside.weight }

view_after : (c : goal.After-self-1) → journal_of (after c) ≡ striking (journal_of c.self.inside) c.args.q.0
view_after c =
    let within = live_within c.self.inside c.args.q.0 (subst (λ j. IsLive j c.args.q.0) (sym c.self.view_is) c.requires) in
    let number : suc (c.args.q.0 - 1) ≡ c.args.q.0 = omega (arith, within.0) in
    view-strike c.self.inside (after c) (c.args.q.0 - 1) c.index_mut-entry.result.now within.1 c.index_mut-entry.ensures.value (ap (slice_set c.self.inside.entries.items (c.args.q.0 - 1)) c.strike.ensures) (λ _. (after c).entries.len) (λ _. (after c).entries.cap)
    ∙ ap (striking (journal_of c.self.inside)) number

seen_after : (c : goal.After-self-1) → journal_of (after c) ≡ striking c.args.self.now c.args.q.0
seen_after c = view_after c ∙ ap (λ j. striking j c.args.q.0) c.self.view_is

pub invariant_of-self : goal.invariant_of-self
invariant_of-self c = record {
  valid = subst IsValid (sym (seen_after c)) (valid-strike c.args.self.now c.args.q.0 (subst IsValid c.self.view_is c.self.invariant.valid) c.requires);
  weight = c.self.invariant.weight ∙ sym (ap (λ (j : Journal). weight_of j.events) (view_after c));
}

pub returns-clause-after : goal.returns-clause-after
returns-clause-after c = seen_after c

pub returns-clause-survivors : goal.returns-clause-survivors
returns-clause-survivors c = ap survivors (seen_after c) ∙ survivors-strike c.args.self.now c.args.q.0
