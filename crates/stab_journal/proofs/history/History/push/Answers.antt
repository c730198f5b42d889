use Rattle.std.proofs.Common.{◌≡◌, ◌+◌, [], ◌∷◌, ◌++◌, false, length, sym, ap, subst, ◌∙◌, arith, vec_len}
use Rattle.std.proofs.lemmas.List.{length-map}
use Rattle.stab_journal.specs.declared.history.History.TheInside.{Inside}
use Rattle.stab_journal.specs.Entry.{Entry}
use Rattle.stab_journal.specs.Journal.{Journal, IsValid, step_at, survivors}
use Rattle.stab_journal.specs.View.{journal_of}
use Rattle.stab_journal.proofs.Changes.{pushed, valid-push, survivors-push, view-push, weight-push}
use Rattle.stab_journal.specs.Own.{own, own_at}
use Rattle.stab_journal.proofs.Reading.{own-push}
use Rattle.stab_journal.proofs.history.History.push.Goals as goal

valid_before : (c : goal.After-len) → IsValid c.args.self.now
valid_before c = subst IsValid c.self.view_is c.self.invariant.valid

items : (c : goal.After-len) → c.push_reserved.new.self.items ≡ c.self.inside.entries.items ++ record { event = c.args.event; struck = false } ∷ []
items c = c.push_reserved.ensures.items ∙ ap (λ (e : Entry). c.self.inside.entries.items ++ e ∷ []) c.new.ensures

abbrev after : goal.After-len → Inside
after c = record { entries = c.push_reserved.new.self; weight = c.self.inside.weight + c.weight_of_event.result }

view_after : (c : goal.After-len) → journal_of (after c) ≡ pushed c.args.self.now c.args.event
view_after c =
    view-push c.self.inside (after c) c.args.event (items c) c.push_reserved.ensures.len c.push_reserved.ensures.capacity
    ∙ ap (λ j. pushed j c.args.event) c.self.view_is

number : (c : goal.After-len) → c.len.result ≡ length c.args.self.now.events + 1
number c =
    let before : vec_len c.self.inside.entries ≡ length c.args.self.now.events = c.self.inside.entries.ok.0 ∙ sym (length-map c.self.inside.entries.items (λ (e : Entry). e.event)) ∙ ap (λ (j : Journal). length j.events) c.self.view_is in
    c.len.ensures ∙ c.push_reserved.ensures.len ∙ ap (λ n. n + 1) before

pub invariant_of-self : goal.invariant_of-self
invariant_of-self c = record {
  valid = subst IsValid (sym (view_after c)) (valid-push c.args.self.now c.args.event (valid_before c) c.requires.weight c.requires.in_range);
  weight =
      let grown = weight-push c.self.inside (after c) c.args.event (items c) c.push_reserved.ensures.len c.push_reserved.ensures.capacity in
      omega (arith, c.self.invariant.weight, c.weight_of_event.ensures);
}

pub returns-clause-after : goal.returns-clause-after
returns-clause-after c = view_after c

pub returns-clause-survivors : goal.returns-clause-survivors
returns-clause-survivors c =
    ap survivors (view_after c)
    ∙ survivors-push c.args.self.now c.args.event (valid_before c)
    ∙ ap (λ n. survivors c.args.self.now ++ step_at n c.args.event.what) (sym (number c))

pub returns-clause-own : goal.returns-clause-own
returns-clause-own c = λ w.
    ap (λ (j : Journal). own w j.events) (view_after c)
    ∙ own-push w c.args.self.now.events c.args.event
    ∙ ap (λ n. own w c.args.self.now.events ++ own_at w n c.args.event) (sym (number c))
