use Rattle.std.proofs.Common.{◌≡◌, ◌+◌, ◌++◌, ◌∷◌, [], false, refl, sym, ap, subst, ◌∙◌, append-nil, append_assoc}
use Rattle.std.specs.Prelude.{count_by}
use Rattle.stab_base.specs.declared.numbers.ThreadId.{ThreadId}
use Rattle.stab_journal.specs.declared.event.Label.{Label}
use Rattle.stab_journal.specs.declared.event.Label.TheVariants.{Cut}
use Rattle.stab_journal.specs.declared.event.Numbered.{Numbered}
use Rattle.stab_journal.specs.Due.{is_print}
use Rattle.stab_journal.specs.Floor.{is_cut}
use Rattle.trace_verify.specs.Parts.{AreParts}
use Rattle.trace_verify.proofs.Parting.{add_cut, add_recent}
use Rattle.trace_verify.proofs.parts.Parts.add.Goals as goal

no_cut : (l : Label) → ((t : ThreadId) → l ≡ Cut t → ⊥) → is_cut l ≡ false
no_cut (Cut t) other = absurd (other t refl)
no_cut l other = refl

pub returns-in_ok-append-clause-parted : goal.returns-in_ok-append-clause-parted
returns-in_ok-append-clause-parted c =
    let a = c.args.self.now in
    let behind = c.in_ok-push.ensures.items in
    let cut : AreParts a.since c.args.step.seq.0 (a.final_prints + count_by (λ (n : Numbered). is_print n.label) (a.recent.items ++ c.args.step ∷ [])) (a.settled.items ++ (a.recent.items ++ c.args.step ∷ [])) [] =
    add_cut a.since a.floor a.final_prints a.settled.items a.recent.items c.args.step c.requires.parted (ap is_cut c.in-Cut.is) c.requires.below in
    subst (λ k. AreParts a.since c.args.step.seq.0 k c.append.new.self.items c.append.new.other.items)
    (ap (λ ns. a.final_prints + count_by (λ (n : Numbered). is_print n.label) ns) (sym behind ∙ sym c.deref.ensures.value) ∙ ap (λ k. a.final_prints + k) (sym c.prints_among.ensures.count))
    (subst (λ ns. AreParts a.since c.args.step.seq.0 (a.final_prints + count_by (λ (n : Numbered). is_print n.label) (a.recent.items ++ c.args.step ∷ [])) ns c.append.new.other.items)
    (ap (λ ns. a.settled.items ++ ns) (sym behind) ∙ sym c.in_ok-append.ensures.items)
    (subst (λ ns. AreParts a.since c.args.step.seq.0 (a.final_prints + count_by (λ (n : Numbered). is_print n.label) (a.recent.items ++ c.args.step ∷ [])) (a.settled.items ++ (a.recent.items ++ c.args.step ∷ [])) ns)
    (sym c.in_ok-append.ensures.other_items) cut))

pub returns-in_ok-append-clause-settled : goal.returns-in_ok-append-clause-settled
returns-in_ok-append-clause-settled c = record { back = c.push.new.self.items; is = c.in_ok-append.ensures.items }

pub returns-in_default : goal.returns-in_default
returns-in_default c =
    let a = c.args.self.now in record {
      since = refl;
      parted = subst (AreParts a.since a.floor a.final_prints a.settled.items) (sym c.in_ok-push.ensures.items)
          (add_recent a.since a.floor a.final_prints a.settled.items a.recent.items c.args.step c.requires.parted (no_cut c.args.step.label c.in_default.not-Cut) c.requires.above c.requires.below);
      settled = record { back = []; is = sym (append-nil a.settled.items) };
      run = ap (λ ns. a.settled.items ++ ns) c.in_ok-push.ensures.items ∙ sym (append_assoc a.settled.items a.recent.items (c.args.step ∷ []));
    }
