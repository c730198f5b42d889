use Rattle.std.proofs.Common.{◌&&◌, not, nat_eq, drop, sym, ap, subst, ◌∙◌}
use Rattle.std.specs.List.{list_any}
use Rattle.stab_journal.specs.declared.event.Numbered.{Numbered}
use Rattle.stab_journal.specs.Floor.{is_enter, is_pin}
use Rattle.stab_journal.specs.Journal.{RiseFrom}
use Rattle.stab_journal.specs.Names.{has}
use Rattle.stab_journal.specs.Reached.{reached, rest}
use Rattle.trace_verify.proofs.Parting.{entered_at, entry_pins, gone_at, no_entry, not_above, rise_at, rise_back}
use Rattle.trace_verify.proofs.parts.Parts.is_revocable.Goals as goal

pub returns-then-m-self : goal.returns-then-m-self
returns-then-m-self c =
    let a = c.args.self.now in
    sym (not_above a.since a.floor a.final_prints c.args.m.0 a.settled.items a.recent.items c.requires.parted c.if-m-self.true)

pub returns-then-not-is_entered : goal.returns-then-not-is_entered
returns-then-not-is_entered c =
    let a = c.args.self.now in
    let behind = c.split_at.ensures.back ∙ ap (drop c.before-k.result) c.deref.ensures.value in
    no_entry a.since a.floor a.final_prints c.args.m.0 a.settled.items a.recent.items c.requires.parted c.requires.rise c.if-m-self.false
    (sym (entered_at c.args.m.0 c.before-k.result a.recent.items c.before-k.ensures.below)
    ∙ ap (list_any (λ (n : Numbered). nat_eq c.args.m.0 n.seq.0 && is_enter n.label)) (sym behind) ∙ sym c.is_entered.ensures ∙ c.if-not-is_entered.true)

pub divide-requires : goal.divide-requires
divide-requires c =
    let a = c.args.self.now in
    subst (RiseFrom 1) (sym (c.split_at.ensures.back ∙ ap (drop c.before-k.result) c.deref.ensures.value))
    (rise_at c.before-k.result a.recent.items (rise_back 1 a.settled.items a.recent.items c.requires.rise))

pub returns : goal.returns
returns c =
    let a = c.args.self.now in
    let behind = c.split_at.ensures.back ∙ ap (drop c.before-k.result) c.deref.ensures.value in
    ap not (c.has_pin.ensures ∙ ap (list_any (λ (n : Numbered). is_pin n.label)) c.deref-2.ensures.value)
    ∙ entry_pins a.since a.floor a.final_prints c.args.m.0 a.settled.items a.recent.items c.in_ok-divided.divided.goes.items c.requires.parted c.requires.rise c.if-m-self.false
    (sym (entered_at c.args.m.0 c.before-k.result a.recent.items c.before-k.ensures.below)
    ∙ ap (list_any (λ (n : Numbered). nat_eq c.args.m.0 n.seq.0 && is_enter n.label)) (sym behind) ∙ sym c.is_entered.ensures ∙ c.if-not-is_entered.false)
    (c.in_ok-divided.ensures.goes ∙ ap (λ l. rest (λ q. not (has (reached l c.args.m.0) q)) l) behind
    ∙ gone_at c.args.m.0 c.before-k.result a.recent.items (rise_back 1 a.settled.items a.recent.items c.requires.rise) c.before-k.ensures.below)
