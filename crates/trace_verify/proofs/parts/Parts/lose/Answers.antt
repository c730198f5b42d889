use Rattle.std.proofs.Common.{◌≡◌, ◌++◌, not, take, drop, length, refl, sym, ap, subst, ◌∙◌, arith, length-append}
use Rattle.std.proofs.lemmas.List.{length-take-le, take-append-le, take-take}
use Rattle.stab_journal.specs.Journal.{RiseFrom}
use Rattle.stab_journal.specs.Names.{has}
use Rattle.stab_journal.specs.Reached.{reached, rest, without_reached}
use Rattle.trace_verify.specs.Parts.{AreParts}
use Rattle.trace_verify.proofs.Parting.{above_floor, gone_at, left_at, left_behind, lose_recent, lost_acts, rise_at, rise_back}
use Rattle.trace_verify.proofs.parts.Parts.lose.Goals as goal

pub divide-requires : goal.divide-requires
divide-requires c =
    subst (RiseFrom 1) (sym (c.split_at.ensures.back ∙ ap (drop c.args.k) c.deref.ensures.value))
    (rise_at c.args.k c.args.self.now.recent.items (rise_back 1 c.args.self.now.settled.items c.args.self.now.recent.items c.requires.rise))

pub returns-clause-parted : goal.returns-clause-parted
returns-clause-parted c =
    let a = c.args.self.now in
    let behind = c.split_at.ensures.back ∙ ap (drop c.args.k) c.deref.ensures.value in
    subst (AreParts a.since a.floor a.final_prints a.settled.items)
    (sym (c.in_ok-append.ensures.items ∙ ap (λ ns. ns ++ c.in_ok-divided.divided.stays.items) c.truncate.ensures.items
    ∙ ap (λ ns. take c.args.k a.recent.items ++ ns) (c.in_ok-divided.ensures.stays ∙ ap (without_reached c.args.m.0) behind)
    ∙ left_at c.args.m.0 c.args.k a.recent.items (rise_back 1 a.settled.items a.recent.items c.requires.rise) c.requires.below))
    (lose_recent a.since a.floor a.final_prints a.settled.items a.recent.items (has (reached a.recent.items c.args.m.0)) c.requires.parted)

pub returns-clause-run : goal.returns-clause-run
returns-clause-run c =
    let a = c.args.self.now in
    let behind = c.split_at.ensures.back ∙ ap (drop c.args.k) c.deref.ensures.value in
    ap (λ k. a.settled.items ++ k)
    (c.in_ok-append.ensures.items ∙ ap (λ ns. ns ++ c.in_ok-divided.divided.stays.items) c.truncate.ensures.items
    ∙ ap (λ ns. take c.args.k a.recent.items ++ ns) (c.in_ok-divided.ensures.stays ∙ ap (without_reached c.args.m.0) behind)
    ∙ left_at c.args.m.0 c.args.k a.recent.items (rise_back 1 a.settled.items a.recent.items c.requires.rise) c.requires.below)
    ∙ left_behind a.since a.floor a.final_prints c.args.m.0 a.settled.items a.recent.items c.requires.parted c.requires.rise
    (above_floor a.since a.floor a.final_prints c.args.m.0 a.settled.items a.recent.items c.requires.parted c.requires.revocable)

pub returns-clause-front : goal.returns-clause-front
returns-clause-front c =
    let a = c.args.self.now in
    let long = length-take-le c.args.k a.recent.items c.requires.within in
    ap (take c.args.k) (c.in_ok-append.ensures.items ∙ ap (λ ns. ns ++ c.in_ok-divided.divided.stays.items) c.truncate.ensures.items)
    ∙ take-append-le c.args.k (take c.args.k a.recent.items) c.in_ok-divided.divided.stays.items (omega (arith, long))
    ∙ ap (λ k. take k (take c.args.k a.recent.items)) (sym long) ∙ Rattle.std.proofs.Math.Seq.take-length (take c.args.k a.recent.items)

pub returns-clause-long : goal.returns-clause-long
returns-clause-long c =
    let a = c.args.self.now in
    omega (
      arith,
      ap length (c.in_ok-append.ensures.items ∙ ap (λ ns. ns ++ c.in_ok-divided.divided.stays.items) c.truncate.ensures.items),
      length-append (take c.args.k a.recent.items) c.in_ok-divided.divided.stays.items,
      length-take-le c.args.k a.recent.items c.requires.within,
    )

pub returns-clause-lost : goal.returns-clause-lost
returns-clause-lost c = λ t.
    let a = c.args.self.now in
    let behind = c.split_at.ensures.back ∙ ap (drop c.args.k) c.deref.ensures.value in
    lost_acts a.since a.floor a.final_prints c.args.m.0 t a.settled.items a.recent.items c.in_ok-divided.divided.goes.items c.requires.parted c.requires.rise
    (above_floor a.since a.floor a.final_prints c.args.m.0 a.settled.items a.recent.items c.requires.parted c.requires.revocable)
    (c.in_ok-divided.ensures.goes ∙ ap (λ l. rest (λ q. not (has (reached l c.args.m.0) q)) l) behind
    ∙ gone_at c.args.m.0 c.args.k a.recent.items (rise_back 1 a.settled.items a.recent.items c.requires.rise) c.requires.below)
