use Rattle.std.proofs.Common.{◌≡◌, ◌-◌, suc, cond, [], ◌∷◌, ◌++◌, Some, take, sym, ap, ◌∙◌, arith, append_assoc, append-nil}
use Rattle.std.specs.List.{slice_index_or}
use Rattle.std.proofs.lemmas.Option.{slice_get_past}
use Rattle.ref_log.specs.Log.{last_of}
use Rattle.ref_log.specs.Layout.{is_of, last_place, write_of, of_reference, settled_of, settled_at, settled_writes, head_of}
use Rattle.ref_log.proofs.Recent.{none_there, last_there}
use Rattle.ref_log.proofs.Links.{live_both}
use Rattle.ref_log.proofs.References.{head-here, settled-here, last_end}
use Rattle.ref_log.proofs.places.last.Goals as goal

pub returns-then-r-references : goal.returns-then-r-references
returns-then-r-references c =
    let xs = c.args.references.now in
    let es = c.args.recent.now in
    let r = c.args.r.0 in
    let past = slice_get_past xs r c.if-r-references.true in
    let none = none_there r es (sym (c.requires.chained.heads r) ∙ ap head_of past) in
    sym (ap (λ o. last_of (settled_of o ++ of_reference r es)) past ∙ ap last_of none)

pub bounds-recent-reference : goal.bounds-recent-reference
bounds-recent-reference c =
    let xs = c.args.references.now in
    let r = c.args.r.0 in
    let x = c.index-references-r.result in
    let n = x.head - 1 in
    let last = last_there r c.args.recent.now n (sym (c.requires.chained.heads r) ∙ head-here xs r x c.if-r-references.false ∙ ap (λ y. y.head) (sym c.index-references-r.is) ∙ omega arith) in
    last.within

pub returns-then-reference-gt0 : goal.returns-then-reference-gt0
returns-then-reference-gt0 c =
    let xs = c.args.references.now in
    let r = c.args.r.0 in
    let x = c.index-references-r.result in
    let e = c.index-recent-reference.result in
    let n = x.head - 1 in
    let at : last_place r c.args.recent.now ≡ suc n = sym (c.requires.chained.heads r) ∙ head-here xs r x c.if-r-references.false ∙ ap (λ y. y.head) (sym c.index-references-r.is) ∙ omega arith in
    let last = last_there r c.args.recent.now n at in
    let live = live_both (is_of r (slice_index_or c.args.recent.now n e)) (slice_index_or c.args.recent.now n e).struck (last.here e) (c.requires.ends r n e at) in
    let w = write_of (slice_index_or c.args.recent.now n e) in
    let writes = last.writes e ∙ ap (λ b. of_reference r (take n c.args.recent.now) ++ cond b (w ∷ []) []) live in
    sym (ap (λ ws. last_of (settled_at xs r ++ ws)) writes ∙ ap last_of (sym (append_assoc (settled_at xs r) (of_reference r (take n c.args.recent.now)) (w ∷ []))) ∙ last_end (settled_at xs r ++ of_reference r (take n c.args.recent.now)) w ∙ ap (λ y. Some (write_of y)) (sym c.index-recent-reference.is))

pub returns-in-Some : goal.returns-in-Some
returns-in-Some c =
    let xs = c.args.references.now in
    let es = c.args.recent.now in
    let r = c.args.r.0 in
    let x = c.index-references-r.result in
    let none = none_there r es (sym (c.requires.chained.heads r) ∙ head-here xs r x c.if-r-references.false ∙ ap (λ y. y.head) (sym c.index-references-r.is) ∙ omega arith) in
    sym (ap (λ ws. last_of (settled_at xs r ++ ws)) none ∙ ap last_of (append-nil (settled_at xs r)) ∙ ap last_of (settled-here xs r x c.if-r-references.false ∙ ap (λ y. settled_writes y.settled) (sym c.index-references-r.is) ∙ ap settled_writes c.in-Some.is))

pub returns-in-None : goal.returns-in-None
returns-in-None c =
    let xs = c.args.references.now in
    let es = c.args.recent.now in
    let r = c.args.r.0 in
    let x = c.index-references-r.result in
    let none = none_there r es (sym (c.requires.chained.heads r) ∙ head-here xs r x c.if-r-references.false ∙ ap (λ y. y.head) (sym c.index-references-r.is) ∙ omega arith) in
    sym (ap (λ ws. last_of (settled_at xs r ++ ws)) none ∙ ap last_of (append-nil (settled_at xs r)) ∙ ap last_of (settled-here xs r x c.if-r-references.false ∙ ap (λ y. settled_writes y.settled) (sym c.index-references-r.is) ∙ ap settled_writes c.in-None.is))
