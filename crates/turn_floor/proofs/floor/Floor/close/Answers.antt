use Rattle.std.proofs.Common.{◌≡◌, ◌∷◌, ℕ, ◌<◌, ◌+◌, length, ap, sym, ◌∙◌, arith}
use Rattle.std.specs.List.{sum_by}
use Rattle.turn_floor.specs.Counts.{risen}
use Rattle.turn_floor.specs.Parts.{PassParts}
use Rattle.turn_floor.proofs.Closing.{all_seen, uncons}
use Rattle.std.proofs.lemmas.List.Sums.{sum_by-cons}
use Rattle.turn_floor.proofs.floor.Floor.close.Goals as goal

pub returns-clause-seen : goal.returns-clause-seen
returns-clause-seen g c =
    let some : 0 < length c.args.passes.items = omega (arith, c.args.passes.ok.0, c.remove-first.ensures.len) in
    let split : c.args.passes.items ≡ c.remove-first.result ∷ c.remove-first.new.self.items = uncons c.args.passes.items c.remove-first.result some ∙ (λ i. sym c.remove-first.ensures.value i ∷ sym c.remove-first.ensures.items i) in
    let j = c.gather-seat.ensures.joined in
    let e = c.end-held.ensures in
    all_seen c.args.passes.items c.remove-first.new.self.items c.remove-first.result j.0 c.gather-seat.result.seat.me.0 _ split j.3 j.4 e.seen.0 e.seen.1

pub returns-clause-commits : goal.returns-clause-commits
returns-clause-commits g c =
    let some : 0 < length c.args.passes.items = omega (arith, c.args.passes.ok.0, c.remove-first.ensures.len) in
    let split : c.args.passes.items ≡ c.remove-first.result ∷ c.remove-first.new.self.items = uncons c.args.passes.items c.remove-first.result some ∙ (λ i. sym c.remove-first.ensures.value i ∷ sym c.remove-first.ensures.items i) in
    let f : PassParts → ℕ = λ p. p.commits in
    let all : c.gather-seat.result.commits.share.amount ≡ sum_by f c.args.passes.items = c.gather-seat.ensures.commits.0 ∙ sym (ap (sum_by f) split ∙ sum_by-cons f c.remove-first.result c.remove-first.new.self.items) in
    (c.end-held.ensures.keeps.commits ∙ ap (λ (n : ℕ). risen n c.args.self.start.commits) (c.end.ensures.total ∙ all), c.end.ensures.so_far ∙ ap (λ (n : ℕ). risen n 0) all)

pub returns-clause-stale : goal.returns-clause-stale
returns-clause-stale g c =
    let some : 0 < length c.args.passes.items = omega (arith, c.args.passes.ok.0, c.remove-first.ensures.len) in
    let split : c.args.passes.items ≡ c.remove-first.result ∷ c.remove-first.new.self.items = uncons c.args.passes.items c.remove-first.result some ∙ (λ i. sym c.remove-first.ensures.value i ∷ sym c.remove-first.ensures.items i) in
    let f : PassParts → ℕ = λ p. p.stale in
    let all : c.gather-seat.result.stale.share.amount ≡ sum_by f c.args.passes.items = c.gather-seat.ensures.stale.0 ∙ sym (ap (sum_by f) split ∙ sum_by-cons f c.remove-first.result c.remove-first.new.self.items) in
    (c.end-held.ensures.keeps.stale ∙ ap (λ (n : ℕ). risen n c.args.self.start.stale) (c.end-2.ensures.total ∙ all), c.end-2.ensures.so_far ∙ ap (λ (n : ℕ). risen n 0) all)
