use Rattle.std.proofs.Common.{ℕ, List, [], ◌∷◌, ◌++◌, sym, ap, subst, ◌∙◌, arith}
use Rattle.std.specs.FinMap.{from_entries}
use Rattle.trace_verify.specs.Generations.{times}
use Rattle.stab_image.proofs.Finding.{SoFar, all_found, none_found, one_found}
use Rattle.stab_image.proofs.Listing.{IsRisingTo, is_rising, one_rising}
use Rattle.stab_image.proofs.at.generations_of.Goals as goal

pub loop-t-init : goal.loop-t-init
loop-t-init c =
    let s = c.args.state.now.state in
    let f = times c.args.generations.now in
    record {
      so_far = subst (λ (es : List (ℕ × ℕ)). SoFar s f (from_entries es) 0) (sym c.new-found.ensures.items) (none_found s f c.requires);
      rising = subst (λ (es : List (ℕ × ℕ)). IsRisingTo 0 es 0) (sym c.new-found.ensures.items) (omega arith);
    }

pub loop-t-preserved : goal.loop-t-preserved
loop-t-preserved c =
    let s = c.args.state.now.state in
    let f = times c.args.generations.now in
    let t = c.in-Some.t.0 in
    let items = c.in_ok-push.ensures.items ∙ ap (λ (k : ℕ). c.loop-t.found.items ++ (t, k) ∷ []) c.of.ensures in
    record {
      so_far =
          subst (λ (es : List (ℕ × ℕ)). SoFar s f (from_entries es) t) (sym items)
          (one_found s f c.loop-t.found.items c.loop-t.last t c.in-Some.field-0-1.now c.loop-t.invariant.so_far c.in-Some.ensures.least c.in-Some.ensures.stands);
      rising =
          subst (λ (es : List (ℕ × ℕ)). IsRisingTo 0 es t) (sym c.in_ok-push.ensures.items)
          (one_rising 0 c.loop-t.last t c.loop-t.found.items _ c.loop-t.invariant.rising c.in-Some.ensures.least.0);
    }

pub returns-clause-rising : goal.returns-clause-rising
returns-clause-rising c = is_rising 0 c.loop-t.last c.loop-t.found.items c.loop-t.invariant.rising

pub returns-clause-found : goal.returns-clause-found
returns-clause-found c = record {
  each = all_found c.args.state.now.state (times c.args.generations.now) (from_entries c.loop-t.found.items) c.loop-t.last c.loop-t.invariant.so_far c.in_default.ensures.least;
  only = c.loop-t.invariant.so_far.only;
}
