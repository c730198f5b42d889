use Rattle.std.proofs.Common.{◌≡◌, ◌<◌, ◌+◌, ◌++◌, ℕ, false, cond, not, ◌&&◌, nat_eq, nat_lt, List, [], ◌∷◌, length, take, drop, sym, ap, subst, ◌∙◌, arith}
use Rattle.std.specs.List.{slice_index_or, slice_set, AllByRecursion}
use Rattle.std.proofs.lemmas.List.{get_or_default, length-set}
use Rattle.ref_log.specs.declared.places.Recent.{Recent}
use Rattle.ref_log.specs.declared.places.Reference.{Reference}
use Rattle.ref_log.specs.Log.{IsRising}
use Rattle.ref_log.specs.Layout.{is_live, write_of, of_reference, settled_at}
use Rattle.ref_log.specs.Moved.{IsCutSoFar}
use Rattle.ref_log.proofs.CutSteps.{refilled, same_tail, stay-below, cut-more}
use Rattle.ref_log.proofs.Unlinked.{live-there}
use Rattle.ref_log.proofs.cut.cut.Goals as goal

pub move_over-stay-requires-clause-there : goal.move_over-stay-requires-clause-there
move_over-stay-requires-clause-there c = λ live.
    let e = c.replace-entry.result in
    let es = c.loop-i.recent.items in
    let es₀ = c.args.recent.now.items in
    let xs₀ = c.args.references.now.items in
    let so = c.loop-i.invariant.cut in
    let inside : c.loop-i.i < length es = omega (arith, so.long, c.loop-i.invariant.upto) in
    let here : slice_index_or es c.loop-i.i e ≡ e = get_or_default es c.loop-i.i e c.index_mut.result.now inside ∙ sym c.index_mut.ensures.value ∙ sym c.replace-entry.ensures.value in
    let same : slice_index_or es₀ c.loop-i.i e ≡ e = sym ((same_tail es es₀ c.loop-i.i e inside so.long so.rest).0) ∙ here in
    let there : e.reference.0 < length xs₀ = subst (λ (x : Recent). x.reference.0 < length xs₀) same (live-there xs₀ es₀ c.loop-i.i e c.requires.linked.chained (omega arith) (subst (λ (x : Recent). nat_eq x.number.0 0 ≡ false) (sym same) live)) in
    let forgot : c.args.references.now.len ≡ length c.forget_heads.new.references = omega (arith, c.args.references.now.ok.0, c.forget_heads.auto.references, c.deref_mut.ensures.len) in
    let first = ap length (refilled c.args.references.now.len c.forget_heads.new.references (drop (length c.forget_heads.new.references) xs₀) forgot) in
    omega (arith, there, so.places, first, forgot, c.args.references.now.ok.0, c.deref_mut-in-loop-i.ensures.value)

pub move_over-stay-requires-clause-above : goal.move_over-stay-requires-clause-above
move_over-stay-requires-clause-above c = λ live.
    let e = c.replace-entry.result in
    let es = c.loop-i.recent.items in
    let es₀ = c.args.recent.now.items in
    let so = c.loop-i.invariant.cut in
    let inside : c.loop-i.i < length es = omega (arith, so.long, c.loop-i.invariant.upto) in
    let is : e ≡ slice_index_or es c.loop-i.i e = c.replace-entry.ensures.value ∙ c.index_mut.ensures.value ∙ get_or_default es c.loop-i.i c.index_mut.result.now e inside in
    let forgot : c.args.references.now.len ≡ length c.forget_heads.new.references = omega (arith, c.args.references.now.ok.0, c.forget_heads.auto.references, c.deref_mut.ensures.len) in
    let xs₀ : List Reference = take c.args.references.now.len (c.forget_heads.new.references ++ drop (length c.forget_heads.new.references) c.args.references.now.items) in
    let first = refilled c.args.references.now.len c.forget_heads.new.references (drop (length c.forget_heads.new.references) c.args.references.now.items) forgot in
    let rising = λ (s : ℕ). subst (λ ws. IsRising (ws ++ of_reference s es₀)) (sym (ap (λ zs. settled_at zs s) first ∙ c.forget_heads.ensures.settled s ∙ ap (λ zs. settled_at zs s) c.deref_mut.ensures.value)) (c.requires.rising s) in
    subst (λ (ps : List Recent). AllByRecursion (λ w. w.number < e.number.0) (of_reference e.reference.0 (take c.loop-i.stay ps))) (sym c.deref_mut-in-loop-i-2.ensures.value)
    (stay-below c.args.q.0 xs₀ es₀ c.loop-i.i c.loop-i.stay c.loop-i.references.items es so (omega (arith, c.loop-i.invariant.upto)) e is c.replace-entry.new.dest rising e.reference.0 live)

pub loop-i-preserved : goal.loop-i-preserved
loop-i-preserved c =
    let e = c.replace-entry.result in
    let xs = c.loop-i.references.items in
    let es = c.loop-i.recent.items in
    let es₀ = c.args.recent.now.items in
    let so = c.loop-i.invariant.cut in
    let h = c.replace-entry.new.dest in
    let ys = c.move_over-stay.new.references in
    let fs = c.move_over-stay.new.recent in
    let inside : c.loop-i.i < length es = omega (arith, so.long, c.loop-i.invariant.upto) in
    let is : e ≡ slice_index_or es c.loop-i.i e = c.replace-entry.ensures.value ∙ c.index_mut.ensures.value ∙ get_or_default es c.loop-i.i c.index_mut.result.now e inside in
    let forgot : c.args.references.now.len ≡ length c.forget_heads.new.references = omega (arith, c.args.references.now.ok.0, c.forget_heads.auto.references, c.deref_mut.ensures.len) in
    let first = refilled c.args.references.now.len c.forget_heads.new.references (drop (length c.forget_heads.new.references) c.args.references.now.items) forgot in
    let rising = λ (s : ℕ). subst (λ ws. IsRising (ws ++ of_reference s es₀)) (sym (ap (λ zs. settled_at zs s) first ∙ c.forget_heads.ensures.settled s ∙ ap (λ zs. settled_at zs s) c.deref_mut.ensures.value)) (c.requires.rising s) in
    let xs₀ : List Reference = take c.args.references.now.len (c.forget_heads.new.references ++ drop (length c.forget_heads.new.references) c.args.references.now.items) in
    let long : length fs ≡ length es = c.move_over-stay.auto.recent ∙ ap length c.deref_mut-in-loop-i-2.ensures.value ∙ length-set es c.loop-i.i h in
    let places : length ys ≡ length xs = c.move_over-stay.auto.references ∙ ap length c.deref_mut-in-loop-i.ensures.value in
    let lent = c.deref_mut-in-loop-i-2.ensures.value in
    let more =
    cut-more c.args.q.0 xs₀ es₀ c.loop-i.i c.loop-i.stay xs es so (omega (arith, c.loop-i.invariant.upto)) e is h rising c.move_over-stay.result ys fs c.move_over-stay.ensures.stay
    (subst (λ (ps : List Recent). (s : ℕ) → of_reference s (take c.move_over-stay.result fs) ≡ cond (is_live s e && not (nat_lt e.number.0 c.args.q.0)) (of_reference s (take c.loop-i.stay ps) ++ write_of e ∷ []) (of_reference s (take c.loop-i.stay ps))) lent c.move_over-stay.ensures.recent)
    (subst (λ (zs : List Reference). (s : ℕ) → settled_at ys s ≡ cond (is_live s e && nat_lt e.number.0 c.args.q.0) (write_of e ∷ []) (settled_at zs s)) c.deref_mut-in-loop-i.ensures.value c.move_over-stay.ensures.settled)
    c.move_over-stay.ensures.linked
    (subst (λ (ps : List Recent). drop (c.loop-i.stay + 1) fs ≡ drop (c.loop-i.stay + 1) ps) lent c.move_over-stay.ensures.behind)
    long places in
    record {
      cut =
          subst (λ (zs : List Reference). IsCutSoFar c.args.q.0 xs₀ es₀ (c.loop-i.i + 1) c.move_over-stay.result zs (take c.loop-i.recent.len (fs ++ drop (length fs) (slice_set es c.loop-i.i h)))) (sym (refilled c.loop-i.references.len ys (drop (length ys) xs) (c.loop-i.references.ok.0 ∙ sym places)))
          (subst (λ (ps : List Recent). IsCutSoFar c.args.q.0 xs₀ es₀ (c.loop-i.i + 1) c.move_over-stay.result ys ps) (sym (refilled c.loop-i.recent.len fs (drop (length fs) (slice_set es c.loop-i.i h)) (c.loop-i.recent.ok.0 ∙ sym long))) more);
      capacity = c.loop-i.invariant.capacity;
      upto = c.loop-i.invariant.upto;
    }
