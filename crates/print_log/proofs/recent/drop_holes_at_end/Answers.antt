use Rattle.std.proofs.Common.{◌≡◌, ◌-◌, ◌≤◌, ◌++◌, ◌∷◌, [], Some, length, slice_get, sym, ap, subst, ◌∙◌, length-append, arith}
use Rattle.std.specs.List.{slice_index_or}
use Rattle.std.specs.Option.{option_to_list}
use Rattle.std.proofs.lemmas.Option.{get_or_from_slice_get, slice_get_within}
use Rattle.print_log.specs.Layout.{live, IsRising}
use Rattle.print_log.proofs.Entries.{live_hole, no_value, rising_front}
use Rattle.print_log.proofs.recent.drop_holes_at_end.Goals as goal

pub loop-last-preserved-else-is_some-3 : goal.loop-last-preserved-else-is_some-3
loop-last-preserved-else-is_some-3 c =
    let es = c.loop-last.recent.items in
    let e = c.in-Some.last.now in
    let at : slice_get es (length es - 1) ≡ Some e = ap (λ xs. slice_get xs (length xs - 1)) (sym c.deref.ensures.value) ∙ sym c.in-Some.ensures.value in
    let inside = slice_get_within es (length es - 1) e at in
    let last = get_or_from_slice_get es (length es - 1) e e at in
    let gave = c.pop-hole.ensures.value e (omega (arith, c.loop-last.recent.ok.0)) ∙ ap Some (ap (λ n. slice_index_or es (n - 1) e) c.loop-last.recent.ok.0 ∙ last) in
    let whole : es ≡ c.pop-hole.new.self.items ++ e ∷ [] = c.pop-hole.ensures.items ∙ ap (λ o. c.pop-hole.new.self.items ++ option_to_list o) gave in
    let shorter : length c.pop-hole.new.self.items ≤ length es = let long = ap length whole ∙ length-append c.pop-hole.new.self.items (e ∷ []) in omega (arith, long) in
    record {
      live = sym (live_hole c.pop-hole.new.self.items e (no_value e.value (sym c.is_some.ensures ∙ c.if-is_some.false))) ∙ ap live (sym whole) ∙ c.loop-last.invariant.live;
      rising = rising_front c.pop-hole.new.self.items (e ∷ []) (subst IsRising whole c.loop-last.invariant.rising);
      capacity = c.pop-hole.ensures.capacity ∙ c.loop-last.invariant.capacity;
      fewer = omega (arith, shorter, c.loop-last.invariant.fewer);
    }
