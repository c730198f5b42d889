use Rattle.std.proofs.Common.{rules, ◌≡◌, ℕ, ◌<◌, List, length, get_or, set, None, Ok, Err, sym, ap, subst, ◌∙◌, arith}
use Rattle.std.specs.List.Sorted.{IsBinarySearchResult, IsNonDecreasingBy}
use Rattle.std.specs.Ordering.{nat_cmp, ordering_index}
use Rattle.std.proofs.lemmas.Cmp.{ranked}
use Rattle.std.proofs.lemmas.Bool.Decides.{nat_tests}
use Rattle.std.proofs.lemmas.List.Sorted.{answers_always}
use Rattle.print_log.specs.declared.recent.Entry.{Entry}
use Rattle.print_log.specs.Log.{without}
use Rattle.print_log.specs.Layout.{live, IsRising}
use Rattle.print_log.proofs.Entries.{live_struck, live_absent, rising_order, rising_struck}
use Rattle.print_log.proofs.recent.strike.Goals as goal

module _ (es : List Entry) (rising : IsRising es) (q : ℕ) where
  -- the comparisons with q rise along the entries
  order : IsNonDecreasingBy (λ (e : Entry). ordering_index (nat_cmp e.number.0 q)) es
  order i j d le low = let up = rising_order es rising i j d le low in grind (arith, nat_tests)

  -- where the search ends
  absent : (at : ℕ) → IsBinarySearchResult (λ (e : Entry). nat_cmp e.number.0 q) es (Err at) → live es ≡ without q (live es)
  absent at parted =
      live_absent q es at
      (λ k d low. ranked _ q _ (sym ((parted order).0 k d (omega arith) low)))
      (λ k d high low. ranked _ q _ (sym ((parted order).1 k d high low)))

  found : (at : ℕ) (e : Entry) → IsBinarySearchResult (λ (e : Entry). nat_cmp e.number.0 q) es (Ok at) → q ≡ (get_or es at e).number.0
  found at e equal = sym (ranked _ q _ (sym (equal e)))

pub drop_holes_at_end-requires : goal.drop_holes_at_end-requires
drop_holes_at_end-requires c =
    let es = c.args.recent.now.items in
    let low : c.in-Ok.i < length es = subst (λ xs. c.in-Ok.i < length xs) c.deref.ensures.value c.in-Ok.ensures.bound in
    subst (λ (e : Entry). IsRising (set es c.in-Ok.i (record e { value = None }))) (sym c.index_mut.ensures.value)
    (rising_struck es c.in-Ok.i c.index_mut.result.now low c.requires.rising)

pub returns-in-Ok-clause-recent : goal.returns-in-Ok-clause-recent
returns-in-Ok-clause-recent c =
    let es = c.args.recent.now.items in
    let e = c.index_mut.result.now in
    let low : c.in-Ok.i < length es = subst (λ xs. c.in-Ok.i < length xs) c.deref.ensures.value c.in-Ok.ensures.bound in
    let at = c.in-Ok.ensures.position (λ (e : Entry). e.number.0) (answers_always _ _ _ (λ f a r g called. search rules)) in
    c.drop_holes_at_end.ensures.recent
    ∙ ap (λ (k : Entry). live (set es c.in-Ok.i (record k { value = None }))) c.index_mut.ensures.value
    ∙ live_struck c.args.q.0 es c.in-Ok.i e low c.requires.rising (found es c.requires.rising c.args.q.0 c.in-Ok.i e (subst (λ (xs : List Entry). IsBinarySearchResult (λ (k : Entry). nat_cmp k.number.0 c.args.q.0) xs (Ok c.in-Ok.i)) c.deref.ensures.value at))

pub returns-in_default-clause-recent : goal.returns-in_default-clause-recent
returns-in_default-clause-recent c =
    let at = c.in_default.ensures.position (λ (e : Entry). e.number.0) (answers_always _ _ _ (λ f a r g called. search rules)) in
    absent c.args.recent.now.items c.requires.rising c.args.q.0 c.in_default.field-0 (subst (λ (es : List Entry). IsBinarySearchResult (λ (e : Entry). nat_cmp e.number.0 c.args.q.0) es (Err c.in_default.field-0)) c.deref.ensures.value at)
