use Rattle.std.proofs.Common.{◌≡◌, ℕ, suc, ◌+◌, ◌∷◌, ◌++◌, [], List, Bor, IfOk, sym, ap, subst, ◌∙◌, arith}
use Rattle.std.specs.Prelude.{Option, Some, None, option_map, option_and_then}
use Rattle.plain_language.specs.declared.expr.Expr.{Expr}
use Rattle.language.specs.Expression.{form, parts_of}
use Rattle.expression_text.specs.declared.word.Word.{Word}
use Rattle.language.specs.declared.head.Head.TheVariants as head
use Rattle.expression_text.specs.Reading.{Read, item_of, plan, read, read_plan}
use Rattle.expression_text.proofs.Loops.{InList, InItems, list_more, list_none, list_end, items_more, items_none, items_none_behind, items_end}
use Rattle.expression_text.proofs.reading.+reading.Goals as goal

-- what is answered, as contracts see it
abbrev seen : Option (Expr × Bor (List Word)) → Option (Expr × List Word)
seen o = option_map {T = Expr × Bor (List Word)} {U = Expr × List Word} (λ p. (p.0, p.1.now)) o

abbrev seen_item : Option (Option ℕ × Bor (List Word)) → Option (Option ℕ × List Word)
seen_item o = option_map {T = Option ℕ × Bor (List Word)} {U = Option ℕ × List Word} (λ p. (p.0, p.1.now)) o

-- a block from its items
abbrev read_block_by : ℕ → Read (List (Option ℕ) × List Expr) → Read Expr
read_block_by d o = option_and_then (λ p. option_map (λ q. (form (head.Block p.0.0) (parts_of (p.0.1 ++ q.0 ∷ [])), q.1)) (read d p.1)) o

-- a block from its items and its last part
abbrev block_of : List (Option ℕ) → List Expr → Read Expr → Read Expr
block_of os es o = option_map (λ q. (form (head.Block os) (parts_of (es ++ q.0 ∷ [])), q.1)) o

one_word : (d b : ℕ) (ws rest : List Word) (w : Word) → d ≡ suc b → ws ≡ w ∷ rest → read_plan (read b) (plan w) rest ≡ read d ws
one_word d b ws rest w e h = sym (ap (λ n. read n ws) e ∙ ap (read (suc b)) h)

pub read-returns : goal.read-returns
read-returns t c =
    let deep : c.args.depth ≡ suc c.in-Some.below = omega arith in
    subst (λ (x : Option (Expr × List Word)). IfOk c.read_behind.result (λ o. seen o ≡ x))
    (one_word c.args.depth c.in-Some.below c.args.words.now c.in-Some-split_first.rest.now c.in-Some-split_first.word.now deep c.in-Some-split_first.ensures.cases.0) c.read_behind.ensures

pub read_form-loop-preserved : goal.read_form-loop-preserved
read_form-loop-preserved t c =
    let here : read c.args.depth c.loop.rest.now ≡ Some (c.in-Some.part, c.in-Some.behind.now) = sym c.in_ok-part.ensures ∙ ap seen c.in-Some.is in
    let items_are : c.push.new.self.items ≡ c.loop.parts.items ++ c.in-Some.part ∷ [] = c.in_ok-push.ensures.items in (
      subst (λ (es : List Expr). InList (read c.args.depth) c.args.count c.args.words.now es c.in-Some.behind.now (c.loop.counter + 1)) (sym items_are)
          (list_more (read c.args.depth) c.args.count c.loop.counter c.args.words.now c.loop.rest.now c.in-Some.behind.now c.loop.parts.items c.in-Some.part c.loop.invariant.0 here),
      c.loop.invariant.1,
    )

pub read_form-returns-in_default : goal.read_form-returns-in_default
read_form-returns-in_default t c =
    let here : read c.args.depth c.loop.rest.now ≡ None = sym c.in_ok-part.ensures ∙ ap seen c.in_default.is in
    sym (ap (option_map (λ p. (form c.args.head (parts_of p.0), p.1))) (list_none (read c.args.depth) c.args.count c.loop.counter c.args.words.now c.loop.rest.now c.loop.parts.items c.loop.invariant.0 c.loop-test.true here))

pub read_form-returns : goal.read_form-returns
read_form-returns t c =
    let done : c.loop.counter ≡ c.args.count = omega arith in
    let all = list_end (read c.args.depth) c.args.count c.args.words.now c.loop.rest.now c.loop.parts.items (subst (λ (i : ℕ). InList (read c.args.depth) c.args.count c.args.words.now c.loop.parts.items c.loop.rest.now i) done c.loop.invariant.0) in
    ap (λ e. Some (e, c.loop.rest.now)) (c.form.ensures ∙ ap (λ h. form h (parts_of c.loop.parts.items)) c.loop.invariant.1) ∙ sym (ap (option_map (λ p. (form c.args.head (parts_of p.0), p.1))) all)

pub read_block-loop-preserved : goal.read_block-loop-preserved
read_block-loop-preserved t c =
    let item : item_of c.loop.rest.now ≡ Some (c.in-Some.slot, c.in-Some.item.now) = sym c.read_item.ensures ∙ ap seen_item c.in-Some.is in
    let here : read c.args.depth c.in-Some.item.now ≡ Some (c.in-Some-2.part, c.in-Some-2.behind.now) = sym c.in_ok-part.ensures ∙ ap seen c.in-Some-2.is in
    let slots_are : c.push.new.self.items ≡ c.loop.slots.items ++ c.in-Some.slot ∷ [] = c.in_ok-push.ensures.items in
    let items_are : c.push-in-loop.new.self.items ≡ c.loop.parts.items ++ c.in-Some-2.part ∷ [] = c.in_ok-push-2.ensures.items in
    subst (λ (os : List (Option ℕ)). InItems (read c.args.depth) c.args.count c.args.words.now os c.push-in-loop.new.self.items c.in-Some-2.behind.now (c.loop.counter + 1)) (sym slots_are)
    (subst (λ (es : List Expr). InItems (read c.args.depth) c.args.count c.args.words.now (c.loop.slots.items ++ c.in-Some.slot ∷ []) es c.in-Some-2.behind.now (c.loop.counter + 1)) (sym items_are)
    (items_more (read c.args.depth) c.args.count c.loop.counter c.args.words.now c.loop.rest.now c.in-Some.item.now c.in-Some-2.behind.now c.loop.slots.items c.loop.parts.items c.in-Some.slot c.in-Some-2.part c.loop.invariant item here))

pub read_block-returns-in_default : goal.read_block-returns-in_default
read_block-returns-in_default t c =
    let item : item_of c.loop.rest.now ≡ None = sym c.read_item.ensures ∙ ap seen_item c.in_default.is in
    sym (ap (read_block_by c.args.depth) (items_none (read c.args.depth) c.args.count c.loop.counter c.args.words.now c.loop.rest.now c.loop.slots.items c.loop.parts.items c.loop.invariant c.loop-test.true item))

pub read_block-returns-in_default-2 : goal.read_block-returns-in_default-2
read_block-returns-in_default-2 t c =
    let item : item_of c.loop.rest.now ≡ Some (c.in-Some.slot, c.in-Some.item.now) = sym c.read_item.ensures ∙ ap seen_item c.in-Some.is in
    let here : read c.args.depth c.in-Some.item.now ≡ None = sym c.in_ok-part.ensures ∙ ap seen c.in_default-2.is in
    sym (ap (read_block_by c.args.depth) (items_none_behind (read c.args.depth) c.args.count c.loop.counter c.args.words.now c.loop.rest.now c.in-Some.item.now c.loop.slots.items c.loop.parts.items c.in-Some.slot c.loop.invariant c.loop-test.true item here))

pub read_block-returns-in_default-3 : goal.read_block-returns-in_default-3
read_block-returns-in_default-3 t c =
    let done : c.loop.counter ≡ c.args.count = omega arith in
    let all = items_end (read c.args.depth) c.args.count c.args.words.now c.loop.rest.now c.loop.slots.items c.loop.parts.items (subst (λ (i : ℕ). InItems (read c.args.depth) c.args.count c.args.words.now c.loop.slots.items c.loop.parts.items c.loop.rest.now i) done c.loop.invariant) in
    let here : read c.args.depth c.loop.rest.now ≡ None = sym c.in_ok-last.ensures ∙ ap seen c.in_default-3.is in
    sym (ap (read_block_by c.args.depth) all ∙ ap (block_of c.loop.slots.items c.loop.parts.items) here)

pub read_block-returns : goal.read_block-returns
read_block-returns t c =
    let done : c.loop.counter ≡ c.args.count = omega arith in
    let all = items_end (read c.args.depth) c.args.count c.args.words.now c.loop.rest.now c.loop.slots.items c.loop.parts.items (subst (λ (i : ℕ). InItems (read c.args.depth) c.args.count c.args.words.now c.loop.slots.items c.loop.parts.items c.loop.rest.now i) done c.loop.invariant) in
    let here : read c.args.depth c.loop.rest.now ≡ Some (c.in-Some-3.last, c.in-Some-3.behind.now) = sym c.in_ok-last.ensures ∙ ap seen c.in-Some-3.is in
    let items_are : c.push-2.new.self.items ≡ c.loop.parts.items ++ c.in-Some-3.last ∷ [] = c.in_ok-push-3.ensures.items in
    ap (λ e. Some (e, c.in-Some-3.behind.now)) (c.form.ensures ∙ ap (λ os. form (head.Block os) (parts_of c.push-2.new.self.items)) c.in_ok-new.ensures ∙ ap (λ es. form (head.Block c.loop.slots.items) (parts_of es)) items_are)
    ∙ sym (ap (read_block_by c.args.depth) all ∙ ap (block_of c.loop.slots.items c.loop.parts.items) here)
