use Rattle.std.proofs.Common.{◌≡◌, ◌<◌, ◌≤◌, ◌+◌, ℕ, List, ◌++◌, length, map, get_or, Result, Ok, Err, IfOk, IfSome, Option, Some, None, slice_get, sym, ap, subst, ◌∙◌, arith}
use Rattle.std.specs.List.{All}
use Rattle.std.proofs.lemmas.Option.{slice_get-get_or}
use Rattle.stab_code.specs.declared.node_id.NodeId.{NodeId}
use Rattle.stab_code.specs.declared.head.Head.{Head}
use Rattle.stab_code.specs.Heads.{slots_of}
use Rattle.stab_code.specs.Syntax.{named_from, named_in}
use Rattle.stab_code.specs.Trees.{tree}
use Rattle.stab_code.specs.Program.{tree_at, trees_at}
use Rattle.stab_types.specs.declared.given.Given.{Given}
use Rattle.stab_types.specs.Computed.{type_by, type_in}
use Rattle.stab_types.specs.Given.{IsComputed, hidden_by, seen_of, type_of, with_let}
use Rattle.stab_types.proofs.Going.{IsGoing, going_step, going_none, going_end, signatures_more}
use Rattle.stab_types.proofs.Lets.{IsWithin, part_named, slot_in}
use Rattle.stab_types.proofs.infer.+infer.Goals as goal

pub infer-requires : goal.infer-requires
infer-requires t c =
    let p = c.args.program.now in
    let node = c.in-Some.node in
    let part : NodeId = get_or c.parts-part-items.result.now c.loop-i.i (record { 0 = 0 }) in
    let below : All (λ (part : NodeId). part.0 < c.args.n.0) node.parts = c.nodes_are_trees.ensures.below p c.in-Some.ensures.valid c.args.n.0 node (sym c.in-Some.ensures.value) in
    let here : All (λ (part : NodeId). part.0 < c.args.n.0) c.parts-part-items.result.now = subst (All (λ (part : NodeId). part.0 < c.args.n.0)) (sym c.parts-part-items.ensures) below in
    let low = here c.loop-i.i (record { 0 = 0 }) c.loop-i-test.true in
    let at : slice_get node.parts c.loop-i.i ≡ Some part =
    ap (λ (ns : List NodeId). slice_get ns c.loop-i.i) (sym c.parts-part-items.ensures) ∙ slice_get-get_or c.parts-part-items.result.now c.loop-i.i (record { 0 = 0 }) c.loop-i-test.true in
    let named : All (λ slot. slot < length c.args.seen.now) (named_from node.head (map (λ n. named_in (tree_at p n)) node.parts)) =
    subst (All (λ slot. slot < length c.args.seen.now)) (c.nodes_are_trees.ensures.named p c.in-Some.ensures.valid c.args.n node (sym c.in-Some.ensures.value)) c.requires.slots in
    let slots = (part_named p node.head node.parts (length c.args.seen.now) named c.loop-i.i part at).0 in
    let same = c.loop-i.invariant.same_length in (
      omega (arith, low),
      (
        omega (arith, low, c.requires.there),
        (
          signatures_more c.args.types.now c.loop-i.types c.args.signatures.now p.functions c.loop-i.invariant.longer c.requires.signatures,
          (subst (λ (k : ℕ). All (λ slot. slot < k) (named_in (tree_at p part))) (sym same) slots, c.loop-i.invariant.seen_below),
        ),
      ),
    )

pub returns-in_default-2-clause-is : goal.returns-in_default-2-clause-is
returns-in_default-2-clause-is t c =
    let p = c.args.program.now in
    let node = c.in-Some.node in
    let part : NodeId = get_or c.parts-part-items.result.now c.loop-i.i (record { 0 = 0 }) in
    let at : slice_get node.parts c.loop-i.i ≡ Some part =
    ap (λ (ns : List NodeId). slice_get ns c.loop-i.i) (sym c.parts-part-items.ensures) ∙ slice_get-get_or c.parts-part-items.result.now c.loop-i.i (record { 0 = 0 }) c.loop-i-test.true in
    let is_tree : tree_at p c.args.n ≡ tree node.head (trees_at p node.parts) = c.nodes_are_trees.ensures.tree p c.in-Some.ensures.valid c.args.n node (sym c.in-Some.ensures.value) in
    let computed : IsComputed c.loop-i.types c.infer.new.types None (λ all. type_in p.functions (seen_of all c.loop-i.seen) (tree_at p part)) =
    subst (λ (o : Option Given). IsComputed c.loop-i.types c.infer.new.types o (λ all. type_in p.functions (seen_of all c.loop-i.seen) (tree_at p part))) c.in_default-2.is c.in_ok-given.ensures.is in
    going_none p.functions p c.args.types.now c.loop-i.types c.args.seen.now c.loop-i.seen c.loop-i.hidden.items node.head node.parts c.loop-i.i c.loop-i.parts.items c.loop-i.invariant c.args.n is_tree
    c.infer.new.types part at computed

-- what holds of what was found holds of what is there
found_same : {X : Type 0} (o : Option Given) (g : Given) → IfSome o (λ _. X) → o ≡ Some g → X
found_same None g h is = absurd (cc)
found_same (Some x) g h is = h

pub see-requires : goal.see-requires
see-requires t c =
    let p = c.args.program.now in
    let node = c.in-Some.node in
    let part : NodeId = get_or c.parts-part-items.result.now c.loop-i.i (record { 0 = 0 }) in
    let at : slice_get node.parts c.loop-i.i ≡ Some part =
    ap (λ (ns : List NodeId). slice_get ns c.loop-i.i) (sym c.parts-part-items.ensures) ∙ slice_get-get_or c.parts-part-items.result.now c.loop-i.i (record { 0 = 0 }) c.loop-i-test.true in
    let named : All (λ slot. slot < length c.args.seen.now) (named_from node.head (map (λ n. named_in (tree_at p n)) node.parts)) =
    subst (All (λ slot. slot < length c.args.seen.now)) (c.nodes_are_trees.ensures.named p c.in-Some.ensures.valid c.args.n node (sym c.in-Some.ensures.value)) c.requires.slots in
    let slot_is : c.slot_at.result ≡ slot_in (slots_of node.head) c.loop-i.i = c.slot_at.ensures ∙ ap (λ h. slot_in (slots_of h) c.loop-i.i) c.head.ensures in
    let within : IsWithin (length c.args.seen.now) (slot_in (slots_of node.head) c.loop-i.i) = (part_named p node.head node.parts (length c.args.seen.now) named c.loop-i.i part at).1 in
    let seen : c.infer.new.seen ≡ c.loop-i.seen = found_same c.in_ok-given.field-0 c.in-Some-2.given c.in_ok-given.ensures.same c.in-Some-2.is in
    let long : length c.infer.new.seen ≡ length c.args.seen.now = ap length seen ∙ c.loop-i.invariant.same_length in
    λ x is. subst (λ (k : ℕ). x < k) (sym long) (within x (sym slot_is ∙ is))

pub loop-i-preserved : goal.loop-i-preserved
loop-i-preserved t c =
    let p = c.args.program.now in
    let node = c.in-Some.node in
    let g = c.in-Some-2.given in
    let part : NodeId = get_or c.parts-part-items.result.now c.loop-i.i (record { 0 = 0 }) in
    let at : slice_get node.parts c.loop-i.i ≡ Some part =
    ap (λ (ns : List NodeId). slice_get ns c.loop-i.i) (sym c.parts-part-items.ensures) ∙ slice_get-get_or c.parts-part-items.result.now c.loop-i.i (record { 0 = 0 }) c.loop-i-test.true in
    let computed : IsComputed c.loop-i.types c.infer.new.types (Some g) (λ all. type_in p.functions (seen_of all c.loop-i.seen) (tree_at p part)) =
    subst (λ (o : Option Given). IsComputed c.loop-i.types c.infer.new.types o (λ all. type_in p.functions (seen_of all c.loop-i.seen) (tree_at p part))) c.in-Some-2.is c.in_ok-given.ensures.is in
    let slot_is : c.slot_at.result ≡ slot_in (slots_of node.head) c.loop-i.i = c.slot_at.ensures ∙ ap (λ h. slot_in (slots_of h) c.loop-i.i) c.head.ensures in
    let seen : c.infer.new.seen ≡ c.loop-i.seen = found_same c.in_ok-given.field-0 g c.in_ok-given.ensures.same c.in-Some-2.is in
    let named : All (λ slot. slot < length c.args.seen.now) (named_from node.head (map (λ n. named_in (tree_at p n)) node.parts)) =
    subst (All (λ slot. slot < length c.args.seen.now)) (c.nodes_are_trees.ensures.named p c.in-Some.ensures.valid c.args.n node (sym c.in-Some.ensures.value)) c.requires.slots in
    let own : IsWithin (length c.args.seen.now) (slot_in (slots_of node.head) c.loop-i.i) = (part_named p node.head node.parts (length c.args.seen.now) named c.loop-i.i part at).1 in
    let within : IsWithin (length c.loop-i.seen) c.slot_at.result = λ x is. subst (λ (k : ℕ). x < k) (sym c.loop-i.invariant.same_length) (own x (sym slot_is ∙ is)) in
    let now_is : c.see.new.seen ≡ with_let c.slot_at.result g c.loop-i.seen = c.in_ok-see.ensures.seen ∙ ap (with_let c.slot_at.result g) seen in
    let kept_is : c.see.new.hidden.items ≡ c.loop-i.hidden.items ++ hidden_by c.slot_at.result c.loop-i.seen =
    c.in_ok-see.ensures.hidden ∙ ap (λ (vs : List (Option Given)). c.loop-i.hidden.items ++ hidden_by c.slot_at.result vs) seen in
    subst (λ (gs : List Given). IsGoing p.functions p c.args.types.now c.infer.new.types c.args.seen.now c.see.new.seen c.see.new.hidden.items node.head node.parts (c.loop-i.i + 1) gs) (sym c.in_ok-push.ensures.ok)
    (going_step p.functions p c.args.types.now c.loop-i.types c.args.seen.now c.loop-i.seen c.loop-i.hidden.items node.head node.parts c.loop-i.i c.loop-i.parts.items c.loop-i.invariant
    c.infer.new.types g part c.slot_at.result c.see.new.seen c.see.new.hidden.items (c.loop-i.i + 1) at computed slot_is within now_is kept_is (omega arith))

ok_then : {X E : Type 0} {P Q : X → Type 0} (r : Result X E) → IfOk r P → ((x : X) → P x → Q x) → IfOk r Q
ok_then (Ok x) h f = f x h
ok_then (Err e) h f = tt

pub returns-clause-is : goal.returns-clause-is
returns-clause-is t c =
    let p = c.args.program.now in
    let node = c.in-Some.node in
    let is_tree : tree_at p c.args.n ≡ tree node.head (trees_at p node.parts) = c.nodes_are_trees.ensures.tree p c.in-Some.ensures.valid c.args.n node (sym c.in-Some.ensures.value) in
    let seen_is : c.put_back.new.seen ≡ c.args.seen.now = c.put_back.ensures ∙ c.loop-i.invariant.back in
    let now = signatures_more c.args.types.now c.loop-i.types c.args.signatures.now p.functions c.loop-i.invariant.longer c.requires.signatures in
    ok_then c.type_by.result c.type_by.ensures
    (λ found h.
    let raw : IsComputed c.loop-i.types c.type_by.new.types found (λ all. type_by p.functions (seen_of all c.put_back.new.seen) c.head-2.result.now (map (type_of all) c.as_slice.result.now)) = h p.functions now in
    let by_seen : IsComputed c.loop-i.types c.type_by.new.types found (λ all. type_by p.functions (seen_of all c.args.seen.now) c.head-2.result.now (map (type_of all) c.as_slice.result.now)) =
    subst (λ (vs : List (Option Given)). IsComputed c.loop-i.types c.type_by.new.types found (λ all. type_by p.functions (seen_of all vs) c.head-2.result.now (map (type_of all) c.as_slice.result.now))) seen_is raw in
    let by_head : IsComputed c.loop-i.types c.type_by.new.types found (λ all. type_by p.functions (seen_of all c.args.seen.now) node.head (map (type_of all) c.as_slice.result.now)) =
    subst (λ (h : Head). IsComputed c.loop-i.types c.type_by.new.types found (λ all. type_by p.functions (seen_of all c.args.seen.now) h (map (type_of all) c.as_slice.result.now))) c.head-2.ensures by_seen in
    let by_parts : IsComputed c.loop-i.types c.type_by.new.types found (λ all. type_by p.functions (seen_of all c.args.seen.now) node.head (map (type_of all) c.loop-i.parts.items)) =
    subst (λ (gs : List Given). IsComputed c.loop-i.types c.type_by.new.types found (λ all. type_by p.functions (seen_of all c.args.seen.now) node.head (map (type_of all) gs))) c.as_slice.ensures by_head in
    let end : length node.parts ≤ c.loop-i.i = subst (λ (ns : List NodeId). length ns ≤ c.loop-i.i) c.parts-part-items.ensures (omega (arith, c.loop-i-test.false)) in
    going_end p.functions p c.args.types.now c.loop-i.types c.args.seen.now c.loop-i.seen c.loop-i.hidden.items node.head node.parts c.loop-i.i c.loop-i.parts.items c.loop-i.invariant c.args.n is_tree
    c.type_by.new.types found end by_parts)
