use Rattle.std.proofs.Common.{◌≡◌, ◌+◌, ◌<◌, ◌++◌, ◌∷◌, [], length, get_or, take, Some, sym, ap, subst, ◌∙◌, append-nil, append_assoc, length-append, arith}
use Rattle.std.specs.Prelude.{vec_capacity}
use Rattle.std.proofs.lemmas.List.{drop-set-lt, length-set}
use Rattle.std.proofs.lemmas.Grind.{drop_more_same}
use Rattle.print_log.specs.declared.recent.Entry.{Entry}
use Rattle.print_log.proofs.Entries.{entry_same, value_in, values_in, values_more, values_room}
use Rattle.print_log.proofs.recent.settle.Goals as goal
use Rattle.print_log.proofs.recent.settle.Goals.{in-Some, in_default}

pub push_reserved-requires : goal.push_reserved-requires
push_reserved-requires c =
    let all = c.args.recent.now.items in
    let es = c.loop-i.recent.items in
    let i = c.loop-i.i in
    let e = c.index_mut.result.now in
    let long = c.loop-i.invariant.long in
    let end = c.len-i-end.ensures in
    let low : i < length es = subst (λ n. i < n) (c.len-i-end.ensures ∙ c.args.recent.now.ok.0 ∙ sym long) c.loop-i-test.true in
    let under : i < length all = omega (arith, low, long) in
    let here : get_or all i e ≡ e = entry_same all es i e under low c.loop-i.invariant.more ∙ sym c.index_mut.ensures.value in
    let some : (get_or all i e).value ≡ Some c.in-Some.value = ap (λ (k : Entry). k.value) here ∙ sym c.take.ensures.value ∙ c.in-Some.is in
    let fits = values_room all i e c.in-Some.value under some in
    let so_far = ap length c.loop-i.invariant.finals ∙ length-append c.args.finals.now.items (values_in (take i all)) in
    let room = c.loop-i.invariant.room in
    let asked = c.requires in
    let len = c.loop-i.finals.ok.0 in
    omega (arith, fits, so_far, room, asked, len)

pub loop-i-preserved : goal.loop-i-preserved
loop-i-preserved c =
    let all = c.args.recent.now.items in
    let es = c.loop-i.recent.items in
    let i = c.loop-i.i in
    let e = c.index_mut.result.now in
    let long = c.loop-i.invariant.long in
    let low : i < length es = subst (λ n. i < n) (c.len-i-end.ensures ∙ c.args.recent.now.ok.0 ∙ sym long) c.loop-i-test.true in
    let under : i < length all = omega (arith, low, long) in
    let here : get_or all i e ≡ e = entry_same all es i e under low c.loop-i.invariant.more ∙ sym c.index_mut.ensures.value in
    let value : (get_or all i e).value ≡ c.take.result = ap (λ (k : Entry). k.value) here ∙ sym c.take.ensures.value in
    let h : Entry = record e { value = c.take.new.self } in
    record {
      finals =
          (elim c.match-take.branch [
            | in-Some w ↦
                ap (λ v. v.items) w.finals-is ∙ w.push_reserved.ensures.items
                ∙ ap (λ l. l ++ w.in-Some.value ∷ []) c.loop-i.invariant.finals
                ∙ append_assoc c.args.finals.now.items (values_in (take i all)) (w.in-Some.value ∷ [])
                ∙ ap (λ o. c.args.finals.now.items ++ (values_in (take i all) ++ value_in o)) (sym (value ∙ w.in-Some.is))
                ∙ ap (λ l. c.args.finals.now.items ++ l) (sym (values_more all i e under))
            | in_default w ↦
                ap (λ v. v.items) w.finals-is ∙ c.loop-i.invariant.finals
                ∙ ap (λ l. c.args.finals.now.items ++ l) (sym (values_more all i e under ∙ ap (λ o. values_in (take i all) ++ value_in o) (value ∙ w.in_default.is) ∙ append-nil (values_in (take i all))))
          ]);
      more = drop-set-lt (i + 1) es i h (omega arith) ∙ drop_more_same es all i c.loop-i.invariant.more;
      long = length-set es i h ∙ long;
      room = elim c.match-take.branch [
        | in-Some w ↦ ap vec_capacity w.finals-is ∙ w.push_reserved.ensures.capacity ∙ c.loop-i.invariant.room
        | in_default w ↦ ap vec_capacity w.finals-is ∙ c.loop-i.invariant.room
      ];
      capacity = c.loop-i.invariant.capacity;
    }
