use Rattle.std.proofs.Common.{◌+◌, ◌++◌, ◌∷◌, [], ap, sym, ◌∙◌, arith}
use Rattle.std.specs.Prelude.{reverse}
use Rattle.stab_parse.specs.Frames.{open_in}
use Rattle.stab_parse.proofs.OpenFrames.{open_in_reversed, open_in_pushed, open_by-le}
use Rattle.stab_parse.proofs.frame.Stack.push.Goals as goal

pub overflow_add-self : goal.overflow_add-self
overflow_add-self c =
    let h = open_in_reversed c.self.inside.frames.items in
    let k = open_by-le c.args.frame in
    omega (arith, c.in_ok-reserve.ensures, c.push_reserved.ensures)

pub invariant_of-self-2 : goal.invariant_of-self-2
invariant_of-self-2 c =
    ap (λ n. n + c.opens-more.result) c.self.invariant ∙ ap (λ n. open_in (reverse c.self.inside.frames.items) + n) c.opens-more.ensures
    ∙ open_in_pushed c.self.inside.frames.items c.args.frame ∙ ap (λ l. open_in (reverse l)) (sym (c.push_reserved.ensures.items ∙ ap (λ l. l ++ c.args.frame ∷ []) c.in_ok-reserve.ensures.items))
