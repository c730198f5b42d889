-- The new list stands behind the others, and ends where all items end.
use Rattle.std.proofs.Common.{◌≡◌, ◌+◌, length, arith}
use Rattle.flat_lists.proofs.Storing.{ends_pushed, list_pushed}
use Rattle.flat_lists.proofs.lists.FlatLists.push.Goals as goal

end_of : (g : _) (c : goal.After-push_reserved g) → c.in_ok-end.end ≡ length c.self.inside.items.items + length c.args.list.now
end_of g c = omega (arith, c.in_ok-end.ensures, c.len.ensures)

pub invariant_of-self-2 : goal.invariant_of-self-2
invariant_of-self-2 g c =
    rw (c.push_reserved.ensures.items, c.in_ok-append.ensures, c.reserve.ensures.items)
    (ends_pushed 0 c.self.inside.ends.items c.self.inside.items.items c.args.list.now _ c.self.invariant (end_of g c))

pub returns : goal.returns
returns g c =
    rw (c.push_reserved.ensures.items, c.in_ok-append.ensures, c.reserve.ensures.items, ← c.self.view_is)
    (list_pushed 0 c.self.inside.ends.items c.self.inside.items.items c.args.list.now _ c.self.invariant (end_of g c))
