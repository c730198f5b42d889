-- The items from one on are that one and those below it.
use Rattle.std.proofs.Common.{◌≡◌, ◌∷◌, refl}
use Rattle.shared_stack.specs.Linked.{items_from, items_of}
use Rattle.shared_stack.specs.declared.stack.Link.{Link, Link', None', Some', out-Link}

pub items_split : {T : Type 0} (link : Link T) → items_from link ≡ (out-Link T link).item ∷ items_of (out-Link T link).below
unfolding out-Link denote.Hole.Carrier.out
items_split (Link' item None') = refl
items_split (Link' item (Some' p below)) = refl
