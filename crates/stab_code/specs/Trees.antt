-- Syntax trees, and values that are made from a tree's head and the values of its parts.
use Rattle.std.specs.Prelude.{List, [], ◌∷◌}
use Rattle.stab_code.specs.declared.head.Head.{Head}

-- a form with its parts from left to right
mutual
  pub data Tree : Type 0 where
    tree : Head → Trees → Tree

  pub data Trees : Type 0 where
    none : Trees
    more : Tree → Trees → Trees

-- the value of a tree, from its head and the values of its parts
abbrev mutual
  pub fold : {A : Type 0} → (Head → List A → A) → Tree → A
  fold value (tree head parts) = value head (fold_all value parts)

  pub fold_all : {A : Type 0} → (Head → List A → A) → Trees → List A
  fold_all value none = []
  fold_all value (more part parts) = fold value part ∷ fold_all value parts
