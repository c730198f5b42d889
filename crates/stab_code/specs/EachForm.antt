-- What holds of the head and the number of parts of each form.
use Rattle.std.specs.Prelude.{ℕ, suc, ⊤}
use Rattle.stab_code.specs.declared.head.Head.{Head}
use Rattle.stab_code.specs.Trees.{Tree, Trees, tree, none, more}

-- how many trees there are
abbrev pub count_of : Trees → ℕ
count_of none = 0
count_of (more t ts) = suc (count_of ts)

module _ (P : Head → ℕ → Type 0) where
  abbrev mutual
    -- it holds of the tree's head and the number of its parts, and of each form in it
    pub AllForms : Tree → Type 0
    AllForms (tree head parts) = P head (count_of parts) × AllFormsIn parts

    pub AllFormsIn : Trees → Type 0
    AllFormsIn none = ⊤
    AllFormsIn (more t ts) = AllForms t × AllFormsIn ts
