-- Stretches of forms that are gone through in the order of the list.
use Rattle.std.specs.Prelude.{◌≡◌, ℕ, ◌+◌, ◌<◌, ◌≤◌, ◌==◌, ◌↔◌, Bool, true, false, List, [], ◌∷◌, ◌++◌, length, slice_get, Some, Result, Ok}
use Rattle.std.specs.List.{slice_range}
use Rattle.stab_code.specs.declared.head.Head.{Head as Code}
use Rattle.stab_parse.specs.declared.tree.FormNode.{FormNode}
use Rattle.stab_parse.specs.declared.tree.Function.{Function}
use Rattle.stab_parse.specs.declared.tree.Head.{Head}
use Rattle.stab_parse.specs.declared.tree.Head.TheVariants as head
use Rattle.scope_check.specs.declared.fault.ScopeFault.{ScopeFault}
use Rattle.scope_check.specs.declared.progress.Progress.{Progress}
use Rattle.scope_check.specs.declared.seen.Variable.{Variable}
use Rattle.scope_check.specs.Progress.{IsFaultOf, met_of, seen_of}
use Rattle.scope_check.specs.Scope.{Met, after, head_met}

-- A plain head with so many parts: no block with lets, call, spawn or stable, and a text or variable only without parts. It is the same
-- before and behind them.
abbrev pub plain_head : Head → ℕ → Bool
plain_head (head.Text span) parts = parts == 0
plain_head (head.Variable name) parts = parts == 0
plain_head (head.LetBlock names) parts = false
plain_head (head.Call name) parts = false
plain_head (head.Start word name) parts = false
plain_head _ parts = true

abbrev pub plain : FormNode → Bool
plain f = plain_head f.head f.parts

-- the forms from one number on are plain, as far as before an end
abbrev pub ArePlain : List FormNode → ℕ → ℕ → Type 0
ArePlain forms first end = (i : ℕ) (f : FormNode) → first ≤ i → i < end → slice_get forms i ≡ Some f → plain f ≡ true

-- the least number from which on all forms before an end are plain: it is at most `first` exactly where those from `first` on are
abbrev pub IsPlainFrom : List FormNode → ℕ → ℕ → Type 0
IsPlainFrom forms end number = (first : ℕ) → (number ≤ first) ↔ ArePlain forms first end

-- each number in a list is the least from which on all forms as far as its own place, and the one there, are plain
abbrev pub ArePlainFrom : List FormNode → List ℕ → Type 0
ArePlainFrom forms numbers = (at number : ℕ) → slice_get numbers at ≡ Some number → IsPlainFrom forms (at + 1) number

-- the forms behind those whose heads were made, as far as before a number
abbrev pub stretch : List FormNode → ℕ → Progress → List FormNode
stretch forms end old = slice_range forms (length old.heads.items) end

module _ (bytes : List ℕ) (fs : List Function) where
  -- the heads of forms, one after the other, where the same variables are seen
  abbrev pub heads_met : List Variable → Met → List FormNode → Result (List Code × Met) ScopeFault
  heads_met seen met [] = Ok ([], met)
  heads_met seen met (f ∷ forms) =
      after (head_met bytes fs seen met f.head f.parts) (λ own. after (heads_met seen own.1 forms) (λ rest. Ok (own.0 ∷ rest.0, rest.1)))

  -- the head of a form stands behind those that were made before
  abbrev pub IsHeadAdded : FormNode → Progress → Progress → Type 0
  IsHeadAdded f old new =
      (own : Code) × (head_met bytes fs (seen_of old) (met_of old) f.head f.parts ≡ Ok (own, met_of new)) × (new.heads.items ≡ old.heads.items ++ own ∷ []) × (new.seen.items ≡ old.seen.items)

  module _ (forms : List FormNode) (end : ℕ) where
    abbrev pub IsStretchMade : Progress → Progress → Type 0
    IsStretchMade old new =
        (heads : List Code) × (heads_met (seen_of old) (met_of old) (stretch forms end old) ≡ Ok (heads, met_of new)) × (new.heads.items ≡ old.heads.items ++ heads)

    abbrev pub IsStretchFault : Progress → ScopeFault → Type 0
    IsStretchFault old fault = IsFaultOf (heads_met (seen_of old) (met_of old) (stretch forms end old)) fault
