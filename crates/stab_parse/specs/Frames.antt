-- Frames as a list, the innermost first.
use Rattle.std.specs.Prelude.{ℕ, ◌+◌, List, [], ◌∷◌, Option, Some, None}
use Rattle.stab_parse.specs.declared.frame.Frame.{Frame}
use Rattle.stab_parse.specs.declared.frame.Frame.TheVariants.{ResultType, Let, Condition, Operator}

-- how much a frame has open
abbrev pub open_by : Frame → ℕ
open_by (ResultType f ps) = 0
open_by (Let x) = 0
open_by (Condition i) = 0
open_by (Operator l op s) = 0
open_by _ = 1

abbrev pub open_in : List Frame → ℕ
open_in [] = 0
open_in (f ∷ fs) = open_by f + open_in fs

abbrev pub top_of : List Frame → Option Frame
top_of [] = None
top_of (f ∷ fs) = Some f

abbrev pub below_top : List Frame → List Frame
below_top [] = []
below_top (f ∷ fs) = fs
