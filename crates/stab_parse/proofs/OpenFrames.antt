-- How much frames have open.
use Rattle.std.proofs.Common.{◌≡◌, ◌+◌, ◌≤◌, List, [], ◌∷◌, ◌++◌, length, arith}
use Rattle.std.specs.Prelude.{reverse}
use Rattle.std.proofs.lemmas.List.{reverse-append, length-reverse}
use Rattle.stab_parse.specs.declared.frame.Frame.{Frame}
use Rattle.stab_parse.specs.declared.frame.Frame.TheVariants.{ResultType, Let, Condition, Operator}
use Rattle.stab_parse.specs.Frames.{open_by, open_in}

pub open_by-le : (f : Frame) → open_by f ≤ 1
open_by-le (ResultType f ps) = omega arith
open_by-le (Let x) = omega arith
open_by-le (Condition i) = omega arith
open_by-le (Operator l op s) = omega arith
open_by-le _ = omega arith

pub open_in-le : (fs : List Frame) → open_in fs ≤ length fs
open_in-le [] = omega arith
open_in-le (f ∷ fs) = omega (arith, open_by-le f, open_in-le fs)

pub open_in_pushed : (fs : List Frame) (f : Frame) → open_in (reverse fs) + open_by f ≡ open_in (reverse (fs ++ f ∷ []))
open_in_pushed fs f =
    let e : reverse (fs ++ f ∷ []) ≡ f ∷ reverse fs = reverse-append fs (f ∷ []) in
    rw e (omega arith)

pub open_in_reversed : (fs : List Frame) → open_in (reverse fs) ≤ length fs
open_in_reversed fs = omega (arith, open_in-le (reverse fs), length-reverse fs)
