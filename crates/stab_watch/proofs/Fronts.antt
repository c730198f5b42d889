-- Fronts of lists, and lists that rise.
use Rattle.std.proofs.Common.{ℕ, List, [], ◌∷◌, ◌++◌, sym, ap, ◌∙◌, append_assoc, append-nil}
use Rattle.std.specs.List.{AllByRecursion}
use Rattle.stab_watch.specs.Counts.{AtMost, StartsWith, Rise}

pub itself : {A : Type 0} (xs : List A) → StartsWith xs xs
itself xs = ([], sym (append-nil xs))

pub longer : {A : Type 0} (xs front more : List A) → StartsWith xs front → StartsWith (xs ++ more) front
longer xs front more h = (h.0 ++ more, ap (λ l. l ++ more) h.1 ∙ append_assoc front h.0 more)

pub all_longer : {A : Type 0} (xs more : List A) (olds : List (List A)) → AllByRecursion (StartsWith xs) olds → AllByRecursion (StartsWith (xs ++ more)) olds
all_longer xs more [] all = tt
all_longer xs more (old ∷ olds) all = (longer xs old more all.0, all_longer xs more olds all.1)

pub further : {A : Type 0} (xs ys zs : List A) → StartsWith xs ys → StartsWith ys zs → StartsWith xs zs
further xs ys zs h k = (k.0 ++ h.0, h.1 ∙ ap (λ l. l ++ h.0) k.1 ∙ append_assoc zs k.0 h.0)

at_most_last : (x y : List ℕ) (xs : List (List ℕ)) → AllByRecursion (AtMost x) xs → AtMost x y → AllByRecursion (AtMost x) (xs ++ y ∷ [])
at_most_last x y [] all h = (h, tt)
at_most_last x y (z ∷ xs) all h = (all.0, at_most_last x y xs all.1 h)

pub rise_last : (xs : List (List ℕ)) (y : List ℕ) → Rise xs → AllByRecursion (λ (x : List ℕ). AtMost x y) xs → Rise (xs ++ y ∷ [])
rise_last [] y rise all = (tt, tt)
rise_last (x ∷ xs) y rise all = (at_most_last x y xs rise.0 all.0, rise_last xs y rise.1 all.1)
