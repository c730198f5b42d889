-- Several puts to one sink.
use Rattle.std.proofs.Common.{ℕ, List, ◌++◌, Option, Some, None, option_map, ap, ◌∙◌, append_assoc}
use Rattle.stab_base.proofs.GainLemmas.{SomePrefix-whole, SomePrefix-append, SomePrefix-after}
use Rattle.stab_files.specs.Told.{Appends, AppendsPrefix}

-- one piece after another
pub appends_trans : (a b c : Option (List ℕ)) (first second : List ℕ) → Appends a b first → Appends b c second → Appends a c (first ++ second)
appends_trans None b c first second p q = q ∙ ap (option_map (λ told. told ++ second)) p
appends_trans (Some told) b c first second p q =
    q ∙ ap (option_map (λ all. all ++ second)) p ∙ ap (λ all. Some all) (append_assoc told first second)

-- a whole piece, and then a prefix of the next
pub appends_prefix_trans : (a b c : Option (List ℕ)) (first second : List ℕ) → Appends a b first → AppendsPrefix b c second → AppendsPrefix a c (first ++ second)
appends_prefix_trans a b c first second p q = SomePrefix-after _ _ first second (λ front more. appends_trans a b c first front p more) q

-- a prefix of a piece is one of the piece and what comes after it
pub appends_prefix_more : (a b : Option (List ℕ)) (first second : List ℕ) → AppendsPrefix a b first → AppendsPrefix a b (first ++ second)
appends_prefix_more a b first second p = SomePrefix-append _ first second p

-- a whole piece is a prefix of itself
pub appends_prefix_whole : (a b : Option (List ℕ)) (piece : List ℕ) → Appends a b piece → AppendsPrefix a b piece
appends_prefix_whole a b piece p = SomePrefix-whole _ piece p
