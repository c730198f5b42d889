-- Output that was cut short, put together from its pieces.
use Rattle.std.proofs.Common.{◌≡◌, ℕ, List, [], ◌++◌, ◌∙◌, sym, ap, append_assoc, append-nil, codes}
use Rattle.stab_base.specs.Gain.{SomePrefix, GainsPrefix}

-- a whole piece is a prefix of itself
pub SomePrefix-whole : (P : List ℕ → Type 0) (piece : List ℕ) → P piece → SomePrefix P piece
SomePrefix-whole P piece p = record { front = piece; back = []; split = append-nil piece; fact = p }

-- a prefix of the first piece is a prefix of both
pub SomePrefix-append : (P : List ℕ → Type 0) (piece more : List ℕ) → SomePrefix P piece → SomePrefix P (piece ++ more)
SomePrefix-append P piece more s =
    record { front = s.front; back = s.back ++ more; split = sym (append_assoc s.front s.back more) ∙ ap (λ xs. xs ++ more) s.split; fact = s.fact }

-- after the first piece, a prefix of the second is a prefix of both
pub SomePrefix-after : (P Q : List ℕ → Type 0) (piece more : List ℕ) → ((front : List ℕ) → Q front → P (piece ++ front)) → SomePrefix Q more → SomePrefix P (piece ++ more)
SomePrefix-after P Q piece more both s =
    record { front = piece ++ s.front; back = s.back; split = append_assoc piece s.front s.back ∙ ap (λ xs. piece ++ xs) s.split; fact = both s.front s.fact }

pub GainsPrefix-append : (old new piece more : List ℕ) → GainsPrefix old new piece → GainsPrefix old new (piece ++ more)
GainsPrefix-append old new piece more g = SomePrefix-append _ piece more g

pub GainsPrefix-after : (old middle new piece more : List ℕ) → middle ≡ old ++ piece → GainsPrefix middle new more → GainsPrefix old new (piece ++ more)
GainsPrefix-after old middle new piece more e g =
    SomePrefix-after _ _ piece more (λ front h. h ∙ ap (λ xs. xs ++ front) e ∙ append_assoc old piece front) g

-- a pair was cut short between its parts
pub GainsPrefix-between : (old one two new a b : List ℕ) → one ≡ old ++ codes "(" → two ≡ one ++ a → GainsPrefix two new (codes ", ") → GainsPrefix old new (codes "(" ++ a ++ codes ", " ++ b ++ codes ")")
GainsPrefix-between old one two new a b e f cut =
    let start : two ≡ old ++ (codes "(" ++ a) = rw (f, e, append_assoc old (codes "(") a) in
    GainsPrefix-append old new (codes "(" ++ a ++ codes ", " ++ b) (codes ")") (GainsPrefix-append old new (codes "(" ++ a ++ codes ", ") b (GainsPrefix-after old two new (codes "(" ++ a) (codes ", ") start cut))

-- a pair was cut short in its second part
pub GainsPrefix-second_part : (old one two three new a b : List ℕ) → one ≡ old ++ codes "(" → two ≡ one ++ a → three ≡ two ++ codes ", " → GainsPrefix three new b → GainsPrefix old new (codes "(" ++ a ++ codes ", " ++ b ++ codes ")")
GainsPrefix-second_part old one two three new a b e f g cut =
    let start : three ≡ old ++ (codes "(" ++ a ++ codes ", ") = rw (g, f, e, append_assoc old (codes "(") a, append_assoc old (codes "(" ++ a) (codes ", ")) in
    GainsPrefix-append old new (codes "(" ++ a ++ codes ", " ++ b) (codes ")") (GainsPrefix-after old three new (codes "(" ++ a ++ codes ", ") b start cut)

-- a pair was cut short at its closing parenthesis
pub GainsPrefix-end : (old one two three four new a b : List ℕ) → one ≡ old ++ codes "(" → two ≡ one ++ a → three ≡ two ++ codes ", " → four ≡ three ++ b → GainsPrefix four new (codes ")") → GainsPrefix old new (codes "(" ++ a ++ codes ", " ++ b ++ codes ")")
GainsPrefix-end old one two three four new a b e f g h cut =
    let start : four ≡ old ++ (codes "(" ++ a ++ codes ", " ++ b) = rw (h, g, f, e, append_assoc old (codes "(") a, append_assoc old (codes "(" ++ a) (codes ", "), append_assoc old (codes "(" ++ a ++ codes ", ") b) in
    GainsPrefix-after old four new (codes "(" ++ a ++ codes ", " ++ b) (codes ")") start cut
