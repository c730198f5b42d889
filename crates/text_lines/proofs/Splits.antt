-- Pieces that lack the mark, joined and split again; and pieces joined are what was split.
use Rattle.std.proofs.Common.{◌≡◌, ℕ, suc, ◌+◌, ◌≤◌, ◌<◌, Bool, true, false, not, ◌&&◌, cond, eqb, leb, List, [], ◌∷◌, ◌++◌, length, refl, sym, ap, subst, ◌∙◌, arith, append_assoc}
use Rattle.std.specs.Char.{is_ascii_digit}
use Rattle.std.specs.List.{list_all}
use Rattle.std.specs.Str.{all_ascii_digits}
use Rattle.std.proofs.lemmas.Bool.{eqb-true, eq-eqb, leb-true, ne_eqb, and_parts, and_from, not-true}
use Rattle.text_lines.specs.Lines.{longer, separated, split}

-- no byte of the piece is the mark
abbrev pub lacks : ℕ → List ℕ → Bool
lacks mark piece = list_all (λ b. not (eqb b mark)) piece

abbrev pub all_lack : ℕ → List (List ℕ) → Bool
all_lack mark pieces = list_all (lacks mark) pieces

pub lacks-append : (mark : ℕ) (xs ys : List ℕ) → lacks mark xs ≡ true → lacks mark ys ≡ true → lacks mark (xs ++ ys) ≡ true
lacks-append mark [] ys h k = k
lacks-append mark (x ∷ xs) ys h k =
    let parts = and_parts (not (eqb x mark)) (lacks mark xs) h in
    and_from (not (eqb x mark)) (lacks mark (xs ++ ys)) parts.0 (lacks-append mark xs ys parts.1 k)

-- digits lack every mark below them
pub lacks-digits : (mark : ℕ) (ds : List ℕ) → mark < 48 → all_ascii_digits ds ≡ true → lacks mark ds ≡ true
lacks-digits mark [] below digits = refl
lacks-digits mark (d ∷ ds) below digits =
    let parts = and_parts (is_ascii_digit d) (all_ascii_digits ds) digits in
    let low = leb-true 48 d (and_parts (leb 48 d) (leb d 57) parts.0).0 in
    let other : eqb d mark ≡ false = ne_eqb d mark (λ same. omega arith) in
    and_from (not (eqb d mark)) (lacks mark ds) (ap not other) (lacks-digits mark ds below parts.1)

pub lacks-separated : (mark other : ℕ) (piece : List ℕ) (pieces : List (List ℕ)) → eqb mark other ≡ false → lacks other piece ≡ true → all_lack other pieces ≡ true → lacks other (separated mark piece pieces) ≡ true
lacks-separated mark other piece [] differ h k = h
lacks-separated mark other piece (next ∷ pieces) differ h k =
    let parts = and_parts (lacks other next) (all_lack other pieces) k in
    lacks-append other piece (mark ∷ separated mark next pieces) h
    (and_from (not (eqb mark other)) (lacks other (separated mark next pieces)) (ap not differ) (lacks-separated mark other next pieces differ parts.0 parts.1))

-- a piece without the mark is one piece, and the first before a mark
pub split-whole : (mark : ℕ) (piece : List ℕ) → lacks mark piece ≡ true → split mark piece ≡ piece ∷ []
split-whole mark [] h = refl
split-whole mark (b ∷ piece) h =
    let parts = and_parts (not (eqb b mark)) (lacks mark piece) h in
    ap (λ t. cond t ([] ∷ split mark piece) (longer b (split mark piece))) (not-true (eqb b mark) parts.0)
    ∙ ap (longer b) (split-whole mark piece parts.1)

itself : (n : ℕ) → eqb n n ≡ true
itself n = eq-eqb n n refl

pub split-first : (mark : ℕ) (piece rest : List ℕ) → lacks mark piece ≡ true → split mark (piece ++ (mark ∷ rest)) ≡ piece ∷ split mark rest
split-first mark [] rest h = ap (λ t. cond t ([] ∷ split mark rest) (longer mark (split mark rest))) (itself mark)
split-first mark (b ∷ piece) rest h =
    let parts = and_parts (not (eqb b mark)) (lacks mark piece) h in
    ap (λ t. cond t ([] ∷ split mark (piece ++ (mark ∷ rest))) (longer b (split mark (piece ++ (mark ∷ rest))))) (not-true (eqb b mark) parts.0)
    ∙ ap (longer b) (split-first mark piece rest parts.1)

pub split-separated : (mark : ℕ) (piece : List ℕ) (pieces : List (List ℕ)) → lacks mark piece ≡ true → all_lack mark pieces ≡ true → split mark (separated mark piece pieces) ≡ piece ∷ pieces
split-separated mark piece [] h k = split-whole mark piece h
split-separated mark piece (next ∷ pieces) h k =
    let parts = and_parts (lacks mark next) (all_lack mark pieces) k in
    split-first mark piece (separated mark next pieces) h ∙ ap (λ ps. piece ∷ ps) (split-separated mark next pieces parts.0 parts.1)

-- there is always a first piece
pub record Pieces (pieces : List (List ℕ)) : Type 0 where
  pub first : List ℕ
  pub others : List (List ℕ)
  pub are : pieces ≡ first ∷ others

pieces-longer : (b : ℕ) (ps : List (List ℕ)) → Pieces (longer b ps)
pieces-longer b [] = record { first = b ∷ []; others = []; are = refl }
pieces-longer b (p ∷ ps) = record { first = b ∷ p; others = ps; are = refl }

pub pieces : (mark : ℕ) (bytes : List ℕ) → Pieces (split mark bytes)
pieces mark [] = record { first = []; others = []; are = refl }
pieces mark (b ∷ bytes) =
    elim (eqb b mark) as (λ t. Pieces (cond t ([] ∷ split mark bytes) (longer b (split mark bytes)))) [
      | true ↦ record { first = []; others = split mark bytes; are = refl }
      | false ↦ pieces-longer b (split mark bytes)
    ]

separated-longer : (mark b : ℕ) (piece : List ℕ) (ps : List (List ℕ)) → b ∷ separated mark piece ps ≡ separated mark (b ∷ piece) ps
separated-longer mark b piece [] = refl
separated-longer mark b piece (p ∷ ps) = refl

first_is : (p q : List ℕ) (ps qs : List (List ℕ)) → p ∷ ps ≡ q ∷ qs → p ≡ q
first_is p q ps qs e = cc

others_are : (p q : List ℕ) (ps qs : List (List ℕ)) → p ∷ ps ≡ q ∷ qs → ps ≡ qs
others_are p q ps qs e = cc

-- bytes are their pieces with the marks between them
pub rejoined : (mark : ℕ) (bytes piece : List ℕ) (ps : List (List ℕ)) → split mark bytes ≡ piece ∷ ps → bytes ≡ separated mark piece ps
rejoined mark [] piece ps e =
    ap (λ (x : List ℕ). x) (first_is [] piece [] ps e) ∙ ap (separated mark piece) (others_are [] piece [] ps e)
rejoined mark (b ∷ bytes) piece ps given =
    let inner = pieces mark bytes in
    let back : bytes ≡ separated mark inner.first inner.others = rejoined mark bytes inner.first inner.others inner.are in
    elim (eqb b mark) as (λ t. eqb b mark ≡ t → cond t ([] ∷ split mark bytes) (longer b (split mark bytes)) ≡ piece ∷ ps → b ∷ bytes ≡ separated mark piece ps) [
      | true ↦ λ same e.
          let empty : [] ≡ piece = first_is [] piece (split mark bytes) ps e in
          let rest : inner.first ∷ inner.others ≡ ps = sym inner.are ∙ others_are [] piece (split mark bytes) ps e in
          ap (λ n. n ∷ bytes) (eqb-true b mark same) ∙ ap (λ bs. mark ∷ bs) back ∙ ap (λ qs. separated mark [] qs) rest ∙ ap (λ p. separated mark p ps) empty
      | false ↦ λ _ e.
          let whole : (b ∷ inner.first) ∷ inner.others ≡ piece ∷ ps = ap (longer b) (sym inner.are) ∙ e in
          ap (λ bs. b ∷ bs) back ∙ separated-longer mark b inner.first inner.others
          ∙ ap (λ p. separated mark p inner.others) (first_is (b ∷ inner.first) piece inner.others ps whole)
          ∙ ap (separated mark piece) (others_are (b ∷ inner.first) piece inner.others ps whole)
    ] refl given
