-- How proofs store a written type: as a list of symbols, the parts of a type before the symbol that joins them.
use Rattle.std.specs.Prelude.{◌≡◌, ℕ, ◌==◌, List, [], ◌∷◌, cond, refl}
use Rattle.std.specs.Coded.{Coded, code_by, coded_ℕ, coded_list}
use Rattle.std.proofs.Common.{◌∙◌, ap}
use Rattle.stab_code.specs.Written.{Written, unit_type, bool_type, int_type, text_type, chan_type, ref_type, pair_type}

-- the symbols of a type, before further symbols
abbrev pub symbols_before : Written → List ℕ → List ℕ
symbols_before unit_type rest = 0 ∷ rest
symbols_before bool_type rest = 1 ∷ rest
symbols_before int_type rest = 2 ∷ rest
symbols_before text_type rest = 3 ∷ rest
symbols_before (chan_type t) rest = symbols_before t (4 ∷ rest)
symbols_before (ref_type t) rest = symbols_before t (5 ∷ rest)
symbols_before (pair_type a b) rest = symbols_before a (symbols_before b (6 ∷ rest))

abbrev pub top_of : List Written → Written
top_of [] = unit_type
top_of (t ∷ stack) = t

-- the type on top of the stack inside another
abbrev pub wrapped : (Written → Written) → List Written → List Written
wrapped outer [] = []
wrapped outer (t ∷ stack) = outer t ∷ stack

-- the two types on top of the stack as one pair
abbrev pub joined : List Written → List Written
joined (b ∷ a ∷ stack) = pair_type a b ∷ stack
joined stack = stack

abbrev pub after_symbol : ℕ → List Written → List Written
after_symbol symbol stack =
    cond (symbol == 0) (unit_type ∷ stack) (cond (symbol == 1) (bool_type ∷ stack) (cond (symbol == 2) (int_type ∷ stack) (cond (symbol == 3) (text_type ∷ stack)
    (cond (symbol == 4) (wrapped chan_type stack) (cond (symbol == 5) (wrapped ref_type stack) (joined stack))))))

-- the stack after a list of symbols
abbrev pub after_symbols : List ℕ → List Written → List Written
after_symbols [] stack = stack
after_symbols (symbol ∷ rest) stack = after_symbols rest (after_symbol symbol stack)

abbrev pub symbols_of : Written → List ℕ
symbols_of t = symbols_before t []

abbrev pub written_of_symbols : List ℕ → Written
written_of_symbols symbols = top_of (after_symbols symbols [])

pub after_symbols-symbols_before : (t : Written) (rest : List ℕ) (stack : List Written) → after_symbols (symbols_before t rest) stack ≡ after_symbols rest (t ∷ stack)
after_symbols-symbols_before unit_type rest stack = refl
after_symbols-symbols_before bool_type rest stack = refl
after_symbols-symbols_before int_type rest stack = refl
after_symbols-symbols_before text_type rest stack = refl
after_symbols-symbols_before (chan_type t) rest stack = after_symbols-symbols_before t (4 ∷ rest) stack
after_symbols-symbols_before (ref_type t) rest stack = after_symbols-symbols_before t (5 ∷ rest) stack
after_symbols-symbols_before (pair_type a b) rest stack =
    after_symbols-symbols_before a (symbols_before b (6 ∷ rest)) stack ∙ after_symbols-symbols_before b (6 ∷ rest) (a ∷ stack)

pub written_of_symbols-symbols_of : (t : Written) → written_of_symbols (symbols_of t) ≡ t
written_of_symbols-symbols_of t = ap top_of (after_symbols-symbols_before t [] [])

-- proofs tell types apart by their symbols
abbrev pub coded_written : Coded Written
coded_written = code_by (List ℕ) (coded_list coded_ℕ) symbols_of written_of_symbols written_of_symbols-symbols_of
