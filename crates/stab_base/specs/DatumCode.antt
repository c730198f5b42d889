-- How proofs store a value: as a list of symbols, the parts of a pair before the symbol that joins them.
use Rattle.std.specs.Prelude.{◌≡◌, ℕ, ◌==◌, ℤ, pos, nat_abs, List, [], ◌∷◌, true, false, cond, refl}
use Rattle.std.specs.Coded.{Coded, code_by, coded×, coded_ℕ, coded_ℤ, coded_list}
use Rattle.std.proofs.Common.{◌∙◌, ap}
use Rattle.stab_base.specs.Datum.{Datum, unit, truth, int, text, chan, reference, pair}

abbrev pub Symbol : Type 0
Symbol = ℕ × ℤ

-- the symbols of a value, before further symbols
abbrev pub symbols_before : Datum → List Symbol → List Symbol
symbols_before unit rest = (0, pos 0) ∷ rest
symbols_before (truth false) rest = (1, pos 0) ∷ rest
symbols_before (truth true) rest = (2, pos 0) ∷ rest
symbols_before (int n) rest = (3, n) ∷ rest
symbols_before (text t) rest = (4, pos t) ∷ rest
symbols_before (chan c) rest = (5, pos c) ∷ rest
symbols_before (reference r) rest = (6, pos r) ∷ rest
symbols_before (pair a b) rest = symbols_before a (symbols_before b ((7, pos 0) ∷ rest))

-- the two values on top of the stack as one pair
abbrev pub joined : List Datum → List Datum
joined (b ∷ a ∷ stack) = pair a b ∷ stack
joined stack = stack

abbrev pub after_symbol : ℕ → ℤ → List Datum → List Datum
after_symbol kind n stack =
    cond (kind == 0) (unit ∷ stack) (cond (kind == 1) (truth false ∷ stack) (cond (kind == 2) (truth true ∷ stack) (cond (kind == 3) (int n ∷ stack)
    (cond (kind == 4) (text (nat_abs n) ∷ stack) (cond (kind == 5) (chan (nat_abs n) ∷ stack) (cond (kind == 6) (reference (nat_abs n) ∷ stack) (joined stack)))))))

-- the stack after a list of symbols
abbrev pub after_symbols : List Symbol → List Datum → List Datum
after_symbols [] stack = stack
after_symbols (s ∷ rest) stack = after_symbols rest (after_symbol s.0 s.1 stack)

abbrev pub top_of : List Datum → Datum
top_of [] = unit
top_of (d ∷ stack) = d

abbrev pub symbols_of : Datum → List Symbol
symbols_of d = symbols_before d []

abbrev pub datum_of_symbols : List Symbol → Datum
datum_of_symbols symbols = top_of (after_symbols symbols [])

pub after_symbols-symbols_before : (d : Datum) (rest : List Symbol) (stack : List Datum) → after_symbols (symbols_before d rest) stack ≡ after_symbols rest (d ∷ stack)
after_symbols-symbols_before unit rest stack = refl
after_symbols-symbols_before (truth false) rest stack = refl
after_symbols-symbols_before (truth true) rest stack = refl
after_symbols-symbols_before (int n) rest stack = refl
after_symbols-symbols_before (text t) rest stack = refl
after_symbols-symbols_before (chan c) rest stack = refl
after_symbols-symbols_before (reference r) rest stack = refl
after_symbols-symbols_before (pair a b) rest stack =
    after_symbols-symbols_before a (symbols_before b ((7, pos 0) ∷ rest)) stack
    ∙ after_symbols-symbols_before b ((7, pos 0) ∷ rest) (a ∷ stack)

pub datum_of_symbols-symbols_of : (d : Datum) → datum_of_symbols (symbols_of d) ≡ d
datum_of_symbols-symbols_of d = ap top_of (after_symbols-symbols_before d [] [])

-- proofs tell values apart by their symbols
abbrev pub coded_datum : Coded Datum
coded_datum = code_by (List Symbol) (coded_list (coded× coded_ℕ coded_ℤ)) symbols_of datum_of_symbols datum_of_symbols-symbols_of
