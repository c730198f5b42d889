-- Reading a list of tokens, and what its end says.
use Rattle.std.proofs.Common.{◌≡◌, ℕ, ◌<◌, ◌≤◌, Bool, true, false, cond, List, [], ◌∷◌, ◌++◌, length, take, Option, Some, None, Ok, Err, refl, sym, ap, subst, ◌∙◌, append_assoc, inl, eqb, ltb}
use Rattle.std.specs.Prelude.{map, nat_lt, if◌then◌else◌, option_and_then, slice_get, Result}
use Rattle.std.specs.List.{AllByRecursion}
use Rattle.std.proofs.lemmas.Bool.{eqb-true, le-ltb, ltb-true, ltb-false}
use Rattle.std.proofs.lemmas.List.{map-append, length-map}
use Rattle.std.proofs.Math.Seq.{take-append_seam}
use Rattle.stab_lex.specs.declared.token.Token.{Token}
use Rattle.stab_parse.specs.declared.fault.ParseFault.{ParseFault}
use Rattle.stab_parse.specs.declared.fault.ParseFault.TheVariants.{Unexpected, TooNested}
use Rattle.stab_parse.specs.declared.symbol.Span.{Span}
use Rattle.stab_parse.specs.declared.symbol.Symbol.{Symbol}
use Rattle.stab_parse.specs.Faults.{max_open, IsWithin, IsPrefix, CanStand, IsBeyond, HasFault}
use Rattle.stab_parse.specs.Grammar.{Program, Piece, plain, opener, sign_of_piece, pieces_of, IsProgram}
use Rattle.stab_parse.specs.Symbols.{Sign, symbol_of, span_of, sign_of}
use Rattle.stab_parse.proofs.Completeness.{run_program}
use Rattle.stab_parse.proofs.Endings.{CanEnd, end_state}
use Rattle.stab_parse.proofs.Machine.{State, between, open_of, Move, fails, goes, opens, step, follow_plain, follow_opener, follow_by, run, start}
use Rattle.stab_parse.proofs.Soundness.{spell_state, keeps_goes, keeps_opens}

abbrev pub step_by : State → Token → Move
step_by st t = step st (symbol_of t.kind) (span_of t)

abbrev pub walk_on : Move → (State → Result State ParseFault) → ℕ → Result State ParseFault
walk_on fails next at = Err (Unexpected at)
walk_on (goes s) next at = next s
walk_on (opens s) next at = if nat_lt max_open (open_of s) then Err (TooNested at) else next s

-- the state behind the tokens, or the first fault among them
abbrev pub walk : State → List Token → Result State ParseFault
walk st [] = Ok st
walk st (t ∷ ts) = walk_on (step_by st t) (λ s. walk s ts) t.start

-- the same without a limit
abbrev pub moved : Move → Option State
moved fails = None
moved (goes s) = Some s
moved (opens s) = Some s

abbrev pub go : State → List Token → Option State
go st [] = Some st
go st (t ∷ ts) = option_and_then (λ s. go s ts) (moved (step_by st t))

-- ---- the run over pieces is the walk over their tokens

pub none_is_some : (s : State) → None ≡ Some s → ⊥
none_is_some s e = cc

same_state : (a b : State) → Some a ≡ Some b → a ≡ b
same_state a b e = cc

chained : (o : Option State) (f g r : State → Option State) → ((s : State) → f s ≡ option_and_then r (g s)) → option_and_then f o ≡ option_and_then r (option_and_then g o)
chained None f g r h = refl
chained (Some s) f g r h = h s

run-append : (xs ys : List Piece) (st : State) → run st (xs ++ ys) ≡ option_and_then (λ s. run s ys) (run st xs)
run-append [] ys st = refl
run-append (x ∷ xs) ys st = chained (follow_by (step st) x) (λ s. run s (xs ++ ys)) (λ s. run s xs) (λ s. run s ys) (λ s. run-append xs ys s)

pub go-append : (ts us : List Token) (st : State) → go st (ts ++ us) ≡ option_and_then (λ s. go s us) (go st ts)
go-append [] us st = refl
go-append (t ∷ ts) us st = chained (moved (step_by st t)) (λ s. go s (ts ++ us)) (λ s. go s ts) (λ s. go s us) (λ s. go-append ts us s)

pub begun : (o : Option State) (r : State → Option State) (end : State) → option_and_then r o ≡ Some end → (next : State) × (o ≡ Some next) × (r next ≡ Some end)
begun None r end e = absurd (none_is_some end e)
begun (Some next) r end e = (next, refl, e)

goes_from : (m : Move) (next : State) → follow_plain m ≡ Some next → m ≡ goes next
goes_from fails next e = absurd (none_is_some next e)
goes_from (goes s) next e = ap goes (same_state s next e)
goes_from (opens s) next e = absurd (none_is_some next e)

opener_case : (s next : State) (n : ℕ) (b : Bool) → eqb (open_of s) n ≡ b → cond b (Some s) None ≡ Some next → (opens s ≡ opens next) × (open_of next ≡ n)
opener_case s next n true e h = let same : s ≡ next = same_state s next h in (ap opens same, sym (ap open_of same) ∙ eqb-true (open_of s) n e)
opener_case s next n false e h = absurd (none_is_some next h)

pub opens_from : (n : ℕ) (m : Move) (next : State) → follow_opener n m ≡ Some next → (m ≡ opens next) × (open_of next ≡ n)
opens_from n fails next e = absurd (none_is_some next e)
opens_from n (goes s) next e = absurd (none_is_some next e)
opens_from n (opens s) next e = opener_case s next n (eqb (open_of s) n) refl e

-- a token that is written as a piece
record IsAt (t : Token) (k : Symbol) (p : Span) (ts : List Token) (xs : List Piece) : Type 0 where
  pub symbol : symbol_of t.kind ≡ k
  pub span : span_of t ≡ p
  pub others : map sign_of ts ≡ map sign_of_piece xs

is_at : (t : Token) (k : Symbol) (p : Span) (ts : List Token) (xs : List Piece) → sign_of t ∷ map sign_of ts ≡ (record { symbol = k; span = p }) ∷ map sign_of_piece xs → IsAt t k p ts xs
is_at t k p ts xs e =
    let here : Sign = record { symbol = k; span = p } in
    let first : sign_of t ≡ here = cc in
    let others : map sign_of ts ≡ map sign_of_piece xs = cc in
    record { symbol = ap (λ s. s.symbol) first; span = ap (λ s. s.span) first; others = others }

step_same : (st : State) (t : Token) (k : Symbol) (p : Span) → symbol_of t.kind ≡ k → span_of t ≡ p → step_by st t ≡ step st k p
step_same st t k p e h = ap (λ s. step st s (span_of t)) e ∙ ap (λ q. step st k q) h

walk_opens : (m : Move) (next : State) (r : State → Result State ParseFault) (at : ℕ) → m ≡ opens next → open_of next ≤ max_open → walk_on m r at ≡ r next
walk_opens m next r at e h = ap (λ x. walk_on x r at) e ∙ ap (λ b. cond b (Err (TooNested at)) (r next)) (le-ltb max_open (open_of next) h)

pub walk_pieces : (ts : List Token) (xs : List Piece) (st end : State) → map sign_of ts ≡ map sign_of_piece xs → AllByRecursion IsWithin xs → run st xs ≡ Some end → walk st ts ≡ Ok end
walk_pieces [] [] st end e w r = ap Ok (same_state st end r)
walk_pieces [] (x ∷ xs) st end e w r = absurd cc
walk_pieces (t ∷ ts) [] st end e w r = absurd cc
walk_pieces (t ∷ ts) (plain k p ∷ xs) st end e w r =
    let b = begun (follow_plain (step st k p)) (λ s. run s xs) end r in
    let h : IsAt t k p ts xs = is_at t k p ts xs e in
    ap (λ m. walk_on m (λ s. walk s ts) t.start) (step_same st t k p h.symbol h.span ∙ goes_from (step st k p) b.0 b.1)
    ∙ walk_pieces ts xs b.0 end h.others w.1 b.2
walk_pieces (t ∷ ts) (opener n k p ∷ xs) st end e w r =
    let b = begun (follow_opener n (step st k p)) (λ s. run s xs) end r in
    let h : IsAt t k p ts xs = is_at t k p ts xs e in
    let o = opens_from n (step st k p) b.0 b.1 in
    let low : open_of b.0 ≤ max_open = let P : ℕ → Type 0 = λ x. x ≤ max_open in subst P (sym o.1) w.0 in
    walk_opens (step_by st t) b.0 (λ s. walk s ts) t.start (step_same st t k p h.symbol h.span ∙ o.0) low
    ∙ walk_pieces ts xs b.0 end h.others w.1 b.2

pub go_pieces : (ts : List Token) (xs : List Piece) (st end : State) → map sign_of ts ≡ map sign_of_piece xs → run st xs ≡ Some end → go st ts ≡ Some end
go_pieces [] [] st end e r = r
go_pieces [] (x ∷ xs) st end e r = absurd cc
go_pieces (t ∷ ts) [] st end e r = absurd cc
go_pieces (t ∷ ts) (plain k p ∷ xs) st end e r =
    let b = begun (follow_plain (step st k p)) (λ s. run s xs) end r in
    let h : IsAt t k p ts xs = is_at t k p ts xs e in
    ap (λ m. option_and_then (λ s. go s ts) (moved m)) (step_same st t k p h.symbol h.span ∙ goes_from (step st k p) b.0 b.1)
    ∙ go_pieces ts xs b.0 end h.others b.2
go_pieces (t ∷ ts) (opener n k p ∷ xs) st end e r =
    let b = begun (follow_opener n (step st k p)) (λ s. run s xs) end r in
    let h : IsAt t k p ts xs = is_at t k p ts xs e in
    ap (λ m. option_and_then (λ s. go s ts) (moved m)) (step_same st t k p h.symbol h.span ∙ (opens_from n (step st k p) b.0 b.1).0)
    ∙ go_pieces ts xs b.0 end h.others b.2

-- ---- what a program's pieces say of its tokens

pub go_program : (ts : List Token) (p : Program) → IsProgram ts p → go start ts ≡ Some (between p)
go_program ts p e = go_pieces ts (pieces_of p) start (between p) e (run_program p [])

between_same : (p q : Program) → Some (between p) ≡ Some (between q) → p ≡ q
between_same p q e = cc

pub one_program : (ts : List Token) (p q : Program) → IsProgram ts p → IsProgram ts q → p ≡ q
one_program ts p q e h = between_same p q (sym (go_program ts p e) ∙ go_program ts q h)

-- the pieces of the tokens before, and those of the tokens behind
pub record Split (ts us : List Token) (xs : List Piece) : Type 0 where
  pub left : List Piece
  pub right : List Piece
  pub whole : xs ≡ left ++ right
  pub left_signs : map sign_of ts ≡ map sign_of_piece left
  pub right_signs : map sign_of us ≡ map sign_of_piece right
  pub left_is : take (length ts) xs ≡ left

split : (ts us : List Token) (xs : List Piece) → map sign_of (ts ++ us) ≡ map sign_of_piece xs → Split ts us xs
split [] us xs e = record { left = []; right = xs; whole = refl; left_signs = refl; right_signs = e; left_is = refl }
split (t ∷ ts) us [] e = absurd cc
split (t ∷ ts) us (x ∷ xs) e =
    let first : sign_of t ≡ sign_of_piece x = cc in
    let others : map sign_of (ts ++ us) ≡ map sign_of_piece xs = cc in
    let w : Split ts us xs = split ts us xs others in
    record {
      left = x ∷ w.left;
      right = w.right;
      whole = ap (λ l. x ∷ l) w.whole;
      left_signs = ap (λ s. s ∷ map sign_of ts) first ∙ ap (λ l. sign_of_piece x ∷ l) w.left_signs;
      right_signs = w.right_signs;
      left_is = ap (λ l. x ∷ l) w.left_is;
    }

-- the state between them
pub record Halfway (ts us : List Token) (p : Program) : Type 0 where
  pub parts : Split ts us (pieces_of p)
  pub state : State
  pub before : run start parts.left ≡ Some state
  pub behind : run state parts.right ≡ Some (between p)

pub halfway : (ts us : List Token) (p : Program) → IsProgram (ts ++ us) p → Halfway ts us p
halfway ts us p e =
    let w : Split ts us (pieces_of p) = split ts us (pieces_of p) e in
    let whole : run start (w.left ++ w.right) ≡ Some (between p) = sym (ap (run start) w.whole) ∙ run_program p [] in
    let b = begun (run start w.left) (λ s. run s w.right) (between p) (sym (run-append w.left w.right start) ∙ whole) in
    record { parts = w; state = b.0; before = b.1; behind = b.2 }

-- what can stand is walked through
pub walk_standing : (ts : List Token) → CanStand ts → (st : State) × (walk start ts ≡ Ok st)
walk_standing ts c =
    let h : Halfway ts c.rest c.program = halfway ts c.rest c.program c.written in
    let P : List Piece → Type 0 = AllByRecursion IsWithin in
    (h.state, walk_pieces ts h.parts.left start h.state h.parts.left_signs (subst P h.parts.left_is c.within) h.before)

-- ---- what a walk says

-- the pieces that were walked through
pub record Walked (ts : List Token) (st end : State) : Type 0 where
  pub pieces : List Piece
  pub signs : map sign_of ts ≡ map sign_of_piece pieces
  pub spelled : (rest : List Piece) → spell_state st (pieces ++ rest) ≡ spell_state end rest
  pub within : AllByRecursion IsWithin pieces

abbrev pub okay : State → Result State ParseFault
okay s = Ok s

pub ok_same : (a b : State) → okay a ≡ okay b → a ≡ b
ok_same a b e = cc

err_is_ok : (f : ParseFault) (s : State) → Err f ≡ Ok s → ⊥
err_is_ok f s e = cc

-- one step of a walk that ends well
data Stepped (m : Move) (r : State → Result State ParseFault) (end : State) : Type 0 where
  went : (next : State) → m ≡ goes next → r next ≡ Ok end → Stepped m r end
  opened_more : (next : State) → m ≡ opens next → open_of next ≤ max_open → r next ≡ Ok end → Stepped m r end

opens_case : (next : State) (r : State → Result State ParseFault) (at : ℕ) (end : State) (b : Bool) → ltb max_open (open_of next) ≡ b → cond b (Err (TooNested at)) (r next) ≡ Ok end → Stepped (opens next) r end
opens_case next r at end true e h = absurd (err_is_ok (TooNested at) end h)
opens_case next r at end false e h = opened_more next refl (ltb-false max_open (open_of next) e) h

stepped : (m : Move) (r : State → Result State ParseFault) (at : ℕ) (end : State) → walk_on m r at ≡ Ok end → Stepped m r end
stepped fails r at end e = absurd (err_is_ok (Unexpected at) end e)
stepped (goes s) r at end e = went s refl e
stepped (opens s) r at end e = opens_case s r at end (ltb max_open (open_of s)) refl e

walked_goes : (t : Token) (ts : List Token) (st next end : State) → step_by st t ≡ goes next → Walked ts next end → Walked (t ∷ ts) st end
walked_goes t ts st next end e w = record {
  pieces = plain (symbol_of t.kind) (span_of t) ∷ w.pieces;
  signs = ap (λ l. sign_of t ∷ l) w.signs;
  spelled = λ rest. keeps_goes st next (symbol_of t.kind) (span_of t) (w.pieces ++ rest) e ∙ w.spelled rest;
  within = (tt, w.within);
}

walked_opens : (t : Token) (ts : List Token) (st next end : State) → step_by st t ≡ opens next → open_of next ≤ max_open → Walked ts next end → Walked (t ∷ ts) st end
walked_opens t ts st next end e low w = record {
  pieces = opener (open_of next) (symbol_of t.kind) (span_of t) ∷ w.pieces;
  signs = ap (λ l. sign_of t ∷ l) w.signs;
  spelled = λ rest. keeps_opens st next (symbol_of t.kind) (span_of t) (w.pieces ++ rest) e ∙ w.spelled rest;
  within = (low, w.within);
}

pub walked : (ts : List Token) (st end : State) → walk st ts ≡ Ok end → Walked ts st end
walked [] st end e = record { pieces = []; signs = refl; spelled = λ rest. ap (λ s. spell_state s rest) (ok_same st end e); within = tt }
walked (t ∷ ts) st end e =
    elim (stepped (step_by st t) (λ s. walk s ts) t.start end e) [
      | went next m h ↦ walked_goes t ts st next end m (walked ts next end h)
      | opened_more next m low h ↦ walked_opens t ts st next end m low (walked ts next end h)
    ]

pub go_walk : (ts : List Token) (st end : State) → walk st ts ≡ Ok end → go st ts ≡ Some end
go_walk [] st end e = ap Some (ok_same st end e)
go_walk (t ∷ ts) st end e =
    elim (stepped (step_by st t) (λ s. walk s ts) t.start end e) [
      | went next m h ↦ ap (λ x. option_and_then (λ s. go s ts) (moved x)) m ∙ go_walk ts next end h
      | opened_more next m low h ↦ ap (λ x. option_and_then (λ s. go s ts) (moved x)) m ∙ go_walk ts next end h
    ]

pub walk-append : (ts us : List Token) (st mid : State) → walk st ts ≡ okay mid → walk st (ts ++ us) ≡ walk mid us
walk-append [] us st mid e = ap (λ s. walk s us) (ok_same st mid e)
walk-append (t ∷ ts) us st mid e =
    elim (stepped (step_by st t) (λ s. walk s ts) t.start mid e) [
      | went next m h ↦ ap (λ x. walk_on x (λ s. walk s (ts ++ us)) t.start) m ∙ walk-append ts us next mid h
      | opened_more next m low h ↦ walk_opens (step_by st t) next (λ s. walk s (ts ++ us)) t.start m low ∙ walk-append ts us next mid h
    ]

-- one piece more can be completed
pub one_more : (before : List Token) (t : Token) (st next : State) (piece : Piece) → walk start before ≡ okay st → sign_of t ≡ sign_of_piece piece → ((rest : List Piece) → spell_state st (piece ∷ rest) ≡ spell_state next rest) → IsPrefix (before ++ t ∷ [])
one_more before t st next piece e sign spelled =
    let w : Walked before start st = walked before start st e in
    let more : CanEnd (spell_state next) = end_state next in
    let whole : w.pieces ++ piece ∷ more.rest ≡ pieces_of more.program = w.spelled (piece ∷ more.rest) ∙ spelled more.rest ∙ more.whole in
    let there : map sign_of (before ++ t ∷ more.tokens) ≡ map sign_of_piece (w.pieces ++ piece ∷ more.rest) =
    map-append sign_of before (t ∷ more.tokens) ∙ ap (λ l. l ++ sign_of t ∷ map sign_of more.tokens) w.signs
    ∙ ap (λ s. map sign_of_piece w.pieces ++ s ∷ map sign_of more.tokens) sign
    ∙ ap (λ l. map sign_of_piece w.pieces ++ sign_of_piece piece ∷ l) more.written
    ∙ sym (map-append sign_of_piece w.pieces (piece ∷ more.rest)) in
    (more.tokens, more.program, ap (map sign_of) (append_assoc before (t ∷ []) more.tokens) ∙ there ∙ ap (map sign_of_piece) whole)

-- what was walked through can stand
pub standing : (ts : List Token) (st : State) → walk start ts ≡ Ok st → CanStand ts
standing ts st e =
    let w : Walked ts start st = walked ts start st e in
    let more : CanEnd (spell_state st) = end_state st in
    let whole : w.pieces ++ more.rest ≡ pieces_of more.program = w.spelled more.rest ∙ more.whole in
    let len : length ts ≡ length w.pieces = sym (length-map ts sign_of) ∙ ap length w.signs ∙ length-map w.pieces sign_of_piece in
    let taken : take (length ts) (pieces_of more.program) ≡ w.pieces = sym (ap (take (length ts)) whole) ∙ ap (λ n. take n (w.pieces ++ more.rest)) len ∙ take-append_seam w.pieces more.rest in
    let P : List Piece → Type 0 = AllByRecursion IsWithin in
    record {
      rest = more.tokens;
      program = more.program;
      written =
          map-append sign_of ts more.tokens ∙ ap (λ l. l ++ map sign_of more.tokens) w.signs ∙ ap (λ l. map sign_of_piece w.pieces ++ l) more.written
          ∙ sym (map-append sign_of_piece w.pieces more.rest) ∙ ap (map sign_of_piece) whole;
      within = subst P (sym taken) w.within;
    }

-- the first token at which a walk fails
pub data Blocks (m : Move) (at : ℕ) (fault : ParseFault) : Type 0 where
  no_step : m ≡ fails → fault ≡ Unexpected at → Blocks m at fault
  too_far : (next : State) → m ≡ opens next → max_open < open_of next → fault ≡ TooNested at → Blocks m at fault

pub record IsBlocked (ts : List Token) (st : State) (fault : ParseFault) : Type 0 where
  pub before : List Token
  pub token : Token
  pub after : List Token
  pub state : State
  pub tokens_are : ts ≡ before ++ token ∷ after
  pub walked : walk st before ≡ Ok state
  pub blocks : Blocks (step_by state token) token.start fault

abbrev pub failed : ParseFault → Result State ParseFault
failed f = Err f

ok_is_err : (s : State) (f : ParseFault) → Ok s ≡ failed f → ⊥
ok_is_err s f e = cc

err_same : (f g : ParseFault) → failed f ≡ failed g → f ≡ g
err_same f g e = cc

-- a walk fails at its first step, or behind it
data Fails (m : Move) (r : State → Result State ParseFault) (at : ℕ) (fault : ParseFault) : Type 0 where
  here : Blocks m at fault → Fails m r at fault
  behind_plain : (next : State) → m ≡ goes next → r next ≡ failed fault → Fails m r at fault
  behind_opener : (next : State) → m ≡ opens next → open_of next ≤ max_open → r next ≡ failed fault → Fails m r at fault

fails_case : (next : State) (r : State → Result State ParseFault) (at : ℕ) (fault : ParseFault) (b : Bool) → ltb max_open (open_of next) ≡ b → cond b (failed (TooNested at)) (r next) ≡ failed fault → Fails (opens next) r at fault
fails_case next r at fault true e h = here (too_far next refl (ltb-true max_open (open_of next) e) (err_same fault (TooNested at) (sym h)))
fails_case next r at fault false e h = behind_opener next refl (ltb-false max_open (open_of next) e) h

fails_at : (m : Move) (r : State → Result State ParseFault) (at : ℕ) (fault : ParseFault) → walk_on m r at ≡ failed fault → Fails m r at fault
fails_at fails r at fault e = here (no_step refl (err_same fault (Unexpected at) (sym e)))
fails_at (goes s) r at fault e = behind_plain s refl e
fails_at (opens s) r at fault e = fails_case s r at fault (ltb max_open (open_of s)) refl e

blocked_behind : (t : Token) (ts : List Token) (st next : State) (fault : ParseFault) → IsBlocked ts next fault → walk st (t ∷ []) ≡ okay next → ((us : List Token) → walk st (t ∷ us) ≡ walk next us) → IsBlocked (t ∷ ts) st fault
blocked_behind t ts st next fault w e h = record {
  before = t ∷ w.before;
  token = w.token;
  after = w.after;
  state = w.state;
  tokens_are = ap (λ l. t ∷ l) w.tokens_are;
  walked = h w.before ∙ w.walked;
  blocks = w.blocks;
}

pub blocked : (ts : List Token) (st : State) (fault : ParseFault) → walk st ts ≡ failed fault → IsBlocked ts st fault
blocked [] st fault e = absurd (ok_is_err st fault e)
blocked (t ∷ ts) st fault e =
    elim (fails_at (step_by st t) (λ s. walk s ts) t.start fault e) [
      | here b ↦ record { before = []; token = t; after = ts; state = st; tokens_are = refl; walked = refl; blocks = b }
      | behind_plain next m h ↦
          blocked_behind t ts st next fault (blocked ts next fault h) (ap (λ x. walk_on x (λ s. okay s) t.start) m) (λ us. ap (λ x. walk_on x (λ s. walk s us) t.start) m)
      | behind_opener next m low h ↦
          blocked_behind t ts st next fault (blocked ts next fault h) (walk_opens (step_by st t) next (λ s. okay s) t.start m low) (λ us. walk_opens (step_by st t) next (λ s. walk s us) t.start m low)
    ]

stuck : (st : State) (t : Token) (us : List Token) → step_by st t ≡ fails → go st (t ∷ us) ≡ None
stuck st t us e = ap (λ m. option_and_then (λ s. go s us) (moved m)) e

-- a token at which the walk has no step is unexpected
unexpected_here : (before : List Token) (t : Token) (st : State) → walk start before ≡ okay st → step_by st t ≡ fails → IsPrefix (before ++ t ∷ []) → ⊥
unexpected_here before t st e m c =
    let w = go_program ((before ++ t ∷ []) ++ c.0) c.1 c.2 in
    let whole : go start (before ++ (t ∷ c.0)) ≡ Some (between c.1) = ap (go start) (sym (append_assoc before (t ∷ []) c.0)) ∙ w in
    let none : go start (before ++ (t ∷ c.0)) ≡ None =
    go-append before (t ∷ c.0) start ∙ ap (λ o. option_and_then (λ s. go s (t ∷ c.0)) o) (go_walk before start st e) ∙ stuck st t c.0 m in
    none_is_some (between c.1) (sym none ∙ whole)

slice_get_seam : (xs ys : List Piece) (x : Piece) → slice_get (xs ++ x ∷ ys) (length xs) ≡ Some x
slice_get_seam [] ys x = refl
slice_get_seam (y ∷ xs) ys x = slice_get_seam xs ys x

-- a token that opens too much stands there
beyond_here : (before : List Token) (t : Token) (st next : State) → walk start before ≡ okay st → step_by st t ≡ opens next → max_open < open_of next → IsBeyond before t
beyond_here before t st next e m far =
    let w : Walked before start st = walked before start st e in
    let more : CanEnd (spell_state next) = end_state next in
    let piece : Piece = opener (open_of next) (symbol_of t.kind) (span_of t) in
    let whole : w.pieces ++ piece ∷ more.rest ≡ pieces_of more.program =
    w.spelled (piece ∷ more.rest) ∙ keeps_opens st next (symbol_of t.kind) (span_of t) more.rest m ∙ more.whole in
    let len : length before ≡ length w.pieces = sym (length-map before sign_of) ∙ ap length w.signs ∙ length-map w.pieces sign_of_piece in
    record {
      rest = more.tokens;
      program = more.program;
      written =
          map-append sign_of before (t ∷ more.tokens) ∙ ap (λ l. l ++ sign_of t ∷ map sign_of more.tokens) w.signs
          ∙ ap (λ l. map sign_of_piece w.pieces ++ sign_of t ∷ l) more.written
          ∙ sym (map-append sign_of_piece w.pieces (piece ∷ more.rest)) ∙ ap (map sign_of_piece) whole;
      open_with_it = open_of next;
      beyond = far;
      opens = sym (ap (λ l. slice_get l (length before)) whole) ∙ ap (slice_get (w.pieces ++ piece ∷ more.rest)) len ∙ slice_get_seam w.pieces more.rest piece;
    }

fault_here : (ts : List Token) (fault : ParseFault) (b : IsBlocked ts start fault) → HasFault ts fault
fault_here ts fault b =
    elim b.blocks [
      | no_step m e ↦
          let P : ParseFault → Type 0 = HasFault ts in
          subst P (sym e) (record { before = b.before; token = b.token; after = b.after; tokens_are = b.tokens_are; stand = standing b.before b.state b.walked; not_here = unexpected_here b.before b.token b.state b.walked m; at_is = refl })
      | too_far next m far e ↦
          let P : ParseFault → Type 0 = HasFault ts in
          subst P (sym e) (inl (record { before = b.before; token = b.token; after = b.after; tokens_are = b.tokens_are; stand = standing b.before b.state b.walked; beyond = beyond_here b.before b.token b.state next b.walked m far; at_is = refl }))
    ]

-- a walk that fails meets a fault of the tokens
pub fault_of_walk : (ts : List Token) (fault : ParseFault) → walk start ts ≡ failed fault → HasFault ts fault
fault_of_walk ts fault e = fault_here ts fault (blocked ts start fault e)
