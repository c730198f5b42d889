-- The one answer that a list of tokens has.
use Rattle.std.proofs.Common.{◌≡◌, ℕ, ◌<◌, cond, List, [], ◌∷◌, ◌++◌, Option, Some, None, Ok, Err, refl, sym, ap, subst, ◌∙◌, inl, inr, ◌⊎◌}
use Rattle.std.specs.Prelude.{map, Result, slice_get, length, min}
use Rattle.std.specs.List.{AllByRecursion}
use Rattle.std.specs.Option.{option_map_or}
use Rattle.std.proofs.lemmas.Bool.{lt-ltb}
use Rattle.std.proofs.lemmas.List.{append-nil, length-map}
use Rattle.stab_lex.specs.declared.token.Token.{Token}
use Rattle.stab_parse.specs.declared.fault.ParseFault.{ParseFault}
use Rattle.stab_parse.specs.declared.fault.ParseFault.TheVariants.{Unexpected, EarlyEnd, TooNested, NoMemory}
use Rattle.stab_parse.specs.Faults.{max_open, IsWithin, IsPrefix, IsBeyond, IsUnexpected, IsOpenTooFar, EndsEarly, IsOpenWithin, IsTooDeep, IsParsed, HasFault}
use Rattle.stab_parse.specs.FormList.{least_of, deep_in_program}
use Rattle.stab_parse.specs.Grammar.{Program, Piece, plain, opener, sign_of_piece, pieces_of, IsProgram}
use Rattle.stab_parse.specs.Symbols.{symbol_of, span_of, sign_of}
use Rattle.stab_parse.proofs.Completeness.{run_program}
use Rattle.stab_parse.proofs.Machine.{State, between, open_of, Move, fails, goes, opens, follow_opener, run, start}
use Rattle.stab_parse.proofs.Soundness.{keeps_goes, keeps_opens}
use Rattle.stab_parse.proofs.Reading.{step_by, walk, walk_on, okay, failed, Walked, walked, walk_pieces, walk_standing, go_program, go_walk, standing, fault_of_walk, walk-append, one_more, halfway, Halfway, begun, opens_from, go_pieces}

abbrev parsed : Program → Result Program ParseFault
parsed p = Ok p

abbrev refused : ParseFault → Result Program ParseFault
refused f = Err f

abbrev pub depth_answer : Program → Option ℕ → Result Program ParseFault
depth_answer p None = Ok p
depth_answer p (Some at) = Err (TooNested at)

abbrev pub at_end : State → Result Program ParseFault
at_end (between p) = depth_answer p (least_of (deep_in_program p))
at_end _ = Err EarlyEnd

abbrev pub answer_of : Result State ParseFault → Result Program ParseFault
answer_of (Ok st) = at_end st
answer_of (Err f) = Err f

abbrev pub answer : List Token → Result Program ParseFault
answer ts = answer_of (walk start ts)

some_same : (a b : State) → Some a ≡ Some b → a ≡ b
some_same a b e = cc

-- ---- a program that is within the limit is walked through

pub walk_program : (ts : List Token) (p : Program) → IsOpenWithin ts p → walk start ts ≡ okay (between p)
walk_program ts p h = walk_pieces ts (pieces_of p) start (between p) h.written h.within (run_program p [])

pub program_walked : (ts : List Token) (p : Program) → walk start ts ≡ okay (between p) → IsOpenWithin ts p
program_walked ts p e =
    let w : Walked ts start (between p) = walked ts start (between p) e in
    let whole : w.pieces ≡ pieces_of p = sym (append-nil w.pieces) ∙ w.spelled [] in
    let P : List Piece → Type 0 = AllByRecursion IsWithin in
    record { written = w.signs ∙ ap (map sign_of_piece) whole; within = subst P whole w.within }

-- the end of the tokens isn't the end of a program
abbrev IsInside : State → Type 0
IsInside (between p) = ⊥
IsInside _ = Unit {0}

pub ends_early : (ts : List Token) (st : State) → walk start ts ≡ okay st → IsInside st → EndsEarly ts
ends_early ts st e h = record {
  stand = standing ts st e;
  no_program = λ w.
      let same : st ≡ between w.0 = some_same st (between w.0) (sym (go_walk ts start st e) ∙ go_program ts w.0 w.1) in
      let P : State → Type 0 = IsInside in
      subst P same h;
}

-- ---- each fault, and each program, is the answer

-- where no completion goes on, there is no step
no_step : (before after : List Token) (t : Token) (st : State) (m : Move) → step_by st t ≡ m → walk start before ≡ okay st → ¬ (IsPrefix (before ++ t ∷ [])) → answer_of (walk_on m (λ s. walk s after) t.start) ≡ refused (Unexpected t.start)
no_step before after t st fails e w h = refl
no_step before after t st (goes next) e w h =
    absurd (h (one_more before t st next (plain (symbol_of t.kind) (span_of t)) w refl (λ rest. keeps_goes st next (symbol_of t.kind) (span_of t) rest e)))
no_step before after t st (opens next) e w h =
    absurd (h (one_more before t st next (opener (open_of next) (symbol_of t.kind) (span_of t)) w refl (λ rest. keeps_opens st next (symbol_of t.kind) (span_of t) rest e)))

answer_unexpected : (ts : List Token) (at : ℕ) → IsUnexpected ts at → answer ts ≡ refused (Unexpected at)
answer_unexpected ts at h =
    let w = walk_standing h.before h.stand in
    ap answer h.tokens_are ∙ ap answer_of (walk-append h.before (h.token ∷ h.after) start w.0 w.1)
    ∙ no_step h.before h.after h.token w.0 (step_by w.0 h.token) refl w.1 h.not_here
    ∙ ap (λ x. refused (Unexpected x)) (sym h.at_is)

slice_get_seam : (xs ys : List Piece) → slice_get (xs ++ ys) (length xs) ≡ slice_get ys 0
slice_get_seam [] ys = refl
slice_get_seam (x ∷ xs) ys = slice_get_seam xs ys

some_piece : (x y : Piece) → Some x ≡ Some y → x ≡ y
some_piece x y e = cc

-- the step that takes an opener
opener_step : (st end : State) (t : Token) (ts : List Token) (n : ℕ) (xs : List Piece) → slice_get xs 0 ≡ Some (opener n (symbol_of t.kind) (span_of t)) → run st xs ≡ Some end → (next : State) × (step_by st t ≡ opens next) × (open_of next ≡ n)
opener_step st end t ts n [] e r = absurd cc
opener_step st end t ts n (x ∷ xs) e r =
    let here : Piece = opener n (symbol_of t.kind) (span_of t) in
    let first : x ≡ here = some_piece x here e in
    let r2 : run st (here ∷ xs) ≡ Some end = sym (ap (λ y. run st (y ∷ xs)) first) ∙ r in
    let b = begun (follow_opener n (step_by st t)) (λ s. run s xs) end r2 in
    let o = opens_from n (step_by st t) b.0 b.1 in
    (b.0, o.0, o.1)

walk_too_far : (m : Move) (next : State) (r : State → Result State ParseFault) (at : ℕ) → m ≡ opens next → max_open < open_of next → walk_on m r at ≡ failed (TooNested at)
walk_too_far m next r at e h = ap (λ x. walk_on x r at) e ∙ ap (λ b. cond b (failed (TooNested at)) (r next)) (lt-ltb max_open (open_of next) h)

beyond_step : (before : List Token) (t : Token) (st : State) → walk start before ≡ okay st → IsBeyond before t → (next : State) × (step_by st t ≡ opens next) × (max_open < open_of next)
beyond_step before t st e b =
    let h : Halfway before (t ∷ b.rest) b.program = halfway before (t ∷ b.rest) b.program b.written in
    let len : length before ≡ length h.parts.left = sym (length-map before sign_of) ∙ ap length h.parts.left_signs ∙ length-map h.parts.left sign_of_piece in
    let head : slice_get h.parts.right 0 ≡ Some (opener b.open_with_it (symbol_of t.kind) (span_of t)) =
    sym (slice_get_seam h.parts.left h.parts.right) ∙ sym (ap (slice_get (h.parts.left ++ h.parts.right)) len) ∙ sym (ap (λ l. slice_get l (length before)) h.parts.whole) ∙ b.opens in
    let o = opener_step h.state (between b.program) t b.rest b.open_with_it h.parts.right head h.behind in
    let same : h.state ≡ st = some_same h.state st (sym (go_pieces before h.parts.left start h.state h.parts.left_signs h.before) ∙ go_walk before start st e) in
    let P : ℕ → Type 0 = λ n. max_open < n in
    (o.0, sym (ap (λ s. step_by s t) same) ∙ o.1, subst P (sym o.2) b.beyond)

answer_too_far : (ts : List Token) (at : ℕ) → IsOpenTooFar ts at → answer ts ≡ refused (TooNested at)
answer_too_far ts at h =
    let w = walk_standing h.before h.stand in
    let o = beyond_step h.before h.token w.0 w.1 h.beyond in
    ap answer h.tokens_are ∙ ap answer_of (walk-append h.before (h.token ∷ h.after) start w.0 w.1)
    ∙ ap answer_of (walk_too_far (step_by w.0 h.token) o.0 (λ s. walk s h.after) h.token.start o.1 o.2)
    ∙ ap (λ x. refused (TooNested x)) (sym h.at_is)

-- an end that isn't between two functions is early
early_end : (ts : List Token) (st : State) → walk start ts ≡ okay st → ¬ ((p : Program) × IsProgram ts p) → at_end st ≡ refused EarlyEnd
early_end ts (between p) e h = absurd (h (p, (program_walked ts p e).written))
early_end ts _ e h = refl

answer_early : (ts : List Token) → EndsEarly ts → answer ts ≡ refused EarlyEnd
answer_early ts h = let w = walk_standing ts h.stand in ap answer_of w.1 ∙ early_end ts w.0 w.1 h.no_program

answer_deep : (ts : List Token) (at : ℕ) → IsTooDeep ts at → answer ts ≡ refused (TooNested at)
answer_deep ts at h = ap answer_of (walk_program ts h.program h.is_program) ∙ ap (depth_answer h.program) h.least

pub answer_program : (ts : List Token) (p : Program) → IsParsed ts p → answer ts ≡ parsed p
answer_program ts p h = ap answer_of (walk_program ts p h.is_program) ∙ ap (λ l. depth_answer p (least_of l)) h.no_deep

pub answer_fault : (ts : List Token) (fault : ParseFault) → HasFault ts fault → answer ts ≡ refused fault
answer_fault ts (Unexpected at) h = answer_unexpected ts at h
answer_fault ts EarlyEnd h = answer_early ts h
answer_fault ts (TooNested at) h = elim h [ inl far ↦ answer_too_far ts at far | inr deep ↦ answer_deep ts at deep ]
answer_fault ts NoMemory h = absurd h

-- ---- the laws

refused_same : (f g : ParseFault) → refused f ≡ refused g → f ≡ g
refused_same f g e = cc

parsed_is_refused : (p : Program) (f : ParseFault) → parsed p ≡ refused f → ⊥
parsed_is_refused p f e = cc

pub one_fault : (ts : List Token) (f g : ParseFault) → HasFault ts f → HasFault ts g → f ≡ g
one_fault ts f g a b = refused_same f g (sym (answer_fault ts f a) ∙ answer_fault ts g b)

pub not_both : (ts : List Token) (p : Program) (f : ParseFault) → IsParsed ts p → HasFault ts f → ⊥
not_both ts p f a b = parsed_is_refused p f (sym (answer_program ts p a) ∙ answer_fault ts f b)

pub deep_or_not : (ts : List Token) (p : Program) (ns : List ℕ) → IsOpenWithin ts p → deep_in_program p ≡ ns → IsParsed ts p ⊎ ((at : ℕ) × IsTooDeep ts at)
deep_or_not ts p [] h e = inl (record { is_program = h; no_deep = e })
deep_or_not ts p (n ∷ ns) h e = inr (option_map_or (min n) (least_of ns) n, record { program = p; is_program = h; least = ap least_of e })

end_or_fault : (ts : List Token) (st : State) → walk start ts ≡ okay st → ((p : Program) × IsParsed ts p) ⊎ ((f : ParseFault) × HasFault ts f)
end_or_fault ts (between p) e =
    elim (deep_or_not ts p (deep_in_program p) (program_walked ts p e) refl) [
      | inl h ↦ inl (p, h)
      | inr h ↦ inr (TooNested h.0, inr h.1)
    ]
end_or_fault ts st e = inr (EarlyEnd, ends_early ts st e tt)

result_or_fault : (ts : List Token) (r : Result State ParseFault) → walk start ts ≡ r → ((p : Program) × IsParsed ts p) ⊎ ((f : ParseFault) × HasFault ts f)
result_or_fault ts (Ok st) e = end_or_fault ts st e
result_or_fault ts (Err f) e = inr (f, fault_of_walk ts f e)

pub program_or_fault : (ts : List Token) → ((p : Program) × IsParsed ts p) ⊎ ((f : ParseFault) × HasFault ts f)
program_or_fault ts = result_or_fault ts (walk start ts) refl
