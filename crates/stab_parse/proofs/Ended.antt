-- What a parser has when the tokens are over.
use Rattle.std.proofs.Common.{◌≡◌, ℕ, ◌+◌, ◌<◌, ◌≤◌, arith, suc, length, get_or, take, drop, drop-cons, add-one, List, [], ◌∷◌, ◌++◌, Some, None, Ok, Err, Bool, true, false, cond, refl, sym, ap, subst, ◌∙◌, ◌⊎◌, inl, inr}
use Rattle.std.proofs.Math.Seq.{take-suc, take-length}
use Rattle.std.proofs.lemmas.List.{take-append-drop}
use Rattle.std.specs.Prelude.{IfErr, IfOk, Result, reverse, nat_lt}
use Rattle.stab_lex.specs.declared.token.Token.{Token}
use Rattle.stab_parse.specs.declared.fault.ParseFault.{ParseFault}
use Rattle.stab_parse.specs.declared.fault.ParseFault.TheVariants.{EarlyEnd, TooNested, NoMemory, Unexpected}
use Rattle.stab_parse.specs.declared.frame.Phase.{Phase}
use Rattle.stab_parse.specs.declared.frame.Phase.TheVariants as phase
use Rattle.stab_parse.specs.declared.reader.Reader.{Reader}
use Rattle.stab_parse.specs.Faults.{max_open, HasFault, IsParsed, EndsEarly}
use Rattle.stab_parse.specs.FormList.{IsTreeOf, deep_in_program, least_of, nodes_of_program, functions_of}
use Rattle.stab_parse.specs.Grammar.{Program}
use Rattle.stab_parse.specs.Whole.{EndsWrong, IsWhole}
use Rattle.stab_parse.specs.Moves.{reached, advance}
use Rattle.stab_parse.specs.declared.parser.Parser.{Parser}
use Rattle.stab_parse.specs.declared.tree.Tree.{Tree}
use Rattle.stab_parse.proofs.FormsKept.{reverse_program, functions_kept, deep_program}
use Rattle.stab_parse.proofs.Keeping.{advances, kept_of}
use Rattle.stab_parse.proofs.Kept.{phase_of, reader_of, in_program}
use Rattle.stab_parse.proofs.Machine.{State, open_of, Move, fails, goes, opens}
use Rattle.stab_parse.proofs.Machine as machine
use Rattle.stab_parse.proofs.Reading.{walk, walk_on, walk-append, step_by, okay, failed, fault_of_walk}
use Rattle.stab_parse.proofs.Verdicts.{program_walked, ends_early}

-- the tokens so far lead to a state, of which this is kept
pub record Reaches (ts : List Token) (p : Phase) (r : Reader) : Type 0 where
  pub state : State
  pub walked : walk machine.start ts ≡ okay state
  pub phase_is : p ≡ phase_of state
  pub reader_is : r ≡ reader_of state

walked_case : (st : State) (t : Token) (w : Result State ParseFault) (p : Phase) (r : Reader) → walk_on (step_by st t) okay t.start ≡ w → kept_of w ≡ Ok (reached p r) → (next : State) × (walk_on (step_by st t) okay t.start ≡ okay next) × (p ≡ phase_of next) × (r ≡ reader_of next)
walked_case st t (Ok next) p r e h = let same : reached (phase_of next) (reader_of next) ≡ reached p r = cc in (next, e, sym (ap (λ x. x.phase) same), sym (ap (λ x. x.reader) same))
walked_case st t (Err f) p r e h = absurd cc

fault_case : (w : Result State ParseFault) (f : ParseFault) → kept_of w ≡ Err f → w ≡ failed f
fault_case (Ok next) f h = absurd cc
fault_case (Err g) f h = let same : g ≡ f = cc in ap failed same

-- a step that fails fails whatever comes behind it
opens_stop : (b : Bool) (s : State) (us : List Token) (at : ℕ) (f : ParseFault) → cond b (failed (TooNested at)) (okay s) ≡ failed f → cond b (failed (TooNested at)) (walk s us) ≡ failed f
opens_stop true s us at f e = e
opens_stop false s us at f e = absurd cc

stops_too : (m : machine.Move) (us : List Token) (at : ℕ) (f : ParseFault) → walk_on m okay at ≡ failed f → walk_on m (λ s. walk s us) at ≡ failed f
stops_too machine.fails us at f e = e
stops_too (machine.goes s) us at f e = absurd cc
stops_too (machine.opens s) us at f e = opens_stop (nat_lt max_open (machine.open_of s)) s us at f e

-- one token more
pub reaches_next : (ts : List Token) (t : Token) (p next : Phase) (r after : Reader) → Reaches ts p r → advance p t r ≡ Ok (reached next after) → Reaches (ts ++ t ∷ []) next after
reaches_next ts t p next r after w e =
    let there : kept_of (walk_on (step_by w.state t) okay t.start) ≡ Ok (reached next after) = sym (advances w.state t) ∙ sym (ap (λ x. advance x t (reader_of w.state)) w.phase_is) ∙ sym (ap (advance p t) w.reader_is) ∙ e in
    let c = walked_case w.state t (walk_on (step_by w.state t) okay t.start) next after refl there in
    record { state = c.0; walked = walk-append ts (t ∷ []) machine.start w.state w.walked ∙ c.1; phase_is = c.2; reader_is = c.3 }

pub fault_next : (ts : List Token) (t : Token) (us : List Token) (p : Phase) (r : Reader) (f : ParseFault) → Reaches ts p r → advance p t r ≡ Err f → HasFault (ts ++ t ∷ us) f
fault_next ts t us p r f w e =
    let there : kept_of (walk_on (step_by w.state t) okay t.start) ≡ Err f = sym (advances w.state t) ∙ sym (ap (λ x. advance x t (reader_of w.state)) w.phase_is) ∙ sym (ap (advance p t) w.reader_is) ∙ e in
    let stops : walk_on (step_by w.state t) okay t.start ≡ failed f = fault_case (walk_on (step_by w.state t) okay t.start) f there in
    fault_of_walk (ts ++ t ∷ us) f (walk-append ts (t ∷ us) machine.start w.state w.walked ∙ stops_too (step_by w.state t) us t.start f stops)

-- ---- the end

between_only : (st : State) → phase.Between ≡ phase_of st → (q : Program) × (st ≡ machine.between q)
between_only (machine.between q) e = (q, refl)
between_only _ e = absurd cc

pub end_of_program : (ts : List Token) (r : Reader) → Reaches ts phase.Between r → (q : Program) × (walk machine.start ts ≡ okay (machine.between q)) × (r ≡ in_program q)
end_of_program ts r w =
    let b = between_only w.state w.phase_is in
    (b.0, w.walked ∙ ap okay b.1, w.reader_is ∙ ap reader_of b.1)

inside_only : (ts : List Token) (st : State) → walk machine.start ts ≡ okay st → (phase.Between ≡ phase_of st → ⊥) → EndsEarly ts
inside_only ts (machine.between q) e h = absurd (h refl)
inside_only ts st e h = ends_early ts st e tt

pub end_early : (ts : List Token) (p : Phase) (r : Reader) → Reaches ts p r → (p ≡ phase.Between → ⊥) → HasFault ts EarlyEnd
end_early ts p r w h = inside_only ts w.state w.walked (λ e. h (w.phase_is ∙ sym e))

none_deep : (ns : List ℕ) → least_of ns ≡ None → ns ≡ []
none_deep [] e = refl
none_deep (n ∷ ns) e = absurd cc

deep_kept : (r : Reader) (q : Program) → r ≡ in_program q → r.too_deep ≡ least_of (deep_in_program q)
deep_kept r q e = ap (λ x. x.too_deep) e ∙ deep_program q

-- no form is too deep
pub end_parsed : (ts : List Token) (r : Reader) → Reaches ts phase.Between r → r.too_deep ≡ None → (q : Program) × IsParsed ts q × (r.functions ≡ functions_of q) × (reverse r.forms ≡ nodes_of_program q)
end_parsed ts r w e =
    let b = end_of_program ts r w in
    let forms : reverse r.forms ≡ nodes_of_program b.0 = ap (λ x. reverse x.forms) b.2 ∙ reverse_program b.0 in
    (b.0, record { is_program = program_walked ts b.0 b.1; no_deep = none_deep (deep_in_program b.0) (sym (deep_kept r b.0 b.2) ∙ e) }, ap (λ x. x.functions) b.2 ∙ functions_kept b.0, forms)

pub end_deep : (ts : List Token) (r : Reader) (at : ℕ) → Reaches ts phase.Between r → r.too_deep ≡ Some at → HasFault ts (TooNested at)
end_deep ts r at w e =
    let b = end_of_program ts r w in
    inr (record { program = b.0; is_program = program_walked ts b.0 b.1; least = sym (deep_kept r b.0 b.2) ∙ e })

-- the tree of what was read, and the fault where there is none
pub tree_parsed : (ts : List Token) (p : Parser) (result : Result Tree ParseFault) → Reaches ts p.phase p.reader → IfOk result (IsWhole p) → IfOk result (λ tree. (q : Program) × IsParsed ts q × IsTreeOf tree q)
tree_parsed ts p (Err fault) w e = tt
tree_parsed ts p (Ok tree) w e =
    let b = end_parsed ts p.reader (subst (λ ph. Reaches ts ph p.reader) e.0 w) e.1 in
    (b.0, b.1, (e.2 ∙ b.2, ap reverse e.3 ∙ b.3))

pub tree_fault : (ts : List Token) (p : Parser) (result : Result Tree ParseFault) → Reaches ts p.phase p.reader → IfErr result (EndsWrong p) → IfErr result (λ fault. (fault ≡ NoMemory) ⊎ HasFault ts fault)
tree_fault ts p (Ok tree) w e = tt
tree_fault ts p (Err EarlyEnd) w e = inr (end_early ts p.phase p.reader w e)
tree_fault ts p (Err (TooNested at)) w e = inr (end_deep ts p.reader at (subst (λ ph. Reaches ts ph p.reader) e.0 w) e.1)
tree_fault ts p (Err (Unexpected at)) w e = absurd e
tree_fault ts p (Err NoMemory) w e = absurd e

pub reaches_new : (r : Reader) → r.frames ≡ [] → r.forms ≡ [] → r.functions ≡ [] → r.too_deep ≡ None → Reaches [] phase.Between r
reaches_new r a b c d = record {
  state = machine.start;
  walked = refl;
  phase_is = refl;
  reader_is =
      ap (λ x. record r { frames = x }) a ∙ ap (λ x. record r { frames = []; forms = x }) b
      ∙ ap (λ x. record r { frames = []; forms = []; functions = x }) c ∙ ap (λ x. record { frames = []; forms = []; functions = []; too_deep = x }) d;
}

-- one token more of a list, of which the one behind its end is any
pub reaches_more : (ts : List Token) (i : ℕ) (d : Token) (p next : Phase) (r after : Reader) → i < length ts → Reaches (take i ts) p r → advance p (get_or ts i d) r ≡ Ok (reached next after) → Reaches (take (i + 1) ts) next after
reaches_more ts i d p next r after h w e =
    let P : List Token → Type 0 = λ l. Reaches l next after in
    subst P (sym (ap (λ n. take n ts) (add-one i) ∙ take-suc ts i d h)) (reaches_next (take i ts) (get_or ts i d) p next r after w e)

pub fault_more : (ts : List Token) (i : ℕ) (d : Token) (p : Phase) (r : Reader) (f : ParseFault) → i < length ts → Reaches (take i ts) p r → advance p (get_or ts i d) r ≡ Err f → HasFault ts f
fault_more ts i d p r f h w e =
    let whole : take i ts ++ get_or ts i d ∷ drop (suc i) ts ≡ ts = sym (ap (λ l. take i ts ++ l) (drop-cons ts i d h)) ∙ take-append-drop i ts in
    let P : List Token → Type 0 = λ l. HasFault l f in
    subst P whole (fault_next (take i ts) (get_or ts i d) (drop (suc i) ts) p r f w e)

pub fault_or_memory : (ts : List Token) (i : ℕ) (d : Token) (p : Phase) (r : Reader) (f : ParseFault) → i < length ts → Reaches (take i ts) p r → (f ≡ NoMemory) ⊎ (advance p (get_or ts i d) r ≡ Err f) → (f ≡ NoMemory) ⊎ HasFault ts f
fault_or_memory ts i d p r f h w e = elim e [ inl m ↦ inl m | inr g ↦ inr (fault_more ts i d p r f h w g) ]

pub reaches_end : (ts : List Token) (i : ℕ) (p : Phase) (r : Reader) → length ts ≤ i → i ≤ length ts → Reaches (take i ts) p r → Reaches ts p r
reaches_end ts i p r h g w =
    let e : i ≡ length ts = omega arith in
    let P : List Token → Type 0 = λ l. Reaches l p r in
    subst P (ap (λ n. take n ts) e ∙ take-length ts) w
