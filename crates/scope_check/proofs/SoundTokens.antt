-- A syntax that was read from a text, and how large it is.
use Rattle.std.proofs.Common.{◌≡◌, ℕ, ◌+◌, ◌*◌, ◌<◌, ◌≤◌, ◌^◌, Bool, true, false, List, [], ◌∷◌, length, map, refl, sym, ap, subst, ◌∙◌, arith}
use Rattle.std.specs.Prelude.{if◌then◌else◌, nat_lt}
use Rattle.std.specs.List.{AllByRecursion}
use Rattle.std.proofs.lemmas.List.{length-map}
use Rattle.stab_lex.specs.declared.kind.Kind.{Kind}
use Rattle.stab_lex.specs.declared.kind.Kind.TheVariants as kind
use Rattle.stab_lex.specs.declared.token.Token.{Token}
use Rattle.stab_lex.specs.Limits.{max_text}
use Rattle.stab_lex.specs.Pieces.{IsText}
use Rattle.stab_lex.specs.Readings.{InOrder, IsSlice}
use Rattle.stab_lex.proofs.TextTokens.{texts_are_quoted}
use Rattle.stab_parse.specs.declared.symbol.Span.{Span}
use Rattle.stab_parse.specs.declared.symbol.Symbol.TheVariants as symbol
use Rattle.stab_parse.specs.FormList.{nodes_of_program}
use Rattle.stab_parse.specs.Grammar.{Program, IsProgram, pieces_of, sign_of_piece}
use Rattle.stab_parse.specs.Symbols.{sign_of, span_of, symbol_of}
use Rattle.scope_check.specs.Names.{named}
use Rattle.scope_check.specs.Sound.{IsSoundProgram}
use Rattle.scope_check.proofs.Sizes.{few-program}
use Rattle.scope_check.proofs.SoundSyntax.{IsSoundSign, IsSoundSymbol, sound-program}

sound-number : (bytes : List ℕ) (b : Bool) (value : ℕ) (span : Span) → IsSoundSymbol bytes (if b then symbol.Number value else symbol.Greatest) span
sound-number bytes true value span = tt
sound-number bytes false value span = tt

sound-kind : (bytes : List ℕ) (k : Kind) (span : Span) → (k ≡ kind.Text → IsText (named bytes span)) → IsSoundSymbol bytes (symbol_of k) span
sound-kind bytes kind.Text span h = h refl
sound-kind bytes (kind.Number value) span h = sound-number bytes (nat_lt value (2 ^ 63)) value span
sound-kind bytes kind.KeywordStabilize span h = refl
sound-kind bytes kind.KeywordCut span h = refl
sound-kind bytes kind.KeywordProbe span h = refl
sound-kind bytes kind.KeywordPin span h = refl
sound-kind bytes kind.KeywordAttempt span h = refl
sound-kind bytes kind.KeywordRef span h = refl
sound-kind bytes kind.KeywordGet span h = refl
sound-kind bytes kind.KeywordRecv span h = refl
sound-kind bytes kind.KeywordPrint span h = refl
sound-kind bytes kind.KeywordFst span h = refl
sound-kind bytes kind.KeywordSnd span h = refl
sound-kind bytes kind.KeywordSet span h = refl
sound-kind bytes kind.KeywordSend span h = refl
sound-kind bytes kind.KeywordPick span h = refl
sound-kind bytes _ span h = tt

sound-tokens : (bytes : List ℕ) (tokens : List Token) → AllByRecursion (IsSlice bytes) tokens → AllByRecursion (IsSoundSign bytes) (map sign_of tokens)
sound-tokens bytes [] all = tt
sound-tokens bytes (t ∷ tokens) all = (sound-kind bytes t.kind (span_of t) (λ e. texts_are_quoted bytes t all.0 e), sound-tokens bytes tokens all.1)

pub sound-parsed : (bytes : List ℕ) (tokens : List Token) (p : Program) → AllByRecursion (IsSlice bytes) tokens → IsProgram tokens p → IsSoundProgram bytes p
sound-parsed bytes tokens p all is = (sound-program bytes p [] (subst (AllByRecursion (IsSoundSign bytes)) is (sound-tokens bytes tokens all))).0

few-tokens : (at : ℕ) (tokens : List Token) (len : ℕ) → InOrder at tokens len → at + length tokens ≤ len
few-tokens at [] len order = omega arith
few-tokens at (t ∷ tokens) len order = let rest = few-tokens t.end tokens len order.2 in omega (arith, order.0, order.1)

-- a text of so many bytes has at most two forms for each
pub few-forms : (tokens : List Token) (p : Program) (len : ℕ) → InOrder 0 tokens len → IsProgram tokens p → length (nodes_of_program p) ≤ 2 * len
few-forms tokens p len order is =
    let count : length tokens ≡ length (pieces_of p) = sym (length-map tokens sign_of) ∙ ap length is ∙ length-map (pieces_of p) sign_of_piece in
    omega (arith, few-program p [], few-tokens 0 tokens len order)

pub few-nodes : (p : Program) (bytes : List ℕ) → length bytes ≤ max_text → length (nodes_of_program p) ≤ 2 * length bytes → length (nodes_of_program p) < 2 ^ 32
few-nodes p bytes small few = omega arith
