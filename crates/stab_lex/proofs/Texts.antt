-- A text between quotes that was read is the next piece, or an obstacle.
use Rattle.std.proofs.Common.{◌≡◌, ℕ, ◌+◌, ◌<◌, Bool, true, false, cond, length, length-append, Some, List, [], ◌∷◌, ◌++◌, refl, sym, ap, ◌∙◌, arith, subst, append_assoc, append-nil, ⊎_elim}
use Rattle.std.specs.Prelude.{IsTrue, IsFalse}
use Rattle.stab_lex.specs.declared.kind.Kind.TheVariants.{Text}
use Rattle.stab_lex.specs.declared.token.LexFault.{LexFault}
use Rattle.stab_lex.specs.declared.token.LexFault.TheVariants.{BadChar, OpenText}
use Rattle.stab_lex.specs.Place.{Place, Leads}
use Rattle.stab_lex.specs.Pieces.{Quoted, Open, BadEscape, Pass, is_in_line, is_escaped, escaped, escaped_char, EndsOpen}
use Rattle.stab_lex.specs.Readings.{Passes, Meets}
use Rattle.stab_lex.specs.Steps.{IsTextFault}
use Rattle.stab_lex.proofs.Ways.{Leads-append, Pass-append}

pub escaped-append : (xs ys : List ℕ) → escaped (xs ++ ys) ≡ escaped xs ++ escaped ys
escaped-append [] ys = refl
escaped-append (x ∷ xs) ys = ap (λ r. escaped_char x ++ r) (escaped-append xs ys) ∙ sym (append_assoc (escaped_char x) (escaped xs) (escaped ys))

-- the way from an opening quote over characters of the text
pub record TextRun (old new : Place) : Type 0 where
  pub read : List ℕ
  pub way : Leads (34 ∷ escaped read) old new
  pub pass : Pass is_in_line read

pub TextRun-begin : {old new : Place} → Leads (34 ∷ []) old new → TextRun old new
TextRun-begin step = record { read = []; way = step; pass = tt }

pub TextRun-more : {a b c : Place} (x : ℕ) → TextRun a b → Leads (escaped_char x) b c → IsTrue (is_in_line x) → TextRun a c
TextRun-more {a} {b} {c} x run step in_line =
    let written : (34 ∷ escaped run.read) ++ escaped_char x ≡ 34 ∷ escaped (run.read ++ x ∷ []) =
    ap (λ r. 34 ∷ r) (ap (λ r. escaped run.read ++ r) (sym (append-nil (escaped_char x))) ∙ sym (escaped-append run.read (x ∷ []))) in
    record {
      read = run.read ++ x ∷ [];
      way = subst (λ cs. Leads cs a c) written (Leads-append run.way step);
      pass = Pass-append is_in_line run.read (x ∷ []) run.pass (in_line, tt);
    }

pub text_passes : {a b c : Place} → TextRun a b → Leads (34 ∷ []) b c → Passes (Some Text) a c
text_passes {a} {b} {c} run step = record {
  piece = Quoted run.read;
  way = Leads-append run.way step;
  stands = run.pass;
  kind_is = refl;
}

pub text_meets : {a b : Place} (fault : LexFault) → TextRun a b → IsTextFault fault a.at b → Meets fault a
text_meets {a} {b} fault run why = ⊎_elim
    (λ (w : (fault ≡ OpenText a.at) × EndsOpen b.rest). record {
      obstacle = Open run.read;
      after = b.rest;
      text = run.way.text;
      blocks = (run.pass, w.1);
      fault_is = w.0;
    })
    (λ (w : (fault ≡ BadChar b.at) × ((c : ℕ) × (after : List ℕ) × (b.rest ≡ 92 ∷ c ∷ after) × IsFalse (is_escaped c))). record {
      obstacle = BadEscape run.read w.1.0;
      after = w.1.1;
      text = run.way.text ∙ ap (λ r. 34 ∷ escaped run.read ++ r) w.1.2 ∙ ap (λ r. 34 ∷ r) (sym (append_assoc (escaped run.read) (92 ∷ w.1.0 ∷ []) w.1.1));
      blocks = (run.pass, w.1.3);
      fault_is = w.0 ∙ ap BadChar run.way.at;
    })
    why

pub text_shorter : {a b : Place} (x : ℕ) → Leads (escaped_char x) a b → length b.rest < length a.rest
text_shorter {a} {b} x step =
    let parts : length a.rest ≡ length (escaped_char x) + length b.rest = ap length step.text ∙ length-append (escaped_char x) b.rest in
    omega (arith, parts, wide (is_escaped x) x)
  where
    wide : (b : Bool) (x : ℕ) → 0 < length (cond b (92 ∷ x ∷ []) (x ∷ []))
    wide true x = omega arith
    wide false x = omega arith
