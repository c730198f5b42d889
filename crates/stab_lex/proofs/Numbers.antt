-- A number that was read is the next piece, or an obstacle.
use Rattle.std.proofs.Common.{◌≡◌, ℕ, ◌+◌, ◌-◌, ◌*◌, ◌^◌, ◌<◌, ◌≤◌, min, Some, List, [], ◌∷◌, ◌++◌, refl, sym, ap, ◌∙◌, arith}
use Rattle.std.specs.Prelude.{IsTrue, ◌≢◌}
use Rattle.std.specs.Char.{is_ascii_digit}
use Rattle.std.proofs.lemmas.List.Sums.{fold-append}
use Rattle.stab_lex.specs.declared.kind.Kind.TheVariants.{Number}
use Rattle.stab_lex.specs.declared.token.LexFault.TheVariants.{BigNumber}
use Rattle.stab_lex.specs.Place.{Place, Leads}
use Rattle.stab_lex.specs.Pieces.{Numeral, Great, Pass, Stops, decimal}
use Rattle.stab_lex.specs.Readings.{Passes, Meets}
use Rattle.stab_lex.proofs.Ways.{Leads-none, Leads-append, Pass-append}

-- the greatest value that 64 bits hold
abbrev pub cap : ℕ
cap = 2 ^ 64 - 1

-- digits on the way from one place to another, and their value as far as 64 bits hold it
pub record DigitRun (value : ℕ) (old new : Place) : Type 0 where
  pub passed : List ℕ
  pub way : Leads passed old new
  pub pass : Pass is_ascii_digit passed
  pub value_is : value ≡ min (decimal passed) cap

pub DigitRun-none : (p : Place) → DigitRun 0 p p
DigitRun-none p = record { passed = []; way = Leads-none p; pass = tt; value_is = refl }

capped : (whole digit bound value scaled next : ℕ) → value ≡ min whole bound → scaled ≡ min (value * 10) bound → next ≡ min (scaled + digit) bound → next ≡ min (whole * 10 + digit) bound
capped whole digit bound value scaled next before scales adds = omega arith

decimal-push : (digits : List ℕ) (c : ℕ) → decimal (digits ++ c ∷ []) ≡ decimal digits * 10 + (c - 48)
decimal-push digits c = fold-append (λ n d. n * 10 + (d - 48)) 0 digits (c ∷ [])

pub DigitRun-more : {a b p : Place} {value : ℕ} (c digit scaled next : ℕ) → DigitRun value a b → Leads (c ∷ []) b p → IsTrue (is_ascii_digit c) → digit ≡ c - 48 → scaled ≡ min (value * 10) cap → next ≡ min (scaled + digit) cap → DigitRun next a p
DigitRun-more {a} {b} {p} {value} c digit scaled next run step passes is scales adds = record {
  passed = run.passed ++ c ∷ [];
  way = Leads-append run.way step;
  pass = Pass-append is_ascii_digit run.passed (c ∷ []) run.pass (passes, tt);
  value_is = capped (decimal run.passed) (c - 48) cap value scaled next run.value_is scales (adds ∙ ap (λ n. min (scaled + n) cap) is) ∙ ap (λ n. min n cap) (sym (decimal-push run.passed c));
}

module _ {old new : Place} (digits : List ℕ) (way : Leads digits old new) (some : digits ≢ []) (pass : Pass is_ascii_digit digits) (stops : Stops is_ascii_digit new.rest) where
  pub number_passes : decimal digits ≤ 2 ^ 63 → Passes (Some (Number (decimal digits))) old new
  number_passes small = record { piece = Numeral digits; way = way; stands = ((some, pass), stops, small); kind_is = refl }

  pub number_meets : 2 ^ 63 < decimal digits → Meets (BigNumber old.at) old
  number_meets great = record { obstacle = Great digits; after = new.rest; text = way.text; blocks = ((some, pass), stops, great); fault_is = refl }
