-- Numbers of 32 bits tell places apart.
use Rattle.std.proofs.Common.{◌≡◌, ℕ, zero, suc, ◌-◌, ◌<◌, Option, Some, None, refl, sym, ap, ◌∙◌, arith}
use Rattle.stab_base.specs.declared.numbers.Seq.{Seq}
use Rattle.step_eval.specs.declared.place.Narrow.{Narrow}
use Rattle.step_eval.specs.declared.place.Narrow.TheVariants as narrow
use Rattle.step_eval.specs.declared.site.Site.{Site}
use Rattle.step_eval.specs.declared.site.Site.TheVariants.{Form, Section}
use Rattle.step_eval.specs.Place.{mark_of, site_of}

-- a number above 0 is that of a section
pub mark_above : (n : ℕ) → 0 < n → mark_of n ≡ Some (record { 0 = n - 1 })
mark_above zero h = absurd (omega arith)
mark_above (suc n) h =
    let wrap : ℕ → Option Seq = λ k. Some (record { 0 = k }) in
    let same : n ≡ suc n - 1 = omega arith in
    ap wrap same

abbrev above_of : Option Seq → ℕ
above_of None = 0
above_of (Some q) = suc q.0

above-mark : (n : ℕ) → above_of (mark_of n) ≡ n
above-mark zero = refl
above-mark (suc n) = refl

pub one_mark : (m n : ℕ) → mark_of m ≡ mark_of n → m ≡ n
one_mark m n h = sym (above-mark m) ∙ ap above_of h ∙ above-mark n

abbrev number_of : Site → ℕ
number_of (Form n from) = 0
number_of (Section q outer) = q.0

abbrev outer_of : Site → Option Seq
outer_of (Form n from) = None
outer_of (Section q outer) = outer

pub one_site : (a b : Narrow) → site_of a ≡ site_of b → a ≡ b
one_site (narrow.Form n from) (narrow.Form m at) h = cc
one_site (narrow.Form n from) (narrow.Section q outer) h = cc
one_site (narrow.Section q outer) (narrow.Form n from) h = cc
one_site (narrow.Section q outer) (narrow.Section r other) h =
    let number : q ≡ r = ap number_of h in
    let same : outer ≡ other = one_mark outer other (ap outer_of h) in
    cc
