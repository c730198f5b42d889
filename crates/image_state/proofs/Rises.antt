-- The numbers of lines in order rise, kind by kind.
use Rattle.std.proofs.Common.{◌≡◌, ℕ, ◌≤◌, ◌<◌, true, List, [], ◌∷◌, refl, sym, ap, subst, ◌∙◌, arith}
use Rattle.std.specs.Prelude.{Some, None, Option, IfSome}
use Rattle.std.specs.List.{AllByRecursion, cons_option, filter_map}
use Rattle.std.proofs.lemmas.Bool.{false≢true, ltb-true}
use Rattle.image_lines.specs.declared.line.Line.{Line}
use Rattle.image_lines.specs.declared.line.Line.TheVariants.{Chan, Ref, Out, Thread, End}
use Rattle.image_lines.specs.LineText.{IsLine}
use Rattle.image_text.specs.Rising.{IsRising}
use Rattle.image_state.specs.Order.{AreOrdered, follows}
use Rattle.image_state.proofs.LineKinds.{kind, kinds_rise}

abbrev pub number : Line → ℕ
number (Chan c) = c.0
number (Ref r v) = r.0
number (Out v) = 0
number (Thread t g e) = t.0
number End = 0

-- of a later kind, or of the same one and with a greater number; of what was printed nothing is said
pub record IsLater (a b : Line) : Type 0 where
  pub kinds : kind a ≤ kind b
  pub numbers : kind a ≡ kind b → (kind a ≡ 2 → ⊥) → number a < number b

numbers_rise : (a b : Line) → follows a b ≡ true → kind a ≡ kind b → (kind a ≡ 2 → ⊥) → number a < number b
numbers_rise (Chan c) (Chan d) h e ne = ltb-true c.0 d.0 h
numbers_rise (Chan c) (Ref r v) h e ne = absurd (omega (arith, e))
numbers_rise (Chan c) (Out v) h e ne = absurd (omega (arith, e))
numbers_rise (Chan c) (Thread t g d) h e ne = absurd (omega (arith, e))
numbers_rise (Chan c) End h e ne = absurd (omega (arith, e))
numbers_rise (Ref r v) (Chan c) h e ne = absurd (false≢true h)
numbers_rise (Ref r v) (Ref s w) h e ne = ltb-true r.0 s.0 h
numbers_rise (Ref r v) (Out w) h e ne = absurd (omega (arith, e))
numbers_rise (Ref r v) (Thread t g d) h e ne = absurd (omega (arith, e))
numbers_rise (Ref r v) End h e ne = absurd (omega (arith, e))
numbers_rise (Out v) b h e ne = absurd (ne refl)
numbers_rise (Thread t g d) (Chan c) h e ne = absurd (false≢true h)
numbers_rise (Thread t g d) (Ref r v) h e ne = absurd (false≢true h)
numbers_rise (Thread t g d) (Out v) h e ne = absurd (false≢true h)
numbers_rise (Thread t g d) (Thread u f c) h e ne = ltb-true t.0 u.0 h
numbers_rise (Thread t g d) End h e ne = absurd (false≢true h)
numbers_rise End b h e ne = absurd (false≢true h)

later : (a b : Line) → follows a b ≡ true → IsLater a b
later a b h = record { kinds = kinds_rise a b h; numbers = numbers_rise a b h }

later_still : (a b c : Line) → IsLater a b → IsLater b c → IsLater a c
later_still a b c p q =
    let one = p.kinds in
    let two = q.kinds in
    record {
      kinds = omega arith;
      numbers = λ e ne.
          let first : kind a ≡ kind b = omega (arith, e) in
          let second : kind b ≡ kind c = omega (arith, e) in
          let less = p.numbers first ne in
          let more = q.numbers second (λ two. ne (first ∙ two)) in
          omega arith;
    }

later_all : (a b : Line) (ls : List Line) → IsLater a b → AllByRecursion (IsLater b) ls → AllByRecursion (IsLater a) ls
later_all a b [] p h = tt
later_all a b (c ∷ ls) p h = (later_still a b c p h.0, later_all a b ls p h.1)

pub all_later : (a : Line) (ls : List Line) → AreOrdered (Some a) ls → AllByRecursion (IsLater a) ls
all_later a [] h = tt
all_later a (b ∷ ls) h = (later a b h.0, later_all a b ls (later a b h.0) (all_later b ls h.1))

-- entries that lines of one kind have, each under its number
pub record IsKeyed {X : Type 0} (n : ℕ) (f : Line → Option (ℕ × X)) : Type 0 where
  pub printed : n ≡ 2 → ⊥
  pub ends : n ≡ 4 → ⊥
  pub is : (l : Line) → IfSome (f l) (λ p. (kind l ≡ n) × (p.0 ≡ number l))

-- entries above a number
abbrev pub AreAbove : {X : Type 0} → ℕ → (Line → Option (ℕ × X)) → List Line → Type 0
AreAbove m f ls = AllByRecursion (λ (l : Line). IfSome (f l) (λ p. m < p.0)) ls

module _ {X : Type 0} (n : ℕ) (f : Line → Option (ℕ × X)) (keyed : IsKeyed n f) where
  above_one : (l b : Line) (p : ℕ × X) (o : Option (ℕ × X)) → IsLater l b → kind l ≡ n → p.0 ≡ number l → IfSome o (λ q. (kind b ≡ n) × (q.0 ≡ number b)) → IfSome o (λ q. p.0 < q.0)
  above_one l b p None later same at h = tt
  above_one l b p (Some q) later same at h =
      let less = later.numbers (same ∙ sym h.0) (λ two. keyed.printed (sym same ∙ two)) in
      let here = h.1 in
      omega arith

  above_all : (l : Line) (p : ℕ × X) (ls : List Line) → kind l ≡ n → p.0 ≡ number l → AllByRecursion (IsLater l) ls → AreAbove p.0 f ls
  above_all l p [] same at h = tt
  above_all l p (b ∷ ls) same at h = (above_one l b p (f b) h.0 same at (keyed.is b), above_all l p ls same at h.1)

  rising_behind : (last : Option Line) (m : ℕ) (ls : List Line) → AreOrdered last ls → AreAbove m f ls → IsRising m (filter_map f ls)
  rising_behind last m [] ordered low = tt
  rising_behind last m (l ∷ ls) ordered low =
      (elim (f l) as (λ o. IfSome o (λ p. (kind l ≡ n) × (p.0 ≡ number l)) → IfSome o (λ p. m < p.0) → IsRising m (cons_option o (filter_map f ls))) [
        | None ↦ λ k lt. rising_behind (Some l) m ls ordered.1 low.1
        | (Some p) ↦ λ k lt. (lt, rising_behind (Some l) p.0 ls ordered.1 (above_all l p ls k.0 k.1 (all_later l ls ordered.1)))
      ]) (keyed.is l) low.0

  numbered : (l : Line) → IsLine l → (kind l ≡ 2 → ⊥) → (kind l ≡ 4 → ⊥) → 1 ≤ number l
  numbered (Chan c) h two four = h.0
  numbered (Ref r v) h two four = h.0.0
  numbered (Out v) h two four = absurd (two refl)
  numbered (Thread t g e) h two four = h.0.0
  numbered End h two four = absurd (four refl)

  some_above : (l : Line) (o : Option (ℕ × X)) → IsLine l → IfSome o (λ p. (kind l ≡ n) × (p.0 ≡ number l)) → IfSome o (λ p. 0 < p.0)
  some_above l None is h = tt
  some_above l (Some p) is h =
      let one = numbered l is (λ two. keyed.printed (sym h.0 ∙ two)) (λ four. keyed.ends (sym h.0 ∙ four)) in
      let at = h.1 in
      omega arith

  above_0 : (ls : List Line) → AllByRecursion IsLine ls → AreAbove 0 f ls
  above_0 [] h = tt
  above_0 (l ∷ ls) h = (some_above l (f l) h.0 (keyed.is l), above_0 ls h.1)

  -- the numbers of all of them rise
  pub rising : (ls : List Line) → AllByRecursion IsLine ls → AreOrdered None ls → IsRising 0 (filter_map f ls)
  rising ls right ordered = rising_behind None 0 ls ordered (above_0 ls right)
