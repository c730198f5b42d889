-- Orders and their texts, both ways.
use Rattle.std.proofs.Common.{◌≡◌, ℕ, true, false, cond, List, [], ◌∷◌, ◌++◌, Option, Some, None, refl, sym, ap, subst, ◌∙◌, arith}
use Rattle.std.specs.Prelude.{codes, decimal}
use Rattle.std.specs.Option.{option_map, option_and_then}
use Rattle.std.specs.Str.{bytes_eq}
use Rattle.std.proofs.lemmas.Slice.Eq.{bytes_eq-Decides}
use Rattle.drill_text.specs.declared.order.Verb.{Verb}
use Rattle.drill_text.specs.declared.order.Verb.TheVariants.{Lease, Step, Commit}
use Rattle.drill_text.specs.declared.order.Order.{Order}
use Rattle.drill_text.specs.Order.{HasLease, order_in, order_of, order_text, verb_named, verb_text}
use Rattle.text_lines.specs.Lines.{split}
use Rattle.text_lines.specs.Numeral.{number_in}
use Rattle.text_lines.proofs.Numerals.{decimal_digits, number_in-decimal, number_in-some}
use Rattle.text_lines.proofs.Splits.{lacks, lacks-digits, pieces, rejoined, split-first, split-whole}

-- an order of a verb and a number, where both are there
abbrev pub ordered : Option Verb → Option ℕ → Option Order
ordered verb number = option_and_then (λ v. option_map (λ k. record { verb = v; lease = k }) number) verb

no_number : (verb : Option Verb) → ordered verb None ≡ None
no_number None = refl
no_number (Some v) = refl

-- a number has no spaces
number-whole : (word : List ℕ) (k : ℕ) → number_in 1 64 word ≡ Some k → split 32 word ≡ word ∷ []
number-whole word k e =
    let is = number_in-some 1 64 word k (omega arith) e in
    let high = is.high in
    split-whole 32 word (subst (λ w. lacks 32 w ≡ true) (sym is.spelled) (lacks-digits 32 (decimal k) (omega arith) (decimal_digits k (omega arith))))

by_pieces : (word rest first : List ℕ) (others : List (List ℕ)) (number : Option ℕ) → number_in 1 64 rest ≡ number → split 32 rest ≡ first ∷ others → order_in (word ∷ first ∷ others) ≡ ordered (verb_named word) number
by_pieces word rest first [] number e s =
    let same : rest ≡ first = rejoined 32 rest first [] s in
    ap (ordered (verb_named word)) (ap (number_in 1 64) (sym same) ∙ e)
by_pieces word rest first (next ∷ others) None e s = sym (no_number (verb_named word))
by_pieces word rest first (next ∷ others) (Some k) e s = absurd (let whole : rest ∷ [] ≡ first ∷ next ∷ others = sym (number-whole rest k e) ∙ s in cc)

-- the order of what stands before the first space and behind it
pub order_in-cut : (word rest : List ℕ) → order_in (word ∷ split 32 rest) ≡ ordered (verb_named word) (number_in 1 64 rest)
order_in-cut word rest =
    let p = pieces 32 rest in
    ap (λ ps. order_in (word ∷ ps)) p.are ∙ by_pieces word rest p.first p.others (number_in 1 64 rest) refl p.are

-- a verb is read from its word, and is named by no other
named : (v : Verb) → verb_named (verb_text v) ≡ Some v
named Lease = refl
named Step = refl
named Commit = refl

no_space : (v : Verb) → lacks 32 (verb_text v) ≡ true
no_space Lease = refl
no_space Step = refl
no_space Commit = refl

-- one word more in a row of choices
named_or : (word text : List ℕ) (v w : Verb) (others : Option Verb) → verb_text v ≡ text → (others ≡ Some w → word ≡ verb_text w) → cond (bytes_eq text word) (Some v) others ≡ Some w → word ≡ verb_text w
named_or word text v w others spelled more given =
    elim (bytes_eq text word) as (λ b. bytes_eq text word ≡ b → cond b (Some v) others ≡ Some w → word ≡ verb_text w) [
      | true ↦ λ same e.
          let here : v ≡ w = cc in
          sym ((bytes_eq-Decides text word).0 same) ∙ sym spelled ∙ ap verb_text here
      | false ↦ λ _ e. more e
    ] refl given

verb_was : (word : List ℕ) (w : Verb) → verb_named word ≡ Some w → word ≡ verb_text w
verb_was word w =
    named_or word (codes "lease") Lease w _ refl
    (named_or word (codes "step") Step w _ refl (named_or word (codes "commit") Commit w None refl (λ none. cc)))

pub order-read : (o : Order) → HasLease o → order_of (order_text o) ≡ Some o
order-read o h =
    ap order_in (split-first 32 (verb_text o.verb) (decimal o.lease) (no_space o.verb))
    ∙ order_in-cut (verb_text o.verb) (decimal o.lease)
    ∙ ap (λ v. ordered v (number_in 1 64 (decimal o.lease))) (named o.verb)
    ∙ ap (ordered (Some o.verb)) (number_in-decimal 1 64 o.lease h.0 h.1 (omega arith))

-- what an order that was read is
abbrev pub IsOrder : List ℕ → Order → Type 0
IsOrder text o = (text ≡ order_text o) × HasLease o

ordered_was : (word number : List ℕ) (o : Order) (v : Option Verb) (k : Option ℕ) → verb_named word ≡ v → number_in 1 64 number ≡ k → ordered v k ≡ Some o → IsOrder (word ++ 32 ∷ number) o
ordered_was word number o None k e f g = cc
ordered_was word number o (Some v) None e f g = cc
ordered_was word number o (Some v) (Some k) e f g =
    let is = number_in-some 1 64 number k (omega arith) f in
    let low = is.low in
    let high = is.high in
    let verb : v ≡ o.verb = cc in
    let lease : k ≡ o.lease = cc in (
      ap (λ w. w ++ 32 ∷ number) (verb_was word v e ∙ ap verb_text verb) ∙ ap (λ n. verb_text o.verb ++ 32 ∷ n) (is.spelled ∙ ap decimal lease),
      (omega arith, omega arith),
    )

words_were : (text first : List ℕ) (others : List (List ℕ)) (o : Order) → split 32 text ≡ first ∷ others → order_in (first ∷ others) ≡ Some o → IsOrder text o
words_were text first [] o s e = cc
words_were text first (number ∷ []) o s e =
    let spelled : text ≡ first ++ 32 ∷ number = rejoined 32 text first (number ∷ []) s in
    subst (λ t. IsOrder t o) (sym spelled) (ordered_was first number o (verb_named first) (number_in 1 64 number) refl refl e)
words_were text first (number ∷ next ∷ others) o s e = cc

pub order-was : (text : List ℕ) (o : Order) → order_of text ≡ Some o → IsOrder text o
order-was text o e =
    let p = pieces 32 text in
    words_were text p.first p.others o p.are (ap order_in (sym p.are) ∙ e)

pub order-one : (a b : Order) → HasLease a → HasLease b → order_text a ≡ order_text b → a ≡ b
order-one a b h k e =
    let same : Some a ≡ Some b = sym (order-read a h) ∙ ap order_of e ∙ order-read b k in
    cc
