-- Orders, and their texts.
use Rattle.std.specs.Prelude.{ℕ, ◌≤◌, List, [], ◌∷◌, ◌++◌, Option, None, option_map, codes, decimal}
use Rattle.std.specs.Option.{option_and_then}
use Rattle.drill_text.specs.declared.order.Verb.{Verb}
use Rattle.drill_text.specs.declared.order.Verb.TheVariants.{Lease, Step, Commit}
use Rattle.drill_text.specs.declared.order.Order.{Order}
use Rattle.text_lines.specs.Lines.{split}
use Rattle.text_lines.specs.Numeral.{number_in}
use Rattle.text_lines.specs.Table.{named_in}

-- leases are numbered from 1 to 64
abbrev pub HasLease : Order → Type 0
HasLease o = (1 ≤ o.lease) × (o.lease ≤ 64)

abbrev pub verb_text : Verb → List ℕ
verb_text Lease = codes "lease"
verb_text Step = codes "step"
verb_text Commit = codes "commit"

-- the text of an order: its verb, a space and the number of the lease
abbrev pub order_text : Order → List ℕ
order_text o = verb_text o.verb ++ 32 ∷ decimal o.lease

-- the verbs
abbrev pub verbs : List (List ℕ × Verb)
verbs = (codes "lease", Lease) ∷ (codes "step", Step) ∷ (codes "commit", Commit) ∷ []

-- the verb that a word is
abbrev pub verb_named : List ℕ → Option Verb
verb_named word = named_in verbs word

-- the order that two words are: a verb, and a number from 1 to 64 without leading zeros
abbrev pub order_in : List (List ℕ) → Option Order
order_in (word ∷ number ∷ []) =
    option_and_then (λ verb. option_map (λ lease. record { verb = verb; lease = lease }) (number_in 1 64 number)) (verb_named word)
order_in _ = None

-- the order that a text is
abbrev pub order_of : List ℕ → Option Order
order_of text = order_in (split 32 text)
