-- The shape of a line, in which a number is any word, and the numbers in it.
use Rattle.std.specs.Prelude.{◌≡◌, ◌<◌, ◌⊎◌, ℕ, ◌-◌, ◌^◌, ◌&&◌, ◌==◌, Bool, true, false, List, [], ◌∷◌, length, Option, Some, None, option_map, if◌then◌else◌}
use Rattle.std.specs.Option.{option_and_then}
use Rattle.stab_journal.specs.declared.event.Label.TheVariants.{Local, Spawn, NewChan, Comm, NewRef, Get, Set, Enter, Cut, Print, Probe, Refuse, Pin, Attempt}
use Rattle.stab_journal.specs.declared.event.What.{What}
use Rattle.stab_journal.specs.declared.event.What.TheVariants.{Step, Undo, Release}
use Rattle.trace_text.specs.declared.form.Header.{Header}
use Rattle.trace_text.specs.declared.form.Sign.{Sign}
use Rattle.trace_text.specs.declared.form.Verb.{Verb}
use Rattle.trace_text.specs.declared.form.Verb.TheVariants as verbs
use Rattle.trace_text.specs.Form.{arity, fits, sign_named, verb_named}
use Rattle.trace_text.specs.Number.{signed_in}
use Rattle.text_lines.specs.Numeral.{number_in}

-- a line of an event: its sign, its verb, and the words that stand for numbers
pub record Shape : Type 0 where
  pub sign : Sign
  pub seq : List ℕ
  pub worker : List ℕ
  pub verb : Verb
  pub numbers : List (List ℕ)

-- a word isn't empty
abbrev pub is_word : List ℕ → Bool
is_word [] = false
is_word (b ∷ bytes) = true

abbrev pub are_words : List (List ℕ) → Bool
are_words [] = true
are_words (word ∷ words) = is_word word && are_words words

-- a worker is written behind a `w`
abbrev pub after_w : List ℕ → Option (List ℕ)
after_w [] = None
after_w (b ∷ bytes) = if b == 119 then Some bytes else None

-- a sign that fits the verb, words for numbers, as many as the verb wants
abbrev pub is_shape : Header → Shape → Bool
is_shape header s = fits s.verb s.sign header && (is_word s.seq && (is_word s.worker && (are_words s.numbers && length s.numbers == arity s.verb)))

abbrev pub checked : Header → Shape → Option Shape
checked header s = if is_shape header s then Some s else None

-- the shape of a line of an event, by its words
abbrev pub shape_of : Header → List (List ℕ) → Option Shape
shape_of header (sign ∷ seq ∷ worker ∷ verb ∷ numbers) =
    option_and_then (λ s. option_and_then (λ w. option_and_then (λ v.
    checked header (record { sign = s; seq = seq; worker = w; verb = v; numbers = numbers }))
    (verb_named verb)) (after_w worker)) (sign_named sign)
shape_of header _ = None

-- threads, channels and references, counts, generations, and the marks of sections
abbrev pub name_in : List ℕ → Option ℕ
name_in word = number_in 1 4000000000 word

abbrev pub count_in : List ℕ → Option ℕ
count_in word = number_in 1 4294967295 word

abbrev pub generation_in : List ℕ → Option ℕ
generation_in word = number_in 0 4294967295 word

abbrev pub seq_in : List ℕ → Option ℕ
seq_in word = number_in 1 (2 ^ 64 - 1) word

-- no verb has so many numbers
abbrev pub IsNoArity : ℕ → Type 0
IsNoArity n = (n ≡ 0) ⊎ (3 < n)

-- a value of each of two words, and of each of three
abbrev pub both : {A B C : Type 0} → Option A → Option B → (A → B → C) → Option C
both a b f = option_and_then (λ x. option_map (f x) b) a

-- what happened, by the verb and the numbers; none where a number isn't spelled so or is out of its range
abbrev pub what_of : Verb → List (List ℕ) → Option What
what_of verbs.Local (t ∷ n ∷ []) = both (name_in t) (count_in n) (λ t n. Step (Local (record { 0 = t }) n))
what_of verbs.Spawn (t ∷ u ∷ []) = both (name_in t) (name_in u) (λ t u. Step (Spawn (record { 0 = t }) (record { 0 = u })))
what_of verbs.NewChan (t ∷ c ∷ []) = both (name_in t) (name_in c) (λ t c. Step (NewChan (record { 0 = t }) (record { 0 = c })))
what_of verbs.Comm (s ∷ r ∷ c ∷ []) = option_and_then (λ s. both (name_in r) (name_in c) (λ r c. Step (Comm (record { 0 = s }) (record { 0 = r }) (record { 0 = c })))) (name_in s)
what_of verbs.NewRef (t ∷ r ∷ []) = both (name_in t) (name_in r) (λ t r. Step (NewRef (record { 0 = t }) (record { 0 = r })))
what_of verbs.Get (t ∷ r ∷ []) = both (name_in t) (name_in r) (λ t r. Step (Get (record { 0 = t }) (record { 0 = r })))
what_of verbs.Set (t ∷ r ∷ []) = both (name_in t) (name_in r) (λ t r. Step (Set (record { 0 = t }) (record { 0 = r })))
what_of verbs.Enter (t ∷ []) = option_map (λ t. Step (Enter (record { 0 = t }))) (name_in t)
what_of verbs.Cut (t ∷ []) = option_map (λ t. Step (Cut (record { 0 = t }))) (name_in t)
what_of verbs.Print (t ∷ []) = option_map (λ t. Step (Print (record { 0 = t }))) (name_in t)
what_of verbs.Probe (t ∷ i ∷ []) = both (name_in t) (signed_in i) (λ t i. Step (Probe (record { 0 = t }) i))
what_of verbs.Refuse (t ∷ []) = option_map (λ t. Step (Refuse (record { 0 = t }))) (name_in t)
what_of verbs.Pin (t ∷ []) = option_map (λ t. Step (Pin (record { 0 = t }))) (name_in t)
what_of verbs.Attempt (t ∷ g ∷ []) = both (name_in t) (generation_in g) (λ t g. Step (Attempt (record { 0 = t }) g))
what_of verbs.Undo (t ∷ m ∷ []) = both (name_in t) (seq_in m) (λ t m. Undo (record { 0 = t }) (record { 0 = m }))
what_of verbs.Release (k ∷ []) = option_map Release (count_in k)
what_of _ _ = None
