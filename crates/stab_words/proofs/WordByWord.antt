-- Reading words one by one gives what they mean.
use Rattle.std.proofs.Common.{◌≡◌, ℕ, suc, Bool, true, false, List, [], ◌∷◌, Option, Some, None, is_none, Result, Ok, Err, refl, sym, ap, ◌∙◌}
use Rattle.std.specs.Prelude.{if◌then◌else◌}
use Rattle.stab_words.specs.declared.command.Command.{Command}
use Rattle.stab_words.specs.declared.command.Setting.{Setting}
use Rattle.stab_words.specs.declared.given.Given.{Given}
use Rattle.stab_words.specs.declared.reading.Reading.{Reading}
use Rattle.stab_words.specs.declared.reading.Expects.{Expects}
use Rattle.stab_words.specs.declared.reading.Expects.TheVariants.{AnyWord, ValueOf, PlainWord}
use Rattle.stab_words.specs.declared.request.Request.{Request}
use Rattle.stab_words.specs.declared.request.WordFault.{WordFault}
use Rattle.stab_words.specs.declared.request.WordFault.TheVariants.{NoValue, UnknownOption}
use Rattle.stab_words.specs.Asked.{Gives, and_then, has_dash, has_dashes, name_of, next_value, option_of, option_value, optional, or_fault, plain, read, read_plain, request, valued, written_value}
use Rattle.stab_words.specs.Given.{nothing}
use Rattle.stab_words.specs.Steps.{begun, finished, goes_on, option_step, read_from, step, with_value}
use Rattle.std.specs.Prelude.{codes}
use Rattle.std.specs.Str.{bytes_eq}

and_then-assoc : {A B C : Type 0} (x : Result A WordFault) (f : A → Result B WordFault) (g : B → Result C WordFault) → and_then (and_then x f) g ≡ and_then x (λ a. and_then (f a) g)
and_then-assoc (Ok a) f g = refl
and_then-assoc (Err fault) f g = refl

and_then-same : {A B : Type 0} (x : Result A WordFault) (f g : A → Result B WordFault) → ((a : A) → f a ≡ g a) → and_then x f ≡ and_then x g
and_then-same (Ok a) f g same = same a
and_then-same (Err fault) f g same = refl

then_goes : {A : Type 0} (x : Result Given WordFault) (e : Expects) (f : Reading → Result A WordFault) → and_then (and_then x (goes_on e)) f ≡ and_then x (λ given. f (record { given = given; expects = e }))
then_goes (Ok given) e f = refl
then_goes (Err fault) e f = refl

module _ (c : Command) where
  -- what the words from i on give, by what is expected of the first of them
  abbrev rest_of : ℕ → List (List ℕ) → Reading → Expects → Result Given WordFault
  rest_of i words r AnyWord = read c i false words r.given
  rest_of i words r PlainWord = read_plain c i words r.given
  rest_of i words r (ValueOf option at) = and_then (or_fault (next_value words) (NoValue at)) (λ value. and_then (valued option at value r.given) (read c i true words))

  abbrev go : ℕ → List (List ℕ) → Reading → Result Given WordFault
  go i words r = rest_of i words r r.expects

  value_step : (option : Setting) (i : ℕ) (written : Option (List ℕ)) (words : List (List ℕ)) (given : Given) → and_then (with_value option i written given) (go (suc i) words)
      ≡ and_then (and_then (or_fault (if is_none written then next_value words else written) (NoValue i)) (λ value. valued option i value given)) (read c (suc i) (is_none written) words)
  value_step option i (Some value) words given = then_goes (valued option i value given) AnyWord (go (suc i) words)
  value_step option i None words given = sym (and_then-assoc (or_fault (next_value words) (NoValue i)) (λ value. valued option i value given) (read c (suc i) true words))

  named_step : (i : ℕ) (word : List ℕ) (words : List (List ℕ)) (given : Given) (x : Result Setting WordFault) → and_then (and_then x (λ option. with_value option i (written_value word) given)) (go (suc i) words)
      ≡ and_then (and_then x (λ option. and_then (or_fault (option_value word words) (NoValue i)) (λ value. valued option i value given))) (read c (suc i) (is_none (written_value word)) words)
  named_step i word words given (Ok option) = value_step option i (written_value word) words given
  named_step i word words given (Err fault) = refl

  any_step : (i : ℕ) (word : List ℕ) (words : List (List ℕ)) (given : Given) (ends dashes dash : Bool) →
      and_then (if ends then goes_on PlainWord given else (if dashes then option_step c i word given else (if dash then Err (UnknownOption i) else and_then (plain c i word given) (goes_on AnyWord)))) (go (suc i) words)
      ≡ (if ends then read_plain c (suc i) words given
      else (if dashes then and_then (optional c i word words given) (read c (suc i) (is_none (written_value word)) words)
      else (if dash then Err (UnknownOption i) else and_then (plain c i word given) (read c (suc i) false words))))
  any_step i word words given true dashes dash = refl
  any_step i word words given false true dash = named_step i word words given (option_of c i (name_of word) given)
  any_step i word words given false false true = refl
  any_step i word words given false false false = then_goes (plain c i word given) AnyWord (go (suc i) words)

  awaited_step : (option : Setting) (at i : ℕ) (word : List ℕ) (words : List (List ℕ)) (given : Given) (dash : Bool) →
      and_then (if dash then Err (NoValue at) else and_then (valued option at word given) (goes_on AnyWord)) (go (suc i) words)
      ≡ and_then (or_fault (if dash then None else Some word) (NoValue at)) (λ value. and_then (valued option at value given) (read c i true (word ∷ words)))
  awaited_step option at i word words given true = refl
  awaited_step option at i word words given false = then_goes (valued option at word given) AnyWord (go (suc i) words)

  -- a word that is read is the first of those that are left
  one_step : (i : ℕ) (word : List ℕ) (words : List (List ℕ)) (r : Reading) (e : Expects) → and_then (step c i word r.given e) (go (suc i) words) ≡ rest_of i (word ∷ words) r e
  one_step i word words r AnyWord = any_step i word words r.given (bytes_eq word (codes "--")) (has_dashes word) (has_dash word)
  one_step i word words r PlainWord = then_goes (plain c i word r.given) PlainWord (go (suc i) words)
  one_step i word words r (ValueOf option at) = awaited_step option at i word words r.given (has_dash word)

  end_is : (i : ℕ) (r : Reading) (e : Expects) → finished c r.given e ≡ and_then (rest_of i [] r e) (request c)
  end_is i r AnyWord = refl
  end_is i r PlainWord = refl
  end_is i r (ValueOf option at) = refl

  abbrev end : Reading → Result Request WordFault
  end r = finished c r.given r.expects

  all_steps : (words : List (List ℕ)) (i : ℕ) (r : Reading) → and_then (read_from c i words r) end ≡ and_then (go i words r) (request c)
  all_steps [] i r = end_is i r r.expects
  all_steps (word ∷ words) i r =
      let x = step c i word r.given r.expects in
      and_then-assoc x (read_from c (suc i) words) end
      ∙ and_then-same x _ _ (all_steps words (suc i))
      ∙ sym (and_then-assoc x (go (suc i) words) (request c))
      ∙ ap (λ y. and_then y (request c)) (one_step i word words r r.expects)

-- what is read from the beginning
pub read_is : (c : Command) (words : List (List ℕ)) → and_then (read_from c 1 words begun) (λ r. finished c r.given r.expects) ≡ and_then (read c 1 false words nothing) (request c)
read_is c words = all_steps c words 1 begun

-- a result that equals what is meant
pub gives : {A : Type 0} (answer meant : Result A WordFault) → answer ≡ meant → Gives (λ a. a) answer meant
gives (Ok a) meant is = sym is
gives (Err fault) meant is = λ _. sym is
