-- How the pieces of a line are read as words.
use Rattle.std.specs.Prelude.{◌≡◌, ℕ, pos, ◌&&◌, Bool, true, false, List, [], ◌∷◌, Option, Some, None, option_map, option_and_then, if◌then◌else◌}
use Rattle.text_lines.specs.Numeral.{number_in}
use Rattle.trace_text.specs.Number.{signed_in}
use Rattle.expression_text.specs.declared.word.Word.{Word}
use Rattle.expression_text.specs.declared.word.Word.TheVariants as w
use Rattle.image_text.specs.declared.filling.Filled.{Filled}
use Rattle.image_text.specs.declared.names.Kind.{Kind}
use Rattle.image_text.specs.declared.names.Kind.TheVariants.{Int, Text, Chan, Ref, Var, Block, Let, Section}
use Rattle.image_text.specs.declared.names.Callee.{Callee}
use Rattle.image_text.specs.declared.names.Callee.TheVariants.{Call, Spawn, Stable}
use Rattle.image_text.specs.declared.names.Form.{Form}
use Rattle.image_text.specs.declared.names.Form.TheVariants.{Whole, Numbered, Failed, Called}
use Rattle.image_text.specs.Names.{fault_named, form_named}
use Rattle.image_text.specs.Range.{AreInRange, all_pieces}

-- numbers of 32 bits, and those of channels and references
abbrev pub count_in : List ℕ → Option ℕ
count_in piece = number_in 0 4294967295 piece

abbrev pub name_in : List ℕ → Option ℕ
name_in piece = number_in 1 4000000000 piece

abbrev pub fine : Word → Filled
fine word = record { word = word; counted = true; whole = true }

-- a word with its number, or with another one where the number can't be read
abbrev pub with_number : {A : Type 0} → (A → Word) → A → Option A → Filled
with_number f other (Some n) = fine (f n)
with_number f other None = record { word = f other; counted = true; whole = false }

-- of a number that says how many parts follow it is known besides whether it was read
abbrev pub with_count : (ℕ → Word) → Option ℕ → Filled
with_count f (Some n) = fine (f n)
with_count f None = record { word = f 0; counted = false; whole = false }

abbrev pub numbered : Kind → List ℕ → Filled
numbered Int piece = with_number w.Int (pos 0) (signed_in piece)
numbered Text piece = with_number (λ n. w.Text (record { 0 = n })) 0 (count_in piece)
numbered Chan piece = with_number (λ n. w.Chan (record { 0 = n })) 1 (name_in piece)
numbered Ref piece = with_number (λ n. w.Ref (record { 0 = n })) 1 (name_in piece)
numbered Var piece = with_number w.Var 0 (count_in piece)
numbered Block piece = with_count w.Block (count_in piece)
numbered Let piece = with_number w.Let 0 (count_in piece)
numbered Section piece = with_number (λ n. w.Section (record { 0 = n })) 0 (count_in piece)

abbrev pub called_word : Callee → ℕ → ℕ → Word
called_word Call f n = w.Call (record { 0 = f }) n
called_word Spawn f n = w.Spawn (record { 0 = f }) n
called_word Stable f n = w.Stable (record { 0 = f }) n

-- a call with its function and how many arguments it has
abbrev pub called : Callee → Option ℕ → Option ℕ → Filled
called c (Some f) (Some n) = fine (called_word c f n)
called c None (Some n) = record { word = called_word c 0 n; counted = true; whole = false }
called c (Some f) None = record { word = called_word c f 0; counted = false; whole = false }
called c None None = record { word = called_word c 0 0; counted = false; whole = false }

-- no piece is empty
abbrev pub is_piece : List ℕ → Bool
is_piece [] = false
is_piece (b ∷ bytes) = true

-- the word that a form begins, and the pieces behind its numbers; none where a number is missing, or a fault has another name
abbrev pub fill : Form → List (List ℕ) → Option (Filled × List (List ℕ))
fill (Whole word) ps = Some (fine word, ps)
fill (Numbered k) (a ∷ ps) = if is_piece a then Some (numbered k a, ps) else None
fill Failed (a ∷ ps) = option_map (λ k. (fine (w.Fault k), ps)) (fault_named a)
fill (Called c) (a ∷ b ∷ ps) = if is_piece a && is_piece b then Some (called c (count_in a) (count_in b), ps) else None
fill form ps = None

abbrev pub first_word : List (List ℕ) → Option (Filled × List (List ℕ))
first_word [] = None
first_word (name ∷ ps) = option_and_then (λ form. fill form ps) (form_named name)

-- words, whether each count could be read, and whether each number could
pub record Words : Type 0 where
  pub words : List Word
  pub counted : Bool
  pub whole : Bool

abbrev pub nothing : Words
nothing = record { words = []; counted = true; whole = true }

abbrev pub onto : Filled → Words → Words
onto f r = record { words = f.word ∷ r.words; counted = f.counted && r.counted; whole = f.whole && r.whole }

-- what is read behind the pieces of a form
abbrev pub behind : {A : Type 0} → Form → A → A → A → A
behind (Whole word) none one two = none
behind (Numbered k) none one two = one
behind Failed none one two = one
behind (Called c) none one two = two

abbrev pub read_on : Option (Filled × List (List ℕ)) → Option Words → Option Words
read_on None others = None
read_on (Some x) others = option_map (onto x.0) others

-- the words that pieces are read as; none where they have no shape of words
abbrev mutual
  pub reading : List (List ℕ) → Option Words
  reading [] = Some nothing
  reading (name ∷ ps) = option_and_then (λ form. read_on (fill form ps) (behind form (reading ps) (behind_one ps) (behind_two ps))) (form_named name)

  pub behind_one : List (List ℕ) → Option Words
  behind_one [] = None
  behind_one (a ∷ ps) = reading ps

  pub behind_two : List (List ℕ) → Option Words
  behind_two [] = None
  behind_two (a ∷ ps) = behind_one ps

-- words of which all numbers could be read
abbrev pub all_read : List Word → Words
all_read ws = record { words = ws; counted = true; whole = true }

-- the pieces are those of the words, which are within their ranges, and each count could be read
pub record AreRead (ps : List (List ℕ)) (r : Words) : Type 0 where
  pub pieces_are : ps ≡ all_pieces r.words
  pub range : AreInRange r.words
  pub counted : r.counted ≡ true
