-- Events and the words of their lines, both ways.
use Rattle.std.proofs.Common.{◌≡◌, ℕ, ◌-◌, ◌^◌, ◌<◌, true, List, [], ◌∷◌, length, Option, Some, None, ℤ, pos, negsuc, suc, refl, ap, subst, ◌∙◌, arith}
use Rattle.std.specs.Prelude.{decimal, FitsSigned}
use Rattle.std.specs.Option.{option_map, option_and_then}
use Rattle.std.specs.Int.{w64}
use Rattle.std.specs.Fmt.{signed_decimal}
use Rattle.std.proofs.lemmas.Bool.{and_from, ltb-true}
use Rattle.std.proofs.lemmas.Fmt.{decimal_nonempty}
use Rattle.stab_journal.specs.declared.event.Label.TheVariants.{Local, Spawn, NewChan, Comm, NewRef, Get, Set, Enter, Cut, Print, Probe, Refuse, Pin, Attempt}
use Rattle.stab_journal.specs.declared.event.What.{What}
use Rattle.stab_journal.specs.declared.event.What.TheVariants.{Step, Undo, Release}
use Rattle.stab_journal.specs.Event.{IsName, IsCount, IsGeneration, IsWhat}
use Rattle.trace_text.specs.declared.form.Verb.{Verb}
use Rattle.trace_text.specs.declared.form.Verb.TheVariants as verbs
use Rattle.trace_text.specs.Form.{arity, verb_text}
use Rattle.trace_text.specs.Number.{signed_in}
use Rattle.trace_text.specs.Reading.{is_in_order}
use Rattle.trace_text.specs.Shape.{are_words, both, count_in, generation_in, is_word, name_in, seq_in, what_of}
use Rattle.trace_text.specs.Text.{numbers_of, verb_of}
use Rattle.text_lines.proofs.Numerals.{IsNumber, decimal_digits, number_in-decimal, number_in-some}
use Rattle.text_lines.proofs.Splits.{lacks, all_lack, lacks-digits}
use Rattle.trace_text.proofs.Numerals.{signed_in-decimal, signed_in-some}

-- a word without spaces and line feeds
pub record IsPlain (word : List ℕ) : Type 0 where
  pub some : is_word word ≡ true
  pub no_space : lacks 32 word ≡ true
  pub no_feed : lacks 10 word ≡ true

abbrev pub ArePlain : List (List ℕ) → Type 0
ArePlain [] = Unit {0}
ArePlain (word ∷ words) = IsPlain word × ArePlain words

pub are_words-plain : (words : List (List ℕ)) → ArePlain words → are_words words ≡ true
are_words-plain [] h = refl
are_words-plain (word ∷ words) h = and_from (is_word word) (are_words words) h.0.some (are_words-plain words h.1)

pub no_spaces : (words : List (List ℕ)) → ArePlain words → all_lack 32 words ≡ true
no_spaces [] h = refl
no_spaces (word ∷ words) h = and_from (lacks 32 word) (all_lack 32 words) h.0.no_space (no_spaces words h.1)

pub no_feeds : (words : List (List ℕ)) → ArePlain words → all_lack 10 words ≡ true
no_feeds [] h = refl
no_feeds (word ∷ words) h = and_from (lacks 10 word) (all_lack 10 words) h.0.no_feed (no_feeds words h.1)

word_some : (word : List ℕ) → 0 < length word → is_word word ≡ true
word_some [] h = absurd (omega arith)
word_some (b ∷ word) h = refl

pub plain : (n : ℕ) → n < 2 ^ 64 → IsPlain (decimal n)
plain n small = record {
  some = word_some (decimal n) (decimal_nonempty n small);
  no_space = lacks-digits 32 (decimal n) (omega arith) (decimal_digits n small);
  no_feed = lacks-digits 10 (decimal n) (omega arith) (decimal_digits n small);
}

signed_plain : (z : ℤ) → FitsSigned w64 z → IsPlain (signed_decimal z)
signed_plain (pos n) fits = let small : n < 2 ^ 63 = fits.sfits in plain n (omega arith)
signed_plain (negsuc n) fits =
    let small : n < 2 ^ 63 = fits.sfits in
    let digits = plain (suc n) (omega arith) in
    record { some = refl; no_space = digits.no_space; no_feed = digits.no_feed }

name_plain : (n : ℕ) → IsName n → IsPlain (decimal n)
name_plain n h = plain n (omega arith)

count_plain : (n : ℕ) → IsCount n → IsPlain (decimal n)
count_plain n h = plain n (omega arith)

generation_plain : (n : ℕ) → IsGeneration n → IsPlain (decimal n)
generation_plain n h = plain n (omega arith)

-- the words of verbs are plain
pub verb_plain : (v : Verb) → IsPlain (verb_text v)
verb_plain verbs.Local = record { some = refl; no_space = refl; no_feed = refl }
verb_plain verbs.Spawn = record { some = refl; no_space = refl; no_feed = refl }
verb_plain verbs.NewChan = record { some = refl; no_space = refl; no_feed = refl }
verb_plain verbs.Comm = record { some = refl; no_space = refl; no_feed = refl }
verb_plain verbs.NewRef = record { some = refl; no_space = refl; no_feed = refl }
verb_plain verbs.Get = record { some = refl; no_space = refl; no_feed = refl }
verb_plain verbs.Set = record { some = refl; no_space = refl; no_feed = refl }
verb_plain verbs.Enter = record { some = refl; no_space = refl; no_feed = refl }
verb_plain verbs.Cut = record { some = refl; no_space = refl; no_feed = refl }
verb_plain verbs.Print = record { some = refl; no_space = refl; no_feed = refl }
verb_plain verbs.Probe = record { some = refl; no_space = refl; no_feed = refl }
verb_plain verbs.Refuse = record { some = refl; no_space = refl; no_feed = refl }
verb_plain verbs.Pin = record { some = refl; no_space = refl; no_feed = refl }
verb_plain verbs.Attempt = record { some = refl; no_space = refl; no_feed = refl }
verb_plain verbs.Undo = record { some = refl; no_space = refl; no_feed = refl }
verb_plain verbs.Release = record { some = refl; no_space = refl; no_feed = refl }

-- the numbers of an event are plain
pub numbers_plain : (q : ℕ) (w : What) → q < 2 ^ 64 → IsWhat q w → ArePlain (numbers_of w)
numbers_plain q (Step (Local t n)) small h = (name_plain t.0 h.0, (count_plain n h.1, tt))
numbers_plain q (Step (Spawn t u)) small h = (name_plain t.0 h.0, (name_plain u.0 h.1, tt))
numbers_plain q (Step (NewChan t c)) small h = (name_plain t.0 h.0, (name_plain c.0 h.1, tt))
numbers_plain q (Step (Comm s r c)) small h = (name_plain s.0 h.0, (name_plain r.0 h.1, (name_plain c.0 h.2, tt)))
numbers_plain q (Step (NewRef t r)) small h = (name_plain t.0 h.0, (name_plain r.0 h.1, tt))
numbers_plain q (Step (Get t r)) small h = (name_plain t.0 h.0, (name_plain r.0 h.1, tt))
numbers_plain q (Step (Set t r)) small h = (name_plain t.0 h.0, (name_plain r.0 h.1, tt))
numbers_plain q (Step (Enter t)) small h = (name_plain t.0 h, tt)
numbers_plain q (Step (Cut t)) small h = (name_plain t.0 h, tt)
numbers_plain q (Step (Print t)) small h = (name_plain t.0 h, tt)
numbers_plain q (Step (Probe t i)) small h = (name_plain t.0 h.0, (signed_plain i h.1, tt))
numbers_plain q (Step (Refuse t)) small h = (name_plain t.0 h, tt)
numbers_plain q (Step (Pin t)) small h = (name_plain t.0 h, tt)
numbers_plain q (Step (Attempt t g)) small h = (name_plain t.0 h.0, (generation_plain g h.1, tt))
numbers_plain q (Undo t m) small h = (name_plain t.0 h.0, (plain m.0 (omega arith), tt))
numbers_plain q (Release k) small h = (count_plain k h, tt)

-- and as many as the verb wants
pub numbers_length : (w : What) → length (numbers_of w) ≡ arity (verb_of w)
numbers_length (Step (Local t n)) = refl
numbers_length (Step (Spawn t u)) = refl
numbers_length (Step (NewChan t c)) = refl
numbers_length (Step (Comm s r c)) = refl
numbers_length (Step (NewRef t r)) = refl
numbers_length (Step (Get t r)) = refl
numbers_length (Step (Set t r)) = refl
numbers_length (Step (Enter t)) = refl
numbers_length (Step (Cut t)) = refl
numbers_length (Step (Print t)) = refl
numbers_length (Step (Probe t i)) = refl
numbers_length (Step (Refuse t)) = refl
numbers_length (Step (Pin t)) = refl
numbers_length (Step (Attempt t g)) = refl
numbers_length (Undo t m) = refl
numbers_length (Release k) = refl

name_reads : (n : ℕ) → IsName n → name_in (decimal n) ≡ Some n
name_reads n h = number_in-decimal 1 4000000000 n h.0 h.1 (omega arith)

count_reads : (n : ℕ) → IsCount n → count_in (decimal n) ≡ Some n
count_reads n h = number_in-decimal 1 4294967295 n h.0 h.1 (omega arith)

generation_reads : (n : ℕ) → IsGeneration n → generation_in (decimal n) ≡ Some n
generation_reads n h = number_in-decimal 0 4294967295 n (omega arith) h (omega arith)

signed_reads : (z : ℤ) → FitsSigned w64 z → signed_in (signed_decimal z) ≡ Some z
signed_reads z h = signed_in-decimal z h

both_some : {A B C : Type 0} (a : Option A) (b : Option B) (f : A → B → C) (x : A) (y : B) → a ≡ Some x → b ≡ Some y → both a b f ≡ Some (f x y)
both_some a b f x y ea eb = ap (λ o. both o b f) ea ∙ ap (λ o. option_map (f x) o) eb

-- the words that an event writes are read as the event
pub what_of-written : (q : ℕ) (w : What) → q < 2 ^ 64 → IsWhat q w → what_of (verb_of w) (numbers_of w) ≡ Some w
what_of-written q (Step (Local t n)) small h = both_some (name_in (decimal t.0)) (count_in (decimal n)) (λ x y. Step (Local (record { 0 = x }) y)) t.0 n (name_reads t.0 h.0) (count_reads n h.1)
what_of-written q (Step (Spawn t u)) small h = both_some (name_in (decimal t.0)) (name_in (decimal u.0)) (λ x y. Step (Spawn (record { 0 = x }) (record { 0 = y }))) t.0 u.0 (name_reads t.0 h.0) (name_reads u.0 h.1)
what_of-written q (Step (NewChan t c)) small h = both_some (name_in (decimal t.0)) (name_in (decimal c.0)) (λ x y. Step (NewChan (record { 0 = x }) (record { 0 = y }))) t.0 c.0 (name_reads t.0 h.0) (name_reads c.0 h.1)
what_of-written q (Step (Comm s r c)) small h = ap (option_and_then (λ (x : ℕ). both (name_in (decimal r.0)) (name_in (decimal c.0)) (λ y z. Step (Comm (record { 0 = x }) (record { 0 = y }) (record { 0 = z }))))) (name_reads s.0 h.0) ∙ both_some (name_in (decimal r.0)) (name_in (decimal c.0)) (λ y z. Step (Comm s (record { 0 = y }) (record { 0 = z }))) r.0 c.0 (name_reads r.0 h.1) (name_reads c.0 h.2)
what_of-written q (Step (NewRef t r)) small h = both_some (name_in (decimal t.0)) (name_in (decimal r.0)) (λ x y. Step (NewRef (record { 0 = x }) (record { 0 = y }))) t.0 r.0 (name_reads t.0 h.0) (name_reads r.0 h.1)
what_of-written q (Step (Get t r)) small h = both_some (name_in (decimal t.0)) (name_in (decimal r.0)) (λ x y. Step (Get (record { 0 = x }) (record { 0 = y }))) t.0 r.0 (name_reads t.0 h.0) (name_reads r.0 h.1)
what_of-written q (Step (Set t r)) small h = both_some (name_in (decimal t.0)) (name_in (decimal r.0)) (λ x y. Step (Set (record { 0 = x }) (record { 0 = y }))) t.0 r.0 (name_reads t.0 h.0) (name_reads r.0 h.1)
what_of-written q (Step (Enter t)) small h = ap (option_map (λ (n : ℕ). Step (Enter (record { 0 = n })))) (name_reads t.0 h)
what_of-written q (Step (Cut t)) small h = ap (option_map (λ (n : ℕ). Step (Cut (record { 0 = n })))) (name_reads t.0 h)
what_of-written q (Step (Print t)) small h = ap (option_map (λ (n : ℕ). Step (Print (record { 0 = n })))) (name_reads t.0 h)
what_of-written q (Step (Probe t i)) small h = both_some (name_in (decimal t.0)) (signed_in (signed_decimal i)) (λ x y. Step (Probe (record { 0 = x }) y)) t.0 i (name_reads t.0 h.0) (signed_reads i h.1)
what_of-written q (Step (Refuse t)) small h = ap (option_map (λ (n : ℕ). Step (Refuse (record { 0 = n })))) (name_reads t.0 h)
what_of-written q (Step (Pin t)) small h = ap (option_map (λ (n : ℕ). Step (Pin (record { 0 = n })))) (name_reads t.0 h)
what_of-written q (Step (Attempt t g)) small h = both_some (name_in (decimal t.0)) (generation_in (decimal g)) (λ x y. Step (Attempt (record { 0 = x }) y)) t.0 g (name_reads t.0 h.0) (generation_reads g h.1)
what_of-written q (Undo t m) small h = both_some (name_in (decimal t.0)) (seq_in (decimal m.0)) (λ x y. Undo (record { 0 = x }) (record { 0 = y })) t.0 m.0 (name_reads t.0 h.0) (number_in-decimal 1 (2 ^ 64 - 1) m.0 h.1.0 (omega arith) (omega arith))
what_of-written q (Release k) small h = ap (option_map Release) (count_reads k h)

pub record Written (v : Verb) (words : List (List ℕ)) (w : What) : Type 0 where
  pub verb : v ≡ verb_of w
  pub numbers : words ≡ numbers_of w
  pub range : (q : ℕ) → is_in_order q w ≡ true → IsWhat q w

name_was : (word : List ℕ) (n : ℕ) → name_in word ≡ Some n → IsNumber 1 4000000000 word n
name_was word n e = number_in-some 1 4000000000 word n (omega arith) e

count_was : (word : List ℕ) (n : ℕ) → count_in word ≡ Some n → IsNumber 1 4294967295 word n
count_was word n e = number_in-some 1 4294967295 word n (omega arith) e

generation_was : (word : List ℕ) (n : ℕ) → generation_in word ≡ Some n → IsNumber 0 4294967295 word n
generation_was word n e = number_in-some 0 4294967295 word n (omega arith) e

seq_was : (word : List ℕ) (n : ℕ) → seq_in word ≡ Some n → IsNumber 1 (2 ^ 64 - 1) word n
seq_was word n e = number_in-some 1 (2 ^ 64 - 1) word n (omega arith) e

-- what a value that is there came from
pub mapped_from : {A B : Type 0} (o : Option A) (f : A → B) (b : B) → option_map f o ≡ Some b → (a : A) × (o ≡ Some a) × (f a ≡ b)
mapped_from None f b e = cc
mapped_from (Some a) f b e = (a, refl, cc)

pub then_from : {A B : Type 0} (o : Option A) (f : A → Option B) (b : B) → option_and_then f o ≡ Some b → (a : A) × (o ≡ Some a) × (f a ≡ Some b)
then_from None f b e = cc
then_from (Some a) f b e = (a, refl, e)

pub record Both {A B C : Type 0} (a : Option A) (b : Option B) (f : A → B → C) (c : C) : Type 0 where
  pub x : A
  pub y : B
  pub x_is : a ≡ Some x
  pub y_is : b ≡ Some y
  pub gives : f x y ≡ c

both_from : {A B C : Type 0} (a : Option A) (b : Option B) (f : A → B → C) (c : C) → both a b f ≡ Some c → Both a b f c
both_from None b f c e = cc
both_from (Some x) None f c e = cc
both_from (Some x) (Some y) f c e = record { x = x; y = y; x_is = refl; y_is = refl; gives = cc }

two : (a b c d : List ℕ) → a ≡ c → b ≡ d → a ∷ b ∷ [] ≡ c ∷ d ∷ []
two a b c d e f = cc

three : (a b c x y z : List ℕ) → a ≡ x → b ≡ y → c ≡ z → a ∷ b ∷ c ∷ [] ≡ x ∷ y ∷ z ∷ []
three a b c x y z e f g = cc

-- words that are read as an event are those that it writes
pub what_of-read : (v : Verb) (words : List (List ℕ)) (w : What) → what_of v words ≡ Some w → Written v words w
what_of-read verbs.Local (a ∷ b ∷ []) w e =
    let m = both_from (name_in a) (count_in b) (λ x y. Step (Local (record { 0 = x }) y)) w e in
    let t = name_was a m.x m.x_is in
    let u = count_was b m.y m.y_is in
    subst (Written verbs.Local (a ∷ b ∷ [])) m.gives (record { verb = refl; numbers = two a b _ _ t.spelled u.spelled; range = λ q _. ((t.low, t.high), (u.low, u.high)) })
what_of-read verbs.Spawn (a ∷ b ∷ []) w e =
    let m = both_from (name_in a) (name_in b) (λ x y. Step (Spawn (record { 0 = x }) (record { 0 = y }))) w e in
    let t = name_was a m.x m.x_is in
    let u = name_was b m.y m.y_is in
    subst (Written verbs.Spawn (a ∷ b ∷ [])) m.gives (record { verb = refl; numbers = two a b _ _ t.spelled u.spelled; range = λ q _. ((t.low, t.high), (u.low, u.high)) })
what_of-read verbs.NewChan (a ∷ b ∷ []) w e =
    let m = both_from (name_in a) (name_in b) (λ x y. Step (NewChan (record { 0 = x }) (record { 0 = y }))) w e in
    let t = name_was a m.x m.x_is in
    let u = name_was b m.y m.y_is in
    subst (Written verbs.NewChan (a ∷ b ∷ [])) m.gives (record { verb = refl; numbers = two a b _ _ t.spelled u.spelled; range = λ q _. ((t.low, t.high), (u.low, u.high)) })
what_of-read verbs.Comm (a ∷ b ∷ c ∷ []) w e =
    let p = then_from (name_in a) (λ x. both (name_in b) (name_in c) (λ y z. Step (Comm (record { 0 = x }) (record { 0 = y }) (record { 0 = z })))) w e in
    let s = name_was a p.0 p.1 in
    let m = both_from (name_in b) (name_in c) (λ y z. Step (Comm (record { 0 = p.0 }) (record { 0 = y }) (record { 0 = z }))) w p.2 in
    let t = name_was b m.x m.x_is in
    let u = name_was c m.y m.y_is in
    subst (Written verbs.Comm (a ∷ b ∷ c ∷ [])) m.gives (record { verb = refl; numbers = three a b c _ _ _ s.spelled t.spelled u.spelled; range = λ q _. ((s.low, s.high), (t.low, t.high), (u.low, u.high)) })
what_of-read verbs.NewRef (a ∷ b ∷ []) w e =
    let m = both_from (name_in a) (name_in b) (λ x y. Step (NewRef (record { 0 = x }) (record { 0 = y }))) w e in
    let t = name_was a m.x m.x_is in
    let u = name_was b m.y m.y_is in
    subst (Written verbs.NewRef (a ∷ b ∷ [])) m.gives (record { verb = refl; numbers = two a b _ _ t.spelled u.spelled; range = λ q _. ((t.low, t.high), (u.low, u.high)) })
what_of-read verbs.Get (a ∷ b ∷ []) w e =
    let m = both_from (name_in a) (name_in b) (λ x y. Step (Get (record { 0 = x }) (record { 0 = y }))) w e in
    let t = name_was a m.x m.x_is in
    let u = name_was b m.y m.y_is in
    subst (Written verbs.Get (a ∷ b ∷ [])) m.gives (record { verb = refl; numbers = two a b _ _ t.spelled u.spelled; range = λ q _. ((t.low, t.high), (u.low, u.high)) })
what_of-read verbs.Set (a ∷ b ∷ []) w e =
    let m = both_from (name_in a) (name_in b) (λ x y. Step (Set (record { 0 = x }) (record { 0 = y }))) w e in
    let t = name_was a m.x m.x_is in
    let u = name_was b m.y m.y_is in
    subst (Written verbs.Set (a ∷ b ∷ [])) m.gives (record { verb = refl; numbers = two a b _ _ t.spelled u.spelled; range = λ q _. ((t.low, t.high), (u.low, u.high)) })
what_of-read verbs.Enter (a ∷ []) w e =
    let m = mapped_from (name_in a) (λ n. Step (Enter (record { 0 = n }))) w e in
    let t = name_was a m.0 m.1 in
    subst (Written verbs.Enter (a ∷ [])) m.2 (record { verb = refl; numbers = ap (λ x. x ∷ []) t.spelled; range = λ q _. (t.low, t.high) })
what_of-read verbs.Cut (a ∷ []) w e =
    let m = mapped_from (name_in a) (λ n. Step (Cut (record { 0 = n }))) w e in
    let t = name_was a m.0 m.1 in
    subst (Written verbs.Cut (a ∷ [])) m.2 (record { verb = refl; numbers = ap (λ x. x ∷ []) t.spelled; range = λ q _. (t.low, t.high) })
what_of-read verbs.Print (a ∷ []) w e =
    let m = mapped_from (name_in a) (λ n. Step (Print (record { 0 = n }))) w e in
    let t = name_was a m.0 m.1 in
    subst (Written verbs.Print (a ∷ [])) m.2 (record { verb = refl; numbers = ap (λ x. x ∷ []) t.spelled; range = λ q _. (t.low, t.high) })
what_of-read verbs.Probe (a ∷ b ∷ []) w e =
    let m = both_from (name_in a) (signed_in b) (λ x y. Step (Probe (record { 0 = x }) y)) w e in
    let t = name_was a m.x m.x_is in
    let u = signed_in-some b m.y m.y_is in
    subst (Written verbs.Probe (a ∷ b ∷ [])) m.gives (record { verb = refl; numbers = two a b _ _ t.spelled u.spelled; range = λ q _. ((t.low, t.high), u.fits) })
what_of-read verbs.Refuse (a ∷ []) w e =
    let m = mapped_from (name_in a) (λ n. Step (Refuse (record { 0 = n }))) w e in
    let t = name_was a m.0 m.1 in
    subst (Written verbs.Refuse (a ∷ [])) m.2 (record { verb = refl; numbers = ap (λ x. x ∷ []) t.spelled; range = λ q _. (t.low, t.high) })
what_of-read verbs.Pin (a ∷ []) w e =
    let m = mapped_from (name_in a) (λ n. Step (Pin (record { 0 = n }))) w e in
    let t = name_was a m.0 m.1 in
    subst (Written verbs.Pin (a ∷ [])) m.2 (record { verb = refl; numbers = ap (λ x. x ∷ []) t.spelled; range = λ q _. (t.low, t.high) })
what_of-read verbs.Attempt (a ∷ b ∷ []) w e =
    let m = both_from (name_in a) (generation_in b) (λ x y. Step (Attempt (record { 0 = x }) y)) w e in
    let t = name_was a m.x m.x_is in
    let u = generation_was b m.y m.y_is in
    subst (Written verbs.Attempt (a ∷ b ∷ [])) m.gives (record { verb = refl; numbers = two a b _ _ t.spelled u.spelled; range = λ q _. ((t.low, t.high), u.high) })
what_of-read verbs.Undo (a ∷ b ∷ []) w e =
    let m = both_from (name_in a) (seq_in b) (λ x y. Undo (record { 0 = x }) (record { 0 = y })) w e in
    let t = name_was a m.x m.x_is in
    let u = seq_was b m.y m.y_is in
    subst (Written verbs.Undo (a ∷ b ∷ [])) m.gives (record { verb = refl; numbers = two a b _ _ t.spelled u.spelled; range = λ q before. ((t.low, t.high), (u.low, ltb-true m.y q before)) })
what_of-read verbs.Release (a ∷ []) w e =
    let m = mapped_from (count_in a) Release w e in
    let t = count_was a m.0 m.1 in
    subst (Written verbs.Release (a ∷ [])) m.2 (record { verb = refl; numbers = ap (λ x. x ∷ []) t.spelled; range = λ q _. (t.low, t.high) })
what_of-read _ _ w e = cc
