-- What the head of each form has that the definition gives.
use Rattle.std.proofs.Common.{◌≡◌, ℕ, suc, ◌+◌, ◌-◌, ◌<◌, ◌≤◌, Bool, true, false, List, [], ◌∷◌, ◌++◌, length, Option, Some, None, IfSome, refl, sym, ap, subst, ◌∙◌, arith, length-append, cond, not, ◌||◌, ◌⊎◌, inl, inr}
use Rattle.std.specs.Prelude.{Result, Ok, Err, IfOk, slice_get, option_map, replicate, if◌then◌else◌, bytes_eq, nat_le}
use Rattle.std.specs.List.{All, list_any, position_or_len}
use Rattle.std.proofs.lemmas.Bool.{true≢false}
use Rattle.std.proofs.lemmas.Bool.Decides.{eqb_tells, leb_tells}
use Rattle.std.proofs.lemmas.List.{length-replicate}
use Rattle.std.proofs.lemmas.List.Elements.{All-cons, All-nil}
use Rattle.stab_code.specs.declared.head.Head.{Head as Code}
use Rattle.stab_code.specs.declared.head.Head.TheVariants as code
use Rattle.stab_code.specs.Heads.{slots_of, text_of, variable_of}
use Rattle.stab_code.specs.Program.{FunctionParts, arity_of}
use Rattle.stab_code.specs.Syntax.{one_or_none}
use Rattle.stab_code.specs.Valid.{HasItem, head_parts}
use Rattle.stab_parse.specs.declared.symbol.ActWord.{ActWord}
use Rattle.stab_parse.specs.declared.symbol.ActWord.TheVariants as word
use Rattle.stab_parse.specs.declared.symbol.CallWord.TheVariants.{Spawn, Stable}
use Rattle.stab_parse.specs.declared.symbol.Span.{Span}
use Rattle.stab_parse.specs.declared.tree.Function.{Function}
use Rattle.stab_parse.specs.declared.tree.Head.{Head}
use Rattle.stab_parse.specs.declared.tree.Head.TheVariants as head
use Rattle.scope_check.specs.declared.fault.ScopeFault.{ScopeFault}
use Rattle.scope_check.specs.declared.fault.ScopeFault.TheVariants.{Arity, TooMany}
use Rattle.scope_check.specs.declared.seen.Variable.{Variable}
use Rattle.scope_check.specs.Forms.{items_of, act_named}
use Rattle.scope_check.specs.Limits.{max_texts}
use Rattle.scope_check.specs.Names.{named, text_at, slot_of, is_same}
use Rattle.scope_check.specs.Scope.{after, Met, head_met, slot_found, callee_found, function_named, has_arity, text_numbered}
use Rattle.scope_check.specs.Sound.{Fits, operands}

-- the slot is one of those that are seen
abbrev pub IsSeen : ℕ → List Variable → Type 0
IsSeen y [] = ⊥
IsSeen y (x ∷ seen) = (y ≡ x.slot) ⊎ IsSeen y seen

-- ---- texts

-- how the texts grew
pub record Grew (before after : List (List ℕ)) : Type 0 where
  pub more : length before ≤ length after
  pub within : length before ≤ max_texts → length after ≤ max_texts

found-case : (b : Bool) (text : List ℕ) (texts : List (List ℕ)) → (list_any (bytes_eq text) texts ≡ true → position_or_len (bytes_eq text) texts < length texts) → (b || list_any (bytes_eq text) texts) ≡ true → cond (not b) (1 + position_or_len (bytes_eq text) texts) 0 < suc (length texts)
found-case true text texts below e = omega arith
found-case false text texts below e = let h = below e in omega arith

found-below : (text : List ℕ) (texts : List (List ℕ)) → list_any (bytes_eq text) texts ≡ true → position_or_len (bytes_eq text) texts < length texts
found-below text [] e = absurd cc
found-below text (x ∷ texts) e = found-case (bytes_eq text x) text texts (found-below text texts) e

-- the number of a text that was found or added
record Numbered (texts : List (List ℕ)) (n : ℕ × List (List ℕ)) : Type 0 where
  pub below : n.0 < length n.1
  pub grew : Grew texts n.1

few : (n m : ℕ) → n < max_texts → m ≡ n + 1 → m ≤ max_texts
few n m h e = omega arith

numbered-case : (span : Span) (text : List ℕ) (texts : List (List ℕ)) (there full : Bool) → list_any (bytes_eq text) texts ≡ there → nat_le max_texts (length texts) ≡ full → IfOk (if there then Ok (position_or_len (bytes_eq text) texts, texts) else if full then Err (TooMany span.start) else Ok (length texts, texts ++ text ∷ [])) (Numbered texts)
numbered-case span text texts true full e f = record { below = found-below text texts e; grew = record { more = omega arith; within = λ h. h } }
numbered-case span text texts false true e f = tt
numbered-case span text texts false false e f =
    let some : length (texts ++ text ∷ []) ≡ length texts + 1 = length-append texts (text ∷ []) in
    record { below = omega arith; grew = record { more = omega arith; within = λ h. few (length texts) (length (texts ++ text ∷ [])) (elim (leb_tells max_texts (length texts)) [ inl w ↦ absurd (true≢false (sym w.0 ∙ f)) | inr w ↦ w.1 ]) some } }

text-numbered : (span : Span) (text : List ℕ) (texts : List (List ℕ)) → IfOk (text_numbered span text texts) (Numbered texts)
text-numbered span text texts = numbered-case span text texts (list_any (bytes_eq text) texts) (nat_le max_texts (length texts)) refl refl

pub grew-same : (texts : List (List ℕ)) → Grew texts texts
grew-same texts = record { more = omega arith; within = λ h. h }

pub grew-on : (a b c : List (List ℕ)) → Grew a b → Grew b c → Grew a c
grew-on a b c g h = record { more = let m = g.more in let n = h.more in omega arith; within = λ w. h.within (g.within w) }

-- ---- the head of a form

-- the functions of a program take as many arguments as those of the syntax
abbrev pub Agree : List Function → List FunctionParts → Type 0
Agree fs functions = (n : ℕ) → option_map arity_of (slice_get functions n) ≡ option_map (λ f. length f.params) (slice_get fs n)

abbrev pub FormFits : List FunctionParts → ℕ → Code → ℕ → Type 0
FormFits functions texts h parts = (head_parts functions h ≡ Some parts) × IfSome (text_of h) (λ t. t.0 < texts) × HasItem h

pub record HeadFacts (fs : List Function) (seen : List Variable) (met : Met) (parts : ℕ) (own : Code × Met) : Type 0 where
  pub fits : (functions : List FunctionParts) → Agree fs functions → head_parts functions own.0 ≡ Some parts
  pub text : IfSome (text_of own.0) (λ t. t.0 < length own.1.texts)
  pub item : HasItem own.0
  pub slots : (k : ℕ) × (slots_of own.0 ≡ replicate k None)
  pub named : All (λ y. IsSeen y seen) (one_or_none (variable_of own.0))
  pub lets : own.1.lets ≡ met.lets
  pub texts : Grew met.texts own.1.texts

-- a head that names nothing
record Simple (h : Code) (parts : ℕ) : Type 0 where
  fits : (functions : List FunctionParts) → head_parts functions h ≡ Some parts
  text : text_of h ≡ None
  item : HasItem h
  slots : slots_of h ≡ []
  named : variable_of h ≡ None

simple-act : (w : ActWord) → Simple (act_named w) (operands w)
simple-act word.Ref = record { fits = λ _. refl; text = refl; item = tt; slots = refl; named = refl }
simple-act word.Get = record { fits = λ _. refl; text = refl; item = tt; slots = refl; named = refl }
simple-act word.Recv = record { fits = λ _. refl; text = refl; item = tt; slots = refl; named = refl }
simple-act word.Print = record { fits = λ _. refl; text = refl; item = tt; slots = refl; named = refl }
simple-act word.Fst = record { fits = λ _. refl; text = refl; item = tt; slots = refl; named = refl }
simple-act word.Snd = record { fits = λ _. refl; text = refl; item = tt; slots = refl; named = refl }
simple-act word.Set = record { fits = λ _. refl; text = refl; item = tt; slots = refl; named = refl }
simple-act word.Send = record { fits = λ _. refl; text = refl; item = tt; slots = refl; named = refl }
simple-act word.Pick = record { fits = λ _. refl; text = refl; item = tt; slots = refl; named = refl }
simple-act word.Stabilize = record { fits = λ _. refl; text = refl; item = tt; slots = refl; named = refl }
simple-act word.Cut = record { fits = λ _. refl; text = refl; item = tt; slots = refl; named = refl }
simple-act word.Probe = record { fits = λ _. refl; text = refl; item = tt; slots = refl; named = refl }
simple-act word.Pin = record { fits = λ _. refl; text = refl; item = tt; slots = refl; named = refl }
simple-act word.Attempt = record { fits = λ _. refl; text = refl; item = tt; slots = refl; named = refl }

-- a head that names the function with this number
record Calls (own : ℕ → Code) (n : ℕ) : Type 0 where
  fits : (functions : List FunctionParts) → head_parts functions (own n) ≡ option_map arity_of (slice_get functions n)
  text : text_of (own n) ≡ None
  item : HasItem (own n)
  slots : slots_of (own n) ≡ []
  named : variable_of (own n) ≡ None

-- the slot of a name is one of those that are seen
slot-case : (x : Variable) (xs : List Variable) (same : Bool) (o : Option ℕ) → IfSome o (λ y. IsSeen y xs) → IfSome (if same then Some x.slot else o) (λ y. IsSeen y (x ∷ xs))
slot-case x xs true o rest = inl refl
slot-case x xs false None rest = tt
slot-case x xs false (Some slot) rest = inr rest

slot-seen : (bytes : List ℕ) (name : Span) (seen : List Variable) → IfSome (slot_of bytes seen name) (λ y. IsSeen y seen)
slot-seen bytes name [] = tt
slot-seen bytes name (x ∷ xs) = slot-case x xs (is_same bytes x.name name) (slot_of bytes xs name) (slot-seen bytes name xs)

-- a function that takes so many arguments
pub arity-is : (found : Option Function) (n : ℕ) → has_arity found n ≡ true → option_map (λ f. length f.params) found ≡ Some n
arity-is None n e = absurd cc
arity-is (Some f) n e = elim (eqb_tells (length f.params) n) [ inl w ↦ ap Some w.1 | inr w ↦ absurd (true≢false (sym e ∙ w.0)) ]

module _ (fs : List Function) (seen : List Variable) (met : Met) (parts : ℕ) where
  abbrev Facts : Code × Met → Type 0
  Facts = HeadFacts fs seen met parts

  simple : (h : Code) (n : ℕ) → parts ≡ n → Simple h n → Facts (h, met)
  simple h n e s = record {
    fits = λ functions agree. s.fits functions ∙ ap Some (sym e);
    text = subst (λ o. IfSome o (λ t. t.0 < length met.texts)) (sym s.text) tt;
    item = s.item;
    slots = (0, s.slots);
    named = subst (λ o. All (λ y. IsSeen y seen) (one_or_none o)) (sym s.named) (All-nil (λ y. IsSeen y seen));
    lets = refl;
    texts = grew-same met.texts;
  }

  text-facts : (m : Result (ℕ × List (List ℕ)) ScopeFault) → parts ≡ 0 → IfOk m (Numbered met.texts) → IfOk (after m (λ text. Ok (code.Text (record { 0 = text.0 }), record met { texts = text.1 }))) Facts
  text-facts (Ok n) e facts = record {
    fits = λ functions agree. ap Some (sym e);
    text = facts.below;
    item = tt;
    slots = (0, refl);
    named = All-nil (λ y. IsSeen y seen);
    lets = refl;
    texts = facts.grew;
  }
  text-facts (Err f) e facts = tt

  variable-case : (name : Span) (o : Option ℕ) → parts ≡ 0 → IfSome o (λ y. IsSeen y seen) → IfOk (after (slot_found name o) (λ slot. Ok (code.Var slot, met))) Facts
  variable-case name None e from = tt
  variable-case name (Some slot) e from = record {
    fits = λ functions agree. ap Some (sym e);
    text = tt;
    item = tt;
    slots = (0, refl);
    named = All-cons (λ y. IsSeen y seen) slot [] from (All-nil (λ y. IsSeen y seen));
    lets = refl;
    texts = grew-same met.texts;
  }

  arity-case : (own : ℕ → Code) (n : ℕ) → Calls own n → (name : Span) (right : Bool) → has_arity (slice_get fs n) parts ≡ right → IfOk (after (if right then Ok n else Err (Arity name.start)) (λ f. Ok (own f, met))) Facts
  arity-case own n calls name true e = record {
    fits = λ functions agree. calls.fits functions ∙ agree n ∙ arity-is (slice_get fs n) parts e;
    text = subst (λ o. IfSome o (λ t. t.0 < length met.texts)) (sym calls.text) tt;
    item = calls.item;
    slots = (0, calls.slots);
    named = subst (λ o. All (λ y. IsSeen y seen) (one_or_none o)) (sym calls.named) (All-nil (λ y. IsSeen y seen));
    lets = refl;
    texts = grew-same met.texts;
  }
  arity-case own n calls name false e = tt

  -- a call of a function that takes so many arguments
  callee-case : (own : ℕ → Code) → ((n : ℕ) → Calls own n) → (name : Span) (o : Option ℕ) → IfOk (after (callee_found fs name parts o) (λ f. Ok (own f, met))) Facts
  callee-case own calls name None = tt
  callee-case own calls name (Some n) = arity-case own n (calls n) name (has_arity (slice_get fs n) parts) refl

-- a block has its items and its last form
items-and-last : {n : ℕ} (parts : ℕ) → 1 < parts → n ≡ parts - 1 → n + 1 ≡ parts
items-and-last parts h e = omega arith

items-there : {n : ℕ} (parts : ℕ) → 1 < parts → n ≡ parts - 1 → 0 < n
items-there parts h e = omega arith

pub head-facts : (bytes : List ℕ) (fs : List Function) (seen : List Variable) (met : Met) (h : Head) (parts : ℕ) → Fits bytes h parts → items_of h ≡ [] → IfOk (head_met bytes fs seen met h parts) (HeadFacts fs seen met parts)
head-facts bytes fs seen met head.Unit parts fits e = simple fs seen met parts code.Unit 0 fits (record { fits = λ _. refl; text = refl; item = tt; slots = refl; named = refl })
head-facts bytes fs seen met (head.Truth b) parts fits e = simple fs seen met parts (code.Truth b) 0 fits (record { fits = λ _. refl; text = refl; item = tt; slots = refl; named = refl })
head-facts bytes fs seen met (head.Int n) parts fits e = simple fs seen met parts (code.Int n) 0 fits (record { fits = λ _. refl; text = refl; item = tt; slots = refl; named = refl })
head-facts bytes fs seen met (head.Text span) parts fits e =
    text-facts fs seen met parts (text_numbered span (text_at bytes span) met.texts) fits.0 (text-numbered span (text_at bytes span) met.texts)
head-facts bytes fs seen met (head.Variable name) parts fits e =
    variable-case fs seen met parts name (slot_of bytes seen name) fits (slot-seen bytes name seen)
head-facts bytes fs seen met head.Block parts fits e =
    let items : length (replicate {A = Option ℕ} (parts - 1) None) ≡ parts - 1 = length-replicate (parts - 1) None in
    record {
      fits = λ functions agree. ap Some (items-and-last parts fits items);
      text = tt;
      item = items-there parts fits items;
      slots = (parts - 1, refl);
      named = All-nil (λ y. IsSeen y seen);
      lets = refl;
      texts = grew-same met.texts;
    }
head-facts bytes fs seen met (head.LetBlock names) parts fits e = let some = fits.0 in absurd (omega (arith, ap length e))
head-facts bytes fs seen met head.If parts fits e = simple fs seen met parts code.If 3 fits (record { fits = λ _. refl; text = refl; item = tt; slots = refl; named = refl })
head-facts bytes fs seen met (head.Two op) parts fits e = simple fs seen met parts (code.Two op) 2 fits (record { fits = λ _. refl; text = refl; item = tt; slots = refl; named = refl })
head-facts bytes fs seen met head.Not parts fits e = simple fs seen met parts code.Not 1 fits (record { fits = λ _. refl; text = refl; item = tt; slots = refl; named = refl })
head-facts bytes fs seen met head.Neg parts fits e = simple fs seen met parts code.Neg 1 fits (record { fits = λ _. refl; text = refl; item = tt; slots = refl; named = refl })
head-facts bytes fs seen met head.Pair parts fits e = simple fs seen met parts code.Pair 2 fits (record { fits = λ _. refl; text = refl; item = tt; slots = refl; named = refl })
head-facts bytes fs seen met (head.Call name) parts fits e =
    callee-case fs seen met parts (λ f. code.Call (record { 0 = f })) (λ n. record { fits = λ _. refl; text = refl; item = tt; slots = refl; named = refl }) name (function_named bytes fs (named bytes name))
head-facts bytes fs seen met (head.Start Spawn name) parts fits e =
    callee-case fs seen met parts (λ f. code.Spawn (record { 0 = f })) (λ n. record { fits = λ _. refl; text = refl; item = tt; slots = refl; named = refl }) name (function_named bytes fs (named bytes name))
head-facts bytes fs seen met (head.Start Stable name) parts fits e =
    callee-case fs seen met parts (λ f. code.Stable (record { 0 = f })) (λ n. record { fits = λ _. refl; text = refl; item = tt; slots = refl; named = refl }) name (function_named bytes fs (named bytes name))
head-facts bytes fs seen met (head.NewChan ty) parts fits e = simple fs seen met parts (code.NewChan ty) 0 fits (record { fits = λ _. refl; text = refl; item = tt; slots = refl; named = refl })
head-facts bytes fs seen met (head.Act w) parts fits e = simple fs seen met parts (act_named w) (operands w) fits (simple-act w)
