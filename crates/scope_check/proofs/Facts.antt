-- What the tree of each form has that the definition gives.
use Rattle.std.proofs.Common.{◌≡◌, ℕ, zero, suc, ◌+◌, ◌-◌, ◌<◌, ◌≤◌, Bool, true, false, List, [], ◌∷◌, ◌++◌, length, Option, Some, None, IfSome, refl, sym, ap, subst, ◌∙◌, arith, ◌⊎◌, inl, inr}
use Rattle.std.specs.Prelude.{Ok, Err, IfOk, slice_get, reverse, min, max, if◌then◌else◌, nat_le}
use Rattle.std.specs.List.{All, range_with_len}
use Rattle.std.proofs.lemmas.Bool.{true≢false}
use Rattle.std.proofs.lemmas.Bool.Decides.{leb_tells}
use Rattle.std.proofs.lemmas.List.{length-reverse, reverse-append}
use Rattle.std.proofs.lemmas.Option.{slice_get_within}
use Rattle.std.proofs.lemmas.List.Elements.{All-append, All-nil}
use Rattle.stab_base.specs.declared.numbers.TextId.{TextId}
use Rattle.stab_code.specs.declared.head.Head.{Head as Code}
use Rattle.stab_code.specs.declared.head.Head.TheVariants as code
use Rattle.stab_code.specs.Heads.{slots_of, text_of, variable_of}
use Rattle.stab_code.specs.Layout.{size_of as tree_size, size_of_all}
use Rattle.stab_code.specs.Program.{FunctionParts}
use Rattle.stab_code.specs.Syntax.{deepest, depth_from, depth_of, lets_from, lets_of, left_open, one_or_none, open_from, open_in, with_own}
use Rattle.stab_code.specs.Trees.{Tree, Trees, tree, none, more}
use Rattle.stab_code.specs.Valid.{HasItem, head_parts}
use Rattle.stab_code.specs.EachForm.{AllForms, AllFormsIn}
use Rattle.stab_parse.specs.declared.symbol.Span.{Span}
use Rattle.stab_parse.specs.declared.tree.Function.{Function}
use Rattle.stab_parse.specs.declared.tree.Head.{Head}
use Rattle.stab_parse.specs.declared.tree.Head.TheVariants as head
use Rattle.stab_parse.specs.Forms.{Form, form, Parts, no_parts, next_part}
use Rattle.stab_parse.specs.FormList.{depth_of as form_depth, depth_of_parts as parts_depth}
use Rattle.scope_check.specs.declared.fault.ScopeFault.TheVariants.{TooMany}
use Rattle.scope_check.specs.declared.seen.Variable.{Variable}
use Rattle.scope_check.specs.Forms.{number_of, items_of}
use Rattle.scope_check.specs.Limits.{max_lets}
use Rattle.scope_check.specs.Names.{named}
use Rattle.scope_check.specs.Placed.{size_of, size_of_parts}
use Rattle.scope_check.specs.Scope.{after, in_order, Met, Behind, behind, part_met, form_scoped, parts_scoped, head_met, with_slots, let_numbered}
use Rattle.scope_check.specs.Sound.{Fits, IsSound, AreSound}
use Rattle.scope_check.proofs.Joined.{count-in_order, join, in_order-join, size-join}
use Rattle.scope_check.proofs.OwnSlots.{values, values-next, length-values, deepest-last, AreSame, no-lets, with_own-item, with_own-last, IsAmong, among-left, among-last, Left, All-mapped, open-last, open-item, range-join}
use Rattle.scope_check.proofs.After.{IfOk-after}
use Rattle.scope_check.proofs.Made.{slots-known}
use Rattle.scope_check.proofs.HeadFacts.{Agree, FormFits, Grew, HeadFacts, IsSeen, grew-on, grew-same, head-facts}

-- ---- all forms of trees one after another

AllForms-join : (P : Code → ℕ → Type 0) (a b : Trees) → AllFormsIn P a → AllFormsIn P b → AllFormsIn P (join a b)
AllForms-join P none b ha hb = hb
AllForms-join P (more t a) b ha hb = (ha.0, AllForms-join P a b ha.1 hb)

pub AllForms-next : (P : Code → ℕ → Type 0) (t : Tree) (xs : List Tree) → AllForms P t → AllFormsIn P (in_order xs) → AllFormsIn P (in_order (t ∷ xs))
AllForms-next P t xs own all = subst (AllFormsIn P) (sym (in_order-join xs (more t none))) (AllForms-join P (in_order xs) (more t none) all (own, tt))

-- ---- lets in a row

lets-on : (base a b c : ℕ) → a ≤ b → b ≤ c → range_with_len (base + a) (b - a) ++ range_with_len (base + b) (c - b) ≡ range_with_len (base + a) (c - a)
lets-on base a b c h k =
    ap (λ n. range_with_len (base + a) (b - a) ++ range_with_len n (c - b)) (omega arith) ∙ range-join (base + a) (b - a) (c - b) ∙ ap (range_with_len (base + a)) (omega arith)

one-left : (a : ℕ) → (a + 1) - a ≡ 1
one-left a = omega arith

one-let : (base a : ℕ) → range_with_len (base + a) ((a + 1) - a) ≡ (base + a) ∷ []
one-let base a = ap (range_with_len (base + a)) (one-left a)

record Let (arity : ℕ) (met : Met) (x : Variable × Met) : Type 0 where
  pub slot : x.0.slot ≡ arity + met.lets
  pub lets : x.1.lets ≡ met.lets + 1
  pub texts : x.1.texts ≡ met.texts
  pub few : x.1.lets ≤ max_lets

one-let-more : (n : ℕ) → n < max_lets → n + 1 ≤ max_lets
one-let-more n h = omega arith

let-case : (arity : ℕ) (name : Span) (met : Met) (full : Bool) → nat_le max_lets met.lets ≡ full → IfOk (if full then Err (TooMany name.start) else Ok (record { name = name; slot = arity + met.lets }, record met { lets = met.lets + 1 })) (Let arity met)
let-case arity name met true e = tt
let-case arity name met false e = record {
  slot = refl;
  lets = refl;
  texts = refl;
  few = elim (leb_tells max_lets met.lets) [ inl w ↦ absurd (true≢false (sym w.0 ∙ e)) | inr w ↦ one-let-more met.lets w.1 ];
}

let-facts : (arity : ℕ) (name : Span) (met : Met) → IfOk (let_numbered arity name met) (Let arity met)
let-facts arity name met = let-case arity name met (nat_le max_lets met.lets) refl

plus-none : (n : ℕ) → n + 0 ≡ n
plus-none n = omega arith

below : {a b : ℕ} (n : ℕ) → b ≤ n → a ≤ b → a ≤ n
below n h k = omega arith

text-below : (o : Option TextId) (a b : ℕ) → a ≤ b → IfSome o (λ t. t.0 < a) → IfSome o (λ t. t.0 < b)
text-below None a b h t = tt
text-below (Some x) a b h t = omega arith

pub none-there : {A : Type 0} (xs : List A) (k : ℕ) → slice_get xs k ≡ None → length xs ≤ k
none-there [] k e = omega arith
none-there (x ∷ xs) zero e = absurd cc
none-there (x ∷ xs) (suc k) e = let h = none-there xs k e in omega arith

sizes-joined : (a b c d : ℕ) → a ≡ c → b ≡ d → a + (b + 0) ≡ c + d
sizes-joined a b c d e f = omega arith

more-by-one : (n : ℕ) → n ≤ n + 1
more-by-one n = omega arith

no-more : (n : ℕ) → n - n ≡ 0
no-more n = omega arith

same-more : (a b c : List (List ℕ)) → a ≡ b → length a ≤ length c → length b ≤ length c
same-more a b c e h = subst (λ l. length l ≤ length c) e h

full-block : (d : Behind) (names : List (Option Span)) (parts : ℕ) → length d.slots ≡ min parts (length names) → parts ≡ length names + 1 → length (reverse d.slots) ≡ length names
full-block d names parts e h = omega (arith, length-reverse d.slots)

empty-list : {A : Type 0} (xs : List A) → length xs ≡ 0 → xs ≡ []
empty-list [] e = refl
empty-list (x ∷ xs) e = absurd (omega arith)

no-slots : (d : Behind) (names : List (Option Span)) (parts : ℕ) → length d.slots ≡ min parts (length names) → names ≡ [] → d.slots ≡ []
no-slots d names parts e nil = empty-list d.slots (omega (arith, ap length nil))

-- ---- forms

module _ (fs : List Function) (arity : ℕ) where
  pub record FormFacts (seen : List Variable) (met : Met) (f : Form) (t : Tree × Met) : Type 0 where
    pub depth : depth_of t.0 ≡ form_depth f
    pub size : tree_size t.0 ≡ size_of f
    pub more : met.lets ≤ t.1.lets
    pub few : met.lets ≤ max_lets → t.1.lets ≤ max_lets
    pub lets : lets_of t.0 ≡ range_with_len (arity + met.lets) (t.1.lets - met.lets)
    pub opened : All (λ y. IsSeen y seen) (open_in t.0)
    pub forms : (functions : List FunctionParts) → Agree fs functions → (n : ℕ) → length t.1.texts ≤ n → AllForms (FormFits functions n) t.0
    pub texts : Grew met.texts t.1.texts

  record PartsFacts (names : List (Option Span)) (seen : List Variable) (met : Met) (ps : Parts) (d : Behind) : Type 0 where
    pub count : length d.trees ≡ number_of ps
    pub slots : length d.slots ≡ min (number_of ps) (length names)
    pub depth : deepest (values depth_from d.trees) ≡ parts_depth ps
    pub size : size_of_all (in_order d.trees) ≡ size_of_parts ps
    pub more : met.lets ≤ d.met.lets
    pub few : met.lets ≤ max_lets → d.met.lets ≤ max_lets
    pub lets : with_own (reverse d.slots) (values lets_from d.trees) ≡ range_with_len (arity + met.lets) (d.met.lets - met.lets)
    pub sees : (y : ℕ) → IsSeen y d.seen → IsAmong y (reverse d.slots) ⊎ IsSeen y seen
    pub opened : All (λ y. IsSeen y seen) (left_open (reverse d.slots) (values open_from d.trees))
    pub forms : (functions : List FunctionParts) → Agree fs functions → (n : ℕ) → length d.met.texts ≤ n → AllFormsIn (FormFits functions n) (in_order d.trees)
    pub texts : Grew met.texts d.met.texts

  -- a form whose parts are complete
  finish : (seen : List Variable) (met : Met) (at : ℕ) (h : Head) (parts : Parts) (own : Met) (d : Behind) (head : Code) → PartsFacts (items_of h) seen own parts d → own.lets ≡ met.lets → Grew met.texts own.texts
      → AreSame (slots_of head) (reverse d.slots) → ((functions : List FunctionParts) → Agree fs functions → head_parts functions head ≡ Some (number_of parts)) → IfSome (text_of head) (λ t. t.0 < length own.texts) → HasItem head
      → All (λ y. IsSeen y seen) (one_or_none (variable_of head)) → FormFacts seen met (form at h parts) (tree head (in_order d.trees), d.met)
  finish seen met at h parts own d head facts lets texts slots fits text item named = record {
    depth = omega (arith, facts.depth);
    size = omega (arith, facts.size);
    more = omega (arith, facts.more);
    few = λ h. facts.few (subst (λ n. n ≤ max_lets) (sym lets) h);
    lets = slots.lets (values lets_from d.trees) ∙ facts.lets ∙ ap (λ n. range_with_len (arity + n) (d.met.lets - n)) lets;
    opened = All-append (λ y. IsSeen y seen) (one_or_none (variable_of head)) (left_open (slots_of head) (values open_from d.trees)) named
        (subst (All (λ y. IsSeen y seen)) (sym (slots.opened (values open_from d.trees))) facts.opened);
    forms = λ functions agree n h. ((fits functions agree ∙ ap Some (sym (count-in_order d.trees none ∙ plus-none (length d.trees) ∙ facts.count)), text-below (text_of head) (length own.texts) n (below n h facts.texts.more) text, item), facts.forms functions agree n h);
    texts = grew-on met.texts own.texts d.met.texts texts facts.texts;
  }

  next-forms : (functions : List FunctionParts) (n : ℕ) (t : Tree) (xs : List Tree) → AllForms (FormFits functions n) t → AllFormsIn (FormFits functions n) (in_order xs) → AllFormsIn (FormFits functions n) (in_order (t ∷ xs))
  next-forms functions n t xs own all = AllForms-next (FormFits functions n) t xs own all

  next-depth : (ps : Parts) (f : Form) (t : Tree) (xs : List Tree) → deepest (values depth_from xs) ≡ parts_depth ps → depth_of t ≡ form_depth f → deepest (values depth_from (t ∷ xs)) ≡ parts_depth (next_part ps f)
  next-depth ps f t xs e own =
      ap deepest (values-next depth_from t xs) ∙ deepest-last (values depth_from xs) (depth_of t) ∙ ap (λ d. max d (depth_of t)) e ∙ ap (max (parts_depth ps)) own

  next-size : (ps : Parts) (f : Form) (t : Tree) (xs : List Tree) → size_of_all (in_order xs) ≡ size_of_parts ps → tree_size t ≡ size_of f → size_of_all (in_order (t ∷ xs)) ≡ size_of_parts (next_part ps f)
  next-size ps f t xs e own = ap size_of_all (in_order-join xs (more t none)) ∙ size-join (in_order xs) (more t none) ∙ sizes-joined (size_of_all (in_order xs)) (tree_size t) (size_of_parts ps) (size_of f) e own

  -- so many items are no more than the parts
  own-short : (slots : List (Option ℕ)) (k len : ℕ) (xs : List Tree) → length slots ≡ min k len → length xs ≡ k → length (reverse slots) ≤ length (values lets_from xs)
  own-short slots k len xs e count = omega (arith, length-reverse slots, length-values lets_from xs)

  own-short-open : (slots : List (Option ℕ)) (k len : ℕ) (xs : List Tree) → length slots ≡ min k len → length xs ≡ k → length (reverse slots) ≤ length (values open_from xs)
  own-short-open slots k len xs e count = omega (arith, length-reverse slots, length-values open_from xs)

  own-full : (slots : List (Option ℕ)) (k len : ℕ) (xs : List Tree) → length slots ≡ min k len → length xs ≡ k → k < len → length (reverse slots) ≡ length (values lets_from xs)
  own-full slots k len xs e count h = omega (arith, length-reverse slots, length-values lets_from xs)

  own-full-open : (slots : List (Option ℕ)) (k len : ℕ) (xs : List Tree) → length slots ≡ min k len → length xs ≡ k → k < len → length (reverse slots) ≡ length (values open_from xs)
  own-full-open slots k len xs e count h = omega (arith, length-reverse slots, length-values open_from xs)

  reverse-next : {A : Type 0} (x : A) (xs : List A) → reverse (x ∷ xs) ≡ reverse xs ++ x ∷ []
  reverse-next x xs = reverse-append (x ∷ []) xs

  -- what the next part leaves open, where lets so far are seen
  open-left : (seen : List Variable) (d : Behind) (v : List ℕ) → All (λ y. IsSeen y d.seen) v → ((y : ℕ) → IsSeen y d.seen → IsAmong y (reverse d.slots) ⊎ IsSeen y seen) → All (Left (λ y. IsSeen y seen) (reverse d.slots)) v
  open-left seen d v own sees =
      All-mapped (λ y. IsSeen y d.seen) (Left (λ y. IsSeen y seen) (reverse d.slots)) v (λ y h outside. elim (sees y h) [ inl among ↦ absurd (outside among) | inr s ↦ s ]) own

  -- one item more
  sees-later : (seen : List Variable) (d : Behind) (o : Option ℕ) → ((y : ℕ) → IsSeen y d.seen → IsAmong y (reverse d.slots) ⊎ IsSeen y seen) → (y : ℕ) → IsSeen y d.seen → IsAmong y (reverse (o ∷ d.slots)) ⊎ IsSeen y seen
  sees-later seen d o sees y h =
      elim (sees y h) [
        | inl among ↦ inl (subst (IsAmong y) (sym (reverse-next o d.slots)) (among-left y (reverse d.slots) (o ∷ []) among))
        | inr s ↦ inr s
      ]

  sees-let : (seen : List Variable) (d : Behind) (x : Variable) → ((y : ℕ) → IsSeen y d.seen → IsAmong y (reverse d.slots) ⊎ IsSeen y seen) → (y : ℕ) → IsSeen y (x ∷ d.seen) → IsAmong y (reverse (Some x.slot ∷ d.slots)) ⊎ IsSeen y seen
  sees-let seen d x sees y h =
      elim h [
        | inl e ↦ inl (subst (IsAmong y) (sym (reverse-next (Some x.slot) d.slots)) (subst (λ z. IsAmong y (reverse d.slots ++ Some z ∷ [])) e (among-last y (reverse d.slots))))
        | inr s ↦ sees-later seen d (Some x.slot) sees y s
      ]

  -- a part that is no item
  next-last : (names : List (Option Span)) (seen : List Variable) (met : Met) (ps : Parts) (f : Form) (d : Behind) (t : Tree × Met) → length names ≤ number_of ps → PartsFacts names seen met ps d → FormFacts d.seen d.met f t
      → PartsFacts names seen met (next_part ps f) (behind (t.0 ∷ d.trees) d.seen d.slots t.1)
  next-last names seen met ps f d t all-items facts own = record {
    count = omega (arith, facts.count);
    slots = omega (arith, facts.slots);
    depth = next-depth ps f t.0 d.trees facts.depth own.depth;
    size = next-size ps f t.0 d.trees facts.size own.size;
    more = omega (arith, facts.more, own.more);
    few = λ h. own.few (facts.few h);
    lets = ap (with_own (reverse d.slots)) (values-next lets_from t.0 d.trees)
        ∙ with_own-last (reverse d.slots) (values lets_from d.trees) (lets_of t.0) (own-short d.slots (number_of ps) (length names) d.trees facts.slots facts.count)
        ∙ ap (λ l. l ++ lets_of t.0) facts.lets
        ∙ ap (λ l. range_with_len (arity + met.lets) (d.met.lets - met.lets) ++ l) own.lets
        ∙ lets-on arity met.lets d.met.lets t.1.lets facts.more own.more;
    sees = facts.sees;
    opened = subst (λ l. All (λ y. IsSeen y seen) (left_open (reverse d.slots) l)) (sym (values-next open_from t.0 d.trees))
        (open-last (λ y. IsSeen y seen) (reverse d.slots) (values open_from d.trees) (open_in t.0) (own-short-open d.slots (number_of ps) (length names) d.trees facts.slots facts.count)
        facts.opened (open-left seen d (open_in t.0) own.opened facts.sees));
    forms = λ functions agree n h. next-forms functions n t.0 d.trees (own.forms functions agree n h) (facts.forms functions agree n (below n h own.texts.more));
    texts = grew-on met.texts d.met.texts t.1.texts facts.texts own.texts;
  }

  -- an item that is no let
  next-item : (names : List (Option Span)) (seen : List Variable) (met : Met) (ps : Parts) (f : Form) (d : Behind) (t : Tree × Met) → number_of ps < length names → PartsFacts names seen met ps d → FormFacts d.seen d.met f t
      → PartsFacts names seen met (next_part ps f) (behind (t.0 ∷ d.trees) d.seen (None ∷ d.slots) t.1)
  next-item names seen met ps f d t inside facts own = record {
    count = omega (arith, facts.count);
    slots = omega (arith, facts.slots);
    depth = next-depth ps f t.0 d.trees facts.depth own.depth;
    size = next-size ps f t.0 d.trees facts.size own.size;
    more = omega (arith, facts.more, own.more);
    few = λ h. own.few (facts.few h);
    lets = ap (λ l. with_own l (values lets_from (t.0 ∷ d.trees))) (reverse-next None d.slots)
        ∙ ap (with_own (reverse d.slots ++ None ∷ [])) (values-next lets_from t.0 d.trees)
        ∙ with_own-item (reverse d.slots) (values lets_from d.trees) None (lets_of t.0) (own-full d.slots (number_of ps) (length names) d.trees facts.slots facts.count inside)
        ∙ ap (λ l. l ++ lets_of t.0) facts.lets
        ∙ ap (λ l. range_with_len (arity + met.lets) (d.met.lets - met.lets) ++ l) own.lets
        ∙ lets-on arity met.lets d.met.lets t.1.lets facts.more own.more;
    sees = sees-later seen d None facts.sees;
    opened = subst (λ o. All (λ y. IsSeen y seen) (left_open o (values open_from (t.0 ∷ d.trees)))) (sym (reverse-next None d.slots))
        (subst (λ l. All (λ y. IsSeen y seen) (left_open (reverse d.slots ++ None ∷ []) l)) (sym (values-next open_from t.0 d.trees))
        (open-item (λ y. IsSeen y seen) (reverse d.slots) (values open_from d.trees) None (open_in t.0) (own-full-open d.slots (number_of ps) (length names) d.trees facts.slots facts.count inside)
        facts.opened (open-left seen d (open_in t.0) own.opened facts.sees)));
    forms = λ functions agree n h. next-forms functions n t.0 d.trees (own.forms functions agree n h) (facts.forms functions agree n (below n h own.texts.more));
    texts = grew-on met.texts d.met.texts t.1.texts facts.texts own.texts;
  }

  -- a let
  next-let : (names : List (Option Span)) (seen : List Variable) (met : Met) (ps : Parts) (f : Form) (d : Behind) (x : Variable × Met) (t : Tree × Met) → number_of ps < length names → PartsFacts names seen met ps d → Let arity d.met x → FormFacts d.seen x.1 f t
      → PartsFacts names seen met (next_part ps f) (behind (t.0 ∷ d.trees) (x.0 ∷ d.seen) (Some x.0.slot ∷ d.slots) t.1)
  next-let names seen met ps f d x t inside facts own-let own = record {
    count = omega (arith, facts.count);
    slots = omega (arith, facts.slots);
    depth = next-depth ps f t.0 d.trees facts.depth own.depth;
    size = next-size ps f t.0 d.trees facts.size own.size;
    more = omega (arith, facts.more, own.more, own-let.lets);
    few = λ h. own.few own-let.few;
    lets = ap (λ l. with_own l (values lets_from (t.0 ∷ d.trees))) (reverse-next (Some x.0.slot) d.slots)
        ∙ ap (with_own (reverse d.slots ++ Some x.0.slot ∷ [])) (values-next lets_from t.0 d.trees)
        ∙ with_own-item (reverse d.slots) (values lets_from d.trees) (Some x.0.slot) (lets_of t.0) (own-full d.slots (number_of ps) (length names) d.trees facts.slots facts.count inside)
        ∙ ap (λ l. l ++ (x.0.slot ∷ lets_of t.0)) facts.lets
        ∙ ap (λ s. range_with_len (arity + met.lets) (d.met.lets - met.lets) ++ (s ∷ lets_of t.0)) own-let.slot
        ∙ ap (λ l. range_with_len (arity + met.lets) (d.met.lets - met.lets) ++ ((arity + d.met.lets) ∷ l)) (own.lets ∙ ap (λ n. range_with_len (arity + n) (t.1.lets - n)) own-let.lets)
        ∙ ap (λ l. range_with_len (arity + met.lets) (d.met.lets - met.lets) ++ (l ++ range_with_len (arity + (d.met.lets + 1)) (t.1.lets - (d.met.lets + 1)))) (sym (one-let arity d.met.lets))
        ∙ ap (λ l. range_with_len (arity + met.lets) (d.met.lets - met.lets) ++ l) (lets-on arity d.met.lets (d.met.lets + 1) t.1.lets (more-by-one d.met.lets) (omega (arith, own.more, own-let.lets)))
        ∙ lets-on arity met.lets d.met.lets t.1.lets facts.more (omega (arith, own.more, own-let.lets));
    sees = sees-let seen d x.0 facts.sees;
    opened = subst (λ o. All (λ y. IsSeen y seen) (left_open o (values open_from (t.0 ∷ d.trees)))) (sym (reverse-next (Some x.0.slot) d.slots))
        (subst (λ l. All (λ y. IsSeen y seen) (left_open (reverse d.slots ++ Some x.0.slot ∷ []) l)) (sym (values-next open_from t.0 d.trees))
        (open-item (λ y. IsSeen y seen) (reverse d.slots) (values open_from d.trees) (Some x.0.slot) (open_in t.0) (own-full-open d.slots (number_of ps) (length names) d.trees facts.slots facts.count inside)
        facts.opened (open-left seen d (open_in t.0) own.opened facts.sees)));
    forms = λ functions agree n h. next-forms functions n t.0 d.trees (own.forms functions agree n h) (facts.forms functions agree n (below n h (same-more x.1.texts d.met.texts t.1.texts own-let.texts own.texts.more)));
    texts = grew-on met.texts d.met.texts t.1.texts facts.texts (subst (λ l. Grew l t.1.texts) own-let.texts own.texts);
  }

  module _ (bytes : List ℕ) where
    -- the next part, whichever it is
    next-part : (names : List (Option Span)) (seen : List Variable) (met : Met) (ps : Parts) (f : Form) (d : Behind) (name : Option (Option Span)) → slice_get names (number_of ps) ≡ name → PartsFacts names seen met ps d
        → ((s : List Variable) (m : Met) → IfOk (form_scoped bytes fs arity s m f) (FormFacts s m f))
        → IfOk (part_met arity name d (λ m. form_scoped bytes fs arity d.seen m f)) (PartsFacts names seen met (next_part ps f))
    next-part names seen met ps f d None e facts own =
        IfOk-after (form_scoped bytes fs arity d.seen d.met f) (λ t. Ok (behind (t.0 ∷ d.trees) d.seen d.slots t.1)) (FormFacts d.seen d.met f) (PartsFacts names seen met (next_part ps f))
        (own d.seen d.met) (λ t h. next-last names seen met ps f d t (none-there names (number_of ps) e) facts h)
    next-part names seen met ps f d (Some None) e facts own =
        IfOk-after (form_scoped bytes fs arity d.seen d.met f) (λ t. Ok (behind (t.0 ∷ d.trees) d.seen (None ∷ d.slots) t.1)) (FormFacts d.seen d.met f) (PartsFacts names seen met (next_part ps f))
        (own d.seen d.met) (λ t h. next-item names seen met ps f d t (slice_get_within names (number_of ps) None e) facts h)
    next-part names seen met ps f d (Some (Some name)) e facts own =
        IfOk-after (let_numbered arity name d.met) (λ x. after (form_scoped bytes fs arity d.seen x.1 f) (λ t. Ok (behind (t.0 ∷ d.trees) (x.0 ∷ d.seen) (Some x.0.slot ∷ d.slots) t.1))) (Let arity d.met) (PartsFacts names seen met (next_part ps f))
        (let-facts arity name d.met) (λ x own-let.
        IfOk-after (form_scoped bytes fs arity d.seen x.1 f) (λ t. Ok (behind (t.0 ∷ d.trees) (x.0 ∷ d.seen) (Some x.0.slot ∷ d.slots) t.1)) (FormFacts d.seen x.1 f) (PartsFacts names seen met (next_part ps f))
        (own d.seen x.1) (λ t h. next-let names seen met ps f d x t (slice_get_within names (number_of ps) (Some name) e) facts own-let h))

    block-facts : (at : ℕ) (names : List (Option Span)) (parts : Parts) → Fits bytes (head.LetBlock names) (number_of parts) → (seen : List Variable) (met : Met)
        → IfOk (parts_scoped bytes fs arity names (behind [] seen [] met) parts) (PartsFacts names seen met parts)
        → IfOk (form_scoped bytes fs arity seen met (form at (head.LetBlock names) parts)) (FormFacts seen met (form at (head.LetBlock names) parts))
    block-facts at names parts fits seen met all =
        IfOk-after (parts_scoped bytes fs arity names (behind [] seen [] met) parts) (λ d. Ok (tree (with_slots d.slots (code.Block [])) (in_order d.trees), d.met)) (PartsFacts names seen met parts) (FormFacts seen met (form at (head.LetBlock names) parts))
        all (λ d facts.
        let full : length (reverse d.slots) ≡ length names = full-block d names (number_of parts) facts.slots fits.1 in
        subst (λ c. FormFacts seen met (form at (head.LetBlock names) parts) (tree c (in_order d.trees), d.met)) (sym (slots-known d.slots))
        (finish seen met at (head.LetBlock names) parts met d (code.Block (reverse d.slots)) facts refl (grew-same met.texts) (record { lets = λ _. refl; opened = λ _. refl })
        (λ functions agree. ap (λ n. Some (n + 1)) full ∙ ap Some (sym fits.1)) tt (subst (λ n. 0 < n) (sym full) fits.0) (All-nil (λ y. IsSeen y seen))))

    plain-facts : (at : ℕ) (h : Head) (parts : Parts) → Fits bytes h (number_of parts) → (seen : List Variable) (met : Met) → items_of h ≡ []
        → ((m : Met) → IfOk (parts_scoped bytes fs arity (items_of h) (behind [] seen [] m) parts) (PartsFacts (items_of h) seen m parts)) → IfOk (form_scoped bytes fs arity seen met (form at h parts)) (FormFacts seen met (form at h parts))
    plain-facts at h parts fits seen met nil all =
        IfOk-after (head_met bytes fs seen met h (number_of parts)) (λ own. after (parts_scoped bytes fs arity (items_of h) (behind [] seen [] own.1) parts) (λ d. Ok (tree (with_slots d.slots own.0) (in_order d.trees), d.met))) (HeadFacts fs seen met (number_of parts)) (FormFacts seen met (form at h parts))
        (head-facts bytes fs seen met h (number_of parts) fits nil) (λ own hf.
        IfOk-after (parts_scoped bytes fs arity (items_of h) (behind [] seen [] own.1) parts) (λ d. Ok (tree (with_slots d.slots own.0) (in_order d.trees), d.met)) (PartsFacts (items_of h) seen own.1 parts) (FormFacts seen met (form at h parts))
        (all own.1) (λ d facts.
        let empty : d.slots ≡ [] = no-slots d (items_of h) (number_of parts) facts.slots nil in
        subst (λ s. FormFacts seen met (form at h parts) (tree (with_slots s own.0) (in_order d.trees), d.met)) (sym empty)
        (finish seen met at h parts own.1 d own.0 facts hf.lets hf.texts (no-lets (slots_of own.0) d.slots hf.slots.0 hf.slots.1 empty) hf.fits hf.text hf.item hf.named)))

    form-case : (at : ℕ) (h : Head) (parts : Parts) → Fits bytes h (number_of parts) → (seen : List Variable) (met : Met)
        → ((m : Met) → IfOk (parts_scoped bytes fs arity (items_of h) (behind [] seen [] m) parts) (PartsFacts (items_of h) seen m parts)) → IfOk (form_scoped bytes fs arity seen met (form at h parts)) (FormFacts seen met (form at h parts))
    form-case at (head.LetBlock names) parts fits seen met all = block-facts at names parts fits seen met (all met)
    form-case at head.Block parts fits seen met all = plain-facts at head.Block parts fits seen met refl all
    form-case at head.Unit parts fits seen met all = plain-facts at head.Unit parts fits seen met refl all
    form-case at (head.Truth b) parts fits seen met all = plain-facts at (head.Truth b) parts fits seen met refl all
    form-case at (head.Int n) parts fits seen met all = plain-facts at (head.Int n) parts fits seen met refl all
    form-case at (head.Text span) parts fits seen met all = plain-facts at (head.Text span) parts fits seen met refl all
    form-case at (head.Variable name) parts fits seen met all = plain-facts at (head.Variable name) parts fits seen met refl all
    form-case at head.If parts fits seen met all = plain-facts at head.If parts fits seen met refl all
    form-case at (head.Two op) parts fits seen met all = plain-facts at (head.Two op) parts fits seen met refl all
    form-case at head.Not parts fits seen met all = plain-facts at head.Not parts fits seen met refl all
    form-case at head.Neg parts fits seen met all = plain-facts at head.Neg parts fits seen met refl all
    form-case at head.Pair parts fits seen met all = plain-facts at head.Pair parts fits seen met refl all
    form-case at (head.Call name) parts fits seen met all = plain-facts at (head.Call name) parts fits seen met refl all
    form-case at (head.Start w name) parts fits seen met all = plain-facts at (head.Start w name) parts fits seen met refl all
    form-case at (head.NewChan ty) parts fits seen met all = plain-facts at (head.NewChan ty) parts fits seen met refl all
    form-case at (head.Act w) parts fits seen met all = plain-facts at (head.Act w) parts fits seen met refl all

    mutual
      pub form-facts : (f : Form) → IsSound bytes f → (seen : List Variable) (met : Met) → IfOk (form_scoped bytes fs arity seen met f) (FormFacts seen met f)
      form-facts (form at h parts) sound seen met = form-case at h parts sound.0 seen met (parts-facts (items_of h) parts sound.1 seen)

      parts-facts : (names : List (Option Span)) (ps : Parts) → AreSound bytes ps → (seen : List Variable) (met : Met) → IfOk (parts_scoped bytes fs arity names (behind [] seen [] met) ps) (PartsFacts names seen met ps)
      parts-facts names no_parts sound seen met = record {
        count = refl;
        slots = omega arith;
        depth = refl;
        size = refl;
        more = omega arith;
        few = λ h. h;
        lets = sym (ap (range_with_len (arity + met.lets)) (no-more met.lets));
        sees = λ y h. inr h;
        opened = All-nil (λ y. IsSeen y seen);
        forms = λ functions agree n h. tt;
        texts = grew-same met.texts;
      }
      parts-facts names (next_part ps f) sound seen met =
          IfOk-after (parts_scoped bytes fs arity names (behind [] seen [] met) ps) (λ a. part_met arity (slice_get names (number_of ps)) a (λ m. form_scoped bytes fs arity a.seen m f)) (PartsFacts names seen met ps) (PartsFacts names seen met (next_part ps f))
          (parts-facts names ps sound.0 seen met) (λ d facts. next-part names seen met ps f d (slice_get names (number_of ps)) refl facts (form-facts f sound.1))
