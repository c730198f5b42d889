-- A block without lets means what it would with its names kept, and a block has a slot for each of its items that is a let, and for no other.
use Rattle.std.proofs.Common.{◌≡◌, ℕ, ◌+◌, ◌-◌, ◌≤◌, Bool, true, false, cond, List, [], ◌∷◌, ◌++◌, length, map, take, Option, Some, None, refl, sym, ap, subst, ◌∙◌, arith}
use Rattle.std.specs.Prelude.{Result, Ok, IfOk, is_some, replicate, reverse, slice_get}
use Rattle.std.specs.List.{list_any}
use Rattle.std.proofs.lemmas.Bool.{true≢false}
use Rattle.std.proofs.lemmas.List.{map-append, reverse-append, take_all}
use Rattle.std.proofs.lemmas.List.Folds.{list_any_at}
use Rattle.std.proofs.lemmas.Option.{get_or_from_slice_get, slice_get_within}
use Rattle.stab_code.specs.declared.head.Head.{Head as Code}
use Rattle.stab_code.specs.declared.head.Head.TheVariants as code
use Rattle.stab_code.specs.Trees.{Tree, tree}
use Rattle.stab_parse.specs.declared.symbol.Span.{Span}
use Rattle.stab_parse.specs.declared.tree.Function.{Function}
use Rattle.stab_parse.specs.declared.tree.Head.TheVariants as head
use Rattle.stab_parse.specs.Forms.{Form, form, Parts, no_parts, next_part, block_form, head_of_block, names_of, parts_of_items}
use Rattle.stab_parse.specs.Grammar.{Item, Items, next_item}
use Rattle.scope_check.specs.declared.fault.ScopeFault.{ScopeFault}
use Rattle.scope_check.specs.declared.seen.Variable.{Variable}
use Rattle.scope_check.specs.Blocks.{IsBlockOf}
use Rattle.scope_check.specs.Forms.{number_of}
use Rattle.scope_check.specs.Scope.{Behind, Met, after, behind, form_scoped, in_order, let_numbered, part_met, parts_scoped, with_slots}
use Rattle.scope_check.proofs.After.{IfOk-after, after-after, after-same, any-step}
use Rattle.scope_check.proofs.Declared.{take-next}
use Rattle.scope_check.proofs.Facts.{none-there}
use Rattle.scope_check.proofs.Made.{slots-known}
use Rattle.scope_check.proofs.SoundSyntax.{number-items}

-- the parts so far have a tree each, and a slot each that is an item, just where that is a let
record HasSlots (names : List (Option Span)) (ps : Parts) (d : Behind) : Type 0 where
  pub count : length d.trees ≡ number_of ps
  pub lets : map is_some (reverse d.slots) ≡ map is_some (take (number_of ps) names)

-- ---- slots

-- one slot more
slots-next : (names : List (Option Span)) (k : ℕ) (name : Option Span) (slots : List (Option ℕ)) (slot : Option ℕ) → slice_get names k ≡ Some name → is_some slot ≡ is_some name
    → map is_some (reverse slots) ≡ map is_some (take k names) → map is_some (reverse (slot ∷ slots)) ≡ map is_some (take (k + 1) names)
slots-next names k name slots slot found same e =
    let next : take (k + 1) names ≡ take k names ++ name ∷ [] = take-next names k name (slice_get_within names k name found) (sym (get_or_from_slice_get names k name name found)) in
    ap (map is_some) (reverse-append (slot ∷ []) slots) ∙ map-append is_some (reverse slots) (slot ∷ [])
    ∙ ap (λ l. l ++ is_some slot ∷ []) e ∙ ap (λ b. map is_some (take k names) ++ b ∷ []) same
    ∙ sym (ap (map is_some) next ∙ map-append is_some (take k names) (name ∷ []))

-- a part behind the items adds none to them
take-past : (names : List (Option Span)) (k : ℕ) → slice_get names k ≡ None → take k names ≡ take (k + 1) names
take-past names k none =
    let past : length names ≤ k = none-there names k none in
    take_all k names past ∙ sym (take_all (k + 1) names (omega arith))

-- a let is among the items
let-among : (names : List (Option Span)) (k : ℕ) (name : Span) → slice_get names k ≡ Some (Some name) → list_any is_some names ≡ true
let-among names k name e = list_any_at is_some names k None (slice_get_within names k (Some name) e) (ap is_some (get_or_from_slice_get names k (Some name) None e))

-- where no item is a let, no item has a slot
none-slots : (slots : List (Option ℕ)) (names : List (Option Span)) → map is_some slots ≡ map is_some names → list_any is_some names ≡ false → slots ≡ replicate (length names) None
none-slots [] [] e none = refl
none-slots (None ∷ slots) (None ∷ names) e none = ap (λ l. None ∷ l) (none-slots slots names (cc e) none)
none-slots (Some slot ∷ slots) (None ∷ names) e none = absurd cc
none-slots slots (Some name ∷ names) e none = absurd cc
none-slots slots names e none = absurd cc

-- ---- parts

module _ (names : List (Option Span)) (ps : Parts) (f : Form) (d : Behind) (facts : HasSlots names ps d) where
  -- a part more is a tree more
  part-more : (t : Tree) → length (t ∷ d.trees) ≡ number_of (next_part ps f)
  part-more t = omega (arith, facts.count)

  -- one part more, whichever it is
  part-lets : (arity : ℕ) (item : Option (Option Span)) (scoped : Met → Result (Tree × Met) ScopeFault) → slice_get names (number_of ps) ≡ item
      → IfOk (part_met arity item d scoped) (HasSlots names (next_part ps f))
  part-lets arity None scoped e =
      any-step (scoped d.met) (λ t. Ok (behind (t.0 ∷ d.trees) d.seen d.slots t.1)) (HasSlots names (next_part ps f))
      (λ t. record { count = part-more t.0; lets = facts.lets ∙ ap (map is_some) (take-past names (number_of ps) e) })
  part-lets arity (Some None) scoped e =
      any-step (scoped d.met) (λ t. Ok (behind (t.0 ∷ d.trees) d.seen (None ∷ d.slots) t.1)) (HasSlots names (next_part ps f))
      (λ t. record { count = part-more t.0; lets = slots-next names (number_of ps) None d.slots None e refl facts.lets })
  part-lets arity (Some (Some name)) scoped e =
      any-step (let_numbered arity name d.met) (λ x. after (scoped x.1) (λ t. Ok (behind (t.0 ∷ d.trees) (x.0 ∷ d.seen) (Some x.0.slot ∷ d.slots) t.1))) (HasSlots names (next_part ps f)) (λ x.
      any-step (scoped x.1) (λ t. Ok (behind (t.0 ∷ d.trees) (x.0 ∷ d.seen) (Some x.0.slot ∷ d.slots) t.1)) (HasSlots names (next_part ps f))
      (λ t. record { count = part-more t.0; lets = slots-next names (number_of ps) (Some name) d.slots (Some x.0.slot) e refl facts.lets }))

-- the parts without their slots
abbrev without_slots : Behind → Result Behind ScopeFault
without_slots d = Ok (behind d.trees d.seen [] d.met)

-- one part more is the same without slots, where it is no let
part-without : (arity : ℕ) (item : Option (Option Span)) (d : Behind) (scoped : Met → Result (Tree × Met) ScopeFault) → ((name : Span) → item ≡ Some (Some name) → ⊥)
    → part_met arity None (behind d.trees d.seen [] d.met) scoped ≡ after (part_met arity item d scoped) without_slots
part-without arity None d scoped no_let = sym (after-after (scoped d.met) (λ t. Ok (behind (t.0 ∷ d.trees) d.seen d.slots t.1)) without_slots)
part-without arity (Some None) d scoped no_let = sym (after-after (scoped d.met) (λ t. Ok (behind (t.0 ∷ d.trees) d.seen (None ∷ d.slots) t.1)) without_slots)
part-without arity (Some (Some name)) d scoped no_let = absurd (no_let name refl)

module _ (bytes : List ℕ) (fs : List Function) (arity : ℕ) (seen : List Variable) (met : Met) where
  -- parts from left to right
  parts-lets : (names : List (Option Span)) (ps : Parts) → IfOk (parts_scoped bytes fs arity names (behind [] seen [] met) ps) (HasSlots names ps)
  parts-lets names no_parts = record { count = refl; lets = refl }
  parts-lets names (next_part ps f) =
      IfOk-after (parts_scoped bytes fs arity names (behind [] seen [] met) ps) (λ a. part_met arity (slice_get names (number_of ps)) a (λ m. form_scoped bytes fs arity a.seen m f))
      (HasSlots names ps) (HasSlots names (next_part ps f)) (parts-lets names ps) (λ d facts. part-lets names ps f d facts arity (slice_get names (number_of ps)) (λ m. form_scoped bytes fs arity d.seen m f) refl)

  -- where none of them is a let, they are the same without names
  parts-without : (names : List (Option Span)) (ps : Parts) → list_any is_some names ≡ false
      → parts_scoped bytes fs arity [] (behind [] seen [] met) ps ≡ after (parts_scoped bytes fs arity names (behind [] seen [] met) ps) without_slots
  parts-without names no_parts none = refl
  parts-without names (next_part ps f) none =
      let named = parts_scoped bytes fs arity names (behind [] seen [] met) ps in
      let step = λ (n : List (Option Span)) (a : Behind). part_met arity (slice_get n (number_of ps)) a (λ m. form_scoped bytes fs arity a.seen m f) in
      ap (λ r. after r (step [])) (parts-without names ps none)
      ∙ after-after named without_slots (step [])
      ∙ after-same named (λ a. after (without_slots a) (step [])) (λ a. after (step names a) without_slots) (HasSlots names ps) (parts-lets names ps)
      (λ a facts. part-without arity (slice_get names (number_of ps)) a (λ m. form_scoped bytes fs arity a.seen m f) (λ name e. absurd (true≢false (sym (let-among names (number_of ps) name e) ∙ none))))
      ∙ sym (after-after named (step names) without_slots)

  -- ---- blocks

  module _ (at : ℕ) (names : List (Option Span)) (parts : Parts) (count : number_of parts ≡ length names + 1) where
    -- an item has a slot just where it is a let
    all-lets : (d : Behind) → HasSlots names parts d → map is_some (reverse d.slots) ≡ map is_some names
    all-lets d facts = facts.lets ∙ ap (map is_some) (take_all (number_of parts) names (omega arith))

    -- it means the same with its names kept: with lets, and without
    kept-case : (lets : Bool) → list_any is_some names ≡ lets
        → form_scoped bytes fs arity seen met (form at (cond lets (head.LetBlock names) head.Block) parts) ≡ form_scoped bytes fs arity seen met (form at (head.LetBlock names) parts)
    kept-case true some = refl
    kept-case false none =
        let named = parts_scoped bytes fs arity names (behind [] seen [] met) parts in
        let own : Code → Behind → Result (Tree × Met) ScopeFault = λ c d. Ok (tree (with_slots d.slots c) (in_order d.trees), d.met) in
        let plain = code.Block (replicate (number_of parts - 1) None) in
        let items : number_of parts - 1 ≡ length names = omega arith in
        ap (λ r. after r (own plain)) (parts-without names parts none)
        ∙ after-after named without_slots (own plain)
        ∙ after-same named (λ d. after (without_slots d) (own plain)) (own (code.Block [])) (HasSlots names parts) (parts-lets names parts) (λ d facts.
        ap (λ c. Ok (tree c (in_order d.trees), d.met)) (ap (λ n. code.Block (replicate n None)) items
        ∙ sym (slots-known d.slots ∙ ap code.Block (none-slots (reverse d.slots) names (all-lets d facts) none))))

    pub block-kept : form_scoped bytes fs arity seen met (form at (head_of_block names) parts) ≡ form_scoped bytes fs arity seen met (form at (head.LetBlock names) parts)
    block-kept = kept-case (list_any is_some names) refl

    -- with its names kept it has their lets
    let-block : IfOk (form_scoped bytes fs arity seen met (form at (head.LetBlock names) parts)) (λ t. IsBlockOf names t.0)
    let-block =
        IfOk-after (parts_scoped bytes fs arity names (behind [] seen [] met) parts) (λ d. Ok (tree (with_slots d.slots (code.Block [])) (in_order d.trees), d.met))
        (HasSlots names parts) (λ t. IsBlockOf names t.0) (parts-lets names parts) (λ d facts. record {
          slots = reverse d.slots;
          trees = d.trees;
          block = ap (λ c. tree c (in_order d.trees)) (slots-known d.slots);
          lets = all-lets d facts;
          parts = facts.count ∙ count;
        })

-- a block with items is a block of the program, with their lets
pub block-lets : (bytes : List ℕ) (fs : List Function) (arity : ℕ) (seen : List Variable) (met : Met) (at : ℕ) (is : Items) (i : Item) (m : Span) (last : Form)
    → IfOk (form_scoped bytes fs arity seen met (block_form at (next_item is i m) (parts_of_items (next_item is i m)) last)) (λ t. IsBlockOf (names_of (next_item is i m)) t.0)
block-lets bytes fs arity seen met at is i m last =
    let names = names_of (next_item is i m) in
    let parts = next_part (parts_of_items (next_item is i m)) last in
    let count : number_of parts ≡ length names + 1 = ap (λ n. n + 1) (number-items (next_item is i m)) in
    subst (λ r. IfOk r (λ t. IsBlockOf names t.0)) (sym (block-kept bytes fs arity seen met at names parts count)) (let-block bytes fs arity seen met at names parts count)
