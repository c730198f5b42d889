-- Forms that are gone through in the order of the list, and the definition of a form.
use Rattle.std.proofs.Common.{◌≡◌, ◌⊎◌, inl, inr, ℕ, suc, ◌+◌, ◌<◌, ◌^◌, ◌==◌, List, [], ◌∷◌, ◌++◌, length, slice_get, Some, refl, sym, ap, subst, ◌∙◌, arith, append_assoc, append-nil}
use Rattle.std.specs.Prelude.{◌-◌, false, replicate, Result, Ok, Err, None, true}
use Rattle.std.specs.List.{AllByRecursion}
use Rattle.std.proofs.lemmas.Bool.{true≢false}
use Rattle.std.proofs.lemmas.Bool.Decides.{eqb_tells}
use Rattle.stab_code.specs.declared.head.Head.{Head as Code}
use Rattle.stab_code.specs.declared.head.Head.TheVariants as code
use Rattle.stab_code.specs.declared.node_id.NodeId.{NodeId}
use Rattle.stab_code.specs.Nodes.{NodeParts, nodes_in}
use Rattle.stab_code.specs.Trees.{Tree, tree, none}
use Rattle.stab_parse.specs.declared.tree.FormNode.{FormNode}
use Rattle.stab_parse.specs.declared.tree.Function.{Function}
use Rattle.stab_parse.specs.declared.tree.Head.{Head}
use Rattle.stab_parse.specs.declared.tree.Head.TheVariants as kind
use Rattle.stab_parse.specs.Forms.{Form, form, Parts, no_parts, next_part}
use Rattle.stab_parse.specs.FormList.{count_of, nodes_of, nodes_of_parts}
use Rattle.stab_parse.specs.Moves.{node_of as form_node}
use Rattle.scope_check.specs.declared.fault.ScopeFault.{ScopeFault}
use Rattle.scope_check.specs.declared.seen.Variable.{Variable}
use Rattle.scope_check.specs.Forms.{act_named, has_lets, items_of}
use Rattle.scope_check.specs.Made.{Adds, AddsParts}
use Rattle.scope_check.specs.Placed.{size_of_parts}
use Rattle.scope_check.specs.Places.{IsAt, own_number, own_numbers, part_lists}
use Rattle.scope_check.specs.Scope.{Behind, Met, after, behind, form_scoped, head_met, in_order, part_met, parts_scoped, with_slots}
use Rattle.scope_check.specs.Stretches.{heads_met, plain, plain_head}
use Rattle.scope_check.proofs.Made.{no-items, sizes-in}
use Rattle.scope_check.proofs.Added.{added-count, adds-next, adds-whole, node_added}
use Rattle.scope_check.proofs.Places.{at-within, count-is, followed, part-at, parts-at}

-- ---- one step after another

abbrev Listed : Type 0
Listed = Result (List Code × Met) ScopeFault

-- a head before others, some before others, and one behind others
abbrev before_all : Code → Listed → Listed
before_all c rest = after rest (λ r. Ok (c ∷ r.0, r.1))

abbrev behind_these : List Code → Listed → Listed
behind_these own rest = after rest (λ r. Ok (own ++ r.0, r.1))

abbrev with_last : Code → Listed → Listed
with_last c first = after first (λ p. Ok (p.0 ++ c ∷ [], p.1))

none-before : (m : Listed) → m ≡ behind_these [] m
none-before (Ok b) = refl
none-before (Err fault) = refl

before-behind : (c : Code) (own : List Code) (b : Listed) → before_all c (behind_these own b) ≡ behind_these (c ∷ own) b
before-behind c own (Ok q) = refl
before-behind c own (Err fault) = refl

before-append : (c : Code) (a : Listed) (next : Met → Listed) → before_all c (after a (λ p. behind_these p.0 (next p.1))) ≡ after (before_all c a) (λ p. behind_these p.0 (next p.1))
before-append c (Err fault) next = refl
before-append c (Ok p) next = before-behind c p.0 (next p.1)

-- ---- heads that are plain

no-parts : (k : ℕ) → (k == 0) ≡ true → k ≡ 0
no-parts k e = elim (eqb_tells k 0) [ inl w ↦ w.1 | inr w ↦ absurd (true≢false (sym e ∙ w.0)) ]

-- a plain head has no parts, or is the same in all that was met
abbrev IsSilent : List ℕ → List Function → Head → ℕ → Type 0
IsSilent bytes fs h k = (c : Code) × ((seen : List Variable) (met : Met) → head_met bytes fs seen met h k ≡ Ok (c, met))

silent : (bytes : List ℕ) (fs : List Function) (h : Head) (k : ℕ) → plain_head h k ≡ true → (k ≡ 0) ⊎ IsSilent bytes fs h k
silent bytes fs kind.Unit k e = inr (code.Unit, λ seen met. refl)
silent bytes fs (kind.Truth b) k e = inr (code.Truth b, λ seen met. refl)
silent bytes fs (kind.Int v) k e = inr (code.Int v, λ seen met. refl)
silent bytes fs (kind.Text span) k e = inl (no-parts k e)
silent bytes fs (kind.Variable name) k e = inl (no-parts k e)
silent bytes fs kind.Block k e = inr (code.Block (replicate (k - 1) None), λ seen met. refl)
silent bytes fs (kind.LetBlock names) k e = absurd (true≢false (sym e))
silent bytes fs kind.If k e = inr (code.If, λ seen met. refl)
silent bytes fs (kind.Two op) k e = inr (code.Two op, λ seen met. refl)
silent bytes fs kind.Not k e = inr (code.Not, λ seen met. refl)
silent bytes fs kind.Neg k e = inr (code.Neg, λ seen met. refl)
silent bytes fs kind.Pair k e = inr (code.Pair, λ seen met. refl)
silent bytes fs (kind.Call name) k e = absurd (true≢false (sym e))
silent bytes fs (kind.Start word name) k e = absurd (true≢false (sym e))
silent bytes fs (kind.NewChan ty) k e = inr (code.NewChan ty, λ seen met. refl)
silent bytes fs (kind.Act word) k e = inr (act_named word, λ seen met. refl)

-- and it is no block with lets
pub plain-other : (h : Head) (k : ℕ) → plain_head h k ≡ true → has_lets h ≡ false
plain-other kind.Unit k e = refl
plain-other (kind.Truth b) k e = refl
plain-other (kind.Int v) k e = refl
plain-other (kind.Text span) k e = refl
plain-other (kind.Variable name) k e = refl
plain-other kind.Block k e = refl
plain-other (kind.LetBlock names) k e = absurd (true≢false (sym e))
plain-other kind.If k e = refl
plain-other (kind.Two op) k e = refl
plain-other kind.Not k e = refl
plain-other kind.Neg k e = refl
plain-other kind.Pair k e = refl
plain-other (kind.Call name) k e = refl
plain-other (kind.Start w name) k e = refl
plain-other (kind.NewChan ty) k e = refl
plain-other (kind.Act w) k e = refl

all-parted : {X : Type 0} (P : X → Type 0) (xs ys : List X) → AllByRecursion P (xs ++ ys) → AllByRecursion P xs × AllByRecursion P ys
all-parted P [] ys all = (tt, all)
all-parted P (x ∷ xs) ys all =
    let rest = all-parted P xs ys all.1 in
    ((all.0, rest.0), rest.1)

parts-count : (old new : List NodeParts) (ps : Parts) (trees : List Tree) (n : ℕ) → AddsParts old new ps trees → length old ≡ n → length new ≡ n + size_of_parts ps
parts-count old new ps trees n adds e =
    let last = added-count old new ps trees (length old + size_of_parts ps) adds (omega arith) in
    last ∙ ap (λ m. m + size_of_parts ps) e

-- ---- lists of forms

module _ (bytes : List ℕ) (fs : List Function) (seen : List Variable) where
  abbrev joined : Listed → List FormNode → Listed
  joined a ys = after a (λ p. behind_these p.0 (heads_met bytes fs seen p.1 ys))

  pub heads-append : (met : Met) (xs ys : List FormNode) → heads_met bytes fs seen met (xs ++ ys) ≡ joined (heads_met bytes fs seen met xs) ys
  heads-append met [] ys = none-before (heads_met bytes fs seen met ys)
  heads-append met (f ∷ xs) ys =
      elim (head_met bytes fs seen met f.head f.parts) as (λ own. after own (λ o. before_all o.0 (heads_met bytes fs seen o.1 (xs ++ ys))) ≡ joined (after own (λ o. before_all o.0 (heads_met bytes fs seen o.1 xs))) ys) [
        | Err fault ↦ refl
        | Ok o ↦ ap (before_all o.0) (heads-append o.1 xs ys) ∙ before-append o.0 (heads_met bytes fs seen o.1 xs) (λ m. heads_met bytes fs seen m ys)
      ]

  -- one form more
  pub heads-next : (met : Met) (xs : List FormNode) (f : FormNode) (heads : List Code) (now next : Met) (own : Code) → heads_met bytes fs seen met xs ≡ Ok (heads, now) → head_met bytes fs seen now f.head f.parts ≡ Ok (own, next)
      → heads_met bytes fs seen met (xs ++ f ∷ []) ≡ Ok (heads ++ own ∷ [], next)
  heads-next met xs f heads now next own e h =
      heads-append met xs (f ∷ []) ∙ ap (λ a. joined a (f ∷ [])) e ∙ ap (λ o. behind_these heads (after o (λ c. before_all c.0 (Ok ([], c.1))))) h

  pub heads-fault : (met : Met) (xs : List FormNode) (f : FormNode) (rest : List FormNode) (heads : List Code) (now : Met) (fault : ScopeFault) → heads_met bytes fs seen met xs ≡ Ok (heads, now) → head_met bytes fs seen now f.head f.parts ≡ Err fault
      → heads_met bytes fs seen met (xs ++ (f ∷ rest)) ≡ Err fault
  heads-fault met xs f rest heads now fault e h =
      heads-append met xs (f ∷ rest) ∙ ap (λ a. joined a (f ∷ rest)) e
      ∙ ap (λ o. behind_these heads (after o (λ c. before_all c.0 (heads_met bytes fs seen c.1 rest)))) h

  tail-length : (r : Listed) (o : Code) (own : List Code × Met) (n : ℕ) → ((rest : List Code × Met) → r ≡ Ok rest → length rest.0 ≡ n)
      → before_all o r ≡ Ok own → length own.0 ≡ suc n
  tail-length (Err fault) o own n h e = absurd cc
  tail-length (Ok rest) o own n h e =
      let same : (o ∷ rest.0, rest.1) ≡ own = cc in
      subst (λ p. length p.0 ≡ suc n) same (ap suc (h rest refl))

  -- as many heads as forms
  pub heads-length : (met : Met) (xs : List FormNode) (own : List Code × Met) → heads_met bytes fs seen met xs ≡ Ok own → length own.0 ≡ length xs
  heads-length met [] own e =
      let same : ([], met) ≡ own = cc in
      subst (λ p. length p.0 ≡ 0) same refl
  heads-length met (f ∷ xs) own e =
      elim (head_met bytes fs seen met f.head f.parts) as (λ h. after h (λ o. before_all o.0 (heads_met bytes fs seen o.1 xs)) ≡ Ok own → length own.0 ≡ suc (length xs)) [
        | Err fault ↦ λ same. absurd cc
        | Ok o ↦ λ same. tail-length (heads_met bytes fs seen o.1 xs) o.0 own (length xs) (λ rest is. heads-length o.1 xs rest is) same
      ] e

-- ---- a form

module _ (bytes : List ℕ) (fs : List Function) (arity : ℕ) (seen : List Variable) (forms : List FormNode) (small : length forms < 2 ^ 32) where
  abbrev lists : List (List NodeId)
  lists = part_lists 0 [] forms

  -- what the list of a form's forms gives, behind these heads, is what the definition gives for it
  abbrev pub Agrees : List Code → Form → Listed → Result (Tree × Met) ScopeFault → Type 0
  Agrees heads f (Ok own) scoped = (t : Tree) × (scoped ≡ Ok (t, own.1)) × Adds (nodes_in heads lists) (nodes_in (heads ++ own.0) lists) f t
  Agrees heads f (Err fault) scoped = scoped ≡ Err fault

  abbrev AgreeParts : List Code → Parts → Listed → Result Behind ScopeFault → Type 0
  AgreeParts heads ps (Ok own) scoped = (trees : List Tree) × (scoped ≡ Ok (behind trees seen [] own.1)) × AddsParts (nodes_in heads lists) (nodes_in (heads ++ own.0) lists) ps trees
  AgreeParts heads ps (Err fault) scoped = scoped ≡ Err fault

  abbrev parts_behind : Met → Parts → Result Behind ScopeFault
  parts_behind met ps = parts_scoped bytes fs arity [] (behind [] seen [] met) ps

  abbrev behind_part : Behind → Form → Result Behind ScopeFault
  behind_part a f = part_met arity None a (λ met. form_scoped bytes fs arity a.seen met f)

  none-added : (heads : List Code) → AddsParts (nodes_in heads lists) (nodes_in (heads ++ []) lists) no_parts []
  none-added heads = record { nodes = ap (λ l. nodes_in l lists) (append-nil heads) ∙ sym (append-nil (nodes_in heads lists)); own = refl; size = refl }

  no-part : (heads : List Code) (met : Met) → AgreeParts heads no_parts (Ok ([], met)) (parts_behind met no_parts)
  no-part heads met = ([], refl, none-added heads)

  -- a part behind others
  part-more : (heads : List Code) (ps : Parts) (f : Form) (a : List Code × Met) (trees : List Tree) → AddsParts (nodes_in heads lists) (nodes_in (heads ++ a.0) lists) ps trees
      → (b : Listed) → Agrees (heads ++ a.0) f b (form_scoped bytes fs arity seen a.1 f)
      → AgreeParts heads (next_part ps f) (behind_these a.0 b) (behind_part (behind trees seen [] a.1) f)
  part-more heads ps f a trees adds (Err fault) h = ap (λ r. after r (λ t. Ok (behind (t.0 ∷ trees) seen [] t.1))) h
  part-more heads ps f a trees adds (Ok b) h =
      let last : Adds (nodes_in (heads ++ a.0) lists) (nodes_in (heads ++ (a.0 ++ b.0)) lists) f h.0 = subst (λ l. Adds (nodes_in (heads ++ a.0) lists) (nodes_in l lists) f h.0) (append_assoc heads a.0 b.0) h.2 in (
        h.0 ∷ trees,
        ap (λ r. after r (λ t. Ok (behind (t.0 ∷ trees) seen [] t.1))) h.1,
        adds-next (nodes_in heads lists) (nodes_in (heads ++ a.0) lists) (nodes_in (heads ++ (a.0 ++ b.0)) lists) ps f trees h.0 adds last,
      )

  parts-more : (heads : List Code) (ps : Parts) (f : Form) (met : Met) (a : Listed) → AgreeParts heads ps a (parts_behind met ps)
      → ((own : List Code × Met) (trees : List Tree) → AddsParts (nodes_in heads lists) (nodes_in (heads ++ own.0) lists) ps trees → Agrees (heads ++ own.0) f (heads_met bytes fs seen own.1 (nodes_of f)) (form_scoped bytes fs arity seen own.1 f))
      → AgreeParts heads (next_part ps f) (joined bytes fs seen a (nodes_of f)) (parts_behind met (next_part ps f))
  parts-more heads ps f met (Err fault) h next = ap (λ r. after r (λ b. behind_part b f)) h
  parts-more heads ps f met (Ok own) h next =
      subst (AgreeParts heads (next_part ps f) (joined bytes fs seen (Ok own) (nodes_of f))) (sym (ap (λ r. after r (λ b. behind_part b f)) h.1))
      (part-more heads ps f own h.0 h.2 (heads_met bytes fs seen own.1 (nodes_of f)) (next own h.0 h.2))

  module _ (n at place : ℕ) (h : Head) where
    -- a form's own head behind those of its parts
    whole-form : (heads : List Code) (ps : Parts) (a : List Code) (trees : List Tree) (own : Code) → length (nodes_in heads lists) ≡ n → IsAt forms n at (form place h ps) → AddsParts (nodes_in heads lists) (nodes_in (heads ++ a) lists) ps trees
        → Adds (nodes_in heads lists) (nodes_in (heads ++ (a ++ own ∷ [])) lists) (form place h ps) (tree own (in_order trees))
    whole-form heads ps a trees own count is adds =
        let numbers = own_numbers (length (nodes_in heads lists)) ps in
        let listed : slice_get lists at ≡ Some numbers = parts-at forms n at place h ps small is ∙ ap (λ m. Some (own_numbers m ps)) (sym count) in
        let last = added-count (nodes_in heads lists) (nodes_in (heads ++ a) lists) ps trees at adds (is.own_is ∙ ap (λ m. m + (size_of_parts ps + 1)) (sym count)) in
        adds-whole (nodes_in heads lists) (nodes_in (heads ++ a) lists) (nodes_in (heads ++ (a ++ own ∷ [])) lists) place h ps own trees adds
        (ap (λ l. nodes_in l lists) (sym (append_assoc heads a (own ∷ []))) ∙ node_added (heads ++ a) lists own numbers at last listed)

  -- ---- form in form

  leaf-agrees : (heads : List Code) (at place : ℕ) (h : Head) (met : Met) → IsAt forms (length (nodes_in heads lists)) at (form place h no_parts) → plain_head h 0 ≡ true
      → (own : Result (Code × Met) ScopeFault) → head_met bytes fs seen met h 0 ≡ own
      → Agrees heads (form place h no_parts) (after own (λ o. before_all o.0 (Ok ([], o.1)))) (after own (λ o. Ok (tree (with_slots [] o.0) none, o.1)))
  leaf-agrees heads at place h met is e (Err fault) m = refl
  leaf-agrees heads at place h met is e (Ok own) m =
      (tree own.0 none, refl, whole-form (length (nodes_in heads lists)) at place h heads no_parts [] [] own.0 refl is (none-added heads))

  silent-agrees : (heads : List Code) (n at place : ℕ) (h : Head) (ps : Parts) (met : Met) (c : Code) → length (nodes_in heads lists) ≡ n → IsAt forms n at (form place h ps)
      → (a : Listed) → AgreeParts heads ps a (parts_behind met ps)
      → Agrees heads (form place h ps) (with_last c a) (after (parts_behind met ps) (λ b. Ok (tree (with_slots b.slots c) (in_order b.trees), b.met)))
  silent-agrees heads n at place h ps met c count is (Err fault) agree = ap (λ r. after r (λ b. Ok (tree (with_slots b.slots c) (in_order b.trees), b.met))) agree
  silent-agrees heads n at place h ps met c count is (Ok own) agree = (
    tree c (in_order agree.0),
    ap (λ r. after r (λ b. Ok (tree (with_slots b.slots c) (in_order b.trees), b.met))) agree.1,
    whole-form n at place h heads ps own.0 agree.0 c count is agree.2,
  )

  -- a silent head behind some
  silent-last : (a : Listed) (h : Head) (k : ℕ) (c : Code) → ((m : Met) → head_met bytes fs seen m h k ≡ Ok (c, m)) → joined bytes fs seen a (form_node h k ∷ []) ≡ with_last c a
  silent-last (Err fault) h k c law = refl
  silent-last (Ok own) h k c law = ap (λ o. behind_these own.0 (after o (λ q. before_all q.0 (Ok ([], q.1))))) (law own.1)

  mutual
    pub form-agrees : (heads : List Code) (f : Form) (met : Met) (n at : ℕ) → length (nodes_in heads lists) ≡ n → IsAt forms n at f → AllByRecursion (λ g. plain g ≡ true) (nodes_of f)
        → Agrees heads f (heads_met bytes fs seen met (nodes_of f)) (form_scoped bytes fs arity seen met f)
    form-agrees heads (form place h ps) met n at count is all =
        let k = count_of ps in
        let parted = all-parted (λ g. plain g ≡ true) (nodes_of_parts ps) (form_node h k ∷ []) all in
        let own-plain : plain_head h k ≡ true = parted.1.0 in
        elim (silent bytes fs h k own-plain) [
          | inl none_there ↦ form-leaf heads place h ps met n at count is none_there own-plain
          | inr s ↦
              let c = s.0 in
              let agree = silent-agrees heads n at place h ps met c count is (heads_met bytes fs seen met (nodes_of_parts ps)) (parts-agree heads ps [] met n at place h count is parted.0) in
              let few = sizes-in n (size_of_parts ps) (length forms) (at-within forms n at (form place h ps) is) small in
              let listed = heads-append bytes fs seen met (nodes_of_parts ps) (form_node h k ∷ []) ∙ silent-last (heads_met bytes fs seen met (nodes_of_parts ps)) h k c (λ m. s.1 seen m) in
              let scoped : form_scoped bytes fs arity seen met (form place h ps) ≡ after (parts_behind met ps) (λ b. Ok (tree (with_slots b.slots c) (in_order b.trees), b.met)) =
              ap (λ r. after r (λ own. after (parts_scoped bytes fs arity (items_of h) (behind [] seen [] own.1) ps) (λ b. Ok (tree (with_slots b.slots own.0) (in_order b.trees), b.met)))) (ap (head_met bytes fs seen met h) (sym (count-is ps few)) ∙ s.1 seen met)
              ∙ ap (λ names. after (parts_scoped bytes fs arity names (behind [] seen [] met) ps) (λ b. Ok (tree (with_slots b.slots c) (in_order b.trees), b.met))) (no-items h (plain-other h k own-plain)) in
              subst (λ r. Agrees heads (form place h ps) r (form_scoped bytes fs arity seen met (form place h ps))) (sym listed)
              (subst (Agrees heads (form place h ps) (with_last c (heads_met bytes fs seen met (nodes_of_parts ps)))) (sym scoped) agree)
        ]

    form-leaf : (heads : List Code) (place : ℕ) (h : Head) (ps : Parts) (met : Met) (n at : ℕ) → length (nodes_in heads lists) ≡ n → IsAt forms n at (form place h ps) → count_of ps ≡ 0 → plain_head h (count_of ps) ≡ true
        → Agrees heads (form place h ps) (heads_met bytes fs seen met (nodes_of (form place h ps))) (form_scoped bytes fs arity seen met (form place h ps))
    form-leaf heads place h no_parts met n at count is e own-plain =
        let there : IsAt forms (length (nodes_in heads lists)) at (form place h no_parts) = subst (λ m. IsAt forms m at (form place h no_parts)) (sym count) is in
        subst (λ names. Agrees heads (form place h no_parts) (after (head_met bytes fs seen met h 0) (λ o. before_all o.0 (Ok ([], o.1))))
        (after (head_met bytes fs seen met h 0) (λ own. after (parts_scoped bytes fs arity names (behind [] seen [] own.1) no_parts) (λ b. Ok (tree (with_slots b.slots own.0) (in_order b.trees), b.met))))) (sym (no-items h (plain-other h 0 own-plain)))
        (leaf-agrees heads at place h met there own-plain (head_met bytes fs seen met h 0) refl)
    form-leaf heads place h (next_part ps f) met n at count is e own-plain = absurd (omega (arith, e))

    parts-agree : (heads : List Code) (ps : Parts) (rest : List Form) (met : Met) (n at place : ℕ) (h : Head) → length (nodes_in heads lists) ≡ n → IsAt forms n at (form place h (followed ps rest)) → AllByRecursion (λ g. plain g ≡ true) (nodes_of_parts ps)
        → AgreeParts heads ps (heads_met bytes fs seen met (nodes_of_parts ps)) (parts_behind met ps)
    parts-agree heads no_parts rest met n at place h count is all = no-part heads met
    parts-agree heads (next_part ps f) rest met n at place h count is all =
        let parted = all-parted (λ g. plain g ≡ true) (nodes_of_parts ps) (nodes_of f) all in
        let before = parts-agree heads ps (f ∷ rest) met n at place h count is parted.0 in
        subst (λ r. AgreeParts heads (next_part ps f) r (parts_behind met (next_part ps f))) (sym (heads-append bytes fs seen met (nodes_of_parts ps) (nodes_of f)))
        (parts-more heads ps f met (heads_met bytes fs seen met (nodes_of_parts ps)) before (λ own trees adds.
        let there = parts-count (nodes_in heads lists) (nodes_in (heads ++ own.0) lists) ps trees n adds count in
        form-agrees (heads ++ own.0) f own.1 (n + size_of_parts ps) (own_number (n + size_of_parts ps) f).0 there (part-at forms n at place h ps f rest is) parted.1))
