-- What a block does when an item of it has its value.
use Rattle.std.proofs.Common.{◌≡◌, ℕ, suc, ◌+◌, ◌<◌, ◌≤◌, List, [], ◌∷◌, length, length-drop, get_or, drop, slice_get, Option, Some, None, IfSome, refl, ap, sym, ◌∙◌, subst, arith}
use Rattle.std.proofs.lemmas.Option.{slice_get-get_or, slice_get_within}
use Rattle.stab_base.specs.Datum.{Datum}
use Rattle.stab_code.specs.declared.head.Head as code
use Rattle.stab_code.specs.declared.head.Head.TheVariants.{Block}
use Rattle.stab_code.specs.declared.node_id.NodeId.{NodeId}
use Rattle.stab_code.specs.Heads.{slots_of}
use Rattle.stab_code.specs.Program.{ProgramParts, tree_at, trees_at}
use Rattle.stab_code.specs.Trees.{Tree, Trees, tree, none, more}
use Rattle.stab_code.specs.Valid.{IsValid, head_parts}
use Rattle.language.specs.declared.head.Head.TheVariants as head
use Rattle.language.specs.Expression.{Parts, form, put, put_parts}
use Rattle.language.specs.Outcome.{becomes, after_item, block_of, with_one}
use Rattle.language.specs.Program.{expr_of, exprs_of}
use Rattle.step_eval.specs.declared.site.Site.TheVariants.{Form}
use Rattle.step_eval.specs.FrameView.{FrameView}
use Rattle.step_eval.specs.Fits.{FormFits, IsLeft}
use Rattle.step_eval.specs.Meaning.{at_form, form_at, head_of, head_left, node_at, behind_values}
use Rattle.step_eval.specs.Ready.{IsSettled}
use Rattle.step_eval.specs.Scoped.{IsScoped}
use Rattle.step_eval.specs.Turns.{IsBound, turn_at}
use Rattle.step_eval.proofs.Nodes.{part_count}
use Rattle.step_eval.proofs.Scopes.{AreScoped, bound-scoped, first-scoped, length-bound, put_parts-bound, rest-scoped, slot-ahead}
use Rattle.step_eval.proofs.Standing.{drop-next, left-scoped}
use Rattle.step_eval.proofs.Turning.{count-is, drop-last, dropped, rest-is, turn-is}

bound-none : (own : List (Option ℕ)) (vs env : List Datum) (t : Tree) (ts : Trees) → length vs ≡ 1 → AreScoped (length env) (None ∷ own) (more t ts) → with_one vs (λ v. after_item (None ∷ own) v (put_parts (slice_get env) (exprs_of ts))) ≡ block_of own (put_parts (slice_get env) (exprs_of ts))
bound-none own [] env t ts one s = absurd (omega arith)
bound-none own (v ∷ []) env t ts one s = refl
bound-none own (v ∷ w ∷ vs) env t ts one s = absurd (omega arith)

-- an item's value, where it goes
after-bound : (slot : Option ℕ) (own : List (Option ℕ)) (vs env after : List Datum) (t : Tree) (ts : Trees) → length vs ≡ 1 → AreScoped (length env) (slot ∷ own) (more t ts) → IsBound slot vs env after →
    (with_one vs (λ v. after_item (slot ∷ own) v (put_parts (slice_get env) (exprs_of ts))) ≡ block_of own (put_parts (slice_get after) (exprs_of ts))) × AreScoped (length after) own ts
after-bound None own vs env after t ts one s b = (
  bound-none own vs env t ts one s ∙ ap (λ e. block_of own (put_parts (slice_get e) (exprs_of ts))) (sym b),
  subst (λ (e : List Datum). AreScoped (length e) own ts) (sym b) (rest-scoped (length env) own t ts s),
)
after-bound (Some x) own [] env after t ts one s b = absurd (omega arith)
after-bound (Some x) own (v ∷ w ∷ vs) env after t ts one s b = absurd (omega arith)
after-bound (Some x) own (v ∷ []) env after t ts one s b =
    let size : length after ≡ x + 1 = ap length b.1 ∙ length-bound env x v b.0 in (
      ap (block_of own) (sym (put_parts-bound env x v b.0 own t ts s)) ∙ ap (λ e. block_of own (put_parts (slice_get e) (exprs_of ts))) (sym b.1),
      subst (λ (k : ℕ). AreScoped k own ts) (sym size) (bound-scoped (length env) x own t ts s),
    )

ahead-by : (size : ℕ) (slot : Option ℕ) (own : List (Option ℕ)) (t : Tree) (ts : Trees) → AreScoped size (slot ∷ own) (more t ts) → IfSome slot (λ x. size ≤ x)
ahead-by size None own t ts s = tt
ahead-by size (Some x) own t ts s = slot-ahead size x own t ts s

module _ (p : ProgramParts) (valid : IsValid p) (n : NodeId) (from : ℕ) (here : FrameView) (slots : List (Option ℕ)) (slot : Option ℕ) (at : here.site ≡ Form n from) (settled : IsSettled p here) (fits : FormFits p n from (length here.env)) (is : (node_at p n).head ≡ Block slots) (found : slice_get slots from ≡ Some slot) where
  cut : drop from slots ≡ slot ∷ drop (suc from) slots
  cut = drop-next slots from slot found

  pub long : length (node_at p n).parts ≡ length slots + 1
  long =
      let all : head_parts p.functions (Block slots) ≡ Some (length (node_at p n).parts) = ap (head_parts p.functions) (sym is) ∙ part_count p valid n fits.there in
      cc

  one : length here.done ≡ 1
  one = count-is p n from here at (Block slots) settled is

  inside : from < length (node_at p n).parts
  inside = let slot_there : from < length slots = slice_get_within slots from slot found in omega (arith, long)

  abbrev item : NodeId
  item = get_or (node_at p n).parts from n

  cut_parts : drop from (node_at p n).parts ≡ item ∷ drop (suc from) (node_at p n).parts
  cut_parts = drop-next (node_at p n).parts from item (slice_get-get_or (node_at p n).parts from n inside)

  abbrev behind : Trees
  behind = trees_at p (drop (suc from) (node_at p n).parts)

  abbrev own : List (Option ℕ)
  own = drop (suc from) slots

  all-scoped : AreScoped (length here.env) (slot ∷ own) (more (tree_at p item) behind)
  all-scoped =
      let P : List (Option ℕ) → Type 0 = λ (os : List (Option ℕ)). AreScoped (length here.env) os (more (tree_at p item) behind) in
      let Q : List NodeId → Type 0 = λ (ns : List NodeId). AreScoped (length here.env) (drop from slots) (trees_at p ns) in
      let R : code.Head → Type 0 = λ (h : code.Head). AreScoped (length here.env) (slots_of (head_left from h)) (trees_at p (drop from (node_at p n).parts)) in
      subst P cut (subst Q cut_parts (subst R is (left-scoped p valid n from (length here.env) fits)))

  pub slot-is-ahead : IfSome slot (λ x. length here.env ≤ x)
  slot-is-ahead = ahead-by (length here.env) slot own (tree_at p item) behind all-scoped

  behind-is : behind_values p here ≡ put_parts (slice_get here.env) (exprs_of behind)
  behind-is = rest-is p n from here at (drop (suc from) (node_at p n).parts) (ap (λ k. drop k (node_at p n).parts) (let o : length here.done ≡ 1 = one in let e : from + length here.done ≡ suc from = omega arith in e))

  turn-item : turn_at p here ≡ with_one here.done (λ v. after_item (slot ∷ own) v (put_parts (slice_get here.env) (exprs_of behind)))
  turn-item =
      turn-is p n from here at (Block slots) is
      ∙ ap (λ rest. with_one here.done (λ v. after_item (drop from slots) v rest)) behind-is
      ∙ ap (λ os. with_one here.done (λ v. after_item os v (put_parts (slice_get here.env) (exprs_of behind)))) cut

  module _ (after : List Datum) (goes : IsBound slot here.done here.env after) where
    turn-block : turn_at p here ≡ block_of own (put_parts (slice_get after) (exprs_of behind))
    turn-block = turn-item ∙ (after-bound slot own here.done here.env after (tree_at p item) behind one all-scoped goes).0

    behind-scoped : AreScoped (length after) own behind
    behind-scoped = (after-bound slot own here.done here.env after (tree_at p item) behind one all-scoped goes).1

    -- after the last item, the last part
    module _ (last : NodeId) (end : from + 1 ≡ length slots) (last_there : slice_get (node_at p n).parts (from + 1) ≡ Some last) where
      only_last : drop (suc from) (node_at p n).parts ≡ last ∷ []
      only_last =
          let k : from + 1 ≡ suc from = omega arith in
          drop-last (node_at p n).parts (suc from) last (ap (slice_get (node_at p n).parts) (sym k) ∙ last_there) (omega (arith, long))

      no_more : own ≡ []
      no_more = dropped slots (suc from) (omega arith)

      pub turn-last : turn_at p here ≡ becomes (put (slice_get after) (expr_of (tree_at p last)))
      turn-last =
          turn-block
          ∙ ap (λ os. block_of os (put_parts (slice_get after) (exprs_of behind))) no_more
          ∙ ap (λ ns. block_of [] (put_parts (slice_get after) (exprs_of (trees_at p ns)))) only_last

      pub last-scoped : IsScoped (length after) (tree_at p last)
      last-scoped =
          let P : List NodeId → Type 0 = λ (ns : List NodeId). AreScoped (length after) own (trees_at p ns) in
          first-scoped (length after) own (tree_at p last) none (subst P only_last behind-scoped)

    -- before it, the block without the item
    module _ (more_left : from + 1 < length slots) where
      own-some : (os : List (Option ℕ)) (ps : Parts) → 0 < length os → block_of os ps ≡ becomes (form (head.Block os) ps)
      own-some [] ps h = absurd (omega arith)
      own-some (o ∷ os) ps h = refl

      pub turn-more : turn_at p here ≡ becomes (form_at p (at_form n (from + 1) [] after))
      turn-more =
          let k : suc from ≡ from + 1 = omega arith in
          let m : suc from ≡ from + 1 + 0 = omega arith in
          turn-block
          ∙ own-some own (put_parts (slice_get after) (exprs_of behind)) (omega (arith, length-drop (suc from) slots))
          ∙ ap (λ j. becomes (form (head.Block (drop j slots)) (put_parts (slice_get after) (exprs_of behind)))) k
          ∙ ap (λ j. becomes (form (head.Block (drop (from + 1) slots)) (put_parts (slice_get after) (exprs_of (trees_at p (drop j (node_at p n).parts)))))) m
          ∙ sym (ap (λ h. becomes (form (head_of (head_left (from + 1) h)) (put_parts (slice_get after) (exprs_of (trees_at p (drop (from + 1 + 0) (node_at p n).parts)))))) is)

      pub fits-more : FormFits p n (from + 1) (length after)
      fits-more =
          let k : suc from ≡ from + 1 = omega arith in
          let P : ℕ → Type 0 = λ (j : ℕ). AreScoped (length after) (drop j slots) (trees_at p (drop j (node_at p n).parts)) in
          let s : AreScoped (length after) (drop (from + 1) slots) (trees_at p (drop (from + 1) (node_at p n).parts)) = subst P k behind-scoped in
          let Q : code.Head → Type 0 = λ (h : code.Head). IsScoped (length after) (tree (head_left (from + 1) h) (trees_at p (drop (from + 1) (node_at p n).parts))) in
          let L : code.Head → Type 0 = λ (h : code.Head). IsLeft h (from + 1) in
          record {
            there = fits.there;
            is_form = fits.is_form;
            left = subst L (sym is) more_left;
            scoped = subst Q (sym is) (record { seen = s.seen; ahead = s.ahead });
          }
