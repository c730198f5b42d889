-- The list of a program's forms: where the parts of each of them stand.
use Rattle.std.proofs.Common.{◌≡◌, ℕ, zero, suc, ◌+◌, ◌-◌, ◌<◌, ◌≤◌, ◌^◌, List, [], ◌∷◌, ◌++◌, length, take, drop, slice_get, Some, refl, sym, ap, subst, ◌∙◌, arith, append_assoc, append-nil, length-append}
use Rattle.std.specs.Prelude.{min}
use Rattle.std.specs.List.{All}
use Rattle.std.proofs.lemmas.List.Elements.{All-append, All-cons, All-nil, All-take, All-drop}
use Rattle.std.proofs.lemmas.List.{take-append-le}
use Rattle.std.proofs.Math.Seq.{drop-append_seam, take-length}
use Rattle.stab_code.specs.declared.node_id.NodeId.{NodeId}
use Rattle.stab_code.specs.Nodes.{id}
use Rattle.stab_code.proofs.Lists.{slice_get-right}
use Rattle.stab_parse.specs.declared.tree.FormNode.{FormNode}
use Rattle.stab_parse.specs.declared.tree.Head.{Head}
use Rattle.stab_parse.specs.Forms.{Form, form, Parts, no_parts, next_part}
use Rattle.stab_parse.specs.FormList.{count_of, nodes_of, nodes_of_parts}
use Rattle.stab_parse.specs.Moves.{node_of}
use Rattle.scope_check.specs.Forms.{number_of}
use Rattle.scope_check.specs.Placed.{size_of, size_of_parts}
use Rattle.scope_check.specs.Places.{IsAt, own_number, own_numbers, part_lists}
use Rattle.scope_check.proofs.Sizes.{length-nodes_of, length-nodes_of_parts}

-- ---- how many

pub some-size : (f : Form) → 0 < size_of f
some-size (form at h ps) = omega arith

number-size : (ps : Parts) → number_of ps ≤ size_of_parts ps
number-size no_parts = omega arith
number-size (next_part ps f) = omega (arith, number-size ps, some-size f)

count-case : (c n : ℕ) → c ≡ n → n + 1 < 2 ^ 32 → min (c + 1) (2 ^ 64 - 1) ≡ n + 1
count-case c n e h = omega arith

pub count-is : (ps : Parts) → size_of_parts ps < 2 ^ 32 → count_of ps ≡ number_of ps
count-is no_parts h = refl
count-is (next_part ps f) h =
    count-case (count_of ps) (number_of ps) (count-is ps (omega arith)) (omega (arith, number-size ps, some-size f))

pub length-own_numbers : (n : ℕ) (ps : Parts) → length (own_numbers n ps) ≡ number_of ps
length-own_numbers n no_parts = refl
length-own_numbers n (next_part ps f) = omega (arith, length-append (own_numbers n ps) (own_number (n + size_of_parts ps) f ∷ []), length-own_numbers n ps)

-- ---- the parts of each form in a form

abbrev mutual
  lists_of : ℕ → Form → List (List NodeId)
  lists_of n (form at h ps) = lists_of_parts n ps ++ own_numbers n ps ∷ []

  lists_of_parts : ℕ → Parts → List (List NodeId)
  lists_of_parts n no_parts = []
  lists_of_parts n (next_part ps f) = lists_of_parts n ps ++ lists_of (n + size_of_parts ps) f

mutual
  length-lists_of : (n : ℕ) (f : Form) → length (lists_of n f) ≡ size_of f
  length-lists_of n (form at h ps) = omega (arith, length-append (lists_of_parts n ps) (own_numbers n ps ∷ []), length-lists_of_parts n ps)

  length-lists_of_parts : (n : ℕ) (ps : Parts) → length (lists_of_parts n ps) ≡ size_of_parts ps
  length-lists_of_parts n no_parts = refl
  length-lists_of_parts n (next_part ps f) =
      omega (arith, length-append (lists_of_parts n ps) (lists_of (n + size_of_parts ps) f), length-lists_of_parts n ps, length-lists_of (n + size_of_parts ps) f)

-- the last of some are taken off
own-step : (n : ℕ) (whole own : List NodeId) (f : FormNode) (rest : List FormNode) → f.parts ≡ length own → part_lists n (whole ++ own) (f ∷ rest) ≡ own ∷ part_lists (n + 1) (whole ++ id n ∷ []) rest
own-step n whole own f rest e =
    let left : length (whole ++ own) - f.parts ≡ length whole = omega (arith, length-append whole own) in
    ap (λ k. drop k (whole ++ own) ∷ part_lists (n + 1) (take k (whole ++ own) ++ id n ∷ []) rest) left
    ∙ ap (λ l. l ∷ part_lists (n + 1) (take (length whole) (whole ++ own) ++ id n ∷ []) rest) (drop-append_seam whole own)
    ∙ ap (λ l. own ∷ part_lists (n + 1) (l ++ id n ∷ []) rest) (take-append-le (length whole) whole own (omega arith) ∙ take-length whole)

plus-none : (n : ℕ) → n ≡ n + 0
plus-none n = omega arith

plus-one : (n s : ℕ) → (n + s) + 1 ≡ n + (s + 1)
plus-one n s = omega arith

plus-sum : (n a b : ℕ) → (n + a) + b ≡ n + (a + b)
plus-sum n a b = omega arith

mutual
  lists-form : (n : ℕ) (whole : List NodeId) (f : Form) (rest : List FormNode) → size_of f < 2 ^ 32 → part_lists n whole (nodes_of f ++ rest) ≡ lists_of n f ++ part_lists (n + size_of f) (whole ++ own_number n f ∷ []) rest
  lists-form n whole (form at h ps) rest small =
      let node = node_of h (count_of ps) in
      let few : size_of_parts ps < 2 ^ 32 = omega arith in
      ap (part_lists n whole) (append_assoc (nodes_of_parts ps) (node ∷ []) rest)
      ∙ lists-parts n whole ps (node ∷ rest) few
      ∙ ap (λ l. lists_of_parts n ps ++ l) (own-step (n + size_of_parts ps) whole (own_numbers n ps) node rest (count-is ps few ∙ sym (length-own_numbers n ps)))
      ∙ ap (λ k. lists_of_parts n ps ++ (own_numbers n ps ∷ part_lists k (whole ++ id (n + size_of_parts ps) ∷ []) rest)) (plus-one n (size_of_parts ps))
      ∙ sym (append_assoc (lists_of_parts n ps) (own_numbers n ps ∷ []) (part_lists (n + (size_of_parts ps + 1)) (whole ++ id (n + size_of_parts ps) ∷ []) rest))

  lists-parts : (n : ℕ) (whole : List NodeId) (ps : Parts) (rest : List FormNode) → size_of_parts ps < 2 ^ 32 → part_lists n whole (nodes_of_parts ps ++ rest) ≡ lists_of_parts n ps ++ part_lists (n + size_of_parts ps) (whole ++ own_numbers n ps) rest
  lists-parts n whole no_parts rest small = ap (λ k. part_lists k whole rest) (plus-none n) ∙ ap (λ l. part_lists (n + 0) l rest) (sym (append-nil whole))
  lists-parts n whole (next_part ps f) rest small =
      let m = n + size_of_parts ps in
      ap (part_lists n whole) (append_assoc (nodes_of_parts ps) (nodes_of f) rest)
      ∙ lists-parts n whole ps (nodes_of f ++ rest) (omega arith)
      ∙ ap (λ l. lists_of_parts n ps ++ l) (lists-form m (whole ++ own_numbers n ps) f rest (omega arith))
      ∙ ap (λ k. lists_of_parts n ps ++ (lists_of m f ++ part_lists k ((whole ++ own_numbers n ps) ++ own_number m f ∷ []) rest)) (plus-sum n (size_of_parts ps) (size_of f))
      ∙ ap (λ l. lists_of_parts n ps ++ (lists_of m f ++ part_lists (n + (size_of_parts ps + size_of f)) l rest)) (append_assoc whole (own_numbers n ps) (own_number m f ∷ []))
      ∙ sym (append_assoc (lists_of_parts n ps) (lists_of m f) (part_lists (n + (size_of_parts ps + size_of f)) (whole ++ own_numbers n (next_part ps f)) rest))

-- ---- a list behind another

abbrev Behind_lists : ℕ → List NodeId → List FormNode → List FormNode → Type 0
Behind_lists n whole before rest =
    (lists : List (List NodeId)) × (left : List NodeId) × (length lists ≡ length before)
    × (part_lists n whole (before ++ rest) ≡ lists ++ part_lists (n + length before) left rest)

lists-behind : (n : ℕ) (whole : List NodeId) (before rest : List FormNode) → Behind_lists n whole before rest
lists-behind n whole [] rest = ([], whole, refl, ap (λ k. part_lists k whole rest) (plus-none n))
lists-behind n whole (f ∷ before) rest =
    let own = drop (length whole - f.parts) whole in
    let left = take (length whole - f.parts) whole ++ id n ∷ [] in
    let next = lists-behind (n + 1) left before rest in
    let count = next.2 in
    let counted : length (own ∷ next.0) ≡ length (f ∷ before) = omega arith in
    let step : (n + 1) + length before ≡ n + length (f ∷ before) = omega arith in
    (own ∷ next.0, next.1, counted, ap (λ l. own ∷ l) next.3 ∙ ap (λ k. own ∷ (next.0 ++ part_lists k next.1 rest)) step)

pub length-part_lists : (n : ℕ) (whole : List NodeId) (forms : List FormNode) → length (part_lists n whole forms) ≡ length forms
length-part_lists n whole [] = refl
length-part_lists n whole (f ∷ forms) = ap suc (length-part_lists (n + 1) (take (length whole - f.parts) whole ++ id n ∷ []) forms)

-- ---- at a place

size-whole : (forms before after : List FormNode) (f : Form) → forms ≡ before ++ (nodes_of f ++ after) → length before + size_of f ≤ length forms
size-whole forms before after f e =
    omega (arith, ap length e, length-append before (nodes_of f ++ after), length-append (nodes_of f) after, length-nodes_of f)

pub at-within : (forms : List FormNode) (first own : ℕ) (f : Form) → IsAt forms first own f → first + size_of f ≤ length forms
at-within forms first own f is =
    let whole = size-whole forms is.before is.after f is.forms_are in
    let first_is = is.first_is in omega arith

-- the numbers of the parts of a form are listed at its own number
pub parts-at : (forms : List FormNode) (first own place : ℕ) (h : Head) (ps : Parts) → length forms < 2 ^ 32 → IsAt forms first own (form place h ps) → slice_get (part_lists 0 [] forms) own ≡ Some (own_numbers first ps)
parts-at forms first own place h ps small is =
    let f = form place h ps in
    let within = at-within forms first own f is in
    let split = lists-behind 0 [] is.before (nodes_of f ++ is.after) in
    let first_is = is.first_is in
    let own_is = is.own_is in
    let count = split.2 in
    let rest = part_lists (0 + length is.before + size_of f) (split.1 ++ own_number (0 + length is.before) f ∷ []) is.after in
    let whole : part_lists 0 [] forms ≡ split.0 ++ (lists_of (0 + length is.before) f ++ rest) =
    ap (part_lists 0 []) is.forms_are ∙ split.3 ∙ ap (λ l. split.0 ++ l) (lists-form (0 + length is.before) split.1 f is.after (omega arith)) in
    let inner : length (lists_of_parts (0 + length is.before) ps) ≡ size_of_parts ps = length-lists_of_parts (0 + length is.before) ps in
    ap (λ l. slice_get l own) whole
    ∙ slice_get-right split.0 (lists_of (0 + length is.before) f ++ rest) own (size_of_parts ps) (omega arith)
    ∙ ap (λ l. slice_get l (size_of_parts ps)) (append_assoc (lists_of_parts (0 + length is.before) ps) (own_numbers (0 + length is.before) ps ∷ []) rest)
    ∙ slice_get-right (lists_of_parts (0 + length is.before) ps) (own_numbers (0 + length is.before) ps ∷ rest) (size_of_parts ps) 0 (omega arith)
    ∙ ap (λ n. Some (own_numbers n ps)) (omega arith)

-- the form itself stands at its own number
pub node-at : (forms : List FormNode) (first own place : ℕ) (h : Head) (ps : Parts) → IsAt forms first own (form place h ps) → slice_get forms own ≡ Some (node_of h (count_of ps))
node-at forms first own place h ps is =
    let node = node_of h (count_of ps) in
    let first_is = is.first_is in
    let own_is = is.own_is in
    ap (λ l. slice_get l own) is.forms_are
    ∙ slice_get-right is.before (nodes_of (form place h ps) ++ is.after) own (size_of_parts ps) (omega arith)
    ∙ ap (λ l. slice_get l (size_of_parts ps)) (append_assoc (nodes_of_parts ps) (node ∷ []) is.after)
    ∙ slice_get-right (nodes_of_parts ps) (node ∷ is.after) (size_of_parts ps) 0 (omega (arith, length-nodes_of_parts ps))

-- ---- parts before others

-- some parts, and then these forms
abbrev pub followed : Parts → List Form → Parts
followed ps [] = ps
followed ps (f ∷ fs) = followed (next_part ps f) fs

abbrev nodes_of_forms : List Form → List FormNode
nodes_of_forms [] = []
nodes_of_forms (f ∷ fs) = nodes_of f ++ nodes_of_forms fs

nodes-followed : (ps : Parts) (fs : List Form) → nodes_of_parts (followed ps fs) ≡ nodes_of_parts ps ++ nodes_of_forms fs
nodes-followed ps [] = sym (append-nil (nodes_of_parts ps))
nodes-followed ps (f ∷ fs) = nodes-followed (next_part ps f) fs ∙ append_assoc (nodes_of_parts ps) (nodes_of f) (nodes_of_forms fs)

own-followed : (n : ℕ) (ps : Parts) (fs : List Form) → (rest : List NodeId) × (own_numbers n (followed ps fs) ≡ own_numbers n ps ++ rest)
own-followed n ps [] = ([], sym (append-nil (own_numbers n ps)))
own-followed n ps (f ∷ fs) =
    let next = own-followed n (next_part ps f) fs in
    (own_number (n + size_of_parts ps) f ∷ next.0, next.1 ∙ append_assoc (own_numbers n ps) (own_number (n + size_of_parts ps) f ∷ []) next.0)

-- the number of a part that others follow
pub own-at : (n : ℕ) (ps : Parts) (f : Form) (fs : List Form) → slice_get (own_numbers n (followed (next_part ps f) fs)) (number_of ps) ≡ Some (own_number (n + size_of_parts ps) f)
own-at n ps f fs =
    let own = own_number (n + size_of_parts ps) f in
    let rest = own-followed n (next_part ps f) fs in
    ap (λ l. slice_get l (number_of ps)) (rest.1 ∙ append_assoc (own_numbers n ps) (own ∷ []) rest.0)
    ∙ slice_get-right (own_numbers n ps) (own ∷ rest.0) (number_of ps) 0 (omega (arith, length-own_numbers n ps))

-- and where it stands
pub part-at : (forms : List FormNode) (first own place : ℕ) (h : Head) (ps : Parts) (f : Form) (fs : List Form) → IsAt forms first own (form place h (followed (next_part ps f) fs)) → IsAt forms (first + size_of_parts ps) (own_number (first + size_of_parts ps) f).0 f
part-at forms first own place h ps (form p g inner) fs is =
    let f = form p g inner in
    let all = followed (next_part ps f) fs in
    let node = node_of h (count_of all) in
    let first_is = is.first_is in
    record {
      before = is.before ++ nodes_of_parts ps;
      after = nodes_of_forms fs ++ (node ∷ is.after);
      forms_are = is.forms_are
          ∙ ap (λ l. is.before ++ l) (append_assoc (nodes_of_parts all) (node ∷ []) is.after
          ∙ ap (λ l. l ++ (node ∷ is.after)) (nodes-followed (next_part ps f) fs)
          ∙ append_assoc (nodes_of_parts ps ++ nodes_of f) (nodes_of_forms fs) (node ∷ is.after)
          ∙ append_assoc (nodes_of_parts ps) (nodes_of f) (nodes_of_forms fs ++ (node ∷ is.after)))
          ∙ sym (append_assoc is.before (nodes_of_parts ps) (nodes_of f ++ (nodes_of_forms fs ++ (node ∷ is.after))));
      first_is = length-append is.before (nodes_of_parts ps) ∙ ap (λ n. n + length (nodes_of_parts ps)) first_is ∙ ap (λ n. first + n) (length-nodes_of_parts ps);
      own_is = plus-one (first + size_of_parts ps) (size_of_parts inner);
    }

-- ---- parts stand before what they are parts of

below-all : (n : ℕ) (whole : List NodeId) (forms : List FormNode) (i : ℕ) (own : List NodeId) → All (λ part. part.0 < n) whole → slice_get (part_lists n whole forms) i ≡ Some own → All (λ part. part.0 < n + i) own
below-all n whole [] i own all found = absurd cc
below-all n whole (f ∷ forms) zero own all found =
    let same : drop (length whole - f.parts) whole ≡ own = cc in
    subst (All (λ part. part.0 < n + 0)) same (subst (λ m. All (λ part. part.0 < m) (drop (length whole - f.parts) whole)) (plus-none n) (All-drop (λ part. part.0 < n) (length whole - f.parts) whole all))
below-all n whole (f ∷ forms) (suc i) own all found =
    let left = take (length whole - f.parts) whole in
    let more : All (λ part. part.0 < n + 1) left = λ k d h. let b = All-take (λ part. part.0 < n) (length whole - f.parts) whole all k d h in omega arith in
    let next : All (λ part. part.0 < n + 1) (left ++ id n ∷ []) =
    All-append (λ part. part.0 < n + 1) left (id n ∷ []) more (All-cons (λ part. part.0 < n + 1) (id n) [] (omega arith) (All-nil (λ part. part.0 < n + 1))) in
    let rest = below-all (n + 1) (left ++ id n ∷ []) forms i own next found in
    λ k d h. let b = rest k d h in omega arith

pub parts-below : (forms : List FormNode) (i : ℕ) (own : List NodeId) → slice_get (part_lists 0 [] forms) i ≡ Some own → All (λ part. part.0 < i) own
parts-below forms i own found = λ k d h. let b = below-all 0 [] forms i own (All-nil (λ part. part.0 < 0)) found k d h in omega arith

-- each form has such a list
pub parts-there : (forms : List FormNode) (lists : List (List NodeId)) (at : ℕ) → lists ≡ part_lists 0 [] forms → at < length forms → at < length lists
parts-there forms lists at e h = omega (arith, ap length e, length-part_lists 0 [] forms)
