-- The forms and functions that a parser kept are those of the program.
use Rattle.std.proofs.Common.{◌≡◌, ℕ, suc, Bool, true, false, cond, List, [], ◌∷◌, ◌++◌, length, refl, sym, ap, ◌∙◌, append_assoc, arith, eqb, Option, Some, None}
use Rattle.std.specs.Prelude.{reverse, min, max}
use Rattle.std.specs.Option.{option_map_or}
use Rattle.std.proofs.lemmas.Bool.Decides.{nat_tests}
use Rattle.std.proofs.lemmas.List.{reverse-append, append-nil, length-reverse}
use Rattle.stab_parse.specs.declared.tree.FormNode.{FormNode}
use Rattle.stab_parse.specs.FormList.{count_of, depth_of, depth_of_parts, deep_in, deep_in_parts, deep_in_program, least_of, nodes_of, nodes_of_parts, nodes_of_program, functions_of, function_of}
use Rattle.stab_parse.specs.Forms.{Form, form, Parts, no_parts, next_part, body_of}
use Rattle.stab_parse.specs.Grammar.{Program, no_functions, next_function}
use Rattle.stab_parse.specs.Moves.{deeper, least_with, node_of, noted}
use Rattle.stab_parse.proofs.Kept.{height_of, height_of_parts, onto, parts_onto, program_onto, deep_onto, deep_parts_onto, deep_program_onto, kept_functions}

mutual
  reverse_onto : (f : Form) (rest : List FormNode) → reverse (onto f rest) ≡ reverse rest ++ nodes_of f
  reverse_onto (form at h parts) rest =
      let n : FormNode = node_of h (count_of parts) in
      reverse-append (n ∷ []) (parts_onto parts rest) ∙ ap (λ l. l ++ n ∷ []) (reverse_parts parts rest) ∙ append_assoc (reverse rest) (nodes_of_parts parts) (n ∷ [])

  reverse_parts : (ps : Parts) (rest : List FormNode) → reverse (parts_onto ps rest) ≡ reverse rest ++ nodes_of_parts ps
  reverse_parts no_parts rest = sym (append-nil (reverse rest))
  reverse_parts (next_part ps f) rest =
      reverse_onto f (parts_onto ps rest) ∙ ap (λ l. l ++ nodes_of f) (reverse_parts ps rest) ∙ append_assoc (reverse rest) (nodes_of_parts ps) (nodes_of f)

pub reverse_program : (p : Program) → reverse (program_onto p) ≡ nodes_of_program p
reverse_program no_functions = refl
reverse_program (next_function p f) = reverse_onto (body_of f) (program_onto p) ∙ ap (λ l. l ++ nodes_of (body_of f)) (reverse_program p)

pub functions_kept : (p : Program) → kept_functions p ≡ functions_of p
functions_kept no_functions = refl
functions_kept (next_function p f) =
    let forms : List FormNode = program_onto (next_function p f) in
    ap (λ l. l ++ function_of (length forms) f ∷ []) (functions_kept p)
    ∙ ap (λ n. functions_of p ++ function_of n f ∷ []) (sym (length-reverse forms) ∙ ap length (reverse_program (next_function p f)))

-- ---- the depth as far as a byte counts

capped_suc : (d : ℕ) → min (suc (min d 255)) 255 ≡ min (suc d) 255
capped_suc d = omega arith

capped_max : (a b : ℕ) → max (min a 255) (min b 255) ≡ min (max a b) 255
capped_max a b = omega arith

mutual
  height_capped : (f : Form) → height_of f ≡ min (depth_of f) 255
  height_capped (form at h parts) = ap (λ d. min (suc d) 255) (height_parts_capped parts) ∙ capped_suc (depth_of_parts parts)

  height_parts_capped : (ps : Parts) → height_of_parts ps ≡ min (depth_of_parts ps) 255
  height_parts_capped no_parts = refl
  height_parts_capped (next_part ps f) =
      ap (λ d. max d (height_of f)) (height_parts_capped ps) ∙ ap (λ d. max (min (depth_of_parts ps) 255) d) (height_capped f) ∙ capped_max (depth_of_parts ps) (depth_of f)

-- ---- the least of a list that grows at its end

min_swap : (x n : ℕ) → min x n ≡ min n x
min_swap x n = omega arith

min_three : (x n m : ℕ) → min x (min n m) ≡ min n (min x m)
min_three x n m = omega arith

least_later : (o : Option ℕ) (x n : ℕ) → Some (option_map_or (min x) (least_with o n) x) ≡ least_with (Some (option_map_or (min x) o x)) n
least_later None x n = ap Some (min_swap x n)
least_later (Some m) x n = ap Some (min_three x n m)

least_of-last : (ns : List ℕ) (n : ℕ) → least_of (ns ++ n ∷ []) ≡ least_with (least_of ns) n
least_of-last [] n = refl
least_of-last (x ∷ ns) n = ap (λ o. Some (option_map_or (min x) o x)) (least_of-last ns n) ∙ least_later (least_of ns) x n

-- ---- the forms that are just too deep

just_beyond : (d : ℕ) → eqb (min (suc (min d 255)) 255) 201 ≡ eqb d 200
just_beyond d = grind (arith, nat_tests)

beyond_parts : (ps : Parts) → eqb (deeper (height_of_parts ps)) 201 ≡ eqb (depth_of_parts ps) 200
beyond_parts ps = ap (λ d. eqb (deeper d) 201) (height_parts_capped ps) ∙ just_beyond (depth_of_parts ps)

noted_last : (b : Bool) (ns ds : List ℕ) (at : ℕ) → cond b (least_with (least_of (ns ++ ds)) at) (least_of (ns ++ ds)) ≡ least_of (ns ++ (ds ++ cond b (at ∷ []) []))
noted_last true ns ds at = sym (least_of-last (ns ++ ds) at) ∙ ap least_of (append_assoc ns ds (at ∷ []))
noted_last false ns ds at = ap (λ l. least_of (ns ++ l)) (sym (append-nil ds))

mutual
  deep_form : (f : Form) (ns : List ℕ) → deep_onto f (least_of ns) ≡ least_of (ns ++ deep_in f)
  deep_form (form at h parts) ns =
      ap (λ o. noted o at (deeper (height_of_parts parts))) (deep_parts parts ns)
      ∙ ap (λ b. cond b (least_with (least_of (ns ++ deep_in_parts parts)) at) (least_of (ns ++ deep_in_parts parts))) (beyond_parts parts)
      ∙ noted_last (eqb (depth_of_parts parts) 200) ns (deep_in_parts parts) at

  deep_parts : (ps : Parts) (ns : List ℕ) → deep_parts_onto ps (least_of ns) ≡ least_of (ns ++ deep_in_parts ps)
  deep_parts no_parts ns = ap least_of (sym (append-nil ns))
  deep_parts (next_part ps f) ns =
      ap (deep_onto f) (deep_parts ps ns) ∙ deep_form f (ns ++ deep_in_parts ps) ∙ ap least_of (append_assoc ns (deep_in_parts ps) (deep_in f))

pub deep_program : (p : Program) → deep_program_onto p ≡ least_of (deep_in_program p)
deep_program no_functions = refl
deep_program (next_function p f) = ap (deep_onto (body_of f)) (deep_program p) ∙ deep_form (body_of f) (deep_in_program p)
