-- How deep forms stand in each other, and the list of a program's forms.
use Rattle.std.specs.Prelude.{◌≡◌, ℕ, ◌+◌, ◌-◌, ◌^◌, suc, ◌==◌, max, min, if◌then◌else◌, List, [], ◌∷◌, ◌++◌, length, reverse, Option, Some, None}
use Rattle.std.specs.Option.{option_map_or}
use Rattle.stab_parse.specs.declared.tree.FormNode.{FormNode}
use Rattle.stab_parse.specs.declared.tree.Function as declared
use Rattle.stab_parse.specs.declared.tree.Tree.{Tree}
use Rattle.stab_parse.specs.declared.tree.Param as declared_param
use Rattle.stab_parse.specs.Forms.{Form, form, Parts, no_parts, next_part, type_of, body_of}
use Rattle.stab_parse.specs.Grammar.{Param, param, ParamList, one_param, next_param, Params, no_params, some_params, Function, function, Program, no_functions, next_function}

abbrev pub max_depth : ℕ
max_depth = 200

-- a form has one more than the deepest of its parts, and 1 without parts
abbrev mutual
  pub depth_of : Form → ℕ
  depth_of (form at h parts) = suc (depth_of_parts parts)

  pub depth_of_parts : Parts → ℕ
  depth_of_parts no_parts = 0
  depth_of_parts (next_part ps f) = max (depth_of_parts ps) (depth_of f)

-- the first bytes of the forms in a form whose depth is just beyond the limit
abbrev mutual
  pub deep_in : Form → List ℕ
  deep_in (form at h parts) = deep_in_parts parts ++ (if depth_of_parts parts == max_depth then at ∷ [] else [])

  pub deep_in_parts : Parts → List ℕ
  deep_in_parts no_parts = []
  deep_in_parts (next_part ps f) = deep_in_parts ps ++ deep_in f

abbrev pub deep_in_program : Program → List ℕ
deep_in_program no_functions = []
deep_in_program (next_function p f) = deep_in_program p ++ deep_in (body_of f)

-- the least number of a list
abbrev pub least_of : List ℕ → Option ℕ
least_of [] = None
least_of (n ∷ ns) = Some (option_map_or (min n) (least_of ns) n)

-- how many parts there are, as far as 64 bits count
abbrev pub count_of : Parts → ℕ
count_of no_parts = 0
count_of (next_part ps f) = min (count_of ps + 1) (2 ^ 64 - 1)

-- a form and those in it, each directly behind its parts
abbrev mutual
  pub nodes_of : Form → List FormNode
  nodes_of (form at h parts) = nodes_of_parts parts ++ record { head = h; parts = count_of parts } ∷ []

  pub nodes_of_parts : Parts → List FormNode
  nodes_of_parts no_parts = []
  nodes_of_parts (next_part ps f) = nodes_of_parts ps ++ nodes_of f

abbrev pub nodes_of_program : Program → List FormNode
nodes_of_program no_functions = []
nodes_of_program (next_function p f) = nodes_of_program p ++ nodes_of (body_of f)

abbrev pub param_of : Param → declared_param.Param
param_of (param x q t) = record { name = x; ty = type_of t }

abbrev pub param_list_of : ParamList → List declared_param.Param
param_list_of (one_param x) = param_of x ∷ []
param_list_of (next_param xs m x) = param_list_of xs ++ param_of x ∷ []

abbrev pub params_of : Params → List declared_param.Param
params_of no_params = []
params_of (some_params xs) = param_list_of xs

-- a function, with how many forms stand up to its end
abbrev pub function_of : ℕ → Function → declared.Function
function_of end (function f x o ps e q t b) = record { name = x; params = params_of ps; gives = type_of t; forms_end = end }

abbrev pub functions_of : Program → List declared.Function
functions_of no_functions = []
functions_of (next_function p f) = functions_of p ++ function_of (length (nodes_of_program (next_function p f))) f ∷ []

-- the functions and forms of a program, the last form first
abbrev pub IsTreeOf : Tree → Program → Type 0
IsTreeOf tree p = (tree.functions ≡ functions_of p) × (reverse tree.forms ≡ nodes_of_program p)
