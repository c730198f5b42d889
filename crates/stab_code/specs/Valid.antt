-- Which programs are valid. Each fact is a definition of its own.
use Rattle.std.specs.Prelude.{◌≡◌, ℕ, ◌+◌, ◌<◌, ◌≤◌, ◌^◌, ⊤, List, [], ◌++◌, length, slice_get, Option, Some, IfSome, IsSomeAnd, option_map}
use Rattle.std.specs.List.{All, range_with_len}
use Rattle.stab_code.specs.declared.head.Head.{Head}
use Rattle.stab_code.specs.declared.head.Head.TheVariants.{Block, If, Two, Not, Neg, Pair, Fst, Snd, Call, Spawn, Stable, NewRef, Get, Set, Send, Recv, Pick, Print}
use Rattle.stab_code.specs.Heads.{text_of}
use Rattle.stab_code.specs.Layout.{nodes_of_all, own_nodes}
use Rattle.stab_code.specs.Limits.{max_form_depth}
use Rattle.stab_code.specs.Program.{FunctionParts, ProgramParts, arity_of, bodies_of, body_of, trees_at}
use Rattle.stab_code.specs.Syntax.{depth_of, lets_of, open_in}

-- the nodes are those of the functions' bodies, function after function
pub record NodesAreInOrder (p : ProgramParts) : Type 0 where
  pub nodes : nodes_of_all 0 (trees_at p (bodies_of p)) ≡ p.nodes
  pub bodies : own_nodes 0 (trees_at p (bodies_of p)) ≡ bodies_of p

-- how many parts a head has: a call, a spawn and a stable section as many as a function of the program takes
abbrev pub head_parts : List FunctionParts → Head → Option ℕ
head_parts functions (Block slots) = Some (length slots + 1)
head_parts functions (Call f) = option_map arity_of (slice_get functions f.0)
head_parts functions (Spawn f) = option_map arity_of (slice_get functions f.0)
head_parts functions (Stable f) = option_map arity_of (slice_get functions f.0)
head_parts functions If = Some 3
head_parts functions (Two op) = Some 2
head_parts functions Pair = Some 2
head_parts functions Set = Some 2
head_parts functions Send = Some 2
head_parts functions Pick = Some 2
head_parts functions Not = Some 1
head_parts functions Neg = Some 1
head_parts functions Fst = Some 1
head_parts functions Snd = Some 1
head_parts functions NewRef = Some 1
head_parts functions Get = Some 1
head_parts functions Recv = Some 1
head_parts functions Print = Some 1
head_parts functions _ = Some 0

-- each node has as many parts as its head, so each function that one names is there
abbrev pub PartsFit : ProgramParts → Type 0
PartsFit p = All (λ node. head_parts p.functions node.head ≡ Some (length node.parts)) p.nodes

-- each text that a node names is there
abbrev pub TextsAreThere : ProgramParts → Type 0
TextsAreThere p = All (λ node. IfSome (text_of node.head) (λ text. text.0 < length p.texts)) p.nodes

-- each block has an item
abbrev pub HasItem : Head → Type 0
HasItem (Block slots) = 0 < length slots
HasItem _ = ⊤

abbrev pub BlocksHaveItems : ProgramParts → Type 0
BlocksHaveItems p = All (λ node. HasItem node.head) p.nodes

-- the parameters of a function and then its lets, in the order of writing, have its slots one by one
abbrev pub SlotsAreInOrder : ProgramParts → Type 0
SlotsAreInOrder p = All (λ f. range_with_len 0 (arity_of f) ++ lets_of (body_of p f) ≡ range_with_len 0 f.slots) p.functions

-- the slots that a body leaves open are parameters', so with SlotsAreInOrder each variable stands where its let or parameter is seen
abbrev pub VariablesAreSeen : ProgramParts → Type 0
VariablesAreSeen p = All (λ f. All (λ slot. slot < arity_of f) (open_in (body_of p f))) p.functions

-- no form is deeper than the limit
abbrev pub DepthsAreWithin : ProgramParts → Type 0
DepthsAreWithin p = All (λ f. depth_of (body_of p f) ≤ max_form_depth) p.functions

-- main is there and takes nothing
abbrev pub MainIsThere : ProgramParts → Type 0
MainIsThere p = IsSomeAnd (slice_get p.functions p.main.0) (λ f. f.takes ≡ [])

-- functions, nodes and texts can be numbered
abbrev pub CountsAreWithin : ProgramParts → Type 0
CountsAreWithin p = (length p.functions < 2 ^ 32) × (length p.nodes < 2 ^ 32) × (length p.texts < 2 ^ 32)

-- a program that can be run
pub record IsValid (p : ProgramParts) : Type 0 where
  pub nodes_in_order : NodesAreInOrder p
  pub parts_fit : PartsFit p
  pub texts_there : TextsAreThere p
  pub blocks_have_items : BlocksHaveItems p
  pub slots_in_order : SlotsAreInOrder p
  pub variables_seen : VariablesAreSeen p
  pub depths_within : DepthsAreWithin p
  pub main_there : MainIsThere p
  pub counts_within : CountsAreWithin p
