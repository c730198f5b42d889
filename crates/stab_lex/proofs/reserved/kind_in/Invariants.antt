use Rattle.std.proofs.Common.{◌≡◌, List, drop, map, Bor, ℕ}
use Rattle.stab_lex.specs.declared.kind.Kind.{Kind}
use Rattle.stab_lex.specs.Kinds.{kind_in}
use Rattle.stab_lex.proofs.reserved.kind_in.Given as goal

-- no row before this one has the spelling
abbrev pub invariant-loop-text : goal.invariant-loop-text
invariant-loop-text l = kind_in (map (λ (row : Bor (List ℕ) × Kind). (row.0.now, row.1)) l.table) l.spelling ≡ kind_in (map (λ (row : Bor (List ℕ) × Kind). (row.0.now, row.1)) (drop l.text-index l.table)) l.spelling
