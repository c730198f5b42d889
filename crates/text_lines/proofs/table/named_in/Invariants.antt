use Rattle.std.proofs.Common.{◌≡◌, List, drop, map, Bor, ℕ}
use Rattle.text_lines.specs.Table.{named_in}
use Rattle.text_lines.proofs.table.named_in.Given as goal

-- no row before this one has the word
abbrev pub invariant-loop-name : goal.invariant-loop-name
invariant-loop-name g l = named_in (map (λ (row : Bor (List ℕ) × g.row.T.Denot). (row.0.now, row.1)) l.table) l.word ≡ named_in (map (λ (row : Bor (List ℕ) × g.row.T.Denot). (row.0.now, row.1)) (drop l.name-index l.table)) l.word
