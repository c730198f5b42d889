use Rattle.std.proofs.Common.{◌≡◌, ◌+◌, ℕ, [], vec_len, vec_capacity}
use Rattle.std.specs.List.{slice_index_or}
use Rattle.own_steps.specs.Layout.{rows_from}
use Rattle.own_steps.proofs.own_steps.OwnSteps.reserve.Given as goal

-- threads joined that keep no place
abbrev pub invariant-loop : goal.invariant-loop
invariant-loop l = record {
  rows : (t : ℕ) → slice_index_or (rows_from 0 l.self-inside.heads.items l.self-inside.entries.items) t [] ≡ slice_index_or (rows_from 0 l.initial.self-inside.heads.items l.initial.self-inside.entries.items) t [];
  entries : l.self-inside.entries ≡ l.initial.self-inside.entries;
  len : vec_len l.self-inside.heads ≡ vec_len l.initial.self-inside.heads + l.counter;
  capacity : vec_capacity l.self-inside.heads ≡ vec_capacity l.initial.self-inside.heads;
}
