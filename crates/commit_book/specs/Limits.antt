-- Numbers that clauses name.
use Rattle.std.specs.Prelude.{ℕ}

-- how much weight commits may add once the fuel is used up
abbrev pub commit_reserve : ℕ
commit_reserve = 1_000_000

-- the greatest number of 64 bits, at which counts of answers stop
abbrev pub most_counted : ℕ
most_counted = 18446744073709551615

-- the most events of a book: those with which it still takes a commit, two of a commit, and a release
abbrev pub most_events : ℕ
most_events = 17_000_002
