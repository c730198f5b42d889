-- The lines of threads as they are kept, and as callers see them.
use Rattle.std.specs.Prelude.{◌≡◌, ℕ, ◌≤◌, List, length, map as each, nat_eq, Option, is_some, refl}
use Rattle.std.specs.List.{IsDistinct, count_by}
use Rattle.std.specs.Ordering.{nat_cmp}
use Rattle.std.specs.FinMap as map
use Rattle.std.specs.FinMap.{FinMap}
use Rattle.std.specs.Coded.{Coded, code_by, coded×, coded_list, coded_ℕ}
use Rattle.stab_base.specs.declared.numbers.ThreadId.{ThreadId}
use Rattle.linked_lists.specs.Lists.{is_listed}
use Rattle.linked_lists.specs.Numbered.{by_number}
use Rattle.restore.specs.declared.line.Line.{Line}

-- the lines by the numbers of threads, and the number below which threads have room
pub record Lines : Type 0 where
  pub lines : FinMap nat_cmp Line
  pub spare : ℕ

abbrev pub lines_code : Coded Line → Coded Lines
lines_code line = code_by (FinMap nat_cmp Line × ℕ) (coded× (map.code coded_ℕ line) coded_ℕ) (λ s. (s.lines, s.spare)) (λ p. record { lines = p.0; spare = p.1 }) (λ _. refl)

-- the same while they are found, with the threads that have one
pub record Finding : Type 0 where
  pub lines : FinMap nat_cmp Line
  pub touched : List ℕ
  pub spare : ℕ

abbrev pub finding_code : Coded Line → Coded Finding
finding_code line =
    code_by (FinMap nat_cmp Line × (List ℕ × ℕ)) (coded× (map.code coded_ℕ line) (coded× (coded_list coded_ℕ) coded_ℕ)) (λ s. (s.lines, (s.touched, s.spare))) (λ p. record { lines = p.0; touched = p.1.0; spare = p.1.1 }) (λ _. refl)

-- the numbers of threads
abbrev pub numbers : List ThreadId → List ℕ
numbers ts = each (λ (t : ThreadId). t.0) ts

-- the threads with a line are listed once and no other is, and there is memory for all that have room
pub record IsFound (lines : List (Option Line)) (touched : List ℕ) (capacity : ℕ) : Type 0 where
  pub once : IsDistinct nat_eq touched
  pub listed : (t : ℕ) → is_listed t touched ≡ map.contains_key (by_number 0 lines) t
  pub count : length touched ≡ count_by (λ (o : Option Line). is_some o) lines
  pub spare : length lines ≤ capacity
