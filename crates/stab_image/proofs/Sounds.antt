-- An image of sound parts.
use Rattle.std.proofs.Common.{◌≡◌, ℕ, ◌≤◌, Bool, true, false, Option, Some, None, refl, arith}
use Rattle.std.specs.Prelude.{unwrap_or}
use Rattle.std.specs.Ordering.{nat_cmp}
use Rattle.std.specs.FinMap as map
use Rattle.std.specs.FinMap.{from_entries}
use Rattle.image_lines.specs.declared.head.Next.{Next}
use Rattle.image_run.specs.Next.{AreBelowNext}
use Rattle.image_state.specs.Parts.{Parts}
use Rattle.image_state.specs.Sound.{AreSound, IsBelow, state_from}
use Rattle.stab_image.specs.Limits.{max_number}
use Rattle.stab_image.specs.Numbered.{AreBelow}

not_there : (next : ℕ) (b : Bool) → (b ≡ true → IsBelow next 0) → b ≡ false
not_there next false h = refl
not_there next true h = absurd (let low = (h refl).0 in omega arith)

few_of : (o : Option ℕ) → ((g : ℕ) → o ≡ Some g → g ≤ 4294967295) → unwrap_or o 0 ≤ max_number
few_of None h = omega arith
few_of (Some g) h = h g refl

module _ (next : Next) (q : Parts) (s : AreSound next q) where
  pub below_of : AreBelow next.chan (state_from q)
  below_of = record { channels = s.channels; references = not_there next.reference (map.contains_key (state_from q).references 0) (s.references 0) }

  pub no_thread_0 : map.contains_key (state_from q).threads 0 ≡ false
  no_thread_0 = not_there next.thread (map.contains_key (state_from q).threads 0) (s.threads 0)

  pub named_of : AreBelowNext (record { thread = next.thread; chan = next.chan; reference = next.reference }) (state_from q)
  named_of = record { threads = s.threads; channels = λ c there. (s.channels c there).1; references = λ r there. (s.references r there).1 }

  pub put_back_of : (t : ℕ) → unwrap_or (map.get (from_entries {R = nat_cmp} q.generations) t) 0 ≤ max_number
  put_back_of t = few_of (map.get (from_entries {R = nat_cmp} q.generations) t) (λ g at. s.few t g at)
