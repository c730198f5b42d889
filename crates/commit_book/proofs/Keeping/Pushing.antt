-- Steps that are pushed.
use Rattle.std.proofs.Common.{◌≡◌, ℕ, ◌<◌, cond, nat_eq, false, [], ◌∷◌, sym, ap, arith}
use Rattle.std.proofs.lemmas.Bool.Decides.{nat_tests}
use Rattle.stab_journal.specs.declared.event.Label.TheVariants.{Local}
use Rattle.commit_book.specs.Rows.{local_of, thread}

not_none : (n : ℕ) → 0 < n → nat_eq n 0 ≡ false
not_none n some = grind (arith, nat_tests)

pub local_some : (t n : ℕ) → 0 < n → Local (thread t) n ∷ [] ≡ local_of t n
local_some t n some = sym (ap (λ b. cond b [] (Local (thread t) n ∷ [])) (not_none n some))
