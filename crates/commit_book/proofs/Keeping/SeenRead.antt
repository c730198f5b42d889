-- What was read of the journal stays so while steps are pushed.
use Rattle.std.proofs.Common.{◌≡◌, ℕ, suc, ◌+◌, true, false, cond, nat_eq, List, [], ◌∷◌, length, refl, sym, ap, subst, arith}
use Rattle.std.specs.List.{AllByRecursion}
use Rattle.std.proofs.lemmas.List.{length-append}
use Rattle.stab_journal.specs.declared.event.Label.{Label}
use Rattle.stab_journal.specs.declared.event.Label.TheVariants.{Local}
use Rattle.stab_journal.specs.declared.event.Numbered.{Numbered}
use Rattle.stab_journal.specs.Floor.{is_cut}
use Rattle.stab_journal.specs.Journal.{Journal, RiseFrom, survivors}
use Rattle.commit_book.specs.declared.parts.Parts.{Parts}
use Rattle.commit_book.specs.declared.rollback.Rollback.{Rollback}
use Rattle.commit_book.specs.Acting.{AreAsBefore, IsLonger}
use Rattle.commit_book.specs.Rows.{events_by, numbered_from, local_of, thread}
use Rattle.commit_book.specs.OwnSteps.{IsRead}
use Rattle.commit_book.proofs.Keeping.ReadKept.{read_kept, read_more, read_same}

numbered_rise : (q : ℕ) (ls : List Label) → RiseFrom q (numbered_from q ls)
numbered_rise q [] = tt
numbered_rise q (l ∷ ls) = (omega arith, numbered_rise (suc q) ls)

numbered_uncut : (q : ℕ) (ls : List Label) → AllByRecursion (λ l. is_cut l ≡ false) ls → AllByRecursion (λ (n : Numbered). is_cut n.label ≡ false) (numbered_from q ls)
numbered_uncut q [] uncut = tt
numbered_uncut q (l ∷ ls) uncut = (uncut.0, numbered_uncut (suc q) ls uncut.1)

-- steps were pushed, none of which is a cut
pub longer_read : (old new : Journal) (worker : ℕ) (ls : List Label) (r : Rollback) → IsLonger old new worker ls → AllByRecursion (λ l. is_cut l ≡ false) ls → IsRead old r → IsRead new r
longer_read old new worker ls r longer uncut is =
    let long = ap length longer.events in
    let sum = length-append old.events (events_by worker ls) in
    read_more old new r (length old.events + 1) (numbered_from (length old.events + 1) ls) is (omega arith) longer.survivors (numbered_rise (length old.events + 1) ls) (omega arith) (numbered_uncut (length old.events + 1) ls uncut)

local_uncut : (t n : ℕ) → AllByRecursion (λ l. is_cut l ≡ false) (local_of t n)
local_uncut t n = elim (nat_eq n 0) as (λ b. AllByRecursion (λ l. is_cut l ≡ false) (cond b [] (Local (thread t) n ∷ []))) [ true ↦ tt | false ↦ (refl, tt) ]

-- all is the same but room
pub same_read : (old new : Parts) → AreAsBefore old new → IsRead old.history old.rollback → IsRead new.history new.rollback
same_read old new before is =
    let long = ap (λ (j : Journal). length j.events) before.history in
    read_kept new.history old.rollback new.rollback before.read (read_same old.history new.history old.rollback is (omega arith) (ap survivors before.history))

-- the pure steps were pushed once there was room
pub begun_read : (old planned begins : Parts) (worker t n : ℕ) → AreAsBefore old planned → IsLonger planned.history begins.history worker (local_of t n) → begins ≡ record planned { history = begins.history } → IsRead old.history old.rollback → IsRead begins.history begins.rollback
begun_read old planned begins worker t n before longer rest is =
    subst (IsRead begins.history) (sym (ap (λ (k : Parts). k.rollback) rest))
    (longer_read planned.history begins.history worker (local_of t n) planned.rollback longer (local_uncut t n) (same_read old planned before is))

-- a step was pushed that is no cut
pub stepped_read : (begins new : Parts) (worker : ℕ) (l : Label) → IsLonger begins.history new.history worker (l ∷ []) → is_cut l ≡ false → new.rollback ≡ begins.rollback → IsRead begins.history begins.rollback → IsRead new.history new.rollback
stepped_read begins new worker l longer uncut same is = subst (IsRead new.history) (sym same) (longer_read begins.history new.history worker (l ∷ []) begins.rollback longer (uncut, tt) is)

-- no step was
pub still_read : (begins new : Parts) → new.history ≡ begins.history → new.rollback ≡ begins.rollback → IsRead begins.history begins.rollback → IsRead new.history new.rollback
still_read begins new history same is = subst (λ j. IsRead j new.rollback) (sym history) (subst (IsRead begins.history) (sym same) is)
