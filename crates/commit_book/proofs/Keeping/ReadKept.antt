-- What was read stays read while the journal grows.
use Rattle.std.proofs.Common.{◌≡◌, ℕ, suc, ◌<◌, ◌≤◌, Bool, false, cond, List, [], ◌∷◌, ◌++◌, length, refl, sym, ap, ◌∙◌, arith, append-nil}
use Rattle.std.specs.List.{AllByRecursion}
use Rattle.stab_base.specs.declared.numbers.Seq.{Seq}
use Rattle.stab_journal.specs.declared.event.Label.{Label}
use Rattle.stab_journal.specs.declared.event.Numbered.{Numbered}
use Rattle.stab_journal.specs.Floor.{floor, floor_from, is_cut}
use Rattle.stab_journal.specs.Journal.{Journal, RiseFrom, survivors}
use Rattle.stab_journal.specs.Label.{actors}
use Rattle.stab_journal.specs.Names.{has}
use Rattle.commit_book.specs.declared.rollback.Rollback.{Rollback}
use Rattle.commit_book.specs.OwnSteps.{IsRead, IsUnread, SaysTheSame, steps_within}
use Rattle.commit_book.proofs.Keeping.ReadSteps.{inside, within-cons, within-past}

-- steps that aren't read yet join
within_more : (f e k : ℕ) (p : Label → Bool) (run ns : List Numbered) → RiseFrom k ns → e < k → steps_within f e p (run ++ ns) ≡ steps_within f e p run
within_more f e k p [] ns rise late = within-past f p e k ns rise late
within_more f e k p (n ∷ run) ns rise late =
    within-cons f p e n (run ++ ns)
    ∙ ap (λ qs. cond (inside f p e n) (n.seq.0 ∷ qs) qs) (within_more f e k p run ns rise late)
    ∙ sym (within-cons f p e n run)

floor_uncut : (f : ℕ) (ns : List Numbered) → AllByRecursion (λ (n : Numbered). is_cut n.label ≡ false) ns → floor_from f ns ≡ f
floor_uncut f [] uncut = refl
floor_uncut f (n ∷ ns) uncut = ap (λ b. floor_from (cond b n.seq.0 f) ns) uncut.0 ∙ floor_uncut f ns uncut.1

-- no cut joins
floor_more : (f : ℕ) (run ns : List Numbered) → AllByRecursion (λ (n : Numbered). is_cut n.label ≡ false) ns → floor_from f (run ++ ns) ≡ floor_from f run
floor_more f [] ns uncut = floor_uncut f ns uncut
floor_more f (n ∷ run) ns uncut = floor_more (cond (is_cut n.label) n.seq.0 f) run ns uncut

-- a journal with more steps, none of which is a cut or is read yet
pub read_more : (old new : Journal) (r : Rollback) (k : ℕ) (ns : List Numbered) → IsRead old r → length old.events ≤ length new.events → survivors new ≡ survivors old ++ ns → RiseFrom k ns → length old.events < k → AllByRecursion (λ (n : Numbered). is_cut n.label ≡ false) ns → IsRead new r
read_more old new r k ns is longer more rise late uncut =
    let low : r.read < k = omega (arith, is.read) in
    record {
      read = omega (arith, is.read);
      floor = is.floor ∙ sym (ap floor more ∙ floor_more 0 (survivors old) ns uncut);
      cut = is.cut;
      own = λ t. is.own t ∙ sym (ap (steps_within r.floor.0 r.read (λ l. has (actors l) t)) more ∙ within_more r.floor.0 r.read k (λ l. has (actors l) t) (survivors old) ns rise low);
      lost = is.lost;
    }

-- one with the same steps
pub read_same : (old new : Journal) (r : Rollback) → IsRead old r → length old.events ≤ length new.events → survivors new ≡ survivors old → IsRead new r
read_same old new r is longer same = read_more old new r (suc (length old.events)) [] is longer (same ∙ sym (append-nil (survivors old))) tt (omega arith) tt

-- the same was read
pub read_kept : (j : Journal) (old new : Rollback) → SaysTheSame old new → IsRead j old → IsRead j new
read_kept j old new same is =
    let floor_is : new.floor.0 ≡ old.floor.0 = ap (λ (q : Seq). q.0) same.floor in
    let within : (p : Label → Bool) → steps_within old.floor.0 old.read p (survivors j) ≡ steps_within new.floor.0 new.read p (survivors j) = λ p.
    sym (ap (λ f. steps_within f new.read p (survivors j)) floor_is ∙ ap (λ e. steps_within old.floor.0 e p (survivors j)) same.read) in
    record {
      read = omega (arith, is.read, same.read);
      floor = floor_is ∙ is.floor;
      cut = omega (arith, is.cut, same.read);
      own = λ t. same.own t ∙ is.own t ∙ within (λ l. has (actors l) t);
      lost = same.lost ∙ is.lost;
    }

-- of a journal without steps nothing is read
pub read_none_yet : (j : Journal) (r : Rollback) → survivors j ≡ [] → IsUnread r → IsRead j r
read_none_yet j r none is = record {
  read = let zero = is.read in omega arith;
  floor = is.floor ∙ sym (ap floor none);
  cut = let zero = is.floor in omega arith;
  own = λ t. is.own t ∙ sym (ap (steps_within r.floor.0 r.read (λ l. has (actors l) t)) none);
  lost = is.lost;
}
