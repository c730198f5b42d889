-- Leases that are put out and taken in.
use Rattle.std.proofs.Common.{◌≡◌, ℕ, Bool, true, false, cond, nat_eq, Option, Some, None, refl, sym, ap, subst, subst₂, ◌∙◌}
use Rattle.std.specs.Prelude.{IfSome, IsSomeAnd, OnOk, Result, Ok, Err}
use Rattle.std.specs.Ordering.{nat_cmp}
use Rattle.std.specs.Cmp.{nat_cmp_total, nat_eq_equiv}
use Rattle.std.specs.FinMap as map
use Rattle.std.specs.FinMap.{FinMap, same_map, nat_cmp-IsAntisymmetric, get-empty}
use Rattle.stab_code.specs.Program.{ProgramParts}
use Rattle.step_eval.specs.ControlView.{ControlView}
use Rattle.language.proofs.Applying.{get_inserted}
use Rattle.commit_book.specs.declared.turn.Turn.TheVariants.{Work}
use Rattle.commit_book.specs.Book.{BookView}
use Rattle.commit_book.specs.Leases.{LeaseView}
use Rattle.commit_book.specs.Turns.{IsLeaseOf, IsTurn}
use Rattle.commit_book.proofs.Threads.Partners.{there_of}
use Rattle.commit_book.proofs.Threads.Waiting.{get_removed}
use Rattle.schedule_drill.specs.declared.held.At.TheVariants.{Lent}
use Rattle.schedule_drill.specs.declared.held.Held.{Held}
use Rattle.schedule_drill.specs.Out.{AreUnder, IsUnder, Out}

once : {A : Type 0} (b : Bool) (x y z : A) → cond b x (cond b y z) ≡ cond b x z
once true x y z = refl
once false x y z = refl

-- what is taken and put again is put
pub put_again : {X : Type 0} (m : FinMap nat_cmp X) (k : ℕ) (v : X) → map.insert (map.remove m k) k v ≡ map.insert m k v
put_again m k v = same_map nat_cmp_total nat_cmp-IsAntisymmetric _ _ (λ q.
    get_inserted (map.remove m k) k v q
    ∙ ap (cond (nat_eq q k) (Some v)) (get_removed m k q)
    ∙ once (nat_eq q k) (Some v) None (map.get m q)
    ∙ sym (get_inserted m k v q))

-- nothing is there that was taken
pub taken_away : {X : Type 0} (m : FinMap nat_cmp X) (k : ℕ) → map.get (map.remove m k) k ≡ None
taken_away m k = get_removed m k k ∙ ap (λ b. cond b None (map.get m k)) (nat_eq_equiv.refl k)

module _ (p : ProgramParts) where
  pub none_under : (out : Out) → out ≡ map.empty → AreUnder p out
  none_under out none k = subst (λ o. IfSome o (λ (held : Held). IsUnder p held.at)) (sym (ap (λ (o : Out). map.get o k) none ∙ get-empty nat_cmp k)) tt

  pub one_more : (out : Out) (k : ℕ) (held : Held) → IsUnder p held.at → AreUnder p out → AreUnder p (map.insert out k held)
  one_more out k held is are q = subst (λ o. IfSome o (λ (held : Held). IsUnder p held.at)) (sym (get_inserted out k held q)) (at (nat_eq q k))
    where
      at : (b : Bool) → IfSome (cond b (Some held) (map.get out q)) (λ (held : Held). IsUnder p held.at)
      at true = is
      at false = are q

  pub one_less : (out : Out) (k : ℕ) → AreUnder p out → AreUnder p (map.remove out k)
  one_less out k are q = subst (λ o. IfSome o (λ (held : Held). IsUnder p held.at)) (sym (get_removed out k q)) (at (nat_eq q k))
    where
      at : (b : Bool) → IfSome (cond b None (map.get out q)) (λ (held : Held). IsUnder p held.at)
      at true = tt
      at false = are q

-- of a lease that is out
pub of_some : (o : Option Held) (held : Held) (P : Held → Type 0) → o ≡ Some held → IfSome o P → P held
of_some o held P is h = subst (λ (r : Option Held). IfSome r P) is h

pub some_and : (o : Option Held) (held : Held) (P : Held → Type 0) → o ≡ Some held → P held → IsSomeAnd o P
some_and o held P is h = subst (λ (r : Option Held). IsSomeAnd r P) (sym is) h

-- ---- answers

pub on_any : {T E : Type 0} (r : Result T E) (P : Type 0) → P → OnOk r P
on_any (Ok x) P h = h
on_any (Err e) P h = tt

pub on_both : {T E : Type 0} (r : Result T E) (P Q R : Type 0) → (P → Q → R) → OnOk r P → OnOk r Q → OnOk r R
on_both (Ok x) P Q R f p q = f p q
on_both (Err e) P Q R f p q = tt

-- a thread that was lent is out
pub lent_under : (old lent : BookView) (out : Out) (k : ℕ) (lease : LeaseView) (control : ControlView) → IsTurn old lent k (Work lease control) → AreUnder old.job.program out
    → (new : BookView) (left : Out) → new ≡ lent → left ≡ map.insert out lease.worker (record { lease = lease; at = Lent control }) → AreUnder new.job.program left
lent_under old lent out k lease control turn are new left same put =
    let there = there_of (map.get old.threads lease.thread) (IsLeaseOf old k lease control) turn.1 in
    let program : new.job.program ≡ old.job.program = ap (λ (b : BookView). b.job.program) (same ∙ turn.2) in
    subst₂ AreUnder (sym program) (sym put) (one_more old.job.program out lease.worker (record { lease = lease; at = Lent control }) there.is.fits are)
