-- What a caller needs to know before it calls: which channels are there.
use Rattle.std.proofs.Common.{◌≡◌, ℕ, Bool, true, false, cond, ◌||◌, nat_eq, Some, IsSome, refl, sym, ap, ◌∙◌, subst}
use Rattle.std.specs.Cmp.{nat_cmp_total, unsigned_tied}
use Rattle.std.specs.FinMap.{get, insert, get-insert}
use Rattle.std.proofs.lemmas.Bool.Decides.{Decides-eqb}
use Rattle.stab_base.specs.declared.numbers.ChanId.{ChanId}
use Rattle.rendezvous.specs.declared.offer.Offer.TheVariants as offer
use Rattle.rendezvous.specs.Line.{Lines, nobody, AreThere}

at : (m : Lines) (a c : ℕ) → nat_eq c a ≡ true → IsSome (get m a) → IsSome (get m c)
at m a c same there = subst (λ c. IsSome (get m c)) (sym ((Decides-eqb c a).0 same)) there

split : {P : Type 0} (a b : Bool) → (a || b) ≡ true → (a ≡ true → P) → (b ≡ true → P) → P
split true b e first second = first refl
split false b e first second = second e

pub AreThere-Send : (m : Lines) (a : ChanId) → IsSome (get m a.0) → AreThere m (offer.Send a)
AreThere-Send m a there c on = split (nat_eq c a.0) false on (λ e. at m a.0 c e there) (λ e. cc)

pub AreThere-Recv : (m : Lines) (a : ChanId) → IsSome (get m a.0) → AreThere m (offer.Recv a)
AreThere-Recv m a there c on = at m a.0 c on there

pub AreThere-Pick : (m : Lines) (a b : ChanId) → IsSome (get m a.0) → IsSome (get m b.0) → AreThere m (offer.Pick a b)
AreThere-Pick m a b first second c on = split (nat_eq c a.0) (nat_eq c b.0) on (λ e. at m a.0 c e first) (λ e. at m b.0 c e second)

-- the line of a channel that was made
pub made_line : (m n : Lines) (c : ℕ) → n ≡ insert m c nobody → get n c ≡ Some nobody
made_line m n c is =
    ap (λ n. get n c) is ∙ get-insert nat_cmp_total m c nobody c ∙ ap (λ b. cond b (Some nobody) (get m c)) (unsigned_tied c c ∙ (Decides-eqb c c).1 refl)
