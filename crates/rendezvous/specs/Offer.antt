-- At which channels and on which side an offer waits.
use Rattle.std.specs.Prelude.{ℕ, Bool, false, ◌||◌, nat_eq}
use Rattle.rendezvous.specs.declared.offer.Side.{Side}
use Rattle.rendezvous.specs.declared.offer.Side.TheVariants as side
use Rattle.rendezvous.specs.declared.offer.Offer.{Offer}
use Rattle.rendezvous.specs.declared.offer.Offer.TheVariants as offer

-- the side that meets this one
abbrev pub opposite : Side → Side
opposite side.Send = side.Recv
opposite side.Recv = side.Send

-- whether it would send on the channel c
abbrev pub sends_on : ℕ → Offer → Bool
sends_on c (offer.Send a) = nat_eq c a.0
sends_on c (offer.Recv a) = false
sends_on c (offer.Pick a b) = false

-- whether it would receive from the channel c
abbrev pub receives_on : ℕ → Offer → Bool
receives_on c (offer.Send a) = false
receives_on c (offer.Recv a) = nat_eq c a.0
receives_on c (offer.Pick a b) = nat_eq c a.0 || nat_eq c b.0
