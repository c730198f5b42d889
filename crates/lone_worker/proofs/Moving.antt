-- What a commit's row says: who offers, who can't step, and what the steps weigh.
use Rattle.std.proofs.Common.{◌≡◌, ℕ, List, Bool, true, false, cond, Option, Some, None, refl, ap, ◌∙◌}
use Rattle.std.specs.Prelude.{is_some}
use Rattle.std.specs.FinMap as map
use Rattle.stab_journal.specs.declared.event.Label.{Label}
use Rattle.stab_journal.specs.declared.event.Label.TheVariants.{Refuse}
use Rattle.stab_journal.specs.declared.event.Numbered.{Numbered}
use Rattle.stab_journal.specs.declared.event.What.TheVariants.{Step}
use Rattle.stab_journal.specs.Event.{weigh}
use Rattle.stab_journal.specs.Floor.{is_revocable}
use Rattle.stab_journal.specs.Journal.{survivors}
use Rattle.rendezvous.specs.declared.offer.Offer.{Offer}
use Rattle.rendezvous.specs.declared.offer.Offer.TheVariants as offer
use Rattle.language.specs.Expression.{Expr}
use Rattle.language.specs.Redex.{mark}
use Rattle.language.specs.Table.{Look, done, fault, pure, act, spawns, makes_chan, makes_ref, gets, sets, sends, receives, picks, enters, stabilizes, cuts, pins, prints, probes, attempts}
use Rattle.commit_book.specs.Book.{BookView}
use Rattle.commit_book.specs.Doing.{offer_at}
use Rattle.commit_book.specs.Offers.{sends_at, receives_at}
use Rattle.commit_book.specs.Rows.{Row, alone, starts, meets, waits, stays, undoes, longest, row_of, section_row, sends_to, receives_from, stays_or_waits, chan, thread}

-- a step of an act weighs 1
abbrev pub WeighsOne : Row → Type 0
WeighsOne (alone (Some l)) = weigh (Step l) ≡ 1
WeighsOne (meets u l) = weigh (Step l) ≡ 1
WeighsOne row = Unit {0}

-- a thread that is at no act
abbrev pub acts : Look Expr → Bool
acts (act a) = true
acts _ = false

-- what a row says of where the thread stands, and whether it has an offer already
pub record Says (waiting : Bool) (l : Look Expr) (row : Row) : Type 0 where
  pub weighs : WeighsOne row
  pub waits : (o : Offer) → row ≡ waits o → offer_at l ≡ Some o
  pub stays : row ≡ stays → waiting ≡ true
  pub none : row ≡ alone None → acts l ≡ false

module _ (b : BookView) (t : ℕ) where
  abbrev waiting : Bool
  waiting = is_some (map.get b.offers.offers t)

  alone_says : (l : Look Expr) (label : Label) → weigh (Step label) ≡ 1 → Says waiting l (alone (Some label))
  alone_says l label one = record { weighs = one; waits = λ o is. absurd (cc); stays = λ is. absurd (cc); none = λ is. absurd (cc) }

  none_says : (l : Look Expr) → acts l ≡ false → Says waiting l (alone None)
  none_says l idle = record { weighs = tt; waits = λ o is. absurd (cc); stays = λ is. absurd (cc); none = λ is. idle }

  starts_says : (l : Look Expr) (u : ℕ) → Says waiting l (starts u)
  starts_says l u = record { weighs = tt; waits = λ o is. absurd (cc); stays = λ is. absurd (cc); none = λ is. absurd (cc) }

  meets_says : (l : Look Expr) (u : ℕ) (label : Label) → weigh (Step label) ≡ 1 → Says waiting l (meets u label)
  meets_says l u label one = record { weighs = one; waits = λ o is. absurd (cc); stays = λ is. absurd (cc); none = λ is. absurd (cc) }

  undoes_says : (l : Look Expr) (m : ℕ) → Says waiting l (undoes m)
  undoes_says l m = record { weighs = tt; waits = λ o is. absurd (cc); stays = λ is. absurd (cc); none = λ is. absurd (cc) }

  waits_by : (l : Look Expr) (o : Offer) → offer_at l ≡ Some o → (w : Bool) → waiting ≡ w → Says waiting l (cond w stays (waits o))
  waits_by l o offers true at = record { weighs = tt; waits = λ p is. absurd (cc); stays = λ is. at; none = λ is. absurd (cc) }
  waits_by l o offers false at = record { weighs = tt; waits = λ p is. let same : o ≡ p = cc in offers ∙ ap Some same; stays = λ is. absurd (cc); none = λ is. absurd (cc) }

  waits_says : (l : Look Expr) (o : Offer) → offer_at l ≡ Some o → Says waiting l (stays_or_waits b t o)
  waits_says l o offers = waits_by l o offers waiting refl

  sends_says : (l : Look Expr) (c : ℕ) → offer_at l ≡ Some (offer.Send (chan c)) → (o : Option ℕ) → Says waiting l (sends_to b t c o)
  sends_says l c offers (Some u) = meets_says l u _ refl
  sends_says l c offers None = waits_says l (offer.Send (chan c)) offers

  receives_says : (l : Look Expr) (c : ℕ) (row : Row) → Says waiting l row → (o : Option ℕ) → Says waiting l (receives_from b t c o row)
  receives_says l c row else_says (Some u) = meets_says l u _ refl
  receives_says l c row else_says None = else_says

  granted_says : (m : ℕ) (granted : Bool) (label : Label) → weigh (Step label) ≡ 1 → Says waiting (act stabilizes) (cond granted (undoes m) (alone (Some label)))
  granted_says m true label one = undoes_says (act stabilizes) m
  granted_says m false label one = alone_says (act stabilizes) label one

  section_says : (run : List Numbered) (o : Option ℕ) → Says waiting (act stabilizes) (section_row run t o)
  section_says run None = alone_says (act stabilizes) (Refuse (thread t)) refl
  section_says run (Some m) = granted_says m (is_revocable run m) (Refuse (thread t)) refl

  pub row_says : (e : Expr) (l : Look Expr) → Says waiting l (row_of b t e l)
  row_says e (done v) = none_says (done v) refl
  row_says e (fault k) = none_says (fault k) refl
  row_says e (pure x) = none_says (pure x) refl
  row_says e (act (spawns body)) = starts_says (act (spawns body)) b.next.thread
  row_says e (act makes_chan) = alone_says (act makes_chan) _ refl
  row_says e (act (makes_ref v)) = alone_says (act (makes_ref v)) _ refl
  row_says e (act (gets r)) = alone_says (act (gets r)) _ refl
  row_says e (act (sets r v)) = alone_says (act (sets r v)) _ refl
  row_says e (act (sends c v)) = sends_says (act (sends c v)) c refl (longest (receives_at b.offers.lines c))
  row_says e (act (receives c)) = receives_says (act (receives c)) c _ (waits_says (act (receives c)) (offer.Recv (chan c)) refl) (longest (sends_at b.offers.lines c))
  row_says e (act (picks c d)) =
      receives_says (act (picks c d)) c _ (receives_says (act (picks c d)) d _ (waits_says (act (picks c d)) (offer.Pick (chan c) (chan d)) refl) (longest (sends_at b.offers.lines d))) (longest (sends_at b.offers.lines c))
  row_says e (act (enters body)) = alone_says (act (enters body)) _ refl
  row_says e (act stabilizes) = section_says (survivors b.history) (mark e)
  row_says e (act cuts) = alone_says (act cuts) _ refl
  row_says e (act pins) = alone_says (act pins) _ refl
  row_says e (act (prints v)) = alone_says (act (prints v)) _ refl
  row_says e (act probes) = alone_says (act probes) _ refl
  row_says e (act attempts) = alone_says (act attempts) _ refl
