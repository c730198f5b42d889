-- Whom a row moves beside its thread: one that waits, or one that is new.
use Rattle.std.proofs.Common.{◌≡◌, ◌⊎◌, inl, inr, ℕ, Bool, true, false, cond, ◌||◌, nat_eq, List, ◌∷◌, Option, Some, None, refl, sym, subst, ◌∙◌}
use Rattle.std.specs.Prelude.{is_some, slice_get, unwrap_or}
use Rattle.std.specs.FinMap as map
use Rattle.std.proofs.lemmas.Bool.{false≢true, eqb-true}
use Rattle.linked_lists.specs.Lists.{is_listed}
use Rattle.stab_journal.specs.declared.event.Numbered.{Numbered}
use Rattle.stab_journal.specs.Floor.{is_revocable}
use Rattle.stab_journal.specs.Journal.{survivors}
use Rattle.rendezvous.specs.declared.offer.Offer.{Offer}
use Rattle.rendezvous.specs.declared.offer.Offer.TheVariants as offer
use Rattle.rendezvous.specs.Line.{Line, LineBacked, nobody, offered as passes}
use Rattle.rendezvous.specs.Offer.{receives_on, sends_on}
use Rattle.language.specs.Expression.{Expr}
use Rattle.language.specs.Redex.{mark}
use Rattle.language.specs.Table.{Look, act, spawns, sends, receives, picks, stabilizes}
use Rattle.journal_laws.proofs.Surviving.{some_none}
use Rattle.commit_book.specs.Book.{BookView, IsShown}
use Rattle.commit_book.specs.Offers.{sends_at, receives_at}
use Rattle.commit_book.specs.Rows.{Row, alone, starts, meets, waits, stays, undoes, chan, longest, movers, row_of, section_row, sends_to, receives_from, stays_or_waits}
use Rattle.commit_book.proofs.Acting.Meeting.{first_listed}

-- ---- who is moved

abbrev pub Second : ℕ → Row → Type 0
Second u (starts v) = u ≡ v
Second u (meets v l) = u ≡ v
Second u row = ⊥

two : (u t v : ℕ) (a b : Bool) → nat_eq u t ≡ a → nat_eq u v ≡ b → (a || (b || (a || false))) ≡ true → (u ≡ t) ⊎ (u ≡ v)
two u t v true b at other is = inl (eqb-true u t at)
two u t v false true at other is = inr (eqb-true u v other)
two u t v false false at other is = absurd (false≢true is)

first : (u t : ℕ) (a : Bool) → nat_eq u t ≡ a → (a || (a || false)) ≡ true → u ≡ t
first u t true at is = eqb-true u t at
first u t false at is = absurd (false≢true is)

itself : (u t : ℕ) (a : Bool) → nat_eq u t ≡ a → (a || false) ≡ true → u ≡ t
itself u t true at is = eqb-true u t at
itself u t false at is = absurd (false≢true is)

pub moved_one : (u t : ℕ) (row : Row) → is_listed u (t ∷ movers t row) ≡ true → (u ≡ t) ⊎ Second u row
moved_one u t (alone l) is = inl (first u t (nat_eq u t) refl is)
moved_one u t (starts v) is = two u t v (nat_eq u t) (nat_eq u v) refl refl is
moved_one u t (meets v l) is = two u t v (nat_eq u t) (nat_eq u v) refl refl is
moved_one u t (waits o) is = inl (itself u t (nat_eq u t) refl is)
moved_one u t stays is = inl (itself u t (nat_eq u t) refl is)
moved_one u t (undoes m) is = inl (itself u t (nat_eq u t) refl is)

-- ---- what it did before

module _ (b : BookView) where
  abbrev pub MovesOther : Row → Type 0
  MovesOther (starts u) = u ≡ b.next.thread
  MovesOther (meets u l) = is_some (map.get b.offers.offers u) ≡ true
  MovesOther row = Unit {0}

  module _ (t : ℕ) (shown : IsShown b) where
    waiting : (p : Offer → Bool) (o : Option Offer) → passes p o ≡ true → is_some o ≡ true
    waiting p None is = absurd (false≢true is)
    waiting p (Some o) is = refl

    sender_waits : (c u : ℕ) (o : Option Line) → map.get b.offers.lines c ≡ o → slice_get (unwrap_or o nobody).sends 0 ≡ Some u → is_some (map.get b.offers.offers u) ≡ true
    sender_waits c u None found is = absurd (some_none (sym is))
    sender_waits c u (Some l) found is =
        let backed : LineBacked c u (map.get b.offers.offers u) (Some l) = subst (LineBacked c u (map.get b.offers.offers u)) found (shown.shows.threads.offers.lines.backed c u) in
        waiting (sends_on c) (map.get b.offers.offers u) (sym backed.0 ∙ first_listed u l.sends is)

    receiver_waits : (c u : ℕ) (o : Option Line) → map.get b.offers.lines c ≡ o → slice_get (unwrap_or o nobody).receives 0 ≡ Some u → is_some (map.get b.offers.offers u) ≡ true
    receiver_waits c u None found is = absurd (some_none (sym is))
    receiver_waits c u (Some l) found is =
        let backed : LineBacked c u (map.get b.offers.offers u) (Some l) = subst (LineBacked c u (map.get b.offers.offers u)) found (shown.shows.threads.offers.lines.backed c u) in
        waiting (receives_on c) (map.get b.offers.offers u) (sym backed.1 ∙ first_listed u l.receives is)

    stays_moves : (o : Offer) → MovesOther (stays_or_waits b t o)
    stays_moves o = by (is_some (map.get b.offers.offers t))
      where
        by : (k : Bool) → MovesOther (cond k stays (waits o))
        by true = tt
        by false = tt

    sends_moves : (c : ℕ) (o : Option ℕ) → longest (receives_at b.offers.lines c) ≡ o → MovesOther (sends_to b t c o)
    sends_moves c (Some u) is = receiver_waits c u (map.get b.offers.lines c) refl is
    sends_moves c None is = stays_moves (offer.Send (chan c))

    receives_moves : (c : ℕ) (row : Row) → MovesOther row → (o : Option ℕ) → longest (sends_at b.offers.lines c) ≡ o → MovesOther (receives_from b t c o row)
    receives_moves c row other (Some u) is = sender_waits c u (map.get b.offers.lines c) refl is
    receives_moves c row other None is = other

    section_moves : (run : List Numbered) (o : Option ℕ) → MovesOther (section_row run t o)
    section_moves run None = tt
    section_moves run (Some m) = by (is_revocable run m)
      where
        by : (k : Bool) → MovesOther (cond k (undoes m) (section_row run t None))
        by true = tt
        by false = tt

    pub row_moves : (e : Expr) (l : Look Expr) → MovesOther (row_of b t e l)
    row_moves e (act (spawns body)) = refl
    row_moves e (act (sends c v)) = sends_moves c (longest (receives_at b.offers.lines c)) refl
    row_moves e (act (receives c)) = receives_moves c (stays_or_waits b t (offer.Recv (chan c))) (stays_moves (offer.Recv (chan c))) (longest (sends_at b.offers.lines c)) refl
    row_moves e (act (picks c d)) =
        receives_moves c _ (receives_moves d (stays_or_waits b t (offer.Pick (chan c) (chan d))) (stays_moves (offer.Pick (chan c) (chan d))) (longest (sends_at b.offers.lines d)) refl) (longest (sends_at b.offers.lines c)) refl
    row_moves e (act stabilizes) = section_moves (survivors b.history) (mark e)
    row_moves e _ = tt
