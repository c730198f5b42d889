-- The row of a thread with an offer.
use Rattle.std.proofs.Common.{◌≡◌, ℕ, true, false, nat_eq, Option, Some, None, refl, sym, ap, ◌∙◌}
use Rattle.std.specs.Prelude.{option_map, if◌then◌else◌}
use Rattle.std.specs.Cmp.{nat_eq_equiv}
use Rattle.std.proofs.lemmas.Bool.{eqb-true}
use Rattle.rendezvous.specs.declared.offer.Offer.{Offer}
use Rattle.rendezvous.specs.declared.offer.Offer.TheVariants as offer
use Rattle.language.specs.Expression.{Expr}
use Rattle.language.specs.Plain.{look_in}
use Rattle.language.specs.Table.{Look, act, sends, receives, picks}
use Rattle.stab_journal.specs.declared.event.Label.TheVariants.{Comm}
use Rattle.journal_laws.proofs.Surviving.{some_is, some_none}
use Rattle.step_eval.specs.ControlView.{expr_of}
use Rattle.step_eval.specs.Progress.{ProgressView}
use Rattle.commit_book.specs.declared.exchange.Meeting.{Meeting}
use Rattle.commit_book.specs.Book.{BookView, offered}
use Rattle.commit_book.specs.Commits.{row_at}
use Rattle.commit_book.specs.Doing.{offer_at}
use Rattle.commit_book.specs.Leases.{LeaseView}
use Rattle.commit_book.specs.Meetings.{first_or, meeting, meeting_of, row_for}
use Rattle.commit_book.specs.Offers.{receives_at, sends_at}
use Rattle.commit_book.specs.Rows.{Row, chan, longest, meets, receives_from, row_of, sends_to, stays_or_waits, thread}

other_of : (t u : ℕ) → (if nat_eq u t then t else u) ≡ u
other_of t u =
    elim (nat_eq u t) as (λ b. nat_eq u t ≡ b → (if b then t else u) ≡ u) [
      | true ↦ λ at. sym (eqb-true u t at)
      | false ↦ λ apart. refl
    ] refl

module _ (b : BookView) (t : ℕ) where
  -- by the meeting, if there is one
  abbrev pub row_met : Offer → Option Meeting → Row
  row_met o (Some m) = row_for t m
  row_met o None = stays_or_waits b t o

  sends_row : (c : ℕ) (o : Option ℕ) → sends_to b t c o ≡ row_met (offer.Send (chan c)) (option_map (λ u. meeting (thread t) (thread u) (chan c)) o)
  sends_row c None = refl
  sends_row c (Some u) = sym (ap (λ k. meets (if k then u else t) (Comm (thread t) (thread u) (chan c))) (nat_eq_equiv.refl t))

  receives_row : (c : ℕ) (o : Option ℕ) (other : Row) (rest : Offer) → other ≡ row_met rest None → receives_from b t c o other ≡ row_met rest (option_map (λ u. meeting (thread u) (thread t) (chan c)) o)
  receives_row c None other rest is = is
  receives_row c (Some u) other rest is = sym (ap (λ k. meets k (Comm (thread u) (thread t) (chan c))) (other_of t u))

  picks_row : (c d : ℕ) (x y : Option ℕ) (o : Offer)
      → receives_from b t c x (receives_from b t d y (stays_or_waits b t o)) ≡ row_met o (first_or (option_map (λ u. meeting (thread u) (thread t) (chan c)) x) (option_map (λ u. meeting (thread u) (thread t) (chan d)) y))
  picks_row c d None y o = receives_row d y (stays_or_waits b t o) o refl
  picks_row c d (Some u) y o = sym (ap (λ k. meets k (Comm (thread u) (thread t) (chan c))) (other_of t u))

  by_look : (e : Expr) (k : Look Expr) (o : Offer) → offer_at k ≡ Some o → row_of b t e k ≡ row_met o (meeting_of b.offers.lines t o)
  by_look e (act (sends c v)) o is = sends_row c (longest (receives_at b.offers.lines c)) ∙ ap (λ w. row_met w (meeting_of b.offers.lines t w)) (some_is is)
  by_look e (act (receives c)) o is =
      receives_row c (longest (sends_at b.offers.lines c)) (stays_or_waits b t (offer.Recv (chan c))) (offer.Recv (chan c)) refl
      ∙ ap (λ w. row_met w (meeting_of b.offers.lines t w)) (some_is is)
  by_look e (act (picks c d)) o is =
      picks_row c d (longest (sends_at b.offers.lines c)) (longest (sends_at b.offers.lines d)) (offer.Pick (chan c) (chan d))
      ∙ ap (λ w. row_met w (meeting_of b.offers.lines t w)) (some_is is)
  by_look e _ o is = absurd (some_none (sym is))

module _ (b : BookView) (lease : LeaseView) (progress : ProgressView) (o : Offer) (offering : offered b.job.program progress.end ≡ Some o) where
  row_offered : row_at b lease progress ≡ row_met b lease.thread o (meeting_of b.offers.lines lease.thread o)
  row_offered = by_look b lease.thread (expr_of b.job.program progress.end) (look_in b.job.program (expr_of b.job.program progress.end)) o offering

  -- the row of one who meets another one
  pub row_meets : (m : Meeting) → meeting_of b.offers.lines lease.thread o ≡ Some m → row_at b lease progress ≡ row_for lease.thread m
  row_meets m is = row_offered ∙ ap (row_met b lease.thread o) is

  -- and of one who meets nobody
  pub row_waits : meeting_of b.offers.lines lease.thread o ≡ None → row_at b lease progress ≡ stays_or_waits b lease.thread o
  row_waits is = row_offered ∙ ap (row_met b lease.thread o) is
