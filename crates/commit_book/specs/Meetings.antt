-- Two threads that meet on a channel.
use Rattle.std.specs.Prelude.{◌≡◌, ℕ, ℤ, pos, Bool, true, false, cond, nat_eq, is_some, Option, Some, None, IsSomeAnd, option_map, if◌then◌else◌}
use Rattle.stab_base.specs.Datum.{unit}
use Rattle.stab_base.specs.declared.numbers.ChanId.{ChanId}
use Rattle.stab_base.specs.declared.numbers.Seq.{Seq}
use Rattle.stab_base.specs.declared.numbers.ThreadId.{ThreadId}
use Rattle.stab_code.specs.Program.{ProgramParts}
use Rattle.stab_journal.specs.declared.event.Label.TheVariants.{Comm}
use Rattle.checkpoint_store.specs.Saved.{Saved, saved_at, is_place}
use Rattle.rendezvous.specs.declared.offer.Offer.{Offer}
use Rattle.rendezvous.specs.declared.offer.Offer.TheVariants as offer
use Rattle.rendezvous.specs.Line.{Lines}
use Rattle.rendezvous.specs.Offer.{receives_on, sends_on}
use Rattle.language.specs.Look.{answered}
use Rattle.language.specs.Plain.{language_of, look_in}
use Rattle.language.specs.Table.{act, received_by}
use Rattle.language.specs.Table as table
use Rattle.step_eval.specs.declared.act.Act.TheVariants as own
use Rattle.step_eval.specs.declared.ask.Ask.{Ask}
use Rattle.step_eval.specs.declared.ask.Ask.TheVariants as ask
use Rattle.step_eval.specs.Acts.{second_of}
use Rattle.step_eval.specs.Asked.{operands_of}
use Rattle.step_eval.specs.ControlView.{ControlView, Fits, RedexIsFound, expr_of}
use Rattle.commit_book.specs.declared.exchange.Meeting.{Meeting}
use Rattle.commit_book.specs.Book.{offered}
use Rattle.commit_book.specs.Offers.{sends_at, receives_at}
use Rattle.commit_book.specs.Rows.{Row, meets, longest, thread}

abbrev pub meeting : ThreadId → ThreadId → ChanId → Meeting
meeting s r c = record { sender = s; receiver = r; chan = c }

-- who sends to the thread t on the channel c
abbrev pub sender_of : Lines → ℕ → ChanId → Option Meeting
sender_of lines t c = option_map (λ u. meeting (thread u) (thread t) c) (longest (sends_at lines c.0))

-- the first of two, if there is one
abbrev pub first_or : {A : Type 0} → Option A → Option A → Option A
first_or a b = cond (is_some a) a b

-- whom the thread t meets with an offer
abbrev pub meeting_of : Lines → ℕ → Offer → Option Meeting
meeting_of lines t (offer.Send c) = option_map (λ u. meeting (thread t) (thread u) c) (longest (receives_at lines c.0))
meeting_of lines t (offer.Recv c) = sender_of lines t c
meeting_of lines t (offer.Pick c d) = first_or (sender_of lines t c) (sender_of lines t d)

-- the other thread of a meeting
abbrev pub partner_in : ℕ → Meeting → ℕ
partner_in t m = if nat_eq m.sender.0 t then m.receiver.0 else m.sender.0

-- the row of a meeting
abbrev pub row_for : ℕ → Meeting → Row
row_for t m = meets (partner_in t m) (Comm m.sender m.receiver m.chan)

-- a control that fits, and whose redex is found
pub record CanMeet (p : ProgramParts) (c : ControlView) : Type 0 where
  pub fits : Fits p c
  pub found : RedexIsFound c

-- it offers, and the offer passes the test
abbrev pub OffersOn : ProgramParts → (Offer → Bool) → ControlView → Type 0
OffersOn p test c = IsSomeAnd (offered p c) (λ o. test o ≡ true)

-- it offers what the sender of the meeting does, or what the receiver does
abbrev pub OffersAs : Bool → ProgramParts → ℕ → ControlView → Type 0
OffersAs true p c control = OffersOn p (sends_on c) control
OffersAs false p c control = OffersOn p (receives_on c) control

-- it can meet as the sender, or as the receiver
abbrev pub CanMeetAs : Bool → ProgramParts → ℕ → ControlView → Type 0
CanMeetAs sends p c control = CanMeet p control × OffersAs sends p c control

-- the thread t, which stands at this control, meets another one so
pub record Meets (p : ProgramParts) (lines : Lines) (t : ℕ) (c : ControlView) (m : Meeting) : Type 0 where
  pub offer : Offer
  pub offers : offered p c ≡ Some offer
  pub meets : meeting_of lines t offer ≡ Some m

-- the channels of a pick, if one is next
abbrev pub picked_in : Ask → Option (ChanId × ChanId)
picked_in (ask.Act (own.Pick c d)) = Some (c, d)
picked_in _ = None

-- the index of a channel for a pick, by its first one
abbrev pub index_of : ℕ → ℕ → ℤ
index_of first c = if nat_eq first c then pos 0 else pos 1

-- where a sender and a receiver on the channel c then stand
pub record HaveExchanged (p : ProgramParts) (c : ℕ) (sender receiver sent received : ControlView) : Type 0 where
  pub looks : look_in p (expr_of p sender) ≡ act (table.sends c (second_of (operands_of sender)))
  pub sends : expr_of p sent ≡ answered (expr_of p sender) unit
  pub gets :
      received_by (language_of p) c (expr_of p receiver) (second_of (operands_of sender)) (look_in p (expr_of p receiver))
      ≡ Some (expr_of p received)
  pub sender_fits : Fits p sent
  pub receiver_fits : Fits p received

-- where the thread t and its partner then stand, of whom one sends
abbrev pub HaveMetAs : Bool → ProgramParts → ℕ → ControlView → ControlView → ControlView → ControlView → Type 0
HaveMetAs true p c mine other my_next other_next = HaveExchanged p c mine other my_next other_next
HaveMetAs false p c mine other my_next other_next = HaveExchanged p c other mine other_next my_next

abbrev pub HaveMet : ProgramParts → ℕ → Meeting → ControlView → ControlView → ControlView → ControlView → Type 0
HaveMet p t m mine other my_next other_next = HaveMetAs (nat_eq m.sender.0 t) p m.chan.0 mine other my_next other_next

-- two controls were saved under one event, one after the other
pub record AreBothSaved (old new : Saved ControlView) (q : Seq) (one other : ThreadId × ControlView) : Type 0 where
  pub between : Saved ControlView
  pub first : (r : Seq) (u : ThreadId) → saved_at between r u ≡ (if is_place q one.0 r u then Some one.1 else saved_at old r u)
  pub second : (r : Seq) (u : ThreadId)
      → saved_at new r u ≡ (if is_place q other.0 r u then Some other.1 else saved_at between r u)
