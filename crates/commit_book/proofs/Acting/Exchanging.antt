-- Whom a thread meets on a channel, and what both then stand at.
use Rattle.std.proofs.Common.{◌≡◌, ◌≤◌, ℕ, Bool, true, false, cond, ◌||◌, nat_eq, List, length, Some, None, refl, sym, ap, subst, ◌∙◌, arith}
use Rattle.std.specs.Prelude.{pos, OnOk, Result, Ok, Err, IsSome, IsSomeAnd, if◌then◌else◌}
use Rattle.std.proofs.lemmas.Bool.{false≢true, eqb-true}
use Rattle.stab_base.specs.Datum.{Datum}
use Rattle.stab_base.specs.declared.numbers.ChanId.{ChanId}
use Rattle.stab_code.specs.Program.{ProgramParts}
use Rattle.rendezvous.specs.declared.offer.Offer.{Offer}
use Rattle.rendezvous.specs.Offer.{sends_on, receives_on}
use Rattle.language.specs.Effects.{picked_at}
use Rattle.language.specs.Expression.{Expr}
use Rattle.language.specs.Look.{answered}
use Rattle.language.specs.Plain.{language_of, look_in}
use Rattle.language.specs.Table.{Look, act, sends, receives, picks, received_by}
use Rattle.language.specs.Table as table
use Rattle.step_eval.specs.declared.act.Act.{Act}
use Rattle.step_eval.specs.declared.act.Act.TheVariants.{Send, Recv, Pick}
use Rattle.step_eval.specs.declared.ask.Ask.{Ask}
use Rattle.step_eval.specs.declared.ask.Ask.TheVariants as ask
use Rattle.step_eval.specs.Acts.{act_with, second_of}
use Rattle.step_eval.specs.Asked.{act_in, AsksRightly, IsAsked}
use Rattle.commit_book.specs.Doing.{offer_at}
use Rattle.commit_book.specs.Meetings.{index_of, picked_in}
use Rattle.commit_book.proofs.Acting.EffectsAsked.{asked_act}
use Rattle.commit_book.proofs.Acting.EffectsMeeting.{picked_first, picked_second}
use Rattle.commit_book.proofs.Threads.Waiting.{flipped}
use Rattle.journal_laws.proofs.Surviving.{some_is}

-- it is a pick
abbrev pub is_pick : Look Expr → Bool
is_pick (act (picks a b)) = true
is_pick _ = false

module _ (p : ProgramParts) (c : ℕ) (e : Expr) (v : Datum) where
  -- a receiver that doesn't pick gets the value
  plain_at : (k : Look Expr) → look_in p e ≡ k → is_pick k ≡ false → IsSomeAnd (offer_at k) (λ o. receives_on c o ≡ true) → received_by (language_of p) c e v k ≡ Some (answered e v)
  plain_at (act (receives d)) looks plain on = ap (λ b. cond b (Some (answered e v)) None) (flipped d c ∙ on)
  plain_at (act (picks a b)) looks plain on = absurd (false≢true (sym plain))
  plain_at (act (sends d x)) looks plain on = absurd (false≢true on)
  plain_at _ looks plain on = absurd on

  pub received_value : is_pick (look_in p e) ≡ false → IsSomeAnd (offer_at (look_in p e)) (λ o. receives_on c o ≡ true) → received_by (language_of p) c e v (look_in p e) ≡ Some (answered e v)
  received_value plain on = plain_at (look_in p e) refl plain on

  right_side : (a b : Bool) → a ≡ false → (a || b) ≡ true → b ≡ true
  right_side true b h k = absurd (false≢true (sym h))
  right_side false b h k = k

  -- a pick gets 0 with what came on its first channel, and else 1
  pub received_pick : (a b : ℕ) → look_in p e ≡ act (picks a b) → IsSomeAnd (offer_at (look_in p e)) (λ o. receives_on c o ≡ true) → received_by (language_of p) c e v (look_in p e) ≡ Some (picked_at e (index_of a c) v)
  received_pick a b looks on =
      elim (nat_eq a c) as (λ k. nat_eq a c ≡ k → received_by (language_of p) c e v (look_in p e) ≡ Some (picked_at e (if k then pos 0 else pos 1) v)) [
        | true ↦ λ is. picked_first p c a b e v looks is
        | false ↦ λ is.
            let offers : (nat_eq c a || nat_eq c b) ≡ true = subst (λ (k : Look Expr). IsSomeAnd (offer_at k) (λ o. receives_on c o ≡ true)) looks on in
            picked_second p c a b e v looks is (flipped b c ∙ right_side (nat_eq c a) (nat_eq c b) (flipped c a ∙ is) offers)
      ] refl

-- who offers to send is asked so
abbrev pub IsSending : Ask → Type 0
IsSending (ask.Act (Send d)) = Unit {0}
IsSending _ = ⊥

sending_act : (fs : ℕ → Expr) (vs : List Datum) (c : ℕ) (x : table.Act Expr) (a : Act) → x ≡ act_with fs vs a → IsSomeAnd (offer_at (act x)) (λ o. sends_on c o ≡ true) → IsSending (ask.Act a)
sending_act fs vs c x (Send d) is on = tt
sending_act fs vs c x (Recv d) is on = absurd (false≢true (subst (λ (y : table.Act Expr). IsSomeAnd (offer_at (act y)) (λ o. sends_on c o ≡ true)) is on))
sending_act fs vs c x (Pick a b) is on = absurd (false≢true (subst (λ (y : table.Act Expr). IsSomeAnd (offer_at (act y)) (λ o. sends_on c o ≡ true)) is on))
sending_act fs vs c x a is on = absurd (subst (λ (y : table.Act Expr). IsSomeAnd (offer_at (act y)) (λ o. sends_on c o ≡ true)) is on)

pub sends_asked : (fs : ℕ → Expr) (vs : List Datum) (c : ℕ) (k : Look Expr) (a : Ask) → IsAsked fs vs k a → IsSomeAnd (offer_at k) (λ o. sends_on c o ≡ true) → IsSending a
sends_asked fs vs c (act x) (ask.Act a) is on = sending_act fs vs c x a is on
sends_asked fs vs c (act x) ask.More is on = absurd is
sends_asked fs vs c (act x) ask.Done is on = absurd is
sends_asked fs vs c (act x) (ask.Failed f) is on = absurd is
sends_asked fs vs c _ a is on = absurd on

pub sends_look : (fs : ℕ → Expr) (vs : List Datum) (c : ℕ) (k : Look Expr) (d : ChanId) → IsAsked fs vs k (ask.Act (Send d)) → IsSomeAnd (offer_at k) (λ o. sends_on c o ≡ true) → k ≡ act (sends c (second_of vs))
sends_look fs vs c k d is on =
    let looks : k ≡ act (sends d.0 (second_of vs)) = asked_act fs vs k (Send d) is in
    let here : nat_eq c d.0 ≡ true = subst (λ (x : Look Expr). IsSomeAnd (offer_at x) (λ o. sends_on c o ≡ true)) looks on in
    looks ∙ ap (λ n. act (sends n (second_of vs))) (sym (eqb-true c d.0 here))

-- who offers anything is asked for an act
pub offers_asked : (fs : ℕ → Expr) (vs : List Datum) (test : Offer → Bool) (k : Look Expr) (a : Ask) → IsAsked fs vs k a → IsSomeAnd (offer_at k) (λ o. test o ≡ true) → IsSome (act_in a)
offers_asked fs vs test (act x) (ask.Act a) is on = refl
offers_asked fs vs test (act x) ask.More is on = absurd is
offers_asked fs vs test (act x) ask.Done is on = absurd is
offers_asked fs vs test (act x) (ask.Failed f) is on = absurd is
offers_asked fs vs test _ a is on = absurd on

pub on_ok : {A E : Type 0} (r : Result A E) (P Q : Type 0) → (P → Q) → OnOk r P → OnOk r Q
on_ok (Ok a) P Q f h = f h
on_ok (Err e) P Q f h = tt

-- what is asked of a sender, in another form
pub record IsAskedSend (a : Ask) : Type 0 where
  pub chan : ChanId
  pub is : a ≡ ask.Act (Send chan)

pub asked_send : (a : Ask) → IsSending a → IsAskedSend a
asked_send (ask.Act (Send d)) h = record { chan = d; is = refl }
asked_send _ h = absurd h

-- who sends has two operands
pub two_operands : (p : ProgramParts) (vs : List Datum) (a : Ask) → IsSending a → AsksRightly p vs a → 2 ≤ length vs
two_operands p vs (ask.Act (Send d)) sending is = let two : 2 ≡ length vs = some_is is in omega (arith, two)
two_operands p vs a sending is = absurd sending

-- what a control is asked that picks, and one that doesn't
pub picked_look : (fs : ℕ → Expr) (vs : List Datum) (k : Look Expr) (a : Ask) (c d : ChanId) → IsAsked fs vs k a → picked_in a ≡ Some (c, d) → k ≡ act (picks c.0 d.0)
picked_look fs vs k (ask.Act (Pick x y)) c d is at =
    let both : (x, y) ≡ (c, d) = some_is at in
    let first : x ≡ c = ap (λ (q : ChanId × ChanId). q.0) both in
    let second : y ≡ d = ap (λ (q : ChanId × ChanId). q.1) both in
    asked_act fs vs k (Pick x y) is ∙ ap (λ (n : ChanId). act (picks n.0 y.0)) first ∙ ap (λ (n : ChanId). act (picks c.0 n.0)) second
picked_look fs vs k _ c d is at = absurd (cc)

pub unpicked_look : (fs : ℕ → Expr) (vs : List Datum) (k : Look Expr) (a : Ask) → IsAsked fs vs k a → picked_in a ≡ None → is_pick k ≡ false
unpicked_look fs vs (act (picks c d)) (ask.Act a) is none = absurd (not_picked fs vs c d a is none)
  where
    not_picked : (fs : ℕ → Expr) (vs : List Datum) (c d : ℕ) (a : Act) → picks c d ≡ act_with fs vs a → picked_in (ask.Act a) ≡ None → ⊥
    not_picked fs vs c d (Pick x y) is none = absurd (cc)
    not_picked fs vs c d _ is none = absurd (cc)
unpicked_look fs vs (act (picks c d)) ask.More is none = absurd is
unpicked_look fs vs (act (picks c d)) ask.Done is none = absurd is
unpicked_look fs vs (act (picks c d)) (ask.Failed f) is none = absurd is
unpicked_look fs vs _ a is none = refl
