-- What the steps of one turn come to.
use Rattle.std.proofs.Common.{◌≡◌, ℕ, ◌≤◌, ◌+◌, List, [], ◌∷◌, ◌++◌, true, false, length, sym, refl, ap, ◌∙◌, subst}
use Rattle.atomic_table.specs.Table.{Me}
use Rattle.stab_journal.specs.Own.{own}
use Rattle.stab_journal.specs.declared.event.Event.{Event}
use Rattle.stab_journal.specs.declared.event.Recorded.{Recorded}
use Rattle.turn_floor.specs.Parts.{IsPass, last_of}
use Rattle.turn_floor.specs.Plays.{Took, giving, holding, showing}
use Rattle.turn_floor.specs.Served.{Adds, AreOf, Tells, told_events}
use Rattle.turn_floor.specs.Start.{Start}
use Rattle.turn_floor.specs.declared.kept.Told.{Told}
use Rattle.turn_floor.specs.declared.view.View.{View}
use Rattle.turn_floor.proofs.Histories.{named_more, own_more, same_slot}

module _ {S : Type 0} (Keeps : Start → S → Type 0) (events_of : S → List Event) where
  -- after take, serve, store of the front and give the seat has seen the history that the serve left
  pub turned : (before taken served shown after : Me S View) (k k' : S) (t : Took Keeps events_of before taken) → served.0 ≡ taken.0 → served.1 ≡ (0, k) ∷ [] → served.1 ≡ (0, k') ∷ []
      → shown ≡ (showing served.0 (events_of k'), served.1) → after ≡ (giving shown.0, []) → after ≡ (giving (showing before.0 (events_of k)), [])
  turned before taken served shown after k k' t view slot slot' e f =
      f
      ∙ ap (λ (m : Me S View). (giving m.0, [])) e
      ∙ ap (λ (z : S). (giving (showing served.0 (events_of z)), [])) (same_slot k' k served.1 slot' slot)
      ∙ ap (λ (v : View). (giving (showing v (events_of k)), [])) (view ∙ ap (λ (m : Me S View). m.0) t.1)

-- a worker's own events grow by those that the answer tells of
pub grown : (w : ℕ) (t : Told) (mine : List Recorded) (before after : List Event) → own w before ≡ mine → Adds w before after → Tells t before after → own w after ≡ mine ++ told_events t after
grown w t mine before after e adds tells = own_more w t before after adds tells ∙ ap (λ (l : List Recorded). l ++ told_events t after) e

-- and each event still carries a number that was given out
pub still_named : (w n : ℕ) (before after : List Event) → 1 ≤ w → w ≤ n → Adds w before after → AreOf n before → AreOf n after
still_named w n before after pos le adds named = subst (AreOf n) (sym adds.1) (named_more w n before adds.0 pos le adds.2 named)

-- a pass whose seat took its turn is a pass again
pub still_pass : (v w : View) (worker seen seen' : ℕ) → IsPass v worker seen → w ≡ giving (showing v w.seen) → length w.seen ≡ seen' → IsPass w worker seen'
still_pass v w worker seen seen' is e len =
    let start : w.start ≡ v.start = ap (λ (u : View). u.start) e in
    let number : w.worker ≡ v.worker = ap (λ (u : View). u.worker) e in
    record {
      number_is = number ∙ is.number_is;
      positive = is.positive;
      within = subst (λ (s : Start). worker ≤ s.workers) (sym start) is.within;
      few = subst (λ (s : Start). s.workers ≤ 64) (sym start) is.few;
      idle = ap (λ (u : View). u.holds) e;
      one_seat = ap (λ (u : View). u.seats) e ∙ is.one_seat;
      last_is = ap (λ (u : View). u.last) e ∙ is.last_is ∙ ap (λ (s : Start). last_of worker s.workers) (sym start);
      len_is = len;
      own_is = ap (λ (u : View). u.own) e ∙ ap (λ (n : ℕ). own n w.seen) (sym number);
    }
