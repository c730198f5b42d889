-- What an entry says of the journal.
use Rattle.std.proofs.Common.{◌≡◌, ℕ, zero, suc, ◌+◌, true, false, List, map, Some, None, is_some, refl, sym, ap, subst, ◌∙◌, arith}
use Rattle.std.specs.Ordering.{nat_cmp}
use Rattle.std.specs.Option.{option_map, option_and_then}
use Rattle.std.specs.FinSet.{contains, from_list}
use Rattle.std.proofs.lemmas.Option.{slice_get-map}
use Rattle.stab_journal.specs.declared.event.Event.{Event}
use Rattle.stab_journal.specs.Entry.{Entry}
use Rattle.stab_journal.specs.declared.history.History.TheInside.{Inside}
use Rattle.stab_journal.specs.Event.{IsEvent, AreEvents, label_of}
use Rattle.stab_journal.specs.Journal.{event_at, label_at, IsLive}
use Rattle.stab_journal.specs.View.{entry_with, struck_from, journal_of}
use Rattle.stab_journal.proofs.Events.{AreEvents-at}
use Rattle.stab_journal.proofs.Entries.{contains-struck}

pub event_at-map : (es : List Entry) (q : ℕ) → event_at (map (λ (e : Entry). e.event) es) q ≡ option_map (λ (e : Entry). e.event) (entry_with es q)
event_at-map es zero = refl
event_at-map es (suc i) = slice_get-map (λ (e : Entry). e.event) es i

module _ (es : List Entry) (q : ℕ) (e : Entry) (at : Some e ≡ entry_with es q) where
  event_here : event_at (map (λ (x : Entry). x.event) es) q ≡ Some e.event
  event_here = event_at-map es q ∙ ap (option_map (λ (x : Entry). x.event)) (sym at)

  label_here : label_at (map (λ (x : Entry). x.event) es) q ≡ label_of e.event.what
  label_here = ap (option_and_then (λ (x : Event). label_of x.what)) event_here

pub in_range : (es : List Entry) (q : ℕ) (e : Entry) → Some e ≡ entry_with es q → AreEvents 1 (map (λ (x : Entry). x.event) es) → IsEvent q e.event
in_range es zero e at are = cc
in_range es (suc i) e at are =
    let one_more : 1 + i ≡ suc i = omega arith in
    subst (λ n. IsEvent n e.event) one_more (AreEvents-at 1 (map (λ (x : Entry). x.event) es) i e.event are (event_here es (suc i) e at))

struck_here : (es : List Entry) (q : ℕ) (e : Entry) → Some e ≡ entry_with es q → contains (from_list {R = nat_cmp} (struck_from 1 es)) q ≡ e.struck
struck_here es zero e at = cc
struck_here es (suc i) e at = contains-struck es i e (sym at)

module _ (a : Inside) (q : ℕ) (e : Entry) (at : Some e ≡ entry_with a.entries.items q) where
  pub live : is_some (label_of e.event.what) ≡ true → e.struck ≡ false → IsLive (journal_of a) q
  live step kept = record { step = ap is_some (label_here a.entries.items q e at) ∙ step; kept = struck_here a.entries.items q e at ∙ kept }

  pub live_step : IsLive (journal_of a) q → is_some (label_of e.event.what) ≡ true
  live_step l = sym (ap is_some (label_here a.entries.items q e at)) ∙ l.step

  pub live_kept : IsLive (journal_of a) q → e.struck ≡ false
  live_kept l = sym (struck_here a.entries.items q e at) ∙ l.kept

pub no_entry : (a : Inside) (q : ℕ) → entry_with a.entries.items q ≡ None → IsLive (journal_of a) q → ⊥
no_entry a q none l =
    let nothing : is_some (label_at (journal_of a).events q) ≡ false = ap (λ o. is_some (option_and_then (λ (x : Event). label_of x.what) o)) (event_at-map a.entries.items q ∙ ap (option_map (λ (x : Entry). x.event)) none) in
    let some = l.step in cc
