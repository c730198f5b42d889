-- A journal after a push and after a strike.
use Rattle.std.proofs.Common.{◌≡◌, ℕ, zero, suc, ◌+◌, ◌-◌, ◌^◌, ◌<◌, ◌≤◌, true, false, cond, List, [], ◌∷◌, ◌++◌, length, map, IsSome, refl, sym, ap, subst, ◌∙◌, arith, filter, vec_len, vec_capacity, add-one}
use Rattle.std.specs.Ordering.{nat_cmp}
use Rattle.std.specs.List.{slice_set, slice_index_or}
use Rattle.std.specs.FinSet.{contains, insert, from_list}
use Rattle.std.proofs.Math.Seq.{map-set_same}
use Rattle.std.proofs.lemmas.List.{map-append, length_push}
use Rattle.std.proofs.lemmas.List.Sums.{sum_by_push}
use Rattle.stab_journal.specs.declared.event.Event.{Event}
use Rattle.stab_journal.specs.Entry.{Entry}
use Rattle.stab_journal.specs.declared.history.History.TheInside.{Inside}
use Rattle.stab_journal.specs.declared.event.Label.TheVariants.{Local, Spawn, NewChan, Comm, NewRef, Get, Set, Enter, Cut, Print, Probe, Refuse, Pin, Attempt}
use Rattle.stab_journal.specs.declared.event.What.{What}
use Rattle.stab_journal.specs.declared.event.What.TheVariants.{Step, Undo, Release}
use Rattle.stab_journal.specs.Event.{IsEvent, IsWhat, weigh, weight_of}
use Rattle.stab_journal.specs.Journal.{Journal, label_at, IsLive, IsValid, step_at, survivors}
use Rattle.stab_journal.specs.View.{struck_from, journal_of}
use Rattle.stab_journal.proofs.Events.{AreEvents-push, label_at-push, next_not_struck, survivors_from-push, survivors_from-insert, steps_only-insert, is_other}
use Rattle.stab_journal.proofs.Entries.{struck_from-push, from_list-struck}

abbrev pub pushed : Journal → Event → Journal
pushed j e = record j { events = j.events ++ e ∷ []; spare = j.spare - 1 }

abbrev pub striking : Journal → ℕ → Journal
striking j q = record j { struck = insert j.struck q }

one_more : (n : ℕ) → n + 1 ≡ 1 + n
one_more n = omega arith

-- what may happen weighs something
weighs_some : (q : ℕ) (w : What) → IsWhat q w → 1 ≤ weigh w
weighs_some q (Step (Local t n)) h = h.1.0
weighs_some q (Step (Spawn t u)) h = omega arith
weighs_some q (Step (NewChan t c)) h = omega arith
weighs_some q (Step (Comm s r c)) h = omega arith
weighs_some q (Step (NewRef t r)) h = omega arith
weighs_some q (Step (Get t r)) h = omega arith
weighs_some q (Step (Set t r)) h = omega arith
weighs_some q (Step (Enter t)) h = omega arith
weighs_some q (Step (Cut t)) h = omega arith
weighs_some q (Step (Print t)) h = omega arith
weighs_some q (Step (Probe t i)) h = omega arith
weighs_some q (Step (Refuse t)) h = omega arith
weighs_some q (Step (Pin t)) h = omega arith
weighs_some q (Step (Attempt t g)) h = omega arith
weighs_some q (Undo t m) h = omega arith
weighs_some q (Release k) h = omega arith

-- a pushed event keeps a journal valid
pub valid-push : (j : Journal) (e : Event) → IsValid j → weight_of j.events + weigh e.what < 2 ^ 64 → IsEvent (length j.events + 1) e → IsValid (pushed j e)
valid-push j e valid light is = record {
  in_range = AreEvents-push 1 j.events e valid.in_range (subst (λ n. IsEvent n e) (one_more (length j.events)) is);
  steps_only = λ q struck. label_at-push j.events e q (valid.steps_only q struck);
  weight = subst (λ n. n < 2 ^ 64) (sym (sum_by_push (λ (x : Event). weigh x.what) j.events e)) light;
  few =
      let longer : length (j.events ++ e ∷ []) ≡ length j.events + 1 = length_push j.events e in
      let heavier = sum_by_push (λ (x : Event). weigh x.what) j.events e in
      omega (arith, valid.few, weighs_some (length j.events + 1) e.what is.what);
}

-- a pushed step joins the survivors
pub survivors-push : (j : Journal) (e : Event) → IsValid j → survivors (pushed j e) ≡ survivors j ++ step_at (length j.events + 1) e.what
survivors-push j e valid =
    survivors_from-push j.struck 1 j.events e
    ∙ ap (λ n. survivors j ++ cond (contains j.struck n) [] (step_at n e.what)) (sym (one_more (length j.events)))
    ∙ ap (λ b. survivors j ++ cond b [] (step_at (length j.events + 1) e.what)) (subst (λ n. contains j.struck n ≡ false) (sym (add-one (length j.events))) (next_not_struck j valid))

-- a strike keeps a journal valid
pub valid-strike : (j : Journal) (q : ℕ) → IsValid j → IsLive j q → IsValid (striking j q)
valid-strike j q valid live = record {
  in_range = valid.in_range;
  steps_only = steps_only-insert j.events j.struck q valid.steps_only live.step;
  weight = valid.weight;
  few = valid.few;
}

-- a struck step leaves the survivors
pub survivors-strike : (j : Journal) (q : ℕ) → survivors (striking j q) ≡ filter (is_other q) (survivors j)
survivors-strike j q = survivors_from-insert j.struck q 1 j.events

label_within : (es : List Entry) (i : ℕ) → IsSome (label_at (map (λ (x : Entry). x.event) es) (suc i)) → suc i - 1 < length es
label_within [] i some = cc
label_within (e ∷ es) zero some = omega arith
label_within (e ∷ es) (suc i) some = let within = label_within es i some in omega arith

module _ (a b : Inside) (e : Event) (items : b.entries.items ≡ a.entries.items ++ record { event = e; struck = false } ∷ []) (len : vec_len b.entries ≡ vec_len a.entries + 1) (capacity : vec_capacity b.entries ≡ vec_capacity a.entries) where
  pub view-push : journal_of b ≡ pushed (journal_of a) e
  view-push =
      let events = ap (map (λ (x : Entry). x.event)) items ∙ map-append (λ (x : Entry). x.event) a.entries.items (record { event = e; struck = false } ∷ []) in
      let struck = ap (λ (es : List Entry). from_list {R = nat_cmp} (struck_from 1 es)) items ∙ ap (λ (ns : List ℕ). from_list {R = nat_cmp} ns) (struck_from-push 1 a.entries.items (record { event = e; struck = false }) refl) in
      let spare : vec_capacity b.entries - vec_len b.entries ≡ (vec_capacity a.entries - vec_len a.entries) - 1 = omega arith in
      λ i. record { events = events i; struck = struck i; spare = spare i }

  pub weight-push : weight_of (journal_of b).events ≡ weight_of (journal_of a).events + weigh e.what
  weight-push = ap (λ (j : Journal). weight_of j.events) view-push ∙ sum_by_push (λ (x : Event). weigh x.what) (journal_of a).events e

module _ (a b : Inside) (i : ℕ) (d : Entry) (in_it : i < length a.entries.items) (at : d ≡ slice_index_or a.entries.items i d) (items : b.entries.items ≡ slice_set a.entries.items i (record { event = d.event; struck = true })) (len : vec_len b.entries ≡ vec_len a.entries) (capacity : vec_capacity b.entries ≡ vec_capacity a.entries) where
  pub view-strike : journal_of b ≡ striking (journal_of a) (suc i)
  view-strike =
      let events = ap (map (λ (x : Entry). x.event)) items ∙ map-set_same (λ (x : Entry). x.event) a.entries.items i (record { event = d.event; struck = true }) d (ap (λ (x : Entry). x.event) at) in
      let struck = ap (λ (es : List Entry). from_list {R = nat_cmp} (struck_from 1 es)) items ∙ from_list-struck a.entries.items i (record { event = d.event; struck = true }) in_it refl in
      let spare : vec_capacity b.entries - vec_len b.entries ≡ vec_capacity a.entries - vec_len a.entries = cc in
      λ k. record { events = events k; struck = struck k; spare = spare k }

-- a live number is that of an event that is there
pub live_within : (a : Inside) (q : ℕ) → IsLive (journal_of a) q → (1 ≤ q) × (q - 1 < length a.entries.items)
live_within a zero live = let none = live.step in cc
live_within a (suc i) live = (omega arith, label_within a.entries.items i live.step)
