-- What is there has a number of 1 or more: no event names 0.
use Rattle.std.proofs.Common.{◌≡◌, ℕ, zero, suc, ◌≤◌, true, false, cond, List, [], ◌∷◌, None, refl, sym, ap, ◌∙◌, arith}
use Rattle.std.specs.Prelude.{is_some}
use Rattle.std.specs.List.{flat_map}
use Rattle.std.specs.Ordering.{nat_cmp}
use Rattle.std.specs.FinMap as map
use Rattle.std.specs.FinMap.{get-empty}
use Rattle.std.specs.FinSet as set
use Rattle.std.proofs.lemmas.Bool.{false≢true}
use Rattle.stab_code.specs.Program.{ProgramParts}
use Rattle.stab_journal.specs.declared.event.Event.{Event}
use Rattle.stab_journal.specs.declared.event.Label.{Label}
use Rattle.stab_journal.specs.declared.event.Label.TheVariants.{Local, Spawn, NewChan, Comm, NewRef, Get, Set, Enter, Cut, Print, Probe, Refuse, Pin, Attempt}
use Rattle.stab_journal.specs.declared.event.Numbered.{Numbered}
use Rattle.stab_journal.specs.declared.event.What.{What}
use Rattle.stab_journal.specs.declared.event.What.TheVariants.{Step, Undo, Release}
use Rattle.stab_journal.specs.Event.{IsLabel, IsWhat, AreEvents}
use Rattle.stab_journal.specs.Label.{touched}
use Rattle.stab_journal.specs.Names.{has}
use Rattle.stab_journal.specs.Surviving.{run_of}
use Rattle.language.specs.Outcome.{called}
use Rattle.language.specs.Plain.{PlainState, effect_of, start}
use Rattle.language.specs.Program.{body}
use Rattle.language.specs.Standing.{StandsFor}
use Rattle.language.proofs.Applying.{get_inserted}
use Rattle.journal_laws.proofs.Undone.{stands_run}
use Rattle.stab_journal.specs.Numbers.{chans_in, refs_in, named_by, threads_by}
use Rattle.commit_book.proofs.Keeping.Floors.{differs_too}
use Rattle.commit_book.proofs.Keeping.Unnamed.{has-append, named_in, in_events, unnamed_thread, unnamed_channel, unnamed_reference}

one_named : (n : ℕ) → 1 ≤ n → has (n ∷ []) 0 ≡ false
one_named n from = ap (λ b. cond b true false) (differs_too 0 n (omega (arith, from)))

two_named : (m n : ℕ) → 1 ≤ m → 1 ≤ n → has (m ∷ n ∷ []) 0 ≡ false
two_named m n low from = ap (λ b. cond b true (has (n ∷ []) 0)) (differs_too 0 m (omega (arith, low))) ∙ one_named n from

touched_named : (l : Label) → IsLabel l → has (touched l) 0 ≡ false
touched_named (Local t n) is = one_named t.0 is.0.0
touched_named (Spawn t u) is = two_named t.0 u.0 is.0.0 is.1.0
touched_named (NewChan t c) is = one_named t.0 is.0.0
touched_named (Comm s r c) is = two_named s.0 r.0 is.0.0 is.1.0
touched_named (NewRef t r) is = one_named t.0 is.0.0
touched_named (Get t r) is = one_named t.0 is.0.0
touched_named (Set t r) is = one_named t.0 is.0.0
touched_named (Enter t) is = one_named t.0 is.0
touched_named (Cut t) is = one_named t.0 is.0
touched_named (Print t) is = one_named t.0 is.0
touched_named (Probe t i) is = one_named t.0 is.0.0
touched_named (Refuse t) is = one_named t.0 is.0
touched_named (Pin t) is = one_named t.0 is.0
touched_named (Attempt t g) is = one_named t.0 is.0.0

chans_named : (l : Label) → IsLabel l → has (chans_in l) 0 ≡ false
chans_named (NewChan t c) is = one_named c.0 is.1.0
chans_named (Comm s r c) is = one_named c.0 is.2.0
chans_named _ is = refl

refs_named : (l : Label) → IsLabel l → has (refs_in l) 0 ≡ false
refs_named (NewRef t r) is = one_named r.0 is.1.0
refs_named (Get t r) is = one_named r.0 is.1.0
refs_named (Set t r) is = one_named r.0 is.1.0
refs_named _ is = refl

thread_events : (q : ℕ) (w : What) → IsWhat q w → has (threads_by w) 0 ≡ false
thread_events q (Step l) is = touched_named l is
thread_events q (Undo t m) is = one_named t.0 is.0.0
thread_events q (Release k) is = refl

chan_events : (q : ℕ) (w : What) → IsWhat q w → has (named_by chans_in w) 0 ≡ false
chan_events q (Step l) is = chans_named l is
chan_events q _ is = refl

ref_events : (q : ℕ) (w : What) → IsWhat q w → has (named_by refs_in w) 0 ≡ false
ref_events q (Step l) is = refs_named l is
ref_events q _ is = refl

none_named : (names : What → List ℕ) → ((q : ℕ) (w : What) → IsWhat q w → has (names w) 0 ≡ false) → (q : ℕ) (es : List Event) → AreEvents q es → has (flat_map (λ (e : Event). names e.what) es) 0 ≡ false
none_named names one q [] is = refl
none_named names one q (e ∷ es) is = has-append (names e.what) (flat_map (λ (k : Event). names k.what) es) 0 (one q e.what is.0.what) (none_named names one (suc q) es is.1)

module _ (p : ProgramParts) (events : List Event) (run : List Numbered) (s : PlainState) (stands : StandsFor p events run s) (ranges : AreEvents 1 events) where
  no_thread : map.get s.threads 0 ≡ None
  no_thread =
      let r = stands_run p events run s stands in
      let named : has (named_in touched (run_of events)) 0 ≡ false = in_events touched threads_by (λ l. refl) 0 1 [] events refl (none_named threads_by thread_events 1 events ranges) in
      unnamed_thread (effect_of p) 0 run (start p) s (ap (λ ns. has (named_in touched ns) 0) r.0 ∙ named) r.1.ends
      ∙ get_inserted map.empty 1 (called (body p) p.main.0 []) 0
      ∙ get-empty nat_cmp 0

  no_channel : set.contains s.channels 0 ≡ false
  no_channel =
      let r = stands_run p events run s stands in
      let named : has (named_in chans_in (run_of events)) 0 ≡ false = in_events chans_in (named_by chans_in) (λ l. refl) 0 1 [] events refl (none_named (named_by chans_in) chan_events 1 events ranges) in
      unnamed_channel (effect_of p) 0 run (start p) s (ap (λ ns. has (named_in chans_in ns) 0) r.0 ∙ named) r.1.ends
      ∙ set.contains-empty nat_cmp 0

  no_reference : map.get s.references 0 ≡ None
  no_reference =
      let r = stands_run p events run s stands in
      let named : has (named_in refs_in (run_of events)) 0 ≡ false = in_events refs_in (named_by refs_in) (λ l. refl) 0 1 [] events refl (none_named (named_by refs_in) ref_events 1 events ranges) in
      unnamed_reference (effect_of p) 0 run (start p) s (ap (λ ns. has (named_in refs_in ns) 0) r.0 ∙ named) r.1.ends
      ∙ get-empty nat_cmp 0

  -- the number of a thread, a channel or a reference that is there
  pub thread_from : (t : ℕ) → map.contains_key s.threads t ≡ true → 1 ≤ t
  thread_from zero there = absurd (false≢true (sym (ap is_some no_thread) ∙ there))
  thread_from (suc t) there = omega arith

  pub chan_from : (c : ℕ) → set.contains s.channels c ≡ true → 1 ≤ c
  chan_from zero there = absurd (false≢true (sym no_channel ∙ there))
  chan_from (suc c) there = omega arith

  pub ref_from : (r : ℕ) → map.contains_key s.references r ≡ true → 1 ≤ r
  ref_from zero there = absurd (false≢true (sym (ap is_some no_reference) ∙ there))
  ref_from (suc r) there = omega arith
