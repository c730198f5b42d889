-- What a release needs of a book, and what its calls leave.
use Rattle.std.proofs.Common.{◌≡◌, ℕ, suc, ◌+◌, ◌-◌, ◌*◌, ◌^◌, ◌<◌, ◌≤◌, Bool, true, false, cond, ◌&&◌, List, [], ◌∷◌, ◌++◌, length, take, drop, map as each, sym, ap, subst, ◌∙◌, arith}
use Rattle.std.specs.Prelude.{count_by, nat_lt}
use Rattle.std.specs.List.{AllByRecursion, flat_map}
use Rattle.std.proofs.lemmas.Bool.Decides.{nat_tests}
use Rattle.std.proofs.lemmas.List.{length_push}
use Rattle.std.proofs.lemmas.List.Sums.{sum_by-append}
use Rattle.stab_base.specs.Datum.{Datum}
use Rattle.stab_base.specs.Printed.{printed}
use Rattle.stab_code.specs.JobParts.{JobParts}
use Rattle.stab_journal.specs.declared.event.Numbered.{Numbered}
use Rattle.stab_journal.specs.declared.event.Event.{Event}
use Rattle.stab_journal.specs.declared.event.What.{What}
use Rattle.stab_journal.specs.declared.event.What.TheVariants.{Release, Step, Undo}
use Rattle.stab_journal.specs.Event.{AreEvents, IsWhat, weigh, weight_of}
use Rattle.stab_journal.specs.Due.{due, final_prints, is_print, released}
use Rattle.stab_journal.specs.Floor.{floor}
use Rattle.stab_journal.specs.Journal.{IsValid, Journal, RiseFrom, survivors}
use Rattle.stab_journal.specs.Surviving.{run_of}
use Rattle.stab_journal.proofs.Surviving.{are_survivors}
use Rattle.language.specs.Shown.{line}
use Rattle.language.specs.Standing.{event}
use Rattle.journal_laws.proofs.Undone.{stands_run}
use Rattle.print_log.specs.Log.{Print, values}
use Rattle.commit_book.specs.declared.counts.Tallies.{Tallies}
use Rattle.commit_book.specs.declared.parts.Parts.{Parts}
use Rattle.commit_book.specs.Acting.{AreAsBefore}
use Rattle.commit_book.specs.Book.{BookView}
use Rattle.commit_book.specs.Layout.{IsBook, IsKept, owed, view_of, without_spare}
use Rattle.commit_book.specs.Limits.{most_events}
use Rattle.commit_book.specs.Releases.{IsReleased, IsReleasedBy, due_lines}
use Rattle.commit_book.proofs.Acting.Acted.{reserved}
use Rattle.commit_book.proofs.Threads.Choosing.{due_is}
use Rattle.commit_book.proofs.Undoing.LostSteps.{survivors_up_to}
use Rattle.commit_book.proofs.Lawful.PrintCounts.{counted}
use Rattle.commit_book.proofs.Keeping.Prints.{take_front}
use Rattle.commit_book.proofs.Acting.ReleaseActs.{kept_released}
use Rattle.commit_book.proofs.Keeping.Room.{step_weighs}
use Rattle.commit_book.proofs.Keeping.SeenAfter.{kept_same, view_same}

pub all_few : (p : Numbered → Bool) (ns : List Numbered) → count_by p ns ≤ length ns
all_few p [] = omega arith
all_few p (n ∷ ns) =
    let one = counted p n ns in
    let more : count_by p ns ≤ length ns = all_few p ns in
    let here : cond {A = ℕ} (p n) 1 0 ≤ 1 = at_most (p n) in
    omega (arith, one, more, here)
  where
    at_most : (a : Bool) → cond {A = ℕ} a 1 0 ≤ 1
    at_most true = omega arith
    at_most false = omega arith

-- steps whose numbers rise up to e
rise_few : (q e : ℕ) (ns : List Numbered) → RiseFrom q ns → AllByRecursion (λ (n : Numbered). n.seq.0 ≤ e) ns → length ns ≤ e + 1 - q
rise_few q e [] rise low = omega arith
rise_few q e (n ∷ ns) rise low =
    let more : length ns ≤ e + 1 - suc n.seq.0 = rise_few (suc n.seq.0) e ns rise.1 low.1 in
    let first = rise.0 in
    let under = low.0 in
    omega (arith, more, first, under)

pub run_few : (j : Journal) → length (survivors j) ≤ length j.events
run_few j = let few : length (survivors j) ≤ length j.events + 1 - 1 = rise_few 1 (length j.events) (survivors j) (are_survivors j).rising (survivors_up_to j) in omega (arith, few)

-- whether a release is owed
below_is : (a b : ℕ) → a < b → nat_lt a b ≡ true
below_is a b h = grind (arith, nat_tests)

not_below : (a b : ℕ) → a ≡ b → nat_lt a b ≡ false
not_below a b h = grind (arith, nat_tests)

pub owed_one : (p : Parts) → p.tallies.released < p.tallies.finals → owed p ≡ 1
owed_one p low = ap (λ b. cond {A = ℕ} b 1 0) (below_is p.tallies.released p.tallies.finals low)

pub owed_none : (p : Parts) → p.tallies.released ≡ p.tallies.finals → owed p ≡ 0
owed_none p same = ap (λ b. cond {A = ℕ} b 1 0) (not_below p.tallies.released p.tallies.finals same)

-- each event has its range, and so has what they weigh
weighs_at_most : (q : ℕ) (w : What) → IsWhat q w → weigh w ≤ 4294967295
weighs_at_most q (Step l) is = step_weighs l is
weighs_at_most q (Undo t m) is = omega arith
weighs_at_most q (Release k) is = omega arith

pub weight_within : (q : ℕ) (es : List Event) → AreEvents q es → weight_of es ≤ length es * 4294967295
weight_within q [] are = omega arith
weight_within q (e ∷ es) are =
    let both : weight_of (e ∷ es) ≡ weight_of (e ∷ []) + weight_of es = sum_by-append (λ (k : Event). weigh k.what) (e ∷ []) es in
    let one : weight_of (e ∷ []) ≡ weigh e.what = omega arith in
    let here : weigh e.what ≤ 4294967295 = weighs_at_most q e.what are.0.what in
    let more : weight_of es ≤ length es * 4294967295 = weight_within (suc q) es are.1 in
    omega (arith, both, one, here, more)

module _ (job : JobParts) (old : Parts) (kept : IsKept job old) where
  run_same : survivors old.history ≡ run_of old.history.events
  run_same =
      let journal = kept.shown.shows.journal in
      journal.history.left ∙ (stands_run job.program old.history.events kept.shown.run kept.shown.state journal.history.stands).0

  finals_are : old.tallies.finals ≡ final_prints (run_of old.history.events)
  finals_are = kept.tallied.finals ∙ ap final_prints run_same

  -- all final values are there
  pub finals_same : old.tallies.finals ≡ length old.printed.finals
  finals_same = kept.tallied.finals ∙ sym kept.prints.finals

  -- there are no more than events
  pub finals_few : old.tallies.finals ≤ length old.history.events
  finals_few =
      let some : final_prints (survivors old.history) ≤ length (survivors old.history) = all_few (λ (n : Numbered). is_print n.label && nat_lt n.seq.0 (floor (survivors old.history))) (survivors old.history) in
      let few = run_few old.history in
      let same = kept.tallied.finals in
      omega (arith, some, few, same)

  pub due_so : 0 < due old.history.events → old.tallies.released < old.tallies.finals
  due_so some = let is = due_is job old kept in omega (arith, some, is)

  -- so there is room for a release
  pub room_for_one : 0 < due old.history.events → IsBook job old → length old.history.events + 1 ≤ most_events
  room_for_one some book =
      let one : owed old ≡ 1 = owed_one old (due_so some) in
      let short = book.short in
      omega (arith, one, short)

  pub light_for_one : 0 < due old.history.events → IsBook job old → IsValid old.history → weight_of old.history.events + 1 < 2 ^ 64
  light_for_one some book valid =
      let few : length old.history.events + 1 ≤ most_events = room_for_one some book in
      let weight : weight_of old.history.events ≤ length old.history.events * 4294967295 = weight_within 1 old.history.events valid.in_range in
      omega (arith, few, weight)

  -- the values that are due
  pub lines_so : (vs : List Datum) → vs ≡ drop old.tallies.released old.printed.finals → flat_map (λ (v : Datum). line (printed job.program.texts v)) vs ≡ due_lines (view_of job old)
  lines_so vs is =
      let front : take old.tallies.finals (values old.printed) ≡ old.printed.finals = ap (λ n. take n (values old.printed)) finals_same ∙ take_front old.printed.finals (each (λ (p : Print). p.value) old.printed.recent) in
      ap (flat_map (λ (v : Datum). line (printed job.program.texts v)))
      (is
      ∙ ap (drop old.tallies.released) (sym front)
      ∙ ap (λ n. drop n (take old.tallies.finals (values old.printed))) kept.tallied.released
      ∙ ap (λ n. drop (released old.history.events) (take n (values old.printed))) finals_are)

  -- with more room
  module _ (h : Journal) (room : h ≡ record old.history { spare = h.spare }) where
    abbrev mid : Parts
    mid = record old { history = h }

    as_before : AreAsBefore old mid
    as_before = reserved old h room

    pub kept_reserved : IsKept job mid
    kept_reserved = kept_same job old mid as_before kept

    pub view_reserved : view_of job mid ≡ view_of job old
    view_reserved = view_same job old mid as_before

    -- the release was pushed
    module _ (new : Parts) (worker : ℕ) (some : 0 < due old.history.events) (is : IsReleasedBy mid new worker) where
      pub kept_after_release : IsKept job new
      kept_after_release = kept_released job mid new worker kept_reserved (due_so some) is

      pub released_so : IsReleased (view_of job old) (view_of job new) worker
      released_so =
          subst (λ (b : BookView). view_of job new ≡ record b { history = record b.history { events = b.history.events ++ event worker (Release (final_prints (run_of old.history.events))) ∷ [] } }) view_reserved
          (ap (view_of job) is.others
          ∙ ap (λ (t : Tallies). view_of job (record mid { history = new.history; tallies = t })) is.tallies
          ∙ (λ i. record (view_of job mid) { history = record (without_spare mid.history) { events = is.events i; struck = is.struck i } })
          ∙ ap (λ (n : ℕ). record (view_of job mid) { history = record (without_spare mid.history) { events = mid.history.events ++ event worker (Release n) ∷ [] } }) finals_are)

      -- nothing is due then
      pub book_after_release : IsBook job old → IsBook job new
      book_after_release book = record {
        kept = kept_after_release;
        short =
            let long : length new.history.events ≡ length mid.history.events + 1 = ap length is.events ∙ length_push mid.history.events (event worker (Release mid.tallies.finals)) in
            let same : length mid.history.events ≡ length old.history.events = ap (λ (j : Journal). length j.events) room in
            let paid : owed new ≡ 0 = owed_none new (ap (λ (t : Tallies). t.released) is.tallies ∙ ap (λ (t : Tallies). t.finals) (sym is.tallies)) in
            let before = room_for_one some book in
            omega (arith, long, same, paid, before);
      }
