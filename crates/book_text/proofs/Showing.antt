-- What a state shows, from the book that shows it.
use Rattle.std.proofs.Common.{◌≡◌, ℕ, zero, suc, ◌+◌, ◌-◌, ◌≤◌, Bool, true, false, not, ◌&&◌, ◌||◌, [], ◌++◌, length, Option, Some, None, refl, sym, ap, ◌∙◌, arith}
use Rattle.std.specs.Prelude.{IfSome, is_some, map as each, count_by, option_and_then, option_map}
use Rattle.std.specs.List.{flat_map}
use Rattle.std.specs.Option.{option_map_or}
use Rattle.std.specs.FinMap as map
use Rattle.std.proofs.lemmas.Bool.{false≢true}
use Rattle.stab_base.specs.declared.fault.Fault.{Fault}
use Rattle.stab_code.specs.Program.{ProgramParts}
use Rattle.thread_slots.specs.declared.state.State.{State}
use Rattle.thread_slots.specs.declared.state.State.TheVariants.{Ready, Leased, Parked, Ended}
use Rattle.thread_slots.specs.Ready.{numbers}
use Rattle.thread_slots.specs.Slot.{Slot, same_state, is_in}
use Rattle.language.specs.Expression.{Expr, value, failed}
use Rattle.language.specs.Plain.{PlainState, end_of, look_in}
use Rattle.language.specs.Shown.{is_done, is_fault, fault_line, counts, count_line, shown, value_lines}
use Rattle.language.specs.Table.{Look, done, fault, act, pure}
use Rattle.language.specs.Table as table
use Rattle.step_eval.specs.ControlView.{ControlView, expr_of}
use Rattle.journal_laws.proofs.Surviving.{some_is}
use Rattle.journal_laws.proofs.Undone.{stands_run}
use Rattle.commit_book.specs.Book.{BookView, IsShown, over, offered, failed_with}
use Rattle.commit_book.specs.Counts.{faulted_in, in_state, is_faulted_at}
use Rattle.commit_book.specs.Doing.{IsDoing, is_over, is_failed}
use Rattle.commit_book.proofs.Keeping.Named.{old_thread}
use Rattle.book_text.specs.Written.{IsShownText, fault_lines, count_text}
use Rattle.book_text.proofs.ByNumber.{entries_below, told_upto, told_pairs}
use Rattle.thread_slots.proofs.Counted.{numbers-same}
use Rattle.book_text.proofs.Tallying.{one, split, tally_each}

-- a look that is neither of a value nor of a fault
abbrev pub goes_on : Look Expr → Bool
goes_on (done v) = false
goes_on (fault k) = false
goes_on _ = true

-- an expression that isn't over goes on
abbrev pub IsWhole : ProgramParts → Expr → Type 0
IsWhole p e = is_over e ≡ false → goes_on (look_in p e) ≡ true

-- what is next for it is an end exactly where it is over
pub record EndsSo (e : Expr) (l : Look Expr) : Type 0 where
  pub done : is_done l ≡ (is_over e && not (is_failed e))
  pub fault : is_fault l ≡ is_failed e
  pub line : (t : ℕ) → fault_line t l ≡ option_map_or (λ (k : Fault). fault_line t (table.fault k)) (failed_with e) []

ends_on : (e : Expr) (l : Look Expr) → is_over e ≡ false → is_failed e ≡ false → failed_with e ≡ None → goes_on l ≡ true → EndsSo e l
ends_on e (done v) o f n h = absurd (false≢true h)
ends_on e (fault k) o f n h = absurd (false≢true h)
ends_on e (act a) o f n h = record { done = sym (ap (λ b. b && not (is_failed e)) o); fault = sym f; line = λ t. sym (ap (λ (w : Option Fault). option_map_or (λ (k : Fault). fault_line t (table.fault k)) w []) n) }
ends_on e (pure x) o f n h = record { done = sym (ap (λ b. b && not (is_failed e)) o); fault = sym f; line = λ t. sym (ap (λ (w : Option Fault). option_map_or (λ (k : Fault). fault_line t (table.fault k)) w []) n) }

pub ends_so : (p : ProgramParts) (e : Expr) → IsWhole p e → EndsSo e (look_in p e)
ends_so p (value v) whole = record { done = refl; fault = refl; line = λ t. refl }
ends_so p (failed k) whole = record { done = refl; fault = refl; line = λ t. refl }
ends_so p e whole = ends_on e (look_in p e) refl refl refl (whole refl)

-- each live thread's expression goes on or is over
abbrev pub AreWhole : BookView → Type 0
AreWhole b = (t : ℕ) → IfSome (map.get b.threads t) (λ slot. IsWhole b.job.program (expr_of b.job.program slot.control))

module _ (b : BookView) (whole : AreWhole b) (shown_is : IsShown b) where
  abbrev p : ProgramParts
  p = b.job.program

  abbrev s : PlainState
  s = shown_is.state

  abbrev n : ℕ
  n = b.next.thread

  at_thread : (t : ℕ) → map.get s.threads t ≡ option_map (λ (slot : Slot ControlView). expr_of p slot.control) (map.get b.threads t)
  at_thread t = sym (shown_is.shows.threads.threads t)

  beyond : (t : ℕ) → n ≤ t → map.get s.threads t ≡ None
  beyond t high =
      elim (map.get s.threads t) as (λ o. map.get s.threads t ≡ o → o ≡ None) [
        | None ↦ λ at. refl
        | (Some e) ↦ λ at.
            let journal = shown_is.shows.journal in
            let low = old_thread p b.history.events shown_is.run s journal.history.stands n b.next.chan b.next.ref journal.next t (ap is_some at) in
            absurd (omega (arith, low, high))
      ] refl

  -- ---- the lines of faults

  line_at : (t : ℕ) (o : Option (Slot ControlView)) → IfSome o (λ slot. IsWhole p (expr_of p slot.control))
      → option_map_or (λ e. fault_line t (look_in p e)) (option_map (λ (slot : Slot ControlView). expr_of p slot.control) o) []
      ≡ option_map_or (λ (k : Fault). fault_line t (table.fault k)) (option_and_then (λ (slot : Slot ControlView). failed_with (expr_of p slot.control)) o) []
  line_at t None h = refl
  line_at t (Some slot) h = (ends_so p (expr_of p slot.control) h).line t

  lines_upto : (m : ℕ) → told_upto (λ t e. fault_line t (look_in p e)) (map.get s.threads) m ≡ fault_lines b m
  lines_upto zero = refl
  lines_upto (suc m) =
      ap (λ text. text ++ option_map_or (λ e. fault_line m (look_in p e)) (map.get s.threads m) []) (lines_upto m)
      ∙ ap (λ text. fault_lines b m ++ text) (ap (λ o. option_map_or (λ e. fault_line m (look_in p e)) o []) (at_thread m) ∙ line_at m (map.get b.threads m) (whole m))

  faults : flat_map (λ (t : ℕ × Expr). fault_line t.0 (look_in p t.1)) (map.entries s.threads) ≡ fault_lines b n
  faults = ap (flat_map (λ (t : ℕ × Expr). fault_line t.0 (look_in p t.1))) (entries_below n s.threads beyond) ∙ told_pairs (λ t e. fault_line t (look_in p e)) (map.get s.threads) n ∙ lines_upto n

  -- ---- the counts

  abbrev seen : (Look Expr → Bool) → ℕ → Bool
  seen P t = option_map_or (λ e. P (look_in p e)) (map.get s.threads t) false

  counted : (P : Look Expr → Bool) → count_by P (each (look_in p) (map.values s.threads)) ≡ length (numbers (seen P) n)
  counted P = ap (λ es. count_by P (each (look_in p) (each (λ (e : ℕ × Expr). e.1) es))) (entries_below n s.threads beyond) ∙ tally_each P (look_in p) (map.get s.threads) n

  -- of one thread, by its state
  abbrev Thread : Type 0
  Thread = Option (Slot ControlView)

  abbrev there : (Slot ControlView → Bool) → Thread → Bool
  there f o = option_map_or f o false

  abbrev looks : (Look Expr → Bool) → Thread → Bool
  looks P o = option_map_or (λ e. P (look_in p e)) (option_map (λ (slot : Slot ControlView). expr_of p slot.control) o) false

  seen_is : (P : Look Expr → Bool) (t : ℕ) → seen P t ≡ looks P (map.get b.threads t)
  seen_is P t = ap (λ o. option_map_or (λ e. P (look_in p e)) o false) (at_thread t)

  parts_of_over : (e : Expr) → one (is_over e) ≡ one (is_over e && not (is_failed e)) + one (is_failed e)
  parts_of_over (failed k) = refl
  parts_of_over (value v) = refl
  parts_of_over _ = refl

  ended_parts : (o : Thread) → IfSome o (λ slot. IsWhole p (expr_of p slot.control)) → IfSome o (IsDoing (over p) (offered p))
      → one (there (λ slot. same_state Ended slot.state) o) ≡ one (looks is_done o) + one (there (λ slot. is_failed (expr_of p slot.control)) o)
  ended_parts None h d = refl
  ended_parts (Some slot) h d =
      let e = expr_of p slot.control in
      ap one d.ended ∙ parts_of_over e ∙ ap (λ k. one k + one (is_failed e)) (sym (ends_so p e h).done)

  fault_at_once : (o : Thread) → IfSome o (λ slot. IsWhole p (expr_of p slot.control)) → looks is_fault o ≡ there (λ slot. is_failed (expr_of p slot.control)) o
  fault_at_once None h = refl
  fault_at_once (Some slot) h = (ends_so p (expr_of p slot.control) h).fault

  abbrev waits : Look Expr → Bool
  waits l = not (is_done l) && not (is_fault l)

  waits_as : (e : Expr) (l : Look Expr) → EndsSo e l → waits l ≡ not (is_over e)
  waits_as e l is = ap (λ k. not k && not (is_fault l)) is.done ∙ ap (λ k. not (is_over e && not (is_failed e)) && not k) is.fault ∙ either e
    where
      either : (e : Expr) → (not (is_over e && not (is_failed e)) && not (is_failed e)) ≡ not (is_over e)
      either (failed k) = refl
      either (value v) = refl
      either _ = refl

  by_state : (st : State) → one (not (same_state Ended st)) ≡ one (same_state Parked st) + (one (same_state Ready st) + one (same_state Leased st))
  by_state Ready = refl
  by_state Leased = refl
  by_state Parked = refl
  by_state Ended = refl

  waiting_parts : (o : Thread) → IfSome o (λ slot. IsWhole p (expr_of p slot.control)) → IfSome o (IsDoing (over p) (offered p))
      → one (looks waits o) ≡ one (there (λ slot. same_state Parked slot.state) o) + (one (there (λ slot. same_state Ready slot.state) o) + one (there (λ slot. same_state Leased slot.state) o))
  waiting_parts None h d = refl
  waiting_parts (Some slot) h d =
      let e = expr_of p slot.control in
      ap one (waits_as e (look_in p e) (ends_so p e h) ∙ ap not (sym d.ended)) ∙ by_state slot.state

  -- ---- the whole text

  done_count : count_by is_done (each (look_in p) (map.values s.threads)) ≡ in_state Ended b - faulted_in p b.threads n
  done_count =
      let ended : in_state Ended b ≡ length (numbers (seen is_done) n) + faulted_in p b.threads n =
      split (is_in Ended b.threads) (seen is_done) (is_faulted_at p b.threads) n (λ u. ended_parts (map.get b.threads u) (whole u) (shown_is.shows.threads.doing u) ∙ ap (λ k. one k + one (is_faulted_at p b.threads u)) (sym (seen_is is_done u)))
      in
      let count = counted is_done in
      omega (arith, ended, count)

  fault_count : count_by is_fault (each (look_in p) (map.values s.threads)) ≡ faulted_in p b.threads n
  fault_count = counted is_fault ∙ ap length (numbers-same (is_faulted_at p b.threads) (seen is_fault) n (λ u low. seen_is is_fault u ∙ fault_at_once (map.get b.threads u) (whole u)))

  wait_count : count_by waits (each (look_in p) (map.values s.threads)) ≡ in_state Parked b + in_state Ready b + in_state Leased b
  wait_count =
      let either : ℕ → Bool = λ u. is_in Ready b.threads u || is_in Leased b.threads u in
      let first : length (numbers (seen waits) n) ≡ in_state Parked b + length (numbers either n) =
      split (seen waits) (is_in Parked b.threads) either n (λ u. ap one (seen_is waits u) ∙ waiting_parts (map.get b.threads u) (whole u) (shown_is.shows.threads.doing u) ∙ ap (λ k. one (is_in Parked b.threads u) + k) (sym (both (map.get b.threads u))))
      in
      let second : length (numbers either n) ≡ in_state Ready b + in_state Leased b = split either (is_in Ready b.threads) (is_in Leased b.threads) n (λ u. both (map.get b.threads u)) in
      let count = counted waits in
      omega (arith, first, second, count)
    where
      one_state : (st : State) → one (same_state Ready st || same_state Leased st) ≡ one (same_state Ready st) + one (same_state Leased st)
      one_state Ready = refl
      one_state Leased = refl
      one_state Parked = refl
      one_state Ended = refl

      both : (o : Thread) → one (there (λ slot. same_state Ready slot.state) o || there (λ slot. same_state Leased slot.state) o) ≡ one (there (λ slot. same_state Ready slot.state) o) + one (there (λ slot. same_state Leased slot.state) o)
      both None = refl
      both (Some slot) = one_state slot.state

  whole_text : shown p s ≡ value_lines p b.printed ++ fault_lines b n ++ count_text b
  whole_text =
      ap (λ vs. value_lines p vs ++ flat_map (λ (t : ℕ × Expr). fault_line t.0 (look_in p t.1)) (map.entries s.threads) ++ count_line (each (look_in p) (map.values s.threads))) (sym shown_is.shows.journal.printed)
      ∙ ap (λ text. value_lines p b.printed ++ text ++ count_line (each (look_in p) (map.values s.threads))) faults
      ∙ ap (λ k. value_lines p b.printed ++ fault_lines b n ++ counts k (count_by is_fault (each (look_in p) (map.values s.threads))) (count_by waits (each (look_in p) (map.values s.threads)))) done_count
      ∙ ap (λ k. value_lines p b.printed ++ fault_lines b n ++ counts (in_state Ended b - faulted_in p b.threads n) k (count_by waits (each (look_in p) (map.values s.threads)))) fault_count
      ∙ ap (λ k. value_lines p b.printed ++ fault_lines b n ++ counts (in_state Ended b - faulted_in p b.threads n) (faulted_in p b.threads n) k) wait_count

  -- so this is the text of the state to which the history leads
  pub is_shown_text : IsShownText b (value_lines p b.printed ++ fault_lines b n ++ count_text b)
  is_shown_text end ends =
      let journal = shown_is.shows.journal in
      let runs = stands_run p b.history.events shown_is.run s journal.history.stands in
      let same : s ≡ end = some_is (sym runs.1.ends ∙ ap (end_of p) (sym journal.history.left) ∙ ends) in
      sym whole_text ∙ ap (shown p) same
