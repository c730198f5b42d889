-- At alike stands the same comes of a lease.
use Rattle.std.proofs.Common.{◌≡◌, ℕ, Bool, true, false, cond, nat_eq, List, [], ◌∷◌, ◌++◌, Some, sym, ap, subst₂, ◌∙◌}
use Rattle.std.specs.Prelude.{option_map, slice_get}
use Rattle.std.specs.FinMap as map
use Rattle.linked_lists.specs.Lists.{without}
use Rattle.stab_code.specs.JobParts.{JobParts}
use Rattle.stab_code.specs.Program.{ProgramParts}
use Rattle.stab_journal.specs.declared.event.What.TheVariants as what
use Rattle.stab_journal.specs.Due.{final_prints}
use Rattle.stab_journal.specs.Surviving.{run_of}
use Rattle.thread_slots.specs.declared.state.State.TheVariants.{Leased}
use Rattle.language.specs.Standing.{event}
use Rattle.language.proofs.Applying.{get_inserted}
use Rattle.journal_laws.proofs.Surviving.{some_is}
use Rattle.step_eval.specs.ControlView.{ControlView, expr_of}
use Rattle.commit_book.specs.declared.turn.Turn.{Turn}
use Rattle.commit_book.specs.declared.turn.Turn.TheVariants.{Work, Idle, Quiet, Spent, Release}
use Rattle.commit_book.specs.Book.{BookView}
use Rattle.commit_book.specs.Leases.{LeaseView}
use Rattle.commit_book.specs.Releases.{finals}
use Rattle.commit_book.specs.Turns.{IsLeaseOf, choice_of}
use Rattle.commit_book.proofs.Threads.Choosing.{chosen_front}
use Rattle.commit_book.proofs.Threads.Partners.{IsThere, there_of}
use Rattle.lone_worker.specs.Desk.{Desk, Seat, desk_of, seat_of}
use Rattle.schedule_drill.specs.declared.held.At.TheVariants.{Lent}
use Rattle.schedule_drill.specs.declared.held.Held.{Held}
use Rattle.schedule_drill.specs.Alike.{AreAlike, AreOne, IsOneHeld}
use Rattle.schedule_drill.specs.Out.{Out}
use Rattle.schedule_drill.specs.Played.{IsLeased, IsTaken, Stand}
use Rattle.schedule_drill.specs.Text.{lent_text, release_text, turn_text}
use Rattle.schedule_drill.proofs.Desks.{desk_leased, one_choice, requeued_on}

-- ---- leases that are out

module _ (p q : ProgramParts) where
  one_put : (k u : ℕ) (h i : Held) (m n : Out) → IsOneHeld p q h i → AreOne p q (map.get m u) (map.get n u) → AreOne p q (map.get (map.insert m k h) u) (map.get (map.insert n k i) u)
  one_put k u h i m n is are = subst₂ (AreOne p q) (sym (get_inserted m k h u)) (sym (get_inserted n k i u)) (at (nat_eq u k))
    where
      at : (b : Bool) → AreOne p q (cond b (Some h) (map.get m u)) (cond b (Some i) (map.get n u))
      at true = is
      at false = are

-- the same leases are out, and one more
pub alike_put : (a b x y : Stand) (k : ℕ) (h i : Held) → AreAlike a b → IsOneHeld a.book.job.program b.book.job.program h i → desk_of x.book ≡ desk_of y.book
    → x.book.job ≡ a.book.job → y.book.job ≡ b.book.job → x.out ≡ map.insert a.out k h → y.out ≡ map.insert b.out k i → AreAlike x y
alike_put a b x y k h i alike is desk job_x job_y out_x out_y = record {
  desk = desk;
  out = λ u. subst₂ (λ (p q : ProgramParts). AreOne p q (map.get x.out u) (map.get y.out u)) (sym (ap (λ (j : JobParts). j.program) job_x)) (sym (ap (λ (j : JobParts). j.program) job_y))
      (subst₂ (λ (m n : Out). AreOne a.book.job.program b.book.job.program (map.get m u) (map.get n u)) (sym out_x) (sym out_y)
      (one_put a.book.job.program b.book.job.program k u h i a.out b.out is (alike.out u)));
}

-- the same leases are out as before
pub alike_kept : (a b x y : Stand) → AreAlike a b → desk_of x.book ≡ desk_of y.book → x.book.job ≡ a.book.job → y.book.job ≡ b.book.job → x.out ≡ a.out → y.out ≡ b.out → AreAlike x y
alike_kept a b x y alike desk job_x job_y out_x out_y = record {
  desk = desk;
  out = λ u. subst₂ (λ (p q : ProgramParts). AreOne p q (map.get x.out u) (map.get y.out u)) (sym (ap (λ (j : JobParts). j.program) job_x)) (sym (ap (λ (j : JobParts). j.program) job_y))
      (subst₂ (λ (m n : Out). AreOne a.book.job.program b.book.job.program (map.get m u) (map.get n u)) (sym out_x) (sym out_y) (alike.out u));
}

-- what comes of a line at two stands
pub record IsSame (x y : Stand) (s t : List ℕ) : Type 0 where
  pub told : s ≡ t
  pub alike : AreAlike x y

module _ (a b x y : Stand) (k : ℕ) (s t : List ℕ) (alike : AreAlike a b) where
  abbrev p : ProgramParts
  p = a.book.job.program

  abbrev q : ProgramParts
  q = b.book.job.program

  same : desk_of a.book ≡ desk_of b.book
  same = alike.desk

  chosen : choice_of a.book ≡ choice_of b.book
  chosen = one_choice a.book b.book same

  rests : (what : List ℕ) → x.book ≡ a.book → y.book ≡ b.book → x.out ≡ a.out → y.out ≡ b.out → s ≡ what → t ≡ what → IsSame x y s t
  rests what book_x book_y out_x out_y u v = record {
    told = u ∙ sym v;
    alike = alike_kept a b x y alike (ap desk_of book_x ∙ same ∙ sym (ap desk_of book_y)) (ap (λ (b : BookView). b.job) book_x) (ap (λ (b : BookView). b.job) book_y) out_x out_y;
  }

  -- values are released
  one_finals : finals a.book ≡ finals b.book
  one_finals = ap (λ (d : Desk). final_prints (run_of d.events)) same

  releases : IsTaken a x k Release → IsTaken b y k Release → s ≡ turn_text a.book Release → t ≡ turn_text b.book Release → IsSame x y s t
  releases ta tb u v = record {
    told = u ∙ ap release_text one_finals ∙ sym v;
    alike = alike_kept a b x y alike
        (ap desk_of ta.1 ∙ (λ i. record (same i) { events = (same i).events ++ event k (what.Release (final_prints (run_of (same i).events))) ∷ [] }) ∙ sym (ap desk_of tb.1))
        (ap (λ (b : BookView). b.job) ta.1) (ap (λ (b : BookView). b.job) tb.1) ta.2 tb.2;
  }

  -- a thread is lent
  module _ (l m : LeaseView) (c d : ControlView) (ta : IsTaken a x k (Work l c)) (tb : IsTaken b y k (Work m d)) where
    here : IsThere (map.get a.book.threads l.thread) (IsLeaseOf a.book k l c)
    here = there_of (map.get a.book.threads l.thread) (IsLeaseOf a.book k l c) ta.0.1

    there : IsThere (map.get b.book.threads m.thread) (IsLeaseOf b.book k m d)
    there = there_of (map.get b.book.threads m.thread) (IsLeaseOf b.book k m d) tb.0.1

    thread : l.thread ≡ m.thread
    thread =
        some_is (sym (chosen_front a.book (record { 0 = l.thread }) ta.0.0) ∙ ap (λ (d : Desk). slice_get d.queue 0) same ∙ chosen_front b.book (record { 0 = m.thread }) tb.0.0)

    seat : seat_of p here.value ≡ seat_of q there.value
    seat = some_is (sym (ap (option_map (seat_of p)) here.found) ∙ (λ i. (same i).threads (thread i)) ∙ ap (option_map (seat_of q)) there.found)

    one_held : IsOneHeld p q (record { lease = l; at = Lent c }) (record { lease = m; at = Lent d })
    one_held = record {
      lease = λ i. record { worker = (here.is.worker ∙ sym there.is.worker) i; thread = thread i; generation = (here.is.generation ∙ ap (λ (s : Seat). s.generation) seat ∙ sym there.is.generation) i };
      at = ap (expr_of p) here.is.control ∙ ap (λ (s : Seat). s.stands) seat ∙ sym (ap (expr_of q) there.is.control);
    }

    lent_desk : desk_of x.book ≡ desk_of y.book
    lent_desk =
        ap desk_of ta.0.2 ∙ desk_leased a.book l.thread
        ∙ (λ i. requeued_on Leased (thread i) (without (thread i) (same i).queue) (same i))
        ∙ sym (ap desk_of tb.0.2 ∙ desk_leased b.book m.thread)

    works : s ≡ turn_text a.book (Work l c) → t ≡ turn_text b.book (Work m d) → IsSame x y s t
    works u v = record {
      told = u ∙ ap lent_text one_held.lease ∙ sym v;
      alike = alike_put a b x y k (record { lease = l; at = Lent c }) (record { lease = m; at = Lent d }) alike one_held lent_desk
          (ap (λ (b : BookView). b.job) ta.0.2) (ap (λ (b : BookView). b.job) tb.0.2) ta.1 tb.1;
    }

  one : (u v : Turn) → IsTaken a x k u → IsTaken b y k v → s ≡ turn_text a.book u → t ≡ turn_text b.book v → IsSame x y s t
  one (Work l c) (Work m d) ta tb u v = works l m c d ta tb u v
  one (Work l c) Idle ta tb u v = let at = ta.0.0 in let there = tb.0.0 in let same = chosen in absurd (cc)
  one (Work l c) Quiet ta tb u v = let at = ta.0.0 in let there = tb.0.0 in let same = chosen in absurd (cc)
  one (Work l c) Spent ta tb u v = let at = ta.0.0 in let there = tb.0.0 in let same = chosen in absurd (cc)
  one (Work l c) Release ta tb u v = let at = ta.0.0 in let there = tb.0.0 in let same = chosen in absurd (cc)
  one Idle (Work m d) ta tb u v = let at = ta.0.0 in let there = tb.0.0 in let same = chosen in absurd (cc)
  one Idle Idle ta tb u v = rests _ ta.0.1 tb.0.1 ta.1 tb.1 u v
  one Idle Quiet ta tb u v = let at = ta.0.0 in let there = tb.0.0 in let same = chosen in absurd (cc)
  one Idle Spent ta tb u v = let at = ta.0.0 in let there = tb.0.0 in let same = chosen in absurd (cc)
  one Idle Release ta tb u v = let at = ta.0.0 in let there = tb.0.0 in let same = chosen in absurd (cc)
  one Quiet (Work m d) ta tb u v = let at = ta.0.0 in let there = tb.0.0 in let same = chosen in absurd (cc)
  one Quiet Idle ta tb u v = let at = ta.0.0 in let there = tb.0.0 in let same = chosen in absurd (cc)
  one Quiet Quiet ta tb u v = rests _ ta.0.1 tb.0.1 ta.1 tb.1 u v
  one Quiet Spent ta tb u v = let at = ta.0.0 in let there = tb.0.0 in let same = chosen in absurd (cc)
  one Quiet Release ta tb u v = let at = ta.0.0 in let there = tb.0.0 in let same = chosen in absurd (cc)
  one Spent (Work m d) ta tb u v = let at = ta.0.0 in let there = tb.0.0 in let same = chosen in absurd (cc)
  one Spent Idle ta tb u v = let at = ta.0.0 in let there = tb.0.0 in let same = chosen in absurd (cc)
  one Spent Quiet ta tb u v = let at = ta.0.0 in let there = tb.0.0 in let same = chosen in absurd (cc)
  one Spent Spent ta tb u v = rests _ ta.0.1 tb.0.1 ta.1 tb.1 u v
  one Spent Release ta tb u v = let at = ta.0.0 in let there = tb.0.0 in let same = chosen in absurd (cc)
  one Release (Work m d) ta tb u v = let at = ta.0.0 in let there = tb.0.0 in let same = chosen in absurd (cc)
  one Release Idle ta tb u v = let at = ta.0.0 in let there = tb.0.0 in let same = chosen in absurd (cc)
  one Release Quiet ta tb u v = let at = ta.0.0 in let there = tb.0.0 in let same = chosen in absurd (cc)
  one Release Spent ta tb u v = let at = ta.0.0 in let there = tb.0.0 in let same = chosen in absurd (cc)
  one Release Release ta tb u v = releases ta tb u v

  pub one_leased : IsLeased a x k s → IsLeased b y k t → IsSame x y s t
  one_leased la lb = one la.turn lb.turn la.taken lb.taken la.told lb.told
