-- At alike stands a commit is too late, and comes to a book that takes none, where the other is and does; what is left is the commits that are made.
use Rattle.std.proofs.Common.{◌≡◌, ◌⊎◌, inl, inr, ℕ, ◌+◌, ◌≤◌, ◌++◌, Bool, true, false, cond, nat_eq, List, Option, Some, None, refl, sym, ap, subst₂, ◌∙◌}
use Rattle.std.specs.Prelude.{IfSome, IsSomeAnd, codes, decimal, option_map}
use Rattle.std.specs.FinMap as map
use Rattle.stab_base.specs.declared.numbers.Generation.{Generation}
use Rattle.stab_code.specs.JobParts.{JobParts}
use Rattle.stab_code.specs.Program.{ProgramParts}
use Rattle.stab_journal.specs.Event.{weight_of}
use Rattle.thread_slots.specs.Slot.{Slot}
use Rattle.journal_laws.proofs.Surviving.{some_is, some_none}
use Rattle.step_eval.specs.ControlView.{ControlView}
use Rattle.step_eval.specs.Progress.{ProgressView}
use Rattle.commit_book.specs.declared.done.Done.{Done}
use Rattle.commit_book.specs.declared.done.Done.TheVariants.{Taken, Parked, Undone, Stale, Over}
use Rattle.commit_book.specs.Book.{BookView}
use Rattle.commit_book.specs.Commits.{IsCommitted, IsCurrent, IsOver}
use Rattle.commit_book.specs.Leases.{LeaseView}
use Rattle.commit_book.specs.Limits.{commit_reserve}
use Rattle.commit_book.proofs.Threads.Waiting.{get_removed}
use Rattle.lone_worker.specs.Desk.{Desk, Seat, desk_of, seat_of}
use Rattle.schedule_drill.specs.declared.held.Held.{Held}
use Rattle.schedule_drill.specs.Alike.{AreAlike, AreOne, IsMadeBy, IsOneHeld, IsStillLent, origin_of}
use Rattle.schedule_drill.specs.Out.{Out}
use Rattle.schedule_drill.specs.Played.{IsCommit, Stand}
use Rattle.schedule_drill.specs.Text.{done_text, now_text}
use Rattle.schedule_drill.proofs.Desks.{desk_given, given_on}
use Rattle.schedule_drill.proofs.Jobs.{committed_job}
use Rattle.schedule_drill.proofs.OneStep.{stepped_origin}

-- ---- the lease isn't out any more

module _ (p q : ProgramParts) where
  one_taken : (k u : ℕ) (m n : Out) → AreOne p q (map.get m u) (map.get n u) → AreOne p q (map.get (map.remove m k) u) (map.get (map.remove n k) u)
  one_taken k u m n are = subst₂ (AreOne p q) (sym (get_removed m k u)) (sym (get_removed n k u)) (at (nat_eq u k))
    where
      at : (b : Bool) → AreOne p q (cond b None (map.get m u)) (cond b None (map.get n u))
      at true = tt
      at false = are

-- the same leases are out, and one less
pub alike_less : (a b x y : Stand) (k : ℕ) → AreAlike a b → desk_of x.book ≡ desk_of y.book → x.book.job ≡ a.book.job → y.book.job ≡ b.book.job → x.out ≡ map.remove a.out k → y.out ≡ map.remove b.out k → AreAlike x y
alike_less a b x y k alike desk job_x job_y out_x out_y = record {
  desk = desk;
  out = λ u. subst₂ (λ (p q : ProgramParts). AreOne p q (map.get x.out u) (map.get y.out u)) (sym (ap (λ (j : JobParts). j.program) job_x)) (sym (ap (λ (j : JobParts). j.program) job_y))
      (subst₂ (λ (m n : Out). AreOne a.book.job.program b.book.job.program (map.get m u) (map.get n u)) (sym out_x) (sym out_y)
      (one_taken a.book.job.program b.book.job.program k u a.out b.out (alike.out u)));
}

-- ---- the generation of a thread, by its seat

abbrev generation_in : Option Seat → Option ℕ
generation_in o = option_map (λ (s : Seat). s.generation) o

by_seat : (p : ProgramParts) (o : Option (Slot ControlView)) → option_map (λ (slot : Slot ControlView). slot.generation) o ≡ generation_in (option_map (seat_of p) o)
by_seat p None = refl
by_seat p (Some slot) = refl

one_generation : (a b : BookView) → desk_of a ≡ desk_of b → (t : ℕ) → option_map (λ (slot : Slot ControlView). slot.generation) (map.get a.threads t) ≡ option_map (λ (slot : Slot ControlView). slot.generation) (map.get b.threads t)
one_generation a b same t = by_seat a.job.program (map.get a.threads t) ∙ ap (λ (d : Desk). generation_in (d.threads t)) same ∙ sym (by_seat b.job.program (map.get b.threads t))

-- a lease is current where the generation is its own: the control is so then too
is_current : (h : Held) (origin : ControlView) → origin ≡ origin_of h.at → (o : Option (Slot ControlView)) → IfSome o (IsStillLent h) → option_map (λ (slot : Slot ControlView). slot.generation) o ≡ Some h.lease.generation
    → IsSomeAnd o (λ slot. (slot.generation ≡ h.lease.generation) × (slot.control ≡ origin))
is_current h origin same None still now = absurd (some_none (sym now))
is_current h origin same (Some slot) still now = (some_is now, (still (some_is now)).1 ∙ sym same)

of_current : (h : Held) (origin : ControlView) (o : Option (Slot ControlView)) → IsSomeAnd o (λ slot. (slot.generation ≡ h.lease.generation) × (slot.control ≡ origin)) → option_map (λ (slot : Slot ControlView). slot.generation) o ≡ Some h.lease.generation
of_current h origin None is = absurd is
of_current h origin (Some slot) is = ap Some is.0

-- one lease is current where the other is
one_current : (a b : BookView) (h i : Held) (f g : ProgressView) → desk_of a ≡ desk_of b → h.lease ≡ i.lease → IfSome (map.get b.threads i.lease.thread) (IsStillLent i) → g.origin ≡ origin_of i.at → IsCurrent a.threads h.lease f.origin → IsCurrent b.threads i.lease g.origin
one_current a b h i f g same lease still origin is =
    is_current i g.origin origin (map.get b.threads i.lease.thread) still
    (sym (one_generation a b same i.lease.thread) ∙ ap (λ (l : LeaseView). option_map (λ (slot : Slot ControlView). slot.generation) (map.get a.threads l.thread)) (sym lease) ∙ of_current h f.origin (map.get a.threads h.lease.thread) is ∙ ap (λ (l : LeaseView). Some l.generation) lease)

one_over : (a b : BookView) → desk_of a ≡ desk_of b → IsOver a → IsOver b
one_over a b same = subst₂ (λ (j : JobParts) w. j.fuel + commit_reserve ≤ w) (ap (λ (d : Desk). d.job) same) (ap (λ (d : Desk). weight_of d.events) same)

-- what a thread has now
told_now : (m n : Option Generation) → option_map (λ (g : Generation). g.0) m ≡ option_map (λ (g : Generation). g.0) n → now_text m ≡ now_text n
told_now None None is = refl
told_now (Some g) (Some h) is = ap decimal (some_is is)
told_now None (Some h) is = absurd (some_none (sym is))
told_now (Some g) None is = absurd (some_none is)

-- ---- either way

module _ (a b x y : Stand) (k : ℕ) (s t : List ℕ) (h i : Held) (alike : AreAlike a b) (still_a : IfSome (map.get a.book.threads h.lease.thread) (IsStillLent h)) (still_b : IfSome (map.get b.book.threads i.lease.thread) (IsStillLent i))
    (one : IsOneHeld a.book.job.program b.book.job.program h i) (ca : IsCommit a x k s h) (cb : IsCommit b y k t i) where
  there : IsCurrent a.book.threads h.lease ca.progress.origin → IsCurrent b.book.threads i.lease cb.progress.origin
  there = one_current a.book b.book h i ca.progress cb.progress alike.desk one.lease still_b (stepped_origin b.book.job i.at cb.progress cb.stepped)

  here : IsCurrent b.book.threads i.lease cb.progress.origin → IsCurrent a.book.threads h.lease ca.progress.origin
  here = one_current b.book a.book i h cb.progress ca.progress (sym alike.desk) (sym one.lease) still_a (stepped_origin a.book.job h.at ca.progress ca.stepped)

  same : desk_of x.book ≡ desk_of y.book → s ≡ t → (IsMadeBy a x s h × IsMadeBy b y t i) ⊎ ((s ≡ t) × AreAlike x y)
  same desk told = inr (told, alike_less a b x y k alike desk (committed_job a.book x.book h.lease ca.progress ca.done ca.committed) (committed_job b.book y.book i.lease cb.progress cb.done cb.committed) ca.out cb.out)

  late : (l : Generation) (w : Option Generation) (v : Generation) (z : Option Generation) → IsCommitted a.book x.book h.lease ca.progress (Stale l w) → IsCommitted b.book y.book i.lease cb.progress (Stale v z) → s ≡ done_text (Stale l w) → t ≡ done_text (Stale v z) → (IsMadeBy a x s h × IsMadeBy b y t i) ⊎ ((s ≡ t) × AreAlike x y)
  late l w v z ia ib told_a told_b =
      let lent : l.0 ≡ v.0 = ia.1.of_lease ∙ ap (λ (m : LeaseView). m.generation) one.lease ∙ sym ib.1.of_lease in
      let now : now_text w ≡ now_text z = told_now w z (ia.1.of_thread ∙ one_generation a.book b.book alike.desk h.lease.thread ∙ ap (λ (m : LeaseView). option_map (λ (slot : Slot ControlView). slot.generation) (map.get b.book.threads m.thread)) one.lease ∙ sym ib.1.of_thread) in
      same (ap desk_of ia.1.counted_once ∙ alike.desk ∙ sym (ap desk_of ib.1.counted_once))
      (told_a ∙ (λ k. codes "stale " ++ decimal (lent k) ++ codes " now " ++ now k) ∙ sym told_b)

  over : (w z : ℕ) → IsCommitted a.book x.book h.lease ca.progress (Over w) → IsCommitted b.book y.book i.lease cb.progress (Over z) → s ≡ done_text (Over w) → t ≡ done_text (Over z) → (IsMadeBy a x s h × IsMadeBy b y t i) ⊎ ((s ≡ t) × AreAlike x y)
  over w z ia ib told_a told_b =
      let weight : w ≡ z = ia.2 ∙ ap (λ (d : Desk). weight_of d.events) alike.desk ∙ sym ib.2 in
      same (ap desk_of ia.3 ∙ desk_given a.book h.lease ∙ (λ k. given_on (one.lease k) (alike.desk k)) ∙ sym (ap desk_of ib.3 ∙ desk_given b.book i.lease))
      (told_a ∙ ap (λ n. codes "over " ++ decimal n) weight ∙ sym told_b)

  by : (d e : Done) → IsCommitted a.book x.book h.lease ca.progress d → IsCommitted b.book y.book i.lease cb.progress e → s ≡ done_text d → t ≡ done_text e → (IsMadeBy a x s h × IsMadeBy b y t i) ⊎ ((s ≡ t) × AreAlike x y)
  by (Taken f n) (Taken g o) ia ib told_a told_b = inl (record { progress = ca.progress; done = Taken f n; stepped = ca.stepped; current = ia.0; made = ia.2; told = told_a }, record { progress = cb.progress; done = Taken g o; stepped = cb.stepped; current = ib.0; made = ib.2; told = told_b })
  by (Taken f n) (Parked g o) ia ib told_a told_b = inl (record { progress = ca.progress; done = Taken f n; stepped = ca.stepped; current = ia.0; made = ia.2; told = told_a }, record { progress = cb.progress; done = Parked g o; stepped = cb.stepped; current = ib.0; made = ib.2; told = told_b })
  by (Taken f n) (Undone g o p q ns) ia ib told_a told_b = inl (record { progress = ca.progress; done = Taken f n; stepped = ca.stepped; current = ia.0; made = ia.2; told = told_a }, record { progress = cb.progress; done = Undone g o p q ns; stepped = cb.stepped; current = ib.0; made = ib.2; told = told_b })
  by (Taken f n) (Stale v z) ia ib told_a told_b = absurd (ib.0 (there ia.0))
  by (Taken f n) (Over z) ia ib told_a told_b = absurd (ia.1 (one_over b.book a.book (sym alike.desk) ib.1))
  by (Parked f n) (Taken g o) ia ib told_a told_b = inl (record { progress = ca.progress; done = Parked f n; stepped = ca.stepped; current = ia.0; made = ia.2; told = told_a }, record { progress = cb.progress; done = Taken g o; stepped = cb.stepped; current = ib.0; made = ib.2; told = told_b })
  by (Parked f n) (Parked g o) ia ib told_a told_b = inl (record { progress = ca.progress; done = Parked f n; stepped = ca.stepped; current = ia.0; made = ia.2; told = told_a }, record { progress = cb.progress; done = Parked g o; stepped = cb.stepped; current = ib.0; made = ib.2; told = told_b })
  by (Parked f n) (Undone g o p q ns) ia ib told_a told_b = inl (record { progress = ca.progress; done = Parked f n; stepped = ca.stepped; current = ia.0; made = ia.2; told = told_a }, record { progress = cb.progress; done = Undone g o p q ns; stepped = cb.stepped; current = ib.0; made = ib.2; told = told_b })
  by (Parked f n) (Stale v z) ia ib told_a told_b = absurd (ib.0 (there ia.0))
  by (Parked f n) (Over z) ia ib told_a told_b = absurd (ia.1 (one_over b.book a.book (sym alike.desk) ib.1))
  by (Undone f n m r ms) (Taken g o) ia ib told_a told_b = inl (record { progress = ca.progress; done = Undone f n m r ms; stepped = ca.stepped; current = ia.0; made = ia.2; told = told_a }, record { progress = cb.progress; done = Taken g o; stepped = cb.stepped; current = ib.0; made = ib.2; told = told_b })
  by (Undone f n m r ms) (Parked g o) ia ib told_a told_b = inl (record { progress = ca.progress; done = Undone f n m r ms; stepped = ca.stepped; current = ia.0; made = ia.2; told = told_a }, record { progress = cb.progress; done = Parked g o; stepped = cb.stepped; current = ib.0; made = ib.2; told = told_b })
  by (Undone f n m r ms) (Undone g o p q ns) ia ib told_a told_b = inl (record { progress = ca.progress; done = Undone f n m r ms; stepped = ca.stepped; current = ia.0; made = ia.2; told = told_a }, record { progress = cb.progress; done = Undone g o p q ns; stepped = cb.stepped; current = ib.0; made = ib.2; told = told_b })
  by (Undone f n m r ms) (Stale v z) ia ib told_a told_b = absurd (ib.0 (there ia.0))
  by (Undone f n m r ms) (Over z) ia ib told_a told_b = absurd (ia.1 (one_over b.book a.book (sym alike.desk) ib.1))
  by (Stale l w) (Taken g o) ia ib told_a told_b = absurd (ia.0 (here ib.0))
  by (Stale l w) (Parked g o) ia ib told_a told_b = absurd (ia.0 (here ib.0))
  by (Stale l w) (Undone g o p q ns) ia ib told_a told_b = absurd (ia.0 (here ib.0))
  by (Stale l w) (Stale v z) ia ib told_a told_b = late l w v z ia ib told_a told_b
  by (Stale l w) (Over z) ia ib told_a told_b = absurd (ia.0 (here ib.0))
  by (Over w) (Taken g o) ia ib told_a told_b = absurd (ib.1 (one_over a.book b.book alike.desk ia.1))
  by (Over w) (Parked g o) ia ib told_a told_b = absurd (ib.1 (one_over a.book b.book alike.desk ia.1))
  by (Over w) (Undone g o p q ns) ia ib told_a told_b = absurd (ib.1 (one_over a.book b.book alike.desk ia.1))
  by (Over w) (Stale v z) ia ib told_a told_b = absurd (ib.0 (there ia.0))
  by (Over w) (Over z) ia ib told_a told_b = over w z ia ib told_a told_b

  pub one_late : (IsMadeBy a x s h × IsMadeBy b y t i) ⊎ ((s ≡ t) × AreAlike x y)
  one_late = by ca.done cb.done ca.committed cb.committed ca.told cb.told
