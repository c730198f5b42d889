-- At alike stands the same comes of a commit.
use Rattle.std.proofs.Common.{◌≡◌, ◌⊎◌, inl, inr, ℕ, List, Option, Some, None, refl, sym, ap, ◌∙◌}
use Rattle.std.specs.Prelude.{IfSome, IsSomeAnd}
use Rattle.std.specs.FinMap as map
use Rattle.thread_slots.specs.Slot.{Slot}
use Rattle.step_eval.specs.ControlView.{ControlView}
use Rattle.commit_book.specs.Book.{IsShown}
use Rattle.commit_book.specs.Commits.{row_at}
use Rattle.lone_worker.specs.Desk.{Desk, desk_of}
use Rattle.lone_worker.specs.Turn.{IsHeldAs}
use Rattle.lone_worker.proofs.Ending.{Moved, TookBack, left_by}
use Rattle.schedule_drill.specs.declared.held.Held.{Held}
use Rattle.schedule_drill.specs.Alike.{AreAlike, IsHeldTruly, IsMadeBy, IsOneHeld, IsStillLent}
use Rattle.schedule_drill.specs.Played.{IsCommit, Stand}
use Rattle.schedule_drill.proofs.Jobs.{committed_job}
use Rattle.schedule_drill.proofs.OneAnswer as answer
use Rattle.schedule_drill.proofs.OneCommit.{alike_less, one_late}
use Rattle.schedule_drill.proofs.OneLease.{IsSame}
use Rattle.schedule_drill.proofs.OneMoved.{IsGone, both_moved}
use Rattle.schedule_drill.proofs.OneStep.{AreStepped, one_stepped}
use Rattle.schedule_drill.proofs.OneUndone.{one_undone}
use Rattle.schedule_drill.proofs.Truth.{stepped_made}

-- the thread of a lease that is current is lent
held_of : (h : Held) (origin : ControlView) (o : Option (Slot ControlView)) → IsSomeAnd o (λ slot. (slot.generation ≡ h.lease.generation) × (slot.control ≡ origin)) → IfSome o (IsStillLent h) → IsSomeAnd o (IsHeldAs h.lease origin)
held_of h origin None current still = current
held_of h origin (Some slot) current still = record { generation = current.0; control = current.1; state = (still current.0).0 }

gone_of : (a x : Stand) (s : List ℕ) (h : Held) → IsShown a.book → IsShown x.book → IsHeldTruly a.book h → (made : IsMadeBy a x s h) → Moved a.book x.book h.lease made.progress → IsGone a.book x.book h.lease made.progress
gone_of a x s h shown shown_new is made m = record {
  shown = shown;
  shown_new = shown_new;
  held = held_of h made.progress.origin (map.get a.book.threads h.lease.thread) made.current is.still;
  advances = stepped_made a.book.job h.at made.progress is.made made.stepped;
  moved = m.moved;
  undoes_nothing = m.undoes_nothing;
}

module _ (a b x y : Stand) (s t : List ℕ) (h i : Held) (alike : AreAlike a b) (shown_a : IsShown a.book) (shown_b : IsShown b.book) (one : IsOneHeld a.book.job.program b.book.job.program h i) (made_a : IsMadeBy a x s h) (made_b : IsMadeBy b y t i) where
  steps : AreStepped a.book.job.program b.book.job.program h.at i.at made_a.progress made_b.progress
  steps = one_stepped a.book.job b.book.job (ap (λ (d : Desk). d.job) alike.desk) h.at i.at made_a.progress made_b.progress one.at made_a.stepped made_b.stepped

  row : row_at a.book h.lease made_a.progress ≡ row_at b.book i.lease made_b.progress
  row = answer.row a.book b.book h.lease i.lease made_a.progress made_b.progress alike.desk shown_a shown_b one.lease steps.place.0 steps.place.1

  pub made_told : s ≡ t
  made_told =
      made_a.told
      ∙ answer.one_answer a.book b.book h.lease i.lease made_a.progress made_b.progress alike.desk shown_a shown_b one.lease steps.place.0 steps.place.1 made_a.done made_b.done made_a.made.answer made_b.made.answer
      ∙ sym made_b.told

  module _ (shown_x : IsShown x.book) (shown_y : IsShown y.book) (true_a : IsHeldTruly a.book h) (true_b : IsHeldTruly b.book i) where
    pub made_desk : desk_of x.book ≡ desk_of y.book
    made_desk =
        by (left_by a.book x.book h.lease made_a.progress (row_at a.book h.lease made_a.progress) refl made_a.made.left) (left_by b.book y.book i.lease made_b.progress (row_at b.book i.lease made_b.progress) refl made_b.made.left)
      where
        by : Moved a.book x.book h.lease made_a.progress ⊎ TookBack a.book x.book h.lease made_a.progress → Moved b.book y.book i.lease made_b.progress ⊎ TookBack b.book y.book i.lease made_b.progress → desk_of x.book ≡ desk_of y.book
        by (inl m) (inl n) =
            both_moved a.book b.book x.book y.book h.lease i.lease made_a.progress made_b.progress (gone_of a x s h shown_a shown_x true_a made_a m) (gone_of b y t i shown_b shown_y true_b made_b n)
            alike.desk one.lease steps.place.0 steps.place.1
        by (inl m) (inr took) = absurd (m.undoes_nothing took.section (row ∙ took.row))
        by (inr took) _ =
            one_undone a.book b.book x.book y.book h.lease i.lease made_a.progress made_b.progress took.section shown_a shown_b shown_x shown_y
            alike.desk one.lease steps.place.0 steps.place.1 took.row made_a.made.left made_b.made.left

-- ---- made or not

module _ (a b x y : Stand) (k : ℕ) (s t : List ℕ) (h i : Held) (alike : AreAlike a b) (shown_a : IsShown a.book) (shown_b : IsShown b.book) (shown_x : IsShown x.book) (shown_y : IsShown y.book)
    (true_a : IsHeldTruly a.book h) (true_b : IsHeldTruly b.book i) (one : IsOneHeld a.book.job.program b.book.job.program h i) (ca : IsCommit a x k s h) (cb : IsCommit b y k t i) where
  pub one_commit : IsSame x y s t
  one_commit = by (one_late a b x y k s t h i alike true_a.still true_b.still one ca cb)
    where
      by : (IsMadeBy a x s h × IsMadeBy b y t i) ⊎ ((s ≡ t) × AreAlike x y) → IsSame x y s t
      by (inl made) = record {
        told = made_told a b x y s t h i alike shown_a shown_b one made.0 made.1;
        alike = alike_less a b x y k alike (made_desk a b x y s t h i alike shown_a shown_b one made.0 made.1 shown_x shown_y true_a true_b)
            (committed_job a.book x.book h.lease ca.progress ca.done ca.committed) (committed_job b.book y.book i.lease cb.progress cb.done cb.committed) ca.out cb.out;
      }
      by (inr same) = record { told = same.0; alike = same.1 }
