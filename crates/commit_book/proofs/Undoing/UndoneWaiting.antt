-- On a channel whose making an undo takes away nobody waits, once the touched threads have withdrawn.
use Rattle.std.proofs.Common.{◌≡◌, ℕ, Bool, true, cond, not, ◌&&◌, ◌||◌, List, [], ◌∷◌, ◌++◌, Some, None, refl, ap, ◌∙◌}
use Rattle.std.specs.Prelude.{option_map}
use Rattle.std.specs.Ordering.{nat_cmp}
use Rattle.std.specs.FinMap as map
use Rattle.std.specs.FinMap.{FinMap}
use Rattle.std.specs.FinSet as set
use Rattle.std.proofs.Math.Bool.{and-false}
use Rattle.stab_code.specs.Program.{ProgramParts}
use Rattle.stab_journal.specs.declared.event.Numbered.{Numbered}
use Rattle.stab_journal.specs.Floor.{is_revocable}
use Rattle.stab_journal.specs.Names.{has, is_at, made}
use Rattle.stab_journal.specs.Reached.{nothing_lost, reached}
use Rattle.thread_slots.specs.Slot.{Slot}
use Rattle.rendezvous.specs.Line.{Seen, nobody}
use Rattle.language.specs.Plain.{PlainState, IsRun, effect_of, start}
use Rattle.reach_line.specs.Reached as marks
use Rattle.restore.specs.Line.{IsLineOf}
use Rattle.restore.specs.Left.{LineMap, is_touched, put_back, without_all}
use Rattle.step_eval.specs.ControlView.{ControlView, expr_of}
use Rattle.journal_laws.specs.Lost.{is_unmade}
use Rattle.journal_laws.specs.Surviving.{Survives}
use Rattle.journal_laws.proofs.Chains.{or_right, upward}
use Rattle.journal_laws.proofs.Reaching.{reached_by}
use Rattle.journal_laws.proofs.Runs.{survivor}
use Rattle.commit_book.specs.Book.{BookView, ShowsRun, offered}
use Rattle.commit_book.specs.Offers.{AreOffers}
use Rattle.commit_book.specs.Saved.{saved_of}
use Rattle.commit_book.specs.Threads.{AreThreads}
use Rattle.commit_book.proofs.Undoing.Undone.{threads_undone}
use Rattle.commit_book.proofs.Undoing.UndoneBook.{touched_waits, untouched_stays}
use Rattle.commit_book.proofs.Undoing.UndoneKnown.{carried_out, first_of_thread}
use Rattle.commit_book.proofs.Undoing.UndoneOffers.{offers_withdrawn, nobody_left}
use Rattle.commit_book.proofs.Undoing.UndoneThreads.{restored_undone}

-- a lost step made the channel
pub unmade_by : (gone : ℕ → Bool) (c : ℕ) (before : List Numbered) (n : Numbered) (after : List Numbered) → gone n.seq.0 ≡ true → is_at (made n.label) c ≡ true → is_unmade gone c (before ++ n ∷ after) ≡ true
unmade_by gone c [] n after lost at = ap (λ b. (b && is_at (made n.label) c) || is_unmade gone c after) lost ∙ ap (λ b. b || is_unmade gone c after) at
unmade_by gone c (k ∷ before) n after lost at = or_right (gone k.seq.0 && is_at (made k.label) c) (is_unmade gone c (before ++ n ∷ after)) (unmade_by gone c before n after lost at)

module _ (old : BookView) (run : List Numbered) (s : PlainState) (shown : ShowsRun old run s) (r : IsRun old.job.program run s) (m : ℕ) (revocable : is_revocable run m ≡ true) (qs : List ℕ) (reach : marks.AreReached old.nodes m qs)
    (lines : LineMap) (are : (t : ℕ) → IsLineOf old.nodes qs t (map.get lines t)) (now : FinMap nat_cmp (Slot ControlView)) (put : (t : ℕ) → map.get now t ≡ put_back (λ q. saved_of old.saved q t) (map.get lines t) (map.get old.threads t)) where
  abbrev p : ProgramParts
  p = old.job.program

  abbrev gone : ℕ → Bool
  gone = has (reached run m)

  law : Survives old.job.program (has (reached run m)) run s
  law = survivor p gone run s (upward m gone nothing_lost run (reached_by m gone run nothing_lost 1 r.rises (λ k le. refl))) r

  threads : AreThreads (expr_of old.job.program) now law.at
  threads =
      threads_undone (expr_of p) (effect_of p) gone (start p) s law.at run old.saved old.threads now 1 r.rises law.lawful law.unspawned
      (λ u before n after cut miss lost acts. let f = first_of_thread old run s shown r m revocable u before n after cut miss lost acts in (f.saved, f.above))
      shown.threads.threads shown.journal.saved
      (restored_undone gone run old.saved old.threads now (expr_of p) (effect_of p) (carried_out old run s shown r m revocable qs reach lines are now put))

  module _ (between : Seen) (waiting : (c : ℕ) → map.get between.lines c ≡ option_map (without_all (is_touched lines)) (map.get old.offers.lines c)) (withdrawn : (t : ℕ) → map.get between.offers t ≡ cond (is_touched lines t) None (map.get old.offers.offers t)) where
    offers_now : AreOffers (offered old.job.program) now between
    offers_now = offers_withdrawn (is_touched lines) (offered p) old.threads now old.offers between
        (record {
          lines = waiting;
          offers = withdrawn;
          gone = λ u touched. touched_waits (offered p) (λ q. saved_of old.saved q u) (map.get lines u) (map.get old.threads u) (map.get now u) (put u) touched;
          stay = λ u miss. untouched_stays (offered p) (λ q. saved_of old.saved q u) (map.get lines u) (map.get old.threads u) (map.get now u) (put u) miss;
        }) shown.threads.offers

    pub nobody_waits : (c : ℕ) → is_unmade (has (reached run m)) c run ≡ true → map.contains_key between.lines c ≡ true → map.get between.lines c ≡ Some nobody
    nobody_waits c lost there =
        nobody_left p (expr_of p) c law.at now between law.known threads offers_now
        (law.lawful.channels c ∙ ap (λ b. set.contains s.channels c && not b) lost ∙ and-false (set.contains s.channels c)) there
