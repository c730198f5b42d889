-- The law: what continues an image continues each history for which it stands.
use Rattle.std.proofs.Common.{◌≡◌, ℕ, suc, ◌+◌, ◌≤◌, ◌<◌, true, false, cond, List, [], ◌∷◌, ◌++◌, length, Option, Some, None, refl, sym, ap, subst, ◌∙◌, append_assoc, append-nil, arith}
use Rattle.std.specs.Prelude.{ℤ, IfSome, unwrap_or}
use Rattle.std.specs.FinMap as map
use Rattle.std.proofs.Math.ListN.{length-append}
use Rattle.stab_journal.specs.declared.event.Label.{Label}
use Rattle.stab_journal.specs.declared.event.Label.TheVariants.{Local, Spawn, NewChan, Comm, NewRef, Get, Set, Enter, Cut, Print, Probe, Refuse, Pin, Attempt}
use Rattle.stab_journal.specs.declared.event.What.{What}
use Rattle.stab_journal.specs.declared.event.What.TheVariants.{Step, Undo}
use Rattle.stab_journal.specs.declared.event.Event.{Event}
use Rattle.stab_journal.specs.declared.event.Numbered.{Numbered}
use Rattle.stab_journal.specs.Journal.{RiseFrom, step_at}
use Rattle.stab_journal.specs.Floor.{floor}
use Rattle.stab_journal.specs.Names.{has}
use Rattle.stab_journal.specs.Reached.{reached, without_reached}
use Rattle.stab_journal.specs.Generation.{puts_back, generation}
use Rattle.stab_journal.specs.Surviving.{after_events, run_of}
use Rattle.stab_code.specs.Program.{ProgramParts}
use Rattle.language.specs.Expression.{Expr}
use Rattle.language.specs.Steps.{after_steps}
use Rattle.language.specs.Plain.{PlainState, effect_of, start, plain_step, end_of, mark_in}
use Rattle.language.specs.Since.{MayUndoSince}
use Rattle.language.specs.Standing as history
use Rattle.language.specs.Standing.{StandsFor, MayStep, MayUndo, event}
use Rattle.journal_laws.proofs.Runs.{steps_append}
use Rattle.journal_laws.proofs.Undone.{stands_run}
use Rattle.stab_journal.specs.Numbers.{threads_by, greatest}
use Rattle.stab_journal.specs.Since.{is_mark_revocable_since, generation_since}
use Rattle.image_laws.specs.Image.{Image, AreGenerationsOf, StandsAt, generation_at, MayStepSince, Continues, nothing, step, undo, IsContinuedBy, IsHistoryTo}
use Rattle.image_laws.proofs.Behind.{AreUpTo, revocable_behind, mark_behind, above_cut, without_behind, acts_behind}
use Rattle.image_laws.proofs.Generations.{after_last, generation_last, never_back}
use Rattle.image_laws.proofs.Histories.{length_more, up_more, up_last, up_rest, rise_rest, rise_last, up_to, cut_floor}
use Rattle.image_laws.proofs.Threads.{IsFresh, AreFresh, fresh_last, fresh_rest, actor_there, new_after}
use Rattle.image_laws.proofs.Probing.{follows_on}

module _ (image : Image) (events : List Event) (front : List Numbered) where
  -- what the history of the cut says
  record IsBefore : Type 0 where
    stands : StandsFor image.program events front image.state
    floor : floor front ≡ image.seq
    seq : image.seq ≡ length events
    next : greatest threads_by events < image.next_thread
    generations : AreGenerationsOf image events

  -- the events since, behind the history of the cut
  record IsBehind (since : List Event) (run : List Numbered) (s : PlainState) : Type 0 where
    stands : StandsFor image.program (events ++ since) (front ++ run) s
    left : run ≡ after_events (suc image.seq) [] since
    rises : RiseFrom (suc image.seq) run
    within : AreUpTo (image.seq + length since) run
    ends : after_steps (effect_of image.program) (Some image.state) run ≡ Some s
    fresh : AreFresh image.next_thread run
    generations : (t : ℕ) → generation t (events ++ since) ≡ generation_since image.seq (generation t events) t since

  fresh_of : (since : List Event) (run : List Numbered) (s : PlainState) (l : Label) → MayStepSince image since run s l → IsFresh image.next_thread l
  fresh_of since run s (Spawn t u) may = may
  fresh_of since run s (Local t n) may = tt
  fresh_of since run s (NewChan t c) may = tt
  fresh_of since run s (Comm a b c) may = tt
  fresh_of since run s (NewRef t r) may = tt
  fresh_of since run s (Get t r) may = tt
  fresh_of since run s (Set t r) may = tt
  fresh_of since run s (Enter t) may = tt
  fresh_of since run s (Cut t) may = tt
  fresh_of since run s (Print t) may = tt
  fresh_of since run s (Probe t i) may = tt
  fresh_of since run s (Refuse t) may = tt
  fresh_of since run s (Pin t) may = tt
  fresh_of since run s (Attempt t g) may = tt

  module _ (before : IsBefore) where
    up_front : AreUpTo image.seq front
    up_front = subst (λ (b : ℕ). AreUpTo b front) (sym before.seq) (up_to image.program events front image.state before.stands)

    -- the image's generation of a thread that is there is the history's
    same_generation : (since : List Event) (run : List Numbered) (s : PlainState) (t : ℕ) (e : Expr) → IsBehind since run s → map.get s.threads t ≡ Some e → generation_at image t ≡ generation t events
    same_generation since run s t e b there =
        elim (map.get image.state.threads t) as (λ o. map.get image.state.threads t ≡ o → generation_at image t ≡ generation t events) [
          | (Some a) ↦ λ is. ap (λ g. unwrap_or g 0) (subst (λ (o : Option Expr). IfSome o (λ e. map.get image.generations t ≡ Some (generation t events))) is (before.generations.each t))
          | None ↦ λ is.
              let new : image.next_thread ≤ t = new_after (effect_of image.program) image.next_thread t run image.state s e b.ends b.fresh is there in
              ap (λ g. unwrap_or g 0) (before.generations.only t is) ∙ sym (never_back t events (omega (arith, before.next)))
        ] refl

    may_step : (since : List Event) (run : List Numbered) (s after : PlainState) (q : ℕ) (l : Label) → IsBehind since run s → plain_step image.program s q l ≡ Some after → MayStepSince image since run s l → MayStep (events ++ since) (front ++ run) s l
    may_step since run s after q (Refuse t) b is may = mark_behind image.seq (mark_in s t.0) front run up_front b.rises before.floor ∙ may
    may_step since run s after q (Attempt t g) b is may =
        elim (map.get s.threads t.0) as (λ o. map.get s.threads t.0 ≡ o → g ≡ generation t.0 (events ++ since)) [
          | None ↦ λ none. absurd (actor_there (effect_of image.program) s after q (Attempt t g) t.0 is (acts_itself t.0) none)
          | (Some e) ↦ λ there. may ∙ ap (λ k. generation_since image.seq k t.0 since) (same_generation since run s t.0 e b there) ∙ sym (b.generations t.0)
        ] refl
      where
        acts_itself : (t : ℕ) → has (t ∷ []) t ≡ true
        acts_itself t = ap (λ b. cond b true false) (Rattle.std.specs.Cmp.nat_eq_equiv.refl t)
    may_step since run s after q (Spawn t u) b is may = tt
    may_step since run s after q (Local t n) b is may = tt
    may_step since run s after q (NewChan t c) b is may = tt
    may_step since run s after q (Comm x y c) b is may = tt
    may_step since run s after q (NewRef t r) b is may = tt
    may_step since run s after q (Get t r) b is may = tt
    may_step since run s after q (Set t r) b is may = tt
    may_step since run s after q (Enter t) b is may = tt
    may_step since run s after q (Cut t) b is may = tt
    may_step since run s after q (Print t) b is may = tt
    may_step since run s after q (Probe t i) b is may = tt
    may_step since run s after q (Pin t) b is may = tt

    joined : (since : List Event) (e : Event) → (events ++ since) ++ e ∷ [] ≡ events ++ (since ++ e ∷ [])
    joined since e = append_assoc events since (e ∷ [])

    numbered : (since : List Event) → length (events ++ since) + 1 ≡ image.seq + length since + 1
    numbered since = omega (arith, length-append events since, before.seq)

    stepped : (since : List Event) (run : List Numbered) (s after : PlainState) (worker : ℕ) (l : Label) → IsBehind since run s → MayStepSince image since run s l
        → plain_step image.program s (image.seq + length since + 1) l ≡ Some after
        → IsBehind (since ++ event worker (Step l) ∷ []) (run ++ step_at (image.seq + length since + 1) (Step l)) after
    stepped since run s after worker l b may is =
        let e = event worker (Step l) in
        let q = image.seq + length since + 1 in
        let here : plain_step image.program s (length (events ++ since) + 1) l ≡ Some after = ap (λ k. plain_step image.program s k l) (numbered since) ∙ is in
        let whole : StandsFor image.program ((events ++ since) ++ e ∷ []) ((front ++ run) ++ step_at (length (events ++ since) + 1) (Step l)) after =
        history.step after worker l b.stands (may_step since run s after _ l b here may) here in
        let more = length_more since e in
        record {
          stands = subst (λ (es : List Event). StandsFor image.program es (front ++ (run ++ step_at q (Step l))) after) (joined since e)
              (subst (λ (r : List Numbered). StandsFor image.program ((events ++ since) ++ e ∷ []) r after)
              (append_assoc front run (step_at (length (events ++ since) + 1) (Step l)) ∙ ap (λ k. front ++ (run ++ step_at k (Step l))) (numbered since)) whole);
          left = ap (λ r. r ++ step_at q (Step l)) b.left ∙ ap (λ k. after_events (suc image.seq) [] since ++ step_at k (Step l)) (omega arith) ∙ sym (after_last (suc image.seq) [] since e);
          rises = rise_last (suc image.seq) (image.seq + length since) run _ b.rises b.within refl (omega arith);
          within = up_last _ run _ (up_more (image.seq + length since) _ run (omega (arith, more)) b.within) (omega (arith, more));
          ends = steps_append (effect_of image.program) run (step_at q (Step l)) (Some image.state) ∙ ap (λ o. after_steps (effect_of image.program) o (step_at q (Step l))) b.ends ∙ is;
          fresh = fresh_last image.next_thread run _ b.fresh (fresh_of since run s l may);
          generations = λ t. ap (generation t) (sym (joined since e)) ∙ generation_last t 1 [] (events ++ since) e 0 ∙ b.generations t ∙ sym (generation_last t (suc image.seq) [] since e (generation t events));
        }

    taken_back : (since : List Event) (run : List Numbered) (s after : PlainState) (worker t m : ℕ) → IsBehind since run s → MayUndoSince image.seq image.program run s t m
        → after_steps (effect_of image.program) (Some image.state) (without_reached m run) ≡ Some after
        → IsBehind (since ++ event worker (Undo (record { 0 = t }) (record { 0 = m })) ∷ []) (without_reached m run) after
    taken_back since run s after worker t m b may is =
        let w : What = Undo (record { 0 = t }) (record { 0 = m }) in
        let e = event worker w in
        let lt : image.seq < m = above_cut image.seq m run b.rises may.revocable in
        let rest_is : without_reached m (front ++ run) ≡ front ++ without_reached m run = without_behind image.seq m front run up_front b.rises lt in
        let at_cut : end_of image.program front ≡ Some image.state = (stands_run image.program events front image.state before.stands).1.ends in
        let ends : end_of image.program (without_reached m (front ++ run)) ≡ Some after =
        ap (end_of image.program) rest_is ∙ steps_append (effect_of image.program) front (without_reached m run) (Some (start image.program))
        ∙ ap (λ o. after_steps (effect_of image.program) o (without_reached m run)) at_cut ∙ is in
        let ok : MayUndo image.program (front ++ run) s t m =
        record { at = may.at; mark = may.mark; revocable = revocable_behind image.seq m front run up_front b.rises before.floor ∙ may.revocable } in
        let whole : StandsFor image.program ((events ++ since) ++ e ∷ []) (without_reached m (front ++ run)) after = history.undo after worker t m b.stands ok ends in
        let more = length_more since e in
        let all_run : run_of (events ++ since) ≡ front ++ run = sym (stands_run image.program (events ++ since) (front ++ run) s b.stands).0 in
        let back : (u : ℕ) → puts_back u w (run_of (events ++ since)) ≡ puts_back u w (after_events (suc image.seq) [] since) =
        λ u. ap (puts_back u w) all_run ∙ acts_behind image.seq m front run up_front b.rises lt u ∙ ap (puts_back u w) b.left in
        record {
          stands = subst (λ (es : List Event). StandsFor image.program es (front ++ without_reached m run) after) (joined since e)
              (subst (λ (r : List Numbered). StandsFor image.program ((events ++ since) ++ e ∷ []) r after) rest_is whole);
          left = ap (without_reached m) b.left ∙ sym (after_last (suc image.seq) [] since e);
          rises = rise_rest (has (reached run m)) (suc image.seq) run b.rises;
          within = up_more (image.seq + length since) _ (without_reached m run) (omega (arith, more)) (up_rest (has (reached run m)) _ run b.within);
          ends = is;
          fresh = fresh_rest image.next_thread (has (reached run m)) run b.fresh;
          generations = λ u. ap (generation u) (sym (joined since e)) ∙ generation_last u 1 [] (events ++ since) e 0
              ∙ ap (λ c. cond c (suc (generation u (events ++ since))) (generation u (events ++ since))) (back u)
              ∙ ap (λ g. cond (puts_back u w (after_events (suc image.seq) [] since)) (suc g) g) (b.generations u)
              ∙ sym (generation_last u (suc image.seq) [] since e (generation u events));
        }

    behind : (since : List Event) (run : List Numbered) (s : PlainState) → Continues image since run s → IsBehind since run s
    behind _ _ _ nothing = record {
      stands = subst (λ (es : List Event). StandsFor image.program es (front ++ []) image.state) (sym (append-nil events))
          (subst (λ (r : List Numbered). StandsFor image.program events r image.state) (sym (append-nil front)) before.stands);
      left = refl;
      rises = tt;
      within = tt;
      ends = refl;
      fresh = tt;
      generations = λ t. ap (generation t) (append-nil events);
    }
    behind _ _ _ (step {events = since} {run = run} {before = s} after worker l more may is) = stepped since run s after worker l (behind since run s more) may is
    behind _ _ _ (undo {events = since} {run = run} {before = s} after worker t m more may is) = taken_back since run s after worker t m (behind since run s more) may is

-- an image stands for a history of a program and a script, and events continue it: the history and these events are a history with the same end
pub continued : (p : ProgramParts) (script : List ℤ) (events since : List Event) (image : Image) (s : PlainState) → StandsAt p script events image → IsContinuedBy image since s → IsHistoryTo p script (events ++ since) s
continued p script events since image s at on =
    let before : IsBefore image events at.run = record {
      stands = subst (λ (q : ProgramParts). StandsFor q events at.run image.state) (sym at.program_is) at.stands;
      floor = cut_floor p events at.run image.state at.stands at.before at.worker at.thread at.cut ∙ sym at.seq;
      seq = at.seq;
      next = omega (arith, at.next.thread);
      generations = at.generations;
    } in
    let b = behind image events at.run before since on.run s on.continues in
    record {
      run = at.run ++ on.run;
      stands = subst (λ (q : ProgramParts). StandsFor q (events ++ since) (at.run ++ on.run) s) at.program_is b.stands;
      follows = follows_on script image.used events since at.used at.follows
          (subst (λ (x : List ℤ). Rattle.stab_journal.specs.Since.FollowsSince x image.used since) at.script_is on.follows);
    }
