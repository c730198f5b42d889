-- A replay that goes on by an event.
use Rattle.std.proofs.Common.{◌≡◌, ℕ, ℤ, suc, true, ◌+◌, ◌<◌, ◌≤◌, cond, List, [], ◌∷◌, ◌++◌, length, refl, sym, ap, subst, ◌∙◌, arith, length-append, append-nil}
use Rattle.std.specs.Prelude.{Option, Some, None, IsSome, Ok}
use Rattle.std.specs.List.{list_any}
use Rattle.stab_base.specs.declared.numbers.Seq.{Seq}
use Rattle.stab_base.specs.declared.numbers.ThreadId.{ThreadId}
use Rattle.stab_code.specs.Program.{ProgramParts}
use Rattle.stab_journal.specs.declared.event.Event.{Event}
use Rattle.stab_journal.specs.declared.event.Label.{Label}
use Rattle.stab_journal.specs.declared.event.Label.TheVariants.{Probe}
use Rattle.stab_journal.specs.declared.event.Numbered.{Numbered}
use Rattle.stab_journal.specs.declared.event.What.TheVariants.{Step, Undo, Release}
use Rattle.stab_journal.specs.Due.{final_prints, released}
use Rattle.stab_journal.specs.Generation.{acts_in, generation}
use Rattle.stab_journal.specs.Journal.{step_at}
use Rattle.stab_journal.specs.Label.{actors}
use Rattle.stab_journal.specs.Names.{has}
use Rattle.stab_journal.specs.Reached.{reached, rest}
use Rattle.stab_journal.specs.Script.{FollowsScript, probed, probed_by}
use Rattle.stab_journal.specs.Since.{AreBelow, is_revocable_since}
use Rattle.stab_journal.specs.Surviving.{run_of}
use Rattle.language.specs.Plain.{end_of, plain_step, start}
use Rattle.language.specs.Since.{MayUndoSince}
use Rattle.language.specs.Standing.{MayStep, MayUndo, StandsFor, event, step, undo, release}
use Rattle.journal_laws.proofs.Undone.{stands_run}
use Rattle.trace_verify.specs.declared.generations.Generations.{Generations}
use Rattle.trace_verify.specs.declared.replay.Replay.{Replay}
use Rattle.trace_verify.specs.declared.surviving.Surviving.{Surviving}
use Rattle.trace_verify.specs.declared.verdict.Why.{Why}
use Rattle.trace_verify.specs.Generations.{AreBefore, times}
use Rattle.trace_verify.specs.Parts.{run_in}
use Rattle.trace_verify.specs.Replayed.{Follows, IsOfScript, IsReady, IsReplayed, Refuses}
use Rattle.trace_verify.specs.Surviving.{IsFromStart, IsKept, PlaysOn, TakesBack}
use Rattle.trace_verify.proofs.Events.{follows_probe, follows_same, generation_last, probed_last, released_last}
use Rattle.trace_verify.proofs.Parting.{all_rest}

below_more : (q : ℕ) (ns : List Numbered) → AreBelow q ns → AreBelow (q + 1) ns
below_more q [] h = tt
below_more q (n ∷ ns) h = (omega (arith, h.0), below_more q ns h.1)

below_last : (q : ℕ) (ns : List Numbered) (l : Label) → AreBelow q ns → AreBelow (q + 1) (ns ++ step_at q (Step l))
below_last q [] l h = (omega arith, tt)
below_last q (n ∷ ns) l h = (omega (arith, h.0), below_last q ns l h.1)

before_more : (q : ℕ) (g : Generations) → AreBefore q g → AreBefore (q + 1) g
before_more q g h t = ((h t).0, omega (arith, (h t).1))

next_number : (es : List Event) (q : ℕ) → length es + 1 ≡ q → q + 1 ≡ length es + 2
next_number es q is = omega (arith, is)

-- a step probes once at most
few_probes : (l : Label) → length (probed_by (Step l)) ≤ 1
few_probes (Probe t i) = omega arith
few_probes l = omega arith

follows_step : (script : List ℤ) (es : List Event) (w : ℕ) (l : Label) → IsOfScript script es l → FollowsScript script es → FollowsScript script (es ++ event w (Step l) ∷ [])
follows_step script es w (Probe t i) is h = follows_probe script es (event w (Step (Probe t i))) i refl is h
follows_step script es w l is h = follows_same script es (event w (Step l)) refl h

step_generation : (t : ℕ) (es : List Event) (w : ℕ) (l : Label) → generation t (es ++ event w (Step l) ∷ []) ≡ generation t es
step_generation t es w l = generation_last t es (event w (Step l))

-- a run from the start goes on
still : (old new : Surviving) → IsKept (start old.state.program) new → new.state.program ≡ old.state.program → new.parts.since ≡ 0 → IsFromStart new
still old new kept same since = record { kept = subst (λ p. IsKept (start p) new) (sym same) kept; since = since }

-- of a run from the start, behind no cut
pub may_undo : (s : Surviving) (t m : ℕ) → s.parts.since ≡ 0 → MayUndoSince s.parts.since s.state.program (run_in s.parts) s.state.state t m → MayUndo s.state.program (run_in s.parts) s.state.state t m
may_undo s t m since u = record { at = u.at; mark = u.mark; revocable = subst (λ q. is_revocable_since q (run_in s.parts) m ≡ true) since u.revocable }

pub may_undo_back : (s : Surviving) (t m : ℕ) → s.parts.since ≡ 0 → MayUndo s.state.program (run_in s.parts) s.state.state t m → MayUndoSince s.parts.since s.state.program (run_in s.parts) s.state.state t m
may_undo_back s t m since u = record { at = u.at; mark = u.mark; revocable = subst (λ q. is_revocable_since q (run_in s.parts) m ≡ true) (sym since) u.revocable }

module _ (p : ProgramParts) (script : List ℤ) (es : List Event) (old new : Replay) where
  -- where a replay stands after a step
  record IsStepped (q : ℕ) (l : Label) : Type 0 where
    kept : IsFromStart new.surviving
    program : new.surviving.state.program ≡ old.surviving.state.program
    run : run_in new.surviving.parts ≡ run_in old.surviving.parts ++ step_at q (Step l)
    made : plain_step old.surviving.state.program old.surviving.state.state q l ≡ Some new.surviving.state.state
    probes : new.probes ≡ old.probes + length (probed_by (Step l))
    released : new.released ≡ old.released
    generations : new.generations ≡ old.generations

  step_ready : (q : ℕ) (l : Label) → length es + 1 ≡ q → IsReady q old → IsStepped q l → IsReady (length es + 2) new
  step_ready q l number ready h = subst (λ k. IsReady k new) (next_number es q number) (record {
    kept = h.kept;
    below = subst (AreBelow (q + 1)) (sym h.run) (below_last q (run_in old.surviving.parts) l ready.below);
    before = subst (AreBefore (q + 1)) (sym h.generations) (before_more q old.generations ready.before);
    probes = omega (arith, h.probes, few_probes l, ready.probes);
  })

  step_replayed : (q : ℕ) (l : Label) → length es + 1 ≡ q → IsReplayed p script es old → IsOfScript script es l → MayStep es (run_in old.surviving.parts) old.surviving.state.state l → IsStepped q l
      → (w : ℕ) → IsReplayed p script (es ++ event w (Step l) ∷ []) new
  step_replayed q l number r of may h w = record {
    program = h.program ∙ r.program;
    stands = subst (λ run. StandsFor p (es ++ event w (Step l) ∷ []) run new.surviving.state.state) (ap (λ k. run_in old.surviving.parts ++ step_at k (Step l)) number ∙ sym h.run)
        (step new.surviving.state.state w l r.stands may
        (ap (λ k. plain_step p old.surviving.state.state k l) number ∙ ap (λ x. plain_step x old.surviving.state.state q l) (sym r.program) ∙ h.made));
    follows = follows_step script es w l of r.follows;
    probes = h.probes ∙ ap (λ k. k + length (probed_by (Step l))) r.probes ∙ sym (length-append (probed es) (probed_by (Step l))) ∙ ap length (sym (probed_last es (event w (Step l))));
    released = h.released ∙ r.released ∙ sym (released_last es (event w (Step l)));
    generations = λ t. ap (λ g. times g t) h.generations ∙ r.generations t ∙ sym (step_generation t es w l);
  }

  -- a step that the language has goes on, or is refused for what is wrong with it
  pub step_follows : (q : ℕ) (l : Label) (why : Option Why) → length es + 1 ≡ q → IsReplayed p script es old → IsReady q old → Refuses p script es old l why
      → PlaysOn (start old.surviving.state.program) old.surviving new.surviving q l (Ok tt) → new.probes ≡ old.probes + length (probed_by (Step l)) → new.released ≡ old.released → new.generations ≡ old.generations → Follows p script es old new (Step l) why
  step_follows q l None number r ready may plays probes released generations =
      let h : IsStepped q l = record { kept = still old.surviving new.surviving plays.0 plays.1 (plays.4 ∙ ready.kept.since); program = plays.1; run = plays.2; made = plays.3; probes = probes; released = released; generations = generations } in
      (step_ready q l number ready h, step_replayed q l number r may.0 may.1 h)
  step_follows q l (Some why) number r ready refuses plays probes released generations =
      refuses (subst IsSome (sym (ap (λ k. plain_step p old.surviving.state.state k l) number ∙ ap (λ x. plain_step x old.surviving.state.state q l) (sym r.program) ∙ plays.3)) refl)

  -- a section that is taken back
  pub undo_follows : (q : ℕ) (t : ThreadId) (m : Seq) (goes : List Numbered) → length es + 1 ≡ q → IsReplayed p script es old → IsReady q old
      → TakesBack (start old.surviving.state.program) old.surviving new.surviving t.0 m.0 (Some goes) → AreBefore (q + 1) new.generations
      → ((u : ℕ) → times new.generations u ≡ cond (list_any (λ (n : Numbered). has (actors n.label) u) goes) (suc (times old.generations u)) (times old.generations u))
      → new.probes ≡ old.probes → new.released ≡ old.released → Follows p script es old new (Undo t m) None
  undo_follows q t m goes number r ready takes before counts probes released = (
    subst (λ k. IsReady k new) (next_number es q number) (record {
      kept = still old.surviving new.surviving takes.0 takes.1 (takes.6 ∙ ready.kept.since);
      below = subst (AreBelow (q + 1)) (sym takes.3) (all_rest (λ n. n.seq.0 < q + 1) (has (reached (run_in old.surviving.parts) m.0)) (run_in old.surviving.parts) (below_more q (run_in old.surviving.parts) ready.below));
      before = before;
      probes = omega (arith, probes, ready.probes);
    }),
    λ w. record {
      program = takes.1 ∙ r.program;
      stands = subst (λ run. StandsFor p (es ++ event w (Undo t m) ∷ []) run new.surviving.state.state) (sym takes.3)
          (undo new.surviving.state.state w t.0 m.0 r.stands
          (subst (λ x. MayUndo x (run_in old.surviving.parts) old.surviving.state.state t.0 m.0) r.program (may_undo old.surviving t.0 m.0 ready.kept.since takes.2))
          (ap (λ x. end_of x (rest (has (reached (run_in old.surviving.parts) m.0)) (run_in old.surviving.parts))) (sym r.program) ∙ takes.4));
      follows = follows_same script es (event w (Undo t m)) refl r.follows;
      probes = probes ∙ r.probes ∙ ap length (sym (probed_last es (event w (Undo t m)) ∙ append-nil (probed es)));
      released = released ∙ r.released ∙ sym (released_last es (event w (Undo t m)));
      generations = λ u.
          counts u
          ∙ ap (λ b. cond b (suc (times old.generations u)) (times old.generations u)) (takes.5 u ∙ ap (λ run. acts_in (has (reached run m.0)) u run) (stands_run p es (run_in old.surviving.parts) old.surviving.state.state r.stands).0)
          ∙ ap (λ k. cond (acts_in (has (reached (run_of es) m.0)) u (run_of es)) (suc k) k) (r.generations u)
          ∙ sym (generation_last u es (event w (Undo t m)));
    },
  )

  -- a release that may come
  pub release_follows : (q k : ℕ) → length es + 1 ≡ q → IsReplayed p script es old → IsReady q old → k ≡ final_prints (run_in old.surviving.parts) → old.released < k
      → new.surviving ≡ old.surviving → new.generations ≡ old.generations → new.probes ≡ old.probes → new.released ≡ k → Follows p script es old new (Release k) None
  release_follows q k number r ready final more same generations probes released = (
    subst (λ x. IsReady x new) (next_number es q number) (record {
      kept = subst IsFromStart (sym same) ready.kept;
      below = subst (λ (s : Surviving). AreBelow (q + 1) (run_in s.parts)) (sym same) (below_more q (run_in old.surviving.parts) ready.below);
      before = subst (AreBefore (q + 1)) (sym generations) (before_more q old.generations ready.before);
      probes = omega (arith, probes, ready.probes);
    }),
    λ w. record {
      program = ap (λ (s : Surviving). s.state.program) same ∙ r.program;
      stands = subst (λ (s : Surviving). StandsFor p (es ++ event w (Release k) ∷ []) (run_in s.parts) s.state.state) (sym same)
          (release w k r.stands final (subst (λ x. x < k) r.released more));
      follows = follows_same script es (event w (Release k)) refl r.follows;
      probes = probes ∙ r.probes ∙ ap length (sym (probed_last es (event w (Release k)) ∙ append-nil (probed es)));
      released = released ∙ sym (released_last es (event w (Release k)));
      generations = λ u. ap (λ g. times g u) generations ∙ r.generations u ∙ sym (generation_last u es (event w (Release k)));
    },
  )
