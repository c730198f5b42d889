-- The probes that undos left of a history got the script's numbers at rising places.
use Rattle.std.proofs.Common.{◌≡◌, ℕ, zero, suc, ◌+◌, ◌≤◌, Bool, true, false, cond, List, [], ◌∷◌, ◌++◌, length, sym, ap, subst, ◌∙◌, append-nil, append_assoc, arith}
use Rattle.std.specs.Prelude.{ℤ, slice_get, IfSome}
use Rattle.std.proofs.Math.ListN.{length-append}
use Rattle.stab_journal.specs.declared.event.Label.{Label}
use Rattle.stab_journal.specs.declared.event.Label.TheVariants.{Probe}
use Rattle.stab_journal.specs.declared.event.What.TheVariants.{Step, Undo, Release}
use Rattle.stab_journal.specs.declared.event.Event.{Event}
use Rattle.stab_journal.specs.declared.event.Numbered.{Numbered}
use Rattle.stab_journal.specs.Journal.{step_at}
use Rattle.stab_journal.specs.Names.{has}
use Rattle.stab_journal.specs.Reached.{reached, rest}
use Rattle.stab_journal.specs.Script.{probed, probed_by, script_at, FollowsScript}
use Rattle.stab_code.specs.Program.{ProgramParts}
use Rattle.language.specs.Plain.{PlainState}
use Rattle.language.specs.Standing.{StandsFor, nothing, step, undo, release, event}
use Rattle.explore_laws.specs.Gaps.{probed_in, ArePicked}

module _ (script : List ℤ) where
  -- from an earlier place, up to a later one
  sooner : (u k v : ℕ) (xs : List ℤ) → k ≤ u → ArePicked script u v xs → ArePicked script k v xs
  sooner u k v [] le h = omega (arith, le, h)
  sooner u k v (x ∷ xs) le h = (h.0, omega (arith, le, h.1), h.2, h.3)

  later : (u v w : ℕ) (xs : List ℤ) → v ≤ w → ArePicked script u v xs → ArePicked script u w xs
  later u v w [] le h = omega (arith, le, h)
  later u v w (x ∷ xs) le h = (h.0, h.1, h.2, later (suc h.0) v w xs le h.3)

  -- one more at the end
  one_more : (u v : ℕ) (xs : List ℤ) (i : ℤ) → i ≡ script_at script v → ArePicked script u v xs → ArePicked script u (suc v) (xs ++ i ∷ [])
  one_more u v [] i is h = (v, h, is, omega arith)
  one_more u v (x ∷ xs) i is h = (h.0, h.1, h.2, one_more (suc h.0) v xs i is h.3)

  first_gone : (u v : ℕ) (xs ys : List ℤ) → ((k : ℕ) → ArePicked script k v xs → ArePicked script k v ys) → (ps : List ℤ) → ArePicked script u v (ps ++ xs) → ArePicked script u v ys
  first_gone u v xs ys f [] h = f u h
  first_gone u v xs ys f (p ∷ ps) h = sooner (suc h.0) u v ys (omega (arith, h.1)) (first_gone (suc h.0) v xs ys f ps h.3)

  first_stays : (u v : ℕ) (xs ys : List ℤ) → ((k : ℕ) → ArePicked script k v xs → ArePicked script k v ys) → (ps : List ℤ) → ArePicked script u v (ps ++ xs) → ArePicked script u v (ps ++ ys)
  first_stays u v xs ys f [] h = f u h
  first_stays u v xs ys f (p ∷ ps) h = (h.0, h.1, h.2, first_stays (suc h.0) v xs ys f ps h.3)

  -- some steps go
  fewer : (gone : ℕ → Bool) (v : ℕ) (ns : List Numbered) (u : ℕ) → ArePicked script u v (probed_in ns) → ArePicked script u v (probed_in (rest gone ns))
  fewer gone v [] u h = h
  fewer gone v (n ∷ ns) u h =
      elim (gone n.seq.0) as (λ b. ArePicked script u v (probed_in (cond b (rest gone ns) (n ∷ rest gone ns)))) [
        | true ↦ first_gone u v (probed_in ns) (probed_in (rest gone ns)) (fewer gone v ns) (probed_by (Step n.label)) h
        | false ↦ first_stays u v (probed_in ns) (probed_in (rest gone ns)) (fewer gone v ns) (probed_by (Step n.label)) h
      ]

  pub probed_more : (es : List Event) (e : Event) → probed (es ++ e ∷ []) ≡ probed es ++ probed_by e.what
  probed_more [] e = append-nil (probed_by e.what)
  probed_more (f ∷ es) e = ap (λ xs. probed_by f.what ++ xs) (probed_more es e) ∙ sym (append_assoc (probed_by f.what) (probed es) (probed_by e.what))

  run_more : (ns : List Numbered) (q : ℕ) (l : Label) → probed_in (ns ++ step_at q (Step l)) ≡ probed_in ns ++ probed_by (Step l)
  run_more [] q l = append-nil (probed_by (Step l))
  run_more (n ∷ ns) q l = ap (λ xs. probed_by (Step n.label) ++ xs) (run_more ns q l) ∙ sym (append_assoc (probed_by (Step n.label)) (probed_in ns) (probed_by (Step l)))

  -- the numbers before, and the last one
  pub front_follows : (xs ys : List ℤ) → ((i : ℕ) → IfSome (slice_get (xs ++ ys) i) (λ n. n ≡ script_at script i)) → (i : ℕ) → IfSome (slice_get xs i) (λ n. n ≡ script_at script i)
  front_follows xs ys f i = front_at xs ys i i (f i)
    where
      front_at : (xs ys : List ℤ) (i k : ℕ) → IfSome (slice_get (xs ++ ys) i) (λ n. n ≡ script_at script k) → IfSome (slice_get xs i) (λ n. n ≡ script_at script k)
      front_at [] ys i k h = tt
      front_at (x ∷ xs) ys zero k h = h
      front_at (x ∷ xs) ys (suc i) k h = front_at xs ys i k h

  pub last_follows : (xs : List ℤ) (y : ℤ) → ((i : ℕ) → IfSome (slice_get (xs ++ y ∷ []) i) (λ n. n ≡ script_at script i)) → y ≡ script_at script (length xs)
  last_follows xs y f = last_at xs (length xs) (f (length xs))
    where
      last_at : (xs : List ℤ) (k : ℕ) → IfSome (slice_get (xs ++ y ∷ []) (length xs)) (λ n. n ≡ script_at script k) → y ≡ script_at script k
      last_at [] k h = h
      last_at (x ∷ xs) k h = last_at xs k h

  -- what one event adds to both
  by_event : (xs : List ℤ) (ps : List ℤ) (l : Label) → ((i : ℕ) → IfSome (slice_get (ps ++ probed_by (Step l)) i) (λ n. n ≡ script_at script i)) → ArePicked script 0 (length ps) xs
      → ArePicked script 0 (length (ps ++ probed_by (Step l))) (xs ++ probed_by (Step l))
  by_event xs ps (Probe t i) f h =
      subst (λ v. ArePicked script 0 v (xs ++ i ∷ [])) (sym (length-append ps (i ∷ []) ∙ (omega arith))) (one_more 0 (length ps) xs i (last_follows ps i f) h)
  by_event xs ps _ f h = subst (λ ys. ArePicked script 0 (length (ps ++ [])) ys) (sym (append-nil xs)) (subst (λ qs. ArePicked script 0 (length qs) xs) (sym (append-nil ps)) h)

  module _ (p : ProgramParts) where
    pub gaps : (events : List Event) (run : List Numbered) (s : PlainState) → StandsFor p events run s → FollowsScript script events → ArePicked script 0 (length (probed events)) (probed_in run)
    gaps _ _ _ nothing f = omega arith
    gaps _ _ _ (step {events = es} {run = run} {before = before} after worker label stands may is) f =
        let all : (i : ℕ) → IfSome (slice_get (probed es ++ probed_by (Step label)) i) (λ n. n ≡ script_at script i) = subst (λ xs. (i : ℕ) → IfSome (slice_get xs i) (λ n. n ≡ script_at script i)) (probed_more es (event worker (Step label))) f in
        let h = gaps es run before stands (front_follows (probed es) (probed_by (Step label)) all) in
        subst (λ xs. ArePicked script 0 (length (probed (es ++ event worker (Step label) ∷ []))) xs) (sym (run_more run (length es + 1) label))
        (subst (λ xs. ArePicked script 0 (length xs) (probed_in run ++ probed_by (Step label))) (sym (probed_more es (event worker (Step label)))) (by_event (probed_in run) (probed es) label all h))
    gaps _ _ _ (undo {events = es} {run = run} {before = before} after worker t m stands may is) f =
        let e = event worker (Undo (record { 0 = t }) (record { 0 = m })) in
        let none : probed (es ++ e ∷ []) ≡ probed es = probed_more es e ∙ append-nil (probed es) in
        let h = gaps es run before stands (subst (λ xs. (i : ℕ) → IfSome (slice_get xs i) (λ n. n ≡ script_at script i)) none f) in
        subst (λ xs. ArePicked script 0 (length xs) (probed_in (rest (has (reached run m)) run))) (sym none) (fewer (has (reached run m)) (length (probed es)) run 0 h)
    gaps _ _ _ (release {events = es} {run = run} {state = state} worker k stands final more) f =
        let e = event worker (Release k) in
        let none : probed (es ++ e ∷ []) ≡ probed es = probed_more es e ∙ append-nil (probed es) in
        let h = gaps es run state stands (subst (λ xs. (i : ℕ) → IfSome (slice_get xs i) (λ n. n ≡ script_at script i)) none f) in
        subst (λ xs. ArePicked script 0 (length xs) (probed_in run)) (sym none) h
