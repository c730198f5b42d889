-- The next event may be added to the log of writes, to the saved controls and to the graph.
use Rattle.std.proofs.Common.{◌≡◌, ◌≢◌, inl, inr, ℕ, ◌<◌, ◌≤◌, Bool, true, false, cond, ◌||◌, nat_eq, List, [], ◌∷◌, ◌++◌, Option, Some, None, IsSome, refl, sym, ap, subst, ◌∙◌, arith}
use Rattle.std.specs.Prelude.{is_some, nat_lt, option_map, if◌then◌else◌}
use Rattle.std.specs.List.{All, AllByRecursion, last_or}
use Rattle.std.specs.Ordering.{nat_cmp}
use Rattle.std.specs.FinMap as map
use Rattle.std.specs.FinMap.{FinMap}
use Rattle.std.proofs.lemmas.Bool.{false≢true, eqb-true, and_parts}
use Rattle.std.proofs.lemmas.Bool.Decides.{nat_tests}
use Rattle.std.proofs.lemmas.List.Elements.{All-from_recursion, recursion_from_All}
use Rattle.stab_base.specs.Datum.{Datum}
use Rattle.stab_base.specs.declared.numbers.Seq.{Seq}
use Rattle.stab_base.specs.declared.numbers.ThreadId.{ThreadId}
use Rattle.stab_journal.specs.declared.event.Label.{Label}
use Rattle.stab_journal.specs.declared.event.Label.TheVariants.{Enter}
use Rattle.stab_journal.specs.declared.event.Numbered.{Numbered}
use Rattle.stab_journal.specs.Floor.{floor}
use Rattle.stab_journal.specs.Journal.{RiseFrom}
use Rattle.checkpoint_store.specs.Saved.{Saved, IsBelow, is_place, place_cmp, saved_at}
use Rattle.comm_graph.specs.Node.{Node}
use Rattle.ref_log.specs.Calls.{IsAllowed, cut, made, wrote}
use Rattle.ref_log.specs.Log.{Log, Write, has_write, last_of, writes_of}
use Rattle.language.specs.Plain.{PlainState, effect_of, start}
use Rattle.step_eval.specs.ControlView.{ControlView, expr_of}
use Rattle.journal_laws.proofs.Surviving.{some_none}
use Rattle.journal_laws.proofs.Undone.{stands_run}
use Rattle.commit_book.specs.Book.{BookView, ShowsJournal}
use Rattle.commit_book.specs.References.{writes_at}
use Rattle.commit_book.specs.Run.{stood_at}
use Rattle.commit_book.specs.Saved.{saved_of}
use Rattle.commit_book.specs.Step.{next_seq, wrote_after}
use Rattle.commit_book.proofs.Keeping.Floors.{differs, floor_below}
use Rattle.commit_book.proofs.Keeping.JournalSteps.{numbered}
use Rattle.commit_book.proofs.Keeping.NodeSteps.{all_below, number_in, read_number, wrote_below}
use Rattle.commit_book.proofs.Keeping.RoomRun.{kept_writes_below, next_rises, stood_none}
use Rattle.commit_book.proofs.Keeping.WriteSteps.{value_in}

some_last : (w : Write) (ws : List Write) → is_some (last_or (Some w) ws) ≡ true
some_last w [] = refl
some_last w (v ∷ ws) = some_last v ws

mapped_none : {A B : Type 0} (f : A → B) (o : Option A) → option_map f o ≡ None → o ≡ None
mapped_none f None is = refl
mapped_none f (Some a) is = absurd (some_none is)

no_last : (ws : List Write) → last_of ws ≡ None → ws ≡ []
no_last [] is = refl
no_last (w ∷ ws) is = absurd (false≢true (sym (ap is_some is) ∙ some_last w ws))

absent : {A : Type 0} (o : Option A) → is_some o ≡ false → o ≡ None
absent None is = refl
absent (Some a) is = absurd (false≢true (sym is))

not_some : {A : Type 0} (o : Option A) → o ≡ None → IsSome o → ⊥
not_some o is some = false≢true (sym (ap is_some is) ∙ some)

high_or : (a b : ℕ) → nat_lt a b ≡ false → b ≤ a
high_or a b h = grind (arith, nat_tests)

is_low : (a b : ℕ) → nat_lt a b ≡ true → a < b
is_low a b h = grind (arith, nat_tests)

-- a number is below another one unless that leads astray
low_or : (a b : ℕ) → (b ≤ a → ⊥) → a < b
low_or a b f = elim (nat_lt a b) as (λ k. nat_lt a b ≡ k → a < b) [ true ↦ is_low a b | false ↦ λ h. absurd (f (high_or a b h)) ] refl

cond_none : {A : Type 0} (b : Bool) (o : Option A) → o ≡ None → cond b o None ≡ None
cond_none true o is = is
cond_none false o is = refl

-- no write has a number that is above all of them
none_written : (q : ℕ) (ws : List Write) → AllByRecursion (λ (w : Write). w.number < q) ws → has_write q ws ≡ false
none_written q [] low = refl
none_written q (w ∷ ws) low = ap (λ b. b || has_write q ws) (differs q w.number low.0) ∙ none_written q ws low.1

any : Label
any = Enter (record { 0 = 1 })

module _ (b : BookView) (run : List Numbered) (s : PlainState) (shown : ShowsJournal b run s) where
  -- the numbers of the run still rise with the next step
  pub rises_next : (l : Label) → RiseFrom 1 (run ++ numbered (next_seq b) l ∷ [])
  rises_next l = next_rises b.job.program b.history run s l shown.history

  -- the last cut stands before it
  pub floor_before : floor run < next_seq b
  floor_before = floor_below 0 1 run (numbered (next_seq b) any) (omega arith) (rises_next any)

  -- ---- writes

  pub cut_before : b.last_cut < next_seq b
  cut_before = subst (λ (k : ℕ). k < next_seq b) (sym shown.writes.cut) floor_before

  pub writes_before : (r : ℕ) → All (λ (w : Write). w.number < next_seq b) (writes_at b.references r)
  writes_before r =
      kept_writes_below (effect_of b.job.program) r 1 (floor run) (Some (start b.job.program)) run (numbered (next_seq b) any) (writes_at b.references r) (rises_next any) (shown.writes.writes r)

  -- a reference that isn't there has no write, and one that is there has some
  pub no_writes : (r : ℕ) → map.contains_key s.references r ≡ false → writes_at b.references r ≡ []
  no_writes r away = no_last (writes_at b.references r) (mapped_none (λ (w : Write). w.value) (last_of (writes_at b.references r)) (shown.references r ∙ absent (map.get s.references r) away))

  pub some_writes : (r : ℕ) → map.contains_key s.references r ≡ true → writes_at b.references r ≢ []
  some_writes r there none = false≢true (ap is_some (sym (ap (λ ws. value_in (last_of ws)) none) ∙ shown.references r) ∙ there)

  module _ (log : Log) (same : log.references ≡ b.references) (last : log.last_cut ≡ b.last_cut) where
    above : log.last_cut < next_seq b
    above = subst (λ (k : ℕ). k < next_seq b) (sym last) cut_before

    -- a reference can be made, and one that is there written
    pub may_make : (r : ℕ) (v : Datum) → map.contains_key s.references r ≡ false → IsAllowed (made r (next_seq b) v) log
    may_make r v away = (ap (λ m. writes_at m r) same ∙ no_writes r away, above)

    pub may_write : (r : ℕ) (v : Datum) → map.contains_key s.references r ≡ true → IsAllowed (wrote r (next_seq b) v) log
    may_write r v there = (
      λ none. some_writes r there (sym (ap (λ m. writes_at m r) same) ∙ none),
      subst (λ (m : FinMap nat_cmp (List Write)). All (λ (w : Write). w.number < next_seq b) (writes_at m r)) (sym same) (writes_before r),
      above,
    )

    -- a cut can be made at it
    pub may_cut : IsAllowed (cut (next_seq b)) log
    may_cut = (
      λ r. none_written (next_seq b) (writes_of log r) (recursion_from_All (λ (w : Write). w.number < next_seq b) (writes_of log r) (subst (λ (m : FinMap nat_cmp (List Write)). All (λ (w : Write). w.number < next_seq b) (writes_at m r)) (sym same) (writes_before r))),
      omega (arith, above),
    )

  -- ---- saved controls

  pub saved_before : (q t : ℕ) → IsSome (saved_of b.saved q t) → q < next_seq b
  saved_before q t there =
      let p = b.job.program in
      low_or q (next_seq b) (λ high.
      not_some (saved_of b.saved q t)
      (mapped_none (expr_of p) (saved_of b.saved q t)
      (shown.saved q t ∙ cond_none (nat_lt (floor run) q) (stood_at (effect_of p) q t (Some (start p)) run) (stood_none (effect_of p) q t 1 (Some (start p)) run (numbered (next_seq b) any) (rises_next any) high)))
      there)

  -- nothing is saved at it
  pub none_saved : (t : ℕ) → option_map (expr_of b.job.program) (saved_of b.saved (next_seq b) t) ≡ None
  none_saved t =
      let p = b.job.program in
      shown.saved (next_seq b) t ∙ cond_none (nat_lt (floor run) (next_seq b)) (stood_at (effect_of p) (next_seq b) t (Some (start p)) run) (stood_none (effect_of p) (next_seq b) t 1 (Some (start p)) run (numbered (next_seq b) any) (rises_next any) (omega arith))

  -- a control can be saved there
  pub may_save : (store : Saved ControlView) (q : Seq) (t : ThreadId) → store.controls ≡ b.saved → q.0 ≡ next_seq b → (r : Seq) (u : ThreadId) → IsSome (saved_at store r u) → IsBelow (r, u) (q, t)
  may_save store q t same is r u there =
      inl (subst (λ (n : ℕ). r.0 < n) (sym is) (saved_before r.0 u.0 (subst (λ (m : FinMap place_cmp ControlView). IsSome (map.get m (r, u))) same there)))

  -- ---- the graph

  pub nodes_before : All (λ (n : Node). n.number < next_seq b) b.nodes
  nodes_before = All-from_recursion (λ (n : Node). n.number < next_seq b) b.nodes (all_below b.nodes run (numbered (next_seq b) any) (rises_next any) shown.nodes)

  -- the last write of a reference has the number that the graph has for it, and stands before the next event
  pub last_number : (r : ℕ) → number_in (last_of (writes_at b.references r)) ≡ wrote_after (λ _. 0) run r
  last_number r =
      let p = b.job.program in
      read_number (effect_of p) (start p) s run b.last_cut b.references r (stands_run p b.history.events run s shown.history.stands).1.ends shown.writes

  pub last_before : (r : ℕ) → number_in (last_of (writes_at b.references r)) < next_seq b
  last_before r = subst (λ (n : ℕ). n < next_seq b) (sym (last_number r)) (wrote_below (λ _. 0) 1 run (numbered (next_seq b) any) r (omega arith) (rises_next any))

-- a second control can be saved at an event, for a thread of a greater number
pub may_save_too : {C : Type 0} (old new : Saved C) (q : Seq) (a t : ThreadId) (control : C) → ((r : Seq) (u : ThreadId) → IsSome (saved_at old r u) → IsBelow (r, u) (q, a))
    → ((r : Seq) (u : ThreadId) → saved_at new r u ≡ (if is_place q a r u then Some control else saved_at old r u)) → a.0 < t.0
    → (r : Seq) (u : ThreadId) → IsSome (saved_at new r u) → IsBelow (r, u) (q, t)
may_save_too {C} old new q a t control last saved less r u there =
    elim (is_place q a r u) as (λ k. is_place q a r u ≡ k → IsSome (if k then Some control else saved_at old r u) → IsBelow (r, u) (q, t)) [
      | true ↦ λ at there. let same = and_parts (nat_eq r.0 q.0) (nat_eq u.0 a.0) at in inr (eqb-true r.0 q.0 same.0, subst (λ (n : ℕ). n < t.0) (sym (eqb-true u.0 a.0 same.1)) less)
      | false ↦ λ at there. later (last r u there)
    ] refl (subst (λ (o : Option C). IsSome o) (saved r u) there)
  where
    later : IsBelow (r, u) (q, a) → IsBelow (r, u) (q, t)
    later (inl below) = inl below
    later (inr same) = inr (same.0, omega (arith, same.1, less))
