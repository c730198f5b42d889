-- The kept writes, the saved controls and the nodes after a cut.
use Rattle.std.proofs.Common.{◌≡◌, ℕ, suc, ◌<◌, ◌≤◌, Bool, true, false, cond, ◌&&◌, ◌||◌, List, [], ◌∷◌, ◌++◌, Option, Some, None, refl, sym, ap, ◌∙◌, append-nil, arith}
use Rattle.std.specs.Prelude.{filter, option_map, nat_lt, nat_le}
use Rattle.std.specs.List.{AllByRecursion}
use Rattle.std.specs.Ordering.{nat_cmp}
use Rattle.std.specs.FinMap.{FinMap}
use Rattle.std.proofs.lemmas.Bool.{false≢true}
use Rattle.std.proofs.lemmas.Bool.Decides.{nat_tests}
use Rattle.stab_base.specs.declared.numbers.ThreadId.{ThreadId}
use Rattle.stab_journal.specs.declared.event.Label.TheVariants.{Cut}
use Rattle.stab_journal.specs.declared.event.Numbered.{Numbered}
use Rattle.stab_journal.specs.Floor.{floor}
use Rattle.stab_journal.specs.Journal.{RiseFrom}
use Rattle.stab_journal.specs.Label.{actors}
use Rattle.stab_journal.specs.Names.{has}
use Rattle.ref_log.specs.Log.{Write, has_below, kept}
use Rattle.checkpoint_store.specs.Saved.{place_cmp}
use Rattle.comm_graph.specs.Node.{Node}
use Rattle.language.specs.Steps.{State, Table, next}
use Rattle.journal_laws.specs.Surviving.{thread_of}
use Rattle.journal_laws.proofs.Numbers.{rise_front}
use Rattle.commit_book.specs.Graph.{nodes_from, nodes_above, AreNodesOf}
use Rattle.commit_book.specs.References.{writes_at, AreWrites}
use Rattle.commit_book.specs.Run.{saves, writes_in, stood_at}
use Rattle.commit_book.specs.Saved.{saved_of, AreSaved}
use Rattle.commit_book.proofs.Keeping.Floors.{floor_cut, not_less, differs}
use Rattle.commit_book.proofs.Keeping.SavedSteps.{stood_snoc}
use Rattle.commit_book.proofs.Keeping.WriteSteps.{writes_snoc}
use Rattle.commit_book.proofs.Keeping.NodeSteps.{nodes_snoc, nodes_below, all_below}

-- the step of a cut
abbrev pub cut_at : ℕ → ThreadId → Numbered
cut_at q t = record { seq = record { 0 = q }; label = Cut t }

less_more : (k f q : ℕ) → f ≤ q → nat_lt k f ≡ true → nat_lt k q ≡ true
less_more k f q h is = grind (arith, nat_tests)

or_right : (a b : Bool) → b ≡ true → (a || b) ≡ true
or_right true b h = refl
or_right false b h = h

below_more : (f q : ℕ) (ws : List Write) → f ≤ q → has_below f ws ≡ true → has_below q ws ≡ true
below_more f q [] h is = absurd (false≢true is)
below_more f q (w ∷ ws) h is = elim (nat_lt w.number f) as (λ b. nat_lt w.number f ≡ b → (b || has_below f ws) ≡ true → (nat_lt w.number q || has_below q ws) ≡ true) [
  | true ↦ λ at is. ap (λ b. b || has_below q ws) (less_more w.number f q h at)
  | false ↦ λ at is. or_right (nat_lt w.number q) _ (below_more f q ws h is)
] refl is

-- a cut after a cut
pub kept_kept : (f q : ℕ) (ws : List Write) → f ≤ q → kept q (kept f ws) ≡ kept q ws
kept_kept f q [] h = refl
kept_kept f q (w ∷ ws) h = elim (has_below f ws) as (λ b. has_below f ws ≡ b → kept q (cond b (kept f ws) (w ∷ ws)) ≡ kept q (w ∷ ws)) [
  | true ↦ λ is. kept_kept f q ws h ∙ ap (λ b. cond b (kept q ws) (w ∷ ws)) (sym (below_more f q ws h is))
  | false ↦ λ is. refl
] refl

module _ {E : Type 0} (effect : Table E) where
  -- after a cut the last write before it is kept of each reference, and its number is the last cut's
  pub writes_cut : (start : State E) (run : List Numbered) (q : ℕ) (t : ThreadId) (last_cut : ℕ) (references new : FinMap nat_cmp (List Write)) → floor run ≤ q
      → ((r : ℕ) → writes_at new r ≡ kept q (writes_at references r))
      → AreWrites effect last_cut references start run → AreWrites effect q new start (run ++ cut_at q t ∷ [])
  writes_cut start run q t last_cut references new above dropped is = record {
    cut = sym (floor_cut 0 run (cut_at q t) refl);
    writes = λ r.
        dropped r ∙ ap (kept q) (is.writes r) ∙ kept_kept (floor run) q (writes_in effect r (Some start) run) above
        ∙ ap (kept q) (sym (writes_snoc effect r (Some start) run (cut_at q t) ∙ append-nil (writes_in effect r (Some start) run)))
        ∙ ap (λ f. kept f (writes_in effect r (Some start) (run ++ cut_at q t ∷ []))) (sym (floor_cut 0 run (cut_at q t) refl));
  }

  -- nothing is saved at later numbers
  stood_none : (k t p : ℕ) (o : Option (State E)) (run : List Numbered) (n : Numbered) → RiseFrom p (run ++ n ∷ []) → n.seq.0 ≤ k → stood_at effect k t o run ≡ None
  stood_none k t p o [] n rise h = refl
  stood_none k t p o (j ∷ run) n rise h =
      let low : suc j.seq.0 ≤ n.seq.0 = rise_front (suc j.seq.0) run n [] rise.1 in
      ap (λ b. cond b (cond (saves j.label && has (actors j.label) t) (thread_of o t) None) (stood_at effect k t (next effect o j) run)) (differs k j.seq.0 (omega arith))
      ∙ stood_none k t (suc j.seq.0) (next effect o j) run n rise.1 h

none_none : {X : Type 0} (b : Bool) → cond {A = Option X} b None None ≡ None
none_none true = refl
none_none false = refl

not_under : (k q : ℕ) → nat_lt k q ≡ false → q ≤ k
not_under k q h = grind (arith, nat_tests)

over_is : (k q : ℕ) → nat_lt q k ≡ true → q < k
over_is k q h = grind (arith, nat_tests)

module _ {C E : Type 0} (expr : C → E) (effect : Table E) where
  -- after a cut nothing is saved
  pub saved_cut : (start : State E) (run : List Numbered) (q p : ℕ) (u : ThreadId) (saved new : FinMap place_cmp C) → RiseFrom p (run ++ cut_at q u ∷ [])
      → ((k t : ℕ) → saved_of new k t ≡ cond (nat_lt k q) None (saved_of saved k t))
      → AreSaved expr effect saved start run → AreSaved expr effect new start (run ++ cut_at q u ∷ [])
  saved_cut start run q p u saved new rise dropped is k t =
      ap (option_map expr) (dropped k t)
      ∙ (elim (nat_lt k q) as (λ b. nat_lt k q ≡ b → option_map expr (cond b None (saved_of saved k t)) ≡ None) [
        | true ↦ λ under. refl
        | false ↦ λ over. is k t ∙ ap (λ o. cond (nat_lt (floor run) k) o None) (stood_none effect k t p (Some start) run (cut_at q u) rise (not_under k q over)) ∙ none_none (nat_lt (floor run) k)
      ] refl)
      ∙ sym (ap (λ f. cond (nat_lt f k) (stood_at effect k t (Some start) (run ++ cut_at q u ∷ [])) None) (floor_cut 0 run (cut_at q u) refl)
      ∙ (elim (nat_lt q k) as (λ b. nat_lt q k ≡ b → cond b (stood_at effect k t (Some start) (run ++ cut_at q u ∷ [])) None ≡ None) [
        | true ↦ λ is.
            let over : q < k = over_is k q is in
            stood_snoc effect k t p (Some start) run (cut_at q u) rise
            ∙ ap (λ b. cond b None (stood_at effect k t (Some start) run)) (differs k q over)
            ∙ stood_none effect k t p (Some start) run (cut_at q u) rise (omega arith)
        | false ↦ λ is. refl
      ] refl))

not_le : (f k : ℕ) → k < f → nat_le f k ≡ false
not_le f k h = grind (arith, nat_tests)

none_above : (f : ℕ) (ks : List Node) → AllByRecursion (λ (k : Node). k.number < f) ks → filter (λ (k : Node). nat_lt f k.number) ks ≡ []
none_above f [] all = refl
none_above f (k ∷ ks) all = ap (λ b. cond b (k ∷ filter (λ (k : Node). nat_lt f k.number) ks) (filter (λ (k : Node). nat_lt f k.number) ks)) (not_less f k.number (let h : k.number < f = all.0 in omega arith)) ∙ none_above f ks all.1

none_from : (f : ℕ) (ks : List Node) → AllByRecursion (λ (k : Node). k.number < f) ks → filter (λ (k : Node). nat_le f k.number) ks ≡ []
none_from f [] all = refl
none_from f (k ∷ ks) all = ap (λ b. cond b (k ∷ filter (λ (k : Node). nat_le f k.number) ks) (filter (λ (k : Node). nat_le f k.number) ks)) (let h : k.number < f = all.0 in not_le f k.number h) ∙ none_from f ks all.1

-- after a cut there are no nodes
pub nodes_cut : (run : List Numbered) (q : ℕ) (t : ThreadId) (nodes new : List Node) → RiseFrom 1 (run ++ cut_at q t ∷ []) → new ≡ filter (λ (k : Node). nat_le q k.number) nodes → AreNodesOf nodes run → AreNodesOf new (run ++ cut_at q t ∷ [])
nodes_cut run q t nodes new rise dropped is =
    dropped
    ∙ none_from q nodes (all_below nodes run (cut_at q t) rise is)
    ∙ sym (ap (λ f. nodes_above f (run ++ cut_at q t ∷ [])) (floor_cut 0 run (cut_at q t) refl)
    ∙ ap (filter (λ (k : Node). nat_lt q k.number)) (nodes_snoc (λ _. 0) run (cut_at q t) ∙ append-nil (nodes_from (λ _. 0) run))
    ∙ none_above q (nodes_from (λ _. 0) run) (nodes_below (λ _. 0) 1 run (cut_at q t) rise))
