-- The nodes of the graph after a step.
use Rattle.std.proofs.Common.{◌≡◌, ℕ, suc, ◌<◌, Bool, true, false, cond, List, [], ◌∷◌, ◌++◌, Option, Some, None, refl, sym, ap, subst, ◌∙◌, append_assoc, append-nil}
use Rattle.std.specs.Prelude.{filter, is_some, nat_lt}
use Rattle.std.specs.List.{AllByRecursion, last_or}
use Rattle.std.specs.Ordering.{nat_cmp}
use Rattle.std.specs.FinMap as map
use Rattle.std.specs.FinMap.{FinMap}
use Rattle.std.proofs.lemmas.Bool.{false≢true}
use Rattle.std.proofs.lemmas.List.Elements.{filter-append}
use Rattle.stab_base.specs.Datum.{Datum}
use Rattle.stab_journal.specs.declared.event.Label.{Label}
use Rattle.stab_journal.specs.declared.event.Label.TheVariants.{Spawn, Comm, NewRef, Get, Set, Enter, Pin}
use Rattle.stab_journal.specs.declared.event.Numbered.{Numbered}
use Rattle.stab_journal.specs.Floor.{is_cut, floor}
use Rattle.stab_journal.specs.Journal.{RiseFrom}
use Rattle.stab_journal.specs.Label.{written}
use Rattle.stab_journal.specs.Names.{is_at}
use Rattle.ref_log.specs.Log.{Write, last_of}
use Rattle.comm_graph.specs.Node.{Node}
use Rattle.language.specs.Steps.{State, Table, plain, after_steps, put_value}
use Rattle.journal_laws.specs.Surviving.{value_of}
use Rattle.journal_laws.proofs.Applying.{put_value-here}
use Rattle.journal_laws.proofs.Numbers.{rise_front}
use Rattle.journal_laws.proofs.Stepping.{step_of}
use Rattle.journal_laws.proofs.Surviving.{some_none, no_steps}
use Rattle.commit_book.specs.Graph.{node_of, wrote_by, nodes_from, nodes_above, AreNodesOf}
use Rattle.commit_book.specs.References.{writes_at, AreWrites}
use Rattle.commit_book.specs.Run.{write_of, writes_in}
use Rattle.commit_book.specs.Step.{wrote_after}
use Rattle.commit_book.proofs.Keeping.Floors.{floor_snoc, less_is}
use Rattle.commit_book.proofs.Keeping.WriteSteps.{kept_last}

pub nodes_snoc : (w : ℕ → ℕ) (run : List Numbered) (n : Numbered) → nodes_from w (run ++ n ∷ []) ≡ nodes_from w run ++ node_of (wrote_after w run) n.seq.0 n.label
nodes_snoc w [] n = append-nil (node_of w n.seq.0 n.label)
nodes_snoc w (k ∷ run) n =
    ap (λ ks. node_of w k.seq.0 k.label ++ ks) (nodes_snoc (wrote_by k.seq.0 k.label w) run n)
    ∙ sym (append_assoc (node_of w k.seq.0 k.label) (nodes_from (wrote_by k.seq.0 k.label w) run) (node_of (wrote_after (wrote_by k.seq.0 k.label w) run) n.seq.0 n.label))

-- the node of a step has its number
pub above_floor : (f q : ℕ) (w : ℕ → ℕ) (l : Label) → nat_lt f q ≡ true → filter (λ (k : Node). nat_lt f k.number) (node_of w q l) ≡ node_of w q l
above_floor f q w (Enter t) high = ap (λ b. cond b (node_of w q (Enter t)) []) high
above_floor f q w (Spawn t u) high = ap (λ b. cond b (node_of w q (Spawn t u)) []) high
above_floor f q w (Comm s r c) high = ap (λ b. cond b (node_of w q (Comm s r c)) []) high
above_floor f q w (Get t r) high = ap (λ b. cond b (node_of w q (Get t r)) []) high
above_floor f q w (Set t r) high = ap (λ b. cond b (node_of w q (Set t r)) []) high
above_floor f q w (NewRef t r) high = ap (λ b. cond b (node_of w q (NewRef t r)) []) high
above_floor f q w (Pin t) high = ap (λ b. cond b (node_of w q (Pin t)) []) high
above_floor f q w _ high = refl

-- a step that is no cut adds its node, if it has one
pub nodes_step : (run : List Numbered) (n : Numbered) (nodes new : List Node) → is_cut n.label ≡ false → floor run < n.seq.0
    → new ≡ nodes ++ node_of (wrote_after (λ _. 0) run) n.seq.0 n.label → AreNodesOf nodes run → AreNodesOf new (run ++ n ∷ [])
nodes_step run n nodes new uncut above added is =
    let p = λ (k : Node). nat_lt (floor run) k.number in
    let here = node_of (wrote_after (λ _. 0) run) n.seq.0 n.label in
    added
    ∙ ap (λ ks. ks ++ here) is
    ∙ ap (λ ks. filter p (nodes_from (λ _. 0) run) ++ ks) (sym (above_floor (floor run) n.seq.0 (wrote_after (λ _. 0) run) n.label (less_is (floor run) n.seq.0 above)))
    ∙ sym (filter-append p (nodes_from (λ _. 0) run) here)
    ∙ ap (filter p) (sym (nodes_snoc (λ _. 0) run n))
    ∙ ap (λ f. nodes_above f (run ++ n ∷ [])) (sym (floor_snoc 0 run n uncut))

-- the number of a write, 0 where there is none
abbrev pub number_in : Option Write → ℕ
number_in None = 0
number_in (Some w) = w.number

module _ {E : Type 0} (effect : Table E) where
  one_number : (q : ℕ) (now : Option Write) (ws : List Write) (end : ℕ) (v : Option Datum) → is_some v ≡ true
      → ((now : Option Write) → number_in now ≡ q → number_in (last_or now ws) ≡ end) → number_in (last_or now (write_of q v ++ ws)) ≡ end
  one_number q now ws end None there more = absurd (false≢true there)
  one_number q now ws end (Some v) there more = more (Some (record { number = q; value = v })) refl

  numbers : (r : ℕ) (ns : List Numbered) (s end : State E) (w : ℕ → ℕ) (now : Option Write) → number_in now ≡ w r → after_steps effect (Some s) ns ≡ Some end → number_in (last_or now (writes_in effect r (Some s) ns)) ≡ wrote_after w ns r
  numbers r [] s end w now at runs = at
  numbers r (n ∷ ns) s end w now at runs =
      elim (plain effect s n.seq.0 n.label) as (λ o. plain effect s n.seq.0 n.label ≡ o → after_steps effect o ns ≡ Some end → number_in (last_or now (cond (is_at (written n.label) r) (write_of n.seq.0 (value_of o r)) [] ++ writes_in effect r o ns)) ≡ wrote_after (wrote_by n.seq.0 n.label w) ns r) [
        | None ↦ λ is runs. absurd (some_none (sym runs ∙ no_steps effect ns))
        | (Some m) ↦ λ is runs.
            let st = step_of effect s n.seq.0 n.label m is in
            let here : map.get m.references r ≡ map.get (put_value (written n.label) st.eff.value s.references) r = ap (λ (s : State E). map.get s.references r) st.is in
            let wrote : ℕ → ℕ = wrote_by n.seq.0 n.label w in
            elim (is_at (written n.label) r) as (λ b. is_at (written n.label) r ≡ b → number_in (last_or now (cond b (write_of n.seq.0 (map.get m.references r)) [] ++ writes_in effect r (Some m) ns)) ≡ wrote_after wrote ns r) [
              | true ↦ λ is. one_number n.seq.0 now (writes_in effect r (Some m) ns) (wrote_after wrote ns r) (map.get m.references r) (ap is_some (here ∙ put_value-here (written n.label) st.eff.value s.references r is))
                  (λ k at. numbers r ns m end wrote k (at ∙ sym (ap (λ b. cond b n.seq.0 (w r)) is)) runs)
              | false ↦ λ is. numbers r ns m end wrote now (at ∙ sym (ap (λ b. cond b n.seq.0 (w r)) is)) runs
            ] refl
      ] refl runs

  -- the last write that is kept has the number of the last write of the run
  pub read_number : (start end : State E) (run : List Numbered) (last_cut : ℕ) (references : FinMap nat_cmp (List Write)) (r : ℕ) → after_steps effect (Some start) run ≡ Some end → AreWrites effect last_cut references start run → number_in (last_of (writes_at references r)) ≡ wrote_after (λ _. 0) run r
  read_number start end run last_cut references r runs is =
      ap (λ ws. number_in (last_of ws)) (is.writes r) ∙ ap number_in (kept_last (floor run) (writes_in effect r (Some start) run) None) ∙ numbers r run start end (λ _. 0) None refl runs

-- no last write has a number as great as the next step's
pub wrote_below : (w : ℕ → ℕ) (p : ℕ) (run : List Numbered) (n : Numbered) (r : ℕ) → w r < n.seq.0 → RiseFrom p (run ++ n ∷ []) → wrote_after w run r < n.seq.0
wrote_below w p [] n r low rise = low
wrote_below w p (k ∷ run) n r low rise =
    wrote_below (wrote_by k.seq.0 k.label w) (suc k.seq.0) run n r
    (elim (is_at (written k.label) r) as (λ b. cond b k.seq.0 (w r) < n.seq.0) [
      | true ↦ rise_front (suc k.seq.0) run n [] rise.1
      | false ↦ low
    ]) rise.1

one_below : (w : ℕ → ℕ) (q m : ℕ) (l : Label) → q < m → AllByRecursion (λ (k : Node). k.number < m) (node_of w q l)
one_below w q m (Enter t) low = (low, tt)
one_below w q m (Spawn t u) low = (low, tt)
one_below w q m (Comm s r c) low = (low, tt)
one_below w q m (Get t r) low = (low, tt)
one_below w q m (Set t r) low = (low, tt)
one_below w q m (NewRef t r) low = (low, tt)
one_below w q m (Pin t) low = (low, tt)
one_below w q m _ low = tt

joined : (P : Node → Type 0) (xs ys : List Node) → AllByRecursion P xs → AllByRecursion P ys → AllByRecursion P (xs ++ ys)
joined P [] ys a b = b
joined P (x ∷ xs) ys a b = (a.0, joined P xs ys a.1 b)

pub nodes_below : (w : ℕ → ℕ) (p : ℕ) (run : List Numbered) (n : Numbered) → RiseFrom p (run ++ n ∷ []) → AllByRecursion (λ (k : Node). k.number < n.seq.0) (nodes_from w run)
nodes_below w p [] n rise = tt
nodes_below w p (k ∷ run) n rise =
    joined _ (node_of w k.seq.0 k.label) (nodes_from (wrote_by k.seq.0 k.label w) run)
    (one_below w k.seq.0 n.seq.0 k.label (rise_front (suc k.seq.0) run n [] rise.1))
    (nodes_below (wrote_by k.seq.0 k.label w) (suc k.seq.0) run n rise.1)

filtered : (P : Node → Type 0) (p : Node → Bool) (xs : List Node) → AllByRecursion P xs → AllByRecursion P (filter p xs)
filtered P p [] a = tt
filtered P p (x ∷ xs) a = elim (p x) as (λ b. AllByRecursion P (cond b (x ∷ filter p xs) (filter p xs))) [ true ↦ (a.0, filtered P p xs a.1) | false ↦ filtered P p xs a.1 ]

-- all nodes stand before the next step
pub all_below : (nodes : List Node) (run : List Numbered) (n : Numbered) → RiseFrom 1 (run ++ n ∷ []) → AreNodesOf nodes run → AllByRecursion (λ (k : Node). k.number < n.seq.0) nodes
all_below nodes run n rise is =
    let at_all = filtered (λ (k : Node). k.number < n.seq.0) (λ (k : Node). nat_lt (floor run) k.number) (nodes_from (λ _. 0) run) (nodes_below (λ _. 0) 1 run n rise) in
    subst (AllByRecursion (λ (k : Node). k.number < n.seq.0)) (sym is) at_all
