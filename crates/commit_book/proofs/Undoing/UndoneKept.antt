-- What carrying a plan out leaves of the nodes and of the saved controls is what an undo leaves.
use Rattle.std.proofs.Common.{◌≡◌, ℕ, Bool, true, false, cond, not, ◌&&◌, ◌||◌, nat_eq, List, [], ◌∷◌, ◌++◌, Option, Some, None, refl, sym, ap, subst, ◌∙◌, append_assoc}
use Rattle.std.specs.Prelude.{filter, nat_lt, option_map}
use Rattle.std.specs.FinMap as map
use Rattle.std.proofs.lemmas.Bool.{false≢true, eqb-true, and_parts}
use Rattle.std.proofs.lemmas.List.Elements.{filter-append}
use Rattle.stab_journal.specs.declared.event.Label.{Label}
use Rattle.stab_journal.specs.declared.event.Label.TheVariants.{Spawn, Comm, NewRef, Get, Set, Enter, Pin}
use Rattle.stab_journal.specs.declared.event.Numbered.{Numbered}
use Rattle.stab_journal.specs.Floor.{floor, is_revocable}
use Rattle.stab_journal.specs.Label.{actors}
use Rattle.stab_journal.specs.Names.{has}
use Rattle.stab_journal.specs.Reached.{reached}
use Rattle.comm_graph.specs.Node as graph
use Rattle.comm_graph.specs.Node.{Node}
use Rattle.language.specs.Plain.{PlainState, IsRun, effect_of, start}
use Rattle.language.specs.Steps.{State, Table, next}
use Rattle.reach_line.specs.Reached as marks
use Rattle.restore.specs.declared.line.Line.{Line}
use Rattle.restore.specs.declared.line.Line.TheVariants.{From, Gone}
use Rattle.restore.specs.Line.{IsLineOf}
use Rattle.restore.specs.Left.{LineMap, is_from, unmarked}
use Rattle.journal_laws.specs.Lines.{is_node}
use Rattle.journal_laws.specs.Surviving.{thread_of}
use Rattle.journal_laws.proofs.Surviving.{some_none}
use Rattle.step_eval.specs.ControlView.{ControlView, expr_of}
use Rattle.commit_book.specs.Book.{BookView, ShowsRun}
use Rattle.commit_book.specs.Graph.{node_of, nodes_from, wrote_by}
use Rattle.commit_book.specs.Run.{saves, stood_at}
use Rattle.commit_book.specs.Saved.{saved_of}
use Rattle.commit_book.proofs.Undoing.UndoneEdges.{marks_are, lost_mark, uncut_of}
use Rattle.commit_book.proofs.Undoing.UndoneLines.{saves_node}
use Rattle.commit_book.proofs.Undoing.UndoneNodes.{stay, swap}

-- where a step stands that has a number and saves its actors' controls
pub record IsSaving (run : List Numbered) (q : ℕ) : Type 0 where
  pub before : List Numbered
  pub n : Numbered
  pub after : List Numbered
  pub is : run ≡ before ++ n ∷ after
  pub number : n.seq.0 ≡ q
  pub saved : saves n.label ≡ true

module _ {E : Type 0} (effect : Table E) where
  -- what is saved was saved by a step
  pub saving_of : (q t : ℕ) (o : Option (State E)) (ns : List Numbered) (e : E) → stood_at effect q t o ns ≡ Some e → IsSaving ns q
  saving_of q t o [] e is = absurd (some_none (sym is))
  saving_of q t o (n ∷ ns) e is =
      elim (nat_eq q n.seq.0) as (λ b. nat_eq q n.seq.0 ≡ b → cond b (cond (saves n.label && has (actors n.label) t) (thread_of o t) None) (stood_at effect q t (next effect o n) ns) ≡ Some e → IsSaving (n ∷ ns) q) [
        | true ↦ λ at. elim (saves n.label && has (actors n.label) t) as (λ b. (saves n.label && has (actors n.label) t) ≡ b → cond b (thread_of o t) None ≡ Some e → IsSaving (n ∷ ns) q) [
          | true ↦ λ both is. record { before = []; n = n; after = ns; is = refl; number = sym (eqb-true q n.seq.0 at); saved = (and_parts (saves n.label) (has (actors n.label) t) both).0 }
          | false ↦ λ both is. absurd (some_none (sym is))
        ] refl
        | false ↦ λ at is.
            let s = saving_of q t (next effect o n) ns e is in
            record { before = n ∷ s.before; n = s.n; after = s.after; is = ap (λ l. n ∷ l) s.is; number = s.number; saved = s.saved }
      ] refl is

none_none : {X : Type 0} (b : Bool) → cond {A = Option X} b None None ≡ None
none_none true = refl
none_none false = refl

module _ (old : BookView) (run : List Numbered) (s : PlainState) (shown : ShowsRun old run s) (r : IsRun old.job.program run s) (m : ℕ) (revocable : is_revocable run m ≡ true) (qs : List ℕ) (reach : marks.AreReached old.nodes m qs) where
  abbrev gone : ℕ → Bool
  gone = has (reached run m)

  abbrev marked : ℕ → Bool
  marked q = marks.has q qs

  just : (k : Node) → marked k.number ≡ gone k.number → unmarked qs (k ∷ []) ≡ stay gone (k ∷ [])
  just k same = ap (λ b. cond (not b) (k ∷ []) []) same

  one_same : (w : ℕ → ℕ) (q : ℕ) (l : Label) → (is_node l ≡ true → marked q ≡ gone q) → unmarked qs (node_of w q l) ≡ stay gone (node_of w q l)
  one_same w q (Enter t) same = just _ (same refl)
  one_same w q (Spawn t u) same = just _ (same refl)
  one_same w q (Comm a b c) same = just _ (same refl)
  one_same w q (Get t c) same = just _ (same refl)
  one_same w q (Set t c) same = just _ (same refl)
  one_same w q (NewRef t c) same = just _ (same refl)
  one_same w q (Pin t) same = just _ (same refl)
  one_same w q _ same = refl

  all_same : (w : ℕ → ℕ) (before ns : List Numbered) → run ≡ before ++ ns → unmarked qs (nodes_from w ns) ≡ stay gone (nodes_from w ns)
  all_same w before [] cut = refl
  all_same w before (n ∷ ns) cut =
      let rest = nodes_from (wrote_by n.seq.0 n.label w) ns in
      filter-append (λ (k : Node). not (marked k.number)) (node_of w n.seq.0 n.label) rest
      ∙ ap (λ ks. ks ++ unmarked qs rest) (one_same w n.seq.0 n.label (λ node. marks_are run old.nodes r.rises shown.journal.nodes m (uncut_of run m revocable) qs reach before n ns cut node))
      ∙ ap (λ ks. stay gone (node_of w n.seq.0 n.label) ++ ks) (all_same (wrote_by n.seq.0 n.label w) (before ++ n ∷ []) ns (cut ∙ sym (append_assoc before (n ∷ []) ns)))
      ∙ sym (filter-append (λ (k : Node). not (gone k.number)) (node_of w n.seq.0 n.label) rest)

  -- the marked nodes are those that an undo takes away
  pub nodes_dropped : unmarked qs old.nodes ≡ stay gone old.nodes
  nodes_dropped =
      let above = λ (k : Node). nat_lt (floor run) k.number in
      ap (unmarked qs) shown.journal.nodes
      ∙ swap (λ (k : Node). not (marked k.number)) above (nodes_from (λ _. 0) run)
      ∙ ap (filter above) (all_same (λ _. 0) [] run refl)
      ∙ sym (swap (λ (k : Node). not (gone k.number)) above (nodes_from (λ _. 0) run))
      ∙ ap (stay gone) (sym shown.journal.nodes)

  module _ (lines : LineMap) (are : (t : ℕ) → IsLineOf old.nodes qs t (map.get lines t)) where
    -- the step at a line is lost
    pub line_lost : (t : ℕ) (o : Option Line) (q : ℕ) → IsLineOf old.nodes qs t o → is_from q o ≡ true → gone q ≡ true
    line_lost t None q is at = absurd (false≢true at)
    line_lost t (Some Gone) q is at = absurd (false≢true at)
    line_lost t (Some (From p)) q is at =
        let l = lost_mark run old.nodes r.rises shown.journal.nodes m (uncut_of run m revocable) qs reach (graph.acts t) p.0 is.1 in
        ap gone (eqb-true q p.0 at ∙ sym l.number) ∙ l.lost

    not_from : (t q : ℕ) → gone q ≡ false → is_from q (map.get lines t) ≡ false
    not_from t q stays =
        elim (is_from q (map.get lines t)) as (λ b. is_from q (map.get lines t) ≡ b → b ≡ false) [
          | true ↦ λ at. absurd (false≢true (sym stays ∙ line_lost t (map.get lines t) q (are t) at))
          | false ↦ λ at. refl
        ] refl

    dropped_here : (t q : ℕ) (c : ControlView) → saved_of old.saved q t ≡ Some c → cond (marked q || is_from q (map.get lines t)) None (Some c) ≡ cond (gone q) None (Some c)
    dropped_here t q c is =
        let p = old.job.program in
        let at : cond (nat_lt (floor run) q) (stood_at (effect_of p) q t (Some (start p)) run) None ≡ Some (expr_of p c) = sym (shown.journal.saved q t) ∙ ap (option_map (expr_of p)) is in
        let step : IsSaving run q =
        elim (nat_lt (floor run) q) as (λ b. cond b (stood_at (effect_of p) q t (Some (start p)) run) None ≡ Some (expr_of p c) → IsSaving run q) [
          | true ↦ λ at. saving_of (effect_of p) q t (Some (start p)) run (expr_of p c) at
          | false ↦ λ at. absurd (some_none (sym at))
        ] at in
        let same : marked q ≡ gone q =
        subst (λ k. marked k ≡ gone k) step.number (marks_are run old.nodes r.rises shown.journal.nodes m (uncut_of run m revocable) qs reach step.before step.n step.after step.is (saves_node step.n.label step.saved)) in
        ap (λ b. cond (b || is_from q (map.get lines t)) None (Some c)) same
        ∙ (elim (gone q) as (λ b. gone q ≡ b → cond (b || is_from q (map.get lines t)) None (Some c) ≡ cond b None (Some c)) [
          | true ↦ λ lost. refl
          | false ↦ λ stays. ap (λ b. cond b None (Some c)) (not_from t q stays)
        ] refl)

    -- what is left of the saved controls is what isn't saved before a lost step
    pub saved_dropped : (q t : ℕ) → cond (marked q || is_from q (map.get lines t)) None (saved_of old.saved q t) ≡ cond (gone q) None (saved_of old.saved q t)
    saved_dropped q t =
        elim (saved_of old.saved q t) as (λ o. saved_of old.saved q t ≡ o → cond (marked q || is_from q (map.get lines t)) None o ≡ cond (gone q) None o) [
          | None ↦ λ is. none_none (marked q || is_from q (map.get lines t)) ∙ sym (none_none (gone q))
          | (Some c) ↦ λ is. dropped_here t q c is
        ] refl
