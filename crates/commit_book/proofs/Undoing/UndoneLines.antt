-- The lines that a plan has, from what a run loses: so carrying the plan out leaves the threads as an undo does.
use Rattle.std.proofs.Common.{◌≡◌, ℕ, suc, ◌<◌, ◌≤◌, Bool, true, false, cond, ◌&&◌, ◌||◌, nat_eq, List, [], ◌∷◌, ◌++◌, Option, Some, None, IsSome, refl, sym, ap, subst, ◌∙◌, arith}
use Rattle.std.specs.Prelude.{nat_lt, option_and_then, option_map}
use Rattle.std.specs.Ordering.{nat_cmp}
use Rattle.std.specs.FinMap as map
use Rattle.std.specs.FinMap.{FinMap}
use Rattle.std.proofs.lemmas.Bool.{false≢true}
use Rattle.std.proofs.lemmas.Bool.Decides.{nat_tests}
use Rattle.stab_journal.specs.declared.event.Label.{Label}
use Rattle.stab_journal.specs.declared.event.Label.TheVariants.{Spawn, Comm, Get, Enter}
use Rattle.stab_journal.specs.declared.event.Numbered.{Numbered}
use Rattle.stab_journal.specs.Floor.{is_revocable}
use Rattle.stab_journal.specs.Journal.{RiseFrom}
use Rattle.stab_journal.specs.Label.{actors, spawned, touched}
use Rattle.stab_journal.specs.Names.{has, is_at}
use Rattle.stab_journal.specs.Reached.{reached}
use Rattle.thread_slots.specs.Slot.{Slot, restored}
use Rattle.checkpoint_store.specs.Saved.{place_cmp}
use Rattle.comm_graph.specs.Node as graph
use Rattle.comm_graph.specs.Node.{Node}
use Rattle.reach_line.specs.Reached as marks
use Rattle.restore.specs.declared.line.Line.{Line}
use Rattle.restore.specs.declared.line.Line.TheVariants.{From, Gone}
use Rattle.restore.specs.Line.{starts, IsLineOf}
use Rattle.restore.specs.Left.{LineMap, put_back}
use Rattle.journal_laws.specs.Lines.{is_node}
use Rattle.journal_laws.specs.Lost.{is_hit}
use Rattle.journal_laws.proofs.Chains.{or_right}
use Rattle.journal_laws.proofs.Gone.{spawn_touches}
use Rattle.journal_laws.proofs.Held.{parts_of}
use Rattle.journal_laws.proofs.Numbers.{rise_front}
use Rattle.commit_book.specs.Graph.{AreNodesOf}
use Rattle.commit_book.specs.Run.{saves}
use Rattle.commit_book.specs.Saved.{saved_of}
use Rattle.commit_book.proofs.Undoing.UndoneEdges.{IsKindOf, kind_step, marked_as, lost_mark, stays_above, uncut_of}
use Rattle.commit_book.proofs.Undoing.UndoneThreads.{IsBack, AreCarried, first_saved}

acts_touched : (l : Label) (t : ℕ) → has (actors l) t ≡ true → has (touched l) t ≡ true
acts_touched (Spawn a b) t h = elim (nat_eq t a.0) as (λ c. cond c true false ≡ true → cond c true (cond (nat_eq t b.0) true false) ≡ true) [ true ↦ λ h. refl | false ↦ λ h. absurd (false≢true h) ] h
acts_touched _ t h = h

spawn_node : (l : Label) (t : ℕ) → is_at (spawned l) t ≡ true → is_node l ≡ true
spawn_node (Spawn a b) t h = refl
spawn_node _ t h = absurd (false≢true h)

-- a lost step that touches the thread
pub hit_here : (gone : ℕ → Bool) (t : ℕ) (before : List Numbered) (n : Numbered) (after : List Numbered) → gone n.seq.0 ≡ true → has (touched n.label) t ≡ true → is_hit gone t (before ++ n ∷ after) ≡ true
hit_here gone t [] n after goes at = ap (λ b. (b && has (touched n.label) t) || is_hit gone t after) goes ∙ ap (λ b. b || is_hit gone t after) at
hit_here gone t (k ∷ before) n after goes at = or_right (gone k.seq.0 && has (touched k.label) t) _ (hit_here gone t before n after goes at)

-- a step of a smaller number stands before another one
pub record IsEarlier (before : List Numbered) (f : Numbered) : Type 0 where
  pub front : List Numbered
  pub back : List Numbered
  pub is : before ≡ front ++ f ∷ back

pub earlier_in : (p : ℕ) (b : List Numbered) (f : Numbered) (a before : List Numbered) (n : Numbered) (after : List Numbered) → RiseFrom p (b ++ f ∷ a) → b ++ f ∷ a ≡ before ++ n ∷ after → f.seq.0 < n.seq.0 → IsEarlier before f
earlier_in p [] f a [] n after rise cut low =
    let same : f ≡ n = cc in
    let number : f.seq.0 ≡ n.seq.0 = ap (λ (k : Numbered). k.seq.0) same in
    absurd (omega arith)
earlier_in p [] f a (k ∷ before) n after rise cut low = let same : k ≡ f = cc in record { front = []; back = before; is = ap (λ (j : Numbered). j ∷ before) same }
earlier_in p (j ∷ b) f a [] n after rise cut low =
    let same : j ≡ n = cc in
    let number : j.seq.0 ≡ n.seq.0 = ap (λ (k : Numbered). k.seq.0) same in
    let over : suc j.seq.0 ≤ f.seq.0 = rise_front (suc j.seq.0) b f a rise.1 in
    absurd (omega arith)
earlier_in p (j ∷ b) f a (k ∷ before) n after rise cut low =
    let same : j ≡ k = cc in
    let e = earlier_in (suc j.seq.0) b f a before n after rise.1 (cc) low in
    record { front = k ∷ e.front; back = e.back; is = ap (λ l. k ∷ l) e.is }

below_is : (a b : ℕ) → nat_lt a b ≡ true → a < b
below_is a b h = grind (arith, nat_tests)

not_below : (a b : ℕ) → nat_lt a b ≡ false → b ≤ a
not_below a b h = grind (arith, nat_tests)

both_ways : (a b : ℕ) → a ≤ b → b ≤ a → a ≡ b
both_ways a b low high = omega arith

pub saves_node : (l : Label) → saves l ≡ true → is_node l ≡ true
saves_node (Enter t) h = refl
saves_node (Comm s r c) h = refl
saves_node (Get t r) h = refl
saves_node _ h = absurd (false≢true h)

-- a thread that its line and the saved control put back
back_of : {C : Type 0} (saved : FinMap place_cmp C) (line : Option Line) (old new : Option (Slot C)) (q t : ℕ) → line ≡ Some (From (record { 0 = q })) → new ≡ put_back (λ k. saved_of saved k t) line old → IsSome old → IsSome (saved_of saved q t) → IsBack saved old new q t
back_of saved line None new q t is now live kept = absurd (false≢true live)
back_of {C} saved line (Some slot) new q t is now live kept =
    elim (saved_of saved q t) as (λ s. saved_of saved q t ≡ s → IsSome s → IsBack saved (Some slot) new q t) [
      | None ↦ λ e h. absurd (false≢true h)
      | (Some c) ↦ λ e h. record {
        slot = slot;
        control = c;
        was = refl;
        kept = e;
        now = now ∙ ap (λ l. put_back (λ k. saved_of saved k t) l (Some slot)) is ∙ ap (λ (s : Option C). option_and_then (λ c. option_map (restored c) (Some slot)) s) e;
      }
    ] refl kept

module _ (run : List Numbered) (nodes : List Node) (rise : RiseFrom 1 run) (are : AreNodesOf nodes run) (m : ℕ) (revocable : is_revocable run m ≡ true) (qs : List ℕ) (reach : marks.AreReached nodes m qs) where
  abbrev gone : ℕ → Bool
  gone = has (reached run m)

  own : (before : List Numbered) (n : Numbered) (after : List Numbered) → run ≡ before ++ n ∷ after → is_node n.label ≡ true → gone n.seq.0 ≡ true → IsKindOf nodes n
  own before n after cut node lost = kind_step run nodes rise are n before after cut node (stays_above run m n.seq.0 rise (uncut_of run m revocable) lost)

  -- a thread that loses nothing has no line
  pub line_untouched : (t : ℕ) (o : Option Line) → is_hit gone t run ≡ false → IsLineOf nodes qs t o → o ≡ None
  line_untouched t None miss is = refl
  line_untouched t (Some Gone) miss is =
      let l = lost_mark run nodes rise are m (uncut_of run m revocable) qs reach (starts t) is.0 is.1 in
      absurd (false≢true (sym miss ∙ ap (is_hit gone t) l.is ∙ hit_here gone t l.before l.f l.after l.lost (spawn_touches l.f.label t (sym (l.kind.starts t) ∙ l.passes))))
  line_untouched t (Some (From q)) miss is =
      let l = lost_mark run nodes rise are m (uncut_of run m revocable) qs reach (graph.acts t) q.0 is.1 in
      absurd (false≢true (sym miss ∙ ap (is_hit gone t) l.is ∙ hit_here gone t l.before l.f l.after l.lost (acts_touched l.f.label t (sym (l.kind.acts t) ∙ l.passes))))

  -- a thread that a lost step spawned is gone
  pub line_unmade : (t : ℕ) (o : Option Line) (before : List Numbered) (n : Numbered) (after : List Numbered) → run ≡ before ++ n ∷ after → gone n.seq.0 ≡ true → is_at (spawned n.label) t ≡ true → IsLineOf nodes qs t o → o ≡ Some Gone
  unfolding own
  line_unmade t o before n after cut lost spawns =
      let node = spawn_node n.label t spawns in
      let k = own before n after cut node lost in
      elim o as (λ o. IsLineOf nodes qs t o → o ≡ Some Gone) [
        | None ↦ λ is. absurd (is n.seq.0 (marked_as run nodes rise are m (uncut_of run m revocable) qs reach (graph.touches t) before n after cut node lost (k.touches t ∙ spawn_touches n.label t spawns)))
        | (Some line) ↦ elim line as (λ l. IsLineOf nodes qs t (Some l) → Some l ≡ Some Gone) [
          | Gone ↦ λ is. refl
          | (From q) ↦ λ is. absurd (is.0 n.seq.0 (marked_as run nodes rise are m (uncut_of run m revocable) qs reach (starts t) before n after cut node lost (k.starts t ∙ spawns)))
        ]
      ]

  -- any other goes back to before the first step that it loses
  pub line_from : (t : ℕ) (o : Option Line) (before : List Numbered) (n : Numbered) (after : List Numbered) → run ≡ before ++ n ∷ after → is_hit gone t before ≡ false → gone n.seq.0 ≡ true → has (actors n.label) t ≡ true → is_node n.label ≡ true
      → ((b : List Numbered) (e : Numbered) (a : List Numbered) → run ≡ b ++ e ∷ a → gone e.seq.0 ≡ true → is_at (spawned e.label) t ≡ true → ⊥)
      → IsLineOf nodes qs t o → o ≡ Some (From (record { 0 = n.seq.0 }))
  unfolding own
  line_from t o before n after cut miss lost acts node alive =
      let k = own before n after cut node lost in
      elim o as (λ o. IsLineOf nodes qs t o → o ≡ Some (From (record { 0 = n.seq.0 }))) [
        | None ↦ λ is. absurd (is n.seq.0 (marked_as run nodes rise are m (uncut_of run m revocable) qs reach (graph.touches t) before n after cut node lost (k.touches t ∙ acts_touched n.label t acts)))
        | (Some line) ↦ elim line as (λ l. IsLineOf nodes qs t (Some l) → Some l ≡ Some (From (record { 0 = n.seq.0 }))) [
          | Gone ↦ λ is. let l = lost_mark run nodes rise are m (uncut_of run m revocable) qs reach (starts t) is.0 is.1 in absurd (alive l.before l.f l.after l.is l.lost (sym (l.kind.starts t) ∙ l.passes))
          | (From q) ↦ λ is.
              let l = lost_mark run nodes rise are m (uncut_of run m revocable) qs reach (graph.acts t) q.0 is.1 in
              let low : q.0 ≤ n.seq.0 = is.2 n.seq.0 (marked_as run nodes rise are m (uncut_of run m revocable) qs reach (graph.acts t) before n after cut node lost (k.acts t ∙ acts)) in
              let high : n.seq.0 ≤ q.0 = (elim (nat_lt l.f.seq.0 n.seq.0) as (λ b. nat_lt l.f.seq.0 n.seq.0 ≡ b → n.seq.0 ≤ q.0) [
                | true ↦ λ e.
                    let at = earlier_in 1 l.before l.f l.after before n after (subst (λ (r : List Numbered). RiseFrom 1 r) l.is rise) (sym l.is ∙ cut) (below_is l.f.seq.0 n.seq.0 e) in
                    absurd (false≢true (sym miss ∙ ap (is_hit gone t) at.is ∙ hit_here gone t at.front l.f at.back l.lost (acts_touched l.f.label t (sym (l.kind.acts t) ∙ l.passes))))
                | false ↦ λ e. subst (λ k. n.seq.0 ≤ k) l.number (not_below l.f.seq.0 n.seq.0 e)
              ] refl) in
              ap (λ k. Some (From (record { 0 = k }))) (both_ways q.0 n.seq.0 low high)
        ]
      ]

  -- what carrying a plan with these lines out leaves of the threads is what an undo leaves, where those that go back are live, have a saved control, and weren't spawned by a lost step
  pub carried : {C : Type 0} (saved : FinMap place_cmp C) (old new : FinMap nat_cmp (Slot C)) (lines : LineMap)
      → ((t : ℕ) → IsLineOf nodes qs t (map.get lines t))
      → ((t : ℕ) → map.get new t ≡ put_back (λ q. saved_of saved q t) (map.get lines t) (map.get old t))
      → ((t : ℕ) (before : List Numbered) (n : Numbered) (after : List Numbered) → run ≡ before ++ n ∷ after → is_hit gone t before ≡ false → gone n.seq.0 ≡ true → has (actors n.label) t ≡ true
      → (IsSome (map.get old t) × IsSome (saved_of saved n.seq.0 t) × ((b : List Numbered) (e : Numbered) (a : List Numbered) → run ≡ b ++ e ∷ a → gone e.seq.0 ≡ true → is_at (spawned e.label) t ≡ true → ⊥)))
      → AreCarried gone run saved old new
  carried {C} saved old new lines are_lines now known = record {
    untouched = λ t miss. now t ∙ ap (λ l. put_back (λ q. saved_of saved q t) l (map.get old t)) (line_untouched t (map.get lines t) miss (are_lines t));
    unmade = λ t before n after cut lost spawns. now t ∙ ap (λ l. put_back (λ q. saved_of saved q t) l (map.get old t)) (line_unmade t (map.get lines t) before n after cut lost spawns (are_lines t));
    back = λ t before n after cut miss lost acts.
        let k = known t before n after cut miss lost acts in
        let node = saves_node n.label (first_saved run m rise (parts_of run m revocable).entered t before n after cut miss lost acts) in
        back_of saved (map.get lines t) (map.get old t) (map.get new t) n.seq.0 t (line_from t (map.get lines t) before n after cut miss lost acts node k.2 (are_lines t)) (now t) k.0 k.1;
  }
