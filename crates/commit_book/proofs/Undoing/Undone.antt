-- What an undo leaves of threads, of saved controls and of writes, by the law of surviving runs.
use Rattle.std.proofs.Common.{◌≡◌, ◌⊎◌, inl, inr, ℕ, suc, ◌<◌, Bool, true, false, cond, ◌&&◌, ◌||◌, nat_eq, List, [], ◌∷◌, ◌++◌, Option, Some, None, refl, sym, ap, subst, ◌∙◌}
use Rattle.std.specs.Prelude.{option_map, nat_lt}
use Rattle.std.specs.Ordering.{nat_cmp}
use Rattle.std.specs.FinMap as map
use Rattle.std.specs.FinMap.{FinMap}
use Rattle.std.specs.Cmp.{nat_eq_equiv}
use Rattle.std.proofs.lemmas.Bool.{false≢true}
use Rattle.stab_journal.specs.declared.event.Label.{Label}
use Rattle.stab_journal.specs.declared.event.Label.TheVariants.{Spawn}
use Rattle.stab_journal.specs.declared.event.Numbered.{Numbered}
use Rattle.stab_journal.specs.Floor.{floor}
use Rattle.stab_journal.specs.Journal.{RiseFrom}
use Rattle.stab_journal.specs.Label.{actors, spawned, touched}
use Rattle.stab_journal.specs.Names.{has, is_at}
use Rattle.stab_journal.specs.Reached.{nothing_lost, rest}
use Rattle.thread_slots.specs.Slot.{Slot}
use Rattle.ref_log.specs.Log.{Write, kept}
use Rattle.checkpoint_store.specs.Saved.{place_cmp}
use Rattle.language.specs.Steps.{State, Table, after_steps, next}
use Rattle.journal_laws.specs.Lost.{is_hit}
use Rattle.journal_laws.specs.Surviving.{thread_of, IsLawful}
use Rattle.journal_laws.proofs.Beside.{Beside}
use Rattle.journal_laws.proofs.Numbers.{rise_front}
use Rattle.commit_book.specs.References.{writes_at, AreWrites}
use Rattle.commit_book.specs.Run.{saves, writes_in, stood_at}
use Rattle.commit_book.specs.Saved.{saved_of, AreSaved}
use Rattle.commit_book.specs.Threads.{AreThreads}
use Rattle.commit_book.proofs.Keeping.Floors.{less_is, differs}
use Rattle.commit_book.proofs.Undoing.UndoneParts.{stood_lost, stood_rest, writes_rest, floor_rest, left, left_kept}

none_none : {X : Type 0} (b : Bool) → cond {A = Option X} b None None ≡ None
none_none true = refl
none_none false = refl

module _ {C E : Type 0} (expr : C → E) where
  map_map : (o : Option (Slot C)) → option_map (λ (s : Slot C). expr s.control) o ≡ option_map expr (option_map (λ (s : Slot C). s.control) o)
  map_map None = refl
  map_map (Some s) = refl

module _ (gone : ℕ → Bool) (t : ℕ) where
  -- the line of a thread: it lost nothing; or it was spawned by what goes; or the first step that it loses is one in which it acts
  pub data LineOf (run : List Numbered) : Type 0 where
    untouched : is_hit gone t run ≡ false → LineOf run
    unmade : (before : List Numbered) (n : Numbered) (after : List Numbered) → run ≡ before ++ n ∷ after → is_hit gone t before ≡ false → gone n.seq.0 ≡ true → has (touched n.label) t ≡ true → is_at (spawned n.label) t ≡ true → LineOf run
    from : (before : List Numbered) (n : Numbered) (after : List Numbered) → run ≡ before ++ n ∷ after → is_hit gone t before ≡ false → gone n.seq.0 ≡ true → has (touched n.label) t ≡ true → has (actors n.label) t ≡ true → LineOf run

  deeper : (n : Numbered) (ns : List Numbered) → (gone n.seq.0 && has (touched n.label) t) ≡ false → LineOf ns → LineOf (n ∷ ns)
  deeper n ns miss (untouched is) = untouched (ap (λ b. b || is_hit gone t ns) miss ∙ is)
  deeper n ns miss (unmade before k after cut none goes at spawns) = unmade (n ∷ before) k after (ap (λ l. n ∷ l) cut) (ap (λ b. b || is_hit gone t before) miss ∙ none) goes at spawns
  deeper n ns miss (from before k after cut none goes at acts) = from (n ∷ before) k after (ap (λ l. n ∷ l) cut) (ap (λ b. b || is_hit gone t before) miss ∙ none) goes at acts

  spawn_case : (u v : ℕ) → has (u ∷ v ∷ []) t ≡ true → (nat_eq t v ≡ true) ⊎ (has (u ∷ []) t ≡ true)
  spawn_case u v at = elim (nat_eq t u) as (λ b. cond b true (cond (nat_eq t v) true false) ≡ true → (nat_eq t v ≡ true) ⊎ (cond b true false ≡ true)) [
    | true ↦ λ at. inr refl
    | false ↦ λ at. elim (nat_eq t v) as (λ b. cond b true false ≡ true → (b ≡ true) ⊎ (false ≡ true)) [ true ↦ λ h. inl refl | false ↦ λ h. absurd (false≢true h) ] at
  ] at

  pub acts_or_spawned : (l : Label) → has (touched l) t ≡ true → (is_at (spawned l) t ≡ true) ⊎ (has (actors l) t ≡ true)
  acts_or_spawned (Spawn u v) at = spawn_case u.0 v.0 at
  acts_or_spawned _ at = inr at

  and_both : (a b : Bool) → (a && b) ≡ true → (a ≡ true) × (b ≡ true)
  and_both true b h = (refl, h)
  and_both false b h = absurd (false≢true h)

  line_here : (n : Numbered) (ns : List Numbered) → (gone n.seq.0 ≡ true) × (has (touched n.label) t ≡ true) → (is_at (spawned n.label) t ≡ true) ⊎ (has (actors n.label) t ≡ true) → LineOf (n ∷ ns)
  line_here n ns hit (inl spawns) = unmade [] n ns refl refl hit.0 hit.1 spawns
  line_here n ns hit (inr acts) = from [] n ns refl refl hit.0 hit.1 acts

  pub line_of : (run : List Numbered) → LineOf run
  line_of [] = untouched refl
  line_of (n ∷ ns) =
      elim (gone n.seq.0 && has (touched n.label) t) as (λ b. (gone n.seq.0 && has (touched n.label) t) ≡ b → LineOf (n ∷ ns)) [
        | true ↦ λ is. let hit = and_both (gone n.seq.0) (has (touched n.label) t) is in line_here n ns hit (acts_or_spawned n.label hit.1)
        | false ↦ λ is. deeper n ns is (line_of ns)
      ] refl

module _ {E : Type 0} (effect : Table E) where
  -- where the actor of a step that saves stood is where it stood after the steps before
  pub stood_here : (before : List Numbered) (o : Option (State E)) (n : Numbered) (after : List Numbered) (q t : ℕ) → RiseFrom q (before ++ n ∷ after) → saves n.label ≡ true → has (actors n.label) t ≡ true → stood_at effect n.seq.0 t o (before ++ n ∷ after) ≡ thread_of (after_steps effect o before) t
  stood_here [] o n after q t rise saved acts =
      ap (λ b. cond b (cond (saves n.label && has (actors n.label) t) (thread_of o t) None) (stood_at effect n.seq.0 t (next effect o n) after)) (nat_eq_equiv.refl n.seq.0)
      ∙ ap (λ b. cond (b && has (actors n.label) t) (thread_of o t) None) saved
      ∙ ap (λ b. cond b (thread_of o t) None) acts
  stood_here (k ∷ before) o n after q t rise saved acts =
      ap (λ b. cond b (cond (saves k.label && has (actors k.label) t) (thread_of o t) None) (stood_at effect n.seq.0 t (next effect o k) (before ++ n ∷ after))) (differs n.seq.0 k.seq.0 (rise_front (suc k.seq.0) before n after rise.1))
      ∙ stood_here before (next effect o k) n after (suc k.seq.0) t rise.1 saved acts

module _ {C E : Type 0} (expr : C → E) (effect : Table E) (gone : ℕ → Bool) where
  -- what carrying out leaves of the threads: those without a line stay, the unmade ones go, the others get what is saved at their lines
  pub record AreRestored (run : List Numbered) (saved : FinMap place_cmp C) (old new : FinMap nat_cmp (Slot C)) : Type 0 where
    pub untouched : (t : ℕ) → is_hit gone t run ≡ false → map.get new t ≡ map.get old t
    pub unmade : (t : ℕ) (before : List Numbered) (n : Numbered) (after : List Numbered) → run ≡ before ++ n ∷ after → gone n.seq.0 ≡ true → is_at (spawned n.label) t ≡ true → map.get new t ≡ None
    pub restored : (t : ℕ) (before : List Numbered) (n : Numbered) (after : List Numbered) → run ≡ before ++ n ∷ after → is_hit gone t before ≡ false → gone n.seq.0 ≡ true → has (actors n.label) t ≡ true → option_map (λ (s : Slot C). s.control) (map.get new t) ≡ saved_of saved n.seq.0 t

  -- after an undo the threads are those of the end of what stays, where each one's first lost step has a saved control
  pub threads_undone : (start end at : State E) (run : List Numbered) (saved : FinMap place_cmp C) (old new : FinMap nat_cmp (Slot C)) (q : ℕ) → RiseFrom q run
      → IsLawful effect gone start run end at
      → ((u : ℕ) (before : List Numbered) (n : Numbered) (after : List Numbered) → run ≡ before ++ n ∷ after → gone n.seq.0 ≡ true → is_at (spawned n.label) u ≡ true → map.get at.threads u ≡ None)
      → ((t : ℕ) (before : List Numbered) (n : Numbered) (after : List Numbered) → run ≡ before ++ n ∷ after → is_hit gone t before ≡ false → gone n.seq.0 ≡ true → has (actors n.label) t ≡ true → (saves n.label ≡ true) × (floor run < n.seq.0))
      → AreThreads expr old end → AreSaved expr effect saved start run → AreRestored run saved old new → AreThreads expr new at
  threads_undone start end at run saved old new q rise law unspawned first shown kept r t = elim (line_of gone t run) [
    | (untouched none) ↦ ap (option_map (λ (s : Slot C). expr s.control)) (r.untouched t none) ∙ shown t ∙ sym (law.threads t none)
    | (unmade before n after cut none goes at' spawns) ↦
        ap (option_map (λ (s : Slot C). expr s.control)) (r.unmade t before n after cut goes spawns) ∙ sym (unspawned t before n after cut goes spawns)
    | (from before n after cut none goes at' acts) ↦
        let why = first t before n after cut none goes acts in
        map_map expr (map.get new t)
        ∙ ap (option_map expr) (r.restored t before n after cut none goes acts)
        ∙ kept n.seq.0 t
        ∙ ap (λ b. cond b (stood_at effect n.seq.0 t (Some start) run) None) (less_is (floor run) n.seq.0 why.1)
        ∙ ap (stood_at effect n.seq.0 t (Some start)) cut
        ∙ stood_here effect before (Some start) n after q t (subst (λ (l : List Numbered). RiseFrom q l) cut rise) why.0 acts
        ∙ sym (law.stands t before n after cut none goes at')
  ]

  -- after an undo one control is saved for each actor of what stays, and nothing else
  pub saved_undone : (start : State E) (run : List Numbered) (saved new : FinMap place_cmp C) (q : ℕ) → RiseFrom q run → ((k : ℕ) → gone k ≡ true → floor run < k) → Beside effect gone nothing_lost start start run
      → ((k t : ℕ) → saved_of new k t ≡ cond (gone k) None (saved_of saved k t))
      → AreSaved expr effect saved start run → AreSaved expr effect new start (rest gone run)
  saved_undone start run saved new p rise above pass dropped is q t =
      let fl : floor (rest gone run) ≡ floor run = floor_rest gone run 0 p rise above in
      ap (option_map expr) (dropped q t)
      ∙ (elim (gone q) as (λ b. gone q ≡ b → option_map expr (cond b None (saved_of saved q t)) ≡ cond (nat_lt (floor run) q) (stood_at effect q t (Some start) (rest gone run)) None) [
        | true ↦ λ goes. sym (ap (λ o. cond (nat_lt (floor run) q) o None) (stood_lost effect gone q t run (Some start) goes) ∙ none_none {X = E} (nat_lt (floor run) q))
        | false ↦ λ stays. is q t ∙ ap (λ o. cond (nat_lt (floor run) q) o None) (sym (stood_rest effect gone q t stays nothing_lost start start run pass))
      ] refl)
      ∙ sym (ap (λ k. cond (nat_lt k q) (stood_at effect q t (Some start) (rest gone run)) None) fl)

  -- after an undo the kept writes are those of what stays
  pub writes_undone : (start : State E) (run : List Numbered) (last_cut : ℕ) (references new : FinMap nat_cmp (List Write)) (q : ℕ) → RiseFrom q run → ((k : ℕ) → gone k ≡ true → floor run < k) → Beside effect gone nothing_lost start start run
      → ((r : ℕ) → writes_at new r ≡ left gone (writes_at references r))
      → AreWrites effect last_cut references start run → AreWrites effect last_cut new start (rest gone run)
  writes_undone start run last_cut references new p rise above pass struck is =
      let fl : floor (rest gone run) ≡ floor run = floor_rest gone run 0 p rise above in
      record {
        cut = is.cut ∙ sym fl;
        writes = λ r. struck r ∙ ap (left gone) (is.writes r) ∙ left_kept gone (floor run) above (writes_in effect r (Some start) run)
            ∙ ap (kept (floor run)) (sym (writes_rest effect gone r nothing_lost start start run pass))
            ∙ ap (λ k. kept k (writes_in effect r (Some start) (rest gone run))) (sym fl);
      }
