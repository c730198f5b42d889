-- A thread that no event names was never put back.
use Rattle.std.proofs.Common.{◌≡◌, ℕ, suc, Bool, true, false, cond, ◌&&◌, ◌||◌, List, [], ◌∷◌, nat_eq, refl, ap, ◌∙◌}
use Rattle.std.specs.List.{flat_map}
use Rattle.stab_journal.specs.declared.event.Event.{Event}
use Rattle.stab_journal.specs.declared.event.Label.{Label}
use Rattle.stab_journal.specs.declared.event.Label.TheVariants.{Spawn}
use Rattle.stab_journal.specs.declared.event.Numbered.{Numbered}
use Rattle.stab_journal.specs.declared.event.What.{What}
use Rattle.stab_journal.specs.declared.event.What.TheVariants.{Step, Undo, Release}
use Rattle.stab_journal.specs.Generation.{acts_in, puts_back, generation_from, generation}
use Rattle.stab_journal.specs.Label.{actors, touched}
use Rattle.stab_journal.specs.Names.{has}
use Rattle.stab_journal.specs.Reached.{reached}
use Rattle.stab_journal.specs.Surviving.{after_event}
use Rattle.stab_journal.specs.Numbers.{threads_by}
use Rattle.commit_book.proofs.Keeping.Unnamed.{cond_false, named_in, in_event, left_part, right_part}

acts_touches : (l : Label) (t : ℕ) → has (touched l) t ≡ false → has (actors l) t ≡ false
acts_touches (Spawn a b) t h = ap (λ k. cond k true false) (cond_false (nat_eq t a.0) (has (b.0 ∷ []) t) h).0
acts_touches _ t h = h

acts_none : (gone : ℕ → Bool) (t : ℕ) (run : List Numbered) → has (named_in touched run) t ≡ false → acts_in gone t run ≡ false
acts_none gone t [] h = refl
acts_none gone t (n ∷ ns) h =
    ap (λ b. (gone n.seq.0 && b) || acts_in gone t ns) (acts_touches n.label t (left_part (touched n.label) (named_in touched ns) t h))
    ∙ (elim (gone n.seq.0) as (λ b. ((b && false) || acts_in gone t ns) ≡ false) [
      | true ↦ acts_none gone t ns (right_part (touched n.label) (named_in touched ns) t h)
      | false ↦ acts_none gone t ns (right_part (touched n.label) (named_in touched ns) t h)
    ])

not_put_back : (t : ℕ) (w : What) (run : List Numbered) → has (named_in touched run) t ≡ false → puts_back t w run ≡ false
not_put_back t (Step l) run h = refl
not_put_back t (Undo u m) run h = acts_none (has (reached run m.0)) t run h
not_put_back t (Release k) run h = refl

never : (t q : ℕ) (run : List Numbered) (es : List Event) (g : ℕ) → has (named_in touched run) t ≡ false → has (flat_map (λ (e : Event). threads_by e.what) es) t ≡ false → generation_from t q run es g ≡ g
never t q run [] g h k = refl
never t q run (e ∷ es) g h k =
    ap (λ b. generation_from t (suc q) (after_event q e.what run) es (cond b (suc g) g)) (not_put_back t e.what run h)
    ∙ never t (suc q) (after_event q e.what run) es g
    (in_event touched threads_by (λ l. refl) t q e.what run h (left_part (threads_by e.what) (flat_map (λ (j : Event). threads_by j.what) es) t k))
    (right_part (threads_by e.what) (flat_map (λ (j : Event). threads_by j.what) es) t k)

-- so the thread that is spawned next begins with the generation 0
pub generation_fresh : (t : ℕ) (es : List Event) → has (flat_map (λ (e : Event). threads_by e.what) es) t ≡ false → generation t es ≡ 0
generation_fresh t es k = never t 1 [] es 0 refl k
