-- A step that enters no section, cuts nothing and is no pin leaves which sections can be taken back.
use Rattle.std.proofs.Common.{◌≡◌, ℕ, suc, ◌≤◌, Bool, true, false, cond, not, ◌&&◌, ◌||◌, nat_eq, List, [], ◌∷◌, ◌++◌, refl, ap, ◌∙◌}
use Rattle.std.specs.Prelude.{nat_lt}
use Rattle.stab_journal.specs.declared.event.Numbered.{Numbered}
use Rattle.stab_journal.specs.Floor.{floor, is_cut, is_enter, is_pin, is_entered, has_pin, is_revocable}
use Rattle.stab_journal.specs.Journal.{RiseFrom}
use Rattle.stab_journal.specs.Names.{has}
use Rattle.stab_journal.specs.Reached.{Lost, nothing_lost, lose, keep, is_reached, reached_from, reached}
use Rattle.std.proofs.Math.Bool.{and-false}
use Rattle.journal_laws.proofs.Numbers.{rise_front}
use Rattle.commit_book.proofs.Keeping.Floors.{differs_too, floor_snoc}

-- the last step is reached or it isn't, and the others are reached as before
record IsMore (m : ℕ) (x : Lost) (ns : List Numbered) (n : Numbered) : Type 0 where
  last : Bool
  is : reached_from m x (ns ++ n ∷ []) ≡ reached_from m x ns ++ cond last (n.seq.0 ∷ []) []

more_of : (m : ℕ) (x : Lost) (ns : List Numbered) (n : Numbered) → IsMore m x ns n
more_of m x [] n = record { last = is_reached m n x; is = refl }
more_of m x (k ∷ ns) n =
    let lost = more_of m (lose k.label x) ns n in
    let kept = more_of m (keep k.label x) ns n in
    record {
      last = cond (is_reached m k x) lost.last kept.last;
      is = elim (is_reached m k x) as (λ b. cond b (k.seq.0 ∷ reached_from m (lose k.label x) (ns ++ n ∷ [])) (reached_from m (keep k.label x) (ns ++ n ∷ []))
          ≡ cond b (k.seq.0 ∷ reached_from m (lose k.label x) ns) (reached_from m (keep k.label x) ns) ++ cond (cond b lost.last kept.last) (n.seq.0 ∷ []) []) [
            | true ↦ ap (λ l. k.seq.0 ∷ l) lost.is
            | false ↦ kept.is
          ];
    }

-- another number
has_more : (qs : List ℕ) (b : Bool) (k q : ℕ) → nat_eq k q ≡ false → has (qs ++ cond b (q ∷ []) []) k ≡ has qs k
has_more [] true k q other = ap (λ c. cond c true false) other
has_more [] false k q other = refl
has_more (p ∷ qs) b k q other = ap (cond (nat_eq k p) true) (has_more qs b k q other)

pins_same : (qs : List ℕ) (b : Bool) (p : ℕ) (ns : List Numbered) (n : Numbered) → RiseFrom p (ns ++ n ∷ []) → is_pin n.label ≡ false → has_pin (qs ++ cond b (n.seq.0 ∷ []) []) (ns ++ n ∷ []) ≡ has_pin qs ns
pins_same qs b p [] n rise unpinned = ap (λ c. (has (qs ++ cond b (n.seq.0 ∷ []) []) n.seq.0 && c) || false) unpinned ∙ ap (λ c. c || false) (and-false (has (qs ++ cond b (n.seq.0 ∷ []) []) n.seq.0))
pins_same qs b p (k ∷ ns) n rise unpinned =
    let low : suc k.seq.0 ≤ n.seq.0 = rise_front (suc k.seq.0) ns n [] rise.1 in
    ap (λ c. (c && is_pin k.label) || has_pin (qs ++ cond b (n.seq.0 ∷ []) []) (ns ++ n ∷ [])) (has_more qs b k.seq.0 n.seq.0 (differs_too k.seq.0 n.seq.0 low))
    ∙ ap (λ c. (has qs k.seq.0 && is_pin k.label) || c) (pins_same qs b (suc k.seq.0) ns n rise.1 unpinned)

pub entered_same : (m : ℕ) (ns : List Numbered) (n : Numbered) → is_enter n.label ≡ false → is_entered m (ns ++ n ∷ []) ≡ is_entered m ns
entered_same m [] n plain = ap (λ c. (nat_eq m n.seq.0 && c) || false) plain ∙ ap (λ c. c || false) (and-false (nat_eq m n.seq.0))
entered_same m (k ∷ ns) n plain = ap (λ c. (nat_eq m k.seq.0 && is_enter k.label) || c) (entered_same m ns n plain)

pub revocable_more : (run : List Numbered) (n : Numbered) (m : ℕ) → RiseFrom 1 (run ++ n ∷ []) → is_enter n.label ≡ false → is_cut n.label ≡ false → is_pin n.label ≡ false → is_revocable (run ++ n ∷ []) m ≡ is_revocable run m
revocable_more run n m rise plain uncut unpinned =
    let more = more_of m nothing_lost run n in
    ap (λ c. c && nat_lt (floor (run ++ n ∷ [])) m && not (has_pin (reached (run ++ n ∷ []) m) (run ++ n ∷ []))) (entered_same m run n plain)
    ∙ ap (λ f. is_entered m run && nat_lt f m && not (has_pin (reached (run ++ n ∷ []) m) (run ++ n ∷ []))) (floor_snoc 0 run n uncut)
    ∙ ap (λ qs. is_entered m run && nat_lt (floor run) m && not (has_pin qs (run ++ n ∷ []))) more.is
    ∙ ap (λ c. is_entered m run && nat_lt (floor run) m && not c) (pins_same (reached run m) more.last 1 run n rise unpinned)
