-- One pass finds what is reached.
use Rattle.std.proofs.Common.{◌≡◌, ℕ, suc, ◌+◌, ◌<◌, Bool, true, false, cond, not, ◌&&◌, ◌||◌, nat_eq, List, [], ◌∷◌, ◌++◌, drop, length, get_or, append_assoc, drop-cons, add-one, refl, sym, ap, ◌∙◌}
use Rattle.std.specs.List.{list_any}
use Rattle.stab_journal.specs.declared.event.Label.{Label}
use Rattle.stab_journal.specs.declared.event.Numbered.{Numbered}
use Rattle.stab_journal.specs.Label.{actors, touched, written}
use Rattle.stab_journal.specs.Names.{has, is_at, read}
use Rattle.stab_journal.specs.Reached.{Lost, lose, keep, reads_of, depends, is_reached, reached_from, reached}
use Rattle.journal_laws.proofs.Lawful.{or_is, and_is}

pub depends_same : (l : Label) (x y : Lost) → ((t : ℕ) → x.threads t ≡ y.threads t) → ((r : ℕ) → x.references r ≡ y.references r) → depends l x ≡ depends l y
depends_same l x y ht hr = ap (λ (p : ℕ → Bool). list_any p (actors l) || reads_of (read l) x.references) (λ i t. ht t i) ∙ ap (λ (p : ℕ → Bool). list_any y.threads (actors l) || reads_of (read l) p) (λ i r. hr r i)

-- what is reached hangs on the threads and references alone
pub reached_same : (m : ℕ) (ns : List Numbered) (x y : Lost) → ((t : ℕ) → x.threads t ≡ y.threads t) → ((r : ℕ) → x.references r ≡ y.references r) → reached_from m x ns ≡ reached_from m y ns
reached_same m [] x y ht hr = refl
reached_same m (n ∷ ns) x y ht hr =
    ap (λ b. cond (nat_eq m n.seq.0 || b) (n.seq.0 ∷ reached_from m (lose n.label x) ns) (reached_from m (keep n.label x) ns)) (depends_same n.label x y ht hr)
    ∙ ap (λ k. cond (is_reached m n y) (n.seq.0 ∷ k) (reached_from m (keep n.label x) ns)) (reached_same m ns (lose n.label x) (lose n.label y) (λ t. ap (λ b. has (touched n.label) t || b) (ht t)) (λ r. ap (λ b. is_at (written n.label) r || b) (hr r)))
    ∙ ap (λ k. cond (is_reached m n y) (n.seq.0 ∷ reached_from m (lose n.label y) ns) k) (reached_same m ns (keep n.label x) (keep n.label y) ht (λ r. ap (λ b. not (is_at (written n.label) r) && b) (hr r)))

at_step : (m : ℕ) (n : Numbered) (ns : List Numbered) (x y : Lost) (b : Bool) → b ≡ is_reached m n x → ((t : ℕ) → y.threads t ≡ (cond b (has (touched n.label) t) false || x.threads t)) → ((r : ℕ) → y.references r ≡ cond (is_at (written n.label) r) b (x.references r)) → reached_from m x (n ∷ ns) ≡ cond b (n.seq.0 ∷ []) [] ++ reached_from m y ns
at_step m n ns x y true is ts rs = ap (λ b. cond b (n.seq.0 ∷ reached_from m (lose n.label x) ns) (reached_from m (keep n.label x) ns)) (sym is) ∙ ap (λ k. n.seq.0 ∷ k) (reached_same m ns (lose n.label x) y (λ t. sym (ts t)) (λ r. or_is (is_at (written n.label) r) (x.references r) ∙ sym (rs r)))
at_step m n ns x y false is ts rs = ap (λ b. cond b (n.seq.0 ∷ reached_from m (lose n.label x) ns) (reached_from m (keep n.label x) ns)) (sym is) ∙ reached_same m ns (keep n.label x) y (λ t. sym (ts t)) (λ r. and_is (is_at (written n.label) r) (x.references r) ∙ sym (rs r))

-- a step of the pass
pub pass_on : (m i : ℕ) (run : List Numbered) (n d : Numbered) (x y : Lost) (b : Bool) (ks ls : List ℕ) → i < length run → n ≡ get_or run i d → b ≡ is_reached m n x → ((t : ℕ) → y.threads t ≡ (cond b (has (touched n.label) t) false || x.threads t)) → ((r : ℕ) → y.references r ≡ cond (is_at (written n.label) r) b (x.references r))
    → ls ≡ ks ++ cond b (n.seq.0 ∷ []) [] → reached run m ≡ ks ++ reached_from m x (drop i run) → reached run m ≡ ls ++ reached_from m y (drop (i + 1) run)
pass_on m i run n d x y b ks ls lt at is ts rs more so =
    so
    ∙ ap (λ k. ks ++ reached_from m x k) (drop-cons run i d lt ∙ ap (λ k. k ∷ drop (suc i) run) (sym at))
    ∙ ap (λ k. ks ++ k) (at_step m n (drop (suc i) run) x y b is ts rs)
    ∙ sym (append_assoc ks (cond b (n.seq.0 ∷ []) []) (reached_from m y (drop (suc i) run)))
    ∙ ap (λ k. k ++ reached_from m y (drop (suc i) run)) (sym more)
    ∙ ap (λ k. ls ++ reached_from m y (drop k run)) (sym (add-one i))
