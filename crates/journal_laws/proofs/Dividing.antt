-- One pass divides a run by what is reached.
use Rattle.std.proofs.Common.{◌≡◌, ℕ, suc, ◌+◌, ◌<◌, Bool, true, false, cond, not, ◌&&◌, ◌||◌, nat_eq, List, [], ◌∷◌, ◌++◌, drop, length, get_or, append-nil, append_assoc, drop-cons, add-one, refl, sym, ap, subst, ◌∙◌}
use Rattle.stab_journal.specs.declared.event.Label.{Label}
use Rattle.stab_journal.specs.declared.event.Numbered.{Numbered}
use Rattle.stab_journal.specs.Journal.{RiseFrom}
use Rattle.stab_journal.specs.Label.{touched, written}
use Rattle.stab_journal.specs.Names.{has, is_at}
use Rattle.stab_journal.specs.Reached.{Lost, nothing_lost, after_step, is_reached, reached, rest}
use Rattle.journal_laws.specs.Pass.{lost_in}
use Rattle.journal_laws.proofs.Lawful.{or_is, and_is}
use Rattle.journal_laws.proofs.Passing.{depends_same}
use Rattle.journal_laws.proofs.Reaching.{reached_by}
use Rattle.journal_laws.proofs.Without.{IsReachedBy}

-- what the steps behind are reached by hangs on the threads and references alone
by_same : (m : ℕ) (gone : ℕ → Bool) (ns : List Numbered) (x y : Lost) → ((t : ℕ) → x.threads t ≡ y.threads t) → ((r : ℕ) → x.references r ≡ y.references r) → IsReachedBy m gone x ns → IsReachedBy m gone y ns
by_same m gone [] x y ht hr by = tt
by_same m gone (n ∷ ns) x y ht hr by = (
  by.0 ∙ ap (λ b. nat_eq m n.seq.0 || b) (depends_same n.label x y ht hr),
  by_same m gone ns (after_step (gone n.seq.0) n.label x) (after_step (gone n.seq.0) n.label y)
      (λ t. elim (gone n.seq.0) as (λ b. (after_step b n.label x).threads t ≡ (after_step b n.label y).threads t) [
        | true ↦ ap (λ b. has (touched n.label) t || b) (ht t)
        | false ↦ ht t
      ])
      (λ r. elim (gone n.seq.0) as (λ b. (after_step b n.label x).references r ≡ (after_step b n.label y).references r) [
        | true ↦ ap (λ b. is_at (written n.label) r || b) (hr r)
        | false ↦ ap (λ b. not (is_at (written n.label) r) && b) (hr r)
      ])
      by.1,
)

-- of a run, what stays and what goes of its front, where x is lost behind that
pub record IsDivided (m : ℕ) (gone : ℕ → Bool) (run kept lost left : List Numbered) (x : Lost) : Type 0 where
  pub stays : rest gone run ≡ kept ++ rest gone left
  pub goes : rest (λ q. not (gone q)) run ≡ lost ++ rest (λ q. not (gone q)) left
  pub by : IsReachedBy m gone x left

-- a step goes to one of the parts
one_part : (gone : ℕ → Bool) (n : Numbered) (ns ks : List Numbered) (b : Bool) → gone n.seq.0 ≡ b → ks ++ rest gone (n ∷ ns) ≡ (ks ++ cond (not b) (n ∷ []) []) ++ rest gone ns
one_part gone n ns ks true is = ap (λ b. ks ++ cond b (rest gone ns) (n ∷ rest gone ns)) is ∙ ap (λ k. k ++ rest gone ns) (sym (append-nil ks))
one_part gone n ns ks false is = ap (λ b. ks ++ cond b (rest gone ns) (n ∷ rest gone ns)) is ∙ sym (append_assoc ks (n ∷ []) (rest gone ns))

twice : (b : Bool) → not (not b) ≡ b
twice true = refl
twice false = refl

threads_after : (b : Bool) (l : Label) (x : Lost) (t : ℕ) → (after_step b l x).threads t ≡ (cond b (has (touched l) t) false || x.threads t)
threads_after true l x t = refl
threads_after false l x t = refl

references_after : (b : Bool) (l : Label) (x : Lost) (r : ℕ) → (after_step b l x).references r ≡ cond (is_at (written l) r) b (x.references r)
references_after true l x r = or_is (is_at (written l) r) (x.references r)
references_after false l x r = and_is (is_at (written l) r) (x.references r)

-- a step of the pass over the front step
divide_one : (m : ℕ) (gone : ℕ → Bool) (run : List Numbered) (n : Numbered) (ns : List Numbered) (x y : Lost) (b : Bool) (ks ls ks' ls' : List Numbered) → b ≡ is_reached m n x
    → ((t : ℕ) → y.threads t ≡ (cond b (has (touched n.label) t) false || x.threads t)) → ((r : ℕ) → y.references r ≡ cond (is_at (written n.label) r) b (x.references r))
    → ks' ≡ ks ++ cond (not b) (n ∷ []) [] → ls' ≡ ls ++ cond b (n ∷ []) [] → IsDivided m gone run ks ls (n ∷ ns) x → IsDivided m gone run ks' ls' ns y
divide_one m gone run n ns x y b ks ls ks' ls' is ts rs stays goes h =
    let this : gone n.seq.0 ≡ b = h.by.0 ∙ sym is in record {
      stays = h.stays ∙ one_part gone n ns ks b this ∙ ap (λ k. k ++ rest gone ns) (sym stays);
      goes = h.goes ∙ one_part (λ q. not (gone q)) n ns ls (not b) (ap not this) ∙ ap (λ c. (ls ++ cond c (n ∷ []) []) ++ rest (λ q. not (gone q)) ns) (twice b) ∙ ap (λ k. k ++ rest (λ q. not (gone q)) ns) (sym goes);
      by = by_same m gone ns (after_step b n.label x) y (λ t. threads_after b n.label x t ∙ sym (ts t)) (λ r. references_after b n.label x r ∙ sym (rs r))
          (subst (λ c. IsReachedBy m gone (after_step c n.label x) ns) this h.by.1);
    }

-- the same at a place of the run
pub divide_on : (m i : ℕ) (gone : ℕ → Bool) (run : List Numbered) (n d : Numbered) (x y : Lost) (b : Bool) (ks ls ks' ls' : List Numbered) → i < length run → n ≡ get_or run i d → b ≡ is_reached m n x
    → ((t : ℕ) → y.threads t ≡ (cond b (has (touched n.label) t) false || x.threads t)) → ((r : ℕ) → y.references r ≡ cond (is_at (written n.label) r) b (x.references r))
    → ks' ≡ ks ++ cond (not b) (n ∷ []) [] → ls' ≡ ls ++ cond b (n ∷ []) [] → IsDivided m gone run ks ls (drop i run) x → IsDivided m gone run ks' ls' (drop (i + 1) run) y
divide_on m i gone run n d x y b ks ls ks' ls' lt at is ts rs stays goes h =
    subst (λ k. IsDivided m gone run ks' ls' (drop k run) y) (sym (add-one i))
    (divide_one m gone run n (drop (suc i) run) x y b ks ls ks' ls' is ts rs stays goes
    (subst (λ k. IsDivided m gone run ks ls k x) (drop-cons run i d lt ∙ ap (λ k. k ∷ drop (suc i) run) (sym at)) h))

at_first : (m : ℕ) (run : List Numbered) → RiseFrom 1 run → IsDivided m (has (reached run m)) run [] [] run nothing_lost
at_first m run rise = record { stays = refl; goes = refl; by = reached_by m (has (reached run m)) run nothing_lost 1 rise (λ k le. refl) }

-- before the first step
pub divided_at_first : (m : ℕ) (run ks ls : List Numbered) (ts rs : List ℕ) → RiseFrom 1 run → ks ≡ [] → ls ≡ [] → ts ≡ [] → rs ≡ [] → IsDivided m (has (reached run m)) run ks ls run (lost_in ts rs)
divided_at_first m run ks ls ts rs rise k l t r =
    subst (λ x. IsDivided m (has (reached run m)) run x ls run (lost_in ts rs)) (sym k)
    (subst (λ x. IsDivided m (has (reached run m)) run [] x run (lost_in ts rs)) (sym l)
    (subst (λ x. IsDivided m (has (reached run m)) run [] [] run (lost_in x rs)) (sym t)
    (subst (λ x. IsDivided m (has (reached run m)) run [] [] run (lost_in [] x)) (sym r) (at_first m run rise))))
