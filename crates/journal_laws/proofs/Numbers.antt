-- What is reached isn't below m, and chains join.
use Rattle.std.proofs.Common.{◌≡◌, ℕ, suc, ◌≤◌, ◌<◌, List, [], ◌∷◌, ◌++◌, sym, ap, subst, ◌∙◌, arith}
use Rattle.stab_journal.specs.declared.event.Numbered.{Numbered}
use Rattle.stab_journal.specs.Journal.{RiseFrom}
use Rattle.stab_journal.specs.Dependence.{Reaches, itself, link}

pub rise_front : (q : ℕ) (before : List Numbered) (f : Numbered) (after : List Numbered) → RiseFrom q (before ++ f ∷ after) → q ≤ f.seq.0
rise_front q [] f after rise = rise.0
rise_front q (n ∷ before) f after rise = omega (arith, rise.0, rise_front (suc n.seq.0) before f after rise.1)

rise_split : (q : ℕ) (before : List Numbered) (e : Numbered) (between : List Numbered) (f : Numbered) (after : List Numbered) → RiseFrom q (before ++ e ∷ (between ++ f ∷ after)) → e.seq.0 < f.seq.0
rise_split q [] e between f after rise = omega (arith, rise_front (suc e.seq.0) between f after rise.1)
rise_split q (n ∷ before) e between f after rise = rise_split (suc n.seq.0) before e between f after rise.1

-- `chain`: what is reached isn't below what it is reached from
pub not_below : (run : List Numbered) (q m : ℕ) → RiseFrom q run → (f : Numbered) → Reaches run m f → m ≤ f.seq.0
not_below run q m rise _ (itself before f after cut at) = omega arith
not_below run q m rise _ (link e f chain d) = omega (arith, not_below run q m rise e chain, rise_split q d.before e d.between f d.after (subst (λ (l : List Numbered). RiseFrom q l) d.is rise))

-- two steps of a run with one number are one step
pub one_step : (q : ℕ) (a : List Numbered) (e : Numbered) (as' b : List Numbered) (f : Numbered) (bs : List Numbered) → RiseFrom q (a ++ e ∷ as') → a ++ e ∷ as' ≡ b ++ f ∷ bs → e.seq.0 ≡ f.seq.0 → e ≡ f
one_step q [] e as' [] f bs rise cut at = cc
one_step q [] e as' (k ∷ b) f bs rise cut at =
    let here : as' ≡ b ++ f ∷ bs = cc in
    absurd (omega (arith, rise_front (suc e.seq.0) b f bs (subst (λ (l : List Numbered). RiseFrom (suc e.seq.0) l) here rise.1)))
one_step q (k ∷ a) e as' [] f bs rise cut at =
    let same : k ≡ f = cc in
    let number : k.seq.0 ≡ f.seq.0 = ap (λ (n : Numbered). n.seq.0) same in
    absurd (omega (arith, rise_front (suc k.seq.0) a e as' rise.1))
one_step q (k ∷ a) e as' (l ∷ b) f bs rise cut at = one_step (suc k.seq.0) a e as' b f bs rise.1 (cc) at

-- chains join: so a Pin that depends on what is reached is reached
pub joined : (run : List Numbered) (q m : ℕ) → RiseFrom q run → (before : List Numbered) (e : Numbered) (after : List Numbered) → run ≡ before ++ e ∷ after → Reaches run m e → (f : Numbered) → Reaches run e.seq.0 f → Reaches run m f
joined run q m rise before e after cut first _ (itself b f a cut' at) = subst (λ (n : Numbered). Reaches run m n) (one_step q before e after b f a (subst (λ (l : List Numbered). RiseFrom q l) cut rise) (sym cut ∙ cut') at) first
joined run q m rise before e after cut first _ (link k f chain d) = link k f (joined run q m rise before e after cut first k chain) d
