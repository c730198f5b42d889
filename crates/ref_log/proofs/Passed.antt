-- A reference passes its last write, which was struck.
use Rattle.std.proofs.Common.{◌≡◌, ℕ, suc, ◌-◌, ◌<◌, true, false, cond, nat_eq, List, length, take, refl, sym, ap, subst, ◌∙◌, arith}
use Rattle.std.specs.List.{slice_index_or, slice_set}
use Rattle.std.proofs.lemmas.Bool.{eqb-true}
use Rattle.ref_log.specs.declared.places.Recent.{Recent}
use Rattle.ref_log.specs.declared.places.Reference.{Reference}
use Rattle.ref_log.specs.Layout.{is_of, last_place, head_at, IsLiveAtEnd, IsChained, IsLinked}
use Rattle.ref_log.proofs.Recent.{last_place-within}
use Rattle.ref_log.proofs.References.{head-set}
use Rattle.ref_log.proofs.Found.{last_here}
use Rattle.ref_log.proofs.Unlinked.{same_is, prefix-within, kept-before, chained-last, ends-other}

at_suc : (p i : ℕ) → p ≡ suc i → i ≡ p - 1
at_suc p i e = omega arith

module _ (xs : List Reference) (es : List Recent) (chained : IsChained xs es) (r p : ℕ) (is : p ≡ head_at xs r) where
  last : last_place r es ≡ p
  last = sym (is ∙ chained.heads r)

  -- the other references end in a write that wasn't struck, and so does this one
  pub linked-end : ((s : ℕ) → nat_eq r s ≡ false → IsLiveAtEnd s es) → ((d : Recent) → 0 < p → (slice_index_or es (p - 1) d).struck ≡ false) → IsLinked xs es
  linked-end others live = record {
    chained = chained;
    ends = λ s.
        elim (nat_eq r s) as (λ b. nat_eq r s ≡ b → IsLiveAtEnd s es) [
          | true ↦ λ same. subst (λ t. IsLiveAtEnd t es) (eqb-true r s same) (λ i d at.
              let e : p ≡ suc i = sym last ∙ at in
              ap (λ n. (slice_index_or es n d).struck) (at_suc p i e) ∙ live d (omega arith))
          | false ↦ λ other. others s other
        ] refl;
  }

  module _ (some : 0 < p) where
    pub inside : p - 1 < length es
    inside = let short = last_place-within r es in let at = last in omega arith

    here : (d : Recent) → is_of r (slice_index_or es (p - 1) d) ≡ true
    here d = last_here es r p d last some

    head : head_at xs r ≡ suc (p - 1)
    head = let at = is in omega arith

    module _ (h : Recent) (hole : h.number.0 ≡ 0) where
      next : (d : Recent) → (slice_index_or es (p - 1) d).before ≡ last_place r (take (p - 1) es)
      next d = kept-before xs es chained r (p - 1) inside here h hole d

      pub next-less : (d : Recent) → (slice_index_or es (p - 1) d).before < p
      next-less d = let at = next d in let low = prefix-within r es (p - 1) in omega arith

      pub chained-next : (y : Reference) (d : Recent) → r < length xs → y.head ≡ (slice_index_or es (p - 1) d).before → IsChained (slice_set xs r y) (slice_set es (p - 1) h)
      chained-next y d within same =
          chained-last xs es chained r (p - 1) inside here h hole (slice_set xs r y) head (λ s.
          head-set xs r y s within ∙ ap (λ n. cond (nat_eq r s) n (head_at xs s)) (same ∙ next d))

      pub others-next : (s : ℕ) → nat_eq r s ≡ false → IsLiveAtEnd s es → IsLiveAtEnd s (slice_set es (p - 1) h)
      others-next s other ends = ends-other xs es chained r (p - 1) inside here h hole s other ends

pub head-is : (xs : List Reference) (r : ℕ) (y : Reference) → r < length xs → y.head ≡ head_at (slice_set xs r y) r
head-is xs r y within = sym (head-set xs r y r within ∙ ap (λ b. cond b y.head (head_at xs r)) (same_is r))
