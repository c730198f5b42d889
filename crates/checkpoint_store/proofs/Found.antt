-- What entries have at a place, before and after a change.
use Rattle.std.proofs.Common.{◌≡◌, ℕ, zero, suc, ◌<◌, Bool, true, false, cond, ◌&&◌, nat_eq, nat_lt, List, [], ◌∷◌, ◌++◌, length, drop, Option, None, refl, sym, ap, subst, ◌∙◌, arith}
use Rattle.std.specs.List.{slice_index_or, slice_set}
use Rattle.std.proofs.lemmas.Bool.Decides.{nat_tests}
use Rattle.stab_base.specs.declared.numbers.Seq.{Seq}
use Rattle.checkpoint_store.specs.declared.entries.Entry.{Entry}
use Rattle.checkpoint_store.specs.Saved.{Place, same_place, before}
use Rattle.checkpoint_store.specs.Layout.{found}

-- places that are both one place are one
twice_same : (a b c d e f : ℕ) → (nat_eq e a && nat_eq f b) ≡ true → (nat_eq e c && nat_eq f d) ≡ true → (nat_eq c a && nat_eq d b) ≡ true
twice_same a b c d e f h k = grind (arith, nat_tests)

-- a place of an event before q is before q
place_before : (a b c d q : ℕ) → a < q → (nat_eq c a && nat_eq d b) ≡ true → nat_lt c q ≡ true
place_before a b c d q low same = grind (arith, nat_tests)

module _ {C : Type 0} where
  -- nothing stands at a place where each entry that has it is a hole
  pub found-none : (es : List (Entry C)) (k : Place) → ((j : ℕ) (d : Entry C) → j < length es → same_place (slice_index_or es j d).place k ≡ true → (slice_index_or es j d).control ≡ None) → found es k ≡ None
  found-none [] k lack = refl
  found-none (e ∷ es) k lack =
      elim (same_place e.place k) as (λ b. same_place e.place k ≡ b → cond b e.control (found es k) ≡ None) [
        | true ↦ λ same. lack 0 e (omega arith) same
        | false ↦ λ apart. found-none es k (λ j d within same. lack (suc j) d (omega arith) same)
      ] refl

  set_here : (b : Bool) (x y z : Option C) → cond b x z ≡ cond b x (cond b y z)
  set_here true x y z = refl
  set_here false x y z = refl

  set_later : (a b : Bool) (x y z : Option C) → (a ≡ true → b ≡ true → ⊥) → cond a x (cond b y z) ≡ cond b y (cond a x z)
  set_later true true x y z never = absurd (never refl refl)
  set_later true false x y z never = refl
  set_later false b x y z never = refl

  -- another control where no earlier entry has the place
  pub found-set : (es : List (Entry C)) (i : ℕ) (h : Entry C) (k : Place) → i < length es → h.place ≡ (slice_index_or es i h).place → ((j : ℕ) → j < i → same_place (slice_index_or es j h).place h.place ≡ false) → found (slice_set es i h) k ≡ cond (same_place h.place k) h.control (found es k)
  found-set [] i h k within same apart = absurd (omega arith)
  found-set (e ∷ es) zero h k within same apart =
      set_here (same_place h.place k) h.control e.control (found es k)
      ∙ ap (λ (p : Place). cond (same_place h.place k) h.control (cond (same_place p k) e.control (found es k))) same
  found-set (e ∷ es) (suc i) h k within same apart =
      ap (cond (same_place e.place k) e.control) (found-set es i h k (omega arith) same (λ j early. apart (suc j) (omega arith)))
      ∙ set_later (same_place e.place k) (same_place h.place k) e.control h.control (found es k)
      (λ first second. let both : same_place e.place h.place ≡ true = twice_same e.place.0.0 e.place.1.0 h.place.0.0 h.place.1.0 k.0.0 k.1.0 first second in let other = apart 0 (omega arith) in cc)

  -- the first entry of a place has what is found there
  pub found-at : (es : List (Entry C)) (i : ℕ) (d : Entry C) (k : Place) → i < length es → same_place (slice_index_or es i d).place k ≡ true → ((j : ℕ) → j < i → same_place (slice_index_or es j d).place k ≡ false) → found es k ≡ (slice_index_or es i d).control
  found-at [] i d k within same apart = absurd (omega arith)
  found-at (e ∷ es) zero d k within same apart = ap (λ b. cond b e.control (found es k)) same
  found-at (e ∷ es) (suc i) d k within same apart =
      ap (λ b. cond b e.control (found es k)) (apart 0 (omega arith))
      ∙ found-at es i d k (omega arith) same (λ j early. apart (suc j) (omega arith))

  -- an entry at the end, where no other has its place
  pub found-push : (es : List (Entry C)) (e : Entry C) (k : Place) → ((j : ℕ) → j < length es → same_place (slice_index_or es j e).place e.place ≡ false) → found (es ++ e ∷ []) k ≡ cond (same_place e.place k) e.control (found es k)
  found-push [] e k apart = refl
  found-push (x ∷ es) e k apart =
      ap (cond (same_place x.place k) x.control) (found-push es e k (λ j within. apart (suc j) (omega arith)))
      ∙ set_later (same_place x.place k) (same_place e.place k) x.control e.control (found es k)
      (λ first second. let both : same_place x.place e.place ≡ true = twice_same x.place.0.0 x.place.1.0 e.place.0.0 e.place.1.0 k.0.0 k.1.0 first second in let other = apart 0 (omega arith) in cc)

  nothing_at_end : (b : Bool) → cond {A = Option C} b None None ≡ None
  nothing_at_end true = refl
  nothing_at_end false = refl

  -- a hole at the end
  pub found-hole : (es : List (Entry C)) (e : Entry C) (k : Place) → e.control ≡ None → found (es ++ e ∷ []) k ≡ found es k
  found-hole [] e k hole = ap (λ o. cond (same_place e.place k) o None) hole ∙ nothing_at_end (same_place e.place k)
  found-hole (x ∷ es) e k hole = ap (cond (same_place x.place k) x.control) (found-hole es e k hole)

  earlier : (b c : Bool) (x y : Option C) → (b ≡ true → c ≡ true) → cond c None y ≡ cond c None (cond b x y)
  earlier true c x y so = ap (λ a. cond a None y) (so refl) ∙ ap (λ a. cond a None x) (sym (so refl))
  earlier false c x y so = refl

  -- the first entry goes, which is before q
  pub found-drop : (es : List (Entry C)) (d : Entry C) (q : Seq) (k : Place) → 0 < length es → d ≡ slice_index_or es 0 d → d.place.0.0 < q.0 → cond (before q k) None (found (drop 1 es) k) ≡ cond (before q k) None (found es k)
  found-drop [] d q k within first low = absurd (omega arith)
  found-drop (e ∷ es) d q k within first low =
      let low_e : e.place.0.0 < q.0 = subst (λ (x : Entry C). x.place.0.0 < q.0) first low in
      earlier (same_place e.place k) (before q k) e.control (found es k) (place_before e.place.0.0 e.place.1.0 k.0.0 k.1.0 q.0 low_e)

  -- nothing is found at a place that no entry has
  pub found-absent : (es : List (Entry C)) (p k : Place) → ((j : ℕ) (d : Entry C) → j < length es → same_place (slice_index_or es j d).place p ≡ false) → found es k ≡ cond (same_place p k) None (found es k)
  found-absent es p k absent =
      elim (same_place p k) as (λ b. same_place p k ≡ b → found es k ≡ cond b None (found es k)) [
        | true ↦ λ same. found-none es k (λ j d within here.
            let e = slice_index_or es j d in
            let both : same_place e.place p ≡ true = twice_same e.place.0.0 e.place.1.0 p.0.0 p.1.0 k.0.0 k.1.0 here same in
            let other = absent j d within in cc)
        | false ↦ λ _. refl
      ] refl
