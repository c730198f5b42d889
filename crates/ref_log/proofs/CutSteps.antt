-- A cut, entry by entry.
use Rattle.std.proofs.Common.{◌≡◌, ℕ, zero, suc, ◌+◌, ◌<◌, ◌≤◌, Bool, true, false, cond, not, ◌&&◌, ◌||◌, nat_lt, List, [], ◌∷◌, ◌++◌, length, take, drop, refl, sym, ap, subst, ◌∙◌, arith, add-one, drop-cons, append_assoc, append-nil}
use Rattle.std.specs.List.{slice_index_or, slice_set, AllByRecursion}
use Rattle.std.proofs.Math.Seq.{take-suc, take-append_seam}
use Rattle.std.proofs.lemmas.Bool.Decides.{nat_tests}
use Rattle.std.proofs.lemmas.List.{take-set-le, drop-set-lt, take-append-drop}
use Rattle.std.proofs.lemmas.List.Folds.{list_any-append}
use Rattle.ref_log.specs.declared.places.Recent.{Recent}
use Rattle.ref_log.specs.declared.places.Reference.{Reference}
use Rattle.ref_log.specs.Log.{Write, has_below, kept, IsRising}
use Rattle.ref_log.specs.Layout.{is_live, write_of, of_reference, settled_at, IsLinked}
use Rattle.ref_log.specs.Moved.{IsCutSoFar}
use Rattle.ref_log.proofs.Recent.{of_reference-append, of_reference-push}

-- a slice that was lent comes back
pub refilled : {A : Type 0} (n : ℕ) (xs ys : List A) → n ≡ length xs → take n (xs ++ ys) ≡ xs
refilled n xs ys long = ap (λ m. take m (xs ++ ys)) long ∙ take-append_seam xs ys

below_is : (a b : ℕ) → a < b → nat_lt a b ≡ true
below_is a b h = grind (arith, nat_tests)

not_below_is : (a b : ℕ) → b ≤ a → nat_lt a b ≡ false
not_below_is a b h = grind (arith, nat_tests)

or_true : (b : Bool) → (b || true) ≡ true
or_true true = refl
or_true false = refl

or_false : (b : Bool) → (b || false) ≡ b
or_false true = refl
or_false false = refl

has_below-push : (q : ℕ) (ws : List Write) (w : Write) → has_below q (ws ++ w ∷ []) ≡ (has_below q ws || (nat_lt w.number q || false))
has_below-push q ws w = list_any-append (λ (v : Write). nat_lt v.number q) ws (w ∷ [])

-- a write below q is kept alone
kept-low : (q : ℕ) (ws : List Write) (w : Write) → w.number < q → kept q (ws ++ w ∷ []) ≡ w ∷ []
kept-low q [] w low = refl
kept-low q (v ∷ ws) w low =
    ap (λ b. cond b (kept q (ws ++ w ∷ [])) (v ∷ (ws ++ w ∷ []))) (has_below-push q ws w ∙ ap (λ b. has_below q ws || (b || false)) (below_is w.number q low) ∙ or_true (has_below q ws))
    ∙ kept-low q ws w low

kept_by : (b : Bool) (q : ℕ) (v w : Write) (ws : List Write) → kept q (ws ++ w ∷ []) ≡ kept q ws ++ w ∷ [] → cond b (kept q (ws ++ w ∷ [])) (v ∷ (ws ++ w ∷ [])) ≡ cond b (kept q ws) (v ∷ ws) ++ w ∷ []
kept_by true q v w ws e = e
kept_by false q v w ws e = refl

-- one that isn't is kept beside the others
kept-high : (q : ℕ) (ws : List Write) (w : Write) → q ≤ w.number → kept q (ws ++ w ∷ []) ≡ kept q ws ++ w ∷ []
kept-high q [] w high = refl
kept-high q (v ∷ ws) w high =
    ap (λ b. cond b (kept q (ws ++ w ∷ [])) (v ∷ (ws ++ w ∷ []))) (has_below-push q ws w ∙ ap (λ b. has_below q ws || (b || false)) (not_below_is w.number q high) ∙ or_false (has_below q ws))
    ∙ kept_by (has_below q ws) q v w ws (kept-high q ws w high)

all-kept : (P : Write → Type 0) (q : ℕ) (ws : List Write) → AllByRecursion P ws → AllByRecursion P (kept q ws)
all-kept P q [] all = tt
all-kept P q (w ∷ ws) all =
    elim (has_below q ws) as (λ b. AllByRecursion P (cond b (kept q ws) (w ∷ ws))) [ true ↦ all-kept P q ws all.1 | false ↦ all ]

pub all-back : (P : Write → Type 0) (ws vs : List Write) → AllByRecursion P (ws ++ vs) → AllByRecursion P vs
all-back P [] vs all = all
all-back P (w ∷ ws) vs all = all-back P ws vs all.1

all-push : (P : Write → Type 0) (ws : List Write) (w : Write) → AllByRecursion P ws → P w → AllByRecursion P (ws ++ w ∷ [])
all-push P [] w all here = (here, tt)
all-push P (v ∷ ws) w all here = (all.0, all-push P ws w all.1 here)

last-of-all : (P : Write → Type 0) (ws : List Write) (w : Write) (vs : List Write) → AllByRecursion P (ws ++ w ∷ vs) → P w
last-of-all P [] w vs all = all.0
last-of-all P (v ∷ ws) w vs all = last-of-all P ws w vs all.1

-- what rises is below its last
rising-below : (ws : List Write) (w : Write) (vs : List Write) → IsRising (ws ++ w ∷ vs) → AllByRecursion (λ v. v.number < w.number) ws
rising-below [] w vs rising = tt
rising-below (v ∷ ws) w vs rising = (last-of-all (λ u. v.number < u.number) ws w vs rising.0, rising-below ws w vs rising.1)

none-between : (n q : ℕ) (ws : List Write) → n < q → AllByRecursion (λ w. w.number < n) ws → AllByRecursion (λ w. q ≤ w.number) ws → ws ≡ []
none-between n q [] low below above = refl
none-between n q (w ∷ ws) low below above = absurd (omega (arith, below.0, above.0))

lt_is : (a b : ℕ) → nat_lt a b ≡ true → a < b
lt_is a b h = grind (arith, nat_tests)

ge_is : (a b : ℕ) → nat_lt a b ≡ false → b ≤ a
ge_is a b h = grind (arith, nat_tests)

drop_nothing : {A : Type 0} (m : ℕ) → [] ≡ drop {A = A} m []
drop_nothing zero = refl
drop_nothing (suc m) = refl

drop_none : {A : Type 0} (n m : ℕ) (ys : List A) → [] ≡ drop n ys → n ≤ m → [] ≡ drop m ys
drop_none zero m ys same less = drop_nothing m ∙ ap (drop m) same
drop_none (suc n) zero ys same less = absurd (omega arith)
drop_none (suc n) (suc m) [] same less = refl
drop_none (suc n) (suc m) (y ∷ ys) same less = drop_none n m ys same (omega arith)

pub same_tail : {A : Type 0} (xs ys : List A) (i : ℕ) (d : A) → i < length xs → length xs ≡ length ys → drop i xs ≡ drop i ys → (slice_index_or xs i d ≡ slice_index_or ys i d) × (drop (suc i) xs ≡ drop (suc i) ys)
same_tail xs ys i d within long same =
    let both : slice_index_or xs i d ∷ drop (suc i) xs ≡ slice_index_or ys i d ∷ drop (suc i) ys = sym (drop-cons xs i d within) ∙ same ∙ drop-cons ys i d (omega arith) in
    (cc, cc)

drop_more : {A : Type 0} (n m : ℕ) (xs ys : List A) → drop n xs ≡ drop n ys → n ≤ m → drop m xs ≡ drop m ys
drop_more zero m xs ys same less = ap (drop m) same
drop_more (suc n) zero xs ys same less = absurd (omega arith)
drop_more (suc n) (suc m) [] [] same less = refl
drop_more (suc n) (suc m) [] (y ∷ ys) same less = drop_none n m ys same (omega arith)
drop_more (suc n) (suc m) (x ∷ xs) [] same less = sym (drop_none n m xs (sym same) (omega arith))
drop_more (suc n) (suc m) (x ∷ xs) (y ∷ ys) same less = drop_more n m xs ys same (omega arith)

module _ (q : ℕ) (xs₀ : List Reference) (es₀ : List Recent) (i stay : ℕ) (xs : List Reference) (es : List Recent) (so : IsCutSoFar q xs₀ es₀ i stay xs es) (within : i < length es₀) (e : Recent) (is : e ≡ slice_index_or es i e) (h : Recent) where
  before : ℕ → List Write
  before s = settled_at xs₀ s ++ of_reference s (take i es₀)

  here : slice_index_or es₀ i e ≡ e
  here = (let long = so.long in sym ((same_tail es es₀ i e (omega arith) so.long so.rest).0)) ∙ sym is

  prefix : take stay (slice_set es i h) ≡ take stay es
  prefix = take-set-le stay es i h so.few

  unfold_before : (s : ℕ) → before s ≡ settled_at xs₀ s ++ of_reference s (take i es₀)
  unfolding before
  unfold_before s = refl

  one_more : (s : ℕ) → settled_at xs₀ s ++ of_reference s (take (i + 1) es₀) ≡ before s ++ cond (is_live s e) (write_of e ∷ []) []
  one_more s =
      ap (λ n. settled_at xs₀ s ++ of_reference s (take n es₀)) (add-one i)
      ∙ ap (λ ys. settled_at xs₀ s ++ of_reference s ys) (take-suc es₀ i e within)
      ∙ ap (λ ws. settled_at xs₀ s ++ ws) (of_reference-push s (take i es₀) (slice_index_or es₀ i e) ∙ ap (λ (x : Recent). of_reference s (take i es₀) ++ cond (is_live s x) (write_of x ∷ []) []) here)
      ∙ sym (append_assoc (settled_at xs₀ s) (of_reference s (take i es₀)) (cond (is_live s e) (write_of e ∷ []) []))
      ∙ ap (λ ws. ws ++ cond (is_live s e) (write_of e ∷ []) []) (sym (unfold_before s))

  whole : (s : ℕ) → settled_at xs₀ s ++ of_reference s es₀ ≡ before s ++ (cond (is_live s e) (write_of e ∷ []) [] ++ of_reference s (drop (suc i) es₀))
  whole s =
      ap (λ ys. settled_at xs₀ s ++ of_reference s ys) (sym (take-append-drop i es₀))
      ∙ ap (λ ys. settled_at xs₀ s ++ of_reference s (take i es₀ ++ ys)) (drop-cons es₀ i e within ∙ ap (λ (x : Recent). x ∷ drop (suc i) es₀) here)
      ∙ ap (λ ws. settled_at xs₀ s ++ ws) (of_reference-append s (take i es₀) (e ∷ drop (suc i) es₀))
      ∙ sym (append_assoc (settled_at xs₀ s) (of_reference s (take i es₀)) (of_reference s (e ∷ drop (suc i) es₀)))
      ∙ ap (λ ws. ws ++ of_reference s (e ∷ drop (suc i) es₀)) (sym (unfold_before s))

  -- all writes before one that rises are below it
  below : ((s : ℕ) → IsRising (settled_at xs₀ s ++ of_reference s es₀)) → (s : ℕ) → is_live s e ≡ true → AllByRecursion (λ w. w.number < e.number.0) (before s)
  below rising s there = rising-below (before s) (write_of e) (of_reference s (drop (suc i) es₀))
      (subst IsRising (whole s ∙ ap (λ b. before s ++ (cond b (write_of e ∷ []) [] ++ of_reference s (drop (suc i) es₀))) there) (rising s))

  -- and so are those that stay
  pub stay-below : ((s : ℕ) → IsRising (settled_at xs₀ s ++ of_reference s es₀)) → (s : ℕ) → is_live s e ≡ true → AllByRecursion (λ w. w.number < e.number.0) (of_reference s (take stay (slice_set es i h)))
  stay-below rising s there =
      subst (λ ps. AllByRecursion (λ w. w.number < e.number.0) (of_reference s ps)) (sym prefix)
      (all-back (λ w. w.number < e.number.0) (settled_at xs s) (of_reference s (take stay es))
      (subst (AllByRecursion (λ w. w.number < e.number.0)) (ap (kept q) (unfold_before s) ∙ sym (so.writes s)) (all-kept (λ w. w.number < e.number.0) q (before s) (below rising s there))))

  -- of a reference whose write goes below q nothing stays yet
  none_stays : ((s : ℕ) → IsRising (settled_at xs₀ s ++ of_reference s es₀)) → (s : ℕ) → is_live s e ≡ true → e.number.0 < q → of_reference s (take stay es) ≡ []
  none_stays rising s there low =
      none-between e.number.0 q (of_reference s (take stay es)) low
      (subst (λ ps. AllByRecursion (λ w. w.number < e.number.0) (of_reference s ps)) prefix (stay-below rising s there)) (so.above s)

  module _ (rising : (s : ℕ) → IsRising (settled_at xs₀ s ++ of_reference s es₀)) (next : ℕ) (ys : List Reference) (fs : List Recent) (more : (stay ≤ next) × (next ≤ stay + 1)) (recent : (s : ℕ) → of_reference s (take next fs) ≡ cond (is_live s e && not (nat_lt e.number.0 q)) (of_reference s (take stay (slice_set es i h)) ++ write_of e ∷ []) (of_reference s (take stay (slice_set es i h)))) (settled : (s : ℕ) → settled_at ys s ≡ cond (is_live s e && nat_lt e.number.0 q) (write_of e ∷ []) (settled_at xs s)) (linked : IsLinked ys (take next fs)) (behind : drop (stay + 1) fs ≡ drop (stay + 1) (slice_set es i h)) (long : length fs ≡ length es) (places : length ys ≡ length xs) where
    -- the three ways of an entry
    recent_is : (s : ℕ) (b l : Bool) → is_live s e ≡ b → nat_lt e.number.0 q ≡ l → of_reference s (take next fs) ≡ cond (b && not l) (of_reference s (take stay es) ++ write_of e ∷ []) (of_reference s (take stay es))
    recent_is s b l there low =
        recent s
        ∙ ap (λ ps. cond (is_live s e && not (nat_lt e.number.0 q)) (of_reference s ps ++ write_of e ∷ []) (of_reference s ps)) prefix
        ∙ ap (λ c. cond (c && not (nat_lt e.number.0 q)) (of_reference s (take stay es) ++ write_of e ∷ []) (of_reference s (take stay es))) there
        ∙ ap (λ c. cond (b && not c) (of_reference s (take stay es) ++ write_of e ∷ []) (of_reference s (take stay es))) low

    settled_is : (s : ℕ) (b l : Bool) → is_live s e ≡ b → nat_lt e.number.0 q ≡ l → settled_at ys s ≡ cond (b && l) (write_of e ∷ []) (settled_at xs s)
    settled_is s b l there low =
        settled s
        ∙ ap (λ c. cond (c && nat_lt e.number.0 q) (write_of e ∷ []) (settled_at xs s)) there
        ∙ ap (λ c. cond (b && c) (write_of e ∷ []) (settled_at xs s)) low

    writes_by : (s : ℕ) (b l : Bool) → is_live s e ≡ b → nat_lt e.number.0 q ≡ l → settled_at ys s ++ of_reference s (take next fs) ≡ kept q (before s ++ cond b (write_of e ∷ []) [])
    writes_by s false l there low =
        ap (λ ws. ws ++ of_reference s (take next fs)) (settled_is s false l there low)
        ∙ ap (λ ws. settled_at xs s ++ ws) (recent_is s false l there low)
        ∙ so.writes s
        ∙ ap (kept q) (sym (unfold_before s) ∙ sym (append-nil (before s)))
    writes_by s true true there low =
        ap (λ ws. ws ++ of_reference s (take next fs)) (settled_is s true true there low)
        ∙ ap (λ ws. write_of e ∷ ws) (recent_is s true true there low ∙ none_stays rising s there (lt_is e.number.0 q low))
        ∙ sym (kept-low q (before s) (write_of e) (lt_is e.number.0 q low))
    writes_by s true false there low =
        ap (λ ws. ws ++ of_reference s (take next fs)) (settled_is s true false there low)
        ∙ ap (λ ws. settled_at xs s ++ ws) (recent_is s true false there low)
        ∙ sym (append_assoc (settled_at xs s) (of_reference s (take stay es)) (write_of e ∷ []))
        ∙ ap (λ ws. ws ++ write_of e ∷ []) (so.writes s ∙ ap (kept q) (sym (unfold_before s)))
        ∙ sym (kept-high q (before s) (write_of e) (ge_is e.number.0 q low))

    above_by : (s : ℕ) (b l : Bool) → is_live s e ≡ b → nat_lt e.number.0 q ≡ l → AllByRecursion (λ w. q ≤ w.number) (of_reference s (take next fs))
    above_by s false l there low = subst (AllByRecursion (λ w. q ≤ w.number)) (sym (recent_is s false l there low)) (so.above s)
    above_by s true true there low = subst (AllByRecursion (λ w. q ≤ w.number)) (sym (recent_is s true true there low)) (so.above s)
    above_by s true false there low = subst (AllByRecursion (λ w. q ≤ w.number)) (sym (recent_is s true false there low)) (all-push (λ w. q ≤ w.number) (of_reference s (take stay es)) (write_of e) (so.above s) (ge_is e.number.0 q low))

    settled_by : (s : ℕ) (b l : Bool) → is_live s e ≡ b → nat_lt e.number.0 q ≡ l → AllByRecursion (λ w. w.number ≤ q) (settled_at ys s)
    settled_by s false l there low = subst (AllByRecursion (λ w. w.number ≤ q)) (sym (settled_is s false l there low)) (so.settled s)
    settled_by s true true there low = subst (AllByRecursion (λ w. w.number ≤ q)) (sym (settled_is s true true there low)) ((let less = lt_is e.number.0 q low in omega arith), tt)
    settled_by s true false there low = subst (AllByRecursion (λ w. w.number ≤ q)) (sym (settled_is s true false there low)) (so.settled s)

    -- one entry more is cut
    pub cut-more : IsCutSoFar q xs₀ es₀ (i + 1) next ys fs
    cut-more = record {
      few = let few = so.few in omega (arith, more.1);
      writes = λ s. writes_by s (is_live s e) (nat_lt e.number.0 q) refl refl ∙ ap (kept q) (sym (one_more s));
      above = λ s. above_by s (is_live s e) (nat_lt e.number.0 q) refl refl;
      settled = λ s. settled_by s (is_live s e) (nat_lt e.number.0 q) refl refl;
      linked = linked;
      rest =
          (let few = so.few in drop_more (stay + 1) (i + 1) fs (slice_set es i h) behind (omega arith))
          ∙ drop-set-lt (i + 1) es i h (omega arith)
          ∙ ap (λ n. drop n es) (add-one i)
          ∙ (let all = so.long in (same_tail es es₀ i e (omega arith) so.long so.rest).1)
          ∙ ap (λ n. drop n es₀) (sym (add-one i));
      long = long ∙ so.long;
      places = places ∙ so.places;
    }
