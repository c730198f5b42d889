-- How a ring of links changes, over its two functions and the lists that they lead along.
use Rattle.std.proofs.Common.{◌≡◌, ◌≢◌, ℕ, zero, suc, ◌+◌, ◌≤◌, Bool, true, false, cond, not, ◌&&◌, ◌||◌, nat_eq, List, [], ◌∷◌, ◌++◌, length, refl, sym, ap, ◌∙◌, subst, arith}
use Rattle.std.specs.List.{IsDistinct, AllByRecursion}
use Rattle.std.specs.Cmp.{nat_eq_equiv}
use Rattle.std.proofs.lemmas.Bool.Decides.{Decides-eqb, nat_tests}
use Rattle.std.proofs.lemmas.List.Folds.{list_any-append}
use Rattle.std.proofs.lemmas.Map.Keys.{IsDistinct-head, IsDistinct-tail, IsDistinct-push}
use Rattle.linked_lists.specs.declared.links.Spot.{Spot}
use Rattle.linked_lists.specs.declared.links.Spot.TheVariants.{End, Place}
use Rattle.linked_lists.specs.Lists.{is_listed, without}
use Rattle.linked_lists.specs.Ring.{same, walk, IsPath, IsRing}
use Rattle.linked_lists.proofs.Leaving.{neither, without-absent, is_listed-without, IsDistinct-filter}

-- ---- spots

itself : (p : Spot) → same p p ≡ true
itself (End h) = (Decides-eqb h h).1 refl
itself (Place t) = (Decides-eqb t t).1 refl

alike : (p q : Spot) → p ≡ q → same p q ≡ true
alike p q e = subst (λ q. same p q ≡ true) e (itself p)

is_same : (p q : Spot) → same p q ≡ true → p ≡ q
is_same (End h) (End k) e = ap End ((Decides-eqb h k).0 e)
is_same (End h) (Place u) e = cc
is_same (Place t) (End k) e = cc
is_same (Place t) (Place u) e = ap Place ((Decides-eqb t u).0 e)

pub unlike : {P : Type 0} (b : Bool) → b ≡ true → b ≡ false → P
unlike b is off = cc

cases_eq : {P : Type 0} (p q : Spot) → (p ≡ q → P) → (p ≢ q → P) → P
cases_eq {P} p q is off =
    elim (same p q) as (λ b. same p q ≡ b → P) [
      | true ↦ λ e. is (is_same p q e)
      | false ↦ λ e. off (λ one. unlike (same p q) (alike p q one) e)
    ] refl

apart : (p q : Spot) → p ≢ q → same p q ≡ false
apart p q other =
    elim (same p q) as (λ b. same p q ≡ b → b ≡ false) [
      | true ↦ λ e. absurd (other (is_same p q e))
      | false ↦ λ e. refl
    ] refl

-- f is changed at s, and else at p
abbrev pub twice : (Spot → Spot) → Spot → Spot → Spot → Spot → Spot → Spot
twice f s u p v x = cond (same x s) u (cond (same x p) v (f x))

at_first : (f : Spot → Spot) (s u p v x : Spot) → x ≡ s → twice f s u p v x ≡ u
at_first f s u p v x e = ap (λ b. cond b u (cond (same x p) v (f x))) (alike x s e)

at_second : (f : Spot → Spot) (s u p v x : Spot) → x ≢ s → x ≡ p → twice f s u p v x ≡ v
at_second f s u p v x other e = ap (λ b. cond b u (cond (same x p) v (f x))) (apart x s other) ∙ ap (λ b. cond b v (f x)) (alike x p e)

at_none : (f : Spot → Spot) (s u p v x : Spot) → x ≢ s → x ≢ p → twice f s u p v x ≡ f x
at_none f s u p v x other away = ap (λ b. cond b u (cond (same x p) v (f x))) (apart x s other) ∙ ap (λ b. cond b v (f x)) (apart x p away)

not_end : (h t : ℕ) → End h ≢ Place t
not_end h t e = cc

same_place : (t u : ℕ) → Place t ≡ Place u → t ≡ u
same_place t u e = cc

pub same_end : (h k : ℕ) → End h ≡ End k → h ≡ k
same_end h k e = cc

-- ---- lists of places

unequal : (t u : ℕ) (b : Bool) → (nat_eq t u || b) ≡ false → (Place u ≢ Place t) × (b ≡ false)
unequal t u b none =
    let parts : (nat_eq t u ≡ false) × (b ≡ false) = neither (nat_eq t u) b none in
    ((λ e. unlike (nat_eq t u) (alike (Place t) (Place u) (sym e)) parts.0), parts.1)

absent : (t : ℕ) (list : List ℕ) → AllByRecursion (λ u. nat_eq t u ≡ false) list → is_listed t list ≡ false
absent t [] h = refl
absent t (u ∷ list) h = ap (λ b. b || is_listed t list) h.0 ∙ absent t list h.1

-- ---- paths

module _ (f g : Spot → Spot) where
  -- p leaves: the spots beside it lead to each other, and it stays by itself
  inverse-leave : (p x : Spot) → ((x : Spot) → g (f x) ≡ x) → ((x : Spot) → f (g x) ≡ x) → twice g p p (f p) (g p) (twice f p p (g p) (f p) x) ≡ x
  inverse-leave p x forth back =
      cases_eq x p
      (λ one. ap (twice g p p (f p) (g p)) (at_first f p p (g p) (f p) x one) ∙ at_first g p p (f p) (g p) p refl ∙ sym one)
      (λ other. cases_eq x (g p)
      (λ one. ap (twice g p p (f p) (g p)) (at_second f p p (g p) (f p) x other one) ∙ at_second g p p (f p) (g p) (f p) (λ e. other (one ∙ ap g (sym e) ∙ forth p)) refl ∙ sym one)
      (λ away. ap (twice g p p (f p) (g p)) (at_none f p p (g p) (f p) x other away) ∙ at_none g p p (f p) (g p) (f x) (λ e. away (sym (forth x) ∙ ap g e)) (λ e. other (sym (forth x) ∙ ap g e ∙ forth p)) ∙ forth x))

  -- p comes between e and z
  inverse-push : (e z p x : Spot) → g z ≡ e → g p ≡ p → p ≢ z → g (f x) ≡ x → twice g z p p e (twice f e p p z x) ≡ x
  inverse-push e z p x leads alone away forth =
      cases_eq x e
      (λ one. ap (twice g z p p e) (at_first f e p p z x one) ∙ at_second g z p p e p away refl ∙ sym one)
      (λ other. cases_eq x p
      (λ one. ap (twice g z p p e) (at_second f e p p z x other one) ∙ at_first g z p p e z refl ∙ sym one)
      (λ else. ap (twice g z p p e) (at_none f e p p z x other else) ∙ at_none g z p p e (f x) (λ e'. other (sym forth ∙ ap g e' ∙ leads)) (λ e'. else (sym forth ∙ ap g e' ∙ alone)) ∙ forth))

  -- a spot that leads elsewhere than to p still does
  step-leave : (p s u : Spot) → f (g p) ≡ p → s ≢ p → u ≢ p → f s ≡ u → twice f p p (g p) (f p) s ≡ u
  step-leave p s u back other away leads = at_none f p p (g p) (f p) s other (λ e. away (sym leads ∙ ap f e ∙ back)) ∙ leads

  -- the spot before p leads to the one after it
  step-over : (p s u : Spot) → g (f s) ≡ s → s ≢ p → f s ≡ p → f p ≡ u → twice f p p (g p) (f p) s ≡ u
  step-over p s u forth other leads then = at_second f p p (g p) (f p) s other (sym forth ∙ ap g leads) ∙ then

  path-away : (t h : ℕ) (s : Spot) (list : List ℕ) → f (g (Place t)) ≡ Place t → s ≢ Place t → is_listed t list ≡ false → IsPath f h s list → IsPath (twice f (Place t) (Place t) (g (Place t)) (f (Place t))) h s list
  path-away t h s [] back other none path = step-leave (Place t) s (End h) back other (not_end h t) path
  path-away t h s (u ∷ list) back other none path =
      let parts : (Place u ≢ Place t) × (is_listed t list ≡ false) = unequal t u _ none in
      (step-leave (Place t) s (Place u) back other parts.0 path.0, path-away t h (Place u) list back parts.0 parts.1 path.1)

  path-over : (t h : ℕ) (s : Spot) (list : List ℕ) → g (f s) ≡ s → f (g (Place t)) ≡ Place t → s ≢ Place t → is_listed t list ≡ false → f s ≡ Place t → IsPath f h (Place t) list → IsPath (twice f (Place t) (Place t) (g (Place t)) (f (Place t))) h s list
  path-over t h s [] forth back other none leads path = step-over (Place t) s (End h) forth other leads path
  path-over t h s (u ∷ list) forth back other none leads path =
      let parts : (Place u ≢ Place t) × (is_listed t list ≡ false) = unequal t u _ none in
      (step-over (Place t) s (Place u) forth other leads path.0, path-away t h (Place u) list back parts.0 parts.1 path.1)

  path-leave : (t h : ℕ) (s : Spot) (list : List ℕ) → ((x : Spot) → g (f x) ≡ x) → f (g (Place t)) ≡ Place t → s ≢ Place t → IsDistinct nat_eq list → IsPath f h s list → IsPath (twice f (Place t) (Place t) (g (Place t)) (f (Place t))) h s (without t list)
  path-leave t h s [] forth back other once path = step-leave (Place t) s (End h) back other (not_end h t) path
  path-leave t h s (u ∷ list) forth back other once path =
      cases_eq (Place t) (Place u)
      (λ one.
      let tests : nat_eq t u ≡ true = alike (Place t) (Place u) one in
      let number : t ≡ u = (Decides-eqb t u).0 tests in
      let none : is_listed t list ≡ false = absent t list (subst (λ k. AllByRecursion (λ y. nat_eq k y ≡ false) list) (sym number) (IsDistinct-head nat_eq u list once)) in
      subst (IsPath (twice f (Place t) (Place t) (g (Place t)) (f (Place t))) h s) (sym (ap (λ b. cond (not b) (u ∷ without t list) (without t list)) tests ∙ without-absent t list none))
      (path-over t h s list (forth s) back other none (path.0 ∙ sym one) (subst (λ k. IsPath f h (Place k) list) (sym number) path.1)))
      (λ away.
      let tests : nat_eq t u ≡ false = apart (Place t) (Place u) away in
      subst (IsPath (twice f (Place t) (Place t) (g (Place t)) (f (Place t))) h s) (sym (ap (λ b. cond (not b) (u ∷ without t list) (without t list)) tests))
      (step-leave (Place t) s (Place u) back other (λ e. away (sym e)) path.0, path-leave t h (Place u) list forth back (λ e. away (sym e)) (IsDistinct-tail nat_eq u list once) path.1))

  -- t comes last on the list h
  path-push : (t h : ℕ) (s : Spot) (list : List ℕ) → ((x : Spot) → g (f x) ≡ x) → f (g (End h)) ≡ End h → s ≢ Place t → is_listed t list ≡ false → IsPath f h s list → IsPath (twice f (g (End h)) (Place t) (Place t) (End h)) h s (list ++ t ∷ [])
  path-push t h s [] forth back other none path =
      let from : s ≡ g (End h) = sym (forth s) ∙ ap g path in
      (at_first f (g (End h)) (Place t) (Place t) (End h) s from, at_second f (g (End h)) (Place t) (Place t) (End h) (Place t) (λ e. other (from ∙ sym e)) refl)
  path-push t h s (u ∷ list) forth back other none path =
      let parts : (Place u ≢ Place t) × (is_listed t list ≡ false) = unequal t u _ none in
      (at_none f (g (End h)) (Place t) (Place t) (End h) s (λ e. not_end h u (sym back ∙ ap f (sym e) ∙ path.0)) other ∙ path.0, path-push t h (Place u) list forth back parts.0 parts.1 path.1)

  -- t comes last on the list k, and the list h is another
  path-beside : (t k h : ℕ) (s : Spot) (list : List ℕ) → f (g (End k)) ≡ End k → End h ≢ End k → s ≢ Place t → is_listed t list ≡ false → IsPath f h s list → IsPath (twice f (g (End k)) (Place t) (Place t) (End k)) h s list
  path-beside t k h s [] back away other none path =
      at_none f (g (End k)) (Place t) (Place t) (End k) s (λ e. away (sym path ∙ ap f e ∙ back)) other ∙ path
  path-beside t k h s (u ∷ list) back away other none path =
      let parts : (Place u ≢ Place t) × (is_listed t list ≡ false) = unequal t u _ none in
      (at_none f (g (End k)) (Place t) (Place t) (End k) s (λ e. not_end k u (sym back ∙ ap f (sym e) ∙ path.0)) other ∙ path.0, path-beside t k h (Place u) list back away parts.0 parts.1 path.1)

-- a walk along the path gives what stands on it
pub walk-path : (f : Spot → Spot) (k h : ℕ) (s : Spot) (list : List ℕ) → length list ≤ k → IsPath f h s list → walk k f (f s) ≡ list
walk-path f zero h s [] long path = refl
walk-path f (suc k) h s [] long path = ap (walk (suc k) f) path
walk-path f zero h s (u ∷ list) long path = absurd (let e : length list + 1 ≤ 0 = omega arith in omega arith)
walk-path f (suc k) h s (u ∷ list) long path = ap (walk (suc k) f) path.0 ∙ ap (λ us. u ∷ us) (walk-path f k h (Place u) list (omega arith) path.1)

path-same : (f f' : Spot → Spot) (h : ℕ) (s : Spot) (list : List ℕ) → ((x : Spot) → f' x ≡ f x) → IsPath f h s list → IsPath f' h s list
path-same f f' h s [] is path = is s ∙ path
path-same f f' h s (t ∷ list) is path = (is s ∙ path.0, path-same f f' h (Place t) list is path.1)

stays : (f : Spot → Spot) (h u : ℕ) (list : List ℕ) → f (Place u) ≡ Place u → AllByRecursion (λ k. nat_eq u k ≡ false) list → IsPath f h (Place u) list → ⊥
stays f h u [] itself all path = not_end h u (sym path ∙ itself)
stays f h u (w ∷ list) itself all path = unlike (nat_eq u w) (alike (Place u) (Place w) (sym itself ∙ path.0)) all.0

-- no path leads over a place that leads to itself
pub off_path : (f : Spot → Spot) (h : ℕ) (s : Spot) (list : List ℕ) (t : ℕ) → f (Place t) ≡ Place t → IsDistinct nat_eq list → IsPath f h s list → is_listed t list ≡ false
off_path f h s [] t itself once path = refl
off_path f h s (u ∷ list) t itself once path =
    cases_eq (Place t) (Place u)
    (λ one. absurd (stays f h u list (sym (ap f one) ∙ itself ∙ one) (IsDistinct-head nat_eq u list once) path.1))
    (λ other. ap (λ b. b || is_listed t list) (apart (Place t) (Place u) other) ∙ off_path f h (Place u) list t itself (IsDistinct-tail nat_eq u list once) path.1)

-- two paths from one spot lead to one end
one_end : (f : Spot → Spot) (h k : ℕ) (s : Spot) (xs ys : List ℕ) → IsPath f h s xs → IsPath f k s ys → h ≡ k
one_end f h k s [] [] path other = same_end h k (sym path ∙ other)
one_end f h k s [] (y ∷ ys) path other = absurd (not_end h y (sym path ∙ other.0))
one_end f h k s (x ∷ xs) [] path other = absurd (not_end k x (sym other ∙ path.0))
one_end f h k s (x ∷ xs) (y ∷ ys) path other =
    one_end f h k (Place x) xs ys path.1 (subst (λ t. IsPath f k (Place t) ys) (sym (same_place x y (sym path.0 ∙ other.0))) other.1)

one_of : (t u : ℕ) (b : Bool) → Place t ≢ Place u → (nat_eq t u || b) ≡ true → b ≡ true
one_of t u b other there = ap (λ e. e || b) (sym (apart (Place t) (Place u) other)) ∙ there

-- from a place on a path the rest of it leads on
rest_of : (f : Spot → Spot) (h t : ℕ) (s : Spot) (list : List ℕ) → IsPath f h s list → is_listed t list ≡ true → (rest : List ℕ) × IsPath f h (Place t) rest
rest_of f h t s [] path there = absurd (unlike false there refl)
rest_of f h t s (u ∷ list) path there =
    cases_eq (Place t) (Place u)
    (λ one. (list, subst (λ p. IsPath f h p list) (sym one) path.1))
    (λ other. rest_of f h t (Place u) list path.1 (one_of t u _ other there))

-- a place stands in one list only
pub one_list : (f g : Spot → Spot) (list : ℕ → List ℕ) (h k t : ℕ) → IsRing f g list → is_listed t (list h) ≡ true → is_listed t (list k) ≡ true → h ≡ k
one_list f g list h k t ring here there =
    let one = rest_of f h t (End h) (list h) (ring.path h) here in
    let other = rest_of f k t (End k) (list k) (ring.path k) there in
    one_end f h k (Place t) one.0 other.0 one.1 other.1

-- ---- rings

left_alone : (t u : ℕ) (b : Bool) → nat_eq t u ≡ false → (not (nat_eq t u) && b) ≡ false → b ≡ false
left_alone t u b other none = grind (arith, nat_tests)

not_last : (a b : Bool) → (a || (b || false)) ≡ false → (a ≡ false) × (b ≡ false)
not_last a b none = (grind (arith, nat_tests), grind (arith, nat_tests))

-- the lists with t at the tail of the list k
abbrev pub pushed : (ℕ → List ℕ) → ℕ → ℕ → ℕ → List ℕ
pushed list k t h = cond (nat_eq h k) (list h ++ t ∷ []) (list h)

module _ (f g f' g' : Spot → Spot) where
  inverse-same : (h h' : Spot → Spot) → ((x : Spot) → f' x ≡ h x) → ((x : Spot) → g' x ≡ h' x) → (x : Spot) → h' (h x) ≡ x → g' (f' x) ≡ x
  inverse-same h h' is is' x one = is' (f' x) ∙ ap h' (is x) ∙ one

  -- the same links hold the same lists
  pub IsRing-same : (list : ℕ → List ℕ) → ((x : Spot) → f' x ≡ f x) → ((x : Spot) → g' x ≡ g x) → IsRing f g list → IsRing f' g' list
  IsRing-same list is is' ring = record {
    forth = λ x. is' (f' x) ∙ ap g (is x) ∙ ring.forth x;
    back = λ x. is (g' x) ∙ ap f (is' x) ∙ ring.back x;
    path = λ h. path-same f f' h (End h) (list h) is (ring.path h);
    once = ring.once;
    apart = λ t none. is (Place t) ∙ ring.apart t none;
  }

  -- t leaves the list that it stands in
  pub IsRing-leave : (t : ℕ) (list : ℕ → List ℕ) → ((x : Spot) → f' x ≡ twice f (Place t) (Place t) (g (Place t)) (f (Place t)) x) → ((x : Spot) → g' x ≡ twice g (Place t) (Place t) (f (Place t)) (g (Place t)) x) → IsRing f g list → IsRing f' g' (λ h. without t (list h))
  IsRing-leave t list is is' ring = record {
    forth = λ x. inverse-same (twice f (Place t) (Place t) (g (Place t)) (f (Place t))) (twice g (Place t) (Place t) (f (Place t)) (g (Place t))) is is' x (inverse-leave f g (Place t) x ring.forth ring.back);
    back = λ x. is (g' x) ∙ ap (twice f (Place t) (Place t) (g (Place t)) (f (Place t))) (is' x) ∙ inverse-leave g f (Place t) x ring.back ring.forth;
    path = λ h. path-same (twice f (Place t) (Place t) (g (Place t)) (f (Place t))) f' h (End h) (without t (list h)) is (path-leave f g t h (End h) (list h) ring.forth (ring.back (Place t)) (not_end h t) (ring.once h) (ring.path h));
    once = λ h. IsDistinct-filter nat_eq (λ u. not (nat_eq t u)) (list h) (ring.once h);
    apart = λ u none. is (Place u) ∙ cases_eq (Place u) (Place t)
        (λ one. at_first f (Place t) (Place t) (g (Place t)) (f (Place t)) (Place u) one ∙ sym one)
        (λ other.
        let tests : nat_eq t u ≡ false = apart (Place t) (Place u) (λ e. other (sym e)) in
        let alone : f (Place u) ≡ Place u = ring.apart u (λ h. left_alone t u _ tests (sym (is_listed-without t u (list h)) ∙ none h)) in
        step-leave f g (Place t) (Place u) (Place u) (ring.back (Place t)) other other alone);
  }

  -- t, which stands nowhere, comes last on the list k
  pub IsRing-push : (t k : ℕ) (list : ℕ → List ℕ) → ((h : ℕ) → is_listed t (list h) ≡ false) → ((x : Spot) → f' x ≡ twice f (g (End k)) (Place t) (Place t) (End k) x) → ((x : Spot) → g' x ≡ twice g (End k) (Place t) (Place t) (g (End k)) x) → IsRing f g list → IsRing f' g' (pushed list k t)
  IsRing-push t k list none is is' ring =
      let ahead : f (Place t) ≡ Place t = ring.apart t none in
      let behind : g (Place t) ≡ Place t = sym (ap g ahead) ∙ ring.forth (Place t) in
      record {
        forth = λ x. inverse-same (twice f (g (End k)) (Place t) (Place t) (End k)) (twice g (End k) (Place t) (Place t) (g (End k))) is is' x (inverse-push f g (g (End k)) (End k) (Place t) x refl behind (λ e. not_end k t (sym e)) (ring.forth x));
        back = λ x. is (g' x) ∙ ap (twice f (g (End k)) (Place t) (Place t) (End k)) (is' x) ∙ inverse-push g f (End k) (g (End k)) (Place t) x (ring.back (End k)) ahead (before_end t ahead ring.back) (ring.back x);
        path = λ h. path-same (twice f (g (End k)) (Place t) (Place t) (End k)) f' h (End h) (pushed list k t h) is (path_of h);
        once = λ h. elim (nat_eq h k) as (λ b. IsDistinct nat_eq (cond b (list h ++ t ∷ []) (list h))) [
          | true ↦ IsDistinct-push nat_eq_equiv (list h) t (ring.once h) (none h)
          | false ↦ ring.once h
        ];
        apart = λ u away.
            let last : nat_eq u t ≡ false = (not_last (is_listed u (list k)) (nat_eq u t) (sym (list_any-append (nat_eq u) (list k) (t ∷ [])) ∙ ap (is_listed u) (sym (at_end k)) ∙ away k)).1 in
            let alone : f (Place u) ≡ Place u = ring.apart u (λ h. not_there u h (away h)) in
            is (Place u)
            ∙ at_none f (g (End k)) (Place t) (Place t) (End k) (Place u) (before_end u alone ring.back) (λ e. unlike (nat_eq u t) (alike (Place u) (Place t) e) last)
            ∙ alone;
      }
    where
      -- a place that stands by itself isn't before the end
      before_end : (u : ℕ) → f (Place u) ≡ Place u → ((p : Spot) → f (g p) ≡ p) → Place u ≢ g (End k)
      before_end u alone back e = not_end k u (sym (back (End k)) ∙ ap f (sym e) ∙ alone)

      at_end : (h : ℕ) → pushed list h t h ≡ list h ++ t ∷ []
      at_end h = ap (λ b. cond b (list h ++ t ∷ []) (list h)) ((Decides-eqb h h).1 refl)

      not_there : (u h : ℕ) → is_listed u (pushed list k t h) ≡ false → is_listed u (list h) ≡ false
      not_there u h = elim (nat_eq h k) as (λ b. is_listed u (cond b (list h ++ t ∷ []) (list h)) ≡ false → is_listed u (list h) ≡ false) [
        | true ↦ λ away. (not_last (is_listed u (list h)) (nat_eq u t) (sym (list_any-append (nat_eq u) (list h) (t ∷ [])) ∙ away)).0
        | false ↦ λ away. away
      ]

      path_of : (h : ℕ) → IsPath (twice f (g (End k)) (Place t) (Place t) (End k)) h (End h) (pushed list k t h)
      path_of h = cases_eq (End h) (End k)
          (λ one.
          let number : h ≡ k = same_end h k one in
          subst (λ h. IsPath (twice f (g (End k)) (Place t) (Place t) (End k)) h (End h) (pushed list k t h)) (sym number)
          (subst (IsPath (twice f (g (End k)) (Place t) (Place t) (End k)) k (End k)) (sym (at_end k)) (path-push f g t k (End k) (list k) ring.forth (ring.back (End k)) (not_end k t) (none k) (ring.path k))))
          (λ other. subst (IsPath (twice f (g (End k)) (Place t) (Place t) (End k)) h (End h)) (sym (ap (λ b. cond b (list h ++ t ∷ []) (list h)) (apart (End h) (End k) other))) (path-beside f g t k h (End h) (list h) (ring.back (End k)) other (not_end h t) (none h) (ring.path h)))
