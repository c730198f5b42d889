-- What the links say of the lists, and how that changes with them.
use Rattle.std.proofs.Common.{◌≡◌, ◌≢◌, ℕ, zero, suc, ◌+◌, ◌≤◌, ◌<◌, Bool, true, false, cond, ◌⊎◌, inl, inr, nat_eq, nat_lt, List, [], ◌∷◌, ◌++◌, length, map, get_or, set, ◌||◌, Option, Some, None, slice_get, refl, sym, ap, ◌∙◌, subst, arith, add-one, length-append, min, ◌-◌}
use Rattle.std.specs.List.{IsDistinct}
use Rattle.std.specs.Option.{option_eq}
use Rattle.std.proofs.lemmas.Bool.Decides.{Decides-eqb, nat_tests}
use Rattle.std.proofs.lemmas.List.{get_or_past, get_or-set_same, get_or-set_other, length-set, length-map, ext_get_or}
use Rattle.std.proofs.Math.ListN.{get_or-map}
use Rattle.std.proofs.lemmas.Map.Steps.{length-le_from_distinct_below}
use Rattle.linked_lists.specs.declared.links.Spot.{Spot}
use Rattle.linked_lists.specs.declared.links.Spot.TheVariants.{End, Place}
use Rattle.linked_lists.specs.declared.links.Link.{Link}
use Rattle.linked_lists.specs.Lists.{is_listed, following, without, list_at, StandsNowhere, IsSound}
use Rattle.linked_lists.specs.Ring.{alone, link_at, spot_place, after, before, walk, walked, lists_of, IsPath, IsRing, IsThere}
use Rattle.linked_lists.proofs.Leaving.{IsDistinct-nil}
use Rattle.linked_lists.proofs.Rings.{unlike, walk-path, off_path, one_list, pushed, IsRing-same}

cases_lt : {P : Type 0} (m n : ℕ) → (m < n → P) → (n ≤ m → P) → P
cases_lt {P} m n below above =
    elim (nat_lt m n) as (λ b. nat_lt m n ≡ b → P) [
      | true ↦ λ e. below (grind (arith, nat_tests))
      | false ↦ λ e. above (grind (arith, nat_tests))
    ] refl

-- ---- spots that are there

module _ (ends places : List Link) where
  -- a spot that isn't there stands by itself
  there_or_alone : (p : Spot) → IsThere (length ends) (length places) p ⊎ (link_at ends places p ≡ alone p)
  there_or_alone (End h) = cases_lt h (length ends) (λ low. inl low) (λ high. inr (get_or_past ends h (alone (End h)) high))
  there_or_alone (Place zero) = inr refl
  there_or_alone (Place (suc i)) = cases_lt i (length places) (λ low. inl (omega arith, omega arith)) (λ high. inr (get_or_past places i (alone (Place (suc i))) high))

  -- what stands beside a spot that is there is there
  pub there-after : (list : ℕ → List ℕ) (p : Spot) → IsRing (after ends places) (before ends places) list → IsThere (length ends) (length places) p → IsThere (length ends) (length places) (after ends places p)
  there-after list p ring there =
      elim (there_or_alone (after ends places p)) [
        | inl h ↦ h
        | inr e ↦ subst (IsThere (length ends) (length places)) (sym (ring.forth p) ∙ ap (λ l. l.before) e) there
      ]

  pub there-before : (list : ℕ → List ℕ) (p : Spot) → IsRing (after ends places) (before ends places) list → IsThere (length ends) (length places) p → IsThere (length ends) (length places) (before ends places p)
  there-before list p ring there =
      elim (there_or_alone (before ends places p)) [
        | inl h ↦ h
        | inr e ↦ subst (IsThere (length ends) (length places)) (sym (ring.back p) ∙ ap (λ l. l.after) e) there
      ]

  -- a place that stands in a list is there
  listed_there : (list : ℕ → List ℕ) (h t : ℕ) → IsRing (after ends places) (before ends places) list → is_listed t (list h) ≡ true → (1 ≤ t) × (t ≤ length places)
  listed_there list h t ring there =
      elim (there_or_alone (Place t)) [
        | inl is ↦ is
        | inr e ↦ unlike (is_listed t (list h)) there (off_path (after ends places) h (End h) (list h) t (ap (λ l. l.after) e) (ring.once h) (ring.path h))
      ]

  -- the walks meet the lists
  pub walked-is : (list : ℕ → List ℕ) (h : ℕ) → IsRing (after ends places) (before ends places) list → walked ends places h ≡ list h
  walked-is list h ring =
      let short : length (list h) ≤ suc (length places) = length-le_from_distinct_below (list h) (suc (length places)) (ring.once h) (λ t there. let is : (1 ≤ t) × (t ≤ length places) = listed_there list h t ring there in omega (arith, is.1)) in
      walk-path (after ends places) (suc (length places)) h (End h) (list h) short (ring.path h)

  pub IsRing-walked : (list : ℕ → List ℕ) → IsRing (after ends places) (before ends places) list → IsRing (after ends places) (before ends places) (walked ends places)
  IsRing-walked list ring = subst (IsRing (after ends places) (before ends places)) (λ i h. sym (walked-is list h ring) i) ring

  -- the list with the number h among all
  pub list_at-of : (h : ℕ) → list_at (lists_of ends places) h ≡ walked ends places h
  list_at-of h = get_or-map (λ (e : Link). walk (suc (length places)) (after ends places) e.after) ends h (alone (End h))

  -- what the links hold are the lists that they were shown to hold
  pub lists_of-is : (list : ℕ → List ℕ) (lists : List (List ℕ)) → IsRing (after ends places) (before ends places) list → length lists ≡ length ends → ((h : ℕ) → list_at lists h ≡ list h) → lists_of ends places ≡ lists
  lists_of-is list lists ring many is =
      ext_get_or [] (lists_of ends places) lists (length-map ends (λ (e : Link). walk (suc (length places)) (after ends places) e.after) ∙ sym many)
      (λ h low. list_at-of h ∙ walked-is list h ring ∙ sym (is h))

  -- what holds of all lists
  pub IsSound-from_ring : (spare_lists spare : ℕ) → IsRing (after ends places) (before ends places) (walked ends places) → IsSound (record { lists = lists_of ends places; places = length places; spare_lists = spare_lists; spare = spare })
  IsSound-from_ring spare_lists spare ring = record {
    there = λ h t there. listed_there (walked ends places) h t ring (ap (is_listed t) (sym (list_at-of h)) ∙ there);
    once = λ h. subst (λ list. IsDistinct nat_eq list) (sym (list_at-of h)) (ring.once h);
    apart = λ h k t here there. one_list (after ends places) (before ends places) (walked ends places) h k t ring (ap (is_listed t) (sym (list_at-of h)) ∙ here) (ap (is_listed t) (sym (list_at-of k)) ∙ there);
  }

  -- a place that isn't there stands nowhere
  pub unlisted : (list : ℕ → List ℕ) (t : ℕ) → IsRing (after ends places) (before ends places) list → link_at ends places (Place t) ≡ alone (Place t) → (h : ℕ) → is_listed t (list h) ≡ false
  unlisted list t ring itself h = off_path (after ends places) h (End h) (list h) t (ap (λ l. l.after) itself) (ring.once h) (ring.path h)

pub there_same : (a b c d : ℕ) (p : Spot) → a ≡ b → c ≡ d → IsThere a c p → IsThere b d p
there_same a b c d p e e' there = subst (λ n. IsThere b n p) e' (subst (λ n. IsThere n c p) e there)

pub after-cond : (b : Bool) (l m : Link) → (cond b l m).after ≡ cond b l.after m.after
after-cond true l m = refl
after-cond false l m = refl

pub before-cond : (b : Bool) (l m : Link) → (cond b l m).before ≡ cond b l.before m.before
before-cond true l m = refl
before-cond false l m = refl

-- ---- a list or a place comes

pub get_or-push_default : {X : Type 0} (xs : List X) (d : X) (h : ℕ) → get_or (xs ++ d ∷ []) h d ≡ get_or xs h d
get_or-push_default [] d zero = refl
get_or-push_default [] d (suc h) = refl
get_or-push_default (x ∷ xs) d zero = refl
get_or-push_default (x ∷ xs) d (suc h) = get_or-push_default xs d h

-- what comes at the end stands there as it did before it was there
opened : {X : Type 0} (by_itself : ℕ → X) (xs : List X) (n : ℕ) → get_or (xs ++ by_itself (length xs) ∷ []) n (by_itself n) ≡ get_or xs n (by_itself n)
opened by_itself [] zero = refl
opened by_itself [] (suc n) = refl
opened by_itself (x ∷ xs) zero = refl
opened by_itself (x ∷ xs) (suc n) = opened (λ n. by_itself (suc n)) xs n

pub link-list : (ends places new : List Link) (l : Link) → new ≡ ends ++ l ∷ [] → l ≡ alone (End (length ends)) → (p : Spot) → link_at new places p ≡ link_at ends places p
link-list ends places new l is itself (End h) = ap (λ es. get_or es h (alone (End h))) (is ∙ ap (λ l. ends ++ l ∷ []) itself) ∙ opened (λ n. alone (End n)) ends h
link-list ends places new l is itself (Place t) = refl

pub link-place : (ends places new : List Link) (l : Link) → new ≡ places ++ l ∷ [] → l ≡ alone (Place (length places + 1)) → (p : Spot) → link_at ends new p ≡ link_at ends places p
link-place ends places new l is itself (End h) = refl
link-place ends places new l is itself (Place t) =
    ap (λ ps. get_or (alone (Place 0) ∷ ps) t (alone (Place t))) (is ∙ ap (λ l. places ++ l ∷ []) (itself ∙ ap (λ (n : ℕ). alone (Place n)) (add-one (length places))))
    ∙ opened (λ n. alone (Place n)) (alone (Place 0) ∷ places) t

-- the same links hold the same lists
pub IsRing-opened : (ends places ends' places' : List Link) (list : ℕ → List ℕ) → ((p : Spot) → link_at ends' places' p ≡ link_at ends places p) → IsRing (after ends places) (before ends places) list → IsRing (after ends' places') (before ends' places') list
IsRing-opened ends places ends' places' list is ring = IsRing-same (after ends places) (before ends places) (after ends' places') (before ends' places') list (λ p. ap (λ l. l.after) (is p)) (λ p. ap (λ l. l.before) (is p)) ring

-- there are no lists at first
pub IsRing-new : (ends places : List Link) → ends ≡ [] → places ≡ [] → IsRing (after ends places) (before ends places) (walked ends places)
IsRing-new ends places none none' =
    let itself : (p : Spot) → link_at ends places p ≡ alone p = λ p. ap (λ es. link_at es places p) none ∙ ap (λ ps. link_at [] ps p) none' ∙ nothing p in
    IsRing-walked ends places (λ h. []) (record {
      forth = λ p. ap (before ends places) (ap (λ l. l.after) (itself p)) ∙ ap (λ l. l.before) (itself p);
      back = λ p. ap (after ends places) (ap (λ l. l.before) (itself p)) ∙ ap (λ l. l.after) (itself p);
      path = λ h. ap (λ l. l.after) (itself (End h));
      once = λ h. IsDistinct-nil;
      apart = λ t _. ap (λ l. l.after) (itself (Place t));
    })
  where
    nothing : (p : Spot) → link_at [] [] p ≡ alone p
    nothing (End h) = refl
    nothing (Place zero) = refl
    nothing (Place (suc t)) = refl

pub lists_of-length : (ends places : List Link) → length (lists_of ends places) ≡ length ends
lists_of-length ends places = length-map ends (λ (e : Link). walk (suc (length places)) (after ends places) e.after)

pub lists_of-push_length : (ends places new : List Link) (l : Link) → new ≡ ends ++ l ∷ [] → length (lists_of ends places ++ [] ∷ []) ≡ length new
lists_of-push_length ends places new l is =
    length-append (lists_of ends places) ([] ∷ []) ∙ ap (λ n. n + 1) (lists_of-length ends places) ∙ sym (ap length is ∙ length-append ends (l ∷ []))

-- the place that came stands by itself
pub placed_alone : (ends places new : List Link) (l : Link) → new ≡ places ++ l ∷ [] → l ≡ alone (Place (length places + 1)) → link_at ends new (Place (length new)) ≡ alone (Place (length new))
placed_alone ends places new l is itself =
    link-place ends places new l is itself (Place (length new))
    ∙ get_or_past (alone (Place 0) ∷ places) (length new) (alone (Place (length new))) (let n : length new ≡ length places + 1 = ap length is ∙ length-append places (l ∷ []) in omega arith)

-- ---- what callers say of the lists, said of the links

pub list_within : (ends places : List Link) (lists : List (List ℕ)) (h : ℕ) → lists_of ends places ≡ lists → h < length lists → h < length ends
list_within ends places lists h is low = let n : length lists ≡ length ends = sym (ap length is) ∙ lists_of-length ends places in omega arith

pub place_within : (n places t : ℕ) → n ≡ places → (1 ≤ t) × (t ≤ places) → (1 ≤ t) × (t ≤ n)
place_within n places t is there = (there.0, omega (arith, there.1))

pub nowhere_walked : (ends places : List Link) (lists : List (List ℕ)) (t : ℕ) → lists_of ends places ≡ lists → StandsNowhere t lists → (h : ℕ) → is_listed t (walked ends places h) ≡ false
nowhere_walked ends places lists t is none h = ap (is_listed t) (sym (list_at-of ends places h) ∙ ap (λ lists. list_at lists h) is) ∙ none h

-- t came last on the list k
pub lists_of-pushed : (ends places ends' places' : List Link) (k t : ℕ) → IsRing (after ends' places') (before ends' places') (pushed (walked ends places) k t) → length ends' ≡ length ends → k < length ends → lists_of ends' places' ≡ set (lists_of ends places) k (list_at (lists_of ends places) k ++ t ∷ [])
lists_of-pushed ends places ends' places' k t ring many low =
    lists_of-is ends' places' (pushed (walked ends places) k t) (set (lists_of ends places) k (list_at (lists_of ends places) k ++ t ∷ [])) ring
    (length-set (lists_of ends places) k _ ∙ lists_of-length ends places ∙ sym many)
    (λ h. cases_eq h k
    (λ one.
    let number : h ≡ k = one in
    ap (λ h. get_or (set (lists_of ends places) k (list_at (lists_of ends places) k ++ t ∷ [])) h []) number
    ∙ get_or-set_same (lists_of ends places) k _ [] (let n : length (lists_of ends places) ≡ length ends = lists_of-length ends places in omega arith)
    ∙ ap (λ list. list ++ t ∷ []) (list_at-of ends places k)
    ∙ sym (ap (λ h. cond (nat_eq h k) (walked ends places h ++ t ∷ []) (walked ends places h)) number ∙ ap (λ b. cond b (walked ends places k ++ t ∷ []) (walked ends places k)) ((Decides-eqb k k).1 refl)))
    (λ other.
    get_or-set_other (lists_of ends places) k h _ [] other ∙ list_at-of ends places h
    ∙ sym (ap (λ b. cond b (walked ends places h ++ t ∷ []) (walked ends places h)) (differ h k other))))
  where
    cases_eq : {P : Type 0} (m n : ℕ) → (m ≡ n → P) → (m ≢ n → P) → P
    cases_eq {P} m n is off =
        elim (nat_eq m n) as (λ b. nat_eq m n ≡ b → P) [
          | true ↦ λ e. is ((Decides-eqb m n).0 e)
          | false ↦ λ e. off (λ one. unlike (nat_eq m n) ((Decides-eqb m n).1 one) e)
        ] refl

    differ : (m n : ℕ) → m ≢ n → nat_eq m n ≡ false
    differ m n other = grind (arith, nat_tests)

-- t left the list that it stood in
pub lists_of-left : (ends places ends' places' : List Link) (t : ℕ) → IsRing (after ends' places') (before ends' places') (λ h. without t (walked ends places h)) → length ends' ≡ length ends → lists_of ends' places' ≡ map (without t) (lists_of ends places)
lists_of-left ends places ends' places' t ring many =
    lists_of-is ends' places' (λ h. without t (walked ends places h)) (map (without t) (lists_of ends places)) ring
    (length-map (lists_of ends places) (without t) ∙ lists_of-length ends places ∙ sym many)
    (λ h. get_or-map (without t) (lists_of ends places) h [] ∙ ap (without t) (list_at-of ends places h))

-- ---- what comes after a place

rest_after : (f : Spot → Spot) (h t : ℕ) (p : Spot) (list : List ℕ) → IsPath f h p list → is_listed t list ≡ true → IsPath f h (Place t) (following t list)
rest_after f h t p [] path there = absurd (unlike false there refl)
rest_after f h t p (x ∷ list) path there =
    elim (nat_eq t x) as (λ b. nat_eq t x ≡ b → (b || is_listed t list) ≡ true → IsPath f h (Place t) (cond b list (following t list))) [
      | true ↦ λ e _. subst (λ u. IsPath f h (Place u) list) (sym ((Decides-eqb t x).0 e)) path.1
      | false ↦ λ _ listed. rest_after f h t (Place x) list path.1 listed
    ] refl there

first_on : (f : Spot → Spot) (h : ℕ) (p : Spot) (ys : List ℕ) → IsPath f h p ys → spot_place (f p) ≡ slice_get ys 0
first_on f h p [] path = ap spot_place path
first_on f h p (y ∷ ys) path = ap spot_place path.0

leads : (p : Spot) (t : ℕ) → spot_place p ≡ Some t → p ≡ Place t
leads (End h) t e = cc
leads (Place u) t e = cc

module _ (ends places : List Link) (lists : List (List ℕ)) (t : ℕ) (all : lists_of ends places ≡ lists) (ring : IsRing (after ends places) (before ends places) (walked ends places)) where
  walked_here : (h : ℕ) → walked ends places h ≡ list_at lists h
  walked_here h = sym (list_at-of ends places h) ∙ ap (λ lists. list_at lists h) all

  pub next-is : (h : ℕ) → is_listed t (list_at lists h) ≡ true → spot_place (after ends places (Place t)) ≡ slice_get (following t (list_at lists h)) 0
  next-is h there =
      first_on (after ends places) h (Place t) (following t (list_at lists h))
      (rest_after (after ends places) h t (End h) (list_at lists h) (subst (IsPath (after ends places) h (End h)) (walked_here h) (ring.path h)) there)

  -- a place that leads to itself stands in no list
  pub leads_on : (h : ℕ) → is_listed t (list_at lists h) ≡ true → spot_place (after ends places (Place t)) ≡ Some t → ⊥
  leads_on h there itself =
      unlike (is_listed t (walked ends places h)) (ap (is_listed t) (walked_here h) ∙ there)
      (off_path (after ends places) h (End h) (walked ends places h) t (leads _ t itself) (ring.once h) (ring.path h))

  pub nowhere_leads : StandsNowhere t lists → spot_place (after ends places (Place t)) ≡ Some t
  nowhere_leads none = ap spot_place (ring.apart t (nowhere_walked ends places lists t all none))

pub eq_some : (o : Option ℕ) (t : ℕ) → option_eq nat_eq o (Some t) ≡ true → o ≡ Some t
eq_some None t e = cc
eq_some (Some u) t e = ap Some ((Decides-eqb u t).0 e)

pub eq_itself : (o : Option ℕ) (t : ℕ) → o ≡ Some t → option_eq nat_eq o (Some t) ≡ true
eq_itself o t e = ap (λ o. option_eq nat_eq o (Some t)) e ∙ (Decides-eqb t t).1 refl

-- ---- numbers of 32 bits

-- where there is room for one more link, that has a number
pub few_more : (links new : List Link) (l : Link) (capacity spare : ℕ) → min capacity 4294967295 - length links ≡ spare → 1 ≤ spare → new ≡ links ++ l ∷ [] → length new ≤ 4294967295
few_more links new l capacity spare is room grown =
    let n : length new ≡ length links + 1 = ap length grown ∙ length-append links (l ∷ []) in
    let most : min capacity 4294967295 ≤ 4294967295 = omega arith in
    omega (arith, is, room, n, most)
