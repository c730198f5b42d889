-- Lists as rings of links: a list leads from its end through its places back to its end.
use Rattle.std.specs.Prelude.{◌≡◌, ℕ, zero, suc, ◌≤◌, ◌<◌, Bool, false, nat_eq, List, [], ◌∷◌, length, map, get_or, Option, Some, None, ◌-◌, min, vec_capacity, Vec}
use Rattle.std.specs.List.{IsDistinct}
use Rattle.linked_lists.specs.declared.links.Spot.{Spot}
use Rattle.linked_lists.specs.declared.links.Spot.TheVariants.{End, Place}
use Rattle.linked_lists.specs.declared.links.Link.{Link}
use Rattle.linked_lists.specs.Lists.{is_listed}

-- whether two spots are one
abbrev pub same : Spot → Spot → Bool
same (End h) (End k) = nat_eq h k
same (Place t) (Place u) = nat_eq t u
same _ _ = false

-- the place that a spot is, if it isn't an end
abbrev pub spot_place : Spot → Option ℕ
spot_place (End h) = None
spot_place (Place t) = Some t

-- the link of a spot that stands by itself
abbrev pub alone : Spot → Link
alone p = record { before = p; after = p }

-- the link of a spot, from those of the ends and of the places. A spot that isn't there stands by itself
abbrev pub link_at : List Link → List Link → Spot → Link
link_at ends places (End h) = get_or ends h (alone (End h))
link_at ends places (Place t) = get_or (alone (Place 0) ∷ places) t (alone (Place t))

-- what comes after a spot
abbrev pub after : List Link → List Link → Spot → Spot
after ends places p = (link_at ends places p).after

-- what comes before a spot
abbrev pub before : List Link → List Link → Spot → Spot
before ends places p = (link_at ends places p).before

-- the places from a spot on up to an end, at most k of them
abbrev pub walk : ℕ → (Spot → Spot) → Spot → List ℕ
walk zero f p = []
walk (suc k) f (End h) = []
walk (suc k) f (Place t) = t ∷ walk k f (f (Place t))

-- the list with the number h
abbrev pub walked : List Link → List Link → ℕ → List ℕ
walked ends places h = walk (suc (length places)) (after ends places) (after ends places (End h))

-- all lists, by number
abbrev pub lists_of : List Link → List Link → List (List ℕ)
lists_of ends places = map (λ e. walk (suc (length places)) (after ends places) e.after) ends

-- f leads from p through the list to the end h
abbrev pub IsPath : (Spot → Spot) → ℕ → Spot → List ℕ → Type 0
IsPath f h p [] = f p ≡ End h
IsPath f h p (t ∷ list) = (f p ≡ Place t) × IsPath f h (Place t) list

-- f and g, what comes after and what comes before, lead along each list and back, and stay at each place that stands in none
pub record IsRing (f g : Spot → Spot) (list : ℕ → List ℕ) : Type 0 where
  pub forth : (p : Spot) → g (f p) ≡ p
  pub back : (p : Spot) → f (g p) ≡ p
  pub path : (h : ℕ) → IsPath f h (End h) (list h)
  pub once : (h : ℕ) → IsDistinct nat_eq (list h)
  pub apart : (t : ℕ) → ((h : ℕ) → is_listed t (list h) ≡ false) → f (Place t) ≡ Place t

-- whether there is such an end or such a place
abbrev pub IsThere : ℕ → ℕ → Spot → Type 0
IsThere lists places (End h) = h < lists
IsThere lists places (Place t) = (1 ≤ t) × (t ≤ places)

-- the lists are rings, and their ends and places have numbers of 32 bits
pub record IsLinked (ends places : List Link) : Type 0 where
  pub ring : IsRing (after ends places) (before ends places) (walked ends places)
  pub few_lists : length ends ≤ 4294967295
  pub few_places : length places ≤ 4294967295

-- for how many more of some links there is room: they have numbers of 32 bits
abbrev pub spare_in : {Z : Type 0} → Vec Link Z → ℕ
spare_in links = min (vec_capacity links) 4294967295 - length links.items
