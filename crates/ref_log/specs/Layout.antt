-- What callers see, from how it is kept: by the number of a reference its settled write and the place of its last recent one, and all recent writes in the order in which they came.
use Rattle.std.specs.Prelude.{◌≡◌, ℕ, zero, suc, ◌-◌, ◌<◌, ◌≤◌, Bool, true, false, not, cond, ◌&&◌, List, [], ◌∷◌, ◌++◌, Option, Some, None, length, take, nat_eq, min, vec_len, vec_capacity, slice_get, Vec}
use Rattle.std.specs.List.{AllByRecursion, slice_index_or}
use Rattle.std.specs.Ordering.{nat_cmp}
use Rattle.std.specs.FinMap as map
use Rattle.std.specs.FinMap.{FinMap}
use Rattle.ref_log.specs.declared.places.Recent.{Recent}
use Rattle.ref_log.specs.declared.places.Reference.{Reference}
use Rattle.ref_log.specs.declared.places.Settled.{Settled}
use Rattle.ref_log.specs.Log.{Write, Log, IsInOrder}

-- a recent write of the reference r, struck or not, and no hole
abbrev pub is_of : ℕ → Recent → Bool
is_of r e = nat_eq e.reference.0 r && not (nat_eq e.number.0 0)

-- one that wasn't struck
abbrev pub is_live : ℕ → Recent → Bool
is_live r e = is_of r e && not e.struck

abbrev pub write_of : Recent → Write
write_of e = record { number = e.number.0; value = e.value }

-- the recent writes of the reference r that weren't struck
abbrev pub of_reference : ℕ → List Recent → List Write
of_reference r [] = []
of_reference r (e ∷ es) = cond (is_live r e) (write_of e ∷ []) [] ++ of_reference r es

-- the place of the last of an entry and those behind it, where theirs is n
abbrev pub place_with : Bool → ℕ → ℕ
place_with there zero = cond there 1 0
place_with there (suc n) = suc (suc n)

-- the place of the last of them, counted from 1, or 0
abbrev pub last_place : ℕ → List Recent → ℕ
last_place r [] = 0
last_place r (e ∷ es) = place_with (is_of r e) (last_place r es)

abbrev pub settled_writes : Option Settled → List Write
settled_writes None = []
settled_writes (Some s) = record { number = s.number.0; value = s.value } ∷ []

abbrev pub settled_of : Option Reference → List Write
settled_of None = []
settled_of (Some x) = settled_writes x.settled

-- the settled write of the reference r
abbrev pub settled_at : List Reference → ℕ → List Write
settled_at xs r = settled_of (slice_get xs r)

abbrev pub head_of : Option Reference → ℕ
head_of None = 0
head_of (Some x) = x.head

-- the place that the reference r keeps
abbrev pub head_at : List Reference → ℕ → ℕ
head_at xs r = head_of (slice_get xs r)

-- the writes of the reference r
abbrev pub held : List Reference → List Recent → ℕ → List Write
held xs es r = settled_at xs r ++ of_reference r es

-- each reference and each recent write keeps the place of the last recent write before it, and those of a reference rise, the struck ones too
pub record IsChained (xs : List Reference) (es : List Recent) : Type 0 where
  pub heads : (r : ℕ) → head_at xs r ≡ last_place r es
  pub links : (i : ℕ) (d : Recent) → i < length es → nat_eq (slice_index_or es i d).number.0 0 ≡ false → (slice_index_or es i d).before ≡ last_place (slice_index_or es i d).reference.0 (take i es)
  pub rising : (r i j : ℕ) (d : Recent) → i < j → j < length es → is_of r (slice_index_or es i d) ≡ true → is_of r (slice_index_or es j d) ≡ true → (slice_index_or es i d).number.0 < (slice_index_or es j d).number.0

-- the last one of the reference r wasn't struck
abbrev pub IsLiveAtEnd : ℕ → List Recent → Type 0
IsLiveAtEnd r es = (i : ℕ) (d : Recent) → last_place r es ≡ suc i → (slice_index_or es i d).struck ≡ false

pub record IsLinked (xs : List Reference) (es : List Recent) : Type 0 where
  pub chained : IsChained xs es
  pub ends : (r : ℕ) → IsLiveAtEnd r es

-- for how many more recent writes there is room: a place has 32 bits
abbrev pub spare_in : {Z : Type 0} → Vec Recent Z → ℕ
spare_in es = min (vec_capacity es) 4294967295 - vec_len es

-- a reference that has writes is there
abbrev pub with_writes : ℕ → List Write → FinMap nat_cmp (List Write) → FinMap nat_cmp (List Write)
with_writes r [] m = m
with_writes r (w ∷ ws) m = map.insert m r (w ∷ ws)

-- by reference, of those that are numbered from q on
abbrev pub by_number : ℕ → List Reference → List Recent → FinMap nat_cmp (List Write)
by_number q [] es = map.empty
by_number q (x ∷ xs) es = with_writes q (settled_writes x.settled ++ of_reference q es) (by_number (suc q) xs es)

-- the log that is kept
abbrev pub log_of : {Z : Type 0} → ℕ → List Reference → Vec Recent Z → Log
log_of last_cut xs recent = record {
  last_cut = last_cut;
  references = by_number 0 xs recent.items;
  places = length xs;
  spare = spare_in recent;
}

-- the log is in order, its places are linked and have 32 bits, and a settled write isn't above the last cut
pub record IsKept {Z : Type 0} (last_cut : ℕ) (xs : List Reference) (recent : Vec Recent Z) : Type 0 where
  pub order : IsInOrder (log_of last_cut xs recent)
  pub linked : IsLinked xs recent.items
  pub settled : (r : ℕ) → AllByRecursion (λ w. w.number ≤ last_cut) (settled_at xs r)
  pub few : length recent.items ≤ 4294967295
