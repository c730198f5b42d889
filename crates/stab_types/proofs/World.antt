-- The types that a run gives to its channels and references, and which values have a type then.
use Rattle.std.proofs.Common.{◌≡◌, ℕ, List, [], ◌∷◌, Option, Some, refl, subst, ◌∙◌}
use Rattle.stab_base.specs.Datum.{Datum, unit, truth, int, text, chan, reference, pair}
use Rattle.stab_code.specs.Written.{Written, unit_type, bool_type, int_type, text_type, chan_type, ref_type, pair_type}
use Rattle.stab_types.specs.ExprType.{ExprType, of, never}

-- what is sent on a channel, and what a reference holds
pub record World : Type 0 where
  pub channels : ℕ → Option Written
  pub references : ℕ → Option Written

-- what has a type in the first has the same type in the second
pub record IsMore (w v : World) : Type 0 where
  pub channels : (c : ℕ) (a : Written) → w.channels c ≡ Some a → v.channels c ≡ Some a
  pub references : (r : ℕ) (a : Written) → w.references r ≡ Some a → v.references r ≡ Some a

pub same_world : (w : World) → IsMore w w
same_world w = record { channels = λ c a h. h; references = λ r a h. h }

-- the value has the type
abbrev pub Fits : World → Datum → Written → Type 0
Fits w unit unit_type = Unit {0}
Fits w (truth b) bool_type = Unit {0}
Fits w (int n) int_type = Unit {0}
Fits w (text t) text_type = Unit {0}
Fits w (chan c) (chan_type a) = w.channels c ≡ Some a
Fits w (reference r) (ref_type a) = w.references r ≡ Some a
Fits w (pair x y) (pair_type a b) = Fits w x a × Fits w y b
Fits w _ _ = ⊥

abbrev pub FitsType : World → Datum → ExprType → Type 0
FitsType w v (of a) = Fits w v a
FitsType w v never = ⊥

abbrev pub AllFit : World → List Datum → List ExprType → Type 0
AllFit w [] [] = Unit {0}
AllFit w (v ∷ vs) (t ∷ ts) = FitsType w v t × AllFit w vs ts
AllFit w _ _ = ⊥

-- what has the first type may stand where the second is asked for
abbrev pub IsUnder : ExprType → ExprType → Type 0
IsUnder never t = Unit {0}
IsUnder (of a) (of b) = a ≡ b
IsUnder (of a) never = ⊥

pub under_refl : (t : ExprType) → IsUnder t t
under_refl (of a) = refl
under_refl never = tt

pub under_trans : (t u s : ExprType) → IsUnder t u → IsUnder u s → IsUnder t s
under_trans never u s h k = tt
under_trans (of a) (of b) (of c) h k = h ∙ k
under_trans (of a) (of b) never h k = absurd k
under_trans (of a) never s h k = absurd h

pub fits_under : (w : World) (v : Datum) (t u : ExprType) → IsUnder t u → FitsType w v t → FitsType w v u
fits_under w v never u h k = absurd k
fits_under w v (of a) (of b) h k = subst (Fits w v) h k
fits_under w v (of a) never h k = absurd h

module _ (w v : World) (more : IsMore w v) where
  pub fits_more : (x : Datum) (a : Written) → Fits w x a → Fits v x a
  fits_more unit unit_type h = tt
  fits_more (truth b) bool_type h = tt
  fits_more (int n) int_type h = tt
  fits_more (text t) text_type h = tt
  fits_more (chan c) (chan_type a) h = more.channels c a h
  fits_more (reference r) (ref_type a) h = more.references r a h
  fits_more (pair x y) (pair_type a b) h = (fits_more x a h.0, fits_more y b h.1)
  fits_more _ _ h = absurd h

  pub fits_type_more : (x : Datum) (t : ExprType) → FitsType w x t → FitsType v x t
  fits_type_more x (of a) h = fits_more x a h
  fits_type_more x never h = absurd h
