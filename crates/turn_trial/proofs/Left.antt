-- All passes of a floor, as threads leave them.
use Rattle.std.proofs.Common.{◌≡◌, ℕ, zero, suc, ◌<◌, List, [], ◌∷◌, length, map, refl, ap, ◌∙◌, arith}
use Rattle.std.specs.Prelude.{slice_index_or}
use Rattle.turn_floor.specs.Parts.{AreAll, FloorParts, PassParts}

-- a pass is left with its floor and its number
abbrev pub LeftAs : PassParts → PassParts → Type 0
LeftAs p q = (q.floor ≡ p.floor) × (q.worker ≡ p.worker)

left_at : {W : Type 0} (f : W → PassParts) (xs : List PassParts) (ws : List W) → length ws ≡ length xs
    → ((i : ℕ) (w : W) (d : PassParts) → i < length xs → LeftAs (slice_index_or xs i d) (f (slice_index_or ws i w)))
    → (k : ℕ) (d : PassParts) → k < length xs → LeftAs (slice_index_or xs k d) (slice_index_or (map f ws) k d)
left_at f [] ws len left k d lt = absurd (omega (arith, lt))
left_at f (x ∷ xs) [] len left k d lt = absurd (omega (arith, len))
left_at f (x ∷ xs) (w ∷ ws) len left zero d lt = left zero w d lt
left_at f (x ∷ xs) (w ∷ ws) len left (suc k) d lt = left_at f xs ws (omega (arith, len)) (λ i v e l. left (suc i) v e (omega (arith, l))) k d (omega (arith, lt))

length-map : {W : Type 0} (f : W → PassParts) (ws : List W) → length (map f ws) ≡ length ws
length-map f [] = refl
length-map f (w ∷ ws) = ap suc (length-map f ws)

pub all_left : {W : Type 0} (f : W → PassParts) (floor : FloorParts) (xs : List PassParts) (ws : List W) → length ws ≡ length xs
    → ((i : ℕ) (w : W) (d : PassParts) → i < length xs → LeftAs (slice_index_or xs i d) (f (slice_index_or ws i w)))
    → AreAll floor xs → AreAll floor (map f ws)
all_left f floor xs ws len left all =
    let same : length (map f ws) ≡ length xs = length-map f ws ∙ len in
    record {
      own = λ k d lt. (left_at f xs ws len left k d (omega (arith, lt, same))).0 ∙ all.own k d (omega (arith, lt, same));
      every = same ∙ all.every;
      in_order = λ k d lt. (left_at f xs ws len left k d (omega (arith, lt, same))).1 ∙ all.in_order k d (omega (arith, lt, same));
    }
