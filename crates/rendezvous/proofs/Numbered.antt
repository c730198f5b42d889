-- The maps of what stands in vectors by number.
use Rattle.std.proofs.Common.{◌≡◌, ◌≢◌, ℕ, zero, suc, ◌+◌, ◌≤◌, ◌<◌, Bool, true, false, cond, nat_eq, List, [], ◌∷◌, length, get_or, set, Option, Some, None, IsSome, refl, sym, ap, ◌∙◌, subst, arith}
use Rattle.std.specs.Ordering.{nat_cmp}
use Rattle.std.specs.Cmp.{nat_cmp_total}
use Rattle.std.specs.FinMap.{FinMap, get, insert, remove, empty, same_map, nat_cmp-IsAntisymmetric}
use Rattle.std.proofs.lemmas.Bool.Decides.{Decides-eqb, nat_tests}
use Rattle.std.proofs.lemmas.List.{get_or-set_same, get_or-set_other, get_or_past}
use Rattle.rendezvous.specs.Line.{Line}
use Rattle.rendezvous.specs.Nodes.{line_at}
use Rattle.linked_lists.specs.Numbered.{by_number}
use Rattle.linked_lists.proofs.Numbered.{inserted, removed, get_from}
use Rattle.rendezvous.specs.Layout.{lines_from}
use Rattle.rendezvous.proofs.Threads.{cases_eq, itself}

module _ {X : Type 0} where
  -- what the map has is what stands there
  pub get-by_number : (xs : List (Option X)) (q : ℕ) → get (by_number 0 xs) q ≡ get_or xs q None
  get-by_number xs q = get_from q 0 q xs (omega arith)

  pub get_or-at : (xs : List X) (i k : ℕ) (x d : X) → i < length xs → get_or (set xs i x) k d ≡ cond (nat_eq k i) x (get_or xs k d)
  get_or-at xs i k x d low =
      cases_eq k i
      (λ e. ap (λ k. get_or (set xs i x) k d) e ∙ get_or-set_same xs i x d low ∙ sym (ap (λ b. cond b x (get_or xs k d)) (ap (λ k. nat_eq k i) e ∙ itself i)))
      (λ off. get_or-set_other xs i k x d (λ e. other off e) ∙ sym (ap (λ b. cond b x (get_or xs k d)) off))
    where
      other : {k i : ℕ} → nat_eq k i ≡ false → k ≢ i
      other {k} {i} off e = grind (arith, nat_tests)

  pub by_number-same : (xs ys : List (Option X)) → ((k : ℕ) → get_or ys k None ≡ get_or xs k None) → by_number 0 ys ≡ by_number 0 xs
  by_number-same xs ys is = same_map nat_cmp_total nat_cmp-IsAntisymmetric _ _ (λ q. get-by_number ys q ∙ is q ∙ sym (get-by_number xs q))

  pub by_number-put : (xs ys : List (Option X)) (k : ℕ) (x : X) → ((q : ℕ) → get_or ys q None ≡ cond (nat_eq q k) (Some x) (get_or xs q None)) → by_number 0 ys ≡ insert (by_number 0 xs) k x
  by_number-put xs ys k x is = same_map nat_cmp_total nat_cmp-IsAntisymmetric _ _ (λ q. get-by_number ys q ∙ is q ∙ sym (inserted (by_number 0 xs) k q x ∙ ap (cond (nat_eq q k) (Some x)) (get-by_number xs q)))

  pub by_number-taken : (xs ys : List (Option X)) (k : ℕ) → ((q : ℕ) → get_or ys q None ≡ cond (nat_eq q k) None (get_or xs q None)) → by_number 0 ys ≡ remove (by_number 0 xs) k
  by_number-taken xs ys k is = same_map nat_cmp_total nat_cmp-IsAntisymmetric _ _ (λ q. get-by_number ys q ∙ is q ∙ sym (removed (by_number 0 xs) k q ∙ ap (cond (nat_eq q k) None) (get-by_number xs q)))

-- ---- the lines of the channels that are there

-- what callers see of a channel
abbrev pub line_of : List Bool → List (List ℕ) → ℕ → Option Line
line_of channels lists c = cond (get_or channels c false) (Some (line_at lists c)) None

pub get_or-lines : (n i c : ℕ) (channels : List Bool) (lists : List (List ℕ)) → c ≡ n + i → get_or (lines_from n channels lists) i None ≡ cond (get_or channels i false) (Some (line_at lists c)) None
get_or-lines n i c [] lists at = refl
get_or-lines n zero c (b ∷ channels) lists at = ap (λ n. cond b (Some (line_at lists n)) None) (let e : n ≡ c = omega arith in e)
get_or-lines n (suc i) c (b ∷ channels) lists at = get_or-lines (n + 1) i c channels lists (omega arith)

pub get-lines : (channels : List Bool) (lists : List (List ℕ)) (c : ℕ) → get (by_number 0 (lines_from 0 channels lists)) c ≡ line_of channels lists c
get-lines channels lists c = get-by_number (lines_from 0 channels lists) c ∙ get_or-lines 0 c c channels lists (omega arith)

at_line : (channels : List Bool) (lists : List (List ℕ)) (c : ℕ) → get_or (lines_from 0 channels lists) c None ≡ line_of channels lists c
at_line channels lists c = get_or-lines 0 c c channels lists (omega arith)

module _ (channels channels' : List Bool) (lists lists' : List (List ℕ)) where
  pub lines-same : ((c : ℕ) → line_of channels' lists' c ≡ line_of channels lists c) → by_number 0 (lines_from 0 channels' lists') ≡ by_number 0 (lines_from 0 channels lists)
  lines-same is = by_number-same (lines_from 0 channels lists) (lines_from 0 channels' lists') (λ c. at_line channels' lists' c ∙ is c ∙ sym (at_line channels lists c))

  pub lines-put : (k : ℕ) (line : Line) → ((c : ℕ) → line_of channels' lists' c ≡ cond (nat_eq c k) (Some line) (line_of channels lists c)) → by_number 0 (lines_from 0 channels' lists') ≡ insert (by_number 0 (lines_from 0 channels lists)) k line
  lines-put k line is = by_number-put (lines_from 0 channels lists) (lines_from 0 channels' lists') k line (λ c. at_line channels' lists' c ∙ is c ∙ ap (cond (nat_eq c k) (Some line)) (sym (at_line channels lists c)))

  pub lines-taken : (k : ℕ) → ((c : ℕ) → line_of channels' lists' c ≡ cond (nat_eq c k) None (line_of channels lists c)) → by_number 0 (lines_from 0 channels' lists') ≡ remove (by_number 0 (lines_from 0 channels lists)) k
  lines-taken k is = by_number-taken (lines_from 0 channels lists) (lines_from 0 channels' lists') k (λ c. at_line channels' lists' c ∙ is c ∙ ap (cond (nat_eq c k) None) (sym (at_line channels lists c)))
