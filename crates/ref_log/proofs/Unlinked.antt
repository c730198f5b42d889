-- The places after a write was struck or became a hole.
use Rattle.std.proofs.Common.{◌≡◌, ℕ, zero, suc, ◌-◌, ◌<◌, ◌≤◌, Bool, true, false, cond, not, ◌&&◌, nat_eq, List, [], ◌∷◌, ◌++◌, length, take, Option, Some, None, slice_get, option_to_list, refl, sym, ap, subst, ◌∙◌, arith, append-nil}
use Rattle.std.specs.List.{slice_index_or, slice_set, AllByRecursion}
use Rattle.std.proofs.lemmas.Bool.Decides.{nat_tests}
use Rattle.std.proofs.lemmas.Bool.{eqb-true}
use Rattle.std.proofs.lemmas.List.{length-set, length-take, get_or_default, get_or-set_same, get_or-set_other, get_or-take}
use Rattle.std.proofs.lemmas.Option.{slice_get_past}
use Rattle.ref_log.specs.declared.places.Recent.{Recent}
use Rattle.ref_log.specs.declared.places.Reference.{Reference}
use Rattle.ref_log.specs.Log.{Write, without, IsRising}
use Rattle.ref_log.specs.Layout.{is_of, is_live, write_of, of_reference, last_place, head_of, head_at, IsLiveAtEnd, IsChained, IsLinked}
use Rattle.ref_log.specs.Struck.{IsFound}
use Rattle.ref_log.proofs.Recent.{last_place-within, last_there, all_at, not_behind, same-place, same-writes, place-hole, place-take, of_reference-push}
use Rattle.ref_log.proofs.Links.{is_of-reference, is_of-live, live_both, linked-pop}

nobody_by : (b : Bool) (n : ℕ) → n ≡ 0 → (b && not (nat_eq n 0)) ≡ false
nobody_by true n e = grind (arith, nat_tests)
nobody_by false n e = refl

-- a hole is nobody's
pub is_of-hole : (s : ℕ) (h : Recent) → h.number.0 ≡ 0 → is_of s h ≡ false
is_of-hole s h hole = nobody_by (nat_eq h.reference.0 s) h.number.0 hole

live_by : (a n r : ℕ) → (nat_eq a r && not (nat_eq n 0)) ≡ true → nat_eq n 0 ≡ false
live_by a n r h = grind (arith, nat_tests)

pub live-is_of : (r : ℕ) (e : Recent) → is_of r e ≡ true → nat_eq e.number.0 0 ≡ false
live-is_of r e h = live_by e.reference.0 e.number.0 r h

other_by : (a n r s : ℕ) → a ≡ r → nat_eq r s ≡ false → (nat_eq a s && not (nat_eq n 0)) ≡ false
other_by a n r s same apart = grind (arith, nat_tests)

pub is_of-other : (r s : ℕ) (e : Recent) → is_of r e ≡ true → nat_eq r s ≡ false → is_of s e ≡ false
is_of-other r s e here apart = other_by e.reference.0 e.number.0 r s (is_of-reference r e here) apart

zero_is : (n : ℕ) → n ≡ 0 → nat_eq n 0 ≡ true
zero_is n e = grind (arith, nat_tests)

pub same_is : (n : ℕ) → nat_eq n n ≡ true
same_is n = grind (arith, nat_tests)

below_by : (n r : ℕ) → (n ≤ r → ⊥) → r < n
below_by n r h = grind arith

pub apart_is : (a b : ℕ) → (a ≡ b → ⊥) → nat_eq a b ≡ false
apart_is a b h = grind (arith, nat_tests)

-- of a prefix too, no write stands behind the last one
pub behind-take : (r : ℕ) (es : List Recent) (n i : ℕ) (d : Recent) → i < n → i < length es → is_of r (slice_index_or es i d) ≡ true → suc i ≤ last_place r (take n es)
behind-take r es n i d early within here =
    let long = length-take n es in
    not_behind r (take n es) i d (omega arith) (subst (λ (e : Recent). is_of r e ≡ true) (sym (get_or-take n es i d early)) here)

pub prefix-within : (r : ℕ) (es : List Recent) (n : ℕ) → last_place r (take n es) ≤ n
prefix-within r es n = let long = length-take n es in let within = last_place-within r (take n es) in omega arith

whole : (r : ℕ) (es fs : List Recent) → length es ≡ length fs → last_place r (take (length fs) es) ≡ last_place r es
whole r es fs long = place-take r es (length fs) (let within = last_place-within r es in omega arith)

module _ (xs : List Reference) (es : List Recent) (linked : IsChained xs es) (r k : ℕ) (within_k : k < length es) (here_k : (d : Recent) → is_of r (slice_index_or es k d) ≡ true) (h : Recent) (hole : h.number.0 ≡ 0) where
  place_other : (s : ℕ) → nat_eq r s ≡ false → (n : ℕ) → last_place s (take n (slice_set es k h)) ≡ last_place s (take n es)
  place_other s apart n = same-place s es n k h (is_of-hole s h hole ∙ sym (is_of-other r s (slice_index_or es k h) (here_k h) apart))

  place_this : (n : ℕ) → last_place r (take n (slice_set es k h)) ≡ cond (nat_eq (last_place r (take n es)) (suc k)) (last_place r (take k es)) (last_place r (take n es))
  place_this n = place-hole r es n k h within_k (here_k h) (is_of-hole r h hole)

  not_here : (i : ℕ) (d : Recent) → nat_eq (slice_index_or (slice_set es k h) i d).number.0 0 ≡ false → i ≡ k → ⊥
  not_here i d live same =
      let at_hole : slice_index_or (slice_set es k h) i d ≡ h = ap (λ n. slice_index_or (slice_set es k h) n d) same ∙ get_or-set_same es k h d within_k in
      let dead = zero_is h.number.0 hole in
      let alive : nat_eq h.number.0 0 ≡ false = subst (λ (x : Recent). nat_eq x.number.0 0 ≡ false) at_hole live in
      absurd (cc)

  not_hole : (s i : ℕ) (d : Recent) → is_of s (slice_index_or (slice_set es k h) i d) ≡ true → i ≡ k → ⊥
  not_hole s i d there same =
      let at_hole : slice_index_or (slice_set es k h) i d ≡ h = ap (λ n. slice_index_or (slice_set es k h) n d) same ∙ get_or-set_same es k h d within_k in
      let dead = is_of-hole s h hole in
      let alive : is_of s h ≡ true = ap (is_of s) (sym at_hole) ∙ there in
      absurd (cc)

  -- a place that nobody else keeps: the write at i doesn't lead to the hole
  kept_place : (i : ℕ) (d : Recent) → i < length es → nat_eq (slice_index_or es i d).number.0 0 ≡ false → (is_of r (slice_index_or es i d) ≡ true → last_place r (take i es) ≡ suc k → ⊥) → (slice_index_or es i d).before ≡ last_place (slice_index_or es i d).reference.0 (take i (slice_set es k h))
  kept_place i d within live apart =
      let e = slice_index_or es i d in
      linked.links i d within live
      ∙ (elim (nat_eq r e.reference.0) as (λ b. nat_eq r e.reference.0 ≡ b → last_place e.reference.0 (take i es) ≡ last_place e.reference.0 (take i (slice_set es k h))) [
        | true ↦ λ same.
            let is_r : r ≡ e.reference.0 = eqb-true r e.reference.0 same in
            let here : is_of r e ≡ true = subst (λ s. is_of s e ≡ true) (sym is_r) (is_of-live e live) in
            subst (λ s. last_place s (take i es) ≡ last_place s (take i (slice_set es k h))) is_r
            (sym (place_this i ∙ ap (λ b. cond b (last_place r (take k es)) (last_place r (take i es))) (apart_is _ _ (apart here))))
        | false ↦ λ other. sym (place_other e.reference.0 other i)
      ] refl)

  -- the last write of the reference
  pub chained-last : (ys : List Reference) → head_at xs r ≡ suc k → ((s : ℕ) → head_at ys s ≡ cond (nat_eq r s) (last_place r (take k es)) (head_at xs s)) → IsChained ys (slice_set es k h)
  chained-last ys head heads = record {
    heads = λ s.
        let long : length (slice_set es k h) ≡ length es = length-set es k h in
        heads s ∙ (elim (nat_eq r s) as (λ b. nat_eq r s ≡ b → cond b (last_place r (take k es)) (head_at xs s) ≡ last_place s (slice_set es k h)) [
          | true ↦ λ same. subst (λ t. last_place r (take k es) ≡ last_place t (slice_set es k h)) (eqb-true r s same)
              (sym (sym (whole r (slice_set es k h) es long) ∙ place_this (length es) ∙ ap (λ l. cond (nat_eq l (suc k)) (last_place r (take k es)) l) (whole r es es refl ∙ sym (linked.heads r) ∙ head) ∙ ap (λ b. cond b (last_place r (take k es)) (suc k)) (same_is (suc k))))
          | false ↦ λ other. linked.heads s ∙ sym (whole s es es refl) ∙ sym (place_other s other (length es)) ∙ whole s (slice_set es k h) es long
        ] refl);
    links = λ i d within live.
        let long : length (slice_set es k h) ≡ length es = length-set es k h in
        let same : slice_index_or (slice_set es k h) i d ≡ slice_index_or es i d = get_or-set_other es k i h d (not_here i d live) in
        let inside : i < length es = omega arith in
        subst (λ (x : Recent). x.before ≡ last_place x.reference.0 (take i (slice_set es k h))) (sym same)
        (kept_place i d inside (subst (λ (x : Recent). nat_eq x.number.0 0 ≡ false) same live) (λ here at.
        let low = prefix-within r es i in
        let high = not_behind r es i d inside here in
        let last = linked.heads r in
        omega arith));
    rising = λ s i j d less inside here there.
        let long : length (slice_set es k h) ≡ length es = length-set es k h in
        let at_i : slice_index_or (slice_set es k h) i d ≡ slice_index_or es i d = get_or-set_other es k i h d (not_hole s i d here) in
        let at_j : slice_index_or (slice_set es k h) j d ≡ slice_index_or es j d = get_or-set_other es k j h d (not_hole s j d there) in
        let number_i = ap (λ (x : Recent). x.number.0) at_i in
        let number_j = ap (λ (x : Recent). x.number.0) at_j in
        let up = linked.rising s i j d less (omega arith) (ap (is_of s) (sym at_i) ∙ here) (ap (is_of s) (sym at_j) ∙ there) in
        omega arith;
  }

  -- and of the other references
  pub ends-other : (s : ℕ) → nat_eq r s ≡ false → IsLiveAtEnd s es → IsLiveAtEnd s (slice_set es k h)
  ends-other s other ends i d last =
      let long : length (slice_set es k h) ≡ length es = length-set es k h in
      let at : last_place s es ≡ suc i = sym (whole s es es refl) ∙ sym (place_other s other (length es)) ∙ whole s (slice_set es k h) es long ∙ last in
      let there = last_there s (slice_set es k h) i last in
      ap (λ (x : Recent). x.struck) (get_or-set_other es k i h d (not_hole s i d (there.here d))) ∙ ends i d at

  -- what the write kept is the last place before it
  pub kept-before : (d : Recent) → (slice_index_or es k d).before ≡ last_place r (take k es)
  kept-before d =
      let e = slice_index_or es k d in
      linked.links k d within_k (live-is_of r e (here_k d)) ∙ ap (λ s. last_place s (take k es)) (is_of-reference r e (here_k d))

without_above : (q : ℕ) (ws : List Write) → AllByRecursion (λ w. q < w.number) ws → without q ws ≡ ws
without_above q [] all = refl
without_above q (w ∷ ws) all =
    let off : nat_eq q w.number ≡ false = apart_is q w.number (λ e. absurd (omega (arith, all.0))) in
    ap (λ b. cond (not b) (w ∷ without q ws) (without q ws)) off ∙ ap (λ vs. w ∷ vs) (without_above q ws all.1)

-- a write goes where one that is struck comes in its place
pub gone : (r q : ℕ) (es : List Recent) (k : ℕ) (h : Recent) → k < length es → is_live r (slice_index_or es k h) ≡ true → (slice_index_or es k h).number.0 ≡ q → is_live r h ≡ false → IsRising (of_reference r es) → of_reference r (slice_set es k h) ≡ without q (of_reference r es)
gone r q [] k h within here number hole rising = absurd (omega arith)
gone r q (e ∷ es) zero h within here number hole rising =
    let first : IsRising (write_of e ∷ of_reference r es) = subst (λ b. IsRising (cond b (write_of e ∷ []) [] ++ of_reference r es)) here rising in
    let above : AllByRecursion (λ w. q < w.number) (of_reference r es) = subst (λ n. AllByRecursion (λ w. n < w.number) (of_reference r es)) number first.0 in
    ap (λ b. cond b (write_of h ∷ []) [] ++ of_reference r es) hole
    ∙ sym (ap (λ b. without q (cond b (write_of e ∷ []) [] ++ of_reference r es)) here
    ∙ ap (λ b. cond (not b) (write_of e ∷ without q (of_reference r es)) (without q (of_reference r es))) (ap (nat_eq q) number ∙ same_is q)
    ∙ without_above q (of_reference r es) above)
gone r q (e ∷ es) (suc k) h within here number hole rising =
    (elim (is_live r e) as (λ b. IsRising (cond b (write_of e ∷ []) [] ++ of_reference r es) → cond b (write_of e ∷ []) [] ++ of_reference r (slice_set es k h) ≡ without q (cond b (write_of e ∷ []) [] ++ of_reference r es)) [
      | true ↦ λ up.
          let below = all_at (λ w. e.number.0 < w.number) r es k h (omega arith) here up.0 in
          let off : nat_eq q e.number.0 ≡ false = apart_is q e.number.0 (λ same. absurd (omega arith)) in
          ap (λ ws. write_of e ∷ ws) (gone r q es k h (omega arith) here number hole up.1)
          ∙ ap (λ b. cond (not b) (write_of e ∷ without q (of_reference r es)) (without q (of_reference r es))) (sym off)
      | false ↦ λ up. gone r q es k h (omega arith) here number hole up
    ]) rising

dead_by : (b c : Bool) → b ≡ false → (b && c) ≡ false
dead_by true c e = cc
dead_by false c e = refl

struck_by : (b c : Bool) → c ≡ true → (b && not c) ≡ false
struck_by true c e = ap not e
struck_by false c e = refl

-- a write of another reference is none of this one's
not_live-other : (r s : ℕ) (e : Recent) → is_of r e ≡ true → nat_eq r s ≡ false → is_live s e ≡ false
not_live-other r s e here other = dead_by (is_of s e) (not e.struck) (is_of-other r s e here other)

-- a write that is struck keeps its number and its place
module _ (xs : List Reference) (es : List Recent) (linked : IsLinked xs es) (r q k : ℕ) (found : IsFound es r q k) (h : Recent) (number : h.number.0 ≡ (slice_index_or es k h).number.0) (reference : h.reference.0 ≡ (slice_index_or es k h).reference.0) (before : h.before ≡ (slice_index_or es k h).before) (struck : h.struck ≡ true) where
  same_of : (s : ℕ) → is_of s h ≡ is_of s (slice_index_or es k h)
  same_of s = ap (λ n. nat_eq n s && not (nat_eq h.number.0 0)) reference ∙ ap (λ n. nat_eq (slice_index_or es k h).reference.0 s && not (nat_eq n 0)) number

  of_r : is_of r h ≡ true
  of_r = same_of r ∙ found.here h

  same_field : {T : Type 0} (f : Recent → T) → f h ≡ f (slice_index_or es k h) → (i : ℕ) (d : Recent) → f (slice_index_or (slice_set es k h) i d) ≡ f (slice_index_or es i d)
  same_field f same i d =
      elim (nat_eq i k) as (λ b. nat_eq i k ≡ b → f (slice_index_or (slice_set es k h) i d) ≡ f (slice_index_or es i d)) [
        | true ↦ λ at.
            let is : i ≡ k = eqb-true i k at in
            ap (λ n. f (slice_index_or (slice_set es k h) n d)) is
            ∙ ap f (get_or-set_same es k h d found.within)
            ∙ same
            ∙ ap f (get_or_default es k h d found.within)
            ∙ ap (λ n. f (slice_index_or es n d)) (sym is)
        | false ↦ λ off. ap f (get_or-set_other es k i h d (λ is. (let yes : nat_eq i k ≡ true = ap (nat_eq i) (sym is) ∙ same_is i in absurd (cc))))
      ] refl

  place_as_before : (s n : ℕ) → last_place s (take n (slice_set es k h)) ≡ last_place s (take n es)
  place_as_before s n = same-place s es n k h (same_of s)

  last_as_before : (s : ℕ) → last_place s (slice_set es k h) ≡ last_place s es
  last_as_before s =
      let long : length (slice_set es k h) ≡ length es = length-set es k h in
      sym (whole s (slice_set es k h) es long) ∙ place_as_before s (length es) ∙ whole s es es refl

  pub chained-struck : IsChained xs (slice_set es k h)
  chained-struck = record {
    heads = λ s. linked.chained.heads s ∙ sym (last_as_before s);
    links = λ i d within live.
        let long : length (slice_set es k h) ≡ length es = length-set es k h in
        same_field (λ x. x.before) before i d
        ∙ linked.chained.links i d (omega arith) (ap (λ n. nat_eq n 0) (sym (same_field (λ x. x.number.0) number i d)) ∙ live)
        ∙ ap (λ s. last_place s (take i es)) (sym (same_field (λ x. x.reference.0) reference i d))
        ∙ sym (place_as_before (slice_index_or (slice_set es k h) i d).reference.0 i);
    rising = λ s i j d less within here there.
        let long : length (slice_set es k h) ≡ length es = length-set es k h in
        let number_i = same_field (λ x. x.number.0) number i d in
        let number_j = same_field (λ x. x.number.0) number j d in
        let up = linked.chained.rising s i j d less (omega arith) (sym (same_field (is_of s) (same_of s) i d) ∙ here) (sym (same_field (is_of s) (same_of s) j d) ∙ there) in
        omega arith;
  }

  pub others-struck : (s : ℕ) → nat_eq r s ≡ false → IsLiveAtEnd s (slice_set es k h)
  others-struck s other i d last =
      let at : last_place s es ≡ suc i = sym (last_as_before s) ∙ last in
      let there = last_there s es i at in
      let off : i ≡ k → ⊥ = λ same.
      let mine : is_of s (slice_index_or es k d) ≡ true = ap (λ n. is_of s (slice_index_or es n d)) (sym same) ∙ there.here d in
      let not_mine = is_of-other r s (slice_index_or es k d) (found.here d) other in
      absurd (cc) in
      ap (λ (x : Recent). x.struck) (get_or-set_other es k i h d off) ∙ linked.ends s i d at

  pub gone-struck : IsRising (of_reference r es) → (s : ℕ) → of_reference s (slice_set es k h) ≡ cond (nat_eq r s) (without q (of_reference s es)) (of_reference s es)
  gone-struck rising s =
      elim (nat_eq r s) as (λ b. nat_eq r s ≡ b → of_reference s (slice_set es k h) ≡ cond b (without q (of_reference s es)) (of_reference s es)) [
        | true ↦ λ same. subst (λ t. of_reference t (slice_set es k h) ≡ without q (of_reference t es)) (eqb-true r s same)
            (gone r q es k h found.within (live_both (is_of r (slice_index_or es k h)) (slice_index_or es k h).struck (found.here h) (found.live h)) (found.number h) (struck_by (is_of r h) h.struck struck) rising)
        | false ↦ λ other. same-writes s es k h
            (ap (λ b. cond b (write_of h ∷ []) []) (not_live-other r s h of_r other)
            ∙ sym (ap (λ b. cond b (write_of (slice_index_or es k h) ∷ []) []) (not_live-other r s (slice_index_or es k h) (found.here h) other)))
      ] refl

-- a struck write that becomes a hole
pub struck-hole : (s : ℕ) (es : List Recent) (k : ℕ) (h : Recent) → (slice_index_or es k h).struck ≡ true → h.number.0 ≡ 0 → of_reference s (slice_set es k h) ≡ of_reference s es
struck-hole s es k h struck hole =
    same-writes s es k h
    (ap (λ b. cond b (write_of h ∷ []) []) (dead_by (is_of s h) (not h.struck) (is_of-hole s h hole))
    ∙ sym (ap (λ b. cond b (write_of (slice_index_or es k h) ∷ []) []) (struck_by (is_of s (slice_index_or es k h)) (slice_index_or es k h).struck struck)))

some_head : (o : Option Reference) (n : ℕ) → head_of o ≡ suc n → o ≡ None → ⊥
some_head o n is none = let never : 0 ≡ suc n = ap head_of (sym none) ∙ is in absurd (omega arith)

-- a reference that has recent writes is there
pub there-by-head : (xs : List Reference) (r n : ℕ) → head_at xs r ≡ suc n → r < length xs
there-by-head xs r n is = below_by (length xs) r (λ past. some_head (slice_get xs r) n is (slice_get_past xs r past))

pub live-there : (xs : List Reference) (es : List Recent) (i : ℕ) (d : Recent) → IsChained xs es → i < length es → nat_eq (slice_index_or es i d).number.0 0 ≡ false → (slice_index_or es i d).reference.0 < length xs
live-there xs es i d linked within live =
    let e = slice_index_or es i d in
    let high = not_behind e.reference.0 es i d within (is_of-live e live) in
    there-by-head xs e.reference.0 (last_place e.reference.0 es - 1) (linked.heads e.reference.0 ∙ omega arith)

pub set_same : {A : Type 0} (xs : List A) (k : ℕ) (d : A) → slice_set xs k (slice_index_or xs k d) ≡ xs
set_same [] k d = refl
set_same (x ∷ xs) zero d = refl
set_same (x ∷ xs) (suc k) d = ap (λ ys. x ∷ ys) (set_same xs k d)

-- a hole is popped from the end
pub pop-hole : (xs : List Reference) (es fs : List Recent) (o : Option Recent) (h : Recent) → es ≡ fs ++ option_to_list o → o ≡ Some h → h.number.0 ≡ 0 → IsLinked xs es → ((s : ℕ) → of_reference s fs ≡ of_reference s es) × IsLinked xs fs
pop-hole xs es fs o h is some hole linked =
    let whole : es ≡ fs ++ h ∷ [] = is ∙ ap (λ p. fs ++ option_to_list p) some in (
      λ s. sym (ap (of_reference s) whole ∙ of_reference-push s fs h ∙ ap (λ b. of_reference s fs ++ cond b (write_of h ∷ []) []) (dead_by (is_of s h) (not h.struck) (is_of-hole s h hole)) ∙ append-nil (of_reference s fs)),
      linked-pop xs fs h (subst (IsLinked xs) whole linked) (λ s. is_of-hole s h hole),
    )
