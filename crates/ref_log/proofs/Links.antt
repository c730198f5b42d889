-- The places that references and writes keep, before and after a change.
use Rattle.std.proofs.Common.{◌≡◌, ◌⊎◌, inl, inr, ℕ, zero, suc, ◌+◌, ◌-◌, ◌<◌, Bool, true, false, cond, not, ◌&&◌, nat_eq, List, [], ◌∷◌, ◌++◌, length, take, Some, slice_get, refl, sym, ap, subst, ◌∙◌, arith}
use Rattle.std.specs.List.{slice_index_or, slice_set, AllByRecursion}
use Rattle.std.proofs.Math.Seq.{get_or-append_seam, take-append_seam}
use Rattle.std.proofs.lemmas.Bool.Decides.{nat_tests}
use Rattle.std.proofs.lemmas.List.{length_push, get_or_append_left, take-append-le}
use Rattle.ref_log.specs.declared.places.Recent.{Recent}
use Rattle.ref_log.specs.declared.places.Reference.{Reference}
use Rattle.ref_log.specs.Layout.{is_of, of_reference, last_place, head_at, IsLiveAtEnd, IsChained, IsLinked}
use Rattle.ref_log.proofs.Recent.{last_place-push, last_place-within, last_there, not_behind, all_at}

next_same : (a b : ℕ) → nat_eq (suc a) (suc b) ≡ nat_eq a b
next_same a b = grind (arith, nat_tests)

apart_zero : (a : ℕ) → nat_eq (suc a) 0 ≡ false
apart_zero a = grind (arith, nat_tests)

zero_apart : (a : ℕ) → nat_eq 0 (suc a) ≡ false
zero_apart a = grind (arith, nat_tests)

-- what is at a place of a list after one place changed
pub at-set : {A : Type 0} (xs : List A) (r : ℕ) (y : A) (s : ℕ) → r < length xs → slice_get (slice_set xs r y) s ≡ cond (nat_eq r s) (Some y) (slice_get xs s)
at-set [] r y s h = absurd (omega arith)
at-set (x ∷ xs) zero y zero h = refl
at-set (x ∷ xs) zero y (suc s) h = ap (λ b. cond b (Some y) (slice_get xs s)) (sym (zero_apart s))
at-set (x ∷ xs) (suc r) y zero h = ap (λ b. cond b (Some y) (Some x)) (sym (apart_zero r))
at-set (x ∷ xs) (suc r) y (suc s) h = at-set xs r y s (omega arith) ∙ ap (λ b. cond b (Some y) (slice_get xs s)) (sym (next_same r s))

before_or_last : (i n : ℕ) → i < n + 1 → (i < n) ⊎ (i ≡ n)
before_or_last i n h = grind arith

live_is : (a n s : ℕ) → nat_eq n 0 ≡ false → a ≡ s → (nat_eq a s && not (nat_eq n 0)) ≡ true
live_is a n s live same = grind (arith, nat_tests)

reference_by : (a n r : ℕ) → (nat_eq a r && not (nat_eq n 0)) ≡ true → a ≡ r
reference_by a n r h = grind (arith, nat_tests)

pub is_of-reference : (r : ℕ) (e : Recent) → is_of r e ≡ true → e.reference.0 ≡ r
is_of-reference r e h = reference_by e.reference.0 e.number.0 r h

is_last : (i n : ℕ) → n + 1 ≡ suc i → i ≡ n
is_last i n h = omega arith

-- a live write is one of its reference
pub is_of-live : (e : Recent) → nat_eq e.number.0 0 ≡ false → is_of e.reference.0 e ≡ true
is_of-live e live = live_is e.reference.0 e.number.0 e.reference.0 live refl

pub live_both : (b c : Bool) → b ≡ true → c ≡ false → (b && not c) ≡ true
live_both true c here live = ap not live
live_both false c here live = here

-- what is above those of a reference that weren't struck is above the struck ones too
pub above_all : (xs : List Reference) (es : List Recent) → IsLinked xs es → (r q : ℕ) → AllByRecursion (λ w. w.number < q) (of_reference r es) → (i : ℕ) (d : Recent) → i < length es → is_of r (slice_index_or es i d) ≡ true → (slice_index_or es i d).number.0 < q
above_all xs es linked r q all i d within here =
    let n = last_place r es - 1 in
    let high = not_behind r es i d within here in
    let at : last_place r es ≡ suc n = omega arith in
    let last = last_there r es n at in
    let top : (slice_index_or es n d).number.0 < q = all_at (λ w. w.number < q) r es n d last.within (live_both (is_of r (slice_index_or es n d)) (slice_index_or es n d).struck (last.here d) (linked.ends r n d at)) all in
    elim (before_or_last i n (omega arith)) as (λ _. (slice_index_or es i d).number.0 < q) [
      | inl early ↦ let less = linked.chained.rising r i n d early last.within here (last.here d) in omega arith
      | inr same ↦ subst (λ m. (slice_index_or es m d).number.0 < q) (sym same) top
    ]

-- the places after a write joined at the end
chained-push : (xs ys : List Reference) (es : List Recent) (e : Recent) → IsChained xs es → e.before ≡ last_place e.reference.0 es → ((s : ℕ) → head_at ys s ≡ cond (is_of s e) (length es + 1) (head_at xs s)) → ((i : ℕ) (d : Recent) → i < length es → is_of e.reference.0 (slice_index_or es i d) ≡ true → (slice_index_or es i d).number.0 < e.number.0) → IsChained ys (es ++ e ∷ [])
chained-push xs ys es e linked before heads above = record {
  heads = λ s. heads s ∙ ap (cond (is_of s e) (length es + 1)) (linked.heads s) ∙ sym (last_place-push s es e);
  links = λ i d within live.
      let more : length (es ++ e ∷ []) ≡ length es + 1 = length_push es e in
      elim (before_or_last i (length es) (omega arith)) as (λ _. (slice_index_or (es ++ e ∷ []) i d).before ≡ last_place (slice_index_or (es ++ e ∷ []) i d).reference.0 (take i (es ++ e ∷ []))) [
        | inl early ↦
            let same : slice_index_or (es ++ e ∷ []) i d ≡ slice_index_or es i d = get_or_append_left es (e ∷ []) d i early in
            ap (λ (x : Recent). x.before) same
            ∙ linked.links i d early (ap (λ (x : Recent). nat_eq x.number.0 0) (sym same) ∙ live)
            ∙ ap (λ (x : Recent). last_place x.reference.0 (take i es)) (sym same)
            ∙ ap (last_place (slice_index_or (es ++ e ∷ []) i d).reference.0) (sym (take-append-le i es (e ∷ []) (omega arith)))
        | inr last ↦
            subst (λ n. (slice_index_or (es ++ e ∷ []) n d).before ≡ last_place (slice_index_or (es ++ e ∷ []) n d).reference.0 (take n (es ++ e ∷ []))) (sym last)
            (let same : slice_index_or (es ++ e ∷ []) (length es) d ≡ e = get_or-append_seam es e [] d in
            ap (λ (x : Recent). x.before) same
            ∙ before
            ∙ ap (λ (x : Recent). last_place x.reference.0 es) (sym same)
            ∙ ap (last_place (slice_index_or (es ++ e ∷ []) (length es) d).reference.0) (sym (take-append_seam es (e ∷ []))))
      ];
  rising = λ r i j d less within here there.
      let more : length (es ++ e ∷ []) ≡ length es + 1 = length_push es e in
      let at_i : slice_index_or (es ++ e ∷ []) i d ≡ slice_index_or es i d = get_or_append_left es (e ∷ []) d i (omega arith) in
      let number_i = ap (λ (x : Recent). x.number.0) at_i in
      let here_i : is_of r (slice_index_or es i d) ≡ true = ap (is_of r) (sym at_i) ∙ here in
      elim (before_or_last j (length es) (omega arith)) as (λ _. (slice_index_or (es ++ e ∷ []) i d).number.0 < (slice_index_or (es ++ e ∷ []) j d).number.0) [
        | inl early ↦
            let at_j : slice_index_or (es ++ e ∷ []) j d ≡ slice_index_or es j d = get_or_append_left es (e ∷ []) d j early in
            let number_j = ap (λ (x : Recent). x.number.0) at_j in
            let up = linked.rising r i j d less early here_i (ap (is_of r) (sym at_j) ∙ there) in
            omega arith
        | inr last ↦
            let at_j : slice_index_or (es ++ e ∷ []) j d ≡ e = ap (λ n. slice_index_or (es ++ e ∷ []) n d) last ∙ get_or-append_seam es e [] d in
            let number_j = ap (λ (x : Recent). x.number.0) at_j in
            let of_r : e.reference.0 ≡ r = is_of-reference r e (ap (is_of r) (sym at_j) ∙ there) in
            let up = above i d (omega arith) (ap (λ s. is_of s (slice_index_or es i d)) of_r ∙ here_i) in
            omega arith
      ];
}

ends-push : (r : ℕ) (es : List Recent) (e : Recent) → IsLiveAtEnd r es → e.struck ≡ false → IsLiveAtEnd r (es ++ e ∷ [])
ends-push r es e ends live i d last =
    (elim (is_of r e) as (λ b. cond b (length es + 1) (last_place r es) ≡ suc i → (slice_index_or (es ++ e ∷ []) i d).struck ≡ false) [
      | true ↦ λ at. ap (λ (x : Recent). x.struck) (ap (λ n. slice_index_or (es ++ e ∷ []) n d) (is_last i (length es) at) ∙ get_or-append_seam es e [] d) ∙ live
      | false ↦ λ at.
          let within = last_place-within r es in
          ap (λ (x : Recent). x.struck) (get_or_append_left es (e ∷ []) d i (omega arith)) ∙ ends i d at
    ]) (sym (last_place-push r es e) ∙ last)

pub linked-push : (xs ys : List Reference) (es : List Recent) (e : Recent) → IsLinked xs es → e.before ≡ last_place e.reference.0 es → ((s : ℕ) → head_at ys s ≡ cond (is_of s e) (length es + 1) (head_at xs s)) → AllByRecursion (λ w. w.number < e.number.0) (of_reference e.reference.0 es) → e.struck ≡ false → IsLinked ys (es ++ e ∷ [])
linked-push xs ys es e linked before heads above live = record {
  chained = chained-push xs ys es e linked.chained before heads (above_all xs es linked e.reference.0 e.number.0 above);
  ends = λ r. ends-push r es e (linked.ends r) live;
}

chained-pop : (xs : List Reference) (es : List Recent) (e : Recent) → IsChained xs (es ++ e ∷ []) → ((s : ℕ) → is_of s e ≡ false) → IsChained xs es
chained-pop xs es e linked hole = record {
  heads = λ s. linked.heads s ∙ last_place-push s es e ∙ ap (λ b. cond b (length es + 1) (last_place s es)) (hole s);
  links = λ i d within live.
      let more : length (es ++ e ∷ []) ≡ length es + 1 = length_push es e in
      let same : slice_index_or (es ++ e ∷ []) i d ≡ slice_index_or es i d = get_or_append_left es (e ∷ []) d i within in
      ap (λ (x : Recent). x.before) (sym same)
      ∙ linked.links i d (omega arith) (ap (λ (x : Recent). nat_eq x.number.0 0) same ∙ live)
      ∙ ap (λ (x : Recent). last_place x.reference.0 (take i (es ++ e ∷ []))) same
      ∙ ap (last_place (slice_index_or es i d).reference.0) (take-append-le i es (e ∷ []) (omega arith));
  rising = λ r i j d less within here there.
      let more : length (es ++ e ∷ []) ≡ length es + 1 = length_push es e in
      let at_i : slice_index_or (es ++ e ∷ []) i d ≡ slice_index_or es i d = get_or_append_left es (e ∷ []) d i (omega arith) in
      let at_j : slice_index_or (es ++ e ∷ []) j d ≡ slice_index_or es j d = get_or_append_left es (e ∷ []) d j within in
      let number_i = ap (λ (x : Recent). x.number.0) at_i in
      let number_j = ap (λ (x : Recent). x.number.0) at_j in
      let up = linked.rising r i j d less (omega arith) (ap (is_of r) at_i ∙ here) (ap (is_of r) at_j ∙ there) in
      omega arith;
}

-- the places after a hole went from the end
pub linked-pop : (xs : List Reference) (es : List Recent) (e : Recent) → IsLinked xs (es ++ e ∷ []) → ((s : ℕ) → is_of s e ≡ false) → IsLinked xs es
linked-pop xs es e linked hole = record {
  chained = chained-pop xs es e linked.chained hole;
  ends = λ r i d at.
      let within = last_place-within r es in
      ap (λ (x : Recent). x.struck) (sym (get_or_append_left es (e ∷ []) d i (omega arith)))
      ∙ linked.ends r i d (last_place-push r es e ∙ ap (λ b. cond b (length es + 1) (last_place r es)) (hole r) ∙ at);
}

-- nothing is linked to nothing
pub linked-none : (xs : List Reference) → ((s : ℕ) → head_at xs s ≡ 0) → IsLinked xs []
linked-none xs none = record {
  chained = record { heads = none; links = λ i d within live. absurd (omega arith); rising = λ r i j d less within here there. absurd (omega arith) };
  ends = λ r i d at. absurd (omega arith);
}

-- other places that lead to the same
pub linked-same : (xs ys : List Reference) (es : List Recent) → ((s : ℕ) → head_at ys s ≡ head_at xs s) → IsLinked xs es → IsLinked ys es
linked-same xs ys es heads linked = record {
  chained = record { heads = λ s. heads s ∙ linked.chained.heads s; links = linked.chained.links; rising = linked.chained.rising };
  ends = linked.ends;
}
