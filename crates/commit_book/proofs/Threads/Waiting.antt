-- Offers that leave the lines, offers that join them, and channels that are made.
use Rattle.std.proofs.Common.{◌≡◌, ◌⊎◌, inl, inr, ℕ, Bool, true, false, cond, not, ◌&&◌, ◌||◌, nat_eq, List, [], ◌∷◌, ◌++◌, Option, Some, None, refl, sym, ap, subst, ◌∙◌, append-nil}
use Rattle.std.specs.Prelude.{IfSome, is_some, option_and_then, option_map, unwrap_or, if◌then◌else◌}
use Rattle.std.specs.List.{IsDistinct}
use Rattle.std.specs.Ordering.{nat_cmp}
use Rattle.std.specs.Cmp.{nat_cmp_total, nat_eq_equiv, unsigned_tied}
use Rattle.std.specs.FinMap as map
use Rattle.std.specs.FinMap.{FinMap, get-remove}
use Rattle.std.proofs.lemmas.Bool.{false≢true, eqb-true}
use Rattle.std.proofs.lemmas.List.Folds.{list_any-append}
use Rattle.std.proofs.lemmas.Map.Keys.{IsDistinct-push}
use Rattle.linked_lists.specs.Lists.{is_listed, without}
use Rattle.linked_lists.proofs.Leaving.{is_listed-without, IsDistinct-filter, IsDistinct-nil}
use Rattle.thread_slots.specs.Slot.{Slot}
use Rattle.rendezvous.specs.declared.offer.Offer.{Offer}
use Rattle.rendezvous.specs.declared.offer.Offer.TheVariants as offers
use Rattle.rendezvous.specs.Line.{Line, Lines, Seen, nobody, joined, left, offered, LineBacked, IsSound}
use Rattle.rendezvous.specs.Offer.{sends_on, receives_on}
use Rattle.language.proofs.Applying.{get_inserted}
use Rattle.commit_book.specs.Doing.{waits_with}
use Rattle.commit_book.specs.Offers.{sends_at, receives_at, AreOffers}

pub get_removed : {X : Type 0} (m : FinMap nat_cmp X) (k q : ℕ) → map.get (map.remove m k) q ≡ cond (nat_eq q k) None (map.get m q)
get_removed m k q = get-remove nat_cmp_total m k q ∙ ap (λ b. cond b None (map.get m q)) (unsigned_tied q k)

pub flipped : (a b : ℕ) → nat_eq a b ≡ nat_eq b a
flipped a b = elim (nat_eq a b) as (λ k. nat_eq a b ≡ k → k ≡ nat_eq b a) [
  | true ↦ λ is. sym (ap (λ x. nat_eq b x) (eqb-true a b is) ∙ nat_eq_equiv.refl b)
  | false ↦ λ is. elim (nat_eq b a) as (λ k. nat_eq b a ≡ k → false ≡ k) [
    | true ↦ λ at. absurd (false≢true (sym is ∙ ap (nat_eq a) (eqb-true b a at) ∙ nat_eq_equiv.refl a))
    | false ↦ λ at. refl
  ] refl
] refl

-- ---- a thread leaves

left_backed : (c t u : ℕ) (o : Option Offer) (l : Option Line) → LineBacked c t o l → LineBacked c t (cond (nat_eq t u) None o) (option_map (left u) l)
left_backed c t u o None h =
    elim (nat_eq t u) as (λ b. LineBacked c t (cond b None o) None) [ true ↦ (refl, refl) | false ↦ h ]
left_backed c t u o (Some l) h =
    let here : (xs : List ℕ) → is_listed t (without u xs) ≡ (not (nat_eq t u) && is_listed t xs) = λ xs. is_listed-without u t xs ∙ ap (λ b. not b && is_listed t xs) (flipped u t) in (
      here l.sends ∙ side (sends_on c) l.sends h.0,
      here l.receives ∙ side (receives_on c) l.receives h.1,
    )
  where
    side : (p : Offer → Bool) (xs : List ℕ) → is_listed t xs ≡ offered p o → (not (nat_eq t u) && is_listed t xs) ≡ offered p (cond (nat_eq t u) None o)
    side p xs is = elim (nat_eq t u) as (λ b. (not b && is_listed t xs) ≡ offered p (cond b None o)) [ true ↦ refl | false ↦ is ]

left_once : (u : ℕ) (l : Option Line) → IfSome l (λ l. IsDistinct nat_eq l.sends × IsDistinct nat_eq l.receives) → IfSome (option_map (left u) l) (λ l. IsDistinct nat_eq l.sends × IsDistinct nat_eq l.receives)
left_once u None h = tt
left_once u (Some l) h = (IsDistinct-filter nat_eq (λ v. not (nat_eq u v)) l.sends h.0, IsDistinct-filter nat_eq (λ v. not (nat_eq u v)) l.receives h.1)

-- who waits stands in the lines of its offer, once its offer was withdrawn too
pub sound_left : (old new : Seen) (u : ℕ) → ((c : ℕ) → map.get new.lines c ≡ option_map (left u) (map.get old.lines c)) → new.offers ≡ map.remove old.offers u → IsSound old → IsSound new
sound_left old new u lines offers sound = record {
  backed = λ c t.
      subst (λ (o : Option Offer). LineBacked c t o (map.get new.lines c)) (sym (ap (λ m. map.get m t) offers ∙ get_removed old.offers u t))
      (subst (λ (l : Option Line). LineBacked c t (cond (nat_eq t u) None (map.get old.offers t)) l) (sym (lines c)) (left_backed c t u (map.get old.offers t) (map.get old.lines c) (sound.backed c t)));
  once = λ c. subst (λ (l : Option Line). IfSome l (λ l. IsDistinct nat_eq l.sends × IsDistinct nat_eq l.receives)) (sym (lines c)) (left_once u (map.get old.lines c) (sound.once c));
}

no_sends_left : (u : ℕ) (l : Option Line) → (unwrap_or l nobody).sends ≡ [] → (unwrap_or (option_map (left u) l) nobody).sends ≡ []
no_sends_left u None h = refl
no_sends_left u (Some l) h = ap (without u) h

no_receives_left : (u : ℕ) (l : Option Line) → (unwrap_or l nobody).receives ≡ [] → (unwrap_or (option_map (left u) l) nobody).receives ≡ []
no_receives_left u None h = refl
no_receives_left u (Some l) h = ap (without u) h

module _ {C : Type 0} (offer_of : C → Option Offer) where
  -- the thread u waits no more, and nobody else begins or ends to wait
  pub record IsLeft (u : ℕ) (threads new : FinMap nat_cmp (Slot C)) (before after : Seen) : Type 0 where
    pub lines : (c : ℕ) → map.get after.lines c ≡ option_map (left u) (map.get before.lines c)
    pub offers : after.offers ≡ map.remove before.offers u
    pub gone : option_and_then (waits_with offer_of) (map.get new u) ≡ None
    pub others : (t : ℕ) → nat_eq t u ≡ false → option_and_then (waits_with offer_of) (map.get new t) ≡ option_and_then (waits_with offer_of) (map.get threads t)

  pub offers_left : (u : ℕ) (threads new : FinMap nat_cmp (Slot C)) (before after : Seen) → IsLeft u threads new before after → AreOffers offer_of threads before → AreOffers offer_of new after
  offers_left u threads new before after is shown = record {
    each = λ t.
        ap (λ m. map.get m t) is.offers
        ∙ get_removed before.offers u t
        ∙ (elim (nat_eq t u) as (λ b. nat_eq t u ≡ b → cond b None (map.get before.offers t) ≡ option_and_then (waits_with offer_of) (map.get new t)) [
          | true ↦ λ at. sym (ap (λ v. option_and_then (waits_with offer_of) (map.get new v)) (eqb-true t u at) ∙ is.gone)
          | false ↦ λ apart. shown.each t ∙ sym (is.others t apart)
        ] refl);
    lines = sound_left before after u is.lines is.offers shown.lines;
    one_side = λ c. elim (shown.one_side c) [
      | (inl none) ↦ inl (ap (λ l. (unwrap_or l nobody).sends) (is.lines c) ∙ no_sends_left u (map.get before.lines c) none)
      | (inr none) ↦ inr (ap (λ l. (unwrap_or l nobody).receives) (is.lines c) ∙ no_receives_left u (map.get before.lines c) none)
    ];
  }

  -- nobody begins or ends to wait
  pub offers_same : (threads new : FinMap nat_cmp (Slot C)) (seen : Seen) → ((t : ℕ) → option_and_then (waits_with offer_of) (map.get new t) ≡ option_and_then (waits_with offer_of) (map.get threads t)) → AreOffers offer_of threads seen → AreOffers offer_of new seen
  offers_same threads new seen same shown = record { each = λ t. shown.each t ∙ sym (same t); lines = shown.lines; one_side = shown.one_side }

-- ---- a channel is made

made_backed : (c k t : ℕ) (o : Option Offer) (lines : Lines) → map.get lines k ≡ None → LineBacked c t o (map.get lines c) → LineBacked c t o (map.get (map.insert lines k nobody) c)
made_backed c k t o lines none h =
    subst (LineBacked c t o) (sym (get_inserted lines k nobody c))
    (elim (nat_eq c k) as (λ b. nat_eq c k ≡ b → LineBacked c t o (cond b (Some nobody) (map.get lines c))) [
      | true ↦ λ at. let old = subst (LineBacked c t o) (ap (map.get lines) (eqb-true c k at) ∙ none) h in (sym old.0, sym old.1)
      | false ↦ λ apart. h
    ] refl)

made_once : (c k : ℕ) (lines : Lines) → IfSome (map.get lines c) (λ l. IsDistinct nat_eq l.sends × IsDistinct nat_eq l.receives) → IfSome (map.get (map.insert lines k nobody) c) (λ l. IsDistinct nat_eq l.sends × IsDistinct nat_eq l.receives)
made_once c k lines h =
    subst (λ (l : Option Line). IfSome l (λ l. IsDistinct nat_eq l.sends × IsDistinct nat_eq l.receives)) (sym (get_inserted lines k nobody c))
    (elim (nat_eq c k) as (λ b. IfSome (cond b (Some nobody) (map.get lines c)) (λ l. IsDistinct nat_eq l.sends × IsDistinct nat_eq l.receives)) [
      | true ↦ (IsDistinct-nil, IsDistinct-nil)
      | false ↦ h
    ])

made_side : (c k : ℕ) (lines : Lines) → (sends_at lines c ≡ []) ⊎ (receives_at lines c ≡ []) → (sends_at (map.insert lines k nobody) c ≡ []) ⊎ (receives_at (map.insert lines k nobody) c ≡ [])
made_side c k lines h =
    subst (λ (l : Option Line). ((unwrap_or l nobody).sends ≡ []) ⊎ ((unwrap_or l nobody).receives ≡ [])) (sym (get_inserted lines k nobody c))
    (elim (nat_eq c k) as (λ b. ((unwrap_or (cond b (Some nobody) (map.get lines c)) nobody).sends ≡ []) ⊎ ((unwrap_or (cond b (Some nobody) (map.get lines c)) nobody).receives ≡ [])) [
      | true ↦ inl refl
      | false ↦ h
    ])

-- a channel on which nobody waits
pub offers_made : {C : Type 0} (offer_of : C → Option Offer) (threads : FinMap nat_cmp (Slot C)) (before after : Seen) (k : ℕ) → map.get before.lines k ≡ None → after.lines ≡ map.insert before.lines k nobody → after.offers ≡ before.offers → AreOffers offer_of threads before → AreOffers offer_of threads after
offers_made offer_of threads before after k none lines offers shown = record {
  each = λ t. ap (λ m. map.get m t) offers ∙ shown.each t;
  lines = record {
    backed = λ c t.
        subst (λ (m : Lines). LineBacked c t (map.get after.offers t) (map.get m c)) (sym lines)
        (subst (λ (m : FinMap nat_cmp Offer). LineBacked c t (map.get m t) (map.get (map.insert before.lines k nobody) c)) (sym offers) (made_backed c k t (map.get before.offers t) before.lines none (shown.lines.backed c t)));
    once = λ c. subst (λ (m : Lines). IfSome (map.get m c) (λ l. IsDistinct nat_eq l.sends × IsDistinct nat_eq l.receives)) (sym lines) (made_once c k before.lines (shown.lines.once c));
  };
  one_side = λ c. subst (λ (m : Lines). (sends_at m c ≡ []) ⊎ (receives_at m c ≡ [])) (sym lines) (made_side c k before.lines (shown.one_side c));
}

-- ---- a thread joins

listed_more : (t u : ℕ) (b : Bool) (xs : List ℕ) → is_listed t (xs ++ (if b then u ∷ [] else [])) ≡ (is_listed t xs || (b && nat_eq t u))
listed_more t u true xs = list_any-append (nat_eq t) xs (u ∷ []) ∙ ap (λ k. is_listed t xs || k) (one (nat_eq t u))
  where
    one : (k : Bool) → (k || false) ≡ k
    one true = refl
    one false = refl
listed_more t u false xs = ap (is_listed t) (append-nil xs) ∙ sym (none (is_listed t xs))
  where
    none : (k : Bool) → (k || false) ≡ k
    none true = refl
    none false = refl

joined_side : (p : Offer → Bool) (t u : ℕ) (offer : Offer) (o : Option Offer) (xs : List ℕ) → is_listed t xs ≡ offered p o → (nat_eq t u ≡ true → o ≡ None) → is_listed t (xs ++ (if p offer then u ∷ [] else [])) ≡ offered p (cond (nat_eq t u) (Some offer) o)
joined_side p t u offer o xs is free =
    listed_more t u (p offer) xs
    ∙ (elim (nat_eq t u) as (λ b. nat_eq t u ≡ b → (is_listed t xs || (p offer && b)) ≡ offered p (cond b (Some offer) o)) [
      | true ↦ λ at. ap (λ k. k || (p offer && true)) (is ∙ ap (offered p) (free at)) ∙ and_true (p offer)
      | false ↦ λ apart. or_no (is_listed t xs) (p offer) ∙ is
    ] refl)
  where
    and_true : (k : Bool) → (k && true) ≡ k
    and_true true = refl
    and_true false = refl

    or_no : (k b : Bool) → (k || (b && false)) ≡ k
    or_no true b = refl
    or_no false true = refl
    or_no false false = refl

nowhere : (p : Offer → Bool) (c t u : ℕ) (offer : Offer) (o : Option Offer) → p offer ≡ false → offered p o ≡ false → offered p (cond (nat_eq t u) (Some offer) o) ≡ false
nowhere p c t u offer o none h = elim (nat_eq t u) as (λ b. offered p (cond b (Some offer) o) ≡ false) [ true ↦ none | false ↦ h ]

or_left : (a b : Bool) → ((a || b) ≡ true → ⊥) → a ≡ false
or_left true b f = absurd (f refl)
or_left false b f = refl

or_right : (a b : Bool) → ((a || b) ≡ true → ⊥) → b ≡ false
or_right true b f = absurd (f refl)
or_right false true f = absurd (f refl)
or_right false false f = refl

joined_backed : (c t u : ℕ) (offer : Offer) (o : Option Offer) (l : Option Line) → ((sends_on c offer || receives_on c offer) ≡ true → is_some l ≡ true) → (nat_eq t u ≡ true → o ≡ None) → LineBacked c t o l → LineBacked c t (cond (nat_eq t u) (Some offer) o) (option_map (joined u offer c) l)
joined_backed c t u offer o None there free h =
    let away : (sends_on c offer || receives_on c offer) ≡ true → ⊥ = λ on. false≢true (there on) in (
      nowhere (sends_on c) c t u offer o (or_left (sends_on c offer) (receives_on c offer) away) h.0,
      nowhere (receives_on c) c t u offer o (or_right (sends_on c offer) (receives_on c offer) away) h.1,
    )
joined_backed c t u offer o (Some l) there free h = (joined_side (sends_on c) t u offer o l.sends h.0 free, joined_side (receives_on c) t u offer o l.receives h.1 free)

once_more : (u : ℕ) (b : Bool) (xs : List ℕ) → is_listed u xs ≡ false → IsDistinct nat_eq xs → IsDistinct nat_eq (xs ++ (if b then u ∷ [] else []))
once_more u true xs none h = IsDistinct-push nat_eq_equiv xs u h none
once_more u false xs none h = subst (IsDistinct nat_eq) (sym (append-nil xs)) h

joined_once : (c u : ℕ) (offer : Offer) (l : Option Line) → LineBacked c u None l → IfSome l (λ l. IsDistinct nat_eq l.sends × IsDistinct nat_eq l.receives) → IfSome (option_map (joined u offer c) l) (λ l. IsDistinct nat_eq l.sends × IsDistinct nat_eq l.receives)
joined_once c u offer None b h = tt
joined_once c u offer (Some l) b h = (once_more u (sends_on c offer) l.sends b.0 h.0, once_more u (receives_on c offer) l.receives b.1 h.1)

-- no offer is on both sides of a channel
one_way : (c : ℕ) (o : Offer) → (sends_on c o && receives_on c o) ≡ false
one_way c (offers.Send a) = elim (nat_eq c a.0) as (λ b. (b && false) ≡ false) [ true ↦ refl | false ↦ refl ]
one_way c (offers.Recv a) = refl
one_way c (offers.Pick a b) = refl

sides : (a b : Bool) (t : ℕ) (ss rs : List ℕ) → (a && b) ≡ false → (a ≡ true → rs ≡ []) → (b ≡ true → ss ≡ []) → (ss ≡ []) ⊎ (rs ≡ []) → (ss ++ (if a then t ∷ [] else []) ≡ []) ⊎ (rs ++ (if b then t ∷ [] else []) ≡ [])
sides true true t ss rs apart f g h = absurd (false≢true (sym apart))
sides true false t ss rs apart f g h = inr (append-nil rs ∙ f refl)
sides false true t ss rs apart f g h = inl (append-nil ss ∙ g refl)
sides false false t ss rs apart f g (inl h) = inl (append-nil ss ∙ h)
sides false false t ss rs apart f g (inr h) = inr (append-nil rs ∙ h)

joined_sides : (c u : ℕ) (offer : Offer) (l : Option Line) → (sends_on c offer ≡ true → (unwrap_or l nobody).receives ≡ []) → (receives_on c offer ≡ true → (unwrap_or l nobody).sends ≡ [])
    → ((unwrap_or l nobody).sends ≡ []) ⊎ ((unwrap_or l nobody).receives ≡ []) → ((unwrap_or (option_map (joined u offer c) l) nobody).sends ≡ []) ⊎ ((unwrap_or (option_map (joined u offer c) l) nobody).receives ≡ [])
joined_sides c u offer None f g h = inl refl
joined_sides c u offer (Some l) f g h = sides (sends_on c offer) (receives_on c offer) u l.sends l.receives (one_way c offer) f g h

module _ {C : Type 0} (offer_of : C → Option Offer) where
  -- the thread u begins to wait with an offer, on channels that are there and on which nobody waits on the other side
  pub record IsJoined (u : ℕ) (offer : Offer) (threads new : FinMap nat_cmp (Slot C)) (before after : Seen) : Type 0 where
    pub lines : (c : ℕ) → map.get after.lines c ≡ option_map (joined u offer c) (map.get before.lines c)
    pub offers : after.offers ≡ map.insert before.offers u offer
    pub free : map.get before.offers u ≡ None
    pub there : (c : ℕ) → (sends_on c offer || receives_on c offer) ≡ true → map.contains_key before.lines c ≡ true
    pub nobody_receives : (c : ℕ) → sends_on c offer ≡ true → receives_at before.lines c ≡ []
    pub nobody_sends : (c : ℕ) → receives_on c offer ≡ true → sends_at before.lines c ≡ []
    pub now : option_and_then (waits_with offer_of) (map.get new u) ≡ Some offer
    pub others : (t : ℕ) → nat_eq t u ≡ false → option_and_then (waits_with offer_of) (map.get new t) ≡ option_and_then (waits_with offer_of) (map.get threads t)

  pub offers_joined : (u : ℕ) (offer : Offer) (threads new : FinMap nat_cmp (Slot C)) (before after : Seen) → IsJoined u offer threads new before after → AreOffers offer_of threads before → AreOffers offer_of new after
  offers_joined u offer threads new before after is shown = record {
    each = λ t.
        ap (λ m. map.get m t) is.offers
        ∙ get_inserted before.offers u offer t
        ∙ (elim (nat_eq t u) as (λ b. nat_eq t u ≡ b → cond b (Some offer) (map.get before.offers t) ≡ option_and_then (waits_with offer_of) (map.get new t)) [
          | true ↦ λ at. sym (ap (λ v. option_and_then (waits_with offer_of) (map.get new v)) (eqb-true t u at) ∙ is.now)
          | false ↦ λ apart. shown.each t ∙ sym (is.others t apart)
        ] refl);
    lines = record {
      backed = λ c t.
          subst (λ (o : Option Offer). LineBacked c t o (map.get after.lines c)) (sym (ap (λ m. map.get m t) is.offers ∙ get_inserted before.offers u offer t))
          (subst (LineBacked c t (cond (nat_eq t u) (Some offer) (map.get before.offers t))) (sym (is.lines c))
          (joined_backed c t u offer (map.get before.offers t) (map.get before.lines c) (is.there c) (λ at. ap (map.get before.offers) (eqb-true t u at) ∙ is.free) (shown.lines.backed c t)));
      once = λ c. subst (λ (l : Option Line). IfSome l (λ l. IsDistinct nat_eq l.sends × IsDistinct nat_eq l.receives)) (sym (is.lines c))
          (joined_once c u offer (map.get before.lines c) (subst (λ (o : Option Offer). LineBacked c u o (map.get before.lines c)) is.free (shown.lines.backed c u)) (shown.lines.once c));
    };
    one_side = λ c. subst (λ (l : Option Line). ((unwrap_or l nobody).sends ≡ []) ⊎ ((unwrap_or l nobody).receives ≡ [])) (sym (is.lines c))
        (joined_sides c u offer (map.get before.lines c) (is.nobody_receives c) (is.nobody_sends c) (shown.one_side c));
  }
