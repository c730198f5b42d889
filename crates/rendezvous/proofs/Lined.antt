-- How what stands behind the lines changes.
use Rattle.std.proofs.Common.{◌≡◌, ℕ, zero, suc, ◌+◌, ◌*◌, ◌≤◌, ◌<◌, map, Bool, true, false, cond, not, ◌&&◌, ◌||◌, nat_eq, List, [], ◌∷◌, ◌++◌, length, get_or, Option, Some, None, IsSome, IfSome, option_map, is_some, Result, Ok, Err, OnErr, refl, sym, ap, ◌∙◌, subst, arith}
use Rattle.std.specs.List.{IsDistinct}
use Rattle.std.specs.Cmp.{nat_eq_equiv}
use Rattle.std.specs.FinMap.{get, empty}
use Rattle.std.proofs.lemmas.Bool.Decides.{nat_tests}
use Rattle.std.proofs.lemmas.List.{append-nil}
use Rattle.std.proofs.lemmas.List.Folds.{list_any-append}
use Rattle.std.proofs.lemmas.Map.Keys.{IsDistinct-push}
use Rattle.linked_lists.specs.Lists.{Seen, is_listed, list_at, without, StandsNowhere}
use Rattle.linked_lists.proofs.Leaving.{gone, is_listed-without, without-absent, IsDistinct-filter, IsDistinct-nil}
use Rattle.rendezvous.specs.declared.offer.Offer.{Offer}
use Rattle.rendezvous.specs.declared.offer.Side.{Side}
use Rattle.rendezvous.specs.declared.offer.Side.TheVariants as side
use Rattle.rendezvous.specs.Offer.{sends_on, receives_on}
use Rattle.rendezvous.specs.Line.{Line, Lines, nobody, waiting, joined, left, LineBacked, HasNoOffer, Absent, IsSound}
use Rattle.rendezvous.specs.Line as line
use Rattle.rendezvous.specs.Nodes.{thread_of, line_at, IsAway, AreListed}
use Rattle.linked_lists.specs.Numbered.{by_number}
use Rattle.rendezvous.specs.Layout.{lines_from, OnLine, Backed}
use Rattle.rendezvous.proofs.Threads.{itself, unlike, cases_eq, same_line}
use Rattle.rendezvous.proofs.Numbered.{line_of, get-lines, get-by_number}

-- ---- one line

or_false : (b : Bool) → (b || false) ≡ b
or_false true = refl
or_false false = refl

turned : (t u : ℕ) → nat_eq t u ≡ false → nat_eq u t ≡ false
turned t u e = grind (arith, nat_tests)

-- who comes is there
comes : (t : ℕ) (b : Bool) (ts : List ℕ) → is_listed t ts ≡ false → is_listed t (ts ++ cond b (t ∷ []) []) ≡ b
comes t true ts none = list_any-append (nat_eq t) ts (t ∷ []) ∙ ap (λ b. b || (nat_eq t t || false)) none ∙ ap (λ b. b || false) (itself t)
comes t false ts none = list_any-append (nat_eq t) ts [] ∙ ap (λ b. b || false) none

-- and so are the others
still_there : (u t : ℕ) (b : Bool) (ts : List ℕ) → nat_eq u t ≡ false → is_listed u (ts ++ cond b (t ∷ []) []) ≡ is_listed u ts
still_there u t true ts other = list_any-append (nat_eq u) ts (t ∷ []) ∙ ap (λ b. is_listed u ts || (b || false)) other ∙ or_false (is_listed u ts)
still_there u t false ts other = list_any-append (nat_eq u) ts [] ∙ or_false (is_listed u ts)

once_more : (t : ℕ) (b : Bool) (ts : List ℕ) → is_listed t ts ≡ false → IsDistinct nat_eq ts → IsDistinct nat_eq (ts ++ cond b (t ∷ []) [])
once_more t true ts none once = IsDistinct-push nat_eq_equiv ts t once none
once_more t false ts none once = subst (λ ts. IsDistinct nat_eq ts) (sym (append-nil ts)) once

-- t has come with its offer
joined_on : (c t u : ℕ) (offer : Offer) (x : Option Offer) (l : Line) → (is_listed t l.sends ≡ false) × (is_listed t l.receives ≡ false) → OnLine c u x l → OnLine c u (cond (nat_eq u t) (Some offer) x) (joined t offer c l)
joined_on c t u offer x l none on =
    cases_eq u t
    (λ e. subst (λ u. OnLine c u (cond (nat_eq u t) (Some offer) x) (joined t offer c l)) (sym e)
    (subst (λ b. OnLine c t (cond b (Some offer) x) (joined t offer c l)) (sym (itself t)) (comes t (sends_on c offer) l.sends none.0, comes t (receives_on c offer) l.receives none.1)))
    (λ off. subst (λ b. OnLine c u (cond b (Some offer) x) (joined t offer c l)) (sym off)
    (still_there u t (sends_on c offer) l.sends off ∙ on.0, still_there u t (receives_on c offer) l.receives off ∙ on.1))

stays_in : (t u : ℕ) (ts : List ℕ) → nat_eq t u ≡ false → is_listed u (without t ts) ≡ is_listed u ts
stays_in t u ts off = is_listed-without t u ts ∙ ap (λ b. not b && is_listed u ts) off

-- t has left
left_on : (c t u : ℕ) (x : Option Offer) (l : Line) → OnLine c u x l → OnLine c u (cond (nat_eq u t) None x) (left t l)
left_on c t u x l on =
    cases_eq u t
    (λ e. subst (λ u. OnLine c u (cond (nat_eq u t) None x) (left t l)) (sym e)
    (subst (λ b. OnLine c t (cond b None x) (left t l)) (sym (itself t)) (gone t l.sends, gone t l.receives)))
    (λ off. subst (λ b. OnLine c u (cond b None x) (left t l)) (sym off)
    (stays_in t u l.sends (turned u t off) ∙ on.0, stays_in t u l.receives (turned u t off) ∙ on.1))

-- nobody comes to a channel on which the offer isn't
nobody_joins : (t : ℕ) (offer : Offer) (c : ℕ) (l : Line) → l ≡ nobody → sends_on c offer ≡ false → receives_on c offer ≡ false → joined t offer c l ≡ nobody
nobody_joins t offer c l is e f = ap (joined t offer c) is ∙ same_line (ap (λ b. cond b (t ∷ []) []) e) (ap (λ b. cond b (t ∷ []) []) f)

neither_on : (a b : Bool) → ((a || b) ≡ true → ⊥) → (a ≡ false) × (b ≡ false)
neither_on true b never = absurd (never refl)
neither_on false true never = absurd (never refl)
neither_on false false never = (refl, refl)

within : (channels : List Bool) (c : ℕ) → get_or channels c false ≡ true → c < length channels
within [] c e = cc
within (b ∷ channels) c e = elim c as (λ c. get_or (b ∷ channels) c false ≡ true → c < length (b ∷ channels)) [ zero ↦ λ _. omega arith | suc i ↦ λ e. (let low : i < length channels = within channels i e in omega arith) ] e

pub made_at : (b : Bool) (x : Line) → is_some (cond b (Some x) None) ≡ b
made_at true x = refl
made_at false x = refl

module _ {channels : List Bool} {offers : List (Option Offer)} {lists : Seen} (is : Backed channels offers lists) where
  -- a thread that offers nothing waits nowhere
  pub away : (t : ℕ) → get_or offers t None ≡ None → IsAway t lists.lists
  away t none c = let on : OnLine c t None (line_at lists.lists c) = subst (λ o. OnLine c t o (line_at lists.lists c)) none (is.backed c t) in on

  -- a channel that callers see has its lists
  pub listed : (m : Lines) (offer : Offer) → by_number 0 (lines_from 0 channels lists.lists) ≡ m → line.AreThere m offer → AreListed offer lists.lists
  listed m offer seen there c on =
      let made : get_or channels c false ≡ true = sym (made_at (get_or channels c false) (line_at lists.lists c)) ∙ ap is_some (sym (get-lines channels lists.lists c) ∙ ap (λ m. get m c) seen) ∙ there c on in
      let low : c < length channels = within channels c made in
      omega (arith, is.many)

  pub listed_one : (m : Lines) (c : ℕ) → by_number 0 (lines_from 0 channels lists.lists) ≡ m → IsSome (get m c) → (2 * c + 1 < length lists.lists) × (line_of channels lists.lists c ≡ Some (line_at lists.lists c))
  listed_one m c seen there =
      let made : get_or channels c false ≡ true = sym (made_at (get_or channels c false) (line_at lists.lists c)) ∙ ap is_some (sym (get-lines channels lists.lists c) ∙ ap (λ m. get m c) seen) ∙ there in
      let low : c < length channels = within channels c made in
      (omega (arith, is.many), ap (λ b. cond b (Some (line_at lists.lists c)) None) made)

  pub Backed-threads : (offers' : List (Option Offer)) (lists' : Seen) → ((t : ℕ) → get_or offers' t None ≡ get_or offers t None) → lists'.lists ≡ lists.lists → lists'.places ≡ 2 * length offers' → length offers' ≤ 4294967296 → Backed channels offers' lists'
  Backed-threads offers' lists' same lines nodes few =
      record {
        many = ap length lines ∙ is.many;
        nodes = nodes;
        few = few;
        nought = subst (StandsNowhere 0) (sym lines) is.nought;
        unmade = λ c no. ap (λ ls. line_at ls c) lines ∙ is.unmade c no;
        backed = λ c t. subst (λ ls. OnLine c t (get_or offers' t None) (line_at ls c)) (sym lines) (subst (λ o. OnLine c t o (line_at lists.lists c)) (sym (same t)) (is.backed c t));
        once = λ c. subst (λ ls. IsDistinct nat_eq (line_at ls c).sends × IsDistinct nat_eq (line_at ls c).receives) (sym lines) (is.once c);
      }

  -- a channel is made, or not there any more, and nobody waits on it
  pub Backed-set : (channels' : List Bool) (k : ℕ) (b : Bool) → length channels' ≡ length channels → line_at lists.lists k ≡ nobody → ((c : ℕ) → get_or channels' c false ≡ cond (nat_eq c k) b (get_or channels c false)) → Backed channels' offers lists
  Backed-set channels' k b long empty there =
      record {
        many = is.many ∙ ap (λ n. 2 * n) (sym long);
        nodes = is.nodes;
        few = is.few;
        nought = is.nought;
        unmade = λ c no. cases_eq c k (λ e. ap (line_at lists.lists) e ∙ empty) (λ off. is.unmade c (sym (there c ∙ ap (λ x. cond x b (get_or channels c false)) off) ∙ no));
        backed = is.backed;
        once = is.once;
      }

  -- t comes with its offer
  pub Backed-joined : (offers' : List (Option Offer)) (lists' : Seen) (t : ℕ) (offer : Offer) → get_or offers t None ≡ None → ((c : ℕ) → (sends_on c offer || receives_on c offer) ≡ true → get_or channels c false ≡ true) → ((u : ℕ) → get_or offers' u None ≡ cond (nat_eq u t) (Some offer) (get_or offers u None)) → length offers' ≡ length offers
      → ((c : ℕ) → line_at lists'.lists c ≡ joined t offer c (line_at lists.lists c)) → StandsNowhere 0 lists'.lists → length lists'.lists ≡ length lists.lists → lists'.places ≡ lists.places → Backed channels offers' lists'
  Backed-joined offers' lists' t offer none there put long lines nought many places =
      record {
        many = many ∙ is.many;
        nodes = places ∙ is.nodes ∙ ap (λ n. 2 * n) (sym long);
        few = omega (arith, is.few);
        nought = nought;
        unmade = λ c no.
            let off : (sends_on c offer ≡ false) × (receives_on c offer ≡ false) = neither_on (sends_on c offer) (receives_on c offer) (λ on. unlike (get_or channels c false) (there c on) no) in
            lines c ∙ nobody_joins t offer c (line_at lists.lists c) (is.unmade c no) off.0 off.1;
        backed = λ c u. subst (OnLine c u (get_or offers' u None)) (sym (lines c)) (subst (λ o. OnLine c u o (joined t offer c (line_at lists.lists c))) (sym (put u)) (joined_on c t u offer (get_or offers u None) (line_at lists.lists c) (away t none c) (is.backed c u)));
        once = λ c. subst (λ (l : Line). IsDistinct nat_eq l.sends × IsDistinct nat_eq l.receives) (sym (lines c))
            (once_more t (sends_on c offer) (line_at lists.lists c).sends (away t none c).0 (is.once c).0, once_more t (receives_on c offer) (line_at lists.lists c).receives (away t none c).1 (is.once c).1);
      }

  -- t leaves
  pub Backed-left : (offers' : List (Option Offer)) (lists' : Seen) (t : ℕ) → ((u : ℕ) → get_or offers' u None ≡ cond (nat_eq u t) None (get_or offers u None)) → length offers' ≡ length offers → ((c : ℕ) → line_at lists'.lists c ≡ left t (line_at lists.lists c)) → StandsNowhere 0 lists'.lists → length lists'.lists ≡ length lists.lists → lists'.places ≡ lists.places → Backed channels offers' lists'
  Backed-left offers' lists' t put long lines nought many places =
      record {
        many = many ∙ is.many;
        nodes = places ∙ is.nodes ∙ ap (λ n. 2 * n) (sym long);
        few = omega (arith, is.few);
        nought = nought;
        unmade = λ c no. lines c ∙ ap (left t) (is.unmade c no);
        backed = λ c u. subst (OnLine c u (get_or offers' u None)) (sym (lines c)) (subst (λ o. OnLine c u o (left t (line_at lists.lists c))) (sym (put u)) (left_on c t u (get_or offers u None) (line_at lists.lists c) (is.backed c u)));
        once = λ c. subst (λ (l : Line). IsDistinct nat_eq l.sends × IsDistinct nat_eq l.receives) (sym (lines c)) (IsDistinct-filter nat_eq _ (line_at lists.lists c).sends (is.once c).0, IsDistinct-filter nat_eq _ (line_at lists.lists c).receives (is.once c).1);
      }

  line_backed : (c t : ℕ) → LineBacked c t (get_or offers t None) (line_of channels lists.lists c)
  line_backed c t =
      elim (get_or channels c false) as (λ b. get_or channels c false ≡ b → LineBacked c t (get_or offers t None) (cond b (Some (line_at lists.lists c)) None)) [
        | true ↦ λ _. is.backed c t
        | false ↦ λ no. (let on : OnLine c t (get_or offers t None) nobody = subst (OnLine c t (get_or offers t None)) (is.unmade c no) (is.backed c t) in (sym on.0, sym on.1))
      ] refl

  line_once : (c : ℕ) → IfSome (line_of channels lists.lists c) (λ l. IsDistinct nat_eq l.sends × IsDistinct nat_eq l.receives)
  line_once c =
      elim (get_or channels c false) as (λ b. IfSome (cond b (Some (line_at lists.lists c)) None) (λ (l : Line). IsDistinct nat_eq l.sends × IsDistinct nat_eq l.receives)) [
        | true ↦ is.once c
        | false ↦ tt
      ]

  -- what holds of all offers
  pub IsSound-from_backed : IsSound (record { lines = by_number 0 (lines_from 0 channels lists.lists); offers = by_number 0 offers })
  IsSound-from_backed = record {
    backed = λ c t. subst (λ o. LineBacked c t (get (by_number 0 offers) t) o) (sym (get-lines channels lists.lists c)) (subst (λ x. LineBacked c t x (line_of channels lists.lists c)) (sym (get-by_number offers t)) (line_backed c t));
    once = λ c. subst (λ o. IfSome o (λ (l : Line). IsDistinct nat_eq l.sends × IsDistinct nat_eq l.receives)) (sym (get-lines channels lists.lists c)) (line_once c);
  }

-- nothing is there at first
pub Backed-new : (channels : List Bool) (offers : List (Option Offer)) (lists : Seen) → channels ≡ [] → offers ≡ [] → lists.lists ≡ [] → lists.places ≡ 0 → Backed channels offers lists
Backed-new channels offers lists none none' none'' placeless =
    let lines : (c : ℕ) → line_at lists.lists c ≡ nobody = λ c. ap (λ ls. line_at ls c) none'' in
    let short : length channels ≡ 0 = ap length none in
    let few : length offers ≡ 0 = ap length none' in
    let many : length lists.lists ≡ 0 = ap length none'' in
    record {
      many = omega arith;
      nodes = omega arith;
      few = omega arith;
      nought = λ h. ap (λ ls. is_listed 0 (list_at ls h)) none'';
      unmade = λ c no. lines c;
      backed = λ c t. subst (OnLine c t (get_or offers t None)) (sym (lines c)) (subst (λ (os : List (Option Offer)). OnLine c t (get_or os t None) nobody) (sym none') (refl, refl));
      once = λ c. subst (λ (l : Line). IsDistinct nat_eq l.sends × IsDistinct nat_eq l.receives) (sym (lines c)) (IsDistinct-nil, IsDistinct-nil);
    }

-- ---- what a caller sees

pub option_line : (b : Bool) (f : Line → Line) (l l' : Line) → l' ≡ f l → cond b (Some l') None ≡ option_map f (cond b (Some l) None)
option_line true f l l' e = ap Some e
option_line false f l l' e = refl

none_left : (t : ℕ) (o : Option Line) → Absent t (option_map (left t) o)
none_left t None = tt
none_left t (Some line) = (gone t line.sends, gone t line.receives)

-- a thread that withdrew waits nowhere
pub HasNoOffer-left : (m n : Lines) (t : ℕ) → ((c : ℕ) → get n c ≡ option_map (left t) (get m c)) → HasNoOffer n t
HasNoOffer-left m n t is c = subst (λ o. Absent t o) (sym (is c)) (none_left t (get m c))

-- a line that t isn't in stays when t leaves
pub left_line : (t : ℕ) (l : Line) → (is_listed t l.sends ≡ false) × (is_listed t l.receives ≡ false) → left t l ≡ l
left_line t l none = same_line (without-absent t l.sends none.0) (without-absent t l.receives none.1)

left_alone : (t : ℕ) (o : Option Line) → Absent t o → option_map (left t) o ≡ o
left_alone t None none = refl
left_alone t (Some l) none = ap Some (left_line t l none)

absent_of : (t : ℕ) (b : Bool) (l : Line) → (is_listed t l.sends ≡ false) × (is_listed t l.receives ≡ false) → Absent t (cond b (Some l) None)
absent_of t true l none = none
absent_of t false l none = tt

-- nothing changes where a thread that offers nothing leaves
pub unchanged : {channels : List Bool} {offers : List (Option Offer)} {lists : Seen} (is : Backed channels offers lists) (m : Lines) (t d : ℕ) → by_number 0 (lines_from 0 channels lists.lists) ≡ m → get_or offers t None ≡ None → get m d ≡ option_map (left t) (get m d)
unchanged {channels} {offers} {lists} is m t d seen none =
    sym (left_alone t (get m d) (subst (λ o. Absent t o) (sym (get-lines channels lists.lists d) ∙ ap (λ m. get m d) seen) (absent_of t (get_or channels d false) (line_at lists.lists d) (away is t none d))))

pub taken_alone : {X : Type 0} (xs : List (Option X)) (t q : ℕ) → get_or xs t None ≡ None → get_or xs q None ≡ cond (nat_eq q t) None (get_or xs q None)
taken_alone xs t q none =
    cases_eq q t
    (λ e. ap (λ q. get_or xs q None) e ∙ none ∙ sym (ap (λ b. cond b None (get_or xs q None)) (ap (λ q. nat_eq q t) e ∙ itself t)))
    (λ off. sym (ap (λ b. cond b None (get_or xs q None)) off))

pub made_there : (channels : List Bool) (lists : List (List ℕ)) (m : Lines) (c : ℕ) → by_number 0 (lines_from 0 channels lists) ≡ m → IsSome (get m c) → get_or channels c false ≡ true
made_there channels lists m c seen there = sym (made_at (get_or channels c false) (line_at lists c)) ∙ ap is_some (sym (get-lines channels lists c) ∙ ap (λ m. get m c) seen) ∙ there

seen_as : (channels : List Bool) (lists : List (List ℕ)) (m : Lines) (c : ℕ) (o : Option Line) → by_number 0 (lines_from 0 channels lists) ≡ m → get m c ≡ o → line_of channels lists c ≡ o
seen_as channels lists m c o seen is = sym (get-lines channels lists c) ∙ ap (λ m. get m c) seen ∙ is

not_made : (b : Bool) (x : Line) → cond b (Some x) None ≡ None → b ≡ false
not_made true x e = cc
not_made false x e = refl

pub unmade_there : (channels : List Bool) (lists : List (List ℕ)) (m : Lines) (c : ℕ) → by_number 0 (lines_from 0 channels lists) ≡ m → get m c ≡ None → get_or channels c false ≡ false
unmade_there channels lists m c seen none = not_made (get_or channels c false) (line_at lists c) (seen_as channels lists m c None seen none)

some_line : (b : Bool) (x y : Line) → cond b (Some x) None ≡ Some y → x ≡ y
some_line true x y e = cc
some_line false x y e = cc

pub line_seen : (channels : List Bool) (lists : List (List ℕ)) (m : Lines) (c : ℕ) (l : Line) → by_number 0 (lines_from 0 channels lists) ≡ m → get m c ≡ Some l → line_at lists c ≡ l
line_seen channels lists m c l seen is = some_line (get_or channels c false) (line_at lists c) l (seen_as channels lists m c (Some l) seen is)

-- a channel that comes or goes, among all
pub line_made : (channels channels' : List Bool) (lists lists' : List (List ℕ)) (k d : ℕ) → get_or channels' d false ≡ cond (nat_eq d k) true (get_or channels d false) → line_at lists' d ≡ line_at lists d → line_at lists k ≡ nobody → line_of channels' lists' d ≡ cond (nat_eq d k) (Some nobody) (line_of channels lists d)
line_made channels channels' lists lists' k d there same empty =
    ap (λ b. cond b (Some (line_at lists' d)) None) there ∙ ap (λ l. cond (cond (nat_eq d k) true (get_or channels d false)) (Some l) None) same
    ∙ cases_eq d k
    (λ e. ap (λ b. cond (cond b true (get_or channels d false)) (Some (line_at lists d)) None) (ap (λ d. nat_eq d k) e ∙ itself k) ∙ ap (λ c. Some (line_at lists c)) e ∙ ap Some empty ∙ sym (ap (λ b. cond b (Some nobody) (line_of channels lists d)) (ap (λ d. nat_eq d k) e ∙ itself k)))
    (λ off. ap (λ b. cond (cond b true (get_or channels d false)) (Some (line_at lists d)) None) off ∙ sym (ap (λ b. cond b (Some nobody) (line_of channels lists d)) off))

pub line_unmade : (channels channels' : List Bool) (lists : List (List ℕ)) (k d : ℕ) → get_or channels' d false ≡ cond (nat_eq d k) false (get_or channels d false) → line_of channels' lists d ≡ cond (nat_eq d k) None (line_of channels lists d)
line_unmade channels channels' lists k d there = ap (λ b. cond b (Some (line_at lists d)) None) there ∙ both (nat_eq d k) (get_or channels d false)
  where
    both : (a b : Bool) → cond (cond a false b) (Some (line_at lists d)) None ≡ cond a None (cond b (Some (line_at lists d)) None)
    both true b = refl
    both false b = refl

pub opened_line : (channels channels' : List Bool) (lists lists' : List (List ℕ)) (d : ℕ) → get_or channels' d false ≡ get_or channels d false → line_at lists' d ≡ line_at lists d → line_of channels' lists' d ≡ line_of channels lists d
opened_line channels channels' lists lists' d there same = ap (λ b. cond b (Some (line_at lists' d)) None) there ∙ ap (λ l. cond (get_or channels d false) (Some l) None) same

pub same_lines_at : (lists lists' : List (List ℕ)) → ((h : ℕ) → list_at lists' h ≡ list_at lists h) → (c : ℕ) → line_at lists' c ≡ line_at lists c
same_lines_at lists lists' is c = same_line (ap (map thread_of) (is (2 * c))) (ap (map thread_of) (is (2 * c + 1)))

pub once_at : (s : Side) (l : Line) → IsDistinct nat_eq l.sends × IsDistinct nat_eq l.receives → IsDistinct nat_eq (waiting s l)
once_at side.Send l once = once.0
once_at side.Recv l once = once.1

-- what holds anyway holds of a refusal
pub always : {T E P : Type 0} (r : Result T E) → P → OnErr r P
always (Ok v) p = tt
always (Err e) p = p
