-- How the two parts of the surviving steps change.
use Rattle.std.proofs.Common.{◌≡◌, ◌⊎◌, inl, inr, ℕ, zero, suc, ◌+◌, ◌-◌, ◌<◌, ◌≤◌, Bool, true, false, cond, not, ◌&&◌, ◌||◌, nat_eq, List, [], ◌∷◌, ◌++◌, length, take, drop, get_or, refl, sym, ap, subst, ◌∙◌, arith, append_assoc}
use Rattle.std.specs.Prelude.{count_by, nat_lt}
use Rattle.std.specs.List.{AllByRecursion, list_any}
use Rattle.std.proofs.lemmas.Bool.{false≢true, and_parts}
use Rattle.std.proofs.Math.Dec.{leb}
use Rattle.std.proofs.lemmas.Bool.Decides.{leb_tells, nat_tests}
use Rattle.std.proofs.lemmas.List.{take-append-drop}
use Rattle.std.proofs.lemmas.List.Sums.{sum_by-append, count_by-le-length}
use Rattle.stab_journal.specs.declared.event.Label.{Label}
use Rattle.stab_journal.specs.declared.event.Label.TheVariants.{Cut}
use Rattle.stab_journal.specs.declared.event.Numbered.{Numbered}
use Rattle.stab_journal.specs.Due.{is_print}
use Rattle.stab_journal.specs.Floor.{floor_from, is_cut, is_enter, is_pin, is_entered, has_pin}
use Rattle.stab_journal.specs.Generation.{acts_in}
use Rattle.stab_journal.specs.Journal.{RiseFrom}
use Rattle.stab_journal.specs.Label.{actors}
use Rattle.stab_journal.specs.Names.{has}
use Rattle.stab_journal.specs.Reached.{reached, rest, without_reached}
use Rattle.stab_journal.specs.Since.{AreBelow, final_prints_since, is_revocable_since}
use Rattle.trace_verify.specs.Parts.{AreParts, IsSettled, IsRecent}
use Rattle.journal_laws.proofs.Fronts.{Stays, front_stays, reached_front, rest_front, entered_front, pin_front, acts_front, pin_goes, acts_goes}

all_and : {X : Type 0} (P : X → Type 0) (xs ys : List X) → AllByRecursion P xs → AllByRecursion P ys → AllByRecursion P (xs ++ ys)
all_and P [] ys h k = k
all_and P (x ∷ xs) ys h k = (h.0, all_and P xs ys h.1 k)

all_with : {X : Type 0} (P Q : X → Type 0) → ((x : X) → P x → Q x) → (xs : List X) → AllByRecursion P xs → AllByRecursion Q xs
all_with P Q f [] h = tt
all_with P Q f (x ∷ xs) h = (f x h.0, all_with P Q f xs h.1)

all_front : {X : Type 0} (P : X → Type 0) (xs ys : List X) → AllByRecursion P (xs ++ ys) → AllByRecursion P xs
all_front P [] ys h = tt
all_front P (x ∷ xs) ys h = (h.0, all_front P xs ys h.1)

pub all_rest : (P : Numbered → Type 0) (gone : ℕ → Bool) (ns : List Numbered) → AllByRecursion P ns → AllByRecursion P (rest gone ns)
all_rest P gone [] h = tt
all_rest P gone (n ∷ ns) h =
    elim (gone n.seq.0) as (λ b. AllByRecursion P (cond b (rest gone ns) (n ∷ rest gone ns))) [
      | true ↦ all_rest P gone ns h.1
      | false ↦ (h.0, all_rest P gone ns h.1)
    ]

lower : (q k : ℕ) (ns : List Numbered) → k ≤ q → RiseFrom q ns → RiseFrom k ns
lower q k [] le h = tt
lower q k (n ∷ ns) le h = (omega (arith, h.0), h.1)

-- numbers that rise rise behind
pub rise_back : (q : ℕ) (front back : List Numbered) → RiseFrom q (front ++ back) → RiseFrom q back
rise_back q [] back h = h
rise_back q (n ∷ ns) back h = lower (suc n.seq.0) q back (omega (arith, h.0)) (rise_back (suc n.seq.0) ns back h.1)

-- numbers that rise and are below q are fewer
few : (k q : ℕ) (ns : List Numbered) → k ≤ q → RiseFrom k ns → AreBelow q ns → length ns + k ≤ q
few k q [] le rise below = omega (arith, le)
few k q (n ∷ ns) le rise below = omega (arith, rise.0, few (suc n.seq.0) q ns (omega (arith, below.0)) rise.1 below.1)

floor_below : (g q : ℕ) (ns : List Numbered) → g < q → AreBelow q ns → floor_from g ns < q
floor_below g q [] lt below = lt
floor_below g q (n ∷ ns) lt below =
    elim (is_cut n.label) as (λ b. floor_from (cond b n.seq.0 g) ns < q) [
      | true ↦ floor_below n.seq.0 q ns below.0 below.1
      | false ↦ floor_below g q ns lt below.1
    ]

floor_recent : (f g : ℕ) (ns : List Numbered) → AllByRecursion (IsRecent f) ns → floor_from g ns ≡ g
floor_recent f g [] h = refl
floor_recent f g (n ∷ ns) h = ap (λ b. floor_from (cond b n.seq.0 g) ns) h.0.1 ∙ floor_recent f g ns h.1

floor_two : (g f : ℕ) (front back : List Numbered) → AllByRecursion (IsRecent f) back → floor_from g (front ++ back) ≡ floor_from g front
floor_two g f [] back h = floor_recent f g back h
floor_two g f (n ∷ ns) back h = floor_two (cond (is_cut n.label) n.seq.0 g) f ns back h

floor_last : (g : ℕ) (ns : List Numbered) (n : Numbered) → is_cut n.label ≡ true → floor_from g (ns ++ n ∷ []) ≡ n.seq.0
floor_last g [] n cut = ap (λ b. cond b n.seq.0 g) cut
floor_last g (k ∷ ns) n cut = floor_last (cond (is_cut k.label) k.seq.0 g) ns n cut

and_true : (a : Bool) → (a && true) ≡ a
and_true true = refl
and_true false = refl

and_none : (a : Bool) → (a && false) ≡ false
and_none true = refl
and_none false = refl

and_below : (b : Bool) (q f : ℕ) → (b ≡ true → q < f) → (b && nat_lt q f) ≡ b
and_below true q f h = let lt = h refl in grind (arith, nat_tests)
and_below false q f h = refl

and_above : (b : Bool) (q f : ℕ) → f < q → (b && nat_lt q f) ≡ false
and_above true q f h = grind (arith, nat_tests)
and_above false q f h = refl

count_and : (p : Numbered → Bool) (xs ys : List Numbered) → count_by p (xs ++ ys) ≡ count_by p xs + count_by p ys
count_and p xs ys = sum_by-append (λ n. cond (p n) 1 0) xs ys

count_cons : (p : Numbered → Bool) (n : Numbered) (ns : List Numbered) → count_by p (n ∷ ns) ≡ cond (p n) 1 0 + count_by p ns
count_cons p n ns = omega (arith, count_and p (n ∷ []) ns)

-- of the steps up to the last cut, those that print are the final ones
prints_settled : (f : ℕ) (ns : List Numbered) → AllByRecursion (IsSettled f) ns → count_by (λ (n : Numbered). is_print n.label && nat_lt n.seq.0 f) ns ≡ count_by (λ (n : Numbered). is_print n.label) ns
prints_settled f [] h = refl
prints_settled f (n ∷ ns) h =
    count_cons (λ k. is_print k.label && nat_lt k.seq.0 f) n ns
    ∙ ap (λ b. cond b 1 0 + count_by (λ (k : Numbered). is_print k.label && nat_lt k.seq.0 f) ns) (and_below (is_print n.label) n.seq.0 f h.0.1)
    ∙ ap (λ k. cond (is_print n.label) 1 0 + k) (prints_settled f ns h.1)
    ∙ sym (count_cons (λ k. is_print k.label) n ns)

prints_recent : (f : ℕ) (ns : List Numbered) → AllByRecursion (IsRecent f) ns → count_by (λ (n : Numbered). is_print n.label && nat_lt n.seq.0 f) ns ≡ 0
prints_recent f [] h = refl
prints_recent f (n ∷ ns) h =
    count_cons (λ k. is_print k.label && nat_lt k.seq.0 f) n ns
    ∙ ap (λ b. cond b 1 0 + count_by (λ (k : Numbered). is_print k.label && nat_lt k.seq.0 f) ns) (and_above (is_print n.label) n.seq.0 f h.0.0)
    ∙ ap (λ k. 0 + k) (prints_recent f ns h.1)

and_lower : (a : Bool) (f m : ℕ) (b : Bool) → f < m → (a && nat_lt f m && b) ≡ (a && b)
and_lower a f m b lt = ap (λ x. a && x && b) (let is : nat_lt f m ≡ true = grind (arith, nat_tests) in is) ∙ ap (λ x. x && b) (and_true a)

and_upper : (a : Bool) (f m : ℕ) (b : Bool) → m ≤ f → (a && nat_lt f m && b) ≡ false
and_upper a f m b le = ap (λ x. a && x && b) (let is : nat_lt f m ≡ false = grind (arith, nat_tests) in is) ∙ ap (λ x. x && b) (and_none a)

above_of : (a : Bool) (f m : ℕ) (b : Bool) → (a && nat_lt f m && b) ≡ true → f < m
above_of a f m b is =
    let one = and_parts (a && nat_lt f m) b is in
    let two : nat_lt f m ≡ true = (and_parts a (nat_lt f m) one.0).1 in
    grind (arith, nat_tests)

pub floor_is : (q f k : ℕ) (front back : List Numbered) → AreParts q f k front back → floor_from q (front ++ back) ≡ f
floor_is q f k front back h = floor_two q f front back h.recent ∙ h.floor

pub final_is : (q f k : ℕ) (front back : List Numbered) → AreParts q f k front back → k ≡ final_prints_since q (front ++ back)
final_is q f k front back h =
    h.prints
    ∙ sym (prints_settled f front h.settled)
    ∙ omega (arith, count_and (λ n. is_print n.label && nat_lt n.seq.0 f) front back, prints_recent f back h.recent)
    ∙ ap (λ x. count_by (λ (n : Numbered). is_print n.label && nat_lt n.seq.0 x) (front ++ back)) (sym (floor_is q f k front back h))

all_settled_below : (f m : ℕ) (ns : List Numbered) → f < m → AllByRecursion (IsSettled f) ns → AreBelow m ns
all_settled_below f m ns lt h = all_with (IsSettled f) (λ n. n.seq.0 < m) (λ n s. omega (arith, s.0, lt)) ns h

-- a step that is no cut comes to the steps behind
pub add_recent : (q f k : ℕ) (front back : List Numbered) (n : Numbered) → AreParts q f k front back → is_cut n.label ≡ false → q < n.seq.0 → AreBelow n.seq.0 (front ++ back) → AreParts q f k front (back ++ n ∷ [])
add_recent q f k front back n h other some below = record {
  floor = h.floor;
  settled = h.settled;
  recent = all_and (IsRecent f) back (n ∷ []) h.recent ((subst (λ x. x < n.seq.0) (floor_is q f k front back h) (floor_below q n.seq.0 (front ++ back) some below), other), tt);
  prints = h.prints;
}

no_print_of : (l : Label) → is_cut l ≡ true → is_print l ≡ true → ⊥
no_print_of (Cut t) cut print = false≢true print
no_print_of l cut print = false≢true cut

no_print : (n : Numbered) → is_cut n.label ≡ true → is_print n.label ≡ true → ⊥
no_print n cut print = no_print_of n.label cut print

-- a cut settles all steps
pub add_cut : (q f k : ℕ) (front back : List Numbered) (n : Numbered) → AreParts q f k front back → is_cut n.label ≡ true → AreBelow n.seq.0 (front ++ back) → AreParts q n.seq.0 (k + count_by (λ (n : Numbered). is_print n.label) (back ++ n ∷ [])) (front ++ (back ++ n ∷ [])) []
add_cut q f k front back n h cut below = record {
  floor = ap (floor_from q) (sym (append_assoc front back (n ∷ []))) ∙ floor_last q (front ++ back) n cut;
  settled = subst (AllByRecursion (IsSettled n.seq.0)) (append_assoc front back (n ∷ []))
      (all_and (IsSettled n.seq.0) (front ++ back) (n ∷ [])
      (all_with (λ k. k.seq.0 < n.seq.0) (IsSettled n.seq.0) (λ k lt. (omega (arith, lt), λ _. lt)) (front ++ back) below)
      ((omega arith, λ print. absurd (no_print n cut print)), tt));
  recent = tt;
  prints = omega (arith, h.prints, count_and (λ k. is_print k.label) front (back ++ n ∷ []));
}

-- so many prints fit
pub few_prints : (q f k : ℕ) (front back : List Numbered) (n : Numbered) → AreParts q f k front back → RiseFrom 1 (front ++ back) → AreBelow n.seq.0 (front ++ back) → 1 ≤ n.seq.0 → k + count_by (λ (n : Numbered). is_print n.label) (back ++ n ∷ []) ≤ n.seq.0
few_prints q f k front back n h rise below some =
    let all = few 1 n.seq.0 (front ++ back) some rise below in
    omega (arith, h.prints, count_and (λ k. is_print k.label) front back, count_and (λ k. is_print k.label) back (n ∷ []), count_by-le-length (λ (k : Numbered). is_print k.label) (front ++ back), count_by-le-length (λ (k : Numbered). is_print k.label) (n ∷ []), all)

-- whether what is reached can be taken back is seen behind
pub revocable_is : (q f k m : ℕ) (front back : List Numbered) → AreParts q f k front back → RiseFrom 1 (front ++ back) → f < m → is_revocable_since q (front ++ back) m ≡ (is_entered m back && not (has_pin (reached back m) back))
revocable_is q f k m front back h rise lt =
    let below = all_settled_below f m front lt h.settled in
    let stays = front_stays m front back (rise_back 1 front back rise) below in
    ap (λ b. b && nat_lt (floor_from q (front ++ back)) m && not (has_pin (reached (front ++ back) m) (front ++ back))) (entered_front m front back below)
    ∙ ap (λ x. is_entered m back && nat_lt x m && not (has_pin (reached (front ++ back) m) (front ++ back))) (floor_is q f k front back h)
    ∙ ap (λ qs. is_entered m back && nat_lt f m && not (has_pin qs (front ++ back))) (reached_front m front back below)
    ∙ ap (λ b. is_entered m back && nat_lt f m && not b) (pin_front (reached back m) front back stays)
    ∙ and_lower (is_entered m back) f m (not (has_pin (reached back m) back)) lt

pub not_above : (q f k m : ℕ) (front back : List Numbered) → AreParts q f k front back → m ≤ f → is_revocable_since q (front ++ back) m ≡ false
not_above q f k m front back h le =
    ap (λ x. is_entered m (front ++ back) && nat_lt x m && not (has_pin (reached (front ++ back) m) (front ++ back))) (floor_is q f k front back h)
    ∙ and_upper (is_entered m (front ++ back)) f m (not (has_pin (reached (front ++ back) m) (front ++ back))) le

pub above_floor : (q f k m : ℕ) (front back : List Numbered) → AreParts q f k front back → is_revocable_since q (front ++ back) m ≡ true → f < m
above_floor q f k m front back h is = subst (λ x. x < m) (floor_is q f k front back h) (above_of (is_entered m (front ++ back)) (floor_from q (front ++ back)) m (not (has_pin (reached (front ++ back) m) (front ++ back))) is)

-- what is left where what is reached from behind the last cut goes
pub left_behind : (q f k m : ℕ) (front back : List Numbered) → AreParts q f k front back → RiseFrom 1 (front ++ back) → f < m → front ++ without_reached m back ≡ without_reached m (front ++ back)
left_behind q f k m front back h rise lt =
    let below = all_settled_below f m front lt h.settled in
    let stays = front_stays m front back (rise_back 1 front back rise) below in
    sym (ap (λ qs. rest (has qs) (front ++ back)) (reached_front m front back below) ∙ rest_front (has (reached back m)) front back stays)

pub acts_behind : (q f k m t : ℕ) (front back : List Numbered) → AreParts q f k front back → RiseFrom 1 (front ++ back) → f < m → acts_in (has (reached back m)) t back ≡ acts_in (has (reached (front ++ back) m)) t (front ++ back)
acts_behind q f k m t front back h rise lt =
    let below = all_settled_below f m front lt h.settled in
    let stays = front_stays m front back (rise_back 1 front back rise) below in
    sym (ap (λ qs. acts_in (has qs) t (front ++ back)) (reached_front m front back below) ∙ acts_front (has (reached back m)) t front back stays)

pub lose_recent : (q f k : ℕ) (front back : List Numbered) (gone : ℕ → Bool) → AreParts q f k front back → AreParts q f k front (rest gone back)
lose_recent q f k front back gone h = record { floor = h.floor; settled = h.settled; recent = all_rest (IsRecent f) gone back h.recent; prints = h.prints }

entered_any : (m : ℕ) (ns : List Numbered) → list_any (λ (n : Numbered). nat_eq m n.seq.0 && is_enter n.label) ns ≡ is_entered m ns
entered_any m [] = refl
entered_any m (n ∷ ns) = ap (λ b. (nat_eq m n.seq.0 && is_enter n.label) || b) (entered_any m ns)

pub no_entry : (q f k m : ℕ) (front back : List Numbered) → AreParts q f k front back → RiseFrom 1 (front ++ back) → f < m → list_any (λ (n : Numbered). nat_eq m n.seq.0 && is_enter n.label) back ≡ false → false ≡ is_revocable_since q (front ++ back) m
no_entry q f k m front back h rise lt no_one = sym (revocable_is q f k m front back h rise lt ∙ ap (λ b. b && not (has_pin (reached back m) back)) (sym (entered_any m back) ∙ no_one))

-- what is found where the section was entered behind the last cut
pub entry_pins : (q f k m : ℕ) (front back goes : List Numbered) → AreParts q f k front back → RiseFrom 1 (front ++ back) → f < m → list_any (λ (n : Numbered). nat_eq m n.seq.0 && is_enter n.label) back ≡ true
    → goes ≡ rest (λ q. not (has (reached back m) q)) back → not (list_any (λ (n : Numbered). is_pin n.label) goes) ≡ is_revocable_since q (front ++ back) m
entry_pins q f k m front back goes h rise lt one is =
    ap (λ ns. not (list_any (λ (n : Numbered). is_pin n.label) ns)) is
    ∙ ap not (pin_goes (reached back m) back)
    ∙ ap (λ b. b && not (has_pin (reached back m) back)) (sym (sym (entered_any m back) ∙ one))
    ∙ sym (revocable_is q f k m front back h rise lt)

-- the threads that act in what goes
pub lost_acts : (q f k m t : ℕ) (front back goes : List Numbered) → AreParts q f k front back → RiseFrom 1 (front ++ back) → f < m
    → goes ≡ rest (λ q. not (has (reached back m) q)) back → list_any (λ (n : Numbered). has (actors n.label) t) goes ≡ acts_in (has (reached (front ++ back) m)) t (front ++ back)
lost_acts q f k m t front back goes h rise lt is =
    ap (list_any (λ (n : Numbered). has (actors n.label) t)) is ∙ acts_goes (has (reached back m)) t back ∙ acts_behind q f k m t front back h rise lt

-- what goes of a list that is the steps behind the last cut
pub goes_at : (m : ℕ) (ns back goes : List Numbered) → ns ≡ back → goes ≡ rest (λ q. not (has (reached ns m) q)) ns → goes ≡ rest (λ q. not (has (reached back m) q)) back
goes_at m ns back goes at is = is ∙ ap (λ l. rest (λ q. not (has (reached l m) q)) l) at

-- steps whose numbers rise have no number below the first
rise_least : (q : ℕ) (ns : List Numbered) (k : ℕ) (d : Numbered) → RiseFrom q ns → k < length ns → q ≤ (get_or ns k d).seq.0
rise_least q [] k d rise lt = absurd (omega (arith, lt))
rise_least q (n ∷ ns) zero d rise lt = rise.0
rise_least q (n ∷ ns) (suc k) d rise lt = omega (arith, rise.0, rise_least (suc n.seq.0) ns k d rise.1 (omega (arith, lt)))

-- where the last of the first steps comes before m, all do
pub below_take : (q m k : ℕ) (ns : List Numbered) (d : Numbered) → RiseFrom q ns → k < length ns → (get_or ns k d).seq.0 < m → AreBelow m (take (suc k) ns)
below_take q m k [] d rise lt last = absurd (omega (arith, lt))
below_take q m zero (n ∷ ns) d rise lt last = (last, tt)
below_take q m (suc k) (n ∷ ns) d rise lt last =
    let more : k < length ns = omega (arith, lt) in
    (omega (arith, rise_least (suc n.seq.0) ns k d rise.1 more, last), below_take (suc n.seq.0) m k ns d rise.1 more last)

pub rise_at : (k : ℕ) (ns : List Numbered) → RiseFrom 1 ns → RiseFrom 1 (drop k ns)
rise_at k ns rise = rise_back 1 (take k ns) (drop k ns) (subst (RiseFrom 1) (sym (take-append-drop k ns)) rise)

left_from : (m : ℕ) (front back : List Numbered) → RiseFrom 1 back → AreBelow m front → front ++ without_reached m back ≡ without_reached m (front ++ back)
left_from m front back rise below =
    sym (ap (λ qs. rest (has qs) (front ++ back)) (reached_front m front back below) ∙ rest_front (has (reached back m)) front back (front_stays m front back rise below))

goes_front : (gone : ℕ → Bool) (front back : List Numbered) → Stays gone front → rest (λ q. not (gone q)) (front ++ back) ≡ rest (λ q. not (gone q)) back
goes_front gone [] back stays = refl
goes_front gone (n ∷ ns) back stays = ap (λ b. cond (not b) (rest (λ q. not (gone q)) (ns ++ back)) (n ∷ rest (λ q. not (gone q)) (ns ++ back))) stays.0 ∙ goes_front gone ns back stays.1

goes_from : (m : ℕ) (front back : List Numbered) → RiseFrom 1 back → AreBelow m front → rest (λ q. not (has (reached back m) q)) back ≡ rest (λ q. not (has (reached (front ++ back) m) q)) (front ++ back)
goes_from m front back rise below =
    sym (ap (λ qs. rest (λ q. not (has qs q)) (front ++ back)) (reached_front m front back below) ∙ goes_front (has (reached back m)) front back (front_stays m front back rise below))

-- of steps of which the first k come before m: what is left, what goes, and whether m is entered, seen of the others alone
pub left_at : (m k : ℕ) (ns : List Numbered) → RiseFrom 1 ns → AreBelow m (take k ns) → take k ns ++ without_reached m (drop k ns) ≡ without_reached m ns
left_at m k ns rise below = left_from m (take k ns) (drop k ns) (rise_at k ns rise) below ∙ ap (without_reached m) (take-append-drop k ns)

pub gone_at : (m k : ℕ) (ns : List Numbered) → RiseFrom 1 ns → AreBelow m (take k ns) → rest (λ q. not (has (reached (drop k ns) m) q)) (drop k ns) ≡ rest (λ q. not (has (reached ns m) q)) ns
gone_at m k ns rise below = goes_from m (take k ns) (drop k ns) (rise_at k ns rise) below ∙ ap (λ l. rest (λ q. not (has (reached l m) q)) l) (take-append-drop k ns)

pub entered_at : (m k : ℕ) (ns : List Numbered) → AreBelow m (take k ns) → list_any (λ (n : Numbered). nat_eq m n.seq.0 && is_enter n.label) (drop k ns) ≡ list_any (λ (n : Numbered). nat_eq m n.seq.0 && is_enter n.label) ns
entered_at m k ns below =
    entered_any m (drop k ns) ∙ sym (entered_front m (take k ns) (drop k ns) below) ∙ ap (is_entered m) (take-append-drop k ns) ∙ sym (entered_any m ns)

-- so many first steps come before m, where the last of them does
pub below_upto : (m k : ℕ) (ns : List Numbered) (d : Numbered) → (k ≡ 0 → ⊥) → k ≤ length ns → RiseFrom 1 ns → (get_or ns (k - 1) d).seq.0 < m → AreBelow m (take k ns)
below_upto m zero ns d some le rise last = absurd (some refl)
below_upto m (suc k) ns d some le rise last =
    below_take 1 m k ns d rise (omega (arith, le)) (subst (λ i. (get_or ns i d).seq.0 < m) (let is : suc k - 1 ≡ k = omega arith in is) last)

pub less : (a b : ℕ) → leb a b ≡ false → b < a
less a b not_le = told (leb_tells a b) where
  told : ((leb a b ≡ true) × (a ≤ b)) ⊎ ((leb a b ≡ false) × (b < a)) → b < a
  told (inl (le, _)) = absurd (false≢true (sym not_le ∙ le))
  told (inr (_, lt)) = lt
