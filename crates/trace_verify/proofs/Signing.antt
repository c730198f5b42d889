-- A run beside the journal from which its steps are.
use Rattle.std.proofs.Common.{◌≡◌, ◌↔◌, ℕ, zero, suc, ◌+◌, ◌<◌, ◌≤◌, Bool, true, false, cond, ◌||◌, nat_eq, List, [], ◌∷◌, ◌++◌, length, take, drop, get_or, add-one, append-nil, append_assoc, refl, sym, ap, subst, ◌∙◌, arith}
use Rattle.std.specs.Prelude.{Some, None, IsSome, IsTrue, option_and_then, slice_get}
use Rattle.std.specs.List.{AllByRecursion, list_any}
use Rattle.std.specs.FinSet.{contains}
use Rattle.std.specs.Cmp.{nat_eq_equiv}
use Rattle.std.proofs.Math.Seq.{take-suc, take-length}
use Rattle.std.proofs.lemmas.Bool.{false≢true, eqb-true, ne_eqb}
use Rattle.std.proofs.lemmas.List.Folds.{list_any-append}
use Rattle.std.proofs.lemmas.Option.{get_or_from_slice_get, slice_get-get_or, slice_get_past, slice_get_within}
use Rattle.std.proofs.lemmas.List.{length-take}
use Rattle.stab_journal.specs.declared.event.Event.{Event}
use Rattle.stab_journal.specs.declared.event.Label.{Label}
use Rattle.stab_journal.specs.declared.event.Numbered.{Numbered}
use Rattle.stab_journal.specs.declared.event.What.{What}
use Rattle.stab_journal.specs.declared.event.What.TheVariants.{Step, Undo, Release}
use Rattle.stab_journal.specs.Event.{label_of}
use Rattle.stab_journal.specs.Journal.{IsLive, Journal, RiseFrom, label_at, step_at, survivors, survivors_from}
use Rattle.stab_journal.proofs.Events.{survivors_from-push}
use Rattle.stab_journal.specs.Since.{AreBelow}
use Rattle.trace_verify.specs.Signs.{AreStepsOf, starts_at}
use Rattle.trace_verify.specs.Verdict.{IsSigned}

or_none : (b : Bool) → (b || false) ≡ b
or_none true = refl
or_none false = refl

same_bool : (a b : Bool) → (a ≡ true → b ≡ true) → (b ≡ true → a ≡ true) → a ≡ b
same_bool true b f g = sym (f refl)
same_bool false true f g = g refl
same_bool false false f g = refl

above : (k q : ℕ) → q ≤ k → (k ≡ q → ⊥) → suc q ≤ k
above k q le apart = omega arith

abbrev here : ℕ → List Numbered → Bool
here q run = list_any (λ (n : Numbered). nat_eq n.seq.0 q) run

not_below : (q : ℕ) (ns : List Numbered) → AreBelow q ns → here q ns ≡ false
not_below q [] h = refl
not_below q (n ∷ ns) h = ap (λ b. b || here q ns) (ne_eqb n.seq.0 q (λ e. let lt = h.0 in omega arith)) ∙ not_below q ns h.1

not_above : (q k : ℕ) (ns : List Numbered) → q < k → RiseFrom k ns → here q ns ≡ false
not_above q k [] lt h = refl
not_above q k (n ∷ ns) lt h = ap (λ b. b || here q ns) (ne_eqb n.seq.0 q (λ e. let le = h.0 in omega arith)) ∙ not_above q (suc n.seq.0) ns (omega (arith, h.0)) h.1

-- what starts later rises from later on
later : (q : ℕ) (ns : List Numbered) → RiseFrom q ns → starts_at q ns ≡ false → RiseFrom (suc q) ns
later q [] rise apart = tt
later q (n ∷ ns) rise apart = (above n.seq.0 q rise.0 (λ e. false≢true (sym apart ∙ ap (λ k. nat_eq k q) e ∙ nat_eq_equiv.refl q)), rise.1)

-- a step with the number is the first, if it is there
starts : (q : ℕ) (ns : List Numbered) → RiseFrom q ns → here q ns ≡ starts_at q ns
starts q [] rise = refl
starts q (n ∷ ns) rise = ap (λ b. nat_eq n.seq.0 q || b) (not_above q (suc n.seq.0) ns (omega (arith, rise.0)) rise.1) ∙ or_none (nat_eq n.seq.0 q)

-- where the comparison stands before the event numbered q
pub record IsCompared (j : Journal) (run : List Numbered) (q : ℕ) (left : List Numbered) : Type 0 where
  pub front : List Numbered
  pub is : run ≡ front ++ left
  pub below : AreBelow q front
  pub rises : RiseFrom q left
  pub labels : AllByRecursion (λ (n : Numbered). label_at j.events n.seq.0 ≡ Some n.label) left
  pub survive : (i : ℕ) → suc i ≡ q → survivors_from j.struck 1 (take i j.events) ≡ front
  pub signed : (k : ℕ) → k < q → IsSigned j run k

-- whether the run has the step
here_is : (j : Journal) (run left : List Numbered) (q : ℕ) → IsCompared j run q left → here q run ≡ starts_at q left
here_is j run left q c =
    ap (here q) c.is ∙ list_any-append (λ (n : Numbered). nat_eq n.seq.0 q) c.front left ∙ ap (λ b. b || here q left) (not_below q c.front c.below) ∙ starts q left c.rises

-- the sign is right where the step is live exactly as it is in the run
sign_right : (j : Journal) (run left : List Numbered) (q : ℕ) (live : Bool) → IsCompared j run q left → IsTrue live ↔ IsLive j q → live ≡ starts_at q left → IsSigned j run q
sign_right j run left q live c is same = (
  (λ h. here_is j run left q c ∙ sym same ∙ is.1 h),
  (λ h. is.0 (same ∙ sym (here_is j run left q c) ∙ h)),
)

pub sign_wrong : (j : Journal) (run left : List Numbered) (q : ℕ) (live : Bool) → IsCompared j run q left → IsTrue live ↔ IsLive j q → (live ≡ starts_at q left → ⊥) → IsSigned j run q → ⊥
sign_wrong j run left q live c is apart signed = apart (same_bool live (starts_at q left) (λ h. sym (here_is j run left q c) ∙ signed.0 (is.0 h)) (λ h. is.1 (signed.1 (here_is j run left q c ∙ h))))

some_is : {A : Type 0} {x y : A} → Some x ≡ Some y → x ≡ y
some_is e = cc

label_here : (es : List Event) (i : ℕ) (e : Event) → slice_get es i ≡ Some e → label_at es (suc i) ≡ label_of e.what
label_here es i e at = ap (option_and_then (λ (f : Event). label_of f.what)) at

step_of : (q : ℕ) (w : What) (l : Label) → label_of w ≡ Some l → step_at q w ≡ record { seq = record { 0 = q }; label = l } ∷ []
step_of q (Step k) l is = ap (λ x. record { seq = record { 0 = q }; label = x } ∷ []) (some_is is)
step_of q (Undo t m) l is = absurd (let none : None ≡ Some l = is in cc)
step_of q (Release k) l is = absurd (let none : None ≡ Some l = is in cc)

-- an event that isn't live is no surviving step
no_step_of : (q : ℕ) (struck : Bool) (w : What) → (IsSome (label_of w) → struck ≡ false → ⊥) → cond struck [] (step_at q w) ≡ []
no_step_of q true w dead = refl
no_step_of q false (Step k) dead = absurd (dead refl refl)
no_step_of q false (Undo t m) dead = refl
no_step_of q false (Release k) dead = refl

-- the surviving steps of one event more
more_survive : (j : Journal) (i : ℕ) (e : Event) → slice_get j.events i ≡ Some e → survivors_from j.struck 1 (take (suc i) j.events) ≡ survivors_from j.struck 1 (take i j.events) ++ cond (contains j.struck (suc i)) [] (step_at (suc i) e.what)
more_survive j i e at =
    let lt = slice_get_within j.events i e at in
    let len : 1 + length (take i j.events) ≡ suc i = omega (arith, length-take i j.events, lt) in
    ap (survivors_from j.struck 1) (take-suc j.events i e lt ∙ ap (λ x. take i j.events ++ x ∷ []) (get_or_from_slice_get j.events i e e at))
    ∙ survivors_from-push j.struck 1 (take i j.events) e
    ∙ ap (λ k. survivors_from j.struck 1 (take i j.events) ++ cond (contains j.struck k) [] (step_at k e.what)) len

below_more : (q : ℕ) (ns : List Numbered) → AreBelow q ns → AreBelow (suc q) ns
below_more q [] h = tt
below_more q (n ∷ ns) h = (omega (arith, h.0), below_more q ns h.1)

below_last : (q : ℕ) (ns : List Numbered) (n : Numbered) → n.seq.0 ≡ q → AreBelow q ns → AreBelow (suc q) (ns ++ n ∷ [])
below_last q [] n is h = (omega (arith, is), tt)
below_last q (k ∷ ns) n is h = (omega (arith, h.0), below_last q ns n is h.1)

less : (k q : ℕ) → k < suc q → (k ≡ q → ⊥) → k < q
less k q lt apart = omega arith

signed_more : (j : Journal) (run : List Numbered) (q : ℕ) → ((k : ℕ) → k < q → IsSigned j run k) → IsSigned j run q → (k : ℕ) → k < suc q → IsSigned j run k
signed_more j run q h this k lt =
    elim (nat_eq k q) as (λ b. nat_eq k q ≡ b → IsSigned j run k) [
      | true ↦ λ is. subst (IsSigned j run) (sym (eqb-true k q is)) this
      | false ↦ λ is. h k (less k q lt (λ e. false≢true (sym is ∙ ap (λ x. nat_eq x q) e ∙ nat_eq_equiv.refl q)))
    ] refl

-- the event's step is live and in the run
pub compare_here : (j : Journal) (run : List Numbered) (i : ℕ) (n : Numbered) (ns : List Numbered) → IsCompared j run (suc i) (n ∷ ns) → n.seq.0 ≡ suc i → IsLive j (suc i) → IsSigned j run (suc i) → (e : Event) → slice_get j.events i ≡ Some e → IsCompared j run (suc (suc i)) ns
compare_here j run i n ns c is live signed e at = record {
  front = c.front ++ n ∷ [];
  is = c.is ∙ sym (append_assoc c.front (n ∷ []) ns);
  below = below_last (suc i) c.front n is c.below;
  rises = subst (λ k. RiseFrom (suc k) ns) is c.rises.1;
  labels = c.labels.1;
  survive = λ k next. ap (λ x. survivors_from j.struck 1 (take x j.events)) (let same : k ≡ suc i = omega (arith, next) in same)
      ∙ more_survive j i e at
      ∙ ap (λ b. survivors_from j.struck 1 (take i j.events) ++ cond b [] (step_at (suc i) e.what)) live.kept
      ∙ ap (λ x. survivors_from j.struck 1 (take i j.events) ++ x) (step_of (suc i) e.what n.label (sym (label_here j.events i e at) ∙ ap (label_at j.events) (sym is) ∙ c.labels.0) ∙ ap (λ x. record { seq = record { 0 = x }; label = n.label } ∷ []) (sym is))
      ∙ ap (λ x. x ++ n ∷ []) (c.survive i refl);
  signed = signed_more j run (suc i) c.signed signed;
}

-- the event is no live step, and the run hasn't it
pub compare_past : (j : Journal) (run left : List Numbered) (i : ℕ) → IsCompared j run (suc i) left → starts_at (suc i) left ≡ false → (IsLive j (suc i) → ⊥) → IsSigned j run (suc i) → (e : Event) → slice_get j.events i ≡ Some e → IsCompared j run (suc (suc i)) left
compare_past j run left i c apart dead signed e at = record {
  front = c.front;
  is = c.is;
  below = below_more (suc i) c.front c.below;
  rises = later (suc i) left c.rises apart;
  labels = c.labels;
  survive = λ k next. ap (λ x. survivors_from j.struck 1 (take x j.events)) (let same : k ≡ suc i = omega (arith, next) in same)
      ∙ more_survive j i e at
      ∙ ap (λ x. survivors_from j.struck 1 (take i j.events) ++ x) (no_step_of (suc i) (contains j.struck (suc i)) e.what (λ some kept. dead (record { step = subst IsSome (sym (label_here j.events i e at)) some; kept = kept })))
      ∙ append-nil (survivors_from j.struck 1 (take i j.events))
      ∙ c.survive i refl;
  signed = signed_more j run (suc i) c.signed signed;
}

-- before the first event
pub compare_first : (j : Journal) (run : List Numbered) → AreStepsOf j.events run → IsCompared j run 1 run
compare_first j run h = record {
  front = [];
  is = refl;
  below = tt;
  rises = h.rises;
  labels = h.labels;
  survive = λ i next. ap (λ x. survivors_from j.struck 1 (take x j.events)) (let same : i ≡ 0 = omega (arith, next) in same);
  signed = λ k lt. subst (IsSigned j run) (let same : 0 ≡ k = omega arith in same) ((λ live. absurd (false≢true live.step)), (λ h0. absurd (false≢true (sym (not_above 0 1 run (omega arith) h.rises) ∙ h0))));
}

no_event : (es : List Event) (q : ℕ) (l : Label) → length es < q → label_at es q ≡ Some l → ⊥
no_event es zero l lt at = absurd (omega arith)
no_event es (suc i) l lt at = let none : None ≡ Some l = sym (ap (option_and_then (λ (f : Event). label_of f.what)) (slice_get_past es i (omega arith))) ∙ at in cc

past : (j : Journal) (q : ℕ) (left : List Numbered) → length j.events < q → RiseFrom q left → AllByRecursion (λ (n : Numbered). label_at j.events n.seq.0 ≡ Some n.label) left → left ≡ []
past j q [] lt rise labels = refl
past j q (n ∷ ns) lt rise labels = absurd (no_event j.events n.seq.0 n.label (omega (arith, rise.0)) labels.0)

-- behind the last event
pub compared_all : (j : Journal) (run left : List Numbered) → IsCompared j run (suc (length j.events)) left → survivors j ≡ run
compared_all j run left c =
    ap (survivors_from j.struck 1) (sym (take-length j.events)) ∙ c.survive (length j.events) refl
    ∙ sym (append-nil c.front) ∙ ap (λ x. c.front ++ x) (sym (past j (suc (length j.events)) left (omega arith) c.rises c.labels)) ∙ sym c.is

compare_by : (j : Journal) (run left left' : List Numbered) (i : ℕ) (live stays : Bool) → IsCompared j run (suc i) left → (d : Event) → i < length j.events → IsTrue live ↔ IsLive j (suc i)
    → stays ≡ starts_at (suc i) left → live ≡ stays → left' ≡ cond stays (drop 1 left) left → IsCompared j run (suc (suc i)) left'
compare_by j run [] left' i live true c d lt is starts same next = absurd (false≢true (sym starts))
compare_by j run (n ∷ ns) left' i live true c d lt is starts same next =
    subst (IsCompared j run (suc (suc i))) (sym next)
    (compare_here j run i n ns c (eqb-true n.seq.0 (suc i) (sym starts)) (is.0 same) (sign_right j run (n ∷ ns) (suc i) live c is (same ∙ starts)) (get_or j.events i d) (slice_get-get_or j.events i d lt))
compare_by j run left left' i live false c d lt is starts same next =
    subst (IsCompared j run (suc (suc i))) (sym next)
    (compare_past j run left i c (sym starts) (λ h. false≢true (sym same ∙ is.1 h)) (sign_right j run left (suc i) live c is (same ∙ starts)) (get_or j.events i d) (slice_get-get_or j.events i d lt))

-- the comparison goes on by an event whose sign is right
pub compare_on : (j : Journal) (run left left' : List Numbered) (i : ℕ) (live stays : Bool) → IsCompared j run (suc i) left → i < length j.events → IsTrue live ↔ IsLive j (i + 1)
    → stays ≡ starts_at (i + 1) left → live ≡ stays → left' ≡ cond stays (drop 1 left) left → IsCompared j run (suc (i + 1)) left'
compare_on j run left left' i live stays c lt is starts same next =
    subst (λ k. IsCompared j run (suc k) left') (sym (add-one i))
    (compare_by j run left left' i live stays c (record { worker = 0; what = Release 0 }) lt (subst (λ k. IsTrue live ↔ IsLive j k) (add-one i) is) (starts ∙ ap (λ k. starts_at k left) (add-one i)) same next)

pub wrong_at : (j : Journal) (run left : List Numbered) (i : ℕ) (live stays : Bool) → IsCompared j run (suc i) left → IsTrue live ↔ IsLive j (i + 1) → stays ≡ starts_at (i + 1) left → (live ≡ stays → ⊥)
    → ((k : ℕ) → k < i + 1 → IsSigned j run k) × (IsSigned j run (i + 1) → ⊥)
wrong_at j run left i live stays c is starts apart = (
  λ k lt. c.signed k (subst (λ x. k < x) (add-one i) lt),
  subst (λ k. IsSigned j run k → ⊥) (sym (add-one i)) (sign_wrong j run left (suc i) live c (subst (λ k. IsTrue live ↔ IsLive j k) (add-one i) is) (λ e. apart (e ∙ ap (λ k. starts_at k left) (sym (add-one i)) ∙ sym starts))),
)

pub compared_end : (j : Journal) (run left : List Numbered) (i : ℕ) → i ≡ length j.events → IsCompared j run (suc i) left → survivors j ≡ run
compared_end j run left i end c = compared_all j run left (subst (λ k. IsCompared j run (suc k) left) end c)
