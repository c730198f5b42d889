-- A history has one verdict.
use Rattle.std.proofs.Common.{◌≡◌, ◌⊎◌, inl, inr, ℕ, ℤ, suc, ◌+◌, ◌<◌, ◌≤◌, List, [], ◌∷◌, ◌++◌, length, take, drop, refl, sym, ap, subst, ◌∙◌, arith, length-append, append_assoc}
use Rattle.std.specs.Prelude.{true, false, ◌||◌, Option, IfSome, Some, None, IsSome, is_some, nat_eq, slice_get}
use Rattle.std.specs.List.{AllByRecursion, list_any}
use Rattle.std.proofs.Math.Seq.{take-append-add, take-append_seam, take-length}
use Rattle.std.proofs.Math.Dec.{leb}
use Rattle.std.proofs.lemmas.Bool.{false≢true, eqb-true}
use Rattle.std.proofs.lemmas.Bool.Decides.{leb_tells}
use Rattle.std.proofs.lemmas.List.{take-append-drop, take-append-le}
use Rattle.stab_code.proofs.Lists.{slice_get-right}
use Rattle.stab_base.specs.declared.numbers.Seq.{Seq}
use Rattle.stab_base.specs.declared.numbers.ThreadId.{ThreadId}
use Rattle.stab_code.specs.Program.{ProgramParts}
use Rattle.stab_journal.specs.declared.event.Event.{Event}
use Rattle.stab_journal.specs.declared.event.Label.{Label}
use Rattle.stab_journal.specs.declared.event.Label.TheVariants.{Probe, Refuse, Attempt}
use Rattle.stab_journal.specs.declared.event.Numbered.{Numbered}
use Rattle.stab_journal.specs.declared.event.What.{What}
use Rattle.stab_journal.specs.declared.event.What.TheVariants.{Step, Undo, Release}
use Rattle.stab_journal.specs.Journal.{IsLive, IsSurvivor, Journal, survivors}
use Rattle.stab_journal.specs.Script.{FollowsScript, probed, probed_by, script_at}
use Rattle.stab_journal.proofs.Surviving.{are_survivors}
use Rattle.language.specs.Plain.{PlainState, plain_step}
use Rattle.language.specs.Standing.{StandsFor, event}
use Rattle.trace_verify.specs.declared.verdict.Verdict.{Verdict}
use Rattle.trace_verify.specs.declared.verdict.Verdict.TheVariants.{Yes, No}
use Rattle.trace_verify.specs.declared.verdict.Why.{Why}
use Rattle.trace_verify.specs.declared.verdict.Why.TheVariants.{NoStep, WrongProbe, WrongAttempt, Revocable, NotRevocable, WrongRelease, WrongSign}
use Rattle.trace_verify.specs.Verdict.{FailsAt, IsOfRun, IsSigned, IsSignedWrong, IsVerdict, IsWrong, is_in, fails, passes, signs, no_step, wrong_probe, wrong_attempt, revocable, not_revocable, wrong_release}
use Rattle.trace_verify.proofs.Events.{probed_last}
use Rattle.trace_verify.proofs.Prefixes.{ComesAfter, MayCome, Stands, front_follows, front_of, last_of, one_end, one_run, snoc_last}

by_less : (a b : ℕ) → a ≤ b → (a < b → ⊥) → ((leb b a ≡ true) × (b ≤ a)) ⊎ ((leb b a ≡ false) × (a < b)) → a ≡ b
by_less a b le less (inl (is, ge)) = omega (arith, le, ge)
by_less a b le less (inr (is, lt)) = absurd (less lt)

by_tests : (a b : ℕ) → (a < b → ⊥) → (b < a → ⊥) → ((leb a b ≡ true) × (a ≤ b)) ⊎ ((leb a b ≡ false) × (b < a)) → a ≡ b
by_tests a b less more (inl (is, le)) = by_less a b le less (leb_tells b a)
by_tests a b less more (inr (is, lt)) = absurd (more lt)

module _ (p : ProgramParts) (script : List ℤ) (es : List Event) (run : List Numbered) (s : PlainState) where
  -- the step isn't there
  abbrev Lacks : What → Type 0
  Lacks (Step l) = plain_step p s (length es + 1) l ≡ None
  Lacks (Undo t m) = ⊥
  Lacks (Release k) = ⊥

  -- the step is there, if it is one
  abbrev Has : What → Type 0
  Has (Step l) = IsSome (plain_step p s (length es + 1) l)
  Has (Undo t m) = Unit {0}
  Has (Release k) = Unit {0}

  -- what may be wrong with an event whose step is there
  abbrev reason : What → Why
  reason (Step (Probe t i)) = WrongProbe
  reason (Step (Attempt t g)) = WrongAttempt
  reason (Step (Refuse t)) = Revocable
  reason (Step l) = NoStep
  reason (Undo t m) = NotRevocable
  reason (Release k) = WrongRelease

  reason_of : (w : What) (why : Why) → IsWrong p script es run s w why → ((why ≡ NoStep) × Lacks w) ⊎ ((why ≡ reason w) × Has w)
  reason_of _ _ (no_step l none) = inl (refl, none)
  reason_of _ _ (wrong_probe t i some apart) = inr (refl, some)
  reason_of _ _ (wrong_attempt t g some apart) = inr (refl, some)
  reason_of _ _ (revocable t some can) = inr (refl, some)
  reason_of _ _ (not_revocable t m not) = inr (refl, tt)
  reason_of _ _ (wrong_release k not) = inr (refl, tt)

  lacks_or_has : (w : What) → Lacks w → Has w → ⊥
  lacks_or_has (Step l) none some = false≢true (sym (ap is_some none) ∙ some)
  lacks_or_has (Undo t m) none some = none
  lacks_or_has (Release k) none some = none

  by_reasons : (w : What) (a b : Why) → ((a ≡ NoStep) × Lacks w) ⊎ ((a ≡ reason w) × Has w) → ((b ≡ NoStep) × Lacks w) ⊎ ((b ≡ reason w) × Has w) → a ≡ b
  by_reasons w a b (inl x) (inl y) = x.0 ∙ sym y.0
  by_reasons w a b (inr x) (inr y) = x.0 ∙ sym y.0
  by_reasons w a b (inl x) (inr y) = absurd (lacks_or_has w x.1 y.1)
  by_reasons w a b (inr x) (inl y) = absurd (lacks_or_has w y.1 x.1)

  -- one thing is wrong with an event
  pub one_reason : (w : What) (a b : Why) → IsWrong p script es run s w a → IsWrong p script es run s w b → a ≡ b
  one_reason w a b x y = by_reasons w a b (reason_of w a x) (reason_of w b y)

  -- the probe got the script's number
  probe_is : (k : ℕ) (t : ThreadId) (i : ℤ) → FollowsScript script (es ++ event k (Step (Probe t i)) ∷ []) → i ≡ script_at script (length (probed es))
  probe_is k t i h =
      let at : slice_get (probed (es ++ event k (Step (Probe t i)) ∷ [])) (length (probed es)) ≡ Some i =
      ap (λ ps. slice_get ps (length (probed es))) (probed_last es (event k (Step (Probe t i)))) ∙ slice_get-right (probed es) (i ∷ []) (length (probed es)) 0 (omega arith) in
      subst (λ o. IfSome o (λ n. n ≡ script_at script (length (probed es)))) at (h (length (probed es)))

  -- an event with which something is wrong may not come
  pub may_not_come : (k : ℕ) (w : What) (why : Why) → IsWrong p script es run s w why → MayCome p es run s w → FollowsScript script (es ++ event k w ∷ []) → ⊥
  may_not_come k _ _ (no_step l none) may follows = let some = may.1.1 in cc
  may_not_come k _ _ (wrong_probe t i some apart) may follows = apart (probe_is k t i follows)
  may_not_come k _ _ (wrong_attempt t g some apart) may follows = apart may.0
  may_not_come k _ _ (revocable t some can) may follows = false≢true (sym may.0 ∙ can)
  may_not_come k _ _ (not_revocable t m not) may follows = not may
  may_not_come k _ _ (wrong_release n not) may follows = not may

module _ (p : ProgramParts) (script : List ℤ) (es : List Event) where
  -- the events up to the one that fails
  up_to : (q : ℕ) (why : Why) (f : FailsAt p script es q why) → take q es ≡ f.before ++ f.event ∷ []
  up_to q why f = ap (λ n. take n es) f.number ∙ ap (take (length f.before + 1)) f.is ∙ take-append-add f.before (f.event ∷ f.after) 1

  front_is : (q : ℕ) (why : Why) (f : FailsAt p script es q why) → take (length f.before) es ≡ f.before
  front_is q why f = ap (take (length f.before)) f.is ∙ take-append_seam f.before (f.event ∷ f.after)

  within : (q : ℕ) (why : Why) (f : FailsAt p script es q why) → q ≤ length es
  within q why f =
      let len : length es ≡ length f.before + suc (length f.after) = ap length f.is ∙ length-append f.before (f.event ∷ f.after) in
      omega (arith, len, f.number)

  -- events up to one that fails stand for nothing that follows the script
  pub stops : (q : ℕ) (why : Why) → FailsAt p script es q why → Stands p (take q es) → FollowsScript script (take q es) → ⊥
  stops q why f h follows =
      let c = last_of p (take q es) h.run h.state h.stands f.before f.event (up_to q why f) in
      let may = subst (λ r. MayCome p f.before r f.state f.event.what) (one_run p f.before c.run f.run c.state f.state c.stands f.stands) (subst (λ x. MayCome p f.before c.run x f.event.what) (one_end p f.before c.run f.run c.state f.state c.stands f.stands) c.may) in
      may_not_come p script f.before f.run f.state f.event.worker f.event.what why f.wrong may (subst (FollowsScript script) (up_to q why f) follows)

  -- nor do more events
  pub stops_all : (q : ℕ) (why : Why) → FailsAt p script es q why → (run : List Numbered) (s : PlainState) → StandsFor p es run s → FollowsScript script es → ⊥
  stops_all q why f run s stands follows =
      stops q why f (front_of p es run s stands q (within q why f)) (front_follows script (take q es) (drop q es) (subst (FollowsScript script) (sym (take-append-drop q es)) follows))

  -- no other event fails first
  not_before : (q q' : ℕ) (why why' : Why) → FailsAt p script es q why → FailsAt p script es q' why' → q < q' → ⊥
  not_before q q' why why' f g lt =
      let le : q ≤ length g.before = omega (arith, lt, g.number) in
      let same : take q es ≡ take q g.before = ap (take q) g.is ∙ take-append-le q g.before (g.event ∷ g.after) le in
      stops q why f (subst (Stands p) (sym same) (front_of p g.before g.run g.state g.stands q le))
      (subst (FollowsScript script) (sym same) (front_follows script (take q g.before) (drop q g.before) (subst (FollowsScript script) (sym (take-append-drop q g.before)) g.follows)))

  by_order : (q q' : ℕ) (why why' : Why) → FailsAt p script es q why → FailsAt p script es q' why' → q ≡ q'
  by_order q q' why why' f g = by_tests q q' (not_before q q' why why' f g) (not_before q' q why' why g f) (leb_tells q q')

  same_place : (q : ℕ) (why why' : Why) (f : FailsAt p script es q why) (g : FailsAt p script es q why') → why ≡ why'
  same_place q why why' f g =
      let len : length f.before ≡ length g.before = omega (arith, f.number, g.number) in
      let front : f.before ≡ g.before = sym (front_is q why f) ∙ ap (λ n. take n es) len ∙ front_is q why' g in
      let last : f.event ≡ g.event = snoc_last f.before g.before f.event g.event (sym (up_to q why f) ∙ up_to q why' g) in
      let stands : StandsFor p f.before g.run g.state = subst (λ xs. StandsFor p xs g.run g.state) (sym front) g.stands in
      one_reason p script f.before f.run f.state f.event.what why why' f.wrong
      (subst (λ xs. IsWrong p script xs f.run f.state f.event.what why') (sym front)
      (subst (λ r. IsWrong p script g.before r f.state f.event.what why') (sym (one_run p f.before f.run g.run f.state g.state f.stands stands))
      (subst (λ x. IsWrong p script g.before g.run x f.event.what why') (sym (one_end p f.before f.run g.run f.state g.state f.stands stands))
      (subst (λ (e : Event). IsWrong p script g.before g.run g.state e.what why') (sym last) g.wrong))))

  -- one event fails first, for one reason
  pub one_failure : (q q' : ℕ) (why why' : Why) → FailsAt p script es q why → FailsAt p script es q' why' → (q ≡ q') × (why ≡ why')
  one_failure q q' why why' f g =
      let same = by_order q q' why why' f g in
      (same, same_place q why why' f (subst (λ k. FailsAt p script es k why') (sym same) g))

-- the step with this number is live, where it is in the surviving journal
live_in : (j : Journal) (q : ℕ) (ns : List Numbered) → AllByRecursion (IsSurvivor j) ns → is_in ns q → IsLive j q
live_in j q [] each h = absurd (false≢true h)
live_in j q (n ∷ ns) each h =
    elim (nat_eq n.seq.0 q) as (λ b. nat_eq n.seq.0 q ≡ b → IsLive j q) [
      | true ↦ λ is. subst (IsLive j) (eqb-true n.seq.0 q is) each.0.live
      | false ↦ λ is. live_in j q ns each.1 (sym (ap (λ b. b || list_any (λ (k : Numbered). nat_eq k.seq.0 q) ns) is) ∙ h)
    ] refl

-- the signs of the surviving journal are right
survivors_signed : (j : Journal) (q : ℕ) → IsSigned j (survivors j) q
survivors_signed j q = ((are_survivors j).every q, live_in j q (survivors j) (are_survivors j).each)

module _ (p : ProgramParts) (script : List ℤ) (j : Journal) where
  not_both_signs : IsOfRun p script j → (q : ℕ) → IsSignedWrong p script j q → ⊥
  not_both_signs x q w =
      w.wrong (subst (λ r. IsSigned j r q) (x.shows.left ∙ one_run p j.events x.run w.run x.state w.state x.shows.stands w.stands) (survivors_signed j q))

  sign_before : (q q' : ℕ) → IsSignedWrong p script j q → IsSignedWrong p script j q' → q < q' → ⊥
  sign_before q q' v w lt = v.wrong (subst (λ r. IsSigned j r q) (one_run p j.events w.run v.run w.state v.state w.stands v.stands) (w.first q lt))

  no_of : (q q' : Seq) (why why' : Why) → (q.0 ≡ q'.0) × (why ≡ why') → No q why ≡ No q' why'
  no_of q q' why why' same = let a = same.0 in let b = same.1 in ap (λ (n : ℕ). No (record { 0 = n }) why) a ∙ ap (No q') b

  pub one_of : (a b : Verdict) → IsVerdict p script j a → IsVerdict p script j b → a ≡ b
  one_of _ _ (passes x) (passes y) = refl
  one_of _ _ (passes x) (fails q why f) = absurd (stops_all p script j.events q.0 why f x.run x.state x.shows.stands x.follows)
  one_of _ _ (passes x) (signs q w) = absurd (not_both_signs x q.0 w)
  one_of _ _ (fails q why f) (passes y) = absurd (stops_all p script j.events q.0 why f y.run y.state y.shows.stands y.follows)
  one_of _ _ (fails q why f) (fails q' why' g) = no_of q q' why why' (one_failure p script j.events q.0 q'.0 why why' f g)
  one_of _ _ (fails q why f) (signs q' w) = absurd (stops_all p script j.events q.0 why f w.run w.state w.stands w.follows)
  one_of _ _ (signs q w) (passes y) = absurd (not_both_signs y q.0 w)
  one_of _ _ (signs q w) (fails q' why f) = absurd (stops_all p script j.events q'.0 why f w.run w.state w.stands w.follows)
  one_of _ _ (signs q v) (signs q' w) = no_of q q' WrongSign WrongSign (by_tests q.0 q'.0 (sign_before q.0 q'.0 v w) (sign_before q'.0 q.0 w v) (leb_tells q.0 q'.0), refl)

-- A history has one verdict.
pub one_verdict : (p : ProgramParts) (script : List ℤ) (j : Journal) (a b : Verdict) → IsVerdict p script j a → IsVerdict p script j b → a ≡ b
one_verdict p script j a b x y = one_of p script j a b x y
