-- What stands for events stands for those at their front too, and is one run and one state.
use Rattle.std.proofs.Common.{◌≡◌, ◌⊎◌, inl, inr, ℕ, ℤ, zero, suc, ◌+◌, ◌<◌, ◌≤◌, List, [], ◌∷◌, ◌++◌, length, take, refl, sym, ap, subst, ◌∙◌, arith, length-append, append_assoc}
use Rattle.std.specs.Prelude.{true, false, IfSome, Some, None, slice_get}
use Rattle.std.proofs.Math.Seq.{take-length}
use Rattle.std.proofs.lemmas.List.{take-append-le}
use Rattle.std.proofs.Math.Dec.{leb}
use Rattle.std.proofs.lemmas.Bool.Decides.{leb_tells}
use Rattle.std.proofs.lemmas.Option.{slice_get_within}
use Rattle.stab_code.proofs.Lists.{slice_get-left}
use Rattle.stab_code.specs.Program.{ProgramParts}
use Rattle.stab_journal.specs.declared.event.Event.{Event}
use Rattle.stab_journal.specs.declared.event.Numbered.{Numbered}
use Rattle.stab_journal.specs.declared.event.What.{What}
use Rattle.stab_journal.specs.declared.event.What.TheVariants.{Step, Undo, Release}
use Rattle.stab_journal.specs.Due.{final_prints, released}
use Rattle.stab_journal.specs.Script.{FollowsScript, probed, probed_by, script_at}
use Rattle.language.specs.Plain.{PlainState, end_of, plain_step}
use Rattle.language.specs.Standing.{MayStep, MayUndo, StandsFor, event, nothing, step, undo, release}
use Rattle.journal_laws.proofs.Undone.{stands_run}

some_is : {A : Type 0} {x y : A} → Some x ≡ Some y → x ≡ y
some_is e = cc

-- events stand for one run and one state
pub one_run : (p : ProgramParts) (es : List Event) (r r' : List Numbered) (s s' : PlainState) → StandsFor p es r s → StandsFor p es r' s' → r ≡ r'
one_run p es r r' s s' a b = (stands_run p es r s a).0 ∙ sym (stands_run p es r' s' b).0

pub one_end : (p : ProgramParts) (es : List Event) (r r' : List Numbered) (s s' : PlainState) → StandsFor p es r s → StandsFor p es r' s' → s ≡ s'
one_end p es r r' s s' a b =
    some_is (sym (stands_run p es r s a).1.ends ∙ ap (end_of p) (one_run p es r r' s s' a b) ∙ (stands_run p es r' s' b).1.ends)

-- what an event asks for that comes next
abbrev pub MayCome : ProgramParts → List Event → List Numbered → PlainState → What → Type 0
MayCome p es run s (Step l) = MayStep es run s l × ((after : PlainState) × (plain_step p s (length es + 1) l ≡ Some after))
MayCome p es run s (Undo t m) = MayUndo p run s t.0 m.0
MayCome p es run s (Release k) = (k ≡ final_prints run) × (released es < k)

-- events stand for a run and a state from which the next one may come
pub record ComesAfter (p : ProgramParts) (es : List Event) (w : What) : Type 0 where
  pub run : List Numbered
  pub state : PlainState
  pub stands : StandsFor p es run state
  pub may : MayCome p es run state w

no_snoc : (es : List Event) (e : Event) → [] ≡ es ++ e ∷ [] → ⊥
no_snoc [] e is = cc
no_snoc (f ∷ es) e is = cc

head_is : (a b : Event) (xs ys : List Event) → a ∷ xs ≡ b ∷ ys → a ≡ b
head_is a b xs ys is = cc

tail_is : (a b : Event) (xs ys : List Event) → a ∷ xs ≡ b ∷ ys → xs ≡ ys
tail_is a b xs ys is = cc

snoc_front : (xs ys : List Event) (x y : Event) → xs ++ x ∷ [] ≡ ys ++ y ∷ [] → xs ≡ ys
snoc_front [] [] x y is = refl
snoc_front [] (b ∷ ys) x y is = absurd (no_snoc ys y (tail_is x b [] (ys ++ y ∷ []) is))
snoc_front (a ∷ xs) [] x y is = absurd (no_snoc xs x (sym (tail_is a y (xs ++ x ∷ []) [] is)))
snoc_front (a ∷ xs) (b ∷ ys) x y is =
    let head = head_is a b (xs ++ x ∷ []) (ys ++ y ∷ []) is in
    let tail = snoc_front xs ys x y (tail_is a b (xs ++ x ∷ []) (ys ++ y ∷ []) is) in cc

pub snoc_last : (xs ys : List Event) (x y : Event) → xs ++ x ∷ [] ≡ ys ++ y ∷ [] → x ≡ y
snoc_last [] [] x y is = head_is x y [] [] is
snoc_last [] (b ∷ ys) x y is = absurd (no_snoc ys y (tail_is x b [] (ys ++ y ∷ []) is))
snoc_last (a ∷ xs) [] x y is = absurd (no_snoc xs x (sym (tail_is a y (xs ++ x ∷ []) [] is)))
snoc_last (a ∷ xs) (b ∷ ys) x y is = snoc_last xs ys x y (tail_is a b (xs ++ x ∷ []) (ys ++ y ∷ []) is)

-- the same next event behind the same events
moved : (p : ProgramParts) (fs es : List Event) (f e : Event) → fs ++ f ∷ [] ≡ es ++ e ∷ [] → ComesAfter p fs f.what → ComesAfter p es e.what
moved p fs es f e is c = subst (λ w. ComesAfter p es w) (ap (λ (x : Event). x.what) (snoc_last fs es f e is)) (subst (λ xs. ComesAfter p xs f.what) (snoc_front fs es f e is) c)

-- what stands for one event more: the event may come after the others
pub last_of : (p : ProgramParts) (all : List Event) (run : List Numbered) (s : PlainState) → StandsFor p all run s → (es : List Event) (e : Event) → all ≡ es ++ e ∷ [] → ComesAfter p es e.what
last_of p _ _ _ nothing es e is = absurd (no_snoc es e is)
last_of p _ _ _ (step {events = fs} {run = run} {before = before} after worker label stands may made) es e is =
    moved p fs es (event worker (Step label)) e is (record { run = run; state = before; stands = stands; may = (may, (after, made)) })
last_of p _ _ _ (undo {events = fs} {run = run} {before = before} after worker t m stands may ends) es e is =
    moved p fs es (event worker (Undo (record { 0 = t }) (record { 0 = m }))) e is (record { run = run; state = before; stands = stands; may = may })
last_of p _ _ _ (release {events = fs} {run = run} {state = state} worker k stands final more) es e is =
    moved p fs es (event worker (Release k)) e is (record { run = run; state = state; stands = stands; may = (final, more) })

-- events stand for some run and some state
pub record Stands (p : ProgramParts) (es : List Event) : Type 0 where
  pub run : List Numbered
  pub state : PlainState
  pub stands : StandsFor p es run state

whole_or_front : (p : ProgramParts) (fs : List Event) (f : Event) (k : ℕ) → k ≤ length (fs ++ f ∷ []) → (k ≤ length fs → Stands p (take k fs)) → Stands p (fs ++ f ∷ [])
    → ((leb k (length fs) ≡ true) × (k ≤ length fs)) ⊎ ((leb k (length fs) ≡ false) × (length fs < k)) → Stands p (take k (fs ++ f ∷ []))
whole_or_front p fs f k within front whole (inl (b, le)) = subst (Stands p) (sym (take-append-le k fs (f ∷ []) le)) (front le)
whole_or_front p fs f k within front whole (inr (b, gt)) =
    let len : length (fs ++ f ∷ []) ≡ length fs + 1 = length-append fs (f ∷ []) in
    let same : k ≡ length (fs ++ f ∷ []) = omega (arith, len, within, gt) in
    subst (Stands p) (sym (ap (λ n. take n (fs ++ f ∷ [])) same ∙ take-length (fs ++ f ∷ []))) whole

take_none : (k : ℕ) → [] ≡ take {A = Event} k []
take_none zero = refl
take_none (suc k) = refl

-- the events at the front stand for a run
pub front_of : (p : ProgramParts) (all : List Event) (run : List Numbered) (s : PlainState) → StandsFor p all run s → (k : ℕ) → k ≤ length all → Stands p (take k all)
front_of p _ _ _ nothing k within = subst (Stands p) (let none : [] ≡ take k [] = take_none k in none) (record { run = []; state = _; stands = nothing })
front_of p _ _ _ (step {events = fs} {run = run} {before = before} after worker label stands may made) k within =
    whole_or_front p fs (event worker (Step label)) k within (front_of p fs run before stands k) (record { run = _; state = after; stands = step after worker label stands may made }) (leb_tells k (length fs))
front_of p _ _ _ (undo {events = fs} {run = run} {before = before} after worker t m stands may ends) k within =
    whole_or_front p fs (event worker (Undo (record { 0 = t }) (record { 0 = m }))) k within (front_of p fs run before stands k) (record { run = _; state = after; stands = undo after worker t m stands may ends }) (leb_tells k (length fs))
front_of p _ _ _ (release {events = fs} {run = run} {state = state} worker n stands final more) k within =
    whole_or_front p fs (event worker (Release n)) k within (front_of p fs run state stands k) (record { run = run; state = state; stands = release worker n stands final more }) (leb_tells k (length fs))

pub probed_append : (front back : List Event) → probed (front ++ back) ≡ probed front ++ probed back
probed_append [] back = refl
probed_append (e ∷ front) back = ap (λ ps. probed_by e.what ++ ps) (probed_append front back) ∙ sym (append_assoc (probed_by e.what) (probed front) (probed back))

some_follows : (script ps qs : List ℤ) → ((i : ℕ) → IfSome (slice_get (ps ++ qs) i) (λ n. n ≡ script_at script i)) → (i : ℕ) → IfSome (slice_get ps i) (λ n. n ≡ script_at script i)
some_follows script ps qs h i =
    elim (slice_get ps i) as (λ o. slice_get ps i ≡ o → IfSome o (λ n. n ≡ script_at script i)) [
      | None ↦ λ at. tt
      | (Some x) ↦ λ at. subst (λ o. IfSome o (λ n. n ≡ script_at script i)) (slice_get-left ps qs i (slice_get_within ps i x at) ∙ at) (h i)
    ] refl

-- the events at the front follow the script too
pub front_follows : (script : List ℤ) (front back : List Event) → FollowsScript script (front ++ back) → FollowsScript script front
front_follows script front back h = some_follows script (probed front) (probed back) (subst (λ ps. (i : ℕ) → IfSome (slice_get ps i) (λ n. n ≡ script_at script i)) (probed_append front back) h)
