-- What a history's replay says of it.
use Rattle.std.proofs.Common.{◌≡◌, ℕ, ℤ, zero, suc, ◌+◌, ◌<◌, List, [], ◌∷◌, ◌++◌, length, take, drop, add-one, refl, sym, ap, subst, ◌∙◌, arith, append_assoc}
use Rattle.std.specs.Prelude.{Some, None, slice_get}
use Rattle.std.specs.List.{AllByRecursion}
use Rattle.std.proofs.Math.Seq.{take-suc}
use Rattle.std.proofs.lemmas.List.{length-take, take-append-drop}
use Rattle.std.proofs.lemmas.Option.{get_or_from_slice_get, slice_get_within}
use Rattle.stab_base.specs.declared.numbers.Seq.{Seq}
use Rattle.stab_code.specs.Program.{ProgramParts}
use Rattle.stab_journal.specs.declared.event.Event.{Event}
use Rattle.stab_journal.specs.declared.event.Label.{Label}
use Rattle.stab_journal.specs.declared.event.Numbered.{Numbered}
use Rattle.stab_journal.specs.declared.event.What.TheVariants.{Step, Undo, Release}
use Rattle.stab_journal.specs.Event.{label_of}
use Rattle.stab_journal.specs.Journal.{Journal, label_at, survivors}
use Rattle.stab_journal.specs.Names.{has}
use Rattle.stab_journal.specs.Reached.{reached}
use Rattle.language.specs.Plain.{PlainState}
use Rattle.language.specs.Standing.{StandsFor, event, nothing, step, undo, release}
use Rattle.journal_laws.proofs.Undone.{stands_run}
use Rattle.trace_verify.specs.declared.replay.Replay.{Replay}
use Rattle.trace_verify.specs.declared.verdict.Verdict.TheVariants.{Yes, No}
use Rattle.trace_verify.specs.declared.verdict.Why.{Why}
use Rattle.trace_verify.specs.declared.verdict.Why.TheVariants.{WrongSign}
use Rattle.trace_verify.specs.Parts.{run_in}
use Rattle.trace_verify.specs.Replayed.{Follows, IsReady, IsReplayed, IsWrongFor}
use Rattle.trace_verify.specs.Signs.{AreStepsOf}
use Rattle.trace_verify.specs.Verdict.{IsSigned, IsVerdict, fails, passes, signs}
use Rattle.trace_verify.proofs.Parting.{all_rest}

-- the event with a number stays where one more comes
label_more : (es : List Event) (e : Event) (q : ℕ) (l : Label) → label_at es q ≡ Some l → label_at (es ++ e ∷ []) q ≡ Some l
label_more es e zero l at = absurd (let none : None ≡ Some l = at in cc)
label_more [] e (suc i) l at = absurd (let none : None ≡ Some l = at in cc)
label_more (f ∷ es) e (suc zero) l at = at
label_more (f ∷ es) e (suc (suc i)) l at = label_more es e (suc i) l at

at_last : (es : List Event) (e : Event) → label_at (es ++ e ∷ []) (suc (length es)) ≡ label_of e.what
at_last [] e = refl
at_last (f ∷ es) e = at_last es e

label_last : (es : List Event) (e : Event) → label_at (es ++ e ∷ []) (length es + 1) ≡ label_of e.what
label_last es e = ap (label_at (es ++ e ∷ [])) (add-one (length es)) ∙ at_last es e

all_more : (es : List Event) (e : Event) (ns : List Numbered) → AllByRecursion (λ (n : Numbered). label_at es n.seq.0 ≡ Some n.label) ns → AllByRecursion (λ (n : Numbered). label_at (es ++ e ∷ []) n.seq.0 ≡ Some n.label) ns
all_more es e [] h = tt
all_more es e (n ∷ ns) h = (label_more es e n.seq.0 n.label h.0, all_more es e ns h.1)

all_last : (P : Numbered → Type 0) (ns : List Numbered) (n : Numbered) → AllByRecursion P ns → P n → AllByRecursion P (ns ++ n ∷ [])
all_last P [] n h this = (this, tt)
all_last P (k ∷ ns) n h this = (h.0, all_last P ns n h.1 this)

-- the steps of a run for which events stand are the events'
labels_of : (p : ProgramParts) (events : List Event) (run : List Numbered) (s : PlainState) → StandsFor p events run s → AllByRecursion (λ (n : Numbered). label_at events n.seq.0 ≡ Some n.label) run
labels_of p _ _ _ nothing = tt
labels_of p _ _ _ (step {events = es} {run = run} {before = before} after worker label stands may is) =
    all_last (λ n. label_at (es ++ event worker (Step label) ∷ []) n.seq.0 ≡ Some n.label) run _ (all_more es (event worker (Step label)) run (labels_of p es run before stands)) (label_last es (event worker (Step label)))
labels_of p _ _ _ (undo {events = es} {run = run} {before = before} after worker t m stands may is) =
    all_rest (λ n. label_at (es ++ event worker (Undo (record { 0 = t }) (record { 0 = m })) ∷ []) n.seq.0 ≡ Some n.label) (has (reached run m)) run (all_more es (event worker (Undo (record { 0 = t }) (record { 0 = m }))) run (labels_of p es run before stands))
labels_of p _ _ _ (release {events = es} {run = run} {state = state} worker k stands final more) = all_more es (event worker (Release k)) run (labels_of p es run state stands)

pub steps_of : (p : ProgramParts) (events : List Event) (run : List Numbered) (s : PlainState) → StandsFor p events run s → AreStepsOf events run
steps_of p events run s stands = record { rises = (stands_run p events run s stands).1.rises; labels = labels_of p events run s stands }

-- the events before a place and the one that stands there
pub one_more : (es : List Event) (i : ℕ) (e : Event) → slice_get es i ≡ Some e → take (i + 1) es ≡ take i es ++ e ∷ []
one_more es i e at = ap (λ k. take k es) (add-one i) ∙ take-suc es i e (slice_get_within es i e at) ∙ ap (λ x. take i es ++ x ∷ []) (get_or_from_slice_get es i e e at)

pub number_of : (es : List Event) (i : ℕ) (e : Event) → slice_get es i ≡ Some e → length (take i es) + 1 ≡ i + 1
number_of es i e at = omega (arith, length-take i es, slice_get_within es i e at)

pub cut_at : (es : List Event) (i : ℕ) (e : Event) → slice_get es i ≡ Some e → es ≡ take i es ++ e ∷ drop (i + 1) es
cut_at es i e at = sym (take-append-drop (i + 1) es) ∙ ap (λ k. k ++ drop (i + 1) es) (one_more es i e at) ∙ append_assoc (take i es) (e ∷ []) (drop (i + 1) es)

-- the replay goes on by the event at a place
pub went_on : (p : ProgramParts) (script : List ℤ) (es : List Event) (i : ℕ) (e : Event) (old new : Replay) → slice_get es i ≡ Some e → Follows p script (take i es) old new e.what None
    → IsReady ((i + 1) + 1) new × IsReplayed p script (take (i + 1) es) new
went_on p script es i e old new at f = (
  subst (λ k. IsReady k new) (let is : length (take i es) + 2 ≡ (i + 1) + 1 = omega (arith, number_of es i e at) in is) f.0,
  subst (λ k. IsReplayed p script k new) (sym (one_more es i e at)) (f.1 e.worker),
)

-- an event that fails
pub failed_at : (p : ProgramParts) (script : List ℤ) (j : Journal) (i : ℕ) (e : Event) (r : Replay) (q : Seq) (why : Why) → slice_get j.events i ≡ Some e → q.0 ≡ i + 1
    → IsReplayed p script (take i j.events) r → IsWrongFor p script (take i j.events) r e.what why → IsVerdict p script j (No q why)
failed_at p script j i e r q why at number h wrong = fails q why (record {
  before = take i j.events;
  event = e;
  after = drop (i + 1) j.events;
  is = cut_at j.events i e at;
  number = number ∙ sym (number_of j.events i e at);
  run = run_in r.surviving.parts;
  state = r.surviving.state.state;
  stands = h.stands;
  follows = h.follows;
  wrong = wrong;
})

-- all events passed, and the signs are right
pub all_right : (p : ProgramParts) (script : List ℤ) (j : Journal) (run : List Numbered) (r : Replay) → run ≡ run_in r.surviving.parts → IsReplayed p script j.events r → survivors j ≡ run → IsVerdict p script j Yes
all_right p script j run r is h left = passes (record {
  run = run_in r.surviving.parts;
  state = r.surviving.state.state;
  shows = record { stands = h.stands; left = left ∙ is };
  follows = h.follows;
})

-- all events passed, and a sign is wrong
pub wrong_sign : (p : ProgramParts) (script : List ℤ) (j : Journal) (run : List Numbered) (r : Replay) (q : Seq) → run ≡ run_in r.surviving.parts → IsReplayed p script j.events r
    → ((k : ℕ) → k < q.0 → IsSigned j run k) × (IsSigned j run q.0 → ⊥) → IsVerdict p script j (No q WrongSign)
wrong_sign p script j run r q is h w = signs q (record {
  run = run_in r.surviving.parts;
  state = r.surviving.state.state;
  stands = h.stands;
  follows = h.follows;
  first = λ k lt. subst (λ (ns : List Numbered). IsSigned j ns k) is (w.0 k lt);
  wrong = λ signed. w.1 (subst (λ (ns : List Numbered). IsSigned j ns q.0) (sym is) signed);
})
