-- A history up to one of its cuts.
use Rattle.std.proofs.Common.{◌≡◌, ℕ, zero, suc, ◌-◌, ◌≤◌, List, [], ◌∷◌, ◌++◌, length, take, add-one, refl, sym, ap, subst, ◌∙◌, length-append, arith}
use Rattle.std.specs.Prelude.{Some, None}
use Rattle.std.specs.List.{AllByRecursion}
use Rattle.std.specs.FinMap as map
use Rattle.std.specs.Ordering.{nat_cmp}
use Rattle.std.proofs.lemmas.Option.{slice_get_within}
use Rattle.stab_journal.specs.declared.event.Event.{Event}
use Rattle.stab_journal.specs.declared.event.Label.{Label}
use Rattle.stab_journal.specs.declared.event.Label.TheVariants.{Local, Spawn, NewChan, Comm, NewRef, Get, Set, Enter, Cut, Print, Probe, Refuse, Pin, Attempt}
use Rattle.stab_journal.specs.declared.event.Numbered.{Numbered}
use Rattle.stab_journal.specs.declared.event.What.{What}
use Rattle.stab_journal.specs.declared.event.What.TheVariants.{Step, Undo, Release}
use Rattle.stab_journal.specs.Event.{AreEvents, IsLabel, IsWhat, label_of}
use Rattle.stab_journal.specs.Journal.{event_at, label_at}
use Rattle.stab_journal.specs.Script.{probed, probed_by}
use Rattle.stab_code.specs.Program.{ProgramParts}
use Rattle.language.specs.Plain.{PlainState, effect_of, standing, start}
use Rattle.language.specs.Standing.{StandsFor}
use Rattle.language.proofs.Applying.{get_inserted}
use Rattle.journal_laws.proofs.Undone.{stands_run}
use Rattle.image_laws.proofs.Threads.{IsFresh, AreFresh, new_after}
use Rattle.trace_verify.proofs.Judging.{one_more, steps_of}

-- the events up to one of them
pub up_to_it : (es : List Event) (q : ℕ) (e : Event) → event_at es q ≡ Some e → take q es ≡ take (q - 1) es ++ e ∷ []
up_to_it es zero e at = absurd (let no : None ≡ Some e = at in cc)
up_to_it es (suc i) e at = ap (λ k. take k es) (sym (add-one i)) ∙ one_more es i e at ∙ ap (λ k. take k es ++ e ∷ []) (omega arith)

pub is_there : (es : List Event) (q : ℕ) (e : Event) → event_at es q ≡ Some e → q ≤ length es
is_there es zero e at = omega arith
is_there es (suc i) e at = omega (arith, slice_get_within es i e at)

few_probes : (w : What) → length (probed_by w) ≤ 1
few_probes (Step (Probe t i)) = omega arith
few_probes (Step l) = omega arith
few_probes (Undo t m) = omega arith
few_probes (Release k) = omega arith

-- there are no more probes than events
pub probes_within : (es : List Event) → length (probed es) ≤ length es
probes_within [] = omega arith
probes_within (e ∷ es) = omega (arith, length-append (probed_by e.what) (probed es), few_probes e.what, probes_within es)

pub label_in : (q : ℕ) (es : List Event) (k : ℕ) (l : Label) → AreEvents q es → label_at es k ≡ Some l → IsLabel l
label_in q es zero l all at = absurd (let no : None ≡ Some l = at in cc)
label_in q [] (suc k) l all at = absurd (let no : None ≡ Some l = at in cc)
label_in q (e ∷ es) (suc zero) l all at = of_what e.what all.0.what at
  where
    of_what : (w : What) → IsWhat q w → label_of w ≡ Some l → IsLabel l
    of_what (Step k) h is = subst IsLabel (let same : k ≡ l = cc in same) h
    of_what (Undo t m) h is = absurd (let no : None ≡ Some l = is in cc)
    of_what (Release k) h is = absurd (let no : None ≡ Some l = is in cc)
label_in q (e ∷ es) (suc (suc k)) l all at = label_in (suc q) es (suc k) l all.1 at

fresh_of : (l : Label) → IsLabel l → IsFresh 1 l
fresh_of (Spawn t u) h = h.1.0
fresh_of (Local t n) h = tt
fresh_of (NewChan t c) h = tt
fresh_of (Comm s r c) h = tt
fresh_of (NewRef t r) h = tt
fresh_of (Get t r) h = tt
fresh_of (Set t r) h = tt
fresh_of (Enter t) h = tt
fresh_of (Cut t) h = tt
fresh_of (Print t) h = tt
fresh_of (Probe t i) h = tt
fresh_of (Refuse t) h = tt
fresh_of (Pin t) h = tt
fresh_of (Attempt t g) h = tt

all_fresh : (es : List Event) (ns : List Numbered) → AreEvents 1 es → AllByRecursion (λ (n : Numbered). label_at es n.seq.0 ≡ Some n.label) ns → AreFresh 1 ns
all_fresh es [] all h = tt
all_fresh es (n ∷ ns) all h = (fresh_of n.label (label_in 1 es n.seq.0 n.label all h.0), all_fresh es ns all h.1)

pub events_front : (q i : ℕ) (es : List Event) → AreEvents q es → AreEvents q (take i es)
events_front q zero es all = tt
events_front q (suc i) [] all = tt
events_front q (suc i) (e ∷ es) all = (all.0, events_front (suc q) i es all.1)

-- no thread has the number 0
pub no_thread_0 : (p : ProgramParts) (es : List Event) (run : List Numbered) (s : PlainState) → AreEvents 1 es → StandsFor p es run s → standing s 0 ≡ None
no_thread_0 p es run s all stands =
    let ends = (stands_run p es run s stands).1.ends in
    let fresh = all_fresh es run all (steps_of p es run s stands).labels in
    let first : map.get (start p).threads 0 ≡ None = get_inserted map.empty 1 _ 0 ∙ map.get-empty nat_cmp 0 in
    elim (standing s 0) as (λ o. standing s 0 ≡ o → standing s 0 ≡ None) [
      | None ↦ λ is. is
      | (Some e) ↦ λ is. absurd (let le : 1 ≤ 0 = new_after (effect_of p) 1 0 run (start p) s e ends fresh first is in omega arith)
    ] refl
