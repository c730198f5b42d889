-- What a history up to a cut leaves: no number is above its length, and its floor is the cut.
use Rattle.std.proofs.Common.{◌≡◌, ℕ, suc, ◌+◌, ◌≤◌, cond, true, false, List, [], ◌∷◌, ◌++◌, length, refl, sym, ap, ◌∙◌, arith}
use Rattle.std.proofs.Math.ListN.{length-append}
use Rattle.stab_base.specs.declared.numbers.ThreadId.{ThreadId}
use Rattle.stab_journal.specs.declared.event.Label.{Label}
use Rattle.stab_journal.specs.declared.event.Label.TheVariants.{Cut}
use Rattle.stab_journal.specs.declared.event.What.TheVariants.{Step, Undo, Release}
use Rattle.stab_journal.specs.declared.event.Event.{Event}
use Rattle.stab_journal.specs.declared.event.Numbered.{Numbered}
use Rattle.stab_journal.specs.Journal.{RiseFrom, step_at}
use Rattle.stab_journal.specs.Floor.{floor}
use Rattle.stab_journal.specs.Names.{has}
use Rattle.stab_journal.specs.Reached.{reached, rest}
use Rattle.stab_code.specs.Program.{ProgramParts}
use Rattle.language.specs.Plain.{PlainState}
use Rattle.language.specs.Standing.{StandsFor, nothing, step, undo, release, event}
use Rattle.image_laws.proofs.Behind.{AreUpTo, floor_append}

pub length_more : {A : Type 0} (es : List A) (e : A) → length (es ++ e ∷ []) ≡ length es + 1
length_more es e = length-append es (e ∷ [])

pub up_more : (b c : ℕ) (ns : List Numbered) → b ≤ c → AreUpTo b ns → AreUpTo c ns
up_more b c [] le up = tt
up_more b c (n ∷ ns) le up = (omega (arith, up.0), up_more b c ns le up.1)

pub up_last : (b : ℕ) (ns : List Numbered) (n : Numbered) → AreUpTo b ns → n.seq.0 ≤ b → AreUpTo b (ns ++ n ∷ [])
up_last b [] n up le = (le, tt)
up_last b (k ∷ ns) n up le = (up.0, up_last b ns n up.1 le)

pub up_rest : (gone : ℕ → _) (b : ℕ) (ns : List Numbered) → AreUpTo b ns → AreUpTo b (rest gone ns)
up_rest gone b [] up = tt
up_rest gone b (n ∷ ns) up = elim (gone n.seq.0) as (λ c. AreUpTo b (cond c (rest gone ns) (n ∷ rest gone ns))) [ true ↦ up_rest gone b ns up.1 | false ↦ (up.0, up_rest gone b ns up.1) ]

pub rise_sooner : (q : ℕ) (ns : List Numbered) (k : ℕ) → k ≤ q → RiseFrom q ns → RiseFrom k ns
rise_sooner q [] k le rise = tt
rise_sooner q (n ∷ ns) k le rise = (omega (arith, rise.0), rise.1)

pub rise_rest : (gone : ℕ → _) (q : ℕ) (ns : List Numbered) → RiseFrom q ns → RiseFrom q (rest gone ns)
rise_rest gone q [] rise = tt
rise_rest gone q (n ∷ ns) rise =
    elim (gone n.seq.0) as (λ b. RiseFrom q (cond b (rest gone ns) (n ∷ rest gone ns))) [
      | true ↦ rise_sooner (suc n.seq.0) (rest gone ns) q (omega (arith, rise.0)) (rise_rest gone (suc n.seq.0) ns rise.1)
      | false ↦ (rise.0, rise_rest gone (suc n.seq.0) ns rise.1)
    ]

pub rise_last : (q b : ℕ) (ns : List Numbered) (n : Numbered) → RiseFrom q ns → AreUpTo b ns → b + 1 ≡ n.seq.0 → q ≤ b + 1 → RiseFrom q (ns ++ n ∷ [])
rise_last q b [] n rise up at le = (omega arith, tt)
rise_last q b (k ∷ ns) n rise up at le = (rise.0, rise_last (suc k.seq.0) b ns n rise.1 up.1 at (omega (arith, up.0)))

pub up_to : (p : ProgramParts) (es : List Event) (run : List Numbered) (s : PlainState) → StandsFor p es run s → AreUpTo (length es) run
up_to p _ _ _ nothing = tt
up_to p _ _ _ (step {events = es} {run = run} {before = before} after worker label stands may is) =
    let more = length_more es (event worker (Step label)) in
    up_last _ run _ (up_more (length es) _ run (omega (arith, more)) (up_to p es run before stands)) (omega (arith, more))
up_to p _ _ _ (undo {events = es} {run = run} {before = before} after worker t m stands may is) =
    let more = length_more es (event worker (Undo (record { 0 = t }) (record { 0 = m }))) in
    up_rest (has (reached run m)) _ run (up_more (length es) _ run (omega (arith, more)) (up_to p es run before stands))
up_to p _ _ _ (release {events = es} {run = run} {state = state} worker k stands final more) =
    let one = length_more es (event worker (Release k)) in
    up_more (length es) _ run (omega (arith, one)) (up_to p es run state stands)

last_or : Event → List Event → Event
last_or d [] = d
last_or d (e ∷ es) = last_or e es

last_is : (d : Event) (es : List Event) (e : Event) → last_or d (es ++ e ∷ []) ≡ e
unfolding last_or
last_is d [] e = refl
last_is d (f ∷ es) e = last_is f es e

-- lists with one more at the end have the same one
last_same : (es fs : List Event) (e f : Event) → es ++ e ∷ [] ≡ fs ++ f ∷ [] → e ≡ f
last_same es fs e f h = sym (last_is e es e) ∙ ap (last_or e) h ∙ last_is e fs f

no_last : (fs : List Event) (f : Event) → [] ≡ fs ++ f ∷ [] → ⊥
no_last [] f h = cc
no_last (k ∷ fs) f h = cc

what_of : (e f : Event) → e ≡ f → e.what ≡ f.what
what_of e f h = ap (λ (k : Event). k.what) h

step_of : {k l : Label} → Step k ≡ Step l → k ≡ l
step_of h = cc

undo_no_step : (t : ThreadId) (m : _) (l : Label) → Undo t m ≡ Step l → ⊥
undo_no_step t m l h = cc

release_no_step : (k : ℕ) (l : Label) → Release k ≡ Step l → ⊥
release_no_step k l h = cc

-- the floor of a history that ends with a cut is that cut
pub cut_floor : (p : ProgramParts) (es : List Event) (run : List Numbered) (s : PlainState) → StandsFor p es run s → (before : List Event) (worker : ℕ) (t : ThreadId) → es ≡ before ++ event worker (Step (Cut t)) ∷ [] → floor run ≡ length es
cut_floor p _ _ _ nothing before worker t h = absurd (no_last before _ h)
cut_floor p _ _ _ (step {events = es} {run = run} after w label stands may is) before worker t h =
    let at : label ≡ Cut t = step_of (what_of _ _ (last_same es before _ _ h)) in
    floor_append 0 run (step_at (length es + 1) (Step label))
    ∙ ap (λ l. Rattle.stab_journal.specs.Floor.floor_from (floor run) (step_at (length es + 1) (Step l))) at
    ∙ sym (length_more es (event w (Step label)))
cut_floor p _ _ _ (undo {events = es} after w u m stands may is) before worker t h = absurd (undo_no_step _ _ _ (what_of _ _ (last_same es before _ _ h)))
cut_floor p _ _ _ (release {events = es} w k stands final more) before worker t h = absurd (release_no_step _ _ (what_of _ _ (last_same es before _ _ h)))
