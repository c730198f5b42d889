-- What stands behind the laws of books: each event was due where it came, and what is final or pinned stays.
use Rattle.std.proofs.Common.{◌≡◌, ℕ, suc, ◌+◌, ◌<◌, ◌≤◌, Bool, true, false, cond, not, ◌&&◌, ◌||◌, List, [], ◌∷◌, ◌++◌, length, Option, Some, None, refl, sym, ap, subst, ◌∙◌, append-nil, append_assoc, arith}
use Rattle.std.specs.Prelude.{IsSomeAnd, option_and_then, option_map}
use Rattle.std.specs.FinMap as map
use Rattle.std.proofs.lemmas.Bool.{and_parts, not-true}
use Rattle.stab_code.specs.Program.{ProgramParts}
use Rattle.stab_base.specs.declared.numbers.Seq.{Seq}
use Rattle.stab_base.specs.declared.numbers.ThreadId.{ThreadId}
use Rattle.stab_journal.specs.declared.event.Event.{Event}
use Rattle.stab_journal.specs.declared.event.Label.{Label}
use Rattle.stab_journal.specs.declared.event.Label.TheVariants.{Refuse}
use Rattle.stab_journal.specs.declared.event.Numbered.{Numbered}
use Rattle.stab_journal.specs.declared.event.What.{What}
use Rattle.stab_journal.specs.declared.event.What.TheVariants.{Step, Undo, Release}
use Rattle.stab_journal.specs.Dependence.{DependsOn, Reaches, itself, link, shares, writes, writes_what}
use Rattle.stab_journal.specs.Due.{final_prints}
use Rattle.stab_journal.specs.Floor.{floor, is_cut, is_pin, is_revocable}
use Rattle.stab_journal.specs.Journal.{RiseFrom, survivors}
use Rattle.stab_journal.specs.Names.{has, is_at, read}
use Rattle.stab_journal.specs.Reached.{reached, rest, without_reached}
use Rattle.stab_journal.specs.Surviving.{after_event, after_events, run_of}
use Rattle.language.specs.Expression.{Expr}
use Rattle.language.specs.Plain.{IsRun, PlainState, effect_of, language_of, look_in, plain_step, standing}
use Rattle.language.specs.Steps.{Effect, effect_in}
use Rattle.language.specs.Table.{Look, act, stabilizes, refuse_by}
use Rattle.language.specs.Standing.{StandsFor, MayStep, MayUndo, is_stabilize, nothing, step, undo, release, event}
use Rattle.journal_laws.proofs.Applying.{or_false}
use Rattle.journal_laws.proofs.Chains.{or_cases, or_right, chain_reached, reached_chain}
use Rattle.journal_laws.proofs.Held.{cuts_hold, pins_hold, entry_of, parts_of}
use Rattle.journal_laws.proofs.Numbers.{joined, rise_front}
use Rattle.journal_laws.proofs.Stepping.{step_of}
use Rattle.journal_laws.proofs.Undone.{stands_run}
use Rattle.commit_book.specs.Book.{BookView, IsShown}
use Rattle.commit_book.specs.Headline.{HasRun, StandsIn, IsGranted, IsRefused}
use Rattle.commit_book.proofs.Lawful.Firm.{floor_last, front_of, no_events, snoc_of}
use Rattle.commit_book.proofs.Keeping.Floors.{floor_below}
use Rattle.commit_book.proofs.Undoing.UndoneParts.{floor_rest}

-- ---- each event was due where it came

-- the language has the step
pub record IsMade (p : ProgramParts) (s : PlainState) (q : ℕ) (l : Label) : Type 0 where
  pub end : PlainState
  pub is : plain_step p s q l ≡ Some end

-- what an event asks of the events before it, their run and its end
abbrev MayCome : ProgramParts → List Event → List Numbered → PlainState → What → Type 0
MayCome p es run s (Step l) = MayStep es run s l × IsMade p s (length es + 1) l
MayCome p es run s (Undo t m) = MayUndo p run s t.0 m.0
MayCome p es run s (Release k) = k ≡ final_prints run

-- the state before an event, which was due there
pub record IsDueAfter (p : ProgramParts) (first : List Event) (what : What) : Type 0 where
  pub state : PlainState
  pub stands : StandsFor p first (run_of first) state
  pub may : MayCome p first (run_of first) state what

-- an event among the first ones and one more is the last one, or stands among the first
data IsWhere (es : List Event) (x : Event) (first : List Event) (e : Event) : Type 0 where
  last : es ≡ first → x ≡ e → IsWhere es x first e
  sooner : (between : List Event) → es ≡ first ++ e ∷ between → IsWhere es x first e

behind_one : (y f : Event) (ys : List Event) (x : Event) (fs : List Event) (e : Event) → y ≡ f → IsWhere ys x fs e → IsWhere (y ∷ ys) x (f ∷ fs) e
behind_one y f ys x fs e head (last is same) = last (ap (λ h. h ∷ ys) head ∙ ap (λ l. f ∷ l) is) same
behind_one y f ys x fs e head (sooner between is) = sooner between (ap (λ h. h ∷ ys) head ∙ ap (λ l. f ∷ l) is)

where_is : (es : List Event) (x : Event) (first : List Event) (e : Event) (after : List Event) → es ++ x ∷ [] ≡ first ++ e ∷ after → IsWhere es x first e
where_is [] x [] e after cut = last refl (cc)
where_is [] x (f ∷ fs) e after cut = absurd (no_events fs e after (cc))
where_is (y ∷ ys) x [] e after cut = let head : y ≡ e = cc in sooner ys (ap (λ h. h ∷ ys) head)
where_is (y ∷ ys) x (f ∷ fs) e after cut = let head : y ≡ f = cc in behind_one y f ys x fs e head (where_is ys x fs e after (cc))

module _ (p : ProgramParts) where
  due_there : (es : List Event) (run : List Numbered) (s : PlainState) (x : Event) → StandsFor p es run s → MayCome p es run s x.what → (first : List Event) (e : Event)
      → ((between : List Event) → es ≡ first ++ e ∷ between → IsDueAfter p first e.what) → IsWhere es x first e → IsDueAfter p first e.what
  due_there es run s x stands may first e among (sooner between is) = among between is
  due_there es run s x stands may first e among (last front same) =
      let runs : run ≡ run_of first = (stands_run p es run s stands).0 ∙ ap run_of front in
      record {
        state = s;
        stands = subst (λ (r : List Numbered). StandsFor p first r s) runs (subst (λ (l : List Event). StandsFor p l run s) front stands);
        may = subst (λ (y : Event). MayCome p first (run_of first) s y.what) same (subst (λ (r : List Numbered). MayCome p first r s x.what) runs (subst (λ (l : List Event). MayCome p l run s x.what) front may));
      }

  pub due_after : (es : List Event) (run : List Numbered) (s : PlainState) → StandsFor p es run s → (first : List Event) (e : Event) (after : List Event) → es ≡ first ++ e ∷ after → IsDueAfter p first e.what
  due_after _ _ _ nothing first e after cut = absurd (no_events first e after cut)
  due_after _ _ _ (step {events = es} {run = run} {before = s} end worker label stands may made) first e after cut =
      due_there es run s (event worker (Step label)) stands (may, record { end = end; is = made }) first e (λ between is. due_after es run s stands first e between is) (where_is es _ first e after cut)
  due_after _ _ _ (undo {events = es} {run = run} {before = s} end worker t m stands may ends) first e after cut =
      due_there es run s (event worker (Undo (record { 0 = t }) (record { 0 = m }))) stands may first e (λ between is. due_after es run s stands first e between is) (where_is es _ first e after cut)
  due_after _ _ _ (release {events = es} {run = run} {state = s} worker k stands final more) first e after cut =
      due_there es run s (event worker (Release k)) stands final first e (λ between is. due_after es run s stands first e between is) (where_is es _ first e after cut)

-- ---- what steps and undos keep stays, however the history goes on

pub record IsKeptOn (K : List Numbered → Type 0) : Type 0 where
  pub step : (run : List Numbered) (n : Numbered) → RiseFrom 1 (run ++ n ∷ []) → K run → K (run ++ n ∷ [])
  pub undo : (run : List Numbered) (m : ℕ) → RiseFrom 1 run → is_revocable run m ≡ true → K run → K (without_reached m run)

module _ (p : ProgramParts) (K : List Numbered → Type 0) (kept : IsKeptOn K) (first : List Event) (has_it : K (run_of first)) where
  pub lasts : (es : List Event) (run : List Numbered) (s : PlainState) → StandsFor p es run s → (more : List Event) → es ≡ first ++ more → K run
  lasts es run s stands [] is = subst K (ap run_of (sym (append-nil first) ∙ sym is) ∙ sym (stands_run p es run s stands).0) has_it
  lasts _ _ _ nothing (x ∷ xs) is = absurd (no_events first x xs is)
  lasts _ _ _ (step {events = es} {run = run} {before = s} end worker label stands may made) (x ∷ xs) is =
      kept.step run (record { seq = record { 0 = length es + 1 }; label = label }) (stands_run p _ _ end (step end worker label stands may made)).1.rises
      (lasts es run s stands (snoc_of x xs).front (front_of es first _ x xs is))
  lasts _ _ _ (undo {events = es} {run = run} {before = s} end worker t m stands may ends) (x ∷ xs) is =
      kept.undo run m (stands_run p es run s stands).1.rises may.revocable (lasts es run s stands (snoc_of x xs).front (front_of es first _ x xs is))
  lasts _ _ _ (release {events = es} {run = run} {state = s} worker k stands final more) (x ∷ xs) is = lasts es run s stands (snoc_of x xs).front (front_of es first _ x xs is)

-- ---- a step that doesn't go

module _ (gone : ℕ → Bool) where
  rest_append : (ms ns : List Numbered) → rest gone (ms ++ ns) ≡ rest gone ms ++ rest gone ns
  rest_append [] ns = refl
  rest_append (m ∷ ms) ns =
      elim (gone m.seq.0) as (λ b. cond b (rest gone (ms ++ ns)) (m ∷ rest gone (ms ++ ns)) ≡ cond b (rest gone ms) (m ∷ rest gone ms) ++ rest gone ns) [
        | true ↦ rest_append ms ns
        | false ↦ ap (λ l. m ∷ l) (rest_append ms ns)
      ]

  rest_head : (n : Numbered) (ns : List Numbered) → gone n.seq.0 ≡ false → rest gone (n ∷ ns) ≡ n ∷ rest gone ns
  rest_head n ns stays = ap (λ b. cond b (rest gone ns) (n ∷ rest gone ns)) stays

  rest_there : (before : List Numbered) (n : Numbered) (after : List Numbered) → gone n.seq.0 ≡ false → rest gone (before ++ n ∷ after) ≡ rest gone before ++ n ∷ rest gone after
  rest_there before n after stays = rest_append before (n ∷ after) ∙ ap (λ l. rest gone before ++ l) (rest_head n after stays)

  there : (run : List Numbered) (n : Numbered) → gone n.seq.0 ≡ false → StandsIn run n → StandsIn (rest gone run) n
  there run n stays at = record { before = rest gone at.before; after = rest gone at.after; is = ap (rest gone) at.is ∙ rest_there at.before n at.after stays }

  fewer_writes : (r : ℕ) (ns : List Numbered) → writes r ns ≡ false → writes r (rest gone ns) ≡ false
  fewer_writes r [] none = refl
  fewer_writes r (n ∷ ns) none =
      let parts = or_false (is_at _ r) (writes r ns) none in
      elim (gone n.seq.0) as (λ b. writes r (cond b (rest gone ns) (n ∷ rest gone ns)) ≡ false) [
        | true ↦ fewer_writes r ns parts.1
        | false ↦ ap (λ b. b || writes r (rest gone ns)) parts.0 ∙ fewer_writes r ns parts.1
      ]

  wrote_still : (e : Label) (between : List Numbered) (o : Option ℕ) → writes_what e between o ≡ true → writes_what e (rest gone between) o ≡ true
  wrote_still e between None is = is
  wrote_still e between (Some r) is =
      let parts = and_parts _ (not (writes r between)) is in
      ap (λ b. b && not (writes r (rest gone between))) parts.0 ∙ ap not (fewer_writes r between (not-true (writes r between) parts.1))

  depends_still : (run : List Numbered) (e f : Numbered) → gone e.seq.0 ≡ false → gone f.seq.0 ≡ false → DependsOn run e f → DependsOn (rest gone run) e f
  depends_still run e f stays_e stays_f d = record {
    before = rest gone d.before;
    between = rest gone d.between;
    after = rest gone d.after;
    is = ap (rest gone) d.is ∙ rest_there d.before e (d.between ++ f ∷ d.after) stays_e ∙ ap (λ l. rest gone d.before ++ e ∷ l) (rest_there d.between f d.after stays_f);
    how = or_cases (shares e.label f.label) (writes_what e.label d.between (read f.label)) _
        (λ shared. ap (λ b. b || writes_what e.label (rest gone d.between) (read f.label)) shared)
        (λ wrote. or_right (shares e.label f.label) _ (wrote_still e.label d.between (read f.label) wrote))
        d.how;
  }

stands_more : (run more : List Numbered) (n : Numbered) → StandsIn run n → StandsIn (run ++ more) n
stands_more run more n at = record { before = at.before; after = at.after ++ more; is = ap (λ l. l ++ more) at.is ∙ append_assoc at.before (n ∷ at.after) more }

-- ---- no step that stands before a cut goes

pub record IsFinal (n : Numbered) (run : List Numbered) : Type 0 where
  pub at : StandsIn run n
  pub low : n.seq.0 ≤ floor run

floor_up : (run : List Numbered) (n : Numbered) → RiseFrom 1 (run ++ n ∷ []) → floor run ≤ floor (run ++ n ∷ [])
floor_up run n rise =
    let first : 1 ≤ n.seq.0 = rise_front 1 run n [] rise in
    let above : floor run < n.seq.0 = floor_below 0 1 run n (omega (arith, first)) rise in
    subst (λ k. floor run ≤ k) (sym (floor_last 0 run n)) (elim (is_cut n.label) as (λ b. floor run ≤ cond b n.seq.0 (floor run)) [ true ↦ omega (arith, above) | false ↦ omega arith ])

final_stays : (n : Numbered) (run : List Numbered) (m : ℕ) → RiseFrom 1 run → is_revocable run m ≡ true → n.seq.0 ≤ floor run → has (reached run m) n.seq.0 ≡ false
final_stays n run m rise may low =
    elim (has (reached run m) n.seq.0) as (λ b. has (reached run m) n.seq.0 ≡ b → b ≡ false) [
      | true ↦ λ goes. let over : floor run < n.seq.0 = cuts_hold run m n.seq.0 rise may goes in absurd (omega (arith, over, low))
      | false ↦ λ stays. refl
    ] refl

pub final_kept : (n : Numbered) → IsKeptOn (IsFinal n)
final_kept n = record {
  step = λ run k rise is. record { at = stands_more run (k ∷ []) n is.at; low = (let up : floor run ≤ floor (run ++ k ∷ []) = floor_up run k rise in let low : n.seq.0 ≤ floor run = is.low in omega (arith, up, low)) };
  undo = λ run m rise may is. record {
    at = there (has (reached run m)) run n (final_stays n run m rise may is.low) is.at;
    low = subst (λ k. n.seq.0 ≤ k) (sym (floor_rest (has (reached run m)) run 0 1 rise (λ k goes. cuts_hold run m k rise may goes))) is.low;
  };
}

-- ---- no step on which a pin depends goes

pub record IsPinned (n pin : Numbered) (run : List Numbered) : Type 0 where
  pub at : StandsIn run n
  pub chain : Reaches run n.seq.0 pin

longer : (run more : List Numbered) (m : ℕ) (f : Numbered) → Reaches run m f → Reaches (run ++ more) m f
longer run more m _ (itself before n after cut at) = itself before n (after ++ more) (ap (λ l. l ++ more) cut ∙ append_assoc before (n ∷ after) more) at
longer run more m _ (link e f chain d) = link e f (longer run more m e chain) (record {
  before = d.before;
  between = d.between;
  after = d.after ++ more;
  is = ap (λ l. l ++ more) d.is ∙ append_assoc d.before (e ∷ (d.between ++ f ∷ d.after)) more ∙ ap (λ l. d.before ++ e ∷ l) (append_assoc d.between (f ∷ d.after) more);
  how = d.how;
})

module _ (run : List Numbered) (m : ℕ) (rise : RiseFrom 1 run) (may : is_revocable run m ≡ true) (pin : Numbered) (pins : is_pin pin.label ≡ true) where
  chain_stays : (k : ℕ) (f : Numbered) → Reaches run k f → Reaches run f.seq.0 pin → Reaches (without_reached m run) k f
  chain_stays k _ (itself before f after cut at) tail =
      let stays : has (reached run m) f.seq.0 ≡ false = pins_hold run m rise may before f after cut pin pins tail in
      itself (rest (has (reached run m)) before) f (rest (has (reached run m)) after) (ap (rest (has (reached run m))) cut ∙ rest_there (has (reached run m)) before f after stays) at
  chain_stays k _ (link e f chain d) tail =
      let cut_f : run ≡ (d.before ++ e ∷ d.between) ++ f ∷ d.after = d.is ∙ sym (append_assoc d.before (e ∷ d.between) (f ∷ d.after)) in
      let one : Reaches run e.seq.0 f = link e f (itself d.before e (d.between ++ f ∷ d.after) d.is refl) d in
      let whole : Reaches run e.seq.0 pin = joined run 1 e.seq.0 rise (d.before ++ e ∷ d.between) f d.after cut_f one pin tail in
      let stays_e = pins_hold run m rise may d.before e (d.between ++ f ∷ d.after) d.is pin pins whole in
      let stays_f = pins_hold run m rise may (d.before ++ e ∷ d.between) f d.after cut_f pin pins tail in
      link e f (chain_stays k e chain whole) (depends_still (has (reached run m)) run e f stays_e stays_f d)

pin_itself : (run : List Numbered) (k : ℕ) (pin : Numbered) → Reaches run k pin → Reaches run pin.seq.0 pin
pin_itself run k _ (itself before pin after cut at) = itself before pin after cut refl
pin_itself run k _ (link e pin chain d) = itself (d.before ++ e ∷ d.between) pin d.after (d.is ∙ sym (append_assoc d.before (e ∷ d.between) (pin ∷ d.after))) refl

pub pinned_kept : (n pin : Numbered) → is_pin pin.label ≡ true → IsKeptOn (IsPinned n pin)
pinned_kept n pin pins = record {
  step = λ run k rise is. record { at = stands_more run (k ∷ []) n is.at; chain = longer run (k ∷ []) n.seq.0 pin is.chain };
  undo = λ run m rise may is. record {
    at = there (has (reached run m)) run n (pins_hold run m rise may is.at.before n is.at.after is.at.is pin pins is.chain) is.at;
    chain = chain_stays run m rise may pin pins n.seq.0 pin is.chain (pin_itself run n.seq.0 pin is.chain);
  };
}

-- ---- what an undo takes

-- one event more
after_last : (q : ℕ) (run : List Numbered) (es : List Event) (e : Event) → after_events q run (es ++ e ∷ []) ≡ after_event (q + length es) e.what (after_events q run es)
after_last q run [] e = ap (λ k. after_event k e.what run) (omega arith)
after_last q run (f ∷ es) e = after_last (suc q) (after_event q f.what run) es e ∙ ap (λ k. after_event k e.what (after_events (suc q) (after_event q f.what run) es)) (omega arith)

entry_goes : (run : List Numbered) (m : ℕ) → RiseFrom 1 run → is_revocable run m ≡ true → has (reached run m) m ≡ true
entry_goes run m rise may =
    let e = entry_of m run (parts_of run m may).entered in
    ap (has (reached run m)) e.at ∙ chain_reached run m 1 rise e.n (itself e.place.before e.n e.place.after e.place.is e.at)

pub granted : (p : ProgramParts) (es : List Event) (run : List Numbered) (s : PlainState) → StandsFor p es run s → (first after : List Event) (worker : ℕ) (t : ThreadId) (m : Seq) → es ≡ first ++ event worker (Undo t m) ∷ after → IsGranted p first worker t m
granted p es run s stands first after worker t m cut =
    let due = due_after p es run s stands first (event worker (Undo t m)) after cut in
    let ran = (stands_run p first (run_of first) due.state due.stands).1 in
    record {
      state = due.state;
      stands = due.stands;
      may = due.may;
      left = after_last 1 [] first (event worker (Undo t m));
      entry = entry_goes (run_of first) m.0 ran.rises due.may.revocable;
      gone = λ n at. (reached_chain (run_of first) m.0 1 ran.rises at.before n at.after at.is, chain_reached (run_of first) m.0 1 ran.rises n);
    }

-- where a refusal is a step, its thread stands at stabilize
module _ (p : ProgramParts) where
  refusal_at : (x : Look Expr) (e : Effect Expr) → refuse_by (language_of p) x ≡ Some e → is_stabilize x ≡ true
  refusal_at (act stabilizes) e is = refl
  refusal_at _ e is = absurd (cc)

  refused_by : (s : PlainState) (q : ℕ) (t : ThreadId) (o : Option Expr) → map.get s.threads t.0 ≡ o
      → effect_in (effect_of p) s q (Refuse t) ≡ option_and_then (λ es. effect_of p q (Refuse t) es None) (option_and_then (λ x. option_map (λ es. x ∷ es) (Some [])) o)
  refused_by s q t o there = ap (λ x. option_and_then (λ es. effect_of p q (Refuse t) es None) (option_and_then (λ x. option_map (λ es. x ∷ es) (Some [])) x)) there

  at_there : (o : Option Expr) (s : PlainState) (q : ℕ) (t : ThreadId) (e : Effect Expr) → map.get s.threads t.0 ≡ o → effect_in (effect_of p) s q (Refuse t) ≡ Some e → IsSomeAnd o (λ x. is_stabilize (look_in p x) ≡ true)
  at_there None s q t e there found =
      let none : None ≡ Some e = sym (refused_by s q t None there) ∙ found in
      absurd (cc)
  at_there (Some x) s q t e there found = refusal_at (look_in p x) e (sym (refused_by s q t (Some x) there) ∙ found)

  at_stabilize : (s : PlainState) (q : ℕ) (t : ThreadId) (end : PlainState) → plain_step p s q (Refuse t) ≡ Some end → IsSomeAnd (standing s t.0) (λ x. is_stabilize (look_in p x) ≡ true)
  at_stabilize s q t end made =
      let st = step_of (effect_of p) s q (Refuse t) end made in
      at_there (map.get s.threads t.0) s q t st.eff refl st.found

pub refused : (p : ProgramParts) (es : List Event) (run : List Numbered) (s : PlainState) → StandsFor p es run s → (first after : List Event) (worker : ℕ) (t : ThreadId) → es ≡ first ++ event worker (Step (Refuse t)) ∷ after → IsRefused p first t
refused p es run s stands first after worker t cut =
    let due = due_after p es run s stands first (event worker (Step (Refuse t))) after cut in
    let made = due.may.1 in
    record { state = due.state; stands = due.stands; at = at_stabilize p due.state (length first + 1) t made.end made.is; due = due.may.0 }

-- ---- of every book

module _ (b : BookView) (shown : IsShown b) where
  pub has_run : HasRun b
  has_run =
      let journal = shown.shows.journal in
      let ran = stands_run b.job.program b.history.events shown.run shown.state journal.history.stands in
      record {
        end = shown.state;
        left = journal.history.left ∙ ran.0;
        stands = subst (λ (r : List Numbered). StandsFor b.job.program b.history.events r shown.state) ran.0 journal.history.stands;
        run = subst (λ (r : List Numbered). IsRun b.job.program r shown.state) (sym journal.history.left) ran.1;
        script = journal.script;
        threads = shown.shows.threads.threads;
        channels = journal.channels;
        references = journal.references;
        output = journal.printed;
      }

  pub final_lasts : (first after : List Event) → b.history.events ≡ first ++ after → (n : Numbered) → StandsIn (run_of first) n → n.seq.0 ≤ floor (run_of first) → StandsIn (survivors b.history) n
  final_lasts first after cut n at low =
      let history = shown.shows.journal.history in
      let last = lasts b.job.program (IsFinal n) (final_kept n) first (record { at = at; low = low }) b.history.events shown.run shown.state history.stands after cut in
      subst (λ (r : List Numbered). StandsIn r n) (sym history.left) last.at

  pub pinned_lasts : (first after : List Event) → b.history.events ≡ first ++ after → (n pin : Numbered) → StandsIn (run_of first) n → is_pin pin.label ≡ true → Reaches (run_of first) n.seq.0 pin → StandsIn (survivors b.history) n
  pinned_lasts first after cut n pin at pins chain =
      let history = shown.shows.journal.history in
      let last = lasts b.job.program (IsPinned n pin) (pinned_kept n pin pins) first (record { at = at; chain = chain }) b.history.events shown.run shown.state history.stands after cut in
      subst (λ (r : List Numbered). StandsIn r n) (sym history.left) last.at
