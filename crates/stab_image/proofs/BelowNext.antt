-- The numbers of a history's state are below the next ones, and no thread was put back more often than there are events.
use Rattle.std.proofs.Common.{◌≡◌, ℕ, zero, suc, ◌+◌, ◌≤◌, true, false, cond, max, fold, List, [], ◌∷◌, length, refl, sym, ap, subst, ◌∙◌, arith}
use Rattle.std.specs.Prelude.{Option, Some, None, IfSome, is_some, unwrap_or, nat_eq}
use Rattle.std.specs.List.{AllByRecursion, flat_map}
use Rattle.std.specs.Ordering.{nat_cmp}
use Rattle.std.specs.FinMap as map
use Rattle.std.specs.FinSet as set
use Rattle.std.proofs.lemmas.Bool.{false≢true, eqb-true}
use Rattle.std.proofs.lemmas.List.Sums.{fold-append}
use Rattle.stab_journal.specs.declared.event.Event.{Event}
use Rattle.stab_journal.specs.declared.event.Label.{Label}
use Rattle.stab_journal.specs.declared.event.Label.TheVariants.{Local, Spawn, NewChan, Comm, NewRef, Get, Set, Enter, Cut, Print, Probe, Refuse, Pin, Attempt}
use Rattle.stab_journal.specs.declared.event.Numbered.{Numbered}
use Rattle.stab_journal.specs.declared.event.What.{What}
use Rattle.stab_journal.specs.declared.event.What.TheVariants.{Step, Undo, Release}
use Rattle.stab_journal.specs.Event.{AreEvents, IsLabel, label_of}
use Rattle.stab_journal.specs.Generation.{generation, generation_from, puts_back}
use Rattle.stab_journal.specs.Journal.{label_at}
use Rattle.stab_journal.specs.Numbers.{chans_in, greatest, named_by, refs_in, threads_by}
use Rattle.stab_journal.specs.Surviving.{after_event}
use Rattle.stab_code.specs.Program.{ProgramParts}
use Rattle.language.specs.Expression.{Expr}
use Rattle.language.specs.Outcome.{called}
use Rattle.language.specs.Plain.{PlainState, start}
use Rattle.language.specs.Program.{body}
use Rattle.language.specs.Standing.{StandsFor}
use Rattle.language.proofs.Applying.{get_inserted}
use Rattle.journal_laws.proofs.Undone.{stands_run}
use Rattle.trace_verify.proofs.Judging.{steps_of}
use Rattle.image_run.specs.declared.next.Next.{Next}
use Rattle.image_run.specs.Next.{AreBelowNext, IsMadeBelow}
use Rattle.image_run.proofs.Names.{all_below}
use Rattle.stab_image.proofs.Cutting.{label_in}

-- numbers are no greater than the greatest
fold_up : (g : ℕ) (xs : List ℕ) → g ≤ fold max g xs
fold_up g [] = omega arith
fold_up g (x ∷ xs) = omega (arith, fold_up (max g x) xs)

-- what a step of the events names is no greater than the greatest that they name
module _ (names : What → List ℕ) (c : ℕ) (l : Label) (h : (g : ℕ) → c ≤ fold max g (names (Step l))) where
  of_what : (w : What) → label_of w ≡ Some l → names w ≡ names (Step l)
  of_what (Step m) is = let same : m ≡ l = cc in ap (λ x. names (Step x)) same
  of_what (Undo t m) is = absurd (let no : None ≡ Some l = is in cc)
  of_what (Release n) is = absurd (let no : None ≡ Some l = is in cc)

  named_up : (es : List Event) (k g : ℕ) → label_at es k ≡ Some l → c ≤ fold max g (flat_map (λ (e : Event). names e.what) es)
  named_up es zero g at = absurd (let no : None ≡ Some l = at in cc)
  named_up [] (suc k) g at = absurd (let no : None ≡ Some l = at in cc)
  named_up (e ∷ es) (suc (suc k)) g at =
      let later = named_up es (suc k) (fold max g (names e.what)) at in
      subst (λ n. c ≤ n) (sym (fold-append max g (names e.what) (flat_map (λ (x : Event). names x.what) es))) later
  named_up (e ∷ es) (suc zero) g at =
      let rest = flat_map (λ (x : Event). names x.what) es in
      subst (λ n. c ≤ n) (sym (fold-append max g (names e.what) rest ∙ ap (λ (xs : List ℕ). fold max (fold max g xs) rest) (of_what e.what at)))
      (omega (arith, h g, fold_up (fold max g (names (Step l))) rest))

module _ (n : Next) (es : List Event) (ts : n.thread ≡ max 1 (greatest threads_by es) + 1) (cs : n.chan ≡ greatest (named_by chans_in) es + 1) (rs : n.reference ≡ greatest (named_by refs_in) es + 1) where
  -- what a step of the events makes is below the next number
  made_below : (k : ℕ) (l : Label) → AreEvents 1 es → label_at es k ≡ Some l → IsMadeBelow n l
  made_below k l all at = by l at (label_in 1 es k l all at)
    where
      by : (m : Label) → label_at es k ≡ Some m → IsLabel m → IsMadeBelow n m
      by (Spawn t u) is h = (omega (arith, h.1.0), omega (arith, ts, named_up threads_by u.0 (Spawn t u) (λ g. omega arith) es k 0 is))
      by (NewChan t c) is h = omega (arith, cs, named_up (named_by chans_in) c.0 (NewChan t c) (λ g. omega arith) es k 0 is)
      by (NewRef t r) is h = omega (arith, rs, named_up (named_by refs_in) r.0 (NewRef t r) (λ g. omega arith) es k 0 is)
      by (Local t m) is h = tt
      by (Comm s r c) is h = tt
      by (Get t r) is h = tt
      by (Set t r) is h = tt
      by (Enter t) is h = tt
      by (Cut t) is h = tt
      by (Print t) is h = tt
      by (Probe t i) is h = tt
      by (Refuse t) is h = tt
      by (Pin t) is h = tt
      by (Attempt t g) is h = tt

  each_below : (ns : List Numbered) → AreEvents 1 es → AllByRecursion (λ (m : Numbered). label_at es m.seq.0 ≡ Some m.label) ns → AllByRecursion (λ (m : Numbered). IsMadeBelow n m.label) ns
  each_below [] all h = tt
  each_below (m ∷ ns) all h = (made_below m.seq.0 m.label all h.0, each_below ns all h.1)

  first_thread : (t : ℕ) (e : Expr) → is_some (cond (nat_eq t 1) (Some e) None) ≡ true → t ≡ 1
  first_thread t e h = elim (nat_eq t 1) as (λ b. nat_eq t 1 ≡ b → is_some (cond b (Some e) None) ≡ true → t ≡ 1) [
    | true ↦ λ is some. eqb-true t 1 is
    | false ↦ λ is some. absurd (false≢true some)
  ] refl h

  start_below : (p : ProgramParts) → AreBelowNext n (start p)
  start_below p = record {
    threads = λ t there.
        let one = first_thread t (called (body p) p.main.0 []) (sym (ap is_some (get_inserted map.empty 1 (called (body p) p.main.0 []) t ∙ ap (λ (o : Option Expr). cond (nat_eq t 1) (Some (called (body p) p.main.0 [])) o) (map.get-empty nat_cmp t))) ∙ there) in
        (omega (arith, one), omega (arith, one, ts));
    channels = λ c there. absurd (false≢true (sym (set.contains-empty nat_cmp c) ∙ there));
    references = λ r there. absurd (false≢true (sym (ap is_some (map.get-empty nat_cmp r)) ∙ there));
  }

  pub state_below : (p : ProgramParts) (run : List Numbered) (s : PlainState) → AreEvents 1 es → StandsFor p es run s → AreBelowNext n s
  state_below p run s all stands =
      let ends = (stands_run p es run s stands).1.ends in
      all_below p n run (start p) s (start_below p) (each_below run all (steps_of p es run s stands).labels) ends

few_from : (t q : ℕ) (run : List Numbered) (es : List Event) (g : ℕ) → generation_from t q run es g ≤ g + length es
few_from t q run [] g = omega arith
few_from t q run (e ∷ es) g =
    elim (puts_back t e.what run) as (λ b. generation_from t (suc q) (after_event q e.what run) es (cond b (suc g) g) ≤ g + suc (length es)) [
      | true ↦ omega (arith, few_from t (suc q) (after_event q e.what run) es (suc g))
      | false ↦ omega (arith, few_from t (suc q) (after_event q e.what run) es g)
    ]

pub put_back_few : (t : ℕ) (es : List Event) → generation t es ≤ length es
put_back_few t es = omega (arith, few_from t 1 [] es 0)

-- what is found for a thread is how often it was put back, or nothing
pub found_few : (o : Option Expr) (g : Option ℕ) (times most : ℕ) → IfSome o (λ e. g ≡ Some times) → (o ≡ None → g ≡ None) → times ≤ most → unwrap_or g 0 ≤ most
found_few (Some e) g times most each only le = omega (arith, ap (λ (x : Option ℕ). unwrap_or x 0) each)
found_few None g times most each only le = omega (arith, ap (λ (x : Option ℕ). unwrap_or x 0) (only refl))
