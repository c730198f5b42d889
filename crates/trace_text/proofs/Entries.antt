-- The entries of a journal with one more event, struck or not.
use Rattle.std.proofs.Common.{◌≡◌, ℕ, zero, suc, ◌+◌, ◌-◌, ◌<◌, ◌≤◌, Bool, true, false, not, ◌||◌, ◌↔◌, Some, None, eqb, List, [], ◌∷◌, ◌++◌, length, IsSome, is_some, refl, sym, ap, subst, ◌∙◌, arith, add-zero}
use Rattle.std.specs.List.{slice_get}
use Rattle.std.specs.Option.{option_and_then}
use Rattle.std.specs.Ordering.{nat_cmp}
use Rattle.std.specs.FinSet.{FinSet, contains, insert}
use Rattle.std.proofs.lemmas.Bool.{eqb-true, eq-eqb}
use Rattle.stab_journal.specs.declared.event.Event.{Event}
use Rattle.stab_journal.specs.Journal.{Journal, IsLive, IsValid, label_at}
use Rattle.stab_journal.specs.Event.{label_of}
use Rattle.stab_journal.proofs.Events.{member_struck, next_not_struck, next_place}
use Rattle.trace_text.specs.declared.line.Entry.{Entry}
use Rattle.trace_text.specs.Text.{entries, entries_from}

abbrev pub entry : Event → Bool → Entry
entry e struck = record { event = e; struck = struck }

entries_from-push : (struck : FinSet nat_cmp) (q : ℕ) (es : List Event) (e : Event) → entries_from struck q (es ++ e ∷ []) ≡ entries_from struck q es ++ entry e (contains struck (q + length es)) ∷ []
entries_from-push struck q [] e = ap (λ n. entry e (contains struck n) ∷ []) (sym (add-zero q))
entries_from-push struck q (x ∷ es) e =
    ap (λ r. entry x (contains struck q) ∷ r) (entries_from-push struck (suc q) es e)
    ∙ ap (λ n. entry x (contains struck q) ∷ (entries_from struck (suc q) es ++ entry e (contains struck n) ∷ [])) (sym (next_place q (length es)))

other : (m q : ℕ) → q < m → eqb q m ≡ false
other m q less = elim (eqb q m) as (λ b. eqb q m ≡ b → b ≡ false) [ true ↦ λ same. absurd (omega (arith, eqb-true q m same)) | false ↦ λ _. refl ] refl

-- a strike behind these events changes none of them
entries_from-insert : (struck : FinSet nat_cmp) (m q : ℕ) (es : List Event) → q + length es ≤ m → entries_from (insert struck m) q es ≡ entries_from struck q es
entries_from-insert struck m q [] within = refl
entries_from-insert struck m q (e ∷ es) within =
    ap (λ b. entry e b ∷ entries_from (insert struck m) (suc q) es) (member_struck struck m q ∙ ap (λ b. b || contains struck q) (other m q (omega arith)))
    ∙ ap (λ r. entry e (contains struck q) ∷ r) (entries_from-insert struck m (suc q) es (omega arith))

last-label : (es : List Event) (e : Event) → label_at (es ++ e ∷ []) (suc (length es)) ≡ label_of e.what
last-label [] e = refl
last-label (x ∷ es) e = last-label es e

-- a journal behind a reserve and a push
pub was_pushed : (before reserved after : Journal) (e : Event) → after ≡ record reserved { events = reserved.events ++ e ∷ []; spare = reserved.spare - 1 } → reserved ≡ record before { spare = reserved.spare } → after ≡ record before { events = before.events ++ e ∷ []; spare = reserved.spare - 1 }
was_pushed before reserved after e push reserve =
    push ∙ ap (λ (r : Journal). record r { events = r.events ++ e ∷ []; spare = reserved.spare - 1 }) reserve

module _ (j : Journal) (e : Event) (spare : ℕ) (valid : IsValid j) where
  abbrev pub pushed : Journal
  pushed = record j { events = j.events ++ e ∷ []; spare = spare }

  one_more : 1 + length j.events ≡ suc (length j.events)
  one_more = omega arith

  pub entries-push : entries pushed ≡ entries j ++ entry e false ∷ []
  entries-push =
      entries_from-push j.struck 1 j.events e
      ∙ ap (λ n. entries j ++ entry e (contains j.struck n) ∷ []) one_more
      ∙ ap (λ b. entries j ++ entry e b ∷ []) (next_not_struck j valid)

  pub entries-struck : (q : ℕ) → q ≡ length j.events + 1 → entries (record pushed { struck = insert j.struck q }) ≡ entries j ++ entry e true ∷ []
  entries-struck q is =
      let at : 1 + length j.events ≡ q = omega arith in
      let itself : eqb q q ≡ true = eq-eqb q q refl in
      entries_from-push (insert j.struck q) 1 j.events e
      ∙ ap (λ r. r ++ entry e (contains (insert j.struck q) (1 + length j.events)) ∷ []) (entries_from-insert j.struck q 1 j.events (omega arith))
      ∙ ap (λ n. entries j ++ entry e (contains (insert j.struck q) n) ∷ []) at
      ∙ ap (λ b. entries j ++ entry e b ∷ []) (member_struck j.struck q q ∙ ap (λ b. b || contains j.struck q) itself)

  pub live-push : (q : ℕ) → q ≡ length j.events + 1 → IsSome (label_of e.what) → IsLive pushed q
  live-push q is step =
      let next : q ≡ suc (length j.events) = omega arith in
      subst (IsLive pushed) (sym next) (record { step = ap is_some (last-label j.events e) ∙ step; kept = next_not_struck j valid })

-- the entry at a place
pub entry-at : (struck : FinSet nat_cmp) (q : ℕ) (es : List Event) (i : ℕ) (e : Event) → slice_get es i ≡ Some e → slice_get (entries_from struck q es) i ≡ Some (entry e (contains struck (q + i)))
entry-at struck q [] i e at = cc
entry-at struck q (x ∷ es) zero e at = let same : x ≡ e = cc in ap (λ y. Some (entry y (contains struck q))) same ∙ ap (λ n. Some (entry e (contains struck n))) (sym (add-zero q))
entry-at struck q (x ∷ es) (suc i) e at = entry-at struck (suc q) es i e at ∙ ap (λ n. Some (entry e (contains struck n))) (sym (next_place q i))

module _ (j : Journal) (passed : ℕ) (e : Event) (at : slice_get j.events passed ≡ Some e) where
  label_is : label_at j.events (suc passed) ≡ label_of e.what
  label_is = ap (option_and_then (λ (x : Event). label_of x.what)) at

  next : 1 + passed ≡ suc passed
  next = omega arith

  here : (b : Bool) → contains j.struck (suc passed) ≡ b → slice_get (entries j) passed ≡ Some (entry e b)
  here b is = entry-at j.struck 1 j.events passed e at ∙ ap (λ n. Some (entry e (contains j.struck n))) next ∙ ap (λ c. Some (entry e c)) is

  step_struck : (live : Bool) → (live ≡ true) ↔ IsLive j (suc passed) → IsSome (label_of e.what) → contains j.struck (suc passed) ≡ not live
  step_struck true is some = (is.0 refl).kept
  step_struck false is some =
      elim (contains j.struck (suc passed)) as (λ b. contains j.struck (suc passed) ≡ b → b ≡ true) [
        | true ↦ λ _. refl
        | false ↦ λ kept. absurd (let live : false ≡ true = is.1 (record { step = ap is_some label_is ∙ some; kept = kept }) in cc)
      ] refl

  -- the entry behind so many others is a step that is struck where it isn't live
  pub step_entry : (live : Bool) → (live ≡ true) ↔ IsLive j (suc passed) → IsSome (label_of e.what) → slice_get (entries j) passed ≡ Some (entry e (not live))
  step_entry live is some = here (not live) (step_struck live is some)

  -- or no step
  pub other_entry : IsValid j → label_of e.what ≡ None → slice_get (entries j) passed ≡ Some (entry e false)
  other_entry valid none =
      here false (elim (contains j.struck (suc passed)) as (λ b. contains j.struck (suc passed) ≡ b → b ≡ false) [
        | true ↦ λ is. let some = valid.steps_only (suc passed) is in let nothing : is_some (label_at j.events (suc passed)) ≡ false = ap is_some (label_is ∙ none) in cc
        | false ↦ λ _. refl
      ] refl)
