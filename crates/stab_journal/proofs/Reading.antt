-- What a journal's entries give when they are read from the front.
use Rattle.std.proofs.Common.{◌≡◌, ℕ, suc, ◌+◌, cond, List, [], ◌∷◌, ◌++◌, length, Some, refl, sym, ap, ◌∙◌, arith, add-zero, append_assoc, append-nil}
use Rattle.std.specs.Ordering.{nat_cmp}
use Rattle.std.specs.List.{slice_get}
use Rattle.std.specs.FinSet.{FinSet, contains, from_list}
use Rattle.stab_journal.specs.declared.event.Event.{Event}
use Rattle.stab_journal.specs.Entry.{Entry}
use Rattle.stab_journal.specs.declared.history.History.TheInside.{Inside}
use Rattle.stab_journal.specs.Entries.{events_in, kept_from}
use Rattle.stab_journal.specs.Journal.{step_at, survivors, survivors_from}
use Rattle.stab_journal.specs.Own.{own, own_at, own_from}
use Rattle.stab_journal.specs.View.{struck_from, journal_of}
use Rattle.stab_journal.proofs.Entries.{contains-struck}
use Rattle.stab_journal.proofs.Events.{next_place}

kept_are : (struck : FinSet nat_cmp) (q : ℕ) (es : List Entry) → ((i : ℕ) (e : Entry) → slice_get es i ≡ Some e → contains struck (q + i) ≡ e.struck) → kept_from q es ≡ survivors_from struck q (events_in es)
kept_are struck q [] there = refl
kept_are struck q (e ∷ es) there =
    let here : e.struck ≡ contains struck q = sym (ap (contains struck) (sym (add-zero q)) ∙ there 0 e refl) in
    ap (λ b. cond b [] (step_at q e.event.what) ++ kept_from (suc q) es) here
    ∙ ap (λ r. cond (contains struck q) [] (step_at q e.event.what) ++ r) (kept_are struck (suc q) es (λ i x at. ap (contains struck) (sym (next_place q i)) ∙ there (suc i) x at))

one_more : (i : ℕ) → 1 + i ≡ suc i
one_more i = omega arith

-- the steps of the entries that aren't struck are the survivors
pub kept-survivors : (a : Inside) → kept_from 1 a.entries.items ≡ survivors (journal_of a)
kept-survivors a =
    let struck : FinSet nat_cmp = from_list (struck_from 1 a.entries.items) in
    kept_are struck 1 a.entries.items (λ i e at. ap (contains struck) (one_more i) ∙ contains-struck a.entries.items i e at)

-- a worker's events among some and those after them
pub own_from-append : (w q : ℕ) (es fs : List Event) → own_from w q (es ++ fs) ≡ own_from w q es ++ own_from w (q + length es) fs
own_from-append w q [] fs = ap (λ n. own_from w n fs) (sym (add-zero q))
own_from-append w q (e ∷ es) fs =
    ap (λ r. own_at w q e ++ r) (own_from-append w (suc q) es fs)
    ∙ sym (append_assoc (own_at w q e) (own_from w (suc q) es) _)
    ∙ ap (λ n. (own_at w q e ++ own_from w (suc q) es) ++ own_from w n fs) (sym (next_place q (length es)))

next_number : (n : ℕ) → 1 + n ≡ n + 1
next_number n = omega arith

-- a worker's events and one more
pub own-push : (w : ℕ) (es : List Event) (e : Event) → own w (es ++ e ∷ []) ≡ own w es ++ own_at w (length es + 1) e
own-push w es e =
    own_from-append w 1 es (e ∷ [])
    ∙ ap (λ r. own w es ++ r) (append-nil _)
    ∙ ap (λ n. own w es ++ own_at w n e) (next_number (length es))
