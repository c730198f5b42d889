-- The cuts of the events so far.
use Rattle.std.proofs.Common.{◌≡◌, ℕ, ◌+◌, Bool, true, cond, List, [], ◌∷◌, take, refl, ap, ◌∙◌, arith}
use Rattle.std.specs.Prelude.{Some, slice_get}
use Rattle.std.proofs.lemmas.Bool.{false≢true}
use Rattle.std.proofs.lemmas.List.Sums.{sum_by-append}
use Rattle.stab_base.specs.declared.numbers.ThreadId.{ThreadId}
use Rattle.stab_journal.specs.declared.event.Event.{Event}
use Rattle.stab_journal.specs.declared.event.Label.TheVariants.{Local, Spawn, NewChan, Comm, NewRef, Get, Set, Enter, Cut, Print, Probe, Refuse, Pin, Attempt}
use Rattle.stab_journal.specs.declared.event.What.{What}
use Rattle.stab_journal.specs.declared.event.What.TheVariants.{Step, Undo, Release}
use Rattle.trace_verify.proofs.Judging.{one_more}
use Rattle.image_commands.specs.Cuts.{cuts_in, is_cut}

abbrev pub one : Bool → ℕ
one b = cond b 1 0

-- one event more
pub one_counted : (es : List Event) (i : ℕ) (e : Event) → slice_get es i ≡ Some e → cuts_in (take (i + 1) es) ≡ cuts_in (take i es) + one (is_cut e.what)
one_counted es i e at =
    ap cuts_in (one_more es i e at) ∙ sum_by-append (λ (x : Event). one (is_cut x.what)) (take i es) (e ∷ [])
    ∙ ap (λ (k : ℕ). cuts_in (take i es) + k) (let single : cuts_in (e ∷ []) ≡ one (is_cut e.what) = omega arith in single)

-- what is a cut is one of a thread
pub cut_of : (w : What) → is_cut w ≡ true → (t : ThreadId) × (w ≡ Step (Cut t))
cut_of (Step (Cut t)) is = (t, refl)
cut_of (Step (Local t n)) is = absurd (false≢true is)
cut_of (Step (Spawn t u)) is = absurd (false≢true is)
cut_of (Step (NewChan t c)) is = absurd (false≢true is)
cut_of (Step (Comm s r c)) is = absurd (false≢true is)
cut_of (Step (NewRef t r)) is = absurd (false≢true is)
cut_of (Step (Get t r)) is = absurd (false≢true is)
cut_of (Step (Set t r)) is = absurd (false≢true is)
cut_of (Step (Enter t)) is = absurd (false≢true is)
cut_of (Step (Print t)) is = absurd (false≢true is)
cut_of (Step (Probe t i)) is = absurd (false≢true is)
cut_of (Step (Refuse t)) is = absurd (false≢true is)
cut_of (Step (Pin t)) is = absurd (false≢true is)
cut_of (Step (Attempt t g)) is = absurd (false≢true is)
cut_of (Undo t m) is = absurd (false≢true is)
cut_of (Release k) is = absurd (false≢true is)
