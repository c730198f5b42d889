-- Whole drills.
use Rattle.std.specs.Prelude.{◌≡◌, ℕ, Bool, List, [], ◌∷◌, ◌++◌, Option, Some, None, if◌then◌else◌}
use Rattle.std.specs.FinMap as map
use Rattle.stab_code.specs.JobParts.{JobParts}
use Rattle.commit_book.specs.Book.{BookView, IsAtStart, IsShown}
use Rattle.drill_text.specs.declared.order.Order.{Order}
use Rattle.drill_text.specs.declared.order.Verb.{Verb}
use Rattle.drill_text.specs.declared.order.Verb.TheVariants.{Lease, Step, Commit}
use Rattle.drill_text.specs.declared.script.Line.{Line}
use Rattle.drill_text.specs.declared.fault.DrillFault.{DrillFault}
use Rattle.drill_text.specs.declared.fault.DrillFault.TheVariants.{BadLine, NoSuchLease, HeldTwice, NoMemory}
use Rattle.schedule_drill.specs.Out.{Out, all_given_back}
use Rattle.schedule_drill.specs.Played.{Stand, IsPlayed}

-- the line is played first, and what follows is so
pub record First (Follows : Stand → List ℕ → Type 0) (old : Stand) (line : Line) (text : List ℕ) : Type 0 where
  pub next : Stand
  pub written : List ℕ
  pub more : List ℕ
  pub played : IsPlayed old next line written
  pub shown : IsShown next.book
  pub follows : Follows next more
  pub text_is : text ≡ written ++ more

-- the lines are played one after another, and this is written; after each the book shows its history
abbrev pub ArePlayed : List Line → Stand → List ℕ → Stand → Type 0
ArePlayed [] old text new = (text ≡ []) × (new ≡ old)
ArePlayed (line ∷ lines) old text new = First (λ next more. ArePlayed lines next more new) old line text

-- why an order can't be obeyed, if it can't: a lease that is out isn't taken again, and one that isn't out is neither stepped
-- nor committed
abbrev pub refused : Bool → Verb → ℕ → Option DrillFault
refused out Lease at = if out then Some (HeldTwice at) else None
refused out Step at = if out then None else Some (NoSuchLease at)
refused out Commit at = if out then None else Some (NoSuchLease at)

-- why a line can't be played, if it can't
abbrev pub fault_in : Out → ℕ → Option Order → Option DrillFault
fault_in out at None = Some (BadLine at)
fault_in out at (Some order) = refused (map.contains_key out order.lease) order.verb at

abbrev pub fault_at : Out → Line → Option DrillFault
fault_at out line = fault_in out line.at line.order

-- why a line isn't played: memory is wanted, or it can't be
abbrev pub IsFaultOf : Out → Line → DrillFault → Type 0
IsFaultOf out line NoMemory = Unit {0}
IsFaultOf out line fault = fault_at out line ≡ Some fault

-- the script can't be played, however much memory there is
abbrev pub IsOfScript : DrillFault → Type 0
IsOfScript NoMemory = ⊥
IsOfScript fault = Unit {0}

-- the lines before one that can't be played were played
pub record StopsAt (old : Stand) (script : List Line) (fault : DrillFault) : Type 0 where
  pub before : List Line
  pub line : Line
  pub behind : List Line
  pub script_is : script ≡ before ++ line ∷ behind
  pub text : List ℕ
  pub last : Stand
  pub played : ArePlayed before old text last
  pub faulty : fault_at last.out line ≡ Some fault

-- why not all lines are played: memory is wanted, or one can't be
abbrev pub IsStopped : Stand → List Line → DrillFault → Type 0
IsStopped old script NoMemory = Unit {0}
IsStopped old script fault = StopsAt old script fault

-- a new book of the job, without leases that are out
pub record IsNew (job : JobParts) (s : Stand) : Type 0 where
  pub start : IsAtStart s.book
  pub of_job : s.book.job ≡ job
  pub out : s.out ≡ map.empty

-- the whole script was played on a new book; at the end the leases that are out were given back in the order of their numbers
pub record IsDrilled (job : JobParts) (script : List Line) (text : List ℕ) (book : BookView) : Type 0 where
  pub first : Stand
  pub last : Stand
  pub begins : IsNew job first
  pub played : ArePlayed script first text last
  pub left : book ≡ all_given_back last.book (map.values last.out)

-- why a script isn't played on a new book: memory is wanted, or a line can't be played
abbrev pub IsRefused : JobParts → List Line → DrillFault → Type 0
IsRefused job script NoMemory = Unit {0}
IsRefused job script fault = (first : Stand) × IsNew job first × StopsAt first script fault
