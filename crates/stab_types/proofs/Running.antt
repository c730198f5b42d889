-- The types of expressions in a run.
use Rattle.std.proofs.Common.{◌≡◌, ℕ, List, [], ◌∷◌, Option, Some, None}
use Rattle.stab_base.specs.Datum.{Datum}
use Rattle.stab_base.specs.declared.numbers.Seq.{Seq}
use Rattle.stab_code.specs.declared.head.Head as code
use Rattle.stab_code.specs.declared.head.Head.TheVariants as code_head
use Rattle.stab_code.specs.Program.{FunctionParts}
use Rattle.language.specs.declared.head.Head.{Head}
use Rattle.language.specs.declared.head.Head.TheVariants.{Block, If, Two, Not, Neg, Pair, Fst, Snd, Call, Spawn, Stable, NewChan, NewRef, Get, Set, Send, Recv, Pick, Stabilize, Cut, Pin, Print, Probe, Attempt, Section}
use Rattle.language.specs.Expression.{Expr, value, variable, failed, form, Parts, none, part}
use Rattle.language.specs.Redex.{after_values}
use Rattle.stab_types.specs.ExprType.{ExprType}
use Rattle.stab_types.specs.Rule.{Rule}
use Rattle.stab_types.specs.Typed.{Seen, behind}
use Rattle.stab_types.proofs.World.{World, IsMore, FitsType, AllFit, IsUnder, under_trans, fits_under, fits_type_more}

-- the form of an expression that a form of a program becomes, if it is no literal and no variable
abbrev pub running : code.Head → Option Head
running (code_head.Block slots) = Some (Block slots)
running code_head.If = Some If
running (code_head.Two op) = Some (Two op)
running code_head.Not = Some Not
running code_head.Neg = Some Neg
running code_head.Pair = Some Pair
running code_head.Fst = Some Fst
running code_head.Snd = Some Snd
running (code_head.Call f) = Some (Call f)
running (code_head.Spawn f) = Some (Spawn f)
running (code_head.Stable f) = Some (Stable f)
running (code_head.NewChan a) = Some NewChan
running code_head.NewRef = Some NewRef
running code_head.Get = Some Get
running code_head.Set = Some Set
running code_head.Send = Some Send
running code_head.Recv = Some Recv
running code_head.Pick = Some Pick
running code_head.Stabilize = Some Stabilize
running code_head.Cut = Some Cut
running code_head.Pin = Some Pin
running code_head.Print = Some Print
running code_head.Probe = Some Probe
running code_head.Attempt = Some Attempt
running _ = None

abbrev pub slots_in : Head → List (Option ℕ)
slots_in (Block slots) = slots
slots_in _ = []

-- a form of a run has the types of the form of a program that it was, with some written type if it is a channel's; a section has its body's
pub data FormRule (functions : List FunctionParts) : Head → List ExprType → ExprType → Type 0 where
  written : {seen : Seen} {c : code.Head} {h : Head} {ts : List ExprType} {t : ExprType} → running c ≡ Some h → Rule functions seen c ts t → FormRule functions h ts t
  section : {t : ExprType} (m : Seq) → FormRule functions (Section m) (t ∷ []) t

-- a let takes a slot that nothing is seen in
abbrev pub IsFree : Option ℕ → Seen → Type 0
IsFree None seen = Unit {0}
IsFree (Some x) seen = seen x ≡ None

abbrev pub nothing_seen : Seen
nothing_seen = λ x. None

module _ (functions : List FunctionParts) (w : World) where
  abbrev mutual
    -- the expression may stand where the type is asked for
    pub Runs : Seen → Expr → ExprType → Type 0
    Runs seen (value v) t = FitsType w v t
    Runs seen (variable x) t = (u : ExprType) × (seen x ≡ Some u) × IsUnder u t
    Runs seen (failed k) t = ⊥
    Runs seen (form h ps) t = (ts : List ExprType) × (u : ExprType) × AllRun seen (slots_in h) ps ts × FormRule functions h ts u × IsUnder u t

    pub AllRun : Seen → List (Option ℕ) → Parts → List ExprType → Type 0
    AllRun seen slots none [] = Unit {0}
    AllRun seen [] (part e ps) (t ∷ ts) = Runs seen e t × AllRun seen [] ps ts
    AllRun seen (slot ∷ slots) (part e ps) (t ∷ ts) = IsFree slot seen × Runs seen e t × AllRun (behind slot t seen) slots ps ts
    AllRun seen slots _ _ = ⊥

  pub runs_under : (seen : Seen) (e : Expr) (t u : ExprType) → IsUnder t u → Runs seen e t → Runs seen e u
  runs_under seen (value v) t u h r = fits_under w v t u h r
  runs_under seen (variable x) t u h r = (r.0, r.1, under_trans r.0 t u r.2 h)
  runs_under seen (failed k) t u h r = absurd r
  runs_under seen (form g ps) t u h r = (r.0, r.1, r.2, r.3, under_trans r.1 t u r.4 h)

  -- parts that are all values
  pub values_fit : (vs : List Datum) (ts : List ExprType) → AllRun nothing_seen [] (after_values vs none) ts → AllFit w vs ts
  values_fit [] [] r = tt
  values_fit [] (t ∷ ts) r = absurd r
  values_fit (v ∷ vs) [] r = absurd r
  values_fit (v ∷ vs) (t ∷ ts) r = (r.0, values_fit vs ts r.1)

module _ (functions : List FunctionParts) (w v : World) (more : IsMore w v) where
  mutual
    pub runs_more : (seen : Seen) (e : Expr) (t : ExprType) → Runs functions w seen e t → Runs functions v seen e t
    runs_more seen (value x) t r = fits_type_more w v more x t r
    runs_more seen (variable x) t r = r
    runs_more seen (failed k) t r = absurd r
    runs_more seen (form h ps) t r = (r.0, r.1, all_more seen (slots_in h) ps r.0 r.2, r.3, r.4)

    pub all_more : (seen : Seen) (slots : List (Option ℕ)) (ps : Parts) (ts : List ExprType) → AllRun functions w seen slots ps ts → AllRun functions v seen slots ps ts
    all_more seen [] none [] r = tt
    all_more seen (slot ∷ slots) none [] r = tt
    all_more seen [] none (t ∷ ts) r = absurd r
    all_more seen (slot ∷ slots) none (t ∷ ts) r = absurd r
    all_more seen [] (part e ps) [] r = absurd r
    all_more seen (slot ∷ slots) (part e ps) [] r = absurd r
    all_more seen [] (part e ps) (t ∷ ts) r = (runs_more seen e t r.0, all_more seen [] ps ts r.1)
    all_more seen (slot ∷ slots) (part e ps) (t ∷ ts) r = (r.0, runs_more seen e t r.1, all_more (behind slot t seen) slots ps ts r.2)
