-- Which channels and references occur in an expression, which sections stand in it, and whether all of them are known.
use Rattle.std.specs.Prelude.{◌≡◌, ℕ, Bool, true, false, Some}
use Rattle.std.specs.List.{AllByRecursion}
use Rattle.std.specs.FinMap as map
use Rattle.std.specs.FinSet as set
use Rattle.stab_base.specs.Datum.{Datum, chan, reference, pair}
use Rattle.stab_base.specs.declared.fault.Fault.{Fault}
use Rattle.language.specs.declared.head.Head.{Head}
use Rattle.language.specs.declared.head.Head.TheVariants.{Section}
use Rattle.language.specs.Expression.{Expr, value, variable, failed, form, Parts, none, part}
use Rattle.language.specs.Steps.{State}
use Rattle.language.specs.Table.{Act, spawns, makes_ref, gets, sets, sends, receives, picks, enters, prints, Look, done, fault, act, pure, Language}

-- which numbers of channels, of references and of sections are known
pub record Known : Type 0 where
  pub channels : ℕ → Bool
  pub references : ℕ → Bool
  pub sections : ℕ → Bool

-- the same channels and references, and no section
abbrev pub without_sections : Known → Known
without_sections k = record k { sections = λ _. false }

-- all channels and references, and these sections
abbrev pub sections_alone : (ℕ → Bool) → Known
sections_alone entered = record { channels = λ _. true; references = λ _. true; sections = entered }

-- what is known in a state: its channels and references, and any section
abbrev pub known_in : {E : Type 0} → State E → Known
known_in s = record { channels = set.contains s.channels; references = map.contains_key s.references; sections = λ _. true }

-- the channels and references in a value are known
abbrev pub IsIn : Known → Datum → Type 0
IsIn k (chan c) = k.channels c ≡ true
IsIn k (reference r) = k.references r ≡ true
IsIn k (pair a b) = IsIn k a × IsIn k b
IsIn k _ = Unit {0}

abbrev pub IsHeadIn : Known → Head → Type 0
IsHeadIn k (Section m) = k.sections m.0 ≡ true
IsHeadIn k _ = Unit {0}

-- the channels and references in an expression's values are known, and so are its sections
abbrev mutual
  pub IsExprIn : Known → Expr → Type 0
  IsExprIn k (value v) = IsIn k v
  IsExprIn k (variable x) = Unit {0}
  IsExprIn k (failed f) = Unit {0}
  IsExprIn k (form h ps) = IsHeadIn k h × ArePartsIn k ps

  pub ArePartsIn : Known → Parts → Type 0
  ArePartsIn k none = Unit {0}
  ArePartsIn k (part e ps) = IsExprIn k e × ArePartsIn k ps

module _ {E : Type 0} (In : Known → E → Type 0) (k : Known) where
  -- a body that a new thread gets has no section: it is a program's text
  abbrev pub IsActIn : Act E → Type 0
  IsActIn (spawns body) = In (without_sections k) body
  IsActIn (makes_ref v) = IsIn k v
  IsActIn (gets r) = k.references r ≡ true
  IsActIn (sets r v) = (k.references r ≡ true) × IsIn k v
  IsActIn (sends c v) = (k.channels c ≡ true) × IsIn k v
  IsActIn (receives c) = k.channels c ≡ true
  IsActIn (picks c d) = (k.channels c ≡ true) × (k.channels d ≡ true)
  IsActIn (enters body) = In k body
  IsActIn (prints v) = IsIn k v
  IsActIn _ = Unit {0}

  abbrev pub IsLookIn : Look E → Type 0
  IsLookIn (done v) = IsIn k v
  IsLookIn (fault f) = Unit {0}
  IsLookIn (act a) = IsActIn a
  IsLookIn (pure e) = In k e

-- what is known in the first is known in the second
pub record IsMore (k l : Known) : Type 0 where
  pub channels : (c : ℕ) → k.channels c ≡ true → l.channels c ≡ true
  pub references : (r : ℕ) → k.references r ≡ true → l.references r ≡ true
  pub sections : (m : ℕ) → k.sections m ≡ true → l.sections m ≡ true

-- what the laws ask of expressions, where In k e says that what occurs in e is known: no step brings a number from nowhere
pub record AreNumbersKept {E : Type 0} (g : Language E) (In : Known → E → Type 0) : Type 0 where
  pub more : (k l : Known) → IsMore k l → (e : E) → In k e → In l e
  pub look : (k : Known) (e : E) → In k e → IsLookIn In k (g.look e)
  pub answered : (k : Known) (e : E) (v : Datum) → In k e → IsIn k v → In k (g.answered e v)
  pub entered : (k : Known) (e : E) (q : ℕ) (body : E) → In k e → In k body → k.sections q ≡ true → In k (g.entered e q body)
  pub failed : (k : Known) (f : Fault) → In k (g.failed f)

-- each channel and each reference that occurs in a state is in it
pub record IsKnown {E : Type 0} (In : Known → E → Type 0) (s : State E) : Type 0 where
  pub threads : (t : ℕ) (e : E) → map.get s.threads t ≡ Some e → In (known_in s) e
  pub references : (r : ℕ) (v : Datum) → map.get s.references r ≡ Some v → IsIn (known_in s) v
  pub output : AllByRecursion (IsIn (known_in s)) s.output
