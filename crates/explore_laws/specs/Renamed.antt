-- Other numbers for channels and references. Sections have the number 0, since no thread can see theirs.
use Rattle.std.specs.Prelude.{◌≡◌, ℕ, map as each}
use Rattle.stab_base.specs.Datum.{Datum, chan, reference, pair}
use Rattle.language.specs.declared.head.Head.{Head}
use Rattle.language.specs.declared.head.Head.TheVariants.{Section}
use Rattle.language.specs.Expression.{Expr, value, variable, failed, form, Parts, none, part}
use Rattle.std.specs.FinMap as map
use Rattle.std.specs.FinSet as set
use Rattle.std.specs.Prelude.{option_map}
use Rattle.stab_base.specs.declared.numbers.ThreadId.{ThreadId}
use Rattle.stab_base.specs.declared.numbers.ChanId.{ChanId}
use Rattle.stab_base.specs.declared.numbers.RefId.{RefId}
use Rattle.stab_journal.specs.declared.event.Label.{Label}
use Rattle.stab_journal.specs.declared.event.Label.TheVariants as step
use Rattle.language.specs.Plain.{PlainState}
use Rattle.language.specs.Steps.{Effect}
use Rattle.language.specs.Table.{Act, spawns, makes_ref, gets, sets, sends, receives, picks, enters, prints, Look, done, fault, act, pure}

-- the new number of each thread, of each channel and of each reference
pub record Naming : Type 0 where
  pub thread : ℕ → ℕ
  pub chan : ℕ → ℕ
  pub reference : ℕ → ℕ

-- no two get one number
pub record IsNaming (n : Naming) : Type 0 where
  pub threads : (t u : ℕ) → n.thread t ≡ n.thread u → t ≡ u
  pub chans : (b c : ℕ) → n.chan b ≡ n.chan c → b ≡ c
  pub references : (q r : ℕ) → n.reference q ≡ n.reference r → q ≡ r

module _ (n : Naming) where
  abbrev pub datum_in : Datum → Datum
  datum_in (chan c) = chan (n.chan c)
  datum_in (reference r) = reference (n.reference r)
  datum_in (pair a b) = pair (datum_in a) (datum_in b)
  datum_in v = v

  abbrev pub head_in : Head → Head
  head_in (Section m) = Section (record { 0 = 0 })
  head_in h = h

  abbrev mutual
    pub expr_in : Expr → Expr
    expr_in (value v) = value (datum_in v)
    expr_in (variable x) = variable x
    expr_in (failed f) = failed f
    expr_in (form h ps) = form (head_in h) (parts_in ps)

    pub parts_in : Parts → Parts
    parts_in none = none
    parts_in (part e ps) = part (expr_in e) (parts_in ps)

  abbrev pub act_in : Act Expr → Act Expr
  act_in (spawns b) = spawns (expr_in b)
  act_in (makes_ref v) = makes_ref (datum_in v)
  act_in (gets r) = gets (n.reference r)
  act_in (sets r v) = sets (n.reference r) (datum_in v)
  act_in (sends c v) = sends (n.chan c) (datum_in v)
  act_in (receives c) = receives (n.chan c)
  act_in (picks c d) = picks (n.chan c) (n.chan d)
  act_in (enters b) = enters (expr_in b)
  act_in (prints v) = prints (datum_in v)
  act_in a = a

  abbrev pub look_in : Look Expr → Look Expr
  look_in (done v) = done (datum_in v)
  look_in (fault k) = fault k
  look_in (act a) = act (act_in a)
  look_in (pure e) = pure (expr_in e)

  abbrev pub effect_in : Effect Expr → Effect Expr
  effect_in e = record { mine = expr_in e.mine; other = expr_in e.other; value = datum_in e.value; printed = each datum_in e.printed }

  abbrev pub thread_in : ThreadId → ThreadId
  thread_in t = record { 0 = n.thread t.0 }

  abbrev pub chan_in : ChanId → ChanId
  chan_in c = record { 0 = n.chan c.0 }

  abbrev pub ref_in : RefId → RefId
  ref_in r = record { 0 = n.reference r.0 }

  abbrev pub label_in : Label → Label
  label_in (step.Local t k) = step.Local (thread_in t) k
  label_in (step.Spawn t u) = step.Spawn (thread_in t) (thread_in u)
  label_in (step.NewChan t c) = step.NewChan (thread_in t) (chan_in c)
  label_in (step.Comm s r c) = step.Comm (thread_in s) (thread_in r) (chan_in c)
  label_in (step.NewRef t r) = step.NewRef (thread_in t) (ref_in r)
  label_in (step.Get t r) = step.Get (thread_in t) (ref_in r)
  label_in (step.Set t r) = step.Set (thread_in t) (ref_in r)
  label_in (step.Enter t) = step.Enter (thread_in t)
  label_in (step.Cut t) = step.Cut (thread_in t)
  label_in (step.Print t) = step.Print (thread_in t)
  label_in (step.Probe t i) = step.Probe (thread_in t) i
  label_in (step.Refuse t) = step.Refuse (thread_in t)
  label_in (step.Pin t) = step.Pin (thread_in t)
  label_in (step.Attempt t g) = step.Attempt (thread_in t) g

-- numbers as they are
abbrev pub unnamed : Naming
unnamed = record { thread = λ t. t; chan = λ c. c; reference = λ r. r }

-- the second state is the first one with other numbers, and sections may have any
pub record IsLike (n : Naming) (s r : PlainState) : Type 0 where
  pub threads : (t : ℕ) → option_map (expr_in unnamed) (map.get r.threads (n.thread t)) ≡ option_map (expr_in n) (map.get s.threads t)
  pub references : (q : ℕ) → map.get r.references (n.reference q) ≡ option_map (datum_in n) (map.get s.references q)
  pub channels : (c : ℕ) → set.contains r.channels (n.chan c) ≡ set.contains s.channels c
  pub output : r.output ≡ each (datum_in n) s.output

-- each of the two undoes the other
pub record AreTwoWay (n m : Naming) : Type 0 where
  pub threads : (t : ℕ) → m.thread (n.thread t) ≡ t
  pub threads_back : (t : ℕ) → n.thread (m.thread t) ≡ t
  pub chans : (c : ℕ) → m.chan (n.chan c) ≡ c
  pub chans_back : (c : ℕ) → n.chan (m.chan c) ≡ c
  pub references : (r : ℕ) → m.reference (n.reference r) ≡ r
  pub references_back : (r : ℕ) → n.reference (m.reference r) ≡ r

-- the states differ by numbers alone
pub record AreLike (s r : PlainState) : Type 0 where
  pub there : Naming
  pub back : Naming
  pub two_way : AreTwoWay there back
  pub like : IsLike there s r
