-- What the calls on a log do, and what a list of calls means for a reference.
use Rattle.std.specs.Prelude.{◌≡◌, ◌≢◌, ℕ, ◌<◌, ◌≤◌, Bool, false, not, cond, ◌&&◌, List, [], ◌∷◌, ◌++◌, nat_eq, IsTrue, IsFalse}
use Rattle.std.specs.List.{All, list_any}
use Rattle.stab_base.specs.Datum.{Datum}
use Rattle.ref_log.specs.Log.{Write, Log, writes_of, has_write, without, kept}

-- a call: the reference where there is one, the number of the event, and the value that is written
pub data Call : Type 0 where
  made : ℕ → ℕ → Datum → Call
  wrote : ℕ → ℕ → Datum → Call
  struck : ℕ → ℕ → Call
  cut : ℕ → Call

-- some writes and one more
abbrev pub written : List Write → ℕ → Datum → List Write
written ws q v = ws ++ record { number = q; value = v } ∷ []

-- what a call leaves of the writes ws of the reference r
abbrev pub after_call : Call → ℕ → List Write → List Write
after_call (made s q v) r ws = cond (nat_eq s r) (written ws q v) ws
after_call (wrote s q v) r ws = cond (nat_eq s r) (written ws q v) ws
after_call (struck s q) r ws = cond (nat_eq s r) (without q ws) ws
after_call (cut q) r ws = kept q ws

-- the number of the last cut after a call, where it was n before
abbrev pub cut_after : Call → ℕ → ℕ
cut_after (cut q) n = q
cut_after _ n = n

-- new is what a call leaves of old
pub record IsAfter (call : Call) (old new : Log) : Type 0 where
  pub last_cut : new.last_cut ≡ cut_after call old.last_cut
  pub writes : (r : ℕ) → writes_of new r ≡ after_call call r (writes_of old r)

-- the condition of a call on a log
-- a reference is made that isn't there, under a number above the last cut
-- one is written that is there, under a number above its writes and the last cut
-- a write is struck that is there, above the last cut
-- a cut is at no write's number, and not below the last cut
abbrev pub IsAllowed : Call → Log → Type 0
IsAllowed (made r q v) log = (writes_of log r ≡ []) × (log.last_cut < q)
IsAllowed (wrote r q v) log = (writes_of log r ≢ []) × All (λ w. w.number < q) (writes_of log r) × (log.last_cut < q)
IsAllowed (struck r q) log = IsTrue (has_write q (writes_of log r)) × (log.last_cut < q)
IsAllowed (cut q) log = ((r : ℕ) → IsFalse (has_write q (writes_of log r))) × (log.last_cut ≤ q)

-- each of the calls is allowed in its turn, and in the end they leave new of old
pub data Leads : List Call → Log → Log → Type 0 where
  none : (log : Log) → Leads [] log log
  one_more : (call : Call) (calls : List Call) (old next new : Log) → IsAllowed call old → IsAfter call old next → Leads calls next new → Leads (call ∷ calls) old new

-- whether a call strikes the write q of the reference r
abbrev pub strikes : ℕ → ℕ → Call → Bool
strikes r q (struck s p) = nat_eq s r && nat_eq p q
strikes r q _ = false

-- the write q of the reference r, where it is s that is written and no later call strikes it
abbrev pub if_it_stays : ℕ → ℕ → ℕ → Datum → List Call → List Write
if_it_stays r s q v later = cond (nat_eq s r && not (list_any (strikes r q) later)) (record { number = q; value = v } ∷ []) []

-- the writes of the reference r in a list of calls that no later call strikes, in order
abbrev pub surviving : ℕ → List Call → List Write
surviving r [] = []
surviving r (made s q v ∷ calls) = if_it_stays r s q v calls ++ surviving r calls
surviving r (wrote s q v ∷ calls) = if_it_stays r s q v calls ++ surviving r calls
surviving r (_ ∷ calls) = surviving r calls
