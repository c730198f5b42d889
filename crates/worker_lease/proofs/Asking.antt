-- What a call of the floor leaves of a pass.
use Rattle.std.proofs.Common.{Vec, length-append, ◌≡◌, ℕ, ◌+◌, true, false, cond, List, [], ◌∷◌, ◌++◌, length, Option, Some, None, Result, Ok, Err, refl, sym, ap, subst, ◌∙◌, append-nil}
use Rattle.std.specs.Prelude.{filter}
use Rattle.stab_code.specs.JobParts.{JobParts}
use Rattle.stab_journal.specs.declared.event.Event.{Event}
use Rattle.stab_journal.specs.declared.event.Recorded.{Recorded}
use Rattle.stab_journal.specs.Own.{own}
use Rattle.turn_floor.specs.declared.kept.Told.{Told}
use Rattle.turn_floor.specs.Parts.{PassParts}
use Rattle.turn_floor.specs.Served.{Tells, told_events}
use Rattle.turn_floor.proofs.Histories.{prefix_more, prefix_self, told_new}
use Rattle.std.specs.declared.alloc.Global.{Global}
use Rattle.stab_base.specs.declared.numbers.NoMemory.{NoMemory}
use Rattle.stab_base.specs.declared.numbers.Seq.{Seq}
use Rattle.stab_journal.specs.declared.event.What.TheVariants.{Release}
use Rattle.stab_journal.specs.Due.{final_prints}
use Rattle.stab_journal.specs.Own.{own_at}
use Rattle.stab_journal.specs.Surviving.{run_of}
use Rattle.stab_journal.proofs.Reading.{own-push}
use Rattle.language.specs.Standing.{event}
use Rattle.worker_lease.specs.declared.ask.DeskAsk.{DeskAsk}
use Rattle.worker_lease.specs.declared.ask.DeskAsk.TheVariants as ask
use Rattle.worker_lease.specs.declared.ask.DeskAnswer.{DeskAnswer}
use Rattle.worker_lease.specs.declared.ask.DeskAnswer.TheVariants as answer
use Rattle.worker_lease.specs.Answers.{Says}
use Rattle.worker_lease.specs.Asks.{IsReplyTo, IsWorkAsk}
use Rattle.worker_lease.specs.Releases.{HasNoRelease, is_release, own_releases}
use Rattle.worker_lease.specs.Telling.{told}
use Rattle.worker_lease.specs.Working.{IsLater, ReleaseSays}

-- an ask that isn't a release tells of none
pub tells_none : (pauses : Type 0) (job : JobParts) (events : List Event) (a : DeskAsk) (b : DeskAnswer) → IsWorkAsk a → IsReplyTo pauses a b → Says job events b → HasNoRelease (told_events (told b) events)
tells_none pauses job events a (answer.Turn turn) work reply says = tt
tells_none pauses job events a (answer.Done (Ok done)) work reply says = says
tells_none pauses job events a (answer.Done (Err refused)) work reply says = tt
tells_none pauses job events a answer.Given work reply says = tt
tells_none pauses job events a answer.Dry work reply says = tt
tells_none pauses job events a answer.Rung work reply says = tt
tells_none pauses job events a answer.Kept work reply says = tt
tells_none pauses job events ask.Lease (answer.Released lines number) work reply says = absurd reply
tells_none pauses job events (ask.Commit lease progress) (answer.Released lines number) work reply says = absurd reply
tells_none pauses job events (ask.GiveBack lease) (answer.Released lines number) work reply says = absurd reply
tells_none pauses job events (ask.Release text) (answer.Released lines number) work reply says = absurd work

abbrev pub releases : List Recorded → List Recorded
releases own = filter (λ (r : Recorded). is_release r.event.what) own

none_of : (rs : List Recorded) → HasNoRelease rs → releases rs ≡ []
none_of [] none = refl
none_of (r ∷ rs) none = ap (λ b. cond b (r ∷ releases rs) (releases rs)) none.0 ∙ none_of rs none.1

pub releases_append : (xs ys : List Recorded) → releases (xs ++ ys) ≡ releases xs ++ releases ys
releases_append [] ys = refl
releases_append (x ∷ xs) ys =
    elim (is_release x.event.what) as (λ b. cond b (x ∷ releases (xs ++ ys)) (releases (xs ++ ys)) ≡ cond b (x ∷ releases xs) (releases xs) ++ releases ys) [
      | true ↦ ap (λ (l : List Recorded). x ∷ l) (releases_append xs ys)
      | false ↦ releases_append xs ys
    ]

-- where no release is told of, the worker's releases stay
pub same_releases : (w : ℕ) (before after : List Event) (more : List Recorded) → own w after ≡ own w before ++ more → HasNoRelease more → own_releases w after ≡ own_releases w before
same_releases w before after more is none =
    ap releases is ∙ releases_append (own w before) more ∙ ap (λ (l : List Recorded). own_releases w before ++ l) (none_of more none) ∙ append-nil (own_releases w before)

-- ---- a release

module _ {A : Type 0} where
  snoc_front : (xs ys : List A) (x y : A) → xs ++ x ∷ [] ≡ ys ++ y ∷ [] → xs ≡ ys
  snoc_front [] [] x y is = refl
  snoc_front [] (v ∷ vs) x y is = absurd (nothing vs y (cc))
    where
      nothing : (vs : List A) (y : A) → [] ≡ vs ++ y ∷ [] → ⊥
      nothing [] y is = absurd (cc)
      nothing (v ∷ vs) y is = absurd (cc)
  snoc_front (u ∷ us) [] x y is = absurd (nothing us x (cc))
    where
      nothing : (us : List A) (x : A) → us ++ x ∷ [] ≡ [] → ⊥
      nothing [] x is = absurd (cc)
      nothing (u ∷ us) x is = absurd (cc)
  snoc_front (u ∷ us) (v ∷ vs) x y is = let head : u ≡ v = cc in ap (λ h. h ∷ us) head ∙ ap (λ l. v ∷ l) (snoc_front us vs x y (cc))

-- what worker 1 is told of at a release is the release alone
pub release_says : (job : JobParts) (old new : PassParts) (lines : Vec ℕ Global) (number : Result (Option Seq) NoMemory) → old.worker ≡ 1
    → own old.worker new.seen ≡ own old.worker old.seen ++ told_events (told (answer.Released lines number)) new.seen
    → Says job new.seen (answer.Released lines number) → ReleaseSays job old new lines.items number
release_says job old new lines (Ok None) one mine says =
    (says, same_releases 1 old.seen new.seen [] (subst (λ w. own w new.seen ≡ own w old.seen ++ []) one mine) tt)
release_says job old new lines (Err none) one mine says =
    same_releases 1 old.seen new.seen [] (subst (λ w. own w new.seen ≡ own w old.seen ++ []) one mine) tt
release_says job old new lines (Ok (Some q)) one mine says =
    let first = says.first in
    let e : Event = event 1 (Release (final_prints (run_of first))) in
    let t : Told = told (answer.Released lines (Ok (Some q))) in
    let tells : Tells t first new.seen = (ap length says.is ∙ length-append first (e ∷ []), λ _. says.number_is) in
    let ours : own 1 new.seen ≡ own 1 old.seen ++ told_events t new.seen = subst (λ w. own w new.seen ≡ own w old.seen ++ told_events t new.seen) one mine in
    let theirs : own 1 new.seen ≡ own 1 first ++ own_at 1 (length first + 1) e = ap (own 1) says.is ∙ own-push 1 first e in
    let last = told_new t first (e ∷ []) new.seen says.is tells in
    (says, ap releases (snoc_front (own 1 first) (own 1 old.seen) _ _ (sym theirs ∙ ours ∙ ap (λ (l : List Recorded). own 1 old.seen ++ l) last)))

-- ---- one after another

pub same_pass : (p : PassParts) → IsLater p p
same_pass p = record { floor = refl; worker = refl; grows = prefix_self p.seen; releases = refl }

pub later_again : (a b c : PassParts) → IsLater a b → IsLater b c → IsLater a c
later_again a b c x y = record {
  floor = y.floor ∙ x.floor;
  worker = y.worker ∙ x.worker;
  grows = prefix_more a.seen b.seen y.grows.0 c.seen x.grows (sym y.grows.1);
  releases = subst (λ w. own_releases w c.seen ≡ own_releases w b.seen) x.worker y.releases ∙ x.releases;
}
