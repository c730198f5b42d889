-- What one event more changes.
use Rattle.std.proofs.Common.{◌≡◌, ℕ, ℤ, zero, suc, zero-add, ◌+◌, ◌≤◌, List, [], ◌∷◌, ◌++◌, length, refl, sym, ap, subst, ◌∙◌, arith, length-append}
use Rattle.std.specs.Prelude.{IfSome, slice_get}
use Rattle.std.specs.List.{AllByRecursion}
use Rattle.std.proofs.lemmas.List.Sums.{sum_by-append}
use Rattle.stab_base.specs.declared.numbers.Seq.{Seq}
use Rattle.stab_base.specs.declared.numbers.ThreadId.{ThreadId}
use Rattle.stab_journal.specs.declared.event.Event.{Event}
use Rattle.stab_journal.specs.declared.event.Label.{Label}
use Rattle.stab_journal.specs.declared.event.Label.TheVariants.{Spawn, NewChan, NewRef, Probe}
use Rattle.stab_journal.specs.declared.event.Numbered.{Numbered}
use Rattle.stab_journal.specs.declared.event.What.TheVariants.{Step, Undo}
use Rattle.stab_journal.specs.Event.{weigh, weight_of}
use Rattle.stab_journal.specs.Journal.{step_at}
use Rattle.stab_journal.specs.Script.{probed, probed_by, script_at}
use Rattle.stab_journal.specs.Since.{AreBelow, FollowsSince}
use Rattle.trace_verify.specs.declared.generations.Generations.{Generations}
use Rattle.trace_verify.specs.Generations.{AreBefore}
use Rattle.trace_verify.proofs.Events.{probed_last}
use Rattle.image_run.specs.declared.next.Next.{Next}
use Rattle.image_run.specs.Next.{AreBelowNext, IsMadeBelow, IsMadeNext, next_after}
use Rattle.language.specs.Plain.{PlainState}

pub below_more : (q : ℕ) (ns : List Numbered) → AreBelow q ns → AreBelow (q + 1) ns
below_more q [] h = tt
below_more q (n ∷ ns) h = (omega (arith, h.0), below_more q ns h.1)

pub below_last : (q : ℕ) (ns : List Numbered) (l : Label) → AreBelow q ns → AreBelow (q + 1) (ns ++ step_at q (Step l))
below_last q [] l h = (omega arith, tt)
below_last q (n ∷ ns) l h = (omega (arith, h.0), below_last q ns l h.1)

pub before_more : (q : ℕ) (g : Generations) → AreBefore q g → AreBefore (q + 1) g
before_more q g h t = ((h t).0, omega (arith, (h t).1))

pub all_last : {A : Type 0} (P : A → Type 0) (xs : List A) (x : A) → AllByRecursion P xs → P x → AllByRecursion P (xs ++ x ∷ [])
all_last P [] x h this = (this, tt)
all_last P (y ∷ xs) x h this = (h.0, all_last P xs x h.1 this)

pub all_mapped : {A : Type 0} (P Q : A → Type 0) → ((x : A) → P x → Q x) → (xs : List A) → AllByRecursion P xs → AllByRecursion Q xs
all_mapped P Q f [] h = tt
all_mapped P Q f (x ∷ xs) h = (f x h.0, all_mapped P Q f xs h.1)

pub weight_last : (es : List Event) (e : Event) → weight_of (es ++ e ∷ []) ≡ weight_of es + weigh e.what
weight_last es e = sum_by-append (λ (x : Event). weigh x.what) es (e ∷ []) ∙ ap (λ (k : ℕ). weight_of es + k) (zero-add (weigh e.what))

pub probes_last : (es : List Event) (e : Event) → length (probed (es ++ e ∷ [])) ≡ length (probed es) + length (probed_by e.what)
probes_last es e = ap length (probed_last es e) ∙ length-append (probed es) (probed_by e.what)

-- each number is that of the script, from the u-th on
abbrev Follow : List ℤ → ℕ → List ℤ → Type 0
Follow script u xs = (i : ℕ) → IfSome (slice_get xs i) (λ n. n ≡ script_at script (u + i))

follow_more : (script : List ℤ) (u v : ℕ) (xs ys : List ℤ) → v ≡ u + length xs → Follow script u xs → Follow script v ys → Follow script u (xs ++ ys)
follow_more script u v [] ys at f g i = subst (λ (k : ℕ). IfSome (slice_get ys i) (λ n. n ≡ script_at script (k + i))) (let same : v ≡ u = omega arith in same) (g i)
follow_more script u v (x ∷ xs) ys at f g zero = f zero
follow_more script u v (x ∷ xs) ys at f g (suc i) =
    subst (λ (k : ℕ). IfSome (slice_get (xs ++ ys) i) (λ n. n ≡ script_at script k)) (let same : u + 1 + i ≡ u + suc i = omega arith in same)
    (follow_more script (u + 1) v xs ys (omega arith) (λ j. subst (λ (k : ℕ). IfSome (slice_get xs j) (λ n. n ≡ script_at script k)) (let same : u + suc j ≡ u + 1 + j = omega arith in same) (f (suc j))) g i)

follow_none : (script : List ℤ) (v : ℕ) → Follow script v []
follow_none script v i = tt

follow_one : (script : List ℤ) (v : ℕ) (n : ℤ) → n ≡ script_at script v → Follow script v (n ∷ [])
follow_one script v n is zero = subst (λ (k : ℕ). n ≡ script_at script k) (let same : v ≡ v + 0 = omega arith in same) is
follow_one script v n is (suc i) = tt

-- a probe that gets what the script has for it
pub follows_step : (script : List ℤ) (used k : ℕ) (es : List Event) (w : ℕ) (l : Label) → k ≡ length (probed es)
    → Follow script (used + k) (probed_by (Step l)) → FollowsSince script used es → FollowsSince script used (es ++ record { worker = w; what = Step l } ∷ [])
follows_step script used k es w l is of f =
    subst (Follow script used) (sym (probed_last es (record { worker = w; what = Step l }))) (follow_more script used (used + k) (probed es) (probed_by (Step l)) (ap (λ x. used + x) is) f of)

pub follows_undo : (script : List ℤ) (used : ℕ) (es : List Event) (w : ℕ) (t : ThreadId) (m : Seq) → FollowsSince script used es → FollowsSince script used (es ++ record { worker = w; what = Undo t m } ∷ [])
follows_undo script used es w t m f =
    subst (Follow script used) (sym (probed_last es (record { worker = w; what = Undo t m }))) (follow_more script used (used + length (probed es)) (probed es) [] refl f (follow_none script (used + length (probed es))))

pub probe_follows : (script : List ℤ) (v : ℕ) (t : ThreadId) (i : ℤ) → i ≡ script_at script v → Follow script v (probed_by (Step (Probe t i)))
probe_follows script v t i is = follow_one script v i is

pub none_follows : (script : List ℤ) (v : ℕ) → Follow script v []
none_follows = follow_none

pub few_probes : (l : Label) → length (probed_by (Step l)) ≤ 1
few_probes (Probe t i) = omega arith
few_probes l = omega arith

-- numbers that don't fall
pub record IsGrown (a b : Next) : Type 0 where
  pub thread : (a.thread ≤ b.thread) × (b.thread ≤ a.thread + 1)
  pub chan : (a.chan ≤ b.chan) × (b.chan ≤ a.chan + 1)
  pub reference : (a.reference ≤ b.reference) × (b.reference ≤ a.reference + 1)

pub grown : (n : Next) (l : Label) → IsGrown n (next_after n (Step l))
grown n (Spawn t u) = record { thread = (omega arith, omega arith); chan = (omega arith, omega arith); reference = (omega arith, omega arith) }
grown n (NewChan t c) = record { thread = (omega arith, omega arith); chan = (omega arith, omega arith); reference = (omega arith, omega arith) }
grown n (NewRef t r) = record { thread = (omega arith, omega arith); chan = (omega arith, omega arith); reference = (omega arith, omega arith) }
grown n l = record { thread = (omega arith, omega arith); chan = (omega arith, omega arith); reference = (omega arith, omega arith) }

pub made_more : (a b : Next) (l : Label) → IsGrown a b → IsMadeBelow a l → IsMadeBelow b l
made_more a b (Spawn t u) g h = (h.0, omega (arith, g.thread.0, h.1))
made_more a b (NewChan t c) g h = omega (arith, g.chan.0, h)
made_more a b (NewRef t r) g h = omega (arith, g.reference.0, h)
made_more a b l g h = h

pub made_this : (n : Next) (l : Label) → 1 ≤ n.thread → IsMadeNext n l → IsMadeBelow (next_after n (Step l)) l
made_this n (Spawn t u) some h = (omega (arith, h), omega (arith, h))
made_this n (NewChan t c) some h = omega (arith, h)
made_this n (NewRef t r) some h = omega (arith, h)
made_this n l some h = tt

pub below_grown : (a b : Next) (s : PlainState) → IsGrown a b → AreBelowNext a s → AreBelowNext b s
below_grown a b s g h = record {
  threads = λ t is. ((h.threads t is).0, omega (arith, (h.threads t is).1, g.thread.0));
  channels = λ c is. omega (arith, h.channels c is, g.chan.0);
  references = λ r is. omega (arith, h.references r is, g.reference.0);
}
