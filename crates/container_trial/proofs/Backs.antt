-- What is known of a thread that may go back, and of all once one more was looked at.
use Rattle.std.proofs.Common.{◌≡◌, inl, inr, ℕ, ◌<◌, Bool, true, false, ◌||◌, nat_eq, List, [], ◌∷◌, ◌++◌, Option, Some, None, IsSome, IsSomeAnd, refl, sym, ap, subst, ◌∙◌}
use Rattle.std.proofs.lemmas.Bool.{cases_Bool, eqb-true}
use Rattle.std.proofs.lemmas.List.Folds.{list_any-append}
use Rattle.stab_base.specs.declared.numbers.Seq.{Seq}
use Rattle.stab_base.specs.declared.numbers.ThreadId.{ThreadId}
use Rattle.checkpoint_store.specs.Saved.{Saved, saved_at}
use Rattle.linked_lists.specs.Lists.{is_listed}
use Rattle.thread_slots.specs.Slot.{Slot}
use Rattle.restore.specs.declared.line.Line.{Line}
use Rattle.restore.specs.declared.line.Line.TheVariants.{From, Gone}
use Rattle.container_trial.specs.Places.{MayGoBack}

some_of : (slot : Option (Slot ℕ)) (P : Slot ℕ → Type 0) → IsSomeAnd slot P → IsSome slot
some_of None P is = absurd is
some_of (Some s) P is = refl

pub is_there : (line : Option Line) (slot : Option (Slot ℕ)) (store : Saved ℕ) (t : ThreadId) → MayGoBack line slot store t → IsSome slot
is_there None slot store t may = may
is_there (Some Gone) slot store t may = may
is_there (Some (From q)) slot store t may = some_of slot _ may.0

pub may_from : (line : Option Line) (slot : Option (Slot ℕ)) (store : Saved ℕ) (t : ThreadId) (q : Seq) → line ≡ Some (From q) → MayGoBack line slot store t → IsSomeAnd slot (λ s. s.generation < 18446744073709551615) × IsSome (saved_at store q t)
may_from line slot store t q is may = subst (λ l. MayGoBack l slot store t) is may

or_false : (b : Bool) → (b || false) ≡ b
or_false true = refl
or_false false = refl

same_thread : (t u : ThreadId) → u.0 ≡ t.0 → t ≡ u
same_thread t u same = sym (λ i. record { 0 = same i })

pub all_more : (P : ThreadId → Type 0) (done more : List ℕ) (t : ThreadId) → more ≡ done ++ t.0 ∷ [] → ((u : ThreadId) → is_listed u.0 done ≡ true → P u) → P t → (u : ThreadId) → is_listed u.0 more ≡ true → P u
all_more P done more t is old new u listed =
    let split : (is_listed u.0 done || (nat_eq u.0 t.0 || false)) ≡ true = sym (list_any-append (nat_eq u.0) done (t.0 ∷ [])) ∙ sym (ap (is_listed u.0) is) ∙ listed in
    elim (cases_Bool (is_listed u.0 done)) [
      | inl y ↦ old u y
      | inr z ↦ subst P (same_thread t u (eqb-true u.0 t.0 (sym (or_false (nat_eq u.0 t.0)) ∙ ap (λ b. b || (nat_eq u.0 t.0 || false)) (sym z) ∙ split))) new
    ]
