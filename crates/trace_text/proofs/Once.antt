-- Two journals with the same entries have the same events and struck steps.
use Rattle.std.proofs.Common.{◌≡◌, ℕ, zero, suc, ◌+◌, ◌^◌, ◌<◌, Bool, true, false, List, [], ◌∷◌, length, IsSome, Result, inl, inr, Ok, Err, refl, sym, ap, subst, ◌∙◌, arith, add-zero}
use Rattle.std.specs.Ordering.{nat_cmp}
use Rattle.std.specs.FinSet.{FinSet, contains}
use Rattle.stab_journal.specs.declared.event.Event.{Event}
use Rattle.stab_journal.specs.Journal.{Journal, IsValid}
use Rattle.stab_journal.proofs.Events.{label_in, next_place}
use Rattle.trace_text.specs.declared.fault.TraceFault.{TraceFault}
use Rattle.trace_text.specs.declared.line.Entry.{Entry}
use Rattle.trace_text.specs.Reading.{reading}
use Rattle.trace_text.specs.Text.{IsTextOf, entries, entries_from, trace}
use Rattle.trace_text.proofs.Texts.{first-read, trace-read}

head_is : (a b : Entry) (xs ys : List Entry) → a ∷ xs ≡ b ∷ ys → a ≡ b
head_is a b xs ys e = cc

tail_is : (a b : Entry) (xs ys : List Entry) → a ∷ xs ≡ b ∷ ys → xs ≡ ys
tail_is a b xs ys e = cc

same_events : (s t : FinSet nat_cmp) (q : ℕ) (xs ys : List Event) → entries_from s q xs ≡ entries_from t q ys → xs ≡ ys
same_events s t q [] [] e = refl
same_events s t q [] (b ∷ ys) e = cc
same_events s t q (a ∷ xs) [] e = cc
same_events s t q (a ∷ xs) (b ∷ ys) e =
    let first : a ≡ b = ap (λ (x : Entry). x.event) (head_is _ _ _ _ e) in
    let others : xs ≡ ys = same_events s t (suc q) xs ys (tail_is _ _ _ _ e) in
    cc

-- within the events the same are struck
same_struck : (s t : FinSet nat_cmp) (q : ℕ) (xs ys : List Event) (k : ℕ) → entries_from s q xs ≡ entries_from t q ys → IsSome (label_in xs k) → contains s (q + k) ≡ contains t (q + k)
same_struck s t q [] ys k e some = cc
same_struck s t q (a ∷ xs) [] k e some = cc
same_struck s t q (a ∷ xs) (b ∷ ys) zero e some =
    ap (contains s) (add-zero q) ∙ ap (λ (x : Entry). x.struck) (head_is _ _ _ _ e) ∙ ap (contains t) (sym (add-zero q))
same_struck s t q (a ∷ xs) (b ∷ ys) (suc k) e some =
    ap (contains s) (next_place q k) ∙ same_struck s t (suc q) xs ys k (tail_is _ _ _ _ e) some ∙ ap (contains t) (sym (next_place q k))

same_answer : (r : Result (List Entry) TraceFault) (xs ys : List Entry) → r ≡ Ok xs → r ≡ Ok ys → xs ≡ ys
same_answer r xs ys e f = cc

pub few : (j : Journal) → IsValid j → length j.events < 2 ^ 64
few j valid = omega (arith, valid.few, valid.weight)

pub same_entries : (a b : Journal) → IsValid a → IsValid b → trace a ≡ trace b → entries a ≡ entries b
same_entries a b va vb same = same_answer (reading (trace a)) (entries a) (entries b) (trace-read a va (few a va)) (ap reading same ∙ trace-read b vb (few b vb))

stays_struck : (a b : Journal) → IsValid a → entries a ≡ entries b → (q : ℕ) → contains a.struck q ≡ true → contains b.struck q ≡ true
stays_struck a b va e zero is = let none = va.steps_only zero is in cc
stays_struck a b va e (suc k) is =
    let next : 1 + k ≡ suc k = omega arith in
    sym (subst (λ n. contains a.struck n ≡ contains b.struck n) next (same_struck a.struck b.struck 1 a.events b.events k e (va.steps_only (suc k) is))) ∙ is

both_ways : (x y : Bool) → (x ≡ true → y ≡ true) → (y ≡ true → x ≡ true) → x ≡ y
both_ways true y f g = sym (f refl)
both_ways false true f g = g refl
both_ways false false f g = refl

pub events_same : (a b : Journal) → IsValid a → IsValid b → trace a ≡ trace b → a.events ≡ b.events
events_same a b va vb same = same_events a.struck b.struck 1 a.events b.events (same_entries a b va vb same)

pub struck_same : (a b : Journal) → IsValid a → IsValid b → trace a ≡ trace b → (q : ℕ) → contains a.struck q ≡ contains b.struck q
struck_same a b va vb same q =
    let e = same_entries a b va vb same in
    both_ways (contains a.struck q) (contains b.struck q) (stays_struck a b va e q) (stays_struck b a vb (sym e) q)

-- a text with a fault is the text of no journal
pub no_trace : (bytes : List ℕ) (fault : TraceFault) (j : Journal) → reading bytes ≡ Err fault → IsValid j → IsTextOf bytes (entries j) → ⊥
no_trace bytes fault j e valid (inl is) = let read = trace-read j valid (few j valid) in cc (ap reading is)
no_trace bytes fault j e valid (inr is) = let read = first-read j valid (few j valid) is.0 in cc (ap reading is.1)
