-- Bytes that a reader gave or a writer took in two steps.
use Rattle.std.proofs.Common.{◌≡◌, ◌≤◌, ◌+◌, ◌-◌, ℕ, List, [], ◌++◌, Option, Some, None, length, take, drop, arith, length-append, sym, ap, subst, Result, Ok, ◌∙◌, append_assoc, append-nil, take-append-drop}
use Rattle.std.proofs.lemmas.List.{take_rest}
use Rattle.std.proofs.KnownBytes.{Appends-trans, Consumes-trans}
use Rattle.std.specs.Io.KnownBytes.{Appends, Consumes, Keeps, WriteAppends}

-- bytes that grew by nothing are as they were
kept_by_nothing : (a b : Option (List ℕ)) → Appends a b [] → Keeps a b
kept_by_nothing None b h = tt
kept_by_nothing (Some x) None h = h
kept_by_nothing (Some x) (Some y) h = h ∙ append-nil x

-- a write of no bytes
pub wrote_nothing : {E : Type 0} (a b : Option (List ℕ)) (r : Result ℕ E) (buf : List ℕ) (n : ℕ) → WriteAppends a b r buf → r ≡ Ok n → n ≡ 0 → Keeps a b
wrote_nothing a b r buf n h is zero = kept_by_nothing a b (subst (λ k. Appends a b (take k buf)) zero (subst (λ q. WriteAppends a b q buf) is h))

-- the bytes that were kept and those of one more read are within the limit
pub consumes_within : (a b c : Option (List ℕ)) (kept : List ℕ) (limit : ℕ) → Consumes a b kept
    → (taken : List ℕ) → length kept + length taken ≤ limit + 1 → Consumes b c taken
    → (all : List ℕ) × (length all ≤ limit + 1) × Consumes a c all
consumes_within a b c kept limit first taken fits second =
    (kept ++ taken, omega (arith, length-append kept taken), Consumes-trans a b c kept taken first second)

-- a write takes the next part of the piece
pub appends_next : (a b c : Option (List ℕ)) (piece done rest : List ℕ) (n : ℕ) → piece ≡ done ++ rest → Appends a b done → Appends b c (take n rest)
    → (all : List ℕ) × (piece ≡ all ++ take (length rest - n) (drop n rest)) × Appends a c all
appends_next a b c piece done rest n split first next = (
  done ++ take n rest,
  split ∙ ap (λ l. done ++ l) (sym (take-append-drop n rest)) ∙ sym (append_assoc done (take n rest) (drop n rest)) ∙ ap (λ l. (done ++ take n rest) ++ l) (sym (take_rest rest n)),
  Appends-trans a b c done (take n rest) first next,
)
