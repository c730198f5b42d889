-- How an image is read, step by step.
use Rattle.std.proofs.Common.{◌≡◌, ℕ, ◌+◌, ◌-◌, ◌<◌, ◌≤◌, ◌^◌, List, length, Result, Ok, Err, refl, sym, ap, subst, ◌∙◌, inl, inr, arith}
use Rattle.std.specs.Prelude.{◌⊎◌, MatchResult}
use Rattle.std.specs.Result.{result_map_both}
use Rattle.std.proofs.lemmas.List.{length-append}
use Rattle.stab_code.specs.Program.{ProgramParts}
use Rattle.stab_text.specs.declared.fault.TextFault.{TextFault as ProgramFault}
use Rattle.stab_text.specs.Text.{HasFault, IsNoMemory, IsTextOf}
use Rattle.image_laws.specs.Image.{Image}
use Rattle.image_text.specs.ImageText.{program_text}
use Rattle.image_lines.specs.declared.body.TextFault.{TextFault}
use Rattle.image_lines.specs.Counts.{Counts, counts_in}
use Rattle.image_lines.specs.CountsText.{AreCounts}
use Rattle.image_lines.specs.Opening.{program_in}
use Rattle.image_lines.proofs.CountsLaws.{counts_was}
use Rattle.image_lines.proofs.OpeningLaws.{program_was}
use Rattle.image_state.specs.Parts.{Parts}
use Rattle.image_state.specs.State.{state_in}
use Rattle.image_text.specs.declared.image_fault.ImageFault.{ImageFault}
use Rattle.image_text.specs.declared.image_fault.ImageFault.TheVariants.{BadProgram, NoMemory}
use Rattle.stab_image.specs.Read.{Answer, IsRead, IsReadBehind, IsReadFrom, counts_read, fault_of, image_with, state_read, with_counts, with_state}
use Rattle.stab_image.specs.Written.{IsImageText}
use Rattle.stab_image.proofs.ReadLaws.{image_back, image_was}

-- what was read in memory, by what it is seen as
module _ {X Y K : Type 0} (f : X → Y) (r : Result X K) (o : Result Y K) (is : result_map_both f (λ k. k) r ≡ o) where
  pub given : (x : X) → r ≡ Ok x → o ≡ Ok (f x)
  given x ok = sym is ∙ ap (λ (a : Result X K). result_map_both f (λ (k : K). k) a) ok

  pub refused : (k : K) → r ≡ Err k → o ≡ Err k
  refused k err = sym is ∙ ap (λ (a : Result X K). result_map_both f (λ (k : K). k) a) err

-- an answer is as the definitions read, unless memory is missing
abbrev pub Fits : (Answer → Type 0) → Answer → Type 0
Fits P r = MatchResult r (λ i. P (Ok i)) (λ k. (k ≡ NoMemory) ⊎ P (Err k))

pub fits : (P : Answer → Type 0) (r : Answer) → P r → Fits P r
fits P (Ok i) h = h
fits P (Err k) h = inr h

other : (P Q : Answer → Type 0) → ((r : Answer) → P r → Q r) → (r : Answer) → Fits P r → Fits Q r
other P Q f (Ok i) h = f (Ok i) h
other P Q f (Err k) (inl h) = inl h
other P Q f (Err k) (inr h) = inr (f (Err k) h)

module _ (bytes text rest : List ℕ) (is : program_in bytes ≡ Ok (text, rest)) where
  pub rest_within : length rest ≤ length bytes
  rest_within = omega (arith, ap (λ (bs : List ℕ). length bs) (program_was bytes text rest is).0, length-append (program_text text) rest)

  pub short_text : length text ≤ 1048576
  short_text = (program_was bytes text rest is).1

  pub opened : (r : Answer) → Fits (IsReadBehind text (length bytes - length rest) rest) r → Fits (IsRead bytes) r
  opened r h = other (IsReadBehind text (length bytes - length rest) rest) (IsRead bytes) (λ a k. subst (λ (x : Result (List ℕ × List ℕ) TextFault). IsReadFrom (length bytes) x a) (sym is) k) r h

pub unopened : (bytes : List ℕ) (k : TextFault) (f : ImageFault) → program_in bytes ≡ Err k → f ≡ fault_of k → (f ≡ NoMemory) ⊎ IsRead bytes (Err f)
unopened bytes k f is same = inr (subst (λ (x : Result (List ℕ × List ℕ) TextFault). IsReadFrom (length bytes) x (Err f)) (sym is) (ap (λ (g : ImageFault). let a : Answer = Err g in a) same))

-- the text of a program, and of none
pub of_program : (text : List ℕ) (at : ℕ) (rest : List ℕ) (p : ProgramParts) (r : Answer) → IsTextOf text p → r ≡ counts_read text p at rest → Fits (IsReadBehind text at rest) r
of_program text at rest p r is_text is = fits (IsReadBehind text at rest) r (inl (record { program = p; is_text = is_text; is = is }))

pub of_none : (text : List ℕ) (at : ℕ) (rest : List ℕ) (fault : ProgramFault) → IsNoMemory fault ⊎ HasFault text fault → (IsNoMemory fault → ⊥) → (BadProgram ≡ NoMemory) ⊎ IsReadBehind text at rest (Err BadProgram)
of_none text at rest fault (inl none) there = absurd (there none)
of_none text at rest fault (inr has) there = inr (inr (record { fault = fault; has = has; is = refl }))

-- numbers that were read
module _ (at : ℕ) (rest : List ℕ) (c : Counts) (is : counts_in at rest ≡ Ok c) where
  pub counts_right : AreCounts c
  counts_right = (counts_was at rest c is).right

  pub counts_place : at + length rest < 2 ^ 63 → c.at + length c.rest < 2 ^ 63
  counts_place lt = let place = (counts_was at rest c is).place in omega arith

  pub by_counts : (text : List ℕ) (p : ProgramParts) (r : Answer) → r ≡ state_read text p c → r ≡ counts_read text p at rest
  by_counts text p r h = h ∙ sym (ap (with_counts text p) is)

pub no_counts : (at : ℕ) (rest text : List ℕ) (p : ProgramParts) (k : TextFault) (f : ImageFault) → counts_in at rest ≡ Err k → f ≡ fault_of k → ◌≡◌ {A = Answer} (Err f) (counts_read text p at rest)
no_counts at rest text p k f is same = ap (λ (g : ImageFault). let a : Answer = Err g in a) same ∙ sym (ap (with_counts text p) is)

pub by_state : (text : List ℕ) (p : ProgramParts) (c : Counts) (q : Parts) (i : Image) → state_in p c.next c.at c.rest ≡ Ok q → i ≡ image_with text p c q → ◌≡◌ {A = Answer} (Ok i) (state_read text p c)
by_state text p c q i is same = ap (λ (j : Image). let a : Answer = Ok j in a) same ∙ sym (ap (with_state text p c) is)

pub no_state : (text : List ℕ) (p : ProgramParts) (c : Counts) (k : TextFault) (f : ImageFault) → state_in p c.next c.at c.rest ≡ Err k → f ≡ fault_of k → ◌≡◌ {A = Answer} (Err f) (state_read text p c)
no_state text p c k f is same = ap (λ (g : ImageFault). let a : Answer = Err g in a) same ∙ sym (ap (with_state text p c) is)

-- what read_image says of an answer
pub answer_image : (bytes : List ℕ) (r : Answer) → Fits (IsRead bytes) r → MatchResult r (IsImageText bytes) (λ _. Unit {0})
answer_image bytes (Ok i) h = image_was bytes i h
answer_image bytes (Err k) h = tt

pub answer_whole : (bytes : List ℕ) (i : Image) (r : Answer) → IsImageText bytes i → Fits (IsRead bytes) r → MatchResult r (λ j. j ≡ i) (λ k. k ≡ NoMemory)
answer_whole bytes i (Ok j) text h = let same : ◌≡◌ {A = Answer} (Ok j) (Ok i) = image_back bytes i (Ok j) text h in cc
answer_whole bytes i (Err k) text (inl none) = none
answer_whole bytes i (Err k) text (inr h) = absurd (let no : ◌≡◌ {A = Answer} (Err k) (Ok i) = image_back bytes i (Err k) text h in cc)

pub answer_fault : (bytes : List ℕ) (r : Answer) → Fits (IsRead bytes) r → MatchResult r (λ _. Unit {0}) (λ k. (k ≡ NoMemory) ⊎ IsRead bytes (Err k))
answer_fault bytes (Ok i) h = tt
answer_fault bytes (Err k) h = h
