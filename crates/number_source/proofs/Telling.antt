-- What was told of an input so far.
use Rattle.std.proofs.Common.{◌≡◌, ◌≢◌, ℕ, ℤ, Bool, true, false, List, [], ◌∷◌, ◌++◌, Option, None, Some, Result, Ok, refl, ap, sym, subst, ◌∙◌, append_assoc, append-nil, inl, inr, if◌then◌else◌}
use Rattle.std.proofs.lemmas.Bool.{false≢true}
use Rattle.std.specs.Prelude.{IfSome}
use Rattle.std.specs.Io.Iter.{YieldsKnownByte}
use Rattle.std.specs.Io.KnownBytes.{Consumes, IsAtEnd}
use Rattle.number_source.specs.declared.came.Came.{Came}
use Rattle.number_source.specs.declared.came.Came.TheVariants.{Number, Nothing, End, Bad, Failed}
use Rattle.number_source.specs.Input.{IsTold, followed}

-- the rest of a known input is known, and what the whole is answered as is what was told and then what the rest is answered as
pub record Tells (left : Option (List ℕ)) (now : List ℕ → List Came) (answers old new : List Came) : Type 0 where
  pub rest : List ℕ
  pub left_is : left ≡ Some rest
  pub told : List Came
  pub answers_are : answers ≡ told ++ now rest
  pub new_is : new ≡ old ++ told

-- a byte that an iterator gave was read
pub read_byte : {E : Type 0} (before after : Option (List ℕ)) (item : Result ℕ E) (b : ℕ) → YieldsKnownByte before (Some item) after → item ≡ Ok b → Consumes before after (b ∷ [])
read_byte before after item b yields is = subst (λ r. YieldsKnownByte before (Some r) after) is yields

-- what holds of a value wherever it is known
pub where_known : (known : Option (List ℕ)) (P : List ℕ → Type 0) → ((bytes : List ℕ) → known ≡ Some bytes → P bytes) → IfSome known P
where_known None P f = tt
where_known (Some bytes) P f = f bytes refl

-- nothing was read
pub tells_nothing : (left : Option (List ℕ)) (now : List ℕ → List Came) (bytes : List ℕ) (old : List Came) → left ≡ Some bytes → Tells left now (now bytes) old old
tells_nothing left now bytes old is = record { rest = bytes; left_is = is; told = []; answers_are = refl; new_is = sym (append-nil old) }

-- a byte that was read is the first of the rest
first_read : (rest : List ℕ) (left : Option (List ℕ)) (b : ℕ) → Consumes (Some rest) left (b ∷ []) → (others : List ℕ) × (left ≡ Some others) × (rest ≡ b ∷ others)
first_read rest None b read = absurd read
first_read rest (Some others) b read = (others, refl, read)

-- all was told
pub told_whole : (answers old new : List Came) → new ≡ old ++ answers → IsTold answers old new
told_whole answers old new is = record { front = answers; rest = []; end = []; split = sym (append-nil answers); told = is ∙ ap (λ (xs : List Came). old ++ xs) (sym (append-nil answers)); last = inl refl }

-- nothing was told
pub told_nothing : (answers old new : List Came) → new ≡ old → IsTold answers old new
told_nothing answers old new is = record { front = []; rest = answers; end = []; split = refl; told = is ∙ sym (append-nil old); last = inl refl }

-- the first answers were told
pub told_front : (answers old new front rest : List Came) → answers ≡ front ++ rest → new ≡ old ++ front → IsTold answers old new
told_front answers old new front rest split is = record { front = front; rest = rest; end = []; split = split; told = is ∙ ap (λ (xs : List Came). old ++ xs) (sym (append-nil front)); last = inl refl }

-- an answer that is neither nothing nor a number is the last
pub followed_last : (answer : Came) (others : List Came) → answer ≢ Nothing → ((n : ℤ) → answer ≢ Number n) → followed answer others ≡ answer ∷ []
followed_last (Number n) others something no_number = absurd (no_number n refl)
followed_last Nothing others something no_number = absurd (something refl)
followed_last End others something no_number = refl
followed_last (Bad at) others something no_number = refl
followed_last Failed others something no_number = refl

-- a number is followed by what comes after it
followed_number : (answer : Came) (n : ℤ) (others : List Came) → answer ≡ Number n → followed answer others ≡ answer ∷ others
followed_number answer n others is = ap (λ a. followed a others) is ∙ ap (λ (a : Came). a ∷ others) (sym is)

module _ (before after : Option (List ℕ)) (now next : List ℕ → List Came) (answers old mid : List Came) (b : ℕ) (t : Tells before now answers old mid) (read : Consumes before after (b ∷ [])) where
  pub split : (others : List ℕ) × (after ≡ Some others) × (t.rest ≡ b ∷ others)
  split = first_read t.rest after b (subst (λ (k : Option (List ℕ)). Consumes k after (b ∷ [])) t.left_is read)

  answers_split : (answer : Came) → ((rest : List ℕ) → now (b ∷ rest) ≡ followed answer (next rest)) → answers ≡ t.told ++ followed answer (next split.0)
  answers_split answer step = t.answers_are ∙ ap (λ (xs : List ℕ). t.told ++ now xs) split.2 ∙ ap (λ (xs : List Came). t.told ++ xs) (step split.0)

  -- it made nothing known
  pub tells_on : (answer : Came) → ((rest : List ℕ) → now (b ∷ rest) ≡ followed answer (next rest)) → answer ≡ Nothing → Tells after next answers old mid
  tells_on answer step is = record {
    rest = split.0;
    left_is = split.1;
    told = t.told;
    answers_are = answers_split answer step ∙ ap (λ a. t.told ++ followed a (next split.0)) is;
    new_is = t.new_is;
  }

  -- it made a number known, which was put
  pub tells_number : (answer : Came) (n : ℤ) (new : List Came) → ((rest : List ℕ) → now (b ∷ rest) ≡ followed answer (next rest)) → answer ≡ Number n
      → new ≡ mid ++ answer ∷ [] → Tells after next answers old new
  tells_number answer n new step is put = record {
    rest = split.0;
    left_is = split.1;
    told = t.told ++ answer ∷ [];
    answers_are = answers_split answer step ∙ ap (λ (xs : List Came). t.told ++ xs) (followed_number answer n (next split.0) is) ∙ sym (append_assoc t.told (answer ∷ []) (next split.0));
    new_is = put ∙ ap (λ (xs : List Came). xs ++ answer ∷ []) t.new_is ∙ append_assoc old t.told (answer ∷ []);
  }

  -- it made a number known, which wasn't put
  pub tells_no_more : (answer : Came) → ((rest : List ℕ) → now (b ∷ rest) ≡ followed answer (next rest)) → IsTold answers old mid
  tells_no_more answer step = record { front = t.told; rest = followed answer (next split.0); end = []; split = answers_split answer step; told = t.new_is ∙ ap (λ (xs : List Came). old ++ xs) (sym (append-nil t.told)); last = inl refl }

  last_split : (answer : Came) → ((rest : List ℕ) → now (b ∷ rest) ≡ followed answer (next rest)) → answer ≢ Nothing → ((n : ℤ) → answer ≢ Number n) → answers ≡ t.told ++ answer ∷ []
  last_split answer step something no_number = answers_split answer step ∙ ap (λ (xs : List Came). t.told ++ xs) (followed_last answer (next split.0) something no_number)

  -- it made the last answer known, which was put
  pub tells_last : (answer : Came) (new : List Came) (result : Bool) → ((rest : List ℕ) → now (b ∷ rest) ≡ followed answer (next rest)) → answer ≢ Nothing → ((n : ℤ) → answer ≢ Number n)
      → new ≡ (if result then mid ++ answer ∷ [] else mid) → result ≡ true → new ≡ old ++ answers
  tells_last answer new true step something no_number put _ = put ∙ ap (λ (xs : List Came). xs ++ answer ∷ []) t.new_is ∙ append_assoc old t.told (answer ∷ [])
      ∙ ap (λ (xs : List Came). old ++ xs) (sym (last_split answer step something no_number))
  tells_last answer new false step something no_number put is = absurd (false≢true is)

  -- or it wasn't
  pub tells_last_part : (answer : Came) (new : List Came) (result : Bool) → ((rest : List ℕ) → now (b ∷ rest) ≡ followed answer (next rest)) → answer ≢ Nothing → ((n : ℤ) → answer ≢ Number n)
      → new ≡ (if result then mid ++ answer ∷ [] else mid) → IsTold answers old new
  tells_last_part answer new true step something no_number put = told_whole answers old new (tells_last answer new true step something no_number put refl)
  tells_last_part answer new false step something no_number put = told_front answers old new t.told (answer ∷ []) (last_split answer step something no_number) (put ∙ t.new_is)

-- a read failed
pub tells_failed : (left : Option (List ℕ)) (now : List ℕ → List Came) (answers old mid new : List Came) (result : Bool) → Tells left now answers old mid
    → new ≡ (if result then mid ++ Failed ∷ [] else mid) → IsTold answers old new
tells_failed left now answers old mid new true t put = record { front = t.told; rest = now t.rest; end = Failed ∷ []; split = t.answers_are; told = put ∙ ap (λ (xs : List Came). xs ++ Failed ∷ []) t.new_is ∙ append_assoc old t.told (Failed ∷ []); last = inr refl }
tells_failed left now answers old mid new false t put = told_front answers old new t.told (now t.rest) t.answers_are (put ∙ t.new_is)

-- the input has ended
at_end : (rest : List ℕ) (left : Option (List ℕ)) → left ≡ Some rest → IsAtEnd left → rest ≡ []
at_end rest left is end = subst IsAtEnd is end

pub tells_end : (left : Option (List ℕ)) (now : List ℕ → List Came) (answers old mid : List Came) (t : Tells left now answers old mid) → IsAtEnd left → answers ≡ t.told ++ now []
tells_end left now answers old mid t end = t.answers_are ∙ ap (λ (xs : List ℕ). t.told ++ now xs) (at_end t.rest left t.left_is end)

pub ended_whole : (left : Option (List ℕ)) (now : List ℕ → List Came) (answers old mid new : List Came) → Tells left now answers old mid → IsAtEnd left → new ≡ mid ++ now [] → new ≡ old ++ answers
ended_whole left now answers old mid new t end put = put ∙ ap (λ (xs : List Came). xs ++ now []) t.new_is ∙ append_assoc old t.told (now []) ∙ ap (λ (xs : List Came). old ++ xs) (sym (tells_end left now answers old mid t end))

pub ended_part : (left : Option (List ℕ)) (now : List ℕ → List Came) (answers old mid new : List Came) → Tells left now answers old mid → IsAtEnd left → IsTold (now []) mid new → IsTold answers old new
ended_part left now answers old mid new t end part = record {
  front = t.told ++ part.front;
  rest = part.rest;
  end = part.end;
  split = tells_end left now answers old mid t end ∙ ap (λ (xs : List Came). t.told ++ xs) part.split ∙ sym (append_assoc t.told part.front part.rest);
  told = part.told ∙ ap (λ (xs : List Came). xs ++ (part.front ++ part.end)) t.new_is ∙ append_assoc old t.told (part.front ++ part.end)
      ∙ ap (λ (xs : List Came). old ++ xs) (sym (append_assoc t.told part.front part.end));
  last = part.last;
}
