-- Which bytes are synced, of bytes that are appended to, synced or cut.
use Rattle.std.proofs.Common.{◌≡◌, ◌≤◌, ℕ, zero, suc, List, [], ◌∷◌, ◌++◌, length, take, drop, min, arith, refl, sym, ap, subst, ◌∙◌, append-nil, take-append-drop, Result, Ok, is_ok, if◌then◌else◌}
use Rattle.std.specs.Prelude.{Option, Some, None}
use Rattle.std.proofs.lemmas.List.{take_all, take_min, take-take, take-append-le}
use Rattle.log_file.specs.Disk.{Disk, IsFront}
use Rattle.log_file.specs.Told.{AppendsFront, SyncsFront, appended}

-- the first of the first bytes
pub take_of_take : (n f : ℕ) (bytes : List ℕ) → take n (take f bytes) ≡ take (min n f) bytes
take_of_take zero f bytes = let on : zero ≡ min zero f = omega arith in ap (λ k. take k bytes) on
take_of_take (suc n) zero bytes = let on : zero ≡ min (suc n) zero = omega arith in ap (λ k. take k bytes) on
take_of_take (suc n) (suc f) [] = sym (take_all (min (suc n) (suc f)) [] (omega arith))
take_of_take (suc n) (suc f) (x ∷ bytes) =
    let on : suc (min n f) ≡ min (suc n) (suc f) = omega arith in
    ap (λ l. x ∷ l) (take_of_take n f bytes) ∙ ap (λ k. take k (x ∷ bytes)) on

-- the synced bytes of those that a cut leaves
pub firm_cut : (f n : ℕ) (bytes : List ℕ) → take (min f (min n (length bytes))) (take (min n (length bytes)) bytes) ≡ take n (take f bytes)
firm_cut f n bytes =
    let on : min f (min n (length bytes)) ≡ min (min n f) (length bytes) = omega arith in
    take-take (min f (min n (length bytes))) (min n (length bytes)) bytes (omega arith) ∙ ap (λ k. take k bytes) on ∙ take_min (min n f) bytes
    ∙ sym (take_of_take n f bytes)

-- of bytes that grow
pub firm_append : (f : ℕ) (bytes piece : List ℕ) → f ≤ length bytes → take f (bytes ++ piece) ≡ take f bytes
firm_append f bytes piece le = take-append-le f bytes piece le

-- and of all
pub firm_all : (bytes : List ℕ) → take (length bytes) bytes ≡ bytes
firm_all bytes = take_all (length bytes) bytes (omega arith)

pub front_same : (bytes : List ℕ) → IsFront bytes bytes
front_same bytes = record { back = []; is = sym (append-nil bytes) }

-- the same with other bytes to see
abbrev seen_in : Disk → List ℕ → Disk
seen_in disk bytes = record disk { seen = bytes }

-- a call that does nothing
pub appends_nothing : (told : Option Disk) (piece : List ℕ) → AppendsFront told told piece
appends_nothing None piece = record { front = []; back = piece; split = refl; fact = refl }
appends_nothing (Some disk) piece = record {
  front = [];
  back = piece;
  split = refl;
  fact = ap (λ bytes. Some (seen_in disk bytes)) (sym (append-nil disk.seen));
}

pub syncs_nothing : (told : Option Disk) → SyncsFront told told
syncs_nothing None = tt
syncs_nothing (Some disk) = record { seen = refl; more = front_same disk.firm; front = λ h. h }

-- bytes of which the first f are synced
abbrev pub held : ℕ → List ℕ → Disk
held f bytes = record { seen = bytes; firm = take f bytes }

-- the same bytes to see with others that are synced
abbrev firm_in : List ℕ → List ℕ → Disk
firm_in seen firm = record { seen = seen; firm = firm }

held_append : (f : ℕ) (bytes piece : List ℕ) → f ≤ length bytes → held f (bytes ++ piece) ≡ appended piece (held f bytes)
held_append f bytes piece le = ap (λ firm. firm_in (bytes ++ piece) firm) (firm_append f bytes piece le)

-- a Vec that took a piece has it at its end
pub grew_whole : {V E : Type 0} (r : Result V E) (x : V) (bytes grown piece : List ℕ) → r ≡ Ok x → grown ≡ (if is_ok r then (bytes ++ piece) else bytes)
    → grown ≡ bytes ++ piece
grew_whole r x bytes grown piece ok is = subst (λ q. grown ≡ (if is_ok q then (bytes ++ piece) else bytes)) ok is

-- a call that takes the first n bytes of a piece
pub appends_first : (old new : Disk) (f n : ℕ) (bytes grown piece : List ℕ) → held f bytes ≡ old → new ≡ held f grown → grown ≡ bytes ++ take n piece
    → f ≤ length bytes → AppendsFront (Some old) (Some new) piece
appends_first old new f n bytes grown piece before after is le =
    let grew : new ≡ appended (take n piece) old =
    after ∙ ap (λ l. held f l) is ∙ held_append f bytes (take n piece) le ∙ ap (λ disk. appended (take n piece) disk) before in
    record { front = take n piece; back = drop n piece; split = take-append-drop n piece; fact = ap (λ disk. Some disk) grew }
