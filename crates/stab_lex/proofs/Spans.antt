-- The tokens of a reading are slices of its bytes, in order.
use Rattle.std.proofs.Common.{◌≡◌, ℕ, ◌+◌, ◌-◌, ◌<◌, ◌≤◌, true, None, Some, Option, List, [], ◌∷◌, ◌++◌, length, take, drop, refl, sym, ap, ◌∙◌, arith, subst, append_assoc, append-nil, zero-add, length-append, encode_utf8_all}
use Rattle.std.specs.List.{AllByRecursion, slice_range}
use Rattle.std.specs.Str.{all_scalars, chars}
use Rattle.std.proofs.Math.Seq.{take-append_seam, drop-append_seam}
use Rattle.std.proofs.lemmas.Str.{encodes-append, encodes-chars, chars-encodes, scalars-chars, length-le-encodes}
use Rattle.std.proofs.lemmas.Bool.{and_parts, and_from}
use Rattle.stab_lex.specs.declared.kind.Kind.{Kind}
use Rattle.stab_lex.specs.declared.token.Token.{Token}
use Rattle.stab_lex.specs.Place.{byte_len}
use Rattle.stab_lex.specs.Pieces.{Piece, spelling, kind_of, Stands}
use Rattle.stab_lex.specs.Readings.{spellings, AllStand, token_of, tokens_at, Reads, InOrder, IsSlice}
use Rattle.stab_lex.proofs.Lengths.{byte_len-append}
use Rattle.stab_lex.proofs.Progress.{some_spelling}

some_bytes : (p : Piece) (after : List ℕ) → Stands p after → 0 < byte_len (spelling p)
some_bytes p after stands = omega (arith, some_spelling p after stands, length-le-encodes (spelling p))

InOrder-earlier : (a b : ℕ) (ts : List Token) (len : ℕ) → a ≤ b → InOrder b ts len → InOrder a ts len
InOrder-earlier a b [] len earlier order = omega arith
InOrder-earlier a b (t ∷ ts) len earlier order = let from = order.0 in (omega arith, order.1, order.2)

in_order_step : (at width len : ℕ) (later : List Token) → 0 < width → InOrder (at + width) later len → (kind : Option Kind) → InOrder at (token_of kind at (at + width) ++ later) len
in_order_step at width len later wide rest None = InOrder-earlier at (at + width) later len (omega arith) rest
in_order_step at width len later wide rest (Some k) = (omega arith, omega arith, rest)

in_order_of : (ps : List Piece) (at : ℕ) (after : List ℕ) → AllStand ps after → InOrder at (tokens_at at ps) (at + byte_len (spellings ps))
in_order_of [] at after stand = omega arith
in_order_of (p ∷ ps) at after stand =
    let width : ℕ = byte_len (spelling p) in
    let further : at + width + byte_len (spellings ps) ≡ at + byte_len (spelling p ++ spellings ps) = omega (arith, byte_len-append (spelling p) (spellings ps)) in
    let rest : InOrder (at + width) (tokens_at (at + width) ps) (at + byte_len (spelling p ++ spellings ps)) =
    subst (InOrder (at + width) (tokens_at (at + width) ps)) further (in_order_of ps (at + width) after stand.1) in
    in_order_step at width (at + byte_len (spelling p ++ spellings ps)) (tokens_at (at + width) ps) (some_bytes p (spellings ps ++ after) stand.0) rest (kind_of p)

-- a slice in the middle
middle : (front mid back : List ℕ) → slice_range (front ++ (mid ++ back)) (length front) (length front + length mid) ≡ mid
middle front mid back =
    let span : length front + length mid - length front ≡ length mid = omega arith in
    (λ i. take (span i) (drop-append_seam front (mid ++ back) i)) ∙ take-append_seam mid back

slices_step : (bytes : List ℕ) (p : Piece) (start end : ℕ) (later : List Token) → Stands p (chars (drop end bytes)) → start < end → end ≤ length bytes → slice_range bytes start end ≡ encode_utf8_all (spelling p) → all_scalars (spelling p) ≡ true → AllByRecursion (IsSlice bytes) later → (kind : Option Kind) → kind_of p ≡ kind → AllByRecursion (IsSlice bytes) (token_of kind start end ++ later)
slices_step bytes p start end later stands some inside here scalar rest None is = rest
slices_step bytes p start end later stands some inside here scalar rest (Some k) is =
    (record { some = some; inside = inside; piece = p; stands = stands; kind_is = is; bytes_are = here; utf8 = (spelling p, (scalar, sym here)) }, rest)

scalar_parts : (xs ys : List ℕ) → all_scalars (xs ++ ys) ≡ true → (all_scalars xs ≡ true) × (all_scalars ys ≡ true)
scalar_parts [] ys e = (refl, e)
scalar_parts (x ∷ xs) ys e =
    let parts = and_parts _ _ e in
    let more = scalar_parts xs ys parts.1 in
    (and_from _ _ parts.0 more.0, more.1)

slices_of : (bytes : List ℕ) (ps : List Piece) (front : List ℕ) → AllStand ps [] → all_scalars (spellings ps) ≡ true → bytes ≡ front ++ encode_utf8_all (spellings ps) → AllByRecursion (IsSlice bytes) (tokens_at (length front) ps)
slices_of bytes [] front stand scalar whole = tt
slices_of bytes (p ∷ ps) front stand scalar whole =
    let mid : List ℕ = encode_utf8_all (spelling p) in
    let end : ℕ = length front + byte_len (spelling p) in
    let scalars = scalar_parts (spelling p) (spellings ps) scalar in
    let parted : bytes ≡ front ++ (mid ++ encode_utf8_all (spellings ps)) = whole ∙ ap (λ bs. front ++ bs) (encodes-append (spelling p) (spellings ps)) in
    let here : slice_range bytes (length front) end ≡ mid = ap (λ bs. slice_range bs (length front) end) parted ∙ middle front mid (encode_utf8_all (spellings ps)) in
    let regrouped : bytes ≡ (front ++ mid) ++ encode_utf8_all (spellings ps) = parted ∙ sym (append_assoc front mid (encode_utf8_all (spellings ps))) in
    let tail : drop end bytes ≡ encode_utf8_all (spellings ps) = (λ i. drop (sym (length-append front mid) i) (regrouped i)) ∙ drop-append_seam (front ++ mid) (encode_utf8_all (spellings ps)) in
    let behind : spellings ps ++ [] ≡ chars (drop end bytes) = append-nil (spellings ps) ∙ sym (chars-encodes (spellings ps) scalars.1) ∙ ap chars (sym tail) in
    let later = slices_of bytes ps (front ++ mid) stand.1 scalars.1 regrouped in
    let rest : AllByRecursion (IsSlice bytes) (tokens_at end ps) = subst (λ n. AllByRecursion (IsSlice bytes) (tokens_at n ps)) (length-append front mid) later in
    let some : length front < end = omega (arith, some_bytes p (spellings ps ++ []) stand.0) in
    let inside : end ≤ length bytes = omega (arith, ap length parted, length-append front (mid ++ encode_utf8_all (spellings ps)), length-append mid (encode_utf8_all (spellings ps))) in
    slices_step bytes p (length front) end (tokens_at end ps) (subst (Stands p) behind stand.0) some inside here scalars.0 rest (kind_of p) refl

whole_of : {bytes : List ℕ} {tokens : List Token} (r : Reads bytes tokens) → bytes ≡ encode_utf8_all (spellings r.pieces)
whole_of {bytes} r = sym (encodes-chars bytes r.utf8) ∙ ap encode_utf8_all r.text

pub reads_in_order : {bytes : List ℕ} {tokens : List Token} → Reads bytes tokens → InOrder 0 tokens (length bytes)
reads_in_order {bytes} {tokens} r =
    let len : byte_len (spellings r.pieces) ≡ length bytes = sym (ap length (whole_of r)) in
    subst (λ ts. InOrder 0 ts (length bytes)) (sym r.tokens_are)
    (subst (InOrder 0 (tokens_at 0 r.pieces)) (zero-add (byte_len (spellings r.pieces)) ∙ len) (in_order_of r.pieces 0 [] r.stand))

pub reads_slices : {bytes : List ℕ} {tokens : List Token} → Reads bytes tokens → AllByRecursion (IsSlice bytes) tokens
reads_slices {bytes} {tokens} r =
    subst (AllByRecursion (IsSlice bytes)) (sym r.tokens_are) (slices_of bytes r.pieces [] r.stand (ap all_scalars (sym r.text) ∙ scalars-chars bytes r.utf8) (whole_of r))
