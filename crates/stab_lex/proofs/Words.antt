-- A name that was read is the next piece.
use Rattle.std.proofs.Common.{◌≡◌, ℕ, ◌-◌, ◌≤◌, Some, List, [], ◌∷◌, ◌++◌, length, take, ap, ◌∙◌, arith, encode_utf8_all, length-append}
use Rattle.std.specs.Prelude.{IsTrue}
use Rattle.std.proofs.Math.Seq.{take-append_seam}
use Rattle.std.proofs.lemmas.Str.{encodes-append}
use Rattle.stab_lex.specs.declared.kind.Kind.{Kind}
use Rattle.stab_lex.specs.Kinds.{name_kind}
use Rattle.stab_lex.specs.Place.{Place, Leads, byte_len}
use Rattle.stab_lex.specs.Pieces.{Word, Stops, starts_name, continues_name}
use Rattle.stab_lex.specs.Readings.{Passes}
use Rattle.stab_lex.proofs.Ways.{Run, Leads-append}

-- the bytes on a way are the front of those from its beginning on
pub front_of : {cs : List ℕ} {old new : Place} → Leads cs old new → encode_utf8_all old.rest ≡ encode_utf8_all cs ++ encode_utf8_all new.rest
front_of {cs} {old} {new} way = ap encode_utf8_all way.text ∙ encodes-append cs new.rest

pub bytes_on : {cs : List ℕ} {old new : Place} → Leads cs old new → take (new.at - old.at) (encode_utf8_all old.rest) ≡ encode_utf8_all cs
bytes_on {cs} {old} {new} way =
    let span : new.at - old.at ≡ byte_len cs = omega (arith, way.at) in
    ap (λ n. take n (encode_utf8_all old.rest)) span ∙ ap (λ bs. take (byte_len cs) bs) (front_of way) ∙ take-append_seam (encode_utf8_all cs) (encode_utf8_all new.rest)

pub span_fits : {cs : List ℕ} {old new : Place} → Leads cs old new → (old.at ≤ new.at) × (new.at - old.at ≤ length (encode_utf8_all old.rest))
span_fits {cs} {old} {new} way =
    (omega (arith, way.at), omega (arith, way.at, ap length (front_of way), length-append (encode_utf8_all cs) (encode_utf8_all new.rest)))

pub word_passes : {old mid new : Place} {c : ℕ} (kind : Kind) → Leads (c ∷ []) old mid → (run : Run continues_name mid new) → Stops continues_name new.rest → IsTrue (starts_name c) → kind ≡ name_kind (take (new.at - old.at) (encode_utf8_all old.rest)) → Passes (Some kind) old new
word_passes {old} {mid} {new} {c} kind step run stops starts is =
    let way : Leads (c ∷ run.passed) old new = Leads-append step run.way in
    record {
      piece = Word (c ∷ run.passed);
      way = way;
      stands = ((starts, run.pass), stops);
      kind_is = ap Some (is ∙ ap name_kind (bytes_on way));
    }
