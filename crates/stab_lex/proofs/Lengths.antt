-- How many bytes characters take.
use Rattle.std.proofs.Common.{◌≡◌, ℕ, ◌+◌, List, [], ◌∷◌, ◌++◌, length, ap, ◌∙◌, append-nil, length-append, encode_utf8, encode_utf8_all}
use Rattle.std.specs.Char.{len_utf8}
use Rattle.std.proofs.lemmas.Str.{encodes-append, length-encode}
use Rattle.stab_lex.specs.Place.{byte_len}

pub byte_len-one : (c : ℕ) → byte_len (c ∷ []) ≡ len_utf8 c
byte_len-one c = ap length (append-nil (encode_utf8 c)) ∙ length-encode c

pub byte_len-append : (xs ys : List ℕ) → byte_len (xs ++ ys) ≡ byte_len xs + byte_len ys
byte_len-append xs ys = ap length (encodes-append xs ys) ∙ length-append (encode_utf8_all xs) (encode_utf8_all ys)
