-- How values are printed.
use Rattle.std.specs.Prelude.{ℕ, List, [], ◌++◌, true, false, codes, decimal, slice_get, unwrap_or}
use Rattle.std.specs.Fmt.{signed_decimal}
use Rattle.stab_base.specs.Datum.{Datum, unit, truth, int, text, chan, reference, pair}

-- what a value prints, given the characters of each text
abbrev pub printed : List (List ℕ) → Datum → List ℕ
printed texts unit = codes "()"
printed texts (truth true) = codes "true"
printed texts (truth false) = codes "false"
printed texts (int n) = signed_decimal n
printed texts (text t) = unwrap_or (slice_get texts t) []
printed texts (chan c) = codes "chan " ++ decimal c
printed texts (reference r) = codes "ref " ++ decimal r
printed texts (pair a b) = codes "(" ++ printed texts a ++ codes ", " ++ printed texts b ++ codes ")"
