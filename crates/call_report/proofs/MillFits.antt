-- The mill's text and its script are within the limits.
use Rattle.std.proofs.Common.{◌≡◌, ℕ, ◌+◌, ◌≤◌, List, ◌++◌, length, codes, refl, arith, length-append}
use Rattle.std.specs.Prelude.{decimal}
use Rattle.std.proofs.lemmas.Fmt.{length-decimal-le_succ}
use Rattle.std.proofs.lemmas.List.FromFn.{length-map-range_with_len}
use Rattle.mill_text.specs.Mill.{functions, mill_script, mill_text, probe_number}

five_lengths : (a b c d e : List ℕ) → length (a ++ b ++ c ++ d ++ e) ≡ length a + length b + length c + length d + length e
five_lengths a b c d e =
    let one = length-append (a ++ b ++ c ++ d) e in
    let two = length-append (a ++ b ++ c) d in
    let three = length-append (a ++ b) c in
    let four = length-append a b in
    omega (arith, one, two, three, four)

pub text_fits : (n : ℕ) → n ≤ 10000 → length (mill_text n) ≤ 1048576
text_fits n few =
    let all = five_lengths functions (decimal n) (codes ", o); print(sum(") (decimal n) (codes ", o, 0)) }\n") in
    let number : length (decimal n) ≤ n + 1 = length-decimal-le_succ n (omega (arith, few)) in
    let a : length functions ≡ 594 = refl in
    let b : length (codes ", o); print(sum(") ≡ 16 = refl in
    let c : length (codes ", o, 0)) }\n") ≡ 11 = refl in
    omega (arith, all, number, a, b, c, few)

pub script_fits : (n : ℕ) → n ≤ 10000 → length (mill_script n) ≤ 524288
script_fits n few = let same : length (mill_script n) ≡ n = length-map-range_with_len probe_number 1 n in omega (arith, same, few)
