-- The script and the next numbers are read from their text and from no other bytes.
use Rattle.std.proofs.Common.{◌≡◌, ℕ, ℤ, zero, suc, ◌+◌, List, [], ◌∷◌, ◌++◌, length, Option, Some, None, Result, Ok, Err, refl, sym, ap, subst, ◌∙◌, arith, append_assoc}
use Rattle.std.specs.List.{AllByRecursion, flat_map}
use Rattle.std.specs.Fmt.{signed_decimal}
use Rattle.std.proofs.lemmas.List.{length-append}
use Rattle.text_lines.specs.Lines.{split}
use Rattle.image_text.specs.ImageText.{line, number_line}
use Rattle.image_text.specs.declared.fault.LineFault.{LineFault}
use Rattle.image_lines.specs.declared.body.TextFault.{TextFault}
use Rattle.image_lines.specs.declared.body.TextFault.TheVariants.{At, NoEnd}
use Rattle.image_lines.specs.declared.head.Next.{Next}
use Rattle.image_lines.specs.declared.head.Probes.{Probes}
use Rattle.image_lines.specs.Counts.{Counts, Script, after_script, behind, by_next, by_probe, by_probes, counts_in, followed, next_line, probe_line, probes_line, script_in}
use Rattle.image_lines.specs.CountsText.{AreCounts, IsCounted, IsFound}
use Rattle.image_lines.specs.Head.{next_in, probe_in, probes_in}
use Rattle.image_lines.specs.HeadText as text
use Rattle.image_lines.specs.HeadText.{AreNext, AreProbes, IsProbe}
use Rattle.image_lines.specs.Opening.{cut_line}
use Rattle.image_lines.proofs.CutLines.{cut_back, cut_was}
use Rattle.image_lines.proofs.HeadRead.{next_exact, probe_exact, probes_exact}
use Rattle.image_lines.proofs.HeadWritten.{next_back, next_whole, probe_back, probe_whole, probes_back, probes_whole}

abbrev script_of : List ℤ → ℕ → List ℕ → Script
script_of zs at rest = record { numbers = zs; at = at; rest = rest }

line_front : (a rest : List ℕ) → line a ++ rest ≡ a ++ (10 ∷ rest)
line_front a rest = append_assoc a (10 ∷ []) rest

-- the numbers of a script are read back, up to some place
script_back : (zs : List ℤ) (at : ℕ) (rest : List ℕ) → AllByRecursion IsProbe zs → (place : ℕ) × (script_in (length zs) at (flat_map number_line zs ++ rest) ≡ Ok (script_of zs place rest))
script_back [] at rest right = (at, refl)
script_back (z ∷ zs) at rest right =
    let others = flat_map number_line zs ++ rest in
    let next = at + length (text.probe_text z) + 1 in
    let later = script_back zs next rest right.1 in (
      later.0,
      ap (script_in (suc (length zs)) at) (append_assoc (number_line z) (flat_map number_line zs) rest ∙ line_front (signed_decimal z) (flat_map number_line zs ++ rest))
          ∙ ap (λ (o : Option (List ℕ × List ℕ)). probe_line at o (script_in (length zs))) (cut_back (signed_decimal z) (flat_map number_line zs ++ rest) (probe_whole z right.0))
          ∙ ap (λ (r : Result ℤ LineFault). by_probe r at (script_in (length zs) (at + length (signed_decimal z) + 1) (flat_map number_line zs ++ rest))) (probe_back z right.0)
          ∙ ap (behind (z ∷ [])) later.1,
    )

pub counts_back : (at : ℕ) (c : Counts) → AreCounts c → IsFound at c
counts_back at c right =
    let p : Probes = record { count = length c.script; used = c.used } in
    let numbers = flat_map number_line c.script in
    let last = text.next_text c.next in
    let tail = last ++ (10 ∷ c.rest) in
    let start = at + length (text.probes_text p) + 1 in
    let script = script_back c.script start tail right.script in
    record {
      behind = script.0 + length (text.next_text c.next) + 1;
      found =
          ap (counts_in at)
          (append_assoc (line (text.probes_text p)) numbers (line last ++ c.rest)
          ∙ line_front (text.probes_text p) (numbers ++ (line last ++ c.rest))
          ∙ ap (λ (bs : List ℕ). text.probes_text p ++ (10 ∷ (numbers ++ bs))) (line_front last c.rest))
          ∙ ap (probes_line at) (cut_back (text.probes_text p) (numbers ++ tail) (probes_whole p right.probes))
          ∙ ap (λ (r : Result Probes LineFault). by_probes r at start (numbers ++ tail)) (probes_back p right.probes)
          ∙ ap (after_script c.used) script.1
          ∙ ap (next_line c.used c.script script.0) (cut_back last c.rest (next_whole c.next right.next))
          ∙ ap (λ (r : Result Next LineFault). by_next r c.used c.script script.0 (script.0 + length last + 1) c.rest) (next_back c.next right.next);
    }

abbrev Scripts : Type 0
Scripts = Result Script TextFault

abbrev Found : Type 0
Found = Result Counts TextFault

no_script : {P : Type 0} (k : TextFault) (s : Script) → ◌≡◌ {A = Scripts} (Err k) (Ok s) → P
no_script k s h = absurd (let no : ◌≡◌ {A = Scripts} (Err k) (Ok s) = h in cc)

script_was_so : (a b : Script) → ◌≡◌ {A = Scripts} (Ok a) (Ok b) → a ≡ b
script_was_so a b h = cc

no_counts : {P : Type 0} (k : TextFault) (c : Counts) → ◌≡◌ {A = Found} (Err k) (Ok c) → P
no_counts k c h = absurd (let no : ◌≡◌ {A = Found} (Err k) (Ok c) = h in cc)

counts_were_so : (a b : Counts) → ◌≡◌ {A = Found} (Ok a) (Ok b) → a ≡ b
counts_were_so a b h = cc

-- numbers that were read
record WasScript (n at : ℕ) (bytes : List ℕ) (s : Script) : Type 0 where
  bytes_are : bytes ≡ flat_map number_line s.numbers ++ s.rest
  count : length s.numbers ≡ n
  right : AllByRecursion IsProbe s.numbers
  place : s.at + length s.rest ≡ at + length bytes

one_more : (n at : ℕ) (bytes first others : List ℕ) (z : ℤ) (s : Script) → bytes ≡ first ++ (10 ∷ others) → first ≡ text.probe_text z → IsProbe z → WasScript n (at + length first + 1) others s → WasScript (suc n) at bytes (script_of (z ∷ s.numbers) s.at s.rest)
one_more n at bytes first others z s is named fits later = record {
  bytes_are =
      is ∙ ap (λ (bs : List ℕ). bs ++ (10 ∷ others)) named ∙ ap (λ (bs : List ℕ). signed_decimal z ++ (10 ∷ bs)) later.bytes_are
      ∙ sym (append_assoc (number_line z) (flat_map number_line s.numbers) s.rest ∙ line_front (signed_decimal z) (flat_map number_line s.numbers ++ s.rest));
  count = ap suc later.count;
  right = (fits, later.right);
  place = omega (arith, later.place, ap (λ (bs : List ℕ). length bs) is, length-append first (10 ∷ others));
}

script_was : (n at : ℕ) (bytes : List ℕ) (s : Script) → script_in n at bytes ≡ Ok s → WasScript n at bytes s
script_was zero at bytes s h = subst (WasScript 0 at bytes) (script_was_so (script_of [] at bytes) s h) (record { bytes_are = refl; count = refl; right = tt; place = refl })
script_was (suc n) at bytes s given =
    elim (cut_line bytes) as (λ o. cut_line bytes ≡ o → probe_line at o (script_in n) ≡ Ok s → WasScript (suc n) at bytes s) [
      | None ↦ λ is h. no_script NoEnd s h
      | (Some x) ↦ λ is h. elim (probe_in (split 32 x.0)) as (λ r. probe_in (split 32 x.0) ≡ r → by_probe r at (script_in n (at + length x.0 + 1) x.1) ≡ Ok s → WasScript (suc n) at bytes s) [
        | (Err k) ↦ λ read no. no_script (At k at) s no
        | (Ok z) ↦ λ read more. elim (script_in n (at + length x.0 + 1) x.1) as (λ r. script_in n (at + length x.0 + 1) x.1 ≡ r → behind (z ∷ []) r ≡ Ok s → WasScript (suc n) at bytes s) [
          | (Err k) ↦ λ later no. no_script k s no
          | (Ok t) ↦ λ later k.
              let named = probe_exact x.0 z read in
              subst (WasScript (suc n) at bytes) (script_was_so (script_of (z ∷ t.numbers) t.at t.rest) s k)
              (one_more n at bytes x.0 x.1 z t (cut_was bytes x.0 x.1 is) named.0 named.1 (script_was n (at + length x.0 + 1) x.1 t later))
        ] refl more
      ] refl h
    ] refl given

-- the next numbers behind a script
followed_was : (p : Probes) (start : ℕ) (bytes : List ℕ) (s : Script) (c : Counts) → AreProbes p → WasScript p.count start bytes s → followed p.used s ≡ Ok c
    → (bytes ≡ flat_map number_line c.script ++ (line (text.next_text c.next) ++ c.rest)) × (length c.script ≡ p.count) × (c.used ≡ p.used) × AllByRecursion IsProbe c.script × AreNext c.next × (c.at + length c.rest ≡ start + length bytes)
followed_was p start bytes s c right was given =
    elim (cut_line s.rest) as (λ o. cut_line s.rest ≡ o → next_line p.used s.numbers s.at o ≡ Ok c → (bytes ≡ flat_map number_line c.script ++ (line (text.next_text c.next) ++ c.rest)) × (length c.script ≡ p.count) × (c.used ≡ p.used) × AllByRecursion IsProbe c.script × AreNext c.next × (c.at + length c.rest ≡ start + length bytes)) [
      | None ↦ λ is h. no_counts NoEnd c h
      | (Some x) ↦ λ is h. elim (next_in (split 32 x.0)) as (λ r. next_in (split 32 x.0) ≡ r → by_next r p.used s.numbers s.at (s.at + length x.0 + 1) x.1 ≡ Ok c → (bytes ≡ flat_map number_line c.script ++ (line (text.next_text c.next) ++ c.rest)) × (length c.script ≡ p.count) × (c.used ≡ p.used) × AllByRecursion IsProbe c.script × AreNext c.next × (c.at + length c.rest ≡ start + length bytes)) [
        | (Err k) ↦ λ read no. no_counts (At k s.at) c no
        | (Ok n) ↦ λ read k.
            let named = next_exact x.0 n read in
            let cut = cut_was s.rest x.0 x.1 is in
            let same = counts_were_so (record { script = s.numbers; used = p.used; next = n; at = s.at + length x.0 + 1; rest = x.1 }) c k in
            subst (λ (d : Counts). (bytes ≡ flat_map number_line d.script ++ (line (text.next_text d.next) ++ d.rest)) × (length d.script ≡ p.count) × (d.used ≡ p.used) × AllByRecursion IsProbe d.script × AreNext d.next × (d.at + length d.rest ≡ start + length bytes)) same (
              was.bytes_are ∙ ap (λ (bs : List ℕ). flat_map number_line s.numbers ++ bs) (cut ∙ ap (λ (bs : List ℕ). bs ++ (10 ∷ x.1)) named.0 ∙ sym (line_front (text.next_text n) x.1)),
              was.count,
              refl,
              was.right,
              named.1,
              omega (arith, was.place, ap (λ (bs : List ℕ). length bs) cut, length-append x.0 (10 ∷ x.1)),
            )
      ] refl h
    ] refl given

-- the numbers of the line before the script
given_by : (p : Probes) (script used : ℕ) → script ≡ p.count → used ≡ p.used → p ≡ record { count = script; used = used }
given_by p script used h k =
    ap (λ (n : ℕ). let q : Probes = record { count = n; used = p.used } in q) (sym h) ∙ ap (λ (n : ℕ). let q : Probes = record { count = script; used = n } in q) (sym k)

pub counts_was : (at : ℕ) (bytes : List ℕ) (c : Counts) → counts_in at bytes ≡ Ok c → IsCounted at bytes c
counts_was at bytes c given =
    elim (cut_line bytes) as (λ o. cut_line bytes ≡ o → probes_line at o ≡ Ok c → IsCounted at bytes c) [
      | None ↦ λ is h. no_counts NoEnd c h
      | (Some x) ↦ λ is h. elim (probes_in (split 32 x.0)) as (λ r. probes_in (split 32 x.0) ≡ r → by_probes r at (at + length x.0 + 1) x.1 ≡ Ok c → IsCounted at bytes c) [
        | (Err k) ↦ λ read no. no_counts (At k at) c no
        | (Ok p) ↦ λ read more. elim (script_in p.count (at + length x.0 + 1) x.1) as (λ r. script_in p.count (at + length x.0 + 1) x.1 ≡ r → after_script p.used r ≡ Ok c → IsCounted at bytes c) [
          | (Err k) ↦ λ scripted no. no_counts k c no
          | (Ok s) ↦ λ scripted k.
              let named = probes_exact x.0 p read in
              let cut = cut_was bytes x.0 x.1 is in
              let was = followed_was p (at + length x.0 + 1) x.1 s c named.1 (script_was p.count (at + length x.0 + 1) x.1 s scripted) k in
              let q : Probes = record { count = length c.script; used = c.used } in
              let same : p ≡ q = given_by p (length c.script) c.used was.1 was.2 in
              let numbers = flat_map number_line c.script in
              let tail = line (text.next_text c.next) ++ c.rest in
              record {
                bytes_are =
                    cut ∙ ap (λ (bs : List ℕ). bs ++ (10 ∷ x.1)) (named.0 ∙ ap text.probes_text same) ∙ ap (λ (bs : List ℕ). text.probes_text q ++ (10 ∷ bs)) was.0
                    ∙ sym (append_assoc (line (text.probes_text q)) numbers tail ∙ line_front (text.probes_text q) (numbers ++ tail));
                right = record { probes = subst AreProbes same named.1; script = was.3; next = was.4 };
                place = omega (arith, was.5, ap (λ (bs : List ℕ). length bs) cut, length-append x.0 (10 ∷ x.1));
              }
        ] refl more
      ] refl h
    ] refl given
