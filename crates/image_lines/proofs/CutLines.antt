-- What stands before the first line feed.
use Rattle.std.proofs.Common.{◌≡◌, ℕ, true, false, cond, eqb, List, [], ◌∷◌, ◌++◌, Option, Some, None, refl, sym, ap, ◌∙◌}
use Rattle.std.specs.Option.{option_map}
use Rattle.std.proofs.lemmas.Bool.{eqb-true}
use Rattle.text_lines.specs.Lines.{longer, split}
use Rattle.text_lines.proofs.Splits.{lacks, pieces, rejoined, split-first}
use Rattle.image_lines.specs.Opening.{behind_byte, cut_line}

abbrev Cut : Type 0
Cut = Option (List ℕ × List ℕ)

abbrev at_cut : List ℕ → List ℕ → Cut
at_cut a b = Some (a, b)

same_cut : (a b x y : List ℕ) → a ≡ x → b ≡ y → at_cut a b ≡ at_cut x y
same_cut a b x y p q = ap (λ (m : List ℕ). at_cut m b) p ∙ ap (at_cut x) q

first_is : (p q : List ℕ) (ps qs : List (List ℕ)) → p ∷ ps ≡ q ∷ qs → p ≡ q
first_is p q ps qs e = cc

others_are : (p q : List ℕ) (ps qs : List (List ℕ)) → p ∷ ps ≡ q ∷ qs → ps ≡ qs
others_are p q ps qs e = cc

none_left : {P : Type 0} (p : List ℕ) (ps : List (List ℕ)) → [] ≡ p ∷ ps → P
none_left p ps h = absurd (let no : [] ≡ p ∷ ps = h in cc)

-- bytes that have the same lines are the same
pub same_lines : (a b : List ℕ) → split 10 a ≡ split 10 b → a ≡ b
same_lines a b h =
    let p = pieces 10 b in
    rejoined 10 a p.first p.others (h ∙ p.are) ∙ sym (rejoined 10 b p.first p.others p.are)

pub cut_some : (bytes x y : List ℕ) → split 10 bytes ≡ x ∷ split 10 y → cut_line bytes ≡ at_cut x y
cut_some [] x y h =
    let p = pieces 10 y in
    none_left p.first p.others (others_are [] x [] (p.first ∷ p.others) (h ∙ ap (λ (ls : List (List ℕ)). x ∷ ls) p.are))
cut_some (b ∷ bytes) x y given =
    (elim (eqb b 10) as (λ t. cond t ([] ∷ split 10 bytes) (longer b (split 10 bytes)) ≡ x ∷ split 10 y → cond t (at_cut [] bytes) (option_map (behind_byte b) (cut_line bytes)) ≡ at_cut x y) [
      | true ↦ λ h. same_cut [] bytes x y (first_is [] x (split 10 bytes) (split 10 y) h) (same_lines bytes y (others_are [] x (split 10 bytes) (split 10 y) h))
      | false ↦ λ h.
          let p = pieces 10 bytes in
          let whole : (b ∷ p.first) ∷ p.others ≡ x ∷ split 10 y = ap (longer b) (sym p.are) ∙ h in
          ap (option_map (behind_byte b)) (cut_some bytes p.first y (p.are ∙ ap (λ (ls : List (List ℕ)). p.first ∷ ls) (others_are (b ∷ p.first) x p.others (split 10 y) whole)))
          ∙ same_cut (b ∷ p.first) y x y (first_is (b ∷ p.first) x p.others (split 10 y) whole) refl
    ]) given

pub cut_none : (bytes x : List ℕ) → split 10 bytes ≡ x ∷ [] → cut_line bytes ≡ None
cut_none [] x h = refl
cut_none (b ∷ bytes) x given =
    (elim (eqb b 10) as (λ t. cond t ([] ∷ split 10 bytes) (longer b (split 10 bytes)) ≡ x ∷ [] → cond t (at_cut [] bytes) (option_map (behind_byte b) (cut_line bytes)) ≡ None) [
      | true ↦ λ h.
          let p = pieces 10 bytes in
          none_left p.first p.others (sym (others_are [] x (split 10 bytes) [] h) ∙ p.are)
      | false ↦ λ h.
          let p = pieces 10 bytes in
          let whole : (b ∷ p.first) ∷ p.others ≡ x ∷ [] = ap (longer b) (sym p.are) ∙ h in
          ap (option_map (behind_byte b)) (cut_none bytes p.first (p.are ∙ ap (λ (ls : List (List ℕ)). p.first ∷ ls) (others_are (b ∷ p.first) x p.others [] whole)))
    ]) given

-- a line that is written is cut off
pub cut_back : (x rest : List ℕ) → lacks 10 x ≡ true → cut_line (x ++ (10 ∷ rest)) ≡ at_cut x rest
cut_back x rest h = cut_some (x ++ (10 ∷ rest)) x rest (split-first 10 x rest h)

some_cut : (a b x y : List ℕ) → at_cut a b ≡ at_cut x y → (a ≡ x) × (b ≡ y)
some_cut a b x y h =
    let both : ◌≡◌ {A = List ℕ × List ℕ} (a, b) (x, y) = cc in
    (ap (λ (p : List ℕ × List ℕ). p.0) both, ap (λ (p : List ℕ × List ℕ). p.1) both)

no_cut : {P : Type 0} (x y : List ℕ) → ◌≡◌ {A = Cut} None (at_cut x y) → P
no_cut x y h = absurd (let no : ◌≡◌ {A = Cut} None (at_cut x y) = h in cc)

-- and what is cut off stands at the front
pub cut_was : (bytes x y : List ℕ) → cut_line bytes ≡ at_cut x y → bytes ≡ x ++ (10 ∷ y)
cut_was [] x y h = no_cut x y h
cut_was (b ∷ bytes) x y given =
    elim (eqb b 10) as (λ t. eqb b 10 ≡ t → cond t (at_cut [] bytes) (option_map (behind_byte b) (cut_line bytes)) ≡ at_cut x y → b ∷ bytes ≡ x ++ (10 ∷ y)) [
      | true ↦ λ is h.
          let was = some_cut [] bytes x y h in
          ap (λ (n : ℕ). n ∷ bytes) (eqb-true b 10 is) ∙ ap (λ (bs : List ℕ). 10 ∷ bs) was.1 ∙ ap (λ (bs : List ℕ). bs ++ (10 ∷ y)) was.0
      | false ↦ λ is h. elim (cut_line bytes) as (λ o. cut_line bytes ≡ o → option_map (behind_byte b) o ≡ at_cut x y → b ∷ bytes ≡ x ++ (10 ∷ y)) [
        | None ↦ λ at k. no_cut x y k
        | (Some p) ↦ λ at k.
            let was = some_cut (b ∷ p.0) p.1 x y k in
            ap (λ (bs : List ℕ). b ∷ bs) (cut_was bytes p.0 p.1 at) ∙ ap (λ (bs : List ℕ). (b ∷ p.0) ++ (10 ∷ bs)) was.1 ∙ ap (λ (bs : List ℕ). bs ++ (10 ∷ y)) was.0
      ] refl h
    ] refl given
