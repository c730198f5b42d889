-- The number of a text among those that are kept.
use Rattle.std.proofs.Common.{◌≡◌, inl, inr, ℕ, ◌<◌, ◌≤◌, Bool, true, false, List, [], ◌∷◌, ◌++◌, length, map, Some, refl, sym, ap, ◌∙◌, arith}
use Rattle.std.specs.Prelude.{Ok, Err, bytes_eq, if◌then◌else◌, nat_le, position}
use Rattle.std.specs.Global.{Vec}
use Rattle.std.specs.List.{list_any, position_or_len}
use Rattle.std.proofs.lemmas.Bool.{true≢false}
use Rattle.std.proofs.lemmas.Bool.Decides.{leb_tells}
use Rattle.std.proofs.lemmas.List.{length-map, map-append}
use Rattle.stab_parse.specs.declared.symbol.Span.{Span}
use Rattle.scope_check.specs.declared.fault.ScopeFault.TheVariants.{TooMany}
use Rattle.scope_check.specs.Limits.{max_texts}
use Rattle.scope_check.specs.Scope.{text_numbered}
use Rattle.scope_check.proofs.Declared.{second-of, third-of}
use Rattle.scope_check.proofs.Tables.{any-map, position_or_len-map, position-found}

first-of : {A : Type 0} (a b : Bool) (x y z : A) → a ≡ true → (if a then x else if b then y else z) ≡ x
first-of true b x y z e = refl
first-of false b x y z e = absurd (true≢false (sym e))

full : (n : ℕ) → max_texts ≤ n → nat_le max_texts n ≡ true
full n h = elim (leb_tells max_texts n) [ inl w ↦ w.0 | inr w ↦ absurd (omega (arith, w.1)) ]

not-full : (n : ℕ) → n < max_texts → nat_le max_texts n ≡ false
not-full n h = elim (leb_tells max_texts n) [ inl w ↦ absurd (omega (arith, w.1)) | inr w ↦ w.0 ]

module _ (span : Span) (text : Vec ℕ) (keys : List (Vec ℕ)) where
  abbrev items_all : List (List ℕ)
  items_all = map (λ k. k.items) keys

  abbrev is_text : Vec ℕ → Bool
  is_text k = bytes_eq text.items k.items

  there : list_any (bytes_eq text.items) items_all ≡ list_any is_text keys
  there = any-map (λ k. k.items) (bytes_eq text.items) keys

  pub text-found : (i : ℕ) → Some i ≡ position is_text keys → true ≡ list_any is_text keys → text_numbered span text.items items_all ≡ Ok (i, items_all)
  text-found i at found =
      first-of (list_any (bytes_eq text.items) items_all) (nat_le max_texts (length items_all)) (Ok (position_or_len (bytes_eq text.items) items_all, items_all)) (Err (TooMany span.start)) (Ok (length items_all, items_all ++ text.items ∷ [])) (there ∙ sym found)
      ∙ ap (λ n. Ok (n, items_all)) (position_or_len-map (λ k. k.items) (bytes_eq text.items) keys ∙ position-found is_text keys i (sym at))

  module _ (absent : false ≡ list_any is_text keys) where
    pub text-full : max_texts ≤ length keys → text_numbered span text.items items_all ≡ Err (TooMany span.start)
    text-full h =
        second-of (list_any (bytes_eq text.items) items_all) (nat_le max_texts (length items_all)) (Ok (position_or_len (bytes_eq text.items) items_all, items_all)) (Err (TooMany span.start)) (Ok (length items_all, items_all ++ text.items ∷ []))
        (there ∙ sym absent) (ap (nat_le max_texts) (length-map keys (λ k. k.items)) ∙ full (length keys) h)

    pub text-new : (n : ℕ) (more : List (Vec ℕ)) → length keys < max_texts → n ≡ length keys → more ≡ (if list_any is_text keys then keys else keys ++ text ∷ []) → text_numbered span text.items items_all ≡ Ok (n, map (λ k. k.items) more)
    text-new n more h e f =
        third-of (list_any (bytes_eq text.items) items_all) (nat_le max_texts (length items_all)) (Ok (position_or_len (bytes_eq text.items) items_all, items_all)) (Err (TooMany span.start)) (Ok (length items_all, items_all ++ text.items ∷ []))
        (there ∙ sym absent) (ap (nat_le max_texts) (length-map keys (λ k. k.items)) ∙ not-full (length keys) h)
        ∙ ap (λ m. Ok (m, items_all ++ text.items ∷ [])) (length-map keys (λ k. k.items) ∙ sym e)
        ∙ ap (λ l. Ok (n, l)) (sym (ap (map (λ k. k.items)) (f ∙ ap (λ b. if b then keys else keys ++ text ∷ []) (sym absent)) ∙ map-append (λ k. k.items) keys (text ∷ [])))
