-- The threads of a state, one after the other.
use Rattle.std.proofs.Common.{◌≡◌, ℕ, ◌<◌, ◌≤◌, Bool, true, false, Option, Some, None, refl, sym, ap, subst, ◌∙◌, arith}
use Rattle.std.specs.Prelude.{IfSome, is_some, nat_eq, nat_le, option_map, ◌&&◌}
use Rattle.std.specs.Cmp.{nat_eq_equiv}
use Rattle.std.specs.FinMap as map
use Rattle.std.proofs.lemmas.Bool.{false≢true, eqb-true}
use Rattle.std.proofs.lemmas.Bool.Decides.{nat_tests}
use Rattle.stab_code.specs.Program.{ProgramParts}
use Rattle.plain_language.specs.declared.look.Look.{Look}
use Rattle.language.specs.Above.{IsLeastAbove}
use Rattle.language.specs.Expression.{Expr}
use Rattle.language.specs.Plain.{PlainState, language_of, look_in, standing}
use Rattle.language.specs.Quiet as rest
use Rattle.language.specs.Quiet.{IsQuiet}
use Rattle.plain_language.specs.Seen.{seen}
use Rattle.ready_steps.specs.Ready.{AllRest, NobodyMeets, look_of, receives_at, rests_at, sends_at}
use Rattle.ready_steps.proofs.Telling.{same_receives, same_rest, same_sends}

none_of : (o : Option Expr) → is_some o ≡ false → o ≡ None
none_of None h = refl
none_of (Some e) h = absurd (false≢true (sym h))

not_true : (b : Bool) → (b ≡ true → ⊥) → b ≡ false
not_true true h = absurd (h refl)
not_true false h = refl

module _ (p : ProgramParts) (s : PlainState) where
  gone : (u : ℕ) → map.contains_key s.threads u ≡ false → look_of p s u ≡ None
  gone u h = ap (option_map (λ (e : Expr). seen (look_in p e))) (none_of (standing s u) h)

  module _ (P : ℕ → Type 0) (nobody : (u : ℕ) → look_of p s u ≡ None → P u) where
    -- before the first thread
    pub at_first : look_of p s 0 ≡ None → (u : ℕ) → u ≤ 0 → P u
    at_first none u le = subst P (let is : 0 ≡ u = omega arith in is) (nobody 0 none)

    -- one thread further
    pub further : (last t : ℕ) → IsLeastAbove (map.contains_key s.threads) last (Some t) → ((u : ℕ) → u ≤ last → P u) → P t → (u : ℕ) → u ≤ t → P u
    further last t least far here u le =
        elim (nat_le u last) as (λ b. nat_le u last ≡ b → P u) [
          | true ↦ λ low. far u (let fits : u ≤ last = grind (arith, nat_tests) in fits)
          | false ↦ λ high.
              (elim (nat_eq u t) as (λ b. nat_eq u t ≡ b → P u) [
                | true ↦ λ is. subst P (sym (eqb-true u t is)) here
                | false ↦ λ other.
                    nobody u (gone u (not_true (map.contains_key s.threads u) (λ yes.
                    let above : last < u = grind (arith, nat_tests) in
                    let up : t ≤ u = least.2 u above yes in
                    let same : u ≡ t = omega arith in
                    false≢true (sym other ∙ ap (λ k. nat_eq k t) same ∙ nat_eq_equiv.refl t))))
              ]) refl
        ] refl

    -- behind the last thread
    pub to_end : (last : ℕ) → IsLeastAbove (map.contains_key s.threads) last None → ((u : ℕ) → u ≤ last → P u) → (u : ℕ) → P u
    to_end last none far u =
        elim (nat_le u last) as (λ b. nat_le u last ≡ b → P u) [
          | true ↦ λ low. far u (let fits : u ≤ last = grind (arith, nat_tests) in fits)
          | false ↦ λ high. nobody u (gone u (none u (let above : last < u = grind (arith, nat_tests) in above)))
        ] refl

  -- a thread that is there does what its expression does next
  pub does : (t : ℕ) (e : Expr) (d : Look) → standing s t ≡ Some e → d ≡ seen (look_in p e) → look_of p s t ≡ Some d
  does t e d at is = ap (option_map (λ (x : Expr). seen (look_in p x))) at ∙ ap Some (sym is)

  rests_by : (o : Option Expr) → rests_at (option_map (λ (e : Expr). seen (look_in p e)) o) ≡ true → IfSome o (λ e. rest.is_resting (look_in p e) ≡ true)
  rests_by None h = tt
  rests_by (Some e) h = same_rest (look_in p e) ∙ h

  rests_back : (o : Option Expr) → IfSome o (λ e. rest.is_resting (look_in p e) ≡ true) → rests_at (option_map (λ (e : Expr). seen (look_in p e)) o) ≡ true
  rests_back None h = refl
  rests_back (Some e) h = sym (same_rest (look_in p e)) ∙ h

  apart_of : (a b : Bool) → (a ≡ true → b ≡ false) → (a && b) ≡ false
  apart_of true b h = h refl
  apart_of false b h = refl

  apart_by : (c : ℕ) (o x : Option Expr) → (sends_at c (option_map (λ (e : Expr). seen (look_in p e)) o) ≡ true → receives_at c (option_map (λ (e : Expr). seen (look_in p e)) x) ≡ false)
      → IfSome o (λ a. IfSome x (λ b. (rest.sends_on c (look_in p a) && rest.receives_on c (look_in p b)) ≡ false))
  apart_by c None x h = tt
  apart_by c (Some a) None h = tt
  apart_by c (Some a) (Some b) h = apart_of _ _ (λ sends. same_receives c (look_in p b) ∙ h (sym (same_sends c (look_in p a)) ∙ sends))

  -- a state is quiet where nobody can step
  pub is_quiet : AllRest (look_of p s) → NobodyMeets (look_of p s) → IsQuiet (language_of p) s
  is_quiet all nobody = record {
    rests = λ t. rests_by (standing s t) (all t);
    apart = λ t u c. apart_by c (standing s t) (standing s u) (nobody t u c);
  }

  meets_back : (c : ℕ) (o x : Option Expr) → IfSome o (λ a. IfSome x (λ b. (rest.sends_on c (look_in p a) && rest.receives_on c (look_in p b)) ≡ false))
      → sends_at c (option_map (λ (e : Expr). seen (look_in p e)) o) ≡ true → receives_at c (option_map (λ (e : Expr). seen (look_in p e)) x) ≡ true → ⊥
  meets_back c None x h sends receives = false≢true sends
  meets_back c (Some a) None h sends receives = false≢true receives
  meets_back c (Some a) (Some b) h sends receives =
      false≢true (sym h ∙ ap (λ z. z && rest.receives_on c (look_in p b)) (same_sends c (look_in p a) ∙ sends) ∙ same_receives c (look_in p b) ∙ receives)

  -- nobody can step in a quiet state
  pub rests_all : IsQuiet (language_of p) s → (t : ℕ) → rests_at (look_of p s t) ≡ false → ⊥
  rests_all quiet t h = false≢true (sym h ∙ rests_back (standing s t) (quiet.rests t))

  pub meets_none : IsQuiet (language_of p) s → (t u c : ℕ) → sends_at c (look_of p s t) ≡ true → receives_at c (look_of p s u) ≡ true → ⊥
  meets_none quiet t u c = meets_back c (standing s t) (standing s u) (quiet.apart t u c)
