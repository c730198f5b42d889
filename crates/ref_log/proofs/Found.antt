-- A write is looked for from the last one back.
use Rattle.std.proofs.Common.{◌≡◌, ◌⊎◌, inl, inr, ℕ, suc, ◌-◌, ◌<◌, ◌≤◌, Bool, true, false, ◌&&◌, ◌||◌, not, cond, nat_eq, List, [], ◌∷◌, ◌++◌, length, take, refl, sym, ap, subst, ◌∙◌, arith}
use Rattle.std.specs.List.{slice_index_or}
use Rattle.std.proofs.lemmas.Bool.{eqb-true, and_parts}
use Rattle.std.proofs.lemmas.Bool.Decides.{nat_tests}
use Rattle.std.proofs.lemmas.List.{get_or-take}
use Rattle.ref_log.specs.declared.places.Recent.{Recent}
use Rattle.ref_log.specs.declared.places.Reference.{Reference}
use Rattle.ref_log.specs.Log.{has_write}
use Rattle.ref_log.specs.Layout.{is_of, is_live, write_of, of_reference, last_place, head_at, IsChained}
use Rattle.ref_log.specs.Struck.{IsFound}
use Rattle.ref_log.proofs.Recent.{last_there, last_place-within, not_behind, none_there}
use Rattle.ref_log.proofs.Links.{is_of-reference}
use Rattle.ref_log.proofs.Unlinked.{there-by-head, live-is_of, behind-take, prefix-within}

-- the write q of the reference r is one of the first n entries
pub record IsAmong (es : List Recent) (r q n : ℕ) : Type 0 where
  pub at : ℕ
  pub less : at < n
  pub found : IsFound es r q at

not_struck : (b c : Bool) → (b && not c) ≡ true → c ≡ false
not_struck true true h = cc
not_struck true false h = refl
not_struck false c h = cc

one_later : (e : Recent) (es : List Recent) (r q : ℕ) → IsAmong es r q (length es) → IsAmong (e ∷ es) r q (suc (length es))
one_later e es r q among = record {
  at = suc among.at;
  less = let less = among.less in omega arith;
  found = record { within = let within = among.found.within in omega arith; here = among.found.here; number = among.found.number; live = among.found.live };
}

-- a write that is there stands somewhere
pub among_all : (es : List Recent) (r q : ℕ) → has_write q (of_reference r es) ≡ true → IsAmong es r q (length es)
among_all [] r q has = absurd (cc)
among_all (e ∷ es) r q has =
    (elim (is_live r e) as (λ b. is_live r e ≡ b → has_write q (cond b (write_of e ∷ []) [] ++ of_reference r es) ≡ true → IsAmong (e ∷ es) r q (suc (length es))) [
      | true ↦ λ live there.
          (elim (nat_eq q e.number.0) as (λ b. nat_eq q e.number.0 ≡ b → (b || has_write q (of_reference r es)) ≡ true → IsAmong (e ∷ es) r q (suc (length es))) [
            | true ↦ λ same _. record {
              at = 0;
              less = omega arith;
              found = record {
                within = omega arith;
                here = λ d. (and_parts (is_of r e) (not e.struck) live).0;
                number = λ d. sym (eqb-true q e.number.0 same);
                live = λ d. not_struck (is_of r e) e.struck live;
              };
            }
            | false ↦ λ _ later. one_later e es r q (among_all es r q later)
          ]) refl there
      | false ↦ λ _ later. one_later e es r q (among_all es r q later)
    ]) refl has

above_zero : (n : ℕ) → (n ≡ 0 → ⊥) → n ≡ suc (n - 1)
above_zero n h = grind arith

-- a reference that has a recent write is there
pub there-has : (xs : List Reference) (es : List Recent) (r q : ℕ) → IsChained xs es → has_write q (of_reference r es) ≡ true → r < length xs
there-has xs es r q chained has =
    there-by-head xs r (last_place r es - 1) (chained.heads r ∙ above_zero (last_place r es) (λ none.
    (let never : false ≡ true = ap (has_write q) (sym (none_there r es none)) ∙ has in absurd (cc))))

entry_of : (es : List Recent) (i : ℕ) → i < length es → Recent
entry_of [] i within = absurd (omega arith)
entry_of (e ∷ es) i within = e

-- it stands no further than the last one
pub among_start : (es : List Recent) (r q : ℕ) → has_write q (of_reference r es) ≡ true → IsAmong es r q (last_place r es)
among_start es r q has =
    let among = among_all es r q has in
    let d = entry_of es among.at among.found.within in
    record { at = among.at; less = let high = not_behind r es among.at d among.found.within (among.found.here d) in omega arith; found = among.found }

pub last_here : (es : List Recent) (r n : ℕ) (d : Recent) → last_place r es ≡ n → 0 < n → is_of r (slice_index_or es (n - 1) d) ≡ true
last_here es r n d last some = (last_there r es (n - 1) (last ∙ above_zero n (λ none. absurd (omega arith)))).here d

-- a place, at which a write of the reference stands, and the write is there or before it
pub record IsPassed (es : List Recent) (r q n : ℕ) : Type 0 where
  pub within : n ≤ length es
  pub here : (d : Recent) → 0 < n → is_of r (slice_index_or es (n - 1) d) ≡ true
  pub among : IsAmong es r q n

pub passed_start : (xs : List Reference) (es : List Recent) (r q n : ℕ) → IsChained xs es → has_write q (of_reference r es) ≡ true → n ≡ head_at xs r → IsPassed es r q n
passed_start xs es r q n chained has is =
    let last : last_place r es ≡ n = sym (is ∙ chained.heads r) in
    let among = among_start es r q has in
    record {
      within = let short = last_place-within r es in omega arith;
      here = λ d some. last_here es r n d last some;
      among = record { at = among.at; less = let less = among.less in omega arith; found = among.found };
    }

same_or_before : (i n : ℕ) → i < n → (i < n - 1) ⊎ (i ≡ n - 1)
same_or_before i n h = grind arith

-- the number is found
pub passed_found : (xs : List Reference) (es : List Recent) (r q n : ℕ) (e : Recent) → IsChained xs es → IsPassed es r q n → 0 < n → e ≡ slice_index_or es (n - 1) e → e.number.0 ≡ q → IsFound es r q (n - 1)
passed_found xs es r q n e chained passed some is number =
    let among = passed.among in
    let at = among.at in
    let within = passed.within in
    elim (same_or_before at n among.less) as (λ _. IsFound es r q (n - 1)) [
      | inl early ↦
          let up = chained.rising r at (n - 1) e early (omega arith) (among.found.here e) (passed.here e some) in
          let low = among.found.number e in
          let high = ap (λ (x : Recent). x.number.0) is in
          absurd (omega arith)
      | inr same ↦ subst (IsFound es r q) same among.found
    ]

of_by : (a n r q : ℕ) → a ≡ r → 1 ≤ q → q ≤ n → (nat_eq a r && not (nat_eq n 0)) ≡ true
of_by a n r q same some high = grind (arith, nat_tests)

not_less_by : (a b : ℕ) → (b ≤ a → ⊥) → a < b
not_less_by a b h = grind arith

-- a place further back from q on
pub passed_far : (xs : List Reference) (es : List Recent) (r q n far : ℕ) → IsChained xs es → IsPassed es r q n → 1 ≤ q → far < n → 1 ≤ far → ((d : Recent) → ((slice_index_or es (far - 1) d).reference.0 ≡ r) × (q ≤ (slice_index_or es (far - 1) d).number.0)) → IsPassed es r q far
passed_far xs es r q n far chained passed some less one from =
    let among = passed.among in
    let within = passed.within in
    let here = λ (d : Recent). of_by (slice_index_or es (far - 1) d).reference.0 (slice_index_or es (far - 1) d).number.0 r q (from d).0 some (from d).1 in
    record {
      within = omega arith;
      here = λ d _. here d;
      among = record {
        at = among.at;
        less =
            let d = entry_of es among.at among.found.within in
            let inside = among.found.within in
            not_less_by among.at far (λ late.
            let up = chained.rising r (far - 1) among.at d (omega arith) inside (here d) (among.found.here d) in
            let low = among.found.number d in
            let high = (from d).1 in
            omega arith);
        found = among.found;
      };
    }

-- the place that a write keeps
pub passed_before : (xs : List Reference) (es : List Recent) (r q n : ℕ) (e : Recent) → IsChained xs es → IsPassed es r q n → 0 < n → e ≡ slice_index_or es (n - 1) e → (e.number.0 ≡ q → ⊥) → (e.before < n) × IsPassed es r q e.before
passed_before xs es r q n e chained passed some is other =
    let among = passed.among in
    let at = among.at in
    let within = passed.within in
    let here = passed.here e some in
    let before : e.before ≡ last_place r (take (n - 1) es) =
    ap (λ (x : Recent). x.before) is
    ∙ chained.links (n - 1) e (omega arith) (live-is_of r (slice_index_or es (n - 1) e) here)
    ∙ ap (λ s. last_place s (take (n - 1) es)) (is_of-reference r (slice_index_or es (n - 1) e) here) in
    let low = prefix-within r es (n - 1) in
    let early : at < n - 1 = elim (same_or_before at n among.less) as (λ _. at < n - 1) [
      | inl h ↦ h
      | inr same ↦ absurd (other (ap (λ (x : Recent). x.number.0) (is ∙ ap (λ m. slice_index_or es m e) (sym same)) ∙ among.found.number e))
    ] in
    let reached = behind-take r es (n - 1) at e early among.found.within (among.found.here e) in (
      omega arith,
      record {
        within = omega arith;
        here = λ d more.
            let there = last_here (take (n - 1) es) r e.before d (sym before) more in
            ap (is_of r) (sym (get_or-take (n - 1) es (e.before - 1) d (omega arith))) ∙ there;
        among = record { at = at; less = omega arith; found = among.found };
      },
    )
