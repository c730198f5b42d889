-- What a list of calls means for a reference: by the calls one after another, from any log.
use Rattle.std.proofs.Common.{◌≡◌, ℕ, ◌<◌, ◌≤◌, Bool, true, false, not, cond, ◌&&◌, ◌||◌, nat_eq, nat_lt, List, [], ◌∷◌, ◌++◌, Option, Some, None, refl, sym, ap, ◌∙◌, append_assoc, append-nil, arith}
use Rattle.std.specs.List.{list_any, last_or, filter}
use Rattle.std.proofs.lemmas.List.Elements.{filter-append}
use Rattle.std.proofs.lemmas.Bool.{ne_eqb, or_from, and_right}
use borrow.Author.Tests.{ltb-true}
use Rattle.stab_base.specs.Datum.{Datum}
use Rattle.ref_log.specs.Log.{Write, Log, writes_of, last_of, has_below, without, kept}
use Rattle.ref_log.specs.Calls.{Call, made, wrote, struck, cut, written, Leads, none, one_more, strikes, surviving}

-- whether no call strikes a write of the reference r
abbrev pub stays : ℕ → List Call → Write → Bool
stays r calls w = not (list_any (strikes r w.number) calls)

last_or-append : {X : Type 0} (o : Option X) (xs ys : List X) → last_or o (xs ++ ys) ≡ last_or (last_or o xs) ys
last_or-append o [] ys = refl
last_or-append o (x ∷ xs) ys = last_or-append (Some x) xs ys

-- where one stays, what was before does not matter
some_stays : (r : ℕ) (calls : List Call) (q : ℕ) (ws : List Write) (o p : Option Write) → ((w : Write) → w.number < q → stays r calls w ≡ true) → has_below q ws ≡ true
    → last_or o (filter (stays r calls) ws) ≡ last_or p (filter (stays r calls) ws)
some_stays r calls q [] o p all h = absurd (cc)
some_stays r calls q (w ∷ ws) o p all h =
    elim (stays r calls w) as (λ b. stays r calls w ≡ b → last_or o (cond b (w ∷ filter (stays r calls) ws) (filter (stays r calls) ws)) ≡ last_or p (cond b (w ∷ filter (stays r calls) ws) (filter (stays r calls) ws))) [
      | true ↦ λ e. refl
      | false ↦ λ e.
          some_stays r calls q ws o p all
          (elim (nat_lt w.number q) as (λ b. nat_lt w.number q ≡ b → (b || has_below q ws) ≡ true → has_below q ws ≡ true) [
            | true ↦ λ l g. let k = all w (ltb-true w.number q l) in absurd (cc)
            | false ↦ λ l g. g
          ] refl h)
    ] refl

-- a cut changes no last write, where those below it stay
kept_last : (r : ℕ) (calls : List Call) (q : ℕ) (ws : List Write) (o : Option Write) → ((w : Write) → w.number < q → stays r calls w ≡ true)
    → last_or o (filter (stays r calls) (kept q ws)) ≡ last_or o (filter (stays r calls) ws)
kept_last r calls q [] o all = refl
kept_last r calls q (w ∷ ws) o all =
    elim (has_below q ws) as (λ b. has_below q ws ≡ b → last_or o (filter (stays r calls) (cond b (kept q ws) (w ∷ ws))) ≡ last_or o (filter (stays r calls) (w ∷ ws))) [
      | true ↦ λ e.
          kept_last r calls q ws o all
          ∙ elim (stays r calls w) as (λ b. last_or o (filter (stays r calls) ws) ≡ last_or o (cond b (w ∷ filter (stays r calls) ws) (filter (stays r calls) ws))) [
            | true ↦ some_stays r calls q ws o (Some w) all e
            | false ↦ refl
          ]
      | false ↦ λ e. refl
    ] refl

-- numbers that are struck are above the last cut
above_cut : (calls : List Call) (old new : Log) → Leads calls old new → (r q : ℕ) → q ≤ old.last_cut → list_any (strikes r q) calls ≡ false
above_cut [] old new h r q low = refl
above_cut (made s p v ∷ calls) old new (one_more _ _ _ next _ allowed after more) r q low = let is = after.last_cut in above_cut calls next new more r q (omega arith)
above_cut (wrote s p v ∷ calls) old new (one_more _ _ _ next _ allowed after more) r q low = let is = after.last_cut in above_cut calls next new more r q (omega arith)
above_cut (struck s p ∷ calls) old new (one_more _ _ _ next _ allowed after more) r q low =
    let is = after.last_cut in
    let high = allowed.1 in
    or_from (nat_eq s r && nat_eq p q) (list_any (strikes r q) calls) (and_right (nat_eq s r) (nat_eq p q) (ne_eqb p q (λ same. absurd (omega arith)))) (above_cut calls next new more r q (omega arith))
above_cut (cut p ∷ calls) old new (one_more _ _ _ next _ allowed after more) r q low =
    let is = after.last_cut in
    let high = allowed.1 in
    above_cut calls next new more r q (omega arith)

all_stay : (ws : List Write) (r : ℕ) → filter (stays r []) ws ≡ ws
all_stay [] r = refl
all_stay (w ∷ ws) r = ap (λ vs. w ∷ vs) (all_stay ws r)

more_written : (b : Bool) (r q : ℕ) (v : Datum) (calls : List Call) (ws later : List Write)
    → filter (stays r calls) (cond b (written ws q v) ws) ++ later ≡ filter (stays r calls) ws ++ (cond (b && not (list_any (strikes r q) calls)) (record { number = q; value = v } ∷ []) [] ++ later)
more_written true r q v calls ws later =
    let w : Write = record { number = q; value = v } in
    ap (λ xs. xs ++ later) (filter-append (stays r calls) ws (w ∷ [])) ∙ append_assoc (filter (stays r calls) ws) (filter (stays r calls) (w ∷ [])) later
more_written false r q v calls ws later = refl

struck_filter : (r q : ℕ) (calls : List Call) (ws : List Write) → filter (stays r calls) (without q ws) ≡ filter (λ w. not (nat_eq q w.number || list_any (strikes r w.number) calls)) ws
struck_filter r q calls [] = refl
struck_filter r q calls (w ∷ ws) =
    elim (nat_eq q w.number) as (λ b. filter (stays r calls) (cond (not b) (w ∷ without q ws) (without q ws)) ≡ cond (not (b || list_any (strikes r w.number) calls)) (w ∷ filter (λ w. not (nat_eq q w.number || list_any (strikes r w.number) calls)) ws) (filter (λ w. not (nat_eq q w.number || list_any (strikes r w.number) calls)) ws)) [
      | true ↦ struck_filter r q calls ws
      | false ↦ ap (λ vs. cond (stays r calls w) (w ∷ vs) vs) (struck_filter r q calls ws)
    ]

one_struck : (b : Bool) (r q : ℕ) (calls : List Call) (ws : List Write) → filter (stays r calls) (cond b (without q ws) ws) ≡ filter (λ w. not (b && nat_eq q w.number || list_any (strikes r w.number) calls)) ws
one_struck true r q calls ws = struck_filter r q calls ws
one_struck false r q calls ws = refl

-- the last of what stays of the writes before the calls and of what they write
pub last_write : (calls : List Call) (old new : Log) → Leads calls old new → (r : ℕ) → last_of (writes_of new r) ≡ last_of (filter (stays r calls) (writes_of old r) ++ surviving r calls)
last_write [] old new (none _) r = ap last_of (sym (append-nil (filter (stays r []) (writes_of old r)) ∙ all_stay (writes_of old r) r))
last_write (made s q v ∷ calls) old new (one_more _ _ _ next _ allowed after more) r =
    last_write calls next new more r
    ∙ ap last_of (ap (λ ws. filter (stays r calls) ws ++ surviving r calls) (after.writes r) ∙ more_written (nat_eq s r) r q v calls (writes_of old r) (surviving r calls))
last_write (wrote s q v ∷ calls) old new (one_more _ _ _ next _ allowed after more) r =
    last_write calls next new more r
    ∙ ap last_of (ap (λ ws. filter (stays r calls) ws ++ surviving r calls) (after.writes r) ∙ more_written (nat_eq s r) r q v calls (writes_of old r) (surviving r calls))
last_write (struck s q ∷ calls) old new (one_more _ _ _ next _ allowed after more) r =
    last_write calls next new more r
    ∙ ap (λ ws. last_of (ws ++ surviving r calls)) (ap (filter (stays r calls)) (after.writes r) ∙ one_struck (nat_eq s r) r q calls (writes_of old r))
last_write (cut q ∷ calls) old new (one_more _ _ _ next _ allowed after more) r =
    let ws = writes_of old r in
    last_write calls next new more r
    ∙ ap (λ vs. last_of (filter (stays r calls) vs ++ surviving r calls)) (after.writes r)
    ∙ last_or-append None (filter (stays r calls) (kept q ws)) (surviving r calls)
    ∙ ap (λ o. last_or o (surviving r calls)) (kept_last r calls q ws None (λ w low. let is = after.last_cut in ap not (above_cut calls next new more r w.number (omega arith))))
    ∙ sym (last_or-append None (filter (stays r calls) ws) (surviving r calls))
