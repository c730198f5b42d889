-- The log that callers see, from what is kept.
use Rattle.std.proofs.Common.{◌≡◌, ◌≢◌, ℕ, zero, suc, ◌+◌, ◌<◌, ◌≤◌, Bool, true, false, cond, not, ◌||◌, nat_eq, List, [], ◌∷◌, ◌++◌, length, drop, Option, Some, None, is_some, option_map, unwrap_or, slice_get, Vec, refl, sym, ap, subst, ◌∙◌, arith, zero-add, add-zero, append_assoc, append-nil}
use Rattle.std.specs.List.{AllByRecursion, last_or}
use Rattle.std.specs.Ordering.{nat_cmp}
use Rattle.std.specs.Cmp.{nat_cmp_total, unsigned_tied}
use Rattle.std.specs.FinMap.{FinMap, get, get-empty, get-insert, nat_cmp-IsAntisymmetric, same_map}
use Rattle.std.proofs.lemmas.Bool.Decides.{nat_tests}
use Rattle.std.proofs.lemmas.List.Elements.{filter-append}
use Rattle.std.proofs.lemmas.Option.{slice_get_past}
use Rattle.ref_log.specs.declared.places.Recent.{Recent}
use Rattle.ref_log.specs.declared.places.Reference.{Reference}
use Rattle.ref_log.specs.Log.{Write, Log, IsRising, writes_of, last_of, has_write, without}
use Rattle.ref_log.specs.Calls.{Call, after_call, cut_after, IsAllowed, IsAfter}
use Rattle.ref_log.specs.Layout.{of_reference, settled_writes, settled_of, settled_at, head_of, held, with_writes, by_number, log_of, IsLinked, IsKept}
use Rattle.ref_log.proofs.Recent.{none_there}
use Rattle.ref_log.proofs.SoundLemmas.{order_after}

-- some writes, if there are any
abbrev if_any : List Write → Option (List Write)
if_any [] = None
if_any (w ∷ ws) = Some (w ∷ ws)

abbrev some_writes : Option Reference → List Write → Option (List Write)
some_writes None ws = None
some_writes (Some x) ws = if_any (settled_writes x.settled ++ ws)

same_is : (n : ℕ) → nat_eq n n ≡ true
same_is n = grind (arith, nat_tests)

apart_is : (a b : ℕ) → (a ≡ b → ⊥) → nat_eq a b ≡ false
apart_is a b h = grind (arith, nat_tests)

get_with : (m : FinMap nat_cmp (List Write)) (r s : ℕ) (ws : List Write) → (nat_eq s r ≡ true → get m s ≡ None) → get (with_writes r ws m) s ≡ cond (nat_eq s r) (if_any ws) (get m s)
get_with m r s [] fresh =
    elim (nat_eq s r) as (λ b. nat_eq s r ≡ b → get m s ≡ cond b None (get m s)) [ true ↦ fresh | false ↦ λ _. refl ] refl
get_with m r s (w ∷ ws) fresh = get-insert nat_cmp_total m r (w ∷ ws) s ∙ ap (λ b. cond b (Some (w ∷ ws)) (get m s)) (unsigned_tied s r)

get_low : (q : ℕ) (xs : List Reference) (es : List Recent) (r : ℕ) → r < q → get (by_number q xs es) r ≡ None
get_low q [] es r low = get-empty nat_cmp r
get_low q (x ∷ xs) es r low =
    let none = get_low (suc q) xs es r (omega arith) in
    get_with (by_number (suc q) xs es) q r (settled_writes x.settled ++ of_reference q es) (λ _. none)
    ∙ ap (λ b. cond b (if_any (settled_writes x.settled ++ of_reference q es)) (get (by_number (suc q) xs es) r)) (apart_is r q (λ e. absurd (omega arith)))
    ∙ none

next_place : (q n : ℕ) → q + suc n ≡ suc q + n
next_place q n = omega arith

get_at : (q : ℕ) (xs : List Reference) (es : List Recent) (i : ℕ) → get (by_number q xs es) (q + i) ≡ some_writes (slice_get xs i) (of_reference (q + i) es)
get_at q [] es i = get-empty nat_cmp (q + i)
get_at q (x ∷ xs) es zero =
    get_with (by_number (suc q) xs es) q (q + 0) (settled_writes x.settled ++ of_reference q es) (λ _. get_low (suc q) xs es (q + 0) (omega arith))
    ∙ ap (λ b. cond b (if_any (settled_writes x.settled ++ of_reference q es)) (get (by_number (suc q) xs es) (q + 0))) (ap (λ n. nat_eq n q) (add-zero q) ∙ same_is q)
    ∙ ap (λ n. if_any (settled_writes x.settled ++ of_reference n es)) (sym (add-zero q))
get_at q (x ∷ xs) es (suc i) =
    let off : nat_eq (q + suc i) q ≡ false = apart_is (q + suc i) q (λ e. absurd (omega arith)) in
    get_with (by_number (suc q) xs es) q (q + suc i) (settled_writes x.settled ++ of_reference q es) (λ e. (let no : false ≡ true = sym off ∙ e in absurd (cc)))
    ∙ ap (λ b. cond b (if_any (settled_writes x.settled ++ of_reference q es)) (get (by_number (suc q) xs es) (q + suc i))) off
    ∙ ap (get (by_number (suc q) xs es)) (next_place q i)
    ∙ get_at (suc q) xs es i
    ∙ ap (λ n. some_writes (slice_get xs i) (of_reference n es)) (sym (next_place q i))

get_is : (xs : List Reference) (es : List Recent) (r : ℕ) → get (by_number 0 xs es) r ≡ some_writes (slice_get xs r) (of_reference r es)
get_is xs es r = ap (get (by_number 0 xs es)) (sym (zero-add r)) ∙ get_at 0 xs es r ∙ ap (λ n. some_writes (slice_get xs r) (of_reference n es)) (zero-add r)

any_is : (ws : List Write) → unwrap_or (if_any ws) [] ≡ ws
any_is [] = refl
any_is (w ∷ ws) = refl

some_is : (o : Option Reference) (ws : List Write) → (o ≡ None → ws ≡ []) → unwrap_or (some_writes o ws) [] ≡ settled_of o ++ ws
some_is None ws none = sym (none refl)
some_is (Some x) ws none = any_is (settled_writes x.settled ++ ws)

none_led : (o : Option Reference) (n : ℕ) → head_of o ≡ n → o ≡ None → n ≡ 0
none_led o n head none = sym head ∙ ap head_of none

-- the writes that callers see of a reference
pub writes-held : {Z : Type 0} (n : ℕ) (xs : List Reference) (recent : Vec Recent Z) (r : ℕ) → IsLinked xs recent.items → writes_of (log_of n xs recent) r ≡ held xs recent.items r
writes-held n xs recent r linked =
    ap (λ o. unwrap_or o []) (get_is xs recent.items r)
    ∙ some_is (slice_get xs r) (of_reference r recent.items) (λ none. none_there r recent.items (none_led (slice_get xs r) _ (linked.chained.heads r) none))

never_empty : (ws : List Write) → if_any ws ≢ Some []
never_empty [] e = cc
never_empty (w ∷ ws) e = cc

some_never : (o : Option Reference) (ws : List Write) → some_writes o ws ≢ Some []
some_never None ws e = cc
some_never (Some x) ws e = never_empty (settled_writes x.settled ++ ws) e

-- a reference that is there has a write
pub has-writes : {Z : Type 0} (n : ℕ) (xs : List Reference) (recent : Vec Recent Z) (r : ℕ) → get (log_of n xs recent).references r ≢ Some []
has-writes n xs recent r e = some_never (slice_get xs r) (of_reference r recent.items) (sym (get_is xs recent.items r) ∙ e)

any_or : (o : Option (List Write)) → o ≢ Some [] → o ≡ if_any (unwrap_or o [])
any_or None some = refl
any_or (Some []) some = absurd (some refl)
any_or (Some (w ∷ ws)) some = refl

-- logs with the same writes have the same references
pub same-references : {Z : Type 0} (n m : ℕ) (xs ys : List Reference) (recent new : Vec Recent Z) → ((r : ℕ) → writes_of (log_of m ys new) r ≡ writes_of (log_of n xs recent) r) → (log_of m ys new).references ≡ (log_of n xs recent).references
same-references n m xs ys recent new same =
    same_map nat_cmp_total nat_cmp-IsAntisymmetric (log_of m ys new).references (log_of n xs recent).references (λ r.
    any_or (get (log_of m ys new).references r) (has-writes m ys new r)
    ∙ ap if_any (same r)
    ∙ sym (any_or (get (log_of n xs recent).references r) (has-writes n xs recent r)))

-- what a call leaves of what is kept it leaves of the log
pub after-held : {Z : Type 0} (call : Call) (n m : ℕ) (xs ys : List Reference) (recent new : Vec Recent Z) → IsLinked xs recent.items → IsLinked ys new.items → m ≡ cut_after call n → ((r : ℕ) → held ys new.items r ≡ after_call call r (held xs recent.items r)) → IsAfter call (log_of n xs recent) (log_of m ys new)
after-held call n m xs ys recent new before after at writes = record {
  last_cut = at;
  writes = λ r. writes-held m ys new r after ∙ writes r ∙ ap (after_call call r) (sym (writes-held n xs recent r before));
}

-- and it is kept as before
pub kept-after : {Z : Type 0} (call : Call) (n m : ℕ) (xs ys : List Reference) (recent new : Vec Recent Z) (now : Log) → IsKept n xs recent → log_of n xs recent ≡ now → IsAllowed call now → IsLinked ys new.items → m ≡ cut_after call n → ((r : ℕ) → held ys new.items r ≡ after_call call r (held xs recent.items r)) → ((r : ℕ) → AllByRecursion (λ w. w.number ≤ m) (settled_at ys r)) → length new.items ≤ 4294967295 → IsKept m ys new
kept-after call n m xs ys recent new now kept is allowed linked at writes settled few = record {
  order = order_after call (log_of n xs recent) (log_of m ys new) (subst (IsAllowed call) (sym is) allowed) (after-held call n m xs ys recent new kept.linked linked at writes) kept.order;
  linked = linked;
  settled = settled;
  few = few;
}

pub rising-back : (ws vs : List Write) → IsRising (ws ++ vs) → IsRising vs
rising-back [] vs rising = rising
rising-back (w ∷ ws) vs rising = rising-back ws vs rising.1

-- a write above the last cut is a recent one
pub has-recent : (n q : ℕ) (ws vs : List Write) → AllByRecursion (λ w. w.number ≤ n) ws → n < q → has_write q (ws ++ vs) ≡ true → has_write q vs ≡ true
has-recent n q [] vs low high there = there
has-recent n q (w ∷ ws) vs low high there =
    let off : nat_eq q w.number ≡ false = apart_is q w.number (λ e. absurd (omega (arith, low.0))) in
    has-recent n q ws vs low.1 high (ap (λ b. b || has_write q (ws ++ vs)) (sym off) ∙ there)

without_low : (n q : ℕ) (ws : List Write) → AllByRecursion (λ w. w.number ≤ n) ws → n < q → without q ws ≡ ws
without_low n q [] low high = refl
without_low n q (w ∷ ws) low high =
    let off : nat_eq q w.number ≡ false = apart_is q w.number (λ e. absurd (omega (arith, low.0))) in
    ap (λ b. cond (not b) (w ∷ without q ws) (without q ws)) off ∙ ap (λ vs. w ∷ vs) (without_low n q ws low.1 high)

-- a recent write is taken out of all
pub struck-held : (n q : ℕ) (b : Bool) (ws vs : List Write) → AllByRecursion (λ w. w.number ≤ n) ws → n < q → ws ++ cond b (without q vs) vs ≡ cond b (without q (ws ++ vs)) (ws ++ vs)
struck-held n q true ws vs low high = sym (filter-append (λ w. not (nat_eq q w.number)) ws vs ∙ ap (λ us. us ++ without q vs) (without_low n q ws low high))
struck-held n q false ws vs low high = refl

-- one more write of one reference
pub written-held : (b : Bool) (ws vs : List Write) (w : Write) → ws ++ (vs ++ cond b (w ∷ []) []) ≡ cond b ((ws ++ vs) ++ w ∷ []) (ws ++ vs)
written-held true ws vs w = sym (append_assoc ws vs (w ∷ []))
written-held false ws vs w = ap (λ us. ws ++ us) (append-nil vs)

last_some : (x : Write) (xs : List Write) → last_or (Some x) xs ≡ None → ⊥
last_some x [] e = (let never : false ≡ true = ap is_some (sym e) in absurd (cc))
last_some x (y ∷ xs) e = last_some y xs e

none_from_last : (ws : List Write) → last_of ws ≡ None → ws ≡ []
none_from_last [] e = refl
none_from_last (w ∷ ws) e = absurd (last_some w ws e)

none_result : {T : Type 0} (f : T → Write) (o : Option T) → option_map f o ≡ None → o ≡ None
none_result f None e = refl
none_result f (Some x) e = cc

-- there is a last one exactly where there is one
pub none-exactly : {T : Type 0} (f : T → Write) (o : Option T) (ws : List Write) → option_map f o ≡ last_of ws → (o ≡ None → ws ≡ []) × (ws ≡ [] → o ≡ None)
none-exactly f o ws e = (λ none. none_from_last ws (sym e ∙ ap (option_map f) none), λ empty. none_result f o (e ∙ ap last_of empty))

below_by : (n r : ℕ) → (n ≤ r → ⊥) → r < n
below_by n r h = grind arith

-- a reference that has writes has a place
pub there-held : (xs : List Reference) (es : List Recent) (r : ℕ) → IsLinked xs es → held xs es r ≢ [] → r < length xs
there-held xs es r linked some = below_by (length xs) r (λ past. some
    (ap (λ o. settled_of o ++ of_reference r es) (slice_get_past xs r past) ∙ none_there r es (sym (linked.chained.heads r) ∙ ap head_of (slice_get_past xs r past))))

-- what has the same writes is kept as before
pub kept-same : {Z : Type 0} (n : ℕ) (xs ys : List Reference) (recent new : Vec Recent Z) → IsKept n xs recent → IsLinked ys new.items → ((s : ℕ) → held ys new.items s ≡ held xs recent.items s) → ((s : ℕ) → settled_at ys s ≡ settled_at xs s) → length new.items ≤ 4294967295 → IsKept n ys new
kept-same n xs ys recent new kept linked writes settled few =
    let same : (s : ℕ) → writes_of (log_of n xs recent) s ≡ writes_of (log_of n ys new) s = λ s. writes-held n xs recent s kept.linked ∙ sym (writes s) ∙ sym (writes-held n ys new s linked) in
    record {
      order = record {
        rising = λ s. subst IsRising (same s) (kept.order.rising s);
        recent = λ s p h. kept.order.recent s p (ap (λ ws. has_write p (drop 1 ws)) (same s) ∙ h);
      };
      linked = linked;
      settled = λ s. subst (AllByRecursion (λ w. w.number ≤ n)) (sym (settled s)) (kept.settled s);
      few = few;
    }
