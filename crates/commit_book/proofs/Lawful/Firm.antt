-- What is final stays printed, and what was released is final.
use Rattle.std.proofs.Common.{◌≡◌, ℕ, suc, ◌+◌, ◌<◌, ◌≤◌, Bool, true, false, cond, ◌&&◌, List, [], ◌∷◌, ◌++◌, length, take, Some, None, refl, sym, ap, subst, ◌∙◌, length-append, append-nil, append_assoc, arith, ltb-true}
use Rattle.std.specs.Prelude.{count_by, nat_lt}
use Rattle.std.proofs.lemmas.List.{take-append-le}
use Rattle.std.proofs.lemmas.List.Sums.{sum_by-append}
use Rattle.stab_base.specs.Datum.{Datum}
use Rattle.stab_code.specs.JobParts.{JobParts}
use Rattle.stab_code.specs.Program.{ProgramParts}
use Rattle.stab_journal.specs.declared.event.Event.{Event}
use Rattle.stab_journal.specs.declared.event.Label.{Label}
use Rattle.stab_journal.specs.declared.event.Numbered.{Numbered}
use Rattle.stab_journal.specs.declared.event.What.TheVariants.{Step, Undo, Release}
use Rattle.stab_journal.specs.Due.{final_prints, is_print, released}
use Rattle.stab_journal.specs.Floor.{floor, floor_from, is_cut, is_revocable}
use Rattle.stab_journal.specs.Journal.{RiseFrom, step_at}
use Rattle.stab_journal.specs.Names.{has}
use Rattle.stab_journal.specs.Reached.{reached, rest, without_reached}
use Rattle.stab_journal.specs.Surviving.{run_of}
use Rattle.language.specs.Plain.{PlainState, effect_of, end_of, plain_step, start}
use Rattle.language.specs.Standing.{StandsFor, nothing, step, undo, release, event}
use Rattle.language.specs.Steps.{after_steps, plain}
use Rattle.journal_laws.proofs.Held.{cuts_hold}
use Rattle.journal_laws.proofs.Stepping.{step_of}
use Rattle.journal_laws.proofs.Surviving.{some_is, some_none, no_steps}
use Rattle.journal_laws.proofs.Undone.{stands_run}
use Rattle.print_log.specs.Log.{values}
use Rattle.commit_book.specs.declared.parts.Parts.{Parts}
use Rattle.commit_book.specs.Layout.{IsKept}
use Rattle.commit_book.proofs.Keeping.EventSteps.{released_snoc}
use Rattle.commit_book.proofs.Keeping.Floors.{floor_below, less_is, not_less}
use Rattle.commit_book.proofs.Lawful.PrintCounts.{counted, run_printed}
use Rattle.commit_book.proofs.Undoing.UndoneParts.{floor_rest}

-- ---- the prints below a number

abbrev one : Bool → ℕ
one b = cond {A = ℕ} b 1 0

abbrev is_below : ℕ → Numbered → Bool
is_below f n = is_print n.label && nat_lt n.seq.0 f

abbrev below : ℕ → List Numbered → ℕ
below f ns = count_by (is_below f) ns

abbrev prints : List Numbered → ℕ
prints ns = count_by (λ (n : Numbered). is_print n.label) ns

and_fewer : (a b : Bool) → one (a && b) ≤ one a
and_fewer true true = omega arith
and_fewer true false = omega arith
and_fewer false b = omega arith

and_false : (a : Bool) → one (a && false) ≡ 0
and_false true = refl
and_false false = refl

below_few : (f : ℕ) (ns : List Numbered) → below f ns ≤ prints ns
below_few f [] = omega arith
below_few f (n ∷ ns) =
    let both : below f (n ∷ ns) ≡ one (is_below f n) + below f ns = counted (is_below f) n ns in
    let all : prints (n ∷ ns) ≡ one (is_print n.label) + prints ns = counted (λ (k : Numbered). is_print k.label) n ns in
    let more : below f ns ≤ prints ns = below_few f ns in
    let here : one (is_below f n) ≤ one (is_print n.label) = and_fewer (is_print n.label) (nat_lt n.seq.0 f) in
    omega (arith, both, all, more, here)

none_below : (f q : ℕ) (ns : List Numbered) → f ≤ q → RiseFrom q ns → below f ns ≡ 0
none_below f q [] le rise = refl
none_below f q (n ∷ ns) le rise =
    let first : q ≤ n.seq.0 = rise.0 in
    let more : below f ns ≡ 0 = none_below f (suc n.seq.0) ns (omega (arith, le, first)) rise.1 in
    let here : one (is_below f n) ≡ 0 = ap (λ b. one (is_print n.label && b)) (not_less n.seq.0 f (omega (arith, le, first))) ∙ and_false (is_print n.label) in
    let both : below f (n ∷ ns) ≡ one (is_below f n) + below f ns = counted (is_below f) n ns in
    omega (arith, both, more, here)

-- with a greater number there are no fewer
one_up : (a : Bool) (k f g : ℕ) → f ≤ g → one (a && nat_lt k f) ≤ one (a && nat_lt k g)
one_up false k f g le = omega arith
one_up true k f g le = elim (nat_lt k f) as (λ b. nat_lt k f ≡ b → one b ≤ one (nat_lt k g)) [
  | false ↦ λ is. omega arith
  | true ↦ λ is. let low : k < f = ltb-true k f is in subst (λ b. one true ≤ one b) (sym (less_is k g (omega (arith, low, le)))) (omega arith)
] refl

below_up : (f g : ℕ) (ns : List Numbered) → f ≤ g → below f ns ≤ below g ns
below_up f g [] le = omega arith
below_up f g (n ∷ ns) le =
    let a : below f (n ∷ ns) ≡ one (is_below f n) + below f ns = counted (is_below f) n ns in
    let b : below g (n ∷ ns) ≡ one (is_below g n) + below g ns = counted (is_below g) n ns in
    let more : below f ns ≤ below g ns = below_up f g ns le in
    let here : one (is_below f n) ≤ one (is_below g n) = one_up (is_print n.label) n.seq.0 f g le in
    omega (arith, a, b, more, here)

below_snoc : (f : ℕ) (ns : List Numbered) (n : Numbered) → below f ns ≤ below f (ns ++ n ∷ [])
below_snoc f ns n =
    let sum : below f (ns ++ n ∷ []) ≡ below f ns + below f (n ∷ []) = sum_by-append (λ (k : Numbered). one (is_below f k)) ns (n ∷ []) in
    omega (arith, sum)

-- the prints below stay where what goes is above
below_rest : (f : ℕ) (gone : ℕ → Bool) → ((k : ℕ) → gone k ≡ true → f < k) → (ns : List Numbered) → below f (rest gone ns) ≡ below f ns
below_rest f gone above [] = refl
below_rest f gone above (n ∷ ns) =
    let more : below f (rest gone ns) ≡ below f ns = below_rest f gone above ns in
    let both : below f (n ∷ ns) ≡ one (is_below f n) + below f ns = counted (is_below f) n ns in
    elim (gone n.seq.0) as (λ b. gone n.seq.0 ≡ b → below f (cond b (rest gone ns) (n ∷ rest gone ns)) ≡ below f (n ∷ ns)) [
      | true ↦ λ goes.
          let over : f < n.seq.0 = above n.seq.0 goes in
          let here : one (is_below f n) ≡ 0 = ap (λ b. one (is_print n.label && b)) (not_less n.seq.0 f (omega (arith, over))) ∙ and_false (is_print n.label) in
          omega (arith, more, both, here)
      | false ↦ λ stays. let left : below f (n ∷ rest gone ns) ≡ one (is_below f n) + below f (rest gone ns) = counted (is_below f) n (rest gone ns) in omega (arith, more, both, left)
    ] refl

-- a step more, above the last cut, makes no print less final
pub floor_last : (f : ℕ) (ns : List Numbered) (n : Numbered) → floor_from f (ns ++ n ∷ []) ≡ cond (is_cut n.label) n.seq.0 (floor_from f ns)
floor_last f [] n = refl
floor_last f (k ∷ ns) n = floor_last (cond (is_cut k.label) k.seq.0 f) ns n

finals_more : (run : List Numbered) (n : Numbered) → floor run < n.seq.0 → final_prints run ≤ final_prints (run ++ n ∷ [])
finals_more run n above =
    let up : floor run ≤ floor (run ++ n ∷ []) = subst (λ k. floor run ≤ k) (sym (floor_last 0 run n)) (by (is_cut n.label)) in
    let a : below (floor run) run ≤ below (floor (run ++ n ∷ [])) run = below_up (floor run) (floor (run ++ n ∷ [])) run up in
    let b : below (floor (run ++ n ∷ [])) run ≤ below (floor (run ++ n ∷ [])) (run ++ n ∷ []) = below_snoc (floor (run ++ n ∷ [])) run n in
    omega (arith, a, b)
  where
    by : (b : Bool) → floor run ≤ cond b n.seq.0 (floor run)
    by true = omega (arith, above)
    by false = omega arith

-- ---- what is printed

record Grows (s end : PlainState) : Type 0 where
  more : List Datum
  is : end.output ≡ s.output ++ more

take_same : {X : Type 0} (n : ℕ) (xs ys zs : List X) → n ≤ length xs → ys ≡ xs ++ zs → take n ys ≡ take n xs
take_same n xs ys zs few is = ap (take n) is ∙ take-append-le n xs zs few

module _ (p : ProgramParts) where
  -- what is printed stays, and more comes behind it
  grows : (ns : List Numbered) (s end : PlainState) → after_steps (effect_of p) (Some s) ns ≡ Some end → Grows s end
  grows [] s end run = record { more = []; is = ap (λ (y : PlainState). y.output) (sym (some_is run)) ∙ sym (append-nil s.output) }
  grows (n ∷ ns) s end run =
      elim (plain (effect_of p) s n.seq.0 n.label) as (λ o. plain (effect_of p) s n.seq.0 n.label ≡ o → after_steps (effect_of p) o ns ≡ Some end → Grows s end) [
        | None ↦ λ none run. absurd (some_none (sym run ∙ no_steps (effect_of p) ns))
        | (Some m) ↦ λ made run.
            let st = step_of (effect_of p) s n.seq.0 n.label m made in
            let g = grows ns m end run in
            record {
              more = st.eff.printed ++ g.more;
              is = g.is ∙ ap (λ (y : PlainState). y.output ++ g.more) st.is ∙ append_assoc s.output st.eff.printed g.more;
            }
      ] refl run

  -- of a run from which steps above a number go, what is printed below it stays
  firm_rest : (f : ℕ) (gone : ℕ → Bool) → ((k : ℕ) → gone k ≡ true → f < k) → (ns : List Numbered) (q : ℕ) → RiseFrom q ns → (s a b : PlainState)
      → after_steps (effect_of p) (Some s) ns ≡ Some a → after_steps (effect_of p) (Some s) (rest gone ns) ≡ Some b → (n : ℕ) → n ≤ length s.output + below f ns → take n b.output ≡ take n a.output
  firm_rest f gone above [] q rise s a b all left n few = ap (λ (y : PlainState). take n y.output) (sym (some_is left) ∙ some_is all)
  firm_rest f gone above (k ∷ ns) q rise s a b all left n few =
      elim (gone k.seq.0) as (λ c. gone k.seq.0 ≡ c → after_steps (effect_of p) (Some s) (cond c (rest gone ns) (k ∷ rest gone ns)) ≡ Some b → take n b.output ≡ take n a.output) [
        | true ↦ λ goes left.
            let over : f < k.seq.0 = above k.seq.0 goes in
            let none : below f (k ∷ ns) ≡ 0 = none_below f k.seq.0 (k ∷ ns) (omega (arith, over)) (omega arith, rise.1) in
            let low : n ≤ length s.output = omega (arith, few, none) in
            let x = grows (k ∷ ns) s a all in
            let y = grows (rest gone ns) s b left in
            take_same n s.output b.output y.more low y.is ∙ sym (take_same n s.output a.output x.more low x.is)
        | false ↦ λ stays left. elim (plain (effect_of p) s k.seq.0 k.label) as (λ o. plain (effect_of p) s k.seq.0 k.label ≡ o → after_steps (effect_of p) o ns ≡ Some a → take n b.output ≡ take n a.output) [
          | None ↦ λ none run. absurd (some_none (sym run ∙ no_steps (effect_of p) ns))
          | (Some m) ↦ λ made run.
              let longer : length m.output ≡ length s.output + prints (k ∷ []) = run_printed p (k ∷ []) s m made in
              let only : below f (k ∷ []) ≤ prints (k ∷ []) = below_few f (k ∷ []) in
              let both : below f (k ∷ ns) ≡ below f (k ∷ []) + below f ns = sum_by-append (λ (j : Numbered). one (is_below f j)) (k ∷ []) ns in
              firm_rest f gone above ns (suc k.seq.0) rise.1 m a b run (ap (λ o. after_steps (effect_of p) o (rest gone ns)) (sym made) ∙ left) n (omega (arith, few, longer, only, both))
        ] refl all
      ] refl left

  -- ---- a history that goes on

  -- the first n values are final, and are those of the other state
  pub record IsFirm (n : ℕ) (s : PlainState) (run : List Numbered) (t : PlainState) : Type 0 where
    pub same : take n t.output ≡ take n s.output
    pub final : n ≤ final_prints run

  -- no more values are final than printed
  pub finals_printed : (es : List Event) (run : List Numbered) (s : PlainState) → StandsFor p es run s → final_prints run ≤ length s.output
  finals_printed es run s stands =
      let all : length s.output ≡ 0 + prints run = run_printed p run (start p) s (stands_run p es run s stands).1.ends in
      let few : below (floor run) run ≤ prints run = below_few (floor run) run in
      omega (arith, all, few)

  module _ (n : ℕ) (s : PlainState) where
    step_firm : (es : List Event) (run : List Numbered) (t after : PlainState) (worker : ℕ) (l : Label) → StandsFor p es run t → StandsFor p (es ++ event worker (Step l) ∷ []) (run ++ step_at (length es + 1) (Step l)) after → plain_step p t (length es + 1) l ≡ Some after
        → IsFirm n s run t → IsFirm n s (run ++ step_at (length es + 1) (Step l)) after
    step_firm es run t after worker l before stands is firm =
        let g = grows (step_at (length es + 1) (Step l)) t after is in
        let few : n ≤ final_prints run = firm.final in
        let printed = finals_printed es run t before in
        let k : Numbered = record { seq = record { 0 = length es + 1 }; label = l } in
        let above : floor run < length es + 1 = floor_below 0 1 run k (omega arith) (stands_run p _ _ after stands).1.rises in
        let more = finals_more run k above in
        record { same = take_same n t.output after.output g.more (omega (arith, few, printed)) g.is ∙ firm.same; final = omega (arith, few, more) }

    undo_firm : (es : List Event) (run : List Numbered) (t after : PlainState) (m : ℕ) → StandsFor p es run t → ((k : ℕ) → has (reached run m) k ≡ true → floor run < k) → end_of p (without_reached m run) ≡ Some after
        → IsFirm n s run t → IsFirm n s (without_reached m run) after
    undo_firm es run t after m before above is firm =
        let ran = (stands_run p es run t before).1 in
        let few : n ≤ final_prints run = firm.final in
        let gone = has (reached run m) in
        let same_floor : floor (rest gone run) ≡ floor run = floor_rest gone run 0 1 ran.rises above in
        let stay : below (floor run) (rest gone run) ≡ below (floor run) run = below_rest (floor run) gone above run in
        let finals : final_prints (rest gone run) ≡ final_prints run = ap (λ f. below f (rest gone run)) same_floor ∙ stay in
        record {
          same = firm_rest (floor run) gone above run 1 ran.rises (start p) t after ran.ends is n (omega (arith, few)) ∙ firm.same;
          final = omega (arith, few, finals);
        }

-- a list that isn't empty, by its last element
pub record IsSnoc {X : Type 0} (xs : List X) : Type 0 where
  pub front : List X
  pub last : X
  pub is : xs ≡ front ++ last ∷ []

pub snoc_of : {X : Type 0} (x : X) (xs : List X) → IsSnoc (x ∷ xs)
snoc_of x [] = record { front = []; last = x; is = refl }
snoc_of x (y ∷ ys) = let k = snoc_of y ys in record { front = x ∷ k.front; last = k.last; is = ap (λ l. x ∷ l) k.is }

snoc_front : {X : Type 0} (xs ys : List X) (x y : X) → xs ++ x ∷ [] ≡ ys ++ y ∷ [] → xs ≡ ys
snoc_front [] [] x y is = refl
snoc_front [] (b ∷ ys) x y is = let long : 1 ≡ suc (length (ys ++ y ∷ [])) = ap length is in let more = length-append ys (y ∷ []) in absurd (omega (arith, long, more))
snoc_front (a ∷ xs) [] x y is = let long : suc (length (xs ++ x ∷ [])) ≡ 1 = ap length is in let more = length-append xs (x ∷ []) in absurd (omega (arith, long, more))
snoc_front (a ∷ xs) (b ∷ ys) x y is =
    let head : a ≡ b = cc in
    let tail : xs ++ x ∷ [] ≡ ys ++ y ∷ [] = cc in
    ap (λ h. h ∷ xs) head ∙ ap (λ l. b ∷ l) (snoc_front xs ys x y tail)

-- what stands before the last event
pub front_of : (fs es : List Event) (e x : Event) (xs : List Event) → fs ++ e ∷ [] ≡ es ++ x ∷ xs → fs ≡ es ++ (snoc_of x xs).front
front_of fs es e x xs is =
    let k = snoc_of x xs in
    snoc_front fs (es ++ k.front) e k.last (is ∙ ap (λ l. es ++ l) k.is ∙ sym (append_assoc es k.front (k.last ∷ [])))

pub no_events : (es : List Event) (x : Event) (xs : List Event) → [] ≡ es ++ x ∷ xs → ⊥
no_events es x xs is = let none : 0 ≡ length (es ++ x ∷ xs) = ap length is in let all = length-append es (x ∷ xs) in omega (arith, none, all)

module _ (p : ProgramParts) where
  -- what goes at an undo is above the last cut
  undo_above : (es : List Event) (run : List Numbered) (t : PlainState) (m : ℕ) → StandsFor p es run t → is_revocable run m ≡ true → (k : ℕ) → has (reached run m) k ≡ true → floor run < k
  undo_above es run t m before may k lost = cuts_hold run m k (stands_run p es run t before).1.rises may lost

  module _ (es : List Event) (run : List Numbered) (s : PlainState) (stands : StandsFor p es run s) (n : ℕ) (few : n ≤ final_prints run) where
    same_end : (fs : List Event) (r : List Numbered) (t : PlainState) → StandsFor p fs r t → fs ≡ es → IsFirm p n s r t
    same_end fs r t later is =
        let a = stands_run p es run s stands in
        let b = stands_run p fs r t later in
        let runs : r ≡ run = b.0 ∙ ap run_of is ∙ sym a.0 in
        let ends : s ≡ t = some_is (sym a.1.ends ∙ ap (end_of p) (sym runs) ∙ b.1.ends) in
        record { same = ap (λ (y : PlainState). take n y.output) (sym ends); final = subst (λ k. n ≤ final_prints k) (sym runs) few }

    -- however the history goes on, the first n values stay, and stay final
    pub firm : (fs : List Event) (r : List Numbered) (t : PlainState) → StandsFor p fs r t → (more : List Event) → fs ≡ es ++ more → IsFirm p n s r t
    firm fs r t later [] is = same_end fs r t later (is ∙ append-nil es)
    firm _ _ _ nothing (x ∷ xs) is = absurd (no_events es x xs is)
    firm _ _ _ (step {events = fs} {run = r} {before = t} after worker label before may made) (x ∷ xs) is =
        step_firm p n s fs r t after worker label before (step after worker label before may made) made (firm fs r t before (snoc_of x xs).front (front_of fs es _ x xs is))
    firm _ _ _ (undo {events = fs} {run = r} {before = t} after worker u m before may ends) (x ∷ xs) is =
        undo_firm p n s fs r t after m before (undo_above fs r t m before may.revocable) ends (firm fs r t before (snoc_of x xs).front (front_of fs es _ x xs is))
    firm _ _ _ (release {events = fs} {run = r} {state = t} worker k before final more) (x ∷ xs) is = firm fs r t before (snoc_of x xs).front (front_of fs es _ x xs is)

  -- what was released is final
  pub released_final : (es : List Event) (run : List Numbered) (s : PlainState) → StandsFor p es run s → released es ≤ final_prints run
  released_final _ _ _ nothing = omega arith
  released_final _ _ _ (step {events = es} {run = run} {before = t} after worker label before may made) =
      let so_far : released es ≤ final_prints run = released_final es run t before in
      let same : released (es ++ event worker (Step label) ∷ []) ≡ released es = released_snoc 0 es (event worker (Step label)) in
      let firm = step_firm p (released es) t es run t after worker label before (step after worker label before may made) made (record { same = refl; final = so_far }) in
      subst (λ k. k ≤ final_prints (run ++ step_at (length es + 1) (Step label))) (sym same) firm.final
  released_final _ _ _ (undo {events = es} {run = run} {before = t} after worker u m before may ends) =
      let so_far : released es ≤ final_prints run = released_final es run t before in
      let same : released (es ++ _ ∷ []) ≡ released es = released_snoc 0 es (event worker (Undo (record { 0 = u }) (record { 0 = m }))) in
      let firm = undo_firm p (released es) t es run t after m before (undo_above es run t m before may.revocable) ends (record { same = refl; final = so_far }) in
      subst (λ k. k ≤ final_prints (without_reached m run)) (sym same) firm.final
  released_final _ _ _ (release {events = es} {run = run} {state = t} worker k before final more) =
      let now : released (es ++ event worker (Release k) ∷ []) ≡ k = released_snoc 0 es (event worker (Release k)) in
      omega (arith, now, final)

  -- later no fewer are released
  pub released_more : (fs : List Event) (r : List Numbered) (t : PlainState) → StandsFor p fs r t → (es more : List Event) → fs ≡ es ++ more → released es ≤ released fs
  released_more fs r t later es [] is = let same : released fs ≡ released es = ap released (is ∙ append-nil es) in omega (arith, same)
  released_more _ _ _ nothing es (x ∷ xs) is = absurd (no_events es x xs is)
  released_more _ _ _ (step {events = fs} {run = r} {before = t} after worker label before may made) es (x ∷ xs) is =
      let so_far : released es ≤ released fs = released_more fs r t before es (snoc_of x xs).front (front_of fs es _ x xs is) in
      let same : released (fs ++ event worker (Step label) ∷ []) ≡ released fs = released_snoc 0 fs (event worker (Step label)) in
      omega (arith, so_far, same)
  released_more _ _ _ (undo {events = fs} {run = r} {before = t} after worker u m before may ends) es (x ∷ xs) is =
      let so_far : released es ≤ released fs = released_more fs r t before es (snoc_of x xs).front (front_of fs es _ x xs is) in
      let same : released (fs ++ event worker (Undo (record { 0 = u }) (record { 0 = m })) ∷ []) ≡ released fs = released_snoc 0 fs (event worker (Undo (record { 0 = u }) (record { 0 = m }))) in
      omega (arith, so_far, same)
  released_more _ _ _ (release {events = fs} {run = r} {state = t} worker k before final up) es (x ∷ xs) is =
      let so_far : released es ≤ released fs = released_more fs r t before es (snoc_of x xs).front (front_of fs es _ x xs is) in
      let now : released (fs ++ event worker (Release k) ∷ []) ≡ k = released_snoc 0 fs (event worker (Release k)) in
      omega (arith, so_far, now, up)

-- so many are printed
pub released_printed : (job : JobParts) (parts : Parts) → IsKept job parts → parts.tallies.released ≤ length (values parts.printed)
released_printed job parts kept =
    let journal = kept.shown.shows.journal in
    let final : released parts.history.events ≤ final_prints kept.shown.run = released_final job.program parts.history.events kept.shown.run kept.shown.state journal.history.stands in
    let fit : final_prints kept.shown.run ≤ length kept.shown.state.output = finals_printed job.program parts.history.events kept.shown.run kept.shown.state journal.history.stands in
    let same : parts.tallies.released ≡ released parts.history.events = kept.tallied.released in
    let out : length (values parts.printed) ≡ length kept.shown.state.output = ap length journal.printed in
    omega (arith, final, fit, same, out)

-- so many are final
pub released_final_values : (job : JobParts) (parts : Parts) → IsKept job parts → parts.tallies.released ≤ length parts.printed.finals
released_final_values job parts kept =
    let journal = kept.shown.shows.journal in
    let final : released parts.history.events ≤ final_prints kept.shown.run = released_final job.program parts.history.events kept.shown.run kept.shown.state journal.history.stands in
    let same : parts.tallies.released ≡ released parts.history.events = kept.tallied.released in
    let all : length parts.printed.finals ≡ final_prints kept.shown.run = kept.prints.finals ∙ ap final_prints journal.history.left in
    omega (arith, final, same, all)
