-- A section that was taken back, from what its calls leave: the book shows it, what it does, and what is told of it.
use Rattle.std.proofs.Common.{◌≡◌, ℕ, ◌+◌, ◌<◌, Bool, true, false, cond, not, ◌&&◌, ◌||◌, nat_eq, List, [], ◌∷◌, ◌++◌, length, map as each, Option, Some, None, refl, sym, ap, ◌∙◌, append-nil, arith}
use Rattle.std.specs.Prelude.{count_by, filter, is_some, nat_lt, option_and_then, option_map}
use Rattle.std.specs.Option.{option_map_or}
use Rattle.std.specs.FinMap as map
use Rattle.std.specs.FinSet as set
use Rattle.std.specs.Cmp.{nat_eq_equiv}
use Rattle.std.specs.Prelude.{IfSome}
use Rattle.std.proofs.lemmas.Bool.{false≢true, eqb-true, and_parts}
use Rattle.std.proofs.lemmas.List.Sums.{sum_by-append}
use Rattle.stab_base.specs.declared.numbers.Seq.{Seq}
use Rattle.stab_code.specs.JobParts.{JobParts}
use Rattle.stab_code.specs.Program.{ProgramParts}
use Rattle.stab_journal.specs.declared.event.Event.{Event}
use Rattle.stab_journal.specs.declared.event.Label.{Label}
use Rattle.stab_journal.specs.declared.event.Numbered.{Numbered}
use Rattle.stab_journal.specs.Due.{final_prints, is_print, released}
use Rattle.stab_journal.specs.Floor.{floor}
use Rattle.stab_journal.specs.Journal.{label_at, survivors}
use Rattle.stab_journal.specs.Names.{has, is_at, made}
use Rattle.stab_journal.specs.Reached.{nothing_lost, reached, rest, without_reached}
use Rattle.stab_journal.specs.Script.{probed}
use Rattle.thread_slots.specs.Ready.{numbers}
use Rattle.thread_slots.specs.Slot.{Slot, restored}
use Rattle.thread_slots.proofs.Counted.{numbers-same}
use Rattle.rendezvous.specs.Line.{Line}
use Rattle.ref_log.specs.Log.{Write, writes_of}
use Rattle.reach_line.specs.Reached as marks
use Rattle.restore.specs.declared.line.Line as plan
use Rattle.restore.specs.declared.line.Line.TheVariants.{From, Gone}
use Rattle.restore.specs.Left.{is_touched, put_back, without_all}
use Rattle.language.specs.Expression.{Expr, failed}
use Rattle.language.specs.Plain.{IsRun, PlainState, effect_of, start}
use Rattle.language.specs.Standing.{MayUndo}
use Rattle.step_eval.specs.ControlView.{ControlView, expr_of}
use Rattle.journal_laws.specs.Lines.{is_node}
use Rattle.journal_laws.specs.Lost.{is_unmade}
use Rattle.journal_laws.specs.Surviving.{prints}
use Rattle.journal_laws.proofs.Chains.{or_right}
use Rattle.journal_laws.proofs.Held.{cuts_hold}
use Rattle.journal_laws.proofs.Undone.{stands_run}
use Rattle.print_log.specs.Log.{Print, values}
use Rattle.commit_book.specs.declared.counts.Tallies.{Tallies}
use Rattle.commit_book.specs.declared.parts.Parts.{Parts}
use Rattle.commit_book.specs.Book.{ShowsRun, over}
use Rattle.commit_book.specs.Counts.{is_faulted_at, is_undo}
use Rattle.commit_book.specs.Doing.{is_failed, is_over}
use Rattle.commit_book.specs.Layout.{IsKept, view_of}
use Rattle.commit_book.specs.OwnSteps.{IsRead}
use Rattle.commit_book.specs.Printing.{ArePrints, prints_above}
use Rattle.commit_book.specs.Saved.{saved_of}
use Rattle.commit_book.specs.Striking.{makes_any, makes_at}
use Rattle.commit_book.specs.TakenOut.{IsTakenOut}
use Rattle.commit_book.specs.Undoing.{IsToldOf, reached_nodes}
use Rattle.commit_book.proofs.Keeping.EventSteps.{probed_snoc, released_snoc}
use Rattle.commit_book.proofs.Keeping.Floors.{not_less}
use Rattle.commit_book.proofs.Undoing.LostSteps.{as_many}
use Rattle.commit_book.proofs.Lawful.PrintCounts.{counted}
use Rattle.commit_book.proofs.Keeping.Prints.{left_prints, left_values}
use Rattle.commit_book.proofs.Lawful.StayPrinted.{stay_printed, stay_prints}
use Rattle.commit_book.proofs.Undoing.StruckSteps.{IsStepAt, reached_at, survivor_at}
use Rattle.commit_book.proofs.Undoing.UndoneBook.{IsCarriedOut, undone, undo_shows}
use Rattle.commit_book.proofs.Undoing.UndoneEdges.{marked_at, marks_are, uncut_of}
use Rattle.commit_book.proofs.Undoing.UndoneJournal.{IsUndoOf, undo_of}
use Rattle.commit_book.proofs.Undoing.UndoneKept.{nodes_dropped, saved_dropped}
use Rattle.commit_book.proofs.Undoing.UndoneKnown.{saved_going}
use Rattle.commit_book.proofs.Undoing.UndoneParts.{floor_rest}
use Rattle.commit_book.proofs.Undoing.UndoneWaiting.{unmade_by}

-- ---- lists under tests that say the same

or_swap : (a b : Bool) → (a || b) ≡ (b || a)
or_swap true true = refl
or_swap true false = refl
or_swap false true = refl
or_swap false false = refl

left_same : (f g : ℕ → Bool) → ((k : ℕ) → f k ≡ g k) → (ws : List Write) → filter (λ (w : Write). not (f w.number)) ws ≡ filter (λ (w : Write). not (g w.number)) ws
left_same f g same [] = refl
left_same f g same (w ∷ ws) = ap (λ b. cond (not b) (w ∷ filter (λ (k : Write). not (f k.number)) ws) (filter (λ (k : Write). not (f k.number)) ws)) (same w.number) ∙ ap (λ l. cond (not (g w.number)) (w ∷ l) l) (left_same f g same ws)

prints_same : (f g : ℕ → Bool) → ((k : ℕ) → f k ≡ g k) → (ps : List Print) → filter (λ (p : Print). not (f p.number)) ps ≡ filter (λ (p : Print). not (g p.number)) ps
prints_same f g same [] = refl
prints_same f g same (p ∷ ps) = ap (λ b. cond (not b) (p ∷ filter (λ (k : Print). not (f k.number)) ps) (filter (λ (k : Print). not (f k.number)) ps)) (same p.number) ∙ ap (λ l. cond (not (g p.number)) (p ∷ l) l) (prints_same f g same ps)

-- ---- the channels of struck steps

-- of a list of steps, one makes the channel
record MakesIn (es : List Event) (qs : List ℕ) (c : ℕ) : Type 0 where
  q : ℕ
  among : has qs q ≡ true
  makes : makes_at es q c ≡ true

makes_in : (es : List Event) (qs : List ℕ) (c : ℕ) → makes_any es qs c ≡ true → MakesIn es qs c
makes_in es [] c h = absurd (false≢true h)
makes_in es (q ∷ qs) c h = elim (makes_at es q c) as (λ b. makes_at es q c ≡ b → (b || makes_any es qs c) ≡ true → MakesIn es (q ∷ qs) c) [
  | true ↦ λ is h. record { q = q; among = ap (λ b. cond b true (has qs q)) (nat_eq_equiv.refl q); makes = is }
  | false ↦ λ is h. let k = makes_in es qs c h in record { q = k.q; among = (elim (nat_eq k.q q) as (λ b. cond b true (has qs k.q) ≡ true) [ true ↦ refl | false ↦ k.among ]); makes = k.makes }
] refl h

any_makes : (es : List Event) (qs : List ℕ) (c q : ℕ) → has qs q ≡ true → makes_at es q c ≡ true → makes_any es qs c ≡ true
any_makes es [] c q among makes = absurd (false≢true among)
any_makes es (k ∷ qs) c q among makes = elim (nat_eq q k) as (λ b. nat_eq q k ≡ b → cond b true (has qs q) ≡ true → (makes_at es k c || makes_any es qs c) ≡ true) [
  | true ↦ λ is at. ap (λ b. b || makes_any es qs c) (ap (λ j. makes_at es j c) (sym (eqb-true q k is)) ∙ makes)
  | false ↦ λ is at. or_right (makes_at es k c) (makes_any es qs c) (any_makes es qs c q at makes)
] refl among

-- a step that goes and makes it
unmade_at : (gone : ℕ → Bool) (c : ℕ) (ns : List Numbered) → is_unmade gone c ns ≡ true → (n : Numbered) × (at : IsStepAt ns n.seq.0) × (at.n ≡ n) × (gone n.seq.0 ≡ true) × (is_at (made n.label) c ≡ true)
unmade_at gone c [] h = absurd (false≢true h)
unmade_at gone c (n ∷ ns) h = elim (gone n.seq.0 && is_at (made n.label) c) as (λ b. (gone n.seq.0 && is_at (made n.label) c) ≡ b → (b || is_unmade gone c ns) ≡ true → (k : Numbered) × (at : IsStepAt (n ∷ ns) k.seq.0) × (at.n ≡ k) × (gone k.seq.0 ≡ true) × (is_at (made k.label) c ≡ true)) [
  | true ↦ λ is h. let both = and_parts (gone n.seq.0) (is_at (made n.label) c) is in (n, record { before = []; n = n; after = ns; is = refl; number = refl }, refl, both.0, both.1)
  | false ↦ λ is h. let k = unmade_at gone c ns h in (k.0, record { before = n ∷ k.1.before; n = k.1.n; after = k.1.after; is = ap (λ l. n ∷ l) k.1.is; number = k.1.number }, k.2, k.3, k.4)
] refl h

-- ---- which values are final

-- the prints up to the last cut stay
finals_rest : (f : ℕ) (gone : ℕ → Bool) → ((k : ℕ) → gone k ≡ true → f < k) → (ns : List Numbered) → count_by (λ (n : Numbered). is_print n.label && nat_lt n.seq.0 f) (rest gone ns) ≡ count_by (λ (n : Numbered). is_print n.label && nat_lt n.seq.0 f) ns
finals_rest f gone above [] = refl
finals_rest f gone above (n ∷ ns) =
    let more = finals_rest f gone above ns in
    elim (gone n.seq.0) as (λ b. gone n.seq.0 ≡ b → count_by (λ (k : Numbered). is_print k.label && nat_lt k.seq.0 f) (cond b (rest gone ns) (n ∷ rest gone ns)) ≡ count_by (λ (k : Numbered). is_print k.label && nat_lt k.seq.0 f) (n ∷ ns)) [
      | true ↦ λ goes.
          let low : nat_lt n.seq.0 f ≡ false = not_less n.seq.0 f (let over : f < n.seq.0 = above n.seq.0 goes in omega (arith, over)) in
          let none : cond {A = ℕ} (is_print n.label && nat_lt n.seq.0 f) 1 0 ≡ 0 = ap (λ b. cond {A = ℕ} (is_print n.label && b) 1 0) low ∙ no (is_print n.label) in
          let sum : count_by (λ (k : Numbered). is_print k.label && nat_lt k.seq.0 f) (n ∷ ns) ≡ cond {A = ℕ} (is_print n.label && nat_lt n.seq.0 f) 1 0 + count_by (λ (k : Numbered). is_print k.label && nat_lt k.seq.0 f) ns = counted (λ (k : Numbered). is_print k.label && nat_lt k.seq.0 f) n ns in
          omega (arith, more, sum, none)
      | false ↦ λ stays.
          let sum = counted (λ (k : Numbered). is_print k.label && nat_lt k.seq.0 f) n ns in
          let left = counted (λ (k : Numbered). is_print k.label && nat_lt k.seq.0 f) n (rest gone ns) in
          omega (arith, more, sum, left)
    ] refl
  where
    no : (b : Bool) → cond {A = ℕ} (b && false) 1 0 ≡ 0
    no true = refl
    no false = refl

-- ---- who fails still

-- a thread that is put back hasn't failed
put_unfailed : (p : ProgramParts) (saved : ℕ → Option ControlView) → ((q : ℕ) → option_map_or (λ c. is_failed (expr_of p c)) (saved q) false ≡ false) → (line : Option plan.Line) (slot : Option (Slot ControlView))
    → option_map_or (λ (k : Slot ControlView). is_failed (expr_of p k.control)) (put_back saved line slot) false ≡ (option_map_or (λ (k : Slot ControlView). is_failed (expr_of p k.control)) slot false && not (is_some line))
put_unfailed p saved going None slot = by (option_map_or (λ (k : Slot ControlView). is_failed (expr_of p k.control)) slot false)
  where
    by : (b : Bool) → b ≡ (b && true)
    by true = refl
    by false = refl
put_unfailed p saved going (Some Gone) slot = by (option_map_or (λ (k : Slot ControlView). is_failed (expr_of p k.control)) slot false)
  where
    by : (b : Bool) → false ≡ (b && false)
    by true = refl
    by false = refl
put_unfailed p saved going (Some (From q)) slot = from (saved q.0) slot (going q.0) ∙ by (option_map_or (λ (k : Slot ControlView). is_failed (expr_of p k.control)) slot false)
  where
    from : (o : Option ControlView) (slot : Option (Slot ControlView)) → option_map_or (λ c. is_failed (expr_of p c)) o false ≡ false → option_map_or (λ (k : Slot ControlView). is_failed (expr_of p k.control)) (option_and_then (λ control. option_map (restored control) slot) o) false ≡ false
    from None slot off = refl
    from (Some c) None off = refl
    from (Some c) (Some k) off = off

    by : (b : Bool) → false ≡ (b && false)
    by true = refl
    by false = refl

going_unfailed : (p : ProgramParts) (o : Option ControlView) → IfSome o (λ c. over p c ≡ false) → option_map_or (λ c. is_failed (expr_of p c)) o false ≡ false
going_unfailed p None going = refl
going_unfailed p (Some c) going = by (expr_of p c) going
  where
    by : (e : Expr) → is_over e ≡ false → is_failed e ≡ false
    by (failed k) off = absurd (false≢true (sym off))
    by e off = off_anyway e off
      where
        off_anyway : (e : Expr) → is_over e ≡ false → is_failed e ≡ false
        off_anyway (failed k) off = absurd (false≢true (sym off))
        off_anyway _ off = refl

-- ---- the book

module _ (job : JobParts) (old : Parts) (kept : IsKept job old) (t m removed worker : ℕ) (qs : List ℕ) (reach : marks.AreReached old.graph.nodes m qs) (may : MayUndo job.program kept.shown.run kept.shown.state t m) (low : t < old.slots.next)
    (out new : Parts) (is : IsTakenOut old out m removed qs) (pushed : new.history.events ≡ out.history.events ++ undo_of worker t m ∷ []) (struck : new.history.struck ≡ out.history.struck)
    (more : new ≡ record out { history = new.history; rollback = new.rollback; tallies = record out.tallies { undos = out.tallies.undos + 1 } }) where
  abbrev p : ProgramParts
  p = job.program

  abbrev run : List Numbered
  run = kept.shown.run

  abbrev s : PlainState
  s = kept.shown.state

  abbrev shown : ShowsRun (view_of job old) kept.shown.run kept.shown.state
  shown = kept.shown.shows

  abbrev gone : ℕ → Bool
  gone = has (reached kept.shown.run m)

  stood : IsRun job.program kept.shown.run kept.shown.state
  stood = (stands_run p old.history.events run s shown.journal.history.stands).1

  run_is : survivors old.history ≡ kept.shown.run
  run_is = shown.journal.history.left

  same : (k : ℕ) → has is.gone k ≡ has (reached kept.shown.run m) k
  same k = is.same k ∙ ap (λ (r : List Numbered). has (reached r m) k) run_is

  above : (k : ℕ) → has (reached kept.shown.run m) k ≡ true → floor kept.shown.run < k
  above k lost = cuts_hold run m k stood.rises may.revocable lost

  -- a step of the run as the journal has it
  journal_at : (q : ℕ) (at : IsStepAt kept.shown.run q) → (label_at old.history.events q ≡ Some at.n.label) × (set.contains old.history.struck q ≡ false)
  journal_at q at = let both = survivor_at old.history q (record { before = at.before; n = at.n; after = at.after; is = run_is ∙ at.is; number = at.number }) in (both.0, both.1.kept)

  makes_of : (q c : ℕ) (at : IsStepAt kept.shown.run q) → makes_at old.history.events q c ≡ is_at (made at.n.label) c
  makes_of q c at = ap (λ o. option_map_or (λ (l : Label). is_at (made l) c) o false) (journal_at q at).0

  -- the channels that struck steps made
  makes_same : (c : ℕ) → makes_any old.history.events is.gone c ≡ is_unmade (has (reached kept.shown.run m)) c kept.shown.run
  makes_same c = elim (is_unmade gone c run) as (λ b. is_unmade gone c run ≡ b → makes_any old.history.events is.gone c ≡ b) [
    | true ↦ λ lost.
        let k = unmade_at gone c run lost in
        any_makes old.history.events is.gone c k.0.seq.0 (same k.0.seq.0 ∙ k.3) (makes_of k.0.seq.0 c k.1 ∙ ap (λ (n : Numbered). is_at (made n.label) c) k.2 ∙ k.4)
    | false ↦ λ none. elim (makes_any old.history.events is.gone c) as (λ b. makes_any old.history.events is.gone c ≡ b → b ≡ false) [
      | true ↦ λ some.
          let k = makes_in old.history.events is.gone c some in
          let goes : gone k.q ≡ true = sym (same k.q) ∙ k.among in
          let at = reached_at m k.q nothing_lost run goes in
          absurd (false≢true (sym none ∙ ap (is_unmade gone c) at.is ∙ unmade_by gone c at.before at.n at.after (ap gone at.number ∙ goes) (sym (makes_of k.q c at) ∙ k.makes)))
      | false ↦ λ off. refl
    ] refl
  ] refl

  pub lines_after : (c : ℕ) → map.get new.offers.lines c ≡ cond (is_unmade (has (reached kept.shown.run m)) c kept.shown.run) None (map.get is.between.lines c)
  lines_after c = ap (λ (x : Parts). map.get x.offers.lines c) more ∙ is.channels c ∙ ap (λ b. cond b None (map.get is.between.lines c)) (makes_same c)

  channels_after : (c : ℕ) → map.contains_key new.offers.lines c ≡ (map.contains_key old.offers.lines c && not (is_unmade (has (reached kept.shown.run m)) c kept.shown.run))
  channels_after c = ap is_some (lines_after c ∙ ap (cond (is_unmade gone c run) None) (is.waiting c)) ∙ by (is_unmade gone c run) (map.get old.offers.lines c)
    where
      by : (b : Bool) (o : Option Line) → is_some (cond b None (option_map (without_all (is_touched is.lines)) o)) ≡ (is_some o && not b)
      by true None = refl
      by true (Some l) = refl
      by false None = refl
      by false (Some l) = refl

  -- the prints that stay
  recent_after : new.printed.recent ≡ filter (λ (x : Print). not (gone x.number)) old.printed.recent
  recent_after = ap (λ (x : Parts). x.printed.recent) more ∙ is.recent ∙ prints_same (has is.gone) gone same old.printed.recent

  finals_after : new.printed.finals ≡ old.printed.finals
  finals_after = ap (λ (x : Parts). x.printed.finals) more ∙ is.finals

  printed_after : values new.printed ≡ prints (effect_of p) gone (Some (start p)) run
  printed_after =
      left_values gone old.printed new.printed finals_after recent_after
      ∙ ap (λ qs. stay_printed (λ q. not (gone q)) qs (values old.printed)) (kept.prints.recent ∙ ap (λ (r : List Numbered). prints_above (floor r) r) run_is)
      ∙ ap (stay_printed (λ q. not (gone q)) (prints_above (floor run) run)) shown.journal.printed
      ∙ stay_prints p run (start p) s (floor run) gone refl stood.rises stood.ends above

  is_undo_of : IsUndoOf (view_of job old) (view_of job new) kept.shown.run worker t m
  is_undo_of = record {
    job = refl;
    events = pushed ∙ ap (λ es. es ++ undo_of worker t m ∷ []) is.events;
    struck = λ k. ap (λ x. set.contains x k) struck ∙ is.struck k ∙ ap (λ b. b || set.contains old.history.struck k) (same k) ∙ or_swap (gone k) (set.contains old.history.struck k);
    channels = channels_after;
    last_cut = ap (λ (x : Parts). x.log.last_cut) more ∙ is.last_cut;
    writes = λ r. ap (λ (x : Parts). writes_of x.log r) more ∙ is.writes r ∙ left_same (has is.gone) gone same (writes_of old.log r);
    printed = printed_after;
    next = ap (λ (x : Parts). (view_of job x).next) more ∙ next_same;
    thread = low;
    saved = λ k u. ap (λ (x : Parts). saved_of x.store.controls k u) more ∙ is.saved k u ∙ saved_dropped (view_of job old) run s shown stood m may.revocable qs reach is.lines is.are k u;
    nodes = ap (λ (x : Parts). x.graph.nodes) more ∙ is.nodes ∙ nodes_dropped (view_of job old) run s shown stood m may.revocable qs reach;
  }
    where
      next_same : (view_of job out).next ≡ (view_of job old).next
      next_same i = record { thread = is.next i; chan = is.chan i; ref = is.ref i }

  carried : IsCarriedOut (view_of job old) (view_of job new) kept.shown.run m is.lines
  carried = record {
    threads = λ u. ap (λ (x : Parts). map.get x.slots.threads u) more ∙ is.threads u;
    queue = ap (λ (x : Parts). x.slots.queue) more ∙ is.queue;
    between = is.between;
    waiting = is.waiting;
    withdrawn = is.withdrawn;
    channels = lines_after;
    offers = ap (λ (x : Parts). x.offers.offers) more ∙ is.offers;
  }

  -- the state in which what stays ends
  abbrev at : PlainState
  at = (undone (view_of job old) (view_of job new) run s worker t m shown may is_undo_of qs reach is.lines is.are carried).at

  shows_after : ShowsRun (view_of job new) (without_reached m kept.shown.run) at
  shows_after = undo_shows (view_of job old) (view_of job new) run s worker t m shown may is_undo_of qs reach is.lines is.are carried

  pub survivors_after : survivors new.history ≡ without_reached m kept.shown.run
  survivors_after = shows_after.journal.history.left

  tallies_are : new.tallies ≡ record old.tallies { faulted = out.tallies.faulted; undos = old.tallies.undos + 1 }
  tallies_are = ap (λ (x : Parts). x.tallies) more ∙ ap (λ (k : Tallies). record k { undos = k.undos + 1 }) is.tallies

  events_are : new.history.events ≡ old.history.events ++ undo_of worker t m ∷ []
  events_are = is_undo_of.events

  failed_as : (u : ℕ) → is_faulted_at p new.slots.threads u ≡ (is_faulted_at p old.slots.threads u && not (is_touched is.lines u))
  failed_as u =
      ap (λ o. option_map_or (λ (k : Slot ControlView). is_failed (expr_of p k.control)) o false) (ap (λ (x : Parts). map.get x.slots.threads u) more ∙ is.threads u)
      ∙ put_unfailed p (λ q. saved_of old.store.controls q u) (λ q. going_unfailed p (saved_of old.store.controls q u) (saved_going (view_of job old) run s shown stood q u)) (map.get is.lines u) (map.get old.slots.threads u)

  one_undo : count_by is_undo (old.history.events ++ undo_of worker t m ∷ []) ≡ count_by is_undo old.history.events + 1
  one_undo =
      let sum : count_by is_undo (old.history.events ++ undo_of worker t m ∷ []) ≡ count_by is_undo old.history.events + count_by is_undo (undo_of worker t m ∷ []) = sum_by-append (λ (e : Event). cond {A = ℕ} (is_undo e) 1 0) old.history.events (undo_of worker t m ∷ []) in
      let one : count_by is_undo (undo_of worker t m ∷ []) ≡ 1 = omega arith in
      omega (arith, sum, one)

  finals_stay : final_prints (survivors new.history) ≡ final_prints (survivors old.history)
  finals_stay =
      ap final_prints survivors_after
      ∙ ap (λ f. count_by (λ (n : Numbered). is_print n.label && nat_lt n.seq.0 f) (without_reached m run)) (floor_rest gone run 0 1 stood.rises above)
      ∙ finals_rest (floor run) gone above run
      ∙ sym (ap final_prints run_is)

  prints_left : ArePrints new.history new.printed
  prints_left =
      left_prints old.history new.history old.printed new.printed gone
      (survivors_after ∙ ap (rest gone) (sym run_is))
      (ap floor survivors_after ∙ floor_rest gone run 0 1 stood.rises above ∙ ap floor (sym run_is))
      finals_stay finals_after recent_after kept.prints

  pub kept_after : IsRead new.history new.rollback → IsKept job new
  kept_after read = record {
    valid = kept.valid;
    shown = record { run = without_reached m run; state = at; shows = shows_after };
    tallied = record {
      probes =
          ap (λ k. k.probes) tallies_are ∙ kept.tallied.probes
          ∙ sym (ap (λ es. length (probed es)) events_are ∙ ap length (probed_snoc old.history.events (undo_of worker t m) ∙ append-nil (probed old.history.events)));
      finals = ap (λ k. k.finals) tallies_are ∙ kept.tallied.finals ∙ sym finals_stay;
      released = ap (λ k. k.released) tallies_are ∙ kept.tallied.released ∙ sym (ap released events_are ∙ released_snoc 0 old.history.events (undo_of worker t m));
      undos = ap (λ k. k.undos) tallies_are ∙ ap (λ n. n + 1) kept.tallied.undos ∙ sym (ap (count_by is_undo) events_are ∙ one_undo);
      faulted =
          ap (λ k. k.faulted) tallies_are
          ∙ is.faulted p kept.valid shown.threads.fit kept.tallied.faulted
          ∙ ap length (sym (numbers-same (λ u. is_faulted_at p old.slots.threads u && not (is_touched is.lines u)) (is_faulted_at p new.slots.threads) old.slots.next (λ u below. failed_as u)))
          ∙ ap (λ n. length (numbers (is_faulted_at p new.slots.threads) n)) (sym (ap (λ (x : Parts). x.slots.next) more ∙ is.next));
    };
    read = read;
    prints = prints_left;
  }

  -- ---- what is told

  in_nodes : (q : ℕ) (before : List Numbered) (n : Numbered) (after : List Numbered) → has (reached kept.shown.run m) n.seq.0 ≡ true → is_node n.label ≡ true → has (each (λ (k : Numbered). k.seq.0) (filter (λ (k : Numbered). gone k.seq.0 && is_node k.label) (before ++ n ∷ after))) n.seq.0 ≡ true
  in_nodes q [] n after lost node =
      ap (λ b. has (each (λ (k : Numbered). k.seq.0) (cond b (n ∷ filter (λ (k : Numbered). gone k.seq.0 && is_node k.label) after) (filter (λ (k : Numbered). gone k.seq.0 && is_node k.label) after))) n.seq.0) (ap (λ b. b && is_node n.label) lost ∙ node)
      ∙ ap (λ b. cond b true (has (each (λ (k : Numbered). k.seq.0) (filter (λ (k : Numbered). gone k.seq.0 && is_node k.label) after)) n.seq.0)) (nat_eq_equiv.refl n.seq.0)
  in_nodes q (j ∷ before) n after lost node =
      let deep = in_nodes q before n after lost node in
      elim (gone j.seq.0 && is_node j.label) as (λ b. has (each (λ (k : Numbered). k.seq.0) (cond b (j ∷ filter (λ (k : Numbered). gone k.seq.0 && is_node k.label) (before ++ n ∷ after)) (filter (λ (k : Numbered). gone k.seq.0 && is_node k.label) (before ++ n ∷ after)))) n.seq.0 ≡ true) [
        | true ↦ (elim (nat_eq n.seq.0 j.seq.0) as (λ b. cond b true (has (each (λ (k : Numbered). k.seq.0) (filter (λ (k : Numbered). gone k.seq.0 && is_node k.label) (before ++ n ∷ after))) n.seq.0) ≡ true) [ true ↦ refl | false ↦ deep ])
        | false ↦ deep
      ]

  node_at : (q : ℕ) (ns : List Numbered) → has (each (λ (k : Numbered). k.seq.0) (filter (λ (k : Numbered). gone k.seq.0 && is_node k.label) ns)) q ≡ true → (at : IsStepAt ns q) × (has (reached kept.shown.run m) at.n.seq.0 ≡ true) × (is_node at.n.label ≡ true)
  node_at q [] h = absurd (false≢true h)
  node_at q (n ∷ ns) h = elim (gone n.seq.0 && is_node n.label) as (λ b. (gone n.seq.0 && is_node n.label) ≡ b → has (each (λ (k : Numbered). k.seq.0) (cond b (n ∷ filter (λ (k : Numbered). gone k.seq.0 && is_node k.label) ns) (filter (λ (k : Numbered). gone k.seq.0 && is_node k.label) ns))) q ≡ true → (at : IsStepAt (n ∷ ns) q) × (has (reached kept.shown.run m) at.n.seq.0 ≡ true) × (is_node at.n.label ≡ true)) [
    | true ↦ λ is h. elim (nat_eq q n.seq.0) as (λ b. nat_eq q n.seq.0 ≡ b → cond b true (has (each (λ (k : Numbered). k.seq.0) (filter (λ (k : Numbered). gone k.seq.0 && is_node k.label) ns)) q) ≡ true → (at : IsStepAt (n ∷ ns) q) × (has (reached kept.shown.run m) at.n.seq.0 ≡ true) × (is_node at.n.label ≡ true)) [
      | true ↦ λ same h. let both = and_parts (gone n.seq.0) (is_node n.label) is in (record { before = []; n = n; after = ns; is = refl; number = sym (eqb-true q n.seq.0 same) }, both.0, both.1)
      | false ↦ λ other h. let k = node_at q ns h in (record { before = n ∷ k.0.before; n = k.0.n; after = k.0.after; is = ap (λ l. n ∷ l) k.0.is; number = k.0.number }, k.1, k.2)
    ] refl h
    | false ↦ λ is h. let k = node_at q ns h in (record { before = n ∷ k.0.before; n = k.0.n; after = k.0.after; is = ap (λ l. n ∷ l) k.0.is; number = k.0.number }, k.1, k.2)
  ] refl h

  nodes_told : (q : ℕ) → marks.has q qs ≡ has (reached_nodes kept.shown.run m) q
  nodes_told q = elim (has (reached_nodes run m) q) as (λ b. has (reached_nodes run m) q ≡ b → marks.has q qs ≡ b) [
    | true ↦ λ told.
        let k = node_at q run told in
        ap (λ j. marks.has j qs) (sym k.0.number) ∙ marks_are run old.graph.nodes stood.rises shown.journal.nodes m (uncut_of run m may.revocable) qs reach k.0.before k.0.n k.0.after k.0.is k.2 ∙ k.1
    | false ↦ λ off. elim (marks.has q qs) as (λ b. marks.has q qs ≡ b → b ≡ false) [
      | true ↦ λ marked.
          let k = marked_at run old.graph.nodes stood.rises shown.journal.nodes m (uncut_of run m may.revocable) qs reach q marked in
          absurd (false≢true (sym off ∙ ap (has (reached_nodes run m)) (sym k.number) ∙ ap (λ l. has (each (λ (j : Numbered). j.seq.0) (filter (λ (j : Numbered). gone j.seq.0 && is_node j.label) l)) k.f.seq.0) k.is ∙ in_nodes q k.before k.f k.after k.lost k.node))
      | false ↦ λ no. refl
    ] refl
  ] refl

  pub told : (mark : Seq) → mark.0 ≡ m → IsToldOf kept.shown.run m mark removed qs
  told mark section = record {
    section = section;
    count = is.count ∙ as_many run m is.gone stood.rises is.once same;
    marks = record { nodes = nodes_told; once = reach.once };
  }
