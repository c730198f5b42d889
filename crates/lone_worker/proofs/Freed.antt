-- After a commit that moved threads those have no lease, and the others have what they had.
use Rattle.std.proofs.Common.{◌≡◌, ℕ, Bool, true, false, cond, not, ◌||◌, nat_eq, List, [], ◌∷◌, ◌++◌, Option, Some, None, refl, sym, ap, subst, ◌∙◌}
use Rattle.std.specs.Prelude.{IfSome, IsSome, IsSomeAnd, is_some, option_and_then, option_map, if◌then◌else◌}
use Rattle.std.specs.List.{filter, list_any}
use Rattle.std.specs.Option.{option_map_or}
use Rattle.std.specs.Cmp.{nat_eq_equiv}
use Rattle.std.specs.Ordering.{nat_cmp}
use Rattle.std.specs.FinMap as map
use Rattle.std.specs.FinMap.{FinMap}
use Rattle.std.proofs.lemmas.Bool.{false≢true, eqb-true}
use Rattle.std.proofs.lemmas.List.Folds.{list_any-append}
use Rattle.std.proofs.lemmas.Map.Views.{any-filter_same}
use Rattle.linked_lists.specs.Lists.{is_listed, without}
use Rattle.linked_lists.proofs.Leaving.{neither}
use Rattle.stab_code.specs.Program.{ProgramParts}
use Rattle.thread_slots.specs.declared.state.State.{State}
use Rattle.thread_slots.specs.declared.state.State.TheVariants.{Ready, Leased, Parked, Ended}
use Rattle.thread_slots.specs.Slot.{Slot, same_state, is_in}
use Rattle.rendezvous.specs.declared.offer.Offer.{Offer}
use Rattle.rendezvous.specs.declared.offer.Offer.TheVariants as offers
use Rattle.rendezvous.specs.Line.{AreThere, Line, LineBacked, joined, offered as offered_in}
use Rattle.rendezvous.specs.Offer.{receives_on, sends_on}
use Rattle.language.specs.Expression.{Expr}
use Rattle.language.specs.Plain.{look_in, standing}
use Rattle.language.specs.Table.{Look, act, sends, receives, picks}
use Rattle.journal_laws.proofs.Surviving.{some_is, some_none}
use Rattle.step_eval.specs.ControlView.{ControlView, expr_of}
use Rattle.step_eval.specs.Progress.{Advances, ProgressView}
use Rattle.commit_book.specs.Book.{BookView, IsShown, offered}
use Rattle.commit_book.specs.Commits.{IsMoved, line_after, row_at}
use Rattle.commit_book.specs.Counts.{in_state}
use Rattle.commit_book.specs.Doing.{offer_at, waits_with}
use Rattle.commit_book.specs.Leases.{LeaseView}
use Rattle.commit_book.specs.Rows.{Row, alone, starts, meets, waits, stays, undoes, movers}
use Rattle.commit_book.proofs.Threads.Choosing.{found_in}
use Rattle.commit_book.proofs.Acting.EffectsHeld.{known_at}
use Rattle.commit_book.proofs.Acting.EffectsLocal.{act_there}
use Rattle.commit_book.proofs.Threads.Partners.{IsThere, there_of}
use Rattle.commit_book.proofs.Keeping.RoomHere.{pick_there, receive_there, send_there}
use Rattle.lone_worker.specs.Turn.{IsHeldAs, IsLentAlone}
use Rattle.commit_book.proofs.Threads.Holding.{ended_not_leased, isnt_changed, none_counted, parked_not_leased, ready_not_leased}
use Rattle.lone_worker.proofs.Moving.{Says, row_says}

-- who comes to the tail of a queue stands there
pub comes_last : (queue : List ℕ) (kept : ℕ → Bool) (tail : List ℕ) (u : ℕ) → is_listed u tail ≡ true → kept u ≡ true → is_listed u (queue ++ filter kept tail) ≡ true
comes_last queue kept tail u comes keeps =
    list_any-append (nat_eq u) queue (filter kept tail)
    ∙ ap (λ b. is_listed u queue || b) (any-filter_same (nat_eq u) kept true (λ k same. ap kept (sym (eqb-true u k same)) ∙ keeps) tail ∙ comes)
    ∙ or_true (is_listed u queue)
  where
    or_true : (b : Bool) → (b || true) ≡ true
    or_true true = refl
    or_true false = refl

-- who is in another state has no lease
pub in_other : (threads : FinMap nat_cmp (Slot ControlView)) (u : ℕ) (st : State) → ((s : State) → same_state st s ≡ true → same_state Leased s ≡ false) → is_in st threads u ≡ true → is_in Leased threads u ≡ false
in_other threads u st other is =
    let f = found_in threads u st is in
    ap (λ o. option_map_or (λ (slot : Slot ControlView). same_state Leased slot.state) o false) f.found ∙ other f.slot.state f.is

-- who waits with an offer is parked
waits_parked : {C : Type 0} (offer_of : C → Option Offer) (o : Option (Slot C)) (x : Offer) → option_and_then (waits_with offer_of) o ≡ Some x → option_map_or (λ (slot : Slot C). same_state Leased slot.state) o false ≡ false
waits_parked offer_of None x is = absurd (some_none (sym is))
waits_parked {C} offer_of (Some slot) x is = by (same_state Parked slot.state) refl is
  where
    by : (b : Bool) → same_state Parked slot.state ≡ b → cond b (offer_of slot.control) None ≡ Some x → same_state Leased slot.state ≡ false
    by true at is = parked_not_leased slot.state at
    by false at is = absurd (some_none (sym is))

some_offered : (p : Offer → Bool) (o : Option Offer) → offered_in p o ≡ true → IsThere o (λ x. p x ≡ true)
some_offered p None is = absurd (false≢true is)
some_offered p (Some x) is = record { value = x; found = refl; is = is }

-- who joined a line stands there
joined_here : (t : ℕ) (xs : List ℕ) → list_any (nat_eq t) (xs ++ t ∷ []) ≡ true
joined_here t xs = list_any-append (nat_eq t) xs (t ∷ []) ∙ ap (λ b. list_any (nat_eq t) xs || (b || false)) (nat_eq_equiv.refl t) ∙ or_true (list_any (nat_eq t) xs)
  where
    or_true : (b : Bool) → (b || true) ≡ true
    or_true true = refl
    or_true false = refl

module _ (lent new : BookView) (lease : LeaseView) (progress : ProgressView) (shown : IsShown lent) (shown_new : IsShown new)
    (held : IsSomeAnd (map.get lent.threads lease.thread) (IsHeldAs lease progress.origin)) (advances : Advances lent.job.program progress.origin progress.steps progress.end)
    (row : Row) (at : row ≡ row_at lent lease progress) (undoes_nothing : (m : ℕ) → row ≡ undoes m → ⊥) (moved : IsMoved lent (record new { answered = lent.answered }) lease.worker lease.thread progress.steps row) where
  abbrev t : ℕ
  t = lease.thread

  abbrev p : ProgramParts
  p = lent.job.program

  abbrev e : Expr
  e = expr_of p progress.end

  here : IsThere (map.get lent.threads t) (IsHeldAs lease progress.origin)
  here = there_of (map.get lent.threads t) (IsHeldAs lease progress.origin) held

  says : Says (is_some (map.get lent.offers.offers t)) (look_in p e) (row_at lent lease progress)
  says = row_says lent t e (look_in p e)

  abbrev kept : ℕ → Bool
  kept u = not (is_in Ended new.threads u)

  -- ---- who moved

  in_queue : (u : ℕ) → is_listed u (movers t row) ≡ true → is_in Ended new.threads u ≡ false → is_listed u new.queue ≡ true
  in_queue u mover alive = ap (is_listed u) moved.queue ∙ comes_last (without t lent.queue) kept (movers t row) u mover (ap not alive)

  moved_free : (u : ℕ) → is_listed u (movers t row) ≡ true → is_in Leased new.threads u ≡ false
  moved_free u mover = by (is_in Ended new.threads u) refl
    where
      by : (b : Bool) → is_in Ended new.threads u ≡ b → is_in Leased new.threads u ≡ false
      by true ended = in_other new.threads u Ended ended_not_leased ended
      by false alive = in_other new.threads u Ready ready_not_leased (sym (shown_new.shows.threads.queue.ready u) ∙ in_queue u mover alive)

  -- ---- who waits

  stands : standing shown.state t ≡ Some (expr_of p progress.origin)
  stands =
      sym (shown.shows.threads.threads t)
      ∙ ap (option_map (λ (k : Slot ControlView). expr_of p k.control)) here.found
      ∙ ap (λ c. Some (expr_of p c)) here.is.control

  there_by : (o : Offer) (k : Look Expr) → look_in p e ≡ k → offer_at k ≡ Some o → AreThere lent.offers.lines o
  there_by o (act (sends c v)) looks says =
      subst (AreThere lent.offers.lines) (some_is says)
      (send_there lent shown.run shown.state shown.shows.journal (record { 0 = c })
      (act_there p shown.state 0 (record { 0 = t }) progress.steps progress.origin progress.end stands advances
      (known_at p lent.history.events shown.run shown.state shown.shows.journal.history.stands) (sends c v) looks).0)
  there_by o (act (receives c)) looks says =
      subst (AreThere lent.offers.lines) (some_is says)
      (receive_there lent shown.run shown.state shown.shows.journal (record { 0 = c })
      (act_there p shown.state 0 (record { 0 = t }) progress.steps progress.origin progress.end stands advances
      (known_at p lent.history.events shown.run shown.state shown.shows.journal.history.stands) (receives c) looks))
  there_by o (act (picks c d)) looks says =
      let both = act_there p shown.state 0 (record { 0 = t }) progress.steps progress.origin progress.end stands advances
      (known_at p lent.history.events shown.run shown.state shown.shows.journal.history.stands) (picks c d) looks in
      subst (AreThere lent.offers.lines) (some_is says)
      (pick_there lent shown.run shown.state shown.shows.journal (record { 0 = c }) (record { 0 = d }) both.0 both.1)
  there_by o _ looks says = absurd (some_none (sym says))

  -- one who stands in a line has an offer, and so no lease
  has_offer : (o : Option Offer) → map.get new.offers.offers t ≡ o → (q : Offer → Bool) → offered_in q o ≡ true → is_in Leased new.threads t ≡ false
  has_offer o found q is_so =
      let x = some_offered q o is_so in
      waits_parked (offered new.job.program) (map.get new.threads t) x.value (sym (shown_new.shows.threads.offers.each t) ∙ found ∙ x.found)

  line_of : (k : ℕ) (o : Offer) → row ≡ waits o → (line : Option Line) → map.get lent.offers.lines k ≡ line → IsSome line → IsThere (map.get new.offers.lines k) (λ l. IsThere line (λ before. l ≡ joined t o k before))
  line_of k o waiting None found there = absurd (false≢true there)
  line_of k o waiting (Some line) found there = record {
    value = joined t o k line;
    found = subst (λ b. IfSome b (λ line. map.get new.offers.lines k ≡ Some (line_after t row k line))) found (moved.lines k) ∙ ap (λ r. Some (line_after t r k line)) waiting;
    is = record { value = line; found = refl; is = refl };
  }

  waits_at : (k : ℕ) (o : Offer) → row ≡ waits o → AreThere lent.offers.lines o → (a b : Bool) → sends_on k o ≡ a → receives_on k o ≡ b → (a || b) ≡ true → is_in Leased new.threads t ≡ false
  waits_at k o waiting there a b on_send on_receive some =
      let l = line_of k o waiting (map.get lent.offers.lines k) refl (there k (ap (λ x. x || receives_on k o) on_send ∙ ap (λ x. a || x) on_receive ∙ some)) in
      let backed : LineBacked k t (map.get new.offers.offers t) (Some (joined t o k l.is.value)) =
      subst (λ m. LineBacked k t (map.get new.offers.offers t) m) (l.found ∙ ap Some l.is.is) (shown_new.shows.threads.offers.lines.backed k t)
      in
      side a b l.is.value on_send on_receive some backed
    where
      side : (a b : Bool) (line : Line) → sends_on k o ≡ a → receives_on k o ≡ b → (a || b) ≡ true → LineBacked k t (map.get new.offers.offers t) (Some (joined t o k line)) → is_in Leased new.threads t ≡ false
      side true b line on_send on_receive some backed =
          has_offer (map.get new.offers.offers t) refl (sends_on k)
          (sym backed.0 ∙ ap (λ x. list_any (nat_eq t) (line.sends ++ (if x then t ∷ [] else []))) on_send ∙ joined_here t line.sends)
      side false true line on_send on_receive some backed =
          has_offer (map.get new.offers.offers t) refl (receives_on k)
          (sym backed.1 ∙ ap (λ x. list_any (nat_eq t) (line.receives ++ (if x then t ∷ [] else []))) on_receive ∙ joined_here t line.receives)
      side false false line on_send on_receive some backed = absurd (false≢true some)

  waits_free : (o : Offer) → row ≡ waits o → AreThere lent.offers.lines o → is_in Leased new.threads t ≡ false
  waits_free (offers.Send c) waiting there = waits_at c.0 (offers.Send c) waiting there true false (nat_eq_equiv.refl c.0) refl refl
  waits_free (offers.Recv c) waiting there = waits_at c.0 (offers.Recv c) waiting there false true refl (nat_eq_equiv.refl c.0) refl
  waits_free (offers.Pick c d) waiting there = waits_at c.0 (offers.Pick c d) waiting there false true refl (ap (λ b. b || nat_eq c.0 d.0) (nat_eq_equiv.refl c.0)) refl

  -- it had no offer while it was lent
  not_waiting : is_some (map.get lent.offers.offers t) ≡ true → ⊥
  not_waiting waiting =
      false≢true (ap is_some (sym (shown.shows.threads.offers.each t
      ∙ ap (option_and_then (waits_with (offered p))) here.found
      ∙ ap (λ st. cond (same_state Parked st) (offered p here.value.control) None) here.is.state)) ∙ waiting)

  -- ---- each thread

  itself_free : (r : Row) → row ≡ r → is_in Leased new.threads t ≡ false
  itself_free (alone l) is_row = moved_free t (ap (λ r. is_listed t (movers t r)) is_row ∙ ap (λ b. b || false) (nat_eq_equiv.refl t))
  itself_free (starts u) is_row = moved_free t (ap (λ r. is_listed t (movers t r)) is_row ∙ second u)
    where
      second : (u : ℕ) → (nat_eq t u || (nat_eq t t || false)) ≡ true
      second u = ap (λ b. nat_eq t u || (b || false)) (nat_eq_equiv.refl t) ∙ or_true (nat_eq t u)
        where
          or_true : (b : Bool) → (b || true) ≡ true
          or_true true = refl
          or_true false = refl
  itself_free (meets u l) is_row = moved_free t (ap (λ r. is_listed t (movers t r)) is_row ∙ second u)
    where
      second : (u : ℕ) → (nat_eq t u || (nat_eq t t || false)) ≡ true
      second u = ap (λ b. nat_eq t u || (b || false)) (nat_eq_equiv.refl t) ∙ or_true (nat_eq t u)
        where
          or_true : (b : Bool) → (b || true) ≡ true
          or_true true = refl
          or_true false = refl
  itself_free (waits o) is_row = waits_free o is_row (there_by o (look_in p e) refl (says.waits o (sym at ∙ is_row)))
  itself_free stays is_row = absurd (not_waiting (says.stays (sym at ∙ is_row)))
  itself_free (undoes m) is_row = absurd (undoes_nothing m is_row)

  -- whom the commit may change has no lease
  pub changed_free : (u : ℕ) → is_listed u (t ∷ movers t row) ≡ true → is_in Leased new.threads u ≡ false
  changed_free u listed = by (nat_eq u t) refl listed
    where
      by : (b : Bool) → nat_eq u t ≡ b → (b || is_listed u (movers t row)) ≡ true → is_in Leased new.threads u ≡ false
      by true same is_one = ap (is_in Leased new.threads) (eqb-true u t same) ∙ itself_free row refl
      by false apart is_one = moved_free u is_one

  -- the others have what they had
  pub kept_lent : (u : ℕ) → is_listed u (t ∷ movers t row) ≡ false → is_in Leased new.threads u ≡ is_in Leased lent.threads u
  kept_lent u unlisted = ap (λ o. option_map_or (λ (slot : Slot ControlView). same_state Leased slot.state) o false) (moved.others u (isnt_changed t u row unlisted))

  -- so nobody has one where that thread alone had
  each_free : IsLentAlone lent lease progress.origin → (u : ℕ) → is_in Leased new.threads u ≡ false
  each_free is u = by (is_listed u (t ∷ movers t row)) refl
    where
      by : (b : Bool) → is_listed u (t ∷ movers t row) ≡ b → is_in Leased new.threads u ≡ false
      by true listed = changed_free u listed
      by false unlisted = kept_lent u unlisted ∙ is.alone u ∙ (neither (nat_eq u t) (is_listed u (movers t row)) unlisted).0

  pub free : IsLentAlone lent lease progress.origin → in_state Leased new ≡ 0
  free is = none_counted (is_in Leased new.threads) new.next.thread (each_free is)
