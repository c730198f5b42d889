-- One step that is struck, and several one after another.
use Rattle.std.proofs.Common.{◌≡◌, ◌⊎◌, inl, inr, ℕ, suc, ◌+◌, ◌<◌, Bool, true, false, cond, not, ◌||◌, nat_eq, List, [], ◌∷◌, ◌++◌, length, Option, Some, None, IsSome, refl, sym, ap, subst, ◌∙◌, arith, ◌≤◌, length-append}
use Rattle.std.specs.Prelude.{filter}
use Rattle.std.specs.List.{IsDistinct}
use Rattle.std.specs.Option.{option_map_or}
use Rattle.std.specs.FinMap as map
use Rattle.std.specs.FinSet as set
use Rattle.std.specs.Cmp.{nat_eq_equiv}
use Rattle.std.proofs.lemmas.Bool.{false≢true, eqb-true}
use Rattle.std.proofs.lemmas.Map.Keys.{IsDistinct-cons}
use Rattle.linked_lists.proofs.Leaving.{IsDistinct-nil}
use Rattle.stab_base.specs.declared.numbers.ThreadId.{ThreadId}
use Rattle.stab_base.specs.declared.numbers.RefId.{RefId}
use Rattle.stab_base.specs.declared.numbers.Seq.{Seq}
use Rattle.stab_journal.specs.declared.event.Event.{Event}
use Rattle.stab_journal.specs.declared.event.Label.{Label}
use Rattle.stab_journal.specs.declared.event.Label.TheVariants.{NewRef, Set}
use Rattle.stab_journal.specs.Due.{is_print}
use Rattle.stab_journal.specs.Journal.{IsLive, Journal, label_at}
use Rattle.stab_journal.specs.Label.{written}
use Rattle.stab_journal.specs.Names.{has, is_at, made}
use Rattle.reach_line.specs.MarkList.{numbers}
use Rattle.ref_log.specs.Log.{Write, has_write, without, writes_of}
use Rattle.print_log.specs.Log.{Print, has_print, without as without_print}
use Rattle.language.proofs.Applying.{contains_inserted}
use Rattle.journal_laws.proofs.Applying.{or_false}
use Rattle.commit_book.specs.declared.parts.Parts.{Parts}
use Rattle.commit_book.specs.declared.rollback.Rollback.{Rollback}
use Rattle.commit_book.specs.Striking.{AreStruck, MayStrike, MayStrikeAll, makes_any, makes_at, prints_at, writes_at}
use Rattle.commit_book.proofs.Undoing.UndoneMarks.{listed_is}
use Rattle.commit_book.proofs.Undoing.UndoneQueue.{all_apart}

-- ---- what a label writes and makes

pub at_itself : (k : ℕ) → is_at (Some k) k ≡ true
at_itself k = nat_eq_equiv.refl k

-- the pattern of a label that writes
pub written_at : (l : Label) (r : RefId) → ((t : ThreadId) × (l ≡ NewRef t r)) ⊎ ((t : ThreadId) × (l ≡ Set t r)) → is_at (written l) r.0 ≡ true
written_at l r how = elim how [
  | inl new ↦ ap (λ k. is_at (written k) r.0) new.1 ∙ at_itself r.0
  | inr set ↦ ap (λ k. is_at (written k) r.0) set.1 ∙ at_itself r.0
]

-- ---- the writes without one number

cond_or : (b : Bool) → cond b true false ≡ b
cond_or true = refl
cond_or false = refl

stays_without : (q : ℕ) (ws : List Write) → filter (λ (w : Write). not (has (q ∷ []) w.number)) ws ≡ without q ws
stays_without q [] = refl
stays_without q (w ∷ ws) =
    ap (λ b. cond (not b) (w ∷ filter (λ (v : Write). not (has (q ∷ []) v.number)) ws) (filter (λ (v : Write). not (has (q ∷ []) v.number)) ws)) (cond_or (nat_eq w.number q) ∙ nat_eq_equiv.symm w.number q)
    ∙ ap (λ l. cond (not (nat_eq q w.number)) (w ∷ l) l) (stays_without q ws)

none_without : (q : ℕ) (ws : List Write) → has_write q ws ≡ false → without q ws ≡ ws
none_without q [] off = refl
none_without q (w ∷ ws) off =
    let parts = or_false (nat_eq q w.number) (has_write q ws) off in
    ap (λ b. cond (not b) (w ∷ without q ws) (without q ws)) parts.0 ∙ ap (λ l. w ∷ l) (none_without q ws parts.1)

-- ---- the prints without one number

print_without : (q : ℕ) (ps : List Print) → filter (λ (p : Print). not (has (q ∷ []) p.number)) ps ≡ without_print q ps
print_without q [] = refl
print_without q (p ∷ ps) =
    ap (λ b. cond (not b) (p ∷ filter (λ (x : Print). not (has (q ∷ []) x.number)) ps) (filter (λ (x : Print). not (has (q ∷ []) x.number)) ps)) (cond_or (nat_eq p.number q) ∙ nat_eq_equiv.symm p.number q)
    ∙ ap (λ l. cond (not (nat_eq q p.number)) (p ∷ l) l) (print_without q ps)

no_print_without : (q : ℕ) (ps : List Print) → has_print q ps ≡ false → without_print q ps ≡ ps
no_print_without q [] off = refl
no_print_without q (p ∷ ps) off =
    let parts = or_false (nat_eq q p.number) (has_print q ps) off in
    ap (λ b. cond (not b) (p ∷ without_print q ps) (without_print q ps)) parts.0 ∙ ap (λ l. p ∷ l) (no_print_without q ps parts.1)

-- ---- one step

module _ (old : Parts) (q : ℕ) (may : MayStrike old q) (l : Label) (label : label_at old.history.events q ≡ Some l) where
  writes_so : (r : ℕ) → writes_at old.history.events q r ≡ is_at (written l) r
  writes_so r = ap (λ o. option_map_or (λ (k : Label). is_at (written k) r) o false) label

  makes_so : (c : ℕ) → makes_at old.history.events q c ≡ is_at (made l) c
  makes_so c = ap (λ o. option_map_or (λ (k : Label). is_at (made k) c) o false) label

  pub one_struck : (new : Parts) → new.history ≡ record old.history { struck = set.insert old.history.struck q } → ((r : ℕ) → writes_of new.log r ≡ cond (is_at (written l) r) (without q (writes_of old.log r)) (writes_of old.log r)) → new.log.last_cut ≡ old.log.last_cut
      → ((c : ℕ) → map.get new.offers.lines c ≡ cond (is_at (made l) c) None (map.get old.offers.lines c)) → new.offers.offers ≡ old.offers.offers → new.rollback ≡ old.rollback
      → new.printed.finals ≡ old.printed.finals → new.printed.recent ≡ cond (is_print l) (without_print q old.printed.recent) old.printed.recent
      → new ≡ record old { history = new.history; log = new.log; offers = new.offers; printed = new.printed } → AreStruck old new (q ∷ [])
  one_struck new history writes last_cut lines offers rollback finals recent rest = record {
    events = ap (λ (j : Journal). j.events) history;
    spare = ap (λ (j : Journal). j.spare) history;
    struck = λ k. ap (λ (j : Journal). set.contains j.struck k) history ∙ contains_inserted old.history.struck q k ∙ ap (λ b. b || set.contains old.history.struck k) (sym (cond_or (nat_eq k q)));
    writes = λ r. writes r ∙ by_write r (is_at (written l) r) refl ∙ sym (stays_without q (writes_of old.log r));
    last_cut = last_cut;
    waiting = λ c. lines c ∙ ap (λ b. cond b None (map.get old.offers.lines c)) (sym (or_no (makes_at old.history.events q c) ∙ makes_so c));
    offers = offers;
    finals = finals;
    recent = recent ∙ by_print (is_print l) refl ∙ sym (print_without q old.printed.recent);
    rest = rest ∙ ap (λ (r : Rollback). record old { history = new.history; log = new.log; offers = new.offers; printed = new.printed; rollback = record old.rollback { lost = r.lost } }) (sym rollback);
  }
    where
      by_write : (r : ℕ) (b : Bool) → is_at (written l) r ≡ b → cond b (without q (writes_of old.log r)) (writes_of old.log r) ≡ without q (writes_of old.log r)
      by_write r true at = refl
      by_write r false off = sym (none_without q (writes_of old.log r) (may.writes r ∙ writes_so r ∙ off))

      by_print : (b : Bool) → is_print l ≡ b → cond b (without_print q old.printed.recent) old.printed.recent ≡ without_print q old.printed.recent
      by_print true prints = refl
      by_print false silent = sym (no_print_without q old.printed.recent (unprinted (has_print q old.printed.recent) refl))
        where
          unprinted : (b : Bool) → has_print q old.printed.recent ≡ b → b ≡ false
          unprinted true there = absurd (false≢true (sym silent ∙ sym (ap (λ o. option_map_or is_print o false) label) ∙ may.prints there))
          unprinted false off = refl

      or_no : (b : Bool) → (b || false) ≡ b
      or_no true = refl
      or_no false = refl

-- ---- one step more

left_more : (q : ℕ) (qs : List ℕ) (ws : List Write) → filter (λ (w : Write). not (has (q ∷ []) w.number)) (filter (λ (w : Write). not (has qs w.number)) ws) ≡ filter (λ (w : Write). not (has (q ∷ qs) w.number)) ws
left_more q qs [] = refl
left_more q qs (w ∷ ws) =
    let more = left_more q qs ws in
    elim (has qs w.number) as (λ b. filter (λ (v : Write). not (has (q ∷ []) v.number)) (cond (not b) (w ∷ filter (λ (v : Write). not (has qs v.number)) ws) (filter (λ (v : Write). not (has qs v.number)) ws)) ≡ cond (not (cond (nat_eq w.number q) true b)) (w ∷ filter (λ (v : Write). not (has (q ∷ qs) v.number)) ws) (filter (λ (v : Write). not (has (q ∷ qs) v.number)) ws)) [
      | true ↦ more ∙ ap (λ b. cond (not b) (w ∷ filter (λ (v : Write). not (has (q ∷ qs) v.number)) ws) (filter (λ (v : Write). not (has (q ∷ qs) v.number)) ws)) (sym (always (nat_eq w.number q)))
      | false ↦ ap (λ l. cond (not (cond (nat_eq w.number q) true false)) (w ∷ l) l) more
    ]
  where
    always : (b : Bool) → cond b true true ≡ true
    always true = refl
    always false = refl

prints_more : (q : ℕ) (qs : List ℕ) (ps : List Print) → filter (λ (p : Print). not (has (q ∷ []) p.number)) (filter (λ (p : Print). not (has qs p.number)) ps) ≡ filter (λ (p : Print). not (has (q ∷ qs) p.number)) ps
prints_more q qs [] = refl
prints_more q qs (p ∷ ps) =
    let more = prints_more q qs ps in
    elim (has qs p.number) as (λ b. filter (λ (x : Print). not (has (q ∷ []) x.number)) (cond (not b) (p ∷ filter (λ (x : Print). not (has qs x.number)) ps) (filter (λ (x : Print). not (has qs x.number)) ps)) ≡ cond (not (cond (nat_eq p.number q) true b)) (p ∷ filter (λ (x : Print). not (has (q ∷ qs) x.number)) ps) (filter (λ (x : Print). not (has (q ∷ qs) x.number)) ps)) [
      | true ↦ more ∙ ap (λ b. cond (not b) (p ∷ filter (λ (x : Print). not (has (q ∷ qs) x.number)) ps) (filter (λ (x : Print). not (has (q ∷ qs) x.number)) ps)) (sym (always (nat_eq p.number q)))
      | false ↦ ap (λ l. cond (not (cond (nat_eq p.number q) true false)) (p ∷ l) l) more
    ]
  where
    always : (b : Bool) → cond b true true ≡ true
    always true = refl
    always false = refl

pub struck_more : (old mid new : Parts) (qs : List ℕ) (q : ℕ) → AreStruck old mid qs → AreStruck mid new (q ∷ []) → AreStruck old new (q ∷ qs)
struck_more old mid new qs q first then = record {
  events = then.events ∙ first.events;
  spare = then.spare ∙ first.spare;
  struck = λ k. then.struck k ∙ ap (λ b. cond (nat_eq k q) true false || b) (first.struck k) ∙ by (nat_eq k q) (has qs k) (set.contains old.history.struck k);
  writes = λ r. then.writes r ∙ ap (filter (λ (w : Write). not (has (q ∷ []) w.number))) (first.writes r) ∙ left_more q qs (writes_of old.log r);
  last_cut = then.last_cut ∙ first.last_cut;
  waiting = λ c.
      then.waiting c
      ∙ ap (λ es. cond (makes_any es (q ∷ []) c) None (map.get mid.offers.lines c)) first.events
      ∙ ap (cond (makes_any old.history.events (q ∷ []) c) None) (first.waiting c)
      ∙ by_line (makes_at old.history.events q c) (makes_any old.history.events qs c) (map.get old.offers.lines c);
  offers = then.offers ∙ first.offers;
  finals = then.finals ∙ first.finals;
  recent = then.recent ∙ ap (filter (λ (p : Print). not (has (q ∷ []) p.number))) first.recent ∙ prints_more q qs old.printed.recent;
  rest = then.rest ∙ ap (λ (x : Parts). record x { history = new.history; log = new.log; offers = new.offers; printed = new.printed; rollback = record x.rollback { lost = new.rollback.lost } }) first.rest;
}
  where
    by : (a b c : Bool) → (cond a true false || (b || c)) ≡ (cond a true b || c)
    by true b c = refl
    by false b c = refl

    by_line : {X : Type 0} (a b : Bool) (o : Option X) → cond (a || false) None (cond b None o) ≡ cond (a || b) None o
    by_line true b o = refl
    by_line false b o = refl

-- ---- all of them, the last one first

-- so far these were struck, and those that are left are the others of the lost ones
pub record IsStriking (old now : Parts) (lost left : List ℕ) (removed : ℕ) : Type 0 where
  pub qs : List ℕ
  pub struck : AreStruck old now qs
  pub parts : (k : ℕ) → (has qs k || has left k) ≡ has lost k
  pub once : IsDistinct nat_eq qs
  pub count : removed ≡ length qs
  pub few : removed + length left ≤ length lost

none_left : (ws : List Write) → filter (λ (w : Write). not (has [] w.number)) ws ≡ ws
none_left [] = refl
none_left (w ∷ ws) = ap (λ l. w ∷ l) (none_left ws)

none_struck : (ps : List Print) → filter (λ (p : Print). not (has [] p.number)) ps ≡ ps
none_struck [] = refl
none_struck (p ∷ ps) = ap (λ l. p ∷ l) (none_struck ps)

pub striking_none : (old : Parts) (lost : List ℕ) → IsStriking old old lost lost 0
striking_none old lost = record {
  qs = [];
  struck = record { events = refl; spare = refl; struck = λ k. refl; writes = λ r. sym (none_left (writes_of old.log r)); last_cut = refl; waiting = λ c. refl; offers = refl; finals = refl; recent = sym (none_struck old.printed.recent); rest = refl };
  parts = λ k. refl;
  once = IsDistinct-nil;
  count = refl;
  few = omega arith;
}

pub numbers_long : (qs : List Seq) → length (numbers qs) ≡ length qs
numbers_long [] = refl
numbers_long (q ∷ qs) = ap suc (numbers_long qs)

numbers-append : (xs ys : List Seq) → numbers (xs ++ ys) ≡ numbers xs ++ numbers ys
numbers-append [] ys = refl
numbers-append (x ∷ xs) ys = ap (λ l. x.0 ∷ l) (numbers-append xs ys)

pub has_end : (xs : List ℕ) (q k : ℕ) → has (xs ++ q ∷ []) k ≡ (has xs k || nat_eq k q)
has_end [] q k = cond_or (nat_eq k q)
has_end (x ∷ xs) q k = elim (nat_eq k x) as (λ b. cond b true (has (xs ++ q ∷ []) k) ≡ (cond b true (has xs k) || nat_eq k q)) [ true ↦ refl | false ↦ has_end xs q k ]

-- a write that isn't left out
has_left : (q : ℕ) (qs : List ℕ) (ws : List Write) → has qs q ≡ false → has_write q (filter (λ (w : Write). not (has qs w.number)) ws) ≡ has_write q ws
has_left q qs [] off = refl
has_left q qs (w ∷ ws) off =
    let more = has_left q qs ws off in
    elim (nat_eq q w.number) as (λ c. nat_eq q w.number ≡ c → has_write q (cond (not (has qs w.number)) (w ∷ filter (λ (v : Write). not (has qs v.number)) ws) (filter (λ (v : Write). not (has qs v.number)) ws)) ≡ (c || has_write q ws)) [
      | true ↦ λ same.
          ap (λ b. has_write q (cond (not b) (w ∷ filter (λ (v : Write). not (has qs v.number)) ws) (filter (λ (v : Write). not (has qs v.number)) ws))) (ap (has qs) (sym (eqb-true q w.number same)) ∙ off)
          ∙ ap (λ b. b || has_write q (filter (λ (v : Write). not (has qs v.number)) ws)) same
      | false ↦ λ other.
          (elim (has qs w.number) as (λ b. has_write q (cond (not b) (w ∷ filter (λ (v : Write). not (has qs v.number)) ws) (filter (λ (v : Write). not (has qs v.number)) ws)) ≡ has_write q (filter (λ (v : Write). not (has qs v.number)) ws)) [
            | true ↦ refl
            | false ↦ ap (λ b. b || has_write q (filter (λ (v : Write). not (has qs v.number)) ws)) other
          ]) ∙ more
    ] refl

-- a print that is left was there
print_left : (q : ℕ) (qs : List ℕ) (ps : List Print) → has_print q (filter (λ (p : Print). not (has qs p.number)) ps) ≡ true → has_print q ps ≡ true
print_left q qs [] there = there
print_left q qs (p ∷ ps) there =
    elim (has qs p.number) as (λ b. has_print q (cond (not b) (p ∷ filter (λ (x : Print). not (has qs x.number)) ps) (filter (λ (x : Print). not (has qs x.number)) ps)) ≡ true → (nat_eq q p.number || has_print q ps) ≡ true) [
      | true ↦ λ at. later (nat_eq q p.number) (print_left q qs ps at)
      | false ↦ elim (nat_eq q p.number) as (λ c. (c || has_print q (filter (λ (x : Print). not (has qs x.number)) ps)) ≡ true → (c || has_print q ps) ≡ true) [
        | true ↦ λ at. refl
        | false ↦ λ at. print_left q qs ps at
      ]
    ] there
  where
    later : (b : Bool) {c : Bool} → c ≡ true → (b || c) ≡ true
    later true is = refl
    later false is = is

-- the channel of a struck step
record Makes (events : List Event) (qs : List ℕ) (c : ℕ) : Type 0 where
  q : ℕ
  among : has qs q ≡ true
  makes : makes_at events q c ≡ true

maker : (events : List Event) (qs : List ℕ) (c : ℕ) → makes_any events qs c ≡ true → Makes events qs c
maker events [] c h = absurd (false≢true h)
maker events (q ∷ qs) c h = elim (makes_at events q c) as (λ b. makes_at events q c ≡ b → (b || makes_any events qs c) ≡ true → Makes events (q ∷ qs) c) [
  | true ↦ λ is h. record { q = q; among = ap (λ b. cond b true (has qs q)) (nat_eq_equiv.refl q); makes = is }
  | false ↦ λ is h. let k = maker events qs c h in record { q = k.q; among = (elim (nat_eq k.q q) as (λ b. cond b true (has qs k.q) ≡ true) [ true ↦ refl | false ↦ k.among ]); makes = k.makes }
] refl h

module _ (old now mid : Parts) (lost : List ℕ) (left rest : List Seq) (q : Seq) (removed : ℕ) (may : MayStrikeAll old lost) (so : IsStriking old now lost (numbers left) removed) (popped : left ≡ rest ++ q ∷ [])
    (taken : mid ≡ record now { rollback = record now.rollback { lost = mid.rollback.lost } }) where
  struck_mid : AreStruck old mid so.qs
  struck_mid = record {
    events = ap (λ (x : Parts). x.history.events) taken ∙ so.struck.events;
    spare = ap (λ (x : Parts). x.history.spare) taken ∙ so.struck.spare;
    struck = λ k. ap (λ (x : Parts). set.contains x.history.struck k) taken ∙ so.struck.struck k;
    writes = λ r. ap (λ (x : Parts). writes_of x.log r) taken ∙ so.struck.writes r;
    last_cut = ap (λ (x : Parts). x.log.last_cut) taken ∙ so.struck.last_cut;
    waiting = λ c. ap (λ (x : Parts). map.get x.offers.lines c) taken ∙ so.struck.waiting c;
    offers = ap (λ (x : Parts). x.offers.offers) taken ∙ so.struck.offers;
    finals = ap (λ (x : Parts). x.printed.finals) taken ∙ so.struck.finals;
    recent = ap (λ (x : Parts). x.printed.recent) taken ∙ so.struck.recent;
    rest = mid_rest;
  }
    where
      mid_rest : mid ≡ record old { history = mid.history; log = mid.log; offers = mid.offers; printed = mid.printed; rollback = record old.rollback { lost = mid.rollback.lost } }
      mid_rest =
          taken
          ∙ ap (λ (x : Parts). record x { rollback = record x.rollback { lost = mid.rollback.lost } }) so.struck.rest
          ∙ ap (λ (x : Parts). record old { history = x.history; log = x.log; offers = x.offers; printed = x.printed; rollback = record old.rollback { lost = mid.rollback.lost } }) (sym taken)

  -- one fewer is left
  one_fewer : removed + 1 + length (numbers rest) ≤ length lost
  one_fewer =
      let long : length (numbers left) ≡ length (numbers rest) + 1 = ap length (ap numbers popped ∙ numbers-append rest (q ∷ [])) ∙ length-append (numbers rest) (q.0 ∷ []) in
      let few = so.few in
      omega (arith, long, few)

  pub one_more_fits : removed + 1 ≤ length lost
  one_more_fits = let few = one_fewer in omega (arith, few)

  ends_in : (k : ℕ) → has (numbers left) k ≡ (has (numbers rest) k || nat_eq k q.0)
  ends_in k = ap (λ l. has l k) (ap numbers popped ∙ numbers-append rest (q ∷ [])) ∙ has_end (numbers rest) q.0 k

  here_lost : has lost q.0 ≡ true
  here_lost = sym (so.parts q.0) ∙ ap (λ b. has so.qs q.0 || b) (ends_in q.0 ∙ ap (λ b. has (numbers rest) q.0 || b) (nat_eq_equiv.refl q.0) ∙ or_true (has (numbers rest) q.0)) ∙ or_true (has so.qs q.0)
    where
      or_true : (b : Bool) → (b || true) ≡ true
      or_true true = refl
      or_true false = refl

  module _ (live : IsLive mid.history q.0) where
    fresh : has so.qs q.0 ≡ false
    fresh = (or_false (has so.qs q.0) (set.contains old.history.struck q.0) (sym (struck_mid.struck q.0) ∙ live.kept)).0

    pub may_one : MayStrike mid q.0
    may_one =
        let one = may.each q.0 here_lost in
        record {
          live = live;
          above = subst (λ (n : ℕ). n < q.0) (sym struck_mid.last_cut) one.above;
          writes = λ r. ap (has_write q.0) (struck_mid.writes r) ∙ has_left q.0 so.qs (writes_of old.log r) fresh ∙ one.writes r ∙ ap (λ es. writes_at es q.0 r) (sym struck_mid.events);
          prints = λ there.
              ap (λ es. prints_at es q.0) struck_mid.events
              ∙ one.prints (print_left q.0 so.qs old.printed.recent (ap (has_print q.0) (sym struck_mid.recent) ∙ there));
          nobody = λ c makes.
              let makes_before : makes_at old.history.events q.0 c ≡ true = ap (λ es. makes_at es q.0 c) (sym struck_mid.events) ∙ makes in
              struck_mid.waiting c ∙ ap (λ b. cond b None (map.get old.offers.lines c)) (unmade c makes_before) ∙ one.nobody c makes_before;
        }
      where
        unmade : (c : ℕ) → makes_at old.history.events q.0 c ≡ true → makes_any old.history.events so.qs c ≡ false
        unmade c makes = elim (makes_any old.history.events so.qs c) as (λ b. makes_any old.history.events so.qs c ≡ b → b ≡ false) [
          | true ↦ λ some.
              let k = maker old.history.events so.qs c some in
              let among : has lost k.q ≡ true = sym (so.parts k.q) ∙ ap (λ b. b || has (numbers left) k.q) k.among in
              absurd (false≢true (sym fresh ∙ ap (has so.qs) (sym (may.once k.q q.0 c among here_lost k.makes makes)) ∙ k.among))
          | false ↦ λ off. refl
        ] refl

    -- it was struck
    pub striking_one : (new : Parts) (n : ℕ) → AreStruck mid new (q.0 ∷ []) → n ≡ removed + 1 → IsStriking old new lost (numbers rest) n
    striking_one new n one more = record {
      qs = q.0 ∷ so.qs;
      struck = struck_more old mid new so.qs q.0 struck_mid one;
      parts = λ k. by (nat_eq k q.0) (has so.qs k) (has (numbers rest) k) ∙ ap (λ b. has so.qs k || b) (sym (ends_in k)) ∙ so.parts k;
      once = IsDistinct-cons nat_eq q.0 so.qs (all_apart q.0 so.qs (listed_is q.0 so.qs ∙ fresh)) so.once;
      count = let before = so.count in omega (arith, more, before);
      few = let fewer = one_fewer in omega (arith, more, fewer);
    }
      where
        by : (a b c : Bool) → (cond a true b || c) ≡ (b || (c || a))
        by true true c = refl
        by true false true = refl
        by true false false = refl
        by false true c = refl
        by false false true = refl
        by false false false = refl

  -- it was struck before
  pub striking_again : (IsLive mid.history q.0 → ⊥) → IsStriking old mid lost (numbers rest) removed
  striking_again dead = record {
    qs = so.qs;
    struck = struck_mid;
    parts = λ k. by k ∙ ap (λ b. has so.qs k || b) (sym (ends_in k)) ∙ so.parts k;
    once = so.once;
    count = so.count;
    few = let fewer = one_fewer in omega (arith, fewer);
  }
    where
      there : has so.qs q.0 ≡ true
      there = elim (has so.qs q.0) as (λ b. has so.qs q.0 ≡ b → b ≡ true) [
        | true ↦ λ at. refl
        | false ↦ λ off. absurd (dead (record {
          step = subst (λ (es : List Event). IsSome (label_at es q.0)) (sym struck_mid.events) (may.each q.0 here_lost).live.step;
          kept = struck_mid.struck q.0 ∙ ap (λ b. b || set.contains old.history.struck q.0) off ∙ (may.each q.0 here_lost).live.kept;
        }))
      ] refl

      by : (k : ℕ) → (has so.qs k || has (numbers rest) k) ≡ (has so.qs k || (has (numbers rest) k || nat_eq k q.0))
      by k = elim (nat_eq k q.0) as (λ b. nat_eq k q.0 ≡ b → (has so.qs k || has (numbers rest) k) ≡ (has so.qs k || (has (numbers rest) k || b))) [
        | true ↦ λ same. ap (λ b. b || has (numbers rest) k) (ap (has so.qs) (eqb-true k q.0 same) ∙ there) ∙ sym (ap (λ b. b || (has (numbers rest) k || true)) (ap (has so.qs) (eqb-true k q.0 same) ∙ there))
        | false ↦ λ other. ap (λ b. has so.qs k || b) (or_no (has (numbers rest) k))
      ] refl
        where
          or_no : (b : Bool) → b ≡ (b || false)
          or_no true = refl
          or_no false = refl
