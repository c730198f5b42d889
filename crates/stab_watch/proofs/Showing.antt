-- What is shown of events stays true of longer lists of events, and rises.
use Rattle.std.proofs.Common.{◌≡◌, ℕ, ◌≤◌, Bool, true, false, List, [], ◌∷◌, ◌++◌, length, refl, sym, ap, subst, ◌∙◌, arith, append_assoc, append-nil, length-append, cond, ◌||◌, ◌&&◌}
use lib.Pointwise.{bytes_decides}
use Rattle.std.proofs.lemmas.Bool.{and_parts}
use Rattle.std.specs.List.{AllByRecursion, sum_by}
use Rattle.std.proofs.lemmas.List.{nil_from_length}
use Rattle.std.proofs.lemmas.List.Sums.{sum_by-append}
use Rattle.stab_journal.specs.declared.event.Event.{Event}
use Rattle.stab_journal.specs.Event.{weigh}
use Rattle.stab_watch.specs.Counts.{is_undo, is_cut, counts, AtMost, StartsWith, EndsWith, WasShown, same_words, is_shown, all_shown, last_words}
use Rattle.stab_watch.specs.Board.{Loaded, stored}
use Rattle.stab_watch.specs.Known.{known, both}
use Rattle.stab_watch.specs.Passes.{HasShown, WriterParts, new_writer, showing, writer_of}
use Rattle.atomic_table.specs.Seated.{TableId}
use Rattle.stab_watch.specs.declared.view.Known.{Known}
use Rattle.stab_watch.proofs.Fronts.{itself, further}

or_right : (a b : Bool) → b ≡ true → (a || b) ≡ true
or_right true b h = refl
or_right false b h = h

or_cases : (a b : Bool) (P : Type 0) → (a ≡ true → P) → (b ≡ true → P) → (a || b) ≡ true → P
or_cases true b P f g h = f refl
or_cases false b P f g h = g h

sum_more : (f : Event → ℕ) (es ks : List Event) → sum_by f es ≤ sum_by f (es ++ ks)
sum_more f es ks = omega (arith, sum_by-append f es ks)

pub rises : (front whole : List Event) → StartsWith whole front → AtMost (counts front) (counts whole)
rises front whole s = subst (λ (l : List Event). AtMost (counts front) (counts l)) (sym s.1)
    (sum_more (λ (e : Event). weigh e.what) front s.0, sum_more (λ (e : Event). cond (is_undo e.what) 1 0) front s.0, sum_more (λ (e : Event). cond (is_cut e.what) 1 0) front s.0)

shown_rises : (events : List Event) (x : List ℕ) → WasShown events x → AtMost x (counts events)
shown_rises events x w = subst (λ (l : List ℕ). AtMost l (counts events)) (sym w.is) (rises w.front events w.starts)

pub all_rise : (events : List Event) (xs : List (List ℕ)) → AllByRecursion (WasShown events) xs → AllByRecursion (λ (x : List ℕ). AtMost x (counts events)) xs
all_rise events [] all = tt
all_rise events (x ∷ xs) all = (shown_rises events x all.0, all_rise events xs all.1)

later : (front whole : List Event) (xs : List (List ℕ)) → StartsWith whole front → AllByRecursion (WasShown front) xs → AllByRecursion (WasShown whole) xs
later front whole [] s all = tt
later front whole (x ∷ xs) s all = (record { front = all.0.front; starts = further whole front all.0.front s all.0.starts; is = all.0.is }, later front whole xs s all.1)

one_more : (events : List Event) (xs : List (List ℕ)) → AllByRecursion (WasShown events) xs → AllByRecursion (WasShown events) (xs ++ counts events ∷ [])
one_more events [] all = (record { front = events; starts = itself events; is = refl }, tt)
one_more events (x ∷ xs) all = (all.0, one_more events xs all.1)

-- all that was shown was shown of these events, and last of all of them
pub record Shows (events : List Event) (shown : List (List ℕ)) : Type 0 where
  pub each : AllByRecursion (WasShown events) shown
  pub last : EndsWith shown (counts events)

-- one more showing
pub shows_more : (front whole : List Event) (seen : List (List ℕ)) → StartsWith whole front → Shows front seen → Shows whole (seen ++ counts whole ∷ [])
shows_more front whole seen s shows = record { each = one_more whole seen (later front whole seen s shows.each); last = (seen, refl) }

pub below : (front whole : List Event) (seen : List (List ℕ)) → StartsWith whole front → Shows front seen → AllByRecursion (λ (x : List ℕ). AtMost x (counts whole)) seen
below front whole seen s shows = all_rise whole seen (later front whole seen s shows.each)

last_of : (events : List Event) (before : List (List ℕ)) (x : List ℕ) → AllByRecursion (WasShown events) (before ++ x ∷ []) → WasShown events x
last_of events [] x all = all.0
last_of events (b ∷ before) x all = last_of events before x all.1

front_of : (events : List Event) (front back : List (List ℕ)) → AllByRecursion (WasShown events) (front ++ back) → AllByRecursion (WasShown events) front
front_of events [] back all = tt
front_of events (x ∷ front) back all = (all.0, front_of events front back all.1)

-- the last words of what a reader has seen were shown of the writer's events
pub seen_shown : (events : List Event) (shown seen : List (List ℕ)) (x : List ℕ) → Shows events shown → StartsWith shown seen → EndsWith seen x → WasShown events x
seen_shown events shown seen x shows s e =
    let all = front_of events seen s.0 (subst (AllByRecursion (WasShown events)) s.1 shows.each) in
    last_of events e.0 x (subst (AllByRecursion (WasShown events)) e.1 all)

same_is : (x y : List ℕ) → same_words x y ≡ true → x ≡ y
same_is x y h = (bytes_decides x y).0 h

is_same : (x y : List ℕ) → x ≡ y → same_words x y ≡ true
is_same x y h = (bytes_decides x y).1 h

was_shown : (front es : List Event) (x : List ℕ) → is_shown front es x ≡ true → WasShown (front ++ es) x
was_shown front [] x h = record { front = front; starts = ([], refl); is = same_is x (counts front) h }
was_shown front (e ∷ es) x h =
    or_cases (same_words x (counts front)) _ (WasShown (front ++ e ∷ es) x)
    (λ k. record { front = front; starts = (e ∷ es, refl); is = same_is x (counts front) k })
    (λ k. subst (λ (l : List Event). WasShown l x) (append_assoc front (e ∷ []) es) (was_shown (front ++ e ∷ []) es x k)) h

shown_at : (front es more : List Event) (x : List ℕ) → x ≡ counts (front ++ es) → is_shown front (es ++ more) x ≡ true
shown_at front [] [] x h = is_same x (counts front) (h ∙ ap counts (append-nil front))
shown_at front [] (e ∷ more) x h = ap (λ b. b || is_shown (front ++ e ∷ []) more x) (is_same x (counts front) (h ∙ ap counts (append-nil front)))
shown_at front (e ∷ es) more x h = or_right (same_words x (counts front)) _ (shown_at (front ++ e ∷ []) es more x (h ∙ ap counts (sym (append_assoc front (e ∷ []) es))))

each_of : (events : List Event) (xs : List (List ℕ)) → all_shown events xs ≡ true → AllByRecursion (WasShown events) xs
each_of events [] h = tt
each_of events (x ∷ xs) h = let b = and_parts (is_shown [] events x) (all_shown events xs) h in (was_shown [] events x b.0, each_of events xs b.1)

of_each : (events : List Event) (xs : List (List ℕ)) → AllByRecursion (WasShown events) xs → all_shown events xs ≡ true
of_each events [] all = refl
of_each events (x ∷ xs) all =
    let w = all.0 in
    ap (λ b. b && all_shown events xs) (ap (λ l. is_shown [] l x) w.starts.1 ∙ shown_at [] w.front w.starts.0 x w.is) ∙ of_each events xs all.1

last_at : (xs : List (List ℕ)) (x : List ℕ) → last_words (xs ++ x ∷ []) ≡ x
last_at [] x = refl
last_at (y ∷ []) x = refl
last_at (y ∷ z ∷ xs) x = last_at (z ∷ xs) x

ends : (n : ℕ) (ns : List ℕ) (xs : List (List ℕ)) → last_words xs ≡ n ∷ ns → EndsWith xs (n ∷ ns)
ends n ns [] h = cc
ends n ns (x ∷ []) h = ([], ap (λ k. k ∷ []) h)
ends n ns (x ∷ y ∷ xs) h = let e = ends n ns (y ∷ xs) h in (x ∷ e.0, ap (λ l. x ∷ l) e.1)

pub shows_of : (events : List Event) (w : WriterParts) → HasShown events w → Shows events w.shown
shows_of events w h = record { each = each_of events w.shown h.shows; last = ends _ _ w.shown h.last }

pub opens_writer : (board : TableId) → HasShown [] (new_writer board)
opens_writer board = record { shows = refl; last = refl; len_is = refl }

-- what the writer needs to know for a store
pub may_store : (whole : List Event) (y : List ℕ) (w : WriterParts) → y ≡ counts whole → (front : List Event) × HasShown front w × StartsWith whole front → AllByRecursion (λ (x : List ℕ). AtMost x y) w.shown
may_store whole y w is h = subst (λ (l : List ℕ). AllByRecursion (λ (x : List ℕ). AtMost x l) w.shown) (sym is) (below h.0 whole w.shown h.2 (shows_of h.0 w h.1))

-- the writer's counts are those of the front of the history that it has shown
pub counts_of_front : (whole : List Event) (now : List ℕ) (w : WriterParts) → now ≡ last_words w.shown → (front : List Event) × HasShown front w × StartsWith whole front
    → (front : List Event) × StartsWith whole front × (w.len ≡ length front) × (now ≡ counts front)
counts_of_front whole now w is h = (h.0, h.2, h.1.len_is, is ∙ h.1.last)

-- what the writer has shown after a store
pub has_shown : (whole : List Event) (w : WriterParts) → (front : List Event) × HasShown front w × StartsWith whole front → HasShown whole (showing w whole)
has_shown whole w h =
    let shows = shows_more h.0 whole w.shown h.2 (shows_of h.0 w h.1) in
    record { shows = of_each whole _ shows.each; last = last_at w.shown (counts whole); len_is = refl }

-- the words that a reader has read last are the last of those that it has seen
pub read_last : (seen : List (List ℕ)) (x : List ℕ) → EndsWith seen x → x ≡ last_words seen
read_last seen x e = sym (ap last_words e.1 ∙ last_at e.0 x)

-- the last reading of a reader, once the writer has taken its pass in and loads
pub gathered : (events : List Event) (w : WriterParts) (v u : Known) (seen : List (List ℕ)) (n : ℕ) (ns : List ℕ) (y : List ℕ) → v.writes ≡ true → v.seen ≡ w.shown → HasShown events w → Loaded (both v (known false seen [])) y u → n ∷ ns ≡ last_words seen → WasShown events (n ∷ ns)
gathered events w v u seen n ns y writes is h l e =
    seen_shown events w.shown seen (n ∷ ns) (shows_of events w h) (subst (λ (k : List (List ℕ)). StartsWith k seen) (l.writer writes ∙ is) l.told.0) (ends n ns seen (sym e))

-- all that the reader had seen was shown first
pub gathered_front : (w : WriterParts) (v u : Known) (seen : List (List ℕ)) (y : List ℕ) → v.writes ≡ true → v.seen ≡ w.shown → Loaded (both v (known false seen [])) y u → StartsWith w.shown seen
gathered_front w v u seen y writes is l = subst (λ (k : List (List ℕ)). StartsWith k seen) (l.writer writes ∙ is) l.told.0

-- the words of a store are the last that were shown
pub stored_last : (v u : Known) (x y : List ℕ) → stored v x y u → y ≡ last_words u.seen
stored_last v u x y st = sym (ap last_words (ap (λ (k : Known). k.seen) st) ∙ last_at v.seen y)

-- a store shows the events once more
pub shown_next : (events : List Event) (w : WriterParts) (t t' : TableId) (v u : Known) (x y : List ℕ) (len n : ℕ) → writer_of t v.seen len ≡ w → t' ≡ t → stored v x y u → y ≡ counts events → n ≡ length events → writer_of t' u.seen n ≡ showing w events
shown_next events w t t' v u x y len n is same st counts_are at =
    let board : t' ≡ w.board = same ∙ ap (λ (k : WriterParts). k.board) is in
    let seen : u.seen ≡ w.shown ++ counts events ∷ [] = ap (λ (k : Known). k.seen) st ∙ ap (λ (k : WriterParts). k.shown ++ y ∷ []) is ∙ ap (λ (z : List ℕ). w.shown ++ z ∷ []) counts_are in
    λ i. writer_of (board i) (seen i) (at i)

no_more : (whole front : List Event) → StartsWith whole front → length whole ≤ length front → whole ≡ front
no_more whole front s short =
    let none : s.0 ≡ [] = nil_from_length s.0 (omega (arith, ap length s.1, length-append front s.0, short)) in
    s.1 ∙ ap (λ l. front ++ l) none ∙ append-nil front

-- a history that is no longer than at the last showing is still shown
pub still_shown : (whole : List Event) (w : WriterParts) → (front : List Event) × HasShown front w × StartsWith whole front → length whole ≤ w.len → HasShown whole w
still_shown whole w h short = subst (λ (l : List Event). HasShown l w) (sym (no_more whole h.0 h.2 (omega (arith, short, h.1.len_is)))) h.1
