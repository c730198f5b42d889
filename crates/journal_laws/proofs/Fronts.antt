-- What stands before a section's entry is reached by nothing from it, so the pass may begin behind.
use Rattle.std.proofs.Common.{◌≡◌, ℕ, Bool, true, false, cond, not, ◌&&◌, ◌||◌, List, [], ◌∷◌, ◌++◌, refl, ap, ◌∙◌, arith}
use Rattle.std.proofs.lemmas.Bool.{ne_eqb}
use Rattle.std.specs.List.{AllByRecursion, list_any}
use Rattle.std.specs.Prelude.{Option, Some, None}
use Rattle.stab_journal.specs.declared.event.Label.{Label}
use Rattle.stab_journal.specs.declared.event.Numbered.{Numbered}
use Rattle.stab_journal.specs.Floor.{is_enter, is_entered, is_pin, has_pin}
use Rattle.stab_journal.specs.Generation.{acts_in}
use Rattle.stab_journal.specs.Journal.{RiseFrom}
use Rattle.stab_journal.specs.Label.{actors}
use Rattle.stab_journal.specs.Names.{has, read, is_at}
use Rattle.stab_journal.specs.Label.{written}
use Rattle.stab_journal.specs.Reached.{Lost, nothing_lost, keep, lose, depends, reads_of, reached_from, reached, rest}
use Rattle.journal_laws.proofs.Held.{reached_above}
use Rattle.journal_laws.proofs.Passing.{depends_same, reached_same}
use Rattle.stab_journal.specs.Since.{AreBelow}

none_of : (ts : List ℕ) → list_any (λ _. false) ts ≡ false
none_of [] = refl
none_of (t ∷ ts) = none_of ts

reads_none : (r : Option ℕ) → reads_of r (λ _. false) ≡ false
reads_none None = refl
reads_none (Some r) = refl

-- nothing depends on nothing
free : (l : Label) (x : Lost) → ((t : ℕ) → x.threads t ≡ false) → ((r : ℕ) → x.references r ≡ false) → depends l x ≡ false
free l x ts rs = depends_same l x nothing_lost ts rs ∙ ap (λ b. b || reads_of (read l) (λ _. false)) (none_of (actors l)) ∙ reads_none (read l)

and_false : (a b : Bool) → b ≡ false → (a && b) ≡ false
and_false true b e = e
and_false false b e = refl

front_from : (m : ℕ) (front back : List Numbered) (x : Lost) → ((t : ℕ) → x.threads t ≡ false) → ((r : ℕ) → x.references r ≡ false) → AreBelow m front → reached_from m x (front ++ back) ≡ reached back m
front_from m [] back x ts rs below = reached_same m back x nothing_lost ts rs
front_from m (n ∷ ns) back x ts rs below =
    ap (λ b. cond b (n.seq.0 ∷ reached_from m (lose n.label x) (ns ++ back)) (reached_from m (keep n.label x) (ns ++ back)))
    (ap (λ b. b || depends n.label x) (ne_eqb m n.seq.0 (λ e. let lt = below.0 in omega arith)) ∙ free n.label x ts rs)
    ∙ front_from m ns back (keep n.label x) ts (λ r. and_false (not (is_at (written n.label) r)) (x.references r) (rs r)) below.1

-- what is reached is what is reached of the steps behind
pub reached_front : (m : ℕ) (front back : List Numbered) → AreBelow m front → reached (front ++ back) m ≡ reached back m
reached_front m front back below = front_from m front back nothing_lost (λ t. refl) (λ r. refl) below

-- nothing of the front goes
abbrev pub Stays : (ℕ → Bool) → List Numbered → Type 0
Stays gone = AllByRecursion (λ (n : Numbered). gone n.seq.0 ≡ false)

false_if : (b : Bool) → (b ≡ true → ⊥) → b ≡ false
false_if true never = absurd (never refl)
false_if false never = refl

pub front_stays : (m : ℕ) (front back : List Numbered) → RiseFrom 1 back → AreBelow m front → Stays (has (reached back m)) front
front_stays m [] back rise below = tt
front_stays m (n ∷ ns) back rise below = (
  false_if (has (reached back m) n.seq.0) (λ h. let le = reached_above back m 1 n.seq.0 rise h in let lt = below.0 in omega arith),
  front_stays m ns back rise below.1,
)

pub rest_front : (gone : ℕ → Bool) (front back : List Numbered) → Stays gone front → rest gone (front ++ back) ≡ front ++ rest gone back
rest_front gone [] back stays = refl
rest_front gone (n ∷ ns) back stays = ap (λ b. cond b (rest gone (ns ++ back)) (n ∷ rest gone (ns ++ back))) stays.0 ∙ ap (λ k. n ∷ k) (rest_front gone ns back stays.1)

pub entered_front : (m : ℕ) (front back : List Numbered) → AreBelow m front → is_entered m (front ++ back) ≡ is_entered m back
entered_front m [] back below = refl
entered_front m (n ∷ ns) back below =
    ap (λ b. (b && is_enter n.label) || is_entered m (ns ++ back)) (ne_eqb m n.seq.0 (λ e. let lt = below.0 in omega arith))
    ∙ entered_front m ns back below.1

pub pin_front : (qs : List ℕ) (front back : List Numbered) → Stays (has qs) front → has_pin qs (front ++ back) ≡ has_pin qs back
pin_front qs [] back stays = refl
pin_front qs (n ∷ ns) back stays = ap (λ b. (b && is_pin n.label) || has_pin qs (ns ++ back)) stays.0 ∙ pin_front qs ns back stays.1

pub acts_front : (gone : ℕ → Bool) (t : ℕ) (front back : List Numbered) → Stays gone front → acts_in gone t (front ++ back) ≡ acts_in gone t back
acts_front gone t [] back stays = refl
acts_front gone t (n ∷ ns) back stays = ap (λ b. (b && has (actors n.label) t) || acts_in gone t (ns ++ back)) stays.0 ∙ acts_front gone t ns back stays.1

-- a pin goes where one is among those that go
pub pin_goes : (qs : List ℕ) (ns : List Numbered) → list_any (λ (n : Numbered). is_pin n.label) (rest (λ q. not (has qs q)) ns) ≡ has_pin qs ns
pin_goes qs [] = refl
pin_goes qs (n ∷ ns) =
    elim (has qs n.seq.0) as (λ b. list_any (λ (k : Numbered). is_pin k.label) (cond (not b) (rest (λ q. not (has qs q)) ns) (n ∷ rest (λ q. not (has qs q)) ns)) ≡ ((b && is_pin n.label) || has_pin qs ns)) [
      | true ↦ ap (λ b. is_pin n.label || b) (pin_goes qs ns)
      | false ↦ pin_goes qs ns
    ]

-- a thread acts in what goes where it acts in one of those that go
pub acts_goes : (gone : ℕ → Bool) (t : ℕ) (ns : List Numbered) → list_any (λ (n : Numbered). has (actors n.label) t) (rest (λ q. not (gone q)) ns) ≡ acts_in gone t ns
acts_goes gone t [] = refl
acts_goes gone t (n ∷ ns) =
    elim (gone n.seq.0) as (λ b. list_any (λ (k : Numbered). has (actors k.label) t) (cond (not b) (rest (λ q. not (gone q)) ns) (n ∷ rest (λ q. not (gone q)) ns)) ≡ ((b && has (actors n.label) t) || acts_in gone t ns)) [
      | true ↦ ap (λ b. has (actors n.label) t || b) (acts_goes gone t ns)
      | false ↦ acts_goes gone t ns
    ]
