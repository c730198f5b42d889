-- The law of surviving runs, from the pass.
use Rattle.std.proofs.Common.{◌≡◌, ℕ, Bool, true, false, cond, not, ◌&&◌, ◌||◌, List, [], ◌∷◌, ◌++◌, Option, Some, refl, sym, ap, ◌∙◌}
use Rattle.std.specs.FinMap as map
use Rattle.std.proofs.lemmas.Bool.{false≢true}
use Rattle.std.proofs.Math.Bool.{or-true, or-false, and-false, and-true}
use Rattle.stab_base.specs.Datum.{Datum}
use Rattle.stab_journal.specs.declared.event.Label.{Label}
use Rattle.stab_journal.specs.declared.event.Numbered.{Numbered}
use Rattle.stab_journal.specs.Label.{touched, written}
use Rattle.language.specs.Steps.{State, Table, after_steps, next}
use Rattle.stab_journal.specs.Names.{has, is_at, made}
use Rattle.stab_journal.specs.Reached.{Lost, nothing_lost, after_step}
use Rattle.journal_laws.specs.Lost.{is_hit, is_unmade, is_written, is_stale}
use Rattle.journal_laws.proofs.Without.{IsClosedFrom, lost_after, IsWithout, IsClosedTable, stood, held}
use Rattle.journal_laws.specs.Surviving.{IsLawful, thread_of, value_of}
use Rattle.journal_laws.proofs.Applying.{or_false}
use Rattle.journal_laws.proofs.Surviving.{survive_from}

swap_or : (h a later : Bool) → ((h || a) || later) ≡ (a || (h || later))
swap_or true a later = sym (or-true a)
swap_or false a later = refl

pub or_is : (w x : Bool) → (w || x) ≡ cond w true x
or_is true x = refl
or_is false x = refl

pub and_is : (w x : Bool) → (not w && x) ≡ cond w false x
and_is true x = refl
and_is false x = refl

unwritten : (b w : Bool) (now v : Option Datum) → (not b && w) ≡ false → cond b now (cond w v now) ≡ now
unwritten true w now v h = refl
unwritten false true now v h = absurd (false≢true (sym h))
unwritten false false now v h = refl

channels_of : (a b u : Bool) → (u ≡ false → a ≡ b) → (u ≡ true → a ≡ false) → a ≡ (b && not u)
channels_of a b true f g = g refl ∙ sym (and-false b)
channels_of a b false f g = f refl ∙ sym (and-true b)

module _ (gone : ℕ → Bool) where
  one_thread : (b : Bool) (l : Label) (x : Lost) (t : ℕ) (later : Bool) → ((after_step b l x).threads t || later) ≡ (x.threads t || ((b && has (touched l) t) || later))
  one_thread true l x t later = swap_or (has (touched l) t) (x.threads t) later
  one_thread false l x t later = refl

  -- the threads that are lost are those that a step that goes touches
  pub lost_thread : (ns : List Numbered) (x : Lost) (t : ℕ) → (lost_after gone x ns).threads t ≡ (x.threads t || is_hit gone t ns)
  lost_thread [] x t = sym (or-false (x.threads t))
  lost_thread (n ∷ ns) x t = lost_thread ns (after_step (gone n.seq.0) n.label x) t ∙ one_thread (gone n.seq.0) n.label x t (is_hit gone t ns)

  one_channel : (b : Bool) (l : Label) (x : Lost) (c : ℕ) (later : Bool) → ((after_step b l x).channels c || later) ≡ (x.channels c || ((b && is_at (made l) c) || later))
  one_channel true l x c later = swap_or (is_at (made l) c) (x.channels c) later
  one_channel false l x c later = refl

  lost_channel : (ns : List Numbered) (x : Lost) (c : ℕ) → (lost_after gone x ns).channels c ≡ (x.channels c || is_unmade gone c ns)
  lost_channel [] x c = sym (or-false (x.channels c))
  lost_channel (n ∷ ns) x c = lost_channel ns (after_step (gone n.seq.0) n.label x) c ∙ one_channel (gone n.seq.0) n.label x c (is_unmade gone c ns)

  one_reference : (b : Bool) (l : Label) (x : Lost) (r : ℕ) → (after_step b l x).references r ≡ cond (is_at (written l) r) b (x.references r)
  one_reference true l x r = or_is (is_at (written l) r) (x.references r)
  one_reference false l x r = and_is (is_at (written l) r) (x.references r)

  lost_reference : (ns : List Numbered) (x : Lost) (r : ℕ) → (lost_after gone x ns).references r ≡ is_stale gone r (x.references r) ns
  lost_reference [] x r = refl
  lost_reference (n ∷ ns) x r = lost_reference ns (after_step (gone n.seq.0) n.label x) r ∙ ap (λ b. is_stale gone r b ns) (one_reference (gone n.seq.0) n.label x r)

  module _ {E : Type 0} (effect : Table E) where
    -- where a thread stood before the first lost step that touches it
    stood_before : (t : ℕ) (s : Option (State E)) (before : List Numbered) (n : Numbered) (after : List Numbered) → is_hit gone t before ≡ false → gone n.seq.0 ≡ true → has (touched n.label) t ≡ true → stood effect gone t s (before ++ n ∷ after) ≡ thread_of (after_steps effect s before) t
    stood_before t s [] n after none goes hit = ap (λ b. cond (b && has (touched n.label) t) (thread_of s t) (stood effect gone t (next effect s n) after)) goes ∙ ap (λ b. cond b (thread_of s t) (stood effect gone t (next effect s n) after)) hit
    stood_before t s (k ∷ before) n after none goes hit =
        ap (λ b. cond b (thread_of s t) (stood effect gone t (next effect s k) (before ++ n ∷ after))) (or_false _ _ none).0
        ∙ stood_before t (next effect s k) before n after (or_false _ _ none).1 goes hit

    held_none : (r : ℕ) (now : Option Datum) (s : Option (State E)) (ns : List Numbered) → is_written gone r ns ≡ false → held effect gone r now s ns ≡ now
    held_none r now s [] none = refl
    held_none r now s (n ∷ ns) none = held_none r (cond (gone n.seq.0) now (cond (is_at (written n.label) r) (value_of (next effect s n) r) now)) (next effect s n) ns (or_false _ _ none).1 ∙ unwritten (gone n.seq.0) (is_at (written n.label) r) now _ (or_false _ _ none).0

    held_last : (r : ℕ) (now : Option Datum) (s : Option (State E)) (before : List Numbered) (n : Numbered) (after : List Numbered) → is_at (written n.label) r ≡ true → gone n.seq.0 ≡ false → is_written gone r after ≡ false → held effect gone r now s (before ++ n ∷ after) ≡ value_of (after_steps effect s (before ++ n ∷ [])) r
    held_last r now s [] n after at stays none =
        held_none r _ (next effect s n) after none
        ∙ ap (λ b. cond b now (cond (is_at (written n.label) r) (value_of (next effect s n) r) now)) stays
        ∙ ap (λ b. cond b (value_of (next effect s n) r) now) at
    held_last r now s (k ∷ before) n after at stays none = held_last r (cond (gone k.seq.0) now (cond (is_at (written k.label) r) (value_of (next effect s k) r) now)) (next effect s k) before n after at stays none

    pub nothing_without : (s : State E) → IsWithout nothing_lost s s
    nothing_without s = record {
      same_threads = λ t h. refl;
      lost_threads = λ t h. absurd (false≢true h);
      same_references = λ t h. refl;
      lost_references = λ t h. absurd (false≢true h);
      same_channels = λ t h. refl;
      lost_channels = λ t h. absurd (false≢true h);
      no_channels = λ t h. absurd (false≢true h);
    }

    module _ (IsKnown : State E → Type 0) (closed : IsClosedTable effect IsKnown) where
      -- the law, and that what occurs in the end of what stays is in it
      pub survive : (s end : State E) (ns : List Numbered) → IsKnown s → after_steps effect (Some s) ns ≡ Some end → IsClosedFrom gone nothing_lost ns → (at : State E) × IsKnown at × IsLawful effect gone s ns end at
      survive s end ns known run shut =
          let v = survive_from effect gone IsKnown closed ns nothing_lost s s end (nothing_without s) known run shut in (
            v.at,
            v.known,
            record {
              run = v.is.run;
              threads = λ t h. v.is.without.same_threads t (lost_thread ns nothing_lost t ∙ h);
              stands = λ t before n after cut none goes hit. v.is.stands t refl ∙ ap (stood effect gone t (Some s)) cut ∙ stood_before t (Some s) before n after none goes hit;
              references = λ r h. v.is.without.same_references r (lost_reference ns nothing_lost r ∙ h);
              falls_back = λ r before n after cut at stays none. v.is.holds r ∙ ap (held effect gone r (map.get s.references r) (Some s)) cut ∙ held_last r (map.get s.references r) (Some s) before n after at stays none;
              stays = λ r none. v.is.holds r ∙ held_none r (map.get s.references r) (Some s) ns none;
              channels = λ c. channels_of _ _ _ (λ h. v.is.without.same_channels c (lost_channel ns nothing_lost c ∙ h)) (λ h. v.is.without.no_channels c (lost_channel ns nothing_lost c ∙ h));
              output = v.is.output;
            },
          )
