-- Which threads and channels there are after a step.
use Rattle.std.proofs.Common.{◌≡◌, ℕ, cond, ◌||◌, nat_eq, List, [], ◌∷◌, Option, Some, refl, sym, ap, ◌∙◌}
use Rattle.std.specs.Ordering.{nat_cmp}
use Rattle.std.specs.FinMap as map
use Rattle.std.specs.FinMap.{FinMap}
use Rattle.stab_journal.specs.declared.event.Label.{Label}
use Rattle.stab_journal.specs.Names.{is_at, made}
use Rattle.rendezvous.specs.Line.{Lines}
use Rattle.language.specs.Steps.{State, Effect, apply, put_threads}
use Rattle.language.proofs.Applying.{get_inserted, put_channel-is}
use Rattle.commit_book.specs.Channels.{AreChannels}

-- where threads stand, once the first of these stands at a and the others at b
abbrev pub put_at : {E : Type 0} → List ℕ → E → E → (ℕ → Option E) → ℕ → Option E
put_at [] a b f q = f q
put_at (t ∷ ts) a b f q = cond (nat_eq q t) (Some a) (put_at ts b b f q)

pub get-put_threads : {E : Type 0} (ts : List ℕ) (a b : E) (m : FinMap nat_cmp E) (q : ℕ) → map.get (put_threads ts a b m) q ≡ put_at ts a b (map.get m) q
get-put_threads [] a b m q = refl
get-put_threads (t ∷ ts) a b m q = get_inserted (put_threads ts b b m) t a q ∙ ap (cond (nat_eq q t) (Some a)) (get-put_threads ts b b m q)

module _ {E : Type 0} where
  -- a step adds the channel that it makes
  pub channels_step : (old new : Lines) (s : State E) (l : Label) (e : Effect E) → AreChannels old s
      → ((c : ℕ) → map.contains_key new c ≡ (is_at (made l) c || map.contains_key old c))
      → AreChannels new (apply s l e)
  channels_step old new s l e shown changed c = changed c ∙ ap (λ b. is_at (made l) c || b) (shown c) ∙ sym (put_channel-is (made l) s.channels c)
