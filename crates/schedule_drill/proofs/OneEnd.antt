-- At alike stands the same leases are given back.
use Rattle.std.proofs.Common.{◌≡◌, ℕ, Bool, true, false, cond, ◌&&◌, List, [], ◌∷◌, Option, Some, None, refl, sym, ap, subst, ◌∙◌}
use Rattle.std.specs.Prelude.{T, map as each, option_map}
use Rattle.std.specs.Ordering.{nat_cmp, eq_by_cmp, is_lt}
use Rattle.std.specs.Cmp.{nat_cmp_total}
use Rattle.std.specs.FinMap as map
use Rattle.std.specs.FinMap.{entries-from_sorted, entries_sorted, find, get-entries, get-from_sorted, is_sorted, nat_cmp-IsAntisymmetric, same_map}
use Rattle.std.specs.FinMap.Entries.{below_all}
use Rattle.stab_code.specs.Program.{ProgramParts}
use Rattle.commit_book.specs.Leases.{LeaseView}
use Rattle.lone_worker.specs.Desk.{desk_of}
use Rattle.schedule_drill.specs.declared.held.Held.{Held}
use Rattle.schedule_drill.specs.Alike.{AreAlike, AreOne}
use Rattle.schedule_drill.specs.Out.{Out, all_given_back}
use Rattle.schedule_drill.specs.Played.{Stand}
use Rattle.schedule_drill.proofs.Desks.{all_given_on, desk_all_given}

-- the leases alone, with their numbers
bare : List (ℕ × Held) → List (ℕ × LeaseView)
bare [] = []
bare (e ∷ es) = (e.0, e.1.lease) ∷ bare es

below_bare : (k : ℕ) (es : List (ℕ × Held)) → below_all nat_cmp k (bare es) ≡ below_all nat_cmp k es
unfolding bare
below_bare k [] = refl
below_bare k (e ∷ es) = ap (λ b. is_lt (nat_cmp k e.0) && b) (below_bare k es)

sorted_bare : (es : List (ℕ × Held)) → is_sorted nat_cmp (bare es) ≡ is_sorted nat_cmp es
unfolding bare
sorted_bare [] = refl
sorted_bare (e ∷ es) = ap (λ b. b && is_sorted nat_cmp (bare es)) (below_bare e.0 es) ∙ ap (λ b. below_all nat_cmp e.0 es && b) (sorted_bare es)

find_bare : (k : ℕ) (es : List (ℕ × Held)) → find nat_cmp k (bare es) ≡ option_map (λ (h : Held). h.lease) (find nat_cmp k es)
unfolding bare
find_bare k [] = refl
find_bare k (e ∷ es) = at (eq_by_cmp nat_cmp k e.0) (find_bare k es)
  where
    at : (b : Bool) → find nat_cmp k (bare es) ≡ option_map (λ (h : Held). h.lease) (find nat_cmp k es) → cond b (Some e.1.lease) (find nat_cmp k (bare es)) ≡ option_map (λ (h : Held). h.lease) (cond b (Some e.1) (find nat_cmp k es))
    at true rest = refl
    at false rest = rest

values_bare : (es : List (ℕ × Held)) → each (λ (e : ℕ × LeaseView). e.1) (bare es) ≡ each (λ (h : Held). h.lease) (each (λ (e : ℕ × Held). e.1) es)
unfolding bare
values_bare [] = refl
values_bare (e ∷ es) = ap (λ ls. e.1.lease ∷ ls) (values_bare es)

module _ (p q : ProgramParts) (m n : Out) (are : (k : ℕ) → AreOne p q (map.get m k) (map.get n k)) where
  one_lease : (o r : Option Held) → AreOne p q o r → option_map (λ (h : Held). h.lease) o ≡ option_map (λ (h : Held). h.lease) r
  one_lease None None is = refl
  one_lease (Some h) (Some i) is = ap Some is.lease
  one_lease None (Some i) is = absurd is
  one_lease (Some h) None is = absurd is

  is_bare : (out : Out) → T (is_sorted nat_cmp (bare (map.entries out)))
  is_bare out = subst T (sym (sorted_bare (map.entries out))) (entries_sorted out)

  get_bare : (out : Out) (k : ℕ) → map.get (map.from_sorted {R = nat_cmp} (bare (map.entries out))) k ≡ option_map (λ (h : Held). h.lease) (map.get out k)
  get_bare out k = get-from_sorted nat_cmp (bare (map.entries out)) k (is_bare out) ∙ find_bare k (map.entries out) ∙ ap (option_map (λ (h : Held). h.lease)) (sym (get-entries out k))

  one_map : map.from_sorted {R = nat_cmp} (bare (map.entries m)) ≡ map.from_sorted {R = nat_cmp} (bare (map.entries n))
  one_map = same_map nat_cmp_total nat_cmp-IsAntisymmetric _ _ (λ k. get_bare m k ∙ one_lease (map.get m k) (map.get n k) (are k) ∙ sym (get_bare n k))

  one_bare : bare (map.entries m) ≡ bare (map.entries n)
  one_bare = sym (entries-from_sorted nat_cmp (bare (map.entries m)) (is_bare m)) ∙ ap map.entries one_map ∙ entries-from_sorted nat_cmp (bare (map.entries n)) (is_bare n)

  pub one_leases : each (λ (h : Held). h.lease) (map.values m) ≡ each (λ (h : Held). h.lease) (map.values n)
  one_leases = sym (values_bare (map.entries m)) ∙ ap (each (λ (e : ℕ × LeaseView). e.1)) one_bare ∙ values_bare (map.entries n)

pub one_end : (a b : Stand) → AreAlike a b → desk_of (all_given_back a.book (map.values a.out)) ≡ desk_of (all_given_back b.book (map.values b.out))
one_end a b alike =
    desk_all_given a.book (map.values a.out)
    ∙ (λ i. all_given_on (one_leases a.book.job.program b.book.job.program a.out b.out alike.out i) (alike.desk i))
    ∙ sym (desk_all_given b.book (map.values b.out))
