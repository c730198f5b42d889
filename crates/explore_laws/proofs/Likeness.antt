-- To differ by numbers alone is an equivalence.
use Rattle.std.proofs.Common.{◌≡◌, ℕ, List, [], ◌∷◌, Option, Some, None, refl, sym, ap, ◌∙◌}
use Rattle.std.specs.Prelude.{map as each, option_map}
use Rattle.std.specs.FinMap as map
use Rattle.std.specs.FinSet as set
use Rattle.stab_base.specs.Datum.{Datum, chan, reference, pair}
use Rattle.language.specs.declared.head.Head.{Head}
use Rattle.language.specs.declared.head.Head.TheVariants.{Section}
use Rattle.language.specs.Expression.{Expr, value, variable, failed, form, Parts, none, part}
use Rattle.language.specs.Plain.{PlainState}
use Rattle.explore_laws.specs.Renamed.{Naming, IsNaming, IsLike, AreTwoWay, AreLike, unnamed, datum_in, head_in, expr_in, parts_in}
use Rattle.explore_laws.proofs.LikeSteps.{held_unnamed, data_unnamed}

abbrev after : Naming → Naming → Naming
after n m = record { thread = λ t. m.thread (n.thread t); chan = λ c. m.chan (n.chan c); reference = λ r. m.reference (n.reference r) }

pub one_to_one : (n m : Naming) → AreTwoWay n m → IsNaming n
one_to_one n m w = record {
  threads = λ t u h. sym (w.threads t) ∙ ap m.thread h ∙ w.threads u;
  chans = λ b c h. sym (w.chans b) ∙ ap m.chan h ∙ w.chans c;
  references = λ q r h. sym (w.references q) ∙ ap m.reference h ∙ w.references r;
}

module _ (n m : Naming) where
  datum_on : (v : Datum) → datum_in m (datum_in n v) ≡ datum_in (after n m) v
  datum_on (pair a b) = ap (λ x. pair x (datum_in m (datum_in n b))) (datum_on a) ∙ ap (pair (datum_in (after n m) a)) (datum_on b)
  datum_on v = refl

  head_on : (h : Head) → head_in m (head_in n h) ≡ head_in (after n m) h
  head_on (Section q) = refl
  head_on h = refl

  mutual
    expr_on : (e : Expr) → expr_in m (expr_in n e) ≡ expr_in (after n m) e
    expr_on (value v) = ap value (datum_on v)
    expr_on (variable x) = refl
    expr_on (failed f) = refl
    expr_on (form h ps) = ap (λ k. form k (parts_in m (parts_in n ps))) (head_on h) ∙ ap (form (head_in (after n m) h)) (parts_on ps)

    parts_on : (ps : Parts) → parts_in m (parts_in n ps) ≡ parts_in (after n m) ps
    parts_on none = refl
    parts_on (part e ps) = ap (λ x. part x (parts_in m (parts_in n ps))) (expr_on e) ∙ ap (part (expr_in (after n m) e)) (parts_on ps)

  exprs_on : (o : Option Expr) → option_map (expr_in m) (option_map (expr_in n) o) ≡ option_map (expr_in (after n m)) o
  exprs_on None = refl
  exprs_on (Some e) = ap Some (expr_on e)

  held_on : (o : Option Datum) → option_map (datum_in m) (option_map (datum_in n) o) ≡ option_map (datum_in (after n m)) o
  held_on None = refl
  held_on (Some v) = ap Some (datum_on v)

  data_on : (vs : List Datum) → each (datum_in m) (each (datum_in n) vs) ≡ each (datum_in (after n m)) vs
  data_on [] = refl
  data_on (v ∷ vs) = ap (λ x. x ∷ each (datum_in m) (each (datum_in n) vs)) (datum_on v) ∙ ap (λ xs. datum_in (after n m) v ∷ xs) (data_on vs)

-- namings that give the same numbers
module _ (n m : Naming) (chans : (c : ℕ) → n.chan c ≡ m.chan c) (refs : (r : ℕ) → n.reference r ≡ m.reference r) where
  datum_same : (v : Datum) → datum_in n v ≡ datum_in m v
  datum_same (chan c) = ap chan (chans c)
  datum_same (reference r) = ap reference (refs r)
  datum_same (pair a b) = ap (λ x. pair x (datum_in n b)) (datum_same a) ∙ ap (pair (datum_in m a)) (datum_same b)
  datum_same v = refl

  head_same : (h : Head) → head_in n h ≡ head_in m h
  head_same (Section q) = refl
  head_same h = refl

  mutual
    expr_same : (e : Expr) → expr_in n e ≡ expr_in m e
    expr_same (value v) = ap value (datum_same v)
    expr_same (variable x) = refl
    expr_same (failed f) = refl
    expr_same (form h ps) = ap (λ k. form k (parts_in n ps)) (head_same h) ∙ ap (form (head_in m h)) (parts_same ps)

    parts_same : (ps : Parts) → parts_in n ps ≡ parts_in m ps
    parts_same none = refl
    parts_same (part e ps) = ap (λ x. part x (parts_in n ps)) (expr_same e) ∙ ap (part (expr_in m e)) (parts_same ps)

  exprs_same : (o : Option Expr) → option_map (expr_in n) o ≡ option_map (expr_in m) o
  exprs_same None = refl
  exprs_same (Some e) = ap Some (expr_same e)

  held_same : (o : Option Datum) → option_map (datum_in n) o ≡ option_map (datum_in m) o
  held_same None = refl
  held_same (Some v) = ap Some (datum_same v)

  data_same : (vs : List Datum) → each (datum_in n) vs ≡ each (datum_in m) vs
  data_same [] = refl
  data_same (v ∷ vs) = ap (λ x. x ∷ each (datum_in n) vs) (datum_same v) ∙ ap (λ xs. datum_in m v ∷ xs) (data_same vs)

pub like_itself : (s : PlainState) → IsLike unnamed s s
like_itself s = record { threads = λ t. refl; references = λ q. sym (held_unnamed (map.get s.references q)); channels = λ c. refl; output = sym (data_unnamed s.output) }

like_back : (n m : Naming) → AreTwoWay n m → (s r : PlainState) → IsLike n s r → IsLike m r s
like_back n m w s r l = record {
  threads = λ t.
      sym (exprs_same (after n m) unnamed w.chans w.references (map.get s.threads (m.thread t)))
      ∙ sym (exprs_on n m (map.get s.threads (m.thread t)))
      ∙ ap (option_map (expr_in m)) (sym (l.threads (m.thread t)) ∙ ap (λ u. option_map (expr_in unnamed) (map.get r.threads u)) (w.threads_back t))
      ∙ exprs_on unnamed m (map.get r.threads t);
  references = λ q.
      sym (held_unnamed (map.get s.references (m.reference q)))
      ∙ sym (held_same (after n m) unnamed w.chans w.references (map.get s.references (m.reference q)))
      ∙ sym (held_on n m (map.get s.references (m.reference q)))
      ∙ ap (option_map (datum_in m)) (sym (l.references (m.reference q)) ∙ ap (map.get r.references) (w.references_back q));
  channels = λ c. sym (l.channels (m.chan c)) ∙ ap (set.contains r.channels) (w.chans_back c);
  output =
      sym (data_unnamed s.output) ∙ sym (data_same (after n m) unnamed w.chans w.references s.output) ∙ sym (data_on n m s.output) ∙ ap (each (datum_in m)) (sym l.output);
}

like_on : (n m : Naming) (a b c : PlainState) → IsLike n a b → IsLike m b c → IsLike (after n m) a c
like_on n m a b c l k = record {
  threads = λ t.
      k.threads (n.thread t)
      ∙ sym (exprs_on unnamed m (map.get b.threads (n.thread t)))
      ∙ ap (option_map (expr_in m)) (l.threads t)
      ∙ exprs_on n m (map.get a.threads t);
  references = λ q. k.references (n.reference q) ∙ ap (option_map (datum_in m)) (l.references q) ∙ held_on n m (map.get a.references q);
  channels = λ x. k.channels (n.chan x) ∙ l.channels x;
  output = k.output ∙ ap (each (datum_in m)) l.output ∙ data_on n m a.output;
}

abbrev pub alike_same : (s : PlainState) → AreLike s s
alike_same s = record { there = unnamed; back = unnamed; two_way = record { threads = λ t. refl; threads_back = λ t. refl; chans = λ c. refl; chans_back = λ c. refl; references = λ r. refl; references_back = λ r. refl }; like = like_itself s }

pub alike_back : (s r : PlainState) → AreLike s r → AreLike r s
alike_back s r h = record {
  there = h.back;
  back = h.there;
  two_way = record { threads = h.two_way.threads_back; threads_back = h.two_way.threads; chans = h.two_way.chans_back; chans_back = h.two_way.chans; references = h.two_way.references_back; references_back = h.two_way.references };
  like = like_back h.there h.back h.two_way s r h.like;
}

pub alike_on : (a b c : PlainState) → AreLike a b → AreLike b c → AreLike a c
alike_on a b c h k = record {
  there = after h.there k.there;
  back = after k.back h.back;
  two_way = record {
    threads = λ t. ap h.back.thread (k.two_way.threads (h.there.thread t)) ∙ h.two_way.threads t;
    threads_back = λ t. ap k.there.thread (h.two_way.threads_back (k.back.thread t)) ∙ k.two_way.threads_back t;
    chans = λ x. ap h.back.chan (k.two_way.chans (h.there.chan x)) ∙ h.two_way.chans x;
    chans_back = λ x. ap k.there.chan (h.two_way.chans_back (k.back.chan x)) ∙ k.two_way.chans_back x;
    references = λ r. ap h.back.reference (k.two_way.references (h.there.reference r)) ∙ h.two_way.references r;
    references_back = λ r. ap k.there.reference (h.two_way.references_back (k.back.reference r)) ∙ k.two_way.references_back r;
  };
  like = like_on h.there k.there a b c h.like k.like;
}
