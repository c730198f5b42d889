-- Effects of labels on an expression that stands at another act.
use Rattle.std.proofs.Common.{◌≡◌, ℕ, true, false, cond, nat_eq, List, Bor, Option, Some, None, refl, sym, ap, ◌∙◌, arith}
use Rattle.std.specs.Prelude.{ℤ, option_map}
use Rattle.std.proofs.lemmas.Bool.Decides.{nat_tests}
use Rattle.stab_base.specs.Datum.{Datum}
use Rattle.stab_base.specs.declared.numbers.ChanId.{ChanId}
use Rattle.stab_base.specs.declared.numbers.FnId.{FnId}
use Rattle.stab_base.specs.declared.numbers.RefId.{RefId}
use Rattle.plain_language.specs.declared.act.Act.{Act}
use Rattle.plain_language.specs.declared.act.Act.TheVariants.{Spawn, NewRef, Get, Set, Send, Enter, Print, Probe}
use Rattle.plain_language.specs.Acts.{act_of, act_in}
use Rattle.language.specs.Expression.{Expr}
use Rattle.language.specs.Table as table
use Rattle.language.specs.Table.{gets, Look, act, Language, to, spawn_by, ref_by, get_by, set_by, sent_by, enter_by, print_by, probe_by}

-- the act at which an expression stands is what is next
at_act : (l : Look Expr) (a : table.Act Expr) → Some a ≡ act_in l → l ≡ act a
at_act (act b) a h = let same : b ≡ a = cc in ap act same
at_act _ a h = cc

same_number : (a b : ℕ) → a ≡ b → nat_eq a b ≡ true
same_number a b h = grind (arith, nat_tests)

other_number : (a b : ℕ) → (a ≡ b → ⊥) → nat_eq a b ≡ false
other_number a b h = grind (arith, nat_tests)

module _ (g : Language Expr) (fs : ℕ → Expr) where
  pub no_get : (r : ℕ) (e : Expr) (held : Option Datum) (l : Look Expr) (a : Act) → Some (act_of fs a) ≡ act_in l → ((at : RefId) → a ≡ Get at → ⊥) → None ≡ get_by g r e held l
  no_get r e held l (Get at) is h = absurd (h at refl)
  no_get r e held l a is h = ap (λ k. get_by g r e held k) (sym (at_act l (act_of fs a) is))

  pub no_enter : (q : ℕ) (e : Expr) (l : Look Expr) (a : Act) → Some (act_of fs a) ≡ act_in l → ((f : FnId) (es : Bor (List Expr)) → a ≡ Enter f es → ⊥) → None ≡ enter_by g q e l
  no_enter q e l (Enter f es) is h = absurd (h f es refl)
  no_enter q e l a is h = ap (λ k. enter_by g q e k) (sym (at_act l (act_of fs a) is))

  pub no_sent : (c : ℕ) (l : Look Expr) (a : Act) → Some (act_of fs a) ≡ act_in l → ((d : ChanId) (v : Bor Datum) → a ≡ Send d v → ⊥) → None ≡ sent_by g c l
  no_sent c l (Send d v) is h = absurd (h d v refl)
  no_sent c l a is h = ap (λ k. sent_by g c k) (sym (at_act l (act_of fs a) is))

  pub no_spawn : (e : Expr) (l : Look Expr) (a : Act) → Some (act_of fs a) ≡ act_in l → ((f : FnId) (es : Bor (List Expr)) → a ≡ Spawn f es → ⊥) → None ≡ spawn_by g e l
  no_spawn e l (Spawn f es) is h = absurd (h f es refl)
  no_spawn e l a is h = ap (λ k. spawn_by g e k) (sym (at_act l (act_of fs a) is))

  pub no_ref : (r : ℕ) (e : Expr) (l : Look Expr) (a : Act) → Some (act_of fs a) ≡ act_in l → ((v : Bor Datum) → a ≡ NewRef v → ⊥) → None ≡ ref_by g r e l
  no_ref r e l (NewRef v) is h = absurd (h v refl)
  no_ref r e l a is h = ap (λ k. ref_by g r e k) (sym (at_act l (act_of fs a) is))

  pub no_set : (r : ℕ) (e : Expr) (l : Look Expr) (a : Act) → Some (act_of fs a) ≡ act_in l → ((at : RefId) (v : Bor Datum) → a ≡ Set at v → ⊥) → None ≡ set_by g r e l
  no_set r e l (Set at v) is h = absurd (h at v refl)
  no_set r e l a is h = ap (λ k. set_by g r e k) (sym (at_act l (act_of fs a) is))

  pub no_print : (e : Expr) (l : Look Expr) (a : Act) → Some (act_of fs a) ≡ act_in l → ((v : Bor Datum) → a ≡ Print v → ⊥) → None ≡ print_by g e l
  no_print e l (Print v) is h = absurd (h v refl)
  no_print e l a is h = ap (λ k. print_by g e k) (sym (at_act l (act_of fs a) is))

  pub no_probe : (i : ℤ) (e : Expr) (l : Look Expr) (a : Act) → Some (act_of fs a) ≡ act_in l → (a ≡ Probe → ⊥) → None ≡ probe_by g i e l
  no_probe i e l Probe is h = absurd (h refl)
  no_probe i e l a is h = ap (λ k. probe_by g i e k) (sym (at_act l (act_of fs a) is))

  -- a get of this reference, and of another one
  get_at : (r : ℕ) (e : Expr) (held : Option Datum) (l : Look Expr) (a : Act) (at : RefId) → Some (act_of fs a) ≡ act_in l → a ≡ Get at → get_by g r e held l ≡ cond (nat_eq at.0 r) (option_map (λ v. to g (g.answered e v)) held) None
  get_at r e held l a at is get = ap (get_by g r e held) (at_act l (gets at.0) (ap (λ x. Some (act_of fs x)) (sym get) ∙ is))

  pub get_this : (r : ℕ) (e : Expr) (held : Option Datum) (l : Look Expr) (a : Act) (at : RefId) → Some (act_of fs a) ≡ act_in l → a ≡ Get at → at.0 ≡ r → option_map (λ v. to g (g.answered e v)) held ≡ get_by g r e held l
  get_this r e held l a at is get same = sym (get_at r e held l a at is get ∙ ap (λ b. cond b (option_map (λ v. to g (g.answered e v)) held) None) (same_number at.0 r same))

  pub get_other : (r : ℕ) (e : Expr) (held : Option Datum) (l : Look Expr) (a : Act) (at : RefId) → Some (act_of fs a) ≡ act_in l → a ≡ Get at → (at.0 ≡ r → ⊥) → None ≡ get_by g r e held l
  get_other r e held l a at is get other = sym (get_at r e held l a at is get ∙ ap (λ b. cond b (option_map (λ v. to g (g.answered e v)) held) None) (other_number at.0 r other))
