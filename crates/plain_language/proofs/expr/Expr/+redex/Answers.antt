use Rattle.std.proofs.Common.{◌≡◌, ℕ, ◌<◌, ◌∙◌, ap, sym, subst, arith, [], Some, None, length}
use Rattle.language.specs.Redex.{first_counts_alone, redex}
use Rattle.language.specs.Busy.{busy_at, redex_with}
use Rattle.plain_language.specs.View.{node_expr}
use Rattle.language.proofs.Finding.{found, redex_settled}
use Rattle.plain_language.proofs.Inside.{IsPart, inner_smaller, lifted}
use Rattle.plain_language.proofs.expr.Expr.+redex.Goals as goal

pub index-requires : goal.index-requires
index-requires t c =
    let b : Some c.in-Some.i ≡ busy_at (first_counts_alone c.in-Form.head) c.in-Form.parts.items = c.in-Some.ensures ∙ ap (busy_at (first_counts_alone c.in-Form.head)) c.deref.ensures.value in
    let P : ℕ → Type 0 = λ (n : ℕ). c.in-Some.i < n in
    subst P (sym (ap length c.deref.ensures.value) ∙ c.deref.ensures.len) (found (first_counts_alone c.in-Form.head) c.in-Form.head c.in-Form.parts.items c.in-Some.i (sym b)).within_list

pub redex-requires : goal.redex-requires
redex-requires t c =
    let b : Some c.in-Some.i ≡ busy_at (first_counts_alone c.in-Form.head) c.in-Form.parts.items = c.in-Some.ensures ∙ ap (busy_at (first_counts_alone c.in-Form.head)) c.deref.ensures.value in
    let p : IsPart c.args.self.now c.in-Form.head c.in-Form.parts.items c.in-Some.i c.index.result.now = record { is_form = sym (ap node_expr c.in-Form.is) ∙ c.self.view_is; busy = b; is = c.index.ensures } in
    let less = inner_smaller p in
    let d = c.decreases in
    (omega (arith, less, d), tt)

pub returns-in-Some : goal.returns-in-Some
returns-in-Some t c =
    let b : Some c.in-Some.i ≡ busy_at (first_counts_alone c.in-Form.head) c.in-Form.parts.items = c.in-Some.ensures ∙ ap (busy_at (first_counts_alone c.in-Form.head)) c.deref.ensures.value in
    let p : IsPart c.args.self.now c.in-Form.head c.in-Form.parts.items c.in-Some.i c.index.result.now = record { is_form = sym (ap node_expr c.in-Form.is) ∙ c.self.view_is; busy = b; is = c.index.ensures } in
    lifted p _ _ _ c.redex.ensures

pub returns-in-None : goal.returns-in-None
returns-in-None t c =
    let b : None ≡ busy_at (first_counts_alone c.in-Form.head) c.in-Form.parts.items = c.in-None.ensures ∙ ap (busy_at (first_counts_alone c.in-Form.head)) c.deref.ensures.value in
    let r : redex c.args.self.now ≡ Some (redex_with [] c.in-Form.head c.in-Form.parts.items) = ap redex (sym c.self.view_is ∙ ap node_expr c.in-Form.is) ∙ redex_settled c.in-Form.head c.in-Form.parts.items (sym b) in
    let same : c.as_slice.result.now ≡ c.in-Form.parts.items = c.as_slice.ensures.value in
    record {
      settled = ap (busy_at (first_counts_alone c.in-Form.head)) same ∙ sym b;
      round = [];
      is = r ∙ ap (λ es. Some (redex_with [] c.in-Form.head es)) (sym same);
    }
