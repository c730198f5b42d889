use Rattle.std.proofs.Common.{◌≡◌, ℕ, ◌<◌, ◌∙◌, ap, sym, subst, arith, [], Some, None, length}
use Rattle.std.specs.Prelude.{option_map}
use Rattle.language.specs.Redex.{first_counts_alone, redex}
use Rattle.language.specs.Busy.{busy_at, redex_with, passes}
use Rattle.plain_language.specs.View.{node_expr}
use Rattle.language.proofs.Finding.{found, redex_settled}
use Rattle.plain_language.proofs.Inside.{IsPart, inner_smaller, passes_at_zero, passes_above_zero, passes_none, never_below}
use Rattle.plain_language.proofs.expr.Expr.+passes.Goals as goal

pub index-requires : goal.index-requires
index-requires t c =
    let b : Some c.in-Some.i ≡ busy_at (first_counts_alone c.in-Form.head) c.in-Form.parts.items = c.in-Some.ensures ∙ ap (busy_at (first_counts_alone c.in-Form.head)) c.deref.ensures.value in
    let P : ℕ → Type 0 = λ (n : ℕ). c.in-Some.i < n in
    subst P (sym (ap length c.deref.ensures.value) ∙ c.deref.ensures.len) (found (first_counts_alone c.in-Form.head) c.in-Form.head c.in-Form.parts.items c.in-Some.i (sym b)).within_list

pub passes-requires : goal.passes-requires
passes-requires t c =
    let b : Some c.in-Some.i ≡ busy_at (first_counts_alone c.in-Form.head) c.in-Form.parts.items = c.in-Some.ensures ∙ ap (busy_at (first_counts_alone c.in-Form.head)) c.deref.ensures.value in
    let p : IsPart c.args.self.now c.in-Form.head c.in-Form.parts.items c.in-Some.i c.index.result.now = record { is_form = sym (ap node_expr c.in-Form.is) ∙ c.self.view_is; busy = b; is = c.index.ensures } in
    let less = inner_smaller p in
    let d = c.decreases in
    (omega (arith, less, d), tt)

pub returns-in_err-inside-in-Some : goal.returns-in_err-inside-in-Some
returns-in_err-inside-in-Some t c =
    let b : Some c.in-Some.i ≡ busy_at (first_counts_alone c.in-Form.head) c.in-Form.parts.items = c.in-Some.ensures ∙ ap (busy_at (first_counts_alone c.in-Form.head)) c.deref.ensures.value in
    let p : IsPart c.args.self.now c.in-Form.head c.in-Form.parts.items c.in-Some.i c.index.result.now = record { is_form = sym (ap node_expr c.in-Form.is) ∙ c.self.view_is; busy = b; is = c.index.ensures } in
    c.from_residual.ensures ∙ passes_none p c.args.limit (c.in_err-inside-in-Some.ensures ∙ ap (λ n. option_map (passes n) (redex c.index.result.now)) c.saturating_sub.ensures)

pub returns-then-limit-eq0 : goal.returns-then-limit-eq0
returns-then-limit-eq0 t c =
    let b : Some c.in-Some.i ≡ busy_at (first_counts_alone c.in-Form.head) c.in-Form.parts.items = c.in-Some.ensures ∙ ap (busy_at (first_counts_alone c.in-Form.head)) c.deref.ensures.value in
    let p : IsPart c.args.self.now c.in-Form.head c.in-Form.parts.items c.in-Some.i c.index.result.now = record { is_form = sym (ap node_expr c.in-Form.is) ∙ c.self.view_is; busy = b; is = c.index.ensures } in
    passes_at_zero p c.args.limit c.in_ok-inside-in-Some.inside c.if-limit-eq0.true (c.in_ok-inside-in-Some.ensures ∙ ap (λ n. option_map (passes n) (redex c.index.result.now)) c.saturating_sub.ensures)

pub returns-else-limit-eq0 : goal.returns-else-limit-eq0
returns-else-limit-eq0 t c =
    let b : Some c.in-Some.i ≡ busy_at (first_counts_alone c.in-Form.head) c.in-Form.parts.items = c.in-Some.ensures ∙ ap (busy_at (first_counts_alone c.in-Form.head)) c.deref.ensures.value in
    let p : IsPart c.args.self.now c.in-Form.head c.in-Form.parts.items c.in-Some.i c.index.result.now = record { is_form = sym (ap node_expr c.in-Form.is) ∙ c.self.view_is; busy = b; is = c.index.ensures } in
    passes_above_zero p c.args.limit c.in_ok-inside-in-Some.inside c.if-limit-eq0.false (c.in_ok-inside-in-Some.ensures ∙ ap (λ n. option_map (passes n) (redex c.index.result.now)) c.saturating_sub.ensures)

pub returns-in-None : goal.returns-in-None
returns-in-None t c =
    let b : None ≡ busy_at (first_counts_alone c.in-Form.head) c.in-Form.parts.items = c.in-None.ensures ∙ ap (busy_at (first_counts_alone c.in-Form.head)) c.deref.ensures.value in
    let r : redex c.args.self.now ≡ Some (redex_with [] c.in-Form.head c.in-Form.parts.items) = ap redex (sym c.self.view_is ∙ ap node_expr c.in-Form.is) ∙ redex_settled c.in-Form.head c.in-Form.parts.items (sym b) in
    ap Some (sym (never_below c.args.limit)) ∙ sym (ap (option_map (passes c.args.limit)) r)
