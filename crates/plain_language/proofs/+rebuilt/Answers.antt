use Rattle.std.proofs.Common.{refl, get_or, ◌≡◌, ℕ, ◌<◌, ◌∙◌, ap, sym, subst, arith, Some, None, length, set}
use Rattle.language.specs.Expression.{form, parts_of}
use Rattle.plain_language.specs.Pures.{changed}
use Rattle.language.specs.Redex.{first_counts_alone, frames_of, rebuild, redex, within}
use Rattle.language.specs.Busy.{busy_at}
use Rattle.language.proofs.Lists.{set_set}
use Rattle.language.proofs.Finding.{found, redex_settled}
use Rattle.plain_language.proofs.Inside.{IsPart, inner_smaller, redex_inside, rebuild_lifted, changed_inside}
use Rattle.plain_language.proofs.+rebuilt.Goals as goal

pub redex::rebuilt_form-index_mut-requires : goal.redex::rebuilt_form-index_mut-requires
redex::rebuilt_form-index_mut-requires t c =
    let b : Some c.in-Some.i ≡ busy_at (first_counts_alone c.args.head) c.args.parts.items = c.in-Some.ensures ∙ ap (busy_at (first_counts_alone c.args.head)) c.deref.ensures.value in
    let P : ℕ → Type 0 = λ (n : ℕ). c.in-Some.i < n in
    subst P (sym (ap length c.deref.ensures.value) ∙ c.deref.ensures.len) (found (first_counts_alone c.args.head) c.args.head c.args.parts.items c.in-Some.i (sym b)).within_list

pub redex::rebuilt_form-rebuilt-requires : goal.redex::rebuilt_form-rebuilt-requires
redex::rebuilt_form-rebuilt-requires t c =
    let b : Some c.in-Some.i ≡ busy_at (first_counts_alone c.args.head) c.args.parts.items = c.in-Some.ensures ∙ ap (busy_at (first_counts_alone c.args.head)) c.deref.ensures.value in
    let at : c.replace-part.result ≡ get_or c.args.parts.items c.in-Some.i c.replace-part.result = c.replace-part.ensures.value ∙ c.index_mut.ensures.value ∙ ap (get_or c.args.parts.items c.in-Some.i) (sym c.replace-part.ensures.value) in
    let p : IsPart (form c.args.head (parts_of c.args.parts.items)) c.args.head c.args.parts.items c.in-Some.i c.replace-part.result = record { is_form = refl; busy = b; is = at } in
    (omega (arith, inner_smaller p, c.decreases), redex_inside p c.requires)

pub redex::rebuilt_form-index_mut-requires-in-Some : goal.redex::rebuilt_form-index_mut-requires-in-Some
redex::rebuilt_form-index_mut-requires-in-Some t c =
    let b : Some c.in-Some.i ≡ busy_at (first_counts_alone c.args.head) c.args.parts.items = c.in-Some.ensures ∙ ap (busy_at (first_counts_alone c.args.head)) c.deref.ensures.value in
    let P : ℕ → Type 0 = λ (n : ℕ). c.in-Some.i < n in
    subst P (sym (ap length c.deref.ensures.value) ∙ c.deref.ensures.len) (found (first_counts_alone c.args.head) c.args.head c.args.parts.items c.in-Some.i (sym b)).within_list

pub redex::rebuilt_form-returns-in-Some : goal.redex::rebuilt_form-returns-in-Some
redex::rebuilt_form-returns-in-Some t c =
    let b : Some c.in-Some.i ≡ busy_at (first_counts_alone c.args.head) c.args.parts.items = c.in-Some.ensures ∙ ap (busy_at (first_counts_alone c.args.head)) c.deref.ensures.value in
    let at : c.replace-part.result ≡ get_or c.args.parts.items c.in-Some.i c.replace-part.result = c.replace-part.ensures.value ∙ c.index_mut.ensures.value ∙ ap (get_or c.args.parts.items c.in-Some.i) (sym c.replace-part.ensures.value) in
    let p : IsPart (form c.args.head (parts_of c.args.parts.items)) c.args.head c.args.parts.items c.in-Some.i c.replace-part.result = record { is_form = refl; busy = b; is = at } in
    c.form.ensures
    ∙ ap (λ es. form c.args.head (parts_of es))
    (set_set c.args.parts.items c.in-Some.i c.replace-part.new.dest c.rebuilt.result
    ∙ ap (set c.args.parts.items c.in-Some.i) (c.rebuilt.ensures ∙ ap (rebuild c.replace-part.result) (changed_inside p c.args.instead)))
    ∙ sym (rebuild_lifted p (changed c.args.instead (redex (form c.args.head (parts_of c.args.parts.items)))) (redex_inside p c.requires))

pub redex::rebuilt_form-returns-in-None : goal.redex::rebuilt_form-returns-in-None
redex::rebuilt_form-returns-in-None t c =
    let b : None ≡ busy_at (first_counts_alone c.args.head) c.args.parts.items = c.in-None.ensures ∙ ap (busy_at (first_counts_alone c.args.head)) c.deref.ensures.value in
    c.at.ensures ∙ sym (ap (λ o. within (frames_of o) (changed c.args.instead o)) (redex_settled c.args.head c.args.parts.items (sym b)))
