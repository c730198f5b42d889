-- Lines with no number or with more than three have no shape.
use Rattle.std.proofs.Common.{◌≡◌, ℕ, ◌≤◌, false, ◌&&◌, cond, eqb, List, ◌∷◌, length, Option, Some, None, inl, inr, refl, ap, arith}
use Rattle.std.specs.Option.{option_and_then}
use Rattle.std.proofs.lemmas.Bool.{ne_eqb, and_right}
use Rattle.trace_text.specs.declared.form.Header.{Header}
use Rattle.trace_text.specs.declared.form.Verb.{Verb}
use Rattle.trace_text.specs.declared.form.Verb.TheVariants as verbs
use Rattle.trace_text.specs.Form.{arity, fits, sign_named, verb_named}
use Rattle.trace_text.specs.Shape.{Shape, IsNoArity, is_word, are_words, after_w, checked, shape_of}

pub arity-bounds : (v : Verb) → (1 ≤ arity v) × (arity v ≤ 3)
arity-bounds verbs.Local = (omega arith, omega arith)
arity-bounds verbs.Spawn = (omega arith, omega arith)
arity-bounds verbs.NewChan = (omega arith, omega arith)
arity-bounds verbs.Comm = (omega arith, omega arith)
arity-bounds verbs.NewRef = (omega arith, omega arith)
arity-bounds verbs.Get = (omega arith, omega arith)
arity-bounds verbs.Set = (omega arith, omega arith)
arity-bounds verbs.Enter = (omega arith, omega arith)
arity-bounds verbs.Cut = (omega arith, omega arith)
arity-bounds verbs.Print = (omega arith, omega arith)
arity-bounds verbs.Probe = (omega arith, omega arith)
arity-bounds verbs.Refuse = (omega arith, omega arith)
arity-bounds verbs.Pin = (omega arith, omega arith)
arity-bounds verbs.Attempt = (omega arith, omega arith)
arity-bounds verbs.Undo = (omega arith, omega arith)
arity-bounds verbs.Release = (omega arith, omega arith)

no_arity : (n : ℕ) (v : Verb) → IsNoArity n → eqb n (arity v) ≡ false
no_arity n v (inl none) = let b = arity-bounds v in ne_eqb n (arity v) (λ same. omega arith)
no_arity n v (inr more) = let b = arity-bounds v in ne_eqb n (arity v) (λ same. omega arith)

not_checked : (header : Header) (s : Shape) → IsNoArity (length s.numbers) → checked header s ≡ None
not_checked header s none =
    let wrong : eqb (length s.numbers) (arity s.verb) ≡ false = no_arity (length s.numbers) s.verb none in
    ap (λ b. cond b (Some s) None)
    (and_right (fits s.verb s.sign header) (is_word s.seq && (is_word s.worker && (are_words s.numbers && eqb (length s.numbers) (arity s.verb))))
    (and_right (is_word s.seq) (is_word s.worker && (are_words s.numbers && eqb (length s.numbers) (arity s.verb)))
    (and_right (is_word s.worker) (are_words s.numbers && eqb (length s.numbers) (arity s.verb))
    (and_right (are_words s.numbers) (eqb (length s.numbers) (arity s.verb)) wrong))))

nothing : {A B : Type 0} (o : Option A) (f : A → Option B) → ((a : A) → f a ≡ None) → option_and_then f o ≡ None
nothing None f h = refl
nothing (Some a) f h = h a

pub no_shape : (header : Header) (sign seq worker verb : List ℕ) (numbers : List (List ℕ)) → IsNoArity (length numbers) → shape_of header (sign ∷ seq ∷ worker ∷ verb ∷ numbers) ≡ None
no_shape header sign seq worker verb numbers none =
    nothing (sign_named sign) _ (λ s. nothing (after_w worker) _ (λ w. nothing (verb_named verb) _ (λ v.
    not_checked header (record { sign = s; seq = seq; worker = w; verb = v; numbers = numbers }) none)))
