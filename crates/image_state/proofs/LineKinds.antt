-- Lines in order stand by their kinds.
use Rattle.std.proofs.Common.{◌≡◌, ℕ, ◌≤◌, ◌<◌, true, false, List, [], ◌∷◌, refl, sym, ap, ◌∙◌, arith}
use Rattle.std.specs.Prelude.{Some, None, nat_lt}
use Rattle.std.specs.List.{AllByRecursion, filter_map}
use Rattle.std.proofs.lemmas.Bool.{false≢true, ltb-true}
use Rattle.image_lines.specs.declared.line.Line.{Line}
use Rattle.image_lines.specs.declared.line.Line.TheVariants.{Chan, Ref, Out, Thread, End}
use Rattle.image_state.specs.Order.{AreOrdered, follows}
use Rattle.image_state.specs.Parts.{channel_of, generation_of, output_of, reference_of, thread_of}

abbrev pub kind : Line → ℕ
kind (Chan c) = 0
kind (Ref r v) = 1
kind (Out v) = 2
kind (Thread t g e) = 3
kind End = 4

pub kinds_rise : (a b : Line) → follows a b ≡ true → kind a ≤ kind b
kinds_rise (Chan c) b h = omega arith
kinds_rise (Ref r v) (Chan c) h = absurd (false≢true h)
kinds_rise (Ref r v) (Ref s w) h = omega arith
kinds_rise (Ref r v) (Out w) h = omega arith
kinds_rise (Ref r v) (Thread t g e) h = omega arith
kinds_rise (Ref r v) End h = omega arith
kinds_rise (Out v) (Chan c) h = absurd (false≢true h)
kinds_rise (Out v) (Ref r w) h = absurd (false≢true h)
kinds_rise (Out v) (Out w) h = omega arith
kinds_rise (Out v) (Thread t g e) h = omega arith
kinds_rise (Out v) End h = omega arith
kinds_rise (Thread t g e) (Chan c) h = absurd (false≢true h)
kinds_rise (Thread t g e) (Ref r v) h = absurd (false≢true h)
kinds_rise (Thread t g e) (Out v) h = absurd (false≢true h)
kinds_rise (Thread t g e) (Thread u f d) h = omega arith
kinds_rise (Thread t g e) End h = absurd (false≢true h)
kinds_rise End b h = absurd (false≢true h)

-- each line is of this kind or a later one
abbrev pub AreFrom : ℕ → List Line → Type 0
AreFrom n ls = AllByRecursion (λ (l : Line). n ≤ kind l) ls

pub behind : (n : ℕ) (last : Line) (ls : List Line) → n ≤ kind last → AreOrdered (Some last) ls → AreFrom n ls
behind n last [] low h = tt
behind n last (l ∷ ls) low h =
    let up = kinds_rise last l h.0 in
    let here : n ≤ kind l = omega arith in
    (here, behind n l ls here h.1)

pub no_channels : (ls : List Line) → AreFrom 1 ls → filter_map channel_of ls ≡ []
no_channels [] h = refl
no_channels (Chan c ∷ ls) h = absurd (let no = h.0 in omega arith)
no_channels (Ref r v ∷ ls) h = no_channels ls h.1
no_channels (Out v ∷ ls) h = no_channels ls h.1
no_channels (Thread t g e ∷ ls) h = no_channels ls h.1
no_channels (End ∷ ls) h = no_channels ls h.1

pub no_references : (ls : List Line) → AreFrom 2 ls → filter_map reference_of ls ≡ []
no_references [] h = refl
no_references (Chan c ∷ ls) h = no_references ls h.1
no_references (Ref r v ∷ ls) h = absurd (let no = h.0 in omega arith)
no_references (Out v ∷ ls) h = no_references ls h.1
no_references (Thread t g e ∷ ls) h = no_references ls h.1
no_references (End ∷ ls) h = no_references ls h.1

pub no_output : (ls : List Line) → AreFrom 3 ls → filter_map output_of ls ≡ []
no_output [] h = refl
no_output (Chan c ∷ ls) h = no_output ls h.1
no_output (Ref r v ∷ ls) h = no_output ls h.1
no_output (Out v ∷ ls) h = absurd (let no = h.0 in omega arith)
no_output (Thread t g e ∷ ls) h = no_output ls h.1
no_output (End ∷ ls) h = no_output ls h.1

pub less : (n k : ℕ) → n ≤ k → (ls : List Line) → AreFrom k ls → AreFrom n ls
less n k le [] h = tt
less n k le (l ∷ ls) h = (let here = h.0 in omega arith, less n k le ls h.1)
