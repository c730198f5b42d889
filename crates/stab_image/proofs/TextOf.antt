-- The text of an image is that of its lines.
use Rattle.std.proofs.Common.{◌≡◌, ℕ, ◌-◌, List, [], ◌∷◌, ◌++◌, refl, sym, ap, ◌∙◌, append_assoc}
use Rattle.std.specs.Prelude.{map as each}
use Rattle.std.specs.List.{flat_map}
use Rattle.std.specs.FinMap as map
use Rattle.std.specs.FinSet as set
use Rattle.std.proofs.lemmas.List.Concat.{flat_map-append}
use Rattle.image_laws.specs.Image.{Image}
use Rattle.image_text.specs.ImageText as text
use Rattle.image_text.specs.ImageText.{end_text, line, next_text, probes_text, program_text, state_text}
use Rattle.image_text.specs.Rising.{those}
use Rattle.image_lines.specs.declared.line.Line.{Line}
use Rattle.image_lines.specs.BodyText.{body_text}
use Rattle.image_lines.specs.CountsText.{counts_text}
use Rattle.image_lines.specs.Counts.{Counts}
use Rattle.image_lines.specs.LineText.{line_text}
use Rattle.image_lines.specs.OpeningText.{opening}
use Rattle.stab_image.specs.ImageText.{lines_of_state, text_of_image}
use Rattle.stab_image.specs.Written.{channel_line, lines_of, next_of, output_line, reference_line, thread_line}

abbrev text_line : Line → List ℕ
text_line l = line (line_text l)

mapped : {X : Type 0} (g : X → Line) (f : X → List ℕ) → ((x : X) → f x ≡ text_line (g x)) → (xs : List X) → flat_map f xs ≡ flat_map text_line (each g xs)
mapped g f same [] = refl
mapped g f same (x ∷ xs) = ap (λ (bs : List ℕ). bs ++ flat_map f xs) (same x) ∙ ap (λ (bs : List ℕ). text_line (g x) ++ bs) (mapped g f same xs)

-- the text of lines and the end
body_is : (ls : List Line) → body_text ls ≡ flat_map text_line ls ++ end_text
body_is [] = refl
body_is (l ∷ ls) =
    ap (λ (bs : List ℕ). line_text l ++ (10 ∷ bs)) (body_is ls)
    ∙ sym (append_assoc (text_line l) (flat_map text_line ls) end_text ∙ append_assoc (line_text l) (10 ∷ []) (flat_map text_line ls ++ end_text))

four : (a b c d w x y z : List ℕ) → a ≡ w → b ≡ x → c ≡ y → d ≡ z → a ++ (b ++ (c ++ d)) ≡ w ++ (x ++ (y ++ z))
four a b c d w x y z p q r s =
    ap (λ (l : List ℕ). l ++ (b ++ (c ++ d))) p ∙ ap (λ (l : List ℕ). w ++ (l ++ (c ++ d))) q ∙ ap (λ (l : List ℕ). w ++ (x ++ (l ++ d))) r ∙ ap (λ (l : List ℕ). w ++ (x ++ (y ++ l))) s

joined : (a b c d : List Line) → flat_map text_line (a ++ (b ++ (c ++ d))) ≡ flat_map text_line a ++ (flat_map text_line b ++ (flat_map text_line c ++ flat_map text_line d))
joined a b c d =
    flat_map-append text_line a (b ++ (c ++ d))
    ∙ ap (λ (bs : List ℕ). flat_map text_line a ++ bs)
    (flat_map-append text_line b (c ++ d) ∙ ap (λ (bs : List ℕ). flat_map text_line b ++ bs) (flat_map-append text_line c d))

module _ (i : Image) where
  abbrev cs : List ℕ
  cs = those (set.contains i.state.channels) 1 (i.next_chan - 1)

  state_is : lines_of_state i ≡ flat_map text_line (lines_of i)
  state_is =
      four (flat_map text.channel_line cs) (flat_map text.reference_line (map.entries i.state.references)) (flat_map text.output_line i.state.output) (flat_map (text.thread_line i.generations) (map.entries i.state.threads))
      (flat_map text_line (each channel_line cs)) (flat_map text_line (each reference_line (map.entries i.state.references))) (flat_map text_line (each output_line i.state.output)) (flat_map text_line (each (thread_line i) (map.entries i.state.threads)))
      (mapped channel_line text.channel_line (λ c. refl) cs)
      (mapped reference_line text.reference_line (λ r. refl) (map.entries i.state.references))
      (mapped output_line text.output_line (λ v. refl) i.state.output)
      (mapped (thread_line i) (text.thread_line i.generations) (λ t. refl) (map.entries i.state.threads))
      ∙ sym (joined (each channel_line cs) (each reference_line (map.entries i.state.references)) (each output_line i.state.output) (each (thread_line i) (map.entries i.state.threads)))

  pub body_of_image : lines_of_state i ++ end_text ≡ body_text (lines_of i)
  body_of_image = ap (λ (bs : List ℕ). bs ++ end_text) state_is ∙ sym (body_is (lines_of i))

  -- the numbers of the image, with the text of its state behind them
  abbrev pub counts_of_image : Counts
  counts_of_image = record { script = i.script; used = i.used; next = next_of i; at = 0; rest = body_text (lines_of i) }

  pub text_is : text_of_image i ≡ opening i.text (counts_text counts_of_image)
  text_is =
      let before = program_text i.text in
      let probes = probes_text i.script i.used in
      let next = next_text i.seq i.next_thread i.next_chan i.next_ref in
      ap (λ (bs : List ℕ). (before ++ (probes ++ next)) ++ bs) body_of_image
      ∙ append_assoc before (probes ++ next) (body_text (lines_of i))
      ∙ ap (λ (bs : List ℕ). before ++ bs) (append_assoc probes next (body_text (lines_of i)))
