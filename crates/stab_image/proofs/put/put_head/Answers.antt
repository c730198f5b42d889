use Rattle.std.proofs.Common.{◌≡◌, ℕ, ℤ, List, ◌++◌, ap, subst, ◌∙◌}
use Rattle.image_laws.specs.Image.{Image}
use Rattle.image_text.specs.ImageText.{next_text, probes_text, program_text}
use Rattle.stab_image.specs.ImageText.{head_text}
use Rattle.stab_image.specs.View.{image_of}
use Rattle.stab_image.proofs.Putting.{three_behind}
use Rattle.stab_image.proofs.put.put_head.Goals as goal

pub returns : goal.returns
returns c =
    let a = c.image.inside in
    let v : image_of a ≡ c.args.image.now = c.image.view_is in
    let old = c.args.out.now.items in
    let one = c.put_program.new.out.items in
    let two = c.put_probes.new.out.items in
    subst (λ (i : Image). c.put_next.new.out.items ≡ old ++ head_text i) v
    (three_behind old (program_text a.text.items) (probes_text a.script.items a.used) (next_text a.cut a.next_thread a.next_chan a.next_ref) one two c.put_next.new.out.items
    (c.in_ok-put_program.ensures ∙ ap (λ (t : List ℕ). old ++ program_text t) c.deref.ensures.value)
    (c.in_ok-put_probes.ensures ∙ ap (λ (s : List ℤ). one ++ probes_text s a.used) c.deref-2.ensures.value)
    c.in_ok-put_next.ensures)
