-- How proofs store an image.
use Rattle.std.specs.Prelude.{ℕ, ℤ, List, refl}
use Rattle.std.specs.Ordering.{nat_cmp}
use Rattle.std.specs.FinMap as map
use Rattle.std.specs.FinMap.{FinMap}
use Rattle.std.specs.Coded.{Coded, code_by, coded×, coded_ℕ, coded_ℤ, coded_list}
use Rattle.stab_code.specs.Program.{ProgramParts}
use Rattle.language.specs.Expression.{Expr}
use Rattle.language.specs.Held.{coded_state}
use Rattle.language.specs.Plain.{PlainState}
use Rattle.image_laws.specs.Image.{Image}

-- an image is stored as the tuple of its parts
abbrev pub coded_image : Coded ProgramParts → Coded Expr → Coded Image
coded_image program expr =
    code_by ((List ℕ × (ProgramParts × (List ℤ × (ℕ × ℕ)))) × ((ℕ × (ℕ × ℕ)) × (PlainState × FinMap nat_cmp ℕ)))
    (coded× (coded× (coded_list coded_ℕ) (coded× program (coded× (coded_list coded_ℤ) (coded× coded_ℕ coded_ℕ))))
    (coded× (coded× coded_ℕ (coded× coded_ℕ coded_ℕ)) (coded× (coded_state expr) (map.code coded_ℕ coded_ℕ))))
    (λ i. ((i.text, (i.program, (i.script, (i.used, i.seq)))), ((i.next_thread, (i.next_chan, i.next_ref)), (i.state, i.generations))))
    (λ t. record {
      text = t.0.0;
      program = t.0.1.0;
      script = t.0.1.1.0;
      used = t.0.1.1.1.0;
      seq = t.0.1.1.1.1;
      next_thread = t.1.0.0;
      next_chan = t.1.0.1.0;
      next_ref = t.1.0.1.1;
      state = t.1.1.0;
      generations = t.1.1.1;
    })
    (λ _. refl)
