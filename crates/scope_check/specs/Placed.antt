-- How many forms there are in a form.
use Rattle.std.specs.Prelude.{ℕ, ◌+◌}
use Rattle.stab_parse.specs.Forms.{Form, form, Parts, no_parts, next_part}

-- how many forms there are in a form, with the form itself
abbrev mutual
  pub size_of : Form → ℕ
  size_of (form at h parts) = size_of_parts parts + 1

  pub size_of_parts : Parts → ℕ
  size_of_parts no_parts = 0
  size_of_parts (next_part ps f) = size_of_parts ps + size_of f
