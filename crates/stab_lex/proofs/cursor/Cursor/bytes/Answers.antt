-- The bytes are text, so they are those of its characters.
use Rattle.std.proofs.Common.{sym, ap, ◌∙◌, encode_utf8_all}
use Rattle.std.specs.Str.{chars}
use Rattle.std.proofs.lemmas.Str.{encodes-chars}
use Rattle.stab_lex.specs.Place.{Place}
use Rattle.stab_lex.proofs.cursor.Cursor.bytes.Goals as goal

pub returns : goal.returns
returns c =
    let shown = ap (λ (p : Place). encode_utf8_all p.rest) c.self.view_is in
    sym (encodes-chars _ c.as_bytes.ensures.utf8) ∙ ap (λ bs. encode_utf8_all (chars bs)) c.as_bytes.ensures.value ∙ shown
