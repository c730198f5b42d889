-- The text begins with the character, so its characters do.
use Rattle.std.proofs.Common.{◌+◌, ◌++◌, length, sym, ap, ◌∙◌, arith, length-append, encode_utf8}
use Rattle.std.proofs.lemmas.Str.{chars_past_char, IsUtf8-from_is_utf8, is_utf8-from_IsUtf8, length-encode}
use Rattle.stab_lex.specs.Place.{Place}
use Rattle.stab_lex.proofs.Lengths.{byte_len-one}
use Rattle.stab_lex.proofs.cursor.Cursor.bump.Goals as goal

pub returns : goal.returns
returns c =
    let text = IsUtf8-from_is_utf8 c.self.inside.rest.now c.self.invariant.1 in
    let step = sym c.chars-chars.ensures.rest ∙ c.in_ok-next.ensures.steps.0 ∙ ap (λ bs. encode_utf8 c.in_ok-next.next ++ bs) (sym c.as_str-self-inside.ensures) in
    record {
      text = sym (ap (λ (p : Place). p.rest) c.self.view_is) ∙ chars_past_char _ _ _ text step;
      at = ap (λ at. at + c.len_utf8.result) (ap (λ (p : Place). p.at) c.self.view_is) ∙ ap (λ n. c.args.self.now.at + n) (c.len_utf8.ensures.value ∙ sym (byte_len-one c.in_ok-next.next));
    }

pub invariant_of-self : goal.invariant_of-self
invariant_of-self c =
    let split = ap length (sym c.chars-chars.ensures.rest ∙ c.in_ok-next.ensures.steps.0) ∙ length-append (encode_utf8 c.in_ok-next.next) c.next.new.self.rest.now in
    let width = length-encode c.in_ok-next.next in
    let left = ap length c.as_str-self-inside.ensures in
    let before = c.self.invariant.0 in
    (omega (arith, c.len_utf8.ensures.value, split, width, left, before), is_utf8-from_IsUtf8 _ c.as_str-self-inside.utf8)
