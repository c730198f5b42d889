use Rattle.stab_code.proofs.ValidLemmas.{block-fits, block-items, callee-fits, text-there}
use Rattle.stab_code.proofs.laws.heads_fit.Goals as goal

pub returns : goal.returns
returns c = record {
  items = λ p valid n node found slots is. (block-items p valid.blocks_have_items n node found slots is, block-fits p valid.parts_fit n node found slots is);
  arguments = λ p valid. callee-fits p valid.parts_fit;
  texts = λ p valid. text-there p valid.texts_there;
}
