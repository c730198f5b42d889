-- What the words of a line stand for.
use Rattle.image_text.specs.declared.words.Words.{Words}
use Rattle.image_text.specs.Reading as reading

abbrev pub seen : Words → reading.Words
seen w = record { words = w.words.items; counted = w.counted; whole = w.whole }
