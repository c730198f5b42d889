-- What may occur in a value.
use Rattle.std.specs.Prelude.{ℕ, ◌&&◌, Bool, true, nat_lt}
use Rattle.stab_base.specs.Datum.{Datum, text, chan, reference, pair}
use Rattle.journal_laws.specs.Known.{Known}

-- each channel and each reference in it is known
abbrev pub is_known : Known → Datum → Bool
is_known k (chan c) = k.channels c
is_known k (reference r) = k.references r
is_known k (pair a b) = is_known k a && is_known k b
is_known k v = true

-- each number of a text in it is below this one
abbrev pub has_texts : ℕ → Datum → Bool
has_texts n (text t) = nat_lt t n
has_texts n (pair a b) = has_texts n a && has_texts n b
has_texts n v = true
