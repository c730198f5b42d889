-- Whether a thread rests, sends or receives, by what is told of its expression.
use Rattle.std.specs.Prelude.{ℕ, Bool, true, false, ◌||◌, nat_eq}
use Rattle.plain_language.specs.declared.look.ActKind.TheVariants.{Send, Recv, Pick}
use Rattle.plain_language.specs.declared.look.Look.{Look}
use Rattle.plain_language.specs.declared.look.Look.TheVariants.{Done, Failed, Act}

-- the thread has ended, or can only step with another one
abbrev pub is_resting : Look → Bool
is_resting Done = true
is_resting (Failed k) = true
is_resting (Act (Send c)) = true
is_resting (Act (Recv c)) = true
is_resting (Act (Pick c d)) = true
is_resting look = false

-- the thread sends on the channel, or receives on it
abbrev pub sends_on : ℕ → Look → Bool
sends_on c (Act (Send d)) = nat_eq d.0 c
sends_on c look = false

abbrev pub receives_on : ℕ → Look → Bool
receives_on c (Act (Recv d)) = nat_eq d.0 c
receives_on c (Act (Pick a b)) = nat_eq a.0 c || nat_eq b.0 c
receives_on c look = false
