-- A request made from values within the bounds is within the bounds.
use Rattle.std.proofs.Common.{ℕ, Option, Some, None, arith}
use Rattle.std.specs.Prelude.{IfSome, IfOk, unwrap_or}
use Rattle.std.specs.Option.{option_map, option_and_then, ok_or}
use Rattle.stab_words.specs.declared.command.Command.{Command}
use Rattle.stab_words.specs.declared.command.Command.TheVariants.{Run, Trace, Verify, Drill, Check, Mill, Types, Save, Resume, Watch, Serve}
use Rattle.stab_words.specs.declared.given.Given.{Given}
use Rattle.stab_words.specs.declared.request.Request.{Request}
use Rattle.stab_words.specs.declared.request.WordFault.{WordFault}
use Rattle.stab_words.specs.Command.{default_fuel, default_quantum, default_workers, most_fuel, most_quantum, most_size, most_workers}
use Rattle.stab_words.specs.Asked.{request_of}
use Rattle.stab_words.specs.Within.{IsGiven, IsRunWithin, IsUpTo, IsWithin}

or_default : (o : Option ℕ) (most default : ℕ) → IfSome o (IsUpTo most) → IsUpTo most default → IsUpTo most (unwrap_or o default)
or_default None most default given is = is
or_default (Some n) most default given is = given

module _ (g : Given) (within : IsGiven g) where
  fuel : IsUpTo most_fuel (unwrap_or g.fuel default_fuel)
  fuel = or_default g.fuel most_fuel default_fuel within.fuel (omega arith, omega arith)

  quantum : IsUpTo most_quantum (unwrap_or g.quantum default_quantum)
  quantum = or_default g.quantum most_quantum default_quantum within.quantum (omega arith, omega arith)

  run : IsRunWithin (unwrap_or g.workers default_workers) (unwrap_or g.fuel default_fuel) (unwrap_or g.quantum default_quantum)
  run = record { workers_within = or_default g.workers most_workers default_workers within.workers (omega arith, omega arith); fuel_within = fuel; quantum_within = quantum }

-- a request that is made of something there
made : {A : Type 0} (o : Option A) (f : A → Request) → ((a : A) → IsWithin (f a)) → IfSome (option_map f o) IsWithin
made None f h = tt
made (Some a) f h = h a

made_of : {A : Type 0} (o : Option A) (f : A → Option Request) → ((a : A) → IfSome (f a) IsWithin) → IfSome (option_and_then f o) IsWithin
made_of None f h = tt
made_of (Some a) f h = h a

numbered : (o : Option ℕ) (f : ℕ → Request) → IfSome o (IsUpTo most_size) → ((n : ℕ) → IsUpTo most_size n → IsWithin (f n)) → IfSome (option_map f o) IsWithin
numbered None f is h = tt
numbered (Some n) f is h = h n is

pub request_within : (c : Command) (g : Given) → IsGiven g → IfSome (request_of c g) IsWithin
request_within Run g within = made g.file _ (λ _. run g within)
request_within Trace g within = made g.file _ (λ _. run g within)
request_within Watch g within = made g.file _ (λ _. run g within)
request_within Serve g within = made g.file _ (λ _. run g within)
request_within Check g within = made g.file _ (λ _. tt)
request_within Types g within = made g.file _ (λ _. tt)
request_within Verify g within = made_of g.file _ (λ _. made g.second _ (λ _. tt))
request_within Drill g within = made_of g.file _ (λ _. made g.second _ (λ _. (fuel g within, quantum g within)))
request_within Save g within = made_of g.file _ (λ _. made_of g.second _ (λ _. numbered g.number _ within.number (λ _ is. is)))
request_within Mill g within = numbered g.number _ within.number (λ _ is. (is, run g within))
request_within Resume g within = made g.file _ (λ _. (fuel g within, quantum g within))

pub answer_within : (o : Option Request) (fault : WordFault) → IfSome o IsWithin → IfOk (ok_or o fault) IsWithin
answer_within None fault is = tt
answer_within (Some request) fault is = is
