-- Where a recent write stands.
use Rattle.std.specs.Prelude.{◌≡◌, ℕ, ◌<◌, true, false, List, length}
use Rattle.std.specs.List.{slice_index_or}
use Rattle.ref_log.specs.declared.places.Recent.{Recent}
use Rattle.ref_log.specs.Layout.{is_of}

-- the write q of the reference r stands there
pub record IsFound (es : List Recent) (r q at : ℕ) : Type 0 where
  pub within : at < length es
  pub here : (d : Recent) → is_of r (slice_index_or es at d) ≡ true
  pub number : (d : Recent) → (slice_index_or es at d).number.0 ≡ q
  pub live : (d : Recent) → (slice_index_or es at d).struck ≡ false
