-- The frame that a `)` ends.
use Rattle.stab_parse.specs.declared.popped.Closing.{Closing}
use Rattle.stab_parse.specs.declared.popped.Closing.TheVariants as closing
use Rattle.stab_parse.specs.declared.frame.Frame.{Frame}
use Rattle.stab_parse.specs.declared.frame.Frame.TheVariants as frame

abbrev pub frame_of : Closing → Frame
frame_of (closing.Group at) = frame.Group at
frame_of (closing.Second at left) = frame.Second at left
frame_of (closing.Args callee depth before) = frame.Args callee depth before
frame_of (closing.One word at) = frame.One word at
frame_of (closing.TwoRight word at left) = frame.TwoRight word at left
