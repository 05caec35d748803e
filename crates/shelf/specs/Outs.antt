-- When two outputs are the same.
use Rattle.std.specs.Prelude.{Bool, true, false}
use Rattle.shelf.specs.declared.shelves.Out.{Out}
use Rattle.shelf.specs.declared.shelves.Out.TheVariants.{Video, Sound, Image, Sums, State, Spc, Say}

abbrev pub same_out : Out → Out → Bool
same_out Video Video = true
same_out Sound Sound = true
same_out Image Image = true
same_out Sums Sums = true
same_out State State = true
same_out Spc Spc = true
same_out Say Say = true
same_out _ _ = false
